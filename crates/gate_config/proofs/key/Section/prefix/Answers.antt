use Rattle.std.proofs.Common.{rules}
use Rattle.gate_config.proofs.key.Section.prefix.Goals as goal

pub returns-in-Top : goal.returns-in-Top
returns-in-Top c = search rules

pub returns-in-Limit : goal.returns-in-Limit
returns-in-Limit c = search rules

pub returns-in-Window : goal.returns-in-Window
returns-in-Window c = search rules

pub returns-in-Class : goal.returns-in-Class
returns-in-Class c = search rules

pub returns-in-Resolver : goal.returns-in-Resolver
returns-in-Resolver c = search rules

pub returns-in-Bypass : goal.returns-in-Bypass
returns-in-Bypass c = search rules

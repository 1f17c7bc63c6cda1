use Rattle.std.proofs.Common.{rules}
use Rattle.gate_config.proofs.key.Key.name.Goals as goal

pub returns-in-Version : goal.returns-in-Version
returns-in-Version c = search rules

pub returns-in-Listen : goal.returns-in-Listen
returns-in-Listen c = search rules

pub returns-in-Backend : goal.returns-in-Backend
returns-in-Backend c = search rules

pub returns-in-Backlog : goal.returns-in-Backlog
returns-in-Backlog c = search rules

pub returns-in-Wait : goal.returns-in-Wait
returns-in-Wait c = search rules

pub returns-in-TimeoutMs : goal.returns-in-TimeoutMs
returns-in-TimeoutMs c = search rules

pub returns-in-Clients : goal.returns-in-Clients
returns-in-Clients c = search rules

pub returns-in-ClientIdleMs : goal.returns-in-ClientIdleMs
returns-in-ClientIdleMs c = search rules

pub returns-in-Backends : goal.returns-in-Backends
returns-in-Backends c = search rules

pub returns-in-BackendIdleMs : goal.returns-in-BackendIdleMs
returns-in-BackendIdleMs c = search rules

pub returns-in-BodiesMib : goal.returns-in-BodiesMib
returns-in-BodiesMib c = search rules

pub returns-in-Keep : goal.returns-in-Keep
returns-in-Keep c = search rules

pub returns-in-Promote : goal.returns-in-Promote
returns-in-Promote c = search rules

pub returns-in-Limit : goal.returns-in-Limit
returns-in-Limit c = search rules

pub returns-in-LimitKind : goal.returns-in-LimitKind
returns-in-LimitKind c = search rules

pub returns-in-LimitMin : goal.returns-in-LimitMin
returns-in-LimitMin c = search rules

pub returns-in-LimitMax : goal.returns-in-LimitMax
returns-in-LimitMax c = search rules

pub returns-in-LimitInitial : goal.returns-in-LimitInitial
returns-in-LimitInitial c = search rules

pub returns-in-LimitRatio : goal.returns-in-LimitRatio
returns-in-LimitRatio c = search rules

pub returns-in-LimitTimeoutUs : goal.returns-in-LimitTimeoutUs
returns-in-LimitTimeoutUs c = search rules

pub returns-in-LimitAlpha : goal.returns-in-LimitAlpha
returns-in-LimitAlpha c = search rules

pub returns-in-LimitBeta : goal.returns-in-LimitBeta
returns-in-LimitBeta c = search rules

pub returns-in-LimitProbeEvery : goal.returns-in-LimitProbeEvery
returns-in-LimitProbeEvery c = search rules

pub returns-in-Window : goal.returns-in-Window
returns-in-Window c = search rules

pub returns-in-WindowSize : goal.returns-in-WindowSize
returns-in-WindowSize c = search rules

pub returns-in-WindowMinUs : goal.returns-in-WindowMinUs
returns-in-WindowMinUs c = search rules

pub returns-in-WindowMaxUs : goal.returns-in-WindowMaxUs
returns-in-WindowMaxUs c = search rules

pub returns-in-WindowMinRttUs : goal.returns-in-WindowMinRttUs
returns-in-WindowMinRttUs c = search rules

pub returns-in-Class : goal.returns-in-Class
returns-in-Class c = search rules

pub returns-in-ClassName : goal.returns-in-ClassName
returns-in-ClassName c = search rules

pub returns-in-ClassPercent : goal.returns-in-ClassPercent
returns-in-ClassPercent c = search rules

pub returns-in-ClassShare : goal.returns-in-ClassShare
returns-in-ClassShare c = search rules

pub returns-in-ClassPlaces : goal.returns-in-ClassPlaces
returns-in-ClassPlaces c = search rules

pub returns-in-Resolver : goal.returns-in-Resolver
returns-in-Resolver c = search rules

pub returns-in-ResolverHeader : goal.returns-in-ResolverHeader
returns-in-ResolverHeader c = search rules

pub returns-in-ResolverMethod : goal.returns-in-ResolverMethod
returns-in-ResolverMethod c = search rules

pub returns-in-ResolverRoutes : goal.returns-in-ResolverRoutes
returns-in-ResolverRoutes c = search rules

pub returns-in-Bypass : goal.returns-in-Bypass
returns-in-Bypass c = search rules

pub returns-in-BypassPrefix : goal.returns-in-BypassPrefix
returns-in-BypassPrefix c = search rules

pub returns-in-BypassEquals : goal.returns-in-BypassEquals
returns-in-BypassEquals c = search rules

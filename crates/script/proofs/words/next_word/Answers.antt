use Rattle.std.proofs.Common.{rules}
use Rattle.std.proofs.lemmas.List.{take_rest}
use Rattle.script.proofs.Parts.{words_first}
use Rattle.script.proofs.words.next_word.Goals as goal

pub returns-clause-first : goal.returns-clause-first
returns-clause-first c = search (rules, words_first, take_rest)

use Rattle.std.proofs.lemmas.List.{take_rest}
use Rattle.script.proofs.Parts.{words_spaces, word_after_spaces}
use Rattle.script.proofs.words.without_spaces.Goals as goal

pub returns-clause-words : goal.returns-clause-words
returns-clause-words c =
    rw (take_rest c.args.line.now c.spaces_before.result, c.spaces_before.ensures.value)
    (words_spaces c.args.line.now)

pub returns-clause-starts : goal.returns-clause-starts
returns-clause-starts c =
    rw (take_rest c.args.line.now c.spaces_before.result, c.spaces_before.ensures.value)
    (word_after_spaces c.args.line.now)

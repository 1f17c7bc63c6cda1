use Rattle.std.proofs.Common.{rules, ◌≡◌, option_map, string_bytes}
use Rattle.script.specs.Words.{words}
use Rattle.line_explain.specs.Named.{number_at, shown_as}
use Rattle.line_explain.proofs.Naming.{names_word}
use Rattle.line_explain.proofs.explain.explained.Goals as goal

pub returns : goal.returns
returns c =
    let found = option_map (λ word. word.now) c.word_at.result in
    let counted : c.saturating_add.result ≡ number_at c.in_ok-place.place = search rules in
    let shows : c.deref.result.now ≡ shown_as found c.in_ok-word.ensures.0 = search rules in
    names_word c.args.faulty.kind c.args.faulty.why (words c.args.faulty.line.now)
    c.in_ok-place.place c.saturating_add.result found c.in_ok-word.ensures.0 c.deref.result.now
    c.deref-2.result.now (string_bytes c.new-said.result) (string_bytes c.push_line.new.out)
    c.in_ok-place.ensures counted c.word_at.ensures shows (search rules) c.in_ok-push_line.ensures

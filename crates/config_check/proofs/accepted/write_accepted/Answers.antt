use Rattle.std.proofs.Common.{rules, ◌≡◌, sym, subst, ℕ, Option, OnOk, length, decimal}
use Rattle.counted_io.specs.Effects.{Wrote}
use Rattle.limit_kinds.specs.AnyKinds.{any_kind, any_limit, any_rules}
use Rattle.limit_kinds.specs.Kinds.{kind_word}
use Rattle.config_check.specs.Accepted.{accepted_by}
use Rattle.config_check.proofs.accepted.write_accepted.Goals as goal

-- the settings were made for this number
pub returns-clause-all : goal.returns-clause-all
returns-clause-all g c =
    let s = c.args.settings.now in
    let kind : c.word-2.result.now ≡ kind_word (any_kind s.limit) = search rules in
    let initial : c.format-2.result.now ≡ decimal (any_limit s.limit) = search rules in
    let classes : c.format-3.result.now ≡ decimal (length s.table) = search rules in
    let resolvers : c.format-4.result.now ≡ decimal (length s.rules.resolvers) = search rules in
    let bypass : c.format-5.result.now ≡ decimal (length s.rules.bypass) = search rules in
    let backlog : c.format-6.result.now ≡ decimal s.backlog = search rules in
    let number : c.format-7.result.now ≡ decimal c.in-Some.n = search rules in
    let greatest : c.format-8.result.now ≡ decimal (any_rules.hi s.limit) = search rules in
    subst (λ (exchanges : Option ℕ). OnOk c.write_line-2.result
    (Wrote g.W.Write.contents c.args.writer.now c.write_line-2.new.writer
    (accepted_by c.args.settings.now exchanges)))
    (sym c.in-Some.is)
    (rw (← kind, ← initial, ← classes, ← resolvers, ← bypass, ← backlog, ← number, ← greatest)
    c.write_line-2.ensures.all)

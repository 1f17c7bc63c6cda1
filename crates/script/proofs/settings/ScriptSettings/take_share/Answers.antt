use Rattle.std.proofs.Common.{rules, arith, ℕ, ◌≡◌, ◌∙◌, sym, ap, subst, List, [], ◌∷◌, ◌++◌, Option, Some, Bor}
use Rattle.std.specs.Prelude.{IfSome}
use Rattle.partitions.specs.Table.{Row, placed, unplaced}
use Rattle.partitions.specs.Faults.{given}
use Rattle.script.proofs.PlacedRows.{made_is, unplaced-push, placed-push, keeps_backlog}
use Rattle.script.proofs.settings.ScriptSettings.take_share.Goals as goal

pub returns-in_default-clause-answer : goal.returns-in_default-clause-answer
returns-in_default-clause-answer c = search rules

pub returns-in_default-clause-memory : goal.returns-in_default-clause-memory
returns-in_default-clause-memory c = search rules

pub invariant_of-self : goal.invariant_of-self
invariant_of-self c = search rules

pub invariant_of-self-in-Some : goal.invariant_of-self-in-Some
invariant_of-self-in-Some c =
    let old = c.self.inside.table in
    let row : Row =
    record { name = c.args.name.now; thousandths = c.in-Ok.thousandths; places = 0 } in
    let made = made_is (given c.self.inside.rows.items ++ row ∷ []) c.in-Some.table
    (sym c.in_ok-table.ensures.table ∙ c.in-Some.is) in
    let begins = made ∙ ap (λ (rows : List Row). rows ++ row ∷ []) c.self.invariant.0 in
    let grown = c.take_places.ensures (row ∷ []) begins in
    let same = ap placed grown ∙ placed-push old row in (
      sym (taken_rows c.in_ok-table.field-0 c.in-Some.table c.push_row.new.rows.items
          c.in-Some.is c.in_ok-table.ensures.taken)
          ∙ begins ∙ sym (unplaced-push old row) ∙ ap unplaced (sym grown),
      omega (arith, same, c.self.invariant.1),
      keeps_backlog c.self.inside.backlog old c.take_places.new.self same c.self.invariant.2,
      c.self.invariant.3,
    )
  where
    taken_rows : (made : Option (List Row)) (table : List Row) (rows : List (Bor (List ℕ) × ℕ))
        → made ≡ Some table → IfSome made (λ table. table ≡ given rows) → table ≡ given rows
    taken_rows made table rows is taken =
        subst (λ (o : Option (List Row)). IfSome o (λ table. table ≡ given rows)) is taken

pub invariant_of-self-in-None : goal.invariant_of-self-in-None
invariant_of-self-in-None c = search rules

pub returns-in_err-table-clause-answer : goal.returns-in_err-table-clause-answer
returns-in_err-table-clause-answer c = search rules

pub returns-in_err-table-clause-memory : goal.returns-in_err-table-clause-memory
returns-in_err-table-clause-memory c = search rules

pub returns-in-Some-clause-answer : goal.returns-in-Some-clause-answer
returns-in-Some-clause-answer c = search rules

pub returns-in-Some-clause-memory : goal.returns-in-Some-clause-memory
returns-in-Some-clause-memory c = search rules

pub returns-in-None-clause-answer : goal.returns-in-None-clause-answer
returns-in-None-clause-answer c = search rules

pub returns-in-None-clause-memory : goal.returns-in-None-clause-memory
returns-in-None-clause-memory c = search rules

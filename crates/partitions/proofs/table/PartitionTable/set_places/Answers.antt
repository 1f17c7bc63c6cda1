use Rattle.std.proofs.Common.{◌≡◌, ℕ, ◌∙◌, sym, ap, subst, arith, List, map, Option, Vec, Global}
use Rattle.std.proofs.lemmas.List.{length-map}
use Rattle.partitions.specs.Table.{Row, IsTable, with_places}
use Rattle.partitions.specs.Stored.{row_of, rows_of}
use Rattle.partitions.specs.declared.named_share.NamedShare.{NamedShare}
use Rattle.partitions.specs.declared.table.PartitionTable.TheInside.{Inside}
use Rattle.partitions.proofs.Placing.{table_stays, row_placed, none_placed}
use Rattle.partitions.proofs.table.PartitionTable.set_places.Goals.{in-Some+then-place-len, in-Some+else-place-len, in_default}
use Rattle.partitions.proofs.table.PartitionTable.set_places.Goals as goal

-- what is kept behind the call
placed_then : (c : goal.Joined-self) → rows_of c.match-self.self-inside.rows
    ≡ with_places (rows_of c.self.inside.rows) c.place-place.result c.args.places
placed_then c = elim c.match-self.branch [
  | in-Some+then-place-len w ↦
      ap (λ (kept : Inside). rows_of kept.rows) w.self-inside-is
      ∙ row_placed w.in-Some.rows.items c.place-place.result c.args.places
      (record w.index_mut.result.now { places = c.args.places }) w.index_mut.result.now
      (ap (λ (row : NamedShare). record (row_of row) { places = c.args.places })
      w.index_mut.ensures.value)
      ∙ ap (λ (kept : Option (Vec NamedShare Global)).
      with_places (rows_of kept) c.place-place.result c.args.places) (sym w.in-Some.is)
  | in-Some+else-place-len w ↦
      ap (λ (kept : Inside). rows_of kept.rows) w.self-inside-is
      ∙ sym (none_placed (map row_of w.in-Some.rows.items) c.place-place.result c.args.places
      (omega (arith, w.if-place-len.false, w.len.ensures, length-map w.in-Some.rows.items row_of)))
      ∙ ap (λ (kept : Option (Vec NamedShare Global)).
      with_places (rows_of kept) c.place-place.result c.args.places) (sym w.in-Some.is)
  | in_default w ↦
      ap (λ (kept : Inside). rows_of kept.rows) w.self-inside-is
      ∙ ap rows_of w.in_default.is
      ∙ ap (λ (kept : Option (Vec NamedShare Global)).
      with_places (rows_of kept) c.place-place.result c.args.places) (sym w.in_default.is)
]

pub invariant_of-self : goal.invariant_of-self
invariant_of-self c =
    subst IsTable (sym (placed_then c))
    (table_stays (rows_of c.self.inside.rows) c.place-place.result c.args.places c.self.invariant)

pub returns : goal.returns
returns c =
    placed_then c
    ∙ ap (λ (rows : List Row). with_places rows c.place-place.result c.args.places) c.self.view_is
    ∙ ap (λ (place : ℕ). with_places c.args.self.now place c.args.places)
    c.place-place.ensures.place

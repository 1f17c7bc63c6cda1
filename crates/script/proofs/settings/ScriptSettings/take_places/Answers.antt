use Rattle.std.proofs.Common.{arith, ◌+◌, ◌∙◌, sym, ap, unwrap_or}
use Rattle.partitions.specs.Table.{place_of, placed, unplaced}
use Rattle.script.specs.Settings.{SettingFacts}
use Rattle.script.proofs.PlacedRows.{unplaced-places, placed-places, fits_backlog}
use Rattle.script.proofs.settings.ScriptSettings.take_places.Goals as goal

pub invariant_of-self : goal.invariant_of-self
invariant_of-self c =
    let old = c.self.inside.table in
    let place = place_of old c.in-Some-part.part in
    let few = placed-places old place c.args.places in
    let more = ap placed c.set_places.ensures in
    let whole = ap
    (λ (s : SettingFacts). c.places_left.result + (placed s.rows + unwrap_or s.backlog 0))
    c.self.view_is
    ∙ c.places_left.ensures in (
      c.self.invariant.0 ∙ sym (unplaced-places old place c.args.places)
          ∙ ap unplaced (sym c.set_places.ensures),
      omega (
        arith,
        few,
        more,
        whole,
        c.if-places-places_left.false,
      ),
      fits_backlog c.self.inside.backlog old c.set_places.new.self c.places_left.result
          c.args.places (omega (arith, few, more)) c.if-places-places_left.false whole,
      c.self.invariant.3,
    )

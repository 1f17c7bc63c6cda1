use Rattle.std.proofs.Common.{ℕ, ◌≡◌, ◌∙◌, ap, slice_index}
use Rattle.lifo_backlog.specs.Sharing.{waiting_at, has_place}
use Rattle.limiter_core.proofs.state.State.has_place.Goals as goal

pub returns : goal.returns
returns g c =
    let s = c.args.self.now in
    let counted : (λ (p : ℕ). slice_index s.queued.counts p)
    ≡ waiting_at s.table s.backlog.waiting =
    λ k p. c.requires.queued.1 p k in
    c.has_place.ensures
    ∙ ap (λ (room : ℕ). has_place s.table room (λ p. slice_index s.queued.counts p) c.args.place)
    c.room.ensures.room
    ∙ ap (λ (waiting : ℕ → ℕ). has_place s.table s.backlog.room waiting c.args.place) counted

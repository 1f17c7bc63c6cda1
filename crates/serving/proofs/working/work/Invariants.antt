use Rattle.std.proofs.Common.{◌≡◌, ◌+◌, ℕ, List, Option, true, false}
use Rattle.serving.specs.Served.{back_of, policy_of}
use Rattle.serving.specs.Turns.{place_of}
use Rattle.serving.proofs.TakenTurns.{Took}
use Rattle.serving.proofs.working.work.Given as goal

-- so many turns so far
abbrev pub invariant-loop-turn : goal.invariant-loop-turn
invariant-loop-turn g l = record {
  took : Took (policy_of l.common.settings.now l.common.marks)
      (g.A.Accepts.came l.fn.door) l.turn
      (place_of g.A.Accepts.given g.A.Accepts.failed g.A.Accepts.closed g.A.Accepts.visits
      g.A.Accepts.roll
      (back_of g.P.GatePort.shown g.P.GatePort.known g.B.Backend.forwarded g.B.Backend.shown)
      l.fn.door l.fn.exchanger.port l.fn.exchanger.backend)
      (place_of g.A.Accepts.given g.A.Accepts.failed g.A.Accepts.closed g.A.Accepts.visits
      g.A.Accepts.roll
      (back_of g.P.GatePort.shown g.P.GatePort.known g.B.Backend.forwarded g.B.Backend.shown)
      l.door l.exchanger.port l.exchanger.backend)
      l.tally;
  turns : l.tally.accepted + l.tally.unaccepted ≡ l.turn;
  same : (sent : Option (List ℕ)) → g.A.Accepts.came l.door sent → g.A.Accepts.came l.fn.door sent;
  shut : g.A.Accepts.closed l.door ≡ true → g.A.Accepts.closed l.fn.door ≡ false
      → g.A.Accepts.shut l.fn.door;
  same_shut : g.A.Accepts.shut l.door → g.A.Accepts.shut l.fn.door;
  source : g.A.Accepts.source l.door ≡ g.A.Accepts.source l.fn.door;
}

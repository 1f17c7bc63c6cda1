-- What a worker of a gateway did.
use Rattle.std.specs.Prelude.{ℕ, Bool, false, List, [], ◌∷◌, map, Option, Some, None}
use Rattle.listening.specs.Accepted.{token_of}
use Rattle.client_tokens.specs.Roll.{Roll, both, nobody}
use Rattle.gate_ledgers.specs.Making.{Making}
use Rattle.gate_port.specs.Log.{Known}
use Rattle.shared_gate.specs.Calls.{Pass, pass_of}
use Rattle.handling.specs.declared.door.Door.{Door}
use Rattle.handling.specs.Doors.{counted_in}
use Rattle.proxy.specs.Exchanges.{Policy}
use Rattle.serving.specs.declared.working.TurnCounts.{TurnCounts}
use Rattle.ports.specs.Asked.{Shared, known_at}
use Rattle.serving.specs.Turns.{IsRun, Place, Turn, came_in, left_in}
use Rattle.serving.specs.declared.jobs.JobResult.{JobResult}
use Rattle.serving.specs.declared.jobs.JobResult.TheVariants as left
use Rattle.serving.specs.Workers.{IsTallied, ended_in}
pub use Rattle.gate_opening.specs.Counting.{AreEnded, calls_told}

-- where a worker stands: by the counts of its door and of its backend, of which sockets show
-- nothing more, by the roll of its token, and by what its port knows of the gate
abbrev pub stood_at : ℕ → ℕ → Bool → Option Roll → ℕ → Known → Place
stood_at given failed closed roll forwarded known = record {
  given = given;
  failed = failed;
  closed = closed;
  visits = None;
  roll = roll;
  back = record { shown = None; known = Some known; count = forwarded; log = None };
}

-- RAN: by this policy a worker took its turns, as they are tallied, from where its pass knew
-- nothing to what that knows now; each client came where they are to come, and for each there was
-- one exchange. It ended before all were taken only where it was shut
pub record HasRunTo (m : Making) (p : Policy) (Came : Option (List ℕ) → Type 0) (Shut : Type 0)
    (most : ℕ) (pass : Pass) : Type 0 where
  pub given : ℕ
  pub failed : ℕ
  pub closed : Bool
  pub roll : Option Roll
  pub forwarded : ℕ
  pub reached : ℕ
  pub tally : TurnCounts
  pub run : IsRun p Came Shut most
      (stood_at 0 0 false (Some nobody) 0 (known_at m (pass_of 0) 0))
      (stood_at given failed closed roll forwarded (known_at m pass reached)) tally
  pub tallied : IsTallied given failed closed forwarded most tally

-- the clients of turns, as they came and as they were left
abbrev pub roll_in : List Turn → Roll
roll_in turns = record { came = came_in turns; left = left_in turns }

-- and those of the turns of several workers, one behind the other
abbrev pub roll_by : List (List Turn) → Roll
roll_by [] = nobody
roll_by (turns ∷ others) = both (roll_in turns) (roll_by others)

-- two rolls together, where both are known
abbrev pub joined : Option Roll → Option Roll → Option Roll
joined (Some first) (Some second) = Some (both first second)
joined first second = None

abbrev pub all_joined : List (Option Roll) → Option Roll
all_joined [] = Some nobody
all_joined (roll ∷ rolls) = joined roll (all_joined rolls)

-- the rolls of the tokens that workers leave, as a listener has them
abbrev pub rolls_left : {L K N P B D : Type 0} → (L → K → Option Roll) → L
    → List (JobResult (Door L K N) P B D) → List (Option Roll)
rolls_left roll listener lefts =
    map (λ ended. roll listener (token_of (counted_in ended.door))) (ended_in lefts)

-- the passes of the workers
abbrev pub served_by : {A B M : Type 0} → List (JobResult A (Shared M) B Pass) → List Pass
served_by lefts = map (λ ended. ended.port.pass) (ended_in lefts)

-- and with them those of whoever was served beside them, each in its place
abbrev pub passes_in : {A B M : Type 0} → List (JobResult A (Shared M) B Pass) → List Pass
passes_in [] = []
passes_in (left.SideTask pass ∷ lefts) = pass ∷ passes_in lefts
passes_in (left.Worked ended ∷ lefts) = ended.port.pass ∷ passes_in lefts

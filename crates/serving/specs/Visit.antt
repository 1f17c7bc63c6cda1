-- The visit of one client: its exchanges, one behind the other over one connection.
use Rattle.std.specs.Prelude.{◌≡◌, ℕ, true, List, [], ◌∷◌, length, Result, Ok, Some}
use Rattle.std.specs.List.{AllZip}
use Rattle.message_parts.specs.declared.request.Request.{Request}
use Rattle.wire.specs.declared.fault.WireFault.{WireFault}
use Rattle.wire.specs.Messages.{IsRequest}
use Rattle.handling.specs.Visits.{Client}
use Rattle.proxy.specs.declared.told.Exchange.{Exchange}
use Rattle.proxy.specs.Exchanges.{Policy}
use Rattle.proxy.specs.Made.{is_kept}
use Rattle.serving.specs.Served.{Back, IsServed, policy_for}

-- an exchange of a client: as that came and as it was left, what stood behind the worker, and what
-- is told
pub record Step (p : Policy) : Type 0 where
  pub before : Client
  pub behind : Client
  pub old : Back
  pub new : Back
  pub told : Exchange
  pub served : IsServed (policy_for p before.is_kept) before.sent before.written behind.sent
      behind.written old new told

-- what it read
abbrev pub read_by : {p : Policy} → Step p → Result Request WireFault
read_by step = step.served.exchanged.read

-- A VISIT from one moment to another: behind each of its exchanges the client was kept, and it came
-- to the next one with what it had yet to send, by whichever worker
abbrev pub IsVisit : {p : Policy} → Client → List (Step p) → Client → Type 0
IsVisit first [] last = last.sent ≡ first.sent
IsVisit first (step ∷ steps) last =
    (step.before.sent ≡ first.sent) × (is_kept step.told ≡ true) × IsVisit step.behind steps last

-- bytes that begin with these requests, one behind the other, and then the rest
abbrev pub AreCut : List ℕ → List Request → List ℕ → Type 0
AreCut bytes [] rest = rest ≡ bytes
AreCut bytes (request ∷ requests) rest =
    (mid : List ℕ) × IsRequest bytes (Ok (request, mid)) × AreCut mid requests rest

-- what a client sent, its visit's exchanges have read once, without a gap: the k-th read the k-th
-- request of these bytes, and the client has yet to send what comes behind the last one
pub record IsReadOnce {p : Policy} (bytes : List ℕ) (steps : List (Step p)) (last : Client)
    : Type 0 where
  pub requests : List Request
  pub rest : List ℕ
  pub cut : AreCut bytes requests rest
  pub each : AllZip (λ step request. read_by step ≡ Ok request) steps requests
  pub left : last.sent ≡ Some rest

abbrev pub VisitsReadOnce : Type 0
VisitsReadOnce = (p : Policy) (first last : Client) (steps : List (Step p)) (bytes : List ℕ)
    → IsVisit first steps last → first.sent ≡ Some bytes → IsReadOnce bytes steps last

-- bytes are cut into so many requests in one way at most
abbrev pub CutsAreOne : Type 0
CutsAreOne = (bytes : List ℕ) (requests others : List Request) (rest left : List ℕ)
    → AreCut bytes requests rest → AreCut bytes others left → length requests ≡ length others
    → (requests ≡ others) × (rest ≡ left)

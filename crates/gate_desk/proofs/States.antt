-- What was served at a desk, told by what stands there.
use Rattle.std.proofs.Common.{◌≡◌, ◌∙◌, ap, inl, inr, ℕ, Bool, true, List, Option, Result, Ok, Err, subst}
use Rattle.std.specs.Prelude.{⊤}
use Rattle.counted_io.specs.declared.counted.Counted.{Counted}
use Rattle.limit_laws.specs.Algorithm.{Algorithm}
use Rattle.limit_laws.specs.declared.limit.Limit.{Ghosts as LimitGhosts}
use Rattle.partitions.specs.Table.{Row}
use Rattle.gate_ledgers.specs.Making.{Making}
use Rattle.shared_gate.specs.declared.naming.GateNaming.{Ghosts as NamingGhosts}
use Rattle.shared_gate.specs.Calls.{Pass}
use Rattle.message_parts.specs.declared.request.Request.{Request}
use Rattle.wire.specs.declared.fault.WireFault.{WireFault}
use Rattle.proxy.specs.Exchanges.{Bytes, known}
use Rattle.proxy.specs.Made.{counted_with}
use Rattle.operator_calls.specs.declared.audience.Audience.{Audience}
use Rattle.operator_calls.specs.declared.call.Call.{Call}
use Rattle.operator_calls.specs.declared.call.Call.TheVariants as call
use Rattle.operator_calls.specs.declared.call.Change.{Change}
use Rattle.operator_calls.specs.declared.call.Change.TheVariants as change
use Rattle.operator_calls.specs.declared.call.Look.{Look}
use Rattle.operator_calls.specs.declared.call.Look.TheVariants as look
use Rattle.operator_calls.specs.declared.refusal.Refusal.{Refusal}
use Rattle.operator_calls.specs.Calls.{call_of, heard}
use Rattle.operator_serving.specs.declared.attending.Attended.{Attended}
use Rattle.operator_serving.specs.Attending.{AreServed, Deals, IsAnswered, IsServed, IsUnanswered}
use Rattle.operator_serving.specs.Attending.AreServed.{nobody, none_more, one_more}
use Rattle.operator_serving.specs.Attended.{writes_of}
use Rattle.operator_serving.specs.Desk.{AreLooks, AreLooks as looks, Deed, HasLooked, Sight}
use Rattle.operator_serving.specs.Stands.{Stand, stand}
use Rattle.operator_serving.specs.Telling.{IsCarriedOut, Shows, Tells}
use Rattle.operator_serving.specs.Words.{Words}
use Rattle.gate_desk.specs.declared.desk.GateDesk.{GateDesk}
use Rattle.gate_desk.specs.Desk.{DoneBy, IsDone, ShownBy}
use Rattle.gate_desk.specs.Listeners.{is_shut}
use Rattle.gate_desk.specs.Operator.{IsSeen}
use Rattle.gate_desk.specs.State.{DeskState, state_of}

-- what stands at a desk, by its parts
abbrev pub standing : {L : Type 0} → List Row → Pass → L → Bool → DeskState L
standing rows pass front shut =
    record { rows = rows; pass = pass; front = front; shut = shut }

-- a desk whose listener was closed, and is the same
pub closed_there : {L : Type 0} (rows : List Row) (pass : Pass) (front front' : L)
    (shut : Bool) → front' ≡ front → shut ≡ true
    → standing rows pass front' shut ≡ standing rows pass front true
closed_there {L} rows pass front front' shut same is =
    ap (λ (f : L). standing rows pass f shut) same
    ∙ ap (λ (b : Bool). standing rows pass front b) is

abbrev rows_of : {L : Type 0} → DeskState L → List Row
rows_of desk = desk.rows

module _ {S L : Type 0} (G M R C W : Type 0) (g : LimitGhosts G) (m : NamingGhosts M)
    (rules : Algorithm S) (made : Making) (closed : L → Type 0) (page : List ℕ) where
  abbrev Desk : Type 0
  Desk = GateDesk G M R L C W g m

  abbrev rows : Desk → List Row
  rows desk = desk.table

  abbrev shows : Desk → Sight → Type 0
  shows desk sight = ShownBy (is_shut desk.front) sight

  abbrev does : Desk → Desk → Deed → Type 0
  does = DoneBy rules made closed

  abbrev done : DeskState L → DeskState L → Deed → Type 0
  done = IsDone rules made closed

  has_looked : (old new : Desk) → HasLooked does old new
      → HasLooked done (state_of old) (state_of new)
  has_looked old new looked =
      elim looked [
        | inl same ↦ inl (ap (λ (desk : Desk). state_of desk) same)
        | inr told ↦ inr (told.0, told.1.0)
      ]

  pub looks_of : (old new : Desk) → AreLooks does old new
      → AreLooks done (state_of old) (state_of new)
  looks_of _ _ (looks.none desk) = looks.none (state_of desk)
  looks_of _ _ (looks.one_more old mid new before looked) =
      looks.one_more (state_of old) (state_of mid) (state_of new) (looks_of old mid before)
      (has_looked mid new looked)

  shown : (it : Look) (old new : Desk) (told : Words)
      → Shows rows shows does page it old new told
      → Shows rows_of IsSeen done page it (state_of old) (state_of new) told
  shown look.Page old new told is = (ap (λ (desk : Desk). state_of desk) is.0, is.1)
  shown look.Metrics old new told is = (is.0, is.1, is.2.0, is.3, is.4)
  shown look.Health old new told is =
      (ap (λ (desk : Desk). state_of desk) is.0, is.1, is.2, is.3, is.4, is.5)
  shown look.DeepHealth old new told is =
      (ap (λ (desk : Desk). state_of desk) is.0, is.1, is.2, is.3, is.4, is.5)

  carried_out : (it : Change) (old new : Desk) (told : Words) → IsCarriedOut does it old new told
      → IsCarriedOut done it (state_of old) (state_of new) told
  carried_out (change.SetLimit n) old new told is = (is.0, is.1.0, is.2)
  carried_out change.Reset old new told is = (is.0, is.1.0, is.2)
  carried_out change.Drain old new told is = (is.0.0, is.1)
  carried_out (change.DrainAfter n) old new told is = (is.0.0, is.1)

  tells : (asked : Result Call Refusal) (old new : Desk) (told : Words)
      → Tells rows shows does page asked old new told
      → Tells rows_of IsSeen done page asked (state_of old) (state_of new) told
  tells (Err why) old new told is = (ap (λ (desk : Desk). state_of desk) is.0, is.1)
  tells (Ok (call.Look it)) old new told is = shown it old new told is
  tells (Ok (call.Change it)) old new told is = carried_out it old new told is

  unanswered : (asked : Result Call Refusal) (old new : Desk) → IsUnanswered does asked old new
      → IsUnanswered done asked (state_of old) (state_of new)
  unanswered (Err why) old new is = ap (λ (desk : Desk). state_of desk) is
  unanswered (Ok (call.Look it)) old new is = has_looked old new is
  unanswered (Ok (call.Change it)) old new is = ap (λ (desk : Desk). state_of desk) is

  answered : {X : Type 0} (contents : X → Option (List ℕ)) (asked : Result Call Refusal)
      (method : List ℕ) (old new : Desk) (writer writer' : Counted X)
      (refused refused' status : ℕ) (is_written : Bool)
      → IsAnswered rows shows does contents page asked method old new writer writer' refused
      refused' status is_written
      → IsAnswered rows_of IsSeen done contents page asked method (state_of old) (state_of new)
      writer writer' refused refused' status is_written
  answered contents asked method old new writer writer' refused refused' status is_written is =
      elim is [
        | inl told ↦ inl (told.0, tells asked old new told.0 told.1, told.2, told.3, told.4)
        | inr none ↦ inr (unanswered asked old new none.0, none.1)
      ]

  deals : (left : Bool → Type 0) (audience : Audience) (old new : Desk)
      (asked writer : Counted Bytes) (refused refused' : ℕ) (read : Result Request WireFault)
      (x : Attended)
      → Deals rows shows does left audience page old new asked writer refused refused' read x
      → Deals rows_of IsSeen done left audience page (state_of old) (state_of new) asked writer
      refused refused' read x
  deals left audience old new asked writer refused refused' (Err f) x is =
      (is.0, ap (λ (desk : Desk). state_of desk) is.1, is.2, is.3, is.4)
  deals left audience old new asked writer refused refused' (Ok request) x is = (
    is.0,
    is.1,
    is.2,
    is.3,
    is.4,
    answered known (heard is.3 (call_of audience request)) request.method old new asked writer
        refused refused' is.1 x.is_written is.5,
  )

  served : (audience : Audience) (sent unwritten written : Bytes) (old new : Desk)
      (refused refused' : ℕ) (x : Attended)
      → IsServed rows shows does audience page sent unwritten written old new refused refused' x
      → IsServed rows_of IsSeen done audience page sent unwritten written (state_of old)
      (state_of new) refused refused' x
  served audience sent unwritten written old new refused refused' x is = record {
    left = is.left;
    given = is.given;
    attended = record {
      read = is.attended.read;
      asked = is.attended.asked;
      reading = is.attended.reading;
      deals = deals (λ _. ⊤) audience old new is.attended.asked
          (counted_with is.given (writes_of x)) refused refused' is.attended.read x
          is.attended.deals;
    };
    broken = is.broken;
    held = is.held;
    ended = is.ended;
    sent_all = is.sent_all;
  }

  abbrev state_at : Stand Desk → Stand (DeskState L)
  state_at at = stand (state_of at.desk) at.given at.failed at.refused

  pub served_of : (came : Bytes → Type 0) (audience : Audience) (old new : Stand Desk)
      → AreServed rows shows does came audience page old new
      → AreServed rows_of IsSeen done came audience page (state_at old) (state_at new)
  served_of came audience _ _ (nobody at) = nobody (state_at at)
  served_of came audience _ _ (none_more old mid before) =
      none_more (state_at old) (state_at mid) (served_of came audience old mid before)
  served_of came audience _ _
      (one_more old mid new refused sent unwritten written told before has_come nothing is) =
      one_more (state_at old) (state_at mid) (state_of new) refused sent unwritten written told
      (served_of came audience old mid before) has_come nothing
      (served audience sent unwritten written mid.desk new mid.refused refused told is)

-- served from a door that had given nobody, to a listener, and by memory that wasn't refused
pub from_nothing : {L : Type 0} (does : DeskState L → DeskState L → Deed → Type 0)
    (came : L → Bytes → Type 0) (audience : Audience) (page : List ℕ) (desk : DeskState L)
    (end : Stand (DeskState L)) {at there : L} {given failed refused : ℕ} → there ≡ at
    → given ≡ 0 → failed ≡ 0 → refused ≡ 0
    → AreServed rows_of IsSeen does (came there) audience page (stand desk given failed refused)
    end
    → AreServed rows_of IsSeen does (came at) audience page (stand desk 0 0 0) end
from_nothing {L} does came audience page desk end {at} {there} {given} {failed} {refused} same none
    no_miss no_memory served =
    subst (λ (l : L). AreServed rows_of IsSeen does (came l) audience page (stand desk 0 0 0) end)
    same
    (subst (λ (n : ℕ). AreServed rows_of IsSeen does (came there) audience page
    (stand desk n 0 0) end) none
    (subst (λ (n : ℕ). AreServed rows_of IsSeen does (came there) audience page
    (stand desk given n 0) end) no_miss
    (subst (λ (n : ℕ). AreServed rows_of IsSeen does (came there) audience page
    (stand desk given failed n) end) no_memory served)))

-- A call that changes nothing leaves the desk as it is, but for what was looked at.
use Rattle.std.proofs.Common.{inl, inr, ℕ, Bool, true, false, List, Option, Result, Ok, Err, IfOk}
use Rattle.counted_io.specs.declared.counted.Counted.{Counted}
use Rattle.partitions.specs.Table.{Row}
use Rattle.operator_calls.specs.declared.call.Call.{Call}
use Rattle.operator_calls.specs.declared.call.Call.TheVariants as call
use Rattle.operator_calls.specs.declared.call.Look.{Look}
use Rattle.operator_calls.specs.declared.call.Look.TheVariants as look
use Rattle.operator_calls.specs.declared.refusal.Refusal.{Refusal}
use Rattle.operator_calls.specs.Calls.{IsLook, heard}
use Rattle.operator_serving.specs.Attending.{IsAnswered, IsUnanswered}
use Rattle.operator_serving.specs.Desk.{Deed, HasLooked, Sight}
use Rattle.operator_serving.specs.Telling.{Shows, Tells}
use Rattle.operator_serving.specs.Words.{Words}

module _ {D : Type 0} (rows : D → List Row) (shows : D → Sight → Type 0)
    (does : D → D → Deed → Type 0) (page : List ℕ) (old new : D) where
  -- what a look tells
  pub shown : (it : Look) (told : Words) → Shows rows shows does page it old new told
      → HasLooked does old new
  shown look.Page told shows = inl shows.0
  shown look.Metrics told shows = inr (shows.0, shows.2)
  shown look.Health told shows = inl shows.0
  shown look.DeepHealth told shows = inl shows.0

  -- what is told of a call that looks, or of a refusal
  looked : (left : Bool) (asked : Result Call Refusal) (told : Words) → IfOk asked IsLook
      → Tells rows shows does page (heard left asked) old new told → HasLooked does old new
  looked true (Err why) told looks tells = inl tells.0
  looked false (Err why) told looks tells = inl tells.0
  looked true (Ok (call.Look it)) told looks tells = shown it told tells
  looked false (Ok (call.Look it)) told looks tells = shown it told tells
  looked left (Ok (call.Change it)) told looks tells = absurd looks

  -- or that there was no memory
  unanswered : (left : Bool) (asked : Result Call Refusal) → IfOk asked IsLook
      → IsUnanswered does (heard left asked) old new → HasLooked does old new
  unanswered true (Err why) looks same = inl same
  unanswered false (Err why) looks same = inl same
  unanswered true (Ok (call.Look it)) looks has = has
  unanswered false (Ok (call.Look it)) looks has = has
  unanswered left (Ok (call.Change it)) looks same = absurd looks

  pub desk_stays : {W : Type 0} (contents : W → Option (List ℕ)) (method : List ℕ) (left : Bool)
      (asked : Result Call Refusal) (writer writer' : Counted W) (refused refused' status : ℕ)
      (is_written : Bool) → IfOk asked IsLook
      → IsAnswered rows shows does contents page (heard left asked) method old new writer writer'
      refused refused' status is_written → HasLooked does old new
  desk_stays contents method left asked writer writer' refused refused' status is_written looks
      answered =
      elim answered [
        | inl told ↦ looked left asked told.0 looks told.1
        | inr none ↦ unanswered left asked looks none.0
      ]

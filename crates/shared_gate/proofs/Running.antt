-- The calls of passes that know beginnings of one log.
use Rattle.std.proofs.Common.{◌≡◌, ℕ, zero, suc, ◌≤◌, List, [], ◌∷◌, Some, length, map}
use Rattle.std.proofs.Common.{take, drop, sym, ap, ◌∙◌, subst, arith}
use Rattle.std.specs.Prelude.{slice_get}
use Rattle.std.proofs.lemmas.Option.{none-some, same_Some}
use mathlib.Core.List.{IsPrefix}
use Rattle.limiter_core.specs.declared.event.Event.{Event}
use Rattle.limiter_core.specs.declared.event.Entry.{Entry}
use Rattle.limiter_core.specs.declared.event.Entry.TheVariants as entry
use Rattle.limiter_core.specs.History.{Gate}
use Rattle.limiter_core.specs.Legal.{IsLegal}
use Rattle.limiter_core.specs.Laws.{TurnsAwayRightly}
use Rattle.gate_ledgers.specs.Receipt.{Told}
use Rattle.audit.specs.Accepted.{NumbersRise}
use Rattle.audit.specs.Receipts.{IsOfCall}
use Rattle.shared_gate.specs.Calls.{IsTold}
use Rattle.shared_gate.specs.Running.{AreCallsOf, Call, RunningIsOneThreads}
use Rattle.lemmas.proofs.Lists.{prefix_length, prefix_trans}
use Rattle.shared_gate.proofs.Beginnings.{at_seam, prefix_get}
use Rattle.shared_gate.proofs.Sequential.{cut, is_sequential}

abbrev receipts : List Call → List Told
receipts calls = map (λ (call : Call). call.receipt) calls

-- what a pass knew begins what it knows
grown : (call : Call) → IsTold call.before call.after call.receipt.event call.receipt
    → IsPrefix call.before.log call.after.log
grown call told =
    prefix_trans call.before.log told.found call.after.log told.begins
    (entry.Call call.receipt.event call.receipt.reply ∷ told.promoted, sym told.stands)

-- so the log begins with all that it knew
begins : (known : List Entry) (calls : List Call) (log : List Entry) → AreCallsOf known calls log
    → IsPrefix known log
begins known [] log are = are
begins known (call ∷ calls) log are =
    prefix_trans known call.before.log log are.0
    (prefix_trans call.before.log call.after.log log (grown call are.1)
    (begins call.after.log calls log are.2))

stands : (known : List Entry) (calls : List Call) (log : List Entry) → AreCallsOf known calls log
    → (place : ℕ) (call : Call) → slice_get calls place ≡ Some call → IsOfCall log call.receipt
stands known [] log are place call here = absurd (none-some call here)
stands known (first ∷ calls) log are zero call here =
    let told = are.1 in
    let r = first.receipt in
    let own : slice_get first.after.log r.number ≡ Some (entry.Call r.event r.reply) =
    subst (λ (h : List Entry). slice_get h r.number ≡ Some (entry.Call r.event r.reply))
    (sym told.stands)
    (at_seam told.found (entry.Call r.event r.reply) told.promoted r.number told.number) in
    subst (λ (it : Call). IsOfCall log it.receipt) (same_Some first call here)
    (prefix_get first.after.log log r.number (entry.Call r.event r.reply)
    (begins first.after.log calls log are.2) own)
stands known (first ∷ calls) log are (suc place) call here =
    stands first.after.log calls log are.2 place call here

-- no receipt has a number that the pass knew of
above : (known : List Entry) (calls : List Call) (log : List Entry) → AreCallsOf known calls log
    → (place : ℕ) (receipt : Told) → slice_get (receipts calls) place ≡ Some receipt
    → length known ≤ receipt.number
above known [] log are place receipt here = absurd (none-some receipt here)
above known (call ∷ calls) log are zero receipt here =
    omega (
      arith,
      prefix_length known call.before.log are.0,
      are.1.unseen,
      ap (λ (t : Told). t.number) (same_Some call.receipt receipt here),
    )
above known (call ∷ calls) log are (suc place) receipt here =
    omega (
      arith,
      prefix_length known call.before.log are.0,
      are.1.unseen,
      are.1.seen,
      above call.after.log calls log are.2 place receipt here,
    )

rises : (known : List Entry) (calls : List Call) (log : List Entry) → AreCallsOf known calls log
    → NumbersRise (receipts calls)
rises known [] log are place later one other less here there = absurd (none-some one here)
rises known (call ∷ calls) log are place zero one other less here there =
    absurd (omega (arith, less))
rises known (call ∷ calls) log are zero (suc later) one other less here there =
    omega (
      arith,
      are.1.seen,
      ap (λ (t : Told). t.number) (same_Some call.receipt one here),
      above call.after.log calls log are.2 later other there,
    )
rises known (call ∷ calls) log are (suc place) (suc later) one other less here there =
    rises call.after.log calls log are.2 place later one other (omega (arith, less)) here there

pub running_is_one_threads : {S : Type 0} (g : Gate S) → TurnsAwayRightly g
    → RunningIsOneThreads g
running_is_one_threads g turns o log lists legal all =
    let stand = λ (pass : ℕ) (calls : List Call) (at : slice_get lists pass ≡ Some calls)
    (place : ℕ) (call : Call) (here : slice_get calls place ≡ Some call).
    stands [] calls log (all pass calls at) place call here in
    record {
      one_threaded = legal;
      stand = stand;
      replies =
          λ pass calls at place call here.
          is_sequential g o log legal call.receipt.number call.receipt.event call.receipt.reply
          (stand pass calls at place call here);
      shares =
          λ pass calls at place call here part bypass wait now asks away.
          let r = call.receipt in
          let own = stand pass calls at place call here
          ∙ ap (λ (it : Event). Some (entry.Call it r.reply)) asks in
          turns o (take r.number log) (drop (suc r.number) log) part bypass wait now r.reply
          (subst (IsLegal g o) (sym (cut log r.number _ own)) legal) away;
      in_order = λ pass calls at. rises [] calls log (all pass calls at);
    }

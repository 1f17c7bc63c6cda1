-- The headline of a gate that serves: what its passes and receipts say of one history, with no
-- audit and however often the gate has rolled.
--
-- g: what the limiter was made with, o: what stood at first, log: a list of entries that begins
-- with what each pass knows, lists: the calls by passes, one list for each pass
use Rattle.std.specs.Prelude.{List, [], ◌∷◌, map}
use mathlib.Core.List.{IsPrefix}
use Rattle.limiter_core.specs.declared.event.Entry.{Entry}
use Rattle.limiter_core.specs.declared.event.Entry.TheVariants as entry
use Rattle.limiter_core.specs.History.{Gate, Image}
use Rattle.limiter_core.specs.Legal.{IsLegal}
use Rattle.gate_ledgers.specs.Receipt.{Told}
use Rattle.audit.specs.Accepted.{NumbersRise}
use Rattle.audit.specs.Firsts.{EachHas}
use Rattle.audit.specs.Receipts.{IsOfCall}
use Rattle.shared_gate.specs.Calls.{IsTold, Pass}
use Rattle.shared_gate.specs.Headline.{IsSequential, IsTurnedAwayRightly}

-- a call by a pass: the pass before it, the receipt, and the pass after it
pub record Call : Type 0 where
  pub before : Pass
  pub receipt : Told
  pub after : Pass

-- THE CALLS OF ONE PASS, in their order, from what it knew to a log of which it knows a beginning:
-- each is told, and between two calls what the pass knows gets no less
abbrev pub AreCallsOf : List Entry → List Call → List Entry → Type 0
AreCallsOf known [] log = IsPrefix known log
AreCallsOf known (call ∷ calls) log =
    IsPrefix known call.before.log
    × IsTold call.before call.after call.receipt.event call.receipt
    × AreCallsOf call.after.log calls log

-- a fact of each receipt of each list
abbrev pub AllHave : (Told → Type 0) → List (List Call) → Type 0
AllHave P lists = EachHas (λ pass calls. EachHas (λ place call. P call.receipt) calls) lists

-- THE HEADLINE, without an audit: the log is one thread's, each receipt stands in it at its number,
-- each reply is the sequential limiter's there, nobody below a share was refused or queued, and
-- each pass's receipts are in the order of the log
pub record IsServedAsOne {S : Type 0}
    (g : Gate S) (o : Image S) (log : List Entry) (lists : List (List Call)) : Type 0 where
  pub one_threaded : IsLegal g o log
  pub stand : AllHave (IsOfCall log) lists
  pub replies : AllHave (IsSequential g o log) lists
  pub shares : AllHave (IsTurnedAwayRightly g o log) lists
  pub in_order : EachHas (λ pass calls. NumbersRise (map (λ call. call.receipt) calls)) lists

-- so it is of every legal log that begins with what each of the passes knows
abbrev pub RunningIsOneThreads : {S : Type 0} → Gate S → Type 0
RunningIsOneThreads {S} g = (o : Image S) (log : List Entry) (lists : List (List Call))
    → IsLegal g o log → EachHas (λ pass calls. AreCallsOf [] calls log) lists
    → IsServedAsOne g o log lists

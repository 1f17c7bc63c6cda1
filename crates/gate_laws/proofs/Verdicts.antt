-- What a caller of a port is told, by where its calls stand in the whole log.
use Rattle.std.proofs.Common.{◌≡◌, ◌<◌, ◌≤◌, ℕ, true, false, [], List, Some, sym, subst, refl}
use Rattle.std.proofs.Common.{arith, inl, inr, length}
use Rattle.std.proofs.lemmas.Option.{same_Some, none-some}
use Rattle.std.proofs.lemmas.List.Elements.{All-nil}
use Rattle.std.specs.Prelude.{All, take, ⊤}
use mathlib.Core.List.{IsPrefix}
use Rattle.lemmas.proofs.Lists.{prefix_length, prefix_trans}
use Rattle.partitions.specs.Table.{place_of}
use Rattle.lifo_backlog.specs.declared.waiter.Waiter.{Waiter}
use Rattle.limiter_core.specs.declared.event.Event.TheVariants.{End, GiveUp}
use Rattle.limiter_core.specs.declared.event.Outcome.{Outcome}
use Rattle.limiter_core.specs.declared.event.PermitFacts.{PermitFacts}
use Rattle.limiter_core.specs.declared.event.Reply.{Reply}
use Rattle.limiter_core.specs.declared.event.Reply.TheVariants as reply
use Rattle.limiter_core.specs.declared.event.Entry.{Entry}
use Rattle.limiter_core.specs.declared.promote.Promote.TheVariants as rule
use Rattle.limiter_core.specs.History.{Gate, Image}
use Rattle.limiter_core.specs.Answer.{has_room, is_turned_away, waits}
use Rattle.limiter_core.specs.Legal.{IsLegal}
use Rattle.limiter_core.specs.Laws.{LeavesNobodyWithRoom}
use Rattle.limiter_core.specs.Settled.{NobodyHasRoom}
use Rattle.gate_port.specs.declared.port.Admission.{Admission}
use Rattle.gate_port.specs.declared.port.Admission.TheVariants.{Admitted, Bypassed, Refused}
use Rattle.gate_port.specs.Asking.{Ask, acquire, says}
use Rattle.gate_port.specs.Log.{IsAskedIn, IsEndedIn, IsLogged, Known}
use Rattle.gate_port.specs.Log.IsAskedIn.{answered, gave_up, missed, spent}
use Rattle.shared_gate.specs.Running.{RunningIsOneThreads}
use Rattle.gate_laws.specs.Decided.{HasWaited, IsAnsweredAt, IsEnded, IsGot, IsRefused}
use Rattle.gate_laws.specs.Decided.{IsTurnedAway, found_at}
use Rattle.gate_laws.proofs.Before.{legal_before}
use Rattle.gate_laws.proofs.Logged.{answered_at, begins, seen, turned_away, unseen}
use Rattle.gate_laws.proofs.Owned.{Since, Within, since_logged, since_went_on}
use Rattle.gate_laws.proofs.Owned.{within_logged, within_went_on}
use Rattle.gate_laws.proofs.Replies.{IsOfAcquire, IsOfGivingUp, of_acquire, of_giving_up}

-- what was known before an asking begins what is known behind it
pub asked_behind : (ask : Ask) (old : Known) (now : ℕ) (new : Known)
    (answer : Admission PermitFacts) → IsAskedIn ask old now new answer → IsPrefix old.log new.log
asked_behind ask old now _ _ (spent new went over) = went.0
asked_behind ask old now _ _ (answered new number r told is says) =
    begins old new number (acquire ask now) r is
asked_behind ask old now _ _ (gave_up mid new number second r told first is says) =
    prefix_trans old.log mid.log new.log
    (begins old mid number (acquire ask now) reply.Waiting first)
    (begins mid new second (GiveUp number) r is)
asked_behind ask old now _ _ (missed mid new number first went over) =
    prefix_trans old.log mid.log new.log
    (begins old mid number (acquire ask now) reply.Waiting first) went.0

-- and its calls are one's own
pub asked_since : (base : List ℕ) (ask : Ask) (old : Known) (now : ℕ) (new : Known)
    (answer : Admission PermitFacts) → IsAskedIn ask old now new answer → Since base old
    → Since base new
asked_since base ask old now _ _ (spent new went over) since =
    since_went_on base old new went since
asked_since base ask old now _ _ (answered new number r told is says) since =
    since_logged base old new number (acquire ask now) r is since
asked_since base ask old now _ _ (gave_up mid new number second r told first is says) since =
    since_logged base mid new second (GiveUp number) r is
    (since_logged base old mid number (acquire ask now) reply.Waiting first since)
asked_since base ask old now _ _ (missed mid new number first went over) since =
    since_went_on base mid new went
    (since_logged base old mid number (acquire ask now) reply.Waiting first since)

-- the number of a permit that was got is below those that aren't known yet
abbrev pub IsBelow : ℕ → Admission PermitFacts → Type 0
IsBelow next (Admitted permit) = permit.number < next
IsBelow next answer = ⊤

below : (ask : Ask) (number now next : ℕ) (r : Reply) (told : Admission PermitFacts)
    → number < next → says ask number now r ≡ Some told → IsBelow next told
below ask number now next (reply.Admitted inflight) told less says =
    subst (IsBelow next) (same_Some _ told says) less
below ask number now next (reply.Granted part start inflight) told less says =
    subst (IsBelow next) (same_Some _ told says) less
below ask number now next reply.Bypassed told less says =
    subst (IsBelow next) (same_Some _ told says) tt
below ask number now next reply.Full told less says =
    subst (IsBelow next) (same_Some _ told says) tt
below ask number now next reply.BacklogFull told less says =
    subst (IsBelow next) (same_Some _ told says) tt
below ask number now next reply.TimedOut told less says =
    subst (IsBelow next) (same_Some _ told says) tt
below ask number now next reply.Lost told less says =
    subst (IsBelow next) (same_Some _ told says) tt
below ask number now next _ told less says = absurd (none-some told says)

pub asked_below : (ask : Ask) (old : Known) (now : ℕ) (new : Known)
    (answer : Admission PermitFacts) → IsAskedIn ask old now new answer
    → IsBelow (length new.log) answer
asked_below ask old now _ _ (spent new went over) = tt
asked_below ask old now _ _ (answered new number r told is says) =
    below ask number now (length new.log) r told (seen old new number (acquire ask now) r is) says
asked_below ask old now _ _ (gave_up mid new number second r told first is says) =
    below ask number now (length new.log) r told
    (omega (
      arith,
      seen old mid number (acquire ask now) reply.Waiting first,
      unseen mid new second (GiveUp number) r is,
      seen mid new second (GiveUp number) r is,
    )) says
asked_below ask old now _ _ (missed mid new number first went over) = tt

-- the part of a verdict that an asking decides
module _ {S : Type 0} (g : Gate S) (o : Image S) (log : List Entry) (own : List ℕ) (most : ℕ)
    (ask : Ask) (now : ℕ) where
  abbrev pub Decides : Admission PermitFacts → Type 0
  Decides (Admitted permit) = IsGot g o log own ask now permit.number
  Decides Bypassed =
      (number : ℕ) × IsAnsweredAt g o log own number (acquire ask now) reply.Bypassed
  Decides (Refused cause) = IsRefused g o log own most ask now cause

  at_once : (number : ℕ) (r : Reply) (told : Admission PermitFacts)
      → IsAnsweredAt g o log own number (acquire ask now) r
      → (is_turned_away r ≡ true → IsTurnedAway g o log own ask now number r)
      → IsOfAcquire r → says ask number now r ≡ Some told → Decides told
  at_once number (reply.Admitted inflight) told is away may says =
      subst Decides (same_Some _ told says) (inl (inflight, is))
  at_once number reply.Bypassed told is away may says =
      subst Decides (same_Some _ told says) (number, is)
  at_once number reply.Full told is away may says =
      subst Decides (same_Some _ told says) (number, away refl)
  at_once number reply.BacklogFull told is away may says =
      subst Decides (same_Some _ told says) (number, away refl)
  at_once number reply.Waiting told is away may says = absurd (none-some told says)
  at_once number _ told is away may says = absurd may

  behind : (number : ℕ) (r : Reply) (told : Admission PermitFacts)
      → (waited : HasWaited g o log own ask now number r)
      → (g.promote ≡ rule.All → NobodyHasRoom g (found_at g o log waited.second))
      → IsOfGivingUp (waits (found_at g o log waited.second) number) r
      → says ask number now r ≡ Some told → Decides told
  behind number (reply.Granted part start inflight) told waited nobody may says =
      subst Decides (same_Some _ told says) (inr (part, start, inflight, waited))
  behind number reply.TimedOut told waited nobody may says =
      subst Decides (same_Some _ told says)
      (record { number = number; waited = waited; still = may; no_room = nobody })
  behind number reply.Lost told waited nobody may says =
      subst Decides (same_Some _ told says) (number, inl waited)
  behind number _ told waited nobody may says = absurd may

module _ {S : Type 0} (g : Gate S) (served : RunningIsOneThreads g)
    (leaves : LeavesNobodyWithRoom g) (o : Image S) (log : List Entry) (idle : o.waiters ≡ [])
    (legal : IsLegal g o log) (own base : List ℕ) where
  -- where nobody waited nobody had room
  nobody : NobodyHasRoom g o
  nobody =
      subst (All (λ (w : Waiter). has_room g o (place_of g.rows w.part) ≡ false)) (sym idle)
      (All-nil (λ (w : Waiter). has_room g o (place_of g.rows w.part) ≡ false))

  made_to_wait : (ask : Ask) (now : ℕ) (old mid : Known) (number : ℕ)
      → IsLogged old mid number (acquire ask now) reply.Waiting → IsPrefix mid.log log
      → Since base old → Within own base mid
      → IsTurnedAway g o log own ask now number reply.Waiting
  made_to_wait ask now old mid number is begun since within =
      turned_away g served o log legal own base old mid number (acquire ask now) reply.Waiting is
      begun since within ask now refl refl

  -- whoever was told behind so many entries that the history is exhausted, so it is in the log
  over_then : (most : ℕ) (new : List Entry) → most ≤ length new → IsPrefix new log
      → most ≤ length log
  over_then most new over begun = omega (arith, over, prefix_length new log begun)

  -- AN ASKING DECIDES what its caller is told
  pub decides : (ask : Ask) (old : Known) (now : ℕ) (new : Known) (answer : Admission PermitFacts)
      → IsAskedIn ask old now new answer → IsPrefix new.log log
      → Since base old → Within own base new
      → Decides g o log own old.exhausted_from ask now answer
  decides ask old now _ _ (spent new went over) begun since within =
      over_then old.exhausted_from new.log over begun
  decides ask old now _ _ (answered new number r told is says) begun since within =
      let e = acquire ask now in
      let at = answered_at g served o log legal own base old new number e r is begun since within in
      at_once g o log own old.exhausted_from ask now number r told at
      (turned_away g served o log legal own base old new number e r is begun since within ask now
      refl)
      (of_acquire g o (take number log) ask.part ask.bypass ask.wait now r at.sequential) says
  decides ask old now _ _ (gave_up mid new number second r told first is says) begun since within =
      let e = acquire ask now in
      let between = begins mid new second (GiveUp number) r is in
      let waiting = since_logged base old mid number e reply.Waiting first since in
      let at = answered_at g served o log legal own base mid new second (GiveUp number) r is begun
      waiting within in
      let before = made_to_wait ask now old mid number first
      (prefix_trans mid.log new.log log between begun) since
      (within_logged base mid new second (GiveUp number) r is own within) in
      behind g o log own old.exhausted_from ask now number r told
      (record {
        queued = before;
        second = second;
        behind = omega (
          arith,
          seen old mid number e reply.Waiting first,
          unseen mid new second (GiveUp number) r is,
        );
        gave_up = at;
      })
      (λ all. leaves o (take second log) all nobody
      (legal_before g o log legal second (GiveUp number) r at.stands))
      (of_giving_up g o (take second log) number r at.sequential) says
  decides ask old now _ _ (missed mid new number first went over) begun since within = (
    number,
    inr (
      made_to_wait ask now old mid number first (prefix_trans mid.log new.log log went.0 begun)
          since (within_went_on base mid new own went within),
      over_then old.exhausted_from new.log over begun,
    ),
  )

  -- AN ENDING, behind what was known
  pub ends : (permit : PermitFacts) (outcome : Outcome) (end : ℕ) (mid new : Known)
      → IsEndedIn permit outcome end mid new → permit.number < length mid.log
      → IsPrefix new.log log → Since base mid → Within own base new
      → IsEnded g o log own permit.number outcome
  ends permit outcome end mid new is earlier begun since within = record {
    permit = permit;
    of = refl;
    end = end;
    promoted = is.1;
    last = is.0;
    behind = omega (
      arith,
      earlier,
      unseen mid new is.0 (End permit outcome end) (reply.Ended is.1) is.2,
    );
    ended = answered_at g served o log legal own base mid new is.0 (End permit outcome end)
        (reply.Ended is.1) is.2 begun since within;
  }

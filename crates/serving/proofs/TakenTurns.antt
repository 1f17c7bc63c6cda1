-- One turn more, and what a run comes to.
use Rattle.std.proofs.Common.{◌≡◌, ◌∙◌, ℕ, ◌+◌, ◌≤◌, Bool, true, false, List, [], ◌∷◌, ◌++◌}
use Rattle.std.proofs.Common.{length, length-append, Option, None, Some, ap, sym, subst, refl}
use Rattle.std.proofs.Common.{append_assoc, append-nil, arith, if◌then◌else◌, zero-add, add-zero}
use Rattle.counted_io.specs.Count.{count_end, raised}
use Rattle.gate_port.specs.Log.{Known}
use Rattle.gate_port.specs.Shown.{Shown}
use Rattle.wire.specs.Forwards.{Forwarded}
use Rattle.client_tokens.specs.Roll.{Comes, Goes, Roll}
use Rattle.timed_io.specs.declared.client_ends.ClientEnds.{ClientEnds}
use Rattle.timed_io.specs.Client.{from_of, to_of}
use Rattle.handling.specs.Visits.{Arrives, Client, Closed, Closes, Event, Follows, Keeps, Kept}
use Rattle.handling.specs.Visits.{LeavesBy, Missed, Misses, Opened, Visits}
use Rattle.proxy.specs.declared.told.Exchange.{Exchange}
use Rattle.proxy.specs.Exchanges.{Bytes, Policy}
use Rattle.proxy.specs.Made.{summary_of}
use Rattle.proxy.specs.Settling.{is_through}
use Rattle.serving.specs.declared.working.TurnCounts.{TurnCounts}
use Rattle.serving.specs.Served.{Back, IsServed, back_of, policy_for}
use Rattle.proxy.specs.Made.{is_kept}
use Rattle.serving.specs.Turns.{AreServed, AreTaken, Ending, IsRun, IsTurn, Keeping, Missing}
use Rattle.serving.specs.Turns.{Place, Rolls, Shows, Turn, Wait}
use Rattle.serving.specs.Turns.{events_of, failed_by, given_by, missed, seen, served}
use Rattle.serving.proofs.Forwards.{exchanged_once}
use Rattle.serving.proofs.RolledTurns.{all_rolled, nothing_rolled, visit_rolled}

-- a client by the ends of its connection
abbrev pub client_of : {I O : Type 0} → (I → Bytes) → (O → Bytes) → ClientEnds I O → Bool → Client
client_of remaining contents ends is_kept = record {
  sent = remaining (from_of ends);
  written = contents (to_of ends);
  is_kept = is_kept;
}

served_more : (ts : List Turn) (t : Turn) → served (ts ++ t ∷ []) ≡ served ts + served (t ∷ [])
served_more [] t = sym (zero-add (served (t ∷ [])))
served_more (Missing ∷ ts) t = served_more ts t
served_more (Ending before behind told ∷ ts) t = let same = served_more ts t in omega arith
served_more (Keeping before behind told ∷ ts) t = let same = served_more ts t in omega arith

missed_more : (ts : List Turn) (t : Turn) → missed (ts ++ t ∷ []) ≡ missed ts + missed (t ∷ [])
missed_more [] t = sym (zero-add (missed (t ∷ [])))
missed_more (Missing ∷ ts) t = let same = missed_more ts t in omega arith
missed_more (Ending before behind told ∷ ts) t = missed_more ts t
missed_more (Keeping before behind told ∷ ts) t = missed_more ts t

given_more : (ts : List Turn) (t : Turn) (n : ℕ)
    → given_by (ts ++ t ∷ []) n ≡ given_by (t ∷ []) (given_by ts n)
given_more [] t n = refl
given_more (Missing ∷ ts) t n = given_more ts t n
given_more (Ending before behind told ∷ ts) t n = given_more ts t (raised n)
given_more (Keeping before behind told ∷ ts) t n = given_more ts t (raised n)

failed_more : (ts : List Turn) (t : Turn) (n : ℕ)
    → failed_by (ts ++ t ∷ []) n ≡ failed_by (t ∷ []) (failed_by ts n)
failed_more [] t n = refl
failed_more (Missing ∷ ts) t n = failed_more ts t (raised n)
failed_more (Ending before behind told ∷ ts) t n = failed_more ts t n
failed_more (Keeping before behind told ∷ ts) t n = failed_more ts t n

wait_more : (ts : List Turn) (t : Turn) (old mid new : List Client) → Wait ts old mid
    → Wait (t ∷ []) mid new → Wait (ts ++ t ∷ []) old new
wait_more [] t old mid new same one = subst (λ (c : List Client). Wait (t ∷ []) c new) same one
wait_more (Missing ∷ ts) t old mid new all one = wait_more ts t old mid new all one
wait_more (Ending before behind told ∷ ts) t old mid new all one =
    (all.0, all.1, wait_more ts t all.0 mid new all.2 one)
wait_more (Keeping before behind told ∷ ts) t old mid new all one =
    (all.0, all.1, all.2, all.3, wait_more ts t all.1 mid new all.4 one)

events_more : (ts : List Turn) (t : Turn)
    → events_of (ts ++ t ∷ []) ≡ events_of ts ++ events_of (t ∷ [])
events_more [] t = refl
events_more (Missing ∷ ts) t = ap (λ (xs : List (Event Exchange)). Missed ∷ xs) (events_more ts t)
events_more (Ending before behind told ∷ ts) t =
    ap (λ (xs : List (Event Exchange)). Opened before ∷ Closed behind.written told ∷ xs)
    (events_more ts t)
events_more (Keeping before behind told ∷ ts) t =
    ap (λ (xs : List (Event Exchange)). Opened before ∷ Kept behind told ∷ xs) (events_more ts t)

-- a fact of a door behind another one
follows_on : (P Q R : Visits Exchange → Visits Exchange → Type 0)
    (old mid new : Option (Visits Exchange)) → Follows old mid P → Follows mid new Q
    → ((o m n : Visits Exchange) → P o m → Q m n → R o n) → Follows old new R
follows_on P Q R None mid None p q joined = tt
follows_on P Q R (Some o) mid None p q joined = tt
follows_on P Q R None None (Some n) p q joined = absurd q
follows_on P Q R None (Some m) (Some n) p q joined = absurd p
follows_on P Q R (Some o) None (Some n) p q joined = absurd q
follows_on P Q R (Some o) (Some m) (Some n) p q joined = joined o m n p q

all_shown : (ts : List Turn) (t : Turn) (old mid new : Option (Visits Exchange)) → Shows ts old mid
    → Shows (t ∷ []) mid new → Shows (ts ++ t ∷ []) old new
all_shown ts t old mid new p q =
    follows_on _ _ _ old mid new p q (λ o m n before one. (
      wait_more ts t o.waiting m.waiting n.waiting before.0 one.0,
      one.1 ∙ ap (λ (xs : List (Event Exchange)). xs ++ events_of (t ∷ [])) before.1
          ∙ append_assoc o.log (events_of ts) (events_of (t ∷ []))
          ∙ ap (λ (xs : List (Event Exchange)). o.log ++ xs) (sym (events_more ts t)),
    ))

pub missing_shown : (old new : Option (Visits Exchange)) → Misses old new
    → Shows (Missing ∷ []) old new
missing_shown None None p = tt
missing_shown (Some o) None p = tt
missing_shown None (Some n) p = absurd p
missing_shown (Some o) (Some n) p = p

ending_shown : (old mid new : Option (Visits Exchange)) (before behind : Client) (told : Exchange)
    → Arrives old mid before → Closes mid new behind told
    → Shows (Ending before behind told ∷ []) old new
ending_shown old mid new before behind told p q =
    follows_on _ _ _ old mid new p q (λ o m n came left. (
      (m.waiting, came.0, left.0),
      left.1 ∙ ap (λ (xs : List (Event Exchange)). xs ++ Closed behind.written told ∷ []) came.1
          ∙ append_assoc o.log (Opened before ∷ []) (Closed behind.written told ∷ []),
    ))

keeping_shown : (old mid new : Option (Visits Exchange)) (before behind : Client) (told : Exchange)
    → Arrives old mid before → Keeps mid new behind told
    → Shows (Keeping before behind told ∷ []) old new
keeping_shown old mid new before behind told p q =
    follows_on _ _ _ old mid new p q (λ o m n came left. (
      (m.waiting, n.waiting, came.0, left.0, refl),
      left.1 ∙ ap (λ (xs : List (Event Exchange)). xs ++ Kept behind told ∷ []) came.1
          ∙ append_assoc o.log (Opened before ∷ []) (Kept behind told ∷ []),
    ))

nothing_shown : (visits : Option (Visits Exchange)) → Shows [] visits visits
nothing_shown None = tt
nothing_shown (Some s) = (refl, sym (append-nil s.log))

both_counted : (ts : List Turn) → served ts + missed ts ≡ length ts
both_counted [] = refl
both_counted (Missing ∷ ts) = let same = both_counted ts in omega arith
both_counted (Ending before behind told ∷ ts) = let same = both_counted ts in omega arith
both_counted (Keeping before behind told ∷ ts) = let same = both_counted ts in omega arith

once_by : (n m : ℕ) (b : Bool) → m ≡ (if b then raised n else n) → m ≤ n + 1
once_by n m true same = omega arith
once_by n m false same = omega arith

-- an exchange forwards once at most
once : (s : Policy) (sent unwritten yet written : Bytes) (old new : Back) (x : Exchange)
    → IsServed s sent unwritten yet written old new x → new.count ≤ old.count + 1
once s sent unwritten yet written old new x is =
    once_by old.count new.count (is_through (summary_of x).admission)
    (exchanged_once s _ _ (summary_of x) is.exchanged)

raised_once : (n : ℕ) → n + 1 ≤ count_end → raised n ≡ n + 1
raised_once n h = omega arith

given_exactly : (ts : List Turn) (n : ℕ) → n + served ts ≤ count_end
    → given_by ts n ≡ n + served ts
given_exactly [] n h = sym (add-zero n)
given_exactly (Missing ∷ ts) n h = given_exactly ts n h
given_exactly (Ending before behind told ∷ ts) n h =
    let up : raised n ≡ n + 1 = raised_once n (omega arith) in
    let rest : given_by ts (raised n) ≡ raised n + served ts =
    given_exactly ts (raised n) (omega arith) in
    omega arith
given_exactly (Keeping before behind told ∷ ts) n h =
    let up : raised n ≡ n + 1 = raised_once n (omega arith) in
    let rest : given_by ts (raised n) ≡ raised n + served ts =
    given_exactly ts (raised n) (omega arith) in
    omega arith

failed_exactly : (ts : List Turn) (n : ℕ) → n + missed ts ≤ count_end
    → failed_by ts n ≡ n + missed ts
failed_exactly [] n h = sym (add-zero n)
failed_exactly (Missing ∷ ts) n h =
    let up : raised n ≡ n + 1 = raised_once n (omega arith) in
    let rest : failed_by ts (raised n) ≡ raised n + missed ts =
    failed_exactly ts (raised n) (omega arith) in
    omega arith
failed_exactly (Ending before behind told ∷ ts) n h = failed_exactly ts n h
failed_exactly (Keeping before behind told ∷ ts) n h = failed_exactly ts n h

-- a port, and a backend that was left with this count and log
abbrev back_with : {P : Type 0} → (P → Option Shown) → (P → Option Known) → P → ℕ
    → Option (List Forwarded) → Back
back_with shown known port count log = record {
  shown = shown port;
  known = known port;
  count = count;
  log = log;
}

-- what stands behind a worker whose backend is left is as before
pub same_back : {P B : Type 0} (shown : P → Option Shown) (known : P → Option Known)
    (forwarded : B → ℕ) (log : B → Option (List Forwarded)) (p p' : P) (b b' left : B) → p ≡ p'
    → b ≡ left → forwarded left ≡ forwarded b' → log left ≡ log b'
    → back_of shown known forwarded log p b ≡ back_of shown known forwarded log p' b'
same_back {P} {B} shown known forwarded log p p' b b' left ports backends counts logs =
    ap (λ (x : P). back_of shown known forwarded log x b) ports
    ∙ ap (λ (x : B). back_of shown known forwarded log p' x) backends
    ∙ ap (λ (n : ℕ). back_with shown known p' n (log left)) counts
    ∙ ap (λ (l : Option (List Forwarded)). back_with shown known p' (forwarded b') l) logs

module _ (s : Policy) (came : Bytes → Type 0) where
  all_served : (ts : List Turn) (t : Turn) (old mid new : Back) → AreServed s came ts old mid
      → AreServed s came (t ∷ []) mid new → AreServed s came (ts ++ t ∷ []) old new
  all_served [] t old mid new same one =
      subst (λ (b : Back). AreServed s came (t ∷ []) b new) same one
  all_served (Missing ∷ ts) t old mid new all one = all_served ts t old mid new all one
  all_served (Ending before behind told ∷ ts) t old mid new all one =
      (all.0, all.1, all.2, all_served ts t all.0 mid new all.3 one)
  all_served (Keeping before behind told ∷ ts) t old mid new all one =
      (all.0, all.1, all.2, all_served ts t all.0 mid new all.3 one)

  -- so many turns were taken so far
  pub record Took (count : ℕ) (old new : Place) (tally : TurnCounts) : Type 0 where
    pub turns : List Turn
    pub taken : AreTaken s came turns old new tally
    pub many : length turns ≡ count

  -- none was
  pub begins : (place : Place) → Took 0 place place (record { accepted = 0; unaccepted = 0 })
  begins place = record {
    turns = [];
    taken = record {
      accepted = refl;
      unaccepted = refl;
      given = refl;
      failed = refl;
      exchanges = refl;
      shown = nothing_shown place.visits;
      rolled = nothing_rolled place.roll;
    };
    many = refl;
  }

  -- one more was
  pub goes_on : (count : ℕ) (old mid new : Place) (before after : TurnCounts) (t : Turn)
      → Took count old mid before
      → after.accepted ≡ before.accepted + served (t ∷ [])
      → after.unaccepted ≡ before.unaccepted + missed (t ∷ [])
      → new.given ≡ given_by (t ∷ []) mid.given → new.failed ≡ failed_by (t ∷ []) mid.failed
      → AreServed s came (t ∷ []) mid.back new.back → Shows (t ∷ []) mid.visits new.visits
      → Rolls (t ∷ []) mid.roll new.roll → Took (count + 1) old new after
  goes_on count old mid new before after t took accepted unaccepted given failed exchanges shown
      rolled =
      let turns = took.turns in
      record {
        turns = turns ++ t ∷ [];
        taken = record {
          accepted = accepted ∙ ap (λ (n : ℕ). n + served (t ∷ [])) took.taken.accepted
              ∙ sym (served_more turns t);
          unaccepted = unaccepted ∙ ap (λ (n : ℕ). n + missed (t ∷ [])) took.taken.unaccepted
              ∙ sym (missed_more turns t);
          given = given ∙ ap (given_by (t ∷ [])) took.taken.given
              ∙ sym (given_more turns t old.given);
          failed = failed ∙ ap (failed_by (t ∷ [])) took.taken.failed
              ∙ sym (failed_more turns t old.failed);
          exchanges = all_served turns t old.back mid.back new.back took.taken.exchanges
              exchanges;
          shown = all_shown turns t old.visits mid.visits new.visits took.taken.shown shown;
          rolled = all_rolled turns t old.roll mid.roll new.roll took.taken.rolled rolled;
        };
        many = length-append turns (t ∷ []) ∙ ap (λ (n : ℕ). n + 1) took.many;
      }

  -- a turn from one place to another, in which a client came, and was let go or kept
  pub record HasVisited (old new : Place) (client left : Client) (told : Exchange) : Type 0 where
    pub visits : Option (Visits Exchange)
    pub back : Back
    pub given : new.given ≡ raised old.given
    pub failed : new.failed ≡ old.failed
    pub turn : IsTurn s came client left old.back back told
    pub same : new.back ≡ back
    pub arrives : Arrives old.visits visits client
    pub leaves : LeavesBy (is_kept told) visits new.visits left told
    pub roll : Option Roll
    pub comes : Comes old.roll roll (seen client)
    pub goes : Goes roll new.roll (seen left)

  one_visit : (count : ℕ) (old mid new : Place) (before after : TurnCounts) (client left : Client)
      (told : Exchange) (visit : HasVisited mid new client left told) (k : Bool)
      → is_kept told ≡ k → LeavesBy k visit.visits new.visits left told
      → Took count old mid before → after.accepted ≡ before.accepted + 1
      → after.unaccepted ≡ before.unaccepted → Took (count + 1) old new after
  one_visit count old mid new before after client left told visit false is leaves took accepted
      unaccepted =
      goes_on count old mid new before after (Ending client left told) took accepted
      (unaccepted ∙ sym (add-zero before.unaccepted)) visit.given visit.failed
      (visit.back, visit.turn, is, visit.same)
      (ending_shown mid.visits visit.visits new.visits client left told visit.arrives leaves)
      (visit_rolled mid.roll visit.roll new.roll client left visit.comes visit.goes)
  one_visit count old mid new before after client left told visit true is leaves took accepted
      unaccepted =
      goes_on count old mid new before after (Keeping client left told) took accepted
      (unaccepted ∙ sym (add-zero before.unaccepted)) visit.given visit.failed
      (visit.back, visit.turn, is, visit.same)
      (keeping_shown mid.visits visit.visits new.visits client left told visit.arrives leaves)
      (visit_rolled mid.roll visit.roll new.roll client left visit.comes visit.goes)

  -- one more was, of this kind
  pub goes_on_visited : (count : ℕ) (old mid new : Place) (before after : TurnCounts)
      (client left : Client) (told : Exchange) → Took count old mid before
      → after.accepted ≡ before.accepted + 1 → after.unaccepted ≡ before.unaccepted
      → HasVisited mid new client left told → Took (count + 1) old new after
  goes_on_visited count old mid new before after client left told took accepted unaccepted visit =
      one_visit count old mid new before after client left told visit (is_kept told) refl
      visit.leaves took accepted unaccepted

  all_once : (ts : List Turn) (old new : Back) → AreServed s came ts old new
      → new.count ≤ old.count + served ts
  all_once [] old new same = let count = ap (λ (b : Back). b.count) same in omega arith
  all_once (Missing ∷ ts) old new all = all_once ts old new all
  all_once (Ending before behind told ∷ ts) old new all =
      let one = once (policy_for s before.is_kept) _ _ _ _ old all.0 told all.1.served in
      let others = all_once ts all.0 new all.3 in
      omega arith
  all_once (Keeping before behind told ∷ ts) old new all =
      let one = once (policy_for s before.is_kept) _ _ _ _ old all.0 told all.1.served in
      let others = all_once ts all.0 new all.3 in
      omega arith

  pub forwarded_at_most : (count : ℕ) (old new : Place) (tally : TurnCounts)
      → Took count old new tally → new.back.count ≤ old.back.count + tally.accepted
  forwarded_at_most count old new tally took =
      let all = all_once took.turns old.back new.back took.taken.exchanges in
      let accepted = took.taken.accepted in
      omega arith

  -- where a door's counts don't come to their ends, they rise by what is tallied
  pub all_given : (count most : ℕ) (old new : Place) (tally : TurnCounts)
      → Took count old new tally → count ≤ most → old.given + most ≤ count_end
      → new.given ≡ old.given + tally.accepted
  all_given count most old new tally took few room =
      let both = both_counted took.turns in
      let many = took.many in
      let accepted = took.taken.accepted in
      let given = took.taken.given ∙ given_exactly took.turns old.given (omega arith) in
      omega arith

  pub all_failed : (count most : ℕ) (old new : Place) (tally : TurnCounts)
      → Took count old new tally → count ≤ most → old.failed + most ≤ count_end
      → new.failed ≡ old.failed + tally.unaccepted
  all_failed count most old new tally took few room =
      let both = both_counted took.turns in
      let many = took.many in
      let unaccepted = took.taken.unaccepted in
      let failed = took.taken.failed ∙ failed_exactly took.turns old.failed (omega arith) in
      omega arith

  -- the turns that were taken are a run, where they are as many as were asked for, or the door was
  -- found closed
  pub run_of : (Shut : Type 0) (count most : ℕ) (old new : Place) (tally : TurnCounts)
      → Took count old new tally → count ≤ most → (new.closed ≡ false → count ≡ most)
      → (new.closed ≡ true → old.closed ≡ false → Shut) → IsRun s came Shut most old new tally
  run_of Shut count most old new tally took few whole shut = record {
    turns = took.turns;
    taken = took.taken;
    few = let many = took.many in omega arith;
    whole = λ open_yet. took.many ∙ whole open_yet;
    shut = shut;
  }

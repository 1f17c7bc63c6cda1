-- An exchange, told by the bytes of a client's two ends.
use Rattle.std.proofs.Common.{◌≡◌, ◌∙◌, ◌==◌, ℕ, Bool, true, false, List, [], ◌∷◌, Option}
use Rattle.std.proofs.Common.{IfSome, Result, Ok, Err, if◌then◌else◌, ap, sym, subst}
use Rattle.std.proofs.Common.{refl, length, ◌&&◌, is_none, zero, suc, arith}
use Rattle.std.proofs.lemmas.Bool.{eqb-true, false≢true}
use Rattle.clocks.specs.Looks.{Looked, unlooked}
use Rattle.client_tokens.specs.Roll.{Seen}
use Rattle.handling.specs.Handled.{Ends, IsHandled, IsSent, uncalled}
use Rattle.counted_io.specs.declared.counted.Counted.{Counted}
use Rattle.counted_io.specs.Causes.{IsWriteCause}
use Rattle.counted_io.specs.Counted.{fresh, inner_of}
use Rattle.message_parts.specs.declared.request.Request.{Request}
use Rattle.message_text.specs.declared.persistence.Persistence.{Persistence}
use Rattle.message_text.specs.declared.persistence.Persistence.TheVariants.{Close, Keep}
use Rattle.wire.specs.declared.fault.WireFault.{WireFault}
use Rattle.wire.specs.declared.fault.WireFault.TheVariants as fault
use Rattle.wire.specs.declared.answer.BackendAnswer.{BackendAnswer}
use Rattle.proxy.specs.declared.told.CallCounts.{CallCounts}
use Rattle.proxy.specs.declared.told.Exchange.{Exchange}
use Rattle.proxy.specs.declared.told.ExchangeSummary.{ExchangeSummary}
use Rattle.proxy.specs.Exchanges.{Bytes, IsExchange, Policy, World}
use Rattle.proxy.specs.Keeping.{Persists, is_kept_behind}
use Rattle.proxy.specs.Made.{counted_with, is_kept, keeps_if, reads_of, summary_of}
use Rattle.proxy.specs.Made.{with_sent}
use Rattle.serving.specs.Served.{Back, IsCarriedOut, IsServed, around, told_by_places}

-- a fault of writing has its cause
abbrev IsBroken : Counted Bytes → Counted Bytes → Exchange → Type 0
IsBroken old new x =
    IfSome (summary_of x).written_fault (λ f. (f ≡ fault.Write) × IsWriteCause old new)

-- what stands behind a worker in a world
abbrev behind_in : World → Back
behind_in world = record {
  shown = world.shown;
  known = world.known;
  count = world.count;
  log = world.log;
}

-- an exchange that began before any look at the clock
pub first_looked : (p : Policy) (old new : World) (x : ExchangeSummary) → IsExchange p old new x
    → old.looks ≡ unlooked
    → IsExchange p (around old.reader old.writer unlooked (behind_in old)) new x
first_looked p old new x is none =
    subst (λ (l : Looked BackendAnswer). IsExchange p
    (around old.reader old.writer l (behind_in old)) new x) none is

-- an exchange that began where nothing was called has the counts of its ends
over : (p : Policy) (old new : Back) (before behind : Seen) (ends : Ends) (x : Exchange)
    (sent : Bool) → IsCarriedOut p old new (uncalled before) ends x
    → IsSent (inner_of ends.writer) behind.written sent
    → (is_kept (with_sent sent x) ≡ true → behind.sent ≡ inner_of ends.reader)
    → IsServed p before.sent before.written behind.sent behind.written old new (with_sent sent x)
over p old new before behind ends x sent is ended unread =
    let begin : World = around (fresh before.sent) (fresh before.written) unlooked old in
    record {
      left = inner_of ends.reader;
      given = inner_of ends.writer;
      looks = is.looks;
      exchanged =
          subst (λ (k : CallCounts). IsExchange p begin
          (around (counted_with (inner_of ends.reader) (reads_of x))
          (counted_with (inner_of ends.writer) k) is.looks new) (summary_of x)) (sym is.writes)
          (subst (λ (k : CallCounts). IsExchange p begin
          (around (counted_with (inner_of ends.reader) k) ends.writer is.looks new)
          (summary_of x)) (sym is.reads) is.exchanged);
      broken =
          subst (λ (k : CallCounts). IsBroken (fresh before.written)
          (counted_with (inner_of ends.writer) k) x) (sym is.writes) is.broken;
      ended = ended;
      unread = unread;
    }

-- and so a client was served by it
pub served : (p : Policy) (old new : Back) (before behind : Seen) (x : Exchange)
    → IsHandled (IsCarriedOut p old new) with_sent is_kept before behind x
    → IsServed p before.sent before.written behind.sent behind.written old new x
served p old new before behind x is =
    subst (λ (told : Exchange). IsServed p before.sent before.written behind.sent behind.written
    old new told) (sym is.same)
    (over p old new before behind is.ends is.first is.sent is.handled is.ended
    (λ (kept : is_kept (with_sent is.sent is.first) ≡ true). is.unread (ap is_kept is.same ∙ kept)))

-- who isn't drained isn't kept
undrained : (keeps later : Bool) (request : Request) (answer : Option BackendAnswer)
    → is_kept_behind keeps false later request answer ≡ false
undrained true later request answer = refl
undrained false later request answer = refl

-- whoever is kept left nothing in its reader's buffer
kept_drained : (told : Option Bool) (drained later : Bool) (read : Result Request WireFault)
    (answer : Option BackendAnswer) (persistence : Persistence) (well : Bool)
    → Persists told drained later read answer persistence → keeps_if persistence well ≡ true
    → drained ≡ true
kept_drained told drained later (Err f) answer persistence well ends kept =
    absurd (false≢true (sym (ap (λ (p : Persistence). keeps_if p well) ends) ∙ kept))
kept_drained told true later (Ok request) answer persistence well persists kept = refl
kept_drained told false later (Ok request) answer persistence well persists kept =
    absurd (false≢true (sym (ap (λ (p : Persistence). keeps_if p well)
    (persists.2 ∙ ap (λ (b : Bool). if b then Keep else Close)
    (undrained persists.0 later request answer))) ∙ kept))

-- and so what it has yet to send is what its reader has left
pub nothing_held : (p : Policy) (old new : World) (x y : Exchange) (sent : Bool)
    (held : List ℕ) → IsExchange p old new (summary_of x)
    → (summary_of x).is_drained ≡ (length held == 0) → y ≡ with_sent sent x → is_kept y ≡ true
    → held ≡ []
nothing_held p old new x y sent held is drained same kept =
    empty held (sym drained ∙ kept_drained p.keeps (summary_of x).is_drained p.later is.read
    is.answer (summary_of x).persistence (sent && is_none (summary_of x).written_fault) is.persists
    (sym (ap is_kept same) ∙ kept)) where
      empty : (xs : List ℕ) → (length xs == 0) ≡ true → xs ≡ []
      empty [] none = refl
      empty (y ∷ ys) none = absurd (omega (arith, eqb-true (length (y ∷ ys)) 0 none))

-- who keeps no places tells that nobody is kept
pub keeps_told : (places : ℕ) (keeps : Bool) → (places ≡ 0 → keeps ≡ false)
    → IfSome (told_by_places places) (λ known. keeps ≡ known)
keeps_told zero keeps none = none refl
keeps_told (suc n) keeps none = tt

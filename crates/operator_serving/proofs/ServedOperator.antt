-- What an operator's client was served, over ends that nobody called before.
use Rattle.std.proofs.Common.{◌≡◌, ℕ, Bool, false, List, Result, Ok, Err, subst, sym}
use Rattle.std.specs.Prelude.{⊤}
use Rattle.client_tokens.specs.Roll.{Seen}
use Rattle.counted_io.specs.declared.counted.Counted.{Counted}
use Rattle.counted_io.specs.Causes.{IsWriteCause}
use Rattle.counted_io.specs.Counted.{fresh, inner_of}
use Rattle.handling.specs.Handled.{Ends, IsHandled, IsSent, uncalled}
use Rattle.partitions.specs.Table.{Row}
use Rattle.message_parts.specs.declared.request.Request.{Request}
use Rattle.wire.specs.declared.fault.WireFault.{WireFault}
use Rattle.proxy.specs.declared.told.CallCounts.{CallCounts}
use Rattle.proxy.specs.Exchanges.{Bytes}
use Rattle.proxy.specs.Made.{counted_with}
use Rattle.operator_calls.specs.declared.audience.Audience.{Audience}
use Rattle.operator_serving.specs.declared.attending.Attended.{Attended}
use Rattle.operator_serving.specs.Attended.{reads_of, with_sent, writes_of}
use Rattle.operator_serving.specs.Attending.{AreServed, Deals, IsAttended, IsCarriedOut, IsServed}
use Rattle.operator_serving.specs.Desk.{Deed, Sight}
use Rattle.operator_serving.specs.Stands.{Stand, stand}

-- a client was served by an exchange over a reader and a writer that weren't called, whose counts
-- at its end it has
module _ {D : Type 0} (rows : D → List Row) (shows : D → Sight → Type 0)
    (does : D → D → Deed → Type 0) (audience : Audience) (page : List ℕ) (old new : D)
    (refused refused' : ℕ) where
  abbrev Deals_with : Ends → Result Request WireFault → Counted Bytes → Attended → Type 0
  Deals_with ends read asked x = Deals rows shows does (λ _. ⊤) audience page old new asked
      (counted_with (inner_of ends.writer) (writes_of x)) refused refused' read x

  dealt : (ends : Ends) (x : Attended) (sent : Bool) (read : Result Request WireFault)
      (asked : Counted Bytes) → Deals_with ends read asked x
      → Deals_with ends read asked (with_sent sent x)
  dealt ends x sent (Err f) asked deals = deals
  dealt ends x sent (Ok request) asked deals = deals

  over : (before behind : Seen) (ends : Ends) (x : Attended) (sent : Bool)
      → IsCarriedOut rows shows does audience page old new refused refused' (uncalled before) ends x
      → IsSent (inner_of ends.writer) behind.written sent
      → IsServed rows shows does audience page before.sent before.written behind.written old new
      refused refused' (with_sent sent x)
  over before behind ends x sent is ended =
      let told : IsAttended rows shows does (λ _. ⊤) audience page old new (fresh before.sent)
      (counted_with (inner_of ends.reader) (reads_of x)) (fresh before.written)
      (counted_with (inner_of ends.writer) (writes_of x)) refused refused' x =
      subst (λ (k : CallCounts). IsAttended rows shows does (λ _. ⊤) audience page old new
      (fresh before.sent) (counted_with (inner_of ends.reader) (reads_of x)) (fresh before.written)
      (counted_with (inner_of ends.writer) k) refused refused' x) (sym is.writes)
      (subst (λ (k : CallCounts). IsAttended rows shows does (λ _. ⊤) audience page old new
      (fresh before.sent) (counted_with (inner_of ends.reader) k) (fresh before.written) ends.writer
      refused refused' x) (sym is.reads) is.attended) in
      record {
        left = inner_of ends.reader;
        given = inner_of ends.writer;
        attended = record {
          read = told.read;
          asked = told.asked;
          reading = told.reading;
          deals = dealt ends x sent told.read told.asked told.deals;
        };
        broken = λ unwritten_all.
            subst (λ (k : CallCounts). IsWriteCause (fresh before.written)
            (counted_with (inner_of ends.writer) k)) (sym is.writes) (is.broken unwritten_all);
        held = ended.0;
        ended = ended.1;
        sent_all = ended.2;
      }

  pub served : (before behind : Seen) (x : Attended)
      → IsHandled (IsCarriedOut rows shows does audience page old new refused refused') with_sent
      (λ _. false) before behind x
      → IsServed rows shows does audience page before.sent before.written behind.written old new
      refused refused' x
  served before behind x is =
      subst (λ (told : Attended). IsServed rows shows does audience page before.sent before.written
      behind.written old new refused refused' told) (sym is.same)
      (over before behind is.ends is.first is.sent is.handled is.ended)

-- served up to where the door's counts are these
pub stands_at : {D : Type 0} (rows : D → List Row) (shows : D → Sight → Type 0)
    (does : D → D → Deed → Type 0) (came : Bytes → Type 0) (audience : Audience) (page : List ℕ)
    (old : Stand D) (desk : D) {given given' failed failed' refused : ℕ} → given' ≡ given
    → failed' ≡ failed
    → AreServed rows shows does came audience page old (stand desk given failed refused)
    → AreServed rows shows does came audience page old (stand desk given' failed' refused)
stands_at rows shows does came audience page old desk {given} {given'} {failed} {failed'} {refused}
    same_given same_failed served =
    subst (λ (n : ℕ). AreServed rows shows does came audience page old
    (stand desk n failed' refused)) (sym same_given)
    (subst (λ (n : ℕ). AreServed rows shows does came audience page old
    (stand desk given n refused)) (sym same_failed) served)

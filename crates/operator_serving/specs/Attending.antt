-- What an exchange with an operator is.
use Rattle.std.specs.Prelude.{◌≡◌, ◌⊎◌, ⊤, ℕ, Bool, true, false, List, [], codes, length, bytes_eq}
use Rattle.std.specs.Prelude.{Option, None, Some, IfSome, Result, Ok, Err, if◌then◌else◌}
use Rattle.std.specs.Io.KnownBytes.{append_known}
use Rattle.counted_io.specs.declared.counted.Counted.{Counted}
use Rattle.counted_io.specs.Causes.{IsWriteCause}
use Rattle.counted_io.specs.Count.{raised}
use Rattle.counted_io.specs.Counted.{fresh, inner_of}
use Rattle.counted_io.specs.Effects.{Wrote}
use Rattle.handling.specs.Handled.{Ends}
use Rattle.partitions.specs.Table.{Row}
use Rattle.message_text.specs.declared.persistence.Persistence.TheVariants.{Close}
use Rattle.message_text.specs.Answer.{answer_text, local_text}
use Rattle.message_parts.specs.Header.{Header}
use Rattle.message_parts.specs.declared.request.Request.{Request}
use Rattle.wire.specs.declared.fault.WireFault.{WireFault}
use Rattle.proxy.specs.Exchanges.{Bytes, IsRead, known}
use Rattle.proxy.specs.Made.{counted_with, counts_of}
use Rattle.proxy.specs.Table.{fault_status, own_or_nothing}
use Rattle.operator_calls.specs.declared.audience.Audience.{Audience}
use Rattle.operator_calls.specs.declared.audience.Audience.TheVariants.{Anyone}
use Rattle.operator_calls.specs.declared.call.Call.{Call}
use Rattle.operator_calls.specs.declared.call.Call.TheVariants as call
use Rattle.operator_calls.specs.declared.refusal.Refusal.{Refusal}
use Rattle.operator_calls.specs.Calls.{call_of, heard}
use Rattle.operator_serving.specs.declared.attending.Attended.{Attended}
use Rattle.operator_serving.specs.Attended.{is_all_sent, reads_of, was_written, writes_of}
use Rattle.operator_serving.specs.Desk.{Deed, HasLooked, Sight}
use Rattle.operator_serving.specs.Memory.{refused_by}
use Rattle.operator_serving.specs.Stands.{Stand, one_given, one_missed}
use Rattle.operator_serving.specs.Telling.{Tells, lines_of}
use Rattle.operator_serving.specs.Words.{Words}

-- the answer to a client that asked by this method: these lines, and what is told
abbrev pub told_text_by : List ℕ → List Header → Words → List ℕ
told_text_by method lines told = answer_text (record {
  method = method;
  status = told.status;
  headers = lines;
  body = Some told.text;
  persistence = Close;
})

-- the length of a text that isn't written, since it was asked for by HEAD
abbrev pub told_length : List ℕ → Words → Option ℕ
told_length method told = if bytes_eq method (codes "HEAD") then Some (length told.text) else None

-- a line of its own tells that where nothing was to be changed
abbrev pub length_for : List ℕ → Result Call Refusal → Words → Option ℕ
length_for method (Ok (call.Change it)) told = None
length_for method (Ok (call.Look it)) told = told_length method told
length_for method (Err why) told = told_length method told

-- the answer to a call by this method, of what is told of it
abbrev pub told_text : List ℕ → Result Call Refusal → Words → List ℕ
told_text method call told =
    told_text_by method (lines_of call (length_for method call told)) told

-- LACKING MEMORY: it was refused once more, and 500 answers
abbrev pub IsLacking : {W : Type 0} → (W → Option (List ℕ)) → Counted W → Counted W
    → (refused refused' status : ℕ) → Bool → Type 0
IsLacking contents writer writer' refused refused' status is_written =
    (refused' ≡ raised refused) × (status ≡ 500)
    × (is_written ≡ true → Wrote contents writer writer' (local_text Close 500))

-- TOLD of what changes nothing, to this method: the whole text is written, or its lines alone to
-- HEAD; or that memory was refused
abbrev pub IsTold : {W : Type 0} → (W → Option (List ℕ)) → Result Call Refusal → List ℕ → Words
    → Counted W → Counted W → (refused refused' status : ℕ) → Bool → Type 0
IsTold contents call method told writer writer' refused refused' status is_written =
    ((status ≡ told.status) × (refused' ≡ refused)
    × (is_written ≡ true → Wrote contents writer writer'
    (told_text_by method (lines_of call (told_length method told)) told)))
    ⊎ IsLacking contents writer writer' refused refused' status is_written

-- where there was no memory for an answer: nothing was changed
abbrev pub IsUnanswered : {D : Type 0} → (D → D → Deed → Type 0) → Result Call Refusal → D → D
    → Type 0
IsUnanswered does (Ok (call.Look it)) old new = HasLooked does old new
IsUnanswered does (Ok (call.Change it)) old new = new ≡ old
IsUnanswered does (Err why) old new = new ≡ old

module _ {D : Type 0} (rows : D → List Row) (shows : D → Sight → Type 0)
    (does : D → D → Deed → Type 0) where
  -- ANSWERED: what is told of a call, with its status, where all was written, and no memory was
  -- refused; or that it was, and then nothing was changed
  abbrev pub IsAnswered : {W : Type 0} → (W → Option (List ℕ)) → List ℕ → Result Call Refusal
      → List ℕ → D → D → Counted W → Counted W → (refused refused' status : ℕ) → Bool → Type 0
  IsAnswered contents page call method old new writer writer' refused refused' status is_written =
      ((told : Words) × Tells rows shows does page call old new told × (status ≡ told.status)
      × (refused' ≡ refused)
      × (is_written ≡ true → Wrote contents writer writer' (told_text method call told)))
      ⊎ (IsUnanswered does call old new
      × IsLacking contents writer writer' refused refused' status is_written)

  -- after a fault of reading nothing reaches the desk, and memory was refused where that is the
  -- fault; else the call of what was read is answered, by whether its caller had left
  abbrev pub Deals : (Bool → Type 0) → Audience → List ℕ → D → D → Counted Bytes → Counted Bytes
      → (refused refused' : ℕ) → Result Request WireFault → Attended → Type 0
  Deals tells audience page old new asked writer refused refused' (Err f) x =
      (x.is_read ≡ false) × (new ≡ old) × (refused' ≡ refused_by f refused)
      × (x.answer ≡ fault_status f)
      × (x.is_written ≡ true → Wrote known asked writer
      (own_or_nothing Close None (fault_status f)))
  Deals tells audience page old new asked writer refused refused' (Ok request) x =
      (x.is_read ≡ true) × (status : ℕ) × (x.answer ≡ Some status)
      × (left : Bool) × tells left
      × IsAnswered known page (heard left (call_of audience request)) request.method old new asked
      writer refused refused' status x.is_written

  -- AN EXCHANGE WITH AN OPERATOR: something is read, and dealt with, while memory was refused so
  -- often before and after
  pub record IsAttended (tells : Bool → Type 0) (audience : Audience) (page : List ℕ) (old new : D)
      (reader reader' writer writer' : Counted Bytes) (refused refused' : ℕ) (x : Attended)
      : Type 0 where
    pub read : Result Request WireFault
    pub asked : Counted Bytes
    pub reading : IsRead reader reader' writer writer' (inner_of asked) read
    pub deals : Deals tells audience page old new asked writer' refused refused' read x

  -- CARRIED OUT: an exchange over the two ends of a connection has the counts of these ends; where
  -- not all was written, a write failed; and at an address for anyone it only looks
  pub record IsCarriedOut (audience : Audience) (page : List ℕ) (old new : D)
      (refused refused' : ℕ) (before behind : Ends) (x : Attended) : Type 0 where
    pub attended : IsAttended (λ _. ⊤) audience page old new before.reader behind.reader
        before.writer behind.writer refused refused' x
    pub broken : was_written x ≡ false → IsWriteCause before.writer behind.writer
    pub reads : reads_of x ≡ counts_of behind.reader
    pub writes : writes_of x ≡ counts_of behind.writer
    pub looks : audience ≡ Anyone → HasLooked does old new

  -- SERVED by this exchange: it began with what the client would send and with what had been
  -- written to it, over a reader and a writer that weren't called yet; it ended with just the
  -- counts that it has; and what was written to the client is what it gave its writer, but for what
  -- that held and didn't send. Where not all was written, a write failed
  pub record IsServed (audience : Audience) (page : List ℕ) (sent unwritten written : Bytes)
      (old new : D) (refused refused' : ℕ) (x : Attended) : Type 0 where
    pub left : Bytes
    pub given : Bytes
    pub attended : IsAttended (λ _. ⊤) audience page old new (fresh sent)
        (counted_with left (reads_of x)) (fresh unwritten) (counted_with given (writes_of x))
        refused refused' x
    pub broken : was_written x ≡ false
        → IsWriteCause (fresh unwritten) (counted_with given (writes_of x))
    pub held : List ℕ
    pub ended : given ≡ append_known written held
    pub sent_all : is_all_sent x ≡ true → held ≡ []

  -- ONE AFTER THE OTHER: each client whom the door gave was served by an exchange of its own, who
  -- came where they are served, and to whom nothing had been written. Whatever changed at the desk,
  -- one of these changed it
  pub data AreServed (came : Bytes → Type 0) (audience : Audience) (page : List ℕ)
      : Stand D → Stand D → Type 0 where
    nobody : (at : Stand D) → AreServed came audience page at at
    none_more : (old mid : Stand D) → AreServed came audience page old mid
        → AreServed came audience page old (one_missed mid)
    one_more : (old mid : Stand D) (new : D) (refused : ℕ) (sent unwritten written : Bytes)
        (told : Attended) → AreServed came audience page old mid → came sent
        → IfSome unwritten (λ bytes. bytes ≡ [])
        → IsServed audience page sent unwritten written mid.desk new mid.refused refused told
        → AreServed came audience page old (one_given mid new refused)

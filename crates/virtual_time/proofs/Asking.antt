-- What an action is answered, by a session that stands for all entries so far.
use Rattle.std.proofs.Common.{◌≡◌, ℕ, ◌++◌, refl, sym, append-nil}
use Rattle.limit_laws.specs.Algorithm.{Algorithm}
use Rattle.gate_journal.specs.Journal.{Journal}
use Rattle.load_driver.specs.declared.asked.SessionCall.{SessionCall}
use Rattle.load_driver.specs.declared.asked.SessionCall.TheVariants.{Nothing, NotOpen, Event}
use Rattle.load_driver.specs.Replay.{Open, after_asked, told_of}
use Rattle.trace.specs.declared.arrival.Arrival.{Arrival}
use Rattle.virtual_time.specs.declared.action.Action.{Action}
use Rattle.virtual_time.specs.Course.{asked_of, journal_with}

-- the journal after what is asked has the entries that this adds
pub grown : {S : Type 0} (rules : Algorithm S) (w : Journal S) (a : SessionCall)
    → after_asked rules w a ≡ journal_with w (w.entries ++ told_of rules w a)
grown rules w Nothing = λ k. journal_with w (sym (append-nil w.entries) k)
grown rules w NotOpen = λ k. journal_with w (sym (append-nil w.entries) k)
grown rules w (Event e) = refl

-- the same is asked where the same permits are open
pub same_asked : (some others : Open) → ((n : ℕ) → some n ≡ others n) → (a : Arrival) (d : Action)
    → asked_of some a d ≡ asked_of others a d
same_asked some others same a d = λ k. asked_of (λ n. same n k) a d

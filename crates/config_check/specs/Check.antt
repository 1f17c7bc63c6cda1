-- What `check` answers a configuration.
use Rattle.std.specs.Prelude.{◌≡◌, ◌⊎◌, ℕ, Bool, true, false, List, [], Option, Ok}
use Rattle.counted_io.specs.declared.counted.Counted.{Counted}
use Rattle.counted_io.specs.Causes.{IsWriteCause}
use Rattle.counted_io.specs.Counted.{failures_of, inner_of, is_flushed}
use Rattle.counted_io.specs.Effects.{Wrote}
use Rattle.gateway_settings.specs.declared.settings.Settings.{Settings}
use Rattle.gateway_settings.specs.Exchanges.{AreEnoughFor, AreTooFew, settings_by}
use Rattle.config_check.specs.declared.check_fault.CheckFault.{CheckFault}
use Rattle.config_check.specs.declared.check_fault.CheckFault.TheVariants as Check
use Rattle.config_check.specs.Accepted.{accepted_line}
use Rattle.config_check.specs.CheckFault.{check_fault_text}
use Rattle.config_explain.specs.Explained.{IsExplained}
use Rattle.config_file.specs.declared.file_fault.FileFault.{FileFault}
use Rattle.config_file.specs.Reading.{Held, IsFaultOf, IsUnreadFile, Says}
use Rattle.fault_lines.specs.FaultLine.{IsTold, fault_line}

-- the bytes hold settings, for which the number of exchanges is enough where one is given; the line
-- of what they are for that number is written and flushed, and no write failed
abbrev pub IsAccepted : {W : Type 0} → Option ℕ → (W → Option (List ℕ)) → Counted W → Counted W
    → List ℕ → Type 0
IsAccepted exchanges contents old new bytes = (s : Settings) × Says bytes (Ok s)
    × AreEnoughFor exchanges s × Wrote contents old new (accepted_line (settings_by exchanges s))
    × (failures_of new ≡ failures_of old) × (is_flushed new ≡ true)

-- the fault is that of the bytes, and then nothing is written; or the exchanges are too few for
-- their settings, and then nothing is written either; or the line of these couldn't be written
abbrev pub IsWhy : {W : Type 0} → Option ℕ → Counted W → Counted W → List ℕ → CheckFault → Type 0
IsWhy exchanges old new bytes (Check.File fault) = (new ≡ old) × IsFaultOf bytes fault
IsWhy exchanges old new bytes (Check.Exchanges few) =
    (new ≡ old) × (s : Settings) × Says bytes (Ok s) × AreTooFew exchanges s few.wanted
IsWhy exchanges old new bytes Check.Write = IsWriteCause old new × (s : Settings)
    × Says bytes (Ok s) × AreEnoughFor exchanges s

-- the words explain these bytes; or there are none, for this lack of memory
abbrev pub AreWordsOn : Type 0 → List ℕ → List ℕ → Type 0
AreWordsOn Lacked bytes words = ((words ≡ []) × Lacked) ⊎ IsExplained bytes words

-- WORDS FIRST: if an explanation is asked for, words on these bytes are written, and behind them
-- all that `P` says; else `P` says it from the start
abbrev pub AfterWords : {W : Type 0} → Bool → Type 0 → (W → Option (List ℕ)) → List ℕ
    → Counted W → (Counted W → Type 0) → Type 0
AfterWords false Lacked contents bytes old P = P old
AfterWords true Lacked contents bytes old P = (between : Counted _) × (words : List ℕ)
    × AreWordsOn Lacked bytes words × Wrote contents old between words × P between

-- ACCEPTED: the line of the settings is written, behind the words
abbrev pub IsAcceptedAfter : {W : Type 0} → Bool → Option ℕ → Type 0 → (W → Option (List ℕ))
    → Counted W → Counted W → List ℕ → Type 0
IsAcceptedAfter explain exchanges Lacked contents old new bytes =
    AfterWords explain Lacked contents bytes old (λ between.
    IsAccepted exchanges contents between new bytes)

-- WHY NOT: behind the words it is why the bytes aren't accepted; or the words weren't written
abbrev pub IsWhyAfter : {W : Type 0} → Bool → Option ℕ → Type 0 → (W → Option (List ℕ)) → Counted W
    → Counted W → List ℕ → CheckFault → Type 0
IsWhyAfter false exchanges Lacked contents old new bytes fault = IsWhy exchanges old new bytes fault
IsWhyAfter true exchanges Lacked contents old new bytes fault =
    ((fault ≡ Check.Write) × IsWriteCause old new)
    ⊎ AfterWords true Lacked contents bytes old (λ between. IsWhy exchanges between new bytes fault)

-- why the configuration of a file isn't accepted, which couldn't be opened, or was: its bytes were
-- not had, and then nothing but an explanation is written; or no read failed, and it is why its
-- bytes aren't accepted
abbrev pub IsWhyOfFile : {F W : Type 0} → Bool → Option ℕ → Type 0 → Type 0 → (F → Type 0)
    → (F → Option (List ℕ)) → (W → Option (List ℕ)) → Counted W → Counted W → CheckFault → Type 0
IsWhyOfFile {F} explain exchanges Lacked Unopened Opened remaining contents old new fault =
    ((unread : FileFault) × (fault ≡ Check.File unread)
    × IsUnreadFile Unopened Opened remaining unread × (explain ≡ false → new ≡ old))
    ⊎ ((before : Counted F) × (after : Counted F) × (bytes : List ℕ)
    × Opened (inner_of before) × (failures_of after ≡ failures_of before)
    × Held remaining before bytes
    × IsWhyAfter explain exchanges Lacked contents old new bytes fault)

-- REFUSED: the line of a fault is reported, and this fault is why
abbrev pub IsRefused : {E : Type 0} → (E → Option (List ℕ)) → Counted E → Counted E
    → (CheckFault → Type 0) → Type 0
IsRefused contents old new P = (fault : CheckFault)
    × IsTold contents old new (fault_line (check_fault_text fault)) × P fault

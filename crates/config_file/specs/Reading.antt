-- What a file or its bytes give: settings, or why there are none.
use Rattle.std.specs.Prelude.{◌≡◌, ◌≢◌, ◌<◌, ◌≤◌, ◌⊎◌, ℕ, List, length, Option, Result, Err, IsUtf8}
use Rattle.toml.specs.Data.{Members}
use Rattle.toml.specs.Errors.{IsBlank}
use Rattle.counted_io.specs.declared.counted.Counted.{Counted}
use Rattle.counted_io.specs.Causes.{IsMemoryCause, IsReadCause}
use Rattle.counted_io.specs.Counted.{calls_of, failures_of, inner_of}
use Rattle.counted_io.specs.Effects.{IfLeft}
use Rattle.gate_config.specs.declared.fault.ConfigFault.{ConfigFault}
use Rattle.gate_config.specs.declared.fault.ConfigFault.TheVariants as Config
use Rattle.gateway_settings.specs.declared.settings.Settings.{Settings}
use Rattle.gate_config.specs.Settings.{Reads, settings_of}
use Rattle.config_file.specs.declared.file_fault.FileFault.{FileFault}
use Rattle.config_file.specs.declared.file_fault.FileFault.TheVariants as File
use Rattle.config_file.specs.declared.unread_file.UnreadFile.{UnreadFile}
use Rattle.config_file.specs.declared.unread_file.UnreadFile.TheVariants as Left
use Rattle.config_file.specs.FileFault.{fault_of}

-- the bytes have this answer: it is that of every table that toml reads of them, and without such a
-- table it is the fault of the text
abbrev pub Says : List ℕ → Result Settings ConfigFault → Type 0
Says bytes answer = ((t : Members) → Reads bytes t → settings_of t ≡ answer)
    × (answer ≢ Err Config.Toml → (t : Members) × Reads bytes t)

-- reading the bytes may run out of memory: they aren't white space and comments alone
abbrev pub WantsMemory : List ℕ → Type 0
WantsMemory bytes = IsBlank bytes → IsUtf8 bytes → ⊥

-- the bytes are all that the reader had left, and no more than 1 MiB
abbrev pub Held : {R : Type 0} → (R → Option (List ℕ)) → Counted R → List ℕ → Type 0
Held remaining reader bytes =
    IfLeft remaining reader (λ all. bytes ≡ all) × (length bytes ≤ 1048576)

-- the fault is that of the bytes; or they ran out of memory
abbrev pub IsConfigFault : List ℕ → ConfigFault → Type 0
IsConfigFault bytes fault =
    (fault ≢ Config.Memory → Says bytes (Err fault)) × (fault ≡ Config.Memory → WantsMemory bytes)

-- the fault is that of the bytes
abbrev pub IsFaultOf : List ℕ → FileFault → Type 0
IsFaultOf bytes File.Read = ⊥
IsFaultOf bytes (File.Config fault) = IsConfigFault bytes fault

-- the most reads that a configuration may take: 2^25
abbrev pub most_reads : ℕ
most_reads = 33554432

-- the fault of a reader whose bytes were not had: it failed, wasn't at its end after so many reads,
-- or had more than 1 MiB; or what it gave ran out of memory
abbrev pub IsUnread : {R : Type 0} → (R → Option (List ℕ)) → Counted R → Counted R → FileFault
    → Type 0
IsUnread remaining old new File.Read =
    IsReadCause most_reads old new ⊎ IfLeft remaining old (λ all. 1048576 < length all)
IsUnread remaining old new (File.Config fault) =
    (fault ≡ Config.Memory) × IsMemoryCause remaining 1048576 old new

-- a reader over a file that was opened, before any call
abbrev pub IsFreshOver : {F : Type 0} → (F → Type 0) → Counted F → Type 0
IsFreshOver Opened reader =
    Opened (inner_of reader) × (calls_of reader ≡ 0) × (failures_of reader ≡ 0)

-- WHY A FILE'S TEXT WAS NOT HAD: it couldn't be opened; or it was, and its reader is left so
abbrev pub IsWhyUnread : {F : Type 0} → Type 0 → (F → Type 0) → (F → Option (List ℕ))
    → UnreadFile F → Type 0
IsWhyUnread Unopened Opened remaining Left.Unopened = Unopened
IsWhyUnread {F} Unopened Opened remaining (Left.Unread after fault) =
    (before : Counted F) × IsFreshOver Opened before × IsUnread remaining before after fault

-- the fault alone of a file whose text was not had
abbrev pub IsUnreadFile : {F : Type 0} → Type 0 → (F → Type 0) → (F → Option (List ℕ)) → FileFault
    → Type 0
IsUnreadFile {F} Unopened Opened remaining fault =
    (left : UnreadFile F) × (fault ≡ fault_of left) × IsWhyUnread Unopened Opened remaining left

-- why a reader's settings weren't had: its bytes were not had; or no read failed, and the fault is
-- that of its bytes
abbrev pub IsUnset : {R : Type 0} → (R → Option (List ℕ)) → Counted R → Counted R → FileFault
    → Type 0
IsUnset remaining before after fault =
    IsUnread remaining before after fault
    ⊎ ((failures_of after ≡ failures_of before)
    × ((bytes : List ℕ) × Held remaining before bytes × IsFaultOf bytes fault))

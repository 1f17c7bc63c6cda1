-- The line that is written of an entry.
use Rattle.std.specs.Prelude.{ℕ, List, [], ◌∷◌, codes}
use Rattle.std.specs.List.{concat}
use Rattle.std.specs.Fmt.{decimal}
use Rattle.limit_laws.specs.declared.limit.SetFault.TheVariants.{NotSettable, OutOfRange}
use Rattle.partitions.specs.declared.part.Part.{Part}
use Rattle.partitions.specs.declared.part.Part.TheVariants.{Unknown}
use Rattle.partitions.specs.Table.{Row, name_of}
use Rattle.limiter_core.specs.declared.event.Event.{Event}
use Rattle.limiter_core.specs.declared.event.Event.TheVariants.{Acquire, End, Claim, GiveUp, SetLimit, Reset, Look}
use Rattle.limiter_core.specs.declared.event.Reply.{Reply}
use Rattle.limiter_core.specs.declared.event.Reply.TheVariants.{Admitted, Bypassed, Full, BacklogFull, Waiting, Ended, Granted, StillWaiting, TimedOut, Lost, LimitSet, Refused, ResetDone, Seen}
use Rattle.limiter_core.specs.declared.event.Entry.{Entry}
use Rattle.limiter_core.specs.declared.event.Entry.TheVariants.{Call, Promotion}

-- the part that an event is about: the unknown one where it is about none
abbrev pub part_about : Event → Part
part_about (Acquire part bypass wait now) = part
part_about (End permit outcome now) = permit.part
part_about (Claim number) = Unknown
part_about (GiveUp number) = Unknown
part_about (SetLimit n now) = Unknown
part_about (Reset now) = Unknown
part_about (Look part) = part

-- what is written of a reply to an event about a class
abbrev pub reply_text : List ℕ → Reply → List ℕ
reply_text class (Admitted inflight) =
    concat (codes "admitted " ∷ class ∷ codes " inflight " ∷ decimal inflight ∷ [])
reply_text class Bypassed = codes "bypassed"
reply_text class Full = codes "refused full"
reply_text class BacklogFull = codes "refused backlog"
reply_text class Waiting = codes "waiting"
reply_text class (Ended promoted) = concat (codes "ended promoted " ∷ decimal promoted ∷ [])
reply_text class (Granted part start inflight) =
    concat (codes "granted inflight " ∷ decimal inflight ∷ [])
reply_text class StillWaiting = codes "still waiting"
reply_text class TimedOut = codes "timed out"
reply_text class Lost = codes "lost"
reply_text class LimitSet = codes "limit set"
reply_text class (Refused NotSettable) = codes "refused not settable"
reply_text class (Refused OutOfRange) = codes "refused out of range"
reply_text class ResetDone = codes "reset"
reply_text class (Seen limit total waiting granted inflight share) = concat (
    codes "seen limit " ∷ decimal limit ∷ codes " total " ∷ decimal total
    ∷ codes " waiting " ∷ decimal waiting ∷ codes " granted " ∷ decimal granted
    ∷ codes " inflight " ∷ decimal inflight ∷ codes " share " ∷ decimal share ∷ [])

-- the line of an entry, its number first
abbrev pub entry_text : List Row → ℕ → Entry → List ℕ
entry_text rows number (Call event reply) =
    concat (decimal number ∷ codes " "
    ∷ reply_text (name_of rows (part_about event)) reply ∷ codes "\n" ∷ [])
entry_text rows number (Promotion waiter part start inflight) =
    concat (decimal number ∷ codes " promoted " ∷ decimal waiter
    ∷ codes " inflight " ∷ decimal inflight ∷ codes "\n" ∷ [])

-- What is said of a configuration behind the words of its explanation.
use Rattle.std.proofs.Common.{inr, ℕ, true, List, Option, Result, Ok, Err, IfErr, OnOk}
use Rattle.counted_io.specs.declared.counted.Counted.{Counted}
use Rattle.counted_io.specs.Effects.{Wrote}
use Rattle.config_check.specs.declared.check_fault.CheckFault.{CheckFault}
use Rattle.config_check.specs.Check.{AreWordsOn, IsAccepted, IsAcceptedAfter, IsWhy, IsWhyAfter}

-- what is said behind words that were written first
pub accepted_behind : {W T : Type 0} (exchanges : Option ℕ) (Lacked : Type 0)
    (contents : W → Option (List ℕ))
    (old between new : Counted W) (words bytes : List ℕ) (r : Result T CheckFault)
    → AreWordsOn Lacked bytes words
    → Wrote contents old between words → OnOk r (IsAccepted exchanges contents between new bytes)
    → OnOk r (IsAcceptedAfter true exchanges Lacked contents old new bytes)
accepted_behind exchanges Lacked contents old between new words bytes (Ok x) explained wrote is =
    (between, words, explained, wrote, is)
accepted_behind exchanges Lacked contents old between new words bytes (Err f) explained wrote is =
    tt

pub why_behind : {W T : Type 0} (exchanges : Option ℕ) (Lacked : Type 0)
    (contents : W → Option (List ℕ))
    (old between new : Counted W) (words bytes : List ℕ) (r : Result T CheckFault)
    → AreWordsOn Lacked bytes words
    → Wrote contents old between words → IfErr r (IsWhy exchanges between new bytes)
    → IfErr r (IsWhyAfter true exchanges Lacked contents old new bytes)
why_behind exchanges Lacked contents old between new words bytes (Ok x) explained wrote is = tt
why_behind exchanges Lacked contents old between new words bytes (Err f) explained wrote is =
    inr (between, words, explained, wrote, is)

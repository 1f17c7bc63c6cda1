-- What is known of a run whose audit was accepted.
use Rattle.std.specs.Prelude.{List, Vec}
use Rattle.std.specs.declared.alloc.Global.{Global}
use Rattle.aimd.specs.AimdRules.{AimdState, aimd_rules}
use Rattle.limiter_core.specs.declared.event.Entry.{Entry}
use Rattle.gate_journal.specs.Image.{Standing, image_of}
use Rattle.gate_ledgers.specs.Making.{Making}
use Rattle.gate_ledgers.specs.Receipt.{Told}
use Rattle.shared_gate.specs.Closing.{limiter_of}
use Rattle.shared_gate.specs.Headline.{IsOneThreads}

-- for some lists of receipts the history is one that one thread might have made, by a limiter that
-- was made so, and each receipt has the sequential limiter's reply
pub record IsAudited (m : Making) (opening : Standing AimdState) (entries : List Entry)
    : Type 0 where
  pub kept : List (Vec Told Global)
  pub one_threads : IsOneThreads (limiter_of aimd_rules m) (image_of opening) entries kept

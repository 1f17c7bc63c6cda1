use Rattle.std.proofs.Common.{rules, arith, ◌≡◌, length, refl}
use Rattle.std.proofs.lemmas.Grind.{common_steps}
use Rattle.load_run.proofs.Gathering.{each_more}
use Rattle.load_run.proofs.workers.hands_of.Goals as goal

pub loop-worker-preserved : goal.loop-worker-preserved
loop-worker-preserved g c =
    let count : c.len-number.result ≡ length c.loop-worker.hands.items = search rules in record {
      all = grind (arith, common_steps);
      room = grind (arith, common_steps);
      each = each_more _ c.loop-worker.hands.items c.push_reserved.new.self.items _
          c.push_reserved.ensures.items c.loop-worker.invariant.each (count, refl);
    }

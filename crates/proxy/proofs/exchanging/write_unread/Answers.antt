use Rattle.std.proofs.Common.{◌≡◌, rules, Some}
use Rattle.std.specs.Prelude.{option_map}
use Rattle.proxy.specs.Table.{fault_mark, fault_status, if_marked}
use Rattle.proxy.proofs.exchanging.write_unread.Goals as goal

pub returns-in-Err-clause-begun : goal.returns-in-Err-clause-begun
returns-in-Err-clause-begun g c =
    let marked : option_map (λ mark. mark.now) c.fault_mark.result
    ≡ if_marked c.args.marks (Some (fault_mark c.args.fault)) = c.fault_mark.ensures in
    let is : fault_status c.args.fault ≡ Some c.in-Some.status = search rules in
    rw is (rw marked at c.in-Err.ensures.front)

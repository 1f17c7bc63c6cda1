use Rattle.std.proofs.Common.{rules, ◌≤◌}
use Rattle.commands.specs.ServeOptions.{AreWithinRanges}
use Rattle.admission.proofs.Threads.{threads_within}
use Rattle.admission.proofs.main.Goals as goal

pub serve_file-requires-clause-some : goal.serve_file-requires-clause-some
serve_file-requires-clause-some g c κs within =
    let ranges : AreWithinRanges c.in-Serve.options = search rules in
    (threads_within c.in-Serve.options ranges).0

pub serve_file-requires-clause-few : goal.serve_file-requires-clause-few
serve_file-requires-clause-few g c κs within =
    let ranges : AreWithinRanges c.in-Serve.options = search rules in
    (threads_within c.in-Serve.options ranges).1

use Rattle.embedding.proofs.run.audit.Goals as goal

pub returns-in-Ok : goal.returns-in-Ok
returns-in-Ok g c = record {
  kept = c.in_ok-kept.kept.items;
  one_threads =
      c.accepted_histories_are_one_threads.ensures _ _ _ _
      c.in-Ok.ensures.legal.legal c.in-Ok.ensures.accepted;
}

use Rattle.std.proofs.Common.{rules, ◌≡◌, List, ◌++◌, ◌∷◌, [], sym, subst}
use Rattle.std.specs.List.{AllZip}
use Rattle.lemmas.proofs.Lists.{AllZip-one_more}
use Rattle.serving.specs.Workers.{Begins}
use Rattle.serving.proofs.workers.make_workers.Goals as goal

one_begins : {X Y : Type 0} (R : X → Y → Type 0) (xs : List X) (ys new : List Y) (x : X) (y : Y)
    → new ≡ ys ++ y ∷ [] → AllZip R xs ys → R x y → AllZip R (xs ++ x ∷ []) new
one_begins {X} {Y} R xs ys new x y is all own =
    subst (λ (zs : List Y). AllZip R (xs ++ x ∷ []) zs) (sym is)
    (AllZip-one_more R xs ys x y all own)

-- each begins with a door of its own, where nobody was given yet
pub loop-port-preserved : goal.loop-port-preserved
loop-port-preserved g c = record {
  all = one_begins (Begins c.args.common.now.listener.now g.L.Listener.roll
      c.args.common.now.backend_timeout_ns c.args.common.now.settings.now.backend)
      c.loop-port.yielded c.loop-port.workers.items c.push_reserved.new.self.items
      c.in-Some.port _ c.push_reserved.ensures.items c.loop-port.invariant.all (record {
        opens_to = c.new-door.ensures.opens_to;
        port_is = search rules;
        given = c.new-door.ensures.given;
        failed = c.new-door.ensures.failed;
        unclosed = c.new-door.ensures.unclosed;
        unrolled = c.new-door.ensures.unrolled;
        unused = search rules;
        limited = search rules;
        reaches = search rules;
        host = search rules;
      });
  room = search rules;
}

-- Settings may be shared by threads, and so may what workers have in common: each of their parts
-- may. A router is a tree of nodes, whose law `search` doesn't find by itself where it lies so
-- deep.
use denote.RattleType.{RattleType}
use denote.Ref.{NamedLft}
use denote.Struct.Declared.{shape}
use denote.Param.Send.{IsSync, recorded_sync, sendable, shr_sync, struct_sync}
use Rattle.std.proofs.Crossing.{crosses}
use Rattle.body_memory.proofs.shared.SharedBodies.TheSendSync as bodies
use Rattle.matchit.proofs.route.Route.TheSendSync as route
use Rattle.matchit.proofs.tree.Node.TheLaws.TheKnot.{sync-Node}
use Rattle.limit_kinds.proofs.kinds.AnyLimit.TheSendSync as limit
use Rattle.partitions.proofs.part.Part.TheSendSync as part
use Rattle.partitions.proofs.table.PartitionTable.TheSendSync as table
use Rattle.limiter_core.proofs.promote.Promote.TheSendSync as promote
use Rattle.message_parts.proofs.bytes.Bytes.TheSendSync as bytes
use Rattle.classifier.proofs.bypass.Bypass.TheSendSync as bypass
use Rattle.classifier.specs.contracts.resolver.Resolver as resolver
use Rattle.classifier.specs.contracts.rules.Rules as rules
use Rattle.gateway_settings.proofs.address.Address.TheSendSync as address
use Rattle.timed_io.proofs.body_rates.BodyRates.TheSendSync as rates
use Rattle.gateway_settings.specs.contracts.settings.Settings as settings
use Rattle.serving.proofs.reporting.ActiveWorkers.TheSendSync as active
use Rattle.serving.specs.contracts.jobs.Context as context
use Rattle.serving.specs.contracts.reporting.ActiveWorkers as workers
use Rattle.serving.specs.contracts.working.WorkerSettings as common

resolver_sync : IsSync resolver.the_row
resolver_sync =
    search (
      sendable,
      crosses,
      sync-Node,
      route.the_sync,
      bytes.the_sync,
      part.the_field_sync,
      part.the_sync,
    ) depth 60 fits 100000

rules_sync : IsSync rules.the_row
rules_sync = search (sendable, crosses, resolver_sync, bypass.the_sync) depth 60 fits 100000

settings_sync : IsSync settings.the_row
settings_sync =
    search (
      sendable,
      crosses,
      rules_sync,
      address.the_sync,
      table.the_sync,
      limit.the_field_sync,
      promote.the_field_sync,
    ) depth 60 fits 100000

common_sync : (ℓ : NamedLft) (L C W : RattleType) → IsSync L → IsSync C → IsSync W →
    IsSync (common.the_row ℓ L C W)
common_sync ℓ L C W l c w =
    recorded_sync (common.the_field ℓ L C W).row _ _ (common.the_type ℓ L C W).to_one
    (struct_sync (shape (common.the_type ℓ L C W)) (
      shr_sync _ _ L l,
      (
        shr_sync _ _ settings.the_row settings_sync,
        (
          shr_sync _ _ C c,
          (
            search (sendable, crosses),
            (
              search (sendable, crosses),
              (
                search (sendable, crosses),
                (
                  search (sendable, crosses, rates.the_sync) depth 60 fits 100000,
                  (
                    search (sendable, crosses),
                    (
                      search (sendable, crosses),
                      (
                        search (sendable, crosses),
                        (
                          search (sendable, crosses),
                          (
                            shr_sync _ _ W w,
                            (
                              search (sendable, crosses),
                              (
                                search (sendable, crosses, bodies.the_sync) depth 60 fits 100000,
                                tt,
                              ),
                            ),
                          ),
                        ),
                      ),
                    ),
                  ),
                ),
              ),
            ),
          ),
        ),
      ),
    ))

pub context_sync : (ℓ : NamedLft) (R L E C W : RattleType) → IsSync R → IsSync L → IsSync E →
    IsSync C → IsSync W → IsSync (context.the_row ℓ R L E C W)
context_sync ℓ R L E C W r l e c w =
    recorded_sync (context.the_field ℓ R L E C W).row _ _ (context.the_type ℓ R L E C W).to_one
    (struct_sync (shape (context.the_type ℓ R L E C W)) (
      shr_sync _ _ R r,
      (
        shr_sync _ _ (common.the_row ℓ L C W) (common_sync ℓ L C W l c w),
        (
          shr_sync _ _ workers.the_row active.the_sync,
          search (sendable, crosses, e) depth 60 fits 100000,
        ),
      ),
    ))

-- The rules that the values of a configuration make.
use Rattle.std.specs.Prelude.{◌≡◌, ◌≢◌, ℕ, List, [], ◌∷◌, ◌++◌, Option, Some, None, option_map, option_and_then, Result, Ok, Err, unwrap_or, is_none, bytes_eq, codes, if◌then◌else◌}
use Rattle.matchit.specs.declared.error.InsertError.{InsertError}
use Rattle.matchit.specs.Order.{placed}
use Rattle.matchit.specs.Route.{Scan, parse_route}
use Rattle.matchit.specs.Router.{RouteOf, nearest, route_from}
use Rattle.matchit.specs.Rows.{RowsOf}
use Rattle.toml.specs.Data.{Members}
use Rattle.partitions.specs.declared.part.Part.{Part}
use Rattle.partitions.specs.declared.part.Part.TheVariants.{Unknown}
use Rattle.partitions.specs.Table.{Row, find_part}
use Rattle.classifier.specs.declared.bypass.Bypass.{Bypass}
use Rattle.classifier.specs.declared.bypass.Bypass.TheVariants as Rule
use Rattle.classifier.specs.declared.resolver.Resolver.{Resolver}
use Rattle.classifier.specs.declared.resolver.Resolver.TheVariants as Read
use Rattle.gate_config.specs.declared.fault.ConfigFault.{ConfigFault}
use Rattle.gate_config.specs.declared.fault.ConfigFault.TheVariants as Fault
use Rattle.gate_config.specs.Section.{Values, routes_at, text_at}

-- the partition of a name, or unknown
abbrev pub part_named : List Row → List ℕ → Part
part_named rows name = unwrap_or (find_part rows name) Unknown

-- what the making of rules answers: what is said, or out of memory, or where nothing is said,
-- patterns that can't stand together
abbrev pub Makes : {A V : Type 0} → (A → V) → Option V → Result A ConfigFault → Type 0
Makes shown said (Ok a) = said ≡ Some (shown a)
Makes shown said (Err fault) = fault ≢ Fault.Memory → (fault ≡ Fault.Route) × (said ≡ None)

-- the routes with one more, unless its pattern can't be read or can't stand with one of theirs
abbrev pub route_read :
    Result Scan InsertError → Part → RowsOf (RouteOf Part) → Option (RowsOf (RouteOf Part))
route_read (Err e) part rows = None
route_read (Ok scan) part rows =
    if is_none (nearest scan.pattern rows)
    then Some (placed (scan.pattern, route_from scan part) rows) else None

abbrev pub route_with : List ℕ → Part → RowsOf (RouteOf Part) → Option (RowsOf (RouteOf Part))
route_with pattern part rows = route_read (parse_route pattern) part rows

-- the routes of patterns with the names of classes, added one after the other
abbrev pub router_after :
    List Row → RowsOf (RouteOf Part) → List (List ℕ × List ℕ) → Option (RowsOf (RouteOf Part))
router_after rows routes [] = Some routes
router_after rows routes (route ∷ more) =
    option_and_then (λ next. router_after rows next more)
    (route_with route.0 (part_named rows route.1) routes)

abbrev pub router_from : List Row → List (List ℕ × List ℕ) → Option (RowsOf (RouteOf Part))
router_from rows routes = router_after rows [] routes

-- the resolver of a section's values
abbrev pub resolver_from : List Row → Values → Option Resolver
resolver_from rows values =
    if bytes_eq (text_at (codes "kind") values) (codes "header")
    then Some (Read.Header (text_at (codes "header") values)) else (
    if bytes_eq (text_at (codes "kind") values) (codes "method")
    then Some (Read.Method (text_at (codes "method") values)
    (part_named rows (text_at (codes "class") values)))
    else option_map Read.Route (router_from rows (routes_at (codes "routes") values)))

-- the bypass rule of a section's values
abbrev pub bypass_from : Values → Bypass
bypass_from values =
    if bytes_eq (text_at (codes "kind") values) (codes "method")
    then Rule.Method (text_at (codes "method") values) else (
    if bytes_eq (text_at (codes "kind") values) (codes "prefix")
    then Rule.Prefix (text_at (codes "prefix") values)
    else Rule.HeaderEquals (text_at (codes "header") values) (text_at (codes "equals") values))

-- the resolvers of these values, each among the partitions of the rows, if their patterns can stand
-- together
abbrev pub resolvers_after :
    List Row → List Resolver → List (Members × Values) → Option (List Resolver)
resolvers_after rows made [] = Some made
resolvers_after rows made (member ∷ more) =
    option_and_then (λ resolver. resolvers_after rows (made ++ resolver ∷ []) more)
    (resolver_from rows member.1)

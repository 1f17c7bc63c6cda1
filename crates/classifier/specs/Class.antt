-- The class of a request.
use Rattle.std.specs.Prelude.{ℕ, Bool, ◌&&◌, List, find, Option, Some, None, option_map, option_and_then, unwrap_or, is_some, bytes_eq, nat_eq, nat_lt, if◌then◌else◌}
use Rattle.std.specs.List.{list_any, starts_with}
use Rattle.matchit.specs.Seek.{first}
use Rattle.partitions.specs.declared.part.Part.{Part}
use Rattle.partitions.specs.declared.part.Part.TheVariants.{Unknown}
use Rattle.partitions.specs.Table.{Row, find_part, place_of}
use Rattle.message_parts.specs.Header.{Header}
use Rattle.message_parts.specs.Names.{same_name}
use Rattle.message_parts.specs.declared.request.Request.{Request}
use Rattle.classifier.specs.Rules.{RulesValue}
use Rattle.classifier.specs.declared.bypass.Bypass.{Bypass}
use Rattle.classifier.specs.declared.bypass.Bypass.TheVariants as Rule
use Rattle.classifier.specs.declared.class.Class.{Class}
use Rattle.classifier.specs.declared.resolver.Resolver.{Resolver}
use Rattle.classifier.specs.declared.resolver.Resolver.TheVariants as Read

-- the value of the first header line of a name
abbrev pub header_value : List ℕ → List Header → Option (List ℕ)
header_value name lines =
    option_map (λ line. line.value) (find (λ line. same_name line.name name) lines)

-- the line has this name and exactly this value
abbrev pub has_line : List ℕ → List ℕ → Header → Bool
has_line name value line = same_name line.name name && bytes_eq line.value value

-- the part, where it is a partition of the table
abbrev pub held_part : List Row → Part → Option Part
held_part rows part = if nat_lt (place_of rows part) 4 then Some part else None

-- the partition that a resolver gives for a request
abbrev pub resolved_part : List Row → Request → Resolver → Option Part
resolved_part rows request (Read.Header name) =
    option_and_then (find_part rows) (header_value name request.headers)
resolved_part rows request (Read.Method method part) =
    if bytes_eq request.method method then held_part rows part else None
resolved_part rows request (Read.Route routes) =
    option_and_then (λ route. held_part rows route.value) (first routes request.path)

-- what the first resolver that gives a partition gives
abbrev pub first_part : List Row → Request → List Resolver → Option Part
first_part rows request resolvers =
    option_and_then (resolved_part rows request)
    (find (λ resolver. is_some (resolved_part rows request resolver)) resolvers)

-- the bypass rule holds for the request
abbrev pub is_bypassed_by : Request → Bypass → Bool
is_bypassed_by request (Rule.Method method) = bytes_eq request.method method
is_bypassed_by request (Rule.Prefix prefix) = starts_with nat_eq request.path prefix
is_bypassed_by request (Rule.HeaderEquals name value) =
    list_any (has_line name value) request.headers

-- the class of a request: some bypass rule holds, and the first partition that a resolver gives,
-- or unknown
abbrev pub class_of : RulesValue → List Row → Request → Class
class_of rules rows request = record {
  bypass = list_any (is_bypassed_by request) rules.bypass;
  part = unwrap_or (first_part rows request rules.resolvers) Unknown;
}

-- The table of keys: what each is called, which there are, in the order in which faults are looked
-- for, and what each may hold. The share of a class is written in percent by version 1, and in
-- thousandths by version 2; a limit without numbers, the places of a class, the connections that
-- are kept and the bodies that are held are keys of version 2 alone, and off unless they are
-- written. All else is that of both.
use Rattle.std.specs.Prelude.{ℕ, Bool, true, List, [], ◌∷◌, ◌++◌, map, Option, Some, None, codes}
use Rattle.limit_laws.specs.Algorithm.{greatest_limit}
use Rattle.aimd.specs.AimdRules.{least_ratio, greatest_ratio}
use Rattle.vegas.specs.VegasRules.{most_queue, most_probe}
use Rattle.windowed.specs.Totals.{most_samples}
use Rattle.limit_kinds.specs.declared.kinds.LimitKind.{LimitKind}
use Rattle.limit_kinds.specs.declared.kinds.LimitKind.TheVariants.{Fixed, Settable, Aimd, Vegas, Auto}
use Rattle.limit_kinds.specs.Kinds.{kind_word, kind_words}
use Rattle.gate_config.specs.declared.key.Key.{Key}
use Rattle.gate_config.specs.declared.key.Section.{Section}
use Rattle.gate_config.specs.declared.key.Section.TheVariants as In
use Rattle.gate_config.specs.declared.version.Version.{Version}
use Rattle.gate_config.specs.declared.version.Version.TheVariants.{One, Two}

-- what the keys of a section begin with
abbrev pub prefix_of : Section → List ℕ
prefix_of In.Top = []
prefix_of In.Limit = codes "limit."
prefix_of In.Window = codes "window."
prefix_of In.Class = codes "class."
prefix_of In.Resolver = codes "resolver."
prefix_of In.Bypass = codes "bypass."

-- the section that has a key
abbrev pub section_of : Key → Section
section_of Key.Version = In.Top
section_of Key.Listen = In.Top
section_of Key.Backend = In.Top
section_of Key.Backlog = In.Top
section_of Key.Wait = In.Top
section_of Key.TimeoutMs = In.Top
section_of Key.Clients = In.Top
section_of Key.ClientIdleMs = In.Top
section_of Key.Backends = In.Top
section_of Key.BackendIdleMs = In.Top
section_of Key.BodiesMib = In.Top
section_of Key.Keep = In.Top
section_of Key.Promote = In.Top
section_of Key.Limit = In.Top
section_of Key.LimitKind = In.Limit
section_of Key.LimitMin = In.Limit
section_of Key.LimitMax = In.Limit
section_of Key.LimitInitial = In.Limit
section_of Key.LimitRatio = In.Limit
section_of Key.LimitTimeoutUs = In.Limit
section_of Key.LimitAlpha = In.Limit
section_of Key.LimitBeta = In.Limit
section_of Key.LimitProbeEvery = In.Limit
section_of Key.Window = In.Top
section_of Key.WindowSize = In.Window
section_of Key.WindowMinUs = In.Window
section_of Key.WindowMaxUs = In.Window
section_of Key.WindowMinRttUs = In.Window
section_of Key.Class = In.Top
section_of Key.ClassName = In.Class
section_of Key.ClassPercent = In.Class
section_of Key.ClassShare = In.Class
section_of Key.ClassPlaces = In.Class
section_of Key.Resolver = In.Top
section_of Key.ResolverKind = In.Resolver
section_of Key.ResolverHeader = In.Resolver
section_of Key.ResolverMethod = In.Resolver
section_of Key.ResolverClass = In.Resolver
section_of Key.ResolverRoutes = In.Resolver
section_of Key.Bypass = In.Top
section_of Key.BypassKind = In.Bypass
section_of Key.BypassMethod = In.Bypass
section_of Key.BypassPrefix = In.Bypass
section_of Key.BypassHeader = In.Bypass
section_of Key.BypassEquals = In.Bypass

-- the name of a key in its section
abbrev pub name_of : Key → List ℕ
name_of Key.Version = codes "version"
name_of Key.Listen = codes "listen"
name_of Key.Backend = codes "backend"
name_of Key.Backlog = codes "backlog"
name_of Key.Wait = codes "wait"
name_of Key.TimeoutMs = codes "timeout_ms"
name_of Key.Clients = codes "clients"
name_of Key.ClientIdleMs = codes "client_idle_ms"
name_of Key.Backends = codes "backends"
name_of Key.BackendIdleMs = codes "backend_idle_ms"
name_of Key.BodiesMib = codes "bodies_mib"
name_of Key.Keep = codes "keep"
name_of Key.Promote = codes "promote"
name_of Key.Limit = codes "limit"
name_of Key.LimitKind = codes "kind"
name_of Key.LimitMin = codes "min"
name_of Key.LimitMax = codes "max"
name_of Key.LimitInitial = codes "initial"
name_of Key.LimitRatio = codes "ratio"
name_of Key.LimitTimeoutUs = codes "timeout_us"
name_of Key.LimitAlpha = codes "alpha"
name_of Key.LimitBeta = codes "beta"
name_of Key.LimitProbeEvery = codes "probe_every"
name_of Key.Window = codes "window"
name_of Key.WindowSize = codes "size"
name_of Key.WindowMinUs = codes "min_us"
name_of Key.WindowMaxUs = codes "max_us"
name_of Key.WindowMinRttUs = codes "min_rtt_us"
name_of Key.Class = codes "class"
name_of Key.ClassName = codes "name"
name_of Key.ClassPercent = codes "percent"
name_of Key.ClassShare = codes "share"
name_of Key.ClassPlaces = codes "places"
name_of Key.Resolver = codes "resolver"
name_of Key.ResolverKind = codes "kind"
name_of Key.ResolverHeader = codes "header"
name_of Key.ResolverMethod = codes "method"
name_of Key.ResolverClass = codes "class"
name_of Key.ResolverRoutes = codes "routes"
name_of Key.Bypass = codes "bypass"
name_of Key.BypassKind = codes "kind"
name_of Key.BypassMethod = codes "method"
name_of Key.BypassPrefix = codes "prefix"
name_of Key.BypassHeader = codes "header"
name_of Key.BypassEquals = codes "equals"

-- a key's dotted path
abbrev pub path_of : Key → List ℕ
path_of key = prefix_of (section_of key) ++ name_of key

-- an end of a range: a number, the number of an earlier key of the section, what the classes so far
-- leave of a hundred percent or of a thousand thousandths, or what `backlog` and they leave of the
-- ten thousand places that there may be
pub data Bound : Type 0 where
  at : ℕ → Bound
  of : List ℕ → Bound
  left_of_hundred : Bound
  left_of_thousand : Bound
  left_of_places : Bound

-- what a key holds
pub data Holds : Type 0 where
  -- a whole number in a range, with its default, or required
  number : Bound → Bound → Option ℕ → Holds
  -- a boolean with its default
  flag : Bool → Holds
  -- one of some words, with its default
  choice : List (List ℕ) → List ℕ → Holds
  -- a required text: an address, one of some words, a partition's name that no class has yet, a
  -- class's name, a token, a path's beginning, or any text
  address : Holds
  word : List (List ℕ) → Holds
  new_name : Holds
  class_name : Holds
  token : Holds
  prefix : Holds
  text : Holds
  -- a required table of patterns, each with a class's name
  routes : Holds

-- a key, the kinds of its section that have it (all kinds where none is named), and what it holds
pub record Row : Type 0 where
  pub key : Key
  pub kinds : List (List ℕ)
  pub holds : Holds

abbrev pub row : Key → Holds → Row
row key holds = record { key = key; kinds = []; holds = holds }

-- the row of a key that only some kinds have
abbrev pub row_for : List (List ℕ) → Key → Holds → Row
row_for kinds key holds = record { key = key; kinds = kinds; holds = holds }

-- the words of the kinds of limit in a version
abbrev pub kinds_in : Version → List (List ℕ)
kinds_in One = map kind_word (Fixed ∷ Settable ∷ Aimd ∷ Vegas ∷ [])
kinds_in Two = kind_words

-- the words of one kind of limit, of those that move by numbers, and of those that are not fixed
abbrev pub only : LimitKind → List (List ℕ)
only kind = kind_word kind ∷ []

abbrev pub moving : List (List ℕ)
moving = map kind_word (Settable ∷ Aimd ∷ Vegas ∷ [])

abbrev pub unfixed : List (List ℕ)
unfixed = map kind_word (Settable ∷ Aimd ∷ Vegas ∷ Auto ∷ [])

abbrev pub newest : List ℕ
newest = codes "newest"

abbrev pub all : List ℕ
all = codes "all"

-- the rules of promotion
abbrev pub promote_rules : List (List ℕ)
promote_rules = newest ∷ all ∷ []

-- addresses, and who waits
abbrev pub front_rows : List Row
front_rows =
    row Key.Listen address
    ∷ row Key.Backend address
    ∷ row Key.Backlog (number (at 0) (at 10000) (Some 100))
    ∷ row Key.Wait (flag true)
    ∷ row Key.TimeoutMs (number (at 1) (at 3600000) (Some 1000))
    ∷ []

-- the connections that are kept, and the bodies that are held: by default as many as there can be
abbrev pub kept_rows : Version → List Row
kept_rows One = []
kept_rows Two =
    row Key.Clients (number (at 0) (at 10000) (Some 0))
    ∷ row Key.ClientIdleMs (number (at 1) (at 3600000) (Some 60000))
    ∷ row Key.Backends (number (at 0) (at 4096) (Some 0))
    ∷ row Key.BackendIdleMs (number (at 1) (at 3600000) (Some 1000))
    ∷ row Key.BodiesMib (number (at 16) (at 1048576) (Some 1048576))
    ∷ []

-- the history, and who is promoted
abbrev pub gate_rows : List Row
gate_rows =
    row Key.Keep (number (at 1) (at 1000000) (Some 4096))
    ∷ row Key.Promote (choice promote_rules newest)
    ∷ []

-- the keys outside all tables
abbrev pub top_rows : Version → List Row
top_rows version = front_rows ++ kept_rows version ++ gate_rows

-- what each limit has that moves by numbers
abbrev pub moving_rows : List Row
moving_rows =
    row_for unfixed Key.LimitMin (number (at 1) (at greatest_limit) (Some 1))
    ∷ row_for moving Key.LimitMax (number (of (codes "min")) (at greatest_limit) (Some 200))
    ∷ row_for moving Key.LimitInitial (number (of (codes "min")) (of (codes "max")) (Some 20))
    ∷ []

-- the numbers of a limit
abbrev pub number_rows : List Row
number_rows =
    moving_rows
    ++ row_for (only Fixed) Key.LimitInitial (number (at 1) (at greatest_limit) (Some 20))
    ∷ row_for (only Auto) Key.LimitMax
    (number (of (codes "min")) (at greatest_limit) (Some greatest_limit))
    ∷ row_for (only Auto) Key.LimitInitial (number (of (codes "min")) (of (codes "max")) (Some 4))
    ∷ row_for (only Aimd) Key.LimitRatio (number (at least_ratio) (at greatest_ratio) (Some 900))
    ∷ row_for (only Aimd) Key.LimitTimeoutUs (number (at 1) (at 3600000000) (Some 5000000))
    ∷ row_for (only Vegas) Key.LimitAlpha (number (at 1) (at most_queue) (Some 3))
    ∷ row_for (only Vegas) Key.LimitBeta (number (of (codes "alpha")) (at most_queue) (Some 6))
    ∷ row_for (only Vegas) Key.LimitProbeEvery (number (at 0) (at most_probe) (Some 0))
    ∷ []

-- the kind of a limit, and its numbers
abbrev pub limit_rows : Version → List Row
limit_rows version = row Key.LimitKind (word (kinds_in version)) ∷ number_rows

abbrev pub window_rows : List Row
window_rows =
    row Key.WindowSize (number (at 1) (at most_samples) (Some 10))
    ∷ row Key.WindowMinUs (number (at 1) (at 3600000000) (Some 1000000))
    ∷ row Key.WindowMaxUs (number (of (codes "min_us")) (at 3600000000) (Some 1000000))
    ∷ row Key.WindowMinRttUs (number (at 0) (at 3600000000) (Some 100))
    ∷ []

abbrev pub share_row : Version → Row
share_row One = row Key.ClassPercent (number (at 1) left_of_hundred None)
share_row Two = row Key.ClassShare (number (at 1) left_of_thousand None)

-- the places of the backlog that are a class's own
abbrev pub places_rows : Version → List Row
places_rows One = []
places_rows Two = row Key.ClassPlaces (number (at 0) left_of_places (Some 0)) ∷ []

abbrev pub class_rows : Version → List Row
class_rows version =
    row Key.ClassName new_name
    ∷ share_row version
    ∷ places_rows version

abbrev pub resolver_kinds : List (List ℕ)
resolver_kinds = codes "header" ∷ codes "method" ∷ codes "route" ∷ []

abbrev pub resolver_rows : List Row
resolver_rows =
    row Key.ResolverKind (word resolver_kinds)
    ∷ row_for (codes "header" ∷ []) Key.ResolverHeader token
    ∷ row_for (codes "method" ∷ []) Key.ResolverMethod token
    ∷ row_for (codes "method" ∷ []) Key.ResolverClass class_name
    ∷ row_for (codes "route" ∷ []) Key.ResolverRoutes routes
    ∷ []

abbrev pub bypass_kinds : List (List ℕ)
bypass_kinds = codes "method" ∷ codes "prefix" ∷ codes "header" ∷ []

abbrev pub bypass_rows : List Row
bypass_rows =
    row Key.BypassKind (word bypass_kinds)
    ∷ row_for (codes "method" ∷ []) Key.BypassMethod token
    ∷ row_for (codes "prefix" ∷ []) Key.BypassPrefix prefix
    ∷ row_for (codes "header" ∷ []) Key.BypassHeader token
    ∷ row_for (codes "header" ∷ []) Key.BypassEquals text
    ∷ []

-- all rows, of each version
abbrev pub all_rows : List Row
all_rows =
    top_rows Two ++ limit_rows Two ++ window_rows ++ class_rows One ++ class_rows Two
    ++ resolver_rows ++ bypass_rows

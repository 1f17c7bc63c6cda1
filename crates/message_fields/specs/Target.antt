-- The target of a request.
use Rattle.std.specs.Prelude.{ℕ, Bool, not, ◌&&◌, ◌||◌, ◌==◌, false, nat_eq, nat_lt, List, [], ◌++◌, length, take, drop, codes, bytes_eq, Option, None, Some, option_map, unwrap_or, if◌then◌else◌}
use Rattle.std.specs.List.{list_any, starts_with, position_or_len, before_first}
use Rattle.message_parts.specs.Names.{same_name}

-- the target is an absolute URI of the scheme `http`
abbrev pub is_absolute : List ℕ → Bool
is_absolute target = same_name (take 7 target) (codes "http://")

-- `/` and `?` end an authority
abbrev pub ends_authority : ℕ → Bool
ends_authority byte = (byte == 47) || (byte == 63)

-- the authority of an absolute target
abbrev pub authority_of : List ℕ → Option (List ℕ)
authority_of target =
    if is_absolute target then Some (before_first ends_authority (drop 7 target)) else None

-- what stands behind an authority
abbrev pub after_authority : List ℕ → List ℕ
after_authority rest = drop (position_or_len ends_authority rest) rest

-- a target without its scheme and authority, where it is absolute
abbrev pub local_part : List ℕ → List ℕ
local_part target = if is_absolute target then after_authority (drop 7 target) else target

-- a `/` has to stand before the local part of the target
abbrev pub wants_slash : List ℕ → Bool
wants_slash target =
    is_absolute target && not (starts_with nat_eq (local_part target) (codes "/"))

-- the target without scheme and authority, with a `/` in front where it was absolute
abbrev pub turned : List ℕ → List ℕ
turned target = (if wants_slash target then codes "/" else []) ++ local_part target

-- the path of a target
abbrev pub path_of : List ℕ → List ℕ
path_of target = before_first (λ byte. byte == 63) (turned target)

-- an authority is not empty and names no user
abbrev pub is_authority : List ℕ → Bool
is_authority authority =
    nat_lt 0 (length authority) && not (list_any (λ byte. byte == 64) authority)

-- the target fits the method: a path, `*` for OPTIONS, or an absolute URI with an authority
abbrev pub is_target : List ℕ → List ℕ → Bool
is_target method target =
    starts_with nat_eq target (codes "/")
    || (bytes_eq target (codes "*") && bytes_eq method (codes "OPTIONS"))
    || unwrap_or (option_map is_authority (authority_of target)) false

-- the whole server is meant: OPTIONS of an absolute URI that ends with its authority
abbrev pub is_whole_server : List ℕ → List ℕ → Bool
is_whole_server method target =
    is_absolute target && bytes_eq method (codes "OPTIONS") && (length (local_part target) == 0)

-- the target that is passed on
abbrev pub forwarded_target : List ℕ → List ℕ → List ℕ
forwarded_target method target =
    if is_whole_server method target then codes "*" else turned target

-- Which texts are addresses.
use Rattle.std.specs.declared.net.socket_addr.SocketAddrV4.{SocketAddrV4}
use Rattle.std.specs.Net.Grammar.{IsSocketV4Text}
use Rattle.std.specs.Net.Reader.{read_socket_v4, whole_value}
use Rattle.std.specs.Net.Socket.{v4_port}
use Rattle.std.specs.Net.Text.{socket_v4_text}
use Rattle.std.specs.Option.{option_map_or}
use Rattle.std.proofs.Common.{◌≡◌, refl, ℕ, Bool, false, ◌&&◌, List, [], ◌∷◌, Option, Some, None, length, append-nil, bytes_eq, nat_le, ◌==◌, arith}
use Rattle.std.proofs.NetLemmas.Sockets.{read_socket_v4_complete, read_socket_v4_sound}
use Rattle.std.proofs.lemmas.Bool.Decides.{nat_tests}
use Rattle.gateway_settings.specs.Address.{is_address}

-- where std reads an address, its text decides
pub is_address_read : (text : List ℕ) (a : SocketAddrV4) → IsSocketV4Text text a
    → is_address text ≡ (bytes_eq (socket_v4_text a) text && nat_le 1 (v4_port a))
unfolding is_address
is_address_read text a spelled = rw (read_socket_v4_complete text a spelled)

-- nothing that is read whole passes a test
whole_none : (test : List ℕ × ℕ → Bool) (r : Option ((List ℕ × ℕ) × List ℕ))
    → ((p : List ℕ × ℕ) → r ≡ Some (p, []) → ⊥) → option_map_or test (whole_value r) false ≡ false
whole_none test None never = refl
whole_none test (Some (p, [])) never = absurd (never p refl)
whole_none test (Some (p, b ∷ rest)) never =
    let longer : (length (b ∷ rest) == 0) ≡ false = grind (arith, nat_tests) in
    rw longer

-- the address of these octets and this port
abbrev socket_of : List ℕ × ℕ → SocketAddrV4
socket_of p = record { ip = record { octets = p.0 }; port = p.1 }

-- where std reads no address there is none
pub is_address_none : (text : List ℕ) → ((a : SocketAddrV4) → ¬ (IsSocketV4Text text a))
    → is_address text ≡ false
unfolding is_address
is_address_none text none =
    whole_none _ (read_socket_v4 text) λ p found.
    let (front, split, spelled) = read_socket_v4_sound text [] (socket_of p) found in
    none (socket_of p) (rw (split, append-nil) spelled)

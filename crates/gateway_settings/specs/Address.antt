-- Addresses as a configuration writes them.
use Rattle.std.specs.Net.Reader.{read_socket_v4, whole_value}
use Rattle.std.specs.Net.Text.{ipv4_text}
use Rattle.std.specs.Option.{option_map_or}
use Rattle.std.specs.Prelude.{ℕ, Bool, false, ◌&&◌, List, ◌++◌, bytes_eq, codes, decimal, nat_le}

-- the text is that of an IPv4 address and a port from 1 up, in decimal with no leading zeros
unfoldable pub is_address : List ℕ → Bool
is_address text =
    option_map_or (λ a. bytes_eq (ipv4_text a.0 ++ codes ":" ++ decimal a.1) text && nat_le 1 a.1)
    (whole_value (read_socket_v4 text)) false

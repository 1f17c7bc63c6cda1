-- How a client names an address.
use Rattle.std.specs.Prelude.{ℕ, ◌==◌, List, if◌then◌else◌}
use Rattle.std.specs.declared.net.socket_addr.SocketAddrV4.{SocketAddrV4}
use Rattle.std.specs.Net.Addr.{ipv4_octets}
use Rattle.std.specs.Net.Socket.{v4_ip, v4_port}
use Rattle.std.specs.Net.Text.{ipv4_text, socket_v4_text}

-- the text of an address, without the port where that is HTTP's
abbrev pub host_of : SocketAddrV4 → List ℕ
host_of a =
    if v4_port a == 80 then ipv4_text (ipv4_octets (v4_ip a)) else socket_v4_text a

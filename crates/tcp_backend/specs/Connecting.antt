-- What a clause reads of a backend over TCP.
use Rattle.std.specs.Prelude.{ℕ, Bool, List, Option, is_some}
use Rattle.std.specs.Net.Text.{socket_v4_text}
use Rattle.tcp_backend.specs.declared.connecting.TcpBackend.{TcpBackend}
use Rattle.tcp_backend.specs.declared.dialing.Dialer.{Dialer}

-- how often it was asked for a connection
abbrev pub dialed_of : {R S : Type 0} → Dialer R S → ℕ
dialed_of dialer = dialer.connects

-- whether it keeps connections behind their requests
abbrev pub has_pool : {R S : Type 0} → Dialer R S → Bool
has_pool dialer = is_some dialer.pool

-- the text of the address that it connects to
abbrev pub address_of : {R S : Type 0} → Dialer R S → List ℕ
address_of dialer = socket_v4_text dialer.address

-- what makes its connections
abbrev pub connector_of : {K S W C : Type 0} → TcpBackend K S W C → K
connector_of backend = backend.connector

-- how many requests it was given: it asks once for each
abbrev pub count_of : {R S W C : Type 0} → TcpBackend (Dialer R S) S W C → ℕ
count_of backend = dialed_of (connector_of backend)

-- the host of a request that names none
abbrev pub host_of : {K S W C : Type 0} → TcpBackend K S W C → List ℕ
host_of backend = backend.line.host.bytes

-- how many nanoseconds a call may take, from its connect to the end of its answer, where that is
-- limited
abbrev pub limit_of : {K S W C : Type 0} → TcpBackend K S W C → Option ℕ
limit_of backend = backend.limit.most_ns

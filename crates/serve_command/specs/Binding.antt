-- What listens at a gateway's addresses, and why nothing does.
use Rattle.std.specs.Prelude.{◌⊎◌, ℕ, List, Option, None, Some, IfSome}
use Rattle.std.specs.declared.net.socket_addr.SocketAddrV4.{SocketAddrV4}
use Rattle.std.specs.Net.Text.{socket_v4_text}
use Rattle.serve_command.specs.declared.binding.BoundAddresses.{BoundAddresses}
use Rattle.serve_command.specs.declared.fault.ServiceFault.{ServiceFault}
use Rattle.serve_command.specs.declared.fault.ServiceFault.TheVariants as Service
use Rattle.serve_command.specs.Beside.{IsAdminBound, IsStatusBound}

-- a listener was bound at the address of this text
abbrev pub IsBound : {L : Type 0} → (List ℕ → L → Type 0) → List ℕ → Type 0
IsBound {L} Bound address = (listener : L) × Bound address listener

-- or at that of an operator, where there is one
abbrev pub IsBoundToo : {L : Type 0} → (List ℕ → L → Type 0) → Option SocketAddrV4 → Type 0
IsBoundToo Bound admin = IfSome admin (λ address. IsBound Bound (socket_v4_text address))

-- nothing could be bound at that of an operator
abbrev pub IsUnboundToo : (List ℕ → Type 0) → Option SocketAddrV4 → Type 0
IsUnboundToo Unbound None = ⊥
IsUnboundToo Unbound (Some address) = Unbound (socket_v4_text address)

-- BOUND: at the address of clients, and at those of the operator and of whoever looks, where there
-- are such
pub record AreBound {L : Type 0} (Bound : List ℕ → L → Type 0) (listen : List ℕ)
    (admin status : Option SocketAddrV4) (addresses : BoundAddresses L) : Type 0 where
  pub front : Bound listen addresses.front
  pub operator : IsAdminBound Bound admin addresses.admin
  pub lookers : IsStatusBound Bound status addresses.status

-- WHY NOT ALL ARE BOUND: an address couldn't be bound, of clients, of the operator or of whoever
-- looks; or that of clients was, and memory was lacking
abbrev pub IsOfBinding : {L : Type 0} → (List ℕ → L → Type 0) → (List ℕ → Type 0)
    → List ℕ → Option SocketAddrV4 → Option SocketAddrV4 → ServiceFault → Type 0
IsOfBinding Bound Unbound listen admin status (Service.Config fault) = ⊥
IsOfBinding Bound Unbound listen admin status (Service.Exchanges few) = ⊥
IsOfBinding Bound Unbound listen admin status (Service.Descriptors few) = ⊥
IsOfBinding Bound Unbound listen admin status Service.Listen =
    Unbound listen ⊎ (IsBound Bound listen × IsUnboundToo Unbound admin)
    ⊎ (IsBound Bound listen × IsBoundToo Bound admin × IsUnboundToo Unbound status)
IsOfBinding Bound Unbound listen admin status Service.Memory = IsBound Bound listen
IsOfBinding Bound Unbound listen admin status Service.Thread = ⊥
IsOfBinding Bound Unbound listen admin status Service.Miscounted = ⊥
IsOfBinding Bound Unbound listen admin status Service.Write = ⊥

-- why an operator's address isn't had
abbrev pub IsOfAdmin : (List ℕ → Type 0) → Option SocketAddrV4 → ServiceFault → Type 0
IsOfAdmin Unbound admin (Service.Config fault) = ⊥
IsOfAdmin Unbound admin (Service.Exchanges few) = ⊥
IsOfAdmin Unbound admin (Service.Descriptors few) = ⊥
IsOfAdmin Unbound admin Service.Listen = IsUnboundToo Unbound admin
IsOfAdmin Unbound admin Service.Memory = Unit {0}
IsOfAdmin Unbound admin Service.Thread = ⊥
IsOfAdmin Unbound admin Service.Miscounted = ⊥
IsOfAdmin Unbound admin Service.Write = ⊥

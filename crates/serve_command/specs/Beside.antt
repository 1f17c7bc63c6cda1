-- Who serves at the addresses beside that of clients.
use Rattle.std.specs.Prelude.{◌≡◌, Bool, ℕ, ◌+◌, List, [], ◌++◌, length, All}
use Rattle.std.specs.Prelude.{Option, None, Some, string_bytes}
use Rattle.std.specs.declared.net.socket_addr.SocketAddrV4.{SocketAddrV4}
use Rattle.std.specs.Net.Text.{socket_v4_text}
use Rattle.limit_laws.specs.declared.limit.Limit.{Ghosts as LimitGhosts}
use Rattle.shared_gate.specs.declared.naming.GateNaming.{Ghosts as NamingGhosts}
use Rattle.shared_gate.specs.Calls.{Pass, pass_of}
use Rattle.metrics.specs.declared.page.TheConstants.{PAGE}
use Rattle.operator_calls.specs.declared.audience.Audience.{Audience}
use Rattle.operator_calls.specs.declared.audience.Audience.TheVariants as audience
use Rattle.operator_calls.specs.Host.{host_of}
use Rattle.operator_serving.specs.declared.operating.Operating.{Operating}
use Rattle.operator_serving.specs.Desk.{Deed}
use Rattle.gate_desk.specs.declared.operator.Operator.{Operator}
use Rattle.gate_desk.specs.Operator.{HasLeft, desk_of, serves_at}
use Rattle.gate_desk.specs.State.{DeskState}
use Rattle.serve_command.specs.declared.admin.AdminAddress.{AdminAddress}
use Rattle.serve_command.specs.declared.admin.SideAddresses.{SideAddresses}

-- a pass by which nobody called, and that knows of no entry
abbrev pub IsUnused : Pass → Type 0
IsUnused pass = pass ≡ pass_of 0

-- how many serve at an address, where there is one
abbrev pub count_at : {A : Type 0} → Option A → ℕ
count_at None = 0
count_at (Some at) = 4

-- how many serve at the addresses beside that of clients
abbrev pub count_beside : {L C : Type 0} → SideAddresses L C → ℕ
count_beside side = count_at side.admin + count_at side.status

-- one who serves at an address, and at a desk that stands so
abbrev pub StandsAt : {G M R L C W : Type 0} {g : LimitGhosts G} {m : NamingGhosts M}
    → DeskState L → Operating L C → Operator G M R L C W g m → Type 0
StandsAt begin at operator = (desk_of operator ≡ begin) × (serves_at operator ≡ at)

-- who serves at an address, where there is one: four of them
abbrev pub AreAt : {G M R L C W : Type 0} {g : LimitGhosts G} {m : NamingGhosts M} → DeskState L
    → Option (Operating L C) → List (Operator G M R L C W g m) → Type 0
AreAt begin None operators = operators ≡ []
AreAt begin (Some at) operators =
    (length operators ≡ 4) × All (StandsAt begin at) operators

-- who serves beside the workers: whoever looks is served by the first of them, and then an operator
pub record AreBeside {G M R L C W : Type 0} {g : LimitGhosts G} {m : NamingGhosts M}
    (begin : DeskState L) (side : SideAddresses L C) (operators : List (Operator G M R L C W g m))
    : Type 0 where
  pub lookers : List (Operator G M R L C W g m)
  pub admins : List (Operator G M R L C W g m)
  pub all : operators ≡ lookers ++ admins
  pub status : AreAt begin side.status lookers
  pub admin : AreAt begin side.admin admins

-- how the address has to be named by those whom it is for
abbrev pub name_for : Audience → Option (List ℕ)
name_for (audience.Operator host) = Some host.now
name_for audience.Anyone = None

-- the page that is shown where the address has to be named so, or by any name: the operator's that
-- draws the state, and to whoever looks none
abbrev pub page_for : Option (List ℕ) → List ℕ
page_for None = []
page_for (Some name) = PAGE.now

-- SERVED SO: by what listens there, to those who name it so, with that page; and each of them may
-- take a second to send its request, and again to take its answer
pub record ServesAt {L C : Type 0} (listener : L) (name : Option (List ℕ))
    (operating : Operating L C) : Type 0 where
  pub from : operating.listener.now ≡ listener
  pub named : name_for operating.audience ≡ name
  pub page : operating.page.now ≡ page_for name
  pub time : operating.timeout_ns ≡ 1000000000

-- what serves at an operator's address, where there is one
abbrev pub IsOperatingAt : {L C : Type 0} → Option (AdminAddress L) → Option (Operating L C)
    → Type 0
IsOperatingAt None None = Unit {0}
IsOperatingAt None (Some operating) = ⊥
IsOperatingAt (Some at) None = ⊥
IsOperatingAt (Some at) (Some operating) =
    ServesAt at.listener (Some (string_bytes at.host)) operating

-- what serves at that of whoever looks
abbrev pub IsLookingAt : {L C : Type 0} → Option L → Option (Operating L C) → Type 0
IsLookingAt None None = Unit {0}
IsLookingAt None (Some operating) = ⊥
IsLookingAt (Some listener) None = ⊥
IsLookingAt (Some listener) (Some operating) = ServesAt listener None operating

-- where there is an address this holds of it and of the passes that are left there, and else none
-- is left
abbrev pub LeavesAt : {A : Type 0} → Option A → (A → List Pass → Type 0) → List Pass → Type 0
LeavesAt None P passes = passes ≡ []
LeavesAt (Some at) P passes = P at passes

-- what is done at desks, who came to a listener, how that was found, and how each desk stood at
-- first
module _ {L : Type 0} (does : DeskState L → DeskState L → Deed → Type 0)
    (came : L → Option (List ℕ) → Type 0) (found : L → Bool → Type 0) (begin : DeskState L) where
  -- OPERATED: at each of four desks the clients whom this listener gave there were served one after
  -- the other, until it was found closed; and these are the passes of the desks as they stood then
  pub record AreOperated (listener : L) (audience : Audience) (page : List ℕ) (passes : List Pass)
      : Type 0 where
    pub four : length passes ≡ 4
    pub operated :
        All (HasLeft does (came listener) (found listener) audience page begin) passes

  -- and so they were at an address, where there is one
  abbrev pub AreOperatedAt : {C : Type 0} → Option (Operating L C) → List Pass → Type 0
  AreOperatedAt at = LeavesAt at (λ it. AreOperated it.listener.now it.audience it.page.now)

  -- at both, those of whoever looks first
  pub record AreServedBeside {C : Type 0} (side : SideAddresses L C) (passes : List Pass) : Type 0
    where
      pub lookers : List Pass
      pub admins : List Pass
      pub all : passes ≡ lookers ++ admins
      pub status : AreOperatedAt side.status lookers
      pub admin : AreOperatedAt side.admin admins

  -- for those who have to name the address so, or by any name, with the page that is theirs
  abbrev pub IsServedThere : Option (List ℕ) → L → List Pass → Type 0
  IsServedThere name listener passes =
      (audience : Audience) × (name_for audience ≡ name)
      × AreOperated listener audience (page_for name) passes

  -- OF AN ADDRESS THAT IS BOUND: a listener was bound there, and those were served who came to it
  abbrev pub IsServedAt : (List ℕ → L → Type 0) → Option (List ℕ) → SocketAddrV4 → List Pass
      → Type 0
  IsServedAt Bound name address passes =
      (listener : L) × Bound (socket_v4_text address) listener
      × IsServedThere name listener passes

  -- of that of an operator, who has to name it by its host, and of that of whoever looks
  abbrev pub IsAdminServed : (List ℕ → L → Type 0) → Option SocketAddrV4 → List Pass → Type 0
  IsAdminServed Bound admin =
      LeavesAt admin (λ address. IsServedAt Bound (Some (host_of address)) address)

  abbrev pub IsStatusServed : (List ℕ → L → Type 0) → Option SocketAddrV4 → List Pass → Type 0
  IsStatusServed Bound status = LeavesAt status (IsServedAt Bound None)

-- an operator's address, where there is one, with what listens there and how it has to be named
abbrev pub IsAdminBound : {L : Type 0} → (List ℕ → L → Type 0) → Option SocketAddrV4
    → Option (AdminAddress L) → Type 0
IsAdminBound Bound None None = Unit {0}
IsAdminBound Bound None (Some at) = ⊥
IsAdminBound Bound (Some address) None = ⊥
IsAdminBound Bound (Some address) (Some at) =
    Bound (socket_v4_text address) at.listener × (string_bytes at.host ≡ host_of address)

-- that of whoever looks
abbrev pub IsStatusBound : {L : Type 0} → (List ℕ → L → Type 0) → Option SocketAddrV4
    → Option L → Type 0
IsStatusBound Bound None None = Unit {0}
IsStatusBound Bound None (Some listener) = ⊥
IsStatusBound Bound (Some address) None = ⊥
IsStatusBound Bound (Some address) (Some listener) = Bound (socket_v4_text address) listener

-- Who was served beside the workers of a gateway.
use Rattle.std.proofs.Common.{◌≡◌, ◌∙◌, refl, ap, subst, arith, Bool, ℕ, suc, List, [], ◌∷◌, ◌++◌}
use Rattle.std.proofs.Common.{All, Option, None, Some, length}
use Rattle.std.specs.Prelude.{string_bytes}
use Rattle.std.specs.List.{AllZip}
use Rattle.std.proofs.lemmas.List.Elements.{All-cons, All-head, All-nil, All-tail}
use Rattle.std.specs.declared.net.socket_addr.SocketAddrV4.{SocketAddrV4}
use Rattle.limit_laws.specs.declared.limit.Limit.{Ghosts as LimitGhosts}
use Rattle.shared_gate.specs.declared.naming.GateNaming.{Ghosts as NamingGhosts}
use Rattle.shared_gate.specs.Calls.{Pass}
use Rattle.operator_serving.specs.declared.operating.Operating.{Operating}
use Rattle.operator_serving.specs.Desk.{Deed}
use Rattle.gate_desk.specs.declared.operator.Operator.{Operator}
use Rattle.gate_desk.specs.Operator.{HasLeft, desk_of, serves_at}
use Rattle.gate_desk.specs.State.{DeskState}
use Rattle.serve_command.specs.declared.admin.AdminAddress.{AdminAddress}
use Rattle.serve_command.specs.declared.admin.SideAddresses.{SideAddresses}
use Rattle.serve_command.specs.Beside.{AreAt, AreBeside, AreOperated, AreOperatedAt}
use Rattle.serve_command.specs.Beside.{AreServedBeside}
use Rattle.serve_command.specs.Beside.{IsAdminBound, IsAdminServed, IsLookingAt, IsOperatingAt}
use Rattle.serve_command.specs.Beside.{IsServedThere, IsStatusBound, IsStatusServed, LeavesAt}
use Rattle.serve_command.specs.Beside.{ServesAt, StandsAt}
use Rattle.serve_command.specs.Binding.{IsBoundToo}

-- an operator's address that is bound
pub bound_too : {L : Type 0} (Bound : List ℕ → L → Type 0) (admin : Option SocketAddrV4)
    (at : Option (AdminAddress L)) → IsAdminBound Bound admin at → IsBoundToo Bound admin
bound_too Bound None at bound = tt
bound_too Bound (Some address) None bound = absurd bound
bound_too Bound (Some address) (Some at) bound = (at.listener, bound.0)

module _ {L C : Type 0} (does : DeskState L → DeskState L → Deed → Type 0)
    (came : L → Option (List ℕ) → Type 0) (found : L → Bool → Type 0) where
  -- what was served at an address
  abbrev pub Served : Operating L C → DeskState L → Pass → Type 0
  Served at = HasLeft does (came at.listener.now) (found at.listener.now) at.audience at.page.now

module _ {L : Type 0} (G M R C W : Type 0) (g : LimitGhosts G) (m : NamingGhosts M)
    (does : DeskState L → DeskState L → Deed → Type 0) (came : L → Option (List ℕ) → Type 0)
    (found : L → Bool → Type 0) (begin : DeskState L) where
  abbrev One : Type 0
  One = Operator G M R L C W g m

  -- what one of them made
  abbrev Made : One → Pass → Type 0
  Made operator = Served does came found (serves_at operator) (desk_of operator)

  abbrev Begins : Operating L C → One → Type 0
  Begins = StandsAt begin

  -- whoever serves at an address, and at a desk that stands so at first
  one : (at : Operating L C) (operator : One) (pass : Pass) → Begins at operator
      → Made operator pass → Served does came found at begin pass
  one at operator pass begins served =
      subst (λ (o : Operating L C). Served does came found o begin pass) begins.1
      (subst (λ (d : DeskState L). Served does came found (serves_at operator) d pass) begins.0
      served)

  all : (at : Operating L C) (operators : List One) (passes : List Pass)
      → All (Begins at) operators → AllZip Made operators passes
      → (length passes ≡ length operators) × All (Served does came found at begin) passes
  all at [] [] begins made = (refl, All-nil (Served does came found at begin))
  all at [] (p ∷ ps) begins made = absurd made
  all at (o ∷ os) [] begins made = absurd made
  all at (o ∷ os) (p ∷ ps) begins made =
      let rest = all at os ps (All-tail (Begins at) o os begins) made.1 in (
        ap suc rest.0,
        All-cons (Served does came found at begin) p ps
            (one at o p (All-head (Begins at) o os begins) made.0) rest.1,
      )

  none : (operators : List One) (passes : List Pass) → operators ≡ []
      → AllZip Made operators passes → passes ≡ []
  none [] [] is made = refl
  none [] (p ∷ ps) is made = absurd made
  none (o ∷ os) passes is made = absurd (omega (arith, ap length is))

  all_at : (at : Option (Operating L C)) (operators : List One) (passes : List Pass)
      → AreAt begin at operators → AllZip Made operators passes
      → AreOperatedAt does came found begin at passes
  all_at None operators passes are made = none operators passes are made
  all_at (Some at) operators passes are made =
      let served = all at operators passes are.1 made in
      record { four = served.0 ∙ are.0; operated = served.1 }

  -- those of joined lists come apart
  apart : (xs ys : List One) (passes : List Pass) → AllZip Made (xs ++ ys) passes
      → (front : List Pass) × (back : List Pass) × (passes ≡ front ++ back)
      × AllZip Made xs front × AllZip Made ys back
  apart [] ys passes made = ([], passes, refl, tt, made)
  apart (x ∷ xs) ys [] made = absurd made
  apart (x ∷ xs) ys (p ∷ ps) made =
      let rest = apart xs ys ps made.1 in (
        p ∷ rest.0,
        rest.1,
        ap (λ (qs : List Pass). p ∷ qs) rest.2,
        (made.0, rest.3),
        rest.4,
      )

  -- those at both addresses
  pub beside : (side : SideAddresses L C) (operators : List One) (passes : List Pass)
      → AreBeside begin side operators → AllZip Made operators passes
      → AreServedBeside does came found begin side passes
  beside side operators passes are made =
      let both = apart are.lookers are.admins passes
      (subst (λ (os : List One). AllZip Made os passes) are.all made) in
      record {
        lookers = both.0;
        admins = both.1;
        all = both.2;
        status = all_at side.status are.lookers both.0 are.status both.3;
        admin = all_at side.admin are.admins both.1 are.admin both.4;
      }

module _ {L : Type 0} (does : DeskState L → DeskState L → Deed → Type 0)
    (came : L → Option (List ℕ) → Type 0) (found : L → Bool → Type 0) (begin : DeskState L) where
  abbrev There : Option (List ℕ) → L → List Pass → Type 0
  There = IsServedThere does came found begin

  -- whoever serves so served there
  there : {C : Type 0} (listener : L) (name : Option (List ℕ)) (at : Operating L C)
      (passes : List Pass) → ServesAt listener name at
      → AreOperatedAt does came found begin (Some at) passes → There name listener passes
  there listener name at passes is served =
      subst (λ (l : L). There name l passes) is.from (
        at.audience,
        is.named,
        subst (λ (page : List ℕ). AreOperated does came found begin at.listener.now at.audience
            page passes) is.page served,
      )

  -- by what listens at an operator's address
  pub admin_there : {C : Type 0} (admin : Option (AdminAddress L)) (at : Option (Operating L C))
      (passes : List Pass)
      → IsOperatingAt admin at → AreOperatedAt does came found begin at passes
      → LeavesAt admin (λ it. There (Some (string_bytes it.host)) it.listener) passes
  admin_there None None passes is served = served
  admin_there None (Some at) passes is served = absurd is
  admin_there (Some it) None passes is served = absurd is
  admin_there (Some it) (Some at) passes is served =
      there it.listener (Some (string_bytes it.host)) at passes is served

  -- and at that of whoever looks
  pub status_there : {C : Type 0} (status : Option L) (at : Option (Operating L C))
      (passes : List Pass)
      → IsLookingAt status at → AreOperatedAt does came found begin at passes
      → LeavesAt status (There None) passes
  status_there None None passes is served = served
  status_there None (Some at) passes is served = absurd is
  status_there (Some it) None passes is served = absurd is
  status_there (Some it) (Some at) passes is served = there it None at passes is served

module _ {L : Type 0} (does : DeskState L → DeskState L → Deed → Type 0)
    (came : L → Option (List ℕ) → Type 0) (found : L → Bool → Type 0) (begin : DeskState L)
    (Bound : List ℕ → L → Type 0) where
  -- what was bound for an operator is what served
  pub admin_served : (address : Option SocketAddrV4) (admin : Option (AdminAddress L))
      (passes : List Pass) → IsAdminBound Bound address admin
      → LeavesAt admin (λ it. IsServedThere does came found begin (Some (string_bytes it.host))
      it.listener) passes
      → IsAdminServed does came found begin Bound address passes
  admin_served None None passes bound served = served
  admin_served None (Some it) passes bound served = absurd bound
  admin_served (Some address) None passes bound served = absurd bound
  admin_served (Some address) (Some it) passes bound served = (
    it.listener,
    bound.0,
    subst (λ (host : List ℕ). IsServedThere does came found begin (Some host) it.listener passes)
        bound.1 served,
  )

  -- and what was bound for whoever looks
  pub status_served : (address : Option SocketAddrV4) (status : Option L) (passes : List Pass)
      → IsStatusBound Bound address status
      → LeavesAt status (IsServedThere does came found begin None) passes
      → IsStatusServed does came found begin Bound address passes
  status_served None None passes bound served = served
  status_served None (Some it) passes bound served = absurd bound
  status_served (Some address) None passes bound served = absurd bound
  status_served (Some address) (Some it) passes bound served = (it, bound, served)

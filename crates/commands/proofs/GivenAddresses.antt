-- Addresses that the words give, read by their texts.
use Rattle.std.proofs.Common.{rules, ◌≡◌, ◌∙◌, sym, refl, subst, ap, ℕ, List, Option, Some, None, Result}
use Rattle.std.proofs.NetLemmas.Theorems.{IsSocketV4Text_unique}
use Rattle.std.specs.Net.Grammar.{IsSocketV4Text, Parses}
use Rattle.std.specs.declared.net.parser.AddrParseError.{AddrParseError}
use Rattle.std.specs.declared.net.socket_addr.SocketAddrV4.{SocketAddrV4}
use Rattle.clap.specs.Words.{ReadsOne, Row}
use Rattle.commands.specs.Values.{HasAddress}

abbrev pub Gives : List ℕ → Result SocketAddrV4 AddrParseError → Type 0
Gives text result = Parses IsSocketV4Text text result

-- an address that was read is that of the text
pub read_address : (o p : Option (List ℕ)) (r : Option SocketAddrV4) (a : SocketAddrV4) → o ≡ p
    → r ≡ Some a → (o ≡ None → r ≡ None)
    → ((t : List ℕ) → o ≡ Some t → ReadsOne Gives t r)
    → (t : List ℕ) × (p ≡ Some t) × IsSocketV4Text t a
read_address None p r a e is none value = search rules
read_address (Some t) p r a e is none value =
    (t, sym e, subst (λ q. ReadsOne Gives t q) is (value t refl))

-- a text that is an address is read as that address
pub address_reads : (o p : Option (List ℕ)) (r : Option SocketAddrV4) (a : SocketAddrV4)
    (t : List ℕ) → o ≡ p → ((u : List ℕ) → o ≡ Some u → ReadsOne Gives u r) → p ≡ Some t
    → IsSocketV4Text t a → r ≡ Some a
address_reads o p None a t same value is text =
    let read = value t (same ∙ is) in absurd (read.1 a text)
address_reads o p (Some b) a t same value is text =
    ap Some (IsSocketV4Text_unique t b a (value t (same ∙ is)) text)

taken : SocketAddrV4 → Option SocketAddrV4 → SocketAddrV4
taken a None = a
taken a (Some b) = b

-- what is read is one address
pub one_address : (r : Option SocketAddrV4) (a b : SocketAddrV4) → r ≡ Some a → r ≡ Some b → a ≡ b
unfolding taken
one_address r a b one other = ap (λ (o : Option SocketAddrV4). taken a o) (sym one ∙ other)

-- the rows have one address for an option
pub address_same : (rows : List Row) (id : List ℕ) (a b : SocketAddrV4) → HasAddress rows id a
    → HasAddress rows id b → a ≡ b
address_same rows id a b one other =
    let same : Some one.0 ≡ Some other.0 = sym one.1 ∙ other.1 in
    let text : one.0 ≡ other.0 = search rules in
    IsSocketV4Text_unique other.0 a b (subst (λ t. IsSocketV4Text t a) text one.2) other.2

-- Field names.
use Rattle.std.proofs.Common.{rules, ◌≡◌, ◌≢◌, ◌↔◌, ℕ, Bool, true, false, List, length, map, refl, sym, ◌∙◌, ap, IsTrue}
use Rattle.std.specs.Prelude.{bytes_eq, codes}
use Rattle.std.specs.Char.{to_ascii_lowercase}
use Rattle.std.proofs.lemmas.Slice.Eq.{bytes_eq-Decides}
use Rattle.lemmas.proofs.Tests.{bytes_eq-lengths}
use Rattle.message_parts.specs.Names.{same_name}

-- a test of the two lower-case names
pub same_name-test : (test : Bool) (one other : List ℕ) →
    (IsTrue test ↔ (map to_ascii_lowercase one ≡ map to_ascii_lowercase other)) →
    test ≡ same_name one other
unfolding same_name
same_name-test test one other agrees =
    let decides = bytes_eq-Decides (map to_ascii_lowercase one) (map to_ascii_lowercase other) in
    search rules

-- names of different lengths aren't the same
pub other_length : (one other : List ℕ) → length one ≢ length other → same_name one other ≡ false
unfolding same_name
other_length one other differ = bytes_eq-lengths to_ascii_lowercase one other differ

-- names that are the same are the same as others
pub same_as : (one other known : List ℕ) → same_name one other ≡ true
    → same_name one known ≡ same_name other known
unfolding same_name
same_as one other known same =
    let low : List ℕ = map to_ascii_lowercase one in
    let lower : List ℕ = map to_ascii_lowercase other in
    ap (λ text. bytes_eq text (map to_ascii_lowercase known))
    ((bytes_eq-Decides low lower).0 same)

-- names as most write them
pub usual_connection : same_name (codes "Connection") (codes "connection") ≡ true
unfolding same_name
usual_connection = refl

pub usual_length : same_name (codes "Content-Length") (codes "content-length") ≡ true
unfolding same_name
usual_length = refl

pub usual_host : same_name (codes "Host") (codes "host") ≡ true
unfolding same_name
usual_host = refl

-- a name that is written so is the same
pub written_so : (test : Bool) (name usual other : List ℕ) → test ≡ true → name ≡ usual
    → same_name usual other ≡ true → test ≡ same_name name other
written_so test name usual other found is same =
    found ∙ sym same ∙ sym (ap (λ n. same_name n other) is)

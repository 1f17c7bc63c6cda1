-- The numbers that a pass sees, from call to call.
use Rattle.std.specs.Prelude.{◌≡◌, ℕ, ◌<◌, ◌≤◌, List, [], ◌∷◌, map}
use Rattle.gate_ledgers.specs.Receipt.{Told}
use Rattle.audit.specs.Accepted.{NumbersRise}
use Rattle.audit.specs.Firsts.{EachHas}
use Rattle.audit.specs.Verdict.{Audit, IsFirstCause}
use Rattle.audit.specs.declared.cause.Cause.TheVariants.{Order}

-- a call by a pass: what the pass had seen, the receipt, and what it has seen then
pub record SeenCall : Type 0 where
  pub before : ℕ
  pub receipt : Told
  pub after : ℕ

-- a receipt has no number that the pass had seen as below it, and the pass has seen it then
abbrev pub IsSeen : SeenCall → Type 0
IsSeen call = (call.before ≤ call.receipt.number) × (call.receipt.number < call.after)

-- THE CALLS OF ONE PASS, in their order, from a number that it has seen: it sees each, and between
-- two calls what it has seen gets no less
abbrev pub AreOfOnePass : ℕ → List SeenCall → Type 0
AreOfOnePass seen [] = Unit {0}
AreOfOnePass seen (call ∷ calls) =
    (seen ≤ call.before) × IsSeen call × AreOfOnePass call.after calls

-- their receipts
abbrev pub receipts_of : List SeenCall → List Told
receipts_of calls = map (λ call. call.receipt) calls

-- THE RECEIPTS OF A PASS RISE, whether its gate rolls or not
abbrev pub ReceiptsOfAPassRise : Type 0
ReceiptsOfAPassRise =
    (seen : ℕ) (calls : List SeenCall) → AreOfOnePass seen calls → NumbersRise (receipts_of calls)

-- ORDER IS NEVER THE CAUSE of an audit of lists that were kept in the order of one pass's calls
abbrev pub OrderIsNeverTheCause : Type 0
OrderIsNeverTheCause = (a : Audit)
    → EachHas (λ number list.
    (calls : List SeenCall) × AreOfOnePass 0 calls × (list.items ≡ receipts_of calls)) a.kept
    → (list place : ℕ) → ¬ IsFirstCause a (Order list place)

-- Requests whose bodies weren't held, by the status of their answer.
use Rattle.std.proofs.Common.{◌≡◌, ◌⊎◌, ℕ, Bool, true, false, true≢false, eqb, refl, sym, ap, inl, inr}
use Rattle.std.specs.Prelude.{Option, Some, None}
use Rattle.wire.specs.declared.fault.WireFault.{WireFault}
use Rattle.wire.specs.declared.fault.WireFault.TheVariants as fault
use Rattle.proxy.specs.Table.{fault_status}

-- the status is that of a body that isn't held
abbrev is_unheld : Option ℕ → Bool
is_unheld None = false
is_unheld (Some status) = eqb status 503

abbrev is_bodies : WireFault → Bool
is_bodies fault.Bodies = true
is_bodies f = false

-- no other fault has this status
pub by_status : (f : WireFault) → fault_status f ≡ fault_status fault.Bodies → f ≡ fault.Bodies
by_status fault.Bodies same = refl
by_status fault.Memory same = absurd (true≢false (sym (ap is_unheld same)))
by_status fault.Read same = absurd (true≢false (sym (ap is_unheld same)))
by_status fault.Write same = absurd (true≢false (sym (ap is_unheld same)))
by_status fault.Early same = absurd (true≢false (sym (ap is_unheld same)))
by_status fault.Malformed same = absurd (true≢false (sym (ap is_unheld same)))
by_status fault.HeadTooLarge same = absurd (true≢false (sym (ap is_unheld same)))
by_status fault.BodyTooLarge same = absurd (true≢false (sym (ap is_unheld same)))
by_status fault.Coding same = absurd (true≢false (sym (ap is_unheld same)))
by_status fault.BothLengths same = absurd (true≢false (sym (ap is_unheld same)))
by_status fault.TurnLimit same = absurd (true≢false (sym (ap is_unheld same)))
by_status fault.Method same = absurd (true≢false (sym (ap is_unheld same)))

pub is_or_not : (f : WireFault) → (f ≡ fault.Bodies) ⊎ (f ≡ fault.Bodies → ⊥)
is_or_not fault.Bodies = inl refl
is_or_not fault.Memory = inr (λ e. true≢false (sym (ap is_bodies e)))
is_or_not fault.Read = inr (λ e. true≢false (sym (ap is_bodies e)))
is_or_not fault.Write = inr (λ e. true≢false (sym (ap is_bodies e)))
is_or_not fault.Early = inr (λ e. true≢false (sym (ap is_bodies e)))
is_or_not fault.Malformed = inr (λ e. true≢false (sym (ap is_bodies e)))
is_or_not fault.HeadTooLarge = inr (λ e. true≢false (sym (ap is_bodies e)))
is_or_not fault.BodyTooLarge = inr (λ e. true≢false (sym (ap is_bodies e)))
is_or_not fault.Coding = inr (λ e. true≢false (sym (ap is_bodies e)))
is_or_not fault.BothLengths = inr (λ e. true≢false (sym (ap is_bodies e)))
is_or_not fault.TurnLimit = inr (λ e. true≢false (sym (ap is_bodies e)))
is_or_not fault.Method = inr (λ e. true≢false (sym (ap is_bodies e)))

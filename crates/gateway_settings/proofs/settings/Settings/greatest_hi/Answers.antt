use Rattle.std.proofs.Common.{rules, ◌≡◌, ℕ, ◌-◌, ◌∙◌, Bool, true, false, nat_le, sym}
use Rattle.gateway_settings.specs.Exchanges.{wanted}
use Rattle.gateway_settings.proofs.Greatest.{greatest-below, greatest-top}
use Rattle.gateway_settings.proofs.settings.Settings.greatest_hi.Goals as goal

pub loop-hi-preserved : goal.loop-hi-preserved
loop-hi-preserved c =
    let n = c.args.exchanges in
    let test : ℕ → Bool = λ hi. nat_le (wanted n c.args.self.now hi) n in
    let hi : ℕ = c.loop-hi.hi in
    let fails : test hi ≡ false = search rules in
    greatest-below test hi (hi - 1) (search rules) fails ∙ c.loop-hi.invariant

pub returns-else-from-most-clause-value : goal.returns-else-from-most-clause-value
returns-else-from-most-clause-value c =
    let n = c.args.exchanges in
    let test : ℕ → Bool = λ hi. nat_le (wanted n c.args.self.now hi) n in
    let passes : test c.loop-hi.hi ≡ true = search rules in
    sym (greatest-top test c.loop-hi.hi (λ _. passes)) ∙ c.loop-hi.invariant

pub returns-after-loop-hi-clause-value : goal.returns-after-loop-hi-clause-value
returns-after-loop-hi-clause-value c =
    let n = c.args.exchanges in
    let test : ℕ → Bool = λ hi. nat_le (wanted n c.args.self.now hi) n in
    sym (greatest-top test c.loop-hi.hi (search rules)) ∙ c.loop-hi.invariant

use Rattle.std.proofs.Common.{sym, ap, ◌∙◌, inl, inr}
use Rattle.limiter_core.specs.declared.event.Event.{Event}
use Rattle.limiter_core.specs.declared.event.Entry.TheVariants.{Call}
use Rattle.limiter_core.specs.Open.{handed_out}
use Rattle.audit.proofs.permits.handed_by.Goals as goal

pub returns-in-Acquire : goal.returns-in-Acquire
returns-in-Acquire c =
    c.admitted.ensures c.in-Acquire.bypass c.in-Acquire.wait
    ∙ ap (λ (e : Event). handed_out c.args.number (Call e c.args.reply.now))
    (sym c.in-Acquire.is)

pub returns-in-Claim : goal.returns-in-Claim
returns-in-Claim c =
    let said = λ (e : Event). handed_out c.args.number (Call e c.args.reply.now) in
    elim c.in-Claim.is [
      | inl claim ↦ c.granted.ensures.claim c.args.number ∙ ap said (sym claim)
      | inr given_up ↦ c.granted.ensures.giving_up c.args.number ∙ ap said (sym given_up)
    ]

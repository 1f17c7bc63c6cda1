use Rattle.std.proofs.Common.{arith, ◌==◌, ◌∙◌, ap, eqb, length-take-le, take, w8}
use Rattle.std.specs.Prelude.{if◌then◌else◌}
use Rattle.std.specs.Int.{trailing_zeros, w64}
use Rattle.std.proofs.lemmas.Simd.{bitmask_splat, first_set_mask_l}
use Rattle.message_reading.proofs.line_len.first_line_feed.Goals as goal

pub returns : goal.returns
returns c =
    let bytes = c.args.bytes.now in
    let long = length-take-le 32 bytes c.requires in
    c.lowest_bit.ensures
    ∙ ap (λ marks. if marks == 0 then 32 else trailing_zeros w64 marks)
    (bitmask_splat w8 eqb (take 32 bytes) 32 10 long (omega arith))
    ∙ first_set_mask_l (λ b. b == 10) (take 32 bytes) 32 long (omega arith)

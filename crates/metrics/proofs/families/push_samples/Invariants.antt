use Rattle.std.proofs.Common.{◌≡◌, ◌++◌, flat_map, string_bytes, take}
use Rattle.metrics.specs.Families.{sample_text}
use Rattle.metrics.proofs.families.push_samples.Given as goal

-- the samples so far
abbrev pub invariant-loop-word : goal.invariant-loop-word
invariant-loop-word l = string_bytes l.text ≡ string_bytes l.fn.text
    ++ flat_map (λ sample. sample_text l.name l.label sample.0.now sample.1)
    (take l.word-index l.samples)

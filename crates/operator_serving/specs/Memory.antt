-- The memory of answers.
use Rattle.std.specs.Prelude.{ℕ}
use Rattle.counted_io.specs.Count.{raised}
use Rattle.wire.specs.declared.fault.WireFault.{WireFault}
use Rattle.wire.specs.declared.fault.WireFault.TheVariants as fault
use Rattle.operator_serving.specs.declared.memory.AnswerMemory.{AnswerMemory}

-- how often it was refused
abbrev pub refused_of : AnswerMemory → ℕ
refused_of memory = memory.refused

-- the same once a request wasn't read, for this fault
abbrev pub refused_by : WireFault → ℕ → ℕ
refused_by fault.Memory n = raised n
refused_by other n = n

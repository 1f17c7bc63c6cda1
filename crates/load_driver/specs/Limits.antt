-- How much a driver takes and keeps, in numbers.
use Rattle.std.specs.Prelude.{ℕ}

-- the most bytes of a script: 16 MiB
abbrev pub most_script : ℕ
most_script = 16777216

-- the most reads that a script may take: 2^25
abbrev pub most_reads : ℕ
most_reads = 33554432

-- how many entries of a script's history are kept where no line says it
abbrev pub kept_entries : ℕ
kept_entries = 100000

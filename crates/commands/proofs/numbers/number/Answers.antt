use Rattle.std.proofs.Common.{rules, arith, ◌≡◌, ◌<◌, ◌^◌, ℕ, List, Option, Some, Result}
use Rattle.std.specs.Str.Parse.{ParsesUnsigned, ExplainsUnsignedError, HasUnsignedDigitsIfOk}
use Rattle.std.specs.declared.num.ParseIntError.{ParseIntError}
use Rattle.clap.specs.Words.{ReadsOne, found_of, one_text, rows_of}
use Rattle.clap.proofs.WalkLemmas.{one_text-rows}
use Rattle.clap.specs.declared.parser.matches.Found.{Found}
use Rattle.commands.specs.Values.{HasNumber}
use Rattle.commands.proofs.GivenNumbers.{number_reads, read_number}
use Rattle.commands.proofs.numbers.number.Goals as goal

abbrev Gives : List ℕ → Result ℕ ParseIntError → Type 0
Gives text result =
    ParsesUnsigned 32 10 text result × ExplainsUnsignedError 10 text result
    × HasUnsignedDigitsIfOk text result

-- a number that the rows have is the one that was read
same : (found : Found) (id : List ℕ) (low high n : ℕ) (result : Option ℕ) → high < 2 ^ 32
    → ((t : List ℕ) → one_text found id ≡ Some t → ReadsOne Gives t result)
    → HasNumber (rows_of found) id low high n → result ≡ Some n
same found id low high n result fits value has =
    number_reads Gives _ _ result n has.0 (one_text-rows found id) value (λ u x gives. gives.0)
    has.1 has.2 has.3 (omega arith)

pub returns-in-Some-clause-none : goal.returns-in-Some-clause-none
returns-in-Some-clause-none c none some =
    let read =
    same (found_of c.args.matches.now) c.args.id.now c.args.low c.args.high some.value
    c.get_one.result c.ranges.high.fits c.get_one.ensures.value some.has in
    search rules

pub returns-in-Some-2-clause-none : goal.returns-in-Some-2-clause-none
returns-in-Some-2-clause-none c none some =
    let read =
    same (found_of c.args.matches.now) c.args.id.now c.args.low c.args.high some.value
    c.get_one.result c.ranges.high.fits c.get_one.ensures.value some.has in
    search rules

pub returns-in_default-clause-value : goal.returns-in_default-clause-value
returns-in_default-clause-value c =
    let read =
    read_number Gives _ _ c.get_one.result c.in-Some.n
    (one_text-rows (found_of c.args.matches.now) c.args.id.now) c.in-Some.is
    c.get_one.ensures.none c.get_one.ensures.value (λ t gives. gives.0) in
    (read.0, read.1, read.2, read.3, c.if-n-low.false, c.if-high-n.false)

pub returns-in_default-2-clause-none : goal.returns-in_default-2-clause-none
returns-in_default-2-clause-none c none some =
    let read =
    same (found_of c.args.matches.now) c.args.id.now c.args.low c.args.high some.value
    c.get_one.result c.ranges.high.fits c.get_one.ensures.value some.has in
    search rules

-- The line of a list of words that can't be had.
use Rattle.std.specs.Prelude.{ℕ, List, codes}
use Rattle.std.specs.declared.io.ErrorKind.{ErrorKind}
use Rattle.std.specs.declared.io.ErrorKind.TheVariants as Kind

abbrev pub unread_line : ErrorKind → List ℕ
unread_line Kind.OutOfMemory = codes "error: out of memory\n"
unread_line _ = codes "error: a word of the command line isn't UTF-8\n"

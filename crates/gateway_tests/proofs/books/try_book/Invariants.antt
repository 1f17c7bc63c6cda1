use Rattle.limit_laws.specs.FixedRules.{fixed_rules}
use Rattle.gate_journal.specs.Settings.{begun}
use Rattle.gate_ledgers.specs.Names.{places_of}
use Rattle.gate_history.specs.Book.{made_with}
use Rattle.gateway_tests.proofs.books.try_book.Given as goal

-- the ledgers that were just made, and what the book is made with
abbrev pub ghosts-try_book_named : goal.ghosts-try_book_named
ghosts-try_book_named g a = record {
  calls = a.blanks.calls.name;
  place = places_of a.blanks;
  making = made_with fixed_rules (begun a.settings);
}

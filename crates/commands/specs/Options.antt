-- The table of the options: the word of each, what it holds and its default; and of those of
-- `serve` which value of what is read has it.
use Rattle.std.specs.Prelude.{ℕ, Bool, List, [], ◌∷◌, Option, Some, None, codes}
use Rattle.std.specs.declared.net.socket_addr.SocketAddrV4.{SocketAddrV4}
use Rattle.clap.specs.Words.{Text}
use Rattle.limit_laws.specs.Algorithm.{greatest_limit}
use Rattle.commands.specs.declared.serve_options.LogLines.{LogLines}
use Rattle.commands.specs.declared.serve_options.ServeOptions.{ServeOptions}

-- what an option holds
pub data Holds : Type 0 where
  -- a whole number in a range, and one that may be left out
  number : ℕ → ℕ → Holds
  number_if_given : ℕ → ℕ → Holds
  -- an address with a port from 1 up that may be left out, and the same of a loopback alone
  address : Holds
  loopback : Holds
  -- a form of the log's lines
  log_lines : Holds
  -- nothing: it is given, or not
  flag : Holds

-- what is read of it
abbrev pub Value : Holds → Type 0
Value (number low high) = ℕ
Value (number_if_given low high) = Option ℕ
Value address = Option SocketAddrV4
Value loopback = Option SocketAddrV4
Value log_lines = LogLines
Value flag = Bool

-- an option
pub record Entry : Type 0 where
  pub word : Text
  pub holds : Holds
  pub default : Option Text

abbrev pub option : Text → Holds → Option Text → Entry
option word holds default = record { word = word; holds = holds; default = default }

-- an option of `serve`, and its value among all that are read
pub record ServeRow : Type 0 where
  pub entry : Entry
  pub value : ServeOptions → Value entry.holds

abbrev pub row : (e : Entry) → (ServeOptions → Value e.holds) → ServeRow
row e value = record { entry = e; value = value }

abbrev pub limit : Entry
limit = option (codes "limit") (number 1 greatest_limit) (Some (codes "20"))

abbrev pub workers : Entry
workers = option (codes "workers") (number 1 64) (Some (codes "4"))

abbrev pub exchanges : Entry
exchanges = option (codes "exchanges") (number_if_given 1 4096) None

-- THE OPTIONS of `serve`, in the order of its help
abbrev pub serve_rows : List ServeRow
serve_rows =
    row workers (λ o. o.workers)
    ∷ row exchanges (λ o. o.exchanges)
    ∷ row (option (codes "per-worker") (number 1 1000000000) (Some (codes "1000000000")))
    (λ o. o.per_worker)
    ∷ row (option (codes "client-timeout-ms") (number 1 3600000) (Some (codes "10000")))
    (λ o. o.client_timeout_ms)
    ∷ row (option (codes "head-timeout-ms") (number 1 3600000) (Some (codes "1000")))
    (λ o. o.head_timeout_ms)
    ∷ row (option (codes "body-rate") (number_if_given 0 1000000000) None) (λ o. o.body_rate)
    ∷ row (option (codes "backend-timeout-ms") (number_if_given 1 3600000) None)
    (λ o. o.backend_timeout_ms)
    ∷ row (option (codes "report-seconds") (number_if_given 1 3600) None) (λ o. o.report_seconds)
    ∷ row (option (codes "admin") loopback None) (λ o. o.admin)
    ∷ row (option (codes "status") address None) (λ o. o.status)
    ∷ row (option (codes "log-lines") log_lines (Some (codes "plain"))) (λ o. o.log_lines)
    ∷ row (option (codes "mark") flag None) (λ o. o.marks)
    ∷ row (option (codes "parent") (number_if_given 1 4194304) None) (λ o. o.parent)
    ∷ []

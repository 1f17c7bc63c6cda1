-- Subcommands whose words name no run, and what every run keeps to.
use Rattle.std.proofs.Common.{rules, ◌≡◌, ◌∙◌, sym, subst, codes, true, List, Option, Some, None}
use Rattle.clap.specs.Words.{Row, Text, first_of}
use Rattle.commands.specs.CommandLine.{IsCommandOf, IsRunOf, KeepsRanges, NamesBoth}
use Rattle.commands.specs.Options.{exchanges, limit, serve_rows, workers}
use Rattle.commands.specs.ServeOptions.{AreServeOptions, gives_both}
use Rattle.commands.specs.Values.{HasSome, Lacks}
use Rattle.commands.specs.declared.command_line.Run.{Run}
use Rattle.commands.specs.declared.command_line.Run.TheVariants.{Text as OfText, Load, Check, Serve}
use Rattle.commands.specs.declared.command_line.TextTask.TheVariants.{Replay, Simulate}
use Rattle.commands.specs.declared.serve_options.ServeOptions.{ServeOptions}
use Rattle.commands.proofs.OptionValues.{each_kept, kept}

-- what every run of the words keeps to
pub ranges_kept : (named : Option (Text × List Row)) (run : Run) → IsRunOf named run
    → KeepsRanges run
ranges_kept None run is = absurd is
ranges_kept (Some named) (OfText (Replay permits) explain) is = (is.0.1.4, is.0.1.5)
ranges_kept (Some named) (OfText (Simulate permits) explain) is = (is.0.1.4, is.0.1.5)
ranges_kept (Some named) (Load permits threads explain) is = ((is.1.4, is.1.5), (is.2.4, is.2.5))
ranges_kept (Some named) (Check path explain at_once) is =
    kept named.1 _ exchanges.holds at_once is.3
ranges_kept (Some named) (Serve options) is = each_kept named.1 options serve_rows is.1.values

pub no_replay : (rows : List Row) (run : Run)
    → Lacks rows limit.word limit.holds → IsCommandOf (codes "replay") rows run → ⊥
no_replay rows (OfText (Replay permits) explain) none is =
    none (record { value = permits; has = is.0.1 })
no_replay rows (OfText (Simulate permits) explain) none is = let named = is.0.0 in search rules
no_replay rows (Load permits threads explain) none is = let named = is.0 in search rules
no_replay rows (Check path explain at_once) none is = let named = is.0 in search rules
no_replay rows (Serve options) none is =
    let named = is.0 in search rules

pub no_simulate : (rows : List Row) (run : Run)
    → Lacks rows limit.word limit.holds → IsCommandOf (codes "simulate") rows run → ⊥
no_simulate rows (OfText (Replay permits) explain) none is = let named = is.0.0 in search rules
no_simulate rows (OfText (Simulate permits) explain) none is =
    none (record { value = permits; has = is.0.1 })
no_simulate rows (Load permits threads explain) none is = let named = is.0 in search rules
no_simulate rows (Check path explain at_once) none is = let named = is.0 in search rules
no_simulate rows (Serve options) none is =
    let named = is.0 in search rules

pub no_load : (rows : List Row) (run : Run)
    → (HasSome rows limit.word limit.holds → HasSome rows workers.word workers.holds → ⊥)
    → IsCommandOf (codes "load") rows run → ⊥
no_load rows (OfText (Replay permits) explain) none is = let named = is.0.0 in search rules
no_load rows (OfText (Simulate permits) explain) none is = let named = is.0.0 in search rules
no_load rows (Load permits threads explain) none is =
    none (record { value = permits; has = is.1 }) (record { value = threads; has = is.2 })
no_load rows (Check path explain at_once) none is = let named = is.0 in search rules
no_load rows (Serve options) none is =
    let named = is.0 in search rules

pub no_check : (rows : List Row) (run : Run)
    → ((path : Text) → first_of (codes "config") rows ≡ Some path
    → HasSome rows exchanges.word exchanges.holds → ⊥)
    → IsCommandOf (codes "check") rows run → ⊥
no_check rows (OfText (Replay permits) explain) none is = let named = is.0.0 in search rules
no_check rows (OfText (Simulate permits) explain) none is = let named = is.0.0 in search rules
no_check rows (Load permits threads explain) none is = let named = is.0 in search rules
no_check rows (Check path explain at_once) none is =
    none path.now is.1 (record { value = at_once; has = is.3 })
no_check rows (Serve options) none is =
    let named = is.0 in search rules

pub no_serve : (rows : List Row) (run : Run)
    → ((options : ServeOptions) → AreServeOptions rows options → ⊥)
    → IsCommandOf (codes "serve") rows run → ⊥
no_serve rows (OfText (Replay permits) explain) none is = let named = is.0.0 in search rules
no_serve rows (OfText (Simulate permits) explain) none is = let named = is.0.0 in search rules
no_serve rows (Load permits threads explain) none is = let named = is.0 in search rules
no_serve rows (Check path explain at_once) none is = let named = is.0 in search rules
no_serve rows (Serve options) none is = none options is.1

-- a run of `serve` has no two options of threads
serve_once : (rows : List Row) (run : Run) → IsCommandOf (codes "serve") rows run
    → gives_both rows ≡ true → ⊥
serve_once rows (OfText (Replay permits) explain) is both = let named = is.0.0 in search rules
serve_once rows (OfText (Simulate permits) explain) is both = let named = is.0.0 in search rules
serve_once rows (Load permits threads explain) is both = let named = is.0 in search rules
serve_once rows (Check path explain at_once) is both = let named = is.0 in search rules
serve_once rows (Serve options) is both = let same = sym is.1.once ∙ both in search rules

pub no_run_of_both : (named : Option (Text × List Row)) (run : Run) → IsRunOf named run
    → NamesBoth named → ⊥
no_run_of_both None run is both = is
no_run_of_both (Some named) run is both =
    serve_once named.1 run (subst (λ (name : Text). IsCommandOf name named.1 run) both.0 is) both.1

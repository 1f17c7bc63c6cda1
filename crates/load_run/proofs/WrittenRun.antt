-- What is written of a run.
use Rattle.std.proofs.Common.{◌≡◌, ℕ, ◌≤◌, List, [], None, Result, Err, IfErr, length, drop}
use Rattle.std.proofs.Common.{ap, refl, subst, sym, arith}
use Rattle.std.specs.Prelude.{Vec}
use Rattle.std.specs.declared.alloc.Global.{Global}
use Rattle.std.proofs.lemmas.List.Elements.{All-nil}
use mathlib.Core.List.{IsPrefix}
use Rattle.limit_kinds.specs.declared.kinds.AnyLimit.{AnyLimit}
use Rattle.limit_kinds.specs.AnyKinds.{any_rules}
use Rattle.limiter_core.specs.declared.event.Entry.{Entry}
use Rattle.gate_journal.specs.Image.{Standing}
use Rattle.gate_ledgers.specs.Making.{Making}
use Rattle.gate_ledgers.specs.Receipt.{Told}
use Rattle.gate_history.specs.Refusal.{Refusal}
use Rattle.audit.specs.declared.cause.Cause.{Cause}
use Rattle.audit.specs.declared.cause.Cause.TheVariants as cause
use Rattle.shared_gate.specs.Calls.{Pass}
use Rattle.shared_gate.specs.Closing.{IsKept}
use Rattle.script.specs.Settings.{SettingFacts}
use Rattle.load_driver.specs.Limits.{most_script}
use Rattle.trace.specs.declared.arrival.Arrival.{Arrival}
use Rattle.trace.specs.Trace.{trace_of}
use Rattle.load_run.specs.declared.fault.LoadFault.{LoadFault}
use Rattle.load_run.specs.declared.fault.LoadFault.TheVariants.{Audit}
use Rattle.load_run.specs.declared.summary.Summary.{Summary}
use Rattle.load_run.specs.Summary.{summary_text}
use Rattle.load_run.specs.Workers.{AreWork}
use Rattle.load_run.specs.Load.{IsAccepted, IsRejected, IsRun, IsUnaccepted, making_of}
use Rattle.load_run.specs.Driver.{IsLoaded, StopsRun}

pub is_loaded : (workers n : ℕ) (text all : List ℕ) (Written : List ℕ → Type 0) (summary : Summary)
    → text ≡ all → length text ≤ most_script → (trace_of text).calls.fault ≡ None
    → IsRun workers n (trace_of text).settings (trace_of text).calls.arrivals summary
    → Written (summary_text summary) → IsLoaded workers n all Written
is_loaded workers n text all Written summary same small whole run written =
    let here : IsLoaded workers n text Written = record {
      small = small;
      whole = whole;
      summary = summary;
      run = run;
      written = written;
    } in
    subst (λ (t : List ℕ). IsLoaded workers n t Written) same here

-- a run of a gate that is made of the settings
pub is_run : (workers n : ℕ) (settings : SettingFacts) (arrivals : List Arrival)
    (kept : List (Vec Told Global)) (spent : List (Vec Refusal Global)) (m : Making)
    (summary : Summary) → m ≡ making_of n settings → length kept ≡ workers
    → AreWork workers arrivals kept spent → IsAccepted m kept spent summary
    → IsRun workers n settings arrivals summary
is_run workers n settings arrivals kept spent m summary made many work accepted = record {
  kept = kept;
  spent = spent;
  many = many;
  work = work;
  accepted = subst (λ (x : Making). IsAccepted x kept spent summary) made accepted;
}

pub is_unaccepted : (workers n : ℕ) (settings : SettingFacts) (arrivals : List Arrival)
    (kept : List (Vec Told Global)) (spent : List (Vec Refusal Global)) (m : Making)
    (cause : Cause) → m ≡ making_of n settings → length kept ≡ workers
    → AreWork workers arrivals kept spent → IsRejected m kept cause
    → IsUnaccepted workers n settings arrivals cause
is_unaccepted workers n settings arrivals kept spent m cause made many work rejected = record {
  kept = kept;
  spent = spent;
  many = many;
  work = work;
  rejected = subst (λ (x : Making). IsRejected x kept cause) made rejected;
}

-- an audit without memory says nothing of its history
pub is_rejected_unread : (m : Making) (opening : Standing AnyLimit) (base : ℕ)
    (entries : List Entry) (kept : List (Vec Told Global)) → base ≡ 0
    → IsKept any_rules m opening base entries → IsRejected m kept cause.Memory
is_rejected_unread m opening base entries kept zero_base legal = record {
  opening = opening;
  base = base;
  entries = entries;
  passes = [];
  legal = legal;
  fails = record {
    log = entries;
    end = record {
      origin = opening;
      unasked = legal.unasked zero_base;
      legal = legal.legal;
      long = omega (arith, zero_base);
      ends = ap (λ (n : ℕ). drop n entries) zero_base;
    };
    begun = All-nil (λ (pass : Pass). IsPrefix pass.log entries);
    enough = omega arith;
    first = tt;
  };
  present = refl;
}

-- a run that isn't accepted stops by its cause
pub audit_stops : {A : Type 0} (workers n : ℕ) (settings : SettingFacts) (arrivals : List Arrival)
    (told : Result A LoadFault) (cause : Cause) → told ≡ Err (Audit cause)
    → IsUnaccepted workers n settings arrivals cause
    → IfErr told (StopsRun workers n settings arrivals)
audit_stops {A} workers n settings arrivals told cause is unaccepted =
    subst (λ (r : Result A LoadFault). IfErr r (StopsRun workers n settings arrivals)) (sym is)
    unaccepted

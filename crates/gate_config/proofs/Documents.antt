-- A document of its sections and its rules.
use Rattle.std.proofs.Common.{◌≡◌, ◌∙◌, ap, refl, sym, ℕ, [], codes, List, Option, option_map, Result, Ok, Err, IsOk}
use Rattle.toml.specs.Data.{Members}
use Rattle.partitions.specs.Table.{Row}
use Rattle.windowed.specs.declared.numbers.WindowNumbers.{WindowNumbers}
use Rattle.limit_kinds.specs.declared.kinds.LimitSpec.{LimitSpec}
use Rattle.gate_config.specs.declared.fault.ConfigFault.{ConfigFault}
use Rattle.gate_config.specs.Outcomes.{◌>>=◌, result_map}
use Rattle.gate_config.specs.declared.top.TopKeys.{TopKeys}
use Rattle.gate_config.specs.declared.version.Version.{Version}
use Rattle.gate_config.specs.Rows.{top_rows}
use Rattle.gate_config.specs.Section.{Values, number_at, section_values}
use Rattle.gate_config.specs.Top.{top_values}
use Rattle.gate_config.specs.Document.{DocumentValues, RuleValues, TableRef, bypasses_of, classes_in, document_of, limit_member, limit_of, resolvers_of, rules_of, window_member, window_of}

-- what stands before the rules was read
pub record IsRead (v : Version) (t : Members) : Type 0 where
  pub top : Values
  pub limit : Members × LimitSpec
  pub window : Option (Members × WindowNumbers)
  pub is_top : section_values [] (top_rows v) t ≡ Ok top
  pub is_limit : limit_of v t ≡ Ok limit
  pub is_window : window_of t ≡ Ok window

-- it was, where each part was
abbrev pub is_read : (v : Version) (t : Members) (top : Result TopKeys ConfigFault)
    (limit : Result (TableRef × LimitSpec) ConfigFault)
    (window : Result (Option (TableRef × WindowNumbers)) ConfigFault)
    (a : TopKeys) (b : TableRef × LimitSpec) (c : Option (TableRef × WindowNumbers)) →
    result_map top_values top ≡ section_values [] (top_rows v) t →
    result_map limit_member limit ≡ limit_of v t →
    result_map (option_map window_member) window ≡ window_of t →
    top ≡ Ok a → limit ≡ Ok b → window ≡ Ok c → IsRead v t
is_read v t top limit window a b c of_top of_limit of_window is_a is_b is_c = record {
  top = top_values a;
  limit = limit_member b;
  window = option_map window_member c;
  is_top = sym of_top ∙ ap (result_map top_values) is_a;
  is_limit = sym of_limit ∙ ap (result_map limit_member) is_b;
  is_window = sym of_window ∙ ap (result_map (option_map window_member)) is_c;
}

-- what was read, and the rules
abbrev pub with_rules : {v : Version} {t : Members} → IsRead v t → RuleValues → DocumentValues
with_rules read rules = record {
  top = read.top;
  limit = read.limit;
  window = read.window;
  classes = rules.classes;
  resolvers = rules.resolvers;
  bypasses = rules.bypasses;
}

of_one : {A B C : Type 0} (a : Result A ConfigFault) (all : A → B) (make : B → C) →
    (a >>= λ x. Ok (make (all x))) ≡ ((a >>= λ x. Ok (all x)) >>= λ b. Ok (make b))
of_one (Err e) all make = refl
of_one (Ok x) all make = refl

of_two : {A B C D : Type 0} (a : Result A ConfigFault) (b : Result B ConfigFault)
    (all : A → B → C) (make : C → D) →
    (a >>= λ x. b >>= λ y. Ok (make (all x y)))
    ≡ ((a >>= λ x. b >>= λ y. Ok (all x y)) >>= λ c. Ok (make c))
of_two (Err e) b all make = refl
of_two (Ok x) b all make = of_one b (all x) make

of_three : {A B C D E : Type 0} (a : Result A ConfigFault) (b : A → Result B ConfigFault)
    (c : Result C ConfigFault) (all : A → B → C → D) (make : D → E) →
    (a >>= λ x. b x >>= λ y. c >>= λ z. Ok (make (all x y z)))
    ≡ ((a >>= λ x. b x >>= λ y. c >>= λ z. Ok (all x y z)) >>= λ d. Ok (make d))
of_three (Err e) b c all make = refl
of_three (Ok x) b c all make = of_two (b x) c (all x) make

-- the document is at fault where the rules are
pub document_read : (v : Version) (t : Members) (read : IsRead v t) (backlog : ℕ) →
    number_at (codes "backlog") read.top ≡ backlog →
    document_of v t ≡ (rules_of v backlog t >>= λ rules. Ok (with_rules read rules))
document_read v t read backlog is_backlog =
    rw (read.is_top, read.is_limit, read.is_window, is_backlog)
    (of_three (classes_in v backlog t) (λ classes. resolvers_of classes.1 t) (bypasses_of t)
    (λ classes resolvers bypasses.
    record { classes = classes; resolvers = resolvers; bypasses = bypasses }) (with_rules read))

-- what only makes a value has no fault of its own
pub same_fault : {A B : Type 0} (a : Result A ConfigFault) (make : A → B) (fault : ConfigFault) →
    (a >>= λ x. Ok (make x)) ≡ Err fault → a ≡ Err fault
same_fault (Err e) make fault said = cc
same_fault (Ok x) make fault said = cc

pub no_resolvers : (v : Version) (backlog : ℕ) (t : Members) (classes : List Members × List Row)
    (e : ConfigFault) →
    classes_in v backlog t ≡ Ok classes → resolvers_of classes.1 t ≡ Err e →
    rules_of v backlog t ≡ Err e
no_resolvers v backlog t classes e is_read fault = rw (is_read, fault)

after_resolvers : {A B : Type 0} (r : Result A ConfigFault) (next : A → Result B ConfigFault)
    (e : ConfigFault) →
    IsOk r → ((a : A) → next a ≡ Err e) → (r >>= next) ≡ Err e
after_resolvers (Ok a) next e fine fault = fault a
after_resolvers (Err f) next e fine fault = cc

pub no_bypasses : (v : Version) (backlog : ℕ) (t : Members) (classes : List Members × List Row)
    (e : ConfigFault) →
    classes_in v backlog t ≡ Ok classes → IsOk (resolvers_of classes.1 t) → bypasses_of t ≡ Err e →
    rules_of v backlog t ≡ Err e
no_bypasses v backlog t classes e is_read fine fault =
    rw is_read (after_resolvers (resolvers_of classes.1 t) _ e fine λ resolvers. rw fault)

-- an answer has one fault
pub one_fault : {A B : Type 0} (said : Result A ConfigFault) (r : Result B ConfigFault)
    (e f : ConfigFault) → r ≡ Err e → said ≡ Err e → said ≡ Err f → r ≡ Err f
one_fault said r e f answered told known = cc

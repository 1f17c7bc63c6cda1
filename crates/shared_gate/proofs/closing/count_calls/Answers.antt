use Rattle.std.proofs.Common.{rules, ◌≡◌, ℕ, List, [], ◌∷◌, All, ap, arith, sym, ◌∙◌, subst}
use Rattle.std.proofs.Common.{length, ◌+◌, ◌++◌, ◌==◌, cond}
use Rattle.std.specs.Prelude.{vec_len}
use Rattle.std.proofs.lemmas.Iterator.Adapters.{YieldsList-from_vec}
use Rattle.std.proofs.lemmas.Iterator.Consumers.{YieldsList-end}
use Rattle.std.proofs.lemmas.List.{map-id}
use Rattle.std.proofs.lemmas.List.Sums.{sum_by-append, sum_by-cons}
use Rattle.std.proofs.lemmas.List.Elements.{All-nil}
use mathlib.Core.List.{IsPrefix}
use Rattle.lemmas.proofs.Lists.{length-one_more}
use Rattle.gate_word.specs.Rule.{times}
use Rattle.shared_gate.specs.Calls.{Pass}
use Rattle.shared_gate.specs.Closing.{HaveOwnCalls}
use Rattle.shared_gate.proofs.Gathering.{all_behind}
use Rattle.shared_gate.proofs.closing.count_calls.Goals as goal

abbrev count : Pass → ℕ
count pass = pass.count

abbrev own_times : ℕ → Pass → ℕ
own_times n pass = times n pass.own

times_append : (n : ℕ) (xs ys : List ℕ) → times n (xs ++ ys) ≡ times n xs + times n ys
times_append n xs ys = sum_by-append (λ m. cond (m == n) 1 0) xs ys

pub loop-pass-init : goal.loop-pass-init
loop-pass-init g c = record {
  sum = search rules;
  few = search rules;
  many = search rules;
  all =
      λ same.
      let none = c.none_returned-returned.ensures in
      let no_passes : c.args.book.now.tally.passes ≡ 0 = omega (
        arith,
        same,
        ap (λ r. r.passes) none.none,
        ap (λ b. b.tally.passes) none.same,
      ) in
      omega (
        arith,
        none.all no_passes,
        ap (λ r. r.calls) none.none,
        ap (λ b. b.tally.calls) none.same,
      );
  book = search rules;
  table = search rules;
  log = search rules;
  numbers = λ n. omega arith;
  once = λ n. omega arith;
  begun = All-nil (λ (pass : Pass). IsPrefix pass.log c.args.keeper.now.log);
}

pub loop-pass-preserved : goal.loop-pass-preserved
loop-pass-preserved g c = record {
  sum = omega (
    arith,
    c.loop-pass.invariant.sum,
    c.take_back-in-loop-pass.ensures.calls,
    sum_by-append count c.loop-pass.yielded (c.in-Some.pass ∷ []),
    sum_by-cons count c.in-Some.pass [],
    ap count c.pass.view_is,
  );
  few = search rules;
  many = omega (
    arith,
    c.loop-pass.invariant.many,
    c.take_back-in-loop-pass.ensures.passes,
    length-one_more c.loop-pass.yielded c.in-Some.pass,
  );
  all =
      λ whole.
      let took = c.take_back-in-loop-pass.ensures in
      omega (
        arith,
        took.all (whole ∙ ap (λ b. b.tally.passes) took.same),
        ap (λ b. b.tally.calls) took.same,
      );
  book = search rules;
  table = search rules;
  log = search rules;
  numbers =
      λ n.
      let own = ap (λ r. times n r.own) c.pass.view_is in
      let more = times_append n c.pass.inside.reader.own c.loop-pass.keeper.own in
      let took = ap (λ k. times n k.own) c.take_back.ensures.keeper in
      let by = sum_by-append (own_times n) c.loop-pass.yielded (c.in-Some.pass ∷ []) in
      omega (arith, own, more, took, by, c.loop-pass.invariant.numbers n);
  once =
      λ n.
      let own = ap (λ r. times n r.own) c.pass.view_is in
      let more = times_append n c.pass.inside.reader.own c.loop-pass.keeper.own in
      let by = sum_by-append (own_times n) c.loop-pass.yielded (c.in-Some.pass ∷ []) in
      omega (arith, own, more, by, c.loop-pass.invariant.numbers n, c.take_back.ensures.apart n);
  begun =
      all_behind (λ (pass : Pass). IsPrefix pass.log c.args.keeper.now.log)
      c.loop-pass.yielded c.in-Some.pass c.loop-pass.invariant.begun
      (subst (λ (pass : Pass). IsPrefix pass.log c.args.keeper.now.log) c.pass.view_is
      (subst (λ l. IsPrefix c.pass.inside.reader.log l) c.loop-pass.invariant.log
      c.take_back.ensures.begins));
}

pub take_back-requires-clause-table : goal.take_back-requires-clause-table
take_back-requires-clause-table g c = search rules

pub returns-clause-book : goal.returns-clause-book
returns-clause-book g c = search rules

pub returns-clause-enough : goal.returns-clause-enough
returns-clause-enough g c = search rules

pub returns-clause-begun : goal.returns-clause-begun
returns-clause-begun g c =
    let end =
    YieldsList-end (YieldsList-from_vec c.args.passes.items (search rules) (search rules))
    c.loop-pass.yielded c.loop-pass.pass-iterator c.loop-pass.yielded_by c.next.result
    c.next.new.self c.in-None.is c.next.ensures.steps in
    let all : c.loop-pass.yielded ≡ c.args.passes.items =
    sym (map-id c.loop-pass.yielded) ∙ end.0 in
    subst (λ (passes : List Pass). All (λ (pass : Pass). IsPrefix pass.log c.args.keeper.now.log)
    passes) all c.loop-pass.invariant.begun

pub returns-clause-all : goal.returns-clause-all
returns-clause-all g c whole =
    let end =
    YieldsList-end (YieldsList-from_vec c.args.passes.items (search rules) (search rules))
    c.loop-pass.yielded c.loop-pass.pass-iterator c.loop-pass.yielded_by c.next.result
    c.next.new.self c.in-None.is c.next.ensures.steps in
    let yielded : c.loop-pass.yielded ≡ c.args.passes.items =
    sym (map-id c.loop-pass.yielded) ∙ end.0 in
    let long : length c.args.passes.items ≡ vec_len c.args.passes = search rules in
    let many : c.loop-pass.returned.passes ≡ c.loop-pass.book.tally.passes =
    c.loop-pass.invariant.many ∙ ap (λ (passes : List Pass). length passes) yielded ∙ long ∙ whole
    ∙ ap (λ b. b.tally.passes) (sym c.loop-pass.invariant.book) in
    omega (
      arith,
      c.loop-pass.invariant.all many,
      c.calls.ensures.calls,
      c.count.ensures,
    )

pub returns-clause-same : goal.returns-clause-same
returns-clause-same g c = search rules

pub returns-clause-table : goal.returns-clause-table
returns-clause-table g c = search rules

pub returns-clause-log : goal.returns-clause-log
returns-clause-log g c = search rules

pub returns-clause-once : goal.returns-clause-once
returns-clause-once g c =
    let end =
    YieldsList-end (YieldsList-from_vec c.args.passes.items (search rules) (search rules))
    c.loop-pass.yielded c.loop-pass.pass-iterator c.loop-pass.yielded_by c.next.result
    c.next.new.self c.in-None.is c.next.ensures.steps in
    let all : c.loop-pass.yielded ≡ c.args.passes.items =
    sym (map-id c.loop-pass.yielded) ∙ end.0 in
    subst HaveOwnCalls all c.loop-pass.invariant.once

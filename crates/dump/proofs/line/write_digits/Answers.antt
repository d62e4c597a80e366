use Rattle.std.proofs.Common.{◌≡◌, ◌-◌, ◌%◌, ◌/◌, ◌^◌, ◌<◌, ◌≤◌, suc, sym, ap, ◌∙◌, ℕ, arith, rules, subst}
use borrow.Author.Tests.{ltb-false, ltb-true}
use Rattle.dump.specs.Digits.{ascii_digit}
use Rattle.dump.proofs.Digits.{none_yet, all_left, less_left, one_more, enough, all_there, not_yet}
use Rattle.dump.proofs.line.write_digits.Goals as goal
use Rattle.dump.proofs.line.write_digits.Goals.{then-rest-gt0, else-rest-gt0}

pub loop-at-init : goal.loop-at-init
loop-at-init c = record {
  long = search rules;
  within = search rules;
  left = all_left c.args.n c.args.base;
  written = none_yet c.args.base c.args.n c.args.room.now (search rules);
  shortest = λ h. absurd (omega arith);
}

pub loop-at-preserved : goal.loop-at-preserved
loop-at-preserved c =
    let low : 0 < c.loop-at.at = omega arith in
    let longer : 20 - (c.loop-at.at - 1) ≡ suc (20 - c.loop-at.at) = omega arith in
    let before : 20 - (c.loop-at.at - 1) - 1 ≡ 20 - c.loop-at.at = omega arith in
    record {
      long = search rules;
      within = omega arith;
      left = ap (λ (r : ℕ). r / c.args.base) c.loop-at.invariant.left ∙ less_left c.args.n c.args.base (20 - c.loop-at.at) ∙ ap (λ (k : ℕ). c.args.n / c.args.base ^ k) (sym longer);
      written = one_more c.args.base c.args.n c.loop-at.at c.loop-at.room c.digit.result low c.loop-at.invariant.within c.loop-at.invariant.long c.loop-at.invariant.written (c.digit.ensures ∙ ap (λ (r : ℕ). ascii_digit (r % c.args.base)) c.loop-at.invariant.left);
      shortest = elim c.if-rest-gt0.branch [
        | then-rest-gt0 w ↦ λ h. subst (λ (k : ℕ). c.args.base ^ k ≤ c.args.n) (sym before) (not_yet c.args.base c.args.n (20 - c.loop-at.at) (subst (λ (r : ℕ). 0 < r) c.loop-at.invariant.left w.if-rest-gt0.true))
        | else-rest-gt0 w ↦ λ h. let more : 20 - c.loop-at.at < c.args.width = ltb-true (20 - c.loop-at.at) c.args.width (sym w.value-is ∙ c.if-at-width.true) in absurd (omega arith)
      ];
    }

pub returns-else-at-width-clause-whole : goal.returns-else-at-width-clause-whole
returns-else-at-width-clause-whole c =
    let nothing : c.loop-at.rest ≡ 0 = elim c.if-rest-gt0.branch [
      | then-rest-gt0 w ↦ let none : c.loop-at.rest ≤ 0 = ltb-false 0 c.loop-at.rest (sym w.value-is ∙ c.if-at-width.false) in omega arith
      | else-rest-gt0 w ↦ omega arith
    ] in
    all_there c.args.base c.args.n (20 - c.loop-at.at) (omega arith) (sym c.loop-at.invariant.left ∙ nothing)

pub returns-after-loop-at-clause-whole : goal.returns-after-loop-at-clause-whole
returns-after-loop-at-clause-whole c =
    let none : 0 ≡ c.loop-at.at = omega arith in
    subst (λ (at : ℕ). c.args.n < c.args.base ^ (20 - at)) none (enough c.args.base c.args.n c.requires.low (omega arith))

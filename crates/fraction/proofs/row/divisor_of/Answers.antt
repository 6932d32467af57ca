use Rattle.std.proofs.Common.{rules, ℕ, pos, unsigned_abs, get_or, subst, ap, ◌∙◌, arith, below_more}
use Rattle.std.specs.Prelude.{FitsSigned}
use Rattle.std.specs.Int.{w128, ◌∣◌, IsGcd}
use Rattle.std.proofs.lemmas.Int.{to_z-of_z}
use Rattle.std.proofs.Math.Nat.{one-dvd}
use Rattle.std.proofs.lemmas.Nat.Gcd.{dvd_trans}
use Rattle.fraction.proofs.row.divisor_of.Goals as goal

pub returns-then-common-eq1 : goal.returns-then-common-eq1
returns-then-common-eq1 c = record {
  number = one-dvd _;
  entries = λ j lt. one-dvd _;
  greatest = λ d number entries. subst (λ g. d ∣ g) c.if-common-eq1.true (c.loop-entry.invariant.greatest d number (λ j lt. entries j (omega arith)));
}

pub loop-entry-preserved : goal.loop-entry-preserved
loop-entry-preserved c =
    let i : ℕ = c.loop-entry.entry-index in
    let at : FitsSigned w128 (get_or c.args.row.now i (pos 0)) = search rules in
    let size = c.unsigned_abs.ensures.value ∙ ap (λ z. unsigned_abs z) (to_z-of_z w128 _ at) in
    let is = subst (λ a. IsGcd a c.loop-entry.common c.wide_gcd-common.result) size c.wide_gcd-common.ensures in
    record {
      number = dvd_trans _ is.1 c.loop-entry.invariant.number;
      entries = below_more (λ j. c.wide_gcd-common.result ∣ unsigned_abs (get_or c.args.row.now j (pos 0))) i (λ j lt. dvd_trans _ is.1 (c.loop-entry.invariant.entries j lt)) is.0;
      greatest = λ d number entries. is.2 d (entries i (omega arith)) (c.loop-entry.invariant.greatest d number (λ j lt. entries j (omega arith)));
    }

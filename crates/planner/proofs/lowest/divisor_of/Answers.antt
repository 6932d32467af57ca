use Rattle.std.proofs.Common.{ℕ, get_or, sym, subst, arith, below_more}
use Rattle.std.specs.Int.{◌∣◌}
use Rattle.std.proofs.lemmas.Grind.{get_or_default_zero}
use Rattle.std.proofs.lemmas.Nat.Gcd.{dvd_trans}
use Rattle.planner.proofs.lowest.divisor_of.Goals as goal

pub loop-weight-preserved : goal.loop-weight-preserved
loop-weight-preserved c =
    let i : ℕ = c.loop-weight.weight-index in
    let is = c.gcd-common.ensures.divisor in
    record {
      divides = below_more (λ j. c.gcd-common.result ∣ get_or c.args.weights.now j 0) i (λ j lt. dvd_trans _ is.0 (c.loop-weight.invariant.divides j lt)) is.1;
      greatest = λ d all. is.2 d (c.loop-weight.invariant.greatest d (λ j lt. all j (omega arith))) (all i (omega arith));
    }

pub returns : goal.returns
returns c = record {
  divides = λ j d lt. subst (λ x. c.loop-weight.common ∣ x) (sym (get_or_default_zero c.args.weights.now j d lt)) (c.loop-weight.invariant.divides j (omega arith));
  greatest = λ d all. c.loop-weight.invariant.greatest d (λ j lt. all j 0 (omega arith));
}

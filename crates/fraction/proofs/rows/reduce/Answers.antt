use Rattle.std.proofs.Common.{◌≡◌, ◌≢◌, ℕ, ◌/◌, ◌<◌, pos, unsigned_abs, ap, ◌∙◌, arith}
use Rattle.std.specs.Int.{w128}
use Rattle.std.proofs.lemmas.Int.{to_z-of_z}
use Rattle.fraction.proofs.Passed.{to_z-of_z_fits}
use Rattle.fraction.proofs.PivotLemmas.{divisor-some, IsLowest-divided}
use Rattle.fraction.proofs.rows.reduce.Goals as goal

nonzero-from_positive : (g : ℕ) → 0 < g → g ≢ 0
nonzero-from_positive g above none = omega arith

pub divide-requires-clause-some : goal.divide-requires-clause-some
divide-requires-clause-some c =
    let sized = c.unsigned_abs-size.ensures.value ∙ ap unsigned_abs (to_z-of_z_fits c.args.den c.requires.den_fits) in
    nonzero-from_positive _ (divisor-some c.args.den _ _ sized c.requires.positive c.divisor_of-common.ensures.number)

pub quotient-requires : goal.quotient-requires
quotient-requires c =
    let sized = c.unsigned_abs-size.ensures.value ∙ ap unsigned_abs (to_z-of_z_fits c.args.den c.requires.den_fits) in
    nonzero-from_positive _ (divisor-some c.args.den _ _ sized c.requires.positive c.divisor_of-common.ensures.number)

pub returns : goal.returns
returns c =
    let sized = c.unsigned_abs-size.ensures.value ∙ ap unsigned_abs (to_z-of_z_fits c.args.den c.requires.den_fits) in
    let quotient : c.signed.result ≡ pos (c.unsigned_abs-size.result / c.divisor_of-common.result) = c.signed.ensures ∙ ap pos c.quotient.ensures in
    IsLowest-divided _ _ c.args.den _ _ _ sized c.requires.positive c.divisor_of-common.ensures c.divide.ensures (to_z-of_z w128 _ (record { sfits = c.signed.type_inv }) ∙ quotient)

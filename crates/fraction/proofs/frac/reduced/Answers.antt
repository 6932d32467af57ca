use Rattle.std.proofs.Common.{◌≡◌, ◌≢◌, ℕ, ◌/◌, ◌<◌, ◌≤◌, ◌^◌, ℤ, pos, unsigned_abs, to_z, of_z, sym, subst, ap, ◌∙◌, arith}
use Rattle.std.specs.Int.{IsGcd, w128}
use Rattle.std.specs.Int.Signed.{lt_z}
use Rattle.std.specs.Bool.{beq}
use Rattle.std.proofs.lemmas.Int.{to_z-of_z, to_z_pos}
use Rattle.std.proofs.Math.Nat.{div-le_self}
use Rattle.divisor.proofs.GcdLemmas.{IsGcd-some}
use Rattle.fraction.specs.Fractions.{Fits, signed_of}
use Rattle.fraction.proofs.Lowest.{IsDivided, IsRatio-divided, IsReduced-divided, unsigned_abs-some}
use Rattle.fraction.proofs.Passed.{to_z-of_z_fits}
use Rattle.fraction.proofs.frac.reduced.Goals as goal

-- what the calls answered, where the numbers are seen as the code passes them
IsDivided-passed : (num den num' den' n n' d' : ℤ) (top bottom g : ℕ) → num' ≡ num → den' ≡ den → n' ≡ n → Fits den → top ≡ unsigned_abs num' → bottom ≡ unsigned_abs den'
    → IsGcd top bottom g → n ≡ signed_of (beq (lt_z num' (pos 0)) (lt_z den' (pos 0))) (top / g) → d' ≡ pos (bottom / g) → IsDivided num den g (record { num = n'; den = d' })
IsDivided-passed num den num' den' n n' d' top bottom g num_is den_is n_is den_fits top_is bottom_is gcd signed d_is =
    let at_top : top ≡ unsigned_abs num = top_is ∙ ap (λ z. unsigned_abs z) num_is in
    let at_bottom : bottom ≡ unsigned_abs den = bottom_is ∙ ap (λ z. unsigned_abs z) den_is in
    record {
      divisor = subst (λ a. IsGcd a (unsigned_abs den) g) at_top (subst (λ b. IsGcd top b g) at_bottom gcd);
      num_is = (cc);
      den_is = (cc);
    }

lt-from_le : (a b c : ℕ) → a ≤ b → b < c → a < c
lt-from_le a b c h k = omega arith

is_divided : (c : goal.After-quotient-2) → IsDivided c.args.num c.args.den c.wide_gcd-common.result (record { num = to_z w128 (of_z w128 c.signed.result); den = to_z w128 c.quotient-2.result })
is_divided c =
    let num_is = to_z-of_z_fits c.args.num c.requires.num_fits in
    let den_is = to_z-of_z_fits c.args.den c.requires.den_fits in
    let bottom_is : c.unsigned_abs-bottom.result ≡ unsigned_abs c.args.den = c.unsigned_abs-bottom.ensures.value ∙ ap (λ z. unsigned_abs z) den_is in
    let bottom_fits : c.unsigned_abs-bottom.result < 2 ^ 127 = subst (λ n. n < 2 ^ 127) (sym bottom_is) c.requires.den_fits in
    let top_is : c.quotient.result ≡ c.unsigned_abs-top.result / c.wide_gcd-common.result = c.quotient.ensures in
    let rest_is : c.quotient-2.result ≡ c.unsigned_abs-bottom.result / c.wide_gcd-common.result = c.quotient-2.ensures in
    let rest_fits : c.quotient-2.result < 2 ^ 127 = subst (λ n. n < 2 ^ 127) (sym rest_is) (lt-from_le _ _ _ (div-le_self c.unsigned_abs-bottom.result c.wide_gcd-common.result) bottom_fits) in
    IsDivided-passed _ _ _ _ c.signed.result _ _ c.unsigned_abs-top.result c.unsigned_abs-bottom.result _ num_is den_is
    (to_z-of_z w128 c.signed.result (record { sfits = c.signed.type_inv }))
    c.requires.den_fits c.unsigned_abs-top.ensures.value c.unsigned_abs-bottom.ensures.value c.wide_gcd-common.ensures
    (c.signed.ensures ∙ ap (λ n. signed_of (beq (lt_z (to_z w128 (of_z w128 c.args.num)) (pos 0)) (lt_z (to_z w128 (of_z w128 c.args.den)) (pos 0))) n) top_is)
    (to_z_pos w128 _ rest_fits ∙ ap (λ n. pos n) rest_is)

IsGcd-nonzero : (den den' : ℤ) (top bottom g : ℕ) → den' ≡ den → den ≢ pos 0 → bottom ≡ unsigned_abs den' → IsGcd top bottom g → g ≢ 0
IsGcd-nonzero den den' top bottom g den_is ne bottom_is gcd none =
    let at_bottom : unsigned_abs den ≡ bottom = ap (λ z. unsigned_abs z) (sym den_is) ∙ sym bottom_is in
    let above : 0 < g = IsGcd-some top bottom g gcd (subst (λ n. 0 < n) at_bottom (unsigned_abs-some den ne)) in
    omega arith

pub quotient-requires : goal.quotient-requires
quotient-requires c = IsGcd-nonzero c.args.den _ _ _ _ (to_z-of_z_fits c.args.den c.requires.den_fits) c.requires.divisor c.unsigned_abs-bottom.ensures.value c.wide_gcd-common.ensures

pub quotient-requires-2 : goal.quotient-requires-2
quotient-requires-2 c = IsGcd-nonzero c.args.den _ _ _ _ (to_z-of_z_fits c.args.den c.requires.den_fits) c.requires.divisor c.unsigned_abs-bottom.ensures.value c.wide_gcd-common.ensures

pub invariant_of-result : goal.invariant_of-result
invariant_of-result c = IsReduced-divided _ _ _ _ (is_divided c) c.requires.divisor c.requires.num_fits c.requires.den_fits

pub returns-clause-value : goal.returns-clause-value
returns-clause-value c = IsRatio-divided _ _ _ _ (is_divided c)

pub returns-clause-reduced : goal.returns-clause-reduced
returns-clause-reduced c = IsReduced-divided _ _ _ _ (is_divided c) c.requires.divisor c.requires.num_fits c.requires.den_fits

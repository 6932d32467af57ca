-- Lemmas on the greatest common divisor.
use Rattle.std.proofs.Common.{◌≡◌, ℕ, ◌+◌, ◌*◌, ◌/◌, ◌%◌, ◌<◌, ◌≤◌, Bool, true, false, cond, ◌&&◌, eqb, zero, suc, sym, refl, ap, ap₂, subst, ◌∙◌, inl, inr, arith}
use Rattle.std.proofs.lemmas.Bool.{and_parts, cases_eq, cases_lt, eq-eqb, eqb-true, true≢false}
use Rattle.std.specs.Int.{IsGcd, ◌∣◌}
use Rattle.std.proofs.lemmas.Nat.Gcd.{IsGcd-from_mod, IsGcd-from_zero, dvd_refl, dvd_trans, dvd-zero, le_of_dvd, dvd_of_mod-eq-zero, mod-eq-zero_of_dvd, le_from_IsGcd}
use Rattle.std.proofs.Math.Nat.{div-one, dvd-mul_right, eq-zero_of_zero-dvd, mod-lt, one-dvd, mul-div-mul_left, mul-dvd-mul_left, dvd_of_mul-dvd-mul_left, mul-div_cancel', mul_assoc, mul_comm}
use Rattle.divisor.specs.Gcd.{common_divisor_up_to, gcd_of, lowest_terms}

both_mod : (a b d : ℕ) → d ∣ a → d ∣ b → eqb (a % d) 0 && eqb (b % d) 0 ≡ true
both_mod a b d da db = rw (eq-eqb _ 0 (mod-eq-zero_of_dvd d da), eq-eqb _ 0 (mod-eq-zero_of_dvd d db)) refl

-- where the greatest common divisor is not above n, the search from n down finds it
found_up_to : (n a b g : ℕ) → IsGcd a b g → 0 < g → g ≤ n → common_divisor_up_to n a b ≡ g
unfolding common_divisor_up_to
found_up_to zero a b g is some le = absurd (omega arith)
found_up_to (suc n) a b g is some le = by (eqb (a % suc n) 0 && eqb (b % suc n) 0) refl (found_up_to n a b g is some)
  where
    by : (t : Bool) → eqb (a % suc n) 0 && eqb (b % suc n) 0 ≡ t → (g ≤ n → common_divisor_up_to n a b ≡ g) → cond t (suc n) (common_divisor_up_to n a b) ≡ g
    by true e below =
        let parts = and_parts (eqb (a % suc n) 0) (eqb (b % suc n) 0) e in
        let most = le_from_IsGcd a b g (suc n) is some (dvd_of_mod-eq-zero (suc n) (eqb-true _ 0 parts.0)) (dvd_of_mod-eq-zero (suc n) (eqb-true _ 0 parts.1)) in
        omega arith
    by false e below =
        elim (cases_eq g (suc n)) [
          | inl at ↦ let passes = subst (λ d. eqb (a % d) 0 && eqb (b % d) 0 ≡ true) at (both_mod a b g is.0 is.1) in absurd (true≢false (sym passes ∙ e))
          | inr off ↦ below (omega arith)
        ]

-- the greatest common divisor is 0 for 0 and 0 alone
pub IsGcd-none : (a b g : ℕ) → IsGcd a b g → g ≡ 0 → (a ≡ 0) × (b ≡ 0)
IsGcd-none a b g is none =
    (eq-zero_of_zero-dvd (subst (λ d. d ∣ a) none is.0), eq-zero_of_zero-dvd (subst (λ d. d ∣ b) none is.1))

no_divisor : (a b : ℕ) → a ≡ 0 → b ≡ 0 → gcd_of a b ≡ 0
unfolding gcd_of common_divisor_up_to
no_divisor a b ea eb = rw (ea, eb) refl

-- the greatest common divisor is the one number that divides both and that each common divisor divides
pub gcd_of-IsGcd : (a b g : ℕ) → IsGcd a b g → g ≡ gcd_of a b
unfolding gcd_of
gcd_of-IsGcd a b g is =
    elim (cases_eq g 0) [
      | inl none ↦
          let ends = IsGcd-none a b g is none in
          none ∙ sym (no_divisor a b ends.0 ends.1)
      | inr some ↦ sym (found_up_to (a + b) a b g is (omega arith) (not_above a b g is (omega arith)))
    ]
  where
    not_above : (a b g : ℕ) → IsGcd a b g → 0 < g → g ≤ a + b
    not_above a b g is some =
        elim (cases_lt 0 a) [
          | inl pos ↦ let le = le_of_dvd pos is.0 in omega arith
          | inr low ↦
              elim (cases_lt 0 b) [
                | inl pos ↦ let le = le_of_dvd pos is.1 in omega arith
                | inr flat ↦
                    let at_a : 0 ≡ a = omega arith in
                    let at_b : 0 ≡ b = omega arith in
                    let le = le_of_dvd some (is.2 (suc g) (subst (λ x. suc g ∣ x) at_a (dvd-zero (suc g))) (subst (λ x. suc g ∣ x) at_b (dvd-zero (suc g)))) in
                    omega arith
              ]
        ]

-- the greatest common divisor of a number that is not 0 is not 0
pub IsGcd-some : (a b g : ℕ) → IsGcd a b g → 0 < b → 0 < g
IsGcd-some a b g is some =
    elim (cases_lt 0 g) [
      | inl pos ↦ pos
      | inr low ↦
          let ends = IsGcd-none a b g is (omega arith) in
          omega (arith, ends.1)
    ]

-- both numbers, divided by their greatest common divisor, have none but 1
pub IsGcd-lowest : (a b g : ℕ) → IsGcd a b g → 0 < g → IsGcd (a / g) (b / g) 1
IsGcd-lowest a b g is some = (
  one-dvd (a / g),
  one-dvd (b / g),
  λ d da db.
      let to_a = subst (λ x. g * d ∣ x) (mul-div_cancel' g is.0) (mul-dvd-mul_left d g da) in
      let to_b = subst (λ x. g * d ∣ x) (mul-div_cancel' g is.1) (mul-dvd-mul_left d g db) in
      let to_g = subst (λ x. g * d ∣ x) (sym (mul_one g)) (is.2 (g * d) to_a to_b) in
      dvd_of_mul-dvd-mul_left d some to_g,
)
  where
    mul_one : (g : ℕ) → g * 1 ≡ g
    mul_one g = omega arith

-- the quotients are in the numbers' ratio
pub lowest-exact : (a b g : ℕ) → IsGcd a b g → (a / g) * b ≡ a * (b / g)
lowest-exact a b g is =
    let left : (a / g) * b ≡ (a / g) * (g * (b / g)) = ap (λ x. (a / g) * x) (sym (mul-div_cancel' g is.1)) in
    let right : a * (b / g) ≡ (g * (a / g)) * (b / g) = ap (λ x. x * (b / g)) (sym (mul-div_cancel' g is.0)) in
    left ∙ regroup (a / g) g (b / g) ∙ sym right
  where
    regroup : (x g y : ℕ) → x * (g * y) ≡ (g * x) * y
    regroup x g y = sym (mul_assoc x g y) ∙ ap (λ t. t * y) (mul_comm x g)

-- any two numbers have a greatest common divisor
IsGcd-up_to : (n a b : ℕ) → b < n → (g : ℕ) × IsGcd a b g
IsGcd-up_to zero a b lt = absurd (omega arith)
IsGcd-up_to (suc n) a zero lt = (a, IsGcd-from_zero a 0 refl)
IsGcd-up_to (suc n) a (suc b) lt =
    let less : a % suc b < suc b = mod-lt a (omega arith) in
    let found = IsGcd-up_to n (suc b) (a % suc b) (omega arith) in
    (found.0, IsGcd-from_mod a (suc b) found.0 found.1)

pub IsGcd-gcd_of : (a b : ℕ) → IsGcd a b (gcd_of a b)
IsGcd-gcd_of a b =
    let found = IsGcd-up_to (suc b) a b (omega arith) in
    subst (λ g. IsGcd a b g) (gcd_of-IsGcd a b found.0 found.1) found.1

-- the greatest common divisor of multiples
pub IsGcd-times : (k a b g : ℕ) → 0 < k → IsGcd a b g → IsGcd (k * a) (k * b) (k * g)
IsGcd-times k a b g some is =
    let all = IsGcd-gcd_of (k * a) (k * b) in
    let most = gcd_of (k * a) (k * b) in
    let within : k ∣ most = all.2 k (dvd-mul_right k a) (dvd-mul_right k b) in
    let whole : k * (most / k) ≡ most = mul-div_cancel' k within in
    let to_a = dvd_of_mul-dvd-mul_left (most / k) some (subst (λ x. x ∣ k * a) (sym whole) all.0) in
    let to_b = dvd_of_mul-dvd-mul_left (most / k) some (subst (λ x. x ∣ k * b) (sym whole) all.1) in
    let to_g = subst (λ x. x ∣ k * g) whole (mul-dvd-mul_left (most / k) k (is.2 (most / k) to_a to_b)) in
    (mul-dvd-mul_left g k is.0, mul-dvd-mul_left g k is.1, λ d da db. dvd_trans d (all.2 d da db) to_g)

pub lowest_terms-times : (k a b : ℕ) → 0 < k → lowest_terms (k * a) (k * b) ≡ lowest_terms a b
lowest_terms-times k a b some =
    let g = gcd_of a b in
    let same : k * g ≡ gcd_of (k * a) (k * b) = gcd_of-IsGcd (k * a) (k * b) (k * g) (IsGcd-times k a b g some (IsGcd-gcd_of a b)) in
    ap (λ d. (k * a / d, k * b / d)) (sym same)
    ∙ ap₂ (λ x y. (x, y)) (mul-div-mul_left a g some) (mul-div-mul_left b g some)

-- equal quotients have the same lowest terms
pub lowest_terms-same : (a b c d : ℕ) → 0 < b → 0 < d → a * d ≡ c * b → lowest_terms a b ≡ lowest_terms c d
lowest_terms-same a b c d pos some same =
    let tops : d * a ≡ b * c = mul_comm d a ∙ same ∙ mul_comm c b in
    sym (lowest_terms-times d a b some)
    ∙ ap₂ lowest_terms tops (mul_comm d b)
    ∙ lowest_terms-times b c d pos

-- a whole number, over 1
pub lowest_terms-one : (a : ℕ) → lowest_terms a 1 ≡ (a, 1)
lowest_terms-one a =
    let one : 1 ≡ gcd_of a 1 = gcd_of-IsGcd a 1 1 (one-dvd a, dvd_refl 1, λ d da db. db) in
    ap (λ d. (a / d, 1 / d)) (sym one) ∙ ap (λ x. (x, 1)) (div-one a)

pub lowest_terms-some : (a b : ℕ) → 0 < b → 0 < (lowest_terms a b).1
lowest_terms-some a b some =
    let g = gcd_of a b in
    elim (cases_lt 0 (b / g)) [
      | inl pos ↦ pos
      | inr low ↦
          let none : b / g ≡ 0 = omega arith in
          let whole : g * (b / g) ≡ b = mul-div_cancel' g (IsGcd-gcd_of a b).1 in
          let zeroed : g * (b / g) ≡ g * 0 = ap (λ x. g * x) none in
          absurd (omega (arith, whole, zeroed))
    ]

pub lowest_terms-lowest : (a b : ℕ) → 0 < b → IsGcd (lowest_terms a b).0 (lowest_terms a b).1 1
lowest_terms-lowest a b some =
    let is = IsGcd-gcd_of a b in
    IsGcd-lowest a b (gcd_of a b) is (IsGcd-some a b (gcd_of a b) is some)

pub lowest_terms-exact : (a b : ℕ) → (lowest_terms a b).0 * b ≡ a * (lowest_terms a b).1
lowest_terms-exact a b = lowest-exact a b (gcd_of a b) (IsGcd-gcd_of a b)

-- where both numbers are 0, so are both quotients
lowest_terms-none : (a b : ℕ) → a ≡ 0 → b ≡ 0 → lowest_terms a b ≡ (0, 0)
unfolding gcd_of common_divisor_up_to
lowest_terms-none a b ea eb = rw (ea, eb) refl

-- the fraction in lowest terms, with 1 for the greatest common divisor of 0 and 0
pub lowest_terms-max : (a b g : ℕ) → IsGcd a b g → (c : ℕ) → (0 < g → c ≡ g) → (g ≡ 0 → c ≡ 1) → (a / c, b / c) ≡ lowest_terms a b
lowest_terms-max a b g is c some none =
    elim (cases_lt 0 g) [
      | inl pos ↦ ap (λ d. (a / d, b / d)) (some pos ∙ gcd_of-IsGcd a b g is)
      | inr low ↦
          let zero_g : g ≡ 0 = omega arith in
          let ends = IsGcd-none a b g is zero_g in
          ap (λ d. (a / d, b / d)) (none zero_g) ∙ ap₂ (λ x y. (x, y)) (div-one a ∙ ends.0) (div-one b ∙ ends.1)
          ∙ sym (lowest_terms-none a b ends.0 ends.1)
    ]

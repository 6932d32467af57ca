-- A bound of regret, by weak duality.
use Rattle.std.proofs.Common.{◌≡◌, ◌⊎◌, inl, inr, ℕ, ◌+◌, ◌-◌, ◌*◌, ◌/◌, ◌<◌, ◌≤◌, cond, List, [], ◌∷◌, length, get_or, zero, suc, sum, sum_by, sym, refl, ap, subst, ◌∙◌, arith}
use Rattle.std.specs.Int.{div_ceil}
use Rattle.std.specs.List.{All, Any}
use Rattle.std.proofs.lemmas.Bool.{cases_lt}
use Rattle.std.proofs.lemmas.Grind.{div_ceil_times}
use Rattle.std.proofs.lemmas.List.Elements.{All-head, All-tail}
use Rattle.std.proofs.lemmas.List.Sums.{sum_by-cons}
use Rattle.std.proofs.Math.Nat.{div-mul-le_self, div-zero, le_of_mul-le-mul_right, lt_of_mul-lt-mul_right, mul-le-mul_left, mul-le-mul_right, mul-lt-mul_of_pos_left, mul-lt-mul_of_pos_right, mul-pos}
use Rattle.divisor.proofs.GcdLemmas.{lowest_terms-exact, lowest_terms-some}
use Rattle.numbers.specs.Sums.{sum_below}
use Rattle.numbers.proofs.CountLemmas.{least_of-le}
use Rattle.numbers.proofs.SumsBelow.{sum_below-cross}
use Rattle.quorum_set.specs.Coteries.{QuorumSystem}
use Rattle.certificate.specs.Certificates.{Weighted, AreWeights, cycle_ratio, load_of, with_weights}
use Rattle.certificate.specs.Loads.{weight_on, weight_within}
use Rattle.certificate.specs.Ratios.{IsAtMost}
use Rattle.certificate.proofs.Duality.{quorum-Ascends}
use Rattle.certificate.proofs.RatioLemmas.{greatest_ratio-bound, greatest_ratio-some}
use Rattle.losses.specs.Losses.{each_left, is_left, load_left, ratio_left, tickets_left}
use Rattle.losses.specs.Regrets.{IsRegretBound, IsUsable, Regrets, bound_at, gain_at, million, price_at, price_of, regret_bound, total_of}
use Rattle.losses.specs.declared.failure.Failure.{Failure}
use Rattle.losses.proofs.LossLemmas.{length-each_left}
use Rattle.losses.proofs.Totals.{total, total-add, total-each_left, total-le, total-level, total-sum_by, weighed-total}

-- Products

-- a fraction in other terms is below the same fraction
below_fraction : (l0 l1 p e x y : ℕ) → 0 < e → l0 * e ≡ p * l1 → l0 * x < y * l1 → p * x < y * e
below_fraction l0 l1 p e x y some same less =
    let scaled : l0 * x * e < y * l1 * e = mul-lt-mul_of_pos_right less some in
    let turned : l0 * e * x ≡ p * l1 * x = ap (λ k. k * x) same in
    lt_of_mul-lt-mul_right l1 (omega (arith, scaled, turned))

-- rows that are each below their limit, added up
rows_at_most : (g q p c x y : ℕ) → 0 < q → g * q ≤ p * c → p * x ≤ y * q → g * x ≤ y * c
rows_at_most g q p c x y some bound low =
    let one : g * q * x ≤ p * c * x = mul-le-mul_right x bound in
    let two : p * x * c ≤ y * q * c = mul-le-mul_right c low in
    le_of_mul-le-mul_right {k = q} (omega (arith, one, two)) some

rows_below : (g q p c x y : ℕ) → 0 < c → g * q ≤ p * c → p * x < y * q → g * x < y * c
rows_below g q p c x y some bound low =
    let one : g * q * x ≤ p * c * x = mul-le-mul_right x bound in
    let two : p * x * c < y * q * c = mul-lt-mul_of_pos_right low some in
    lt_of_mul-lt-mul_right q (omega (arith, one, two))

-- the same next to the price
priced_at_most : (m g t r s left c price : ℕ) → 0 < t → m * s * c ≤ price * t → g * (m * t) ≤ r * s * left * c → m * m * g ≤ r * (price * left)
priced_at_most m g t r s left c price some dear row =
    let one : m * (g * (m * t)) ≤ m * (r * s * left * c) = mul-le-mul_left m row in
    let two : r * left * (m * s * c) ≤ r * left * (price * t) = mul-le-mul_left (r * left) dear in
    le_of_mul-le-mul_right {k = t} (omega (arith, one, two)) some

priced_below : (m g t r s left c price : ℕ) → 0 < m → m * s * c ≤ price * t → g * (m * t) < r * s * left * c → m * m * g < r * (price * left)
priced_below m g t r s left c price some dear row =
    let one : m * (g * (m * t)) < m * (r * s * left * c) = mul-lt-mul_of_pos_left row some in
    let two : r * left * (m * s * c) ≤ r * left * (price * t) = mul-le-mul_left (r * left) dear in
    lt_of_mul-lt-mul_right t (omega (arith, one, two))

factor-some : (a b : ℕ) → 0 < a * b → 0 < a
factor-some zero b some = absurd (omega (arith, some))
factor-some (suc a) b some = omega arith

-- no price without a multiplier
priced-some : (s t c : ℕ) → 0 < t → 0 < div_ceil (million * s * c) t → 0 < c
priced-some s t c parts some =
    elim (cases_lt 0 c) as (λ _. 0 < c) [
      | inl more ↦ more
      | inr none ↦
          let nothing : c ≡ 0 = omega arith in
          let price = div_ceil (million * s * c) t in
          let nothing_due : million * s * c ≡ million * s * 0 = ap (λ x. million * s * x) nothing in
          let whole : 1 * t ≤ price * t = mul-le-mul_right t some in
          absurd (omega (arith, nothing_due, whole, (div_ceil_times (million * s * c) t parts).1))
    ]

difference-some : (a b : ℕ) → 0 < a - b → a - b + b ≡ a
difference-some a b some = omega arith

sum_by-same : {A : Type 0} (f g : A → ℕ) (xs : List A) → ((x : A) → f x ≡ g x) → sum_by f xs ≡ sum_by g xs
sum_by-same f g [] same = refl
sum_by-same f g (x ∷ xs) same = omega (arith, sum_by-cons f x xs, sum_by-cons g x xs, same x, sum_by-same f g xs same)

-- Any

Any-first : {A : Type 0} (P : A → Type 0) (x : A) (xs : List A) → P x → Any P (x ∷ xs)
Any-first P x xs h = (0, x, omega arith, refl, h)

Any-later : {A : Type 0} (P : A → Type 0) (x : A) (xs : List A) → Any P xs → Any P (x ∷ xs)
Any-later P x xs h = (suc h.0, h.1, omega (arith, h.2), h.3, h.4)

module _ (w : Weighted) (h : AreWeights w) (weights others : List ℕ) (long : length weights ≡ length w.system.quorums) where
  abbrev n : ℕ
  n = w.system.voters

  abbrev quorums : List (List ℕ)
  quorums = w.system.quorums

  -- other weights of the same coterie and capacities
  abbrev rival : Weighted
  rival = with_weights w.system w.capacities weights others

  -- the tickets that are left, each times its quorum's multipliers
  abbrev gain_of : Failure → ℕ
  gain_of f = total (λ q. cond (is_left f.down q) (weight_within f.multipliers.items q) 0) quorums weights

  -- the tickets that are left, each times the price
  abbrev cost_of : Failure → ℕ
  cost_of f = price_of w f * tickets_left f.down rival

  cost-total : (f : Failure) → total (λ q. cond (is_left f.down q) (price_of w f) 0) quorums weights ≡ cost_of f
  cost-total f =
      sym (total-each_left f.down (λ q. price_of w f) quorums weights)
      ∙ total-level (price_of w f) quorums (each_left f.down quorums weights) (length-each_left f.down quorums weights long)

  -- the voters' counts, each times its multiplier
  abbrev weighed : List ℕ → List ℕ → ℕ
  weighed multipliers ws = sum_below (λ i. get_or multipliers i 0 * weight_on i quorums ws) n

  weighed-within : (multipliers ws : List ℕ) → weighed multipliers ws ≡ total (weight_within multipliers) quorums ws
  weighed-within multipliers ws = weighed-total n (λ i. get_or multipliers i 0) quorums ws (λ j lt. quorum-Ascends w.system j h.coterie lt)

  -- the counts are at most the ratio, times the capacities
  weighed-ratio : (multipliers ws : List ℕ) → let r = cycle_ratio (with_weights w.system w.capacities ws others) in
      weighed multipliers ws * r.1 ≤ r.0 * total_of w multipliers
  weighed-ratio multipliers ws =
      let count : ℕ → ℕ = λ i. weight_on i quorums ws in
      let r = cycle_ratio (with_weights w.system w.capacities ws others) in
      sum_below-cross n r.0 r.1 (λ i. get_or multipliers i 0) count (λ i. get_or w.capacities i 0) (greatest_ratio-bound n w.capacities count h.capacities)

  ratio-some : (ws : List ℕ) → 0 < (cycle_ratio (with_weights w.system w.capacities ws others)).1
  ratio-some ws = greatest_ratio-some n w.capacities (λ i. weight_on i quorums ws) h.capacities

  module _ (r : ℕ) where
    -- what the failures show together, if no regret is as large as r
    abbrev Below : ℕ → ℕ → Type 0
    Below gain cost = (million * million * gain ≤ r * cost) × (0 < cost → million * million * gain < r * cost)

    failure-below : (f : Failure) → IsUsable w.system f → Regrets (r, million) rival f ⊎ Below (gain_of f) (cost_of f)
    failure-below f usable =
        let left = tickets_left f.down rival in
        let ws = each_left f.down quorums weights in
        let p = (ratio_left f.down rival).0 in
        let q = (ratio_left f.down rival).1 in
        let s = f.best.0 in
        let t = f.best.1 in
        let load = load_left f.down rival in
        let c = total_of w f.multipliers.items in
        elim (cases_lt 0 left) [
          | inr none ↦ inl (usable.left, inl (omega arith))
          | inl some ↦
              elim (cases_lt (load.0 * (million * t)) (r * s * load.1)) [
                | inr high ↦ inl (usable.left, inr high)
                | inl low ↦
                    let divisor : 0 < q * left = mul-pos (ratio-some ws) some in
                    let fraction = below_fraction load.0 load.1 p (q * left) (million * t) (r * s) divisor (lowest_terms-exact p (q * left)) low in
                    let row : p * (million * t) < r * s * left * q = omega (arith, fraction) in
                    let own : gain_of f ≡ weighed f.multipliers.items ws =
                    sym (total-each_left f.down (weight_within f.multipliers.items) quorums weights) ∙ sym (weighed-within f.multipliers.items ws) in
                    let bound : gain_of f * q ≤ p * c = omega (arith, weighed-ratio f.multipliers.items ws, ap (λ g. g * q) own) in
                    let dear : million * s * c ≤ price_of w f * t = (div_ceil_times (million * s * c) t usable.best.parts).0 in
                    let most = priced_at_most million (gain_of f) t r s left c (price_of w f) usable.best.parts dear
                    (rows_at_most (gain_of f) q p c (million * t) (r * s * left) (ratio-some ws) bound (omega (arith, row))) in
                    let strict : 0 < cost_of f → million * million * gain_of f < r * cost_of f = λ costs.
                    priced_below million (gain_of f) t r s left c (price_of w f) (omega arith) dear
                    (rows_below (gain_of f) q p c (million * t) (r * s * left) (priced-some s t c usable.best.parts (factor-some (price_of w f) left costs)) bound row) in
                    inr (most, strict)
              ]
        ]

    failures-below : (fs : List Failure) → All (IsUsable w.system) fs → Any (Regrets (r, million) rival) fs ⊎ Below (sum_by gain_of fs) (sum_by cost_of fs)
    failures-below [] usable = inr (omega arith, λ some. absurd (omega (arith, some)))
    failures-below (f ∷ fs) usable =
        let P = Regrets (r, million) rival in
        elim (failure-below f (All-head (IsUsable w.system) f fs usable)) [
          | inl regrets ↦ inl (Any-first P f fs regrets)
          | inr one ↦
              elim (failures-below fs (All-tail (IsUsable w.system) f fs usable)) [
                | inl regrets ↦ inl (Any-later P f fs regrets)
                | inr rest ↦
                    let gains = sum_by-cons gain_of f fs in
                    let costs = sum_by-cons cost_of f fs in
                    let most : million * million * sum_by gain_of (f ∷ fs) ≤ r * sum_by cost_of (f ∷ fs) =
                    added (gain_of f) (cost_of f) (sum_by gain_of fs) (sum_by cost_of fs) (sum_by gain_of (f ∷ fs)) (sum_by cost_of (f ∷ fs)) gains costs one.0 rest.0 in
                    inr (
                      most,
                      λ some. elim (cases_lt 0 (cost_of f)) [
                        | inl first ↦ strict (gain_of f) (cost_of f) (sum_by gain_of fs) (sum_by cost_of fs) (sum_by gain_of (f ∷ fs)) (sum_by cost_of (f ∷ fs)) gains costs (one.1 first) rest.0
                        | inr none ↦ strict (sum_by gain_of fs) (sum_by cost_of fs) (gain_of f) (cost_of f) (sum_by gain_of (f ∷ fs)) (sum_by cost_of (f ∷ fs)) (omega (arith, gains)) (omega (arith, costs))
                            (rest.1 (omega (arith, some, none, costs))) one.0
                      ],
                    )
              ]
        ]
      where
        added : (g c h d gs cs : ℕ) → gs ≡ g + h → cs ≡ c + d → million * million * g ≤ r * c → million * million * h ≤ r * d → million * million * gs ≤ r * cs
        added g c h d gs cs eg ec one two =
            let costs : r * cs ≡ r * (c + d) = ap (λ x. r * x) ec in
            omega (arith, eg, costs, one, two)

        strict : (g c h d gs cs : ℕ) → gs ≡ g + h → cs ≡ c + d → million * million * g < r * c → million * million * h ≤ r * d → million * million * gs < r * cs
        strict g c h d gs cs eg ec one two =
            let costs : r * cs ≡ r * (c + d) = ap (λ x. r * x) ec in
            omega (arith, eg, costs, one, two)

  -- the load of the rival is within the limit
  module _ (limit : ℕ × ℕ) (multipliers : List ℕ) (some : 0 < sum weights) (within : IsAtMost (load_of rival) limit) where
    ratio-limit : (cycle_ratio rival).0 * limit.1 ≤ limit.0 * ((cycle_ratio rival).1 * sum weights)
    ratio-limit =
        let p = (cycle_ratio rival).0 in
        let e = (cycle_ratio rival).1 * sum weights in
        let load = load_of rival in
        let scaled : load.0 * limit.1 * e ≤ limit.0 * load.1 * e = mul-le-mul_right e within in
        let turned : load.0 * e * limit.1 ≡ p * load.1 * limit.1 = ap (λ k. k * limit.1) (lowest_terms-exact p e) in
        le_of_mul-le-mul_right {k = load.1} (omega (arith, scaled, turned)) (lowest_terms-some p e (mul-pos (ratio-some weights) some))

    -- the multipliers of the limit
    limit-total : total (weight_within multipliers) quorums weights * limit.1 ≤ limit.0 * sum weights * total_of w multipliers
    limit-total =
        let row : (cycle_ratio rival).0 * limit.1 ≤ limit.0 * sum weights * (cycle_ratio rival).1 = omega (arith, ratio-limit) in
        let own = ap (λ x. x * limit.1) (weighed-within multipliers weights) in
        omega (arith, own, rows_at_most (weighed multipliers weights) (cycle_ratio rival).1 (cycle_ratio rival).0 (total_of w multipliers) limit.1 (limit.0 * sum weights) (ratio-some weights) (weighed-ratio multipliers weights) row)

    module _ (failures : List Failure) (usable : All (IsUsable w.system) failures) (parts : 0 < limit.1) where
      abbrev r : ℕ
      r = regret_bound w limit multipliers failures

      module _ (positive : 0 < r) where
        abbrev gain : List ℕ → ℕ
        gain q = gain_at failures q + weight_within multipliers q

        abbrev price : List ℕ → ℕ
        price = price_at w failures

        -- what one quorum shows
        quorum-shows : (j : ℕ) → j < length quorums → let q = get_or quorums j [] in
            (0 < price q) × (r * limit.1 * price q + million * million * (total_of w multipliers * limit.0) ≤ million * million * limit.1 * gain q)
        quorum-shows j lt =
            let q = get_or quorums j [] in
            let shown = shows (million * million) (gain q * limit.1) (total_of w multipliers * limit.0) (price q * limit.1) r positive
            (least_of-le (bound_at w limit multipliers failures) quorums j [] lt) in
            (factor-some (price q) limit.1 shown.0, omega (arith, shown.1))
          where
            shows : (m a b d x : ℕ) → 0 < x → x ≤ m * (a - b) / d → (0 < d) × (x * d + m * b ≤ m * a)
            shows m a b d x some le =
                let divisor : 0 < d = elim (cases_lt 0 d) as (λ _. 0 < d) [
                  | inl more ↦ more
                  | inr none ↦
                      let flat : m * (a - b) / d ≡ 0 = ap (λ y. m * (a - b) / y) (flat_divisor d none) ∙ div-zero (m * (a - b)) in
                      absurd (omega (arith, some, le, flat))
                ] in
                let scaled : x * d ≤ m * (a - b) / d * d = mul-le-mul_right d le in
                let low : x * d ≤ m * (a - b) = omega (arith, scaled, div-mul-le_self (m * (a - b)) d) in
                let due : 0 < x * d = mul-pos some divisor in
                let more : 0 < (a - b) * m = omega (arith, due, low) in
                let rest = difference-some a b (factor-some (a - b) m more) in
                let whole : m * (a - b + b) ≡ m * a = ap (λ y. m * y) rest in
                (divisor, omega (arith, low, whole))
              where
                flat_divisor : (d : ℕ) → d ≤ 0 → d ≡ 0
                flat_divisor d none = omega arith

        total-price : total price quorums weights ≡ sum_by cost_of failures
        total-price =
            total-sum_by (λ f q. cond (is_left f.down q) (price_of w f) 0) failures quorums weights
            ∙ sum_by-same (λ f. total (λ q. cond (is_left f.down q) (price_of w f) 0) quorums weights) cost_of failures (λ f. cost-total f)

        -- the same for all weights together
        weights-show : r * sum_by cost_of failures ≤ million * million * sum_by gain_of failures
        weights-show =
            let due = total_of w multipliers * limit.0 in
            let all = total-le (r * limit.1) (million * million * due) (million * million * limit.1) price gain quorums weights long
            (λ j lt. (quorum-shows j lt).1) in
            let split = total-add (gain_at failures) (weight_within multipliers) quorums weights in
            let gains = total-sum_by (λ f q. cond (is_left f.down q) (weight_within f.multipliers.items q) 0) failures quorums weights in
            let own : million * million * limit.1 * total gain quorums weights
            ≡ million * million * limit.1 * (sum_by gain_of failures + total (weight_within multipliers) quorums weights) =
            ap (λ x. million * million * limit.1 * x) (omega (arith, split, gains)) in
            let costs : r * limit.1 * total price quorums weights ≡ r * limit.1 * sum_by cost_of failures = ap (λ x. r * limit.1 * x) total-price in
            le_of_mul-le-mul_right {k = limit.1} (omega (arith, all, own, costs, limit-total)) parts

        costs-some : 0 < sum_by cost_of failures
        costs-some =
            let each = total-le 0 1 1 price price quorums weights long (λ j lt. omega (arith, (quorum-shows j lt).0)) in
            omega (arith, each, total-price, some)

        regrets-positive : Any (Regrets (r, million) rival) failures
        regrets-positive =
            elim (failures-below r failures usable) as (λ _. Any (Regrets (r, million) rival) failures) [
              | inl regrets ↦ regrets
              | inr below ↦ absurd (omega (arith, weights-show, below.1 costs-some))
            ]

-- some failure has no regret below 0
Any-none : (w : Weighted) (failures : List Failure) → 0 < length failures → All (IsUsable w.system) failures → Any (Regrets (0, million) w) failures
Any-none w [] some usable = absurd (omega (arith, some))
Any-none w (f ∷ fs) some usable = Any-first (Regrets (0, million) w) f fs ((All-head (IsUsable w.system) f fs usable).left, inr (omega arith))

pub IsRegretBound-regret_bound : (w : Weighted) (limit : ℕ × ℕ) (multipliers : List ℕ) (failures : List Failure) → AreWeights w → 0 < limit.1
    → 0 < length failures → All (IsUsable w.system) failures → IsRegretBound (regret_bound w limit multipliers failures, million) w limit failures
IsRegretBound-regret_bound w limit multipliers failures h parts some usable v is within =
    let bound = regret_bound w limit multipliers failures in
    let Holds : QuorumSystem → List ℕ → Type 0 = λ s capacities.
    let u = with_weights s capacities v.quorum_weights v.voter_weights in
    length v.quorum_weights ≡ length s.quorums → IsAtMost (load_of u) limit → Any (Regrets (bound, million) u) failures in
    let own : Holds w.system w.capacities = λ long low. elim (cases_lt 0 bound) [
      | inl positive ↦ regrets-positive w h v.quorum_weights v.voter_weights long limit multipliers is.some_quorum low failures usable parts positive
      | inr none ↦
          let nothing : 0 ≡ bound = omega arith in
          let u = with_weights w.system w.capacities v.quorum_weights v.voter_weights in
          subst (λ r. Any (Regrets (r, million) u) failures) nothing (Any-none u failures some usable)
    ] in
    subst (λ s. Holds s v.capacities) (sym is.system) (subst (λ cs. Holds w.system cs) (sym is.capacities) own) is.quorums within

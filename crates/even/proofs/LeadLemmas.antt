-- The lead of a walk that begins again at its end, and what it gains in rows of steps.
use Rattle.std.proofs.Common.{◌≡◌, ℕ, ◌+◌, ◌-◌, ◌*◌, ◌/◌, ◌%◌, ◌<◌, ◌≤◌, zero, suc, sym, refl, ap, ◌∙◌, inl, inr, arith}
use Rattle.std.proofs.lemmas.Bool.{cases_lt}
use Rattle.std.proofs.lemmas.Nat.{mod-mul-add}
use Rattle.std.proofs.Math.Nat.{add-mod_left, mod-add-div', mod-lt}
use Rattle.numbers.specs.Counts.{greatest_below}
use Rattle.numbers.specs.Sums.{sum_below}
use Rattle.numbers.proofs.CountLemmas.{greatest_below-le, greatest_below-reached}
use Rattle.numbers.proofs.SumsBelow.{sum_below-same}
use Rattle.even.specs.Leads.{lead_after}

-- what n steps gain, from step a on
abbrev pub gained : (ℕ → ℕ) → ℕ → ℕ → ℕ
gained g a n = sum_below (λ t. g (a + t)) n

-- the lead after n steps, begun without one
abbrev pub lead_of : (ℕ → ℕ) → ℕ → ℕ → ℕ
lead_of g k n = lead_after g k 0 n

-- the gains of a row are at most its cost and the lead at its end
lead_of-bound : (g : ℕ → ℕ) (k a n : ℕ) → gained g a n ≤ n * k + lead_of g k (a + n)
lead_of-bound g k a zero = omega arith
lead_of-bound g k a (suc n) =
    let next : a + suc n ≡ suc (a + n) = omega arith in
    omega (arith, ap (lead_of g k) next, lead_of-bound g k a n)

-- and of some row that ends there exactly that
lead_of-reached : (g : ℕ → ℕ) (k m : ℕ) → (a : ℕ) × (n : ℕ) × (a + n ≡ m) × (gained g a n ≡ n * k + lead_of g k m)
lead_of-reached g k zero = (0, 0, omega arith, omega arith)
lead_of-reached g k (suc m) =
    let (a, n, at, same) = lead_of-reached g k m in
    elim (cases_lt k (lead_of g k m + g m)) [
      | inl ahead ↦ (a, suc n, omega (arith, at), omega (arith, same, ap g at, ahead))
      | inr behind ↦ (suc m, 0, omega arith, omega (arith, behind))
    ]

-- a row in two parts
gained-parts : (g : ℕ → ℕ) (a m n : ℕ) → gained g a (m + n) ≡ gained g a m + gained g (a + m) n
gained-parts g a m zero = let none : m + zero ≡ m = omega arith in omega (arith, ap (gained g a) none)
gained-parts g a m (suc n) =
    let next : m + suc n ≡ suc (m + n) = omega arith in
    let same : a + (m + n) ≡ (a + m) + n = omega arith in
    omega (arith, ap (gained g a) next, ap g same, gained-parts g a m n)

-- the lead at a step of the second round
abbrev held : (ℕ → ℕ) → ℕ → ℕ → ℕ → ℕ
held g k d t = lead_of g k (d + t % d)

module _ (g : ℕ → ℕ) (k d : ℕ) (some : 0 < d) (again : (t : ℕ) → g (t % d) ≡ g t) (whole : gained g 0 d ≤ d * k) where
  -- a step gains what it gains a round later
  later : (t : ℕ) → g (d + t) ≡ g t
  later t = sym (again (d + t)) ∙ ap g (add-mod_left d t) ∙ again t

  gained-later : (a n : ℕ) → gained g (d + a) n ≡ gained g a n
  gained-later a n = sum_below-same n (λ t. g (d + a + t)) (λ t. g (a + t)) (λ t lt. let same : d + a + t ≡ d + (a + t) = omega arith in ap g same ∙ later (a + t))

  -- a second round ends with no greater lead than the first
  second_round : lead_of g k (d + d) ≤ lead_of g k d
  second_round =
      let (a, n, at, same) = lead_of-reached g k (d + d) in
      elim (cases_lt a d) [
        | inl before ↦
            let b : ℕ = d - a in
            let first : a + b ≡ d = omega arith in
            let long : n ≡ b + d = omega (arith, at, first) in
            let start : d ≡ d + 0 = omega arith in
            let round = ap (λ x. gained g x d) (first ∙ start) ∙ gained-later 0 d in
            omega (
              arith,
              same,
              ap (gained g a) long,
              ap (λ x. x * k) long,
              gained-parts g a b d,
              round,
              whole,
              lead_of-bound g k a b,
              ap (lead_of g k) first,
            )
        | inr after ↦
            let b : ℕ = a - d in
            let from : a ≡ d + b = omega arith in
            let ends : b + n ≡ d = omega (arith, at, from) in
            omega (arith, same, ap (λ x. gained g x n) from, gained-later b n, lead_of-bound g k b n, ap (lead_of g k) ends)
      ]

  -- it grows by no less than a step gains beyond its cost, also from the round's end to its begin
  held-step : (t : ℕ) → held g k d t + g t ≤ k + held g k d (suc t)
  held-step t =
      let r : ℕ = t % d in
      let low : r < d = mod-lt t {m = d} some in
      let parts : r + t / d * d ≡ t = mod-add-div' t d in
      let here : g (d + r) ≡ g t = later r ∙ again t in
      elim (cases_lt (suc r) d) [
        | inl inside ↦
            let next : suc t ≡ t / d * d + suc r = omega (arith, parts) in
            let at : suc t % d ≡ suc r = ap (λ x. x % d) next ∙ mod-mul-add (t / d) d (suc r) inside in
            let on : d + suc t % d ≡ suc (d + r) = omega (arith, at) in
            omega (arith, ap (lead_of g k) on, here)
        | inr last ↦
            let next : suc t ≡ suc (t / d) * d + 0 = omega (arith, parts, low, last) in
            let at : suc t % d ≡ 0 = ap (λ x. x % d) next ∙ mod-mul-add (suc (t / d)) d 0 some in
            let on : d + suc t % d ≡ d = omega (arith, at) in
            let end : suc (d + r) ≡ d + d = omega (arith, low, last) in
            omega (arith, ap (lead_of g k) on, here, ap (lead_of g k) end, second_round)
      ]

  gained-held : (a n : ℕ) → gained g a n + held g k d a ≤ n * k + held g k d (a + n)
  gained-held a zero = let same : a + zero ≡ a = omega arith in omega (arith, ap (held g k d) same)
  gained-held a (suc n) =
      let next : a + suc n ≡ suc (a + n) = omega arith in
      omega (arith, gained-held a n, held-step (a + n), ap (held g k d) next)

  -- a walk that goes on from the lead of the first round is the second round
  lead_after-second : (p : ℕ) → lead_after g k (lead_of g k d) p ≡ lead_of g k (d + p)
  lead_after-second zero = let same : d ≡ d + zero = omega arith in ap (lead_of g k) same
  lead_after-second (suc p) =
      let next : d + suc p ≡ suc (d + p) = omega arith in
      omega (arith, ap (lead_of g k) next, lead_after-second p, later p)

-- steps that gain the same have the same lead
lead_after-same : (f g : ℕ → ℕ) (k start n : ℕ) → ((t : ℕ) → t < n → f t ≡ g t) → lead_after f k start n ≡ lead_after g k start n
lead_after-same f g k start zero same = refl
lead_after-same f g k start (suc n) same = omega (arith, lead_after-same f g k start n (λ t lt. same t (omega arith)), same n (omega arith))

-- The greatest lead of the second round. The gains f are those of the first round, and g those of all
-- rounds.
pub greatest_lead-is : (f g : ℕ → ℕ) (k d start greatest : ℕ) → 0 < d → ((t : ℕ) → g (t % d) ≡ g t) → ((t : ℕ) → t < d → f t ≡ g t) → gained g 0 d ≤ d * k
    → start ≡ lead_after f k 0 d → greatest ≡ greatest_below (d + 1) (lead_after f k start)
    → ((a n : ℕ) → gained g a n ≤ n * k + greatest) × ((a : ℕ) × (n : ℕ) × (gained g a n ≡ n * k + greatest))
greatest_lead-is f g k d start greatest some again same whole begun most =
    let begin : start ≡ lead_of g k d = begun ∙ lead_after-same f g k 0 d same in
    let walk : (p : ℕ) → p ≤ d → lead_after f k start p ≡ lead_of g k (d + p) = λ p le.
    lead_after-same f g k start p (λ t lt. same t (omega arith))
    ∙ ap (λ s. lead_after g k s p) begin
    ∙ lead_after-second g k d some again whole p in
    let bound : (a n : ℕ) → gained g a n ≤ n * k + greatest = λ a n.
    let r : ℕ = (a + n) % d in
    let low : r < d = mod-lt (a + n) {m = d} some in
    let below = greatest_below-le (d + 1) (lead_after f k start) r (omega arith) in
    omega (arith, gained-held g k d some again whole a n, walk r (omega arith), below, most) in
    let (p, lt, at) = greatest_below-reached (d + 1) (lead_after f k start) (omega arith) in
    let (a, n, _, reached) = lead_of-reached g k (d + p) in
    (bound, (a, n, omega (arith, reached, walk p (omega arith), at, most)))

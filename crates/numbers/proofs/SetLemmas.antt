-- Lemmas on sets of numbers as ascending lists.
use Rattle.std.proofs.Common.{◌≡◌, ℕ, ◌+◌, ◌<◌, ◌≤◌, Bool, true, false, cond, ◌||◌, eqb, List, [], ◌∷◌, ◌++◌, length, get_or, zero, suc, sym, refl, ap, ◌∙◌, inl, inr, arith}
use Rattle.std.proofs.lemmas.Bool.{false≢true, true≢false, eq-eqb, ne_eqb, cases_order, cases_eq}
use Rattle.std.proofs.lemmas.List.Folds.{list_any-append, list_any_at}
use Rattle.std.proofs.lemmas.Bool.{cases_lt}
use Rattle.std.specs.List.{All}
use Rattle.std.proofs.lemmas.List.Elements.{All-head, All-tail}
use Rattle.numbers.specs.Sets.{has, Ascends, IsSet, numbers_from, set_where}

pub Ascends-lower : (a b high : ℕ) (s : List ℕ) → b ≤ a → Ascends a high s → Ascends b high s
Ascends-lower a b high [] le h = tt
Ascends-lower a b high (x ∷ xs) le h = (omega arith, h.1, h.2)

pub Ascends-all_below : (low high n : ℕ) (s : List ℕ) → Ascends low high s → All (λ i. i < n) s → Ascends low n s
Ascends-all_below low high n [] h small = tt
Ascends-all_below low high n (x ∷ xs) h small =
    let rest = Ascends-all_below (x + 1) high n xs h.2 (All-tail (λ i. i < n) x xs small) in
    (h.0, All-head (λ i. i < n) x xs small, rest)

-- nothing below the least number is a member
pub has-below : (low high : ℕ) (s : List ℕ) (i : ℕ) → Ascends low high s → i < low → has s i ≡ false
has-below low high [] i h lt = refl
has-below low high (x ∷ xs) i h lt =
    let differ : x ≡ i → ⊥ = λ e. omega arith in
    ap (λ b. b || has xs i) (ne_eqb x i differ) ∙ has-below (x + 1) high xs i h.2 (omega arith)

-- nor anything from high on
pub has-above : (low high : ℕ) (s : List ℕ) (i : ℕ) → Ascends low high s → high ≤ i → has s i ≡ false
has-above low high [] i h le = refl
has-above low high (x ∷ xs) i h le =
    let differ : x ≡ i → ⊥ = λ e. omega arith in
    ap (λ b. b || has xs i) (ne_eqb x i differ) ∙ has-above (x + 1) high xs i h.2 le

pub has-head : (x : ℕ) (xs : List ℕ) → has (x ∷ xs) x ≡ true
has-head x xs = ap (λ b. b || has xs x) (eq-eqb x x refl)

pub has-tail : (x : ℕ) (xs : List ℕ) (i : ℕ) → (x ≡ i → ⊥) → has (x ∷ xs) i ≡ has xs i
has-tail x xs i differ = ap (λ b. b || has xs i) (ne_eqb x i differ)

-- two sets with the same members are one
pub Ascends-unique : (low high : ℕ) (s t : List ℕ) → Ascends low high s → Ascends low high t → ((i : ℕ) → has s i ≡ has t i) → s ≡ t
Ascends-unique low high [] [] hs ht e = refl
Ascends-unique low high [] (y ∷ ys) hs ht e = absurd (false≢true (e y ∙ has-head y ys))
Ascends-unique low high (x ∷ xs) [] hs ht e = absurd (true≢false (sym (has-head x xs) ∙ e x))
Ascends-unique low high (x ∷ xs) (y ∷ ys) hs ht e =
    elim (cases_order x y) as (λ _. x ∷ xs ≡ y ∷ ys) [
      | inl same ↦
          let rest : xs ≡ ys = Ascends-unique (x + 1) high xs ys hs.2 (Ascends-lower (y + 1) (x + 1) high ys (omega arith) ht.2)
          (λ i. elim (cases_eq x i) as (λ _. has xs i ≡ has ys i) [
            | inl at ↦ has-below (x + 1) high xs i hs.2 (omega arith) ∙ sym (has-below (y + 1) high ys i ht.2 (omega arith))
            | inr off ↦ sym (has-tail x xs i off) ∙ e i ∙ has-tail y ys i (λ at. off (same ∙ at))
          ]) in cc
      | inr apart ↦ elim apart [
        | inl lt ↦ absurd (true≢false (sym (has-head x xs) ∙ e x ∙ has-below (x + 1) high (y ∷ ys) x (omega arith, ht.1, ht.2) (omega arith)))
        | inr gt ↦ absurd (true≢false (sym (has-head y ys) ∙ sym (e y) ∙ has-below (y + 1) high (x ∷ xs) y (omega arith, hs.1, hs.2) (omega arith)))
      ]
    ]

pub Ascends-numbers_from : (low n : ℕ) (p : ℕ → Bool) → Ascends low (low + n) (numbers_from low n p)
Ascends-numbers_from low zero p = tt
Ascends-numbers_from low (suc n) p =
    let rest : Ascends (low + 1) (low + suc n) (numbers_from (low + 1) n p) =
    let e : (low + 1) + n ≡ low + suc n = omega arith in rw e at (Ascends-numbers_from (low + 1) n p) in
    elim (p low) as (λ b. Ascends low (low + suc n) (cond b (low ∷ numbers_from (low + 1) n p) (numbers_from (low + 1) n p))) [
      | true ↦ (omega arith, omega arith, rest)
      | false ↦ Ascends-lower (low + 1) low (low + suc n) _ (omega arith) rest
    ]

pub has-numbers_from : (low n : ℕ) (p : ℕ → Bool) (i : ℕ) → low ≤ i → i < low + n → has (numbers_from low n p) i ≡ p i
has-numbers_from low zero p i le lt = absurd (omega arith)
has-numbers_from low (suc n) p i le lt =
    let rest = numbers_from (low + 1) n p in
    let up = Ascends-numbers_from (low + 1) n p in
    elim (cases_eq low i) as (λ _. has (cond (p low) (low ∷ rest) rest) i ≡ p i) [
      | inl at ↦
          elim (p low) as (λ b. p low ≡ b → has (cond b (low ∷ rest) rest) i ≡ p i) [
            | true ↦ λ e. ap (λ b. b || has rest i) (eq-eqb low i at) ∙ sym (ap p (sym at) ∙ e)
            | false ↦ λ e. has-below (low + 1) _ rest i up (omega arith) ∙ sym (ap p (sym at) ∙ e)
          ] refl
      | inr off ↦
          let below : has rest i ≡ p i = has-numbers_from (low + 1) n p i (omega arith) (omega arith) in
          elim (p low) as (λ b. has (cond b (low ∷ rest) rest) i ≡ p i) [
            | true ↦ has-tail low rest i off ∙ below
            | false ↦ below
          ]
    ]

pub IsSet-set_where : (p : ℕ → Bool) → IsSet (set_where p)
unfolding set_where
IsSet-set_where p = Ascends-numbers_from 0 64 p

pub has-set_where : (p : ℕ → Bool) (i : ℕ) → i < 64 → has (set_where p) i ≡ p i
unfolding set_where
has-set_where p i lt = has-numbers_from 0 64 p i (omega arith) lt

-- a set is the set of the numbers that pass p, where it has exactly those
pub is_set_where : (s : List ℕ) (p : ℕ → Bool) → IsSet s → ((i : ℕ) → i < 64 → has s i ≡ p i) → s ≡ set_where p
is_set_where s p h e =
    Ascends-unique 0 64 s (set_where p) h (IsSet-set_where p) (λ i.
    elim (cases_lt i 64) as (λ _. has s i ≡ has (set_where p) i) [
      | inl lt ↦ e i lt ∙ sym (has-set_where p i lt)
      | inr ge ↦ has-above 0 64 s i h ge ∙ sym (has-above 0 64 (set_where p) i (IsSet-set_where p) ge)
    ])

-- an ascending list has room for no more than its range
pub length-Ascends : (low high : ℕ) (s : List ℕ) → low ≤ high → Ascends low high s → length s + low ≤ high
length-Ascends low high [] le h = omega arith
length-Ascends low high (x ∷ xs) le h = omega (arith, length-Ascends (x + 1) high xs (omega arith) h.2)

-- a number that stands at a place is a member
pub has-at : (s : List ℕ) (k i : ℕ) → k < length s → get_or s k 0 ≡ i → has s i ≡ true
has-at s k i lt e = list_any_at (λ j. eqb j i) s k 0 lt (eq-eqb _ _ e)

pub has-append : (s t : List ℕ) (i : ℕ) → has (s ++ t) i ≡ (has s i || has t i)
has-append s t i = list_any-append (λ j. eqb j i) s t

-- sets by tests that agree
pub set_where-same : (p q : ℕ → Bool) → ((i : ℕ) → i < 64 → p i ≡ q i) → set_where p ≡ set_where q
set_where-same p q e = is_set_where (set_where p) q (IsSet-set_where p) (λ i lt. has-set_where p i lt ∙ e i lt)

-- a member of a set is below 64
pub has-IsSet_below : (s : List ℕ) (v : ℕ) → IsSet s → has s v ≡ true → v < 64
has-IsSet_below s v h member = elim (cases_lt v 64) [
  | inl less ↦ less
  | inr above ↦ absurd (false≢true (sym (has-above 0 64 s v h above) ∙ member))
]

-- Lemmas on sets in one word, whose bits say which numbers are members.
use Rattle.std.proofs.Common.{◌≡◌, ℕ, zero, suc, ◌+◌, ◌-◌, ◌*◌, ◌/◌, ◌%◌, ◌^◌, ◌<◌, ◌≤◌, max, Bool, true, false, cond, not, ◌&&◌, ◌||◌, eqb, List, [], ◌∷◌, ◌++◌, length}
use Rattle.std.proofs.Common.{w64, lit<, sym, refl, ap, ap₂, ◌∙◌, inl, inr, subst, add-one, arith, mod-lt, mod-eq_of_lt, length-append, append_assoc, append-nil, pow_pos}
use Rattle.std.specs.Prelude.{bit_and, bit_or, count_ones}
use Rattle.std.specs.Int.{bit_at, bit_not, trailing_zeros}
use Rattle.std.proofs.lemmas.Bool.{cases_lt, cases_eq, eqb-true, eq-eqb, ne_eqb, true≢false, false≢true, true_from_ne_false, not_from_false, not-true}
use Rattle.std.proofs.lemmas.Nat.{or_lt, and_le_l, and_le_r, ones-le, zero_from_ones, ones_cat, div-add-mod'}
use Rattle.std.proofs.Math.Nat.{pow-suc}
use Rattle.std.proofs.lemmas.Nat.Bits.{bit_at-zero, bit_at_and, bit_at_or, bit_at_not, bit_at_above, bit_at-lt, bit_at_set_same, bit_at_set_other, bit_at_clear_same}
use Rattle.std.proofs.lemmas.Nat.Bits.{bit_at_clear_other, bit_at-trailing_zeros, bit_at_cat_low, bit_at_cat_high, bit_at_ones_above, same_from_bits, same_from_bits_below}
use Rattle.std.proofs.lemmas.Nat.Bits.{shr_and_one}
use Rattle.numbers.specs.Sets.{has, meet, within, union, IsSet, Ascends, set_where, members_of}
use Rattle.numbers.proofs.Meetings.{meet-common, meet-from, within-from, within-has}
use Rattle.quorum_set.specs.Words.{below, last_of, below-more, low_more, word_of, word_of-members_of}
use Rattle.numbers.proofs.SetLemmas.{has-set_where, has-above, has-tail, has-head, Ascends-unique, length-Ascends, IsSet-set_where, is_set_where}

-- a word shows a set
pub IsSet-members_of : (m : ℕ) → IsSet (members_of m)
IsSet-members_of m = IsSet-set_where (λ j. eqb (bit_at m j) 1)

-- what a word has, at any number
pub has-members_of : (m i : ℕ) → m < 2 ^ 64 → has (members_of m) i ≡ eqb (bit_at m i) 1
has-members_of m i fits =
    elim (cases_lt i 64) [
      | inl lt ↦ has-set_where (λ j. eqb (bit_at m j) 1) i lt
      | inr ge ↦ has-above 0 64 (members_of m) i (IsSet-members_of m) ge ∙ sym (ap (λ b. eqb b 1) (bit_at_above m 64 i fits ge))
    ]

pub has_none_above : (m i : ℕ) → 64 ≤ i → has (members_of m) i ≡ false
has_none_above m i ge = has-above 0 64 (members_of m) i (IsSet-members_of m) ge

-- the word 0 shows the empty set
pub members_of-zero : members_of 0 ≡ []
members_of-zero = sym (is_set_where [] (λ j. eqb (bit_at 0 j) 1) tt (λ i lt. sym (ap (λ b. eqb b 1) (bit_at-zero i))))

-- a bit that is 1 is a member
bit_set : (m i : ℕ) → m < 2 ^ 64 → has (members_of m) i ≡ true → bit_at m i ≡ 1
bit_set m i fits h = eqb-true (bit_at m i) 1 (sym (has-members_of m i fits) ∙ h)

set_bit : (m i : ℕ) → m < 2 ^ 64 → bit_at m i ≡ 1 → has (members_of m) i ≡ true
set_bit m i fits h = has-members_of m i fits ∙ eq-eqb (bit_at m i) 1 h

same_true : (b c : Bool) → (b ≡ true → c ≡ true) → (c ≡ true → b ≡ true) → b ≡ c
same_true true c f g = sym (f refl)
same_true false true f g = g refl
same_true false false f g = refl

-- the words have a common 1 if the sets have a common member
pub meet-members_of : (a b : ℕ) → a < 2 ^ 64 → b < 2 ^ 64 → not (eqb (bit_and a b) 0) ≡ meet (members_of a) (members_of b)
meet-members_of a b fits_a fits_b =
    same_true (not (eqb (bit_and a b) 0)) (meet (members_of a) (members_of b))
    (λ some. true_from_ne_false (meet (members_of a) (members_of b)) (λ none.
    let zero : bit_and a b ≡ 0 = same_from_bits (bit_and a b) 0 (λ i.
    elim (cases_eq (bit_at a i) 1) as (λ _. bit_at (bit_and a b) i ≡ bit_at 0 i) [
      | inl one ↦ elim (cases_eq (bit_at b i) 1) as (λ _. bit_at (bit_and a b) i ≡ bit_at 0 i) [
        | inl two ↦ absurd (false≢true (sym none ∙ meet-from (members_of a) (members_of b) i (set_bit a i fits_a one) (set_bit b i fits_b two)))
        | inr off ↦ omega (arith, bit_at_and a b i, bit_at-zero i, bit_at-lt b i)
      ]
      | inr off ↦ omega (arith, bit_at_and a b i, bit_at-zero i, bit_at-lt a i)
    ]) in
    true≢false (sym (eq-eqb (bit_and a b) 0 zero) ∙ not-true (eqb (bit_and a b) 0) some)))
    (λ common. let at = meet-common (members_of a) (members_of b) common in
    not_from_false (eqb (bit_and a b) 0) (ne_eqb (bit_and a b) 0 (λ zero.
    let one = bit_set a at.0 fits_a at.1 in
    let two = bit_set b at.0 fits_b at.2 in
    let bit : bit_at (bit_and a b) at.0 ≡ 0 = ap (λ n. bit_at n at.0) zero ∙ bit_at-zero at.0 in
    omega (arith, bit_at_and a b at.0, bit))))

-- the first word has no 1 of its own if its set is within the other
pub within-members_of : (a b : ℕ) → a < 2 ^ 64 → b < 2 ^ 64 → eqb (bit_and a (bit_not w64 b)) 0 ≡ within (members_of a) (members_of b)
within-members_of a b fits_a fits_b =
    same_true (eqb (bit_and a (bit_not w64 b)) 0) (within (members_of a) (members_of b))
    (λ none. within-from (members_of a) (members_of b) (λ i h.
    let one = bit_set a i fits_a h in
    elim (cases_lt i 64) as (λ _. has (members_of b) i ≡ true) [
      | inl lt ↦
          let zero : bit_at (bit_and a (bit_not w64 b)) i ≡ 0 = ap (λ n. bit_at n i) (eqb-true (bit_and a (bit_not w64 b)) 0 none) ∙ bit_at-zero i in
          set_bit b i fits_b (omega (arith, zero, bit_at_and a (bit_not w64 b) i, bit_at_not w64 b i fits_b lt, bit_at-lt b i, one))
      | inr ge ↦ absurd (omega (arith, one, bit_at_above a 64 i fits_a ge))
    ]))
    (λ all. eq-eqb (bit_and a (bit_not w64 b)) 0 (same_from_bits (bit_and a (bit_not w64 b)) 0 (λ i.
    elim (cases_eq (bit_at a i) 1) as (λ _. bit_at (bit_and a (bit_not w64 b)) i ≡ bit_at 0 i) [
      | inl one ↦ elim (cases_lt i 64) as (λ _. bit_at (bit_and a (bit_not w64 b)) i ≡ bit_at 0 i) [
        | inl lt ↦
            let two = bit_set b i fits_b (within-has (members_of a) (members_of b) i all (set_bit a i fits_a one)) in
            omega (arith, two, bit_at_and a (bit_not w64 b) i, bit_at_not w64 b i fits_b lt, bit_at-zero i)
        | inr ge ↦ absurd (omega (arith, one, bit_at_above a 64 i fits_a ge))
      ]
      | inr off ↦ omega (arith, bit_at_and a (bit_not w64 b) i, bit_at-zero i, bit_at-lt a i)
    ])))

-- one more bit
pub members_of-insert : (m i : ℕ) → m < 2 ^ 64 → i < 64 → bit_or m (1 * 2 ^ i % 2 ^ 64) < 2 ^ 64 → members_of (bit_or m (1 * 2 ^ i % 2 ^ 64)) ≡ set_where (λ j. eqb j i || has (members_of m) j)
members_of-insert m i fits lt fits_new =
    is_set_where (members_of (bit_or m (1 * 2 ^ i % 2 ^ 64))) (λ j. eqb j i || has (members_of m) j) (IsSet-set_where (λ j. eqb (bit_at (bit_or m (1 * 2 ^ i % 2 ^ 64)) j) 1)) (λ j lj.
    has-members_of (bit_or m (1 * 2 ^ i % 2 ^ 64)) j fits_new ∙
    elim (cases_eq j i) as (λ _. eqb (bit_at (bit_or m (1 * 2 ^ i % 2 ^ 64)) j) 1 ≡ (eqb j i || has (members_of m) j)) [
      | inl at ↦
          let same : bit_at (bit_or m (1 * 2 ^ i % 2 ^ 64)) j ≡ 1 = ap (bit_at (bit_or m (1 * 2 ^ i % 2 ^ 64))) at ∙ bit_at_set_same w64 m i lt in
          eq-eqb _ _ same ∙ sym (ap (λ b. b || has (members_of m) j) (eq-eqb j i at))
      | inr off ↦
          ap (λ n. eqb n 1) (bit_at_set_other w64 m i lt j off) ∙ sym (has-members_of m j fits) ∙ sym (ap (λ b. b || has (members_of m) j) (ne_eqb j i off))
    ])

pub word_with_bit_fits : (m x : ℕ) → m < 2 ^ 64 → bit_or m (x % 2 ^ 64) < 2 ^ 64
word_with_bit_fits m x fits = or_lt 64 m (x % 2 ^ 64) fits (mod-lt x {m = 2 ^ 64} (lit< tt))

-- one bit less
pub members_of-remove : (m i : ℕ) → m < 2 ^ 64 → i < 64 → bit_and m (bit_not w64 (1 * 2 ^ i % 2 ^ 64)) < 2 ^ 64
    → members_of (bit_and m (bit_not w64 (1 * 2 ^ i % 2 ^ 64))) ≡ set_where (λ j. not (eqb j i) && has (members_of m) j)
members_of-remove m i fits lt fits_new =
    let left = bit_and m (bit_not w64 (1 * 2 ^ i % 2 ^ 64)) in
    is_set_where (members_of left) (λ j. not (eqb j i) && has (members_of m) j) (IsSet-members_of left) (λ j lj.
    has-members_of left j fits_new ∙
    elim (cases_eq j i) as (λ _. eqb (bit_at left j) 1 ≡ (not (eqb j i) && has (members_of m) j)) [
      | inl at ↦
          let gone : bit_at left j ≡ 0 = ap (bit_at left) at ∙ bit_at_clear_same w64 m i lt in
          ap (λ n. eqb n 1) gone ∙ sym (ap (λ b. not b && has (members_of m) j) (eq-eqb j i at))
      | inr off ↦
          ap (λ n. eqb n 1) (bit_at_clear_other w64 m i lt j lj off) ∙ sym (has-members_of m j fits)
          ∙ sym (ap (λ b. not b && has (members_of m) j) (ne_eqb j i off))
    ])

pub word_without_bit_fits : (m x : ℕ) → m < 2 ^ 64 → bit_and m x < 2 ^ 64
word_without_bit_fits m x fits = let less = and_le_l m x in omega arith

one_long : (b n : ℕ) → b < 2 → length (cond (eqb b 1) (n ∷ []) []) ≡ count_ones b
one_long zero n lt = omega (arith, ones-le 0 0 (omega arith))
one_long (suc zero) n lt =
    elim (cases_eq (count_ones 1) 0) as (λ _. 1 ≡ count_ones 1) [
      | inl none ↦ absurd (omega (arith, zero_from_ones 1 none))
      | inr some ↦ omega (arith, ones-le 1 1 (omega arith))
    ]
one_long (suc (suc b)) n lt = absurd (omega arith)

length-below : (m n : ℕ) → length (below m n) ≡ count_ones (m % 2 ^ n)
length-below m zero = omega (arith, ones-le 0 (m % 1) (omega arith))
length-below m (suc n) =
    ap length (below-more m n) ∙ length-append (below m n) (last_of m n)
    ∙ omega (arith, length-below m n, one_long (bit_at m n) n (bit_at-lt m n), ones_cat n (bit_at m n) (m % 2 ^ n) (mod-lt m (pow_pos n)))
    ∙ ap count_ones (sym (low_more m n))

-- as many members as bits that are 1
pub length-members_of : (m : ℕ) → m < 2 ^ 64 → count_ones m ≡ length (members_of m)
unfolding set_where
length-members_of m fits = ap count_ones (sym (mod-eq_of_lt fits)) ∙ sym (length-below m 64)

-- both words' bits show the union
pub words_joined_fit : (a b : ℕ) → a < 2 ^ 64 → b < 2 ^ 64 → bit_or a b < 2 ^ 64
words_joined_fit a b fits_a fits_b = or_lt 64 a b fits_a fits_b

eqb-max_one : (a b : ℕ) → a < 2 → b < 2 → eqb (max a b) 1 ≡ (eqb a 1 || eqb b 1)
eqb-max_one zero zero la lb = refl
eqb-max_one zero (suc zero) la lb = refl
eqb-max_one (suc zero) zero la lb = refl
eqb-max_one (suc zero) (suc zero) la lb = refl
eqb-max_one zero (suc (suc b)) la lb = absurd (omega arith)
eqb-max_one (suc zero) (suc (suc b)) la lb = absurd (omega arith)
eqb-max_one (suc (suc a)) b la lb = absurd (omega arith)

pub union-members_of : (a b : ℕ) → a < 2 ^ 64 → b < 2 ^ 64 → members_of (bit_or a b) ≡ union (members_of a) (members_of b)
union-members_of a b fits_a fits_b =
    is_set_where (members_of (bit_or a b)) (λ v. has (members_of a) v || has (members_of b) v) (IsSet-members_of (bit_or a b)) (λ v lt.
    has-members_of (bit_or a b) v (words_joined_fit a b fits_a fits_b) ∙ ap (λ n. eqb n 1) (bit_at_or a b v)
    ∙ eqb-max_one (bit_at a v) (bit_at b v) (bit_at-lt a v) (bit_at-lt b v)
    ∙ sym (ap₂ (λ x y. x || y) (has-members_of a v fits_a) (has-members_of b v fits_b)))

-- a set with no member below k ascends from k on
Ascends-from : (low k high : ℕ) (s : List ℕ) → Ascends low high s → ((i : ℕ) → i < k → has s i ≡ false) → Ascends k high s
Ascends-from low k high [] h none = tt
Ascends-from low k high (x ∷ xs) h none =
    elim (cases_lt x k) [
      | inl early ↦ absurd (true≢false (sym (has-head x xs) ∙ none x early))
      | inr late ↦ (late, h.1, h.2)
    ]

-- m & (m - 1) is m without its lowest 1
module _ (m : ℕ) (some : 0 < m) (fits : m < 2 ^ 64) where
  lowest : (trailing_zeros w64 m < 64) × (bit_at m (trailing_zeros w64 m) ≡ 1) × ((i : ℕ) → i < trailing_zeros w64 m → bit_at m i ≡ 0)
  lowest = bit_at-trailing_zeros w64 m some fits

  abbrev place : ℕ
  place = trailing_zeros w64 m

  abbrev above : ℕ
  above = m / 2 ^ suc place

  nothing_below : m % 2 ^ place ≡ 0
  nothing_below =
      same_from_bits_below place (m % 2 ^ place) 0 (mod-lt m (pow_pos place)) (pow_pos place) (λ i lt.
      sym (bit_at_cat_low (m / 2 ^ place) place (m % 2 ^ place) i lt) ∙ ap (λ n. bit_at n i) (div-add-mod' m (2 ^ place)) ∙ lowest.2 i lt ∙ sym (bit_at-zero i))

  in_parts : above * 2 ^ suc place + 2 ^ place ≡ m
  in_parts =
      let low : m % 2 ^ suc place ≡ 2 ^ place = low_more m place ∙ ap₂ (λ b r. b * 2 ^ place + r) lowest.1 nothing_below ∙ omega arith in
      ap (λ r. above * 2 ^ suc place + r) (sym low) ∙ div-add-mod' m (2 ^ suc place)

  one_less : m - 1 ≡ above * 2 ^ suc place + (2 ^ place - 1)
  one_less = omega (arith, in_parts, pow_pos place)

  cleared_at : bit_at (bit_and m (m - 1)) place ≡ 0
  cleared_at =
      let zero_there : bit_at (m - 1) place ≡ 0 = ap (λ n. bit_at n place) one_less ∙ bit_at_cat_low above (suc place) (2 ^ place - 1) place (omega arith)
      ∙ bit_at_ones_above place place (omega arith) in
      omega (arith, bit_at_and m (m - 1) place, zero_there)

  kept_after : (i : ℕ) → place < i → bit_at (bit_and m (m - 1)) i ≡ bit_at m i
  kept_after i lt =
      let same : bit_at (m - 1) i ≡ bit_at m i = ap (λ n. bit_at n i) one_less
      ∙ bit_at_cat_high above (suc place) (2 ^ place - 1) i (omega (arith, pow-suc 2 place, pow_pos place)) (omega arith)
      ∙ sym (ap (λ n. bit_at n i) (sym in_parts) ∙ bit_at_cat_high above (suc place) (2 ^ place) i (omega (arith, pow-suc 2 place, pow_pos place)) (omega arith)) in
      omega (arith, bit_at_and m (m - 1) i, same)

  kept_before : (i : ℕ) → i < place → bit_at (bit_and m (m - 1)) i ≡ bit_at m i
  kept_before i lt = omega (arith, bit_at_and m (m - 1) i, lowest.2 i lt)

  kept : (i : ℕ) → (place ≡ i → ⊥) → bit_at (bit_and m (m - 1)) i ≡ bit_at m i
  kept i apart =
      elim (cases_lt i place) [
        | inl lt ↦ kept_before i lt
        | inr ge ↦ kept_after i (omega arith)
      ]

  pub fewer : bit_and m (m - 1) < m
  fewer = omega (arith, and_le_r m (m - 1))

  abbrev rest : ℕ
  rest = bit_and m (m - 1)

  rest_fits : rest < 2 ^ 64
  rest_fits = omega (arith, fewer)

  none_before : (i : ℕ) → i < suc place → has (members_of rest) i ≡ false
  none_before i lt =
      has-members_of rest i rest_fits ∙ elim (cases_eq place i) as (λ _. eqb (bit_at rest i) 1 ≡ false) [
        | inl at ↦ ne_eqb (bit_at rest i) 1 (λ one. let zero_there : bit_at rest i ≡ 0 = ap (bit_at rest) (sym at) ∙ cleared_at in omega arith)
        | inr off ↦ ne_eqb (bit_at rest i) 1 (λ one. omega (arith, kept i off, lowest.2 i (omega arith)))
      ]

  -- the lowest 1 is the first member, and the others are those of m & (m - 1)
  pub members_of-lowest : members_of m ≡ place ∷ members_of rest
  members_of-lowest =
      Ascends-unique 0 64 (members_of m) (place ∷ members_of rest) (IsSet-members_of m)
      (omega arith, lowest.0, subst (λ n. Ascends n 64 (members_of rest)) (sym (add-one place)) (Ascends-from 0 (suc place) 64 (members_of rest) (IsSet-members_of rest) none_before)) (λ i.
      has-members_of m i fits ∙ elim (cases_eq place i) as (λ _. eqb (bit_at m i) 1 ≡ has (place ∷ members_of rest) i) [
        | inl at ↦ eq-eqb (bit_at m i) 1 (ap (bit_at m) (sym at) ∙ lowest.1) ∙ sym (ap (has (place ∷ members_of rest)) (sym at) ∙ has-head place (members_of rest))
        | inr off ↦ ap (λ b. eqb b 1) (sym (kept i off)) ∙ sym (has-tail place (members_of rest) i off ∙ has-members_of rest i rest_fits)
      ])

-- taking the members out of a word, the lowest first: while any is left there is room for it
pub length-taken : (taken s : List ℕ) (m : ℕ) → 0 < m → m < 2 ^ 64 → IsSet s → taken ++ members_of m ≡ s → length taken < 64
length-taken taken s m some fits set together =
    omega (arith, length-Ascends 0 64 s (omega arith) set, ap length together, length-append taken (members_of m), ap length (members_of-lowest m some fits))

pub members_of-taken_more : (taken s : List ℕ) (m : ℕ) → 0 < m → m < 2 ^ 64 → taken ++ members_of m ≡ s → (taken ++ trailing_zeros w64 m ∷ []) ++ members_of (bit_and m (m - 1)) ≡ s
members_of-taken_more taken s m some fits together =
    append_assoc taken (trailing_zeros w64 m ∷ []) (members_of (bit_and m (m - 1))) ∙ ap (λ t. taken ++ t) (sym (members_of-lowest m some fits)) ∙ together

pub members_of-taken_all : (taken s : List ℕ) (m : ℕ) → m ≡ 0 → taken ++ members_of m ≡ s → taken ≡ s
members_of-taken_all taken s m none together = sym (append-nil taken) ∙ ap (λ t. taken ++ t) (sym (ap members_of none ∙ members_of-zero)) ∙ together

-- what each call of a set does, by the words behind the sets
pub empty_word : members_of 0 ≡ []
empty_word = members_of-zero

pub has_by_word : (m i : ℕ) (s : List ℕ) → members_of m ≡ s → m < 2 ^ 64 → eqb (bit_and (m / 2 ^ i) 1) 1 ≡ has s i
has_by_word m i s is fits = ap (λ n. eqb n 1) (shr_and_one m i) ∙ sym (has-members_of m i fits) ∙ ap (λ t. has t i) is

pub has_above_word : (m i : ℕ) (s : List ℕ) → members_of m ≡ s → 64 ≤ i → has s i ≡ false
has_above_word m i s is ge = ap (λ t. has t i) (sym is) ∙ has_none_above m i ge

pub insert_by_word : (m i : ℕ) (s : List ℕ) → members_of m ≡ s → m < 2 ^ 64 → i < 64 → members_of (bit_or m (1 * 2 ^ i % 2 ^ 64)) ≡ set_where (λ j. eqb j i || has s j)
insert_by_word m i s is fits lt = members_of-insert m i fits lt (word_with_bit_fits m (1 * 2 ^ i) fits) ∙ ap (λ t. set_where (λ j. eqb j i || has t j)) is

pub remove_by_word : (m i : ℕ) (s : List ℕ) → members_of m ≡ s → m < 2 ^ 64 → i < 64
    → members_of (bit_and m (bit_not w64 (1 * 2 ^ i % 2 ^ 64))) ≡ set_where (λ j. not (eqb j i) && has s j)
remove_by_word m i s is fits lt =
    members_of-remove m i fits lt (word_without_bit_fits m _ fits) ∙ ap (λ t. set_where (λ j. not (eqb j i) && has t j)) is

pub meets_by_word : (a b : ℕ) (s t : List ℕ) → members_of a ≡ s → members_of b ≡ t → a < 2 ^ 64 → b < 2 ^ 64 → not (eqb (bit_and a b) 0) ≡ meet s t
meets_by_word a b s t is_s is_t fits_a fits_b = meet-members_of a b fits_a fits_b ∙ ap₂ meet is_s is_t

pub within_by_word : (a b : ℕ) (s t : List ℕ) → members_of a ≡ s → members_of b ≡ t → a < 2 ^ 64 → b < 2 ^ 64 → eqb (bit_and a (bit_not w64 b)) 0 ≡ within s t
within_by_word a b s t is_s is_t fits_a fits_b = within-members_of a b fits_a fits_b ∙ ap₂ within is_s is_t

pub join_by_word : (a b : ℕ) (s t : List ℕ) → members_of a ≡ s → members_of b ≡ t → a < 2 ^ 64 → b < 2 ^ 64 → members_of (bit_or a b) ≡ union s t
join_by_word a b s t is_s is_t fits_a fits_b = union-members_of a b fits_a fits_b ∙ ap₂ union is_s is_t

pub len_by_word : (m : ℕ) (s : List ℕ) → members_of m ≡ s → m < 2 ^ 64 → count_ones m ≡ length s
len_by_word m s is fits = length-members_of m fits ∙ ap length is

pub bits_by_word : (m : ℕ) (s : List ℕ) → members_of m ≡ s → m < 2 ^ 64 → m ≡ word_of s
bits_by_word m s is fits = sym (word_of-members_of m fits) ∙ ap word_of is

pub set_of_word : (m : ℕ) → IsSet (members_of m)
set_of_word = IsSet-members_of

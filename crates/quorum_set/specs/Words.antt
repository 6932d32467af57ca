-- Sets as 64-bit words: the word of a set, and the law that it is the inverse of `members_of`.
use Rattle.std.specs.Prelude.{◌≡◌, ℕ, zero, suc, ◌+◌, ◌*◌, ◌%◌, ◌^◌, ◌<◌, Bool, true, false, cond, eqb, List, [], ◌∷◌, ◌++◌}
use Rattle.std.specs.Int.{bit_at}
use Rattle.std.specs.List.{sum_by}
use Rattle.std.proofs.Common.{refl, ap, sym, ◌∙◌, arith, add-one, mod-eq_of_lt}
use Rattle.std.proofs.lemmas.Nat.{mod-pow-add}
use Rattle.std.proofs.lemmas.Nat.Bits.{bit_at-lt}
use Rattle.std.proofs.lemmas.List.Sums.{sum_by-append}
use Rattle.numbers.specs.Sets.{numbers_from, set_where, members_of}

-- the word that stands for a set: the sum of 2 ^ i over its members i
abbrev pub word_of : List ℕ → ℕ
word_of s = sum_by (λ i. 2 ^ i) s

cond_cons-append : (b : Bool) (x : ℕ) (more less last : List ℕ) → more ≡ less ++ last
    → cond b (x ∷ more) more ≡ cond b (x ∷ less) less ++ last
cond_cons-append true x more less last e = ap (λ t. x ∷ t) e
cond_cons-append false x more less last e = e

-- a range of numbers with one more at its end, which passes or not
pub numbers_from-more : (low n : ℕ) (p : ℕ → Bool)
    → numbers_from low (n + 1) p ≡ numbers_from low n p ++ cond (p (low + n)) ((low + n) ∷ []) []
numbers_from-more low zero p = let e : low + 0 ≡ low = omega arith in rw e refl
numbers_from-more low (suc n) p =
    let e : (low + 1) + n ≡ low + suc n = omega arith in
    let rest : numbers_from (low + 1) (n + 1) p
    ≡ numbers_from (low + 1) n p ++ cond (p (low + suc n)) ((low + suc n) ∷ []) [] =
    rw e at (numbers_from-more (low + 1) n p) in
    let next : suc n + 1 ≡ suc (n + 1) = omega arith in
    rw next (cond_cons-append (p low) low (numbers_from (low + 1) (n + 1) p) (numbers_from (low + 1) n p)
    (cond (p (low + suc n)) ((low + suc n) ∷ []) []) rest)

-- the low n + 1 bits of a word, from bit n and the low n bits
pub low_more : (m n : ℕ) → m % 2 ^ suc n ≡ bit_at m n * 2 ^ n + m % 2 ^ n
low_more m n = let turned : suc n ≡ 1 + n = omega arith in ap (λ k. m % 2 ^ k) turned ∙ mod-pow-add m 1 n

-- the members below n, from the low n bits
abbrev pub below : ℕ → ℕ → List ℕ
below m n = numbers_from 0 n (λ j. eqb (bit_at m j) 1)

abbrev pub last_of : ℕ → ℕ → List ℕ
last_of m n = cond (eqb (bit_at m n) 1) (n ∷ []) []

pub below-more : (m n : ℕ) → below m (suc n) ≡ below m n ++ last_of m n
below-more m n =
    let zero_first : 0 + n ≡ n = omega arith in
    ap (below m) (sym (add-one n)) ∙ numbers_from-more 0 n (λ j. eqb (bit_at m j) 1)
    ∙ ap (λ k. below m n ++ last_of m k) zero_first

one_or_none : (b n : ℕ) → b < 2 → sum_by (λ i. 2 ^ i) (cond (eqb b 1) (n ∷ []) []) ≡ b * 2 ^ n
one_or_none zero n lt = omega arith
one_or_none (suc zero) n lt = omega arith
one_or_none (suc (suc b)) n lt = absurd (omega arith)

sum-below : (m n : ℕ) → sum_by (λ i. 2 ^ i) (below m n) ≡ m % 2 ^ n
sum-below m zero = omega arith
sum-below m (suc n) =
    ap (sum_by (λ i. 2 ^ i)) (below-more m n) ∙ sum_by-append (λ i. 2 ^ i) (below m n) (last_of m n)
    ∙ omega (arith, sum-below m n, one_or_none (bit_at m n) n (bit_at-lt m n), low_more m n)

-- the word of the set that a word stands for is that word
pub word_of-members_of : (m : ℕ) → m < 2 ^ 64 → word_of (members_of m) ≡ m
unfolding set_where
word_of-members_of m fits = sum-below m 64 ∙ mod-eq_of_lt fits

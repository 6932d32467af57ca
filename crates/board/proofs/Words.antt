-- The number that says whether two numbers are equal, and what the words of votes are.
use Rattle.std.proofs.Common.{◌≡◌, ◌≢◌, ℕ, ◌+◌, ◌/◌, ◌≤◌, MatchBool, nat_eq, eq-eqb, ne_eqb, sym, ◌∙◌, subst, arith}
use Rattle.std.proofs.lemmas.Bool.Decides.{nat_tests}
use mathlib.Core.Logic.{dite}
use native.Mathlib.Decide.{ℕ_discrete}
use Rattle.board.specs.Words.{is, offered_word, taken_word, returned_word}

pub is-same : (a b : ℕ) → a ≡ b → is a b ≡ 1
is-same a b e = grind (arith, nat_tests)

pub is-apart : (a b : ℕ) → a ≢ b → is a b ≡ 0
is-apart a b e = grind (arith, nat_tests)

pub is-one : (a b : ℕ) → 1 ≤ is a b → a ≡ b
is-one a b e = grind (arith, nat_tests)

-- two numbers are equal where two others are
pub is-when : (a b c d : ℕ) → (a ≡ b → c ≡ d) → (c ≡ d → a ≡ b) → is a b ≡ is c d
is-when a b c d f g = dite (ℕ_discrete a b) (λ e. is-same a b e ∙ sym (is-same c d (f e))) (λ n. is-apart a b n ∙ sym (is-apart c d (λ e. n (g e))))

pub is-next : (a b : ℕ) → is (a + 1) (b + 1) ≡ is a b
is-next a b = is-when (a + 1) (b + 1) a b (λ e. omega arith) (λ e. omega arith)

pub is-taken_word : (a b : ℕ) → is (taken_word a) (taken_word b) ≡ is a b
is-taken_word a b = is-when (taken_word a) (taken_word b) a b (λ e. omega arith) (λ e. omega arith)

pub offered_word-name : (a : ℕ) → offered_word a / 4 ≡ a
offered_word-name a = omega arith

pub taken_word-name : (a : ℕ) → taken_word a / 4 ≡ a
taken_word-name a = omega arith

pub returned_word-name : (a : ℕ) → returned_word a / 4 ≡ a
returned_word-name a = omega arith

pub offered_word-not_taken : (a b : ℕ) → is (offered_word a) (taken_word b) ≡ 0
offered_word-not_taken a b = is-apart (offered_word a) (taken_word b) (λ e. omega arith)

pub returned_word-not_taken : (a b : ℕ) → is (returned_word a) (taken_word b) ≡ 0
returned_word-not_taken a b = is-apart (returned_word a) (taken_word b) (λ e. omega arith)

pub free-not_taken : (b : ℕ) → is 0 (taken_word b) ≡ 0
free-not_taken b = is-apart 0 (taken_word b) (λ e. omega arith)

-- a test on two numbers, taken apart
pub MatchBool-nat_eq : (a b : ℕ) (P Q : Type 0) → (a ≡ b → P) → (a ≢ b → Q) → MatchBool (nat_eq a b) P Q
MatchBool-nat_eq a b P Q hit miss = dite (ℕ_discrete a b) (λ e. subst (λ t. MatchBool t P Q) (sym (eq-eqb a b e)) (hit e)) (λ n. subst (λ t. MatchBool t P Q) (sym (ne_eqb a b n)) (miss n))

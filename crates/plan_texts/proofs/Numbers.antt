-- Numbers as texts: bytes are read as a number if and only if they are its decimal text, and it is small enough.
use Rattle.std.proofs.Common.{◌≡◌, ◌≢◌, ℕ, ◌<◌, ◌≤◌, ◌^◌, cond, ◌&&◌, ltb, List, Option, None, Some, sym, refl, ap, subst, ◌∙◌, arith}
use Rattle.std.specs.Str.{bytes_eq}
use Rattle.std.specs.Str.Parse.{digits_value}
use Rattle.std.specs.Fmt.{decimal}
use Rattle.std.proofs.lemmas.Bool.{and_parts, and_from, ltb-true, lt-ltb}
use Rattle.std.proofs.lemmas.Option.{cond_some}
use Rattle.std.proofs.lemmas.Slice.Eq.{bytes_eq-Decides}
use Rattle.std.proofs.Math.Nat.{pow-le-pow_right}
use Rattle.std.proofs.lemmas.Fmt.{digits_value-decimal, decimal_injective}
use Rattle.plan_texts.specs.PlanTexts.{HasDigits, number_of}
use Rattle.texts.proofs.CutLemmas.{ascii_numerals}

-- numbers of at most 19 digits are below 2^64
ten_power-small : (digits : ℕ) → digits ≤ 19 → 10 ^ digits ≤ 10000000000000000000
ten_power-small digits few = pow-le-pow_right (omega arith) few

pub HasDigits-small : (digits n : ℕ) → digits ≤ 19 → HasDigits digits n → n < 2 ^ 64
HasDigits-small digits n few short = let most = ten_power-small digits few in omega (arith, short, most)

pub number_of-Some : (digits : ℕ) (bs : List ℕ) (n : ℕ) → number_of digits bs ≡ Some n → (bs ≡ decimal n) × HasDigits digits n
unfolding number_of
number_of-Some digits bs n e =
    let value = digits_value 10 bs in
    let parts = cond_some (bytes_eq bs (decimal value) && ltb value (10 ^ digits)) value n e in
    let tests = and_parts _ _ parts.0 in
    subst (λ m. (bs ≡ decimal m) × HasDigits digits m) parts.1 ((bytes_eq-Decides bs (decimal value)).0 tests.0, ltb-true _ _ tests.1)

pub number_of-decimal : (digits n : ℕ) → digits ≤ 19 → HasDigits digits n → number_of digits (decimal n) ≡ Some n
unfolding number_of
number_of-decimal digits n few short =
    ap (λ m. cond (bytes_eq (decimal n) (decimal m) && ltb m (10 ^ digits)) (Some m) None) (digits_value-decimal ascii_numerals n (HasDigits-small digits n few short))
    ∙ ap (λ b. cond b (Some n) None) (and_from _ _ ((bytes_eq-Decides (decimal n) (decimal n)).1 refl) (lt-ltb n (10 ^ digits) short))

pub number_of-written : (digits : ℕ) (bs : List ℕ) (n : ℕ) → digits ≤ 19 → bs ≡ decimal n → HasDigits digits n → number_of digits bs ≡ Some n
number_of-written digits bs n few e short = ap (number_of digits) e ∙ number_of-decimal digits n few short

-- bytes that are the text of no such number are no number
pub number_of-none : (digits : ℕ) (bs : List ℕ) → ((n : ℕ) → HasDigits digits n → bs ≢ decimal n) → number_of digits bs ≡ None
number_of-none digits bs none = by (number_of digits bs) refl
  where
    by : (o : Option ℕ) → number_of digits bs ≡ o → o ≡ None
    by None e = refl
    by (Some n) e = let parts = number_of-Some digits bs n e in absurd (none n parts.1 parts.0)

-- bytes that are the text of a longer number are no number
pub number_of-long : (digits : ℕ) (bs : List ℕ) (n : ℕ) → digits ≤ 19 → bs ≡ decimal n → n < 2 ^ 64 → 10 ^ digits ≤ n → number_of digits bs ≡ None
number_of-long digits bs n few e fits long =
    number_of-none digits bs (λ m short is.
    let same = decimal_injective m n (HasDigits-small digits m few short) fits (sym is ∙ e) in
    absurd (omega (arith, same, short, long)))

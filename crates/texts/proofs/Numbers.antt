-- what `parse` says of the digits that `decimal` writes
use Rattle.std.proofs.Common.{suc, eqb, cond, take, drop, ◌≡◌, ◌≢◌, ℕ, ◌+◌, ◌<◌, ◌^◌, List, [], ◌∷◌, ◌++◌, length, get_or, Result, Ok, refl, sym, arith, inl, inr, Bool, true, false}
use Rattle.std.proofs.lemmas.Bool.{cases_eq}
use Rattle.std.proofs.lemmas.Str.{IsUtf8-from_ascii}
use Rattle.std.specs.Fmt.{decimal}
use Rattle.std.specs.Str.Parse.{ParsesUnsigned, AllDigits, digits_value}
use Rattle.std.specs.Str.{IsUtf8}
use Rattle.std.proofs.lemmas.Str.Parse.{IsNumeralModel, numerals_by_value, tells_digits, parse_plain, digit_at, digit_from_value}
use Rattle.std.specs.Prelude.{◌==◌, not}
use Rattle.std.proofs.lemmas.Bool.Decides.{nat_tests}
use Rattle.std.specs.List.{position_or_len}
use Rattle.std.proofs.lemmas.Grind.{common_steps}
use Rattle.texts.specs.Fields.{IsBorder, HasNoSpace}
use Rattle.std.proofs.lemmas.Fmt.{decimal-digits_value, digits_decimal, decimal_digit, first_decimal, decimal_nonempty, IsAscii-decimal}

pub IsNumeralModel-decimal : IsNumeralModel (AllDigits 10) (digits_value 10)
IsNumeralModel-decimal = numerals_by_value (AllDigits 10) tells_digits

pub is_decimal : {E : Type 0} (bs : List ℕ) (n : ℕ) (r : Result ℕ E) → ParsesUnsigned 64 10 bs r → get_or bs 0 0 ≢ 43 → (get_or bs 0 0 ≡ 48 → length bs ≡ 1) → r ≡ Ok n → bs ≡ decimal n
is_decimal bs n r h plain short e =
    let f = rw e at (parse_plain IsNumeralModel-decimal 64 bs r h plain) in
    rw f.1 (sym (decimal-digits_value IsNumeralModel-decimal bs f.0.0 f.0.1 short f.0.2))

pub first_is_digit : (n : ℕ) → n < 2 ^ 64 → get_or (decimal n) 0 0 ≢ 43
first_is_digit n small e =
    let d = digit_at (decimal n) 0 (digits_decimal IsNumeralModel-decimal n small) (decimal_nonempty n small) in
    absurd (omega arith)

pub zero_is_short : (n : ℕ) → n < 2 ^ 64 → get_or (decimal n) 0 0 ≡ 48 → length (decimal n) ≡ 1
zero_is_short n small e =
    elim (cases_eq n 0) [
      | inl z ↦ rw (z, decimal_digit 0 (omega arith)) refl
      | inr nz ↦ absurd (omega (arith, first_decimal n (omega arith) small))
    ]

pub IsUtf8-decimal : (n : ℕ) → n < 2 ^ 64 → IsUtf8 (decimal n)
IsUtf8-decimal n small = IsUtf8-from_ascii _ (IsAscii-decimal n small)

digits_no_space : (ds : List ℕ) → AllDigits 10 ds → HasNoSpace ds
digits_no_space [] h = tt
digits_no_space (d ∷ ds) h = ((λ e. let r = digit_from_value d h.0 in absurd (omega arith)), digits_no_space ds h.1)

pub HasNoSpace-decimal : (n : ℕ) → n < 2 ^ 64 → HasNoSpace (decimal n)
HasNoSpace-decimal n small = digits_no_space _ (digits_decimal IsNumeralModel-decimal n small)

pub position_or_len-space : (ds rest : List ℕ) → HasNoSpace ds → IsBorder rest → position_or_len (λ b. b == 32) (ds ++ rest) ≡ length ds
position_or_len-space [] [] h b = refl
position_or_len-space [] (x ∷ xs) h b = rw b refl
position_or_len-space (d ∷ ds) rest h b = let e = position_or_len-space ds rest h.1 b in let ne = h.0 in grind (arith, common_steps)

abbrev pub is_space : ℕ → Bool
is_space b = b == 32

one-add : (n : ℕ) → 1 + n ≡ suc n
one-add n = omega arith

-- before the first space there is none
pub HasNoSpace-take : (bytes : List ℕ) → HasNoSpace (take (position_or_len is_space bytes) bytes)
HasNoSpace-take [] = tt
HasNoSpace-take (b ∷ bytes) =
    elim (eqb b 32) as (λ t. eqb b 32 ≡ t → HasNoSpace (take (cond (not t) (1 + position_or_len is_space bytes) 0) (b ∷ bytes))) [
      | true ↦ λ e. tt
      | false ↦ λ e. rw (one-add (position_or_len is_space bytes)) ((let ne : b ≢ 32 = grind (arith, nat_tests) in ne), HasNoSpace-take bytes)
    ] refl

-- from there on, there is nothing or a space at the front
pub IsBorder-drop : (bytes : List ℕ) → IsBorder (drop (position_or_len is_space bytes) bytes)
IsBorder-drop [] = tt
IsBorder-drop (b ∷ bytes) =
    elim (eqb b 32) as (λ t. eqb b 32 ≡ t → IsBorder (drop (cond (not t) (1 + position_or_len is_space bytes) 0) (b ∷ bytes))) [
      | true ↦ λ e. (let is : b ≡ 32 = grind (arith, nat_tests) in is)
      | false ↦ λ e. rw (one-add (position_or_len is_space bytes)) (IsBorder-drop bytes)
    ] refl

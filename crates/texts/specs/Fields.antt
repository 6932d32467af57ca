-- Fields of a line: each is a space, and then a number in decimal without a leading zero.
use Rattle.std.specs.Prelude.{ℕ, ◌≡◌, ◌≢◌, ◌<◌, ◌^◌, List, [], ◌∷◌, ◌++◌, length, slice_index}
use Rattle.std.specs.List.{AllByRecursion}
use Rattle.std.specs.Fmt.{decimal}

-- the fields of these numbers, in order; 32 is a space
abbrev pub fields : List ℕ → List ℕ
fields [] = []
fields (n ∷ ns) = (32 ∷ decimal n) ++ fields ns

-- what may follow a word or a number: nothing, or a space
abbrev pub IsBorder : List ℕ → Type 0
IsBorder [] = Unit {0}
IsBorder (b ∷ bs) = b ≡ 32

-- no byte is a space
abbrev pub HasNoSpace : List ℕ → Type 0
HasNoSpace bytes = AllByRecursion (λ b. b ≢ 32) bytes

-- each number is below 2^64
abbrev pub AllFit : List ℕ → Type 0
AllFit ns = AllByRecursion (λ n. n < 2 ^ 64) ns

-- what may be a number's digits: at least one byte, no sign in front, and no leading zero
pub record IsPlain (digits : List ℕ) : Type 0 where
  pub some : 0 < length digits
  pub unsigned : slice_index digits 0 ≢ 43
  pub short : slice_index digits 0 ≡ 48 → length digits ≡ 1

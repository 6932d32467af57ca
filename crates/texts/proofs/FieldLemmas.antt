-- lists of fields, and what is left of one
use Rattle.std.proofs.Common.{◌≡◌, ◌≢◌, true, false, ℕ, ◌<◌, ◌^◌, List, [], ◌∷◌, ◌++◌, length, refl, sym, arith}
use Rattle.std.proofs.lemmas.List.{append-nil, append_assoc}
use Rattle.std.specs.Prelude.{◌==◌}
use Rattle.std.proofs.lemmas.Bool.Decides.{nat_tests}
use Rattle.std.specs.Fmt.{decimal}
use Rattle.texts.specs.Fields.{AllFit, IsBorder, fields}

pub fields-push : (ns : List ℕ) (n : ℕ) → fields (ns ++ n ∷ []) ≡ fields ns ++ 32 ∷ decimal n
fields-push [] n = append-nil _
fields-push (m ∷ ns) n = rw (fields-push ns n) (sym (append_assoc (32 ∷ decimal m) (fields ns) (32 ∷ decimal n)))

pub IsBorder-fields : (ns : List ℕ) → IsBorder (fields ns)
IsBorder-fields [] = tt
IsBorder-fields (n ∷ ns) = refl

-- the numbers are those that were found, and others whose fields are the rest
pub record IsLeft (found rest ns ms : List ℕ) : Type 0 where
  pub fit : AllFit ms
  pub numbers : ns ≡ found ++ ms
  pub rest_is : rest ≡ fields ms

-- the next number, and what is then left
pub record IsNext (found rest ns : List ℕ) (n : ℕ) (ms : List ℕ) : Type 0 where
  pub small : n < 2 ^ 64
  pub fit : AllFit ms
  pub numbers : ns ≡ (found ++ n ∷ []) ++ ms
  pub rest_is : rest ≡ (32 ∷ decimal n) ++ fields ms

pub zero-from_test : (n : ℕ) → true ≡ (n == 0) → n ≡ 0
zero-from_test n e = grind (arith, nat_tests)

pub some-from_test : (bytes : List ℕ) → false ≡ (length bytes == 0) → bytes ≢ []
some-from_test [] e = grind (arith, nat_tests)
some-from_test (b ∷ bytes) e = λ none. cc

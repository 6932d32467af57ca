-- A lemma on lists of values.
use Rattle.std.proofs.Common.{◌≡◌, ℕ, ◌+◌, List, [], ◌∷◌, ◌++◌, sym, ap₂, ◌∙◌, arith}
use Rattle.std.proofs.lemmas.List.FromFn.{map-range_with_len_more}
use Rattle.dealer.specs.Accounts.{values_below}

-- one value more
pub values_below-more : (n : ℕ) (f : ℕ → ℕ) (before after : List ℕ) (value : ℕ) → before ≡ values_below n f → value ≡ f n → after ≡ before ++ value ∷ [] → after ≡ values_below (n + 1) f
values_below-more n f before after value made here pushed =
    pushed ∙ ap₂ (λ (xs : List ℕ) (x : ℕ). xs ++ x ∷ []) made here ∙ sym (map-range_with_len_more f 0 n n (omega arith))

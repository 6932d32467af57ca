-- a session's name as two halves
use Rattle.std.proofs.Common.{◌≡◌, ℕ, ◌<◌, false, [], ◌∷◌, Some, sym, ap, ◌∙◌, arith}
use Rattle.std.specs.Prelude.{◌+◌, ◌*◌, ◌/◌, ◌%◌, ◌^◌}
use Rattle.std.proofs.lemmas.Nat.{div-mul-add, div-add-mod'}
use Rattle.session_rows.specs.Saved.{session_words}

halves : (upper lower : ℕ) → lower < 2 ^ 64 → ((upper * 2 ^ 64 + lower) / 2 ^ 64 ≡ upper) × ((upper * 2 ^ 64 + lower) % 2 ^ 64 ≡ lower)
halves upper lower few =
    let above = div-mul-add upper (2 ^ 64) lower few in
    let whole = div-add-mod' (upper * 2 ^ 64 + lower) (2 ^ 64) in
    (above, omega arith)

pub joined_words : (upper lower : ℕ) → lower < 2 ^ 64 → 1 ∷ upper ∷ lower ∷ [] ≡ session_words (Some (upper * 2 ^ 64 + lower)) false
joined_words upper lower few =
    let parts = halves upper lower few in
    let up = parts.0 in
    let low = parts.1 in
    sym (ap (λ (u : ℕ). 1 ∷ u ∷ (upper * 2 ^ 64 + lower) % 2 ^ 64 ∷ []) up ∙ ap (λ (l : ℕ). 1 ∷ upper ∷ l ∷ []) low)

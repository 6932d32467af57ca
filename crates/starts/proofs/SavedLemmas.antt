-- an identity as two halves
use Rattle.std.proofs.Common.{◌≡◌, ℕ, ◌+◌, ◌*◌, ◌^◌, ◌<◌, [], ◌∷◌, List, get_or, refl, sym, ap, ◌∙◌, arith}
use Rattle.std.specs.Prelude.{◌/◌, ◌%◌}
use Rattle.std.proofs.lemmas.Nat.{div-mul-add, div-add-mod'}
use Rattle.starts.specs.declared.peer.Peer.{Peer}
use Rattle.starts.specs.Saved.{peer_words}

halves : (upper lower : ℕ) → lower < 2 ^ 64 → ((upper * 2 ^ 64 + lower) / 2 ^ 64 ≡ upper) × ((upper * 2 ^ 64 + lower) % 2 ^ 64 ≡ lower)
halves upper lower few =
    let above = div-mul-add upper (2 ^ 64) lower few in
    let whole = div-add-mod' (upper * 2 ^ 64 + lower) (2 ^ 64) in
    (above, omega arith)

-- the peer with these numbers
abbrev pub made : ℕ → ℕ → ℕ → ℕ → ℕ → ℕ → ℕ → Peer
made upper lower run start process ceiling ended =
    record { identity = upper * 2 ^ 64 + lower; run = run; start = start; process = process; ceiling = ceiling; ended = ended }

pub peer_text : (upper lower run start process ceiling ended : ℕ) → lower < 2 ^ 64
    → upper ∷ lower ∷ run ∷ start ∷ process ∷ ceiling ∷ ended ∷ [] ≡ peer_words (made upper lower run start process ceiling ended)
peer_text upper lower run start process ceiling ended few =
    let parts = halves upper lower few in
    let up = parts.0 in
    let low = parts.1 in
    sym (ap (λ (u : ℕ). u ∷ (upper * 2 ^ 64 + lower) % 2 ^ 64 ∷ run ∷ start ∷ process ∷ ceiling ∷ ended ∷ []) up
    ∙ ap (λ (l : ℕ). upper ∷ l ∷ run ∷ start ∷ process ∷ ceiling ∷ ended ∷ []) low)

whole_of : (upper lower identity : ℕ) → upper ≡ identity / 2 ^ 64 → lower ≡ identity % 2 ^ 64 → upper * 2 ^ 64 + lower ≡ identity
whole_of upper lower identity up low = let whole = div-add-mod' identity (2 ^ 64) in omega arith

pub peer_of : (upper lower run start process ceiling ended : ℕ) (p : Peer)
    → upper ∷ lower ∷ run ∷ start ∷ process ∷ ceiling ∷ ended ∷ [] ≡ peer_words p → made upper lower run start process ceiling ended ≡ p
peer_of upper lower run start process ceiling ended p is =
    let at : (i : ℕ) → get_or (upper ∷ lower ∷ run ∷ start ∷ process ∷ ceiling ∷ ended ∷ []) i 0 ≡ get_or (peer_words p) i 0 = λ i. ap (λ (xs : List ℕ). get_or xs i 0) is in
    let whole = whole_of upper lower p.identity (at 0) (at 1) in
    rw (whole, at 2, at 3, at 4, at 5, at 6) refl

-- Lemmas on the search for the first separating line.
use Rattle.std.proofs.Common.{◌≡◌, ℕ, ◌+◌, ◌-◌, ◌<◌, Bool, false, cond, Some, zero, suc, ap, ◌∙◌, arith}
use Rattle.commands.specs.Parts.{least_from}

-- the least number is the first, or is sought behind it
least_first : (low n : ℕ) (passes : ℕ → Bool) → 0 < n → least_from low n passes ≡ cond (passes low) (Some low) (least_from (low + 1) (n - 1) passes)
least_first low zero passes some = absurd (omega arith)
least_first low (suc n) passes some = let e : n ≡ suc n - 1 = omega arith in ap (λ m. cond (passes low) (Some low) (least_from (low + 1) m passes)) e

pub least_from-later : (n i : ℕ) (passes : ℕ → Bool) → i < n → passes i ≡ false → least_from i (n - i) passes ≡ least_from (i + 1) (n - (i + 1)) passes
least_from-later n i passes lt fails =
    let e : n - i - 1 ≡ n - (i + 1) = omega arith in
    least_first i (n - i) passes (omega arith) ∙ ap (λ b. cond b (Some i) (least_from (i + 1) (n - i - 1) passes)) fails ∙ ap (λ m. least_from (i + 1) m passes) e

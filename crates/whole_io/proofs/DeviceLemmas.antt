-- Lemmas on bytes that are written piece by piece.
use Rattle.std.proofs.Common.{ℕ, ◌+◌, ◌≤◌, List, ◌++◌, length, take, drop, Option, Some, None, ap, sym, ◌∙◌}
use Rattle.std.proofs.lemmas.List.{append_assoc}
use Rattle.std.proofs.Math.Seq.{take-add}
use Rattle.std.specs.Io.KnownBytes.{Appends}

-- what was written so far, and then a part of the rest
pub Appends-more : (a b c : Option (List ℕ)) (out : List ℕ) (at n : ℕ) → at + n ≤ length out → Appends a b (take at out) → Appends b c (take n (drop at out)) → Appends a c (take (at + n) out)
Appends-more None b c out at n le h k = tt
Appends-more (Some x) None c out at n le h k = absurd h
Appends-more (Some x) (Some y) None out at n le h k = absurd k
Appends-more (Some x) (Some y) (Some z) out at n le h k = k ∙ ap (λ t. t ++ take n (drop at out)) h ∙ append_assoc x (take at out) (take n (drop at out)) ∙ ap (λ t. x ++ t) (sym (take-add at n out))

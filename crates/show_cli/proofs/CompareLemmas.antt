-- Lemmas on several coteries in one input, and on their names.
use Rattle.std.proofs.Common.{◌≡◌, ◌∙◌, ℕ, ◌+◌, ◌-◌, ◌<◌, ap, ap₂, arith, length, List, [], ◌∷◌, ◌++◌, map, Result, Ok, refl, subst, sym, zero, suc}
use Rattle.std.specs.List.{range_with_len}
use Rattle.std.proofs.lemmas.List.{length-append}
use Rattle.std.proofs.lemmas.List.FromFn.{map-range_with_len_more}
use Rattle.numbers.proofs.Lists.{map-push}
use Rattle.coterie_file.specs.Named.{NamedSystem}
use Rattle.commands.specs.Commands.{◌>>=◌, coterie_part}
use Rattle.commands.specs.Parts.{split}
use Rattle.commands.specs.declared.fault.Fault.{Fault}
use Rattle.show_cli.specs.Failures.{coteries_in}

-- what an input describes that has a line `%%`, and so many more
behind_line : ℕ → ℕ → List ℕ → Result (List NamedSystem) Fault
behind_line n number input = split (number + 1) input >>= λ parts. coterie_part parts.0 >>= λ first. coteries_in n (number + 1) parts.1 >>= λ others. Ok (first ∷ others)

-- one line more
next_line : (n number : ℕ) (input : List ℕ) → coteries_in (suc n) number input ≡ behind_line n number input
unfolding coteries_in behind_line
next_line n number input = refl

-- an input with a line `%%` is a coterie, and what follows the line
pub one_more : (n number : ℕ) (input : List ℕ) → 0 < n
    → coteries_in n number input
    ≡ (split (number + 1) input >>= λ parts. coterie_part parts.0 >>= λ first. coteries_in (n - 1) (number + 1) parts.1 >>= λ others. Ok (first ∷ others))
unfolding behind_line
one_more zero number input positive = absurd (omega (arith, positive))
one_more (suc n) number input positive =
    let same : n ≡ suc n - 1 = omega arith in
    subst (λ (k : ℕ). coteries_in (suc n) number input ≡ behind_line k number input) same (next_line n number input)

-- one value more, which is made for its place
pub made_for_places : {A B : Type 0} (g : A → B) (f : ℕ → B) (old new : List A) (x : A) → new ≡ old ++ x ∷ [] → g x ≡ f (length old)
    → map g old ≡ map f (range_with_len 0 (length old)) → map g new ≡ map f (range_with_len 0 (length new))
made_for_places g f old new x is made before =
    let n = length old in
    ap (map g) is ∙ map-push g old x ∙ ap₂ (λ ys y. ys ++ y ∷ []) before made ∙ sym (map-range_with_len_more f 0 n n (omega arith))
    ∙ ap (λ k. map f (range_with_len 0 k)) (sym (ap length is ∙ length-append old (x ∷ [])))

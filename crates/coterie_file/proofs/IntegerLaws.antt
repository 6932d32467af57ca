-- What it means that the items of an array are numbers.
use Rattle.std.proofs.Common.{◌≡◌, ℕ, ℤ, pos, negsuc, suc, ◌≤◌, List, [], ◌∷◌, sym, refl, ap, ap₂, ◌∙◌, arith, Some, subst}
use Rattle.std.specs.List.{All}
use Rattle.std.specs.Option.{option_map}
use Rattle.toml.specs.Data.{Data, Items, no_items, item, string, integer, as_integer}
use Rattle.quorum_set.specs.Capacities.{IsCapacity}
use Rattle.coterie_file.specs.Lists.{or_zero, numbers_of, integers}
use Rattle.numbers.proofs.Options.{and_then-Some, option_map-Some}

as_integer-integer : (d : Data) (z : ℤ) → as_integer d ≡ Some z → d ≡ integer z
as_integer-integer (string s) z e = cc
as_integer-integer d z e = cc

or_zero-pos : (z : ℤ) → 1 ≤ or_zero z → z ≡ pos (or_zero z)
or_zero-pos (pos n) some = refl
or_zero-pos (negsuc n) some = absurd (omega arith)

pub numbers_of-integers : (items : Items) (capacities : List ℕ) → All IsCapacity capacities → numbers_of items ≡ Some capacities → items ≡ integers capacities
numbers_of-integers no_items capacities all e = let nothing : capacities ≡ [] = cc in rw nothing refl
numbers_of-integers (item d items) capacities all e =
    let first = and_then-Some (λ z. option_map (λ rest. or_zero z ∷ rest) (numbers_of items)) (as_integer d) capacities e in
    let rest = option_map-Some (λ rest. or_zero first.0 ∷ rest) (numbers_of items) capacities first.2 in
    let each : All IsCapacity (or_zero first.0 ∷ rest.0) = let P : List ℕ → Type 0 = All IsCapacity in subst P (sym rest.2) all in
    let one : d ≡ integer (pos (or_zero first.0)) = as_integer-integer d first.0 first.1 ∙ ap integer (or_zero-pos first.0 (each 0 0 (omega arith)).0) in
    let more : items ≡ integers rest.0 = numbers_of-integers items rest.0 (λ k d lt. each (suc k) d (omega arith)) rest.1 in
    ap₂ item one more ∙ ap integers rest.2

numbers_of-of : (numbers : List ℕ) → numbers_of (integers numbers) ≡ Some numbers
numbers_of-of [] = refl
numbers_of-of (n ∷ numbers) = ap (option_map (λ rest. n ∷ rest)) (numbers_of-of numbers)

pub integers-numbers_of : (items : Items) (numbers : List ℕ) → items ≡ integers numbers → numbers_of items ≡ Some numbers
integers-numbers_of items numbers e = ap numbers_of e ∙ numbers_of-of numbers

-- The text of a coterie of a shape.
use Rattle.std.specs.Prelude.{◌≡◌, ⊤, ℕ, List, Option, None, Some}
use Rattle.coterie_file.specs.Named.{NamedSystem, IsNamed}
use Rattle.coterie_file.specs.Writing.{coterie_text}

-- the capacities are the given ones, if there are any
abbrev pub AreGiven : Option (List ℕ) → List ℕ → Type 0
AreGiven None capacities = ⊤
AreGiven (Some given) capacities = capacities ≡ given

-- the text is that of a coterie with these capacities, if there are any: `read_coterie` reads it
pub record IsTextOf (given : Option (List ℕ)) (text : List ℕ) : Type 0 where
  pub named : NamedSystem
  pub is_named : IsNamed named
  pub capacities : AreGiven given named.capacities
  pub written : text ≡ coterie_text named

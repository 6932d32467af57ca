-- The shapes that a name and sizes stand for.
use Rattle.std.specs.Prelude.{◌≡◌, ℕ, ◌<◌, List, [], ◌∷◌, codes}
use Rattle.std.specs.List.{All}
use Rattle.show_coteries.specs.declared.shape.CoterieShape.{CoterieShape}
use Rattle.show_coteries.specs.declared.shape.CoterieShape.TheVariants.{Racks, Centres, Any, Votes}

-- the shape is the one with this name and these sizes; those of racks and centres are at most 255
abbrev pub IsShapeOf : List ℕ → List ℕ → CoterieShape → Type 0
IsShapeOf name sizes (Racks racks voters) =
    (name ≡ codes "racks") × (sizes ≡ racks ∷ voters ∷ []) × (racks < 256) × (voters < 256)
IsShapeOf name sizes (Centres list) = (name ≡ codes "centres") × (sizes ≡ list.items) × All (λ n. n < 256) sizes
IsShapeOf name sizes (Any size voters) = (name ≡ codes "any") × (sizes ≡ size ∷ voters ∷ [])
IsShapeOf name sizes (Votes votes) = (name ≡ codes "votes") × (sizes ≡ votes.items)

-- Members of an object, one after the other.
use Rattle.std.proofs.Common.{◌≡◌, ◌∙◌, List, [], ◌∷◌, ◌++◌, ℕ, ap, ap₂, map}
use Rattle.numbers.proofs.Lists.{map-push}
use Rattle.show_json.specs.Values.{member_of}
use Rattle.show_json.specs.declared.values.Member.{Member}

-- one member more, whose value is this text
pub member_added : (old new : List Member) (member : Member) (members : List (List ℕ × List ℕ)) (key value text : List ℕ)
    → map member_of old ≡ members → new ≡ old ++ member ∷ [] → member_of member ≡ (key, value) → value ≡ text
    → map member_of new ≡ members ++ (key, text) ∷ []
member_added old new member members key value text before is has same =
    ap (map member_of) is ∙ map-push member_of old member ∙ ap₂ (λ ms m. ms ++ m ∷ []) before (has ∙ ap (λ v. (key, v)) same)

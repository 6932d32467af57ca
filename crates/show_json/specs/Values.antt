-- JSON with no spaces: strings, lists and objects.
use Rattle.std.specs.Prelude.{ℕ, Bool, if◌then◌else◌, List, [], ◌∷◌, ◌++◌, codes, decimal, string_bytes}
use Rattle.std.specs.List.{join_by}
use Rattle.serde_json.specs.Data.{string}
use Rattle.serde_json.specs.Written.{compact_text}
use Rattle.show_json.specs.declared.values.Member.{Member}

-- a text as JSON, in quotes and with escapes
abbrev pub quoted : List ℕ → List ℕ
quoted text = compact_text (string text)

abbrev pub truth_text : Bool → List ℕ
truth_text truth = if truth then codes "true" else codes "false"

-- a list of these values
abbrev pub list_text : List (List ℕ) → List ℕ
list_text values = codes "[" ++ (join_by (λ value. value) (codes ",") values ++ codes "]")

-- a key and its value
abbrev pub member_text : List ℕ × List ℕ → List ℕ
member_text member = quoted member.0 ++ (codes ":" ++ member.1)

-- an object of these keys and values, in order
abbrev pub object_text : List (List ℕ × List ℕ) → List ℕ
object_text members = codes "{" ++ (join_by member_text (codes ",") members ++ codes "}")

-- a fraction of a numerator and a denominator
abbrev pub fraction_text : ℕ × ℕ → List ℕ
fraction_text fraction =
    object_text ((codes "numerator", decimal fraction.0) ∷ (codes "denominator", decimal fraction.1) ∷ [])

-- the key and the value of a member
abbrev pub member_of : Member → List ℕ × List ℕ
member_of member = (member.key.now, string_bytes member.value)

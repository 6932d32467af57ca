-- Names of voters.
use Rattle.std.specs.Prelude.{◌≡◌, ◌≢◌, ℕ, ◌<◌, ◌≤◌, Bool, not, ◌||◌, ◌&&◌, ◌==◌, nat_lt, nat_le, if◌then◌else◌, List, [], ◌∷◌, ◌++◌, length, position, slice_index_or, All, AllPairs, Option, None, Some, option_map, bytes_eq, codes}
use Rattle.std.specs.Char.{is_ascii_alphanumeric}
use Rattle.std.specs.List.{AllPass, list_any, list_all}
use Rattle.std.specs.Option.{option_or}
use Rattle.coterie_file.specs.declared.fault.FileFault.{FileFault}
use Rattle.coterie_file.specs.declared.fault.FileFault.TheVariants.{BadName, RepeatedName}

-- a letter, a digit, or one of the marks `_-.:`
abbrev pub is_name_byte : ℕ → Bool
is_name_byte b = is_ascii_alphanumeric b || list_any (λ mark. mark == b) (codes "_-.:")

-- a name has 1 to 64 such bytes
pub record IsName (name : List ℕ) : Type 0 where
  pub not_empty : 0 < length name
  pub short : length name ≤ 64
  pub bytes : AllPass is_name_byte name

-- `IsName` as a test
abbrev pub is_name : List ℕ → Bool
is_name name = (nat_lt 0 (length name) && nat_le (length name) 64) && list_all is_name_byte name

-- whether the list has the name
abbrev pub has_name : List (List ℕ) → List ℕ → Bool
has_name names name = list_any (λ n. bytes_eq name n) names

-- the first place of the name in the list: the number of the voter with this name
abbrev pub number_of : List (List ℕ) → List ℕ → Option ℕ
number_of names name = position (λ n. bytes_eq name n) names

-- the name at a place
abbrev pub name_at : List (List ℕ) → ℕ → List ℕ
name_at names i = slice_index_or names i []

-- no name is at two places
abbrev pub AllDiffer : List (List ℕ) → Type 0
AllDiffer names = AllPairs (λ m n. m ≢ n) names

-- the texts are names, and all differ
pub record AreNames (names : List (List ℕ)) : Type 0 where
  pub named : All IsName names
  pub different : AllDiffer names

-- the name at place i is at an earlier place too
abbrev pub IsEarlier : List (List ℕ) → ℕ → Type 0
IsEarlier names i = (j : ℕ) × (j < i) × (name_at names j ≡ name_at names i)

-- i is the smallest place whose name is at an earlier place too
pub record IsLeastRepeat (names : List (List ℕ)) (i : ℕ) : Type 0 where
  pub within : i < length names
  pub repeated : IsEarlier names i
  pub least : (k : ℕ) → k < i → ¬ IsEarlier names k

-- the place of the first of the names that is also before it; the names in `before` come first
abbrev pub first_repeat : List (List ℕ) → List (List ℕ) → Option ℕ
first_repeat before [] = None
first_repeat before (name ∷ names) =
    if has_name before name then Some (length before) else first_repeat (before ++ name ∷ []) names

-- the first fault of the voters' names
abbrev pub names_fault : List (List ℕ) → Option FileFault
names_fault names =
    option_or (option_map BadName (position (λ n. not (is_name n)) names))
    (option_map RepeatedName (first_repeat [] names))

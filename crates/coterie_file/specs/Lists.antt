-- The names and capacities that a TOML table lists under its keys.
use Rattle.std.specs.Prelude.{ℕ, ◌+◌, ◌==◌, Bool, if◌then◌else◌, ℤ, pos, negsuc, List, [], ◌∷◌, length, map, String, Vec, string_bytes, Option, None, Some, Result, option_map, option_and_then, is_some, ok_or, codes}
use Rattle.std.specs.declared.alloc.Global.{Global}
use Rattle.toml.specs.Data.{Items, no_items, item, Members, no_members, member, string, integer, get_member, as_str, as_integer, as_array}
use Rattle.toml.specs.View.{items_of}
use Rattle.toml.specs.Parse.{parse_document}
use Rattle.quorum_set.specs.Capacities.{unit_capacities}
use Rattle.coterie_file.specs.Answers.{◌>>=◌}
use Rattle.coterie_file.specs.declared.fault.FileFault.{FileFault}
use Rattle.coterie_file.specs.declared.fault.FileFault.TheVariants.{NotToml, Keys}

-- the names and the capacities of the voters, and for each quorum the names of its members, in the order of the text
pub record NameLists : Type 0 where
  pub names : List (List ℕ)
  pub quorums : List (List (List ℕ))
  pub capacities : List ℕ

-- the lists of these names, strings and numbers
abbrev pub name_lists_by : List (List ℕ) → List (Vec (String Global) Global) → List ℕ → NameLists
name_lists_by names quorums capacities = record {
  names = names;
  quorums = map (λ members. map string_bytes members.items) quorums;
  capacities = capacities;
}

-- the lists of these strings and numbers
abbrev pub name_lists : List (String Global) → List (Vec (String Global) Global) → List ℕ → NameLists
name_lists names quorums capacities = name_lists_by (map string_bytes names) quorums capacities

-- the texts of an array, if each item is a string
abbrev pub texts_of : Items → Option (List (List ℕ))
texts_of no_items = Some []
texts_of (item d items) = option_and_then (λ text. option_map (λ texts. text ∷ texts) (texts_of items)) (as_str d)

-- the lists of an array, if each item is an array of strings
abbrev pub text_lists_of : Items → Option (List (List (List ℕ)))
text_lists_of no_items = Some []
text_lists_of (item d items) =
    option_and_then (λ texts. option_map (λ lists. texts ∷ lists) (text_lists_of items))
    (option_and_then texts_of (as_array d))

-- the integer, or 0 if it is negative; 0 is no capacity either
abbrev pub or_zero : ℤ → ℕ
or_zero (pos n) = n
or_zero (negsuc n) = 0

-- the numbers of an array, if each item is an integer
abbrev pub numbers_of : Items → Option (List ℕ)
numbers_of no_items = Some []
numbers_of (item d items) =
    option_and_then (λ z. option_map (λ numbers. or_zero z ∷ numbers) (numbers_of items)) (as_integer d)

-- how many keys a table has
abbrev pub key_count : Members → ℕ
key_count no_members = 0
key_count (member key d members) = key_count members + 1

-- the items of the array at a key, if there is one
abbrev pub items_at : List ℕ → Members → Option Items
items_at key table = option_and_then as_array (get_member key table)

-- whether a table has the key `capacity`
abbrev pub has_capacities : Members → Bool
has_capacities table = is_some (get_member (codes "capacity") table)

-- how many keys a table has to have: `capacity` may be left out
abbrev pub wanted_keys : Members → ℕ
wanted_keys table = if has_capacities table then 3 else 2

-- the numbers at the key `capacity`, or capacity 1 for each of n voters if there is no such key
abbrev pub capacities_at : ℕ → Members → Option (List ℕ)
capacities_at n table =
    if has_capacities table then option_and_then numbers_of (items_at (codes "capacity") table)
    else Some (unit_capacities n)

-- the lists of a table that has the keys `voters` and `quorums`, may have `capacity`, and has no other
abbrev pub lists_of : Members → Option NameLists
lists_of table =
    if key_count table == wanted_keys table then
    option_and_then (λ names. option_and_then (λ quorums.
    option_map (λ capacities. record { names = names; quorums = quorums; capacities = capacities })
    (capacities_at (length names) table))
    (option_and_then text_lists_of (items_at (codes "quorums") table)))
    (option_and_then texts_of (items_at (codes "voters") table))
    else None

-- the lists of a table, or the fault `Keys`
abbrev pub lists_in : Members → Result NameLists FileFault
lists_in table = ok_or (lists_of table) Keys

-- the table that a text describes, or the fault `NotToml`
abbrev pub table_at : List ℕ → Result Members FileFault
table_at text = ok_or (parse_document text) NotToml

-- the lists that a text describes
abbrev pub lists_at : List ℕ → Result NameLists FileFault
lists_at text = table_at text >>= lists_in

-- the array of these numbers
abbrev pub integers : List ℕ → Items
integers numbers = items_of (map (λ n. integer (pos n)) numbers)

-- the array of these strings
abbrev pub strings : List (List ℕ) → Items
strings texts = items_of (map string texts)

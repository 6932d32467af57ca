-- Lemmas on tables with the keys of a coterie.
use Rattle.std.proofs.Common.{◌≡◌, Bool, true, cond, List, length, sym, refl, arith, Option, None, Some, Ok, Err, String, Global, subst, codes}
use Rattle.std.specs.Option.{option_map, option_and_then, is_some, ok_or}
use Rattle.std.proofs.Common.{ℕ, ℤ, ◌+◌, ◌<◌, ◌≤◌, [], ◌∷◌, ◌++◌, ◌∙◌, ap, drop, get_or, append_assoc, append-nil}
use Rattle.std.proofs.lemmas.List.{drop_more, drop_all}
use Rattle.std.proofs.lemmas.Bool.{eq-eqb, ne_eqb}
use Rattle.toml.specs.Data.{Members, Items, as_integer}
use Rattle.toml.specs.View.{items_view, members_view, view}
use Rattle.toml.specs.declared.value.Value.{Value}
use Rattle.coterie_file.specs.declared.fault.FileFault.TheVariants.{Keys}
use Rattle.coterie_file.specs.Lists.{NameLists, or_zero, numbers_of, texts_of, text_lists_of, key_count, wanted_keys, items_at, capacities_at, lists_in}

pub key_count-view : (es : List (String Global × Value)) → key_count (members_view es) ≡ length es
key_count-view [] = refl
key_count-view (e ∷ es) = omega (arith, key_count-view es)

pub is_some-option_map : {A B : Type 0} (f : A → B) (o : Option A) → is_some o ≡ is_some (option_map f o)
is_some-option_map f None = refl
is_some-option_map f (Some x) = refl

from_ok : {A : Type 0} (o : Option A) (x : A) → ok_or o Keys ≡ Ok x → o ≡ Some x
from_ok None x e = cc
from_ok (Some y) x e = cc

-- a table whose arrays hold these texts and numbers
pub lists_in-items : (table : Members) (n q : Items) (names : List (List ℕ)) (quorums : List (List (List ℕ))) (capacities : List ℕ) → key_count table ≡ wanted_keys table
    → Some n ≡ items_at (codes "voters") table → ok_or (texts_of n) Keys ≡ Ok names
    → Some q ≡ items_at (codes "quorums") table → ok_or (text_lists_of q) Keys ≡ Ok quorums
    → ok_or (capacities_at (length names) table) Keys ≡ Ok capacities
    → lists_in table ≡ Ok (record { names = names; quorums = quorums; capacities = capacities })
lists_in-items table n q names quorums capacities count at_n is_n at_q is_q is_c =
    let P : Bool → Option Items → Option Items → Type 0 = λ b v w. ok_or {T = NameLists} (cond b
    (option_and_then (λ x. option_and_then (λ y. option_map (λ z. record { names = x; quorums = y; capacities = z }) (capacities_at (length x) table)) (option_and_then text_lists_of w))
    (option_and_then texts_of v)) None) Keys
    ≡ Ok (record { names = names; quorums = quorums; capacities = capacities }) in
    let texts : texts_of n ≡ Some names = from_ok (texts_of n) names is_n in
    let lists : text_lists_of q ≡ Some quorums = from_ok (text_lists_of q) quorums is_q in
    let numbers : capacities_at (length names) table ≡ Some capacities = from_ok (capacities_at (length names) table) capacities is_c in
    let last : P true (Some n) (Some q) = rw (texts, lists, numbers) refl in
    subst (λ b. P b (items_at (codes "voters") table) (items_at (codes "quorums") table)) (sym (eq-eqb (key_count table) (wanted_keys table) count))
    (subst (λ v. P true v (items_at (codes "quorums") table)) at_n (subst (λ w. P true (Some n) w) at_q last))

pub lists_in-other : (table : Members) → (key_count table ≡ wanted_keys table → ⊥) → lists_in table ≡ Err Keys
lists_in-other table differ = rw (ne_eqb (key_count table) (wanted_keys table) differ) refl

-- the numbers of the values from a place on, where there is an integer and where there is another value
numbers_of-drop : (values : List Value) (i : ℕ) (v : Value) (o : Option ℤ) → i < length values → v ≡ get_or values i v → o ≡ as_integer (view v)
    → numbers_of (items_view (drop i values)) ≡ option_and_then (λ z. option_map (λ ns. or_zero z ∷ ns) (numbers_of (items_view (drop (i + 1) values)))) o
numbers_of-drop values i v o lt at is =
    let rest = numbers_of (items_view (drop (i + 1) values)) in
    ap (λ vs. numbers_of (items_view vs)) (drop_more values i v lt)
    ∙ ap (option_and_then (λ z. option_map (λ ns. or_zero z ∷ ns) rest)) (ap (λ x. as_integer (view x)) (sym at) ∙ sym is)

more_numbers : (done : List ℕ) (n : ℕ) (o : Option (List ℕ)) → option_map (λ rest. (done ++ n ∷ []) ++ rest) o ≡ option_map (λ rest. done ++ rest) (option_map (λ ns. n ∷ ns) o)
more_numbers done n None = refl
more_numbers done n (Some ns) = ap Some (append_assoc done (n ∷ []) ns)

pub numbers_of-more : (values : List Value) (i : ℕ) (v : Value) (z : ℤ) (done after : List ℕ) (n : ℕ) (whole : Option (List ℕ)) → i < length values → v ≡ get_or values i v
    → Some z ≡ as_integer (view v)
    → after ≡ done ++ n ∷ [] → n ≡ or_zero z → option_map (λ rest. done ++ rest) (numbers_of (items_view (drop i values))) ≡ whole
    → option_map (λ rest. after ++ rest) (numbers_of (items_view (drop (i + 1) values))) ≡ whole
numbers_of-more values i v z done after n whole lt at is grown number so_far =
    let rest = numbers_of (items_view (drop (i + 1) values)) in
    ap (λ xs. option_map (λ ns. xs ++ ns) rest) (grown ∙ ap (λ x. done ++ x ∷ []) number)
    ∙ more_numbers done (or_zero z) rest ∙ ap (option_map (λ ns. done ++ ns)) (sym (numbers_of-drop values i v (Some z) lt at is)) ∙ so_far

pub numbers_of-other : (values : List Value) (i : ℕ) (v : Value) (done : List ℕ) (whole : Option (List ℕ)) → i < length values → v ≡ get_or values i v → None ≡ as_integer (view v)
    → option_map (λ rest. done ++ rest) (numbers_of (items_view (drop i values))) ≡ whole → whole ≡ None
numbers_of-other values i v done whole lt at is so_far = sym so_far ∙ ap (option_map (λ ns. done ++ ns)) (numbers_of-drop values i v None lt at is)

pub numbers_of-end : (values : List Value) (i : ℕ) (done : List ℕ) (whole : Option (List ℕ)) → length values ≤ i → option_map (λ rest. done ++ rest) (numbers_of (items_view (drop i values))) ≡ whole
    → whole ≡ Some done
numbers_of-end values i done whole le so_far =
    sym so_far ∙ ap (λ vs. option_map (λ ns. done ++ ns) (numbers_of (items_view vs))) (drop_all i values le) ∙ ap Some (append-nil done)

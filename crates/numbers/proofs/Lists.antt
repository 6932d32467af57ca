-- Lists: what holds of all members, what is made member by member, and parts written one after the other.
use Rattle.std.proofs.Common.{◌≡◌, ℕ, zero, suc, ◌+◌, ◌<◌, Bool, true, false, List, [], ◌∷◌, ◌++◌, map, eqb, replicate, refl, sym, ap, subst, ◌∙◌, arith, Some}
use Rattle.std.specs.Prelude.{slice_get, slice_index}
use Rattle.std.specs.List.{All, AllByRecursion, flat_map, join_by}
use Rattle.std.proofs.lemmas.Bool.Decides.{nat_tests}
use Rattle.std.proofs.lemmas.List.{append_assoc, map-append}
use Rattle.std.proofs.lemmas.List.Folds.{flat_map-map}
use Rattle.std.proofs.lemmas.List.Elements.{All-append, All-head, All-nil, All-tail}
use Rattle.std.proofs.lemmas.Option.{none-some, same_Some}

pub AllByRecursion-get : {A : Type 0} (P : A → Type 0) (xs : List A) (k : ℕ) (x : A) → AllByRecursion P xs → slice_get xs k ≡ Some x → P x
AllByRecursion-get P [] k x h is = absurd (none-some x is)
AllByRecursion-get P (y ∷ ys) zero x h is = subst P (same_Some y x is) h.0
AllByRecursion-get P (y ∷ ys) (suc k) x h is = AllByRecursion-get P ys k x h.1 is

pub AllByRecursion-append : {A : Type 0} (P : A → Type 0) (xs ys : List A) → AllByRecursion P xs → AllByRecursion P ys → AllByRecursion P (xs ++ ys)
AllByRecursion-append P [] ys h k = k
AllByRecursion-append P (x ∷ xs) ys h k = (h.0, AllByRecursion-append P xs ys h.1 k)

pub AllByRecursion-weaker : {A : Type 0} (P Q : A → Type 0) → ((x : A) → P x → Q x) → (xs : List A) → AllByRecursion P xs → AllByRecursion Q xs
AllByRecursion-weaker P Q f [] h = tt
AllByRecursion-weaker P Q f (x ∷ xs) h = (f x h.0, AllByRecursion-weaker P Q f xs h.1)

-- what holds of all pieces holds of the list that they make
pub All-flat_map : {X Y : Type 0} (P : Y → Type 0) (f : X → List Y) (xs : List X) → All (λ x. All P (f x)) xs → All P (flat_map f xs)
All-flat_map P f [] h = All-nil P
All-flat_map P f (x ∷ xs) h =
    All-append P (f x) (flat_map f xs) (All-head (λ y. All P (f y)) x xs h) (All-flat_map P f xs (All-tail (λ y. All P (f y)) x xs h))

-- one value more at the end
pub map-push : {A B : Type 0} (f : A → B) (xs : List A) (x : A) → map f (xs ++ x ∷ []) ≡ map f xs ++ f x ∷ []
map-push f xs x = map-append f xs (x ∷ [])

-- texts that are joined, as texts of other things
join_by-map : {A : Type 0} (text : A → List ℕ) (sep : List ℕ) (xs : List A) → join_by (λ t. t) sep (map text xs) ≡ join_by text sep xs
join_by-map text sep [] = refl
join_by-map text sep (x ∷ xs) = ap (λ t. text x ++ t) (flat_map-map (λ t. sep ++ t) text xs)

pub join_by-same : {A B : Type 0} (f : A → List ℕ) (g : B → List ℕ) (sep : List ℕ) (xs : List A) (ys : List B) → map f xs ≡ map g ys → join_by f sep xs ≡ join_by g sep ys
join_by-same f g sep xs ys e = sym (join_by-map f sep xs) ∙ ap (join_by (λ t. t) sep) e ∙ join_by-map g sep ys

-- two parts that were written one after the other, behind what there was
pub two_parts : (before a b one all : List ℕ) → one ≡ before ++ a → all ≡ one ++ b → all ≡ before ++ (a ++ b)
two_parts before a b one all first second = second ∙ ap (λ t. t ++ b) first ∙ append_assoc before a b

pub three_parts : (before a b c one two all : List ℕ) → one ≡ before ++ a → two ≡ one ++ b → all ≡ two ++ c → all ≡ before ++ (a ++ (b ++ c))
three_parts before a b c one two all first second third = two_parts before a (b ++ c) one all first (two_parts one b c two all second third)

pub four_parts : (before a b c d one two three all : List ℕ) → one ≡ before ++ a → two ≡ one ++ b → three ≡ two ++ c → all ≡ three ++ d
    → all ≡ before ++ (a ++ (b ++ (c ++ d)))
four_parts before a b c d one two three all first second third fourth =
    two_parts before a (b ++ (c ++ d)) one all first (three_parts one b c d two three all second third fourth)

pub slice_index-replicate_zero : (n v : ℕ) → slice_index (replicate n 0) v ≡ 0
slice_index-replicate_zero zero v = refl
slice_index-replicate_zero (suc n) zero = refl
slice_index-replicate_zero (suc n) (suc v) = slice_index-replicate_zero n v

-- what passes below n, and at n, passes below n + 1
pub below_next : (f : ℕ → Bool) (n : ℕ) → ((u : ℕ) → u < n → f u ≡ true) → f n ≡ true → (u : ℕ) → u < n + 1 → f u ≡ true
below_next f n h here u lt = elim (eqb u n) as (λ b. eqb u n ≡ b → f u ≡ true) [
  | true ↦ λ e. let same : u ≡ n = grind (arith, nat_tests) in ap f same ∙ here
  | false ↦ λ e. h u (grind (arith, nat_tests))
] refl

-- Groups that are added to a list.
use Rattle.std.proofs.Common.{◌≡◌, ◌∙◌, ◌+◌, ◌<◌, ◌||◌, Bool, List, [], ◌∷◌, ◌++◌, ℕ, ap, false, get_or, length, map, refl, subst, sym, take, true}
use Rattle.std.specs.List.{AllByRecursion, list_any}
use Rattle.std.specs.Prelude.{bytes_eq}
use Rattle.std.proofs.lemmas.List.{take_more}
use Rattle.std.proofs.lemmas.List.Folds.{list_any-append}
use Rattle.numbers.proofs.Lists.{AllByRecursion-append, AllByRecursion-weaker, map-push}
use Rattle.show_figures.specs.declared.comparisons.Loss.{Loss}
use Rattle.coterie_file.specs.Named.{NamedSystem}
use Rattle.show_compare.specs.Compare.{HasGroups, HasGroupsOf, Keeps, Shown, group_text, has_text}

-- one member more
pub all-take-more : {A : Type 0} (P : A → Type 0) (xs : List A) (k : ℕ) (x : A) → x ≡ get_or xs k x → k < length xs → AllByRecursion P (take k xs) → P x
    → AllByRecursion P (take (k + 1) xs)
all-take-more P xs k x is lt h p =
    subst (AllByRecursion P) (sym (take_more xs k x lt ∙ ap (λ y. take k xs ++ y ∷ []) (sym is))) (AllByRecursion-append P (take k xs) (x ∷ []) h (p, tt))

pub map-take-more : {A B : Type 0} (f : A → B) (xs : List A) (k : ℕ) (x : A) → x ≡ get_or xs k x → k < length xs → map f (take (k + 1) xs) ≡ map f (take k xs) ++ f x ∷ []
map-take-more f xs k x is lt =
    ap (map f) (take_more xs k x lt ∙ ap (λ y. take k xs ++ y ∷ []) (sym is)) ∙ map-push f (take k xs) x

or_true : (b : Bool) → (b || true) ≡ true
or_true true = refl
or_true false = refl

-- a text that was added is there
pub has_text-push : (texts : List (List ℕ)) (text : List ℕ) → bytes_eq text text ≡ true → has_text (texts ++ text ∷ []) text ≡ true
has_text-push texts text same =
    list_any-append (λ other. bytes_eq other text) texts (text ∷ []) ∙ ap (λ b. list_any (λ other. bytes_eq other text) texts || (b || false)) same
    ∙ or_true (list_any (λ other. bytes_eq other text) texts)

-- groups that are there stay
pub groups_stay : (old new : List (List ℕ)) (named : NamedSystem) (losses : List Loss) → Keeps old new → HasGroups old named losses → HasGroups new named losses
groups_stay old new named losses keeps h =
    AllByRecursion-weaker (λ loss. has_text old (group_text named loss.group) ≡ true) (λ loss. has_text new (group_text named loss.group) ≡ true)
    (λ loss e. keeps (group_text named loss.group) e) losses h

pub groups_of_stay : (old new : List (List ℕ)) (s : Shown) → Keeps old new → HasGroupsOf old s → HasGroupsOf new s
groups_of_stay old new s keeps h = λ e. groups_stay old new s.named s.figures.losses.items keeps (h e)

-- an item of a list, by its place
use Rattle.std.proofs.Common.{◌≡◌, ℕ, ◌<◌, List, length, get_or, set, sym, ap, subst, ◌∙◌, Result, Ok, Err}
use Rattle.std.specs.Prelude.{IfErr}
use Rattle.std.proofs.lemmas.List.{get_or-set_same, get_or_read, set-get_or}

-- an item that is read at its place, and is written there, as the list shows it
pub seen_at : {A : Type 0} (d : A) (P : A → Type 0) (xs : List A) (p n : ℕ) (x : A) → p ≡ n → n < length xs → x ≡ get_or xs p x → P (get_or xs p x) → P (get_or xs n d)
seen_at d P xs p n x same within is h = subst P (sym is ∙ sym (sym (get_or_read xs n x within (is ∙ ap (λ k. get_or xs k x) same) d))) h

pub moved_at : {A : Type 0} (d : A) (P : A → A → Type 0) (xs : List A) (p n : ℕ) (x y : A) → p ≡ n → n < length xs → x ≡ get_or xs p x → P (get_or xs p x) y
    → P (get_or xs n d) (get_or (set xs p y) n d)
moved_at d P xs p n x y same within is h =
    let written : get_or (set xs p y) n d ≡ y = ap (λ k. get_or (set xs k y) n d) same ∙ get_or-set_same xs n y d within in
    seen_at d (λ a. P a (get_or (set xs p y) n d)) xs p n x same within is (subst (λ b. P (get_or xs p x) b) (sym written) h)

pub others_at : {A : Type 0} (d : A) (xs : List A) (p n : ℕ) (y : A) → p ≡ n → n < length xs → set xs p y ≡ set xs n (get_or (set xs p y) n d)
others_at d xs p n y same within =
    let written : get_or (set xs p y) n d ≡ y = ap (λ k. get_or (set xs k y) n d) same ∙ get_or-set_same xs n y d within in
    ap (λ k. set xs k y) same ∙ ap (λ z. set xs n z) (sym written)

pub same_at : {A : Type 0} (xs : List A) (p : ℕ) (x y : A) → x ≡ get_or xs p x → y ≡ get_or xs p x → set xs p y ≡ xs
same_at xs p x y is back = ap (λ z. set xs p z) back ∙ set-get_or xs p x

pub refused_at : {A E : Type 0} {T : Type 0} (d : A) (S : A → E → Type 0) (Z : Type 0) (r : Result T E) (xs : List A) (p n : ℕ) (x y : A) → p ≡ n → n < length xs → x ≡ get_or xs p x
    → IfErr r (λ e. S (get_or xs p x) e × (y ≡ get_or xs p x) × Z) → IfErr r (λ e. S (get_or xs n d) e × (set xs p y ≡ xs))
refused_at d S Z (Ok t) xs p n x y same within is h = h
refused_at d S Z (Err e) xs p n x y same within is h = (seen_at d (λ a. S a e) xs p n x same within is h.0, same_at xs p x y is h.1)

-- functions with another value at one place
use Rattle.std.proofs.Common.{◌≡◌, ℕ, Bool, true, false, refl, sym, subst, ◌∙◌}
use Rattle.std.specs.Prelude.{◌==◌, if◌then◌else◌}
use Rattle.std.proofs.lemmas.Bool.{eq-eqb, eqb-true, false≢true}
use Rattle.starts.specs.Worlds.{set}

by_test : {X : Type 0} (P : ℕ → X → Type 0) (f : ℕ → X) (place : ℕ) (value : X) (other : ℕ) (b : Bool) → (place == other) ≡ b
    → P place value → ((place == other) ≡ false → P other (f other)) → P other (if b then value else f other)
by_test P f place value other false e here there = there e
by_test P f place value other true e here there = subst (λ (o : ℕ). P o value) (eqb-true place other e) here

-- a property of a function with another value at one place, at that place and elsewhere
pub set_by : {X : Type 0} (P : ℕ → X → Type 0) (f : ℕ → X) (place : ℕ) (value : X) (other : ℕ) → P place value
    → ((place == other) ≡ false → P other (f other)) → P other (set f place value other)
set_by P f place value other here there = by_test P f place value other (place == other) refl here there

by_tests : {X Y : Type 0} (P : ℕ → X → Y → Type 0) (f : ℕ → X) (g : ℕ → Y) (place : ℕ) (x : X) (y : Y) (other : ℕ) (b : Bool) → (place == other) ≡ b
    → P place x y → ((place == other) ≡ false → P other (f other) (g other)) → P other (if b then x else f other) (if b then y else g other)
by_tests P f g place x y other false e here there = there e
by_tests P f g place x y other true e here there = subst (λ (o : ℕ). P o x y) (eqb-true place other e) here

-- a property of two functions with other values at one place
pub set_both : {X Y : Type 0} (P : ℕ → X → Y → Type 0) (f : ℕ → X) (g : ℕ → Y) (place : ℕ) (x : X) (y : Y) (other : ℕ) → P place x y
    → ((place == other) ≡ false → P other (f other) (g other)) → P other (set f place x other) (set g place y other)
set_both P f g place x y other here there = by_tests P f g place x y other (place == other) refl here there

pub set_here : {X : Type 0} (P : X → Type 0) (f : ℕ → X) (place : ℕ) (value : X) → P value → P (set f place value place)
set_here P f place value here = subst (λ (b : Bool). P (if b then value else f place)) (sym (eq-eqb place place refl)) here

-- elsewhere is not here
pub not_here : (place other : ℕ) → (place == other) ≡ false → other ≡ place → ⊥
not_here place other is same = false≢true (sym is ∙ eq-eqb place other (sym same))

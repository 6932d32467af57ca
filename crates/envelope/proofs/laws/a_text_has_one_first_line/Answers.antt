use Rattle.std.proofs.Common.{◌≡◌, ℕ, List, Option, Some, None, ◌∙◌, sym}
use Rattle.std.specs.Prelude.{MatchOption}
use Rattle.envelope.proofs.laws.a_text_has_one_first_line.Goals as goal

agree : {A : Type 0} (found : Option A) (f g i : A → List ℕ) (a b d x y z : List ℕ)
    → MatchOption found ⊥ (λ e. (f e ≡ a) × (g e ≡ b) × (i e ≡ d)) → MatchOption found ⊥ (λ e. (f e ≡ x) × (g e ≡ y) × (i e ≡ z))
    → (a ≡ x) × (b ≡ y) × (d ≡ z)
agree None f g i a b d x y z p q = absurd p
agree (Some e) f g i a b d x y z p q = (sym p.0 ∙ q.0, sym p.1 ∙ q.1, sym p.2 ∙ q.2)

pub returns : goal.returns
returns c name line rest other more behind one two =
    agree c.first_line.result (λ e. e.0.now) (λ e. e.1.now) (λ e. e.2.now) name line rest other more behind
    (c.first_line.ensures.read name line rest one) (c.first_line.ensures.read other more behind two)

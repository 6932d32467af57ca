use Rattle.std.proofs.Common.{◌≡◌, ℕ, List, Option, Some, None, ◌∙◌, sym}
use Rattle.std.specs.Prelude.{MatchOption}
use Rattle.envelope.specs.Headers.{Head}
use Rattle.envelope.specs.Heads.{head_of}
use Rattle.envelope.proofs.laws.a_message_has_one_header.Goals as goal

agree : {A : Type 0} (found : Option A) (f : A → Head) (g i : A → List ℕ) (h k : Head) (a b x y : List ℕ)
    → MatchOption found ⊥ (λ e. (f e ≡ h) × (g e ≡ a) × (i e ≡ b)) → MatchOption found ⊥ (λ e. (f e ≡ k) × (g e ≡ x) × (i e ≡ y))
    → (h ≡ k) × (a ≡ x) × (b ≡ y)
agree None f g i h k a b x y p q = absurd p
agree (Some e) f g i h k a b x y p q = (sym p.0 ∙ q.0, sym p.1 ∙ q.1, sym p.2 ∙ q.2)

pub returns : goal.returns
returns c h k ignored lines others more one two =
    agree c.read_header.result (λ e. head_of e.header) (λ e. e.ignored.now) (λ e. e.lines.now) h k ignored lines others more
    (c.read_header.ensures.read h ignored lines one) (c.read_header.ensures.read k others more two)

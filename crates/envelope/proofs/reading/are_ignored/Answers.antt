use Rattle.std.proofs.Common.{◌++◌, ◌∷◌, ◌∙◌, sym, ap, inl, inr, ℕ, List}
use Rattle.texts.proofs.FieldLemmas.{some-from_test}
use Rattle.envelope.proofs.LevelLemmas.{ignored_cases}
use Rattle.line_words.proofs.TestLemmas.{fails, passes}
use Rattle.envelope.proofs.reading.are_ignored.Goals as goal

pub returns-in_default : goal.returns-in_default
returns-in_default c =
    let some = some-from_test c.words.rest.now (sym c.words-test.true ∙ c.is_empty.ensures) in (
      λ t. absurd cc,
      λ h. elim (ignored_cases c.words.rest.now (c.words.invariant.0 h)) [
        | inl none ↦ absurd (some none)
        | inr o ↦ absurd (c.in_default.ensures.read o.word o.more o.ignored.0 o.border o.is)
      ],
    )

pub returns-then-not-is_ignored : goal.returns-then-not-is_ignored
returns-then-not-is_ignored c =
    let some = some-from_test c.words.rest.now (sym c.words-test.true ∙ c.is_empty.ensures) in (
      λ t. absurd cc,
      λ h. elim (ignored_cases c.words.rest.now (c.words.invariant.0 h)) [
        | inl none ↦ absurd (some none)
        | inr o ↦ absurd (fails c.is_ignored.result c.is_ignored.ensures c.if-not-is_ignored.true
            (rw (c.in-Some.ensures.read o.word o.more o.ignored.0 o.border o.is).0 o.ignored))
      ],
    )

pub words-preserved : goal.words-preserved
words-preserved c =
    let some = some-from_test c.words.rest.now (sym c.words-test.true ∙ c.is_empty.ensures) in
    let this = passes c.is_ignored.result c.is_ignored.ensures c.if-not-is_ignored.false in (
      λ h. elim (ignored_cases c.words.rest.now (c.words.invariant.0 h)) [
        | inl none ↦ absurd (some none)
        | inr o ↦ rw (c.in-Some.ensures.read o.word o.more o.ignored.0 o.border o.is).1 o.others
      ],
      λ h. c.words.invariant.1 (c.in-Some.word.now ∷ h.0, (this, h.1), c.in-Some.ensures.written ∙ ap (λ (t : List ℕ). (32 ∷ c.in-Some.word.now) ++ t) h.2),
    )

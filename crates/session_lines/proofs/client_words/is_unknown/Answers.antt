use Rattle.std.proofs.Common.{◌≢◌, ◌<◌, ◌∙◌, ℕ, List, [], ◌∷◌, length, ap, sym, refl, arith}
use Rattle.texts.proofs.FieldLemmas.{zero-from_test, some-from_test}
use Rattle.session_lines.proofs.client_words.is_unknown.Goals as goal

some_bytes : (bytes : List ℕ) → bytes ≢ [] → 0 < length bytes
some_bytes [] some = absurd (some refl)
some_bytes (b ∷ bytes) some = omega arith

pub returns-then-is_empty : goal.returns-then-is_empty
returns-then-is_empty c = (
  λ t. absurd cc,
  λ u.
      let same = (c.cut.ensures.read u.word u.rest u.plain u.border u.is).0 in
      let none = zero-from_test (length c.cut.result.0.now) (sym c.if-is_empty.true ∙ c.is_empty.ensures) in
      absurd (omega (arith, u.some, none, ap length same)),
)

pub returns-in-Some : goal.returns-in-Some
returns-in-Some c =
    (λ t. absurd cc, λ u. absurd (u.none c.in-Some.field-0 (sym (c.cut.ensures.read u.word u.rest u.plain u.border u.is).0 ∙ c.in-Some.ensures)))

pub returns-in-None : goal.returns-in-None
returns-in-None c = (
  λ t. record {
    word = c.cut.result.0.now;
    rest = c.cut.result.1.now;
    is = c.cut.ensures.whole;
    plain = c.cut.ensures.word;
    border = c.cut.ensures.border;
    some = some_bytes c.cut.result.0.now (some-from_test c.cut.result.0.now (sym c.if-is_empty.false ∙ c.is_empty.ensures));
    none = c.in-None.ensures;
  },
  λ u. refl,
)

use Rattle.std.proofs.Common.{◌≡◌, ◌++◌, ◌∙◌, sym, inl, inr, arith}
use Rattle.std.specs.Prelude.{codes}
use Rattle.std.specs.Fmt.{decimal}
use Rattle.envelope.proofs.LevelLemmas.{cut_of_level, level_cases, level_word_plain, none_of_level, not_level}
use Rattle.line_words.proofs.TestLemmas.{fails, passes}
use Rattle.envelope.proofs.reading.level.Goals as goal

pub returns-in_default-clause-read : goal.returns-in_default-clause-read
returns-in_default-clause-read c n rest small others e =
    elim (level_cases n c.args.bytes.now rest others e) [
      | inl h ↦ (sym h.zero_level, h.same)
      | inr h ↦ absurd (c.in_default.ensures.read (codes "level=" ++ decimal n) rest (level_word_plain n small) h.border h.is)
    ]

pub returns-in_default-cut_at-clause-read : goal.returns-in_default-cut_at-clause-read
returns-in_default-cut_at-clause-read c n rest small others e =
    elim (level_cases n c.args.bytes.now rest others e) [
      | inl h ↦ (sym h.zero_level, h.same)
      | inr h ↦ absurd (none_of_level n c.in-Some.first.now
          (c.in-Some.ensures.read (codes "level=" ++ decimal n) rest (level_word_plain n small) h.border h.is).0 c.in_default-cut_at.ensures)
    ]

pub returns-then-not-is-clause-read : goal.returns-then-not-is-clause-read
returns-then-not-is-clause-read c n rest small others e =
    elim (level_cases n c.args.bytes.now rest others e) [
      | inl h ↦ (sym h.zero_level, h.same)
      | inr h ↦ absurd (fails c.is.result c.is.ensures c.if-not-is.true (cut_of_level n c.in-Some.first.now c.in-Some-cut_at.key.now c.in-Some-cut_at.value.now
          (c.in-Some.ensures.read (codes "level=" ++ decimal n) rest (level_word_plain n small) h.border h.is).0 c.in-Some-cut_at.ensures).0)
    ]

pub returns-in_default-number-clause-read : goal.returns-in_default-number-clause-read
returns-in_default-number-clause-read c n rest small others e =
    let key = passes c.is.result c.is.ensures c.if-not-is.false in
    elim (level_cases n c.args.bytes.now rest others e) [
      | inl h ↦ elim h.cases [
        | inl none ↦ let no = sym none ∙ c.in-Some.ensures.written in cc
        | inr o ↦ not_level c.in-Some.first.now o.word c.in-Some-cut_at.key.now c.in-Some-cut_at.value.now
            (c.in-Some.ensures.read o.word o.more o.ignored.0 o.border o.is).0 o.ignored c.in-Some-cut_at.ensures key
      ]
      | inr h ↦ let same = sym c.in_default-number.is ∙ c.number.ensures.read n small (cut_of_level n c.in-Some.first.now c.in-Some-cut_at.key.now c.in-Some-cut_at.value.now
          (c.in-Some.ensures.read (codes "level=" ++ decimal n) rest (level_word_plain n small) h.border h.is).0 c.in-Some-cut_at.ensures).1 in
          cc
    ]

pub returns-then-level-eq0-clause-read : goal.returns-then-level-eq0-clause-read
returns-then-level-eq0-clause-read c n rest small others e =
    let key = passes c.is.result c.is.ensures c.if-not-is.false in
    elim (level_cases n c.args.bytes.now rest others e) [
      | inl h ↦ elim h.cases [
        | inl none ↦ let no = sym none ∙ c.in-Some.ensures.written in cc
        | inr o ↦ not_level c.in-Some.first.now o.word c.in-Some-cut_at.key.now c.in-Some-cut_at.value.now
            (c.in-Some.ensures.read o.word o.more o.ignored.0 o.border o.is).0 o.ignored c.in-Some-cut_at.ensures key
      ]
      | inr h ↦
          let same = sym c.in-Some-number.is ∙ c.number.ensures.read n small (cut_of_level n c.in-Some.first.now c.in-Some-cut_at.key.now c.in-Some-cut_at.value.now
          (c.in-Some.ensures.read (codes "level=" ++ decimal n) rest (level_word_plain n small) h.border h.is).0 c.in-Some-cut_at.ensures).1 in
          let is : c.in-Some-number.level ≡ n = cc in
          let test = c.if-level-eq0.true in
          omega (arith, h.some)
    ]

pub returns-clause-read : goal.returns-clause-read
returns-clause-read c n rest small others e =
    let key = passes c.is.result c.is.ensures c.if-not-is.false in
    elim (level_cases n c.args.bytes.now rest others e) [
      | inl h ↦ absurd (elim h.cases [
        | inl none ↦ let no = sym none ∙ c.in-Some.ensures.written in cc
        | inr o ↦ not_level c.in-Some.first.now o.word c.in-Some-cut_at.key.now c.in-Some-cut_at.value.now
            (c.in-Some.ensures.read o.word o.more o.ignored.0 o.border o.is).0 o.ignored c.in-Some-cut_at.ensures key
      ])
      | inr h ↦
          let parts = c.in-Some.ensures.read (codes "level=" ++ decimal n) rest (level_word_plain n small) h.border h.is in
          let same = sym c.in-Some-number.is ∙ c.number.ensures.read n small (cut_of_level n c.in-Some.first.now c.in-Some-cut_at.key.now c.in-Some-cut_at.value.now
          parts.0 c.in-Some-cut_at.ensures).1 in
          (cc, parts.1)
    ]

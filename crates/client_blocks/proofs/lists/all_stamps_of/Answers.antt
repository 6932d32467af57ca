use Rattle.std.proofs.Common.{◌≡◌, ◌+◌, ◌*◌, ◌<◌, ◌∙◌, ℕ, arith, length, rules, set, subst, sym, take}
use Rattle.std.proofs.lemmas.Option.{none-some, same_Some}
use Rattle.own_stamps.specs.Stamps as stamps
use Rattle.client_blocks.specs.Bytes.{stamps_words}
use Rattle.client_blocks.proofs.ListLemmas.{stamps_there, member, read_more, text_more, wide_4}
use Rattle.client_blocks.proofs.lists.all_stamps_of.Goals as goal

pub returns-in_err-kept-clause-read : goal.returns-in_err-kept-clause-read
returns-in_err-kept-clause-read c = λ xs many is.
    let less : c.loop-place.place < length xs = omega (arith, c.loop-place-test.true, many) in
    let m = member xs c.loop-place.place less in
    let there = wide_4 c.args.words.now c.loop-place.place ∙ stamps_there c.args.words.now xs c.loop-place.place less is m in
    absurd (none-some m.item (sym c.in_err-kept.was ∙ c.stamps_of.ensures.read m.item there))

pub loop-place-preserved : goal.loop-place-preserved
loop-place-preserved c =
    let i = c.loop-place.place in
    let new = c.in_ok-kept.field-0 in
    let less : i < length c.loop-place.kept = omega (arith, c.loop-place-test.true, c.loop-place.invariant.places) in
    let text = text_more stamps.words_of c.loop-place.kept new i (4 * i) 4 c.args.words.now less c.loop-place.invariant.text (sym (wide_4 c.args.words.now i) ∙ c.in_ok-kept.ensures.text) in
    let next : 4 * i + 4 ≡ 4 * (i + 1) = omega arith in
    record {
      text = subst (λ (n : ℕ). stamps_words (take (i + 1) (set c.loop-place.kept i new)) ≡ take n c.args.words.now) next text;
      read = λ xs many is.
          let fewer : i < length xs = omega (arith, c.loop-place-test.true, many) in
          let m = member xs i fewer in
          let there = wide_4 c.args.words.now i ∙ stamps_there c.args.words.now xs i fewer is m in
          let same = same_Some m.item new (sym (c.stamps_of.ensures.read m.item there) ∙ c.in_ok-kept.was) in
          read_more c.loop-place.kept xs new i less (c.loop-place.invariant.read xs many is) m same;
      places = search rules;
    }

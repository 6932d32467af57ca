use Rattle.std.proofs.Common.{◌≡◌, ◌+◌, ◌*◌, ◌<◌, ◌∙◌, ℕ, arith, length, rules, set, subst, sym, take}
use Rattle.std.proofs.lemmas.Option.{none-some, same_Some}
use Rattle.vote_leases.specs.Saved.{vote_words}
use Rattle.client_blocks.specs.Bytes.{votes_words}
use Rattle.client_blocks.proofs.ListLemmas.{vote_there, member, read_more, text_more, wide_9}
use Rattle.client_blocks.proofs.lists.votes_of.Goals as goal

pub returns-in_err-votes-clause-read : goal.returns-in_err-votes-clause-read
returns-in_err-votes-clause-read c = λ xs many is.
    let less : c.loop-place.place < length xs = omega (arith, c.loop-place-test.true, many) in
    let m = member xs c.loop-place.place less in
    let there = wide_9 c.args.words.now c.loop-place.place ∙ vote_there c.args.words.now xs c.loop-place.place less is m in
    absurd (none-some m.item (sym c.in_err-votes.was ∙ c.vote_of.ensures.read m.item there))

pub loop-place-preserved : goal.loop-place-preserved
loop-place-preserved c =
    let i = c.loop-place.place in
    let new = c.in_ok-votes.field-0 in
    let less : i < length c.loop-place.votes = omega (arith, c.loop-place-test.true, c.loop-place.invariant.places) in
    let text = text_more vote_words c.loop-place.votes new i (9 * i) 9 c.args.words.now less c.loop-place.invariant.text (sym (wide_9 c.args.words.now i) ∙ c.in_ok-votes.ensures.text) in
    let next : 9 * i + 9 ≡ 9 * (i + 1) = omega arith in
    record {
      text = subst (λ (n : ℕ). votes_words (take (i + 1) (set c.loop-place.votes i new)) ≡ take n c.args.words.now) next text;
      read = λ xs many is.
          let fewer : i < length xs = omega (arith, c.loop-place-test.true, many) in
          let m = member xs i fewer in
          let there = wide_9 c.args.words.now i ∙ vote_there c.args.words.now xs i fewer is m in
          let same = same_Some m.item new (sym (c.vote_of.ensures.read m.item there) ∙ c.in_ok-votes.was) in
          read_more c.loop-place.votes xs new i less (c.loop-place.invariant.read xs many is) m same;
      places = search rules;
    }

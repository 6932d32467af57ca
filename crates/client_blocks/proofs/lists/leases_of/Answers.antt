use Rattle.std.proofs.Common.{◌≡◌, ◌+◌, ◌*◌, ◌<◌, ◌∙◌, ℕ, arith, length, rules, set, subst, sym, take}
use Rattle.std.proofs.lemmas.Option.{none-some, same_Some}
use Rattle.vote_leases.specs.Saved.{lease_words}
use Rattle.client_blocks.specs.Bytes.{leases_words}
use Rattle.client_blocks.proofs.ListLemmas.{lease_there, member, read_more, text_more, wide_5}
use Rattle.client_blocks.proofs.lists.leases_of.Goals as goal

pub returns-in_err-leases-clause-read : goal.returns-in_err-leases-clause-read
returns-in_err-leases-clause-read c = λ xs many is.
    let less : c.loop-place.place < length xs = omega (arith, c.loop-place-test.true, many) in
    let m = member xs c.loop-place.place less in
    let there = wide_5 c.args.words.now c.loop-place.place ∙ lease_there c.args.words.now xs c.loop-place.place less is m in
    absurd (none-some m.item (sym c.in_err-leases.was ∙ c.lease_of.ensures.read m.item there))

pub loop-place-preserved : goal.loop-place-preserved
loop-place-preserved c =
    let i = c.loop-place.place in
    let new = c.in_ok-leases.field-0 in
    let less : i < length c.loop-place.leases = omega (arith, c.loop-place-test.true, c.loop-place.invariant.places) in
    let text = text_more lease_words c.loop-place.leases new i (5 * i) 5 c.args.words.now less c.loop-place.invariant.text (sym (wide_5 c.args.words.now i) ∙ c.in_ok-leases.ensures.text) in
    let next : 5 * i + 5 ≡ 5 * (i + 1) = omega arith in
    record {
      text = subst (λ (n : ℕ). leases_words (take (i + 1) (set c.loop-place.leases i new)) ≡ take n c.args.words.now) next text;
      read = λ xs many is.
          let fewer : i < length xs = omega (arith, c.loop-place-test.true, many) in
          let m = member xs i fewer in
          let there = wide_5 c.args.words.now i ∙ lease_there c.args.words.now xs i fewer is m in
          let same = same_Some m.item new (sym (c.lease_of.ensures.read m.item there) ∙ c.in_ok-leases.was) in
          read_more c.loop-place.leases xs new i less (c.loop-place.invariant.read xs many is) m same;
      places = search rules;
    }

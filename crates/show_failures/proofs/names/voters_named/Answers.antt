use Rattle.std.proofs.Common.{◌≡◌, ◌∙◌, [], ap, map, refl, sym}
use Rattle.std.proofs.lemmas.Option.{get_or_from_slice_get}
use Rattle.coterie_file.specs.Names.{has_name, name_at}
use Rattle.show_failures.proofs.VoterLemmas.{passing-with, passing-within, passing-without}
use Rattle.show_failures.proofs.NameLemmas.{all_voters}
use Rattle.show_failures.proofs.names.voters_named.Goals as goal
use Rattle.show_failures.proofs.names.voters_named.Goals.{then-has_word, else-has_word}

pub loop-voter-preserved : goal.loop-voter-preserved
loop-voter-preserved g c =
    let names = c.args.named.now.names in
    let words = map g.S.AsStr.text c.args.words.now in
    let k = c.loop-voter.voter in
    let tested : has_name words (name_at names k) ≡ c.has_word.result = ap (has_name words) (get_or_from_slice_get names k c.name.result.now [] c.name.ensures.value) ∙ sym c.has_word.ensures in
    elim c.if-has_word.branch [
      | then-has_word w ↦ rw w.voters-is (w.insert.ensures.members ∙ passing-with (λ i. has_name words (name_at names i)) k k c.loop-voter.voters refl c.loop-voter.invariant
          (tested ∙ w.if-has_word.true))
      | else-has_word w ↦ rw w.voters-is (passing-without (λ i. has_name words (name_at names i)) k c.loop-voter.voters c.loop-voter.invariant (tested ∙ w.if-has_word.false))
    ]

pub returns-clause-voters : goal.returns-clause-voters
returns-clause-voters g c =
    let named = c.args.named.now in
    passing-within (λ i. has_name (map g.S.AsStr.text c.args.words.now) (name_at named.names i)) c.loop-voter.voter named.system.voters c.loop-voter.voters c.loop-voter.invariant
    (all_voters named c.coterie.result.now c.loop-voter.voter c.voters-voter-end.result c.coterie.ensures.value c.voters-voter-end.ensures.value c.loop-voter.auto.voter-end)

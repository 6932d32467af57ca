use Rattle.std.proofs.Common.{◌||◌, ap, sym, ◌∙◌, arith, map, eqb}
use Rattle.numbers.specs.Sets.{has, set_where}
use Rattle.coterie_file.specs.Reading.{quorum_of}
use Rattle.coterie_file.proofs.NameLemmas.{texts_before-push, texts_before}
use Rattle.coterie_file.proofs.QuorumLemmas.{quorum_of-nil, quorum_of-push, quorum_of-other}
use Rattle.coterie_file.proofs.reading.set_of.Goals as goal
use Rattle.coterie_file.proofs.reading.set_of.Goals.{in-Some, in_default}

pub loop-name-init : goal.loop-name-init
loop-name-init c = c.empty-set.ensures ∙ sym (quorum_of-nil (map (λ k. k.now) c.args.voters.now.keys))

pub loop-name-preserved : goal.loop-name-preserved
loop-name-preserved c =
    let keys = map (λ k. k.now) c.args.voters.now.keys in
    let done = texts_before c.args.members.now c.loop-name.name-index in
    let text = c.as_str.result.now in
    let grown = ap (quorum_of keys) (texts_before-push c.args.members.now c.loop-name.name-index c.name-item.result text (omega arith) c.name-item.is c.as_str.ensures.value) in
    elim c.match-number_in.branch [
      | in-Some w ↦
          rw w.set-is (w.insert.ensures.members ∙ ap (λ s. set_where (λ j. eqb j w.in-Some.number || has s j)) c.loop-name.invariant
          ∙ quorum_of-push keys done text w.in-Some.number (sym w.in-Some.ensures) ∙ grown)
      | in_default w ↦ rw w.set-is (c.loop-name.invariant ∙ quorum_of-other keys done text (sym w.in_default.ensures) ∙ grown)
    ]

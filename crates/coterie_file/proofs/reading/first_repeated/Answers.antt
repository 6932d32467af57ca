use Rattle.std.proofs.Common.{◌∙◌, sym, ap, arith, map, [], string_bytes}
use Rattle.std.specs.Option.{is_some}
use Rattle.std.proofs.lemmas.Iterator.Adapters.{position_from-zero}
use Rattle.std.proofs.lemmas.List.{drop_all}
use Rattle.std.specs.List.{position_from}
use Rattle.coterie_file.specs.Names.{first_repeat}
use Rattle.coterie_file.proofs.ReadingLemmas.{repeats, position_from-here, position_from-later}
use Rattle.coterie_file.proofs.reading.first_repeated.Goals as goal

pub returns-then-branch : goal.returns-then-branch
returns-then-branch c =
    let quorums = c.args.quorums.now in
    let tested = ap repeats (sym c.index-quorums-j.is) ∙ ap (λ t. is_some (first_repeat [] (map string_bytes t))) (sym c.as_slice.ensures.value) ∙ sym c.in_ok-repeats.ensures ∙ c.if-branch.true in
    sym (position_from-here repeats quorums c.loop-j.j c.index-quorums-j.result (omega arith) tested) ∙ c.loop-j.invariant ∙ sym (position_from-zero repeats quorums)

pub loop-j-preserved : goal.loop-j-preserved
loop-j-preserved c =
    let quorums = c.args.quorums.now in
    let tested = ap repeats (sym c.index-quorums-j.is) ∙ ap (λ t. is_some (first_repeat [] (map string_bytes t))) (sym c.as_slice.ensures.value) ∙ sym c.in_ok-repeats.ensures ∙ c.if-branch.false in
    sym (position_from-later repeats quorums c.loop-j.j c.index-quorums-j.result (omega arith) tested) ∙ c.loop-j.invariant

pub returns : goal.returns
returns c =
    let quorums = c.args.quorums.now in
    sym (ap (position_from repeats c.loop-j.j) (drop_all c.loop-j.j quorums (omega arith))) ∙ c.loop-j.invariant ∙ sym (position_from-zero repeats quorums)

use Rattle.std.proofs.Common.{sym, ◌∙◌, arith}
use Rattle.fail_over.proofs.PlaceLemmas.{found_before, found_further}
use Rattle.fail_over.proofs.choices.place_without.Goals as goal

pub returns-in-Some : goal.returns-in-Some
returns-in-Some c = λ ticket at.
    found_further c.args.cycle.now c.split_at.result.0.now c.split_at.result.1.now c.args.voters ticket c.args.from c.in-Some.further
    c.split_at.ensures.by_index.0 c.split_at.ensures.front_len (omega (arith, c.split_at.ensures.back_len, c.requires))
    (sym c.first_without.ensures ∙ c.in-Some.is) at

pub returns-in-None : goal.returns-in-None
returns-in-None c = λ ticket at.
    c.first_without-in-None.ensures
    ∙ found_before c.args.cycle.now c.split_at.result.0.now c.split_at.result.1.now c.args.voters ticket c.args.from
    c.split_at.ensures.by_index.0 c.split_at.ensures.front_len (omega (arith, c.split_at.ensures.back_len, c.requires))
    (sym c.first_without.ensures ∙ c.in-None.is) at

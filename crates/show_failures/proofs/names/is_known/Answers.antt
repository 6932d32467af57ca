use Rattle.std.proofs.Common.{◌≡◌, ◌∙◌, ◌+◌, ◌||◌, Bool, ap, drop, sym}
use Rattle.coterie_file.specs.Names.{has_name}
use Rattle.show_failures.proofs.NameLemmas.{below_names, has_name-at}
use Rattle.show_failures.proofs.names.is_known.Goals as goal
use Rattle.show_failures.proofs.names.is_known.Goals.{After-eq}

-- whether the name is a later one
abbrev is_later : After-eq → Bool
is_later c = has_name (drop (c.loop-voter.voter + 1) c.args.named.now.names) c.args.name.now

-- it is this one or a later one, if it is one at all
here_or_later : (c : After-eq) → (c.eq.result || is_later c) ≡ has_name c.args.named.now.names c.args.name.now
here_or_later c =
    let lt = below_names c.args.named.now c.coterie.result.now c.loop-voter.voter c.voters-voter-end.result c.name.ensures.named c.coterie.ensures.value c.voters-voter-end.ensures.value
    c.loop-voter-test.true in
    sym (has_name-at c.args.named.now.names c.loop-voter.voter c.args.name.now c.name.result.now c.eq.result c.name.ensures.value lt (sym c.eq.ensures)) ∙ c.loop-voter.invariant

pub returns-then-eq : goal.returns-then-eq
returns-then-eq c =
    let at = (goal.at.returns-then-eq c).After-eq in
    sym (ap (λ b. b || is_later at) c.if-eq.true) ∙ here_or_later at

pub loop-voter-preserved : goal.loop-voter-preserved
loop-voter-preserved c =
    let at = (goal.at.loop-voter-preserved c).After-eq in
    sym (ap (λ b. b || is_later at) c.if-eq.false) ∙ here_or_later at

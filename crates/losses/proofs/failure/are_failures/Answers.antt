use Rattle.losses.proofs.failure.are_failures.Goals as goal

pub returns-then-are_few : goal.returns-then-are_few
returns-then-are_few c =
    let few = c.are_few.ensures.0 c.if-are_few.true in
    (λ usable. (few.0, few.1, c.are_all_usable.ensures.0 usable), λ h. c.are_all_usable.ensures.1 h.2)

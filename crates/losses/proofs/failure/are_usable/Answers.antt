use Rattle.losses.proofs.failure.are_usable.Goals as goal

pub returns-then-is_limit : goal.returns-then-is_limit
returns-then-is_limit c =
    let limit = c.is_limit.ensures.0 c.if-is_limit.true in (
      λ usable.
          let failures = c.are_failures.ensures.0 usable in
          record {
            is_fraction = limit.0;
            are_multipliers = limit.1;
            some = failures.0;
            few = failures.1;
            each = failures.2;
          },
      λ h. c.are_failures.ensures.1 (h.some, h.few, h.each),
    )

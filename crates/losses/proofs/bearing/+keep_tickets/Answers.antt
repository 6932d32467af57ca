use Rattle.std.proofs.Common.{◌≡◌, true≢false, ◌+◌, ◌++◌, ap, ◌∷◌, inl, inr, refl, sym, subst, ◌∙◌, arith}
use Rattle.std.proofs.lemmas.Bool.{cases_eq}
use Rattle.numbers.specs.Sets.{Ascends}
use Rattle.losses.specs.Losses.{KeepsTicket}
use Rattle.losses.proofs.BearingLemmas.{KeepTickets-all, KeepsTicket-front, KeepsTicket-set}
use Rattle.losses.proofs.bearing.+keep_tickets.Goals as goal

pub returns-then-not-keep_tickets-clause-keep : goal.returns-then-not-keep_tickets-clause-keep
returns-then-not-keep_tickets-clause-keep t c =
    let with = c.with_voter-with in
    let v = c.loop-voter.voter in
    let voters : c.voters-voter-end.result ≡ c.args.weights.now.system.voters = c.voters-voter-end.ensures.value ∙ ap (λ s. s.voters) c.coterie.ensures.value in
    let small = c.keeps_ticket.ensures.weights.coterie.few_voters in (
      λ e. absurd (true≢false (sym e)),
      λ h.
          let own = c.keep_tickets.ensures.keep.1 (λ ys up few. KeepsTicket-set with.result c.args.down.now v (omega (arith, voters, small)) with.ensures.set with.ensures.before with.ensures.members c.args.weights.now ys
          (h (v ∷ ys) (omega arith, omega (arith, voters), up) (omega (arith, few)))) in
          sym c.if-not-keep_tickets.true ∙ own,
    )

pub loop-voter-preserved : goal.loop-voter-preserved
loop-voter-preserved t c = λ x ys low lt up few.
    let with = c.with_voter-with in
    let v = c.loop-voter.voter in
    let voters : c.voters-voter-end.result ≡ c.args.weights.now.system.voters = c.voters-voter-end.ensures.value ∙ ap (λ s. s.voters) c.coterie.ensures.value in
    let small = c.keeps_ticket.ensures.weights.coterie.few_voters in
    let w = c.args.weights.now in
    let down = c.args.down.now in
    elim (cases_eq x v) as (λ _. KeepsTicket w ((x ∷ ys) ++ down)) [
      | inl at ↦
          let above : Ascends (v + 1) w.system.voters ys = subst (λ y. Ascends (y + 1) w.system.voters ys) at up in
          let own = c.keep_tickets.ensures.keep.0 c.if-not-keep_tickets.false ys above (omega (arith, few)) in
          subst (λ y. KeepsTicket w ((y ∷ ys) ++ down)) (sym at)
          (KeepsTicket-front with.result down v (omega (arith, voters, small)) with.ensures.set with.ensures.before with.ensures.members w ys own)
      | inr off ↦ c.loop-voter.invariant x ys low (omega arith) up few
    ]

pub returns-clause-keep : goal.returns-clause-keep
returns-clause-keep t c =
    let voters : c.voters-voter-end.result ≡ c.args.weights.now.system.voters = c.voters-voter-end.ensures.value ∙ ap (λ s. s.voters) c.coterie.ensures.value in
    let own = c.keeps_ticket.ensures.keeps.0 c.if-not-keeps_ticket.false in
    (λ e. KeepTickets-all c.args.weights.now c.args.down.now c.args.first c.loop-voter.voter c.args.more (omega (arith, voters, c.loop-voter-test.false)) own c.loop-voter.invariant, λ h. refl)

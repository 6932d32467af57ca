use Rattle.std.proofs.Common.{ap, sym, ◌∙◌, arith}
use Rattle.dealer.specs.Offices.{ClerkState, share_of}
use Rattle.commands.proofs.DealingLemmas.{after_draws-more, share_of-after_draws}
use Rattle.commands.proofs.dealing.draw_all.Goals as goal

pub draw_next-requires-clause-office : goal.draw_next-requires-clause-office
draw_next-requires-clause-office c = ap (λ (k : ClerkState). k.office) c.loop-ticket.invariant

pub draw_next-requires-clause-share : goal.draw_next-requires-clause-share
draw_next-requires-clause-share c =
    ap share_of c.loop-ticket.invariant ∙ share_of-after_draws c.args.office.now.name c.args.quota c.loop-ticket.ticket (omega arith) ∙ sym c.requires.quota

pub draw_next-requires-clause-rest : goal.draw_next-requires-clause-rest
draw_next-requires-clause-rest c = omega (arith, ap (λ (k : ClerkState). k.rest) c.loop-ticket.invariant)

pub loop-ticket-preserved : goal.loop-ticket-preserved
loop-ticket-preserved c =
    after_draws-more c.args.office.now.name c.args.quota c.loop-ticket.ticket c.loop-ticket.drawing c.draw_next.new.clerk c.loop-ticket.invariant c.in_ok-draw_next.ensures

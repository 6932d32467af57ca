use Rattle.std.proofs.Common.{◌≡◌}
use Rattle.commands.specs.Dealing.{after_draws}
use Rattle.commands.proofs.dealing.draw_all.Given as goal

abbrev pub invariant-loop-ticket : goal.invariant-loop-ticket
invariant-loop-ticket l = l.drawing ≡ after_draws l.office.name l.quota l.ticket

use Rattle.std.proofs.Common.{◌<◌, length, sym, subst, ap, arith}
use Rattle.std.proofs.lemmas.List.Elements.{All-from_recursion}
use Rattle.message.specs.declared.message.Message.{Message}
use Rattle.message.specs.Lines.{HasLine}
use Rattle.world_state.specs.Steps.{Planned}
use Rattle.world.proofs.world.World.message.Goals as goal

pub returns-clause-line : goal.returns-clause-line
returns-clause-line c =
    let sent = c.self.inside.state.sent.items in
    let long = ap (λ (w : Planned). length w.state.sent) c.self.view_is in
    let within : c.args.number < length sent = omega arith in
    subst (λ (m : Message). HasLine m) (sym c.index.ensures) (All-from_recursion HasLine sent c.self.invariant.lines c.args.number c.index.result.now within)

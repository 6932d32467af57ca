use Rattle.command_line.proofs.words.qlock_command.Goals as goal

pub returns : goal.returns
returns c =
    let make = c.with_command-parser.ensures _ _ c.without_commands-parser.ensures c.make_command.ensures.app c.make_command.ensures.local in
    let plan = c.with_command-parser-2.ensures _ _ make c.bare_command-plan.ensures.app c.bare_command-plan.ensures.local in
    let check = c.with_command-parser-3.ensures _ _ plan c.bare_command-check.ensures.app c.bare_command-check.ensures.local in
    let deal = c.with_command-parser-4.ensures _ _ check c.deal_command.ensures.app c.deal_command.ensures.local in
    let world = c.with_command-parser-5.ensures _ _ deal c.bare_command-world.ensures.app c.bare_command-world.ensures.local in
    let run = c.with_command-parser-6.ensures _ _ world c.run_command.ensures.app c.run_command.ensures.local in
    c.with_command.ensures _ _ run c.bare_command-replay.ensures.app c.bare_command-replay.ensures.local

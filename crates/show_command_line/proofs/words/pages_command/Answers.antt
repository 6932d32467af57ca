use Rattle.show_command_line.proofs.words.pages_command.Goals as goal

pub returns : goal.returns
returns c =
    let plan = c.with_command-parser.ensures _ _ c.without_commands-parser.ensures c.plan_command.ensures.app c.plan_command.ensures.local in
    let check = c.with_command-parser-2.ensures _ _ plan c.bare_command-check.ensures.app c.bare_command-check.ensures.local in
    let deal = c.with_command-parser-3.ensures _ _ check c.deal_command.ensures.app c.deal_command.ensures.local in
    let world = c.with_command-parser-4.ensures _ _ deal c.bare_command-world.ensures.app c.bare_command-world.ensures.local in
    c.with_command.ensures _ _ world c.bare_command-report.ensures.app c.bare_command-report.ensures.local

use Rattle.show_command_line.proofs.words.coteries_command.Goals as goal

pub returns : goal.returns
returns c =
    let without = c.with_command-parser.ensures _ _ c.pages_command.ensures c.without_command.ensures.app c.without_command.ensures.local in
    let resilience = c.with_command-parser-2.ensures _ _ without c.resilience_command.ensures.app c.resilience_command.ensures.local in
    c.with_command.ensures _ _ resilience c.bare_command-bridge.ensures.app c.bare_command-bridge.ensures.local

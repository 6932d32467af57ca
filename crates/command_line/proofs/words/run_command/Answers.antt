use Rattle.command_line.proofs.words.run_command.Goals as goal

pub returns-clause-app : goal.returns-clause-app
returns-clause-app c =
    let clients = c.with_argument-command.ensures.app _ _ c.bare_command-command.ensures.app c.number_argument-clients.ensures.rule c.number_argument-clients.ensures.local in
    let passes = c.with_argument-command-2.ensures.app _ _ clients c.number_argument-passes.ensures.rule c.number_argument-passes.ensures.local in
    c.with_argument.ensures.app _ _ passes c.number_argument-turns.ensures.rule c.number_argument-turns.ensures.local

pub returns-clause-local : goal.returns-clause-local
returns-clause-local c =
    let clients = c.with_argument-command.ensures.local c.bare_command-command.ensures.local c.number_argument-clients.ensures.local in
    let passes = c.with_argument-command-2.ensures.local clients c.number_argument-passes.ensures.local in
    c.with_argument.ensures.local passes c.number_argument-turns.ensures.local

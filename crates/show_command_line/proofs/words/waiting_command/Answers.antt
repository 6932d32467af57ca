use Rattle.show_command_line.proofs.words.waiting_command.Goals as goal

pub returns-clause-app : goal.returns-clause-app
returns-clause-app c =
    let clients = c.with_argument-command.ensures.app _ _ c.bare_command-command.ensures.app c.number_argument-clients.ensures.rule c.number_argument-clients.ensures.local in
    let withdrawals = c.with_argument-command-2.ensures.app _ _ clients c.optional_argument-withdrawals.ensures.rule c.optional_argument-withdrawals.ensures.local in
    let round = c.with_argument-command-3.ensures.app _ _ withdrawals c.round_argument.ensures.rule c.round_argument.ensures.local in
    let down = c.with_argument-command-4.ensures.app _ _ round c.waiting_down_argument.ensures.rule c.waiting_down_argument.ensures.local in
    c.with_argument.ensures.app _ _ down c.waiting_dead_argument.ensures.rule c.waiting_dead_argument.ensures.local

pub returns-clause-local : goal.returns-clause-local
returns-clause-local c =
    let clients = c.with_argument-command.ensures.local c.bare_command-command.ensures.local c.number_argument-clients.ensures.local in
    let withdrawals = c.with_argument-command-2.ensures.local clients c.optional_argument-withdrawals.ensures.local in
    let round = c.with_argument-command-3.ensures.local withdrawals c.round_argument.ensures.local in
    let down = c.with_argument-command-4.ensures.local round c.waiting_down_argument.ensures.local in
    c.with_argument.ensures.local down c.waiting_dead_argument.ensures.local

use Rattle.show_command_line.proofs.words.deal_command.Goals as goal

pub returns-clause-app : goal.returns-clause-app
returns-clause-app c =
    let tickets = c.with_argument-command.ensures.app _ _ c.bare_command-command.ensures.app c.tickets_argument.ensures.rule c.tickets_argument.ensures.local in
    let even = c.with_argument-command-2.ensures.app _ _ tickets c.flag_argument-even.ensures.rule c.flag_argument-even.ensures.local in
    let names = c.with_argument-command-3.ensures.app _ _ even c.flag_argument-names.ensures.rule c.flag_argument-names.ensures.local in
    c.with_argument.ensures.app _ _ names c.json_argument.ensures.rule c.json_argument.ensures.local

pub returns-clause-local : goal.returns-clause-local
returns-clause-local c =
    let tickets = c.with_argument-command.ensures.local c.bare_command-command.ensures.local c.tickets_argument.ensures.local in
    let even = c.with_argument-command-2.ensures.local tickets c.flag_argument-even.ensures.local in
    let names = c.with_argument-command-3.ensures.local even c.flag_argument-names.ensures.local in
    c.with_argument.ensures.local names c.json_argument.ensures.local

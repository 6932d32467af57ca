use Rattle.show_command_line.proofs.words.compare_command.Goals as goal

pub returns-clause-app : goal.returns-clause-app
returns-clause-app c =
    let files = c.with_argument-command.ensures.app _ _ c.bare_command-command.ensures.app c.files_argument.ensures.rule c.files_argument.ensures.local in
    c.with_argument.ensures.app _ _ files c.json_argument.ensures.rule c.json_argument.ensures.local

pub returns-clause-local : goal.returns-clause-local
returns-clause-local c =
    let files = c.with_argument-command.ensures.local c.bare_command-command.ensures.local c.files_argument.ensures.local in
    c.with_argument.ensures.local files c.json_argument.ensures.local

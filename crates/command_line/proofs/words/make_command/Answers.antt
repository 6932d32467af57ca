use Rattle.command_line.proofs.words.make_command.Goals as goal

pub returns-clause-app : goal.returns-clause-app
returns-clause-app c =
    let shape = c.with_argument-command.ensures.app _ _ c.bare_command-command.ensures.app c.word_argument-shape.ensures.rule c.word_argument-shape.ensures.local in
    c.with_argument.ensures.app _ _ shape c.sizes_argument.ensures.rule c.sizes_argument.ensures.local

pub returns-clause-local : goal.returns-clause-local
returns-clause-local c =
    let shape = c.with_argument-command.ensures.local c.bare_command-command.ensures.local c.word_argument-shape.ensures.local in
    c.with_argument.ensures.local shape c.sizes_argument.ensures.local

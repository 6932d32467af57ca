use Rattle.show_command_line.proofs.words.show_command.Goals as goal

pub returns : goal.returns
returns c =
    let explain = c.with_command-parser.ensures _ _ c.planners_command.ensures c.explain_command.ensures.app c.explain_command.ensures.local in
    let fault = c.with_command-parser-2.ensures _ _ explain c.fault_command.ensures.app c.fault_command.ensures.local in
    c.with_command.ensures _ _ fault c.picture_command.ensures.app c.picture_command.ensures.local

use Rattle.show_command_line.proofs.words.planners_command.Goals as goal

pub returns : goal.returns
returns c =
    let near = c.with_command-parser.ensures _ _ c.coteries_command.ensures c.near_command.ensures.app c.near_command.ensures.local in
    let compare = c.with_command-parser-2.ensures _ _ near c.compare_command.ensures.app c.compare_command.ensures.local in
    let coterie = c.with_command-parser-3.ensures _ _ compare c.coterie_command.ensures.app c.coterie_command.ensures.local in
    c.with_command.ensures _ _ coterie c.waiting_command.ensures.app c.waiting_command.ensures.local

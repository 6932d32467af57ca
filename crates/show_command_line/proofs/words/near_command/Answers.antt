use Rattle.show_command_line.proofs.words.near_command.Goals as goal

pub returns-clause-app : goal.returns-clause-app
returns-clause-app c =
    let cycle = c.with_argument-command.ensures.app _ _ c.bare_command-command.ensures.app c.near_cycle_argument.ensures.rule c.near_cycle_argument.ensures.local in
    let deal = c.with_argument-command-2.ensures.app _ _ cycle c.near_deal_argument.ensures.rule c.near_deal_argument.ensures.local in
    let down = c.with_argument-command-3.ensures.app _ _ deal c.near_down_argument.ensures.rule c.near_down_argument.ensures.local in
    let above = c.with_argument-command-4.ensures.app _ _ down c.near_above_argument.ensures.rule c.near_above_argument.ensures.local in
    let text = c.with_argument-command-5.ensures.app _ _ above c.flag_argument-text.ensures.rule c.flag_argument-text.ensures.local in
    c.with_argument.ensures.app _ _ text c.json_argument.ensures.rule c.json_argument.ensures.local

pub returns-clause-local : goal.returns-clause-local
returns-clause-local c =
    let cycle = c.with_argument-command.ensures.local c.bare_command-command.ensures.local c.near_cycle_argument.ensures.local in
    let deal = c.with_argument-command-2.ensures.local cycle c.near_deal_argument.ensures.local in
    let down = c.with_argument-command-3.ensures.local deal c.near_down_argument.ensures.local in
    let above = c.with_argument-command-4.ensures.local down c.near_above_argument.ensures.local in
    let text = c.with_argument-command-5.ensures.local above c.flag_argument-text.ensures.local in
    c.with_argument.ensures.local text c.json_argument.ensures.local

-- The commands that are served.
use Rattle.std.specs.Prelude.{◌≤◌, IfSome, length, ⊤}
use Rattle.numbers.specs.Bounds.{max_cycle, max_dealt}
use Rattle.commands.specs.Commands.{IsInRange}
use Rattle.show_waiting.specs.Waiting as waiting
use Rattle.show_command_line.specs.declared.command.ShowCommand.{ShowCommand}
use Rattle.show_command_line.specs.declared.command.ShowCommand.TheVariants.{Compare, Deal, Fault, Near, Waiting}

-- the numbers of a command are in range
abbrev pub IsShown : ShowCommand → Type 0
IsShown (Deal dealing) = dealing.count ≤ max_dealt
IsShown (Compare files form) = length files.items ≤ 64
IsShown (Near page) =
    IfSome page.cycle (λ n. (1 ≤ n) × (n ≤ max_cycle)) × IfSome page.tickets (λ n. n ≤ max_dealt)
    × IfSome page.above (λ n. n ≤ 100)
IsShown (Fault command) = IsInRange command
IsShown (Waiting w) = waiting.IsInRange w
IsShown command = ⊤

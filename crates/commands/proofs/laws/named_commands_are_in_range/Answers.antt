use Rattle.commands.proofs.CommandLemmas.{named_in_range}
use Rattle.commands.proofs.laws.named_commands_are_in_range.Goals as goal

pub returns : goal.returns
returns c = named_in_range

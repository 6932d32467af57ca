use Rattle.std.proofs.Common.{◌≡◌, ◌++◌, length}
use Rattle.stories.specs.Scripts.{without_notes}
use Rattle.stories.proofs.reading.without_notes.Given as goal

-- the lines so far, and then what is left without its notes, are the whole
abbrev pub invariant-lines : goal.invariant-lines
invariant-lines l = l.plain.items ++ without_notes l.rest ≡ without_notes l.text

abbrev pub decreases-lines : goal.decreases-lines
decreases-lines l = length l.rest

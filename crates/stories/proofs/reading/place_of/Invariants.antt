use Rattle.std.proofs.Common.{◌≡◌, ◌+◌, ◌≤◌, length}
use Rattle.stories.specs.Scripts.{cut_lines, place_of}
use Rattle.stories.proofs.reading.place_of.Given as goal

-- the lines so far, and then those up to the place in what is left, are those up to the place
abbrev pub invariant-lines : goal.invariant-lines
invariant-lines l = record {
  counted : l.place + place_of (cut_lines l.rest).0 l.left ≡ place_of (cut_lines l.text).0 l.number + 1;
  few : l.place + length l.rest ≤ length l.text + 1;
}

abbrev pub decreases-lines : goal.decreases-lines
decreases-lines l = length l.rest

use Rattle.std.proofs.Common.{◌≡◌, ◌≤◌, length, take}
use Rattle.show_cli.proofs.scenes.first_other.Given as goal

-- the names so far are the same
abbrev pub invariant-loop-place : goal.invariant-loop-place
invariant-loop-place l = record {
  same : take l.place l.first.names ≡ take l.place l.second.names;
  within : l.place ≤ length l.second.names;
}

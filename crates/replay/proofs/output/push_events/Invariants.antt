use Rattle.std.proofs.Common.{◌≡◌, ◌++◌, drop, string_bytes}
use Rattle.std.specs.List.{flat_map}
use Rattle.replay.specs.Outputs.{event_line}
use Rattle.replay.proofs.output.push_events.Given as goal

-- what was written, and then the lines of the events that are left, is the whole
abbrev pub invariant-loop-event : goal.invariant-loop-event
invariant-loop-event l = string_bytes l.text ++ flat_map event_line (drop l.event-index l.events) ≡ string_bytes l.fn.text ++ flat_map event_line l.events

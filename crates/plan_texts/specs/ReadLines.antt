-- The values that were read from the lines of a text.
use Rattle.std.specs.Prelude.{option_map}
use Rattle.plan_texts.specs.PlanTexts.{Contents}
use Rattle.plan_texts.specs.declared.reading.Lines.{Lines}

-- what was read, as the contents of a text
abbrev pub contents_read : Lines → Contents
contents_read t = record {
  load = t.load;
  bound = t.bound;
  cycle = t.cycle;
  capacities = option_map (λ v. v.items) t.capacities;
  quorum_weights = t.quorum_weights.items;
  voter_weights = t.voter_weights.items;
}

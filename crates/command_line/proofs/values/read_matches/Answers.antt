use Rattle.std.proofs.lemmas.Bool.{and_parts}
use Rattle.command_line.proofs.values.read_matches.Goals as goal

pub returns-clause-found : goal.returns-clause-found
returns-clause-found c = record {
  faultless = c.in_ok-try_get_matches_from.ensures.kinds c.requires.free;
  used = (c.in_ok-try_get_matches_from.ensures.matches (and_parts _ _ c.requires.free).0).1;
}

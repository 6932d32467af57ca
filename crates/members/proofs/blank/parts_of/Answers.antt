use Rattle.std.proofs.Common.{List, Bool, false, slice_index_or, ap, ◌∙◌}
use Rattle.members.proofs.blank.parts_of.Goals as goal

pub members_of-requires-clause-there : goal.members_of-requires-clause-there
members_of-requires-clause-there g c = λ k. ap (λ (l : List Bool). slice_index_or l k false) c.in_ok-mailroom.ensures.same.0 ∙ c.requires.blank.root_is.clients k

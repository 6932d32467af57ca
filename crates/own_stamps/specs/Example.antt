-- What two sessions of a number keep of three voters as they ask, one after the other, in the world of `lost_rows` in which a voter loses its
-- state between them.
use Rattle.std.specs.Prelude.{List, [], ◌∷◌}
use Rattle.own_stamps.specs.Stamps.{told, untold}
use Rattle.own_stamps.specs.declared.stamps.OwnStamps.{OwnStamps}

-- voters 0 and 1 reserved stamp 1 for session 7
abbrev pub seven : List OwnStamps
seven = told (untold 0) 0 0 1 ∷ told (untold 0) 0 0 1 ∷ []

-- Session 8 heard nothing of voter 0. Voters 1 and 2 reserved up to stamp 2 for it, voter 1 in its next run, and above stamp 1.
abbrev pub eight : List OwnStamps
eight = untold 0 ∷ told (untold 0) 1 1 2 ∷ told (untold 0) 0 0 2 ∷ []

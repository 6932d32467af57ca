-- What a session keeps of all voters, and how it asks by that, in the world of `lost_rows`, in which voters lose their states.
use Rattle.std.specs.Prelude.{ℕ, ◌≡◌, ◌≤◌, true, List, [], ◌∷◌, Some}
use Rattle.std.specs.List.{AllByRecursion, slice_get}
use Rattle.numbers.specs.Sets.{members_of}
use Rattle.sessions.specs.Rows.{IsOneOf}
use Rattle.lost_rows.specs.Voters.{Answer, Answers, Asks, Claims, Closes, Crashes, Drops, Event, IsMadeAgain, Loses, MayBeMade, Recoveries, Replies, Reserves, TakesBack, World, happens}
use Rattle.own_stamps.specs.Stamps.{IsOf, all_told, may_ask}
use Rattle.own_stamps.specs.declared.stamps.OwnStamps.{OwnStamps}

-- of each voter the session knows a run that is no earlier than the one that this answer knew
abbrev pub IsKnown : List OwnStamps → Answer → Type 0
IsKnown kept a = (v : ℕ) (s : OwnStamps) → slice_get kept v ≡ Some s → a.knows v ≤ s.run

-- What is kept of a voter is what these answers told. Each of them left that voter, in the run that is kept, for the session under its epoch,
-- and what it knew of runs is known.
pub record IsFromAnswers (answers : List Answer) (session epoch : ℕ) (kept : List OwnStamps) (voter : ℕ) (s : OwnStamps) : Type 0 where
  pub heard : List Answer
  pub of : AllByRecursion (IsOf answers session epoch voter s.run) heard
  pub known : AllByRecursion (IsKnown kept) heard
  pub is : s ≡ all_told s.run heard

-- what the session keeps of each voter, voter by voter, is what it heard of answers that left the voter
abbrev pub KeepsWhatItHeard : List Answer → ℕ → ℕ → List OwnStamps → Type 0
KeepsWhatItHeard answers session epoch kept =
    (voter : ℕ) (s : OwnStamps) → slice_get kept voter ≡ Some s → IsFromAnswers answers session epoch kept voter s

-- The session asks a quorum, one of these, under a stamp. By what it keeps then it may ask that.
pub record AsksByStamps (quorums : List (List ℕ)) (answers : List Answer) (session epoch stamp : ℕ) (voters : List ℕ) : Type 0 where
  pub among : IsOneOf voters quorums
  pub quorum : ℕ
  pub members : voters ≡ members_of quorum
  pub kept : List OwnStamps
  pub keeps : KeepsWhatItHeard answers session epoch kept
  pub may : may_ask kept quorum stamp ≡ true

-- whether an event may come: a session asks by what it keeps
abbrev pub MayComeByStamps : List (List ℕ) → Recoveries → World → Event → Type 0
MayComeByStamps quorums recoveries w (Asks session epoch stamp voters) = AsksByStamps quorums w.answers session epoch stamp voters
MayComeByStamps quorums recoveries w (IsMadeAgain v run row replies) = MayBeMade recoveries w v run row replies
MayComeByStamps quorums recoveries w (Replies v to run) = Unit {0}
MayComeByStamps quorums recoveries w (Claims v session epoch) = Unit {0}
MayComeByStamps quorums recoveries w (Reserves v session epoch stamp) = Unit {0}
MayComeByStamps quorums recoveries w (Closes v session epoch) = Unit {0}
MayComeByStamps quorums recoveries w (TakesBack v session epoch) = Unit {0}
MayComeByStamps quorums recoveries w (Drops v epoch stamp) = Unit {0}
MayComeByStamps quorums recoveries w (Answers v) = Unit {0}
MayComeByStamps quorums recoveries w (Crashes v) = Unit {0}
MayComeByStamps quorums recoveries w (Loses v) = Unit {0}

-- each of these events may come when it does
abbrev pub MayAllComeByStamps : List (List ℕ) → Recoveries → World → List Event → Type 0
MayAllComeByStamps quorums recoveries w [] = Unit {0}
MayAllComeByStamps quorums recoveries w (e ∷ es) =
    MayComeByStamps quorums recoveries w e × MayAllComeByStamps quorums recoveries (happens w e) es

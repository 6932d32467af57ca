-- The rows of one client number at all voters, some of which lose their states and are made again, and the stamps that sessions used.
--
-- A *run* of a voter ends when its state is lost. Then the voter is silent until it is made again, with a later run, by what others told it
-- meanwhile. Each of these first saved that there is this run. From then on it says so to all sessions.
use Rattle.std.specs.Prelude.{ℕ, ◌≡◌, ◌<◌, ◌≤◌, ◌==◌, ◌⊎◌, min, max, Bool, true, false, List, [], ◌∷◌, Some, if◌then◌else◌}
use Rattle.std.specs.List.{AllByRecursion}
use Rattle.sessions.specs.Rows.{IsOneOf, Row, Use, claimed, closed, dropped, reserved, taken_back}
use Rattle.lost_rows.specs.Spent.{Keeps}

-- for each voter a run
abbrev pub Runs : Type 0
Runs = ℕ → ℕ

-- A voter: its row, as it is and as it is saved, its run, and of each voter the newest run that it knows. And whether its state is lost.
pub record Voter : Type 0 where
  pub live : Row
  pub saved : Row
  pub run : ℕ
  pub knows : Runs
  pub is_lost : Bool

-- what a voter told a session: its row, its run, and which runs it knew then
pub record Answer : Type 0 where
  pub voter : ℕ
  pub row : Row
  pub run : ℕ
  pub knows : Runs

-- what a voter told another one whose state is lost, and for which run of that
pub record Reply : Type 0 where
  pub voter : ℕ
  pub to : ℕ
  pub again : ℕ
  pub row : Row
  pub knows : Runs

-- all voters, by their numbers, each answer that ever left, the replies to voters whose states are lost, and each use
pub record World : Type 0 where
  pub voters : ℕ → Voter
  pub answers : List Answer
  pub replies : List Reply
  pub uses : List Use

-- What may happen, at any time. To a voter whose state is lost nothing happens, until it is made again. An answer that left may be read at
-- any time, by anybody, or never.
pub data Event : Type 0 where
  -- a claim comes to a voter: voter, session, epoch
  Claims : ℕ → ℕ → ℕ → Event
  -- a message of a session comes to a voter, which reserves: voter, session, epoch, stamp
  Reserves : ℕ → ℕ → ℕ → ℕ → Event
  -- a session's end comes to a voter: voter, session, epoch
  Closes : ℕ → ℕ → ℕ → Event
  -- it comes to a voter that a session takes its claim back: voter, session, epoch
  TakesBack : ℕ → ℕ → ℕ → Event
  -- a voter drops the row, with a floor of this epoch and stamp: voter, epoch, stamp
  Drops : ℕ → ℕ → ℕ → Event
  -- a voter saves its row, and then answers
  Answers : ℕ → Event
  -- a voter crashes, and restarts from what it saved
  Crashes : ℕ → Event
  -- a voter loses its state
  Loses : ℕ → Event
  -- A voter saves that another one is to have this run: voter, the other one, run. Then it replies to it, if that one's state is lost. If
  -- not, the request came late, and there is no reply.
  Replies : ℕ → ℕ → ℕ → Event
  -- a voter whose state is lost has this run from now on, and this row, by these replies: voter, run, row, replies
  IsMadeAgain : ℕ → ℕ → Row → List Reply → Event
  -- a session asks these voters: session, epoch, stamp, quorum
  Asks : ℕ → ℕ → ℕ → List ℕ → Event

-- for this voter another value
abbrev pub set : {A : Type 0} → (ℕ → A) → ℕ → A → ℕ → A
set f v x u = if v == u then x else f u

-- the voter has another row, not saved yet, unless its state is lost
abbrev pub changed : Voter → Row → Voter
changed x row = if x.is_lost then x else record { live = row; saved = x.saved; run = x.run; knows = x.knows; is_lost = false }

-- the same world, with another voter of this number
abbrev pub with_voter : World → ℕ → Voter → World
with_voter w v x = record { voters = set w.voters v x; answers = w.answers; replies = w.replies; uses = w.uses }

-- a voter has saved its row
abbrev pub stored : Voter → Voter
stored x = record { live = x.live; saved = x.live; run = x.run; knows = x.knows; is_lost = x.is_lost }

-- what it tells a session
abbrev pub answer_of : ℕ → Voter → Answer
answer_of v x = record { voter = v; row = x.live; run = x.run; knows = x.knows }

-- the world after a voter saved its row, and answered
abbrev pub answered : World → ℕ → Voter → World
answered w v x =
    if x.is_lost then w
    else record { voters = set w.voters v (stored x); answers = answer_of v x ∷ w.answers; replies = w.replies; uses = w.uses }

-- a voter crashes, and restarts from what it saved
abbrev pub restarted : Voter → Voter
restarted x = record { live = x.saved; saved = x.saved; run = x.run; knows = x.knows; is_lost = x.is_lost }

-- A voter's state is lost. Of the runs that it knew those count still that began.
abbrev pub lost : World → Voter → Voter
lost w x = record { live = x.live; saved = x.saved; run = x.run; knows = λ u. min (x.knows u) (w.voters u).run; is_lost = true }

-- no reply is of this voter or to it
abbrev pub without : List Reply → ℕ → List Reply
without [] v = []
without (r ∷ rs) v = if r.voter == v then without rs v else if r.to == v then without rs v else r ∷ without rs v

-- what a voter saved that knows of this run of another one
abbrev pub aware : Voter → ℕ → ℕ → Voter
aware x to run =
    record { live = x.live; saved = x.live; run = x.run; knows = set x.knows to (max (x.knows to) run); is_lost = x.is_lost }

abbrev pub reply_of : ℕ → Voter → ℕ → ℕ → Reply
reply_of v x to run = record { voter = v; to = to; again = run; row = x.live; knows = x.knows }

-- The world after a voter saved that another one is to have this run. It replied, if that one's state is lost.
abbrev pub replied : World → ℕ → Voter → ℕ → ℕ → World
replied w v x to run =
    if x.is_lost then w
    else if (w.voters to).is_lost then record {
      voters = set w.voters v (aware x to run);
      answers = w.answers;
      replies = reply_of v (aware x to run) to run ∷ w.replies;
      uses = w.uses;
    }
    else with_voter w v (aware x to run)

-- of a voter the newest run of which one of these replies tells
abbrev pub newest : List Reply → Runs
newest [] u = 0
newest (r ∷ rs) u = max (r.knows u) (newest rs u)

-- the voter, made again
abbrev pub made : ℕ → ℕ → Row → List Reply → Voter
made v run row replies = record { live = row; saved = row; run = run; knows = set (newest replies) v run; is_lost = false }

-- the world afterwards
abbrev pub happens : World → Event → World
happens w (Claims v session epoch) = with_voter w v (changed (w.voters v) (claimed (w.voters v).live session epoch))
happens w (Reserves v session epoch stamp) = with_voter w v (changed (w.voters v) (reserved (w.voters v).live session epoch stamp))
happens w (Closes v session epoch) = with_voter w v (changed (w.voters v) (closed (w.voters v).live session epoch))
happens w (TakesBack v session epoch) = with_voter w v (changed (w.voters v) (taken_back (w.voters v).live session epoch))
happens w (Drops v epoch stamp) = with_voter w v (changed (w.voters v) (dropped (w.voters v).live epoch stamp))
happens w (Answers v) = answered w v (w.voters v)
happens w (Crashes v) = with_voter w v (restarted (w.voters v))
happens w (Loses v) =
    record { voters = set w.voters v (lost w (w.voters v)); answers = w.answers; replies = without w.replies v; uses = w.uses }
happens w (Replies v to run) = replied w v (w.voters v) to run
happens w (IsMadeAgain v run row replies) =
    record { voters = set w.voters v (made v run row replies); answers = w.answers; replies = without w.replies v; uses = w.uses }
happens w (Asks session epoch stamp quorum) = record {
  voters = w.voters;
  answers = w.answers;
  replies = w.replies;
  uses = record { session = session; epoch = epoch; stamp = stamp } ∷ w.uses;
}

-- the world after these events, in order
abbrev pub all_happen : World → List Event → World
all_happen w [] = w
all_happen w (e ∷ es) = all_happen (happens w e) es

-- ---- which events may come

-- this is an answer of the voter, by which the stamp is the session's own
pub record IsTold (answers : List Answer) (session epoch stamp v : ℕ) (a : Answer) : Type 0 where
  pub among : IsOneOf a answers
  pub of_voter : a.voter ≡ v
  pub of_session : a.row.session ≡ Some session
  pub of_epoch : a.row.epoch ≡ epoch
  pub above : a.row.base < stamp
  pub few : stamp ≤ a.row.reserved

-- A session may ask these voters under the stamp. It has an answer of each by which the stamp is its own. None of these answers says that
-- another one of the voters has a later run than that one's answer.
pub record MayAsk (answers : List Answer) (session epoch stamp : ℕ) (quorum : List ℕ) : Type 0 where
  pub answer : ℕ → Answer
  pub told : (v : ℕ) → IsOneOf v quorum → IsTold answers session epoch stamp v (answer v)
  pub newest : (u v : ℕ) → IsOneOf u quorum → IsOneOf v quorum → (answer u).knows v ≤ (answer v).run

-- the reply is one of these, to this voter, for this run
pub record IsFor (replies : List Reply) (v next : ℕ) (r : Reply) : Type 0 where
  pub among : IsOneOf r replies
  pub to : r.to ≡ v
  pub run : r.again ≡ next

-- the voter replied: one of these replies is its own
pub record HasReplied (replies : List Reply) (v : ℕ) : Type 0 where
  pub reply : Reply
  pub among : IsOneOf reply replies
  pub of_voter : reply.voter ≡ v

-- for each voter the sets of others from which it may be made again
abbrev pub Recoveries : Type 0
Recoveries = ℕ → List (List ℕ)

-- A voter whose state is lost may be made again: all voters of one of its recoveries replied, and none of these lost its state since. What
-- is spent by the row of a reply, is spent by the new row.
pub record MayBeMade (recoveries : Recoveries) (w : World) (v run : ℕ) (row : Row) (replies : List Reply) : Type 0 where
  pub is_lost : (w.voters v).is_lost ≡ true
  pub later : (w.voters v).run < run
  pub fit : AllByRecursion (IsFor w.replies v run) replies
  pub recovery : List ℕ
  pub among : IsOneOf recovery (recoveries v)
  pub replied : AllByRecursion (HasReplied replies) recovery
  pub kept : AllByRecursion (λ (r : Reply). Keeps r.row row) replies

-- whether an event may come
abbrev pub MayCome : List (List ℕ) → Recoveries → World → Event → Type 0
MayCome quorums recoveries w (Asks session epoch stamp quorum) = IsOneOf quorum quorums × MayAsk w.answers session epoch stamp quorum
MayCome quorums recoveries w (IsMadeAgain v run row replies) = MayBeMade recoveries w v run row replies
MayCome quorums recoveries w (Replies v to run) = Unit {0}
MayCome quorums recoveries w (Claims v session epoch) = Unit {0}
MayCome quorums recoveries w (Reserves v session epoch stamp) = Unit {0}
MayCome quorums recoveries w (Closes v session epoch) = Unit {0}
MayCome quorums recoveries w (TakesBack v session epoch) = Unit {0}
MayCome quorums recoveries w (Drops v epoch stamp) = Unit {0}
MayCome quorums recoveries w (Answers v) = Unit {0}
MayCome quorums recoveries w (Crashes v) = Unit {0}
MayCome quorums recoveries w (Loses v) = Unit {0}

-- each of these events may come when it does
abbrev pub MayAllCome : List (List ℕ) → Recoveries → World → List Event → Type 0
MayAllCome quorums recoveries w [] = Unit {0}
MayAllCome quorums recoveries w (e ∷ es) = MayCome quorums recoveries w e × MayAllCome quorums recoveries (happens w e) es

-- these have a common voter
abbrev pub Meet : List ℕ → List ℕ → Type 0
Meet p q = (v : ℕ) × IsOneOf v p × IsOneOf v q

-- Any two quorums share a voter. Each recovery of a voter shares one with each quorum, and with each recovery of any voter, unless that has
-- the first voter itself.
pub record AreSound (quorums : List (List ℕ)) (recoveries : Recoveries) : Type 0 where
  pub quorums_meet : (p q : List ℕ) → IsOneOf p quorums → IsOneOf q quorums → Meet p q
  pub meet : (v : ℕ) (p q : List ℕ) → IsOneOf p (recoveries v) → IsOneOf q quorums → Meet p q
  pub both : (v u : ℕ) (p q : List ℕ) → IsOneOf p (recoveries v) → IsOneOf q (recoveries u) → IsOneOf v q ⊎ Meet p q

-- a voter that begins with this row, saved, in its first run
abbrev pub first_run : Row → Voter
first_run row = record { live = row; saved = row; run = 0; knows = λ u. 0; is_lost = false }

-- each voter begins with its row here
abbrev pub start : (ℕ → Row) → World
start rows = record { voters = λ v. first_run (rows v); answers = []; replies = []; uses = [] }

-- each recovery is a quorum
abbrev pub AreQuorums : List (List ℕ) → Recoveries → Type 0
AreQuorums quorums recoveries = (v : ℕ) (p : List ℕ) → IsOneOf p (recoveries v) → IsOneOf p quorums

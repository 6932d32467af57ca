-- What the calls of a lock at a voter return and write. Each is said for the one voter that the bytes are, for the
-- one message that the line is, and for the rows that the table has.
use Rattle.std.specs.Prelude.{ℕ, ℤ, ◌≡◌, ◌&&◌, Bool, List, Option, None, Some, false, if◌then◌else◌, slice_index, true, unwrap_or}
use Rattle.blocks.specs.Numbers.{done, refused}
use Rattle.blocks.specs.Tables.{AreRows, row_or_none}
use Rattle.blocks.specs.declared.refusal.Refusal.TheVariants.{BadMessage, BadState, GrantsSpent}
use Rattle.lock_node.specs.Letters.{heard, may_let_go, may_say, standing_of}
use Rattle.lock_node.specs.declared.letters.Standing.{Standing}
use Rattle.lock_node.specs.declared.letters.Standing.TheVariants.{Known, Over, Unknown}
use Rattle.message.specs.declared.message.ToVoter.{ToVoter}
use Rattle.quiet_time.specs.Quiet.{end_of, is_awaited, is_closed, is_old, noted, puts_off, quiet_step}
use Rattle.quiet_time.specs.declared.since_start.SinceStart.{SinceStart}
use Rattle.sessions.specs.Rows.{Row}
use Rattle.voter.specs.declared.state.VoterState.{VoterState}
use Rattle.voter.specs.Leases.{evict}
use Rattle.voter.specs.Steps.{Outcome, current_stamp, remind}
use Rattle.voter_node.specs.LeftOut.{HaveSameLeast}
use Rattle.lock_blocks.specs.Bytes.{IsNoVoter, IsVoter}
use Rattle.lock_blocks.specs.Lines.{IsToVoter, Sends, lines_to_clients}
use Rattle.lock_blocks.specs.VoterSteps.{IsHeldBy}
use Rattle.lock_blocks.specs.declared.locks.LockShown.{LockShown}

-- what is shown of a lock after a step, to a client: its request, its finished ones, and who has the vote
pub record IsShown (before after : VoterState) (client : ℕ) (shown : LockShown) : Type 0 where
  -- 2 if what has to survive of the voter changed, and 1 if not
  pub must : (HaveSameLeast before after → ⊥) → shown.changed ≡ 2
  pub need_not : HaveSameLeast before after → shown.changed ≡ 1
  pub stamp : shown.stamp ≡ unwrap_or (current_stamp after client) 0
  pub finished : shown.finished ≡ slice_index after.finished client
  pub held : IsHeldBy after.held shown.holder shown.held shown.grant

-- the lines of what somebody hears of these replies
abbrev pub lines_heard : (ℕ → Option Row) → Outcome → List ℕ
lines_heard rows o = lines_to_clients (heard (row_or_none rows) o.state.held o.replies)

-- By what the voter's own step gives: a refusal, or the lines of the replies that somebody hears, the voter afterwards, and what is
-- so of it.
abbrev pub GoesOnAt : Option Outcome → VoterState → (ℕ → Option Row) → ℕ → (VoterState → Type 0) → (after out out_after : List ℕ) → ℕ → LockShown → ℤ → Type 0
GoesOnAt None voter rows client known after out out_after written shown result = result ≡ refused GrantsSpent
GoesOnAt (Some o) voter rows client known after out out_after written shown result =
    Sends (lines_heard rows o) out out_after written result ((IsVoter after o.state × IsShown voter o.state client shown) × known o.state)

-- nothing happens, and nothing is written but this
abbrev pub IsLeft : (before after : List ℕ) (since since_after : SinceStart) (out out_after : List ℕ) (written : ℕ) (shown_before shown : LockShown) (result : ℤ) → ℕ → Type 0
IsLeft before after since since_after out out_after written shown_before shown result changed =
    (result ≡ done) × (after ≡ before) × (since_after ≡ since) × (out_after ≡ out) × (written ≡ 0) × (shown ≡ record shown_before { changed = changed })

-- a session says this under an epoch: with the word that it is inside or not, and while the voter is quiet or not
pub record LockTakes (table before : List ℕ) (since : SinceStart) (quiet inside : Bool) (session epoch : ℕ) (line after : List ℕ) (since_after : SinceStart) (out out_after : List ℕ) (written : ℕ) (shown_before shown : LockShown) (result : ℤ) : Type 0 where
  pub no_voter : IsNoVoter before → result ≡ refused BadState
  pub no_message : (voter : VoterState) → IsVoter before voter → ((m : ToVoter) → IsToVoter line voter.id m → ⊥)
      → result ≡ refused BadMessage
  pub no_row : (voter : VoterState) (m : ToVoter) (rows : ℕ → Option Row) → IsVoter before voter → IsToVoter line voter.id m
      → AreRows table rows → rows m.client ≡ None → result ≡ refused BadState
  -- it is not the session's to say
  pub foreign : (voter : VoterState) (m : ToVoter) (rows : ℕ → Option Row) (row : Row) → IsVoter before voter → IsToVoter line voter.id m
      → AreRows table rows → rows m.client ≡ Some row → may_say row session epoch m.body ≡ false
      → IsLeft before after since since_after out out_after written shown_before shown result 0
  -- only who is inside gets the vote now, and the session does not say so
  pub put_off : (voter : VoterState) (m : ToVoter) (rows : ℕ → Option Row) (row : Row) → IsVoter before voter → IsToVoter line voter.id m
      → AreRows table rows → rows m.client ≡ Some row → may_say row session epoch m.body ≡ true
      → puts_off (is_closed quiet since voter) inside m.body ≡ true
      → IsLeft before after since since_after out out_after written shown_before shown result 3
  pub takes : (voter : VoterState) (m : ToVoter) (rows : ℕ → Option Row) (row : Row) → IsVoter before voter → IsToVoter line voter.id m
      → AreRows table rows → rows m.client ≡ Some row → may_say row session epoch m.body ≡ true
      → puts_off (is_closed quiet since voter) inside m.body ≡ false
      → GoesOnAt (quiet_step (quiet && is_old since voter.held) voter m) voter rows m.client
      (λ w. since_after ≡ noted (is_closed quiet since voter) inside since w m.client m.body) after out out_after written shown result

-- the voter lets the grant with this number go, and shows a client's request
pub record LockLetsGo (table before : List ℕ) (grant client : ℕ) (after out out_after : List ℕ) (written : ℕ) (shown : LockShown) (result : ℤ) : Type 0 where
  pub no_voter : IsNoVoter before → result ≡ refused BadState
  pub lets_go : (voter : VoterState) (rows : ℕ → Option Row) → IsVoter before voter → AreRows table rows
      → GoesOnAt (evict voter grant) voter rows client (λ w. Unit {0}) after out out_after written shown result

-- the voter lets its grant go if it is from before the start and nobody said that he is inside by it, and shows a client's request
pub record LockEndsQuiet (table before : List ℕ) (since : SinceStart) (client : ℕ) (after out out_after : List ℕ) (written : ℕ) (shown : LockShown) (result : ℤ) : Type 0 where
  pub no_voter : IsNoVoter before → result ≡ refused BadState
  pub ends : (voter : VoterState) (rows : ℕ → Option Row) → IsVoter before voter → AreRows table rows
      → GoesOnAt (end_of since voter voter.held) voter rows client (λ w. Unit {0}) after out out_after written shown result

-- whether the grant is from before the start, and nobody said since that he is inside by it; and whether somebody waits who said so
pub record LockStands (state : List ℕ) (since : SinceStart) (old awaited : ℕ) (result : ℤ) : Type 0 where
  pub no_voter : IsNoVoter state → result ≡ refused BadState
  pub stands : (voter : VoterState) → IsVoter state voter
      → (result ≡ done) × (old ≡ (if is_old since voter.held then 1 else 0)) × (awaited ≡ (if is_awaited since voter then 1 else 0))

-- the voter reminds the holder
pub record LockReminds (table state out out_after : List ℕ) (written : ℕ) (result : ℤ) : Type 0 where
  pub no_voter : IsNoVoter state → result ≡ refused BadState
  pub reminds : (voter : VoterState) (rows : ℕ → Option Row) → IsVoter state voter → AreRows table rows
      → Sends (lines_to_clients (heard (row_or_none rows) voter.held (remind voter))) out out_after written result (Unit {0})

-- how C sees a standing
abbrev pub number_of_standing : Standing → ℕ
number_of_standing Known = 0
number_of_standing Unknown = 1
number_of_standing Over = 2

-- how a session stands, by the row of a number below 64
pub record TableJudges (table : List ℕ) (number session epoch standing : ℕ) (result : ℤ) : Type 0 where
  pub no_row : (rows : ℕ → Option Row) → AreRows table rows → rows number ≡ None → result ≡ refused BadState
  pub judges : (rows : ℕ → Option Row) (row : Row) → AreRows table rows → rows number ≡ Some row
      → (result ≡ done) × (standing ≡ number_of_standing (standing_of row session epoch))

-- whether a grant may be let go, by the row of a number below 64: 1 if it may, and 0 if not
pub record TableLetsGo (table : List ℕ) (number stamp : ℕ) (is_silent ended_elsewhere : Bool) (yes : ℕ) (result : ℤ) : Type 0 where
  pub no_row : (rows : ℕ → Option Row) → AreRows table rows → rows number ≡ None → result ≡ refused BadState
  pub lets_go : (rows : ℕ → Option Row) (row : Row) → AreRows table rows → rows number ≡ Some row
      → (result ≡ done) × (yes ≡ (if may_let_go row is_silent ended_elsewhere stamp then 1 else 0))

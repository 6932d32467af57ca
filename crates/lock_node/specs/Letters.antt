-- What a voter takes from a session, and which session hears what the voter of a lock says: by the rows of
-- `sessions`.
use Rattle.std.specs.Prelude.{ℕ, nat_le, nat_lt, Bool, ◌&&◌, ◌||◌, List, [], ◌∷◌, ◌++◌, Option, Some, None, if◌then◌else◌, is_none, is_some, not, unwrap_or}
use Rattle.std.specs.List.{filter}
use Rattle.message.specs.declared.message.ClientBody.{ClientBody}
use Rattle.message.specs.declared.message.ClientBody.TheVariants as to_client
use Rattle.message.specs.declared.message.ToClient.{ToClient}
use Rattle.message.specs.declared.message.VoterBody.{VoterBody}
use Rattle.message.specs.declared.message.VoterBody.TheVariants as asks
use Rattle.sessions.specs.Rows.{Row, has_number, is_new, is_taken}
use Rattle.lock_node.specs.declared.letters.Standing.{Standing}
use Rattle.lock_node.specs.declared.letters.Standing.TheVariants.{Known, Over, Unknown}
use Rattle.voter.specs.declared.state.Grant.{Grant}
use Rattle.voter.specs.Steps.{held_stamp}

-- How a session stands at a voter: its number is its own, under this epoch; or it may claim the number under this epoch;
-- or it is over.
abbrev pub standing_of : Row → ℕ → ℕ → Standing
standing_of r session epoch = if has_number r session epoch then Known else if is_new r epoch then Unknown else Over

-- The grant of a request of this stamp may be let go: the session of its number is silent, the number has no session, or
-- one whose stamps are all above it. If another voter ended the session, it may not know so: then silence alone counts.
abbrev pub may_let_go : Row → Bool → Bool → ℕ → Bool
may_let_go r is_silent ended_elsewhere stamp = is_silent || (not ended_elsewhere && (is_none r.session || nat_le stamp r.base))

-- A voter takes this of a session, by the row of its number. The number has to be the session's, under this epoch. A
-- REQUEST has one of its own stamps. A RELEASE has at most the highest that is reserved, so it may end requests of
-- earlier sessions. A RELINQUISH names a grant.
abbrev pub may_say : Row → ℕ → ℕ → VoterBody → Bool
may_say r session epoch (asks.Request stamp) = is_taken r session epoch stamp
may_say r session epoch (asks.Relinquish grant) = has_number r session epoch
may_say r session epoch (asks.Release stamp) = has_number r session epoch && nat_le stamp r.reserved

-- the stamp of the request that this is about; an INQUIRE is about the one that has the vote, 0 if the client has
-- none
abbrev pub subject : Option Grant → ℕ → ClientBody → ℕ
subject held client (to_client.Locked stamp grant) = stamp
subject held client (to_client.Fail stamp) = stamp
subject held client (to_client.Inquire grant) = unwrap_or (held_stamp held client) 0

-- the session that hears of a stamp: the one that has the number, if the stamp is above its base
abbrev pub hearer : Row → ℕ → Option ℕ
hearer r stamp = if nat_lt r.base stamp then r.session else None

-- whether somebody hears this: the vote is granted so, and these are the rows of all numbers
abbrev pub is_heard : (ℕ → Row) → Option Grant → ToClient → Bool
is_heard rows held m = is_some (hearer (rows m.client) (subject held m.client m.body))

-- what of these messages somebody hears
abbrev pub heard : (ℕ → Row) → Option Grant → List ToClient → List ToClient
heard rows held messages = filter (is_heard rows held) messages

-- what a voter tells a session about a lock
pub record Letter : Type 0 where
  pub lock : ℕ
  pub session : ℕ
  pub message : ToClient

-- the letter with this message, if somebody hears it
abbrev pub letter_to : Option ℕ → ℕ → ToClient → List Letter
letter_to None lock message = []
letter_to (Some session) lock message = record { lock = lock; session = session; message = message } ∷ []

-- the letters with these messages of a lock
abbrev pub letters_of : (ℕ → Row) → ℕ → Option Grant → List ToClient → List Letter
letters_of rows lock held [] = []
letters_of rows lock held (m ∷ ms) = letter_to (hearer (rows m.client) (subject held m.client m.body)) lock m ++ letters_of rows lock held ms

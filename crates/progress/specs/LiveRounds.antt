-- Live rounds: fair rounds of those voters and clients that are live, while others are down, out or dead.
use Rattle.std.specs.Prelude.{ℕ, ◌≡◌, ◌+◌, ◌<◌, ◌≤◌, ◌⊎◌, ◌&&◌, Bool, if◌then◌else◌, true, false, List, [], ◌∷◌, ◌++◌, length, Option, None, Some, slice_get}
use Rattle.std.specs.List.{Contains}
use Rattle.numbers.specs.Sums.{sum_below}
use Rattle.message.specs.declared.message.Message.{Message}
use Rattle.message.specs.declared.message.Message.TheVariants as kinds
use Rattle.voter.specs.declared.state.Grant.{Grant}
use Rattle.voter.specs.VoterContract.{IsEntry}
use Rattle.requester.specs.Words.{holds, is_asking, is_idle, is_inside, is_member}
use Rattle.world_state.specs.declared.step.Step.{Step}
use Rattle.world_state.specs.declared.step.Step.TheVariants.{Deliver, Leave, RemindClient, RemindVoter}
use Rattle.world_state.specs.Steps.{Dealing, WorldState, client_at, voter_at}
use Rattle.progress.specs.Moves.{EachMove, Goes, IsNotBy, Kind, LetsGo, Move, hasty_among, late_among, move, moves_of, of_moves, steps_among}
use Rattle.progress.specs.Rounds.{DoesNotGiveUp, give_ups_in}

-- which clients and which voters are live; of all others nothing is asked
pub record Live : Type 0 where
  pub client : ℕ → Bool
  pub voter : ℕ → Bool

-- all clients and all voters are live
abbrev pub everybody : Live
everybody = record { client = λ c. true; voter = λ v. true }

-- the message is between a live client and a live voter
abbrev pub is_between : Live → Option Message → Bool
is_between live None = false
is_between live (Some (kinds.ToVoter m)) = live.client m.client && live.voter m.voter
is_between live (Some (kinds.ToClient m)) = live.client m.client && live.voter m.voter

-- Message k arrives, and each message between live ones that is sent on its arrival arrives after it.
pub record IsAnswered {M : Type 0} (kind : Kind M) (live : Live) (deal : Dealing) (w : WorldState) (moves : List M) (k : ℕ) : Type 0 where
  pub first : List M
  pub rest : List M
  pub split : moves ≡ first ++ kind.goes (Deliver k) ∷ rest
  pub answers : (j : ℕ) → length (kind.run deal first w).sent ≤ j
      → is_between live (slice_get (kind.run deal (first ++ kind.goes (Deliver k) ∷ []) w).sent j) ≡ true → Contains rest (kind.goes (Deliver j))

-- This reminder is made. Each message between live ones that it sends arrives after it, and so do the
-- answers to that between live ones.
pub record IsReminded {M : Type 0} (kind : Kind M) (live : Live) (deal : Dealing) (w : WorldState) (moves : List M) (reminder : Step) : Type 0 where
  pub first : List M
  pub rest : List M
  pub split : moves ≡ first ++ kind.goes reminder ∷ rest
  pub arrive : (k : ℕ) → length (kind.run deal first w).sent ≤ k
      → is_between live (slice_get (kind.run deal (first ++ kind.goes reminder ∷ []) w).sent k) ≡ true
      → IsAnswered kind live deal (kind.run deal (first ++ kind.goes reminder ∷ []) w) rest k

-- the client asks, and lacks the vote of a voter that is not live
pub record IsStuck (live : Live) (w : WorldState) (c : ℕ) : Type 0 where
  pub asks : is_asking (client_at w.clients c).phase ≡ true
  pub voter : ℕ
  pub member : is_member (client_at w.clients c) voter ≡ true
  pub lacks : holds (client_at w.clients c) voter ≡ false
  pub down : live.voter voter ≡ false

-- the client asks as it did: under the same stamp
pub record AsksOn (w u : WorldState) (c : ℕ) : Type 0 where
  pub asks : is_asking (client_at u.clients c).phase ≡ true
  pub same : (client_at u.clients c).stamp ≡ (client_at w.clients c).stamp

-- at some moment of these moves the voter does not know this request
pub record Drops {M : Type 0} (kind : Kind M) (deal : Dealing) (w : WorldState) (moves : List M) (v c s : ℕ) : Type 0 where
  pub first : List M
  pub rest : List M
  pub split : moves ≡ first ++ rest
  pub over : IsEntry (voter_at (kind.run deal first w).voters v) c s → ⊥

-- The voter is reminded. If its grant is then of a client that is not live, that request is over there at some
-- moment after this.
pub record IsServed {M : Type 0} (kind : Kind M) (live : Live) (deal : Dealing) (w : WorldState) (moves : List M) (v : ℕ) : Type 0 where
  pub reminded : IsReminded kind live deal w moves (RemindVoter v)
  pub drops : (g : Grant) → (voter_at (kind.run deal reminded.first w).voters v).held ≡ Some g → live.client g.client ≡ false
      → Drops kind deal (kind.run deal reminded.first w) (kind.goes (RemindVoter v) ∷ reminded.rest) v g.client g.stamp

-- A round: each live client and voter is reminded, and who of them is inside when it begins leaves. Who of them
-- is stuck when it begins ends that request. A live voter whose grant is of a client that is not live, when it is
-- reminded, drops that request.
pub record IsLiveRound {M : Type 0} (kind : Kind M) (live : Live) (deal : Dealing) (w : WorldState) (moves : List M) : Type 0 where
  pub clients : (c : ℕ) → c < length w.clients → live.client c ≡ true → IsReminded kind live deal w moves (RemindClient c)
  pub voters : (v : ℕ) → v < length w.voters → live.voter v ≡ true → IsServed kind live deal w moves v
  pub leaves : (c : ℕ) → live.client c ≡ true → is_inside (client_at w.clients c).phase ≡ true → Contains moves (kind.goes (Leave c))
  pub ends : (c : ℕ) → live.client c ≡ true → IsStuck live w c → AsksOn w (kind.run deal moves w) c → ⊥

-- such rounds, one after the other
abbrev pub AreLiveRounds : {M : Type 0} → Kind M → Live → Dealing → WorldState → List (List M) → Type 0
AreLiveRounds kind live deal w [] = Unit {0}
AreLiveRounds kind live deal w (r ∷ rs) = IsLiveRound kind live deal w r × AreLiveRounds kind live deal (kind.run deal r w) rs

-- the client is idle in this world, and has its stamp after each of these moves: it does not ask anew
pub record IsOut (deal : Dealing) (w : WorldState) (moves : List Move) (c : ℕ) : Type 0 where
  pub idle : is_idle (client_at w.clients c).phase ≡ true
  pub stays : EachMove (λ x m. (client_at (move deal x m).clients c).stamp ≡ (client_at x.clients c).stamp) deal w moves

-- the client makes none of these moves, in whatever phase it is
abbrev pub IsDead : Dealing → WorldState → List Move → ℕ → Type 0
IsDead deal w moves c = EachMove (IsNotBy c) deal w moves

-- each client that is not live is out or dead
abbrev pub AreGone : Live → Dealing → WorldState → List Move → Type 0
AreGone live deal w moves = (c : ℕ) → live.client c ≡ false → IsOut deal w moves c ⊎ IsDead deal w moves c

-- a grant that is let go is of a client that is not live
abbrev pub SparesIn : Live → WorldState → Move → Type 0
SparesIn live w (Goes s) = Unit {0}
SparesIn live w (LetsGo v) = (g : Grant) → (voter_at w.voters v).held ≡ Some g → live.client g.client ≡ false

-- no grant of a live client is let go
abbrev pub SparesLive : Live → Dealing → WorldState → List Move → Type 0
SparesLive live deal w moves = EachMove (SparesIn live) deal w moves

-- grants are let go only of clients that are not live, and that are dead from then on, also in the moves that follow
abbrev pub LetsGoOfDead : Live → Dealing → WorldState → List Move → List Move → Type 0
LetsGoOfDead live deal w [] more = Unit {0}
LetsGoOfDead live deal w (Goes t ∷ moves) more = LetsGoOfDead live deal (move deal w (Goes t)) moves more
LetsGoOfDead live deal w (LetsGo v ∷ moves) more =
    ((g : Grant) → (voter_at w.voters v).held ≡ Some g → (live.client g.client ≡ false) × IsDead deal w (LetsGo v ∷ (moves ++ more)) g.client) × LetsGoOfDead live deal (move deal w (LetsGo v)) moves more

-- each live voter has so many grants left
abbrev pub HasGrantsThere : Live → ℕ → WorldState → Type 0
HasGrantsThere live n w = (v : ℕ) → v < length w.voters → live.voter v ≡ true → (voter_at w.voters v).granted + n ≤ (voter_at w.voters v).limit

-- how many of the first n clients are live
abbrev pub live_below : Live → ℕ → ℕ
live_below live n = sum_below (λ c. if live.client c then 1 else 0) n

-- k live rounds in which no REQUEST is late and no withdrawal is hasty. There are at most as many withdrawals as live
-- clients, and a client that asks live voters alone does not give up. Who is not live is dead, and only grants of such
-- clients are let go.
pub record AreTimely (live : Live) (deal : Dealing) (w : WorldState) (k : ℕ) (rounds : List (List Move)) : Type 0 where
  pub are_live : AreLiveRounds of_moves live deal w rounds
  pub count : length rounds ≡ k
  pub in_time : late_among deal 0 w rounds ≡ 0
  pub patient : hasty_among deal w rounds ≡ 0
  pub few : give_ups_in (steps_among (moves_of rounds)) ≤ live_below live (length w.clients)
  pub stays : (c : ℕ) → ((v : ℕ) → is_member (client_at w.clients c) v ≡ true → live.voter v ≡ true) → DoesNotGiveUp c (steps_among (moves_of rounds))
  pub dead : (c : ℕ) → live.client c ≡ false → IsDead deal w (moves_of rounds) c
  pub spares : SparesLive live deal w (moves_of rounds)

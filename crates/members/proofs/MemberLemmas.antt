-- What a member keeps over its calls.
use Rattle.std.proofs.Common.{◌≡◌, ◌≢◌, inr, ℕ, ◌<◌, ◌≤◌, Bool, true, false, true≢false, List, Some, None, Result, Ok, Err, refl, sym, ap, ◌∙◌, subst, length, arith}
use Rattle.std.specs.Prelude.{slice_index, if◌then◌else◌}
use Rattle.std.proofs.lemmas.Bool.Decides.{nat_tests}
use Rattle.std.proofs.lemmas.Grind.{same_number_lists}
use Rattle.message.specs.declared.message.ToClient.{ToClient}
use Rattle.requester.specs.declared.fault.ClientFault.{ClientFault}
use Rattle.requester.specs.declared.state.ClientState.{ClientState}
use Rattle.requester.specs.declared.state.Seen.TheVariants.{Left}
use Rattle.requester.specs.Held.{HoldsNothing}
use Rattle.members.specs.ClientLaws.{AreClientLaws}
use Rattle.requester.specs.RequesterContract.{Sees}
use Rattle.requester.specs.Soundness.{IsSound}
use Rattle.requester.specs.Steps.{Outcome, Asks, Takes, Leaves, GivesUp, unless, ask, give_up, leave, step, take}
use Rattle.requester.specs.Words.{is_idle, is_asking, is_inside, is_spent, members}
use Rattle.requester.proofs.SoundSteps.{ask-Ok as asked-Ok}
use Rattle.board.specs.Seats.{BoardState, ClientSeatState as SeatState}
use Rattle.board.specs.Quorums.{HasQuorum, place_of, quorum_at}
use Rattle.board.specs.Words.{nobody}
use Rattle.board.specs.declared.fault.BoardFault.{BoardFault}
use Rattle.board.specs.declared.fault.BoardFault.TheVariants.{OutOfMemory, RegisterFull}
use Rattle.dealer.specs.declared.receipt.Receipt.{Receipt}
use Rattle.numbers.proofs.Lists.{slice_index-replicate_zero}
use Rattle.numbers.specs.Sets.{has, IsSet}
use Rattle.node.specs.Mail.{IsMail}
use Rattle.run_outcome.specs.declared.fault.ClusterFault.{ClusterFault}
use Rattle.run_outcome.specs.declared.fault.ClusterFault.TheVariants as refuses
use Rattle.dealer.specs.declared.fault.DealFault.{DealFault}
use Rattle.dealer.specs.declared.fault.DealFault.TheVariants.{QuotaSpent, OutOfMemory as NoRoom}
use Rattle.dealer.specs.Offices.{RefusesTicket}
use Rattle.quorum_set.specs.declared.bridge.Side.{Side}
use Rattle.clerks.specs.Clerks.{ClerksState, HasShare, IsThere, drawn, names_of, rest_of}
use Rattle.members.proofs.ClerkLemmas.{HasShare-drawn, IsThere-drawn, names_of-drawn}
use Rattle.members.specs.Clusters.{ClusterState}
use Rattle.node.specs.Votes.{HoldsWithin, HoldsFewer, HoldsOnly}
use Rattle.members.specs.Members.{IsMember, MemberState, RefusesAsk}

-- Steps

of_ask : (x : ClientState) (q : List ℕ) (o : Outcome) → ask x q ≡ Ok o → step x (Asks q) ≡ Ok o
unfolding step
of_ask x q o e = e

of_take : (x : ClientState) (m : ToClient) (o : Outcome) → take x m ≡ o → step x (Takes m) ≡ Ok o
unfolding step
of_take x m o e = ap Ok e

of_leave : (x : ClientState) (o : Outcome) → leave x ≡ Ok o → step x Leaves ≡ Ok o
unfolding step
of_leave x o e = e

of_give_up : (x : ClientState) (o : Outcome) → give_up x ≡ Ok o → step x GivesUp ≡ Ok o
unfolding step
of_give_up x o e = e

-- who asks was idle and had a stamp left

pub Ok-not_Err : {A E : Type 0} (r : Result A E) (o : A) (e : E) → r ≡ Ok o → r ≡ Err e → ⊥
Ok-not_Err r o e ok err = cc

pub ask-Ok : (x : ClientState) (q : List ℕ) (o : Outcome) → ask x q ≡ Ok o → (is_idle x.phase ≡ true) × (is_spent x ≡ false)
ask-Ok x q o e = let k = asked-Ok x q o e in let left = k.1 in (k.0, grind (arith, nat_tests))

pub RefusesAsk-ticket : (m : MemberState) (e : DealFault) → (is_idle m.requester.phase ≡ true) × (is_spent m.requester ≡ false) → RefusesTicket (rest_of m.clerks m.clerks.side) e
    → RefusesAsk m (refuses.Deal e)
RefusesAsk-ticket m QuotaSpent start err = (start.0, start.1, err)
RefusesAsk-ticket m NoRoom start err = (start.0, start.1, err)

-- who does not leave is not inside, and who does not give up does not ask

refused_if : (b : Bool) (fault f : ClientFault) (o : Outcome) → unless (if b then None else Some fault) o ≡ Err f → b ≡ false
refused_if true fault f o e = absurd cc
refused_if false fault f o e = refl

pub leave-Err : (x : ClientState) (f : ClientFault) → leave x ≡ Err f → is_inside x.phase ≡ false
unfolding leave
leave-Err x f e = refused_if (is_inside x.phase) _ f _ e

pub give_up-Err : (x : ClientState) (f : ClientFault) → give_up x ≡ Err f → is_asking x.phase ≡ false
unfolding give_up
give_up-Err x f e = refused_if (is_asking x.phase) _ f _ e

-- What a client is once it took a message that names it
pub record Took (x : ClientState) (m : ToClient) (o : Outcome) : Type 0 where
  pub sound : IsSound o.state
  pub id : o.state.id ≡ x.id
  pub quorum : (members o.state ≡ members x) × (is_idle o.state.phase ≡ is_idle x.phase)
  pub sees : Sees x.phase o.seen o.state.phase
  pub stays : o.seen ≢ Left

pub Took-from_take : AreClientLaws → (board : BoardState) (x : ClientState) (m : ToClient) (o : Outcome) (id : ℕ) → IsSound x → IsMail board id m → id ≡ x.id → board.voters ≤ 64
    → take x m ≡ o → Took x m o
Took-from_take laws board x m o id sound mail is few e =
    let s = of_take x m o e in
    let accepts : (m.client ≡ x.id) × (m.voter < 64) = (mail.client_is ∙ is, omega (arith, mail.voter, few)) in
    let meets = laws.meets x (Takes m) o sound accepts s in
    let sees = meets.seen in
    record {
      sound = laws.sound x (Takes m) o sound accepts s;
      id = meets.id;
      quorum = (meets.quorum.0, meets.quorum.1);
      sees = sees;
      stays = λ left. let out = subst (λ seen. Sees x.phase seen o.state.phase) left sees in true≢false (sym (meets.quorum.2 out.0) ∙ out.1);
    }

-- What a client is once it left, or gave its request up
pub record Ended (x : ClientState) (o : Outcome) : Type 0 where
  pub sound : IsSound o.state
  pub id : o.state.id ≡ x.id
  pub quorum : members o.state ≡ members x
  pub idle : is_idle o.state.phase ≡ true
  pub nothing : HoldsNothing o.state

pub Ended-leave : AreClientLaws → (x : ClientState) (o : Outcome) → IsSound x → leave x ≡ Ok o → Ended x o
Ended-leave laws x o sound e =
    let s = of_leave x o e in
    let meets = laws.meets x Leaves o sound tt s in
    record { sound = laws.sound x Leaves o sound tt s; id = meets.id; quorum = meets.quorum.0; idle = meets.quorum.1; nothing = laws.left x o e }

pub Ended-give_up : AreClientLaws → (x : ClientState) (o : Outcome) → IsSound x → give_up x ≡ Ok o → Ended x o
Ended-give_up laws x o sound e =
    let s = of_give_up x o e in
    let meets = laws.meets x GivesUp o sound tt s in
    record { sound = laws.sound x GivesUp o sound tt s; id = meets.id; quorum = meets.quorum.0; idle = meets.quorum.1; nothing = laws.given_up x o e }

-- Votes

-- both hold nothing
no_votes : (xs ys : List ℕ) → length xs ≡ 64 → length ys ≡ 64 → ((v : ℕ) → slice_index xs v ≡ 0) → ((v : ℕ) → slice_index ys v ≡ 0) → xs ≡ ys
no_votes xs ys wide same_width empty none_held = same_number_lists xs ys (wide ∙ sym same_width) (λ k lt. empty k ∙ sym (none_held k))

pub HoldsWithin-nobody : (voters : ℕ) (held : List ℕ) → held ≡ nobody → HoldsWithin voters held
HoldsWithin-nobody voters held e = λ v some. absurd (some (ap (λ l. slice_index l v) e ∙ slice_index-replicate_zero 64 v))

pub HoldsFewer-HoldsNothing : (y : ClientState) (seat : List ℕ) → HoldsNothing y → HoldsFewer y.held seat
HoldsFewer-HoldsNothing y seat nothing = λ v. inr (nothing v)

-- a seat that holds the client's votes holds only votes of its quorum
pub HoldsOnly-same_votes : AreClientLaws → (x y : ClientState) (seat : List ℕ) → IsSound x → seat ≡ x.held → members y ≡ members x → HoldsOnly (members y) seat
HoldsOnly-same_votes laws x y seat sound same quorum =
    λ v out. ap (λ l. slice_index l v) same ∙ laws.of_members x sound v (ap (λ q. has q v) (sym quorum) ∙ out)

-- The member after a step of its client

next_member : (c : ClusterState) (x : ClientState) (seat : SeatState) (clerks : ClerksState) (side : Side) (quorum : ℕ) → IsMember c x seat clerks side quorum
    → (y : ClientState) → IsSound y → y.id ≡ x.id
    → (after : SeatState) → after.table ≡ seat.table → after.client ≡ seat.client → after.held ≡ y.held → HoldsWithin c.board.voters after.held
    → (later : ClerksState) → names_of later ≡ names_of clerks → HasShare later c.quota → IsThere later.side later.second
    → (plan : Side) (number : ℕ)
    → (is_idle y.phase ≡ false → HasQuorum c.board.firsts c.board.quorums plan number × (members y ≡ quorum_at c.board.quorums (place_of c.board.firsts plan number)))
    → IsMember c y after later plan number
next_member c x seat clerks side quorum r y sound id after table client held within later names share there plan number asks = record {
  sound = sound;
  client = id ∙ r.client ∙ sym client;
  inside = subst (λ n. n < c.board.clients) (sym client) r.inside;
  table = table ∙ r.table;
  offices = names ∙ r.offices;
  share = share;
  in_use = there;
  held = held;
  within = within;
  asks = asks;
}

module _ (c : ClusterState) (x : ClientState) (seat : SeatState) (clerks : ClerksState) (side : Side) (quorum : ℕ) (r : IsMember c x seat clerks side quorum) where
  -- its seat and a sound client have a place for each voter
  pub length-both_held : (y : ClientState) → IsSound y → (length seat.held ≡ 64) × (length y.held ≡ 64)
  length-both_held y sound = (ap length r.held ∙ r.sound.places.held, sound.places.held)

  -- it asked the quorum with this number of the plan in use, and the clerk of that plan keeps the
  -- receipt
  pub IsMember-asked : AreClientLaws → (q : List ℕ) (o : Outcome) → ask x q ≡ Ok o → IsSet q → 1 ≤ length q
      → (later : ClerksState) (receipt : Receipt) → later ≡ drawn clerks receipt → 0 < rest_of clerks clerks.side
      → (plan : Side) → HasQuorum c.board.firsts c.board.quorums plan receipt.quorum → q ≡ quorum_at c.board.quorums (place_of c.board.firsts plan receipt.quorum)
      → IsMember c o.state seat later plan receipt.quorum
  IsMember-asked laws q o e set some later receipt kept left plan in_range is =
      let s = of_ask x q o e in
      let sound = laws.sound x (Asks q) o r.sound (set, some) s in
      let meets = laws.meets x (Asks q) o r.sound (set, some) s in
      let held = r.held ∙ no_votes x.held o.state.held r.sound.places.held sound.places.held (laws.idle x r.sound (ask-Ok x q o e).0) (laws.asked x q o e) in
      next_member c x seat clerks side quorum r o.state sound meets.id seat refl refl held r.within
      later (ap names_of kept ∙ names_of-drawn clerks receipt)
      (subst (λ (k : ClerksState). HasShare k c.quota) (sym kept) (HasShare-drawn clerks receipt c.quota left r.share))
      (subst (λ (k : ClerksState). IsThere k.side k.second) (sym kept) (IsThere-drawn clerks receipt r.in_use))
      plan receipt.quorum (λ busy. (in_range, meets.quorum ∙ is))

  -- its client took a message
  pub IsMember-took : (m : ToClient) (o : Outcome) → Took x m o
      → (after : SeatState) → after.table ≡ seat.table → after.client ≡ seat.client → after.held ≡ o.state.held → HoldsWithin c.board.voters after.held
      → IsMember c o.state after clerks side quorum
  IsMember-took m o t after table client held within =
      next_member c x seat clerks side quorum r o.state t.sound t.id after table client held within clerks refl r.share r.in_use side quorum
      (λ busy. let asks = r.asks (sym t.quorum.1 ∙ busy) in (asks.0, t.quorum.0 ∙ asks.1))

  -- its client ended its request
  pub IsMember-ended : (o : Outcome) → Ended x o
      → (after : SeatState) → after.table ≡ seat.table → after.client ≡ seat.client → after.held ≡ o.state.held → HoldsWithin c.board.voters after.held
      → IsMember c o.state after clerks side quorum
  IsMember-ended o e after table client held within =
      next_member c x seat clerks side quorum r o.state e.sound e.id after table client held within clerks refl r.share r.in_use side quorum
      (λ busy. absurd (true≢false (sym e.idle ∙ busy)))

-- What is answered for a fault of the board

pub Board-injective : (r : Result ℕ ClusterFault) (a b : BoardFault) → r ≡ Err (refuses.Board a) → r ≡ Err (refuses.Board b) → a ≡ b
Board-injective r a b first second = cc

pub full_or_not : (r : Result ℕ BoardFault) (e : BoardFault) → r ≡ Err RegisterFull → r ≡ Err e → e ≡ OutOfMemory → ⊥
full_or_not r e full is other = cc

-- the voters of a world live on, and clients hold what they gave, whatever befalls
use Rattle.std.proofs.Common.{◌≡◌, ℕ, ◌<◌, ◌≤◌, Bool, true, false, List, [], ◌∷◌, ◌++◌, map, length, Some, Ok, refl, sym, ap, subst, ◌∙◌, ◌⊎◌, inl, inr, arith}
use Rattle.std.specs.Prelude.{◌==◌, ◌&&◌, nat_lt, replicate, slice_index, slice_set}
use Rattle.std.specs.FinMap as fin
use Rattle.std.specs.Ordering.{nat_cmp}
use Rattle.std.specs.List.{AllByRecursion}
use Rattle.std.proofs.lemmas.Option.{none-some, same_Some}
use Rattle.std.proofs.lemmas.Bool.Decides.{nat_tests}
use Rattle.std.proofs.lemmas.List.{append-nil, length-set}
use Rattle.numbers.proofs.Lists.{AllByRecursion-append, AllByRecursion-get, AllByRecursion-weaker, slice_index-replicate_zero}
use Rattle.message.specs.declared.message.ToVoter.{ToVoter}
use Rattle.message.specs.declared.message.ToClient.{ToClient}
use Rattle.message.specs.declared.message.Message.{Message}
use Rattle.message.specs.declared.message.Message.TheVariants as kinds
use Rattle.message.specs.declared.message.VoterBody.{VoterBody}
use Rattle.message.specs.declared.message.VoterBody.TheVariants as asks
use Rattle.message.specs.declared.message.ClientBody.{ClientBody}
use Rattle.message.specs.declared.message.ClientBody.TheVariants as to_client
use Rattle.voter.specs.declared.state.Grant.{Grant}
use Rattle.voter.specs.declared.state.VoterState.{VoterState}
use Rattle.voter.specs.Replies.{AllCarry, AllReportPlace, ReportsPlace, seen_after}
use Rattle.voter.specs.Saved.{least_voter}
use Rattle.voter.specs.Steps as voter
use Rattle.voter.specs.VoteMoves.{VoteMoves, GrantIsNew}
use Rattle.voter.specs.VoterContract.{AllReport, IsEntry, ReportsVote}
use Rattle.requester.specs.declared.state.ClientState.{ClientState}
use Rattle.requester.specs.RequesterContract.{Accepts, AllInRange, AllRepeat, AllSay, ComesInRange, IsLocked, IsReached, KeepsQuorum, RemindersInRange, SaysInRange}
use Rattle.requester.specs.Saved.{least_client}
use Rattle.voter.proofs.KeptLemmas as kept
use Rattle.voter.proofs.Soundness.{IsSound-counted}
use Rattle.requester.proofs.SavedLemmas.{least_is_sound}
use Rattle.requester.specs.Soundness as sound
use Rattle.requester.specs.Steps as client
use Rattle.requester.specs.Words.{holds_under, is_inside, members}
use Rattle.world.specs.Restarts.{Saved, begin}
use Rattle.world.specs.Runs.{start}
use Rattle.world_state.specs.Steps.{Dealing, client_at, say, voter_at}
use Rattle.world.specs.Visible.{AreQuorums, DealsFrom, IsAmong}
use Rattle.world.specs.Rules.{ClientLaws, VoterLaws}
use Rattle.world.proofs.Claims.{Bounds, put}
use Rattle.world.specs.Ranges.{IsWithin}
use Rattle.world.proofs.ClientMoves.{Draws, member_below}
use Rattle.world.proofs.Exclusion.{inside_busy}
use Rattle.world.proofs.IncidentLemmas.{AsksInRange, anew_sound, brought, counted, reborn_sound}
use Rattle.world.proofs.Places.{set_client, set_voter, voter_here, voter_others}
use Rattle.world.proofs.VoterMoves.{more_granted}
use Rattle.world.proofs.Reached.{RunPremises, are_quorums, new_voters, start_ok, start_unused, voter_new}
use Rattle.world.proofs.Restarts.{AreAll}
use Rattle.passes.specs.Grants.{Gave, IsGiven, Voters}
use Rattle.passes.specs.Grants as grants
use Rattle.voter_node.specs.Lives.{Fate, lived, said}
use Rattle.voter_node.specs.Nodes as nodes
use Rattle.leases.specs.WorldVoters.{IsNodeOf, said_by}
use Rattle.world.proofs.Befalling.{Acts, Arrives, IsOfWorld, Keeps, Known, Scene, befalls_keeps, client_turns, scene_of, voter_turns}
use Rattle.leases.proofs.LifeLemmas.{EventIsStep, LivesTo, clients_say, forgets, given_before, has_limit, is_reborn, is_saved, is_skipped, given_by, given_or, lives_saved, lives_silently, locked_is, node-append, others_say, put_at, reminds_step, restarts, said_all, said_there, says-append, says_more, takes_step}
use Rattle.world.specs.Incidents.{Incident, all_befall, anew, limited, skipped, befalls, reborn}

-- ---- what was given

abbrev pub grant_of : ℕ → ℕ → ℕ → Grant
grant_of c s g = record { client = c; stamp = s; grant = g }

-- what befell each voter by itself
abbrev pub VoterLives : Type 0
VoterLives = ℕ → List Fate

-- the voters with these lives
abbrev pub voters_of : Bounds → VoterLives → Voters
voters_of b G = record { limit = λ v. b.limit; life = G }

-- how many grants each voter has saved
abbrev pub count : List VoterState → ℕ → ℕ
count voters v = (voter_at voters v).granted

-- the voter gave the grant with this number to this client's request of this stamp
abbrev pub IsGrant : Bounds → VoterLives → ℕ → ℕ → ℕ → ℕ → Type 0
IsGrant b G v c s g = Gave (voters_of b G) v c s g × (v < b.voters)

abbrev pub IsNamedWithin : Bounds → (ℕ → ℕ) → ℕ → ClientBody → Type 0
IsNamedWithin b N v (to_client.Locked s g) = (g ≤ N v) × IsWithin b.limit s
IsNamedWithin b N v (to_client.Fail s) = Unit {0}
IsNamedWithin b N v (to_client.Inquire g) = g ≤ N v

-- a LOCKED or INQUIRE that was ever sent names a saved grant
abbrev pub ToldSaved : Bounds → (ℕ → ℕ) → Message → Type 0
ToldSaved b N (kinds.ToVoter m) = (m.client < b.clients) × (m.voter < b.voters) × AsksInRange b.limit m.body
ToldSaved b N (kinds.ToClient m) = (m.client < b.clients) × (m.voter < b.voters) × IsNamedWithin b N m.voter m.body

-- a client holds votes by grants to its request
pub record HoldsByGrants (b : Bounds) (G : VoterLives) (c : ℕ) (x : ClientState) : Type 0 where
  pub sound : sound.IsSound x
  pub quorum : (members x ≡ []) ⊎ IsAmong b.quorums (members x)
  pub id : c < b.clients → x.id ≡ c
  pub limit : c < b.clients → x.limit ≡ b.limit
  pub votes : (v g : ℕ) → holds_under x v g ≡ true → IsGrant b G v c x.stamp g

pub record SoundVoter (b : Bounds) (v : ℕ) (y : VoterState) : Type 0 where
  pub sound : voter.IsSound y
  pub id : v < b.voters → y.id ≡ v
  pub limit : y.limit ≤ b.limit
  pub entries : (c s : ℕ) → IsEntry y c s → (c < b.clients) × IsWithin b.limit s

-- of the grants that were given none has a greater number than the voter's current one
abbrev pub IsLatest : List ToClient → VoterState → Type 0
IsLatest rs y = (g : Grant) → y.held ≡ Some g → (c t n : ℕ) → IsGiven rs c t n → n ≤ g.grant

-- a voter, live and saved, after this life
pub record Beside (b : Bounds) (v : ℕ) (life : List Fate) (y z : VoterState) : Type 0 where
  pub node : v < b.voters → IsNodeOf y z (lived v b.limit life)
  pub live : IsLatest (said v b.limit life) y
  pub saved : IsLatest (said v b.limit life) z

-- the voters gave more, and what they gave before
abbrev pub Further : Bounds → VoterLives → VoterLives → Type 0
Further b G H = (v c t g : ℕ) → Gave (voters_of b G) v c t g → Gave (voters_of b H) v c t g

named_on : (b : Bounds) (N M : ℕ → ℕ) → ((v : ℕ) → N v ≤ M v) → (v : ℕ) (body : ClientBody) → IsNamedWithin b N v body → IsNamedWithin b M v body
named_on b N M f v (to_client.Locked s g) is = let few = is.0 in let more = f v in (omega arith, is.1)
named_on b N M f v (to_client.Fail s) is = tt
named_on b N M f v (to_client.Inquire g) is = (let more = f v in omega arith)

told_on : (b : Bounds) (N M : ℕ → ℕ) → ((v : ℕ) → N v ≤ M v) → (m : Message) → ToldSaved b N m → ToldSaved b M m
told_on b N M f (kinds.ToVoter m) is = is
told_on b N M f (kinds.ToClient m) is = (is.0, is.1, named_on b N M f m.voter m.body is.2)

pub knows_on : (b : Bounds) (G H : VoterLives) → Further b G H → (c : ℕ) (x : ClientState) → HoldsByGrants b G c x → HoldsByGrants b H c x
knows_on b G H f c x k = record {
  sound = k.sound;
  quorum = k.quorum;
  id = k.id;
  limit = k.limit;
  votes = λ v g is. let had = k.votes v g is in (f v c x.stamp g had.0, had.1);
}

-- ---- a client's step

abbrev CameNamed : Bounds → VoterLives → ℕ → client.Cause → Type 0
CameNamed b G c cause = (v s g : ℕ) → IsLocked cause v s g → IsGrant b G v c s g × IsWithin b.limit s

asked_on : (b : Bounds) (x y : ClientState) (cause : client.Cause) → Draws b cause → KeepsQuorum x cause y → (members x ≡ []) ⊎ IsAmong b.quorums (members x)
    → (members y ≡ []) ⊎ IsAmong b.quorums (members y)
asked_on b x y (client.Asks q) draws keeps was = inr (subst (λ (l : List ℕ). IsAmong b.quorums l) (sym keeps) draws)
asked_on b x y (client.Takes m) draws keeps was = subst (λ (l : List ℕ). (l ≡ []) ⊎ IsAmong b.quorums l) (sym keeps.0) was
asked_on b x y client.Leaves draws keeps was = subst (λ (l : List ℕ). (l ≡ []) ⊎ IsAmong b.quorums l) (sym keeps.0) was
asked_on b x y client.GivesUp draws keeps was = subst (λ (l : List ℕ). (l ≡ []) ⊎ IsAmong b.quorums l) (sym keeps.0) was

knows_after : ClientLaws → (b : Bounds) (G : VoterLives) (c : ℕ) (x : ClientState) (cause : client.Cause) (o : client.Outcome) → HoldsByGrants b G c x → Accepts x cause → Draws b cause
    → CameNamed b G c cause → client.step x cause ≡ Ok o → HoldsByGrants b G c o.state
knows_after laws b G c x cause o k accepts draws came is =
    let kept = laws.meets x cause o k.sound accepts is in
    record {
      sound = laws.stays x cause o k.sound accepts is;
      quorum = asked_on b x o.state cause draws kept.quorum k.quorum;
      id = λ within. kept.id ∙ k.id within;
      limit = λ within. kept.limit ∙ k.limit within;
      votes = λ v g has. elim (kept.held v g has) [
        | inl before ↦ subst (λ s. IsGrant b G v c s g) (sym before.1) (k.votes v g before.0)
        | inr comes ↦ (came v o.state.stamp g comes.0).0
      ];
    }

-- ---- what a voter says

named_by : (b : Bounds) (M : ℕ → ℕ) (v : ℕ) (z : VoterState) → SoundVoter b v z → z.granted ≤ M v → (c : ℕ) (body : ClientBody) → ReportsVote z.held c body → ReportsPlace z c body → IsNamedWithin b M v body
named_by b M v z votes most c (to_client.Locked s g) vote place =
    let number = votes.sound.numbered (grant_of c s g) vote in
    (omega arith, (votes.entries c s (inl (grant_of c s g, vote, refl, refl))).1)
named_by b M v z votes most c (to_client.Fail s) vote place = tt
named_by b M v z votes most c (to_client.Inquire g) vote place =
    let number = votes.sound.numbered place.0 place.1 in
    let same = place.3 in
    omega arith

replied_to : (b : Bounds) (v : ℕ) (z : VoterState) → SoundVoter b v z → (c : ℕ) (body : ClientBody) → ReportsVote z.held c body → ReportsPlace z c body → c < b.clients
replied_to b v z votes c (to_client.Locked s g) vote place = (votes.entries c s (inl (grant_of c s g, vote, refl, refl))).0
replied_to b v z votes c (to_client.Fail s) vote place = (votes.entries c s (inr place)).0
replied_to b v z votes c (to_client.Inquire g) vote place = subst (λ n. n < b.clients) place.2 (votes.entries place.0.client place.0.stamp (inl (place.0, place.1, refl, refl))).0

replies_told : (b : Bounds) (M : ℕ → ℕ) (v seen : ℕ) (z : VoterState) → v < b.voters → SoundVoter b v z → z.granted ≤ M v
    → (rs : List ToClient) → AllReport z.held rs → AllReportPlace z rs → AllCarry v seen rs → AllByRecursion (ToldSaved b M) (map kinds.ToClient rs)
replies_told b M v seen z within votes most [] report place carry = tt
replies_told b M v seen z within votes most (r ∷ rs) report place carry = (
  (
    replied_to b v z votes r.client r.body report.0 place.0,
    subst (λ n. n < b.voters) (sym carry.0.0) within,
    subst (λ n. IsNamedWithin b M n r.body) (sym carry.0.0) (named_by b M v z votes most r.client r.body report.0 place.0),
  ),
  replies_told b M v seen z within votes most rs report.1 place.1 carry.1,
)

reached : (b : Bounds) → AreQuorums b.voters b.quorums → (y : ClientState) (G : VoterLives) (c : ℕ) (cause : client.Cause) → CameNamed b G c cause
    → (members y ≡ []) ⊎ IsAmong b.quorums (members y) → (v : ℕ) → IsReached cause y v → v < b.voters
reached b are y G c cause came quorum v is = elim is [
  | inl member ↦ member_below b are y quorum v member
  | inr locked ↦ (came v locked.0 locked.1.0 locked.1.1).0.1
]

asks_range : (b : Bounds) (limit : ℕ) → limit ≡ b.limit → (body : VoterBody) → SaysInRange limit body → AsksInRange b.limit body
asks_range b limit is (asks.Request s) says = let most = says.1 in (says.0, omega arith)
asks_range b limit is (asks.Relinquish g) says = tt
asks_range b limit is (asks.Release s) says = tt

asks_told : (b : Bounds) → AreQuorums b.voters b.quorums → (G : VoterLives) (N : ℕ → ℕ) (c : ℕ) → c < b.clients → (x y : ClientState) (cause : client.Cause) → x.id ≡ c → y.limit ≡ b.limit
    → (members y ≡ []) ⊎ IsAmong b.quorums (members y) → CameNamed b G c cause → (out : List ToVoter) → AllSay x cause y out → AllInRange cause y out
    → AllByRecursion (ToldSaved b N) (map kinds.ToVoter out)
asks_told b are G N c within x y cause id limit quorum came [] say range = tt
asks_told b are G N c within x y cause id limit quorum came (m ∷ ms) say range = (
  (
    subst (λ n. n < b.clients) (sym (say.0.0 ∙ id)) within,
    reached b are y G c cause came quorum m.voter range.0.0,
    asks_range b y.limit limit m.body range.0.2,
  ),
  asks_told b are G N c within x y cause id limit quorum came ms say.1 range.1,
)

reminders_told : (b : Bounds) → AreQuorums b.voters b.quorums → (G : VoterLives) (N : ℕ → ℕ) (c : ℕ) → c < b.clients → (x : ClientState) → HoldsByGrants b G c x
    → (out : List ToVoter) → AllRepeat x out → RemindersInRange x out → AllByRecursion (ToldSaved b N) (map kinds.ToVoter out)
reminders_told b are G N c within x knows [] say range = tt
reminders_told b are G N c within x knows (m ∷ ms) say range = (
  (
    subst (λ n. n < b.clients) (sym (say.0.0 ∙ knows.id within)) within,
    member_below b are x knows.quorum m.voter range.0.0,
    asks_range b x.limit (knows.limit within) m.body range.0.2,
  ),
  reminders_told b are G N c within x knows ms say.1 range.1,
)

-- ---- the world

-- what holds of a world whose voters have these lives
pub record AreNumbered (b : Bounds) (G : VoterLives) (w : Scene) : Type 0 where
  pub sizes : AreAll b (length w.live.clients) (length w.live.voters) (length w.clients) (length w.voters)
  pub live_clients : (c : ℕ) → HoldsByGrants b G c (client_at w.live.clients c)
  pub clients : (c : ℕ) → HoldsByGrants b G c (client_at w.clients c)
  pub live_voters : (v : ℕ) → SoundVoter b v (voter_at w.live.voters v)
  pub voters : (v : ℕ) → SoundVoter b v (voter_at w.voters v)
  pub behind : (v : ℕ) → count w.voters v ≤ count w.live.voters v
  pub nodes : (v : ℕ) → Beside b v (G v) (voter_at w.live.voters v) (voter_at w.voters v)
  pub told : AllByRecursion (ToldSaved b (count w.voters)) w.live.sent
  pub says : (v : ℕ) → v < b.voters → said v b.limit (G v) ≡ said_by v w.live.sent

abbrev pub Numbered : Bounds → VoterLives → Saved → Type 0
Numbered b G s = AreNumbered b G (scene_of s)

-- it holds of this world with longer lives
pub record LivesGoOn (b : Bounds) (G : VoterLives) (w : Scene) : Type 0 where
  pub lives : VoterLives
  pub ok : AreNumbered b lives w
  pub further : Further b G lives

pub same_number : (n : ℕ) → n ≤ n
same_number n = omega arith

stays : (b : Bounds) (G : VoterLives) (w : Scene) → AreNumbered b G w → LivesGoOn b G w
stays b G w ok = record { lives = G; ok = ok; further = λ v c t g is. is }

then_on : (b : Bounds) (G : VoterLives) (w u : Scene) → (first : LivesGoOn b G w) → LivesGoOn b first.lives u → LivesGoOn b G u
then_on b G w u first second = record {
  lives = second.lives;
  ok = second.ok;
  further = λ v c t g is. second.further v c t g (first.further v c t g is);
}

told_of : (b : Bounds) (N : ℕ → ℕ) (m : Message) → ToldSaved b N m → IsOfWorld b m
told_of b N (kinds.ToVoter m) is = (is.0, is.1)
told_of b N (kinds.ToClient m) is = (is.0, is.1)

pub known_by : (b : Bounds) (G : VoterLives) (w : Scene) → AreNumbered b G w → Known b w
known_by b G w ok = record {
  sizes = ok.sizes;
  ids = λ c within. (ok.live_clients c).id within;
  limits = λ c within. (ok.live_clients c).limit within;
  sent = λ k m at. told_of b (count w.voters) m (AllByRecursion-get (ToldSaved b (count w.voters)) w.live.sent k m ok.told at);
}

-- ---- a client is in other states

-- a client has other states, live and saved, and says this
client_on : (b : Bounds) (G : VoterLives) (w : Scene) → AreNumbered b G w → (c : ℕ) (x y : ClientState) (ms : List ToVoter) → HoldsByGrants b G c x → HoldsByGrants b G c y → AllByRecursion (ToldSaved b (count w.voters)) (map kinds.ToVoter ms)
    → LivesGoOn b G (client_turns w c x y ms)
client_on b G w ok c x y ms live saved told = record {
  lives = G;
  ok = record {
    sizes = (length-set w.live.clients c x ∙ ok.sizes.0, ok.sizes.1, length-set w.clients c y ∙ ok.sizes.2, ok.sizes.3);
    live_clients = set_client (HoldsByGrants b G) w.live.clients c x live ok.live_clients;
    clients = set_client (HoldsByGrants b G) w.clients c y saved ok.clients;
    live_voters = ok.live_voters;
    voters = ok.voters;
    behind = ok.behind;
    nodes = ok.nodes;
    told = AllByRecursion-append (ToldSaved b (count w.voters)) w.live.sent (map kinds.ToVoter ms) ok.told told;
    says = λ v few. ok.says v few ∙ sym (clients_say v w.live.sent ms);
  };
  further = λ v c t g is. is;
}

-- a LOCKED that comes names a grant
came_named : (b : Bounds) (G : VoterLives) (w : Scene) → AreNumbered b G w → (c : ℕ) (cause : client.Cause) → Acts b w c cause → CameNamed b G c cause
came_named b G w ok c cause act v t g locks =
    let at = act.came v t g locks in
    let m : ToClient = record { voter = v; client = c; seen = at.1; body = to_client.Locked t g } in
    let told = AllByRecursion-get (ToldSaved b (count w.voters)) w.live.sent at.0 (kinds.ToClient m) ok.told at.2 in
    ((subst (λ (l : List ToClient). IsGiven l c t g) (sym (ok.says v told.1)) (said_there w.live.sent at.0 m t g at.2 (refl, refl)), told.1), told.2.1)

client_out : (b : Bounds) → RunPremises b → (G : VoterLives) (w : Scene) → AreNumbered b G w → (c : ℕ) (cause : client.Cause) (o : client.Outcome) → Acts b w c cause → client.step (client_at w.live.clients c) cause ≡ Ok o
    → HoldsByGrants b G c o.state × AllByRecursion (ToldSaved b (count w.voters)) (map kinds.ToVoter o.out)
client_out b given G w ok c cause o act is =
    let x = client_at w.live.clients c in
    let was = ok.live_clients c in
    let came = came_named b G w ok c cause act in
    let knows = knows_after given.client b G c x cause o was act.accepts act.draws came is in
    let comes : ComesInRange x.limit cause = λ v t g locks. subst (λ n. IsWithin n t) (sym (was.limit act.within)) (came v t g locks).1 in (
      knows,
      asks_told b (are_quorums b given.meet) G (count w.voters) c act.within x o.state cause (was.id act.within) (knows.limit act.within) knows.quorum came o.out
          (given.client.meets x cause o was.sound act.accepts is).out (given.client.ranges x cause o was.sound act.accepts comes is),
    )

pub nothing_held : (v g : ℕ) → (nat_lt 0 (slice_index (replicate 64 0) v) && (slice_index (replicate 64 0) v == g)) ≡ true → ⊥
nothing_held v g is = let none = slice_index-replicate_zero 64 v in grind (arith, nat_tests)

least_client_on : (b : Bounds) (G : VoterLives) (c : ℕ) (x : ClientState) → HoldsByGrants b G c x → HoldsByGrants b G c (least_client x)
least_client_on b G c x k = record { sound = least_is_sound x k.sound; quorum = inl refl; id = k.id; limit = k.limit; votes = λ v g is. absurd (nothing_held v g is) }

anew_knows : (b : Bounds) → RunPremises b → (G : VoterLives) (c : ℕ) (x : ClientState) (clock : ℕ) → HoldsByGrants b G c x → clock ≤ x.limit → HoldsByGrants b G c (anew x clock)
anew_knows b given G c x clock was most = record {
  sound = anew_sound b given x clock was.sound most;
  quorum = inl refl;
  id = was.id;
  limit = was.limit;
  votes = λ v g is. absurd (nothing_held v g is);
}

-- ---- a voter is in other states, as its node lives on

record VoterMovesOn (b : Bounds) (G : VoterLives) (w : Scene) (v : ℕ) (y z : VoterState) (rs : List ToClient) : Type 0 where
  live : SoundVoter b v y
  saved : SoundVoter b v z
  least : count w.voters v ≤ z.granted
  most : z.granted ≤ y.granted
  to : LivesTo (lived v b.limit (G v)) y z rs
  told : AllByRecursion (ToldSaved b (count (slice_set w.voters v z))) (map kinds.ToClient rs)
  own : AllByRecursion (λ r. r.voter ≡ v) rs
  latest : IsLatest (said v b.limit (G v) ++ rs) y × IsLatest (said v b.limit (G v) ++ rs) z

voter_on : (b : Bounds) (G : VoterLives) (w : Scene) → AreNumbered b G w → (v : ℕ) (y z : VoterState) (rs : List ToClient) → v < b.voters → VoterMovesOn b G w v y z rs → LivesGoOn b G (voter_turns w v y z rs)
voter_on b G w ok v y z rs within move =
    let N = count w.voters in
    let M = count (slice_set w.voters v z) in
    let least = move.least in
    let most = move.most in
    let fates = move.to.fates in
    let longer = G v ++ fates in
    let H : VoterLives = put G v longer in
    let first = λ (q : ℕ). nodes.node_of (voter.start q b.limit) in
    let live_here = voter_here w.live.voters v y (subst (λ k. v < k) (sym ok.sizes.1) within) in
    let saved_here = voter_here w.voters v z (subst (λ k. v < k) (sym ok.sizes.3) within) in
    let more : (q : ℕ) → N q ≤ M q = set_voter (λ q a. N q ≤ a.granted) w.voters v z least (λ q. same_number (N q)) in
    let f : Further b G H = λ q c t g is. put_at (λ (l : List Fate). IsGiven (said q b.limit l) c t g) G v longer q
    (λ same. subst (λ (l : List ToClient). IsGiven l c t g) (sym (says-append (first q) (G v) fates))
    (given_before (said q b.limit (G v)) _ c t g (subst (λ k. IsGiven (said q b.limit (G k)) c t g) same is)))
    (λ other. is) in
    let told = AllByRecursion-weaker (ToldSaved b N) (ToldSaved b M) (told_on b N M more) w.live.sent ok.told in
    let live : List VoterState = slice_set w.live.voters v y in
    let saved : List VoterState = slice_set w.voters v z in
    let says_longer : said v b.limit longer ≡ said v b.limit (G v) ++ rs = says-append (first v) (G v) fates ∙ ap (λ (l : List ToClient). said v b.limit (G v) ++ l) move.to.sent in
    let says = says_longer ∙ ap (λ (l : List ToClient). l ++ rs) (ok.says v within) ∙ sym (says_more v w.live.sent rs move.own) in
    let here : Beside b v longer (voter_at live v) (voter_at saved v) =
    subst (λ (a : VoterState). Beside b v longer a (voter_at saved v)) (sym live_here)
    (subst (λ (a : VoterState). Beside b v longer y a) (sym saved_here) (record {
      node = λ _. subst (λ (n : nodes.Node). IsNodeOf y z n) (sym (node-append (first v) (G v) fates)) move.to.is;
      live = subst (λ (l : List ToClient). IsLatest l y) (sym says_longer) move.latest.0;
      saved = subst (λ (l : List ToClient). IsLatest l z) (sym says_longer) move.latest.1;
    })) in
    record {
      lives = H;
      ok = record {
        sizes = (ok.sizes.0, length-set w.live.voters v y ∙ ok.sizes.1, ok.sizes.2, length-set w.voters v z ∙ ok.sizes.3);
        live_clients = λ c. knows_on b G H f c (client_at w.live.clients c) (ok.live_clients c);
        clients = λ c. knows_on b G H f c (client_at w.clients c) (ok.clients c);
        live_voters = set_voter (SoundVoter b) w.live.voters v y move.live ok.live_voters;
        voters = set_voter (SoundVoter b) w.voters v z move.saved ok.voters;
        behind = set_voter (λ q a. a.granted ≤ count live q) w.voters v z (let same = ap (λ (a : VoterState). a.granted) live_here in omega arith)
            (set_voter (λ q a. N q ≤ a.granted) w.live.voters v y (omega arith) ok.behind);
        nodes = λ q. put_at (λ (l : List Fate). Beside b q l (voter_at live q) (voter_at saved q)) G v longer q
            (λ same. subst (λ k. Beside b k longer (voter_at live k) (voter_at saved k)) (sym same) here)
            (λ other. subst (λ (a : VoterState). Beside b q (G q) a (voter_at saved q)) (sym (voter_others w.live.voters v y q other))
            (subst (λ (a : VoterState). Beside b q (G q) (voter_at w.live.voters q) a) (sym (voter_others w.voters v z q other)) (ok.nodes q)));
        told = AllByRecursion-append (ToldSaved b M) w.live.sent (map kinds.ToClient rs) told move.told;
        says = λ q few. put_at (λ (l : List Fate). said q b.limit l ≡ said_by q (w.live.sent ++ map kinds.ToClient rs)) G v longer q
            (λ same. subst (λ k. said k b.limit longer ≡ said_by k (w.live.sent ++ map kinds.ToClient rs)) (sym same) says)
            (λ other. ok.says q few ∙ sym (others_say q v w.live.sent rs other move.own));
      };
      further = f;
    }

-- it gives no more
still : (rs : List ToClient) (y : VoterState) → IsLatest rs y → IsLatest (rs ++ []) y
still rs y was = subst (λ (l : List ToClient). IsLatest l y) (sym (append-nil rs)) was

-- it says nothing
silent_voter_on : (b : Bounds) (G : VoterLives) (w : Scene) → AreNumbered b G w → (v : ℕ) (y z : VoterState) → v < b.voters → SoundVoter b v y → SoundVoter b v z → count w.voters v ≤ z.granted → z.granted ≤ y.granted
    → LivesTo (lived v b.limit (G v)) y z [] → IsLatest (said v b.limit (G v)) y → IsLatest (said v b.limit (G v)) z → LivesGoOn b G (voter_turns w v y z [])
silent_voter_on b G w ok v y z within live saved least most to latest latest_saved = voter_on b G w ok v y z [] within
    (record { live = live; saved = saved; least = least; most = most; to = to; told = tt; own = tt; latest = (still (said v b.limit (G v)) y latest, still (said v b.limit (G v)) z latest_saved) })

latest_new : (y z : VoterState) (rs : List ToClient) → GrantIsNew y z → ((c t n : ℕ) → IsGiven rs c t n → n ≤ y.granted) → IsLatest rs z
latest_new y z rs new few g is c t n given =
    let low = few c t n given in
    let number = new.number in
    let same : g.grant ≡ new.grant.grant = ap (λ (h : Grant). h.grant) (same_Some g new.grant (sym is ∙ new.held)) in
    omega arith

-- after a step the current grant is still the latest: it is the same, or has a new number
latest_after : (frees : Bool) (y z : VoterState) (rs : List ToClient) → VoteMoves frees y z → ((c t n : ℕ) → IsGiven rs c t n → n ≤ y.granted) → IsLatest rs y → IsLatest rs z
latest_after true y z rs (inl ends) few was g is = absurd (none-some g (sym ends.held ∙ is))
latest_after true y z rs (inr new) few was g is = latest_new y z rs new few g is
latest_after false y z rs (inl stays) few was g is = was g (sym stays.held ∙ is)
latest_after false y z rs (inr new) few was g is = latest_new y z rs new.1 few g is

-- what it says names the current grant alone
named_number : (z : VoterState) (g : Grant) → z.held ≡ Some g → (c : ℕ) (body : ClientBody) → ReportsVote z.held c body → (t n : ℕ) → grants.IsLockedFor body t n → n ≤ g.grant
named_number z g is c body vote t n locked =
    let named = subst (λ (x : ClientBody). ReportsVote z.held c x) (locked_is body t n locked) vote in
    let same : g.grant ≡ n = ap (λ (k : Grant). k.grant) (same_Some g (grant_of c t n) (sym is ∙ named)) in
    omega arith

latest_said : (z : VoterState) (ls rs : List ToClient) → IsLatest ls z → AllReport z.held rs → IsLatest (ls ++ rs) z
latest_said z ls rs was report g is c t n given = elim (given_or ls rs c t n given) [
  | inl before ↦ was g is c t n before
  | inr now ↦ let r = given_by (λ r. ReportsVote z.held r.client r.body) rs report c t n now in named_number z g is r.0.client r.0.body r.1 t n r.3
]

-- no voter gave a number above what it saved
pub given_within : (b : Bounds) (G : VoterLives) (w : Scene) → AreNumbered b G w → (v : ℕ) → v < b.voters → (c t n : ℕ) → IsGiven (said v b.limit (G v)) c t n → n ≤ count w.voters v
given_within b G w ok v within c t n given =
    let N = count w.voters in
    let r = given_by (λ r. ToldSaved b N (kinds.ToClient r) × (r.voter ≡ v)) (said_by v w.live.sent) (said_all v (ToldSaved b N) w.live.sent ok.told) c t n
    (subst (λ (l : List ToClient). IsGiven l c t n) (ok.says v within) given) in
    subst (λ k. n ≤ N k) r.1.1 (subst (λ (x : ClientBody). IsNamedWithin b N r.0.voter x) (locked_is r.0.body t n r.3) r.1.0.2).0

-- a voter lives on by this event
record LivesOn (b : Bounds) (G : VoterLives) (w : Scene) (v : ℕ) (e : nodes.Event) (o : voter.Outcome) : Type 0 where
  by : EventIsStep (voter_at w.live.voters v) e o
  votes : SoundVoter b v o.state
  more : count w.live.voters v ≤ o.state.granted
  latest : IsLatest (said v b.limit (G v)) o.state

-- it is saved, and says this
telling_voter_on : (b : Bounds) (G : VoterLives) (w : Scene) → AreNumbered b G w → (v seen : ℕ) → v < b.voters → (e : nodes.Event) (o : voter.Outcome) → LivesOn b G w v e o
    → AllReport o.state.held o.replies → AllReportPlace o.state o.replies → AllCarry v seen o.replies → LivesGoOn b G (voter_turns w v o.state o.state o.replies)
telling_voter_on b G w ok v seen within e o on report place carry =
    let here : count (slice_set w.voters v o.state) v ≡ o.state.granted = ap (λ (a : VoterState). a.granted) (voter_here w.voters v o.state (subst (λ k. v < k) (sym ok.sizes.3) within)) in
    let latest = latest_said o.state (said v b.limit (G v)) o.replies on.latest report in
    let behind = ok.behind v in
    let more = on.more in
    voter_on b G w ok v o.state o.state o.replies within (record {
      live = on.votes;
      saved = on.votes;
      least = omega arith;
      most = same_number o.state.granted;
      to = lives_saved (voter_at w.live.voters v) (voter_at w.voters v) (lived v b.limit (G v)) e o ((ok.nodes v).node within) on.by;
      told = replies_told b (count (slice_set w.voters v o.state)) v seen o.state within on.votes (omega arith) o.replies report place carry;
      own = AllByRecursion-weaker (λ r. (r.voter ≡ v) × (r.seen ≡ seen)) (λ r. r.voter ≡ v) (λ r is. is.0) o.replies carry;
      latest = (latest, latest);
    })

pub told_arrives : (b : Bounds) (G : VoterLives) (Made : ToVoter → Type 0) (w : Scene) → AreNumbered b G w → (m : ToVoter) → Arrives b Made w m → ToldSaved b (count w.voters) (kinds.ToVoter m)
told_arrives b G Made w ok m arrives = elim arrives.source [
  | inl sent ↦ AllByRecursion-get (ToldSaved b (count w.voters)) w.live.sent sent.0 (kinds.ToVoter m) ok.told sent.1
  | inr made ↦ (arrives.client, arrives.voter, made.1)
]

-- a voter takes a message
lives_on : VoterLaws → (b : Bounds) (G : VoterLives) (w : Scene) → AreNumbered b G w → (m : ToVoter) (o : voter.Outcome) → ToldSaved b (count w.voters) (kinds.ToVoter m) → voter.step (voter_at w.live.voters m.voter) m ≡ Some o
    → LivesOn b G w m.voter (nodes.Takes m) o
lives_on laws b G w ok m o told is =
    let v = m.voter in
    let y = voter_at w.live.voters v in
    let was = ok.live_voters v in
    let moves = laws.numbers y m o was.sound is in
    let carries = laws.carries y m o is in
    record {
      by = takes_step y m o is;
      votes = record {
        sound = laws.stays y m o was.sound is;
        id = λ few. carries.id ∙ was.id few;
        limit = (let same = carries.limit in let most = was.limit in omega arith);
        entries = λ c t e. elim ((laws.meets y m o is).entries c t e) [ inl old ↦ was.entries c t old | inr brings ↦ brought b m.client m.body told.0 told.2 c t brings ];
      };
      more = (more_granted (voter.effect_of y m).frees y o.state moves).0;
      latest = latest_after (voter.effect_of y m).frees y o.state (said v b.limit (G v)) moves
          (λ c t n given. let few = given_within b G w ok v told.1 c t n given in let behind = ok.behind v in omega arith) (ok.nodes v).live;
    }

-- ---- voters that forget, are reborn, or have other counts

least_voter_on : (b : Bounds) (v : ℕ) (y : VoterState) → SoundVoter b v y → SoundVoter b v (least_voter y)
least_voter_on b v y k = record {
  sound = kept.least_is_sound y k.sound;
  id = k.id;
  limit = k.limit;
  entries = λ c s is. elim is [ inl held ↦ k.entries c s (inl held) | inr waits ↦ absurd (none-some s (sym (fin.get-empty nat_cmp c) ∙ waits)) ];
}

reborn_votes : (b : Bounds) (v : ℕ) (y : VoterState) (above : ℕ) → SoundVoter b v y → above ≤ y.limit → SoundVoter b v (reborn y above)
reborn_votes b v y above was most = record {
  sound = reborn_sound y above was.sound most;
  id = was.id;
  limit = was.limit;
  entries = λ c s is. elim is [ inl held ↦ absurd (none-some held.0 held.1) | inr waits ↦ absurd (none-some s (sym (fin.get-empty nat_cmp c) ∙ waits)) ];
}

counted_votes : (b : Bounds) → RunPremises b → (v : ℕ) (y : VoterState) (granted limit : ℕ) → SoundVoter b v y → y.granted ≤ granted → granted ≤ limit → limit ≤ b.limit → SoundVoter b v (counted y granted limit)
counted_votes b given v y granted limit was more within most = record {
  sound = IsSound-counted y granted limit was.sound more within (let few = given.limits.few_stamps in omega arith);
  id = was.id;
  limit = most;
  entries = was.entries;
}

-- ---- what befalls

numbered_keeps : (b : Bounds) → RunPremises b → (G : VoterLives) (w : Scene) → AreNumbered b G w → Keeps b (λ m. Unit {0}) w (LivesGoOn b G)
numbered_keeps b given G w ok =
    let X = λ (c : ℕ). client_at w.live.clients c in
    let Y = λ (v : ℕ). voter_at w.live.voters v in
    let Z = λ (v : ℕ). voter_at w.voters v in
    let life = λ (v : ℕ). lived v b.limit (G v) in
    let few = given.limits.few_stamps in
    record {
      known = known_by b G w ok;
      stays = stays b G w ok;
      client_rests = λ c cause o act is seen. client_on b G w ok c o.state (client_at w.clients c) [] (client_out b given G w ok c cause o act is).0 (ok.clients c) tt;
      client_speaks = λ c cause o act is. let out = client_out b given G w ok c cause o act is in client_on b G w ok c o.state o.state o.out out.0 out.0 out.1;
      client_reminds = λ c within.
          let was = ok.live_clients c in
          client_on b G w ok c (X c) (X c) (client.remind (X c)) was was
          (reminders_told b (are_quorums b given.meet) G (count w.voters) c within (X c) was (client.remind (X c)) (given.client.repeats (X c)) (given.client.reminders (X c) was.sound));
      client_saves = λ c within. client_on b G w ok c (X c) (X c) [] (ok.live_clients c) (ok.live_clients c) tt;
      client_forgets = λ c within. client_on b G w ok c (X c) (least_client (client_at w.clients c)) [] (ok.live_clients c) (least_client_on b G c (client_at w.clients c) (ok.clients c)) tt;
      client_restarts = λ c within. client_on b G w ok c (client_at w.clients c) (client_at w.clients c) [] (ok.clients c) (ok.clients c) tt;
      client_anew = λ c clock within least most. let knows = anew_knows b given G c (X c) clock (ok.live_clients c) most in client_on b G w ok c (anew (X c) clock) (anew (X c) clock) [] knows knows tt;
      voter_rests = λ m o arrives is none.
          let v = m.voter in
          let on = lives_on given.voter b G w ok m o (told_arrives b G (λ m. Unit {0}) w ok m arrives) is in
          silent_voter_on b G w ok v o.state (Z v) arrives.voter on.votes (ok.voters v) (same_number (Z v).granted) (let behind = ok.behind v in let more = on.more in omega arith)
          (lives_silently (Y v) (Z v) (life v) (nodes.Takes m) o ((ok.nodes v).node arrives.voter) on.by none) on.latest (ok.nodes v).saved;
      voter_speaks = λ m o arrives is.
          let v = m.voter in
          let y = Y v in
          let sound = (ok.live_voters v).sound in
          telling_voter_on b G w ok v (seen_after y.seen m.body) arrives.voter (nodes.Takes m) o (lives_on given.voter b G w ok m o (told_arrives b G (λ m. Unit {0}) w ok m arrives) is)
          (given.voter.meets y m o is).heard (given.voter.answers y m o sound is).place
          (subst (λ k. AllCarry k (seen_after y.seen m.body) o.replies) ((ok.live_voters v).id arrives.voter) (given.voter.carries y m o is).carried);
      voter_reminds = λ v within.
          let y = Y v in
          telling_voter_on b G w ok v y.seen within nodes.Reminds (record { replies = voter.remind y; state = y }) (record { by = reminds_step y; votes = ok.live_voters v; more = same_number y.granted; latest = (ok.nodes v).live })
          (given.voter.reminds y) (given.voter.places y) (subst (λ k. AllCarry k y.seen (voter.remind y)) ((ok.live_voters v).id within) (given.voter.remembers y));
      voter_saves = λ v within. silent_voter_on b G w ok v (Y v) (Y v) within (ok.live_voters v) (ok.live_voters v) (ok.behind v) (same_number (Y v).granted)
          (is_saved (Y v) (Z v) (life v) ((ok.nodes v).node within)) (ok.nodes v).live (ok.nodes v).live;
      voter_forgets = λ v within. silent_voter_on b G w ok v (Y v) (least_voter (Z v)) within (ok.live_voters v) (least_voter_on b v (Z v) (ok.voters v)) (same_number (Z v).granted) (ok.behind v)
          (forgets (Y v) (Z v) (life v) ((ok.nodes v).node within)) (ok.nodes v).live (ok.nodes v).saved;
      voter_restarts = λ v within. silent_voter_on b G w ok v (Z v) (Z v) within (ok.voters v) (ok.voters v) (same_number (Z v).granted) (same_number (Z v).granted)
          (restarts (Y v) (Z v) (life v) ((ok.nodes v).node within)) (ok.nodes v).saved (ok.nodes v).saved;
      voter_reborn = λ v above within least most.
          let was = ok.live_voters v in
          let votes = reborn_votes b v (Y v) above was most in
          let behind = ok.behind v in
          silent_voter_on b G w ok v (reborn (Y v) above) (reborn (Y v) above) within votes votes (omega arith) (same_number above)
          (is_reborn (Y v) (Z v) (life v) above ((ok.nodes v).node within) (was.id within ∙ sym ((ok.voters v).id within)) (omega arith) most was.sound.limit)
          (λ g held. absurd (none-some g held)) (λ g held. absurd (none-some g held));
      voter_limited = λ v limit within least most. silent_voter_on b G w ok v (limited (Y v) limit) (Z v) within
          (counted_votes b given v (Y v) (Y v).granted limit (ok.live_voters v) (same_number (Y v).granted) least most) (ok.voters v) (same_number (Z v).granted) (ok.behind v)
          (has_limit (Y v) (Z v) (life v) limit ((ok.nodes v).node within) least (omega arith)) (ok.nodes v).live (ok.nodes v).saved;
      voter_skipped = λ v above within least most. silent_voter_on b G w ok v (skipped (Y v) above) (Z v) within
          (counted_votes b given v (Y v) above (Y v).limit (ok.live_voters v) least most (ok.live_voters v).limit) (ok.voters v) (same_number (Z v).granted) (let behind = ok.behind v in omega arith)
          (is_skipped (Y v) (Z v) (life v) above ((ok.nodes v).node within) least most) (ok.nodes v).live (ok.nodes v).saved;
    }

pub befalls_on : (b : Bounds) → RunPremises b → (deal : Dealing) → DealsFrom b.quorums deal → (G : VoterLives) (s : Saved) → Numbered b G s → (i : Incident) → LivesGoOn b G (scene_of (befalls deal s i))
befalls_on b given deal deals G s ok i =
    befalls_keeps b given deal deals (λ m. Unit {0}) s (LivesGoOn b G) (numbered_keeps b given G (scene_of s) ok) i (λ m e. tt)

pub all_on : (b : Bounds) → RunPremises b → (deal : Dealing) → DealsFrom b.quorums deal → (G : VoterLives) (s : Saved) → Numbered b G s → (is : List Incident) → LivesGoOn b G (scene_of (all_befall deal is s))
all_on b given deal deals G s ok [] = stays b G (scene_of s) ok
all_on b given deal deals G s ok (i ∷ is) =
    let first = befalls_on b given deal deals G s ok i in
    then_on b G (scene_of (befalls deal s i)) (scene_of (all_befall deal is (befalls deal s i))) first (all_on b given deal deals first.lives (befalls deal s i) first.ok is)

-- ---- the first world

abbrev pub newborn : VoterLives
newborn v = []

pub begin_on : (b : Bounds) → RunPremises b → Numbered b newborn (begin b.voters b.clients b.limit)
unfolding new_voters
begin_on b given =
    let w = start b.voters b.clients b.limit in
    let ok = start_ok b given in
    let world = ok.world in
    let knows : (c : ℕ) → HoldsByGrants b newborn c (client_at w.clients c) = λ c. record {
      sound = (world.clients c).sound;
      quorum = (world.clients c).quorum;
      id = λ within. (world.client_ids c within).id;
      limit = λ within. (world.client_ids c within).limit;
      votes = λ v g is. absurd (none-some _ (sym (start_unused b given v).held ∙ world.held c v g is));
    } in
    let votes : (v : ℕ) → SoundVoter b v (voter_at w.voters v) = λ v. record {
      sound = (world.voters v).sound;
      id = world.voter_ids v;
      limit = (world.voters v).limit;
      entries = λ c s is. let e = (world.voters v).entries c s is in (e.client, e.stamp);
    } in
    record {
      sizes = (ok.clients, ok.voters, ok.clients, ok.voters);
      live_clients = knows;
      clients = knows;
      live_voters = votes;
      voters = votes;
      behind = λ v. same_number (count w.voters v);
      nodes = λ v. record {
        node = λ few. let new = voter_new b.voters b.limit v few in record { live = sym new; saved = inl new; none_wait = refl };
        live = λ g held c t n given. absurd given;
        saved = λ g held c t n given. absurd given;
      };
      told = tt;
      says = λ v few. refl;
    }

-- ---- two passes

pub among_of : (b : Bounds) (G : VoterLives) (c : ℕ) (x : ClientState) → HoldsByGrants b G c x → is_inside x.phase ≡ true → IsAmong b.quorums (members x)
among_of b G c x k inside = elim k.quorum [
  | inl none ↦ let some = k.sound.asked (inside_busy x.phase inside) in let len = ap (λ (q : List ℕ). length q) none in absurd (omega arith)
  | inr among ↦ among
]

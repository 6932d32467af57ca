-- what every run rests on, and the world that it begins with
use Rattle.std.proofs.Common.{◌≡◌, ℕ, ◌<◌, ◌≤◌, ◌^◌, true, false, List, [], ◌∷◌, map, length, None, refl, sym, ap, subst, ◌∙◌, inl, inr, arith}
use Rattle.std.specs.Prelude.{slice_index_or}
use Rattle.std.specs.List.{range_with_len}
use Rattle.std.specs.FinMap as fin
use Rattle.std.specs.Ordering.{nat_cmp}
use Rattle.std.proofs.lemmas.Bool.{false≢true, cases_lt}
use Rattle.std.proofs.lemmas.Bool.Decides.{nat_tests}
use Rattle.std.proofs.lemmas.Option.{none-some}
use Rattle.std.proofs.lemmas.List.{get_or_default, get_or_past}
use Rattle.std.proofs.lemmas.List.FromFn.{get_or-map-range_with_len, length-map-range_with_len}
use Rattle.numbers.proofs.Lists.{slice_index-replicate_zero}
use Rattle.numbers.specs.Sets.{has, IsSet}
use Rattle.message.specs.declared.message.ClientBody.{ClientBody}
use Rattle.message.specs.declared.message.ClientBody.TheVariants as to_client
use Rattle.voter.specs.declared.state.VoterState.{VoterState}
use Rattle.voter.specs.VoterContract.{IsEntry}
use Rattle.voter.specs.Steps as voter
use Rattle.requester.specs.declared.state.ClientState.{ClientState}
use Rattle.requester.specs.RequesterContract.{IsLive, Locks}
use Rattle.requester.specs.Steps as client
use Rattle.requester.specs.Words.{is_inside, held_of, holds_under, last_of}
use Rattle.world.specs.Ranges.{IsWithin, ReportsWithin}
use Rattle.world.specs.Runs.{AreLimits, start}
use Rattle.world_state.specs.Steps.{WorldState, client_at, voter_at}
use Rattle.world.specs.Visible.{AreQuorums, DoMeet, IsAmong}
use Rattle.world.specs.Rules.{ClientLaws, VoterLaws}
use Rattle.world.proofs.Claims.{Bounds, Names, ReportOk, ClientOk, IsClient, VoterOk, WorldOk}
use Rattle.world.proofs.Exclusion.{Walked}

-- what a proof of runs rests on
pub record RunPremises (b : Bounds) : Type 0 where
  pub client : ClientLaws
  pub voter : VoterLaws
  pub limits : AreLimits b.voters b.clients b.limit
  pub meet : DoMeet b.voters b.quorums

-- the same, where two quorums need not meet
pub record Grounds (b : Bounds) : Type 0 where
  pub client : ClientLaws
  pub voter : VoterLaws
  pub limits : AreLimits b.voters b.clients b.limit
  pub quorums : AreQuorums b.voters b.quorums

pub record RunOk (b : Bounds) (w : WorldState) : Type 0 where
  pub clients : length w.clients ≡ b.clients
  pub voters : length w.voters ≡ b.voters
  pub world : WorldOk b (client_at w.clients) (voter_at w.voters) w.sent
  pub walked : Walked w.visible (client_at w.clients)

-- ---- what a step rests on

not_empty : (q : List ℕ) (v : ℕ) → has q v ≡ true → 1 ≤ length q
not_empty [] v is = absurd (false≢true is)
not_empty (x ∷ xs) v is = omega arith

-- each has a common member with itself
pub are_quorums : (b : Bounds) → DoMeet b.voters b.quorums → AreQuorums b.voters b.quorums
are_quorums b meet = record {
  sets = meet.sets;
  in_range = meet.in_range;
  some = λ j d within.
      let self = meet.meets j j within within in
      subst (λ (q : List ℕ). 1 ≤ length q) (get_or_default b.quorums j [] d within) (not_empty (slice_index_or b.quorums j []) self.0 self.2);
}

pub grounds : (b : Bounds) → RunPremises b → Grounds b
grounds b given = record { client = given.client; voter = given.voter; limits = given.limits; quorums = are_quorums b given.meet }

pub one_accepted : (b : Bounds) → AreQuorums b.voters b.quorums → (q : List ℕ) → IsAmong b.quorums q → IsSet q × (1 ≤ length q)
one_accepted b are q among =
    subst (λ (s : List ℕ). IsSet s × (1 ≤ length s)) (sym among.2) (are.sets among.0 [] among.1, are.some among.0 [] among.1)

pub accepts_among : (b : Bounds) → DoMeet b.voters b.quorums → (q : List ℕ) → IsAmong b.quorums q → IsSet q × (1 ≤ length q)
accepts_among b meet = one_accepted b (are_quorums b meet)

pub came_by : (b : Bounds) (x : ClientState) (Y : ℕ → VoterState) (sender c : ℕ) (body : ClientBody) → sender < b.voters → ReportsWithin b.limit body → ReportOk x (Y sender).held sender c body
    → (v s g : ℕ) → Locks sender body v s g → (v < b.voters) × IsWithin b.limit s × (s ≤ x.stamp) × (IsLive x v s g → Names (Y v).held c s g)
came_by b x Y sender c (to_client.Locked stamp grant) within numbers ok v s g locks = (
  subst (λ n. n < b.voters) (sym locks.0) within,
  subst (λ n. IsWithin b.limit n) (sym locks.1) numbers.0,
  subst (λ n. n ≤ x.stamp) (sym locks.1) ok.0,
  subst (λ n. IsLive x n s g → Names (Y n).held c s g) (sym locks.0)
      (subst (λ n. IsLive x sender n g → Names (Y sender).held c n g) (sym locks.1)
      (subst (λ n. IsLive x sender stamp n → Names (Y sender).held c stamp n) (sym locks.2) ok.1)),
)
came_by b x Y sender c (to_client.Fail stamp) within numbers ok v s g locks = absurd locks
came_by b x Y sender c (to_client.Inquire grant) within numbers ok v s g locks = absurd locks

-- ---- the first world

-- a client that did nothing
record Fresh (b : Bounds) (x : ClientState) : Type 0 where
  ok : ClientOk b x
  idle : is_inside x.phase ≡ false
  held : (v : ℕ) → held_of x v ≡ 0
  last : (v : ℕ) → last_of x v ≡ 0

Fresh-start : (b : Bounds) → Grounds b → (id limit : ℕ) → id < 64 → 1 ≤ limit → limit ≤ 2 ^ 62 → Fresh b (client.start id limit)
Fresh-start b given id limit few least most = record {
  ok = record { sound = given.client.first id limit few least most; quorum = inl refl };
  idle = refl;
  held = λ v. slice_index-replicate_zero 64 v;
  last = λ v. slice_index-replicate_zero 64 v;
}

-- a voter that received nothing
pub record Unused (b : Bounds) (y : VoterState) : Type 0 where
  pub sound : voter.IsSound y
  pub held : y.held ≡ None
  pub waiting : (c : ℕ) → fin.get y.waiting c ≡ None
  pub limit : y.limit ≤ b.limit
  pub seen : y.seen ≤ b.limit

Unused-start : (b : Bounds) → Grounds b → (id limit : ℕ) → limit ≤ 2 ^ 62 → limit ≤ b.limit → Unused b (voter.start id limit)
Unused-start b given id limit most below = record {
  sound = given.voter.first id limit most;
  held = refl;
  waiting = λ c. fin.get-empty nat_cmp c;
  limit = below;
  seen = omega arith;
}

none_entry : (b : Bounds) (y : VoterState) → Unused b y → (c s : ℕ) → IsEntry y c s → ⊥
none_entry b y un c s is = elim is [
  | inl held ↦ none-some held.0 (sym un.held ∙ held.1)
  | inr waits ↦ none-some s (sym (un.waiting c) ∙ waits)
]

unused_ok : (b : Bounds) (X : ℕ → ClientState) (y : VoterState) → Unused b y → VoterOk b X y
unused_ok b X y un = record {
  sound = un.sound;
  entries = λ c s is. absurd (none_entry b y un c s is);
  numbered = λ g is. absurd (none-some g (sym un.held ∙ is));
  limit = un.limit;
  seen = un.seen;
}

unfoldable pub new_clients : ℕ → ℕ → List ClientState
new_clients n limit = map (λ c. client.start c limit) (range_with_len 0 n)

unfoldable pub new_voters : ℕ → ℕ → List VoterState
new_voters n limit = map (λ v. voter.start v limit) (range_with_len 0 n)

pub client_new : (n limit c : ℕ) → c < n → client_at (new_clients n limit) c ≡ client.start c limit
unfolding client_at new_clients
client_new n limit c within = get_or-map-range_with_len (λ i. client.start i limit) 0 n c c (client.start 0 1) within (omega arith)

pub client_past : (n limit c : ℕ) → n ≤ c → client_at (new_clients n limit) c ≡ client.start 0 1
unfolding client_at new_clients
client_past n limit c beyond = get_or_past (new_clients n limit) c (client.start 0 1) (let len = length-map-range_with_len (λ i. client.start i limit) 0 n in omega arith)

pub voter_new : (n limit v : ℕ) → v < n → voter_at (new_voters n limit) v ≡ voter.start v limit
unfolding voter_at new_voters
voter_new n limit v within = get_or-map-range_with_len (λ i. voter.start i limit) 0 n v v (voter.start 0 1) within (omega arith)

pub voter_past : (n limit v : ℕ) → n ≤ v → voter_at (new_voters n limit) v ≡ voter.start 0 1
unfolding voter_at new_voters
voter_past n limit v beyond = get_or_past (new_voters n limit) v (voter.start 0 1) (let len = length-map-range_with_len (λ i. voter.start i limit) 0 n in omega arith)

fresh_at : (b : Bounds) → Grounds b → (c : ℕ) → Fresh b (client_at (new_clients b.clients b.limit) c)
fresh_at b given c =
    let few = given.limits.few_clients in
    elim (cases_lt c b.clients) [
      | inl within ↦ subst (λ (x : ClientState). Fresh b x) (sym (client_new b.clients b.limit c within)) (Fresh-start b given c b.limit (omega arith) given.limits.some_stamp given.limits.few_stamps)
      | inr beyond ↦ subst (λ (x : ClientState). Fresh b x) (sym (client_past b.clients b.limit c beyond)) (Fresh-start b given 0 1 (omega arith) (omega arith) (omega arith))
    ]

unused_at : (b : Bounds) → Grounds b → (v : ℕ) → Unused b (voter_at (new_voters b.voters b.limit) v)
unused_at b given v = elim (cases_lt v b.voters) [
  | inl within ↦ subst (λ (y : VoterState). Unused b y) (sym (voter_new b.voters b.limit v within)) (Unused-start b given v b.limit given.limits.few_stamps (omega arith))
  | inr beyond ↦ subst (λ (y : VoterState). Unused b y) (sym (voter_past b.voters b.limit v beyond)) (Unused-start b given 0 1 (omega arith) given.limits.some_stamp)
]

-- no voter of the first world received anything
pub start_unused : (b : Bounds) → RunPremises b → (v : ℕ) → Unused b (voter_at (start b.voters b.clients b.limit).voters v)
unfolding new_voters
start_unused b given v = unused_at b (grounds b given) v

none_held : (x : ClientState) (v g : ℕ) → held_of x v ≡ 0 → holds_under x v g ≡ true → ⊥
none_held x v g none is = grind (arith, nat_tests)

pub first_ok : (b : Bounds) → Grounds b → RunOk b (start b.voters b.clients b.limit)
unfolding new_clients new_voters
first_ok b given = record {
  clients = length-map-range_with_len (λ c. client.start c b.limit) 0 b.clients;
  voters = length-map-range_with_len (λ v. voter.start v b.limit) 0 b.voters;
  world = record {
    messages = tt;
    ranges = tt;
    held = λ c v g is. absurd (none_held (client_at (new_clients b.clients b.limit) c) v g ((fresh_at b given c).held v) is);
    last = λ c v. (let none = (fresh_at b given c).last v in omega arith);
    clients = λ c. (fresh_at b given c).ok;
    voters = λ v. unused_ok b (client_at (new_clients b.clients b.limit)) (voter_at (new_voters b.voters b.limit) v) (unused_at b given v);
    client_ids = λ c within. subst (λ (x : ClientState). IsClient c b.limit x) (sym (client_new b.clients b.limit c within)) (record { id = refl; limit = refl });
    voter_ids = λ v within. ap (λ (y : VoterState). y.id) (voter_new b.voters b.limit v within);
  };
  walked = record { list = tt; inside = λ c. (fresh_at b given c).idle };
}

pub start_ok : (b : Bounds) → RunPremises b → RunOk b (start b.voters b.clients b.limit)
start_ok b given = first_ok b (grounds b given)

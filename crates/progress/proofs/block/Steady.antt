-- what a stretch does to the votes of some clients that ask all along: the voter's reminder shows a client
use Rattle.std.proofs.Common.{◌≡◌, ℕ, ◌+◌, ◌<◌, ◌≤◌, true, false, List, [], ◌∷◌, length, Some, Ok, refl, sym, ap, subst, ◌∙◌, ◌⊎◌, inl, inr, arith, Bool}
use Rattle.std.specs.Prelude.{◌&&◌, nat_lt, slice_get, slice_index, slice_set, ◌||◌}
use Rattle.std.specs.List.{Contains, list_any}
use Rattle.std.proofs.lemmas.Bool.{cases_eq, cases_lt, false≢true, false_from_ne_true}
use Rattle.std.proofs.lemmas.Bool.Decides.{nat_tests}
use Rattle.std.proofs.lemmas.List.{get_or-set_same}
use Rattle.std.proofs.lemmas.Option.{same_Some}
use Rattle.numbers.specs.Sets.{has}
-- its vote and marks it, and the client's own reminder gives it back. Others may ask, enter and give up.
use Rattle.message.specs.declared.message.ClientBody.TheVariants as to_client
use Rattle.message.specs.declared.message.Message.{Message}
use Rattle.message.specs.declared.message.Message.TheVariants as kinds
use Rattle.message.specs.declared.message.ToClient.{ToClient}
use Rattle.message.specs.declared.message.ToVoter.{ToVoter}
use Rattle.message.specs.declared.message.VoterBody.TheVariants as asks
use Rattle.voter.specs.declared.state.Grant.{Grant}
use Rattle.voter.specs.declared.state.VoterState.{VoterState}
use Rattle.voter.specs.Steps as voter
use Rattle.voter.specs.VoterContract.{IsEntry}
use Rattle.requester.specs.declared.state.ClientState.{ClientState}
use Rattle.requester.specs.RequesterContract.{KeepsQuorum}
use Rattle.requester.specs.Steps as requester
use Rattle.requester.specs.Votes.{AsksFor, VoteFate}
use Rattle.requester.specs.Words.{holds, is_asking, is_current, is_hindered, is_idle, is_inquired, is_member, last_of, held_of, members, is_relinquished, is_failed}
use Rattle.requester.proofs.SoundSteps.{is_asking-busy}
use Rattle.requester.proofs.Messages.{VoteFate-take}
use Rattle.requester.proofs.VoteLemmas.{HoldsBesides-take}
use Rattle.world.specs.Coherence.{IsCoherent}
use Rattle.world_state.specs.declared.step.Step.{Step}
use Rattle.world_state.specs.declared.step.Step.TheVariants.{Deliver, RemindClient, RemindVoter}
use Rattle.world_state.specs.Steps.{WorldState, client_at, voter_at}
use Rattle.progress.specs.Rules.{Laws}
use Rattle.progress.proofs.run.Along.{Reminded, between_from, between_to, next, spot_after, spot_before, spot_end, spot_through}
use Rattle.progress.proofs.run.Arrivals.{client_takes, message_stays, reminds_first, reminds_second, replied, says, voter_takes}
use Rattle.progress.proofs.overtaking.Behind.{ask-Ok, meets}
use Rattle.progress.proofs.run.Exchanges.{not_held}
use Rattle.progress.proofs.invariants.Fitting.{current_is, held_grant, held_some, own_stamp, take-Ok}
use Rattle.progress.proofs.invariants.Inquiries.{again_fails, again_locks, replies_again}
use Rattle.progress.proofs.block.Known.{HoldsDown, asks_for, request_to, within_by}
use Rattle.progress.proofs.run.Lists.{all_hold}
use Rattle.progress.proofs.run.Moves.{Came, ClientMoved, Moved-by, MovedBy}
use Rattle.progress.proofs.losses.Lasting.{RunsOn, SameAsk}
use Rattle.progress.proofs.invariants.Sure.{Course, IsSure, LiveServe, live_by}

-- ---- grants

-- the grant has the vote
abbrev pub GrantHasVote : ℕ → Grant → WorldState → Type 0
GrantHasVote v g x = (voter_at x.voters v).held ≡ Some g

-- LOCKED of the voter v to the client d
abbrev pub locked_to : ℕ → ℕ → ℕ → ℕ → ℕ → ToClient
locked_to v d seen stamp grant = record { voter = v; client = d; seen = seen; body = to_client.Locked stamp grant }

-- the RELEASE of a request of the client d to the voter v
abbrev pub release_to : ℕ → ℕ → ℕ → ToVoter
release_to d v s = record { client = d; voter = v; body = asks.Release s }

-- ---- stages

-- what a message does to a vote, if the client is b afterwards
abbrev pub GrantFate : ToClient → ClientState → ClientState → ℕ → Type 0
GrantFate t a b v = VoteFate t a (record { out = (requester.take a t).out; seen = (requester.take a t).seen; state = b }) v

-- S is kept by each message that a client takes
abbrev pub IsLasting : ℕ → (ClientState → Grant → Type 0) → Type 0
IsLasting v S = (t : ToClient) (a b : ClientState) (g : Grant) → (holds a v ≡ true → g.grant ≡ held_of a v) → GrantFate t a b v → S a g → S b g

-- the stages: the client knows of the grant; it has a mark; it gave the grant back; the grant is settled
abbrev pub KnowsGrant : ℕ → ClientState → Grant → Type 0
KnowsGrant v x g = (g.grant ≤ last_of x v) ⊎ (holds x v ≡ true)

abbrev pub Marked : ℕ → ClientState → Grant → Type 0
Marked v x g = (g.grant ≤ last_of x v) ⊎ ((holds x v ≡ true) × (is_inquired x v ≡ true))

abbrev pub GivenBack : ℕ → ClientState → Grant → Type 0
GivenBack v x g = g.grant ≤ last_of x v

abbrev pub Never : ClientState → Grant → Type 0
Never x g = ⊥

given_on : (v : ℕ) (t : ToClient) (a b : ClientState) (g : Grant) → (holds a v ≡ true → g.grant ≡ held_of a v) → GrantFate t a b v → g.grant ≤ last_of a v → g.grant ≤ last_of b v
given_on v t a b g number (inl stays) few = (let last = stays.last in omega arith)
given_on v t a b g number (inr (inl comes)) few = (let last = comes.last in omega arith)
given_on v t a b g number (inr (inr back)) few = (let last = back.last in let same = number back.had in omega arith)

pub Never-lasting : (v : ℕ) → IsLasting v Never
Never-lasting v t a b g number fate h = h

pub GivenBack-lasting : (v : ℕ) → IsLasting v (GivenBack v)
GivenBack-lasting v t a b g number fate h = given_on v t a b g number fate h

told_on : (v : ℕ) (t : ToClient) (a b : ClientState) (g : Grant) → (holds a v ≡ true → g.grant ≡ held_of a v) → GrantFate t a b v → holds a v ≡ true → KnowsGrant v b g
told_on v t a b g number (inl stays) has = inr (ap (λ n. nat_lt 0 n) stays.held ∙ has)
told_on v t a b g number (inr (inl comes)) has = inr comes.has
told_on v t a b g number (inr (inr back)) has = inl (let last = back.last in let same = number has in omega arith)

pub Told-lasting : (v : ℕ) → IsLasting v (KnowsGrant v)
Told-lasting v t a b g number fate (inl few) = inl (given_on v t a b g number fate few)
Told-lasting v t a b g number fate (inr has) = told_on v t a b g number fate has

marked_on : (v : ℕ) (t : ToClient) (a b : ClientState) (g : Grant) → (holds a v ≡ true → g.grant ≡ held_of a v) → GrantFate t a b v → holds a v ≡ true → is_inquired a v ≡ true → Marked v b g
marked_on v t a b g number (inl stays) has mark = inr (ap (λ n. nat_lt 0 n) stays.held ∙ has, stays.marked mark)
marked_on v t a b g number (inr (inl comes)) has mark = absurd (false≢true (sym comes.free ∙ has))
marked_on v t a b g number (inr (inr back)) has mark = inl (let last = back.last in let same = number has in omega arith)

pub Marked-lasting : (v : ℕ) → IsLasting v (Marked v)
Marked-lasting v t a b g number fate (inl few) = inl (given_on v t a b g number fate few)
Marked-lasting v t a b g number fate (inr mark) = marked_on v t a b g number fate mark.0 mark.1

-- ---- clients that ask all along

-- Each client in D asks as in the world w, and each voter of its quorum knows its request. Each voter has
-- a grant left.
pub record Steady (p : Course) (w : WorldState) (D : ℕ → Type 0) (x : WorldState) : Type 0 where
  pub reached : IsSure p x
  pub left : LiveServe p x
  pub asks : (d : ℕ) → D d → is_asking (client_at w.clients d).phase ≡ true
  pub same : (d : ℕ) → D d → SameAsk (client_at w.clients d) (client_at x.clients d)
  pub known : (d v : ℕ) → D d → is_member (client_at w.clients d) v ≡ true → IsEntry (voter_at x.voters v) d (client_at w.clients d).stamp

-- the grant is for the request of a client in D
abbrev pub IsOfSome : WorldState → (ℕ → Type 0) → Grant → Type 0
IsOfSome w D g = D g.client × (g.stamp ≡ (client_at w.clients g.client).stamp)

-- a client in D, and a voter of its quorum that is live
pub record Seeks (p : Course) (w : WorldState) (D : ℕ → Type 0) (m v : ℕ) : Type 0 where
  pub up : p.live.voter v ≡ true
  pub asks : D m
  pub member : is_member (client_at w.clients m) v ≡ true

-- such a world, and besides
abbrev pub With : Course → WorldState → (ℕ → Type 0) → (WorldState → Type 0) → WorldState → Type 0
With p w D K x = Steady p w D x × K x

-- ---- words

fresh_is : (x : ClientState) (v g : ℕ) → is_member x v ≡ true → holds x v ≡ false → last_of x v < g → requester.is_fresh x v g ≡ true
fresh_is x v g member free newer = grind (arith, nat_tests)

any_member : (f : ℕ → Bool) (l : List ℕ) (q : ℕ) → has l q ≡ true → f q ≡ true → list_any f l ≡ true
any_member f [] q there is = absurd (false≢true there)
any_member f (x ∷ xs) q there is = elim (cases_eq x q) [
  | inl same ↦ (let here = ap f same ∙ is in grind (arith, nat_tests))
  | inr other ↦ (let rest = any_member f xs q (grind (arith, nat_tests)) is in grind (arith, nat_tests))
]

hindered_by : (x : ClientState) (q : ℕ) → is_member x q ≡ true → is_relinquished x q ≡ true → is_hindered x ≡ true
hindered_by x q member given = any_member (λ v. is_failed x v || is_relinquished x v) (members x) q member (grind (arith, nat_tests))

pub steady_ok : (laws : Laws) (p : Course) (w : WorldState) (D : ℕ → Type 0) (x : WorldState) → Steady p w D x → IsCoherent x
steady_ok laws p w D x calm = (calm.reached []).coherent

pub asks_now : (p : Course) (w : WorldState) (D : ℕ → Type 0) (x : WorldState) (d : ℕ) → Steady p w D x → D d → is_asking (client_at x.clients d).phase ≡ true
asks_now p w D x d calm asking = (calm.same d asking).asks ∙ calm.asks d asking

pub member_now : (p : Course) (w : WorldState) (D : ℕ → Type 0) (x : WorldState) (d v : ℕ) → Steady p w D x → D d → is_member (client_at w.clients d) v ≡ true
    → is_member (client_at x.clients d) v ≡ true
member_now p w D x d v calm asking member = ap (λ l. has l v) ((calm.same d asking).quorum (calm.asks d asking)) ∙ member

pub voter_within : (laws : Laws) (p : Course) (w : WorldState) (D : ℕ → Type 0) (x : WorldState) (d v : ℕ) → Steady p w D x → D d → is_member (client_at w.clients d) v ≡ true
    → v < length x.voters
voter_within laws p w D x d v calm asking member = (steady_ok laws p w D x calm).members d v (member_now p w D x d v calm asking member)

pub voter_below : (laws : Laws) (p : Course) (w : WorldState) (D : ℕ → Type 0) (x : WorldState) (d v : ℕ) → Steady p w D x → D d → is_member (client_at w.clients d) v ≡ true → v < 64
voter_below laws p w D x d v calm asking member =
    let within = voter_within laws p w D x d v calm asking member in
    let few = (steady_ok laws p w D x calm).numbered.few_voters in
    omega arith

pub held_exists : (laws : Laws) (p : Course) (w : WorldState) (D : ℕ → Type 0) (x : WorldState) (d v : ℕ) → Steady p w D x → D d → is_member (client_at w.clients d) v ≡ true
    → (g : Grant) × ((voter_at x.voters v).held ≡ Some g)
held_exists laws p w D x d v calm asking member =
    held_some (voter_at x.voters v) d (client_at w.clients d).stamp ((steady_ok laws p w D x calm).voters v) (calm.known d v asking member) (voter_at x.voters v).held refl

pub runs_on : (p : Course) (w : WorldState) (D : ℕ → Type 0) (d : ℕ) → D d → (x : WorldState) → Steady p w D x → RunsOn p w d x
runs_on p w D d asking x calm = record { reached = calm.reached; same = calm.same d asking; left = calm.left }

pub client_live : (p : Course) (w : WorldState) (D : ℕ → Type 0) (x : WorldState) (d : ℕ) → Steady p w D x → D d → p.live.client d ≡ true
client_live p w D x d calm asking = live_by p x d calm.left (is_asking-busy (client_at x.clients d).phase (asks_now p w D x d calm asking))

-- ---- what a step does to a client that asks

idle_absurd : (p : Course) (w : WorldState) (D : ℕ → Type 0) (x : WorldState) (d : ℕ) → Steady p w D x → D d → is_idle (client_at x.clients d).phase ≡ true → ⊥
idle_absurd p w D x d calm asking idle = false≢true (sym (is_asking-busy (client_at x.clients d).phase (asks_now p w D x d calm asking)) ∙ idle)

-- the client took this message
abbrev pub TookMessage : WorldState → WorldState → ℕ → Type 0
TookMessage x y d = (m : ToClient) × (client_at y.clients d ≡ (requester.take (client_at x.clients d) m).state) × Came x d (requester.Takes m)

took_by : (laws : Laws) (p : Course) (w : WorldState) (D : ℕ → Type 0) (x y : WorldState) (k : ClientMoved x y) → Steady p w D x → Steady p w D y → D k.who → (cause : requester.Cause)
    → Came x k.who cause → requester.step (client_at x.clients k.who) cause ≡ Ok k.outcome → cause ≡ k.cause → TookMessage x y k.who
took_by laws p w D x y k before after asking (requester.Asks q) came step is =
    let stamp : (client_at x.clients k.who).clock + 1 ≡ k.outcome.state.stamp = ap (λ (o : requester.Outcome). o.state.stamp) (ask-Ok (client_at x.clients k.who) q k.outcome step) in
    let now : k.outcome.state.stamp ≡ (client_at x.clients k.who).stamp = ap (λ (z : ClientState). z.stamp) (sym k.here) ∙ (after.same k.who asking).stamp ∙ sym (before.same k.who asking).stamp in
    let behind = ((steady_ok laws p w D x before).clients k.who).clock in
    absurd (omega arith)
took_by laws p w D x y k before after asking (requester.Takes m) came step is =
    (m, k.here ∙ sym (ap (λ (o : requester.Outcome). o.state) (take-Ok (client_at x.clients k.who) m k.outcome step)), came)
took_by laws p w D x y k before after asking requester.Leaves came step is =
    let contract = meets laws.client x y (steady_ok laws p w D x before) (steady_ok laws p w D y after) k in
    let idle = (subst (λ c. KeepsQuorum (client_at x.clients k.who) c k.outcome.state) (sym is) contract.quorum).1 in
    absurd (idle_absurd p w D y k.who after asking (ap (λ (z : ClientState). is_idle z.phase) k.here ∙ idle))
took_by laws p w D x y k before after asking requester.GivesUp came step is =
    let contract = meets laws.client x y (steady_ok laws p w D x before) (steady_ok laws p w D y after) k in
    let idle = (subst (λ c. KeepsQuorum (client_at x.clients k.who) c k.outcome.state) (sym is) contract.quorum).1 in
    absurd (idle_absurd p w D y k.who after asking (ap (λ (z : ClientState). is_idle z.phase) k.here ∙ idle))

-- the client is as before, or took a message
pub client_goes : (laws : Laws) (p : Course) (w : WorldState) (D : ℕ → Type 0) (s : Step) (x y : WorldState) (d : ℕ) → Steady p w D x → Steady p w D y → MovedBy s x y → D d
    → (client_at y.clients d ≡ client_at x.clients d) ⊎ TookMessage x y d
client_goes laws p w D s x y d before after moved asking = elim moved [
  | inl k ↦ elim (cases_eq d k.0.who) [
    | inl same ↦ inr (subst (λ i. TookMessage x y i) (sym same) (took_by laws p w D x y k.0 before after (subst D same asking) k.0.cause k.0.came k.0.step refl))
    | inr other ↦ inl (k.0.others d other)
  ]
  | inr (inl k) ↦ inl (ap (λ (cs : List ClientState). client_at cs d) k.0.clients)
  | inr (inr k) ↦ inl (ap (λ (cs : List ClientState). client_at cs d) k.clients)
]

-- what a step does to a vote of a client that asks
pub fate_goes : (laws : Laws) (p : Course) (w : WorldState) (D : ℕ → Type 0) (s : Step) (x y : WorldState) (d v : ℕ) → Steady p w D x → Steady p w D y → MovedBy s x y → D d → v < 64
    → (client_at y.clients d ≡ client_at x.clients d) ⊎ ((t : ToClient) × Came x d (requester.Takes t) × GrantFate t (client_at x.clients d) (client_at y.clients d) v)
fate_goes laws p w D s x y d v before after moved asking below = elim (client_goes laws p w D s x y d before after moved asking) [
  | inl same ↦ inl same
  | inr took ↦ inr (
    took.0,
    took.2,
    subst (λ (z : ClientState). GrantFate took.0 (client_at x.clients d) z v) (sym took.1) (VoteFate-take (client_at x.clients d) took.0 v ((steady_ok laws p w D x before).clients d)),
  )
]

pub sent_stays : (p : Course) (w : WorldState) (D : ℕ → Type 0) (K : WorldState → Type 0) (k : ℕ) (n : Message) (s : Step) (x y : WorldState) → With p w D K x → With p w D K y → MovedBy s x y → slice_get x.sent k ≡ Some n
    → slice_get y.sent k ≡ Some n
sent_stays p w D K k n s x y before after moved is = message_stays k n x y (Moved-by s x y moved) is

would_be : (x : ClientState) (m : ToClient) (stamp grant : ℕ) → m.body ≡ to_client.Locked stamp grant → is_current x stamp ≡ true → requester.is_fresh x m.voter grant ≡ true
    → requester.would_hold x m ≡ true
unfolding requester.would_hold
would_be x m stamp grant is current fresh = ap (requester.would_hold_body x m.voter) is ∙ ap (λ b. b && requester.is_fresh x m.voter grant) current ∙ fresh

holds_set : (xs ys : List ℕ) (v g : ℕ) → ys ≡ slice_set xs v g → v < length xs → 1 ≤ g → nat_lt 0 (slice_index ys v) ≡ true
holds_set xs ys v g is within some = (let here : slice_index ys v ≡ g = ap (λ l. slice_index l v) is ∙ get_or-set_same xs v g 0 within in grind (arith, nat_tests))

pub mark_goes : (laws : Laws) (p : Course) (w : WorldState) (D : ℕ → Type 0) (S : ClientState → Grant → Type 0) (v : ℕ) → IsLasting v S → (s : Step) (x y : WorldState) → Steady p w D x → Steady p w D y → MovedBy s x y
    → v < 64 → (g : Grant) → (voter_at x.voters v).held ≡ Some g → IsOfSome w D g → S (client_at x.clients g.client) g → S (client_at y.clients g.client) g
mark_goes laws p w D S v lasting s x y before after moved below g held live h =
    let d = g.client in
    elim (fate_goes laws p w D s x y d v before after moved (live.0) below) [
      | inl same ↦ subst (λ (z : ClientState). S z g) (sym same) h
      | inr took ↦ lasting took.0 (client_at x.clients d) (client_at y.clients d) g (λ has. held_grant x (before.reached []).coherent d v g held has) took.2 h
    ]

pub takes_vote : (laws : Laws) (p : Course) (w : WorldState) (D : ℕ → Type 0) (x : WorldState) (d v k seen grant : ℕ) → Steady p w D x → D d → is_member (client_at w.clients d) v ≡ true
    → slice_get x.sent k ≡ Some (kinds.ToClient (locked_to v d seen (client_at w.clients d).stamp grant)) → holds (client_at x.clients d) v ≡ false → last_of (client_at x.clients d) v < grant
    → holds (client_at (next p.deal x (Deliver k)).clients d) v ≡ true
takes_vote laws p w D x d v k seen grant calm asking member is free less =
    let ok = steady_ok laws p w D x calm in
    let old = client_at x.clients d in
    let stamp = (client_at w.clients d).stamp in
    let m = locked_to v d seen stamp grant in
    let t = client_takes p.deal x k m ok is in
    let current = current_is old stamp (asks_now p w D x d calm asking) (sym (calm.same d asking).stamp) in
    let fresh = fresh_is old v grant (member_now p w D x d v calm asking member) free less in
    let besides = HoldsBesides-take old m (would_be old m stamp grant refl current fresh) in
    let places = (ok.clients d).places.held in
    let below = voter_below laws p w D x d v calm asking member in
    ap (λ (z : ClientState). holds z v) t.here ∙ holds_set old.held (requester.take old m).state.held v grant besides (omega arith) (omega arith)

keeps_mark : (laws : Laws) (p : Course) (w : WorldState) (D : ℕ → Type 0) (m v : ℕ) → Seeks p w D m v → (g : Grant) → IsOfSome w D g → (s : Step) (x y : WorldState)
    → With p w D (GrantHasVote v g) x → With p w D (GrantHasVote v g) y → MovedBy s x y → KnowsGrant v (client_at x.clients g.client) g → KnowsGrant v (client_at y.clients g.client) g
keeps_mark laws p w D m v f g live s x y before after moved h =
    mark_goes laws p w D (KnowsGrant v) v (Told-lasting v) s x y before.0 after.0 moved (voter_below laws p w D x m v before.0 f.asks f.member) g before.1 live h

-- the voter is one of the client's quorum
pub live_member : (laws : Laws) (p : Course) (w : WorldState) (D : ℕ → Type 0) (x : WorldState) (v : ℕ) (g : Grant) → Steady p w D x → GrantHasVote v g x → IsOfSome w D g → is_member (client_at w.clients g.client) v ≡ true
live_member laws p w D x v g calm held live =
    let d = g.client in
    let asking = live.0 in
    let same = calm.same d asking in
    let current = current_is (client_at x.clients d) g.stamp (asks_now p w D x d calm asking) (live.1 ∙ sym same.stamp) in
    ap (λ l. has l v) (sym (same.quorum (calm.asks d asking))) ∙ (calm.reached []).placed.places v d g.stamp (inl (g, held, refl, refl)) current

pub told : (laws : Laws) (p : Course) (w : WorldState) (D : ℕ → Type 0) (m v : ℕ) → Seeks p w D m v → (g : Grant) → IsOfSome w D g → (x z : WorldState)
    → Reminded (With p w D (GrantHasVote v g)) MovedBy p.live p.deal x z (RemindVoter v) → KnowsGrant v (client_at z.clients g.client) g
told laws p w D m v f g live x z r =
    let deal = p.deal in
    let P = With p w D (GrantHasVote v g) in
    let keep = keeps_mark laws p w D m v f g live in
    let d = g.client in
    let spot = r.spot in
    let u = spot.before in
    let calm = spot.here.0 in
    let held = spot.here.1 in
    let ok = steady_ok laws p w D u calm in
    let y = voter_at u.voters v in
    let within = voter_within laws p w D u m v calm f.asks f.member in
    let id : y.id ≡ v = ok.numbered.voters v within in
    let stamp = live.1 in
    let msg = locked_to v d y.seen (client_at w.clients d).stamp g.grant in
    let is : voter.reply y d (to_client.Locked g.stamp g.grant) ≡ msg = λ i. record { voter = id i; client = d; seen = y.seen; body = to_client.Locked (stamp i) g.grant } in
    let out = laws.voter.reminds y g held ∙ ap (λ (n : ToClient). n ∷ voter.inquiry_again y.inquiring y g) is in
    let sends = reminds_first deal u v msg (voter.inquiry_again y.inquiring y g) within out in
    let u1 = next deal u (RemindVoter v) in
    let heard = r.heard sends.place sends.least (between_from p.live (slice_get u1.sent sends.place) msg sends.is (client_live p w D u d calm (live.0)) f.up) in
    let there = spot_before P MovedBy deal (λ q. slice_get q.sent sends.place ≡ Some (kinds.ToClient msg)) (sent_stays p w D (GrantHasVote v g) sends.place (kinds.ToClient msg)) u1 z (Deliver sends.place) heard.spot
    sends.is in
    let x2 = heard.spot.before in
    let calm2 = heard.spot.here.0 in
    let old = client_at x2.clients d in
    let through : KnowsGrant v old g → KnowsGrant v (client_at z.clients d) g = spot_through P MovedBy deal (λ q. KnowsGrant v (client_at q.clients d) g) keep u1 z (Deliver sends.place) heard.spot in
    elim (holds old v) as (λ b. holds old v ≡ b → KnowsGrant v (client_at z.clients d) g) [
      | true ↦ λ has. through (inr has)
      | false ↦ λ free. elim (cases_lt (last_of old v) g.grant) [
        | inr few ↦ through (inl few)
        | inl less ↦ spot_end P MovedBy deal (λ q. KnowsGrant v (client_at q.clients d) g) keep u1 z (Deliver sends.place) heard.spot
            (inr (takes_vote laws p w D x2 d v sends.place y.seen g.grant calm2 (live.0) (live_member laws p w D u v g calm held live) there free less))
      ]
    ] (refl {a = holds old v})

-- INQUIRE of a vote that is held: it is marked, or given back
pub inquire_marks : (laws : Laws) (p : Course) (w : WorldState) (D : ℕ → Type 0) (x : WorldState) (d v : ℕ) (g : Grant) (t : ToClient) → Steady p w D x → D d → t.voter ≡ v → v < 64
    → g.grant ≡ held_of (client_at x.clients d) v → t.body ≡ to_client.Inquire g.grant → holds (client_at x.clients d) v ≡ true → Marked v (requester.take (client_at x.clients d) t).state g
inquire_marks laws p w D x d v g t calm asking from below number is hold =
    let old = client_at x.clients d in
    let sound = (steady_ok laws p w D x calm).clients d in
    let asks_x = asks_now p w D x d calm asking in
    let asked : AsksFor t old v = record { voter = from; body = is ∙ ap (λ n. to_client.Inquire n) number; held = hold } in
    elim (VoteFate-take old t v sound) [
      | inl stays ↦ inr (ap (λ n. nat_lt 0 n) stays.held ∙ hold, (stays.asked asks_x asked).1)
      | inr (inl comes) ↦ absurd (false≢true (sym comes.free ∙ hold))
      | inr (inr back) ↦ inl (let last = back.last in omega arith)
    ]

-- the grant has the vote, and the voter has asked for it
abbrev pub AskedFor : ℕ → Grant → WorldState → Type 0
AskedFor v g x = GrantHasVote v g x × ((voter_at x.voters v).inquiring ≡ true)

keeps_marked : (laws : Laws) (p : Course) (w : WorldState) (D : ℕ → Type 0) (m v : ℕ) → Seeks p w D m v → (g : Grant) → IsOfSome w D g → (S : ClientState → Grant → Type 0) → IsLasting v S → (s : Step) (x y : WorldState)
    → With p w D (AskedFor v g) x → With p w D (AskedFor v g) y → MovedBy s x y → S (client_at x.clients g.client) g → S (client_at y.clients g.client) g
keeps_marked laws p w D m v f g live S lasting s x y before after moved h =
    mark_goes laws p w D S v lasting s x y before.0 after.0 moved (voter_below laws p w D x m v before.0 f.asks f.member) g before.1.0 live h

pub asked : (laws : Laws) (p : Course) (w : WorldState) (D : ℕ → Type 0) (m v : ℕ) → Seeks p w D m v → (g : Grant) → IsOfSome w D g → (x z : WorldState)
    → Reminded (With p w D (AskedFor v g)) MovedBy p.live p.deal x z (RemindVoter v) → KnowsGrant v (client_at x.clients g.client) g → Marked v (client_at z.clients g.client) g
asked laws p w D m v f g live x z r before =
    let deal = p.deal in
    let P = With p w D (AskedFor v g) in
    let keep = keeps_marked laws p w D m v f g live (KnowsGrant v) (Told-lasting v) in
    let keep_mark = keeps_marked laws p w D m v f g live (Marked v) (Marked-lasting v) in
    let d = g.client in
    let spot = r.spot in
    let u = spot.before in
    let calm = spot.here.0 in
    let held = spot.here.1.0 in
    let ok = steady_ok laws p w D u calm in
    let y = voter_at u.voters v in
    let within = voter_within laws p w D u m v calm f.asks f.member in
    let below = voter_below laws p w D u m v calm f.asks f.member in
    let id : y.id ≡ v = ok.numbered.voters v within in
    let u1 = next deal u (RemindVoter v) in
    let told_u = spot_before P MovedBy deal (λ q. KnowsGrant v (client_at q.clients d) g) keep x z (RemindVoter v) spot before in
    elim told_u [
      | inl few ↦ spot_through P MovedBy deal (λ q. Marked v (client_at q.clients d) g) keep_mark x z (RemindVoter v) spot (inl few)
      | inr hold ↦
          let first = voter.reply y d (to_client.Locked g.stamp g.grant) in
          let msg : ToClient = record { voter = v; client = d; seen = y.seen; body = to_client.Inquire g.grant } in
          let is : voter.reply y d (to_client.Inquire g.grant) ≡ msg = λ i. record { voter = id i; client = d; seen = y.seen; body = to_client.Inquire g.grant } in
          let out = laws.voter.reminds y g held ∙ ap (λ b. first ∷ voter.inquiry_again b y g) spot.here.1.1 ∙ ap (λ (n : ToClient). first ∷ n ∷ []) is in
          let sends = reminds_second deal u v first msg [] within out in
          let heard = r.heard sends.place sends.least (between_from p.live (slice_get u1.sent sends.place) msg sends.is (client_live p w D u d calm live.0) f.up) in
          let there = spot_before P MovedBy deal (λ q. slice_get q.sent sends.place ≡ Some (kinds.ToClient msg)) (sent_stays p w D (AskedFor v g) sends.place (kinds.ToClient msg)) u1 z
          (Deliver sends.place) heard.spot sends.is in
          let x2 = heard.spot.before in
          let calm2 = heard.spot.here.0 in
          let y2 = next deal x2 (Deliver sends.place) in
          let told_u1 = keep (RemindVoter v) u u1 spot.here (spot_after P MovedBy deal x z (RemindVoter v) spot) spot.moved (inr hold) in
          let told2 = spot_before P MovedBy deal (λ q. KnowsGrant v (client_at q.clients d) g) keep u1 z (Deliver sends.place) heard.spot told_u1 in
          elim told2 [
            | inl few ↦ spot_through P MovedBy deal (λ q. Marked v (client_at q.clients d) g) keep_mark u1 z (Deliver sends.place) heard.spot (inl few)
            | inr hold2 ↦
                let t = client_takes deal x2 sends.place msg (steady_ok laws p w D x2 calm2) there in
                let number = held_grant x2 (calm2.reached []).coherent d v g heard.spot.here.1.0 hold2 in
                let mark = inquire_marks laws p w D x2 d v g msg calm2 live.0 refl below number refl hold2 in
                spot_end P MovedBy deal (λ q. Marked v (client_at q.clients d) g) keep_mark u1 z (Deliver sends.place) heard.spot
                (subst (λ (q : ClientState). Marked v q g) (sym t.here) mark)
          ]
    ]

-- the client has this vote, and its voter asked for it
abbrev pub HasMarked : ℕ → ℕ → WorldState → Type 0
HasMarked d v x = (holds (client_at x.clients d) v ≡ true) × (is_inquired (client_at x.clients d) v ≡ true)

-- a client with a marked vote is not hindered
not_hindered : (laws : Laws) (p : Course) (w : WorldState) (D : ℕ → Type 0) (x : WorldState) (d v : ℕ) → v < 64 → With p w D (HasMarked d v) x → is_hindered (client_at x.clients d) ≡ false
not_hindered laws p w D x d v below here = false_from_ne_true (is_hindered (client_at x.clients d)) (λ hindered.
    false≢true (sym ((here.0.reached []).out.clear d hindered v) ∙ here.1.1))

-- so it keeps each vote that it has
keeps_vote : (laws : Laws) (p : Course) (w : WorldState) (D : ℕ → Type 0) (d v u : ℕ) → D d → v < 64 → is_member (client_at w.clients d) u ≡ true → (s : Step) (x y : WorldState)
    → With p w D (HasMarked d v) x → With p w D (HasMarked d v) y → MovedBy s x y → holds (client_at x.clients d) u ≡ true → holds (client_at y.clients d) u ≡ true
keeps_vote laws p w D d v u asking below member s x y before after moved hold =
    elim (fate_goes laws p w D s x y d u before.0 after.0 moved asking (voter_below laws p w D x d u before.0 asking member)) [
      | inl same ↦ ap (λ (z : ClientState). holds z u) same ∙ hold
      | inr took ↦ elim took.2 [
        | inl stays ↦ ap (λ n. nat_lt 0 n) stays.held ∙ hold
        | inr (inl comes) ↦ comes.has
        | inr (inr back) ↦ absurd (false≢true (sym (not_hindered laws p w D y d v below after)
            ∙ hindered_by (client_at y.clients d) u (member_now p w D y d u after.0 asking member) back.given))
      ]
    ]

-- it has the vote, or gave no grant from this one on back
abbrev CanTake : ℕ → ℕ → ℕ → WorldState → Type 0
CanTake d u n x = (holds (client_at x.clients d) u ≡ true) ⊎ (last_of (client_at x.clients d) u < n)

keeps_chance : (laws : Laws) (p : Course) (w : WorldState) (D : ℕ → Type 0) (d v u n : ℕ) → D d → v < 64 → is_member (client_at w.clients d) u ≡ true → (s : Step) (x y : WorldState)
    → With p w D (HasMarked d v) x → With p w D (HasMarked d v) y → MovedBy s x y → CanTake d u n x → CanTake d u n y
keeps_chance laws p w D d v u n asking below member s x y before after moved chance =
    elim (fate_goes laws p w D s x y d u before.0 after.0 moved asking (voter_below laws p w D x d u before.0 asking member)) [
      | inl same ↦ subst (λ (z : ClientState). (holds z u ≡ true) ⊎ (last_of z u < n)) (sym same) chance
      | inr took ↦ elim took.2 [
        | inl stays ↦ elim chance [
          | inl hold ↦ inl (ap (λ k. nat_lt 0 k) stays.held ∙ hold)
          | inr less ↦ inr (let last = stays.last in omega arith)
        ]
        | inr (inl comes) ↦ inl comes.has
        | inr (inr back) ↦ absurd (false≢true (sym (not_hindered laws p w D y d v below after)
            ∙ hindered_by (client_at y.clients d) u (member_now p w D y d u after.0 asking member) back.given))
      ]
    ]

-- FAIL of the voter u to the client d
abbrev fail_to : ℕ → ℕ → ℕ → ℕ → ToClient
fail_to u d seen stamp = record { voter = u; client = d; seen = seen; body = to_client.Fail stamp }

-- a FAIL that comes while the client lacks the vote hinders it
fails_not : (laws : Laws) (p : Course) (w : WorldState) (D : ℕ → Type 0) (x : WorldState) (d v u k seen : ℕ) → D d → v < 64 → is_member (client_at w.clients d) u ≡ true
    → With p w D (HasMarked d v) x → With p w D (HasMarked d v) (next p.deal x (Deliver k))
    → slice_get x.sent k ≡ Some (kinds.ToClient (fail_to u d seen (client_at w.clients d).stamp)) → holds (client_at x.clients d) u ≡ false → ⊥
fails_not laws p w D x d v u k seen asking below member here then is free =
    let ok = steady_ok laws p w D x here.0 in
    let old = client_at x.clients d in
    let m = fail_to u d seen (client_at w.clients d).stamp in
    let t = client_takes p.deal x k m ok is in
    let hindered = laws.client.hinders old m (ok.clients d) (asks_now p w D x d here.0 asking) (member_now p w D x d u here.0 asking member) free
    (ap (λ n. to_client.Fail n) (sym (here.0.same d asking).stamp)) in
    false≢true (sym (not_hindered laws p w D (next p.deal x (Deliver k)) d v below then) ∙ ap is_hindered t.here ∙ hindered)

-- after the reminder the client has the vote of each member that is live
gets_all : (laws : Laws) (p : Course) (w : WorldState) (D : ℕ → Type 0) (d v u : ℕ) → D d → v < 64 → p.live.voter u ≡ true → is_member (client_at w.clients d) u ≡ true → (x z : WorldState)
    → Reminded (With p w D (HasMarked d v)) MovedBy p.live p.deal x z (RemindClient d) → holds (client_at z.clients d) u ≡ true
gets_all laws p w D d v u asking below up member x z r =
    let deal = p.deal in
    let P = With p w D (HasMarked d v) in
    let keep = keeps_vote laws p w D d v u asking below member in
    let stamp = (client_at w.clients d).stamp in
    let spot = r.spot in
    let x1 = spot.before in
    let u1 = next deal x1 (RemindClient d) in
    let alive = client_live p w D x1 d spot.here.0 asking in
    elim (holds (client_at x1.clients d) u) as (λ b. holds (client_at x1.clients d) u ≡ b → holds (client_at z.clients d) u ≡ true) [
      | true ↦ λ hold. spot_through P MovedBy deal (λ q. holds (client_at q.clients d) u ≡ true) keep x z (RemindClient d) spot hold
      | false ↦ λ free.
          let sends = asks_for laws p w x1 d u (runs_on p w D d asking x1 spot.here.0) (spot.here.0.asks d asking) member free in
          let msg = request_to w d u in
          let heard = r.heard sends.place sends.least (between_to p.live (slice_get u1.sent sends.place) msg sends.is alive up) in
          let there = spot_before P MovedBy deal (λ q. slice_get q.sent sends.place ≡ Some (kinds.ToVoter msg)) (sent_stays p w D (HasMarked d v) sends.place (kinds.ToVoter msg)) u1 z
          (Deliver sends.place) heard.spot sends.is in
          let x2 = heard.spot.before in
          let y2 = next deal x2 (Deliver sends.place) in
          elim (holds (client_at x2.clients d) u) as (λ b. holds (client_at x2.clients d) u ≡ b → holds (client_at z.clients d) u ≡ true) [
            | true ↦ λ hold. spot_through P MovedBy deal (λ q. holds (client_at q.clients d) u ≡ true) keep u1 z (Deliver sends.place) heard.spot hold
            | false ↦ λ lacks.
                let calm = heard.spot.here.0 in
                let ok = steady_ok laws p w D x2 calm in
                let old = client_at x2.clients d in
                let y = voter_at x2.voters u in
                let within = voter_within laws p w D x2 d u calm asking member in
                let low = voter_below laws p w D x2 d u calm asking member in
                let t = voter_takes laws deal x2 sends.place msg ok (calm.left.grants u within up) there in
                let pair = (calm.reached []).fits.pairs d u in
                let now = (calm.same d asking).stamp in
                let unfinished = subst (λ n. slice_index y.finished d < n) now (pair.unfinished.busy (is_asking-busy old.phase (asks_now p w D x2 d calm asking))) in
                let entry = calm.known d u asking member in
                let again = replies_again y msg stamp t.outcome (ok.voters u) refl unfinished entry t.step in
                let h = held_some y d stamp (ok.voters u) entry y.held refl in
                let seen = (voter.see y stamp).seen in
                let id : y.id ≡ u = ok.numbered.voters u within in
                elim (cases_eq h.0.client d) [
                  | inr other ↦
                      let is : voter.reply (voter.see y stamp) d (to_client.Fail stamp) ≡ fail_to u d seen stamp = λ i. record { voter = id i; client = d; seen = seen; body = to_client.Fail stamp } in
                      let out : t.outcome.replies ≡ fail_to u d seen stamp ∷ [] = ap (λ (o : voter.Outcome). o.replies) again ∙ again_fails (voter.see y stamp) y.held h.0 d stamp h.1 other
                      ∙ ap (λ (n : ToClient). n ∷ []) is in
                      let says_it = replied deal x2 sends.place msg (fail_to u d seen stamp) t out in
                      let comes = heard.replies says_it.place says_it.least (between_from p.live (slice_get y2.sent says_it.place) (fail_to u d seen stamp) says_it.is alive up) in
                      let x3 = comes.before in
                      let got = spot_before P MovedBy deal (λ q. slice_get q.sent says_it.place ≡ Some (kinds.ToClient (fail_to u d seen stamp)))
                      (sent_stays p w D (HasMarked d v) says_it.place (kinds.ToClient (fail_to u d seen stamp))) y2 z (Deliver says_it.place) comes says_it.is in
                      elim (holds (client_at x3.clients d) u) as (λ b. holds (client_at x3.clients d) u ≡ b → holds (client_at z.clients d) u ≡ true) [
                        | true ↦ λ hold. spot_through P MovedBy deal (λ q. holds (client_at q.clients d) u ≡ true) keep y2 z (Deliver says_it.place) comes hold
                        | false ↦ λ none. absurd (fails_not laws p w D x3 d v u says_it.place seen asking below member comes.here
                            (spot_after P MovedBy deal y2 z (Deliver says_it.place) comes) got none)
                      ] (refl {a = holds (client_at x3.clients d) u})
                  | inl own ↦
                      let n = h.0.grant in
                      let msg2 = locked_to u d seen stamp n in
                      let is : voter.reply (voter.see y stamp) d (to_client.Locked stamp n) ≡ msg2 = λ i. record { voter = id i; client = d; seen = seen; body = to_client.Locked stamp n } in
                      let out : t.outcome.replies ≡ msg2 ∷ [] = ap (λ (o : voter.Outcome). o.replies) again ∙ again_locks (voter.see y stamp) y.held h.0 d stamp h.1 own
                      ∙ ap (λ (k : ToClient). k ∷ []) is in
                      let says_it = replied deal x2 sends.place msg msg2 t out in
                      let comes = heard.replies says_it.place says_it.least (between_from p.live (slice_get y2.sent says_it.place) msg2 says_it.is alive up) in
                      let x3 = comes.before in
                      let got = spot_before P MovedBy deal (λ q. slice_get q.sent says_it.place ≡ Some (kinds.ToClient msg2)) (sent_stays p w D (HasMarked d v) says_it.place (kinds.ToClient msg2)) y2 z
                      (Deliver says_it.place) comes says_it.is in
                      let number : h.0.stamp ≡ old.stamp = own_stamp y d stamp h.0 (ok.voters u) entry h.1 own ∙ sym now in
                      let chance : CanTake d u n x2 = elim (cases_lt (last_of old u) n) [
                        | inl less ↦ inr less
                        | inr few ↦ absurd (false≢true (sym (not_hindered laws p w D x2 d v below heard.spot.here)
                            ∙ hindered_by old u (member_now p w D x2 d u calm asking member) (pair.given low h.0 h.1 own (asks_now p w D x2 d calm asking) number few).1))
                      ] in
                      let keep_chance = keeps_chance laws p w D d v u n asking below member in
                      let chance2 = keep_chance (Deliver sends.place) x2 y2 heard.spot.here (spot_after P MovedBy deal u1 z (Deliver sends.place) heard.spot) heard.spot.moved chance in
                      let chance3 = spot_before P MovedBy deal (CanTake d u n) keep_chance y2 z (Deliver says_it.place) comes chance2 in
                      elim (holds (client_at x3.clients d) u) as (λ b. holds (client_at x3.clients d) u ≡ b → holds (client_at z.clients d) u ≡ true) [
                        | true ↦ λ hold. spot_through P MovedBy deal (λ q. holds (client_at q.clients d) u ≡ true) keep y2 z (Deliver says_it.place) comes hold
                        | false ↦ λ none. elim chance3 [
                          | inl hold ↦ absurd (false≢true (sym none ∙ hold))
                          | inr less ↦ spot_end P MovedBy deal (λ q. holds (client_at q.clients d) u ≡ true) keep y2 z (Deliver says_it.place) comes
                              (takes_vote laws p w D x3 d u says_it.place seen n comes.here.0 asking member got none less)
                        ]
                      ] (refl {a = holds (client_at x3.clients d) u})
                ]
          ] (refl {a = holds (client_at x2.clients d) u})
    ] (refl {a = holds (client_at x1.clients d) u})

-- so it does not keep a marked vote for a round: votes of voters that are down it has already
pub not_marked : (laws : Laws) (p : Course) (w : WorldState) (D : ℕ → Type 0) (d v : ℕ) → D d → v < 64 → (x z : WorldState) → Steady p w D x → Steady p w D z → HoldsDown p x d
    → Reminded (With p w D (HasMarked d v)) MovedBy p.live p.deal x z (RemindClient d) → ⊥
not_marked laws p w D d v asking below x z first calm down r =
    let lacks = (calm.reached []).fits.lacks d (asks_now p w D z d calm asking) in
    false≢true (sym lacks ∙ all_hold (holds (client_at z.clients d)) (members (client_at z.clients d)) (λ u there.
    let member : is_member (client_at w.clients d) u ≡ true = ap (λ l. has l u) (sym ((calm.same d asking).quorum (calm.asks d asking))) ∙ there in
    elim (p.live.voter u) as (λ b. p.live.voter u ≡ b → holds (client_at z.clients d) u ≡ true) [
      | true ↦ λ up. gets_all laws p w D d v u asking below up member x z r
      | false ↦ λ dead.
          let P = With p w D (HasMarked d v) in
          let keep = keeps_vote laws p w D d v u asking below member in
          let K : WorldState → Type 0 = λ q. holds (client_at q.clients d) u ≡ true in
          spot_through P MovedBy p.deal K keep x z (RemindClient d) r.spot
          (spot_before P MovedBy p.deal K keep x z (RemindClient d) r.spot (down u (member_now p w D x d u first asking member) dead))
    ] refl))

-- ---- a vote that its client gave back

-- RELINQUISH of the client d to the voter v
abbrev relinquish_to : ℕ → ℕ → ℕ → ToVoter
relinquish_to d v n = record { client = d; voter = v; body = asks.Relinquish n }

keeps_given : (laws : Laws) (p : Course) (w : WorldState) (D : ℕ → Type 0) (v : ℕ) → v < 64 → (g : Grant) → IsOfSome w D g → (s : Step) (x y : WorldState)
    → With p w D (GrantHasVote v g) x → With p w D (GrantHasVote v g) y → MovedBy s x y → GivenBack v (client_at x.clients g.client) g → GivenBack v (client_at y.clients g.client) g
keeps_given laws p w D v below g live s x y before after moved h = mark_goes laws p w D (GivenBack v) v (GivenBack-lasting v) s x y before.0 after.0 moved below g before.1 live h

-- the grant ends with the reminder of its client
pub not_given_back : (laws : Laws) (p : Course) (w : WorldState) (D : ℕ → Type 0) (v : ℕ) → v < 64 → p.live.voter v ≡ true → (g : Grant) → IsOfSome w D g → (x z : WorldState)
    → Reminded (With p w D (GrantHasVote v g)) MovedBy p.live p.deal x z (RemindClient g.client) → GivenBack v (client_at x.clients g.client) g → ⊥
not_given_back laws p w D v below up g live x z r given =
    let deal = p.deal in
    let P = With p w D (GrantHasVote v g) in
    let d = g.client in
    let asking = live.0 in
    let spot = r.spot in
    let x1 = spot.before in
    let calm = spot.here.0 in
    let held = spot.here.1 in
    let ok = steady_ok laws p w D x1 calm in
    let old = client_at x1.clients d in
    let member = live_member laws p w D x1 v g calm held live in
    let few = spot_before P MovedBy deal (λ q. GivenBack v (client_at q.clients d) g) (keeps_given laws p w D v below g live) x z (RemindClient d) spot given in
    let number : g.stamp ≡ old.stamp = live.1 ∙ sym (calm.same d asking).stamp in
    let asks_x = asks_now p w D x1 d calm asking in
    let back = ((calm.reached []).fits.pairs d v).given below g held refl asks_x number few in
    let free = not_held old v 0 (voter_at x1.voters v).held g d (ok.clients d) held few (λ n has. ok.held d v n has) in
    let there = laws.client.returns old v asks_x (member_now p w D x1 d v calm asking member) free back.1 in
    let within = within_by x1 d (is_asking-busy old.phase asks_x) in
    let id = ok.numbered.clients d within in
    let last = back.0 in
    let msg = relinquish_to d v g.grant in
    let is : requester.tell old v (asks.Relinquish (last_of old v)) ≡ msg = λ i. record { client = id i; voter = v; body = asks.Relinquish (last i) } in
    let sends = says deal x1 d msg within (subst (Contains (requester.remind old)) is there) in
    let u1 = next deal x1 (RemindClient d) in
    let heard = r.heard sends.place sends.least (between_to p.live (slice_get u1.sent sends.place) msg sends.is (client_live p w D x1 d calm asking) up) in
    let got = spot_before P MovedBy deal (λ q. slice_get q.sent sends.place ≡ Some (kinds.ToVoter msg)) (sent_stays p w D (GrantHasVote v g) sends.place (kinds.ToVoter msg)) u1 z
    (Deliver sends.place) heard.spot sends.is in
    let x2 = heard.spot.before in
    let calm2 = heard.spot.here.0 in
    let held2 = heard.spot.here.1 in
    let ok2 = steady_ok laws p w D x2 calm2 in
    let t = voter_takes laws deal x2 sends.place msg ok2 (calm2.left.grants v (voter_within laws p w D x2 d v calm2 asking member) up) got in
    let new = laws.voter.goes_on (voter_at x2.voters v) msg t.outcome g (ok2.voters v) held2 refl refl t.step in
    let after = (spot_after P MovedBy deal u1 z (Deliver sends.place) heard.spot).1 in
    let same = ap (λ (k : Grant). k.grant) (same_Some new.grant g (sym new.held ∙ ap (λ (q : VoterState). q.held) (sym t.here) ∙ after)) in
    let next_number = new.number in
    let most = (ok2.voters v).numbered g held2 in
    omega arith

-- every run with restarts: what holds of a world holds of every mix of saved and live states
use Rattle.std.proofs.Common.{
  ◌≡◌,
  ◌≢◌,
  ℕ,
  ◌<◌,
  ◌≤◌,
  Bool,
  true,
  false,
  cond,
  List,
  [],
  ◌∷◌,
  ◌++◌,
  map,
  length,
  Option,
  Some,
  None,
  Result,
  Ok,
  Err,
  refl,
  sym,
  ap,
  subst,
  ◌∙◌,
  ◌⊎◌,
  inl,
  inr,
  arith,
  eqb,
  ltb,
}
use Rattle.std.specs.Prelude.{slice_get, slice_set}
use Rattle.std.specs.FinMap as fin
use Rattle.std.specs.Ordering.{nat_cmp}
use Rattle.std.proofs.lemmas.Option.{none-some}
use Rattle.std.proofs.lemmas.Bool.{false≢true, ltb-true, cases_eq}
use Rattle.std.proofs.lemmas.Bool.Decides.{nat_tests}
use Rattle.std.proofs.lemmas.List.{length-set, append-nil, set_past}
use Rattle.numbers.proofs.Lists.{AllByRecursion-weaker, AllByRecursion-get, slice_index-replicate_zero}
use Rattle.message.specs.declared.message.ToVoter.{ToVoter}
use Rattle.message.specs.declared.message.Message.{Message}
use Rattle.message.specs.declared.message.Message.TheVariants as kinds
use Rattle.message.specs.declared.message.VoterBody.{VoterBody}
use Rattle.message.specs.declared.message.VoterBody.TheVariants as asks
use Rattle.voter.specs.declared.state.VoterState.{VoterState}
use Rattle.voter.specs.Steps as voter
use Rattle.requester.specs.declared.fault.ClientFault.{ClientFault}
use Rattle.requester.specs.declared.state.ClientState.{ClientState}
use Rattle.requester.specs.declared.state.Seen.{Seen}
use Rattle.requester.specs.declared.state.Seen.TheVariants.{Nothing, Entered, Left}
use Rattle.requester.specs.declared.state.Phase.{Phase}
use Rattle.requester.specs.declared.state.Phase.TheVariants.{Idle, Asking, Inside}
use Rattle.requester.specs.RequesterContract.{Accepts, Sees}
use Rattle.requester.specs.Soundness as sound
use Rattle.requester.specs.Steps as client
use Rattle.requester.specs.Saved.{least_client}
use Rattle.voter.proofs.KeptLemmas as kept
use Rattle.requester.proofs.SavedLemmas.{least_is_sound}
use Rattle.voter.specs.Saved.{least_voter}
use Rattle.requester.specs.Words.{is_idle, is_inside, holds_under, last_of, members}
use Rattle.quorum_set.specs.declared.bridge.Side.{Side}
use Rattle.quorum_set.specs.declared.bridge.Side.TheVariants.{First, Second}
use Rattle.world_state.specs.declared.fault.WorldFault.{WorldFault}
use Rattle.world_state.specs.declared.step.Event.{Event}
use Rattle.world_state.specs.declared.step.Step.TheVariants.{Ask, Deliver, Leave, GiveUp, RemindClient, RemindVoter, Exchange}
use Rattle.world.specs.Ranges.{IsInRange}
use Rattle.world.specs.Restarts.{Node, OneClient, OneVoter, Nobody, Saved, Happening, Goes, Saves, Forgets, Restarts, forget, crash_seen, come_back, if_there, receiver, save}
use Rattle.world.specs.Restarts.{restart, save_unless, save_and_send, happens, all_happen, begin}
use Rattle.world_state.specs.Steps.{is_silent}
use Rattle.world.specs.Runs.{AreLimits, start}
use Rattle.world_state.specs.Steps.{Dealing, Outcome, WorldState, after_client, after_voter, client_at, client_did, come, draw_of, events, exchange, if_client, if_voter, next_ticket, quorum_dealt}
use Rattle.world_state.specs.Steps.{say, step, voter_at, voter_did}
use Rattle.world.specs.Visible.{AreQuorums, DealsFrom, DoMeet, IsExclusive}
use Rattle.world.specs.Rules.{ClientLaws, VoterLaws}
use Rattle.world.proofs.Claims.{Bounds, Names, AskOk, ReportOk, MessageOk, ClientOk, IsClient, VoterOk, WorldOk, IsAfter, IsAfter-idle, IsAfter-self, VoterOk-later}
use Rattle.world.proofs.Claims.{MessageOk-later, put, put-each, put-same}
use Rattle.world.proofs.ClientMoves.{CameTrue, Draws, client_moves, client_reminds}
use Rattle.world.proofs.VoterMoves.{voter_moves, voter_reminds}
use Rattle.world.proofs.Exclusion.{Walked, one_inside, Walked-step}
use Rattle.world.proofs.Places.{client_at-set, voter_at-set}
use Rattle.world.proofs.Reached.{Grounds, RunPremises, RunOk, start_ok, came_by, grounds, one_accepted}

-- ---- mixes

-- at each number one of the two
abbrev pub Mix : {A : Type 0} → (ℕ → A) → (ℕ → A) → (ℕ → A) → Type 0
Mix L K X = (q : ℕ) → (X q ≡ L q) ⊎ (X q ≡ K q)

-- the same at each number but one
abbrev pub MixBut : {A : Type 0} → ℕ → (ℕ → A) → (ℕ → A) → (ℕ → A) → Type 0
MixBut c L K X = (q : ℕ) → q ≢ c → (X q ≡ L q) ⊎ (X q ≡ K q)

abbrev Mixes : Bounds → (ℕ → ClientState) → (ℕ → ClientState) → (ℕ → VoterState) → (ℕ → VoterState) → List Message → Type 0
Mixes b L K M N sent = (X : ℕ → ClientState) (Y : ℕ → VoterState) → Mix L K X → Mix M N Y → WorldOk b X Y sent

put-other : {A : Type 0} (X : ℕ → A) (c : ℕ) (x : A) (q : ℕ) → q ≢ c → put X c x q ≡ X q
put-other X c x q other = elim (eqb q c) as (λ b. eqb q c ≡ b → cond b x (X q) ≡ X q) [
  | true ↦ λ e. absurd (other (grind (arith, nat_tests)))
  | false ↦ λ _. refl
] refl

by_number : {A : Type 0} (P : A → Type 0) (X : ℕ → A) (c : ℕ) (x : A) (q : ℕ) → (q ≡ c → P x) → (q ≢ c → P (X q)) → P (put X c x q)
by_number P X c x q here there = elim (eqb q c) as (λ b. eqb q c ≡ b → P (cond b x (X q))) [
  | true ↦ λ e. here (grind (arith, nat_tests))
  | false ↦ λ e. there (λ same. grind (arith, nat_tests))
] refl

unput : {A : Type 0} (X : ℕ → A) (c : ℕ) (x y : A) → X c ≡ y → put (put X c x) c y ≡ X
unput X c x y is = λ i q. by_number (λ z. z ≡ X q) (put X c x) c y q (λ same. sym is ∙ ap X (sym same)) (λ other. put-other X c x q other) i

pub Mix-back : {A : Type 0} (L K X : ℕ → A) (c : ℕ) → MixBut c L K X → Mix L K (put X c (L c))
Mix-back L K X c others q = by_number (λ z. (z ≡ L q) ⊎ (z ≡ K q)) X c (L c) q (λ same. inl (ap L (sym same))) (others q)

pub MixBut-put : {A : Type 0} (L K X : ℕ → A) (c : ℕ) (x y : A) → Mix (put L c x) (put K c y) X → MixBut c L K X
MixBut-put L K X c x y mix q other = elim (mix q) [ inl e ↦ inl (e ∙ put-other L c x q other) | inr e ↦ inr (e ∙ put-other K c y q other) ]

pub MixBut-put_left : {A : Type 0} (L K X : ℕ → A) (c : ℕ) (x : A) → Mix (put L c x) K X → MixBut c L K X
MixBut-put_left L K X c x mix q other = elim (mix q) [ inl e ↦ inl (e ∙ put-other L c x q other) | inr e ↦ inr e ]

MixBut-put_right : {A : Type 0} (L K X : ℕ → A) (c : ℕ) (x : A) → Mix L (put K c x) X → MixBut c L K X
MixBut-put_right L K X c x mix q other = elim (mix q) [ inl e ↦ inl e | inr e ↦ inr (e ∙ put-other K c x q other) ]

pub Mix-with : {A : Type 0} (L K X : ℕ → A) (c : ℕ) → MixBut c L K X → (X c ≡ L c) ⊎ (X c ≡ K c) → Mix L K X
Mix-with L K X c others at q = elim (cases_eq q c) [
  | inl same ↦ subst (λ n. (X n ≡ L n) ⊎ (X n ≡ K n)) (sym same) at
  | inr other ↦ others q other
]

pub put-both : {A : Type 0} (L K X : ℕ → A) (c : ℕ) (x : A) → Mix (put L c x) (put K c x) X → X c ≡ x
put-both L K X c x mix = elim (mix c) [ inl e ↦ e ∙ put-same L c x | inr e ↦ e ∙ put-same K c x ]

-- ---- a client's step

-- what came is so in each mix
abbrev CameAll : Bounds → (ℕ → ClientState) → List Message → ℕ → client.Cause → Type 0
CameAll b L sent c cause = (X : ℕ → ClientState) (Y : ℕ → VoterState) → WorldOk b X Y sent → CameTrue b (X c) Y c cause

record ClientActs (b : Bounds) (L K : ℕ → ClientState) (M N : ℕ → VoterState) (sent : List Message) (c : ℕ) (cause : client.Cause) (o : client.Outcome) : Type 0 where
  within : c < b.clients
  accepts : Accepts (L c) cause
  step : client.step (L c) cause ≡ Ok o
  came : CameAll b L sent c cause
  draws : Draws b cause

client_mix : ClientLaws → (b : Bounds) → AreQuorums b.voters b.quorums → (L K : ℕ → ClientState) (M N : ℕ → VoterState) (sent : List Message) → Mixes b L K M N sent
    → (c : ℕ) (cause : client.Cause) (o : client.Outcome) → ClientActs b L K M N sent c cause o
    → (X : ℕ → ClientState) (Y : ℕ → VoterState) → X c ≡ o.state → MixBut c L K X → Mix M N Y → WorldOk b X Y (sent ++ map kinds.ToVoter o.out)
client_mix laws b are L K M N sent all c cause o act X Y here others mix =
    let Z = put X c (L c) in
    let at : L c ≡ Z c = sym (put-same X c (L c)) in
    let world = all Z Y (Mix-back L K X c others) mix in
    subst (λ (W : ℕ → ClientState). WorldOk b W Y (sent ++ map kinds.ToVoter o.out)) (unput X c (L c) o.state here)
    (client_moves laws b are Z Y sent world c act.within cause o (subst (λ (x : ClientState). Accepts x cause) at act.accepts)
    (subst (λ (x : ClientState). client.step x cause ≡ Ok o) at act.step) (act.came Z Y world) act.draws)

client_loud : ClientLaws → (b : Bounds) → AreQuorums b.voters b.quorums → (L K : ℕ → ClientState) (M N : ℕ → VoterState) (sent : List Message) → Mixes b L K M N sent
    → (c : ℕ) (cause : client.Cause) (o : client.Outcome) → ClientActs b L K M N sent c cause o
    → Mixes b (put L c o.state) (put K c o.state) M N (sent ++ map kinds.ToVoter o.out)
client_loud laws b are L K M N sent all c cause o act X Y mix other =
    client_mix laws b are L K M N sent all c cause o act X Y (put-both L K X c o.state mix) (MixBut-put L K X c o.state o.state mix) other

client_quiet : ClientLaws → (b : Bounds) → AreQuorums b.voters b.quorums → (L K : ℕ → ClientState) (M N : ℕ → VoterState) (sent : List Message) → Mixes b L K M N sent
    → (c : ℕ) (cause : client.Cause) (o : client.Outcome) → ClientActs b L K M N sent c cause o → sent ≡ sent ++ map kinds.ToVoter o.out
    → Mixes b (put L c o.state) K M N (sent ++ map kinds.ToVoter o.out)
client_quiet laws b are L K M N sent all c cause o act none X Y mix other = elim (mix c) [
  | inl e ↦ client_mix laws b are L K M N sent all c cause o act X Y (e ∙ put-same L c o.state) (MixBut-put_left L K X c o.state mix) other
  | inr e ↦ subst (λ (ms : List Message). WorldOk b X Y ms) none (all X Y (Mix-with L K X c (MixBut-put_left L K X c o.state mix) (inr e)) other)
]

-- ---- a voter's step

-- what the message says is so in each mix
abbrev pub IsAskedInMix : Bounds → (ℕ → ClientState) → (ℕ → ClientState) → List Message → ToVoter → Type 0
IsAskedInMix b L K sent m = (X : ℕ → ClientState) (Y : ℕ → VoterState) → Mix L K X → WorldOk b X Y sent → AskOk (X m.client) (Y m.voter) m.voter m.client m.body

record VoterActs (b : Bounds) (L K : ℕ → ClientState) (M : ℕ → VoterState) (sent : List Message) (m : ToVoter) (o : voter.Outcome) : Type 0 where
  range : IsInRange b.voters b.clients b.limit (kinds.ToVoter m)
  asked : IsAskedInMix b L K sent m
  step : voter.step (M m.voter) m ≡ Some o

voter_mix : VoterLaws → (b : Bounds) (L K : ℕ → ClientState) (M N : ℕ → VoterState) (sent : List Message) → Mixes b L K M N sent
    → (m : ToVoter) (o : voter.Outcome) → VoterActs b L K M sent m o
    → (X : ℕ → ClientState) (Y : ℕ → VoterState) → Mix L K X → Y m.voter ≡ o.state → MixBut m.voter M N Y → WorldOk b X Y (sent ++ map kinds.ToClient o.replies)
voter_mix laws b L K M N sent all m o act X Y mix here others =
    let Z = put Y m.voter (M m.voter) in
    let at : M m.voter ≡ Z m.voter = sym (put-same Y m.voter (M m.voter)) in
    let world = all X Z mix (Mix-back M N Y m.voter others) in
    subst (λ (W : ℕ → VoterState). WorldOk b X W (sent ++ map kinds.ToClient o.replies)) (unput Y m.voter (M m.voter) o.state here)
    (voter_moves laws b X Z sent world m act.range (act.asked X Z mix world) o (subst (λ (y : VoterState). voter.step y m ≡ Some o) at act.step))

voter_loud : VoterLaws → (b : Bounds) (L K : ℕ → ClientState) (M N : ℕ → VoterState) (sent : List Message) → Mixes b L K M N sent
    → (m : ToVoter) (o : voter.Outcome) → VoterActs b L K M sent m o → Mixes b L K (put M m.voter o.state) (put N m.voter o.state) (sent ++ map kinds.ToClient o.replies)
voter_loud laws b L K M N sent all m o act X Y other mix =
    voter_mix laws b L K M N sent all m o act X Y other (put-both M N Y m.voter o.state mix) (MixBut-put M N Y m.voter o.state o.state mix)

voter_quiet : VoterLaws → (b : Bounds) (L K : ℕ → ClientState) (M N : ℕ → VoterState) (sent : List Message) → Mixes b L K M N sent
    → (m : ToVoter) (o : voter.Outcome) → VoterActs b L K M sent m o → sent ≡ sent ++ map kinds.ToClient o.replies → Mixes b L K (put M m.voter o.state) N (sent ++ map kinds.ToClient o.replies)
voter_quiet laws b L K M N sent all m o act none X Y other mix = elim (mix m.voter) [
  | inl e ↦ voter_mix laws b L K M N sent all m o act X Y other (e ∙ put-same M m.voter o.state) (MixBut-put_left M N Y m.voter o.state mix)
  | inr e ↦ subst (λ (ms : List Message). WorldOk b X Y ms) none (all X Y other (Mix-with M N Y m.voter (MixBut-put_left M N Y m.voter o.state mix) (inr e)))
]

-- ---- somebody saves itself, or comes back

Mixes-fewer : (b : Bounds) (L K P R : ℕ → ClientState) (M N S T : ℕ → VoterState) (sent : List Message) → Mixes b L K M N sent
    → ((X : ℕ → ClientState) → Mix P R X → Mix L K X) → ((Y : ℕ → VoterState) → Mix S T Y → Mix M N Y) → Mixes b P R S T sent
Mixes-fewer b L K P R M N S T sent all clients voters X Y mix other = all X Y (clients X mix) (voters Y other)

-- with the saved one at c made the live one
pub Mix-saved : {A : Type 0} (L K : ℕ → A) (c : ℕ) (X : ℕ → A) → Mix L (put K c (L c)) X → Mix L K X
Mix-saved L K c X mix = Mix-with L K X c (MixBut-put_right L K X c (L c) mix) (elim (mix c) [ inl e ↦ inl e | inr e ↦ inl (e ∙ put-same K c (L c)) ])

-- with the live one at c made the saved one
pub Mix-restarted : {A : Type 0} (L K : ℕ → A) (c : ℕ) (X : ℕ → A) → Mix (put L c (K c)) K X → Mix L K X
Mix-restarted L K c X mix = Mix-with L K X c (MixBut-put_left L K X c (K c) mix) (elim (mix c) [ inl e ↦ inr (e ∙ put-same L c (K c)) | inr e ↦ inr e ])

-- ---- a world whose nodes are saved

-- the live clients, the live voters, the saved clients and the saved voters are as many as they should be
abbrev pub AreAll : Bounds → ℕ → ℕ → ℕ → ℕ → Type 0
AreAll b live_clients live_voters clients voters = (live_clients ≡ b.clients) × (live_voters ≡ b.voters) × (clients ≡ b.clients) × (voters ≡ b.voters)

-- any live or saved client fits any live or saved voter
pub record MixedOk (b : Bounds) (s : Saved) : Type 0 where
  pub sizes : AreAll b (length s.live.clients) (length s.live.voters) (length s.clients) (length s.voters)
  pub mixes : Mixes b (client_at s.live.clients) (client_at s.clients) (voter_at s.live.voters) (voter_at s.voters) s.live.sent

-- the live world is one of the mixes
pub live_fits : (b : Bounds) (s : Saved) → MixedOk b s → WorldOk b (client_at s.live.clients) (voter_at s.live.voters) s.live.sent
live_fits b s ok = ok.mixes (client_at s.live.clients) (voter_at s.live.voters) (λ q. inl refl) (λ q. inl refl)

-- at most one live client changes, and what is seen of it is what it did
pub record Shows (s t : Saved) : Type 0 where
  pub client : ℕ
  pub after : ClientState
  pub seen : Seen
  pub visible : s.live.visible ++ events client seen ≡ t.live.visible
  pub clients : put (client_at s.live.clients) client after ≡ client_at t.live.clients
  pub sees : Sees (client_at s.live.clients client).phase seen after.phase

-- what comes after a world
pub record Follows (b : Bounds) (s t : Saved) : Type 0 where
  pub mixed : MixedOk b t
  pub shows : Shows s t

put_own : {A : Type 0} (X : ℕ → A) (c : ℕ) → put X c (X c) ≡ X
put_own X c = λ i q. by_number (λ z. z ≡ X q) X c (X c) q (λ same. ap X (sym same)) (λ _. refl) i

-- no live client changes
still : (s t : Saved) → s.live.clients ≡ t.live.clients → s.live.visible ≡ t.live.visible → Shows s t
still s t clients visible = record {
  client = 0;
  after = client_at s.live.clients 0;
  seen = Nothing;
  visible = append-nil s.live.visible ∙ visible;
  clients = put_own (client_at s.live.clients) 0 ∙ ap (λ (cs : List ClientState). client_at cs) clients;
  sees = refl;
}

pub unmoved : (b : Bounds) (s t : Saved) → s.live.clients ≡ t.live.clients → s.live.visible ≡ t.live.visible → MixedOk b t → Follows b s t
unmoved b s t clients visible ok = record { mixed = ok; shows = still s t clients visible }

-- nothing changes
pub stays : (b : Bounds) (s : Saved) → MixedOk b s → Follows b s s
stays b s ok = unmoved b s s refl refl ok

-- nobody is inside together with another
abbrev pub IsAlone : (ℕ → ClientState) → Type 0
IsAlone X = (c d : ℕ) → is_inside (X c).phase ≡ true → is_inside (X d).phase ≡ true → c ≡ d

pub walks_on : (s t : Saved) → Walked s.live.visible (client_at s.live.clients) → Shows s t → IsAlone (client_at t.live.clients) → Walked t.live.visible (client_at t.live.clients)
walks_on s t walked shows alone =
    subst (λ (es : List Event). Walked es (client_at t.live.clients)) shows.visible
    (subst (λ (X : ℕ → ClientState). Walked (s.live.visible ++ events shows.client shows.seen) X) shows.clients
    (Walked-step s.live.visible (client_at s.live.clients) shows.client shows.after shows.seen walked shows.sees
    (λ d. subst (λ (X : ℕ → ClientState). is_inside (X shows.client).phase ≡ true → is_inside (X d).phase ≡ true → shows.client ≡ d) (sym shows.clients) (alone shows.client d))))

pub silent_parts : (n : ℕ) (seen : Seen) → is_silent n seen ≡ true → (n ≡ 0) × (seen ≡ Nothing)
silent_parts n Nothing e = (grind (arith, nat_tests), refl)
silent_parts n Entered e = absurd (false≢true e)
silent_parts n Left e = absurd (false≢true e)

pub none_of : {A : Type 0} (f : A → Message) (sent : List Message) (out : List A) → length out ≡ 0 → sent ≡ sent ++ map f out
none_of f sent [] e = sym (append-nil sent)
none_of f sent (x ∷ xs) e = absurd (omega arith)

pub nothing_more : (sent more : List Message) → length more ≡ 0 → sent ≡ sent ++ more
nothing_more sent [] e = sym (append-nil sent)
nothing_more sent (x ∷ xs) e = absurd (omega arith)

-- ---- a client's step, in the lists

client_shows : (b : Bounds) → Grounds b → (s : Saved) → MixedOk b s → (c : ℕ) (cause : client.Cause) (o : client.Outcome)
    → ClientActs b (client_at s.live.clients) (client_at s.clients) (voter_at s.live.voters) (voter_at s.voters) s.live.sent c cause o
    → (t : Saved) → slice_set s.live.clients c o.state ≡ t.live.clients → s.live.visible ++ events c o.seen ≡ t.live.visible → Shows s t
client_shows b given s ok c cause o act t clients visible = record {
  client = c;
  after = o.state;
  seen = o.seen;
  visible = visible;
  clients = sym (client_at-set s.live.clients c o.state (subst (λ n. c < n) (sym ok.sizes.0) act.within)) ∙ ap (λ (cs : List ClientState). client_at cs) clients;
  sees = (given.client.meets (client_at s.live.clients c) cause o ((live_fits b s ok).clients c).sound act.accepts act.step).seen;
}

-- what a client did, saved or not
client_gone : (b : Bounds) → Grounds b → (s : Saved) → MixedOk b s → (c : ℕ) (cause : client.Cause) (o : client.Outcome)
    → ClientActs b (client_at s.live.clients) (client_at s.clients) (voter_at s.live.voters) (voter_at s.voters) s.live.sent c cause o
    → (silent : Bool) → is_silent (length o.out) o.seen ≡ silent → Follows b s (save_unless silent (OneClient c) (record s { live = (client_did s.live c o).state }))
client_gone b given s ok c cause o act false is =
    let L = client_at s.live.clients in
    let K = client_at s.clients in
    let within : c < length s.live.clients = subst (λ n. c < n) (sym ok.sizes.0) act.within in
    let within_saved : c < length s.clients = subst (λ n. c < n) (sym ok.sizes.2) act.within in
    let now = slice_set s.live.clients c o.state in
    let same : put L c o.state ≡ client_at now = sym (client_at-set s.live.clients c o.state within) in
    let there : client_at now c ≡ o.state = ap (λ (f : ℕ → ClientState). f c) (sym same) ∙ put-same L c o.state in
    let kept : put K c o.state ≡ client_at (slice_set s.clients c (client_at now c)) = sym (client_at-set s.clients c (client_at now c) within_saved ∙ ap (λ x. put K c x) there) in
    record {
      mixed = record {
        sizes = (length-set s.live.clients c o.state ∙ ok.sizes.0, ok.sizes.1, length-set s.clients c (client_at now c) ∙ ok.sizes.2, ok.sizes.3);
        mixes =
            subst (λ (W : ℕ → ClientState). Mixes b W (client_at (slice_set s.clients c (client_at now c))) (voter_at s.live.voters) (voter_at s.voters) (s.live.sent ++ map kinds.ToVoter o.out)) same
            (subst (λ (W : ℕ → ClientState). Mixes b (put L c o.state) W (voter_at s.live.voters) (voter_at s.voters) (s.live.sent ++ map kinds.ToVoter o.out)) kept
            (client_loud given.client b given.quorums L K (voter_at s.live.voters) (voter_at s.voters) s.live.sent ok.mixes c cause o act));
      };
      shows = client_shows b given s ok c cause o act _ refl refl;
    }
client_gone b given s ok c cause o act true is =
    let L = client_at s.live.clients in
    let K = client_at s.clients in
    let within : c < length s.live.clients = subst (λ n. c < n) (sym ok.sizes.0) act.within in
    let same : put L c o.state ≡ client_at (slice_set s.live.clients c o.state) = sym (client_at-set s.live.clients c o.state within) in
    let parts = silent_parts (length o.out) o.seen is in
    record {
      mixed = record {
        sizes = (length-set s.live.clients c o.state ∙ ok.sizes.0, ok.sizes.1, ok.sizes.2, ok.sizes.3);
        mixes = subst (λ (W : ℕ → ClientState). Mixes b W K (voter_at s.live.voters) (voter_at s.voters) (s.live.sent ++ map kinds.ToVoter o.out)) same
            (client_quiet given.client b given.quorums L K (voter_at s.live.voters) (voter_at s.voters) s.live.sent ok.mixes c cause o act (none_of kinds.ToVoter s.live.sent o.out parts.0));
      };
      shows = client_shows b given s ok c cause o act _ refl refl;
    }

pub client_tried : (b : Bounds) → Grounds b → (s : Saved) → MixedOk b s → (c : ℕ) → c < length s.live.clients → (cause : client.Cause)
    → Accepts (client_at s.live.clients c) cause → CameAll b (client_at s.live.clients) s.live.sent c cause → Draws b cause
    → (r : Result client.Outcome ClientFault) → client.step (client_at s.live.clients c) cause ≡ r → Follows b s (save_and_send s (OneClient c) (after_client s.live c r))
client_tried b given s ok c within cause accepts came draws (Ok o) is =
    client_gone b given s ok c cause o (record { within = subst (λ n. c < n) ok.sizes.0 within; accepts = accepts; step = is; came = came; draws = draws }) _ refl
client_tried b given s ok c within cause accepts came draws (Err fault) is = stays b s ok

-- a ticket is drawn, and no client changes by that
as_drawn : (s : Saved) (side : Side) (c : ℕ) (t : Saved) → Shows (record s { live = draw_of side s.live c }) t → Shows s t
as_drawn s First c t shows = record { client = shows.client; after = shows.after; seen = shows.seen; visible = shows.visible; clients = shows.clients; sees = shows.sees }
as_drawn s Second c t shows = record { client = shows.client; after = shows.after; seen = shows.seen; visible = shows.visible; clients = shows.clients; sees = shows.sees }

-- the same with a ticket that is drawn
client_drew : (b : Bounds) → Grounds b → (s : Saved) → MixedOk b s → (c : ℕ) → c < length s.live.clients → (cause : client.Cause)
    → Accepts (client_at s.live.clients c) cause → CameAll b (client_at s.live.clients) s.live.sent c cause → Draws b cause
    → (side : Side) (r : Result client.Outcome ClientFault) → client.step (client_at s.live.clients c) cause ≡ r → Follows b s (save_and_send s (OneClient c) (after_client (draw_of side s.live c) c r))
client_drew b given s ok c within cause accepts came draws First (Ok o) is =
    let next = client_gone b given (record s { live = draw_of First s.live c }) (record { sizes = ok.sizes; mixes = ok.mixes }) c cause o
    (record { within = subst (λ n. c < n) ok.sizes.0 within; accepts = accepts; step = is; came = came; draws = draws }) _ refl in
    record { mixed = next.mixed; shows = as_drawn s First c _ next.shows }
client_drew b given s ok c within cause accepts came draws Second (Ok o) is =
    let next = client_gone b given (record s { live = draw_of Second s.live c }) (record { sizes = ok.sizes; mixes = ok.mixes }) c cause o
    (record { within = subst (λ n. c < n) ok.sizes.0 within; accepts = accepts; step = is; came = came; draws = draws }) _ refl in
    record { mixed = next.mixed; shows = as_drawn s Second c _ next.shows }
client_drew b given s ok c within cause accepts came draws side (Err fault) is = stays b s ok

-- ---- a voter's step, in the lists

voter_gone : (b : Bounds) → Grounds b → (s : Saved) → MixedOk b s → (m : ToVoter) (o : voter.Outcome)
    → VoterActs b (client_at s.live.clients) (client_at s.clients) (voter_at s.live.voters) s.live.sent m o
    → (silent : Bool) → is_silent (length o.replies) Nothing ≡ silent → Follows b s (save_unless silent (OneVoter m.voter) (record s { live = (voter_did s.live m.voter o).state }))
voter_gone b given s ok m o act false is =
    let M = voter_at s.live.voters in
    let N = voter_at s.voters in
    let v = m.voter in
    let within : v < length s.live.voters = subst (λ n. v < n) (sym ok.sizes.1) act.range.1 in
    let within_saved : v < length s.voters = subst (λ n. v < n) (sym ok.sizes.3) act.range.1 in
    let now = slice_set s.live.voters v o.state in
    let same : put M v o.state ≡ voter_at now = sym (voter_at-set s.live.voters v o.state within) in
    let there : voter_at now v ≡ o.state = ap (λ (f : ℕ → VoterState). f v) (sym same) ∙ put-same M v o.state in
    let kept : put N v o.state ≡ voter_at (slice_set s.voters v (voter_at now v)) = sym (voter_at-set s.voters v (voter_at now v) within_saved ∙ ap (λ x. put N v x) there) in
    unmoved b s _ refl refl (record {
      sizes = (ok.sizes.0, length-set s.live.voters v o.state ∙ ok.sizes.1, ok.sizes.2, length-set s.voters v (voter_at now v) ∙ ok.sizes.3);
      mixes =
          subst (λ (W : ℕ → VoterState). Mixes b (client_at s.live.clients) (client_at s.clients) W (voter_at (slice_set s.voters v (voter_at now v)))
          (s.live.sent ++ map kinds.ToClient o.replies)) same
          (subst (λ (W : ℕ → VoterState). Mixes b (client_at s.live.clients) (client_at s.clients) (put M v o.state) W (s.live.sent ++ map kinds.ToClient o.replies)) kept
          (voter_loud given.voter b (client_at s.live.clients) (client_at s.clients) M N s.live.sent ok.mixes m o act));
    })
voter_gone b given s ok m o act true is =
    let M = voter_at s.live.voters in
    let N = voter_at s.voters in
    let v = m.voter in
    let within : v < length s.live.voters = subst (λ n. v < n) (sym ok.sizes.1) act.range.1 in
    let same : put M v o.state ≡ voter_at (slice_set s.live.voters v o.state) = sym (voter_at-set s.live.voters v o.state within) in
    unmoved b s _ refl refl (record {
      sizes = (ok.sizes.0, length-set s.live.voters v o.state ∙ ok.sizes.1, ok.sizes.2, ok.sizes.3);
      mixes = subst (λ (W : ℕ → VoterState). Mixes b (client_at s.live.clients) (client_at s.clients) W N (s.live.sent ++ map kinds.ToClient o.replies)) same
          (voter_quiet given.voter b (client_at s.live.clients) (client_at s.clients) M N s.live.sent ok.mixes m o act
          (none_of kinds.ToClient s.live.sent o.replies (silent_parts (length o.replies) Nothing is).0));
    })

pub voter_tried : (b : Bounds) → Grounds b → (s : Saved) → MixedOk b s → (m : ToVoter) → IsInRange b.voters b.clients b.limit (kinds.ToVoter m)
    → IsAskedInMix b (client_at s.live.clients) (client_at s.clients) s.live.sent m
    → (r : Option voter.Outcome) → voter.step (voter_at s.live.voters m.voter) m ≡ r → Follows b s (save_and_send s (OneVoter m.voter) (after_voter s.live m.voter r))
voter_tried b given s ok m range asked (Some o) is = voter_gone b given s ok m o (record { range = range; asked = asked; step = is }) _ refl
voter_tried b given s ok m range asked None is = stays b s ok

-- ---- saves and restarts

pub within_or : {A : Type 0} (xs : List A) (n : ℕ) → (n < length xs) ⊎ (length xs ≤ n)
within_or xs n = elim (ltb n (length xs)) as (λ t. ltb n (length xs) ≡ t → (n < length xs) ⊎ (length xs ≤ n)) [
  | true ↦ λ t. inl (grind (arith, nat_tests))
  | false ↦ λ t. inr (grind (arith, nat_tests))
] refl

save_ok : (b : Bounds) (who : Node) (s : Saved) → MixedOk b s → MixedOk b (save who s)
save_ok b Nobody s ok = ok
save_ok b (OneClient c) s ok = elim (within_or s.clients c) [
  | inl within ↦
      let L = client_at s.live.clients in
      let K = client_at s.clients in
      let kept : put K c (L c) ≡ client_at (slice_set s.clients c (L c)) = sym (client_at-set s.clients c (L c) within) in
      record {
        sizes = (ok.sizes.0, ok.sizes.1, length-set s.clients c (L c) ∙ ok.sizes.2, ok.sizes.3);
        mixes = subst (λ (W : ℕ → ClientState). Mixes b L W (voter_at s.live.voters) (voter_at s.voters) s.live.sent) kept
            (Mixes-fewer b L K L (put K c (L c)) (voter_at s.live.voters) (voter_at s.voters) (voter_at s.live.voters) (voter_at s.voters) s.live.sent ok.mixes
            (λ X mix. Mix-saved L K c X mix) (λ Y mix. mix));
      }
  | inr past ↦ subst (λ (l : List ClientState). MixedOk b (record s { clients = l })) (sym (set_past s.clients c (client_at s.live.clients c) past)) ok
]
save_ok b (OneVoter v) s ok = elim (within_or s.voters v) [
  | inl within ↦
      let M = voter_at s.live.voters in
      let N = voter_at s.voters in
      let kept : put N v (M v) ≡ voter_at (slice_set s.voters v (M v)) = sym (voter_at-set s.voters v (M v) within) in
      record {
        sizes = (ok.sizes.0, ok.sizes.1, ok.sizes.2, length-set s.voters v (M v) ∙ ok.sizes.3);
        mixes = subst (λ (W : ℕ → VoterState). Mixes b (client_at s.live.clients) (client_at s.clients) M W s.live.sent) kept
            (Mixes-fewer b (client_at s.live.clients) (client_at s.clients) (client_at s.live.clients) (client_at s.clients) M N M (put N v (M v)) s.live.sent ok.mixes
            (λ X mix. mix) (λ Y mix. Mix-saved M N v Y mix));
      }
  | inr past ↦ subst (λ (l : List VoterState). MixedOk b (record s { voters = l })) (sym (set_past s.voters v (voter_at s.live.voters v) past)) ok
]

sees_crash : (p q : Phase) → Sees p (crash_seen (is_inside p) (is_inside q)) q
sees_crash Idle Idle = refl
sees_crash Idle Asking = refl
sees_crash Idle Inside = (refl, refl)
sees_crash Asking Idle = refl
sees_crash Asking Asking = refl
sees_crash Asking Inside = (refl, refl)
sees_crash Inside Idle = (refl, refl)
sees_crash Inside Asking = (refl, refl)
sees_crash Inside Inside = refl

come_back_ok : (b : Bounds) (s : Saved) → MixedOk b s → (c : ℕ) → c < length s.live.clients → Follows b s (come_back s c (client_at s.clients c))
come_back_ok b s ok c within =
    let L = client_at s.live.clients in
    let K = client_at s.clients in
    let same : put L c (K c) ≡ client_at (slice_set s.live.clients c (K c)) = sym (client_at-set s.live.clients c (K c) within) in
    record {
      mixed = record {
        sizes = (length-set s.live.clients c (K c) ∙ ok.sizes.0, ok.sizes.1, ok.sizes.2, ok.sizes.3);
        mixes = subst (λ (W : ℕ → ClientState). Mixes b W K (voter_at s.live.voters) (voter_at s.voters) s.live.sent) same
            (Mixes-fewer b L K (put L c (K c)) K (voter_at s.live.voters) (voter_at s.voters) (voter_at s.live.voters) (voter_at s.voters) s.live.sent ok.mixes
            (λ X mix. Mix-restarted L K c X mix) (λ Y mix. mix));
      };
      shows = record {
        client = c;
        after = K c;
        seen = crash_seen (is_inside (L c).phase) (is_inside (K c).phase);
        visible = refl;
        clients = same;
        sees = sees_crash (L c).phase (K c).phase;
      };
    }

there : (b : Bounds) (s : Saved) → MixedOk b s → (t : Bool) (u : Saved) → (t ≡ true → Follows b s u) → Follows b s (if_there t u s)
there b s ok true u then = then refl
there b s ok false u then = stays b s ok

restart_ok : (b : Bounds) (who : Node) (s : Saved) → MixedOk b s → Follows b s (restart who s)
restart_ok b Nobody s ok = stays b s ok
restart_ok b (OneClient c) s ok = there b s ok _ _ (λ t. come_back_ok b s ok c (ltb-true _ _ t))
restart_ok b (OneVoter v) s ok = elim (within_or s.live.voters v) [
  | inl within ↦
      let M = voter_at s.live.voters in
      let N = voter_at s.voters in
      let same : put M v (N v) ≡ voter_at (slice_set s.live.voters v (N v)) = sym (voter_at-set s.live.voters v (N v) within) in
      unmoved b s _ refl refl (record {
        sizes = (ok.sizes.0, length-set s.live.voters v (N v) ∙ ok.sizes.1, ok.sizes.2, ok.sizes.3);
        mixes = subst (λ (W : ℕ → VoterState). Mixes b (client_at s.live.clients) (client_at s.clients) W N s.live.sent) same
            (Mixes-fewer b (client_at s.live.clients) (client_at s.clients) (client_at s.live.clients) (client_at s.clients) M N (put M v (N v)) N s.live.sent ok.mixes
            (λ X mix. mix) (λ Y mix. Mix-restarted M N v Y mix));
      })
  | inr past ↦ subst (λ (l : List VoterState). Follows b s (record s { live = record s.live { voters = l } })) (sym (set_past s.live.voters v (voter_at s.voters v) past)) (stays b s ok)
]

-- ---- all but the least is lost

-- the vote and the number of grants are the same
record HasSameVote (y z : VoterState) : Type 0 where
  held : y.held ≡ z.held
  granted : y.granted ≡ z.granted

asked_same : (x : ClientState) (y z : VoterState) (v c : ℕ) (body : VoterBody) → HasSameVote y z → AskOk x y v c body → AskOk x z v c body
asked_same x y z v c (asks.Request t) same ok = ok
asked_same x y z v c (asks.Relinquish g) same ok = (subst (λ n. g ≤ n) same.granted ok.0, λ t live names. ok.1 t live (same.held ∙ names))
asked_same x y z v c (asks.Release t) same ok = ok

reported_same : (X : ℕ → ClientState) (Y Z : ℕ → VoterState) → ((q : ℕ) → HasSameVote (Y q) (Z q)) → (m : Message) → MessageOk X Y m → MessageOk X Z m
reported_same X Y Z same (kinds.ToVoter m) ok = asked_same (X m.client) (Y m.voter) (Z m.voter) m.voter m.client m.body (same m.voter) ok
reported_same X Y Z same (kinds.ToClient m) ok = subst (λ held. ReportOk (X m.client) held m.voter m.client m.body) (same m.voter).held ok

least_voter_ok : (b : Bounds) (X : ℕ → ClientState) (y : VoterState) → VoterOk b X y → VoterOk b X (least_voter y)
least_voter_ok b X y ok = record {
  sound = kept.least_is_sound y ok.sound;
  entries = λ c s is. elim is [
    | inl held ↦ ok.entries c s (inl held)
    | inr waits ↦ absurd (none-some s (sym (fin.get-empty nat_cmp c) ∙ waits))
  ];
  numbered = ok.numbered;
  limit = ok.limit;
  seen = omega arith;
}

voter_less : (b : Bounds) (X : ℕ → ClientState) (Y : ℕ → VoterState) (sent : List Message) (v : ℕ) → WorldOk b X Y sent → WorldOk b X (put Y v (least_voter (Y v))) sent
voter_less b X Y sent v ok =
    let Z = put Y v (least_voter (Y v)) in
    let same : (q : ℕ) → HasSameVote (Y q) (Z q) = put-each (λ q z. HasSameVote (Y q) z) Y v (least_voter (Y v)) (record { held = refl; granted = refl }) (λ q. record { held = refl; granted = refl }) in
    record {
      messages = AllByRecursion-weaker (MessageOk X Y) (MessageOk X Z) (reported_same X Y Z same) sent ok.messages;
      ranges = ok.ranges;
      held = λ c q g is. sym (same q).held ∙ ok.held c q g is;
      last = λ c q. subst (λ n. last_of (X c) q ≤ n) (same q).granted (ok.last c q);
      clients = ok.clients;
      voters = put-each (λ q z. VoterOk b X z) Y v (least_voter (Y v)) (least_voter_ok b X (Y v) (ok.voters v)) ok.voters;
      client_ids = ok.client_ids;
      voter_ids = put-each (λ q z. q < b.voters → z.id ≡ q) Y v (least_voter (Y v)) (ok.voter_ids v) ok.voter_ids;
    }

-- What a client comes back with, if it lost its state: it is idle, no stamp fell, and it gave back no
-- grant that it had not given back before.
pub record ClientReturns (x y : ClientState) : Type 0 where
  pub sound : sound.IsSound y
  pub id : y.id ≡ x.id
  pub limit : y.limit ≡ x.limit
  pub stamp : x.stamp ≤ y.stamp
  pub idle : is_idle y.phase ≡ true
  pub last : (v : ℕ) → last_of y v ≤ last_of x v
  pub quorum : members y ≡ []

held_busy : (x : ClientState) → sound.IsSound x → (v g : ℕ) → holds_under x v g ≡ true → is_idle x.phase ≡ false
held_busy x ok v g is = (ok.held v (grind (arith, nat_tests))).busy

pub client_less : (b : Bounds) (X : ℕ → ClientState) (Y : ℕ → VoterState) (sent : List Message) (c : ℕ) (y : ClientState) → WorldOk b X Y sent → ClientReturns (X c) y → WorldOk b (put X c y) Y sent
client_less b X Y sent c y ok back =
    let W = put X c y in
    let later : (q : ℕ) → IsAfter (X q) (W q) = put-each (λ q z. IsAfter (X q) z) X c y (IsAfter-idle (X c) y back.stamp back.idle) (λ q. IsAfter-self (X q)) in
    record {
      messages = MessageOk-later b X W Y later ok.voters sent ok.messages;
      ranges = ok.ranges;
      held = put-each (λ q z. (v g : ℕ) → holds_under z v g ≡ true → Names (Y v).held q z.stamp g) X c y
          (λ v g is. absurd (false≢true (sym (held_busy y back.sound v g is) ∙ back.idle))) ok.held;
      last = put-each (λ q z. (v : ℕ) → last_of z v ≤ (Y v).granted) X c y (λ v. (let less = back.last v in let most = ok.last c v in omega arith)) ok.last;
      clients = put-each (λ q z. ClientOk b z) X c y (record { sound = back.sound; quorum = inl back.quorum }) ok.clients;
      voters = λ v. VoterOk-later b X W later (Y v) (ok.voters v);
      client_ids = put-each (λ q z. q < b.clients → IsClient q b.limit z) X c y
          (λ within. record { id = back.id ∙ (ok.client_ids c within).id; limit = back.limit ∙ (ok.client_ids c within).limit }) ok.client_ids;
      voter_ids = ok.voter_ids;
    }

least_comes_back : (x : ClientState) → sound.IsSound x → ClientReturns x (least_client x)
least_comes_back x ok = record {
  sound = least_is_sound x ok;
  id = refl;
  limit = refl;
  stamp = omega arith;
  idle = refl;
  last = λ v. (let none = slice_index-replicate_zero 64 v in omega arith);
  quorum = refl;
}

Mix-other : {A : Type 0} (L K X : ℕ → A) (c : ℕ) → MixBut c L K X → Mix L K (put X c (K c))
Mix-other L K X c others q = by_number (λ z. (z ≡ L q) ⊎ (z ≡ K q)) X c (K c) q (λ same. inr (ap K (sym same))) (others q)

client_forgets : (b : Bounds) (L K : ℕ → ClientState) (M N : ℕ → VoterState) (sent : List Message) (c : ℕ) → Mixes b L K M N sent → Mixes b L (put K c (least_client (K c))) M N sent
client_forgets b L K M N sent c all X Y mix other =
    let others = MixBut-put_right L K X c (least_client (K c)) mix in
    elim (mix c) [
      | inl e ↦ all X Y (Mix-with L K X c others (inl e)) other
      | inr e ↦
          let Z = put X c (K c) in
          subst (λ (W : ℕ → ClientState). WorldOk b W Y sent) (unput X c (K c) (least_client (Z c)) (e ∙ put-same K c (least_client (K c)) ∙ ap (λ x. least_client x) (sym (put-same X c (K c)))))
          (let world = all Z Y (Mix-other L K X c others) other in client_less b Z Y sent c (least_client (Z c)) world (least_comes_back (Z c) (world.clients c).sound))
    ]

voter_forgets : (b : Bounds) (L K : ℕ → ClientState) (M N : ℕ → VoterState) (sent : List Message) (v : ℕ) → Mixes b L K M N sent → Mixes b L K M (put N v (least_voter (N v))) sent
voter_forgets b L K M N sent v all X Y other mix =
    let others = MixBut-put_right M N Y v (least_voter (N v)) mix in
    elim (mix v) [
      | inl e ↦ all X Y other (Mix-with M N Y v others (inl e))
      | inr e ↦
          let Z = put Y v (N v) in
          subst (λ (W : ℕ → VoterState). WorldOk b X W sent) (unput Y v (N v) (least_voter (Z v)) (e ∙ put-same N v (least_voter (N v)) ∙ ap (λ y. least_voter y) (sym (put-same Y v (N v)))))
          (voter_less b X Z sent v (all X Z other (Mix-other M N Y v others)))
    ]

forget_ok : (b : Bounds) (who : Node) (s : Saved) → MixedOk b s → MixedOk b (forget who s)
forget_ok b Nobody s ok = ok
forget_ok b (OneClient c) s ok = elim (within_or s.clients c) [
  | inl within ↦
      let L = client_at s.live.clients in
      let K = client_at s.clients in
      let kept : put K c (least_client (K c)) ≡ client_at (slice_set s.clients c (least_client (K c))) = sym (client_at-set s.clients c (least_client (K c)) within) in
      record {
        sizes = (ok.sizes.0, ok.sizes.1, length-set s.clients c (least_client (K c)) ∙ ok.sizes.2, ok.sizes.3);
        mixes = subst (λ (W : ℕ → ClientState). Mixes b L W (voter_at s.live.voters) (voter_at s.voters) s.live.sent) kept
            (client_forgets b L K (voter_at s.live.voters) (voter_at s.voters) s.live.sent c ok.mixes);
      }
  | inr past ↦ subst (λ (l : List ClientState). MixedOk b (record s { clients = l })) (sym (set_past s.clients c (least_client (client_at s.clients c)) past)) ok
]
forget_ok b (OneVoter v) s ok = elim (within_or s.voters v) [
  | inl within ↦
      let M = voter_at s.live.voters in
      let N = voter_at s.voters in
      let kept : put N v (least_voter (N v)) ≡ voter_at (slice_set s.voters v (least_voter (N v))) = sym (voter_at-set s.voters v (least_voter (N v)) within) in
      record {
        sizes = (ok.sizes.0, ok.sizes.1, ok.sizes.2, length-set s.voters v (least_voter (N v)) ∙ ok.sizes.3);
        mixes = subst (λ (W : ℕ → VoterState). Mixes b (client_at s.live.clients) (client_at s.clients) M W s.live.sent) kept
            (voter_forgets b (client_at s.live.clients) (client_at s.clients) M N s.live.sent v ok.mixes);
      }
  | inr past ↦ subst (λ (l : List VoterState). MixedOk b (record s { voters = l })) (sym (set_past s.voters v (least_voter (voter_at s.voters v)) past)) ok
]

-- ---- reminders

client_said : (b : Bounds) → Grounds b → (s : Saved) → MixedOk b s → (c : ℕ) → c < length s.live.clients
    → (silent : Bool) → is_silent (length (map kinds.ToVoter (client.remind (client_at s.live.clients c)))) Nothing ≡ silent
    → Follows b s (save_unless silent (OneClient c) (record s { live = (say s.live (map kinds.ToVoter (client.remind (client_at s.live.clients c)))).state }))
client_said b given s ok c within false is =
    let L = client_at s.live.clients in
    let kept = save_ok b (OneClient c) s ok in
    let K = client_at (slice_set s.clients c (L c)) in
    let out = map kinds.ToVoter (client.remind (L c)) in
    let number : c < b.clients = subst (λ n. c < n) ok.sizes.0 within in
    let here : (X : ℕ → ClientState) → Mix L K X → X c ≡ L c = λ X mix. elim (mix c) [
      | inl e ↦ e
      | inr e ↦ e ∙ ap (λ (f : ℕ → ClientState). f c) (client_at-set s.clients c (L c) (subst (λ n. c < n) (sym ok.sizes.2) number)) ∙ put-same (client_at s.clients) c (L c)
    ] in
    unmoved b s _ refl refl (record {
      sizes = kept.sizes;
      mixes = λ X Y mix other. subst (λ (x : ClientState). WorldOk b X Y (s.live.sent ++ map kinds.ToVoter (client.remind x))) (here X mix)
          (client_reminds given.client b given.quorums X Y s.live.sent (kept.mixes X Y mix other) c number);
    })
client_said b given s ok c within true is =
    subst (λ (ms : List Message). Follows b s (record s { live = record s.live { sent = ms } }))
    (nothing_more s.live.sent (map kinds.ToVoter (client.remind (client_at s.live.clients c))) (silent_parts _ Nothing is).0) (stays b s ok)

voter_said : (b : Bounds) → Grounds b → (s : Saved) → MixedOk b s → (v : ℕ) → v < length s.live.voters
    → (silent : Bool) → is_silent (length (map kinds.ToClient (voter.remind (voter_at s.live.voters v)))) Nothing ≡ silent
    → Follows b s (save_unless silent (OneVoter v) (record s { live = (say s.live (map kinds.ToClient (voter.remind (voter_at s.live.voters v)))).state }))
voter_said b given s ok v within false is =
    let M = voter_at s.live.voters in
    let kept = save_ok b (OneVoter v) s ok in
    let N = voter_at (slice_set s.voters v (M v)) in
    let number : v < b.voters = subst (λ n. v < n) ok.sizes.1 within in
    let here : (Y : ℕ → VoterState) → Mix M N Y → Y v ≡ M v = λ Y mix. elim (mix v) [
      | inl e ↦ e
      | inr e ↦ e ∙ ap (λ (f : ℕ → VoterState). f v) (voter_at-set s.voters v (M v) (subst (λ n. v < n) (sym ok.sizes.3) number)) ∙ put-same (voter_at s.voters) v (M v)
    ] in
    unmoved b s _ refl refl (record {
      sizes = kept.sizes;
      mixes = λ X Y other mix. subst (λ (y : VoterState). WorldOk b X Y (s.live.sent ++ map kinds.ToClient (voter.remind y))) (here Y mix)
          (voter_reminds given.voter b X Y s.live.sent (kept.mixes X Y other mix) v number);
    })
voter_said b given s ok v within true is =
    subst (λ (ms : List Message). Follows b s (record s { live = record s.live { sent = ms } }))
    (nothing_more s.live.sent (map kinds.ToClient (voter.remind (voter_at s.live.voters v))) (silent_parts _ Nothing is).0) (stays b s ok)

-- ---- all that may happen

pub if_one : (b : Bounds) (s : Saved) → MixedOk b s → (who : Node) (t : Bool) (c : ℕ) (next : Result Outcome WorldFault) → (t ≡ true → Follows b s (save_and_send s who next)) → Follows b s
    (save_and_send s who (if_client t c next))
if_one b s ok who true c next then = then refl
if_one b s ok who false c next then = stays b s ok

pub if_voter_one : (b : Bounds) (s : Saved) → MixedOk b s → (who : Node) (t : Bool) (v : ℕ) (next : Result Outcome WorldFault) → (t ≡ true → Follows b s (save_and_send s who next)) → Follows b s
    (save_and_send s who (if_voter t v next))
if_voter_one b s ok who true v next then = then refl
if_voter_one b s ok who false v next then = stays b s ok

exchange_ok : (b : Bounds) (s : Saved) → MixedOk b s → (are_two : Bool) (side : Side) → Follows b s (save_and_send s Nobody (exchange are_two side s.live))
exchange_ok b s ok true First = unmoved b s _ refl refl (record { sizes = ok.sizes; mixes = ok.mixes })
exchange_ok b s ok true Second = stays b s ok
exchange_ok b s ok false side = stays b s ok

comes_ok : (b : Bounds) → Grounds b → (s : Saved) → MixedOk b s → (k : ℕ) (o : Option Message)
    → ((X : ℕ → ClientState) (Y : ℕ → VoterState) → WorldOk b X Y s.live.sent → (m : Message) → o ≡ Some m → MessageOk X Y m)
    → ((m : Message) → o ≡ Some m → IsInRange b.voters b.clients b.limit m) → Follows b s (save_and_send s (receiver o) (come s.live k o))
comes_ok b given s ok k None known range = stays b s ok
comes_ok b given s ok k (Some (kinds.ToVoter m)) known range =
    voter_tried b given s ok m (range (kinds.ToVoter m) refl) (λ X Y mix world. known X Y world (kinds.ToVoter m) refl) _ refl
comes_ok b given s ok k (Some (kinds.ToClient m)) known range =
    let within = range (kinds.ToClient m) refl in
    let few = given.limits.few_voters in
    let least = within.1 in
    client_tried b given s ok m.client (subst (λ n. m.client < n) (sym ok.sizes.0) within.0) (client.Takes m)
    (sym ((live_fits b s ok).client_ids m.client within.0).id, omega arith)
    (λ X Y world. came_by b (X m.client) Y m.voter m.client m.body within.1 within.3 (known X Y world (kinds.ToClient m) refl))
    tt _ refl

same_live : (b : Bounds) (s t : Saved) → s.live ≡ t.live → MixedOk b t → Follows b s t
same_live b s t live = unmoved b s t (ap (λ (w : WorldState). w.clients) live) (ap (λ (w : WorldState). w.visible) live)

save_live : (who : Node) (s : Saved) → s.live ≡ (save who s).live
save_live Nobody s = refl
save_live (OneClient c) s = refl
save_live (OneVoter v) s = refl

forget_live : (who : Node) (s : Saved) → s.live ≡ (forget who s).live
forget_live Nobody s = refl
forget_live (OneClient c) s = refl
forget_live (OneVoter v) s = refl

pub happens_mixed : (b : Bounds) → Grounds b → (deal : Dealing) → DealsFrom b.quorums deal → (s : Saved) → MixedOk b s → (h : Happening) → Follows b s (happens deal s h)
unfolding step
happens_mixed b given deal deals s ok (Goes (Ask c)) = if_one b s ok (OneClient c) _ c _ (λ t.
    let among = deals s.live.side (next_ticket s.live) in
    client_drew b given s ok c (ltb-true _ _ t) (client.Asks (quorum_dealt deal s.live.side (next_ticket s.live)))
    (one_accepted b given.quorums (quorum_dealt deal s.live.side (next_ticket s.live)) among) (λ X Y world v t g never. absurd never) among s.live.side _ refl)
happens_mixed b given deal deals s ok (Goes (Deliver k)) = comes_ok b given s ok k (slice_get s.live.sent k)
    (λ X Y world m is. AllByRecursion-get (MessageOk X Y) s.live.sent k m world.messages is)
    (λ m is. AllByRecursion-get (IsInRange b.voters b.clients b.limit) s.live.sent k m (live_fits b s ok).ranges is)
happens_mixed b given deal deals s ok (Goes (Leave c)) = if_one b s ok (OneClient c) _ c _
    (λ t. client_tried b given s ok c (ltb-true _ _ t) client.Leaves tt (λ X Y world v t g never. absurd never) tt _ refl)
happens_mixed b given deal deals s ok (Goes (GiveUp c)) = if_one b s ok (OneClient c) _ c _
    (λ t. client_tried b given s ok c (ltb-true _ _ t) client.GivesUp tt (λ X Y world v t g never. absurd never) tt _ refl)
happens_mixed b given deal deals s ok (Goes (RemindClient c)) = if_one b s ok (OneClient c) _ c _ (λ t. client_said b given s ok c (ltb-true _ _ t) _ refl)
happens_mixed b given deal deals s ok (Goes (RemindVoter v)) = if_voter_one b s ok (OneVoter v) _ v _ (λ t. voter_said b given s ok v (ltb-true _ _ t) _ refl)
happens_mixed b given deal deals s ok (Goes Exchange) = exchange_ok b s ok _ s.live.side
happens_mixed b given deal deals s ok (Saves who) = same_live b s _ (save_live who s) (save_ok b who s ok)
happens_mixed b given deal deals s ok (Forgets who) = same_live b s _ (forget_live who s) (forget_ok b who s ok)
happens_mixed b given deal deals s ok (Restarts who) = restart_ok b who s ok

-- ---- quorums that meet

pub record SavedOk (b : Bounds) (s : Saved) : Type 0 where
  pub sizes : AreAll b (length s.live.clients) (length s.live.voters) (length s.clients) (length s.voters)
  pub mixes : Mixes b (client_at s.live.clients) (client_at s.clients) (voter_at s.live.voters) (voter_at s.voters) s.live.sent
  pub walked : Walked s.live.visible (client_at s.live.clients)

pub mixed_of : (b : Bounds) (s : Saved) → SavedOk b s → MixedOk b s
mixed_of b s ok = record { sizes = ok.sizes; mixes = ok.mixes }

pub live_ok : (b : Bounds) (s : Saved) → SavedOk b s → WorldOk b (client_at s.live.clients) (voter_at s.live.voters) s.live.sent
live_ok b s ok = live_fits b s (mixed_of b s ok)

-- with quorums that meet nobody is inside together with another
pub follows_ok : (b : Bounds) → DoMeet b.voters b.quorums → (s t : Saved) → SavedOk b s → Follows b s t → SavedOk b t
follows_ok b meet s t ok next = record {
  sizes = next.mixed.sizes;
  mixes = next.mixed.mixes;
  walked = walks_on s t ok.walked next.shows (one_inside b meet (client_at t.live.clients) (voter_at t.live.voters) t.live.sent (live_fits b t next.mixed));
}

pub happens_ok : (b : Bounds) → RunPremises b → (deal : Dealing) → DealsFrom b.quorums deal → (s : Saved) → SavedOk b s → (h : Happening) → SavedOk b (happens deal s h)
happens_ok b given deal deals s ok h = follows_ok b given.meet s (happens deal s h) ok (happens_mixed b (grounds b given) deal deals s (mixed_of b s ok) h)

pub all_ok : (b : Bounds) → RunPremises b → (deal : Dealing) → DealsFrom b.quorums deal → (hs : List Happening) (s : Saved) → SavedOk b s → SavedOk b (all_happen deal hs s)
all_ok b given deal deals [] s ok = ok
all_ok b given deal deals (h ∷ hs) s ok = all_ok b given deal deals hs (happens deal s h) (happens_ok b given deal deals s ok h)

-- ---- the first world

pub Mix-same : {A : Type 0} (L X : ℕ → A) → Mix L L X → L ≡ X
Mix-same L X mix = λ i q. sym (elim (mix q) [ inl e ↦ e | inr e ↦ e ]) i

-- a world whose nodes are all saved as they are
pub saved_now : (b : Bounds) (w : WorldState) → RunOk b w → SavedOk b (record { live = w; clients = w.clients; voters = w.voters })
saved_now b w ok = record {
  sizes = (ok.clients, ok.voters, ok.clients, ok.voters);
  mixes = λ X Y mix other. subst (λ (V : ℕ → ClientState). WorldOk b V Y w.sent) (Mix-same (client_at w.clients) X mix)
      (subst (λ (V : ℕ → VoterState). WorldOk b (client_at w.clients) V w.sent) (Mix-same (voter_at w.voters) Y other) ok.world);
  walked = ok.walked;
}

pub begin_ok : (b : Bounds) → RunPremises b → SavedOk b (begin b.voters b.clients b.limit)
begin_ok b given = saved_now b (start b.voters b.clients b.limit) (start_ok b given)

-- over every list of happenings
pub every_restart : ClientLaws → VoterLaws → (voters clients limit : ℕ) (quorums : List (List ℕ)) (deal : Dealing) (hs : List Happening)
    → AreLimits voters clients limit → DoMeet voters quorums → DealsFrom quorums deal → IsExclusive (all_happen deal hs (begin voters clients limit)).live.visible
every_restart cs vs voters clients limit quorums deal hs limits meets deals =
    let b : Bounds = record { voters = voters; clients = clients; limit = limit; quorums = quorums } in
    let given : RunPremises b = record { client = cs; voter = vs; limits = limits; meet = meets } in
    (all_ok b given deal deals hs (begin voters clients limit) (begin_ok b given)).walked.list

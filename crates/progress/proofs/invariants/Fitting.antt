-- what clients gave back and what voters finished fit together, after every run
use Rattle.std.specs.FinMap.{get}
use Rattle.voter.specs.VoterContract.{IsEntry}
use Rattle.requester.specs.declared.state.Phase.TheVariants.{Asking, Idle, Inside}
use Rattle.requester.specs.declared.state.Phase.{Phase}
use Rattle.std.proofs.Common.{◌≡◌, ◌≢◌, ℕ, ◌+◌, ◌<◌, ◌≤◌, true, false, List, [], ◌∷◌, length, Option, Some, None, Ok, refl, sym, ap, subst, ◌∙◌, ◌⊎◌, inl, inr, arith}
use Rattle.std.specs.Prelude.{slice_index, ◌&&◌, ◌==◌, nat_lt, not}
use Rattle.std.specs.List.{list_all}
use Rattle.std.specs.Result.{result_ok}
use Rattle.std.proofs.lemmas.Bool.{cases_lt, false≢true, false_from_ne_true}
use Rattle.std.proofs.lemmas.Bool.Decides.{nat_tests}
use Rattle.std.proofs.lemmas.Option.{none-some, same_Some}
use Rattle.numbers.specs.Bounds.{max_voters}
use Rattle.numbers.proofs.Options.{false-by}
use Rattle.numbers.proofs.Lists.{slice_index-replicate_zero}
use Rattle.message.specs.declared.message.ToClient.{ToClient}
use Rattle.message.specs.declared.message.VoterBody.{VoterBody}
use Rattle.message.specs.declared.message.VoterBody.TheVariants as asks
use Rattle.voter.specs.declared.state.Grant.{Grant}
use Rattle.voter.specs.declared.state.VoterState.{VoterState}
use Rattle.voter.specs.Entries.{Finishes, FinishesBy}
use Rattle.voter.specs.Steps as voter
use Rattle.requester.specs.declared.state.ClientState.{ClientState}
use Rattle.requester.specs.Clocks.{KeepsTime}
use Rattle.requester.specs.RequesterContract.{IsLater, MeetsContract}
use Rattle.requester.specs.Soundness.{IsSound}
use Rattle.requester.specs.Steps as requester
use Rattle.requester.specs.Votes.{VoteFate}
use Rattle.requester.specs.Words.{held_of, holds, holds_under, is_asking, is_covered, is_current, is_idle, is_relinquished, last_of, members}
use Rattle.world.specs.Coherence.{AskOk, IsCoherent, Names}
use Rattle.world.specs.Runs.{start}
use Rattle.world_state.specs.Steps.{WorldState, client_at, step, voter_at}
use Rattle.progress.proofs.invariants.Always.{asked_by, granted_later, new_voter}
use Rattle.world.proofs.Reached.{client_new, client_past, new_clients, new_voters}
use Rattle.progress.proofs.overtaking.Behind.{ask-Ok, grant_moved, meets}
use Rattle.progress.specs.Rules.{Laws}
use Rattle.progress.proofs.run.Moves.{ClientMoved, Moved, VoterMoved, each_client, each_voter}
use Rattle.requester.proofs.Members.{list_all-weaker}
use Rattle.requester.proofs.Messages.{KeepsRequest-take, VoteFate-take}
use Rattle.requester.proofs.SoundSteps.{is_asking-busy, is_asking-outside}
use Rattle.world.proofs.Exclusion.{held_under}

-- the voter finished no request of the client that runs
pub record Unfinished (x : ClientState) (c : ℕ) (y : VoterState) : Type 0 where
  pub most : slice_index y.finished c ≤ x.stamp
  pub busy : is_idle x.phase ≡ false → slice_index y.finished c < x.stamp

-- a grant that has the vote for the request that runs, and was given back, is the last one given back,
-- and is marked so
abbrev pub GivenIsLast : ClientState → ℕ → ℕ → VoterState → Type 0
GivenIsLast x c v y = (g : Grant) → y.held ≡ Some g → g.client ≡ c → is_asking x.phase ≡ true → g.stamp ≡ x.stamp → g.grant ≤ last_of x v
    → (last_of x v ≡ g.grant) × (is_relinquished x v ≡ true)

-- what fits together of a client and a voter
pub record PairFits (c v : ℕ) (x : ClientState) (y : VoterState) : Type 0 where
  pub unfinished : Unfinished x c y
  pub last : last_of x v ≤ y.granted
  pub given : v < max_voters → GivenIsLast x c v y

-- a client that asks lacks a vote
abbrev pub Lacks : ClientState → Type 0
Lacks x = is_asking x.phase ≡ true → is_covered x ≡ false

pub record ClientsFit (cs : List ClientState) (vs : List VoterState) : Type 0 where
  pub pairs : (c v : ℕ) → PairFits c v (client_at cs c) (voter_at vs v)
  pub lacks : (c : ℕ) → Lacks (client_at cs c)

-- ---- words

pub current_busy : (x : ClientState) (s : ℕ) → is_current x s ≡ true → is_idle x.phase ≡ false
current_busy x s is = grind (arith, nat_tests)

pub current_stamp : (x : ClientState) (s : ℕ) → is_current x s ≡ true → s ≡ x.stamp
current_stamp x s is = grind (arith, nat_tests)

pub current_is : (x : ClientState) (s : ℕ) → is_asking x.phase ≡ true → s ≡ x.stamp → is_current x s ≡ true
current_is x s asks same = by_phase x.phase (let e : (s == x.stamp) ≡ true = grind (arith, nat_tests) in e) asks
  where
    by_phase : (q : Phase) → (s == x.stamp) ≡ true → is_asking q ≡ true → (not (is_idle q) && (s == x.stamp)) ≡ true
    by_phase Idle e a = absurd (false≢true a)
    by_phase Asking e a = e
    by_phase Inside e a = absurd (false≢true a)

pub not_current : (x : ClientState) (s : ℕ) → is_idle x.phase ≡ true → is_current x s ≡ false
not_current x s idle = grind (arith, nat_tests)

pub take-Ok : (x : ClientState) (m : ToClient) (o : requester.Outcome) → requester.step x (requester.Takes m) ≡ Ok o → requester.take x m ≡ o
unfolding requester.step
take-Ok x m o e = same_Some _ o (ap result_ok e)

-- ---- a client moves

Unfinished-later : (x z : ClientState) (c : ℕ) (y : VoterState) → IsLater x z → Unfinished x c y → Unfinished z c y
Unfinished-later x z c y later ok =
    let rises = later.stamp in
    let most = ok.most in
    record {
      most = omega arith;
      busy = λ busy. elim (cases_lt x.stamp z.stamp) [
        | inl less ↦ omega arith
        | inr least ↦ let same : x.stamp ≡ z.stamp = omega arith in let before = ok.busy (false-by _ _ (later.idle same) busy) in omega arith
      ];
    }

-- what is known of a vote before and after a client's step
record Vote (c v : ℕ) (x z : ClientState) (y : VoterState) : Type 0 where
  sound : IsSound z
  clock : x.stamp ≤ x.clock
  made : (g : Grant) → y.held ≡ Some g → g.client ≡ c → g.stamp ≤ x.stamp
  before : (n : ℕ) → holds_under x v n ≡ true → Names y.held c x.stamp n
  now : (n : ℕ) → holds_under z v n ≡ true → Names y.held c z.stamp n

grant_is : (o : Option Grant) (g : Grant) (c s n : ℕ) → o ≡ Some g → Names o c s n → g.grant ≡ n
grant_is o g c s n held names = ap (λ (h : Grant). h.grant) (same_Some g (record { client = c; stamp = s; grant = n }) (sym held ∙ names))

-- the grant by which a client holds a vote is the one that has it
pub held_grant : (u : WorldState) → IsCoherent u → (d v : ℕ) (g : Grant) → (voter_at u.voters v).held ≡ Some g → holds (client_at u.clients d) v ≡ true
    → g.grant ≡ held_of (client_at u.clients d) v
held_grant u ok d v g held has =
    let x = client_at u.clients d in
    grant_is (voter_at u.voters v).held g d x.stamp (held_of x v) held (ok.held d v (held_of x v) (held_under x v has))

pub held_some : (y : VoterState) (c s : ℕ) → voter.IsSound y → IsEntry y c s → (o : Option Grant) → y.held ≡ o → (g : Grant) × (y.held ≡ Some g)
held_some y c s ok entry None is = elim entry [
  | inl held ↦ (held.0, held.1)
  | inr waits ↦ absurd (none-some s (sym (ok.free is c) ∙ waits))
]
held_some y c s ok entry (Some g) is = (g, is)

pub own_stamp : (y : VoterState) (c s : ℕ) (g : Grant) → voter.IsSound y → IsEntry y c s → y.held ≡ Some g → g.client ≡ c → g.stamp ≡ s
own_stamp y c s g ok entry held own = elim entry [
  | inl has ↦ ap (λ (k : Grant). k.stamp) (same_Some g has.0 (sym held ∙ has.1)) ∙ has.3
  | inr waits ↦ absurd (none-some s (sym (ok.apart g held) ∙ ap (get y.waiting) own ∙ waits))
]

-- a request waits, if another client has the vote
pub entry_waits : (y : VoterState) (c s : ℕ) (g : Grant) → IsEntry y c s → y.held ≡ Some g → g.client ≢ c → get y.waiting c ≡ Some s
entry_waits y c s g entry held other = elim entry [
  | inl has ↦ absurd (other (ap (λ (k : Grant). k.client) (same_Some g has.0 (sym held ∙ has.1)) ∙ has.2))
  | inr waits ↦ waits
]

given_by : (c v : ℕ) (x : ClientState) (m : ToClient) (p : requester.Outcome) (y : VoterState) → Vote c v x p.state y → VoteFate m x p v → p.state.stamp ≡ x.stamp → is_asking x.phase ≡ true
    → GivenIsLast x c v y → GivenIsLast p.state c v y
given_by c v x m p y st (inl kept) stamp asked was g held own asks same few =
    let last = kept.last in
    let old = was g held own asked (same ∙ stamp) (omega arith) in
    (last ∙ old.0, kept.given ∙ old.1)
given_by c v x m p y st (inr (inl brought)) stamp asked was g held own asks same few =
    let z = p.state in
    let n = grant_is y.held g c z.stamp (held_of z v) held (st.now (held_of z v) (held_under z v brought.has)) in
    let newer = brought.newer in
    let last = brought.last in
    absurd (omega arith)
given_by c v x m p y st (inr (inr back)) stamp asked was g held own asks same few =
    let n = grant_is y.held g c x.stamp (held_of x v) held (st.before (held_of x v) (held_under x v back.had)) in
    (back.last ∙ sym n, back.given)

GivenIsLast-client : (laws : Laws) (c v : ℕ) (x z : ClientState) (y : VoterState) (cause : requester.Cause) (o : requester.Outcome) → IsSound x → v < max_voters
    → Vote c v x z y → o.state ≡ z → requester.step x cause ≡ Ok o
    → MeetsContract x cause o → KeepsTime x cause z → GivenIsLast x c v y → GivenIsLast z c v y
GivenIsLast-client laws c v x z y (requester.Asks q) o sound below st is step contract time was g held own asks same few =
    let stamp : x.clock + 1 ≡ z.stamp = ap (λ (p : requester.Outcome). p.state.stamp) (ask-Ok x q o step) ∙ ap (λ (w : ClientState). w.stamp) is in
    let made = st.made g held own in
    let behind = st.clock in
    absurd (omega arith)
GivenIsLast-client laws c v x z y (requester.Takes m) o sound below st is step contract time was g held own asks same few =
    let took : ClientState → requester.Outcome = λ w. record { out = (requester.take x m).out; seen = (requester.take x m).seen; state = w } in
    let fate = subst (λ w. VoteFate m x (took w) v) (ap (λ (p : requester.Outcome). p.state) (take-Ok x m o step) ∙ is) (laws.client.votes x m v sound) in
    elim (time.asking asks) [
      | inl before ↦ given_by c v x m (took z) y st fate before.1 before.0 was g held own asks same few
      | inr new ↦ let made = st.made g held own in let behind = st.clock in absurd (omega arith)
    ]
GivenIsLast-client laws c v x z y requester.Leaves o sound below st is step contract time was g held own asks same few =
    absurd (false≢true (sym (is_asking-busy z.phase asks) ∙ ap (λ (w : ClientState). is_idle w.phase) (sym is) ∙ contract.quorum.1))
GivenIsLast-client laws c v x z y requester.GivesUp o sound below st is step contract time was g held own asks same few =
    absurd (false≢true (sym (is_asking-busy z.phase asks) ∙ ap (λ (w : ClientState). is_idle w.phase) (sym is) ∙ contract.quorum.1))

last_by : (x z : ClientState) (v c : ℕ) (y : VoterState) → (last_of z v ≡ last_of x v) ⊎ (holds_under x v (last_of z v) ≡ true)
    → ((n : ℕ) → holds_under x v n ≡ true → Names y.held c x.stamp n) → voter.IsSound y → last_of x v ≤ y.granted → last_of z v ≤ y.granted
last_by x z v c y last held sound ok = elim last [
  | inl same ↦ omega arith
  | inr was ↦ sound.numbered (record { client = c; stamp = x.stamp; grant = last_of z v }) (held (last_of z v) was)
]

Pair-client : (laws : Laws) (u x : WorldState) → IsCoherent u → IsCoherent x → (k : ClientMoved u x) → (v : ℕ) → PairFits k.who v (client_at u.clients k.who) (voter_at u.voters v)
    → PairFits k.who v (client_at x.clients k.who) (voter_at u.voters v)
Pair-client laws u x ok now k v h =
    let old = client_at u.clients k.who in
    let new = client_at x.clients k.who in
    let y = voter_at u.voters v in
    let contract = meets laws.client u x ok now k in
    let time = subst (λ (z : ClientState). KeepsTime old k.cause z) (sym k.here) (laws.client.clock old k.cause k.outcome (ok.clients k.who) k.step) in
    let later = subst (λ (z : ClientState). IsLater old z) (sym k.here) contract.later in
    let last = subst (λ (z : ClientState). (last_of z v ≡ last_of old v) ⊎ (holds_under old v (last_of z v) ≡ true)) (sym k.here) (contract.last v) in
    let st : Vote k.who v old new y = record {
      sound = now.clients k.who;
      clock = (ok.clients k.who).clock;
      made = λ g held own. subst (λ c. g.stamp ≤ (client_at u.clients c).stamp) own (ok.made v g.client g.stamp (inl (g, held, refl, refl))).reached;
      before = λ n has. ok.held k.who v n has;
      now = λ n has. subst (λ (vs : List VoterState). Names (voter_at vs v).held k.who new.stamp n) k.voters (now.held k.who v n has);
    } in
    record {
      unfinished = Unfinished-later old new k.who y later h.unfinished;
      last = last_by old new v k.who y last (λ n has. ok.held k.who v n has) (ok.voters v) h.last;
      given = λ below. GivenIsLast-client laws k.who v old new y k.cause k.outcome (ok.clients k.who) below st (sym k.here) k.step contract time (h.given below);
    }

-- ---- who asks lacks a vote

pub Lacks-take : (x : ClientState) (m : ToClient) → IsSound x → Lacks x → Lacks (requester.take x m).state
Lacks-take x m sound h asks = false_from_ne_true (is_covered (requester.take x m).state) (λ covered.
    let z = (requester.take x m).state in
    let k = KeepsRequest-take x m in
    let before : (v : ℕ) → holds z v ≡ true → holds x v ≡ true = λ v has. elim (VoteFate-take x m v sound) [
      | inl kept ↦ ap (λ n. nat_lt 0 n) (sym kept.held) ∙ has
      | inr (inl brought) ↦ absurd (false≢true (sym (is_asking-outside z.phase asks) ∙ brought.inside ∙ covered))
      | inr (inr back) ↦ absurd (false≢true (sym (ap (λ n. nat_lt 0 n) back.gone) ∙ has))
    ] in
    elim k.phase [
      | inl same ↦ false≢true (sym (h (ap is_asking (sym same.0) ∙ asks)) ∙ list_all-weaker (holds z) (holds x) (members x) before (ap (λ q. list_all (holds z) q.items) (sym k.quorum) ∙ covered))
      | inr enters ↦ false≢true (sym (ap is_asking enters.after) ∙ asks)
    ])

none_held : (x : ClientState) (v : ℕ) → held_of x v ≡ 0 → holds x v ≡ false
none_held x v none = grind (arith, nat_tests)

-- a client that holds nothing, and whose quorum is not empty, lacks a vote
lacks_all : (x : ClientState) (q : List ℕ) → ((v : ℕ) → holds x v ≡ false) → 1 ≤ length q → list_all (holds x) q ≡ false
lacks_all x [] none some = absurd (omega arith)
lacks_all x (v ∷ vs) none some = (let here = none v in grind (arith, nat_tests))

Lacks-client : (x z : ClientState) (cause : requester.Cause) (o : requester.Outcome) → IsSound x → IsSound z → o.state ≡ z → requester.step x cause ≡ Ok o → MeetsContract x cause o → Lacks x → Lacks z
Lacks-client x z (requester.Asks q) o before sound is taken contract h asks =
    let state : requester.begin_request x q ≡ z = ap (λ (p : requester.Outcome). p.state) (ask-Ok x q o taken) ∙ is in
    subst (λ (w : ClientState). IsSound w → is_covered w ≡ false) state
    (λ ok. lacks_all (requester.begin_request x q) q (λ v. none_held (requester.begin_request x q) v (slice_index-replicate_zero max_voters v)) (ok.asked refl)) sound
Lacks-client x z (requester.Takes m) o before sound is taken contract h asks =
    subst (λ (w : ClientState). Lacks w) (ap (λ (p : requester.Outcome). p.state) (take-Ok x m o taken) ∙ is) (Lacks-take x m before h) asks
Lacks-client x z requester.Leaves o before sound is taken contract h asks = absurd (false≢true (sym (is_asking-busy z.phase asks) ∙ ap (λ (w : ClientState). is_idle w.phase) (sym is) ∙ contract.quorum.1))
Lacks-client x z requester.GivesUp o before sound is taken contract h asks = absurd (false≢true (sym (is_asking-busy z.phase asks) ∙ ap (λ (w : ClientState). is_idle w.phase) (sym is) ∙ contract.quorum.1))

Fits-client : (laws : Laws) (u x : WorldState) → IsCoherent u → IsCoherent x → ClientMoved u x → ClientsFit u.clients u.voters → ClientsFit x.clients x.voters
Fits-client laws u x ok now k h = subst (λ (vs : List VoterState). ClientsFit x.clients vs) (sym k.voters) (record {
  pairs = λ c v. each_client (λ c z. PairFits c v z (voter_at u.voters v)) u x k (Pair-client laws u x ok now k v (h.pairs k.who v)) (λ c. h.pairs c v) c;
  lacks = each_client (λ _ z. Lacks z) u x k
      (Lacks-client (client_at u.clients k.who) (client_at x.clients k.who) k.cause k.outcome (ok.clients k.who) (now.clients k.who) (sym k.here) k.step (meets laws.client u x ok now k) (h.lacks k.who)) h.lacks;
})

-- ---- a voter moves

finished_ok : (x : ClientState) (y : VoterState) (v c client n : ℕ) (b : VoterBody) → (c ≡ client → AskOk x y v client b) → Finishes client b c n → (n ≤ x.stamp) × (is_idle x.phase ≡ false → n < x.stamp)
finished_ok x y v c client n (asks.Request s) asked may = let most = asked may.0 in let less = may.1 in (omega arith, λ _. omega arith)
finished_ok x y v c client n (asks.Relinquish g) asked may = absurd may
finished_ok x y v c client n (asks.Release s) asked may =
    let ok = asked may.0 in
    let most = ok.0 in
    let up = may.1 in
    (omega arith, λ busy. let less = ok.1 busy in omega arith)

Unfinished-voter : (x : ClientState) (v c client : ℕ) (b : VoterBody) (y z : VoterState) → (c ≡ client → AskOk x y v client b) → FinishesBy y client b z → Unfinished x c y → Unfinished x c z
Unfinished-voter x v c client b y z asked by ok = elim (by c) [
  | inl stays ↦ let most = ok.most in record { most = omega arith; busy = λ busy. let less = ok.busy busy in omega arith }
  | inr may ↦ let k = finished_ok x y v c client (slice_index z.finished c) b asked may.0 in record { most = k.0; busy = k.1 }
]

Pair-voter : (laws : Laws) (u x : WorldState) → IsCoherent u → (k : VoterMoved u x) → (c : ℕ) → PairFits c k.message.voter (client_at u.clients c) (voter_at u.voters k.message.voter)
    → PairFits c k.message.voter (client_at u.clients c) k.outcome.state
Pair-voter laws u x ok k c h =
    let y = voter_at u.voters k.message.voter in
    let asked = asked_by u x ok k c in
    let rises = subst (λ (z : VoterState). y.granted ≤ z.granted) k.here (granted_later laws.voter u x ok k k.message.voter) in
    let last = h.last in
    record {
      unfinished = Unfinished-voter (client_at u.clients c) k.message.voter c k.message.client k.message.body y k.outcome.state asked (laws.voter.finishes y k.message k.outcome k.step) h.unfinished;
      last = omega arith;
      given = λ below g held own asks same few. elim (grant_moved laws.voter u x ok k g held) [
        | inl was ↦ h.given below g was own asks same few
        | inr next ↦ absurd (omega arith)
      ];
    }

Fits-voter : (laws : Laws) (u x : WorldState) → IsCoherent u → VoterMoved u x → ClientsFit u.clients u.voters → ClientsFit x.clients x.voters
Fits-voter laws u x ok k h = subst (λ (cs : List ClientState). ClientsFit cs x.voters) (sym k.clients) (record {
  pairs = λ c. each_voter (λ v y. PairFits c v (client_at u.clients c) y) u x k (Pair-voter laws u x ok k c (h.pairs c k.message.voter)) (h.pairs c);
  lacks = h.lacks;
})

pub Fits-moved : (laws : Laws) (u x : WorldState) → IsCoherent u → IsCoherent x → Moved u x → ClientsFit u.clients u.voters → ClientsFit x.clients x.voters
Fits-moved laws u x ok now moved h = elim moved [
  | inl client ↦ Fits-client laws u x ok now client h
  | inr (inl voter) ↦ Fits-voter laws u x ok voter h
  | inr (inr sent) ↦ subst (λ (cs : List ClientState). ClientsFit cs x.voters) (sym sent.clients) (subst (λ (vs : List VoterState). ClientsFit u.clients vs) (sym sent.voters) h)
]

-- ---- every run

pub new_client : (n limit c : ℕ) → (i : ℕ) × (l : ℕ) × (client_at (new_clients n limit) c ≡ requester.start i l)
new_client n limit c = elim (cases_lt c n) [ inl within ↦ (c, limit, client_new n limit c within) | inr beyond ↦ (0, 1, client_past n limit c beyond) ]

Pair-start : (c v i l j m : ℕ) → PairFits c v (requester.start i l) (voter.start j m)
Pair-start c v i l j m = record {
  unfinished = record { most = (let none = slice_index-replicate_zero 64 c in omega arith); busy = λ busy. absurd (false≢true (sym busy)) };
  last = (let none = slice_index-replicate_zero 64 v in omega arith);
  given = λ below g held. absurd (none-some g held);
}

pub Fits-start : (voters clients limit : ℕ) → ClientsFit (start voters clients limit).clients (start voters clients limit).voters
unfolding new_clients new_voters
Fits-start voters clients limit = record {
  pairs = λ c v.
      let x = new_client clients limit c in
      let y = new_voter voters limit v in
      subst (λ (z : ClientState). PairFits c v z (voter_at (new_voters voters limit) v)) (sym x.2)
      (subst (λ (z : VoterState). PairFits c v (requester.start x.0 x.1) z) (sym y.2) (Pair-start c v x.0 x.1 y.0 y.1));
  lacks = λ c. (let x = new_client clients limit c in subst (λ (z : ClientState). Lacks z) (sym x.2) (λ asks. absurd (false≢true asks)));
}

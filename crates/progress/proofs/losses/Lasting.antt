-- clients and grants go on: what is kept from one world to a later one
use Rattle.std.proofs.Common.{◌≡◌, ℕ, ◌<◌, ◌≤◌, true, false, List, [], ◌∷◌, ◌++◌, map, refl, sym, ap, subst, ◌∙◌, inl, inr, arith, length}
use Rattle.std.specs.List.{AllByRecursion}
use Rattle.std.proofs.lemmas.Bool.{false≢true, false_from_ne_true}
use Rattle.message.specs.declared.message.ToVoter.{ToVoter}
use Rattle.message.specs.declared.message.VoterBody.{VoterBody}
use Rattle.voter.specs.declared.state.VoterState.{VoterState}
use Rattle.requester.specs.declared.state.ClientState.{ClientState}
use Rattle.requester.specs.declared.state.Phase.{Phase}
use Rattle.requester.specs.declared.state.Phase.TheVariants.{Idle, Asking, Inside}
use Rattle.requester.specs.Steps as requester
use Rattle.requester.specs.Words.{is_asking, is_idle, last_of, members}
use Rattle.world_state.specs.declared.step.Step.{Step}
use Rattle.world.specs.Coherence.{IsCoherent}
use Rattle.world.specs.Runs.{run_of}
use Rattle.world.proofs.Plans.{run_then}
use Rattle.world_state.specs.Steps.{WorldState, client_at, voter_at}
use Rattle.progress.specs.LiveRounds.{HasGrantsThere}
use Rattle.progress.specs.Rules.{Laws}
use Rattle.progress.proofs.invariants.Always.{granted_rises}
use Rattle.progress.proofs.overtaking.Behind.{meets}
use Rattle.progress.proofs.rounds.Longer.{Grows-run}
use Rattle.progress.proofs.invariants.Inquiries.{Outlasts, Outlasts-self, Outlasts-then}
use Rattle.progress.proofs.run.Moves.{ClientMoved, Moved, each_client, each_voter, kept-by}
use Rattle.progress.proofs.losses.Olds.{AreOld, GoesLater, KeepsOlds, Outlasts-moved, same_grant}
use Rattle.progress.proofs.invariants.Placed.{NoRequest, NoRequests, same_members}
use Rattle.progress.proofs.invariants.Sure.{Course, IsSure, IsSure-run, LiveServe, Serving, stays_coherent}

-- ---- clients go on

-- The stamp does not fall, and no grant given back does. While the stamp stays, the client asks
-- only if it did, and then the same quorum; and it is idle once it was.
pub record Lasts (x y : ClientState) : Type 0 where
  pub stamp : x.stamp ≤ y.stamp
  pub last : (v : ℕ) → last_of x v ≤ last_of y v
  pub asks : y.stamp ≡ x.stamp → is_asking y.phase ≡ true → is_asking x.phase ≡ true
  pub quorum : y.stamp ≡ x.stamp → is_asking y.phase ≡ true → members y ≡ members x
  pub idle : y.stamp ≡ x.stamp → is_idle x.phase ≡ true → is_idle y.phase ≡ true

pub Lasts-self : (x : ClientState) → Lasts x x
Lasts-self x = record { stamp = omega arith; last = λ v. omega arith; asks = λ _ asks. asks; quorum = λ _ _. refl; idle = λ _ idle. idle }

pub Lasts-then : (x y z : ClientState) → Lasts x y → Lasts y z → Lasts x z
Lasts-then x y z a b =
    let first = a.stamp in
    let second = b.stamp in
    record {
      stamp = omega arith;
      last = λ v. (let p = a.last v in let q = b.last v in omega arith);
      asks = λ same asks. (let late : z.stamp ≡ y.stamp = omega arith in let early : y.stamp ≡ x.stamp = omega arith in a.asks early (b.asks late asks));
      quorum = λ same asks. (let late : z.stamp ≡ y.stamp = omega arith in let early : y.stamp ≡ x.stamp = omega arith in b.quorum late asks ∙ a.quorum early (b.asks late asks));
      idle = λ same idle. (let late : z.stamp ≡ y.stamp = omega arith in let early : y.stamp ≡ x.stamp = omega arith in b.idle late (a.idle early idle));
    }

lasts_own : (laws : Laws) (u x : WorldState) → IsCoherent u → IsCoherent x → (k : ClientMoved u x) → Lasts (client_at u.clients k.who) k.outcome.state
lasts_own laws u x ok now k =
    let old = client_at u.clients k.who in
    let contract = meets laws.client u x ok now k in
    let time = laws.client.clock old k.cause k.outcome (ok.clients k.who) k.step in
    let behind = (ok.clients k.who).clock in
    record {
      stamp = contract.later.stamp;
      last = contract.later.last;
      asks = λ same asks. elim (time.asking asks) [
        | inl before ↦ before.0
        | inr new ↦ absurd (omega arith)
      ];
      quorum = λ same asks. same_members old k.outcome.state k.cause k.outcome (ok.clients k.who) k.step refl contract.quorum same;
      idle = λ same idle. contract.later.idle (sym same) idle;
    }

pub Lasts-moved : (laws : Laws) (u x : WorldState) → IsCoherent u → IsCoherent x → Moved u x → (d : ℕ) → Lasts (client_at u.clients d) (client_at x.clients d)
Lasts-moved laws u x ok now moved d = elim moved [
  | inl k ↦ each_client (λ c z. Lasts (client_at u.clients c) z) u x k (subst (λ (z : ClientState). Lasts (client_at u.clients k.who) z) (sym k.here) (lasts_own laws u x ok now k))
      (λ c. Lasts-self (client_at u.clients c)) d
  | inr (inl k) ↦ subst (λ (cs : List ClientState). Lasts (client_at u.clients d) (client_at cs d)) (sym k.clients) (Lasts-self (client_at u.clients d))
  | inr (inr k) ↦ subst (λ (cs : List ClientState). Lasts (client_at u.clients d) (client_at cs d)) (sym k.clients) (Lasts-self (client_at u.clients d))
]

pub Lasts-run : (laws : Laws) (p : Course) (steps : List Step) (u : WorldState) → IsSure p u → (d : ℕ)
    → Lasts (client_at u.clients d) (client_at (run_of p.deal steps u).clients d)
Lasts-run laws p steps u r d = kept-by (λ x. Lasts (client_at u.clients d) (client_at x.clients d))
    (λ x y ok now moved h. Lasts-then (client_at u.clients d) (client_at x.clients d) (client_at y.clients d) h (Lasts-moved laws x y ok now moved d))
    p.deal steps u (stays_coherent p u r) (Lasts-self (client_at u.clients d))

pub Outlasts-run : (laws : Laws) (p : Course) (steps : List Step) (u : WorldState) → IsSure p u → (v : ℕ) → Outlasts (voter_at u.voters v) (voter_at (run_of p.deal steps u).voters v)
Outlasts-run laws p steps u r v = kept-by (λ x. Outlasts (voter_at u.voters v) (voter_at x.voters v))
    (λ x y ok now moved h. Outlasts-then (voter_at u.voters v) (voter_at x.voters v) (voter_at y.voters v) h (Outlasts-moved x y moved v))
    p.deal steps u (stays_coherent p u r) (Outlasts-self (voter_at u.voters v))

pub Goes-run : (laws : Laws) (p : Course) (steps : List Step) (u : WorldState) → AreOld p u → IsSure p u → GoesLater p u (run_of p.deal steps u)
Goes-run laws p steps u few r = record {
  few = few;
  outlasts = Outlasts-run laws p steps u r;
  last = λ d v. (Lasts-run laws p steps u r d).last v;
}

-- ---- grants are not used up

-- the voter has given no fewer grants, and can give no more
record Gives (y z : VoterState) : Type 0 where
  granted : y.granted ≤ z.granted
  limit : z.limit ≡ y.limit

Gives-moved : (laws : Laws) (u x : WorldState) → IsCoherent u → Moved u x → (v : ℕ) → Gives (voter_at u.voters v) (voter_at x.voters v)
Gives-moved laws u x ok moved v = elim moved [
  | inl k ↦ subst (λ (vs : List VoterState). Gives (voter_at u.voters v) (voter_at vs v)) (sym k.voters) (record { granted = omega arith; limit = refl })
  | inr (inl k) ↦
      let y = voter_at u.voters k.message.voter in
      each_voter (λ v z. Gives (voter_at u.voters v) z) u x k (record {
        granted = granted_rises _ y k.outcome.state (laws.voter.numbers y k.message k.outcome (ok.voters k.message.voter) k.step);
        limit = (laws.voter.carries y k.message k.outcome k.step).limit;
      }) (λ v. record { granted = omega arith; limit = refl }) v
  | inr (inr k) ↦ subst (λ (vs : List VoterState). Gives (voter_at u.voters v) (voter_at vs v)) (sym k.voters) (record { granted = omega arith; limit = refl })
]

Gives-run : (laws : Laws) (p : Course) (steps : List Step) (u : WorldState) → IsSure p u → (v : ℕ)
    → Gives (voter_at u.voters v) (voter_at (run_of p.deal steps u).voters v)
Gives-run laws p steps u r v = kept-by (λ x. Gives (voter_at u.voters v) (voter_at x.voters v))
    (λ x y ok now moved h. (let more = Gives-moved laws x y ok moved v in let a = h.granted in let b = more.granted in record { granted = omega arith; limit = more.limit ∙ h.limit }))
    p.deal steps u (stays_coherent p u r) (record { granted = omega arith; limit = refl })

pub left_grants : (laws : Laws) (p : Course) (steps : List Step) (u : WorldState) → IsSure p u → HasGrantsThere p.live 1 (run_of p.deal steps u) → (v : ℕ) → v < length u.voters → p.live.voter v ≡ true
    → (voter_at u.voters v).granted < (voter_at u.voters v).limit
left_grants laws p steps u r left v within up =
    let gives = Gives-run laws p steps u r v in
    let grows = Grows-run laws p steps u r in
    let end = left v (subst (λ n. v < n) (sym grows.voters) within) up in
    let rises = gives.granted in
    let limit = gives.limit in
    omega arith

pub left_before : (laws : Laws) (p : Course) (steps : List Step) (u : WorldState) → IsSure p u → Serving p u (run_of p.deal steps u) → LiveServe p u
left_before laws p steps u r left = record { grants = left_grants laws p steps u r left.grants; out = λ d dead. (left.out d dead).0 }

-- what is so up to the end of two lists of steps is so of both
pub serving_both : (laws : Laws) (p : Course) (a b : List Step) (x : WorldState) → IsSure p x → Serving p x (run_of p.deal (a ++ b) x)
    → Serving p x (run_of p.deal a x) × Serving p (run_of p.deal a x) (run_of p.deal b (run_of p.deal a x))
serving_both laws p a b x r whole =
    let deal = p.deal in
    let y = run_of deal a x in
    let z = run_of deal b y in
    let ry = IsSure-run p a x r in
    let h : Serving p x z = subst (Serving p x) (run_then deal a b x) whole in
    let still : (d : ℕ) → p.live.client d ≡ false → (client_at y.clients d).stamp ≡ (client_at x.clients d).stamp = λ d dead.
    (let end = (h.out d dead).1 in let first = (Lasts-run laws p a x r d).stamp in let later = (Lasts-run laws p b y ry d).stamp in omega arith) in (
      record {
        grants = λ v within up. (let lt = left_grants laws p b y ry h.grants v within up in omega arith);
        out = λ d dead. ((h.out d dead).0, still d dead);
      },
      record {
        grants = h.grants;
        out = λ d dead. ((Lasts-run laws p a x r d).idle (still d dead) (h.out d dead).0, (h.out d dead).1 ∙ sym (still d dead));
      },
    )

-- ---- requests that run on

-- the client has its stamp, and asks if it did, and then the same quorum
pub record SameAsk (x y : ClientState) : Type 0 where
  pub stamp : y.stamp ≡ x.stamp
  pub asks : is_asking y.phase ≡ is_asking x.phase
  pub quorum : is_asking x.phase ≡ true → members y ≡ members x

pub same_between : (x y z : ClientState) → Lasts x y → Lasts y z → z.stamp ≡ x.stamp → (is_asking x.phase ≡ true → is_asking z.phase ≡ true) → SameAsk x y
same_between x y z a b end asks =
    let first = a.stamp in
    let second = b.stamp in
    let early : y.stamp ≡ x.stamp = omega arith in
    let late : z.stamp ≡ y.stamp = omega arith in
    record {
      stamp = early;
      asks = elim (is_asking x.phase) as (λ t. is_asking x.phase ≡ t → is_asking y.phase ≡ t) [
        | true ↦ λ is. b.asks late (asks is)
        | false ↦ λ is. false_from_ne_true (is_asking y.phase) (λ now. false≢true (sym is ∙ a.asks early now))
      ] refl;
      quorum = λ is. a.quorum early (b.asks late (asks is));
    }

-- the client neither entered nor gave up since the world w, and each voter has a grant left
pub record RunsOn (p : Course) (w : WorldState) (d : ℕ) (x : WorldState) : Type 0 where
  pub reached : IsSure p x
  pub same : SameAsk (client_at w.clients d) (client_at x.clients d)
  pub left : LiveServe p x

-- ---- what is sent meanwhile

pub no_asks_to : (x : ClientState) (b : VoterBody) (vs : List ℕ) → NoRequest b → NoRequests (map (λ v. requester.tell x v b) vs)
no_asks_to x b [] none = tt
no_asks_to x b (v ∷ vs) none = (none, no_asks_to x b vs none)

asking_all : (x : ClientState) (out : List ToVoter) → is_asking x.phase ≡ true → AllByRecursion (λ (m : ToVoter). is_asking x.phase ≡ true) out
asking_all x [] asks = tt
asking_all x (m ∷ out) asks = (asks, asking_all x out asks)

asking_by : (q : Phase) (x : ClientState) → is_asking x.phase ≡ is_asking q → AllByRecursion (λ (m : ToVoter). is_asking x.phase ≡ true) (requester.remind_in q x)
asking_by Idle x is = tt
asking_by Asking x is = asking_all x _ is
asking_by Inside x is = tt

pub reminds_asking : (x : ClientState) → AllByRecursion (λ (m : ToVoter). is_asking x.phase ≡ true) (requester.remind x)
unfolding requester.remind
reminds_asking x = asking_by x.phase x refl

-- ---- old grants

-- what holds of old grants at the end of two lists of steps holds of both
pub record KeepsBoth (p : Course) (a b : List Step) (x : WorldState) : Type 0 where
  pub first : KeepsOlds p x (run_of p.deal a x)
  pub few : AreOld p (run_of p.deal a x)
  pub rest : KeepsOlds p (run_of p.deal a x) (run_of p.deal b (run_of p.deal a x))

pub keeps_both : (laws : Laws) (p : Course) (a b : List Step) (x : WorldState) → AreOld p x → IsSure p x → KeepsOlds p x (run_of p.deal (a ++ b) x) → KeepsBoth p a b x
keeps_both laws p a b x few r keeps =
    let deal = p.deal in
    let y = run_of deal a x in
    let go = Goes-run laws p a x few r in
    let goes = run_then deal a b x in
    record {
      first = λ v g held less free.
          let end = keeps v g held less free in
          let same = ap (λ (u : WorldState). last_of (client_at u.clients g.client) v) goes in
          let rises = (Lasts-run laws p b y (IsSure-run p a x r) g.client).last v in
          omega arith;
      few = λ v. (let most = few v in let rises = (go.outlasts v).granted in omega arith);
      rest = λ v g held less free.
          let was = same_grant p x v g (voter_at y.voters v) few (go.outlasts v) held less in
          let rises = go.last g.client v in
          subst (λ (u : WorldState). last_of (client_at u.clients g.client) v < g.grant) goes (keeps v g was less (omega arith));
    }

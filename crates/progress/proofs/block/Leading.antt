-- how the votes come to a request that precedes all others that run, once no voter's grant is behind it; later
-- requests may begin and end meanwhile
use Rattle.std.proofs.Common.{◌≡◌, ◌≢◌, ℕ, ◌<◌, ◌≤◌, true, false, List, [], ◌∷◌, ◌++◌, length, Some, refl, sym, ap, subst, subst₂, ◌∙◌, ◌⊎◌, inl, inr, arith}
use Rattle.std.proofs.lemmas.Bool.{cases_eq, cases_lt, false≢true, false_from_ne_true}
use Rattle.std.proofs.lemmas.Option.{same_Some}
use Rattle.message.specs.declared.message.ToClient.{ToClient}
use Rattle.message.specs.declared.message.VoterBody.TheVariants as asks
use Rattle.message.specs.declared.request.Request.{Request}
use Rattle.voter.specs.declared.state.Grant.{Grant}
use Rattle.voter.specs.declared.state.VoterState.{VoterState}
use Rattle.voter.specs.Entries.{request_of}
use Rattle.voter.specs.VoterContract.{IsEntry}
use Rattle.message.specs.Requests.{precedes}
use Rattle.requester.specs.declared.state.ClientState.{ClientState}
use Rattle.requester.specs.Steps as requester
use Rattle.requester.specs.Votes.{AsksFor}
use Rattle.requester.specs.Words.{held_of, holds, is_current, is_inquired, last_of}
use Rattle.requester.proofs.SoundSteps.{is_asking-busy}
use Rattle.world_state.specs.declared.step.Step.{Step}
use Rattle.world_state.specs.declared.step.Step.TheVariants.{Deliver, RemindClient, RemindVoter}
use Rattle.world.specs.Runs.{run_of}
use Rattle.world_state.specs.Steps.{WorldState, client_at, voter_at}
use Rattle.world.proofs.Plans.{run_then}
use Rattle.progress.specs.LiveRounds.{AreLiveRounds, IsLiveRound, IsReminded}
use Rattle.progress.specs.Moves.{of_steps}
use Rattle.progress.specs.Rules.{Laws}
use Rattle.progress.proofs.block.Ahead.{grant_step}
use Rattle.progress.proofs.invariants.Inquiries.{asks_no_vote}
use Rattle.progress.proofs.run.Along.{Along, along-first, along-kept, along-last, along-or, along-split, next, reminded_at}
use Rattle.progress.proofs.overtaking.Behind.{the_request}
use Rattle.progress.proofs.invariants.Fitting.{held_grant, own_stamp}
use Rattle.progress.proofs.run.Moves.{Came, ClientMoved, Makes, MovedBy, Moved-by, OnlySent, VoterMoved}
use Rattle.progress.proofs.block.Known.{within_by}
use Rattle.progress.proofs.losses.Olds.{KeepsOlds, Outlasts-moved}
use Rattle.progress.proofs.invariants.Outstanding.{came_noted}
use Rattle.progress.proofs.block.Overdue.{Only, gives_back}
use Rattle.progress.proofs.block.Steady.{AskedFor, GivenBack, GivenBack-lasting, GrantHasVote, IsLasting, IsOfSome, Marked, Marked-lasting, Never, Never-lasting, Seeks, Steady, KnowsGrant, Told-lasting, With, asked, asks_now, client_live, fate_goes, held_exists, not_given_back, steady_ok, told, voter_below, voter_within}
use Rattle.progress.proofs.invariants.Sure.{Course, Sure}

-- ---- worlds in which the request leads

-- The request of the client m runs as in the world w, and none that precedes it runs.
pub record Clear (p : Course) (w : WorldState) (m : ℕ) (x : WorldState) : Type 0 where
  pub steady : Steady p w (Only m) x
  pub count : length x.clients ≡ length w.clients
  pub over : (d t : ℕ) → precedes (record { stamp = t; client = d }) (the_request w m) ≡ true → is_current (client_at x.clients d) t ≡ false

-- this REQUEST is the one of the client m, or a later one
abbrev pub NotAhead : WorldState → ℕ → ℕ → ℕ → Type 0
NotAhead w m d t = ((d ≡ m) × (t ≡ (client_at w.clients m).stamp)) ⊎ (precedes (the_request w m) (record { stamp = t; client = d }) ≡ true)

-- a step by which no REQUEST comes that precedes it
abbrev pub Hushed : WorldState → ℕ → Step → WorldState → WorldState → Type 0
Hushed w m s x y = ((k : ClientMoved x y) × Makes s k.who k.cause) ⊎ ((k : VoterMoved x y) × (s ≡ Deliver k.place) × ((t : ℕ) → k.message.body ≡ asks.Request t → NotAhead w m k.message.client t)) ⊎ OnlySent x y

pub hushed_moved : (w : WorldState) (m : ℕ) (s : Step) (x y : WorldState) → Hushed w m s x y → MovedBy s x y
hushed_moved w m s x y moved = elim moved [
  | inl client ↦ inl client
  | inr (inl voter) ↦ inr (inl (voter.0, voter.1))
  | inr (inr sent) ↦ inr (inr sent)
]

-- and by which no old grant is given back
abbrev pub Quietly : Course → WorldState → ℕ → Step → WorldState → WorldState → Type 0
Quietly p w m s x y = Hushed w m s x y × KeepsOlds p x y

pub quietly_moved : (p : Course) (w : WorldState) (m : ℕ) (s : Step) (x y : WorldState) → Quietly p w m s x y → MovedBy s x y
quietly_moved p w m s x y moved = hushed_moved w m s x y moved.0

-- along quiet steps
pub along-quiet : (P : WorldState → Type 0) (p : Course) (w : WorldState) (m : ℕ) (steps : List Step) (x : WorldState) → Along P (Quietly p w m) p.deal steps x → Along P MovedBy p.deal steps x
along-quiet P p w m [] x h = h
along-quiet P p w m (s ∷ steps) x h = (h.0, quietly_moved p w m s x (next p.deal x s) h.1, along-quiet P p w m steps (next p.deal x s) h.2)

-- the grant is of the request itself
pub is_own : (laws : Laws) (p : Course) (w : WorldState) (m v : ℕ) → Seeks p w (Only m) m v → (x : WorldState) → Steady p w (Only m) x → (g : Grant) → (voter_at x.voters v).held ≡ Some g → g.client ≡ m → IsOfSome w (Only m) g
is_own laws p w m v f x calm g held own = (
  own,
  own_stamp (voter_at x.voters v) m (client_at w.clients m).stamp g ((steady_ok laws p w (Only m) x calm).voters v) (calm.known m v f.asks f.member) held own
      ∙ ap (λ i. (client_at w.clients i).stamp) (sym own),
)

-- ---- INQUIRE

-- an INQUIRE for its own grant was outstanding before
pub inquiry_own : (laws : Laws) (p : Course) (w : WorldState) (m v : ℕ) → Seeks p w (Only m) m v → (s : Step) (x y : WorldState) → Steady p w (Only m) x → Quietly p w m s x y → (g : Grant) → IsOfSome w (Only m) g
    → (voter_at y.voters v).held ≡ Some g → (voter_at y.voters v).inquiring ≡ true → ((voter_at x.voters v).held ≡ Some g) × ((voter_at x.voters v).inquiring ≡ true)
inquiry_own laws p w m v f s x y calm moved g own held is = elim moved.0 [
  | inl k ↦ (ap (λ (vs : List VoterState). (voter_at vs v).held) (sym k.0.voters) ∙ held, ap (λ (vs : List VoterState). (voter_at vs v).inquiring) (sym k.0.voters) ∙ is)
  | inr (inl moves) ↦
      let k = moves.0 in
      elim (cases_eq v k.message.voter) [
        | inr other ↦ (ap (λ (z : VoterState). z.held) (sym (k.others v other)) ∙ held, ap (λ (z : VoterState). z.inquiring) (sym (k.others v other)) ∙ is)
        | inl same ↦
            let ok = steady_ok laws p w (Only m) x calm in
            let stamp = (client_at w.clients m).stamp in
            let old = voter_at x.voters k.message.voter in
            let here = ap (voter_at y.voters) same ∙ k.here in
            let entry = subst (λ q. IsEntry (voter_at x.voters q) m stamp) same (calm.known m v f.asks f.member) in
            let number : g.stamp ≡ stamp = own.1 ∙ ap (λ i. (client_at w.clients i).stamp) own.0 in
            let is_it : the_request w m ≡ request_of g = λ i. record { stamp = sym number i; client = sym own.0 i } in
            let r = asks_no_vote old k.message k.outcome (ok.voters k.message.voter) g (λ t body. elim (moves.2 t body) [
              | inl mine ↦ inl (subst₂ (λ d n. IsEntry old d n) (sym mine.0) (sym mine.1) entry)
              | inr later ↦ inr (subst (λ (q : Request). precedes q (record { stamp = t; client = k.message.client }) ≡ true) is_it later)
            ]) k.step (ap (λ (q : VoterState). q.held) (sym here) ∙ held) (ap (λ (q : VoterState). q.inquiring) (sym here) ∙ is) in
            (ap (λ q. (voter_at x.voters q).held) same ∙ r.0, ap (λ q. (voter_at x.voters q).inquiring) same ∙ r.1)
      ]
  | inr (inr k) ↦ (ap (λ (vs : List VoterState). (voter_at vs v).held) (sym k.voters) ∙ held, ap (λ (vs : List VoterState). (voter_at vs v).inquiring) (sym k.voters) ∙ is)
]

-- ---- grants that are settled

-- The grant is for the client m, which did not give it back, and the voter has not asked for it.
pub record IsSettled (m v : ℕ) (x : WorldState) (g : Grant) : Type 0 where
  pub own : g.client ≡ m
  pub fresh : last_of (client_at x.clients m) v < g.grant
  pub quiet : (voter_at x.voters v).inquiring ≡ false

-- a new grant of the request is settled
new_settled : (laws : Laws) (p : Course) (w : WorldState) (m v : ℕ) → Seeks p w (Only m) m v → (s : Step) (x y : WorldState) → Steady p w (Only m) x → Quietly p w m s x y → (g : Grant) → IsOfSome w (Only m) g
    → (voter_at y.voters v).held ≡ Some g → (voter_at x.voters v).granted < g.grant → y.clients ≡ x.clients → IsSettled m v y g
new_settled laws p w m v f s x y calm moved g own held new clients = record {
  own = own.0;
  fresh = subst (λ (cs : List ClientState). last_of (client_at cs m) v < g.grant) (sym clients) (let few = ((calm.reached []).fits.pairs m v).last in omega arith);
  quiet = false_from_ne_true (voter_at y.voters v).inquiring (λ is.
      let was = (inquiry_own laws p w m v f s x y calm moved g own held is).0 in
      let few = ((steady_ok laws p w (Only m) x calm).voters v).numbered g was in
      (let none : ⊥ = omega arith in none));
}

-- a grant of the request is as before, or settled
own_step : (laws : Laws) (p : Course) (w : WorldState) (m v : ℕ) → Seeks p w (Only m) m v → (s : Step) (x y : WorldState) → Steady p w (Only m) x → Steady p w (Only m) y → Quietly p w m s x y → (g : Grant)
    → (voter_at y.voters v).held ≡ Some g → g.client ≡ m → ((voter_at x.voters v).held ≡ Some g) ⊎ IsSettled m v y g
own_step laws p w m v f s x y before after moved g held own = elim (grant_step laws p w (Only m) m v f s x y before after (quietly_moved p w m s x y moved) g held) [
  | inl was ↦ inl was
  | inr new ↦ inr (new_settled laws p w m v f s x y before moved g (is_own laws p w m v f y after g held own) held new.1 new.2)
]

-- a vote that is given back was asked for
returned_asked : (p : Course) (x : WorldState) (d v : ℕ) → Sure p x → (t : ToClient) → Came x d (requester.Takes t) → (is_inquired (client_at x.clients d) v ≡ true) ⊎ AsksFor t (client_at x.clients d) v
    → p.old v ≤ held_of (client_at x.clients d) v → (voter_at x.voters v).inquiring ≡ true
returned_asked p x d v sure t came why new = elim why [
  | inl marked ↦ sure.out.marks d v marked new
  | inr asked ↦ came_noted p.old x sure.coherent d v t sure.out.noted came asked new
]

pub settled_kept : (laws : Laws) (p : Course) (w : WorldState) (m v : ℕ) → Seeks p w (Only m) m v → (s : Step) (x y : WorldState) → Steady p w (Only m) x → Steady p w (Only m) y → Quietly p w m s x y
    → (g : Grant) → (voter_at x.voters v).held ≡ Some g → (voter_at y.voters v).held ≡ Some g → IsSettled m v x g → IsSettled m v y g
settled_kept laws p w m v f s x y before after moved g was held h = record {
  own = h.own;
  fresh = elim (fate_goes laws p w (Only m) s x y m v before after (quietly_moved p w m s x y moved) f.asks (voter_below laws p w (Only m) x m v before f.asks f.member)) [
    | inl same ↦ subst (λ (z : ClientState). last_of z v < g.grant) (sym same) h.fresh
    | inr took ↦ elim took.2 [
      | inl stays ↦ (let last = stays.last in let old = h.fresh in omega arith)
      | inr (inl comes) ↦ (let last = comes.last in let old = h.fresh in omega arith)
      | inr (inr back) ↦ elim (cases_lt g.grant (p.old v)) [
        | inl older ↦ subst (λ c. last_of (client_at y.clients c) v < g.grant) h.own (moved.1 v g was older (subst (λ c. last_of (client_at x.clients c) v < g.grant) (sym h.own) h.fresh))
        | inr newer ↦
            let number = held_grant x (before.reached []).coherent m v g was back.had in
            absurd (false≢true (sym h.quiet ∙ returned_asked p x m v (before.reached []) took.0 took.1 back.why (omega arith)))
      ]
    ]
  ];
  quiet = false_from_ne_true (voter_at y.voters v).inquiring (λ is.
      false≢true (sym h.quiet ∙ (inquiry_own laws p w m v f s x y before moved g (is_own laws p w m v f x before g was h.own) held is).1));
}

-- ---- stages of its own grant

-- A grant of the request is settled, or S holds of it and its client.
abbrev pub OwnStage : (S : ClientState → Grant → Type 0) → ℕ → ℕ → WorldState → Type 0
OwnStage S m v x = (g : Grant) → (voter_at x.voters v).held ≡ Some g → g.client ≡ m → IsSettled m v x g ⊎ S (client_at x.clients m) g

pub own_stage_kept : (laws : Laws) (p : Course) (w : WorldState) (m v : ℕ) → Seeks p w (Only m) m v → (S : ClientState → Grant → Type 0) → IsLasting v S → (s : Step) (x y : WorldState)
    → Steady p w (Only m) x → Steady p w (Only m) y → Quietly p w m s x y → OwnStage S m v x → OwnStage S m v y
own_stage_kept laws p w m v f S lasting s x y before after moved h g held own = elim (own_step laws p w m v f s x y before after moved g held own) [
  | inr new ↦ inl new
  | inl was ↦ elim (h g was own) [
    | inl settled ↦ inl (settled_kept laws p w m v f s x y before after moved g was held settled)
    | inr mark ↦ elim (fate_goes laws p w (Only m) s x y m v before after (quietly_moved p w m s x y moved) f.asks (voter_below laws p w (Only m) x m v before f.asks f.member)) [
      | inl same ↦ inr (subst (λ (z : ClientState). S z g) (sym same) mark)
      | inr took ↦ inr (lasting took.0 (client_at x.clients m) (client_at y.clients m) g (λ has. held_grant x (before.reached []).coherent m v g was has) took.2 mark)
    ]
  ]
]

-- the grant stays, or the next one is settled
own_holds_on : (laws : Laws) (p : Course) (w : WorldState) (m v : ℕ) → Seeks p w (Only m) m v → (g : Grant) → (s : Step) (x y : WorldState) → Steady p w (Only m) x → Steady p w (Only m) y → Quietly p w m s x y
    → (voter_at x.voters v).held ≡ Some g → ((voter_at y.voters v).held ≡ Some g) ⊎ OwnStage Never m v y
own_holds_on laws p w m v f g s x y before after moved has =
    let now = held_exists laws p w (Only m) y m v after f.asks f.member in
    elim (grant_step laws p w (Only m) m v f s x y before after (quietly_moved p w m s x y moved) now.0 now.1) [
      | inl was ↦ inl (now.1 ∙ sym was ∙ has)
      | inr new ↦ inr (λ h held own. inl (
          let same = same_Some now.0 h (sym now.1 ∙ held) in
          let count = ap (λ (k : Grant). k.grant) same in
          let rises = new.1 in
          new_settled laws p w m v f s x y before moved h (is_own laws p w m v f y after h held own) held (omega arith) new.2))
    ]

own_by : (S : ClientState → Grant → Type 0) (m v : ℕ) (x : WorldState) (g : Grant) → (voter_at x.voters v).held ≡ Some g → IsSettled m v x g ⊎ S (client_at x.clients m) g → OwnStage S m v x
own_by S m v x g held now h has own = subst (λ (k : Grant). IsSettled m v x k ⊎ S (client_at x.clients m) k) (same_Some g h (sym held ∙ has)) now

own_other : (S : ClientState → Grant → Type 0) (m v : ℕ) (x : WorldState) (g : Grant) → (voter_at x.voters v).held ≡ Some g → g.client ≢ m → OwnStage S m v x
own_other S m v x g held other h has own = absurd (other (ap (λ (k : Grant). k.client) (same_Some g h (sym held ∙ has)) ∙ own))

own_from : (S : ClientState → Grant → Type 0) (m v : ℕ) (x : WorldState) → OwnStage Never m v x → OwnStage S m v x
own_from S m v x h g held own = elim (h g held own) [
  | inl settled ↦ inl settled
  | inr none ↦ absurd none
]

-- all along a round its grant has the vote, or at the end the grant is settled
own_all : (laws : Laws) (p : Course) (w : WorldState) (m v : ℕ) → Seeks p w (Only m) m v → (g : Grant) → (round : List Step) (x : WorldState)
    → Along (Steady p w (Only m)) (Quietly p w m) p.deal round x → (voter_at x.voters v).held ≡ Some g
    → OwnStage Never m v (run_of p.deal round x) ⊎ Along (With p w (Only m) (GrantHasVote v g)) (Quietly p w m) p.deal round x
own_all laws p w m v f g round x all held =
    along-or (Steady p w (Only m)) (Quietly p w m) p.deal (GrantHasVote v g) (OwnStage Never m v) (own_holds_on laws p w m v f g) (own_stage_kept laws p w m v f Never (Never-lasting v)) round x all held

-- ---- the four rounds

-- In a round a stage S of its grant becomes T, if it does so while the grant has the vote.
climbs : (laws : Laws) (p : Course) (w : WorldState) (m v : ℕ) → Seeks p w (Only m) m v → (S T : ClientState → Grant → Type 0) → IsLasting v T → (round : List Step) (x : WorldState)
    → Along (Steady p w (Only m)) (Quietly p w m) p.deal round x
    → ((g : Grant) → IsOfSome w (Only m) g → Along (With p w (Only m) (GrantHasVote v g)) MovedBy p.deal round x → S (client_at x.clients g.client) g → T (client_at (run_of p.deal round x).clients g.client) g)
    → OwnStage S m v x → OwnStage T m v (run_of p.deal round x)
climbs laws p w m v f S T lasting round x all climb stage =
    let deal = p.deal in
    let D = Only m in
    let z = run_of deal round x in
    let calm = along-first (Steady p w D) (Quietly p w m) deal round x all in
    let now = held_exists laws p w D x m v calm f.asks f.member in
    let g = now.0 in
    let on : OwnStage T m v x → OwnStage T m v z = along-kept (Steady p w D) (Quietly p w m) deal (OwnStage T m v) (own_stage_kept laws p w m v f T lasting) round x all in
    elim (cases_eq g.client m) [
      | inr other ↦ on (own_other T m v x g now.1 other)
      | inl own ↦ elim (stage g now.1 own) [
        | inl settled ↦ on (own_by T m v x g now.1 (inl settled))
        | inr low ↦ elim (own_all laws p w m v f g round x all now.1) [
          | inl settled ↦ own_from T m v z settled
          | inr kept ↦
              let P = With p w D (GrantHasVote v g) in
              let moves = along-quiet P p w m round x kept in
              let end = along-last P MovedBy deal round x moves in
              let high = climb g (is_own laws p w m v f x calm g now.1 own) moves (subst (λ c. S (client_at x.clients c) g) (sym own) low) in
              own_by T m v z g end.1 (inr (subst (λ c. T (client_at z.clients c) g) own high))
        ]
      ]
    ]

own_told : (laws : Laws) (p : Course) (w : WorldState) (m v : ℕ) → Seeks p w (Only m) m v → (round : List Step) (x : WorldState) → Along (Steady p w (Only m)) (Quietly p w m) p.deal round x
    → IsReminded of_steps p.live p.deal x round (RemindVoter v) → OwnStage (KnowsGrant v) m v (run_of p.deal round x)
own_told laws p w m v f round x all fair =
    climbs laws p w m v f (λ _ _. Unit {0}) (KnowsGrant v) (Told-lasting v) round x all
    (λ g of moves _. told laws p w (Only m) m v f g of x (run_of p.deal round x) (reminded_at (With p w (Only m) (GrantHasVote v g)) MovedBy p.live p.deal round x (RemindVoter v) moves fair)) (λ g held own. inr tt)

inquiring_on : (v : ℕ) (g : Grant) (s : Step) (x y : WorldState) → MovedBy s x y → (voter_at x.voters v).held ≡ Some g → (voter_at x.voters v).inquiring ≡ true → (g.grant ≤ (voter_at x.voters v).granted)
    → (voter_at y.voters v).held ≡ Some g → (voter_at y.voters v).inquiring ≡ true
inquiring_on v g s x y moved held is few now = elim ((Outlasts-moved x y (Moved-by s x y moved) v).grants g now) [
  | inl was ↦ was.1 is
  | inr new ↦ absurd (omega arith)
]

own_marked : (laws : Laws) (p : Course) (w : WorldState) (m v : ℕ) → Seeks p w (Only m) m v → (round : List Step) (x : WorldState) → Along (Steady p w (Only m)) (Quietly p w m) p.deal round x
    → IsReminded of_steps p.live p.deal x round (RemindVoter v) → OwnStage (KnowsGrant v) m v x → OwnStage (Marked v) m v (run_of p.deal round x)
own_marked laws p w m v f round x all fair stage =
    let deal = p.deal in
    let D = Only m in
    let z = run_of deal round x in
    let calm = along-first (Steady p w D) (Quietly p w m) deal round x all in
    let ok = steady_ok laws p w D x calm in
    let now = held_exists laws p w D x m v calm f.asks f.member in
    let g = now.0 in
    let on : OwnStage (Marked v) m v x → OwnStage (Marked v) m v z = along-kept (Steady p w D) (Quietly p w m) deal (OwnStage (Marked v) m v) (own_stage_kept laws p w m v f (Marked v) (Marked-lasting v)) round x all in
    let mark : IsSettled m v x g ⊎ Marked v (client_at x.clients m) g → OwnStage (Marked v) m v z = λ h. on (own_by (Marked v) m v x g now.1 h) in
    elim (cases_eq g.client m) [
      | inr other ↦ on (own_other (Marked v) m v x g now.1 other)
      | inl own ↦ elim (stage g now.1 own) [
        | inl settled ↦ mark (inl settled)
        | inr (inl few) ↦ mark (inr (inl few))
        | inr (inr hold) ↦ elim (voter_at x.voters v).inquiring as (λ b. (voter_at x.voters v).inquiring ≡ b → OwnStage (Marked v) m v z) [
          | false ↦ λ quiet. mark (inl (record {
            own = own;
            fresh = (let number = held_grant x ok m v g now.1 hold in let fresh = ((ok.clients m).held v hold).fresh in omega arith);
            quiet = quiet;
          }))
          | true ↦ λ inquiring.
              let P = Steady p w D in
              elim (along-or P (Quietly p w m) deal (AskedFor v g) (OwnStage Never m v)
              (λ s a b before after moved h. elim (own_holds_on laws p w m v f g s a b before after moved h.0) [
                | inr settled ↦ inr settled
                | inl held ↦ inl (held, inquiring_on v g s a b (quietly_moved p w m s a b moved) h.0 h.1 (((steady_ok laws p w D a before).voters v).numbered g h.0) held)
              ])
              (own_stage_kept laws p w m v f Never (Never-lasting v)) round x all (now.1, inquiring)) [
                | inl settled ↦ own_from (Marked v) m v z settled
                | inr kept ↦
                    let Q = With p w D (AskedFor v g) in
                    let moves = along-quiet Q p w m round x kept in
                    let end = along-last Q MovedBy deal round x moves in
                    let marked = asked laws p w D m v f g (is_own laws p w m v f x calm g now.1 own) x z (reminded_at Q MovedBy p.live deal round x (RemindVoter v) moves fair)
                    (inr (subst (λ c. holds (client_at x.clients c) v ≡ true) (sym own) hold)) in
                    own_by (Marked v) m v z g end.1.0 (inr (subst (λ c. Marked v (client_at z.clients c) g) own marked))
              ]
        ] refl
      ]
    ]

own_given : (laws : Laws) (p : Course) (w : WorldState) (m v : ℕ) → Seeks p w (Only m) m v → (round : List Step) (x : WorldState) → Along (Steady p w (Only m)) (Quietly p w m) p.deal round x
    → IsLiveRound of_steps p.live p.deal x round → OwnStage (Marked v) m v x → OwnStage (GivenBack v) m v (run_of p.deal round x)
own_given laws p w m v f round x all fair =
    climbs laws p w m v f (Marked v) (GivenBack v) (GivenBack-lasting v) round x all
    (λ g of moves mark. gives_back laws p w (Only m) m v f g of round x moves fair mark)

own_settled : (laws : Laws) (p : Course) (w : WorldState) (m v : ℕ) → Seeks p w (Only m) m v → (round : List Step) (x : WorldState) → Along (Steady p w (Only m)) (Quietly p w m) p.deal round x
    → IsReminded of_steps p.live p.deal x round (RemindClient m) → OwnStage (GivenBack v) m v x → OwnStage Never m v (run_of p.deal round x)
own_settled laws p w m v f round x all fair =
    climbs laws p w m v f (GivenBack v) Never (Never-lasting v) round x all
    (λ g of moves few. not_given_back laws p w (Only m) v (voter_below laws p w (Only m) x m v (along-first (Steady p w (Only m)) (Quietly p w m) p.deal round x all) f.asks f.member) f.up g of x (run_of p.deal round x)
    (reminded_at (With p w (Only m) (GrantHasVote v g)) MovedBy p.live p.deal round x (RemindClient g.client) moves (subst (λ c. IsReminded of_steps p.live p.deal x round (RemindClient c)) (sym of.0) fair)) few)

-- four rounds settle its grant
pub four_settle : (laws : Laws) (p : Course) (w : WorldState) (m v : ℕ) → Seeks p w (Only m) m v → (a b c e : List Step) (x : WorldState)
    → Along (Steady p w (Only m)) (Quietly p w m) p.deal (a ++ (b ++ (c ++ e))) x → AreLiveRounds of_steps p.live p.deal x (a ∷ b ∷ c ∷ e ∷ []) → OwnStage Never m v (run_of p.deal (a ++ (b ++ (c ++ e))) x)
four_settle laws p w m v f a b c e x all fair =
    let deal = p.deal in
    let D = Only m in
    let P = Steady p w D in
    let R = Quietly p w m in
    let x1 = run_of deal a x in
    let x2 = run_of deal b x1 in
    let x3 = run_of deal c x2 in
    let A = along-split P R deal a (b ++ (c ++ e)) x all in
    let B = along-split P R deal b (c ++ e) x1 A.1 in
    let C = along-split P R deal c e x2 B.1 in
    let h0 = along-first P R deal (a ++ (b ++ (c ++ e))) x all in
    let h1 = along-first P R deal (b ++ (c ++ e)) x1 A.1 in
    let h2 = along-first P R deal (c ++ e) x2 B.1 in
    let h3 = along-first P R deal e x3 C.1 in
    let inside : (y : WorldState) → P y → m < length y.clients = λ y h. within_by y m (is_asking-busy (client_at y.clients m).phase (asks_now p w D y m h f.asks)) in
    let first = own_told laws p w m v f a x A.0 (fair.0.voters v (voter_within laws p w D x m v h0 f.asks f.member) f.up).reminded in
    let second = own_marked laws p w m v f b x1 B.0 (fair.1.0.voters v (voter_within laws p w D x1 m v h1 f.asks f.member) f.up).reminded first in
    let third = own_given laws p w m v f c x2 C.0 fair.1.1.0 second in
    let fourth = own_settled laws p w m v f e x3 C.1 (fair.1.1.1.0.clients m (inside x3 h3) (client_live p w D x3 m h3 f.asks)) third in
    let goes : run_of deal (a ++ (b ++ (c ++ e))) x ≡ run_of deal e x3 = run_then deal a (b ++ (c ++ e)) x ∙ run_then deal b (c ++ e) x1 ∙ run_then deal c e x2 in
    subst (OwnStage Never m v) (sym goes) fourth

-- the request that precedes all others that run has all votes in the end: each round frees a vote that an older
-- request left behind
use Rattle.std.proofs.Common.{◌≡◌, ◌≢◌, ℕ, ◌<◌, ◌≤◌, true, false, List, [], ◌∷◌, length, Some, refl, sym, ap, subst, subst₂, ◌∙◌, ◌⊎◌, inl, inr, arith}
use Rattle.std.specs.Prelude.{nat_lt, slice_get}
use Rattle.std.specs.List.{range_with_len}
use Rattle.std.proofs.lemmas.Bool.{cases_eq, false≢true}
use Rattle.std.proofs.lemmas.Bool.Decides.{nat_tests}
use Rattle.std.proofs.lemmas.Option.{same_Some}
use Rattle.numbers.specs.Sets.{has}
use Rattle.message.specs.declared.message.ClientBody.TheVariants as to_client
use Rattle.message.specs.declared.message.Message.TheVariants as kinds
use Rattle.message.specs.declared.message.ToClient.{ToClient}
use Rattle.message.specs.declared.message.ToVoter.{ToVoter}
use Rattle.message.specs.declared.message.VoterBody.{VoterBody}
use Rattle.message.specs.declared.message.VoterBody.TheVariants as asks
use Rattle.message.specs.declared.request.Request.{Request}
use Rattle.voter.specs.declared.state.Grant.{Grant}
use Rattle.voter.specs.declared.state.VoterState.{VoterState}
use Rattle.voter.specs.Entries.{request_of}
use Rattle.voter.specs.Steps as voter
use Rattle.voter.specs.VoterContract.{Brings, Ends, IsEntry}
use Rattle.message.specs.Requests.{precedes}
use Rattle.requester.specs.declared.state.ClientState.{ClientState}
use Rattle.requester.specs.Steps as requester
use Rattle.requester.specs.Words.{holds, is_idle, last_of}
use Rattle.requester.proofs.SoundSteps.{is_asking-busy}
use Rattle.world.specs.Coherence.{AskOk}
use Rattle.world_state.specs.declared.step.Step.{Step}
use Rattle.world_state.specs.declared.step.Step.TheVariants.{Deliver, RemindVoter}
use Rattle.world.specs.Runs.{run_of}
use Rattle.world_state.specs.Steps.{WorldState, client_at, voter_at}
use Rattle.world.proofs.Plans.{run_then}
use Rattle.progress.specs.LiveRounds.{AreLiveRounds, IsReminded}
use Rattle.progress.specs.Moves.{of_steps}
use Rattle.progress.specs.Rounds.{steps_of}
use Rattle.progress.specs.Rules.{Laws}
use Rattle.progress.proofs.block.Ahead.{NotBehind, not_behind_kept}
use Rattle.progress.proofs.run.Along.{Along, Served, along-first, along-kept, along-last, along-or, along-weaker, between_from, between_to, next, reminded_at, served_at, spot_after, spot_before, spot_end, spot_through}
use Rattle.progress.proofs.invariants.Always.{asked_by}
use Rattle.progress.proofs.run.Arrivals.{answered, client_takes, message_stays, reminds_first, voter_takes}
use Rattle.progress.proofs.overtaking.Behind.{the_request}
use Rattle.voter.proofs.Staying.{current_stamp-entry}
use Rattle.progress.proofs.invariants.Fitting.{held_grant, own_stamp}
use Rattle.progress.proofs.invariants.Inquiries.{ends_up_to, orderly}
use Rattle.progress.proofs.block.Known.{voter_after}
use Rattle.progress.proofs.block.Leading.{Clear, Hushed, IsSettled, NotAhead, OwnStage, Quietly, along-quiet, is_own, own_stage_kept, quietly_moved, settled_kept}
use Rattle.progress.proofs.run.Lists.{has_range, remove_from, shorter, still_there}
use Rattle.progress.proofs.run.Moves.{Moved-by, MovedBy}
use Rattle.progress.proofs.block.Overdue.{Only}
use Rattle.progress.proofs.block.Steady.{GrantHasVote, Never, Never-lasting, Seeks, Steady, With, asks_now, fate_goes, held_exists, locked_to, release_to, steady_ok, told, voter_below, voter_within}
use Rattle.progress.proofs.invariants.Sure.{Course}

-- ---- requests that are over

-- the voter knows requests that precede it only of clients in this list
abbrev pub OldsAmong : WorldState → ℕ → ℕ → List ℕ → WorldState → Type 0
OldsAmong w m v alive x = (d t : ℕ) → IsEntry (voter_at x.voters v) d t → precedes (record { stamp = t; client = d }) (the_request w m) ≡ true → has alive d ≡ true

-- it knew those in the world u
abbrev WereOld : WorldState → ℕ → ℕ → WorldState → WorldState → Type 0
WereOld w m v u x = (d t : ℕ) → IsEntry (voter_at x.voters v) d t → precedes (record { stamp = t; client = d }) (the_request w m) ≡ true → IsEntry (voter_at u.voters v) d t

self_not : (d m t s : ℕ) → d ≡ m → t ≡ s → precedes (record { stamp = t; client = d }) (record { stamp = s; client = m }) ≡ false
self_not d m t s client stamp = grind (arith, nat_tests)

not_both : (a b : Request) → precedes a b ≡ true → precedes b a ≡ true → ⊥
not_both a b first second = grind (arith, nat_tests)

brings_not : (w : WorldState) (m c d t : ℕ) (b : VoterBody) → ((n : ℕ) → b ≡ asks.Request n → NotAhead w m c n) → Brings c b d t → precedes (record { stamp = t; client = d }) (the_request w m) ≡ true → ⊥
brings_not w m c d t (asks.Request n) not brings first = elim (not n refl) [
  | inl own ↦ false≢true (sym (self_not d m t (client_at w.clients m).stamp (brings.0 ∙ own.0) (brings.1 ∙ own.1)) ∙ first)
  | inr later ↦ not_both (record { stamp = t; client = d }) (the_request w m) first (subst₂ (λ i k. precedes (the_request w m) (record { stamp = k; client = i }) ≡ true) (sym brings.0) (sym brings.1) later)
]
brings_not w m c d t (asks.Relinquish n) not brings first = brings
brings_not w m c d t (asks.Release n) not brings first = brings

known_before : (laws : Laws) (w : WorldState) (m v : ℕ) (s : Step) (x y : WorldState) → Hushed w m s x y → WereOld w m v x y
known_before laws w m v s x y moved = elim moved [
  | inl k ↦ λ d t entry first. subst (λ (vs : List VoterState). IsEntry (voter_at vs v) d t) k.0.voters entry
  | inr (inl k) ↦ voter_after (λ q z. (d t : ℕ) → IsEntry z d t → precedes (record { stamp = t; client = d }) (the_request w m) ≡ true → IsEntry (voter_at x.voters q) d t) x y k.0 v
      (λ _ d t entry first. elim ((laws.voter.meets (voter_at x.voters k.0.message.voter) k.0.message k.0.outcome k.0.step).entries d t entry) [
        | inl before ↦ before
        | inr brings ↦ absurd (brings_not w m k.0.message.client d t k.0.message.body k.2 brings first)
      ])
      (λ d t entry first. entry)
  | inr (inr k) ↦ λ d t entry first. subst (λ (vs : List VoterState). IsEntry (voter_at vs v) d t) k.voters entry
]

known_on : (laws : Laws) (p : Course) (w : WorldState) (m v : ℕ) (u : WorldState) → (s : Step) (x y : WorldState) → Clear p w m x → Clear p w m y → Quietly p w m s x y → WereOld w m v u x → WereOld w m v u y
known_on laws p w m v u s x y before after moved h d t entry first = h d t (known_before laws w m v s x y moved.0 d t entry first) first

pub olds_on : (laws : Laws) (p : Course) (w : WorldState) (m v : ℕ) (alive : List ℕ) → (s : Step) (x y : WorldState) → Clear p w m x → Clear p w m y → Quietly p w m s x y → OldsAmong w m v alive x → OldsAmong w m v alive y
olds_on laws p w m v alive s x y before after moved h d t entry first = h d t (known_before laws w m v s x y moved.0 d t entry first) first

-- ---- the request has the vote

-- the grant is settled
pub record IsIts (m v : ℕ) (g : Grant) (x : WorldState) : Type 0 where
  pub held : GrantHasVote v g x
  pub settled : IsSettled m v x g

-- no message ends it
ends_never : (y : VoterState) (v : ℕ) (g : Grant) (c : ℕ) (b : VoterBody) → y.held ≡ Some g → (z : ClientState) → is_idle z.phase ≡ false → z.stamp ≡ g.stamp → last_of z v < g.grant
    → (g.client ≡ c → AskOk z y v c b) → Ends c b g → ⊥
ends_never y v g c (asks.Request t) has z busy stamp fresh asked ends = (let most = asked ends.0 in let later = ends.1 in omega arith)
ends_never y v g c (asks.Relinquish n) has z busy stamp fresh asked ends =
    (asked ends.0).1 g.stamp (record { busy = busy; current = sym stamp; fresh = subst (λ k. last_of z v < k) ends.1 fresh })
    (subst₂ (λ d k. y.held ≡ Some (record { client = d; stamp = g.stamp; grant = k })) ends.0 ends.1 has)
ends_never y v g c (asks.Release t) has z busy stamp fresh asked ends = (let less = (asked ends.0).1 busy in let most = ends.1 in omega arith)

its_held : (laws : Laws) (p : Course) (w : WorldState) (m v : ℕ) → Seeks p w (Only m) m v → (g : Grant) → (s : Step) (x y : WorldState) → Steady p w (Only m) x → Quietly p w m s x y → IsIts m v g x → GrantHasVote v g y
its_held laws p w m v f g s x y before moved h = elim moved.0 [
  | inl k ↦ ap (λ (vs : List VoterState). (voter_at vs v).held) k.0.voters ∙ h.held
  | inr (inl moves) ↦
      let k = moves.0 in
      elim (cases_eq v k.message.voter) [
        | inr other ↦ ap (λ (z : VoterState). z.held) (k.others v other) ∙ h.held
        | inl same ↦
            let ok = steady_ok laws p w (Only m) x before in
            let q = k.message.voter in
            let held = subst (λ i. (voter_at x.voters i).held ≡ Some g) same h.held in
            let own = is_own laws p w m v f x before g h.held h.settled.own in
            let d = g.client in
            let z = client_at x.clients d in
            let stamp : z.stamp ≡ g.stamp = (before.same d own.0).stamp ∙ sym own.1 in
            let fresh : last_of z q < g.grant = subst (λ i. last_of z i < g.grant) same (subst (λ c. last_of (client_at x.clients c) v < g.grant) (sym h.settled.own) h.settled.fresh) in
            ap (λ (vs : VoterState). vs.held) (ap (voter_at y.voters) same ∙ k.here) ∙ elim ((laws.voter.meets (voter_at x.voters q) k.message k.outcome k.step).kept g held) [
              | inl stays ↦ stays
              | inr ends ↦ absurd (ends_never (voter_at x.voters q) q g k.message.client k.message.body held z (is_asking-busy z.phase (asks_now p w (Only m) x d before own.0)) stamp fresh (asked_by x y ok k d) ends)
            ]
      ]
  | inr (inr k) ↦ ap (λ (vs : List VoterState). (voter_at vs v).held) k.voters ∙ h.held
]

its_on : (laws : Laws) (p : Course) (w : WorldState) (m v : ℕ) → Seeks p w (Only m) m v → (g : Grant) → (s : Step) (x y : WorldState) → Clear p w m x → Clear p w m y → Quietly p w m s x y
    → IsIts m v g x → IsIts m v g y
its_on laws p w m v f g s x y before after moved h =
    let held = its_held laws p w m v f g s x y before.steady moved h in
    record { held = held; settled = settled_kept laws p w m v f s x y before.steady after.steady moved g h.held held h.settled }

-- the client has the vote, and knows it
record HasWon (m v : ℕ) (g : Grant) (x : WorldState) : Type 0 where
  its : IsIts m v g x
  has : holds (client_at x.clients m) v ≡ true

won_on : (laws : Laws) (p : Course) (w : WorldState) (m v : ℕ) → Seeks p w (Only m) m v → (g : Grant) → (s : Step) (x y : WorldState) → Clear p w m x → Clear p w m y → Quietly p w m s x y
    → HasWon m v g x → HasWon m v g y
won_on laws p w m v f g s x y before after moved h =
    let its = its_on laws p w m v f g s x y before after moved h.its in
    record {
      its = its;
      has = elim (fate_goes laws p w (Only m) s x y m v before.steady after.steady (quietly_moved p w m s x y moved) f.asks (voter_below laws p w (Only m) x m v before.steady f.asks f.member)) [
        | inl same ↦ ap (λ (z : ClientState). holds z v) same ∙ h.has
        | inr took ↦ elim took.2 [
          | inl stays ↦ ap (λ n. nat_lt 0 n) stays.held ∙ h.has
          | inr (inl comes) ↦ comes.has
          | inr (inr back) ↦
              let number = held_grant x (before.steady.reached []).coherent m v g h.its.held h.has in
              let last = back.last in
              let free = its.settled.fresh in
              absurd (omega arith)
        ]
      ];
    }

-- ---- the reminder of a voter whose grant is over

-- the request has the vote, or one client fewer has a request that is over
abbrev Nearer : WorldState → ℕ → ℕ → List ℕ → WorldState → Type 0
Nearer w m v alive x = ((g : Grant) × IsIts m v g x) ⊎ ((d : ℕ) × (has alive d ≡ true) × OldsAmong w m v (remove_from d alive) x)

-- a grant of another client that is not behind precedes
ahead_of : (g : Grant) (m s : ℕ) → g.client ≢ m → precedes (record { stamp = s; client = m }) (request_of g) ≡ false → precedes (request_of g) (record { stamp = s; client = m }) ≡ true
ahead_of g m s other not = grind (arith, nat_tests)

nearer : (laws : Laws) (p : Course) (w : WorldState) (m v : ℕ) → Seeks p w (Only m) m v → (alive : List ℕ) (x z : WorldState) → Served (Clear p w m) (Quietly p w m) p.live p.deal x z v
    → OwnStage Never m v x → NotBehind w m v x → OldsAmong w m v alive x → Nearer w m v alive z
nearer laws p w m v f alive x z served stage ahead_x olds_x =
    let deal = p.deal in
    let P = Clear p w m in
    let R = Quietly p w m in
    let D = Only m in
    let r = served.reminded in
    let spot = r.spot in
    let u = spot.before in
    let calm = spot.here in
    let ok = steady_ok laws p w D u calm.steady in
    let y = voter_at u.voters v in
    let now = held_exists laws p w D u m v calm.steady f.asks f.member in
    let g = now.0 in
    let d = g.client in
    let stage_u = spot_before P R deal (OwnStage Never m v) (λ s a b before after moved. own_stage_kept laws p w m v f Never (Never-lasting v) s a b before.steady after.steady moved) x z (RemindVoter v) spot stage in
    let ahead_u = spot_before P R deal (NotBehind w m v) (λ s a b before after moved. not_behind_kept laws p w D m v f s a b before.steady after.steady (quietly_moved p w m s a b moved)) x z (RemindVoter v) spot ahead_x in
    let olds_u = spot_before P R deal (OldsAmong w m v alive) (olds_on laws p w m v alive) x z (RemindVoter v) spot olds_x in
    elim (cases_eq d m) [
      | inl own ↦ elim (stage_u g now.1 own) [
        | inr never ↦ absurd never
        | inl settled ↦ inl (g, spot_through P R deal (IsIts m v g) (its_on laws p w m v f g) x z (RemindVoter v) spot (record { held = now.1; settled = settled }))
      ]
      | inr other ↦
          let first_of = ahead_of g m (client_at w.clients m).stamp other (ahead_u g now.1) in
          elim (p.live.client d) as (λ b. p.live.client d ≡ b → Nearer w m v alive z) [
            | false ↦ λ dead.
                let dropped = served.drops g now.1 dead in
                let at = run_of deal dropped.first u in
                let known : WereOld w m v u at = along-kept P R deal (WereOld w m v u) (known_on laws p w m v u) dropped.first u dropped.lead (λ e s entry ahead. entry) in
                let gone : OldsAmong w m v (remove_from d alive) at = λ e s entry ahead. elim (cases_eq e d) [
                  | inl same ↦
                      let number : g.stamp ≡ s = own_stamp y e s g (ok.voters v) (known e s entry ahead) now.1 (sym same) in
                      absurd (dropped.over (subst₂ (λ i n. IsEntry (voter_at at.voters v) i n) same (sym number) entry))
                  | inr unlike ↦ still_there d e alive unlike (olds_u e s (known e s entry ahead) ahead)
                ] in
                inr (
                  d,
                  olds_u d g.stamp (inl (g, now.1, refl, refl)) first_of,
                  subst (OldsAmong w m v (remove_from d alive)) dropped.ends (along-kept P R deal (OldsAmong w m v (remove_from d alive)) (olds_on laws p w m v (remove_from d alive)) dropped.rest at dropped.follow gone),
                )
            | true ↦ λ lives.
                let within = voter_within laws p w D u m v calm.steady f.asks f.member in
                let id : y.id ≡ v = ok.numbered.voters v within in
                let msg = locked_to v d y.seen g.stamp g.grant in
                let is : voter.reply y d (to_client.Locked g.stamp g.grant) ≡ msg = λ i. record { voter = id i; client = d; seen = y.seen; body = to_client.Locked g.stamp g.grant } in
                let out = laws.voter.reminds y g now.1 ∙ ap (λ (n : ToClient). n ∷ voter.inquiry_again y.inquiring y g) is in
                let sends = reminds_first deal u v msg (voter.inquiry_again y.inquiring y g) within out in
                let u1 = next deal u (RemindVoter v) in
                let heard = r.heard sends.place sends.least (between_from p.live (slice_get u1.sent sends.place) msg sends.is lives f.up) in
                let there = spot_before P R deal (λ q. slice_get q.sent sends.place ≡ Some (kinds.ToClient msg))
                (λ s a b _ _ moved. message_stays sends.place (kinds.ToClient msg) a b (Moved-by s a b (quietly_moved p w m s a b moved))) u1 z (Deliver sends.place) heard.spot sends.is in
                let x2 = heard.spot.before in
                let calm2 = heard.spot.here in
                let ok2 = steady_ok laws p w D x2 calm2.steady in
                let old = client_at x2.clients d in
                let t = client_takes deal x2 sends.place msg ok2 there in
                let rel = release_to d v g.stamp in
                let made = (ok.made v d g.stamp (inl (g, now.1, refl, refl))).client in
                let own : old.id ≡ d = ok2.numbered.clients d (let first = calm.count in let later = calm2.count in omega arith) in
                let tells : requester.tell old v (asks.Release g.stamp) ≡ rel = λ i. record { client = own i; voter = v; body = asks.Release g.stamp } in
                let gives : (requester.take old msg).out ≡ rel ∷ [] = ap (λ (o : requester.Outcome). o.out) (laws.client.released old msg g.stamp g.grant refl (calm2.over d g.stamp first_of))
                ∙ ap (λ (n : ToVoter). n ∷ []) tells in
                let says_it = answered deal x2 sends.place msg rel t gives in
                let y2 = next deal x2 (Deliver sends.place) in
                let comes = heard.replies says_it.place says_it.least (between_to p.live (slice_get y2.sent says_it.place) rel says_it.is lives f.up) in
                let got = spot_before P R deal (λ q. slice_get q.sent says_it.place ≡ Some (kinds.ToVoter rel))
                (λ s a b _ _ moved. message_stays says_it.place (kinds.ToVoter rel) a b (Moved-by s a b (quietly_moved p w m s a b moved))) y2 z (Deliver says_it.place) comes says_it.is in
                let x3 = comes.before in
                let calm3 = comes.here in
                let ok3 = steady_ok laws p w D x3 calm3.steady in
                let taken = voter_takes laws deal x3 says_it.place rel ok3 (calm3.steady.left.grants v (voter_within laws p w D x3 m v calm3.steady f.asks f.member) f.up) got in
                let y3 = next deal x3 (Deliver says_it.place) in
                let above = ends_up_to laws.voter (voter_at x3.voters v) rel g.stamp taken.outcome (ok3.voters v) refl taken.step in
                -- what precedes was known when the voter was reminded
                let first : WereOld w m v u u1 = known_before laws w m v (RemindVoter v) u u1 spot.moved.0 in
                let second : WereOld w m v u x2 = spot_before P R deal (WereOld w m v u) (known_on laws p w m v u) u1 z (Deliver sends.place) heard.spot first in
                let third : WereOld w m v u y2 = known_on laws p w m v u (Deliver sends.place) x2 y2 calm2 (spot_after P R deal u1 z (Deliver sends.place) heard.spot) heard.spot.moved second in
                let fourth : WereOld w m v u x3 = spot_before P R deal (WereOld w m v u) (known_on laws p w m v u) y2 z (Deliver says_it.place) comes third in
                let fifth : WereOld w m v u y3 = known_on laws p w m v u (Deliver says_it.place) x3 y3 calm3 (spot_after P R deal y2 z (Deliver says_it.place) comes) comes.moved fourth in
                let gone : OldsAmong w m v (remove_from d alive) y3 = λ e s entry ahead. elim (cases_eq e d) [
                  | inl same ↦
                      let was = fifth e s entry ahead in
                      let number : g.stamp ≡ s = own_stamp y e s g (ok.voters v) was now.1 (sym same) in
                      let high = above s (subst (λ i. IsEntry taken.outcome.state i s) same (subst (λ (q : VoterState). IsEntry q e s) taken.here entry)) in
                      absurd (omega arith)
                  | inr unlike ↦ still_there d e alive unlike (olds_u e s (fifth e s entry ahead) ahead)
                ] in
                inr (
                  d,
                  olds_u d g.stamp (inl (g, now.1, refl, refl)) first_of,
                  spot_end P R deal (OldsAmong w m v (remove_from d alive)) (olds_on laws p w m v (remove_from d alive)) y2 z (Deliver says_it.place) comes gone,
                )
          ] refl
    ]

-- ---- all rounds

-- the request leads all along these rounds
abbrev pub ClearRounds : Course → WorldState → ℕ → List (List Step) → WorldState → Type 0
ClearRounds p w m [] x = Clear p w m x
ClearRounds p w m (r ∷ rs) x = Along (Clear p w m) (Quietly p w m) p.deal r x × ClearRounds p w m rs (run_of p.deal r x)

won_after : (laws : Laws) (p : Course) (w : WorldState) (m v : ℕ) → Seeks p w (Only m) m v → (g : Grant) → (round : List Step) (x : WorldState) → Along (Clear p w m) (Quietly p w m) p.deal round x
    → IsReminded of_steps p.live p.deal x round (RemindVoter v) → IsIts m v g x → HasWon m v g (run_of p.deal round x)
won_after laws p w m v f g round x all fair h =
    let deal = p.deal in
    let D = Only m in
    let z = run_of deal round x in
    elim (along-or (Clear p w m) (Quietly p w m) deal (IsIts m v g) (λ _. ⊥) (λ s a b before after moved k. inl (its_on laws p w m v f g s a b before after moved k)) (λ s a b before after moved k. k) round x all h) [
      | inl never ↦ absurd never
      | inr kept ↦
          let P = λ (q : WorldState). Clear p w m q × IsIts m v g q in
          let end = (along-last P (Quietly p w m) deal round x kept).1 in
          let moves = along-quiet P p w m round x kept in
          let votes = along-weaker P (With p w D (GrantHasVote v g)) MovedBy deal (λ q k. (k.0.steady, k.1.held)) round x moves in
          let calm = (along-first (Clear p w m) (Quietly p w m) deal round x all).steady in
          let own = h.settled.own in
          let knows = told laws p w D m v f g (is_own laws p w m v f x calm g h.held own) x z (reminded_at (With p w D (GrantHasVote v g)) MovedBy p.live deal round x (RemindVoter v) votes fair) in
          elim knows [
            | inl few ↦ (let fresh = subst (λ c. last_of (client_at z.clients c) v < g.grant) (sym own) end.settled.fresh in absurd (omega arith))
            | inr has ↦ record { its = end; has = subst (λ c. holds (client_at z.clients c) v ≡ true) own has }
          ]
    ]

won_rounds : (laws : Laws) (p : Course) (w : WorldState) (m v : ℕ) → Seeks p w (Only m) m v → (g : Grant) → (rounds : List (List Step)) (x : WorldState) → ClearRounds p w m rounds x → HasWon m v g x
    → holds (client_at (run_of p.deal (steps_of rounds) x).clients m) v ≡ true
won_rounds laws p w m v f g [] x all h = h.has
won_rounds laws p w m v f g (r ∷ rs) x all h =
    let deal = p.deal in
    let end = along-kept (Clear p w m) (Quietly p w m) deal (HasWon m v g) (won_on laws p w m v f g) r x all.0 h in
    ap (λ (u : WorldState). holds (client_at u.clients m) v) (run_then deal r (steps_of rs) x) ∙ won_rounds laws p w m v f g rs (run_of deal r x) all.1 end

its_rounds : (laws : Laws) (p : Course) (w : WorldState) (m v : ℕ) → Seeks p w (Only m) m v → (g : Grant) → (rounds : List (List Step)) (x : WorldState) → ClearRounds p w m rounds x
    → AreLiveRounds of_steps p.live p.deal x rounds → 1 ≤ length rounds → IsIts m v g x → holds (client_at (run_of p.deal (steps_of rounds) x).clients m) v ≡ true
its_rounds laws p w m v f g [] x all fair some h = absurd (omega arith)
its_rounds laws p w m v f g (r ∷ rs) x all fair some h =
    let deal = p.deal in
    let calm = (along-first (Clear p w m) (Quietly p w m) deal r x all.0).steady in
    let end = won_after laws p w m v f g r x all.0 (fair.0.voters v (voter_within laws p w (Only m) x m v calm f.asks f.member) f.up).reminded h in
    ap (λ (u : WorldState). holds (client_at u.clients m) v) (run_then deal r (steps_of rs) x) ∙ won_rounds laws p w m v f g rs (run_of deal r x) all.1 end

-- it has the vote after as many rounds as there are clients with older requests, and one more
pub wins : (laws : Laws) (p : Course) (w : WorldState) (m v : ℕ) → Seeks p w (Only m) m v → (rounds : List (List Step)) (x : WorldState) (alive : List ℕ) → ClearRounds p w m rounds x
    → AreLiveRounds of_steps p.live p.deal x rounds → length alive < length rounds → OwnStage Never m v x → NotBehind w m v x → OldsAmong w m v alive x
    → holds (client_at (run_of p.deal (steps_of rounds) x).clients m) v ≡ true
wins laws p w m v f [] x alive all fair less stage ahead olds = absurd (omega arith)
wins laws p w m v f (r ∷ rs) x alive all fair less stage ahead olds =
    let deal = p.deal in
    let D = Only m in
    let P = Clear p w m in
    let R = Quietly p w m in
    let z = run_of deal r x in
    let calm = (along-first P R deal r x all.0).steady in
    let now = held_exists laws p w D x m v calm f.asks f.member in
    let g = now.0 in
    let stamp = (client_at w.clients m).stamp in
    elim (cases_eq g.client m) [
      | inl own ↦ elim (stage g now.1 own) [
        | inr never ↦ absurd never
        | inl settled ↦ its_rounds laws p w m v f g (r ∷ rs) x all fair (omega arith) (record { held = now.1; settled = settled })
      ]
      | inr other ↦
          let there = olds g.client g.stamp (inl (g, now.1, refl, refl)) (ahead_of g m stamp other (ahead g now.1)) in
          let some = shorter g.client alive there in
          let remind = served_at P R p.live deal r x v all.0 (fair.0.voters v (voter_within laws p w D x m v calm f.asks f.member) f.up) in
          ap (λ (u : WorldState). holds (client_at u.clients m) v) (run_then deal r (steps_of rs) x) ∙ elim (nearer laws p w m v f alive x z remind stage ahead olds) [
            | inl first ↦ its_rounds laws p w m v f first.0 rs z all.1 fair.1 (omega arith) first.1
            | inr fewer ↦
                let short = shorter fewer.0 alive fewer.1 in
                wins laws p w m v f rs z (remove_from fewer.0 alive) all.1 fair.1 (omega arith)
                (along-kept P R deal (OwnStage Never m v) (λ s a b before after moved. own_stage_kept laws p w m v f Never (Never-lasting v) s a b before.steady after.steady moved) r x all.0 stage)
                (along-kept P R deal (NotBehind w m v) (λ s a b before after moved. not_behind_kept laws p w D m v f s a b before.steady after.steady (quietly_moved p w m s a b moved)) r x all.0 ahead)
                fewer.2
          ]
    ]

one_entry : (y : VoterState) (c s t : ℕ) → voter.IsSound y → IsEntry y c s → IsEntry y c t → s ≡ t
one_entry y c s t ok a b = same_Some s t (sym (current_stamp-entry y c s (orderly y ok) a) ∙ current_stamp-entry y c t (orderly y ok) b)

-- requests that precede are of other clients
pub olds_others : (laws : Laws) (p : Course) (w x : WorldState) (m v : ℕ) → Seeks p w (Only m) m v → Clear p w m x → OldsAmong w m v (remove_from m (range_with_len 0 (length w.clients))) x
olds_others laws p w x m v f calm d t entry first =
    let ok = steady_ok laws p w (Only m) x calm.steady in
    let within = (ok.made v d t entry).client in
    let same = calm.count in
    let stamp = (client_at w.clients m).stamp in
    elim (cases_eq d m) [
      | inl own ↦
          let mine = subst (λ i. IsEntry (voter_at x.voters v) i t) own entry in
          let number = one_entry (voter_at x.voters v) m t stamp (ok.voters v) mine (calm.steady.known m v f.asks f.member) in
          absurd (false≢true (sym (self_not d m t stamp own number) ∙ first))
      | inr other ↦ still_there m d (range_with_len 0 (length w.clients)) other (has_range 0 (length w.clients) d (omega arith) (omega arith))
    ]

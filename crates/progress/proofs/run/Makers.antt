-- who makes a step, and what it changes; and when a world is coherent
use Rattle.std.proofs.Common.{◌≡◌, ℕ, zero, suc, ◌<◌, ◌≤◌, Bool, true, false, List, [], ◌∷◌, ◌++◌, length, map, eqb, Ok, Err, refl, sym, ap, subst, ◌∙◌, ◌⊎◌, inl, inr, arith}
use Rattle.std.specs.Prelude.{Result, nat_lt, slice_get, Option, Some, None}
use Rattle.std.proofs.lemmas.Bool.{cases_eq, false_from_ne_true, ltb-true}
use Rattle.std.proofs.lemmas.Bool.Decides.{nat_tests}
use Rattle.std.proofs.lemmas.List.{append-nil, get_or_past}
use Rattle.numbers.proofs.Lists.{AllByRecursion-get, AllByRecursion-weaker}
use Rattle.message.specs.declared.message.Message.{Message}
use Rattle.message.specs.declared.message.Message.TheVariants as kinds
use Rattle.message.specs.declared.message.ToVoter.{ToVoter}
use Rattle.voter.specs.Steps as voter
use Rattle.requester.specs.declared.fault.ClientFault.{ClientFault}
use Rattle.requester.specs.Steps as requester
use Rattle.requester.specs.Words.{is_inside}
use Rattle.requester.specs.declared.state.ClientState.{ClientState}
use Rattle.quorum_set.specs.declared.bridge.Side.{Side}
use Rattle.quorum_set.specs.declared.bridge.Side.TheVariants.{First, Second}
use Rattle.world_state.specs.declared.fault.WorldFault.{WorldFault}
use Rattle.world_state.specs.declared.step.Event.{Event}
use Rattle.world_state.specs.declared.step.Step.{Step}
use Rattle.world_state.specs.declared.step.Step.TheVariants.{Ask, Deliver, Leave, GiveUp, RemindClient, RemindVoter, Exchange}
use Rattle.world.specs.Coherence.{IsCoherent}
use Rattle.world_state.specs.Numbered.{IsAddressed, IsNumbered}
use Rattle.world.specs.Restarts.{Node, OneClient, OneVoter, Nobody, maker, receiver}
use Rattle.world.specs.Runs.{after}
use Rattle.world_state.specs.Steps.{Dealing, Outcome, WorldState, after_client, after_voter, client_at, come, draw_of, exchange, if_client, if_voter, next_ticket, quorum_dealt, say, step, voter_at}
use Rattle.world.proofs.Claims.{Bounds, WorldOk}
use Rattle.world.proofs.EveryRun.{coherent_by}
use Rattle.world.proofs.Exclusion.{Walked, one_inside}
use Rattle.world.proofs.Reached.{RunPremises, RunOk}
use Rattle.progress.proofs.run.Moves.{Came, ClientMoved, VoterMoved, client_made, voter_made}

-- ---- a world that is so is coherent

inside_below : (u : WorldState) (n : ℕ) → ((d : ℕ) → d < n → is_inside (client_at u.clients d).phase ≡ false) ⊎ ((d : ℕ) × (d < n) × (is_inside (client_at u.clients d).phase ≡ true))
inside_below u zero = inl (λ d less. absurd (omega arith))
inside_below u (suc n) = elim (is_inside (client_at u.clients n).phase) as (λ b. is_inside (client_at u.clients n).phase ≡ b
    → ((d : ℕ) → d < suc n → is_inside (client_at u.clients d).phase ≡ false) ⊎ ((d : ℕ) × (d < suc n) × (is_inside (client_at u.clients d).phase ≡ true))) [
      | true ↦ λ is. inr (n, omega arith, is)
      | false ↦ λ not. elim (inside_below u n) [
        | inl none ↦ inl (λ d less. elim (cases_eq d n) [
          | inl same ↦ ap (λ i. is_inside (client_at u.clients i).phase) same ∙ not
          | inr other ↦ none d (omega arith)
        ])
        | inr one ↦ inr (one.0, (let less = one.1 in omega arith), one.2)
      ]
    ] refl

outside_beyond : (u : WorldState) (d : ℕ) → length u.clients ≤ d → is_inside (client_at u.clients d).phase ≡ false
unfolding client_at
outside_beyond u d beyond = ap (λ (x : ClientState). is_inside x.phase) (get_or_past u.clients d (requester.start 0 1) beyond)

-- somebody may have entered: then it is inside
shows_inside : (b : Bounds) → RunPremises b → (w : WorldState) → WorldOk b (client_at w.clients) (voter_at w.voters) w.sent → (es : List Event) × Walked es (client_at w.clients)
shows_inside b given w ok = elim (inside_below w (length w.clients)) [
  | inl none ↦ ([], record { list = tt; inside = λ c. elim (cases_below c (length w.clients)) [ inl less ↦ none c less | inr beyond ↦ outside_beyond w c beyond ] })
  | inr one ↦
      let d = one.0 in (
        record { client = d; entered = true } ∷ [],
        record {
          list = (refl, tt);
          inside = λ c. elim (cases_eq c d) [
            | inl same ↦ ap (λ i. is_inside (client_at w.clients i).phase) same ∙ one.2 ∙ sym (let e : eqb c d ≡ true = grind (arith, nat_tests) in e)
            | inr other ↦ false_from_ne_true (is_inside (client_at w.clients c).phase) (λ is. other (one_inside b given.meet (client_at w.clients) (voter_at w.voters) w.sent ok c d is one.2))
                ∙ sym (let e : eqb c d ≡ false = grind (arith, nat_tests) in e)
          ];
        },
      )
]
  where
    cases_below : (c n : ℕ) → (c < n) ⊎ (n ≤ c)
    cases_below c n = elim (nat_lt c n) as (λ t. nat_lt c n ≡ t → (c < n) ⊎ (n ≤ c)) [ true ↦ λ t. inl (ltb-true c n t) | false ↦ λ t. inr (grind (arith, nat_tests)) ] refl

addressed_same : (w u : WorldState) → length w.clients ≡ length u.clients → length w.voters ≡ length u.voters → (m : Message) → IsAddressed w m → IsAddressed u m
addressed_same w u clients voters (kinds.ToVoter m) h = (subst (λ n. m.client < n) clients h.0, subst (λ n. m.voter < n) voters h.1)
addressed_same w u clients voters (kinds.ToClient m) h = (subst (λ n. m.client < n) clients h.0, subst (λ n. m.voter < n) voters h.1)

-- what was seen does not matter
coherent_unseen : (w : WorldState) (es : List Event) → IsCoherent (record w { visible = es }) → IsCoherent w
coherent_unseen w es ok = record {
  numbered = record {
    clients = ok.numbered.clients;
    voters = ok.numbered.voters;
    few_clients = ok.numbered.few_clients;
    few_voters = ok.numbered.few_voters;
    messages = AllByRecursion-weaker (IsAddressed (record w { visible = es })) (IsAddressed w) (addressed_same (record w { visible = es }) w refl refl) w.sent ok.numbered.messages;
  };
  clients = ok.clients;
  voters = ok.voters;
  messages = ok.messages;
  held = ok.held;
  made = λ v c s entry. (let m = ok.made v c s entry in record { client = m.client; some = m.some; reached = m.reached });
  members = ok.members;
  common = ok.common;
}

pub coherent_world : (b : Bounds) → RunPremises b → (w : WorldState) → length w.clients ≡ b.clients → length w.voters ≡ b.voters → WorldOk b (client_at w.clients) (voter_at w.voters) w.sent → IsCoherent w
coherent_world b given w clients voters ok =
    let seen = shows_inside b given w ok in
    let run : RunOk b (record w { visible = seen.0 }) = record { clients = clients; voters = voters; world = ok; walked = seen.1 } in
    coherent_unseen w seen.0 (coherent_by b given (record w { visible = seen.0 }) run)

-- ---- who makes a step

-- only these messages were sent
pub record OnlySays (w u : WorldState) (more : List Message) : Type 0 where
  pub clients : u.clients ≡ w.clients
  pub voters : u.voters ≡ w.voters
  pub sent : u.sent ≡ w.sent ++ more
  pub visible : u.visible ≡ w.visible

-- this client or voter took a step, or was reminded
abbrev pub MadeBy : Node → WorldState → WorldState → Type 0
MadeBy (OneClient c) w u = (c < length w.clients) × (((k : ClientMoved w u) × (k.who ≡ c)) ⊎ OnlySays w u (map kinds.ToVoter (requester.remind (client_at w.clients c))))
MadeBy (OneVoter v) w u = (v < length w.voters) × (((k : VoterMoved w u) × (k.message.voter ≡ v)) ⊎ OnlySays w u (map kinds.ToClient (voter.remind (voter_at w.voters v))))
MadeBy Nobody w u = OnlySays w u []

abbrev ByIf : Node → WorldState → Result Outcome WorldFault → Type 0
ByIf who w (Ok o) = MadeBy who w o.state
ByIf who w (Err fault) = Unit {0}

by_client : (w : WorldState) (c : ℕ) (cause : requester.Cause) → c < length w.clients → Came w c cause → (r : Result requester.Outcome ClientFault) → requester.step (client_at w.clients c) cause ≡ r
    → ByIf (OneClient c) w (after_client w c r)
by_client w c cause within came (Ok o) is = (within, inl (client_made w c cause within came o is (after w (after_client w c (Ok o))) refl refl refl refl))
by_client w c cause within came (Err fault) is = tt

by_draw : (side : Side) (w : WorldState) (c : ℕ) (cause : requester.Cause) → c < length w.clients → Came w c cause → (r : Result requester.Outcome ClientFault)
    → requester.step (client_at w.clients c) cause ≡ r → ByIf (OneClient c) w (after_client (draw_of side w c) c r)
by_draw First w c cause within came (Ok o) is = (within, inl (client_made w c cause within came o is (after w (after_client (draw_of First w c) c (Ok o))) refl refl refl refl))
by_draw Second w c cause within came (Ok o) is = (within, inl (client_made w c cause within came o is (after w (after_client (draw_of Second w c) c (Ok o))) refl refl refl refl))
by_draw side w c cause within came (Err fault) is = tt

by_voter : (w : WorldState) (m : ToVoter) (k : ℕ) → slice_get w.sent k ≡ Some (kinds.ToVoter m) → m.voter < length w.voters → (r : Option voter.Outcome) → voter.step (voter_at w.voters m.voter) m ≡ r
    → ByIf (OneVoter m.voter) w (after_voter w m.voter r)
by_voter w m k came within (Some o) is = (within, inl (voter_made w m k came within o is))
by_voter w m k came within None is = tt

by_come : (w : WorldState) → IsNumbered w → (k : ℕ) (o : Option Message) → slice_get w.sent k ≡ o → ByIf (receiver o) w (come w k o)
by_come w ok k None is = tt
by_come w ok k (Some (kinds.ToVoter m)) is = (let a = AllByRecursion-get (IsAddressed w) w.sent k (kinds.ToVoter m) ok.messages is in by_voter w m k is a.1 _ refl)
by_come w ok k (Some (kinds.ToClient m)) is = (let a = AllByRecursion-get (IsAddressed w) w.sent k (kinds.ToClient m) ok.messages is in by_client w m.client (requester.Takes m) a.0 (refl, k, is) _ refl)

by_one : (w : WorldState) (t : Bool) (c : ℕ) (next : Result Outcome WorldFault) → (t ≡ true → ByIf (OneClient c) w next) → ByIf (OneClient c) w (if_client t c next)
by_one w true c next then = then refl
by_one w false c next then = tt

by_voter_one : (w : WorldState) (t : Bool) (v : ℕ) (next : Result Outcome WorldFault) → (t ≡ true → ByIf (OneVoter v) w next) → ByIf (OneVoter v) w (if_voter t v next)
by_voter_one w true v next then = then refl
by_voter_one w false v next then = tt

by_exchange : (w : WorldState) (two : Bool) (side : Side) → ByIf Nobody w (exchange two side w)
by_exchange w true First = record { clients = refl; voters = refl; sent = sym (append-nil w.sent); visible = refl }
by_exchange w true Second = tt
by_exchange w false side = tt

by_maker : (deal : Dealing) (w : WorldState) → IsNumbered w → (s : Step) → ByIf (maker w s) w (step deal w s)
unfolding step
by_maker deal w ok (Ask c) = by_one w _ c _ (λ t. by_draw w.side w c (requester.Asks (quorum_dealt deal w.side (next_ticket w))) (ltb-true _ _ t) tt _ refl)
by_maker deal w ok (Deliver k) = by_come w ok k (slice_get w.sent k) refl
by_maker deal w ok (Leave c) = by_one w _ c _ (λ t. by_client w c requester.Leaves (ltb-true _ _ t) tt _ refl)
by_maker deal w ok (GiveUp c) = by_one w _ c _ (λ t. by_client w c requester.GivesUp (ltb-true _ _ t) tt _ refl)
by_maker deal w ok (RemindClient c) = by_one w (nat_lt c (length w.clients)) c (Ok (say w (map kinds.ToVoter (requester.remind (client_at w.clients c)))))
    (λ t. (ltb-true _ _ t, inr (record { clients = refl; voters = refl; sent = refl; visible = refl })))
by_maker deal w ok (RemindVoter v) = by_voter_one w (nat_lt v (length w.voters)) v (Ok (say w (map kinds.ToClient (voter.remind (voter_at w.voters v)))))
    (λ t. (ltb-true _ _ t, inr (record { clients = refl; voters = refl; sent = refl; visible = refl })))
by_maker deal w ok Exchange = by_exchange w _ w.side

pub made_by : (deal : Dealing) (w : WorldState) → IsNumbered w → (s : Step) (o : Outcome) → step deal w s ≡ Ok o → MadeBy (maker w s) w o.state
made_by deal w ok s o is = subst (λ r. ByIf (maker w s) w r) is (by_maker deal w ok s)

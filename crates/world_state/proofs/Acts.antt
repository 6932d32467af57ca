-- what the code did is the step of the definition
use Rattle.std.proofs.Common.{◌≡◌, ℕ, List, ◌++◌, map, length, set, Option, Some, None, Result, Ok, Err, refl, sym, ap, subst, ◌∙◌}
use Rattle.std.specs.Prelude.{IfNone, IfSome, MatchBool}
use Rattle.std.specs.Global.{Vec}
use Rattle.std.specs.Vec.{with_items}
use Rattle.std.proofs.lemmas.List.{length-set, with_items_is}
use Rattle.message.specs.declared.message.ToVoter.{ToVoter}
use Rattle.message.specs.declared.message.ToClient.{ToClient}
use Rattle.message.specs.declared.message.Message.{Message}
use Rattle.message.specs.declared.message.Message.TheVariants as kinds
use Rattle.voter.specs.declared.fault.VoterFault.TheVariants.{GrantsSpent}
use Rattle.voter.specs.declared.state.VoterState.{VoterState}
use Rattle.voter.specs.Steps as voter
use Rattle.requester.specs.declared.fault.ClientFault.{ClientFault}
use Rattle.requester.specs.declared.state.ClientState.{ClientState}
use Rattle.requester.specs.declared.state.Seen.{Seen}
use Rattle.requester.specs.declared.state.Seen.TheVariants.{Nothing}
use Rattle.requester.specs.Steps as client
use Rattle.quorum_set.specs.declared.bridge.Side.{Side}
use Rattle.quorum_set.specs.declared.bridge.Side.TheVariants.{First, Second}
use Rattle.world_state.specs.declared.fault.WorldFault.{WorldFault}
use Rattle.world_state.specs.declared.fault.WorldFault.TheVariants as faults
use Rattle.world_state.specs.declared.step.Stepped.{Stepped}
use Rattle.world_state.specs.Steps.{Refuses, WorldState, act, after_client, after_voter, ask, client_at, draw, draw_of, events, outcome_of, say, vote, voter_at}

-- ---- lists that the code keeps

-- a list after a write through its slice
pub with_items-items : {X : Type 0} (v : Vec X) (os ns : List X) (n : ℕ) (x : X) → os ≡ v.items → ns ≡ set os n x → (with_items v ns).items ≡ ns
with_items-items v os ns n x is wrote = with_items_is v ns (ap (λ (l : List _). length l) wrote ∙ length-set os n x ∙ ap (λ (l : List _). length l) is ∙ sym v.ok.0)

-- ---- a client

-- what a client did, with the list of clients afterwards
abbrev pub world_with_client : WorldState → List ClientState → ℕ → List ToVoter → Seen → WorldState
world_with_client w cs c out seen = record w { clients = cs; sent = w.sent ++ map kinds.ToVoter out; visible = w.visible ++ events c seen }

after_client-Ok : (v : WorldState) (os cs ds : List ClientState) (c : ℕ) (out : List ToVoter) (seen : Seen) (r : Result client.Outcome ClientFault) (s : Stepped) (u : WorldState)
    → os ≡ v.clients → r ≡ Ok (record { out = out; seen = seen; state = client_at cs c }) → cs ≡ set os c (client_at cs c) → ds ≡ cs
    → s.sent ≡ length out → s.seen ≡ seen → u ≡ world_with_client v ds c out seen → after_client v c r ≡ Ok (outcome_of s u)
after_client-Ok v os cs ds c out seen r s u is step wrote same sent saw state =
    let list : set v.clients c (client_at cs c) ≡ ds = sym (same ∙ wrote ∙ ap (λ (l : List ClientState). set l c (client_at cs c)) is) in
    let world : world_with_client v (set v.clients c (client_at cs c)) c out seen ≡ u = ap (λ (l : List ClientState). world_with_client v l c out seen) list ∙ sym state in
    ap (λ r. after_client v c r) step ∙ (λ i. Ok (record { sent = sym sent i; seen = sym saw i; state = world i }))

-- a step of a client that the code reads from a list
read_step : (w : WorldState) (os : List ClientState) (x : ClientState) (c : ℕ) (cause : client.Cause) (r : Result client.Outcome ClientFault)
    → os ≡ w.clients → x ≡ client_at os c → client.step x cause ≡ r → client.step (client_at w.clients c) cause ≡ r
read_step w os x c cause r is who step =
    subst (λ (l : List ClientState). client.step (client_at l c) cause ≡ r) is (subst (λ (y : ClientState). client.step y cause ≡ r) who step)

pub act-Ok : (w : WorldState) (os cs ds : List ClientState) (c : ℕ) (cause : client.Cause) (out : List ToVoter) (seen : Seen) (s : Stepped) (u : WorldState)
    → os ≡ w.clients → client.step (client_at os c) cause ≡ Ok (record { out = out; seen = seen; state = client_at cs c }) → cs ≡ set os c (client_at cs c) → ds ≡ cs
    → s.sent ≡ length out → s.seen ≡ seen → u ≡ world_with_client w ds c out seen → act w c cause ≡ Ok (outcome_of s u)
act-Ok w os cs ds c cause out seen s u is step wrote same sent saw state =
    after_client-Ok w os cs ds c out seen _ s u is (read_step w os (client_at os c) c cause _ is refl step) wrote same sent saw state

pub act-Err : (w : WorldState) (os : List ClientState) (x : ClientState) (c : ℕ) (cause : client.Cause) (fault : ClientFault) → os ≡ w.clients → x ≡ client_at os c
    → client.step x cause ≡ Err fault → act w c cause ≡ Err (faults.Client fault)
act-Err w os x c cause fault is who step = ap (λ r. after_client w c r) (read_step w os x c cause (Err fault) is who step)

-- a client that would have its own fault, or none, where there is no room
pub without_room : (v w : WorldState) (os : List ClientState) (x : ClientState) (c : ℕ) (cause : client.Cause) (own : Option ClientFault) (o : client.Outcome) (fault : WorldFault)
    → os ≡ w.clients → x ≡ client_at os c → client.step x cause ≡ client.unless own o
    → IfSome own (λ f. fault ≡ faults.Client f) → IfNone own (fault ≡ faults.OutOfMemory)
    → Refuses (after_client v c (client.step (client_at w.clients c) cause)) fault
without_room v w os x c cause (Some f) o fault is who step some none =
    subst (λ r. Refuses r fault) (sym (ap (λ r. after_client v c r) (read_step w os x c cause (Err f) is who step))) some
without_room v w os x c cause None o fault is who step some none =
    subst (λ r. Refuses r fault) (sym (ap (λ r. after_client v c r) (read_step w os x c cause (Ok o) is who step))) none

-- ---- a client that asks

draw_of-clients : (side : Side) (w : WorldState) (c : ℕ) → (draw_of side w c).clients ≡ w.clients
draw_of-clients First w c = refl
draw_of-clients Second w c = refl

pub ask-Ok : (w : WorldState) (os cs ds : List ClientState) (c : ℕ) (quorum : List ℕ) (out : List ToVoter) (seen : Seen) (s : Stepped) (u : WorldState)
    → os ≡ w.clients → client.step (client_at os c) (client.Asks quorum) ≡ Ok (record { out = out; seen = seen; state = client_at cs c }) → cs ≡ set os c (client_at cs c) → ds ≡ cs
    → s.sent ≡ length out → s.seen ≡ seen → u ≡ world_with_client (draw w c) ds c out seen → ask w c quorum ≡ Ok (outcome_of s u)
ask-Ok w os cs ds c quorum out seen s u is step wrote same sent saw state =
    after_client-Ok (draw w c) os cs ds c out seen _ s u (is ∙ sym (draw_of-clients w.side w c)) (read_step w os (client_at os c) c (client.Asks quorum) _ is refl step) wrote same sent saw state

pub ask-Err : (w : WorldState) (os : List ClientState) (x : ClientState) (c : ℕ) (quorum : List ℕ) (fault : ClientFault) → os ≡ w.clients → x ≡ client_at os c
    → client.step x (client.Asks quorum) ≡ Err fault → ask w c quorum ≡ Err (faults.Client fault)
ask-Err w os x c quorum fault is who step = ap (λ r. after_client (draw w c) c r) (read_step w os x c (client.Asks quorum) (Err fault) is who step)

-- ---- a voter

pub vote-Ok : (w : WorldState) (os vs ds : List VoterState) (m : ToVoter) (replies : List ToClient) (n : ℕ) (u : WorldState)
    → os ≡ w.voters → voter.step (voter_at os m.voter) m ≡ Some (record { replies = replies; state = voter_at vs m.voter }) → vs ≡ set os m.voter (voter_at vs m.voter) → ds ≡ vs
    → n ≡ length replies → u ≡ record w { voters = ds; sent = w.sent ++ map kinds.ToClient replies } → vote w m ≡ Ok (outcome_of (record { sent = n; seen = Nothing }) u)
vote-Ok w os vs ds m replies n u is step wrote same sent state =
    let o : voter.Outcome = record { replies = replies; state = voter_at vs m.voter } in
    let now : voter.step (voter_at w.voters m.voter) m ≡ Some o = subst (λ (l : List VoterState). voter.step (voter_at l m.voter) m ≡ Some o) is step in
    let list : set w.voters m.voter (voter_at vs m.voter) ≡ ds = sym (same ∙ wrote ∙ ap (λ (l : List VoterState). set l m.voter (voter_at vs m.voter)) is) in
    let world : record w { voters = set w.voters m.voter (voter_at vs m.voter); sent = w.sent ++ map kinds.ToClient replies } ≡ u =
    ap (λ (l : List VoterState). record w { voters = l; sent = w.sent ++ map kinds.ToClient replies }) list ∙ sym state in
    ap (λ r. after_voter w m.voter r) now ∙ (λ i. Ok (record { sent = sym sent i; seen = Nothing; state = world i }))

pub vote-not_voted : (w : WorldState) (os : List VoterState) (m : ToVoter) → os ≡ w.voters → voter.step (voter_at os m.voter) m ≡ None → vote w m ≡ Err (faults.Voter GrantsSpent)
vote-not_voted w os m is step = ap (λ r. after_voter w m.voter r) (subst (λ (l : List VoterState). voter.step (voter_at l m.voter) m ≡ None) is step)

-- ---- messages alone

pub say-outcome : (w : WorldState) (more : List Message) (n : ℕ) (u : WorldState) → n ≡ length more → u ≡ record w { sent = w.sent ++ more }
    → say w more ≡ outcome_of (record { sent = n; seen = Nothing }) u
say-outcome w more n u len state = λ i. record { sent = sym len i; seen = Nothing; state = sym state i }

-- ---- a voter, where there is no room

spent_or_memory : (w : WorldState) (v : ℕ) (y : VoterState) (o : Option voter.Outcome) (fault : WorldFault)
    → MatchBool (voter.effect_by y o).refused (fault ≡ faults.Voter GrantsSpent) (fault ≡ faults.OutOfMemory) → Refuses (after_voter w v o) fault
spent_or_memory w v y None fault is = is
spent_or_memory w v y (Some o) fault is = is

pub vote-without_room : (w : WorldState) (os : List VoterState) (y : VoterState) (m : ToVoter) (fault : WorldFault) → os ≡ w.voters → y ≡ voter_at os m.voter
    → MatchBool (voter.effect_of y m).refused (fault ≡ faults.Voter GrantsSpent) (fault ≡ faults.OutOfMemory) → Refuses (vote w m) fault
unfolding voter.effect_of
vote-without_room w os y m fault is who own =
    subst (λ (z : VoterState). Refuses (after_voter w m.voter (voter.step z m)) fault) (who ∙ ap (λ (l : List VoterState). voter_at l m.voter) is)
    (spent_or_memory w m.voter y (voter.step y m) fault own)

-- what a step adds, and the tickets in order
use Rattle.std.proofs.Common.{◌≡◌, ℕ, zero, suc, ◌+◌, Bool, true, false, List, [], ◌∷◌, ◌++◌, map, length, Option, Some, None, Result, Ok, Err, refl, sym, ap, subst, ◌∙◌, arith, length-append}
use Rattle.std.specs.Prelude.{nat_lt, slice_get}
use Rattle.std.specs.List.{range_with_len}
use Rattle.std.proofs.lemmas.List.{append-nil, length-map, map-append}
use Rattle.message.specs.declared.message.Message.{Message}
use Rattle.message.specs.declared.message.Message.TheVariants as kinds
use Rattle.voter.specs.Steps as voter
use Rattle.requester.specs.declared.fault.ClientFault.{ClientFault}
use Rattle.requester.specs.Steps as client
use Rattle.quorum_set.specs.declared.bridge.Side.{Side}
use Rattle.quorum_set.specs.declared.bridge.Side.TheVariants.{First, Second}
use Rattle.world_state.specs.declared.fault.WorldFault.{WorldFault}
use Rattle.world_state.specs.declared.step.Step.{Step}
use Rattle.world_state.specs.declared.step.Step.TheVariants.{Ask, Deliver, Leave, GiveUp, RemindClient, RemindVoter, Exchange}
use Rattle.world.specs.Runs.{DrawsInOrder, after, run_of}
use Rattle.world_state.specs.Steps.{Adds, Dealing, Outcome, WorldState, after_client, after_voter, client_at, come, draw_of, exchange, if_client, if_voter, say, step, voter_at}

-- the tickets, with the next one
range_suc : (low n : ℕ) → range_with_len low (suc n) ≡ range_with_len low n ++ (low + n) ∷ []
range_suc low zero = ap (λ (k : ℕ). k ∷ []) (omega arith)
range_suc low (suc n) =
    ap (λ (l : List ℕ). low ∷ l) (range_suc (low + 1) n ∙ ap (λ (k : ℕ). range_with_len (low + 1) n ++ k ∷ []) (let same : low + 1 + n ≡ low + suc n = omega arith in same))

DrawsInOrder-push : (draws : List (ℕ × ℕ)) (c : ℕ) → DrawsInOrder draws → DrawsInOrder (draws ++ (c, length draws) ∷ [])
DrawsInOrder-push draws c is =
    let n = length draws in
    let len : length (draws ++ (c, n) ∷ []) ≡ suc n = omega (arith, length-append draws ((c, n) ∷ [])) in
    map-append (λ (d : ℕ × ℕ). d.1) draws ((c, n) ∷ []) ∙ ap (λ (l : List ℕ). l ++ n ∷ []) is ∙ ap (λ k. range_with_len 0 n ++ k ∷ []) (let same : n ≡ 0 + n = omega arith in same)
    ∙ sym (range_suc 0 n) ∙ ap (λ k. range_with_len 0 k) (sym len)

abbrev pub AreDrawn : WorldState → Type 0
AreDrawn w = DrawsInOrder w.draws × DrawsInOrder w.draws2

abbrev AddsIf : WorldState → Result Outcome WorldFault → Type 0
AddsIf w (Ok o) = Adds w o × (AreDrawn w → AreDrawn o.state)
AddsIf w (Err fault) = Unit {0}

AddsIf-after_client : (w : WorldState) (c : ℕ) (r : Result client.Outcome ClientFault) → AddsIf w (after_client w c r)
AddsIf-after_client w c (Ok o) = (record { more = map kinds.ToVoter o.out; sent = refl; count = sym (length-map o.out kinds.ToVoter); client = c; visible = refl }, λ is. is)
AddsIf-after_client w c (Err fault) = tt

AddsIf-after_draw : (side : Side) (w : WorldState) (c : ℕ) (r : Result client.Outcome ClientFault) → AddsIf w (after_client (draw_of side w c) c r)
AddsIf-after_draw First w c (Ok o) = (record { more = map kinds.ToVoter o.out; sent = refl; count = sym (length-map o.out kinds.ToVoter); client = c; visible = refl }, λ is. (DrawsInOrder-push w.draws c is.0, is.1))
AddsIf-after_draw Second w c (Ok o) = (record { more = map kinds.ToVoter o.out; sent = refl; count = sym (length-map o.out kinds.ToVoter); client = c; visible = refl }, λ is. (is.0, DrawsInOrder-push w.draws2 c is.1))
AddsIf-after_draw side w c (Err fault) = tt

AddsIf-exchange : (are_two : Bool) (side : Side) (w : WorldState) → AddsIf w (exchange are_two side w)
AddsIf-exchange true First w = (record { more = []; sent = sym (append-nil w.sent); count = refl; client = 0; visible = sym (append-nil w.visible) }, λ is. is)
AddsIf-exchange true Second w = tt
AddsIf-exchange false side w = tt

AddsIf-after_voter : (w : WorldState) (v : ℕ) (r : Option voter.Outcome) → AddsIf w (after_voter w v r)
AddsIf-after_voter w v (Some o) = (record { more = map kinds.ToClient o.replies; sent = refl; count = sym (length-map o.replies kinds.ToClient); client = 0; visible = sym (append-nil w.visible) }, λ is. is)
AddsIf-after_voter w v None = tt

AddsIf-say : (w : WorldState) (more : List Message) → AddsIf w (Ok (say w more))
AddsIf-say w more = (record { more = more; sent = refl; count = refl; client = 0; visible = sym (append-nil w.visible) }, λ is. is)

AddsIf-come : (w : WorldState) (k : ℕ) (o : Option Message) → AddsIf w (come w k o)
AddsIf-come w k None = tt
AddsIf-come w k (Some (kinds.ToVoter m)) = AddsIf-after_voter w m.voter (voter.step (voter_at w.voters m.voter) m)
AddsIf-come w k (Some (kinds.ToClient m)) = AddsIf-after_client w m.client (client.step (client_at w.clients m.client) (client.Takes m))

if_one : (w : WorldState) (t : Bool) (c : ℕ) (next : Result Outcome WorldFault) → AddsIf w next → AddsIf w (if_client t c next)
if_one w true c next adds = adds
if_one w false c next adds = tt

if_voter_one : (w : WorldState) (t : Bool) (v : ℕ) (next : Result Outcome WorldFault) → AddsIf w next → AddsIf w (if_voter t v next)
if_voter_one w true v next adds = adds
if_voter_one w false v next adds = tt

adds_step : (deal : Dealing) (w : WorldState) (s : Step) → AddsIf w (step deal w s)
unfolding step
adds_step deal w (Ask c) = if_one w (nat_lt c (length w.clients)) c _ (AddsIf-after_draw w.side w c _)
adds_step deal w (Deliver k) = AddsIf-come w k (slice_get w.sent k)
adds_step deal w (Leave c) = if_one w (nat_lt c (length w.clients)) c _ (AddsIf-after_client w c _)
adds_step deal w (GiveUp c) = if_one w (nat_lt c (length w.clients)) c _ (AddsIf-after_client w c _)
adds_step deal w (RemindClient c) = if_one w (nat_lt c (length w.clients)) c _ (AddsIf-say w _)
adds_step deal w (RemindVoter v) = if_voter_one w (nat_lt v (length w.voters)) v _ (AddsIf-say w _)
adds_step deal w Exchange = AddsIf-exchange _ w.side w

pub Adds-step : (deal : Dealing) (w : WorldState) (s : Step) (o : Outcome) → step deal w s ≡ Ok o → Adds w o
Adds-step deal w s o is = (subst (λ r. AddsIf w r) is (adds_step deal w s)).0

AreDrawn-step : (deal : Dealing) (w : WorldState) (s : Step) → AreDrawn w → AreDrawn (after w (step deal w s))
AreDrawn-step deal w s is = by (step deal w s) (adds_step deal w s)
  where
    by : (r : Result Outcome WorldFault) → AddsIf w r → AreDrawn (after w r)
    by (Ok o) adds = adds.1 is
    by (Err fault) adds = is

pub AreDrawn-run : (deal : Dealing) (steps : List Step) (w : WorldState) → AreDrawn w → AreDrawn (run_of deal steps w)
AreDrawn-run deal [] w is = is
AreDrawn-run deal (s ∷ steps) w is = AreDrawn-run deal steps (after w (step deal w s)) (AreDrawn-step deal w s is)

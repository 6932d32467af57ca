-- that the premises on turns hold of the example
use Rattle.std.proofs.Common.{◌≡◌, ℕ, zero, suc, ◌+◌, ◌<◌, ◌≤◌, Bool, true, false, cond, List, [], ◌∷◌, ◌++◌, length, Option, Some, None, refl, sym, ap, subst, ◌∙◌, inl, inr, arith, eqb}
use Rattle.std.specs.Prelude.{nat_lt, slice_index, slice_index_or}
use Rattle.std.specs.List.{AllByRecursion}
use Rattle.std.specs.Ordering.{nat_cmp}
use Rattle.std.specs.Cmp.{nat_cmp_total}
use Rattle.std.specs.FinMap as fin
use Rattle.std.specs.FinMap.{get-empty, get-insert}
use Rattle.std.proofs.lemmas.Bool.{eqb-true, eq-eqb}
use Rattle.std.proofs.lemmas.Option.{none-some, same_Some}
use Rattle.numbers.specs.Sets.{has}
use Rattle.message.specs.declared.request.Request.{Request}
use Rattle.message.specs.declared.message.ToClient.{ToClient}
use Rattle.message.specs.declared.message.VoterBody.TheVariants as asks
use Rattle.message.specs.declared.message.ClientBody.TheVariants as to_client
use Rattle.message.specs.Requests.{precedes}
use Rattle.voter.specs.declared.state.VoterState.{VoterState}
use Rattle.voter.specs.Steps as voter
use Rattle.voter.specs.Waiting.{Waiting, front}
use Rattle.voter.proofs.Front.{eq_by_cmp-nat, front-is, precedes-not_self}
use Rattle.voter_node.specs.Nodes as nodes
use Rattle.voter_node.specs.Lives.{Fate, IsSkipped, Meets, lived, said, says}
use Rattle.passes.specs.Grants.{Gave, HaveLimits, IsGiven}
use Rattle.passes.specs.Turns.{HasSkipped}
use Rattle.generations.specs.Example.{three_plans}
use Rattle.generations.proofs.Worlds.{all_of}
use Rattle.generations.specs.Turns.{AreSettled, HasTurn, KeepMarks}
use Rattle.generations.specs.TurnExample.{by_number, ceilings, first_entry, floors, gives_first, gives_second, six_voters, third_entry}

-- ---- a voter takes a REQUEST while its vote is free

abbrev pub one_waiting : ℕ → ℕ → Waiting
one_waiting c s = fin.insert fin.empty c s

abbrev pub request_of : ℕ → ℕ → Request
request_of c s = record { stamp = s; client = c }

found : (c s d t : ℕ) (b : Bool) → eqb d c ≡ b → cond b (Some s) None ≡ Some t → request_of d t ≡ request_of c s
found c s d t true e is = ap (λ (n : ℕ). request_of n t) (eqb-true d c e) ∙ ap (λ (n : ℕ). request_of c n) (sym (same_Some s t is))
found c s d t false e is = absurd (none-some t is)

pub one_get : (c s d : ℕ) → fin.get (one_waiting c s) d ≡ cond (eqb d c) (Some s) None
one_get c s d = get-insert nat_cmp_total fin.empty c s d ∙ ap (λ (b : Bool). cond b (Some s) (fin.get (fin.empty {R = nat_cmp}) d)) (eq_by_cmp-nat d c)
    ∙ ap (λ (o : Option ℕ). cond (eqb d c) (Some s) o) (get-empty nat_cmp d)

pub one_waits : (c s : ℕ) → front (one_waiting c s) ≡ Some (request_of c s)
one_waits c s = front-is (one_waiting c s) (request_of c s) (one_get c s c ∙ ap (λ (b : Bool). cond b (Some s) None) (eq-eqb c c refl))
    (λ d t is. subst (λ (r : Request). precedes r (request_of c s) ≡ false) (sym (found c s d t (eqb d c) refl (sym (one_get c s d) ∙ is))) (precedes-not_self (request_of c s)))

-- a voter that gave or skipped so many grants, and to which nobody asks
abbrev pub free_voter : ℕ → ℕ → VoterState
free_voter id granted = record (voter.start id 10) { granted = granted }

-- it gives its vote to the request
abbrev pub asked : ℕ → ℕ → ℕ → ℕ → voter.Outcome
asked id granted c s = voter.grant_to (voter.queue (voter.see (free_voter id granted) s) c s) (Some (request_of c s))

pub beside : (id granted c s : ℕ) → voter.take_request_beside (voter.see (free_voter id granted) s) c s (fin.get (fin.empty {R = nat_cmp}) c) ≡ asked id granted c s
unfolding voter.take_request_beside voter.admit voter.grant_front
beside id granted c s =
    ap (λ (o : Option ℕ). voter.take_request_beside (voter.see (free_voter id granted) s) c s o) (get-empty nat_cmp c)
    ∙ ap (λ (o : Option Request). voter.grant_to (voter.queue (voter.see (free_voter id granted) s) c s) o) (one_waits c s)

first_step : (v : ℕ) → voter.step (voter.start v 10) (record { client = 0; voter = v; body = asks.Request 1 }) ≡ Some (asked v 0 0 1)
unfolding voter.step voter.take_request
first_step v = ap (λ (o : voter.Outcome). voter.unless_spent (nat_lt 10 o.state.granted) o) (beside v 0 0 1)

second_step : (v : ℕ) → voter.step (free_voter v 1) (record { client = 2; voter = v; body = asks.Request 3 }) ≡ Some (asked v 1 2 3)
unfolding voter.step voter.take_request
second_step v = ap (λ (o : voter.Outcome). voter.unless_spent (nat_lt 10 o.state.granted) o) (beside v 1 2 3)

-- ---- the lives

-- the node after a step of its voter
abbrev stepped : nodes.Node → Option voter.Outcome → nodes.Node
stepped n o = nodes.after n (nodes.after_voter n o)

abbrev new_node : ℕ → nodes.Node
new_node v = nodes.node_of (voter.start v 10)

-- the node of a voter that skipped grant 1
abbrev skipped_node : ℕ → nodes.Node
skipped_node v = record (new_node v) { live = free_voter v 1 }

first_said : (v : ℕ) → said v 10 (gives_first v) ≡ record { voter = v; client = 0; seen = 1; body = to_client.Locked 1 1 } ∷ []
unfolding nodes.node_step
first_said v = ap (λ (o : Option voter.Outcome). nodes.sends_of (nodes.after_voter (new_node v) o) ++ says (stepped (new_node v) o) (Meets nodes.IsSaved ∷ [])) (first_step v)

second_said : (v : ℕ) → said v 10 (gives_second v) ≡ record { voter = v; client = 2; seen = 3; body = to_client.Locked 3 2 } ∷ []
unfolding nodes.node_step
second_said v = ap (λ (o : Option voter.Outcome). nodes.sends_of (nodes.after_voter (skipped_node v) o) ++ says (stepped (skipped_node v) o) (Meets nodes.IsSaved ∷ [])) (second_step v)

first_lived : (v : ℕ) → (lived v 10 (gives_first v)).saved ≡ (asked v 0 0 1).state
unfolding nodes.node_step
first_lived v = ap (λ (o : Option voter.Outcome). (stepped (new_node v) o).live) (first_step v)

second_lived : (v : ℕ) → (lived v 10 (gives_second v)).saved ≡ (asked v 1 2 3).state
unfolding nodes.node_step
second_lived v = ap (λ (o : Option voter.Outcome). (stepped (skipped_node v) o).live) (second_step v)

-- before the save nothing is saved
first_before : (v : ℕ) → (lived v 10 (Meets (nodes.Takes (record { client = 0; voter = v; body = asks.Request 1 })) ∷ [])).saved ≡ voter.start v 10
unfolding nodes.node_step
first_before v = ap (λ (o : Option voter.Outcome). (stepped (new_node v) o).saved) (first_step v)

second_before : (v : ℕ) → (lived v 10 (IsSkipped 1 ∷ Meets (nodes.Takes (record { client = 2; voter = v; body = asks.Request 3 })) ∷ [])).saved ≡ voter.start v 10
unfolding nodes.node_step
second_before v = ap (λ (o : Option voter.Outcome). (stepped (skipped_node v) o).saved) (second_step v)

-- ---- parts of a life

-- what holds of each beginning of a list
abbrev AllBeginnings : (List Fate → Type 0) → List Fate → Type 0
AllBeginnings P [] = P []
AllBeginnings P (x ∷ xs) = P [] × AllBeginnings (λ b. P (x ∷ b)) xs

first_of : Fate → List Fate → Fate
first_of d [] = d
first_of d (x ∷ xs) = x

rest_of : List Fate → List Fate
rest_of [] = []
rest_of (x ∷ xs) = xs

begins_with : (P : List Fate → Type 0) (life before after : List Fate) → AllBeginnings P life → life ≡ before ++ after → P before
unfolding first_of rest_of
begins_with P [] [] after all e = all
begins_with P [] (b ∷ bs) after all e = absurd (let none : 0 ≡ suc (length (bs ++ after)) = ap (λ (l : List Fate). length l) e in omega arith)
begins_with P (x ∷ xs) [] after all e = all.0
begins_with P (x ∷ xs) (b ∷ bs) after all e =
    subst (λ (y : Fate). P (y ∷ bs)) (ap (λ (l : List Fate). first_of x l) e)
    (begins_with (λ c. P (x ∷ c)) xs bs after all.1 (ap (λ (l : List Fate). rest_of l) e))

-- how many grants are saved
abbrev HasFew : ℕ → ℕ → List Fate → Type 0
HasFew v most before = (lived v 10 before).saved.granted ≤ most

few_by : (most : ℕ) (y z : VoterState) → z ≡ y → y.granted ≤ most → z.granted ≤ most
few_by most y z e few = subst (λ (x : VoterState). x.granted ≤ most) (sym e) few

first_few : (v : ℕ) (before after : List Fate) → gives_first v ≡ before ++ after → HasFew v 1 before
first_few v before after parts = begins_with (HasFew v 1) (gives_first v) before after (
  let none : 0 ≤ 1 = omega arith in none,
  (few_by 1 (voter.start v 10) _ (first_before v) (omega arith), few_by 1 (asked v 0 0 1).state _ (first_lived v) (omega arith)),
) parts

second_few : (v : ℕ) (before after : List Fate) → gives_second v ≡ before ++ after → HasFew v 2 before
second_few v before after parts = begins_with (HasFew v 2) (gives_second v) before after (
  let none : 0 ≤ 2 = omega arith in none,
  (let none : 0 ≤ 2 = omega arith in none, (few_by 2 (voter.start v 10) _ (second_before v) (omega arith), few_by 2 (asked v 1 2 3).state _ (second_lived v) (omega arith))),
) parts

-- ---- what voters gave

record IsFirst (c s g : ℕ) : Type 0 where
  client : 0 ≡ c
  grant : 1 ≡ g

record IsThird (c s g : ℕ) : Type 0 where
  client : 2 ≡ c
  grant : 2 ≡ g

gave_first : (v c s g : ℕ) → IsGiven (said v 10 (gives_first v)) c s g → IsFirst c s g
gave_first v c s g gave = elim (subst (λ (rs : List ToClient). IsGiven rs c s g) (first_said v) gave) [
  | inl is ↦ record { client = is.0; grant = is.1.1 }
  | inr none ↦ absurd none
]

gave_second : (v c s g : ℕ) → IsGiven (said v 10 (gives_second v)) c s g → IsThird c s g
gave_second v c s g gave = elim (subst (λ (rs : List ToClient). IsGiven rs c s g) (second_said v) gave) [
  | inl is ↦ record { client = is.0; grant = is.1.1 }
  | inr none ↦ absurd none
]

low : (n c s g : ℕ) → IsFirst c s g → c ≡ n + 1 → n < g
low n c s g is at = (let of = is.client in absurd (omega arith))

high : (n c s g : ℕ) → IsThird c s g → c ≡ n + 1 → n < g
high n c s g is at = (let of = is.client in let number = is.grant in omega arith)

above : (n v c s g : ℕ) → Gave six_voters v c s g → c ≡ n + 1 → n < g
above n zero c s g gave at = low n c s g (gave_first 0 c s g gave) at
above n (suc zero) c s g gave at = low n c s g (gave_first 1 c s g gave) at
above n (suc (suc zero)) c s g gave at = absurd gave
above n (suc (suc (suc zero))) c s g gave at = absurd gave
above n (suc (suc (suc (suc zero)))) c s g gave at = high n c s g (gave_second 4 c s g gave) at
above n (suc (suc (suc (suc (suc zero))))) c s g gave at = high n c s g (gave_second 5 c s g gave) at
above n (suc (suc (suc (suc (suc (suc v)))))) c s g gave at = absurd gave

first_below : (n v c s g top : ℕ) → IsFirst c s g → HasSkipped v 10 (gives_first v) g top → top ≤ n + 1
first_below n v c s g top is skipped = (let few = first_few v skipped.before skipped.after skipped.parts in let spent = skipped.spent in omega arith)

second_below : (n v c s g top : ℕ) → IsThird c s g → c ≡ n → HasSkipped v 10 (gives_second v) g top → top ≤ n + 1
second_below n v c s g top is at skipped =
    (let few = second_few v skipped.before skipped.after skipped.parts in let spent = skipped.spent in let of = is.client in omega arith)

below : (n v c s g top : ℕ) → Gave six_voters v c s g → c ≡ n → HasSkipped v (six_voters.limit v) (six_voters.life v) g top → top ≤ n + 1
below n zero c s g top gave at skipped = first_below n 0 c s g top (gave_first 0 c s g gave) skipped
below n (suc zero) c s g top gave at skipped = first_below n 1 c s g top (gave_first 1 c s g gave) skipped
below n (suc (suc zero)) c s g top gave at skipped = absurd gave
below n (suc (suc (suc zero))) c s g top gave at skipped = absurd gave
below n (suc (suc (suc (suc zero)))) c s g top gave at skipped = second_below n 4 c s g top (gave_second 4 c s g gave) at skipped
below n (suc (suc (suc (suc (suc zero))))) c s g top gave at skipped = second_below n 5 c s g top (gave_second 5 c s g gave) at skipped
below n (suc (suc (suc (suc (suc (suc v)))))) c s g top gave at skipped = absurd gave

pub limits : HaveLimits six_voters
limits v = omega arith

pub keeps : KeepMarks by_number six_voters floors ceilings
keeps = record { above = above; below = below; rises = λ n v. omega arith }

-- ---- the quorums that settle

pub settled : AreSettled three_plans floors ceilings 2
settled zero few = record {
  quorum = 1 ∷ 2 ∷ 4 ∷ 5 ∷ [];
  among = (1, omega arith, refl);
  learned = λ u in_quorum q among. pick q among.0 among.1 among.2;
}
  where
    pick : (q : List ℕ) (j : ℕ) → j < 3 → q ≡ slice_index_or (three_plans 0) j [] → (v : ℕ) × (has q v ≡ true) × (0 + 1 ≤ 0 + 1)
    pick q zero few e = (0, ap (λ (s : List ℕ). has s 0) e, omega arith)
    pick q (suc zero) few e = (1, ap (λ (s : List ℕ). has s 1) e, omega arith)
    pick q (suc (suc zero)) few e = (0, ap (λ (s : List ℕ). has s 0) e, omega arith)
    pick q (suc (suc (suc j))) few e = absurd (omega arith)
settled (suc n) few = absurd (omega arith)

-- ---- the passes and their turns

at_most : (top : ℕ) (grants : List ℕ) → AllByRecursion (λ g. g ≤ top) grants → (v : ℕ) → slice_index grants v ≤ top
at_most top [] all v = omega arith
at_most top (g ∷ gs) all zero = all.0
at_most top (g ∷ gs) all (suc v) = at_most top gs all.1 v

first_skips : (v : ℕ) → HasSkipped v 10 (gives_first v) 1 1
first_skips v = record {
  before = gives_first v;
  after = [];
  parts = refl;
  holder = record { client = 0; stamp = 1; grant = 1 };
  held = ap (λ (y : VoterState). y.held) (first_lived v);
  number = refl;
  spent = subst (λ (y : VoterState). 1 ≤ y.granted) (sym (first_lived v)) (omega arith);
}

second_skips : (v : ℕ) → HasSkipped v 10 (gives_second v) 2 2
second_skips v = record {
  before = gives_second v;
  after = [];
  parts = refl;
  holder = record { client = 2; stamp = 3; grant = 2 };
  held = ap (λ (y : VoterState). y.held) (second_lived v);
  number = refl;
  spent = subst (λ (y : VoterState). 2 ≤ y.granted) (sym (second_lived v)) (omega arith);
}

first_given : (v : ℕ) → IsGiven (said v 10 (gives_first v)) 0 1 1
first_given v = subst (λ (rs : List ToClient). IsGiven rs 0 1 1) (sym (first_said v)) (inl (refl, (refl, refl)))

second_given : (v : ℕ) → IsGiven (said v 10 (gives_second v)) 2 3 2
second_given v = subst (λ (rs : List ToClient). IsGiven rs 2 3 2) (sym (second_said v)) (inl (refl, (refl, refl)))

first_gave : (v : ℕ) → 1 ≤ slice_index first_entry.pass.grants v → Gave six_voters v 0 1 (slice_index first_entry.pass.grants v)
first_gave zero some = first_given 0
first_gave (suc zero) some = first_given 1
first_gave (suc (suc v)) some = absurd (omega arith)

third_gave : (v : ℕ) → 1 ≤ slice_index third_entry.pass.grants v → Gave six_voters v 2 3 (slice_index third_entry.pass.grants v)
third_gave zero some = absurd (omega arith)
third_gave (suc zero) some = absurd (omega arith)
third_gave (suc (suc zero)) some = absurd (omega arith)
third_gave (suc (suc (suc zero))) some = absurd (omega arith)
third_gave (suc (suc (suc (suc zero)))) some = second_given 4
third_gave (suc (suc (suc (suc (suc zero))))) some = second_given 5
third_gave (suc (suc (suc (suc (suc (suc v)))))) some = absurd (omega arith)

first_turn : (v : ℕ) → 1 ≤ slice_index first_entry.pass.grants v → HasSkipped v (six_voters.limit v) (six_voters.life v) (slice_index first_entry.pass.grants v) 1
first_turn zero some = first_skips 0
first_turn (suc zero) some = first_skips 1
first_turn (suc (suc v)) some = absurd (omega arith)

third_turn : (v : ℕ) → 1 ≤ slice_index third_entry.pass.grants v → HasSkipped v (six_voters.limit v) (six_voters.life v) (slice_index third_entry.pass.grants v) 2
third_turn zero some = absurd (omega arith)
third_turn (suc zero) some = absurd (omega arith)
third_turn (suc (suc zero)) some = absurd (omega arith)
third_turn (suc (suc (suc zero))) some = absurd (omega arith)
third_turn (suc (suc (suc (suc zero)))) some = second_skips 4
third_turn (suc (suc (suc (suc (suc zero))))) some = second_skips 5
third_turn (suc (suc (suc (suc (suc (suc v)))))) some = absurd (omega arith)

first_covers : (v : ℕ) → has (0 ∷ 1 ∷ []) v ≡ true → 1 ≤ slice_index first_entry.pass.grants v
first_covers v in_quorum = all_of (λ u. 1 ≤ slice_index first_entry.pass.grants u) (0 ∷ 1 ∷ []) v (omega arith, (omega arith, tt)) in_quorum

third_covers : (v : ℕ) → has (4 ∷ 5 ∷ []) v ≡ true → 1 ≤ slice_index third_entry.pass.grants v
third_covers v in_quorum = all_of (λ u. 1 ≤ slice_index third_entry.pass.grants u) (4 ∷ 5 ∷ []) v (omega arith, (omega arith, tt)) in_quorum

pub first_has_turn : HasTurn three_plans by_number six_voters 2 first_entry
first_has_turn = record {
  few = omega arith;
  pass = record { quorum = 0 ∷ 1 ∷ []; among = (0, omega arith, refl); covers = first_covers; given = first_gave };
  turn = record { most = at_most 1 (1 ∷ 1 ∷ []) (omega arith, (omega arith, tt)); skipped = first_turn };
}

pub third_has_turn : HasTurn three_plans by_number six_voters 2 third_entry
third_has_turn = record {
  few = omega arith;
  pass = record { quorum = 4 ∷ 5 ∷ []; among = (1, omega arith, refl); covers = third_covers; given = third_gave };
  turn = record { most = at_most 2 (0 ∷ 0 ∷ 0 ∷ 0 ∷ 2 ∷ 2 ∷ []) (omega arith, (omega arith, (omega arith, (omega arith, (omega arith, (omega arith, tt)))))); skipped = third_turn };
}

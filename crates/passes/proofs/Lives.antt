-- One walk over the life of a voter: a property of what it said so far and of its node, which each thing that may befall the
-- node keeps, holds after every life.
use Rattle.std.proofs.Common.{◌≡◌, ℕ, ◌≤◌, Bool, true, false, List, [], ◌∷◌, ◌++◌, Option, Some, None, Result, refl, sym, subst, arith}
use Rattle.std.specs.Prelude.{◌&&◌, ◌==◌, nat_le, if◌then◌else◌}
use Rattle.std.proofs.lemmas.Bool.{and_parts}
use Rattle.std.proofs.lemmas.Bool.Decides.{nat_tests}
use Rattle.std.proofs.lemmas.List.{append_assoc, append-nil}
use Rattle.std.proofs.lemmas.Option.{none-some, same_Some}
use Rattle.std.specs.FinMap as fin
use Rattle.std.specs.Ordering.{nat_cmp}
use Rattle.numbers.specs.Bounds.{max_limit}
use Rattle.message.specs.declared.message.ToVoter.{ToVoter}
use Rattle.message.specs.declared.message.ToClient.{ToClient}
use Rattle.voter.specs.declared.state.Grant.{Grant}
use Rattle.voter.specs.Leases.{evict, evict_held, release_of, reborn}
use Rattle.voter.specs.Saved.{least_voter}
use Rattle.voter.specs.Steps as voter
use Rattle.voter.specs.VoterContract.{AllReport}
use Rattle.voter_node.specs.declared.fault.NodeFault.{NodeFault}
use Rattle.voter_node.specs.Nodes as nodes
use Rattle.voter_node.specs.Lives.{Fate, Meets, IsReborn, HasLimit, IsSkipped, be_reborn, be_skipped, becomes, have_limit, node_after, says, sends}
use Rattle.world.specs.Rules.{VoterLaws}

-- the property is kept by each thing that may befall a node
pub record LifeKeeps (I : List ToClient → nodes.Node → Type 0) : Type 0 where
  pub limit : (told : List ToClient) (n : nodes.Node) → I told n → n.live.limit ≤ max_limit
  -- the voter makes a step, and its replies wait
  pub steps : (told : List ToClient) (n : nodes.Node) (m : ToVoter) (o : voter.Outcome) → I told n → voter.step n.live m ≡ Some o → I told (nodes.put n o)
  -- messages about the grant wait
  pub reports : (told : List ToClient) (n : nodes.Node) (rs : List ToClient) → I told n → AllReport n.live.held rs → I told (nodes.put n (record { replies = rs; state = n.live }))
  -- what waits leaves
  pub saves : (told : List ToClient) (n : nodes.Node) → I told n → I (told ++ n.outbox) (nodes.node_of n.live)
  -- it begins again with what was saved, or with the least of it
  pub restarts : (told : List ToClient) (n : nodes.Node) → I told n → I told (nodes.node_of n.saved)
  pub forgets : (told : List ToClient) (n : nodes.Node) → I told n → I told (nodes.node_of (least_voter n.saved))
  pub reborn : (told : List ToClient) (n : nodes.Node) (above limit : ℕ) → I told n → n.saved.granted ≤ above → above ≤ limit → limit ≤ max_limit → I told (nodes.node_of (reborn n.saved.id above limit))
  -- it skips numbers, or has another limit
  pub counts : (told : List ToClient) (n : nodes.Node) (granted limit : ℕ) → I told n → n.live.granted ≤ granted → granted ≤ limit → limit ≤ max_limit
      → I told (record n { live = record n.live { granted = granted; limit = limit } })

pub same_number : (n : ℕ) → n ≤ n
same_number n = omega arith

-- a voter that is reborn is sound
pub reborn_is_sound : (id above limit : ℕ) → above ≤ limit → limit ≤ max_limit → voter.IsSound (reborn id above limit)
reborn_is_sound id above limit most few = record {
  limit = few;
  granted = most;
  numbered = λ g held. absurd (none-some g held);
  apart = λ g held. fin.get-empty nat_cmp g.client;
  free = λ held c. fin.get-empty nat_cmp c;
}

-- nothing leaves
quiet : (I : List ToClient → nodes.Node → Type 0) (told : List ToClient) (n : nodes.Node) → I told n → I (told ++ []) n
quiet I told n is = subst (λ (ms : List ToClient). I ms n) (sym (append-nil told)) is

-- the node goes on by this result
abbrev GoesBy : (List ToClient → nodes.Node → Type 0) → List ToClient → nodes.Node → Result nodes.Turn NodeFault → Type 0
GoesBy I told n r = I (told ++ nodes.sends_of r) (nodes.after n r)

room_on : (I : List ToClient → nodes.Node → Type 0) (told : List ToClient) (n : nodes.Node) → I told n → (room : Bool) (r : Result nodes.Turn NodeFault) → GoesBy I told n r → GoesBy I told n (nodes.if_room room r)
room_on I told n is true r on = on
room_on I told n is false r on = quiet I told n is

by_voter : (I : List ToClient → nodes.Node → Type 0) (told : List ToClient) (n : nodes.Node) → I told n → (r : Option voter.Outcome) → ((o : voter.Outcome) → r ≡ Some o → I told (nodes.put n o)) → GoesBy I told n (nodes.after_voter n r)
by_voter I told n is None on = quiet I told n is
by_voter I told n is (Some o) on = quiet I told (nodes.put n o) (on o refl)

silent_on : (I : List ToClient → nodes.Node → Type 0) → LifeKeeps I → (told : List ToClient) (n : nodes.Node) → I told n → (o : voter.Outcome) → Some (voter.no_reply n.live) ≡ Some o → I told (nodes.put n o)
silent_on I keeps told n is o e = subst (λ (p : voter.Outcome). I told (nodes.put n p)) (same_Some (voter.no_reply n.live) o e) (keeps.reports told n [] is tt)

evicted_if : (I : List ToClient → nodes.Node → Type 0) → LifeKeeps I → (told : List ToClient) (n : nodes.Node) → I told n → (m : ToVoter) (t : Bool) → (o : voter.Outcome)
    → (if t then voter.step n.live m else Some (voter.no_reply n.live)) ≡ Some o → I told (nodes.put n o)
evicted_if I keeps told n is m true o e = keeps.steps told n m o is e
evicted_if I keeps told n is m false o e = silent_on I keeps told n is o e

evicted : (I : List ToClient → nodes.Node → Type 0) → LifeKeeps I → (told : List ToClient) (n : nodes.Node) → I told n → (grant : ℕ) (held : Option Grant) (o : voter.Outcome)
    → evict_held held n.live grant ≡ Some o → I told (nodes.put n o)
evicted I keeps told n is grant None o e = silent_on I keeps told n is o e
evicted I keeps told n is grant (Some g) o e = evicted_if I keeps told n is (release_of n.live g) (g.grant == grant) o e

event_on : (I : List ToClient → nodes.Node → Type 0) → LifeKeeps I → VoterLaws → (told : List ToClient) (n : nodes.Node) → I told n → (e : nodes.Event) → GoesBy I told n (nodes.node_step n e)
unfolding nodes.node_step
event_on I keeps laws told n is (nodes.Takes m) = room_on I told n is (nodes.has_room n) (nodes.after_voter n (voter.step n.live m)) (by_voter I told n is (voter.step n.live m) (λ o e. keeps.steps told n m o is e))
event_on I keeps laws told n is (nodes.Evicts grant) = room_on I told n is (nodes.has_room n) (nodes.after_voter n (evict n.live grant)) (by_voter I told n is (evict n.live grant) (λ o e. evicted I keeps told n is grant n.live.held o e))
event_on I keeps laws told n is nodes.Reminds =
    room_on I told n is (nodes.has_room n) _ (quiet I told (nodes.put n (record { replies = voter.remind n.live; state = n.live })) (keeps.reports told n (voter.remind n.live) is (laws.reminds n.live)))
event_on I keeps laws told n is nodes.IsSaved = keeps.saves told n is
event_on I keeps laws told n is nodes.Restarts = quiet I told (nodes.node_of n.saved) (keeps.restarts told n is)
event_on I keeps laws told n is nodes.Forgets = quiet I told (nodes.node_of (least_voter n.saved)) (keeps.forgets told n is)

-- ---- what befalls

reborn_on : (I : List ToClient → nodes.Node → Type 0) → LifeKeeps I → (told : List ToClient) (n : nodes.Node) → I told n → (above limit : ℕ) (t : Bool)
    → (nat_le n.saved.granted above && (nat_le above limit && nat_le limit max_limit)) ≡ t → I told (be_reborn t n above limit)
reborn_on I keeps told n is above limit false e = is
reborn_on I keeps told n is above limit true e =
    let parts = and_parts (nat_le n.saved.granted above) (nat_le above limit && nat_le limit max_limit) e in
    let ends = and_parts (nat_le above limit) (nat_le limit max_limit) parts.1 in
    let least : n.saved.granted ≤ above = (let h = parts.0 in grind (arith, nat_tests)) in
    let most : above ≤ limit = (let h = ends.0 in grind (arith, nat_tests)) in
    let few : limit ≤ max_limit = (let h = ends.1 in grind (arith, nat_tests)) in
    keeps.reborn told n above limit is least most few

limit_on : (I : List ToClient → nodes.Node → Type 0) → LifeKeeps I → (told : List ToClient) (n : nodes.Node) → I told n → (limit : ℕ) (t : Bool) → (nat_le n.live.granted limit && nat_le limit max_limit) ≡ t → I told (have_limit t n limit)
limit_on I keeps told n is limit false e = is
limit_on I keeps told n is limit true e =
    let parts = and_parts (nat_le n.live.granted limit) (nat_le limit max_limit) e in
    let least : n.live.granted ≤ limit = (let h = parts.0 in grind (arith, nat_tests)) in
    let most : limit ≤ max_limit = (let h = parts.1 in grind (arith, nat_tests)) in
    keeps.counts told n n.live.granted limit is (same_number n.live.granted) least most

skip_on : (I : List ToClient → nodes.Node → Type 0) → LifeKeeps I → (told : List ToClient) (n : nodes.Node) → I told n → (above : ℕ) (t : Bool) → (nat_le n.live.granted above && nat_le above n.live.limit) ≡ t → I told (be_skipped t n above)
skip_on I keeps told n is above false e = is
skip_on I keeps told n is above true e =
    let parts = and_parts (nat_le n.live.granted above) (nat_le above n.live.limit) e in
    let least : n.live.granted ≤ above = (let h = parts.0 in grind (arith, nat_tests)) in
    let most : above ≤ n.live.limit = (let h = parts.1 in grind (arith, nat_tests)) in
    keeps.counts told n above n.live.limit is least most (keeps.limit told n is)

fate_on : (I : List ToClient → nodes.Node → Type 0) → LifeKeeps I → VoterLaws → (told : List ToClient) (n : nodes.Node) → I told n → (f : Fate) → I (told ++ sends n f) (becomes n f)
fate_on I keeps laws told n is (Meets e) = event_on I keeps laws told n is e
fate_on I keeps laws told n is (IsReborn above limit) = quiet I told (becomes n (IsReborn above limit)) (reborn_on I keeps told n is above limit _ refl)
fate_on I keeps laws told n is (HasLimit limit) = quiet I told (becomes n (HasLimit limit)) (limit_on I keeps told n is limit _ refl)
fate_on I keeps laws told n is (IsSkipped above) = quiet I told (becomes n (IsSkipped above)) (skip_on I keeps told n is above _ refl)

-- it holds after a whole life
pub lasts : (I : List ToClient → nodes.Node → Type 0) → LifeKeeps I → VoterLaws → (told : List ToClient) (n : nodes.Node) → I told n → (life : List Fate) → I (told ++ says n life) (node_after n life)
lasts I keeps laws told n is [] = quiet I told n is
lasts I keeps laws told n is (f ∷ fs) =
    subst (λ (ms : List ToClient). I ms (node_after (becomes n f) fs)) (append_assoc told (sends n f) (says (becomes n f) fs))
    (lasts I keeps laws (told ++ sends n f) (becomes n f) (fate_on I keeps laws told n is f) fs)

-- what is said in two parts of a life, one after the other
pub says-join : (n : nodes.Node) (before after : List Fate) → says n (before ++ after) ≡ says n before ++ says (node_after n before) after
says-join n [] after = refl
says-join n (f ∷ fs) after =
    let rest = says-join (becomes n f) fs after in
    subst (λ (ms : List ToClient). sends n f ++ ms ≡ (sends n f ++ says (becomes n f) fs) ++ says (node_after (becomes n f) fs) after) (sym rest)
    (sym (append_assoc (sends n f) (says (becomes n f) fs) (says (node_after (becomes n f) fs) after)))

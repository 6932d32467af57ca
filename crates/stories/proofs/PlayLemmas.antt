-- what the turns of a story do, as the code makes them
use Rattle.std.proofs.Common.{◌≡◌, ℕ, suc, ◌+◌, ◌<◌, ◌≤◌, Bool, true, false, List, [], ◌∷◌, ◌++◌, length, drop, get_or, take, Option, Some, None, Result, Err, refl, sym, ap, ap₂, ◌∙◌, inl, inr, arith}
use Rattle.std.specs.Prelude.{◌&&◌, nat_lt, slice_get, slice_set}
use Rattle.std.specs.List.{list_all}
use Rattle.std.proofs.lemmas.Bool.{and_parts, cases_lt}
use Rattle.std.proofs.lemmas.Bool.Decides.{nat_tests}
use Rattle.std.proofs.lemmas.List.{append_assoc, get_or_past}
use Rattle.std.proofs.Math.Seq.{drop-cons}
use Rattle.std.proofs.lemmas.List.Folds.{list_all_more}
use Rattle.std.proofs.lemmas.Option.{get_or_from_slice_get, none-some, slice_get-get_or}
use Rattle.voter.specs.declared.state.Grant.{Grant}
use Rattle.voter.specs.declared.state.VoterState.{VoterState}
use Rattle.voter.specs.Steps as voter
use Rattle.voter.specs.declared.fault.VoterFault.TheVariants.{GrantsSpent}
use Rattle.requester.specs.declared.state.ClientState.{ClientState}
use Rattle.requester.specs.Steps as client
use Rattle.requester.specs.Words.{is_inside}
use Rattle.world_state.specs.declared.fault.WorldFault.{WorldFault}
use Rattle.world_state.specs.declared.fault.WorldFault.TheVariants.{NoSuchClient, NoSuchVoter, OutOfMemory, Voter}
use Rattle.world.specs.Restarts.{Node, OneClient, OneVoter, Nobody, Saved, come_back, if_there, pass_of, save_and_send}
use Rattle.world.specs.SavedWorlds.{PlannedSaved}
use Rattle.world_state.specs.Steps.{Outcome, client_at, if_client, if_voter, vote, voter_at}
use Rattle.world.specs.Incidents.{Hears, hear, is_message}
use Rattle.incidents.specs.Calls.{KeepsGrant, RefusesClient, befalls_by, grant_at, letting_go}
use Rattle.stories.specs.declared.happening.Happening.{Happening}
use Rattle.stories.specs.declared.happening.Happening.TheVariants as happenings
use Rattle.stories.specs.declared.story.Moment.{Moment}
use Rattle.stories.specs.declared.turn.Turn.{Turn}
use Rattle.stories.specs.declared.turn.Turn.TheVariants.{CrashClient, Evict}
use Rattle.stories.specs.Guards.{Guard, guard_after, guard_did}
use Rattle.stories.specs.Plays.{Scene, befall, count_eviction, count_grant, count_turn, crash_did, evict_did, eviction, guard_shown, is_calm, let_go_did, moments_of, note, note_if, noted, play, show_did, turn_did, turned, world_after}

-- ---- clients and voters by their numbers

pub below : (c n : ℕ) → c < n → nat_lt c n ≡ true
below c n within = grind (arith, nat_tests)

pub past : (c n : ℕ) → n ≤ c → nat_lt c n ≡ false
past c n beyond = grind (arith, nat_tests)

pub client_there : (cs : List ClientState) (c : ℕ) (x : ClientState) → slice_get cs c ≡ Some x → client_at cs c ≡ x
unfolding client_at
client_there cs c x is = get_or_from_slice_get cs c x (client.start 0 1) is

pub client_missing : (cs : List ClientState) (c : ℕ) → slice_get cs c ≡ None → is_inside (client_at cs c).phase ≡ false
unfolding client_at
client_missing cs c none = elim (cases_lt c (length cs)) [
  | inl within ↦ absurd (none-some _ (sym none ∙ slice_get-get_or cs c (client.start 0 1) within))
  | inr beyond ↦ ap (λ (x : ClientState). is_inside x.phase) (get_or_past cs c (client.start 0 1) beyond)
]

none_given : (s : Saved) (v : ℕ) → length s.live.voters ≤ v → grant_at s v ≡ None
unfolding voter_at
none_given s v beyond = ap (λ (y : VoterState). y.held) (get_or_past s.live.voters v (voter.start 0 1) beyond)

-- ---- the pass of a client is noted

pub noted_inside : (s : Scene) (c : ℕ) (pass : List ℕ) → is_inside (client_at s.world.saved.live.clients c).phase ≡ true → pass ≡ pass_of s.world.saved c
    → record s { passes = slice_set s.passes c (Some pass) } ≡ note_if (is_inside (client_at s.world.saved.live.clients c).phase) c s
noted_inside s c pass inside is =
    ap (λ (p : List ℕ). record s { passes = slice_set s.passes c (Some p) }) is ∙ ap (λ (b : Bool). note_if b c s) (sym inside)

pub noted_outside : (s : Scene) (c : ℕ) → is_inside (client_at s.world.saved.live.clients c).phase ≡ false → s ≡ note_if (is_inside (client_at s.world.saved.live.clients c).phase) c s
noted_outside s c outside = ap (λ (b : Bool). note_if b c s) (sym outside)

-- ---- a voter that does not let its grant go

-- a voter that has given no grant
none_played : (s : Scene) (v : ℕ) → grant_at s.world.saved v ≡ None → record s { calm = false } ≡ play s (Evict v)
none_played s v none = ap (λ (o : Option Grant). record (count_grant v o s) { world = befall (eviction s.world.saved v o) s.world; calm = false }) (sym none)

heard_nothing : (s : Saved) (who : Node) (p q : Bool) (v c : ℕ) (r : Result Outcome WorldFault) (fault : WorldFault) → r ≡ Err fault → save_and_send s who (if_voter p v (if_client q c r)) ≡ s
heard_nothing s who true true v c r fault is = ap (λ (x : Result Outcome WorldFault). save_and_send s who x) is
heard_nothing s who true false v c r fault is = refl
heard_nothing s who false q v c r fault is = refl

-- a voter that keeps its grant
pub kept_did : (s : Saved) (v : ℕ) (fault : WorldFault) → KeepsGrant s v fault → (fault ≡ OutOfMemory → ⊥) → happenings.Refused fault ≡ evict_did (nat_lt v (length s.live.voters)) (grant_at s v) s v
kept_did s v (NoSuchVoter n) keeps other =
    ap (λ (k : ℕ). happenings.Refused (NoSuchVoter k)) keeps.0 ∙ ap (λ (t : Bool). evict_did t (grant_at s v) s v) (sym (past v (length s.live.voters) keeps.1))
kept_did s v (Voter GrantsSpent) keeps other =
    sym (ap₂ (λ (t : Bool) (o : Option Grant). evict_did t o s v) (below v (length s.live.voters) keeps.1) keeps.2 ∙ ap (λ (r : Result Outcome WorldFault). let_go_did keeps.0 s.live r) keeps.3)
kept_did s v OutOfMemory keeps other = absurd (other refl)
kept_did s v fault keeps other = absurd keeps

pub kept_played : (s : Scene) (v : ℕ) (fault : WorldFault) → KeepsGrant s.world.saved v fault → (fault ≡ OutOfMemory → ⊥) → record s { calm = false } ≡ play s (Evict v)
kept_played s v (NoSuchVoter n) keeps other = none_played s v (none_given s.world.saved v keeps.1)
kept_played s v (Voter GrantsSpent) keeps other =
    let w = s.world.saved in
    let g = keeps.0 in
    let m = letting_go w v g in
    let same : hear w m ≡ w = heard_nothing w (OneVoter m.voter) (nat_lt m.voter (length w.live.voters)) (is_message w m) m.voter m.client (vote w.live m) (Voter GrantsSpent) keeps.3 in
    sym (ap (λ (o : Option Grant). record (count_grant v o s) { world = befall (eviction w v o) s.world; calm = false }) keeps.2
    ∙ ap (λ (r : Result Outcome WorldFault). record (count_eviction v r s) { world = befalls_by s.world (Hears m); calm = false }) keeps.3
    ∙ ap (λ (u : Saved). record s { world = record s.world { saved = u }; calm = false }) same)
kept_played s v OutOfMemory keeps other = absurd (other refl)
kept_played s v fault keeps other = absurd keeps

-- ---- a pass is shown

pub shown_did : (there : Bool) (o : Option (List ℕ)) (g : Guard) (c : ℕ) (pass : List ℕ) → there ≡ true → o ≡ Some pass → guard_did g pass ≡ show_did there o g c
shown_did there o g c pass is some = sym (ap₂ (λ (t : Bool) (p : Option (List ℕ)). show_did t p g c) is some)

pub shown_played : (s : Scene) (there : Bool) (o : Option (List ℕ)) (pass : List ℕ) → there ≡ true → o ≡ Some pass → record s { guard = guard_after s.guard pass } ≡ guard_shown there o s
shown_played s there o pass is some = sym (ap₂ (λ (t : Bool) (p : Option (List ℕ)). guard_shown t p s) is some)

pub none_shown : (s : Scene) (there : Bool) (o : Option (List ℕ)) (c : ℕ) → there ≡ true → o ≡ None → (happenings.NoPass c ≡ show_did there o s.guard c) × (s ≡ guard_shown there o s)
none_shown s there o c is none = (
  sym (ap₂ (λ (t : Bool) (p : Option (List ℕ)). show_did t p s.guard c) is none),
  sym (ap₂ (λ (t : Bool) (p : Option (List ℕ)). guard_shown t p s) is none),
)

pub nobody_shown : (s : Scene) (there : Bool) (o : Option (List ℕ)) (c : ℕ) → there ≡ false → (happenings.Refused (NoSuchClient c) ≡ show_did there o s.guard c) × (s ≡ guard_shown there o s)
nobody_shown s there o c is = (
  sym (ap (λ (t : Bool). show_did t o s.guard c) is),
  sym (ap (λ (t : Bool). guard_shown t o s) is),
)

-- ---- the story goes on

note_if_calm : (b : Bool) (c : ℕ) (s : Scene) → (note_if b c s).calm ≡ s.calm
note_if_calm true c s = refl
note_if_calm false c s = refl

note_if_world : (b : Bool) (c : ℕ) (s : Scene) → (note_if b c s).world ≡ s.world
note_if_world true c s = refl
note_if_world false c s = refl

note_calm : (n : Node) (s : Scene) → (note n s).calm ≡ s.calm
note_calm (OneClient c) s = note_if_calm (is_inside (client_at s.world.saved.live.clients c).phase) c s
note_calm (OneVoter v) s = refl
note_calm Nobody s = refl

note_world : (n : Node) (s : Scene) → (note n s).world ≡ s.world
note_world (OneClient c) s = note_if_world (is_inside (client_at s.world.saved.live.clients c).phase) c s
note_world (OneVoter v) s = refl
note_world Nobody s = refl

-- the world after a turn
pub play_world : (s : Scene) (t : Turn) → (play s t).world ≡ turned s.world t
play_world s t = note_world (noted s t) (record (count_turn s t) { world = turned s.world t; calm = is_calm t && s.calm })

play_calm : (s : Scene) (t : Turn) → (play s t).calm ≡ (is_calm t && s.calm)
play_calm s t = note_calm (noted s t) (record (count_turn s t) { world = turned s.world t; calm = is_calm t && s.calm })

-- as long as the turns are calm, the player is
pub calm_on : (turns : List Turn) (i : ℕ) (d t : Turn) (s : Scene) → i < length turns → get_or turns i d ≡ t → (list_all is_calm (take i turns) ≡ true → s.calm ≡ true)
    → list_all is_calm (take (i + 1) turns) ≡ true → (play s t).calm ≡ true
calm_on turns i d t s within here before all =
    let parts = and_parts (list_all is_calm (take i turns)) (is_calm (get_or turns i d)) (sym (list_all_more is_calm turns i d within) ∙ all) in
    play_calm s t ∙ ap₂ (λ (p q : Bool). p && q) (ap (λ (u : Turn). is_calm u) (sym here) ∙ parts.1) (before parts.0)

-- ---- a client that is not there crashes

client_past : (cs : List ClientState) (c : ℕ) → length cs ≤ c → is_inside (client_at cs c).phase ≡ false
unfolding client_at
client_past cs c beyond = ap (λ (x : ClientState). is_inside x.phase) (get_or_past cs c (client.start 0 1) beyond)

crash_missing : (s : Scene) (c : ℕ) → length s.world.saved.live.clients ≤ c → record s { clients = slice_set s.clients c 0 } ≡ play s (CrashClient c)
crash_missing s c beyond =
    let u : Scene = record s { clients = slice_set s.clients c 0 } in
    let w = s.world.saved in
    noted_outside u c (client_past w.live.clients c beyond)
    ∙ sym (ap (λ (b : Bool). note (OneClient c) (record u { world = record s.world { saved = if_there b (come_back w c (client_at w.clients c)) w } })) (past c (length w.live.clients) beyond))

pub refused_crash : (s : Scene) (c : ℕ) (fault : WorldFault) → RefusesClient s.world.saved c fault → (fault ≡ OutOfMemory → ⊥) → record s { clients = slice_set s.clients c 0 } ≡ play s (CrashClient c)
refused_crash s c (NoSuchClient n) refuses other = crash_missing s c refuses.1
refused_crash s c OutOfMemory refuses other = absurd (other refl)
refused_crash s c fault refuses other = absurd refuses

pub refused_did : (s : Saved) (c forgotten : ℕ) (fault : WorldFault) → RefusesClient s c fault → (fault ≡ OutOfMemory → ⊥) → happenings.Refused fault ≡ crash_did (nat_lt c (length s.live.clients)) forgotten (NoSuchClient c)
refused_did s c forgotten (NoSuchClient n) refuses other =
    ap (λ (k : ℕ). happenings.Refused (NoSuchClient k)) refuses.0 ∙ ap (λ (t : Bool). crash_did t forgotten (NoSuchClient c)) (sym (past c (length s.live.clients) refuses.1))
refused_did s c forgotten OutOfMemory refuses other = absurd (other refl)
refused_did s c forgotten fault refuses other = absurd refuses

drop_next : (turns : List Turn) (i : ℕ) (d : Turn) → i < length turns → drop i turns ≡ get_or turns i d ∷ drop (i + 1) turns
drop_next turns i d within = drop-cons turns i d within ∙ ap (λ k. get_or turns i d ∷ drop k turns) (let same : suc i ≡ i + 1 = omega arith in same)

-- the moments so far, and those of the turns that are left
pub moments_on : (turns : List Turn) (i : ℕ) (d t : Turn) (s new : Scene) (h : Happening) (sofar items all : List Moment) → i < length turns → get_or turns i d ≡ t → sofar ++ moments_of (drop i turns) s ≡ all
    → items ≡ sofar ++ record { turn = t; happening = h } ∷ [] → h ≡ turn_did s t → new ≡ play s t → items ++ moments_of (drop (i + 1) turns) new ≡ all
moments_on turns i d t s new h sofar items all within here before pushed did played =
    let rest = drop (i + 1) turns in
    ap₂ (λ (l : List Moment) (u : Scene). l ++ moments_of rest u) pushed played
    ∙ append_assoc sofar (record { turn = t; happening = h } ∷ []) (moments_of rest (play s t))
    ∙ ap (λ (k : Happening). sofar ++ record { turn = t; happening = k } ∷ moments_of rest (play s t)) did
    ∙ ap (λ (ts : List Turn). sofar ++ moments_of ts s) (sym (drop_next turns i d within ∙ ap (λ (u : Turn). u ∷ rest) here))
    ∙ before

-- the world that is left to be reached
pub world_on : (turns : List Turn) (i : ℕ) (d t : Turn) (s new : Scene) (all : PlannedSaved) → i < length turns → get_or turns i d ≡ t → world_after (drop i turns) s.world ≡ all → new ≡ play s t
    → world_after (drop (i + 1) turns) new.world ≡ all
world_on turns i d t s new all within here before played =
    let rest = drop (i + 1) turns in
    ap (λ (u : Scene). world_after rest u.world) played ∙ ap (λ (w : PlannedSaved). world_after rest w) (play_world s t)
    ∙ ap (λ (ts : List Turn). world_after ts s.world) (sym (drop_next turns i d within ∙ ap (λ (u : Turn). u ∷ rest) here)) ∙ before

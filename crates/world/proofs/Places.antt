-- clients and voters by their numbers
use Rattle.std.proofs.Common.{◌≡◌, ◌≢◌, ℕ, ◌<◌, true, false, cond, List, length, get_or, set, refl, sym, ap, subst, ◌∙◌, inl, inr, arith, eqb}
use Rattle.std.specs.Prelude.{slice_set}
use Rattle.std.proofs.lemmas.Bool.{cases_lt}
use Rattle.std.proofs.lemmas.Bool.Decides.{nat_tests}
use Rattle.std.proofs.lemmas.List.{get_or-set_same, get_or-set_other, set_past}
use Rattle.voter.specs.declared.state.VoterState.{VoterState}
use Rattle.voter.specs.Steps as voter
use Rattle.requester.specs.declared.state.ClientState.{ClientState}
use Rattle.requester.specs.Steps as client
use Rattle.world_state.specs.Steps.{voter_at, client_at}
use Rattle.world.proofs.Claims.{put, put-each}

same_choice : {A : Type 0} (q c : ℕ) (x y z : A) → (q ≡ c → y ≡ x) → (q ≢ c → y ≡ z) → y ≡ cond (eqb q c) x z
same_choice q c x y z here there = elim (eqb q c) as (λ b. eqb q c ≡ b → y ≡ cond b x z) [
  | true ↦ λ e. here (grind (arith, nat_tests))
  | false ↦ λ e. there (λ same. grind (arith, nat_tests))
] refl

-- the list after a write, as a function of the number
pub voter_at-set : (vs : List VoterState) (v : ℕ) (x : VoterState) → v < length vs → voter_at (set vs v x) ≡ put (voter_at vs) v x
unfolding voter_at
voter_at-set vs v x within = λ i q. same_choice q v x (get_or (set vs v x) q (voter.start 0 1)) (get_or vs q (voter.start 0 1))
    (λ same. ap (λ n. get_or (set vs v x) n (voter.start 0 1)) same ∙ get_or-set_same vs v x (voter.start 0 1) within)
    (λ other. get_or-set_other vs v q x (voter.start 0 1) other) i

pub client_at-set : (cs : List ClientState) (c : ℕ) (x : ClientState) → c < length cs → client_at (set cs c x) ≡ put (client_at cs) c x
unfolding client_at
client_at-set cs c x within = λ i q. same_choice q c x (get_or (set cs c x) q (client.start 0 1)) (get_or cs q (client.start 0 1))
    (λ same. ap (λ n. get_or (set cs c x) n (client.start 0 1)) same ∙ get_or-set_same cs c x (client.start 0 1) within)
    (λ other. get_or-set_other cs c q x (client.start 0 1) other) i

-- the client or the voter that is written, and the others
pub client_here : (cs : List ClientState) (c : ℕ) (x : ClientState) → c < length cs → client_at (set cs c x) c ≡ x
unfolding client_at
client_here cs c x within = get_or-set_same cs c x (client.start 0 1) within

pub client_others : (cs : List ClientState) (c : ℕ) (x : ClientState) (q : ℕ) → q ≢ c → client_at (set cs c x) q ≡ client_at cs q
unfolding client_at
client_others cs c x q other = get_or-set_other cs c q x (client.start 0 1) other

pub voter_here : (vs : List VoterState) (v : ℕ) (y : VoterState) → v < length vs → voter_at (set vs v y) v ≡ y
unfolding voter_at
voter_here vs v y within = get_or-set_same vs v y (voter.start 0 1) within

pub voter_others : (vs : List VoterState) (v : ℕ) (y : VoterState) (q : ℕ) → q ≢ v → voter_at (set vs v y) q ≡ voter_at vs q
unfolding voter_at
voter_others vs v y q other = get_or-set_other vs v q y (voter.start 0 1) other

-- a property of each client or voter, by its number
abbrev pub EachClient : (ℕ → ClientState → Type 0) → List ClientState → Type 0
EachClient P clients = (c : ℕ) → P c (client_at clients c)

abbrev pub EachVoter : (ℕ → VoterState → Type 0) → List VoterState → Type 0
EachVoter P voters = (v : ℕ) → P v (voter_at voters v)

-- it holds of all after a write, if it holds of what is written
pub set_client : (P : ℕ → ClientState → Type 0) (cs : List ClientState) (c : ℕ) (x : ClientState) → P c x → EachClient P cs → EachClient P (slice_set cs c x)
set_client P cs c x here all = elim (cases_lt c (length cs)) [
  | inl within ↦ λ q. subst (λ (f : ℕ → ClientState). P q (f q)) (sym (client_at-set cs c x within)) (put-each P (client_at cs) c x here all q)
  | inr past ↦ subst (λ (l : List ClientState). EachClient P l) (sym (set_past cs c x past)) all
]

pub set_voter : (P : ℕ → VoterState → Type 0) (vs : List VoterState) (v : ℕ) (y : VoterState) → P v y → EachVoter P vs → EachVoter P (slice_set vs v y)
set_voter P vs v y here all = elim (cases_lt v (length vs)) [
  | inl within ↦ λ q. subst (λ (f : ℕ → VoterState). P q (f q)) (sym (voter_at-set vs v y within)) (put-each P (voter_at vs) v y here all q)
  | inr past ↦ subst (λ (l : List VoterState). EachVoter P l) (sym (set_past vs v y past)) all
]

-- who has the votes of which voters, and what they mean for the plans of requests
use Rattle.std.proofs.Common.{◌≡◌, ℕ, ◌+◌, ◌<◌, ◌≤◌, true, false, cond, List, Some, refl, sym, ap, subst, ◌∙◌, inl, inr, arith, eqb}
use Rattle.std.proofs.lemmas.Bool.{cases_lt}
use Rattle.std.proofs.lemmas.Bool.Decides.{nat_tests}
use Rattle.std.proofs.lemmas.Option.{same_Some}
use Rattle.numbers.specs.Sets.{has}
use Rattle.voter.specs.declared.state.Grant.{Grant}
use Rattle.voter.specs.declared.state.VoterState.{VoterState}
use Rattle.requester.specs.declared.state.ClientState.{ClientState}
use Rattle.requester.specs.Words.{held_of, is_inside, members}
use Rattle.quorum_set.specs.Meetings.{Meet}
use Rattle.message.specs.declared.message.Message.{Message}
use Rattle.world_state.specs.Steps.{client_at, voter_at}
use Rattle.world.specs.Restarts.{stamp_of}
use Rattle.world.specs.Visible.{IsAmong}
use Rattle.world.proofs.Claims.{Bounds, WorldOk}
use Rattle.world.proofs.Exclusion.{held_under, inside_busy, list_all-holds}
use Rattle.generations.specs.Plans.{IsSuccession, Plans}
use Rattle.generations.specs.Turns.{AsksBy}
use Rattle.generations.proofs.Worlds.{all_of}
use Rattle.plan_worlds.specs.Worlds.{AskByPlan, IsVoteOf, IsLeft, IsRetired, MayGive, MayRetire, World, one_older}

-- ---- plans that are retired

-- plans that are retired stay so
abbrev pub NoFewer : (ℕ → ℕ) → (ℕ → ℕ) → Type 0
NoFewer before after = (v : ℕ) → before v ≤ after v

stays_retired : (plans : Plans) (before after : ℕ → ℕ) → NoFewer before after → (plan : ℕ) → IsRetired plans before plan → IsRetired plans after plan
stays_retired plans before after more plan retired q among =
    let one = retired q among in
    let rises = more one.0 in
    let past = one.2 in
    (one.0, one.1, omega arith)

pub left_retired : (voters : ℕ) (plans : Plans) (oldest : ℕ → ℕ) (plan : ℕ) → IsSuccession voters plans → IsLeft plans oldest plan → IsRetired plans oldest plan
left_retired voters plans oldest plan succession left q among =
    let both = succession.next plan q left.quorum among left.among in
    (both.0, both.2, all_of (λ v. plan < oldest v) left.quorum both.0 left.retired both.3)

-- ---- whoever has a vote may be given it

abbrev pub IsRight : Plans → AsksBy → World → Type 0
IsRight plans by w = (v : ℕ) (grant : Grant) → IsVoteOf w.saved v grant → MayGive plans w.oldest v (by grant.client grant.stamp)

one_more : (oldest : ℕ → ℕ) (v : ℕ) → NoFewer oldest (one_older oldest v)
one_more oldest v u = elim (eqb v u) as (λ t. oldest u ≤ cond t (oldest u + 1) (oldest u)) [ true ↦ omega arith | false ↦ omega arith ]

-- a voter retires its oldest plan
pub right_retires : (plans : Plans) (by : AsksBy) (w : World) (v : ℕ) → MayRetire by w v → IsRight plans by w → IsRight plans by (record { saved = w.saved; oldest = one_older w.oldest v })
right_retires plans by w v may right u grant has =
    let was = right u grant has in
    let plan = by grant.client grant.stamp in
    record {
      taken = elim (eqb v u) as (λ t. eqb v u ≡ t → cond t (w.oldest u + 1) (w.oldest u) ≤ plan) [
        | true ↦ λ t.
            let same : v ≡ u = grind (arith, nat_tests) in
            let less : w.oldest u < plan = subst (λ n. w.oldest n < plan) same (may grant (subst (λ n. IsVoteOf w.saved n grant) (sym same) has)) in
            omega arith
        | false ↦ λ t. was.taken
      ] refl;
      order = λ n far. stays_retired plans w.oldest (one_older w.oldest v) (one_more w.oldest v) n (was.order n far);
    }

-- ---- a client that is inside

-- the client has the votes of its quorum
vote_of : (b : Bounds) (X : ℕ → ClientState) (Y : ℕ → VoterState) (sent : List Message) → WorldOk b X Y sent → (c v : ℕ) → is_inside (X c).phase ≡ true → has (members (X c)) v ≡ true
    → (Y v).held ≡ Some (record { client = c; stamp = (X c).stamp; grant = held_of (X c) v })
vote_of b X Y sent ok c v in_c is = ok.held c v _ (held_under (X c) v (list_all-holds (X c) (members (X c)) v ((ok.clients c).sound.inside in_c) is))

-- what is known of a world: its clients and voters fit, requests ask by their plans, and votes are given in order
pub record Knows (b : Bounds) (plans : Plans) (by : AsksBy) (w : World) : Type 0 where
  pub succession : IsSuccession b.voters plans
  pub fits : WorldOk b (client_at w.saved.live.clients) (voter_at w.saved.live.voters) w.saved.live.sent
  pub asks : AskByPlan plans by w.saved
  pub right : IsRight plans by w

-- while a client is inside, no request of a plan after the next one has a vote
pub none_ahead : (b : Bounds) (plans : Plans) (by : AsksBy) (w : World) → Knows b plans by w → (c v : ℕ) (grant : Grant) → is_inside (client_at w.saved.live.clients c).phase ≡ true
    → IsVoteOf w.saved v grant → by c (stamp_of w.saved c) + 2 ≤ by grant.client grant.stamp → ⊥
none_ahead b plans by w know c v grant in_c has far =
    let X = client_at w.saved.live.clients in
    let Y = voter_at w.saved.live.voters in
    let past = (know.right v grant has).order (by c (X c).stamp) far (members (X c)) (know.asks c (inside_busy (X c).phase in_c)) in
    let less = past.2 in
    let most = (know.right past.0 _ (inl (vote_of b X Y w.saved.live.sent know.fits c past.0 in_c past.1))).taken in
    absurd (omega arith)

-- two clients that are inside, with a voter in both quorums
by_common : (b : Bounds) (X : ℕ → ClientState) (Y : ℕ → VoterState) (sent : List Message) → WorldOk b X Y sent → (c d : ℕ) → is_inside (X c).phase ≡ true → is_inside (X d).phase ≡ true
    → Meet b.voters (members (X c)) (members (X d)) → c ≡ d
by_common b X Y sent ok c d in_c in_d meet =
    ap (λ (k : Grant). k.client) (same_Some _ _ (sym (vote_of b X Y sent ok c meet.0 in_c meet.2) ∙ vote_of b X Y sent ok d meet.0 in_d meet.3))

-- the second one asks by no older plan
no_older : (b : Bounds) (plans : Plans) (by : AsksBy) (w : World) → Knows b plans by w → (c d : ℕ) → is_inside (client_at w.saved.live.clients c).phase ≡ true
    → is_inside (client_at w.saved.live.clients d).phase ≡ true → (n m : ℕ) → by c (stamp_of w.saved c) ≡ n → by d (stamp_of w.saved d) ≡ m → n ≤ m → c ≡ d
no_older b plans by w know c d in_c in_d n m is_n is_m most =
    let X = client_at w.saved.live.clients in
    let Y = voter_at w.saved.live.voters in
    let first : IsAmong (plans n) (members (X c)) = subst (λ k. IsAmong (plans k) (members (X c))) is_n (know.asks c (inside_busy (X c).phase in_c)) in
    let second : IsAmong (plans m) (members (X d)) = subst (λ k. IsAmong (plans k) (members (X d))) is_m (know.asks d (inside_busy (X d).phase in_d)) in
    let near : Meet b.voters (members (X c)) (members (X d)) → c ≡ d = by_common b X Y w.saved.live.sent know.fits c d in_c in_d in
    elim (cases_lt n m) [
      | inl less ↦ elim (cases_lt (n + 1) m) [
        | inl far ↦
            let some = know.succession.one m (members (X d)) (members (X d)) second second in
            absurd (none_ahead b plans by w know c some.0 _ in_c (inl (vote_of b X Y w.saved.live.sent know.fits d some.0 in_d some.2)) (omega arith))
        | inr least ↦
            let next : m ≡ n + 1 = omega arith in
            near (know.succession.next n (members (X c)) (members (X d)) first (subst (λ k. IsAmong (plans k) (members (X d))) next second))
      ]
      | inr least ↦
          let same : m ≡ n = omega arith in
          near (know.succession.one n (members (X c)) (members (X d)) first (subst (λ k. IsAmong (plans k) (members (X d))) same second))
    ]

pub one_client : (b : Bounds) (plans : Plans) (by : AsksBy) (w : World) → Knows b plans by w → (c d : ℕ) → is_inside (client_at w.saved.live.clients c).phase ≡ true
    → is_inside (client_at w.saved.live.clients d).phase ≡ true → c ≡ d
one_client b plans by w know c d in_c in_d =
    let n = by c (stamp_of w.saved c) in
    let m = by d (stamp_of w.saved d) in
    elim (cases_lt n m) [
      | inl less ↦ no_older b plans by w know c d in_c in_d n m refl refl (omega arith)
      | inr least ↦ sym (no_older b plans by w know d c in_d in_c m n refl refl (omega arith))
    ]

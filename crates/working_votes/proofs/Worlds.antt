-- what an event of one voter changes
use Rattle.std.proofs.Common.{◌≡◌, ℕ, Bool, true, false, [], ◌∷◌, Option, Some, None, refl, sym, ap, subst, ◌∙◌, inl, inr}
use Rattle.std.specs.Prelude.{◌==◌, ◌⊎◌, if◌then◌else◌}
use Rattle.std.proofs.lemmas.Bool.{eq-eqb, false≢true}
use Rattle.std.proofs.lemmas.Option.{none-some, same_Some}
use Rattle.lease_clock.specs.Clocks.{is_silent}
use Rattle.lease_clock.specs.Leases.{is_among}
use Rattle.working.specs.Events.{Gives, IsOneOf, Keeps, LetsGo, Loses, Released, Relinquished, Restarts, Tells, Wakes, World, after, after_all, with_voter}
use Rattle.working.specs.Voters.{Grant, Quiet, Voter, awake, ends, free, gives, grant_of, is_of_number, is_of_request, lapsed, lets_go, lost, may_let_go, quiet_again, quiet_anew, renewed, restarted, said, set, tells_again, unless_quiet}

-- the voter is this one in the second world, all others and the sessions are as in the first
pub record Changes (w next : World) (voter : ℕ) (v : Voter) : Type 0 where
  pub sessions : next.sessions ≡ w.sessions
  pub here : next.voters voter ≡ v
  pub others : (other : ℕ) → (voter == other) ≡ false → next.voters other ≡ w.voters other

set_here : {X : Type 0} (f : ℕ → X) (place : ℕ) (value : X) → set f place value place ≡ value
set_here f place value = rw (eq-eqb place place refl) refl

set_there : {X : Type 0} (f : ℕ → X) (place : ℕ) (value : X) (other : ℕ) → (place == other) ≡ false → set f place value other ≡ f other
set_there f place value other apart = rw apart refl

pub changed : (w : World) (voter : ℕ) (v : Voter) → Changes w (with_voter w voter v) voter v
changed w voter v = record { sessions = refl; here = set_here w.voters voter v; others = set_there w.voters voter v }

pub unchanged : (w : World) (voter : ℕ) → Changes w w voter (w.voters voter)
unchanged w voter = record { sessions = refl; here = refl; others = λ other apart. refl }

pub followed : (w x y : World) (voter : ℕ) (u v : Voter) → Changes w x voter u → Changes x y voter v → Changes w y voter v
followed w x y voter u v first second = record {
  sessions = second.sessions ∙ first.sessions;
  here = second.here;
  others = λ other apart. second.others other apart ∙ first.others other apart;
}

-- ---- a voter that serves, with this vote

pub record Serves (v : Voter) (current : Option Grant) : Type 0 where
  pub awake : v.quiet ≡ None
  pub vote : v.current ≡ current

-- the second voter is the first one but for its vote, its lapses and what it told
record Kept (v next : Voter) (current : Option Grant) : Type 0 where
  awake : next.quiet ≡ None
  vote : next.current ≡ current
  clock : next.clock ≡ v.clock
  heard : next.heard ≡ v.heard
  over : next.over ≡ v.over

pub record Next (w next : World) (voter : ℕ) (current : Option Grant) : Type 0 where
  pub after : Voter
  pub changes : Changes w next voter after
  kept : Kept (w.voters voter) after current

pub serves_next : (w next : World) (voter : ℕ) (current : Option Grant) → Next w next voter current → Serves (next.voters voter) current
serves_next w next voter current n = record {
  awake = ap (λ (v : Voter). v.quiet) n.changes.here ∙ n.kept.awake;
  vote = ap (λ (v : Voter). v.current) n.changes.here ∙ n.kept.vote;
}

pub stays : (w : World) (voter : ℕ) (current : Option Grant) → Serves (w.voters voter) current → Next w w voter current
stays w voter current s = record {
  after = w.voters voter;
  changes = unchanged w voter;
  kept = record { awake = s.awake; vote = s.vote; clock = refl; heard = refl; over = refl };
}

pub and_next : (w x y : World) (voter : ℕ) (first second : Option Grant) → Next w x voter first → Next x y voter second → Next w y voter second
and_next w x y voter first second a b = record {
  after = b.after;
  changes = followed w x y voter a.after b.after a.changes b.changes;
  kept = record {
    awake = b.kept.awake;
    vote = b.kept.vote;
    clock = b.kept.clock ∙ ap (λ (v : Voter). v.clock) a.changes.here ∙ a.kept.clock;
    heard = b.kept.heard ∙ ap (λ (v : Voter). v.heard) a.changes.here ∙ a.kept.heard;
    over = b.kept.over ∙ ap (λ (v : Voter). v.over) a.changes.here ∙ a.kept.over;
  };
}

with_next : (w : World) (voter : ℕ) (v : Voter) (current : Option Grant) → Kept (w.voters voter) v current → Next w (with_voter w voter v) voter current
with_next w voter v current kept = record { after = v; changes = changed w voter v; kept = kept }

-- ---- a grant ends

ends_kept : (v : Voter) (quiet : Option Quiet) (current : Option Grant) (is_such : Grant → Bool) → quiet ≡ None → v.quiet ≡ None → v.current ≡ current
    → Kept v (ends v quiet is_such) (free current is_such)
ends_kept v None current is_such is awake vote = record { awake = awake; vote = ap (λ c. free c is_such) vote; clock = refl; heard = refl; over = refl }
ends_kept v (Some q) current is_such is awake vote = absurd (none-some q (sym is))

-- if so, the grant ends that is such a one
ends_if : (w : World) (voter : ℕ) (current : Option Grant) (is_such : Grant → Bool) (b : Bool) → Serves (w.voters voter) current
    → Next w (if b then with_voter w voter (ends (w.voters voter) (w.voters voter).quiet is_such) else w) voter (if b then free current is_such else current)
ends_if w voter current is_such true s =
    with_next w voter (ends (w.voters voter) (w.voters voter).quiet is_such) (free current is_such) (ends_kept (w.voters voter) (w.voters voter).quiet current is_such s.awake s.awake s.vote)
ends_if w voter current is_such false s = stays w voter current s

-- the vote of a voter that lets its grant go, if it may
let_go : ℕ → Voter → Option Grant → Option Grant
let_go ttl v None = None
let_go ttl v (Some g) = if may_let_go ttl v g.session then None else Some g

lets_go_kept : (ttl : ℕ) (v : Voter) (now current : Option Grant) → now ≡ current → v.quiet ≡ None → v.current ≡ current → Kept v (lets_go ttl v now) (let_go ttl v current)
unfolding let_go
lets_go_kept ttl v None current is awake vote =
    subst (λ (c : Option Grant). Kept v v (let_go ttl v c)) is (record { awake = awake; vote = vote ∙ sym is; clock = refl; heard = refl; over = refl })
lets_go_kept ttl v (Some g) current is awake vote =
    subst (λ (c : Option Grant). Kept v (lets_go ttl v (Some g)) (let_go ttl v c)) is
    (elim (may_let_go ttl v g.session) as (λ b. Kept v (if b then lapsed v g.session None else v) (if b then None else Some g)) [
      | true ↦ record { awake = awake; vote = refl; clock = refl; heard = refl; over = refl }
      | false ↦ record { awake = awake; vote = vote ∙ sym is; clock = refl; heard = refl; over = refl }
    ])

unless_kept : (v next : Voter) (quiet : Option Quiet) (current : Option Grant) → quiet ≡ None → Kept v next current → Kept v (unless_quiet v quiet next) current
unless_kept v next None current is kept = kept
unless_kept v next (Some q) current is kept = absurd (none-some q (sym is))

lets_go_next : (ttl span : ℕ) (w : World) (voter : ℕ) (current : Option Grant) → Serves (w.voters voter) current → Next w (after ttl span w (LetsGo voter)) voter (let_go ttl (w.voters voter) current)
lets_go_next ttl span w voter current s =
    let v = w.voters voter in
    with_next w voter (unless_quiet v v.quiet (lets_go ttl v v.current)) (let_go ttl v current)
    (unless_kept v (lets_go ttl v v.current) v.quiet (let_go ttl v current) s.awake (lets_go_kept ttl v v.current current s.vote s.awake s.vote))

-- a grant may end, of a session, a request and a number
abbrev pub MayEndIf : ℕ → World → ℕ → ℕ → ℕ → ℕ → Type 0
MayEndIf ttl w voter session request number =
    (is_among request (w.sessions session).ended ≡ true)
    ⊎ ((is_among number ((w.sessions session).returned voter) ≡ true) ⊎ (may_let_go ttl (w.voters voter) session ≡ true))

free_own : (session request number : ℕ) → free (Some (grant_of session request number)) (is_of_request session request) ≡ None
free_own session request number = rw (eq-eqb session session refl, eq-eqb request request refl) refl

free_number : (session request number : ℕ) → free (Some (grant_of session request number)) (is_of_number session number) ≡ None
free_number session request number = rw (eq-eqb session session refl, eq-eqb number number refl) refl

free_none : (is_such : Grant → Bool) → free None is_such ≡ None
free_none is_such = refl

-- after the three, nobody has the vote
nobody_has : (ttl : ℕ) (v : Voter) (session request number : ℕ) (a b m : Bool) → may_let_go ttl v session ≡ m → (a ≡ true) ⊎ ((b ≡ true) ⊎ (m ≡ true))
    → let_go ttl v (if b then free (if a then free (Some (grant_of session request number)) (is_of_request session request) else Some (grant_of session request number)) (is_of_number session number)
    else (if a then free (Some (grant_of session request number)) (is_of_request session request) else Some (grant_of session request number))) ≡ None
unfolding let_go
nobody_has ttl v session request number true true m is may = rw (eq-eqb session session refl, eq-eqb request request refl) refl
nobody_has ttl v session request number true false m is may = rw (eq-eqb session session refl, eq-eqb request request refl) refl
nobody_has ttl v session request number false true m is may = rw (eq-eqb session session refl, eq-eqb number number refl) refl
nobody_has ttl v session request number false false true is may = rw is refl
nobody_has ttl v session request number false false false is may = elim may [
  | inl e ↦ absurd (false≢true e)
  | inr other ↦ elim other [
    | inl e ↦ absurd (false≢true e)
    | inr e ↦ absurd (false≢true e)
  ]
]

same_silence : (ttl : ℕ) (v next : Voter) (session : ℕ) (current : Option Grant) → Kept v next current → may_let_go ttl next session ≡ may_let_go ttl v session
same_silence ttl v next session current kept = rw (kept.clock, kept.heard, kept.over) refl

pub grant_ends : (ttl span : ℕ) (w : World) (voter session request number : ℕ) → Serves (w.voters voter) (Some (grant_of session request number)) → MayEndIf ttl w voter session request number
    → Next w (after_all ttl span w (Released session voter request ∷ Relinquished session voter number ∷ LetsGo voter ∷ [])) voter None
grant_ends ttl span w voter session request number s may =
    let a = is_among request (w.sessions session).ended in
    let x = after ttl span w (Released session voter request) in
    let first = ends_if w voter (Some (grant_of session request number)) (is_of_request session request) a s in
    let c = if a then free (Some (grant_of session request number)) (is_of_request session request) else Some (grant_of session request number) in
    let b = is_among number ((x.sessions session).returned voter) in
    let y = after ttl span x (Relinquished session voter number) in
    let second = ends_if x voter c (is_of_number session number) b (serves_next w x voter c first) in
    let d = if b then free c (is_of_number session number) else c in
    let both = and_next w x y voter c d first second in
    let third = lets_go_next ttl span y voter d (serves_next x y voter d second) in
    let all = and_next w y (after ttl span y (LetsGo voter)) voter d (let_go ttl (y.voters voter) d) both third in
    let same_b : b ≡ is_among number ((w.sessions session).returned voter) = ap (λ sessions. is_among number ((sessions session).returned voter)) first.changes.sessions in
    let same_m : may_let_go ttl (y.voters voter) session ≡ may_let_go ttl (w.voters voter) session =
    ap (λ v. may_let_go ttl v session) both.changes.here ∙ same_silence ttl (w.voters voter) both.after session d both.kept in
    let possible : (a ≡ true) ⊎ ((b ≡ true) ⊎ (may_let_go ttl (y.voters voter) session ≡ true)) = elim may [
      | inl e ↦ inl e
      | inr other ↦ inr (elim other [
        | inl e ↦ inl (same_b ∙ e)
        | inr e ↦ inr (same_m ∙ e)
      ])
    ] in
    subst (λ (o : Option Grant). Next w (after ttl span y (LetsGo voter)) voter o)
    (nobody_has ttl (y.voters voter) session request number a b (may_let_go ttl (y.voters voter) session) refl possible) all

-- ---- a vote is given, and said

gives_kept : (v : Voter) (now : Option Grant) (grant : Grant) → now ≡ None → v.quiet ≡ None → Kept v (gives v now grant) (Some grant)
gives_kept v None grant is awake = record { awake = awake; vote = refl; clock = refl; heard = refl; over = refl }
gives_kept v (Some g) grant is awake = absurd (none-some g (sym is))

vote_given : (ttl span : ℕ) (w : World) (session voter request number : ℕ) → Serves (w.voters voter) None
    → Next w (after ttl span w (Gives session voter request number)) voter (Some (grant_of session request number))
vote_given ttl span w session voter request number s =
    let v = w.voters voter in
    let grant = grant_of session request number in
    with_next w voter (unless_quiet v v.quiet (gives v v.current grant)) (Some grant)
    (unless_kept v (gives v v.current grant) v.quiet (Some grant) s.awake (gives_kept v v.current grant s.vote s.awake))

-- a voter that serves is told in vain that a session works with its vote
renewed_kept : (v : Voter) (quiet : Option Quiet) (grant : Grant) (current : Option Grant) → quiet ≡ None → v.quiet ≡ None → v.current ≡ current → Kept v (renewed v quiet grant) current
renewed_kept v None grant current is awake vote = record { awake = awake; vote = vote; clock = refl; heard = refl; over = refl }
renewed_kept v (Some q) grant current is awake vote = absurd (none-some q (sym is))

kept_in_vain : (ttl span : ℕ) (w : World) (session voter request number : ℕ) (current : Option Grant) → Serves (w.voters voter) current
    → Next w (after ttl span w (Keeps session voter request number)) voter current
kept_in_vain ttl span w session voter request number current s =
    let v = w.voters voter in
    with_next w voter (renewed v v.quiet (grant_of session request number)) current (renewed_kept v v.quiet (grant_of session request number) current s.awake s.awake s.vote)

-- a vote is given, whether or not the voter is quiet
pub vote_is_given : (ttl span : ℕ) (w : World) (session voter request number : ℕ) → Serves (w.voters voter) None
    → Next w (after_all ttl span w (Gives session voter request number ∷ Keeps session voter request number ∷ [])) voter (Some (grant_of session request number))
vote_is_given ttl span w session voter request number s =
    let x = after ttl span w (Gives session voter request number) in
    let grant = Some (grant_of session request number) in
    let first = vote_given ttl span w session voter request number s in
    and_next w x (after ttl span x (Keeps session voter request number)) voter grant grant first
    (kept_in_vain ttl span x session voter request number grant (serves_next w x voter grant first))

tells_kept : (v : Voter) (now current : Option Grant) → now ≡ current → v.quiet ≡ None → v.current ≡ current → Kept v (tells_again v now) current
tells_kept v None current is awake vote = record { awake = awake; vote = vote; clock = refl; heard = refl; over = refl }
tells_kept v (Some g) current is awake vote = record { awake = awake; vote = is; clock = refl; heard = refl; over = refl }

pub said_again : (ttl span : ℕ) (w : World) (voter : ℕ) (current : Option Grant) → Serves (w.voters voter) current → Next w (after ttl span w (Tells voter)) voter current
said_again ttl span w voter current s =
    let v = w.voters voter in
    with_next w voter (unless_quiet v v.quiet (tells_again v v.current)) current
    (unless_kept v (tells_again v v.current) v.quiet current s.awake (tells_kept v v.current current s.vote s.awake s.vote))

-- what it says again left it
told_first : (v : Voter) (now : Option Grant) (grant : Grant) → now ≡ Some grant → (lapses : ℕ) × IsOneOf (record { grant = grant; lapses = lapses; renews = false }) (tells_again v now).told
told_first v None grant is = absurd (none-some grant is)
told_first v (Some g) grant is = (v.lapses g.session, inl (ap (λ (x : Grant). record { grant = x; lapses = v.lapses g.session; renews = false }) (sym (same_Some g grant is))))

told_unless : (v : Voter) (quiet : Option Quiet) (grant : Grant) (next : Voter) → quiet ≡ None → ((lapses : ℕ) × IsOneOf (record { grant = grant; lapses = lapses; renews = false }) next.told)
    → (lapses : ℕ) × IsOneOf (record { grant = grant; lapses = lapses; renews = false }) (unless_quiet v quiet next).told
told_unless v None grant next is told = told
told_unless v (Some q) grant next is told = absurd (none-some q (sym is))

pub locked_left : (ttl span : ℕ) (w : World) (voter : ℕ) (grant : Grant) → Serves (w.voters voter) (Some grant)
    → (lapses : ℕ) × IsOneOf (record { grant = grant; lapses = lapses; renews = false }) ((after ttl span w (Tells voter)).voters voter).told
locked_left ttl span w voter grant s =
    let v = w.voters voter in
    let left = told_unless v v.quiet grant (tells_again v v.current) s.awake (told_first v v.current grant s.vote) in
    subst (λ (x : Voter). (lapses : ℕ) × IsOneOf (record { grant = grant; lapses = lapses; renews = false }) x.told)
    (sym (set_here w.voters voter (unless_quiet v v.quiet (tells_again v v.current)))) left

-- ---- restarts

restart_kept : (v : Voter) (quiet : Option Quiet) → quiet ≡ None → quiet_anew quiet v.time ≡ None
restart_kept v None is = refl
restart_kept v (Some q) is = absurd (none-some q (sym is))

pub restart_serves : (ttl span : ℕ) (w : World) (voter : ℕ) (current : Option Grant) → Serves (w.voters voter) current
    → Serves ((after ttl span w (Restarts voter)).voters voter) current
restart_serves ttl span w voter current s = record {
  awake = ap (λ (v : Voter). v.quiet) (set_here w.voters voter (restarted (w.voters voter))) ∙ restart_kept (w.voters voter) (w.voters voter).quiet s.awake;
  vote = ap (λ (v : Voter). v.current) (set_here w.voters voter (restarted (w.voters voter))) ∙ s.vote;
}

pub restart_changes : (ttl span : ℕ) (w : World) (voter : ℕ) → Changes w (after ttl span w (Restarts voter)) voter (restarted (w.voters voter))
restart_changes ttl span w voter = changed w voter (restarted (w.voters voter))

-- ---- a voter that is quiet, and gave its vote since to this grant

-- a LOCKED of this grant left it
abbrev pub Said : Voter → Bool → Grant → Type 0
Said v renews grant = (lapses : ℕ) × IsOneOf (record { grant = grant; lapses = lapses; renews = renews }) v.told

pub record Rests (v : Voter) (kept : Option Grant) : Type 0 where
  pub time : Quiet
  pub quiet : v.quiet ≡ Some time
  pub grant : time.kept ≡ kept
  pub told : (g : Grant) → kept ≡ Some g → Said v true g

pub record NextRests (w next : World) (voter : ℕ) (kept : Option Grant) : Type 0 where
  pub after : Voter
  pub changes : Changes w next voter after
  pub rests : Rests after kept

pub rests_next : (w next : World) (voter : ℕ) (kept : Option Grant) → NextRests w next voter kept → Rests (next.voters voter) kept
rests_next w next voter kept n = subst (λ (v : Voter). Rests v kept) (sym n.changes.here) n.rests

with_rests : (w : World) (voter : ℕ) (v : Voter) (kept : Option Grant) → Rests v kept → NextRests w (with_voter w voter v) voter kept
with_rests w voter v kept r = record { after = v; changes = changed w voter v; rests = r }

pub rests_on : (w : World) (voter : ℕ) (kept : Option Grant) → Rests (w.voters voter) kept → NextRests w w voter kept
rests_on w voter kept r = record { after = w.voters voter; changes = unchanged w voter; rests = r }

pub and_rests : (w x y : World) (voter : ℕ) (first second : Option Grant) → NextRests w x voter first → NextRests x y voter second → NextRests w y voter second
and_rests w x y voter first second a b = record { after = b.after; changes = followed w x y voter a.after b.after a.changes b.changes; rests = b.rests }

-- what it does unless it is quiet it does not
unless_rests : (v next : Voter) (quiet : Option Quiet) (kept : Option Grant) → v.quiet ≡ quiet → Rests v kept → Rests (unless_quiet v quiet next) kept
unless_rests v next None kept is r = absurd (none-some r.time (sym is ∙ r.quiet))
unless_rests v next (Some q) kept is r = r

pub serving_rests : (w : World) (voter : ℕ) (next : Voter) (kept : Option Grant) → Rests (w.voters voter) kept
    → NextRests w (with_voter w voter (unless_quiet (w.voters voter) (w.voters voter).quiet next)) voter kept
serving_rests w voter next kept r =
    let v = w.voters voter in
    with_rests w voter (unless_quiet v v.quiet next) kept (unless_rests v next v.quiet kept refl r)

free_is : (kept : Option Grant) (is_such : Grant → Bool) (g : Grant) → free kept is_such ≡ Some g → kept ≡ Some g
free_is None is_such g is = is
free_is (Some h) is_such g is = elim (is_such h) as (λ b. (if b then None else Some h) ≡ Some g → Some h ≡ Some g) [
  | true ↦ λ none. absurd (none-some g none)
  | false ↦ λ one. one
] is

ends_rests : (v : Voter) (quiet : Option Quiet) (kept : Option Grant) (is_such : Grant → Bool) → v.quiet ≡ quiet → Rests v kept → Rests (ends v quiet is_such) (free kept is_such)
ends_rests v None kept is_such is r = absurd (none-some r.time (sym is ∙ r.quiet))
ends_rests v (Some q) kept is_such is r =
    let one : q ≡ r.time = same_Some q r.time (sym is ∙ r.quiet) in
    record {
      time = record q { kept = free q.kept is_such };
      quiet = refl;
      grant = ap (λ k. free k is_such) (ap (λ (x : Quiet). x.kept) one ∙ r.grant);
      told = λ g at. r.told g (free_is kept is_such g at);
    }

ends_rests_if : (w : World) (voter : ℕ) (kept : Option Grant) (is_such : Grant → Bool) (b : Bool) → Rests (w.voters voter) kept
    → NextRests w (if b then with_voter w voter (ends (w.voters voter) (w.voters voter).quiet is_such) else w) voter (if b then free kept is_such else kept)
ends_rests_if w voter kept is_such true r =
    with_rests w voter (ends (w.voters voter) (w.voters voter).quiet is_such) (free kept is_such) (ends_rests (w.voters voter) (w.voters voter).quiet kept is_such refl r)
ends_rests_if w voter kept is_such false r = rests_on w voter kept r

-- after the first two, nobody has the vote
nobody_rests : (session request number : ℕ) (a b : Bool) → (a ≡ true) ⊎ (b ≡ true)
    → (if b then free (if a then free (Some (grant_of session request number)) (is_of_request session request) else Some (grant_of session request number)) (is_of_number session number)
    else (if a then free (Some (grant_of session request number)) (is_of_request session request) else Some (grant_of session request number))) ≡ None
nobody_rests session request number true true may = rw (eq-eqb session session refl, eq-eqb request request refl) refl
nobody_rests session request number true false may = rw (eq-eqb session session refl, eq-eqb request request refl) refl
nobody_rests session request number false true may = rw (eq-eqb session session refl, eq-eqb number number refl) refl
nobody_rests session request number false false (inl e) = absurd (false≢true e)
nobody_rests session request number false false (inr e) = absurd (false≢true e)

-- a grant of its quiet time ends, if its session ended the request, or gave the vote back
pub kept_ends : (ttl span : ℕ) (w : World) (voter session request number : ℕ) → Rests (w.voters voter) (Some (grant_of session request number))
    → (is_among request (w.sessions session).ended ≡ true) ⊎ (is_among number ((w.sessions session).returned voter) ≡ true)
    → NextRests w (after_all ttl span w (Released session voter request ∷ Relinquished session voter number ∷ LetsGo voter ∷ [])) voter None
kept_ends ttl span w voter session request number r may =
    let g = Some (grant_of session request number) in
    let a = is_among request (w.sessions session).ended in
    let x = after ttl span w (Released session voter request) in
    let first = ends_rests_if w voter g (is_of_request session request) a r in
    let c = if a then free g (is_of_request session request) else g in
    let b = is_among number ((x.sessions session).returned voter) in
    let y = after ttl span x (Relinquished session voter number) in
    let second = ends_rests_if x voter c (is_of_number session number) b (rests_next w x voter c first) in
    let d = if b then free c (is_of_number session number) else c in
    let both = and_rests w x y voter c d first second in
    let v = y.voters voter in
    let third = serving_rests y voter (lets_go ttl v v.current) d (rests_next x y voter d second) in
    let all = and_rests w y (after ttl span y (LetsGo voter)) voter d d both third in
    let same_b : b ≡ is_among number ((w.sessions session).returned voter) = ap (λ sessions. is_among number ((sessions session).returned voter)) first.changes.sessions in
    let possible : (a ≡ true) ⊎ (b ≡ true) = elim may [
      | inl e ↦ inl e
      | inr e ↦ inr (same_b ∙ e)
    ] in
    subst (λ (o : Option Grant). NextRests w (after ttl span y (LetsGo voter)) voter o) (nobody_rests session request number a b possible) all

-- a session says that it works with the vote, which nobody has
renewed_rests : (v : Voter) (quiet : Option Quiet) (grant : Grant) → v.quiet ≡ quiet → Rests v None → Rests (renewed v quiet grant) (Some grant)
renewed_rests v None grant is r = absurd (none-some r.time (sym is ∙ r.quiet))
renewed_rests v (Some q) grant is r =
    let one : q ≡ r.time = same_Some q r.time (sym is ∙ r.quiet) in
    let none : q.kept ≡ None = ap (λ (x : Quiet). x.kept) one ∙ r.grant in
    rw none (record {
      time = record q { kept = Some grant };
      quiet = refl;
      grant = refl;
      told = λ g at. (said (v.lapses grant.session) (Some q), inl (ap (λ (x : Grant). record { grant = x; lapses = said (v.lapses grant.session) (Some q); renews = true }) (sym (same_Some grant g at))));
    })

pub vote_is_kept : (ttl span : ℕ) (w : World) (session voter request number : ℕ) → Rests (w.voters voter) None
    → NextRests w (after_all ttl span w (Gives session voter request number ∷ Keeps session voter request number ∷ [])) voter (Some (grant_of session request number))
vote_is_kept ttl span w session voter request number r =
    let grant = grant_of session request number in
    let v = w.voters voter in
    let x = after ttl span w (Gives session voter request number) in
    let first = serving_rests w voter (gives v v.current grant) None r in
    let u = x.voters voter in
    and_rests w x (after ttl span x (Keeps session voter request number)) voter None (Some grant) first
    (with_rests x voter (renewed u u.quiet grant) (Some grant) (renewed_rests u u.quiet grant refl (rests_next w x voter None first)))

-- it loses its state
pub lost_rests : (w : World) (voter : ℕ) → NextRests w (with_voter w voter (lost (w.voters voter))) voter None
lost_rests w voter =
    let v = w.voters voter in
    with_rests w voter (lost v) None (record { time = quiet_again v.quiet v.time; quiet = refl; grant = refl; told = λ g at. absurd (none-some g at) })

-- its quiet time ends: it serves, with that grant
awake_serves : (ttl : ℕ) (v : Voter) (quiet : Option Quiet) (kept : Option Grant) → v.quiet ≡ quiet → Rests v kept → ((q : Quiet) → v.quiet ≡ Some q → is_silent v.clock q.since ttl ≡ true)
    → ((awake ttl v quiet).quiet ≡ None) × ((awake ttl v quiet).current ≡ kept)
awake_serves ttl v None kept is r over = absurd (none-some r.time (sym is ∙ r.quiet))
awake_serves ttl v (Some q) kept is r over =
    let one : q ≡ r.time = same_Some q r.time (sym is ∙ r.quiet) in
    rw (over q is) (refl, ap (λ (x : Quiet). x.kept) one ∙ r.grant)

pub wakes : (ttl span : ℕ) (w : World) (voter : ℕ) (kept : Option Grant) → Rests (w.voters voter) kept
    → ((q : Quiet) → (w.voters voter).quiet ≡ Some q → is_silent (w.voters voter).clock q.since ttl ≡ true)
    → Serves ((after ttl span w (Wakes voter)).voters voter) kept
wakes ttl span w voter kept r over =
    let v = w.voters voter in
    let s = awake_serves ttl v v.quiet kept refl r over in
    let here = set_here w.voters voter (awake ttl v v.quiet) in
    record { awake = ap (λ (x : Voter). x.quiet) here ∙ s.0; vote = ap (λ (x : Voter). x.current) here ∙ s.1 }

pub wake_changes : (ttl span : ℕ) (w : World) (voter : ℕ) → Changes w (after ttl span w (Wakes voter)) voter (awake ttl (w.voters voter) (w.voters voter).quiet)
wake_changes ttl span w voter = changed w voter (awake ttl (w.voters voter) (w.voters voter).quiet)

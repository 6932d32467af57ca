-- what a kept lease and a kept vote stand for: messages that the session took
use Rattle.std.proofs.Common.{◌≡◌, ℕ, ◌+◌, ◌≤◌, ◌<◌, Bool, true, false, List, [], ◌∷◌, refl, sym, ap, subst, ◌∙◌, Option, Some, None, arith, inl, inr}
use Rattle.std.specs.Prelude.{◌==◌, ◌||◌, ◌&&◌, ◌⊎◌, max, nat_lt, not, if◌then◌else◌}
use Rattle.std.specs.List.{list_any}
use Rattle.std.proofs.lemmas.Bool.{eq-eqb, eqb-true, false≢true}
use Rattle.std.proofs.lemmas.Bool.Decides.{nat_tests}
use Rattle.std.proofs.lemmas.Option.{none-some, same_Some}
use Rattle.lease_clock.specs.Leases.{is_among, lasts, newer}
use Rattle.working.specs.Events.{IsOneOf}
use Rattle.working.specs.Sessions.{Session, counts, has_vote, is_lasting}
use Rattle.working.specs.Voters.{Acknowledgement, Locked as Message}
use Rattle.working.proofs.Lists.{both}
use Rattle.vote_leases.specs.Leases.{beat_of, is_same, newest}
use Rattle.vote_leases.specs.declared.incarnation.Incarnation.{Incarnation}
use Rattle.vote_leases.specs.declared.lease.VoterLease.{VoterLease}
use Rattle.vote_leases.specs.declared.vote.Taken.{Taken}
use Rattle.vote_leases.specs.declared.vote.Vote.{Vote}

-- the session took an acknowledgement of a heartbeat that left at this time, with these lapses
pub record Acked (leases : List Acknowledgement) (lapses beat : ℕ) : Type 0 where
  pub one : Acknowledgement
  pub among : IsOneOf one leases
  pub has_lapses : one.lapses ≡ lapses
  pub has_beat : one.beat ≡ beat

-- it took a LOCKED for the request with these lapses, and did not give that grant back
pub record Had (votes : List Message) (returned : List ℕ) (request lapses : ℕ) : Type 0 where
  pub one : Message
  pub among : IsOneOf one votes
  pub has_request : one.grant.request ≡ request
  pub is_kept : is_among one.grant.number returned ≡ false
  pub has_lapses : one.lapses ≡ lapses

-- the vote counts by a heartbeat that left at this time
pub record Counted (votes : List Message) (leases : List Acknowledgement) (returned : List ℕ) (request beat : ℕ) : Type 0 where
  pub lapses : ℕ
  pub had : Had votes returned request lapses
  pub acked : Acked leases lapses beat

-- what is kept of one voter stands for messages that the session took
pub record Stands (tell : Incarnation → ℕ) (l : VoterLease) (v : Vote) (votes : List Message) (leases : List Acknowledgement) (ended returned : List ℕ) : Type 0 where
  pub leased : (beat : ℕ) → l.beat ≡ Some beat → Acked leases (tell l.incarnation) beat
  pub had : (t : Taken) → v.taken ≡ Some t → Had votes returned v.request (tell t.incarnation)
  pub counted : (t : Taken) (beat : ℕ) → v.taken ≡ Some t → t.beat ≡ Some beat → Counted votes leases returned v.request beat
  pub back : (n : ℕ) → is_among n returned ≡ true → n ≤ v.returned
  pub over : (e : ℕ) → is_among e ended ≡ true → e ≤ v.request
  pub goes_on : v.is_open ≡ true → is_among v.request ended ≡ false

-- ---- more messages

pub more_acked : (a : Acknowledgement) (leases : List Acknowledgement) (lapses beat : ℕ) → Acked leases lapses beat → Acked (a ∷ leases) lapses beat
more_acked a leases lapses beat x = record { one = x.one; among = inr x.among; has_lapses = x.has_lapses; has_beat = x.has_beat }

pub more_had : (m : Message) (votes : List Message) (returned : List ℕ) (request lapses : ℕ) → Had votes returned request lapses → Had (m ∷ votes) returned request lapses
more_had m votes returned request lapses x =
    record { one = x.one; among = inr x.among; has_request = x.has_request; is_kept = x.is_kept; has_lapses = x.has_lapses }

pub more_leases : (a : Acknowledgement) (votes : List Message) (leases : List Acknowledgement) (returned : List ℕ) (request beat : ℕ)
    → Counted votes leases returned request beat → Counted votes (a ∷ leases) returned request beat
more_leases a votes leases returned request beat x = record { lapses = x.lapses; had = x.had; acked = more_acked a leases x.lapses beat x.acked }

pub more_votes : (m : Message) (votes : List Message) (leases : List Acknowledgement) (returned : List ℕ) (request beat : ℕ)
    → Counted votes leases returned request beat → Counted (m ∷ votes) leases returned request beat
more_votes m votes leases returned request beat x = record { lapses = x.lapses; had = more_had m votes returned request x.lapses x.had; acked = x.acked }

-- ---- incarnations

abbrev of_counts : ℕ → ℕ → ℕ → Incarnation
of_counts run start lapses = record { run = run; start = start; lapses = lapses }

pub same_incarnation : (a b : Incarnation) → is_same a b ≡ true → a ≡ b
same_incarnation a b is =
    let runs = both (a.run == b.run) ((a.start == b.start) && (a.lapses == b.lapses)) is in
    let rest = both (a.start == b.start) (a.lapses == b.lapses) runs.1 in
    ap (λ x. of_counts x a.start a.lapses) (eqb-true a.run b.run runs.0)
    ∙ ap (λ x. of_counts b.run x a.lapses) (eqb-true a.start b.start rest.0)
    ∙ ap (λ x. of_counts b.run b.start x) (eqb-true a.lapses b.lapses rest.1)

-- ---- which heartbeat counts

-- the greater of two numbers is one of them
pub one_of_max : (a b : ℕ) → (max a b ≡ a) ⊎ (max a b ≡ b)
one_of_max a b = elim (nat_lt a b) as (λ c. nat_lt a b ≡ c → (max a b ≡ a) ⊎ (max a b ≡ b)) [
  | true ↦ λ e. inr (grind (arith, nat_tests))
  | false ↦ λ e. inl (grind (arith, nat_tests))
] refl

-- the newer of two times is one of them
pub one_of_newer : (time : Option ℕ) (other beat : ℕ) → newer time other ≡ Some beat → (time ≡ Some beat) ⊎ (other ≡ beat)
one_of_newer None other beat is = inr (same_Some other beat is)
one_of_newer (Some time) other beat is = elim (one_of_max time other) [
  | inl e ↦ inl (ap Some (sym e) ∙ is)
  | inr e ↦ inr (sym e ∙ same_Some (max time other) beat is)
]

one_of_newest : (time other : Option ℕ) (beat : ℕ) → newest time other ≡ Some beat → (time ≡ Some beat) ⊎ (other ≡ Some beat)
one_of_newest time None beat is = inl is
one_of_newest time (Some other) beat is = elim (one_of_newer time other beat is) [
  | inl e ↦ inl e
  | inr e ↦ inr (ap Some e)
]

beat_stands : (tell : Incarnation → ℕ) (l : VoterLease) (v : Vote) (votes : List Message) (leases : List Acknowledgement) (ended returned : List ℕ) (o : Option Taken) (beat : ℕ) → v.taken ≡ o
    → Stands tell l v votes leases ended returned → beat_of o l ≡ Some beat → Counted votes leases returned v.request beat
beat_stands tell l v votes leases ended returned None beat is s has = absurd (none-some beat has)
beat_stands tell l v votes leases ended returned (Some t) beat is s has =
    elim (is_same t.incarnation l.incarnation) as (λ b. is_same t.incarnation l.incarnation ≡ b → (if b then newest t.beat l.beat else t.beat) ≡ Some beat → Counted votes leases returned v.request beat) [
      | false ↦ λ e found. s.counted t beat is found
      | true ↦ λ e found. elim (one_of_newest t.beat l.beat beat found) [
        | inl own ↦ s.counted t beat is own
        | inr leased ↦ record {
          lapses = tell t.incarnation;
          had = s.had t is;
          acked = subst (λ (i : Incarnation). Acked leases (tell i) beat) (sym (same_incarnation t.incarnation l.incarnation e)) (s.leased beat leased);
        }
      ]
    ] refl has

-- the heartbeat by which a kept vote counts was acknowledged, with the lapses of a LOCKED
pub stands_counted : (tell : Incarnation → ℕ) (l : VoterLease) (v : Vote) (votes : List Message) (leases : List Acknowledgement) (ended returned : List ℕ) (beat : ℕ)
    → Stands tell l v votes leases ended returned → beat_of v.taken l ≡ Some beat → Counted votes leases returned v.request beat
stands_counted tell l v votes leases ended returned beat s has = beat_stands tell l v votes leases ended returned v.taken beat refl s has

-- ---- so the session has the vote

or_true : (a b : Bool) → b ≡ true → (a || b) ≡ true
or_true true b is = refl
or_true false b is = is

any_one : {X : Type 0} (test : X → Bool) (xs : List X) (x : X) → IsOneOf x xs → test x ≡ true → list_any test xs ≡ true
any_one test [] x among passes = absurd among
any_one test (y ∷ ys) x among passes = elim among [
  | inl e ↦ subst (λ (b : Bool). (b || list_any test ys) ≡ true) (sym (ap test (sym e) ∙ passes)) refl
  | inr rest ↦ or_true (test y) (list_any test ys) (any_one test ys x rest passes)
]

pub and_true : (a b : Bool) → a ≡ true → b ≡ true → (a && b) ≡ true
and_true true b first second = second
and_true false b first second = absurd (false≢true first)

lasts_on : (span now lapses beat : ℕ) (a : Acknowledgement) → a.lapses ≡ lapses → a.beat ≡ beat → now < beat + span → is_lasting span now lapses a ≡ true
lasts_on span now lapses beat a same left before =
    and_true (a.lapses == lapses) (nat_lt now (a.beat + span)) (eq-eqb a.lapses lapses same)
    (subst (λ (x : ℕ). nat_lt now (x + span) ≡ true) (sym left) (grind (arith, nat_tests)))

pub counted_votes : (span request voter beat : ℕ) (s : Session) → Counted (s.votes voter) (s.leases voter) (s.returned voter) request beat → s.time < beat + span
    → has_vote span s request voter ≡ true
counted_votes span request voter beat s c before =
    let m = c.had.one in
    let a = c.acked.one in
    any_one (counts span s request voter) (s.votes voter) m c.had.among
    (and_true (m.grant.request == request) _ (eq-eqb m.grant.request request c.had.has_request)
    (and_true (not (is_among m.grant.number (s.returned voter))) _ (ap not c.had.is_kept)
    (any_one (is_lasting span s.time m.lapses) (s.leases voter) a c.acked.among
    (lasts_on span s.time m.lapses beat a (c.acked.has_lapses ∙ sym c.had.has_lapses) c.acked.has_beat before))))

lasts_before : (o : Option ℕ) (span now : ℕ) → lasts o span now ≡ true → (beat : ℕ) × (o ≡ Some beat) × (now < beat + span)
lasts_before None span now is = absurd (false≢true is)
lasts_before (Some beat) span now is = (beat, refl, (grind (arith, nat_tests)))

-- a kept vote that counts is one that the session has
pub counts_has : (tell : Incarnation → ℕ) (l : VoterLease) (v : Vote) (s : Session) (voter span stop : ℕ) → Stands tell l v (s.votes voter) (s.leases voter) s.ended (s.returned voter)
    → lasts (beat_of v.taken l) span s.time ≡ true → has_vote (span + stop) s v.request voter ≡ true
counts_has tell l v s voter span stop stands is =
    let found = lasts_before (beat_of v.taken l) span s.time is in
    let before = found.2 in
    counted_votes (span + stop) v.request voter found.0 s (stands_counted tell l v (s.votes voter) (s.leases voter) s.ended (s.returned voter) found.0 stands found.1) (omega arith)

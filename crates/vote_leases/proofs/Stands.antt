-- what each call keeps, of one voter
use Rattle.std.proofs.Common.{◌≡◌, ℕ, ◌≤◌, ◌<◌, true, false, List, [], ◌∷◌, refl, sym, ap, subst, ◌∙◌, Option, Some, None, arith, inl, inr}
use Rattle.std.specs.Prelude.{◌==◌, ◌||◌, ◌&&◌, max, nat_lt, not, if◌then◌else◌}
use Rattle.std.proofs.lemmas.Bool.{eqb-true, false≢true}
use Rattle.std.proofs.lemmas.Bool.Decides.{nat_tests}
use Rattle.std.proofs.lemmas.Option.{none-some, same_Some}
use Rattle.lease_clock.specs.Leases.{is_among, newer}
use Rattle.working.specs.Voters.{Acknowledgement, Locked as Message}
use Rattle.working.proofs.Lists.{both}
use Rattle.vote_leases.specs.Leases.{asked, beat_of, begun_lease, begun_vote, counts, ended, given_back, heard, is_later, is_same, is_taken, keeping, kept, renewed, taken}
use Rattle.vote_leases.specs.Sessions.{locked_of}
use Rattle.vote_leases.specs.declared.incarnation.Incarnation.{Incarnation}
use Rattle.vote_leases.specs.declared.lease.VoterLease.{VoterLease}
use Rattle.vote_leases.specs.declared.vote.Taken.{Taken}
use Rattle.vote_leases.specs.declared.vote.Vote.{Vote}
use Rattle.vote_leases.proofs.Evidence.{Had, Stands, more_acked, more_had, more_leases, more_votes, one_of_newer, same_incarnation, stands_counted}

pub begun_stands : (tell : Incarnation → ℕ) (used : ℕ) → Stands tell begun_lease (begun_vote used) [] [] [] []
begun_stands tell used = record {
  leased = λ beat is. absurd (none-some beat is);
  had = λ t is. absurd (none-some t is);
  counted = λ t beat is has. absurd (none-some t is);
  back = λ n is. absurd (false≢true is);
  over = λ e is. absurd (false≢true is);
  goes_on = λ is. absurd (false≢true is);
}

-- ---- messages

more_leases_stand : (tell : Incarnation → ℕ) (a : Acknowledgement) (l : VoterLease) (v : Vote) (votes : List Message) (leases : List Acknowledgement) (ended returned : List ℕ)
    → Stands tell l v votes leases ended returned → Stands tell l v votes (a ∷ leases) ended returned
more_leases_stand tell a l v votes leases ended returned s = record {
  leased = λ beat is. more_acked a leases (tell l.incarnation) beat (s.leased beat is);
  had = s.had;
  counted = λ t beat is has. more_leases a votes leases returned v.request beat (s.counted t beat is has);
  back = s.back;
  over = s.over;
  goes_on = s.goes_on;
}

pub renewed_stands : (tell : Incarnation → ℕ) (i : Incarnation) (a : Acknowledgement) (l : VoterLease) (v : Vote) (votes : List Message) (leases : List Acknowledgement) (ended returned : List ℕ)
    → tell i ≡ a.lapses → Stands tell l v votes leases ended returned → Stands tell (renewed l i a.beat) v votes (a ∷ leases) ended returned
renewed_stands tell i a l v votes leases ended returned tells s =
    let more = more_leases_stand tell a l v votes leases ended returned s in
    elim (is_same i l.incarnation) as (λ b. is_same i l.incarnation ≡ b → Stands tell (if b then record { incarnation = l.incarnation; beat = newer l.beat a.beat } else l) v votes (a ∷ leases) ended returned) [
      | false ↦ λ e. more
      | true ↦ λ e. record {
        leased = λ beat is. elim (one_of_newer l.beat a.beat beat is) [
          | inl old ↦ more.leased beat old
          | inr new ↦ record { one = a; among = inl refl; has_lapses = sym tells ∙ ap tell (same_incarnation i l.incarnation e); has_beat = new }
        ];
        had = more.had;
        counted = more.counted;
        back = more.back;
        over = more.over;
        goes_on = more.goes_on;
      }
    ] refl

pub heard_stands : (tell : Incarnation → ℕ) (i : Incarnation) (l : VoterLease) (v : Vote) (votes : List Message) (leases : List Acknowledgement) (ended returned : List ℕ)
    → Stands tell l v votes leases ended returned → Stands tell (heard l i) v votes leases ended returned
heard_stands tell i l v votes leases ended returned s =
    elim (is_later l.incarnation i) as (λ b. Stands tell (if b then record { incarnation = i; beat = None } else l) v votes leases ended returned) [
      | false ↦ s
      | true ↦ record { leased = λ beat is. absurd (none-some beat is); had = s.had; counted = s.counted; back = s.back; over = s.over; goes_on = s.goes_on }
    ]

pub more_votes_stand : (tell : Incarnation → ℕ) (m : Message) (l : VoterLease) (v : Vote) (votes : List Message) (leases : List Acknowledgement) (ended returned : List ℕ)
    → Stands tell l v votes leases ended returned → Stands tell l v (m ∷ votes) leases ended returned
more_votes_stand tell m l v votes leases ended returned s = record {
  leased = s.leased;
  had = λ t is. more_had m votes returned v.request (tell t.incarnation) (s.had t is);
  counted = λ t beat is has. more_votes m votes leases returned v.request beat (s.counted t beat is has);
  back = s.back;
  over = s.over;
  goes_on = s.goes_on;
}

-- what is above all of a list is not among it
not_among : (n : ℕ) (ns : List ℕ) (most : ℕ) → ((x : ℕ) → is_among x ns ≡ true → x ≤ most) → most < n → is_among n ns ≡ false
not_among n ns most bound above = elim (is_among n ns) as (λ b. is_among n ns ≡ b → b ≡ false) [
  | false ↦ λ e. refl
  | true ↦ λ e. absurd (let below = bound n e in omega arith)
] refl

pub taken_stands : (tell : Incarnation → ℕ) (i : Incarnation) (m : Message) (span now : ℕ) (l : VoterLease) (v : Vote) (votes : List Message) (leases : List Acknowledgement) (ended returned : List ℕ)
    → tell i ≡ m.lapses → Stands tell l v votes leases ended returned → Stands tell l (taken v l (locked_of i m) span now) (m ∷ votes) leases ended returned
taken_stands tell i m span now l v votes leases ended returned tells s =
    let more = more_votes_stand tell m l v votes leases ended returned s in
    elim (is_taken v l (locked_of i m) span now) as (λ b. is_taken v l (locked_of i m) span now ≡ b
    → Stands tell l (if b then record { request = v.request; is_open = v.is_open; returned = v.returned; taken = Some (record { incarnation = i; beat = beat_of v.taken l }) } else v) (m ∷ votes) leases ended returned) [
      | false ↦ λ e. more
      | true ↦ λ e.
          let rest = both v.is_open _ e in
          let after = both (v.request == m.grant.request) (nat_lt v.returned m.grant.number && (not m.renews || counts v l span now)) rest.1 in
          let last = both (nat_lt v.returned m.grant.number) (not m.renews || counts v l span now) after.1 in
          let same = eqb-true v.request m.grant.request after.0 in
          let above : v.returned < m.grant.number = (let test = last.0 in grind (arith, nat_tests)) in
          record {
            leased = more.leased;
            had = λ t is. record {
              one = m;
              among = inl refl;
              has_request = sym same;
              is_kept = not_among m.grant.number returned v.returned s.back above;
              has_lapses = sym tells ∙ ap (λ x. tell x.incarnation) (same_Some (record { incarnation = i; beat = beat_of v.taken l }) t is);
            };
            counted = λ t beat is has. more_votes m votes leases returned v.request beat
                (stands_counted tell l v votes leases ended returned beat s (ap (λ x. x.beat) (same_Some (record { incarnation = i; beat = beat_of v.taken l }) t is) ∙ has));
            back = s.back;
            over = s.over;
            goes_on = s.goes_on;
          }
    ] refl

-- ---- what the session does

keeping_stands : (tell : Incarnation → ℕ) (l : VoterLease) (v : Vote) (votes : List Message) (leases : List Acknowledgement) (ended returned : List ℕ) (o : Option Taken) → v.taken ≡ o
    → Stands tell l v votes leases ended returned → Stands tell l (record { request = v.request; is_open = v.is_open; returned = v.returned; taken = keeping o l }) votes leases ended returned
keeping_stands tell l v votes leases ended returned None is s = record {
  leased = s.leased;
  had = λ t none. absurd (none-some t none);
  counted = λ t beat none has. absurd (none-some t none);
  back = s.back;
  over = s.over;
  goes_on = s.goes_on;
}
keeping_stands tell l v votes leases ended returned (Some own) is s = record {
  leased = s.leased;
  had = λ t same. subst (λ (x : Taken). Had votes returned v.request (tell x.incarnation)) (same_Some (record { incarnation = own.incarnation; beat = beat_of (Some own) l }) t same) (s.had own is);
  counted = λ t beat same has. stands_counted tell l v votes leases ended returned beat s
      (ap (λ x. beat_of x l) is ∙ ap (λ x. x.beat) (same_Some (record { incarnation = own.incarnation; beat = beat_of (Some own) l }) t same) ∙ has);
  back = s.back;
  over = s.over;
  goes_on = s.goes_on;
}

pub kept_stands : (tell : Incarnation → ℕ) (l : VoterLease) (v : Vote) (votes : List Message) (leases : List Acknowledgement) (ended returned : List ℕ)
    → Stands tell l v votes leases ended returned → Stands tell l (kept v l) votes leases ended returned
kept_stands tell l v votes leases ended returned s = keeping_stands tell l v votes leases ended returned v.taken refl s

pub asked_stands : (tell : Incarnation → ℕ) (request : ℕ) (l : VoterLease) (v : Vote) (votes : List Message) (leases : List Acknowledgement) (over returned : List ℕ)
    → Stands tell l v votes leases over returned → Stands tell l (asked v request) votes leases over returned
asked_stands tell request l v votes leases over returned s =
    elim (nat_lt v.request request) as (λ b. nat_lt v.request request ≡ b
    → Stands tell l (if b then record { request = request; is_open = true; returned = v.returned; taken = None } else v) votes leases over returned) [
      | false ↦ λ e. s
      | true ↦ λ e.
          let above : v.request < request = grind (arith, nat_tests) in
          record {
            leased = s.leased;
            had = λ t is. absurd (none-some t is);
            counted = λ t beat is has. absurd (none-some t is);
            back = s.back;
            over = λ x is. (let below = s.over x is in omega arith);
            goes_on = λ is. not_among request over v.request s.over above;
          }
    ] refl

-- a number of a longer list is the new one, or was there
among_more : (P : ℕ → Type 0) (x y : ℕ) (ys : List ℕ) → P y → (is_among x ys ≡ true → P x) → is_among x (y ∷ ys) ≡ true → P x
among_more P x y ys here there is = elim (x == y) as (λ b. (x == y) ≡ b → (b || is_among x ys) ≡ true → P x) [
  | true ↦ λ e found. subst P (sym (eqb-true x y e)) here
  | false ↦ λ e found. there found
] refl is

-- what is above a number, and not among others, is not among both
above_all : (n y : ℕ) (ys : List ℕ) → y < n → is_among n ys ≡ false → is_among n (y ∷ ys) ≡ false
above_all n y ys above apart = elim (n == y) as (λ b. (n == y) ≡ b → (b || is_among n ys) ≡ false) [
  | true ↦ λ e. absurd (let same = eqb-true n y e in omega arith)
  | false ↦ λ e. apart
] refl

pub ended_stands : (tell : Incarnation → ℕ) (request : ℕ) (l : VoterLease) (v : Vote) (votes : List Message) (leases : List Acknowledgement) (over returned : List ℕ)
    → Stands tell l v votes leases over returned → Stands tell l (ended v request) votes leases (request ∷ over) returned
ended_stands tell request l v votes leases over returned s =
    elim (nat_lt request v.request) as (λ b. nat_lt request v.request ≡ b
    → Stands tell l (if b then v else record { request = request; is_open = false; returned = v.returned; taken = None }) votes leases (request ∷ over) returned) [
      | true ↦ λ e.
          let below : request < v.request = grind (arith, nat_tests) in
          record {
            leased = s.leased;
            had = s.had;
            counted = s.counted;
            back = s.back;
            over = λ x is. among_more (λ n. n ≤ v.request) x request over (omega arith) (s.over x) is;
            goes_on = λ is. above_all v.request request over below (s.goes_on is);
          }
      | false ↦ λ e.
          let above : v.request ≤ request = grind (arith, nat_tests) in
          record {
            leased = s.leased;
            had = λ t is. absurd (none-some t is);
            counted = λ t beat is has. absurd (none-some t is);
            back = s.back;
            over = λ x is. among_more (λ n. n ≤ request) x request over (omega arith) (λ there. (let below = s.over x there in omega arith)) is;
            goes_on = λ is. absurd (false≢true is);
          }
    ] refl

pub given_back_stands : (tell : Incarnation → ℕ) (number : ℕ) (l : VoterLease) (v : Vote) (votes : List Message) (leases : List Acknowledgement) (over returned : List ℕ)
    → Stands tell l v votes leases over returned → Stands tell l (given_back v number) votes leases over (number ∷ returned)
given_back_stands tell number l v votes leases over returned s = record {
  leased = s.leased;
  had = λ t is. absurd (none-some t is);
  counted = λ t beat is has. absurd (none-some t is);
  back = λ n is. among_more (λ x. x ≤ max v.returned number) n number returned (omega arith) (λ there. (let below = s.back n there in omega arith)) is;
  over = s.over;
  goes_on = s.goes_on;
}

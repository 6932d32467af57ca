-- grants keep what holds of a voter and a session
use Rattle.std.proofs.Common.{◌≡◌, ℕ, ◌≤◌, Bool, true, false, List, ◌∷◌, refl, sym, ap, subst, ◌∙◌, Option, Some, None, arith, inl, inr}
use Rattle.std.specs.Prelude.{◌⊎◌, if◌then◌else◌, is_some}
use Rattle.std.proofs.lemmas.Option.{none-some, same_Some}
use Rattle.lease_clock.specs.Leases.{is_among}
use Rattle.working.specs.Sessions.{Session}
use Rattle.working.specs.Voters.{Grant, Locked, Quiet, Voter, ends, free, gives, renewed, said, tells, tells_again, unless_quiet}
use Rattle.working.proofs.Seen.{Given, IsReached, seen, seen_if}
use Rattle.working.proofs.Holds.{AreKept, Holds, Stands, current_on, kept_on}

-- a quiet voter does nothing
pub unless_on : (g : Given) (voter session : ℕ) (v next : Voter) (s : Session) (quiet : Option Quiet) → v.quiet ≡ quiet → (v.quiet ≡ None → Holds g voter session next s)
    → Holds g voter session v s → Holds g voter session (unless_quiet v quiet next) s
unless_on g voter session v next s None is goes h = goes is
unless_on g voter session v next s (Some q) is goes h = h

-- what is kept of LOCKEDs, by what is known of the quiet time
kept_as : (voter session : ℕ) (v : Voter) (s : Session) (current : Option Grant) (quiet other : Option Quiet) → quiet ≡ other
    → AreKept session (v.lapses session) current quiet s.ended (s.returned voter) v.told (s.votes voter)
    → AreKept session (v.lapses session) current other s.ended (s.returned voter) v.told (s.votes voter)
kept_as voter session v s current quiet other is kept =
    subst (λ (x : Option Quiet). AreKept session (v.lapses session) current x s.ended (s.returned voter) v.told (s.votes voter)) is kept

-- ---- a voter that is not quiet

-- a LOCKED of the current grant leaves
tells_on : (g : Given) (voter other : ℕ) (v : Voter) (s : Session) (grant : Grant) → v.quiet ≡ None
    → AreKept other (v.lapses other) (Some grant) None s.ended (s.returned voter) v.told (s.votes voter) → Holds g voter other v s → Holds g voter other (tells v grant) s
tells_on g voter other v s grant awake kept h =
    let k : Locked = record { grant = grant; lapses = v.lapses grant.session; renews = false } in
    let same = λ (own : grant.session ≡ other). ap v.lapses own in
    let now : AreKept other (v.lapses other) (Some grant) None s.ended (s.returned voter) (k ∷ v.told) (s.votes voter) = record {
      told = (
        record {
          few = λ own. (let e = same own in omega arith);
          stands = λ own as_many. inl refl;
          next = λ own. tt;
          renews = λ own less. (let e = same own in absurd (omega arith));
        },
        kept.told,
      );
      votes = kept.votes;
    } in
    record {
      reached = h.reached;
      stopped = h.stopped;
      kept = subst (λ (x : Option Quiet). AreKept other (v.lapses other) (Some grant) x s.ended (s.returned voter) (k ∷ v.told) (s.votes voter)) (sym awake) now;
      leases = h.leases;
    }

-- the vote is given, as nobody had it
pub gives_to : (g : Given) (voter other : ℕ) (v : Voter) (s : Session) (grant : Grant) (o : Option Grant) → v.current ≡ o → v.quiet ≡ None → Holds g voter other v s
    → Holds g voter other (gives v o grant) s
gives_to g voter other v s grant (Some had) is awake h = h
gives_to g voter other v s grant None is awake h =
    tells_on g voter other v s grant awake
    (current_on other (v.lapses other) v.current (Some grant) s.ended (s.returned voter) v.told (s.votes voter) (λ was own is_was. absurd (none-some was (sym is ∙ is_was)))
    (kept_as voter other v s v.current v.quiet None awake h.kept)) h

pub tells_more : (g : Given) (voter other : ℕ) (v : Voter) (s : Session) (o : Option Grant) → v.current ≡ o → v.quiet ≡ None → Holds g voter other v s → Holds g voter other (tells_again v o) s
tells_more g voter other v s None is awake h = h
tells_more g voter other v s (Some grant) is awake h =
    tells_on g voter other v s grant awake (subst (λ (x : Option Grant). AreKept other (v.lapses other) x None s.ended (s.returned voter) v.told (s.votes voter)) is (kept_as voter other v s v.current v.quiet None awake h.kept)) h

-- ---- a quiet voter

-- only when a quiet time began, and the lapses after it, count for what is heard
quiet_reached : (g : Given) (session : ℕ) (v : Voter) (s : Session) (q r : Quiet) → r.since ≡ q.since → r.again ≡ q.again → v.quiet ≡ Some q
    → ((l : ℕ) → v.lapses session ≤ l → IsReached g (seen session l v s)) → (l : ℕ) → v.lapses session ≤ l → IsReached g (seen_if session l v s (Some r))
quiet_reached g session v s q r since again is reached l most =
    rw (since, again) (subst (λ (x : Option Quiet). IsReached g (seen_if session l v s x)) is (reached l most))

-- it gives its vote, as it gave it to nobody since
renews_to : (other lapses_of lapses : ℕ) (current : Option Grant) (q : Quiet) (grant : Grant) (ended returned : List ℕ) (left taken : List Locked) → q.kept ≡ None
    → (grant.session ≡ other → lapses_of ≡ lapses) → AreKept other lapses current (Some q) ended returned left taken
    → AreKept other lapses current (Some (record q { kept = Some grant })) ended returned (record { grant = grant; lapses = said lapses_of (Some q); renews = true } ∷ left) taken
renews_to other lapses_of lapses current q grant ended returned left taken none same kept =
    let now = kept_on other lapses current (Some grant) q ended returned left taken (λ was own is. absurd (none-some was (sym none ∙ is))) kept in
    record {
      told = (
        record {
          few = λ own. (let e = same own in omega arith);
          stands = λ own as_many. (let e = same own in absurd (omega arith));
          next = λ own as_many. inl refl;
          renews = λ own less. refl;
        },
        now.told,
      );
      votes = now.votes;
    }

renewed_if : (g : Given) (voter other : ℕ) (v : Voter) (s : Session) (grant : Grant) (q : Quiet) (kept : Option Grant) → q.kept ≡ kept → v.quiet ≡ Some q → Holds g voter other v s
    → Holds g voter other (if is_some kept then v else record v {
      quiet = Some (record q { kept = Some grant });
      told = record { grant = grant; lapses = said (v.lapses grant.session) (Some q); renews = true } ∷ v.told;
    }) s
renewed_if g voter other v s grant q (Some had) none is h = h
renewed_if g voter other v s grant q None none is h = record {
  reached = quiet_reached g other v s q (record q { kept = Some grant }) refl refl is h.reached;
  stopped = h.stopped;
  kept = renews_to other (v.lapses grant.session) (v.lapses other) v.current q grant s.ended (s.returned voter) v.told (s.votes voter) none (λ own. ap v.lapses own)
      (kept_as voter other v s v.current v.quiet (Some q) is h.kept);
  leases = h.leases;
}

pub renewed_on : (g : Given) (voter other : ℕ) (v : Voter) (s : Session) (grant : Grant) (quiet : Option Quiet) → v.quiet ≡ quiet → Holds g voter other v s → Holds g voter other (renewed v quiet grant) s
renewed_on g voter other v s grant None is h = h
renewed_on g voter other v s grant (Some q) is h =
    renewed_if g voter other v s grant q q.kept refl is h

-- ---- grants that end

-- what is not freed, or not of the session, stands as before
free_stands : (other : ℕ) (o : Option Grant) (is_such : Grant → Bool) (ended returned : List ℕ) (grant : Grant)
    → ((g : Grant) → is_such g ≡ true → g.session ≡ other → (is_among g.request ended ≡ true) ⊎ (is_among g.number returned ≡ true))
    → grant.session ≡ other → o ≡ Some grant → Stands (free o is_such) ended returned grant
free_stands other None is_such ended returned grant frees own is = absurd (none-some grant is)
free_stands other (Some g) is_such ended returned grant frees own is =
    let same = same_Some g grant is in
    elim (is_such g) as (λ b. is_such g ≡ b → Stands (if b then None else Some g) ended returned grant) [
      | true ↦ λ such. inr (frees grant (subst (λ (x : Grant). is_such x ≡ true) same such) own)
      | false ↦ λ such. inl is
    ] refl

pub ends_on : (g : Given) (voter other : ℕ) (v : Voter) (s : Session) (is_such : Grant → Bool) (quiet : Option Quiet) → v.quiet ≡ quiet
    → ((grant : Grant) → is_such grant ≡ true → grant.session ≡ other → (is_among grant.request s.ended ≡ true) ⊎ (is_among grant.number (s.returned voter) ≡ true))
    → Holds g voter other v s → Holds g voter other (ends v quiet is_such) s
ends_on g voter other v s is_such None is frees h = record {
  reached = h.reached;
  stopped = h.stopped;
  kept = kept_as voter other v s (free v.current is_such) None v.quiet (sym is)
      (current_on other (v.lapses other) v.current (free v.current is_such) s.ended (s.returned voter) v.told (s.votes voter)
      (λ grant own is_grant. free_stands other v.current is_such s.ended (s.returned voter) grant frees own is_grant) (kept_as voter other v s v.current v.quiet None is h.kept));
  leases = h.leases;
}
ends_on g voter other v s is_such (Some q) is frees h = record {
  reached = quiet_reached g other v s q (record q { kept = free q.kept is_such }) refl refl is h.reached;
  stopped = h.stopped;
  kept = kept_on other (v.lapses other) v.current (free q.kept is_such) q s.ended (s.returned voter) v.told (s.votes voter)
      (λ grant own is_grant. free_stands other q.kept is_such s.ended (s.returned voter) grant frees own is_grant) (kept_as voter other v s v.current v.quiet (Some q) is h.kept);
  leases = h.leases;
}

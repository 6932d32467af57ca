-- the votes of all automata, turn by turn
use Rattle.std.proofs.Common.{◌≡◌, ℕ, ◌+◌, ◌*◌, ◌≤◌, Bool, true, false, List, [], ◌∷◌, ◌++◌, Option, Some, None, refl, sym, ap, subst, ◌∙◌, ◌⊎◌, inl, inr, length, arith}
use Rattle.std.specs.Prelude.{◌==◌, ◌&&◌, ◌<◌, if◌then◌else◌}
use Rattle.std.specs.List.{AllByRecursion}
use Rattle.std.proofs.lemmas.Bool.{eq-eqb, eqb-true, false≢true}
use Rattle.std.proofs.lemmas.List.{length-replicate}
use Rattle.std.proofs.lemmas.Option.{none-some, same_Some}
use Rattle.lease_clock.specs.Clocks.{at, is_silent}
use Rattle.lease_clock.specs.Leases.{is_among}
use Rattle.message.specs.declared.message.ToClient.{ToClient}
use Rattle.message.specs.declared.message.ToVoter.{ToVoter}
use Rattle.message.specs.declared.message.ClientBody.{ClientBody}
use Rattle.message.specs.declared.message.ClientBody.TheVariants as to_client
use Rattle.numbers.specs.Bounds.{max_clients}
use Rattle.quiet_time.specs.declared.since_start.SinceStart.{SinceStart}
use Rattle.quiet_time.specs.Quiet.{forgotten, is_old, noted, puts_off, quiet_step, since_start}
use Rattle.quiet_time.specs.Runs.{Lock}
use Rattle.quiet_time.specs.Runs as quiet_time
use Rattle.voter.specs.declared.state.Grant.{Grant}
use Rattle.voter.specs.declared.state.VoterState.{VoterState}
use Rattle.voter.specs.Leases.{evict, evict_held, release_of}
use Rattle.voter.specs.Saved.{least_voter}
use Rattle.voter.specs.Steps.{IsSound, Outcome, no_reply, remind, step}
use Rattle.voter.specs.VoterContract.{AllReport, Ends, ReportsVote}
use Rattle.working.specs.Events.{Event, IsOneOf, IsRated, World, after, after_all, begins, with_voter}
use Rattle.working.specs.Events as law
use Rattle.working.specs.Sessions.{is_working}
use Rattle.working.specs.Voters.{Quiet, Voter, grant_of, heard_from, hears, gives_on, lapsed, lets_other_go, lost, may_let_go, set, unless_quiet}
use Rattle.working.specs.Voters as working
use Rattle.voter.proofs.Contract.{MeetsContract-step}
use Rattle.voter.proofs.ReplyLemmas.{AllReport-remind}
use Rattle.vote_leases.proofs.Told.{told_works}
use Rattle.vote_leases.specs.Sessions.{AreTold, HasUntil, Step, all_stepped, begun, events_of}
use Rattle.vote_leases.specs.declared.incarnation.Incarnation.{Incarnation}
use Rattle.working.proofs.Lists.{set_by}
use Rattle.working.proofs.Working.{has_its_votes}
use Rattle.working_votes.specs.Turns.{Alters, AreFree, AreTrue, Askers, Crashes, Evicts, Forgets, Happens, HasVote, IsOther, IsStamped, IsTrue, IsTrueAt, Loses, MayEnd, MayEndIf, Meets, Place, Reminds, Turn, Wakes, WasTold, all_after, all_events, as_grant, as_vote, closed_at, events_at, events_by, events_in, given_by, grant_at, hears_by, is_doubtful, is_held, is_put_off, is_quiet_in, known, outcome_at, place_after, places_after, replies_by, said_by, said_in, started, voter_of, with_lock}
use Rattle.working_votes.proofs.Known.{IsQuietSound, Quietly, before_start, known_new, quiet_evicts, quiet_forgets, quiet_hears, reports_evict, unchanged}
use Rattle.working_votes.proofs.Worlds.{Changes, Next, NextRests, Rests, Said, Serves, and_next, and_rests, grant_ends, kept_ends, locked_left, lost_rests, rests_next, rests_on, restart_changes, restart_serves, said_again, serves_next, serving_rests, stays, unchanged as unchanged_world, vote_is_given, vote_is_kept, wake_changes, wakes}

-- ---- events by which no vote is given and no grant ends

-- a quiet time goes on, with the grant that was given in it, or none does
abbrev GoesOn : Option Quiet → Option Quiet → Type 0
GoesOn None None = Unit {0}
GoesOn None (Some r) = ⊥
GoesOn (Some q) None = ⊥
GoesOn (Some q) (Some r) = r.kept ≡ q.kept

goes_on : (quiet : Option Quiet) → GoesOn quiet quiet
goes_on None = tt
goes_on (Some q) = refl

none_goes_on : (quiet next : Option Quiet) → GoesOn quiet next → quiet ≡ None → next ≡ None
none_goes_on None None on is = refl
none_goes_on None (Some r) on is = absurd on
none_goes_on (Some q) next on is = absurd (none-some q (sym is))

one_goes_on : (quiet next : Option Quiet) (q : Quiet) → GoesOn quiet next → quiet ≡ Some q → (r : Quiet) × (next ≡ Some r) × (r.kept ≡ q.kept)
one_goes_on None next q on is = absurd (none-some q is)
one_goes_on (Some p) None q on is = absurd on
one_goes_on (Some p) (Some r) q on is = (r, refl, on ∙ ap (λ (x : Quiet). x.kept) (same_Some p q is))

counted : (quiet : Option Quiet) (now : ℕ) → GoesOn quiet (working.quiet_by quiet now)
counted None now = tt
counted (Some q) now = refl

-- the vote, the quiet time and what was told are as they were
record IsSame (v next : Voter) : Type 0 where
  vote : next.current ≡ v.current
  quiet : GoesOn v.quiet next.quiet
  told : next.told ≡ v.told

same : (v : Voter) → IsSame v v
same v = record { vote = refl; quiet = goes_on v.quiet; told = refl }

hears_same : (v : Voter) (session beat : ℕ) → IsSame v (heard_from v session beat)
hears_same v session beat = elim (is_among session v.over) as (λ b. IsSame v (if b then v else hears v session beat)) [
  | true ↦ same v
  | false ↦ record { vote = refl; quiet = goes_on v.quiet; told = refl }
]

other_same : (ttl : ℕ) (v : Voter) (session : ℕ) → IsSame v (lets_other_go ttl v session)
other_same ttl v session = elim (may_let_go ttl v session) as (λ b. IsSame v (if b then lapsed v session v.current else v)) [
  | true ↦ record { vote = refl; quiet = goes_on v.quiet; told = refl }
  | false ↦ same v
]

given_on_same : (ttl : ℕ) (v : Voter) (session : ℕ) → IsSame v (gives_on ttl v session)
given_on_same ttl v session = elim (is_silent v.clock (v.heard session) ttl) as (λ b. IsSame v (if b then record v { over = session ∷ v.over } else v)) [
  | true ↦ record { vote = refl; quiet = goes_on v.quiet; told = refl }
  | false ↦ same v
]

unless_same : (v next : Voter) (quiet : Option Quiet) → IsSame v next → IsSame v (unless_quiet v quiet next)
unless_same v next None new = new
unless_same v next (Some q) new = same v

-- whatever holds of a voter by these
module _ (P : Voter → Type 0) (by_same : (v next : Voter) → IsSame v next → P v → P next) where
  at_voter : (w : World) (place : ℕ) (v : Voter) (voter : ℕ) → IsSame (w.voters place) v → P (w.voters voter) → P ((with_voter w place v).voters voter)
  at_voter w place v voter is p = set_by (λ o x. P (w.voters o) → P x) w.voters place v voter (by_same (w.voters place) v is) (λ apart q. q) p

  if_holds : (w x : World) (voter : ℕ) (b : Bool) → P (w.voters voter) → P (x.voters voter) → P ((if b then x else w).voters voter)
  if_holds w x voter true old new = new
  if_holds w x voter false old new = old

  if_at : (w : World) (place : ℕ) (v : Voter) (voter : ℕ) (b : Bool) → IsSame (w.voters place) v → P (w.voters voter) → P ((if b then with_voter w place v else w).voters voter)
  if_at w place v voter b is p = if_holds w (with_voter w place v) voter b p (at_voter w place v voter is p)

  serving_at : (w : World) (place : ℕ) (v : Voter) (voter : ℕ) → IsSame (w.voters place) v → P (w.voters voter)
      → P ((with_voter w place (unless_quiet (w.voters place) (w.voters place).quiet v)).voters voter)
  serving_at w place v voter is p = at_voter w place (unless_quiet (w.voters place) (w.voters place).quiet v) voter (unless_same (w.voters place) v (w.voters place).quiet is) p

  other_on : (ttl span : ℕ) (w : World) (e : Event) (voter : ℕ) → IsOther e → P (w.voters voter) → P ((after ttl span w e).voters voter)
  other_on ttl span w (law.Passes voters sessions) voter is p = by_same (w.voters voter) (working.voter_later (w.voters voter) (voters voter)) (record { vote = refl; quiet = goes_on (w.voters voter).quiet; told = refl }) p
  other_on ttl span w (law.Beats session) voter is p = p
  other_on ttl span w (law.Hears session place time) voter is p =
      if_at w place (heard_from (w.voters place) session time) voter (is_among time (w.sessions session).beats) (hears_same (w.voters place) session time) p
  other_on ttl span w (law.Renews session place number) voter is p = p
  other_on ttl span w (law.Marks place) voter is p = at_voter w place _ voter (record { vote = refl; quiet = goes_on (w.voters place).quiet; told = refl }) p
  other_on ttl span w (law.Marked place number) voter is p = at_voter w place _ voter (record { vote = refl; quiet = goes_on (w.voters place).quiet; told = refl }) p
  other_on ttl span w (law.CountsNow session place) voter is p = at_voter w place _ voter (record { vote = refl; quiet = goes_on (w.voters place).quiet; told = refl }) p
  other_on ttl span w (law.QuietCountsNow place) voter is p =
      at_voter w place _ voter (record { vote = refl; quiet = counted (w.voters place).quiet (at (w.voters place).clock (w.voters place).time); told = refl }) p
  other_on ttl span w (law.Gives session place request number) voter is p = absurd is
  other_on ttl span w (law.Tells place) voter is p = absurd is
  other_on ttl span w (law.Takes session place number) voter is p = p
  other_on ttl span w (law.Ends session request) voter is p = p
  other_on ttl span w (law.Released session place request) voter is p = absurd is
  other_on ttl span w (law.GivesBack session place number) voter is p = p
  other_on ttl span w (law.Relinquished session place number) voter is p = absurd is
  other_on ttl span w (law.LetsGo place) voter is p = absurd is
  other_on ttl span w (law.LetsOtherGo session place) voter is p = serving_at w place (lets_other_go ttl (w.voters place) session) voter (other_same ttl (w.voters place) session) p
  other_on ttl span w (law.GivesOn session place) voter is p = serving_at w place (gives_on ttl (w.voters place) session) voter (given_on_same ttl (w.voters place) session) p
  other_on ttl span w (law.Restarts place) voter is p = absurd is
  other_on ttl span w (law.Loses place) voter is p = absurd is
  other_on ttl span w (law.Keeps session place request number) voter is p = absurd is
  other_on ttl span w (law.Wakes place) voter is p = absurd is

-- ---- grants

both : (a b : Bool) → (a && b) ≡ true → (a ≡ true) × (b ≡ true)
both true b is = (refl, is)
both false b is = absurd (false≢true is)

same_fields : (h g : Grant) → h.client ≡ g.client → h.stamp ≡ g.stamp → h.grant ≡ g.grant → h ≡ g
same_fields h g client stamp grant =
    ap (λ c. record { client = c; stamp = h.stamp; grant = h.grant }) client ∙ ap (λ s. record { client = g.client; stamp = s; grant = h.grant }) stamp
    ∙ ap (λ n. record { client = g.client; stamp = g.stamp; grant = n }) grant

same_grant : (h g : Grant) → is_held (Some h) g ≡ true → h ≡ g
same_grant h g is =
    let first = both (h.client == g.client) ((h.stamp == g.stamp) && (h.grant == g.grant)) is in
    let rest = both (h.stamp == g.stamp) (h.grant == g.grant) first.1 in
    same_fields h g (eqb-true h.client g.client first.0) (eqb-true h.stamp g.stamp rest.0) (eqb-true h.grant g.grant rest.1)

held_again : (g : Grant) → is_held (Some g) g ≡ true
held_again g = rw (eq-eqb g.client g.client refl, eq-eqb g.stamp g.stamp refl, eq-eqb g.grant g.grant refl) refl

not_held : (after : Option Grant) (g : Grant) → is_held after g ≡ false → after ≡ Some g → ⊥
not_held after g is e = false≢true (sym is ∙ ap (λ o. is_held o g) e ∙ held_again g)

held_by : (after : Option Grant) (g : Grant) → is_held after g ≡ true → after ≡ Some g
held_by None g is = absurd (false≢true is)
held_by (Some h) g is = ap (λ (x : Grant). Some x) (same_grant h g is)

other_way : (h g : Grant) → is_held (Some h) g ≡ false → is_held (Some g) h ≡ false
other_way h g is = elim (is_held (Some g) h) as (λ b. is_held (Some g) h ≡ b → b ≡ false) [
  | true ↦ λ e. absurd (not_held (Some h) g is (ap (λ (x : Grant). Some x) (sym (same_grant g h e))))
  | false ↦ λ e. refl
] refl

-- ---- a turn of one voter

-- what ends a grant of a voter that serves, or of one that is quiet
serving : {A B C : Type 0} → A ⊎ (B ⊎ ((false ≡ false) × C)) → A ⊎ (B ⊎ C)
serving (inl a) = inl a
serving (inr (inl b)) = inr (inl b)
serving (inr (inr c)) = inr (inr c.1)

resting : {A B C : Type 0} → A ⊎ (B ⊎ ((true ≡ false) × C)) → A ⊎ B
resting (inl a) = inl a
resting (inr (inl b)) = inr b
resting (inr (inr c)) = absurd (false≢true (sym c.0))

-- it leads to this vote, and a LOCKED of that left
record Moved (w next : World) (voter : ℕ) (current : Option working.Grant) : Type 0 where
  next_is : Next w next voter current
  left : (grant : working.Grant) → current ≡ Some grant → Said (next.voters voter) false grant

-- at last a LOCKED may leave again
at_last : (ttl span : ℕ) (w x : World) (voter : ℕ) (current : Option working.Grant) → Next w x voter current → Moved w (after ttl span x (law.Tells voter)) voter current
at_last ttl span w x voter current n =
    let s = serves_next w x voter current n in
    record {
      next_is = and_next w x (after ttl span x (law.Tells voter)) voter current current n (said_again ttl span x voter current s);
      left = λ grant is. locked_left ttl span x voter grant (subst (λ (o : Option working.Grant). Serves (x.voters voter) o) is s);
    }

-- in a quiet time it leaves only with the vote that is known then
tells_nothing : (ttl span : ℕ) (w x : World) (voter : ℕ) (kept : Option working.Grant) → NextRests w x voter kept → NextRests w (after ttl span x (law.Tells voter)) voter kept
tells_nothing ttl span w x voter kept n =
    let v = x.voters voter in
    and_rests w x (after ttl span x (law.Tells voter)) voter kept kept n (serving_rests x voter (working.tells_again v v.current) kept (rests_next w x voter kept n))

gives_on_to : (ttl span : ℕ) (who : Askers) (w x : World) (voter : ℕ) (before after_it : Option Grant) → Next w x voter None
    → ((h : Grant) → after_it ≡ Some h → is_held before h ≡ false)
    → Moved w (after_all ttl span x (given_by who voter before after_it ++ law.Tells voter ∷ [])) voter (as_vote who after_it)
gives_on_to ttl span who w x voter before None n apart = at_last ttl span w x voter None n
gives_on_to ttl span who w x voter before (Some h) n apart =
    let gives = law.Gives (who h.client h.stamp) voter h.stamp h.grant ∷ law.Keeps (who h.client h.stamp) voter h.stamp h.grant ∷ [] in
    rw (apart h refl) (at_last ttl span w (after_all ttl span x gives) voter (Some (as_grant who h))
    (and_next w x (after_all ttl span x gives) voter None (Some (as_grant who h)) n
    (vote_is_given ttl span x (who h.client h.stamp) voter h.stamp h.grant (serves_next w x voter None n))))

moves : (ttl span : ℕ) (who : Askers) (w : World) (voter : ℕ) (before after_it : Option Grant) → Serves (w.voters voter) (as_vote who before)
    → ((g : Grant) → before ≡ Some g → is_held after_it g ≡ false → MayEnd who ttl w voter false g)
    → Moved w (after_all ttl span w (events_by who voter before after_it)) voter (as_vote who after_it)
moves ttl span who w voter None after_it s may =
    gives_on_to ttl span who w w voter None after_it (stays w voter None s) (λ h is. refl)
moves ttl span who w voter (Some g) after_it s may =
    elim (is_held after_it g) as (λ b. is_held after_it g ≡ b
    → Moved w (after_all ttl span w ((if b then [] else law.Released (who g.client g.stamp) voter g.stamp ∷ law.Relinquished (who g.client g.stamp) voter g.grant ∷ law.LetsGo voter ∷ [])
    ++ given_by who voter (Some g) after_it ++ law.Tells voter ∷ [])) voter (as_vote who after_it)) [
      | true ↦ λ is. subst (λ (o : Option Grant). Moved w (after_all ttl span w (given_by who voter (Some g) o ++ law.Tells voter ∷ [])) voter (as_vote who o)) (sym (held_by after_it g is))
          (rw (held_again g) (at_last ttl span w w voter (Some (as_grant who g)) (stays w voter (Some (as_grant who g)) s)))
      | false ↦ λ is.
          let x = after_all ttl span w (law.Released (who g.client g.stamp) voter g.stamp ∷ law.Relinquished (who g.client g.stamp) voter g.grant ∷ law.LetsGo voter ∷ []) in
          gives_on_to ttl span who w x voter (Some g) after_it (grant_ends ttl span w voter (who g.client g.stamp) g.stamp g.grant s (serving (may g refl is)))
          (λ h e. other_way h g (subst (λ (o : Option Grant). is_held o g ≡ false) e is))
    ] refl

-- the same in a quiet time
keeps_on_to : (ttl span : ℕ) (who : Askers) (w x : World) (voter : ℕ) (before after_it : Option Grant) → NextRests w x voter None
    → ((h : Grant) → after_it ≡ Some h → is_held before h ≡ false)
    → NextRests w (after_all ttl span x (given_by who voter before after_it ++ law.Tells voter ∷ [])) voter (as_vote who after_it)
keeps_on_to ttl span who w x voter before None n apart = tells_nothing ttl span w x voter None n
keeps_on_to ttl span who w x voter before (Some h) n apart =
    let gives = law.Gives (who h.client h.stamp) voter h.stamp h.grant ∷ law.Keeps (who h.client h.stamp) voter h.stamp h.grant ∷ [] in
    rw (apart h refl) (tells_nothing ttl span w (after_all ttl span x gives) voter (Some (as_grant who h))
    (and_rests w x (after_all ttl span x gives) voter None (Some (as_grant who h)) n
    (vote_is_kept ttl span x (who h.client h.stamp) voter h.stamp h.grant (rests_next w x voter None n))))

rests_move : (ttl span : ℕ) (who : Askers) (w : World) (voter : ℕ) (before after_it : Option Grant) → Rests (w.voters voter) (as_vote who before)
    → ((g : Grant) → before ≡ Some g → is_held after_it g ≡ false → MayEnd who ttl w voter true g)
    → NextRests w (after_all ttl span w (events_by who voter before after_it)) voter (as_vote who after_it)
rests_move ttl span who w voter None after_it r may =
    keeps_on_to ttl span who w w voter None after_it (rests_on w voter None r) (λ h is. refl)
rests_move ttl span who w voter (Some g) after_it r may =
    elim (is_held after_it g) as (λ b. is_held after_it g ≡ b
    → NextRests w (after_all ttl span w ((if b then [] else law.Released (who g.client g.stamp) voter g.stamp ∷ law.Relinquished (who g.client g.stamp) voter g.grant ∷ law.LetsGo voter ∷ [])
    ++ given_by who voter (Some g) after_it ++ law.Tells voter ∷ [])) voter (as_vote who after_it)) [
      | true ↦ λ is. subst (λ (o : Option Grant). NextRests w (after_all ttl span w (given_by who voter (Some g) o ++ law.Tells voter ∷ [])) voter (as_vote who o)) (sym (held_by after_it g is))
          (rw (held_again g) (tells_nothing ttl span w w voter (Some (as_grant who g)) (rests_on w voter (Some (as_grant who g)) r)))
      | false ↦ λ is.
          let x = after_all ttl span w (law.Released (who g.client g.stamp) voter g.stamp ∷ law.Relinquished (who g.client g.stamp) voter g.grant ∷ law.LetsGo voter ∷ []) in
          keeps_on_to ttl span who w x voter (Some g) after_it (kept_ends ttl span w voter (who g.client g.stamp) g.stamp g.grant r (resting (may g refl is)))
          (λ h e. other_way h g (subst (λ (o : Option Grant). is_held o g ≡ false) e is))
    ] refl

-- ---- steps of an automaton that serves

-- a message ends a grant only if it is one that does
taken_ends : (P : Grant → Type 0) (l : Lock) (f : VoterState → SinceStart) (m : ToVoter) (o : Option Outcome) → step l.vote m ≡ o
    → ((g : Grant) → l.vote.held ≡ Some g → Ends m.client m.body g → P g)
    → (g : Grant) → l.vote.held ≡ Some g → is_held (quiet_time.after l f o).vote.held g ≡ false → P g
taken_ends P l f m None steps may g has gone = absurd (not_held l.vote.held g gone has)
taken_ends P l f m (Some o) steps may g has gone = elim ((MeetsContract-step l.vote m o steps).kept g has) [
  | inl stays_so ↦ absurd (not_held o.state.held g gone stays_so)
  | inr ends ↦ may g has ends
]

-- the grant of another number stays
evicted_ends : (P : Grant → Type 0) (l : Lock) (f : VoterState → SinceStart) (number : ℕ) (held : Option Grant) → l.vote.held ≡ held
    → ((g : Grant) → l.vote.held ≡ Some g → g.grant ≡ number → P g)
    → (g : Grant) → l.vote.held ≡ Some g → is_held (quiet_time.after l f (evict_held held l.vote number)).vote.held g ≡ false → P g
evicted_ends P l f number None is may g has gone = absurd (none-some g (sym is ∙ has))
evicted_ends P l f number (Some h) is may g has gone =
    let one : h ≡ g = same_Some h g (sym is ∙ has) in
    elim (h.grant == number) as (λ b. (h.grant == number) ≡ b → is_held (quiet_time.after l f (if b then step l.vote (release_of l.vote h) else Some (no_reply l.vote))).vote.held g ≡ false → P g) [
      | true ↦ λ e other. may g has (ap (λ (x : Grant). x.grant) (sym one) ∙ eqb-true h.grant number e)
      | false ↦ λ e other. absurd (not_held l.vote.held g other has)
    ] refl gone

-- ---- what is said

-- a LOCKED that reports the vote left in the law
by_body : (who : Askers) (w : World) (voter : ℕ) (quiet : Bool) (held : Option Grant) (client : ℕ) (body : ClientBody) → ReportsVote held client body
    → ((grant : working.Grant) → as_vote who held ≡ Some grant → Said (w.voters voter) quiet grant)
    → WasTold who w voter quiet client body
by_body who w voter quiet held client (to_client.Locked stamp number) reports left = left (grant_of (who client stamp) stamp number) (ap (as_vote who) reports)
by_body who w voter quiet held client (to_client.Fail stamp) reports left = tt
by_body who w voter quiet held client (to_client.Inquire number) reports left = tt

abbrev AllWereTold : Askers → World → ℕ → Bool → List ToClient → Type 0
AllWereTold who w voter quiet replies = AllByRecursion (λ r. WasTold who w voter quiet r.client r.body) replies

all_reported : (who : Askers) (w : World) (voter : ℕ) (quiet : Bool) (held : Option Grant) (replies : List ToClient) → AllReport held replies
    → ((grant : working.Grant) → as_vote who held ≡ Some grant → Said (w.voters voter) quiet grant)
    → AllWereTold who w voter quiet replies
all_reported who w voter quiet held [] reports left = tt
all_reported who w voter quiet held (r ∷ replies) reports left =
    (by_body who w voter quiet held r.client r.body reports.0 left, all_reported who w voter quiet held replies reports.1 left)

said_reports : (l : Lock) (f : VoterState → SinceStart) (m : ToVoter) (o : Option Outcome) → step l.vote m ≡ o → AllReport (quiet_time.after l f o).vote.held (said_by o)
said_reports l f m None steps = tt
said_reports l f m (Some o) steps = (MeetsContract-step l.vote m o steps).heard

evict_reports : (l : Lock) (f : VoterState → SinceStart) (number : ℕ) (o : Option Outcome) → evict l.vote number ≡ o → AllReport (quiet_time.after l f o).vote.held (said_by o)
evict_reports l f number None e = tt
evict_reports l f number (Some o) e = reports_evict l.vote l.vote.held number o e

-- ---- a voter in the world of the law

-- by whether it is quiet
abbrev StandsBy : Askers → Voter → Bool → Lock → Type 0
StandsBy who v false l = Serves v (as_vote who l.vote.held)
StandsBy who v true l = Rests v (as_vote who (known true l.since l.vote.held)) × IsQuietSound l

abbrev Stands : Askers → Voter → Place → Type 0
Stands who v p = StandsBy who v p.is_quiet p.lock

same_stands : (who : Askers) (quiet : Bool) (l : Lock) (v next : Voter) → IsSame v next → StandsBy who v quiet l → StandsBy who next quiet l
same_stands who false l v next is s = record { awake = none_goes_on v.quiet next.quiet is.quiet s.awake; vote = is.vote ∙ s.vote }
same_stands who true l v next is s = let on = one_goes_on v.quiet next.quiet s.0.time is.quiet s.0.quiet in (
  record {
    time = on.0;
    quiet = on.1;
    grant = on.2 ∙ s.0.grant;
    told = λ g at. subst (λ told. (lapses : ℕ) × IsOneOf (record { grant = g; lapses = lapses; renews = true }) told) (sym is.told) (s.0.told g at);
  },
  s.1,
)

-- A turn of a voter: it alone changes, stands in the law as it is then, and each LOCKED that it says left in the law.
record Turned (who : Askers) (w next : World) (voter : ℕ) (p after_it : Place) (replies : List ToClient) : Type 0 where
  after : Voter
  changes : Changes w next voter after
  stands : Stands who (next.voters voter) after_it
  told : AllWereTold who next voter p.is_quiet replies

-- one that serves, whose vote was the first and is the second
serves_turned : (who : Askers) (ttl span : ℕ) (w : World) (voter : ℕ) (l next : Lock) (replies : List ToClient) → Serves (w.voters voter) (as_vote who l.vote.held)
    → ((g : Grant) → l.vote.held ≡ Some g → is_held next.vote.held g ≡ false → MayEnd who ttl w voter false g) → AllReport next.vote.held replies
    → Turned who w (after_all ttl span w (events_by who voter l.vote.held next.vote.held)) voter (record { lock = l; is_quiet = false }) (record { lock = next; is_quiet = false }) replies
serves_turned who ttl span w voter l next replies s may reports =
    let m = moves ttl span who w voter l.vote.held next.vote.held s may in
    let x = after_all ttl span w (events_by who voter l.vote.held next.vote.held) in
    record {
      after = m.next_is.after;
      changes = m.next_is.changes;
      stands = serves_next w x voter (as_vote who next.vote.held) m.next_is;
      told = all_reported who x voter false next.vote.held replies reports m.left;
    }

-- one that is quiet
quiet_may : (who : Askers) (ttl : ℕ) (w : World) (voter : ℕ) (l next : Lock) (replies : List ToClient) (P : Grant → Type 0) → Quietly l next replies P
    → ((g : Grant) → known true l.since l.vote.held ≡ Some g → P g → MayEnd who ttl w voter true g)
    → (g : Grant) → known true l.since l.vote.held ≡ Some g → is_held (known true next.since next.vote.held) g ≡ false → MayEnd who ttl w voter true g
quiet_may who ttl w voter l next replies P q may g has gone = elim (q.stays g has) [
  | inl stays_so ↦ absurd (not_held (known true next.since next.vote.held) g gone stays_so)
  | inr ends ↦ may g has ends
]

quiet_turned : (who : Askers) (ttl span : ℕ) (w : World) (voter : ℕ) (l next : Lock) (replies : List ToClient) (P : Grant → Type 0)
    → Rests (w.voters voter) (as_vote who (known true l.since l.vote.held)) → Quietly l next replies P
    → ((g : Grant) → known true l.since l.vote.held ≡ Some g → P g → MayEnd who ttl w voter true g)
    → Turned who w (after_all ttl span w (events_by who voter (known true l.since l.vote.held) (known true next.since next.vote.held))) voter (record { lock = l; is_quiet = true })
    (record { lock = next; is_quiet = true }) replies
quiet_turned who ttl span w voter l next replies P r q may =
    let before = known true l.since l.vote.held in
    let then_known = known true next.since next.vote.held in
    let n = rests_move ttl span who w voter before then_known r (quiet_may who ttl w voter l next replies P q may) in
    let x = after_all ttl span w (events_by who voter before then_known) in
    let now = rests_next w x voter (as_vote who then_known) n in
    record {
      after = n.after;
      changes = n.changes;
      stands = (now, q.sound);
      told = all_reported who x voter true then_known replies q.said now.told;
    }

-- ---- each turn

meets_serving : (who : Askers) (ttl span : ℕ) (w : World) (voter : ℕ) (l : Lock) (m : ToVoter) (inside put_off : Bool) → Serves (w.voters voter) (as_vote who l.vote.held)
    → MayEndIf who ttl w voter (record { lock = l; is_quiet = false }) (Ends m.client m.body)
    → Turned who w (after_all ttl span w (events_at who voter (record { lock = l; is_quiet = false }) (hears_by put_off (record { lock = l; is_quiet = false }) m inside))) voter (record { lock = l; is_quiet = false })
    (hears_by put_off (record { lock = l; is_quiet = false }) m inside) (replies_by put_off (record { lock = l; is_quiet = false }) m)
meets_serving who ttl span w voter l m inside true s may = serves_turned who ttl span w voter l l [] s (λ g has gone. absurd (not_held l.vote.held g gone has)) tt
meets_serving who ttl span w voter l m inside false s may =
    let f : VoterState → SinceStart = λ v. noted (closed_at (record { lock = l; is_quiet = false })) inside l.since v m.client m.body in
    serves_turned who ttl span w voter l (quiet_time.after l f (step l.vote m)) (said_by (step l.vote m)) s
    (taken_ends (MayEnd who ttl w voter false) l f m (step l.vote m) refl may) (said_reports l f m (step l.vote m) refl)

meets_quiet : (who : Askers) (ttl span : ℕ) (w : World) (voter : ℕ) (l : Lock) (m : ToVoter) (inside put_off : Bool) → puts_off true inside m.body ≡ put_off
    → Rests (w.voters voter) (as_vote who (known true l.since l.vote.held)) → IsQuietSound l → (m.client < max_clients) × IsStamped m.body
    → MayEndIf who ttl w voter (record { lock = l; is_quiet = true }) (Ends m.client m.body)
    → Turned who w (after_all ttl span w (events_at who voter (record { lock = l; is_quiet = true }) (hears_by put_off (record { lock = l; is_quiet = true }) m inside))) voter (record { lock = l; is_quiet = true })
    (hears_by put_off (record { lock = l; is_quiet = true }) m inside) (replies_by put_off (record { lock = l; is_quiet = true }) m)
meets_quiet who ttl span w voter l m inside true is r q told may = quiet_turned who ttl span w voter l l [] (Ends m.client m.body) r (unchanged l (Ends m.client m.body) q) may
meets_quiet who ttl span w voter l m inside false is r q told may =
    let o = quiet_step (is_old l.since l.vote.held) l.vote m in
    quiet_turned who ttl span w voter l (quiet_time.after l (λ v. noted true inside l.since v m.client m.body) o) (said_by o) (Ends m.client m.body) r
    (quiet_hears l m inside q told.0 told.1 is o refl) may

evicts_quiet : (who : Askers) (ttl span : ℕ) (w : World) (voter number : ℕ) (l : Lock) → Rests (w.voters voter) (as_vote who (known true l.since l.vote.held)) → IsQuietSound l
    → MayEndIf who ttl w voter (record { lock = l; is_quiet = true }) (λ g. g.grant ≡ number)
    → Turned who w (after_all ttl span w (events_at who voter (record { lock = l; is_quiet = true }) (place_after (record { lock = l; is_quiet = true }) (Evicts voter number)))) voter (record { lock = l; is_quiet = true })
    (place_after (record { lock = l; is_quiet = true }) (Evicts voter number)) (said_by (evict l.vote number))
evicts_quiet who ttl span w voter number l r q may =
    quiet_turned who ttl span w voter l (quiet_time.after l (λ v. l.since) (evict l.vote number)) (said_by (evict l.vote number)) (λ g. g.grant ≡ number) r
    (quiet_evicts l number q (evict l.vote number) refl) may

evicts_serving : (who : Askers) (ttl span : ℕ) (w : World) (voter number : ℕ) (l : Lock) → Serves (w.voters voter) (as_vote who l.vote.held)
    → MayEndIf who ttl w voter (record { lock = l; is_quiet = false }) (λ g. g.grant ≡ number)
    → Turned who w (after_all ttl span w (events_at who voter (record { lock = l; is_quiet = false }) (place_after (record { lock = l; is_quiet = false }) (Evicts voter number)))) voter (record { lock = l; is_quiet = false })
    (place_after (record { lock = l; is_quiet = false }) (Evicts voter number)) (said_by (evict l.vote number))
evicts_serving who ttl span w voter number l s may =
    serves_turned who ttl span w voter l (quiet_time.after l (λ v. l.since) (evict l.vote number)) (said_by (evict l.vote number)) s
    (evicted_ends (MayEnd who ttl w voter false) l (λ v. l.since) number l.vote.held refl may) (evict_reports l (λ v. l.since) number (evict l.vote number) refl)

forgets_serving : (who : Askers) (ttl span : ℕ) (w : World) (voter client : ℕ) (l : Lock) → Serves (w.voters voter) (as_vote who l.vote.held)
    → Turned who w (after_all ttl span w (events_by who voter l.vote.held l.vote.held)) voter (record { lock = l; is_quiet = false })
    (record { lock = record { vote = l.vote; since = forgotten l.since client }; is_quiet = false }) []
forgets_serving who ttl span w voter client l s =
    serves_turned who ttl span w voter l (record { vote = l.vote; since = forgotten l.since client }) [] s (λ g has gone. absurd (not_held l.vote.held g gone has)) tt

-- a reminder says the vote that is known, and nothing else
reminds_serving : (who : Askers) (ttl span : ℕ) (w : World) (voter : ℕ) (l : Lock) → Serves (w.voters voter) (as_vote who l.vote.held)
    → Turned who w (after ttl span w (law.Tells voter)) voter (record { lock = l; is_quiet = false }) (record { lock = l; is_quiet = false }) (remind l.vote)
reminds_serving who ttl span w voter l s =
    let m = at_last ttl span w w voter (as_vote who l.vote.held) (stays w voter (as_vote who l.vote.held) s) in
    let x = after ttl span w (law.Tells voter) in
    record {
      after = m.next_is.after;
      changes = m.next_is.changes;
      stands = serves_next w x voter (as_vote who l.vote.held) m.next_is;
      told = all_reported who x voter false l.vote.held (remind l.vote) (AllReport-remind l.vote) m.left;
    }

reminder_reports : (l : Lock) (old : Bool) → is_old l.since l.vote.held ≡ old → AllReport (known true l.since l.vote.held) (if old then [] else remind l.vote)
reminder_reports l true is = tt
reminder_reports l false is = subst (λ (h : Option Grant). AllReport h (remind l.vote)) (sym (known_new l.since l.vote.held is)) (AllReport-remind l.vote)

reminds_quiet : (who : Askers) (ttl span : ℕ) (w : World) (voter : ℕ) (l : Lock) → Rests (w.voters voter) (as_vote who (known true l.since l.vote.held)) → IsQuietSound l
    → Turned who w (after ttl span w (law.Tells voter)) voter (record { lock = l; is_quiet = true }) (record { lock = l; is_quiet = true }) (if is_old l.since l.vote.held then [] else remind l.vote)
reminds_quiet who ttl span w voter l r q =
    let k = known true l.since l.vote.held in
    let n = tells_nothing ttl span w w voter (as_vote who k) (rests_on w voter (as_vote who k) r) in
    let x = after ttl span w (law.Tells voter) in
    let now = rests_next w x voter (as_vote who k) n in
    record {
      after = n.after;
      changes = n.changes;
      stands = (now, q);
      told = all_reported who x voter true k (if is_old l.since l.vote.held then [] else remind l.vote) (reminder_reports l (is_old l.since l.vote.held) refl) now.told;
    }

crashes_serving : (who : Askers) (ttl span : ℕ) (w : World) (voter : ℕ) (l : Lock) → Serves (w.voters voter) (as_vote who l.vote.held)
    → Turned who w (after ttl span w (law.Restarts voter)) voter (record { lock = l; is_quiet = false }) (started (least_voter l.vote) false) []
crashes_serving who ttl span w voter l s = record {
  after = working.restarted (w.voters voter);
  changes = restart_changes ttl span w voter;
  stands = restart_serves ttl span w voter (as_vote who l.vote.held) s;
  told = tt;
}

-- a grant from before the start is old
is_of_before : (state : VoterState) (held : Option Grant) → ((g : Grant) → held ≡ Some g → g.grant ≤ state.granted) → known true (since_start state.granted) held ≡ None
is_of_before state None least = refl
is_of_before state (Some g) least = before_start state g (least g refl)

loses : (who : Askers) (ttl span : ℕ) (w : World) (voter : ℕ) (p : Place) (state : VoterState) → IsSound state
    → Turned who w (after ttl span w (law.Loses voter)) voter p (started state true) []
loses who ttl span w voter p state sound =
    let n = lost_rests w voter in
    let x = after ttl span w (law.Loses voter) in
    record {
      after = n.after;
      changes = n.changes;
      stands = (
        subst (λ (k : Option Grant). Rests (x.voters voter) (as_vote who k)) (sym (is_of_before state state.held sound.numbered)) (rests_next w x voter None n),
        record { sound = sound; begun = omega arith; places = length-replicate {A = ℕ} max_clients 0 },
      );
      told = tt;
    }

wakes_quiet : (who : Askers) (ttl span : ℕ) (w : World) (voter : ℕ) (l : Lock) → Rests (w.voters voter) (as_vote who (known true l.since l.vote.held)) → is_old l.since l.vote.held ≡ false
    → ((q : Quiet) → (w.voters voter).quiet ≡ Some q → is_silent (w.voters voter).clock q.since ttl ≡ true)
    → Turned who w (after ttl span w (law.Wakes voter)) voter (record { lock = l; is_quiet = true }) (record { lock = l; is_quiet = false }) []
wakes_quiet who ttl span w voter l r new over = record {
  after = working.awake ttl (w.voters voter) (w.voters voter).quiet;
  changes = wake_changes ttl span w voter;
  stands = wakes ttl span w voter (as_vote who l.vote.held) (subst (λ (k : Option Grant). Rests (w.voters voter) (as_vote who k)) (known_new l.since l.vote.held new) r) over;
  told = tt;
}

altered_by : (who : Askers) (v : Voter) (quiet : Bool) (l : Lock) (state : VoterState) → state.held ≡ l.vote.held → ((quiet ≡ true) → IsSound state × (l.vote.granted ≤ state.granted))
    → StandsBy who v quiet l → StandsBy who v quiet (record { vote = state; since = l.since })
altered_by who v false l state is may s = subst (λ (h : Option Grant). Serves v (as_vote who h)) (sym is) s
altered_by who v true l state is may s = (
  subst (λ (h : Option Grant). Rests v (as_vote who (known true l.since h))) (sym is) s.0,
  record { sound = (may refl).0; begun = omega (arith, s.1.begun, (may refl).1); places = s.1.places },
)

-- ---- a turn of any voter, quiet or not

by_quiet : (P : Place → Type 0) → ((l : Lock) → P (record { lock = l; is_quiet = false })) → ((l : Lock) → P (record { lock = l; is_quiet = true })) → (p : Place) → P p
by_quiet P serving quiet p = elim p.is_quiet as (λ b. P (record { lock = p.lock; is_quiet = b })) [
  | true ↦ quiet p.lock
  | false ↦ serving p.lock
]

-- the events of a turn of one voter
abbrev TurnedBy : Askers → ℕ → ℕ → World → (ℕ → Place) → Turn → Type 0
TurnedBy who ttl span w places t =
    Turned who w (after_all ttl span w (events_in who places t)) (voter_of t) (places (voter_of t)) (place_after (places (voter_of t)) t) (said_in places t)

meets_turned : (who : Askers) (ttl span : ℕ) (w : World) (voter : ℕ) (m : ToVoter) (inside : Bool) (p : Place) → Stands who (w.voters voter) p → IsTrueAt who ttl w p (Meets voter m inside)
    → Turned who w (after_all ttl span w (events_at who voter p (hears_by (is_put_off p m inside) p m inside))) voter p (hears_by (is_put_off p m inside) p m inside) (replies_by (is_put_off p m inside) p m)
meets_turned who ttl span w voter m inside p =
    by_quiet (λ p. Stands who (w.voters voter) p → IsTrueAt who ttl w p (Meets voter m inside)
    → Turned who w (after_all ttl span w (events_at who voter p (hears_by (is_put_off p m inside) p m inside))) voter p (hears_by (is_put_off p m inside) p m inside) (replies_by (is_put_off p m inside) p m))
    (λ l s is. meets_serving who ttl span w voter l m inside (is_put_off (record { lock = l; is_quiet = false }) m inside) s is.1)
    (λ l s is. meets_quiet who ttl span w voter l m inside (puts_off true inside m.body) refl s.0 s.1 (is.0 refl) is.1) p

evicts_turned : (who : Askers) (ttl span : ℕ) (w : World) (voter number : ℕ) (p : Place) → Stands who (w.voters voter) p → IsTrueAt who ttl w p (Evicts voter number)
    → Turned who w (after_all ttl span w (events_at who voter p (place_after p (Evicts voter number)))) voter p (place_after p (Evicts voter number)) (said_by (evict p.lock.vote number))
evicts_turned who ttl span w voter number p =
    by_quiet (λ p. Stands who (w.voters voter) p → IsTrueAt who ttl w p (Evicts voter number)
    → Turned who w (after_all ttl span w (events_at who voter p (place_after p (Evicts voter number)))) voter p (place_after p (Evicts voter number)) (said_by (evict p.lock.vote number)))
    (λ l s is. evicts_serving who ttl span w voter number l s is)
    (λ l s is. evicts_quiet who ttl span w voter number l s.0 s.1 is) p

forgets_turned : (who : Askers) (ttl span : ℕ) (w : World) (voter client : ℕ) (p : Place) → Stands who (w.voters voter) p → IsTrueAt who ttl w p (Forgets voter client)
    → Turned who w (after_all ttl span w (events_at who voter p (place_after p (Forgets voter client)))) voter p (place_after p (Forgets voter client)) []
forgets_turned who ttl span w voter client p =
    by_quiet (λ p. Stands who (w.voters voter) p → IsTrueAt who ttl w p (Forgets voter client)
    → Turned who w (after_all ttl span w (events_at who voter p (place_after p (Forgets voter client)))) voter p (place_after p (Forgets voter client)) [])
    (λ l s is. forgets_serving who ttl span w voter client l s)
    (λ l s is. quiet_turned who ttl span w voter l (record { vote = l.vote; since = forgotten l.since client }) [] (λ g. g.client ≡ client) s.0 (quiet_forgets l client s.1) (is refl)) p

reminds_turned : (who : Askers) (ttl span : ℕ) (w : World) (voter : ℕ) (p : Place) → Stands who (w.voters voter) p
    → Turned who w (after ttl span w (law.Tells voter)) voter p p (if is_doubtful p then [] else remind p.lock.vote)
reminds_turned who ttl span w voter p =
    by_quiet (λ p. Stands who (w.voters voter) p → Turned who w (after ttl span w (law.Tells voter)) voter p p (if is_doubtful p then [] else remind p.lock.vote))
    (λ l s. reminds_serving who ttl span w voter l s) (λ l s. reminds_quiet who ttl span w voter l s.0 s.1) p

crashes_turned : (who : Askers) (ttl span : ℕ) (w : World) (voter : ℕ) (p : Place) → Stands who (w.voters voter) p → p.is_quiet ≡ false
    → Turned who w (after ttl span w (law.Restarts voter)) voter p (started (least_voter p.lock.vote) p.is_quiet) []
crashes_turned who ttl span w voter p =
    by_quiet (λ p. Stands who (w.voters voter) p → p.is_quiet ≡ false → Turned who w (after ttl span w (law.Restarts voter)) voter p (started (least_voter p.lock.vote) p.is_quiet) [])
    (λ l s is. crashes_serving who ttl span w voter l s) (λ l s is. absurd (false≢true (sym is))) p

wakes_turned : (who : Askers) (ttl span : ℕ) (w : World) (voter : ℕ) (p : Place) → Stands who (w.voters voter) p → IsTrueAt who ttl w p (Wakes voter)
    → Turned who w (after ttl span w (law.Wakes voter)) voter p (record { lock = p.lock; is_quiet = false }) []
wakes_turned who ttl span w voter p =
    by_quiet (λ p. Stands who (w.voters voter) p → IsTrueAt who ttl w p (Wakes voter) → Turned who w (after ttl span w (law.Wakes voter)) voter p (record { lock = p.lock; is_quiet = false }) [])
    (λ l s is. absurd (false≢true is.0)) (λ l s is. wakes_quiet who ttl span w voter l s.0 is.1 is.2) p

alters_turned : (who : Askers) (w : World) (voter : ℕ) (p : Place) (state : VoterState) (ttl : ℕ) → Stands who (w.voters voter) p → IsTrueAt who ttl w p (Alters voter state)
    → Turned who w w voter p (with_lock p (record { vote = state; since = p.lock.since })) []
alters_turned who w voter p state ttl s is = record {
  after = w.voters voter;
  changes = unchanged_world w voter;
  stands = altered_by who (w.voters voter) p.is_quiet p.lock state is.0 is.1 s;
  told = tt;
}

-- ---- all voters

abbrev AllStand : Askers → World → (ℕ → Place) → Type 0
AllStand who w places = (voter : ℕ) → Stands who (w.voters voter) (places voter)

elsewhere : (who : Askers) (w next : World) (place : ℕ) (v : Voter) (voter : ℕ) (p : Place) → Changes w next place v → (place == voter) ≡ false
    → Stands who (w.voters voter) p → Stands who (next.voters voter) p
elsewhere who w next place v voter p changes apart s = subst (λ (x : Voter). Stands who x p) (sym (changes.others voter apart)) s

-- one voter turned
one_turned : (who : Askers) (w next : World) (places : ℕ → Place) (place : ℕ) (p : Place) (replies : List ToClient) → Turned who w next place (places place) p replies → AllStand who w places
    → AllStand who next (set places place p)
one_turned who w next places place p replies t all voter =
    set_by (λ o x. Stands who (next.voters o) x) places place p voter t.stands (λ apart. elsewhere who w next place t.after voter (places voter) t.changes apart (all voter))

happens_on : (ttl span : ℕ) (who : Askers) (w : World) (places : ℕ → Place) (e : Event) → IsOther e → AllStand who w places → AllStand who (after ttl span w e) (set places 0 (places 0))
happens_on ttl span who w places e is all voter =
    let on : (o : ℕ) → Stands who ((after ttl span w e).voters o) (places o) =
    λ o. other_on (λ v. Stands who v (places o)) (same_stands who (places o).is_quiet (places o).lock) ttl span w e o is (all o) in
    set_by (λ o x. Stands who ((after ttl span w e).voters o) x) places 0 (places 0) voter (on 0) (λ apart. on voter)

turn_on : (ttl span : ℕ) (who : Askers) (w : World) (places : ℕ → Place) (t : Turn) → IsTrue who ttl w places t → AllStand who w places
    → AllStand who (after_all ttl span w (events_in who places t)) (places_after places t)
turn_on ttl span who w places (Happens e) is all = happens_on ttl span who w places e is all
turn_on ttl span who w places (Meets place m inside) is all =
    one_turned who w _ places place _ _ (meets_turned who ttl span w place m inside (places place) (all place) is) all
turn_on ttl span who w places (Evicts place number) is all =
    one_turned who w _ places place _ _ (evicts_turned who ttl span w place number (places place) (all place) is) all
turn_on ttl span who w places (Reminds place) is all =
    one_turned who w _ places place _ _ (reminds_turned who ttl span w place (places place) (all place)) all
turn_on ttl span who w places (Forgets place client) is all =
    one_turned who w _ places place _ _ (forgets_turned who ttl span w place client (places place) (all place) is) all
turn_on ttl span who w places (Crashes place) is all =
    one_turned who w _ places place _ _ (crashes_turned who ttl span w place (places place) (all place) is) all
turn_on ttl span who w places (Loses place state) is all =
    one_turned who w _ places place _ _ (loses who ttl span w place (places place) state is) all
turn_on ttl span who w places (Wakes place) is all =
    one_turned who w _ places place _ _ (wakes_turned who ttl span w place (places place) (all place) is) all
turn_on ttl span who w places (Alters place state) is all =
    one_turned who w _ places place _ _ (alters_turned who w place (places place) state ttl (all place) is) all

all_later : (ttl span : ℕ) (w : World) (first rest : List Event) → after_all ttl span w (first ++ rest) ≡ after_all ttl span (after_all ttl span w first) rest
all_later ttl span w [] rest = refl
all_later ttl span w (e ∷ first) rest = all_later ttl span (after ttl span w e) first rest

turns_on : (ttl span : ℕ) (who : Askers) (turns : List Turn) (w : World) (places : ℕ → Place) → AreTrue who ttl span w places turns → AllStand who w places
    → AllStand who (after_all ttl span w (all_events who places turns)) (all_after places turns)
turns_on ttl span who [] w places is all = all
turns_on ttl span who (t ∷ turns) w places is all =
    subst (λ x. AllStand who x (all_after (places_after places t) turns)) (sym (all_later ttl span w (events_in who places t) (all_events who (places_after places t) turns)))
    (turns_on ttl span who turns (after_all ttl span w (events_in who places t)) (places_after places t) is.1 (turn_on ttl span who w places t is.0 all))

begins_stand : (who : Askers) (periods times sessions : ℕ → ℕ) (places : ℕ → Place) → AreFree places → AllStand who (begins periods times sessions) places
begins_stand who periods times sessions places free voter =
    let w = begins periods times sessions in
    subst (λ (b : Bool). StandsBy who (w.voters voter) b (places voter).lock) (sym (free voter).0) (record { awake = refl; vote = ap (as_vote who) (sym (free voter).1) })

-- ---- the laws

has_one : (who : Askers) (held : Option Grant) (session request number : ℕ) → as_vote who held ≡ Some (grant_of session request number)
    → (g : Grant) × (held ≡ Some g) × (who g.client g.stamp ≡ session) × (g.stamp ≡ request)
has_one who None session request number is = absurd (none-some (grant_of session request number) is)
has_one who (Some g) session request number is =
    let one = same_Some (as_grant who g) (grant_of session request number) is in
    (g, refl, ap (λ (x : working.Grant). x.session) one, ap (λ (x : working.Grant). x.request) one)

has_or_quiet : (who : Askers) (v : Voter) (session request number : ℕ) (quiet : Bool) (l : Lock) → StandsBy who v quiet l → v.current ≡ Some (grant_of session request number)
    → (quiet ≡ true) ⊎ ((g : Grant) × (l.vote.held ≡ Some g) × (who g.client g.stamp ≡ session) × (g.stamp ≡ request))
has_or_quiet who v session request number true l s is = inl refl
has_or_quiet who v session request number false l s is = inr (has_one who l.vote.held session request number (sym s.vote ∙ is))

have_all : (who : Askers) (w : World) (places : ℕ → Place) (session request : ℕ) (quorum : List ℕ) → AllStand who w places
    → AllByRecursion (law.HasVote w session request) quorum → AllByRecursion (HasVote who places session request) quorum
have_all who w places session request [] all has = tt
have_all who w places session request (voter ∷ quorum) all has =
    (has_or_quiet who (w.voters voter) session request has.0.0 (places voter).is_quiet (places voter).lock (all voter) has.0.1, have_all who w places session request quorum all has.1)

pub has_votes : (who : Askers) (a b ttl lease stop : ℕ) (periods times sessions : ℕ → ℕ) (places : ℕ → Place) (turns : List Turn) (session request : ℕ) (quorum : List ℕ)
    → 1 ≤ b → AllByRecursion (IsRated a b) (all_events who places turns) → b * (lease + stop) ≤ a * ttl
    → AreFree places → AreTrue who ttl (lease + stop) (begins periods times sessions) places turns
    → is_working lease stop ((after_all ttl (lease + stop) (begins periods times sessions) (all_events who places turns)).sessions session) request quorum ≡ true
    → AllByRecursion (HasVote who (all_after places turns) session request) quorum
has_votes who a b ttl lease stop periods times sessions places turns session request quorum some rated bound free is works =
    let w = begins periods times sessions in
    have_all who (after_all ttl (lease + stop) w (all_events who places turns)) (all_after places turns) session request quorum
    (turns_on ttl (lease + stop) who turns w places is (begins_stand who periods times sessions places free))
    (has_its_votes a b ttl lease stop periods times sessions (all_events who places turns) session request quorum some rated bound works)

pub told_has_votes : (who : Askers) (lapses : ℕ → ℕ → Incarnation → ℕ) (a b ttl lease stop : ℕ) (periods times sessions : ℕ → ℕ) (places : ℕ → Place) (turns : List Turn) (used : ℕ) (steps : List Step) (me request voter : ℕ) (quorum : List ℕ)
    → 1 ≤ b → AllByRecursion (IsRated a b) (events_of steps) → b * (lease + stop) ≤ a * ttl
    → AreFree places → AreTrue who ttl (lease + stop) (begins periods times sessions) places turns
    → events_of steps ≡ all_events who places turns
    → AreTold lapses ttl (lease + stop) (begins periods times sessions) steps
    → AllByRecursion (HasUntil lease stop ((after_all ttl (lease + stop) (begins periods times sessions) (events_of steps)).sessions me).time
    (all_stepped ttl lease (lease + stop) me (begins periods times sessions) (begun used) steps) request) (voter ∷ quorum)
    → AllByRecursion (HasVote who (all_after places turns) me request) (voter ∷ quorum)
told_has_votes who lapses a b ttl lease stop periods times sessions places turns used steps me request voter quorum some rated bound free is same_events told all =
    let w = begins periods times sessions in
    has_votes who a b ttl lease stop periods times sessions places turns me request (voter ∷ quorum) some
    (subst (λ (events : List Event). AllByRecursion (IsRated a b) events) same_events rated) bound free is
    (subst (λ (events : List Event). is_working lease stop ((after_all ttl (lease + stop) w events).sessions me) request (voter ∷ quorum) ≡ true) same_events
    (told_works lapses ttl lease stop periods times sessions used steps me request voter quorum told all))

told_in : (ttl span : ℕ) (who : Askers) (w : World) (places : ℕ → Place) (t : Turn) → IsTrue who ttl w places t → AllStand who w places
    → AllWereTold who (after_all ttl span w (events_in who places t)) (voter_of t) (is_quiet_in places t) (said_in places t)
told_in ttl span who w places (Happens e) is all = tt
told_in ttl span who w places (Meets place m inside) is all = (meets_turned who ttl span w place m inside (places place) (all place) is).told
told_in ttl span who w places (Evicts place number) is all = (evicts_turned who ttl span w place number (places place) (all place) is).told
told_in ttl span who w places (Reminds place) is all = (reminds_turned who ttl span w place (places place) (all place)).told
told_in ttl span who w places (Forgets place client) is all = tt
told_in ttl span who w places (Crashes place) is all = tt
told_in ttl span who w places (Loses place state) is all = tt
told_in ttl span who w places (Wakes place) is all = tt
told_in ttl span who w places (Alters place state) is all = tt

pub was_told : (who : Askers) (ttl span : ℕ) (periods times sessions : ℕ → ℕ) (places : ℕ → Place) (turns : List Turn) (turn : Turn)
    → AreFree places → AreTrue who ttl span (begins periods times sessions) places turns
    → IsTrue who ttl (after_all ttl span (begins periods times sessions) (all_events who places turns)) (all_after places turns) turn
    → AllByRecursion (λ r. WasTold who (after_all ttl span (after_all ttl span (begins periods times sessions) (all_events who places turns)) (events_in who (all_after places turns) turn)) (voter_of turn) (is_quiet_in (all_after places turns) turn) r.client r.body) (said_in (all_after places turns) turn)
was_told who ttl span periods times sessions places turns turn free is now =
    let w = begins periods times sessions in
    told_in ttl span who (after_all ttl span w (all_events who places turns)) (all_after places turns) turn now
    (turns_on ttl span who turns w places is (begins_stand who periods times sessions places free))

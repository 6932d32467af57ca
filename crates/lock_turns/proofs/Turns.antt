-- what a call of a lock writes is what a turn leads to
use Rattle.std.proofs.Common.{◌≡◌, ◌<◌, ◌≤◌, ℕ, ℤ, Bool, true, false, List, [], ◌∷◌, refl, sym, ap, subst, ◌∙◌, ◌⊎◌, inl, inr, Option, Some, None, arith, length}
use Rattle.std.specs.Prelude.{◌&&◌, ◌==◌, if◌then◌else◌}
use Rattle.std.proofs.lemmas.Bool.{cases_lt, eq-eqb, false≢true}
use Rattle.std.proofs.lemmas.Option.{none-some, same_Some}
use Rattle.blocks.specs.Numbers.{done, refused}
use Rattle.blocks.specs.Tables.{AreRows, row_or_none}
use Rattle.blocks.specs.declared.refusal.Refusal.{Refusal}
use Rattle.blocks.specs.declared.refusal.Refusal.TheVariants.{GrantsSpent, NoRoom}
use Rattle.lock_blocks.specs.Bytes.{IsVoter}
use Rattle.lock_blocks.specs.Lines.{IsToVoter, Sends, Writes, lines_to_clients}
use Rattle.lock_blocks.specs.LockSteps.{GoesOnAt, IsLeft, IsShown, LockEndsQuiet, LockLetsGo, LockReminds, LockTakes, lines_heard}
use Rattle.lock_blocks.specs.declared.locks.LockShown.{LockShown}
use Rattle.lock_blocks.proofs.LockLemmas.{refused_some}
use Rattle.lock_node.specs.Letters.{heard, may_say}
use Rattle.lock_turns.specs.Calls.{AreOf, IsSoundSince, Tells, place_of}
use Rattle.message.specs.declared.message.ToVoter.{ToVoter}
use Rattle.message.specs.declared.message.VoterBody.TheVariants as asks
use Rattle.quiet_time.specs.declared.since_start.SinceStart.{SinceStart}
use Rattle.quiet_time.specs.Quiet.{end_of, is_closed, is_old, noted, puts_off, quiet_step}
use Rattle.quiet_time.specs.Runs as quiet_time
use Rattle.sessions.specs.Rows.{Row}
use Rattle.voter.specs.declared.state.Grant.{Grant}
use Rattle.voter.specs.declared.state.VoterState.{VoterState}
use Rattle.voter.specs.Leases.{evict, release_of}
use Rattle.voter.specs.Steps.{IsSound, Outcome, no_reply, remind, step}
use Rattle.voter.specs.VoterContract.{IsEntry}
use Rattle.voter.proofs.EvictLemmas.{evict-current}
use Rattle.voter.proofs.Staying.{ended-step}
use Rattle.working_votes.specs.Turns.{Evicts, Meets, Place, Reminds, hears_by, is_doubtful, is_put_off, outcome_at, place_after, replies_by, said_by, said_in}
use Rattle.working_votes.proofs.Known.{above}
use Rattle.working_votes.proofs.Rises.{rises-evict}

-- what was to be written was, if the call is done
sent : (text before after : List ℕ) (written : ℕ) (result : ℤ) (C : Type 0) → Sends text before after written result C → result ≡ done → Writes text before after written × C
sent text before after written result C s is = elim (cases_lt (length before) (length text)) [
  | inl less ↦ absurd (refused_some NoRoom (sym (s.no_room less) ∙ is))
  | inr fits ↦ ((s.sent fits).1, (s.sent fits).2)
]

-- so the voter is the one after its own step, if there is one
gone_on : (o : Option Outcome) (vote : VoterState) (rows : ℕ → Option Row) (client : ℕ) (known : VoterState → Type 0) (after out out_after : List ℕ) (written : ℕ) (shown : LockShown) (result : ℤ)
    → GoesOnAt o vote rows client known after out out_after written shown result → result ≡ done
    → (x : Outcome) × (o ≡ Some x) × Writes (lines_heard rows x) out out_after written × IsVoter after x.state × known x.state
gone_on None vote rows client known after out out_after written shown result goes is = absurd (refused_some GrantsSpent (sym goes ∙ is))
gone_on (Some x) vote rows client known after out out_after written shown result goes is =
    let all = sent (lines_heard rows x) out out_after written result ((IsVoter after x.state × IsShown vote x.state client shown) × known x.state) goes is in
    (x, refl, all.0, all.1.0.0, all.1.1)

-- ---- a line is taken

taken_by : (since since_after : SinceStart) (quiet inside put_off : Bool) (vote : VoterState) (m : ToVoter) (rows : ℕ → Option Row) (voter : ℕ) (before after out out_after : List ℕ) (written : ℕ)
    → IsVoter before vote
    → (put_off ≡ true → (after ≡ before) × (since_after ≡ since))
    → (put_off ≡ false → (x : Outcome) × (outcome_at (place_of vote since quiet) m ≡ Some x) × Writes (lines_heard rows x) out out_after written × IsVoter after x.state
    × (since_after ≡ noted (is_closed quiet since vote) inside since x.state m.client m.body))
    → AreOf after since_after (hears_by put_off (place_of vote since quiet) m inside)
    × (put_off ≡ false → Tells rows (hears_by put_off (place_of vote since quiet) m inside) (replies_by false (place_of vote since quiet) m) out out_after written)
taken_by since since_after quiet inside true vote m rows voter before after out out_after written is left taken =
    ((subst (λ bytes. IsVoter bytes vote) (sym (left refl).0) is, (left refl).1), λ never. absurd (false≢true (sym never)))
taken_by since since_after quiet inside false vote m rows voter before after out out_after written is left taken =
    let all = taken refl in
    let f : VoterState → SinceStart = λ v. noted (is_closed quiet since vote) inside since v m.client m.body in
    let l : quiet_time.Lock = record { vote = vote; since = since } in
    let e = sym all.1 in (
      subst (λ (o : Option Outcome). AreOf after since_after (record { lock = quiet_time.after l f o; is_quiet = quiet })) e (all.3, all.4),
      λ now. subst (λ (o : Option Outcome). Tells rows (record { lock = quiet_time.after l f o; is_quiet = quiet }) (said_by o) out out_after written) e all.2,
    )

pub taken : (table before : List ℕ) (since : SinceStart) (quiet inside : Bool) (session epoch : ℕ) (line after : List ℕ) (since_after : SinceStart) (out out_after : List ℕ) (written : ℕ) (shown_before shown : LockShown) (result : ℤ)
    (vote : VoterState) (m : ToVoter) (rows : ℕ → Option Row) (row : Row) (voter : ℕ)
    → LockTakes table before since quiet inside session epoch line after since_after out out_after written shown_before shown result
    → IsVoter before vote → IsToVoter line vote.id m → AreRows table rows → rows m.client ≡ Some row → may_say row session epoch m.body ≡ true
    → result ≡ done
    → AreOf after since_after (place_after (place_of vote since quiet) (Meets voter m inside))
    × (is_put_off (place_of vote since quiet) m inside ≡ false
    → Tells rows (place_after (place_of vote since quiet) (Meets voter m inside)) (replies_by false (place_of vote since quiet) m) out out_after written)
taken table before since quiet inside session epoch line after since_after out out_after written shown_before shown result vote m rows row voter takes is reads are has says now =
    taken_by since since_after quiet inside (puts_off (is_closed quiet since vote) inside m.body) vote m rows voter before after out out_after written is
    (λ off. let left = takes.put_off vote m rows row is reads are has says off in (left.1, left.2))
    (λ on. gone_on (quiet_step (quiet && is_old since vote.held) vote m) vote rows m.client (λ w. since_after ≡ noted (is_closed quiet since vote) inside since w m.client m.body) after out out_after written shown result
    (takes.takes vote m rows row is reads are has says on) now)

-- ---- a grant is let go

evicted_by : (vote : VoterState) (since : SinceStart) (quiet : Bool) (rows : ℕ → Option Row) (after out out_after : List ℕ) (written : ℕ) (o : Option Outcome)
    → (x : Outcome) × (o ≡ Some x) × Writes (lines_heard rows x) out out_after written × IsVoter after x.state × Unit {0}
    → AreOf after since (record { lock = quiet_time.after (record { vote = vote; since = since }) (λ v. since) o; is_quiet = quiet })
    × Tells rows (record { lock = quiet_time.after (record { vote = vote; since = since }) (λ v. since) o; is_quiet = quiet }) (said_by o) out out_after written
evicted_by vote since quiet rows after out out_after written None all = absurd (none-some all.0 all.1)
evicted_by vote since quiet rows after out out_after written (Some y) all =
    let one = sym (same_Some y all.0 all.1) in (
      (subst (λ (x : Outcome). IsVoter after x.state) one all.3, refl),
      subst (λ (x : Outcome). Writes (lines_heard rows x) out out_after written) one all.2,
    )

pub let_go : (table before : List ℕ) (grant client : ℕ) (after out out_after : List ℕ) (written : ℕ) (shown : LockShown) (result : ℤ)
    (vote : VoterState) (since : SinceStart) (quiet : Bool) (rows : ℕ → Option Row) (voter : ℕ)
    → LockLetsGo table before grant client after out out_after written shown result
    → IsVoter before vote → AreRows table rows → result ≡ done
    → AreOf after since (place_after (place_of vote since quiet) (Evicts voter grant))
    × Tells rows (place_after (place_of vote since quiet) (Evicts voter grant)) (said_in (λ other. place_of vote since quiet) (Evicts voter grant)) out out_after written
let_go table before grant client after out out_after written shown result vote since quiet rows voter lets is are now =
    evicted_by vote since quiet rows after out out_after written (evict vote grant)
    (gone_on (evict vote grant) vote rows client (λ w. Unit {0}) after out out_after written shown result (lets.lets_go vote rows is are) now)

-- ---- the quiet time ends

end_is : (vote : VoterState) (since : SinceStart) (g : Grant) → vote.held ≡ Some g → is_old since vote.held ≡ true → end_of since vote vote.held ≡ evict vote g.grant
end_is vote since g has old =
    let old : is_old since (Some g) ≡ true = ap (is_old since) (sym has) ∙ old in
    ap (end_of since vote) has ∙ ap (λ (b : Bool). if b then evict vote g.grant else Some (no_reply vote)) old

end_stays : (vote : VoterState) (since : SinceStart) (held : Option Grant) → is_old since held ≡ false → end_of since vote held ≡ Some (no_reply vote)
end_stays vote since None new = refl
end_stays vote since (Some g) new = rw new refl

pub ended : (table before : List ℕ) (since : SinceStart) (client : ℕ) (after out out_after : List ℕ) (written : ℕ) (shown : LockShown) (result : ℤ)
    (vote : VoterState) (g : Grant) (rows : ℕ → Option Row) (voter : ℕ)
    → LockEndsQuiet table before since client after out out_after written shown result
    → IsVoter before vote → AreRows table rows → result ≡ done → vote.held ≡ Some g → is_doubtful (place_of vote since true) ≡ true
    → AreOf after since (place_after (place_of vote since true) (Evicts voter g.grant))
    × Tells rows (place_after (place_of vote since true) (Evicts voter g.grant)) (said_in (λ other. place_of vote since true) (Evicts voter g.grant)) out out_after written
ended table before since client after out out_after written shown result vote g rows voter ends is are now has old =
    evicted_by vote since true rows after out out_after written (evict vote g.grant)
    (subst (λ (o : Option Outcome). (x : Outcome) × (o ≡ Some x) × Writes (lines_heard rows x) out out_after written × IsVoter after x.state × Unit {0}) (end_is vote since g has old)
    (gone_on (end_of since vote vote.held) vote rows client (λ w. Unit {0}) after out out_after written shown result (ends.ends vote rows is are) now))

pub not_ended : (table before : List ℕ) (since : SinceStart) (client : ℕ) (after out out_after : List ℕ) (written : ℕ) (shown : LockShown) (result : ℤ)
    (vote : VoterState) (rows : ℕ → Option Row)
    → LockEndsQuiet table before since client after out out_after written shown result
    → IsVoter before vote → AreRows table rows → result ≡ done → is_doubtful (place_of vote since true) ≡ false
    → AreOf after since (place_of vote since true)
not_ended table before since client after out out_after written shown result vote rows ends is are now new =
    let all = gone_on (end_of since vote vote.held) vote rows client (λ w. Unit {0}) after out out_after written shown result (ends.ends vote rows is are) now in
    let one : all.0 ≡ no_reply vote = same_Some all.0 (no_reply vote) (sym all.1 ∙ end_stays vote since vote.held new) in
    (subst (λ (x : Outcome). IsVoter after x.state) one all.3, refl)

-- the grant after that is new, if the one before was old
new_grant : (vote : VoterState) (since : SinceStart) (g : Grant) (o : Outcome) (held : Option Grant) → IsSoundSince vote since → vote.held ≡ Some g → evict vote g.grant ≡ Some o → o.state.held ≡ held
    → is_old since held ≡ false
new_grant vote since g o None s has e is = refl
new_grant vote since g o (Some h) s has e is =
    elim ((rises-evict vote.granted 0 (asks.Release 0) vote vote.held g.grant o (omega arith) e).given h is) [
      | inl before ↦
          let same : g ≡ h = same_Some g h (sym has ∙ before) in
          let steps : step vote (release_of vote g) ≡ Some o = sym (evict-current vote g g.grant has refl) ∙ e in
          absurd (ended-step vote (release_of vote g) o g g.stamp s.sound has refl refl (omega arith) steps h.stamp (inl (h, is, ap (λ (x : Grant). x.client) (sym same), refl)))
      | inr new ↦ above since h (let begun = s.begun in omega (arith, new, begun))
    ]

ends_new : (vote : VoterState) (since : SinceStart) (o : Outcome) (held : Option Grant) → IsSoundSince vote since → vote.held ≡ held → end_of since vote held ≡ Some o → is_old since o.state.held ≡ false
ends_new vote since o None s has e = ap (λ (x : Outcome). is_old since x.state.held) (sym (same_Some (no_reply vote) o e)) ∙ ap (is_old since) has
ends_new vote since o (Some g) s has e = elim (is_old since (Some g)) as (λ b. is_old since (Some g) ≡ b → (if b then evict vote g.grant else Some (no_reply vote)) ≡ Some o → is_old since o.state.held ≡ false) [
  | true ↦ λ old now. new_grant vote since g o o.state.held s has now refl
  | false ↦ λ new now. ap (λ (x : Outcome). is_old since x.state.held) (sym (same_Some (no_reply vote) o now)) ∙ ap (is_old since) has ∙ new
] refl e

pub not_doubtful : (vote : VoterState) (since : SinceStart) (o : Outcome) → IsSoundSince vote since → end_of since vote vote.held ≡ Some o → is_doubtful (place_of o.state since true) ≡ false
not_doubtful vote since o s e = ends_new vote since o vote.held s refl e

-- ---- a reminder

pub reminded : (table state out out_after : List ℕ) (written : ℕ) (result : ℤ) (vote : VoterState) (since : SinceStart) (quiet : Bool) (rows : ℕ → Option Row) (voter : ℕ)
    → LockReminds table state out out_after written result
    → IsVoter state vote → AreRows table rows → result ≡ done → is_doubtful (place_of vote since quiet) ≡ false
    → Tells rows (place_of vote since quiet) (said_in (λ other. place_of vote since quiet) (Reminds voter)) out out_after written
reminded table state out out_after written result vote since quiet rows voter reminds is are now new =
    rw new (sent (lines_to_clients (heard (row_or_none rows) vote.held (remind vote))) out out_after written result (Unit {0}) (reminds.reminds vote rows is are) now).0

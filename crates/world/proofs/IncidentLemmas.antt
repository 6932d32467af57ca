-- what the condition of an incident says, and what comes of one
use Rattle.std.proofs.Common.{◌≡◌, ℕ, ◌<◌, ◌≤◌, true, length, refl, sym, subst, arith}
use Rattle.std.specs.Prelude.{◌&&◌, nat_le, nat_lt}
use Rattle.std.specs.FinMap as fin
use Rattle.std.specs.Ordering.{nat_cmp}
use Rattle.std.proofs.lemmas.Bool.{and_parts, false≢true, ltb-true}
use Rattle.std.proofs.lemmas.Bool.Decides.{nat_tests}
use Rattle.std.proofs.lemmas.Option.{none-some}
use Rattle.message.specs.declared.message.VoterBody.{VoterBody}
use Rattle.message.specs.declared.message.VoterBody.TheVariants as asks
use Rattle.voter.specs.declared.state.VoterState.{VoterState}
use Rattle.voter.specs.Steps as voter
use Rattle.voter.specs.VoterContract.{Brings}
use Rattle.requester.specs.declared.state.ClientState.{ClientState}
use Rattle.requester.specs.declared.state.Phase.TheVariants.{Idle}
use Rattle.requester.specs.Soundness as sound
use Rattle.requester.proofs.SoundSteps.{IsSound-clear_votes}
use Rattle.world_state.specs.Steps.{client_at, voter_at}
use Rattle.world.specs.Incidents.{anew, is_above, is_limit, is_request_within, reborn}
use Rattle.world.specs.Ranges.{IsWithin}
use Rattle.world.specs.Restarts.{Saved}
use Rattle.world.specs.Rules.{ClientLaws}
use Rattle.world.proofs.Claims.{Bounds}
use Rattle.world.proofs.Reached.{RunPremises}

-- a REQUEST has a stamp from 1 to the limit
abbrev pub AsksInRange : ℕ → VoterBody → Type 0
AsksInRange limit (asks.Request s) = IsWithin limit s
AsksInRange limit (asks.Relinquish g) = Unit {0}
AsksInRange limit (asks.Release s) = Unit {0}

-- the condition on a message that is made up
pub asks_by : (b : Bounds) (limit : ℕ) (body : VoterBody) → limit ≤ b.limit → is_request_within limit body ≡ true → AsksInRange b.limit body
asks_by b limit (asks.Request t) below e =
    let parts = and_parts (nat_le 1 t) (nat_le t limit) e in
    let low : 1 ≤ t = (let h = parts.0 in grind (arith, nat_tests)) in
    let high : t ≤ limit = (let h = parts.1 in grind (arith, nat_tests)) in
    (low, omega arith)
asks_by b limit (asks.Relinquish g) below e = tt
asks_by b limit (asks.Release t) below e = tt

-- a REQUEST in range, of a client of the world
pub brought : (b : Bounds) (c : ℕ) (body : VoterBody) → c < b.clients → AsksInRange b.limit body → (d s : ℕ) → Brings c body d s → (d < b.clients) × IsWithin b.limit s
brought b c (asks.Request t) within range d s brings = (subst (λ n. n < b.clients) (sym brings.0) within, subst (λ n. IsWithin b.limit n) (sym brings.1) range)
brought b c (asks.Relinquish g) within range d s brings = absurd brings
brought b c (asks.Release t) within range d s brings = absurd brings

-- a voter that is reborn
pub reborn_sound : (y : VoterState) (above : ℕ) → voter.IsSound y → above ≤ y.limit → voter.IsSound (reborn y above)
reborn_sound y above was most = record {
  limit = was.limit;
  granted = most;
  numbered = λ g held. absurd (none-some g held);
  apart = λ g held. fin.get-empty nat_cmp g.client;
  free = λ held c. fin.get-empty nat_cmp c;
}

-- a voter with these counts: how many grants it gave, and may give
abbrev pub counted : VoterState → ℕ → ℕ → VoterState
counted y granted limit = record y { granted = granted; limit = limit }

-- a client that starts anew
pub anew_by : ClientLaws → (x : ClientState) (clock : ℕ) → sound.IsSound x → clock ≤ x.limit → sound.IsSound (anew x clock)
anew_by laws x clock was most = IsSound-clear_votes (anew x clock) Idle refl was.id was.some was.limit
    (laws.first x.id x.limit was.id was.some was.limit).places.last most (omega arith) tt (λ busy. absurd (false≢true (sym busy)))

pub anew_sound : (b : Bounds) → RunPremises b → (x : ClientState) (clock : ℕ) → sound.IsSound x → clock ≤ x.limit → sound.IsSound (anew x clock)
anew_sound b given = anew_by given.client

-- what the condition on a limit says
pub record MayHave (b : Bounds) (s : Saved) (v limit : ℕ) : Type 0 where
  pub within : v < length s.live.voters
  pub least : (voter_at s.live.voters v).granted ≤ limit
  pub most : limit ≤ b.limit

pub may_have : (b : Bounds) (s : Saved) → length s.live.clients ≡ b.clients → (0 < b.clients → (client_at s.live.clients 0).limit ≡ b.limit) → (v limit : ℕ)
    → (nat_lt v (length s.live.voters) && is_limit s v limit) ≡ true → MayHave b s v limit
may_have b s size highest v limit is =
    let y = voter_at s.live.voters v in
    let x = client_at s.live.clients 0 in
    let parts = and_parts (nat_lt v (length s.live.voters)) (is_limit s v limit) is in
    let rest = and_parts (nat_lt 0 (length s.live.clients)) (nat_le y.granted limit && nat_le limit x.limit) parts.1 in
    let ends = and_parts (nat_le y.granted limit) (nat_le limit x.limit) rest.1 in
    let some : 0 < length s.live.clients = ltb-true _ _ rest.0 in
    let same = highest (subst (λ n. 0 < n) size some) in
    let up : limit ≤ x.limit = (let h = ends.1 in grind (arith, nat_tests)) in
    record {
      within = ltb-true _ _ parts.0;
      least = (let h = ends.0 in grind (arith, nat_tests));
      most = omega arith;
    }

-- what the condition on a count of grants says
pub record MayCount (s : Saved) (v above : ℕ) : Type 0 where
  pub within : v < length s.live.voters
  pub least : (voter_at s.live.voters v).granted ≤ above
  pub most : above ≤ (voter_at s.live.voters v).limit

pub may_count : (s : Saved) (v above : ℕ) → (nat_lt v (length s.live.voters) && is_above (voter_at s.live.voters v) above) ≡ true → MayCount s v above
may_count s v above is =
    let y = voter_at s.live.voters v in
    let parts = and_parts (nat_lt v (length s.live.voters)) (is_above y above) is in
    let ends = and_parts (nat_le y.granted above) (nat_le above y.limit) parts.1 in
    record {
      within = ltb-true _ _ parts.0;
      least = (let h = ends.0 in grind (arith, nat_tests));
      most = (let h = ends.1 in grind (arith, nat_tests));
    }

-- what holds in each world of a place, its keepers and its processes
use Rattle.std.proofs.Common.{◌≡◌, ℕ, ◌<◌, ◌≤◌, Bool, true, false, List, [], ◌∷◌, ◌++◌, refl, sym, subst, ◌⊎◌, inl, inr, arith, Option, Some, None, rules}
use Rattle.std.specs.Prelude.{◌==◌, if◌then◌else◌, Contains}
use Rattle.std.proofs.lemmas.Bool.{eqb-true}
use Rattle.std.proofs.lemmas.List.Elements.{Contains-push_cases}
use Rattle.starts.specs.declared.peer.Peer.{Peer}
use Rattle.starts.specs.declared.start.Start.{Start}
use Rattle.starts.specs.Starts.{has_voter}
use Rattle.starts.specs.Worlds.{Given, Keeps, Knows, Met, Reply, World, answers, keeps, shown}
use Rattle.starts.proofs.PeerLemmas.{Before, IsKnown, IsReached, Moves, never_both}
use Rattle.starts.proofs.Sets.{not_here, set_both, set_by}

-- ---- replies

abbrev pub voter_of : Reply → ℕ
voter_of (Knows voter process ceiling) = voter
voter_of (Keeps voter process ceiling known) = voter

abbrev pub process_of : Reply → ℕ
process_of (Knows voter process ceiling) = process
process_of (Keeps voter process ceiling known) = process

-- the ceiling that the voter keeps by it
abbrev pub kept_by : Reply → ℕ
kept_by (Knows voter process ceiling) = 0
kept_by (Keeps voter process ceiling known) = ceiling

-- the ceiling that it says it knew
abbrev pub shows : Reply → Option ℕ
shows (Knows voter process ceiling) = Some ceiling
shows (Keeps voter process ceiling known) = known

-- it left this voter, or waits there for a save
abbrev pub IsFrom : World → ℕ → Reply → Type 0
IsFrom w v r = ((voter_of r ≡ v) × Contains w.said r) ⊎ Contains (w.outbox v) r

-- ---- what holds

-- a voter that keeps this took the process of a reply, and keeps the ceiling of it
pub record Fits (who : ℕ → Peer) (peer : Peer) (r : Reply) : Type 0 where
  pub reached : IsReached (who (process_of r)) peer
  pub keeps : kept_by r ≤ peer.ceiling

-- Of two replies of one voter: one process is the earlier one, or both are the same. The later one hears of the ceiling that
-- is kept for the earlier one.
pub record Agree (who : ℕ → Peer) (r s : Reply) : Type 0 where
  pub order : (process_of r ≡ process_of s) ⊎ (Before (who (process_of r)) (who (process_of s)) ⊎ Before (who (process_of s)) (who (process_of r)))
  pub shown : (k : ℕ) → shows s ≡ Some k → Before (who (process_of r)) (who (process_of s)) → kept_by r ≤ k

-- Whom a voter met last: it took that one, and remembers a ceiling at least as great as those that it keeps for earlier ones.
pub record Remembers (who : ℕ → Peer) (From : Reply → Type 0) (peer : Peer) (m : Met) : Type 0 where
  pub reached : IsReached (who m.process) peer
  pub most : (r : Reply) → From r → Before (who (process_of r)) (who m.process) → kept_by r ≤ m.known

-- a voter counts for a process: by a reply that left, whose ceiling the process knows
pub record IsCount (said : List Reply) (v q : ℕ) (t : Start) : Type 0 where
  pub reply : Reply
  pub left : Contains said reply
  pub voter : voter_of reply ≡ v
  pub process : process_of reply ≡ q
  pub ceiling : ℕ
  pub shows : shows reply ≡ Some ceiling
  pub known : ceiling ≤ t.known
  pub floor : t.serves ≡ true → ceiling ≤ t.floor

-- a grant was given by a process that serves, above its floor
pub record IsGiven (t : Start) (g : Given) : Type 0 where
  pub serves : t.serves ≡ true
  pub above : t.floor < g.number
  pub below : g.number ≤ g.ceiling

pub record Holds (who : ℕ → Peer) (w : World) : Type 0 where
  pub live_known : (v : ℕ) → IsKnown who (w.peers v)
  pub safe_known : (v : ℕ) → IsKnown who (w.saved v)
  pub live : (v : ℕ) (r : Reply) → IsFrom w v r → Fits who (w.peers v) r
  pub safe : (r : Reply) → Contains w.said r → Fits who (w.saved (voter_of r)) r
  pub voters : (v : ℕ) (r : Reply) → Contains (w.outbox v) r → voter_of r ≡ v
  pub agree : (v : ℕ) (r s : Reply) → IsFrom w v r → IsFrom w v s → Agree who r s
  pub met : (v : ℕ) (m : Met) → w.met v ≡ Some m → Remembers who (λ r. IsFrom w v r) (w.peers v) m
  pub counts : (v q : ℕ) → has_voter (w.starts q).counted v ≡ true → IsCount w.said v q (w.starts q)
  pub given : (g : Given) → Contains w.given g → IsGiven (w.starts g.process) g

-- ---- lists

pub none_in : {X : Type 0} (x : X) → Contains [] x → ⊥
none_in x is = let past = is.1 in omega arith

pub some_is : {X : Type 0} (x y : X) → Some x ≡ Some y → x ≡ y
some_is x y is = search rules

pub none_some : {X : Type 0} (x : X) → None ≡ Some x → ⊥
none_some x is = search rules

-- ---- a voter keeps something else

fits_on : (who : ℕ → Peer) (peer next : Peer) (r : Reply) → Moves who peer next → IsKnown who peer → Fits who peer r → Fits who next r
fits_on who peer next r moves known fits = record {
  reached = moves.reached (process_of r) known fits.reached;
  keeps = (let least = fits.keeps in let more = moves.keeps in omega arith);
}

pub keeps_on : (who : ℕ → Peer) (w : World) (voter : ℕ) (next : Peer) → Moves who (w.peers voter) next → Holds who w → Holds who (keeps w voter next)
keeps_on who w voter next moves h = record {
  live_known = λ v. set_by (λ u x. IsKnown who x) w.peers voter next v (moves.known (h.live_known voter)) (λ other. h.live_known v);
  safe_known = h.safe_known;
  live = λ v. set_by (λ u x. (r : Reply) → IsFrom w u r → Fits who x r) w.peers voter next v
      (λ r from. fits_on who (w.peers voter) next r moves (h.live_known voter) (h.live voter r from)) (λ other. h.live v);
  safe = h.safe;
  voters = h.voters;
  agree = h.agree;
  met = λ v. set_by (λ u x. (m : Met) → w.met u ≡ Some m → Remembers who (λ r. IsFrom w u r) x m) w.peers voter next v
      (λ m is. (let was = h.met voter m is in record { reached = moves.reached m.process (h.live_known voter) was.reached; most = was.most })) (λ other. h.met v);
  counts = h.counts;
  given = h.given;
}

-- ---- a voter answers

-- what a new reply of a voter has to be, if that keeps this from now on
pub record IsReply (who : ℕ → Peer) (w : World) (voter : ℕ) (next : Peer) (met : Option Met) (reply : Reply) : Type 0 where
  pub of_voter : voter_of reply ≡ voter
  pub fits : Fits who next reply
  pub later : (r : Reply) → IsFrom w voter r → Agree who r reply
  pub earlier : (r : Reply) → IsFrom w voter r → Agree who reply r
  pub itself : Agree who reply reply
  pub remembers : (m : Met) → met ≡ Some m → Remembers who (λ r. IsFrom w voter r) next m
  pub remembers_it : (m : Met) → met ≡ Some m → Before (who (process_of reply)) (who m.process) → kept_by reply ≤ m.known

-- a reply of the world after an answer
from_before : (w : World) (voter : ℕ) (next : Peer) (met : Option Met) (reply : Reply) (v : ℕ) (r : Reply) → IsFrom (answers w voter next met reply) v r
    → IsFrom w v r ⊎ ((v ≡ voter) × (reply ≡ r))
from_before w voter next met reply v r from = elim from [
  | inl left ↦ inl (inl left)
  | inr waits ↦ elim (set_by (λ u (xs : List Reply). Contains xs r → Contains (w.outbox u) r ⊎ ((u ≡ voter) × (reply ≡ r))) w.outbox voter (w.outbox voter ++ reply ∷ []) v
      (λ among. elim (Contains-push_cases (w.outbox voter) reply r among) [
        | inl was ↦ inl was
        | inr it ↦ inr (refl, it)
      ]) (λ other among. inl among) waits) [
        | inl was ↦ inl (inr was)
        | inr it ↦ inr it
      ]
]

pub answers_on : (who : ℕ → Peer) (w : World) (voter : ℕ) (next : Peer) (met : Option Met) (reply : Reply) → Moves who (w.peers voter) next
    → IsReply who w voter next met reply → Holds who w → Holds who (answers w voter next met reply)
answers_on who w voter next met reply moves is h =
    let x = answers w voter next met reply in
    let before : (v : ℕ) (r : Reply) → IsFrom x v r → IsFrom w v r ⊎ ((v ≡ voter) × (reply ≡ r)) = from_before w voter next met reply in
    let k = keeps_on who w voter next moves h in
    record {
      live_known = k.live_known;
      safe_known = h.safe_known;
      live = λ v. set_by (λ u y. (r : Reply) → IsFrom x u r → Fits who y r) w.peers voter next v
          (λ r from. elim (before voter r from) [
            | inl was ↦ fits_on who (w.peers voter) next r moves (h.live_known voter) (h.live voter r was)
            | inr it ↦ subst (λ (s : Reply). Fits who next s) it.1 is.fits
          ]) (λ other r from. elim (before v r from) [
            | inl was ↦ h.live v r was
            | inr it ↦ absurd (not_here voter v other it.0)
          ]);
      safe = h.safe;
      voters = λ v. set_by (λ u (xs : List Reply). (r : Reply) → Contains xs r → voter_of r ≡ u) w.outbox voter (w.outbox voter ++ reply ∷ []) v
          (λ r among. elim (Contains-push_cases (w.outbox voter) reply r among) [
            | inl was ↦ h.voters voter r was
            | inr it ↦ subst (λ (s : Reply). voter_of s ≡ voter) it is.of_voter
          ]) (λ other. h.voters v);
      agree = λ v r s from to. elim (before v r from) [
        | inl was ↦ elim (before v s to) [
          | inl also ↦ h.agree v r s was also
          | inr it ↦ subst (λ (t : Reply). Agree who r t) it.1 (is.later r (subst (λ (u : ℕ). IsFrom w u r) it.0 was))
        ]
        | inr that ↦ elim (before v s to) [
          | inl also ↦ subst (λ (t : Reply). Agree who t s) that.1 (is.earlier s (subst (λ (u : ℕ). IsFrom w u s) that.0 also))
          | inr it ↦ subst (λ (t : Reply). Agree who t s) that.1 (subst (λ (t : Reply). Agree who reply t) it.1 is.itself)
        ]
      ];
      met = λ v. set_both (λ u y (o : Option Met). (m : Met) → o ≡ Some m → Remembers who (λ r. IsFrom x u r) y m) w.peers w.met voter next met v
          (λ m at. (let was = is.remembers m at in record {
            reached = was.reached;
            most = λ r from earlier. elim (before voter r from) [
              | inl old ↦ was.most r old earlier
              | inr it ↦ subst (λ (t : Reply). Before (who (process_of t)) (who m.process) → kept_by t ≤ m.known) it.1 (is.remembers_it m at) earlier
            ];
          })) (λ other m at. (let was = h.met v m at in record {
            reached = was.reached;
            most = λ r from earlier. elim (before v r from) [
              | inl old ↦ was.most r old earlier
              | inr it ↦ absurd (not_here voter v other it.0)
            ];
          }));
      counts = h.counts;
      given = h.given;
    }

pub never_itself : (p : Peer) → Before p p → ⊥
never_itself p before = never_both p p before before

-- one is the earlier process, seen from the other one
pub turned : (who : ℕ → Peer) (p q : ℕ) → (p ≡ q) ⊎ Before (who p) (who q) → (q ≡ p) ⊎ (Before (who q) (who p) ⊎ Before (who p) (who q))
turned who p q (inl is) = inl (sym is)
turned who p q (inr before) = inr (inr before)

pub straight : (who : ℕ → Peer) (p q : ℕ) → (p ≡ q) ⊎ Before (who p) (who q) → (p ≡ q) ⊎ (Before (who p) (who q) ⊎ Before (who q) (who p))
straight who p q (inl is) = inl is
straight who p q (inr before) = inr (inl before)

pub not_earlier : (who : ℕ → Peer) (p q : ℕ) → (p ≡ q) ⊎ Before (who p) (who q) → Before (who q) (who p) → ⊥
not_earlier who p q (inl is) before = never_itself (who p) (subst (λ (r : ℕ). Before (who r) (who p)) (sym is) before)
not_earlier who p q (inr later) before = never_both (who p) (who q) later before

-- a voter that takes a process knows of each earlier one whose ceiling it keeps
pub shows_most : (who : ℕ → Peer) (w : World) (voter q : ℕ) (o : Option Met) → w.met voter ≡ o → Holds who w → (r : Reply) → IsFrom w voter r
    → Before (who (process_of r)) (who q) → kept_by r ≤ shown o q (w.peers voter).ceiling
shows_most who w voter q None is h r from before = (h.live voter r from).keeps
shows_most who w voter q (Some m) is h r from before = shown_by (m.process == q) refl
  where
    shown_by : (b : Bool) → (m.process == q) ≡ b → kept_by r ≤ (if b then m.known else (w.peers voter).ceiling)
    shown_by true at = (h.met voter m is).most r from (subst (λ (p : ℕ). Before (who (process_of r)) (who p)) (sym (eqb-true m.process q at)) before)
    shown_by false at = (h.live voter r from).keeps

-- the laws, from what holds in every world
use Rattle.std.proofs.Common.{◌≡◌, ◌≢◌, ℕ, ◌<◌, ◌≤◌, Bool, true, false, List, refl, sym, subst, ◌∙◌, inl, inr, arith, Result, Ok, Err}
use Rattle.std.specs.Prelude.{Contains}
use Rattle.starts.specs.declared.fault.StartFault.{StartFault}
use Rattle.starts.specs.declared.peer.Peer.{Peer}
use Rattle.starts.specs.Peers.{is_later, meets}
use Rattle.starts.specs.Worlds.{AreProcesses, Event, Given, IsCounted, IsRefused, IsTakenBy, Keeps, Knows, Reply, SaysItKeeps, World, says, world_after}
use Rattle.starts.proofs.EveryWorld.{every_world}
use Rattle.starts.proofs.Keepers.{Holds, IsFrom, process_of, voter_of}
use Rattle.starts.proofs.PeerLemmas.{Before, IsKnown, IsReached, before, later_or_same, not_before, takes}

-- a reply that the voter said, as one that is from it
said_from : (w : World) (v : ℕ) (r : Reply) → voter_of r ≡ v → Contains w.said r → IsFrom w v r
said_from w v r of_voter left = inl (of_voter, left)

floor_in : (who : ℕ → Peer) (w : World) (v p q ceiling : ℕ) → Holds who w → Before (who p) (who q) → SaysItKeeps w v p ceiling → IsCounted w v q
    → (w.starts q).serves ≡ true → ceiling ≤ (w.starts q).floor
floor_in who w v p q ceiling h before keeps counted serves =
    let c = h.counts v q counted in
    let agree = h.agree v (Keeps v p ceiling keeps.0) c.reply (inl (refl, keeps.1)) (inl (c.voter, c.left)) in
    let most : ceiling ≤ c.ceiling = agree.shown c.ceiling c.shows (subst (λ (o : ℕ). Before (who p) (who o)) (sym c.process) before) in
    let low = c.floor serves in
    omega arith

pub floors : (who : ℕ → Peer) (ceilings blocks : ℕ → ℕ) (events : List Event) (v p q ceiling : ℕ) → AreProcesses who → is_later (who p) (who q) ≡ true
    → SaysItKeeps (world_after who ceilings blocks events) v p ceiling → IsCounted (world_after who ceilings blocks events) v q
    → ((world_after who ceilings blocks events).starts q).serves ≡ true → ceiling ≤ ((world_after who ceilings blocks events).starts q).floor
floors who ceilings blocks events v p q ceiling are later keeps counted serves =
    floor_in who (world_after who ceilings blocks events) v p q ceiling (every_world who ceilings blocks events are) (before (who p) (who q) later) keeps counted serves

above_in : (who : ℕ → Peer) (w : World) (v : ℕ) (g h : Given) → Holds who w → Contains w.given g → Contains w.given h → Before (who g.process) (who h.process)
    → SaysItKeeps w v g.process g.ceiling → IsCounted w v h.process → g.number < h.number
above_in who w v g h holds g_given h_given before keeps counted =
    let first = holds.given g g_given in
    let second = holds.given h h_given in
    let floor = floor_in who w v g.process h.process g.ceiling holds before keeps counted second.serves in
    let below = first.below in
    let above = second.above in
    omega arith

pub grants_above : (who : ℕ → Peer) (ceilings blocks : ℕ → ℕ) (events : List Event) (v : ℕ) (g h : Given) → AreProcesses who
    → Contains (world_after who ceilings blocks events).given g → Contains (world_after who ceilings blocks events).given h
    → is_later (who g.process) (who h.process) ≡ true → SaysItKeeps (world_after who ceilings blocks events) v g.process g.ceiling
    → IsCounted (world_after who ceilings blocks events) v h.process → g.number < h.number
grants_above who ceilings blocks events v g h are g_given h_given later keeps counted =
    above_in who (world_after who ceilings blocks events) v g h (every_world who ceilings blocks events are) g_given h_given (before (who g.process) (who h.process) later) keeps counted

once_in : (who : ℕ → Peer) (w : World) (v : ℕ) (g h : Given) → Holds who w → Contains w.given g → Contains w.given h → g.process ≢ h.process
    → SaysItKeeps w v g.process g.ceiling → SaysItKeeps w v h.process h.ceiling → IsCounted w v g.process → IsCounted w v h.process → g.number ≡ h.number → ⊥
once_in who w v g h holds g_given h_given apart g_keeps h_keeps g_counted h_counted same =
    let agree = holds.agree v (Keeps v g.process g.ceiling g_keeps.0) (Keeps v h.process h.ceiling h_keeps.0) (inl (refl, g_keeps.1)) (inl (refl, h_keeps.1)) in
    elim agree.order [
      | inl is ↦ apart is
      | inr one ↦ elim one [
        | inl earlier ↦ (let less = above_in who w v g h holds g_given h_given earlier g_keeps h_counted in omega arith)
        | inr later ↦ (let less = above_in who w v h g holds h_given g_given later h_keeps g_counted in omega arith)
      ]
    ]

pub given_once : (who : ℕ → Peer) (ceilings blocks : ℕ → ℕ) (events : List Event) (v : ℕ) (g h : Given) → AreProcesses who
    → Contains (world_after who ceilings blocks events).given g → Contains (world_after who ceilings blocks events).given h → g.process ≢ h.process
    → SaysItKeeps (world_after who ceilings blocks events) v g.process g.ceiling → SaysItKeeps (world_after who ceilings blocks events) v h.process h.ceiling
    → IsCounted (world_after who ceilings blocks events) v g.process → IsCounted (world_after who ceilings blocks events) v h.process → g.number ≢ h.number
given_once who ceilings blocks events v g h are g_given h_given apart g_keeps h_keeps g_counted h_counted =
    once_in who (world_after who ceilings blocks events) v g h (every_world who ceilings blocks events are) g_given h_given apart g_keeps h_keeps g_counted h_counted

-- ---- refusals

-- the reply by which a process was taken
record Took (w : World) (v p : ℕ) : Type 0 where
  reply : Reply
  left : Contains w.said reply
  voter : voter_of reply ≡ v
  process : process_of reply ≡ p

took_by : (w : World) (v p : ℕ) → IsTakenBy w v p → Took w v p
took_by w v p is = elim is [
  | inl knows ↦ record { reply = Knows v p knows.0; left = knows.1; voter = refl; process = refl }
  | inr keeps ↦ record { reply = Keeps v p keeps.0 keeps.1.0; left = keeps.1.1; voter = refl; process = refl }
]

refused_by : (who : ℕ → Peer) (p q ceiling : ℕ) (peer : Peer) (r : Result Peer StartFault) → meets peer (says (who q) ceiling 0) ≡ r → AreProcesses who → IsKnown who peer
    → IsReached (who p) peer → p ≢ q → is_later (who p) (who q) ≡ false → (fault : StartFault) × (r ≡ Err fault)
refused_by who p q ceiling peer (Err fault) is are known reached apart later = (fault, refl)
refused_by who p q ceiling peer (Ok next) is are known reached apart later =
    absurd (elim (later_or_same who p q ceiling 0 peer are known reached (takes peer (says (who q) ceiling 0) next is).why) [
      | inl same ↦ apart same
      | inr earlier ↦ not_before (who p) (who q) later earlier
    ])

refused_in : (who : ℕ → Peer) (p q : ℕ) (peer : Peer) → AreProcesses who → IsKnown who peer → IsReached (who p) peer → p ≢ q → is_later (who p) (who q) ≡ false
    → IsRefused peer (who q)
refused_in who p q peer are known reached apart later =
    λ ceiling. refused_by who p q ceiling peer (meets peer (says (who q) ceiling 0)) refl are known reached apart later

pub refuses : (who : ℕ → Peer) (ceilings blocks : ℕ → ℕ) (events : List Event) (v p q : ℕ) → AreProcesses who → IsTakenBy (world_after who ceilings blocks events) v p
    → p ≢ q → is_later (who p) (who q) ≡ false → IsRefused ((world_after who ceilings blocks events).peers v) (who q)
refuses who ceilings blocks events v p q are is apart later =
    let w = world_after who ceilings blocks events in
    let h = every_world who ceilings blocks events are in
    let t = took_by w v p is in
    refused_in who p q (w.peers v) are (h.live_known v)
    (subst (λ (o : ℕ). IsReached (who o) (w.peers v)) t.process (h.live v t.reply (inl (t.voter, t.left))).reached) apart later

pub refuses_saved : (who : ℕ → Peer) (ceilings blocks : ℕ → ℕ) (events : List Event) (v p q : ℕ) → AreProcesses who → IsTakenBy (world_after who ceilings blocks events) v p
    → p ≢ q → is_later (who p) (who q) ≡ false → IsRefused ((world_after who ceilings blocks events).saved v) (who q)
refuses_saved who ceilings blocks events v p q are is apart later =
    let w = world_after who ceilings blocks events in
    let h = every_world who ceilings blocks events are in
    let t = took_by w v p is in
    refused_in who p q (w.saved v) are (h.safe_known v)
    (subst (λ (o : ℕ). IsReached (who o) (w.saved v)) t.process (subst (λ (u : ℕ). IsReached (who (process_of t.reply)) (w.saved u)) t.voter (h.safe t.reply t.left).reached)) apart later

is_later_so : (p q : Peer) (b : Bool) → is_later p q ≡ b → Before p q → b ≡ true
is_later_so p q true is earlier = refl
is_later_so p q false is earlier = absurd (not_before p q is earlier)

pub takes_once : (who : ℕ → Peer) (ceilings blocks : ℕ → ℕ) (events : List Event) (v p q : ℕ) → AreProcesses who → IsTakenBy (world_after who ceilings blocks events) v p
    → IsTakenBy (world_after who ceilings blocks events) v q → p ≢ q → is_later (who p) (who q) ≡ false → is_later (who q) (who p) ≡ true
takes_once who ceilings blocks events v p q are first second apart later =
    let w = world_after who ceilings blocks events in
    let h = every_world who ceilings blocks events are in
    let t = took_by w v p first in
    let u = took_by w v q second in
    elim (h.agree v t.reply u.reply (inl (t.voter, t.left)) (inl (u.voter, u.left))).order [
      | inl is ↦ absurd (apart (sym t.process ∙ is ∙ u.process))
      | inr one ↦ elim one [
        | inl earlier ↦ absurd (not_before (who p) (who q) later (subst (λ (o : ℕ). Before (who p) (who o)) u.process (subst (λ (o : ℕ). Before (who o) (who (process_of u.reply))) t.process earlier)))
        | inr after ↦ is_later_so (who q) (who p) (is_later (who q) (who p)) refl
            (subst (λ (o : ℕ). Before (who q) (who o)) t.process (subst (λ (o : ℕ). Before (who o) (who (process_of t.reply))) u.process after))
      ]
    ]

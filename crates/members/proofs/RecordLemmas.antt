-- Members' draws and passes, and the record of them.
use Rattle.std.specs.Prelude.{IfSome}
use Rattle.std.proofs.Common.{Option, None, Some, ◌≡◌, ℕ, suc, ◌+◌, ◌-◌, ◌*◌, ◌^◌, ◌<◌, ◌≤◌, ◌++◌, List, [], ◌∷◌, length, map, min, sum_by, refl, ap, sym, ◌∙◌, subst, arith}
use Rattle.std.specs.List.{All}
use Rattle.std.specs.List.Sorted.{IsNonDecreasingBy, IsPermutation}
use Rattle.std.proofs.lemmas.List.{flat_map_more, length-map, map-append}
use Rattle.std.proofs.Math.Nat.{zero-mul}
use Rattle.std.proofs.lemmas.List.Concat.{length-flat_map}
use Rattle.std.proofs.lemmas.List.Elements.{All-append, All-map}
use Rattle.std.proofs.lemmas.List.Sums.{sum_by-cons}
use Rattle.std.proofs.lemmas.List.Sorted.{All-permutation, length_permutation}
use native.Mathlib.Nat.{add-mul}
use Rattle.numbers.specs.Sums.{AreAllBelow}
use Rattle.certificate.specs.Certificates.{IsCertificate, Weighted}
use Rattle.dealer.specs.Cycles.{quorum_of_ticket}
use Rattle.dealer.specs.declared.receipt.Receipt.{Receipt}
use Rattle.dealer.specs.Offices.{OfficeName, tickets_of}
use Rattle.quorum_set.specs.declared.bridge.Side.{Side}
use Rattle.quorum_set.specs.declared.bridge.Side.TheVariants.{First, Second}
use Rattle.board.specs.Quorums.{HasQuorum}
use Rattle.clerks.specs.Clerks.{AreDealt, IsDealtBy, office_in, quorums_in, receipts_of}
use Rattle.members.proofs.ClerkLemmas.{HasQuorum-joint}
use Rattle.run_outcome.specs.declared.record.RunRecord.{RunRecord}
use Rattle.members.specs.Clusters.{ClusterState, IsCluster, names_in}
use Rattle.members.specs.Members.{MemberState}
use Rattle.members.specs.Records.{Draw, Pass, AreDrawsOf, IsDraw, IsRecordOf, all_draws, all_passes, all_receipts, draws_of, passes_of}
use Rattle.members.proofs.CountLemmas.{AreInOrder-from_AreAllBelow_by}

-- the tickets of draws are those of the receipts

tickets_of-draw : (client : ℕ) (rs : List Receipt) → map (λ (d : Draw). d.1) (map (λ (r : Receipt). (client, r.ticket, r.quorum)) rs) ≡ tickets_of rs
tickets_of-draw client [] = refl
tickets_of-draw client (r ∷ rs) = λ i. r.ticket ∷ tickets_of-draw client rs i

pub tickets_of-all_draws : (side : Side) (members : List MemberState) → map (λ (d : Draw). d.1) (all_draws side members) ≡ tickets_of (all_receipts side members)
tickets_of-all_draws side [] = refl
tickets_of-all_draws side (m ∷ ms) =
    let receipts = receipts_of m.clerks side in
    map-append (λ (d : Draw). d.1) (draws_of side m) (all_draws side ms)
    ∙ (λ i. tickets_of-draw m.requester.id receipts i ++ tickets_of-all_draws side ms i)
    ∙ sym (map-append (λ (r : Receipt). r.ticket) receipts (all_receipts side ms))

-- One more member

pub all_passes-more : (before now after : List Pass) (members : List MemberState) (m : MemberState)
    → now ≡ before ++ all_passes members → after ≡ now ++ passes_of m → after ≡ before ++ all_passes (members ++ m ∷ [])
all_passes-more before now after members m so_far added = added ∙ ap (λ l. l ++ passes_of m) so_far ∙ flat_map_more passes_of before members m

pub all_receipts-more : (side : Side) (before now after : List Receipt) (members : List MemberState) (m : MemberState)
    → now ≡ before ++ all_receipts side members → after ≡ now ++ receipts_of m.clerks side → after ≡ before ++ all_receipts side (members ++ m ∷ [])
all_receipts-more side before now after members m so_far added =
    added ∙ ap (λ l. l ++ receipts_of m.clerks side) so_far ∙ flat_map_more (λ (n : MemberState). receipts_of n.clerks side) before members m

pub All-all_passes_more : (P : Pass → Type 0) (members : List MemberState) (m : MemberState) → All P (all_passes members) → All P (passes_of m) → All P (all_passes (members ++ m ∷ []))
All-all_passes_more P members m all one = subst (All P) (flat_map_more passes_of [] members m) (All-append P (all_passes members) (passes_of m) all one)

pub share-more : (start n m quota : ℕ) → m ≡ n + 1 → start + n * quota + quota ≡ start + m * quota
share-more start n m quota one =
    let more : m * quota ≡ n * quota + 1 * quota = ap (λ (k : ℕ). k * quota) one ∙ add-mul n 1 quota in
    omega (arith, more)

-- The draws and the passes of one member

pub All-IsDraw : (c : ClusterState) (side : Side) (m : MemberState) → m.requester.id < c.board.clients → AreDealt (names_in c) side (receipts_of m.clerks side) → All (IsDraw c side) (draws_of side m)
All-IsDraw c side m inside dealt = All-map (IsDraw c side) (λ (r : Receipt). (m.requester.id, r.ticket, r.quorum)) (receipts_of m.clerks side)
    (λ k r lt. record { client = inside; quorum = dealt k r lt })

pub All-passes_of : (clients : ℕ) (m : MemberState) → m.requester.id < clients → All (λ p. p.0 < clients) (passes_of m)
All-passes_of clients m inside = All-map (λ (p : Pass). p.0 < clients) (λ (x : ℕ). (m.requester.id, x)) m.seat.passes (λ k x lt. inside)

-- The record of what members drew and passed

pub AreDrawsOf-from : (c : ClusterState) (side : Side) (members : List MemberState) (draws : List Draw)
    → IsPermutation (all_draws side members) draws → IsNonDecreasingBy (λ d. d.1) draws → All (IsDraw c side) (all_draws side members)
    → AreAllBelow (tickets_of (all_receipts side members)) (length (all_receipts side members))
    → AreDrawsOf c side members draws
AreDrawsOf-from c side members draws same by_ticket each tickets = record {
  same = same;
  tickets = AreInOrder-from_AreAllBelow_by (λ (d : Draw). d.1) (0, 0, 0) (all_draws side members) draws (length (all_receipts side members)) same by_ticket
      (subst (λ ns. AreAllBelow ns (length (all_receipts side members))) (sym named) tickets) many;
  each = All-permutation (IsDraw c side) _ _ same each;
}
  where
    named : map (λ (d : Draw). d.1) (all_draws side members) ≡ tickets_of (all_receipts side members)
    named = tickets_of-all_draws side members

    many : length (all_draws side members) ≡ length (all_receipts side members)
    many = sym (length-map (all_draws side members) (λ (d : Draw). d.1)) ∙ ap length named ∙ length-map (all_receipts side members) (λ (r : Receipt). r.ticket)

pub record_of : (c : ClusterState) (members : List MemberState) (r : RunRecord)
    → AreDrawsOf c First members r.draws.items → AreDrawsOf c Second members r.draws2.items
    → IsPermutation (all_passes members) r.passes.items → IsNonDecreasingBy (λ p. p.1) r.passes.items → All (λ p. p.0 < c.board.clients) (all_passes members)
    → AreAllBelow (map (λ p. p.1) (all_passes members)) r.register → r.register ≡ length (all_passes members)
    → r.lost ≡ min (sum_by (λ m. m.lost) members) (2 ^ 64 - 1)
    → IsRecordOf c members r
record_of c members r first second passes by_number each_pass numbers register lost = record {
  first = first;
  second = second;
  passes = passes;
  numbers = AreInOrder-from_AreAllBelow_by (λ (p : Pass). p.1) (0, 0) (all_passes members) r.passes.items r.register passes by_number numbers (sym register);
  each_pass = All-permutation (λ (p : Pass). p.0 < c.board.clients) _ _ passes each_pass;
  register = register ∙ sym (length_permutation _ _ passes);
  lost = lost;
}

-- How many they are

pub length-draws : (c : ClusterState) (side : Side) (members : List MemberState) (draws : List Draw) → AreDrawsOf c side members draws
    → length draws ≡ sum_by (λ m. length (receipts_of m.clerks side)) members
length-draws c side members draws are =
    length_permutation _ _ are.same ∙ length-flat_map (draws_of side) members
    ∙ (λ i. sum_by (λ (m : MemberState). length-map {B = Draw} (receipts_of m.clerks side) (λ (x : Receipt). (m.requester.id, x.ticket, x.quorum)) i) members)

pub register-sum_by : (c : ClusterState) (members : List MemberState) (r : RunRecord) → IsRecordOf c members r → r.register ≡ sum_by (λ m. length m.seat.passes) members
register-sum_by c members r is =
    is.register ∙ length_permutation _ _ is.passes ∙ length-flat_map passes_of members
    ∙ (λ i. sum_by (λ (m : MemberState). length-map {B = Pass} m.seat.passes (λ (x : ℕ). (m.requester.id, x)) i) members)

pub sum_by-evenly : (n : ℕ) (members : List MemberState) → All (λ m. length m.seat.passes ≡ n) members → sum_by (λ m. length m.seat.passes) members ≡ length members * n
sum_by-evenly n [] all = sym (zero-mul n)
sum_by-evenly n (m ∷ ms) all =
    let first : length m.seat.passes ≡ n = all 0 m (omega arith) in
    let rest = sum_by-evenly n ms (λ k d lt. all (suc k) d (omega arith)) in
    let more : (1 + length ms) * n ≡ 1 * n + length ms * n = add-mul 1 (length ms) n in
    let one : suc (length ms) * n ≡ (1 + length ms) * n = ap (λ (k : ℕ). k * n) (omega arith) in
    omega (arith, first, rest, more, one, sum_by-cons (λ (x : MemberState). length x.seat.passes) m ms)

-- Which numbers they name

abbrev pub AllNameQuorums : Type 0
AllNameQuorums = (w : Weighted) (ticket : ℕ) → IsCertificate w → quorum_of_ticket w ticket < length w.system.quorums

-- the plan of a side's office meets its certificate, if there is one
abbrev pub IsCertified : Option OfficeName → Type 0
IsCertified office = IfSome office (λ o. IsCertificate o.cycle)

dealt_in_range : AllNameQuorums → (office : Option OfficeName) (ticket quorum : ℕ) → IsCertified office → IsDealtBy office ticket quorum → (quorum < length (quorums_in office)) × (quorum ≤ 4095)
dealt_in_range all_name None ticket quorum plan dealt = absurd dealt
dealt_in_range all_name (Some o) ticket quorum plan dealt =
    let named = all_name o.cycle ticket plan in
    (omega (arith, dealt, named), omega (arith, dealt, named, plan.coterie.few_quorums))

pub quorums_in_range : AllNameQuorums → (c : ClusterState) (side : Side) (members : List MemberState) (draws : List Draw) → IsCluster c → IsCertified (office_in (names_in c) side)
    → AreDrawsOf c side members draws
    → All (λ d. HasQuorum c.board.firsts c.board.quorums side d.2) draws
quorums_in_range all_name c side members draws cluster plan are = λ k d lt.
    HasQuorum-joint c cluster side _ (dealt_in_range all_name (office_in (names_in c) side) _ _ plan (are.each k d lt).quorum).0

pub draws_in_range : AllNameQuorums → (c : ClusterState) (side : Side) (members : List MemberState) (draws : List Draw) → IsCluster c → IsCertified (office_in (names_in c) side)
    → AreDrawsOf c side members draws
    → All (λ d. (d.0 ≤ 63) × (d.2 ≤ 4095)) draws
draws_in_range all_name c side members draws cluster plan are = λ k d lt. (
  omega (arith, (are.each k d lt).client, cluster.clients),
  (dealt_in_range all_name (office_in (names_in c) side) _ _ plan (are.each k d lt).quorum).1,
)

pub passes_in_range : (c : ClusterState) (members : List MemberState) (r : RunRecord) → IsCluster c → IsRecordOf c members r → All (λ p. p.0 ≤ 63) r.passes.items
passes_in_range c members r cluster is = λ k p lt. omega (arith, is.each_pass k p lt, cluster.clients)

-- bridges make a succession of plans
use Rattle.std.proofs.Common.{◌≡◌, ℕ, zero, suc, ◌+◌, ◌<◌, List, [], length, refl, sym, ap, subst, ◌∙◌, arith}
use Rattle.std.specs.Prelude.{slice_index_or}
use Rattle.numbers.specs.Sets.{has}
use Rattle.numbers.proofs.Meetings.{meet-common}
use Rattle.numbers.proofs.Members.{All-has}
use Rattle.quorum_set.specs.Coteries.{QuorumSystem}
use Rattle.quorum_set.specs.Meetings.{Meet}
use Rattle.quorum_set.proofs.Meetings.{AllMeet-coterie}
use Rattle.generations.specs.Plans.{AreBridged, HaveCommon, IsSuccession, quorums_of}

-- quorums that are given by their places
placed : (count : ℕ) (firsts seconds : List (List ℕ)) → ((j k : ℕ) → j < length firsts → k < length seconds → Meet count (slice_index_or firsts j []) (slice_index_or seconds k [])) → HaveCommon count firsts seconds
placed count firsts seconds meet q r in_q in_r =
    let m = meet in_q.0 in_r.0 in_q.1 in_r.1 in
    (m.0, m.1, ap (λ (s : List ℕ). has s m.0) in_q.2 ∙ m.2, ap (λ (s : List ℕ). has s m.0) in_r.2 ∙ m.3)

-- all have as many voters as the first one
same_voters : (coteries : ℕ → QuorumSystem) → AreBridged coteries → (n : ℕ) → (coteries n).voters ≡ (coteries 0).voters
same_voters coteries bridged zero = refl
same_voters coteries bridged (suc n) =
    let e : n + 1 ≡ suc n = omega arith in
    subst (λ (k : ℕ). (coteries k).voters ≡ (coteries 0).voters) e (sym (bridged n).same_voters ∙ same_voters coteries bridged n)

across : (coteries : ℕ → QuorumSystem) → AreBridged coteries → (n j k : ℕ) → j < length (coteries n).quorums → k < length (coteries (n + 1)).quorums
    → Meet (coteries n).voters (slice_index_or (coteries n).quorums j []) (slice_index_or (coteries (n + 1)).quorums k [])
across coteries bridged n j k few also =
    let b = bridged n in
    let x = meet-common (slice_index_or (coteries n).quorums j []) (slice_index_or (coteries (n + 1)).quorums k []) (b.meets j [] few k [] also) in
    (x.0, All-has (λ (i : ℕ). i < (coteries n).voters) (slice_index_or (coteries n).quorums j []) x.0 x.1 (b.first.in_range j [] few), x.1, x.2)

pub succession_of : (coteries : ℕ → QuorumSystem) → AreBridged coteries → IsSuccession (coteries 0).voters (quorums_of coteries)
succession_of coteries bridged = record {
  few = (bridged 0).first.few_voters;
  one = λ n. subst (λ (c : ℕ). HaveCommon c (coteries n).quorums (coteries n).quorums) (same_voters coteries bridged n)
      (placed (coteries n).voters (coteries n).quorums (coteries n).quorums (AllMeet-coterie (coteries n) (bridged n).first));
  next = λ n. subst (λ (c : ℕ). HaveCommon c (coteries n).quorums (coteries (n + 1)).quorums) (same_voters coteries bridged n)
      (placed (coteries n).voters (coteries n).quorums (coteries (n + 1)).quorums (across coteries bridged n));
}

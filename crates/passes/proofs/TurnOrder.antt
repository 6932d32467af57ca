-- of two passes with turns the newer one has the greater turn
use Rattle.std.proofs.Common.{◌≡◌, ℕ, ◌<◌, ◌≤◌, List, [], ◌∷◌, ◌⊎◌, inl, inr, sym, arith}
use Rattle.std.specs.Prelude.{slice_index}
use Rattle.std.specs.List.{AllByRecursion}
use Rattle.std.proofs.lemmas.Bool.{cases_lt}
use Rattle.world.specs.Rules.{VoterLaws}
use Rattle.passes.specs.Grants.{AreOfOne, Gave, HaveLimits, IsCoterie, IsPass, Pass, Voters}
use Rattle.passes.specs.Guarded.{Entry}
use Rattle.passes.specs.Turns.{AreNewerOrOne, AreOrdered, AreTaken, IsNewerBy, IsTurnOf}
use Rattle.passes.proofs.Guards.{NamesRequests, two_passes}
use Rattle.passes.proofs.Skips.{newer_is_above}

-- a voter of both gave the second one later
turn_less : VoterLaws → (voters : Voters) → HaveLimits voters → (quorums : List (List ℕ)) (p q : Pass) (turn later : ℕ) → IsPass quorums (Gave voters) q → IsTurnOf voters p turn → IsTurnOf voters q later
    → (v : ℕ) → 1 ≤ slice_index p.grants v → 1 ≤ slice_index q.grants v → slice_index p.grants v < slice_index q.grants v → turn < later
turn_less laws voters limits quorums p q turn later is_q first second v has_p has_q newer =
    let above : turn < slice_index q.grants v =
    newer_is_above laws v (voters.limit v) (voters.life v) (slice_index p.grants v) turn q.client q.stamp (slice_index q.grants v) (limits v) (first.skipped v has_p) (is_q.given v has_q) newer in
    let most = second.most v in
    omega arith

newer_by : VoterLaws → (voters : Voters) → HaveLimits voters → (quorums : List (List ℕ)) (p q : Pass) (turn later : ℕ) → IsPass quorums (Gave voters) p → IsPass quorums (Gave voters) q → IsTurnOf voters p turn → IsTurnOf voters q later
    → ((v : ℕ) → 1 ≤ slice_index p.grants v → slice_index p.grants v ≡ slice_index q.grants v → ⊥)
    → (v : ℕ) → 1 ≤ slice_index p.grants v → 1 ≤ slice_index q.grants v → slice_index p.grants v < slice_index q.grants v → IsNewerBy p q turn later
newer_by laws voters limits quorums p q turn later is_p is_q first second apart v has_p has_q newer =
    let rises = turn_less laws voters limits quorums p q turn later is_q first second v has_p has_q newer in
    record {
      rises = rises;
      voter = v;
      first_has = has_p;
      second_has = has_q;
      newer = λ w in_p in_q. elim (cases_lt (slice_index p.grants w) (slice_index q.grants w)) [
        | inl less ↦ less
        | inr least ↦ elim (cases_lt (slice_index q.grants w) (slice_index p.grants w)) [
          | inl older ↦ (let falls = turn_less laws voters limits quorums q p later turn is_p second first w in_q in_p older in absurd (omega arith))
          | inr most ↦ absurd (apart w in_p (omega arith))
        ]
      ];
    }

pub two_turns : VoterLaws → (voters : Voters) → HaveLimits voters → (count : ℕ) (quorums : List (List ℕ)) → IsCoterie count quorums → NamesRequests (Gave voters) → (p q : Pass) (turn later : ℕ)
    → IsPass quorums (Gave voters) p → IsPass quorums (Gave voters) q → IsTurnOf voters p turn → IsTurnOf voters q later → AreOrdered p q turn later
two_turns laws voters limits count quorums coterie names p q turn later is_p is_q first second =
    elim (two_passes count quorums (Gave voters) coterie names p q is_p is_q) [
      | inl one ↦ inl one
      | inr both ↦ elim (cases_lt (slice_index p.grants both.voter) (slice_index q.grants both.voter)) [
        | inl less ↦ inr (inl (newer_by laws voters limits quorums p q turn later is_p is_q first second both.apart both.voter both.first_has both.second_has less))
        | inr least ↦ elim (cases_lt (slice_index q.grants both.voter) (slice_index p.grants both.voter)) [
          | inl less ↦ inr (inr (newer_by laws voters limits quorums q p later turn is_q is_p second first
              (λ v some e. both.apart v (let same = e in omega arith) (sym e)) both.voter both.second_has both.first_has less))
          | inr most ↦ absurd (both.apart both.voter both.first_has (omega arith))
        ]
      ]
    ]

-- ---- a store that compares turns

abbrev HasTurn : List (List ℕ) → Voters → Entry → Type 0
HasTurn quorums voters e = IsPass quorums (Gave voters) e.pass × IsTurnOf voters e.pass e.turn

later_ones : VoterLaws → (voters : Voters) → HaveLimits voters → (count : ℕ) (quorums : List (List ℕ)) → IsCoterie count quorums → NamesRequests (Gave voters) → (e : Entry) (es : List Entry) → HasTurn quorums voters e
    → AllByRecursion (HasTurn quorums voters) es → AllByRecursion (λ f. e.turn ≤ f.turn) es → AllByRecursion (λ f. AreOfOne e.pass f.pass ⊎ IsNewerBy e.pass f.pass e.turn f.turn) es
later_ones laws voters limits count quorums coterie names e [] is all least = tt
later_ones laws voters limits count quorums coterie names e (f ∷ fs) is all least =
    let one : AreOfOne e.pass f.pass ⊎ IsNewerBy e.pass f.pass e.turn f.turn = elim (two_turns laws voters limits count quorums coterie names e.pass f.pass e.turn f.turn is.0 all.0.0 is.1 all.0.1) [
      | inl same ↦ inl same
      | inr (inl newer) ↦ inr newer
      | inr (inr older) ↦ (let falls = older.rises in let rises = least.0 in absurd (omega arith))
    ] in
    (one, later_ones laws voters limits count quorums coterie names e fs is all.1 least.1)

pub taken_in_order : VoterLaws → (voters : Voters) → HaveLimits voters → (count : ℕ) (quorums : List (List ℕ)) → IsCoterie count quorums → NamesRequests (Gave voters) → (es : List Entry)
    → AllByRecursion (HasTurn quorums voters) es → AreTaken es → AreNewerOrOne es
taken_in_order laws voters limits count quorums coterie names [] all taken = tt
taken_in_order laws voters limits count quorums coterie names (e ∷ es) all taken =
    (later_ones laws voters limits count quorums coterie names e es all.0 all.1 taken.0, taken_in_order laws voters limits count quorums coterie names es all.1 taken.1)

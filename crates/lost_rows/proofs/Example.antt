-- that the events of the example may come
use Rattle.std.proofs.Common.{◌≡◌, ℕ, zero, suc, ◌≤◌, false, List, [], ◌∷◌, length, take, refl, sym, subst, inl, inr, Some, arith}
use Rattle.sessions.specs.Rows.{IsOneOf, Row}
use Rattle.lost_rows.specs.Example.{no_rows, of_seven, other_two, pairs, run_one, two_replies, two_sessions}
use Rattle.lost_rows.specs.Voters.{Answer, AreQuorums, AreSound, Asks, IsMadeAgain, IsTold, MayAllCome, MayCome, Meet, all_happen, newest, set, start}

of_three : (P : List ℕ → Type 0) → P (0 ∷ 1 ∷ []) → P (1 ∷ 2 ∷ []) → P (0 ∷ 2 ∷ []) → (p : List ℕ) → IsOneOf p pairs → P p
of_three P a b c p among = elim among [
  | inl e ↦ subst P (sym e) a
  | inr rest ↦ elim rest [
    | inl e ↦ subst P (sym e) b
    | inr last ↦ elim last [ inl e ↦ subst P (sym e) c | inr none ↦ absurd none ]
  ]
]

of_two : (P : ℕ → Type 0) (a b : ℕ) → P a → P b → (v : ℕ) → IsOneOf v (a ∷ b ∷ []) → P v
of_two P a b first second v among = elim among [
  | inl e ↦ subst P (sym e) first
  | inr rest ↦ elim rest [ inl e ↦ subst P (sym e) second | inr none ↦ absurd none ]
]

pairs_meet : (p q : List ℕ) → IsOneOf p pairs → IsOneOf q pairs → Meet p q
pairs_meet p q in_p in_q = of_three (λ r. Meet r q)
    (of_three (λ s. Meet (0 ∷ 1 ∷ []) s) (0, inl refl, inl refl) (1, inr (inl refl), inl refl) (0, inl refl, inl refl) q in_q)
    (of_three (λ s. Meet (1 ∷ 2 ∷ []) s) (1, inl refl, inr (inl refl)) (1, inl refl, inl refl) (2, inr (inl refl), inr (inl refl)) q in_q)
    (of_three (λ s. Meet (0 ∷ 2 ∷ []) s) (0, inl refl, inl refl) (2, inr (inl refl), inr (inl refl)) (0, inl refl, inl refl) q in_q)
    p in_p

are_pairs : AreQuorums pairs other_two
are_pairs zero p among = elim among [ inl e ↦ inr (inl e) | inr none ↦ absurd none ]
are_pairs (suc zero) p among = elim among [ inl e ↦ inr (inr (inl e)) | inr none ↦ absurd none ]
are_pairs (suc (suc zero)) p among = elim among [ inl e ↦ inl e | inr none ↦ absurd none ]
are_pairs (suc (suc (suc v))) p among = absurd among

sound : AreSound pairs other_two
sound = record {
  quorums_meet = pairs_meet;
  meet = λ v p q in_p in_q. pairs_meet p q (are_pairs v p in_p) in_q;
  both = λ v u p q in_p in_q. inr (pairs_meet p q (are_pairs v p in_p) (are_pairs u q in_q));
}

abbrev seven_says : ℕ → Answer
seven_says v = record { voter = v; row = of_seven; run = 0; knows = λ u. 0 }

seven_asks : MayCome pairs other_two (all_happen (start no_rows) (take 6 two_sessions)) (Asks 7 1 1 (0 ∷ 1 ∷ []))
seven_asks = (
  inl refl,
  record {
    answer = seven_says;
    told = of_two (λ v. IsTold (all_happen (start no_rows) (take 6 two_sessions)).answers 7 1 1 v (seven_says v)) 0 1
        (record { among = inr (inl refl); of_voter = refl; of_session = refl; of_epoch = refl; above = omega arith; few = omega arith })
        (record { among = inl refl; of_voter = refl; of_session = refl; of_epoch = refl; above = omega arith; few = omega arith });
    newest = λ u v in_u in_v. omega arith;
  },
)

made_again : MayCome pairs other_two (all_happen (start no_rows) (take 10 two_sessions)) (IsMadeAgain 1 1 of_seven two_replies)
made_again = record {
  is_lost = refl;
  later = omega arith;
  fit = (record { among = inl refl; to = refl; run = refl }, (record { among = inr (inl refl); to = refl; run = refl }, tt));
  recovery = 0 ∷ 2 ∷ [];
  among = inl refl;
  replied = (
    record { reply = record { voter = 0; to = 1; again = 1; row = of_seven; knows = run_one }; among = inr (inl refl); of_voter = refl },
    (record { reply = record { voter = 2; to = 1; again = 1; row = no_rows 2; knows = run_one }; among = inl refl; of_voter = refl }, tt),
  );
  kept = (
    λ name epoch stamp is. (let few = is.few in record { few = omega arith; whose = inl (omega arith) }),
    (λ name epoch stamp is. is, tt),
  );
}

abbrev of_eight : ℕ → Row
of_eight base = record { epoch = 2; session = Some 8; base = base; reserved = 2; again = false }

abbrev one_says : Answer
one_says = record { voter = 1; row = of_eight 1; run = 1; knows = set (newest two_replies) 1 1 }

abbrev two_says : Answer
two_says = record { voter = 2; row = of_eight 0; run = 0; knows = run_one }

abbrev eight_says : ℕ → Answer
eight_says = set (λ u. one_says) 2 two_says

eight_asks : MayCome pairs other_two (all_happen (start no_rows) (take 17 two_sessions)) (Asks 8 2 2 (1 ∷ 2 ∷ []))
eight_asks = (
  inr (inl refl),
  record {
    answer = eight_says;
    told = of_two (λ v. IsTold (all_happen (start no_rows) (take 17 two_sessions)).answers 8 2 2 v (eight_says v)) 1 2
        (record { among = inr (inl refl); of_voter = refl; of_session = refl; of_epoch = refl; above = omega arith; few = omega arith })
        (record { among = inl refl; of_voter = refl; of_session = refl; of_epoch = refl; above = omega arith; few = omega arith });
    newest = λ u v in_u in_v. of_two (λ z. (eight_says z).knows v ≤ (eight_says v).run) 1 2
        (of_two (λ z. (eight_says 1).knows z ≤ (eight_says z).run) 1 2 (omega arith) (omega arith) v in_v)
        (of_two (λ z. (eight_says 2).knows z ≤ (eight_says z).run) 1 2 (omega arith) (omega arith) v in_v)
        u in_u;
  },
)

may : MayAllCome pairs other_two (start no_rows) two_sessions
may = (
  tt,
  (tt, (tt, (tt, (tt, (tt, (seven_asks, (tt, (tt, (tt, (made_again, (tt, (tt, (tt, (tt, (tt, (tt, (eight_asks, tt))))))))))))))))),
)

pub made_in_between : AreSound pairs other_two × MayAllCome pairs other_two (start no_rows) two_sessions
    × (length (all_happen (start no_rows) two_sessions).uses ≡ 2)
made_in_between = (sound, may, refl)

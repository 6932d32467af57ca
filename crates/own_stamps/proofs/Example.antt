-- that two sessions may ask, by what they keep
use Rattle.std.proofs.Common.{◌≡◌, ◌≤◌, ◌∷◌, [], ℕ, List, Some, false, true, length, take, zero, suc, refl, sym, subst, inl, inr, arith}
use Rattle.std.specs.List.{slice_get}
use Rattle.std.proofs.lemmas.Option.{none-some, same_Some}
use Rattle.numbers.specs.Sets.{set_where}
use Rattle.sessions.specs.Rows.{Row}
use Rattle.lost_rows.specs.Example.{no_rows, other_two, pairs, two_replies, two_sessions}
use Rattle.lost_rows.specs.Voters.{Answer, AreSound, Asks, MayAllCome, Runs, all_happen, newest, set, start}
use Rattle.own_stamps.specs.Asking.{IsFromAnswers, IsKnown, KeepsWhatItHeard, MayAllComeByStamps, MayComeByStamps}
use Rattle.own_stamps.specs.Example.{eight, seven}
use Rattle.own_stamps.specs.Stamps.{may_ask, owners, told, untold}
use Rattle.own_stamps.specs.declared.stamps.OwnStamps.{OwnStamps}

abbrev row : ℕ → ℕ → ℕ → ℕ → Row
row session epoch base reserved = record { epoch = epoch; session = Some session; base = base; reserved = reserved; again = false }

abbrev told_seven : List Answer
told_seven = (all_happen (start no_rows) (take 6 two_sessions)).answers

abbrev told_eight : List Answer
told_eight = (all_happen (start no_rows) (take 17 two_sessions)).answers

abbrev to_seven : ℕ → Answer
to_seven voter = record { voter = voter; row = row 7 1 0 1; run = 0; knows = λ u. 0 }

known_to_seven : (voter : ℕ) → IsKnown seven (to_seven voter)
known_to_seven voter v s is = omega arith

seven_keeps : KeepsWhatItHeard told_seven 7 1 seven
seven_keeps zero s is =
    subst (IsFromAnswers told_seven 7 1 seven 0) (same_Some (told (untold 0) 0 0 1) s is)
    (record { heard = to_seven 0 ∷ []; of = ((inr (inl refl), refl, refl, refl, refl), tt); known = (known_to_seven 0, tt); is = refl })
seven_keeps (suc zero) s is =
    subst (IsFromAnswers told_seven 7 1 seven 1) (same_Some (told (untold 0) 0 0 1) s is)
    (record { heard = to_seven 1 ∷ []; of = ((inl refl, refl, refl, refl, refl), tt); known = (known_to_seven 1, tt); is = refl })
seven_keeps (suc (suc voter)) s is = absurd (none-some s is)

-- what voter 1 knows in its next run, and what voter 2 knows
abbrev later_one : Runs
later_one = set (newest two_replies) 1 1

abbrev later_two : Runs
later_two = set (λ u. 0) 1 1

one_to_eight : Answer
one_to_eight = record { voter = 1; row = row 8 2 1 2; run = 1; knows = later_one }

two_to_eight : Answer
two_to_eight = record { voter = 2; row = row 8 2 0 2; run = 0; knows = later_two }

known_to_eight : (knows : Runs) → knows 0 ≡ 0 → knows 1 ≡ 1 → knows 2 ≡ 0 → (v : ℕ) (s : OwnStamps) → slice_get eight v ≡ Some s → knows v ≤ s.run
known_to_eight knows first second third zero s is = subst (λ (t : OwnStamps). knows 0 ≤ t.run) (same_Some (untold 0) s is) (omega arith)
known_to_eight knows first second third (suc zero) s is = subst (λ (t : OwnStamps). knows 1 ≤ t.run) (same_Some (told (untold 0) 1 1 2) s is) (omega arith)
known_to_eight knows first second third (suc (suc zero)) s is = subst (λ (t : OwnStamps). knows 2 ≤ t.run) (same_Some (told (untold 0) 0 0 2) s is) (omega arith)
known_to_eight knows first second third (suc (suc (suc v))) s is = absurd (none-some s is)

eight_keeps : KeepsWhatItHeard told_eight 8 2 eight
unfolding one_to_eight two_to_eight
eight_keeps zero s is = subst (IsFromAnswers told_eight 8 2 eight 0) (same_Some (untold 0) s is) (record { heard = []; of = tt; known = tt; is = refl })
eight_keeps (suc zero) s is =
    subst (IsFromAnswers told_eight 8 2 eight 1) (same_Some (told (untold 0) 1 1 2) s is)
    (record { heard = one_to_eight ∷ []; of = ((inr (inl refl), refl, refl, refl, refl), tt); known = (known_to_eight later_one refl refl refl, tt); is = refl })
eight_keeps (suc (suc zero)) s is =
    subst (IsFromAnswers told_eight 8 2 eight 2) (same_Some (told (untold 0) 0 0 2) s is)
    (record { heard = two_to_eight ∷ []; of = ((inl refl, refl, refl, refl, refl), tt); known = (known_to_eight later_two refl refl refl, tt); is = refl })
eight_keeps (suc (suc (suc voter))) s is = absurd (none-some s is)

seven_asks : MayComeByStamps pairs other_two (all_happen (start no_rows) (take 6 two_sessions)) (Asks 7 1 1 (0 ∷ 1 ∷ []))
unfolding set_where
seven_asks = record { among = inl refl; quorum = 3; members = refl; kept = seven; keeps = seven_keeps; may = refl }

eight_asks : MayComeByStamps pairs other_two (all_happen (start no_rows) (take 17 two_sessions)) (Asks 8 2 2 (1 ∷ 2 ∷ []))
unfolding set_where
eight_asks = record { among = inr (inl refl); quorum = 6; members = refl; kept = eight; keeps = eight_keeps; may = refl }

may : MayAllCome pairs other_two (start no_rows) two_sessions → MayAllComeByStamps pairs other_two (start no_rows) two_sessions
may all = (tt, (tt, (tt, (tt, (tt, (tt, (seven_asks, (tt, (tt, (tt, (all.1.1.1.1.1.1.1.1.1.1.0, (tt, (tt, (tt, (tt, (tt, (tt, (eight_asks, tt))))))))))))))))))

pub two_ask : AreSound pairs other_two × MayAllCome pairs other_two (start no_rows) two_sessions × (length (all_happen (start no_rows) two_sessions).uses ≡ 2)
    → AreSound pairs other_two × MayAllComeByStamps pairs other_two (start no_rows) two_sessions × (length (all_happen (start no_rows) two_sessions).uses ≡ 2)
two_ask all = (all.0, may all.1, all.2)

pub seven_own : owners seven 1 ≡ 0 ∷ 1 ∷ []
unfolding set_where
seven_own = refl

pub eight_own : owners eight 2 ≡ 1 ∷ 2 ∷ []
unfolding set_where
eight_own = refl

pub not_others : may_ask eight 3 2 ≡ false
unfolding set_where
not_others = refl

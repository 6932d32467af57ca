-- that the premises of the laws can be met
use Rattle.std.proofs.Common.{◌≡◌, ℕ, Bool, true, false, List, [], ◌∷◌, refl, sym, subst, ◌∙◌, inl, inr}
use Rattle.std.specs.Prelude.{◌||◌}
use Rattle.std.specs.List.{list_any}
use Rattle.std.proofs.lemmas.Bool.{false≢true}
use Rattle.numbers.specs.Sets.{members_of, set_where}
use Rattle.sessions.specs.Example.{pairs, three_rows, two_sessions}
use Rattle.sessions.specs.Rows.{IsOneOf}
use Rattle.sessions.specs.Tables.{all_happen, start}
use Rattle.claims.specs.Claims.{AreSteps, IsOwn, all_stepped, begun}
use Rattle.claims.specs.Example.{eight, seven}
use Rattle.sessions.specs.Tables.{Answers, Asks, Claims, Closes, Crashes, DoMeet, Drops, Event, MayAllCome, Reserves, TakesBack}
use Rattle.sessions.proofs.Example.{two_ask}

pub may_ask : DoMeet pairs × MayAllCome pairs (start three_rows) two_sessions
may_ask = (two_ask.0, two_ask.1)

-- a session takes its claim back
is_back : Event → Bool
is_back (TakesBack voter session epoch) = true
is_back (Claims voter session epoch) = false
is_back (Reserves voter session epoch stamp) = false
is_back (Closes voter session epoch) = false
is_back (Drops voter epoch stamp) = false
is_back (Answers voter) = false
is_back (Crashes voter) = false
is_back (Asks session epoch stamp quorum) = false

first_true : (a b : Bool) → a ≡ true → (a || b) ≡ true
first_true true b is = refl
first_true false b is = absurd (false≢true is)

other_false : (a b : Bool) → (a || b) ≡ false → b ≡ false
other_false true b is = absurd (false≢true (sym is))
other_false false b is = is

none_back : (es : List Event) (x : Event) → list_any is_back es ≡ false → is_back x ≡ true → IsOneOf x es → ⊥
none_back [] x none is among = absurd among
none_back (e ∷ es) x none is among = elim among [
  | inl same ↦ false≢true (sym none ∙ first_true (is_back e) (list_any is_back es) (subst (λ (y : Event). is_back y ≡ true) same is))
  | inr rest ↦ none_back es x (other_false (is_back e) (list_any is_back es) none) is rest
]

no_claim_is_back : (session voter epoch : ℕ) → IsOneOf (TakesBack voter session epoch) two_sessions → ⊥
unfolding is_back
no_claim_is_back session voter epoch = none_back two_sessions (TakesBack voter session epoch) refl refl

pub seven_has : AreSteps two_sessions (all_happen (start three_rows) two_sessions).answers 7 seven × IsOwn (all_stepped begun seven) 1 3
unfolding set_where
seven_has = (
  record { heard = (tt, (tt, ((inr (inr (inr (inl refl))), refl), ((inr (inr (inl refl)), refl), tt)))); backs = λ voter epoch among. absurd (no_claim_is_back 7 voter epoch among) },
  record { claims = refl; accepted = refl },
)

pub eight_has : AreSteps two_sessions (all_happen (start three_rows) two_sessions).answers 8 eight × IsOwn (all_stepped begun eight) 2 6
unfolding set_where
eight_has = (
  record { heard = (tt, (tt, ((inl refl, refl), ((inr (inl refl), refl), tt)))); backs = λ voter epoch among. absurd (no_claim_is_back 8 voter epoch among) },
  record { claims = refl; accepted = refl },
)

pub are_pairs : IsOneOf (members_of 3) pairs × IsOneOf (members_of 6) pairs
unfolding set_where
are_pairs = (inl refl, inr (inl refl))

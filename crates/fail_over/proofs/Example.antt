-- Three voters, of which any two are a quorum.
use Rattle.std.proofs.Common.{◌≡◌, zero, suc, ◌+◌, true, false, refl, inl, inr, arith, Some, None}
use Rattle.numbers.specs.Sets.{set_where}
use Rattle.fail_over.specs.Choices.{either, next_quorum, spares, waits_for}
use Rattle.fail_over.specs.Example.{first, nobody, pairs, second, waits, zeroth}
use Rattle.fail_over.specs.Facts.{AllAre, HasNoRoom, HasOne, HasRoom, IsHindered, WouldDo}
use Rattle.fail_over.proofs.ChoiceLemmas.{spares-true, would_do-true}

last_spares_first : spares (either first nobody) 5 ≡ true
unfolding set_where
last_spares_first = refl

pub one_would_do : HasOne (WouldDo first nobody) pairs
one_would_do = (2, (omega arith), would_do-true first nobody 5 last_spares_first)

pub one_is_asked : next_quorum pairs 3 first nobody ≡ Some 2
unfolding set_where
one_is_asked = refl

pub all_hindered : AllAre (IsHindered zeroth first) pairs
unfolding set_where
all_hindered zero lt = (0, refl, inl refl)
all_hindered (suc zero) lt = (1, refl, inr refl)
all_hindered (suc (suc zero)) lt = (0, refl, inl refl)
all_hindered (suc (suc (suc place))) lt = absurd (omega arith)

last_has_room : spares first 5 ≡ true
unfolding set_where
last_has_room = refl

pub one_has_room : HasOne (HasRoom first) pairs
one_has_room = (2, (omega arith), spares-true first 5 last_has_room)

pub that_is_asked : next_quorum pairs 3 zeroth first ≡ Some 2
unfolding set_where
that_is_asked = refl

pub none_has_room : AllAre (HasNoRoom (zeroth + first)) pairs
unfolding set_where
none_has_room zero lt = (0, refl, refl)
none_has_room (suc zero) lt = (1, refl, refl)
none_has_room (suc (suc zero)) lt = (0, refl, refl)
none_has_room (suc (suc (suc place))) lt = absurd (omega arith)

pub nobody_is_asked : next_quorum pairs 3 nobody (zeroth + first) ≡ None
unfolding set_where
nobody_is_asked = refl

pub it_waits : waits_for pairs waits second nobody ≡ true
unfolding set_where
it_waits = refl

pub others_then : next_quorum pairs 2 second nobody ≡ Some 0
unfolding set_where
others_then = refl

pub no_others_then : waits_for pairs waits second first ≡ false
unfolding set_where
no_others_then = refl

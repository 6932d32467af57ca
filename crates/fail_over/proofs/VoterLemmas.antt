-- What sets of voters have, by the words behind them.
use Rattle.std.proofs.Common.{w64, ◌≡◌, ℕ, zero, suc, ◌^◌, ◌<◌, ◌&&◌, not, eqb, min, sym, ap, ap₂, ◌∙◌, arith}
use Rattle.std.specs.Prelude.{bit_and, ◌-◌}
use Rattle.std.specs.Int.{bit_at, bit_not}
use Rattle.std.proofs.lemmas.Nat.Bits.{bit_at_and, bit_at_not, bit_at-lt}
use Rattle.std.proofs.lemmas.Nat.{and_le_l}
use Rattle.numbers.specs.Sets.{has, members_of, set_where}
use Rattle.numbers.proofs.SetLemmas.{is_set_where}
use Rattle.quorum_set.proofs.MaskLemmas.{IsSet-members_of, has-members_of}

-- ---- voters of one set that are not in another

both_bits : (a b c : ℕ) → a < 2 → b < 2 → c ≡ 1 - b → eqb (min a c) 1 ≡ (eqb a 1 && not (eqb b 1))
both_bits zero zero c la lb is = ap (λ n. eqb (min 0 n) 1) is
both_bits zero (suc zero) c la lb is = ap (λ n. eqb (min 0 n) 1) is
both_bits (suc zero) zero c la lb is = ap (λ n. eqb (min 1 n) 1) is
both_bits (suc zero) (suc zero) c la lb is = ap (λ n. eqb (min 1 n) 1) is
both_bits (suc (suc a)) b c la lb is = absurd (omega arith)
both_bits zero (suc (suc b)) c la lb is = absurd (omega arith)
both_bits (suc zero) (suc (suc b)) c la lb is = absurd (omega arith)

pub others_by_word : (a b : ℕ) → a < 2 ^ 64 → b < 2 ^ 64
    → members_of (bit_and a (bit_not w64 b)) ≡ set_where (λ v. has (members_of a) v && not (has (members_of b) v))
others_by_word a b fits_a fits_b =
    let fits : bit_and a (bit_not w64 b) < 2 ^ 64 = omega (arith, and_le_l a (bit_not w64 b)) in
    is_set_where (members_of (bit_and a (bit_not w64 b))) (λ v. has (members_of a) v && not (has (members_of b) v)) (IsSet-members_of (bit_and a (bit_not w64 b))) (λ v lt.
    has-members_of (bit_and a (bit_not w64 b)) v fits ∙ ap (λ n. eqb n 1) (bit_at_and a (bit_not w64 b) v)
    ∙ both_bits (bit_at a v) (bit_at b v) (bit_at (bit_not w64 b) v) (bit_at-lt a v) (bit_at-lt b v) (bit_at_not w64 b v fits_b lt)
    ∙ sym (ap₂ (λ x y. x && not y) (has-members_of a v fits_a) (has-members_of b v fits_b)))

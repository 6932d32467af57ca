use Rattle.std.proofs.Common.{◌≡◌, ◌<◌, ◌+◌, ℕ, Bool, List, length, nat_lt, set, get_or, true, false, sym, ap, ◌∙◌, arith, length-set, get_or-set_same, get_or-set_other}
use Rattle.std.proofs.lemmas.List.{length-replicate}
use Rattle.std.specs.List.{sum_by}
use mathlib.Core.Logic.{dite}
use native.Mathlib.Decide.{ℕ_discrete}
use Rattle.board.proofs.RootFields.{sum_by-set_flag, flags-none, get_or-replicate_false, nat_lt-zero, nat_lt-next, nat_lt-other, nat_lt-self}
use Rattle.board.proofs.board.first.Goals as goal

pub loop-i-init : goal.loop-i-init
loop-i-init c =
    let e = c.none-flags.ensures in
    record {
      first = λ k. ap (λ (l : List Bool). get_or l k false) e ∙ get_or-replicate_false 64 k ∙ nat_lt-zero k;
      total = ap (sum_by _) e ∙ flags-none 64;
      wide = ap length e ∙ length-replicate 64 false;
    }

pub loop-i-preserved : goal.loop-i-preserved
loop-i-preserved c =
    let h = c.loop-i.invariant in
    let l = c.loop-i.flags in
    let i : ℕ = c.loop-i.i in
    let in_list : i < length l = omega (arith, h.wide, c.requires) in
    let off : get_or l i false ≡ false = h.first i ∙ nat_lt-self i in
    record {
      first = λ k. dite (ℕ_discrete k i)
          (λ e. ap (λ (j : ℕ). get_or (set l i true) j false) e ∙ get_or-set_same l i true false in_list ∙ nat_lt-next i ∙ ap (λ (j : ℕ). nat_lt j (i + 1)) (sym e))
          (λ far. get_or-set_other l i k true false far ∙ h.first k ∙ nat_lt-other k i far);
      total = sum_by-set_flag l i in_list off ∙ ap (λ (n : ℕ). n + 1) h.total;
      wide = length-set l i true ∙ h.wide;
    }

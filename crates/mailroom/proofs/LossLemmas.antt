-- Messages that belong to nobody.
use Rattle.std.proofs.Common.{◌≡◌, ◌<◌, Bool, true, false, true≢false, Result, Ok, Err, refl, sym, arith, ◌∙◌}
use Rattle.std.specs.Prelude.{IfErr, IfOk}
use Rattle.std.proofs.lemmas.Bool.Decides.{nat_tests}
use Rattle.message.specs.declared.message.ToClient.{ToClient}
use Rattle.board.specs.Seats.{BoardState}
use Rattle.node.specs.Mail.{IsMail}
use Rattle.mailroom.specs.Losses.{is_stray_reply}

not_stray : (board : BoardState) (m : ToClient) → m.client < board.clients → m.voter < board.voters → is_stray_reply board m ≡ false
not_stray board m client voter = grind (arith, nat_tests)

-- a message that belongs to nobody gets into no mailbox, and not for want of memory
pub refused-is_stray : {E : Type 0} (board : BoardState) (m : ToClient) (put : Result Bool E) → m.client < board.clients → IfOk put (λ b. b ≡ true → IsMail board m.client m)
    → IfErr put (λ e. IsMail board m.client m) → is_stray_reply board m ≡ true → put ≡ Ok false
refused-is_stray board m (Ok false) client mail memory stray = refl
refused-is_stray board m (Ok true) client mail memory stray = absurd (true≢false (sym stray ∙ not_stray board m client (mail refl).voter))
refused-is_stray board m (Err e) client mail memory stray = absurd (true≢false (sym stray ∙ not_stray board m client memory.voter))

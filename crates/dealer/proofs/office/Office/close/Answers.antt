use Rattle.std.proofs.Common.{◌≡◌, List, ◌∙◌, ap₂, subst}
use Rattle.numbers.specs.Sums.{AreAllBelow}
use Rattle.certificate.specs.Certificates.{Weighted, IsCertificate, IsOptimal}
use Rattle.dealer.specs.declared.receipt.Receipt.{Receipt}
use Rattle.dealer.specs.Accounts.{account_of}
use Rattle.dealer.specs.Offices.{tickets_of}
use Rattle.dealer.proofs.WholeAccounts.{whole-even, whole-least, whole-least_ratio, whole-ratio, whole-shares}
use Rattle.dealer.proofs.office.Office.close.Goals.{After-drop-cycle-inside-in-Ok-account_of_all-5 as Closed}
use Rattle.dealer.proofs.office.Office.close.Goals as goal

-- the account is that of the clerk's receipts, by the office's cycle
is_account : (c : Closed) → c.in-Ok-account_of_all.account ≡ account_of c.args.self.name.cycle (tickets_of c.args.clerk.receipts)
is_account c = c.in-Ok-account_of_all.ensures.value
    ∙ ap₂ (λ (w : Weighted) (receipts : List Receipt). account_of w (tickets_of receipts)) c.in-Ok.ensures.cycle (c.deref.ensures.value ∙ c.in-Ok.ensures.receipts)

certified : (c : Closed) → IsCertificate c.args.self.name.cycle
certified c = subst IsCertificate c.in-Ok.ensures.cycle c.in-Ok-account_of_all.ensures.certificate

optimal : (c : Closed) → IsOptimal c.args.self.name.cycle
optimal c = subst IsOptimal c.in-Ok.ensures.cycle c.in-Ok-account_of_all.ensures.optimal

pub returns-in-Ok-account_of_all-clause-shares : goal.returns-in-Ok-account_of_all-clause-shares
returns-in-Ok-account_of_all-clause-shares c = λ k long.
    let tickets = tickets_of c.args.clerk.receipts in
    whole-shares c.args.self.name.cycle k tickets (certified c) (subst (AreAllBelow tickets) long c.in-Ok.ensures.tickets) c.in-Ok-account_of_all.account (is_account c)

pub returns-in-Ok-account_of_all-clause-even : goal.returns-in-Ok-account_of_all-clause-even
returns-in-Ok-account_of_all-clause-even c = λ k long.
    let tickets = tickets_of c.args.clerk.receipts in
    whole-even c.args.self.name.cycle k tickets (certified c) (subst (AreAllBelow tickets) long c.in-Ok.ensures.tickets) c.in-Ok-account_of_all.account (is_account c)

pub returns-in-Ok-account_of_all-clause-ratio : goal.returns-in-Ok-account_of_all-clause-ratio
returns-in-Ok-account_of_all-clause-ratio c = λ k long.
    let tickets = tickets_of c.args.clerk.receipts in
    whole-ratio c.args.self.name.cycle k tickets (certified c) (subst (AreAllBelow tickets) long c.in-Ok.ensures.tickets) c.in-Ok-account_of_all.account (is_account c)

pub returns-in-Ok-account_of_all-clause-least_ratio : goal.returns-in-Ok-account_of_all-clause-least_ratio
returns-in-Ok-account_of_all-clause-least_ratio c = λ k long.
    let tickets = tickets_of c.args.clerk.receipts in
    whole-least_ratio c.args.self.name.cycle k tickets (certified c) (subst (AreAllBelow tickets) long c.in-Ok.ensures.tickets) c.in-Ok-account_of_all.account (is_account c)
    (optimal c)

pub returns-in-Ok-account_of_all-clause-least : goal.returns-in-Ok-account_of_all-clause-least
returns-in-Ok-account_of_all-clause-least c = λ k units long.
    let tickets = tickets_of c.args.clerk.receipts in
    whole-least c.args.self.name.cycle k tickets (certified c) (subst (AreAllBelow tickets) long c.in-Ok.ensures.tickets) c.in-Ok-account_of_all.account (is_account c)
    (optimal c) units

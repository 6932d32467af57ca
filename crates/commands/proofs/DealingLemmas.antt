-- A clerk that draws all tickets of an office.
use Rattle.std.proofs.Common.{◌≡◌, ℕ, ◌+◌, ◌-◌, ◌≤◌, List, [], ◌∷◌, ◌++◌, length, map, refl, sym, ap, ap₂, ◌∙◌, arith}
use Rattle.std.specs.List.{range_with_len}
use Rattle.std.proofs.lemmas.List.FromFn.{length-map-range_with_len, map-range_with_len_more}
use Rattle.certificate.specs.Certificates.{Weighted}
use Rattle.dealer.specs.Accounts.{account_of}
use Rattle.dealer.specs.declared.account.Account.{Account}
use Rattle.dealer.specs.Offices.{OfficeName, ClerkState, receipt_of, share_of, tickets_of}
use Rattle.dealer.specs.declared.receipt.Receipt.{Receipt}
use Rattle.commands.specs.Dealing.{after_draws}

-- it keeps the office's whole quota
pub share_of-after_draws : (office : OfficeName) (quota n : ℕ) → n ≤ quota → share_of (after_draws office quota n) ≡ quota
share_of-after_draws office quota n le = omega (arith, length-map-range_with_len (receipt_of office.cycle) 0 n)

-- one ticket more
pub after_draws-more : (office : OfficeName) (quota n : ℕ) (before after : ClerkState) → before ≡ after_draws office quota n
    → after ≡ record before { rest = before.rest - 1; receipts = before.receipts ++ receipt_of office.cycle (length before.receipts) ∷ [] } → after ≡ after_draws office quota (n + 1)
after_draws-more office quota n before after was drawn =
    let receipt = receipt_of office.cycle in
    let so_far = map receipt (range_with_len 0 n) in
    let rest : quota - n - 1 ≡ quota - (n + 1) = omega arith in
    let receipts : so_far ++ receipt (length so_far) ∷ [] ≡ map receipt (range_with_len 0 (n + 1)) =
    ap (λ k. so_far ++ receipt k ∷ []) (length-map-range_with_len receipt 0 n) ∙ sym (map-range_with_len_more receipt 0 n n (omega arith)) in
    drawn
    ∙ ap (λ (c : ClerkState). record c { rest = c.rest - 1; receipts = c.receipts ++ receipt (length c.receipts) ∷ [] }) was
    ∙ ap₂ (λ (k : ℕ) (rs : List Receipt). made k rs) rest receipts
  where
    made : ℕ → List Receipt → ClerkState
    made k rs = record { office = office; rest = k; receipts = rs }

-- the tickets of receipts
pub tickets_of_receipts : (w : Weighted) (tickets : List ℕ) → tickets_of (map (receipt_of w) tickets) ≡ tickets
tickets_of_receipts w [] = refl
tickets_of_receipts w (t ∷ ts) = ap (λ (l : List ℕ). t ∷ l) (tickets_of_receipts w ts)

-- what the office is closed with
pub account_of-dealt : (office : OfficeName) (plan : Weighted) (n : ℕ) (clerk : ClerkState) (account : Account) → office.cycle ≡ plan → clerk ≡ after_draws office n n
    → account ≡ account_of office.cycle (tickets_of clerk.receipts) → account ≡ account_of plan (range_with_len 0 n)
account_of-dealt office plan n clerk account same drawn is =
    is ∙ ap₂ (λ (w : Weighted) (ts : List ℕ). account_of w ts) same (ap (λ (k : ClerkState). tickets_of k.receipts) drawn ∙ tickets_of_receipts office.cycle (range_with_len 0 n))

use Rattle.std.proofs.Common.{◌≡◌, ◌∙◌, ℕ, refl, rules, subst, sym}
use Rattle.std.specs.Prelude.{ℤ, ◌&&◌}
use Rattle.std.proofs.lemmas.Bool.{false≢true}
use Rattle.blocks.specs.Numbers.{done, refused, returned}
use Rattle.blocks.specs.declared.refusal.Refusal.TheVariants.{GrantsSpent}
use Rattle.message.specs.declared.message.ToVoter.{ToVoter}
use Rattle.quiet_time.specs.Quiet.{is_old, quiet_step}
use Rattle.voter.specs.declared.state.VoterState.{VoterState}
use Rattle.lock_blocks.specs.Lines.{IsToVoter}
use Rattle.lock_blocks.proofs.LockLemmas.{Goes, Knows, goes_not, goes_on, quiet_keeps, refused_some, takes_with, was_put_off, was_taken}
use Rattle.lock_blocks.proofs.locks.take.Goals as goal

pub returns-in_err-hear-clause-takes : goal.returns-in_err-hear-clause-takes
returns-in_err-hear-clause-takes c =
    takes_with c.args.table.now c.args.vote.now c.args.since.now c.args.is_quiet c.args.says_inside c.args.session c.args.epoch c.args.line.now c.args.vote.now c.args.since.now c.args.out.now c.args.out.now c.args.written.now c.args.shown.now c.args.shown.now
    (returned c.from_residual-in_err-hear.result)
    c.in_ok-voter.voter c.in_ok-message.message c.in-Some.row c.in_ok-voter.ensures.loaded c.in_ok-voter.ensures.only
    (subst (λ (id : ℕ). IsToVoter c.args.line.now id c.in_ok-message.message) c.id.ensures c.in_ok-message.ensures.read)
    (λ n is. c.in_ok-message.ensures.only n (subst (λ (id : ℕ). IsToVoter c.args.line.now id n) (sym c.id.ensures) is))
    (λ rows are. sym c.in-Some.is ∙ c.row_in.ensures.only rows are)
    (λ says. absurd (false≢true (sym says ∙ sym c.may_say.ensures ∙ c.if-not-may_say.false)))
    (λ says off. absurd (false≢true (sym c.in_err-hear.ensures.refused.0 ∙ off)))
    (λ says on rows are. goes_not _ _ _ _ _ _ _ _ _ _ _ c.in_err-hear.ensures.refused.1 (let spent : returned c.from_residual-in_err-hear.result ≡ refused GrantsSpent = search rules in spent))

pub returns-in-PutOff-clause-takes : goal.returns-in-PutOff-clause-takes
returns-in-PutOff-clause-takes c =
    takes_with c.args.table.now c.args.vote.now c.args.since.now c.args.is_quiet c.args.says_inside c.args.session c.args.epoch c.args.line.now c.args.vote.now c.args.since.now c.args.out.now c.args.out.now 0 c.args.shown.now _ done
    c.in_ok-voter.voter c.in_ok-message.message c.in-Some.row c.in_ok-voter.ensures.loaded c.in_ok-voter.ensures.only
    (subst (λ (id : ℕ). IsToVoter c.args.line.now id c.in_ok-message.message) c.id.ensures c.in_ok-message.ensures.read)
    (λ n is. c.in_ok-message.ensures.only n (subst (λ (id : ℕ). IsToVoter c.args.line.now id n) (sym c.id.ensures) is))
    (λ rows are. sym c.in-Some.is ∙ c.row_in.ensures.only rows are)
    (λ says. absurd (false≢true (sym says ∙ sym c.may_say.ensures ∙ c.if-not-may_say.false)))
    (λ says off. (refl, refl, refl, refl, refl, refl))
    (λ says on. absurd (false≢true (sym on ∙ was_put_off _ _ _ _ c.in-PutOff.is c.in_ok-hear.ensures.heard)))

pub returns-in_err-finish-clause-takes : goal.returns-in_err-finish-clause-takes
returns-in_err-finish-clause-takes c =
    let taken = was_taken _ _ _ _ c.in-Taken.is c.in_ok-hear.ensures.heard in
    let loaded : VoterState = c.in_ok-voter.voter in
    let after : VoterState = c.hear.new.voter in
    let m : ToVoter = c.in_ok-message.message in
    let old = c.args.is_quiet && is_old c.args.since.now loaded.held in
    let same : returned c.from_residual-in_err-finish.result ≡ returned c.finish.result = search rules in
    let is : returned c.finish.result ≡ refused c.in_err-finish.field-0.0 = search rules in
    takes_with c.args.table.now c.args.vote.now c.args.since.now c.args.is_quiet c.args.says_inside c.args.session c.args.epoch c.args.line.now c.finish.new.vote c.args.since.now c.args.out.now c.finish.new.out c.finish.new.written c.args.shown.now c.finish.new.shown
    (returned c.from_residual-in_err-finish.result)
    c.in_ok-voter.voter c.in_ok-message.message c.in-Some.row c.in_ok-voter.ensures.loaded c.in_ok-voter.ensures.only
    (subst (λ (id : ℕ). IsToVoter c.args.line.now id c.in_ok-message.message) c.id.ensures c.in_ok-message.ensures.read)
    (λ n is. c.in_ok-message.ensures.only n (subst (λ (id : ℕ). IsToVoter c.args.line.now id n) (sym c.id.ensures) is))
    (λ rows are. sym c.in-Some.is ∙ c.row_in.ensures.only rows are)
    (λ says. absurd (false≢true (sym says ∙ sym c.may_say.ensures ∙ c.if-not-may_say.false)))
    (λ says off. absurd (false≢true (sym taken.0 ∙ off)))
    (λ says on rows are.
    let keeps = quiet_keeps old loaded m (record { replies = c.hear.new.replies.items; state = after }) taken.1.0 in
    subst (λ (r : ℤ). Goes loaded m rows c.args.since.now c.args.since.now c.args.is_quiet c.args.says_inside c.finish.new.vote c.args.out.now c.finish.new.out c.finish.new.written c.finish.new.shown r) (sym same)
    (goes_on (quiet_step old loaded m) c.hear.new.replies.items c.as_slice.result.now after loaded rows m.client (Knows c.args.since.now c.args.since.now c.args.is_quiet c.args.says_inside loaded m)
    c.finish.new.vote c.args.out.now c.finish.new.out c.finish.new.written c.finish.new.shown (returned c.finish.result) taken.1.0 c.as_slice.ensures.value
    (λ done. absurd (refused_some c.in_err-finish.field-0.0 (sym is ∙ done)))
    (c.finish.ensures.tells loaded rows keeps.0 keeps.1 (sym c.held-held.ensures) (sym c.granted-granted.ensures.value) are)))

pub returns-clause-takes : goal.returns-clause-takes
returns-clause-takes c =
    let taken = was_taken _ _ _ _ c.in-Taken.is c.in_ok-hear.ensures.heard in
    let loaded : VoterState = c.in_ok-voter.voter in
    let after : VoterState = c.hear.new.voter in
    let m : ToVoter = c.in_ok-message.message in
    let old = c.args.is_quiet && is_old c.args.since.now loaded.held in
    let same : returned c.finish.result ≡ done = search rules in
    takes_with c.args.table.now c.args.vote.now c.args.since.now c.args.is_quiet c.args.says_inside c.args.session c.args.epoch c.args.line.now c.finish.new.vote c.hear.new.since c.args.out.now c.finish.new.out c.finish.new.written c.args.shown.now c.finish.new.shown done
    c.in_ok-voter.voter c.in_ok-message.message c.in-Some.row c.in_ok-voter.ensures.loaded c.in_ok-voter.ensures.only
    (subst (λ (id : ℕ). IsToVoter c.args.line.now id c.in_ok-message.message) c.id.ensures c.in_ok-message.ensures.read)
    (λ n is. c.in_ok-message.ensures.only n (subst (λ (id : ℕ). IsToVoter c.args.line.now id n) (sym c.id.ensures) is))
    (λ rows are. sym c.in-Some.is ∙ c.row_in.ensures.only rows are)
    (λ says. absurd (false≢true (sym says ∙ sym c.may_say.ensures ∙ c.if-not-may_say.false)))
    (λ says off. absurd (false≢true (sym taken.0 ∙ off)))
    (λ says on rows are.
    let keeps = quiet_keeps old loaded m (record { replies = c.hear.new.replies.items; state = after }) taken.1.0 in
    subst (λ (r : ℤ). Goes loaded m rows c.args.since.now c.hear.new.since c.args.is_quiet c.args.says_inside c.finish.new.vote c.args.out.now c.finish.new.out c.finish.new.written c.finish.new.shown r) same
    (goes_on (quiet_step old loaded m) c.hear.new.replies.items c.as_slice.result.now after loaded rows m.client (Knows c.args.since.now c.hear.new.since c.args.is_quiet c.args.says_inside loaded m)
    c.finish.new.vote c.args.out.now c.finish.new.out c.finish.new.written c.finish.new.shown (returned c.finish.result) taken.1.0 c.as_slice.ensures.value
    (λ done. taken.1.1)
    (c.finish.ensures.tells loaded rows keeps.0 keeps.1 (sym c.held-held.ensures) (sym c.granted-granted.ensures.value) are)))

use Rattle.std.proofs.Common.{◌≡◌, ℕ, ◌^◌, [], Some, set, sym, subst, arith}
use Rattle.board.specs.Roots.{IsCurrent}
use Rattle.board.specs.Views.{voter_view}
use Rattle.board.specs.Words.{IsSettledFrom}
use Rattle.board.proofs.Votes.{Settled-allowed_by_vote}
use Rattle.board.proofs.Words.{MatchBool-nat_eq}
use Rattle.board.proofs.VoterFields.{set-settled_view}
use Rattle.board.proofs.voter.frees.Goals as goal

pub compare_exchange-requires : goal.compare_exchange-requires
compare_exchange-requires c =
    let at = c.from.ensures in
    let known = subst (λ (v : ℕ). IsSettledFrom c.args.vote (λ current. (c.args.seat.now.me ≡ (voter_view v (Some current), [])) × IsCurrent (Some current) (2 ^ 40))) (sym at) c.requires.seat in (
      c.requires.table.0,
      omega (arith, c.requires.table.1, c.requires.voter.0),
      Settled-allowed_by_vote c.args.table.now.shared.key _ _ _ c.from.result c.args.vote _ _ (omega (arith, c.requires.voter.0))
          (omega (arith, c.requires.voter.1)) known c.word-word.ensures c.word.ensures,
    )

pub returns-clause-seat : goal.returns-clause-seat
returns-clause-seat c =
    let seat = c.args.seat.now.me in
    let after = c.compare_exchange.new.seat.me in
    MatchBool-nat_eq _ _ _ _
    (λ e. set-settled_view seat after c.args.voter c.args.vote c.requires.seat
    (subst (λ (v : ℕ). after ≡ (record seat.0 { voters = set seat.0.voters v 1 }, seat.1)) c.from.ensures (c.compare_exchange.ensures.2.3 e)))
    (λ n. c.compare_exchange.ensures.2.4 n)

-- What a node keeps over a message.
use Rattle.std.proofs.Common.{◌≡◌, inl, inr, ⊎_elim, ℕ, ◌+◌, ◌<◌, ◌≤◌, ◌^◌, Bool, true, false, true≢false, List, [], ◌∷◌, ◌++◌, Option, Some, None, IfSome, refl, sym, ap, ◌∙◌, subst, arith, is_some, get_or}
use Rattle.std.specs.Prelude.{option_map}
use Rattle.std.specs.List.{All}
use Rattle.std.proofs.lemmas.List.Elements.{All-push}
use Rattle.std.proofs.lemmas.Option.{none-some, same_Some, slice_get-get_or}
use Rattle.numbers.proofs.Lists.{AllByRecursion-get}
use Rattle.message.specs.declared.message.ToClient.{ToClient}
use Rattle.message.specs.declared.message.ToVoter.{ToVoter}
use Rattle.message.specs.declared.message.VoterBody.{VoterBody}
use Rattle.message.specs.declared.message.VoterBody.TheVariants as asks
use Rattle.voter.specs.declared.state.Grant.{Grant}
use Rattle.voter.specs.declared.state.VoterState.{VoterState}
use Rattle.voter.specs.Steps.{Outcome, start, step, effect_of, effect_by, is_ended}
use Rattle.voter.specs.Replies.{AllCarry}
use Rattle.voter.specs.VoteMoves.{VoteMoves}
use Rattle.voter.specs.VoterContract.{IsEntry, Brings}
use Rattle.board.specs.Seats.{BoardState, VoterSeatState as SeatState}
use Rattle.node.specs.PartLaws.{StepsSoundly}
use Rattle.node.specs.Outboxes.{AreOf}
use Rattle.node.specs.Nodes.{IsNode, IsFor, run, next, seat_grant, settle_grant, offer_grant, offer_grant_by}

run-push : (v : Option VoterState) (log : List ToVoter) (m : ToVoter) → run v (log ++ m ∷ []) ≡ next (run v log) m
run-push v [] m = refl
run-push v (x ∷ xs) m = run-push (next v x) xs m

-- messages that carry a voter's number are of that voter
pub AreOf-AllCarry : (voter id seen : ℕ) (ms : List ToClient) → id ≡ voter → AllCarry id seen ms → AreOf voter ms
AreOf-AllCarry voter id seen ms is carry k d lt = (AllByRecursion-get (λ m. (m.voter ≡ id) × (m.seen ≡ seen)) ms k (get_or ms k d) carry (slice_get-get_or ms k d lt)).0 ∙ is

-- a message that frees the vote, or is refused

ended_some : (held after : Option Grant) → is_ended held after ≡ true → is_some (seat_grant held) ≡ true
ended_some None after e = e
ended_some (Some g) after e = refl

frees_some : (v : VoterState) (s : Option Outcome) → (effect_by v s).frees ≡ true → is_some (seat_grant v.held) ≡ true
frees_some v None e = absurd (true≢false (sym e))
frees_some v (Some o) e = ended_some v.held o.state.held e

pub held-from_frees : (v : VoterState) (m : ToVoter) → (effect_of v m).frees ≡ true → is_some (seat_grant v.held) ≡ true
unfolding effect_of
held-from_frees v m e = frees_some v (step v m) e

pub not_refused : (v : VoterState) (m : ToVoter) → (effect_of v m).refused ≡ false → step v m ≡ None → ⊥
unfolding effect_of
not_refused v m e none_left = true≢false (sym (ap (λ (s : Option Outcome). (effect_by v s).refused) none_left) ∙ e)

-- the seat after the vote was settled
still : (b : Bool) (seat : SeatState) → ((settle_grant b seat).table ≡ seat.table) × ((settle_grant b seat).voter ≡ seat.voter) × ((settle_grant b seat).last ≡ seat.last)
still false seat = (refl, refl, refl)
still true seat = (refl, refl, refl)

-- what a node knows where its voter took a message
pub record Took (board : BoardState) (v : VoterState) (log : List ToVoter) (seat : SeatState) (m : ToVoter) (o : Outcome) : Type 0 where
  pub node : IsNode board v log seat
  pub meant : IsFor board seat.voter m
  pub took : step v m ≡ Some o
  pub laws : StepsSoundly v m o

Brings-client_below : (clients client : ℕ) (b : VoterBody) (c t : ℕ) → client < clients → Brings client b c t → c < clients
Brings-client_below clients client (asks.Request s) c t lt p = subst (λ x. x < clients) (sym p.0) lt
Brings-client_below clients client b c t lt p = absurd p

-- the number of a grant that the seat has to offer
new_number : (v w : VoterState) (seat : SeatState) → seat.current ≡ seat_grant v.held → (b : Bool) → VoteMoves b v w → (settle_grant b seat).current ≡ None → (g : Grant)
    → w.held ≡ Some g → (g.grant ≡ v.granted + 1) × (w.granted ≡ v.granted + 1)
new_number v w seat cur true (inl ends) free g is = absurd (none-some g (sym ends.held ∙ is))
new_number v w seat cur true (inr n) free g is = (ap (λ (h : Grant). h.grant) (same_Some g n.grant (sym is ∙ n.held)) ∙ n.number, n.granted)
new_number v w seat cur false (inl stays) free g is =
    absurd (none-some (g.client, g.grant) (sym free ∙ cur ∙ ap seat_grant (sym stays.held ∙ is)))
new_number v w seat cur false (inr n) free g is = (ap (λ (h : Grant). h.grant) (same_Some g n.1.grant (sym is ∙ n.1.held)) ∙ n.1.number, n.1.granted)

-- the seat after a step
pub record Agrees (seat : SeatState) (w : VoterState) (after : SeatState) : Type 0 where
  pub table : after.table ≡ seat.table
  pub voter : after.voter ≡ seat.voter
  pub current : after.current ≡ seat_grant w.held
  pub last : after.last ≡ w.granted

-- where it still has a current grant, that is the voter's
kept_grant : (v w : VoterState) (seat : SeatState) → seat.current ≡ seat_grant v.held → seat.last ≡ v.granted → (b : Bool) → VoteMoves b v w → (x : ℕ × ℕ) → (settle_grant b seat).current ≡ Some x
    → ((settle_grant b seat).current ≡ seat_grant w.held) × ((settle_grant b seat).last ≡ w.granted)
kept_grant v w seat cur last true moves x is = absurd (none-some x is)
kept_grant v w seat cur last false (inl stays) x is = (cur ∙ ap seat_grant (sym stays.held), last ∙ sym stays.granted)
kept_grant v w seat cur last false (inr n) x is = absurd (none-some x (sym (cur ∙ ap seat_grant n.0) ∙ is))

-- where the voter has no grant, none was given
kept_count : (v w : VoterState) (b : Bool) → VoteMoves b v w → w.held ≡ None → w.granted ≡ v.granted
kept_count v w true (inl ends) free = ends.granted
kept_count v w true (inr n) free = absurd (none-some n.grant (sym free ∙ n.held))
kept_count v w false (inl stays) free = stays.granted
kept_count v w false (inr n) free = absurd (none-some n.1.grant (sym free ∙ n.1.held))

Agrees-offer_grant_by : (v w : VoterState) (seat : SeatState) → seat.current ≡ seat_grant v.held → seat.last ≡ v.granted → (b : Bool) → VoteMoves b v w
    → (x : Option (ℕ × ℕ)) → (settle_grant b seat).current ≡ x → (held : Option Grant) → w.held ≡ held → Agrees seat w (offer_grant_by x held (settle_grant b seat))
Agrees-offer_grant_by v w seat cur last b moves (Some x) is held holds =
    let k = kept_grant v w seat cur last b moves x is in
    record { table = (still b seat).0; voter = (still b seat).1; current = k.0; last = k.1 }
Agrees-offer_grant_by v w seat cur last b moves None is None holds =
    record { table = (still b seat).0; voter = (still b seat).1; current = is ∙ sym (ap seat_grant holds); last = (still b seat).2 ∙ last ∙ sym (kept_count v w b moves holds) }
Agrees-offer_grant_by v w seat cur last b moves None is (Some g) holds =
    let n = new_number v w seat cur b moves is g holds in
    record { table = (still b seat).0; voter = (still b seat).1; current = sym (ap seat_grant holds); last = n.0 ∙ sym n.1 }

module _ (board : BoardState) (v : VoterState) (log : List ToVoter) (seat : SeatState) (m : ToVoter) (o : Outcome) (t : Took board v log seat m o) where
  entries : (c s : ℕ) → IsEntry o.state c s → c < board.clients
  entries c s e = ⊎_elim (t.node.clients c s) (Brings-client_below board.clients m.client m.body c s t.meant.client) (t.laws.meets.entries c s e)

  -- what the seat may be asked to offer
  pub may_offer : (held : Option Grant) → o.state.held ≡ held → (settle_grant (effect_of v m).frees seat).current ≡ None
      → IfSome held (λ g. (g.client < board.clients) × ((settle_grant (effect_of v m).frees seat).last < g.grant) × (g.grant ≤ 2 ^ 40))
  may_offer None holds free = tt
  may_offer (Some g) holds free =
      let n = new_number v o.state seat t.node.current (effect_of v m).frees t.laws.moves free g holds in
      let last = (still (effect_of v m).frees seat).2 ∙ t.node.last in
      let few = t.laws.sound.numbered g holds in
      let spent = t.laws.sound.granted in
      let limit = t.laws.sound.limit in (
        entries g.client g.stamp (inl (g, holds, refl, refl)),
        omega (arith, n.0, last),
        omega (arith, few, spent, limit),
      )

  follows : run (Some (start seat.voter (2 ^ 40))) (log ++ m ∷ []) ≡ Some o.state
  follows = run-push (Some (start seat.voter (2 ^ 40))) log m ∙ ap (λ (x : Option VoterState). next x m) t.node.follows ∙ ap (option_map (λ (x : Outcome). x.state)) t.took

  known : All (IsFor board seat.voter) (log ++ m ∷ [])
  known = All-push (IsFor board seat.voter) log m t.node.known t.meant

  pub IsNode-offer_grant : IsNode board o.state (log ++ m ∷ []) (offer_grant o.state.held (settle_grant (effect_of v m).frees seat))
  IsNode-offer_grant =
      let b = (effect_of v m).frees in
      let a = Agrees-offer_grant_by v o.state seat t.node.current t.node.last b t.laws.moves (settle_grant b seat).current refl o.state.held refl in record {
        follows = subst (λ (n : ℕ). run (Some (start n (2 ^ 40))) (log ++ m ∷ []) ≡ Some o.state) (sym a.voter) follows;
        known = subst (λ (n : ℕ). All (IsFor board n) (log ++ m ∷ [])) (sym a.voter) known;
        table = a.table ∙ t.node.table;
        inside = subst (λ (n : ℕ). n < board.voters) (sym a.voter) t.node.inside;
        current = a.current;
        last = a.last;
        id = t.laws.carry.id ∙ t.node.id ∙ sym a.voter;
        limit = t.laws.carry.limit ∙ t.node.limit;
        clients = entries;
        few = t.node.few;
        sound = t.laws.sound;
      }

-- a client that raises its clock: it does what an INQUIRE of no vote would do
use Rattle.std.proofs.Common.{◌≡◌, ℕ, Bool, true, false, [], refl, ap, ap₂, ◌∙◌, arith}
use Rattle.std.specs.Prelude.{Ok, ◌&&◌, ◌==◌, nat_lt, slice_set}
use Rattle.std.proofs.lemmas.Bool.Decides.{nat_tests}
use Rattle.std.proofs.lemmas.List.{append-nil}
use Rattle.message.specs.declared.message.ToClient.{ToClient}
use Rattle.message.specs.declared.message.ClientBody.TheVariants as to_client
use Rattle.requester.specs.declared.state.ClientState.{ClientState}
use Rattle.requester.specs.declared.state.Seen.TheVariants.{Nothing}
use Rattle.requester.specs.Steps as client
use Rattle.requester.specs.Words.{held_of, holds_under, is_asking, is_hindered}
use Rattle.world.specs.Restarts.{OneClient, Saved, save_and_send}
use Rattle.world_state.specs.Steps.{after_client, client_at}
use Rattle.world.specs.Incidents.{be_raised}

-- an INQUIRE of the grant 0, which nobody has
abbrev pub no_inquiry : ClientState → ℕ → ToClient
no_inquiry x clock = record { voter = 0; client = x.id; seen = clock; body = to_client.Inquire 0 }

never_zero : (n : ℕ) → (nat_lt 0 n && (n == 0)) ≡ false
never_zero n = elim (nat_lt 0 n) as (λ t. nat_lt 0 n ≡ t → (t && (n == 0)) ≡ false) [
  | true ↦ λ some. grind (arith, nat_tests)
  | false ↦ λ none. refl
] refl

and_never : (p q : Bool) → q ≡ false → (p && q) ≡ false
and_never false q e = refl
and_never true q e = e

pub takes_no_inquiry : (x : ClientState) (clock : ℕ) → client.take x (no_inquiry x clock) ≡ record { out = []; seen = Nothing; state = client.see x clock }
unfolding client.take client.take_inquire
takes_no_inquiry x clock =
    let y = client.see x clock in
    ap (λ (b : Bool). client.take_inquire_by b (is_hindered y) y 0) (and_never (is_asking y.phase) (holds_under y 0 0) (never_zero (held_of y 0)))

-- the world is the same
pub raised_by_step : (s : Saved) (c clock : ℕ)
    → save_and_send s (OneClient c) (after_client s.live c (Ok (client.take (client_at s.live.clients c) (no_inquiry (client_at s.live.clients c) clock)))) ≡ be_raised true s c clock
raised_by_step s c clock =
    let x = client_at s.live.clients c in
    ap (λ (o : client.Outcome). save_and_send s (OneClient c) (after_client s.live c (Ok o))) (takes_no_inquiry x clock)
    ∙ ap₂ (λ sent visible. record s { live = record s.live { clients = slice_set s.live.clients c (client.see x clock); sent = sent; visible = visible } }) (append-nil s.live.sent) (append-nil s.live.visible)

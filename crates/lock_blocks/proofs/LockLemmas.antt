-- messages that are kept, one after the other; what a call shows and sends
use Rattle.std.proofs.Common.{◌≡◌, ◌<◌, ◌≤◌, ◌+◌, ℕ, Bool, true, false, List, [], ◌∷◌, ◌++◌, length, take, get_or, ap, ap₂, sym, refl, subst, ◌∙◌, arith, filter}
use Rattle.std.specs.Prelude.{ℤ, pos, negsuc, ◌==◌, ◌&&◌, Option, None, Some, if◌then◌else◌}
use Rattle.std.proofs.lemmas.Option.{none-some, same_Some}
use Rattle.std.specs.Bool.{OnFalse, OnTrue}
use Rattle.blocks.specs.Numbers.{done, number_of, refused}
use Rattle.blocks.specs.Tables.{AreRows}
use Rattle.lock_node.specs.Letters.{may_say}
use Rattle.blocks.specs.declared.refusal.Refusal.{Refusal}
use Rattle.blocks.specs.declared.refusal.Refusal.TheVariants.{BadArgument, BadMessage, BadState, Busy, EpochsSpent, FarEpoch, GrantsSpent, InUse, NoPass, NoRoom, NotAsking, NotInside, NotOwner, OldEpoch, Older, OlderGrant, Place, StampsSpent, TokensSpent, TurnsSpent}
use Rattle.message.specs.declared.message.ToVoter.{ToVoter}
use Rattle.message.specs.declared.message.VoterBody.{VoterBody}
use Rattle.message.specs.declared.message.VoterBody.TheVariants as asks
use Rattle.quiet_time.specs.declared.hearing.Hearing.{Hearing}
use Rattle.quiet_time.specs.declared.hearing.Hearing.TheVariants.{PutOff, Taken}
use Rattle.quiet_time.specs.Quiet.{Became, end_of, is_closed, is_old, noted, puts_off, quiet_step, step_of_old}
use Rattle.quiet_time.specs.declared.since_start.SinceStart.{SinceStart}
use Rattle.sessions.specs.Rows.{Row}
use Rattle.voter.specs.declared.state.Grant.{Grant}
use Rattle.voter.specs.declared.state.VoterState.{VoterState}
use Rattle.voter.specs.Leases.{evict, evict_held, release_of}
use Rattle.voter.specs.Steps.{Outcome, is_grant, no_reply, step}
use Rattle.voter.proofs.ReplyLemmas.{CarrySeen-step}
use Rattle.lock_blocks.specs.Bytes.{IsVoter}
use Rattle.lock_blocks.specs.LockSteps.{GoesOnAt, IsLeft, IsShown, LockTakes, lines_heard}
use Rattle.lock_blocks.specs.declared.locks.LockShown.{LockShown}
use Rattle.lock_blocks.specs.Lines.{IsToVoter, Sends, Writes}
use Rattle.std.proofs.lemmas.List.{length-append}
use Rattle.std.proofs.lemmas.List.Elements.{filter_more}
use Rattle.message.specs.declared.message.ToClient.{ToClient}

pub kept_more : (p : ToClient → Bool) (ms : List ToClient) (i : ℕ) (d : ToClient) (before after : List ToClient) (b : Bool) → i < length ms
    → after ≡ before ++ (if b then get_or ms i d ∷ [] else []) → b ≡ p (get_or ms i d) → before ≡ filter p (take i ms)
    → after ≡ filter p (take (i + 1) ms)
kept_more p ms i d before after b less is same was =
    is ∙ ap₂ (λ (xs : List ToClient) (y : Bool). xs ++ (if y then get_or ms i d ∷ [] else [])) was same ∙ sym (filter_more p ms i d less)

few_more : (m : ToClient) (before : List ToClient) (b : Bool) → length (before ++ (if b then m ∷ [] else [])) ≤ length before + 1
few_more m before true = (let long = length-append before (m ∷ []) in omega arith)
few_more m before false = (let long = length-append before [] in omega arith)

pub kept_few : (m : ToClient) (before after : List ToClient) (b : Bool) (i : ℕ) → after ≡ before ++ (if b then m ∷ [] else []) → length before ≤ i
    → length after ≤ i + 1
kept_few m before after b i is few =
    let long = ap (λ (xs : List ToClient). length xs) is in
    let more = few_more m before b in
    omega arith

-- ---- what a call shows and sends

pub marked : (b : Bool) (mark : ℕ) (Same : Type 0) → mark ≡ (if b then 2 else 1) → OnTrue b (Same → ⊥) × OnFalse b Same
    → ((Same → ⊥) → mark ≡ 2) × (Same → mark ≡ 1)
marked true mark Same is by = (λ other. is, λ same. absurd (by.0 same))
marked false mark Same is by = (λ other. absurd (other by.1), λ same. is)

pub sends_written : (text other before after : List ℕ) (written : ℕ) (Changes : Type 0) → text ≡ other → Writes text before after written × (length text ≤ length before) → Changes
    → Sends other before after written done Changes
sends_written text other before after written Changes same wrote changes =
    let here = subst (λ (t : List ℕ). Writes t before after written × (length t ≤ length before)) same wrote in
    let fits = here.1 in
    record { sent = λ room. (refl, here.0, changes); no_room = λ short. absurd (omega arith) }

-- ---- a step of a voter leaves its number and its limit

pub step_keeps : (v : VoterState) (m : ToVoter) (o : Outcome) → step v m ≡ Some o → (v.id ≡ o.state.id) × (v.limit ≡ o.state.limit)
step_keeps v m o is = (let carry = CarrySeen-step v m o is in (sym carry.id, sym carry.limit))

nothing_keeps : (v : VoterState) (o : Outcome) → Some (no_reply v) ≡ Some o → (v.id ≡ o.state.id) × (v.limit ≡ o.state.limit)
nothing_keeps v o is = subst (λ (x : Outcome). (v.id ≡ x.state.id) × (v.limit ≡ x.state.limit)) (same_Some (no_reply v) o is) (refl, refl)

letting_keeps : (b : Bool) (v : VoterState) (g : Grant) (o : Outcome) → (if b then step v (release_of v g) else Some (no_reply v)) ≡ Some o
    → (v.id ≡ o.state.id) × (v.limit ≡ o.state.limit)
letting_keeps true v g o is = step_keeps v (release_of v g) o is
letting_keeps false v g o is = nothing_keeps v o is

evict_by : (held : Option Grant) (v : VoterState) (grant : ℕ) (o : Outcome) → evict_held held v grant ≡ Some o → (v.id ≡ o.state.id) × (v.limit ≡ o.state.limit)
evict_by None v grant o is = nothing_keeps v o is
evict_by (Some g) v grant o is = letting_keeps (g.grant == grant) v g o is

pub evict_keeps : (v : VoterState) (grant : ℕ) (o : Outcome) → evict v grant ≡ Some o → (v.id ≡ o.state.id) × (v.limit ≡ o.state.limit)
evict_keeps v grant o is = evict_by v.held v grant o is

old_keeps : (v : VoterState) (m : ToVoter) (b : VoterBody) (o : Outcome) → step_of_old v m b ≡ Some o → (v.id ≡ o.state.id) × (v.limit ≡ o.state.limit)
old_keeps v m (asks.Request s) o is = step_keeps v m o is
old_keeps v m (asks.Relinquish n) o is = elim (is_grant v.held m.client n) as (λ b. (if b then evict v n else Some (no_reply v)) ≡ Some o → (v.id ≡ o.state.id) × (v.limit ≡ o.state.limit)) [
  | true ↦ evict_keeps v n o
  | false ↦ nothing_keeps v o
] is
old_keeps v m (asks.Release s) o is = step_keeps v m o is

pub quiet_keeps : (old : Bool) (v : VoterState) (m : ToVoter) (o : Outcome) → quiet_step old v m ≡ Some o → (v.id ≡ o.state.id) × (v.limit ≡ o.state.limit)
quiet_keeps false v m o is = step_keeps v m o is
quiet_keeps true v m o is = old_keeps v m m.body o is

end_by : (s : SinceStart) (held : Option Grant) (v : VoterState) (o : Outcome) → end_of s v held ≡ Some o → (v.id ≡ o.state.id) × (v.limit ≡ o.state.limit)
end_by s None v o is = nothing_keeps v o is
end_by s (Some g) v o is = elim (is_old s (Some g)) as (λ b. (if b then evict v g.grant else Some (no_reply v)) ≡ Some o → (v.id ≡ o.state.id) × (v.limit ≡ o.state.limit)) [
  | true ↦ evict_keeps v g.grant o
  | false ↦ nothing_keeps v o
] is

pub end_keeps : (s : SinceStart) (v : VoterState) (o : Outcome) → end_of s v v.held ≡ Some o → (v.id ≡ o.state.id) × (v.limit ≡ o.state.limit)
end_keeps s v o is = end_by s v.held v o is

-- ---- by what the voter's own step gives

-- ---- what became of a message

pub was_put_off : (h : Hearing) (b : Bool) (U T : Type 0) → h ≡ PutOff → Became h b U T → b ≡ true
was_put_off h b U T is k = (subst (λ (g : Hearing). Became g b U T) is k).0

pub was_taken : (h : Hearing) (b : Bool) (U T : Type 0) → h ≡ Taken → Became h b U T → (b ≡ false) × T
was_taken h b U T is k = subst (λ (g : Hearing). Became g b U T) is k

-- ---- no refusal is returned as 0

some_number : (r : Refusal) → 0 < number_of r
some_number BadArgument = omega arith
some_number BadState = omega arith
some_number BadMessage = omega arith
some_number NoRoom = omega arith
some_number Busy = omega arith
some_number NotInside = omega arith
some_number NotAsking = omega arith
some_number StampsSpent = omega arith
some_number GrantsSpent = omega arith
some_number OlderGrant = omega arith
some_number NoPass = omega arith
some_number TurnsSpent = omega arith
some_number OldEpoch = omega arith
some_number FarEpoch = omega arith
some_number InUse = omega arith
some_number NotOwner = omega arith
some_number EpochsSpent = omega arith
some_number Place = omega arith
some_number Older = omega arith
some_number TokensSpent = omega arith

size : ℤ → ℕ
size (pos n) = n
size (negsuc n) = n

pub refused_some : (r : Refusal) → refused r ≡ done → ⊥
unfolding size
refused_some r is = (let none : number_of r ≡ 0 = ap size is in let some = some_number r in omega arith)

sends_more : (text before after : List ℕ) (written : ℕ) (result : ℤ) (Changes More : Type 0) → (result ≡ done → Changes → More) → Sends text before after written result Changes → Sends text before after written result More
sends_more text before after written result Changes More up sends = record {
  sent = λ room. (let s = sends.sent room in (s.0, s.1, up s.0 s.2));
  no_room = sends.no_room;
}

pub goes_on : (step_gives : Option Outcome) (replies slice : List ToClient) (state : VoterState) (voter : VoterState) (rows : ℕ → Option Row) (client : ℕ) (known : VoterState → Type 0) (after out out_after : List ℕ)
    (written : ℕ) (shown : LockShown) (result : ℤ) → step_gives ≡ Some (record { replies = replies; state = state }) → slice ≡ replies → (result ≡ done → known state)
    → Sends (lines_heard rows (record { replies = slice; state = state })) out out_after written result (IsVoter after state × IsShown voter state client shown)
    → GoesOnAt step_gives voter rows client known after out out_after written shown result
goes_on step_gives replies slice state voter rows client known after out out_after written shown result is same knows sends =
    subst (λ (x : Option Outcome). GoesOnAt x voter rows client known after out out_after written shown result) (sym is)
    (subst (λ (ms : List ToClient). Sends (lines_heard rows (record { replies = ms; state = state })) out out_after written result ((IsVoter after state × IsShown voter state client shown) × known state)) same
    (sends_more _ out out_after written result (IsVoter after state × IsShown voter state client shown) ((IsVoter after state × IsShown voter state client shown) × known state) (λ done c. (c, knows done)) sends))

pub goes_not : (step_gives : Option Outcome) (voter : VoterState) (rows : ℕ → Option Row) (client : ℕ) (known : VoterState → Type 0) (after out out_after : List ℕ) (written : ℕ) (shown : LockShown) (result : ℤ)
    → step_gives ≡ None → result ≡ refused GrantsSpent → GoesOnAt step_gives voter rows client known after out out_after written shown result
goes_not step_gives voter rows client known after out out_after written shown result is spent =
    subst (λ (x : Option Outcome). GoesOnAt x voter rows client known after out out_after written shown result) (sym is) spent

-- what is known after a message that was taken
abbrev pub Knows : SinceStart → SinceStart → Bool → Bool → VoterState → ToVoter → VoterState → Type 0
Knows since since_after quiet inside voter m w = since_after ≡ noted (is_closed quiet since voter) inside since w m.client m.body

-- what a line becomes that is the session's to say
abbrev pub Goes : VoterState → ToVoter → (ℕ → Option Row) → (since since_after : SinceStart) → (quiet inside : Bool) → (after out out_after : List ℕ) → ℕ → LockShown → ℤ → Type 0
Goes voter m rows since since_after quiet inside after out out_after written shown result =
    GoesOnAt (quiet_step (quiet && is_old since voter.held) voter m) voter rows m.client (Knows since since_after quiet inside voter m) after out out_after written shown result

pub takes_with : (table before : List ℕ) (since : SinceStart) (quiet inside : Bool) (session epoch : ℕ) (line after : List ℕ) (since_after : SinceStart) (out out_after : List ℕ) (written : ℕ) (shown_before shown : LockShown) (result : ℤ) (voter : VoterState) (m : ToVoter) (row : Row)
    → IsVoter before voter → ((w : VoterState) → IsVoter before w → w ≡ voter) → IsToVoter line voter.id m → ((n : ToVoter) → IsToVoter line voter.id n → n ≡ m)
    → ((rows : ℕ → Option Row) → AreRows table rows → Some row ≡ rows m.client)
    → (may_say row session epoch m.body ≡ false → IsLeft before after since since_after out out_after written shown_before shown result 0)
    → (may_say row session epoch m.body ≡ true → puts_off (is_closed quiet since voter) inside m.body ≡ true → IsLeft before after since since_after out out_after written shown_before shown result 3)
    → (may_say row session epoch m.body ≡ true → puts_off (is_closed quiet since voter) inside m.body ≡ false → (rows : ℕ → Option Row) → AreRows table rows
    → Goes voter m rows since since_after quiet inside after out out_after written shown result)
    → LockTakes table before since quiet inside session epoch line after since_after out out_after written shown_before shown result
takes_with table before since quiet inside session epoch line after since_after out out_after written shown_before shown result voter m row loaded only read only_read in_table foreign puts goes =
    let message : (w : VoterState) (n : ToVoter) → IsVoter before w → IsToVoter line w.id n → n ≡ m =
    λ w n is at. only_read n (subst (λ (v : VoterState). IsToVoter line v.id n) (only w is) at) in
    let its : (w : VoterState) (n : ToVoter) (rows : ℕ → Option Row) (r : Row) → IsVoter before w → IsToVoter line w.id n → AreRows table rows → rows n.client ≡ Some r → row ≡ r =
    λ w n rows r is at are has. same_Some row r (in_table rows are ∙ ap (λ (k : ToVoter). rows k.client) (sym (message w n is at)) ∙ has) in
    let may : (w : VoterState) (n : ToVoter) (rows : ℕ → Option Row) (r : Row) (b : Bool) → IsVoter before w → IsToVoter line w.id n → AreRows table rows → rows n.client ≡ Some r
    → may_say r session epoch n.body ≡ b → may_say row session epoch m.body ≡ b =
    λ w n rows r b is at are has says. ap₂ (λ (x : Row) (k : ToVoter). may_say x session epoch k.body) (its w n rows r is at are has) (sym (message w n is at)) ∙ says in
    let off : (w : VoterState) (n : ToVoter) (b : Bool) → IsVoter before w → IsToVoter line w.id n → puts_off (is_closed quiet since w) inside n.body ≡ b → puts_off (is_closed quiet since voter) inside m.body ≡ b =
    λ w n b is at e. ap₂ (λ (v : VoterState) (k : ToVoter). puts_off (is_closed quiet since v) inside k.body) (sym (only w is)) (sym (message w n is at)) ∙ e in
    record {
      no_voter = λ none. absurd (none voter loaded);
      no_message = λ w is none. absurd (none m (subst (λ (v : VoterState). IsToVoter line v.id m) (sym (only w is)) read));
      no_row = λ w n rows is at are has. absurd (none-some row (sym has ∙ ap (λ (k : ToVoter). rows k.client) (message w n is at) ∙ sym (in_table rows are)));
      foreign = λ w n rows r is at are has says. foreign (may w n rows r false is at are has says);
      put_off = λ w n rows r is at are has says e. puts (may w n rows r true is at are has says) (off w n true is at e);
      takes = λ w n rows r is at are has says e.
          subst (λ (v : VoterState). Goes v n rows since since_after quiet inside after out out_after written shown result) (sym (only w is))
          (subst (λ (k : ToVoter). Goes voter k rows since since_after quiet inside after out out_after written shown result) (sym (message w n is at))
          (goes (may w n rows r true is at are has says) (off w n false is at e) rows are));
    }

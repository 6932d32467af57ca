-- each call of a row is a list of deeds
use Rattle.std.proofs.Common.{◌≡◌, ℕ, Bool, true, false, List, [], ◌∷◌, ◌++◌, refl, ap, ◌∙◌, Option, Some, None, Result, Ok}
use Rattle.std.specs.Prelude.{◌+◌, if◌then◌else◌}
use Rattle.sessions.specs.Rows.{Claim, Close, Crash, Deed, Drop, Request, Reserve, Row, Save, TakeBack, Voter, claimed, closed, does, does_all, dropped, has_number, reserved, taken_back}
use Rattle.session_rows.specs.Calls.{allowed_stamp, claim_fault, closed_epoch, followed_by, gives_way, is_split, new_claim, owner_fault, raised_by, unless}
use Rattle.session_rows.specs.Runs.{Call, Calls, Claims, Closes, Crashes, Drops, Evicts, Learns, Requests, Reserves, Saves, TakesBack, Turn, after_call, after_turn, after_turns, row_or}
use Rattle.session_rows.specs.declared.fault.RowFault.{RowFault}

-- deeds lead from one voter to the other
pub record Leads (v w : Voter) : Type 0 where
  pub deeds : List Deed
  pub there : does_all v deeds ≡ w

all_more : (v : Voter) (ds es : List Deed) → does_all v (ds ++ es) ≡ does_all (does_all v ds) es
all_more v [] es = refl
all_more v (d ∷ ds) es = all_more (does v d) ds es

further : (u v w : Voter) → Leads u v → Leads v w → Leads u w
further u v w uv vw = record {
  deeds = uv.deeds ++ vw.deeds;
  there = all_more u uv.deeds vw.deeds ∙ ap (λ (x : Voter). does_all x vw.deeds) uv.there ∙ vw.there;
}

stays : (v : Voter) → Leads v v
stays v = record { deeds = []; there = refl }

by : (v : Voter) (d : Deed) → Leads v (does v d)
by v d = record { deeds = d ∷ []; there = refl }

-- the voter with this row
abbrev with : Voter → Row → Voter
with v r = record { live = r; saved = v.saved; took = v.took; kept = v.kept }

-- the row may become this one, whatever else the voter has
abbrev Becomes : Row → Row → Type 0
Becomes r s = (v : Voter) → Leads (with v r) (with v s)

same : (r : Row) → Becomes r r
same r v = stays (with v r)

claims : (r : Row) (session epoch : ℕ) → Becomes r (claimed r session epoch)
claims r session epoch v = by (with v r) (Claim session epoch)

reserves : (r : Row) (session epoch stamp : ℕ) → Becomes r (reserved r session epoch stamp)
reserves r session epoch stamp v = by (with v r) (Reserve session epoch stamp)

closes : (r : Row) (session epoch : ℕ) → Becomes r (closed r session epoch)
closes r session epoch v = by (with v r) (Close session epoch)

takes_back : (r : Row) (session epoch : ℕ) → Becomes r (taken_back r session epoch)
takes_back r session epoch v = by (with v r) (TakeBack session epoch)

drops : (r : Row) (epoch stamp : ℕ) → Becomes r (dropped r epoch stamp)
drops r epoch stamp v = by (with v r) (Drop epoch stamp)

becomes : (r s t : Row) → Becomes r s → Becomes s t → Becomes r t
becomes r s t rs st v = further (with v r) (with v s) (with v t) (rs v) (st v)

either : (r s t : Row) (b : Bool) → Becomes r s → Becomes r t → Becomes r (if b then s else t)
either r s t true rs rt = rs
either r s t false rs rt = rt

outcome : (r s : Row) (f : Option RowFault) → Becomes r s → Becomes r (row_or r (unless f s))
outcome r s None rs = rs
outcome r s (Some fault) rs = same r

-- the row of one of two results
either_outcome : (r : Row) (one two : Result Row RowFault) (b : Bool) → Becomes r (row_or r one) → Becomes r (row_or r two) → Becomes r (row_or r (if b then one else two))
either_outcome r one two true first second = first
either_outcome r one two false first second = second

follows : (r other : Row) (name : Option ℕ) → Becomes r (followed_by r other name)
follows r other None = drops r (closed_epoch other) other.reserved
follows r other (Some session) =
    let low = dropped r 0 other.base in
    let new = claimed low session other.epoch in
    becomes r low (reserved new session other.epoch other.reserved) (drops r 0 other.base)
    (becomes low new (reserved new session other.epoch other.reserved) (claims low session other.epoch) (reserves new session other.epoch other.reserved))

raises : (r : Row) (stamp : ℕ) (name : Option ℕ) → Becomes r (raised_by r stamp name)
raises r stamp None = drops r 0 stamp
raises r stamp (Some session) = reserves r session r.epoch stamp

call_becomes : (r : Row) (call : Call) → Becomes r (after_call r call)
call_becomes r (Claims claim is_silent bounds) =
    let new = claimed r claim.session claim.epoch in
    either_outcome r (Ok r) (unless (claim_fault r claim.epoch is_silent bounds.epochs) (new_claim r claim bounds.stamp)) (has_number r claim.session claim.epoch) (same r)
    (outcome r (new_claim r claim bounds.stamp) (claim_fault r claim.epoch is_silent bounds.epochs)
    (becomes r new (new_claim r claim bounds.stamp) (claims r claim.session claim.epoch) (λ v. by (with v new) (Reserve claim.session claim.epoch _))))
call_becomes r (Reserves session epoch stamp most) =
    outcome r (reserved r session epoch (allowed_stamp stamp most)) (owner_fault r session epoch) (reserves r session epoch (allowed_stamp stamp most))
call_becomes r (Closes session epoch) = outcome r (closed r session epoch) (owner_fault r session epoch) (closes r session epoch)
call_becomes r (TakesBack session epoch) = outcome r (taken_back r session epoch) (owner_fault r session epoch) (takes_back r session epoch)
call_becomes r Evicts = outcome r (dropped r (r.epoch + 1) 0) _ (drops r (r.epoch + 1) 0)
call_becomes r (Drops epoch stamp) = drops r epoch stamp
call_becomes r (Learns other heard) =
    either r (followed_by r other other.session) _ (gives_way r other heard) (follows r other other.session)
    (either r (dropped r r.epoch other.reserved) (raised_by r other.reserved r.session) (is_split r other heard) (drops r r.epoch other.reserved) (raises r other.reserved r.session))

turn_leads : (v : Voter) (t : Turn) → Leads v (after_turn v t)
turn_leads v (Calls call) = call_becomes v.live call v
turn_leads v (Requests session epoch stamp) = by v (Request session epoch stamp)
turn_leads v Saves = by v Save
turn_leads v Crashes = by v Crash

pub turns_lead : (v : Voter) (ts : List Turn) → Leads v (after_turns v ts)
turns_lead v [] = stays v
turns_lead v (t ∷ ts) = further v (after_turn v t) (after_turns (after_turn v t) ts) (turn_leads v t) (turns_lead (after_turn v t) ts)

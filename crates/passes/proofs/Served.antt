-- what voters that keep rows tell sessions
use Rattle.std.proofs.Common.{◌≡◌, ℕ, true, false, List, [], ◌∷◌, refl, sym, ap, subst, ◌∙◌, inl, inr, Bool}
use Rattle.std.specs.Prelude.{if◌then◌else◌}
use Rattle.lock_node.specs.Letters.{Letter}
use Rattle.lock_node.specs.Locks.{Begins, LockNode, turns_of}
use Rattle.lock_node.specs.Thrift.{HostTurn, LeaveOut, events_in, host_sent, life_by}
use Rattle.message.specs.declared.message.ClientBody.{ClientBody}
use Rattle.message.specs.declared.message.ClientBody.TheVariants as to_client
use Rattle.message.specs.declared.message.ToClient.{ToClient}
use Rattle.passes.specs.Grants.{Gave, Giving, IsGiven, IsLockedFor, IsPass}
use Rattle.passes.specs.Requests.{AllMayDo, ProcessDeed, Does, Forgets, IsRun, MayComeToProcess, MayDo, Process, Raises, Restarts, Run, Saves, Show, StartsAnew, WasInside, does, process_of, shown}
use Rattle.passes.specs.Served.{IsNewVoting, Told, Voting, voters_of}
use Rattle.passes.specs.Sessions.{AreServed, Rows, TookFrom}
use Rattle.requester.specs.Steps as client
use Rattle.session_rows.specs.Runs as rows
use Rattle.session_rows.proofs.Deeds.{turns_lead}
use Rattle.sessions.specs.Rows.{IsOneOf, Use, Voter, begin, is_taken}
use Rattle.voter_node.specs.Lives.{said, says}
use Rattle.voter_node.specs.Nodes.{Node}

-- what leaves is given out by the voter alone, for the lock
abbrev pub GivenOut : Type 0
GivenOut = (n : LockNode) (turns : List HostTurn) (l : Letter) → Begins n → LeaveOut n turns → IsOneOf l (host_sent n turns)
    → IsOneOf l.message (says (n.locks l.lock) (life_by l.lock n turns))

-- what leaves reaches who asked
abbrev pub LettersReach : Type 0
LettersReach = (n : LockNode) (turns : List HostTurn) (l : Letter) (stamp grant : ℕ) → Begins n → LeaveOut n turns → IsOneOf l (host_sent n turns)
    → l.message.body ≡ to_client.Locked stamp grant
    → (epoch : ℕ) × IsOneOf (record { session = l.session; epoch = epoch; stamp = stamp }) (rows.after_turns (begin (n.rows l.message.client)) (turns_of l.lock l.message.client (events_in turns))).kept

-- ---- what was told was given

locked : (body : ClientBody) (stamp grant : ℕ) → body ≡ to_client.Locked stamp grant → IsLockedFor body stamp grant
locked body stamp grant is = subst (λ (b : ClientBody). IsLockedFor b stamp grant) (sym is) (refl, refl)

given_by : (ms : List ToClient) (m : ToClient) (client stamp grant : ℕ) → IsOneOf m ms → m.client ≡ client → m.body ≡ to_client.Locked stamp grant → IsGiven ms client stamp grant
given_by [] m client stamp grant is of body = absurd is
given_by (r ∷ rs) m client stamp grant is of body = elim is [
  | inl here ↦ inl (ap (λ (x : ToClient). x.client) (sym here) ∙ of, locked r.body stamp grant (ap (λ (x : ToClient). x.body) (sym here) ∙ body))
  | inr there ↦ inr (given_by rs m client stamp grant there of body)
]

pub told_given : GivenOut → (voting : ℕ → Voting) (lock : ℕ) (limit : ℕ → ℕ) → ((v : ℕ) → IsNewVoting lock v (limit v) (voting v))
    → (session v client stamp grant : ℕ) → Told voting lock session v client stamp grant → Gave (voters_of voting lock limit) v client stamp grant
told_given out voting lock limit new session v client stamp grant told =
    let n = (voting v).first in
    let ts = (voting v).turns in
    let at : IsOneOf told.0.message (says (n.locks lock) (life_by lock n ts)) =
    subst (λ (k : ℕ). IsOneOf told.0.message (says (n.locks k) (life_by k n ts))) told.2 (out n ts told.0 (new v).begins (new v).may told.1) in
    given_by (said v (limit v) (life_by lock n ts)) told.0.message client stamp grant
    (subst (λ (x : Node). IsOneOf told.0.message (says x (life_by lock n ts))) (new v).vote at) told.4 told.5

-- ---- a run may take more, if more was given

may_come : (quorums : List (List ℕ)) (gave more : Giving) (p : Process) (cause : client.Cause) → ((v client stamp grant : ℕ) → gave v client stamp grant → more v client stamp grant)
    → MayComeToProcess quorums gave p.live cause → MayComeToProcess quorums more p.live cause
may_come quorums gave more p cause all may =
    record { accepts = may.accepts; among = may.among; given = λ v stamp grant is. all v p.live.id stamp grant (may.given v stamp grant is) }

may_do : (quorums : List (List ℕ)) (gave more : Giving) (p : Process) (d : ProcessDeed) → ((v client stamp grant : ℕ) → gave v client stamp grant → more v client stamp grant)
    → MayDo quorums gave p d → MayDo quorums more p d
may_do quorums gave more p (Does cause) all may = may_come quorums gave more p cause all may
may_do quorums gave more p Saves all may = tt
may_do quorums gave more p Forgets all may = tt
may_do quorums gave more p Restarts all may = tt
may_do quorums gave more p (StartsAnew clock) all may = tt
may_do quorums gave more p (Raises clock) all may = tt

all_may : (quorums : List (List ℕ)) (gave more : Giving) (p : Process) (ds : List ProcessDeed) → ((v client stamp grant : ℕ) → gave v client stamp grant → more v client stamp grant)
    → AllMayDo quorums gave p ds → AllMayDo quorums more p ds
all_may quorums gave more p [] all may = tt
all_may quorums gave more p (d ∷ ds) all may = (may_do quorums gave more p d all may.0, all_may quorums gave more (does p d) ds all may.1)

pub runs_on : (quorums : List (List ℕ)) (gave more : Giving) (run : Run) → ((v client stamp grant : ℕ) → gave v client stamp grant → more v client stamp grant)
    → IsRun quorums gave run → IsRun quorums more run
runs_on quorums gave more run all is = record { idle = is.idle; may = all_may quorums gave more (process_of run.first) run.deeds all is.may }

-- ---- sessions are served

-- what a number has kept it took
abbrev KeptIsTaken : Voter → Type 0
KeptIsTaken v = (u : Use) → IsOneOf u v.kept → IsOneOf u v.took

more_took : (v : Voter) (x u : Use) (b : Bool) → IsOneOf u v.took → IsOneOf u (if b then x ∷ v.took else v.took)
more_took v x u true is = inr is
more_took v x u false is = is

keeps_turn : (v : Voter) (t : rows.Turn) → KeptIsTaken v → KeptIsTaken (rows.after_turn v t)
keeps_turn v (rows.Calls call) keeps = keeps
keeps_turn v (rows.Requests session epoch stamp) keeps = λ u is. more_took v (record { session = session; epoch = epoch; stamp = stamp }) u (is_taken v.live session epoch stamp) (keeps u is)
keeps_turn v rows.Saves keeps = λ u is. is
keeps_turn v rows.Crashes keeps = λ u is. is

keeps_turns : (v : Voter) (ts : List rows.Turn) → KeptIsTaken v → KeptIsTaken (rows.after_turns v ts)
keeps_turns v [] keeps = keeps
keeps_turns v (t ∷ ts) keeps = keeps_turns (rows.after_turn v t) ts (keeps_turn v t keeps)

-- the rows that the voters' processes keep, as lives of each number, with the REQUESTs for a lock
abbrev pub rows_of : (ℕ → Voting) → ℕ → Rows
rows_of voting lock client = record {
  row = λ v. (voting v).first.rows client;
  deeds = λ v. (turns_lead (begin ((voting v).first.rows client)) (turns_of lock client (events_in (voting v).turns))).deeds;
}

told_took : LettersReach → (voting : ℕ → Voting) (lock session v client stamp grant : ℕ) → Begins (voting v).first → LeaveOut (voting v).first (voting v).turns → Told voting lock session v client stamp grant
    → TookFrom (rows_of voting lock) v client session stamp
told_took reaches voting lock session v client stamp grant begins may told =
    let n = (voting v).first in
    let es = events_in (voting v).turns in
    let use_of : ℕ → ℕ → Use = λ s e. record { session = s; epoch = e; stamp = stamp } in
    let one = reaches n (voting v).turns told.0 stamp grant begins may told.1 told.5 in
    let by_lock : IsOneOf (use_of told.0.session one.0) (rows.after_turns (begin (n.rows told.0.message.client)) (turns_of lock told.0.message.client es)).kept =
    subst (λ (k : ℕ). IsOneOf (use_of told.0.session one.0) (rows.after_turns (begin (n.rows told.0.message.client)) (turns_of k told.0.message.client es)).kept) told.2 one.1 in
    let by_client : IsOneOf (use_of told.0.session one.0) (rows.after_turns (begin (n.rows client)) (turns_of lock client es)).kept =
    subst (λ (c : ℕ). IsOneOf (use_of told.0.session one.0) (rows.after_turns (begin (n.rows c)) (turns_of lock c es)).kept) told.4 by_lock in
    let mine : IsOneOf (use_of session one.0) (rows.after_turns (begin (n.rows client)) (turns_of lock client es)).kept =
    subst (λ (s : ℕ). IsOneOf (use_of s one.0) (rows.after_turns (begin (n.rows client)) (turns_of lock client es)).kept) told.3 by_client in
    let took = keeps_turns (begin (n.rows client)) (turns_of lock client es) (λ u is. is) (use_of session one.0) mine in
    (one.0, subst (λ (x : Voter). IsOneOf (use_of session one.0) x.took) (sym (turns_lead (begin (n.rows client)) (turns_of lock client es)).there) took)

pub served_by : LettersReach → (quorums : List (List ℕ)) (voting : ℕ → Voting) (lock : ℕ) (session : ℕ → ℕ) (runs : ℕ → Run)
    → ((v : ℕ) → Begins (voting v).first) → ((v : ℕ) → LeaveOut (voting v).first (voting v).turns) → ((w : Show) → WasInside runs w → IsPass quorums (Told voting lock (session w.process)) (shown runs w))
    → ((k l : ℕ) → session k ≡ session l → k ≡ l) → AreServed (rows_of voting lock) session runs
served_by reaches quorums voting lock session runs begins may show own = record {
  took = λ w inside v some. told_took reaches voting lock (session w.process) v (shown runs w).client (shown runs w).stamp _ (begins v) (may v) ((show w inside).given v some);
  own = own;
}

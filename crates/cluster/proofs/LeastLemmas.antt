-- The smallest client whose work ended early, with one member more.
use Rattle.std.proofs.Common.{◌≡◌, ℕ, ◌<◌, ◌≤◌, ◌++◌, ◌∷◌, [], List, Option, None, Some, sym, subst, arith}
use Rattle.std.specs.Prelude.{All, IfSome}
use Rattle.std.proofs.lemmas.List.Elements.{All-push, All-weaker, Contains-append_left, Contains-push}
use Rattle.run_outcome.specs.declared.fault.ClusterFault.{ClusterFault}
use Rattle.members.specs.Members.{MemberState}
use Rattle.cluster.specs.Drives.{IsLeast, IsLeastOf}

pub IfSome-fact : {A : Type 0} (o : Option A) {P : Type 0} → P → IfSome o (λ x. P)
IfSome-fact None fact = tt
IfSome-fact (Some x) fact = fact

IfSome-then : {A : Type 0} (o : Option A) (P Q : Type 0) → (P → Q) → IfSome o (λ x. P) → IfSome o (λ x. Q)
IfSome-then None P Q h some = tt
IfSome-then (Some x) P Q h some = h some

-- the member has no smaller number, or no fault
pub IsLeast-later : (members : List MemberState) (m : MemberState) (client : ℕ) (fault : ClusterFault) → IsLeast members client fault → IfSome m.fault (λ f. client ≤ m.requester.id)
    → IsLeast (members ++ m ∷ []) client fault
IsLeast-later members m client fault is later = record {
  member = is.member;
  among = Contains-append_left members (m ∷ []) is.member is.among;
  number = is.number;
  ended = is.ended;
  others = All-push (λ n. IfSome n.fault (λ f. client ≤ n.requester.id)) members m is.others later;
}

-- the member has no fault
pub IsLeastOf-fine : (members : List MemberState) (m : MemberState) (least : Option (ℕ × ClusterFault)) → m.fault ≡ None → IsLeastOf members least → IsLeastOf (members ++ m ∷ []) least
IsLeastOf-fine members m None fine all = All-push (λ n. n.fault ≡ None) members m all fine
IsLeastOf-fine members m (Some x) fine is = IsLeast-later members m x.0 x.1 is (subst (λ f. IfSome f (λ g. x.0 ≤ m.requester.id)) (sym fine) tt)

IsLeast-here : (members : List MemberState) (m : MemberState) (client : ℕ) (fault : ClusterFault) → client ≡ m.requester.id → m.fault ≡ Some fault
    → All (λ n. IfSome n.fault (λ f. client ≤ n.requester.id)) members
    → IsLeast (members ++ m ∷ []) client fault
IsLeast-here members m client fault is ended others = record {
  member = m;
  among = Contains-push members m;
  number = sym is;
  ended = ended;
  others = All-push (λ n. IfSome n.fault (λ f. client ≤ n.requester.id)) members m others (subst (λ f. IfSome f (λ g. client ≤ m.requester.id)) (sym ended) (omega (arith, is)));
}

-- the member is the first with a fault
pub IsLeast-first : (members : List MemberState) (m : MemberState) (client : ℕ) (fault : ClusterFault) → client ≡ m.requester.id → m.fault ≡ Some fault → IsLeastOf members None
    → IsLeast (members ++ m ∷ []) client fault
IsLeast-first members m client fault is ended fine =
    IsLeast-here members m client fault is ended
    (All-weaker (λ n. n.fault ≡ None) (λ n. IfSome n.fault (λ f. client ≤ n.requester.id)) (λ n none. subst (λ f. IfSome f (λ g. client ≤ n.requester.id)) (sym none) tt) members fine)

-- the member has a smaller number than the others with a fault
pub IsLeast-smaller : (members : List MemberState) (m : MemberState) (client least : ℕ) (fault old : ClusterFault) → client ≡ m.requester.id → m.fault ≡ Some fault → client < least
    → IsLeast members least old
    → IsLeast (members ++ m ∷ []) client fault
IsLeast-smaller members m client least fault old is ended smaller was =
    IsLeast-here members m client fault is ended
    (All-weaker (λ n. IfSome n.fault (λ f. least ≤ n.requester.id)) (λ n. IfSome n.fault (λ f. client ≤ n.requester.id))
    (λ n. IfSome-then n.fault (least ≤ n.requester.id) (client ≤ n.requester.id) (λ le. omega (arith, le, smaller))) members was.others)

-- what the steps of a process keep: which voters count, the highest ceiling that is known, and the floor
use Rattle.std.proofs.Common.{◌≡◌, ℕ, ◌+◌, ◌≤◌, Bool, true, false, refl, sym, subst, ◌∙◌, ◌⊎◌, inl, inr, arith, Option, Some, None}
use Rattle.std.specs.Prelude.{◌==◌, ◌/◌, ◌&&◌, ◌||◌, max, nat_lt, if◌then◌else◌, is_some, not, unwrap_or}
use Rattle.std.proofs.lemmas.Bool.{false≢true}
use Rattle.std.proofs.lemmas.Bool.Decides.{nat_tests}
use Rattle.starts.specs.declared.start.Answers.{Answers}
use Rattle.starts.specs.declared.start.Start.{Start}
use Rattle.starts.specs.declared.start.Turn.TheVariants.{AsksAgain, Raises, Serves, ServesQuietly, Waits}
use Rattle.starts.specs.Starts.{after_turn, asks, begins, counted_by, has_voter, hears, is_kept_by, is_waiting, may_ask, needs, renews, turn_of, with_voter}
use Rattle.starts.proofs.VoterSets.{has_with}

-- From a start to a later one. Voters count that counted, and new ones.
pub record Goes (New : ℕ → Type 0) (s t : Start) : Type 0 where
  pub more : s.known ≤ t.known
  pub stays : s.serves ≡ true → (t.serves ≡ true) × (t.floor ≡ s.floor)
  pub begins : s.serves ≡ false → t.serves ≡ true → s.known ≤ t.floor
  pub counts : (v : ℕ) → has_voter t.counted v ≡ true → has_voter s.counted v ≡ true ⊎ New v

abbrev pub Nobody : ℕ → Type 0
Nobody v = ⊥

-- what counts does not change, nor does the process begin to serve
pub same : (s t : Start) → t.known ≡ s.known → t.serves ≡ s.serves → (s.serves ≡ true → t.floor ≡ s.floor) → t.counted ≡ s.counted → Goes Nobody s t
same s t known serves floor counted = record {
  more = omega arith;
  stays = λ is. (serves ∙ is, floor is);
  begins = λ not_yet now. absurd (false≢true (sym not_yet ∙ sym serves ∙ now));
  counts = λ v has. inl (subst (λ (c : ℕ). has_voter c v ≡ true) counted has);
}

floor_stays : (b : Bool) (floor above : ℕ) → b ≡ true → (if b then floor else above) ≡ floor
floor_stays true floor above is = refl
floor_stays false floor above is = absurd (false≢true is)

pub asks_go : (s : Start) (above : ℕ) → Goes Nobody s (asks s above)
asks_go s above = same s (asks s above) refl refl (floor_stays s.serves s.floor above) refl

pub begins_go : (s : Start) (a : Answers) → Goes Nobody s (begins s a)
begins_go s a = elim ((s.asked == 0) && may_ask s a) as (λ b. Goes Nobody s (if b then asks s (max s.known s.ceiling) else s)) [
  | true ↦ asks_go s (max s.known s.ceiling)
  | false ↦ same s s refl refl (λ is. refl) refl
]

pub needs_go : (s : Start) (number : ℕ) → Goes Nobody s (needs s number)
needs_go s number = elim (s.serves && (not (is_waiting s) && nat_lt s.ceiling (number + s.block / 2))) as (λ b. Goes Nobody s (if b then asks s (max s.ceiling number) else s)) [
  | true ↦ asks_go s (max s.ceiling number)
  | false ↦ same s s refl refl (λ is. refl) refl
]

pub renews_go : (s : Start) → Goes Nobody s (renews s)
renews_go s = same s (renews s) refl refl (λ is. refl) refl

-- the process begins to serve: its floor is as high as all that it knew
served : (s : Start) → s.serves ≡ false → nat_lt s.floor s.known ≡ false → Goes Nobody s (record s { ceiling = s.asked; serves = true })
served s not_yet low = record {
  more = omega arith;
  stays = λ is. (refl, refl);
  begins = λ is now. (let least : s.known ≤ s.floor = grind (arith, nat_tests) in least);
  counts = λ v has. inl has;
}

raised : (s : Start) → Goes Nobody s (record s { ceiling = s.asked })
raised s = same s (record s { ceiling = s.asked }) refl refl (λ is. refl) refl

turn_by : (s : Start) (waits serves low clean : Bool) → s.serves ≡ serves → nat_lt s.floor s.known ≡ low
    → Goes Nobody s (after_turn s (if waits then Waits else if serves then Raises else if low then AsksAgain else if clean then Serves else ServesQuietly))
turn_by s true serves low clean is at = same s s refl refl (λ is. refl) refl
turn_by s false true low clean is at = raised s
turn_by s false false true clean is at = asks_go s s.known
turn_by s false false false true is at = served s is at
turn_by s false false false false is at = served s is at

pub turns_go : (s : Start) (have_quorums : Bool) → Goes Nobody s (after_turn s (turn_of s have_quorums))
turns_go s have_quorums =
    turn_by s (not (is_waiting s && have_quorums)) s.serves (nat_lt s.floor s.known) (s.is_clean || ((s.ceiling == 0) && (s.known == 0))) refl refl

-- ---- a voter says which ceiling it knew

-- a voter that counts from now on
pub record IsNew (t : Start) (voter : ℕ) (says : Option ℕ) (v : ℕ) : Type 0 where
  pub it : v ≡ voter
  pub not_yet : t.serves ≡ false
  pub ceiling : ℕ
  pub said : says ≡ Some ceiling
  pub known : ceiling ≤ t.known

counts_by : (s : Start) (voter v : ℕ) (b : Bool) → s.serves ≡ b → has_voter (if not b then with_voter s.counted voter else s.counted) v ≡ true
    → has_voter s.counted v ≡ true ⊎ ((v ≡ voter) × (s.serves ≡ false))
counts_by s voter v true serves has = inl has
counts_by s voter v false serves has = elim (has_with s.counted voter v has) [
  | inl was ↦ inl was
  | inr it ↦ inr (it, serves)
]

says_so : (s t : Start) (voter ceiling : ℕ) → t.counted ≡ counted_by s true voter → t.known ≡ max s.known ceiling → t.serves ≡ s.serves → t.floor ≡ s.floor
    → Goes (IsNew t voter (Some ceiling)) s t
says_so s t voter ceiling counted known serves floor = record {
  more = omega arith;
  stays = λ is. (serves ∙ is, floor);
  begins = λ not_yet now. absurd (false≢true (sym not_yet ∙ sym serves ∙ now));
  counts = λ v has. elim (counts_by s voter v s.serves refl (subst (λ (c : ℕ). has_voter c v ≡ true) counted has)) [
    | inl was ↦ inl was
    | inr now ↦ inr (record { it = now.0; not_yet = serves ∙ now.1; ceiling = ceiling; said = refl; known = omega arith })
  ];
}

pub hears_goes : (s : Start) (voter ceiling : ℕ) (is_clean : Bool) → Goes (IsNew (hears s voter ceiling is_clean) voter (Some ceiling)) s (hears s voter ceiling is_clean)
hears_goes s voter ceiling is_clean = says_so s (hears s voter ceiling is_clean) voter ceiling refl refl refl refl

pub widens : (New : ℕ → Type 0) (s t : Start) → Goes Nobody s t → Goes New s t
widens New s t goes = record {
  more = goes.more;
  stays = goes.stays;
  begins = goes.begins;
  counts = λ v has. elim (goes.counts v has) [
    | inl was ↦ inl was
    | inr never ↦ absurd never
  ];
}

kept : Start → ℕ → Option ℕ → Start
kept s voter says = record s { kept = with_voter s.kept voter; counted = counted_by s (is_some says) voter; known = max s.known (unwrap_or says 0) }

kept_goes : (s : Start) (voter : ℕ) (says : Option ℕ) → Goes (IsNew (kept s voter says) voter says) s (kept s voter says)
unfolding kept
kept_goes s voter None = widens _ s (kept s voter None) (same s (kept s voter None) (omega arith) refl (λ is. refl) refl)
kept_goes s voter (Some ceiling) = says_so s (kept s voter (Some ceiling)) voter ceiling refl refl refl refl

pub keeps_go : (s : Start) (voter ceiling : ℕ) (says : Option ℕ) → Goes (IsNew (is_kept_by s voter ceiling says) voter says) s (is_kept_by s voter ceiling says)
unfolding kept
keeps_go s voter ceiling says =
    elim (ceiling == s.asked) as (λ b. Goes (IsNew (if b then kept s voter says else s) voter says) s (if b then kept s voter says else s)) [
      | true ↦ kept_goes s voter says
      | false ↦ widens _ s s (same s s refl refl (λ is. refl) refl)
    ]

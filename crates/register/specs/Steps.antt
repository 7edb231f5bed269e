-- What the parts of a register hold after a place is filled anew.
use Rattle.std.specs.Prelude.{◌≡◌, ℕ, ◌+◌, ◌-◌, ◌<◌, ◌≤◌, List, [], ◌∷◌, ◌++◌, map, length, Some, None, vec_items, vec_len, Option, Result, MatchResult, ◌≢◌, slice_index_or, slice_set}
use Rattle.std.specs.Option.{option_map}
use Rattle.filing.specs.declared.signed.Signed.{Signed}
use Rattle.enrolment.specs.Views.{enrolled}
use Rattle.enrolment.specs.declared.enrolment.Enrolment.{Enrolment}
use Rattle.limit.specs.Laws.{Meaning}
use Rattle.standard.specs.Places.{filing_at, filings, standing}
use Rattle.register.specs.Views.{assessment_fields, anew, logged}
use Rattle.register.specs.declared.places.EnrolledPlace.{EnrolledPlace}
use Rattle.register.specs.declared.places.Place.{Place}
use Rattle.register.specs.declared.refusals.Refusal.{Refusal}
use Rattle.register.specs.declared.refusals.Refusal.TheVariants.{Unknown, Enrolled, Enrolment as BadEnrolment, Stands, Vacant, Book, Bare, Spent}
use Rattle.register.specs.declared.table.Plant.{Plant}
use Rattle.register.specs.declared.table.Register.{Register}

-- the place i holds v, and the places from there on are assessed anew with the number n
pub record Refilled (meaning : Meaning) (p q : Plant) (i : ℕ) (e : Enrolment) (v : Option Signed) (n : ℕ) : Type 0 where
  pub enrolment : q.enrolment ≡ p.enrolment
  pub places : filings q.places ≡ slice_set (filings p.places) i (filing_at v)
  pub before : (k : ℕ) → k < i → slice_index_or q.assessed k None ≡ slice_index_or p.assessed k None
  pub after : (k : ℕ) → i ≤ k → k < 20 → option_map assessment_fields (slice_index_or q.assessed k None) ≡ anew meaning (enrolled e) (slice_set (filings p.places) i (filing_at v)) k n

-- so at the facility f and the year y, and nothing at other facilities
pub record Refit (meaning : Meaning) (ps qs : List Plant) (f y : ℕ) (e : Enrolment) (v : Option Signed) (n : ℕ) : Type 0 where
  pub long : length qs ≡ length ps
  pub plant : (p q : Plant) → p ≡ slice_index_or ps (f - 1) p → q ≡ slice_index_or qs (f - 1) q → Refilled meaning p q (y - 2017) e v n
  pub others : (k : ℕ) (d : Plant) → (k ≢ f - 1) → slice_index_or qs k d ≡ slice_index_or ps k d

module _ {M : Type 0} (μ : M → Meaning) where
  -- so in a register, and the number is used for it
  pub record Put (r s : Register M) (f y : ℕ) (e : Enrolment) (v : Option Signed) (n : ℕ) : Type 0 where
    pub used : s.used ≡ n
    pub method : s.method ≡ r.method
    pub log : s.log ≡ r.log
    pub refit : Refit (μ r.method) r.plants s.plants f y e v n

  -- an act went into the undo log and the table
  pub record Done (r s : Register M) (f y : ℕ) (e : Enrolment) (old v : Option Signed) (n : ℕ) : Type 0 where
    pub room : vec_len r.log.entries < 32
    pub unspent : r.used < 1000000
    pub number : n ≡ r.used + 1
    pub used : s.used ≡ n
    pub method : s.method ≡ r.method
    pub log : map logged (vec_items s.log.entries) ≡ map logged (vec_items r.log.entries) ++ (record { facility = f; year = y; before = filing_at old } ∷ [])
    pub log_len : vec_len s.log.entries ≡ vec_len r.log.entries + 1
    pub refit : Refit (μ r.method) r.plants s.plants f y e v n

  -- why an act is refused by the undo log and the numbers
  abbrev pub Full : Register M → Refusal → Type 0
  Full r Book = 32 ≤ vec_len r.log.entries
  Full r Spent = (vec_len r.log.entries < 32) × (1000000 ≤ r.used)
  Full r Unknown = ⊥
  Full r Enrolled = ⊥
  Full r BadEnrolment = ⊥
  Full r Stands = ⊥
  Full r Vacant = ⊥
  Full r Bare = ⊥

  abbrev pub Acted : Register M → Register M → ℕ → ℕ → Enrolment → Option Signed → Option Signed → Result ℕ Refusal → Type 0
  Acted r s f y e old v ans = MatchResult ans (Done r s f y e old v) (λ w. (s ≡ r) × Full r w)

-- the next number, where it is not above the last
abbrev pub NextNumber : ℕ → Result ℕ Refusal → Type 0
NextNumber used ans = MatchResult ans (λ n. (used < 1000000) × (n ≡ used + 1)) (λ w. (w ≡ Spent) × (1000000 ≤ used))

-- the facility f is one of the four, and enrolled by e
pub record EnrolledBy {M : Type 0} (r : Register M) (f : ℕ) (e : Enrolment) : Type 0 where
  pub low : 1 ≤ f
  pub high : f ≤ 4
  pub enrolment : (d : Plant) → d ≡ slice_index_or r.plants (f - 1) d → d.enrolment ≡ Some e

-- the facility f is not enrolled
abbrev pub Absent : {M : Type 0} → Register M → ℕ → Type 0
Absent r f = 1 ≤ f → f ≤ 4 → (d : Plant) → d ≡ slice_index_or r.plants (f - 1) d → d.enrolment ≡ None

abbrev pub Sought : {M : Type 0} → Register M → ℕ → Result Enrolment Refusal → Type 0
Sought r f ans = MatchResult ans (EnrolledBy r f) (λ w. (w ≡ Unknown) × Absent r f)

-- the place p, with the enrolment of its facility
abbrev pub SoughtAt : {M : Type 0} → Register M → Place → Result EnrolledPlace Refusal → Type 0
SoughtAt r p ans = MatchResult ans (λ at. (at.place ≡ p) × EnrolledBy r at.place.facility at.enrolment) (λ w. (w ≡ Unknown) × Absent r p.facility)

-- p stands at the place of the facility f and the year y; a year without a place has nothing
abbrev pub StandsAt : {M : Type 0} → Register M → ℕ → ℕ → Option Signed → Type 0
StandsAt r f y p = (d : Plant) → d ≡ slice_index_or r.plants (f - 1) d → filing_at p ≡ standing (filings d.places) y

-- A register that has lived a history holds what the history says.
use Rattle.std.specs.Prelude.{◌≡◌, ℕ, ◌+◌, ◌-◌, ◌<◌, ◌≤◌, true, false, List, [], ◌∷◌, ◌++◌, map, length, is_some, None, vec_items, vec_len, slice_index_or}
use Rattle.std.specs.Option.{option_map}
use Rattle.std.specs.List.{AllByRecursion}
use Rattle.enrolment.specs.Ranges.{between}
use Rattle.enrolment.specs.Views.{enrolled}
use Rattle.limit.specs.Laws.{Meaning}
use Rattle.standard.specs.Places.{filings}
use Rattle.register.specs.Acceptance.{accepted}
use Rattle.register.specs.Answers.{Answered, answer_to, assessment_at}
use Rattle.register.specs.Calls.{CallFields, Act, Event}
use Rattle.register.specs.History.{left_by, places_of, enrolment_of, numbers}
use Rattle.register.specs.Striking.{undo_log, closed_acts, unstruck}
use Rattle.register.specs.Views.{assessment_fields, Logged, logged}
use Rattle.register.specs.declared.table.Plant.{Plant}
use Rattle.register.specs.declared.table.Register.{Register}

-- the acts of the undo log, each with what stood at its place before it, oldest first
abbrev pub logged_acts : List Act → List Act → List Logged
logged_acts [] older = []
logged_acts (a ∷ more) older =
    logged_acts more older
    ++ (record { facility = a.facility; year = a.year; before = left_by (more ++ older) a.facility a.year } ∷ [])

pub record PlantLived (meaning : Meaning) (es : List Event) (f : ℕ) (p : Plant) : Type 0 where
  pub enrolment_is : option_map enrolled p.enrolment ≡ enrolment_of es f
  pub places_are : filings p.places ≡ places_of es f
  pub assessed_are : (k : ℕ) → k < 20 → option_map assessment_fields (slice_index_or p.assessed k None) ≡ assessment_at meaning es f (2017 + k)

abbrev pub PlantsLived : Meaning → List Event → List Plant → Type 0
PlantsLived meaning es ps = (f : ℕ) → 1 ≤ f → f ≤ 4 → (p : Plant) → p ≡ slice_index_or ps (f - 1) p → PlantLived meaning es f p

-- an act that stands is on an enrolled facility, in a year that has a place
pub record Known (es : List Event) (a : Act) : Type 0 where
  pub is_enrolled : is_some (enrolment_of es a.facility) ≡ true
  pub from : 2017 ≤ a.year
  pub to : a.year ≤ 2036

-- A history is no value that a register holds, so this is a predicate, with the method's meaning as its parameter.
module _ {M : Type 0} (μ : M → Meaning) where
  -- the register holds what the accepted events say
  pub record Holds (m : M) (r : Register M) (es : List Event) : Type 0 where
    pub method_is : r.method ≡ m
    pub four : length r.plants ≡ 4
    pub used_is : r.used ≡ numbers es
    pub log_is : map logged (vec_items r.log.entries) ≡ logged_acts (undo_log es) (closed_acts es)
    pub log_len : vec_len r.log.entries ≡ length (undo_log es)
    pub plants_are : PlantsLived (μ m) es r.plants
    pub known : AllByRecursion (Known es) (unstruck es)
    pub no_others : (f : ℕ) → between 1 4 f ≡ false → enrolment_of es f ≡ None

  abbrev pub Lived : M → Register M → List CallFields → Type 0
  Lived m r cs = Holds m r (accepted cs)

  -- from every history that r has lived, s has lived that and the call c, and A holds of the history
  abbrev pub Lives : Register M → Register M → CallFields → (M → List CallFields → Type 0) → Type 0
  Lives r s c A = (m : M) (cs : List CallFields) → Lived m r cs → Lived m s (c ∷ cs) × A m cs

  -- so, and the answer a is what the history makes of the call
  abbrev pub LivesAnswering : Register M → Register M → CallFields → Answered → Type 0
  LivesAnswering r s c a = Lives r s c (λ m cs. a ≡ answer_to (μ m) c cs)

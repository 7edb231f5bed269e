-- What a register holds, as its events say it.
use Rattle.std.proofs.Common.{◌≡◌, ℕ, ◌-◌, ◌<◌, ◌≤◌, true, false, List, [], ◌∷◌, length, get_or, is_some, Some, None, vec_len, sym, ap, ◌∙◌, arith}
use Rattle.std.specs.Option.{option_map}
use Rattle.std.specs.List.{AllByRecursion}
use Rattle.std.proofs.lemmas.Bool.{le-leb, lt-leb}
use Rattle.std.proofs.lemmas.List.{get_or_default}
use Rattle.enrolment.specs.Ranges.{between}
use Rattle.enrolment.specs.Views.{enrolled}
use Rattle.enrolment.specs.declared.enrolment.Enrolment.{Enrolment}
use Rattle.limit.specs.Laws.{Meaning}
use Rattle.register.specs.Acceptance.{book_full, bare, spent, most_acts, last_number}
use Rattle.register.specs.Calls.{Act, Event}
use Rattle.register.specs.History.{standing_at, enrolment_of, numbers}
use Rattle.register.specs.Lived.{Holds, Known}
use Rattle.register.specs.Steps.{EnrolledBy}
use Rattle.register.specs.Striking.{undo_log}
use Rattle.register.specs.Views.{blank_plant}
use Rattle.register.specs.declared.table.Plant.{Plant}
use Rattle.register.specs.declared.table.Register.{Register}
use Rattle.register.proofs.Vacancies.{outside_none}

-- acts that are known stay known where the facilities stay enrolled
pub known_on : (es ds : List Event) → ((f : ℕ) → is_some (enrolment_of es f) ≡ true → is_some (enrolment_of ds f) ≡ true) → (l : List Act) → AllByRecursion (Known es) l → AllByRecursion (Known ds) l
known_on es ds h [] k = tt
known_on es ds h (a ∷ l) k =
    (record { is_enrolled = h a.facility k.0.is_enrolled; from = k.0.from; to = k.0.to }, known_on es ds h l k.1)

module _ {M : Type 0} (μ : M → Meaning) (m : M) (r : Register M) (es : List Event) (H : Holds μ m r es) where
  -- a year without a place
  pub no_year : (f y : ℕ) → between 2017 2036 y ≡ false → standing_at es f y ≡ None
  no_year f y out = outside_none es f y H.known out

  -- the checks on the undo log and the numbers
  pub not_full : vec_len r.log.entries < 32 → (book_full es).0 ≡ false
  not_full h = lt-leb most_acts (length (undo_log es)) (omega (arith, H.log_len))

  pub is_full : 32 ≤ vec_len r.log.entries → (book_full es).0 ≡ true
  is_full h = le-leb most_acts (length (undo_log es)) (omega (arith, H.log_len))

  pub not_bare : 0 < vec_len r.log.entries → (bare es).0 ≡ false
  not_bare h = lt-leb (length (undo_log es)) 0 (omega (arith, H.log_len))

  pub not_spent : r.used < 1000000 → (spent es).0 ≡ false
  not_spent h = lt-leb last_number (numbers es) (omega (arith, H.used_is))

  pub is_spent : 1000000 ≤ r.used → (spent es).0 ≡ true
  is_spent h = le-leb last_number (numbers es) (omega (arith, H.used_is))

  module _ (f : ℕ) (lo : 1 ≤ f) (hi : f ≤ 4) (d : Plant) (d-is : d ≡ get_or r.plants (f - 1) d) where
    -- the enrolment
    pub enrolled_is : (e : Enrolment) → d.enrolment ≡ Some e → enrolment_of es f ≡ Some (enrolled e)
    enrolled_is e h = sym (H.plants_are f lo hi d d-is).enrolment_is ∙ ap (option_map enrolled) h

    pub enrolled_no : d.enrolment ≡ None → enrolment_of es f ≡ None
    enrolled_no h = sym (H.plants_are f lo hi d d-is).enrolment_is ∙ ap (option_map enrolled) h

  -- the facility's own part of the table
  abbrev pub plant_at : ℕ → Plant
  plant_at f = get_or r.plants (f - 1) blank_plant

  pub plant_read : (f : ℕ) → 1 ≤ f → f ≤ 4 → plant_at f ≡ get_or r.plants (f - 1) (plant_at f)
  plant_read f lo hi = get_or_default r.plants (f - 1) blank_plant (plant_at f) (omega (arith, H.four))

  module _ (f : ℕ) (e : Enrolment) (by : EnrolledBy r f e) where
    pub by_read : plant_at f ≡ get_or r.plants (f - 1) (plant_at f)
    by_read = plant_read f by.low by.high

    pub by_enrolled : is_some (enrolment_of es f) ≡ true
    by_enrolled = ap is_some (enrolled_is f by.low by.high (plant_at f) by_read e (by.enrolment (plant_at f) by_read))

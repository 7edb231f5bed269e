-- The three laws of a register, in words about histories and look-ups only.
use Rattle.std.specs.Prelude.{◌≡◌, ℕ, zero, suc, ◌+◌, Bool, true, false, ◌&&◌, List, [], ◌∷◌, ◌++◌, ℤ, is_some, Some, ◌==◌, nat_le}
use Rattle.std.specs.Option.{option_map}
use Rattle.filing.specs.Emissions.{emissions as emissions_of}
use Rattle.filing.specs.Filing.{FilingFields}
use Rattle.enrolment.specs.declared.fields.EnrolmentFields.{EnrolmentFields}
use Rattle.limit.specs.Balance.{balance as balance_of}
use Rattle.limit.specs.Laws.{Meaning}
use Rattle.limit.specs.Outcome as outcome
use Rattle.register.specs.Acceptance.{accepted}
use Rattle.register.specs.Answers.{AssessmentFields}
use Rattle.register.specs.Calls.{CallFields, Act, Event, enrols, acts, takes_back, closes}
use Rattle.register.specs.History.{standing_at, places_of, enrolment_of, numbers}
use Rattle.register.specs.Lived.{Lived}
use Rattle.register.specs.Striking.{undo_log}
use Rattle.register.specs.Views.{shown_at}
use Rattle.register.specs.declared.table.Register.{Register}

-- the figures of an assessment: those of the filing that stands, by the enrolment and the standing filings
pub record Figures (meaning : Meaning) (es : List Event) (f y : ℕ) (a : AssessmentFields) : Type 0 where
  pub enrolment : EnrolmentFields
  pub filing : FilingFields
  pub enrolled : enrolment_of es f ≡ Some enrolment
  pub stands : standing_at es f y ≡ Some filing
  pub emitted : a.emissions ≡ emissions_of filing.head
  pub settled : a.outcome ≡ meaning enrolment (places_of es f) y
  pub balanced : a.balance ≡ balance_of a.outcome a.emissions

-- an assessment without its number
abbrev pub unnumbered : AssessmentFields → ℕ × outcome.Told × ℤ
unnumbered a = (a.emissions, a.outcome, a.balance)

-- n acts, and nothing among them but enrolments
abbrev pub Acts : ℕ → List Event → Type 0
Acts zero [] = Unit {0}
Acts (suc n) [] = ⊥
Acts n (enrols e ∷ es) = Acts n es
Acts zero (acts a ∷ es) = ⊥
Acts (suc n) (acts a ∷ es) = Acts n es
Acts n (takes_back ∷ es) = ⊥
Acts n (closes ∷ es) = ⊥

-- n take-backs, and nothing among them but enrolments
abbrev pub Backs : ℕ → List Event → Type 0
Backs zero [] = Unit {0}
Backs (suc n) [] = ⊥
Backs n (enrols e ∷ es) = Backs n es
Backs n (acts a ∷ es) = ⊥
Backs zero (takes_back ∷ es) = ⊥
Backs (suc n) (takes_back ∷ es) = Backs n es
Backs n (closes ∷ es) = ⊥

abbrev pub on_place : List Act → ℕ → ℕ → Bool
on_place [] f y = false
on_place (a ∷ more) f y = a.facility == f && nat_le a.year y

-- an act or take-back on the facility, in the year or an earlier one, after the events older; a take-back is on the
-- facility and year of the act that it strikes
abbrev pub touches : Event → List Event → ℕ → ℕ → Bool
touches (enrols e) older f y = false
touches (acts a) older f y = on_place (a ∷ []) f y
touches takes_back older f y = on_place (undo_log older) f y
touches closes older f y = false

-- n is the number of the latest act or take-back on the facility in the year or an earlier one
pub record Latest (es : List Event) (f y n : ℕ) : Type 0 where
  pub newer : List Event
  pub event : Event
  pub older : List Event
  pub are : es ≡ newer ++ (event ∷ older)
  pub here : touches event older f y ≡ true
  pub number : n ≡ numbers older + 1
  pub last : (after before : List Event) (e : Event) → newer ≡ after ++ (e ∷ before) → touches e (before ++ (event ∷ older)) f y ≡ false

module _ {M : Type 0} (μ : M → Meaning) where
  pub record Laws (m : M) (cs : List CallFields) (r : Register M) : Type 0 where
    pub lived : Lived μ m r cs
    -- (a) an assessment is found exactly where a filing stands, with the figures that the meaning gives
    pub found : (f y : ℕ) → is_some (shown_at r f y) ≡ is_some (standing_at (accepted cs) f y)
    pub figures : (f y : ℕ) (a : AssessmentFields) → shown_at r f y ≡ Some a → Figures (μ m) (accepted cs) f y a
    -- (b) k accepted acts and then k accepted take-backs bring back all that was shown before them, numbers apart
    pub restored : (before : List CallFields) (did undid : List Event) (k : ℕ) → accepted cs ≡ undid ++ (did ++ accepted before) → Acts k did → Backs k undid → (r₀ : Register M) → Lived μ m r₀ before → (f y : ℕ) → option_map unnumbered (shown_at r f y) ≡ option_map unnumbered (shown_at r₀ f y)
    -- (c) each assessment bears the number of the latest change
    pub numbered : (f y : ℕ) (a : AssessmentFields) → shown_at r f y ≡ Some a → Latest (accepted cs) f y a.number

-- What a register shows is what its history says.
use Rattle.std.proofs.Common.{◌≡◌, ℕ, ◌+◌, ◌-◌, ◌≤◌, true, leb, List, get_or, is_some, Some, None, Option, sym, refl, ap, ◌∙◌, subst, inl, inr, arith}
use Rattle.std.specs.Option.{option_map}
use Rattle.std.specs.List.{AllByRecursion}
use Rattle.std.proofs.lemmas.List.{get_or_default}
use Rattle.std.proofs.lemmas.Bool.{and_parts, cases_Bool, cond-true, cond-false, leb-true}
use Rattle.filing.specs.Emissions.{emissions}
use Rattle.filing.specs.Filing.{FilingFields}
use Rattle.enrolment.specs.Ranges.{between}
use Rattle.enrolment.specs.Views.{enrolled}
use Rattle.enrolment.specs.declared.enrolment.Enrolment.{Enrolment}
use Rattle.enrolment.specs.declared.fields.EnrolmentFields.{EnrolmentFields}
use Rattle.limit.specs.Balance.{balance}
use Rattle.limit.specs.Laws.{Meaning}
use Rattle.standard.specs.Places.{at_year, Places}
use Rattle.register.specs.Answers.{AssessmentFields, assessment, assessment_of, assessment_at}
use Rattle.register.specs.Calls.{Event}
use Rattle.register.specs.History.{standing_at, places_of, enrolment_of, number_of}
use Rattle.register.specs.Laws.{Figures, unnumbered}
use Rattle.register.specs.Lived.{Known, Holds}
use Rattle.register.specs.Striking.{unstruck}
use Rattle.register.specs.Views.{shown_of, shown_in, assessment_fields, blank_plant, shown_at}
use Rattle.register.specs.declared.table.Assessment.{Assessment}
use Rattle.register.specs.declared.table.Plant.{Plant}
use Rattle.register.specs.declared.table.Register.{Register}
use Rattle.register.proofs.Options.{none_or_some, some_of}
use Rattle.register.proofs.Rows.{places_same}
use Rattle.register.proofs.Vacancies.{outside_none, standing_enrolled}

module _ (meaning : Meaning) (es : List Event) (f y : ℕ) where
  -- no assessment without an enrolment, and none without a filing that stands
  unenrolled_none : enrolment_of es f ≡ None → assessment_at meaning es f y ≡ None
  unfolding assessment_at
  unenrolled_none h = ap (λ (o : Option EnrolmentFields). assessment_of meaning es f y o (standing_at es f y)) h

  of_none : (o : Option EnrolmentFields) → assessment_of meaning es f y o None ≡ None
  of_none None = refl
  of_none (Some e) = refl

  pub vacant_none : standing_at es f y ≡ None → assessment_at meaning es f y ≡ None
  unfolding assessment_at
  vacant_none h = ap (assessment_of meaning es f y (enrolment_of es f)) h ∙ of_none (enrolment_of es f)

  -- where both are, the assessment
  pub assessed_some : (e : EnrolmentFields) (x : FilingFields) → enrolment_of es f ≡ Some e → standing_at es f y ≡ Some x → assessment_at meaning es f y ≡ Some (assessment (emissions x.head) (meaning e (places_of es f) y) (number_of es f y))
  unfolding assessment_at
  assessed_some e x is_enrolled stands = ap (λ (o : Option EnrolmentFields). assessment_of meaning es f y o (standing_at es f y)) is_enrolled ∙ ap (assessment_of meaning es f y (Some e)) stands

  pub assessed_found : AllByRecursion (Known es) (unstruck es) → is_some (assessment_at meaning es f y) ≡ is_some (standing_at es f y)
  assessed_found known =
      elim (none_or_some (standing_at es f y)) [
        | inl vacant ↦ ap is_some (vacant_none vacant) ∙ sym (ap is_some vacant)
        | inr stands ↦
            let e = some_of (enrolment_of es f) (standing_enrolled es f y stands.0 known stands.1) in
            ap is_some (assessed_some e.0 stands.0 e.1 stands.1) ∙ sym (ap is_some stands.1)
      ]

  -- its figures and its number
  figures_of_place : (o : Option EnrolmentFields) (p : Option FilingFields) (a : AssessmentFields) → enrolment_of es f ≡ o → standing_at es f y ≡ p → assessment_of meaning es f y o p ≡ Some a → Figures meaning es f y a × (a.number ≡ number_of es f y)
  figures_of_place None p a eo ep h = cc
  figures_of_place (Some e) None a eo ep h = cc
  figures_of_place (Some e) (Some x) a eo ep h =
      let made : AssessmentFields = assessment (emissions x.head) (meaning e (places_of es f) y) (number_of es f y) in
      let is : made ≡ a = cc in (
        record {
          enrolment = e;
          filing = x;
          enrolled = eo;
          stands = ep;
          emitted = sym (ap (λ (b : AssessmentFields). b.emissions) is);
          settled = sym (ap (λ (b : AssessmentFields). b.outcome) is);
          balanced = subst (λ (b : AssessmentFields). b.balance ≡ balance b.outcome b.emissions) is refl;
        },
        sym (ap (λ (b : AssessmentFields). b.number) is),
      )

  pub assessed_figures : (a : AssessmentFields) → assessment_at meaning es f y ≡ Some a → Figures meaning es f y a × (a.number ≡ number_of es f y)
  unfolding assessment_at
  assessed_figures a h = figures_of_place (enrolment_of es f) (standing_at es f y) a refl refl h

-- where the same stands and the enrolment is the same, the assessment is, numbers apart
pub assessed_same : (meaning : Meaning) (es es₀ : List Event) (f y : ℕ) → AllByRecursion (Known es₀) (unstruck es₀) → ((e : EnrolmentFields) → enrolment_of es₀ f ≡ Some e → enrolment_of es f ≡ Some e) → ((z : ℕ) → standing_at es f z ≡ standing_at es₀ f z) → option_map unnumbered (assessment_at meaning es f y) ≡ option_map unnumbered (assessment_at meaning es₀ f y)
assessed_same meaning es es₀ f y known stays same =
    elim (none_or_some (standing_at es₀ f y)) [
      | inl vacant ↦ ap (option_map unnumbered) (vacant_none meaning es f y (same y ∙ vacant) ∙ sym (vacant_none meaning es₀ f y vacant))
      | inr stands ↦
          let x = stands.0 in
          let e = some_of (enrolment_of es₀ f) (standing_enrolled es₀ f y x known stands.1) in
          ap (option_map unnumbered) (assessed_some meaning es f y e.0 x (stays e.0 e.1) (same y ∙ stands.1))
          ∙ ap (λ (ps : Places). Some (unnumbered (assessment (emissions x.head) (meaning e.0 ps y) 0))) (places_same es es₀ f f same)
          ∙ sym (ap (option_map unnumbered) (assessed_some meaning es₀ f y e.0 x e.1 stands.1))
    ]

shown_of_is : (o : Option Enrolment) (a : Option Assessment) (t : Option AssessmentFields) → (o ≡ None → t ≡ None) → option_map assessment_fields a ≡ t → shown_of o a ≡ t
shown_of_is None a t h e = sym (h refl)
shown_of_is (Some x) a t h e = e

-- a register shows the assessments of its history
module _ {M : Type 0} (μ : M → Meaning) (m : M) (r : Register M) (es : List Event) (holds : Holds μ m r es) (f y : ℕ) where
  abbrev plant : Plant
  plant = get_or r.plants (f - 1) blank_plant

  in_year : (low : 1 ≤ f) (high : f ≤ 4) → plant ≡ get_or r.plants (f - 1) plant → option_map assessment_fields (at_year plant.assessed y) ≡ assessment_at (μ m) es f y
  in_year low high here =
      elim (cases_Bool (between 2017 2036 y)) [
        | inl inside ↦
            let z = and_parts (leb 2017 y) (leb y 2036) inside in
            let from : 2017 ≤ y = leb-true 2017 y z.0 in
            let to : y ≤ 2036 = leb-true y 2036 z.1 in
            let year : 2017 + (y - 2017) ≡ y = omega arith in
            ap (option_map assessment_fields) (cond-true (between 2017 2036 y) (get_or plant.assessed (y - 2017) None) None inside)
            ∙ (holds.plants_are f low high plant here).assessed_are (y - 2017) (omega arith)
            ∙ ap (assessment_at (μ m) es f) year
        | inr beyond ↦
            ap (option_map assessment_fields) (cond-false (between 2017 2036 y) (get_or plant.assessed (y - 2017) None) None beyond)
            ∙ sym (vacant_none (μ m) es f y (outside_none es f y holds.known beyond))
      ]

  inside_is : between 1 4 f ≡ true → shown_in plant y ≡ assessment_at (μ m) es f y
  inside_is one-of-four =
      let g = and_parts (leb 1 f) (leb f 4) one-of-four in
      let low : 1 ≤ f = leb-true 1 f g.0 in
      let high : f ≤ 4 = leb-true f 4 g.1 in
      let here : plant ≡ get_or r.plants (f - 1) plant = get_or_default r.plants (f - 1) blank_plant plant (omega (arith, holds.four)) in
      shown_of_is plant.enrolment (at_year plant.assessed y) (assessment_at (μ m) es f y)
      (λ none. unenrolled_none (μ m) es f y (sym (holds.plants_are f low high plant here).enrolment_is ∙ ap (option_map enrolled) none))
      (in_year low high here)

  pub shown_is : shown_at r f y ≡ assessment_at (μ m) es f y
  unfolding shown_at
  shown_is =
      elim (cases_Bool (between 1 4 f)) [
        | inl inside ↦ cond-true (between 1 4 f) (shown_in plant y) None inside ∙ inside_is inside
        | inr other ↦ cond-false (between 1 4 f) (shown_in plant y) None other ∙ sym (unenrolled_none (μ m) es f y (holds.no_others f other))
      ]

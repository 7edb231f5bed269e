-- What a look-up shows and answers.
use Rattle.std.proofs.Common.{◌≡◌, ℕ, ◌-◌, ◌≤◌, Bool, true, false, not, leb, List, [], ◌∷◌, length, get_or, is_some, Some, None, Option, sym, refl, ap, ◌∙◌, ⊎_elim, inl, inr, arith}
use Rattle.std.specs.Option.{option_map, ok_or}
use Rattle.std.proofs.lemmas.List.{get_or_default}
use Rattle.std.proofs.lemmas.Bool.{cases_Bool, cond-true, cond-false, and_parts, and_from, le-leb, leb-true, true≢false, false≢true}
use Rattle.enrolment.specs.Ranges.{between}
use Rattle.enrolment.specs.Views.{enrolled}
use Rattle.enrolment.specs.declared.enrolment.Enrolment.{Enrolment}
use Rattle.limit.specs.Laws.{Meaning}
use Rattle.register.specs.Acceptance.{unknown, vacant, first_of, accepted}
use Rattle.register.specs.Answers.{AssessmentFields, found, answer_by, answer_to, assessment_at}
use Rattle.register.specs.Calls.{CallFields, look_up, Event}
use Rattle.register.specs.History.{standing_at, enrolment_of}
use Rattle.register.specs.Lived.{Holds, Lived}
use Rattle.register.specs.Steps.{EnrolledBy, Absent}
use Rattle.standard.specs.Places.{at_year}
use Rattle.register.specs.Views.{assessment_fields, blank_plant, shown_of, shown_in, shown_at, Looked, look_answer}
use Rattle.register.specs.declared.refusals.Refusal.{Refusal}
use Rattle.register.specs.declared.refusals.Refusal.TheVariants.{Vacant}
use Rattle.register.specs.declared.table.Assessment.{Assessment}
use Rattle.register.specs.declared.table.Plant.{Plant}
use Rattle.register.specs.declared.table.Register.{Register}
use Rattle.register.proofs.Keeping.{check_holds, check_passes}
use Rattle.register.proofs.Options.{none_of}
use Rattle.register.proofs.Plain.{by_enrolled}
use Rattle.register.proofs.Shown.{shown_is, vacant_none}

shown_some : (o : Option Enrolment) (a : Option Assessment) → is_some o ≡ true → shown_of o a ≡ option_map assessment_fields a
shown_some None a h = absurd (false≢true h)
shown_some (Some e) a h = refl

shown_blank : (o : Option Enrolment) (a : Option Assessment) → is_some o ≡ false → shown_of o a ≡ None
shown_blank None a h = refl
shown_blank (Some e) a h = absurd (true≢false h)

module _ {M : Type 0} (r : Register M) (f y : ℕ) where
  pub shown_outside : between 1 4 f ≡ false → shown_at r f y ≡ None
  unfolding shown_at
  shown_outside out = cond-false (between 1 4 f) (shown_in (get_or r.plants (f - 1) blank_plant) y) None out

  module _ (low : 1 ≤ f) (high : f ≤ 4) (four : length r.plants ≡ 4) (p : Plant) where
    shown_inside : shown_at r f y ≡ shown_in (get_or r.plants (f - 1) p) y
    unfolding shown_at
    shown_inside =
        cond-true (between 1 4 f) (shown_in (get_or r.plants (f - 1) blank_plant) y) None (and_from (leb 1 f) (leb f 4) (le-leb 1 f low) (le-leb f 4 high))
        ∙ ap (λ (d : Plant). shown_in d y) (get_or_default r.plants (f - 1) blank_plant p (omega arith))

    pub shown_enrolled : is_some (get_or r.plants (f - 1) p).enrolment ≡ true → shown_at r f y ≡ option_map assessment_fields (at_year (get_or r.plants (f - 1) p).assessed y)
    shown_enrolled there = shown_inside ∙ shown_some (get_or r.plants (f - 1) p).enrolment (at_year (get_or r.plants (f - 1) p).assessed y) there

    pub shown_absent : is_some (get_or r.plants (f - 1) p).enrolment ≡ false → shown_at r f y ≡ None
    shown_absent gone = shown_inside ∙ shown_blank (get_or r.plants (f - 1) p).enrolment (at_year (get_or r.plants (f - 1) p).assessed y) gone

module _ {M : Type 0} (r : Register M) (f y : ℕ) (four : length r.plants ≡ 4) where
  -- nothing is shown of a facility that is not enrolled
  pub shown_unknown : Absent r f → shown_at r f y ≡ None
  shown_unknown absent =
      elim (cases_Bool (between 1 4 f)) [
        | inl inside ↦
            let p = and_parts (leb 1 f) (leb f 4) inside in
            let low = leb-true 1 f p.0 in
            let high = leb-true f 4 p.1 in
            let d = get_or r.plants (f - 1) blank_plant in
            shown_absent r f y low high four blank_plant (ap is_some (absent low high d (get_or_default r.plants (f - 1) blank_plant d (omega arith))))
        | inr out ↦ shown_outside r f y out
      ]

  -- of one that is, what is at the year
  pub shown_known : (e : Enrolment) → EnrolledBy r f e → (d : Plant) (a : Option Assessment) → d ≡ get_or r.plants (f - 1) d → a ≡ at_year d.assessed y → shown_at r f y ≡ option_map assessment_fields a
  shown_known e by d a d-is a-is =
      shown_enrolled r f y by.low by.high four d (ap (λ (p : Plant). is_some p.enrolment) (sym d-is) ∙ ap is_some (by.enrolment d d-is))
      ∙ ap (λ (p : Plant). option_map assessment_fields (at_year p.assessed y)) (sym d-is)
      ∙ ap (option_map assessment_fields) (sym a-is)

-- whether the facility is enrolled, from what is held of it
module _ {M : Type 0} (r : Register M) (f : ℕ) (four : length r.plants ≡ 4) (p : Plant) (is : p ≡ get_or r.plants (f - 1) p) where
  held_same : 1 ≤ f → f ≤ 4 → (d : Plant) → d ≡ get_or r.plants (f - 1) d → d.enrolment ≡ p.enrolment
  held_same low high d d-is = ap (λ (q : Plant). q.enrolment) (d-is ∙ get_or_default r.plants (f - 1) d p (omega (arith, low, high, four)) ∙ sym is)

  pub held_absent : is_some p.enrolment ≡ false → Absent r f
  held_absent gone low high d d-is = held_same low high d d-is ∙ none_of p.enrolment gone

  pub held_enrolled : (e : Enrolment) → p.enrolment ≡ Some e → 1 ≤ f → f ≤ 4 → EnrolledBy r f e
  held_enrolled e there low high = record { low = low; high = high; enrolment = λ d d-is. held_same low high d d-is ∙ there }

-- nothing is shown of one that is held and not enrolled
pub shown_gone : {M : Type 0} (r : Register M) (f y : ℕ) (four : length r.plants ≡ 4) (p : Plant) → p ≡ get_or r.plants (f - 1) p → is_some p.enrolment ≡ false → shown_at r f y ≡ None
shown_gone r f y four p is gone = shown_unknown r f y four (held_absent r f four p is gone)

pub looked_or : (o : Option Assessment) (t : Option AssessmentFields) (w : Refusal) → t ≡ option_map assessment_fields o → Looked (ok_or o w) t
looked_or None t w h = h
looked_or (Some a) t w h = h

pub answer_or_vacant : (o : Option Assessment) → look_answer (ok_or o Vacant) ≡ found (option_map assessment_fields o)
answer_or_vacant None = refl
answer_or_vacant (Some a) = refl

mapped_some : {X Y : Type 0} (view : X → Y) (o : Option X) → is_some (option_map view o) ≡ is_some o
mapped_some view None = refl
mapped_some view (Some x) = refl

-- whether a facility is enrolled, from what was read
pub enrolled_as_read : {M : Type 0} (μ : M → Meaning) (m : M) (r : Register M) (es : List Event) → Holds μ m r es → (f : ℕ) → 1 ≤ f → f ≤ 4 → (p : Plant) (b : Bool) → is_some (get_or r.plants (f - 1) p).enrolment ≡ b → is_some (enrolment_of es f) ≡ b
enrolled_as_read μ m r es H f low high p b is =
    let read : get_or r.plants (f - 1) p ≡ get_or r.plants (f - 1) (get_or r.plants (f - 1) p) = get_or_default r.plants (f - 1) p (get_or r.plants (f - 1) p) (omega (arith, H.four)) in
    sym (ap is_some (H.plants_are f low high (get_or r.plants (f - 1) p) read).enrolment_is) ∙ mapped_some enrolled (get_or r.plants (f - 1) p).enrolment ∙ is

module _ {M : Type 0} (μ : M → Meaning) (m : M) (r : Register M) (cs : List CallFields) (L : Lived μ m r cs) (f y : ℕ) where
  -- an enrolled facility: the answer is what is shown
  pub look_enrolled : is_some (enrolment_of (accepted cs) f) ≡ true → (o : Option AssessmentFields) → shown_at r f y ≡ o → found o ≡ answer_to (μ m) (look_up f y) cs
  look_enrolled known o is =
      let passed : first_of (unknown (accepted cs) f ∷ vacant (accepted cs) f y ∷ []) ≡ first_of (vacant (accepted cs) f y ∷ []) = check_passes (unknown (accepted cs) f) (vacant (accepted cs) f y ∷ []) (ap not known) in
      let shows : found o ≡ found (assessment_at (μ m) (accepted cs) f y) = ap found (sym is ∙ shown_is μ m r (accepted cs) L f y) in
      ⊎_elim
      (λ (there : is_some (standing_at (accepted cs) f y) ≡ true).
      shows ∙ sym (ap (λ o. answer_by o (found (assessment_at (μ m) (accepted cs) f y))) (passed ∙ check_passes (vacant (accepted cs) f y) [] (ap not there))))
      (λ (gone : is_some (standing_at (accepted cs) f y) ≡ false).
      shows
      ∙ ap found (vacant_none (μ m) (accepted cs) f y (none_of (standing_at (accepted cs) f y) gone))
      ∙ sym (ap (λ o. answer_by o (found (assessment_at (μ m) (accepted cs) f y))) (passed ∙ check_holds (vacant (accepted cs) f y) [] (ap not gone))))
      (cases_Bool (is_some (standing_at (accepted cs) f y)))

-- what a look-up answers of a facility that is held to be enrolled
module _ {M : Type 0} (μ : M → Meaning) (r : Register M) (f y : ℕ) (four : length r.plants ≡ 4) (low : 1 ≤ f) (high : f ≤ 4) (p : Plant) (is : p ≡ get_or r.plants (f - 1) p) (e : Enrolment) (there : p.enrolment ≡ Some e) (a : Option Assessment) (a-is : a ≡ at_year p.assessed y) where
  by : EnrolledBy r f e
  by = held_enrolled r f four p is e there low high

  shows : shown_at r f y ≡ option_map assessment_fields a
  shows = shown_known r f y four e by p a is a-is

  pub looked : Looked (ok_or a Vacant) (shown_at r f y) × ((m : M) (cs : List CallFields) → Lived μ m r cs → look_answer (ok_or a Vacant) ≡ answer_to (μ m) (look_up f y) cs)
  looked =
      (looked_or a (shown_at r f y) Vacant shows, λ m cs L. answer_or_vacant a ∙ look_enrolled μ m r cs L f y (by_enrolled μ m r (accepted cs) L f e by) (option_map assessment_fields a) shows)

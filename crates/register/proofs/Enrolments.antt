-- A facility is enrolled once, so its enrolment stays.
use Rattle.std.proofs.Common.{◌≡◌, ℕ, Bool, true, false, cond, not, eqb, List, [], ◌∷◌, ◌++◌, is_some, Some, None, Option, refl, ap, ◌∙◌, subst, inl, inr}
use Rattle.std.proofs.lemmas.Bool.{cond-false, eqb-true, cases_Bool}
use Rattle.enrolment.specs.Ranges.{in_ranges}
use Rattle.enrolment.specs.declared.fields.EnrolmentFields.{EnrolmentFields}
use Rattle.register.specs.Acceptance.{refusal_of, added, accepted}
use Rattle.register.specs.Calls.{CallFields, enrol, file, amend, withdraw, take_back, close, look_up, Event, enrols, acts, takes_back, closes, event_of}
use Rattle.register.specs.History.{enrolment_of}
use Rattle.register.specs.declared.refusals.Refusal.{Refusal}
use Rattle.register.specs.declared.refusals.Refusal.TheVariants.{Enrolled, Enrolment}

-- no facility is enrolled twice
abbrev Fresh : List Event → Type 0
Fresh [] = Unit {0}
Fresh (enrols e ∷ es) = (enrolment_of es e.facility ≡ None) × Fresh es
Fresh (acts a ∷ es) = Fresh es
Fresh (takes_back ∷ es) = Fresh es
Fresh (closes ∷ es) = Fresh es

-- an enrolment that is accepted is the first
first_one : (p : Bool) (o : Option EnrolmentFields) → None ≡ cond p (Some Enrolment) (cond (is_some o) (Some Enrolled) None) → o ≡ None
first_one true o h = cc
first_one false None h = refl
first_one false (Some e) h = cc

fresh_added : (c : CallFields) (es : List Event) (o : Option Refusal) → o ≡ refusal_of c es → Fresh es → Fresh (added o (event_of c) es)
fresh_added c es (Some w) h k = k
fresh_added (enrol e) es None h k = (first_one (not (in_ranges e)) (enrolment_of es e.facility) h, k)
fresh_added (file f) es None h k = k
fresh_added (amend f) es None h k = k
fresh_added (withdraw f y) es None h k = k
fresh_added take_back es None h k = k
fresh_added close es None h k = k
fresh_added (look_up f y) es None h k = k

accepted_fresh : (cs : List CallFields) → Fresh (accepted cs)
accepted_fresh [] = tt
accepted_fresh (c ∷ cs) = fresh_added c (accepted cs) (refusal_of c (accepted cs)) refl (accepted_fresh cs)

fresh_stays : (new es : List Event) (f : ℕ) (e : EnrolmentFields) → Fresh (new ++ es) → enrolment_of es f ≡ Some e → enrolment_of (new ++ es) f ≡ Some e
fresh_stays [] es f e k h = h
fresh_stays (enrols d ∷ new) es f e k h =
    let was : enrolment_of (new ++ es) f ≡ Some e = fresh_stays new es f e k.1 h in
    elim (cases_Bool (eqb d.facility f)) [
      | inl same ↦ cc (k.0, ap (enrolment_of (new ++ es)) (eqb-true d.facility f same), was)
      | inr other ↦ cond-false (eqb d.facility f) (Some d) (enrolment_of (new ++ es) f) other ∙ was
    ]
fresh_stays (acts a ∷ new) es f e k h = fresh_stays new es f e k h
fresh_stays (takes_back ∷ new) es f e k h = fresh_stays new es f e k h
fresh_stays (closes ∷ new) es f e k h = fresh_stays new es f e k h

pub enrolment_stays : (cs : List CallFields) (new es₀ : List Event) (f : ℕ) (e : EnrolmentFields) → accepted cs ≡ new ++ es₀ → enrolment_of es₀ f ≡ Some e → enrolment_of (accepted cs) f ≡ Some e
enrolment_stays cs new es₀ f e is h = ap (λ (l : List Event). enrolment_of l f) is ∙ fresh_stays new es₀ f e (subst Fresh is (accepted_fresh cs)) h

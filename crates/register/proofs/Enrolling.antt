-- How an enrolment is answered.
use Rattle.std.proofs.Common.{◌≡◌, Bool, true, false, not, List, [], ◌∷◌, is_some, None, sym, refl, ap, ◌∙◌, subst}
use Rattle.enrolment.specs.Ranges.{in_ranges}
use Rattle.enrolment.specs.Views.{enrolled as fields_of}
use Rattle.enrolment.specs.declared.enrolment.Enrolment.{Enrolment}
use Rattle.enrolment.specs.declared.fields.EnrolmentFields.{EnrolmentFields}
use Rattle.limit.specs.Laws.{Meaning}
use Rattle.register.specs.Acceptance.{refusal_of, accepted}
use Rattle.register.specs.Answers.{enrolled, granted, answer_by, answer_to}
use Rattle.register.specs.Calls.{CallFields, enrol, enrols}
use Rattle.register.specs.History.{enrolment_of}
use Rattle.register.specs.Lived.{Holds, Lived}
use Rattle.register.specs.declared.refusals.Refusal.TheVariants as refusal
use Rattle.register.specs.declared.table.Register.{Register}
use Rattle.register.proofs.Keeping.{check_passes, accepted_lives}

module _ {M : Type 0} (μ : M → Meaning) (m : M) (r : Register M) (x : EnrolmentFields) (cs : List CallFields) (L : Lived μ m r cs) (e : Enrolment) (e-is : fields_of e ≡ x) (inside : in_ranges x ≡ true) where
  passed : (b : Bool) → is_some (enrolment_of (accepted cs) e.facility) ≡ b → is_some (enrolment_of (accepted cs) x.facility) ≡ b
  passed b is = sym (ap (λ (y : EnrolmentFields). is_some (enrolment_of (accepted cs) y.facility)) e-is) ∙ is

  pub enrolled_once : (s : Register M) → is_some (enrolment_of (accepted cs) e.facility) ≡ false → Holds μ m s (enrols (fields_of e) ∷ accepted cs) → Lived μ m s (enrol x ∷ cs) × (enrolled ≡ answer_to (μ m) (enrol x) cs)
  enrolled_once s gone holds =
      let none : refusal_of (enrol x) (accepted cs) ≡ None =
      check_passes (not (in_ranges x), refusal.Enrolment) ((is_some (enrolment_of (accepted cs) x.facility), refusal.Enrolled) ∷ []) (ap not inside)
      ∙ check_passes (is_some (enrolment_of (accepted cs) x.facility), refusal.Enrolled) [] (passed false gone)
      in (
        accepted_lives μ m s (enrol x) cs (enrols x) none refl (subst (λ (y : EnrolmentFields). Holds μ m s (enrols y ∷ accepted cs)) e-is holds),
        sym (ap (λ o. answer_by o (granted (μ m) (enrol x) (accepted cs))) none),
      )

-- A call that is refused or only looks leaves the events as they were; an accepted one adds its own.
use Rattle.std.proofs.Common.{◌≡◌, true, false, List, ◌∷◌, Some, None, Option, sym, refl, ap, ◌∙◌, subst}
use Rattle.std.proofs.lemmas.Bool.{cond-true, cond-false}
use Rattle.limit.specs.Laws.{Meaning}
use Rattle.register.specs.Acceptance.{Check, first_of, refusal_of, added, accepted}
use Rattle.register.specs.Calls.{CallFields, Event, event_of}
use Rattle.register.specs.Lived.{Holds, Lived}
use Rattle.register.specs.declared.refusals.Refusal.{Refusal}
use Rattle.register.specs.declared.table.Register.{Register}

-- the first check
pub check_holds : (c : Check) (more : List Check) → c.0 ≡ true → first_of (c ∷ more) ≡ Some c.1
check_holds c more h = cond-true c.0 (Some c.1) (first_of more) h

pub check_passes : (c : Check) (more : List Check) → c.0 ≡ false → first_of (c ∷ more) ≡ first_of more
check_passes c more h = cond-false c.0 (Some c.1) (first_of more) h

-- the accepted events after one call more
added_none : (o : Option Refusal) (es : List Event) → added o None es ≡ es
added_none None es = refl
added_none (Some w) es = refl

module _ {M : Type 0} (μ : M → Meaning) (m : M) (r : Register M) (c : CallFields) (cs : List CallFields) where
  pub refused_lives : (w : Refusal) → refusal_of c (accepted cs) ≡ Some w → Lived μ m r cs → Lived μ m r (c ∷ cs)
  refused_lives w h L = subst (Holds μ m r) (sym (ap (λ (o : Option Refusal). added o (event_of c) (accepted cs)) h)) L

  pub looked_lives : event_of c ≡ None → Lived μ m r cs → Lived μ m r (c ∷ cs)
  looked_lives h L =
      subst (Holds μ m r) (sym (ap (λ (o : Option Event). added (refusal_of c (accepted cs)) o (accepted cs)) h ∙ added_none (refusal_of c (accepted cs)) (accepted cs))) L

  pub accepted_lives : (ev : Event) → refusal_of c (accepted cs) ≡ None → event_of c ≡ Some ev → Holds μ m r (ev ∷ accepted cs) → Lived μ m r (c ∷ cs)
  accepted_lives ev h does H =
      subst (Holds μ m r) (sym (ap (λ (o : Option Refusal). added o (event_of c) (accepted cs)) h ∙ ap (λ (o : Option Event). added None o (accepted cs)) does)) H

-- A register that is new, or closed, or has one more facility enrolled.
use Rattle.std.proofs.Common.{◌≡◌, ℕ, ◌+◌, ◌-◌, ◌<◌, ◌≤◌, Bool, true, false, cond, eqb, leb, ◌≢◌, List, [], ◌∷◌, map, length, get_or, set, replicate, is_some, Some, None, vec_items, vec_len, Option, sym, refl, ap, ◌∙◌, subst, ⊎_elim, arith}
use Rattle.std.specs.Option.{option_map}
use Rattle.std.proofs.lemmas.List.{get_or-replicate, length-set, get_or-set_same, get_or-set_other}
use Rattle.std.proofs.lemmas.Bool.{cases_eq, eq-eqb, ne_eqb, cond-true, cond-false, and_from, le-leb, true≢false}
use Rattle.enrolment.specs.Ranges.{between}
use Rattle.enrolment.specs.Views.{enrolled}
use Rattle.enrolment.specs.declared.enrolment.Enrolment.{Enrolment}
use Rattle.enrolment.specs.declared.fields.EnrolmentFields.{EnrolmentFields}
use Rattle.limit.specs.Laws.{Meaning}
use Rattle.standard.specs.Places.{Places}
use Rattle.register.specs.Acceptance.{accepted}
use Rattle.register.specs.Answers.{assessment_at}
use Rattle.register.specs.Calls.{CallFields, close, Event, enrols, closes}
use Rattle.register.specs.History.{standing_at, places_of, enrolment_of, number_of}
use Rattle.register.specs.Lived.{PlantLived, Holds, Lived}
use Rattle.register.specs.Striking.{unstruck}
use Rattle.register.specs.Views.{assessment_fields, logged, blank_plant}
use Rattle.register.specs.declared.table.Plant.{Plant}
use Rattle.register.specs.declared.table.Register.{Register}
use Rattle.register.proofs.Plain.{known_on, enrolled_no}
use Rattle.register.proofs.Refits.{at_same}
use Rattle.register.proofs.Rows.{places_same}
use Rattle.register.proofs.Shown.{vacant_none}
use Rattle.register.proofs.Vacancies.{unenrolled_vacant}

-- a facility of which two lists of events say the same
plant_same : (meaning : Meaning) (es ds : List Event) (f : ℕ) (p : Plant) → ((z : ℕ) → standing_at es f z ≡ standing_at ds f z) → enrolment_of es f ≡ enrolment_of ds f → ((z : ℕ) → number_of es f z ≡ number_of ds f z) → PlantLived meaning es f p → PlantLived meaning ds f p
plant_same meaning es ds f p stands enrolment numbered was =
    let row : places_of es f ≡ places_of ds f = places_same es ds f f stands in
    record {
      enrolment_is = was.enrolment_is ∙ enrolment;
      places_are = was.places_are ∙ row;
      assessed_are = λ k lt.
          was.assessed_are k lt
          ∙ at_same meaning es ds f (2017 + k) (λ x. ap (λ (l : Places). meaning x l (2017 + k)) row) (numbered (2017 + k)) enrolment (stands (2017 + k));
    }

-- nothing is enrolled yet
blank_lived : (meaning : Meaning) (f : ℕ) → PlantLived meaning [] f blank_plant
unfolding places_of standing_at assessment_at
blank_lived meaning f =
    record {
      enrolment_is = refl;
      places_are = refl;
      assessed_are = λ k lt. ap (option_map assessment_fields) (get_or-replicate 20 k None None lt);
    }

pub new_lived : {M : Type 0} (μ : M → Meaning) (m : M) (r : Register M) → r.method ≡ m → r.plants ≡ replicate 4 blank_plant → r.used ≡ 0 → vec_items r.log.entries ≡ [] → Lived μ m r []
new_lived μ m r method plants used items =
    record {
      method_is = method;
      four = ap length plants;
      used_is = used;
      log_is = ap (map logged) items;
      log_len = r.log.entries.ok.0 ∙ ap length items;
      plants_are = λ f lo hi p p-is.
          let is : p ≡ blank_plant = p-is ∙ ap (λ (l : List Plant). get_or l (f - 1) p) plants ∙ get_or-replicate 4 (f - 1) blank_plant p (omega arith) in
          subst (PlantLived (μ m) [] f) (sym is) (blank_lived (μ m) f);
      known = tt;
      no_others = λ f h. refl;
    }

pub close_lived : {M : Type 0} (μ : M → Meaning) (m : M) (r s : Register M) (cs : List CallFields) → Lived μ m r cs → s.method ≡ r.method → s.plants ≡ r.plants → s.used ≡ r.used → vec_items s.log.entries ≡ [] → Lived μ m s (close ∷ cs)
unfolding standing_at number_of
close_lived μ m r s cs L method plants used items =
    record {
      method_is = method ∙ L.method_is;
      four = ap length plants ∙ L.four;
      used_is = used ∙ L.used_is;
      log_is = ap (map logged) items;
      log_len = s.log.entries.ok.0 ∙ ap length items;
      plants_are = λ f lo hi p p-is.
          plant_same (μ m) (accepted cs) (closes ∷ accepted cs) f p (λ z. refl) refl (λ z. refl)
          (L.plants_are f lo hi p (p-is ∙ ap (λ (l : List Plant). get_or l (f - 1) p) plants));
      known = known_on (accepted cs) (closes ∷ accepted cs) (λ f h. h) (unstruck (accepted cs)) L.known;
      no_others = L.no_others;
    }

some_stays : {X : Type 0} (b : Bool) (v : X) (o : Option X) → is_some o ≡ true → is_some (cond b (Some v) o) ≡ true
some_stays true v o h = refl
some_stays false v o h = h

enrol_standing : (e : EnrolmentFields) (es : List Event) (g z : ℕ) → standing_at es g z ≡ standing_at (enrols e ∷ es) g z
unfolding standing_at
enrol_standing e es g z = refl

enrol_number : (e : EnrolmentFields) (es : List Event) (g z : ℕ) → number_of es g z ≡ number_of (enrols e ∷ es) g z
unfolding number_of
enrol_number e es g z = refl

-- a facility that has taken the enrolment
abbrev pub admitted : Plant → Enrolment → Plant
admitted d e = record { enrolment = Some e; places = d.places; assessed = d.assessed }

module _ {M : Type 0} (μ : M → Meaning) (m : M) (r s : Register M) (es : List Event) (H : Holds μ m r es) (x : EnrolmentFields) (lo : 1 ≤ x.facility) (hi : x.facility ≤ 4) (d : Plant) (d-is : d ≡ get_or r.plants (x.facility - 1) d) (none : d.enrolment ≡ None) (e : Enrolment) (e-is : enrolled e ≡ x) (method : s.method ≡ r.method) (plants : s.plants ≡ set r.plants (x.facility - 1) (admitted d e)) (used : s.used ≡ r.used) (log : s.log ≡ r.log) where
  nothing : (y : ℕ) → standing_at es x.facility y ≡ None
  nothing y = unenrolled_vacant es x.facility y H.known (ap is_some (enrolled_no μ m r es H x.facility lo hi d d-is none))

  -- nothing stands there, before and after
  vacant_still : (y : ℕ) → assessment_at (μ m) es x.facility y ≡ assessment_at (μ m) (enrols x ∷ es) x.facility y
  vacant_still y =
      vacant_none (μ m) es x.facility y (nothing y)
      ∙ sym (vacant_none (μ m) (enrols x ∷ es) x.facility y (sym (enrol_standing x es x.facility y) ∙ nothing y))

  enrolled_here : PlantLived (μ m) (enrols x ∷ es) x.facility (admitted d e)
  enrolled_here =
      let was = H.plants_are x.facility lo hi d d-is in
      record {
        enrolment_is = ap Some e-is ∙ sym (cond-true (eqb x.facility x.facility) (Some x) (enrolment_of es x.facility) (eq-eqb x.facility x.facility refl));
        places_are = was.places_are ∙ places_same es (enrols x ∷ es) x.facility x.facility (enrol_standing x es x.facility);
        assessed_are = λ k lt.
            was.assessed_are k lt ∙ vacant_still (2017 + k);
      }

  off : (g : ℕ) → g ≢ x.facility → enrolment_of es g ≡ enrolment_of (enrols x ∷ es) g
  off g ne = sym (cond-false (eqb x.facility g) (Some x) (enrolment_of es g) (ne_eqb x.facility g (λ eq. ne (sym eq))))

  pub enrol_holds : Holds μ m s (enrols x ∷ es)
  enrol_holds =
      record {
        method_is = method ∙ H.method_is;
        four = ap length plants ∙ length-set r.plants (x.facility - 1) (admitted d e) ∙ H.four;
        used_is = used ∙ H.used_is;
        log_is = ap (λ l. map logged (vec_items l.entries)) log ∙ H.log_is;
        log_len = ap (λ l. vec_len l.entries) log ∙ H.log_len;
        plants_are = λ g g-lo g-hi p p-is.
            let p-set : p ≡ get_or (set r.plants (x.facility - 1) (admitted d e)) (g - 1) p = p-is ∙ ap (λ (l : List Plant). get_or l (g - 1) p) plants in
            ⊎_elim
            (λ (eq : g ≡ x.facility).
            let within : x.facility - 1 < length r.plants = omega (arith, H.four) in
            let is : p ≡ admitted d e = p-set ∙ ap (λ (i : ℕ). get_or (set r.plants (x.facility - 1) (admitted d e)) (i - 1) p) eq ∙ get_or-set_same r.plants (x.facility - 1) (admitted d e) p within in
            subst (λ (p : Plant). PlantLived (μ m) (enrols x ∷ es) g p) (sym is) (subst (λ (j : ℕ). PlantLived (μ m) (enrols x ∷ es) j (admitted d e)) (sym eq) enrolled_here))
            (λ (ne : g ≢ x.facility).
            let apart : g - 1 ≢ x.facility - 1 = omega arith in
            plant_same (μ m) es (enrols x ∷ es) g p (enrol_standing x es g) (off g ne) (enrol_number x es g)
            (H.plants_are g g-lo g-hi p (p-set ∙ get_or-set_other r.plants (x.facility - 1) (g - 1) (admitted d e) p apart)))
            (cases_eq g x.facility);
        known = known_on es (enrols x ∷ es) (λ f h. some_stays (eqb x.facility f) x (enrolment_of es f) h) (unstruck es) H.known;
        no_others = λ g out.
            ⊎_elim
            (λ (eq : g ≡ x.facility).
            let inside : between 1 4 x.facility ≡ true = and_from (leb 1 x.facility) (leb x.facility 4) (le-leb 1 x.facility lo) (le-leb x.facility 4 hi) in
            absurd (true≢false (sym inside ∙ sym (ap (between 1 4) eq) ∙ out)))
            (λ (ne : g ≢ x.facility). sym (off g ne) ∙ H.no_others g out)
            (cases_eq g x.facility);
      }

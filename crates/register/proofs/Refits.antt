-- A place filled anew: the facilities hold what the longer list of events says.
use Rattle.std.proofs.Common.{◌≡◌, ℕ, ◌+◌, ◌-◌, ◌<◌, ◌≤◌, Bool, false, cond, ◌&&◌, eqb, leb, ◌≢◌, List, get_or, set, Some, None, Option, sym, refl, ap, ◌∙◌, subst, ⊎_elim, arith}
use Rattle.std.specs.Option.{option_map}
use Rattle.std.proofs.lemmas.List.{take-set-le}
use Rattle.std.proofs.lemmas.Bool.{cases_eq, cases_lt, eq-eqb, ne_eqb, le-leb, lt-leb}
use Rattle.filing.specs.Emissions.{emissions}
use Rattle.filing.specs.Filing.{FilingFields}
use Rattle.filing.specs.declared.signed.Signed.{Signed}
use Rattle.enrolment.specs.Views.{enrolled}
use Rattle.enrolment.specs.declared.enrolment.Enrolment.{Enrolment}
use Rattle.enrolment.specs.declared.fields.EnrolmentFields.{EnrolmentFields}
use Rattle.limit.specs.Laws.{Meaning, Later}
use Rattle.limit.specs.Outcome.{Told}
use Rattle.standard.specs.Places.{Places, up_to, filing_at, filings}
use Rattle.register.specs.Answers.{assessment, assessment_of, assessment_at}
use Rattle.register.specs.Calls.{Event}
use Rattle.register.specs.History.{standing_at, places_of, enrolment_of, number_of}
use Rattle.register.specs.Lived.{PlantLived, PlantsLived}
use Rattle.register.specs.Steps.{Refit}
use Rattle.register.specs.Views.{assessment_fields, anew, anew_of}
use Rattle.register.specs.declared.table.Plant.{Plant}
use Rattle.register.proofs.Refills.{Refills}
use Rattle.register.proofs.Rows.{place_at, places_same, places_set}

-- an assessment made anew is that of the events
module _ (meaning : Meaning) (es : List Event) (f k n : ℕ) (e : EnrolmentFields) (number : n ≡ number_of es f (2017 + k)) where
  anew_of_place : (o : Option FilingFields) → anew_of meaning e (places_of es f) (2017 + k) n o ≡ assessment_of meaning es f (2017 + k) (Some e) o
  anew_of_place None = refl
  anew_of_place (Some x) = ap (λ (i : ℕ). Some (assessment (emissions x.head) (meaning e (places_of es f) (2017 + k)) i)) number

  anew_at : k < 20 → enrolment_of es f ≡ Some e → anew meaning e (places_of es f) k n ≡ assessment_at meaning es f (2017 + k)
  unfolding assessment_at
  anew_at lt is =
      ap (anew_of meaning e (places_of es f) (2017 + k) n) (place_at es f k None lt) ∙ anew_of_place (standing_at es f (2017 + k))
      ∙ sym (ap (λ (o : Option EnrolmentFields). assessment_of meaning es f (2017 + k) o (standing_at es f (2017 + k))) is)

-- assessments that are equal since their parts are
module _ (meaning : Meaning) (es ds : List Event) (f y : ℕ) (means : (e : EnrolmentFields) → meaning e (places_of es f) y ≡ meaning e (places_of ds f) y) (number : number_of es f y ≡ number_of ds f y) where
  of_same : (e : Option EnrolmentFields) (o : Option FilingFields) → assessment_of meaning es f y e o ≡ assessment_of meaning ds f y e o
  of_same None o = refl
  of_same (Some e) None = refl
  of_same (Some e) (Some x) =
      ap (λ (t : Told). Some (assessment (emissions x.head) t (number_of es f y))) (means e)
      ∙ ap (λ (i : ℕ). Some (assessment (emissions x.head) (meaning e (places_of ds f) y) i)) number

  pub at_same : enrolment_of es f ≡ enrolment_of ds f → standing_at es f y ≡ standing_at ds f y → assessment_at meaning es f y ≡ assessment_at meaning ds f y
  unfolding assessment_at
  at_same enrols stands =
      ap (λ (o : Option EnrolmentFields). assessment_of meaning es f y o (standing_at es f y)) enrols
      ∙ ap (assessment_of meaning es f y (enrolment_of ds f)) stands ∙ of_same (enrolment_of ds f) (standing_at ds f y)

module _ (meaning : Meaning) (later : Later meaning) (es ds : List Event) (ps qs : List Plant) (f y : ℕ) (e : Enrolment) (v : Option Signed) (n : ℕ) (low : 2017 ≤ y) (high : y ≤ 2036) (events : Refills es ds f y (filing_at v) n) (fit : Refit meaning ps qs f y e v n) (lived : PlantsLived meaning es ps) (d : Plant) (d-is : d ≡ get_or ps (f - 1) d) (enrolled_is : d.enrolment ≡ Some e) where
  -- at the facility
  stands_here : (z : ℕ) → standing_at ds f z ≡ cond (eqb y z) (filing_at v) (standing_at es f z)
  stands_here z = events.leaves_at f z ∙ ap (λ (b : Bool). cond (b && eqb y z) (filing_at v) (standing_at es f z)) (eq-eqb f f refl)

  places_here : places_of ds f ≡ set (places_of es f) (y - 2017) (filing_at v)
  places_here = sym (places_set es ds f y (filing_at v) low high stands_here)

  number_here : (z : ℕ) → number_of ds f z ≡ cond (leb y z) n (number_of es f z)
  number_here z = events.numbers_at f z ∙ ap (λ (b : Bool). cond (b && leb y z) n (number_of es f z)) (eq-eqb f f refl)

  -- a year before the place
  before_here : (k : ℕ) → k < y - 2017 → assessment_at meaning es f (2017 + k) ≡ assessment_at meaning ds f (2017 + k)
  before_here k before =
      let ne : y ≢ 2017 + k = omega arith in
      let lt : 2017 + k < y = omega arith in
      let le : 2017 + k - 2016 ≤ y - 2017 = omega arith in
      at_same meaning es ds f (2017 + k)
      (λ x.
      later x (places_of es f) (places_of ds f) (2017 + k)
      (sym (ap (up_to (2017 + k)) places_here ∙ take-set-le (2017 + k - 2016) (places_of es f) (y - 2017) (filing_at v) le)))
      (sym (number_here (2017 + k) ∙ ap (λ (b : Bool). cond b n (number_of es f (2017 + k))) (lt-leb y (2017 + k) lt)))
      (sym (events.enrolls f))
      (sym (stands_here (2017 + k) ∙ ap (λ (b : Bool). cond b (filing_at v) (standing_at es f (2017 + k))) (ne_eqb y (2017 + k) ne)))

  here : 1 ≤ f → f ≤ 4 → (q : Plant) → q ≡ get_or qs (f - 1) q → PlantLived meaning ds f q
  here lo hi q q-is =
      let re = fit.plant d q d-is q-is in
      let was = lived f lo hi d d-is in
      let row : set (filings d.places) (y - 2017) (filing_at v) ≡ places_of ds f = ap (λ (l : Places). set l (y - 2017) (filing_at v)) was.places_are ∙ sym places_here in
      let enrolment : enrolment_of ds f ≡ Some (enrolled e) = events.enrolls f ∙ sym was.enrolment_is ∙ ap (option_map enrolled) enrolled_is in
      record {
        enrolment_is = ap (option_map enrolled) re.enrolment ∙ was.enrolment_is ∙ sym (events.enrolls f);
        places_are = re.places ∙ row;
        assessed_are = λ k lt.
            ⊎_elim
            (λ (before : k < y - 2017).
            ap (option_map assessment_fields) (re.before k before) ∙ was.assessed_are k lt ∙ before_here k before)
            (λ (from : y - 2017 ≤ k).
            let le : y ≤ 2017 + k = omega arith in
            re.after k from lt ∙ ap (λ (l : Places). anew meaning (enrolled e) l k n) row
            ∙ anew_at meaning ds f k n (enrolled e)
            (sym (number_here (2017 + k) ∙ ap (λ (b : Bool). cond b n (number_of es f (2017 + k))) (le-leb y (2017 + k) le))) lt enrolment)
            (cases_lt k (y - 2017));
      }

  -- at another facility
  other : 1 ≤ f → (g : ℕ) → g ≢ f → 1 ≤ g → g ≤ 4 → (q : Plant) → q ≡ get_or qs (g - 1) q → PlantLived meaning ds g q
  other one g ne lo hi q q-is =
      let apart : g - 1 ≢ f - 1 = omega arith in
      let was = lived g lo hi q (q-is ∙ fit.others (g - 1) q apart) in
      let off : eqb f g ≡ false = ne_eqb f g (λ eq. ne (sym eq)) in
      let stands : (z : ℕ) → standing_at es g z ≡ standing_at ds g z = λ z. sym (events.leaves_at g z ∙ ap (λ (b : Bool). cond (b && eqb y z) (filing_at v) (standing_at es g z)) off) in
      let row : places_of es g ≡ places_of ds g = places_same es ds g g stands in
      record {
        enrolment_is = was.enrolment_is ∙ sym (events.enrolls g);
        places_are = was.places_are ∙ row;
        assessed_are = λ k lt.
            was.assessed_are k lt
            ∙ at_same meaning es ds g (2017 + k) (λ x. ap (λ (l : Places). meaning x l (2017 + k)) row)
            (sym (events.numbers_at g (2017 + k) ∙ ap (λ (b : Bool). cond (b && leb y (2017 + k)) n (number_of es g (2017 + k))) off))
            (sym (events.enrolls g)) (stands (2017 + k));
      }

  pub refit_lives : 1 ≤ f → PlantsLived meaning ds qs
  refit_lives one g lo hi q q-is =
      ⊎_elim
      (λ (eq : g ≡ f).
      let P : ℕ → Type 0 = λ j. 1 ≤ j → j ≤ 4 → q ≡ get_or qs (j - 1) q → PlantLived meaning ds j q in
      subst P (sym eq) (λ a b c. here a b q c) lo hi q-is)
      (λ (ne : g ≢ f). other one g ne lo hi q q-is)
      (cases_eq g f)

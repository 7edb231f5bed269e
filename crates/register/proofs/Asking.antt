-- How a call on a facility and year is answered, from what was found there.
use Rattle.std.proofs.Common.{◌≡◌, ℕ, ◌+◌, ◌-◌, ◌≤◌, Bool, true, false, not, ◌&&◌, leb, List, [], ◌∷◌, get_or, is_some, Some, None, Option, Result, sym, refl, ap, ◌∙◌, subst, ⊎_elim}
use Rattle.std.proofs.lemmas.Bool.{cases_Bool, and_parts, and_from, le-leb, leb-true, cond-true, cond-false}
use Rattle.filing.specs.Filing.{FilingFields}
use Rattle.filing.specs.declared.signed.Signed.{Signed}
use Rattle.enrolment.specs.Ranges.{between}
use Rattle.enrolment.specs.declared.enrolment.Enrolment.{Enrolment}
use Rattle.limit.specs.Laws.{Meaning, Later}
use Rattle.standard.specs.Places.{Places, filing_at, standing}
use Rattle.register.specs.Acceptance.{Check, first_of, checks, unknown, book_full, spent, refusal_of, accepted}
use Rattle.register.specs.Answers.{refused, numbered, granted, answer_by, answer_to, number_answer}
use Rattle.register.specs.Calls.{CallFields, file, amend, withdraw, Act, filing_act, withdrawal, Event, acts, event_of}
use Rattle.register.specs.History.{standing_at, places_of, enrolment_of, numbers}
use Rattle.register.specs.Lived.{Holds, Lived, LivesAnswering}
use Rattle.register.specs.Refusals.{refusal_told}
use Rattle.register.specs.Steps.{EnrolledBy, Absent, StandsAt, Acted}
use Rattle.register.specs.declared.places.Place.{Place}
use Rattle.register.specs.declared.refusals.Refusal.{Refusal}
use Rattle.register.specs.declared.refusals.Refusal.TheVariants.{Unknown, Stands, Vacant}
use Rattle.register.specs.declared.table.Register.{Register}
use Rattle.register.proofs.Deeds.{acted_lives}
use Rattle.register.proofs.Keeping.{check_holds, check_passes, refused_lives}
use Rattle.register.proofs.Plain.{no_year, enrolled_no, plant_at, plant_read, by_read, by_enrolled}
use Rattle.register.proofs.Rows.{place_of}

filing_some : (o : Option Signed) → is_some (filing_at o) ≡ is_some o
filing_some None = refl
filing_some (Some s) = refl

module _ {M : Type 0} (μ : M → Meaning) (m : M) (r : Register M) (es : List Event) (H : Holds μ m r es) where
  -- the places of a history at any year
  history_stands : (f y : ℕ) → standing (places_of es f) y ≡ standing_at es f y
  history_stands f y =
      ⊎_elim
      (λ (t : between 2017 2036 y ≡ true).
      let p = and_parts (leb 2017 y) (leb y 2036) t in
      cond-true (leb 2017 y && leb y 2036) (get_or (places_of es f) (y - 2017) None) None t
      ∙ place_of es f y None (leb-true 2017 y p.0) (leb-true y 2036 p.1))
      (λ (t : between 2017 2036 y ≡ false).
      cond-false (leb 2017 y && leb y 2036) (get_or (places_of es f) (y - 2017) None) None t ∙ sym (no_year μ m r es H f y t))
      (cases_Bool (between 2017 2036 y))

  pub absent_none : (f : ℕ) → Absent r f → enrolment_of es f ≡ None
  absent_none f absent =
      ⊎_elim
      (λ (t : between 1 4 f ≡ true).
      let p = and_parts (leb 1 f) (leb f 4) t in
      let lo = leb-true 1 f p.0 in
      let hi = leb-true f 4 p.1 in
      enrolled_no μ m r es H f lo hi (plant_at μ m r es H f) (plant_read μ m r es H f lo hi) (absent lo hi (plant_at μ m r es H f) (plant_read μ m r es H f lo hi)))
      (λ (t : between 1 4 f ≡ false). H.no_others f t)
      (cases_Bool (between 1 4 f))

  module _ (f : ℕ) (e : Enrolment) (by : EnrolledBy r f e) where
    pub read_stands : (y : ℕ) (p : Option Signed) → StandsAt r f y p → filing_at p ≡ standing_at es f y
    read_stands y p stands =
        let d = plant_at μ m r es H f in
        let read = by_read μ m r es H f e by in
        stands d read
        ∙ ap (λ (ps : Places). standing ps y) (H.plants_are f by.low by.high d read).places_are
        ∙ history_stands f y

    -- a year without a place has nothing
    pub no_place : (y : ℕ) → (between 1 4 f ≡ true → between 2017 2036 y ≡ false) → is_some (standing_at es f y) ≡ false
    no_place y out = ap is_some (no_year μ m r es H f y (out (and_from (leb 1 f) (leb f 4) (le-leb 1 f by.low) (le-leb f 4 by.high))))

    -- whether something stands, from what was read
    pub stands_as_read : (y : ℕ) (p : Option Signed) → StandsAt r f y p → (b : Bool) → is_some p ≡ b → is_some (standing_at es f y) ≡ b
    stands_as_read y p stands b is = sym (ap is_some (read_stands y p stands)) ∙ filing_some p ∙ is

-- what was read, by its case
pub stands_same : {M : Type 0} (r : Register M) (f y : ℕ) (p q : Option Signed) → StandsAt r f y p → p ≡ q → StandsAt r f y q
stands_same r f y p q stands same d d-is = sym (ap filing_at same) ∙ stands d d-is

-- the same of one place, by the case of what was read
module _ {M : Type 0} (μ : M → Meaning) (m : M) (r : Register M) (es : List Event) (H : Holds μ m r es) (f y : ℕ) (e : Enrolment) (p : Option Signed) (by : EnrolledBy r f e) (stands : StandsAt r f y p) where
  pub placed_as_read : (b : Bool) → b ≡ is_some p → is_some (standing_at es f y) ≡ b
  placed_as_read b is = stands_as_read μ m r es H f e by y p stands b (sym is)

-- a call that asks first for the enrolment of f, and then for one thing more, whatever that is
module _ {M : Type 0} (μ : M → Meaning) (m : M) (r : Register M) (c : CallFields) (cs : List CallFields) (L : Lived μ m r cs) (f : ℕ) (second : Check) (asks : checks c (accepted cs) ≡ unknown (accepted cs) f ∷ second ∷ book_full (accepted cs) ∷ spent (accepted cs) ∷ []) where
  any_refused : (w : Refusal) → refusal_of c (accepted cs) ≡ Some w → Lived μ m r (c ∷ cs) × (refused (refusal_told w) ≡ answer_to (μ m) c cs)
  any_refused w why = (refused_lives μ m r c cs w why L, sym (ap (λ o. answer_by o (granted (μ m) c (accepted cs))) why))

  pub any_unknown : Absent r f → Lived μ m r (c ∷ cs) × (refused (refusal_told Unknown) ≡ answer_to (μ m) c cs)
  any_unknown absent =
      any_refused Unknown
      (ap first_of asks ∙ check_holds (unknown (accepted cs) f) (second ∷ book_full (accepted cs) ∷ spent (accepted cs) ∷ []) (ap (λ o. not (is_some o)) (absent_none μ m r (accepted cs) L f absent)))

  module _ (known : is_some (enrolment_of (accepted cs) f) ≡ true) where
    any_passed : refusal_of c (accepted cs) ≡ first_of (second ∷ book_full (accepted cs) ∷ spent (accepted cs) ∷ [])
    any_passed = ap first_of asks ∙ check_passes (unknown (accepted cs) f) (second ∷ book_full (accepted cs) ∷ spent (accepted cs) ∷ []) (ap not known)

    pub any_second : second.0 ≡ true → Lived μ m r (c ∷ cs) × (refused (refusal_told second.1) ≡ answer_to (μ m) c cs)
    any_second holds = any_refused second.1 (any_passed ∙ check_holds second (book_full (accepted cs) ∷ spent (accepted cs) ∷ []) holds)

    pub any_passes : second.0 ≡ false → refusal_of c (accepted cs) ≡ first_of (book_full (accepted cs) ∷ spent (accepted cs) ∷ [])
    any_passes fails = any_passed ∙ check_passes second (book_full (accepted cs) ∷ spent (accepted cs) ∷ []) fails

-- an act that nothing refuses but the undo log and the numbers
module _ {M : Type 0} (μ : M → Meaning) (later : (m : M) → Later (μ m)) (m : M) (r s : Register M) (c : CallFields) (cs : List CallFields) (L : Lived μ m r cs) (a : Act) (does : event_of c ≡ Some (acts a)) (grants : granted (μ m) c (accepted cs) ≡ numbered (numbers (accepted cs) + 1)) (second : Check) (asks : checks c (accepted cs) ≡ unknown (accepted cs) a.facility ∷ second ∷ book_full (accepted cs) ∷ spent (accepted cs) ∷ []) (e : Enrolment) (old v : Option Signed) (by : EnrolledBy r a.facility e) (stands : StandsAt r a.facility a.year old) (low : 2017 ≤ a.year) (high : a.year ≤ 2036) (passes : second.0 ≡ false) (v-is : filing_at v ≡ a.leaves) where
  pub any_acts : (ans : Result ℕ Refusal) → Acted μ r s a.facility a.year e old v ans → Lived μ m s (c ∷ cs) × (number_answer ans ≡ answer_to (μ m) c cs)
  any_acts ans did =
      let es = accepted cs in
      let known = by_enrolled μ m r es L a.facility e by in
      let done =
      acted_lives μ later m r s a low high e by old v v-is c cs L does
      (any_passes μ m r c cs L a.facility second asks known passes)
      (read_stands μ m r es L a.facility e by a.year old stands) ans did
      in
      (done.0, done.1 ∙ sym (ap (answer_by (refusal_of c es)) grants))

-- a call that acts on a place: it asks for the enrolment of the facility, whether something stands, and then for room
pub record ActsOn (c : CallFields) (a : Act) (bars : Bool → Bool) (w : Refusal) : Type 0 where
  pub does : event_of c ≡ Some (acts a)
  pub asks : (es : List Event) → checks c es ≡ unknown es a.facility ∷ (bars (is_some (standing_at es a.facility a.year)), w) ∷ book_full es ∷ spent es ∷ []
  pub grants : (meaning : Meaning) (es : List Event) → granted meaning c es ≡ numbered (numbers es + 1)

module _ {M : Type 0} (μ : M → Meaning) (r : Register M) {c : CallFields} {a : Act} {bars : Bool → Bool} {w : Refusal} (on : ActsOn c a bars w) where
  abbrev second : List Event → Check
  second es = (bars (is_some (standing_at es a.facility a.year)), w)

  answered_refused : (v : Refusal) → ((m : M) (cs : List CallFields) → Lived μ m r cs → refusal_of c (accepted cs) ≡ Some v) → LivesAnswering μ r r c (refused (refusal_told v))
  answered_refused v why m cs L = let es = accepted cs in any_refused μ m r c cs L a.facility (second es) (on.asks es) v (why m cs L)

  pub asked_unknown : Absent r a.facility → LivesAnswering μ r r c (refused (refusal_told Unknown))
  asked_unknown absent m cs L = let es = accepted cs in any_unknown μ m r c cs L a.facility (second es) (on.asks es) absent

  module _ (e : Enrolment) (by : EnrolledBy r a.facility e) where
    passed : (m : M) (cs : List CallFields) → Lived μ m r cs → refusal_of c (accepted cs) ≡ first_of (second (accepted cs) ∷ book_full (accepted cs) ∷ spent (accepted cs) ∷ [])
    passed m cs L =
        let es = accepted cs in
        any_passed μ m r c cs L a.facility (second es) (on.asks es) (by_enrolled μ m r es L a.facility e by)

    asked_second : (b : Bool) → bars b ≡ true → ((m : M) (cs : List CallFields) → Lived μ m r cs → is_some (standing_at (accepted cs) a.facility a.year) ≡ b) → LivesAnswering μ r r c (refused (refusal_told w))
    asked_second b barred is =
        answered_refused w
        (λ m cs L. let es = accepted cs in passed m cs L ∙ check_holds (second es) (book_full es ∷ spent es ∷ []) (ap bars (is m cs L) ∙ barred))

    -- there is no such place
    pub asked_nowhere : bars false ≡ true → (between 1 4 a.facility ≡ true → between 2017 2036 a.year ≡ false) → LivesAnswering μ r r c (refused (refusal_told w))
    asked_nowhere barred out = asked_second false barred (λ m cs L. no_place μ m r (accepted cs) L a.facility e by a.year out)

    module _ (p : Option Signed) (stands : StandsAt r a.facility a.year p) where
      as_read : (m : M) (cs : List CallFields) → Lived μ m r cs → is_some (standing_at (accepted cs) a.facility a.year) ≡ is_some p
      as_read m cs L = stands_as_read μ m r (accepted cs) L a.facility e by a.year p stands (is_some p) refl

      -- what stands there, or that nothing does, bars the call
      pub asked_barred : bars (is_some p) ≡ true → LivesAnswering μ r r c (refused (refusal_told w))
      asked_barred barred = asked_second (is_some p) barred as_read

      -- nothing refuses the act but the undo log and the numbers
      pub asked_acts : ((m : M) → Later (μ m)) → (s : Register M) → 2017 ≤ a.year → a.year ≤ 2036 → bars (is_some p) ≡ false → (v : Option Signed) → filing_at v ≡ a.leaves → (ans : Result ℕ Refusal) → Acted μ r s a.facility a.year e p v ans → LivesAnswering μ r s c (number_answer ans)
      asked_acts later s low high free v v-is ans did m cs L =
          let es = accepted cs in
          any_acts μ later m r s c cs L a on.does (on.grants (μ m) es) (second es) (on.asks es) e p v by stands low high (ap bars (as_read m cs L) ∙ free) v-is ans did

-- a filing, at the place that it is for
abbrev pub IsFor : FilingFields → Place → Type 0
IsFor x p = (p.facility ≡ x.head.facility) × (p.year ≡ x.head.year)

module _ (x : FilingFields) (p : Place) (p-is : IsFor x p) where
  abbrev pub act_of : Act
  act_of = record { facility = p.facility; year = p.year; leaves = Some x }

  filing_does : filing_act x ≡ act_of
  filing_does = rw (p-is.0, p-is.1) refl

  pub file_acts : ActsOn (file x) act_of (λ b. b) Stands
  file_acts = record { does = ap (λ a. Some (acts a)) filing_does; asks = λ es. rw (p-is.0, p-is.1) refl; grants = λ meaning es. refl }

  pub amend_acts : ActsOn (amend x) act_of not Vacant
  amend_acts = record { does = ap (λ a. Some (acts a)) filing_does; asks = λ es. rw (p-is.0, p-is.1) refl; grants = λ meaning es. refl }

-- the same at a place that is this one
module _ (x : FilingFields) {p q : Place} (same : q ≡ p) (p-is : IsFor x p) where
  abbrev q-is : IsFor x q
  q-is = subst (IsFor x) (sym same) p-is

  pub file_at : ActsOn (file x) (act_of x q q-is) (λ b. b) Stands
  file_at = file_acts x q q-is

  pub amend_at : ActsOn (amend x) (act_of x q q-is) not Vacant
  amend_at = amend_acts x q q-is

pub withdraw_acts : (f y : ℕ) → ActsOn (withdraw f y) (withdrawal f y) not Vacant
withdraw_acts f y = record { does = refl; asks = λ es. refl; grants = λ meaning es. refl }

-- Where nothing stands: where no unstruck act is.
use Rattle.std.proofs.Common.{◌≡◌, ℕ, ◌≤◌, Bool, true, false, ◌&&◌, eqb, leb, List, [], ◌∷◌, is_some, Some, None, sym, refl, ap, ◌∙◌, inl, inr, arith}
use Rattle.std.specs.List.{AllByRecursion}
use Rattle.std.proofs.ByRecursion.{All-weaker}
use Rattle.std.proofs.lemmas.Bool.{and_left, and_right, cases_Bool, cond-false, false≢true, le-leb, ne_eqb, and_from}
use Rattle.filing.specs.Filing.{FilingFields}
use Rattle.enrolment.specs.Ranges.{between}
use Rattle.register.specs.Calls.{Act, Event}
use Rattle.register.specs.History.{left_by, standing_at, enrolment_of}
use Rattle.register.specs.Lived.{Known}
use Rattle.register.specs.Striking.{unstruck}

-- the act is on the facility, in just the year
abbrev pub on_just : ℕ → ℕ → Act → Bool
on_just f y a = eqb a.facility f && eqb a.year y

left_none : (ds : List Act) (f y : ℕ) → AllByRecursion (λ a. on_just f y a ≡ false) ds → left_by ds f y ≡ None
left_none [] f y h = refl
left_none (a ∷ ds) f y h = cond-false (on_just f y a) a.leaves (left_by ds f y) h.0 ∙ left_none ds f y h.1

pub none_stands : (es : List Event) (f y : ℕ) → AllByRecursion (λ a. on_just f y a ≡ false) (unstruck es) → standing_at es f y ≡ None
unfolding standing_at
none_stands es f y h = left_none (unstruck es) f y h

-- nothing stands in a year without a place
year_inside : (es : List Event) (a : Act) (y : ℕ) → Known es a → a.year ≡ y → between 2017 2036 y ≡ true
year_inside es a y k same =
    let low : 2017 ≤ y = omega (arith, k.from) in
    let high : y ≤ 2036 = omega (arith, k.to) in
    and_from (leb 2017 y) (leb y 2036) (le-leb 2017 y low) (le-leb y 2036 high)

year_away : (es : List Event) (f y : ℕ) → between 2017 2036 y ≡ false → (a : Act) → Known es a → on_just f y a ≡ false
year_away es f y out a k = and_right (eqb a.facility f) (eqb a.year y) (ne_eqb a.year y (λ same. false≢true (sym out ∙ year_inside es a y k same)))

pub outside_none : (es : List Event) (f y : ℕ) → AllByRecursion (Known es) (unstruck es) → between 2017 2036 y ≡ false → standing_at es f y ≡ None
outside_none es f y known out = none_stands es f y (All-weaker (Known es) (λ a. on_just f y a ≡ false) (year_away es f y out) (unstruck es) known)

-- nothing stands at a facility that is not enrolled
facility_away : (es : List Event) (f y : ℕ) → is_some (enrolment_of es f) ≡ false → (a : Act) → Known es a → on_just f y a ≡ false
facility_away es f y lacks a k =
    and_left (eqb a.facility f) (eqb a.year y)
    (ne_eqb a.facility f (λ same. false≢true (sym lacks ∙ sym (ap (λ (g : ℕ). is_some (enrolment_of es g)) same) ∙ k.is_enrolled)))

pub unenrolled_vacant : (es : List Event) (f y : ℕ) → AllByRecursion (Known es) (unstruck es) → is_some (enrolment_of es f) ≡ false → standing_at es f y ≡ None
unenrolled_vacant es f y known lacks = none_stands es f y (All-weaker (Known es) (λ a. on_just f y a ≡ false) (facility_away es f y lacks) (unstruck es) known)

pub standing_enrolled : (es : List Event) (f y : ℕ) (x : FilingFields) → AllByRecursion (Known es) (unstruck es) → standing_at es f y ≡ Some x → is_some (enrolment_of es f) ≡ true
standing_enrolled es f y x known stands =
    elim (cases_Bool (is_some (enrolment_of es f))) [
      | inl is ↦ is
      | inr lacks ↦ cc (unenrolled_vacant es f y known lacks)
    ]

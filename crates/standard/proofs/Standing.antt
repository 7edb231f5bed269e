-- What stands at a year's place.
use Rattle.std.proofs.Common.{◌≡◌, ℕ, ◌≤◌, Bool, true, false, cond, leb, Some, None, Option, sym, refl, ap, ◌∙◌}
use Rattle.std.proofs.lemmas.Bool.{leb-true, and_parts}
use Rattle.filing.specs.Filing.{FilingFields}
use Rattle.standard.specs.Places.{Places, standing}
use Rattle.standard.specs.Reference.{has_activity, qualifies, figures_of, figures_at}
use Rattle.standard.specs.Views.{year_figures}
use Rattle.standard.specs.declared.units.ReferenceYear.{ReferenceYear}

placed : (a : ℕ) (b : Bool) (p : Option FilingFields) → has_activity a (cond b p None) ≡ true → b ≡ true
placed a true p h = refl
placed a false p h = h

-- a year that qualifies has a place
pub qualifies_within : (ps : Places) (a y : ℕ) → qualifies ps a y ≡ true → y ≤ 2036
qualifies_within ps a y h = leb-true y 2036 (and_parts (leb 2017 y) (leb y 2036) (placed a _ _ h)).1

figures_year : (a y : ℕ) (p : Option FilingFields) → (figures_of a y p).year ≡ y
figures_year a y None = refl
figures_year a y (Some f) = refl

-- figures that are those of the year y are those of their own year
pub own_year : (ps : Places) (a y : ℕ) (o : Option ℕ) (r : ReferenceYear) → o ≡ Some y → year_figures r ≡ figures_at ps a y → (o ≡ Some r.year) × (year_figures r ≡ figures_at ps a r.year)
own_year ps a y o r first is =
    let same : y ≡ r.year = sym (ap (λ f. f.year) is ∙ figures_year a y (standing ps y)) in
    (first ∙ ap Some same, is ∙ ap (figures_at ps a) same)

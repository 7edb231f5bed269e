-- What the base year means.
use Rattle.std.proofs.Common.{◌≡◌, ℕ, ◌≤◌, true, false, not, Some, None, Option, sym, subst, arith}
use Rattle.std.proofs.lemmas.Bool.{and_from, and_parts, both_ways, not-true, not_from_false}
use Rattle.enrolment.specs.Exempt.{exempt}
use Rattle.enrolment.specs.declared.fields.EnrolmentFields.{EnrolmentFields}
use Rattle.standard.specs.Found.{YearOf, Based}
use Rattle.standard.specs.Places.{Places, standing}
use Rattle.standard.specs.Reference.{qualifies, may_be_base, base_year, BaseOf}
use Rattle.standard.proofs.Least.{First, least_is}
use Rattle.standard.specs.declared.units.ReferenceYear.{ReferenceYear}
use Rattle.standard.proofs.Standing.{own_year, qualifies_within}

module _ (e : EnrolmentFields) (ps : Places) (a : ℕ) where
  may : (z : ℕ) → exempt e z ≡ false → qualifies ps a z ≡ true → may_be_base e ps a z ≡ true
  may z due filed = and_from _ _ (not_from_false _ due) filed

  meaning : (o : Option ℕ) → First (may_be_base e ps a) 2019 18 o → BaseOf e ps a o
  meaning (Some y) f =
      let p = and_parts (not (exempt e y)) (qualifies ps a y) f.passes in
      record { from = f.from; due = not-true _ p.0; filed = p.1; least = λ z from due filed. f.least z from (may z due filed) }
  meaning None f = λ z from due filed. f z from (omega (arith, qualifies_within ps a z filed)) (may z due filed)

  pub base_means : BaseOf e ps a (base_year e ps a)
  unfolding base_year
  base_means = meaning _ (least_is (may_be_base e ps a) 2019 18)

  pub base_from : (y : ℕ) → base_year e ps a ≡ Some y → 2019 ≤ y
  base_from y is = let P : Option ℕ → Type 0 = BaseOf e ps a in (subst P is base_means).from

-- the answer that is the base year
pub base_is : (e : EnrolmentFields) (ps : Places) (a : ℕ) (o : Option ℕ) → o ≡ base_year e ps a → BaseOf e ps a o
base_is e ps a o is = let P : Option ℕ → Type 0 = BaseOf e ps a in subst P (sym is) (base_means e ps a)

-- what the base year has, or nothing, which it never has
pub has_base : (e : EnrolmentFields) (ps : Places) (a y : ℕ) (o : Option ReferenceYear) → Some y ≡ base_year e ps a → YearOf a y (standing ps y) o → Based e ps a o
has_base e ps a y None is h = absurd (both_ways (qualifies ps a y) h (base_is e ps a (Some y) is).filed)
has_base e ps a y (Some r) is h = own_year ps a y (base_year e ps a) r (sym is) h.1

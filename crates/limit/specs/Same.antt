-- Places that agree up to a year have the same outcome there.
use Rattle.std.specs.Prelude.{◌≡◌, ℕ, ◌-◌, ◌<◌, ◌≤◌, Bool, true, false, cond, ◌&&◌, get_or, Some, None, Option, nat_le, nat_lt, slice_index_or, refl}
use Rattle.std.proofs.Common.{sym, ap, ◌∙◌, get_or-take}
use Rattle.std.proofs.Math.Numerals.{sub-suc-lt}
use Rattle.std.proofs.lemmas.Bool.{and_parts, leb-true}
use Rattle.filing.specs.Filing.{FilingFields}
use Rattle.filing.specs.Kinds.{kind_of}
use Rattle.enrolment.specs.declared.fields.EnrolmentFields.{EnrolmentFields}
use Rattle.standard.specs.Contribution.{contribution, of_kind}
use Rattle.standard.specs.Places.{Places, standing, up_to}
use Rattle.standard.specs.declared.calculation.Calculation.{Calculation}
use Rattle.limit.specs.Methods.{of_filing}
use Rattle.limit.specs.Lines.{limit_of}
use Rattle.limit.specs.Outcome.{no_limit}

cond_same : {X : Type 0} (b : Bool) (x y z : X) → (b ≡ true → x ≡ y) → cond b x z ≡ cond b y z
cond_same true x y z h = h refl
cond_same false x y z h = refl

pub standing_same : (ps qs : Places) (y : ℕ) → up_to y ps ≡ up_to y qs → standing ps y ≡ standing qs y
standing_same ps qs y e =
    cond_same (nat_le 2017 y && nat_le y 2036) (slice_index_or ps (y - 2017) None) (slice_index_or qs (y - 2017) None) None
    (λ t.
    let low : 2017 ≤ y = leb-true 2017 y (and_parts (nat_le 2017 y) (nat_le y 2036) t).0 in
    let lt : y - 2017 < y - 2016 = sub-suc-lt y 2016 low in
    sym (get_or-take (y - 2016) ps (y - 2017) None lt) ∙ ap (λ (l : Places). get_or l (y - 2017) None) e ∙ get_or-take (y - 2016) qs (y - 2017) None lt)

-- what the lines contribute is read off the places up to the year alone
filing_same : (free : Bool) (by : Calculation) (e : EnrolmentFields) (ps qs : Places) (y : ℕ) (o : Option FilingFields) → up_to y ps ≡ up_to y qs → of_filing free by e ps y o ≡ of_filing free by e qs y o
unfolding contribution
filing_same free by e ps qs y None h = refl
filing_same free by e ps qs y (Some f) h = ap (λ (past : Places). cond (nat_lt y 2019) (no_limit 41) (cond free (no_limit 42) (limit_of (λ l. of_kind (kind_of l.kind) by e past y l) f.lines))) h

pub outcome_same : (free : Bool) (by : Calculation) (e : EnrolmentFields) (ps qs : Places) (y : ℕ) → up_to y ps ≡ up_to y qs → of_filing free by e ps y (standing ps y) ≡ of_filing free by e qs y (standing qs y)
outcome_same free by e ps qs y h = filing_same free by e ps qs y (standing ps y) h ∙ ap (of_filing free by e qs y) (standing_same ps qs y h)

pub outcome_vacant : (free : Bool) (by : Calculation) (e : EnrolmentFields) (ps : Places) (y : ℕ) → standing ps y ≡ None → of_filing free by e ps y (standing ps y) ≡ no_limit 15
outcome_vacant free by e ps y h = ap (of_filing free by e ps y) h

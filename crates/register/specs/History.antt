-- What stands, who is enrolled and which numbers were given, from the accepted events alone, newest first.
use Rattle.std.specs.Prelude.{ℕ, ◌+◌, cond, ◌&&◌, List, [], ◌∷◌, map, Some, None, Option, ◌==◌, nat_le}
use Rattle.std.specs.List.{range_with_len}
use Rattle.filing.specs.Filing.{FilingFields}
use Rattle.enrolment.specs.declared.fields.EnrolmentFields.{EnrolmentFields}
use Rattle.standard.specs.Places.{Places}
use Rattle.register.specs.Calls.{Act, Event, enrols, acts, takes_back, closes}
use Rattle.register.specs.Striking.{undo_log, unstruck}

-- what the last of these acts on a facility and year leaves
abbrev pub left_by : List Act → ℕ → ℕ → Option FilingFields
left_by [] f y = None
left_by (a ∷ more) f y = cond (a.facility == f && a.year == y) a.leaves (left_by more f y)

-- the filing that stands at a facility and year: the last unstruck act decides
unfoldable pub standing_at : List Event → ℕ → ℕ → Option FilingFields
standing_at es f y = left_by (unstruck es) f y

-- a facility's places, 2017 to 2036
unfoldable pub places_of : List Event → ℕ → Places
places_of es f = map (standing_at es f) (range_with_len 2017 20)

-- a facility's enrolment
abbrev pub enrolment_of : List Event → ℕ → Option EnrolmentFields
enrolment_of [] f = None
enrolment_of (enrols e ∷ es) f = cond (e.facility == f) (Some e) (enrolment_of es f)
enrolment_of (acts a ∷ es) f = enrolment_of es f
enrolment_of (takes_back ∷ es) f = enrolment_of es f
enrolment_of (closes ∷ es) f = enrolment_of es f

-- how many numbers were given: to acts, struck or not, and to take-backs
abbrev pub numbers : List Event → ℕ
numbers [] = 0
numbers (enrols e ∷ es) = numbers es
numbers (acts a ∷ es) = numbers es + 1
numbers (takes_back ∷ es) = numbers es + 1
numbers (closes ∷ es) = numbers es

-- the newest of these acts is on the facility, in the year or an earlier one: the number n, else m
abbrev pub if_touched : List Act → ℕ → ℕ → ℕ → ℕ → ℕ
if_touched [] f y n m = m
if_touched (a ∷ more) f y n m = cond (a.facility == f && nat_le a.year y) n m

-- the number of the latest act or take-back on a facility in a year or an earlier one; a take-back is on the
-- facility and year of the act that it strikes
unfoldable pub number_of : List Event → ℕ → ℕ → ℕ
number_of [] f y = 0
number_of (enrols e ∷ es) f y = number_of es f y
number_of (acts a ∷ es) f y = if_touched (a ∷ []) f y (numbers es + 1) (number_of es f y)
number_of (takes_back ∷ es) f y = if_touched (undo_log es) f y (numbers es + 1) (number_of es f y)
number_of (closes ∷ es) f y = number_of es f y

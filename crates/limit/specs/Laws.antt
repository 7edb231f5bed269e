-- The laws of every limit method's meaning.
use Rattle.std.specs.Prelude.{◌≡◌, ℕ, ◌≤◌, Some, None, Option}
use Rattle.std.specs.List.{AllByRecursion}
use Rattle.quantity.specs.Ranges.{most_tonnes}
use Rattle.filing.specs.Filing.{FilingFields}
use Rattle.filing.specs.Sound.{Sound}
use Rattle.enrolment.specs.declared.fields.EnrolmentFields.{EnrolmentFields}
use Rattle.standard.specs.Places.{Places, standing, up_to}
use Rattle.limit.specs.Outcome.{Told, limit, no_limit, fault}

abbrev pub Meaning : Type 0
Meaning = EnrolmentFields → Places → ℕ → Told

-- places after the year make no difference
abbrev pub Later : Meaning → Type 0
Later meaning = (e : EnrolmentFields) (ps qs : Places) (y : ℕ) → up_to y ps ≡ up_to y qs → meaning e ps y ≡ meaning e qs y

-- where nothing stands at the year, and for a year without a place, there is no limit, 15
abbrev pub Vacant : Meaning → Type 0
Vacant meaning = (e : EnrolmentFields) (ps : Places) (y : ℕ) → standing ps y ≡ None → meaning e ps y ≡ no_limit 15

abbrev pub SoundAt : Option FilingFields → Type 0
SoundAt None = Unit {0}
SoundAt (Some f) = Sound f

abbrev pub AtMost : Told → Type 0
AtMost (limit n) = n ≤ most_tonnes
AtMost (no_limit c) = Unit {0}
AtMost (fault c l) = Unit {0}

-- on sound filings, as all signed filings are, limits are at most ten to the twelfth
abbrev pub Most : Meaning → Type 0
Most meaning = (e : EnrolmentFields) (ps : Places) (y : ℕ) → AllByRecursion SoundAt ps → AtMost (meaning e ps y)

-- What each refusal of a register tells: its number, and no values.
use Rattle.std.specs.Prelude.{ℕ, List, [], codes}
use Rattle.filing.specs.Told.{Told, refusal}
use Rattle.register.specs.declared.refusals.Refusal.{Refusal}
use Rattle.register.specs.declared.refusals.Refusal.TheVariants.{Unknown, Enrolled, Enrolment, Stands, Vacant, Book, Bare, Spent}

abbrev pub refusal_told : Refusal → Told
refusal_told Unknown = refusal 11 []
refusal_told Enrolled = refusal 12 []
refusal_told Enrolment = refusal 13 []
refusal_told Stands = refusal 14 []
refusal_told Vacant = refusal 15 []
refusal_told Book = refusal 16 []
refusal_told Bare = refusal 17 []
refusal_told Spent = refusal 18 []

abbrev pub refusal_word : Refusal → List ℕ
refusal_word Unknown = codes "unknown"
refusal_word Enrolled = codes "enrolled"
refusal_word Enrolment = codes "enrolment"
refusal_word Stands = codes "stands"
refusal_word Vacant = codes "vacant"
refusal_word Book = codes "book"
refusal_word Bare = codes "bare"
refusal_word Spent = codes "spent"

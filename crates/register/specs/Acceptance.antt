-- Which calls of a history are accepted. A history is the list of calls made on a register, newest first.
use Rattle.std.specs.Prelude.{ℕ, Bool, cond, not, List, [], ◌∷◌, length, is_some, Some, None, Option, nat_le}
use Rattle.enrolment.specs.Ranges.{in_ranges}
use Rattle.register.specs.Calls.{CallFields, enrol, file, amend, withdraw, take_back, close, look_up, Event, event_of}
use Rattle.register.specs.History.{standing_at, enrolment_of, numbers}
use Rattle.register.specs.Striking.{undo_log}
use Rattle.register.specs.declared.refusals.Refusal.{Refusal}
use Rattle.register.specs.declared.refusals.Refusal.TheVariants.{Unknown, Enrolled, Enrolment, Stands, Vacant, Book, Bare, Spent}

-- the most acts in the undo log
abbrev pub most_acts : ℕ
most_acts = 32

-- the last number
abbrev pub last_number : ℕ
last_number = 1000000

abbrev pub Check : Type 0
Check = Bool × Refusal

-- the first check that holds refuses
abbrev pub first_of : List Check → Option Refusal
first_of [] = None
first_of (c ∷ cs) = cond c.0 (Some c.1) (first_of cs)

abbrev pub unknown : List Event → ℕ → Check
unknown es f = (not (is_some (enrolment_of es f)), Unknown)

abbrev pub stands : List Event → ℕ → ℕ → Check
stands es f y = (is_some (standing_at es f y), Stands)

abbrev pub vacant : List Event → ℕ → ℕ → Check
vacant es f y = (not (is_some (standing_at es f y)), Vacant)

abbrev pub book_full : List Event → Check
book_full es = (nat_le most_acts (length (undo_log es)), Book)

abbrev pub bare : List Event → Check
bare es = (nat_le (length (undo_log es)) 0, Bare)

abbrev pub spent : List Event → Check
spent es = (nat_le last_number (numbers es), Spent)

-- the checks of a call after the accepted events es, in their order
abbrev pub checks : CallFields → List Event → List Check
checks (enrol e) es = (not (in_ranges e), Enrolment) ∷ (is_some (enrolment_of es e.facility), Enrolled) ∷ []
checks (file f) es = unknown es f.head.facility ∷ stands es f.head.facility f.head.year ∷ book_full es ∷ spent es ∷ []
checks (amend f) es = unknown es f.head.facility ∷ vacant es f.head.facility f.head.year ∷ book_full es ∷ spent es ∷ []
checks (withdraw f y) es = unknown es f ∷ vacant es f y ∷ book_full es ∷ spent es ∷ []
checks take_back es = bare es ∷ spent es ∷ []
checks close es = []
checks (look_up f y) es = unknown es f ∷ vacant es f y ∷ []

-- why a call is refused after the accepted events es; none: it is accepted
abbrev pub refusal_of : CallFields → List Event → Option Refusal
refusal_of c es = first_of (checks c es)

abbrev pub added : Option Refusal → Option Event → List Event → List Event
added None (Some e) es = e ∷ es
added None None es = es
added (Some w) o es = es

-- the events of the accepted calls
abbrev pub accepted : List CallFields → List Event
accepted [] = []
accepted (c ∷ cs) = added (refusal_of c (accepted cs)) (event_of c) (accepted cs)

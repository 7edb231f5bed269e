-- Calls as plain numbers, and what each does where it is accepted.
use Rattle.std.specs.Prelude.{ℕ, Some, None, Option}
use Rattle.filing.specs.Filing.{FilingFields}
use Rattle.filing.specs.Views.{filed}
use Rattle.enrolment.specs.declared.fields.EnrolmentFields.{EnrolmentFields}
use Rattle.register.specs.declared.calls.Call.{Call}
use Rattle.register.specs.declared.calls.Call.TheVariants as made

pub data CallFields : Type 0 where
  enrol : EnrolmentFields → CallFields
  file : FilingFields → CallFields
  amend : FilingFields → CallFields
  withdraw : (facility year : ℕ) → CallFields
  take_back : CallFields
  close : CallFields
  look_up : (facility year : ℕ) → CallFields

abbrev pub call_fields : Call → CallFields
call_fields (made.Enrol e) = enrol e
call_fields (made.File s) = file (filed s)
call_fields (made.Amend s) = amend (filed s)
call_fields (made.Withdraw f y) = withdraw f y
call_fields made.TakeBack = take_back
call_fields made.Close = close
call_fields (made.LookUp f y) = look_up f y

-- an act on a place, with what it leaves there
pub record Act : Type 0 where
  pub facility : ℕ
  pub year : ℕ
  pub leaves : Option FilingFields

-- file and amend leave their filing at the place of its own facility and year
abbrev pub filing_act : FilingFields → Act
filing_act f = record { facility = f.head.facility; year = f.head.year; leaves = Some f }

-- withdraw leaves nothing
abbrev pub withdrawal : ℕ → ℕ → Act
withdrawal f y = record { facility = f; year = y; leaves = None }

-- what an accepted call does
pub data Event : Type 0 where
  enrols : EnrolmentFields → Event
  acts : Act → Event
  takes_back : Event
  closes : Event

-- a look-up does nothing
abbrev pub event_of : CallFields → Option Event
event_of (enrol e) = Some (enrols e)
event_of (file f) = Some (acts (filing_act f))
event_of (amend f) = Some (acts (filing_act f))
event_of (withdraw f y) = Some (acts (withdrawal f y))
event_of take_back = Some takes_back
event_of close = Some closes
event_of (look_up f y) = None

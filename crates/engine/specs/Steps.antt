-- Steps: calls, and calls whose filing is the record in some bytes. Steps stand newest first.
use Rattle.std.specs.Prelude.{ℕ, List, [], ◌∷◌, Some, None, Ok, Err, Option, Result}
use Rattle.filing.specs.Filing.{FilingFields}
use Rattle.filing.specs.Told.{Told}
use Rattle.codec.specs.Reading.{reading}
use Rattle.limit.specs.Laws.{Meaning}
use Rattle.register.specs.Answers.{Answered, enrolled, numbered, closed, assessed, refused, answer_to}
use Rattle.register.specs.Calls.{CallFields, file, amend}

pub data StepFields : Type 0 where
  said : CallFields → StepFields
  file_record : List ℕ → StepFields
  amend_record : List ℕ → StepFields

abbrev pub call_from : (FilingFields → CallFields) → Result (ℕ × ℕ × FilingFields) Told → Option CallFields
call_from make (Ok r) = Some (make r.2)
call_from make (Err t) = None

-- the call that a step stands for: none where its record is refused
abbrev pub call_of : StepFields → Option CallFields
call_of (said c) = Some c
call_of (file_record bytes) = call_from file (reading bytes)
call_of (amend_record bytes) = call_from amend (reading bytes)

abbrev pub with_call : Option CallFields → List CallFields → List CallFields
with_call None cs = cs
with_call (Some c) cs = c ∷ cs

-- the history that steps stand for
abbrev pub calls_of : List StepFields → List CallFields
calls_of [] = []
calls_of (s ∷ ss) = with_call (call_of s) (calls_of ss)

pub data StepAnswered : Type 0 where
  answers : Answered → StepAnswered
  recorded : (used version number : ℕ) → StepAnswered
  unread : Told → StepAnswered

-- the number of an accepted filing, with the bytes used and the version
abbrev pub with_record : ℕ → ℕ → Answered → StepAnswered
with_record used version (numbered n) = recorded used version n
with_record used version enrolled = answers enrolled
with_record used version closed = answers closed
with_record used version (assessed a) = answers (assessed a)
with_record used version (refused t) = answers (refused t)

abbrev pub record_answer : Meaning → (FilingFields → CallFields) → Result (ℕ × ℕ × FilingFields) Told → List CallFields → StepAnswered
record_answer meaning make (Ok r) cs = with_record r.0 r.1 (answer_to meaning (make r.2) cs)
record_answer meaning make (Err t) cs = unread t

-- the answer to a step after the steps ss
abbrev pub step_answer : Meaning → StepFields → List StepFields → StepAnswered
step_answer meaning (said c) ss = answers (answer_to meaning c (calls_of ss))
step_answer meaning (file_record bytes) ss = record_answer meaning file (reading bytes) (calls_of ss)
step_answer meaning (amend_record bytes) ss = record_answer meaning amend (reading bytes) (calls_of ss)

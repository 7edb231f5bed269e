-- What the steps of a journal do to the draft, and what they are answered.
use Rattle.std.specs.Prelude.{◌≡◌, ℕ, length, Ok, Err, Result}
use Rattle.filing.specs.Checks.{heading, adding}
use Rattle.filing.specs.declared.faults.FilingFault.{FilingFault}
use Rattle.filing.specs.Filing.{FilingFields, blank}
use Rattle.filing.specs.Told.{Told, told}
use Rattle.filing.specs.Views.{filed}
use Rattle.journal.specs.declared.desk.Answer.{Answer}
use Rattle.journal.specs.declared.desk.Answer.TheVariants as answer
use Rattle.journal.specs.declared.desk.Desk.{Desk}
use Rattle.journal.specs.declared.steps.Step.{Step}
use Rattle.journal.specs.declared.steps.Step.TheVariants.{Head, Line, Blank, Sign}

-- an answer as plain data
pub data Reply : Type 0 where
  set : Reply
  placed : ℕ → Reply
  cleared : Reply
  signed : FilingFields → Reply
  refused : Told → Reply

abbrev pub replied : Result Answer FilingFault → Reply
replied (Ok answer.Set) = set
replied (Ok (answer.Line n)) = placed n
replied (Ok answer.Blank) = cleared
replied (Ok (answer.Signed s)) = signed (filed s)
replied (Err e) = refused (told e)

-- the rule's filing, and what is said of it; or the rule's refusal, and the draft as it was
abbrev pub settled : Result FilingFields Told → (FilingFields → Reply) → FilingFields → Reply × FilingFields
settled (Ok new) say old = (say new, new)
settled (Err t) say old = (refused t, old)

-- one step: its answer, and the draft after it
abbrev pub performing : Step → FilingFields → Reply × FilingFields
performing (Head h) f = settled (heading f h) (λ _. set) f
performing (Line l) f = settled (adding f l) (λ new. placed (length new.lines)) f
performing Blank f = (cleared, blank)
performing Sign f = (signed f, blank)

-- a refusal leaves the desk exactly as it was
abbrev pub RefusedUnchanged : Result Answer FilingFault → Desk → Desk → Type 0
RefusedUnchanged (Ok a) old new = Unit {0}
RefusedUnchanged (Err e) old new = new ≡ old

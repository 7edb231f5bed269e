-- The plain numbers of a filing, a draft and a signed filing, and what a call makes of them.
use Rattle.std.specs.Prelude.{◌≡◌, ℕ, length, Some, None, Ok, Err, Result}
use Rattle.filing.specs.Checks.{line_refusal}
use Rattle.filing.specs.Filing.{FilingFields}
use Rattle.filing.specs.Parts.{head_fields, line_fields, entered}
use Rattle.filing.specs.Told.{Told, told}
use Rattle.filing.specs.declared.draft.Draft.{Draft}
use Rattle.filing.specs.declared.faults.FilingFault.{FilingFault}
use Rattle.filing.specs.declared.fields.LineFields.{LineFields}
use Rattle.filing.specs.declared.filing.Filing.{Filing}
use Rattle.filing.specs.declared.parts.Line.{Line}
use Rattle.filing.specs.declared.signed.Signed.{Signed}

abbrev pub fields_of : Filing → FilingFields
fields_of f = record { head = head_fields f.head; lines = entered f.lines f.count }

abbrev pub drafted : Draft → FilingFields
drafted d = fields_of d.filing

abbrev pub filed : Signed → FilingFields
filed s = fields_of s.filing

-- a filing made as the rule says, or the rule's refusal
abbrev pub Built : Result Filing FilingFault → Result FilingFields Told → Type 0
Built (Ok f) rule = rule ≡ Ok (fields_of f)
Built (Err e) rule = rule ≡ Err (told e)

-- a line that no check refuses, made of the fields, or the first refusal
abbrev pub LineChecked : FilingFields → LineFields → Result Line FilingFault → Type 0
LineChecked f fields (Ok l) = (line_fields l ≡ fields) × (line_refusal f fields ≡ None)
LineChecked f fields (Err e) = line_refusal f fields ≡ Some (told e)

-- a draft written as the rule says, or the rule's refusal and the draft as it was
abbrev pub Wrote : {X : Type 0} → Result X FilingFault → Result FilingFields Told → Draft → Draft → Type 0
Wrote (Ok x) rule old new = rule ≡ Ok (drafted new)
Wrote (Err e) rule old new = (rule ≡ Err (told e)) × (new ≡ old)

-- the answered place is that of the last line
abbrev pub Numbered : Result ℕ FilingFault → FilingFields → Type 0
Numbered (Ok n) f = n ≡ length f.lines
Numbered (Err e) f = Unit {0}

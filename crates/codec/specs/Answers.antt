-- What the code's answers have to do with what the bytes say.
use Rattle.std.specs.Prelude.{◌≡◌, ℕ, Ok, Err, Result}
use Rattle.filing.specs.Filing.{FilingFields}
use Rattle.filing.specs.Told.{Told}
use Rattle.filing.specs.Views.{filed}
use Rattle.filing.specs.declared.signed.Signed.{Signed}
use Rattle.codec.specs.ReadFaults.{told}
use Rattle.codec.specs.declared.input.Input.{Input}
use Rattle.codec.specs.declared.faults.ReadFault.{ReadFault}

-- an answer is what the rule says, seen through a view; a fault is the rule's refusal
abbrev pub Says : {X Y : Type 0} → (X → Y) → Result X ReadFault → Result Y Told → Type 0
Says view (Ok x) rule = rule ≡ Ok (view x)
Says view (Err e) rule = rule ≡ Err (told e)

-- an answer of a part of the input is what the rule says, and then the same input stands at the part's end
abbrev pub Took : {X Y : Type 0} → (X → Y) → Result X ReadFault → Result Y Told → Input → Input → ℕ → Type 0
Took view (Ok x) rule old new end = (rule ≡ Ok (view x)) × (new.bytes.now ≡ old.bytes.now) × (new.at ≡ end)
Took view (Err e) rule old new end = rule ≡ Err (told e)

-- the answer and the caller's place are what the rule says; a refusal leaves the place as it was
abbrev pub Placed : Result (ℕ × ℕ) ReadFault → Result (ℕ × ℕ × FilingFields) Told → Signed → Signed → Type 0
Placed (Ok r) rule old new = rule ≡ Ok (r.0, r.1, filed new)
Placed (Err e) rule old new = (rule ≡ Err (told e)) × (new ≡ old)

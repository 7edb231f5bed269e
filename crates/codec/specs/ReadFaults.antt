-- What each refusal of a record tells: its number, and named values.
use Rattle.std.specs.Prelude.{ℕ, List, [], ◌∷◌, codes}
use Rattle.filing.specs.Told.{Told, refusal, printing, line, bytes, told as filing_told, word as filing_word}
use Rattle.codec.specs.declared.faults.ReadFault.{ReadFault}
use Rattle.codec.specs.declared.faults.ReadFault.TheVariants.{Cut, Mark, Version, Schema, Filing}

-- the input ends too early, at n bytes
abbrev pub cut : ℕ → Told
cut n = refusal 1 ((bytes, n) ∷ [])

-- every case of a reader's fault, by its number and values
abbrev pub told : ReadFault → Told
told (Cut n) = cut n
told Mark = refusal 2 []
told Version = refusal 3 []
told (Schema n) = refusal 4 ((line, n) ∷ [])
told (Filing e) = filing_told e

-- the word that goes with the number
abbrev pub word : ReadFault → List ℕ
word (Cut n) = codes "cut"
word Mark = codes "mark"
word Version = codes "version"
word (Schema n) = codes "schema"
word (Filing e) = filing_word e

abbrev pub printed : ReadFault → List ℕ
printed f = printing (word f) (told f)

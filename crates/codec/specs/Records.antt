-- Records that stand one after another.
use Rattle.std.specs.Prelude.{ℕ, zero, suc, List, [], ◌∷◌, length, drop, Ok, Err, Result}
use Rattle.filing.specs.Filing.{FilingFields}
use Rattle.filing.specs.Told.{Told}
use Rattle.filing.specs.Views.{filed}
use Rattle.codec.specs.ReadFaults.{told}
use Rattle.codec.specs.Reading.{reading}
use Rattle.codec.specs.declared.faults.ReadFault.{ReadFault}
use Rattle.codec.specs.declared.record.Record.{Record}
use Rattle.codec.specs.declared.record.Records.{Records}

-- what a reading answers: the bytes that are used, the version and the filing, or the refusal
abbrev pub Reading : Type 0
Reading = Result (ℕ × ℕ × FilingFields) Told

-- a record and those that follow it; after a refusal comes nothing
abbrev pub and_those : (List ℕ → List Reading) → List ℕ → Reading → List Reading
and_those following bs (Ok r) = Ok r ∷ following (drop r.0 bs)
and_those following bs (Err t) = Err t ∷ []

-- the first k records of some bytes, each where the one before it ends
abbrev pub first_records : ℕ → List ℕ → List Reading
first_records zero bs = []
first_records (suc k) [] = []
first_records (suc k) (b ∷ bs) = and_those (first_records k) (b ∷ bs) (reading (b ∷ bs))

-- all of them: each takes a byte at least, so there are no more than bytes
abbrev pub records_of : List ℕ → List Reading
records_of bs = first_records (length bs) bs

-- the records that are still to come
abbrev pub records_left : Records → List Reading
records_left records = records_of records.rest.now

abbrev pub said : Result Record ReadFault → Reading
said (Ok r) = Ok (r.used, r.version, filed r.signed)
said (Err e) = Err (told e)

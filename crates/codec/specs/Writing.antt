-- The bytes of a record.
use Rattle.std.specs.Prelude.{◌≡◌, ℕ, ◌+◌, ◌<◌, ◌≤◌, List, ◌∷◌, ◌++◌, length, take, drop, Ok, Err, Result}
use Rattle.std.specs.List.{flat_map}
use Rattle.filing.specs.Filing.{FilingFields}
use Rattle.filing.specs.declared.fields.LineFields.{LineFields}
use Rattle.codec.specs.Fields.{head_field, line_field}
use Rattle.codec.specs.Numbers.{bytes_of}
use Rattle.codec.specs.Table.{written_version, written_row, head_codes, line_codes}
use Rattle.codec.specs.declared.faults.WriteFault.{WriteFault}
use Rattle.codec.specs.declared.writer.Output.{Output}

-- eight bytes for each code
abbrev pub field_bytes : List ℕ → (ℕ → ℕ) → List ℕ
field_bytes codes value = flat_map (λ c. bytes_of 8 (value c)) codes

abbrev pub line_bytes : List ℕ → LineFields → List ℕ
line_bytes codes l = field_bytes codes (line_field l)

-- the mark, the version, and the schema after its count
abbrev pub opening_bytes : ℕ → List ℕ → List ℕ
opening_bytes v row = 0x4F ∷ 0x42 ∷ 0x46 ∷ (bytes_of 2 v ++ (length row ∷ row))

-- the record of a filing in the version of a row
abbrev pub record_of : ℕ → List ℕ → FilingFields → List ℕ
record_of v row f = opening_bytes v row ++ (field_bytes (head_codes row) (head_field f.head) ++ (length f.lines ∷ flat_map (line_bytes (line_codes row)) f.lines))

abbrev pub written : FilingFields → List ℕ
written f = record_of written_version written_row f

-- bytes over those that stand at a place
abbrev pub pasted : List ℕ → ℕ → List ℕ → List ℕ
pasted old at bs = take at old ++ (bs ++ drop (at + length bs) old)

-- there is room for n bytes more
abbrev pub Room : Output → ℕ → Type 0
Room o n = o.at + n ≤ length o.buffer.now

-- bytes put where a buffer is filled to: it is the same buffer, filled to their end, and nothing else in it changes
pub record Put (old new : Output) (bs : List ℕ) : Type 0 where
  pub same : new.buffer.ghost_name ≡ old.buffer.ghost_name
  pub room : Room old (length bs)
  pub long : length new.buffer.now ≡ length old.buffer.now
  pub wrote : new.buffer.now ≡ pasted old.buffer.now old.at bs
  pub ends : new.at ≡ old.at + length bs

-- with room for them, the bytes and then the old ones; with too little, no change
abbrev pub Written : Result ℕ WriteFault → List ℕ → List ℕ → List ℕ → Type 0
Written (Ok n) bs old new = (length bs ≤ length old) × (n ≡ length bs) × (new ≡ bs ++ drop (length bs) old)
Written (Err e) bs old new = (length old < length bs) × (new ≡ old)

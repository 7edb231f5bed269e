-- What holds of every reading, said of the bytes.
use Rattle.std.specs.Prelude.{◌≡◌, ℕ, zero, suc, ◌+◌, ◌-◌, ◌*◌, ◌<◌, ◌≤◌, List, [], ◌∷◌, ◌++◌, length, take, drop, Some, None, Ok, Err, Option, slice_index}
use Rattle.filing.specs.Filing.{FilingFields}
use Rattle.codec.specs.ReadFaults.{cut}
use Rattle.codec.specs.Reading.{reading}
use Rattle.codec.specs.Table.{row_of, written_version}
use Rattle.codec.specs.Writing.{written}

-- the version and the schema that the bytes hold
abbrev pub version_in : List ℕ → ℕ
version_in bs = slice_index bs 3 * 256 + slice_index bs 4

abbrev pub schema_in : List ℕ → List ℕ
schema_in bs = take (slice_index bs 5) (drop 6 bs)

-- a line of a schema or a row, counted from 0; there is none past the last
abbrev pub line_at : List ℕ → ℕ → Option ℕ
line_at [] i = None
line_at (c ∷ cs) zero = Some c
line_at (c ∷ cs) (suc i) = line_at cs i

-- the schema is there, and is the row of the version, line by line
pub record Matches (bs : List ℕ) (v : ℕ) : Type 0 where
  pub version : version_in bs ≡ v
  pub row : List ℕ
  pub is : row_of v ≡ Some row
  pub whole : 6 + slice_index bs 5 ≤ length bs
  pub lines : (i : ℕ) → line_at (schema_in bs) i ≡ line_at row i

-- the schema is there, and line n, counted from 1, is the first at which it is not the row of the version
pub record Differs (bs : List ℕ) (n : ℕ) : Type 0 where
  pub row : List ℕ
  pub is : row_of (version_in bs) ≡ Some row
  pub whole : 6 + slice_index bs 5 ≤ length bs
  pub counted : 1 ≤ n
  pub before : (i : ℕ) → i + 1 < n → line_at (schema_in bs) i ≡ line_at row i
  pub there : line_at (schema_in bs) (n - 1) ≡ line_at row (n - 1) → ⊥

-- whatever follows the first n bytes, the answer is the same
abbrev pub Followed : List ℕ → ℕ → Type 0
Followed bs n = (rest : List ℕ) → reading (take n bs ++ rest) ≡ reading bs

-- fewer than the first n bytes are refused as cut, with their own length
abbrev pub Cuts : List ℕ → ℕ → Type 0
Cuts bs n = (k : ℕ) → k < n → reading (take k bs) ≡ Err (cut k)

-- what is written is read back, whatever follows it
abbrev pub ReadsBack : FilingFields → List ℕ → Type 0
ReadsBack f bs = (rest : List ℕ) → reading (bs ++ rest) ≡ Ok (length bs, written_version, f)

-- the first n bytes are those that would be written
abbrev pub WritesBack : FilingFields → List ℕ → ℕ → Type 0
WritesBack f bs n = written f ≡ take n bs

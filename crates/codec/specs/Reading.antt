-- What a record's bytes say: its parts one after another, each checked once all its bytes are there.
use Rattle.std.specs.Prelude.{ℕ, zero, suc, ◌+◌, ◌*◌, Bool, cond, ◌&&◌, List, [], ◌∷◌, length, take, drop, Some, None, Ok, Err, Option, Result, ◌==◌, nat_lt, slice_index}
use Rattle.filing.specs.Checks.{most_lines, heading, adding}
use Rattle.filing.specs.Filing.{FilingFields, blank}
use Rattle.filing.specs.Told.{Told, refusal, line}
use Rattle.codec.specs.Fields.{head_of, line_of}
use Rattle.codec.specs.Numbers.{number}
use Rattle.codec.specs.ReadFaults.{cut}
use Rattle.codec.specs.Table.{row_of, heads, head_codes, line_codes, first_off}

abbrev pub and_then : {X Y E : Type 0} → Result X E → (X → Result Y E) → Result Y E
and_then (Ok x) k = k x
and_then (Err e) k = Err e

-- the bytes of a part, where all of them are there
abbrev pub part : ℕ → ℕ → List ℕ → Result (List ℕ) Told
part at size bs = cond (nat_lt (length bs) (at + size)) (Err (cut (length bs))) (Ok (take size (drop at bs)))

-- the mark is 4F 42 46
abbrev pub is_mark : List ℕ → Bool
is_mark bs = slice_index bs 0 == 0x4F && (slice_index bs 1 == 0x42 && slice_index bs 2 == 0x46)

abbrev pub marked : List ℕ → Result (Unit {0}) Told
marked bs = cond (is_mark bs) (Ok tt) (Err (refusal 2 []))

-- the mark, and the version after it
abbrev pub opening : List ℕ → Result ℕ Told
opening bs =
    and_then (part 0 3 bs) (λ m.
    and_then (marked m) (λ _.
    and_then (part 3 2 bs) (λ v.
    Ok (number v))))

abbrev pub known : Option (List ℕ) → Result (List ℕ) Told
known None = Err (refusal 3 [])
known (Some row) = Ok row

abbrev pub matching : Option ℕ → Result (Unit {0}) Told
matching None = Ok tt
matching (Some n) = Err (refusal 4 ((line, n) ∷ []))

-- the count of the schema's codes, and the codes
abbrev pub schema : List ℕ → List ℕ → Result (Unit {0}) Told
schema row bs =
    and_then (part 5 1 bs) (λ n.
    and_then (part 6 (slice_index n 0) bs) (λ codes.
    matching (first_off 1 codes row)))

abbrev pub headed : List ℕ → ℕ → List ℕ → Result FilingFields Told
headed codes at bs = and_then (part at (8 * length codes) bs) (λ b. heading blank (head_of codes b))

abbrev pub few_lines : ℕ → Result ℕ Told
few_lines n = cond (nat_lt most_lines n) (Err (refusal 7 [])) (Ok n)

abbrev pub counted : ℕ → List ℕ → Result ℕ Told
counted at bs = and_then (part at 1 bs) (λ n. few_lines (slice_index n 0))

-- k lines from a place on, added to a filing, and where they end
abbrev pub lined : List ℕ → ℕ → ℕ → List ℕ → FilingFields → Result (ℕ × FilingFields) Told
lined codes zero at bs f = Ok (at, f)
lined codes (suc k) at bs f =
    and_then (part at (8 * length codes) bs) (λ b.
    and_then (adding f (line_of codes b)) (λ g.
    lined codes k (at + 8 * length codes) bs g))

-- where the head begins, and where the count of lines stands
abbrev pub head_at : List ℕ → ℕ
head_at row = 6 + length row

abbrev pub count_at : List ℕ → ℕ
count_at row = head_at row + 8 * heads row

-- from the head on: where the record ends, and the filing
abbrev pub body : List ℕ → List ℕ → Result (ℕ × FilingFields) Told
body row bs =
    and_then (headed (head_codes row) (head_at row) bs) (λ f.
    and_then (counted (count_at row) bs) (λ n.
    lined (line_codes row) n (count_at row + 1) bs f))

-- the bytes that are used, the version and the filing
abbrev pub reading : List ℕ → Result (ℕ × ℕ × FilingFields) Told
reading bs =
    and_then (opening bs) (λ v.
    and_then (known (row_of v)) (λ row.
    and_then (schema row bs) (λ _.
    and_then (body row bs) (λ r.
    Ok (r.0, v, r.1)))))

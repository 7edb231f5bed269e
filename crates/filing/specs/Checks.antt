-- Setting a head and adding a line: the checks in their order, and what an accepted one gives.
use Rattle.std.specs.Prelude.{ℕ, ◌+◌, Bool, cond, List, [], ◌∷◌, ◌++◌, length, Some, None, Ok, Err, Option, Result, nat_le, nat_lt}
use Rattle.filing.specs.Emissions.{total}
use Rattle.filing.specs.Filing.{FilingFields, head_outside, line_outside, among, attributed_sum}
use Rattle.filing.specs.Kinds.{kind_of}
use Rattle.filing.specs.Told.{Told, refusal, code, line}
use Rattle.filing.specs.declared.fields.HeadFields.{HeadFields}
use Rattle.filing.specs.declared.fields.LineFields.{LineFields}
use Rattle.filing.specs.declared.kinds.LineKind.{LineKind}

abbrev pub most_lines : ℕ
most_lines = 6

-- a check holds, and refuses, or does not
abbrev pub refused_if : Bool → Told → Option Told
refused_if b t = cond b (Some t) None

-- the first check that refuses
abbrev pub first : List (Option Told) → Option Told
first [] = None
first (None ∷ cs) = first cs
first (Some t ∷ cs) = Some t

abbrev pub out_of_range : Option ℕ → ℕ → Option Told
out_of_range None l = None
out_of_range (Some c) l = Some (refusal 5 ((code, c) ∷ (line, l) ∷ []))

abbrev pub no_kind : Option LineKind → ℕ → Option Told
no_kind None l = Some (refusal 6 ((line, l) ∷ []))
no_kind (Some k) l = None

abbrev pub outside_of_kind : Option LineKind → LineFields → Option ℕ
outside_of_kind None l = None
outside_of_kind (Some k) l = line_outside k l

abbrev pub above_total : ℕ → HeadFields → Option Told
above_total kg h = refused_if (nat_lt (total h) kg) (refusal 9 [])

-- a head is checked for its ranges in code order, and then against the lines that are there
abbrev pub head_refusal : FilingFields → HeadFields → Option Told
head_refusal f h = first (out_of_range (head_outside h) 0 ∷ above_total (attributed_sum f.lines) h ∷ [])

-- a line is checked for room, its kind, its ranges in code order, its number, and its attributed kilograms
abbrev pub line_refusal : FilingFields → LineFields → Option Told
line_refusal f l =
    let place : ℕ = length f.lines + 1 in
    first
    (refused_if (nat_le most_lines (length f.lines)) (refusal 7 [])
    ∷ no_kind (kind_of l.kind) place
    ∷ out_of_range (outside_of_kind (kind_of l.kind) l) place
    ∷ refused_if (among l f.lines) (refusal 8 ((line, place) ∷ []))
    ∷ above_total (attributed_sum f.lines + l.attributed) f.head
    ∷ [])

abbrev pub unless_refused : Option Told → FilingFields → Result FilingFields Told
unless_refused None f = Ok f
unless_refused (Some t) f = Err t

-- all seven fields of the head replaced
abbrev pub heading : FilingFields → HeadFields → Result FilingFields Told
heading f h = unless_refused (head_refusal f h) (record { head = h; lines = f.lines })

-- one line more, the last
abbrev pub adding : FilingFields → LineFields → Result FilingFields Told
adding f l = unless_refused (line_refusal f l) (record { head = f.head; lines = f.lines ++ l ∷ [] })

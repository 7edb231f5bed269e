-- The fields of a head and of a line, eight bytes each in the order of their codes.
use Rattle.std.specs.Prelude.{ℕ, cond, List, [], ◌∷◌, take, drop, ◌==◌}
use Rattle.filing.specs.declared.fields.HeadFields.{HeadFields}
use Rattle.filing.specs.declared.fields.LineFields.{LineFields}
use Rattle.codec.specs.Numbers.{number}

-- the number of the field with a code, and 0 where the codes lack it
abbrev pub field : List ℕ → List ℕ → ℕ → ℕ
field [] bs c = 0
field (k ∷ ks) bs c = cond (k == c) (number (take 8 bs)) (field ks (drop 8 bs) c)

abbrev pub head_of : List ℕ → List ℕ → HeadFields
head_of codes bs =
    record {
      facility = field codes bs 1;
      year = field codes bs 2;
      co2 = field codes bs 3;
      ch4 = field codes bs 4;
      n2o = field codes bs 5;
      sf6 = field codes bs 6;
      captured = field codes bs 7;
    }

abbrev pub line_of : List ℕ → List ℕ → LineFields
line_of codes bs =
    record {
      kind = field codes bs 21;
      number = field codes bs 22;
      production = field codes bs 23;
      standard = field codes bs 24;
      attributed = field codes bs 25;
      added = field codes bs 26;
      ratio = field codes bs 27;
    }

-- the field with a code
abbrev pub head_field : HeadFields → ℕ → ℕ
head_field h c =
    cond (c == 1) h.facility
    (cond (c == 2) h.year
    (cond (c == 3) h.co2
    (cond (c == 4) h.ch4
    (cond (c == 5) h.n2o
    (cond (c == 6) h.sf6
    (cond (c == 7) h.captured 0))))))

abbrev pub line_field : LineFields → ℕ → ℕ
line_field l c =
    cond (c == 21) l.kind
    (cond (c == 22) l.number
    (cond (c == 23) l.production
    (cond (c == 24) l.standard
    (cond (c == 25) l.attributed
    (cond (c == 26) l.added
    (cond (c == 27) l.ratio 0))))))

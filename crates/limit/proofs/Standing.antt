-- What stands at a year that has a place.
use Rattle.std.proofs.Common.{◌≡◌, ℕ, ◌-◌, ◌≤◌, ◌&&◌, leb, List, length, get_or, None, Option, ap, ◌∙◌, arith}
use Rattle.std.proofs.lemmas.List.{get_or-map}
use Rattle.std.proofs.lemmas.Bool.{le-leb, and_from, cond-true}
use Rattle.filing.specs.declared.signed.Signed.{Signed}
use Rattle.standard.specs.Places.{filing_at, filings, standing}

pub standing_at_place : (ps : List (Option Signed)) (y : ℕ) (p o : Option Signed) → length ps ≡ 20 → 2017 ≤ y → y ≤ 2036 → p ≡ get_or ps (y - 2017) p → get_or ps (y - 2017) p ≡ o → standing (filings ps) y ≡ filing_at o
standing_at_place ps y p o n low high read is =
    cond-true (leb 2017 y && leb y 2036) _ _ (and_from _ _ (le-leb 2017 y low) (le-leb y 2036 high))
    ∙ get_or-map filing_at ps (y - 2017) p None (omega arith)
    ∙ ap filing_at is

use Rattle.std.proofs.Common.{◌≡◌, ◌*◌, ◌≤◌, not}
use Rattle.standard.specs.Reference.{of_activity}
use Rattle.standard.proofs.Lines.{passed}
use Rattle.standard.proofs.activity.Activity.sums.Given as goal

abbrev pub invariant-loop-line : goal.invariant-loop-line
invariant-loop-line l =
    (l.others ≡ passed (λ m. not (of_activity l.self.number m)) (λ m. m.attributed) l.lines l.line-index)
    × (l.made ≡ passed (of_activity l.self.number) (λ m. m.production) l.lines l.line-index)
    × (l.others ≤ 200000000000 * l.line-index)
    × (l.made ≤ 100000000000 * l.line-index)

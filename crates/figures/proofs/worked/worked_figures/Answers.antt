use Rattle.std.proofs.Common.{refl}
use Rattle.quantity.specs.Figures.{figure, unit_of, three_figures}
use Rattle.quantity.specs.Rounding.{nearest}
use Rattle.standard.specs.Capacity.{additions, triggering_megawatts, other_megawatts}
use Rattle.standard.specs.Contribution.{contribution}
use Rattle.standard.specs.Reference.{base_year, references}
use Rattle.limit.specs.Lines.{limit_of}
use Rattle.register.specs.Answers.{assessment_at}
use Rattle.register.specs.History.{standing_at, places_of, number_of}
use Rattle.figures.proofs.worked.worked_figures.Goals as goal

pub returns : goal.returns
unfolding figure unit_of three_figures nearest additions triggering_megawatts other_megawatts contribution base_year references limit_of assessment_at standing_at places_of number_of
returns c = record { counted = refl; met = tt }

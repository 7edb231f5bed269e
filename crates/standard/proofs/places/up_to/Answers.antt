use Rattle.std.proofs.Common.{◌-◌, ap}
use Rattle.std.proofs.lemmas.List.{take-map, take_min}
use Rattle.standard.specs.Places.{filing_at, filings}
use Rattle.standard.proofs.places.up_to.Goals as goal

pub returns-clause-value : goal.returns-clause-value
returns-clause-value c = rw (take-map filing_at) (ap filings (cc (take_min (c.args.year - 2016) c.args.places.now)))

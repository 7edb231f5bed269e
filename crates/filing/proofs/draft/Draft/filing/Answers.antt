use Rattle.filing.proofs.Soundness.{sound}
use Rattle.filing.proofs.draft.Draft.filing.Goals as goal

pub returns-clause-sound : goal.returns-clause-sound
returns-clause-sound c = sound c.args.self.now.filing

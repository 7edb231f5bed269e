use Rattle.std.proofs.Common.{refl}
use Rattle.register.proofs.Starts.{new_lived}
use Rattle.register.proofs.table.Register.new.Goals as goal

pub returns : goal.returns
returns g c = new_lived g.M.LimitMethod.meaning c.args.method _ refl refl refl c.in_ok-log.ensures

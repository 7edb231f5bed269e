use Rattle.std.proofs.Common.{refl}
use Rattle.register.proofs.Starts.{close_lived}
use Rattle.register.proofs.table.Register.close.Goals as goal

pub returns : goal.returns
returns g c = λ m cs L. (close_lived g.M.LimitMethod.meaning m c.args.self.now _ cs L refl refl refl c.clear.ensures, tt)

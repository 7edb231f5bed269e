use Rattle.std.proofs.Common.{refl, rules}
use Rattle.register.specs.Answers.{closed}
use Rattle.register.proofs.Performed.{performed, look_lives}
use Rattle.register.proofs.table.Register.perform.Goals as goal

-- One lemma for each call. `using(performed)` was tried in place of these: the search finds none of them.
pub returns-in-Enrol-clause-laws : goal.returns-in-Enrol-clause-laws
returns-in-Enrol-clause-laws g c = performed g.M.LimitMethod.meaning c.in-Enrol.is c.enrol.ensures.lives (search rules)

pub returns-in-File-clause-laws : goal.returns-in-File-clause-laws
returns-in-File-clause-laws g c = performed g.M.LimitMethod.meaning c.in-File.is c.file.ensures.lives (search rules)

pub returns-in-Amend-clause-laws : goal.returns-in-Amend-clause-laws
returns-in-Amend-clause-laws g c = performed g.M.LimitMethod.meaning c.in-Amend.is c.amend.ensures.lives (search rules)

pub returns-in-Withdraw-clause-laws : goal.returns-in-Withdraw-clause-laws
returns-in-Withdraw-clause-laws g c = performed g.M.LimitMethod.meaning c.in-Withdraw.is c.withdraw.ensures.lives (search rules)

pub returns-in-TakeBack-clause-laws : goal.returns-in-TakeBack-clause-laws
returns-in-TakeBack-clause-laws g c = performed g.M.LimitMethod.meaning c.in-TakeBack.is c.take_back.ensures.lives (search rules)

pub returns-in-Close-clause-laws : goal.returns-in-Close-clause-laws
returns-in-Close-clause-laws g c =
    performed g.M.LimitMethod.meaning {b = closed} c.in-Close.is (λ m cs L. ((c.close.ensures m cs L).0, refl)) refl

pub returns-in-LookUp-clause-laws : goal.returns-in-LookUp-clause-laws
returns-in-LookUp-clause-laws g c =
    performed g.M.LimitMethod.meaning c.in-LookUp.is (look_lives g.M.LimitMethod.meaning c.args.self.now _ _ _ c.look_up.ensures.answers) (search rules)

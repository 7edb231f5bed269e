use Rattle.std.proofs.Common.{◌≡◌, ℕ, Ok, Err, sym, ap, ◌∙◌, subst}
use Rattle.std.proofs.lemmas.Result.{err_from_is_err_and}
use Rattle.filing.specs.Filing.{FilingFields}
use Rattle.filing.specs.Views.{filed}
use Rattle.codec.specs.Laws.{Matches, Followed, Cuts, WritesBack}
use Rattle.codec.specs.ReadFaults.{told}
use Rattle.codec.specs.Reading.{reading}
use Rattle.codec.specs.declared.faults.ReadFault.{ReadFault}
use Rattle.codec.proofs.Inverting.{ok_err, ok_inj, err_inj}
use Rattle.codec.proofs.Differing.{matches, differs}
use Rattle.codec.proofs.Prefixes.{followed, beginning}
use Rattle.codec.proofs.WriteBack.{write_back}
use Rattle.codec.proofs.reader.read.Goals as goal

pub returns-in_err-record-clause-differs : goal.returns-in_err-record-clause-differs
returns-in_err-record-clause-differs c =
    let p = err_from_is_err_and c.from_residual.result c.from_residual.ensures.1 in
    rw (p.1, p.2) (λ n e. differs c.args.bytes.now n (c.in_err-record.ensures.says ∙ ap (λ (d : ReadFault). Err (told d)) (err_inj e)))

pub returns : goal.returns
returns c =
    let bs = c.args.bytes.now in
    let r = c.in_ok-record.record in
    let x : ℕ × ℕ × FilingFields = (r.used, r.version, filed r.signed) in
    let h : reading bs ≡ Ok x = c.in_ok-record.ensures.says in
    record {
      says = h;
      within = c.in_ok-record.ensures.within;
      matches = λ n v e. subst (λ (y : ℕ × ℕ). Matches bs y.1) (ok_inj e) (matches bs x h);
      differs = λ n e. absurd (ok_err e);
      followed = λ n v e. subst (λ (y : ℕ × ℕ). Followed bs y.0) (ok_inj e) (λ rest. followed bs x h rest ∙ sym h);
      cuts = λ n v e. subst (λ (y : ℕ × ℕ). Cuts bs y.0) (ok_inj e) (beginning bs x h);
      back = λ n e. subst (λ (y : ℕ × ℕ). WritesBack x.2 bs y.0) (ok_inj e) (write_back bs x (λ i. (c.type_inv.bytes i).fits) h (ap (λ (y : ℕ × ℕ). y.1) (ok_inj e)));
    }

use Rattle.std.proofs.Common.{◌≡◌, ℕ, Ok, Err, sym, ap, ◌∙◌, rules}
use Rattle.std.proofs.lemmas.Result.{err_from_is_err_and}
use Rattle.filing.specs.Filing.{FilingFields}
use Rattle.filing.specs.Views.{filed}
use Rattle.codec.specs.ReadFaults.{told}
use Rattle.codec.specs.Reading.{reading}
use Rattle.codec.specs.declared.faults.ReadFault.{ReadFault}
use Rattle.codec.proofs.Inverting.{err_inj}
use Rattle.codec.proofs.Differing.{matches, differs}
use Rattle.codec.proofs.Prefixes.{within, followed, beginning}
use Rattle.codec.proofs.WriteBack.{write_back}
use Rattle.codec.proofs.record.Record.read.Goals as goal

pub returns-in_err-schema-clause-differs : goal.returns-in_err-schema-clause-differs
returns-in_err-schema-clause-differs c =
    let h : reading c.args.bytes.now ≡ Err (told c.in_err-schema.field-0.0) = search rules in
    let p = err_from_is_err_and c.from_residual-in_err-schema.result c.from_residual-in_err-schema.ensures.1 in
    rw (p.1, p.2) (λ n e. differs c.args.bytes.now n (h ∙ ap (λ (d : ReadFault). Err (told d)) (err_inj e)))

pub returns-in_err-signed-clause-differs : goal.returns-in_err-signed-clause-differs
returns-in_err-signed-clause-differs c =
    let h : reading c.args.bytes.now ≡ Err (told c.in_err-signed.field-0.0) = search rules in
    let p = err_from_is_err_and c.from_residual-in_err-signed.result c.from_residual-in_err-signed.ensures.1 in
    rw (p.1, p.2) (λ n e. differs c.args.bytes.now n (h ∙ ap (λ (d : ReadFault). Err (told d)) (err_inj e)))

pub returns-clause-within : goal.returns-clause-within
returns-clause-within c = within c.args.bytes.now (c.body.new.self.at, c.in_ok-version.version, filed c.in_ok-signed.signed) (search rules)

pub returns-clause-matches : goal.returns-clause-matches
returns-clause-matches c = matches c.args.bytes.now (c.body.new.self.at, c.in_ok-version.version, filed c.in_ok-signed.signed) (search rules)

pub returns-clause-followed : goal.returns-clause-followed
returns-clause-followed c =
    let x : ℕ × ℕ × FilingFields = (c.body.new.self.at, c.in_ok-version.version, filed c.in_ok-signed.signed) in
    let h : reading c.args.bytes.now ≡ Ok x = search rules in
    λ rest. followed c.args.bytes.now x h rest ∙ sym h

pub returns-clause-cuts : goal.returns-clause-cuts
returns-clause-cuts c = beginning c.args.bytes.now (c.body.new.self.at, c.in_ok-version.version, filed c.in_ok-signed.signed) (search rules)

pub returns-clause-back : goal.returns-clause-back
returns-clause-back c = write_back c.args.bytes.now (c.body.new.self.at, c.in_ok-version.version, filed c.in_ok-signed.signed) (λ i. (c.type_inv.bytes i).fits) (search rules)

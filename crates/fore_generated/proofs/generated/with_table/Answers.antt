use Rattle.std.proofs.Common.{◌≡◌, rules, subst}
use Rattle.fore_generated.specs.Generated.{IsTableFaultOf}
use Rattle.fore_generated.proofs.GeneratedLemmas.{no_table}
use Rattle.fore_generated.proofs.generated.with_table.Goals as goal

pub returns-in-Err-clause-err : goal.returns-in-Err-clause-err
returns-in-Err-clause-err c =
    let same : c.program.inside.shapes ≡ c.args.program.shapes = search rules in
    no_table c.args.kind c.args.phases c.args.program c.requires.program c.in-Err.fault
    (subst (λ shapes. IsTableFaultOf c.args.kind shapes c.in-Err.fault) same c.in-Err.ensures.err)

use Rattle.std.proofs.Common.{sym, subst}
use Rattle.fa_core.specs.Filled.{IsSound}
use Rattle.fore_explored.proofs.StateLemmas.{last_of}
use Rattle.fore_report.proofs.explored.trace_report.Goals as goal

pub put_last-requires-clause-forest : goal.put_last-requires-clause-forest
put_last-requires-clause-forest c = last_of c.args.table.now c.args.graph.now c.args.program.now
    c.args.settings.malloc c.requires.lowered c.requires.shapes c.args.settings.height c.args.nodes.now
    c.requires.explored c.args.trace.now c.requires.trace c.args.sample.now c.requires.member

pub put_last-requires-clause-store : goal.put_last-requires-clause-store
put_last-requires-clause-store c =
    let last = c.args.trace.now.last in
    let trace = c.requires.trace in
    let printed = last_of c.args.table.now c.args.graph.now c.args.program.now
    c.args.settings.malloc c.requires.lowered c.requires.shapes c.args.settings.height c.args.nodes.now
    c.requires.explored c.args.trace.now c.requires.trace c.args.sample.now c.requires.member in
    c.members_can_be_printed.ensures c.args.table.now c.args.program.now last c.args.sample.now c.known.ensures printed
    (subst (λ face. IsSound face last.forest) (sym trace.face) trace.sound) c.requires.member

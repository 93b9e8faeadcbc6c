use Rattle.ta_core.proofs.Reaching.{arc_taken}
use Rattle.ta_core.proofs.closing.MarkingTakerListBoolArc.take.Goals as goal

pub returns : goal.returns
returns c =
    let m = c.args.self.now in
    let t = arc_taken m.arcs.now m.states c.args.arc.now c.args.marks.now c.take.new.marks c.take.result
    c.requires.accepts c.requires.keeps c.take.ensures in
    record { keeps = t.0; changes = t.1 }

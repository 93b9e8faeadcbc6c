use Rattle.std.proofs.lemmas.Result.{IfOk-weaker}
use Rattle.fore_base.specs.Lists.{IsIn}
use Rattle.fore_base.specs.Marks.{IsMarked}
use Rattle.ta_core.specs.Auto.{automaton}
use Rattle.ta_sim.specs.Relations.{AreRowsOf}
use Rattle.ta_sim.proofs.Raised.{root_rows}
use Rattle.ta_sim.proofs.upward.root_pairs.Goals as goal

pub returns : goal.returns
returns c =
    let a = automaton c.auto.inside.states c.auto.inside.roots c.auto.inside.rules in
    let marks = c.in_ok-marks.marks in
    let of = rw c.as_slice.ensures at c.in_ok-marks.ensures in
    let made = rw c.as_slice-2.ensures at c.rows_of.ensures in
    rw (← c.auto.view_is)
    (IfOk-weaker c.rows_of.result (AreRowsOf a.states (λ p q. IsMarked marks p → IsMarked marks q))
    (AreRowsOf a.states (λ p q. IsIn p a.roots → IsIn q a.roots)) (λ rows h. root_rows a marks rows of h) made)

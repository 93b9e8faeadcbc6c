use Rattle.std.proofs.Common.{slice_index_or}
use Rattle.std.proofs.lemmas.List.{take_more}
use Rattle.fore_base.proofs.ListLemmas.{in_place}
use Rattle.fa_boxes.proofs.AllSigns.{sign_added}
use Rattle.fa_boxes.proofs.signing.signs_at.Goals as goal

pub loop-state-preserved : goal.loop-state-preserved
loop-state-preserved c =
    let q = slice_index_or c.args.states.now c.loop-state.state-index 0 in
    let t = take_more c.args.states.now c.loop-state.state-index 0 c.loop-state-test.true in
    let i = in_place c.args.states.now c.loop-state.state-index 0 c.loop-state-test.true in
    let e = rw c.entry_at.ensures at c.in_ok-add_sign.ensures in
    rw t (sign_added c.args.table.now c.args.states.now _ q c.loop-state.list c.add_sign.new.list i e
    c.loop-state.invariant)

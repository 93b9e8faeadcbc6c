use Rattle.std.proofs.Common.{◌<◌, length, true, false}
use Rattle.fore_base.specs.Lists.{Every}
use Rattle.ta_core.specs.Auto.{Automaton}
use Rattle.ta_core.specs.declared.auto.Rule.{Rule}
use Rattle.ta_core.proofs.Smaller.{states_low}
use Rattle.fa_sound.proofs.Mixed.{mixed_signed, mixed_listed}
use Rattle.fa_sound.proofs.signing.signatures_of.Goals as goal

pub learn-requires : goal.learn-requires
learn-requires c = rw c.as_slice.ensures (states_low _ c.auto.inside.rules c.auto.invariant.1)

pub returns : goal.returns
returns c =
    let bs = c.args.boxes.now in
    let t = c.in_ok-table.table in
    let i = c.auto.inside in
    let a : Automaton = record { states = i.states; roots = i.roots; rules = i.rules } in
    let l = rw c.as_slice.ensures at c.in_ok-table.ensures in
    let w : Every (λ (r : Rule). r.state < length t) a.rules = rw l.long (states_low _ i.rules c.auto.invariant.1) in
    let u = rw (← c.auto.view_is) at c.requires in
    let e = rw c.as_slice-2.ensures at c.in_ok-list.ensures in
    rw (← c.auto.view_is, e) (mixed_listed bs a t l w (mixed_signed bs a t l w u false)
    (mixed_signed bs a t l w u true))

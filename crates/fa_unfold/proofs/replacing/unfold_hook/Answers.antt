use Rattle.std.proofs.Common.{◌≡◌, ◌∙◌, ap, List, map}
use Rattle.std.proofs.lemmas.Result.{IfOk-weaker}
use Rattle.fa_core.specs.declared.faces.Face.{Face}
use Rattle.fa_core.specs.declared.forest.Forest.{Forest}
use Rattle.fa_unfold.specs.Unfold.{AreHookUnfoldings}
use Rattle.fa_unfold.specs.Unfolding.{open_root, with_inner}
use Rattle.fa_unfold.proofs.MadeUnfoldings.{hooks_made, hooks_ready}
use Rattle.fa_unfold.proofs.replacing.unfold_hook.Goals as goal

pub open_each-requires-clause-root : goal.open_each-requires-clause-root
open_each-requires-clause-root c = c.requires.at.root

pub open_each-requires-clause-top : goal.open_each-requires-clause-top
open_each-requires-clause-top c = c.requires.at.top

pub open_each-requires-clause-ranked : goal.open_each-requires-clause-ranked
open_each-requires-clause-ranked c =
    let boxes : c.as_slice-boxes.result.now ≡ c.args.table.now.face.boxes =
    c.as_slice-boxes.ensures ∙ ap (λ (f : Face). f.boxes) c.face.ensures in
    rw (boxes, c.as_slice-rules.ensures)
    (hooks_ready c.args.table.now c.args.forest.now c.requires.over c.args.root c.args.place c.args._number
    c.args.input.now c.args.inner.now c.requires.at c.requires.is c.in_ok-count.count c.in_ok-count.ensures.value
    c.in_ok-port.port.tops c.in_ok-port.ensures.tops c.in_ok-port.port.auto c.in_ok-port.ensures.auto)

pub returns : goal.returns
returns c =
    let boxes : c.as_slice-boxes.result.now ≡ c.args.table.now.face.boxes =
    c.as_slice-boxes.ensures ∙ ap (λ (f : Face). f.boxes) c.face.ensures in
    let made = rw (boxes, c.as_slice-rules.ensures) at c.open_each.ensures in
    IfOk-weaker c.open_each.result
    (λ (Gs : List Forest). Gs
    ≡ map
    (λ z. with_inner c.in_ok-more.more
    (open_root c.args.table.now.face.boxes c.args.forest.now c.args.root c.args.place c.in_ok-port.port.auto z))
    c.in_ok-port.port.tops)
    (AreHookUnfoldings c.args.table.now c.args.forest.now c.args.root c.args.place c.args._number)
    (hooks_made c.args.table.now c.args.forest.now c.requires.over c.args.root c.args.place c.args._number
    c.args.input.now c.args.inner.now c.requires.at c.requires.is c.in_ok-count.count c.in_ok-count.ensures.value
    c.in_ok-port.port.tops c.in_ok-port.ensures.tops c.in_ok-port.port.auto c.in_ok-port.ensures.auto
    c.in_ok-more.more c.in_ok-more.ensures)
    made

use Rattle.std.proofs.Common.{◌≡◌, ◌∙◌, ap, List, map, flat_map}
use Rattle.std.proofs.lemmas.Result.{IfOk-weaker}
use Rattle.fa_core.specs.declared.faces.Face.{Face}
use Rattle.fa_core.specs.declared.forest.Forest.{Forest}
use Rattle.fa_unfold.specs.Unfold.{AreLinkUnfoldings}
use Rattle.fa_unfold.specs.Unfolding.{open_root, with_end, with_inner}
use Rattle.fa_unfold.proofs.MadeUnfoldings.{links_made, links_ready}
use Rattle.fa_unfold.proofs.replacing.unfold_link.Goals as goal

pub open_links-requires-clause-root : goal.open_links-requires-clause-root
open_links-requires-clause-root c = c.requires.at.root

pub open_links-requires-clause-top : goal.open_links-requires-clause-top
open_links-requires-clause-top c = c.requires.at.top

pub tops_of-requires : goal.tops_of-requires
tops_of-requires c = c.requires.at.end

pub open_links-requires-clause-by : goal.open_links-requires-clause-by
open_links-requires-clause-by c =
    let boxes : c.as_slice-boxes.result.now ≡ c.args.table.now.face.boxes =
    c.as_slice-boxes.ensures ∙ ap (λ (f : Face). f.boxes) c.face.ensures in
    rw (boxes, c.as_slice-rules.ensures)
    (links_ready c.args.table.now c.args.forest.now c.requires.over c.args.root c.args.place c.args._number c.args.end
    c.args.input.now c.args.output.now c.args.inner.now c.requires.at c.requires.is c.in_ok-count.count
    c.in_ok-count.ensures.value c.in_ok-first.first.tops c.in_ok-last.last.tops c.in_ok-ends.ends
    c.in_ok-first.ensures.tops c.in_ok-last.ensures.tops c.in_ok-ends.ensures c.in_ok-first.first.auto
    c.in_ok-last.last.auto c.in_ok-first.ensures.auto c.in_ok-last.ensures.auto)

pub returns : goal.returns
returns c =
    let boxes : c.as_slice-boxes.result.now ≡ c.args.table.now.face.boxes =
    c.as_slice-boxes.ensures ∙ ap (λ (f : Face). f.boxes) c.face.ensures in
    let made = rw (boxes, c.as_slice-rules.ensures) at c.open_links.ensures in
    IfOk-weaker c.open_links.result
    (λ (Gs : List Forest). Gs
    ≡ flat_map
    (λ z. map (with_inner c.in_ok-more.more)
    (with_end c.args.table.now.face.boxes
    (open_root c.args.table.now.face.boxes c.args.forest.now c.args.root c.args.place c.in_ok-first.first.auto z)
    c.args.root c.args.end c.in_ok-ends.ends c.in_ok-last.last.auto c.in_ok-last.last.tops)) c.in_ok-first.first.tops)
    (AreLinkUnfoldings c.args.table.now c.args.forest.now c.args.root c.args.place c.args._number c.args.end)
    (links_made c.args.table.now c.args.forest.now c.requires.over c.args.root c.args.place c.args._number c.args.end
    c.args.input.now c.args.output.now c.args.inner.now c.requires.at c.requires.is c.in_ok-count.count
    c.in_ok-count.ensures.value c.in_ok-first.first.tops c.in_ok-last.last.tops c.in_ok-ends.ends
    c.in_ok-first.ensures.tops c.in_ok-last.ensures.tops c.in_ok-ends.ensures c.in_ok-first.first.auto
    c.in_ok-last.last.auto c.in_ok-first.ensures.auto c.in_ok-last.ensures.auto c.in_ok-more.more
    c.in_ok-more.ensures)
    made

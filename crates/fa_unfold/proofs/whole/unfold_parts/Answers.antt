use Rattle.std.proofs.Common.{◌≡◌, inl, inr, [], ◌∷◌, ◌++◌, sym, subst, take}
use Rattle.fore_base.proofs.ListLemmas.{every_append, every_at, every_weaker, in_last, in_left, in_push, take_item}
use Rattle.fa_sound.specs.Soundness.{SoundForest}
use Rattle.fa_sound.specs.Unions.{forests}
use Rattle.fa_unfold.specs.Unfolded.{UnfoldsInto}
use Rattle.fa_unfold.specs.inner.Cuts.{HasLinkAt, IsUnfoldedPart}
use Rattle.fa_unfold.proofs.UnfoldedEdges.{into_left, into_right, part_more, parts_of}
use Rattle.fa_unfold.proofs.whole.unfold_parts.Goals as goal

pub replace_link-requires-clause-face : goal.replace_link-requires-clause-face
replace_link-requires-clause-face c =
    every_at (λ (s : SoundForest). c.args.table.now.face ≡ s.face) c.args.parts.now c.loop-part.part-index
    c.part-item.result c.requires.face c.loop-part-test.true c.part-item.is

pub end_of-end-requires-clause-at : goal.end_of-end-requires-clause-at
end_of-end-requires-clause-at c =
    rw c.forest.ensures
    (every_at (λ (s : SoundForest). HasLinkAt s.forest c.args.root c.args.slot c.args.number) c.args.parts.now
    c.loop-part.part-index c.part-item.result c.requires.at c.loop-part-test.true c.part-item.is)

pub loop-part-preserved : goal.loop-part-preserved
loop-part-preserved c =
    let t = c.args.table.now in
    let i = c.args.root in
    let p = c.args.slot in
    let item = c.part-item.result in
    let done = take c.loop-part.part-index c.args.parts.now in
    let e = take_item c.args.parts.now c.loop-part.part-index item c.loop-part-test.true c.part-item.is in
    let made = c.loop-part.made in
    let more = c.in_ok-more.more in
    let inv = c.loop-part.invariant in
    let k = c.in_ok-more.ensures in
    rw (e, c.in_ok-append.ensures.ok) (
      every_append (IsUnfoldedPart t (done ++ item ∷ []) i p) made more
          (every_weaker (IsUnfoldedPart t done i p) (IsUnfoldedPart t (done ++ item ∷ []) i p) made
          (part_more t i p done (done ++ item ∷ []) (λ S j. in_left S done (item ∷ []) j)) inv.0)
          (parts_of t i p (done ++ item ∷ []) item (in_last item done) more k.each),
      (λ S j. elim (in_push item S done j) [
        | inl l ↦ into_left t.defs S.forest i p made more (inv.1 S l)
        | inr q ↦ into_right t.defs S.forest i p made more
            (subst (λ (H : SoundForest). UnfoldsInto t.defs H.forest i p (forests more)) (sym q) k.whole)
      ]),
    )

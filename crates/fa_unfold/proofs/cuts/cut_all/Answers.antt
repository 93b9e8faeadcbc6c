use Rattle.std.proofs.Common.{inl, inr, [], ◌∷◌, ◌++◌, sym, subst, take}
use Rattle.fore_base.proofs.ListLemmas.{every_append, every_at, every_weaker, in_last, in_left, in_push, take_item}
use Rattle.fa_core.specs.declared.forest.Forest.{Forest}
use Rattle.fa_core.specs.Filled.{IsFilled}
use Rattle.fa_unfold.specs.inner.Cuts.{HasCuts, IsCutOf}
use Rattle.fa_unfold.proofs.CutLists.{cut_more, cuts_left, cuts_of, cuts_right}
use Rattle.fa_unfold.proofs.cuts.cut_all.Goals as goal

pub split_signatures-requires : goal.split_signatures-requires
split_signatures-requires c = record {
  filled = every_at (IsFilled c.args.face.now) c.args.wholes.now c.loop-whole.whole-index c.whole-item.result c.requires
      c.loop-whole-test.true c.whole-item.is;
}

pub loop-whole-preserved : goal.loop-whole-preserved
loop-whole-preserved c =
    let face = c.args.face.now in
    let item = c.whole-item.result in
    let done = take c.loop-whole.whole-index c.args.wholes.now in
    let e = take_item c.args.wholes.now c.loop-whole.whole-index item c.loop-whole-test.true c.whole-item.is in
    let made = c.loop-whole.made in
    let more = c.in_ok-more.more in
    let inv = c.loop-whole.invariant in
    let k = c.in_ok-more.ensures in
    rw (e, c.in_ok-append.ensures.ok) (
      every_append (IsCutOf face (done ++ item ∷ [])) made more
          (every_weaker (IsCutOf face done) (IsCutOf face (done ++ item ∷ [])) made
          (cut_more face done (done ++ item ∷ []) (λ G i. in_left G done (item ∷ []) i)) inv.0)
          (cuts_of face item (done ++ item ∷ []) (in_last item done) more k.face k.cut.each k.regroups),
      (λ G i. elim (in_push item G done i) [
        | inl j ↦ cuts_left G made more (inv.1 G j)
        | inr q ↦ cuts_right G made more (subst (λ (H : Forest). HasCuts H more) (sym q) k.lost)
      ]),
    )

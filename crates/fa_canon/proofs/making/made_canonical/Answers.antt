use Rattle.std.proofs.Common.{length, [], ◌∷◌}
use Rattle.std.proofs.lemmas.Result.{IfOk-weaker}
use Rattle.fa_canon.specs.inner.Finished.{CanFinish, IsFinished}
use Rattle.fa_canon.specs.inner.Knots.{HasCut, IsReady}
use Rattle.fa_canon.specs.inner.Steps.{HasChosen, IsSplitEach}
use Rattle.fa_canon.proofs.Finishing.{ready_start}
use Rattle.fa_canon.proofs.Splits.{each_piece, gives_on, split_twice}
use Rattle.fa_canon.proofs.making.made_canonical.Goals as goal

pub on_each-requires : goal.on_each-requires
on_each-requires g c =
    let F = c.args.forest in
    each_piece (HasChosen (length F.forest.autos)) (IsReady c.in_ok-count.count 0 0) F c.in_ok-chosen.chosen
    c.in_ok-chosen.ensures
    (λ G piece h. ready_start c.in_ok-count.count F G (rw c.forest-2.ensures at c.in_ok-count.ensures.value)
    c.known.ensures.sound c.requires.none c.requires.giving piece h)

pub finish_each-requires-clause-can : goal.finish_each-requires-clause-can
finish_each-requires-clause-can g c κs within =
    let F = c.args.forest in
    let n = c.in_ok-count.count in
    each_piece (HasCut n n 0) (CanFinish n) F c.in_ok-cut.cut
    (split_twice (HasChosen (length F.forest.autos)) (HasCut n n 0) (HasCut n n 0) (F ∷ []) c.in_ok-chosen.chosen
    c.in_ok-cut.cut (λ x G H i p a q b. b) c.in_ok-chosen.ensures c.in_ok-cut.ensures)
    (λ G piece h. (
      (gives_on F G piece c.requires.giving, h.0, h.1),
      record {
        from = F;
        sound = c.known.ensures.sound;
        gives = c.requires.giving;
        reached = c.requires.reached;
        piece = piece;
      },
    ))

pub returns : goal.returns
returns g c =
    let F = c.args.forest in
    let n = c.in_ok-count.count in
    let cut = split_twice (HasChosen (length F.forest.autos)) (HasCut n n 0) (HasCut n n 0) (F ∷ [])
    c.in_ok-chosen.chosen c.in_ok-cut.cut (λ x G H i p a q b. b) c.in_ok-chosen.ensures c.in_ok-cut.ensures in
    IfOk-weaker c.finish_each.result (λ made. IsSplitEach IsFinished c.in_ok-cut.cut made)
    (λ made. IsSplitEach IsFinished (F ∷ []) made)
    (λ made h. split_twice (HasCut n n 0) IsFinished IsFinished (F ∷ []) c.in_ok-cut.cut made (λ x G H i p a q b. b) cut
    h)
    c.finish_each.ensures

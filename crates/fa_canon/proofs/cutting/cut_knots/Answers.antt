use Rattle.std.proofs.Common.{◌≡◌, ◌<◌, ◌+◌, ℕ, List, [], ◌∷◌, sym, subst, arith}
use Rattle.fa_sound.specs.Soundness.{SoundForest}
use Rattle.fa_canon.specs.inner.Cutting.{IsCutting}
use Rattle.fa_canon.specs.inner.Knots.{HasCut, IsReady}
use Rattle.fa_canon.specs.inner.Steps.{IsSplitEach}
use Rattle.fa_canon.proofs.Splits.{each_piece, gives_on, split_same, split_twice, split_weaker}
use Rattle.fa_canon.proofs.cutting.cut_knots.Goals as goal

pub loop-root-init : goal.loop-root-init
loop-root-init c =
    let F = c.args.forest in
    subst (λ (z : List SoundForest). IsSplitEach (HasCut c.args.count 0 0) (F ∷ []) z) (sym c.in_ok-list.ensures)
    (split_same (HasCut c.args.count 0 0) F (c.requires.1, c.requires.2))

pub on_each-requires : goal.on_each-requires
on_each-requires c =
    let n = c.args.count in
    let r = c.loop-root.root in
    each_piece (HasCut n r 0) (λ (G : SoundForest). IsReady n r 0 G × (r < n)) c.args.forest c.loop-root.list
    c.loop-root.invariant
    (λ G piece h. ((gives_on c.args.forest G piece c.requires.0, h.0, h.1), c.loop-root-test.true))

pub loop-root-preserved : goal.loop-root-preserved
loop-root-preserved c =
    let n = c.args.count in
    let r = c.loop-root.root in
    split_twice (HasCut n r 0) (HasCut n (r + 1) 0) (HasCut n (r + 1) 0) (c.args.forest ∷ []) c.loop-root.list
    c.in_ok-list-2.list
    (λ F G H i x a y b. b) c.loop-root.invariant c.in_ok-list-2.ensures

pub returns : goal.returns
returns c =
    let n = c.args.count in
    let r = c.loop-root.root in
    let e : r ≡ n = omega (arith, c.loop-root.auto.root-end, c.loop-root-test.false) in
    split_weaker (HasCut n r 0) (HasCut n n 0) (c.args.forest ∷ []) c.loop-root.list
    (λ F G i x h. (h.0, subst (λ (m : ℕ). IsCutting n m 0 G.forest) e h.1)) c.loop-root.invariant

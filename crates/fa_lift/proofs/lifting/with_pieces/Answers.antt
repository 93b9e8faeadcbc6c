use Rattle.std.proofs.Common.{◌≡◌, ◌∙◌, ◌∷◌, [], inl, inr, ap, sym, subst, length}
use Rattle.fore_base.proofs.ListLemmas.{every_in, every_push, in_at, in_last, in_push, take_item}
use Rattle.ta_core.specs.Auto.{Automaton}
use Rattle.fa_core.specs.Filled.{HasSome, IsSound}
use Rattle.fa_sound.specs.Components.{component_at}
use Rattle.fa_signatures.specs.CutPieces.{IsPiece}
use Rattle.fa_lift.specs.Lift.{hatted, lift_in, with_two}
use Rattle.fa_lift.specs.inner.Lifting.{IsLift}
use Rattle.fa_lift.proofs.LiftLists.{among_left}
use Rattle.fa_lift.proofs.LiftSound.{in_sound}
use Rattle.fa_lift.proofs.LiftedRoots.{in_is_lift}
use Rattle.fa_lift.proofs.lifting.with_pieces.Goals as goal

pub with_piece-requires-clause-sound : goal.with_piece-requires-clause-sound
with_piece-requires-clause-sound c =
    let s = c.args.forest.now in
    let F = s.forest in
    let q = c.requires in
    let x = c.args._rule.now in
    let i = in_at c.args.pieces.now c.loop-piece.piece-index c.piece-item.result c.loop-piece-test.true c.piece-item.is
    in
    let piece = every_in
    (IsPiece s.face.boxes (hatted (component_at F.autos c.args.from) x.state (length F.autos))) c.args.pieces.now
    c.piece-item.result q.pieces i in
    subst (λ (b : Automaton). IsSound s.face (with_two F c.args.from c.piece-item.result b)) (sym q.own)
    (in_sound s.face F c.args._root c.args._field c.args.from c.known.ensures.ranked q.from c.known.ensures.sound x
    c.args._place q.owns c.piece-item.result c.known-in-loop-piece.ensures piece.0 piece.1
    (subst (λ (b : Automaton). HasSome b) q.own q.some))

pub loop-piece-preserved : goal.loop-piece-preserved
loop-piece-preserved c =
    let s = c.args.forest.now in
    let F = s.forest in
    let q = c.requires in
    let x = c.args._rule.now in
    let r = c.args._root in
    let f = c.args._field in
    let t = c.args.from in
    let p = c.args._place in
    let item = c.piece-item.result in
    let one = c.in_ok-one.one in
    let made = c.loop-piece.made in
    let e = take_item c.args.pieces.now c.loop-piece.piece-index item c.loop-piece-test.true c.piece-item.is in
    let i = in_at c.args.pieces.now c.loop-piece.piece-index item c.loop-piece-test.true c.piece-item.is in
    let piece = every_in (IsPiece s.face.boxes (hatted (component_at F.autos t) x.state (length F.autos)))
    c.args.pieces.now item q.pieces i in
    let is : one.forest ≡ lift_in F r t x p item = c.in_ok-one.ensures.forest ∙ ap (with_two F t item) q.own in
    let inv = c.loop-piece.invariant in
    rw (e, c.in_ok-push.ensures.ok) (
      every_push (IsLift s.face F r f t) made one inv.0 (
        in_is_lift s.face.boxes F r f t c.known.ensures.ranked q.from x p q.owns item piece one.forest is,
        c.in_ok-one.ensures.face,
      ),
      (λ k j. elim (in_push item k _ j) [
        | inl m ↦ among_left made (one ∷ []) (lift_in F r t x p k) (inv.1 k m)
        | inr m ↦ (one, in_last one made, is ∙ ap (lift_in F r t x p) (sym m))
      ]),
    )

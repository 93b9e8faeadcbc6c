use Rattle.std.proofs.Common.{inl, inr, [], ◌∷◌, ◌++◌, sym, subst, take}
use Rattle.fore_base.proofs.ListLemmas.{every_append, every_at, in_last, in_left, in_push, take_item}
use Rattle.fa_sound.specs.Soundness.{SoundForest}
use Rattle.fa_sound.specs.Unions.{forests}
use Rattle.fa_unfold.proofs.CutLists.{forests_left, forests_right}
use Rattle.fa_opening.specs.Each.{OfSome}
use Rattle.fa_opening.proofs.Rounds.{some_more, some_of}
use Rattle.fa_opening.proofs.applying.on_each.Goals as goal

pub apply-requires : goal.apply-requires
apply-requires g c =
    every_at (g.S.Step.accepts c.args.step.now) c.args.parts.now c.loop-part.part-index c.part-item.result
    c.requires c.loop-part-test.true c.part-item.is

pub loop-part-preserved : goal.loop-part-preserved
loop-part-preserved g c =
    let step = c.args.step.now in
    let R = g.S.Step.relates step in
    let on = g.met.S.Step.goes_on step in
    let item = c.part-item.result in
    let done = take c.loop-part.part-index c.args.parts.now in
    let e = take_item c.args.parts.now c.loop-part.part-index item c.loop-part-test.true c.part-item.is in
    let made = c.loop-part.made in
    let more = c.in_ok-more.more in
    let inv = c.loop-part.invariant in
    let k = c.in_ok-more.ensures in
    rw (e, c.in_ok-append.ensures.ok) (
      every_append (OfSome R (done ++ item ∷ [])) made more
          (some_more R done (done ++ item ∷ []) made (λ F j. in_left F done (item ∷ []) j) inv.0)
          (some_of R (done ++ item ∷ []) item (in_last item done) more k.each),
      (λ F j. elim (in_push item F done j) [
        | inl l ↦ on F (forests made) (forests (made ++ more)) (forests_left made more) (inv.1 F l)
        | inr q ↦ on F (forests more) (forests (made ++ more)) (forests_right made more)
            (subst (λ (G : SoundForest). g.S.Step.goes_into step G (forests more)) (sym q) k.whole)
      ]),
    )

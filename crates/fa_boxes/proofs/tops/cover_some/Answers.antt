use Rattle.std.proofs.Common.{◌↔◌, IsTrue, Bool, ap, ◌∙◌}
use Rattle.std.proofs.lemmas.Result.{IfOk-weaker}
use Rattle.ta_core.specs.Auto.{Automaton}
use Rattle.fa_core.specs.Boxes.{CoverSome}
use Rattle.fa_boxes.specs.inner.TopRules.{AtTops, CoversField}
use Rattle.fa_boxes.proofs.TopRules.{tops_iff}
use Rattle.fa_boxes.proofs.tops.cover_some.Goals as goal

pub returns : goal.returns
returns c =
    let e = rw (
      c.as_slice.ensures ∙ ap (λ (b : Automaton). b.roots) c.auto.view_is,
      c.as_slice-2.ensures ∙ ap (λ (b : Automaton). b.rules) c.auto.view_is,
    ) at c.each_covers.ensures in
    let t = tops_iff c.args.auto.now c.known.ensures c.requires (CoversField c.args.boxes.now) in
    IfOk-weaker c.each_covers.result
    (λ (yes : Bool). IsTrue yes ↔ AtTops (CoversField c.args.boxes.now) c.args.auto.now.roots c.args.auto.now.rules)
    (λ (yes : Bool). IsTrue yes ↔ CoverSome c.args.boxes.now c.args.auto.now)
    (λ yes w. ((λ y. t.0 (w.0 y)), (λ h. w.1 (t.1 h)))) e

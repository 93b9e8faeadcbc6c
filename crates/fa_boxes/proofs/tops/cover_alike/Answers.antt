use Rattle.std.proofs.Common.{◌≡◌, Bool, true, false, ap, subst, ◌∙◌}
use Rattle.std.proofs.lemmas.Result.{IfOk-weaker}
use Rattle.ta_core.specs.Auto.{Automaton}
use Rattle.fa_core.specs.Boxes.{CoverAlike}
use Rattle.fa_boxes.specs.Tops.{CoverApart}
use Rattle.fa_boxes.specs.inner.TopRules.{AllAlike}
use Rattle.fa_boxes.proofs.Alike.{all_trees, some_apart}
use Rattle.fa_boxes.proofs.tops.cover_alike.Goals as goal

pub returns-clause-yes : goal.returns-clause-yes
returns-clause-yes c =
    let e = rw (
      c.as_slice.ensures ∙ ap (λ (b : Automaton). b.roots) c.auto.view_is,
      c.as_slice-2.ensures ∙ ap (λ (b : Automaton). b.rules) c.auto.view_is,
    ) at c.all_cover_alike.ensures in
    let bs = c.args.boxes.now in
    let a = c.args.auto.now in
    IfOk-weaker c.all_cover_alike.result (λ (yes : Bool). AllAlike bs a.roots a.rules yes)
    (λ (yes : Bool). yes ≡ true → CoverAlike bs a)
    (λ yes h z. all_trees bs a (subst (λ (b : Bool). AllAlike bs a.roots a.rules b) z h)) e

pub returns-clause-no : goal.returns-clause-no
returns-clause-no c =
    let e = rw (
      c.as_slice.ensures ∙ ap (λ (b : Automaton). b.roots) c.auto.view_is,
      c.as_slice-2.ensures ∙ ap (λ (b : Automaton). b.rules) c.auto.view_is,
    ) at c.all_cover_alike.ensures in
    let bs = c.args.boxes.now in
    let a = c.args.auto.now in
    IfOk-weaker c.all_cover_alike.result (λ (yes : Bool). AllAlike bs a.roots a.rules yes)
    (λ (yes : Bool). yes ≡ false → CoverApart bs a)
    (λ yes h z. some_apart bs a c.known.ensures c.requires (subst (λ (b : Bool). AllAlike bs a.roots a.rules b) z h)) e

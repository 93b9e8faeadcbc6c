use Rattle.std.proofs.Common.{◌↔◌, ◌∙◌, ℕ, List, flat_map, ap, subst, IsTrue}
use Rattle.fa_core.specs.declared.faces.BoxFace.{BoxFace}
use Rattle.fore_base.specs.declared.shape.Shape.{Shape}
use Rattle.fa_core.specs.Filled.{covers, fields_of}
use Rattle.fa_core.specs.Rearranged.{often}
use Rattle.fa_giving.specs.inner.Totals.{AllFit}
use Rattle.fa_giving.proofs.roots.is_cell_right.Goals as goal

pub returns : goal.returns
returns c =
    let cv = c.in_ok-covered.ensures
    ∙ ap (λ (bs : List BoxFace). flat_map (covers bs) c.args.slots.now) c.as_slice.ensures in
    let fd = c.in_ok-fields.ensures ∙ ap (λ (hs : List Shape). fields_of hs c.args.shape) c.as_slice-2.ensures in
    let need = c.often-need.ensures ∙ ap (often c.args.place.field) (c.as_slice-3.ensures ∙ fd) in
    let own = c.often-own.ensures ∙ ap (often c.args.place.field) (c.as_slice-4.ensures ∙ cv) in
    subst (λ (n : ℕ). IsTrue c.all_fit.result ↔ AllFit c.args.place.port n
    (often c.args.place.field (flat_map (covers c.args.face.now.boxes) c.args.slots.now)) c.args.sum) need
    (subst (λ (n : ℕ). IsTrue c.all_fit.result ↔ AllFit c.args.place.port c.often-need.result n c.args.sum) own
    c.all_fit.ensures)

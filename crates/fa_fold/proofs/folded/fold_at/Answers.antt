use Rattle.std.proofs.Common.{◌≡◌, ◌∙◌, sym, subst}
use Rattle.std.proofs.lemmas.Result.{IfOk-weaker}
use Rattle.fa_core.specs.Filled.{IsSound}
use Rattle.fa_core.specs.declared.forest.Forest.{Forest}
use Rattle.fa_fold.proofs.folded.fold_at.Goals as goal

pub of-requires : goal.of-requires
of-requires c =
    let e = rw (
      c.as_slice-boxes.ensures,
      c.new_output-end.ensures,
      c.as_slice-3.ensures,
      c.forest-2.ensures,
      c.in_ok-placed.ensures.value,
      c.as_slice-2.ensures,
      c.in_ok-order.ensures,
      c.in_ok-kept.ensures,
      c.as_slice.ensures,
      c.forest.ensures,
    ) at c.in_ok-made.ensures in
    let placed = rw (
      c.in_ok-placed.ensures.face,
      ← c.requires.face,
      c.in_ok-placed.ensures.value,
      c.as_slice-2.ensures,
      c.in_ok-order.ensures,
      c.in_ok-kept.ensures,
      c.as_slice.ensures,
      c.forest.ensures,
    ) at c.known.ensures.sound in
    subst (λ (G : Forest). IsSound c.args.face.now G) (sym e) (c.requires.sound placed)

pub returns-clause-value : goal.returns-clause-value
returns-clause-value c =
    let e = rw (
      c.as_slice-boxes.ensures,
      c.new_output-end.ensures,
      c.as_slice-3.ensures,
      c.forest-2.ensures,
      c.in_ok-placed.ensures.value,
      c.as_slice-2.ensures,
      c.in_ok-order.ensures,
      c.in_ok-kept.ensures,
      c.as_slice.ensures,
      c.forest.ensures,
    ) at c.in_ok-made.ensures in
    IfOk-weaker c.of.result (λ s. s.forest ≡ c.in_ok-made.made) _ (λ s h. h ∙ e) c.of.ensures.forest

use Rattle.std.proofs.Common.{sym, ◌∙◌}
use Rattle.fa_split.proofs.ChildEnds.{marks_trees, trees_marks}
use Rattle.fa_split.proofs.ending.is_cell_at.Goals as goal

pub returns-then-not-is_leaf : goal.returns-then-not-is_leaf
returns-then-not-is_leaf c =
    let no_leaf = sym c.is_leaf.ensures ∙ c.if-not-is_leaf.true in
    let marked = rw c.as_slice.ensures at c.are_all_marked.ensures in (
      (λ t. (
        c.if-rule-state.false,
        no_leaf,
        marks_trees c.args.all.now c.args.count c.args.marks.now c.args.rule.now.children c.requires
            (sym marked ∙ t),
      )),
      (λ h. marked ∙ trees_marks c.args.all.now c.args.count c.args.marks.now c.args.rule.now.children c.requires h.2),
    )

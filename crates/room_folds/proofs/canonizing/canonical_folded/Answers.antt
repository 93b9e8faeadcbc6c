use Rattle.std.proofs.Common.{inl, sym, subst, ◌∙◌}
use Rattle.fore_base.specs.Lists.{Every}
use Rattle.fa_core.specs.Faces.{IsGiving}
use Rattle.fa_core.specs.declared.faces.Face.{Face}
use Rattle.room_folds.proofs.canonizing.canonical_folded.Goals as goal

pub canonical-requires-clause-giving : goal.canonical-requires-clause-giving
canonical-requires-clause-giving g c κs within =
    inl (subst (λ (z : Face). Every IsGiving z.boxes) (c.requires ∙ sym c.in_ok-folded.ensures.face)
    (c.tables_give.ensures.gives c.args.table.now c.known.ensures))

pub canonical-requires-clause-reached : goal.canonical-requires-clause-reached
canonical-requires-clause-reached g c κs within = rw c.in-None.is at c.in_ok-leaking_root.ensures.root

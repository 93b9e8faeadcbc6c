-- Forests that regroup another, which loses none to them, have its members together.
use Rattle.std.proofs.Common.{List}
use Rattle.fore_base.specs.Lists.{Every}
use Rattle.fore_base.proofs.ListLemmas.{every_in}
use Rattle.fa_core.specs.declared.boxes.BoxDef.{BoxDef}
use Rattle.fa_core.specs.declared.forest.Forest.{Forest}
use Rattle.fa_core.specs.Member.{Regroups, RegroupsInto}
use Rattle.fa_core.proofs.Regrouped.{members_regrouped, members_split}
use Rattle.fa_sound.specs.Unions.{IsUnionOf}

pub union_of : (F : Forest) (Gs : List Forest) → ((T : List BoxDef) → Every (Regroups T F) Gs)
    → ((T : List BoxDef) → RegroupsInto T F Gs) → IsUnionOf F Gs
union_of F Gs each whole hs T s = (
  (λ h. members_split hs T F Gs (whole T) s h),
  (λ h. members_regrouped hs T F h.0 (every_in (Regroups T F) Gs h.0 (each T) h.1) s h.2),
)

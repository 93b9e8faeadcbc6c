-- Ways back give fields: those of boxes that give where they lead back; without box edges no way leads back.
use Rattle.std.proofs.Common.{inl, inr, ℕ, List, true≢false, sym, subst, ◌∙◌}
use Rattle.fore_base.specs.Lists.{IsIn, Every}
use Rattle.fore_base.proofs.ListLemmas.{every_in}
use Rattle.ta_core.specs.declared.tree.Tree.{Tree}
use Rattle.fa_core.specs.Boxless.{HasNoBoxes}
use Rattle.fa_core.specs.Canonical.{LeadsBack, provides}
use Rattle.fa_core.specs.Filled.{Choice}
use Rattle.fa_core.specs.Ways.{ways}
use Rattle.fa_core.specs.declared.faces.Face.{Face}
use Rattle.fa_core.specs.declared.forest.Forest.{Forest}
use Rattle.fa_core.proofs.PlainWays.{IsPlainWay, run_plain}
use Rattle.fa_sound.specs.Components.{component_at}
use Rattle.fa_merge.proofs.LoneFound.{choice_component}
use Rattle.fa_merge.proofs.PlacedForests.{component_has}
use Rattle.fa_order.specs.Placing.{DoEdgesGive}
use Rattle.fa_order.proofs.BackGives.{back_provides}
use Rattle.fa_order.proofs.Visits.{IsBackGiving}

module _ (face : Face) (F : Forest) (plain : Every HasNoBoxes F.autos) (ts : List Tree) (choice : Choice F.autos ts)
  where
    never_back : (i j r : ℕ) → LeadsBack face.boxes ts i j r → ⊥
    never_back i j r (t, e, (w, h, q, z)) =
        let c = choice_component F.autos ts j t choice e in
        let p : IsPlainWay face.boxes w =
        every_in (IsPlainWay face.boxes) (ways t) w
        (run_plain face.boxes (component_at F.autos j).rules (component_has HasNoBoxes F.autos j plain c.0) c.1.2) h in
        elim z [ inl l ↦ true≢false (sym l.1 ∙ p.1) | inr l ↦ subst (λ (ks : List ℕ). IsIn r ks) p.2 l ]

    plain_gives : IsBackGiving (LeadsBack face.boxes ts) (provides face.boxes ts)
    plain_gives i j r l = absurd (never_back i j r l)

pub ways_give : (face : Face) (F : Forest) → DoEdgesGive face F → (ts : List Tree) → Choice F.autos ts
    → IsBackGiving (LeadsBack face.boxes ts) (provides face.boxes ts)
ways_give face F giving ts choice = elim giving [
  | inl gives ↦ back_provides face.boxes gives ts
  | inr plain ↦ plain_gives face F plain ts choice
]

-- Folds one after another.
use Rattle.std.proofs.Common.{◌≡◌, ◌⊎◌, ◌<◌, inl, inr, ℕ, List, [], ◌∷◌, ◌++◌, length, refl, sym, ap}
use Rattle.std.proofs.Common.{Option, subst, ◌∙◌}
use Rattle.fore_base.specs.declared.shape.Shape.{Shape}
use Rattle.fore_base.specs.declared.store.Store.{Store}
use Rattle.fa_back.specs.Insides.{AreRankedInsides}
use Rattle.fa_core.specs.Boxes.{Boxes, IsBoxTable}
use Rattle.fa_core.specs.Folding.{IsFold, moved_target, number_without}
use Rattle.fa_core.specs.LeastFolds.{CanFold, FoldsTo, IsLeastFold, OutputUpTo}
use Rattle.fa_core.specs.Member.{Stands}
use Rattle.fa_core.specs.declared.folds.FoldStep.{FoldStep}
use Rattle.fa_core.specs.declared.forest.Forest.{Forest}
use Rattle.fa_sound.specs.Soundness.{SoundForest}
use Rattle.fa_merge.specs.Reached.{AlwaysLeaks, DoesNoneLeak, HasMembers, NeverLeaks}
use Rattle.fa_fold.specs.All.{HasAsManyVariables}
use Rattle.fa_fold.specs.Folds.{IsStepAt}
use Rattle.fa_fold.specs.Least.{IsLeastSite}
use Rattle.fa_fold.specs.declared.least.FoldSite.{FoldSite}
use Rattle.fa_merge.proofs.OtherOrders.{mapped_length}

-- the fold at the least place is the least
pub least_fold_of : (T : Boxes) (F G : Forest) (s : FoldSite) (x : FoldStep) → IsLeastSite T F s
    → IsFold T.face.boxes T.defs F x G → IsStepAt s.box_no s.input s.output x → IsLeastFold T F x G
least_fold_of T F G s x is fold step = record {
  fold = fold;
  can = subst (λ (o : Option ℕ). CanFold T F x.box_no x.input o) (sym step.2)
      (subst (λ (i : ℕ). CanFold T F x.box_no i s.output) (sym step.1)
      (subst (λ (n : ℕ). CanFold T F n s.input s.output) (sym step.0) is.can));
  least = λ n i o can.
      subst (λ (q : Option ℕ). (x.box_no < n) ⊎ ((x.box_no ≡ n) × ((x.input < i) ⊎ ((x.input ≡ i) × OutputUpTo q o))))
      (sym step.2)
      (subst
      (λ (k : ℕ). (x.box_no < n) ⊎ ((x.box_no ≡ n) × ((k < i) ⊎ ((k ≡ i) × OutputUpTo s.output o))))
      (sym step.1)
      (subst (λ (b : ℕ). (b < n) ⊎ ((b ≡ n) × ((s.input < i) ⊎ ((s.input ≡ i) × OutputUpTo s.output o))))
      (sym step.0) (is.least n i o can)));
}

-- one fold more
pub folds_more : (T : Boxes) (F G H : Forest) (xs : List FoldStep) (x : FoldStep) → FoldsTo T F xs G
    → IsLeastFold T G x H → FoldsTo T F (xs ++ x ∷ []) H
folds_more T F G H [] x e last = (H, subst (λ (Z : Forest). IsLeastFold T Z x H) (sym e) last, refl)
folds_more T F G H (y ∷ xs) x (E, first, later) last = (E, first, folds_more T E G H xs x later last)

-- a fold keeps the numbers of variables
pub folds_variables : (T : Boxes) (F G : Forest) (xs : List FoldStep) → FoldsTo T F xs G → HasAsManyVariables F G
folds_variables T F G [] e = (
  ap (λ (Z : Forest). length Z.vars) (sym e),
  ap (λ (Z : Forest). length Z.data_vars) (sym e),
)
folds_variables T F G (x ∷ xs) (E, first, later) =
    let rest = folds_variables T E G xs later in
    let f = first.fold in (
      rest.0 ∙ ap length f.vars ∙ mapped_length (moved_target (number_without f.part.inner)) F.vars,
      rest.1 ∙ ap length f.data_vars,
    )

-- the folds that were made lead from F to G, and keep what folds keep
pub record IsFoldedSoFar (T : Boxes) (F G : SoundForest) (xs : List FoldStep) : Type 0 where
  pub folds : FoldsTo T F.forest xs G.forest
  pub face : G.face ≡ F.face
  pub members : (hs : List Shape) (s : Store) → Stands hs T.defs F.forest s → Stands hs T.defs G.forest s

pub one_more : (T : Boxes) (F G H : SoundForest) (xs : List FoldStep) (x : FoldStep) → IsFoldedSoFar T F G xs
    → IsLeastFold T G.forest x H.forest → H.face ≡ G.face
    → ((hs : List Shape) (s : Store) → Stands hs T.defs G.forest s → Stands hs T.defs H.forest s)
    → IsFoldedSoFar T F H (xs ++ x ∷ [])
one_more T F G H xs x before last face members = record {
  folds = folds_more T F.forest G.forest H.forest xs x before.folds last;
  face = face ∙ before.face;
  members = λ hs s h. members hs s (before.members hs s h);
}

-- Where no member leaks, by the boxes of the table, no member of the forest after the folds does: a member of the one
-- is one of the other, of which all leak or none does.
pub never_leaks : (T : Boxes) (F G : SoundForest) (xs : List FoldStep) → IsBoxTable T → AreRankedInsides T.defs
    → NeverLeaks T.face G.forest ⊎ AlwaysLeaks T.face G.forest → HasMembers T.face F.forest → IsFoldedSoFar T F G xs
    → DoesNoneLeak T.face T.defs F.forest → NeverLeaks T.face G.forest
never_leaks T F G xs table insides (inl never) some made none = never
never_leaks T F G xs table insides (inr always) some made none =
    let m = some T.defs table insides in
    absurd (none m.0 m.1 (always T.defs table m.0 (made.members T.face.shapes.structs m.0 m.1)))

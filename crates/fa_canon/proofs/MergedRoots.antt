-- A root merged: fewer roots, no new box edges, and the same cells.
use Rattle.std.proofs.Common.{ℕ, ◌≡◌, ◌<◌, length, refl, sym, subst, ◌∙◌, arith}
use Rattle.std.proofs.lemmas.List.{length-set}
use Rattle.fore_base.specs.Lists.{Every}
use Rattle.fore_base.proofs.ListLemmas.{paired_long}
use Rattle.ta_core.specs.Auto.{IsRanked}
use Rattle.ta_core.specs.Language.{HasSameLanguage}
use Rattle.fa_core.specs.Boxless.{HasNoBoxes}
use Rattle.fa_core.specs.Filled.{IsSound}
use Rattle.fa_core.specs.declared.faces.Face.{Face}
use Rattle.fa_core.specs.declared.forest.Forest.{Forest}
use Rattle.fa_core.proofs.Composed.{regroups_on, regroups_same}
use Rattle.fa_merge.specs.Merged.{CanMerge, IsMergedExactly, IsMergedInto, merged, merged_at, to_last}
use Rattle.fa_merge.proofs.LoneFound.{lone_refers}
use Rattle.fa_merge.proofs.MergedAnywhere.{new, others_new, last_new, size_is}
use Rattle.fa_merge.proofs.MergedSound.{merged_plain}
use Rattle.fa_sound.specs.Soundness.{SoundForest}
use Rattle.fa_canon.specs.inner.Merges.{IsRegrouped}

module _ (face : Face) (F G : Forest) (r : ℕ) (sound : IsSound face F) (ranked : Every IsRanked F.autos)
    (can : CanMerge F r) where
  -- where there are no box edges, the forest with the root merged has none
  pub no_boxes : Every HasNoBoxes F.autos → IsMergedExactly F r G → Every HasNoBoxes G.autos
  no_boxes plain is = let h = lone_refers face F r is.0 sound ranked can is.1 in
      subst (λ (z : Forest). Every HasNoBoxes z.autos) (sym is.2) (merged_plain face F r is.0 h sound plain)

  -- it has fewer roots
  pub fewer_roots : IsMergedInto F r G → length G.autos < length F.autos
  fewer_roots is =
      let h = lone_refers face F r is.0 sound ranked can is.1 in
      let R = length (others_new F r is.0 h) in
      let e : length (merged_at r is.0 F).autos ≡ length G.autos =
      paired_long HasSameLanguage (merged_at r is.0 F).autos G.autos is.2.autos in
      let a : length (merged_at r is.0 F).autos ≡ R =
      length-set (others_new F r is.0 h) (to_last (length F.autos) r is.0)
      (merged R (new F r is.0 h is.0) (new F r is.0 h r)) in
      let b : to_last (length F.autos) r r ≡ R = last_new F r is.0 h in
      let c = size_is F r is.0 h in
      omega (arith, e, a, b, c)

-- each forest is regrouped with itself, and what is regrouped twice is regrouped
pub regrouped_same : (F : SoundForest) → IsRegrouped F F
regrouped_same F = record {
  plain = λ p. p;
  face = refl;
  vars = refl;
  data_vars = refl;
  regroups = λ T. regroups_same T F.forest;
  whole = λ T. regroups_same T F.forest;
}

pub regrouped_on : (F G H : SoundForest) → IsRegrouped F G → IsRegrouped G H → IsRegrouped F H
regrouped_on F G H a b = record {
  plain = λ p. b.plain (a.plain p);
  face = b.face ∙ a.face;
  vars = b.vars ∙ a.vars;
  data_vars = b.data_vars ∙ a.data_vars;
  regroups = λ T. regroups_on T F.forest G.forest H.forest (a.regroups T) (b.regroups T);
  whole = λ T. regroups_on T H.forest G.forest F.forest (b.whole T) (a.whole T);
}

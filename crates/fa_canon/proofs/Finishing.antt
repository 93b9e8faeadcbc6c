-- From the steps to canonical forests.
use Rattle.std.proofs.Common.{◌≡◌, inl, ℕ, length, List, [], ◌∷◌, refl, sym, ap, subst, arith}
use Rattle.fore_base.specs.Lists.{Every, Paired}
use Rattle.fore_base.proofs.ListLemmas.{in_mapped}
use Rattle.ta_core.specs.Auto.{Automaton, IsRanked}
use Rattle.ta_core.specs.Language.{HasSameLanguage, IsWithin}
use Rattle.fa_core.specs.Boxless.{HasNoBoxes}
use Rattle.fa_core.specs.Covering.{Covers}
use Rattle.fa_core.specs.Dressed.{cells}
use Rattle.fa_core.specs.Filled.{IsFilled, IsSound}
use Rattle.fa_core.specs.Member.{OfForest, Regroups, Regrouping}
use Rattle.fa_core.specs.declared.boxes.BoxDef.{BoxDef}
use Rattle.fa_core.specs.declared.faces.Face.{Face}
use Rattle.fa_core.specs.declared.forest.Forest.{Forest}
use Rattle.fa_core.proofs.Composed.{within_trees}
use Rattle.fa_core.proofs.Rearranging.{same}
use Rattle.fa_core.proofs.Regrouped.{members_regrouped, members_split}
use Rattle.fa_sound.specs.Soundness.{SoundForest}
use Rattle.fa_back.proofs.Dressable.{some_choice}
use Rattle.fa_merge.specs.Reached.{AreAllReached}
use Rattle.fa_merge.proofs.Named.{var_below}
use Rattle.fa_merge.proofs.ReachedKept.{reached_kept}
use Rattle.fa_sound.specs.Unions.{IsUnionOf, forests}
use Rattle.fa_order.specs.Kinds.{HasRootKinds}
use Rattle.fa_order.specs.Placing.{DoEdgesGive}
use Rattle.fa_canon.specs.Canonized.{IsSameAlone}
use Rattle.fa_canon.specs.inner.Cutting.{IsCutting}
use Rattle.fa_canon.specs.inner.Finished.{CanFinish}
use Rattle.fa_canon.specs.inner.Knots.{IsReady}
use Rattle.fa_canon.specs.inner.Merges.{IsRegrouped, NoneMerges}
use Rattle.fa_canon.specs.inner.Steps.{HasChosen, IsPiece, IsSplitEach}
use Rattle.fa_canon.proofs.CutForests.{cut_kinds, cut_untied, start_cutting, within_cutting}
use Rattle.fa_canon.proofs.Settled.{settled}
use Rattle.fa_canon.proofs.SplitSteps.{all_tops, covers_long}
use Rattle.fa_canon.proofs.Splits.{gives_on, only_one}

abbrev the_forest : SoundForest → Forest
the_forest s = s.forest

-- what is covered is regrouped
pub covered_regroups : (F G : Forest) → Covers F G → (T : List BoxDef) → Regroups T F G
covered_regroups F G h T d o = (
  d,
  record {
    of = within_trees T G.autos F.autos h.within d o;
    same_cells = same (cells d);
    vars = rw h.vars refl;
    data_vars = h.data_vars;
  },
)

-- what each root of which is reached is regrouped into has each root reached
pub reached_on : (F G : SoundForest) → IsSound F.face F.forest → IsSound G.face G.forest
    → Every IsRanked G.forest.autos → DoEdgesGive F.face F.forest → IsPiece F G → AreAllReached F.face F.forest
    → AreAllReached G.face G.forest
reached_on F G sound sound_new ranked gives piece all =
    subst (λ (x : Face). AreAllReached x G.forest) (sym piece.face)
    (reached_kept F.face F.forest G.forest gives sound.well_formed.filled
    (subst (λ (x : Face). IsFilled x G.forest) piece.face sound_new.well_formed.filled) ranked piece.regroups all)

-- Where no root can be merged, and one rule is chosen at each.
pub ready_start : (n : ℕ) (M C : SoundForest) → n ≡ length M.forest.autos → IsSound M.face M.forest
    → NoneMerges M.forest → DoEdgesGive M.face M.forest → IsPiece M C → HasChosen (length M.forest.autos) M C
    → IsReady n 0 0 C
ready_start n M C e sound none gives piece chosen =
    let long : length C.forest.autos ≡ length M.forest.autos = covers_long M.forest C.forest chosen.0 in
    let c = some_choice M.forest.autos sound.full in
    let start : IsCutting (length M.forest.autos) 0 0 M.forest =
    start_cutting M.forest (λ k i. var_below M.face M.forest sound.well_formed.filled c.0 c.1 k i)
    (settled M.face M.forest sound none) in (
      gives_on M C piece gives,
      all_tops C.forest.autos (λ k l. chosen.1 k (omega (arith, l, long))),
      subst (λ (m : ℕ). IsCutting m 0 0 C.forest) (sym e)
          (within_cutting (length M.forest.autos) 0 0 M.forest C.forest chosen.0 long start),
    )

-- Each root is reached, and what is left has the kinds of roots.
pub can_reach : (n : ℕ) (F : SoundForest) → IsSound F.face F.forest → Every IsRanked F.forest.autos → CanFinish n F
    → AreAllReached F.face F.forest
can_reach n F sound ranked can =
    let s = can.1 in reached_on s.from F s.sound sound ranked s.gives s.piece s.reached

pub root_kinds : (n : ℕ) (F : SoundForest) → IsSound F.face F.forest → Every IsRanked F.forest.autos → CanFinish n F
    → HasRootKinds F.face F.forest
root_kinds n F sound ranked can = record {
  tops = can.0.1;
  kinds = cut_kinds F.face n F.forest can.0.2 (can_reach n F sound ranked can);
  untied = cut_untied F.face n F.forest can.0.2;
}

-- Languages covered both ways are the same.
both_ways : (xs ys : List Automaton) → Paired IsWithin xs ys → Paired IsWithin ys xs → Paired HasSameLanguage xs ys
both_ways [] [] p q = tt
both_ways [] (y ∷ ys) p q = absurd p
both_ways (x ∷ xs) [] p q = absurd p
both_ways (x ∷ xs) (y ∷ ys) p q = ((λ t. (p.0 t, q.0 t)), both_ways xs ys p.1 q.1)

pub same_alone : (F G : Forest) → Covers F G → Covers G F → IsSameAlone F (G ∷ [])
same_alone F G a b = (G, refl, (a.vars, a.data_vars), both_ways F.autos G.autos b.within a.within)

-- The union of the pieces.
pub union_of : (R : SoundForest → SoundForest → Type 0) (F : SoundForest) (Gs : List SoundForest)
    → IsSplitEach R (F ∷ []) Gs → IsUnionOf F.forest (forests Gs)
union_of R F Gs w hs T s = (
  members_split hs T F.forest (forests Gs) (w.whole F (inl refl) T) s,
  λ h. (let k = in_mapped the_forest h.0 Gs h.1 in
      let p = w.each k.0 k.1 in
      let r : Regroups T F.forest h.0 =
      subst (λ (z : Forest). Regroups T F.forest z) (sym k.2)
      (subst (λ (z : SoundForest). Regroups T z.forest k.0.forest) (only_one p.0 F p.1) (p.2.regroups T)) in
      members_regrouped hs T F.forest h.0 r s h.2),
)

-- a forest regrouped both ways, as a step
pub piece_of : (F G : SoundForest) → IsRegrouped F G → IsPiece F G
piece_of F G w =
    record { plain = w.plain; face = w.face; vars = w.vars; data_vars = w.data_vars; regroups = w.regroups }

pub regrouped_step : (R : SoundForest → SoundForest → Type 0) (F G : SoundForest) → IsRegrouped F G → R F G
    → IsSplitEach R (F ∷ []) (G ∷ [])
regrouped_step R F G w r = record {
  each =
      λ H i. (
        F,
        inl refl,
        subst (λ (z : SoundForest). IsPiece F z) (sym (only_one H G i)) (piece_of F G w),
        subst (λ (z : SoundForest). R F z) (sym (only_one H G i)) r,
      );
  whole =
      λ H i T d h.
      (let e = only_one H F i in let k = w.whole T d (subst (λ (z : SoundForest). OfForest T z.forest d) e h) in
      (G.forest, inl refl, (k.0, subst (λ (z : SoundForest). Regrouping T G.forest z.forest d k.0) (sym e) k.1)));
}

-- both ways covered is both ways regrouped
pub covered_both : (F G : SoundForest) → G.face ≡ F.face
    → (Every HasNoBoxes F.forest.autos → Every HasNoBoxes G.forest.autos) → Covers F.forest G.forest
    → Covers G.forest F.forest → IsRegrouped F G
covered_both F G f p a b = record {
  plain = p;
  face = f;
  vars = ap length a.vars;
  data_vars = a.data_vars;
  regroups = covered_regroups F.forest G.forest a;
  whole = covered_regroups G.forest F.forest b;
}

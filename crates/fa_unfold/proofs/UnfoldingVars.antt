-- The forests in which a box edge is replaced have the targets and data of the first one.
use Rattle.std.proofs.Common.{◌≡◌, inl, inr, ℕ, Bool, true, false, if◌then◌else◌, length, List, [], ◌∷◌, map, refl, sym}
use Rattle.std.proofs.Common.{subst}
use Rattle.fore_base.specs.Lists.{IsIn}
use Rattle.fore_base.proofs.ListLemmas.{in_mapped}
use Rattle.ta_core.specs.Auto.{Automaton}
use Rattle.ta_core.specs.declared.auto.Rule.{Rule}
use Rattle.fa_core.specs.declared.faces.BoxFace.{BoxFace}
use Rattle.fa_core.specs.declared.forest.Forest.{Forest}
use Rattle.fa_core.specs.declared.forest.Target.{Target}
use Rattle.fa_core.specs.declared.forest.Target.TheVariants.{Null, Uninit, Dangling, At}
use Rattle.fa_core.specs.Placed.{placed_auto}
use Rattle.fa_back.proofs.RootMarks.{flat_in}
use Rattle.fa_split.specs.Divided.{HasVarsOf}
use Rattle.fa_unfold.specs.Outside.{outside, outside_hook}
use Rattle.fa_unfold.specs.Unfolding.{Tops, open_root, grow_root, grown_roots, end_rules, have_no_slots, with_end}
use Rattle.fa_unfold.specs.Unfolding.{with_inner, link_unfoldings, hook_unfoldings}

same_vars : (H G : Forest) → G ≡ H → HasVarsOf H G
same_vars H G e = subst (HasVarsOf H) (sym e) (refl, refl)

module _ (bs : List BoxFace) (i : ℕ) (ends : List Rule) (b : Automaton) (outs : List Rule) where
  end_vars : (H : Forest) (y : Target) (G : Forest) → IsIn G (with_end bs H i y ends b outs) → HasVarsOf H G
  end_vars H Null G (inl e) = same_vars H G e
  end_vars H Null G (inr n) = absurd n
  end_vars H Uninit G (inl e) = same_vars H G e
  end_vars H Uninit G (inr n) = absurd n
  end_vars H Dangling G (inl e) = same_vars H G e
  end_vars H Dangling G (inr n) = absurd n
  end_vars H (At j) G m = here (have_no_slots outs) m
    where
      here : (v : Bool) → IsIn G (if v then H ∷ [] else grown_roots bs H j (end_rules H i j ends) b outs)
          → HasVarsOf H G
      here true (inl e) = same_vars H G e
      here true (inr n) = absurd n
      here false m =
          let w = flat_in (λ (w : Rule). map (grow_root bs H j b w) outs) (end_rules H i j ends) G m in
          let o = in_mapped (grow_root bs H j b w.0) G outs w.2 in
          subst (HasVarsOf H) (sym o.2) (refl, refl)

module _ (bs : List BoxFace) (F : Forest) (i p : ℕ) where
  pub link_vars : (y : Target) (input output : Automaton) (inner : List Automaton) (tops : Tops) (G : Forest)
      → IsIn G (link_unfoldings bs F i p y input output inner tops) → HasVarsOf F G
  link_vars y input output inner tops G m =
      let f : ℕ → Target = outside i y (length F.autos) in
      let z = flat_in (λ (z : Rule). map (with_inner (map (placed_auto f) inner))
      (with_end bs (open_root bs F i p (placed_auto f input) z) i y tops.ends (placed_auto f output) tops.outs))
      tops.ins G m in
      let o = in_mapped (with_inner (map (placed_auto f) inner)) G
      (with_end bs (open_root bs F i p (placed_auto f input) z.0) i y tops.ends (placed_auto f output) tops.outs) z.2
      in
      let h = end_vars bs i tops.ends (placed_auto f output) tops.outs (open_root bs F i p (placed_auto f input) z.0) y
      o.0 o.1 in
      subst (HasVarsOf F) (sym o.2) (h.0, h.1)

  pub hook_vars : (input : Automaton) (inner : List Automaton) (ins : List Rule) (G : Forest)
      → IsIn G (hook_unfoldings bs F i p input inner ins) → HasVarsOf F G
  hook_vars input inner ins G m =
      let f : ℕ → Target = outside_hook i (length F.autos) in
      let z = in_mapped (λ (z : Rule). with_inner (map (placed_auto f) inner)
      (open_root bs F i p (placed_auto f input) z)) G ins m in
      subst (HasVarsOf F) (sym z.2) (refl, refl)

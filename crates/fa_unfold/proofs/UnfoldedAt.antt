-- Forests in which a box edge, whose end is one leaf, is replaced, cut by signatures.
use Rattle.std.proofs.Common.{◌≡◌, ℕ, List, sym, subst, ◌∙◌}
use Rattle.fore_base.specs.Lists.{IsIn, Every}
use Rattle.fore_base.proofs.ListLemmas.{every_weaker}
use Rattle.fa_core.specs.declared.forest.Forest.{Forest}
use Rattle.fa_core.specs.declared.forest.Target.{Target}
use Rattle.fa_core.specs.declared.faces.Face.{Face}
use Rattle.fa_core.specs.Boxes.{Boxes, IsBoxTable}
use Rattle.fa_core.specs.Filled.{IsFilled, IsSound}
use Rattle.fa_back.specs.Insides.{AreRankedInsides}
use Rattle.fa_sound.specs.Soundness.{SoundForest, IsSigned}
use Rattle.fa_sound.specs.Unions.{forests}
use Rattle.fa_split.specs.Divided.{HasVarsOf}
use Rattle.fa_split.proofs.SplitCells.{refers_well, all_below}
use Rattle.fa_unfold.specs.Sites.{IsHookAt, IsLinkAt, IsOver}
use Rattle.fa_unfold.specs.Unfold.{AreLinkUnfoldings, AreHookUnfoldings, IsLinkUnfolding, IsHookUnfolding}
use Rattle.fa_unfold.specs.Unfolded.{UnfoldsFrom, UnfoldsInto}
use Rattle.fa_unfold.specs.inner.Cuts.{IsCutOf, HasCuts, IsUnfoldedAt, IsUnfoldedHook, IsUnfoldedLink}
use Rattle.fa_unfold.proofs.CutLists.{cut_from, cut_into}
use Rattle.fa_unfold.proofs.FilledForests.{links_filled, hooks_filled}
use Rattle.fa_unfold.proofs.HookUnfoldings.{hook_from, hook_into}
use Rattle.fa_unfold.proofs.LinkUnfoldings.{link_from, link_into}
use Rattle.fa_unfold.proofs.TableInsides.{ranked_inside, output_dressed, vars_there}
use Rattle.fa_unfold.proofs.UnfoldingVars.{link_vars, hook_vars}

-- a sound forest over the face of a table
pub over_of : (t : Boxes) (s : SoundForest) → t.face ≡ s.face → IsSigned s → IsBoxTable t → AreRankedInsides t.defs
    → IsOver t s.forest
over_of t s e k table insides = record {
  table = table;
  insides = insides;
  sound = subst (λ (f : Face). IsSound f s.forest) (sym e) k.sound;
  ranked = k.ranked;
}

module _ (t : Boxes) (F : Forest) (over : IsOver t F) (i p : ℕ) where
  -- a part of one of the forests
  part_of : (By : Forest → Type 0) (Gs : List Forest) (s : SoundForest) (c : IsCutOf t.face Gs s) → By c.whole
      → UnfoldsFrom t.defs F i p c.whole → HasVarsOf F c.whole → IsUnfoldedAt t F i p By s
  part_of By Gs s c by from vars = record {
    opened = c.whole;
    by = by;
    parts = c.cut;
    face_kept = c.face_is;
    vars_kept = (c.cut.vars ∙ vars.0, c.cut.data_vars ∙ vars.1);
    from = cut_from t.defs F i p c.whole s.forest from (c.regroups t.defs);
  }

  module _ (b : ℕ) (y : Target) (at : IsLinkAt F i p b y) (Gs : List Forest)
      (are : AreLinkUnfoldings t F i p b y Gs) where
    pub link_filled : Every (IsFilled t.face) Gs
    link_filled = subst (Every (IsFilled t.face)) (sym are.all)
        (links_filled t F over i p b y are.input are.output are.inner are.tops at are.is are.are)

    from_one : (G : Forest) → IsIn G Gs → UnfoldsFrom t.defs F i p G
    from_one G k =
        let w = refers_well t.face F over.sound in
        let r = ranked_inside t.defs b _ over.insides are.is in
        link_from t.face.boxes t.defs F over.ranked (λ d h. all_below t.defs F d w h) (vars_there F w) i p at.root
        at.top b at.state at.slot y at.run at.only at.end are.input are.output are.inner r.0 r.1.0 are.is
        (output_dressed t over.table over.insides b are.input are.output are.inner are.is) are.tops are.are G
        (subst (IsIn G) are.all k)

    pub link_parts : (ss : List SoundForest) → Every (IsCutOf t.face Gs) ss → Every (IsUnfoldedLink t F i p) ss
    link_parts ss h = every_weaker (IsCutOf t.face Gs) (IsUnfoldedLink t F i p) ss
        (λ s c.
        part_of (IsLinkUnfolding t F i p) Gs s c
        (record { box = b; end = y; list = Gs; at = at; are = are; one = c.there })
        (from_one c.whole c.there)
        (link_vars t.face.boxes F i p y are.input are.output are.inner are.tops c.whole
        (subst (IsIn c.whole) are.all c.there))) h

    pub link_whole : (ss : List SoundForest) → ((G : Forest) → IsIn G Gs → HasCuts G ss)
        → UnfoldsInto t.defs F i p (forests ss)
    link_whole ss h =
        let w = refers_well t.face F over.sound in
        let r = ranked_inside t.defs b _ over.insides are.is in
        cut_into t.defs F i p Gs (forests ss)
        (subst (UnfoldsInto t.defs F i p) (sym are.all)
        (link_into t.face.boxes t.defs F over.ranked (λ d h. all_below t.defs F d w h) (vars_there F w) i p at.root
        at.top b at.state at.slot y at.run at.only at.end are.input are.output are.inner r.0 r.1.0 are.is
        (output_dressed t over.table over.insides b are.input are.output are.inner are.is) are.tops are.are))
        (λ G k. h G k t.defs)

  module _ (b : ℕ) (at : IsHookAt F i p b) (Gs : List Forest) (are : AreHookUnfoldings t F i p b Gs) where
    pub hook_filled : Every (IsFilled t.face) Gs
    hook_filled = subst (Every (IsFilled t.face)) (sym are.all)
        (hooks_filled t F over i p b are.input are.inner are.ins at are.is are.are)

    hook_one : (G : Forest) → IsIn G Gs → UnfoldsFrom t.defs F i p G
    hook_one G k =
        let w = refers_well t.face F over.sound in
        let r = ranked_inside t.defs b _ over.insides are.is in
        hook_from t.face.boxes t.defs F over.ranked (λ d h. all_below t.defs F d w h) (vars_there F w) i p at.root
        at.top b at.slot are.input are.inner r.0 are.is are.ins are.are G (subst (IsIn G) are.all k)

    pub hook_parts : (ss : List SoundForest) → Every (IsCutOf t.face Gs) ss → Every (IsUnfoldedHook t F i p) ss
    hook_parts ss h = every_weaker (IsCutOf t.face Gs) (IsUnfoldedHook t F i p) ss
        (λ s c.
        part_of (IsHookUnfolding t F i p) Gs s c
        (record { box = b; list = Gs; at = at; are = are; one = c.there })
        (hook_one c.whole c.there)
        (hook_vars t.face.boxes F i p are.input are.inner are.ins c.whole (subst (IsIn c.whole) are.all c.there))) h

    pub hook_whole : (ss : List SoundForest) → ((G : Forest) → IsIn G Gs → HasCuts G ss)
        → UnfoldsInto t.defs F i p (forests ss)
    hook_whole ss h =
        let w = refers_well t.face F over.sound in
        let r = ranked_inside t.defs b _ over.insides are.is in
        cut_into t.defs F i p Gs (forests ss)
        (subst (UnfoldsInto t.defs F i p) (sym are.all)
        (hook_into t.face.boxes t.defs F over.ranked (λ d h. all_below t.defs F d w h) (vars_there F w) i p at.root
        at.top b at.slot are.input are.inner r.0 are.is are.ins are.are))
        (λ G k. h G k t.defs)

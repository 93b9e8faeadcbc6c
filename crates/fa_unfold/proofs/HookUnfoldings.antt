-- The forests in which a Hook is replaced have together the dressed forests with that Hook replaced.
use Rattle.std.proofs.Common.{◌≡◌, ℕ, ◌<◌, length, List}
use Rattle.std.proofs.Common.{[], ◌∷◌, map, refl, sym, ap, ap₂, subst, ◌∙◌, Some, slice_get}
use Rattle.std.proofs.lemmas.Option.{same_Some}
use Rattle.fore_base.specs.Lists.{IsIn, Every}
use Rattle.fore_base.specs.declared.store.Datum.{Datum}
use Rattle.fore_base.specs.declared.store.Value.{Value}
use Rattle.fore_base.proofs.ListLemmas.{in_map, in_mapped}
use Rattle.ta_core.specs.Auto.{Automaton, IsRanked}
use Rattle.ta_core.specs.Language.{RunOf}
use Rattle.ta_core.specs.Single.{HasOneTop}
use Rattle.ta_core.specs.declared.auto.Rule.{Rule}
use Rattle.ta_core.specs.declared.symbol.Slot.TheVariants.{Hook}
use Rattle.fa_core.specs.declared.boxes.BoxDef.{BoxDef}
use Rattle.fa_core.specs.declared.faces.BoxFace.{BoxFace}
use Rattle.fa_core.specs.declared.forest.Forest.{Forest}
use Rattle.fa_core.specs.declared.forest.Target.{Target}
use Rattle.fa_core.specs.Choices.{count}
use Rattle.fa_core.specs.Dressed.{Parts, Nodes, node, no_nodes, more}
use Rattle.fa_core.specs.Dressed.{value_in, roots_of, all_refs, SeenHook}
use Rattle.fa_core.specs.Filled.{IsRoot}
use Rattle.fa_core.specs.Member.{OfForest, TreesOf, inside_of}
use Rattle.fa_core.specs.Placed.{placed_parts, placed_all, placed_auto}
use Rattle.fa_core.specs.References.{AllBelow}
use Rattle.fa_core.proofs.Placing.{placed_ranked, insides_placed}
use Rattle.fa_sound.specs.Components.{component_at}
use Rattle.fa_split.specs.Split.{top_rule}
use Rattle.fa_merge.proofs.OtherOrders.{count_trees}
use Rattle.fa_split.proofs.ChosenForests.{picked_each, picked_all}
use Rattle.fa_unfold.specs.Opens.{HasSlot}
use Rattle.fa_unfold.specs.Outside.{outside_hook}
use Rattle.fa_unfold.specs.Parts.{HookPart}
use Rattle.fa_unfold.specs.Slots.{rule_places}
use Rattle.fa_unfold.specs.Unfolded.{Unfolded, UnfoldsFrom, UnfoldsInto}
use Rattle.fa_unfold.specs.Unfolding.{IsTop, AreHookTops, open_root}
use Rattle.fa_unfold.specs.Unfolding.{with_inner, hook_unfoldings}
use Rattle.fa_unfold.specs.inner.Trees.{unlisted, joined_parts, parts_without, at_root, with_all}
use Rattle.fa_unfold.specs.inner.Trees.{hook_opened}
use Rattle.fa_unfold.proofs.EdgeParts.{vars_stay, is_hook}
use Rattle.fa_unfold.proofs.OpenedRoots.{HasPart, part_there, opened_from, opened_to}
use Rattle.fa_unfold.proofs.OpenedRoots.{inner_to, inner_from}
use Rattle.fa_unfold.proofs.OpenedTrees.{opens_hook, hook_roots}
use Rattle.fa_unfold.proofs.PortTrees.{PartInside, insides_listed, port_from, port_to}

-- the steps of replacing a Hook, one after the other
hook_is : (bs : List BoxFace) (i p n : ℕ) (ps : Parts) (ns d : Nodes) (os : Parts) (d1 e : Nodes) → count d ≡ n
    → placed_parts (outside_hook i n) ps ≡ os
    → at_root (λ xs. joined_parts bs xs os) i (at_root (parts_without p) i d) ≡ d1
    → with_all d1 (placed_all (outside_hook i n) ns) ≡ e → hook_opened bs i p ps ns d ≡ e
hook_is bs i p n ps ns d os d1 e c o first last =
    let f = outside_hook i n in
    let one : hook_opened bs i p ps ns d
    ≡ with_all (at_root (λ xs. joined_parts bs xs (placed_parts f ps)) i (at_root (parts_without p) i d))
    (placed_all f ns) =
    ap (λ (u : ℕ). with_all
    (at_root (λ xs. joined_parts bs xs (placed_parts (outside_hook i u) ps)) i (at_root (parts_without p) i d))
    (placed_all (outside_hook i u) ns)) c in
    let two = ap (λ (v : Parts). with_all
    (at_root (λ xs. joined_parts bs xs v) i (at_root (parts_without p) i d)) (placed_all f ns)) o in
    let three = ap (λ (v : Nodes). with_all v (placed_all f ns)) first in
    one ∙ two ∙ three ∙ last

module _ (bs : List BoxFace) (T : List BoxDef) (F : Forest) (ranked : Every IsRanked F.autos)
    (below : (d : Nodes) → OfForest T F d → AllBelow (count d) (all_refs d))
    (vars : Every (IsRoot (length F.autos)) F.vars) (i p : ℕ) (there : i < length F.autos)
    (one : HasOneTop (component_at F.autos i)) (b : ℕ) where
  abbrev n : ℕ
  n = length F.autos

  abbrev a : Automaton
  a = component_at F.autos i

  long : (d : Nodes) → OfForest T F d → count d ≡ n
  long d h = count_trees T F.autos d h

  -- A Hook.

  module _ (slot : slice_get (rule_places (top_rule a)) p ≡ Some (Hook b, [])) (input : Automaton)
      (inner : List Automaton) (in_right : IsRanked input) (is : inside_of T b ≡ Some (input ∷ inner))
      (ins : List Rule) (are : AreHookTops F i input ins) where
    abbrev f : ℕ → Target
    f = outside_hook i n

    abbrev first : Automaton
    first = placed_auto f input

    first_right : IsRanked first
    first_right = placed_ranked f input in_right

    rule_in : (z : Rule) → IsIn z ins → IsIn z first.rules
    rule_in z k = (picked_each (IsTop first) are z k).0

    rule_top : (z : Rule) → IsIn z ins → IsTop first z
    rule_top z k = (picked_each (IsTop first) are z k).1

    abbrev made : Rule → Forest
    made z = with_inner (map (placed_auto f) inner) (open_root bs F i p first z)

    hook_unfolded : (G : Forest) → G.vars ≡ F.vars → G.data_vars ≡ F.data_vars → (d : Nodes) → OfForest T F d
        → (c0 s0 : ℕ) (ds0 : List Datum) (ps : Parts) (ns : Nodes)
        → HasPart d i p (HookPart b (more (node c0 s0 ds0 ps) ns)) → Unfolded F G i p d (hook_opened bs i p ps ns d)
    hook_unfolded G v w d h c0 s0 ds0 ps ns x =
        let inside : Nodes = more (node c0 s0 ds0 ps) ns in
        record {
          edge = HasSlot x.cell (SeenHook b inside);
          at = record {
            cell = x.cell;
            shape = x.shape;
            datums = x.datums;
            parts = x.parts;
            part = HookPart b inside;
            at = x.at;
            has = x.has;
            edge = tt;
            is = refl;
          };
          opens = opens_hook bs d i p x.cell x.shape x.datums x.parts x.at (below d h) b c0 s0 ds0 ps ns x.has;
          vars = vars_stay d (roots_of ns) F.vars
              (subst (λ (m : ℕ). Every (IsRoot m) F.vars) (sym (long d h)) vars)
              ∙ ap₂ (λ (us : List Value) (ts : List Target). map (value_in us) ts)
              (sym (hook_roots bs d i p x.cell x.shape x.datums x.parts x.at (below d h) b c0 s0 ds0 ps ns)) (sym v);
          data_vars = sym w;
        }

    -- a dressed forest of the list: the one of F, with the Hook and its inside, and what replaces it
    pub record IsReplacedHook (G : Forest) (e : Nodes) : Type 0 where
      pub same_vars : G.vars ≡ F.vars
      pub same_data : G.data_vars ≡ F.data_vars
      pub base : Nodes
      pub of_base : OfForest T F base
      pub c0 : ℕ
      pub s0 : ℕ
      pub ds0 : List Datum
      pub ps : Parts
      pub ns : Nodes
      pub part : HasPart base i p (HookPart b (more (node c0 s0 ds0 ps) ns))
      pub trees : TreesOf T (input ∷ inner) (more (node c0 s0 ds0 ps) ns)
      pub opened : hook_opened bs i p ps ns base ≡ e

    pub replaced_hook : (G : Forest) → IsIn G (hook_unfoldings bs F i p input inner ins) → (e : Nodes)
        → OfForest T G e → IsReplacedHook G e
    replaced_hook G k e h =
        let m = in_mapped made G ins k in
        let v = inner_from T f inner (open_root bs F i p first m.0) e (subst (λ (x : Forest). OfForest T x e) m.2 h) in
        let x = opened_from bs T F ranked i p there one (Hook b, []) slot first first_right m.0 (rule_in m.0 m.1) v.0
        v.3 in
        let w = port_from f T input in_right m.0 x.gained (rule_in m.0 m.1) (rule_top m.0 m.1) x.more x.outer in
        let inside : Nodes = more (node w.cell w.shape w.datums w.parts) v.1 in
        let cl = x.closed (HookPart b inside) (refl, refl) (input ∷ inner, is, (w.tree, w.insides, v.4)) in
        record {
          same_vars = ap (λ (x : Forest). x.vars) m.2;
          same_data = ap (λ (x : Forest). x.data_vars) m.2;
          base = cl.before;
          of_base = cl.of;
          c0 = w.cell;
          s0 = w.shape;
          ds0 = w.datums;
          ps = w.parts;
          ns = v.1;
          part = cl.part;
          trees = (w.tree, w.insides, v.4);
          opened = hook_is bs i p n w.parts v.1 cl.before (unlisted x.gained) v.0 e (long cl.before cl.of) w.is
              cl.opened
              v.2;
        }

    -- each dressed forest of the list is one of F with the Hook replaced
    pub hook_from : (G : Forest) → IsIn G (hook_unfoldings bs F i p input inner ins) → UnfoldsFrom T F i p G
    hook_from G k e h =
        let r = replaced_hook G k e h in
        let g = hook_unfolded G r.same_vars r.same_data r.base r.of_base r.c0 r.s0 r.ds0 r.ps r.ns r.part in
        (r.base, r.of_base, subst (λ (d : Nodes). Unfolded F G i p r.base d) r.opened g)

    abbrev IntoHook : Nodes → Type 0
    IntoHook d = (G : Forest) × IsIn G (hook_unfoldings bs F i p input inner ins)
        × ((e : Nodes) × OfForest T G e × Unfolded F G i p d e)

    -- each dressed forest of F is, with the Hook replaced, one of some forest of the list
    pub hook_into : UnfoldsInto T F i p (hook_unfoldings bs F i p input inner ins)
    hook_into d h =
        let x = part_there bs T F ranked i p there one (Hook b, []) slot d h in
        let k = is_hook (RunOf a.rules) b x.0 x.2 in
        let u = subst (PartInside T) k.1 x.3 in
        opened k.0 (subst (HasPart d i p) k.1 x.1)
        (subst (λ (v : List Automaton). TreesOf T v k.0) (same_Some u.0 (input ∷ inner) (sym u.1 ∙ is)) u.2)
      where
        opened : (inside : Nodes) → HasPart d i p (HookPart b inside) → TreesOf T (input ∷ inner) inside → IntoHook d
        opened no_nodes x u = absurd u
        opened (more (node c0 s0 ds0 ps) ns) x u =
            let z = port_to f T input in_right c0 s0 ds0 ps u.0 in
            let k0 : IsIn z.0 ins = picked_all (IsTop first) are z.0 z.1 z.2 in
            let o = opened_to bs T F ranked i p there one (Hook b, []) slot first first_right z.0 z.1
            d h x.cell x.shape x.datums x.parts x.at (placed_parts f ps) z.3
            (insides_listed T (placed_parts f ps) (insides_placed f T (node c0 s0 ds0 ps) u.1)) in
            let D : ℕ → Nodes = λ w. with_all
            (at_root (λ os. joined_parts bs os (placed_parts (outside_hook i w) ps)) i (at_root (parts_without p) i d))
            (placed_all (outside_hook i w) ns) in (
              made z.0,
              in_map made z.0 ins k0,
              (
                hook_opened bs i p ps ns d,
                subst (λ (w : ℕ). OfForest T (made z.0) (D w)) (sym (long d h))
                    (inner_to T f inner (open_root bs F i p first z.0)
                    (at_root (λ os. joined_parts bs os (placed_parts f ps)) i (at_root (parts_without p) i d)) ns o
                    u.2),
                hook_unfolded (made z.0) refl refl d h c0 s0 ds0 ps ns x,
              ),
            )

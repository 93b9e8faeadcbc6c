-- The forests in which a Link is replaced have together the dressed forests with that Link replaced.
use Rattle.std.proofs.Common.{◌≢◌, nat_eq, true≢false}
use Rattle.std.proofs.lemmas.Bool.{eq-eqb, eqb-true}
use Rattle.std.proofs.Common.{◌≡◌, ℕ, ◌<◌, Bool, true, false, if◌then◌else◌, length, List}
use Rattle.std.proofs.Common.{[], ◌∷◌, map, refl, inl, inr, sym, ap, ap₂, subst, ◌∙◌, Some, slice_get}
use Rattle.std.proofs.Common.{length-set}
use Rattle.std.proofs.lemmas.Option.{same_Some}
use Rattle.fore_base.specs.Lists.{IsIn, Every}
use Rattle.fore_base.specs.declared.store.Datum.{Datum}
use Rattle.fore_base.specs.declared.store.Value.{Value}
use Rattle.fore_base.proofs.ListLemmas.{every_set, in_map, in_mapped}
use Rattle.ta_core.specs.Auto.{Automaton, IsRanked}
use Rattle.ta_core.specs.Language.{RunOf, InLanguage}
use Rattle.ta_core.specs.Single.{HasOneTop}
use Rattle.ta_core.specs.declared.auto.Rule.{Rule}
use Rattle.ta_core.specs.declared.symbol.Slot.{Slot}
use Rattle.ta_core.specs.declared.symbol.Slot.TheVariants.{Link}
use Rattle.ta_core.specs.declared.tree.Tree.{Tree}
use Rattle.fa_core.specs.declared.boxes.BoxDef.{BoxDef}
use Rattle.fa_core.specs.declared.faces.BoxFace.{BoxFace}
use Rattle.fa_core.specs.declared.forest.Forest.{Forest}
use Rattle.fa_core.specs.declared.forest.Target.{Target}
use Rattle.fa_core.specs.declared.forest.Target.TheVariants.{Null, Uninit, Dangling, At}
use Rattle.fa_core.specs.Choices.{count}
use Rattle.fa_core.specs.Dressed.{Node, Parts, End, Nodes, node, no_parts, leaf, no_nodes, more}
use Rattle.fa_core.specs.Dressed.{value_in, roots_of, all_refs, SeenLink}
use Rattle.fa_core.specs.Filled.{IsRoot}
use Rattle.fa_core.specs.Folding.{symbol_slots}
use Rattle.fa_core.specs.Member.{OfForest, TreesOf, InsidesOf, InsidesOfParts, inside_of, bare, bare_end, slots_of}
use Rattle.fa_core.specs.Placed.{placed_parts, placed_all, placed_auto}
use Rattle.fa_core.specs.References.{AllBelow}
use Rattle.fa_core.proofs.Placing.{placed_ranked, slots_placed, insides_placed}
use Rattle.fa_back.proofs.RootMarks.{in_flat, flat_in}
use Rattle.fa_sound.specs.Components.{component_at}
use Rattle.fa_split.specs.Split.{top_rule}
use Rattle.fa_merge.proofs.OtherOrders.{count_trees}
use Rattle.fa_split.proofs.Places.{end_is_leaf}
use Rattle.fa_split.proofs.ChosenForests.{picked_each, picked_all}
use Rattle.fa_split.proofs.OtherComponent.{component_set, component_other}
use Rattle.fa_split.proofs.TopRules.{top_in, top_root, top_alone}
use Rattle.fa_unfold.specs.Opens.{HasSlot}
use Rattle.fa_unfold.specs.Outside.{outside}
use Rattle.fa_unfold.specs.Parts.{LinkPart}
use Rattle.fa_unfold.specs.Slots.{without, rule_places}
use Rattle.fa_unfold.specs.Unfolded.{Unfolded, UnfoldsFrom, UnfoldsInto}
use Rattle.fa_unfold.specs.Unfolding.{IsTop, Tops, AreLinkTops, grown, end_rules, open_root, grow_root, grown_roots}
use Rattle.fa_unfold.specs.Unfolding.{is_bare, have_no_slots, with_end}
use Rattle.fa_unfold.specs.Unfolding.{with_inner, link_unfoldings}
use Rattle.fa_unfold.specs.inner.Trees.{unlisted, joined_parts, parts_without, at_root, at_leaf, with_all, link_opened}
use Rattle.fa_unfold.proofs.EdgeParts.{vars_stay, no_slots, none_listed, joined_none, is_link, is_cell_top}
use Rattle.fa_unfold.proofs.GrownTrees.{grown_right, grown_one}
use Rattle.fa_unfold.proofs.OpenedRoots.{HasPart, part_there, opened_from, opened_to, grown_from}
use Rattle.fa_unfold.proofs.OpenedRoots.{grown_to, inner_to, inner_from, component_has, base_right}
use Rattle.fa_unfold.proofs.OpenedTrees.{opens_link, link_roots}
use Rattle.fa_unfold.proofs.PortTrees.{PartInside, insides_listed, port_from, port_to}

-- the steps of replacing a Link, one after the other
link_is : (bs : List BoxFace) (i p n : ℕ) (y : Target) (ps qs : Parts) (ns d : Nodes) (os : Parts) (d1 d2 e : Nodes)
    → count d ≡ n → placed_parts (outside i y n) ps ≡ os
    → at_root (λ xs. joined_parts bs xs os) i (at_root (parts_without p) i d) ≡ d1
    → at_leaf (λ xs. joined_parts bs xs (placed_parts (outside i y n) qs)) y d1 ≡ d2
    → with_all d2 (placed_all (outside i y n) ns) ≡ e → link_opened bs i p y ps qs ns d ≡ e
link_is bs i p n y ps qs ns d os d1 d2 e c o first ends last =
    let f = outside i y n in
    let g : Parts → Parts = λ xs. joined_parts bs xs (placed_parts f qs) in
    let one : link_opened bs i p y ps qs ns d
    ≡ with_all (at_leaf g y (at_root (λ xs. joined_parts bs xs (placed_parts f ps)) i (at_root (parts_without p) i d)))
    (placed_all f ns) =
    ap (λ (u : ℕ). with_all
    (at_leaf (λ xs. joined_parts bs xs (placed_parts (outside i y u) qs)) y
    (at_root (λ xs. joined_parts bs xs (placed_parts (outside i y u) ps)) i (at_root (parts_without p) i d)))
    (placed_all (outside i y u) ns)) c in
    let two = ap (λ (v : Parts). with_all
    (at_leaf g y (at_root (λ xs. joined_parts bs xs v) i (at_root (parts_without p) i d))) (placed_all f ns)) o in
    let three = ap (λ (v : Nodes). with_all (at_leaf g y v) (placed_all f ns)) first in
    let four = ap (λ (v : Nodes). with_all v (placed_all f ns)) ends in
    one ∙ two ∙ three ∙ four ∙ last

-- some tree of the component with insides of the table
abbrev pub IsDressable : List BoxDef → Automaton → Type 0
IsDressable T a = (n : Node) × InLanguage a (bare n) × InsidesOf T n

module _ (bs : List BoxFace) (T : List BoxDef) (F : Forest) (ranked : Every IsRanked F.autos)
    (below : (d : Nodes) → OfForest T F d → AllBelow (count d) (all_refs d))
    (vars : Every (IsRoot (length F.autos)) F.vars) (i p : ℕ) (there : i < length F.autos)
    (one : HasOneTop (component_at F.autos i)) (b : ℕ) where
  abbrev n : ℕ
  n = length F.autos

  abbrev a : Automaton
  a = component_at F.autos i

  long : (d : Nodes) → OfForest T F d → count d ≡ n
  long d h = count_trees T F.autos d h

  -- A Link.

  module _ (q : ℕ) (slot : slice_get (rule_places (top_rule a)) p ≡ Some (Link b, q ∷ [])) (y : Target)
      (run : RunOf a.rules q (bare_end (leaf y))) (only : (t : Tree) → RunOf a.rules q t → t ≡ bare_end (leaf y))
      (names : IsRoot n y) (input output : Automaton) (inner : List Automaton) (in_right : IsRanked input)
      (out_right : IsRanked output) (is : inside_of T b ≡ Some (input ∷ output ∷ inner))
      (some : IsDressable T output) (tops : Tops) (are : AreLinkTops F i y input output tops) where
    abbrev f : ℕ → Target
    f = outside i y n

    abbrev first : Automaton
    first = placed_auto f input

    abbrev last : Automaton
    last = placed_auto f output

    first_right : IsRanked first
    first_right = placed_ranked f input in_right

    last_right : IsRanked last
    last_right = placed_ranked f output out_right

    rule_in : (z : Rule) → IsIn z tops.ins → IsIn z first.rules
    rule_in z k = (picked_each (IsTop first) are.ins z k).0

    rule_top : (z : Rule) → IsIn z tops.ins → IsTop first z
    rule_top z k = (picked_each (IsTop first) are.ins z k).1

    last_rule : (z : Rule) → IsIn z tops.outs → IsIn z last.rules
    last_rule z k = (picked_each (IsTop last) are.outs z k).0

    last_top : (z : Rule) → IsIn z tops.outs → IsTop last z
    last_top z k = (picked_each (IsTop last) are.outs z k).1

    link_unfolded : (G : Forest) → G.vars ≡ F.vars → G.data_vars ≡ F.data_vars → (d : Nodes) → OfForest T F d
        → (c0 s0 : ℕ) (ds0 : List Datum) (ps : Parts) (c1 s1 : ℕ) (ds1 : List Datum) (qs : Parts) (ns : Nodes)
        → HasPart d i p (LinkPart b (more (node c0 s0 ds0 ps) (more (node c1 s1 ds1 qs) ns)) (leaf y))
        → Unfolded F G i p d (link_opened bs i p y ps qs ns d)
    link_unfolded G v w d h c0 s0 ds0 ps c1 s1 ds1 qs ns x =
        let inside : Nodes = more (node c0 s0 ds0 ps) (more (node c1 s1 ds1 qs) ns) in
        record {
          edge = HasSlot x.cell (SeenLink b inside (value_in (roots_of d) y));
          at = record {
            cell = x.cell;
            shape = x.shape;
            datums = x.datums;
            parts = x.parts;
            part = LinkPart b inside (leaf y);
            at = x.at;
            has = x.has;
            edge = tt;
            is = refl;
          };
          opens = opens_link bs d i p x.cell x.shape x.datums x.parts x.at (below d h) b y c0 s0 ds0 ps c1 s1 ds1 qs ns
              x.has;
          vars = vars_stay d (roots_of ns) F.vars
              (subst (λ (m : ℕ). Every (IsRoot m) F.vars) (sym (long d h)) vars)
              ∙ ap₂ (λ (us : List Value) (ts : List Target). map (value_in us) ts)
              (sym (link_roots bs d i p x.cell x.shape x.datums x.parts x.at (below d h) b y c0 s0 ds0 ps c1 s1 ds1 qs
              ns x.has)) (sym v);
          data_vars = sym w;
        }

    -- the end with the slots of the output, and some tree of the output
    record IsEnded (F1 : Forest) (e2 : Nodes) : Type 0 where
      before : Nodes
      of : OfForest T F1 before
      cell : ℕ
      shape : ℕ
      datums : List Datum
      parts : Parts
      tree : InLanguage output (bare (node cell shape datums parts))
      insides : InsidesOfParts T parts
      opened : at_leaf (λ os. joined_parts bs os (placed_parts f parts)) y before ≡ e2

    -- where the output has no slots, its tree has none
    bare_tree : (c s : ℕ) (ds : List Datum) (ps : Parts) → have_no_slots tops.outs ≡ true
        → InLanguage output (bare (node c s ds ps)) → ps ≡ no_parts
    bare_tree c s ds ps e l =
        let z = port_to f T output out_right c s ds ps l in
        let w : slots_of (placed_parts f ps) ≡ slots_of ps = slots_placed f ps in
        none_listed ps
        (subst (λ (v : List Slot). is_bare v ≡ true) (ap symbol_slots z.4 ∙ w)
        (no_slots tops.outs z.0 e (picked_all (IsTop last) are.outs z.0 z.1 z.2)))

    -- a forest whose roots but i are those of F, and whose root i has one rule
    record IsOpenedAt (F1 : Forest) : Type 0 where
      right : Every IsRanked F1.autos
      size : length F1.autos ≡ n
      top : HasOneTop (component_at F1.autos i)
      other : (j : ℕ) → j ≢ i → component_at F1.autos j ≡ component_at F.autos j

    -- a rule at the top of the end's root is one of root states, and they are all
    end_rule : (F1 : Forest) → IsOpenedAt F1 → (j : ℕ) → y ≡ At j → (w : Rule)
        → IsIn w (end_rules F1 i j tops.ends) → IsIn w (component_at F1.autos j).rules
        × IsIn w.state (component_at F1.autos j).roots
    end_rule F1 o j e w k = here (nat_eq i j) refl k
      where
        here : (v : Bool) → nat_eq i j ≡ v
            → IsIn w (if v then top_rule (component_at F1.autos i) ∷ [] else tops.ends)
            → IsIn w (component_at F1.autos j).rules × IsIn w.state (component_at F1.autos j).roots
        here true t (inl s) =
            let c = component_at F1.autos i in
            subst (λ (x : ℕ). IsIn w (component_at F1.autos x).rules × IsIn w.state (component_at F1.autos x).roots)
            (eqb-true i j t)
            (subst (λ (x : Rule). IsIn x c.rules × IsIn x.state c.roots) (sym s) (top_in c o.top, top_root c o.top))
        here true t (inr s) = absurd s
        here false t s =
            let z = picked_each (IsTop (component_at F.autos j)) (are.ends j e) w s in
            let d : j ≢ i = λ x. true≢false (sym (eq-eqb i j (sym x)) ∙ t) in
            subst (λ (c : Automaton). IsIn w c.rules × IsIn w.state c.roots) (sym (o.other j d)) (z.0, z.1.0.0)

    rule_at_end : (F1 : Forest) → IsOpenedAt F1 → (j : ℕ) → y ≡ At j → (w : Rule)
        → IsIn w (component_at F1.autos j).rules → IsTop (component_at F1.autos j) w
        → IsIn w (end_rules F1 i j tops.ends)
    rule_at_end F1 o j e w k s = here (nat_eq i j) refl
      where
        here : (v : Bool) → nat_eq i j ≡ v → IsIn w (if v then top_rule (component_at F1.autos i) ∷ [] else tops.ends)
        here true t =
            let q : j ≡ i = sym (eqb-true i j t) in
            inl (top_alone (component_at F1.autos i) o.top w
            (subst (λ (x : ℕ). IsIn w (component_at F1.autos x).rules) q k)
            (subst (λ (x : ℕ). IsIn w.state (component_at F1.autos x).roots) q s.0.0))
        here false t =
            let d : j ≢ i = λ x. true≢false (sym (eq-eqb i j (sym x)) ∙ t) in
            let q = o.other j d in
            picked_all (IsTop (component_at F.autos j)) (are.ends j e) w (subst (λ (c : Automaton). IsIn w c.rules) q k)
            (subst (λ (c : Automaton). IsTop c w) q s)

    -- where no tree of the output changes the end, any will do
    unended : (F1 : Forest) (t : Target) → t ≡ y → (G : Forest) → G ≡ F1 → (e2 : Nodes) → OfForest T G e2
        → ((c s : ℕ) (ds : List Datum) (ps : Parts) → InLanguage output (bare (node c s ds ps))
        → at_leaf (λ os. joined_parts bs os (placed_parts f ps)) t e2 ≡ e2)
        → (G.vars ≡ F1.vars) × (G.data_vars ≡ F1.data_vars) × IsEnded F1 e2
    unended F1 t e G k e2 h same =
        (ap (λ (x : Forest). x.vars) k, ap (λ (x : Forest). x.data_vars) k, told some.0 some.1 some.2)
      where
        told : (m : Node) → InLanguage output (bare m) → InsidesOf T m → IsEnded F1 e2
        told (node c s ds ps) l i = record {
          before = e2;
          of = subst (λ (x : Forest). OfForest T x e2) k h;
          cell = c;
          shape = s;
          datums = ds;
          parts = ps;
          tree = l;
          insides = i;
          opened = subst (λ (x : Target). at_leaf (λ os. joined_parts bs os (placed_parts f ps)) x e2 ≡ e2) e
              (same c s ds ps l);
        }

    ended_at : (F1 : Forest) → IsOpenedAt F1 → (t : Target) → t ≡ y → (G : Forest)
        → IsIn G (with_end bs F1 i t tops.ends last tops.outs) → (e2 : Nodes) → OfForest T G e2
        → (G.vars ≡ F1.vars) × (G.data_vars ≡ F1.data_vars) × IsEnded F1 e2
    ended_at F1 r Null e G (inl k) e2 h = unended F1 Null e G k e2 h (λ c s ds ps l. refl)
    ended_at F1 r Null e G (inr k) e2 h = absurd k
    ended_at F1 r Uninit e G (inl k) e2 h = unended F1 Uninit e G k e2 h (λ c s ds ps l. refl)
    ended_at F1 r Uninit e G (inr k) e2 h = absurd k
    ended_at F1 r Dangling e G (inl k) e2 h = unended F1 Dangling e G k e2 h (λ c s ds ps l. refl)
    ended_at F1 r Dangling e G (inr k) e2 h = absurd k
    ended_at F1 r (At j) e G k e2 h = here (have_no_slots tops.outs) refl k
      where
        j_there : j < length F1.autos
        j_there = subst (λ (m : ℕ). j < m) (sym r.size) (names j (sym e))

        grown_by : (w : Rule) → IsIn w (end_rules F1 i j tops.ends) → (z : Rule) → IsIn z tops.outs
            → OfForest T (grow_root bs F1 j last w z) e2 → IsEnded F1 e2
        grown_by w iw z iz o =
            let k = end_rule F1 r j (sym e) w iw in
            let g = grown_from bs T F1 r.right j j_there last last_right z (last_rule z iz) w k.0 k.1 e2 o in
            let t = port_from f T output out_right z g.gained (last_rule z iz) (last_top z iz) g.more g.outer in
            record {
              before = g.before;
              of = g.of;
              cell = t.cell;
              shape = t.shape;
              datums = t.datums;
              parts = t.parts;
              tree = t.tree;
              insides = t.insides;
              opened = subst
                  (λ (x : Target). at_leaf (λ os. joined_parts bs os (placed_parts f t.parts)) x g.before ≡ e2)
                  e
                  (subst (λ (x : Parts). at_root (λ os. joined_parts bs os x) j g.before ≡ e2) (sym t.is) g.opened);
            }

        here : (c : Bool) → have_no_slots tops.outs ≡ c
            → IsIn G (if c then F1 ∷ [] else grown_roots bs F1 j (end_rules F1 i j tops.ends) last tops.outs)
            → (G.vars ≡ F1.vars) × (G.data_vars ≡ F1.data_vars) × IsEnded F1 e2
        here true z (inl w) = unended F1 (At j) e G w e2 h
            (λ c s ds ps l. subst (λ (x : Parts). at_root (λ os. joined_parts bs os (placed_parts f x)) j e2 ≡ e2)
            (sym (bare_tree c s ds ps z l)) (joined_none bs j e2))
        here true z (inr w) = absurd w
        here false z w =
            let m = flat_in (λ (v : Rule). map (grow_root bs F1 j last v) tops.outs) (end_rules F1 i j tops.ends) G w in
            let o = in_mapped (grow_root bs F1 j last m.0) G tops.outs m.2 in (
              ap (λ (x : Forest). x.vars) o.2,
              ap (λ (x : Forest). x.data_vars) o.2,
              grown_by m.0 m.1 o.0 o.1 (subst (λ (x : Forest). OfForest T x e2) o.2 h),
            )

    ended_to : (F1 : Forest) → IsOpenedAt F1 → (t : Target) → t ≡ y → (d : Nodes)
        → OfForest T F1 d → (c s : ℕ) (ds : List Datum) (qs : Parts) → InLanguage output (bare (node c s ds qs))
        → InsidesOfParts T qs → (G : Forest) × IsIn G (with_end bs F1 i t tops.ends last tops.outs) × (G.vars ≡ F1.vars)
        × (G.data_vars ≡ F1.data_vars)
        × OfForest T G (at_leaf (λ os. joined_parts bs os (placed_parts f qs)) t d)
    ended_to F1 r Null e d h c s ds qs w k = (F1, inl refl, refl, refl, h)
    ended_to F1 r Uninit e d h c s ds qs w k = (F1, inl refl, refl, refl, h)
    ended_to F1 r Dangling e d h c s ds qs w k = (F1, inl refl, refl, refl, h)
    ended_to F1 r (At j) e d h c s ds qs w k = here (have_no_slots tops.outs) refl
      where
        j_there : j < length F1.autos
        j_there = subst (λ (m : ℕ). j < m) (sym r.size) (names j (sym e))

        unchanged : have_no_slots tops.outs ≡ true
            → OfForest T F1 (at_root (λ os. joined_parts bs os (placed_parts f qs)) j d)
        unchanged z =
            subst (λ (x : Parts). OfForest T F1 (at_root (λ os. joined_parts bs os (placed_parts f x)) j d))
            (sym (bare_tree c s ds qs z w)) (subst (λ (x : Nodes). OfForest T F1 x) (sym (joined_none bs j d)) h)

        here : (v : Bool) → have_no_slots tops.outs ≡ v → (G : Forest)
            × IsIn G (if v then F1 ∷ [] else grown_roots bs F1 j (end_rules F1 i j tops.ends) last tops.outs)
            × (G.vars ≡ F1.vars)
            × (G.data_vars ≡ F1.data_vars)
            × OfForest T G (at_root (λ os. joined_parts bs os (placed_parts f qs)) j d)
        here true z = (F1, inl refl, refl, refl, unchanged z)
        here false z =
            let t = port_to f T output out_right c s ds qs w in
            let g = grown_to bs T F1 r.right j j_there last last_right t.0 t.1 d h (placed_parts f qs) t.3
            (insides_listed T (placed_parts f qs) (insides_placed f T (node c s ds qs) k)) in (
              grow_root bs F1 j last g.0 t.0,
              in_flat (λ (x : Rule). map (grow_root bs F1 j last x) tops.outs) (end_rules F1 i j tops.ends) g.0
                  (grow_root bs F1 j last g.0 t.0) (rule_at_end F1 r j (sym e) g.0 g.1 g.2)
                  (in_map (grow_root bs F1 j last g.0) t.0 tops.outs (picked_all (IsTop last) are.outs t.0 t.1 t.2)),
              refl,
              refl,
              g.3,
            )

    -- the root without the Link, with the slots of the input
    abbrev first_forest : Rule → Forest
    first_forest z = open_root bs F i p first z

    left : IsRanked a
    left = component_has IsRanked F.autos i there ranked

    first_ranked : (z : Rule) → IsIn z first.rules → Every IsRanked (first_forest z).autos
    first_ranked z k =
        let y = is_cell_top (top_rule a).symbol (top_rule a).children p (Link b, q ∷ []) slot in
        every_set IsRanked F.autos i
        (grown bs a (top_rule a) (without p (rule_places (top_rule a))) first z) ranked
        (grown_right bs a (top_rule a) (without p (rule_places (top_rule a))) first z left first_right k
        (base_right bs T F ranked i p there one (Link b, q ∷ []) slot first first_right z k) y.0 y.1 y.2)

    first_long : (z : Rule) → length (first_forest z).autos ≡ n
    first_long z = length-set F.autos i (grown bs a (top_rule a) (without p (rule_places (top_rule a))) first z)

    first_opened : (z : Rule) → IsIn z first.rules → IsOpenedAt (first_forest z)
    first_opened z k =
        let g = grown bs a (top_rule a) (without p (rule_places (top_rule a))) first z in
        record {
          right = first_ranked z k;
          size = first_long z;
          top = subst (λ (c : Automaton). HasOneTop c) (sym (component_set F.autos i g there))
              (grown_one bs a (top_rule a) (without p (rule_places (top_rule a))) first z left first_right k
              (base_right bs T F ranked i p there one (Link b, q ∷ []) slot first first_right z k));
          other = λ j d. component_other F.autos i j g d;
        }

    abbrev ends_of : Rule → List Forest
    ends_of z = map (with_inner (map (placed_auto f) inner)) (with_end bs (first_forest z) i y tops.ends last tops.outs)

    -- a dressed forest of the list: the one of F, with the Link and its inside, and what replaces it
    pub record IsReplaced (G : Forest) (e : Nodes) : Type 0 where
      pub same_vars : G.vars ≡ F.vars
      pub same_data : G.data_vars ≡ F.data_vars
      pub base : Nodes
      pub of_base : OfForest T F base
      pub c0 : ℕ
      pub s0 : ℕ
      pub ds0 : List Datum
      pub ps : Parts
      pub c1 : ℕ
      pub s1 : ℕ
      pub ds1 : List Datum
      pub qs : Parts
      pub ns : Nodes
      pub part : HasPart base i p (LinkPart b (more (node c0 s0 ds0 ps) (more (node c1 s1 ds1 qs) ns)) (leaf y))
      pub trees : TreesOf T (input ∷ output ∷ inner) (more (node c0 s0 ds0 ps) (more (node c1 s1 ds1 qs) ns))
      pub made : link_opened bs i p y ps qs ns base ≡ e

    pub replaced : (G : Forest) → IsIn G (link_unfoldings bs F i p y input output inner tops) → (e : Nodes)
        → OfForest T G e → IsReplaced G e
    replaced G k e h =
        let m = flat_in ends_of tops.ins G k in
        let o = in_mapped (with_inner (map (placed_auto f) inner)) G
        (with_end bs (first_forest m.0) i y tops.ends last tops.outs) m.2 in
        let v = inner_from T f inner o.0 e (subst (λ (x : Forest). OfForest T x e) o.2 h) in
        let t = ended_at (first_forest m.0) (first_opened m.0 (rule_in m.0 m.1)) y refl o.0 o.1 v.0 v.3 in
        let x = opened_from bs T F ranked i p there one (Link b, q ∷ []) slot first first_right m.0 (rule_in m.0 m.1)
        t.2.before t.2.of in
        let w = port_from f T input in_right m.0 x.gained (rule_in m.0 m.1) (rule_top m.0 m.1) x.more x.outer in
        let inside : Nodes = more (node w.cell w.shape w.datums w.parts)
        (more (node t.2.cell t.2.shape t.2.datums t.2.parts) v.1) in
        let cl = x.closed (LinkPart b inside (leaf y)) (refl, q, refl, run)
        ((input ∷ output ∷ inner, is, (w.tree, w.insides, (t.2.tree, t.2.insides, v.4))), tt) in
        record {
          same_vars = ap (λ (x : Forest). x.vars) o.2 ∙ t.0;
          same_data = ap (λ (x : Forest). x.data_vars) o.2 ∙ t.1;
          base = cl.before;
          of_base = cl.of;
          c0 = w.cell;
          s0 = w.shape;
          ds0 = w.datums;
          ps = w.parts;
          c1 = t.2.cell;
          s1 = t.2.shape;
          ds1 = t.2.datums;
          qs = t.2.parts;
          ns = v.1;
          part = cl.part;
          trees = (w.tree, w.insides, (t.2.tree, t.2.insides, v.4));
          made = link_is bs i p n y w.parts t.2.parts v.1 cl.before (unlisted x.gained) t.2.before v.0 e
              (long cl.before cl.of) w.is cl.opened t.2.opened v.2;
        }

    -- each dressed forest of the list is one of F with the Link replaced
    pub link_from : (G : Forest) → IsIn G (link_unfoldings bs F i p y input output inner tops) → UnfoldsFrom T F i p G
    link_from G k e h =
        let r = replaced G k e h in
        let g = link_unfolded G r.same_vars r.same_data r.base r.of_base r.c0 r.s0 r.ds0 r.ps r.c1 r.s1 r.ds1 r.qs r.ns
        r.part in
        (r.base, r.of_base, subst (λ (d : Nodes). Unfolded F G i p r.base d) r.made g)

    abbrev IntoLink : Nodes → Type 0
    IntoLink d = (G : Forest) × IsIn G (link_unfoldings bs F i p y input output inner tops)
        × ((e : Nodes) × OfForest T G e × Unfolded F G i p d e)

    -- each dressed forest of F is, with the Link replaced, one of some forest of the list
    pub link_into : UnfoldsInto T F i p (link_unfoldings bs F i p y input output inner tops)
    link_into d h =
        let x = part_there bs T F ranked i p there one (Link b, q ∷ []) slot d h in
        let k = is_link (RunOf a.rules) b q x.0 x.2 in
        let e = k.2 ∙ ap (λ (v : End). LinkPart b k.0 v) (end_is_leaf k.1 y (only (bare_end k.1) k.3)) in
        let u = subst (PartInside T) e x.3 in
        opened k.0 (subst (HasPart d i p) e x.1)
        (subst (λ (v : List Automaton). TreesOf T v k.0)
        (same_Some u.0.0 (input ∷ output ∷ inner) (sym u.0.1 ∙ is)) u.0.2)
      where
        opened : (inside : Nodes) → HasPart d i p (LinkPart b inside (leaf y))
            → TreesOf T (input ∷ output ∷ inner) inside → IntoLink d
        opened no_nodes x u = absurd u
        opened (more m no_nodes) x u = absurd u.2
        opened (more (node c0 s0 ds0 ps) (more (node c1 s1 ds1 qs) ns)) x u =
            let z = port_to f T input in_right c0 s0 ds0 ps u.0 in
            let o = opened_to bs T F ranked i p there one (Link b, q ∷ []) slot first first_right z.0 z.1
            d h x.cell x.shape x.datums x.parts x.at (placed_parts f ps) z.3
            (insides_listed T (placed_parts f ps) (insides_placed f T (node c0 s0 ds0 ps) u.1)) in
            let t = ended_to (first_forest z.0) (first_opened z.0 z.1) y refl
            (at_root (λ os. joined_parts bs os (placed_parts f ps)) i (at_root (parts_without p) i d)) o c1 s1 ds1 qs
            u.2.0 u.2.1 in
            let G : Forest = with_inner (map (placed_auto f) inner) t.0 in
            let D : ℕ → Nodes = λ w. with_all
            (at_leaf (λ os. joined_parts bs os (placed_parts (outside i y w) qs)) y
            (at_root (λ os. joined_parts bs os (placed_parts (outside i y w) ps)) i (at_root (parts_without p) i d)))
            (placed_all (outside i y w) ns) in (
              G,
              in_flat ends_of tops.ins z.0 G (picked_all (IsTop first) are.ins z.0 z.1 z.2)
                  (in_map (with_inner (map (placed_auto f) inner)) t.0
                  (with_end bs (first_forest z.0) i y tops.ends last tops.outs) t.1),
              (
                link_opened bs i p y ps qs ns d,
                subst (λ (w : ℕ). OfForest T G (D w)) (sym (long d h))
                    (inner_to T f inner t.0
                    (at_leaf (λ os. joined_parts bs os (placed_parts f qs)) y
                    (at_root (λ os. joined_parts bs os (placed_parts f ps)) i (at_root (parts_without p) i d))) ns t.4
                    u.2.2),
                link_unfolded G t.2 t.3 d h c0 s0 ds0 ps c1 s1 ds1 qs ns x,
              ),
            )

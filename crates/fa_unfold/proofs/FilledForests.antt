-- The forests in which a box edge of a root is replaced are filled.
use Rattle.std.proofs.Common.{◌≡◌, ◌≢◌, inl, inr, ℕ, ◌<◌, Bool, true, false, true≢false, nat_eq, length, List}
use Rattle.std.proofs.Common.{if◌then◌else◌}
use Rattle.std.proofs.Common.{[], ◌∷◌, map, refl, sym, ap, subst, ◌∙◌, Option, Some, None, slice_get}
use Rattle.std.proofs.Common.{length-set}
use Rattle.std.proofs.lemmas.Bool.{eq-eqb, eqb-true}
use Rattle.std.proofs.lemmas.Option.{same_Some}
use Rattle.fore_base.specs.Lists.{IsIn, Every}
use Rattle.fore_base.specs.declared.shape.Shapes.{Shapes}
use Rattle.fore_base.specs.declared.store.Datum.{Datum}
use Rattle.fore_base.proofs.ListLemmas.{every_append, every_in, every_set, in_every, in_mapped, place_of}
use Rattle.ta_core.specs.Auto.{Automaton, IsRanked}
use Rattle.ta_core.specs.Single.{HasOneTop}
use Rattle.ta_core.specs.declared.auto.Rule.{Rule}
use Rattle.ta_core.specs.declared.symbol.Slot.{Slot}
use Rattle.ta_core.specs.declared.symbol.Slot.TheVariants.{Link, Hook}
use Rattle.fa_core.specs.declared.faces.BoxFace.{BoxFace}
use Rattle.fa_core.specs.declared.faces.Face.{Face}
use Rattle.fa_core.specs.declared.forest.Forest.{Forest}
use Rattle.fa_core.specs.declared.forest.Target.{Target}
use Rattle.fa_core.specs.declared.forest.Target.TheVariants.{Null, Uninit, Dangling, At}
use Rattle.fa_core.specs.Boxes.{Boxes, InsideRulesFit, faces_of, port_fields}
use Rattle.fa_core.specs.Filled.{HasSome, IsFilled, RulesFit, SlotFits, SymbolFits, face_of}
use Rattle.fa_core.specs.Folding.{symbol_slots}
use Rattle.fa_core.specs.Member.{inside_of}
use Rattle.fa_core.specs.Placed.{placed_auto}
use Rattle.fa_core.proofs.Placing.{placed_ranked}
use Rattle.fa_back.proofs.RootMarks.{flat_in}
use Rattle.fa_sound.specs.Components.{component_at}
use Rattle.fa_split.specs.Split.{top_rule}
use Rattle.fa_split.proofs.ChosenForests.{picked_each}
use Rattle.fa_split.proofs.OtherComponent.{component_set, component_other}
use Rattle.fa_split.proofs.TopRules.{top_in, top_alone}
use Rattle.fa_unfold.specs.Outside.{outside, outside_hook}
use Rattle.fa_unfold.specs.Sites.{IsHookAt, IsLinkAt, IsOver}
use Rattle.fa_unfold.specs.Slots.{Place, without, rule_places}
use Rattle.fa_unfold.specs.Unfolding.{IsTop, AreHookTops, AreLinkTops, Tops, below_tops, grown, open_root, grow_root}
use Rattle.fa_unfold.specs.Unfolding.{grown_roots, end_rules, have_no_slots, with_end, with_inner, hook_unfoldings}
use Rattle.fa_unfold.specs.Unfolding.{link_unfoldings}
use Rattle.fa_unfold.proofs.EndStructs.{LinkStructs, link_structs, HookStructs, hook_structs}
use Rattle.fa_unfold.proofs.FilledUnfoldings.{link_trees_filled, hook_trees_filled}
use Rattle.fa_unfold.proofs.FittingRules.{below_fits, rule_slots, cell_slots_fit}
use Rattle.fa_unfold.proofs.GoodComponents.{IsGood, own_good, top_stands, filled_of, grown_good, inner_good}
use Rattle.fa_unfold.proofs.GrownTrees.{IsCellOf, grown_one, grown_rule}
use Rattle.fa_unfold.proofs.OpenedRoots.{base_right, component_has, rule_right}
use Rattle.fa_unfold.proofs.PlaceRuns.{without_every}
use Rattle.fa_unfold.proofs.PortStructs.{input_rule, output_rule}
use Rattle.fa_unfold.proofs.PortTrees.{is_cell, cell_is}
use Rattle.fa_unfold.proofs.TableBoxes.{IsBoxOf, box_of_table}
use Rattle.fa_unfold.proofs.TableInsides.{ranked_inside}

module _ (t : Boxes) (F : Forest) (over : IsOver t F) where
  abbrev S : Shapes
  S = t.face.shapes

  abbrev bs : List BoxFace
  bs = t.face.boxes

  abbrev shown : Face
  shown = record { shapes = S; boxes = faces_of t.defs }

  same_face : shown ≡ t.face
  same_face = ap (λ (z : List BoxFace). record { shapes = t.face.shapes; boxes = z }) (sym over.table.faces)

  slots_here : (s : ℕ) (ss : List Slot) → Every (SlotFits shown s) ss → Every (SlotFits t.face s) ss
  slots_here s ss h = subst (λ (f : Face). Every (SlotFits f s) ss) same_face h

  rules_here : (a : Automaton) → RulesFit shown a → RulesFit t.face a
  rules_here a h = subst (λ (f : Face). RulesFit f a) same_face h

  -- the one rule of root i, whose cell is known
  module _ (i : ℕ) (there : i < length F.autos) (one : HasOneTop (component_at F.autos i)) where
    abbrev a : Automaton
    a = component_at F.autos i

    good : IsGood t.face a
    good = component_has (IsGood t.face) F.autos i there (own_good t F over)

    symbol_fits : SymbolFits t.face (top_rule a).symbol
    symbol_fits =
        every_in (λ (r : Rule). SymbolFits t.face r.symbol) a.rules (top_rule a) good.1 (top_in a one)

    base_fits : (p s : ℕ) (ds : List Datum) → IsCellOf (top_rule a).symbol s ds
        → Every (λ (x : Place). SlotFits t.face s x.0) (without p (rule_places (top_rule a)))
    base_fits p s ds c =
        without_every (λ (x : Place). SlotFits t.face s x.0) p (rule_places (top_rule a))
        (rule_slots (SlotFits t.face s) (top_rule a) (cell_slots_fit t.face (top_rule a).symbol s ds c symbol_fits))

    -- the root with the slots of a rule of a port
    opened_good : (p : ℕ) (edge : Place) → slice_get (rule_places (top_rule a)) p ≡ Some edge → (b : Automaton)
        → IsRanked b → (z : Rule) → IsIn z b.rules → (s : ℕ) (ds : List Datum) → IsCellOf (top_rule a).symbol s ds
        → RulesFit t.face (below_tops b) → Every (SlotFits t.face s) (symbol_slots z.symbol)
        → Every (IsGood t.face) (open_root bs F i p b z).autos
    opened_good p edge slot b right z k s ds c fb more =
        every_set (IsGood t.face) F.autos i (grown bs a (top_rule a) (without p (rule_places (top_rule a))) b z)
        (own_good t F over)
        (grown_good t.face bs a (top_rule a) (without p (rule_places (top_rule a))) b z good right k
        (base_right bs t.defs F over.ranked i p there one edge slot b right z k) s ds c symbol_fits fb
        (base_fits p s ds c) more)

  -- The box.

  module _ (b : ℕ) (autos : List Automaton) (is : inside_of t.defs b ≡ Some autos) where
    abbrev box : IsBoxOf S t.defs b autos
    box = box_of_table S t.defs over.table.sound b autos is

    abbrev lower : Face
    lower = record { shapes = S; boxes = faces_of box.before }

    abbrev x : BoxFace
    x = box.def.face

    same_box : (z : BoxFace) → face_of bs b ≡ Some z → z ≡ x
    same_box z e = same_Some z x (sym (sym (ap (λ (fs : List BoxFace). face_of fs b) over.table.faces) ∙ e) ∙ box.here)

    inside_rules : (o : Option ℕ) → x.output ≡ o → InsideRulesFit lower (port_fields x o) autos
    inside_rules o e =
        subst (λ (v : Option ℕ). InsideRulesFit lower (port_fields x v) autos) e
        (subst (λ (v : List Automaton). InsideRulesFit lower (port_fields x x.output) v) box.inside box.sound.rules)

  -- A Link.

  module _ (i p b : ℕ) (y : Target) (input output : Automaton) (inner : List Automaton) (tops : Tops)
      (at : IsLinkAt F i p b y) (is : inside_of t.defs b ≡ Some (input ∷ (output ∷ inner)))
      (are : AreLinkTops F i y input output tops) where
    abbrev autos : List Automaton
    autos = input ∷ (output ∷ inner)

    abbrev f : ℕ → Target
    f = outside i y (length F.autos)

    abbrev first : Automaton
    first = placed_auto f input

    abbrev last : Automaton
    last = placed_auto f output

    abbrev st : LinkStructs t F over i p b y at
    st = link_structs t F over i p b y at

    same : st.face_is ≡ x b autos is
    same = same_box b autos is st.face_is st.is

    struct_is : (x b autos is).input ≡ st.struct
    struct_is = sym (ap (λ (v : BoxFace). v.input) same) ∙ st.input

    out_is : (x b autos is).output ≡ Some st.end
    out_is = sym (ap (λ (v : BoxFace). v.output) same) ∙ st.output

    ranked : Every IsRanked autos
    ranked = ranked_inside t.defs b autos over.insides is

    rules : InsideRulesFit (lower b autos is) (port_fields (x b autos is) (Some st.end)) autos
    rules = inside_rules b autos is (Some st.end) out_is

    grow : (n : ℕ) (v : BoxFace) → face_of (faces_of (box b autos is).before) n ≡ Some v
        → face_of (faces_of t.defs) n ≡ Some v
    grow = (box b autos is).grow

    first_below : RulesFit t.face (below_tops first)
    first_below = rules_here (below_tops first)
        (below_fits S (faces_of (box b autos is).before) (faces_of t.defs) grow f input rules.0)

    last_below : RulesFit t.face (below_tops last)
    last_below = rules_here (below_tops last)
        (below_fits S (faces_of (box b autos is).before) (faces_of t.defs) grow f output rules.1.0)

    in_slots : (z : Rule) → IsIn z tops.ins → Every (SlotFits t.face st.struct) (symbol_slots z.symbol)
    in_slots z k =
        let m = picked_each (IsTop first) are.ins z k in
        subst (λ (s : ℕ). Every (SlotFits t.face s) (symbol_slots z.symbol)) struct_is
        (slots_here (x b autos is).input (symbol_slots z.symbol)
        (input_rule S t.defs over.table.sound over.insides b autos (box b autos is) f input (output ∷ inner) refl
        ranked.0 rules.0 z m.0 m.1))

    out_slots : (z : Rule) → IsIn z tops.outs → Every (SlotFits t.face st.end) (symbol_slots z.symbol)
    out_slots z k =
        let m = picked_each (IsTop last) are.outs z k in
        slots_here st.end (symbol_slots z.symbol)
        (output_rule S t.defs over.table.sound over.insides b autos (box b autos is) f input output inner refl
        ranked.1.0 rules.1.0 z m.0 m.1 st.end out_is)

    abbrev opened : Rule → Forest
    opened z = open_root bs F i p first z

    pub first_good : (z : Rule) → IsIn z tops.ins → Every (IsGood t.face) (opened z).autos
    first_good z k =
        opened_good i at.root at.top p (Link b, at.state ∷ []) at.slot first (placed_ranked f input ranked.0) z
        (picked_each (IsTop first) are.ins z k).0 st.struct st.datums st.cell first_below (in_slots z k)

    -- the rule at the top of root i, where it has gained slots, is of the same struct
    abbrev g : Rule → Automaton
    g z = grown bs (component_at F.autos i) (top_rule (component_at F.autos i))
        (without p (rule_places (top_rule (component_at F.autos i)))) first z

    own_end : y ≡ At i → st.struct ≡ st.end
    own_end q =
        st.ends i q (top_rule (component_at F.autos i)) (
          top_stands (component_at F.autos i) at.top
              (component_has HasSome F.autos i at.root over.sound.full),
          cell_is (top_rule (component_at F.autos i)).symbol st.struct st.datums st.cell,
        ) (top_in (component_at F.autos i) at.top) st.struct st.datums st.cell

    pub record IsEndRule (c : Automaton) (w : Rule) : Type 0 where
      pub there : IsIn w c.rules
      pub datums : List Datum
      pub cell : IsCellOf w.symbol st.end datums

    own_rule : (z : Rule) → IsIn z tops.ins → y ≡ At i → IsEndRule (g z) (top_rule (g z))
    own_rule z k q =
        let m = (picked_each (IsTop first) are.ins z k).0 in
        let right = placed_ranked f input ranked.0 in
        let base = base_right bs t.defs F over.ranked i p at.root at.top (Link b, at.state ∷ []) at.slot first right z m
        in
        let left = component_has IsRanked F.autos i at.root over.ranked in
        let one = grown_one bs (component_at F.autos i) (top_rule (component_at F.autos i))
        (without p (rule_places (top_rule (component_at F.autos i)))) first z left right m base in
        let r = grown_rule bs (component_at F.autos i) (top_rule (component_at F.autos i))
        (without p (rule_places (top_rule (component_at F.autos i)))) first z left right m base st.struct st.datums
        st.cell in
        let e = top_alone (g z) one r.0 r.1 r.2 in
        record {
          there = top_in (g z) one;
          datums = st.datums;
          cell = subst (λ (s : ℕ). IsCellOf (top_rule (g z)).symbol s st.datums) (own_end q)
              (subst (λ (w : Rule). IsCellOf w.symbol st.struct st.datums) e r.3);
        }

    pub end_rule : (z : Rule) → IsIn z tops.ins → (j : ℕ) → y ≡ At j → (w : Rule)
        → IsIn w (end_rules (opened z) i j tops.ends) → IsEndRule (component_at (opened z).autos j) w
    end_rule z k j q w iw = here (nat_eq i j) refl iw
      where
        here : (v : Bool) → nat_eq i j ≡ v
            → IsIn w (if v then top_rule (component_at (opened z).autos i) ∷ [] else tops.ends)
            → IsEndRule (component_at (opened z).autos j) w
        here true e (inl h) =
            let n : i ≡ j = eqb-true i j e in
            let c : component_at (opened z).autos i ≡ g z = component_set F.autos i (g z) at.root in
            subst (λ (v : ℕ). IsEndRule (component_at (opened z).autos v) w) n
            (subst (λ (v : Rule). IsEndRule (component_at (opened z).autos i) v) (sym h)
            (subst (λ (v : Automaton). IsEndRule v (top_rule v)) (sym c)
            (own_rule z k (q ∙ ap At (sym n)))))
        here true e (inr h) = absurd h
        here false e h =
            let d : j ≢ i = λ n. true≢false (sym (eq-eqb i j (sym n)) ∙ e) in
            let m = picked_each (IsTop (component_at F.autos j)) (are.ends j q) w h in
            let c = is_cell w.symbol m.1.1 in
            let s = st.ends j q w m.1 m.0 c.0 c.1 c.2 in
            subst (λ (v : Automaton). IsEndRule v w) (sym (component_other F.autos i j (g z) d))
            (record { there = m.0; datums = c.1; cell = subst (λ (n : ℕ). IsCellOf w.symbol n c.1) s c.2 })

    abbrev EndGood : Rule → Forest → Type 0
    EndGood z G = Every (IsGood t.face) G.autos × (G.data_vars ≡ (opened z).data_vars)

    same_good : (z : Rule) → IsIn z tops.ins → (G : Forest) → G ≡ opened z → EndGood z G
    same_good z k G e =
        subst (λ (H : Forest). EndGood z H) (sym e) (first_good z k, refl)

    grown_end : (z : Rule) → IsIn z tops.ins → (j : ℕ) → y ≡ At j → (G : Forest)
        → IsIn G (grown_roots bs (opened z) j (end_rules (opened z) i j tops.ends) last tops.outs) → EndGood z G
    grown_end z k j q G m =
        let w = flat_in (λ (w : Rule). map (grow_root bs (opened z) j last w) tops.outs)
        (end_rules (opened z) i j tops.ends) G m in
        let o = in_mapped (grow_root bs (opened z) j last w.0) G tops.outs w.2 in
        let c : Automaton = component_at (opened z).autos j in
        let l : j < length (opened z).autos =
        subst (λ (n : ℕ). j < n) (sym (length-set F.autos i (g z))) (at.end j q) in
        let good : IsGood t.face c = component_has (IsGood t.face) (opened z).autos j l (first_good z k) in
        let e = end_rule z k j q w.0 w.1 in
        let fit = every_in (λ (r : Rule). SymbolFits t.face r.symbol) c.rules w.0 good.1 e.there in
        subst (λ (H : Forest). EndGood z H) (sym o.2) (
          every_set (IsGood t.face) (opened z).autos j (grown bs c w.0 (rule_places w.0) last o.0) (first_good z k)
              (grown_good t.face bs c w.0 (rule_places w.0) last o.0 good (placed_ranked f output ranked.1.0)
              (picked_each (IsTop last) are.outs o.0 o.1).0 (rule_right c w.0 good.0 e.there) st.end e.datums e.cell fit
              last_below
              (rule_slots (SlotFits t.face st.end) w.0 (cell_slots_fit t.face w.0.symbol st.end e.datums e.cell fit))
              (out_slots o.0 o.1)),
          refl,
        )

    end_good : (z : Rule) → IsIn z tops.ins → (u : Target) → u ≡ y → (G : Forest)
        → IsIn G (with_end bs (opened z) i u tops.ends last tops.outs) → EndGood z G
    end_good z k Null e G (inl m) = same_good z k G m
    end_good z k Null e G (inr m) = absurd m
    end_good z k Uninit e G (inl m) = same_good z k G m
    end_good z k Uninit e G (inr m) = absurd m
    end_good z k Dangling e G (inl m) = same_good z k G m
    end_good z k Dangling e G (inr m) = absurd m
    end_good z k (At j) e G m = here (have_no_slots tops.outs) m
      where
        here : (v : Bool) → IsIn G
            (if v then opened z ∷ []
            else grown_roots bs (opened z) j (end_rules (opened z) i j tops.ends) last tops.outs)
            → EndGood z G
        here true (inl m) = same_good z k G m
        here true (inr m) = absurd m
        here false m = grown_end z k j (sym e) G m

    place_in : (v : Automaton) → IsIn v inner → (r : ℕ) × (slice_get autos r ≡ Some v)
    place_in v n = place_of autos v (inr (inr n))

    inner_are : Every (IsGood t.face) (map (placed_auto f) inner)
    inner_are = subst (λ (h : Face). Every (IsGood h) (map (placed_auto f) inner)) same_face
        (inner_good S t.defs b autos (box b autos is) f inner ranked.1.1 rules.1.1 place_in)

    pub links_filled : Every (IsFilled t.face) (link_unfoldings bs F i p y input output inner tops)
    links_filled = in_every (IsFilled t.face) (link_unfoldings bs F i p y input output inner tops)
        (λ G m.
        (let z = flat_in (λ (z : Rule). map (with_inner (map (placed_auto f) inner))
        (with_end bs (opened z) i y tops.ends last tops.outs)) tops.ins G m in
        let o = in_mapped (with_inner (map (placed_auto f) inner)) G
        (with_end bs (opened z.0) i y tops.ends last tops.outs) z.2 in
        let h = end_good z.0 z.1 y refl o.0 o.1 in
        let k : Every (IsGood t.face) (with_inner (map (placed_auto f) inner) o.0).autos =
        every_append (IsGood t.face) o.0.autos (map (placed_auto f) inner) h.0 inner_are in
        filled_of t F over G (subst (λ (H : Forest). Every (IsGood t.face) H.autos) (sym o.2) k)
        (ap (λ (H : Forest). H.data_vars) o.2 ∙ h.1)
        (link_trees_filled t F over i p b y input output inner tops at is are G m)))

  -- A Hook.

  module _ (i p b : ℕ) (input : Automaton) (inner : List Automaton) (ins : List Rule) (at : IsHookAt F i p b)
      (is : inside_of t.defs b ≡ Some (input ∷ inner)) (are : AreHookTops F i input ins) where
    abbrev hook_autos : List Automaton
    hook_autos = input ∷ inner

    abbrev hook_leaf : ℕ → Target
    hook_leaf = outside_hook i (length F.autos)

    abbrev port : Automaton
    port = placed_auto hook_leaf input

    abbrev hs : HookStructs t F over i p b
    hs = hook_structs t F over i p b at

    hook_struct_is : (x b hook_autos is).input ≡ hs.hook_struct
    hook_struct_is = sym (ap (λ (v : BoxFace). v.input) (same_box b hook_autos is hs.hook_face hs.hook_is))
        ∙ hs.hook_input

    hook_out_is : (x b hook_autos is).output ≡ None
    hook_out_is = sym (ap (λ (v : BoxFace). v.output) (same_box b hook_autos is hs.hook_face hs.hook_is))
        ∙ hs.hook_output

    hook_ranked : Every IsRanked hook_autos
    hook_ranked = ranked_inside t.defs b hook_autos over.insides is

    hook_rules : InsideRulesFit (lower b hook_autos is) (port_fields (x b hook_autos is) None) hook_autos
    hook_rules = inside_rules b hook_autos is None hook_out_is

    hook_below : RulesFit t.face (below_tops port)
    hook_below = rules_here (below_tops port)
        (below_fits S (faces_of (box b hook_autos is).before) (faces_of t.defs) (box b hook_autos is).grow hook_leaf
        input hook_rules.0)

    pub hook_good : (z : Rule) → IsIn z ins → Every (IsGood t.face) (open_root bs F i p port z).autos
    hook_good z k =
        let m = picked_each (IsTop port) are z k in
        opened_good i at.root at.top p (Hook b, []) at.slot port (placed_ranked hook_leaf input hook_ranked.0) z m.0
        hs.hook_struct hs.hook_datums hs.hook_cell hook_below
        (subst (λ (s : ℕ). Every (SlotFits t.face s) (symbol_slots z.symbol)) hook_struct_is
        (slots_here (x b hook_autos is).input (symbol_slots z.symbol)
        (input_rule S t.defs over.table.sound over.insides b hook_autos (box b hook_autos is) hook_leaf input inner refl
        hook_ranked.0 hook_rules.0 z m.0 m.1)))

    hook_inner : Every (IsGood t.face) (map (placed_auto hook_leaf) inner)
    hook_inner = subst (λ (h : Face). Every (IsGood h) (map (placed_auto hook_leaf) inner)) same_face
        (inner_good S t.defs b hook_autos (box b hook_autos is) hook_leaf inner hook_ranked.1 hook_rules.1
        (λ v n. place_of hook_autos v (inr n)))

    pub hooks_filled : Every (IsFilled t.face) (hook_unfoldings bs F i p input inner ins)
    hooks_filled = in_every (IsFilled t.face) (hook_unfoldings bs F i p input inner ins)
        (λ G m.
        (let z = in_mapped (λ (z : Rule). with_inner (map (placed_auto hook_leaf) inner) (open_root bs F i p port z)) G
        ins m in
        let k : Every (IsGood t.face)
        (with_inner (map (placed_auto hook_leaf) inner) (open_root bs F i p port z.0)).autos =
        every_append (IsGood t.face) (open_root bs F i p port z.0).autos (map (placed_auto hook_leaf) inner)
        (hook_good z.0 z.1) hook_inner in
        filled_of t F over G (subst (λ (H : Forest). Every (IsGood t.face) H.autos) (sym z.2) k)
        (ap (λ (H : Forest). H.data_vars) z.2)
        (hook_trees_filled t F over i p b input inner ins at is are G m)))

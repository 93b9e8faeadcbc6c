-- The facts of all trees of a forest, and of the inside of an edge between two ports.
use Rattle.std.proofs.Common.{◌≡◌, inl, inr, ℕ, zero, suc, ◌+◌, Bool, true, false, nat_eq, List, [], ◌∷◌, ◌++◌}
use Rattle.std.proofs.Common.{flat_map}
use Rattle.std.proofs.Common.{Some, slice_get, length, length-append, refl, sym, ap, subst, ◌∙◌, arith}
use Rattle.std.proofs.lemmas.List.{nil_from_length}
use Rattle.std.proofs.lemmas.Option.{none-some}
use Rattle.fore_base.specs.Lists.{IsIn, Every, Paired}
use Rattle.fore_base.specs.declared.shape.Shape.{Shape}
use Rattle.fore_base.specs.declared.store.Value.{Value}
use Rattle.fore_base.specs.declared.store.Value.TheVariants.{Cell}
use Rattle.fore_base.proofs.ListLemmas.{in_left, in_right}
use Rattle.ta_core.specs.Auto.{Automaton}
use Rattle.ta_core.specs.declared.symbol.Slot.{Slot}
use Rattle.ta_core.specs.declared.tree.Tree.{Tree}
use Rattle.fa_core.specs.declared.boxes.BoxDef.{BoxDef}
use Rattle.fa_core.specs.declared.faces.BoxFace.{BoxFace}
use Rattle.fa_core.specs.declared.faces.Face.{Face}
use Rattle.fa_core.specs.declared.forest.Target.TheVariants.{At}
use Rattle.fa_core.specs.Boxes.{IsPortFilled, InsideFilled}
use Rattle.fa_core.specs.Choices.{bares}
use Rattle.fa_core.specs.Dressed.{Node, Parts, Nodes, node, no_parts, field, link, hook, no_nodes, more, number, Fact}
use Rattle.fa_core.specs.Dressed.{nth_value, roots_of, with_ports, tree_facts, slot_facts, port_facts, forest_facts}
use Rattle.fa_core.specs.Filled.{Spot, spots, covers, HasField, IsFilledSpot, given_at, TreesFilled}
use Rattle.fa_core.specs.Member.{TreesOf, InsidesOf, bare, slots_of}
use Rattle.fa_core.specs.Rearranged.{Rearranged, often}
use Rattle.fa_core.proofs.Counts.{often_same, often_both}
use Rattle.fa_core.proofs.Given.{Tip, tips, tips_of, all_tips, tip_to}
use Rattle.fa_core.proofs.GivenTips.{given_tips}
use Rattle.fa_core.proofs.NodeSpots.{node_spots, spots_are}
use Rattle.fa_core.proofs.Rearranging.{long_same}
use Rattle.fa_core.proofs.SeenCells.{node_structs}
use Rattle.fa_facts.proofs.FactCounts.{if_so, given_n, owed_n, at_cell, at_value, fields_sum}
use Rattle.fa_facts.proofs.FactCounts.{given_append, owed_append}
use Rattle.fa_facts.proofs.RootGifts.{root_sum}
use Rattle.fa_facts.proofs.TreeFields.{Lands, LinkGives, HookGives, tip_sum, tip_append, node_counts, parts_counts}

-- a root that is there is a cell
pub root_is : (d : Nodes) (r t : ℕ) → slice_get (node_structs d) r ≡ Some t
    → (m : ℕ) × (nth_value (roots_of d) r ≡ Cell m)
root_is no_nodes r t e = absurd (none-some t e)
root_is (more (node c s ds ps) ns) zero t e = (c, refl)
root_is (more (node c s ds ps) ns) (suc r) t e = root_is ns r t e

port_sum : (b : Bool) (given owed fields covered above leaves : ℕ) → given ≡ owed + (if_so b covered + leaves)
    → fields ≡ covered + above → given + if_so b above ≡ owed + (if_so b fields + leaves)
port_sum true given owed fields covered above leaves e h = omega (arith, e, h)
port_sum false given owed fields covered above leaves e h = omega (arith, e, h)

-- slots that stand in order, and cover nothing, are none
no_slots : (bs : List BoxFace) (ss : List Slot) → Every (λ s. HasField (covers bs s)) ss
    → length (flat_map (covers bs) ss) ≡ 0 → ss ≡ []
no_slots bs [] h e = refl
no_slots bs (s ∷ ss) h e = first (covers bs s) h.0 e
  where
    first : (xs : List ℕ) → HasField xs → length (xs ++ flat_map (covers bs) ss) ≡ 0 → s ∷ ss ≡ []
    first [] h e = absurd h
    first (x ∷ xs) h e = let z : suc (length (xs ++ flat_map (covers bs) ss)) ≡ 0 = e in absurd (omega (arith, z))

bare_tips : (bs : List BoxFace) (ps : Parts) → slots_of ps ≡ [] → tips_of bs ps ≡ []
bare_tips bs no_parts e = refl
bare_tips bs (field f e ps) h = let z : suc (length (slots_of ps)) ≡ 0 = ap length h in absurd (omega (arith, z))
bare_tips bs (link b i e ps) h = let z : suc (length (slots_of ps)) ≡ 0 = ap length h in absurd (omega (arith, z))
bare_tips bs (hook b i ps) h = let z : suc (length (slots_of ps)) ≡ 0 = ap length h in absurd (omega (arith, z))

-- a port that is given nothing covers nothing, and nothing is given to it
pub idle_port : (bs : List BoxFace) (ss : List Slot) (given : List ℕ) → Rearranged [] (flat_map (covers bs) ss ++ given)
    → (length (flat_map (covers bs) ss) ≡ 0) × (given ≡ [])
idle_port bs ss given r =
    let e : 0 ≡ length (flat_map (covers bs) ss ++ given) = long_same r in
    let h = length-append (flat_map (covers bs) ss) given in
    (omega (arith, e, h), nil_from_length given (omega (arith, e, h)))

module _ (face : Face) (T : List BoxDef) (c f : ℕ) (links : (b : ℕ) → LinkGives face T c f b)
    (hooks : (b : ℕ) → HookGives face T c f b) (d : Nodes) (tops : List ℕ) (vs : List Value)
    (lands : (r t : ℕ) (g : List ℕ) → slice_get tops r ≡ Some t → IsIn (At r, g) (all_tips face.boxes d)
    → Lands g (nth_value vs r)) where
  abbrev hs : List Shape
  hs = face.shapes.structs

  abbrev bs : List BoxFace
  bs = face.boxes

  abbrev all : List Tip
  all = all_tips face.boxes d

  abbrev given_of : List Fact → ℕ
  given_of = given_n hs c f

  abbrev owed_of : List Fact → ℕ
  owed_of = owed_n hs c f

  abbrev leaves : List Tip → ℕ
  leaves = tip_sum face T c f vs

  abbrev roots : List Value → ℕ → ℕ
  roots ws r = root_sum face T c f ws r all

  abbrev ArePart : List Tip → Type 0
  ArePart ts = (p : Tip) → IsIn p ts → IsIn p all

  part_left : (xs ys : List Tip) → ArePart (xs ++ ys) → ArePart xs
  part_left xs ys h p i = h p (in_left p xs ys i)

  part_right : (xs ys : List Tip) → ArePart (xs ++ ys) → ArePart ys
  part_right xs ys h p i = h p (in_right p xs ys i)

  given_root : (r : ℕ) → often f (given_at bs (bares d) r) ≡ often f (flat_map (tip_to r) all)
  given_root r = ap (often f) (given_tips bs r d)

  -- trees whose tops are cells of their own
  pub trees_count : (autos : List Automaton) (ns : Nodes) (r : ℕ) → TreesOf T autos ns
      → TreesFilled face (bares d) tops r (bares ns) → ArePart (all_tips bs ns)
      → given_of (forest_facts vs [] ns) + roots (roots_of ns) r ≡ owed_of (forest_facts vs [] ns)
      + leaves (all_tips bs ns)
  trees_count [] no_nodes r i h p = omega arith
  trees_count (a ∷ autos) no_nodes r i h p = absurd i
  trees_count [] (more n ns) r i h p = absurd i
  trees_count (a ∷ autos) (more n ns) r i h p =
      let q = node_counts face T c f links hooks tops vs all lands n (given_at bs (bares d) r)
      (subst (λ (x : List Spot). Every (IsFilledSpot face tops) x) (spots_are bs n (given_at bs (bares d) r)) h.0) i.1
      (part_left (tips bs n) (all_tips bs ns) p) in
      let u : at_cell hs c f (number n) (often f (given_at bs (bares d) r))
      ≡ at_cell hs c f (number n) (often f (flat_map (tip_to r) all)) = ap (at_cell hs c f (number n)) (given_root r) in
      let e = trees_count autos ns (suc r) i.2 h.1 (part_right (tips bs n) (all_tips bs ns) p) in
      let a = given_append hs c f (tree_facts vs n) (forest_facts vs [] ns) in
      let o = owed_append hs c f (tree_facts vs n) (forest_facts vs [] ns) in
      let t = tip_append face T c f vs (tips bs n) (all_tips bs ns) in
      omega (arith, q, u, e, a, o, t)

  -- a port that is the value v
  port_counts : (v : Value) (n : Node) (r : ℕ) (fields : List ℕ)
      → IsPortFilled face tops fields (spots bs (bare n) (given_at bs (bares d) r)) → InsidesOf T n
      → ArePart (tips bs n) → Lands fields v
      → given_of (port_facts vs v n) + at_value hs c f v (often f (flat_map (tip_to r) all))
      ≡ owed_of (port_facts vs v n) + (at_value hs c f v (often f fields) + leaves (tips bs n))
  port_counts v (node m s ds ps) r fields h i p l = by_value v l
    where
      k : IsPortFilled face tops fields (node_spots bs (node m s ds ps) (given_at bs (bares d) r))
      k = subst (λ (x : List Spot). IsPortFilled face tops fields x)
          (spots_are bs (node m s ds ps) (given_at bs (bares d) r)) h

      by_value : (v : Value) → Lands fields v
          → given_of (port_facts vs v (node m s ds ps)) + at_value hs c f v (often f (flat_map (tip_to r) all))
          ≡ owed_of (port_facts vs v (node m s ds ps)) + (at_value hs c f v (often f fields) + leaves (tips_of bs ps))
      by_value v (inl l) = subst
          (λ (w : Value). given_of (port_facts vs w (node m s ds ps)) + at_value hs c f w
          (often f (flat_map (tip_to r) all))
          ≡ owed_of (port_facts vs w (node m s ds ps)) + (at_value hs c f w (often f fields) + leaves (tips_of bs ps)))
          (sym l.1)
          (let q = parts_counts face T c f links hooks tops vs all lands l.0 s ps k.0.ends k.1 i p in
          let e : often f fields ≡ often f (flat_map (covers bs) (slots_of ps)) + often f (flat_map (tip_to r) all) =
          often_same f k.0.once ∙ often_both f (flat_map (covers bs) (slots_of ps)) (given_at bs (bares d) r)
          ∙ ap (λ (z : ℕ). often f (flat_map (covers bs) (slots_of ps)) + z) (given_root r) in
          port_sum (nat_eq c l.0) (given_of (slot_facts vs l.0 ps)) (owed_of (slot_facts vs l.0 ps)) (often f fields)
          (often f (flat_map (covers bs) (slots_of ps))) (often f (flat_map (tip_to r) all))
          (leaves (tips_of bs ps)) q e)
      by_value v (inr l) = subst
          (λ (w : Value). given_of (port_facts vs w (node m s ds ps)) + at_value hs c f w
          (often f (flat_map (tip_to r) all))
          ≡ owed_of (port_facts vs w (node m s ds ps)) + (at_value hs c f w (often f fields) + leaves (tips_of bs ps)))
          (sym l.0)
          (let o = k.0.once in
          let y = idle_port bs (slots_of ps) (given_at bs (bares d) r)
          (subst (λ (z : List ℕ). Rearranged z (flat_map (covers bs) (slots_of ps) ++ given_at bs (bares d) r)) l.1 o)
          in
          let z : tips_of bs ps ≡ [] = bare_tips bs ps (no_slots bs (slots_of ps) k.0.order.0 y.0) in
          rw z (omega arith))

  -- the trees of inner roots
  inner_filled : (ts : List Tree) (r : ℕ) → InsideFilled face (bares d) tops r [] ts
      → TreesFilled face (bares d) tops r ts
  inner_filled [] r h = tt
  inner_filled (t ∷ ts) r h = (h.0, inner_filled ts (suc r) h.1)

  -- the facts of the trees from root r on, of which the first are ports with these values and fields
  pub ports_count : (autos : List Automaton) (ns : Nodes) (r : ℕ) (values : List Value) (fields : List (List ℕ))
      → TreesOf T autos ns → InsideFilled face (bares d) tops r fields (bares ns) → ArePart (all_tips bs ns)
      → Paired Lands fields values
      → given_of (forest_facts vs values ns) + roots (with_ports values ns) r ≡ owed_of (forest_facts vs values ns)
      + (fields_sum hs c f values fields + leaves (all_tips bs ns))
  ports_count autos ns r [] [] i h p l =
      let e = trees_count autos ns r i (inner_filled (bares ns) r h) p in omega (arith, e)
  ports_count autos ns r [] (fs ∷ fields) i h p l = absurd l
  ports_count autos ns r (v ∷ values) [] i h p l = absurd l
  ports_count [] no_nodes r (v ∷ values) (fs ∷ fields) i h p l =
      let z : suc (length fields) ≡ 0 = ap length h in absurd (omega (arith, z))
  ports_count (a ∷ autos) no_nodes r (v ∷ values) (fs ∷ fields) i h p l = absurd i
  ports_count [] (more n ns) r (v ∷ values) (fs ∷ fields) i h p l = absurd i
  ports_count (a ∷ autos) (more n ns) r (v ∷ values) (fs ∷ fields) i h p l =
      let q = port_counts v n r fs h.0 i.1 (part_left (tips bs n) (all_tips bs ns) p) l.0 in
      let e = ports_count autos ns (suc r) values fields i.2 h.1 (part_right (tips bs n) (all_tips bs ns) p) l.1 in
      let a = given_append hs c f (port_facts vs v n) (forest_facts vs values ns) in
      let o = owed_append hs c f (port_facts vs v n) (forest_facts vs values ns) in
      let t = tip_append face T c f vs (tips bs n) (all_tips bs ns) in
      omega (arith, q, e, a, o, t)

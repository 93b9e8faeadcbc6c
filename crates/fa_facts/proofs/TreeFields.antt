-- The facts of a tree: how often they give a field to a cell, where its cells are filled and insides give what faces
-- say.
use Rattle.std.proofs.Common.{◌≡◌, ◌⊎◌, inl, inr, ℕ, ◌+◌, Bool, true, false, nat_eq, List, [], ◌∷◌, ◌++◌, flat_map}
use Rattle.std.proofs.Common.{Some, None, slice_get, refl, sym, ap, subst, ◌∙◌, arith}
use Rattle.fore_base.specs.Lists.{IsIn, Every}
use Rattle.fore_base.specs.declared.shape.Shape.{Shape}
use Rattle.fore_base.specs.declared.store.Value.{Value}
use Rattle.fore_base.specs.declared.store.Value.TheVariants.{Dangling as DanglingValue, Cell}
use Rattle.fore_base.proofs.ListLemmas.{every_parts, in_left, in_right}
use Rattle.ta_core.specs.Auto.{Automaton}
use Rattle.ta_core.specs.declared.symbol.Symbol.TheVariants.{Dangling as DanglingSymbol, Ref}
use Rattle.ta_core.specs.declared.tree.Tree.{out-Tree}
use Rattle.fa_core.specs.declared.boxes.BoxDef.{BoxDef}
use Rattle.fa_core.specs.declared.faces.BoxFace.{BoxFace}
use Rattle.fa_core.specs.declared.faces.Face.{Face}
use Rattle.fa_core.specs.declared.forest.Target.{Target}
use Rattle.fa_core.specs.declared.forest.Target.TheVariants.{Null, Uninit, Dangling, At}
use Rattle.fa_core.specs.Dressed.{Node, Parts, End, Nodes, node, no_parts, field, link, hook, under, leaf, number}
use Rattle.fa_core.specs.Dressed.{value_in, nth_value, end_value, Fact, tree_facts, slot_facts, end_facts}
use Rattle.fa_core.specs.Dressed.{inside_facts}
use Rattle.fa_core.specs.Filled.{NamesStruct, EndsFit, IsFilledSpot, covers, fields_in, fields_of, gives_in_of}
use Rattle.fa_core.specs.Member.{TreesOf, InsidesOf, InsidesOfParts, InsidesOfEnd, inside_of, slots_of, bare_end}
use Rattle.fa_core.specs.Rearranged.{often}
use Rattle.fa_core.specs.Ways.{gives_out_of, fields_out}
use Rattle.fa_core.proofs.Counts.{often_same, often_both}
use Rattle.fa_core.proofs.Dressing.{leaf_top}
use Rattle.fa_core.proofs.Given.{Tip, tips, tips_of, end_tips}
use Rattle.fa_core.proofs.NodeSpots.{node_spots, parts_spots, end_spots, end_symbols, one_leaf}
use Rattle.fa_facts.proofs.FactCounts.{if_so, given_n, owed_n, at_cell, at_value, nothing_at, owed_head, given_points}
use Rattle.fa_facts.proofs.FactCounts.{given_append, owed_append}

-- an edge that gives these fields ends at a cell, or in Dangling where it gives nothing
abbrev pub Lands : List ℕ → Value → Type 0
Lands g w = ((m : ℕ) × (w ≡ Cell m)) ⊎ ((w ≡ DanglingValue) × (g ≡ []))

-- What the inside of an edge gives: the fields of its box's face to its ports, and to its cells those of their structs.
module _ (face : Face) (T : List BoxDef) (c f : ℕ) where
  abbrev pub LinkGives : ℕ → Type 0
  LinkGives b = (x : BoxFace) (t : ℕ) (autos : List Automaton) (i : Nodes) (m : ℕ) (w : Value)
      → slice_get face.boxes b ≡ Some x → x.output ≡ Some t → inside_of T b ≡ Some autos → TreesOf T autos i
      → Lands x.gives_out w
      → given_n face.shapes.structs c f (inside_facts (Cell m ∷ (w ∷ [])) i)
      ≡ owed_n face.shapes.structs c f (inside_facts (Cell m ∷ (w ∷ [])) i)
      + (at_cell face.shapes.structs c f m (often f x.gives_in)
      + at_value face.shapes.structs c f w (often f x.gives_out))

  abbrev pub HookGives : ℕ → Type 0
  HookGives b = (x : BoxFace) (autos : List Automaton) (i : Nodes) (m : ℕ)
      → slice_get face.boxes b ≡ Some x → x.output ≡ None → inside_of T b ≡ Some autos → TreesOf T autos i
      → given_n face.shapes.structs c f (inside_facts (Cell m ∷ []) i)
      ≡ owed_n face.shapes.structs c f (inside_facts (Cell m ∷ []) i)
      + at_cell face.shapes.structs c f m (often f x.gives_in)

-- Sums.

cell_sum : (b : Bool) (given owed fields covered above leaves : ℕ) → given ≡ owed + (if_so b covered + leaves)
    → fields ≡ covered + above → given + if_so b above ≡ (if_so b fields + owed) + leaves
cell_sum true given owed fields covered above leaves e h = omega (arith, e, h)
cell_sum false given owed fields covered above leaves e h = omega (arith, e, h)

pub so_both : (b : Bool) (j k : ℕ) → if_so b (j + k) ≡ if_so b j + if_so b k
so_both true j k = refl
so_both false j k = refl

module _ (face : Face) (T : List BoxDef) (c f : ℕ) where
  -- the structs of the face
  abbrev hs : List Shape
  hs = face.shapes.structs

  -- what the leaves give to the cell, by what the roots are
  abbrev pub tip_sum : List Value → List Tip → ℕ
  tip_sum vs [] = 0
  tip_sum vs (t ∷ ts) = at_value hs c f (value_in vs t.0) (often f t.1) + tip_sum vs ts

  pub tip_append : (vs : List Value) (xs ys : List Tip) → tip_sum vs (xs ++ ys) ≡ tip_sum vs xs + tip_sum vs ys
  tip_append vs [] ys = omega arith
  tip_append vs (x ∷ xs) ys = let e = tip_append vs xs ys in omega (arith, e)

module _ (face : Face) (T : List BoxDef) (c f : ℕ) (links : (b : ℕ) → LinkGives face T c f b)
    (hooks : (b : ℕ) → HookGives face T c f b) (tops : List ℕ) (vs : List Value) (all : List Tip)
    (lands : (r t : ℕ) (g : List ℕ) → slice_get tops r ≡ Some t → IsIn (At r, g) all → Lands g (nth_value vs r)) where
  abbrev ArePart : List Tip → Type 0
  ArePart ts = (p : Tip) → IsIn p ts → IsIn p all

  part_left : (xs ys : List Tip) → ArePart (xs ++ ys) → ArePart xs
  part_left xs ys h p i = h p (in_left p xs ys i)

  part_right : (xs ys : List Tip) → ArePart (xs ++ ys) → ArePart ys
  part_right xs ys h p i = h p (in_right p xs ys i)

  -- the fields that box b gives, by its face
  gives_by : (b : ℕ) (x : BoxFace) → slice_get face.boxes b ≡ Some x → gives_out_of face.boxes b ≡ x.gives_out
  gives_by b x e = ap fields_out e

  link_lands : (g : List ℕ) (t : ℕ) (e : End)
      → NamesStruct tops (out-Tree (bare_end e)).symbol t
      ⊎ (((out-Tree (bare_end e)).symbol ≡ DanglingSymbol) × (g ≡ []))
      → ArePart (end_tips face.boxes g e) → Lands g (end_value vs e)
  link_lands g t (under n) h p = inl (number n, refl)
  link_lands g t (leaf Null) (inl h) p = let z : ⊥ = rw (leaf_top Null) at h in absurd z
  link_lands g t (leaf Uninit) (inl h) p = let z : ⊥ = rw (leaf_top Uninit) at h in absurd z
  link_lands g t (leaf Dangling) (inl h) p = let z : ⊥ = rw (leaf_top Dangling) at h in absurd z
  link_lands g t (leaf (At r)) (inl h) p = let z : NamesStruct tops (Ref r) t = rw (leaf_top (At r)) at h in
      lands r t g z (p (At r, g) (inl refl))
  link_lands g t (leaf u) (inr h) p = inr (dangles u h.0, h.1)
    where
      dangles : (u : Target) → (out-Tree (bare_end (leaf u))).symbol ≡ DanglingSymbol → value_in vs u ≡ DanglingValue
      dangles u h = ap (value_in vs) (one_leaf u Dangling (sym (leaf_top u) ∙ h))

  -- the structs and boxes of the face
  abbrev ss : List Shape
  ss = face.shapes.structs

  abbrev bs : List BoxFace
  bs = face.boxes

  abbrev given_of : List Fact → ℕ
  given_of = given_n ss c f

  abbrev owed_of : List Fact → ℕ
  owed_of = owed_n ss c f

  abbrev leaves : List Tip → ℕ
  leaves = tip_sum face T c f vs

  mutual
    pub node_counts : (n : Node) (above : List ℕ) → Every (IsFilledSpot face tops) (node_spots bs n above)
        → InsidesOf T n
        → ArePart (tips bs n)
        → given_of (tree_facts vs n) + at_cell ss c f (number n) (often f above) ≡ owed_of (tree_facts vs n)
        + leaves (tips bs n)
    node_counts (node m s ds ps) above h i p =
        let q = parts_counts m s ps h.0.ends h.1 i p in
        let e : often f (fields_of ss s) ≡ often f (flat_map (covers bs) (slots_of ps)) + often f above =
        often_same f h.0.once ∙ often_both f (flat_map (covers bs) (slots_of ps)) above in
        cell_sum (nat_eq c m) (given_of (slot_facts vs m ps)) (owed_of (slot_facts vs m ps)) (often f (fields_of ss s))
        (often f (flat_map (covers bs) (slots_of ps))) (often f above) (leaves (tips_of bs ps)) q e
        ∙ ap (λ (k : ℕ). k + leaves (tips_of bs ps)) (sym (owed_head ss c f m s ds (slot_facts vs m ps)))

    pub parts_counts : (m s : ℕ) (ps : Parts) → EndsFit face tops s (slots_of ps) (end_symbols ps)
        → Every (IsFilledSpot face tops) (parts_spots bs ps) → InsidesOfParts T ps → ArePart (tips_of bs ps)
        → given_of (slot_facts vs m ps) ≡ owed_of (slot_facts vs m ps)
        + (at_cell ss c f m (often f (flat_map (covers bs) (slots_of ps))) + leaves (tips_of bs ps))
    parts_counts m s no_parts w h i p = let z : at_cell ss c f m 0 ≡ 0 = nothing_at ss c f (Cell m) in omega (arith, z)
    parts_counts m s (field g e ps) w h i p =
        let k = every_parts (IsFilledSpot face tops) (end_spots bs [] e) (parts_spots bs ps) h in
        let q = parts_counts m s ps w.1 k.1 i.1 (part_right (end_tips bs [] e) (tips_of bs ps) p) in
        let r : given_of (end_facts vs e) + at_value ss c f (end_value vs e) 0 ≡ owed_of (end_facts vs e)
        + leaves (end_tips bs [] e) = end_counts [] e k.0 i.0 (part_left (end_tips bs [] e) (tips_of bs ps) p) in
        let z = nothing_at ss c f (end_value vs e) in
        let a = given_points ss c f m g (end_value vs e) (end_facts vs e ++ slot_facts vs m ps) in
        let b = given_append ss c f (end_facts vs e) (slot_facts vs m ps) in
        let o = owed_append ss c f (end_facts vs e) (slot_facts vs m ps) in
        let t = tip_append face T c f vs (end_tips bs [] e) (tips_of bs ps) in
        let u : at_cell ss c f m (often f (flat_map (covers bs) (slots_of (field g e ps)))) ≡ at_cell ss c f m
        (often f (g ∷ []))
        + at_cell ss c f m (often f (flat_map (covers bs) (slots_of ps))) =
        ap (at_cell ss c f m) (often_both f (g ∷ []) (flat_map (covers bs) (slots_of ps)))
        ∙ so_both (nat_eq c m) (often f (g ∷ [])) (often f (flat_map (covers bs) (slots_of ps))) in
        omega (arith, q, r, z, a, b, o, t, u)
    parts_counts m s (link b d e ps) w h i p =
        let g : List ℕ = gives_out_of bs b in
        let k = every_parts (IsFilledSpot face tops) (end_spots bs (gives_out_of bs b) e) (parts_spots bs ps) h in
        let q = parts_counts m s ps w.1 k.1 i.2 (part_right (end_tips bs (gives_out_of bs b) e) (tips_of bs ps) p) in
        let r = end_counts (gives_out_of bs b) e k.0 i.1
        (part_left (end_tips bs (gives_out_of bs b) e) (tips_of bs ps) p) in
        let x = w.0.0 in
        let y = gives_by b w.0.0 w.0.2 in
        let n = link_lands x.gives_out w.0.1 e w.0.5
        (subst (λ (z : List ℕ). ArePart (end_tips bs z e)) y
        (part_left (end_tips bs (gives_out_of bs b) e) (tips_of bs ps) p)) in
        let l = links b w.0.0 w.0.1 i.0.0 d m (end_value vs e) w.0.2 w.0.4 i.0.1 i.0.2 n in
        let v : at_value ss c f (end_value vs e) (often f (gives_out_of bs b)) ≡ at_value ss c f (end_value vs e)
        (often f w.0.0.gives_out) =
        ap (λ (z : List ℕ). at_value ss c f (end_value vs e) (often f z)) y in
        let a = given_append ss c f (inside_facts (Cell m ∷ (end_value vs e ∷ [])) d)
        (end_facts vs e ++ slot_facts vs m ps) in
        let a2 = given_append ss c f (end_facts vs e) (slot_facts vs m ps) in
        let o = owed_append ss c f (inside_facts (Cell m ∷ (end_value vs e ∷ [])) d)
        (end_facts vs e ++ slot_facts vs m ps) in
        let o2 = owed_append ss c f (end_facts vs e) (slot_facts vs m ps) in
        let t = tip_append face T c f vs (end_tips bs (gives_out_of bs b) e) (tips_of bs ps) in
        let u : at_cell ss c f m (often f (flat_map (covers bs) (slots_of (link b d e ps)))) ≡ at_cell ss c f m
        (often f w.0.0.gives_in)
        + at_cell ss c f m (often f (flat_map (covers bs) (slots_of ps))) =
        ap (at_cell ss c f m) (often_both f (gives_in_of bs b) (flat_map (covers bs) (slots_of ps)))
        ∙ so_both (nat_eq c m) (often f (gives_in_of bs b)) (often f (flat_map (covers bs) (slots_of ps)))
        ∙ ap (λ (z : List ℕ). at_cell ss c f m (often f z) + at_cell ss c f m
        (often f (flat_map (covers bs) (slots_of ps)))) (ap fields_in w.0.2) in
        omega (arith, q, r, l, v, a, a2, o, o2, t, u)
    parts_counts m s (hook b d ps) w h i p =
        let q = parts_counts m s ps w.1 h i.1 p in
        let l = hooks b w.0.0 i.0.0 d m w.0.1 w.0.3 i.0.1 i.0.2 in
        let a = given_append ss c f (inside_facts (Cell m ∷ []) d) (slot_facts vs m ps) in
        let o = owed_append ss c f (inside_facts (Cell m ∷ []) d) (slot_facts vs m ps) in
        let u : at_cell ss c f m (often f (flat_map (covers bs) (slots_of (hook b d ps)))) ≡ at_cell ss c f m
        (often f w.0.0.gives_in)
        + at_cell ss c f m (often f (flat_map (covers bs) (slots_of ps))) =
        ap (at_cell ss c f m) (often_both f (gives_in_of bs b) (flat_map (covers bs) (slots_of ps)))
        ∙ so_both (nat_eq c m) (often f (gives_in_of bs b)) (often f (flat_map (covers bs) (slots_of ps)))
        ∙ ap (λ (z : List ℕ). at_cell ss c f m (often f z) + at_cell ss c f m
        (often f (flat_map (covers bs) (slots_of ps)))) (ap fields_in w.0.1) in
        omega (arith, q, l, a, o, u)

    end_counts : (g : List ℕ) (e : End) → Every (IsFilledSpot face tops) (end_spots bs g e) → InsidesOfEnd T e
        → ArePart (end_tips bs g e)
        → given_of (end_facts vs e) + at_value ss c f (end_value vs e) (often f g) ≡ owed_of (end_facts vs e)
        + leaves (end_tips bs g e)
    end_counts g (under n) h i p = node_counts n g h i p
    end_counts g (leaf t) h i p = omega arith

-- A worked table of three boxes. The second leads from a head, which has data, to an item of a doubly linked list; its
-- inside uses the first box, the edge dll, below its input. The third is the second under another name.
use Rattle.std.proofs.Common.{◌≡◌, ◌<◌, ◌⊎◌, inl, inr, ℕ, false, true≢false, List, [], ◌∷◌, length}
use Rattle.std.proofs.Common.{refl, sym, ap, subst, ◌∙◌, Some, arith}
use Rattle.std.proofs.lemmas.Option.{same_Some}
use Rattle.fore_base.specs.Lists.{IsIn, IsDistinct, Every}
use Rattle.fore_base.specs.declared.shape.FieldDef.{FieldDef}
use Rattle.fore_base.specs.declared.shape.FieldKind.TheVariants.{Pointer, Datum as DatumField}
use Rattle.fore_base.specs.declared.shape.Shape.{Shape}
use Rattle.fore_base.specs.declared.shape.Shapes.{Shapes}
use Rattle.fore_base.specs.declared.store.Value.{Value}
use Rattle.fore_base.specs.declared.store.Value.TheVariants.{Null as NullValue, Cell as CellValue}
use Rattle.ta_core.specs.Auto.{Automaton}
use Rattle.ta_core.specs.Language.{InLanguage}
use Rattle.ta_core.specs.declared.auto.Rule.{Rule}
use Rattle.ta_core.specs.declared.symbol.Slot.TheVariants.{Field, Link}
use Rattle.ta_core.specs.declared.symbol.Symbol.TheVariants.{Null, Ref, Cell}
use Rattle.ta_core.specs.declared.tree.Tree.{Tree}
use Rattle.fa_core.specs.declared.boxes.BoxDef.{BoxDef}
use Rattle.fa_core.specs.declared.faces.BoxFace.{BoxFace}
use Rattle.fa_core.specs.declared.faces.Face.{Face}
use Rattle.fa_core.specs.declared.forest.Target.TheVariants.{Null as NullTarget, At}
use Rattle.fa_core.specs.Boxes.{PortRulesFit, IsChild, CoverSome, IsPortFilled, InsideFits, Reaches, named, through}
use Rattle.fa_core.specs.Boxes.{OutFits, IsReached, LeadsNowhere, SoundBox, AreSoundOver, IsBoxTable}
use Rattle.fa_core.specs.Canonical.{RefersTo}
use Rattle.fa_core.specs.Choices.{bares}
use Rattle.fa_core.specs.Dressed.{Fact, Head, Points, Node, Nodes, node, no_parts, field, link, under, leaf, no_nodes}
use Rattle.fa_core.specs.Dressed.{more}
use Rattle.fa_core.specs.Dressed.{inside_facts}
use Rattle.fa_core.specs.Filled.{Choice, IsFilledSpot, HasField, spots, given_at, RulesFit}
use Rattle.fa_core.specs.Folding.{covered_fields}
use Rattle.fa_core.specs.Member.{TreesOf, bare}
use Rattle.fa_core.specs.Rearranged.{empty, keep}
use Rattle.fa_core.specs.Ways.{signature}
use Rattle.fa_core.proofs.Dressing.{leaf_top, cell_top}
use Rattle.fa_core.proofs.GivenTips.{given_tips}
use Rattle.fa_core.proofs.NodeRuns.{NodeRun, node_bare}
use Rattle.fa_core.proofs.NodeSpots.{spots_are}
use Rattle.fa_core.proofs.ReachedEnds.{reached_ends, cell_of_value}
use Rattle.fa_core.proofs.RowsBoxes.{port, port_node, port_runs, port_single, port_rules, single_covers, box_face}
use Rattle.fa_core.proofs.RowsBoxes.{dll_box}
use Rattle.fa_core.proofs.RowsBoxes.{dll_sound, inside_is}
use Rattle.fa_core.proofs.RowsCanonical.{rule}
use Rattle.fa_core.proofs.SameTrees.{NodesOf, one_more, no_more, node_of, field_of, link_of, none_of, under_of, leaf_of}
use Rattle.fa_core.proofs.SameTrees.{single_nodes}
use Rattle.fa_core.proofs.SeenCells.{structs_tops}
use Rattle.fa_core.proofs.SingleTrees.{IsSingle, same_tree, single_tree, single_choice}
use Rattle.fa_core.proofs.WaysOf.{tree_roots}

-- An item has the pointers next and prev to items, a head a datum and the pointer first to an item.

abbrev to_item : FieldDef
to_item = record { name = []; kind = Pointer 0 }

abbrev pub chain_structs : List Shape
chain_structs =
    record { name = []; fields = to_item ∷ to_item ∷ [] }
    ∷ record { name = []; fields = record { name = []; kind = DatumField } ∷ to_item ∷ [] }
    ∷ []

-- The second box: the head's first is a cell of its own, from which the edge dll leads to the inner root, whose next is
-- the output, whose prev is the inner root. The edge gives the inner root its prev.

abbrev pub chain_face : BoxFace
chain_face = record { input = 1; output = Some 0; gives_in = 0 ∷ []; gives_out = 1 ∷ []; back = false }

abbrev top_rule : Rule
top_rule = rule 0 (Cell 1 [] (Field 0 ∷ [])) (1 ∷ [])

abbrev low_rule : Rule
low_rule = rule 1 (Cell 0 [] (Link 0 ∷ Field 1 ∷ [])) (2 ∷ 3 ∷ [])

abbrev pub head_port : Automaton
head_port = record { states = 4; roots = 0 ∷ []; rules = top_rule ∷ low_rule ∷ rule 2 (Ref 2) [] ∷ rule 3 Null [] ∷ [] }

-- the output's prev and the inner root's next are the cells of ports
abbrev chain_autos : List Automaton
chain_autos = head_port ∷ port 1 2 ∷ port 0 1 ∷ []

abbrev pub named_chain : List ℕ → BoxDef
named_chain name = record {
  name = name;
  face = chain_face;
  inside = record { autos = chain_autos; vars = []; data_vars = [] };
}

abbrev low_node : ℕ → Nodes → Node
low_node c i = node c 0 [] (link 0 i (leaf (At 2)) (field 1 (leaf NullTarget) no_parts))

abbrev head_node : ℕ → ℕ → Nodes → Node
head_node c d i = node c 1 [] (field 0 (under (low_node d i)) no_parts)

abbrev pub chain_nodes : Nodes
chain_nodes = more (head_node 0 1 no_nodes) (more (port_node 2 1 2) (more (port_node 3 0 1) no_nodes))

head_runs : InLanguage head_port (bare (head_node 0 1 no_nodes))
head_runs =
    let low : NodeRun head_port.rules 1 (low_node 1 no_nodes) = (
      low_rule,
      inr (inl refl),
      refl,
      refl,
      (
        (rule 2 (Ref 2) [], inr (inr (inl refl)), refl, refl, refl),
        ((rule 3 Null [], inr (inr (inr (inl refl))), refl, refl, refl), tt),
      ),
    ) in
    (0, inl refl, node_bare head_port.rules 0 (head_node 0 1 no_nodes) (top_rule, inl refl, refl, refl, (low, tt)))

head_single : IsSingle head_port
head_single = ((refl, (refl, (refl, (refl, tt)))), (0, refl))

chain_single : Every IsSingle chain_autos
chain_single = (head_single, (port_single 1 2, (port_single 0 1, tt)))

chain_choice : Choice chain_autos (bares chain_nodes)
chain_choice = (head_runs, (port_runs 2 1 2, (port_runs 3 0 1, tt)))

-- Rules: no state stands at the top of the head's tree and below.

no_head_child : IsChild head_port 0 → ⊥
no_head_child (o, inl e, j) =
    elim (subst (λ (x : Rule). IsIn 0 x.children) e j) [ inl i ↦ omega (arith, i) | inr x ↦ x ]
no_head_child (o, inr (inl e), j) = elim (subst (λ (x : Rule). IsIn 0 x.children) e j) [
  | inl i ↦ omega (arith, i)
  | inr k ↦ elim k [ inl i ↦ omega (arith, i) | inr x ↦ x ]
]
no_head_child (o, inr (inr (inl e)), j) = subst (λ (x : Rule). IsIn 0 x.children) e j
no_head_child (o, inr (inr (inr (inl e))), j) = subst (λ (x : Rule). IsIn 0 x.children) e j
no_head_child (o, inr (inr (inr (inr e))), j) = e

low_no_root : IsIn {X = ℕ} 1 (0 ∷ []) → ⊥
low_no_root (inl e) = omega (arith, e)
low_no_root (inr e) = e

-- Over any face and table whose first box is dll.

module _ (others : List BoxFace) (defs : List BoxDef) where
  abbrev bs : List BoxFace
  bs = box_face ∷ others

  abbrev face : Face
  face = record { shapes = record { structs = chain_structs }; boxes = bs }

  abbrev T : List BoxDef
  T = dll_box ∷ defs

  head_rules : PortRulesFit face head_port
  head_rules = record {
    tops = ((λ i. (omega arith, refl, (refl, tt))), ((λ i. absurd (low_no_root i)), ((λ i. tt), ((λ i. tt), tt))));
    inner = (
      (λ w. elim w [ inl n ↦ absurd (n (inl refl)) | inr c ↦ absurd (no_head_child c) ]),
      ((λ w. (omega arith, refl, tt, (refl, (refl, tt)))), ((λ w. tt), ((λ w. tt), tt))),
    );
  }

  inner_rules : RulesFit face (port 0 1)
  inner_rules = ((omega arith, refl, tt, (refl, tt)), (tt, tt))

  -- Fields.

  abbrev tops : List ℕ
  tops = 1 ∷ 0 ∷ 0 ∷ []

  head_filled : IsPortFilled face tops (0 ∷ [])
      (spots bs (bare (head_node 0 1 no_nodes)) (given_at bs (bares chain_nodes) 0))
  head_filled =
      let e = spots_are bs (head_node 0 1 no_nodes) (given_at bs (bares chain_nodes) 0) in
      let g = given_tips bs 0 chain_nodes in
      let t = cell_top 1 0 [] (link 0 no_nodes (leaf (At 2)) (field 1 (leaf NullTarget) no_parts)) in
      let l = leaf_top (At 2) in
      let n = leaf_top NullTarget in
      rw e (
        record { ends = ((0, refl, rw t refl), tt); order = ((tt, tt), tt); once = rw g (keep 0 empty) },
        (
          record {
            ends = ((box_face, 0, refl, refl, refl, inl (rw l refl)), ((0, refl, rw n tt), tt));
            order = ((tt, (tt, tt)), (omega arith, tt));
            once = keep 0 (keep 1 empty);
          },
          tt,
        ),
      )

  output_filled : IsPortFilled face tops (1 ∷ [])
      (spots bs (bare (port_node 2 1 2)) (given_at bs (bares chain_nodes) 1))
  output_filled =
      let e = spots_are bs (port_node 2 1 2) (given_at bs (bares chain_nodes) 1) in
      let g = given_tips bs 1 chain_nodes in
      let l = leaf_top (At 2) in
      rw e (record { ends = ((0, refl, rw l refl), tt); order = ((tt, tt), tt); once = rw g (keep 1 empty) }, tt)

  inner_filled : Every (IsFilledSpot face tops) (spots bs (bare (port_node 3 0 1)) (given_at bs (bares chain_nodes) 2))
  inner_filled =
      let e = spots_are bs (port_node 3 0 1) (given_at bs (bares chain_nodes) 2) in
      let g = given_tips bs 2 chain_nodes in
      let l = leaf_top (At 1) in
      rw e (
        record { ends = ((0, refl, rw l refl), tt); order = ((tt, tt), tt); once = rw g (keep 0 (keep 1 empty)) },
        tt,
      )

  chain_refers : (t : Tree) (k : ℕ) → IsIn t (bares chain_nodes) → RefersTo t k → k < 3
  chain_refers t k (inl e) h =
      elim (rw (tree_roots (head_node 0 1 no_nodes)) at (subst (λ (x : Tree). RefersTo x k) e h))
      [ inl i ↦ omega (arith, i) | inr x ↦ absurd x ]
  chain_refers t k (inr (inl e)) h =
      elim (rw (tree_roots (port_node 2 1 2)) at (subst (λ (x : Tree). RefersTo x k) e h))
      [ inl i ↦ omega (arith, i) | inr x ↦ absurd x ]
  chain_refers t k (inr (inr (inl e))) h =
      elim (rw (tree_roots (port_node 3 0 1)) at (subst (λ (x : Tree). RefersTo x k) e h))
      [ inl i ↦ omega (arith, i) | inr x ↦ absurd x ]
  chain_refers t k (inr (inr (inr e))) h = absurd e

  chain_fits : InsideFits face chain_face (bares chain_nodes)
  chain_fits = record {
    tops = tops;
    are = structs_tops chain_nodes;
    ports = (0 ∷ [], refl);
    refs = chain_refers;
    cells = (head_filled, (output_filled, (inner_filled, refl)));
  }

  -- Reachability: each dressed inside has two cells of its own, and the inside of dll.

  abbrev whole : ℕ → ℕ → ℕ → ℕ → Nodes → Nodes
  whole a l b k i = more (head_node a l i) (more (port_node b 1 2) (more (port_node k 0 1) no_nodes))

  -- l is the cell below the input, k the inner root
  abbrev chain_facts : ℕ → ℕ → ℕ → ℕ → List Fact
  chain_facts c m l k =
      Points c 0 (CellValue l) ∷ Head l 0 [] ∷ Points l 0 (CellValue k) ∷ Points k 1 (CellValue l)
      ∷ Points l 1 NullValue
      ∷ Points m 1 (CellValue k) ∷ Head k 0 [] ∷ Points k 0 (CellValue m) ∷ []

  -- the facts are those, whichever numbers the ports have
  record Known (d : Nodes) : Type 0 where
    l : ℕ
    k : ℕ
    facts : (c m : ℕ) → inside_facts (CellValue c ∷ (CellValue m ∷ [])) d ≡ chain_facts c m l k

  known : (d : Nodes) → TreesOf T chain_autos d → Known d
  known d o = from (single_nodes T chain_autos d chain_nodes chain_single chain_choice o) o
    where
      from : {d : Nodes} → NodesOf d chain_nodes → TreesOf T chain_autos d → Known d
      from
          (one_more
          (node_of (field_of (under_of (node_of {c = l} (link_of {i = i} leaf_of (field_of leaf_of none_of)))) none_of))
          (one_more (node_of (field_of leaf_of none_of))
          (one_more (node_of {c = k} (field_of leaf_of none_of)) no_more))) o =
          let low = o.1.0.0 in
          let same = same_Some dll_box.inside.autos low.0 low.1 in
          let inside = inside_is T i (subst (λ (autos : List Automaton). TreesOf T autos i) (sym same) low.2) in
          record { l = l; k = k; facts = λ c m. (let q = inside.2 in rw q refl) }

  chain_reached : IsReached T chain_face chain_autos
  chain_reached d o c ports p n i = by p.0 p.1 p.2
    where
      w : Known d
      w = known d o

      at : (m : ℕ) → ports ≡ CellValue c ∷ (CellValue m ∷ []) → Reaches (CellValue c ∷ []) (inside_facts ports d) n
      at m e =
          let f = w.facts c m in
          rw (e, f) (here (rw (e, f) at i))
        where
          low : Reaches (CellValue c ∷ []) (chain_facts c m w.l w.k) w.l
          low = through c 0 (named (inl refl)) (inl refl)

          inner : Reaches (CellValue c ∷ []) (chain_facts c m w.l w.k) w.k
          inner = through w.l 0 low (inr (inr (inl refl)))

          out : Reaches (CellValue c ∷ []) (chain_facts c m w.l w.k) m
          out = through w.k 0 inner (inr (inr (inr (inr (inr (inr (inr (inl refl))))))))

          here : IsIn n (w.l ∷ w.k ∷ []) ⊎ IsIn (CellValue n) (CellValue c ∷ CellValue m ∷ [])
              → Reaches (CellValue c ∷ []) (chain_facts c m w.l w.k) n
          here (inl (inl e)) = rw e low
          here (inl (inr (inl e))) = rw e inner
          here (inl (inr (inr x))) = absurd x
          here (inr (inl e)) = named (inl e)
          here (inr (inr (inl e))) = let z : n ≡ m = ap (λ (v : Value). cell_of_value v) e in rw z out
          here (inr (inr (inr x))) = absurd x

      by : (v : Value) → ports ≡ CellValue c ∷ (v ∷ []) → OutFits chain_face v
          → Reaches (CellValue c ∷ []) (inside_facts ports d) n
      by v e (inl (m, x)) = at m (e ∙ ap (λ (u : Value). CellValue c ∷ (u ∷ [])) x)
      by v e (inr x) = absurd (let z : 1 ≡ 0 = ap (λ (l : List ℕ). length l) x.1 in omega (arith, z))

  -- from the output all cells but the input are reached
  chain_nowhere : LeadsNowhere T chain_autos
  chain_nowhere d o c m differ r = by (known d o)
    where
      by : Known d → ⊥
      by w =
          let f = w.facts c m in
          go (rw f at differ) (reached_ends (CellValue m ∷ []) (chain_facts c m w.l w.k) c (rw f at r))
        where
          go : IsDistinct (c ∷ m ∷ w.l ∷ w.k ∷ []) → IsIn c (m ∷ []) ⊎ IsIn c (w.l ∷ w.k ∷ w.l ∷ w.k ∷ m ∷ []) → ⊥
          go apart (inl (inl e)) = apart.0 (inl e)
          go apart (inl (inr x)) = x
          go apart (inr (inl e)) = apart.0 (inr (inl e))
          go apart (inr (inr (inl e))) = apart.0 (inr (inr (inl e)))
          go apart (inr (inr (inr (inl e)))) = apart.0 (inr (inl e))
          go apart (inr (inr (inr (inr (inl e))))) = apart.0 (inr (inr (inl e)))
          go apart (inr (inr (inr (inr (inr (inl e)))))) = apart.0 (inl e)
          go apart (inr (inr (inr (inr (inr (inr x)))))) = x

  -- The box.

  head_covers : CoverSome bs head_port
  head_covers t h =
      let e = cell_top 0 1 [] (field 0 (under (low_node 1 no_nodes)) no_parts) in
      let i = single_tree head_port (bare (head_node 0 1 no_nodes)) t head_single head_runs h in
      subst (λ (x : Tree). HasField (covered_fields bs x)) i (rw e tt)

  chain_choices : (ts : List Tree) → Choice chain_autos ts → bares chain_nodes ≡ ts
  chain_choices ts c = single_choice chain_autos (bares chain_nodes) ts chain_single chain_choice c

  pub chain_sound : (name : List ℕ) → SoundBox face T (named_chain name)
  chain_sound name = record {
    rules = (head_rules, (port_rules face 1 2 (omega arith, refl, (refl, tt)), (inner_rules, tt)));
    full = (
      (bare (head_node 0 1 no_nodes), head_runs),
      ((bare (port_node 2 1 2), port_runs 2 1 2), ((bare (port_node 3 0 1), port_runs 3 0 1), tt)),
    );
    fits = λ ts c. subst (λ (us : List Tree). InsideFits face chain_face us) (chain_choices ts c) chain_fits;
    covers = λ e. (let z : 1 ≡ 0 = ap (λ (l : List ℕ). length l) e in omega (arith, z));
    ports = (single_covers bs head_port head_single, head_covers, single_covers bs (port 1 2) (port_single 1 2));
    in_order = (tt, tt);
    signatures = (
      (λ q p t u x y. ap (signature bs) (same_tree head_port.rules head_single.0 q t u x y)),
      (
        (λ q p t u x y. ap (signature bs) (same_tree (port 1 2).rules (port_single 1 2).0 q t u x y)),
        ((λ q p t u x y. ap (signature bs) (same_tree (port 0 1).rules (port_single 0 1).0 q t u x y)), tt),
      ),
    );
    reached = chain_reached;
    back = ((λ e. absurd (true≢false (sym e))), (λ e. chain_nowhere));
  }

-- The table: dll, c1 and c2.

abbrev chain_one : BoxDef
chain_one = named_chain (99 ∷ 49 ∷ [])

abbrev chain_two : BoxDef
chain_two = named_chain (99 ∷ 50 ∷ [])

abbrev chain_shapes : Shapes
chain_shapes = record { structs = chain_structs }

abbrev no_boxes : Face
no_boxes = record { shapes = chain_shapes; boxes = [] }

abbrev second_byte : List ℕ → ℕ
second_byte (a ∷ b ∷ _) = b
second_byte _ = 0

chain_table : IsBoxTable (record {
  face = record { shapes = chain_shapes; boxes = box_face ∷ chain_face ∷ chain_face ∷ [] };
  defs = dll_box ∷ chain_one ∷ chain_two ∷ [];
})
chain_table = record {
  faces = refl;
  sound = (
    dll_sound no_boxes (omega arith) refl refl [],
    (chain_sound [] [] (99 ∷ 49 ∷ []), (chain_sound (chain_face ∷ []) (chain_one ∷ []) (99 ∷ 50 ∷ []), tt)),
  );
  count = omega arith;
  names = (
    (λ i. elim i [
      | inl e ↦ (let z : 108 ≡ 49 = ap second_byte e in omega (arith, z))
      | inr j ↦ elim j [ inl e ↦ (let z : 108 ≡ 50 = ap second_byte e in omega (arith, z)) | inr x ↦ x ]
    ]),
    ((λ i. elim i [ inl e ↦ (let z : 49 ≡ 50 = ap second_byte e in omega (arith, z)) | inr x ↦ x ]), ((λ i. i), tt)),
  );
  words = (
    (
      inl (omega arith, omega arith),
      (inl (inl (omega arith, omega arith)), (inl (inl (omega arith, omega arith)), tt)),
    ),
    (
      (inl (omega arith, omega arith), (inr (omega arith, omega arith), tt)),
      ((inl (omega arith, omega arith), (inr (omega arith, omega arith), tt)), tt),
    ),
  );
  insides = ((refl, refl), ((refl, refl), ((refl, refl), tt)));
}

-- a box uses boxes before it alone: c1 may not come first
uses_a_later_box : AreSoundOver chain_shapes [] (chain_one ∷ dll_box ∷ []) → ⊥
uses_a_later_box h = (h.0.rules.0.inner.1.0 (inl low_no_root)).3.0

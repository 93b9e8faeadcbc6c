-- A worked box without an output: a ring of its input and one inner root.
use Rattle.std.proofs.Common.{◌≡◌, ◌<◌, ◌⊎◌, inl, inr, ℕ, true, false, true≢false, List, [], ◌∷◌, length}
use Rattle.std.proofs.Common.{refl, ap, subst, Some, None, arith}
use Rattle.fore_base.specs.Lists.{IsIn, Every}
use Rattle.fore_base.specs.declared.store.Value.{Value}
use Rattle.fore_base.specs.declared.store.Value.TheVariants.{Null as NullValue, Cell as CellValue}
use Rattle.ta_core.specs.Auto.{Automaton}
use Rattle.ta_core.specs.Language.{InLanguage}
use Rattle.ta_core.specs.declared.symbol.Slot.TheVariants.{Field}
use Rattle.ta_core.specs.declared.symbol.Symbol.TheVariants.{Null, Ref, Cell}
use Rattle.ta_core.specs.declared.tree.Tree.{Tree}
use Rattle.fa_core.specs.declared.boxes.BoxDef.{BoxDef}
use Rattle.fa_core.specs.declared.faces.BoxFace.{BoxFace}
use Rattle.fa_core.specs.declared.faces.Face.{Face}
use Rattle.fa_core.specs.declared.forest.Target.TheVariants.{Null as NullTarget, At}
use Rattle.fa_core.specs.Boxes.{IsPortFilled, InsideFits, Reaches, named, through, PortsFit, IsReached, BackHolds}
use Rattle.fa_core.specs.Boxes.{SoundBox}
use Rattle.fa_core.specs.Canonical.{RefersTo}
use Rattle.fa_core.specs.Choices.{bares}
use Rattle.fa_core.specs.Dressed.{Fact, Head, Points, Node, Nodes, node, no_parts, field, leaf, no_nodes, more}
use Rattle.fa_core.specs.Dressed.{inside_facts}
use Rattle.fa_core.specs.Filled.{Choice, IsFilledSpot, spots, given_at}
use Rattle.fa_core.specs.Member.{TreesOf, bare}
use Rattle.fa_core.specs.Rearranged.{empty, keep}
use Rattle.fa_core.specs.Ways.{signature}
use Rattle.fa_core.proofs.Dressing.{leaf_top}
use Rattle.fa_core.proofs.GivenTips.{given_tips}
use Rattle.fa_core.proofs.NodeRuns.{node_bare}
use Rattle.fa_core.proofs.NodeSpots.{spots_are}
use Rattle.fa_core.proofs.RowsBoxes.{port, port_node, port_runs, port_single, port_rules, single_covers}
use Rattle.fa_core.proofs.RowsBoxes.{port_covers_some, box_face}
use Rattle.fa_core.proofs.RowsCanonical.{rule}
use Rattle.fa_core.proofs.RowsChains.{chain_structs}
use Rattle.fa_core.proofs.SameTrees.{NodesOf, one_more, no_more, node_of, field_of, none_of, leaf_of, single_nodes}
use Rattle.fa_core.proofs.SeenCells.{structs_tops}
use Rattle.fa_core.proofs.SingleTrees.{IsSingle, same_tree, single_choice}
use Rattle.fa_core.proofs.WaysOf.{tree_roots}

-- The ring: the input's next is the inner root, whose next is the input and whose prev is null.

abbrev pub ring_face : BoxFace
ring_face = record { input = 0; output = None; gives_in = 0 ∷ []; gives_out = []; back = false }

-- an item whose next is root r, and whose prev is null
abbrev pub item : ℕ → Automaton
item r = record {
  states = 3;
  roots = 0 ∷ [];
  rules = rule 0 (Cell 0 [] (Field 0 ∷ Field 1 ∷ [])) (1 ∷ 2 ∷ []) ∷ rule 1 (Ref r) [] ∷ rule 2 Null [] ∷ [];
}

abbrev pub item_node : ℕ → ℕ → Node
item_node c r = node c 0 [] (field 0 (leaf (At r)) (field 1 (leaf NullTarget) no_parts))

pub item_runs : (c r : ℕ) → InLanguage (item r) (bare (item_node c r))
item_runs c r = (
  0,
  inl refl,
  node_bare (item r).rules 0 (item_node c r) (
    rule 0 (Cell 0 [] (Field 0 ∷ Field 1 ∷ [])) (1 ∷ 2 ∷ []),
    inl refl,
    refl,
    refl,
    (
      (rule 1 (Ref r) [], inr (inl refl), refl, refl, refl),
      ((rule 2 Null [], inr (inr (inl refl)), refl, refl, refl), tt),
    ),
  ),
)

pub item_single : (r : ℕ) → IsSingle (item r)
item_single r = ((refl, (refl, (refl, tt))), (0, refl))

abbrev pub ring_autos : List Automaton
ring_autos = port 0 1 ∷ item 0 ∷ []

abbrev pub ring_box : BoxDef
ring_box = record {
  name = 114 ∷ [];
  face = ring_face;
  inside = record { autos = ring_autos; vars = []; data_vars = [] };
}

abbrev ring_nodes : Nodes
ring_nodes = more (port_node 0 0 1) (more (item_node 1 0) no_nodes)

ring_single : Every IsSingle ring_autos
ring_single = (port_single 0 1, (item_single 0, tt))

ring_choice : Choice ring_autos (bares ring_nodes)
ring_choice = (port_runs 0 0 1, (item_runs 1 0, tt))

ring_refers : (t : Tree) (k : ℕ) → IsIn t (bares ring_nodes) → RefersTo t k → k < 2
ring_refers t k (inl e) h =
    elim (rw (tree_roots (port_node 0 0 1)) at (subst (λ (x : Tree). RefersTo x k) e h))
    [ inl i ↦ omega (arith, i) | inr x ↦ absurd x ]
ring_refers t k (inr (inl e)) h =
    elim (rw (tree_roots (item_node 1 0)) at (subst (λ (x : Tree). RefersTo x k) e h))
    [ inl i ↦ omega (arith, i) | inr x ↦ absurd x ]
ring_refers t k (inr (inr e)) h = absurd e

module _ (bs : List BoxFace) (T : List BoxDef) where
  abbrev face : Face
  face = record { shapes = record { structs = chain_structs }; boxes = bs }

  input_filled : IsPortFilled face (0 ∷ 0 ∷ []) (0 ∷ [])
      (spots bs (bare (port_node 0 0 1)) (given_at bs (bares ring_nodes) 0))
  input_filled =
      let e = spots_are bs (port_node 0 0 1) (given_at bs (bares ring_nodes) 0) in
      let g = given_tips bs 0 ring_nodes in
      let l = leaf_top (At 1) in
      rw e (record { ends = ((0, refl, rw l refl), tt); order = ((tt, tt), tt); once = rw g (keep 0 empty) }, tt)

  inner_filled : Every (IsFilledSpot face (0 ∷ 0 ∷ []))
      (spots bs (bare (item_node 1 0)) (given_at bs (bares ring_nodes) 1))
  inner_filled =
      let e = spots_are bs (item_node 1 0) (given_at bs (bares ring_nodes) 1) in
      let g = given_tips bs 1 ring_nodes in
      let l = leaf_top (At 0) in
      let n = leaf_top NullTarget in
      rw e (
        record {
          ends = ((0, refl, rw l refl), ((0, refl, rw n tt), tt));
          order = ((tt, (tt, tt)), (omega arith, tt));
          once = rw g (keep 0 (keep 1 empty));
        },
        tt,
      )

  ring_fits : InsideFits face ring_face (bares ring_nodes)
  ring_fits = record {
    tops = 0 ∷ 0 ∷ [];
    are = structs_tops ring_nodes;
    ports = (0 ∷ [], refl);
    refs = ring_refers;
    cells = (input_filled, (inner_filled, refl));
  }

  -- the facts of an inside at cell c: k is the inner root
  abbrev ring_facts : ℕ → ℕ → List Fact
  ring_facts c k = Points c 0 (CellValue k) ∷ Head k 0 [] ∷ Points k 0 (CellValue c) ∷ Points k 1 NullValue ∷ []

  ring_known : (d : Nodes) → TreesOf T ring_autos d → (k : ℕ)
      × ((c : ℕ) → inside_facts (CellValue c ∷ []) d ≡ ring_facts c k)
  ring_known d o = from (single_nodes T ring_autos d ring_nodes ring_single ring_choice o)
    where
      from : {d : Nodes} → NodesOf d ring_nodes → (k : ℕ)
          × ((c : ℕ) → inside_facts (CellValue c ∷ []) d ≡ ring_facts c k)
      from
          (one_more (node_of (field_of leaf_of none_of))
          (one_more (node_of {c = k} (field_of leaf_of (field_of leaf_of none_of))) no_more)) =
          (k, λ c. refl)

  ring_reached : IsReached T ring_face ring_autos
  ring_reached d o c ports e n i =
      let w = ring_known d o in
      let f = w.1 c in
      rw (e, f) (here w.0 (rw (e, f) at i))
    where
      here : (k : ℕ) → IsIn n (k ∷ []) ⊎ IsIn (CellValue n) (CellValue c ∷ [])
          → Reaches (CellValue c ∷ []) (ring_facts c k) n
      here k (inl (inl x)) = rw x (through c 0 (named (inl refl)) (inl refl))
      here k (inl (inr x)) = absurd x
      here k (inr (inl x)) = named (inl x)
      here k (inr (inr x)) = absurd x

  -- the ring is sound
  pub ring_sound : SoundBox face T ring_box
  ring_sound = record {
    rules = (
      port_rules face 0 1 (omega arith, refl, (refl, tt)),
      (((omega arith, refl, tt, (refl, (refl, tt))), (tt, (tt, tt))), tt),
    );
    full = ((bare (port_node 0 0 1), port_runs 0 0 1), ((bare (item_node 1 0), item_runs 1 0), tt));
    fits = λ ts c. subst (λ (us : List Tree). InsideFits face ring_face us)
        (single_choice ring_autos (bares ring_nodes) ts ring_single ring_choice c) ring_fits;
    covers = λ e. (let z : 1 ≡ 0 = ap (λ (l : List ℕ). length l) e in omega (arith, z));
    ports = (single_covers bs (port 0 1) (port_single 0 1), port_covers_some bs 0 1);
    in_order = (tt, tt);
    signatures = (
      (λ q p t u x y. ap (signature bs) (same_tree (port 0 1).rules (port_single 0 1).0 q t u x y)),
      ((λ q p t u x y. ap (signature bs) (same_tree (item 0).rules (item_single 0).0 q t u x y)), tt),
    );
    reached = ring_reached;
    back = (refl, refl);
  }

-- Ports and ways back of boxes without an output.

-- the one port of such an edge is the cell at which it begins
input_alone : PortsFit ring_face None 7 (CellValue 7 ∷ [])
input_alone = refl

no_port : PortsFit ring_face None 7 [] → ⊥
no_port e = let z : 0 ≡ 1 = ap (λ (l : List Value). length l) e in omega (arith, z)

-- it does not lead back, and gives nothing
leads_back : (T : List BoxDef) → BackHolds T (record ring_face { back = true }) None ring_autos → ⊥
leads_back T h = true≢false h.1

gives_something : (T : List BoxDef) → BackHolds T (record ring_face { gives_out = 1 ∷ [] }) None ring_autos → ⊥
gives_something T h = let z : 1 ≡ 0 = ap (λ (l : List ℕ). length l) h.0 in omega (arith, z)

-- an edge that leads back gives its output something
gives_nothing : (T : List BoxDef) (autos : List Automaton)
    → BackHolds T (record box_face { gives_out = [] }) (Some 0) autos → ⊥
gives_nothing T autos h = (h.0 refl).0 refl

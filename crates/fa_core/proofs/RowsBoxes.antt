-- Worked boxes: one that is sound and leads back, and one that does not lead back.
use Rattle.std.proofs.Common.{◌≡◌, ◌<◌, ◌⊎◌, inl, inr, ℕ, suc, Bool, true, false, true≢false, List, [], ◌∷◌, length}
use Rattle.std.proofs.Common.{refl, sym, ap, ap₂, subst, ◌∙◌, Option, Some, IsSome, arith}
use Rattle.fore_base.specs.Lists.{IsIn}
use Rattle.fore_base.specs.declared.store.Datum.{Datum}
use Rattle.fore_base.specs.declared.store.Value.{Value}
use Rattle.fore_base.specs.declared.store.Value.TheVariants.{Cell as CellValue}
use Rattle.ta_core.specs.Auto.{Automaton}
use Rattle.ta_core.specs.Language.{InLanguage}
use Rattle.ta_core.specs.declared.auto.Rule.{Rule}
use Rattle.ta_core.specs.declared.symbol.Slot.{Slot}
use Rattle.ta_core.specs.declared.symbol.Slot.TheVariants.{Field, Link, Hook}
use Rattle.ta_core.specs.declared.symbol.Symbol.{Symbol}
use Rattle.ta_core.specs.declared.symbol.Symbol.TheVariants.{Ref, Cell}
use Rattle.ta_core.specs.declared.tree.Tree.{Tree, out-Tree, out-roll-Tree}
use Rattle.fa_core.specs.declared.boxes.BoxDef.{BoxDef}
use Rattle.fa_core.specs.declared.faces.BoxFace.{BoxFace}
use Rattle.fa_core.specs.declared.faces.Face.{Face}
use Rattle.fa_core.specs.declared.forest.Target.TheVariants.{At}
use Rattle.fa_core.specs.Boxes.{PortSymbolFits, IsChild, PortRulesFit, CoverAlike, CoverSome, IsPortFilled, InsideFits}
use Rattle.fa_core.specs.Boxes.{Reaches, named, heads, OutFits, IsReached, LeadsUp, BackHolds, SoundBox}
use Rattle.fa_core.specs.Canonical.{RefersTo}
use Rattle.fa_core.specs.Choices.{bares}
use Rattle.fa_core.specs.Dressed.{Node, Parts, End, Nodes, node, no_parts, field, link, hook, under, leaf, no_nodes}
use Rattle.fa_core.specs.Dressed.{more, inside_facts}
use Rattle.fa_core.specs.Filled.{HasField, Choice, spots, given_at, target_of}
use Rattle.fa_core.specs.Folding.{symbol_slots, covered_fields}
use Rattle.fa_core.specs.Member.{TreesOf, bare, bare_parts, bare_end, slots_of}
use Rattle.fa_core.specs.Rearranged.{empty, keep}
use Rattle.fa_core.specs.Ways.{signature}
use Rattle.fa_core.proofs.Dressing.{leaf_top, cell_top, cell_is_no_leaf}
use Rattle.fa_core.proofs.GivenTips.{given_tips}
use Rattle.fa_core.proofs.NodeRuns.{EndRun, node_bare}
use Rattle.fa_core.proofs.NodeSpots.{spots_are, one_leaf}
use Rattle.fa_core.proofs.RowsBack.{dll_inside, dll_down, dll_up}
use Rattle.fa_core.proofs.RowsCanonical.{rule, dll_face}
use Rattle.fa_core.proofs.SameTrees.{first_tree}
use Rattle.fa_core.proofs.SeenCells.{structs_tops}
use Rattle.fa_core.proofs.SingleTrees.{IsSingle, same_tree, single_tree, single_choice}
use Rattle.fa_core.proofs.WaysOf.{tree_roots}

-- The box of a doubly linked list: next at its input, prev at its output.

abbrev pub port : ℕ → ℕ → Automaton
port f r =
    record { states = 2; roots = 0 ∷ []; rules = rule 0 (Cell 0 [] (Field f ∷ [])) (1 ∷ []) ∷ rule 1 (Ref r) [] ∷ [] }

abbrev pub port_node : ℕ → ℕ → ℕ → Node
port_node c f r = node c 0 [] (field f (leaf (At r)) no_parts)

pub port_runs : (c f r : ℕ) → InLanguage (port f r) (bare (port_node c f r))
port_runs c f r =
    let low : EndRun (port f r).rules 1 (leaf (At r)) = (rule 1 (Ref r) [], inr (inl refl), refl, refl, refl) in (
      0,
      inl refl,
      node_bare (port f r).rules 0 (port_node c f r)
          (rule 0 (Cell 0 [] (Field f ∷ [])) (1 ∷ []), inl refl, refl, refl, (low, tt)),
    )

abbrev pub box_face : BoxFace
box_face = record { input = 0; output = Some 0; gives_in = 0 ∷ []; gives_out = 1 ∷ []; back = true }

-- its name: dll
abbrev pub dll_name : List ℕ
dll_name = 100 ∷ 108 ∷ 108 ∷ []

abbrev pub dll_box : BoxDef
dll_box = record {
  name = dll_name;
  face = box_face;
  inside = record { autos = port 0 1 ∷ port 1 0 ∷ []; vars = []; data_vars = [] };
}

-- no state of it stands at the top and below
no_child : (f r : ℕ) → IsChild (port f r) 0 → ⊥
no_child f r (o, inl e, j) = elim (subst (λ (x : Rule). IsIn 0 x.children) e j) [ inl i ↦ omega (arith, i) | inr x ↦ x ]
no_child f r (o, inr (inl e), j) = subst (λ (x : Rule). IsIn 0 x.children) e j
no_child f r (o, inr (inr e), j) = e

pub port_rules : (face : Face) (f r : ℕ) → PortSymbolFits face (Cell 0 [] (Field f ∷ [])) → PortRulesFit face (port f r)
port_rules face f r h = record {
  tops = ((λ i. h), ((λ i. tt), tt));
  inner = ((λ w. elim w [ inl n ↦ absurd (n (inl refl)) | inr c ↦ absurd (no_child f r c) ]), ((λ w. tt), tt));
}

pub port_single : (f r : ℕ) → IsSingle (port f r)
port_single f r = ((refl, (refl, tt)), (0, refl))

-- a single automaton covers the fields of its one tree; the input of dll covers next
pub single_covers : (bs : List BoxFace) (a : Automaton) → IsSingle a → CoverAlike bs a
single_covers bs a s t u h k f i = subst (λ (x : Tree). IsIn f (covered_fields bs x)) (single_tree a t u s h k) i

pub port_covers : (bs : List BoxFace) (f r : ℕ) → covered_fields bs (bare (port_node 0 f r)) ≡ f ∷ []
port_covers bs f r = let e = cell_top 0 0 [] (field f (leaf (At r)) no_parts) in rw e refl

pub port_covers_some : (bs : List BoxFace) (f r : ℕ) → CoverSome bs (port f r)
port_covers_some bs f r t h =
    let e = port_covers bs f r in
    let i = single_tree (port f r) (bare (port_node 0 f r)) t (port_single f r) (port_runs 0 f r) h in
    subst (λ (x : Tree). HasField (covered_fields bs x)) i (rw e tt)

abbrev pub port_nodes : Nodes
port_nodes = more (port_node 0 0 1) (more (port_node 1 1 0) no_nodes)

pub port_choice : Choice (port 0 1 ∷ port 1 0 ∷ []) (bares port_nodes)
port_choice = (port_runs 0 0 1, (port_runs 1 1 0, tt))

-- Each dressed tree of a port is that node, with some number.

abbrev is_field_slot : Slot → Bool
is_field_slot (Field f) = true
is_field_slot (Link b) = false
is_field_slot (Hook b) = false

abbrev slot_field : Slot → ℕ
slot_field (Field f) = f
slot_field (Link b) = 0
slot_field (Hook b) = 0

abbrev first_slot : List Slot → Slot
first_slot [] = Hook 0
first_slot (s ∷ ss) = s

abbrev pub slot_count : List Slot → ℕ
slot_count [] = 0
slot_count (s ∷ ss) = suc (slot_count ss)

abbrev pub symbol_struct : Symbol → ℕ
symbol_struct (Cell s ds ss) = s
symbol_struct y = 9

abbrev pub symbol_data : Symbol → List Datum
symbol_data (Cell s ds ss) = ds
symbol_data y = []

pub no_slots : (ps : Parts) → slot_count (slots_of ps) ≡ 0 → ps ≡ no_parts
no_slots no_parts e = refl
no_slots (field f x ps) e = absurd (omega (arith, e))
no_slots (link b i x ps) e = absurd (omega (arith, e))
no_slots (hook b i ps) e = absurd (omega (arith, e))

leaf_end : (r : ℕ) (e : End) → bare_end e ≡ bare_end (leaf (At r)) → e ≡ leaf (At r)
leaf_end r (leaf t) h = ap leaf
    (one_leaf t (At r) (sym (leaf_top t) ∙ ap (λ (x : Tree). (out-Tree x).symbol) h ∙ leaf_top (At r)))
leaf_end r (under (node c s ds ps)) h =
    absurd
    (cell_is_no_leaf (At r) s ds (slots_of ps)
    (sym (leaf_top (At r)) ∙ sym (ap (λ (x : Tree). (out-Tree x).symbol) h) ∙ cell_top c s ds ps))

one_field : (f r : ℕ) (ps : Parts) → slots_of ps ≡ Field f ∷ [] → bare_parts ps ≡ bare_end (leaf (At r)) ∷ []
    → ps ≡ field f (leaf (At r)) no_parts
one_field f r no_parts e h = let z : 0 ≡ 1 = ap slot_count e in absurd (omega (arith, z))
one_field f r (field g x ps) e h =
    let a : g ≡ f = ap (λ (l : List Slot). slot_field (first_slot l)) e in
    let b : x ≡ leaf (At r) = leaf_end r x (ap (first_tree (bare_end x)) h) in
    let c : ps ≡ no_parts = no_slots ps
    (let z : suc (slot_count (slots_of ps)) ≡ 1 = ap slot_count e in omega (arith, z)) in
    rw (a, b, c) refl
one_field f r (link b i x ps) e h = absurd (true≢false (sym (ap (λ (l : List Slot). is_field_slot (first_slot l)) e)))
one_field f r (hook b i ps) e h = absurd (true≢false (sym (ap (λ (l : List Slot). is_field_slot (first_slot l)) e)))

pub port_is : (f r : ℕ) (n : Node) → bare n ≡ bare (port_node 0 f r) → (c : ℕ) × (n ≡ port_node c f r)
port_is f r (node c s ds ps) h =
    let y : Cell s ds (slots_of ps) ≡ Cell 0 [] (Field f ∷ []) = sym (cell_top c s ds ps)
    ∙ ap (λ (x : Tree). (out-Tree x).symbol) h ∙ cell_top 0 0 [] (field f (leaf (At r)) no_parts) in
    let z : bare_parts ps ≡ bare_end (leaf (At r)) ∷ [] = sym (below c s ds ps)
    ∙ ap (λ (x : Tree). (out-Tree x).children) h ∙ below 0 0 [] (field f (leaf (At r)) no_parts) in
    let a : s ≡ 0 = ap symbol_struct y in
    let b : ds ≡ [] = ap symbol_data y in
    let k : ps ≡ field f (leaf (At r)) no_parts = one_field f r ps (ap symbol_slots y) z in
    (c, rw (a, b, k) refl)
  where
    below : (c s : ℕ) (ds : List Datum) (ps : Parts) → (out-Tree (bare (node c s ds ps))).children ≡ bare_parts ps
    below c s ds ps = rw (out-roll-Tree (record { symbol = Cell s ds (slots_of ps); children = bare_parts ps })) refl

-- so each dressed inside is this one
pub inside_is : (T : List BoxDef) (d : Nodes) → TreesOf T (port 0 1 ∷ port 1 0 ∷ []) d → (a b : ℕ)
    × (d ≡ dll_inside a b)
inside_is T no_nodes h = absurd h
inside_is T (more n no_nodes) h = absurd h.2
inside_is T (more n (more m (more k ns))) h = absurd h.2.2
inside_is T (more n (more m no_nodes)) h =
    let a =
    port_is 0 1 n
    (single_tree (port 0 1) (bare n) (bare (port_node 0 0 1)) (port_single 0 1) h.0 (port_runs 0 0 1)) in
    let b =
    port_is 1 0 m
    (single_tree (port 1 0) (bare m) (bare (port_node 0 1 0)) (port_single 1 0) h.2.0 (port_runs 0 1 0)) in
    (a.0, b.0, ap₂ (λ (x y : Node). more x (more y no_nodes)) a.1 b.1)

-- Reachability.

abbrev pub number_of : Value → ℕ
number_of (CellValue n) = n
number_of v = 0

dll_reached : (T : List BoxDef) → IsReached T box_face (port 0 1 ∷ port 1 0 ∷ [])
dll_reached T d h c ports p n i =
    let k = inside_is T d h in
    subst (λ (e : Nodes). Reaches (CellValue c ∷ []) (inside_facts ports e) n) (sym k.2)
    (out p.0 p.1 p.2 k.0 k.1
    (subst (λ (e : Nodes). IsIn n (heads (inside_facts ports e)) ⊎ IsIn (CellValue n) ports) k.2 i))
  where
    at : (a b m : ℕ) → ports ≡ CellValue c ∷ (CellValue m ∷ []) → IsIn n (heads (inside_facts ports (dll_inside a b)))
        ⊎ IsIn (CellValue n) ports → Reaches (CellValue c ∷ []) (inside_facts ports (dll_inside a b)) n
    at a b m e j = subst (λ (vs : List Value). Reaches (CellValue c ∷ []) (inside_facts vs (dll_inside a b)) n) (sym e)
        (here
        (subst (λ (vs : List Value). IsIn n (heads (inside_facts vs (dll_inside a b))) ⊎ IsIn (CellValue n) vs) e j))
      where
        here : IsIn n [] ⊎ IsIn (CellValue n) (CellValue c ∷ (CellValue m ∷ []))
            → Reaches (CellValue c ∷ []) (inside_facts (CellValue c ∷ (CellValue m ∷ [])) (dll_inside a b)) n
        here (inl x) = absurd x
        here (inr (inl x)) = named (inl x)
        here (inr (inr (inl x))) = let w : n ≡ m = ap number_of x in
            subst
            (λ (k : ℕ). Reaches (CellValue c ∷ []) (inside_facts (CellValue c ∷ (CellValue m ∷ [])) (dll_inside a b)) k)
            (sym w) (dll_down a b c m)
        here (inr (inr (inr x))) = absurd x

    out : (w : Value) → ports ≡ CellValue c ∷ (w ∷ []) → OutFits box_face w → (a b : ℕ)
        → IsIn n (heads (inside_facts ports (dll_inside a b))) ⊎ IsIn (CellValue n) ports
        → Reaches (CellValue c ∷ []) (inside_facts ports (dll_inside a b)) n
    out w e (inl m) a b j = at a b m.0 (e ∙ ap (λ (v : Value). CellValue c ∷ (v ∷ [])) m.1) j
    out w e (inr x) a b j = absurd (let z : 1 ≡ 0 = ap (λ (l : List ℕ). length l) x.1 in omega (arith, z))

dll_leads_up : (T : List BoxDef) → LeadsUp T (port 0 1 ∷ port 1 0 ∷ [])
dll_leads_up T d h c m =
    let k = inside_is T d h in
    subst (λ (e : Nodes). Reaches (CellValue m ∷ []) (inside_facts (CellValue c ∷ (CellValue m ∷ [])) e) c) (sym k.2)
    (dll_up k.0 k.1 c m)

-- Fields. Over any face whose first struct has the pointers next and prev to itself, whatever boxes it has.

port_refers : (t : Tree) (k : ℕ) → IsIn t (bares port_nodes) → RefersTo t k → k < 2
port_refers t k (inl e) h =
    elim (rw (tree_roots (port_node 0 0 1)) at (subst (λ (x : Tree). RefersTo x k) e h))
    [ inl i ↦ omega (arith, i) | inr x ↦ absurd x ]
port_refers t k (inr (inl e)) h =
    elim (rw (tree_roots (port_node 1 1 0)) at (subst (λ (x : Tree). RefersTo x k) e h))
    [ inl i ↦ omega (arith, i) | inr x ↦ absurd x ]
port_refers t k (inr (inr e)) h = absurd e

module _ (face : Face) (there : 0 < length face.shapes.structs)
    (next : target_of face.shapes.structs 0 0 ≡ Some 0) (prev : target_of face.shapes.structs 0 1 ≡ Some 0) where
  abbrev bs : List BoxFace
  bs = face.boxes

  input_filled : IsPortFilled face (0 ∷ 0 ∷ []) (0 ∷ [])
      (spots bs (bare (port_node 0 0 1)) (given_at bs (bares port_nodes) 0))
  input_filled =
      let e = spots_are bs (port_node 0 0 1) (given_at bs (bares port_nodes) 0) in
      let g = given_tips bs 0 port_nodes in
      let l = leaf_top (At 1) in
      rw e (record { ends = ((0, next, rw l refl), tt); order = ((tt, tt), tt); once = rw g (keep 0 empty) }, tt)

  output_filled : IsPortFilled face (0 ∷ 0 ∷ []) (1 ∷ [])
      (spots bs (bare (port_node 1 1 0)) (given_at bs (bares port_nodes) 1))
  output_filled =
      let e = spots_are bs (port_node 1 1 0) (given_at bs (bares port_nodes) 1) in
      let g = given_tips bs 1 port_nodes in
      let l = leaf_top (At 0) in
      rw e (record { ends = ((0, prev, rw l refl), tt); order = ((tt, tt), tt); once = rw g (keep 1 empty) }, tt)

  dll_fits : InsideFits face box_face (bares port_nodes)
  dll_fits = record {
    tops = 0 ∷ 0 ∷ [];
    are = structs_tops port_nodes;
    ports = ([], refl);
    refs = port_refers;
    cells = (input_filled, (output_filled, refl));
  }

  abbrev dll_autos : List Automaton
  dll_autos = port 0 1 ∷ port 1 0 ∷ []

  dll_choices : (ts : List Tree) → Choice dll_autos ts → bares port_nodes ≡ ts
  dll_choices ts c = single_choice dll_autos (bares port_nodes) ts (port_single 0 1, (port_single 1 0, tt)) port_choice
      c

  -- the box is sound, over any table of that face
  pub dll_sound : (T : List BoxDef) → SoundBox face T dll_box
  dll_sound T = record {
    rules = (
      port_rules face 0 1 (there, refl, (subst (λ (o : Option ℕ). IsSome o) (sym next) refl, tt)),
      (port_rules face 1 0 (there, refl, (subst (λ (o : Option ℕ). IsSome o) (sym prev) refl, tt)), tt),
    );
    full = ((bare (port_node 0 0 1), port_runs 0 0 1), ((bare (port_node 1 1 0), port_runs 1 1 0), tt));
    fits = λ ts c. subst (λ (us : List Tree). InsideFits face box_face us) (dll_choices ts c) dll_fits;
    covers = λ e. (let z : 1 ≡ 0 = ap (λ (l : List ℕ). length l) e in omega (arith, z));
    ports = (
      single_covers bs (port 0 1) (port_single 0 1),
      port_covers_some bs 0 1,
      single_covers bs (port 1 0) (port_single 1 0),
    );
    in_order = (tt, tt);
    signatures = (
      (λ q p t u x y. ap (signature bs) (same_tree (port 0 1).rules (port_single 0 1).0 q t u x y)),
      ((λ q p t u x y. ap (signature bs) (same_tree (port 1 0).rules (port_single 1 0).0 q t u x y)), tt),
    );
    reached = dll_reached T;
    back = (
      (λ e. ((λ z. (let w : 1 ≡ 0 = ap (λ (l : List ℕ). length l) z in omega (arith, w))), dll_leads_up T)),
      (λ e. absurd (true≢false e)),
    );
  }

-- its own face serves as well
dll_over_itself : (T : List BoxDef) → SoundBox dll_face T dll_box
dll_over_itself T = dll_sound dll_face (omega arith) refl refl T

-- the same box said not to lead back is not sound
dll_not_back : (T : List BoxDef) → BackHolds T (record box_face { back = false }) (Some 0) (port 0 1 ∷ port 1 0 ∷ [])
    → ⊥
dll_not_back T h = h.1 refl (dll_inside 2 3) (port_runs 2 0 1, (tt, tt), (port_runs 3 1 0, (tt, tt), tt)) 0 1
    ((λ i. elim i [ inl e ↦ omega (arith, e) | inr x ↦ x ]), ((λ x. x), tt)) (dll_up 2 3 0 1)

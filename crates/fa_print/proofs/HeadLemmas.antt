-- The heads of the facts of dressed forests are of the structs of the face, with their data.
use Rattle.std.proofs.Common.{◌≡◌, ℕ, ◌<◌, List, [], ◌∷◌, ◌++◌, Some, None, length, sym, subst}
use Rattle.std.proofs.Common.{Option, refl, arith, inl, inr, ◌⊎◌}
use Rattle.std.proofs.Common.{true≢false}
use Rattle.std.specs.Prelude.{IsSome, IsNone}
use Rattle.fore_base.specs.Lists.{IsIn, Every}
use Rattle.fore_base.specs.Shapes.{datums_of}
use Rattle.fore_base.specs.declared.shape.Shape.{Shape}
use Rattle.fore_base.specs.declared.shape.Shapes.{Shapes}
use Rattle.fore_base.specs.declared.store.Value.{Value}
use Rattle.fore_base.specs.declared.store.Value.TheVariants.{Null as NullValue, Uninit as UninitValue}
use Rattle.fore_base.specs.declared.store.Value.TheVariants.{Dangling as DanglingValue, Cell}
use Rattle.fore_base.proofs.ListLemmas.{every_append, every_in}
use Rattle.ta_core.specs.Auto.{Automaton}
use Rattle.ta_core.specs.declared.auto.Rule.{Rule}
use Rattle.ta_core.specs.declared.symbol.Symbol.TheVariants.{Cell as CellSymbol}
use Rattle.fa_core.specs.declared.boxes.BoxDef.{BoxDef}
use Rattle.fa_core.specs.declared.faces.BoxFace.{BoxFace}
use Rattle.fa_core.specs.declared.faces.Face.{Face}
use Rattle.fa_core.specs.Boxes.{IsChild, PortRulesFit, PortSymbolFits, InsideRulesFit, SoundBox}
use Rattle.fa_core.specs.Boxes.{AreSoundOver, faces_of, port_fields}
use Rattle.fa_core.specs.Dressed.{Node, Parts, End, Nodes, node, no_parts, field, link, hook, under, leaf, no_nodes}
use Rattle.fa_core.specs.Dressed.{more, Fact, Head, Points, end_value, tree_facts, slot_facts, end_facts, port_facts}
use Rattle.fa_core.specs.Dressed.{forest_facts, with_ports, inside_facts}
use Rattle.fa_core.specs.Filled.{HasOutput, HasNoOutput, face_of, SlotFits, SymbolFits, RulesFit}
use Rattle.fa_core.specs.Member.{TreesOf, InsidesOf, InsidesOfParts, InsidesOfEnd, inside_of, slots_of}
use Rattle.fa_core.proofs.NodeRuns.{NodeRun, PartsRun, EndRun, bare_node}
use Rattle.fa_facts.proofs.Tables.{face_of_table, face_before, face_next, inside_next, each_box}

-- the struct is there, and has as many data
abbrev pub HeadFits : List Shape → Fact → Type 0
HeadFits hs (Head c s ds) = (s < length hs) × (length ds ≡ datums_of hs s)
HeadFits hs (Points c f v) = Unit {0}

abbrev pub HeadsFit : List Shape → List Fact → Type 0
HeadsFit hs fs = Every (HeadFits hs) fs

-- so it is in each inside of box b, whose ports are two, or one
abbrev pub LinkHeads : List Shape → List BoxDef → ℕ → Type 0
LinkHeads hs T b = (autos : List Automaton) (i : Nodes) (v w : Value) → inside_of T b ≡ Some autos → TreesOf T autos i
    → HeadsFit hs (inside_facts (v ∷ (w ∷ [])) i)

abbrev pub HookHeads : List Shape → List BoxDef → ℕ → Type 0
HookHeads hs T b = (autos : List Automaton) (i : Nodes) (v : Value) → inside_of T b ≡ Some autos → TreesOf T autos i
    → HeadsFit hs (inside_facts (v ∷ []) i)

-- One list of trees, where the insides of its box edges are as they should be.

module _ (face : Face) (T : List BoxDef)
    (links : (b : ℕ) → HasOutput (face_of face.boxes b) → LinkHeads face.shapes.structs T b)
    (hooks : (b : ℕ) → HasNoOutput (face_of face.boxes b) → HookHeads face.shapes.structs T b) where
  abbrev AreFit : List Fact → Type 0
  AreFit fs = HeadsFit face.shapes.structs fs

  both_fit : (xs ys : List Fact) → AreFit xs → AreFit ys → AreFit (xs ++ ys)
  both_fit xs ys h k = every_append (HeadFits face.shapes.structs) xs ys h k

  module _ (rules : List Rule) (vs : List Value) where
    -- each rule of the state fits a cell
    abbrev StateFits : ℕ → Type 0
    StateFits q = (r : Rule) → IsIn r rules → r.state ≡ q → SymbolFits face r.symbol

    module _ (inner : (r : Rule) → IsIn r rules → (q : ℕ) → IsIn q r.children → StateFits q) where
      mutual
        node_fits : (q : ℕ) (n : Node) → StateFits q → NodeRun rules q n → InsidesOf T n → AreFit (tree_facts vs n)
        node_fits q (node c s ds ps) f h i =
            let y : SymbolFits face (CellSymbol s ds (slots_of ps)) = subst (SymbolFits face) h.3 (f h.0 h.1 h.2) in
            ((y.0, y.1), parts_fit c s ps h.0.children (inner h.0 h.1) h.4 y.3 i)

        parts_fit : (m s : ℕ) (ps : Parts) (qs : List ℕ) → ((q : ℕ) → IsIn q qs → StateFits q) → PartsRun rules qs ps
            → Every (SlotFits face s) (slots_of ps) → InsidesOfParts T ps → AreFit (slot_facts vs m ps)
        parts_fit m s no_parts qs f h y i = tt
        parts_fit m s (field g e ps) [] f h y i = absurd h
        parts_fit m s (field g e ps) (q ∷ qs) f h y i = (
          tt,
          both_fit (end_facts vs e) (slot_facts vs m ps) (end_fits q e (f q (inl refl)) h.0 i.0)
              (parts_fit m s ps qs (λ p k. f p (inr k)) h.1 y.1 i.1),
        )
        parts_fit m s (link b d e ps) [] f h y i = absurd h
        parts_fit m s (link b d e ps) (q ∷ qs) f h y i =
            both_fit (inside_facts (Cell m ∷ (end_value vs e ∷ [])) d) (end_facts vs e ++ slot_facts vs m ps)
            (links b y.0 i.0.0 d (Cell m) (end_value vs e) i.0.1 i.0.2)
            (both_fit (end_facts vs e) (slot_facts vs m ps) (end_fits q e (f q (inl refl)) h.0 i.1)
            (parts_fit m s ps qs (λ p k. f p (inr k)) h.1 y.1 i.2))
        parts_fit m s (hook b d ps) qs f h y i =
            both_fit (inside_facts (Cell m ∷ []) d) (slot_facts vs m ps) (hooks b y.0 i.0.0 d (Cell m) i.0.1 i.0.2)
            (parts_fit m s ps qs f h y.1 i.1)

        end_fits : (q : ℕ) (e : End) → StateFits q → EndRun rules q e → InsidesOfEnd T e → AreFit (end_facts vs e)
        end_fits q (under n) f h i = node_fits q n f h i
        end_fits q (leaf t) f h i = tt

  -- trees whose tops are cells of their own
  pub trees_fit : (vs : List Value) (autos : List Automaton) (ns : Nodes) → Every (RulesFit face) autos
      → TreesOf T autos ns → AreFit (forest_facts vs [] ns)
  trees_fit vs [] no_nodes f h = tt
  trees_fit vs [] (more n ns) f h = absurd h
  trees_fit vs (a ∷ autos) no_nodes f h = absurd h
  trees_fit vs (a ∷ autos) (more n ns) f h =
      let all : (r : Rule) → IsIn r a.rules → SymbolFits face r.symbol =
      λ r i. every_in (λ (x : Rule). SymbolFits face x.symbol) a.rules r f.0 i in
      both_fit (tree_facts vs n) (forest_facts vs [] ns)
      (node_fits a.rules vs (λ r i q j x k e. all x k) h.0.0 n (λ x k e. all x k) (bare_node a.rules h.0.0 n h.0.2) h.1)
      (trees_fit vs autos ns f.1 h.2)

  -- the tree of a port that is the value v
  port_fits : (vs : List Value) (a : Automaton) (n : Node) (v : Value) → PortRulesFit face a
      → (q : ℕ) → IsIn q a.roots → NodeRun a.rules q n → InsidesOf T n → AreFit (port_facts vs v n)
  port_fits vs a (node c s ds ps) NullValue f q j h i = tt
  port_fits vs a (node c s ds ps) UninitValue f q j h i = tt
  port_fits vs a (node c s ds ps) DanglingValue f q j h i = tt
  port_fits vs a (node c s ds ps) (Cell m) f q j h i =
      let below : (r : Rule) → IsIn r a.rules → (p : ℕ) → IsIn p r.children → (x : Rule) → IsIn x a.rules → x.state ≡ p
      → SymbolFits face x.symbol =
      λ r k p l x o e. every_in
      (λ (y : Rule). (IsIn y.state a.roots → ⊥) ⊎ IsChild a y.state → SymbolFits face y.symbol) a.rules x f.inner o
      (inr (subst (IsChild a) (sym e) (r, k, l))) in
      let top : IsIn h.0.state a.roots = subst (λ (p : ℕ). IsIn p a.roots) (sym h.2) j in
      let y : PortSymbolFits face (CellSymbol s ds (slots_of ps)) = subst (PortSymbolFits face) h.3
      (every_in (λ (x : Rule). IsIn x.state a.roots → PortSymbolFits face x.symbol) a.rules h.0 f.tops h.1 top) in
      parts_fit a.rules vs below m s ps h.0.children (below h.0 h.1) h.4 y.2 i

  -- the trees of an inside, of which the first are ports with these values
  pub ports_fit : (vs : List Value) (autos : List Automaton) (ns : Nodes) (values : List Value)
      (fields : List (List ℕ)) → length values ≡ length fields → InsideRulesFit face fields autos → TreesOf T autos ns
      → AreFit (forest_facts vs values ns)
  ports_fit vs [] no_nodes values fields e f h = tt
  ports_fit vs [] (more n ns) values fields e f h = absurd h
  ports_fit vs (a ∷ autos) no_nodes values fields e f h = absurd h
  ports_fit vs (a ∷ autos) (more n ns) [] [] e f h = trees_fit vs (a ∷ autos) (more n ns) (inner_fit (a ∷ autos) f) h
    where
      inner_fit : (autos : List Automaton) → InsideRulesFit face [] autos → Every (RulesFit face) autos
      inner_fit [] f = tt
      inner_fit (a ∷ autos) f = (f.0, inner_fit autos f.1)
  ports_fit vs (a ∷ autos) (more n ns) [] (x ∷ fields) e f h = absurd (omega (arith, e))
  ports_fit vs (a ∷ autos) (more n ns) (v ∷ values) [] e f h = absurd (omega (arith, e))
  ports_fit vs (a ∷ autos) (more n ns) (v ∷ values) (x ∷ fields) e f h =
      both_fit (port_facts vs v n) (forest_facts vs values ns)
      (port_fits vs a n v f.0 h.0.0 h.0.1 (bare_node a.rules h.0.0 n h.0.2) h.1)
      (ports_fit vs autos ns values fields (omega (arith, e)) f.1 h.2)

-- All boxes of a table.

module _ (shapes : Shapes) where
  abbrev face_at : List BoxDef → Face
  face_at T = face_of_table shapes T

  -- the heads in the insides of box b, which has an output, or none
  abbrev pub BoxHeads : List BoxDef → ℕ → Type 0
  BoxHeads T b =
      (HasOutput (face_of (faces_of T) b) → LinkHeads shapes.structs T b)
      × (HasNoOutput (face_of (faces_of T) b) → HookHeads shapes.structs T b)

  module _ (before : List BoxDef) (d : BoxDef) (defs : List BoxDef) (sound : SoundBox (face_at before) before d)
      (lower : (b : ℕ) → b < length before → BoxHeads (before ++ (d ∷ defs)) b) where
    links : (b : ℕ) → HasOutput (face_of (faces_of before) b) → LinkHeads shapes.structs (before ++ (d ∷ defs)) b
    links b h = let k = face_before HasOutput (λ n. n) before (d ∷ defs) b h in (lower b k.0).0 k.1

    hooks : (b : ℕ) → HasNoOutput (face_of (faces_of before) b) → HookHeads shapes.structs (before ++ (d ∷ defs)) b
    hooks b h = let k = face_before HasNoOutput (λ n. n) before (d ∷ defs) b h in (lower b k.0).1 k.1

    -- the inside of the next box, with as many ports as it has
    inside_fits : (autos : List Automaton) (i : Nodes) (values : List Value)
        → length values ≡ length (port_fields d.face d.face.output)
        → inside_of (before ++ (d ∷ defs)) (length before) ≡ Some autos → TreesOf (before ++ (d ∷ defs)) autos i
        → HeadsFit shapes.structs (inside_facts values i)
    inside_fits autos i values e s h =
        let k = inside_next before d defs autos s in
        ports_fit (face_at before) (before ++ (d ∷ defs)) links hooks (with_ports values i) d.inside.autos i values
        (port_fields d.face d.face.output) e sound.rules
        (subst (λ (xs : List Automaton). TreesOf (before ++ (d ∷ defs)) xs i) (sym k) h)

    two_ports : (o : Option ℕ) → IsSome o → 2 ≡ length (port_fields d.face o)
    two_ports (Some t) h = refl
    two_ports None h = absurd (true≢false (sym h))

    one_port : (o : Option ℕ) → IsNone o → 1 ≡ length (port_fields d.face o)
    one_port None h = refl
    one_port (Some t) h = absurd (true≢false h)

    next_heads : BoxHeads (before ++ (d ∷ defs)) (length before)
    next_heads = (
      λ h autos i v w s trees. inside_fits autos i (v ∷ (w ∷ []))
          (two_ports d.face.output (subst HasOutput (face_next before d defs) h)) s trees,
      λ h autos i v s trees. inside_fits autos i (v ∷ [])
          (one_port d.face.output (subst HasNoOutput (face_next before d defs) h)) s trees,
    )

  box_heads : (T : List BoxDef) → AreSoundOver shapes [] T → (b : ℕ) → b < length T → BoxHeads T b
  box_heads T h b l = each_box shapes BoxHeads next_heads T h b l

  -- the heads of the trees of a filled forest over a sound table
  pub heads_fit : (T : List BoxDef) → AreSoundOver shapes [] T → (autos : List Automaton)
      → Every (RulesFit (face_at T)) autos → (ns : Nodes) → TreesOf T autos ns → (vs : List Value)
      → HeadsFit shapes.structs (forest_facts vs [] ns)
  heads_fit T h autos f ns trees vs =
      trees_fit (face_at T) T (λ b o. (box_heads T h b (there HasOutput (λ n. n) b o)).0 o)
      (λ b o. (box_heads T h b (there HasNoOutput (λ n. n) b o)).1 o) vs autos ns f trees
    where
      there : (P : Option BoxFace → Type 0) → (P None → ⊥) → (b : ℕ) → P (face_of (faces_of T) b) → b < length T
      there P none b h = (face_before P none T [] b h).0

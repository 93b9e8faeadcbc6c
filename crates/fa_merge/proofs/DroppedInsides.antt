-- The facts of trees, those of the insides of their box edges with them, where values that name one cell are Dangling:
-- they are the facts with those values Dangling, where no fact is of that cell.
use Rattle.std.proofs.Common.{◌≡◌, ◌≢◌, inl, inr, ℕ, zero, suc, Bool, true, false, true≢false, if◌then◌else◌, nat_eq}
use Rattle.std.proofs.Common.{List, [], ◌∷◌, ◌++◌, map, flat_map, Option, Some, None, refl, sym, ap, ap₂, subst, ◌∙◌}
use Rattle.std.proofs.lemmas.Bool.{eqb-true, eq-eqb}
use Rattle.std.proofs.lemmas.Option.{none-some, same_Some}
use Rattle.fore_base.specs.Lists.{IsIn}
use Rattle.fore_base.specs.Stores.{dangle}
use Rattle.fore_base.specs.declared.shape.Shapes.{Shapes}
use Rattle.fore_base.specs.declared.store.Datum.{Datum}
use Rattle.fore_base.specs.declared.store.Value.{Value}
use Rattle.fore_base.specs.declared.store.Value.TheVariants.{Null as NullValue, Uninit as UninitValue}
use Rattle.fore_base.specs.declared.store.Value.TheVariants.{Dangling as DanglingValue, Cell}
use Rattle.fore_base.proofs.ListLemmas.{in_left, in_right}
use Rattle.ta_core.specs.Auto.{Automaton}
use Rattle.ta_core.specs.declared.symbol.Symbol.{Symbol}
use Rattle.fa_core.specs.declared.boxes.BoxDef.{BoxDef}
use Rattle.fa_core.specs.declared.faces.BoxFace.{BoxFace}
use Rattle.fa_core.specs.declared.forest.Target.{Target}
use Rattle.fa_core.specs.declared.forest.Target.TheVariants.{Null, Uninit, Dangling, At}
use Rattle.fa_core.specs.Boxes.{AreSoundOver, PortsCover}
use Rattle.fa_core.specs.Dressed.{Node, Parts, End, Nodes, node, no_parts, field, link, hook, under, leaf, no_nodes}
use Rattle.fa_core.specs.Dressed.{more, Fact, Head, Points, tree_facts, slot_facts, end_facts, forest_facts, port_facts}
use Rattle.fa_core.specs.Dressed.{value_in, nth_value, end_value, roots_of, with_ports, inside_facts, number}
use Rattle.fa_core.specs.Filled.{covers, HasField}
use Rattle.fa_core.specs.Folding.{covered_fields, symbol_slots}
use Rattle.fa_core.specs.Member.{TreesOf, InsidesOf, InsidesOfParts, InsidesOfEnd, inside_of, bare}
use Rattle.fa_core.proofs.Dressing.{cell_top}
use Rattle.fa_core.proofs.WaysOf.{map-append}
use Rattle.fa_back.proofs.FactParts.{fact_cell}

-- Values without a cell.

abbrev pub dangle_fact : ℕ → Fact → Fact
dangle_fact c (Head n s ds) = Head n s ds
dangle_fact c (Points n f v) = Points n f (dangle c v)

pub dangle_self : (c : ℕ) → dangle c (Cell c) ≡ DanglingValue
dangle_self c = let e : nat_eq c c ≡ true = eq-eqb c c refl in rw e refl

pub dangle_other : (c n : ℕ) → n ≢ c → dangle c (Cell n) ≡ Cell n
dangle_other c n d = here (nat_eq n c) refl
  where
    here : (b : Bool) → nat_eq n c ≡ b → (if b then DanglingValue else Cell n) ≡ Cell n
    here true e = absurd (d (eqb-true n c e))
    here false e = refl

-- no fact is of the cell
abbrev pub NoFact : ℕ → List Fact → Type 0
NoFact c fs = (x : Fact) → IsIn x fs → fact_cell x ≢ c

pub none_left : (c : ℕ) (xs ys : List Fact) → NoFact c (xs ++ ys) → NoFact c xs
none_left c xs ys h x i = h x (in_left x xs ys i)

pub none_right : (c : ℕ) (xs ys : List Fact) → NoFact c (xs ++ ys) → NoFact c ys
none_right c xs ys h x i = h x (in_right x xs ys i)

-- Inputs of insides.

abbrev HasSlot : Parts → Type 0
HasSlot no_parts = ⊥
HasSlot (field f e ps) = Unit {0}
HasSlot (link b i e ps) = Unit {0}
HasSlot (hook b i ps) = Unit {0}

-- the input of the inside has a slot
abbrev HasInput : Nodes → Type 0
HasInput no_nodes = ⊥
HasInput (more (node c s ds ps) ns) = HasSlot ps

-- so it is of each inside
abbrev pub HaveInputs : List BoxDef → Type 0
HaveInputs T = (b : ℕ) (autos : List Automaton) (i : Nodes) → inside_of T b ≡ Some autos → TreesOf T autos i
    → HasInput i

covers_slot : (bs : List BoxFace) (c s : ℕ) (ds : List Datum) (ps : Parts)
    → HasField (covered_fields bs (bare (node c s ds ps))) → HasSlot ps
covers_slot bs c s ds no_parts h =
    subst (λ (y : Symbol). HasField (flat_covers y)) (cell_top c s ds no_parts) h
  where
    flat_covers : Symbol → List ℕ
    flat_covers y = flat_map (covers bs) (symbol_slots y)
covers_slot bs c s ds (field f e ps) h = tt
covers_slot bs c s ds (link b i e ps) h = tt
covers_slot bs c s ds (hook b i ps) h = tt

module _ (bs : List BoxFace) (T : List BoxDef) where
  input_slot : (out : Option ℕ) (autos : List Automaton) → PortsCover bs out autos → (i : Nodes) → TreesOf T autos i
      → HasInput i
  input_slot out [] h i o = absurd h
  input_slot out (a ∷ autos) h no_nodes o = absurd o
  input_slot None (a ∷ autos) h (more (node c s ds ps) ns) o =
      covers_slot bs c s ds ps (h.1 (bare (node c s ds ps)) o.0)
  input_slot (Some t) (a ∷ []) h (more n ns) o = absurd h
  input_slot (Some t) (a ∷ (b ∷ autos)) h (more (node c s ds ps) ns) o =
      covers_slot bs c s ds ps (h.1 (bare (node c s ds ps)) o.0)

sound_inputs : (shapes : Shapes) (T before defs : List BoxDef) → AreSoundOver shapes before defs → (b : ℕ)
    (autos : List Automaton) (i : Nodes) → inside_of defs b ≡ Some autos → TreesOf T autos i → HasInput i
sound_inputs shapes T before [] h b autos i e o = absurd (none-some autos e)
sound_inputs shapes T before (d ∷ defs) h zero autos i e o =
    input_slot (map (λ (x : BoxDef). x.face) before) T d.face.output d.inside.autos h.0.ports i
    (subst (λ (z : List Automaton). TreesOf T z i) (sym (same_Some d.inside.autos autos e)) o)
sound_inputs shapes T before (d ∷ defs) h (suc b) autos i e o =
    sound_inputs shapes T (before ++ d ∷ []) defs h.1 b autos i e o

-- the inputs of the insides of sound boxes cover fields
pub table_inputs : (shapes : Shapes) (T : List BoxDef) → AreSoundOver shapes [] T → HaveInputs T
table_inputs shapes T h b autos i e o = sound_inputs shapes T [] T h b autos i e o

module _ (T : List BoxDef) (inputs : HaveInputs T) where
  first_insides : (autos : List Automaton) (n : Node) (ns : Nodes) → TreesOf T autos (more n ns) → InsidesOf T n
  first_insides [] n ns o = absurd o
  first_insides (a ∷ autos) n ns o = o.1

  -- slots give the cell some field
  slot_fact : (vs : List Value) (c : ℕ) (ps : Parts) → InsidesOfParts T ps → HasSlot ps → (f : ℕ) × (v : Value)
      × IsIn (Points c f v) (slot_facts vs c ps)
  slot_fact vs c no_parts o h = absurd h
  slot_fact vs c (field f e ps) o h = (f, end_value vs e, inl refl)
  slot_fact vs c (link b no_nodes e ps) o h = absurd (inputs b o.0.0 no_nodes o.0.1 o.0.2)
  slot_fact vs c (link b (more (node k s ds qs) ns) e ps) o h =
      let ports : List Value = Cell c ∷ (end_value vs e ∷ []) in
      let i : Nodes = more (node k s ds qs) ns in
      let q = slot_fact (with_ports (Cell c ∷ (end_value vs e ∷ [])) (more (node k s ds qs) ns)) c qs
      (first_insides o.0.0 (node k s ds qs) ns o.0.2) (inputs b o.0.0 (more (node k s ds qs) ns) o.0.1 o.0.2) in (
        q.0,
        q.1,
        in_left (Points c q.0 q.1) (forest_facts (with_ports ports i) ports i) (end_facts vs e ++ slot_facts vs c ps)
            (in_left (Points c q.0 q.1) (slot_facts (with_ports ports i) c qs)
            (forest_facts (with_ports ports i) (end_value vs e ∷ []) ns) q.2),
      )
  slot_fact vs c (hook b no_nodes ps) o h = absurd (inputs b o.0.0 no_nodes o.0.1 o.0.2)
  slot_fact vs c (hook b (more (node k s ds qs) ns) ps) o h =
      let ports : List Value = Cell c ∷ [] in
      let i : Nodes = more (node k s ds qs) ns in
      let q = slot_fact (with_ports (Cell c ∷ []) (more (node k s ds qs) ns)) c qs
      (first_insides o.0.0 (node k s ds qs) ns o.0.2) (inputs b o.0.0 (more (node k s ds qs) ns) o.0.1 o.0.2) in (
        q.0,
        q.1,
        in_left (Points c q.0 q.1) (forest_facts (with_ports ports i) ports i) (slot_facts vs c ps)
            (in_left (Points c q.0 q.1) (slot_facts (with_ports ports i) c qs)
            (forest_facts (with_ports ports i) [] ns) q.2),
      )

  module _ (c : ℕ) where
    -- a port that is the cell has no slots
    empty_port : (vs : List Value) (m : ℕ) → m ≡ c → (ps : Parts) → InsidesOfParts T ps
        → NoFact c (slot_facts vs m ps) → slot_facts vs m ps ≡ []
    empty_port vs m e no_parts o h = refl
    empty_port vs m e (field f x ps) o h = absurd (h (Points m f (end_value vs x)) (inl refl) e)
    empty_port vs m e (link b i x ps) o h =
        let q = slot_fact vs m (link b i x ps) o tt in absurd (h (Points m q.0 q.1) q.2 e)
    empty_port vs m e (hook b i ps) o h =
        let q = slot_fact vs m (hook b i ps) o tt in absurd (h (Points m q.0 q.1) q.2 e)

    -- ws are the values vs without the cell
    abbrev Without : List Value → List Value → Type 0
    Without vs ws = (t : Target) → value_in ws t ≡ dangle c (value_in vs t)

    top_other : (vs : List Value) (n : Node) → NoFact c (tree_facts vs n) → Cell (number n)
        ≡ dangle c (Cell (number n))
    top_other vs (node k s ds ps) h = sym (dangle_other c k (h (Head k s ds) (inl refl)))

    roots_without : (vs : List Value) (ns : Nodes) → NoFact c (forest_facts vs [] ns) → (k : ℕ)
        → nth_value (roots_of ns) k ≡ dangle c (nth_value (roots_of ns) k)
    roots_without vs no_nodes h k = refl
    roots_without vs (more (node m s ds ps) ns) h zero = sym (dangle_other c m (h (Head m s ds) (inl refl)))
    roots_without vs (more n ns) h (suc k) =
        roots_without vs ns (none_right c (tree_facts vs n) (forest_facts vs [] ns) h) k

    ports_nth : (vs ports : List Value) (ns : Nodes) → NoFact c (forest_facts vs ports ns) → (k : ℕ)
        → nth_value (with_ports (map (dangle c) ports) ns) k ≡ dangle c (nth_value (with_ports ports ns) k)
    ports_nth vs [] ns h k = roots_without vs ns h k
    ports_nth vs (v ∷ ports) no_nodes h k = refl
    ports_nth vs (v ∷ ports) (more n ns) h zero = refl
    ports_nth vs (v ∷ ports) (more n ns) h (suc k) =
        ports_nth vs ports ns (none_right c (port_facts vs v n) (forest_facts vs ports ns) h) k

    ports_without : (vs ports : List Value) (ns : Nodes) → NoFact c (forest_facts vs ports ns)
        → Without (with_ports ports ns) (with_ports (map (dangle c) ports) ns)
    ports_without vs ports ns h Null = refl
    ports_without vs ports ns h Uninit = refl
    ports_without vs ports ns h Dangling = refl
    ports_without vs ports ns h (At k) = ports_nth vs ports ns h k

    pub end_without : (vs ws : List Value) → Without vs ws → (e : End) → NoFact c (end_facts vs e)
        → end_value ws e ≡ dangle c (end_value vs e)
    end_without vs ws same (under n) h = top_other vs n h
    end_without vs ws same (leaf t) h = same t

    pub link_ports : (m : ℕ) → m ≢ c → (v w : Value) → w ≡ dangle c v
        → Cell m ∷ (w ∷ []) ≡ map (dangle c) (Cell m ∷ (v ∷ []))
    link_ports m d v w e = ap₂ (λ (x y : Value). x ∷ (y ∷ [])) (sym (dangle_other c m d)) e

    pub hook_ports : (m : ℕ) → m ≢ c → Cell m ∷ [] ≡ map (dangle c) (Cell m ∷ [])
    hook_ports m d = ap (λ (x : Value). x ∷ []) (sym (dangle_other c m d))

    abbrev Dangles : List Fact → List Fact → Type 0
    Dangles ys xs = ys ≡ map (dangle_fact c) xs

    pub both_dangle : (xs ys us ws : List Fact) → Dangles us xs → Dangles ws ys → Dangles (us ++ ws) (xs ++ ys)
    both_dangle xs ys us ws a b = ap₂ (λ (x y : List Fact). x ++ y) a b ∙ sym (map-append (dangle_fact c) xs ys)

    mutual
      tree_inner : (vs ws : List Value) → Without vs ws → (n : Node) → InsidesOf T n → NoFact c (tree_facts vs n)
          → Dangles (tree_facts ws n) (tree_facts vs n)
      tree_inner vs ws same (node m s ds ps) o h =
          ap (λ (xs : List Fact). Head m s ds ∷ xs)
          (slots_inner vs ws same m (h (Head m s ds) (inl refl)) ps o (λ x i. h x (inr i)))

      slots_inner : (vs ws : List Value) → Without vs ws → (m : ℕ) → m ≢ c → (ps : Parts) → InsidesOfParts T ps
          → NoFact c (slot_facts vs m ps) → Dangles (slot_facts ws m ps) (slot_facts vs m ps)
      slots_inner vs ws same m d no_parts o h = refl
      slots_inner vs ws same m d (field f e ps) o h =
          let l = none_left c (end_facts vs e) (slot_facts vs m ps) (λ x i. h x (inr i)) in
          let r = none_right c (end_facts vs e) (slot_facts vs m ps) (λ x i. h x (inr i)) in
          ap₂ (λ (v : Value) (xs : List Fact). Points m f v ∷ xs) (end_without vs ws same e l)
          (both_dangle (end_facts vs e) (slot_facts vs m ps) (end_facts ws e) (slot_facts ws m ps)
          (end_inner vs ws same e o.0 l) (slots_inner vs ws same m d ps o.1 r))
      slots_inner vs ws same m d (link b i e ps) o h =
          let ports : List Value = Cell m ∷ (end_value vs e ∷ []) in
          let fs : List Fact = forest_facts (with_ports ports i) ports i in
          let rest : List Fact = end_facts vs e ++ slot_facts vs m ps in
          let a = none_left c fs rest h in
          let z = none_right c fs rest h in
          let l = none_left c (end_facts vs e) (slot_facts vs m ps) z in
          let r = none_right c (end_facts vs e) (slot_facts vs m ps) z in
          both_dangle fs rest
          (forest_facts (with_ports (Cell m ∷ (end_value ws e ∷ [])) i) (Cell m ∷ (end_value ws e ∷ [])) i)
          (end_facts ws e ++ slot_facts ws m ps)
          (ap (λ (qs : List Value). forest_facts (with_ports qs i) qs i)
          (link_ports m d (end_value vs e) (end_value ws e) (end_without vs ws same e l))
          ∙ forest_inner (with_ports (Cell m ∷ (end_value vs e ∷ [])) i)
          (with_ports (map (dangle c) (Cell m ∷ (end_value vs e ∷ []))) i)
          (ports_without (with_ports (Cell m ∷ (end_value vs e ∷ [])) i) (Cell m ∷ (end_value vs e ∷ [])) i a)
          (Cell m ∷ (end_value vs e ∷ [])) o.0.0 i o.0.2 a)
          (both_dangle (end_facts vs e) (slot_facts vs m ps) (end_facts ws e) (slot_facts ws m ps)
          (end_inner vs ws same e o.1 l) (slots_inner vs ws same m d ps o.2 r))
      slots_inner vs ws same m d (hook b i ps) o h =
          let ports : List Value = Cell m ∷ [] in
          let fs : List Fact = forest_facts (with_ports ports i) ports i in
          let a = none_left c fs (slot_facts vs m ps) h in
          let r = none_right c fs (slot_facts vs m ps) h in
          both_dangle fs (slot_facts vs m ps) fs (slot_facts ws m ps)
          (ap (λ (qs : List Value). forest_facts (with_ports qs i) qs i) (hook_ports m d)
          ∙ forest_inner (with_ports (Cell m ∷ []) i) (with_ports (map (dangle c) (Cell m ∷ [])) i)
          (ports_without (with_ports (Cell m ∷ []) i) (Cell m ∷ []) i a) (Cell m ∷ []) o.0.0 i o.0.2 a)
          (slots_inner vs ws same m d ps o.1 r)

      end_inner : (vs ws : List Value) → Without vs ws → (e : End) → InsidesOfEnd T e → NoFact c (end_facts vs e)
          → Dangles (end_facts ws e) (end_facts vs e)
      end_inner vs ws same (under n) o h = tree_inner vs ws same n o h
      end_inner vs ws same (leaf t) o h = refl

      pub forest_inner : (vs ws : List Value) → Without vs ws → (ports : List Value) (autos : List Automaton)
          (ns : Nodes) → TreesOf T autos ns → NoFact c (forest_facts vs ports ns)
          → Dangles (forest_facts ws (map (dangle c) ports) ns) (forest_facts vs ports ns)
      forest_inner vs ws same ports autos no_nodes o h = refl
      forest_inner vs ws same ports [] (more n ns) o h = absurd o
      forest_inner vs ws same [] (a ∷ autos) (more n ns) o h =
          both_dangle (tree_facts vs n) (forest_facts vs [] ns) (tree_facts ws n) (forest_facts ws [] ns)
          (tree_inner vs ws same n o.1 (none_left c (tree_facts vs n) (forest_facts vs [] ns) h))
          (forest_inner vs ws same [] autos ns o.2 (none_right c (tree_facts vs n) (forest_facts vs [] ns) h))
      forest_inner vs ws same (v ∷ ports) (a ∷ autos) (more n ns) o h =
          both_dangle (port_facts vs v n) (forest_facts vs ports ns) (port_facts ws (dangle c v) n)
          (forest_facts ws (map (dangle c) ports) ns)
          (port_inner vs ws same v n o.1 (none_left c (port_facts vs v n) (forest_facts vs ports ns) h))
          (forest_inner vs ws same ports autos ns o.2 (none_right c (port_facts vs v n) (forest_facts vs ports ns) h))

      port_inner : (vs ws : List Value) → Without vs ws → (v : Value) (n : Node) → InsidesOf T n
          → NoFact c (port_facts vs v n) → Dangles (port_facts ws (dangle c v) n) (port_facts vs v n)
      port_inner vs ws same NullValue (node k s ds ps) o h = refl
      port_inner vs ws same UninitValue (node k s ds ps) o h = refl
      port_inner vs ws same DanglingValue (node k s ds ps) o h = refl
      port_inner vs ws same (Cell m) (node k s ds ps) o h =
          here (nat_eq m c) refl (λ d. slots_inner vs ws same m d ps o h)
        where
          here : (b : Bool) → nat_eq m c ≡ b → (m ≢ c → Dangles (slot_facts ws m ps) (slot_facts vs m ps))
              → Dangles (port_facts ws (if b then DanglingValue else Cell m) (node k s ds ps)) (slot_facts vs m ps)
          here true e later =
              ap (map (dangle_fact c)) (sym (empty_port vs m (eqb-true m c e) ps o h))
          here false e later = later (λ z. true≢false (sym (eq-eqb m c z) ∙ e))

    -- the facts of an inside whose ports are without the cell
    pub inside_dangled : (ports : List Value) (autos : List Automaton) (i : Nodes) → TreesOf T autos i
        → NoFact c (inside_facts ports i)
        → inside_facts (map (dangle c) ports) i ≡ map (dangle_fact c) (inside_facts ports i)
    inside_dangled ports autos i o h =
        forest_inner (with_ports ports i) (with_ports (map (dangle c) ports) i)
        (ports_without (with_ports ports i) ports i h) ports autos i o h

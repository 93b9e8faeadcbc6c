-- By a table of sound boxes no fact of the other trees is of a cell whose own tree gives it all fields of its struct.
use Rattle.std.proofs.Common.{◌≡◌, ◌≢◌, inl, inr, ℕ, zero, suc, ◌<◌, ◌≤◌, ◌+◌, Bool, true, false, true≢false, cond}
use Rattle.std.proofs.Common.{nat_eq}
use Rattle.std.proofs.Common.{length, List, [], ◌∷◌, ◌++◌, flat_map, Some, length-append, append-nil, refl, sym, ap}
use Rattle.std.proofs.Common.{subst, ◌∙◌, arith}
use Rattle.std.proofs.lemmas.Bool.{eqb-true, eq-eqb}
use Rattle.std.proofs.lemmas.Option.{none-some, same_Some}
use Rattle.fore_base.specs.Lists.{IsIn, Every}
use Rattle.fore_base.specs.declared.shape.Shape.{Shape}
use Rattle.fore_base.specs.declared.store.Datum.{Datum}
use Rattle.fore_base.specs.declared.store.Value.{Value}
use Rattle.fore_base.specs.declared.store.Value.TheVariants.{Null as NullValue, Uninit as UninitValue}
use Rattle.fore_base.specs.declared.store.Value.TheVariants.{Dangling as DanglingValue, Cell}
use Rattle.fore_base.proofs.ListLemmas.{in_append}
use Rattle.ta_core.specs.declared.tree.Tree.{Tree}
use Rattle.fa_core.specs.declared.boxes.BoxDef.{BoxDef}
use Rattle.fa_core.specs.declared.faces.BoxFace.{BoxFace}
use Rattle.fa_core.specs.declared.faces.Face.{Face}
use Rattle.fa_core.specs.declared.forest.Forest.{Forest}
use Rattle.fa_core.specs.Boxes.{IsTableOf}
use Rattle.fa_core.specs.Choices.{bares}
use Rattle.fa_core.specs.Dressed.{Node, Parts, End, Nodes, node, no_parts, field, link, hook, under, leaf, no_nodes}
use Rattle.fa_core.specs.Dressed.{more, Fact, Head, Points, facts, tree_facts, slot_facts, end_facts, forest_facts}
use Rattle.fa_core.specs.Dressed.{port_facts, with_ports, end_value, roots_of}
use Rattle.fa_core.specs.Filled.{IsFilled, IsFilledSpot, Spot, TreesFilled, covers, fields_of, given_at, spots}
use Rattle.fa_core.specs.Member.{OfForest, bare, slots_of}
use Rattle.fa_core.specs.Placed.{placed, placed_parts, placed_end, placed_all}
use Rattle.fa_core.specs.Rearranged.{Rearranged}
use Rattle.fa_core.specs.declared.forest.Target.{Target}
use Rattle.fa_core.proofs.Dressing.{choice_of}
use Rattle.fa_core.proofs.NodeSpots.{node_spots, spots_are}
use Rattle.fa_core.proofs.Rearranging.{long_same}
use Rattle.fa_facts.specs.Fields.{fields_at, fields_owed}
use Rattle.fa_facts.proofs.FullFacts.{fields_full}
use Rattle.fa_back.specs.Reached.{node_at}
use Rattle.fa_back.proofs.FactParts.{fact_cell}
use Rattle.fa_merge.specs.Dropped.{without_node, AreLeaves, IsIdle}
use Rattle.fa_merge.proofs.DroppedInsides.{NoFact}

-- No head of a number.

abbrev pub NoHead : ℕ → List Fact → Type 0
NoHead c fs = (s : ℕ) (ds : List Datum) → IsIn (Head c s ds) fs → ⊥

-- the heads of facts are at most n
abbrev AreLow : ℕ → List Fact → Type 0
AreLow n fs = (c s : ℕ) (ds : List Datum) → IsIn (Head c s ds) fs → c ≤ n

abbrev mutual
  -- a number that each number in the tree, those in insides with them, is at most
  pub bound : Node → ℕ
  bound (node c s ds ps) = c + bound_of ps

  pub bound_of : Parts → ℕ
  bound_of no_parts = 0
  bound_of (field f e ps) = bound_end e + bound_of ps
  bound_of (link b i e ps) = bound_all i + (bound_end e + bound_of ps)
  bound_of (hook b i ps) = bound_all i + bound_of ps

  pub bound_end : End → ℕ
  bound_end (under n) = bound n
  bound_end (leaf t) = 0

  pub bound_all : Nodes → ℕ
  bound_all no_nodes = 0
  bound_all (more n ns) = bound n + bound_all ns

abbrev head_number : Fact → ℕ
head_number (Head c s ds) = c
head_number (Points c f v) = 0

abbrev is_pointer : Fact → Bool
is_pointer (Head c s ds) = false
is_pointer (Points c f v) = true

low_both : (m n : ℕ) (xs ys : List Fact) → AreLow m xs → AreLow n ys → AreLow (m + n) (xs ++ ys)
low_both m n xs ys a b c s ds i = elim (in_append (Head c s ds) xs ys i) [
  | inl j ↦ (let l = a c s ds j in omega (arith, l))
  | inr j ↦ (let l = b c s ds j in omega (arith, l))
]

mutual
  tree_low : (vs : List Value) (n : Node) → AreLow (bound n) (tree_facts vs n)
  tree_low vs (node m q es ps) c s ds (inl e) = (let l : c ≡ m = ap head_number e in omega (arith, l))
  tree_low vs (node m q es ps) c s ds (inr i) = (let l = slots_low vs m ps c s ds i in omega (arith, l))

  slots_low : (vs : List Value) (m : ℕ) (ps : Parts) → AreLow (bound_of ps) (slot_facts vs m ps)
  slots_low vs m no_parts c s ds i = absurd i
  slots_low vs m (field f e ps) c s ds (inl q) = absurd (true≢false (sym (ap is_pointer q)))
  slots_low vs m (field f e ps) c s ds (inr i) =
      low_both (bound_end e) (bound_of ps) (end_facts vs e) (slot_facts vs m ps) (end_low vs e) (slots_low vs m ps) c s
      ds i
  slots_low vs m (link b i e ps) c s ds j =
      low_both (bound_all i) (bound_end e + bound_of ps)
      (forest_facts (with_ports (Cell m ∷ (end_value vs e ∷ [])) i) (Cell m ∷ (end_value vs e ∷ [])) i)
      (end_facts vs e ++ slot_facts vs m ps)
      (forest_low (with_ports (Cell m ∷ (end_value vs e ∷ [])) i) (Cell m ∷ (end_value vs e ∷ [])) i)
      (low_both (bound_end e) (bound_of ps) (end_facts vs e) (slot_facts vs m ps) (end_low vs e) (slots_low vs m ps))
      c s ds j
  slots_low vs m (hook b i ps) c s ds j =
      low_both (bound_all i) (bound_of ps) (forest_facts (with_ports (Cell m ∷ []) i) (Cell m ∷ []) i)
      (slot_facts vs m ps) (forest_low (with_ports (Cell m ∷ []) i) (Cell m ∷ []) i) (slots_low vs m ps) c s ds j

  end_low : (vs : List Value) (e : End) → AreLow (bound_end e) (end_facts vs e)
  end_low vs (under n) c s ds i = tree_low vs n c s ds i
  end_low vs (leaf t) c s ds i = absurd i

  forest_low : (vs ports : List Value) (ns : Nodes) → AreLow (bound_all ns) (forest_facts vs ports ns)
  forest_low vs ports no_nodes c s ds i = absurd i
  forest_low vs [] (more n ns) c s ds i =
      low_both (bound n) (bound_all ns) (tree_facts vs n) (forest_facts vs [] ns) (tree_low vs n) (forest_low vs [] ns)
      c s ds i
  forest_low vs (v ∷ ports) (more n ns) c s ds i =
      low_both (bound n) (bound_all ns) (port_facts vs v n) (forest_facts vs ports ns) (port_low vs v n)
      (forest_low vs ports ns) c s ds i

  port_low : (vs : List Value) (v : Value) (n : Node) → AreLow (bound n) (port_facts vs v n)
  port_low vs NullValue (node m q es ps) c s ds i = absurd i
  port_low vs UninitValue (node m q es ps) c s ds i = absurd i
  port_low vs DanglingValue (node m q es ps) c s ds i = absurd i
  port_low vs (Cell k) (node m q es ps) c s ds i = (let l = slots_low vs k ps c s ds i in omega (arith, l))

-- a greater number has no head
pub above_all : (vs : List Value) (ns : Nodes) (c : ℕ) → bound_all ns < c → NoHead c (forest_facts vs [] ns)
above_all vs ns c l s ds i = (let k = forest_low vs [] ns c s ds i in omega (arith, k, l))

-- other leaves change no number
module _ (f : ℕ → Target) where
  mutual
    bound_placed : (n : Node) → bound (placed f n) ≡ bound n
    bound_placed (node c s ds ps) = ap (λ (k : ℕ). c + k) (bound_parts ps)

    bound_parts : (ps : Parts) → bound_of (placed_parts f ps) ≡ bound_of ps
    bound_parts no_parts = refl
    bound_parts (field g e ps) = (let a = bound_at e in let b = bound_parts ps in omega (arith, a, b))
    bound_parts (link b i e ps) = (let a = bound_at e in let b = bound_parts ps in omega (arith, a, b))
    bound_parts (hook b i ps) = (let b = bound_parts ps in omega (arith, b))

    bound_at : (e : End) → bound_end (placed_end f e) ≡ bound_end e
    bound_at (under n) = bound_placed n
    bound_at (leaf t) = refl

  pub bound_same : (ns : Nodes) → bound_all (placed_all f ns) ≡ bound_all ns
  bound_same no_nodes = refl
  bound_same (more n ns) = (let a = bound_placed n in let b = bound_same ns in omega (arith, a, b))

-- Counting the fields of a cell.

module _ (hs : List Shape) (c : ℕ) where
  abbrev have : List Fact → ℕ
  have fs = length (fields_at c fs)

  abbrev owe : List Fact → ℕ
  owe fs = length (fields_owed hs c fs)

  have_both : (xs ys : List Fact) → have (xs ++ ys) ≡ have xs + have ys
  have_both [] ys = omega arith
  have_both (Head m s ds ∷ xs) ys = have_both xs ys
  have_both (Points m f v ∷ xs) ys = here (nat_eq c m) (have_both xs ys)
    where
      here : (b : Bool) → have (xs ++ ys) ≡ have xs + have ys
          → length (cond b (f ∷ fields_at c (xs ++ ys)) (fields_at c (xs ++ ys)))
          ≡ length (cond b (f ∷ fields_at c xs) (fields_at c xs)) + have ys
      here true e = omega (arith, e)
      here false e = e

  owe_both : (xs ys : List Fact) → owe (xs ++ ys) ≡ owe xs + owe ys
  owe_both [] ys = omega arith
  owe_both (Points m f v ∷ xs) ys = owe_both xs ys
  owe_both (Head m s ds ∷ xs) ys = here (nat_eq c m) (owe_both xs ys)
    where
      here : (b : Bool) → owe (xs ++ ys) ≡ owe xs + owe ys
          → length (cond b (fields_of hs s ++ fields_owed hs c (xs ++ ys)) (fields_owed hs c (xs ++ ys)))
          ≡ length (cond b (fields_of hs s ++ fields_owed hs c xs) (fields_owed hs c xs)) + owe ys
      here true e =
          let a = length-append (fields_of hs s) (fields_owed hs c (xs ++ ys)) in
          let b = length-append (fields_of hs s) (fields_owed hs c xs) in
          omega (arith, a, b, e)
      here false e = e

  owe_none : (xs : List Fact) → NoHead c xs → owe xs ≡ 0
  owe_none [] h = refl
  owe_none (Points m f v ∷ xs) h = owe_none xs (λ s ds i. h s ds (inr i))
  owe_none (Head m s ds ∷ xs) h = here (nat_eq c m) refl (owe_none xs (λ q es i. h q es (inr i)))
    where
      here : (b : Bool) → nat_eq c m ≡ b → owe xs ≡ 0
          → length (cond b (fields_of hs s ++ fields_owed hs c xs) (fields_owed hs c xs)) ≡ 0
      here true e k =
          absurd (h s ds (inl (ap (λ (n : ℕ). Head n s ds) (eqb-true c m e))))
      here false e k = k

  -- a cell that has no field and no head has no fact
  no_fact : (xs : List Fact) → NoHead c xs → have xs ≡ 0 → NoFact c xs
  no_fact [] h e x i = absurd i
  no_fact (Head m s ds ∷ xs) h e x (inl q) = (λ z.
      h s ds (inl (ap (λ (n : ℕ). Head n s ds) (sym z ∙ ap fact_cell q))))
  no_fact (Head m s ds ∷ xs) h e x (inr i) = no_fact xs (λ q es j. h q es (inr j)) e x i
  no_fact (Points m f v ∷ xs) h e x i =
      here (nat_eq c m) refl e i (λ k j. no_fact xs (λ q es l. h q es (inr l)) k x j)
    where
      here : (b : Bool) → nat_eq c m ≡ b → length (cond b (f ∷ fields_at c xs) (fields_at c xs)) ≡ 0
          → IsIn x (Points m f v ∷ xs) → (have xs ≡ 0 → IsIn x xs → fact_cell x ≢ c) → fact_cell x ≢ c
      here true d k j later = absurd (omega (arith, k))
      here false d k (inl q) later = (λ z. true≢false (sym (eq-eqb c m (sym z ∙ ap fact_cell q)) ∙ d))
      here false d k (inr j) later = later k j

  -- own slots that end at leaves
  have_own : (vs : List Value) (bs : List BoxFace) (ps : Parts) → AreLeaves ps
      → have (slot_facts vs c ps) ≡ length (flat_map (covers bs) (slots_of ps))
  have_own vs bs no_parts h = refl
  have_own vs bs (field f (leaf t) ps) h =
      let e = have_own vs bs ps h in
      let q : nat_eq c c ≡ true = eq-eqb c c refl in
      rw q (ap (λ (n : ℕ). suc n) e)
  have_own vs bs (field f (under n) ps) h = absurd h
  have_own vs bs (link b i e ps) h = absurd h
  have_own vs bs (hook b i ps) h = absurd h

  owe_own : (vs : List Value) (s : ℕ) (ds : List Datum) (ps : Parts) → AreLeaves ps
      → owe (tree_facts vs (node c s ds ps)) ≡ length (fields_of hs s)
  owe_own vs s ds ps h =
      let q : nat_eq c c ≡ true = eq-eqb c c refl in
      let z = none_owed ps h in
      let a = length-append (fields_of hs s) (fields_owed hs c (slot_facts vs c ps)) in
      rw q (omega (arith, a, z))
    where
      none_owed : (ps : Parts) → AreLeaves ps → owe (slot_facts vs c ps) ≡ 0
      none_owed no_parts h = refl
      none_owed (field f (leaf t) ps) h = none_owed ps h
      none_owed (field f (under n) ps) h = absurd h
      none_owed (link b i e ps) h = absurd h
      none_owed (hook b i ps) h = absurd h

-- what is counted, tree by tree
counted : (K : List Fact → ℕ) → ((xs ys : List Fact) → K (xs ++ ys) ≡ K xs + K ys) → (vs : List Value) (r : ℕ)
    (d : Nodes) (n : Node) → node_at d r ≡ Some n
    → K (forest_facts vs [] d) ≡ K (tree_facts vs n) + K (forest_facts vs [] (without_node r d))
counted K h vs r no_nodes n e = absurd (none-some n e)
counted K h vs zero (more m ns) n e =
    h (tree_facts vs m) (forest_facts vs [] ns)
    ∙ ap (λ (z : Node). K (tree_facts vs z) + K (forest_facts vs [] ns)) (same_Some m n e)
counted K h vs (suc r) (more m ns) n e =
    let a = h (tree_facts vs m) (forest_facts vs [] ns) in
    let b = h (tree_facts vs m) (forest_facts vs [] (without_node r ns)) in
    let k = counted K h vs r ns n e in
    omega (arith, a, b, k)

-- the cell of a root has its fields, each once, by its slots and by what is given there
pub root_once : (face : Face) (all : List Tree) (tops : List ℕ) (c s : ℕ) (ds : List Datum) (ps : Parts) (k r : ℕ)
    (d : Nodes) → TreesFilled face all tops k (bares d) → node_at d r ≡ Some (node c s ds ps)
    → Rearranged (fields_of face.shapes.structs s)
    (flat_map (covers face.boxes) (slots_of ps) ++ given_at face.boxes all (k + r))
root_once face all tops c s ds ps k r no_nodes h e = absurd (none-some (node c s ds ps) e)
root_once face all tops c s ds ps k zero (more n ns) h e =
    let g : List ℕ = given_at face.boxes all k in
    let y : Every (IsFilledSpot face tops) (spots face.boxes (bare (node c s ds ps)) (given_at face.boxes all k)) =
    subst (λ (m : Node). Every (IsFilledSpot face tops) (spots face.boxes (bare m) (given_at face.boxes all k)))
    (same_Some n (node c s ds ps) e) h.0 in
    let z : Every (IsFilledSpot face tops) (node_spots face.boxes (node c s ds ps) (given_at face.boxes all k)) =
    subst (λ (l : List Spot). Every (IsFilledSpot face tops) l)
    (spots_are face.boxes (node c s ds ps) (given_at face.boxes all k)) y in
    let q : k ≡ k + 0 = omega arith in
    subst (λ (m : ℕ). Rearranged (fields_of face.shapes.structs s)
    (flat_map (covers face.boxes) (slots_of ps) ++ given_at face.boxes all m)) q z.0.once
root_once face all tops c s ds ps k (suc r) (more n ns) h e =
    let q : suc k + r ≡ k + suc r = omega arith in
    subst (λ (m : ℕ). Rearranged (fields_of face.shapes.structs s)
    (flat_map (covers face.boxes) (slots_of ps) ++ given_at face.boxes all m)) q
    (root_once face all tops c s ds ps (suc k) r ns h.1 e)

-- a number that has no head has no fact: its fields would be owed
pub none_clear : (face : Face) (T : List BoxDef) (F : Forest) → IsTableOf face T → IsFilled face F → (d : Nodes)
    → OfForest T F d → (c : ℕ) → NoHead c (facts d) → NoFact c (facts d)
none_clear face T F table filled d of c none =
    let hs : List Shape = face.shapes.structs in
    let full = long_same (fields_full (record { face = face; defs = T }) table F filled d of c) in
    let z = owe_none hs c (facts d) none in
    no_fact hs c (facts d) none (omega (arith, full, z))

module _ (face : Face) (T : List BoxDef) (F : Forest) (r : ℕ) (table : IsTableOf face T) (filled : IsFilled face F)
    (idle : IsIdle face.boxes F r) (d : Nodes) (of : OfForest T F d) (c s : ℕ) (ds : List Datum) (ps : Parts)
    (is : node_at d r ≡ Some (node c s ds ps)) (flat : AreLeaves ps) where
  abbrev hs : List Shape
  hs = face.shapes.structs

  -- the slots are the fields of the struct
  pub own_once : Rearranged (fields_of face.shapes.structs s) (flat_map (covers face.boxes) (slots_of ps))
  own_once =
      let ts = bares d in
      let choice = choice_of T F.autos d of in
      let cf = filled.trees ts choice in
      let n : 0 + r ≡ r = omega arith in
      let given : given_at face.boxes ts (0 + r) ≡ [] = ap (given_at face.boxes ts) n ∙ idle.own ts choice in
      subst (λ (z : List ℕ). Rearranged (fields_of hs s) z)
      (ap (λ (z : List ℕ). flat_map (covers face.boxes) (slots_of ps) ++ z) given
      ∙ append-nil (flat_map (covers face.boxes) (slots_of ps)))
      (root_once face ts cf.tops c s ds ps 0 r d cf.cells is)

  pub all_clear : NoHead c (forest_facts (roots_of d) [] (without_node r d))
      → NoFact c (forest_facts (roots_of d) [] (without_node r d))
  all_clear none =
      let vs : List Value = roots_of d in
      let rest : List Fact = forest_facts (roots_of d) [] (without_node r d) in
      let full = long_same (fields_full (record { face = face; defs = T }) table F filled d of c) in
      let h = counted (have hs c) (have_both hs c) vs r d (node c s ds ps) is in
      let o = counted (owe hs c) (owe_both hs c) vs r d (node c s ds ps) is in
      let own = have_own hs c vs face.boxes ps flat in
      let owed = owe_own hs c vs s ds ps flat in
      let same = long_same own_once in
      let z = owe_none hs c rest none in
      no_fact hs c rest none (omega (arith, full, h, o, own, owed, same, z))

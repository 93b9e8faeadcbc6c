-- All cells of a dressed forest, those of insides with them, under new numbers in the order of a walk: the same trees,
-- and no number twice.
use Rattle.std.proofs.Common.{◌≡◌, inl, inr, ℕ, suc, ◌<◌, ◌≤◌, ◌+◌, List, [], ◌∷◌, ◌++◌, refl, sym, ap, ap₂}
use Rattle.std.proofs.Common.{subst, arith}
use Rattle.fore_base.specs.Lists.{IsIn, Every, IsDistinct}
use Rattle.fore_base.specs.declared.store.Value.{Value}
use Rattle.fore_base.specs.declared.store.Value.TheVariants.{Null as NullValue, Uninit as UninitValue}
use Rattle.fore_base.specs.declared.store.Value.TheVariants.{Dangling as DanglingValue, Cell}
use Rattle.fore_base.proofs.ListLemmas.{every_weaker, every_append, every_in, in_append}
use Rattle.ta_core.specs.Auto.{Automaton}
use Rattle.ta_core.specs.Language.{InLanguage}
use Rattle.ta_core.specs.declared.symbol.Symbol.TheVariants.{Cell as CellSymbol}
use Rattle.ta_core.specs.declared.symbol.Slot.{Slot}
use Rattle.ta_core.specs.declared.symbol.Slot.TheVariants.{Field, Link, Hook}
use Rattle.ta_core.specs.declared.tree.Tree.{Tree, roll-Tree}
use Rattle.fa_core.specs.declared.boxes.BoxDef.{BoxDef}
use Rattle.fa_core.specs.Boxes.{head_of, heads}
use Rattle.fa_core.specs.Choices.{bares}
use Rattle.fa_core.specs.Dressed.{Node, Parts, End, Nodes, node, no_parts, field, link, hook, under, leaf, no_nodes}
use Rattle.fa_core.specs.Dressed.{more, Fact, tree_facts, slot_facts, end_facts, forest_facts, port_facts}
use Rattle.fa_core.specs.Dressed.{end_value, with_ports, inside_facts}
use Rattle.fa_core.specs.Member.{bare, bare_parts, bare_end, slots_of, InsidesOf, InsidesOfParts, InsidesOfEnd, TreesOf}
use Rattle.fa_core.proofs.Rearranging.{flat_map-append}

abbrev mutual
  -- how many cells a tree has, those of insides with them
  pub size : Node → ℕ
  size (node c s ds ps) = suc (size_of ps)

  pub size_of : Parts → ℕ
  size_of no_parts = 0
  size_of (field f e ps) = end_size e + size_of ps
  size_of (link b inside e ps) = all_size inside + (end_size e + size_of ps)
  size_of (hook b inside ps) = all_size inside + size_of ps

  pub end_size : End → ℕ
  end_size (under n) = size n
  end_size (leaf t) = 0

  pub all_size : Nodes → ℕ
  all_size no_nodes = 0
  all_size (more n ns) = size n + all_size ns

abbrev mutual
  -- the tree with the numbers from k on
  pub fresh : ℕ → Node → Node
  fresh k (node c s ds ps) = node k s ds (fresh_of (suc k) ps)

  pub fresh_of : ℕ → Parts → Parts
  fresh_of k no_parts = no_parts
  fresh_of k (field f e ps) = field f (fresh_end k e) (fresh_of (k + end_size e) ps)
  fresh_of k (link b inside e ps) =
      link b (fresh_all k inside) (fresh_end (k + all_size inside) e) (fresh_of (k + all_size inside + end_size e) ps)
  fresh_of k (hook b inside ps) = hook b (fresh_all k inside) (fresh_of (k + all_size inside) ps)

  pub fresh_end : ℕ → End → End
  fresh_end k (under n) = under (fresh k n)
  fresh_end k (leaf t) = leaf t

  pub fresh_all : ℕ → Nodes → Nodes
  fresh_all k no_nodes = no_nodes
  fresh_all k (more n ns) = more (fresh k n) (fresh_all (k + size n) ns)

-- The trees stay.

mutual
  slots_stay : (k : ℕ) (ps : Parts) → slots_of (fresh_of k ps) ≡ slots_of ps
  slots_stay k no_parts = refl
  slots_stay k (field f e ps) = ap (λ (z : List Slot). Field f ∷ z) (slots_stay (k + end_size e) ps)
  slots_stay k (link b inside e ps) =
      ap (λ (z : List Slot). Link b ∷ z) (slots_stay (k + all_size inside + end_size e) ps)
  slots_stay k (hook b inside ps) = ap (λ (z : List Slot). Hook b ∷ z) (slots_stay (k + all_size inside) ps)

mutual
  pub bare_stays : (k : ℕ) (n : Node) → bare (fresh k n) ≡ bare n
  bare_stays k (node c s ds ps) =
      ap₂ (λ (x : List Slot) (y : List Tree). roll-Tree (record { symbol = CellSymbol s ds x; children = y }))
      (slots_stay (suc k) ps) (parts_stay (suc k) ps)

  parts_stay : (k : ℕ) (ps : Parts) → bare_parts (fresh_of k ps) ≡ bare_parts ps
  parts_stay k no_parts = refl
  parts_stay k (field f e ps) =
      ap₂ (λ (x : Tree) (y : List Tree). x ∷ y) (end_stays k e) (parts_stay (k + end_size e) ps)
  parts_stay k (link b inside e ps) =
      ap₂ (λ (x : Tree) (y : List Tree). x ∷ y) (end_stays (k + all_size inside) e)
      (parts_stay (k + all_size inside + end_size e) ps)
  parts_stay k (hook b inside ps) = parts_stay (k + all_size inside) ps

  end_stays : (k : ℕ) (e : End) → bare_end (fresh_end k e) ≡ bare_end e
  end_stays k (under n) = bare_stays k n
  end_stays k (leaf t) = refl

pub bares_stay : (k : ℕ) (d : Nodes) → bares (fresh_all k d) ≡ bares d
bares_stay k no_nodes = refl
bares_stay k (more n ns) =
    ap₂ (λ (x : Tree) (y : List Tree). x ∷ y) (bare_stays k n) (bares_stay (k + size n) ns)

module _ (T : List BoxDef) where
  mutual
    insides_stay : (k : ℕ) (n : Node) → InsidesOf T n → InsidesOf T (fresh k n)
    insides_stay k (node c s ds ps) h = part_insides (suc k) ps h

    part_insides : (k : ℕ) (ps : Parts) → InsidesOfParts T ps → InsidesOfParts T (fresh_of k ps)
    part_insides k no_parts h = tt
    part_insides k (field f e ps) h = (end_insides k e h.0, part_insides (k + end_size e) ps h.1)
    part_insides k (link b inside e ps) h = (
      (h.0.0, h.0.1, trees_stay h.0.0 k inside h.0.2),
      end_insides (k + all_size inside) e h.1,
      part_insides (k + all_size inside + end_size e) ps h.2,
    )
    part_insides k (hook b inside ps) h =
        ((h.0.0, h.0.1, trees_stay h.0.0 k inside h.0.2), part_insides (k + all_size inside) ps h.1)

    end_insides : (k : ℕ) (e : End) → InsidesOfEnd T e → InsidesOfEnd T (fresh_end k e)
    end_insides k (under n) h = insides_stay k n h
    end_insides k (leaf t) h = tt

    pub trees_stay : (autos : List Automaton) (k : ℕ) (d : Nodes) → TreesOf T autos d → TreesOf T autos (fresh_all k d)
    trees_stay [] k no_nodes h = tt
    trees_stay [] k (more n ns) h = absurd h
    trees_stay (a ∷ autos) k no_nodes h = absurd h
    trees_stay (a ∷ autos) k (more n ns) h = (
      subst (λ (t : Tree). InLanguage a t) (sym (bare_stays k n)) h.0,
      insides_stay k n h.1,
      trees_stay autos (k + size n) ns h.2,
    )

-- The numbers differ.

abbrev pub IsBetween : ℕ → ℕ → ℕ → Type 0
IsBetween k m h = (k ≤ h) × (h < m)

-- the numbers are from k on and below m, and no two of them are one
abbrev pub AreFresh : ℕ → ℕ → List ℕ → Type 0
AreFresh k m hs = Every (IsBetween k m) hs × IsDistinct hs

distinct_both : (xs ys : List ℕ) → IsDistinct xs → IsDistinct ys → ((h : ℕ) → IsIn h xs → IsIn h ys → ⊥)
    → IsDistinct (xs ++ ys)
distinct_both [] ys p q r = q
distinct_both (x ∷ xs) ys p q r = (
  (λ i. elim (in_append x xs ys i) [ inl j ↦ p.0 j | inr j ↦ r x (inl refl) j ]),
  distinct_both xs ys p.1 q (λ h i j. r h (inr i) j),
)

wider : (k m j l : ℕ) (hs : List ℕ) → j ≤ k → m ≤ l → AreFresh k m hs → AreFresh j l hs
wider k m j l hs p q h =
    (every_weaker (IsBetween k m) (IsBetween j l) hs (λ x b. (low x b.0, high x b.1)) h.0, h.1)
  where
    low : (x : ℕ) → k ≤ x → j ≤ x
    low x b = omega (arith, b, p)

    high : (x : ℕ) → x < m → x < l
    high x b = omega (arith, b, q)

both_fresh : (k m l : ℕ) (xs ys : List ℕ) → k ≤ m → m ≤ l → AreFresh k m xs → AreFresh m l ys → AreFresh k l (xs ++ ys)
both_fresh k m l xs ys p q h g = (
  every_append (IsBetween k l) xs ys (wider k m k l xs (omega arith) q h).0 (wider m l k l ys p (omega arith) g).0,
  distinct_both xs ys h.1 g.1 apart,
)
  where
    apart : (x : ℕ) → IsIn x xs → IsIn x ys → ⊥
    apart x i j =
        let a = (every_in (IsBetween k m) xs x h.0 i).1 in
        let b = (every_in (IsBetween m l) ys x g.0 j).0 in
        omega (arith, a, b)

facts_fresh : (k m l : ℕ) (xs ys : List Fact) → k ≤ m → m ≤ l → AreFresh k m (heads xs) → AreFresh m l (heads ys)
    → AreFresh k l (heads (xs ++ ys))
facts_fresh k m l xs ys p q h g = rw (flat_map-append head_of xs ys) (both_fresh k m l (heads xs) (heads ys) p q h g)

none_fresh : (k m : ℕ) → AreFresh k m []
none_fresh k m = (tt, tt)

mutual
  tree_fresh : (vs : List Value) (k : ℕ) (n : Node) → AreFresh k (k + size n) (heads (tree_facts vs (fresh k n)))
  tree_fresh vs k (node c s ds ps) =
      let rest = slots_fresh vs k (suc k) ps in
      let wide : AreFresh k (k + suc (size_of ps)) (heads (slot_facts vs k (fresh_of (suc k) ps))) =
      wider (suc k) (suc k + size_of ps) k (k + suc (size_of ps)) (heads (slot_facts vs k (fresh_of (suc k) ps)))
      (omega arith) (omega arith) rest in
      (((omega arith, omega arith), wide.0), ((λ i. outside i rest.0), wide.1))
    where
      outside : IsIn k (heads (slot_facts vs k (fresh_of (suc k) ps)))
          → Every (IsBetween (suc k) (suc k + size_of ps)) (heads (slot_facts vs k (fresh_of (suc k) ps))) → ⊥
      outside i h =
          let b : suc k ≤ k = (every_in (IsBetween (suc k) (suc k + size_of ps))
          (heads (slot_facts vs k (fresh_of (suc k) ps))) k h i).0 in
          omega (arith, b)

  -- the slots of a cell of any number
  slots_fresh : (vs : List Value) (c k : ℕ) (ps : Parts)
      → AreFresh k (k + size_of ps) (heads (slot_facts vs c (fresh_of k ps)))
  slots_fresh vs c k no_parts = none_fresh k (k + 0)
  slots_fresh vs c k (field f e ps) =
      let last : AreFresh (k + end_size e) (k + (end_size e + size_of ps))
      (heads (slot_facts vs c (fresh_of (k + end_size e) ps))) =
      wider (k + end_size e) (k + end_size e + size_of ps) (k + end_size e) (k + (end_size e + size_of ps))
      (heads (slot_facts vs c (fresh_of (k + end_size e) ps))) (omega arith) (omega arith)
      (slots_fresh vs c (k + end_size e) ps) in
      facts_fresh k (k + end_size e) (k + (end_size e + size_of ps)) (end_facts vs (fresh_end k e))
      (slot_facts vs c (fresh_of (k + end_size e) ps)) (omega arith) (omega arith) (ends_fresh vs k e) last
  slots_fresh vs c k (link b inside e ps) =
      let low = all_fresh
      (with_ports (Cell c ∷ (end_value vs (fresh_end (k + all_size inside) e) ∷ [])) (fresh_all k inside))
      (Cell c ∷ (end_value vs (fresh_end (k + all_size inside) e) ∷ [])) k inside in
      let mid = ends_fresh vs (k + all_size inside) e in
      let last : AreFresh (k + all_size inside + end_size e) (k + (all_size inside + (end_size e + size_of ps)))
      (heads (slot_facts vs c (fresh_of (k + all_size inside + end_size e) ps))) =
      wider (k + all_size inside + end_size e) (k + all_size inside + end_size e + size_of ps)
      (k + all_size inside + end_size e) (k + (all_size inside + (end_size e + size_of ps)))
      (heads (slot_facts vs c (fresh_of (k + all_size inside + end_size e) ps))) (omega arith) (omega arith)
      (slots_fresh vs c (k + all_size inside + end_size e) ps) in
      facts_fresh k (k + all_size inside) (k + (all_size inside + (end_size e + size_of ps)))
      (inside_facts (Cell c ∷ (end_value vs (fresh_end (k + all_size inside) e) ∷ [])) (fresh_all k inside))
      (end_facts vs (fresh_end (k + all_size inside) e)
      ++ slot_facts vs c (fresh_of (k + all_size inside + end_size e) ps)) (omega arith) (omega arith) low
      (facts_fresh (k + all_size inside) (k + all_size inside + end_size e)
      (k + (all_size inside + (end_size e + size_of ps))) (end_facts vs (fresh_end (k + all_size inside) e))
      (slot_facts vs c (fresh_of (k + all_size inside + end_size e) ps)) (omega arith) (omega arith) mid last)
  slots_fresh vs c k (hook b inside ps) =
      let last : AreFresh (k + all_size inside) (k + (all_size inside + size_of ps))
      (heads (slot_facts vs c (fresh_of (k + all_size inside) ps))) =
      wider (k + all_size inside) (k + all_size inside + size_of ps) (k + all_size inside)
      (k + (all_size inside + size_of ps)) (heads (slot_facts vs c (fresh_of (k + all_size inside) ps)))
      (omega arith) (omega arith) (slots_fresh vs c (k + all_size inside) ps) in
      facts_fresh k (k + all_size inside) (k + (all_size inside + size_of ps))
      (inside_facts (Cell c ∷ []) (fresh_all k inside)) (slot_facts vs c (fresh_of (k + all_size inside) ps))
      (omega arith) (omega arith) (all_fresh (with_ports (Cell c ∷ []) (fresh_all k inside)) (Cell c ∷ []) k inside)
      last

  ends_fresh : (vs : List Value) (k : ℕ) (e : End) → AreFresh k (k + end_size e) (heads (end_facts vs (fresh_end k e)))
  ends_fresh vs k (under n) = tree_fresh vs k n
  ends_fresh vs k (leaf t) = none_fresh k (k + 0)

  all_fresh : (vs ports : List Value) (k : ℕ) (d : Nodes)
      → AreFresh k (k + all_size d) (heads (forest_facts vs ports (fresh_all k d)))
  all_fresh vs ports k no_nodes = none_fresh k (k + 0)
  all_fresh vs [] k (more n ns) =
      let last : AreFresh (k + size n) (k + (size n + all_size ns))
      (heads (forest_facts vs [] (fresh_all (k + size n) ns))) =
      wider (k + size n) (k + size n + all_size ns) (k + size n) (k + (size n + all_size ns))
      (heads (forest_facts vs [] (fresh_all (k + size n) ns))) (omega arith) (omega arith)
      (all_fresh vs [] (k + size n) ns) in
      facts_fresh k (k + size n) (k + (size n + all_size ns)) (tree_facts vs (fresh k n))
      (forest_facts vs [] (fresh_all (k + size n) ns)) (omega arith) (omega arith) (tree_fresh vs k n) last
  all_fresh vs (v ∷ ports) k (more n ns) =
      let last : AreFresh (k + size n) (k + (size n + all_size ns))
      (heads (forest_facts vs ports (fresh_all (k + size n) ns))) =
      wider (k + size n) (k + size n + all_size ns) (k + size n) (k + (size n + all_size ns))
      (heads (forest_facts vs ports (fresh_all (k + size n) ns))) (omega arith) (omega arith)
      (all_fresh vs ports (k + size n) ns) in
      facts_fresh k (k + size n) (k + (size n + all_size ns)) (port_facts vs v (fresh k n))
      (forest_facts vs ports (fresh_all (k + size n) ns)) (omega arith) (omega arith) (port_fresh vs v k n) last

  port_fresh : (vs : List Value) (v : Value) (k : ℕ) (n : Node)
      → AreFresh k (k + size n) (heads (port_facts vs v (fresh k n)))
  port_fresh vs NullValue k (node c s ds ps) = none_fresh k (k + suc (size_of ps))
  port_fresh vs UninitValue k (node c s ds ps) = none_fresh k (k + suc (size_of ps))
  port_fresh vs DanglingValue k (node c s ds ps) = none_fresh k (k + suc (size_of ps))
  port_fresh vs (Cell m) k (node c s ds ps) =
      wider (suc k) (suc k + size_of ps) k (k + suc (size_of ps)) (heads (slot_facts vs m (fresh_of (suc k) ps)))
      (omega arith) (omega arith) (slots_fresh vs m (suc k) ps)

-- an inside between any ports
pub inside_fresh : (ports : List Value) (k : ℕ) (d : Nodes)
    → AreFresh k (k + all_size d) (heads (inside_facts ports (fresh_all k d)))
inside_fresh ports k d = all_fresh (with_ports ports (fresh_all k d)) ports k d

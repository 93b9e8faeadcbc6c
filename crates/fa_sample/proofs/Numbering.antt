-- The dressed forest that is made of trees: its trees are these, and its cells are numbered in the order in which a
-- walk writes their heads.
use Rattle.std.proofs.Common.{◌≡◌, ℕ, zero, suc, ◌<◌, ◌≤◌, ◌+◌, List, [], ◌∷◌, ◌++◌, map, length, Some}
use Rattle.std.proofs.Common.{refl, sym, ap, ap₂, subst, ◌∙◌, arith}
use Rattle.std.proofs.lemmas.List.{nil_from_length}
use Rattle.fore_base.specs.Lists.{Every}
use Rattle.fore_base.specs.declared.store.Value.{Value}
use Rattle.fore_base.specs.declared.store.Value.TheVariants.{Null as NullValue, Uninit as UninitValue}
use Rattle.fore_base.specs.declared.store.Value.TheVariants.{Dangling as DanglingValue, Cell as CellValue}
use Rattle.fore_base.proofs.ListLemmas.{every_in}
use Rattle.ta_core.specs.Arity.{arity, child_slots}
use Rattle.ta_core.specs.Auto.{Automaton, IsRankedRule}
use Rattle.ta_core.specs.Language.{RunOf, run, RunEach, run_none, run_more}
use Rattle.ta_core.specs.declared.auto.Rule.{Rule}
use Rattle.ta_core.specs.declared.symbol.Slot.{Slot}
use Rattle.ta_core.specs.declared.symbol.Slot.TheVariants.{Field, Link, Hook}
use Rattle.ta_core.specs.declared.symbol.Symbol.{Symbol}
use Rattle.ta_core.specs.declared.symbol.Symbol.TheVariants.{Null as NullSymbol, Uninit as UninitSymbol}
use Rattle.ta_core.specs.declared.symbol.Symbol.TheVariants.{Dangling as DanglingSymbol, Ref, Cell as CellSymbol}
use Rattle.ta_core.specs.declared.tree.Tree.{Tree, roll-Tree, out-Tree, roll-out-Tree, fold_out-Tree}
use Rattle.fa_core.specs.declared.boxes.BoxDef.{BoxDef}
use Rattle.fa_core.specs.declared.forest.Target.{Target}
use Rattle.fa_core.specs.declared.forest.Target.TheVariants.{Null, Uninit, Dangling, At}
use Rattle.fa_core.specs.Dressed.{End, Nodes, node, link, hook, leaf}
use Rattle.fa_core.specs.Dressed.{Fact, Head, Points, end_value, nth_value}
use Rattle.fa_core.specs.Member.{TreesOf, InsidesOfParts, InsidesOfEnd, inside_of, bare, bare_parts, bare_end}
use Rattle.fa_core.specs.Member.{slots_of, leaf_symbol}
use Rattle.fa_core.proofs.Dressing.{each_length}
use Rattle.fa_sample.specs.inner.Dressing.{Making, Leaf, Under, Insides, begun, top_of, ended, parts_made, made_at}
use Rattle.fa_sample.specs.inner.Dressing.{made}
use Rattle.fa_sample.specs.inner.Emitted.{end_head, slots_out, below_out}
use Rattle.fa_sample.specs.inner.Emitted.{forest_out}

-- Numbers in the order of heads.

-- from the next number j on the heads have the numbers one after the other, up to k; each pointer is of a cell that has
-- its number
abbrev pub Counts : ℕ → List Fact → ℕ → Type 0
Counts j [] k = j ≡ k
Counts j (Head c s ds ∷ fs) k = (c ≡ j) × Counts (suc j) fs k
Counts j (Points c f v ∷ fs) k = (1 ≤ c) × (c < j) × Counts j fs k

pub counts_both : (i j k : ℕ) (xs ys : List Fact) → Counts i xs j → Counts j ys k → Counts i (xs ++ ys) k
counts_both i j k [] ys a b = subst (λ (n : ℕ). Counts n ys k) (sym a) b
counts_both i j k (Head c s ds ∷ xs) ys a b = (a.0, counts_both (suc i) j k xs ys a.1 b)
counts_both i j k (Points c f v ∷ xs) ys a b = (a.0, a.1, counts_both i j k xs ys a.2 b)

pub counts_rise : (j k : ℕ) (fs : List Fact) → Counts j fs k → j ≤ k
counts_rise j k [] h = omega (arith, h)
counts_rise j k (Head c s ds ∷ fs) h = let e = counts_rise (suc j) k fs h.1 in omega (arith, e)
counts_rise j k (Points c f v ∷ fs) h = counts_rise j k fs h.2

-- a cell that has its number
abbrev pub IsLow : ℕ → Value → Type 0
IsLow k NullValue = Unit {0}
IsLow k UninitValue = Unit {0}
IsLow k DanglingValue = Unit {0}
IsLow k (CellValue c) = (1 ≤ c) × (c < k)

low_more : (j k : ℕ) (v : Value) → j ≤ k → IsLow j v → IsLow k v
low_more j k NullValue l h = tt
low_more j k UninitValue l h = tt
low_more j k DanglingValue l h = tt
low_more j k (CellValue c) l h = let a = h.1 in (h.0, omega (arith, l, a))

pub lows_more : (j k : ℕ) (vs : List Value) → j ≤ k → Every (IsLow j) vs → Every (IsLow k) vs
lows_more j k [] l h = tt
lows_more j k (v ∷ vs) l h = (low_more j k v l h.0, lows_more j k vs l h.1)

-- Insides.

module _ (T : List BoxDef) (ins : Insides) where
  -- the insides of box b are those of its trees, and their cells are numbered one after the other
  abbrev pub IsInside : ℕ → Type 0
  IsInside b = (ports : List Value) (k : ℕ)
      → ((autos : List Automaton) × (inside_of T b ≡ Some autos) × TreesOf T autos (ins b ports k).0)
      × (1 ≤ k → Every (IsLow k) ports → Counts k (forest_out ports (ins b ports k).0) (ins b ports k).1)

  abbrev pub SlotInside : Slot → Type 0
  SlotInside (Field f) = Unit {0}
  SlotInside (Link b) = IsInside b
  SlotInside (Hook b) = IsInside b

  abbrev pub SymbolInside : Symbol → Type 0
  SymbolInside NullSymbol = Unit {0}
  SymbolInside UninitSymbol = Unit {0}
  SymbolInside DanglingSymbol = Unit {0}
  SymbolInside (Ref r) = Unit {0}
  SymbolInside (CellSymbol s ds ss) = Every SlotInside ss

module _ (T : List BoxDef) (ins : Insides) (vs : List Value) where
  -- the roots have their numbers
  abbrev pub AreLow : ℕ → Type 0
  AreLow k = Every (IsLow k) vs

  low_later : (j k : ℕ) → j ≤ k → AreLow j → AreLow k
  low_later j k l h = lows_more j k vs l h

  -- what is made is the tree, with insides of its boxes, and its cells are numbered one after the other
  abbrev pub IsMade : Tree → Making → Type 0
  IsMade t (Leaf u) = bare_end (leaf u) ≡ t
  IsMade t (Under s ds p) = (own k : ℕ) → (bare (node own s ds (p own k).0) ≡ t) × InsidesOfParts T (p own k).0
      × (1 ≤ own → own < k → AreLow k → Counts k (slots_out vs own (p own k).0) (p own k).1)

  abbrev pub AreMade : List Tree → List Making → Type 0
  AreMade [] [] = Unit {0}
  AreMade [] (m ∷ ms) = ⊥
  AreMade (t ∷ ts) [] = ⊥
  AreMade (t ∷ ts) (m ∷ ms) = IsMade t m × AreMade ts ms

  -- the value at the end
  top_value : (m : Making) (own k : ℕ) → end_value vs (ended m own k).0 ≡ top_of vs m own
  top_value (Leaf t) own k = refl
  top_value (Under s ds p) own k = refl

  end_tree : (t : Tree) (m : Making) (own k : ℕ) → IsMade t m → bare_end (ended m own k).0 ≡ t
  end_tree t (Leaf u) own k h = h
  end_tree t (Under s ds p) own k h = (h own k).0

  end_insides : (t : Tree) (m : Making) (own k : ℕ) → IsMade t m → InsidesOfEnd T (ended m own k).0
  end_insides t (Leaf u) own k h = tt
  end_insides t (Under s ds p) own k h = (h own k).1

  head_counts : (m : Making) (own k : ℕ) → Counts own (end_head (ended m own k).0) (begun m own)
  head_counts (Leaf u) own k = refl
  head_counts (Under s ds p) own k = (refl, refl)

  begun_more : (m : Making) (k : ℕ) → k ≤ begun m k
  begun_more (Leaf u) k = omega arith
  begun_more (Under s ds p) k = omega arith

  below_counts : (t : Tree) (m : Making) (own k : ℕ) → IsMade t m → 1 ≤ own → begun m own ≤ k → AreLow k
      → Counts k (below_out vs (ended m own k).0) (ended m own k).1
  below_counts t (Leaf u) own k h a b l = refl
  below_counts t (Under s ds p) own k h a b l = (h own k).2 a (omega (arith, b)) l

  nth_low : (k : ℕ) (ws : List Value) → Every (IsLow k) ws → (r : ℕ) → IsLow k (nth_value ws r)
  nth_low k [] h r = tt
  nth_low k (w ∷ ws) h zero = h.0
  nth_low k (w ∷ ws) h (suc r) = nth_low k ws h.1 r

  top_low : (m : Making) (k : ℕ) → AreLow k → 1 ≤ k → IsLow (begun m k) (top_of vs m k)
  top_low (Leaf Null) k l a = tt
  top_low (Leaf Uninit) k l a = tt
  top_low (Leaf Dangling) k l a = tt
  top_low (Leaf (At r)) k l a = nth_low k vs l r
  top_low (Under s ds p) k l a = (a, omega arith)

  abbrev MadeParts : List Slot → List Tree → List Making → ℕ → ℕ → Type 0
  MadeParts ss ts ms c k = (slots_of (parts_made ins vs ss ms c k).0 ≡ ss) ×
      (bare_parts (parts_made ins vs ss ms c k).0 ≡ ts)
      × InsidesOfParts T (parts_made ins vs ss ms c k).0
      × (1 ≤ c → c < k → AreLow k → Counts k (slots_out vs c (parts_made ins vs ss ms c k).0)
      (parts_made ins vs ss ms c k).1)

  slots_made : (ss : List Slot) (ts : List Tree) (ms : List Making) → Every (SlotInside T ins) ss
      → length ts ≡ child_slots ss → AreMade ts ms → (c k : ℕ) → MadeParts ss ts ms c k
  slots_made [] [] ms f l h c k = (refl, refl, tt, λ a b d. refl)
  slots_made [] (t ∷ ts) ms f l h c k = let z : suc (length ts) ≡ 0 = l in absurd (omega (arith, z))
  slots_made (Field g ∷ ss) [] ms f l h c k = let z : 0 ≡ child_slots ss + 1 = l in absurd (omega (arith, z))
  slots_made (Field g ∷ ss) (t ∷ ts) [] f l h c k = absurd h
  slots_made (Field g ∷ ss) (t ∷ ts) (m ∷ ms) f l h c k =
      let z : suc (length ts) ≡ child_slots ss + 1 = l in
      let e : End × ℕ = ended m k (begun m k) in
      let r = slots_made ss ts ms f.1 (omega (arith, z)) h.1 c (ended m k (begun m k)).1 in (
        ap (λ (x : List Slot). Field g ∷ x) r.0,
        ap₂ (λ (x : Tree) (y : List Tree). x ∷ y) (end_tree t m k (begun m k) h.0) r.1,
        (end_insides t m k (begun m k) h.0, r.2),
        λ a b d.
            (let n = begun_more m k in
            let x = head_counts m k (begun m k) in
            let y = below_counts t m k (begun m k) h.0 (omega (arith, a, b)) (omega arith)
            (low_later k (begun m k) n d) in
            let o = counts_rise (begun m k) (ended m k (begun m k)).1 (below_out vs (ended m k (begun m k)).0) y in
            let w = r.3 a (omega (arith, b, n, o)) (low_later k (ended m k (begun m k)).1 (omega (arith, n, o)) d) in
            counts_both k (begun m k) (parts_made ins vs ss ms c (ended m k (begun m k)).1).1
            (end_head (ended m k (begun m k)).0)
            (Points c g (end_value vs (ended m k (begun m k)).0)
            ∷ (below_out vs (ended m k (begun m k)).0
            ++ slots_out vs c (parts_made ins vs ss ms c (ended m k (begun m k)).1).0)) x (
              a,
              omega (arith, b, n),
              counts_both (begun m k) (ended m k (begun m k)).1
                  (parts_made ins vs ss ms c (ended m k (begun m k)).1).1 (below_out vs (ended m k (begun m k)).0)
                  (slots_out vs c (parts_made ins vs ss ms c (ended m k (begun m k)).1).0) y w,
            )),
      )
  slots_made (Link b ∷ ss) [] ms f l h c k = let z : 0 ≡ child_slots ss + 1 = l in absurd (omega (arith, z))
  slots_made (Link b ∷ ss) (t ∷ ts) [] f l h c k = absurd h
  slots_made (Link b ∷ ss) (t ∷ ts) (m ∷ ms) f l h c k =
      let z : suc (length ts) ≡ child_slots ss + 1 = l in
      let i = f.0 (CellValue c ∷ (top_of vs m k ∷ [])) (begun m k) in
      here (ins b (CellValue c ∷ (top_of vs m k ∷ [])) (begun m k)) i.0 i.1
      (λ n. slots_made ss ts ms f.1 (omega (arith, z)) h.1 c n)
    where
      here : (i : Nodes × ℕ) → ((autos : List Automaton) × (inside_of T b ≡ Some autos) × TreesOf T autos i.0)
          → (1 ≤ begun m k → Every (IsLow (begun m k)) (CellValue c ∷ (top_of vs m k ∷ []))
          → Counts (begun m k) (forest_out (CellValue c ∷ (top_of vs m k ∷ [])) i.0) i.1)
          → ((n : ℕ) → MadeParts ss ts ms c n)
          → (let e : End × ℕ = ended m k i.1 in let q = parts_made ins vs ss ms c e.1 in
          (slots_of (link b i.0 e.0 q.0) ≡ Link b ∷ ss) × (bare_parts (link b i.0 e.0 q.0) ≡ t ∷ ts)
          × InsidesOfParts T (link b i.0 e.0 q.0)
          × (1 ≤ c → c < k → AreLow k → Counts k (slots_out vs c (link b i.0 e.0 q.0)) q.1))
      here i s u r =
          let x = r (ended m k i.1).1 in (
            ap (λ (y : List Slot). Link b ∷ y) x.0,
            ap₂ (λ (y : Tree) (w : List Tree). y ∷ w) (end_tree t m k i.1 h.0) x.1,
            (s, end_insides t m k i.1 h.0, x.2),
            λ a d g.
                (let n = begun_more m k in
                let p = head_counts m k i.1 in
                let y = u (omega (arith, a, d, n))
                (((a, omega (arith, d, n)), (top_low m k g (omega (arith, a, d)), tt))) in
                let o = counts_rise (begun m k) i.1 (forest_out (CellValue c ∷ (top_of vs m k ∷ [])) i.0) y in
                let w = below_counts t m k i.1 h.0 (omega (arith, a, d)) o (low_later k i.1 (omega (arith, n, o)) g) in
                let v = counts_rise i.1 (ended m k i.1).1 (below_out vs (ended m k i.1).0) w in
                let rest = x.3 a (omega (arith, d, n, o, v))
                (low_later k (ended m k i.1).1 (omega (arith, n, o, v)) g) in
                let y2 : Counts (begun m k) (forest_out (CellValue c ∷ (end_value vs (ended m k i.1).0 ∷ [])) i.0) i.1 =
                subst (λ (q : Value). Counts (begun m k) (forest_out (CellValue c ∷ (q ∷ [])) i.0) i.1)
                (sym (top_value m k i.1)) y in
                counts_both k (begun m k) (parts_made ins vs ss ms c (ended m k i.1).1).1 (end_head (ended m k i.1).0)
                (forest_out (CellValue c ∷ (end_value vs (ended m k i.1).0 ∷ [])) i.0
                ++ (below_out vs (ended m k i.1).0 ++ slots_out vs c (parts_made ins vs ss ms c (ended m k i.1).1).0)) p
                (counts_both (begun m k) i.1 (parts_made ins vs ss ms c (ended m k i.1).1).1
                (forest_out (CellValue c ∷ (end_value vs (ended m k i.1).0 ∷ [])) i.0)
                (below_out vs (ended m k i.1).0 ++ slots_out vs c (parts_made ins vs ss ms c (ended m k i.1).1).0) y2
                (counts_both i.1 (ended m k i.1).1 (parts_made ins vs ss ms c (ended m k i.1).1).1
                (below_out vs (ended m k i.1).0) (slots_out vs c (parts_made ins vs ss ms c (ended m k i.1).1).0) w
                rest))),
          )
  slots_made (Hook b ∷ ss) ts ms f l h c k =
      let i = f.0 (CellValue c ∷ []) k in
      here (ins b (CellValue c ∷ []) k) i.0 i.1 (λ n. slots_made ss ts ms f.1 l h c n)
    where
      here : (i : Nodes × ℕ) → ((autos : List Automaton) × (inside_of T b ≡ Some autos) × TreesOf T autos i.0)
          → (1 ≤ k → Every (IsLow k) (CellValue c ∷ []) → Counts k (forest_out (CellValue c ∷ []) i.0) i.1)
          → ((n : ℕ) → MadeParts ss ts ms c n)
          → (let q = parts_made ins vs ss ms c i.1 in
          (slots_of (hook b i.0 q.0) ≡ Hook b ∷ ss) × (bare_parts (hook b i.0 q.0) ≡ ts)
          × InsidesOfParts T (hook b i.0 q.0)
          × (1 ≤ c → c < k → AreLow k → Counts k (slots_out vs c (hook b i.0 q.0)) q.1))
      here i s u r =
          let x = r i.1 in (
            ap (λ (y : List Slot). Hook b ∷ y) x.0,
            x.1,
            (s, x.2),
            λ a d g.
                (let y = u (omega (arith, a, d)) ((a, d), tt) in
                let o = counts_rise k i.1 (forest_out (CellValue c ∷ []) i.0) y in
                let rest = x.3 a (omega (arith, d, o)) (low_later k i.1 o g) in
                counts_both k i.1 (parts_made ins vs ss ms c i.1).1 (forest_out (CellValue c ∷ []) i.0)
                (slots_out vs c (parts_made ins vs ss ms c i.1).0) y rest),
          )

  -- Trees.

  made_out : (t : Tree) → made ins vs t ≡ made_at ins vs (out-Tree t).symbol (map (made ins vs) (out-Tree t).children)
  made_out t = fold_out-Tree Making (λ t. made_at ins vs t.symbol t.children) t

  made_by : (y : Symbol) (t : Tree) → y ≡ (out-Tree t).symbol → length (out-Tree t).children ≡ arity y
      → SymbolInside T ins y → AreMade (out-Tree t).children (map (made ins vs) (out-Tree t).children)
      → IsMade t (made_at ins vs y (map (made ins vs) (out-Tree t).children))
  made_by y t e l f h = by y e l f
    where
      again : (y : Symbol) (ts : List Tree) → y ≡ (out-Tree t).symbol → ts ≡ (out-Tree t).children
          → roll-Tree (record { symbol = y; children = ts }) ≡ t
      again y ts a b = ap₂ (λ (u : Symbol) (v : List Tree). roll-Tree (record { symbol = u; children = v })) a b
          ∙ roll-out-Tree t

      as_leaf : (u : Target) → leaf_symbol u ≡ (out-Tree t).symbol → length (out-Tree t).children ≡ 0
          → bare_end (leaf u) ≡ t
      as_leaf u a b = again (leaf_symbol u) [] a (sym (nil_from_length (out-Tree t).children b))

      by : (y : Symbol) → y ≡ (out-Tree t).symbol → length (out-Tree t).children ≡ arity y → SymbolInside T ins y
          → IsMade t (made_at ins vs y (map (made ins vs) (out-Tree t).children))
      by NullSymbol a b f = as_leaf Null a b
      by UninitSymbol a b f = as_leaf Uninit a b
      by DanglingSymbol a b f = as_leaf Dangling a b
      by (Ref r) a b f = as_leaf (At r) a b
      by (CellSymbol s ds ss) a b f = λ own k.
          (let m = slots_made ss (out-Tree t).children (map (made ins vs) (out-Tree t).children) f b h own k in (
            again (CellSymbol s ds (slots_of (parts_made ins vs ss (map (made ins vs) (out-Tree t).children) own k).0))
                (bare_parts (parts_made ins vs ss (map (made ins vs) (out-Tree t).children) own k).0)
                (ap (CellSymbol s ds) m.0 ∙ a) m.1,
            m.2,
            m.3,
          ))

  module _ (n : ℕ) (rules : List Rule) (ranked : Every (IsRankedRule n) rules)
      (insides : Every (λ (r : Rule). SymbolInside T ins r.symbol) rules) where
    mutual
      pub tree_made : {q : ℕ} {t : Tree} → RunOf rules q t → IsMade t (made ins vs t)
      tree_made {t = t} (run r i s y h) =
          subst (IsMade t) (sym (made_out t))
          (subst (λ (z : Symbol). IsMade t (made_at ins vs z (map (made ins vs) (out-Tree t).children))) y
          (made_by r.symbol t y (sym (each_length rules h) ∙ (every_in (IsRankedRule n) rules r ranked i).2)
          (every_in (λ (r : Rule). SymbolInside T ins r.symbol) rules r insides i) (trees_made h)))

      pub trees_made : {qs : List ℕ} {ts : List Tree} → RunEach rules qs ts → AreMade ts (map (made ins vs) ts)
      trees_made run_none = tt
      trees_made (run_more a b) = (tree_made a, trees_made b)

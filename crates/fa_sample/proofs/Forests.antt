-- The dressed forest that is made of a choice of trees, and the insides of the boxes of a table.
use Rattle.std.proofs.Common.{◌≡◌, ℕ, zero, suc, ◌<◌, ◌≤◌, ◌+◌, List, [], ◌∷◌, ◌++◌, map, length, Some}
use Rattle.std.proofs.Common.{slice_index_or, refl, sym, ap, ap₂, subst, ◌∙◌, arith}
use Rattle.fore_base.specs.Lists.{Every}
use Rattle.fore_base.specs.declared.store.Value.{Value}
use Rattle.fore_base.specs.declared.store.Value.TheVariants.{Null as NullValue, Uninit as UninitValue}
use Rattle.fore_base.specs.declared.store.Value.TheVariants.{Dangling as DanglingValue, Cell as CellValue}
use Rattle.ta_core.specs.Auto.{Automaton, IsRanked}
use Rattle.ta_core.specs.Language.{InLanguage}
use Rattle.ta_core.specs.declared.auto.Rule.{Rule}
use Rattle.ta_core.specs.declared.symbol.Slot.{Slot}
use Rattle.ta_core.specs.declared.symbol.Slot.TheVariants.{Field, Link, Hook}
use Rattle.ta_core.specs.declared.symbol.Symbol.{Symbol}
use Rattle.ta_core.specs.declared.symbol.Symbol.TheVariants.{Null as NullSymbol, Uninit as UninitSymbol}
use Rattle.ta_core.specs.declared.symbol.Symbol.TheVariants.{Dangling as DanglingSymbol, Ref, Cell as CellSymbol}
use Rattle.ta_core.specs.declared.tree.Tree.{Tree, out-Tree}
use Rattle.fa_core.specs.declared.boxes.BoxDef.{BoxDef}
use Rattle.fa_core.specs.Dressed.{Node, node, number, Fact, with_ports, roots_of}
use Rattle.fa_core.specs.Filled.{Choice, TopsAre, IsTopped}
use Rattle.fa_core.specs.Member.{TreesOf, InsidesOf, inside_of, bare}
use Rattle.fa_back.proofs.TablesKnown.{SlotUses, SymbolUses, RulesUse}
use Rattle.fa_core.proofs.Dressing.{cell_is_no_leaf, leaf_top}
use Rattle.fa_sample.specs.inner.Dressing.{Making, Leaf, Under, Insides, made, root_made, roots_made, port_made}
use Rattle.fa_sample.specs.inner.Dressing.{ports_made, root_values, roots_begun, forest_made, insides_made}
use Rattle.fa_sample.specs.inner.Emitted.{node_head, root_heads, node_out, trees_out, port_out, forest_out}
use Rattle.fa_sample.proofs.Numbering.{Counts, counts_both, counts_rise, IsLow, lows_more, SlotInside}
use Rattle.fa_sample.proofs.Numbering.{SymbolInside, IsInside}
use Rattle.fa_sample.proofs.Numbering.{IsMade, AreLow}
use Rattle.fa_sample.proofs.Numbering.{tree_made}

-- What the roots are, and their heads.

root_number : (m : Making) (own k : ℕ) → number (root_made m own k).0 ≡ own
root_number (Leaf t) own k = refl
root_number (Under s ds p) own k = refl

roots_values : (g : Tree → Making) (ts : List Tree) (own k : ℕ)
    → roots_of (roots_made (map g ts) own k).0 ≡ root_values [] ts own
roots_values g [] own k = refl
roots_values g (t ∷ ts) own k = ap₂ (λ (n : ℕ) (vs : List Value). CellValue n ∷ vs) (root_number (g t) own k)
    (roots_values g ts (suc own) (root_made (g t) own k).1)

pub ports_values : (ports : List Value) (g : Tree → Making) (ts : List Tree) (own k : ℕ)
    → with_ports ports (ports_made ports (map g ts) own k).0 ≡ root_values ports ts own
ports_values [] g ts own k = roots_values g ts own k
ports_values (v ∷ ports) g [] own k = refl
ports_values (v ∷ ports) g (t ∷ ts) own k =
    ap (λ (vs : List Value). v ∷ vs) (ports_values ports g ts own (port_made v (g t) k).1)

one_head : (m : Making) (own k : ℕ) (fs : List Fact) (n : ℕ) → Counts (suc own) fs n
    → Counts own (node_head (root_made m own k).0 ++ fs) n
one_head (Leaf t) own k fs n h = (refl, h)
one_head (Under s ds p) own k fs n h = (refl, h)

roots_heads : (g : Tree → Making) (ts : List Tree) (own k : ℕ)
    → Counts own (root_heads [] (roots_made (map g ts) own k).0) (roots_begun [] ts own)
roots_heads g [] own k = refl
roots_heads g (t ∷ ts) own k =
    one_head (g t) own k (root_heads [] (roots_made (map g ts) (suc own) (root_made (g t) own k).1).0)
    (roots_begun [] ts (suc own)) (roots_heads g ts (suc own) (root_made (g t) own k).1)

ports_heads : (ports : List Value) (g : Tree → Making) (ts : List Tree) (own k : ℕ)
    → Counts own (root_heads ports (ports_made ports (map g ts) own k).0) (roots_begun ports ts own)
ports_heads [] g ts own k = roots_heads g ts own k
ports_heads (v ∷ ports) g [] own k = refl
ports_heads (v ∷ ports) g (t ∷ ts) own k = ports_heads ports g ts own (port_made v (g t) k).1

roots_low : (ts : List Tree) (own n : ℕ) → 1 ≤ own → roots_begun [] ts own ≤ n → Every (IsLow n) (root_values [] ts own)
roots_low [] own n a b = tt
roots_low (t ∷ ts) own n a b =
    let c = roots_rise ts (suc own) in
    ((a, omega (arith, b, c)), roots_low ts (suc own) n (omega arith) b)
  where
    roots_rise : (ts : List Tree) (own : ℕ) → own ≤ roots_begun [] ts own
    roots_rise [] own = omega arith
    roots_rise (t ∷ ts) own = let e = roots_rise ts (suc own) in omega (arith, e)

begun_rise : (ports : List Value) (ts : List Tree) (k : ℕ) → k ≤ roots_begun ports ts k
begun_rise ports [] k = omega arith
begun_rise (v ∷ ports) (t ∷ ts) k = begun_rise ports ts k
begun_rise [] (t ∷ ts) k = let e = begun_rise [] ts (suc k) in omega (arith, e)

values_low : (ports : List Value) (ts : List Tree) (k : ℕ) → 1 ≤ k → Every (IsLow k) ports
    → Every (IsLow (roots_begun ports ts k)) (root_values ports ts k)
values_low ports [] k a h = tt
values_low (v ∷ ports) (t ∷ ts) k a h =
    let e = begun_rise ports ts k in
    ((lows_more k (roots_begun ports ts k) (v ∷ []) e (h.0, tt)).0, values_low ports ts k a h.1)
values_low [] (t ∷ ts) k a h = roots_low (t ∷ ts) k (roots_begun [] (t ∷ ts) k) a (omega arith)

-- Trees.

module _ (T : List BoxDef) (ins : Insides) (vs : List Value) where
  -- a tree with a cell at its top is no leaf
  topped : (t : Tree) (s : ℕ) → IsTopped s t → (m : Making) → IsMade T ins vs t m → (own k : ℕ)
      → (bare (root_made m own k).0 ≡ t) × InsidesOf T (root_made m own k).0
      × (1 ≤ own → own < k → AreLow T ins vs k → Counts k (node_out vs (root_made m own k).0) (root_made m own k).1)
  topped t s h (Leaf u) e own k =
      absurd (cell_is_no_leaf u s h.0 h.1 (sym (leaf_top u) ∙ ap (λ (v : Tree). (out-Tree v).symbol) e ∙ h.2))
  topped t s h (Under n ds p) e own k = e own k

  module _ (g : Tree → Making) where
    abbrev pub AllMade : List Automaton → List Tree → List ℕ → Type 0
    AllMade [] [] tops = Unit {0}
    AllMade [] (t ∷ ts) tops = ⊥
    AllMade (a ∷ autos) [] tops = ⊥
    AllMade (a ∷ autos) (t ∷ ts) [] = ⊥
    AllMade (a ∷ autos) (t ∷ ts) (s ∷ tops) = InLanguage a t × IsTopped s t × IsMade T ins vs t (g t)
        × AllMade autos ts tops

    roots_all : (autos : List Automaton) (ts : List Tree) (tops : List ℕ) → AllMade autos ts tops → (own k : ℕ)
        → TreesOf T autos (roots_made (map g ts) own k).0
        × (1 ≤ own → roots_begun [] ts own ≤ k → AreLow T ins vs k
        → Counts k (trees_out vs [] (roots_made (map g ts) own k).0) (roots_made (map g ts) own k).1)
    roots_all [] [] tops h own k = (tt, λ a b c. refl)
    roots_all [] (t ∷ ts) tops h own k = absurd h
    roots_all (x ∷ autos) [] tops h own k = absurd h
    roots_all (x ∷ autos) (t ∷ ts) [] h own k = absurd h
    roots_all (x ∷ autos) (t ∷ ts) (s ∷ tops) h own k =
        let e = topped t s h.1 (g t) h.2 own k in
        let r = roots_all autos ts tops h.3 (suc own) (root_made (g t) own k).1 in (
          (subst (λ (z : Tree). InLanguage x z) (sym e.0) h.0, e.1, r.0),
          λ a b c.
              (let l = begun_rise [] ts (suc own) in
              let y = e.2 a (omega (arith, b, l)) c in
              let o = counts_rise k (root_made (g t) own k).1 (node_out vs (root_made (g t) own k).0) y in
              counts_both k (root_made (g t) own k).1 (roots_made (map g ts) (suc own) (root_made (g t) own k).1).1
              (node_out vs (root_made (g t) own k).0)
              (trees_out vs [] (roots_made (map g ts) (suc own) (root_made (g t) own k).1).0) y
              (r.1 (omega arith) (omega (arith, b, o)) (lows_more k (root_made (g t) own k).1 vs o c))),
        )

    port_all : (v : Value) (t : Tree) (s : ℕ) → IsTopped s t → IsMade T ins vs t (g t) → (k : ℕ)
        → (bare (port_made v (g t) k).0 ≡ t) × InsidesOf T (port_made v (g t) k).0
        × (IsLow k v → AreLow T ins vs k → Counts k (port_out vs v (port_made v (g t) k).0) (port_made v (g t) k).1)
    port_all (CellValue c) t s h e k = by (g t) e
      where
        by : (m : Making) → IsMade T ins vs t m
            → (bare (root_made m c k).0 ≡ t) × InsidesOf T (root_made m c k).0
            × (IsLow k (CellValue c) → AreLow T ins vs k
            → Counts k (port_out vs (CellValue c) (root_made m c k).0) (root_made m c k).1)
        by (Leaf u) e = absurd
            (cell_is_no_leaf u s h.0 h.1 (sym (leaf_top u) ∙ ap (λ (v : Tree). (out-Tree v).symbol) e ∙ h.2))
        by (Under n ds p) e = ((e c k).0, (e c k).1, λ l d. (e c k).2 l.0 l.1 d)
    port_all NullValue t s h e k = idle NullValue (g t) e
      where
        idle : (v : Value) (m : Making) → IsMade T ins vs t m
            → (bare (root_made m 0 k).0 ≡ t) × InsidesOf T (root_made m 0 k).0
            × (IsLow k NullValue → AreLow T ins vs k → Counts k (port_out vs NullValue (root_made m 0 k).0) k)
        idle v m e = let x = topped t s h m e 0 k in (x.0, x.1, λ l d. none (root_made m 0 k).0)
          where
            none : (n : Node) → Counts k (port_out vs NullValue n) k
            none (node c q ds ps) = refl
    port_all UninitValue t s h e k = let x = topped t s h (g t) e 0 k in
        (x.0, x.1, λ l d. none (root_made (g t) 0 k).0)
      where
        none : (n : Node) → Counts k (port_out vs UninitValue n) k
        none (node c q ds ps) = refl
    port_all DanglingValue t s h e k = let x = topped t s h (g t) e 0 k in
        (x.0, x.1, λ l d. none (root_made (g t) 0 k).0)
      where
        none : (n : Node) → Counts k (port_out vs DanglingValue n) k
        none (node c q ds ps) = refl

    ports_all : (ports : List Value) (autos : List Automaton) (ts : List Tree) (tops : List ℕ) → AllMade autos ts tops
        → (own k : ℕ) → TreesOf T autos (ports_made ports (map g ts) own k).0
        × (1 ≤ own → Every (IsLow k) ports → roots_begun ports ts own ≤ k → AreLow T ins vs k
        → Counts k (trees_out vs ports (ports_made ports (map g ts) own k).0) (ports_made ports (map g ts) own k).1)
    ports_all [] autos ts tops h own k = let r = roots_all autos ts tops h own k in (r.0, λ a l b c. r.1 a b c)
    ports_all (v ∷ ports) [] [] tops h own k = (tt, λ a l b c. refl)
    ports_all (v ∷ ports) [] (t ∷ ts) tops h own k = absurd h
    ports_all (v ∷ ports) (x ∷ autos) [] tops h own k = absurd h
    ports_all (v ∷ ports) (x ∷ autos) (t ∷ ts) [] h own k = absurd h
    ports_all (v ∷ ports) (x ∷ autos) (t ∷ ts) (s ∷ tops) h own k =
        let e = port_all v t s h.1 h.2 k in
        let r = ports_all ports autos ts tops h.3 own (port_made v (g t) k).1 in (
          (subst (λ (z : Tree). InLanguage x z) (sym e.0) h.0, e.1, r.0),
          λ a l b c.
              (let y = e.2 l.0 c in
              let o = counts_rise k (port_made v (g t) k).1 (port_out vs v (port_made v (g t) k).0) y in
              counts_both k (port_made v (g t) k).1 (ports_made ports (map g ts) own (port_made v (g t) k).1).1
              (port_out vs v (port_made v (g t) k).0)
              (trees_out vs ports (ports_made ports (map g ts) own (port_made v (g t) k).1).0) y
              (r.1 a (lows_more k (port_made v (g t) k).1 ports o l.1) (omega (arith, b, o))
              (lows_more k (port_made v (g t) k).1 vs o c))),
        )

-- A choice of trees.

module _ (T : List BoxDef) (ins : Insides) where
  abbrev RulesInside : Automaton → Type 0
  RulesInside a = Every (λ (r : Rule). SymbolInside T ins r.symbol) a.rules

  all_made : (vs : List Value) (autos : List Automaton) (ts : List Tree) (tops : List ℕ) → Every IsRanked autos
      → Every RulesInside autos → Choice autos ts → TopsAre ts tops → AllMade T ins vs (made ins vs) autos ts tops
  all_made vs [] [] tops p b c a = tt
  all_made vs [] (t ∷ ts) tops p b c a = absurd c
  all_made vs (x ∷ autos) [] tops p b c a = absurd c
  all_made vs (x ∷ autos) (t ∷ ts) [] p b c a = absurd a
  all_made vs (x ∷ autos) (t ∷ ts) (s ∷ tops) p b c a =
      (c.0, a.0, tree_made T ins vs x.states x.rules p.0.1 b.0 c.0.2, all_made vs autos ts tops p.1 b.1 c.1 a.1)

  -- the dressed forest that is made is one of these components, and its cells are numbered one after the other
  pub forest_dressed : (ports : List Value) (autos : List Automaton) (ts : List Tree) (tops : List ℕ) (k : ℕ)
      → Every IsRanked autos → Every RulesInside autos → Choice autos ts → TopsAre ts tops
      → TreesOf T autos (forest_made ins ports ts k).0
      × (1 ≤ k → Every (IsLow k) ports
      → Counts k (forest_out ports (forest_made ins ports ts k).0) (forest_made ins ports ts k).1)
  forest_dressed ports autos ts tops k p b c a =
      let vs : List Value = root_values ports ts k in
      let n : ℕ = roots_begun ports ts k in
      let r = ports_all T ins (root_values ports ts k) (made ins (root_values ports ts k)) ports autos ts tops
      (all_made (root_values ports ts k) autos ts tops p b c a) k (roots_begun ports ts k) in (
        r.0,
        λ l h.
            (let e = begun_rise ports ts k in
            let y = r.1 l (lows_more k (roots_begun ports ts k) ports e h) (omega arith) (values_low ports ts k l h) in
            let w = ports_values ports (made ins (root_values ports ts k)) ts k (roots_begun ports ts k) in
            counts_both k (roots_begun ports ts k) (forest_made ins ports ts k).1
            (root_heads ports (forest_made ins ports ts k).0)
            (trees_out (with_ports ports (forest_made ins ports ts k).0) ports (forest_made ins ports ts k).0)
            (ports_heads ports (made ins (root_values ports ts k)) ts k (roots_begun ports ts k))
            (subst (λ (z : List Value). Counts (roots_begun ports ts k)
            (trees_out z ports (forest_made ins ports ts k).0) (forest_made ins ports ts k).1) (sym w) y)),
      )

-- The boxes of a table.

-- the trees of each box are a choice of trees of its inside, each with a cell at its top
abbrev pub AreChoices : List BoxDef → List (List Tree) → Type 0
AreChoices [] [] = Unit {0}
AreChoices [] (ts ∷ boxes) = ⊥
AreChoices (d ∷ defs) [] = ⊥
AreChoices (d ∷ defs) (ts ∷ boxes) = Choice d.inside.autos ts × ((tops : List ℕ) × TopsAre ts tops)
    × AreChoices defs boxes

-- each box uses lower boxes alone
abbrev pub UseLower : ℕ → List BoxDef → Type 0
UseLower n [] = Unit {0}
UseLower n (d ∷ defs) = Every IsRanked d.inside.autos × Every (RulesUse n) d.inside.autos × UseLower (suc n) defs

box_at : (n : ℕ) (defs : List BoxDef) (boxes : List (List Tree)) → UseLower n defs → AreChoices defs boxes → (b : ℕ)
    → b < length defs → (at : ℕ) → at ≡ n + b
    → (autos : List Automaton) × (inside_of defs b ≡ Some autos) × Every IsRanked autos × Every (RulesUse at) autos
    × Choice autos (slice_index_or boxes b []) × ((tops : List ℕ) × TopsAre (slice_index_or boxes b []) tops)
box_at n [] boxes u c b l at e = absurd (omega (arith, l))
box_at n (d ∷ defs) [] u c b l at e = absurd c
box_at n (d ∷ defs) (ts ∷ boxes) u c zero l at e =
    let z : n ≡ at = omega (arith, e) in
    (d.inside.autos, refl, u.0, subst (λ (k : ℕ). Every (RulesUse k) d.inside.autos) z u.1, c.0, c.1)
box_at n (d ∷ defs) (ts ∷ boxes) u c (suc b) l at e =
    let z : suc b < suc (length defs) = l in
    box_at (suc n) defs boxes u.2 c.2 b (omega (arith, z)) at (omega (arith, e))

module _ (T : List BoxDef) (boxes : List (List Tree)) (u : UseLower 0 T) (c : AreChoices T boxes) where
  slots_inside : (n : ℕ) → ((b : ℕ) → b < n → IsInside T (insides_made boxes n) b) → (ss : List Slot)
      → (m : ℕ) → m ≤ n → Every (SlotUses m) ss → Every (SlotInside T (insides_made boxes n)) ss
  slots_inside n h [] m l k = tt
  slots_inside n h (Field f ∷ ss) m l k = (tt, slots_inside n h ss m l k.1)
  slots_inside n h (Link b ∷ ss) m l k = (h b (let a = k.0 in omega (arith, a, l)), slots_inside n h ss m l k.1)
  slots_inside n h (Hook b ∷ ss) m l k = (h b (let a = k.0 in omega (arith, a, l)), slots_inside n h ss m l k.1)

  symbol_inside : (n : ℕ) → ((b : ℕ) → b < n → IsInside T (insides_made boxes n) b) → (m : ℕ) → m ≤ n → (y : Symbol)
      → SymbolUses m y → SymbolInside T (insides_made boxes n) y
  symbol_inside n h m l NullSymbol k = tt
  symbol_inside n h m l UninitSymbol k = tt
  symbol_inside n h m l DanglingSymbol k = tt
  symbol_inside n h m l (Ref r) k = tt
  symbol_inside n h m l (CellSymbol s ds ss) k = slots_inside n h ss m l k

  pub rules_inside : (n : ℕ) → ((b : ℕ) → b < n → IsInside T (insides_made boxes n) b) → (m : ℕ) → m ≤ n
      → (autos : List Automaton) → Every (RulesUse m) autos → Every (RulesInside T (insides_made boxes n)) autos
  rules_inside n h m l [] k = tt
  rules_inside n h m l (a ∷ autos) k = (rules a.rules k.0, rules_inside n h m l autos k.1)
    where
      rules : (rs : List Rule) → Every (λ (r : Rule). SymbolUses m r.symbol) rs
          → Every (λ (r : Rule). SymbolInside T (insides_made boxes n) r.symbol) rs
      rules [] k = tt
      rules (r ∷ rs) k = (symbol_inside n h m l r.symbol k.0, rules rs k.1)

  -- the insides that are made are those of the boxes
  pub boxes_inside : (n : ℕ) → n ≤ length T → (b : ℕ) → b < n → IsInside T (insides_made boxes n) b
  boxes_inside zero l b a = absurd (omega (arith, a))
  boxes_inside (suc n) l b a = λ ports k.
      (let x = box_at 0 T boxes u c b (omega (arith, l, a)) b (omega arith) in
      let r = rules_inside n (boxes_inside n (omega (arith, l))) b (omega (arith, a)) x.0 x.3 in
      let y = forest_dressed T (insides_made boxes n) ports x.0 (slice_index_or boxes b []) x.5.0 k x.2 r x.4 x.5.1 in
      ((x.0, x.1, y.0), y.1))

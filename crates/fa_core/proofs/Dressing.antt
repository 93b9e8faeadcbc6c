-- Each choice of trees whose tops are cells is that of a dressed forest, whose cells are numbered one after the other.
use Rattle.std.proofs.Common.{◌≡◌, inl, inr, ℕ, suc, ◌<◌, ◌+◌, length, List, [], ◌∷◌, ◌++◌, map, flat_map, refl, sym}
use Rattle.std.proofs.Common.{ap, ap₂, subst, ◌∙◌, arith}
use Rattle.fore_base.specs.Lists.{IsIn, Every, IsDistinct}
use Rattle.fore_base.specs.declared.store.Datum.{Datum}
use Rattle.fore_base.proofs.ListLemmas.{every_in}
use Rattle.ta_core.specs.declared.auto.Rule.{Rule}
use Rattle.ta_core.specs.declared.symbol.Slot.{Slot}
use Rattle.ta_core.specs.declared.symbol.Slot.TheVariants.{Field, Link, Hook}
use Rattle.ta_core.specs.declared.symbol.Symbol.{Symbol}
use Rattle.ta_core.specs.declared.symbol.Symbol.TheVariants.{Null as NullSymbol, Uninit as UninitSymbol}
use Rattle.ta_core.specs.declared.symbol.Symbol.TheVariants.{Dangling as DanglingSymbol, Ref, Cell as CellSymbol}
use Rattle.ta_core.specs.declared.tree.Tree.{Tree, roll-Tree, out-Tree, out-roll-Tree, roll-out-Tree}
use Rattle.ta_core.specs.Arity.{arity, child_slots}
use Rattle.ta_core.specs.Auto.{Automaton, IsRanked, IsRankedRule}
use Rattle.ta_core.specs.Language.{RunOf, run, RunEach, run_none, run_more, InLanguage}
use Rattle.fa_core.specs.declared.forest.Target.{Target}
use Rattle.fa_core.specs.declared.forest.Target.TheVariants.{Null, Uninit, Dangling, At}
use Rattle.fa_core.specs.declared.boxes.BoxDef.{BoxDef}
use Rattle.fa_core.specs.Dressed.{Parts, End, Nodes, node, no_parts, field, link, hook, under, leaf, no_nodes, more}
use Rattle.fa_core.specs.Member.{TreesOf, InsidesOfParts, InsidesOfEnd, bare, bare_parts, bare_end, leaf_symbol}
use Rattle.fa_core.specs.Member.{slots_of}
use Rattle.fa_core.specs.Filled.{Choice, TopsAre, numbered}
use Rattle.fa_core.specs.Choices.{bares, count, numbers, numbers_of, end_numbers, all_numbers, IsNumbered}
use Rattle.fa_core.specs.Choices.{SlotHasInside, SymbolHasInsides, HasInsides}
use Rattle.fa_core.specs.Boxless.{IsField, IsPlain, HasNoBoxes}

-- Numbers one after the other.

pub numbered_both : (k : ℕ) (xs ys : List ℕ) → numbered k (xs ++ ys) ≡ numbered k xs ++ numbered (k + length xs) ys
numbered_both k [] ys = let e : k ≡ k + 0 = omega arith in ap (λ (n : ℕ). numbered n ys) e
numbered_both k (x ∷ xs) ys =
    let e : suc k + length xs ≡ k + suc (length xs) = omega arith in
    ap (λ (z : List ℕ). k ∷ z) (numbered_both (suc k) xs ys ∙ ap (λ (n : ℕ). numbered (suc k) xs ++ numbered n ys) e)

two_numbered : (k : ℕ) (xs ys : List ℕ) → IsNumbered k xs → IsNumbered (k + length xs) ys → IsNumbered k (xs ++ ys)
two_numbered k xs ys h g = ap₂ (λ (us vs : List ℕ). us ++ vs) h g ∙ sym (numbered_both k xs ys)

-- the numbers from k on are no less than k
numbered_above : (j k : ℕ) (xs : List ℕ) → j < k → IsIn j (numbered k xs) → ⊥
numbered_above j k [] l h = h
numbered_above j k (x ∷ xs) l (inl e) = omega (arith, l, e)
numbered_above j k (x ∷ xs) l (inr h) = numbered_above j (suc k) xs (omega (arith, l)) h

pub numbered_distinct : (k : ℕ) (xs : List ℕ) → IsDistinct (numbered k xs)
numbered_distinct k [] = tt
numbered_distinct k (x ∷ xs) = (numbered_above k (suc k) xs (omega arith), numbered_distinct (suc k) xs)

-- numbers one after the other differ
pub numbered_differ : (k : ℕ) (xs : List ℕ) → IsNumbered k xs → IsDistinct xs
numbered_differ k xs h = subst (λ (ys : List ℕ). IsDistinct ys) (sym h) (numbered_distinct k xs)

-- Trees.

pub each_length : (rules : List Rule) {qs : List ℕ} {ts : List Tree} → RunEach rules qs ts → length qs ≡ length ts
each_length rules run_none = refl
each_length rules (run_more a b) = ap (λ k. suc k) (each_length rules b)

none_left : (ts : List Tree) → length ts ≡ 0 → ts ≡ []
none_left [] e = refl
none_left (t ∷ ts) e = let z : suc (length ts) ≡ 0 = e in absurd (omega (arith, z))

-- slots and ends make the parts of a cell
record Built (T : List BoxDef) (ss : List Slot) (es : List End) : Type 0 where
  parts : Parts
  slots : slots_of parts ≡ ss
  trees : bare_parts parts ≡ map bare_end es
  insides : InsidesOfParts T parts
  cells : numbers_of parts ≡ flat_map end_numbers es

built : (T : List BoxDef) (ss : List Slot) (es : List End) → Every (SlotHasInside T) ss → length es ≡ child_slots ss
    → Every (InsidesOfEnd T) es → Built T ss es
built T [] [] f l i = record { parts = no_parts; slots = refl; trees = refl; insides = tt; cells = refl }
built T [] (e ∷ es) f l i = let z : suc (length es) ≡ 0 = l in absurd (omega (arith, z))
built T (Field g ∷ ss) [] f l i = let z : 0 ≡ child_slots ss + 1 = l in absurd (omega (arith, z))
built T (Field g ∷ ss) (e ∷ es) f l i =
    let z : suc (length es) ≡ child_slots ss + 1 = l in
    let k = built T ss es f.1 (omega (arith, z)) i.1 in
    record {
      parts = field g e k.parts;
      slots = ap (λ (x : List Slot). Field g ∷ x) k.slots;
      trees = ap (λ (x : List Tree). bare_end e ∷ x) k.trees;
      insides = (i.0, k.insides);
      cells =
          ap (λ (x : List ℕ). end_numbers e ++ x) k.cells;
    }
built T (Link b ∷ ss) [] f l i = let z : 0 ≡ child_slots ss + 1 = l in absurd (omega (arith, z))
built T (Link b ∷ ss) (e ∷ es) f l i =
    let z : suc (length es) ≡ child_slots ss + 1 = l in
    let k = built T ss es f.1 (omega (arith, z)) i.1 in
    record {
      parts = link b f.0.0 e k.parts;
      slots = ap (λ (x : List Slot). Link b ∷ x) k.slots;
      trees = ap (λ (x : List Tree). bare_end e ∷ x) k.trees;
      insides = ((f.0.1, f.0.2, f.0.3), i.0, k.insides);
      cells = ap (λ (x : List ℕ). end_numbers e ++ x) k.cells;
    }
built T (Hook b ∷ ss) es f l i =
    let k = built T ss es f.1 l i in
    record {
      parts = hook b f.0.0 k.parts;
      slots = ap (λ (x : List Slot). Hook b ∷ x) k.slots;
      trees = k.trees;
      insides = ((f.0.1, f.0.2, f.0.3), k.insides);
      cells = k.cells;
    }

-- the tree, dressed, its cells numbered from k on
pub record IsDressed (T : List BoxDef) (k : ℕ) (t : Tree) : Type 0 where
  pub end : End
  pub tree : bare_end end ≡ t
  pub insides : InsidesOfEnd T end
  pub cells : IsNumbered k (end_numbers end)

-- the trees, dressed
record AreDressed (T : List BoxDef) (k : ℕ) (ts : List Tree) : Type 0 where
  ends : List End
  trees : map bare_end ends ≡ ts
  insides : Every (InsidesOfEnd T) ends
  cells : IsNumbered k (flat_map end_numbers ends)

-- a tree whose symbol and children are known
dressed_by : (T : List BoxDef) (k : ℕ) (y : Symbol) (t : Tree) → y ≡ (out-Tree t).symbol → length (out-Tree t).children
    ≡ arity y → SymbolHasInsides T y → AreDressed T (suc k) (out-Tree t).children → IsDressed T k t
dressed_by T k y t e l f h = by y e l f
  where
    again : (y : Symbol) (ts : List Tree) → y ≡ (out-Tree t).symbol → ts ≡ (out-Tree t).children
        → roll-Tree (record { symbol = y; children = ts }) ≡ t
    again y ts a b = ap₂ (λ (u : Symbol) (v : List Tree). roll-Tree (record { symbol = u; children = v })) a b
        ∙ roll-out-Tree t

    as_leaf : (u : Target) → leaf_symbol u ≡ (out-Tree t).symbol → length (out-Tree t).children ≡ 0 → IsDressed T k t
    as_leaf u a b =
        record {
          end = leaf u;
          tree = again (leaf_symbol u) [] a (sym (none_left (out-Tree t).children b));
          insides = tt;
          cells = refl;
        }

    map_length : (es : List End) → length (map bare_end es) ≡ length es
    map_length [] = refl
    map_length (e ∷ es) = ap (λ n. suc n) (map_length es)

    by : (y : Symbol) → y ≡ (out-Tree t).symbol → length (out-Tree t).children ≡ arity y → SymbolHasInsides T y
        → IsDressed T k t
    by NullSymbol a b f = as_leaf Null a b
    by UninitSymbol a b f = as_leaf Uninit a b
    by DanglingSymbol a b f = as_leaf Dangling a b
    by (Ref r) a b f = as_leaf (At r) a b
    by (CellSymbol s ds ss) a b f =
        let m = built T ss h.ends f (sym (map_length h.ends) ∙ ap length h.trees ∙ b) h.insides in
        let c : IsNumbered (suc k) (numbers_of m.parts) =
        subst (λ (z : List ℕ). IsNumbered (suc k) z) (sym m.cells) h.cells in
        record {
          end = under (node k s ds m.parts);
          tree = again (CellSymbol s ds (slots_of m.parts)) (bare_parts m.parts) (ap (CellSymbol s ds) m.slots ∙ a)
              (m.trees ∙ h.trees);
          insides = m.insides;
          cells = ap (λ (z : List ℕ). k ∷ z) c;
        }

module _ (T : List BoxDef) (n : ℕ) (rules : List Rule) (ranked : Every (IsRankedRule n) rules)
    (insides : Every (λ (r : Rule). SymbolHasInsides T r.symbol) rules) where
  mutual
    -- each tree that runs is a dressed tree
    pub dress : (k : ℕ) {q : ℕ} {t : Tree} → RunOf rules q t → IsDressed T k t
    dress k {t = t} (run r i s y h) =
        dressed_by T k r.symbol t y (sym (each_length rules h) ∙ (every_in (IsRankedRule n) rules r ranked i).2)
        (every_in (λ (r : Rule). SymbolHasInsides T r.symbol) rules r insides i) (dress_each (suc k) h)

    dress_each : (k : ℕ) {qs : List ℕ} {ts : List Tree} → RunEach rules qs ts → AreDressed T k ts
    dress_each k run_none = record { ends = []; trees = refl; insides = tt; cells = refl }
    dress_each k (run_more a b) =
        let e = dress k a in
        let es = dress_each (k + length (end_numbers e.end)) b in
        record {
          ends = e.end ∷ es.ends;
          trees = ap₂ (λ (x : Tree) (y : List Tree). x ∷ y) e.tree es.trees;
          insides = (e.insides, es.insides);
          cells =
              two_numbered k (end_numbers e.end) (flat_map end_numbers es.ends) e.cells es.cells;
        }

-- Leaves are no cells.

abbrev pub IsCellSymbol : Symbol → Type 0
IsCellSymbol NullSymbol = ⊥
IsCellSymbol UninitSymbol = ⊥
IsCellSymbol DanglingSymbol = ⊥
IsCellSymbol (Ref k) = ⊥
IsCellSymbol (CellSymbol s ds ss) = Unit {0}

pub leaf_is_no_cell : (u : Target) → IsCellSymbol (leaf_symbol u) → ⊥
leaf_is_no_cell Null h = h
leaf_is_no_cell Uninit h = h
leaf_is_no_cell Dangling h = h
leaf_is_no_cell (At k) h = h

pub cell_is_no_leaf : (u : Target) (s : ℕ) (ds : List Datum) (ss : List Slot) → leaf_symbol u ≡ CellSymbol s ds ss → ⊥
cell_is_no_leaf u s ds ss e = leaf_is_no_cell u (subst IsCellSymbol (sym e) tt)

-- the symbol at the top of a leaf
pub leaf_top : (u : Target) → (out-Tree (bare_end (leaf u))).symbol ≡ leaf_symbol u
leaf_top u = rw (out-roll-Tree (record { symbol = leaf_symbol u; children = [] })) refl

-- the symbol at the top of a cell
pub cell_top : (c s : ℕ) (ds : List Datum) (ps : Parts) → (out-Tree (bare (node c s ds ps))).symbol
    ≡ CellSymbol s ds (slots_of ps)
cell_top c s ds ps = rw (out-roll-Tree (record { symbol = CellSymbol s ds (slots_of ps); children = bare_parts ps }))
    refl

-- Forests.

-- the choice of trees, dressed, its cells numbered from k on
pub record IsDressedChoice (T : List BoxDef) (k : ℕ) (autos : List Automaton) (ts : List Tree) : Type 0 where
  pub nodes : Nodes
  pub trees : bares nodes ≡ ts
  pub of : TreesOf T autos nodes
  pub cells : IsNumbered k (all_numbers nodes)

pub dress_all : (T : List BoxDef) (k : ℕ) (autos : List Automaton) (ts : List Tree) (tops : List ℕ)
    → Every IsRanked autos → Every (HasInsides T) autos → Choice autos ts → TopsAre ts tops
    → IsDressedChoice T k autos ts
dress_all T k [] [] tops p b c a = record { nodes = no_nodes; trees = refl; of = tt; cells = refl }
dress_all T k [] (t ∷ ts) tops p b c a = absurd c
dress_all T k (x ∷ autos) [] tops p b c a = absurd c
dress_all T k (x ∷ autos) (t ∷ ts) [] p b c a = absurd a
dress_all T k (x ∷ autos) (t ∷ ts) (s ∷ tops) p b c a =
    let e = dress T x.states x.rules p.0.1 b.0 k c.0.2 in
    here e.end e.tree e.insides e.cells (dress_all T (k + length (end_numbers e.end)) autos ts tops p.1 b.1 c.1 a.1)
  where
    here : (e : End) → bare_end e ≡ t → InsidesOfEnd T e → IsNumbered k (end_numbers e)
        → IsDressedChoice T (k + length (end_numbers e)) autos ts → IsDressedChoice T k (x ∷ autos) (t ∷ ts)
    here (under n) w i g r = record {
      nodes = more n r.nodes;
      trees = ap₂ (λ (u : Tree) (v : List Tree). u ∷ v) w r.trees;
      of = (subst (λ (u : Tree). InLanguage x u) (sym w) c.0, i, r.of);
      cells = two_numbered k (numbers n) (all_numbers r.nodes) g r.cells;
    }
    here (leaf u) w i g r = absurd
        (cell_is_no_leaf u s a.0.0 a.0.1 (sym (leaf_top u) ∙ ap (λ (v : Tree). (out-Tree v).symbol) w ∙ a.0.2))

-- Without box edges nothing is asked of the table.

plain_insides : (T : List BoxDef) (y : Symbol) → IsPlain y → SymbolHasInsides T y
plain_insides T NullSymbol h = tt
plain_insides T UninitSymbol h = tt
plain_insides T DanglingSymbol h = tt
plain_insides T (Ref r) h = tt
plain_insides T (CellSymbol s ds ss) h = each ss h
  where
    each : (ss : List Slot) → Every IsField ss → Every (SlotHasInside T) ss
    each [] h = tt
    each (Field f ∷ ss) h = (tt, each ss h.1)
    each (Link b ∷ ss) h = absurd h.0
    each (Hook b ∷ ss) h = absurd h.0

pub rules_have_insides : (T : List BoxDef) (rs : List Rule) → Every (λ (r : Rule). IsPlain r.symbol) rs
    → Every (λ (r : Rule). SymbolHasInsides T r.symbol) rs
rules_have_insides T [] h = tt
rules_have_insides T (r ∷ rs) h = (plain_insides T r.symbol h.0, rules_have_insides T rs h.1)

pub boxless_have_insides : (T : List BoxDef) (autos : List Automaton) → Every HasNoBoxes autos
    → Every (HasInsides T) autos
boxless_have_insides T [] h = tt
boxless_have_insides T (a ∷ autos) h = (rules_have_insides T a.rules h.0, boxless_have_insides T autos h.1)

-- Choices and dressed forests.

pub choice_of : (T : List BoxDef) (autos : List Automaton) (d : Nodes) → TreesOf T autos d → Choice autos (bares d)
choice_of T [] no_nodes h = tt
choice_of T [] (more n ns) h = absurd h
choice_of T (a ∷ autos) no_nodes h = absurd h
choice_of T (a ∷ autos) (more n ns) h = (h.0, choice_of T autos ns h.2)

pub choice_length : (autos : List Automaton) (ts : List Tree) → Choice autos ts → length ts ≡ length autos
choice_length [] [] c = refl
choice_length [] (t ∷ ts) c = absurd c
choice_length (a ∷ autos) [] c = absurd c
choice_length (a ∷ autos) (t ∷ ts) c = ap (λ k. suc k) (choice_length autos ts c.1)

pub bares_length : (d : Nodes) → length (bares d) ≡ count d
bares_length no_nodes = refl
bares_length (more n ns) = ap (λ k. suc k) (bares_length ns)

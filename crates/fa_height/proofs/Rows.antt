-- Worked values of agreement and of quotients, each made by hand.
use Rattle.std.proofs.Common.{◌≡◌, inl, inr, ℕ, suc, List, [], ◌∷◌, length, map, refl, sym, ap, ap₂, subst, ◌∙◌, arith}
use Rattle.std.proofs.lemmas.List.{length-map}
use Rattle.fore_base.specs.Lists.{IsIn, Paired}
use Rattle.fore_base.specs.declared.store.Datum.{Datum}
use Rattle.fore_base.specs.declared.store.Datum.TheVariants.{Known}
use Rattle.ta_core.specs.Auto.{Automaton, automaton}
use Rattle.ta_core.specs.Language.{RunOf, run, RunEach, run_none, run_more}
use Rattle.ta_core.specs.Renumbered.{renumbered}
use Rattle.ta_core.specs.Simulations.{IsMatched}
use Rattle.ta_core.specs.declared.auto.Rule.{Rule}
use Rattle.ta_core.specs.declared.symbol.Slot.TheVariants.{Field}
use Rattle.ta_core.specs.declared.symbol.Symbol.{Symbol}
use Rattle.ta_core.specs.declared.symbol.Symbol.TheVariants.{Null, Uninit, Dangling, Ref, Cell}
use Rattle.ta_core.specs.declared.tree.Tree.{Tree, Tree-F, out-Tree, out-roll-Tree}
use Rattle.ta_core.proofs.Runs.{tree_of, run_tree}
use Rattle.fa_core.specs.Cells.{below_of, marks_by, leaf_mark}
use Rattle.fa_core.specs.Ways.{signature}
use Rattle.fa_core.specs.declared.forest.Forest.{Forest}
use Rattle.fa_core.specs.declared.forest.Target.{Target}
use Rattle.fa_core.specs.declared.forest.Target.TheVariants.{Null as NullTarget}
use Rattle.fa_core.specs.declared.signature.RefMark.{RefMark}
use Rattle.fa_core.proofs.CellMarks.{tree_signature}
use Rattle.fa_height.specs.Quotients.{AreMatched, Agree, AreMarksOf, SameSignature, IsInner, IsQuotient, Quotient}

abbrev rule : ℕ → Symbol → List ℕ → Rule
rule q y qs = record { state = q; symbol = y; children = qs }

-- a cell with one pointer, and one with two
abbrev n : Symbol
n = Cell 0 [] (Field 0 ∷ [])

abbrev f : Symbol
f = Cell 0 [] (Field 0 ∷ Field 1 ∷ [])

-- symbols told apart
abbrev kind : Symbol → ℕ
kind Null = 0
kind Uninit = 1
kind Dangling = 2
kind (Ref r) = 3
kind (Cell s ds ss) = 4

-- A list of three cells: 0 = n(1), 1 = n(2), 2 = n(3), 3 = Null.

abbrev chain : List Rule
chain = rule 0 n (1 ∷ []) ∷ rule 1 n (2 ∷ []) ∷ rule 2 n (3 ∷ []) ∷ rule 3 Null [] ∷ []

-- to height 0 any two states agree
null_and_cell : Agree chain 0 1 3
null_and_cell = tt

-- the rule of a state with one rule
only_0 : (r : Rule) → IsIn r chain → r.state ≡ 0 → r ≡ rule 0 n (1 ∷ [])
only_0 r (inl d) e = d
only_0 r (inr (inl d)) e = absurd (let k = sym (ap (λ (x : Rule). x.state) d) ∙ e in omega (arith, k))
only_0 r (inr (inr (inl d))) e = absurd (let k = sym (ap (λ (x : Rule). x.state) d) ∙ e in omega (arith, k))
only_0 r (inr (inr (inr (inl d)))) e = absurd (let k = sym (ap (λ (x : Rule). x.state) d) ∙ e in omega (arith, k))
only_0 r (inr (inr (inr (inr i)))) e = absurd i

only_1 : (r : Rule) → IsIn r chain → r.state ≡ 1 → r ≡ rule 1 n (2 ∷ [])
only_1 r (inl d) e = absurd (let k = sym (ap (λ (x : Rule). x.state) d) ∙ e in omega (arith, k))
only_1 r (inr (inl d)) e = d
only_1 r (inr (inr (inl d))) e = absurd (let k = sym (ap (λ (x : Rule). x.state) d) ∙ e in omega (arith, k))
only_1 r (inr (inr (inr (inl d)))) e = absurd (let k = sym (ap (λ (x : Rule). x.state) d) ∙ e in omega (arith, k))
only_1 r (inr (inr (inr (inr i)))) e = absurd i

only_2 : (r : Rule) → IsIn r chain → r.state ≡ 2 → r ≡ rule 2 n (3 ∷ [])
only_2 r (inl d) e = absurd (let k = sym (ap (λ (x : Rule). x.state) d) ∙ e in omega (arith, k))
only_2 r (inr (inl d)) e = absurd (let k = sym (ap (λ (x : Rule). x.state) d) ∙ e in omega (arith, k))
only_2 r (inr (inr (inl d))) e = d
only_2 r (inr (inr (inr (inl d)))) e = absurd (let k = sym (ap (λ (x : Rule). x.state) d) ∙ e in omega (arith, k))
only_2 r (inr (inr (inr (inr i)))) e = absurd i

only_3 : (r : Rule) → IsIn r chain → r.state ≡ 3 → r ≡ rule 3 Null []
only_3 r (inl d) e = absurd (let k = sym (ap (λ (x : Rule). x.state) d) ∙ e in omega (arith, k))
only_3 r (inr (inl d)) e = absurd (let k = sym (ap (λ (x : Rule). x.state) d) ∙ e in omega (arith, k))
only_3 r (inr (inr (inl d))) e = absurd (let k = sym (ap (λ (x : Rule). x.state) d) ∙ e in omega (arith, k))
only_3 r (inr (inr (inr (inl d)))) e = d
only_3 r (inr (inr (inr (inr i)))) e = absurd i

-- to height 1 the three cells agree: they have one symbol
second_and_third : Agree chain 1 1 2
second_and_third = (
  (λ r i e. subst (λ (x : Rule). IsMatched chain (λ p q. Unit {0}) x 2) (sym (only_1 r i e))
      (rule 2 n (3 ∷ []), inr (inr (inl refl)), refl, refl, (tt, tt))),
  (λ r i e. subst (λ (x : Rule). IsMatched chain (λ p q. Unit {0}) x 1) (sym (only_2 r i e))
      (rule 1 n (2 ∷ []), inr (inl refl), refl, refl, (tt, tt))),
)

first_and_second : Agree chain 1 0 1
first_and_second = (
  (λ r i e. subst (λ (x : Rule). IsMatched chain (λ p q. Unit {0}) x 1) (sym (only_0 r i e))
      (rule 1 n (2 ∷ []), inr (inl refl), refl, refl, (tt, tt))),
  (λ r i e. subst (λ (x : Rule). IsMatched chain (λ p q. Unit {0}) x 0) (sym (only_1 r i e))
      (rule 0 n (1 ∷ []), inl refl, refl, refl, (tt, tt))),
)

-- the last cell and Null do not: their symbols differ
third_not_null : Agree chain 1 2 3 → ⊥
third_not_null h =
    let m = h.0 (rule 2 n (3 ∷ [])) (inr (inr (inl refl))) refl in
    let d = only_3 m.0 m.1 m.2 in
    let k = ap kind (sym (ap (λ (x : Rule). x.symbol) d) ∙ m.3) in
    omega (arith, k)

-- to height 2 the second and the third cell do not agree: what stands below them does not to height 1
not_to_2 : Agree chain 2 1 2 → ⊥
not_to_2 h =
    let m = h.0 (rule 1 n (2 ∷ [])) (inr (inl refl)) refl in
    third_not_null (subst (λ (x : Rule). Paired (Agree chain 1) (2 ∷ []) x.children) (only_2 m.0 m.1 m.2) m.4).0

-- Rules of both states are matched: 0 = Null, 1 = Null, 1 = Uninit.

abbrev wider : List Rule
wider = rule 0 Null [] ∷ rule 1 Null [] ∷ rule 1 Uninit [] ∷ []

wider_0 : (r : Rule) → IsIn r wider → r.state ≡ 0 → r ≡ rule 0 Null []
wider_0 r (inl d) e = d
wider_0 r (inr (inl d)) e = absurd (let k = sym (ap (λ (x : Rule). x.state) d) ∙ e in omega (arith, k))
wider_0 r (inr (inr (inl d))) e = absurd (let k = sym (ap (λ (x : Rule). x.state) d) ∙ e in omega (arith, k))
wider_0 r (inr (inr (inr i))) e = absurd i

one_side : AreMatched wider (Agree wider 3) 0 1
one_side r i e = subst (λ (x : Rule). IsMatched wider (Agree wider 3) x 1) (sym (wider_0 r i e))
    (rule 1 Null [], inr (inl refl), refl, refl, tt)

not_the_other : AreMatched wider (Agree wider 0) 1 0 → ⊥
not_the_other h =
    let m = h (rule 1 Uninit []) (inr (inr (inl refl))) refl in
    let k = ap kind (sym (ap (λ (x : Rule). x.symbol) (wider_0 m.0 m.1 m.2)) ∙ m.3) in
    omega (arith, k)

not_both_sides : Agree wider 1 0 1 → ⊥
not_both_sides h = not_the_other h.1

nor_turned : Agree wider 1 1 0 → ⊥
nor_turned h = not_the_other h.0

-- Quotients of the list.

abbrev list : Automaton
list = automaton 4 (0 ∷ []) chain

-- the marks of a cell over a tree with these marks
cell_over : (t u : Tree) (ms : List RefMark) → (out-Tree t).symbol ≡ n → (out-Tree t).children ≡ u ∷ []
    → signature [] u ≡ ms → signature [] t ≡ marks_by [] n (record { leaf = (below_of [] u).leaf; marks = ms } ∷ [])
cell_over t u ms y c e =
    tree_signature [] t
    ∙ ap₂ (λ (z : Symbol) (ts : List Tree). marks_by [] z (map (below_of []) ts)) y c
    ∙ ap (λ (xs : List RefMark). marks_by [] n (record { leaf = (below_of [] u).leaf; marks = xs } ∷ [])) e

-- a cell over a tree without marks has none
cell_unmarked : (t u : Tree) → (out-Tree t).symbol ≡ n → (out-Tree t).children ≡ u ∷ [] → signature [] u ≡ []
    → signature [] t ≡ []
cell_unmarked t u y c e = cell_over t u [] y c e

-- the tree below a cell
single : {q : ℕ} {ts : List Tree} → RunEach chain (q ∷ []) ts → (u : Tree) × (ts ≡ u ∷ []) × RunOf chain q u
single (run_more {t = u} r run_none) = (u, refl, r)

null_unmarked : (t : Tree) → RunOf chain 3 t → signature [] t ≡ []
null_unmarked t (run r i e s w) = tree_signature [] t
    ∙ ap (λ (z : Symbol). marks_by [] z (map (below_of []) (out-Tree t).children))
    (sym s ∙ ap (λ (x : Rule). x.symbol) (only_3 r i e))

third_unmarked : (t : Tree) → RunOf chain 2 t → signature [] t ≡ []
third_unmarked t (run r i e s w) =
    let u = single (subst (λ (x : Rule). RunEach chain x.children (out-Tree t).children) (only_2 r i e) w) in
    cell_unmarked t u.0 (sym s ∙ ap (λ (x : Rule). x.symbol) (only_2 r i e)) u.1 (null_unmarked u.0 u.2)

second_unmarked : (t : Tree) → RunOf chain 1 t → signature [] t ≡ []
second_unmarked t (run r i e s w) =
    let u = single (subst (λ (x : Rule). RunEach chain x.children (out-Tree t).children) (only_1 r i e) w) in
    cell_unmarked t u.0 (sym s ∙ ap (λ (x : Rule). x.symbol) (only_1 r i e)) u.1 (third_unmarked u.0 u.2)

same_marks : SameSignature [] chain 1 2
same_marks = ([], ((λ t r. sym (second_unmarked t r)), (λ g. refl)), ((λ t r. sym (third_unmarked t r)), (λ g. refl)))

not_root : (q : ℕ) → IsIn (suc q) (0 ∷ []) → ⊥
not_root q (inl e) = omega (arith, e)
not_root q (inr i) = i

inner_1 : IsInner list 1
inner_1 = (omega arith, not_root 0)

inner_2 : IsInner list 2
inner_2 = (omega arith, not_root 1)

-- height 1 joins the states of the second and the third cell
joined_by_1 : (b : Automaton) (h : IsQuotient [] 1 list b) → h.to 1 ≡ h.to 2
joined_by_1 b h = (h.joins 1 2 inner_1 inner_2).1 (second_and_third, same_marks)

-- height 2 does not
apart_by_2 : (b : Automaton) (h : IsQuotient [] 2 list b) → h.to 1 ≡ h.to 2 → ⊥
apart_by_2 b h e = not_to_2 ((h.joins 1 2 inner_1 inner_2).0 e).0

-- the root state is joined with no other, though it agrees to height 1 with two
root_apart : (b : Automaton) (h : IsQuotient [] 1 list b) → h.to 0 ≡ h.to 1 → ⊥
root_apart b h e = let z = h.lone 0 1 (inl refl) (omega arith) e in omega (arith, z)

-- no rule is lost
abbrev fewer : Automaton
fewer = automaton 3 (0 ∷ []) (rule 0 n (1 ∷ []) ∷ rule 1 n (1 ∷ []) ∷ rule 2 Null [] ∷ [])

not_fewer : IsQuotient [] 1 list fewer → ⊥
not_fewer h =
    let e : 3 ≡ 4 = ap (λ (a : Automaton). length a.rules) h.images ∙ length-map chain (renumbered h.to) in
    omega (arith, e)

-- no root state is lost
not_rootless : (k : ℕ) → IsQuotient [] k (automaton 1 (0 ∷ []) []) (automaton 1 [] []) → ⊥
not_rootless k h = let e : 0 ≡ 1 = ap (λ (a : Automaton). length a.roots) h.images in omega (arith, e)

-- each state has an image, and each state is one
abbrev lone_state : Automaton
lone_state = automaton 1 [] []

not_stateless : (k : ℕ) → IsQuotient [] k lone_state (automaton 0 [] []) → ⊥
not_stateless k h = let l = h.below 0 (omega arith) in omega (arith, l)

not_more : (k : ℕ) → IsQuotient [] k lone_state (automaton 2 [] []) → ⊥
not_more k h =
    let p = h.onto 0 (omega arith) in
    let q = h.onto 1 (omega arith) in
    let l = p.1 in
    let m = q.1 in
    let same : p.0 ≡ q.0 = omega (arith, l, m) in
    let e : 0 ≡ 1 = sym p.2 ∙ ap h.to same ∙ q.2 in
    omega (arith, e)

-- Two states alike but for a mark: 0 = f(1, 2), 1 = n(3), 2 = n(4), 3 = Null, 4 = Ref 1.

abbrev marked : List Rule
marked = rule 0 f (1 ∷ 2 ∷ []) ∷ rule 1 n (3 ∷ []) ∷ rule 2 n (4 ∷ []) ∷ rule 3 Null [] ∷ rule 4 (Ref 1) [] ∷ []

abbrev null_tree : Tree
null_tree = tree_of Null []

abbrev ref_tree : Tree
ref_tree = tree_of (Ref 1) []

null_run : RunOf marked 1 (tree_of n (null_tree ∷ []))
null_run = run_tree marked (rule 1 n (3 ∷ [])) (null_tree ∷ []) (inr (inl refl))
    (run_more (run_tree marked (rule 3 Null []) [] (inr (inr (inr (inl refl)))) run_none) run_none)

ref_run : RunOf marked 2 (tree_of n (ref_tree ∷ []))
ref_run = run_tree marked (rule 2 n (4 ∷ [])) (ref_tree ∷ []) (inr (inr (inl refl)))
    (run_more (run_tree marked (rule 4 (Ref 1) []) [] (inr (inr (inr (inr (inl refl))))) run_none) run_none)

leaf_marks : (y : Symbol) → signature [] (tree_of y []) ≡ marks_by [] y []
leaf_marks y =
    let o = out-roll-Tree (record { symbol = y; children = [] }) in
    tree_signature [] (tree_of y []) ∙ ap (λ (x : Tree-F Tree). marks_by [] x.symbol (map (below_of []) x.children)) o

null_marks : signature [] (tree_of n (null_tree ∷ [])) ≡ []
null_marks =
    let o = out-roll-Tree (record { symbol = n; children = null_tree ∷ [] }) in
    cell_unmarked (tree_of n (null_tree ∷ [])) null_tree (ap (λ (x : Tree-F Tree). x.symbol) o)
    (ap (λ (x : Tree-F Tree). x.children) o) (leaf_marks Null)

ref_marks : signature [] (tree_of n (ref_tree ∷ [])) ≡ leaf_mark 1 ∷ []
ref_marks =
    let o = out-roll-Tree (record { symbol = n; children = ref_tree ∷ [] }) in
    cell_over (tree_of n (ref_tree ∷ [])) ref_tree (leaf_mark 1 ∷ []) (ap (λ (x : Tree-F Tree). x.symbol) o)
    (ap (λ (x : Tree-F Tree). x.children) o) (leaf_marks (Ref 1))

not_same_marks : SameSignature [] marked 1 2 → ⊥
not_same_marks h =
    let e : 0 ≡ 1 = ap (λ (ms : List RefMark). length ms)
    (sym null_marks ∙ sym (h.1.0 (tree_of n (null_tree ∷ [])) null_run)
    ∙ h.2.0 (tree_of n (ref_tree ∷ [])) ref_run ∙ ref_marks) in
    omega (arith, e)

-- they are not joined by any height
marks_apart : (k : ℕ) (b : Automaton) (h : IsQuotient [] k (automaton 5 (0 ∷ []) marked) b) → h.to 1 ≡ h.to 2 → ⊥
marks_apart k b h e = not_same_marks ((h.joins 1 2 (omega arith, not_root 0) (omega arith, not_root 1)).0 e).1

-- a state without trees has no marks, and only these
treeless : (q : ℕ) → AreMarksOf [] [] q []
treeless q = ((λ t r. no_run r), (λ g. refl))
  where
    no_run : {t : Tree} → RunOf [] q t → [] ≡ signature [] t
    no_run (run r i e s w) = absurd i

treeless_marked : (q : ℕ) → AreMarksOf [] [] q (leaf_mark 1 ∷ []) → ⊥
treeless_marked q h = let e : 1 ≡ 0 = ap (λ (ms : List RefMark). length ms) (h.1 (λ t. no_run t.1)) in omega (arith, e)
  where
    no_run : {t : Tree} → RunOf [] q t → ⊥
    no_run (run r i e s w) = i

-- Targets and data stay, and there is a quotient for each component.

abbrev forest : List Automaton → List Target → List Datum → Forest
forest autos vars data_vars = record { autos = autos; vars = vars; data_vars = data_vars }

no_cells : (k : ℕ) → Quotient [] (forest [] (NullTarget ∷ []) (Known 3 ∷ [])) k
    (forest [] (NullTarget ∷ []) (Known 3 ∷ []))
no_cells k = record { autos = tt; vars = refl; data_vars = refl }

no_other_targets : (k : ℕ) → Quotient [] (forest [] (NullTarget ∷ []) []) k (forest [] [] []) → ⊥
no_other_targets k h = let e : 0 ≡ 1 = ap (λ (vs : List Target). length vs) h.vars in omega (arith, e)

no_other_data : (k : ℕ) → Quotient [] (forest [] [] (Known 3 ∷ [])) k (forest [] [] []) → ⊥
no_other_data k h = let e : 0 ≡ 1 = ap (λ (ds : List Datum). length ds) h.data_vars in omega (arith, e)

no_component_lost : (k : ℕ) → Quotient [] (forest (list ∷ []) [] []) k (forest [] [] []) → ⊥
no_component_lost k h = h.autos

-- Worked values: two forests that differ in one child can be joined, two that differ in both cannot, nor can two whose
-- children have other signatures.
use Rattle.std.proofs.Common.{◌≡◌, inl, inr, ℕ, List, [], ◌∷◌, map, refl, sym, ap, subst, ◌∙◌, arith}
use Rattle.fore_base.specs.Lists.{IsIn}
use Rattle.ta_core.specs.Auto.{Automaton, automaton}
use Rattle.ta_core.specs.Language.{RunOf, run, RunEach, run_none, run_more, InLanguage, HasSameLanguage}
use Rattle.ta_core.specs.declared.auto.Rule.{Rule}
use Rattle.ta_core.specs.declared.symbol.Slot.TheVariants.{Field}
use Rattle.ta_core.specs.declared.symbol.Symbol.{Symbol}
use Rattle.ta_core.specs.declared.symbol.Symbol.TheVariants.{Null, Uninit, Dangling, Ref, Cell}
use Rattle.ta_core.specs.declared.tree.Tree.{Tree, out-Tree, out-roll-Tree}
use Rattle.ta_core.proofs.Runs.{tree_of, run_tree}
use Rattle.fa_core.specs.Cells.{below_of, marks_by}
use Rattle.fa_core.specs.Ways.{signature}
use Rattle.fa_core.specs.declared.forest.Forest.{Forest}
use Rattle.fa_core.specs.declared.forest.Target.TheVariants.{At}
use Rattle.fa_core.specs.declared.signature.RefMark.{RefMark}
use Rattle.fa_core.proofs.CellMarks.{tree_signature}
use Rattle.fa_join.specs.Joinable.{PairedButOne, SameRuns, SameSignatures, DifferInChild, Joinable}

abbrev rule : ℕ → Symbol → List ℕ → Rule
rule q y qs = record { state = q; symbol = y; children = qs }

abbrev fork : Symbol
fork = Cell 0 [] (Field 0 ∷ Field 1 ∷ [])

-- a fork of two leaves
abbrev fork_of : Symbol → Symbol → Automaton
fork_of y z = automaton 3 (2 ∷ []) (rule 0 y [] ∷ rule 1 z [] ∷ rule 2 fork (0 ∷ 1 ∷ []) ∷ [])

abbrev forest_of : Symbol → Symbol → Forest
forest_of y z = record { autos = fork_of y z ∷ []; vars = At 0 ∷ []; data_vars = [] }

-- the one rule of each state
first_rule : (y z : Symbol) (r : Rule) → IsIn r (fork_of y z).rules → r.state ≡ 0 → r ≡ rule 0 y []
first_rule y z r (inl e) s = e
first_rule y z r (inr (inl e)) s = (let w : r.state ≡ 1 = ap (λ (x : Rule). x.state) e in absurd (omega (arith, w, s)))
first_rule y z r (inr (inr (inl e))) s =
    (let w : r.state ≡ 2 = ap (λ (x : Rule). x.state) e in absurd (omega (arith, w, s)))
first_rule y z r (inr (inr (inr i))) s = absurd i

second_rule : (y z : Symbol) (r : Rule) → IsIn r (fork_of y z).rules → r.state ≡ 1 → r ≡ rule 1 z []
second_rule y z r (inl e) s = (let w : r.state ≡ 0 = ap (λ (x : Rule). x.state) e in absurd (omega (arith, w, s)))
second_rule y z r (inr (inl e)) s = e
second_rule y z r (inr (inr (inl e))) s =
    (let w : r.state ≡ 2 = ap (λ (x : Rule). x.state) e in absurd (omega (arith, w, s)))
second_rule y z r (inr (inr (inr i))) s = absurd i

top_rule_of : (y z : Symbol) (r : Rule) → IsIn r (fork_of y z).rules → r.state ≡ 2 → r ≡ rule 2 fork (0 ∷ 1 ∷ [])
top_rule_of y z r (inl e) s = (let w : r.state ≡ 0 = ap (λ (x : Rule). x.state) e in absurd (omega (arith, w, s)))
top_rule_of y z r (inr (inl e)) s = (let w : r.state ≡ 1 = ap (λ (x : Rule). x.state) e in absurd (omega (arith, w, s)))
top_rule_of y z r (inr (inr (inl e))) s = e
top_rule_of y z r (inr (inr (inr i))) s = absurd i

-- their trees are one leaf each
first_symbol : (y z : Symbol) (t : Tree) → RunOf (fork_of y z).rules 0 t → (out-Tree t).symbol ≡ y
first_symbol y z t (run r i s e k) = sym e ∙ ap (λ (x : Rule). x.symbol) (first_rule y z r i s)

second_symbol : (y z : Symbol) (t : Tree) → RunOf (fork_of y z).rules 1 t → (out-Tree t).symbol ≡ z
second_symbol y z t (run r i s e k) = sym e ∙ ap (λ (x : Rule). x.symbol) (second_rule y z r i s)

none_below : {rules : List Rule} {ts : List Tree} → RunEach rules [] ts → ts ≡ []
none_below run_none = refl

same_first : (y z w : Symbol) (t : Tree) → RunOf (fork_of y z).rules 0 t → RunOf (fork_of y w).rules 0 t
same_first y z w t (run r i s e k) =
    let o = first_rule y z r i s in
    let c = none_below (subst (λ (x : Rule). RunEach (fork_of y z).rules x.children (out-Tree t).children) o k) in
    run (rule 0 y []) (inl refl) refl (ap (λ (x : Rule). x.symbol) (sym o) ∙ e)
    (subst (λ (ts : List Tree). RunEach (fork_of y w).rules [] ts) (sym c) run_none)

-- The leaves null and uninitialised have no references; one that refers to root 1 has.

no_marks : (z : Symbol) (t : Tree) → (out-Tree t).symbol ≡ z → marks_by [] z (map (below_of []) (out-Tree t).children)
    ≡ [] → signature [] t ≡ []
no_marks z t e h = tree_signature [] t ∙ ap (λ (y : Symbol). marks_by [] y (map (below_of []) (out-Tree t).children)) e
    ∙ h

one_child : Joinable [] (forest_of Null Null) (forest_of Null Uninit)
one_child = record {
  vars = refl;
  data_vars = refl;
  components = inr (
    record {
      symbols = refl;
      children =
          inl (
            (λ t. (same_first Null Null Uninit t, same_first Null Uninit Null t)),
            inr (
              (λ t u x y. no_marks Null t (second_symbol Null Null t x) refl
                  ∙ sym (no_marks Uninit u (second_symbol Null Uninit u y) refl)),
              tt,
            ),
          );
    },
    tt,
  );
}

-- a number for each kind of symbol
abbrev kind : Symbol → ℕ
kind Null = 0
kind Uninit = 1
kind Dangling = 2
kind (Ref r) = 3
kind (Cell s ds ss) = 4

abbrev leaf_of : Symbol → Tree
leaf_of y = tree_of y []

leaf_symbol : (y : Symbol) → (out-Tree (leaf_of y)).symbol ≡ y
leaf_symbol y = ap (λ (x : _). x.symbol) (out-roll-Tree (record { symbol = y; children = [] }))

first_leaf : (y z : Symbol) → RunOf (fork_of y z).rules 0 (leaf_of y)
first_leaf y z = run_tree (fork_of y z).rules (rule 0 y []) [] (inl refl) run_none

second_leaf : (y z : Symbol) → RunOf (fork_of y z).rules 1 (leaf_of z)
second_leaf y z = run_tree (fork_of y z).rules (rule 1 z []) [] (inr (inl refl)) run_none

fork_tree : (y z : Symbol) → InLanguage (fork_of y z) (tree_of fork (leaf_of y ∷ leaf_of z ∷ []))
fork_tree y z = (
  2,
  inl refl,
  run_tree (fork_of y z).rules (rule 2 fork (0 ∷ 1 ∷ [])) (leaf_of y ∷ leaf_of z ∷ [])
      (inr (inr (inl refl))) (run_more (first_leaf y z) (run_more (second_leaf y z) run_none)),
)

-- other leaves in the first place are other trees, and so they are in the second
other_first : (y z v w : Symbol) → (kind y ≡ kind v → ⊥) → SameRuns (fork_of y z) (fork_of v w) 0 0 → ⊥
other_first y z v w d h =
    d (ap kind (sym (leaf_symbol y) ∙ first_symbol v w (leaf_of y) ((h (leaf_of y)).0 (first_leaf y z))))

other_second : (y z v w : Symbol) → (kind z ≡ kind w → ⊥) → SameRuns (fork_of y z) (fork_of v w) 1 1 → ⊥
other_second y z v w d h =
    d (ap kind (sym (leaf_symbol z) ∙ second_symbol v w (leaf_of z) ((h (leaf_of z)).0 (second_leaf y z))))

-- the second child of a tree of the fork
children_run : (y z : Symbol) (t : Tree) → InLanguage (fork_of y z) t
    → RunEach (fork_of y z).rules (0 ∷ 1 ∷ []) (out-Tree t).children
children_run y z t (q, inl i, run r j s e k) =
    subst (λ (x : Rule). RunEach (fork_of y z).rules x.children (out-Tree t).children) (top_rule_of y z r j (s ∙ i)) k
children_run y z t (q, inr i, w) = absurd i

second_of : {rules : List Rule} {p q : ℕ} {t u : Tree} → RunEach rules (p ∷ q ∷ []) (t ∷ u ∷ []) → RunOf rules q u
second_of (run_more a (run_more b c)) = b

other_language : (y z v w : Symbol) → (kind z ≡ kind w → ⊥) → HasSameLanguage (fork_of y z) (fork_of v w) → ⊥
other_language y z v w d h =
    let t = tree_of fork (leaf_of y ∷ leaf_of z ∷ []) in
    let k = children_run v w t ((h t).0 (fork_tree y z)) in
    let c = ap (λ (x : _). x.children) (out-roll-Tree (record { symbol = fork; children = leaf_of y ∷ leaf_of z ∷ [] }))
    in
    let u = second_of (subst (λ (ts : List Tree). RunEach (fork_of v w).rules (0 ∷ 1 ∷ []) ts) c k) in
    d (ap kind (sym (leaf_symbol z) ∙ second_symbol v w (leaf_of z) u))

two_children : Joinable [] (forest_of Null Null) (forest_of Uninit Uninit) → ⊥
two_children h = here h.components
  where
    other : kind Null ≡ kind Uninit → ⊥
    other e = omega (arith, e)

    here : PairedButOne HasSameLanguage (DifferInChild []) (fork_of Null Null ∷ []) (fork_of Uninit Uninit ∷ []) → ⊥
    here (inl k) = other_language Null Null Uninit Uninit other k.0
    here (inr (d, k)) = elim d.children [
      | inl m ↦ other_first Null Null Uninit Uninit other m.0
      | inr m ↦ other_second Null Null Uninit Uninit other m.1.0
    ]

-- a leaf that refers to root 1 has a mark, and null has none
abbrev count_marks : List RefMark → ℕ
count_marks [] = 0
count_marks (m ∷ ms) = 1

one_mark : (t : Tree) → (out-Tree t).symbol ≡ Ref 1 → count_marks (signature [] t) ≡ 1
one_mark t e = ap count_marks
    (tree_signature [] t ∙ ap (λ (y : Symbol). marks_by [] y (map (below_of []) (out-Tree t).children)) e)

other_signatures : Joinable [] (forest_of Null Null) (forest_of Null (Ref 1)) → ⊥
other_signatures h = here h.components
  where
    other : kind Null ≡ kind (Ref 1) → ⊥
    other e = omega (arith, e)

    marks : SameSignatures [] (fork_of Null Null) (fork_of Null (Ref 1)) 1 1 → ⊥
    marks m =
        let e = m (leaf_of Null) (leaf_of (Ref 1)) (second_leaf Null Null) (second_leaf Null (Ref 1)) in
        let w : 0 ≡ 1 = ap count_marks (sym (no_marks Null (leaf_of Null) (leaf_symbol Null) refl) ∙ e)
        ∙ one_mark (leaf_of (Ref 1)) (leaf_symbol (Ref 1)) in
        omega (arith, w)

    here : PairedButOne HasSameLanguage (DifferInChild []) (fork_of Null Null ∷ []) (fork_of Null (Ref 1) ∷ []) → ⊥
    here (inl k) = other_language Null Null Null (Ref 1) other k.0
    here (inr (d, k)) = elim d.children [
      | inl m ↦ elim m.1 [
        | inl n ↦ other_second Null Null Null (Ref 1) other n.0
        | inr n ↦ marks n.0
      ]
      | inr m ↦ other_second Null Null Null (Ref 1) other m.1.0
    ]

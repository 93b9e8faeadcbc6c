-- Worked values of runs and languages, each made by hand.
use Rattle.std.proofs.Common.{◌≡◌, inl, inr, ℕ, List, [], ◌∷◌, length, refl, sym, ap, subst, ◌∙◌, arith}
use Rattle.fore_base.specs.Lists.{IsIn}
use Rattle.ta_core.specs.declared.auto.Rule.{Rule}
use Rattle.ta_core.specs.declared.symbol.Slot.TheVariants.{Field}
use Rattle.ta_core.specs.declared.symbol.Symbol.{Symbol}
use Rattle.ta_core.specs.declared.symbol.Symbol.TheVariants.{Null, Uninit, Dangling, Ref, Cell}
use Rattle.ta_core.specs.declared.tree.Tree.{Tree, out-Tree, out-roll-Tree}
use Rattle.ta_core.specs.Auto.{Automaton, automaton}
use Rattle.ta_core.specs.Language.{RunOf, run, RunEach, run_none, run_more, InLanguage, IsBarren, IsWithin}
use Rattle.ta_core.specs.Language.{HasSameLanguage, HasTree, PassesBy, at_top, below, OnePasses, this_one, later_one}
use Rattle.ta_core.specs.Language.{TakesPart, IsTrim, nodes, IsSmallest}
use Rattle.ta_core.proofs.Runs.{tree_of, run_tree}
use Rattle.ta_core.proofs.Sizing.{nodes_tree, nodes_out}

abbrev pub rule : ℕ → Symbol → List ℕ → Rule
rule q y qs = record { state = q; symbol = y; children = qs }

-- a number for each kind of symbol, by which they are told apart
abbrev pub kind : Symbol → ℕ
kind Null = 0
kind Uninit = 1
kind Dangling = 2
kind (Ref r) = 3
kind (Cell shape datums slots) = 4

-- a cell with one pointer field, and one with two
abbrev pub n : Symbol
n = Cell 0 [] (Field 0 ∷ [])

abbrev pub f : Symbol
f = Cell 0 [] (Field 0 ∷ Field 1 ∷ [])

abbrev pub null : Tree
null = tree_of Null []

abbrev pub uninit : Tree
uninit = tree_of Uninit []

-- the rule at the top of a run
pub top : {rules : List Rule} {q : ℕ} (y : Symbol) (ts : List Tree) → RunOf rules q (tree_of y ts) → (r : Rule)
    × IsIn r rules × (r.state ≡ q) × (r.symbol ≡ y) × RunEach rules r.children ts
top {rules} y ts (run r i e s k) =
    let o = out-roll-Tree (record { symbol = y; children = ts }) in
    (r, i, e, rw o at s, rw o at k)

-- 0 = f(1, 2), 1 = Null, 2 = Uninit, 3 = Null, with root 0: its one tree is f(Null, Uninit), and 3 takes no part
abbrev pub sides : Automaton
sides = automaton 4 (0 ∷ []) (rule 0 f (1 ∷ 2 ∷ []) ∷ rule 1 Null [] ∷ rule 2 Uninit [] ∷ rule 3 Null [] ∷ [])

-- the rules of each state
of_0 : (r : Rule) → IsIn r sides.rules → r.state ≡ 0 → r ≡ rule 0 f (1 ∷ 2 ∷ [])
of_0 r (inl d) e = d
of_0 r (inr (inl d)) e = let s = ap (λ (x : Rule). x.state) d in absurd (omega (arith, e, s))
of_0 r (inr (inr (inl d))) e = let s = ap (λ (x : Rule). x.state) d in absurd (omega (arith, e, s))
of_0 r (inr (inr (inr (inl d)))) e = let s = ap (λ (x : Rule). x.state) d in absurd (omega (arith, e, s))
of_0 r (inr (inr (inr (inr i)))) e = absurd i

of_1 : (r : Rule) → IsIn r sides.rules → r.state ≡ 1 → r ≡ rule 1 Null []
of_1 r (inl d) e = let s = ap (λ (x : Rule). x.state) d in absurd (omega (arith, e, s))
of_1 r (inr (inl d)) e = d
of_1 r (inr (inr (inl d))) e = let s = ap (λ (x : Rule). x.state) d in absurd (omega (arith, e, s))
of_1 r (inr (inr (inr (inl d)))) e = let s = ap (λ (x : Rule). x.state) d in absurd (omega (arith, e, s))
of_1 r (inr (inr (inr (inr i)))) e = absurd i

of_2 : (r : Rule) → IsIn r sides.rules → r.state ≡ 2 → r ≡ rule 2 Uninit []
of_2 r (inl d) e = let s = ap (λ (x : Rule). x.state) d in absurd (omega (arith, e, s))
of_2 r (inr (inl d)) e = let s = ap (λ (x : Rule). x.state) d in absurd (omega (arith, e, s))
of_2 r (inr (inr (inl d))) e = d
of_2 r (inr (inr (inr (inl d)))) e = let s = ap (λ (x : Rule). x.state) d in absurd (omega (arith, e, s))
of_2 r (inr (inr (inr (inr i)))) e = absurd i

pub null_1 : RunOf sides.rules 1 null
null_1 = run_tree sides.rules (rule 1 Null []) [] (inr (inl refl)) run_none

pub uninit_2 : RunOf sides.rules 2 uninit
uninit_2 = run_tree sides.rules (rule 2 Uninit []) [] (inr (inr (inl refl))) run_none

abbrev pub both : Tree
both = tree_of f (null ∷ uninit ∷ [])

both_0 : RunOf sides.rules 0 both
both_0 = run_tree sides.rules (rule 0 f (1 ∷ 2 ∷ [])) (null ∷ uninit ∷ []) (inl refl)
    (run_more null_1 (run_more uninit_2 run_none))

-- a leaf has no run to the state of another leaf
not_uninit_1 : RunOf sides.rules 1 uninit → ⊥
not_uninit_1 r =
    let t = top Uninit [] r in
    let s = ap kind (sym (ap (λ (x : Rule). x.symbol) (of_1 t.0 t.1 t.2)) ∙ t.3) in
    omega (arith, s)

-- the runs of the children of a tree with a run to 0
below_0 : (y : Symbol) (ts : List Tree) → RunOf sides.rules 0 (tree_of y ts) → (f ≡ y)
    × RunEach sides.rules (1 ∷ 2 ∷ []) ts
below_0 y ts r =
    let t = top y ts r in
    let o = of_0 t.0 t.1 t.2 in
    (sym (ap (λ (x : Rule). x.symbol) o) ∙ t.3, subst (λ (x : Rule). RunEach sides.rules x.children ts) o t.4)

-- the children come in their order, one for each state: not turned, not fewer, not more; and the symbol is the rule's
not_turned : RunOf sides.rules 0 (tree_of f (uninit ∷ null ∷ [])) → ⊥
not_turned r = no (below_0 f (uninit ∷ null ∷ []) r).1
  where
    no : RunEach sides.rules (1 ∷ 2 ∷ []) (uninit ∷ null ∷ []) → ⊥
    no (run_more k ks) = not_uninit_1 k

not_fewer : RunOf sides.rules 0 (tree_of f (null ∷ [])) → ⊥
not_fewer r = no (below_0 f (null ∷ []) r).1
  where
    no : RunEach sides.rules (1 ∷ 2 ∷ []) (null ∷ []) → ⊥
    no (run_more k h) = elim h [ ]

not_other : RunOf sides.rules 0 null → ⊥
not_other r = let s = ap kind (below_0 Null [] r).0 in omega (arith, s)

-- a tree of the language has a run to a root state: that of the leaf to 1 does not serve
accepted : InLanguage sides both
accepted = (0, inl refl, both_0)

not_accepted : InLanguage sides null → ⊥
not_accepted (q, inl e, r) = not_other (subst (λ (x : ℕ). RunOf sides.rules x null) e r)
not_accepted (q, inr i, r) = absurd i

-- with no root state nothing is accepted; sides accepts something
barren : IsBarren (automaton 4 [] sides.rules)
barren t l = absurd l.1

not_barren : IsBarren sides → ⊥
not_barren h = h both accepted

-- 0 = n(0): each tree holds another one, without end
abbrev endless : Automaton
endless = automaton 1 (0 ∷ []) (rule 0 n (0 ∷ []) ∷ [])

mutual
  endless_run : {q : ℕ} {t : Tree} → RunOf endless.rules q t → ⊥
  endless_run (run r (inl e) s y k) = endless_each (ap (λ (x : Rule). x.children) e) k
  endless_run (run r (inr i) s y k) = absurd i

  endless_each : {qs : List ℕ} {ts : List Tree} → qs ≡ 0 ∷ [] → RunEach endless.rules qs ts → ⊥
  endless_each e run_none = let l = ap length e in omega (arith, l)
  endless_each e (run_more r rs) = endless_run r

no_tree : HasTree endless.rules 0 → ⊥
no_tree h = endless_run h.1

a_tree : HasTree sides.rules 2
a_tree = (uninit, uninit_2)

-- the one tree of sides is one of its own, and none where 2 is not Uninit: no other language is within, and the same
-- languages are within each other
within : IsWithin endless sides
within t l = absurd (endless_run l.2)

not_within : IsWithin sides endless → ⊥
not_within h = endless_run (h both accepted).2

not_same : HasSameLanguage endless sides → ⊥
not_same h = endless_run ((h both).1 accepted).2

not_same_turned : HasSameLanguage sides endless → ⊥
not_same_turned h = endless_run ((h both).0 accepted).2

-- the run of the tree passes its own state at the top, 1 at the first child and 2 at the second; 3 nowhere
passes_0 : PassesBy sides.rules 0 0 both
passes_0 = at_top refl both_0

passes_1 : PassesBy sides.rules 1 0 both
passes_1 =
    let o = out-roll-Tree (record { symbol = f; children = null ∷ uninit ∷ [] }) in
    below (rule 0 f (1 ∷ 2 ∷ [])) (inl refl) refl (rw o refl)
    (rw o (this_one (at_top refl null_1) (run_more uninit_2 run_none)))

passes_2 : PassesBy sides.rules 2 0 both
passes_2 =
    let o = out-roll-Tree (record { symbol = f; children = null ∷ uninit ∷ [] }) in
    below (rule 0 f (1 ∷ 2 ∷ [])) (inl refl) refl (rw o refl)
    (rw o (later_one null_1 (this_one (at_top refl uninit_2) run_none)))

takes_part : TakesPart sides 2
takes_part = (0, both, inl refl, passes_2)

none_pass : {q : ℕ} {ts : List Tree} → OnePasses sides.rules q [] ts → ⊥
none_pass h = elim h [ ]

not_3_at_1 : {t : Tree} → PassesBy sides.rules 3 1 t → ⊥
not_3_at_1 (at_top e r) = omega (arith, e)
not_3_at_1 {t} (below r i e s k) =
    none_pass (subst (λ (x : Rule). OnePasses sides.rules 3 x.children (out-Tree t).children) (of_1 r i e) k)

not_3_at_2 : {t : Tree} → PassesBy sides.rules 3 2 t → ⊥
not_3_at_2 (at_top e r) = omega (arith, e)
not_3_at_2 {t} (below r i e s k) =
    none_pass (subst (λ (x : Rule). OnePasses sides.rules 3 x.children (out-Tree t).children) (of_2 r i e) k)

not_3_below : {ts : List Tree} → OnePasses sides.rules 3 (1 ∷ 2 ∷ []) ts → ⊥
not_3_below (this_one p rs) = not_3_at_1 p
not_3_below (later_one r (this_one p rs)) = not_3_at_2 p
not_3_below (later_one r (later_one s o)) = none_pass o

not_3_at_0 : {t : Tree} → PassesBy sides.rules 3 0 t → ⊥
not_3_at_0 (at_top e r) = omega (arith, e)
not_3_at_0 {t} (below r i e s k) =
    not_3_below (subst (λ (x : Rule). OnePasses sides.rules 3 x.children (out-Tree t).children) (of_0 r i e) k)

takes_no_part : TakesPart sides 3 → ⊥
takes_no_part (p, t, inl e, h) = not_3_at_0 (subst (λ (x : ℕ). PassesBy sides.rules 3 x t) e h)
takes_no_part (p, t, inr i, h) = absurd i

pub not_trim : IsTrim sides → ⊥
not_trim h = takes_no_part (h 3 (omega arith))

-- f(Null, Uninit) has three nodes
three_nodes : nodes both ≡ 3
three_nodes =
    let a = nodes_tree Null [] in
    let b = nodes_tree Uninit [] in
    let c = nodes_tree f (null ∷ uninit ∷ []) in
    omega (arith, a, b, c)

-- of the lists of cells that end in Null, Null is a smallest one; n(Null) is a tree, and none; Uninit is small, and no
-- tree
abbrev pub lists : Automaton
lists = automaton 1 (0 ∷ []) (rule 0 n (0 ∷ []) ∷ rule 0 Null [] ∷ [])

pub null_list : RunOf lists.rules 0 null
null_list = run_tree lists.rules (rule 0 Null []) [] (inr (inl refl)) run_none

pub one_list : RunOf lists.rules 0 (tree_of n (null ∷ []))
one_list = run_tree lists.rules (rule 0 n (0 ∷ [])) (null ∷ []) (inl refl) (run_more null_list run_none)

smallest : IsSmallest lists null
smallest = ((0, inl refl, null_list), λ u l. (let a = nodes_tree Null [] in let b = nodes_out u in omega (arith, a, b)))

not_smallest : IsSmallest lists (tree_of n (null ∷ [])) → ⊥
not_smallest h =
    let l = h.1 null (0, inl refl, null_list) in
    let a = nodes_tree Null [] in
    let b = nodes_tree n (null ∷ []) in
    omega (arith, l, a, b)

not_a_list : IsSmallest lists uninit → ⊥
not_a_list h = no (top Uninit [] h.0.2)
  where
    no : (r : Rule) × IsIn r lists.rules × (r.state ≡ h.0.0) × (r.symbol ≡ Uninit) × RunEach lists.rules r.children []
        → ⊥
    no (r, inl e, s, y, k) = let d = ap kind (sym (ap (λ (x : Rule). x.symbol) e) ∙ y) in omega (arith, d)
    no (r, inr (inl e), s, y, k) = let d = ap kind (sym (ap (λ (x : Rule). x.symbol) e) ∙ y) in omega (arith, d)
    no (r, inr (inr i), s, y, k) = absurd i

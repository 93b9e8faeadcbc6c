-- Worked values of the definitions, each made by hand.
use Rattle.std.proofs.Common.{◌≡◌, inl, inr, ℕ, List, [], ◌∷◌, get_or, refl, ap, arith}
use Rattle.fore_base.specs.declared.store.Datum.TheVariants.{Known}
use Rattle.ta_core.specs.declared.auto.Rule.{Rule}
use Rattle.ta_core.specs.declared.symbol.Slot.TheVariants.{Field, Link, Hook}
use Rattle.ta_core.specs.declared.symbol.Symbol.{Symbol}
use Rattle.ta_core.specs.declared.symbol.Symbol.TheVariants.{Null, Uninit, Dangling, Ref, Cell}
use Rattle.ta_core.specs.declared.tables.Sign.TheVariants.{Null as NullSign, Uninit as UninitSign}
use Rattle.ta_core.specs.declared.tables.Sign.TheVariants.{Dangling as DanglingSign, Ref as RefSign, ListCell, Fork}
use Rattle.ta_core.specs.declared.tables.Sign.TheVariants.{Datum as DatumSign, Slots}
use Rattle.ta_core.specs.declared.tree.Tree.{Tree}
use Rattle.ta_core.specs.Arity.{arity}
use Rattle.ta_core.specs.Auto.{Automaton, automaton, IsRanked}
use Rattle.ta_core.specs.Joined.{shifted, united}
use Rattle.fore_base.specs.Lists.{sum_of}
use Rattle.ta_core.specs.Language.{RunOf, run, run_none, run_more}
use Rattle.ta_core.specs.Renumbered.{image}
use Rattle.ta_core.specs.Single.{HasOneTop, HasSameTop}
use Rattle.ta_core.specs.Tables.{sign_symbol, line_rule, planned}
use Rattle.ta_core.specs.declared.tables.Line.{Line}
use Rattle.ta_core.specs.declared.tables.Plan.{Plan}
use Rattle.ta_core.proofs.Runs.{tree_of, run_tree}

abbrev rule : ℕ → Symbol → List ℕ → Rule
rule q y qs = record { state = q; symbol = y; children = qs }

-- a cell with one pointer field
abbrev n : Symbol
n = Cell 0 [] (Field 0 ∷ [])

-- a leaf has no children, whatever it is
leaves : (arity Null ≡ 0) × (arity Uninit ≡ 0) × (arity Dangling ≡ 0) × (arity (Ref 3) ≡ 0)
leaves = (refl, refl, refl, refl)

-- a field and a box with an output have a child each, a box without an output has none
a_field : arity n ≡ 1
a_field = refl

a_link : arity (Cell 0 [] (Link 7 ∷ [])) ≡ 1
a_link = refl

a_hook : arity (Cell 0 [] (Hook 7 ∷ [])) ≡ 0
a_hook = refl

three_slots : arity (Cell 1 (Known 3 ∷ []) (Hook 0 ∷ Field 0 ∷ Link 1 ∷ [])) ≡ 2
three_slots = refl

-- lists of cells that end in Null: 0 = n(0), 0 = Null
abbrev lists : Automaton
lists = automaton 1 (0 ∷ []) (rule 0 n (0 ∷ []) ∷ rule 0 Null [] ∷ [])

-- it is ranked; without a child for the cell, or with a state too many, it is not
lists_ranked : IsRanked lists
lists_ranked = ((omega arith, tt), ((omega arith, (omega arith, tt), refl), ((omega arith, tt, refl), tt)))

child_missing : IsRanked (automaton 1 (0 ∷ []) (rule 0 n [] ∷ [])) → ⊥
child_missing h = let e = h.1.0.2 in omega (arith, e)

root_too_high : IsRanked (automaton 1 (1 ∷ []) []) → ⊥
root_too_high h = let l = h.0.0 in omega (arith, l)

state_too_high : IsRanked (automaton 1 [] (rule 1 Null [] ∷ [])) → ⊥
state_too_high h = let l = h.1.0.0 in omega (arith, l)

child_too_high : IsRanked (automaton 1 [] (rule 0 n (1 ∷ []) ∷ [])) → ⊥
child_too_high h = let l = h.1.0.1.0 in omega (arith, l)

-- Null and n(Null) have runs to state 0
null_runs : RunOf lists.rules 0 (tree_of Null [])
null_runs = run_tree lists.rules (rule 0 Null []) [] (inr (inl refl)) run_none

one_cell_runs : RunOf lists.rules 0 (tree_of n (tree_of Null [] ∷ []))
one_cell_runs = run_tree lists.rules (rule 0 n (0 ∷ [])) (tree_of Null [] ∷ []) (inl refl) (run_more null_runs run_none)

-- no rule is of state 1
no_run_to_1 : (t : Tree) → RunOf lists.rules 1 t → ⊥
no_run_to_1 t (run r (inl e) s y k) = let f : r.state ≡ 0 = ap (λ (x : Rule). x.state) e in omega (arith, f, s)
no_run_to_1 t (run r (inr (inl e)) s y k) = let f : r.state ≡ 0 = ap (λ (x : Rule). x.state) e in omega (arith, f, s)
no_run_to_1 t (run r (inr (inr i)) s y k) = absurd i

-- the sum of the nodes of three trees
three_sizes : sum_of (2 ∷ 5 ∷ 1 ∷ []) ≡ 8
three_sizes = refl

-- 3 added to each state
lists_shifted : shifted 3 lists ≡ automaton 4 (3 ∷ []) (rule 3 n (3 ∷ []) ∷ rule 3 Null [] ∷ [])
lists_shifted = refl

-- the lists beside a second automaton with one leaf: its states come behind
lists_united : united lists (automaton 2 (1 ∷ []) (rule 1 Uninit [] ∷ []))
    ≡ automaton 3 (0 ∷ 2 ∷ []) (rule 0 n (0 ∷ []) ∷ rule 0 Null [] ∷ rule 2 Uninit [] ∷ [])
lists_united = refl

-- a number for each state: here 5
lists_numbered : image 6 (λ q. 5) lists ≡ automaton 6 (5 ∷ []) (rule 5 n (5 ∷ []) ∷ rule 5 Null [] ∷ [])
lists_numbered = refl

-- one rule that is listed twice, of a root that is listed twice: one by value, not by place
abbrev double : Automaton
double = automaton 1 (0 ∷ 0 ∷ []) (rule 0 Null [] ∷ rule 0 Null [] ∷ [])

one_by_value : HasSameTop double
one_by_value = record {
  root = 0;
  listed = inl refl;
  alone = (refl, (refl, tt));
  rule = rule 0 Null [];
  there = inl refl;
  top = refl;
  only = λ r i e. elim i [ inl d ↦ d | inr j ↦ elim j [ inl d ↦ d | inr k ↦ absurd k ] ];
}

not_by_place : HasOneTop double → ⊥
not_by_place h = let p = h.only 0 (rule 0 Null []) refl in let q = h.only 1 (rule 0 Null []) refl in
    let a = double_root h in absurd (omega (arith, p a, q a))
  where
    double_root : (k : HasOneTop double) → 0 ≡ k.root
    double_root k = ap (λ (qs : List ℕ). get_or qs 0 0) k.alone

-- the symbols that tables write
signs : (sign_symbol NullSign ≡ Null) × (sign_symbol UninitSign ≡ Uninit) × (sign_symbol DanglingSign ≡ Dangling)
    × (sign_symbol (RefSign 4) ≡ Ref 4)
signs = (refl, refl, refl, refl)

list_cell_sign : sign_symbol ListCell ≡ Cell 0 [] (Field 0 ∷ [])
list_cell_sign = refl

fork_sign : sign_symbol Fork ≡ Cell 0 [] (Field 0 ∷ Field 1 ∷ [])
fork_sign = refl

datum_sign : sign_symbol (DatumSign 2 (Known 9)) ≡ Cell 2 (Known 9 ∷ []) []
datum_sign = refl

slots_sign : sign_symbol (Slots (Link 0) (Hook 1)) ≡ Cell 0 [] (Link 0 ∷ Hook 1 ∷ [])
slots_sign = refl

-- a line: state 3 over state 1, by a list cell
a_line : (l : Line) → l.0 ≡ 3 → l.1 ≡ ListCell → l.2.now ≡ 1 ∷ [] → line_rule l ≡ rule 3 n (1 ∷ [])
a_line l p q r = rw (p, q, r) refl

-- a plan: two states, the second of which is a root, and one line
a_plan : (p : Plan) (l : Line) → p.0 ≡ 2 → p.1.now ≡ 1 ∷ [] → p.2.now ≡ l ∷ [] → line_rule l ≡ rule 1 Null []
    → planned p ≡ automaton 2 (1 ∷ []) (rule 1 Null [] ∷ [])
a_plan p l d e f h = rw (d, e, f) (ap (λ (r : Rule). automaton 2 (1 ∷ []) (r ∷ [])) h)

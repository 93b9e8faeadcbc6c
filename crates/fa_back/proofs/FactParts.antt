-- Facts, values and targets in parts, and the cells of roots.
use Rattle.std.proofs.Common.{◌≡◌, ◌⊎◌, inl, inr, ℕ, zero, suc, List, [], ◌∷◌, map, refl, sym, ap, subst, ◌∙◌}
use Rattle.std.proofs.Common.{Some, ◌≢◌, true≢false}
use Rattle.std.proofs.lemmas.Option.{none-some, same_Some}
use Rattle.std.proofs.lemmas.Bool.{eqb-true, eq-eqb}
use Rattle.std.specs.Prelude.{Bool, true, false, nat_eq}
use Rattle.fore_base.specs.Lists.{IsIn}
use Rattle.fore_base.specs.declared.store.Value.{Value}
use Rattle.fore_base.specs.declared.store.Value.TheVariants.{Null as NullValue, Uninit as UninitValue}
use Rattle.fore_base.specs.declared.store.Value.TheVariants.{Dangling as DanglingValue, Cell}
use Rattle.fore_base.proofs.ListLemmas.{in_left, in_right}
use Rattle.fa_core.specs.declared.forest.Target.{Target}
use Rattle.fa_core.specs.declared.forest.Target.TheVariants.{Null, Uninit, Dangling, At}
use Rattle.fa_core.specs.Choices.{numbers, all_numbers}
use Rattle.fa_core.specs.Dressed.{Node, Nodes, node, no_nodes, more, Fact, Head, Points, value_in, nth_value, roots_of}
use Rattle.fa_core.specs.Dressed.{number}
use Rattle.fa_back.specs.Reached.{node_at}

-- what a fact says of its cell, field and value
abbrev pub fact_cell : Fact → ℕ
fact_cell (Head c s ds) = c
fact_cell (Points c f v) = c

abbrev pub fact_value : Fact → Value
fact_value (Head c s ds) = NullValue
fact_value (Points c f v) = v

abbrev pub IsPointer : Fact → Type 0
IsPointer (Head c s ds) = ⊥
IsPointer (Points c f v) = Unit {0}

abbrev pub IsCell : Value → Type 0
IsCell NullValue = ⊥
IsCell UninitValue = ⊥
IsCell DanglingValue = ⊥
IsCell (Cell n) = Unit {0}

abbrev pub number_of : Value → ℕ
number_of NullValue = 0
number_of UninitValue = 0
number_of DanglingValue = 0
number_of (Cell k) = k

pub no_cell : (v : Value) (n : ℕ) → v ≡ Cell n → IsCell v
no_cell v n e = subst IsCell (sym e) tt

pub in_all : (d : Nodes) (i n : ℕ) (x : Node) → node_at d i ≡ Some x → IsIn n (numbers x) → IsIn n (all_numbers d)
in_all no_nodes i n x e h = absurd (none-some x e)
in_all (more y ns) zero n x e h = in_left n (numbers y) (all_numbers ns) (rw (sym (same_Some y x e)) at h)
in_all (more y ns) (suc i) n x e h = in_right n (numbers y) (all_numbers ns) (in_all ns i n x e h)

-- the cell of a root is the top of its tree
pub root_node : (d : Nodes) (r n : ℕ) → nth_value (roots_of d) r ≡ Cell n → (x : Node) × (node_at d r ≡ Some x)
    × IsIn n (numbers x)
root_node no_nodes r n h = absurd (no_cell DanglingValue n h)
root_node (more (node c s ds ps) ns) zero n h = (node c s ds ps, refl, inl (sym (ap number_of h)))
root_node (more y ns) (suc r) n h = root_node ns r n h

pub node_root : (d : Nodes) (r : ℕ) (x : Node) → node_at d r ≡ Some x → nth_value (roots_of d) r ≡ Cell (number x)
node_root no_nodes r x e = absurd (none-some x e)
node_root (more y ns) zero x e = ap (λ z. Cell (number z)) (same_Some y x e)
node_root (more y ns) (suc r) x e = node_root ns r x e

pub var_target : (vs : List Value) (ts : List Target) (n : ℕ) → IsIn (Cell n) (map (value_in vs) ts) → (r : ℕ)
    × IsIn (At r) ts × (nth_value vs r ≡ Cell n)
var_target vs [] n h = absurd h
var_target vs (Null ∷ ts) n (inl e) = absurd (no_cell NullValue n (sym e))
var_target vs (Uninit ∷ ts) n (inl e) = absurd (no_cell UninitValue n (sym e))
var_target vs (Dangling ∷ ts) n (inl e) = absurd (no_cell DanglingValue n (sym e))
var_target vs (At r ∷ ts) n (inl e) = (r, inl refl, sym e)
var_target vs (t ∷ ts) n (inr i) = let k = var_target vs ts n i in (k.0, inr k.1, k.2)

pub target_var : (vs : List Value) (ts : List Target) (r n : ℕ) → IsIn (At r) ts → nth_value vs r ≡ Cell n
    → IsIn (Cell n) (map (value_in vs) ts)
target_var vs [] r n h e = absurd h
target_var vs (t ∷ ts) r n (inl x) e = inl (sym e ∙ ap (value_in vs) x)
target_var vs (t ∷ ts) r n (inr i) e = inr (target_var vs ts r n i e)

pub top_in : (x : Node) → IsIn (number x) (numbers x)
top_in (node c s ds ps) = inl refl

pub same_or_not : (i j : ℕ) → (i ≡ j) ⊎ (i ≢ j)
same_or_not i j = go (nat_eq i j) refl
  where
    go : (b : Bool) → nat_eq i j ≡ b → (i ≡ j) ⊎ (i ≢ j)
    go true e = inl (eqb-true i j e)
    go false e = inr (λ x. true≢false (sym (eq-eqb i j x) ∙ e))

pub in_or_not : (n : ℕ) (xs : List ℕ) → IsIn n xs ⊎ (IsIn n xs → ⊥)
in_or_not n [] = inr (λ i. i)
in_or_not n (x ∷ xs) = elim (same_or_not n x) [
  | inl e ↦ inl (inl e)
  | inr e ↦ elim (in_or_not n xs) [
    | inl i ↦ inl (inr i)
    | inr i ↦ inr (λ h. elim h [ inl y ↦ e y | inr y ↦ i y ])
  ]
]

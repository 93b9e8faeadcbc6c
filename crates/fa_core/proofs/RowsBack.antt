-- Worked values of the definitions with boxes: ways back into trees of a doubly linked list, roots of kind 3, the walk
-- on, and small boxes.
use Rattle.std.proofs.Common.{◌≡◌, ◌≢◌, ◌<◌, ◌≤◌, ◌⊎◌, inl, inr, ℕ, zero, suc, true, true≢false, List, [], ◌∷◌, map}
use Rattle.std.proofs.Common.{length, refl, sym, ap, subst, ◌∙◌, Some, slice_get, arith, flat_map}
use Rattle.std.proofs.lemmas.Option.{none-some, same_Some}
use Rattle.fore_base.specs.Lists.{IsIn}
use Rattle.fore_base.specs.declared.store.Value.{Value}
use Rattle.fore_base.specs.declared.store.Value.TheVariants.{Null as NullValue, Uninit as UninitValue}
use Rattle.fore_base.specs.declared.store.Value.TheVariants.{Dangling as DanglingValue, Cell as CellValue}
use Rattle.ta_core.specs.declared.symbol.Slot.{Slot}
use Rattle.ta_core.specs.declared.symbol.Slot.TheVariants.{Field, Link}
use Rattle.ta_core.specs.declared.symbol.Symbol.TheVariants.{Null, Ref, Cell}
use Rattle.ta_core.specs.declared.tree.Tree.{Tree, Tree-F, roll-Tree, fold-roll-Tree}
use Rattle.fa_core.specs.declared.faces.BoxFace.{BoxFace}
use Rattle.fa_core.specs.declared.forest.Target.{Target}
use Rattle.fa_core.specs.declared.forest.Target.TheVariants.{At}
use Rattle.fa_core.specs.declared.signature.RefMark.{RefMark}
use Rattle.fa_core.specs.Boxes.{Reaches, named, through, heads}
use Rattle.fa_core.specs.Canonical.{RefersTo, LeadsBack, IsLedTo, GoesOn, IsOpen, provides}
use Rattle.fa_core.specs.Dressed.{Nodes, node, no_parts, field, link, under, leaf, no_nodes, more, Fact, Head, Points}
use Rattle.fa_core.specs.Dressed.{inside_facts}
use Rattle.fa_core.specs.Ways.{Way, Step, ways, ways_at, leads_back, led_to, given, to_root, signature}

-- Fields next, prev and x are 0, 1 and 2. The one box, dll, leads from next of its input to prev of its output, and
-- back.
abbrev pub dll : List BoxFace
dll = record { input = 0; output = Some 0; gives_in = 0 ∷ []; gives_out = 1 ∷ []; back = true } ∷ []

abbrev pub ref : ℕ → Tree
ref r = roll-Tree (record { symbol = Ref r; children = [] })

abbrev pub null : Tree
null = roll-Tree (record { symbol = Null; children = [] })

abbrev pub cell : List Slot → List Tree → Tree
cell ss ts = roll-Tree (record { symbol = Cell 0 [] ss; children = ts })

pub opened : (x : Tree-F Tree) → ways (roll-Tree x) ≡ ways_at x.symbol (map ways x.children)
opened x = fold-roll-Tree (List Way) (λ t. ways_at t.symbol t.children) x

-- A variable is at root 0, whose prev an edge of tree 1 gives. Below the top of tree 1 stand two further cells. In
-- forest V the lowest of them, at which the edge begins, refers to root 1; in forest U the middle one does.

abbrev pub root_cell : Tree
root_cell = cell (Field 0 ∷ Field 2 ∷ []) (null ∷ null ∷ [])

abbrev v_low : Tree
v_low = cell (Link 0 ∷ Field 1 ∷ Field 2 ∷ []) (ref 0 ∷ ref 1 ∷ null ∷ [])

abbrev pub v_tree : Tree
v_tree = cell (Field 0 ∷ Field 1 ∷ Field 2 ∷ [])
    (cell (Field 0 ∷ Field 1 ∷ Field 2 ∷ []) (v_low ∷ null ∷ null ∷ []) ∷ null ∷ null ∷ [])

abbrev pub v_trees : List Tree
v_trees = root_cell ∷ v_tree ∷ []

abbrev u_low : Tree
u_low = cell (Link 0 ∷ Field 1 ∷ Field 2 ∷ []) (ref 0 ∷ null ∷ null ∷ [])

abbrev pub u_tree : Tree
u_tree = cell (Field 0 ∷ Field 1 ∷ Field 2 ∷ [])
    (cell (Field 0 ∷ Field 1 ∷ Field 2 ∷ []) (u_low ∷ ref 1 ∷ null ∷ []) ∷ null ∷ null ∷ [])

abbrev pub u_trees : List Tree
u_trees = root_cell ∷ u_tree ∷ []

abbrev step : Slot → Step
step s = record { slot = s; refers = 0 ∷ 1 ∷ [] }

abbrev v_back : Way
v_back = record { root = 0; steps = step (Field 0) ∷ step (Field 0) ∷ step (Link 0) ∷ [] }

abbrev v_own : Way
v_own = record { root = 1; steps = step (Field 0) ∷ step (Field 0) ∷ step (Field 1) ∷ [] }

abbrev u_back : Way
u_back = record { root = 0; steps = step (Field 0) ∷ step (Field 0) ∷ record { slot = Link 0; refers = 0 ∷ [] } ∷ [] }

abbrev u_own : Way
u_own = record { root = 1; steps = step (Field 0) ∷ step (Field 1) ∷ [] }

pub v_ways : ways v_tree ≡ v_back ∷ v_own ∷ []
v_ways = simp opened

pub u_ways : ways u_tree ≡ u_back ∷ u_own ∷ []
u_ways = simp opened

pub no_ways : ways root_cell ≡ []
no_ways = simp opened

one_zero : suc zero ≡ zero → ⊥
one_zero e = omega (arith, e)

-- in V the way back from root 0 ends at the lowest cell, and that cell refers to root 1
v_led : LeadsBack dll v_trees 0 1 1
v_led = (v_tree, refl, (v_back, rw v_ways (inl refl), refl, inr (inr (inl refl))))

-- so root 1 of V is of kind 3
pub v_kind : IsLedTo dll (At 0 ∷ []) v_trees 1
v_kind = record {
  no_var = λ i. elim i [ inl e ↦ one_zero (ap index e) | inr e ↦ e ];
  alone = only;
  from = 0;
  other = λ e. one_zero (sym e);
  led = v_led;
}
  where
    index : Target → ℕ
    index (At k) = k
    index t = 0

    only : (j : ℕ) (u : Tree) → slice_get v_trees j ≡ Some u → j ≢ 1 → RefersTo u 1 → ⊥
    only zero u e n i = rw no_ways at (subst (λ (y : Tree). RefersTo y 1) (sym (same_Some root_cell u e)) i)
    only (suc zero) u e n i = absurd (n refl)
    only (suc (suc j)) u e n i = absurd (none-some u e)

-- in U the way back ends at the lowest cell too, and that does not refer to root 1: no way back from root 0 leads there
pub u_not_led : LeadsBack dll u_trees 0 1 1 → ⊥
u_not_led l =
    let there : IsIn l.2.0 (u_back ∷ u_own ∷ []) =
    rw u_ways at (subst (λ (y : Tree). IsIn l.2.0 (ways y)) (sym (same_Some u_tree l.0 l.1)) l.2.1) in
    go l.2.0 there l.2.2 l.2.3
  where
    go : (w : Way) → IsIn w (u_back ∷ u_own ∷ []) → w.root ≡ 0 → (◌≡◌ {A = ℕ} 1 1 × (leads_back dll w.steps ≡ true))
        ⊎ IsIn 1 (led_to dll w.steps) → ⊥
    go w (inl e) r (inl b) = true≢false (sym (rw e at b.1))
    go w (inl e) r (inr b) = elim (rw e at b) [ inl x ↦ one_zero x | inr x ↦ x ]
    go w (inr (inl e)) r b = one_zero (rw e at r)
    go w (inr (inr e)) r b = e

-- a forest with both trees has two signatures in one component: it is not well formed
abbrev reaches : List RefMark → List (List ℕ)
reaches ms = map (λ (m : RefMark). m.reach) ms

u_sign : reaches (signature dll u_tree) ≡ (0 ∷ []) ∷ [] ∷ []
u_sign = rw u_ways refl

v_sign : reaches (signature dll v_tree) ≡ (0 ∷ 1 ∷ []) ∷ [] ∷ []
v_sign = rw v_ways refl

abbrev longs : List (List ℕ) → ℕ
longs [] = 0
longs (x ∷ xs) = length x

two_signatures : signature dll u_tree ≡ signature dll v_tree → ⊥
two_signatures e = let f = ap longs (sym u_sign ∙ ap reaches e ∙ v_sign) in omega (arith, f)

-- the walk over V places root 0 by the variable, and goes on from root 1
pub v_goes_on : GoesOn dll v_trees 1
v_goes_on = record {
  from = 0;
  into = 1;
  open_way = (1, omega arith, omega arith, v_led);
  lowest = λ i j o. omega arith;
  field = 1;
  provided = (v_tree, refl, rw v_ways (inl refl));
  least = only;
  own_first = λ l w. refl;
  then_list = λ h t e. absurd (one_one (h v_led));
}
  where
    one_one : 1 < 1 → ⊥
    one_one h = omega (arith, h)

    only : (j f : ℕ) → IsOpen dll v_trees 1 0 j → provides dll v_trees 0 j f → 1 ≤ f
    only zero f o p = absurd
        (rw no_ways at
        (subst (λ (y : Tree). IsIn f (flat_map (λ (w : Way). given dll w.steps) (to_root 0 (ways y))))
        (sym (same_Some root_cell p.0 p.1)) p.2))
    only (suc zero) f o p = go
        (rw v_ways at
        (subst (λ (y : Tree). IsIn f (flat_map (λ (w : Way). given dll w.steps) (to_root 0 (ways y))))
        (sym (same_Some v_tree p.0 p.1)) p.2))
      where
        go : IsIn f (1 ∷ []) → 1 ≤ f
        go (inl e) = omega (arith, e)
        go (inr e) = absurd e
    only (suc (suc j)) f o p = absurd (none-some p.0 p.1)

-- Small boxes: what their insides are worth between any ports.

abbrev number_of : Value → ℕ
number_of (CellValue n) = n
number_of NullValue = 0
number_of UninitValue = 0
number_of DanglingValue = 0

abbrev pub fact_value : Fact → Value
fact_value (Head c s ds) = NullValue
fact_value (Points c f v) = v

-- dll: from the input to the output and back
abbrev pub dll_inside : ℕ → ℕ → Nodes
dll_inside a b = more (node a 0 [] (field 0 (leaf (At 1)) no_parts))
    (more (node b 0 [] (field 1 (leaf (At 0)) no_parts)) no_nodes)

pub dll_down : (a b c m : ℕ)
    → Reaches (CellValue c ∷ []) (inside_facts (CellValue c ∷ (CellValue m ∷ [])) (dll_inside a b)) m
dll_down a b c m = through c 0 (named (inl refl)) (inl refl)

pub dll_up : (a b c m : ℕ)
    → Reaches (CellValue m ∷ []) (inside_facts (CellValue c ∷ (CellValue m ∷ [])) (dll_inside a b)) c
dll_up a b c m = through m 1 (named (inl refl)) (inr (inl refl))

-- a box of one field does not lead back between different cells
abbrev pub one_inside : ℕ → ℕ → Nodes
one_inside a b = more (node a 0 [] (field 0 (leaf (At 1)) no_parts)) (more (node b 0 [] no_parts) no_nodes)

one_stays : (a b c m n : ℕ)
    → Reaches (CellValue m ∷ []) (inside_facts (CellValue c ∷ (CellValue m ∷ [])) (one_inside a b)) n → n ≡ m
one_stays a b c m n (named (inl e)) = ap number_of e
one_stays a b c m n (named (inr e)) = absurd e
one_stays a b c m n (through k f h (inl e)) = ap number_of (ap fact_value e)
one_stays a b c m n (through k f h (inr e)) = absurd e

pub one_never : (a b c m : ℕ) → c ≢ m
    → Reaches (CellValue m ∷ []) (inside_facts (CellValue c ∷ (CellValue m ∷ [])) (one_inside a b)) c → ⊥
one_never a b c m ne h = ne (one_stays a b c m c h)

-- where it ends in Dangling, its one field is Dangling
one_dangling : (a b c : ℕ) → inside_facts (CellValue c ∷ (DanglingValue ∷ [])) (one_inside a b)
    ≡ Points c 0 DanglingValue ∷ []
one_dangling a b c = refl

-- a box over that box: an inner cell between two edges is reached from the input, and from it the output
abbrev two_inside : (a b n a1 b1 a2 b2 : ℕ) → Nodes
two_inside a b n a1 b1 a2 b2 =
    more
    (node a 0 []
    (link 0 (one_inside a1 b1) (under (node n 0 [] (link 0 (one_inside a2 b2) (leaf (At 1)) no_parts))) no_parts))
    (more (node b 0 [] no_parts) no_nodes)

two_heads : (a b n a1 b1 a2 b2 c m : ℕ)
    → heads (inside_facts (CellValue c ∷ (CellValue m ∷ [])) (two_inside a b n a1 b1 a2 b2)) ≡ n ∷ []
two_heads a b n a1 b1 a2 b2 c m = refl

two_inner : (a b n a1 b1 a2 b2 c m : ℕ)
    → Reaches (CellValue c ∷ []) (inside_facts (CellValue c ∷ (CellValue m ∷ [])) (two_inside a b n a1 b1 a2 b2)) n
two_inner a b n a1 b1 a2 b2 c m = through c 0 (named (inl refl)) (inl refl)

two_down : (a b n a1 b1 a2 b2 c m : ℕ)
    → Reaches (CellValue c ∷ []) (inside_facts (CellValue c ∷ (CellValue m ∷ [])) (two_inside a b n a1 b1 a2 b2)) m
two_down a b n a1 b1 a2 b2 c m = through n 0 (two_inner a b n a1 b1 a2 b2 c m) (inr (inr (inl refl)))

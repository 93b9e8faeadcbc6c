-- Which forests show what an edge needs: one component, whose cell has a pointer field, at which variable 0 is.
use Rattle.std.proofs.Common.{◌≡◌, ◌≢◌, inl, inr, ℕ, zero, suc, List, [], ◌∷◌, refl, sym, ap, subst, ◌∙◌, Option, Some}
use Rattle.std.proofs.Common.{None, slice_get, arith}
use Rattle.std.proofs.lemmas.Option.{none-some, same_Some}
use Rattle.fore_base.specs.Lists.{IsIn}
use Rattle.fore_base.specs.declared.shape.FieldKind.TheVariants.{Pointer}
use Rattle.fore_base.specs.declared.shape.Shape.{Shape}
use Rattle.ta_core.specs.Auto.{automaton}
use Rattle.ta_core.specs.Single.{HasOneTop}
use Rattle.ta_core.specs.declared.auto.Rule.{Rule}
use Rattle.ta_core.specs.declared.symbol.Slot.{Slot}
use Rattle.ta_core.specs.declared.symbol.Slot.TheVariants.{Field, Link}
use Rattle.ta_core.specs.declared.symbol.Symbol.{Symbol}
use Rattle.ta_core.specs.declared.symbol.Symbol.TheVariants.{Null as NullSymbol, Uninit as UninitSymbol, Cell}
use Rattle.fa_core.specs.Member.{leaf_symbol}
use Rattle.fa_core.specs.declared.forest.Forest.{Forest}
use Rattle.fa_core.specs.declared.forest.Target.{Target}
use Rattle.fa_core.specs.declared.forest.Target.TheVariants.{Null, Uninit, At}
use Rattle.fa_merge.specs.Reordered.{component_at}
use Rattle.fa_edit.specs.Plain.{IsLeafPlace, IsPlainAt}
use Rattle.c_cfg.specs.declared.graph.Instr.{Instr}
use Rattle.c_cfg.specs.declared.graph.Instr.TheVariants.{CopyPtr, LoadPtr, Free}
use Rattle.c_cfg.specs.declared.graph.PtrArg.TheVariants.{Null as PtrNull}
use Rattle.sym_core.specs.Explicit.{target_at, IsExplicit}
use Rattle.sym_core.specs.Kept.{Needs, base_of}

-- struct 0 has one pointer field, and struct 1 none
abbrev structs : List Shape
structs =
    record { name = []; fields = record { name = []; kind = Pointer 0 } ∷ [] } ∷ record { name = []; fields = [] } ∷ []

abbrev leaf_rule : Symbol → Rule
leaf_rule y = record { state = 1; symbol = y; children = [] }

abbrev top_rule : Symbol → Rule
top_rule y = record { state = 0; symbol = y; children = 1 ∷ [] }

-- the symbol at the top of the one root, and the rules behind it; variable 0 is at the root, variable 1 is null
abbrev forest : Symbol → List Rule → Forest
forest y rs =
    record {
      autos = automaton 2 (0 ∷ []) (top_rule y ∷ rs) ∷ [];
      vars = At 0 ∷ Null ∷ [];
      data_vars = [];
    }

abbrev cell : Slot → Symbol
cell s = Cell 0 [] (s ∷ [])

-- field 0 is null; it is null or uninitialised; a box edge covers it; the struct has it not
abbrev null_field : Forest
null_field = forest (cell (Field 0)) (leaf_rule NullSymbol ∷ [])

abbrev two_leaves : Forest
two_leaves = forest (cell (Field 0)) (leaf_rule NullSymbol ∷ leaf_rule UninitSymbol ∷ [])

abbrev covered : Forest
covered = forest (cell (Link 0)) (leaf_rule NullSymbol ∷ [])

abbrev without : Forest
without =
    record {
      autos = automaton 1 (0 ∷ []) (record { state = 0; symbol = Cell 1 [] []; children = [] } ∷ []) ∷ [];
      vars = At 0 ∷ Null ∷ [];
      data_vars = [];
    }

-- two rules stand at the top
abbrev two_tops : Forest
two_tops = forest (cell (Field 0)) (top_rule (cell (Field 0)) ∷ leaf_rule NullSymbol ∷ [])

-- to = base->field, free(base), to = NULL
abbrev load : ℕ → Instr
load base = LoadPtr 5 base 0

-- Variables.

at_root : target_at null_field 0 ≡ At 0
at_root = refl

is_null : target_at null_field 1 ≡ Null
is_null = refl

is_none : target_at null_field 2 ≡ Uninit
is_none = refl

-- Which roots have one rule.

other_state : (y : Symbol) (r : Rule) → leaf_rule y ≡ r → r.state ≡ 0 → ⊥
other_state y r e s = let z : 1 ≡ 0 = ap (λ (x : Rule). x.state) e ∙ s in omega (arith, z)

one_top : (s : Slot) → HasOneTop (component_at (forest (cell s) (leaf_rule NullSymbol ∷ [])).autos 0)
one_top s =
    record { root = 0; alone = refl; place = 0; rule = top_rule (cell s); there = refl; top = refl; only = only }
  where
    only : (i : ℕ) (r : Rule) → slice_get (top_rule (cell s) ∷ leaf_rule NullSymbol ∷ []) i ≡ Some r → r.state ≡ 0
        → i ≡ 0
    only zero r e t = refl
    only (suc zero) r e t = absurd (other_state NullSymbol r (same_Some (leaf_rule NullSymbol) r e) t)
    only (suc (suc i)) r e t = absurd (none-some r e)

one_cell : HasOneTop (component_at without.autos 0)
one_cell =
    record {
      root = 0;
      alone = refl;
      place = 0;
      rule = record { state = 0; symbol = Cell 1 [] []; children = [] };
      there = refl;
      top = refl;
      only = only;
    }
  where
    only : (i : ℕ) (r : Rule) → slice_get (record { state = 0; symbol = Cell 1 [] []; children = [] } ∷ []) i ≡ Some r
        → r.state ≡ 0 → i ≡ 0
    only zero r e t = refl
    only (suc i) r e t = absurd (none-some r e)

abbrev root_of : Target → ℕ
root_of (At r) = r
root_of t = 9

-- the one root at which a variable is
at_zero : (r : ℕ) → IsIn (At r) (At 0 ∷ Null ∷ []) → 0 ≡ r
at_zero r (inl e) = ap root_of (sym e)
at_zero r (inr (inl e)) = absurd (let z : 1 ≡ 0 = ap kind e in omega (arith, z))
  where
    kind : Target → ℕ
    kind (At r) = 1
    kind t = 0
at_zero r (inr (inr z)) = absurd z

-- Shown.

abbrev base_is : Option ℕ → ℕ
base_is None = 9
base_is (Some b) = b

null_there : IsLeafPlace null_field 0 0 Null
null_there = record { there = (leaf_rule NullSymbol, inr (inl refl), refl); only = λ x i s. only x i s }
  where
    only : (x : Rule) → IsIn x (top_rule (cell (Field 0)) ∷ leaf_rule NullSymbol ∷ []) → x.state ≡ 1
        → x.symbol ≡ NullSymbol
    only x (inl e) s = absurd (let z : 0 ≡ 1 = sym (ap (λ (r : Rule). r.state) e) ∙ s in omega (arith, z))
    only x (inr (inl e)) s = ap (λ (r : Rule). r.symbol) e
    only x (inr (inr z)) s = absurd z

plain_null : IsPlainAt structs null_field 0 0
plain_null =
    record {
      root = omega arith;
      top = one_top (Field 0);
      leaf = λ p e. (Null, subst (λ (n : ℕ). IsLeafPlace null_field 0 n Null) (same_Some 0 p e) null_there);
      lacks = λ e. absurd (none-some 0 (sym e));
    }

null_is_shown : IsExplicit structs null_field (load 0)
null_is_shown =
    record {
      tops = λ r i. subst (λ (n : ℕ). HasOneTop (component_at null_field.autos n)) (at_zero r i) (one_top (Field 0));
      plain = λ b r f e t n. shown b r f (ap base_is e) t n;
    }
  where
    shown : (b r f : ℕ) → 0 ≡ b → target_at null_field b ≡ At r → f ≡ 0 → IsPlainAt structs null_field r f
    shown b r f e t n =
        let q : 0 ≡ r = ap root_of (ap (λ (x : ℕ). target_at null_field x) e ∙ t) in
        subst (λ (z : ℕ). IsPlainAt structs null_field z f) q
        (subst (λ (z : ℕ). IsPlainAt structs null_field 0 z) (sym n) plain_null)

-- a struct without the field shows that
nothing_there : IsExplicit structs without (load 0)
nothing_there =
    record {
      tops = λ r i. subst (λ (n : ℕ). HasOneTop (component_at without.autos n)) (at_zero r i) one_cell;
      plain = λ b r f e t n. shown b r f (ap base_is e) t n;
    }
  where
    shown : (b r f : ℕ) → 0 ≡ b → target_at without b ≡ At r → f ≡ 0 → IsPlainAt structs without r f
    shown b r f e t n =
        let q : 0 ≡ r = ap root_of (ap (λ (x : ℕ). target_at without x) e ∙ t) in
        subst (λ (z : ℕ). IsPlainAt structs without z f) q
        (record {
          root = omega arith;
          top = one_cell;
          leaf = λ p h. absurd (none-some p h);
          lacks = λ h. refl;
        })

-- Not shown.

-- two leaves may stand in the field
abbrev kind_of : Symbol → ℕ
kind_of NullSymbol = 0
kind_of UninitSymbol = 1
kind_of y = 2

two_are_not_shown : IsExplicit structs two_leaves (load 0) → ⊥
two_are_not_shown h =
    let l = (h.plain 0 0 0 refl refl refl).leaf 0 refl in
    let a : NullSymbol ≡ leaf_symbol l.0 = l.1.only (leaf_rule NullSymbol) (inr (inl refl)) refl in
    let b : UninitSymbol ≡ leaf_symbol l.0 = l.1.only (leaf_rule UninitSymbol) (inr (inr (inl refl))) refl in
    let z : 0 ≡ 1 = ap kind_of (a ∙ sym b) in
    omega (arith, z)

freed_with_two : IsExplicit structs two_leaves (Free 0) → ⊥
freed_with_two h =
    let l = (h.plain 0 0 0 refl refl tt).leaf 0 refl in
    let a : NullSymbol ≡ leaf_symbol l.0 = l.1.only (leaf_rule NullSymbol) (inr (inl refl)) refl in
    let b : UninitSymbol ≡ leaf_symbol l.0 = l.1.only (leaf_rule UninitSymbol) (inr (inr (inl refl))) refl in
    let z : 0 ≡ 1 = ap kind_of (a ∙ sym b) in
    omega (arith, z)

-- a box edge covers the field: the struct has it, and no slot
covered_is_not_shown : IsExplicit structs covered (load 0) → ⊥
covered_is_not_shown h = none-some 0 (sym ((h.plain 0 0 0 refl refl refl).lacks refl))

covered_is_not_freed : IsExplicit structs covered (Free 0) → ⊥
covered_is_not_freed h = none-some 0 (sym ((h.plain 0 0 0 refl refl tt).lacks refl))

-- what is not needed need not be shown: at no root nothing is read
covered_at_null : IsExplicit structs covered (load 1)
covered_at_null =
    record {
      tops = λ r i. subst (λ (n : ℕ). HasOneTop (component_at covered.autos n)) (at_zero r i) (one_top (Link 0));
      plain = λ b r f e t n. absurd (none b r (ap base_is e) t);
    }
  where
    kind : Target → ℕ
    kind (At r) = 1
    kind t = 0

    none : (b r : ℕ) → 1 ≡ b → target_at covered b ≡ At r → ⊥
    none b r e t = let z : 0 ≡ 1 = ap kind (ap (λ (x : ℕ). target_at covered x) e ∙ t) in omega (arith, z)

-- each root of a variable has one rule, whatever the edge needs
two_tops_are_not_shown : IsExplicit structs two_tops (CopyPtr 1 PtrNull) → ⊥
two_tops_are_not_shown h =
    let o = h.tops 0 (inl refl) in
    let root : 0 ≡ o.root = same_root o.root o.alone in
    let a : 0 ≡ o.place = o.only 0 (top_rule (cell (Field 0))) refl root in
    let b : 1 ≡ o.place = o.only 1 (top_rule (cell (Field 0))) refl root in
    omega (arith, a, b)
  where
    first : List ℕ → ℕ
    first [] = 9
    first (x ∷ xs) = x

    same_root : (r : ℕ) → 0 ∷ [] ≡ r ∷ [] → 0 ≡ r
    same_root r e = ap first e

-- The component of a new cell has one tree, and its dressed trees are the new cells.
use Rattle.std.proofs.Common.{◌≡◌, inl, inr, ℕ, zero, suc, ◌<◌, ◌+◌, ◌-◌, Bool, true, false, true≢false, length}
use Rattle.std.proofs.Common.{replicate, List, [], ◌∷◌, ◌++◌, refl, sym, ap, ap₂, subst, ◌∙◌, append_assoc, arith}
use Rattle.fore_base.specs.Lists.{IsIn, Every}
use Rattle.fore_base.specs.Shapes.{targets_of, datums_of}
use Rattle.fore_base.specs.declared.shape.Shape.{Shape}
use Rattle.fore_base.specs.declared.store.Datum.{Datum}
use Rattle.fore_base.specs.declared.store.Datum.TheVariants.{Undefined}
use Rattle.ta_core.specs.Arity.{child_slots}
use Rattle.ta_core.specs.Auto.{Automaton, IsRanked}
use Rattle.ta_core.specs.Language.{RunOf, run, RunEach, run_none, run_more, InLanguage}
use Rattle.ta_core.specs.declared.auto.Rule.{Rule}
use Rattle.ta_core.specs.declared.symbol.Slot.{Slot}
use Rattle.ta_core.specs.declared.symbol.Slot.TheVariants.{Field, Link, Hook}
use Rattle.ta_core.specs.declared.symbol.Symbol.{Symbol}
use Rattle.ta_core.specs.declared.symbol.Symbol.TheVariants.{Null as NullSymbol, Uninit as UninitSymbol}
use Rattle.ta_core.specs.declared.symbol.Symbol.TheVariants.{Dangling as DanglingSymbol, Ref, Cell}
use Rattle.ta_core.specs.declared.tree.Tree.{Tree, out-Tree, roll-Tree, out-roll-Tree, roll-out-Tree}
use Rattle.fa_core.specs.declared.boxes.BoxDef.{BoxDef}
use Rattle.fa_core.specs.declared.faces.BoxFace.{BoxFace}
use Rattle.fa_core.specs.declared.forest.Target.TheVariants.{Uninit}
use Rattle.fa_core.specs.Boxless.{IsField, HasNoBoxes}
use Rattle.fa_core.specs.Dressed.{Node, Parts, End, node, no_parts, field, link, hook, leaf, number}
use Rattle.fa_core.specs.Filled.{HasSignatures, HasSome}
use Rattle.fa_core.specs.Folding.{symbol_slots}
use Rattle.fa_core.specs.Member.{InsidesOfParts, bare, bare_parts, bare_end, slots_of}
use Rattle.fa_core.specs.Ways.{signature}
use Rattle.fa_core.proofs.Dressing.{cell_top}
use Rattle.fa_edit.specs.Cells.{blank_parts, new_node}
use Rattle.fa_edit.specs.Data.{symbol_datums}
use Rattle.fa_edit.specs.Plain.{IsOnlyLeaf}
use Rattle.fa_edit.specs.inner.News.{field_slots, blank_symbol, blank_rule, uninit_rule, blank}
use Rattle.fa_edit.proofs.PlainFields.{only_runs, runs_only}
use Rattle.fa_split.proofs.Places.{cell_children, end_is_leaf}

-- Slots and children.

abbrev uninit : Tree
uninit = bare_end (leaf Uninit)

pub blank_slots : (k n : ℕ) → slots_of (blank_parts k n) ≡ field_slots k n
blank_slots k zero = refl
blank_slots k (suc n) = ap (λ (ss : List Slot). Field k ∷ ss) (blank_slots (suc k) n)

blank_children : (k n : ℕ) → bare_parts (blank_parts k n) ≡ replicate n uninit
blank_children k zero = refl
blank_children k (suc n) = ap (λ (ts : List Tree). uninit ∷ ts) (blank_children (suc k) n)

pub blank_insides : (T : List BoxDef) (k n : ℕ) → InsidesOfParts T (blank_parts k n)
blank_insides T k zero = tt
blank_insides T k (suc n) = (tt, blank_insides T (suc k) n)

abbrev slot_field : List Slot → ℕ
slot_field [] = 0
slot_field (Field f ∷ ss) = f
slot_field (Link b ∷ ss) = 0
slot_field (Hook b ∷ ss) = 0

abbrev is_field_first : List Slot → Bool
is_field_first [] = false
is_field_first (Field f ∷ ss) = true
is_field_first (Link b ∷ ss) = false
is_field_first (Hook b ∷ ss) = false

abbrev later_slots : List Slot → List Slot
later_slots [] = []
later_slots (s ∷ ss) = ss

abbrev is_empty : List Slot → Bool
is_empty [] = true
is_empty (s ∷ ss) = false

abbrev first_tree : List Tree → Tree
first_tree [] = uninit
first_tree (t ∷ ts) = t

abbrev later_trees : List Tree → List Tree
later_trees [] = []
later_trees (t ∷ ts) = ts

abbrev first_state : List ℕ → ℕ
first_state [] = 0
first_state (q ∷ qs) = q

abbrev later_states : List ℕ → List ℕ
later_states [] = []
later_states (q ∷ qs) = qs

abbrev no_states : List ℕ → Bool
no_states [] = true
no_states (q ∷ qs) = false

parts_are : (k n : ℕ) (ps : Parts) → slots_of ps ≡ field_slots k n → bare_parts ps ≡ replicate n uninit
    → ps ≡ blank_parts k n
parts_are k zero no_parts e h = refl
parts_are k zero (field g x ps) e h = absurd (true≢false (sym (ap is_empty e)))
parts_are k zero (link b i x ps) e h = absurd (true≢false (sym (ap is_empty e)))
parts_are k zero (hook b i ps) e h = absurd (true≢false (sym (ap is_empty e)))
parts_are k (suc n) no_parts e h = absurd (true≢false (ap is_empty e))
parts_are k (suc n) (field g x ps) e h =
    ap₂ (λ (f : ℕ) (y : End). field f y ps) (ap slot_field e) (end_is_leaf x Uninit (ap first_tree h))
    ∙ ap (field k (leaf Uninit)) (parts_are (suc k) n ps (ap later_slots e) (ap later_trees h))
parts_are k (suc n) (link b i x ps) e h = absurd (true≢false (sym (ap is_field_first e)))
parts_are k (suc n) (hook b i ps) e h = absurd (true≢false (sym (ap is_field_first e)))

-- one slot more
pub slots_more : (k n : ℕ) (xs : List Slot) → k < n → (xs ++ Field k ∷ []) ++ field_slots (k + 1) (n - (k + 1)) ≡ xs
    ++ field_slots k (n - k)
slots_more k n xs l =
    let e : n - k ≡ suc (n - (k + 1)) = omega (arith, l) in
    let m : suc k ≡ k + 1 = omega arith in
    append_assoc xs (Field k ∷ []) (field_slots (k + 1) (n - (k + 1)))
    ∙ ap (λ (j : ℕ). xs ++ Field k ∷ field_slots j (n - (k + 1))) (sym m)
    ∙ ap (λ (j : ℕ). xs ++ field_slots k j) (sym e)

fields_only : (k n : ℕ) → Every IsField (field_slots k n)
fields_only k zero = tt
fields_only k (suc n) = (tt, fields_only (suc k) n)

slots_count : (k n : ℕ) → n ≡ child_slots (field_slots k n)
slots_count k zero = refl
slots_count k (suc n) = let e = slots_count (suc k) n in omega (arith, e)

low_states : (n : ℕ) → Every (λ q. q < 2) (replicate n 1)
low_states zero = tt
low_states (suc n) = (omega arith, low_states n)

states_count : (n : ℕ) → length {A = ℕ} (replicate n 1) ≡ n
states_count zero = refl
states_count (suc n) = ap (λ (k : ℕ). suc k) (states_count n)

module _ (hs : List Shape) (shape : ℕ) where
  abbrev pub size : ℕ
  size = length (targets_of hs shape)

  abbrev a : Automaton
  a = blank hs shape

  -- the one tree
  abbrev pub blank_tree : Tree
  blank_tree = roll-Tree (record { symbol = blank_symbol hs shape; children = replicate size uninit })

  pub blank_ranked : IsRanked a
  blank_ranked = (
    (omega arith, tt),
    ((omega arith, low_states size, states_count size ∙ slots_count 0 size), ((omega arith, tt, refl), tt)),
  )

  pub blank_plain : HasNoBoxes a
  blank_plain = (fields_only 0 size, (tt, tt))

  only_uninit : IsOnlyLeaf a.rules 1 Uninit
  only_uninit = record { there = (uninit_rule, inr (inl refl), refl); only = one }
    where
      one : (x : Rule) → IsIn x a.rules → x.state ≡ 1 → x.symbol ≡ UninitSymbol
      one x (inl e) s = absurd (let w : x.state ≡ 0 = ap (λ (y : Rule). y.state) e in omega (arith, w, s))
      one x (inr (inl e)) s = ap (λ (y : Rule). y.symbol) e
      one x (inr (inr e)) s = absurd e

  each_uninit : (n : ℕ) {qs : List ℕ} {ts : List Tree} → qs ≡ replicate n 1 → RunEach a.rules qs ts
      → ts ≡ replicate n uninit
  each_uninit zero e run_none = refl
  each_uninit zero e (run_more h k) = absurd (true≢false (sym (ap no_states e)))
  each_uninit (suc n) e run_none = absurd (true≢false (ap no_states e))
  each_uninit (suc n) e (run_more {q = q} {qs = qs} {t = t} {ts = ts} h k) =
      ap₂ (λ (u : Tree) (us : List Tree). u ∷ us)
      (runs_only a blank_ranked 1 Uninit only_uninit t (subst (λ (m : ℕ). RunOf a.rules m t) (ap first_state e) h))
      (each_uninit n (ap later_states e) k)

  uninit_each : (n : ℕ) → RunEach a.rules (replicate n 1) (replicate n uninit)
  uninit_each zero = run_none
  uninit_each (suc n) = run_more (only_runs a blank_ranked 1 Uninit only_uninit) (uninit_each n)

  -- what runs to state 0 is that tree, and what runs to another is the leaf
  top_is : (q : ℕ) (t : Tree) → q ≡ 0 → RunOf a.rules q t → t ≡ blank_tree
  top_is q t z (run x (inl e) s y k) =
      sym (roll-out-Tree t)
      ∙ ap₂ (λ (v : Symbol) (ts : List Tree). roll-Tree (record { symbol = v; children = ts }))
      (sym y ∙ ap (λ (o : Rule). o.symbol) e)
      (each_uninit size refl (subst (λ (o : Rule). RunEach a.rules o.children (out-Tree t).children) e k))
  top_is q t z (run x (inr (inl e)) s y k) =
      absurd (let w : x.state ≡ 1 = ap (λ (o : Rule). o.state) e in omega (arith, w, s, z))
  top_is q t z (run x (inr (inr e)) s y k) = absurd e

  other_is : (q : ℕ) (t : Tree) → 0 < q → RunOf a.rules q t → t ≡ uninit
  other_is q t z (run x (inl e) s y k) =
      absurd (let w : x.state ≡ 0 = ap (λ (o : Rule). o.state) e in omega (arith, w, s, z))
  other_is q t z (run x (inr (inl e)) s y k) =
      let w : x.state ≡ 1 = ap (λ (o : Rule). o.state) e in
      let one : q ≡ 1 = omega (arith, w, s) in
      runs_only a blank_ranked 1 Uninit only_uninit t
      (subst (λ (n : ℕ). RunOf a.rules n t) one (run x (inr (inl e)) s y k))
  other_is q t z (run x (inr (inr e)) s y k) = absurd e

  one_zero : (q : ℕ) → IsIn q (0 ∷ []) → q ≡ 0
  one_zero q (inl e) = e
  one_zero q (inr e) = absurd e

  pub tree_is : (t : Tree) → InLanguage a t → t ≡ blank_tree
  tree_is t (q, i, w) = top_is q t (one_zero q i) w

  pub is_tree : InLanguage a blank_tree
  is_tree = (
    0,
    inl refl,
    run (blank_rule hs shape) (inl refl) refl
        (rw (out-roll-Tree (record { symbol = blank_symbol hs shape; children = replicate size uninit })) refl)
        (rw (out-roll-Tree (record { symbol = blank_symbol hs shape; children = replicate size uninit }))
        (uninit_each size)),
  )

  pub blank_some : HasSome a
  blank_some = (blank_tree, is_tree)

  pub blank_signed : (bs : List BoxFace) → HasSignatures bs a
  blank_signed bs = record {
    states = states;
    component = λ t u x y. ap (signature bs) (tree_is t x ∙ sym (tree_is u y));
  }
    where
      states : (q : ℕ) (t u : Tree) → RunOf a.rules q t → RunOf a.rules q u → signature bs t ≡ signature bs u
      states zero t u x y = ap (signature bs) (top_is 0 t refl x ∙ sym (top_is 0 u refl y))
      states (suc q) t u x y =
          ap (signature bs) (other_is (suc q) t (omega arith) x ∙ sym (other_is (suc q) u (omega arith) y))

  -- Dressed trees.

  pub bare_new : (c : ℕ) → bare (new_node hs shape c) ≡ blank_tree
  bare_new c =
      ap₂ (λ (ss : List Slot) (ts : List Tree).
      roll-Tree (record { symbol = Cell shape (replicate (datums_of hs shape) Undefined) ss; children = ts }))
      (blank_slots 0 size) (blank_children 0 size)

  pub is_new : (c : ℕ) → InLanguage a (bare (new_node hs shape c))
  is_new c = subst (λ (t : Tree). InLanguage a t) (sym (bare_new c)) is_tree

  abbrev shape_in : Symbol → ℕ
  shape_in NullSymbol = 0
  shape_in UninitSymbol = 0
  shape_in DanglingSymbol = 0
  shape_in (Ref k) = 0
  shape_in (Cell s ds ss) = s

  pub new_is : (n : Node) → InLanguage a (bare n) → n ≡ new_node hs shape (number n)
  new_is (node c s ds ps) l =
      let e = tree_is (bare (node c s ds ps)) l in
      let y : Cell s ds (slots_of ps) ≡ blank_symbol hs shape = sym (cell_top c s ds ps)
      ∙ ap (λ (t : Tree). (out-Tree t).symbol) e
      ∙ rw (out-roll-Tree (record { symbol = blank_symbol hs shape; children = replicate size uninit })) refl in
      let k : bare_parts ps ≡ replicate size uninit = sym (cell_children c s ds ps)
      ∙ ap (λ (t : Tree). (out-Tree t).children) e
      ∙ rw (out-roll-Tree (record { symbol = blank_symbol hs shape; children = replicate size uninit })) refl in
      ap₂ (λ (t : ℕ) (es : List Datum). node c t es ps) (ap shape_in y) (ap symbol_datums y)
      ∙ ap (node c shape (replicate (datums_of hs shape) Undefined)) (parts_are 0 size ps (ap symbol_slots y) k)

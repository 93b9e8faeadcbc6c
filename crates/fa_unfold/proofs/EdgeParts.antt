-- Slots that are none, box edges among slots, and variables where further roots come behind.
use Rattle.std.proofs.Common.{◌≡◌, ℕ, zero, suc, ◌<◌, ◌&&◌, Bool, true, false, true≢false}
use Rattle.std.proofs.Common.{List, [], ◌∷◌, ◌++◌, map, refl}
use Rattle.std.proofs.Common.{inl, inr, sym, ap, ap₂, subst, Some, slice_get}
use Rattle.std.proofs.lemmas.Option.{none-some}
use Rattle.fore_base.specs.Lists.{IsIn, Every}
use Rattle.fore_base.specs.declared.store.Datum.{Datum}
use Rattle.fore_base.specs.declared.store.Value.{Value}
use Rattle.ta_core.specs.declared.auto.Rule.{Rule}
use Rattle.ta_core.specs.declared.symbol.Slot.{Slot}
use Rattle.ta_core.specs.declared.symbol.Slot.TheVariants.{Field, Link, Hook}
use Rattle.ta_core.specs.declared.symbol.Symbol.{Symbol}
use Rattle.ta_core.specs.declared.symbol.Symbol.TheVariants.{Null as NullSymbol, Uninit as UninitSymbol}
use Rattle.ta_core.specs.declared.symbol.Symbol.TheVariants.{Dangling as DanglingSymbol, Ref, Cell}
use Rattle.ta_core.specs.declared.tree.Tree.{Tree}
use Rattle.fa_core.specs.declared.faces.BoxFace.{BoxFace}
use Rattle.fa_core.specs.declared.forest.Target.{Target}
use Rattle.fa_core.specs.declared.forest.Target.TheVariants.{Null, Uninit, Dangling, At}
use Rattle.fa_core.specs.Choices.{count}
use Rattle.fa_core.specs.Dressed.{Parts, End, Nodes, node, no_parts, field, link, hook, no_nodes, more, value_in}
use Rattle.fa_core.specs.Dressed.{roots_of, leaf_refs}
use Rattle.fa_core.specs.Filled.{IsRoot}
use Rattle.fa_core.specs.Folding.{symbol_slots}
use Rattle.fa_core.specs.Member.{bare_end, slots_of}
use Rattle.fa_unfold.specs.Parts.{Part, FieldPart, LinkPart, HookPart}
use Rattle.fa_unfold.specs.Slots.{Place, state_places}
use Rattle.fa_unfold.specs.Unfolding.{is_bare, have_no_slots}
use Rattle.fa_unfold.specs.inner.Trees.{joined_parts, at_root}
use Rattle.fa_unfold.proofs.GrownTrees.{IsCellOf}
use Rattle.fa_unfold.proofs.OpenedTrees.{nth_more}
use Rattle.fa_unfold.proofs.PartItems.{listed_again, leaf_wider, Agrees}
use Rattle.fa_unfold.proofs.PlaceRuns.{PlaceOf}

-- Variables.

pub root_refs : (n : ℕ) (t : Target) → IsRoot n t → Every (λ k. k < n) (leaf_refs t)
root_refs n Null h = tt
root_refs n Uninit h = tt
root_refs n Dangling h = tt
root_refs n (At k) h = (h k refl, tt)

pub vars_stay : (d : Nodes) (us : List Value) (ts : List Target) → Every (IsRoot (count d)) ts
    → map (value_in (roots_of d)) ts ≡ map (value_in (roots_of d ++ us)) ts
vars_stay d us [] h = refl
vars_stay d us (t ∷ ts) h =
    ap₂ (λ (v : Value) (vs : List Value). v ∷ vs)
    (sym (leaf_wider (roots_of d) (roots_of d ++ us) t (agree t (root_refs (count d) t h.0)))) (vars_stay d us ts h.1)
  where
    agree : (t : Target) → Every (λ k. k < count d) (leaf_refs t)
        → Every (Agrees (roots_of d) (roots_of d ++ us)) (leaf_refs t)
    agree Null h = tt
    agree Uninit h = tt
    agree Dangling h = tt
    agree (At k) h = (nth_more d us k h.0, tt)

-- Slots that are none.

pub no_slots : (xs : List Rule) (x : Rule) → have_no_slots xs ≡ true → IsIn x xs
    → is_bare (symbol_slots x.symbol) ≡ true
no_slots [] x e i = absurd i
no_slots (y ∷ xs) x e i = here (is_bare (symbol_slots y.symbol)) refl e i (λ k j. no_slots xs x k j)
  where
    here : (b : Bool) → is_bare (symbol_slots y.symbol) ≡ b → (b && have_no_slots xs) ≡ true → IsIn x (y ∷ xs)
        → (have_no_slots xs ≡ true → IsIn x xs → is_bare (symbol_slots x.symbol) ≡ true)
        → is_bare (symbol_slots x.symbol) ≡ true
    here true w k (inl s) rec = subst (λ (z : Rule). is_bare (symbol_slots z.symbol) ≡ true) (sym s) w
    here true w k (inr j) rec = rec k j
    here false w k j rec = absurd (true≢false (sym k))

pub none_listed : (ps : Parts) → is_bare (slots_of ps) ≡ true → ps ≡ no_parts
none_listed no_parts e = refl
none_listed (field f x ps) e = absurd (true≢false (sym e))
none_listed (link b i x ps) e = absurd (true≢false (sym e))
none_listed (hook b i ps) e = absurd (true≢false (sym e))

pub joined_none : (bs : List BoxFace) (j : ℕ) (d : Nodes) → at_root (λ os. joined_parts bs os no_parts) j d ≡ d
joined_none bs j no_nodes = refl
joined_none bs zero (more (node c s ds ps) ns) = ap (λ (q : Parts). more (node c s ds q) ns) (listed_again ps)
joined_none bs (suc j) (more n ns) = ap (more n) (joined_none bs j ns)

-- Edges.

abbrev IsLinkSlot : Slot → Type 0
IsLinkSlot (Field f) = ⊥
IsLinkSlot (Link b) = Unit {0}
IsLinkSlot (Hook b) = ⊥

abbrev IsHookSlot : Slot → Type 0
IsHookSlot (Field f) = ⊥
IsHookSlot (Link b) = ⊥
IsHookSlot (Hook b) = Unit {0}

abbrev box_of : Slot → ℕ
box_of (Field f) = f
box_of (Link b) = b
box_of (Hook b) = b

abbrev head : List ℕ → ℕ
head [] = 0
head (n ∷ ns) = n

pub is_link : (R : ℕ → Tree → Type 0) (b q : ℕ) (x : Part) → PlaceOf R (Link b, q ∷ []) x → (inside : Nodes) × (e : End)
    × (x ≡ LinkPart b inside e) × R q (bare_end e)
is_link R b q (FieldPart f e) h = absurd (subst IsLinkSlot h.0 tt)
is_link R b q (LinkPart k i e) h =
    let r = subst (λ (n : ℕ). R n (bare_end e)) (sym (ap head h.2)) h.3 in
    (i, e, ap (λ (n : ℕ). LinkPart n i e) (sym (ap box_of h.0)), r)
is_link R b q (HookPart k i) h = absurd (subst IsLinkSlot h.0 tt)

pub is_hook : (R : ℕ → Tree → Type 0) (b : ℕ) (x : Part) → PlaceOf R (Hook b, []) x → (inside : Nodes)
    × (x ≡ HookPart b inside)
is_hook R b (FieldPart f e) h = absurd (subst IsHookSlot h.0 tt)
is_hook R b (LinkPart k i e) h = absurd (subst IsHookSlot h.0 tt)
is_hook R b (HookPart k i) h = (i, ap (λ (n : ℕ). HookPart n i) (sym (ap box_of h.0)))

-- a rule that has a slot is of a cell
pub is_cell_top : (y : Symbol) (qs : List ℕ) (p : ℕ) (x : Place)
    → slice_get (state_places (symbol_slots y) qs) p ≡ Some x
    → (s : ℕ) × (ds : List Datum) × IsCellOf y s ds
is_cell_top NullSymbol qs p x e = absurd (none-some x e)
is_cell_top UninitSymbol qs p x e = absurd (none-some x e)
is_cell_top DanglingSymbol qs p x e = absurd (none-some x e)
is_cell_top (Ref r) qs p x e = absurd (none-some x e)
is_cell_top (Cell s ds ss) qs p x e = (s, ds, (ss, refl))

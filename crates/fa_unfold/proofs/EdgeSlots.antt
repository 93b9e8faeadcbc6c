-- Slots of a root's one rule, and the leaf at the end of a Link.
use Rattle.std.proofs.Common.{◌≡◌, ℕ, zero, suc, ◌<◌, ◌+◌, length, List, [], ◌∷◌, refl, sym, ap, subst, ◌∙◌, Some}
use Rattle.std.proofs.Common.{inl, inr, Option, true, false, true≢false, ◌++◌, slice_get, slice_index_or, arith}
use Rattle.std.proofs.lemmas.Option.{none-some, same_Some, slice_get_within}
use Rattle.fore_base.specs.Lists.{Every}
use Rattle.fore_base.proofs.ListLemmas.{every_in, in_push}
use Rattle.ta_core.specs.Arity.{arity, child_slots}
use Rattle.ta_core.specs.Auto.{Automaton, IsRanked, IsRankedRule}
use Rattle.ta_core.specs.Language.{RunOf, run, RunEach, run_none}
use Rattle.ta_core.specs.declared.auto.Rule.{Rule}
use Rattle.ta_core.specs.declared.symbol.Slot.{Slot}
use Rattle.ta_core.specs.declared.symbol.Slot.TheVariants.{Field, Link, Hook}
use Rattle.ta_core.specs.declared.symbol.Symbol.{Symbol}
use Rattle.ta_core.specs.declared.symbol.Symbol.TheVariants.{Null as NullSymbol, Uninit as UninitSymbol}
use Rattle.ta_core.specs.declared.symbol.Symbol.TheVariants.{Dangling as DanglingSymbol, Ref, Cell}
use Rattle.ta_core.specs.declared.tree.Tree.{Tree, out-Tree, out-roll-Tree}
use Rattle.fa_core.specs.declared.forest.Forest.{Forest}
use Rattle.fa_core.specs.declared.forest.Target.{Target}
use Rattle.fa_core.specs.declared.forest.Target.TheVariants.{Null, Uninit, Dangling, At}
use Rattle.fa_core.specs.Cells.{is_leaf}
use Rattle.fa_core.specs.Dressed.{leaf}
use Rattle.fa_core.specs.Folding.{symbol_slots}
use Rattle.fa_core.specs.Member.{bare_end, leaf_symbol}
use Rattle.fa_core.proofs.Dressing.{leaf_top}
use Rattle.fa_core.proofs.NodeSpots.{one_leaf}
use Rattle.fa_sound.specs.Components.{component_at}
use Rattle.fa_split.specs.Split.{child_state, top_rule}
use Rattle.fa_split.specs.inner.Ends.{HasLeafRule}
use Rattle.fa_split.proofs.ChosenTrees.{leaf_arity}
use Rattle.fa_split.proofs.RunPlaces.{at_index}
use Rattle.fa_split.proofs.TopRules.{top_in}
use Rattle.fa_unfold.specs.Sites.{IsHookAt, IsLinkAt, IsLinkAtSlot, child_place}
use Rattle.fa_unfold.specs.Slots.{Place, state_places}
use Rattle.fa_unfold.specs.UnfoldingOf.{CanUnfold, IsBoxEdge, root_slots}
use Rattle.fa_unfold.proofs.OpenedRoots.{component_has}
use Rattle.fa_unfold.proofs.PlaceRuns.{IsPlaceAt}
use Rattle.fa_unfold.proofs.SplitLinks.{place_child}

-- Slots and the states of their children.

-- a slot that is there has the state of its child, if it has one
slot_place : (ss : List Slot) (qs : List ℕ) → length qs ≡ child_slots ss → (p : ℕ) (s : Slot) → slice_get ss p ≡ Some s
    → (x : List ℕ) × IsPlaceAt s x × (slice_get (state_places ss qs) p ≡ Some (s, x))
slot_place [] qs l p s e = absurd (none-some s e)
slot_place (Hook b ∷ ss) qs l zero s e =
    let w = same_Some (Hook b) s e in
    ([], subst (λ (z : Slot). IsPlaceAt z []) w refl, ap (λ (z : Slot). Some (z, [])) w)
slot_place (Hook b ∷ ss) qs l (suc p) s e = slot_place ss qs l p s e
slot_place (Field f ∷ ss) [] l p s e = absurd (let z : 0 ≡ child_slots ss + 1 = l in omega (arith, z))
slot_place (Field f ∷ ss) (q ∷ qs) l zero s e =
    let w = same_Some (Field f) s e in
    (q ∷ [], subst (λ (z : Slot). IsPlaceAt z (q ∷ [])) w (q, refl), ap (λ (z : Slot). Some (z, q ∷ [])) w)
slot_place (Field f ∷ ss) (q ∷ qs) l (suc p) s e =
    slot_place ss qs (let z : suc (length qs) ≡ child_slots ss + 1 = l in omega (arith, z)) p s e
slot_place (Link b ∷ ss) [] l p s e = absurd (let z : 0 ≡ child_slots ss + 1 = l in omega (arith, z))
slot_place (Link b ∷ ss) (q ∷ qs) l zero s e =
    let w = same_Some (Link b) s e in
    (q ∷ [], subst (λ (z : Slot). IsPlaceAt z (q ∷ [])) w (q, refl), ap (λ (z : Slot). Some (z, q ∷ [])) w)
slot_place (Link b ∷ ss) (q ∷ qs) l (suc p) s e =
    slot_place ss qs (let z : suc (length qs) ≡ child_slots ss + 1 = l in omega (arith, z)) p s e

-- the place of a slot is one of the slots
pub place_within : (ss : List Slot) (qs : List ℕ) (p : ℕ) (x : Place) → slice_get (state_places ss qs) p ≡ Some x
    → p < length ss
place_within [] qs p x e = absurd (none-some x e)
place_within (Hook b ∷ ss) qs zero x e = omega arith
place_within (Hook b ∷ ss) qs (suc p) x e = let k = place_within ss qs p x e in omega (arith, k)
place_within (Field f ∷ ss) [] p x e = absurd (none-some x e)
place_within (Field f ∷ ss) (q ∷ qs) zero x e = omega arith
place_within (Field f ∷ ss) (q ∷ qs) (suc p) x e = let k = place_within ss qs p x e in omega (arith, k)
place_within (Link b ∷ ss) [] p x e = absurd (none-some x e)
place_within (Link b ∷ ss) (q ∷ qs) zero x e = omega arith
place_within (Link b ∷ ss) (q ∷ qs) (suc p) x e = let k = place_within ss qs p x e in omega (arith, k)

pub edge_within : (ss : List Slot) (p : ℕ) → IsBoxEdge (slice_get ss p) → p < length ss
edge_within [] p h = absurd h
edge_within (s ∷ ss) zero h = omega arith
edge_within (s ∷ ss) (suc p) h = let k = edge_within ss p h in omega (arith, k)

arity_slots : (y : Symbol) → arity y ≡ child_slots (symbol_slots y)
arity_slots NullSymbol = refl
arity_slots UninitSymbol = refl
arity_slots DanglingSymbol = refl
arity_slots (Ref r) = refl
arity_slots (Cell s ds ss) = refl

-- a field is no box edge
pub field_no_edge : (f : ℕ) (o : Option Slot) → IsBoxEdge o → o ≡ Some (Field f) → ⊥
field_no_edge f o h e = subst IsBoxEdge e h

-- The box edge at a slot.

module _ (F : Forest) (i p : ℕ) (ranked : Every IsRanked F.autos) (can : CanUnfold F i p) where
  abbrev a : Automaton
  a = component_at F.autos i

  abbrev rule : Rule
  rule = top_rule a

  long : length rule.children ≡ child_slots (symbol_slots rule.symbol)
  long = (every_in (IsRankedRule a.states) a.rules rule (component_has IsRanked F.autos i can.root ranked).1
      (top_in a can.top)).2 ∙ arity_slots rule.symbol

  pub link_slot : (b : ℕ) → slice_get (root_slots F i) p ≡ Some (Link b) → IsLinkAtSlot F i p b
  link_slot b e =
      let k = slot_place (symbol_slots rule.symbol) rule.children long p (Link b) e in
      record {
        root = can.root;
        top = can.top;
        state = k.1.0;
        slot = k.2 ∙ ap (λ (x : List ℕ). Some (Link b, x)) k.1.1;
      }

  pub hook_slot : (b : ℕ) → slice_get (root_slots F i) p ≡ Some (Hook b) → IsHookAt F i p b
  hook_slot b e =
      let k = slot_place (symbol_slots rule.symbol) rule.children long p (Hook b) e in
      record {
        root = can.root;
        top = can.top;
        slot = k.2 ∙ ap (λ (x : List ℕ). Some (Hook b, x)) k.1;
      }

-- The leaf at the end of a Link.

pub slot_of_link : (F : Forest) (i p b : ℕ) (y : Target) → IsLinkAt F i p b y → IsLinkAtSlot F i p b
slot_of_link F i p b y at = record { root = at.root; top = at.top; state = at.state; slot = at.slot }

same_state : (q r : ℕ) (xs : List ℕ) (c : ℕ) → slice_get xs c ≡ Some q → slice_index_or xs c 0 ≡ r → r ≡ q
same_state q r xs c e h =
    sym h
    ∙ same_Some (slice_index_or xs c 0) q (sym (at_index xs c (slice_get_within xs c q e)) ∙ e)

leaf_run : (a : Automaton) (q : ℕ) (z : Target) → IsRanked a → HasLeafRule a.rules q z
    → RunOf a.rules q (bare_end (leaf z))
leaf_run a q z ranked (x, i, s, e) =
    run x i s (e ∙ sym (leaf_top z))
    (subst (λ (qs : List ℕ). RunEach a.rules qs (out-Tree (bare_end (leaf z))).children) (sym none)
    (rw (out-roll-Tree (record { symbol = leaf_symbol z; children = [] })) run_none))
  where
    empty : (qs : List ℕ) → length qs ≡ 0 → qs ≡ []
    empty [] l = refl
    empty (y ∷ qs) l = absurd (omega (arith, l))

    none : x.children ≡ []
    none =
        empty x.children ((every_in (IsRankedRule a.states) a.rules x ranked.1 i).2 ∙ ap arity e ∙ leaf_arity z)

module _ (F : Forest) (i p b : ℕ) (y : Target) (ranked : Every IsRanked F.autos) (at : IsLinkAt F i p b y) where
  abbrev c : Automaton
  c = component_at F.autos i

  -- the state of the child
  pub end_state : child_state c (child_place F i p) ≡ at.state
  end_state =
      same_state at.state (child_state c (child_place F i p)) (top_rule c).children (child_place F i p)
      (place_child (symbol_slots (top_rule c).symbol) (top_rule c).children p at.state (Link b) at.slot) refl

  -- it has a rule of that leaf
  pub end_rule : HasLeafRule c.rules (child_state c (child_place F i p)) y
  end_rule = subst (λ (q : ℕ). HasLeafRule c.rules q y) (sym end_state) (here at.run)
    where
      here : RunOf c.rules at.state (bare_end (leaf y)) → HasLeafRule c.rules at.state y
      here (run x j s e k) = (x, j, s, e ∙ leaf_top y)

  -- and of no other
  pub end_alone : (z : Target) → HasLeafRule c.rules (child_state c (child_place F i p)) z → IsLinkAt F i p b z
  end_alone z h =
      let w = leaf_run c at.state z (component_has IsRanked F.autos i at.root ranked)
      (subst (λ (q : ℕ). HasLeafRule c.rules q z) end_state h) in
      let e : z ≡ y =
      one_leaf z y
      (sym (leaf_top z) ∙ ap (λ (t : Tree). (out-Tree t).symbol) (at.only (bare_end (leaf z)) w) ∙ leaf_top y) in
      subst (IsLinkAt F i p b) (sym e) at

-- The first rule of a leaf.

leaf_is : (y : Target) → is_leaf (leaf_symbol y) ≡ true
leaf_is Null = refl
leaf_is Uninit = refl
leaf_is Dangling = refl
leaf_is (At k) = refl

-- no rule of the list at the state is of a leaf
abbrev pub HasNoLeaf : List Rule → ℕ → Type 0
HasNoLeaf rules q = (y : Target) → HasLeafRule rules q y → ⊥

no_more : (rules : List Rule) (x : Rule) (q : ℕ) → HasNoLeaf rules q
    → ((y : Target) → x.state ≡ q → x.symbol ≡ leaf_symbol y → ⊥) → HasNoLeaf (rules ++ x ∷ []) q
no_more rules x q h k y (z, i, e, w) = elim (in_push x z rules i) [
  | inl j ↦ h y (z, j, e, w)
  | inr d ↦ k y (ap (λ (r : Rule). r.state) (sym d) ∙ e) (ap (λ (r : Rule). r.symbol) (sym d) ∙ w)
]

pub cell_more : (rules : List Rule) (x : Rule) (q : ℕ) → HasNoLeaf rules q → is_leaf x.symbol ≡ false
    → HasNoLeaf (rules ++ x ∷ []) q
cell_more rules x q h n =
    no_more rules x q h (λ y e w. true≢false (sym (leaf_is y) ∙ ap is_leaf (sym w) ∙ n))

pub other_more : (rules : List Rule) (x : Rule) (q : ℕ) → HasNoLeaf rules q → (x.state ≡ q → ⊥)
    → HasNoLeaf (rules ++ x ∷ []) q
other_more rules x q h n = no_more rules x q h (λ y e w. n e)

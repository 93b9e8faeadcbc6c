-- The rules of components that gain the slots of a port fit the face, and their trees have cells at their tops.
use Rattle.std.proofs.Common.{◌≡◌, ◌⊎◌, inl, inr, ℕ, zero, suc, ◌<◌, Bool, true, false, true≢false, not, ◌&&◌, length}
use Rattle.std.proofs.Common.{if◌then◌else◌}
use Rattle.std.proofs.Common.{List, [], ◌∷◌, map, refl, sym, ap, subst, ◌∙◌, Option, Some, None}
use Rattle.std.proofs.Common.{arith}
use Rattle.std.proofs.lemmas.Option.{none-some}
use Rattle.fore_base.specs.Lists.{IsIn, Every}
use Rattle.fore_base.specs.declared.shape.Shapes.{Shapes}
use Rattle.fore_base.specs.declared.store.Datum.{Datum}
use Rattle.fore_base.proofs.ListLemmas.{every_append, every_weaker, every_in, in_every, every_map, in_mapped}
use Rattle.ta_core.specs.Auto.{Automaton}
use Rattle.ta_core.specs.Joined.{shift, united}
use Rattle.ta_core.specs.Renumbered.{renumbered}
use Rattle.ta_core.specs.declared.auto.Rule.{Rule}
use Rattle.ta_core.specs.declared.symbol.Slot.{Slot}
use Rattle.ta_core.specs.declared.symbol.Slot.TheVariants.{Field, Link, Hook}
use Rattle.ta_core.specs.declared.symbol.Symbol.{Symbol}
use Rattle.ta_core.specs.declared.symbol.Symbol.TheVariants.{Null as NullSymbol, Uninit as UninitSymbol}
use Rattle.ta_core.specs.declared.symbol.Symbol.TheVariants.{Dangling as DanglingSymbol, Ref, Cell}
use Rattle.fa_core.specs.declared.boxes.BoxDef.{BoxDef}
use Rattle.fa_core.specs.declared.faces.BoxFace.{BoxFace}
use Rattle.fa_core.specs.declared.faces.Face.{Face}
use Rattle.fa_core.specs.declared.forest.Target.{Target}
use Rattle.fa_core.specs.declared.forest.Target.TheVariants.{Null, Uninit, Dangling, At}
use Rattle.fa_core.specs.Boxes.{PortRulesFit, PortSymbolFits, IsChild, AreSoundOver, faces_of}
use Rattle.fa_core.specs.Choices.{HasInside, SlotHasInside, SymbolHasInsides, HasInsides}
use Rattle.fa_core.specs.Filled.{face_of, HasOutput, HasNoOutput, SlotFits, SymbolFits, RulesFit}
use Rattle.fa_core.specs.Folding.{symbol_slots}
use Rattle.fa_core.specs.Member.{leaf_symbol}
use Rattle.fa_core.specs.Placed.{placed_rule, placed_auto}
use Rattle.fa_core.specs.Ways.{has}
use Rattle.fa_core.proofs.Placing.{symbol_kept, rules_kept}
use Rattle.fa_back.specs.Insides.{AreRankedInsides}
use Rattle.fa_back.proofs.Dressable.{tables_dressed}
use Rattle.fa_back.proofs.RootMarks.{in_has, has_in, flat_in}
use Rattle.fa_unfold.specs.Slots.{Place, joined, state_places, rule_places, place_key, moved_place, with_slots}
use Rattle.fa_unfold.specs.Slots.{with_places}
use Rattle.fa_unfold.specs.Unfolding.{rules_below, child_states, below_tops, grown}
use Rattle.fa_unfold.proofs.GrownTrees.{IsCellOf}
use Rattle.fa_unfold.proofs.Joins.{joined_every}

-- Over more boxes.

module _ (S : Shapes) (bs0 bs : List BoxFace)
    (grow : (b : ℕ) (x : BoxFace) → face_of bs0 b ≡ Some x → face_of bs b ≡ Some x) where
  abbrev lower : Face
  lower = record { shapes = S; boxes = bs0 }

  abbrev face : Face
  face = record { shapes = S; boxes = bs }

  outputs_grow : (b : ℕ) (o : Option BoxFace) → face_of bs0 b ≡ o → HasOutput o → HasOutput (face_of bs b)
  outputs_grow b None e h = absurd h
  outputs_grow b (Some x) e h = subst HasOutput (sym (grow b x e)) h

  hooks_grow : (b : ℕ) (o : Option BoxFace) → face_of bs0 b ≡ o → HasNoOutput o → HasNoOutput (face_of bs b)
  hooks_grow b None e h = absurd h
  hooks_grow b (Some x) e h = subst HasNoOutput (sym (grow b x e)) h

  pub slot_grows : (s : ℕ) (z : Slot) → SlotFits lower s z → SlotFits face s z
  slot_grows s (Field f) h = h
  slot_grows s (Link b) h = outputs_grow b (face_of bs0 b) refl h
  slot_grows s (Hook b) h = hooks_grow b (face_of bs0 b) refl h

  symbol_grows : (y : Symbol) → SymbolFits lower y → SymbolFits face y
  symbol_grows NullSymbol h = tt
  symbol_grows UninitSymbol h = tt
  symbol_grows DanglingSymbol h = tt
  symbol_grows (Ref r) h = tt
  symbol_grows (Cell s ds ss) h =
      (h.0, h.1, h.2, every_weaker (SlotFits lower s) (SlotFits face s) ss (λ z k. slot_grows s z k) h.3)

  pub rules_grow : (a : Automaton) → RulesFit lower a → RulesFit face a
  rules_grow a h = every_weaker (λ (r : Rule). SymbolFits lower r.symbol) (λ (r : Rule). SymbolFits face r.symbol)
      a.rules (λ r k. symbol_grows r.symbol k) h

  leaf_fits : (u : Target) → SymbolFits face (leaf_symbol u)
  leaf_fits Null = tt
  leaf_fits Uninit = tt
  leaf_fits Dangling = tt
  leaf_fits (At k) = tt

  -- What stands below the tops of a port's trees.

  module _ (f : ℕ → Target) (a : Automaton) (h : PortRulesFit lower a) where
    abbrev b : Automaton
    b = placed_auto f a

    kept_by : (roots children : List ℕ) (xs : List Rule) (o : Rule) → IsIn o (rules_below roots children xs)
        → IsIn o xs × ((has o.state roots && not (has o.state children)) ≡ false)
    kept_by roots children [] o i = absurd i
    kept_by roots children (x ∷ xs) o i =
        here (has x.state roots && not (has x.state children)) refl i (kept_by roots children xs o)
      where
        here : (v : Bool) → (has x.state roots && not (has x.state children)) ≡ v
            → IsIn o (if v then rules_below roots children xs else x ∷ rules_below roots children xs)
            → (IsIn o (rules_below roots children xs)
            → IsIn o xs × ((has o.state roots && not (has o.state children)) ≡ false))
            → IsIn o (x ∷ xs) × ((has o.state roots && not (has o.state children)) ≡ false)
        here true e j rec = let k = rec j in (inr k.0, k.1)
        here false e (inl q) rec =
            (inl q, ap (λ (w : Rule). has w.state roots && not (has w.state children)) q ∙ e)
        here false e (inr j) rec = let k = rec j in (inr k.0, k.1)

    child_there : (q : ℕ) → IsIn q (child_states b.rules) → IsChild a q
    child_there q i =
        let m = flat_in (λ (r : Rule). r.children) b.rules q i in
        let n = in_mapped (placed_rule f) m.0 a.rules m.1 in
        (n.0, n.1, subst (λ (r : Rule). IsIn q r.children) n.2 m.2)

    inner_or_child : (q : ℕ) (v w : Bool) → has q b.roots ≡ v → has q (child_states b.rules) ≡ w → (v && not w) ≡ false
        → (IsIn q a.roots → ⊥) ⊎ IsChild a q
    inner_or_child q false w e g k = inl (λ i. true≢false (sym (in_has q b.roots i) ∙ e))
    inner_or_child q true true e g k = inr (child_there q (has_in q (child_states b.rules) g))
    inner_or_child q true false e g k = absurd (true≢false k)

    pub below_fits : RulesFit face (below_tops b)
    below_fits = in_every (λ (r : Rule). SymbolFits face r.symbol) (below_tops b).rules
        (λ o i.
        (let k = kept_by b.roots (child_states b.rules) b.rules o i in
        let m = in_mapped (placed_rule f) o a.rules k.0 in
        let c = inner_or_child o.state (has o.state b.roots) (has o.state (child_states b.rules)) refl refl k.1 in
        let d = subst (λ (r : Rule). (IsIn r.state a.roots → ⊥) ⊎ IsChild a r.state) m.2 c in
        let g = every_in (λ (r : Rule). (IsIn r.state a.roots → ⊥) ⊎ IsChild a r.state → SymbolFits lower r.symbol)
        a.rules m.0 h.inner m.1 d in
        subst (λ (r : Rule). SymbolFits face r.symbol) (sym m.2)
        (symbol_kept f (SymbolFits face) leaf_fits m.0.symbol (symbol_grows m.0.symbol g))))

-- A component with a cell that gains slots.

state_slots : (P : Slot → Type 0) (ss : List Slot) (qs : List ℕ) → Every P ss
    → Every (λ (p : Place). P p.0) (state_places ss qs)
state_slots P [] qs h = tt
state_slots P (Hook b ∷ ss) qs h = (h.0, state_slots P ss qs h.1)
state_slots P (Field f ∷ ss) [] h = tt
state_slots P (Field f ∷ ss) (q ∷ qs) h = (h.0, state_slots P ss qs h.1)
state_slots P (Link b ∷ ss) [] h = tt
state_slots P (Link b ∷ ss) (q ∷ qs) h = (h.0, state_slots P ss qs h.1)

pub rule_slots : (P : Slot → Type 0) (z : Rule) → Every P (symbol_slots z.symbol)
    → Every (λ (p : Place). P p.0) (rule_places z)
rule_slots P z h = state_slots P (symbol_slots z.symbol) z.children h

pub cell_slots_fit : (face : Face) (y : Symbol) (s : ℕ) (ds : List Datum) → IsCellOf y s ds → SymbolFits face y
    → Every (SlotFits face s) (symbol_slots y)
cell_slots_fit face y s ds c h =
    let k : SymbolFits face (Cell s ds c.0) = subst (SymbolFits face) c.1 h in
    subst (λ (z : Symbol). Every (SlotFits face s) (symbol_slots z)) (sym c.1) k.3

module _ (face : Face) (bs : List BoxFace) (a : Automaton) (x : Rule) (base : List Place) (b : Automaton) (z : Rule)
    (s : ℕ) (ds : List Datum) (c : IsCellOf x.symbol s ds) (h : SymbolFits face x.symbol)
    (own : Every (λ (p : Place). SlotFits face s p.0) base)
    (more : Every (SlotFits face s) (symbol_slots z.symbol)) where
  abbrev all : List Place
  all = joined (place_key bs) base (map (moved_place a.states) (rule_places z))

  abbrev Fitting : Rule → Type 0
  Fitting r = SymbolFits face r.symbol

  all_fit : Every (λ (p : Place). SlotFits face s p.0) all
  all_fit = joined_every (place_key bs) (λ (p : Place). SlotFits face s p.0) base
      (map (moved_place a.states) (rule_places z)) own
      (every_map (moved_place a.states) (λ (p : Place). SlotFits face s p.0) (rule_places z)
      (rule_slots (SlotFits face s) z more))

  top_fits : SymbolFits face (with_slots x.symbol (map (λ p. p.0) all))
  top_fits =
      let k : SymbolFits face (Cell s ds c.0) = subst (SymbolFits face) c.1 h in
      subst (λ (y : Symbol). SymbolFits face (with_slots y (map (λ p. p.0) all))) (sym c.1)
      (k.0, k.1, k.2, every_map (λ (p : Place). p.0) (SlotFits face s) all all_fit)

  pub grown_fits : RulesFit face a → RulesFit face (below_tops b) → RulesFit face (grown bs a x base b z)
  grown_fits fa fb =
      every_append Fitting (united a (below_tops b)).rules
      (record {
        state = (united a (below_tops b)).states;
        symbol = (with_places x all).symbol;
        children = (with_places x all).children;
      } ∷ [])
      (every_append Fitting a.rules (map (renumbered (shift a.states)) (below_tops b).rules) fa
      (every_map (renumbered (shift a.states)) Fitting (below_tops b).rules fb)) (top_fits, tt)

-- Boxes of rules that fit have insides in the table.

face_there : (T : List BoxDef) (b : ℕ) (x : BoxFace) → face_of (faces_of T) b ≡ Some x → b < length T
face_there [] b x e = absurd (none-some x e)
face_there (d ∷ T) zero x e = omega arith
face_there (d ∷ T) (suc b) x e = let k = face_there T b x e in omega (arith, k)

module _ (S : Shapes) (T : List BoxDef) (sound : AreSoundOver S [] T) (ranked : AreRankedInsides T) where
  abbrev shown : Face
  shown = record { shapes = S; boxes = faces_of T }

  box_inside : (b : ℕ) (o : Option BoxFace) → face_of (faces_of T) b ≡ o → (o ≡ None → ⊥) → HasInside T b
  box_inside b None e h = absurd (h refl)
  box_inside b (Some x) e h = tables_dressed S T sound ranked b (face_there T b x e)

  slot_inside : (s : ℕ) (z : Slot) → SlotFits shown s z → SlotHasInside T z
  slot_inside s (Field f) h = tt
  slot_inside s (Link b) h =
      box_inside b (face_of (faces_of T) b) refl (λ e. subst (λ (o : Option BoxFace). HasOutput o) e h)
  slot_inside s (Hook b) h =
      box_inside b (face_of (faces_of T) b) refl (λ e. subst (λ (o : Option BoxFace). HasNoOutput o) e h)

  pub slots_inside : (s : ℕ) (ss : List Slot) → Every (SlotFits shown s) ss → Every (SlotHasInside T) ss
  slots_inside s ss h = every_weaker (SlotFits shown s) (SlotHasInside T) ss (λ z k. slot_inside s z k) h

  symbol_inside : (y : Symbol) → SymbolFits shown y → SymbolHasInsides T y
  symbol_inside NullSymbol h = tt
  symbol_inside UninitSymbol h = tt
  symbol_inside DanglingSymbol h = tt
  symbol_inside (Ref r) h = tt
  symbol_inside (Cell s ds ss) h = slots_inside s ss h.3

  pub rules_inside : (a : Automaton) → RulesFit shown a → HasInsides T a
  rules_inside a h = every_weaker (λ (r : Rule). SymbolFits shown r.symbol) (λ (r : Rule). SymbolHasInsides T r.symbol)
      a.rules (λ r k. symbol_inside r.symbol k) h

  leaf_inside : (u : Target) → SymbolHasInsides T (leaf_symbol u)
  leaf_inside Null = tt
  leaf_inside Uninit = tt
  leaf_inside Dangling = tt
  leaf_inside (At k) = tt

  module _ (bs0 : List BoxFace)
      (grow : (b : ℕ) (x : BoxFace) → face_of bs0 b ≡ Some x → face_of (faces_of T) b ≡ Some x) where
    port_symbol : (y : Symbol) → PortSymbolFits (record { shapes = S; boxes = bs0 }) y → SymbolHasInsides T y
    port_symbol NullSymbol h = tt
    port_symbol UninitSymbol h = tt
    port_symbol DanglingSymbol h = tt
    port_symbol (Ref r) h = tt
    port_symbol (Cell s ds ss) h =
        slots_inside s ss
        (every_weaker (SlotFits (record { shapes = S; boxes = bs0 }) s) (SlotFits shown s) ss
        (λ z k. slot_grows S bs0 (faces_of T) grow s z k) h.2)

    port_rule : (a : Automaton) → PortRulesFit (record { shapes = S; boxes = bs0 }) a → (r : Rule) → IsIn r a.rules
        → (v : Bool) → has r.state a.roots ≡ v → SymbolHasInsides T r.symbol
    port_rule a h r i true e =
        port_symbol r.symbol
        (every_in (λ (r : Rule). IsIn r.state a.roots → PortSymbolFits (record { shapes = S; boxes = bs0 }) r.symbol)
        a.rules r h.tops i (has_in r.state a.roots e))
    port_rule a h r i false e =
        symbol_inside r.symbol
        (symbol_grows S bs0 (faces_of T) grow r.symbol
        (every_in (λ (r : Rule). (IsIn r.state a.roots → ⊥) ⊎ IsChild a r.state
        → SymbolFits (record { shapes = S; boxes = bs0 }) r.symbol) a.rules r h.inner i
        (inl (λ j. true≢false (sym (in_has r.state a.roots j) ∙ e)))))

    -- so have those of a port, with other leaves
    pub port_inside : (f : ℕ → Target) (a : Automaton) → PortRulesFit (record { shapes = S; boxes = bs0 }) a
        → HasInsides T (placed_auto f a)
    port_inside f a h = rules_kept f (SymbolHasInsides T) leaf_inside a.rules
        (in_every (λ (r : Rule). SymbolHasInsides T r.symbol) a.rules
        (λ r i. port_rule a h r i (has r.state a.roots) refl))

-- The forest that the code makes is the one after the fold.
use Rattle.std.proofs.Common.{◌≡◌, ◌↔◌, ◌<◌, ◌≤◌, ◌+◌, inl, inr, ℕ, Bool, true, false}
use Rattle.std.proofs.Common.{nat_eq, if◌then◌else◌, length, List, [], ◌∷◌, ◌++◌, refl, sym, ap, ap₂, subst, ◌∙◌}
use Rattle.std.proofs.Common.{Option, Some, None, slice_get, arith}
use Rattle.std.proofs.lemmas.Bool.{eqb-true}
use Rattle.std.proofs.lemmas.Option.{same_Some}
use Rattle.fore_base.specs.Lists.{IsIn, Every, Paired}
use Rattle.fore_base.specs.declared.store.Datum.{Datum}
use Rattle.fore_base.proofs.ListLemmas.{every_in, in_right, in_from_place}
use Rattle.ta_core.specs.Arity.{arity}
use Rattle.ta_core.specs.Auto.{Automaton, IsRanked}
use Rattle.ta_core.specs.Language.{InLanguage, RunEach, RunOf, run_none, run_more}
use Rattle.ta_core.specs.Single.{HasOneTop}
use Rattle.ta_core.specs.declared.auto.Rule.{Rule}
use Rattle.ta_core.specs.declared.symbol.Slot.{Slot}
use Rattle.ta_core.specs.declared.symbol.Slot.TheVariants.{Link, Hook}
use Rattle.ta_core.specs.declared.symbol.Symbol.{Symbol}
use Rattle.ta_core.specs.declared.symbol.Symbol.TheVariants.{Ref, Cell as CellSymbol}
use Rattle.ta_core.specs.declared.tree.Tree.{Tree, out-Tree, roll-Tree, roll-out-Tree}
use Rattle.ta_core.proofs.Runs.{run_tree, tree_of}
use Rattle.fa_core.specs.declared.boxes.BoxDef.{BoxDef}
use Rattle.fa_core.specs.declared.faces.BoxFace.{BoxFace}
use Rattle.fa_core.specs.declared.forest.Forest.{Forest}
use Rattle.fa_core.specs.declared.forest.Target.TheVariants.{At}
use Rattle.fa_core.specs.Boxes.{Boxes, faces_of}
use Rattle.fa_core.specs.Filled.{HasSome}
use Rattle.fa_core.specs.Folding.{ArePortRoots, IsFoldedAuto, IsPart, IsPartWithin, IsPortRoot, Ports, PortsAre}
use Rattle.fa_core.specs.Folding.{box_slot, cell_of, gained, left, moved_tree, number_without, taken_at}
use Rattle.fa_core.specs.Folding.{top_places}
use Rattle.fa_core.specs.Placed.{placed_rule, placed_symbol}
use Rattle.fa_core.proofs.Placing.{placed_ranked}
use Rattle.fa_split.specs.Split.{top_rule}
use Rattle.fa_split.proofs.FreshStates.{fresh_run}
use Rattle.fa_split.proofs.TopRules.{top_is, tree_by_top}
use Rattle.fa_unfold.specs.Sites.{IsOver}
use Rattle.fa_unfold.specs.Slots.{joined}
use Rattle.fa_unfold.proofs.PlaceRuns.{IsPlace}
use Rattle.fa_folding.specs.Gaining.{edge_place, edge_rules, input_auto, output_auto}
use Rattle.fa_folding.specs.Made.{folded_component, new_output, other_auto}
use Rattle.fa_folding.proofs.FoldedAutos.{gained_folds, plain_folds}
use Rattle.fa_folding.proofs.FoldedPlaces.{grown_key}
use Rattle.fa_folding.proofs.GainedTrees.{gained_language}
use Rattle.fa_folding.proofs.Moving.{moved_auto, moved_language}
use Rattle.fa_folding.proofs.SlotRuns.{Grown, SlotRuns, runs_none, runs_one}
use Rattle.fa_merge.proofs.OtherOrders.{get_mapped}
use Rattle.fa_merge.proofs.MergedSound.{got_mapped}

-- What the slot of the box gains: its leaf has one tree.

module _ (a : Automaton) (ranked : IsRanked a) (n : ℕ) where
  pub edge_above : (o : Option ℕ) (x : Rule) → IsIn x (edge_rules a.states o) → (x.state ≡ a.states) × (x.children ≡ [])
      × (length x.children ≡ arity x.symbol)
  edge_above None x i = absurd i
  edge_above (Some j) x (inl e) =
      subst (λ (z : Rule). (z.state ≡ a.states) × (z.children ≡ []) × (length z.children ≡ arity z.symbol)) (sym e)
      (refl, refl, refl)
  edge_above (Some j) x (inr i) = absurd i

  pub edge_right : (o : Option ℕ) → Every (IsPlace (a.states + 1)) (edge_place n a.states o ∷ [])
  edge_right None = ((refl, tt), tt)
  edge_right (Some j) = (((a.states, refl), (omega arith, tt)), tt)

  pub edge_runs : (o : Option ℕ) → Paired (SlotRuns (a.rules ++ edge_rules a.states o)) (edge_place n a.states o ∷ [])
      (box_slot (λ k. k) n o ∷ [])
  edge_runs None = ((refl, run_none), tt)
  edge_runs (Some j) =
      let x : Rule = record { state = a.states; symbol = Ref j; children = [] } in (
        (
          refl,
          run_more (run_tree (a.rules ++ x ∷ []) x []
              (in_right x a.rules (x ∷ []) (inl refl)) run_none) run_none,
        ),
        tt,
      )

  above_low : (o : Option ℕ) (x : Rule) → IsIn x (edge_rules a.states o) → a.states ≤ x.state
  above_low o x i = let e = (edge_above o x i).0 in omega (arith, e)

  pub one_leaf : (j : ℕ) (u : Tree) → RunOf (a.rules ++ edge_rules a.states (Some j)) a.states u
      → u ≡ roll-Tree (record { symbol = Ref j; children = [] })
  one_leaf j u h =
      let x : Rule = record { state = a.states; symbol = Ref j; children = [] } in
      let k = fresh_run a (x ∷ []) ranked (above_low (Some j)) a.states u (omega arith) h in
      let e : k.0 ≡ x = one k.1 in
      sym (roll-out-Tree u)
      ∙ ap₂ (λ (y : Symbol) (ts : List Tree). tree_of y ts) (sym k.3 ∙ ap (λ (z : Rule). z.symbol) e)
      (runs_none (a.rules ++ x ∷ []) (out-Tree u).children
      (subst (λ (z : Rule). RunEach (a.rules ++ x ∷ []) z.children (out-Tree u).children) e k.4))
    where
      one : {y x : Rule} → IsIn y (x ∷ []) → y ≡ x
      one (inl e) = e
      one (inr i) = absurd i

  grown_is : (w : Grown) (s : Slot) (ts : List Tree) → s ≡ w.0 → w.1 ≡ ts → w ≡ (s, ts)
  grown_is w s ts e k = ap₂ (λ (x : Slot) (y : List Tree). (x, y)) (sym e) k

  pub edge_only : (o : Option ℕ) (vs : List Grown)
      → Paired (SlotRuns (a.rules ++ edge_rules a.states o)) (edge_place n a.states o ∷ []) vs
      → vs ≡ box_slot (λ k. k) n o ∷ []
  edge_only None [] h = absurd h
  edge_only None (v ∷ []) h = ap (λ (z : Grown). z ∷ []) (grown_is v (Hook n) [] h.0.0 (runs_none _ v.1 h.0.1))
  edge_only None (v ∷ (w ∷ vs)) h = absurd h.1
  edge_only (Some j) [] h = absurd h
  edge_only (Some j) (v ∷ []) h =
      let k = runs_one (a.rules ++ edge_rules a.states (Some j)) a.states v.1 h.0.1 in
      ap (λ (z : Grown). z ∷ [])
      (grown_is v (Link n) (roll-Tree (record { symbol = Ref j; children = [] }) ∷ []) h.0.0
      (k.1 ∙ ap (λ (z : Tree). z ∷ []) (one_leaf j k.0 k.2)))
  edge_only (Some j) (v ∷ (w ∷ vs)) h = absurd h.1

-- the slot of the box, with the new number of its output
pub slot_renumbered : (inner : List ℕ) (n : ℕ) (o : Option ℕ) → box_slot (λ k. k) n (new_output inner o)
    ≡ box_slot (number_without inner) n o
slot_renumbered inner n None = refl
slot_renumbered inner n (Some j) = refl

-- a root of which fields are taken is a port
pub taken_port : (autos : List Automaton) (ps : Ports) (ss : List ℕ) (r f : ℕ) → ArePortRoots autos ps ss
    → IsIn f (taken_at ps r) → (s : ℕ) × (fs : List ℕ) × IsPortRoot autos r s fs
taken_port autos [] ss r f h i = absurd i
taken_port autos (p ∷ ps) [] r f h i = absurd h
taken_port autos (p ∷ ps) (s ∷ ss) r f h i = here (nat_eq p.0 r) refl i (taken_port autos ps ss r f h.1)
  where
    here : (b : Bool) → nat_eq p.0 r ≡ b → IsIn f (if b then p.1 ++ taken_at ps r else taken_at ps r)
        → (IsIn f (taken_at ps r) → (s : ℕ) × (fs : List ℕ) × IsPortRoot autos r s fs)
        → (s : ℕ) × (fs : List ℕ) × IsPortRoot autos r s fs
    here true e k rec = (s, p.1, subst (λ (z : ℕ). IsPortRoot autos z s p.1) (eqb-true p.0 r e) h.0)
    here false e k rec = rec k

pub input_port : (bs : List BoxFace) (b : BoxDef) (i : ℕ) (o : Option ℕ) (ps : Ports) (ss : List ℕ)
    (autos : List Automaton) → PortsAre bs b i o ps ss → ArePortRoots autos ps ss → (s : ℕ) × (fs : List ℕ)
    × IsPortRoot autos i s fs
input_port bs b i None ps ss autos (a, ins, at, fields, ports, none, shapes) h = (
  b.face.input,
  ins,
  (subst (λ (z : List ℕ). ArePortRoots autos ((i, ins) ∷ []) z) shapes
      (subst (λ (z : Ports). ArePortRoots autos z ss) ports h)).0,
)
input_port bs b i (Some j) ps ss autos (a, c, ins, outs, t, at, to, fields, fields_out, ports, some, shapes) h = (
  b.face.input,
  ins,
  (subst (λ (z : List ℕ). ArePortRoots autos ((i, ins) ∷ ((j, outs) ∷ [])) z) shapes
      (subst (λ (z : Ports). ArePortRoots autos z ss) ports h)).0,
)

-- One rule stands at the top, under new numbers too.

abbrev pub one_moved : (h : ℕ → ℕ) (a : Automaton) → HasOneTop a → HasOneTop (moved_auto h a)
one_moved h a k = record {
  root = k.root;
  alone = k.alone;
  place = k.place;
  rule = placed_rule (λ z. At (h z)) k.rule;
  there = get_mapped (placed_rule (λ z. At (h z))) a.rules k.place k.rule k.there;
  top = k.top;
  only =
      λ i r e s.
      (let m = got_mapped (placed_rule (λ z. At (h z))) a.rules i r e in
      k.only i m.0 m.1 (sym (ap (λ (x : Rule). x.state) m.2) ∙ s));
}

pub some_moved : (h : ℕ → ℕ) (a : Automaton) → HasSome a → HasSome (moved_auto h a)
some_moved h a k = (moved_tree h k.0, (moved_language h a (moved_tree h k.0)).1 (k.0, k.1, refl))

pub top_moved : (h : ℕ → ℕ) (a : Automaton) (one : HasOneTop a) (s : ℕ) (ds : List Datum) (ss : List Slot)
    → one.rule.symbol ≡ CellSymbol s ds ss → (top_rule (moved_auto h a)).symbol ≡ CellSymbol s ds ss
top_moved h a one s ds ss e =
    ap (λ (x : Rule). x.symbol) (top_is (moved_auto h a) (one_moved h a one))
    ∙ ap (placed_symbol (λ z. At (h z))) e

-- Components of ports.

module _ (t : Boxes) (F : Forest) (over : IsOver t F) (n i : ℕ) (def : BoxDef) (there : slice_get t.defs n ≡ Some def)
    (out : Option ℕ) (g : BoxDef) (p : IsPart (faces_of t.defs) F def i out g) (fit : IsPartWithin g def) (h : ℕ → ℕ)
    (same : (k : ℕ) → k < length F.autos → (IsIn k p.inner → ⊥) → h k ≡ number_without p.inner k) (r : ℕ)
    (a : Automaton) (at : slice_get F.autos r ≡ Some a) (low_r : r < length F.autos) (own : IsIn r p.inner → ⊥) where
  abbrev bs : List BoxFace
  bs = faces_of t.defs

  abbrev f : ℕ → ℕ
  f = number_without p.inner

  abbrev fs : List ℕ
  fs = taken_at p.ports r

  abbrev b : Automaton
  b = moved_auto h a

  abbrev goal : Automaton → Type 0
  goal c = IsFoldedAuto bs f (gained (box_slot f n out) i r) fs a c

  auto_in : IsIn a F.autos
  auto_in = in_from_place F.autos r a at

  pub ranked_here : IsRanked b
  ranked_here = placed_ranked (λ z. At (h z)) a (every_in IsRanked F.autos a over.ranked auto_in)

  some : HasSome b
  some = some_moved h a (every_in HasSome F.autos a over.sound.full auto_in)

  module _ (shape : ℕ) (own_fields : List ℕ) (port : IsPortRoot F.autos r shape own_fields) where
    port_auto_is : port.auto ≡ a
    port_auto_is = same_Some port.auto a (sym port.there ∙ at)

    pub one_here : HasOneTop a
    one_here = subst HasOneTop port_auto_is port.one

    top_a : (z : Automaton) → port.auto ≡ z → (one : HasOneTop z)
        → one.rule.symbol ≡ CellSymbol shape port.datums port.slots
    top_a z e one =
        ap (λ (x : Rule). x.symbol) (sym (top_is z one) ∙ ap top_rule (sym e) ∙ top_is port.auto port.one) ∙ port.symbol

    pub top_here : (top_rule b).symbol ≡ CellSymbol shape port.datums port.slots
    top_here = top_moved h a one_here shape port.datums port.slots (top_a a port_auto_is one_here)

    tops : (v : Tree) → InLanguage b v → (out-Tree v).symbol ≡ CellSymbol shape port.datums port.slots
    tops v k = sym (tree_by_top b (one_moved h a one_here) v k).0 ∙ top_here

    -- the input after the fold
    pub input_folds : nat_eq i r ≡ true → goal (input_auto bs fs n (new_output p.inner out) b)
    input_folds e =
        let o = new_output p.inner out in
        let more : gained (box_slot f n out) i r ≡ box_slot (λ k. k) n o ∷ [] =
        rw e (ap (λ (z : Grown). z ∷ []) (sym (slot_renumbered p.inner n out))) in
        gained_folds t F over n i def there out g p fit h same r a at low_r own
        (input_auto bs fs n o b) shape port.datums port.slots tops
        (subst
        (λ (m : List Grown). (u : Tree) → InLanguage (input_auto bs fs n o b) u ↔ ((v : Tree) × InLanguage b v
        × (u ≡ cell_of shape port.datums (joined (grown_key bs) (left fs (top_places v)) m)))) (sym more)
        (gained_language bs b ranked_here (one_moved h a one_here) shape port.datums port.slots top_here fs
        (edge_rules b.states o)
        (edge_place n b.states o ∷ []) (box_slot (λ k. k) n o ∷ []) (edge_above b ranked_here n o)
        (edge_right b ranked_here n o)
        (edge_runs b ranked_here n o) (edge_only b ranked_here n o) some))

    -- another port after the fold
    pub output_folds : nat_eq i r ≡ false → goal (output_auto bs fs b)
    output_folds e =
        let more : gained (box_slot f n out) i r ≡ [] = rw e refl in
        gained_folds t F over n i def there out g p fit h same r a at low_r own
        (output_auto bs fs b) shape port.datums port.slots tops
        (subst
        (λ (m : List Grown). (u : Tree) → InLanguage (output_auto bs fs b) u ↔ ((v : Tree) × InLanguage b v
        × (u ≡ cell_of shape port.datums (joined (grown_key bs) (left fs (top_places v)) m)))) (sym more)
        (gained_language bs b ranked_here (one_moved h a one_here) shape port.datums port.slots top_here fs [] [] []
        (λ x j. absurd j) tt tt none_only some))
      where
        none_only : (vs : List Grown) → Paired (SlotRuns (b.rules ++ [])) [] vs → vs ≡ []
        none_only [] k = refl
        none_only (v ∷ vs) k = absurd k

  -- each component after the fold
  pub component_folds : goal (folded_component bs p.ports n i (new_output p.inner out) r b)
  component_folds = here (nat_eq i r) refl
    where
      other : nat_eq i r ≡ false → (gs : List ℕ) → fs ≡ gs → goal (other_auto bs gs b)
      other e [] q =
          plain_folds t F over n i def there out g p fit h same r a at low_r own q (rw e refl)
      other e (x ∷ gs) q =
          let k = taken_port F.autos p.ports p.shapes r x p.roots (subst (IsIn x) (sym q) (inl refl)) in
          subst (λ (z : List ℕ). goal (output_auto bs z b)) q (output_folds k.0 k.1 k.2 e)

      here : (w : Bool) → nat_eq i r ≡ w
          → goal (if w then input_auto bs fs n (new_output p.inner out) b else other_auto bs fs b)
      here true e =
          let k = input_port bs def i out p.ports p.shapes F.autos p.are_ports p.roots in
          let q : IsPortRoot F.autos r k.0 k.1 = subst (λ (z : ℕ). IsPortRoot F.autos z k.0 k.1) (eqb-true i r e) k.2 in
          input_folds k.0 k.1 q e
      here false e = other e fs refl

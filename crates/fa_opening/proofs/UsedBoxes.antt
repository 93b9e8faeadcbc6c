-- The boxes of the edges of dressed trees: those that rules use, and in an inside those before its own.
use Rattle.std.proofs.Common.{◌≡◌, ℕ, zero, suc, ◌<◌, ◌+◌, length, List, [], ◌∷◌, ◌++◌, subst, Some, arith}
use Rattle.std.proofs.lemmas.Option.{none-some, same_Some}
use Rattle.fore_base.specs.Lists.{IsIn, Every}
use Rattle.fore_base.specs.declared.shape.Shapes.{Shapes}
use Rattle.fore_base.specs.declared.store.Datum.{Datum}
use Rattle.fore_base.proofs.ListLemmas.{every_append, every_in}
use Rattle.ta_core.specs.Auto.{Automaton}
use Rattle.ta_core.specs.declared.auto.Rule.{Rule}
use Rattle.ta_core.specs.declared.symbol.Slot.{Slot}
use Rattle.ta_core.specs.declared.symbol.Symbol.{Symbol}
use Rattle.ta_core.specs.declared.symbol.Symbol.TheVariants.{Cell}
use Rattle.fa_core.specs.declared.boxes.BoxDef.{BoxDef}
use Rattle.fa_core.specs.Boxes.{AreSoundOver}
use Rattle.fa_core.specs.Dressed.{Node, Parts, End, Nodes, node, no_parts, field, link, hook, under, leaf, no_nodes}
use Rattle.fa_core.specs.Dressed.{more}
use Rattle.fa_core.specs.Member.{TreesOf, inside_of, slots_of}
use Rattle.fa_core.proofs.NodeRuns.{NodeRun, PartsRun, EndRun, bare_node}
use Rattle.fa_back.proofs.TablesKnown.{AllUse, SlotUses, SymbolUses, box_uses, length_next}
use Rattle.fa_unfold.specs.Opens.{all_boxes, end_boxes, slot_boxes, tree_boxes}

abbrev IsBelow : ℕ → ℕ → Type 0
IsBelow m b = b < m

-- Trees of rules that use boxes below m.

module _ (m : ℕ) (rules : List Rule) (uses : Every (λ (x : Rule). SymbolUses m x.symbol) rules) where
  rule_slots : (x : Rule) → IsIn x rules → (s : ℕ) (ds : List Datum) (ss : List Slot) → x.symbol ≡ Cell s ds ss
      → Every (SlotUses m) ss
  rule_slots x i s ds ss e =
      subst (λ (y : Symbol). SymbolUses m y) e (every_in (λ (x : Rule). SymbolUses m x.symbol) rules x uses i)

  mutual
    node_below : (q : ℕ) (n : Node) → NodeRun rules q n → Every (IsBelow m) (tree_boxes n)
    node_below q (node c s ds ps) k = slots_below k.0.children ps (rule_slots k.0 k.1 s ds (slots_of ps) k.3) k.4

    slots_below : (qs : List ℕ) (ps : Parts) → Every (SlotUses m) (slots_of ps) → PartsRun rules qs ps
        → Every (IsBelow m) (slot_boxes ps)
    slots_below qs no_parts w k = tt
    slots_below [] (field f e ps) w k = absurd k
    slots_below (q ∷ qs) (field f e ps) w k =
        every_append (IsBelow m) (end_boxes e) (slot_boxes ps) (end_below q e k.0) (slots_below qs ps w.1 k.1)
    slots_below [] (link b inside e ps) w k = absurd k
    slots_below (q ∷ qs) (link b inside e ps) w k =
        (w.0, every_append (IsBelow m) (end_boxes e) (slot_boxes ps) (end_below q e k.0) (slots_below qs ps w.1 k.1))
    slots_below qs (hook b inside ps) w k = (w.0, slots_below qs ps w.1 k)

    end_below : (q : ℕ) (e : End) → EndRun rules q e → Every (IsBelow m) (end_boxes e)
    end_below q (under n) k = node_below q n k
    end_below q (leaf t) k = tt

pub trees_below : (T : List BoxDef) (m : ℕ) (autos : List Automaton) (d : Nodes) → AllUse m autos → TreesOf T autos d
    → Every (λ b. b < m) (all_boxes d)
trees_below T m [] no_nodes u h = tt
trees_below T m [] (more n ns) u h = absurd h
trees_below T m (a ∷ autos) no_nodes u h = absurd h
trees_below T m (a ∷ autos) (more n ns) u h =
    every_append (IsBelow m) (tree_boxes n) (all_boxes ns)
    (node_below m a.rules u.0 h.0.0 n (bare_node a.rules h.0.0 n h.0.2)) (trees_below T m autos ns u.1 h.2)

-- The inside of a box of a table uses the boxes before it.

module _ (shapes : Shapes) where
  uses_from : (before defs : List BoxDef) → AreSoundOver shapes before defs → (k : ℕ) (autos : List Automaton)
      → inside_of defs k ≡ Some autos → AllUse (length before + k) autos
  uses_from before [] h k autos e = absurd (none-some autos e)
  uses_from before (x ∷ defs) h zero autos e =
      let z : length before ≡ length before + 0 = omega arith in
      subst (λ (n : ℕ). AllUse n autos) z
      (subst (λ (y : List Automaton). AllUse (length before) y) (same_Some x.inside.autos autos e)
      (box_uses shapes before x h.0))
  uses_from before (x ∷ defs) h (suc k) autos e =
      let l = length_next before x in
      let z : length (before ++ x ∷ []) + k ≡ length before + suc k = omega (arith, l) in
      subst (λ (n : ℕ). AllUse n autos) z (uses_from (before ++ x ∷ []) defs h.1 k autos e)

  pub inside_below : (T : List BoxDef) → AreSoundOver shapes [] T → (b : ℕ) (autos : List Automaton) (d : Nodes)
      → inside_of T b ≡ Some autos → TreesOf T autos d → Every (λ k. k < b) (all_boxes d)
  inside_below T h b autos d e t =
      let z : 0 + b ≡ b = omega arith in
      trees_below T b autos d (subst (λ (n : ℕ). AllUse n autos) z (uses_from [] T h b autos e)) t

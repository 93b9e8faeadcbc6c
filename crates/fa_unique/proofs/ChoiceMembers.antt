-- Each choice of trees of a filled forest without box edges is that of a dressed forest by which it stands for a store.
use Rattle.std.proofs.Common.{◌≡◌, ℕ, suc, List, [], ◌∷◌, map, refl, sym, ap, ap₂, ◌∙◌, arith}
use Rattle.fore_base.specs.Lists.{Every}
use Rattle.fore_base.specs.declared.store.Store.{Store}
use Rattle.fore_base.specs.declared.store.Value.{Value}
use Rattle.ta_core.specs.Auto.{Automaton, IsRanked}
use Rattle.ta_core.specs.declared.auto.Rule.{Rule}
use Rattle.ta_core.specs.declared.symbol.Slot.{Slot}
use Rattle.ta_core.specs.declared.symbol.Slot.TheVariants.{Field, Link, Hook}
use Rattle.ta_core.specs.declared.symbol.Symbol.{Symbol}
use Rattle.ta_core.specs.declared.symbol.Symbol.TheVariants.{Null, Uninit, Dangling, Ref, Cell}
use Rattle.ta_core.specs.declared.tree.Tree.{Tree, out-Tree}
use Rattle.fa_core.specs.declared.boxes.BoxDef.{BoxDef}
use Rattle.fa_core.specs.declared.faces.Face.{Face}
use Rattle.fa_core.specs.declared.forest.Forest.{Forest}
use Rattle.fa_core.specs.Boxes.{IsTableOf}
use Rattle.fa_core.specs.Boxless.{IsField, IsPlain, HasNoBoxes}
use Rattle.fa_core.specs.Choices.{bares}
use Rattle.fa_core.specs.Dressed.{Nodes, no_nodes}
use Rattle.fa_core.specs.Filled.{Choice, TopsAre, IsTopped, IsFilled}
use Rattle.fa_core.specs.Member.{StandsBy, bare}
use Rattle.fa_core.proofs.Dressing.{cell_is_no_leaf, leaf_top}
use Rattle.fa_facts.proofs.FullFacts.{fields_full}
use Rattle.fa_facts.proofs.NamedCells.{facts_named, root_values_named}
use Rattle.fa_sample.specs.inner.Dressing.{Making, Leaf, Under, Insides, made, root_made, roots_made, root_values}
use Rattle.fa_sample.specs.inner.Dressing.{forest_made, roots_begun}
use Rattle.fa_sample.proofs.Forests.{forest_dressed}
use Rattle.fa_sample.proofs.Numbering.{IsMade, SlotInside, SymbolInside, tree_made}
use Rattle.fa_sample.proofs.Standing.{stands}

-- no inside is made
abbrev no_insides_made : Insides
no_insides_made b ports k = (no_nodes, k)

module _ (T : List BoxDef) where
  plain_slots : (ss : List Slot) → Every IsField ss → Every (SlotInside T no_insides_made) ss
  plain_slots [] h = tt
  plain_slots (Field f ∷ ss) h = (tt, plain_slots ss h.1)
  plain_slots (Link b ∷ ss) h = absurd h.0
  plain_slots (Hook b ∷ ss) h = absurd h.0

  plain_symbol : (y : Symbol) → IsPlain y → SymbolInside T no_insides_made y
  plain_symbol Null h = tt
  plain_symbol Uninit h = tt
  plain_symbol Dangling h = tt
  plain_symbol (Ref r) h = tt
  plain_symbol (Cell s ds ss) h = plain_slots ss h

  plain_rules : (rs : List Rule) → Every (λ (r : Rule). IsPlain r.symbol) rs
      → Every (λ (r : Rule). SymbolInside T no_insides_made r.symbol) rs
  plain_rules [] h = tt
  plain_rules (r ∷ rs) h = (plain_symbol r.symbol h.0, plain_rules rs h.1)

  plain_autos : (autos : List Automaton) → Every HasNoBoxes autos
      → Every (λ (a : Automaton). Every (λ (r : Rule). SymbolInside T no_insides_made r.symbol) a.rules) autos
  plain_autos [] h = tt
  plain_autos (a ∷ autos) h = (plain_rules a.rules h.0, plain_autos autos h.1)

  -- the trees that are made are the chosen ones
  top_made : (vs : List Value) (t : Tree) (s : ℕ) → IsTopped s t → (m : Making) → IsMade T no_insides_made vs t m
      → (own k : ℕ) → bare (root_made m own k).0 ≡ t
  top_made vs t s h (Leaf u) e own k =
      absurd (cell_is_no_leaf u s h.0 h.1 (sym (leaf_top u) ∙ ap (λ (v : Tree). (out-Tree v).symbol) e ∙ h.2))
  top_made vs t s h (Under n ds p) e own k = (e own k).0

  trees_made : (vs : List Value) (autos : List Automaton) (ts : List Tree) (tops : List ℕ) → Every IsRanked autos
      → Every HasNoBoxes autos → Choice autos ts → TopsAre ts tops → (own k : ℕ)
      → bares (roots_made (map (made no_insides_made vs) ts) own k).0 ≡ ts
  trees_made vs [] [] tops r p c a own k = refl
  trees_made vs [] (t ∷ ts) tops r p c a own k = absurd c
  trees_made vs (x ∷ autos) [] tops r p c a own k = absurd c
  trees_made vs (x ∷ autos) (t ∷ ts) [] r p c a own k = absurd a
  trees_made vs (x ∷ autos) (t ∷ ts) (s ∷ tops) r p c a own k =
      ap₂ (λ (u : Tree) (us : List Tree). u ∷ us)
      (top_made vs t s a.0 (made no_insides_made vs t)
      (tree_made T no_insides_made vs x.states x.rules r.0.1 (plain_rules x.rules p.0) c.0.2) own k)
      (trees_made vs autos ts tops r.1 p.1 c.1 a.1 (suc own) (root_made (made no_insides_made vs t) own k).1)

-- the choice, as a dressed forest of a member
pub choice_member : (face : Face) (T : List BoxDef) → IsTableOf face T → (F : Forest) → IsFilled face F
    → Every HasNoBoxes F.autos → Every IsRanked F.autos → (ts : List Tree) → Choice F.autos ts
    → (s : Store) × (d : Nodes) × (bares d ≡ ts) × StandsBy face.shapes.structs T F d s
choice_member face T table F filled plain ranked ts c =
    let tops = filled.trees ts c in
    let k = forest_dressed T no_insides_made [] F.autos ts tops.tops 1 ranked (plain_autos T F.autos plain) c tops.are
    in
    let s = stands (record { face = face; defs = T }) F (forest_made no_insides_made [] ts 1).0 k.0
    (fields_full (record { face = face; defs = T }) table F filled (forest_made no_insides_made [] ts 1).0 k.0)
    (facts_named (forest_made no_insides_made [] ts 1).0)
    (root_values_named (forest_made no_insides_made [] ts 1).0) (forest_made no_insides_made [] ts 1).1
    (k.1 (omega arith) tt) in (
      _,
      (forest_made no_insides_made [] ts 1).0,
      trees_made T (root_values [] ts 1) F.autos ts tops.tops ranked plain c tops.are 1 (roots_begun [] ts 1),
      s,
    )

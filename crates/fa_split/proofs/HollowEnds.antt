-- Each tree with a run is that of an end. What stands inside its box edges has no effect, so nothing does.
use Rattle.std.proofs.Common.{◌≡◌, ℕ, zero, suc, ◌<◌, length, List, [], ◌∷◌, Option, Some, None, refl, sym}
use Rattle.std.proofs.Common.{ap, subst, ◌∙◌, arith, false}
use Rattle.std.proofs.lemmas.Option.{slice_get_within}
use Rattle.fore_base.specs.Lists.{Every}
use Rattle.fore_base.proofs.ListLemmas.{every_weaker}
use Rattle.ta_core.specs.Auto.{Automaton, IsRanked}
use Rattle.ta_core.specs.Language.{InLanguage, RunOf}
use Rattle.ta_core.specs.declared.auto.Rule.{Rule}
use Rattle.ta_core.specs.declared.symbol.Slot.{Slot}
use Rattle.ta_core.specs.declared.symbol.Slot.TheVariants.{Field, Link, Hook}
use Rattle.ta_core.specs.declared.symbol.Symbol.{Symbol}
use Rattle.ta_core.specs.declared.symbol.Symbol.TheVariants.{Null, Uninit, Dangling, Ref, Cell}
use Rattle.ta_core.specs.declared.tree.Tree.{Tree}
use Rattle.fa_core.specs.declared.boxes.BoxDef.{BoxDef}
use Rattle.fa_core.specs.declared.faces.BoxFace.{BoxFace}
use Rattle.fa_core.specs.declared.faces.Face.{Face}
use Rattle.fa_core.specs.declared.forest.Forest.{Forest}
use Rattle.fa_core.specs.Choices.{HasInside, HasInsides}
use Rattle.fa_core.specs.Dressed.{Node, End, no_nodes}
use Rattle.fa_core.specs.Filled.{face_of, HasOutput, HasNoOutput, SlotFits, SymbolFits, RulesFit, IsFilled, HasSome}
use Rattle.fa_core.specs.Member.{bare, bare_end, inside_of}
use Rattle.fa_core.proofs.Dressing.{dress}
use Rattle.fa_core.proofs.FilledKept.{top_of_filled}
use Rattle.fa_sound.specs.Components.{component_at}
use Rattle.fa_sound.proofs.ComponentLemmas.{component_got}
use Rattle.fa_back.proofs.Dressable.{insides_there}
use Rattle.fa_back.proofs.TablesKnown.{SlotUses, SymbolUses, RulesUse}
use Rattle.fa_merge.proofs.PlacedForests.{component_has, topped_node}

-- a box without components
abbrev hollow : BoxDef
hollow = record {
  name = [];
  face = record { input = 0; output = None; gives_in = []; gives_out = []; back = false };
  inside = record { autos = []; vars = []; data_vars = [] };
}

-- so many of them
abbrev hollows : ℕ → List BoxDef
hollows zero = []
hollows (suc n) = hollow ∷ hollows n

hollow_at : (n b : ℕ) → b < n → inside_of (hollows n) b ≡ Some []
hollow_at zero b l = absurd (omega (arith, l))
hollow_at (suc n) zero l = refl
hollow_at (suc n) (suc b) l = hollow_at n b (omega (arith, l))

hollow_inside : (n b : ℕ) → b < n → HasInside (hollows n) b
hollow_inside n b l = (no_nodes, [], hollow_at n b l, tt)

-- Symbols that fit use boxes of the face.

module _ (face : Face) where
  abbrev boxes : List BoxFace
  boxes = face.boxes

  output_within : (b : ℕ) (o : Option BoxFace) → face_of boxes b ≡ o → HasOutput o → b < length boxes
  output_within b None e h = absurd h
  output_within b (Some x) e h = slice_get_within boxes b x e

  no_output_within : (b : ℕ) (o : Option BoxFace) → face_of boxes b ≡ o → HasNoOutput o → b < length boxes
  no_output_within b None e h = absurd h
  no_output_within b (Some x) e h = slice_get_within boxes b x e

  slot_uses : (s : ℕ) (y : Slot) → SlotFits face s y → SlotUses (length boxes) y
  slot_uses s (Field f) h = tt
  slot_uses s (Link b) h = output_within b (face_of boxes b) refl h
  slot_uses s (Hook b) h = no_output_within b (face_of boxes b) refl h

  symbol_uses : (y : Symbol) → SymbolFits face y → SymbolUses (length boxes) y
  symbol_uses Null h = tt
  symbol_uses Uninit h = tt
  symbol_uses Dangling h = tt
  symbol_uses (Ref r) h = tt
  symbol_uses (Cell s ds ss) h = every_weaker (SlotFits face s) (SlotUses (length boxes)) ss (slot_uses s) h.3

  rules_use : (a : Automaton) → RulesFit face a → RulesUse (length boxes) a
  rules_use a h = every_weaker (λ (r : Rule). SymbolFits face r.symbol)
      (λ (r : Rule). SymbolUses (length boxes) r.symbol) a.rules (λ r i. symbol_uses r.symbol i) h

  hollow_insides : (a : Automaton) → RulesFit face a → HasInsides (hollows (length boxes)) a
  hollow_insides a h =
      (insides_there (hollows (length boxes)) (length boxes) (hollow_inside (length boxes)) (a ∷ [])
      (rules_use a h, tt)).0

  pub run_end : (a : Automaton) → IsRanked a → RulesFit face a → (q : ℕ) (t : Tree) → RunOf a.rules q t → (e : End)
      × (bare_end e ≡ t)
  run_end a ranked fit q t h =
      let d = dress (hollows (length boxes)) a.states a.rules ranked.1 (hollow_insides a fit) 0 h in
      (d.end, d.tree)

-- each tree of a component of a filled forest is that of a cell
pub tree_is_node : (face : Face) (F : Forest) → IsFilled face F → Every HasSome F.autos → Every IsRanked F.autos
    → (k : ℕ) → k < length F.autos → (t : Tree) → InLanguage (component_at F.autos k) t → (n : Node) × (bare n ≡ t)
tree_is_node face F filled full ranked k l t h =
    let a = component_at F.autos k in
    let e = run_end face a (component_has IsRanked F.autos k ranked l)
    (component_has (RulesFit face) F.autos k filled.rules l)
    h.0 t h.2 in
    let s = top_of_filled face F filled full k a (bare_end e.0) (component_got F.autos k l)
    (subst (λ (z : Tree). InLanguage a z) (sym e.1) h) in
    let n = topped_node e.0 s.0 s.1 in
    (n.0, sym (ap bare_end n.1) ∙ e.1)

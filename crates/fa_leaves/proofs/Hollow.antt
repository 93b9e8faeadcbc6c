-- Each choice of trees of a filled forest is that of a dressed forest, by a table whose insides have no component.
use Rattle.std.proofs.Common.{◌≡◌, ◌⊎◌, inl, inr, ℕ, zero, suc, List, [], ◌∷◌, map, refl, Option, Some, None, slice_get}
use Rattle.std.proofs.lemmas.Option.{none-some}
use Rattle.fore_base.specs.Lists.{Every}
use Rattle.ta_core.specs.Auto.{Automaton, IsRanked}
use Rattle.ta_core.specs.declared.auto.Rule.{Rule}
use Rattle.ta_core.specs.declared.symbol.Slot.{Slot}
use Rattle.ta_core.specs.declared.symbol.Slot.TheVariants.{Field, Link, Hook}
use Rattle.ta_core.specs.declared.symbol.Symbol.{Symbol}
use Rattle.ta_core.specs.declared.symbol.Symbol.TheVariants.{Null, Uninit, Dangling, Ref, Cell}
use Rattle.ta_core.specs.declared.tree.Tree.{Tree}
use Rattle.fa_core.specs.declared.boxes.BoxDef.{BoxDef}
use Rattle.fa_core.specs.declared.faces.BoxFace.{BoxFace}
use Rattle.fa_core.specs.declared.faces.Face.{Face}
use Rattle.fa_core.specs.declared.forest.Forest.{Forest}
use Rattle.fa_core.specs.Choices.{HasInside, SlotHasInside, SymbolHasInsides, HasInsides}
use Rattle.fa_core.specs.Dressed.{no_nodes}
use Rattle.fa_core.specs.Filled.{Choice, IsFilled, SlotFits, SymbolFits, RulesFit, HasOutput, HasNoOutput, face_of}
use Rattle.fa_core.specs.Member.{inside_of}
use Rattle.fa_core.proofs.Dressing.{IsDressedChoice, dress_all}

-- a box with nothing inside
abbrev pub hollow : BoxFace → BoxDef
hollow x = record { name = []; face = x; inside = record { autos = []; vars = []; data_vars = [] } }

abbrev pub hollow_table : List BoxFace → List BoxDef
hollow_table bs = map hollow bs

has_hollow : (bs : List BoxFace) (b : ℕ) (x : BoxFace) → slice_get bs b ≡ Some x
    → inside_of (hollow_table bs) b ≡ Some []
has_hollow [] b x e = absurd (none-some x e)
has_hollow (y ∷ bs) zero x e = refl
has_hollow (y ∷ bs) (suc b) x e = has_hollow bs b x e

inside_there : (bs : List BoxFace) (b : ℕ) (o : Option BoxFace) → slice_get bs b ≡ o → HasOutput o ⊎ HasNoOutput o
    → HasInside (hollow_table bs) b
inside_there bs b None e (inl h) = absurd h
inside_there bs b None e (inr h) = absurd h
inside_there bs b (Some x) e h = (no_nodes, [], has_hollow bs b x e, tt)

module _ (face : Face) where
  slots_hollow : (s : ℕ) (ss : List Slot) → Every (SlotFits face s) ss
      → Every (SlotHasInside (hollow_table face.boxes)) ss
  slots_hollow s [] h = tt
  slots_hollow s (Field f ∷ ss) h = (tt, slots_hollow s ss h.1)
  slots_hollow s (Link b ∷ ss) h = (
    inside_there face.boxes b (face_of face.boxes b) refl
        (inl h.0),
    slots_hollow s ss h.1,
  )
  slots_hollow s (Hook b ∷ ss) h = (
    inside_there face.boxes b (face_of face.boxes b) refl
        (inr h.0),
    slots_hollow s ss h.1,
  )

  symbol_hollow : (y : Symbol) → SymbolFits face y → SymbolHasInsides (hollow_table face.boxes) y
  symbol_hollow Null h = tt
  symbol_hollow Uninit h = tt
  symbol_hollow Dangling h = tt
  symbol_hollow (Ref r) h = tt
  symbol_hollow (Cell s ds ss) h = slots_hollow s ss h.3

  -- the boxes of rules that fit have insides
  pub rules_hollow : (rs : List Rule) → Every (λ (r : Rule). SymbolFits face r.symbol) rs
      → Every (λ (r : Rule). SymbolHasInsides (hollow_table face.boxes) r.symbol) rs
  rules_hollow [] h = tt
  rules_hollow (r ∷ rs) h = (symbol_hollow r.symbol h.0, rules_hollow rs h.1)

  pub autos_hollow : (autos : List Automaton) → Every (RulesFit face) autos
      → Every (HasInsides (hollow_table face.boxes)) autos
  autos_hollow [] h = tt
  autos_hollow (a ∷ autos) h = (rules_hollow a.rules h.0, autos_hollow autos h.1)

  -- the law: each choice of a filled forest is dressed
  pub filled_dressed : (F : Forest) (k : ℕ) → IsFilled face F → Every IsRanked F.autos → (ts : List Tree)
      → Choice F.autos ts → IsDressedChoice (hollow_table face.boxes) k F.autos ts
  filled_dressed F k h ranked ts c = dress_all (hollow_table face.boxes) k F.autos ts (h.trees ts c).tops ranked
      (autos_hollow F.autos h.rules) c (h.trees ts c).are

-- The cell at the top of a tree of a filled forest.
use Rattle.std.proofs.Common.{◌≡◌, ℕ, zero, suc, ◌+◌, List, [], ◌∷◌, map, sym, ap, subst, ◌∙◌, Some, slice_get}
use Rattle.std.proofs.Common.{arith}
use Rattle.std.proofs.lemmas.Option.{none-some, same_Some}
use Rattle.fore_base.specs.Lists.{Every}
use Rattle.fore_base.specs.declared.store.Datum.{Datum}
use Rattle.ta_core.specs.Auto.{Automaton}
use Rattle.ta_core.specs.Language.{InLanguage}
use Rattle.ta_core.specs.declared.symbol.Slot.{Slot}
use Rattle.ta_core.specs.declared.symbol.Symbol.{Symbol}
use Rattle.ta_core.specs.declared.symbol.Symbol.TheVariants.{Cell}
use Rattle.ta_core.specs.declared.tree.Tree.{Tree, out-Tree, roll-out-Tree, para-roll-Tree}
use Rattle.fa_core.specs.Filled.{Spot, spots, spots_at, IsFilledSpot, Choice, TopsAre, IsTopped, TreesFilled, given_at}
use Rattle.fa_core.specs.declared.faces.BoxFace.{BoxFace}
use Rattle.fa_core.specs.declared.faces.Face.{Face}
use Rattle.fa_sound.specs.Components.{component_at}

-- each child with what `spots` asks of it
abbrev pub with_spots : List BoxFace → List Tree → List (Tree × (List ℕ → List Spot))
with_spots bs us = map (λ (c : Tree). (c, spots bs c)) us

pub in_component : (autos : List Automaton) (ts : List Tree) (r : ℕ) (t : Tree) → Choice autos ts
    → slice_get ts r ≡ Some t → InLanguage (component_at autos r) t
in_component [] [] r t c e = absurd (none-some t e)
in_component [] (u ∷ ts) r t c e = absurd c
in_component (a ∷ autos) [] r t c e = absurd c
in_component (a ∷ autos) (u ∷ ts) zero t c e = subst (InLanguage a) (same_Some u t e) c.0
in_component (a ∷ autos) (u ∷ ts) (suc r) t c e = in_component autos ts r t c.1 e

pub topped_at : (ts : List Tree) (tops : List ℕ) (r : ℕ) (t : Tree) → TopsAre ts tops → slice_get ts r ≡ Some t
    → (s : ℕ) × IsTopped s t
topped_at [] tops r t h e = absurd (none-some t e)
topped_at (u ∷ ts) [] r t h e = absurd h
topped_at (u ∷ ts) (s ∷ tops) zero t h e = (s, subst (IsTopped s) (same_Some u t e) h.0)
topped_at (u ∷ ts) (s ∷ tops) (suc r) t h e = topped_at ts tops r t h.1 e

-- the tree at place r, among those of the roots from k on
pub spots_filled : (face : Face) (all : List Tree) (tops : List ℕ) (k : ℕ) (ts : List Tree) (r : ℕ) (t : Tree)
    → TreesFilled face all tops k ts → slice_get ts r ≡ Some t
    → Every (IsFilledSpot face tops) (spots face.boxes t (given_at face.boxes all (k + r)))
spots_filled face all tops k [] r t h e = absurd (none-some t e)
spots_filled face all tops k (u ∷ ts) zero t h e =
    let n : k ≡ k + 0 = omega arith in
    subst (λ (m : ℕ). Every (IsFilledSpot face tops) (spots face.boxes t (given_at face.boxes all m))) n
    (subst (λ (z : Tree). Every (IsFilledSpot face tops) (spots face.boxes z (given_at face.boxes all k)))
    (same_Some u t e) h.0)
spots_filled face all tops k (u ∷ ts) (suc r) t h e =
    let n : suc k + r ≡ k + suc r = omega arith in
    subst (λ (m : ℕ). Every (IsFilledSpot face tops) (spots face.boxes t (given_at face.boxes all m))) n
    (spots_filled face all tops (suc k) ts r t h.1 e)

-- the top of a tree is filled
pub top_filled : (face : Face) (tops : List ℕ) (t : Tree) (above : List ℕ) (s : ℕ) (ds : List Datum) (ss : List Slot)
    → (out-Tree t).symbol ≡ Cell s ds ss → Every (IsFilledSpot face tops) (spots face.boxes t above)
    → IsFilledSpot face tops
    (record {
      shape = s;
      slots = ss;
      ends = map (λ c. (out-Tree c.0).symbol) (with_spots face.boxes (out-Tree t).children);
      given = above;
    })
top_filled face tops t above s ds ss e h =
    (subst
    (λ (y : Symbol). Every (IsFilledSpot face tops)
    (spots_at face.boxes y (with_spots face.boxes (out-Tree t).children) above)) e
    (subst (λ (l : List Spot). Every (IsFilledSpot face tops) l) opened h)).0
  where
    opened : spots face.boxes t above
        ≡ spots_at face.boxes (out-Tree t).symbol (with_spots face.boxes (out-Tree t).children) above
    opened =
        ap (λ (z : Tree). spots face.boxes z above) (sym (roll-out-Tree t))
        ∙ ap (λ (f : List ℕ → List Spot). f above)
        (para-roll-Tree (List ℕ → List Spot) (λ x. spots_at face.boxes x.symbol x.children) (out-Tree t))

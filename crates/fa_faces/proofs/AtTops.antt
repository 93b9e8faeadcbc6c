-- What stands at the tops of the trees of components and ports.
use Rattle.std.proofs.Common.{◌≡◌, ◌≢◌, inl, inr, ℕ, zero, suc, ◌<◌, Bool, true, false, true≢false, not, nat_eq}
use Rattle.std.proofs.Common.{MatchBool, List, [], ◌∷◌, flat_map, Option, Some, None, slice_get, refl, sym, ap}
use Rattle.std.proofs.Common.{subst, ◌∙◌, arith}
use Rattle.std.proofs.lemmas.Bool.{eqb-true, eq-eqb, not-false, not-true}
use Rattle.std.proofs.lemmas.Option.{none-some, same_Some}
use Rattle.fore_base.specs.Lists.{IsIn, Every}
use Rattle.fore_base.specs.declared.store.Datum.{Datum}
use Rattle.fore_base.proofs.ListLemmas.{every_in}
use Rattle.ta_core.specs.Auto.{Automaton, IsRanked}
use Rattle.ta_core.specs.Language.{InLanguage, IsTrim}
use Rattle.ta_core.specs.declared.symbol.Slot.{Slot}
use Rattle.ta_core.specs.declared.symbol.Symbol.{Symbol}
use Rattle.ta_core.specs.declared.symbol.Symbol.TheVariants.{Null, Uninit, Dangling, Ref, Cell}
use Rattle.ta_core.specs.declared.tree.Tree.{Tree, out-Tree}
use Rattle.fa_core.specs.declared.boxes.BoxDef.{BoxDef}
use Rattle.fa_core.specs.declared.faces.BoxFace.{BoxFace}
use Rattle.fa_core.specs.declared.faces.Face.{Face}
use Rattle.fa_core.specs.Boxes.{CoverSome, PortsCover}
use Rattle.fa_core.specs.Cells.{is_leaf}
use Rattle.fa_core.specs.Filled.{IsTopped, HasField, covers}
use Rattle.fa_core.specs.Folding.{covered_fields, symbol_slots}
use Rattle.fa_boxes.specs.Tops.{HasNoLeaf, AreTopped}
use Rattle.fa_box_rules.specs.Rules.{Breaks5, takes_leaf, other_struct, covers_apart, covers_none, port_count}
use Rattle.fa_box_rules.specs.Rules.{structs_of}
use Rattle.fa_box_rules.proofs.SoundBoxes.{top_same}
use Rattle.fa_faces.specs.Faults.{box_inside}
use Rattle.fa_faces.specs.inner.Parts.{AreTopsRight}
use Rattle.fa_faces.specs.inner.Ports.{TakesLeaf, IsPortRight, OtherStruct, PortApart, IsInputRight, CoversNone}
use Rattle.fa_faces.specs.inner.Ports.{InputApart}
use Rattle.fa_faces.proofs.Witness.{found_or_none}

-- Symbols.

-- a symbol that is no leaf is a cell
cell_is : (y : Symbol) → is_leaf y ≡ false → (u : ℕ) × (ds : List Datum) × (ss : List Slot) × (y ≡ Cell u ds ss)
cell_is Null e = absurd (true≢false e)
cell_is Uninit e = absurd (true≢false e)
cell_is Dangling e = absurd (true≢false e)
cell_is (Ref r) e = absurd (true≢false e)
cell_is (Cell u ds ss) e = (u, ds, ss, refl)

-- a cell of another struct than s
abbrev other : ℕ → Symbol → Bool
other s Null = false
other s Uninit = false
other s Dangling = false
other s (Ref r) = false
other s (Cell u ds ss) = not (nat_eq u s)

other_is : (s : ℕ) (y : Symbol) → other s y ≡ true → (u : ℕ) × (ds : List Datum) × (ss : List Slot) × (y ≡ Cell u ds ss)
    × (u ≢ s)
other_is s Null e = absurd (true≢false (sym e))
other_is s Uninit e = absurd (true≢false (sym e))
other_is s Dangling e = absurd (true≢false (sym e))
other_is s (Ref r) e = absurd (true≢false (sym e))
other_is s (Cell u ds ss) e =
    (u, ds, ss, refl, (λ q. true≢false (sym (eq-eqb u s q) ∙ not-true (nat_eq u s) e)))

same_is : (s : ℕ) (y : Symbol) → is_leaf y ≡ false → other s y ≡ false → (ds : List Datum) × (ss : List Slot)
    × (y ≡ Cell s ds ss)
same_is s Null l e = absurd (true≢false l)
same_is s Uninit l e = absurd (true≢false l)
same_is s Dangling l e = absurd (true≢false l)
same_is s (Ref r) l e = absurd (true≢false l)
same_is s (Cell u ds ss) l e =
    (ds, ss, ap (λ (x : ℕ). Cell x ds ss) (eqb-true u s (not-false (nat_eq u s) e)))

-- the list is empty
abbrev is_none : List ℕ → Bool
is_none [] = true
is_none (f ∷ fs) = false

none_is : (fs : List ℕ) → is_none fs ≡ true → HasField fs → ⊥
none_is [] e h = h
none_is (f ∷ fs) e h = true≢false (sym e)

some_is : (fs : List ℕ) → is_none fs ≡ false → HasField fs
some_is [] e = true≢false e
some_is (f ∷ fs) e = tt

-- Components.

pub match_from : {A B : Type 0} (b : Bool) → (b ≡ true → A) → (b ≡ false → B) → MatchBool b A B
match_from true f g = f refl
match_from false f g = g refl

module _ (a : Automaton) (ranked : IsRanked a) (trim : IsTrim a) where
  pub leaf_found : (HasNoLeaf a → ⊥) → (t : Tree) × InLanguage a t × (is_leaf (out-Tree t).symbol ≡ true)
  leaf_found n = elim (found_or_none a ranked trim is_leaf) [ inl f ↦ f | inr k ↦ absurd (n k) ]

  pub struct_found : (s : ℕ) → HasNoLeaf a → (AreTopped s a → ⊥) → OtherStruct s a
  struct_found s cells n = elim (found_or_none a ranked trim (other s)) [
    | inl f ↦ (let c = other_is s (out-Tree f.0).symbol f.2 in (c.0, f.0, f.1, (c.1, c.2, c.3), c.4))
    | inr k ↦ absurd (n (λ t i. same_is s (out-Tree t).symbol (cells t i) (k t i)))
  ]

  pub none_found : (bs : List BoxFace) → (CoverSome bs a → ⊥) → CoversNone bs a
  none_found bs n = elim (found_or_none a ranked trim (λ y. is_none (flat_map (covers bs) (symbol_slots y)))) [
    | inl f ↦ (f.0, f.1, none_is (covered_fields bs f.0) f.2)
    | inr k ↦ absurd (n (λ t i. some_is (covered_fields bs t) (k t i)))
  ]

-- Boxes.

pub all_topped : (autos : List Automaton) → Every HasNoLeaf autos → (a : Automaton) (t : Tree) → IsIn a autos
    → InLanguage a t → (u : ℕ) × IsTopped u t
all_topped autos cells a t i l =
    let n = every_in HasNoLeaf autos a cells i in
    let c = cell_is (out-Tree t).symbol (n t l) in
    (c.0, (c.1, c.2, c.3))

pub leaf_five : (face : Face) (T : List BoxDef) (input : ℕ) (output : Option ℕ) (autos : List Automaton)
    → TakesLeaf autos → Breaks5 face T (box_inside input output autos)
leaf_five face T input output autos h = takes_leaf h.0 h.1 h.2 h.3 h.4

first_struct : (input : ℕ) (output : Option ℕ) → slice_get (structs_of input output) 0 ≡ Some input
first_struct input None = refl
first_struct input (Some s) = refl

first_port : (output : Option ℕ) → 0 < port_count output
first_port None = omega arith
first_port (Some s) = omega arith

module _ (face : Face) (T : List BoxDef) (input : ℕ) (output : Option ℕ) (autos : List Automaton) where
  port_five : (r s : ℕ) (a : Automaton) → slice_get (structs_of input output) r ≡ Some s → slice_get autos r ≡ Some a
      → r < port_count output → PortApart face.boxes s a → Breaks5 face T (box_inside input output autos)
  port_five r s a e g l (inl o) = other_struct r s o.0 a o.1 e g o.2 o.3 o.4
  port_five r s a e g l (inr c) = covers_apart r c.0 a c.1 c.2 l g c.3 c.4 c.5 c.6

  pub input_five : (a : Automaton) → slice_get autos 0 ≡ Some a → InputApart face.boxes input a
      → Breaks5 face T (box_inside input output autos)
  input_five a g (inl p) = port_five 0 input a (first_struct input output) g (first_port output) p
  input_five a g (inr n) = covers_none a n.0 g n.1 n.2

pub output_five : (face : Face) (T : List BoxDef) (input s : ℕ) (autos : List Automaton) (a : Automaton)
    → slice_get autos 1 ≡ Some a → PortApart face.boxes s a → Breaks5 face T (box_inside input (Some s) autos)
output_five face T input s autos a g p = port_five face T input (Some s) autos 1 s a refl g (omega arith) p

struct_is : (s : ℕ) (a : Automaton) (t : Tree) (u : ℕ) → AreTopped s a → InLanguage a t → IsTopped u t → u ≡ s
struct_is s a t u h l k = top_same t u s k (h t l)

pub one_right : (bs : List BoxFace) (input : ℕ) (autos : List Automaton) (a : Automaton) → Every HasNoLeaf autos
    → slice_get autos 0 ≡ Some a → IsInputRight bs input a → AreTopsRight bs (box_inside input None autos)
one_right bs input autos a cells g h = record {
  cells = cells;
  tops = all_topped autos cells;
  structs = structs;
  covers = covers_one autos g;
}
  where
    structs : (r s u : ℕ) (c : Automaton) (t : Tree) → slice_get (structs_of input None) r ≡ Some s
        → slice_get autos r ≡ Some c → InLanguage c t → IsTopped u t → u ≡ s
    structs zero s u c t e k l i =
        let q : a ≡ c = same_Some a c (sym g ∙ k) in
        struct_is input a t u h.0.0 (subst (λ (x : Automaton). InLanguage x t) (sym q) l) i ∙ same_Some input s e
    structs (suc r) s u c t e k l i = absurd (none-some s e)

    covers_one : (all : List Automaton) → slice_get all 0 ≡ Some a → PortsCover bs None all
    covers_one [] e = absurd (none-some a e)
    covers_one (c ∷ cs) e =
        subst (λ (x : Automaton). PortsCover bs None (x ∷ cs)) (sym (same_Some c a e)) (h.0.1, h.1)

pub two_right : (bs : List BoxFace) (input s : ℕ) (autos : List Automaton) (a o : Automaton) → Every HasNoLeaf autos
    → slice_get autos 0 ≡ Some a → slice_get autos 1 ≡ Some o → IsInputRight bs input a → IsPortRight bs s o
    → AreTopsRight bs (box_inside input (Some s) autos)
two_right bs input s autos a o cells g j h k = record {
  cells = cells;
  tops = all_topped autos cells;
  structs = structs;
  covers = covers_two autos g j;
}
  where
    structs : (r v u : ℕ) (c : Automaton) (t : Tree) → slice_get (structs_of input (Some s)) r ≡ Some v
        → slice_get autos r ≡ Some c → InLanguage c t → IsTopped u t → u ≡ v
    structs zero v u c t e w l i =
        let q : a ≡ c = same_Some a c (sym g ∙ w) in
        struct_is input a t u h.0.0 (subst (λ (x : Automaton). InLanguage x t) (sym q) l) i ∙ same_Some input v e
    structs (suc zero) v u c t e w l i =
        let q : o ≡ c = same_Some o c (sym j ∙ w) in
        struct_is s o t u k.0 (subst (λ (x : Automaton). InLanguage x t) (sym q) l) i ∙ same_Some s v e
    structs (suc (suc r)) v u c t e w l i = absurd (none-some v e)

    covers_two : (all : List Automaton) → slice_get all 0 ≡ Some a → slice_get all 1 ≡ Some o
        → PortsCover bs (Some s) all
    covers_two [] e w = absurd (none-some a e)
    covers_two (c ∷ []) e w = absurd (none-some o w)
    covers_two (c ∷ (d ∷ cs)) e w =
        subst (λ (x : Automaton). PortsCover bs (Some s) (x ∷ (d ∷ cs))) (sym (same_Some c a e))
        (subst (λ (x : Automaton). PortsCover bs (Some s) (a ∷ (x ∷ cs))) (sym (same_Some d o w)) (h.0.1, h.1, k.1))

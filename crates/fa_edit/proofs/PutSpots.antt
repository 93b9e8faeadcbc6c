-- The cells of a tree with another leaf in a field of its top: those below stay, and the top is filled where the leaf
-- fits the field.
use Rattle.std.proofs.Common.{◌≡◌, ℕ, Bool, true, false, nat_eq, if◌then◌else◌, List, [], ◌∷◌, ◌++◌, Some, refl, sym}
use Rattle.std.proofs.Common.{ap, subst}
use Rattle.std.proofs.lemmas.Bool.{eqb-true}
use Rattle.std.proofs.lemmas.Option.{same_Some}
use Rattle.fore_base.specs.Lists.{Every}
use Rattle.ta_core.specs.declared.symbol.Slot.{Slot}
use Rattle.ta_core.specs.declared.symbol.Slot.TheVariants.{Field, Link, Hook}
use Rattle.ta_core.specs.declared.symbol.Symbol.{Symbol}
use Rattle.fa_core.specs.declared.faces.BoxFace.{BoxFace}
use Rattle.fa_core.specs.declared.faces.Face.{Face}
use Rattle.fa_core.specs.declared.forest.Target.{Target}
use Rattle.fa_core.specs.Dressed.{Node, Parts, End, node, no_parts, field, link, hook, leaf}
use Rattle.fa_core.specs.Filled.{Spot, spots, target_of, FieldEnds, EndsFit, IsFilledSpot}
use Rattle.fa_core.specs.Member.{bare, slots_of, leaf_symbol}
use Rattle.fa_core.specs.Ways.{gives_out_of}
use Rattle.fa_core.proofs.Dressing.{leaf_top}
use Rattle.fa_core.proofs.NodeSpots.{end_symbols, node_spots, parts_spots, end_spots, spots_are}
use Rattle.fa_edit.specs.Leaves.{end_of_field, put_leaf, with_leaf}
use Rattle.fa_split.specs.Split.{top_parts}

module _ (f : ℕ) (u : Target) where
  slots_put : (ps : Parts) → slots_of (put_leaf f u ps) ≡ slots_of ps
  slots_put no_parts = refl
  slots_put (field g e ps) = here (nat_eq g f) (slots_put ps)
    where
      here : (b : Bool) → slots_of (put_leaf f u ps) ≡ slots_of ps
          → slots_of (if b then field g (leaf u) ps else field g e (put_leaf f u ps)) ≡ Field g ∷ slots_of ps
      here true s = refl
      here false s = ap (λ (ss : List Slot). Field g ∷ ss) s
  slots_put (link b inside e ps) = ap (λ (ss : List Slot). Link b ∷ ss) (slots_put ps)
  slots_put (hook b inside ps) = ap (λ (ss : List Slot). Hook b ∷ ss) (slots_put ps)

  -- a leaf has no cells below it, and none come
  spots_put : (bs : List BoxFace) (t : Target) (ps : Parts) → end_of_field f ps ≡ Some (leaf t)
      → parts_spots bs (put_leaf f u ps) ≡ parts_spots bs ps
  spots_put bs t no_parts h = refl
  spots_put bs t (field g e ps) h = here (nat_eq g f) h (spots_put bs t ps)
    where
      here : (b : Bool) → (if b then Some e else end_of_field f ps) ≡ Some (leaf t)
          → (end_of_field f ps ≡ Some (leaf t) → parts_spots bs (put_leaf f u ps) ≡ parts_spots bs ps)
          → parts_spots bs (if b then field g (leaf u) ps else field g e (put_leaf f u ps)) ≡ end_spots bs [] e
          ++ parts_spots bs ps
      here true s later = ap (λ (x : End). end_spots bs [] x ++ parts_spots bs ps) (sym (same_Some e (leaf t) s))
      here false s later = ap (λ (xs : List Spot). end_spots bs [] e ++ xs) (later s)
  spots_put bs t (link b inside e ps) h =
      ap (λ (xs : List Spot). end_spots bs (gives_out_of bs b) e ++ xs) (spots_put bs t ps h)
  spots_put bs t (hook b inside ps) h = spots_put bs t ps h

  module _ (face : Face) (tops : List ℕ) (s : ℕ)
      (fits : (t : ℕ) → target_of face.shapes.structs s f ≡ Some t → FieldEnds tops t (leaf_symbol u)) where
    ends_put : (ps : Parts) → EndsFit face tops s (slots_of ps) (end_symbols ps)
        → EndsFit face tops s (slots_of (put_leaf f u ps)) (end_symbols (put_leaf f u ps))
    ends_put no_parts h = h
    ends_put (field g e ps) h = here (nat_eq g f) refl (ends_put ps h.1)
      where
        here : (b : Bool) → nat_eq g f ≡ b
            → EndsFit face tops s (slots_of (put_leaf f u ps)) (end_symbols (put_leaf f u ps))
            → EndsFit face tops s (slots_of (if b then field g (leaf u) ps else field g e (put_leaf f u ps)))
            (end_symbols (if b then field g (leaf u) ps else field g e (put_leaf f u ps)))
        here true w later =
            let k = h.0 in (
              (
                k.0,
                k.1,
                subst (λ (y : Symbol). FieldEnds tops k.0 y) (sym (leaf_top u))
                    (fits k.0 (subst (λ (n : ℕ). target_of face.shapes.structs s n ≡ Some k.0) (eqb-true g f w) k.1)),
              ),
              h.1,
            )
        here false w later = (h.0, later)
    ends_put (link b inside e ps) h = (h.0, ends_put ps h.1)
    ends_put (hook b inside ps) h = (h.0, ends_put ps h.1)

-- the struct of a cell
abbrev pub node_shape : Node → ℕ
node_shape (node c s ds ps) = s

pub put_filled : (face : Face) (tops : List ℕ) (f : ℕ) (t u : Target) (n : Node) → end_of_field f (top_parts n)
    ≡ Some (leaf t)
    → ((k : ℕ) → target_of face.shapes.structs (node_shape n) f ≡ Some k → FieldEnds tops k (leaf_symbol u))
    → (above : List ℕ) → Every (IsFilledSpot face tops) (spots face.boxes (bare n) above)
    → Every (IsFilledSpot face tops) (spots face.boxes (bare (with_leaf f u n)) above)
put_filled face tops f t u (node c s ds ps) h fits above all =
    let old : Every (IsFilledSpot face tops) (node_spots face.boxes (node c s ds ps) above) =
    subst (λ (l : List Spot). Every (IsFilledSpot face tops) l) (spots_are face.boxes (node c s ds ps) above) all
    in
    let same = slots_put f u ps in
    subst (λ (l : List Spot). Every (IsFilledSpot face tops) l)
    (sym (spots_are face.boxes (node c s ds (put_leaf f u ps)) above)) (
      record {
        ends = ends_put f u face tops s fits ps old.0.ends;
        order = rw same old.0.order;
        once = rw same old.0.once;
      },
      subst (λ (l : List Spot). Every (IsFilledSpot face tops) l) (sym (spots_put f u face.boxes t ps h)) old.1,
    )

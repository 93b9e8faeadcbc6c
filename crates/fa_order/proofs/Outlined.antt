-- The law on outlines: where each choice of trees of a forest has the outlines of a choice of a canonical forest, the
-- forest is canonical.
use Rattle.std.proofs.Common.{◌≡◌, ℕ, ◌<◌, length, List, [], ◌∷◌, map, refl, sym, ap, subst, ◌∙◌}
use Rattle.fore_base.specs.Lists.{Every, Paired}
use Rattle.ta_core.specs.Auto.{Automaton}
use Rattle.ta_core.specs.Language.{IsWithin}
use Rattle.ta_core.specs.Single.{HasOneTop}
use Rattle.ta_core.specs.declared.symbol.Slot.{Slot}
use Rattle.ta_core.specs.declared.symbol.Slot.TheVariants.{Field, Link, Hook}
use Rattle.ta_core.specs.declared.symbol.Symbol.{Symbol}
use Rattle.ta_core.specs.declared.symbol.Symbol.TheVariants.{Null, Uninit, Dangling, Ref, Cell}
use Rattle.ta_core.specs.declared.tree.Tree.{Tree, out-Tree}
use Rattle.fa_core.specs.Canonical.{IsCanonical, IsRootKind, IsUntied, Walks, GoesOn, refs_at, var_roots, at_fields}
use Rattle.fa_core.specs.Canonical.{fields_under, field_trees}
use Rattle.fa_core.specs.Filled.{Choice, IsWellFormed}
use Rattle.fa_core.specs.Ways.{ways, ways_at, roots_met}
use Rattle.fa_core.specs.declared.faces.BoxFace.{BoxFace}
use Rattle.fa_core.specs.declared.faces.Face.{Face}
use Rattle.fa_core.specs.declared.forest.Forest.{Forest}
use Rattle.fa_core.specs.declared.forest.Target.{Target}
use Rattle.fa_core.proofs.WayParts.{ways_out}
use Rattle.fa_order.specs.Outlines.{Stub, leaf, cell, Outline, outline, stub, stub_by}
use Rattle.fa_order.specs.inner.Following.{EndFollows, StaysTame}
use Rattle.fa_order.proofs.SameMarks.{met_refers}
use Rattle.fa_order.proofs.Tame.{kinds_too, untied_too, order_too}

-- Stubs.

abbrev shown_roots : Stub → List ℕ
shown_roots (leaf Null) = []
shown_roots (leaf Uninit) = []
shown_roots (leaf Dangling) = []
shown_roots (leaf (Ref r)) = r ∷ []
shown_roots (leaf (Cell s ds ss)) = []
shown_roots (cell rs) = rs

abbrev shown_leaf : Stub → Symbol
shown_leaf (leaf y) = y
shown_leaf (cell rs) = Null

-- the roots of a tree follow from what it shows
stub_roots : (t : Tree) → roots_met (ways t) ≡ shown_roots (stub t)
stub_roots t = by (out-Tree t).symbol (ways_out t)
  where
    by : (y : Symbol) → ways t ≡ ways_at y (map ways (out-Tree t).children) → roots_met (ways t)
        ≡ shown_roots (stub_by y (roots_met (ways t)))
    by Null e = ap roots_met e
    by Uninit e = ap roots_met e
    by Dangling e = ap roots_met e
    by (Ref r) e = ap roots_met e
    by (Cell s ds ss) e = refl

abbrev IsRef : Symbol → Type 0
IsRef Null = ⊥
IsRef Uninit = ⊥
IsRef Dangling = ⊥
IsRef (Ref r) = Unit {0}
IsRef (Cell s ds ss) = ⊥

-- and so does its leaf
stub_leaf : (y : Symbol) (rs : List ℕ) (k : ℕ) → stub_by y rs ≡ leaf (Ref k) → y ≡ Ref k
stub_leaf Null rs k e = ap shown_leaf e
stub_leaf Uninit rs k e = ap shown_leaf e
stub_leaf Dangling rs k e = ap shown_leaf e
stub_leaf (Ref r) rs k e = ap shown_leaf e
stub_leaf (Cell s ds ss) rs k e = let z : Null ≡ Ref k = ap shown_leaf e in absurd (subst IsRef (sym z) tt)

stub_follows : (t u : Tree) → stub t ≡ stub u → EndFollows (λ k. k) t u
stub_follows t u e =
    let r : roots_met (ways t) ≡ roots_met (ways u) = stub_roots t ∙ ap shown_roots e ∙ sym (stub_roots u) in (
      (λ k. (met_refers t u r k, met_refers u t (sym r) k)),
      (λ k h. stub_leaf (out-Tree u).symbol (roots_met (ways u)) k
          (sym e ∙ ap (λ (y : Symbol). stub_by y (roots_met (ways t))) h)),
    )

-- What stands at the ends of the fields.

abbrev first_of : List Stub → Stub
first_of [] = leaf Null
first_of (x ∷ xs) = x

abbrev rest_of : List Stub → List Stub
rest_of [] = []
rest_of (x ∷ xs) = xs

abbrev IsSome : List Stub → Type 0
IsSome [] = ⊥
IsSome (x ∷ xs) = Unit {0}

stubs_follow : (ts us : List Tree) → map stub ts ≡ map stub us → Paired (EndFollows (λ k. k)) ts us
stubs_follow [] [] e = tt
stubs_follow [] (u ∷ us) e = subst IsSome (sym e) tt
stubs_follow (t ∷ ts) [] e = subst IsSome e tt
stubs_follow (t ∷ ts) (u ∷ us) e = (stub_follows t u (ap first_of e), stubs_follow ts us (ap rest_of e))

at_fields_follow : (ss : List Slot) (ts us : List Tree) → Paired (EndFollows (λ k. k)) ts us
    → Paired (EndFollows (λ k. k)) (at_fields ss ts) (at_fields ss us)
at_fields_follow [] ts us h = tt
at_fields_follow (Hook b ∷ ss) ts us h = at_fields_follow ss ts us h
at_fields_follow (Field f ∷ ss) [] [] h = tt
at_fields_follow (Field f ∷ ss) [] (u ∷ us) h = absurd h
at_fields_follow (Field f ∷ ss) (t ∷ ts) [] h = absurd h
at_fields_follow (Field f ∷ ss) (t ∷ ts) (u ∷ us) h = (h.0, at_fields_follow ss ts us h.1)
at_fields_follow (Link b ∷ ss) [] [] h = tt
at_fields_follow (Link b ∷ ss) [] (u ∷ us) h = absurd h
at_fields_follow (Link b ∷ ss) (t ∷ ts) [] h = absurd h
at_fields_follow (Link b ∷ ss) (t ∷ ts) (u ∷ us) h = at_fields_follow ss ts us h.1

fields_follow : (y : Symbol) (ts us : List Tree) → Paired (EndFollows (λ k. k)) ts us
    → Paired (EndFollows (λ k. k)) (fields_under y ts) (fields_under y us)
fields_follow Null ts us h = tt
fields_follow Uninit ts us h = tt
fields_follow Dangling ts us h = tt
fields_follow (Ref r) ts us h = tt
fields_follow (Cell s ds ss) ts us h = at_fields_follow ss ts us h

outline_tame : (bs : List BoxFace) (t u : Tree) → outline bs t ≡ outline bs u → StaysTame bs t u
outline_tame bs t u e = (
  ap (λ (o : Outline). o.marks) e,
  subst (λ (y : Symbol). Paired (EndFollows (λ k. k)) (field_trees t) (fields_under y (out-Tree u).children))
      (ap (λ (o : Outline). o.top) e)
      (fields_follow (out-Tree t).symbol (out-Tree t).children (out-Tree u).children
      (stubs_follow (out-Tree t).children (out-Tree u).children (ap (λ (o : Outline). o.stubs) e))),
)

-- Choices.

abbrev first_outline : Outline → List Outline → Outline
first_outline o [] = o
first_outline o (x ∷ xs) = x

abbrev rest_outlines : List Outline → List Outline
rest_outlines [] = []
rest_outlines (x ∷ xs) = xs

abbrev HasOutline : List Outline → Type 0
HasOutline [] = ⊥
HasOutline (x ∷ xs) = Unit {0}

outlines_tame : (bs : List BoxFace) (ts us : List Tree) → map (outline bs) ts ≡ map (outline bs) us
    → Paired (StaysTame bs) ts us
outlines_tame bs [] [] e = tt
outlines_tame bs [] (u ∷ us) e = subst HasOutline (sym e) tt
outlines_tame bs (t ∷ ts) [] e = subst HasOutline e tt
outlines_tame bs (t ∷ ts) (u ∷ us) e =
    (outline_tame bs t u (ap (first_outline (outline bs t)) e), outlines_tame bs ts us (ap rest_outlines e))

pub outlined_canonical : (face : Face) (F G : Forest) → IsCanonical face F → IsWellFormed face G
    → Every HasOneTop G.autos → G.vars ≡ F.vars
    → ((ts : List Tree) → Choice G.autos ts → (us : List Tree) × Choice F.autos us
    × (map (outline face.boxes) ts ≡ map (outline face.boxes) us)) → IsCanonical face G
outlined_canonical face F G can well tops v h = record {
  well_formed = well;
  tops = tops;
  kinds = λ ts c. (let u = h ts c in
      subst (λ (vs : List Target). (r : ℕ) → r < length ts → IsRootKind face.boxes vs ts r) (sym v)
      (kinds_too face.boxes F.vars u.0 ts (outlines_tame face.boxes u.0 ts (sym u.2)) (can.kinds u.0 u.1)));
  untied = λ ts c. (let u = h ts c in
      subst (λ (vs : List Target). IsUntied vs ts) (sym v)
      (untied_too face.boxes F.vars u.0 ts (outlines_tame face.boxes u.0 ts (sym u.2)) (can.untied u.0 u.1)));
  order = λ ts c. (let u = h ts c in
      subst (λ (vs : List Target). Walks (refs_at ts) (GoesOn face.boxes ts) (var_roots vs) 0 (length ts)) (sym v)
      (order_too face.boxes F.vars u.0 ts (outlines_tame face.boxes u.0 ts (sym u.2)) (var_roots F.vars)
      (can.order u.0 u.1)));
}

-- Smaller languages.

choice_within : (autos others : List Automaton) → Paired IsWithin autos others → (ts : List Tree) → Choice autos ts
    → Choice others ts
choice_within [] [] h [] c = tt
choice_within [] [] h (t ∷ ts) c = absurd c
choice_within [] (b ∷ others) h ts c = absurd h
choice_within (a ∷ autos) [] h ts c = absurd h
choice_within (a ∷ autos) (b ∷ others) h [] c = absurd c
choice_within (a ∷ autos) (b ∷ others) h (t ∷ ts) c = (h.0 t c.0, choice_within autos others h.1 ts c.1)

pub smaller_canonical : (face : Face) (F G : Forest) → IsCanonical face F → IsWellFormed face G
    → Every HasOneTop G.autos → G.vars ≡ F.vars → Paired IsWithin G.autos F.autos → IsCanonical face G
smaller_canonical face F G can well tops v h =
    outlined_canonical face F G can well tops v (λ ts c. (ts, choice_within G.autos F.autos h ts c, refl))

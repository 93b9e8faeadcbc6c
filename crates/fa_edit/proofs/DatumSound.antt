-- The forest with another datum in a data field of a root is sound, and canonical where the forest was.
use Rattle.std.proofs.Common.{◌≡◌, inl, inr, ℕ, zero, suc, ◌<◌, length, List, [], ◌∷◌, map, refl, sym, ap, ap₂, subst}
use Rattle.std.proofs.Common.{◌∙◌, flat_map, slice_set, length-set}
use Rattle.fore_base.specs.Lists.{Every, Paired}
use Rattle.fore_base.specs.declared.store.Datum.{Datum}
use Rattle.fore_base.proofs.ListLemmas.{every_set, paired_same}
use Rattle.ta_core.specs.Auto.{Automaton, IsRanked}
use Rattle.ta_core.specs.Language.{RunEach, InLanguage}
use Rattle.ta_core.specs.Single.{HasOneTop}
use Rattle.ta_core.specs.declared.symbol.Symbol.{Symbol}
use Rattle.ta_core.specs.declared.symbol.Symbol.TheVariants.{Null, Uninit, Dangling, Ref, Cell}
use Rattle.ta_core.specs.declared.tree.Tree.{Tree, Tree-F, out-Tree, roll-Tree, out-roll-Tree, roll-out-Tree}
use Rattle.ta_core.specs.declared.tree.Tree.{para-roll-Tree}
use Rattle.fa_core.specs.declared.faces.BoxFace.{BoxFace}
use Rattle.fa_core.specs.declared.faces.Face.{Face}
use Rattle.fa_core.specs.declared.forest.Forest.{Forest}
use Rattle.fa_core.specs.Boxless.{IsPlain, HasNoBoxes}
use Rattle.fa_core.specs.Canonical.{IsCanonical, field_trees, fields_under, var_roots}
use Rattle.fa_core.specs.Filled.{Choice, IsTopped, Spot, spots, spots_at, DatumFits, SymbolFits, RulesFit}
use Rattle.fa_core.specs.Filled.{HasSignatures, HasSome, IsSound, IsFilledSpot}
use Rattle.fa_core.specs.Ways.{Way, ways, ways_at, to_root, given, mark, roots_met, signature}
use Rattle.fa_core.proofs.WayParts.{ways_out}
use Rattle.fa_edit.specs.inner.Edited.{symbol_with, dated, dated_at}
use Rattle.fa_edit.proofs.DatumTrees.{dated_back, dated_of, to_dated, dated_one, dated_symbols, at_top, dated_stay}
use Rattle.fa_edit.proofs.EditedSound.{changed, choice_changed, edited_plain, edited_sound}
use Rattle.fa_order.specs.inner.Following.{EndFollows, StaysTame}
use Rattle.fa_order.proofs.Tame.{kinds_too, untied_too, order_too}
use Rattle.fa_sound.specs.Components.{component_at}
use Rattle.fa_merge.proofs.IdleRoots.{gift}
use Rattle.fa_merge.proofs.MergedAnywhere.{nat_cases}
use Rattle.fa_merge.proofs.PlacedForests.{component_has}
use Rattle.fa_split.specs.Split.{top_rule}
use Rattle.fa_split.proofs.OtherComponent.{every_put}
use Rattle.fa_split.proofs.TopRules.{top_by_tree, tree_by_top}

-- the tree with another symbol at its top
abbrev pub with_symbol : Symbol → Tree → Tree
with_symbol y t = roll-Tree (record { symbol = y; children = (out-Tree t).children })

symbol_there : (y : Symbol) (t : Tree) → (out-Tree (with_symbol y t)).symbol ≡ y
symbol_there y t = rw (out-roll-Tree (record { symbol = y; children = (out-Tree t).children })) refl

children_there : (y : Symbol) (t : Tree) → (out-Tree (with_symbol y t)).children ≡ (out-Tree t).children
children_there y t = rw (out-roll-Tree (record { symbol = y; children = (out-Tree t).children })) refl

-- Data are looked at by no way, no cell's fields and no signature.

module _ (f : ℕ) (z : Datum) where
  same_ways : (y : Symbol) (ws : List (List Way)) → ways_at (symbol_with f z y) ws ≡ ways_at y ws
  same_ways Null ws = refl
  same_ways Uninit ws = refl
  same_ways Dangling ws = refl
  same_ways (Ref r) ws = refl
  same_ways (Cell s ds ss) ws = refl

  same_spots : (bs : List BoxFace) (y : Symbol) (cs : List (Tree × (List ℕ → List Spot))) (above : List ℕ)
      → spots_at bs (symbol_with f z y) cs above ≡ spots_at bs y cs above
  same_spots bs Null cs above = refl
  same_spots bs Uninit cs above = refl
  same_spots bs Dangling cs above = refl
  same_spots bs (Ref r) cs above = refl
  same_spots bs (Cell s ds ss) cs above = refl

  same_fields : (y : Symbol) (ts : List Tree) → fields_under (symbol_with f z y) ts ≡ fields_under y ts
  same_fields Null ts = refl
  same_fields Uninit ts = refl
  same_fields Dangling ts = refl
  same_fields (Ref r) ts = refl
  same_fields (Cell s ds ss) ts = refl

  symbol_topped : (s : ℕ) (y : Symbol) (t u : Tree) → (out-Tree u).symbol ≡ y → symbol_with f z y ≡ (out-Tree t).symbol
      → IsTopped s u → IsTopped s t
  symbol_topped s y t u e w h = (slice_set h.0 f z, h.1, sym w ∙ ap (symbol_with f z) (sym e ∙ h.2))

  symbol_fits : (face : Face) (y : Symbol) → DatumFits z → SymbolFits face y → SymbolFits face (symbol_with f z y)
  symbol_fits face Null d h = h
  symbol_fits face Uninit d h = h
  symbol_fits face Dangling d h = h
  symbol_fits face (Ref r) d h = h
  symbol_fits face (Cell s ds ss) d h = (h.0, length-set ds f z ∙ h.1, every_set DatumFits ds f z h.2 d, h.3)

  symbol_plain : (y : Symbol) → IsPlain y → IsPlain (symbol_with f z y)
  symbol_plain Null h = h
  symbol_plain Uninit h = h
  symbol_plain Dangling h = h
  symbol_plain (Ref r) h = h
  symbol_plain (Cell s ds ss) h = h

  -- of t, and of the tree with the symbol y in the place of the one with the datum
  module _ (y : Symbol) (t : Tree) (is : symbol_with f z y ≡ (out-Tree t).symbol) where
    ways_with : ways (with_symbol y t) ≡ ways t
    ways_with =
        ways_out (with_symbol y t)
        ∙ ap₂ (λ (s : Symbol) (ts : List Tree). ways_at s (map ways ts)) (symbol_there y t) (children_there y t)
        ∙ sym (same_ways y (map ways (out-Tree t).children))
        ∙ ap (λ (s : Symbol). ways_at s (map ways (out-Tree t).children)) is
        ∙ sym (ways_out t)

    pub gift_with : (bs : List BoxFace) (k : ℕ) → gift bs k (with_symbol y t) ≡ gift bs k t
    gift_with bs k = ap (λ (ws : List Way). flat_map (λ w. given bs w.steps) (to_root k ws)) ways_with

    pub signature_with : (bs : List BoxFace) → signature bs (with_symbol y t) ≡ signature bs t
    signature_with bs = ap (λ (ws : List Way). map (mark bs ws) (roots_met ws)) ways_with

    pub fields_with : field_trees (with_symbol y t) ≡ field_trees t
    fields_with =
        ap₂ fields_under (symbol_there y t) (children_there y t)
        ∙ sym (same_fields y (out-Tree t).children)
        ∙ ap (λ (s : Symbol). fields_under s (out-Tree t).children) is

    pub spots_with : (bs : List BoxFace) (above : List ℕ) → spots bs (with_symbol y t) above ≡ spots bs t above
    spots_with bs above =
        rolled (record { symbol = y; children = (out-Tree t).children })
        ∙ sym (same_spots bs y (map (λ (c : Tree). (c, spots bs c)) (out-Tree t).children) above)
        ∙ ap (λ (s : Symbol). spots_at bs s (map (λ (c : Tree). (c, spots bs c)) (out-Tree t).children) above) is
        ∙ sym (rolled (out-Tree t))
        ∙ ap (λ (u : Tree). spots bs u above) (roll-out-Tree t)
      where
        rolled : (x : Tree-F Tree) → spots bs (roll-Tree x) above
            ≡ spots_at bs x.symbol (map (λ (c : Tree). (c, spots bs c)) x.children) above
        rolled x = ap (λ (g : List ℕ → List Spot). g above)
            (para-roll-Tree (List ℕ → List Spot) (λ u. spots_at bs u.symbol u.children) x)

-- The component.

module _ (a : Automaton) (ranked : IsRanked a) (one : HasOneTop a) (f : ℕ) (z : Datum) where
  abbrev y : Symbol
  y = (top_rule a).symbol

  abbrev b : Automaton
  b = dated a f z

  -- the tree with the old data
  abbrev pub old : Tree → Tree
  old t = with_symbol y t

  by_old : (t : Tree) → RunEach a.rules (top_rule a).children (out-Tree t).children → InLanguage a (old t)
  by_old t k = top_by_tree a one (old t) (
    sym (symbol_there y t),
    subst (λ (ts : List Tree). RunEach a.rules (top_rule a).children ts) (sym (children_there y t)) k,
  )

  pub low : (t : Tree) → InLanguage b t → InLanguage a (old t)
  low t l = by_old t (dated_of a ranked one f z t l).1

  pub signed : (bs : List BoxFace) → HasSignatures bs a → HasSignatures bs b
  signed bs h = record {
    states = λ q t u v w. elim (nat_cases q a.states) [
      | inl l ↦ h.states q t u (dated_stay a ranked one f z q t l v) (dated_stay a ranked one f z q u l w)
      | inr l ↦ between t u (dated_back a ranked one f z q t l v) (dated_back a ranked one f z q u l w)
    ];
    component = λ t u v w. between t u (dated_of a ranked one f z t v) (dated_of a ranked one f z u w);
  }
    where
      between : (t u : Tree) → (symbol_with f z y ≡ (out-Tree t).symbol)
          × RunEach a.rules (top_rule a).children (out-Tree t).children → (symbol_with f z y ≡ (out-Tree u).symbol)
          × RunEach a.rules (top_rule a).children (out-Tree u).children → signature bs t ≡ signature bs u
      between t u v w = sym (signature_with f z y t v.0 bs) ∙ h.component (old t) (old u) (by_old t v.1) (by_old u w.1)
          ∙ signature_with f z y u w.0 bs

  pub some : HasSome a → HasSome b
  some h =
      let t = with_symbol (symbol_with f z y) h.0 in (
        t,
        to_dated a ranked one f z t (sym (symbol_there (symbol_with f z y) h.0))
            (subst (λ (ts : List Tree). RunEach a.rules (top_rule a).children ts)
            (sym (children_there (symbol_with f z y) h.0)) (tree_by_top a one h.0 h.1).1),
      )

-- The forest.

module _ (face : Face) (F : Forest) (r f : ℕ) (z : Datum) (ranked : Every IsRanked F.autos)
    (root : r < length F.autos) (one : HasOneTop (component_at F.autos r)) where
  abbrev own : Automaton
  own = component_at F.autos r

  abbrev G : Forest
  G = dated_at F r f z

  own_ranked : IsRanked own
  own_ranked = component_has IsRanked F.autos r ranked root

  abbrev before : Tree → Tree
  before = old own own_ranked one f z

  pub datum_plain : Every HasNoBoxes F.autos → Every HasNoBoxes G.autos
  datum_plain plain =
      let p = component_has HasNoBoxes F.autos r plain root in
      edited_plain face F r (dated own f z) before plain
      (dated_symbols own own_ranked one f z IsPlain
      (symbol_plain f z (top_rule own).symbol (at_top own own_ranked one f z IsPlain p)) p)

  module _ (fits : DatumFits z) (sound : IsSound face F) where
    fresh_fits : RulesFit face (dated own f z)
    fresh_fits =
        let p = component_has (RulesFit face) F.autos r sound.well_formed.filled.rules root in
        dated_symbols own own_ranked one f z (SymbolFits face)
        (symbol_fits f z face (top_rule own).symbol fits (at_top own own_ranked one f z (SymbolFits face) p)) p

    pub datum_sound : IsSound face G
    datum_sound = edited_sound face F r (dated own f z) before sound
        fresh_fits
        (signed own own_ranked one f z face.boxes
        (component_has (HasSignatures face.boxes) F.autos r sound.well_formed.signatures root))
        (some own own_ranked one f z (component_has HasSome F.autos r sound.full root))
        (low own own_ranked one f z)
        (λ t s l h. symbol_topped f z s (top_rule own).symbol t (before t) (symbol_there (top_rule own).symbol t)
        (dated_of own own_ranked one f z t l).0 h)
        (λ k t l. gift_with f z (top_rule own).symbol t (dated_of own own_ranked one f z t l).0 face.boxes k)
        (λ us tops c h t above l k. subst (λ (ps : List Spot). Every (IsFilledSpot face tops) ps)
        (spots_with f z (top_rule own).symbol t (dated_of own own_ranked one f z t l).0 face.boxes above) k)

    same_ends : (ts : List Tree) → Paired (EndFollows (λ k. k)) ts ts
    same_ends = paired_same (EndFollows (λ k. k)) (λ t. ((λ k. ((λ h. h), (λ h. h))), (λ k e. e)))

    same_tame : (t : Tree) → StaysTame face.boxes t t
    same_tame t = (refl, same_ends (field_trees t))

    -- the trees with the old data show what theirs show
    tame : (autos : List Automaton) (k : ℕ) (ts : List Tree) → Choice (slice_set autos k (dated own f z)) ts
        → Paired (StaysTame face.boxes) (changed before k ts) ts
    tame [] k [] c = tt
    tame [] k (t ∷ ts) c = absurd c
    tame (x ∷ autos) zero [] c = absurd c
    tame (x ∷ autos) (suc k) [] c = absurd c
    tame (x ∷ autos) zero (t ∷ ts) c =
        let e = (dated_of own own_ranked one f z t c.0).0 in (
          (
            signature_with f z (top_rule own).symbol t e face.boxes,
            subst (λ (us : List Tree). Paired (EndFollows (λ k. k)) us (field_trees t))
                (sym (fields_with f z (top_rule own).symbol t e)) (same_ends (field_trees t)),
          ),
          paired_same (StaysTame face.boxes) same_tame ts,
        )
    tame (x ∷ autos) (suc k) (t ∷ ts) c = (same_tame t, tame autos k ts c.1)

    pub datum_canonical : IsCanonical face F → IsCanonical face G
    datum_canonical can = record {
      well_formed = datum_sound.well_formed;
      tops = every_put HasOneTop F.autos r (dated own f z) can.tops (dated_one own own_ranked one f z);
      kinds = λ ts c. kinds_too face.boxes F.vars (changed before r ts) ts (tame F.autos r ts c)
          (can.kinds (changed before r ts) (olds ts c));
      untied = λ ts c. untied_too face.boxes F.vars (changed before r ts) ts (tame F.autos r ts c)
          (can.untied (changed before r ts) (olds ts c));
      order = λ ts c. order_too face.boxes F.vars (changed before r ts) ts (tame F.autos r ts c) (var_roots F.vars)
          (can.order (changed before r ts) (olds ts c));
    }
      where
        olds : (ts : List Tree) → Choice G.autos ts → Choice F.autos (changed before r ts)
        olds ts c = choice_changed (dated own f z) before F.autos r (low own own_ranked one f z) ts c

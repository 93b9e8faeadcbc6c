-- Forests split at the field of a root without box edges for it: one leaf stands there.
use Rattle.std.proofs.Common.{◌≡◌, inl, inr, ℕ, ◌+◌, ◌<◌, length, List, [], ◌∷◌, refl, sym, ap, subst, ◌∙◌, Some}
use Rattle.std.proofs.Common.{None, slice_index_or, slice_set, length-set, arith}
use Rattle.std.proofs.lemmas.List.{get_or-set_same, length-append}
use Rattle.std.proofs.lemmas.Option.{none-some, same_Some}
use Rattle.fore_base.specs.Lists.{Every}
use Rattle.fore_base.proofs.ListLemmas.{every_in, in_append, in_every, in_right}
use Rattle.ta_core.specs.Arity.{arity, child_slots}
use Rattle.ta_core.specs.Auto.{Automaton, IsRanked, IsRankedRule}
use Rattle.ta_core.specs.Single.{HasOneTop}
use Rattle.ta_core.specs.declared.auto.Rule.{Rule}
use Rattle.ta_core.specs.declared.symbol.Symbol.{Symbol}
use Rattle.ta_core.specs.declared.symbol.Symbol.TheVariants.{Null, Uninit, Dangling, Ref, Cell}
use Rattle.fa_core.specs.Boxless.{HasNoBoxes}
use Rattle.fa_core.specs.declared.boxes.BoxDef.{BoxDef}
use Rattle.fa_core.specs.declared.forest.Forest.{Forest}
use Rattle.fa_core.specs.declared.forest.Target.{Target}
use Rattle.fa_core.specs.declared.forest.Target.TheVariants.{At}
use Rattle.fa_core.specs.Folding.{symbol_slots}
use Rattle.fa_core.specs.Dressed.{cells}
use Rattle.fa_core.specs.Member.{Regroups, RegroupsInto}
use Rattle.fa_core.proofs.Rearranging.{same}
use Rattle.fa_sound.specs.Components.{component_at}
use Rattle.fa_sound.specs.Soundness.{SoundForest, IsSigned}
use Rattle.fa_sound.specs.Unions.{forests}
use Rattle.fa_split.specs.Divided.{HasVarsOf}
use Rattle.fa_split.specs.Split.{CanSplit, IsSplitOf, top_rule, child_state, fresh_leaf, fixed, lifted, split_leaf}
use Rattle.fa_split.specs.Split.{split_cells}
use Rattle.fa_split.proofs.FixedTrees.{both, fixed_one, fixed_top, two_cases}
use Rattle.fa_split.proofs.OtherComponent.{component_first, component_set, set_less}
use Rattle.fa_split.proofs.TopRules.{top_in}
use Rattle.fa_edit.specs.Plain.{IsLeafPlace, IsOnlyLeaf, IsPlainAt, field_place, place_at}
use Rattle.fa_edit.proofs.FieldPlaces.{place_below}
use Rattle.fa_unfold.proofs.OpenedRoots.{component_has}
use Rattle.fa_opening.specs.inner.Showing.{IsBaredPart, IsShownOf}
use Rattle.fa_opening.proofs.BaredFields.{bared_lacks}
use Rattle.fa_opening.proofs.Steps.{in_forests}

slots_arity : (y : Symbol) → child_slots (symbol_slots y) ≡ arity y
slots_arity Null = refl
slots_arity Uninit = refl
slots_arity Dangling = refl
slots_arity (Ref r) = refl
slots_arity (Cell s ds ss) = refl

-- a field that is a slot of the root can be split
pub field_can : (r f p : ℕ) (S : SoundForest) → IsSigned S → IsBaredPart r f S → place_at S.forest r f ≡ Some p
    → CanSplit S.forest r p
field_can r f p S signed b e =
    let F = S.forest in
    let x = top_rule (component_at F.autos r) in
    let a = component_has IsRanked F.autos r b.bared.root signed.ranked in
    let k = (every_in (IsRankedRule (component_at F.autos r).states) (component_at F.autos r).rules x a.1
    (top_in (component_at F.autos r) b.bared.top)).2 in
    let l = place_below f 0 (symbol_slots x.symbol) p e in
    let m = slots_arity x.symbol in
    record { root = b.bared.root; top = b.bared.top; place = omega (arith, k, l, m) }

-- a forest regroups itself
regroups_self : (T : List BoxDef) (F : Forest) → Regroups T F F
regroups_self T F d h = (d, record { of = h; same_cells = same (cells d); vars = refl; data_vars = refl })

-- An automaton with a leaf fixed at place p.

module _ (a : Automaton) (p : ℕ) (y : Target) (ranked : IsRanked a) (one : HasOneTop a)
    (place : p < length (top_rule a).children) where
  abbrev b : Automaton
  b = fixed a p y

  symbol_stays : (top_rule b).symbol ≡ (top_rule a).symbol
  symbol_stays = ap (λ (x : Rule). x.symbol) (fixed_top a p y ranked one place)

  child_here : child_state b p ≡ a.states + 1
  child_here = ap (λ (x : Rule). slice_index_or x.children p 0) (fixed_top a p y ranked one place)
      ∙ get_or-set_same (top_rule a).children p (a.states + 1) 0 place

  -- the leaf stands there alone
  leaf_here : IsOnlyLeaf b.rules (child_state b p) y
  leaf_here = subst (λ (q : ℕ). IsOnlyLeaf b.rules q y) (sym child_here) (record {
    there = (fresh_leaf a y, in_right (fresh_leaf a y) a.rules (both a p y ranked one place) (inr (inl refl)), refl);
    only = λ x i s. elim (in_append x a.rules (both a p y ranked one place) i) [
      | inl j ↦
          let l = (every_in (IsRankedRule a.states) a.rules x ranked.1 j).0 in
          absurd (omega (arith, l, s))
      | inr j ↦ elim (two_cases a p y ranked one place x j) [
        | inl e ↦ (let w : x.state ≡ a.states = ap (λ (z : Rule). z.state) e in absurd (omega (arith, w, s)))
        | inr e ↦ ap (λ (z : Rule). z.symbol) e
      ]
    ];
  })

module _ (S : SoundForest) (signed : IsSigned S) (r f p : ℕ) (part : IsBaredPart r f S)
    (is : place_at S.forest r f ≡ Some p) where
  abbrev F : Forest
  F = S.forest

  abbrev a : Automaton
  a = component_at F.autos r

  can : CanSplit F r p
  can = field_can r f p S signed part is

  a_right : IsRanked a
  a_right = component_has IsRanked F.autos r can.root signed.ranked

  -- a forest with the component fixed shows the field
  fixed_plain : (y : Target) (G : Forest) → r < length G.autos → component_at G.autos r ≡ fixed a p y
      → IsPlainAt S.face.shapes.structs G r f
  fixed_plain y G l e = record {
    root = l;
    top = subst HasOneTop (sym e) (fixed_one a p y a_right can.top can.place);
    leaf = λ q w. (
      y,
      subst (λ (k : ℕ). IsLeafPlace G r k y) (same_Some p q (sym is ∙ sym there ∙ w))
          (subst (λ (c : Automaton). IsOnlyLeaf c.rules (child_state c p) y) (sym e)
          (leaf_here a p y a_right can.top can.place)),
    );
    lacks = λ w. absurd (none-some p (sym w ∙ there ∙ is));
  }
    where
      there : place_at G r f ≡ place_at F r f
      there = ap (λ (c : Automaton). field_place f (symbol_slots (top_rule c).symbol)) e
          ∙ ap (λ (x : Symbol). field_place f (symbol_slots x)) (symbol_stays a p y a_right can.top can.place)

  abbrev others : List Automaton
  others = slice_set F.autos r (fixed a p (At (length F.autos)))

  split_plain : (T : List BoxDef) (G : Forest) → IsSplitOf T F r p G → IsPlainAt S.face.shapes.structs G r f
  split_plain T G (inl (y, may, e, covers, equal)) =
      subst (λ (H : Forest). IsPlainAt S.face.shapes.structs H r f) (sym e)
      (fixed_plain y (split_leaf F r p y) (set_less F.autos r (fixed a p y) can.root)
      (component_set F.autos r (fixed a p y) can.root))
  split_plain T G (inr (may, e, taken)) = subst (λ (H : Forest). IsPlainAt S.face.shapes.structs H r f) (sym e)
      (fixed_plain (At (length F.autos)) (split_cells F r p) there
      (component_first others (lifted a (child_state a p)) r
      (set_less F.autos r (fixed a p (At (length F.autos))) can.root)
      ∙ component_set F.autos r (fixed a p (At (length F.autos))) can.root))
    where
      there : r < length (split_cells F r p).autos
      there =
          let m = length-append others (lifted a (child_state a p) ∷ []) in
          let n = length-set F.autos r (fixed a p (At (length F.autos))) in
          let l = can.root in
          omega (arith, m, n, l)

  pub split_shown : (made : List SoundForest) → Every (λ (s : SoundForest). s.face ≡ S.face) made
      → Every (HasVarsOf F) (forests made)
      → (Every HasNoBoxes F.autos → Every (λ (G : Forest). Every HasNoBoxes G.autos) (forests made))
      → ((T : List BoxDef) → Every (IsSplitOf T F r p) (forests made))
      → ((T : List BoxDef) → Every (Regroups T F) (forests made)) → Every (IsShownOf r f S) made
  split_shown made faces vars plains dressed regroups = in_every (IsShownOf r f S) made
      (λ s i. (let j = in_forests made s i in
      record {
        face_kept = every_in (λ (s : SoundForest). s.face ≡ S.face) made s faces i;
        vars_kept = every_in (HasVarsOf F) (forests made) s.forest vars j;
        plain_kept = λ none. every_in (λ (G : Forest). Every HasNoBoxes G.autos) (forests made) s.forest
            (plains none) j;
        plain = split_plain [] s.forest (every_in (IsSplitOf [] F r p) (forests made) s.forest (dressed []) j);
        regroups = λ T. every_in (Regroups T F) (forests made) s.forest (regroups T) j;
      }))

-- A forest that stays.

pub stays_shown : (S : SoundForest) → IsSigned S → (r f : ℕ) → IsBaredPart r f S → place_at S.forest r f ≡ None
    → Every (IsShownOf r f S) (S ∷ [])
stays_shown S signed r f b none = (
  record {
    face_kept = refl;
    vars_kept = (refl, refl);
    plain_kept = λ none. none;
    plain = record {
      root = b.bared.root;
      top = b.bared.top;
      leaf = λ p w. absurd (none-some p (sym none ∙ w));
      lacks = λ w. bared_lacks S.face S.forest r signed.sound b.bared.root b.bared.top f b.bared none;
    };
    regroups = λ T. regroups_self T S.forest;
  },
  tt,
)

pub stays_regrouped : (T : List BoxDef) (S : SoundForest) → RegroupsInto T S.forest (forests (S ∷ []))
stays_regrouped T S d h = let w = regroups_self T S.forest d h in (S.forest, inl refl, w)

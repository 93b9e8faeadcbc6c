-- Ends and order of cells: rules that say of each that they are right, or a choice in which one is not.
use Rattle.std.proofs.Common.{◌≡◌, ◌⊎◌, inl, inr, ℕ, zero, suc, ◌<◌, Bool, true, false, true≢false, List, []}
use Rattle.std.proofs.Common.{◌∷◌, length, map, set, nat_lt, Option, Some, None, slice_get}
use Rattle.std.proofs.Common.{refl, sym, ap, subst, ◌∙◌, arith}
use Rattle.std.proofs.lemmas.Bool.{ltb-true, ltb-false, cases_eq}
use Rattle.std.proofs.lemmas.Option.{none-some, same_Some}
use Rattle.fore_base.specs.Lists.{IsIn, Every, Paired}
use Rattle.fore_base.specs.declared.store.Datum.{Datum}
use Rattle.ta_core.specs.Arity.{child_slots, arity}
use Rattle.ta_core.specs.Auto.{Automaton, IsRanked, IsRankedRule}
use Rattle.ta_core.specs.Language.{InLanguage, IsTrim, RunOf, run, HasTree}
use Rattle.ta_core.specs.declared.auto.Rule.{Rule}
use Rattle.ta_core.specs.declared.symbol.Slot.{Slot}
use Rattle.ta_core.specs.declared.symbol.Slot.TheVariants.{Field, Link, Hook}
use Rattle.ta_core.specs.declared.symbol.Symbol.{Symbol}
use Rattle.ta_core.specs.declared.symbol.Symbol.TheVariants.{Null, Uninit, Dangling, Ref, Cell}
use Rattle.ta_core.specs.declared.tree.Tree.{Tree}
use Rattle.fore_base.proofs.ListLemmas.{every_in, in_every, every_weaker}
use Rattle.ta_core.proofs.Runs.{tree_of}
use Rattle.fa_core.specs.declared.faces.BoxFace.{BoxFace}
use Rattle.fa_core.specs.declared.faces.Face.{Face}
use Rattle.fa_core.specs.Cells.{edges}
use Rattle.fa_core.specs.Filled.{
  Choice,
  HasSome,
  HasField,
  Spot,
  IsInOrder,
  IsTopped,
  spots,
  covers,
  target_of,
  face_of,
  HookFits,
  least,
}
use Rattle.fa_core.specs.Rearranged.{RisesFrom, IsRising}
use Rattle.fa_core.specs.Ways.{given_by}
use Rattle.fa_box_rules.specs.Cells.{MayName, FieldMayEnd, EndMayFit, EndsMayFit}
use Rattle.fa_filling.specs.Ruled.{SymbolsOf, RuleSpots, IsAlone, FieldAlways, LinkAlways, OutputAlways, BoxAlways}
use Rattle.fa_filling.specs.Ruled.{EndAlways, RuleAlways, EdgeAlways, HookAlways, SlotAlways, IsShapedCell, ShapedBy}
use Rattle.fa_filling.specs.Ruled.{IsShapedRule, spot}
use Rattle.fa_filling.proofs.SpotRules.{put, rule_tree, tree_spot, spots_by_rules}
use Rattle.fa_filling.proofs.FilledRules.{all_symbols, symbols_with, is_dangling}
use Rattle.fa_filling.proofs.Fillings.{some_choice}
use Rattle.fa_giving.specs.inner.Shaped.{IsShapedSpot, IsShapedRoot, AreTopStructs}
use Rattle.fa_giving.specs.inner.Totals.{ForAll}
use Rattle.fa_box_rules.proofs.SoundBoxes.{top_same}
use Rattle.fa_giving.proofs.OnceRules.{each_or}
use Rattle.fa_giving.proofs.Sums.{state_trees}

-- TREES AT PLACES

-- the structs that may stand at the tops do stand there
abbrev TopsHold : List (List ℕ) → List Tree → Type 0
TopsHold T ts = (k : ℕ) (tl : List ℕ) → slice_get T k ≡ Some tl → (t : Tree) × (slice_get ts k ≡ Some t)
    × ((u : ℕ) → IsTopped u t → IsIn u tl)

tops_hold : (autos : List Automaton) (topss : List (List ℕ)) (ts : List Tree) → Paired AreTopStructs autos topss
    → Choice autos ts → TopsHold topss ts
tops_hold [] [] [] p c k tl e = absurd (none-some tl e)
tops_hold [] [] (t ∷ ts) p c k tl e = absurd c
tops_hold [] (x ∷ topss) ts p c k tl e = absurd p
tops_hold (a ∷ autos) [] ts p c k tl e = absurd p
tops_hold (a ∷ autos) (x ∷ topss) [] p c k tl e = absurd c
tops_hold (a ∷ autos) (x ∷ topss) (t ∷ ts) p c zero tl e =
    (t, refl, λ u h. subst (λ (l : List ℕ). IsIn u l) (same_Some x tl e) (p.0.each t u c.0 h))
tops_hold (a ∷ autos) (x ∷ topss) (t ∷ ts) p c (suc k) tl e = tops_hold autos topss ts p.1 c.1 k tl e

hold_set : (autos : List Automaton) (topss : List (List ℕ)) (ts : List Tree) (r s : ℕ)
    → Paired AreTopStructs autos topss
    → Choice autos ts → ((t : Tree) → slice_get ts r ≡ Some t → IsTopped s t) → TopsHold (set topss r (s ∷ [])) ts
hold_set [] [] ts r s p c h k tl e = absurd (none-some tl e)
hold_set [] (x ∷ topss) ts r s p c h k tl e = absurd p
hold_set (a ∷ autos) [] ts r s p c h k tl e = absurd p
hold_set (a ∷ autos) (x ∷ topss) [] r s p c h k tl e = absurd c
hold_set (a ∷ autos) (x ∷ topss) (t ∷ ts) zero s p c h zero tl e =
    (t, refl, λ u g. subst (λ (l : List ℕ). IsIn u l) (same_Some (s ∷ []) tl e) (inl (top_same t u s g (h t refl))))
hold_set (a ∷ autos) (x ∷ topss) (t ∷ ts) zero s p c h (suc k) tl e = tops_hold autos topss ts p.1 c.1 k tl e
hold_set (a ∷ autos) (x ∷ topss) (t ∷ ts) (suc r) s p c h zero tl e =
    (t, refl, λ u g. subst (λ (l : List ℕ). IsIn u l) (same_Some x tl e) (p.0.each t u c.0 g))
hold_set (a ∷ autos) (x ∷ topss) (t ∷ ts) (suc r) s p c h (suc k) tl e = hold_set autos topss ts r s p.1 c.1 h k tl e

-- a choice with a tree of this top at place k
abbrev HasTop : List Automaton → ℕ → ℕ → Type 0
HasTop autos k u = (ts : List Tree) × Choice autos ts × ((w : Tree) × (slice_get ts k ≡ Some w) × IsTopped u w)

pick_in : (autos : List Automaton) (topss : List (List ℕ)) (k : ℕ) (tl : List ℕ) (u : ℕ) → Every HasSome autos
    → Paired AreTopStructs autos topss → slice_get topss k ≡ Some tl → IsIn u tl → HasTop autos k u
pick_in [] [] k tl u f p e i = absurd (none-some tl e)
pick_in [] (x ∷ topss) k tl u f p e i = absurd p
pick_in (a ∷ autos) [] k tl u f p e i = absurd p
pick_in (a ∷ autos) (x ∷ topss) zero tl u f p e i =
    let t = p.0.some u (subst (λ (l : List ℕ). IsIn u l) (sym (same_Some x tl e)) i) in
    let r = some_choice autos f.1 in
    (t.0 ∷ r.0, (t.1, r.1), (t.0, refl, t.2))
pick_in (a ∷ autos) (x ∷ topss) (suc k) tl u f p e i =
    let r = pick_in autos topss k tl u f.1 p.1 e i in (f.0.0 ∷ r.0, (f.0.1, r.1), r.2)

-- so whichever tree of struct s stands at place r
abbrev Picked : List Automaton → ℕ → ℕ → ℕ → ℕ → Type 0
Picked autos r s k u = (ts : List Tree) × Choice autos ts
    × ((v : Tree) → IsTopped s v → (w : Tree) × (slice_get (set ts r v) k ≡ Some w) × IsTopped u w)

pick : (autos : List Automaton) (topss : List (List ℕ)) (r s k : ℕ) (tl : List ℕ) (u : ℕ) → Every HasSome autos
    → Paired AreTopStructs autos topss → slice_get (set topss r (s ∷ [])) k ≡ Some tl → IsIn u tl → Picked autos r s k u
pick [] [] r s k tl u f p e i = absurd (none-some tl e)
pick [] (x ∷ topss) r s k tl u f p e i = absurd p
pick (a ∷ autos) [] r s k tl u f p e i = absurd p
pick (a ∷ autos) (x ∷ topss) zero s zero tl u f p e i =
    let r = some_choice autos f.1 in
    (f.0.0 ∷ r.0, (f.0.1, r.1), λ v h. (v, refl, subst (λ (z : ℕ). IsTopped z v) (sym (only tl e i)) h))
  where
    only : (tl : List ℕ) → Some (s ∷ []) ≡ Some tl → IsIn u tl → u ≡ s
    only tl e i = elim (subst (λ (l : List ℕ). IsIn u l) (sym (same_Some (s ∷ []) tl e)) i)
        [ inl d ↦ d | inr n ↦ absurd n ]
pick (a ∷ autos) (x ∷ topss) zero s (suc k) tl u f p e i =
    let r = pick_in autos topss k tl u f.1 p.1 e i in (f.0.0 ∷ r.0, (f.0.1, r.1), λ v h. r.2)
pick (a ∷ autos) (x ∷ topss) (suc r) s zero tl u f p e i =
    let t = p.0.some u (subst (λ (l : List ℕ). IsIn u l) (sym (same_Some x tl e)) i) in
    let q = some_choice autos f.1 in
    (t.0 ∷ q.0, (t.1, q.1), λ v h. (t.0, refl, t.2))
pick (a ∷ autos) (x ∷ topss) (suc r) s (suc k) tl u f p e i =
    let q = pick autos topss r s k tl u f.1 p.1 e i in (f.0.0 ∷ q.0, (f.0.1, q.1), q.2)

-- a root that no list is for is none
not_there : (autos : List Automaton) (topss : List (List ℕ)) (ts : List Tree) (r s k : ℕ) (v w : Tree)
    → Paired AreTopStructs autos topss → Choice autos ts → slice_get (set topss r (s ∷ [])) k ≡ None
    → slice_get (set ts r v) k ≡ Some w → ⊥
not_there [] [] [] r s k v w p c e d = none-some w d
not_there [] [] (t ∷ ts) r s k v w p c e d = absurd c
not_there [] (x ∷ topss) ts r s k v w p c e d = absurd p
not_there (a ∷ autos) [] ts r s k v w p c e d = absurd p
not_there (a ∷ autos) (x ∷ topss) [] r s k v w p c e d = absurd c
not_there (a ∷ autos) (x ∷ topss) (t ∷ ts) zero s zero v w p c e d = none-some (s ∷ []) (sym e)
not_there (a ∷ autos) (x ∷ topss) (t ∷ ts) (suc r) s zero v w p c e d = none-some x (sym e)
not_there (a ∷ autos) (x ∷ topss) (t ∷ ts) zero s (suc k) v w p c e d = rest autos topss ts k p.1 c.1 e d
  where
    rest : (autos : List Automaton) (topss : List (List ℕ)) (ts : List Tree) (k : ℕ) → Paired AreTopStructs autos topss
        → Choice autos ts → slice_get topss k ≡ None → slice_get ts k ≡ Some w → ⊥
    rest [] [] [] k p c e d = none-some w d
    rest [] [] (t ∷ ts) k p c e d = absurd c
    rest [] (x ∷ topss) ts k p c e d = absurd p
    rest (a ∷ autos) [] ts k p c e d = absurd p
    rest (a ∷ autos) (x ∷ topss) [] k p c e d = absurd c
    rest (a ∷ autos) (x ∷ topss) (t ∷ ts) zero p c e d = none-some x (sym e)
    rest (a ∷ autos) (x ∷ topss) (t ∷ ts) (suc k) p c e d = rest autos topss ts k p.1 c.1 e d
not_there (a ∷ autos) (x ∷ topss) (t ∷ ts) (suc r) s (suc k) v w p c e d =
    not_there autos topss ts r s k v w p.1 c.1 e d

-- another tree at place r
pub choice_set : (autos : List Automaton) (r : ℕ) (a : Automaton) (ts : List Tree) (v : Tree)
    → slice_get autos r ≡ Some a
    → Choice autos ts → InLanguage a v → Choice autos (set ts r v) × (slice_get (set ts r v) r ≡ Some v)
choice_set [] r a ts v e c l = absurd (none-some a e)
choice_set (x ∷ autos) r a [] v e c l = absurd c
choice_set (x ∷ autos) zero a (t ∷ ts) v e c l =
    ((subst (λ (y : Automaton). InLanguage y v) (sym (same_Some x a e)) l, c.1), refl)
choice_set (x ∷ autos) (suc r) a (t ∷ ts) v e c l = let k = choice_set autos r a ts v e c.1 l in ((c.0, k.0), k.1)

-- ORDER AND HOOKS

has_field_or : (xs : List ℕ) → HasField xs ⊎ (HasField xs → ⊥)
has_field_or [] = inr (λ h. h)
has_field_or (x ∷ xs) = inl tt

less_or : (m n : ℕ) → (m < n) ⊎ (m < n → ⊥)
less_or m n = here (nat_lt m n) refl
  where
    here : (b : Bool) → nat_lt m n ≡ b → (m < n) ⊎ (m < n → ⊥)
    here true e = inl (ltb-true m n e)
    here false e = let l = ltb-false m n e in inr (λ k. omega (arith, l, k))

rises_or : (n : ℕ) (xs : List ℕ) → RisesFrom n xs ⊎ (RisesFrom n xs → ⊥)
rises_or n [] = inl tt
rises_or n (x ∷ xs) = elim (less_or n x) [
  | inr k ↦ inr (λ h. k h.0)
  | inl l ↦ elim (rises_or x xs) [ inr k ↦ inr (λ h. k h.1) | inl h ↦ inl (l, h) ]
]

rising_or : (xs : List ℕ) → IsRising xs ⊎ (IsRising xs → ⊥)
rising_or [] = inl tt
rising_or (x ∷ xs) = rises_or x xs

order_or : (bs : List BoxFace) (ss : List Slot) → IsInOrder bs ss ⊎ (IsInOrder bs ss → ⊥)
order_or bs ss = elim (each_or {B = IsInOrder bs ss → ⊥} (λ (x : Slot). HasField (covers bs x)) ss (λ x i.
    elim (has_field_or (covers bs x)) [
      | inl h ↦ inl h
      | inr n ↦ inr (λ k. n (every_in (λ (x : Slot). HasField (covers bs x)) ss x k.0 i))
    ])) [
      | inr n ↦ inr n
      | inl h ↦ elim (rising_or (map (λ (x : Slot). least (covers bs x)) ss))
          [ inr n ↦ inr (λ k. n k.1) | inl g ↦ inl (h, g) ]
    ]

output_or : (o : Option ℕ) → (o ≡ None) ⊎ (o ≡ None → ⊥)
output_or None = inl refl
output_or (Some n) = inr (λ e. none-some n (sym e))

slot_or : (face : Face) (s : ℕ) (x : Slot) → SlotAlways face s x ⊎ (SlotAlways face s x → ⊥)
slot_or face s (Field f) = inl tt
slot_or face s (Link b) = inl tt
slot_or face s (Hook b) = here (face_of face.boxes b)
  where
    here : (o : Option BoxFace) → HookAlways s o ⊎ (HookAlways s o → ⊥)
    here None = inr (λ h. h)
    here (Some x) = elim (cases_eq x.input s) [
      | inr n ↦ inr (λ h. n h.0)
      | inl e ↦ elim (output_or x.output) [ inr n ↦ inr (λ h. n h.1) | inl d ↦ inl (e, d) ]
    ]

module _ (face : Face) (ts : List Tree) where
  may_hooks : (s : ℕ) (ss : List Slot) (ys : List Symbol) → EndsMayFit face ts s ss ys → Every (SlotAlways face s) ss
  may_hooks s [] ys h = tt
  may_hooks s (Hook b ∷ ss) ys ((x, e, i, o), r) =
      (subst (λ (z : Option BoxFace). HookAlways s z) (sym e) (i, o), may_hooks s ss ys r)
  may_hooks s (Field f ∷ ss) [] h = absurd h
  may_hooks s (Field f ∷ ss) (y ∷ ys) h = (tt, may_hooks s ss ys h.1)
  may_hooks s (Link b ∷ ss) [] h = absurd h
  may_hooks s (Link b ∷ ss) (y ∷ ys) h = (tt, may_hooks s ss ys h.1)

  may_end : (s : ℕ) (ss : List Slot) (ys : List Symbol) (x : Slot) (y : Symbol) → EndsMayFit face ts s ss ys
      → IsIn (x, y) (edges ss ys) → EndMayFit face ts s x y
  may_end s [] ys x y h i = absurd i
  may_end s (Hook b ∷ ss) ys x y h i = may_end s ss ys x y h.1 i
  may_end s (Field f ∷ ss) [] x y h i = absurd i
  may_end s (Field f ∷ ss) (z ∷ ys) x y h (inl e) =
      subst (λ (d : Slot × Symbol). EndMayFit face ts s d.0 d.1) (sym e) h.0
  may_end s (Field f ∷ ss) (z ∷ ys) x y h (inr i) = may_end s ss ys x y h.1 i
  may_end s (Link b ∷ ss) [] x y h i = absurd i
  may_end s (Link b ∷ ss) (z ∷ ys) x y h (inl e) =
      subst (λ (d : Slot × Symbol). EndMayFit face ts s d.0 d.1) (sym e) h.0
  may_end s (Link b ∷ ss) (z ∷ ys) x y h (inr i) = may_end s ss ys x y h.1 i

  module _ (T : List (List ℕ)) (hold : TopsHold T ts) where
    alone_may : (k s : ℕ) → IsAlone s (slice_get T k) → MayName ts (Ref k) s
    alone_may k s h = here (slice_get T k) refl h
      where
        here : (o : Option (List ℕ)) → slice_get T k ≡ o → IsAlone s o → MayName ts (Ref k) s
        here None e h = absurd h
        here (Some tl) e h = let t = hold k tl e in
            (t.0, t.1, λ u g. every_in (λ (n : ℕ). n ≡ s) tl u h (t.2 u g))

    end_may : (s : ℕ) (x : Slot) (y : Symbol) → EndAlways face T s x y → EndMayFit face ts s x y
    end_may s (Field f) y (t, e, h) = (t, e, here y h)
      where
        here : (y : Symbol) → FieldAlways T t y → FieldMayEnd ts t y
        here Null h = tt
        here Uninit h = tt
        here Dangling h = tt
        here (Ref k) h = alone_may k t h
        here (Cell u ds ss) h = h
    end_may s (Hook b) y h = absurd h
    end_may s (Link b) y h = box (face_of face.boxes b) refl h
      where
        box : (o : Option BoxFace) → face_of face.boxes b ≡ o → BoxAlways T s o y → EndMayFit face ts s (Link b) y
        box None e h = absurd h
        box (Some x) e (i, h) = out x.output refl h
          where
            out : (p : Option ℕ) → x.output ≡ p → OutputAlways T x.gives_out p y → EndMayFit face ts s (Link b) y
            out None f h = absurd h
            out (Some t) f h = (x, t, e, i, f, last y h)
              where
                last : (y : Symbol) → LinkAlways T t x.gives_out y
                    → MayName ts y t ⊎ ((y ≡ Dangling) × (x.gives_out ≡ []))
                last Null h = absurd h
                last Uninit h = absurd h
                last Dangling h = inr (refl, h)
                last (Ref k) h = inl (alone_may k t h)
                last (Cell u ds ss) h = inl h

    module _ (rules : List Rule) where
      rule_end : (s q : ℕ) (x : Slot) (y : Symbol) → EdgeAlways face T rules s (x, q) → SymbolsOf rules q y
          → EndMayFit face ts s x y
      rule_end s q x y h (o, i, e, d) = end_may s x y (subst (λ (z : Symbol). EndAlways face T s x z) d
          (every_in (RuleAlways face T s (x, q)) rules o h i e))

      ends_may : (s : ℕ) (ss : List Slot) (qs : List ℕ) (ys : List Symbol) → Every (SlotAlways face s) ss
          → length qs ≡ child_slots ss → Every (EdgeAlways face T rules s) (edges ss qs)
          → Paired (SymbolsOf rules) qs ys
          → EndsMayFit face ts s ss ys
      ends_may s [] [] [] p l k d = tt
      ends_may s [] [] (y ∷ ys) p l k d = absurd d
      ends_may s [] (q ∷ qs) ys p l k d = absurd (omega (arith, l))
      ends_may s (Hook b ∷ ss) qs ys p l k d = (hook (face_of face.boxes b) refl p.0, ends_may s ss qs ys p.1 l k d)
        where
          hook : (o : Option BoxFace) → face_of face.boxes b ≡ o → HookAlways s o → HookFits face s b
          hook None e h = absurd h
          hook (Some x) e h = (x, e, h.0, h.1)
      ends_may s (Link b ∷ ss) [] ys p l k d = absurd (omega (arith, l))
      ends_may s (Link b ∷ ss) (q ∷ qs) [] p l k d = absurd d
      ends_may s (Link b ∷ ss) (q ∷ qs) (y ∷ ys) p l k d =
          (rule_end s q (Link b) y k.0 d.0, ends_may s ss qs ys p.1 (omega (arith, l)) k.1 d.1)
      ends_may s (Field f ∷ ss) [] ys p l k d = absurd (omega (arith, l))
      ends_may s (Field f ∷ ss) (q ∷ qs) [] p l k d = absurd d
      ends_may s (Field f ∷ ss) (q ∷ qs) (y ∷ ys) p l k d =
          (rule_end s q (Field f) y k.0 d.0, ends_may s ss qs ys p.1 (omega (arith, l)) k.1 d.1)

-- ONE PART: THE TREES OF STRUCT s OF THE COMPONENT a OF ROOT r

module _ (face : Face) (autos : List Automaton) (topss : List (List ℕ)) (r s : ℕ) (a b : Automaton)
    (full : Every HasSome autos) (tops : Paired AreTopStructs autos topss) (own : slice_get autos r ≡ Some a)
    (ranked : IsRanked b) (trim : IsTrim b) (into : (t : Tree) → InLanguage b t → InLanguage a t × IsTopped s t) where
  abbrev pub T : List (List ℕ)
  T = set topss r (s ∷ [])

  low : (o : Rule) → IsIn o b.rules → IsRankedRule b.states o
  low o i = every_in (IsRankedRule b.states) b.rules o ranked.1 i

  pub shaped_true : Every (IsShapedRule face T b.rules) b.rules → (ts : List Tree) → Choice autos ts
      → ((t : Tree) → slice_get ts r ≡ Some t → InLanguage b t) → IsShapedRoot face r ts
  shaped_true h ts c g t e = spots_by_rules face.boxes (IsShapedSpot face ts) b [] (
    (λ o i j. shaped o i []),
    (λ o i s1 ds ss d. in_every _ (edges ss o.children) (λ x j p m y. shaped p m (given_by face.boxes x.0))),
  ) t (g t e)
    where
      hold : TopsHold T ts
      hold = hold_set autos topss ts r s tops c (λ t e. (into t (g t e)).1)

      shaped : (o : Rule) → IsIn o b.rules → (above : List ℕ) → RuleSpots (IsShapedSpot face ts) b.rules o above
      shaped o i above s1 ds ss d ys k =
          let w : IsShapedCell face T b.rules s1 ss o.children =
          subst (λ (y : Symbol). ShapedBy face T b.rules y o.children) d
          (every_in (IsShapedRule face T b.rules) b.rules o h i) in
          record {
            ends = ends_may face ts T hold b.rules s1 ss o.children ys w.hooks ((low o i).2 ∙ ap arity d) w.ends k;
            order = w.order;
          }

  abbrev Wrong : Type 0
  Wrong = ForAll autos (IsShapedRoot face r) false

  trees : (q : ℕ) → q < b.states → HasTree b.rules q
  trees = state_trees b trim

  symbols : (q : ℕ) → q < b.states → (y : Symbol) × SymbolsOf b.rules q y
  symbols q l = let w = trees q l in of_run w.0 w.1
    where
      of_run : {q : ℕ} (t : Tree) → RunOf b.rules q t → (y : Symbol) × SymbolsOf b.rules q y
      of_run t (run o i e y k) = (o.symbol, (o, i, e, refl))

  -- what is right with some tree of the part at the root
  abbrev With : List Tree → Spot → Type 0
  With ts p = (v : Tree) × InLanguage b v × IsShapedSpot face (set ts r v) p

  bad : (o : Rule) → IsIn o b.rules → (s1 : ℕ) (ds : List Datum) (ss : List Slot) → o.symbol ≡ Cell s1 ds ss
      → (ts : List Tree) → Choice autos ts → (ys : List Symbol) → Paired (SymbolsOf b.rules) o.children ys
      → ((above : List ℕ) → With ts (spot s1 ss ys above) → ⊥) → Wrong
  bad o i s1 ds ss e ts c ys k n =
      let P = With ts in
      let u = rule_tree face.boxes P b.rules b.states ranked.1 trees o i ys k in
      let w = trim o.state (low o i).0 in
      let g = put face.boxes P b.rules b.states ranked.1 (tree_of o.symbol u.0) w.3 u.1 in
      let l : InLanguage b g.0 = (w.0, w.2, g.1) in
      let d = choice_set autos r a ts g.0 own c (into g.0 l).0 in (
        set ts r g.0,
        d.0,
        λ h. (
            let x = every_weaker (IsShapedSpot face (set ts r g.0)) P (spots face.boxes g.0 []) (λ p z. (g.0, l, z))
            (h g.0 d.1) in
            let y = g.2 [] x in
            let z = tree_spot face.boxes P b.rules b.states ranked.1 trees o u.0 y.0 s1 ds ss e y.1 in
            n y.0 (subst (λ (zs : List Symbol). With ts (spot s1 ss zs y.0)) u.2 z.0)),
      )

  -- an end that is wrong with each tree of the part at the root
  abbrev BadEnd : ℕ → Slot → Symbol → Type 0
  BadEnd s1 x y = (ts : List Tree) × Choice autos ts
      × ((v : Tree) → InLanguage b v → EndMayFit face (set ts r v) s1 x y → ⊥)

  abbrev BadName : ℕ → ℕ → Type 0
  BadName k t = (ts : List Tree) × Choice autos ts
      × ((v : Tree) → InLanguage b v → MayName (set ts r v) (Ref k) t → ⊥)

  any : (ts : List Tree) × Choice autos ts
  any = some_choice autos full

  alone_or : (k t : ℕ) → IsAlone t (slice_get T k) ⊎ BadName k t
  alone_or k t = here (slice_get T k) refl
    where
      here : (o : Option (List ℕ)) → slice_get T k ≡ o → IsAlone t o ⊎ BadName k t
      here None e = inr (any.0, any.1, λ v l h. not_there autos topss any.0 r s k v h.0 tops any.1 e h.1)
      here (Some tl) e = elim (each_or {B = BadName k t} (λ (u : ℕ). u ≡ t) tl (λ u i. elim (cases_eq u t) [
        | inl d ↦ inl d
        | inr n ↦ inr (
            let q = pick autos topss r s k tl u full tops e i in (
              q.0,
              q.1,
              λ v l h. (let w = q.2 v (into v l).1 in
                  n (h.2 u (subst (IsTopped u) (same_Some w.0 h.0 (sym w.1 ∙ h.1)) w.2))),
            ))
      ])) [ inl h ↦ inl h | inr x ↦ inr x ]

  target_or : (s1 f : ℕ) (y : Symbol) (o : Option ℕ) → target_of face.shapes.structs s1 f ≡ o
      → EndAlways face T s1 (Field f) y ⊎ BadEnd s1 (Field f) y
  target_or s1 f y None e = inr (any.0, any.1, λ v l h. none-some h.0 (sym e ∙ h.1))
  target_or s1 f y (Some t) e = here y
    where
      here : (y : Symbol) → EndAlways face T s1 (Field f) y ⊎ BadEnd s1 (Field f) y
      here Null = inl (t, e, tt)
      here Uninit = inl (t, e, tt)
      here Dangling = inl (t, e, tt)
      here (Cell u ds ss) = elim (cases_eq u t) [
        | inl d ↦ inl (t, e, d)
        | inr n ↦ inr (any.0, any.1, λ v l h. n (h.2 ∙ sym (same_Some t h.0 (sym e ∙ h.1))))
      ]
      here (Ref k) = elim (alone_or k t) [
        | inl h ↦ inl (t, e, h)
        | inr w ↦ inr (
          w.0,
          w.1,
          λ v l h.
              w.2 v l (subst (λ (z : ℕ). MayName (set w.0 r v) (Ref k) z) (sym (same_Some t h.0 (sym e ∙ h.1))) h.2),
        )
      ]

  empty_or : (xs : List ℕ) → (xs ≡ []) ⊎ (xs ≡ [] → ⊥)
  empty_or [] = inl refl
  empty_or (x ∷ xs) = inr (λ e. (let d = ap length e in omega (arith, d)))

  box_or : (s1 c : ℕ) (y : Symbol) (o : Option BoxFace) → face_of face.boxes c ≡ o
      → BoxAlways T s1 o y ⊎ BadEnd s1 (Link c) y
  box_or s1 c y None e = inr (any.0, any.1, λ v l h. none-some h.0 (sym e ∙ h.2))
  box_or s1 c y (Some x) e = elim (cases_eq x.input s1) [
    | inr n ↦ inr (any.0, any.1, λ v l h. n (ap (λ (z : BoxFace). z.input) (same_Some x h.0 (sym e ∙ h.2)) ∙ h.3))
    | inl i ↦ elim (out x.output refl) [ inl k ↦ inl (i, k) | inr w ↦ inr w ]
  ]
    where
      out : (p : Option ℕ) → x.output ≡ p → OutputAlways T x.gives_out p y ⊎ BadEnd s1 (Link c) y
      out None f = inr (
        any.0,
        any.1,
        λ v l h.
            none-some h.1 (sym f ∙ ap (λ (z : BoxFace). z.output) (same_Some x h.0 (sym e ∙ h.2)) ∙ h.4),
      )
      out (Some t) f = last y
        where
          target : (h0 : BoxFace) (h1 : ℕ) → face_of face.boxes c ≡ Some h0 → h0.output ≡ Some h1 → t ≡ h1
          target h0 h1 d g = same_Some t h1 (sym f ∙ ap (λ (z : BoxFace). z.output) (same_Some x h0 (sym e ∙ d)) ∙ g)

          last : (y : Symbol) → LinkAlways T t x.gives_out y ⊎ BadEnd s1 (Link c) y
          last Null = inr (
            any.0,
            any.1,
            λ v l h. elim h.5 [
              | inl q ↦ q
              | inr q ↦ true≢false (sym (ap is_dangling q.0))
            ],
          )
          last Uninit = inr (
            any.0,
            any.1,
            λ v l h. elim h.5 [
              | inl q ↦ q
              | inr q ↦ true≢false (sym (ap is_dangling q.0))
            ],
          )
          last Dangling = elim (empty_or x.gives_out) [
            | inl d ↦ inl d
            | inr n ↦ inr (
              any.0,
              any.1,
              λ v l h. elim h.5 [
                | inl q ↦ q
                | inr q ↦ n (ap (λ (z : BoxFace). z.gives_out) (same_Some x h.0 (sym e ∙ h.2)) ∙ q.1)
              ],
            )
          ]
          last (Cell u ds ss) = elim (cases_eq u t) [
            | inl d ↦ inl d
            | inr n ↦ inr (
              any.0,
              any.1,
              λ v l h. elim h.5 [
                | inl q ↦ n (q ∙ sym (target h.0 h.1 h.2 h.4))
                | inr q ↦ true≢false (sym (ap is_dangling q.0))
              ],
            )
          ]
          last (Ref k) = elim (alone_or k t) [
            | inl h ↦ inl h
            | inr w ↦ inr (
              w.0,
              w.1,
              λ v l h. elim h.5 [
                | inl q ↦ w.2 v l (subst (λ (z : ℕ). MayName (set w.0 r v) (Ref k) z) (sym (target h.0 h.1 h.2 h.4)) q)
                | inr q ↦ true≢false (sym (ap is_dangling q.0))
              ],
            )
          ]

  end_or : (s1 : ℕ) (x : Slot) (y : Symbol) → EndAlways face T s1 x y ⊎ BadEnd s1 x y
  end_or s1 (Field f) y = target_or s1 f y (target_of face.shapes.structs s1 f) refl
  end_or s1 (Link c) y = box_or s1 c y (face_of face.boxes c) refl
  end_or s1 (Hook c) y = inr (any.0, any.1, λ v l h. h)

  shaped_or : Every (IsShapedRule face T b.rules) b.rules ⊎ Wrong
  shaped_or = each_or (IsShapedRule face T b.rules) b.rules (λ o i. at_rule o i o.symbol refl)
    where
      edge_or : (o : Rule) → IsIn o b.rules → (s1 : ℕ) (ds : List Datum) (ss : List Slot) → o.symbol ≡ Cell s1 ds ss
          → Every (EdgeAlways face T b.rules s1) (edges ss o.children) ⊎ Wrong
      edge_or o i s1 ds ss e = each_or (EdgeAlways face T b.rules s1) (edges ss o.children) (λ d j.
          each_or (RuleAlways face T s1 d) b.rules (λ p m. elim (cases_eq p.state d.1) [
            | inr n ↦ inl (λ x. absurd (n x))
            | inl x ↦ elim (end_or s1 d.0 p.symbol) [
              | inl h ↦ inl (λ y. h)
              | inr w ↦ inr (
                  let q = symbols_with face T b.rules b.states symbols ss o.children (low o i).1 d j p.symbol
                  (p, m, x, refl) in
                  bad o i s1 ds ss e w.0 w.1 q.0 q.1
                  (λ above g. w.2 g.0 g.1 (may_end face (set w.0 r g.0) s1 ss q.0 d.0 p.symbol g.2.ends q.2)))
            ]
          ]))

      at_rule : (o : Rule) → IsIn o b.rules → (y : Symbol) → o.symbol ≡ y → IsShapedRule face T b.rules o ⊎ Wrong
      at_rule o i Null e = inl (subst (λ (y : Symbol). ShapedBy face T b.rules y o.children) (sym e) tt)
      at_rule o i Uninit e = inl (subst (λ (y : Symbol). ShapedBy face T b.rules y o.children) (sym e) tt)
      at_rule o i Dangling e = inl (subst (λ (y : Symbol). ShapedBy face T b.rules y o.children) (sym e) tt)
      at_rule o i (Ref n) e = inl (subst (λ (y : Symbol). ShapedBy face T b.rules y o.children) (sym e) tt)
      at_rule o i (Cell s1 ds ss) e =
          let ys = all_symbols face T b.rules b.states symbols o.children (low o i).1 in
          elim (order_or face.boxes ss) [
            | inr n ↦ inr (bad o i s1 ds ss e any.0 any.1 ys.0 ys.1 (λ above g. n g.2.order))
            | inl order ↦ elim (each_or {B = Every (SlotAlways face s1) ss → ⊥} (SlotAlways face s1) ss (λ x j.
                elim (slot_or face s1 x) [
                  | inl h ↦ inl h
                  | inr n ↦ inr (λ k. n (every_in (SlotAlways face s1) ss x k j))
                ])) [
                  | inr n ↦ inr (bad o i s1 ds ss e any.0 any.1 ys.0 ys.1
                      (λ above g. n (may_hooks face (set any.0 r g.0) s1 ss ys.0 g.2.ends)))
                  | inl hooks ↦ elim (edge_or o i s1 ds ss e) [
                    | inr w ↦ inr w
                    | inl ends ↦ inl (subst (λ (y : Symbol). ShapedBy face T b.rules y o.children) (sym e)
                        (record { ends = ends; hooks = hooks; order = order }))
                  ]
                ]
          ]

  pub shaped_false : (Every (IsShapedRule face T b.rules) b.rules → ⊥) → Wrong
  shaped_false n = elim shaped_or [ inl h ↦ absurd (n h) | inr w ↦ w ]

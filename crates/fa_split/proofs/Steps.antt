-- Steps of the loops: one more rule, one more leaf.
use Rattle.std.proofs.Common.{◌≡◌, ◌⊎◌, inl, inr, ℕ, ◌<◌, false, true≢false, List, [], ◌∷◌, ◌++◌, map, sym, ap, ap₂}
use Rattle.std.proofs.Common.{subst, ◌∙◌, ◌+◌, length, take, slice_index_or}
use Rattle.std.proofs.lemmas.Option.{get_or_from_slice_get}
use Rattle.fore_base.specs.Lists.{IsIn, Every}
use Rattle.fore_base.proofs.ListLemmas.{in_left, in_right, in_last, in_push, every_push, every_weaker, distinct_push}
use Rattle.ta_core.specs.declared.auto.Rule.{Rule}
use Rattle.fa_core.specs.declared.faces.Face.{Face}
use Rattle.fa_core.specs.declared.forest.Forest.{Forest}
use Rattle.fa_core.specs.declared.forest.Target.{Target}
use Rattle.fa_core.specs.declared.forest.Target.TheVariants.{Null}
use Rattle.fa_core.specs.Cells.{is_leaf}
use Rattle.fa_core.specs.Member.{leaf_symbol}
use Rattle.fa_core.proofs.NodeSpots.{one_leaf}
use Rattle.fa_core.proofs.WaysOf.{map-append}
use Rattle.fa_sound.specs.Components.{component_at}
use Rattle.fa_merge.proofs.Signatures.{one_more}
use Rattle.fa_sound.specs.Soundness.{SoundForest}
use Rattle.fa_split.specs.Chosen.{Picked, StandsAtTop, chosen_at}
use Rattle.fa_sound.specs.Unions.{forests}
use Rattle.fa_split.specs.Split.{AreThose, split_leaf}
use Rattle.fa_split.specs.inner.Ends.{HasLeafRule, IsAdded}
use Rattle.fa_split.proofs.ChosenForests.{picked_take, picked_leave}
use Rattle.fa_split.proofs.SplitSound.{leaf_is_leaf}

pub forests_both : (xs ys : List SoundForest) → forests (xs ++ ys) ≡ forests xs ++ forests ys
forests_both xs ys = map-append (λ (s : SoundForest). s.forest) xs ys

-- Rules chosen one after the other.

module _ (F : Forest) (r : ℕ) (face : Face) where
  abbrev AreDone : List Rule → List SoundForest → Type 0
  AreDone done made =
      ((xs : List Rule) × Picked (StandsAtTop (component_at F.autos r)) done xs
      × (forests made ≡ map (chosen_at F r) xs)) × Every (λ s. s.face ≡ face) made

  pub choose_more : (done : List Rule) (made : List SoundForest) (x : Rule) (s : SoundForest) → AreDone done made
      → StandsAtTop (component_at F.autos r) x → s.forest ≡ chosen_at F r x → s.face ≡ face
      → AreDone (done ++ x ∷ []) (made ++ s ∷ [])
  choose_more done made x s ((xs, k, e), g) h f l = (
    (
      xs ++ x ∷ [],
      picked_take (StandsAtTop (component_at F.autos r)) x h k,
      forests_both made (s ∷ []) ∙ ap₂ (λ (Gs : List Forest) (G : Forest). Gs ++ G ∷ []) e f
          ∙ sym (map-append (chosen_at F r) xs (x ∷ [])),
    ),
    every_push (λ (z : SoundForest). z.face ≡ face) made s g l,
  )

  pub choose_no_more : (done : List Rule) (made : List SoundForest) (x : Rule) → AreDone done made
      → (StandsAtTop (component_at F.autos r) x → ⊥) → AreDone (done ++ x ∷ []) made
  choose_no_more done made x ((xs, k, e), g) h = ((xs, picked_leave (StandsAtTop (component_at F.autos r)) x h k, e), g)

-- Leaves fixed one after the other.

module _ (F : Forest) (r p : ℕ) (face : Face) (leaves : List Target) where
  abbrev AreFixed : ℕ → List SoundForest → Type 0
  AreFixed n made = (forests made ≡ map (split_leaf F r p) (take n leaves)) × Every (λ s. s.face ≡ face) made

  pub split_more : (n : ℕ) (made : List SoundForest) (s : SoundForest) → n < length leaves → AreFixed n made
      → s.forest ≡ split_leaf F r p (slice_index_or leaves n Null) → s.face ≡ face → AreFixed (n + 1) (made ++ s ∷ [])
  split_more n made s l (e, g) f h =
      let k = one_more leaves n l in
      let y : slice_index_or leaves n Null ≡ k.0 = get_or_from_slice_get leaves n k.0 Null k.1 in (
        forests_both made (s ∷ [])
            ∙ ap₂ (λ (Gs : List Forest) (G : Forest). Gs ++ G ∷ []) e (f ∙ ap (split_leaf F r p) y)
            ∙ sym (map-append (split_leaf F r p) (take n leaves) (k.0 ∷ []))
            ∙ ap (map (split_leaf F r p)) (sym k.2),
        every_push (λ (z : SoundForest). z.face ≡ face) made s g h,
      )

-- Leaves of a state collected.

module _ (q : ℕ) (done : List Rule) (x : Rule) where
  abbrev more : List Rule
  more = done ++ x ∷ []

  older : (y : Target) → HasLeafRule done q y → HasLeafRule more q y
  older y (o, i, s, e) = (o, in_left o done (x ∷ []) i, s, e)

  newer : (y : Target) → HasLeafRule more q y → HasLeafRule done q y ⊎ ((x.state ≡ q) × (x.symbol ≡ leaf_symbol y))
  newer y (o, i, s, e) = elim (in_push x o done i) [
    | inl j ↦ inl (o, j, s, e)
    | inr w ↦ inr (sym (ap (λ (z : Rule). z.state) w) ∙ s, sym (ap (λ (z : Rule). z.symbol) w) ∙ e)
  ]

  -- a rule of another state, or of a cell, adds none
  pub leaves_stay : (ys : List Target) → ((y : Target) → x.state ≡ q → x.symbol ≡ leaf_symbol y → ⊥)
      → AreThose (HasLeafRule done q) ys → AreThose (HasLeafRule more q) ys
  leaves_stay ys none h = record {
    each = every_weaker (HasLeafRule done q) (HasLeafRule more q) ys older h.each;
    all = λ y m. elim (newer y m) [ inl k ↦ h.all y k | inr k ↦ absurd (none y k.0 k.1) ];
    once = h.once;
  }

  pub cell_adds_none : is_leaf x.symbol ≡ false → (y : Target) → x.state ≡ q → x.symbol ≡ leaf_symbol y → ⊥
  cell_adds_none g y s e = true≢false (sym (leaf_is_leaf y) ∙ ap is_leaf (sym e) ∙ g)

  -- one of a leaf adds that leaf
  pub leaves_grow : (ys zs : List Target) (y : Target) → x.state ≡ q → x.symbol ≡ leaf_symbol y → IsAdded ys y zs
      → AreThose (HasLeafRule done q) ys → AreThose (HasLeafRule more q) zs
  leaves_grow ys zs y s e (inl (i, w)) h = subst (AreThose (HasLeafRule more q)) (sym w) (record {
    each = every_weaker (HasLeafRule done q) (HasLeafRule more q) ys older h.each;
    all = λ u m. elim (newer u m)
        [ inl k ↦ h.all u k | inr k ↦ subst (λ (z : Target). IsIn z ys) (one_leaf y u (sym e ∙ k.1)) i ];
    once = h.once;
  })
  leaves_grow ys zs y s e (inr (n, w)) h = subst (AreThose (HasLeafRule more q)) (sym w) (record {
    each = every_push (HasLeafRule more q) ys y (every_weaker (HasLeafRule done q) (HasLeafRule more q) ys older h.each)
        (x, in_last x done, s, e);
    all = λ u m. elim (newer u m) [
      | inl k ↦ in_left u ys (y ∷ []) (h.all u k)
      | inr k ↦ in_right u ys (y ∷ []) (inl (one_leaf u y (sym k.1 ∙ e)))
    ];
    once = distinct_push ys y h.once n;
  })

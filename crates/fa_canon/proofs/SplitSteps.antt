-- Rules chosen and children split, as steps that take forests apart.
use Rattle.std.proofs.Common.{◌≡◌, ◌⊎◌, inl, inr, ℕ, zero, suc, ◌<◌, ◌+◌, length, List, [], ◌∷◌, ◌++◌, map, refl, sym}
use Rattle.std.proofs.Common.{ap, subst, ◌∙◌, slice_set, length-set, arith}
use Rattle.fore_base.specs.Lists.{IsIn, Every, Paired}
use Rattle.fore_base.proofs.ListLemmas.{every_in, in_append, in_map, in_mapped, only_item, paired_long, paired_same}
use Rattle.ta_core.specs.Auto.{Automaton, IsRanked}
use Rattle.ta_core.specs.Language.{IsWithin}
use Rattle.ta_core.specs.Single.{HasOneTop}
use Rattle.fa_core.specs.Boxless.{HasNoBoxes}
use Rattle.fa_core.specs.Covering.{Covers}
use Rattle.fa_core.specs.Member.{Regroups, RegroupsInto}
use Rattle.fa_core.specs.declared.boxes.BoxDef.{BoxDef}
use Rattle.fa_core.specs.declared.forest.Forest.{Forest}
use Rattle.fa_core.specs.declared.forest.Target.{Target}
use Rattle.fa_core.specs.declared.forest.Target.TheVariants.{At}
use Rattle.fa_sound.specs.Soundness.{SoundForest}
use Rattle.fa_sound.specs.Components.{component_at}
use Rattle.fa_merge.proofs.PlacedForests.{component_has}
use Rattle.fa_split.specs.Chosen.{AreChosen, Picked, StandsAtTop, chosen_at, none, take, leave}
use Rattle.fa_sound.specs.Unions.{forests}
use Rattle.fa_split.specs.Divided.{HasVarsOf}
use Rattle.fa_split.specs.Split.{AreSplit, MayBeLeaf, child_state, fixed, lifted, split_cells, split_leaf}
use Rattle.fa_split.proofs.OtherComponent.{component_other}
use Rattle.fa_canon.specs.inner.Knots.{IsSplitAt}
use Rattle.fa_canon.specs.inner.Steps.{HasChosen, HaveTops, IsChosenAt, IsSplitEach}
use Rattle.fa_canon.proofs.Settled.{same_or_not}
use Rattle.fa_canon.proofs.SplitTrees.{chosen_is}
use Rattle.fa_canon.proofs.Splits.{only_one}

abbrev the_forest : SoundForest → Forest
the_forest s = s.forest

-- what a call that divides a forest says, as a step
pub divided : (R : SoundForest → SoundForest → Type 0) (F : SoundForest) (Gs : List SoundForest)
    → (Every HasNoBoxes F.forest.autos → Every (λ (g : Forest). Every HasNoBoxes g.autos) (forests Gs))
    → Every (λ (s : SoundForest). s.face ≡ F.face) Gs → Every (HasVarsOf F.forest) (forests Gs)
    → ((T : List BoxDef) → Every (Regroups T F.forest) (forests Gs))
    → ((T : List BoxDef) → RegroupsInto T F.forest (forests Gs)) → ((G : SoundForest) → IsIn G Gs → R F G)
    → IsSplitEach R (F ∷ []) Gs
divided R F Gs plain face vars regroups whole related = record {
  each = λ G i. (let v = every_in (HasVarsOf F.forest) (forests Gs) G.forest vars (in_map the_forest G Gs i) in (
    F,
    inl refl,
    record {
      plain = λ p. every_in (λ (g : Forest). Every HasNoBoxes g.autos) (forests Gs) G.forest (plain p)
          (in_map the_forest G Gs i);
      face = every_in (λ (s : SoundForest). s.face ≡ F.face) Gs G face i;
      vars = ap length v.0;
      data_vars = v.1;
      regroups = λ T. every_in (Regroups T F.forest) (forests Gs) G.forest (regroups T) (in_map the_forest G Gs i);
    },
    related G i,
  ));
  whole = λ G i T. subst (λ (s : SoundForest). RegroupsInto T s.forest (forests Gs)) (sym (only_one G F i)) (whole T);
}

-- Rules chosen.

picked_in : {X : Type 0} (P : X → Type 0) (xs ys : List X) (y : X) → Picked P xs ys → IsIn y ys → IsIn y xs × P y
picked_in P [] [] y none i = absurd i
picked_in P [] (z ∷ ys) y h i = elim h [ ]
picked_in P (x ∷ xs) (z ∷ ys) y (take v h k) (inl e) = (inl e, subst P (sym e) h)
picked_in P (x ∷ xs) (z ∷ ys) y (take v h k) (inr i) = let m = picked_in P xs ys y k i in (inr m.0, m.1)
picked_in P (x ∷ xs) ys y (leave v h k) i = let m = picked_in P xs ys y k i in (inr m.0, m.1)

pub chosen_each : (F : Forest) (r : ℕ) (Gs : List SoundForest) → r < length F.autos → Every IsRanked F.autos
    → AreChosen F r (forests Gs) → (G : SoundForest) → IsIn G Gs → IsChosenAt r F G.forest
chosen_each F r Gs l ranked value G i =
    let a = component_at F.autos r in
    let m = in_mapped (chosen_at F r) G.forest value.0
    (subst (λ (z : List Forest). IsIn G.forest z) value.2 (in_map the_forest G Gs i)) in
    let p = picked_in (StandsAtTop a) a.rules value.0 m.0 value.1 m.1 in
    subst (IsChosenAt r F) (sym m.2) (chosen_is F r m.0 l ranked p.0 p.1.0)

-- one root more
tops_step : (r : ℕ) (F G : Forest) → HaveTops r F → IsChosenAt r F G → HaveTops (r + 1) G
tops_step r F G h c k l = elim (same_or_not k r) [
  | inl e ↦ subst (λ (j : ℕ). HasOneTop (component_at G.autos j)) (sym e) c.top
  | inr d ↦ subst HasOneTop (sym (c.others k d)) (h k (omega (arith, l, d)))
]

covers_on : (F G H : Forest) → Covers F G → Covers G H → Covers F H
covers_on F G H a b = record {
  vars = b.vars ∙ a.vars;
  data_vars = b.data_vars ∙ a.data_vars;
  within = within_on H.autos G.autos F.autos b.within a.within;
}
  where
    within_on : (xs ys zs : List Automaton) → Paired IsWithin xs ys → Paired IsWithin ys zs → Paired IsWithin xs zs
    within_on [] [] [] p q = tt
    within_on [] [] (z ∷ zs) p q = q
    within_on [] (y ∷ ys) zs p q = absurd p
    within_on (x ∷ xs) [] zs p q = absurd p
    within_on (x ∷ xs) (y ∷ ys) [] p q = absurd q
    within_on (x ∷ xs) (y ∷ ys) (z ∷ zs) p q = ((λ t h. q.0 t (p.0 t h)), within_on xs ys zs p.1 q.1)

pub chosen_step : (r : ℕ) (F G H : SoundForest) → HasChosen r F G → IsChosenAt r G.forest H.forest
    → HasChosen (r + 1) F H
chosen_step r F G H a b = (covers_on F.forest G.forest H.forest a.0 b.covers, tops_step r G.forest H.forest a.1 b)

covers_same : (F : Forest) → Covers F F
covers_same F = record { vars = refl; data_vars = refl; within = paired_same IsWithin (λ a t h. h) F.autos }

pub covers_long : (F G : Forest) → Covers F G → length G.autos ≡ length F.autos
covers_long F G h = paired_long IsWithin G.autos F.autos h.within

-- one rule is there already
pub chosen_already : (r : ℕ) (F : Forest) → HasOneTop (component_at F.autos r) → IsChosenAt r F F
chosen_already r F h = record { covers = covers_same F; top = h; others = λ k d. refl }

-- none chosen yet
pub chosen_start : (n : ℕ) (F : SoundForest) → HaveTops n F.forest → HasChosen n F F
chosen_start n F h = (covers_same F.forest, h)

-- all chosen
pub all_tops : (autos : List Automaton) → ((k : ℕ) → k < length autos → HasOneTop (component_at autos k))
    → Every HasOneTop autos
all_tops [] h = tt
all_tops (a ∷ autos) h = (h 0 (omega arith), all_tops autos (λ k l. h (suc k) (omega (arith, l))))

-- Children split.

push_component : (autos : List Automaton) (b : Automaton) (k : ℕ) → k < length autos → component_at (autos ++ b ∷ []) k
    ≡ component_at autos k
push_component [] b k l = absurd (omega (arith, l))
push_component (a ∷ autos) b zero l = refl
push_component (a ∷ autos) b (suc k) l = push_component autos b k (omega (arith, l))

pub split_each : (F : Forest) (r p : ℕ) (s : SoundForest) (Gs : List SoundForest) → s.forest ≡ F
    → Every HasOneTop F.autos → AreSplit F r p (forests Gs)
    → Every (λ (g : Forest). HasOneTop (component_at g.autos r)) (forests Gs) → (G : SoundForest) → IsIn G Gs
    → IsSplitAt r p s G
split_each F r p s Gs e tops value own G i =
    subst
    (λ (z : Forest).
    (((y : Target) × MayBeLeaf z r p y × (G.forest ≡ split_leaf z r p y)) ⊎ (G.forest ≡ split_cells z r p))
    × HaveTops (length z.autos) G.forest) (sym e)
    (here
    (in_append G.forest (map (split_leaf F r p) value.0) value.2.0
    (subst (λ (z : List Forest). IsIn G.forest z) value.2.2 (in_map the_forest G Gs i))))
  where
    top : HasOneTop (component_at G.forest.autos r)
    top = every_in (λ (g : Forest). HasOneTop (component_at g.autos r)) (forests Gs) G.forest own
        (in_map the_forest G Gs i)

    leaf_tops : (y : Target) → G.forest ≡ split_leaf F r p y → HaveTops (length F.autos) G.forest
    leaf_tops y w k l = elim (same_or_not k r) [
      | inl z ↦ subst (λ (j : ℕ). HasOneTop (component_at G.forest.autos j)) (sym z) top
      | inr d ↦ subst HasOneTop
          (sym (ap (λ (z : Forest). component_at z.autos k) w
          ∙ component_other F.autos r k (fixed (component_at F.autos r) p y) d))
          (component_has HasOneTop F.autos k tops l)
    ]

    cell_tops : G.forest ≡ split_cells F r p → HaveTops (length F.autos) G.forest
    cell_tops w k l =
        let b : Automaton = fixed (component_at F.autos r) p (At (length F.autos)) in
        let c : Automaton = lifted (component_at F.autos r) (child_state (component_at F.autos r) p) in
        elim (same_or_not k r) [
          | inl z ↦ subst (λ (j : ℕ). HasOneTop (component_at G.forest.autos j)) (sym z) top
          | inr d ↦ subst HasOneTop
              (sym (ap (λ (z : Forest). component_at z.autos k) w
              ∙ push_component (slice_set F.autos r b) c k (let s = length-set F.autos r b in omega (arith, l, s))
              ∙ component_other F.autos r k b d)) (component_has HasOneTop F.autos k tops l)
        ]

    here : IsIn G.forest (map (split_leaf F r p) value.0) ⊎ IsIn G.forest value.2.0
        → (((y : Target) × MayBeLeaf F r p y × (G.forest ≡ split_leaf F r p y)) ⊎ (G.forest ≡ split_cells F r p))
        × HaveTops (length F.autos) G.forest
    here (inl j) = let m = in_mapped (split_leaf F r p) G.forest value.0 j in
        (inl (m.0, every_in (MayBeLeaf F r p) value.0 m.0 value.1.each m.1, m.2), leaf_tops m.0 m.2)
    here (inr j) = elim value.2.1 [
      | inl w ↦ (let m = only_item G.forest (split_cells F r p) value.2.0 w.1 j in (inr m, cell_tops m))
      | inr w ↦ absurd (subst (λ (z : List Forest). IsIn G.forest z) w.1 j)
    ]

-- the child split, as a step
pub split_step : (r p : ℕ) (F : SoundForest) (Gs : List SoundForest) → Every HasOneTop F.forest.autos
    → AreSplit F.forest r p (forests Gs)
    → (Every HasNoBoxes F.forest.autos → Every (λ (g : Forest). Every HasNoBoxes g.autos) (forests Gs))
    → Every (λ (s : SoundForest). s.face ≡ F.face) Gs
    → Every (HasVarsOf F.forest) (forests Gs) → Every (λ (g : Forest). HasOneTop (component_at g.autos r)) (forests Gs)
    → ((T : List BoxDef) → Every (Regroups T F.forest) (forests Gs))
    → ((T : List BoxDef) → RegroupsInto T F.forest (forests Gs))
    → IsSplitEach (IsSplitAt r p) (F ∷ []) Gs
split_step r p F Gs tops value plain face vars own regroups whole =
    divided (IsSplitAt r p) F Gs plain face vars regroups whole (split_each F.forest r p F Gs refl tops value own)

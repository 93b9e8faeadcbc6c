-- One rule chosen at roots of variables.
use Rattle.std.proofs.Common.{◌≡◌, ◌≢◌, ◌⊎◌, inl, inr, ℕ, ◌+◌, ◌<◌, Bool, true, false, nat_eq, List, [], ◌∷◌}
use Rattle.std.proofs.Common.{length, refl, sym, ap, subst, ◌∙◌, true≢false, arith, length-set}
use Rattle.std.proofs.lemmas.Bool.{eqb-true, eq-eqb}
use Rattle.fore_base.specs.Lists.{IsIn, Every}
use Rattle.fore_base.proofs.ListLemmas.{every_in, every_weaker, in_every, in_map, in_mapped}
use Rattle.ta_core.specs.Single.{HasOneTop}
use Rattle.fa_core.specs.Boxless.{HasNoBoxes}
use Rattle.fa_core.specs.Member.{Regroups, RegroupsInto}
use Rattle.fa_core.specs.declared.boxes.BoxDef.{BoxDef}
use Rattle.fa_core.specs.declared.forest.Forest.{Forest}
use Rattle.fa_core.specs.declared.forest.Target.TheVariants.{At}
use Rattle.fa_core.proofs.Composed.{regroups_on, regroups_same, split_on}
use Rattle.fa_sound.specs.Components.{component_at}
use Rattle.fa_sound.specs.Soundness.{SoundForest}
use Rattle.fa_split.specs.Chosen.{IsChosenOf, chosen}
use Rattle.fa_split.specs.Divided.{forests, HasVarsOf}
use Rattle.fa_split.proofs.OtherComponent.{component_other}
use Rattle.fa_opening.specs.Each.{OfSome}
use Rattle.fa_opening.specs.Opened.{StaysPlain}
use Rattle.sym_step.specs.inner.Topping.{IsChoosing, IsToppedAt, IsTopped}

same_or_not : (j r : ℕ) → (j ≡ r) ⊎ (j ≢ r)
same_or_not j r = here (nat_eq j r) refl
  where
    here : (b : Bool) → nat_eq j r ≡ b → (j ≡ r) ⊎ (j ≢ r)
    here true e = inl (eqb-true j r e)
    here false e = inr (λ w. true≢false (sym (eq-eqb j r w) ∙ e))

-- Forests alike.

pub choosing_self : (S : SoundForest) → IsChoosing S S
choosing_self S = record {
  face_kept = refl;
  vars_kept = (refl, refl);
  plain_kept = λ plain. plain;
  long = refl;
  same = λ k h. refl;
  regroups = λ T. regroups_same T S.forest;
}

choosing_on : (S m s : SoundForest) → IsChoosing S m → IsChoosing m s → IsChoosing S s
choosing_on S m s a b = record {
  face_kept = b.face_kept ∙ a.face_kept;
  vars_kept = (b.vars_kept.0 ∙ a.vars_kept.0, b.vars_kept.1 ∙ a.vars_kept.1);
  plain_kept = λ plain. b.plain_kept (a.plain_kept plain);
  long = b.long ∙ a.long;
  same = λ k h. b.same k (subst HasOneTop (sym (a.same k h)) h) ∙ a.same k h;
  regroups = λ T. regroups_on T S.forest m.forest s.forest (a.regroups T) (b.regroups T);
}

topped_first : (S : SoundForest) → IsTopped 0 S S
topped_first S = record { chosen = choosing_self S; tops = λ r l i. absurd (omega (arith, l)) }

topped_next : (n : ℕ) (S m s : SoundForest) → IsTopped n S m → IsToppedAt n m s → IsTopped (n + 1) S s
topped_next n S m s a b = record {
  chosen = choosing_on S m s a.chosen b.chosen;
  tops = λ r l i. elim (same_or_not r n) [
    | inl e ↦ subst (λ (k : ℕ). HasOneTop (component_at s.forest.autos k)) (sym e)
        (b.top (subst (λ (k : ℕ). IsIn (At k) m.forest.vars) e
        (subst (λ vs. IsIn (At r) vs) (sym a.chosen.vars_kept.0) i)))
    | inr d ↦ (let h = a.tops r (omega (arith, l, d)) i in subst HasOneTop (sym (b.chosen.same r h)) h)
  ];
}

topped_fewer : (n k : ℕ) → k < n + 1 → (S s : SoundForest) → IsTopped n S s → IsTopped k S s
topped_fewer n k l S s a = record { chosen = a.chosen; tops = λ r m i. a.tops r (omega (arith, l, m)) i }

-- Lists of them.

pub tops_first : (parts : List SoundForest) → Every (OfSome (IsTopped 0) parts) parts
tops_first parts = in_every (OfSome (IsTopped 0) parts) parts (λ s i. (s, i, topped_first s))

pub into_itself : (parts : List SoundForest) (S : SoundForest) → IsIn S parts → (T : List BoxDef)
    → RegroupsInto T S.forest (forests parts)
into_itself parts S i T d h =
    (S.forest, in_map (λ (s : SoundForest). s.forest) S parts i, regroups_same T S.forest d h)

pub some_self : (r : ℕ) (parts : List SoundForest) → Every (λ (S : SoundForest). IsToppedAt r S S) parts
    → Every (OfSome (IsToppedAt r) parts) parts
some_self r parts h =
    in_every (OfSome (IsToppedAt r) parts) parts
    (λ s i. (s, i, every_in (λ (S : SoundForest). IsToppedAt r S S) parts s h i))

pub tops_next : (n : ℕ) (parts ms ss : List SoundForest) → Every (OfSome (IsTopped n) parts) ms
    → Every (OfSome (IsToppedAt n) ms) ss → Every (OfSome (IsTopped (n + 1)) parts) ss
tops_next n parts ms ss a b =
    every_weaker (OfSome (IsToppedAt n) ms) (OfSome (IsTopped (n + 1)) parts) ss
    (λ s k. (let w = every_in (OfSome (IsTopped n) parts) ms k.0 a k.1 in
    (w.0, w.1, topped_next n w.0 k.0 s w.2 k.2))) b

abbrev Into : List SoundForest → List SoundForest → Type 0
Into parts made = (S : SoundForest) → IsIn S parts → (T : List BoxDef) → RegroupsInto T S.forest (forests made)

pub into_next : (parts ms ss : List SoundForest) → Into parts ms → Into ms ss → Into parts ss
into_next parts ms ss a b S i T =
    split_on T S.forest (forests ms) (forests ss) (a S i T)
    (λ G j. (let w = in_mapped (λ (s : SoundForest). s.forest) G ms j in
    subst (λ (H : Forest). RegroupsInto T H (forests ss)) (sym w.2) (b w.0 w.1 T)))

pub tops_last : (n k : ℕ) → k < n + 1 → (parts ss : List SoundForest) → Every (OfSome (IsTopped n) parts) ss
    → Every (OfSome (IsTopped k) parts) ss
tops_last n k l parts ss a =
    every_weaker (OfSome (IsTopped n) parts) (OfSome (IsTopped k) parts) ss
    (λ s h. (h.0, h.1, topped_fewer n k l h.0 s h.2)) a

-- One forest.

pub stays_topped : (r : ℕ) (S : SoundForest) → (IsIn (At r) S.forest.vars → HasOneTop (component_at S.forest.autos r))
    → IsToppedAt r S S
stays_topped r S h = record { chosen = choosing_self S; top = h }

module _ (S : SoundForest) (r : ℕ) (none : HasOneTop (component_at S.forest.autos r) → ⊥) (s : SoundForest)
    (face : s.face ≡ S.face) (vars : HasVarsOf S.forest s.forest) (stays : StaysPlain S.forest s.forest)
    (top : HasOneTop (component_at s.forest.autos r))
    (regroups : (T : List BoxDef) → Regroups T S.forest s.forest) (is : IsChosenOf [] S.forest r s.forest) where
  other : (k : ℕ) → HasOneTop (component_at S.forest.autos k) → component_at s.forest.autos k
      ≡ component_at S.forest.autos k
  other k h = elim (same_or_not k r) [
    | inl e ↦ absurd (none (subst (λ (j : ℕ). HasOneTop (component_at S.forest.autos j)) e h))
    | inr d ↦ ap (λ (F : Forest). component_at F.autos k) is.3
        ∙ component_other S.forest.autos r k (chosen (component_at S.forest.autos r) is.0) d
  ]

  pub one_topped : IsToppedAt r S s
  one_topped = record {
    chosen = record {
      face_kept = face;
      vars_kept = vars;
      plain_kept = stays;
      long = ap (λ (F : Forest). length F.autos) is.3
          ∙ length-set S.forest.autos r (chosen (component_at S.forest.autos r) is.0);
      same = other;
      regroups = regroups;
    };
    top = λ i. top;
  }

pub each_topped : (S : SoundForest) (r : ℕ) → (HasOneTop (component_at S.forest.autos r) → ⊥)
    → (ss : List SoundForest) → Every (λ s. s.face ≡ S.face) ss → Every (HasVarsOf S.forest) (forests ss)
    → (Every HasNoBoxes S.forest.autos → Every (λ (G : Forest). Every HasNoBoxes G.autos) (forests ss))
    → Every (λ G. HasOneTop (component_at G.autos r)) (forests ss)
    → ((T : List BoxDef) → Every (Regroups T S.forest) (forests ss))
    → ((T : List BoxDef) → Every (IsChosenOf T S.forest r) (forests ss)) → Every (IsToppedAt r S) ss
each_topped S r none [] a b p c d e = tt
each_topped S r none (s ∷ ss) a b p c d e = (
  one_topped S r none s a.0 b.0 (λ plain. (p plain).0) c.0 (λ T. (d T).0) (e []).0,
  each_topped S r none ss a.1 b.1 (λ plain. (p plain).1) c.1 (λ T. (d T).1) (λ T. (e T).1),
)

pub alone_topped : (r : ℕ) (S : SoundForest) (made : List SoundForest) → made ≡ S ∷ [] → IsToppedAt r S S
    → Every (IsToppedAt r S) made
alone_topped r S made e h = subst (Every (IsToppedAt r S)) (sym e) (h, tt)

pub alone_into : (S : SoundForest) (made : List SoundForest) → made ≡ S ∷ [] → (T : List BoxDef)
    → RegroupsInto T S.forest (forests made)
alone_into S made e T = subst (λ (ss : List SoundForest). RegroupsInto T S.forest (forests ss)) (sym e)
    (into_itself (S ∷ []) S (inl refl) T)

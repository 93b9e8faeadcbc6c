-- Where no root is left to merge, each root is shared, or no other tree refers to it. Where besides it is reached, a
-- way back leads to it.
use Rattle.std.proofs.Common.{◌≡◌, ◌≢◌, ◌⊎◌, inl, inr, ℕ, zero, suc, ◌<◌, ◌≤◌, Bool, true, false, true≢false}
use Rattle.std.proofs.Common.{nat_eq, length, List, [], ◌∷◌, refl, sym, subst, ◌∙◌, slice_get, Some, arith}
use Rattle.std.proofs.lemmas.Bool.{eqb-true, eq-eqb}
use Rattle.std.proofs.lemmas.Option.{same_Some}
use Rattle.fore_base.specs.Lists.{IsIn, Every}
use Rattle.ta_core.specs.Auto.{Automaton}
use Rattle.ta_core.specs.declared.tree.Tree.{Tree}
use Rattle.fa_core.specs.Canonical.{IsLedTo, LeadsBack, RefersTo, references, var_roots}
use Rattle.fa_core.specs.Filled.{Choice, HasSignatures, IsSound}
use Rattle.fa_core.specs.Ways.{signature}
use Rattle.fa_core.specs.declared.faces.BoxFace.{BoxFace}
use Rattle.fa_core.specs.declared.faces.Face.{Face}
use Rattle.fa_core.specs.declared.forest.Forest.{Forest}
use Rattle.fa_core.specs.declared.forest.Target.{Target}
use Rattle.fa_core.specs.declared.forest.Target.TheVariants.{At}
use Rattle.fa_core.proofs.Counts.{in_or_out}
use Rattle.fa_core.proofs.Dressing.{choice_length}
use Rattle.fa_back.specs.Reached.{RootReached, by_var, by_tree, by_way}
use Rattle.fa_back.proofs.ByMarks.{in_var_roots, var_roots_in}
use Rattle.fa_back.proofs.Pairs.{paired_at}
use Rattle.fa_back.proofs.RootMarks.{reach_in_mark, reach_refers, way_led}
use Rattle.fa_order.proofs.CountedMarks.{same_times}
use Rattle.fa_order.proofs.Following.{one_by_two}
use Rattle.fa_order.proofs.SameMarks.{AreSigned, met_refers, same_roots}
use Rattle.fa_canon.specs.inner.Merges.{AreSettled, IsAlone, IsSettled, NoneMerges}
use Rattle.fa_canon.proofs.RootCounts.{count_two, refer_count, refer_or_not, none_counted}

-- Two choices of trees have the same signatures.
choices_signed : (bs : List BoxFace) (autos : List Automaton) (ts us : List Tree) → Every (HasSignatures bs) autos
    → Choice autos ts → Choice autos us → AreSigned bs ts us
choices_signed bs [] [] [] h c d = tt
choices_signed bs [] [] (u ∷ us) h c d = absurd d
choices_signed bs [] (t ∷ ts) us h c d = absurd c
choices_signed bs (a ∷ autos) [] us h c d = absurd c
choices_signed bs (a ∷ autos) (t ∷ ts) [] h c d = absurd d
choices_signed bs (a ∷ autos) (t ∷ ts) (u ∷ us) h c d =
    (h.0.component t u c.0 d.0, choices_signed bs autos ts us h.1 c.1 d.1)

-- a variable is at the root, or none is
pub var_or_not : (vs : List Target) (r : ℕ) → IsIn (At r) vs ⊎ (IsIn (At r) vs → ⊥)
var_or_not vs r = elim (in_or_out r (var_roots vs))
    [ inl h ↦ inl (var_roots_in vs r h) | inr h ↦ inr (λ w. h (in_var_roots vs r w)) ]

counted : (n : ℕ) → (n ≡ 0) ⊎ (n ≡ 1) ⊎ (2 ≤ n)
counted zero = inl refl
counted (suc zero) = inr (inl refl)
counted (suc (suc n)) = inr (inr (omega arith))

pub same_or_not : (j r : ℕ) → (j ≡ r) ⊎ (j ≢ r)
same_or_not j r = here (nat_eq j r) refl
  where
    here : (b : Bool) → nat_eq j r ≡ b → (j ≡ r) ⊎ (j ≢ r)
    here true e = inl (eqb-true j r e)
    here false e = inr (λ w. true≢false (sym (eq-eqb j r w) ∙ e))

tree_there : (ts : List Tree) (r : ℕ) → r < length ts → (t : Tree) × (slice_get ts r ≡ Some t)
tree_there [] r l = absurd (omega (arith, l))
tree_there (t ∷ ts) zero l = (t, refl)
tree_there (t ∷ ts) (suc r) l = tree_there ts r (omega (arith, l))

module _ (face : Face) (F : Forest) (sound : IsSound face F) (none : NoneMerges F) where
  signed : (ts us : List Tree) → Choice F.autos ts → Choice F.autos us → AreSigned face.boxes ts us
  signed ts us c d = choices_signed face.boxes F.autos ts us sound.well_formed.signatures c d

  -- the trees at one place refer to the same roots
  own_alike : (r : ℕ) (ts us : List Tree) (t u : Tree) → Choice F.autos ts → Choice F.autos us
      → slice_get ts r ≡ Some t → slice_get us r ≡ Some u → RefersTo u r → RefersTo t r
  own_alike r ts us t u c d e f w =
      let k = paired_at (λ (x y : Tree). signature face.boxes x ≡ signature face.boxes y) us ts r u (signed us ts d c) f
      in
      let same : Some k.0 ≡ Some t = sym k.1 ∙ e in
      subst (λ (z : Tree). RefersTo z r) (same_Some k.0 t same)
      (met_refers u k.0 (same_roots face.boxes u k.0 k.2) r w)

  pub settled : AreSettled F
  settled ts c r l = by_variable (var_or_not F.vars r)
    where
      by_own : (IsIn (At r) F.vars → ⊥) → references ts r ≡ 1 → (t : Tree) → slice_get ts r ≡ Some t → RefersTo t r
          ⊎ (RefersTo t r → ⊥) → IsSettled F.vars ts r
      by_own v one t e (inl w) = inr (record {
        no_var = v;
        none =
            λ j u f d z.
            (let s = count_two r ts j r u t d f e in let a = refer_count u r z in let b = refer_count t r w in
            omega (arith, one, s, a, b));
      })
      by_own v one t e (inr w) = absurd (none r (record {
        root = (let k = choice_length F.autos ts c in omega (arith, k, l));
        no_var = v;
        one = λ us d. one_by_two (references ts r) (references us r) (same_times face.boxes r ts us (signed ts us c d))
            one;
        other = λ us u d f z. w (own_alike r ts us t u c d e f z);
      }))

      by_count : (IsIn (At r) F.vars → ⊥) → (references ts r ≡ 0) ⊎ (references ts r ≡ 1) ⊎ (2 ≤ references ts r)
          → IsSettled F.vars ts r
      by_count v (inr (inr two)) = inl (inr two)
      by_count v (inl no_one) = inr (record { no_var = v; none = λ j u f d z. none_counted r ts no_one j u f z })
      by_count v (inr (inl one)) = (let t = tree_there ts r l in by_own v one t.0 t.1 (refer_or_not t.0 r))

      by_variable : IsIn (At r) F.vars ⊎ (IsIn (At r) F.vars → ⊥) → IsSettled F.vars ts r
      by_variable (inl v) = inl (inl v)
      by_variable (inr v) = by_count v (counted (references ts r))

-- A root that is reached, and to which no other tree refers, is led to by a way back from another root.

module _ (bs : List BoxFace) (vars : List Target) (ts : List Tree) (r : ℕ) (alone : IsAlone vars ts r) where
  -- a way back that leads to it leads into its own tree
  into_own : (i j : ℕ) → LeadsBack bs ts i j r → j ≡ r
  into_own i j (t, e, (w, h, q, z)) = elim z [
    | inl l ↦ sym l.0
    | inr l ↦ elim (same_or_not j r) [
      | inl s ↦ s
      | inr d ↦ absurd
          (alone.none j t e d
          (reach_refers bs t w.root r (reach_in_mark bs t w.root r (way_led bs t w.root r w h refl l))))
    ]
  ]

  pub alone_led : (k : ℕ) → RootReached bs vars ts k → k ≡ r → IsLedTo bs vars ts r
  alone_led k (by_var i) e = absurd (alone.no_var (subst (λ (n : ℕ). IsIn (At n) vars) e i))
  alone_led k (by_tree j t h g i) e = elim (same_or_not j r) [
    | inl z ↦ alone_led j h z
    | inr z ↦ absurd (alone.none j t g z (subst (λ (n : ℕ). RefersTo t n) e i))
  ]
  alone_led k (by_way i j h l) e = elim (same_or_not i r) [
    | inl z ↦ alone_led i h z
    | inr z ↦ (let led : LeadsBack bs ts i j r = subst (λ (n : ℕ). LeadsBack bs ts i j n) e l in record {
      no_var = alone.no_var;
      alone = alone.none;
      from = i;
      other = z;
      led = subst (λ (n : ℕ). LeadsBack bs ts i n r) (into_own i j led) led;
    })
  ]

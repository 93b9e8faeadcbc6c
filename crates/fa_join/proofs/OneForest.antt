-- Two canonical forests that can be joined have one forest.
use Rattle.std.proofs.Common.{inl, inr, ℕ, zero, suc, ◌<◌, length, List, [], ◌∷◌, refl, sym, subst, slice_index_or}
use Rattle.std.proofs.Common.{arith}
use Rattle.fore_base.specs.Lists.{Every, Paired, PairedBut}
use Rattle.ta_core.specs.Auto.{Automaton, IsRanked}
use Rattle.ta_core.specs.Language.{HasSameLanguage}
use Rattle.ta_core.specs.Single.{HasOneTop}
use Rattle.fa_core.specs.Canonical.{IsCanonical}
use Rattle.fa_core.specs.Faces.{IsGiving}
use Rattle.fa_core.specs.Filled.{IsSound}
use Rattle.fa_core.specs.declared.faces.Face.{Face}
use Rattle.fa_core.specs.declared.forest.Forest.{Forest}
use Rattle.fa_sound.specs.Components.{component_at}
use Rattle.fa_split.specs.Split.{top_rule}
use Rattle.fa_join.specs.Joinable.{SameRuns, SameSignatures, DifferInChild, Joinable}
use Rattle.fa_join.specs.Joined.{Joins}
use Rattle.fa_join.specs.inner.Differing.{DifferAtRoot}
use Rattle.fa_join.specs.inner.Joining.{joined_at}
use Rattle.fa_join.proofs.Deciding.{one_cases}
use Rattle.fa_join.proofs.DecidedForests.{same_below}
use Rattle.fa_join.proofs.JoinedForests.{but_long, joined_below, same_joins}

-- the items that differ stand at the place
but_states : (R S : ℕ → ℕ → Type 0) (i : ℕ) (ps qs : List ℕ) (p q : ℕ) → PairedBut R i p q ps qs → S p q
    → PairedBut R i (slice_index_or ps i 0) (slice_index_or qs i 0) ps qs
    × S (slice_index_or ps i 0) (slice_index_or qs i 0) × (i < length ps)
but_states R S i [] qs p q h s = absurd h
but_states R S i (x ∷ ps) [] p q h s = absurd h
but_states R S zero (x ∷ ps) (y ∷ qs) p q h s =
    ((refl, refl, h.2), subst (λ (z : ℕ). S z y) (sym h.0) (subst (λ (z : ℕ). S p z) (sym h.1) s), omega arith)
but_states R S (suc i) (x ∷ ps) (y ∷ qs) p q h s =
    (let k = but_states R S i ps qs p q h.1 s in ((h.0, k.0), k.1, (let l = k.2 in omega (arith, l))))

but_autos : (R S : Automaton → Automaton → Type 0) (i : ℕ) (xs ys : List Automaton) (a b : Automaton)
    → PairedBut R i a b xs ys → S a b → PairedBut R i (component_at xs i) (component_at ys i) xs ys
    × S (component_at xs i) (component_at ys i) × (i < length xs)
but_autos R S i [] ys a b h s = absurd h
but_autos R S i (x ∷ xs) [] a b h s = absurd h
but_autos R S zero (x ∷ xs) (y ∷ ys) a b h s = (
  (refl, refl, h.2),
  subst (λ (z : Automaton). S z y) (sym h.0) (subst (λ (z : Automaton). S a z) (sym h.1) s),
  omega arith,
)
but_autos R S (suc i) (x ∷ xs) (y ∷ ys) a b h s =
    (let k = but_autos R S i xs ys a b h.1 s in ((h.0, k.0), k.1, (let l = k.2 in omega (arith, l))))

-- where they are related too, all are
but_all : (R : Automaton → Automaton → Type 0) (i : ℕ) (xs ys : List Automaton)
    → PairedBut R i (component_at xs i) (component_at ys i) xs ys → R (component_at xs i) (component_at ys i)
    → Paired R xs ys
but_all R i [] ys h s = absurd h
but_all R i (x ∷ xs) [] h s = absurd h
but_all R zero (x ∷ xs) (y ∷ ys) h s = (s, h.2)
but_all R (suc i) (x ∷ xs) (y ∷ ys) h s = (h.0, but_all R i xs ys h.1 s)

-- what holds of one item of each of two lists
both_at : (P : Automaton → Type 0) (xs : List Automaton) (i : ℕ) → Every P xs → i < length xs → P (component_at xs i)
both_at P [] i h l = absurd (omega (arith, l))
both_at P (x ∷ xs) zero h l = h.0
both_at P (x ∷ xs) (suc i) h l = both_at P xs i h.1 (omega (arith, l))

module _ (face : Face) (F G : Forest) (ranked_F : Every IsRanked F.autos) (ranked_G : Every IsRanked G.autos)
    (giving : Every IsGiving face.boxes)
    (f : IsSound face F) (g : IsSound face G) (can_F : IsCanonical face F) (can_G : IsCanonical face G)
    (h : Joinable face.boxes F G) where
  abbrev Found : Type 0
  Found = (J : Forest) × IsSound face J × IsCanonical face J × Joins F G J

  same : Paired HasSameLanguage F.autos G.autos → Found
  same k = (F, f, can_F, same_joins F G (sym h.vars, sym h.data_vars) k)

  by_child : (r p : ℕ) → DifferAtRoot face.boxes F G r p → Found
  by_child r p d =
      let j = joined_below face F G r p (sym h.vars, sym h.data_vars) ranked_F ranked_G can_F.tops can_G.tops d giving
      f g can_F can_G in
      (joined_at F G r p, j.sound, j.canonical, j.joins)

  at_root : (r : ℕ) → r < length F.autos → r < length G.autos
      → PairedBut HasSameLanguage r (component_at F.autos r) (component_at G.autos r) F.autos G.autos
      → DifferInChild face.boxes (component_at F.autos r) (component_at G.autos r) → Found
  at_root r l m others d =
      let a = component_at F.autos r in
      let b = component_at G.autos r in
      elim
      (one_cases (SameRuns a b) (SameSignatures face.boxes a b) (top_rule a).children (top_rule b).children
      d.children) [
        | inl k ↦ same
            (but_all HasSameLanguage r F.autos G.autos others
            (same_below a b (both_at HasOneTop F.autos r can_F.tops l) (both_at HasOneTop G.autos r can_G.tops m)
            d.symbols k))
        | inr k ↦
            (let c = but_states (SameRuns a b) (SameSignatures face.boxes a b) k.0 (top_rule a).children
            (top_rule b).children k.1 k.2 k.3 k.4 in
            by_child r k.0
            (record {
              root = l;
              others = others;
              below = record { place = c.2; symbols = d.symbols; children = c.0; marks = c.1 };
            }))
      ]

  pub one_forest : (J : Forest) × IsSound face J × IsCanonical face J × Joins F G J
  one_forest = elim (one_cases HasSameLanguage (DifferInChild face.boxes) F.autos G.autos h.components) [
    | inl k ↦ same k
    | inr k ↦ (let c = but_autos HasSameLanguage (DifferInChild face.boxes) k.0 F.autos G.autos k.1 k.2 k.3 k.4 in
        at_root k.0 c.2 (but_long HasSameLanguage k.0 k.1 k.2 F.autos G.autos k.3) c.0 c.1)
  ]

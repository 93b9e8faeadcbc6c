-- Covering over numbers, and covering of the forests as which kept forests read.
use Rattle.std.proofs.Common.{◌≡◌, ◌↔◌, ℕ, zero, suc, ◌<◌, Bool, IsTrue, List, [], ◌∷◌, length, get_or, take}
use Rattle.std.proofs.Common.{Option, Some, None, MatchOption, refl, sym, ◌∙◌, subst, arith}
use Rattle.std.proofs.lemmas.Option.{slice_get_within, get_or_from_slice_get}
use Rattle.fore_base.specs.Lists.{Every, Paired}
use Rattle.ta_core.specs.Auto.{Automaton}
use Rattle.ta_core.specs.Language.{IsWithin}
use Rattle.fa_core.specs.Covering.{Covers}
use Rattle.fa_core.specs.declared.forest.Forest.{Forest}
use Rattle.fa_sound.specs.Soundness.{SoundForest}
use Rattle.par_kit.specs.Phases.{IsFirst}
use Rattle.fa_cover.specs.Firsts.{NoneCovers, IsFirstCover, FirstCover}
use Rattle.fa_pool.specs.Pools.{IsNumber, ReadsAs}
use Rattle.fa_pool.specs.declared.kept.Kept.{Kept}
use Rattle.fa_kept.specs.Memos.{IsWithinAt}
use Rattle.fa_kept.specs.inner.Within.{CoversByNumbers}
use Rattle.fa_kept.proofs.Growing.{one_within}

module _ (pool : List Automaton) where
  within_read : (ns ws : List ℕ) (xs ys : List Automaton) → Paired (IsNumber pool) ns xs
      → Paired (IsNumber pool) ws ys → Paired (IsWithinAt pool) ns ws → Paired IsWithin xs ys
  within_read [] [] [] [] p q h = tt
  within_read [] [] [] (b ∷ ys) p q h = absurd q
  within_read [] [] (a ∷ xs) ys p q h = absurd p
  within_read [] (w ∷ ws) xs ys p q h = absurd h
  within_read (n ∷ ns) [] xs ys p q h = absurd h
  within_read (n ∷ ns) (w ∷ ws) [] ys p q h = absurd p
  within_read (n ∷ ns) (w ∷ ws) (a ∷ xs) [] p q h = absurd q
  within_read (n ∷ ns) (w ∷ ws) (a ∷ xs) (b ∷ ys) p q h =
      (h.0 a b p.0 q.0, within_read ns ws xs ys p.1 q.1 h.1)

  within_numbers : (ns ws : List ℕ) (xs ys : List Automaton) → Paired (IsNumber pool) ns xs
      → Paired (IsNumber pool) ws ys → Paired IsWithin xs ys → Paired (IsWithinAt pool) ns ws
  within_numbers [] [] xs ys p q h = tt
  within_numbers [] (w ∷ ws) [] [] p q h = absurd q
  within_numbers [] (w ∷ ws) [] (b ∷ ys) p q h = absurd h
  within_numbers [] (w ∷ ws) (a ∷ xs) ys p q h = absurd p
  within_numbers (n ∷ ns) ws [] ys p q h = absurd p
  within_numbers (n ∷ ns) [] (a ∷ xs) [] p q h = absurd h
  within_numbers (n ∷ ns) [] (a ∷ xs) (b ∷ ys) p q h = absurd q
  within_numbers (n ∷ ns) (w ∷ ws) (a ∷ xs) [] p q h = absurd h
  within_numbers (n ∷ ns) (w ∷ ws) (a ∷ xs) (b ∷ ys) p q h =
      (one_within pool n w a b p.0 q.0 h.0, within_numbers ns ws xs ys p.1 q.1 h.1)

  pub by_numbers : (wide narrow : Kept) (F G : Forest) → ReadsAs pool wide F → ReadsAs pool narrow G
      → (CoversByNumbers pool wide narrow ↔ Covers F G)
  by_numbers wide narrow F G f g = (
    (λ c. record {
      vars = g.vars ∙ c.vars ∙ sym f.vars;
      data_vars = g.data_vars ∙ c.data_vars ∙ sym f.data_vars;
      within = within_read narrow.parts wide.parts G.autos F.autos g.parts f.parts c.within;
    }),
    (λ c. record {
      vars = sym g.vars ∙ c.vars ∙ f.vars;
      data_vars = sym g.data_vars ∙ c.data_vars ∙ f.data_vars;
      within = within_numbers narrow.parts wide.parts G.autos F.autos g.parts f.parts c.within;
    }),
  )

  pub decides_covering : (wide narrow : Kept) (F G : Forest) → ReadsAs pool wide F → ReadsAs pool narrow G
      → (holds : Bool) → (IsTrue holds ↔ CoversByNumbers pool wide narrow) → (IsTrue holds ↔ Covers F G)
  decides_covering wide narrow F G f g holds d =
      let b = by_numbers wide narrow F G f g in ((λ e. b.0 (d.0 e)), (λ k. d.1 (b.1 k)))

  -- forests that look alike, where it is known whether their parts are within each other
  pub looks_known : (wide narrow : Kept) (r : Option Bool)
      → (narrow.vars ≡ wide.vars) × (narrow.data_vars ≡ wide.data_vars) × (length narrow.parts ≡ length wide.parts)
      → MatchOption r (Unit {0}) (λ holds. IsTrue holds ↔ Paired (IsWithinAt pool) narrow.parts wide.parts)
      → MatchOption r (Unit {0}) (λ holds. IsTrue holds ↔ CoversByNumbers pool wide narrow)
  looks_known wide narrow None look d = tt
  looks_known wide narrow (Some holds) look d = (
    (λ e. record { vars = look.0; data_vars = look.1; within = d.0 e }),
    (λ c. d.1 c.within),
  )

  -- the kept forest reads as that of the node
  abbrev pub IsKeptNode : Kept → SoundForest → Type 0
  IsKeptNode kept node = ReadsAs pool kept node.forest

  module _ (kept : Kept) (F : Forest) (reads : ReadsAs pool kept F) where
    -- the kept forest does not cover it
    abbrev pub CoversNot : Kept → Type 0
    CoversNot node = CoversByNumbers pool node kept → ⊥

    pub none_read : (nodes : List Kept) (all : List SoundForest) → Paired IsKeptNode nodes all → Every CoversNot nodes
        → NoneCovers all F
    none_read [] [] p none = tt
    none_read [] (s ∷ all) p none = absurd p
    none_read (n ∷ nodes) [] p none = absurd p
    none_read (n ∷ nodes) (s ∷ all) p none =
        ((λ c. none.0 ((by_numbers n kept s.forest F p.0 reads).1 c)), none_read nodes all p.1 none.1)

    pub first_read : (nodes : List Kept) (all : List SoundForest) (i : ℕ) (node : Kept) → Paired IsKeptNode nodes all
        → i < length nodes → node ≡ get_or nodes i node → Every CoversNot (take i nodes)
        → CoversByNumbers pool node kept → IsFirstCover all F i
    first_read [] all i node p low at none c = absurd (omega (arith, low))
    first_read (n ∷ nodes) [] i node p low at none c = absurd p
    first_read (n ∷ nodes) (s ∷ all) zero node p low at none c = (
      s,
      refl,
      (by_numbers n kept s.forest F p.0 reads).0 (subst (λ (x : Kept). CoversByNumbers pool x kept) at c),
      tt,
    )
    first_read (n ∷ nodes) (s ∷ all) (suc i) node p low at none c =
        let r = first_read nodes all i node p.1 (omega (arith, low)) at none.1 c in
        (r.0, r.1, r.2, (λ d. none.0 ((by_numbers n kept s.forest F p.0 reads).1 d), r.3))

    -- what is the first by numbers is the first of the forests
    pub first_as_read : (nodes : List Kept) (all : List SoundForest) (found : Option ℕ) → Paired IsKeptNode nodes all
        → IsFirst (λ node. CoversByNumbers pool node kept) nodes found → FirstCover all F found
    first_as_read nodes all None p none = none_read nodes all p none
    first_as_read nodes all (Some i) p least =
        first_read nodes all i least.0 p (slice_get_within nodes i least.0 least.1)
        (sym (get_or_from_slice_get nodes i least.0 least.0 least.1)) least.3 least.2

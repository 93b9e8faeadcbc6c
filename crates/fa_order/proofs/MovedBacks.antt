-- Ways back where roots have other numbers, one for one.
use Rattle.std.proofs.Common.{
  ◌≡◌,
  inl,
  inr,
  ℕ,
  Bool,
  true,
  false,
  true≢false,
  cond,
  ◌&&◌,
  nat_eq,
  List,
  [],
  ◌∷◌,
  ◌++◌,
  map,
  flat_map,
  refl,
  sym,
  ap,
  ap₂,
  subst,
  ◌∙◌,
  Some,
  slice_get,
}
use Rattle.std.proofs.lemmas.Bool.{eqb-true, eq-eqb}
use Rattle.fore_base.specs.Lists.{IsIn}
use Rattle.fore_base.proofs.ListLemmas.{in_map, in_mapped}
use Rattle.ta_core.specs.declared.tree.Tree.{Tree}
use Rattle.fa_core.specs.declared.faces.BoxFace.{BoxFace}
use Rattle.fa_core.specs.Canonical.{LeadsBack, provides}
use Rattle.fa_core.specs.Dressed.{Node}
use Rattle.fa_core.specs.Member.{bare}
use Rattle.fa_core.specs.Placed.{placed}
use Rattle.fa_core.specs.Ways.{
  Step,
  Way,
  ways,
  is_back,
  all_back,
  leads_back,
  led_to,
  given,
  to_root,
  has,
  once_from,
  once,
  roots_met,
}
use Rattle.fa_merge.specs.Reordered.{renumber}
use Rattle.fa_leaves.proofs.MovedWays.{put_way, put_step, ways_put}

module _ (f : ℕ → ℕ) where
  abbrev pub moved_step : Step → Step
  moved_step s = record { slot = s.slot; refers = map f s.refers }

  abbrev pub moved_way : Way → Way
  moved_way w = record { root = f w.root; steps = map moved_step w.steps }

  one_by_one : (ks : List ℕ) → flat_map (λ k. f k ∷ []) ks ≡ map f ks
  one_by_one [] = refl
  one_by_one (k ∷ ks) = ap (λ (z : List ℕ). f k ∷ z) (one_by_one ks)

  steps_moved : (ss : List Step) → map (put_step (renumber f)) ss ≡ map moved_step ss
  steps_moved [] = refl
  steps_moved (s ∷ ss) = ap₂ (λ (x : List ℕ) (y : List Step).
      record { slot = s.slot; refers = x } ∷ y) (one_by_one s.refers) (steps_moved ss)

  pub ways_moved : (ws : List Way) → flat_map (put_way (renumber f)) ws ≡ map moved_way ws
  ways_moved [] = refl
  ways_moved (w ∷ ws) = ap₂ (λ (x : List Step) (y : List Way).
      record { root = f w.root; steps = x } ∷ y) (steps_moved w.steps) (ways_moved ws)

  -- the law for new numbers
  pub renumbered_ways : (n : Node) → ways (bare (placed (renumber f) n)) ≡ map moved_way (ways (bare n))
  renumbered_ways n = ways_put (renumber f) n ∙ ways_moved (ways (bare n))

  -- numbers that are turned back
  module _ (g : ℕ → ℕ) (fg : (j : ℕ) → f (g j) ≡ j) where
    numbers_again : (ks : List ℕ) → map f (map g ks) ≡ ks
    numbers_again [] = refl
    numbers_again (k ∷ ks) = ap₂ (λ (x : ℕ) (xs : List ℕ). x ∷ xs) (fg k) (numbers_again ks)

  module _ (bs : List BoxFace) where
    all_moved : (ss : List Step) → all_back bs (map moved_step ss) ≡ all_back bs ss
    all_moved [] = refl
    all_moved (s ∷ ss) = ap (λ (z : Bool). is_back bs s.slot && z) (all_moved ss)

    pub back_moved : (ss : List Step) → leads_back bs (map moved_step ss) ≡ leads_back bs ss
    back_moved [] = refl
    back_moved (s ∷ ss) = all_moved (s ∷ ss)

    pub led_moved : (ss : List Step) → led_to bs (map moved_step ss) ≡ map f (led_to bs ss)
    led_moved [] = refl
    led_moved (s ∷ ss) = ap (λ (b : Bool). cond b (map f s.refers) (led_to bs (map moved_step ss))) (all_moved (s ∷ ss))
        ∙ here (led_moved ss) (all_back bs (s ∷ ss))
      where
        here : led_to bs (map moved_step ss) ≡ map f (led_to bs ss) → (b : Bool)
            → cond b (map f s.refers) (led_to bs (map moved_step ss)) ≡ map f (cond b s.refers (led_to bs ss))
        here e true = refl
        here e false = e

    given_moved : (ss : List Step) → given bs (map moved_step ss) ≡ given bs ss
    given_moved [] = refl
    given_moved (s ∷ []) = refl
    given_moved (s ∷ t ∷ ss) = given_moved (t ∷ ss)

  module _ (g : ℕ → ℕ) (there : (k : ℕ) → g (f k) ≡ k) where
    pub eq_moved : (a b : ℕ) → nat_eq (f a) (f b) ≡ nat_eq a b
    eq_moved a b = here (nat_eq a b) refl (nat_eq (f a) (f b)) refl
      where
        here : (x : Bool) → nat_eq a b ≡ x → (y : Bool) → nat_eq (f a) (f b) ≡ y → y ≡ x
        here true e true d = refl
        here false e false d = refl
        here true e false d = absurd (true≢false (sym (eq-eqb (f a) (f b) (ap f (eqb-true a b e))) ∙ d))
        here false e true d =
            absurd (true≢false (sym (eq-eqb a b (sym (there a) ∙ ap g (eqb-true (f a) (f b) d) ∙ there b)) ∙ e))

    pub has_moved : (n : ℕ) (s : List ℕ) → has (f n) (map f s) ≡ has n s
    has_moved n [] = refl
    has_moved n (m ∷ s) = let e = eq_moved n m in let h = has_moved n s in rw (e, h) refl

    once_moved : (s xs : List ℕ) → once_from (map f s) (map f xs) ≡ map f (once_from s xs)
    once_moved s [] = refl
    once_moved s (x ∷ xs) = ap (λ (b : Bool).
        cond b (once_from (map f s) (map f xs)) (f x ∷ once_from (f x ∷ map f s) (map f xs))) (has_moved x s)
        ∙ here (once_moved s xs) (once_moved (x ∷ s) xs) (has x s)
      where
        here : once_from (map f s) (map f xs) ≡ map f (once_from s xs)
            → once_from (f x ∷ map f s) (map f xs) ≡ map f (once_from (x ∷ s) xs) → (b : Bool)
            → cond b (once_from (map f s) (map f xs)) (f x ∷ once_from (f x ∷ map f s) (map f xs))
            ≡ map f (cond b (once_from s xs) (x ∷ once_from (x ∷ s) xs))
        here a b true = a
        here a b false = ap (λ (z : List ℕ). f x ∷ z) b

    roots_moved : (ws : List Way) → map (λ (w : Way). w.root) (map moved_way ws) ≡ map f (map (λ (w : Way). w.root) ws)
    roots_moved [] = refl
    roots_moved (w ∷ ws) = ap (λ (z : List ℕ). f w.root ∷ z) (roots_moved ws)

    pub met_moved : (ws : List Way) → roots_met (map moved_way ws) ≡ map f (roots_met ws)
    met_moved ws = ap once (roots_moved ws) ∙ once_moved [] (map (λ (w : Way). w.root) ws)

    pub provided_moved : (bs : List BoxFace) (i : ℕ) (ws : List Way)
        → flat_map (λ (w : Way). given bs w.steps) (to_root (f i) (map moved_way ws))
        ≡ flat_map (λ (w : Way). given bs w.steps) (to_root i ws)
    provided_moved bs i [] = refl
    provided_moved bs i (w ∷ ws) =
        ap (λ (b : Bool). flat_map (λ (v : Way).
        given bs v.steps) (cond b (moved_way w ∷ to_root (f i) (map moved_way ws)) (to_root (f i) (map moved_way ws))))
        (eq_moved i w.root) ∙ here (provided_moved bs i ws) (nat_eq i w.root)
      where
        here : flat_map (λ (w : Way). given bs w.steps) (to_root (f i) (map moved_way ws))
            ≡ flat_map (λ (w : Way). given bs w.steps) (to_root i ws) → (b : Bool)
            → flat_map (λ (v : Way). given bs v.steps)
            (cond b (moved_way w ∷ to_root (f i) (map moved_way ws)) (to_root (f i) (map moved_way ws)))
            ≡ flat_map (λ (v : Way). given bs v.steps) (cond b (w ∷ to_root i ws) (to_root i ws))
        here e true = ap₂ (λ (x y : List ℕ). x ++ y) (given_moved bs w.steps) e
        here e false = e

    -- each tree of `us` is one of `ts` under the new numbers, at its new place
    pub record AreMoved (ts us : List Tree) : Type 0 where
      pub again : (j : ℕ) → f (g j) ≡ j
      pub down : (k : ℕ) (t : Tree) → slice_get ts k ≡ Some t
          → (u : Tree) × (slice_get us (f k) ≡ Some u) × (ways u ≡ map moved_way (ways t))
      pub up : (j : ℕ) (u : Tree) → slice_get us j ≡ Some u
          → (t : Tree) × (slice_get ts (g j) ≡ Some t) × (ways u ≡ map moved_way (ways t))

    module _ (bs : List BoxFace) (ts us : List Tree) (m : AreMoved ts us) where
      pub leads_on : (i j r : ℕ) → LeadsBack bs ts i j r → LeadsBack bs us (f i) (f j) (f r)
      leads_on i j r l =
          let u = m.down j l.0 l.1 in
          let w = l.2 in
          let i' : IsIn (moved_way w.0) (ways u.0) = rw u.2 (in_map moved_way w.0 (ways l.0) w.1) in (
            u.0,
            u.1,
            (
              moved_way w.0,
              i',
              ap f w.2,
              elim w.3 [
                | inl h ↦ inl (ap f h.0, back_moved bs w.0.steps ∙ h.1)
                | inr h ↦ inr (rw (led_moved bs w.0.steps) (in_map f r (led_to bs w.0.steps) h))
              ],
            ),
          )

      leads_up : (i j r : ℕ) → LeadsBack bs us i j r → LeadsBack bs ts (g i) (g j) (g r)
      leads_up i j r l =
          let t = m.up j l.0 l.1 in
          let w = l.2 in
          let x = in_mapped moved_way w.0 (ways t.0) (subst (λ (z : List Way). IsIn w.0 z) t.2 w.1) in
          let root : x.0.root ≡ g i = sym (there x.0.root) ∙ ap g (sym (ap (λ (v : Way). v.root) x.2) ∙ w.2) in
          let steps : w.0.steps ≡ map moved_step x.0.steps = ap (λ (v : Way). v.steps) x.2 in (
            t.0,
            t.1,
            (
              x.0,
              x.1,
              root,
              elim w.3 [
                | inl h ↦ inl (ap g h.0, sym (back_moved bs x.0.steps) ∙ ap (leads_back bs) (sym steps) ∙ h.1)
                | inr h ↦ (let y = in_mapped f r (led_to bs x.0.steps)
                    (subst (λ (z : List ℕ). IsIn r z) (ap (led_to bs) steps ∙ led_moved bs x.0.steps) h)
                    in inr (subst (λ (z : ℕ). IsIn z (led_to bs x.0.steps)) (sym (there y.0) ∙ ap g (sym y.2)) y.1))
              ],
            ),
          )

      pub leads_from : (i j r : ℕ) → LeadsBack bs us (f i) (f j) (f r) → LeadsBack bs ts i j r
      leads_from i j r l = subst (λ (z : ℕ).
          LeadsBack bs ts i j z) (there r)
          (subst (λ (z : ℕ). LeadsBack bs ts i z (g (f r))) (there j)
          (subst (λ (z : ℕ). LeadsBack bs ts z (g (f j)) (g (f r))) (there i) (leads_up (f i) (f j) (f r) l)))

      pub leads_back_from : (i j r : ℕ) → LeadsBack bs us i j r → LeadsBack bs ts (g i) (g j) (g r)
      leads_back_from = leads_up

      pub provides_on : (i j k : ℕ) → provides bs ts i j k → provides bs us (f i) (f j) k
      provides_on i j k p = let u = m.down j p.0 p.1 in (u.0, u.1, rw (u.2, provided_moved bs i (ways p.0)) p.2)

      pub provides_from : (i j k : ℕ) → provides bs us (f i) j k → provides bs ts i (g j) k
      provides_from i j k p = let t = m.up j p.0 p.1
          in (
            t.0,
            t.1,
            subst (λ (z : List ℕ).
                IsIn k z) (provided_moved bs i (ways t.0))
                (subst (λ (z : List Way). IsIn k (flat_map (λ (w : Way). given bs w.steps) (to_root (f i) z))) t.2 p.2),
          )

-- ways under numbers that are turned back
module _ (f g : ℕ → ℕ) (fg : (j : ℕ) → f (g j) ≡ j) where
  steps_again : (ss : List Step) → map (moved_step f) (map (moved_step g) ss) ≡ ss
  steps_again [] = refl
  steps_again (s ∷ ss) = ap₂ (λ (x : List ℕ) (y : List Step). record { slot = s.slot; refers = x } ∷ y)
      (numbers_again f g fg s.refers) (steps_again ss)

  pub ways_again : (ws : List Way) → map (moved_way f) (map (moved_way g) ws) ≡ ws
  ways_again [] = refl
  ways_again (w ∷ ws) =
      ap₂ (λ (x : Way) (y : List Way). x ∷ y)
      (ap₂ (λ (r : ℕ) (ss : List Step). record { root = r; steps = ss }) (fg w.root) (steps_again w.steps))
      (ways_again ws)

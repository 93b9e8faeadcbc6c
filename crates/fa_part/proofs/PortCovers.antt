-- The fields that the slots at the tops of an automaton's trees cover, in rising order.
use Rattle.std.proofs.Common.{◌≡◌, ◌↔◌, inl, inr, ℕ, ◌<◌, ◌≤◌, nat_le, Bool, true, false, cond, List, [], ◌∷◌, ◌++◌}
use Rattle.std.proofs.Common.{flat_map}
use Rattle.std.proofs.Common.{refl, sym, subst, arith}
use Rattle.std.proofs.lemmas.Bool.{leb-true, leb-false}
use Rattle.fore_base.specs.Lists.{IsIn, IsDistinct}
use Rattle.fore_base.proofs.ListLemmas.{in_left, in_right, in_append}
use Rattle.ta_core.specs.Auto.{Automaton}
use Rattle.ta_core.specs.Language.{InLanguage, run}
use Rattle.ta_core.specs.declared.auto.Rule.{Rule}
use Rattle.ta_core.specs.declared.symbol.Symbol.{Symbol}
use Rattle.ta_core.specs.declared.tree.Tree.{Tree}
use Rattle.fa_core.specs.Filled.{covers}
use Rattle.fa_core.specs.Folding.{ArePortFields, covered_fields, symbol_slots}
use Rattle.fa_core.specs.Rearranged.{insert, in_order, IsRising, RisesFrom}
use Rattle.fa_core.specs.declared.faces.BoxFace.{BoxFace}
use Rattle.fa_core.proofs.Permuted.{in_rearranged}
use Rattle.fa_core.proofs.Rearranging.{back}
use Rattle.fa_core.proofs.Sorting.{ordered}
use Rattle.fa_split.specs.Chosen.{StandsAtTop}
use Rattle.fa_part.specs.inner.Added.{Adds, CoveredBy}

-- Numbers that differ, in order.

below : (x y : ℕ) → x ≤ y → (x ≡ y → ⊥) → x < y
below x y l d = omega (arith, l, d)

put_from : (n x : ℕ) (ys : List ℕ) → n < x → RisesFrom n ys → (IsIn x ys → ⊥) → RisesFrom n (insert x ys)
put_from n x [] l h o = (l, tt)
put_from n x (y ∷ ys) l h o = here (nat_le x y) refl (λ k. put_from y x ys k h.1 (λ i. o (inr i)))
  where
    here : (b : Bool) → nat_le x y ≡ b → (y < x → RisesFrom y (insert x ys))
        → RisesFrom n (cond b (x ∷ (y ∷ ys)) (y ∷ insert x ys))
    here true e r = (l, (below x y (leb-true x y e) (λ z. o (inl z)), h.1))
    here false e r = (h.0, r (leb-false x y e))

put_rising : (x : ℕ) (ys : List ℕ) → IsRising ys → (IsIn x ys → ⊥) → IsRising (insert x ys)
put_rising x [] h o = tt
put_rising x (y ∷ ys) h o = here (nat_le x y) refl
  where
    here : (b : Bool) → nat_le x y ≡ b → IsRising (cond b (x ∷ (y ∷ ys)) (y ∷ insert x ys))
    here true e = (below x y (leb-true x y e) (λ z. o (inl z)), h)
    here false e = put_from y x ys (leb-false x y e) h (λ i. o (inr i))

order_rising : (xs : List ℕ) → IsDistinct xs → IsRising (in_order xs)
order_rising [] d = tt
order_rising (x ∷ xs) d =
    put_rising x (in_order xs) (order_rising xs d.1) (λ i. d.0 (in_rearranged x (back (ordered xs)) i))

-- The fields, rule by rule.

module _ (bs : List BoxFace) (a : Automaton) where
  pub none_covered : (f : ℕ) → IsIn f [] ↔ CoveredBy bs a [] f
  none_covered f = ((λ i. absurd i), (λ h. absurd h.1))

  -- a rule more, that stands at the top of some tree
  pub one_covered : (rs : List Rule) (r : Rule) (old new : List ℕ) → StandsAtTop a r
      → Adds old (flat_map (covers bs) (symbol_slots r.symbol)) new
      → ((f : ℕ) → IsIn f old ↔ CoveredBy bs a rs f) → (f : ℕ) → IsIn f new ↔ CoveredBy bs a (rs ++ r ∷ []) f
  one_covered rs r old new top h o f = (to, from)
    where
      to : IsIn f new → CoveredBy bs a (rs ++ r ∷ []) f
      to i = elim ((h.are f).0 i) [
        | inl j ↦ (let k = (o f).0 j in (k.0, in_left k.0 rs (r ∷ []) k.1, k.2, k.3))
        | inr j ↦ (r, in_right r rs (r ∷ []) (inl refl), top, j)
      ]

      from : CoveredBy bs a (rs ++ r ∷ []) f → IsIn f new
      from k = elim (in_append k.0 rs (r ∷ []) k.1) [
        | inl i ↦ (h.are f).1 (inl ((o f).1 (k.0, i, k.2, k.3)))
        | inr (inl e) ↦ (h.are f).1 (inr (subst
            (λ (z : Rule). IsIn f (flat_map (covers bs) (symbol_slots z.symbol))) e k.3))
        | inr (inr n) ↦ absurd n
      ]

  -- a rule more, that stands at the top of none
  pub none_more : (rs : List Rule) (r : Rule) (old : List ℕ) → (StandsAtTop a r → ⊥)
      → ((f : ℕ) → IsIn f old ↔ CoveredBy bs a rs f) → (f : ℕ) → IsIn f old ↔ CoveredBy bs a (rs ++ r ∷ []) f
  none_more rs r old never o f = (to, from)
    where
      to : IsIn f old → CoveredBy bs a (rs ++ r ∷ []) f
      to i = let k = (o f).0 i in (k.0, in_left k.0 rs (r ∷ []) k.1, k.2, k.3)

      from : CoveredBy bs a (rs ++ r ∷ []) f → IsIn f old
      from k = elim (in_append k.0 rs (r ∷ []) k.1) [
        | inl i ↦ (o f).1 (k.0, i, k.2, k.3)
        | inr (inl e) ↦ absurd (never (subst (λ (z : Rule). StandsAtTop a z) e k.2))
        | inr (inr n) ↦ absurd n
      ]

  -- by all rules, the fields are those of the trees
  pub port_fields : (xs : List ℕ) → IsDistinct xs → ((f : ℕ) → IsIn f xs ↔ CoveredBy bs a a.rules f)
      → ArePortFields bs a (in_order xs)
  port_fields xs d h = record { rising = order_rising xs d; are = λ f. (to f, from f) }
    where
      at : (f : ℕ) (y : Symbol) → List ℕ
      at f y = flat_map (covers bs) (symbol_slots y)

      to : (f : ℕ) → IsIn f (in_order xs) → (t : Tree) × InLanguage a t × IsIn f (covered_fields bs t)
      to f i =
          let k = (h f).0 (in_rearranged f (back (ordered xs)) i) in
          let t = k.2.1.0 in
          let b = k.2.1.1 in
          (t, (k.0.state, k.2.0, run k.0 k.1 refl b.0 b.1), subst (λ (y : Symbol). IsIn f (at f y)) b.0 k.3)

      from : (f : ℕ) → ((t : Tree) × InLanguage a t × IsIn f (covered_fields bs t)) → IsIn f (in_order xs)
      from f (t, (q, j, run r i s y k), m) = in_rearranged f (ordered xs) ((h f).1 (
        r,
        i,
        (subst (λ (z : ℕ). IsIn z a.roots) (sym s) j, (t, (y, k))),
        subst (λ (z : Symbol). IsIn f (at f z)) (sym y) m,
      ))

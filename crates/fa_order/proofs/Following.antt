-- Where trees follow others, their roots are of the same kinds.
use Rattle.std.proofs.Common.{◌≡◌, inl, inr, ℕ, zero, suc, ◌≤◌, sym, ap, subst, ◌∙◌, List, Some, slice_get, refl, arith}
use Rattle.fore_base.proofs.ListLemmas.{partner_of, partner_for}
use Rattle.ta_core.specs.declared.symbol.Symbol.TheVariants.{Ref}
use Rattle.ta_core.specs.declared.tree.Tree.{Tree}
use Rattle.fa_core.specs.declared.forest.Target.{Target}
use Rattle.fa_core.specs.Canonical.{RefersTo, IsShared, IsKnot, IsUntied, field_trees, references}
use Rattle.fa_core.specs.References.{to_two}
use Rattle.fa_order.specs.inner.Following.{EndFollows, Follows}

-- Counts as far as two.

pub two_by_two : (m n : ℕ) → to_two m ≡ to_two n → 2 ≤ m → 2 ≤ n
two_by_two zero n e l = absurd (omega (arith, l))
two_by_two (suc zero) n e l = absurd (omega (arith, l))
two_by_two (suc (suc m)) zero e l = let z : 2 ≡ 0 = e in absurd (omega (arith, z))
two_by_two (suc (suc m)) (suc zero) e l = let z : 2 ≡ 1 = e in absurd (omega (arith, z))
two_by_two (suc (suc m)) (suc (suc n)) e l = omega arith

pub one_by_two : (m n : ℕ) → to_two m ≡ to_two n → m ≡ 1 → n ≡ 1
one_by_two m zero e h = let z : 1 ≡ 0 = sym (ap to_two h) ∙ e in absurd (omega (arith, z))
one_by_two m (suc zero) e h = refl
one_by_two m (suc (suc n)) e h = let z : 1 ≡ 2 = sym (ap to_two h) ∙ e in absurd (omega (arith, z))

module _ (f g : ℕ → ℕ) (vs ws : List Target) (ts us : List Tree) (h : Follows f g vs ws ts us) where
  pub shared_follows : (j : ℕ) → IsShared vs ts (g j) → IsShared ws us j
  shared_follows j (inl i) = inl ((h.var j).1 i)
  shared_follows j (inr l) = inr (two_by_two (references ts (g j)) (references us j) (sym (h.times j)) l)

  pub follows_shared : (j : ℕ) → IsShared ws us j → IsShared vs ts (g j)
  follows_shared j (inl i) = inl ((h.var j).0 i)
  follows_shared j (inr l) = inr (two_by_two (references us j) (references ts (g j)) (h.times j) l)

  pub knot_follows : (j : ℕ) → IsKnot vs ts (g j) → IsKnot ws us j
  knot_follows j k =
      let a = h.down k.from k.above k.is_above in
      let l = partner_for (EndFollows f) (field_trees k.above) (field_trees a.0) k.leaf a.2.1 k.in_field in
      let o = h.down (g j) k.own k.is_own in
      record {
        one = one_by_two (references ts (g j)) (references us j) (sym (h.times j)) k.one;
        from = f k.from;
        shared = shared_follows (f k.from) (subst (λ (z : ℕ). IsShared vs ts z) (sym (h.there k.from)) k.shared);
        above = a.0;
        is_above = a.1;
        leaf = l.0;
        in_field = l.1;
        refers = l.2.1 (g j) k.refers ∙ ap Ref (h.again j);
        own = o.0;
        is_own = subst (λ (z : ℕ). slice_get us z ≡ Some o.0) (h.again j) o.1;
        ties = (o.2.0 k.from).0 k.ties;
      }

  pub untied_follows : IsUntied vs ts → IsUntied ws us
  untied_follows n r u w s e i other refers =
      let t = h.up r u e in
      let v = partner_of (EndFollows f) (field_trees t.0) (field_trees u) w t.2.1 i in
      n (g r) t.0 v.0 (follows_shared r s) t.1 v.1 (λ q. other (v.2.1 (g r) q ∙ ap Ref (h.again r)))
      ((v.2.0 (g r)).1 (subst (λ (z : ℕ). RefersTo w z) (sym (h.again r)) refers))

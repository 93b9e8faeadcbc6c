-- What is decided of the trees that show most is what is asked of a forest's roots.
use Rattle.std.proofs.Common.{◌||◌, ◌≡◌, ◌≢◌, inl, inr, ℕ, zero, suc, ◌<◌, ◌+◌, Bool, true, false, not, ◌&&◌, cond}
use Rattle.std.proofs.Common.{true≢false, nat_eq, nat_le, length, List, [], ◌∷◌, map, refl, sym, ap, subst, ◌∙◌}
use Rattle.std.proofs.Common.{slice_get, Some, arith}
use Rattle.std.proofs.lemmas.Bool.{and_parts, and_from, or_left, or_right, or_cases, eqb-true, eq-eqb, leb-true, le-leb}
use Rattle.std.proofs.lemmas.Option.{none-some, same_Some, slice_get_within}
use Rattle.fore_base.specs.Lists.{IsIn}
use Rattle.ta_core.specs.declared.symbol.Symbol.TheVariants.{Ref}
use Rattle.ta_core.specs.declared.tree.Tree.{Tree, out-Tree}
use Rattle.fa_core.specs.Canonical.{RefersTo, IsShared, IsLedTo, IsKnot, IsRootKind, IsUntied, field_trees, references}
use Rattle.fa_core.specs.Canonical.{var_roots}
use Rattle.fa_core.specs.Cells.{is_leaf, below_of, roots_in}
use Rattle.fa_core.specs.References.{to_two, tree_refs}
use Rattle.fa_core.specs.Ways.{has, signature}
use Rattle.fa_core.specs.declared.faces.BoxFace.{BoxFace}
use Rattle.fa_core.specs.declared.forest.Target.{Target}
use Rattle.fa_core.specs.declared.signature.RefMark.{RefMark}
use Rattle.fa_core.proofs.Numbers.{has_once}
use Rattle.fa_merge.specs.Counts.{marks_count}
use Rattle.fa_back.proofs.ByMarks.{in_var_roots, var_roots_in}
use Rattle.fa_back.proofs.RootMarks.{in_has, has_in}
use Rattle.fa_order.specs.declared.showing.Shown.{Shown}
use Rattle.fa_order.specs.inner.Deciding.{times_shown, shared_by, any_leaf, any_cell, any_other, any_leads}
use Rattle.fa_order.specs.inner.Deciding.{ties, any_ties, knot_by, led_by, root_by}
use Rattle.fa_order.specs.inner.Deciding.{roots_by}
use Rattle.fa_order.specs.inner.Backs.{MarkLeads}
use Rattle.fa_order.specs.inner.Showing.{shown_of}
use Rattle.fa_order.proofs.CountedMarks.{sum_marks, sums_are}
use Rattle.fa_order.proofs.Following.{two_by_two, one_by_two}
use Rattle.fa_order.proofs.SameMarks.{signature_roots}
use Rattle.fa_order.proofs.SignedBacks.{leads_tree, tree_leads}
use Rattle.fa_order.proofs.Shows.{leaf_refers, ref_refers, ref_is_leaf}

-- Tests.

not_true : (a : Bool) → not a ≡ true → a ≡ true → ⊥
not_true true h k = true≢false (sym h)
not_true false h k = true≢false (sym k)

true_not : (a : Bool) → (a ≡ true → ⊥) → not a ≡ true
true_not true f = absurd (f refl)
true_not false f = refl

module _ (bs : List BoxFace) where
  -- a tree refers to the roots of its signature
  refers_has : (t : Tree) (k : ℕ) → RefersTo t k → has k (roots_in (signature bs t)) ≡ true
  refers_has t k h = ap (has k) (signature_roots bs t) ∙ has_once k (tree_refs t) ∙ in_has k (tree_refs t) h

  has_refers : (t : Tree) (k : ℕ) → has k (roots_in (signature bs t)) ≡ true → RefersTo t k
  has_refers t k h = has_in k (tree_refs t)
      (sym (has_once k (tree_refs t)) ∙ sym (ap (has k) (signature_roots bs t)) ∙ h)

  -- Ends.

  leaf_there : (r : ℕ) (us : List Tree) → any_leaf r (map (below_of bs) us) ≡ true → (u : Tree) × IsIn u us
      × ((out-Tree u).symbol ≡ Ref r)
  leaf_there r [] h = absurd (true≢false (sym h))
  leaf_there r (u ∷ us) h =
      elim
      (or_cases (is_leaf (out-Tree u).symbol && has r (roots_in (signature bs u))) (any_leaf r (map (below_of bs) us))
      h) [
        | inl e ↦ (let k = and_parts (is_leaf (out-Tree u).symbol) (has r (roots_in (signature bs u))) e in
            (u, inl refl, leaf_refers u r k.0 (has_refers u r k.1)))
        | inr e ↦ (let k = leaf_there r us e in (k.0, inr k.1, k.2))
      ]

  there_leaf : (r : ℕ) (us : List Tree) (u : Tree) → IsIn u us → (out-Tree u).symbol ≡ Ref r
      → any_leaf r (map (below_of bs) us) ≡ true
  there_leaf r [] u i e = absurd i
  there_leaf r (x ∷ us) u (inl q) e =
      or_left (is_leaf (out-Tree x).symbol && has r (roots_in (signature bs x))) (any_leaf r (map (below_of bs) us))
      (subst (λ (z : Tree). (is_leaf (out-Tree z).symbol && has r (roots_in (signature bs z))) ≡ true) q
      (and_from (is_leaf (out-Tree u).symbol) (has r (roots_in (signature bs u))) (ref_is_leaf u r e)
      (refers_has u r (ref_refers u r e))))
  there_leaf r (x ∷ us) u (inr i) e =
      or_right (is_leaf (out-Tree x).symbol && has r (roots_in (signature bs x))) (any_leaf r (map (below_of bs) us))
      (there_leaf r us u i e)

  cell_there : (r : ℕ) (us : List Tree) → any_cell r (map (below_of bs) us) ≡ true → (u : Tree) × IsIn u us
      × ((out-Tree u).symbol ≢ Ref r) × RefersTo u r
  cell_there r [] h = absurd (true≢false (sym h))
  cell_there r (u ∷ us) h =
      elim
      (or_cases (not (is_leaf (out-Tree u).symbol) && has r (roots_in (signature bs u)))
      (any_cell r (map (below_of bs) us)) h) [
        | inl e ↦ (let k = and_parts (not (is_leaf (out-Tree u).symbol)) (has r (roots_in (signature bs u))) e in
            (u, inl refl, (λ q. not_true (is_leaf (out-Tree u).symbol) k.0 (ref_is_leaf u r q)), has_refers u r k.1))
        | inr e ↦ (let k = cell_there r us e in (k.0, inr k.1, k.2, k.3))
      ]

  there_cell : (r : ℕ) (us : List Tree) (u : Tree) → IsIn u us → (out-Tree u).symbol ≢ Ref r → RefersTo u r
      → any_cell r (map (below_of bs) us) ≡ true
  there_cell r [] u i d h = absurd i
  there_cell r (x ∷ us) u (inl q) d h =
      or_left (not (is_leaf (out-Tree x).symbol) && has r (roots_in (signature bs x)))
      (any_cell r (map (below_of bs) us))
      (subst (λ (z : Tree). (not (is_leaf (out-Tree z).symbol) && has r (roots_in (signature bs z))) ≡ true) q
      (and_from (not (is_leaf (out-Tree u).symbol)) (has r (roots_in (signature bs u)))
      (true_not (is_leaf (out-Tree u).symbol) (λ l. d (leaf_refers u r l h))) (refers_has u r h)))
  there_cell r (x ∷ us) u (inr i) d h =
      or_right (not (is_leaf (out-Tree x).symbol) && has r (roots_in (signature bs x)))
      (any_cell r (map (below_of bs) us)) (there_cell r us u i d h)

  module _ (vs : List Target) (ts : List Tree) where
    abbrev vars : List ℕ
    vars = var_roots vs

    abbrev all : List Shown
    all = map (shown_of bs) ts

    times_are : (r : ℕ) (us : List Tree) → times_shown r (map (shown_of bs) us) ≡ sum_marks bs r us
    times_are r [] = refl
    times_are r (u ∷ us) = ap (λ (n : ℕ). marks_count r (signature bs u) + n) (times_are r us)

    times : (r : ℕ) → to_two (times_shown r all) ≡ to_two (references ts r)
    times r = ap to_two (times_are r ts) ∙ sums_are bs r ts

    -- Kinds 1 and 2.

    shared_is : (r : ℕ) → shared_by vars all r ≡ true → IsShared vs ts r
    shared_is r h = elim (or_cases (has r vars) (nat_le 2 (times_shown r all)) h) [
      | inl e ↦ inl (var_roots_in vs r (has_in r vars e))
      | inr e ↦ inr (two_by_two (times_shown r all) (references ts r) (times r) (leb-true 2 (times_shown r all) e))
    ]

    is_shared : (r : ℕ) → IsShared vs ts r → shared_by vars all r ≡ true
    is_shared r (inl i) = or_left (has r vars) (nat_le 2 (times_shown r all)) (in_has r vars (in_var_roots vs r i))
    is_shared r (inr l) = or_right (has r vars) (nat_le 2 (times_shown r all))
        (le-leb 2 (times_shown r all) (two_by_two (references ts r) (times_shown r all) (sym (times r)) l))

    -- Kind 4.

    abbrev Ties : ℕ → Tree → ℕ → Tree → Type 0
    Ties r o i t = ties vars all r (signature bs o) i (shown_of bs t) ≡ true

    ties_there : (r : ℕ) (o : Tree) (i : ℕ) (us : List Tree)
        → any_ties vars all r (signature bs o) i (map (shown_of bs) us) ≡ true → (j : ℕ) × (t : Tree)
        × (slice_get us j ≡ Some t) × Ties r o (i + j) t
    ties_there r o i [] h = absurd (true≢false (sym h))
    ties_there r o i (u ∷ us) h =
        elim
        (or_cases (ties vars all r (signature bs o) i (shown_of bs u))
        (any_ties vars all r (signature bs o) (suc i) (map (shown_of bs) us)) h) [
          | inl e ↦ (let z : i ≡ i + 0 = omega arith in (0, u, refl, subst (λ (n : ℕ). Ties r o n u) z e))
          | inr e ↦ (let k = ties_there r o (suc i) us e in let z : suc i + k.0 ≡ i + suc k.0 = omega arith in
              (suc k.0, k.1, k.2, subst (λ (n : ℕ). Ties r o n k.1) z k.3))
        ]

    there_ties : (r : ℕ) (o : Tree) (i : ℕ) (us : List Tree) (j : ℕ) (t : Tree) → slice_get us j ≡ Some t
        → Ties r o (i + j) t → any_ties vars all r (signature bs o) i (map (shown_of bs) us) ≡ true
    there_ties r o i [] j t e h = absurd (none-some t e)
    there_ties r o i (u ∷ us) zero t e h =
        let z : i + 0 ≡ i = omega arith in
        or_left (ties vars all r (signature bs o) i (shown_of bs u))
        (any_ties vars all r (signature bs o) (suc i) (map (shown_of bs) us))
        (subst (λ (x : Tree). Ties r o i x) (sym (same_Some u t e)) (subst (λ (n : ℕ). Ties r o n t) z h))
    there_ties r o i (u ∷ us) (suc j) t e h =
        let z : i + suc j ≡ suc i + j = omega arith in
        or_right (ties vars all r (signature bs o) i (shown_of bs u))
        (any_ties vars all r (signature bs o) (suc i) (map (shown_of bs) us))
        (there_ties r o (suc i) us j t e (subst (λ (n : ℕ). Ties r o n t) z h))

    knot_is : (r : ℕ) (o : Tree) → slice_get ts r ≡ Some o → knot_by vars all r (signature bs o) ≡ true → IsKnot vs ts r
    knot_is r o own h =
        let a = and_parts (nat_eq (times_shown r all) 1) (any_ties vars all r (signature bs o) 0 all) h in
        let k = ties_there r o 0 ts a.1 in
        let z : 0 + k.0 ≡ k.0 = omega arith in
        let b = and_parts (shared_by vars all k.0)
        (any_leaf r (map (below_of bs) (field_trees k.1)) && has k.0 (roots_in (signature bs o)))
        (subst (λ (n : ℕ). Ties r o n k.1) z k.3) in
        let c = and_parts (any_leaf r (map (below_of bs) (field_trees k.1))) (has k.0 (roots_in (signature bs o))) b.1
        in
        let l = leaf_there r (field_trees k.1) c.0 in
        record {
          one = one_by_two (times_shown r all) (references ts r) (times r) (eqb-true (times_shown r all) 1 a.0);
          from = k.0;
          shared = shared_is k.0 b.0;
          above = k.1;
          is_above = k.2;
          leaf = l.0;
          in_field = l.1;
          refers = l.2;
          own = o;
          is_own = own;
          ties = has_refers o k.0 c.1;
        }

    is_knot : (r : ℕ) (o : Tree) → slice_get ts r ≡ Some o → IsKnot vs ts r → knot_by vars all r (signature bs o) ≡ true
    is_knot r o own k =
        let z : k.from ≡ 0 + k.from = omega arith in
        let same : k.own ≡ o = same_Some k.own o (sym k.is_own ∙ own) in
        and_from (nat_eq (times_shown r all) 1) (any_ties vars all r (signature bs o) 0 all)
        (eq-eqb (times_shown r all) 1 (one_by_two (references ts r) (times_shown r all) (sym (times r)) k.one))
        (there_ties r o 0 ts k.from k.above k.is_above (subst (λ (n : ℕ). Ties r o n k.above) z
        (and_from (shared_by vars all k.from)
        (any_leaf r (map (below_of bs) (field_trees k.above)) && has k.from (roots_in (signature bs o)))
        (is_shared k.from k.shared)
        (and_from (any_leaf r (map (below_of bs) (field_trees k.above))) (has k.from (roots_in (signature bs o)))
        (there_leaf r (field_trees k.above) k.leaf k.in_field k.refers)
        (refers_has o k.from (subst (λ (t : Tree). RefersTo t k.from) same k.ties))))))

    -- Kind 3.

    other_there : (r i : ℕ) (us : List Tree) → any_other r i (map (shown_of bs) us) ≡ true → (j : ℕ) × (t : Tree)
        × (slice_get us j ≡ Some t) × (i + j ≢ r) × RefersTo t r
    other_there r i [] h = absurd (true≢false (sym h))
    other_there r i (u ∷ us) h =
        elim
        (or_cases (not (nat_eq i r) && has r (roots_in (signature bs u))) (any_other r (suc i) (map (shown_of bs) us))
        h) [
          | inl e ↦ (let a = and_parts (not (nat_eq i r)) (has r (roots_in (signature bs u))) e in (
            0,
            u,
            refl,
            (λ z. not_true (nat_eq i r) a.0 (eq-eqb i r (let y : i ≡ i + 0 = omega arith in y ∙ z))),
            has_refers u r a.1,
          ))
          | inr e ↦ (let k = other_there r (suc i) us e in let y : i + suc k.0 ≡ suc i + k.0 = omega arith in
              (suc k.0, k.1, k.2, (λ z. k.3 (sym y ∙ z)), k.4))
        ]

    there_other : (r i : ℕ) (us : List Tree) (j : ℕ) (t : Tree) → slice_get us j ≡ Some t → i + j ≢ r → RefersTo t r
        → any_other r i (map (shown_of bs) us) ≡ true
    there_other r i [] j t e d h = absurd (none-some t e)
    there_other r i (u ∷ us) zero t e d h =
        or_left (not (nat_eq i r) && has r (roots_in (signature bs u))) (any_other r (suc i) (map (shown_of bs) us))
        (and_from (not (nat_eq i r)) (has r (roots_in (signature bs u)))
        (true_not (nat_eq i r) (λ z. d (let y : i + 0 ≡ i = omega arith in y ∙ eqb-true i r z)))
        (refers_has u r (subst (λ (x : Tree). RefersTo x r) (sym (same_Some u t e)) h)))
    there_other r i (u ∷ us) (suc j) t e d h =
        or_right (not (nat_eq i r) && has r (roots_in (signature bs u))) (any_other r (suc i) (map (shown_of bs) us))
        (there_other r (suc i) us j t e (λ z. d (let y : i + suc j ≡ suc i + j = omega arith in y ∙ z)) h)

    -- by marks
    abbrev Led : ℕ → List RefMark → Type 0
    Led r ms = (m : RefMark) × IsIn m ms × (m.root ≢ r) × MarkLeads r r m

    led_there : (r : ℕ) (ms : List RefMark) → any_leads r ms ≡ true → Led r ms
    led_there r [] h = absurd (true≢false (sym h))
    led_there r (m ∷ ms) h =
        elim (or_cases (not (nat_eq m.root r) && (m.back || has r m.reach)) (any_leads r ms) h) [
          | inl e ↦ (let a = and_parts (not (nat_eq m.root r)) (m.back || has r m.reach) e in (
            m,
            inl refl,
            (λ z. not_true (nat_eq m.root r) a.0 (eq-eqb m.root r z)),
            elim (or_cases m.back (has r m.reach) a.1)
                [ inl b ↦ inl (refl, b) | inr b ↦ inr (has_in r m.reach b) ],
          ))
          | inr e ↦ (let k = led_there r ms e in (k.0, inr k.1, k.2, k.3))
        ]

    there_led : (r : ℕ) (ms : List RefMark) → Led r ms → any_leads r ms ≡ true
    there_led r [] h = absurd h.1
    there_led r (m ∷ ms) (x, inl e, d, l) =
        or_left (not (nat_eq m.root r) && (m.back || has r m.reach)) (any_leads r ms)
        (subst (λ (y : RefMark). (not (nat_eq y.root r) && (y.back || has r y.reach)) ≡ true) e
        (and_from (not (nat_eq x.root r)) (x.back || has r x.reach)
        (true_not (nat_eq x.root r) (λ z. d (eqb-true x.root r z)))
        (elim l [
          | inl b ↦ or_left x.back (has r x.reach) b.1
          | inr b ↦ or_right x.back (has r x.reach) (in_has r x.reach b)
        ])))
    there_led r (m ∷ ms) (x, inr i, d, l) =
        or_right (not (nat_eq m.root r) && (m.back || has r m.reach)) (any_leads r ms) (there_led r ms (x, i, d, l))

    led_is : (r : ℕ) (o : Tree) → slice_get ts r ≡ Some o → led_by vars all r (signature bs o) ≡ true
        → IsLedTo bs vs ts r
    led_is r o own h =
        let a = and_parts (not (has r vars)) (not (any_other r 0 all) && any_leads r (signature bs o)) h in
        let b = and_parts (not (any_other r 0 all)) (any_leads r (signature bs o)) a.1 in
        let m = led_there r (signature bs o) b.1 in
        record {
          no_var = λ i. not_true (has r vars) a.0 (in_has r vars (in_var_roots vs r i));
          alone = λ j u e d k. not_true (any_other r 0 all) b.0
              (there_other r 0 ts j u e (λ z. d (let y : j ≡ 0 + j = omega arith in y ∙ z)) k);
          from = m.0.root;
          other = m.2;
          led = tree_leads bs ts r o own m.0.root r (m.0, m.1, refl, m.3);
        }

    is_led : (r : ℕ) (o : Tree) → slice_get ts r ≡ Some o → IsLedTo bs vs ts r
        → led_by vars all r (signature bs o) ≡ true
    is_led r o own k =
        let m = leads_tree bs ts r o own k.from r k.led in
        and_from (not (has r vars)) (not (any_other r 0 all) && any_leads r (signature bs o))
        (true_not (has r vars) (λ h. k.no_var (var_roots_in vs r (has_in r vars h))))
        (and_from (not (any_other r 0 all)) (any_leads r (signature bs o))
        (true_not (any_other r 0 all)
        (λ h. let t = other_there r 0 ts h in let y : 0 + t.0 ≡ t.0 = omega arith in
        k.alone t.0 t.1 t.2 (λ z. t.3 (y ∙ z)) t.4))
        (there_led r (signature bs o) (m.0, m.1, (λ z. k.other (sym m.2 ∙ z)), m.3)))

    -- One root.

    abbrev Kind : ℕ → Type 0
    Kind r = IsRootKind bs vs ts r

    abbrev Loose : ℕ → Tree → Type 0
    Loose r t = IsShared vs ts r → (u : Tree) → IsIn u (field_trees t) → (out-Tree u).symbol ≢ Ref r → RefersTo u r → ⊥

    root_is : (r : ℕ) (t : Tree) → slice_get ts r ≡ Some t → root_by vars all r (shown_of bs t) ≡ true → Kind r
        × Loose r t
    root_is r t e = here (shared_by vars all r) refl
      where
        here : (b : Bool) → shared_by vars all r ≡ b
            → cond b (not (any_cell r (map (below_of bs) (field_trees t))))
            (knot_by vars all r (signature bs t) || led_by vars all r (signature bs t)) ≡ true → Kind r × Loose r t
        here true s h = (
          inl (shared_is r s),
          (λ w u i d k. not_true (any_cell r (map (below_of bs) (field_trees t))) h
              (there_cell r (field_trees t) u i d k)),
        )
        here false s h = (
          elim (or_cases (knot_by vars all r (signature bs t)) (led_by vars all r (signature bs t)) h)
              [ inl k ↦ inr (inr (knot_is r t e k)) | inr l ↦ inr (inl (led_is r t e l)) ],
          (λ w u i d k. true≢false (sym (is_shared r w) ∙ s)),
        )

    is_root : (r : ℕ) (t : Tree) → slice_get ts r ≡ Some t → Kind r → Loose r t → root_by vars all r (shown_of bs t)
        ≡ true
    is_root r t e k l = here (shared_by vars all r) refl k
      where
        here : (b : Bool) → shared_by vars all r ≡ b → Kind r
            → cond b (not (any_cell r (map (below_of bs) (field_trees t))))
            (knot_by vars all r (signature bs t) || led_by vars all r (signature bs t)) ≡ true
        here true s k = true_not (any_cell r (map (below_of bs) (field_trees t)))
            (λ h. let c = cell_there r (field_trees t) h in l (shared_is r s) c.0 c.1 c.2 c.3)
        here false s (inl w) = absurd (true≢false (sym (is_shared r w) ∙ s))
        here false s (inr (inl w)) =
            or_right (knot_by vars all r (signature bs t)) (led_by vars all r (signature bs t)) (is_led r t e w)
        here false s (inr (inr w)) =
            or_left (knot_by vars all r (signature bs t)) (led_by vars all r (signature bs t)) (is_knot r t e w)

    -- All roots.

    each_root : (r : ℕ) (us : List Tree) → roots_by vars all r (map (shown_of bs) us) ≡ true → (j : ℕ) (t : Tree)
        → slice_get us j ≡ Some t → root_by vars all (r + j) (shown_of bs t) ≡ true
    each_root r [] h j t e = absurd (none-some t e)
    each_root r (u ∷ us) h zero t e =
        let a = and_parts (root_by vars all r (shown_of bs u)) (roots_by vars all (suc r) (map (shown_of bs) us)) h in
        let z : r ≡ r + 0 = omega arith in
        subst (λ (n : ℕ). root_by vars all n (shown_of bs t) ≡ true) z
        (subst (λ (x : Tree). root_by vars all r (shown_of bs x) ≡ true) (same_Some u t e) a.0)
    each_root r (u ∷ us) h (suc j) t e =
        let a = and_parts (root_by vars all r (shown_of bs u)) (roots_by vars all (suc r) (map (shown_of bs) us)) h in
        let z : suc r + j ≡ r + suc j = omega arith in
        subst (λ (n : ℕ). root_by vars all n (shown_of bs t) ≡ true) z (each_root (suc r) us a.1 j t e)

    root_each : (r : ℕ) (us : List Tree)
        → ((j : ℕ) (t : Tree) → slice_get us j ≡ Some t → root_by vars all (r + j) (shown_of bs t) ≡ true)
        → roots_by vars all r (map (shown_of bs) us) ≡ true
    root_each r [] h = refl
    root_each r (u ∷ us) h =
        let z : r + 0 ≡ r = omega arith in
        and_from (root_by vars all r (shown_of bs u)) (roots_by vars all (suc r) (map (shown_of bs) us))
        (subst (λ (n : ℕ). root_by vars all n (shown_of bs u) ≡ true) z (h 0 u refl))
        (root_each (suc r) us (λ j t e. let y : r + suc j ≡ suc r + j = omega arith in
        subst (λ (n : ℕ). root_by vars all n (shown_of bs t) ≡ true) y (h (suc j) t e)))

    tree_here : (xs : List Tree) (r : ℕ) → r < length xs → (t : Tree) × (slice_get xs r ≡ Some t)
    tree_here [] r l = absurd (omega (arith, l))
    tree_here (x ∷ xs) zero l = (x, refl)
    tree_here (x ∷ xs) (suc r) l = tree_here xs r (omega (arith, l))

    -- the roots are decided to be those of a canonical forest: so they are
    pub roots_are : roots_by vars all 0 all ≡ true → ((r : ℕ) → r < length ts → Kind r) × IsUntied vs ts
    roots_are h = (
      (λ r l. let t = tree_here ts r l in (at r t.0 t.1).0),
      (λ r t u s e i d k. (at r t e).1 s u i d k),
    )
      where
        at : (r : ℕ) (t : Tree) → slice_get ts r ≡ Some t → Kind r × Loose r t
        at r t e = let z : 0 + r ≡ r = omega arith in
            root_is r t e (subst (λ (n : ℕ). root_by vars all n (shown_of bs t) ≡ true) z (each_root 0 ts h r t e))

    -- and the other way round
    pub are_roots : ((r : ℕ) → r < length ts → Kind r) → IsUntied vs ts → roots_by vars all 0 all ≡ true
    are_roots k n = root_each 0 ts (λ r t e. let z : r ≡ 0 + r = omega arith in
        subst (λ (m : ℕ). root_by vars all m (shown_of bs t) ≡ true) z
        (is_root r t e (k r (slice_get_within ts r t e)) (λ s u i d w. n r t u s e i d w)))

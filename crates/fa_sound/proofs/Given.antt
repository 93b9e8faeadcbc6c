-- What is given at a root, read off the signatures.
use Rattle.std.proofs.Common.{◌⊎◌, inl, inr, zero, ◌<◌, ◌+◌, slice_get, slice_index_or, arith}
use Rattle.std.proofs.Common.{◌≡◌, ℕ, suc, Bool, true, false, true≢false, cond, ◌||◌, nat_eq, List, [], ◌∷◌, ◌++◌}
use Rattle.std.proofs.Common.{map, flat_map, length, Some, None, refl, sym, ap, subst, ◌∙◌}
use Rattle.std.proofs.lemmas.Bool.{eqb-true, cases_lt}
use Rattle.fa_core.proofs.CellMarks.{none_there}
use Rattle.fa_core.proofs.Sorting.{ordered}
use Rattle.fa_core.proofs.WayParts.{way_roots}
use Rattle.fore_base.specs.Lists.{IsIn, Every, Paired}
use Rattle.fore_base.proofs.ListLemmas.{every_in}
use Rattle.ta_core.specs.Auto.{Automaton, IsRanked, IsRankedRule}
use Rattle.ta_core.specs.Language.{HasTree, RunOf, run}
use Rattle.ta_core.specs.declared.tree.Tree.{Tree}
use Rattle.fa_core.specs.declared.faces.BoxFace.{BoxFace}
use Rattle.fa_core.specs.declared.signature.RefMark.{RefMark}
use Rattle.fa_core.specs.Rearranged.{Rearranged, empty, chain}
use Rattle.fa_core.specs.Ways.{Way, ways, given, to_root, has, roots_met, mark, signature}
use Rattle.fa_core.specs.Cells.{mark_of}
use Rattle.fa_core.specs.declared.signature.Signature.{Signature}
use Rattle.fa_core.specs.Filled.{Choice, given_at, HasSignatures}
use Rattle.fa_filling.specs.Given.{given_to, IsGivenAt}
use Rattle.fa_sound.specs.Signatures.{AreSignatures}
use Rattle.fa_sound.specs.inner.Owned.{fields_of_mark, given_of, IsOwn, marks_of, has_marks, own_of, owns_of}
use Rattle.fa_core.proofs.Rearranging.{same, both}
use Rattle.fa_core.proofs.Numbers.{has_once}

-- the mark of a root, among marks of different roots
pub found_map : (g : ℕ → RefMark) → ((n : ℕ) → (g n).root ≡ n) → (r : ℕ) (rs : List ℕ) → mark_of r (map g rs)
    ≡ cond (has r rs) (Some (g r)) None
found_map g e r [] = refl
found_map g e r (x ∷ xs) =
    ap (λ (n : ℕ). cond (nat_eq r n) (Some (g x)) (mark_of r (map g xs))) (e x)
    ∙ here (nat_eq r x) refl (found_map g e r xs)
  where
    here : (b : Bool) → nat_eq r x ≡ b → mark_of r (map g xs) ≡ cond (has r xs) (Some (g r)) None
        → cond b (Some (g x)) (mark_of r (map g xs)) ≡ cond (b || has r xs) (Some (g r)) None
    here true d k = ap (λ (n : ℕ). Some (g n)) (sym (eqb-true r x d))
    here false d k = k

equal_lists : {xs ys : List ℕ} → xs ≡ ys → Rearranged xs ys
equal_lists {xs} e = subst (λ (l : List ℕ). Rearranged xs l) e (same xs)

pub given_tree : (bs : List BoxFace) (t : Tree) (r : ℕ) → Rearranged
    (flat_map (λ w. given bs w.steps) (to_root r (ways t))) (fields_of_mark (mark_of r (signature bs t)))
given_tree bs t r = chain (here (has r (way_roots (ways t))) refl) (equal_lists (ap fields_of_mark (sym here_mark)))
  where
    here_mark : mark_of r (signature bs t) ≡ cond (has r (way_roots (ways t))) (Some (mark bs (ways t) r)) None
    here_mark = found_map (mark bs (ways t)) (λ n. refl) r (roots_met (ways t))
        ∙ ap (λ (b : Bool). cond b (Some (mark bs (ways t) r)) None)
        (has_once r (way_roots (ways t)))

    here : (b : Bool) → has r (way_roots (ways t)) ≡ b → Rearranged
        (flat_map (λ w. given bs w.steps) (to_root r (ways t)))
        (fields_of_mark (cond b (Some (mark bs (ways t) r)) None))
    here true e = ordered (flat_map (λ w. given bs w.steps) (to_root r (ways t)))
    here false e = equal_lists (ap (λ (l : List Way). flat_map (λ w. given bs w.steps) l) (none_there r (ways t) e))

pub all_given : (bs : List BoxFace) (autos : List Automaton) (ts : List Tree) (sigs : List (List RefMark))
    → Choice autos ts → Paired (IsOwn bs) autos sigs → (r : ℕ) → Rearranged (given_at bs ts r) (given_of sigs r)
all_given bs [] [] [] c o r = empty
all_given bs [] [] (s ∷ sigs) c o r = absurd o
all_given bs [] (t ∷ ts) sigs c o r = absurd c
all_given bs (a ∷ autos) [] sigs c o r = absurd c
all_given bs (a ∷ autos) (t ∷ ts) [] c o r = absurd o
all_given bs (a ∷ autos) (t ∷ ts) (s ∷ sigs) c o r =
    both (subst (λ (ms : List RefMark). Rearranged (flat_map (λ w. given bs w.steps) (to_root r (ways t)))
    (fields_of_mark (mark_of r ms))) (o.0 t c.0) (given_tree bs t r)) (all_given bs autos ts sigs c.1 o.1 r)

-- THE COMPONENTS' OWN SIGNATURES

module _ (list : List Signature) where
  abbrev Owned : List ℕ → Type 0
  Owned qs = ((own_of list qs ≡ []) × Every (λ (q : ℕ). marks_of list q ≡ []) qs)
      ⊎ ((p : ℕ) × IsIn p qs × (own_of list qs ≡ marks_of list p) × (has_marks (marks_of list p) ≡ true))

  no_marks : (ms : List RefMark) → has_marks ms ≡ false → ms ≡ []
  no_marks [] h = refl
  no_marks (m ∷ ms) h = absurd (true≢false h)

  owned : (qs : List ℕ) → Owned qs
  owned [] = inl (refl, tt)
  owned (q ∷ qs) = here (has_marks (marks_of list q)) refl (owned qs)
    where
      here : (b : Bool) → has_marks (marks_of list q) ≡ b → Owned qs → Owned (q ∷ qs)
      here true e o = inr (q, inl refl, rw e refl, e)
      here false e (inl o) = inl (rw e o.0, (no_marks (marks_of list q) e, o.1))
      here false e (inr o) = inr (o.0, inr o.1, rw e o.2, o.3)

marked : (ms : List RefMark) → has_marks ms ≡ true → ms ≡ [] → ⊥
marked ms h e = true≢false (sym h ∙ ap has_marks e)

module _ (bs : List BoxFace) (a : Automaton) (list : List Signature) (ranked : IsRanked a) (h : HasSignatures bs a)
    (l : AreSignatures bs a list) where
  -- the signature that the list has for a state with a tree
  listed : {q : ℕ} {t : Tree} → RunOf a.rules q t → marks_of list q ≡ signature bs t
  listed {q} {t} (run r i e s k) =
      let n = (every_in (IsRankedRule a.states) a.rules r ranked.1 i).0 in
      let m : q < length list = let d = l.long in omega (arith, n, e, d) in
      l.each q (slice_index_or list q (record { refs = [] })) t (got list q m) (run r i e s k)
    where
      got : (xs : List Signature) (k : ℕ) → k < length xs
          → slice_get xs k ≡ Some (slice_index_or xs k (record { refs = [] }))
      got [] k m = absurd (omega (arith, m))
      got (x ∷ xs) zero m = refl
      got (x ∷ xs) (suc k) m = got xs k (omega (arith, m))

  -- that of a state with a mark is of a tree
  of_tree : (p : ℕ) → has_marks (marks_of list p) ≡ true → HasTree a.rules p
  of_tree p m = elim (l.some p (slice_index_or list p (record { refs = [] })) (there list p m)) [
    | inl e ↦ absurd (marked (marks_of list p) m e)
    | inr t ↦ t
  ]
    where
      there : (xs : List Signature) (k : ℕ) → has_marks (marks_of xs k) ≡ true
          → slice_get xs k ≡ Some (slice_index_or xs k (record { refs = [] }))
      there [] k m = absurd (true≢false (sym m))
      there (x ∷ xs) zero m = refl
      there (x ∷ xs) (suc k) m = there xs k m

  own_is : IsOwn bs a (own_of list a.roots)
  own_is t (q, i, k) = elim (owned list a.roots) [
    | inl o ↦ sym (listed k) ∙ every_in (λ (n : ℕ). marks_of list n ≡ []) a.roots q o.1 i ∙ sym o.0
    | inr o ↦ (let u = of_tree o.0 o.3 in
        h.component t u.0 (q, i, k) (o.0, o.1, u.1) ∙ sym (listed u.1) ∙ sym o.2)
  ]

-- each component has its own signature
owns_are : (bs : List BoxFace) (autos : List Automaton) (lists : List (List Signature)) → Every IsRanked autos
    → Every (HasSignatures bs) autos → Paired (AreSignatures bs) autos lists
    → Paired (IsOwn bs) autos (owns_of autos lists)
owns_are bs [] [] r h l = tt
owns_are bs [] (x ∷ lists) r h l = absurd l
owns_are bs (a ∷ autos) [] r h l = absurd l
owns_are bs (a ∷ autos) (x ∷ lists) r h l =
    (own_is bs a x r.0 h.0 l.0, owns_are bs autos lists r.1 h.1 l.1)

-- what is read off them is given at each root
pub owns_give : (bs : List BoxFace) (autos : List Automaton) (lists : List (List Signature)) (given : List (List ℕ))
    → ((r : ℕ) → r < length autos → given_to given r ≡ given_of (owns_of autos lists) r) → Every IsRanked autos
    → Every (HasSignatures bs) autos → Paired (AreSignatures bs) autos lists → IsGivenAt bs autos (given_to given)
owns_give bs autos lists given e k h l ts c r m =
    subst (λ (g : List ℕ). Rearranged (given_at bs ts r) g) (sym (e r m))
    (all_given bs autos ts (owns_of autos lists) c (owns_are bs autos lists k h l) r)

-- THE LOOPS

-- one more root
pub given_more : (given : List (List ℕ)) (sigs : List (List RefMark)) (fields : List ℕ) (n : ℕ) → length given ≡ n
    → ((r : ℕ) → r < n → given_to given r ≡ given_of sigs r) → fields ≡ given_of sigs n → (r : ℕ) → r < n + 1
    → given_to (given ++ fields ∷ []) r ≡ given_of sigs r
given_more [] sigs fields zero l h e zero m = e
given_more [] sigs fields zero l h e (suc r) m = absurd (omega (arith, m))
given_more [] sigs fields (suc n) l h e r m = absurd (omega (arith, l))
given_more (g ∷ given) sigs fields zero l h e r m = absurd (omega (arith, l))
given_more (g ∷ given) sigs fields (suc n) l h e r m = here r m
  where
    last : (xs : List (List ℕ)) (k : ℕ) → length xs ≡ k → given_to (xs ++ fields ∷ []) k ≡ fields
    last [] zero d = refl
    last [] (suc k) d = absurd (omega (arith, d))
    last (x ∷ xs) zero d = absurd (omega (arith, d))
    last (x ∷ xs) (suc k) d = last xs k (omega (arith, d))

    before : (xs : List (List ℕ)) (k : ℕ) → k < length xs → given_to (xs ++ fields ∷ []) k ≡ given_to xs k
    before [] k d = absurd (omega (arith, d))
    before (x ∷ xs) zero d = refl
    before (x ∷ xs) (suc k) d = before xs k (omega (arith, d))

    here : (r : ℕ) → r < suc n + 1 → given_to ((g ∷ given) ++ fields ∷ []) r ≡ given_of sigs r
    here r m = elim (lt_or (suc n) r m) [
      | inl d ↦ before (g ∷ given) r (omega (arith, d, l)) ∙ h r d
      | inr d ↦ last (g ∷ given) r (l ∙ sym d) ∙ e ∙ ap (given_of sigs) (sym d)
    ]
      where
        lt_or : (a b : ℕ) → b < a + 1 → (b < a) ⊎ (b ≡ a)
        lt_or a b d = elim (cases_lt b a) [ inl x ↦ inl x | inr x ↦ inr (omega (arith, x, d)) ]

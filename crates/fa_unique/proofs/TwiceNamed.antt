-- Without box edges a cell that two pointers name is a root, and two pointers from two cells are two.
use Rattle.std.proofs.Common.{◌≡◌, ◌≢◌, inl, inr, ℕ, ◌+◌, ◌≤◌, Bool, true, false, cond, nat_eq, List, [], ◌∷◌, ◌++◌}
use Rattle.std.proofs.Common.{refl, sym, ap, subst, ◌∙◌, arith}
use Rattle.std.proofs.lemmas.Bool.{eqb-true, eq-eqb}
use Rattle.fore_base.specs.Lists.{IsIn, IsDistinct}
use Rattle.fore_base.specs.declared.store.Value.TheVariants.{Null as NullValue, Uninit as UninitValue}
use Rattle.fore_base.specs.declared.store.Value.TheVariants.{Dangling as DanglingValue, Cell}
use Rattle.fa_core.specs.Choices.{numbers_of, all_numbers}
use Rattle.fa_core.specs.Dressed.{Nodes, node, no_nodes, more, Fact, Head, Points, facts, nth_value, roots_of}
use Rattle.fa_core.specs.Dressed.{all_refs}
use Rattle.fa_core.specs.Rearranged.{often}
use Rattle.fa_core.proofs.Counts.{often_more, often_same, often_both, often_out, in_or_out}
use Rattle.fa_core.proofs.PlainNodes.{NoEdgesIn}
use Rattle.fa_back.proofs.FactParts.{IsPointer, fact_cell, fact_value}
use Rattle.fa_unique.proofs.Pointers.{pointed, named_by, all_inner, forest_pointed, named_root}

-- Counts.

-- what is counted is there
counted_in : (n : ℕ) (xs : List ℕ) → 1 ≤ often n xs → IsIn n xs
counted_in n xs h = elim (in_or_out n xs) [
  | inl i ↦ i
  | inr o ↦ (let z = often_out n xs o in absurd (omega (arith, h, z)))
]

-- a number stands once at most among numbers that differ
often_distinct : (n : ℕ) (xs : List ℕ) → IsDistinct xs → often n xs ≤ 1
often_distinct n [] a = omega arith
often_distinct n (x ∷ xs) a = here (nat_eq n x) refl (often_distinct n xs a.1)
  where
    here : (b : Bool) → nat_eq n x ≡ b → often n xs ≤ 1 → cond b (often n xs + 1) (often n xs) ≤ 1
    here true e k =
        let z : often n xs ≡ 0 = often_out n xs (λ i. a.0 (subst (λ (m : ℕ). IsIn m xs) (eqb-true n x e) i)) in
        omega (arith, z)
    here false e k = k

-- the inner cells are some of the cells
often_inner : (n : ℕ) (d : Nodes) → often n (all_inner d) ≤ often n (all_numbers d)
often_inner n no_nodes = omega arith
often_inner n (more (node c s ds ps) ns) =
    let a = often_both n (numbers_of ps) (all_inner ns) in
    let b = often_both n (numbers_of ps) (all_numbers ns) in
    let m = often_more n c (numbers_of ps ++ all_numbers ns) in
    let h = often_inner n ns in
    omega (arith, a, b, m, h)

-- Pointers to one cell.

-- how often the pointers name a cell: once where it is an inner cell, and as often as references do
pub pointed_counts : (d : Nodes) → NoEdgesIn d → (n : ℕ) → often n (pointed (facts d))
    ≡ often n (all_inner d) + often n (named_by (roots_of d) (all_refs d))
pointed_counts d b n = often_same n (forest_pointed (roots_of d) d b)
    ∙ often_both n (all_inner d) (named_by (roots_of d) (all_refs d))

-- a cell that two pointers name is a root
pub twice_root : (d : Nodes) → NoEdgesIn d → IsDistinct (all_numbers d) → (n : ℕ) → 2 ≤ often n (pointed (facts d))
    → (r : ℕ) × IsIn r (all_refs d) × (nth_value (roots_of d) r ≡ Cell n)
twice_root d b a n h =
    let p = pointed_counts d b n in
    let l = often_inner n d in
    let m = often_distinct n (all_numbers d) a in
    named_root (roots_of d) (all_refs d) n
    (counted_in n (named_by (roots_of d) (all_refs d)) (omega (arith, p, l, m, h)))

-- a pointer among the facts is counted
pointed_in : (c f m : ℕ) (fs : List Fact) → IsIn (Points m f (Cell c)) fs → 1 ≤ often c (pointed fs)
pointed_in c f m [] i = absurd i
pointed_in c f m (Head b s ds ∷ fs) (inl e) = absurd (subst IsPointer e tt)
pointed_in c f m (Head b s ds ∷ fs) (inr i) = pointed_in c f m fs i
pointed_in c f m (Points b g v ∷ fs) (inl e) =
    let q : v ≡ Cell c = sym (ap fact_value e) in
    let r : nat_eq c c ≡ true = eq-eqb c c refl in
    rw (q, r) (omega arith)
pointed_in c f m (Points b g NullValue ∷ fs) (inr i) = pointed_in c f m fs i
pointed_in c f m (Points b g UninitValue ∷ fs) (inr i) = pointed_in c f m fs i
pointed_in c f m (Points b g DanglingValue ∷ fs) (inr i) = pointed_in c f m fs i
pointed_in c f m (Points b g (Cell n) ∷ fs) (inr i) =
    let k = pointed_in c f m fs i in
    let l = often_more c n (pointed fs) in
    omega (arith, k, l)

-- pointers to one cell from two cells are two
pub two_pointers : (c f g m n : ℕ) (fs : List Fact) → IsIn (Points m f (Cell c)) fs → IsIn (Points n g (Cell c)) fs
    → m ≢ n → 2 ≤ often c (pointed fs)
two_pointers c f g m n [] i j d = absurd i
two_pointers c f g m n (Head b s ds ∷ fs) (inl e) j d = absurd (subst IsPointer e tt)
two_pointers c f g m n (Head b s ds ∷ fs) (inr i) (inl e) d = absurd (subst IsPointer e tt)
two_pointers c f g m n (Head b s ds ∷ fs) (inr i) (inr j) d = two_pointers c f g m n fs i j d
two_pointers c f g m n (Points b o v ∷ fs) (inl e) (inl x) d = absurd (d (ap fact_cell (e ∙ sym x)))
two_pointers c f g m n (Points b o v ∷ fs) (inl e) (inr j) d =
    let q : v ≡ Cell c = sym (ap fact_value e) in
    let r : nat_eq c c ≡ true = eq-eqb c c refl in
    let k = pointed_in c g n fs j in
    rw (q, r) (omega (arith, k))
two_pointers c f g m n (Points b o v ∷ fs) (inr i) (inl e) d =
    let q : v ≡ Cell c = sym (ap fact_value e) in
    let r : nat_eq c c ≡ true = eq-eqb c c refl in
    let k = pointed_in c f m fs i in
    rw (q, r) (omega (arith, k))
two_pointers c f g m n (Points b o NullValue ∷ fs) (inr i) (inr j) d = two_pointers c f g m n fs i j d
two_pointers c f g m n (Points b o UninitValue ∷ fs) (inr i) (inr j) d = two_pointers c f g m n fs i j d
two_pointers c f g m n (Points b o DanglingValue ∷ fs) (inr i) (inr j) d = two_pointers c f g m n fs i j d
two_pointers c f g m n (Points b o (Cell z) ∷ fs) (inr i) (inr j) d =
    let k = two_pointers c f g m n fs i j d in
    let l = often_more c z (pointed fs) in
    omega (arith, k, l)

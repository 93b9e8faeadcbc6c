-- The references to a root, counted by signatures, are one exactly where they are one in each choice of trees.
use Rattle.std.proofs.Common.{◌≡◌, ◌↔◌, ℕ, zero, suc, ◌<◌, ◌≤◌, ◌+◌, Bool, true, false, true≢false, ◌||◌, if◌then◌else◌}
use Rattle.std.proofs.Common.{nat_eq, nat_le, length, List, [], ◌∷◌, map, flat_map, refl, sym, ap, ap₂, ◌∙◌}
use Rattle.std.proofs.Common.{length-append, arith}
use Rattle.std.specs.Bool.{IsTrue}
use Rattle.std.proofs.lemmas.Bool.{eqb-true, le-leb}
use Rattle.fore_base.specs.Lists.{IsIn, Paired}
use Rattle.ta_core.specs.declared.tree.Tree.{Tree}
use Rattle.fa_core.specs.declared.faces.BoxFace.{BoxFace}
use Rattle.fa_core.specs.declared.faces.Face.{Face}
use Rattle.fa_core.specs.declared.forest.Forest.{Forest}
use Rattle.fa_core.specs.declared.forest.Target.TheVariants.{At}
use Rattle.fa_core.specs.declared.signature.Signature.{Signature}
use Rattle.fa_core.specs.Canonical.{references}
use Rattle.fa_core.specs.Cells.{roots_in}
use Rattle.fa_core.specs.Filled.{IsSound}
use Rattle.fa_core.specs.Rearranged.{often}
use Rattle.fa_core.specs.References.{to_two, tree_refs}
use Rattle.fa_core.specs.Ways.{Way, ways, to_root, mark, has, roots_met, signature}
use Rattle.fa_core.proofs.Alike.{both_to_two}
use Rattle.fa_core.proofs.Counts.{often_in, often_out}
use Rattle.fa_core.proofs.Numbers.{has_once}
use Rattle.fa_core.proofs.PlainWays.{to_often}
use Rattle.fa_merge.specs.Merged.{CanMerge}
use Rattle.fa_sound.specs.Components.{component_at}
use Rattle.fa_merge.specs.Counts.{mark_count, marks_count}
use Rattle.fa_merge.specs.inner.Counted.{sum_count}
use Rattle.fa_merge.specs.Signed.{IsSignatureOf}
use Rattle.fa_back.specs.Reached.{IsSignedBy}
use Rattle.fa_back.proofs.RootMarks.{has_in, in_has}
use Rattle.fa_back.proofs.Dressable.{some_choice}
use Rattle.fa_merge.proofs.LeaksDecided.{signed_choice}
use Rattle.fa_merge.proofs.LoneFound.{named_refer, unnamed_refer, choice_at, choice_component}

marks_found : (bs : List BoxFace) (ws : List Way) (r : ℕ) (rs : List ℕ) → marks_count r (map (mark bs ws) rs)
    ≡ (if has r rs then mark_count (mark bs ws r) else 0)
marks_found bs ws r [] = refl
marks_found bs ws r (x ∷ rs) = here (nat_eq r x) refl (marks_found bs ws r rs)
  where
    here : (b : Bool) → nat_eq r x ≡ b → marks_count r (map (mark bs ws) rs)
        ≡ (if has r rs then mark_count (mark bs ws r) else 0)
        → (if b then mark_count (mark bs ws x) else marks_count r (map (mark bs ws) rs))
        ≡ (if b || has r rs then mark_count (mark bs ws r) else 0)
    here true e h = ap (λ (n : ℕ). mark_count (mark bs ws n)) (sym (eqb-true r x e))
    here false e h = h

abbrev two_if : Bool → ℕ
two_if b = if b then 2 else 1

two_by_test : (n : ℕ) → 1 ≤ n → (if nat_le 2 n then 2 else 1) ≡ to_two n
two_by_test zero l = absurd (omega (arith, l))
two_by_test (suc zero) l = refl
two_by_test (suc (suc n)) l = ap two_if (le-leb 2 (suc (suc n)) (omega arith))

-- the count of a tree's signature is that of its leaves, as far as two
pub marks_are : (bs : List BoxFace) (t : Tree) (r : ℕ) → marks_count r (signature bs t)
    ≡ to_two (length (to_root r (ways t)))
marks_are bs t r =
    marks_found bs (ways t) r (roots_met (ways t))
    ∙ ap (λ (b : Bool). if b then mark_count (mark bs (ways t) r) else 0) (has_once r (tree_refs t))
    ∙ here (has r (tree_refs t)) refl
  where
    here : (b : Bool) → has r (tree_refs t) ≡ b → (if b then mark_count (mark bs (ways t) r) else 0)
        ≡ to_two (length (to_root r (ways t)))
    here true e =
        let a : 1 ≤ often r (tree_refs t) = often_in r (tree_refs t) (has_in r (tree_refs t) e) in
        let s : length (to_root r (ways t)) ≡ often r (tree_refs t) = to_often r (ways t) in
        two_by_test (length (to_root r (ways t))) (omega (arith, a, s))
    here false e =
        let s : length (to_root r (ways t)) ≡ often r (tree_refs t) = to_often r (ways t) in
        let z : often r (tree_refs t) ≡ 0 =
        often_out r (tree_refs t) (λ i. true≢false (sym (in_has r (tree_refs t) i) ∙ e)) in
        sym (ap to_two (s ∙ z))

pub to_two_again : (n : ℕ) → to_two (to_two n) ≡ to_two n
to_two_again zero = refl
to_two_again (suc zero) = refl
to_two_again (suc (suc n)) = refl

sums_are : (bs : List BoxFace) (r : ℕ) (ts : List Tree) (ss : List Signature) → Paired (IsSignedBy bs) ts ss
    → to_two (sum_count r ss) ≡ to_two (references ts r)
sums_are bs r [] [] h = refl
sums_are bs r [] (s ∷ ss) h = absurd h
sums_are bs r (t ∷ ts) [] h = absurd h
sums_are bs r (t ∷ ts) (s ∷ ss) h =
    let n = length (to_root r (ways t)) in
    let one : marks_count r s.refs ≡ to_two n = ap (marks_count r) (sym h.0) ∙ marks_are bs t r in
    let sum : references (t ∷ ts) r ≡ n + references ts r =
    length-append (to_root r (ways t)) (flat_map (λ (t : Tree). to_root r (ways t)) ts) in
    sym (both_to_two (marks_count r s.refs) (sum_count r ss))
    ∙ ap₂ (λ (a b : ℕ). to_two (a + b)) (ap to_two one ∙ to_two_again n) (sums_are bs r ts ss h.1)
    ∙ both_to_two n (references ts r) ∙ ap to_two (sym sum)

one_of_two : (m n : ℕ) → to_two m ≡ to_two n → m ≡ 1 → n ≡ 1
one_of_two m zero e h = let z : 1 ≡ 0 = sym (ap to_two h) ∙ e in absurd (omega (arith, z))
one_of_two m (suc zero) e h = refl
one_of_two m (suc (suc n)) e h = let z : 1 ≡ 2 = sym (ap to_two h) ∙ e in absurd (omega (arith, z))

module _ (face : Face) (F : Forest) (r : ℕ) (sound : IsSound face F) where
  -- what stands in the way
  pub at_variable : IsIn (At r) F.vars → CanMerge F r → ⊥
  at_variable i can = can.no_var i

  pub in_own : (s : Signature) → r < length F.autos → IsSignatureOf face.boxes (component_at F.autos r) s
      → has r (roots_in s.refs) ≡ true → CanMerge F r → ⊥
  in_own s l h e can =
      let c = some_choice F.autos sound.full in
      let t = choice_at F.autos c.0 r c.1 l in
      can.other c.0 t.0 c.1 t.1 (named_refer face.boxes (component_at F.autos r) s r h e t.0 t.2)

  pub merge_decided : (s : Signature) (ss : List Signature) (yes_or_no : Bool) → r < length F.autos
      → (IsIn (At r) F.vars → ⊥) → IsSignatureOf face.boxes (component_at F.autos r) s → has r (roots_in s.refs) ≡ false
      → Paired (IsSignatureOf face.boxes) F.autos ss → IsTrue yes_or_no ↔ (sum_count r ss ≡ 1) → IsTrue yes_or_no
      ↔ CanMerge F r
  merge_decided s ss y l v h e p d = (
    (λ w. record {
      root = l;
      no_var = v;
      one = λ ts c. one_of_two (sum_count r ss) (references ts r)
          (sums_are face.boxes r ts ss (signed_choice face.boxes F.autos ss ts p c)) (d.0 w);
      other =
          λ ts t c g.
          (let k = choice_component F.autos ts r t c g in
          unnamed_refer face.boxes (component_at F.autos r) s r h e t k.1);
    }),
    (λ can.
        (let c = some_choice F.autos sound.full in
        d.1
        (one_of_two (references c.0 r) (sum_count r ss)
        (sym (sums_are face.boxes r c.0 ss (signed_choice face.boxes F.autos ss c.0 p c.1))) (can.one c.0 c.1)))),
  )

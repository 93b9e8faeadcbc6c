-- The references to a root, counted by signatures as far as two.
use Rattle.std.proofs.Common.{◌≡◌, ℕ, ◌+◌}
use Rattle.std.proofs.Common.{length, List, [], ◌∷◌, flat_map, refl, sym, ap, ap₂, ◌∙◌, length-append}
use Rattle.ta_core.specs.declared.tree.Tree.{Tree}
use Rattle.fa_core.specs.Canonical.{references}
use Rattle.fa_core.specs.References.{to_two}
use Rattle.fa_core.specs.Ways.{ways, to_root, signature}
use Rattle.fa_core.specs.declared.faces.BoxFace.{BoxFace}
use Rattle.fa_core.proofs.Alike.{both_to_two}
use Rattle.fa_merge.specs.Counts.{marks_count}
use Rattle.fa_merge.proofs.CountedRefs.{marks_are, to_two_again}
use Rattle.fa_order.proofs.SameMarks.{AreSigned}

-- the sum over the trees
abbrev pub sum_marks : List BoxFace → ℕ → List Tree → ℕ
sum_marks bs r [] = 0
sum_marks bs r (t ∷ ts) = marks_count r (signature bs t) + sum_marks bs r ts

pub sums_are : (bs : List BoxFace) (r : ℕ) (ts : List Tree) → to_two (sum_marks bs r ts) ≡ to_two (references ts r)
sums_are bs r [] = refl
sums_are bs r (t ∷ ts) =
    let n = length (to_root r (ways t)) in
    let sum : references (t ∷ ts) r ≡ n + references ts r =
    length-append (to_root r (ways t)) (flat_map (λ (t : Tree). to_root r (ways t)) ts) in
    sym (both_to_two (marks_count r (signature bs t)) (sum_marks bs r ts))
    ∙ ap₂ (λ (a b : ℕ). to_two (a + b)) (ap to_two (marks_are bs t r) ∙ to_two_again n) (sums_are bs r ts)
    ∙ both_to_two n (references ts r) ∙ ap to_two (sym sum)

same_sums : (bs : List BoxFace) (r : ℕ) (ts us : List Tree) → AreSigned bs ts us → sum_marks bs r ts ≡ sum_marks bs r us
same_sums bs r [] [] h = refl
same_sums bs r [] (u ∷ us) h = absurd h
same_sums bs r (t ∷ ts) [] h = absurd h
same_sums bs r (t ∷ ts) (u ∷ us) h = ap₂ (λ (a b : ℕ). a + b) (ap (marks_count r) h.0) (same_sums bs r ts us h.1)

-- trees of the same signatures have as many references to a root, as far as two
pub same_times : (bs : List BoxFace) (r : ℕ) (ts us : List Tree) → AreSigned bs ts us → to_two (references ts r)
    ≡ to_two (references us r)
same_times bs r ts us h = sym (sums_are bs r ts) ∙ ap to_two (same_sums bs r ts us h) ∙ sums_are bs r us

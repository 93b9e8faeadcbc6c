-- Whether a root is of kind 1 or 2 follows from the signatures of the components.
use Rattle.std.proofs.Common.{◌≡◌, inl, inr, ℕ, ◌+◌, Bool, true, false, ◌||◌, true≢false, nat_le, List, [], ◌∷◌, refl}
use Rattle.std.proofs.Common.{sym, ap, ap₂, ◌∙◌}
use Rattle.std.specs.Bool.{MatchBool}
use Rattle.std.proofs.lemmas.Bool.{or_left, or_right, or_cases, leb-true, le-leb}
use Rattle.fore_base.specs.Lists.{Paired}
use Rattle.ta_core.specs.declared.tree.Tree.{Tree}
use Rattle.fa_core.specs.Canonical.{IsShared, references, var_roots}
use Rattle.fa_core.specs.Filled.{Choice}
use Rattle.fa_core.specs.References.{to_two}
use Rattle.fa_core.specs.Ways.{has}
use Rattle.fa_core.specs.declared.faces.BoxFace.{BoxFace}
use Rattle.fa_core.specs.declared.forest.Forest.{Forest}
use Rattle.fa_core.specs.declared.signature.Signature.{Signature}
use Rattle.fa_back.specs.Reached.{IsSignedBy}
use Rattle.fa_back.proofs.ByMarks.{in_var_roots, var_roots_in}
use Rattle.fa_back.proofs.RootMarks.{has_in, in_has}
use Rattle.fa_merge.specs.Counts.{marks_count}
use Rattle.fa_merge.specs.Signed.{IsSignatureOf}
use Rattle.fa_merge.specs.inner.Counted.{sum_count}
use Rattle.fa_merge.proofs.LeaksDecided.{signed_choice}
use Rattle.fa_order.specs.Kinds.{IsSharedRoot, IsUnsharedRoot}
use Rattle.fa_order.proofs.CountedMarks.{sum_marks, sums_are}
use Rattle.fa_order.proofs.Following.{two_by_two}

module _ (bs : List BoxFace) (F : Forest) (ss : List Signature) (signed : Paired (IsSignatureOf bs) F.autos ss)
    (r : ℕ) where
  sums : (ts : List Tree) (zs : List Signature) → Paired (IsSignedBy bs) ts zs → sum_count r zs ≡ sum_marks bs r ts
  sums [] [] h = refl
  sums [] (z ∷ zs) h = absurd h
  sums (t ∷ ts) [] h = absurd h
  sums (t ∷ ts) (z ∷ zs) h = ap₂ (λ (a b : ℕ). a + b) (ap (marks_count r) (sym h.0)) (sums ts zs h.1)

  times : (ts : List Tree) → Choice F.autos ts → to_two (sum_count r ss) ≡ to_two (references ts r)
  times ts c = ap to_two (sums ts ss (signed_choice bs F.autos ss ts signed c)) ∙ sums_are bs r ts

  abbrev test : Bool
  test = has r (var_roots F.vars) || nat_le 2 (sum_count r ss)

  passes : (ts : List Tree) → Choice F.autos ts → test ≡ true → IsShared F.vars ts r
  passes ts c e = elim (or_cases (has r (var_roots F.vars)) (nat_le 2 (sum_count r ss)) e) [
    | inl v ↦ inl (var_roots_in F.vars r (has_in r (var_roots F.vars) v))
    | inr n ↦ inr (two_by_two (sum_count r ss) (references ts r) (times ts c) (leb-true 2 (sum_count r ss) n))
  ]

  does_pass : (ts : List Tree) → Choice F.autos ts → IsShared F.vars ts r → test ≡ true
  does_pass ts c (inl i) = or_left (has r (var_roots F.vars)) (nat_le 2 (sum_count r ss))
      (in_has r (var_roots F.vars) (in_var_roots F.vars r i))
  does_pass ts c (inr l) = or_right (has r (var_roots F.vars)) (nat_le 2 (sum_count r ss))
      (le-leb 2 (sum_count r ss) (two_by_two (references ts r) (sum_count r ss) (sym (times ts c)) l))

  -- the test on signatures decides it
  pub shared_decided : (yes_or_no : Bool) → yes_or_no ≡ test
      → MatchBool yes_or_no (IsSharedRoot F r) (IsUnsharedRoot F r)
  shared_decided true e = λ ts c. passes ts c (sym e)
  shared_decided false e = λ ts c s. true≢false (sym (does_pass ts c s) ∙ sym e)

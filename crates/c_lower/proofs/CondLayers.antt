-- The room and the edges of conditions, a part at a time.
use Rattle.std.specs.Prelude.{get_or, drop}
use Rattle.std.proofs.Common.{◌≡◌, ℕ, zero, suc, ◌+◌, ◌<◌, List, [], ◌∷◌, ◌++◌, length, map, refl, sym, ap, ◌∙◌, arith}
use Rattle.c_types.specs.declared.program.Atom.{Atom as AtomPart}
use Rattle.c_types.specs.declared.program.Cond.{Cond}
use Rattle.c_types.specs.declared.program.Cond.TheVariants.{Atom, Not, All, Any}
use Rattle.c_types.specs.Control.{Both, Either, joined, test_of}
use Rattle.c_types.proofs.Layers.{test-Atom, test-Not, test-All, test-Any}
use Rattle.c_joints.specs.declared.sides.Joint.{Joint}
use Rattle.c_joints.specs.declared.sides.Joint.TheVariants.{All as JointAll, Any as JointAny}
use Rattle.c_lower.specs.inner.Numbering.{atom_width, test_width, atom_edges}
use Rattle.c_lower.specs.inner.Emitting.{emit_test, parts_width, joined_width, emit_parts}
use Rattle.c_joints.specs.Sides.{yes_side, no_side}

module _ (nv nd : ℕ) where
  both-wide : (cs : List Cond) → test_width nv nd (joined Both (map test_of cs)) ≡ joined_width nv nd cs
  both-wide [] = refl
  both-wide (c ∷ []) = omega arith
  both-wide (c ∷ d ∷ ds) = ap (λ n. test_width nv nd (test_of c) + n) (both-wide (d ∷ ds))

  either-wide : (cs : List Cond) → test_width nv nd (joined Either (map test_of cs)) ≡ joined_width nv nd cs
  either-wide [] = refl
  either-wide (c ∷ []) = omega arith
  either-wide (c ∷ d ∷ ds) = ap (λ n. test_width nv nd (test_of c) + n) (either-wide (d ∷ ds))

  pub wide-Atom : (a : AtomPart) (line : ℕ) → test_width nv nd (test_of (Atom a line)) ≡ atom_width nv nd a
  wide-Atom a line = ap (test_width nv nd) (test-Atom a line)

  pub wide-Not : (c : Cond) → test_width nv nd (test_of (Not c)) ≡ test_width nv nd (test_of c)
  wide-Not c = ap (test_width nv nd) (test-Not c)

  pub wide-All : (cs : List Cond) → test_width nv nd (test_of (All cs)) ≡ joined_width nv nd cs
  wide-All cs = ap (test_width nv nd) (test-All cs) ∙ both-wide cs

  pub wide-Any : (cs : List Cond) → test_width nv nd (test_of (Any cs)) ≡ joined_width nv nd cs
  wide-Any cs = ap (test_width nv nd) (test-Any cs) ∙ either-wide cs

  pub joined-some : (cs : List Cond) → 0 < length cs → joined_width nv nd cs ≡ parts_width nv nd cs
  joined-some [] h = absurd (omega (arith, h))
  joined-some (c ∷ cs) h = refl

  pub emit-Atom : (a : AtomPart) (line i x y : ℕ) → emit_test nv nd (test_of (Atom a line)) i x y
      ≡ atom_edges nv nd a line i x y
  emit-Atom a line i x y = ap (λ t. emit_test nv nd t i x y) (test-Atom a line)

  pub emit-Not : (c : Cond) (i x y : ℕ) → emit_test nv nd (test_of (Not c)) i x y ≡ emit_test nv nd (test_of c) i y x
  emit-Not c i x y = ap (λ t. emit_test nv nd t i x y) (test-Not c)

  pub emit-All : (cs : List Cond) (i x y : ℕ) → emit_test nv nd (test_of (All cs)) i x y
      ≡ emit_parts nv nd JointAll cs i x y
  emit-All cs i x y = ap (λ t. emit_test nv nd t i x y) (test-All cs)

  pub emit-Any : (cs : List Cond) (i x y : ℕ) → emit_test nv nd (test_of (Any cs)) i x y
      ≡ emit_parts nv nd JointAny cs i x y
  emit-Any cs i x y = ap (λ t. emit_test nv nd t i x y) (test-Any cs)

  pub parts_last : (j : Joint) (i : ℕ) (cs : List Cond) (c : Cond) (k x y : ℕ) → i + 1 ≡ length cs → c ≡ get_or cs i c
      → emit_parts nv nd j (drop i cs) k x y ≡ emit_test nv nd (test_of c) k x y
  parts_last j i [] c k x y n e = absurd (omega (arith, n))
  parts_last j zero (d ∷ []) c k x y n e = ap (λ z. emit_test nv nd (test_of z) k x y) (sym e)
  parts_last j zero (d ∷ f ∷ ds) c k x y n e = absurd (omega (arith, n))
  parts_last j (suc i) (d ∷ ds) c k x y n e = parts_last j i ds c k x y (omega (arith, n)) e

  joint_more : (j : Joint) (c d : Cond) (ds : List Cond) (k x y : ℕ)
      → emit_parts nv nd j (c ∷ d ∷ ds) k x y
      ≡ emit_test nv nd (test_of c) k (yes_side j (k + test_width nv nd (test_of c)) x)
      (no_side j (k + test_width nv nd (test_of c)) y)
      ++ emit_parts nv nd j (d ∷ ds) (k + test_width nv nd (test_of c)) x y
  joint_more JointAll c d ds k x y = refl
  joint_more JointAny c d ds k x y = refl

  pub parts_more : (j : Joint) (i : ℕ) (cs : List Cond) (c : Cond) (k next x y : ℕ) → i + 1 < length cs
      → c ≡ get_or cs i c → next ≡ k + test_width nv nd (test_of c)
      → emit_parts nv nd j (drop i cs) k x y ≡ emit_test nv nd (test_of c) k (yes_side j next x) (no_side j next y)
      ++ emit_parts nv nd j (drop (i + 1) cs) next x y
  parts_more j i [] c k next x y n e w = absurd (omega (arith, n))
  parts_more j zero (d ∷ []) c k next x y n e w = absurd (omega (arith, n))
  parts_more j zero (d ∷ f ∷ ds) c k next x y n e w =
      ap (λ z. emit_parts nv nd j (z ∷ f ∷ ds) k x y) (sym e) ∙ joint_more j c f ds k x y
      ∙ ap (λ m. emit_test nv nd (test_of c) k (yes_side j m x) (no_side j m y) ++ emit_parts nv nd j (f ∷ ds) m x y)
      (sym w)
  parts_more j (suc i) (d ∷ ds) c k next x y n e w = let s : suc i + 1 ≡ suc (i + 1) = omega arith in
      rw s (parts_more j i ds c k next x y (omega (arith, n)) e w)

pub ruleset rooms = (wide-Atom, wide-Not, wide-All, wide-Any, joined-some)

pub ruleset tests = (emit-Atom, emit-Not, emit-All, emit-Any, parts_last, parts_more)

-- Lists of edges by the locations at which they begin.
use Rattle.std.proofs.Common.{◌≡◌, ◌⊎◌, ⊎_elim, ℕ, ◌+◌, ◌<◌, ◌≤◌, List, [], ◌∷◌, ◌++◌, refl, ap}
use Rattle.std.proofs.Common.{Bool, true, false, arith}
use Rattle.std.specs.Prelude.{nat_eq, if◌then◌else◌}
use Rattle.std.proofs.lemmas.Bool.{eq-eqb}
use Rattle.std.proofs.lemmas.Bool.Decides.{eqb_tells}
use Rattle.fore_base.specs.Lists.{Every}
use Rattle.c_cfg.specs.declared.graph.Edge.{Edge}
use Rattle.c_cfg.specs.Links.{Link, One, Two}
use Rattle.c_cfg.specs.GraphRuns.{out_of}
use Rattle.c_cfg.specs.Lowering.{link_edges}

pub eq_yes : (a : ℕ) → nat_eq a a ≡ true
eq_yes a = eq-eqb a a refl

pub eq_no : (a b : ℕ) → (a ≡ b → ⊥) → nat_eq a b ≡ false
eq_no a b h = ⊎_elim (λ y. absurd (h y.1)) (λ n. n.0) (eqb_tells a b)

abbrev pub Within : ℕ → ℕ → List Edge → Type 0
Within lo hi es = Every (λ e. (lo ≤ e.from) × (e.from < hi)) es

pub within_more : (lo hi : ℕ) (xs ys : List Edge) → Within lo hi xs → Within lo hi ys → Within lo hi (xs ++ ys)
within_more lo hi [] ys h k = k
within_more lo hi (x ∷ xs) ys h k = (h.0, within_more lo hi xs ys h.1 k)

pub within_wide : (lo hi lo2 hi2 : ℕ) → lo2 ≤ lo → hi ≤ hi2 → (xs : List Edge) → Within lo hi xs → Within lo2 hi2 xs
within_wide lo hi lo2 hi2 a b [] h = tt
within_wide lo hi lo2 hi2 a b (x ∷ xs) h =
    ((omega (arith, h.0.0, a), omega (arith, h.0.1, b)), within_wide lo hi lo2 hi2 a b xs h.1)

pub out_more : (xs ys : List Edge) (k : ℕ) → out_of (xs ++ ys) k ≡ out_of xs k ++ out_of ys k
out_more [] ys k = refl
out_more (x ∷ xs) ys k = by (nat_eq x.from k) (out_more xs ys k)
  where
    by : (b : Bool) → out_of (xs ++ ys) k ≡ out_of xs k ++ out_of ys k
        → (if b then x ∷ out_of (xs ++ ys) k else out_of (xs ++ ys) k) ≡ (if b then x ∷ out_of xs k else out_of xs k)
        ++ out_of ys k
    by true e = ap (λ zs. x ∷ zs) e
    by false e = e

pub out_off : (lo hi : ℕ) (xs : List Edge) (k : ℕ) → Within lo hi xs → (k < lo) ⊎ (hi ≤ k) → out_of xs k ≡ []
out_off lo hi [] k h o = refl
out_off lo hi (x ∷ xs) k h o =
    rw (eq_no x.from k (λ e. ⊎_elim (λ a. omega (arith, h.0.0, a, e)) (λ b. omega (arith, h.0.1, b, e)) o))
    (out_off lo hi xs k h.1 o)

pub link_out : (line k to : ℕ) (l : Link) → out_of (link_edges line k to l) k ≡ link_edges line k to l
link_out line k to (One i) = rw (eq_yes k) refl
link_out line k to (Two i j) = rw (eq_yes k) refl

pub link_within : (line k to : ℕ) (l : Link) → Within k (k + 1) (link_edges line k to l)
link_within line k to (One i) = ((omega arith, omega arith), tt)
link_within line k to (Two i j) = ((omega arith, omega arith), ((omega arith, omega arith), tt))

-- The ways of chains.
use Rattle.std.proofs.Common.{◌≡◌, inl, inr, ℕ, ◌+◌, ◌<◌, ◌≤◌, List, [], ◌∷◌, ◌++◌, length, refl, ap, ◌∙◌}
use Rattle.std.proofs.Common.{arith}
use Rattle.c_cfg.specs.declared.graph.Edge.{Edge}
use Rattle.c_cfg.specs.declared.link.Link.{Link}
use Rattle.c_cfg.specs.GraphRuns.{out_of}
use Rattle.c_cfg.specs.Lowering.{link_edges, IsWay, but_last}
use Rattle.c_lower.specs.inner.Numbering.{span}
use Rattle.c_links.specs.Chains.{chain}
use Rattle.c_cfg.proofs.Spans.{Within, within_more, within_wide, out_more, out_off, link_out, link_within}

pub chain_within : (line : ℕ) (ls : List Link) (k to : ℕ) → Within k (k + length ls) (chain line ls k to)
chain_within line [] k to = tt
chain_within line (l ∷ []) k to = link_within line k to l
chain_within line (l ∷ (x ∷ ls)) k to =
    within_more k (k + length (l ∷ (x ∷ ls))) _ _
    (within_wide k (k + 1) k (k + length (l ∷ (x ∷ ls))) (omega arith) (omega arith) _
    (link_within line k (k + 1) l))
    (within_wide (k + 1) (k + 1 + length (x ∷ ls)) k (k + length (l ∷ (x ∷ ls))) (omega arith) (omega arith) _
    (chain_within line (x ∷ ls) (k + 1) to))

abbrev pub stops : List Link → ℕ → ℕ → List ℕ
stops [] k to = []
stops (l ∷ []) k to = to ∷ []
stops (l ∷ (x ∷ ls)) k to = (k + 1) ∷ stops (x ∷ ls) (k + 1) to

-- The edges at these locations are those of a part of the list.
abbrev pub AgreesOn : List Edge → List Edge → ℕ → ℕ → Type 0
AgreesOn E part lo hi = (q : ℕ) → lo ≤ q → q < hi → out_of E q ≡ out_of part q

pub chain_way : (E : List Edge) (line : ℕ) (ls : List Link) (k to : ℕ) → 0 < length ls
    → AgreesOn E (chain line ls k to) k (k + length ls) → IsWay E line ls k (stops ls k to) to
chain_way E line [] k to h a = absurd (omega arith)
chain_way E line (l ∷ []) k to h a = (a k (omega arith) (omega arith) ∙ link_out line k to l, refl)
chain_way E line (l ∷ (x ∷ ls)) k to h a = (
  a k (omega arith) (omega arith) ∙ out_more (link_edges line k (k + 1) l) (chain line (x ∷ ls) (k + 1) to) k
      ∙ ap (λ es. out_of (link_edges line k (k + 1) l) k ++ es)
      (out_off (k + 1) (k + 1 + length (x ∷ ls)) _ k (chain_within line (x ∷ ls) (k + 1) to) (inl (omega arith)))
      ∙ nil_right _ ∙ link_out line k (k + 1) l,
  chain_way E line (x ∷ ls) (k + 1) to (omega arith) (λ q lo hi.
      a q (omega (arith, lo)) (omega (arith, hi))
      ∙ out_more (link_edges line k (k + 1) l) (chain line (x ∷ ls) (k + 1) to) q
      ∙ ap (λ es. es ++ out_of (chain line (x ∷ ls) (k + 1) to) q)
      (out_off k (k + 1) _ q (link_within line k (k + 1) l) (inr lo))),
)
  where
    nil_right : (xs : List Edge) → xs ++ [] ≡ xs
    nil_right [] = refl
    nil_right (x ∷ xs) = ap (λ ys. x ∷ ys) (nil_right xs)

pub but_stops : (l : Link) (ls : List Link) (k to : ℕ) → but_last (stops (l ∷ ls) k to) ≡ span (k + 1) (length ls)
but_stops l [] k to = refl
but_stops l (x ∷ []) k to = refl
but_stops l (x ∷ (y ∷ ls)) k to = ap (λ zs. (k + 1) ∷ zs) (but_stops x (y ∷ ls) (k + 1) to)

pub all_stops : (ls : List Link) (k : ℕ) → stops ls k (k + length ls) ≡ span (k + 1) (length ls)
all_stops [] k = refl
all_stops (l ∷ []) k = refl
all_stops (l ∷ (x ∷ ls)) k = let e : k + length (l ∷ (x ∷ ls)) ≡ k + 1 + length (x ∷ ls) = omega arith in
    rw e (ap (λ zs. (k + 1) ∷ zs) (all_stops (x ∷ ls) (k + 1)))

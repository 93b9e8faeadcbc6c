-- How many paths begin at a location, by how many begin where its edges end.
use Rattle.std.proofs.Common.{◌≡◌, ℕ, zero, suc, ◌+◌, List, [], ◌∷◌, map, Option, Some, None, refl, sym, ap}
use Rattle.std.proofs.Common.{subst, ◌∙◌, arith}
use Rattle.std.proofs.lemmas.Option.{none-some, same_Some}
use Rattle.c_cfg.specs.declared.graph.Edge.{Edge}
use Rattle.c_cfg.specs.GraphRuns.{out_of}
use Rattle.c_prefixes.specs.Prefixes.{plus, sum_there, empty_path, paths_from}
use Rattle.c_prefixes.proofs.ItemCounts.{one_after, two_after}

-- the sum stays where each number that is there stays
sum_more : (f g : Edge → Option ℕ) → ((e : Edge) (a : ℕ) → f e ≡ Some a → g e ≡ Some a) → (es : List Edge) (b : ℕ)
    → sum_there (map f es) ≡ Some b → sum_there (map g es) ≡ Some b
sum_more f g l [] b h = h
sum_more f g l (e ∷ es) b h = here (f e) (sum_there (map f es)) refl refl h (sum_more f g l es)
  where
    here : (a c : Option ℕ) → f e ≡ a → sum_there (map f es) ≡ c → sum_there (a ∷ map f es) ≡ Some b
        → ((b : ℕ) → sum_there (map f es) ≡ Some b → sum_there (map g es) ≡ Some b)
        → sum_there (g e ∷ map g es) ≡ Some b
    here None c x y h rec = absurd (none-some b h)
    here (Some a) None x y h rec = absurd (none-some b (sym (ap (plus a) y) ∙ h))
    here (Some a) (Some c) x y h rec =
        ap (λ (o : Option ℕ). sum_there (o ∷ map g es)) (l e a x)
        ∙ (ap (plus a) (rec c y) ∙ (sym (ap (plus a) y) ∙ h))

module _ (edges : List Edge) where
  abbrev after : ℕ → Edge → Option ℕ
  after n e = paths_from edges n e.to

  -- a number that is there stays where longer lists are let in
  one_more : (n k b : ℕ) → paths_from edges n k ≡ Some b → paths_from edges (suc n) k ≡ Some b
  one_more zero k b h = here (out_of edges k) refl h
    where
      here : (es : List Edge) → out_of edges k ≡ es → empty_path es ≡ Some b
          → plus 1 (sum_there (map (after zero) (out_of edges k))) ≡ Some b
      here [] e h = ap (λ (xs : List Edge). plus 1 (sum_there (map (after zero) xs))) e ∙ h
      here (x ∷ es) e h = absurd (none-some b h)
  one_more (suc n) k b h =
      here (sum_there (map (after n) (out_of edges k))) refl h
      (sum_more (after n) (after (suc n)) (λ e a x. one_more n e.to a x) (out_of edges k))
    where
      here : (c : Option ℕ) → sum_there (map (after n) (out_of edges k)) ≡ c → plus 1 c ≡ Some b
          → ((b : ℕ) → sum_there (map (after n) (out_of edges k)) ≡ Some b
          → sum_there (map (after (suc n)) (out_of edges k)) ≡ Some b)
          → plus 1 (sum_there (map (after (suc n)) (out_of edges k))) ≡ Some b
      here None e h rec = absurd (none-some b h)
      here (Some c) e h rec = ap (plus 1) (rec c e) ∙ h

  some_more : (m n k b : ℕ) → paths_from edges n k ≡ Some b → paths_from edges (m + n) k ≡ Some b
  some_more zero n k b h =
      let e : n ≡ zero + n = omega arith in subst (λ (j : ℕ). paths_from edges j k ≡ Some b) e h
  some_more (suc m) n k b h =
      let e : suc (m + n) ≡ suc m + n = omega arith in
      subst (λ (j : ℕ). paths_from edges j k ≡ Some b) e (one_more (m + n) k b (some_more m n k b h))

  -- b paths begin at the location
  abbrev pub IsNumber : ℕ → ℕ → Type 0
  IsNumber k b = (n : ℕ) × (paths_from edges n k ≡ Some b)

  -- it is the only number
  pub one_only : (k b c : ℕ) → IsNumber k b → IsNumber k c → b ≡ c
  one_only k b c h g =
      let e : g.0 + h.0 ≡ h.0 + g.0 = omega arith in
      let x : paths_from edges (h.0 + g.0) k ≡ Some b =
      subst (λ (j : ℕ). paths_from edges j k ≡ Some b) e (some_more g.0 h.0 k b h.1) in
      same_Some b c (sym x ∙ some_more h.0 g.0 k c g.1)

  -- a location at which no edge begins, one does, or two do
  pub none_here : (k : ℕ) → out_of edges k ≡ [] → IsNumber k 1
  none_here k q = (0, ap empty_path q)

  pub one_here : (k : ℕ) (e : Edge) (a : ℕ) → out_of edges k ≡ e ∷ [] → IsNumber e.to a → IsNumber k (one_after a)
  one_here k e a q h = (
    suc h.0,
    ap (λ (xs : List Edge). plus 1 (sum_there (map (after h.0) xs))) q
        ∙ ap (λ (o : Option ℕ). plus 1 (sum_there (o ∷ []))) h.1,
  )

  pub two_here : (k : ℕ) (e f : Edge) (a b : ℕ) → out_of edges k ≡ e ∷ f ∷ [] → IsNumber e.to a → IsNumber f.to b
      → IsNumber k (two_after a b)
  two_here k e f a b q h g =
      let u : g.0 + h.0 ≡ h.0 + g.0 = omega arith in
      let x : paths_from edges (h.0 + g.0) e.to ≡ Some a =
      subst (λ (j : ℕ). paths_from edges j e.to ≡ Some a) u (some_more g.0 h.0 e.to a h.1) in
      let y = some_more h.0 g.0 f.to b g.1 in (
        suc (h.0 + g.0),
        ap (λ (xs : List Edge). plus 1 (sum_there (map (after (h.0 + g.0)) xs))) q
            ∙ (ap (λ (o : Option ℕ). plus 1 (sum_there (o ∷ after (h.0 + g.0) f ∷ []))) x
            ∙ ap (λ (o : Option ℕ). plus 1 (sum_there (Some a ∷ o ∷ []))) y),
      )

-- The number that is counted is that of the paths.
use Rattle.std.proofs.Common.{◌≡◌, inl, inr, ℕ, zero, suc, ◌+◌, ◌≤◌, Bool, true, false, cond, nat_eq, List, [], ◌∷◌}
use Rattle.std.proofs.Common.{◌++◌}
use Rattle.std.proofs.Common.{map, flat_map, length, length-append, Option, Some, None, refl, sym, ap, subst, ◌∙◌}
use Rattle.std.proofs.Common.{arith}
use Rattle.std.proofs.lemmas.List.{length-map}
use Rattle.std.proofs.lemmas.Option.{none-some, same_Some}
use Rattle.fore_base.specs.Lists.{IsIn, IsDistinct, Every}
use Rattle.fore_base.proofs.ListLemmas.{every_append, every_in, in_append, in_left, in_map, in_mapped}
use Rattle.fore_base.proofs.ListLemmas.{in_right}
use Rattle.c_cfg.specs.declared.graph.Edge.{Edge}
use Rattle.c_cfg.specs.Graphs.{ControlGraph}
use Rattle.c_cfg.specs.GraphRuns.{out_of}
use Rattle.c_prefixes.specs.Prefixes.{IsPathFrom, IsPrefix, AtMost, AtLeast, plus, sum_there, empty_path, paths_from}
use Rattle.c_prefixes.proofs.Distinct.{no_more, distinct_both, distinct_mapped}

module _ (edges : List Edge) where
  -- the paths that begin with this edge and go on as `after` says
  abbrev begun_by : (ℕ → List (List Edge)) → Edge → List (List Edge)
  begun_by after e = map (λ (p : List Edge). e ∷ p) (after e.to)

  -- those that begin with one of these edges
  abbrev begun : (ℕ → List (List Edge)) → List Edge → List (List Edge)
  begun after es = flat_map (begun_by after) es

  -- the paths of at most n edges
  abbrev all_from : ℕ → ℕ → List (List Edge)
  all_from zero k = [] ∷ []
  all_from (suc n) k = [] ∷ begun (all_from n) (out_of edges k)

  -- Where the number is there, it is that of these paths, and they are all.

  abbrev AreCounted : ℕ → Type 0
  AreCounted n = (k b : ℕ) → paths_from edges n k ≡ Some b → (length (all_from n k) ≡ b)
      × ((p : List Edge) → IsPathFrom edges k p → IsIn p (all_from n k))

  begun_counted : (n : ℕ) → AreCounted n → (es : List Edge) (b : ℕ)
      → sum_there (map (λ (e : Edge). paths_from edges n e.to) es) ≡ Some b
      → (length (begun (all_from n) es) ≡ b)
      × ((e : Edge) (p : List Edge) → IsIn e es → IsPathFrom edges e.to p → IsIn (e ∷ p) (begun (all_from n) es))
  begun_counted n ih [] b h = (same_Some 0 b h, λ e p i. absurd i)
  begun_counted n ih (e ∷ es) b h =
      here (paths_from edges n e.to) (sum_there (map (λ (e : Edge). paths_from edges n e.to) es)) refl refl h
      (begun_counted n ih es)
    where
      here : (a c : Option ℕ) → paths_from edges n e.to ≡ a
          → sum_there (map (λ (e : Edge). paths_from edges n e.to) es) ≡ c
          → sum_there (a ∷ map (λ (e : Edge). paths_from edges n e.to) es) ≡ Some b
          → ((b : ℕ) → sum_there (map (λ (e : Edge). paths_from edges n e.to) es) ≡ Some b
          → (length (begun (all_from n) es) ≡ b)
          × ((e : Edge) (p : List Edge) → IsIn e es → IsPathFrom edges e.to p → IsIn (e ∷ p) (begun (all_from n) es)))
          → (length (begun_by (all_from n) e ++ begun (all_from n) es) ≡ b)
          × ((x : Edge) (p : List Edge) → IsIn x (e ∷ es) → IsPathFrom edges x.to p
          → IsIn (x ∷ p) (begun_by (all_from n) e ++ begun (all_from n) es))
      here None c x y h rec = absurd (none-some b h)
      here (Some a) None x y h rec =
          absurd (none-some b (sym (ap (plus a) y) ∙ h))
      here (Some a) (Some c) x y h rec =
          let k = ih e.to a x in
          let r = rec c y in
          let s : a + c ≡ b = same_Some (a + c) b (sym (ap (plus a) y) ∙ h) in
          let l = length-append (begun_by (all_from n) e) (begun (all_from n) es) in
          let m = length-map (all_from n e.to) (λ (p : List Edge). e ∷ p) in
          let u = k.0 in
          let v = r.0 in (
            omega (arith, s, l, m, u, v),
            (λ x p i w. elim i [
              | inl q ↦ in_left (x ∷ p) (begun_by (all_from n) e) (begun (all_from n) es)
                  (subst (λ (z : Edge). IsIn (z ∷ p) (begun_by (all_from n) e)) (sym q)
                  (in_map (λ (p : List Edge). e ∷ p) p (all_from n e.to)
                  (k.1 p (subst (λ (z : Edge). IsPathFrom edges z.to p) q w))))
              | inr j ↦ in_right (x ∷ p) (begun_by (all_from n) e) (begun (all_from n) es) (r.1 x p j w)
            ]),
          )

  counted : (n : ℕ) → AreCounted n
  counted zero k b h = here (out_of edges k) refl h
    where
      here : (es : List Edge) → out_of edges k ≡ es → empty_path es ≡ Some b → (1 ≡ b)
          × ((p : List Edge) → IsPathFrom edges k p → IsIn p ([] ∷ []))
      here [] e h = (same_Some 1 b h, λ p w. only p w)
        where
          only : (p : List Edge) → IsPathFrom edges k p → IsIn p ([] ∷ [])
          only [] w = inl refl
          only (x ∷ p) w = absurd (subst (λ (z : List Edge). IsIn x z) e w.0)
      here (x ∷ es) e h = absurd (none-some b h)
  counted (suc n) k b h =
      here (sum_there (map (λ (e : Edge). paths_from edges n e.to) (out_of edges k))) refl h
      (begun_counted n (counted n) (out_of edges k))
    where
      here : (c : Option ℕ) → sum_there (map (λ (e : Edge). paths_from edges n e.to) (out_of edges k)) ≡ c
          → plus 1 c ≡ Some b
          → ((b : ℕ) → sum_there (map (λ (e : Edge). paths_from edges n e.to) (out_of edges k)) ≡ Some b
          → (length (begun (all_from n) (out_of edges k)) ≡ b)
          × ((e : Edge) (p : List Edge) → IsIn e (out_of edges k) → IsPathFrom edges e.to p
          → IsIn (e ∷ p) (begun (all_from n) (out_of edges k))))
          → (suc (length (begun (all_from n) (out_of edges k))) ≡ b)
          × ((p : List Edge) → IsPathFrom edges k p → IsIn p ([] ∷ begun (all_from n) (out_of edges k)))
      here None e h rec = absurd (none-some b h)
      here (Some c) e h rec =
          let r = rec c e in
          let s : 1 + c ≡ b = same_Some (1 + c) b h in
          let u = r.0 in
          (omega (arith, s, u), λ p w. each r.1 p w)
        where
          each : ((e : Edge) (p : List Edge) → IsIn e (out_of edges k) → IsPathFrom edges e.to p
              → IsIn (e ∷ p) (begun (all_from n) (out_of edges k)))
              → (p : List Edge) → IsPathFrom edges k p → IsIn p ([] ∷ begun (all_from n) (out_of edges k))
          each f [] w = inl refl
          each f (x ∷ p) w = inr (f x p w.0 w.1)

  -- They are paths, and, where no edge is listed twice, different ones.

  begun_paths : (k : ℕ) (after : ℕ → List (List Edge)) → ((j : ℕ) → Every (IsPathFrom edges j) (after j))
      → (es : List Edge) → ((e : Edge) → IsIn e es → IsIn e (out_of edges k))
      → Every (IsPathFrom edges k) (begun after es)
  begun_paths k after h [] i = tt
  begun_paths k after h (e ∷ es) i = every_append (IsPathFrom edges k) (map (λ (p : List Edge). e ∷ p) (after e.to))
      (begun after es) (longer (after e.to) (h e.to)) (begun_paths k after h es (λ x j. i x (inr j)))
    where
      longer : (ps : List (List Edge)) → Every (IsPathFrom edges e.to) ps
          → Every (IsPathFrom edges k) (map (λ (p : List Edge). e ∷ p) ps)
      longer [] g = tt
      longer (p ∷ ps) g = ((i e (inl refl), g.0), longer ps g.1)

  all_paths : (n k : ℕ) → Every (IsPathFrom edges k) (all_from n k)
  all_paths zero k = (tt, tt)
  all_paths (suc n) k = (tt, begun_paths k (all_from n) (all_paths n) (out_of edges k) (λ e i. i))

  -- each begun path has its first edge from the list
  begun_first : (after : ℕ → List (List Edge)) (es : List Edge) (p : List Edge) → IsIn p (begun after es) → (e : Edge)
      × (q : List Edge) × IsIn e es × (p ≡ e ∷ q)
  begun_first after [] p i = absurd i
  begun_first after (e ∷ es) p i = elim (in_append p (map (λ (p : List Edge). e ∷ p) (after e.to))
      (begun after es) i) [
        | inl j ↦ (let k = in_mapped (λ (p : List Edge). e ∷ p) p (after e.to) j in (e, k.0, inl refl, k.2))
        | inr j ↦ (let k = begun_first after es p j in (k.0, k.1, inr k.2, k.3))
      ]

  abbrev first_or : Edge → List Edge → Edge
  first_or d [] = d
  first_or d (e ∷ es) = e

  abbrev rest_of : List Edge → List Edge
  rest_of [] = []
  rest_of (e ∷ es) = es

  abbrev IsEmpty : List Edge → Type 0
  IsEmpty [] = Unit {0}
  IsEmpty (e ∷ es) = ⊥

  begun_distinct : (after : ℕ → List (List Edge)) → ((j : ℕ) → IsDistinct (after j)) → (es : List Edge)
      → IsDistinct es
      → IsDistinct (begun after es)
  begun_distinct after h [] d = tt
  begun_distinct after h (e ∷ es) d =
      distinct_both (map (λ (p : List Edge). e ∷ p) (after e.to)) (begun after es)
      (distinct_mapped (λ (p : List Edge). e ∷ p) (λ p q z. ap rest_of z) (after e.to) (h e.to))
      (begun_distinct after h es d.1)
      (λ p i j.
      (let k = in_mapped (λ (p : List Edge). e ∷ p) p (after e.to) i in
      let l = begun_first after es p j in
      d.0 (subst (λ (z : Edge). IsIn z es) (ap (first_or e) (sym l.3 ∙ k.2)) l.2)))

  all_distinct : ((k : ℕ) → IsDistinct (out_of edges k)) → (n k : ℕ) → IsDistinct (all_from n k)
  all_distinct d zero k = ((λ i. i), tt)
  all_distinct d (suc n) k = (
    (λ i. (let l = begun_first (all_from n) (out_of edges k) [] i in subst IsEmpty l.3 tt)),
    begun_distinct (all_from n) (all_distinct d n) (out_of edges k) (d k),
  )

-- the edges that begin at a location are some of the edges
out_in : (es : List Edge) (k : ℕ) (e : Edge) → IsIn e (out_of es k) → IsIn e es
out_in [] k e i = absurd i
out_in (x ∷ es) k e i = here (nat_eq x.from k) i (out_in es k e)
  where
    here : (b : Bool) → IsIn e (cond b (x ∷ out_of es k) (out_of es k)) → (IsIn e (out_of es k) → IsIn e es)
        → IsIn e (x ∷ es)
    here true (inl q) rec = inl q
    here true (inr j) rec = inr (rec j)
    here false j rec = inr (rec j)

out_distinct : (es : List Edge) (k : ℕ) → IsDistinct es → IsDistinct (out_of es k)
out_distinct [] k d = tt
out_distinct (x ∷ es) k d = here (nat_eq x.from k) (out_distinct es k d.1)
  where
    here : (b : Bool) → IsDistinct (out_of es k) → IsDistinct (cond b (x ∷ out_of es k) (out_of es k))
    here true r = ((λ i. d.0 (out_in es k x i)), r)
    here false r = r

-- different prefixes are no more than are counted
pub at_most : (g : ControlGraph) (n b : ℕ) → paths_from g.edges n 0 ≡ Some b → AtMost b g
at_most g n b h = λ ps d e.
    (let k = counted g.edges n 0 b h in
    subst (λ (m : ℕ). length ps ≤ m) k.0
    (no_more ps (all_from g.edges n 0) d (λ p i. k.1 p (every_in (IsPrefix g) ps p e i))))

-- and there are as many
pub at_least : (g : ControlGraph) (n b : ℕ) → IsDistinct g.edges → paths_from g.edges n 0 ≡ Some b → AtLeast b g
at_least g n b d h = (
  all_from g.edges n 0,
  all_distinct g.edges (λ k. out_distinct g.edges k d) n 0,
  all_paths g.edges n 0,
  (counted g.edges n 0 b h).0,
)

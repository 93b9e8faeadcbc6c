-- Trees are gone through, or made, by tasks: what stays true, and that they come to an end.
use Rattle.std.proofs.Common.{◌≡◌, inl, inr, ℕ, ◌+◌, ◌*◌, ◌<◌, ◌≤◌, List, [], ◌∷◌, ◌++◌, length, map, reverse, refl}
use Rattle.std.proofs.Common.{sym, ap, subst, ◌∙◌, arith}
use Rattle.std.proofs.lemmas.List.{length-append, length-reverse, map-append}
use Rattle.fore_base.specs.Lists.{IsIn, Every, Paired, sum_of}
use Rattle.fore_base.proofs.ListLemmas.{in_right, paired_long}
use Rattle.ta_core.specs.inner.Tasks.{Todo, visit, build, Leaves, IsUnderway, Reduces, work}

-- what is paired with two lists of the same lengths
pub paired_parts : {X Y : Type 0} (P : X → Y → Type 0) (xs : List X) (ys : List Y) (us : List X) (vs : List Y)
    → length xs ≡ length ys → Paired P (xs ++ us) (ys ++ vs) → Paired P xs ys × Paired P us vs
paired_parts P [] [] us vs e h = (tt, h)
paired_parts P [] (y ∷ ys) us vs e h = absurd (omega (arith, e))
paired_parts P (x ∷ xs) [] us vs e h = absurd (omega (arith, e))
paired_parts P (x ∷ xs) (y ∷ ys) us vs e h = let k = paired_parts P xs ys us vs (omega (arith, e)) h.1 in
    ((h.0, k.0), k.1)

module _ {V B : Type 0} (Known : V → Type 0) (Over : V → B → List V → Type 0) where
  -- tasks one after the other
  leaves_split : (xs ys : List (Todo V B)) (us vs : List V) → Leaves Known Over (xs ++ ys) us vs → (mid : List V)
      × Leaves Known Over xs us mid × Leaves Known Over ys mid vs
  leaves_split [] ys us vs h = (us, refl, h)
  leaves_split (visit v ∷ xs) ys us vs h = let k = leaves_split xs ys h.0 vs h.3 in (k.0, (h.0, h.1, h.2, k.1), k.2)
  leaves_split (build b ∷ xs) ys us vs h = let k = leaves_split xs ys (h.1 ++ h.2) vs h.5 in
      (k.0, (h.0, h.1, h.2, h.3, h.4, k.1), k.2)

  leaves_join : (xs ys : List (Todo V B)) (us mid vs : List V) → Leaves Known Over xs us mid
      → Leaves Known Over ys mid vs → Leaves Known Over (xs ++ ys) us vs
  leaves_join [] ys us mid vs h k = subst (λ (ws : List V). Leaves Known Over ys ws vs) (sym h) k
  leaves_join (visit v ∷ xs) ys us mid vs h k = (h.0, h.1, h.2, leaves_join xs ys h.0 mid vs h.3 k)
  leaves_join (build b ∷ xs) ys us mid vs h k = (h.0, h.1, h.2, h.3, h.4, leaves_join xs ys (h.1 ++ h.2) mid vs h.5 k)

  -- each of these nodes is visited
  leaves_each : (us rest : List V) → Every Known us → Leaves Known Over (map visit us) (us ++ rest) rest
  leaves_each [] rest h = refl
  leaves_each (u ∷ us) rest h = (us ++ rest, refl, h.0, leaves_each us rest h.1)

  module _ {R : Type 0} (Gives : V → R → Type 0) (root : V) where
    pub begun : Known root → IsUnderway Known Over Gives root (visit root ∷ []) []
    begun k = ([], ([], refl, k, refl), tt)

    -- the last task visits a node of which is known what is asked
    pub visited : (tasks : List (Todo V B)) (v : V) (results : List R)
        → IsUnderway Known Over Gives root (tasks ++ visit v ∷ []) results → Known v
    visited tasks v results h = let k = leaves_split tasks (visit v ∷ []) (root ∷ []) h.0 h.1 in k.2.2

    -- the node is to be built, once what is below it is visited
    pub opened : (tasks : List (Todo V B)) (v : V) (b : B) (below : List V) (results : List R) → Over v b below
        → Every Known below → IsUnderway Known Over Gives root (tasks ++ visit v ∷ []) results
        → IsUnderway Known Over Gives root (tasks ++ build b ∷ map visit below) results
    opened tasks v b below results o e h =
        let k = leaves_split tasks (visit v ∷ []) (root ∷ []) h.0 h.1 in
        let mine : Leaves Known Over (build b ∷ map visit below) k.0 k.2.0 =
        (v, below, k.2.0, k.2.1, o, leaves_each below k.2.0 e) in
        let all = leaves_join tasks (build b ∷ map visit below) (root ∷ []) k.0 k.2.0 k.1 mine in (
          h.0,
          subst (λ (vs : List V). Leaves Known Over (tasks ++ build b ∷ map visit below) (root ∷ []) vs) k.2.3 all,
          h.2,
        )

    -- what is below a node that is built is done
    pub enough : (tasks : List (Todo V B)) (b : B) (results : List R)
        → IsUnderway Known Over Gives root (tasks ++ build b ∷ []) results → (v : V) × (below : List V) × Over v b below
        × (length below ≤ length results)
    enough tasks b results h =
        let k = leaves_split tasks (build b ∷ []) (root ∷ []) h.0 h.1 in
        let l = paired_long Gives h.0 (reverse results) h.2 in
        let r = length-reverse results in
        let q : length h.0 ≡ length k.2.1 + length k.2.2 = ap length (sym k.2.5) ∙ length-append k.2.1 k.2.2 in
        (k.2.0, k.2.1, k.2.4, omega (arith, l, r, q))

    -- the node is built over the results for what is below it
    pub built : (tasks : List (Todo V B)) (b : B) (count : ℕ) (P : List R → R → Type 0) (results new : List R)
        → ((v : V) (below : List V) → Over v b below → length below ≡ count)
        → ((v : V) (below : List V) (parts : List R) (made : R) → Over v b below → Paired Gives below parts
        → P parts made → Gives v made) → IsUnderway Known Over Gives root (tasks ++ build b ∷ []) results
        → Reduces count P results new → IsUnderway Known Over Gives root tasks new
    built tasks b count P results new long gives h m =
        let k = leaves_split tasks (build b ∷ []) (root ∷ []) h.0 h.1 in
        let t : Paired Gives (k.2.1 ++ k.2.2) (m.parts ++ m.rest) =
        subst (λ (rs : List R). Paired Gives (k.2.1 ++ k.2.2) rs) m.before
        (subst (λ (vs : List V). Paired Gives vs (reverse results)) (sym k.2.5) h.2) in
        let s = paired_parts Gives k.2.1 m.parts k.2.2 m.rest (long k.2.0 k.2.1 k.2.4 ∙ sym m.long) t in
        let here = gives k.2.0 k.2.1 m.parts m.made k.2.4 s.0 m.is in (
          k.0,
          k.1,
          subst (λ (vs : List V). Paired Gives vs (reverse new)) (sym k.2.3)
              (subst (λ (rs : List R). Paired Gives (k.2.0 ∷ k.2.2) rs) (sym m.after) (here, s.1)),
        )

    -- with no task left there is one result, that for the root
    pub ended : (results : List R) → IsUnderway Known Over Gives root [] results → (r : R) × (results ≡ r ∷ [])
        × Gives root r
    ended [] h = absurd (subst (λ (vs : List V). Paired Gives vs []) (sym h.1) h.2)
    ended (r ∷ []) h = (r, refl, (subst (λ (vs : List V). Paired Gives vs (r ∷ [])) (sym h.1) h.2).0)
    ended (r ∷ s ∷ results) h =
        let l = paired_long Gives h.0 (reverse (r ∷ s ∷ results)) h.2 in
        let k = length-reverse (r ∷ s ∷ results) in
        let e = ap length h.1 in
        absurd (omega (arith, l, k, e))

-- the last item of a list of one is that one
pub last_alone : {X : Type 0} (xs : List X) (x y : X) → xs ++ x ∷ [] ≡ y ∷ [] → x ≡ y
last_alone xs x y e = elim (subst (IsIn x) e (in_right x xs (x ∷ []) (inl refl))) [ inl k ↦ k | inr i ↦ absurd i ]

-- no list with an item is empty
pub none_last : {X : Type 0} (x : X) → [] ≡ x ∷ [] → ⊥
none_last x e = let l = ap length e in absurd (omega (arith, l))

work_each : {V : Type 0} (B : Type 0) (w : V → ℕ) (us : List V) → work {V = V} {B = B} w (map visit us)
    ≡ 2 * sum_of (map w us)
work_each B w [] = omega arith
work_each B w (u ∷ us) = let h = work_each B w us in omega (arith, h)

module _ {V B : Type 0} (w : V → ℕ) where
  work_append : (xs ys : List (Todo V B)) → work w (xs ++ ys) ≡ work w xs + work w ys
  work_append [] ys = omega arith
  work_append (visit v ∷ xs) ys = let h = work_append xs ys in omega (arith, h)
  work_append (build b ∷ xs) ys = let h = work_append xs ys in omega (arith, h)

  -- what a task is replaced by is less
  pub opens_less : (tasks : List (Todo V B)) (v : V) (b : B) (below : List V) → sum_of (map w below) < w v
      → work w (tasks ++ build b ∷ map visit below) < work w (tasks ++ visit v ∷ [])
  opens_less tasks v b below l =
      let e = work_append tasks (build b ∷ map visit below) in
      let s = work_append tasks (visit v ∷ []) in
      let k = work_each B w below in
      omega (arith, e, s, k, l)

  pub builds_less : (tasks : List (Todo V B)) (b : B) → work w tasks < work w (tasks ++ build b ∷ [])
  builds_less tasks b = let s = work_append tasks (build b ∷ []) in omega (arith, s)

-- the last task, as it is seen
pub seen_last : {X Y : Type 0} (seen : X → Y) (all rest : List X) (x y : X) → all ≡ rest ++ x ∷ [] → x ≡ y
    → map seen all ≡ map seen rest ++ seen y ∷ []
seen_last seen all rest x y e d = ap (map seen) e ∙ map-append seen rest (x ∷ [])
    ∙ ap (λ z. map seen rest ++ seen z ∷ []) d

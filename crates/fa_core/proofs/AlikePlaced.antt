-- Where other leaves are put in the place of references, references that are alike stay alike: so signatures stay
-- uniform.
use Rattle.std.proofs.Common.{◌≡◌, inl, inr, ℕ, zero, suc, ◌≤◌, ◌+◌, Bool, true, false, true≢false, cond, ◌||◌, nat_eq}
use Rattle.std.proofs.Common.{List, [], ◌∷◌, ◌++◌, flat_map, refl, sym, ap, ap₂, subst, ◌∙◌, arith}
use Rattle.std.proofs.lemmas.Bool.{eqb-true, eq-eqb}
use Rattle.ta_core.specs.Auto.{Automaton, IsRanked}
use Rattle.fa_core.specs.declared.forest.Target.{Target}
use Rattle.fa_core.specs.Boxless.{HasNoBoxes}
use Rattle.fa_core.specs.Dressed.{End, end_refs}
use Rattle.fa_core.specs.Placed.{placed_end, placed_auto}
use Rattle.fa_core.specs.Rearranged.{often}
use Rattle.fa_core.specs.References.{to_two, AreAlike, RefersAlike}
use Rattle.fa_core.specs.Ways.{has, once, once_from}
use Rattle.fa_core.proofs.Alike.{both_to_two}
use Rattle.fa_core.proofs.Counts.{often_both}
use Rattle.fa_core.proofs.NodeRuns.{EndRun}
use Rattle.fa_core.proofs.Numbers.{Within, or_left, or_right, or_cases, has_left, has_right, in_once, once_split}
use Rattle.fa_core.proofs.Numbers.{has_once}
use Rattle.fa_core.proofs.PlainNodes.{end_no_edges, no_insides_at}
use Rattle.fa_core.proofs.Placing.{refs_put, refs_placed_end, end_from, placed_boxless, placed_ranked}
use Rattle.fa_core.proofs.Uniform.{EndsAlike, TopsAlike, alike_ends, alike_tops, ends_refer_alike}

-- The order of first visit.

-- numbers that were seen add nothing
once_seen : (ys rest s : List ℕ) → Within ys s → once_from s (ys ++ rest) ≡ once_from s rest
once_seen [] rest s w = refl
once_seen (y ∷ ys) rest s w =
    let e : has y s ≡ true = w y (or_left (nat_eq y y) (has y ys) (eq-eqb y y refl)) in
    rw e (once_seen ys rest s (λ n h. w n (or_right (nat_eq n y) (has n ys) h)))

module _ (g : ℕ → List ℕ) where
  -- what is put in the place of the numbers of t was seen
  abbrev AreSeen : List ℕ → List ℕ → Type 0
  AreSeen t s = (n : ℕ) → has n t ≡ true → Within (g n) s

  seen_more : (x : ℕ) (t s : List ℕ) → AreSeen t s → AreSeen (x ∷ t) (s ++ once_from s (g x))
  seen_more x t s c n h m i = elim (or_cases (nat_eq n x) (has n t) h) [
    | inl e ↦ (let j : has m (g x) ≡ true = subst (λ (k : ℕ). has m (g k) ≡ true) (eqb-true n x e) i in
        elim (in_once m s (g x) j)
        [ inl a ↦ has_left m s (once_from s (g x)) a | inr b ↦ has_right m s (once_from s (g x)) b ])
    | inr k ↦ has_left m s (once_from s (g x)) (c n k m i)
  ]

  once_put : (xs t s : List ℕ) → AreSeen t s → once_from s (flat_map g xs) ≡ once_from s (flat_map g (once_from t xs))
  once_put [] t s c = refl
  once_put (x ∷ xs) t s c =
      here (has x t) refl (once_put xs t s c) (once_put xs (x ∷ t) (s ++ once_from s (g x)) (seen_more x t s c))
    where
      here : (b : Bool) → has x t ≡ b → once_from s (flat_map g xs) ≡ once_from s (flat_map g (once_from t xs))
          → once_from (s ++ once_from s (g x)) (flat_map g xs)
          ≡ once_from (s ++ once_from s (g x)) (flat_map g (once_from (x ∷ t) xs)) → once_from s (g x ++ flat_map g xs)
          ≡ once_from s (flat_map g (cond b (once_from t xs) (x ∷ once_from (x ∷ t) xs)))
      here true e k l = once_seen (g x) (flat_map g xs) s (c x e) ∙ k
      here false e k l = once_split s (g x) (flat_map g xs) ∙ ap (λ (z : List ℕ). once_from s (g x) ++ z) l
          ∙ sym (once_split s (g x) (flat_map g (once_from (x ∷ t) xs)))

  order_put : (xs ys : List ℕ) → once xs ≡ once ys → once (flat_map g xs) ≡ once (flat_map g ys)
  order_put xs ys e = once_put xs [] [] (λ n h. absurd (true≢false (sym h)))
      ∙ ap (λ (l : List ℕ). once (flat_map g l)) e ∙ sym (once_put ys [] [] (λ n h. absurd (true≢false (sym h))))

-- Counts.

abbrev times : ℕ → ℕ → ℕ
times zero m = 0
times (suc n) m = m + times n m

times_none : (n : ℕ) → times n 0 ≡ 0
times_none zero = refl
times_none (suc n) = let e = times_none n in omega (arith, e)

two_more : (a b : ℕ) → 2 ≤ a → 2 ≤ b → to_two a ≡ to_two b
two_more zero b l k = absurd (omega (arith, l))
two_more (suc zero) b l k = absurd (omega (arith, l))
two_more (suc (suc a)) zero l k = absurd (omega (arith, k))
two_more (suc (suc a)) (suc zero) l k = absurd (omega (arith, k))
two_more (suc (suc a)) (suc (suc b)) l k = refl

times_to_two : (n m : ℕ) → to_two (times n m) ≡ to_two (times (to_two n) m)
times_to_two zero m = refl
times_to_two (suc zero) m = refl
times_to_two (suc (suc n)) zero = let e = times_none n in let a : 0 + (0 + times n 0) ≡ 0 = omega (arith, e) in
    ap to_two a
times_to_two (suc (suc n)) (suc m) =
    two_more (suc m + (suc m + times n (suc m))) (suc m + (suc m + 0)) (omega arith) (omega arith)

-- how often each number of D is in xs, each time so much
abbrev weigh : (ℕ → ℕ) → List ℕ → List ℕ → ℕ
weigh w [] xs = 0
weigh w (d ∷ D) xs = times (often d xs) (w d) + weigh w D xs

weigh_none : (w : ℕ → ℕ) (D : List ℕ) → weigh w D [] ≡ 0
weigh_none w [] = refl
weigh_none w (d ∷ D) = let e = weigh_none w D in omega (arith, e)

eq_turned : (m n : ℕ) → nat_eq m n ≡ nat_eq n m
eq_turned m n = here (nat_eq m n) refl (nat_eq n m) refl
  where
    here : (a : Bool) → nat_eq m n ≡ a → (b : Bool) → nat_eq n m ≡ b → a ≡ b
    here true e true f = refl
    here false e false f = refl
    here true e false f = absurd (true≢false (sym (eq-eqb n m (sym (eqb-true m n e))) ∙ f))
    here false e true f = absurd (true≢false (sym (eq-eqb m n (sym (eqb-true n m f))) ∙ e))

-- one number more weighs as often as it stands in D
weigh_more : (w : ℕ → ℕ) (D : List ℕ) (x : ℕ) (xs : List ℕ) → weigh w D (x ∷ xs)
    ≡ times (often x D) (w x) + weigh w D xs
weigh_more w [] x xs = refl
weigh_more w (d ∷ D) x xs = here (nat_eq x d) refl (weigh_more w D x xs)
  where
    here : (b : Bool) → nat_eq x d ≡ b → weigh w D (x ∷ xs) ≡ times (often x D) (w x) + weigh w D xs
        → times (cond (nat_eq d x) (often d xs + 1) (often d xs)) (w d) + weigh w D (x ∷ xs)
        ≡ times (cond b (often x D + 1) (often x D)) (w x) + (times (often d xs) (w d) + weigh w D xs)
    here true e k =
        let s : nat_eq d x ≡ true = eq_turned d x ∙ e in
        let v : w d ≡ w x = ap w (sym (eqb-true x d e)) in
        let a : times (often d xs + 1) (w d) ≡ w d + times (often d xs) (w d) =
        (let n : often d xs + 1 ≡ suc (often d xs) = omega arith in ap (λ (m : ℕ). times m (w d)) n) in
        let c : times (often x D + 1) (w x) ≡ w x + times (often x D) (w x) =
        (let n : often x D + 1 ≡ suc (often x D) = omega arith in ap (λ (m : ℕ). times m (w x)) n) in
        rw (s, a, c) (omega (arith, k, v))
    here false e k = let s : nat_eq d x ≡ false = eq_turned d x ∙ e in rw s (omega (arith, k))

-- what was seen is not met again
often_seen : (n : ℕ) (s xs : List ℕ) → has n s ≡ true → often n (once_from s xs) ≡ 0
often_seen n s [] h = refl
often_seen n s (x ∷ xs) h =
    here (has x s) refl (nat_eq n x) refl (often_seen n s xs h)
    (often_seen n (x ∷ s) xs (or_right (nat_eq n x) (has n s) h))
  where
    here : (b : Bool) → has x s ≡ b → (c : Bool) → nat_eq n x ≡ c → often n (once_from s xs) ≡ 0
        → often n (once_from (x ∷ s) xs) ≡ 0 → often n (cond b (once_from s xs) (x ∷ once_from (x ∷ s) xs)) ≡ 0
    here true e c f k l = k
    here false e true f k l = absurd (true≢false (sym h ∙ ap (λ (z : ℕ). has z s) (eqb-true n x f) ∙ e))
    here false e false f k l = rw f l

-- in the order of first visit each number stands once
often_once_from : (n : ℕ) (s xs : List ℕ) → has n s ≡ false → has n xs ≡ true → often n (once_from s xs) ≡ 1
often_once_from n s [] h i = absurd (true≢false (sym i))
often_once_from n s (x ∷ xs) h i =
    here (has x s) refl (nat_eq n x) refl i (often_once_from n s xs h) (often_once_from n (x ∷ s) xs)
    (often_seen n (x ∷ s) xs)
  where
    here : (b : Bool) → has x s ≡ b → (c : Bool) → nat_eq n x ≡ c → (c || has n xs) ≡ true
        → (has n xs ≡ true → often n (once_from s xs) ≡ 1)
        → ((nat_eq n x || has n s) ≡ false → has n xs ≡ true → often n (once_from (x ∷ s) xs) ≡ 1)
        → ((nat_eq n x || has n s) ≡ true → often n (once_from (x ∷ s) xs) ≡ 0)
        → often n (cond b (once_from s xs) (x ∷ once_from (x ∷ s) xs)) ≡ 1
    here true e true f i k l m = absurd (true≢false (sym e ∙ ap (λ (z : ℕ). has z s) (sym (eqb-true n x f)) ∙ h))
    here true e false f i k l m = k i
    here false e true f i k l m = let z : often n (once_from (x ∷ s) xs) ≡ 0 = m (or_left (nat_eq n x) (has n s) f) in
        rw f (omega (arith, z))
    here false e false f i k l m =
        let y : (nat_eq n x || has n s) ≡ false = (let a = f in let b = h in rw (a, b) refl) in rw f (l y i)

module _ (g : ℕ → List ℕ) (j : ℕ) where
  abbrev weight : ℕ → ℕ
  weight k = often j (g k)

  -- the numbers of a list whose numbers all stand in D once
  count_put : (D xs : List ℕ) → ((n : ℕ) → has n xs ≡ true → often n D ≡ 1) → often j (flat_map g xs)
      ≡ weigh weight D xs
  count_put D [] h = sym (weigh_none weight D)
  count_put D (x ∷ xs) h =
      let a : often x D ≡ 1 = h x (or_left (nat_eq x x) (has x xs) (eq-eqb x x refl)) in
      let b = often_both j (g x) (flat_map g xs) in
      let c = count_put D xs (λ n i. h n (or_right (nat_eq n x) (has n xs) i)) in
      let d = weigh_more weight D x xs in
      let e : times (often x D) (weight x) ≡ weight x = ap (λ (n : ℕ). times n (weight x)) a
      ∙ (let z : weight x + 0 ≡ weight x = omega arith in z) in
      omega (arith, b, c, d, e)

  weigh_to_two : (D xs ys : List ℕ) → ((k : ℕ) → to_two (often k xs) ≡ to_two (often k ys)) → to_two (weigh weight D xs)
      ≡ to_two (weigh weight D ys)
  weigh_to_two [] xs ys h = refl
  weigh_to_two (d ∷ D) xs ys h =
      let a : to_two (times (often d xs) (weight d)) ≡ to_two (times (often d ys) (weight d)) =
      times_to_two (often d xs) (weight d) ∙ ap (λ (n : ℕ). to_two (times n (weight d))) (h d)
      ∙ sym (times_to_two (often d ys) (weight d)) in
      sym (both_to_two (times (often d xs) (weight d)) (weigh weight D xs))
      ∙ ap₂ (λ (m n : ℕ). to_two (m + n)) a (weigh_to_two D xs ys h)
      ∙ both_to_two (times (often d ys) (weight d)) (weigh weight D ys)

  times_put : (xs ys : List ℕ) → AreAlike xs ys → to_two (often j (flat_map g xs)) ≡ to_two (often j (flat_map g ys))
  times_put xs ys h =
      let a = count_put (once xs) xs (λ n i. often_once_from n [] xs refl i) in
      let b = count_put (once xs) ys
      (λ n i. often_once_from n [] xs refl
      (sym (has_once n xs) ∙ ap (λ (l : List ℕ). has n l) h.order ∙ has_once n ys ∙ i)) in
      ap to_two a ∙ weigh_to_two (once xs) xs ys h.times ∙ ap to_two (sym b)

-- the law: whatever is put in the place of numbers, lists that are alike stay alike
pub alike_put : (g : ℕ → List ℕ) (xs ys : List ℕ) → AreAlike xs ys → AreAlike (flat_map g xs) (flat_map g ys)
alike_put g xs ys h = record { order = order_put g xs ys h.order; times = λ j. times_put g j xs ys h }

-- Automata without box edges.

module _ (f : ℕ → Target) (a : Automaton) (boxless : HasNoBoxes a) where
  -- an end that runs with other leaves, as one that runs
  from_end : (q : ℕ) (e : End) → EndRun (placed_auto f a).rules q e → (m : End) × (placed_end f m ≡ e)
      × EndRun a.rules q m
  from_end q e h =
      let k = end_from f [] a.rules q e h
      (no_insides_at [] e (end_no_edges (placed_auto f a).rules (placed_boxless f a boxless) q e h)) in
      (k.0, k.1, k.2)

  ends_put : (e u m n : End) → placed_end f m ≡ e → placed_end f n ≡ u → AreAlike (end_refs m) (end_refs n)
      → AreAlike (end_refs e) (end_refs u)
  ends_put e u m n x y h =
      let k : AreAlike (end_refs (placed_end f m)) (end_refs (placed_end f n)) =
      (let v = refs_placed_end f m in let w = refs_placed_end f n in
      rw (v, w) (alike_put (refs_put f) (end_refs m) (end_refs n) h)) in
      subst (λ (z : End). AreAlike (end_refs e) (end_refs z)) y
      (subst (λ (z : End). AreAlike (end_refs z) (end_refs (placed_end f n))) x k)

  pub ends_stay_alike : (q : ℕ) → EndsAlike a.rules q → EndsAlike (placed_auto f a).rules q
  ends_stay_alike q h e u x y = let m = from_end q e x in let n = from_end q u y in
      ends_put e u m.0 n.0 m.1 n.1 (h m.0 n.0 m.2 n.2)

  pub tops_stay_alike : TopsAlike a → TopsAlike (placed_auto f a)
  tops_stay_alike h y z e u i k v w = let m = from_end y e v in let n = from_end z u w in
      ends_put e u m.0 n.0 m.1 n.1 (h y z m.0 n.0 i k m.2 n.2)

  -- signatures stay uniform
  pub refers_stay_alike : IsRanked a → RefersAlike a → RefersAlike (placed_auto f a)
  refers_stay_alike ranked h =
      ends_refer_alike (placed_auto f a) (placed_ranked f a ranked) (placed_boxless f a boxless)
      (λ q. ends_stay_alike q (alike_ends a h q)) (tops_stay_alike (alike_tops a h))

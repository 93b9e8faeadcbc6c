-- By its places in the order, the walk meets each root at its place, also where it goes on along a way back.
use Rattle.std.proofs.Common.{◌≡◌, inl, inr, ℕ, suc, ◌<◌, ◌≤◌, length, List, [], ◌∷◌, ◌++◌, map, refl, sym, ap}
use Rattle.std.proofs.Common.{subst, ◌∙◌, append_assoc, append-nil, arith, Some, slice_get}
use Rattle.fore_base.specs.Lists.{IsIn}
use Rattle.fore_base.proofs.ListLemmas.{in_right, in_append}
use Rattle.ta_core.specs.declared.tree.Tree.{Tree}
use Rattle.fa_core.specs.declared.faces.BoxFace.{BoxFace}
use Rattle.fa_core.specs.Canonical.{LeadsBack, Walks, ended, old, new, again, IsOpen, IsFirstOpen, GoesOn, refs_at}
use Rattle.fa_core.specs.Canonical.{provides}
use Rattle.fa_core.specs.Ways.{ways, roots_met}
use Rattle.fa_core.proofs.Counts.{in_or_out}
use Rattle.fa_core.proofs.WaysOf.{map-append}
use Rattle.fa_merge.specs.Reordered.{place_of}
use Rattle.fa_order.specs.Placing.{IsOpenAt, IsFirstLed, GoesOnFrom, PlacingOn, all_placed, stuck, is_placed, place_now}
use Rattle.fa_order.specs.Placing.{goes_on}
use Rattle.fa_order.proofs.MovedBacks.{AreMoved, leads_on, leads_from, leads_back_from, provides_on, provides_from}
use Rattle.fa_order.proofs.MovedBacks.{met_moved}
use Rattle.fa_order.proofs.Places.{place_before, place_same, place_after, place_at_end, length_push}
use Rattle.fa_order.proofs.RefsAt.{refs_got}
use Rattle.fa_order.proofs.Visits.{placed_first}

too_low : (k n : ℕ) → n < k → k ≤ n → ⊥
too_low k n a b = omega (arith, a, b)

abbrev pub TreesOn : List BoxFace → List Tree → List ℕ → List ℕ → List ℕ → Type 0
TreesOn bs ts = PlacingOn (refs_at ts) (LeadsBack bs ts) (provides bs ts)

module _ (f g : ℕ → ℕ) (there : (k : ℕ) → g (f k) ≡ k) (bs : List BoxFace) (ts us : List Tree)
    (m : AreMoved f g there ts us)
    (placed : List ℕ) (k r : ℕ) (fr : f r ≡ k)
    (low : (x : ℕ) → IsIn x placed → f x < k) (high : (x : ℕ) → (IsIn x placed → ⊥) → k ≤ f x)
    (same : (x : ℕ) → IsIn x placed → f x ≡ place_of placed x) where
  is_in : (x : ℕ) → f x < k → IsIn x placed
  is_in x l = elim (in_or_out x placed) [ inl i ↦ i | inr o ↦ absurd (too_low k (f x) l (high x o)) ]

  open_from : (i j : ℕ) → IsOpen bs us k i j → IsIn (g i) placed × IsOpenAt (LeadsBack bs ts) placed (g i) (g j)
  open_from i j o = (
    is_in (g i) (rw (m.again i) o.2),
    (
      g o.0,
      (λ w. too_low k o.0 (subst (λ (z : ℕ). z < k) (m.again o.0) (low (g o.0) w)) o.1),
      leads_back_from f g there bs ts us m i j o.0 o.3,
    ),
  )

  first_on : (P Q : ℕ → Type 0) → ((x : ℕ) → P x → Q (f x)) → ((x : ℕ) → Q (f x) → P x) → (xs : List ℕ)
      → IsFirstLed P placed r xs → IsFirstOpen Q k (map f xs)
  first_on P Q on from [] h = h
  first_on P Q on from (x ∷ xs) (inl h) = inl (ap f h.0 ∙ fr, subst Q fr (on r h.1))
  first_on P Q on from (x ∷ xs) (inr h) =
      inr ((λ l q. h.0 (λ i. too_low k (f x) (low x i) l) (from x q)), first_on P Q on from xs h.1)

  pub goes_moved : GoesOnFrom (refs_at ts) (LeadsBack bs ts) (provides bs ts) placed r → GoesOn bs us k
  goes_moved h =
      let way = h.gives.open_way in
      record {
        from = f h.from;
        into = f h.into;
        open_way = (
          f way.0,
          high way.0 way.1,
          low h.from h.lowest.is_placed,
          leads_on f g there bs ts us m h.from h.into way.0 way.2,
        );
        lowest = λ i j o. (let w = open_from i j o in
            let l = h.lowest.lowest (g i) (g j) w.0 w.1 in
            let a = same h.from h.lowest.is_placed in
            let b : i ≡ place_of placed (g i) = sym (m.again i) ∙ same (g i) w.0 in
            rw a (subst (λ (z : ℕ). place_of placed h.from ≤ z) (sym b) l));
        field = h.gives.field;
        provided = provides_on f g there bs ts us m h.from h.into h.gives.field h.gives.given;
        least = λ j x o p. h.gives.least (g j) x
            (subst (λ (z : ℕ). IsOpenAt (LeadsBack bs ts) placed z (g j)) (there h.from)
            (open_from (f h.from) j o).1)
            (provides_from f g there bs ts us m h.from j x p);
        own_first = λ l w. sym fr ∙ ap f (h.led.own_first (λ i. too_low k (f h.into) (low h.into i) l)
            (leads_from f g there bs ts us m h.from h.into h.into w));
        then_list = λ below u e.
            (let t = m.up (f h.into) u e in
            let at : slice_get ts h.into ≡ Some t.0 =
            subst (λ (z : ℕ). slice_get ts z ≡ Some t.0) (there h.into) t.1 in
            let q = h.led.then_list (λ w. is_in h.into (below (leads_on f g there bs ts us m h.from h.into h.into w)))
            in
            let met : map f (refs_at ts h.into) ≡ roots_met (ways u) =
            ap (map f) (refs_got ts h.into t.0 at) ∙ sym (ap roots_met t.2 ∙ met_moved f g there (ways t.0)) in
            subst (λ (rs : List ℕ). IsFirstOpen (λ x. LeadsBack bs us (f h.from) (f h.into) x) k rs) met
            (first_on (λ x. LeadsBack bs ts h.from h.into x) (λ x. LeadsBack bs us (f h.from) (f h.into) x)
            (λ x. leads_on f g there bs ts us m h.from h.into x)
            (λ x. leads_from f g there bs ts us m h.from h.into x) (refs_at ts h.into) q));
      }

module _ (refers : ℕ → List ℕ) (Leads Gives : ℕ → ℕ → ℕ → Type 0) where
  -- what is placed next stands next
  place_next : (r : ℕ) (todo placed order : List ℕ) → (IsIn r placed → ⊥)
      → PlacingOn refers Leads Gives (r ∷ todo) placed order → IsIn r order × (place_of order r ≡ length placed)
  place_next r todo placed order o (is_placed i w) = absurd (o i)
  place_next r todo placed order o (place_now i w) =
      let k = placed_first refers Leads Gives w in
      let s : order ≡ placed ++ r ∷ k.0 = k.1 ∙ append_assoc placed (r ∷ []) k.0 in
      let z = place_at_end 0 placed k.0 r o in
      let y : place_of (placed ++ r ∷ k.0) r ≡ length placed = omega (arith, z) in
      (rw s (in_right r placed (r ∷ k.0) (inl refl)), rw s y)

module _ (bs : List BoxFace) (ts us : List Tree) (order : List ℕ) (g : ℕ → ℕ)
    (there : (k : ℕ) → g (place_of order k) ≡ k) (m : AreMoved (place_of order) g there ts us)
    (outer : (x : ℕ) → (IsIn x order → ⊥) → length order ≤ place_of order x)
    (moved : (r : ℕ) → IsIn r order → refs_at us (place_of order r) ≡ map (place_of order) (refs_at ts r)) where
  abbrev f : ℕ → ℕ
  f = place_of order

  abbrev first : {todo placed last : List ℕ} → TreesOn bs ts todo placed last → (rest : List ℕ)
      × (last ≡ placed ++ rest)
  first w = placed_first (refs_at ts) (LeadsBack bs ts) (provides bs ts) w

  long : (xs ys : List ℕ) → length xs ≤ length (xs ++ ys)
  long [] ys = omega arith
  long (x ∷ xs) ys = let l = long xs ys in omega (arith, l)

  low_of : (placed rest : List ℕ) → order ≡ placed ++ rest → (x : ℕ) → IsIn x placed → f x < length placed
  low_of placed rest s x i =
      let z = place_before 0 placed rest x i in
      let y : place_of (placed ++ rest) x < length placed = omega (arith, z) in rw s y

  high_of : (placed rest : List ℕ) → order ≡ placed ++ rest → (x : ℕ) → (IsIn x placed → ⊥) → length placed ≤ f x
  high_of placed rest s x o = elim (in_or_out x order) [
    | inl i ↦ elim (in_append x placed rest (rw s at i)) [
      | inl j ↦ absurd (o j)
      | inr j ↦ (let z = place_after 0 placed rest x o j in
          let y : length placed ≤ place_of (placed ++ rest) x = omega (arith, z) in rw s y)
    ]
    | inr n ↦ (let a = outer x n in let b : length placed ≤ length order = rw s (long placed rest) in
        omega (arith, a, b))
  ]

  same_of : (placed rest : List ℕ) → order ≡ placed ++ rest → (x : ℕ) → IsIn x placed → f x ≡ place_of placed x
  same_of placed rest s x i = rw s (place_same 0 placed rest x i)

  -- the walk of the trees under their new numbers
  abbrev Meets : List ℕ → ℕ → Type 0
  Meets todo k = Walks (refs_at us) (GoesOn bs us) todo k (length order)

  pub walks_on : (todo placed last : List ℕ) → last ≡ order → TreesOn bs ts todo placed last
      → Walks (refs_at us) (GoesOn bs us) (map (place_of order) todo) (length placed) (length order)
  walks_on todo placed last e (all_placed n) = rw e ended
  walks_on todo placed last e (stuck n) = rw e ended
  walks_on (r ∷ todo) placed last e (is_placed i w) =
      let k = first w in old (low_of placed k.0 (sym e ∙ k.1) r i) (walks_on todo placed last e w)
  walks_on (r ∷ todo) placed last e (place_now i w) =
      let n = place_next (refs_at ts) (LeadsBack bs ts) (provides bs ts) r todo placed last i (place_now i w) in
      let p : f r ≡ length placed = subst (λ (z : List ℕ). place_of z r ≡ length placed) e n.1 in
      let at : IsIn r order = subst (λ (z : List ℕ). IsIn r z) e n.0 in
      let q : map f (refs_at ts r ++ todo) ≡ refs_at us (length placed) ++ map f todo =
      map-append f (refs_at ts r) todo
      ∙ ap (λ (z : List ℕ). z ++ map f todo) (sym (moved r at) ∙ ap (refs_at us) p) in
      let next : Meets (map f (refs_at ts r ++ todo)) (length (placed ++ r ∷ [])) =
      walks_on (refs_at ts r ++ todo) (placed ++ r ∷ []) last e w in
      let goes : Meets (refs_at us (length placed) ++ map f todo) (suc (length placed)) =
      subst (λ (z : ℕ). Meets (refs_at us (length placed) ++ map f todo) z) (length_push placed r)
      (subst (λ (z : List ℕ). Meets z (length (placed ++ r ∷ []))) q next) in
      subst (λ (z : ℕ). Meets (z ∷ map f todo) (length placed)) (sym p) (new goes)
  walks_on [] placed last e (goes_on {r = r} o h w) =
      let k = first w in
      let s : order ≡ placed ++ k.0 = sym e ∙ k.1 in
      let n = place_next (refs_at ts) (LeadsBack bs ts) (provides bs ts) r [] placed last o w in
      let p : f r ≡ length placed = subst (λ (z : List ℕ). place_of z r ≡ length placed) e n.1 in
      let at : IsIn r order = subst (λ (z : List ℕ). IsIn r z) e n.0 in
      let less : length placed < length order =
      (let z = place_before 0 order [] r at in
      let y : place_of (order ++ []) r ≡ place_of order r = ap (λ (l : List ℕ). place_of l r) (append-nil order) in
      omega (arith, z, y, p)) in
      let next : Meets (map f (r ∷ [])) (length placed) = walks_on (r ∷ []) placed last e w in
      again less (goes_moved f g there bs ts us m placed (length placed) r p (low_of placed k.0 s)
      (high_of placed k.0 s) (same_of placed k.0 s) h)
      (subst (λ (z : ℕ). Meets (z ∷ []) (length placed)) p next)

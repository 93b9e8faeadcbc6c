-- A walk that meets the roots in the order of their numbers places them in this order, also where it goes on along a
-- way back; and the other way round.
use Rattle.std.proofs.Common.{◌≡◌, inl, inr, ℕ, ◌<◌, ◌≤◌, ◌+◌, List, [], ◌∷◌, ◌++◌, length, map, refl, sym, ap, ap₂}
use Rattle.std.proofs.Common.{subst, ◌∙◌, Some, slice_get, arith}
use Rattle.fore_base.specs.Lists.{IsIn}
use Rattle.ta_core.specs.declared.tree.Tree.{Tree}
use Rattle.fa_core.specs.declared.faces.BoxFace.{BoxFace}
use Rattle.fa_core.specs.Canonical.{LeadsBack, Walks, ended, old, new, again, IsOpen, IsFirstOpen, GoesOn, refs_at}
use Rattle.fa_core.specs.Canonical.{provides}
use Rattle.fa_core.specs.Ways.{Step, Way, ways, roots_met}
use Rattle.fa_merge.specs.Reordered.{counted, place_of}
use Rattle.fa_merge.proofs.OtherOrders.{counted_length}
use Rattle.fa_order.specs.Placing.{IsOpenAt, IsFirstLed, GoesOnFrom, all_placed, is_placed, place_now, goes_on}
use Rattle.fa_order.proofs.MovedBacks.{AreMoved, moved_way, moved_step}
use Rattle.fa_order.proofs.Places.{counted_is_below, below_counted, not_below, out_above, counted_push, place_counted}
use Rattle.fa_order.proofs.Places.{same_map}
use Rattle.fa_order.proofs.RefsAt.{refs_got}
use Rattle.fa_order.proofs.WalkedOn.{TreesOn, walks_on}

module _ (bs : List BoxFace) (ts : List Tree) where
  open_back : (k i j : ℕ) → IsIn i (counted 0 k) → IsOpenAt (LeadsBack bs ts) (counted 0 k) i j → IsOpen bs ts k i j
  open_back k i j h o = (o.0, out_above k o.0 o.1, counted_is_below k i h, o.2)

  open_to : (k i j : ℕ) → IsOpen bs ts k i j → IsOpenAt (LeadsBack bs ts) (counted 0 k) i j
  open_to k i j o = (o.0, not_below k o.0 o.1, o.3)

  first_back : (P : ℕ → Type 0) (k : ℕ) (xs : List ℕ) → IsFirstOpen P k xs → IsFirstLed P (counted 0 k) k xs
  first_back P k [] h = h
  first_back P k (x ∷ xs) (inl h) = inl (h.0, h.1)
  first_back P k (x ∷ xs) (inr h) = inr ((λ o p. h.0 (out_above k x o) p), first_back P k xs h.1)

  goes_back : (k : ℕ) → GoesOn bs ts k → GoesOnFrom (refs_at ts) (LeadsBack bs ts) (provides bs ts) (counted 0 k) k
  goes_back k g =
      let o = g.open_way in
      let t = o.3 in
      record {
        from = g.from;
        into = g.into;
        lowest = record {
          is_placed = below_counted k g.from o.2;
          some = (g.into, open_to k g.from g.into o);
          lowest = λ i j h w. (let l = g.lowest i j (open_back k i j h w) in
              rw (place_counted k g.from, place_counted k i) l);
        };
        gives = record {
          open_way = open_to k g.from g.into o;
          field = g.field;
          given = g.provided;
          least = λ j f w p. g.least j f (open_back k g.from j (below_counted k g.from o.2) w) p;
        };
        led = record {
          own_first = λ n w. g.own_first (out_above k g.into n) w;
          then_list = λ below. subst (IsFirstLed (λ x. LeadsBack bs ts g.from g.into x) (counted 0 k) k)
              (sym (refs_got ts g.into t.0 t.1))
              (first_back (λ x. LeadsBack bs ts g.from g.into x) k (roots_met (ways t.0))
              (g.then_list (λ w. counted_is_below k g.into (below w)) t.0 t.1));
        };
      }

  pub walks_placed : {todo : List ℕ} {k n : ℕ} → ((i j x : ℕ) → LeadsBack bs ts i j x → x < n)
      → Walks (refs_at ts) (GoesOn bs ts) todo k n → TreesOn bs ts todo (counted 0 k) (counted 0 n)
  walks_placed {n = n} low ended = all_placed (λ i j h o. o.1 (below_counted n o.0 (low i j o.0 o.2)))
  walks_placed low (old {r} {k} l w) = is_placed (below_counted k r l) (walks_placed low w)
  walks_placed {n = n} low (new {k = k} {todo = todo} w) =
      place_now (not_below k k (omega arith))
      (let e : 0 + k ≡ k = omega arith in
      subst (λ (z : List ℕ). TreesOn bs ts (refs_at ts k ++ todo) z (counted 0 n))
      (sym (counted_push 0 k) ∙ ap (λ (m : ℕ). counted 0 k ++ m ∷ []) e) (walks_placed low w))
  walks_placed low (again {k = k} l h w) = goes_on (not_below k k (omega arith)) (goes_back k h) (walks_placed low w)

-- Where each root keeps its number.

module _ (f : ℕ → ℕ) (same : (k : ℕ) → f k ≡ k) where
  same_steps : (ss : List Step) → map (moved_step f) ss ≡ ss
  same_steps [] = refl
  same_steps (s ∷ ss) = ap₂ (λ (x : List ℕ) (y : List Step). record { slot = s.slot; refers = x } ∷ y)
      (same_map f s.refers same) (same_steps ss)

  same_ways : (ws : List Way) → map (moved_way f) ws ≡ ws
  same_ways [] = refl
  same_ways (w ∷ ws) = ap₂ (λ (x : Way) (y : List Way). x ∷ y)
      (ap₂ (λ (r : ℕ) (ss : List Step). record { root = r; steps = ss }) (same w.root) (same_steps w.steps))
      (same_ways ws)

pub placed_walks : (bs : List BoxFace) (ts : List Tree) (todo : List ℕ) (n : ℕ) → TreesOn bs ts todo [] (counted 0 n)
    → Walks (refs_at ts) (GoesOn bs ts) todo 0 n
placed_walks bs ts todo n w =
    let order = counted 0 n in
    let f = place_of order in
    let same : (k : ℕ) → f k ≡ k = place_counted n in
    let moved : (r : ℕ) → IsIn r order → refs_at ts (f r) ≡ map f (refs_at ts r) =
    (λ r i. ap (refs_at ts) (same r) ∙ sym (same_map f (refs_at ts r) same)) in
    let m : AreMoved f (λ k. k) same ts ts = record {
      again = same;
      down = λ k t e. (t, subst (λ (z : ℕ). slice_get ts z ≡ Some t) (sym (same k)) e, sym (same_ways f same (ways t)));
      up = λ j t e. (t, e, sym (same_ways f same (ways t)));
    } in
    let outer : (x : ℕ) → (IsIn x order → ⊥) → length order ≤ f x =
    (λ x o. let a = out_above n x o in let b = same x in let c = counted_length 0 n in omega (arith, a, b, c)) in
    subst (λ (z : ℕ). Walks (refs_at ts) (GoesOn bs ts) todo 0 z) (counted_length 0 n)
    (subst (λ (z : List ℕ). Walks (refs_at ts) (GoesOn bs ts) z 0 (length order)) (same_map f todo same)
    (walks_on bs ts ts order (λ k. k) same m outer moved todo [] order refl w))

-- Each pair is covered by one that no later one covers; so the rules need be taken over these alone.
use Rattle.std.proofs.Common.{◌≡◌, ◌⊎◌, inl, inr, ℕ, zero, suc, ◌<◌, ◌+◌, Bool, true, false, List, [], ◌∷◌, ◌++◌}
use Rattle.std.proofs.Common.{length, drop, get_or, slice_get, Some, MatchBool, IsTrue, refl, sym, ap, subst, arith}
use Rattle.std.proofs.lemmas.List.{append_assoc}
use Rattle.fore_base.specs.Lists.{IsIn, Every}
use Rattle.fore_base.specs.Marks.{IsMarked}
use Rattle.fore_base.proofs.ListLemmas.{every_in}
use Rattle.fore_base.proofs.MarkLemmas.{marked_below}
use Rattle.ta_core.specs.Auto.{Automaton}
use Rattle.ta_incl.specs.declared.found.Found.{Found}
use Rattle.ta_incl.specs.declared.order.Order.{Order}
use Rattle.ta_incl.specs.declared.order.Orders.{Orders}
use Rattle.ta_incl.specs.inner.Founds.{AreAt, IsCover, HasCover, AreLasting, IsAbove, AreAbove, IsProper}
use Rattle.ta_incl.specs.inner.Orders.{AreUpward}
use Rattle.ta_incl.proofs.Covering.{cover_left, cover_right, cover_joined}

-- there is a mark for each pair
pub lasting_long : (order : Order) (found : List Found) (marks : List Bool) → AreLasting order found marks
    → length marks ≡ length found
lasting_long order [] [] h = refl
lasting_long order [] (m ∷ marks) h = absurd h
lasting_long order (f ∷ found) [] h = absurd h
lasting_long order (f ∷ found) (m ∷ marks) h = ap suc (lasting_long order found marks h.1)

-- the mark of the first pair that is left, and those of the others
lasting_behind : (order : Order) (f : Found) (fs : List Found) (i : ℕ) (live : List Bool)
    → AreLasting order (f ∷ fs) (drop i live)
    → MatchBool (get_or live i false) (HasCover order fs f → ⊥) (HasCover order fs f)
    × AreLasting order fs (drop (suc i) live)
lasting_behind order f fs zero [] h = absurd h
lasting_behind order f fs zero (m ∷ live) h = h
lasting_behind order f fs (suc i) [] h = absurd h
lasting_behind order f fs (suc i) (m ∷ live) h = lasting_behind order f fs i live h

pub lasting_at : (order : Order) (f : Found) (fs : List Found) (i : ℕ) (live : List Bool)
    → AreLasting order (f ∷ fs) (drop i live)
    → MatchBool (get_or live i false) (HasCover order fs f → ⊥) (HasCover order fs f)
    × AreLasting order fs (drop (i + 1) live)
lasting_at order f fs i live h =
    let k = lasting_behind order f fs i live h in
    (k.0, subst (λ (n : ℕ). AreLasting order fs (drop n live)) (next i) k.1)
  where
    next : (n : ℕ) → suc n ≡ n + 1
    next n = omega arith

-- one more mark, among further pairs
pub still_step : (order : Order) (f : Found) (fs added : List Found) (i : ℕ) (live marks : List Bool) (n : Bool)
    (all : List Found) → AreLasting order (f ∷ fs) (drop i live)
    → (IsTrue n → IsMarked live i × (HasCover order added f → ⊥))
    → (n ≡ false → (get_or live i false ≡ false) ⊎ HasCover order added f)
    → ((more : List Bool) → AreLasting order ((f ∷ fs) ++ added) more → AreLasting order all (marks ++ more))
    → (more : List Bool) → AreLasting order (fs ++ added) more → AreLasting order all ((marks ++ n ∷ []) ++ more)
still_step order f fs added i live marks n all h on off k more m =
    subst (AreLasting order all) (sym (append_assoc marks (n ∷ []) more)) (k (n ∷ more) (mark n refl, m))
  where
    was : (t : Bool) → get_or live i false ≡ t → MatchBool t (HasCover order fs f → ⊥) (HasCover order fs f)
    was t e = subst (λ (b : Bool). MatchBool b (HasCover order fs f → ⊥) (HasCover order fs f)) e
        (lasting_at order f fs i live h).0

    mark : (t : Bool) → n ≡ t
        → MatchBool t (HasCover order (fs ++ added) f → ⊥) (HasCover order (fs ++ added) f)
    mark true e = λ c. let y = on e in y.1 (cover_joined order fs added f (was true y.0) c)
    mark false e = elim (off e) [
      | inl d ↦ cover_left order fs added f (was false d)
      | inr d ↦ cover_right order fs added f d
    ]

-- what no later pair covers among more, none covers among fewer
pub lasting_less : (order : Order) (found added : List Found) (news olds : List Bool) (i : ℕ)
    → AreLasting order (found ++ added) news → AreLasting order found olds → i < length found → IsMarked news i
    → IsMarked olds i
lasting_less order [] added news olds i h k l m = absurd (omega (arith, l))
lasting_less order (f ∷ found) added [] olds i h k l m = absurd h
lasting_less order (f ∷ found) added (n ∷ news) [] i h k l m = absurd k
lasting_less order (f ∷ found) added (n ∷ news) (true ∷ olds) zero h k l m = refl
lasting_less order (f ∷ found) added (n ∷ news) (false ∷ olds) zero h k l m =
    absurd
    (subst (λ (b : Bool). MatchBool b (HasCover order (found ++ added) f → ⊥) (HasCover order (found ++ added) f)) m h.0
    (cover_left order found added f k.0))
lasting_less order (f ∷ found) added (n ∷ news) (o ∷ olds) (suc i) h k l m =
    lasting_less order found added news olds i h.1 k.1 (omega (arith, l)) m

module _ (a b : Automaton) (orders : Orders) (up : AreUpward a b orders) where
  cover_above : (f g : Found) → IsProper a b orders g → IsCover orders.left f g → IsAbove orders f g
  cover_above f g p h = record { state = h.0; set = λ m k. (p.under.only m (h.1 m k)).1 }

  above_same : (f : Found) → IsProper a b orders f → IsAbove orders f f
  above_same f p = record {
    state = up.left.same f.state p.state;
    set = λ m k. (m, k, up.right.same m (rw p.long at (marked_below f.marks m k)));
  }

  above_through : (f g h : Found) → IsProper a b orders g → IsAbove orders f g → IsAbove orders g h → IsAbove orders f h
  above_through f g h p u v = record {
    state = up.left.through h.state g.state f.state p.state v.state u.state;
    set = λ m i.
        let k = u.set m i in
        let l = v.set k.0 k.1 in
        (l.0, l.1, up.right.through m k.0 l.0 (rw p.long at (marked_below g.marks k.0 k.1)) k.2 l.2);
  }

  -- at this place stands a pair with a mark that is above f
  pub record LastsFor (found : List Found) (marks : List Bool) (f : Found) : Type 0 where
    pub place : ℕ
    pub pair : Found
    pub at : slice_get found place ≡ Some pair
    pub marked : IsMarked marks place
    pub above : IsAbove orders pair f

  further : (x : Found) (found : List Found) (m : Bool) (marks : List Bool) (f g : Found) → IsProper a b orders f
      → LastsFor found marks f → IsAbove orders f g → LastsFor (x ∷ found) (m ∷ marks) g
  further x found m marks f g p h u =
      record {
        place = suc h.place;
        pair = h.pair;
        at = h.at;
        marked = h.marked;
        above = above_through h.pair f g p h.above u;
      }

  -- each pair is covered by one that lasts
  pub lasts_for : (found : List Found) (marks : List Bool) (f : Found) → AreLasting orders.left found marks
      → Every (IsProper a b orders) found → IsIn f found → LastsFor found marks f
  lasts_for [] marks f h p i = absurd i
  lasts_for (x ∷ found) [] f h p i = absurd h
  lasts_for (x ∷ found) (m ∷ marks) f h p (inr i) =
      let q = every_in (IsProper a b orders) found f p.1 i in
      further x found m marks f f q (lasts_for found marks f h.1 p.1 i) (above_same f q)
  lasts_for (x ∷ found) (true ∷ marks) f h p (inl e) =
      record {
        place = zero;
        pair = x;
        at = refl;
        marked = refl;
        above = subst (λ (g : Found). IsAbove orders x g) (sym e) (above_same x p.0);
      }
  lasts_for (x ∷ found) (false ∷ marks) f h p (inl e) =
      let c = h.0 in
      further x found false marks c.0 f (every_in (IsProper a b orders) found c.0 p.1 c.1)
      (lasts_for found marks c.0 h.1 p.1 c.1)
      (subst (λ (g : Found). IsAbove orders c.0 g) (sym e) (cover_above c.0 x p.0 c.2))

  -- so for each of several pairs
  pub last_each : (found : List Found) (marks : List Bool) (items : List Found) → AreLasting orders.left found marks
      → Every (IsProper a b orders) found → Every (λ f. IsIn f found) items → (places : List ℕ) × (others : List Found)
      × AreAt found places others × Every (IsMarked marks) places × AreAbove orders others items
  last_each found marks [] h p i = ([], [], tt, tt, tt)
  last_each found marks (f ∷ items) h p i =
      let l = lasts_for found marks f h p i.0 in
      let w = last_each found marks items h p i.1 in
      (l.place ∷ w.0, l.pair ∷ w.1, (l.at, w.2), (l.marked, w.3), (l.above, w.4))

-- What a signature tells of the ways of a tree, part by part.
use Rattle.std.proofs.Common.{◌≡◌, ℕ, zero, suc, ◌≤◌, Bool, true, false, true≢false, cond, ◌||◌, ◌&&◌, nat_eq, nat_le}
use Rattle.std.proofs.Common.{length}
use Rattle.std.proofs.Common.{List, [], ◌∷◌, map, filter, flat_map, refl, sym, ap, subst, ◌∙◌, arith}
use Rattle.std.proofs.lemmas.Bool.{eqb-true, leb-true, le-leb}
use Rattle.fa_core.specs.declared.faces.BoxFace.{BoxFace}
use Rattle.fa_core.specs.declared.signature.RefMark.{RefMark}
use Rattle.fa_core.specs.Rearranged.{in_order}
use Rattle.fa_core.specs.References.{to_two}
use Rattle.fa_core.specs.Ways.{Way, to_root, any_back, led_to, given, has, roots_met, mark}
use Rattle.fa_core.proofs.CellMarks.{same_made}
use Rattle.fa_core.proofs.Numbers.{filter_same, has_filter, has_once}
use Rattle.fa_core.proofs.PlainWays.{map_same}
use Rattle.fa_core.proofs.WayParts.{way_roots, collect, WaysIn, collect_in}

pub none_there : (r : ℕ) (ws : List Way) → has r (way_roots ws) ≡ false → to_root r ws ≡ []
none_there r [] h = refl
none_there r (w ∷ ws) h = here (nat_eq r w.root) h (none_there r ws)
  where
    here : (b : Bool) → (b || has r (way_roots ws)) ≡ false → (has r (way_roots ws) ≡ false → to_root r ws ≡ [])
        → cond b (w ∷ to_root r ws) (to_root r ws) ≡ []
    here true h f = absurd (true≢false h)
    here false h f = f h

some_there : (r : ℕ) (ws : List Way) → has r (way_roots ws) ≡ true → 1 ≤ length (to_root r ws)
some_there r [] h = absurd (true≢false (sym h))
some_there r (w ∷ ws) h = here (nat_eq r w.root) h (some_there r ws)
  where
    here : (b : Bool) → (b || has r (way_roots ws)) ≡ true → (has r (way_roots ws) ≡ true → 1 ≤ length (to_root r ws))
        → 1 ≤ length (cond b (w ∷ to_root r ws) (to_root r ws))
    here true h f = omega arith
    here false h f = f h

-- Counts of which no more is told than none, one, or more.

two_of : (a b : ℕ) → 1 ≤ a → 1 ≤ b → nat_le 2 a ≡ nat_le 2 b → to_two a ≡ to_two b
two_of zero b l k e = absurd (omega (arith, l))
two_of (suc a) zero l k e = absurd (omega (arith, k))
two_of (suc zero) (suc zero) l k e = refl
two_of (suc zero) (suc (suc b)) l k e = absurd
    (let h = leb-true 2 1 (e ∙ le-leb 2 (suc (suc b)) (omega arith)) in omega (arith, h))
two_of (suc (suc a)) (suc zero) l k e = absurd
    (let h = leb-true 2 1 (sym e ∙ le-leb 2 (suc (suc a)) (omega arith)) in omega (arith, h))
two_of (suc (suc a)) (suc (suc b)) l k e = refl

many_two : (n : ℕ) → nat_le 2 (to_two n) ≡ nat_le 2 n
many_two zero = refl
many_two (suc zero) = refl
many_two (suc (suc n)) = sym (le-leb 2 (suc (suc n)) (omega arith))

mark_roots : (bs : List BoxFace) (ws : List Way) (rs : List ℕ)
    → map (λ (m : RefMark). m.root) (map (mark bs ws) rs) ≡ rs
mark_roots bs ws [] = refl
mark_roots bs ws (r ∷ rs) = ap (λ (z : List ℕ). r ∷ z) (mark_roots bs ws rs)

-- where two functions give the same list, they give the same of each item
same_at : {Y : Type 0} (f g : ℕ → Y) (rs : List ℕ) (k : ℕ) → has k rs ≡ true → map f rs ≡ map g rs → f k ≡ g k
same_at f g [] k h e = absurd (true≢false (sym h))
same_at {Y} f g (r ∷ rs) k h e = here (nat_eq k r) refl h (same_at f g rs k)
  where
    here : (b : Bool) → nat_eq k r ≡ b → (b || has k rs) ≡ true → (has k rs ≡ true → map f rs ≡ map g rs → f k ≡ g k)
        → f k ≡ g k
    here true q h rec = subst (λ (n : ℕ). f n ≡ g n) (sym (eqb-true k r q))
        (let z : f r ∷ map f rs ≡ g r ∷ map g rs = e in cc)
    here false q h rec = rec h (let z : f r ∷ map f rs ≡ g r ∷ map g rs = e in cc)

module _ (bs : List BoxFace) where
  abbrev pub gifts : Way → List ℕ
  gifts w = given bs w.steps

  abbrev pub leads : Way → List ℕ
  leads w = led_to bs w.steps

  -- of the ways to root k as much is the same as a mark tells
  pub record SameTo (us ws : List Way) (k : ℕ) : Type 0 where
    pub times : to_two (length (to_root k us)) ≡ to_two (length (to_root k ws))
    pub gives : in_order (collect gifts k us) ≡ in_order (collect gifts k ws)
    pub back : any_back bs (to_root k us) ≡ any_back bs (to_root k ws)
    pub led : (j : ℕ) → has j (collect leads k us) ≡ has j (collect leads k ws)

  -- so it is for each root
  pub record SameWays (us ws : List Way) : Type 0 where
    pub order : roots_met us ≡ roots_met ws
    pub each : (k : ℕ) → SameTo us ws k

  abbrev marks : List Way → List RefMark
  marks ws = map (mark bs ws) (roots_met ws)

  none_to : (us ws : List Way) (k : ℕ) → to_root k us ≡ [] → to_root k ws ≡ [] → SameTo us ws k
  none_to us ws k a b =
      let e = a ∙ sym b in
      record {
        times = ap (λ (z : List Way). to_two (length z)) e;
        gives = ap (λ (z : List Way). in_order (flat_map gifts z)) e;
        back = ap (any_back bs) e;
        led = λ j. ap (λ (z : List Way). has j (flat_map leads z)) e;
      }

  reached_in : (ws : List Way) (k j : ℕ) → WaysIn (way_roots ws) ws
      → has j (collect leads k ws) ≡ (has j (roots_met ws) && has j (collect leads k ws))
  reached_in ws k j h = here (has j (collect leads k ws)) refl
    where
      here : (b : Bool) → has j (collect leads k ws) ≡ b → b ≡ (has j (roots_met ws) && b)
      here true e = ap (λ (z : Bool). z && true)
          (sym (has_once j (way_roots ws) ∙ collect_in bs (way_roots ws) k ws h j e))
      here false e = none (has j (roots_met ws))
        where
          none : (b : Bool) → false ≡ (b && false)
          none true = refl
          none false = refl

  mark_same : (us ws : List Way) (k : ℕ) → WaysIn (way_roots us) us → WaysIn (way_roots ws) ws
      → has k (way_roots us) ≡ true → has k (way_roots ws) ≡ true → mark bs us k ≡ mark bs ws k → SameTo us ws k
  mark_same us ws k h i there too e = record {
    times = two_of (length (to_root k us)) (length (to_root k ws)) (some_there k us there) (some_there k ws too)
        (ap (λ (m : RefMark). m.many) e);
    gives = ap (λ (m : RefMark). m.provided) e;
    back = ap (λ (m : RefMark). m.back) e;
    led = λ j. reached_in us k j h
        ∙ sym (has_filter j (λ n. has n (collect leads k us)) (roots_met us))
        ∙ ap (λ (m : RefMark). has j m.reach) e
        ∙ has_filter j (λ n. has n (collect leads k ws)) (roots_met ws)
        ∙ sym (reached_in ws k j i);
  }

  -- the same signature tells the same of the ways
  pub signed_ways : (us ws : List Way) → WaysIn (way_roots us) us → WaysIn (way_roots ws) ws
      → map (mark bs us) (roots_met us) ≡ map (mark bs ws) (roots_met ws) → SameWays us ws
  signed_ways us ws h i e = record { order = order; each = each }
    where
      order : roots_met us ≡ roots_met ws
      order = sym (mark_roots bs us (roots_met us)) ∙ ap (map (λ (m : RefMark). m.root)) e
          ∙ mark_roots bs ws (roots_met ws)

      both : (k : ℕ) → has k (way_roots us) ≡ has k (way_roots ws)
      both k = sym (has_once k (way_roots us)) ∙ ap (has k) order ∙ has_once k (way_roots ws)

      each : (k : ℕ) → SameTo us ws k
      each k = here (has k (way_roots us)) refl
        where
          here : (b : Bool) → has k (way_roots us) ≡ b → SameTo us ws k
          here false q = none_to us ws k (none_there k us q) (none_there k ws (sym (both k) ∙ q))
          here true q = mark_same us ws k h i q (sym (both k) ∙ q)
              (same_at (mark bs us) (mark bs ws) (roots_met us) k (has_once k (way_roots us) ∙ q)
              (subst (λ (rs : List ℕ). map (mark bs us) (roots_met us) ≡ map (mark bs ws) rs) (sym order) e))

  -- and where the same is told of the ways, the signature is the same
  pub ways_signed : (us ws : List Way) → SameWays us ws
      → map (mark bs us) (roots_met us) ≡ map (mark bs ws) (roots_met ws)
  ways_signed us ws h = map_same (mark bs us) (mark bs ws) (roots_met us) one ∙ ap (map (mark bs ws)) h.order
    where
      one : (k : ℕ) → mark bs us k ≡ mark bs ws k
      one k =
          let s = h.each k in
          same_made k (nat_le 2 (length (to_root k us))) (nat_le 2 (length (to_root k ws)))
          (in_order (collect gifts k us)) (in_order (collect gifts k ws)) (any_back bs (to_root k us))
          (any_back bs (to_root k ws)) (filter (λ n. has n (collect leads k us)) (roots_met us))
          (filter (λ n. has n (collect leads k ws)) (roots_met ws))
          (sym (many_two (length (to_root k us))) ∙ ap (λ (n : ℕ). nat_le 2 n) s.times
          ∙ many_two (length (to_root k ws)))
          s.gives s.back
          (filter_same (λ n. has n (collect leads k us)) (λ n. has n (collect leads k ws)) (roots_met us) s.led
          ∙ ap (filter (λ n. has n (collect leads k ws))) h.order)

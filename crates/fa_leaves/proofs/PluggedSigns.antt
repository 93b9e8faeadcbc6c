-- The signature of a tree with another in the place of its one reference to a root follows from the signatures of both.
use Rattle.std.proofs.Common.{◌≡◌, inl, inr, ℕ, suc, ◌+◌, Bool, true, false, true≢false, cond, ◌||◌, ◌&&◌, nat_eq}
use Rattle.std.proofs.Common.{if◌then◌else◌}
use Rattle.std.proofs.Common.{length, List, [], ◌∷◌, ◌++◌, map, flat_map, refl, sym, ap, ap₂, subst, ◌∙◌, length-append}
use Rattle.std.proofs.Common.{arith}
use Rattle.std.proofs.lemmas.Bool.{eqb-true, eq-eqb}
use Rattle.fore_base.specs.Lists.{Every}
use Rattle.fa_core.specs.declared.faces.BoxFace.{BoxFace}
use Rattle.fa_core.specs.Rearranged.{in_order}
use Rattle.fa_core.specs.References.{AreAlike, IsNever, IsOnce, to_two}
use Rattle.fa_core.specs.Ways.{Step, Way, to_root, any_back, led_to, has, once, leads_back}
use Rattle.fa_core.proofs.Alike.{both_to_two}
use Rattle.fa_core.proofs.AlikePlaced.{alike_put}
use Rattle.fa_core.proofs.Numbers.{bool_same, has_append, has_cases, has_left, has_right, has_once, once_flat}
use Rattle.fa_core.proofs.PlainWays.{to_often}
use Rattle.fa_core.proofs.Rearranging.{exchange, flat_map-append}
use Rattle.fa_core.proofs.Sorting.{order_same, order_both}
use Rattle.fa_core.proofs.WayParts.{way_roots, collect, IsEdged, HaveEdges}
use Rattle.fa_leaves.proofs.PluggedParts.{Names, stay, gifts_stay, gifts_through, back_stay, back_through, led_stay_all}
use Rattle.fa_leaves.proofs.PluggedParts.{led_through_all}
use Rattle.fa_leaves.proofs.PluggedWays.{put, put_way, through, way_roots_put}
use Rattle.fa_leaves.proofs.SameWays.{gifts, leads, SameTo, SameWays, none_there}

-- Lists.

to_append : (k : ℕ) (us ws : List Way) → to_root k (us ++ ws) ≡ to_root k us ++ to_root k ws
to_append k [] ws = refl
to_append k (u ∷ us) ws = here (nat_eq k u.root) (to_append k us ws)
  where
    here : (b : Bool) → to_root k (us ++ ws) ≡ to_root k us ++ to_root k ws
        → cond b (u ∷ to_root k (us ++ ws)) (to_root k (us ++ ws))
        ≡ cond b (u ∷ to_root k us) (to_root k us) ++ to_root k ws
    here true e = ap (λ (z : List Way). u ∷ z) e
    here false e = e

never_has : (k : ℕ) (ks : List ℕ) → IsNever k ks → has k ks ≡ false
never_has k [] h = refl
never_has k (x ∷ ks) h = let q = h.0 in rw q (never_has k ks h.1)

none_to : (k : ℕ) (us : List Way) → IsNever k (way_roots us) → to_root k us ≡ []
none_to k us h = none_there k us (never_has k (way_roots us) h)

edges_to : (k : ℕ) (us : List Way) → HaveEdges us → HaveEdges (to_root k us)
edges_to k [] h = tt
edges_to k (u ∷ us) h = here (nat_eq k u.root) (edges_to k us h.1)
  where
    here : (b : Bool) → HaveEdges (to_root k us) → HaveEdges (cond b (u ∷ to_root k us) (to_root k us))
    here true e = (h.0, e)
    here false e = e

every_to : (P : Way → Type 0) (k : ℕ) (us : List Way) → Every P us → Every P (to_root k us)
every_to P k [] h = tt
every_to P k (u ∷ us) h = here (nat_eq k u.root) (every_to P k us h.1)
  where
    here : (b : Bool) → Every P (to_root k us) → Every P (cond b (u ∷ to_root k us) (to_root k us))
    here true e = (h.0, e)
    here false e = e

any_append : (bs : List BoxFace) (us ws : List Way) → any_back bs (us ++ ws) ≡ (any_back bs us || any_back bs ws)
any_append bs [] ws = refl
any_append bs (u ∷ us) ws = ap (λ (z : Bool). leads_back bs u.steps || z) (any_append bs us ws)
    ∙ or_assoc (leads_back bs u.steps) (any_back bs us) (any_back bs ws)
  where
    or_assoc : (a b c : Bool) → (a || (b || c)) ≡ ((a || b) || c)
    or_assoc true b c = refl
    or_assoc false b c = refl

or_middle : (a b c : Bool) → (a || (b || c)) ≡ ((a || c) || b)
or_middle true b c = refl
or_middle false true true = refl
or_middle false true false = refl
or_middle false false true = refl
or_middle false false false = refl

or_parts : (a b v w : Bool) → (a || ((v || w) || b)) ≡ ((a || b) || (v || w))
or_parts true b v w = refl
or_parts false b true w = or_true b
  where
    or_true : (b : Bool) → true ≡ (b || true)
    or_true true = refl
    or_true false = refl
or_parts false true false true = refl
or_parts false true false false = refl
or_parts false false false true = refl
or_parts false false false false = refl

flat_has_out : (f : ℕ → List ℕ) (xs : List ℕ) (j : ℕ) → has j (flat_map f xs) ≡ true → (i : ℕ) × (has i xs ≡ true)
    × (has j (f i) ≡ true)
flat_has_out f [] j h = absurd (true≢false (sym h))
flat_has_out f (x ∷ xs) j h = elim (has_cases j (f x) (flat_map f xs) h) [
  | inl k ↦ (x, first x xs, k)
  | inr k ↦ (let m = flat_has_out f xs j k in (m.0, has_right m.0 (x ∷ []) xs m.1, m.2))
]
  where
    first : (x : ℕ) (xs : List ℕ) → has x (x ∷ xs) ≡ true
    first x xs = has_left x (x ∷ []) xs (let e = eq-eqb x x refl in rw e refl)

flat_has_in : (f : ℕ → List ℕ) (xs : List ℕ) (i j : ℕ) → has i xs ≡ true → has j (f i) ≡ true
    → has j (flat_map f xs) ≡ true
flat_has_in f [] i j h k = absurd (true≢false (sym h))
flat_has_in f (x ∷ xs) i j h k = here (nat_eq i x) refl h (λ m. flat_has_in f xs i j m k)
  where
    here : (b : Bool) → nat_eq i x ≡ b → (b || has i xs) ≡ true → (has i xs ≡ true → has j (flat_map f xs) ≡ true)
        → has j (f x ++ flat_map f xs) ≡ true
    here true q h g = has_left j (f x) (flat_map f xs) (subst (λ (n : ℕ). has j (f n) ≡ true) (eqb-true i x q) k)
    here false q h g = has_right j (f x) (flat_map f xs) (g h)

has_flat_same : (f g : ℕ → List ℕ) (xs ys : List ℕ) → ((i j : ℕ) → has j (f i) ≡ has j (g i))
    → ((i : ℕ) → has i xs ≡ has i ys) → (j : ℕ) → has j (flat_map f xs) ≡ has j (flat_map g ys)
has_flat_same f g xs ys h k j = bool_same (has j (flat_map f xs)) (has j (flat_map g ys))
    (λ e. (let m = flat_has_out f xs j e in flat_has_in g ys m.0 j (sym (k m.0) ∙ m.1) (sym (h m.0 j) ∙ m.2)))
    (λ e. (let m = flat_has_out g ys j e in flat_has_in f xs m.0 j (k m.0 ∙ m.1) (h m.0 j ∙ m.2)))

flat_map_same : (f g : ℕ → List ℕ) (xs : List ℕ) → ((k : ℕ) → f k ≡ g k) → flat_map f xs ≡ flat_map g xs
flat_map_same f g [] h = refl
flat_map_same f g (x ∷ xs) h = ap₂ (λ (a b : List ℕ). a ++ b) (h x) (flat_map_same f g xs h)

-- The one way to r.

pub record Split (r : ℕ) (ws : List Way) : Type 0 where
  pub before : List Way
  pub at : Way
  pub after : List Way
  pub is : ws ≡ before ++ (at ∷ after)
  pub here : nat_eq r at.root ≡ true
  pub first : IsNever r (way_roots before)
  pub last : IsNever r (way_roots after)

pub split : (r : ℕ) (ws : List Way) → IsOnce r (way_roots ws) → Split r ws
split r [] h = absurd h
split r (w ∷ ws) (inl h) = record { before = []; at = w; after = ws; is = refl; here = h.0; first = tt; last = h.1 }
split r (w ∷ ws) (inr h) =
    let k = split r ws h.1 in
    record {
      before = w ∷ k.before;
      at = k.at;
      after = k.after;
      is = ap (λ (z : List Way). w ∷ z) k.is;
      here = k.here;
      first = (h.0, k.first);
      last = k.last;
    }

module _ (bs : List BoxFace) (r : ℕ) (vs : List Way) where
  put_never : (ws : List Way) → IsNever r (way_roots ws) → flat_map (put_way r vs) ws ≡ map (stay bs r vs) ws
  put_never [] h = refl
  put_never (w ∷ ws) h = let q = h.0 in rw q (ap (λ (z : List Way). stay bs r vs w ∷ z) (put_never ws h.1))

  put_at : (w : Way) → nat_eq r w.root ≡ true → put_way r vs w ≡ map (through r vs w.steps) vs
  put_at w q = rw q refl

  to_stay : (k : ℕ) (us : List Way) → to_root k (map (stay bs r vs) us) ≡ map (stay bs r vs) (to_root k us)
  to_stay k [] = refl
  to_stay k (u ∷ us) = here (nat_eq k u.root) (to_stay k us)
    where
      here : (b : Bool) → to_root k (map (stay bs r vs) us) ≡ map (stay bs r vs) (to_root k us)
          → cond b (stay bs r vs u ∷ to_root k (map (stay bs r vs) us)) (to_root k (map (stay bs r vs) us))
          ≡ map (stay bs r vs) (cond b (u ∷ to_root k us) (to_root k us))
      here true e = ap (λ (z : List Way). stay bs r vs u ∷ z) e
      here false e = e

  to_through : (k : ℕ) (ss : List Step) (us : List Way)
      → to_root k (map (through r vs ss) us) ≡ map (through r vs ss) (to_root k us)
  to_through k ss [] = refl
  to_through k ss (u ∷ us) = here (nat_eq k u.root) (to_through k ss us)
    where
      here : (b : Bool) → to_root k (map (through r vs ss) us) ≡ map (through r vs ss) (to_root k us)
          → cond b (through r vs ss u ∷ to_root k (map (through r vs ss) us)) (to_root k (map (through r vs ss) us))
          ≡ map (through r vs ss) (cond b (u ∷ to_root k us) (to_root k us))
      here true e = ap (λ (z : List Way). through r vs ss u ∷ z) e
      here false e = e

  map_length : (f : Way → Way) (us : List Way) → length (map f us) ≡ length us
  map_length f [] = refl
  map_length f (u ∷ us) = ap (λ n. suc n) (map_length f us)

  -- what is asked of the ways of both trees
  pub record Fits (ws : List Way) : Type 0 where
    pub one : Split r ws
    pub never : IsNever r (way_roots vs)
    pub edged : HaveEdges vs
    pub at_edged : IsEdged one.at.steps
    pub named : Names r one.at.steps
    pub low : (j : ℕ) → Every (λ (u : Way). has j (led_to bs u.steps) ≡ true → has j (way_roots vs) ≡ true) vs

  module _ (ws : List Way) (h : Fits ws) where
    abbrev A : List Way
    A = h.one.before

    abbrev w : Way
    w = h.one.at

    abbrev B : List Way
    B = h.one.after

    abbrev P : List Way
    P = flat_map (put_way r vs) ws

    parts : P ≡ map (stay bs r vs) A ++ (map (through r vs w.steps) vs ++ map (stay bs r vs) B)
    parts =
        ap (flat_map (put_way r vs)) h.one.is
        ∙ flat_map-append (put_way r vs) A (w ∷ B)
        ∙ ap₂ (λ (x y : List Way). x ++ y) (put_never A h.one.first)
        (ap₂ (λ (x y : List Way). x ++ y) (put_at w h.one.here) (put_never B h.one.last))

    module _ (k : ℕ) where
      abbrev Ak : List Way
      Ak = to_root k A

      abbrev Vk : List Way
      Vk = to_root k vs

      abbrev Bk : List Way
      Bk = to_root k B

      parts_to : to_root k P ≡ map (stay bs r vs) Ak ++ (map (through r vs w.steps) Vk ++ map (stay bs r vs) Bk)
      parts_to =
          ap (to_root k) parts
          ∙ to_append k (map (stay bs r vs) A) (map (through r vs w.steps) vs ++ map (stay bs r vs) B)
          ∙ ap₂ (λ (x y : List Way). x ++ y) (to_stay k A)
          (to_append k (map (through r vs w.steps) vs) (map (stay bs r vs) B)
          ∙ ap₂ (λ (x y : List Way). x ++ y) (to_through k w.steps vs) (to_stay k B))

      old_to : to_root k ws ≡ Ak ++ to_root k (w ∷ B)
      old_to = ap (to_root k) h.one.is ∙ to_append k A (w ∷ B)

    -- to r itself there is the one way before, and none behind
    old_one : to_root r ws ≡ w ∷ []
    old_one = old_to r ∙ ap₂ (λ (x y : List Way). x ++ y) (none_to r A h.one.first)
        (ap (λ (b : Bool). cond b (w ∷ to_root r B) (to_root r B)) h.one.here
        ∙ ap (λ (z : List Way). w ∷ z) (none_to r B h.one.last))

    new_none : to_root r P ≡ []
    new_none = parts_to r
        ∙ ap₂ (λ (x y : List Way). map (stay bs r vs) x ++ y) (none_to r A h.one.first)
        (ap₂ (λ (x y : List Way). map (through r vs w.steps) x ++ map (stay bs r vs) y) (none_to r vs h.never)
        (none_to r B h.one.last))

    module _ (k : ℕ) (apart : nat_eq k r ≡ false) where
      old_both : to_root k ws ≡ Ak k ++ Bk k
      old_both = old_to k ∙ ap (λ (b : Bool). Ak k ++ cond b (w ∷ Bk k) (Bk k))
          (ap (λ (n : ℕ). nat_eq k n) (sym (eqb-true r w.root h.one.here)) ∙ apart)

      pub times_are : length (to_root k P) ≡ length (to_root k ws) + length (to_root k vs)
      times_are =
          let a = ap (λ (z : List Way). length z) (parts_to k) in
          let b = length-append (map (stay bs r vs) (Ak k))
          (map (through r vs w.steps) (Vk k) ++ map (stay bs r vs) (Bk k)) in
          let c = length-append (map (through r vs w.steps) (Vk k)) (map (stay bs r vs) (Bk k)) in
          let d = map_length (stay bs r vs) (Ak k) in
          let e = map_length (through r vs w.steps) (Vk k) in
          let f = map_length (stay bs r vs) (Bk k) in
          let g = ap (λ (z : List Way). length z) old_both in
          let i = length-append (Ak k) (Bk k) in
          omega (arith, a, b, c, d, e, f, g, i)

      pub gives_are : in_order (collect (gifts bs) k P)
          ≡ in_order (in_order (collect (gifts bs) k vs) ++ in_order (collect (gifts bs) k ws))
      gives_are =
          ap (λ (z : List Way). in_order (flat_map (gifts bs) z)) (parts_to k)
          ∙ ap in_order
          (flat_map-append (gifts bs) (map (stay bs r vs) (Ak k))
          (map (through r vs w.steps) (Vk k) ++ map (stay bs r vs) (Bk k))
          ∙ ap₂ (λ (x y : List ℕ). x ++ y) (gifts_stay bs r vs (Ak k))
          (flat_map-append (gifts bs) (map (through r vs w.steps) (Vk k)) (map (stay bs r vs) (Bk k))
          ∙ ap₂ (λ (x y : List ℕ). x ++ y) (gifts_through bs r vs w.steps (Vk k) (edges_to k vs h.edged))
          (gifts_stay bs r vs (Bk k))))
          ∙ order_same (exchange (flat_map (gifts bs) (Ak k)) (flat_map (gifts bs) (Vk k)) (flat_map (gifts bs) (Bk k)))
          ∙ ap (λ (z : List ℕ). in_order (flat_map (gifts bs) (Vk k) ++ z))
          (sym (flat_map-append (gifts bs) (Ak k) (Bk k)) ∙ ap (flat_map (gifts bs)) (sym old_both))
          ∙ order_both (flat_map (gifts bs) (Vk k)) (collect (gifts bs) k ws)

      pub back_is : any_back bs (to_root k P) ≡ (any_back bs
          (to_root k ws) || (any_back bs (to_root r ws) && any_back bs (to_root k vs)))
      back_is =
          ap (any_back bs) (parts_to k)
          ∙ any_append bs (map (stay bs r vs) (Ak k)) (map (through r vs w.steps) (Vk k) ++ map (stay bs r vs) (Bk k))
          ∙ ap₂ (λ (x y : Bool). x || y) (back_stay bs r vs (Ak k))
          (any_append bs (map (through r vs w.steps) (Vk k)) (map (stay bs r vs) (Bk k))
          ∙ ap₂ (λ (x y : Bool). x || y) (back_through bs r vs w.steps (Vk k) h.at_edged (edges_to k vs h.edged))
          (back_stay bs r vs (Bk k)))
          ∙ or_middle (any_back bs (Ak k)) (leads_back bs w.steps && any_back bs (Vk k)) (any_back bs (Bk k))
          ∙ ap₂ (λ (x y : Bool). x || (y && any_back bs (Vk k)))
          (sym (any_append bs (Ak k) (Bk k)) ∙ ap (any_back bs) (sym old_both))
          (sym (or_none (leads_back bs w.steps)) ∙ ap (any_back bs) (sym old_one))
        where
          or_none : (b : Bool) → (b || false) ≡ b
          or_none true = refl
          or_none false = refl

      pub led_are : (j : ℕ) → has j (collect (leads bs) k P)
          ≡ (has j (flat_map (put r vs) (collect (leads bs) k ws))
          || (has j (collect (leads bs) k vs) || (any_back bs (to_root k vs) && has j
          (flat_map (put r vs) (collect (leads bs) r ws)))))
      led_are j =
          ap (λ (z : List Way). has j (flat_map (leads bs) z)) (parts_to k)
          ∙ ap (has j) (flat_map-append (leads bs) (map (stay bs r vs) (Ak k))
          (map (through r vs w.steps) (Vk k) ++ map (stay bs r vs) (Bk k)))
          ∙ has_append j (flat_map (leads bs) (map (stay bs r vs) (Ak k)))
          (flat_map (leads bs) (map (through r vs w.steps) (Vk k) ++ map (stay bs r vs) (Bk k)))
          ∙ ap₂ (λ (x y : Bool). x || y) (ap (has j) (led_stay_all bs r vs (Ak k)))
          (ap (has j) (flat_map-append (leads bs) (map (through r vs w.steps) (Vk k)) (map (stay bs r vs) (Bk k)))
          ∙ has_append j (flat_map (leads bs) (map (through r vs w.steps) (Vk k)))
          (flat_map (leads bs) (map (stay bs r vs) (Bk k)))
          ∙ ap₂ (λ (x y : Bool). x || y)
          (led_through_all bs r vs j w.steps (Vk k) h.named (edges_to k vs h.edged)
          (every_to (λ (u : Way). has j (led_to bs u.steps) ≡ true → has j (way_roots vs) ≡ true) k vs (h.low j)))
          (ap (has j) (led_stay_all bs r vs (Bk k))))
          ∙ or_parts (has j (flat_map (put r vs) (flat_map (leads bs) (Ak k))))
          (has j (flat_map (put r vs) (flat_map (leads bs) (Bk k)))) (has j (flat_map (leads bs) (Vk k)))
          (any_back bs (Vk k) && has j (flat_map (put r vs) (led_to bs w.steps)))
          ∙ ap₂ (λ (x y : Bool). x || (has j (flat_map (leads bs) (Vk k)) || (any_back bs (Vk k) && y))) both behind
        where
          both : (has j (flat_map (put r vs) (flat_map (leads bs) (Ak k))) || has j
              (flat_map (put r vs) (flat_map (leads bs) (Bk k))))
              ≡ has j (flat_map (put r vs) (collect (leads bs) k ws))
          both = sym (has_append j (flat_map (put r vs) (flat_map (leads bs) (Ak k)))
              (flat_map (put r vs) (flat_map (leads bs) (Bk k))))
              ∙ ap (has j) (sym (flat_map-append (put r vs) (flat_map (leads bs) (Ak k)) (flat_map (leads bs) (Bk k)))
              ∙ ap (flat_map (put r vs)) (sym (flat_map-append (leads bs) (Ak k) (Bk k))
              ∙ ap (flat_map (leads bs)) (sym old_both)))

          behind : has j (flat_map (put r vs) (led_to bs w.steps))
              ≡ has j (flat_map (put r vs) (collect (leads bs) r ws))
          behind = ap (λ (z : List ℕ). has j (flat_map (put r vs) z))
              (sym (nothing (led_to bs w.steps)) ∙ ap (flat_map (leads bs)) (sym old_one))
            where
              nothing : (xs : List ℕ) → (xs ++ []) ≡ xs
              nothing [] = refl
              nothing (x ∷ xs) = ap (λ (z : List ℕ). x ∷ z) (nothing xs)

module _ (bs : List BoxFace) (r : ℕ) (vs us : List Way) (same_in : SameWays bs vs us) where
  same_roots : (j : ℕ) → has j (way_roots vs) ≡ has j (way_roots us)
  same_roots j = sym (has_once j (way_roots vs)) ∙ ap (has j) same_in.order ∙ has_once j (way_roots us)

  put_roots : (i j : ℕ) → has j (put r vs i) ≡ has j (put r us i)
  put_roots i j = here (nat_eq r i)
    where
      here : (b : Bool) → has j (way_roots (if b then vs else (record { root = i; steps = [] } ∷ [])))
          ≡ has j (way_roots (if b then us else (record { root = i; steps = [] } ∷ [])))
      here true = same_roots j
      here false = refl

  put_once : (i : ℕ) → once (put r vs i) ≡ once (put r us i)
  put_once i = here (nat_eq r i)
    where
      here : (b : Bool) → once (way_roots (if b then vs else (record { root = i; steps = [] } ∷ [])))
          ≡ once (way_roots (if b then us else (record { root = i; steps = [] } ∷ [])))
      here true = same_in.order
      here false = refl

  module _ (ws xs : List Way) (same : SameWays bs ws xs) (h : Fits bs r vs ws) (g : Fits bs r us xs) where
    abbrev new : List Way
    new = flat_map (put_way r vs) ws

    abbrev other : List Way
    other = flat_map (put_way r us) xs

    alike : AreAlike (way_roots ws) (way_roots xs)
    alike = record {
      order = same.order;
      times = λ k. ap to_two (sym (to_often k ws)) ∙ (same.each k).times ∙ ap to_two (to_often k xs);
    }

    order : once (way_roots new) ≡ once (way_roots other)
    order =
        ap once (way_roots_put r vs ws)
        ∙ sym (once_flat (λ i. once (put r vs i)) (put r vs) (way_roots ws) (λ i. refl) [])
        ∙ ap once (flat_map_same (λ i. once (put r vs i)) (λ i. once (put r us i)) (way_roots ws) put_once)
        ∙ once_flat (λ i. once (put r us i)) (put r us) (way_roots ws) (λ i. refl) []
        ∙ (alike_put (put r us) (way_roots ws) (way_roots xs) alike).order
        ∙ ap once (sym (way_roots_put r us xs))

    led_put : (i j : ℕ) → has j (flat_map (put r vs) (collect (leads bs) i ws))
        ≡ has j (flat_map (put r us) (collect (leads bs) i xs))
    led_put i j = has_flat_same (put r vs) (put r us) (collect (leads bs) i ws) (collect (leads bs) i xs) put_roots
        (same.each i).led j

    each : (k : ℕ) → SameTo bs new other k
    each k = here (nat_eq k r) refl
      where
        here : (b : Bool) → nat_eq k r ≡ b → SameTo bs new other k
        here true q =
            let a : to_root k new ≡ [] = ap (λ (n : ℕ). to_root n new) (eqb-true k r q) ∙ new_none bs r vs ws h in
            let b : to_root k other ≡ [] = ap (λ (n : ℕ). to_root n other) (eqb-true k r q) ∙ new_none bs r us xs g in
            let e = a ∙ sym b in
            record {
              times = ap (λ (z : List Way). to_two (length z)) e;
              gives = ap (λ (z : List Way). in_order (flat_map (gifts bs) z)) e;
              back = ap (any_back bs) e;
              led = λ j. ap (λ (z : List Way). has j (flat_map (leads bs) z)) e;
            }
        here false q =
            let s = same.each k in
            let t = same_in.each k in
            record {
              times = ap to_two (times_are bs r vs ws h k q)
                  ∙ sym (both_to_two (length (to_root k ws)) (length (to_root k vs)))
                  ∙ ap₂ (λ (x y : ℕ). to_two (x + y)) s.times t.times
                  ∙ both_to_two (length (to_root k xs)) (length (to_root k us))
                  ∙ ap to_two (sym (times_are bs r us xs g k q));
              gives = gives_are bs r vs ws h k q
                  ∙ ap₂ (λ (x y : List ℕ). in_order (x ++ y)) t.gives s.gives
                  ∙ sym (gives_are bs r us xs g k q);
              back = back_is bs r vs ws h k q
                  ∙ ap₂ (λ (x y : Bool). x || y) s.back (ap₂ (λ (x y : Bool). x && y) (same.each r).back t.back)
                  ∙ sym (back_is bs r us xs g k q);
              led = λ j. led_are bs r vs ws h k q j
                  ∙ ap₂ (λ (x y : Bool). x || y) (led_put k j)
                  (ap₂ (λ (x y : Bool). x || y) (t.led j) (ap₂ (λ (x y : Bool). x && y) t.back (led_put r j)))
                  ∙ sym (led_are bs r us xs g k q j);
            }

    -- the law on ways: what is told of both is told of what comes of them
    pub plugged_same : SameWays bs new other
    plugged_same = record { order = order; each = each }

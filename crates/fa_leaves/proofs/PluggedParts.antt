-- Ways that go on behind others: what they give, whether they lead back, and where.
use Rattle.std.proofs.Common.{◌≡◌, ℕ, Bool, true, false, true≢false, cond, ◌||◌, ◌&&◌, nat_eq, if◌then◌else◌, List, []}
use Rattle.std.proofs.Common.{◌∷◌, ◌++◌, map, flat_map, refl, sym, ap, ap₂, ◌∙◌}
use Rattle.fore_base.specs.Lists.{Every}
use Rattle.fa_core.specs.declared.faces.BoxFace.{BoxFace}
use Rattle.fa_core.specs.Ways.{Step, Way, any_back, is_back, all_back, leads_back, led_to, given, has}
use Rattle.fa_core.proofs.Numbers.{has_append, has_left, has_right}
use Rattle.fa_core.proofs.Rearranging.{flat_map-append}
use Rattle.fa_core.proofs.WayParts.{way_roots, IsEdged, HaveEdges}
use Rattle.fa_leaves.proofs.PluggedWays.{put, put_step, through}
use Rattle.fa_leaves.proofs.SameWays.{gifts, leads}

-- the root is named at each step
abbrev pub Names : ℕ → List Step → Type 0
Names r ss = Every (λ (s : Step). has r s.refers ≡ true) ss

and_assoc : (a b c : Bool) → (a && (b && c)) ≡ ((a && b) && c)
and_assoc true b c = refl
and_assoc false b c = refl

and_true : (a : Bool) → (a && true) ≡ a
and_true true = refl
and_true false = refl

and_false : (a : Bool) → (a && false) ≡ false
and_false true = refl
and_false false = refl

or_false : (a : Bool) → (a || false) ≡ a
or_false true = refl
or_false false = refl

or_absorb : (x y : Bool) → (x ≡ true → y ≡ true) → y ≡ (x || y)
or_absorb true y h = h refl
or_absorb false y h = refl

and_or : (x a b : Bool) → ((x && a) || (x && b)) ≡ (x && (a || b))
and_or true a b = refl
and_or false a b = refl

shuffle : (x y a b f : Bool) → ((x || (a && f)) || (y || (b && f))) ≡ ((x || y) || ((a || b) && f))
shuffle true y a b f = refl
shuffle false true true b true = refl
shuffle false true true b false = refl
shuffle false true false b f = refl
shuffle false false true b true = refl
shuffle false false true true false = refl
shuffle false false true false false = refl
shuffle false false false b f = refl

edged_behind : (xs us : List Step) → IsEdged us → IsEdged (xs ++ us)
edged_behind [] us h = h
edged_behind (x ∷ xs) us h = tt

module _ (bs : List BoxFace) (r : ℕ) (vs : List Way) where
  -- a way that does not go on
  abbrev pub stay : Way → Way
  stay w = record { root = w.root; steps = map (put_step r vs) w.steps ++ [] }

  all_behind : (ss us : List Step) → all_back bs (map (put_step r vs) ss ++ us) ≡ (all_back bs ss && all_back bs us)
  all_behind [] us = refl
  all_behind (s ∷ ss) us = ap (λ (z : Bool). is_back bs s.slot && z) (all_behind ss us)
      ∙ and_assoc (is_back bs s.slot) (all_back bs ss) (all_back bs us)

  all_stay : (ss : List Step) → all_back bs (map (put_step r vs) ss ++ []) ≡ all_back bs ss
  all_stay ss = all_behind ss [] ∙ and_true (all_back bs ss)

  -- What is given.

  given_below : (x : Step) (ss : List Step) → IsEdged ss → given bs (x ∷ ss) ≡ given bs ss
  given_below x [] h = absurd h
  given_below x (y ∷ ss) h = refl

  given_behind : (ss us : List Step) → IsEdged us → given bs (map (put_step r vs) ss ++ us) ≡ given bs us
  given_behind [] us h = refl
  given_behind (s ∷ ss) us h = given_below (put_step r vs s) (map (put_step r vs) ss ++ us)
      (edged_behind (map (put_step r vs) ss) us h) ∙ given_behind ss us h

  given_stay : (ss : List Step) → given bs (map (put_step r vs) ss ++ []) ≡ given bs ss
  given_stay [] = refl
  given_stay (s ∷ []) = refl
  given_stay (s ∷ t ∷ ss) = given_stay (t ∷ ss)

  pub gifts_stay : (us : List Way) → flat_map (gifts bs) (map stay us) ≡ flat_map (gifts bs) us
  gifts_stay [] = refl
  gifts_stay (u ∷ us) = ap₂ (λ (x y : List ℕ). x ++ y) (given_stay u.steps) (gifts_stay us)

  pub gifts_through : (ss : List Step) (us : List Way) → HaveEdges us
      → flat_map (gifts bs) (map (through r vs ss) us) ≡ flat_map (gifts bs) us
  gifts_through ss [] h = refl
  gifts_through ss (u ∷ us) h = ap₂ (λ (x y : List ℕ). x ++ y) (given_behind ss u.steps h.0) (gifts_through ss us h.1)

  -- Whether they lead back.

  leads_stay : (ss : List Step) → leads_back bs (map (put_step r vs) ss ++ []) ≡ leads_back bs ss
  leads_stay [] = refl
  leads_stay (s ∷ ss) = all_stay (s ∷ ss)

  leads_behind : (ss us : List Step) → IsEdged ss → IsEdged us
      → leads_back bs (map (put_step r vs) ss ++ us) ≡ (leads_back bs ss && leads_back bs us)
  leads_behind [] us h k = absurd h
  leads_behind (s ∷ ss) [] h k = absurd k
  leads_behind (s ∷ ss) (u ∷ us) h k = all_behind (s ∷ ss) (u ∷ us)

  pub back_stay : (us : List Way) → any_back bs (map stay us) ≡ any_back bs us
  back_stay [] = refl
  back_stay (u ∷ us) = ap₂ (λ (x y : Bool). x || y) (leads_stay u.steps) (back_stay us)

  pub back_through : (ss : List Step) (us : List Way) → IsEdged ss → HaveEdges us
      → any_back bs (map (through r vs ss) us) ≡ (leads_back bs ss && any_back bs us)
  back_through ss [] h k = sym (and_false (leads_back bs ss))
  back_through ss (u ∷ us) h k = ap₂ (λ (x y : Bool). x || y) (leads_behind ss u.steps h k.0)
      (back_through ss us h k.1) ∙ and_or (leads_back bs ss) (leads_back bs u.steps) (any_back bs us)

  -- Where they lead.

  led_stay : (ss : List Step) → led_to bs (map (put_step r vs) ss ++ []) ≡ flat_map (put r vs) (led_to bs ss)
  led_stay [] = refl
  led_stay (s ∷ ss) = ap (λ (b : Bool). cond b (flat_map (put r vs) s.refers)
      (led_to bs (map (put_step r vs) ss ++ []))) (all_stay (s ∷ ss)) ∙ here (led_stay ss) (all_back bs (s ∷ ss))
    where
      here : led_to bs (map (put_step r vs) ss ++ []) ≡ flat_map (put r vs) (led_to bs ss) → (b : Bool)
          → cond b (flat_map (put r vs) s.refers) (led_to bs (map (put_step r vs) ss ++ []))
          ≡ flat_map (put r vs) (cond b s.refers (led_to bs ss))
      here e true = refl
      here e false = e

  pub led_stay_all : (us : List Way) → flat_map (leads bs) (map stay us) ≡ flat_map (put r vs) (flat_map (leads bs) us)
  led_stay_all [] = refl
  led_stay_all (u ∷ us) = ap₂ (λ (x y : List ℕ). x ++ y) (led_stay u.steps) (led_stay_all us)
      ∙ sym (flat_map-append (put r vs) (led_to bs u.steps) (flat_map (leads bs) us))

  -- where r is named, so is each root of the ways that come in its place
  in_put : (j : ℕ) (ks : List ℕ) → has r ks ≡ true → has j (way_roots vs) ≡ true → has j (flat_map (put r vs) ks) ≡ true
  in_put j [] h g = absurd (true≢false (sym h))
  in_put j (k ∷ ks) h g = here (nat_eq r k) h (λ i. in_put j ks i g)
    where
      here : (b : Bool) → (b || has r ks) ≡ true → (has r ks ≡ true → has j (flat_map (put r vs) ks) ≡ true)
          → has j (map (λ (w : Way). w.root) (if b then vs else (record { root = k; steps = [] } ∷ [])) ++ flat_map
          (put r vs) ks) ≡ true
      here true h f = has_left j (way_roots vs) (flat_map (put r vs) ks) g
      here false h f = has_right j (k ∷ []) (flat_map (put r vs) ks) (f h)

  module _ (j : ℕ) where
    led_behind : (us : List Step) → (has j (led_to bs us) ≡ true → has j (way_roots vs) ≡ true) → (ss : List Step)
        → Names r ss
        → has j (led_to bs (map (put_step r vs) ss ++ us))
        ≡ (has j (led_to bs us) || (all_back bs us && has j (flat_map (put r vs) (led_to bs ss))))
    led_behind us low [] h = sym (ap (λ (z : Bool). has j (led_to bs us) || z) (and_false (all_back bs us))
        ∙ or_false (has j (led_to bs us)))
    led_behind us low (s ∷ ss) h =
        ap (λ (b : Bool). has j (cond b (flat_map (put r vs) s.refers) (led_to bs (map (put_step r vs) ss ++ us))))
        (all_behind (s ∷ ss) us)
        ∙ here (all_back bs (s ∷ ss)) (all_back bs us) (led_behind us low ss h.1)
      where
        here : (a c : Bool) → has j (led_to bs (map (put_step r vs) ss ++ us))
            ≡ (has j (led_to bs us) || (c && has j (flat_map (put r vs) (led_to bs ss))))
            → has j (cond (a && c) (flat_map (put r vs) s.refers) (led_to bs (map (put_step r vs) ss ++ us)))
            ≡ (has j (led_to bs us) || (c && has j (flat_map (put r vs) (cond a s.refers (led_to bs ss)))))
        here true true e = or_absorb (has j (led_to bs us)) (has j (flat_map (put r vs) s.refers))
            (λ k. in_put j s.refers h.0 (low k))
        here true false e = e
        here false c e = e

    edged_leads : (ss : List Step) → IsEdged ss → all_back bs ss ≡ leads_back bs ss
    edged_leads [] h = absurd h
    edged_leads (s ∷ ss) h = refl

    pub led_through_all : (ss : List Step) (us : List Way) → Names r ss → HaveEdges us
        → Every (λ (u : Way). has j (led_to bs u.steps) ≡ true → has j (way_roots vs) ≡ true) us
        → has j (flat_map (leads bs) (map (through r vs ss) us))
        ≡ (has j (flat_map (leads bs) us) || (any_back bs us && has j (flat_map (put r vs) (led_to bs ss))))
    led_through_all ss [] n h low = refl
    led_through_all ss (u ∷ us) n h low =
        has_append j (led_to bs (map (put_step r vs) ss ++ u.steps)) (flat_map (leads bs) (map (through r vs ss) us))
        ∙ ap₂ (λ (x y : Bool). x || y)
        (led_behind u.steps low.0 ss n ∙ ap (λ (z : Bool). has j
        (led_to bs u.steps) || (z && has j (flat_map (put r vs) (led_to bs ss)))) (edged_leads u.steps h.0))
        (led_through_all ss us n h.1 low.1)
        ∙ shuffle (has j (led_to bs u.steps)) (has j (flat_map (leads bs) us)) (leads_back bs u.steps) (any_back bs us)
        (has j (flat_map (put r vs) (led_to bs ss)))
        ∙ ap (λ (z : Bool). z || ((leads_back bs u.steps || any_back bs us) && has j
        (flat_map (put r vs) (led_to bs ss)))) (sym (has_append j (led_to bs u.steps) (flat_map (leads bs) us)))

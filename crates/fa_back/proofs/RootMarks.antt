-- Marks of roots in the signatures of trees: a root is marked exactly where the tree refers to it, and its mark says
-- what the ways to it say.
use Rattle.std.proofs.Common.{◌≡◌, inl, inr, ℕ, Bool, true, false, true≢false, cond, nat_eq}
use Rattle.std.proofs.Common.{List, [], ◌∷◌, flat_map, refl, sym, ap, subst, ◌∙◌}
use Rattle.std.proofs.lemmas.Bool.{and_from, and_parts, eqb-true, eq-eqb}
use Rattle.fore_base.specs.Lists.{IsIn}
use Rattle.fore_base.proofs.ListLemmas.{in_left, in_right, in_append, in_map, in_mapped}
use Rattle.ta_core.specs.declared.tree.Tree.{Tree}
use Rattle.fa_core.specs.declared.faces.BoxFace.{BoxFace}
use Rattle.fa_core.specs.declared.signature.RefMark.{RefMark}
use Rattle.fa_core.specs.Canonical.{RefersTo}
use Rattle.fa_core.specs.Ways.{Way, ways, to_root, has, once, any_back, leads_back, led_to, roots_met, mark, signature}
use Rattle.fa_core.proofs.Numbers.{has_once, has_filter, or_left, or_right, or_cases}
use Rattle.fa_core.proofs.WayParts.{way_roots, tree_in, collect_in}

-- Numbers in lists, by the test and by the fact.

pub in_has : (n : ℕ) (xs : List ℕ) → IsIn n xs → has n xs ≡ true
in_has n [] h = absurd h
in_has n (x ∷ xs) (inl e) = or_left (nat_eq n x) (has n xs) (eq-eqb n x e)
in_has n (x ∷ xs) (inr h) = or_right (nat_eq n x) (has n xs) (in_has n xs h)

pub has_in : (n : ℕ) (xs : List ℕ) → has n xs ≡ true → IsIn n xs
has_in n [] h = absurd (true≢false (sym h))
has_in n (x ∷ xs) h = elim (or_cases (nat_eq n x) (has n xs) h)
    [ inl e ↦ inl (eqb-true n x e) | inr k ↦ inr (has_in n xs k) ]

pub in_once : (n : ℕ) (xs : List ℕ) → IsIn n xs → IsIn n (once xs)
in_once n xs h = has_in n (once xs) (has_once n xs ∙ in_has n xs h)

pub once_in : (n : ℕ) (xs : List ℕ) → IsIn n (once xs) → IsIn n xs
once_in n xs h = has_in n xs (sym (has_once n xs) ∙ in_has n (once xs) h)

pub in_flat : {X : Type 0} {Y : Type 0} (f : X → List Y) (xs : List X) (x : X) (y : Y) → IsIn x xs → IsIn y (f x)
    → IsIn y (flat_map f xs)
in_flat f [] x y i j = absurd i
in_flat f (z ∷ xs) x y (inl e) j = in_left y (f z) (flat_map f xs) (subst (λ (w : _). IsIn y (f w)) e j)
in_flat f (z ∷ xs) x y (inr i) j = in_right y (f z) (flat_map f xs) (in_flat f xs x y i j)

pub flat_in : {X : Type 0} {Y : Type 0} (f : X → List Y) (xs : List X) (y : Y) → IsIn y (flat_map f xs) → (x : X)
    × IsIn x xs × IsIn y (f x)
flat_in f [] y h = absurd h
flat_in f (x ∷ xs) y h = elim (in_append y (f x) (flat_map f xs) h) [
  | inl i ↦ (x, inl refl, i)
  | inr i ↦ (let k = flat_in f xs y i in (k.0, inr k.1, k.2))
]

-- The ways that end at a root.

pub in_to_root : (i : ℕ) (ws : List Way) (w : Way) → IsIn w ws → w.root ≡ i → IsIn w (to_root i ws)
in_to_root i [] w h e = absurd h
in_to_root i (v ∷ ws) w (inl q) e =
    let t : nat_eq i v.root ≡ true = eq-eqb i v.root (sym e ∙ ap (λ (z : Way). z.root) q) in
    subst (λ (b : Bool). IsIn w (cond b (v ∷ to_root i ws) (to_root i ws))) (sym t) (inl q)
in_to_root i (v ∷ ws) w (inr h) e = here (nat_eq i v.root) (in_to_root i ws w h e)
  where
    here : (b : Bool) → IsIn w (to_root i ws) → IsIn w (cond b (v ∷ to_root i ws) (to_root i ws))
    here true k = inr k
    here false k = k

pub to_root_in : (i : ℕ) (ws : List Way) (w : Way) → IsIn w (to_root i ws) → IsIn w ws × (w.root ≡ i)
to_root_in i [] w h = absurd h
to_root_in i (v ∷ ws) w h = here (nat_eq i v.root) refl h (to_root_in i ws w)
  where
    here : (b : Bool) → nat_eq i v.root ≡ b → IsIn w (cond b (v ∷ to_root i ws) (to_root i ws))
        → (IsIn w (to_root i ws) → IsIn w ws × (w.root ≡ i)) → IsIn w (v ∷ ws) × (w.root ≡ i)
    here true e (inl q) k = (inl q, ap (λ (z : Way). z.root) q ∙ sym (eqb-true i v.root e))
    here true e (inr h) k = (inr (k h).0, (k h).1)
    here false e h k = (inr (k h).0, (k h).1)

module _ (bs : List BoxFace) where
  pub back_any : (ws : List Way) (w : Way) → IsIn w ws → leads_back bs w.steps ≡ true → any_back bs ws ≡ true
  back_any [] w h e = absurd h
  back_any (v ∷ ws) w (inl q) e =
      or_left (leads_back bs v.steps) (any_back bs ws) (subst (λ (z : Way). leads_back bs z.steps ≡ true) q e)
  back_any (v ∷ ws) w (inr h) e = or_right (leads_back bs v.steps) (any_back bs ws) (back_any ws w h e)

  pub any_of_back : (ws : List Way) → any_back bs ws ≡ true → (w : Way) × IsIn w ws × (leads_back bs w.steps ≡ true)
  any_of_back [] h = absurd (true≢false (sym h))
  any_of_back (v ∷ ws) h = elim (or_cases (leads_back bs v.steps) (any_back bs ws) h) [
    | inl e ↦ (v, inl refl, e)
    | inr k ↦ (let r = any_of_back ws k in (r.0, inr r.1, r.2))
  ]

  -- the mark of a root to which a tree refers
  pub mark_in : (t : Tree) (r : ℕ) → RefersTo t r → IsIn (mark bs (ways t) r) (signature bs t)
  mark_in t r h = in_map (mark bs (ways t)) r (roots_met (ways t)) (in_once r (way_roots (ways t)) h)

  pub in_mark : (t : Tree) (m : RefMark) → IsIn m (signature bs t) → (r : ℕ) × RefersTo t r × (m ≡ mark bs (ways t) r)
  in_mark t m h = let k = in_mapped (mark bs (ways t)) m (roots_met (ways t)) h in
      (k.0, once_in k.0 (way_roots (ways t)) k.1, k.2)

  -- the roots to which ways back from the root lead
  abbrev pub led : Tree → ℕ → List ℕ
  led t i = flat_map (λ (w : Way). led_to bs w.steps) (to_root i (ways t))

  pub way_led : (t : Tree) (i r : ℕ) (w : Way) → IsIn w (ways t) → w.root ≡ i → IsIn r (led_to bs w.steps)
      → IsIn r (led t i)
  way_led t i r w h e j =
      in_flat (λ (v : Way). led_to bs v.steps) (to_root i (ways t)) w r (in_to_root i (ways t) w h e) j

  pub led_way : (t : Tree) (i r : ℕ) → IsIn r (led t i) → (w : Way) × IsIn w (ways t) × (w.root ≡ i)
      × IsIn r (led_to bs w.steps)
  led_way t i r h =
      let k = flat_in (λ (v : Way). led_to bs v.steps) (to_root i (ways t)) r h in
      let j = to_root_in i (ways t) k.0 k.1 in
      (k.0, j.0, j.1, k.2)

  pub reach_in_mark : (t : Tree) (i r : ℕ) → IsIn r (led t i) → IsIn r (mark bs (ways t) i).reach
  reach_in_mark t i r j =
      let there : has r (led t i) ≡ true = in_has r (led t i) j in
      let met : has r (roots_met (ways t)) ≡ true = has_once r (way_roots (ways t))
      ∙ collect_in bs (way_roots (ways t)) i (ways t) (tree_in t) r there in
      has_in r (mark bs (ways t) i).reach
      (has_filter r (λ (n : ℕ). has n (led t i)) (roots_met (ways t))
      ∙ and_from (has r (roots_met (ways t))) (has r (led t i)) met there)

  both_marked : (t : Tree) (i r : ℕ) → IsIn r (mark bs (ways t) i).reach
      → (has r (roots_met (ways t)) ≡ true) × (has r (led t i) ≡ true)
  both_marked t i r h = and_parts (has r (roots_met (ways t))) (has r (led t i))
      (sym (has_filter r (λ (n : ℕ). has n (led t i)) (roots_met (ways t))) ∙ in_has r (mark bs (ways t) i).reach h)

  pub mark_in_reach : (t : Tree) (i r : ℕ) → IsIn r (mark bs (ways t) i).reach → IsIn r (led t i)
  mark_in_reach t i r h = has_in r (led t i) (both_marked t i r h).1

  -- a root to which a way back leads is one to which the tree refers
  pub reach_refers : (t : Tree) (i r : ℕ) → IsIn r (mark bs (ways t) i).reach → RefersTo t r
  reach_refers t i r h = once_in r (way_roots (ways t)) (has_in r (roots_met (ways t)) (both_marked t i r h).0)

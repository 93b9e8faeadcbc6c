-- Other leaves in the place of references keep signatures uniform, box edges or none, where no two roots become one:
-- new numbers, a dropped root, lower numbers.
use Rattle.std.proofs.Common.{◌≡◌, ◌⊎◌, inl, inr, ℕ, suc, Bool, true, false, true≢false, cond, ◌||◌, ◌&&◌, nat_eq}
use Rattle.std.proofs.Common.{nat_le, length, List, [], ◌∷◌, ◌++◌, map, filter, flat_map, refl, sym, ap, ap₂, subst}
use Rattle.std.proofs.Common.{◌∙◌, arith}
use Rattle.std.proofs.lemmas.Bool.{eqb-true, eq-eqb}
use Rattle.ta_core.specs.Auto.{Automaton, IsRanked}
use Rattle.ta_core.specs.Language.{RunOf}
use Rattle.ta_core.specs.declared.tree.Tree.{Tree}
use Rattle.fa_core.specs.declared.faces.BoxFace.{BoxFace}
use Rattle.fa_core.specs.declared.faces.Face.{Face}
use Rattle.fa_core.specs.declared.forest.Target.{Target}
use Rattle.fa_core.specs.declared.forest.Target.TheVariants.{Null, Uninit, Dangling, At}
use Rattle.fa_core.specs.declared.signature.RefMark.{RefMark}
use Rattle.fa_core.specs.Dressed.{End, leaf_refs}
use Rattle.fa_core.specs.Filled.{RulesFit, HasSignatures}
use Rattle.fa_core.specs.Member.{bare_end}
use Rattle.fa_core.specs.Placed.{placed_rule, placed_auto}
use Rattle.fa_core.specs.Rearranged.{in_order}
use Rattle.fa_core.specs.Ways.{Step, Way, ways, to_root, any_back, is_back, all_back, leads_back, led_to, given, has}
use Rattle.fa_core.specs.Ways.{once_from, once, roots_met, mark, signature}
use Rattle.fa_core.proofs.Dressing.{dress}
use Rattle.fa_core.proofs.NodeRuns.{end_bare, bare_of_end}
use Rattle.fa_core.proofs.Numbers.{has_append}
use Rattle.fa_core.proofs.Placing.{end_from, placed_ranked, placed_fit}
use Rattle.fa_core.proofs.Rearranging.{flat_map-append}
use Rattle.fa_core.proofs.WaysOf.{map-append}
use Rattle.fa_leaves.specs.Leaves.{AreApart}
use Rattle.fa_leaves.proofs.Hollow.{hollow_table, rules_hollow}
use Rattle.fa_leaves.proofs.MovedWays.{put, put_step, way_to, put_way, end_put}

abbrev at_number : Target → ℕ
at_number Null = 0
at_number Uninit = 0
at_number Dangling = 0
at_number (At k) = k

or_false : (b : Bool) → (b || false) ≡ b
or_false true = refl
or_false false = refl

same_bool : (a b : Bool) → (a ≡ true → b ≡ true) → (b ≡ true → a ≡ true) → a ≡ b
same_bool true true f g = refl
same_bool false false f g = refl
same_bool true false f g = sym (f refl)
same_bool false true f g = g refl

not_empty : (j : ℕ) → j ∷ [] ≡ [] → ⊥
not_empty j e = let z : 1 ≡ 0 = ap length e in omega (arith, z)

module _ (f : ℕ → Target) (apart : AreApart f) (bs : List BoxFace) where
  at_or : (k : ℕ) → ((j : ℕ) × (f k ≡ At j)) ⊎ (put f k ≡ [])
  at_or k = here (f k) refl
    where
      here : (t : Target) → f k ≡ t → ((j : ℕ) × (f k ≡ At j)) ⊎ (leaf_refs (f k) ≡ [])
      here Null e = inr (ap leaf_refs e)
      here Uninit e = inr (ap leaf_refs e)
      here Dangling e = inr (ap leaf_refs e)
      here (At j) e = inl (j, e)

  eq_put : (k l j i : ℕ) → f k ≡ At j → f l ≡ At i → nat_eq j i ≡ nat_eq k l
  eq_put k l j i e d = same_bool (nat_eq j i) (nat_eq k l)
      (λ h. eq-eqb k l (apart k l j e (d ∙ ap At (sym (eqb-true j i h)))))
      (λ h. eq-eqb j i (ap at_number (sym e ∙ ap f (eqb-true k l h) ∙ d)))

  not_put : (k l j : ℕ) → f k ≡ At j → put f l ≡ [] → nat_eq k l ≡ false
  not_put k l j e n = same_bool (nat_eq k l) false
      (λ h. absurd (not_empty j (sym (ap leaf_refs e) ∙ ap (put f) (eqb-true k l h) ∙ n)))
      (λ h. absurd (true≢false (sym h)))

  to_put : (k j : ℕ) → f k ≡ At j → (ws : List Way)
      → to_root j (flat_map (put_way f) ws) ≡ map (λ w. way_to f w.steps j) (to_root k ws)
  to_put k j e [] = refl
  to_put k j e (w ∷ ws) = here (to_put k j e ws) (at_or w.root)
    where
      rest : List Way
      rest = flat_map (put_way f) ws

      here : to_root j (flat_map (put_way f) ws) ≡ map (λ w. way_to f w.steps j) (to_root k ws)
          → ((i : ℕ) × (f w.root ≡ At i)) ⊎ (put f w.root ≡ [])
          → to_root j (put_way f w ++ flat_map (put_way f) ws)
          ≡ map (λ w. way_to f w.steps j) (cond (nat_eq k w.root) (w ∷ to_root k ws) (to_root k ws))
      here h (inl (i, d)) =
          subst (λ (ks : List ℕ). to_root j (map (way_to f w.steps) ks ++ flat_map (put_way f) ws)
          ≡ map (λ w. way_to f w.steps j) (cond (nat_eq k w.root) (w ∷ to_root k ws) (to_root k ws)))
          (sym (ap leaf_refs d))
          (by (nat_eq j i) refl (sym (eq_put k w.root j i e d)))
        where
          by : (b : Bool) → nat_eq j i ≡ b → nat_eq k w.root ≡ nat_eq j i
              → cond (nat_eq j i) (way_to f w.steps i ∷ to_root j (flat_map (put_way f) ws))
              (to_root j (flat_map (put_way f) ws)) ≡ map (λ w. way_to f w.steps j)
              (cond (nat_eq k w.root) (w ∷ to_root k ws) (to_root k ws))
          by true x y = let z = y ∙ x in rw (x, z) (ap₂ (λ (n : ℕ) (v : List Way). way_to f w.steps n ∷ v)
              (sym (eqb-true j i x)) h)
          by false x y = let z = y ∙ x in rw (x, z) h
      here h (inr n) =
          subst (λ (ks : List ℕ). to_root j (map (way_to f w.steps) ks ++ flat_map (put_way f) ws)
          ≡ map (λ w. way_to f w.steps j) (cond (nat_eq k w.root) (w ∷ to_root k ws) (to_root k ws))) (sym n)
          (let z = not_put k w.root j e n in rw z h)

  all_put : (ss : List Step) → all_back bs (map (put_step f) ss) ≡ all_back bs ss
  all_put [] = refl
  all_put (s ∷ ss) = ap (λ (z : Bool). is_back bs s.slot && z) (all_put ss)

  back_put : (ss : List Step) → leads_back bs (map (put_step f) ss) ≡ leads_back bs ss
  back_put [] = refl
  back_put (s ∷ ss) = all_put (s ∷ ss)

  given_put : (ss : List Step) → given bs (map (put_step f) ss) ≡ given bs ss
  given_put [] = refl
  given_put (s ∷ []) = refl
  given_put (s ∷ t ∷ ss) = given_put (t ∷ ss)

  led_put : (ss : List Step) → led_to bs (map (put_step f) ss) ≡ flat_map (put f) (led_to bs ss)
  led_put [] = refl
  led_put (s ∷ ss) = ap (λ (b : Bool). cond b (flat_map (put f) s.refers) (led_to bs (map (put_step f) ss)))
      (all_put (s ∷ ss)) ∙ here (led_put ss) (all_back bs (s ∷ ss))
    where
      here : led_to bs (map (put_step f) ss) ≡ flat_map (put f) (led_to bs ss) → (b : Bool)
          → cond b (flat_map (put f) s.refers) (led_to bs (map (put_step f) ss))
          ≡ flat_map (put f) (cond b s.refers (led_to bs ss))
      here e true = refl
      here e false = e

  has_one : (r j x : ℕ) → f r ≡ At j → has j (put f x) ≡ nat_eq r x
  has_one r j x e = elim (at_or x) [
    | inl d ↦ ap (λ (ks : List ℕ). has j ks) (ap leaf_refs d.1) ∙ or_false (nat_eq j d.0) ∙ eq_put r x j d.0 e d.1
    | inr n ↦ ap (λ (ks : List ℕ). has j ks) n ∙ sym (not_put r x j e n)
  ]

  has_put : (r j : ℕ) → f r ≡ At j → (l : List ℕ) → has j (flat_map (put f) l) ≡ has r l
  has_put r j e [] = refl
  has_put r j e (x ∷ l) = has_append j (put f x) (flat_map (put f) l)
      ∙ ap₂ (λ (a b : Bool). a || b) (has_one r j x e) (has_put r j e l)

  once_put : (s xs : List ℕ) → once_from (flat_map (put f) s) (flat_map (put f) xs) ≡ flat_map (put f) (once_from s xs)
  once_put s [] = refl
  once_put s (x ∷ xs) = here (once_put s xs) (once_put (x ∷ s) xs) (at_or x) (has x s) refl
    where
      here : once_from (flat_map (put f) s) (flat_map (put f) xs) ≡ flat_map (put f) (once_from s xs)
          → once_from (put f x ++ flat_map (put f) s) (flat_map (put f) xs) ≡ flat_map (put f) (once_from (x ∷ s) xs)
          → ((i : ℕ) × (f x ≡ At i)) ⊎ (put f x ≡ []) → (b : Bool) → has x s ≡ b
          → once_from (flat_map (put f) s) (put f x ++ flat_map (put f) xs)
          ≡ flat_map (put f) (cond b (once_from s xs) (x ∷ once_from (x ∷ s) xs))
      here p q (inr n) true e = subst (λ (ks : List ℕ). once_from (flat_map (put f) s) (ks ++ flat_map (put f) xs)
          ≡ flat_map (put f) (once_from s xs)) (sym n) p
      here p q (inr n) false e =
          subst (λ (ks : List ℕ). once_from (flat_map (put f) s) (ks ++ flat_map (put f) xs)
          ≡ ks ++ flat_map (put f) (once_from (x ∷ s) xs)) (sym n)
          (subst (λ (ks : List ℕ). once_from (ks ++ flat_map (put f) s) (flat_map (put f) xs)
          ≡ flat_map (put f) (once_from (x ∷ s) xs)) n q)
      here p q (inl (i, d)) true e =
          let h : has i (flat_map (put f) s) ≡ true = has_put x i d s ∙ e in
          subst (λ (ks : List ℕ). once_from (flat_map (put f) s) (ks ++ flat_map (put f) xs)
          ≡ flat_map (put f) (once_from s xs)) (sym (ap leaf_refs d)) (rw h p)
      here p q (inl (i, d)) false e =
          let h : has i (flat_map (put f) s) ≡ false = has_put x i d s ∙ e in
          let q' : once_from (i ∷ flat_map (put f) s) (flat_map (put f) xs) ≡ flat_map (put f) (once_from (x ∷ s) xs) =
          subst (λ (ks : List ℕ). once_from (ks ++ flat_map (put f) s) (flat_map (put f) xs)
          ≡ flat_map (put f) (once_from (x ∷ s) xs)) (ap leaf_refs d) q in
          subst (λ (ks : List ℕ). once_from (flat_map (put f) s) (ks ++ flat_map (put f) xs)
          ≡ ks ++ flat_map (put f) (once_from (x ∷ s) xs)) (sym (ap leaf_refs d))
          (rw h (ap (λ (z : List ℕ). i ∷ z) q'))

  filter_put : (l rs : List ℕ) → filter (λ n. has n (flat_map (put f) l)) (flat_map (put f) rs)
      ≡ flat_map (put f) (filter (λ n. has n l) rs)
  filter_put l [] = refl
  filter_put l (r ∷ rs) = here (filter_put l rs) (at_or r) (has r l) refl
    where
      here : filter (λ n. has n (flat_map (put f) l)) (flat_map (put f) rs)
          ≡ flat_map (put f) (filter (λ n. has n l) rs) → ((i : ℕ) × (f r ≡ At i)) ⊎ (put f r ≡ []) → (b : Bool)
          → has r l ≡ b
          → filter (λ n. has n (flat_map (put f) l)) (put f r ++ flat_map (put f) rs)
          ≡ flat_map (put f) (cond b (r ∷ filter (λ n. has n l) rs) (filter (λ n. has n l) rs))
      here p (inr n) true e = subst (λ (ks : List ℕ). filter (λ m. has m (flat_map (put f) l))
          (ks ++ flat_map (put f) rs) ≡ ks ++ flat_map (put f) (filter (λ m. has m l) rs)) (sym n) p
      here p (inr n) false e = subst (λ (ks : List ℕ). filter (λ m. has m (flat_map (put f) l))
          (ks ++ flat_map (put f) rs) ≡ flat_map (put f) (filter (λ m. has m l) rs)) (sym n) p
      here p (inl (i, d)) true e =
          let h : has i (flat_map (put f) l) ≡ true = has_put r i d l ∙ e in
          subst (λ (ks : List ℕ). filter (λ m. has m (flat_map (put f) l)) (ks ++ flat_map (put f) rs)
          ≡ ks ++ flat_map (put f) (filter (λ m. has m l) rs)) (sym (ap leaf_refs d))
          (rw h (ap (λ (z : List ℕ). i ∷ z) p))
      here p (inl (i, d)) false e =
          let h : has i (flat_map (put f) l) ≡ false = has_put r i d l ∙ e in
          subst (λ (ks : List ℕ). filter (λ m. has m (flat_map (put f) l)) (ks ++ flat_map (put f) rs)
          ≡ flat_map (put f) (filter (λ m. has m l) rs)) (sym (ap leaf_refs d)) (rw h p)

  roots_way : (ss : List Step) (js : List ℕ) → map (λ (w : Way). w.root) (map (way_to f ss) js) ≡ js
  roots_way ss [] = refl
  roots_way ss (j ∷ js) = ap (λ (z : List ℕ). j ∷ z) (roots_way ss js)

  roots_put : (ws : List Way) → map (λ (w : Way). w.root) (flat_map (put_way f) ws)
      ≡ flat_map (put f) (map (λ (w : Way). w.root) ws)
  roots_put [] = refl
  roots_put (w ∷ ws) = map-append (λ (v : Way). v.root) (put_way f w) (flat_map (put_way f) ws)
      ∙ ap₂ (λ (x y : List ℕ). x ++ y) (roots_way w.steps (put f w.root)) (roots_put ws)

  met_put : (ws : List Way) → roots_met (flat_map (put_way f) ws) ≡ flat_map (put f) (roots_met ws)
  met_put ws = ap once (roots_put ws) ∙ once_put [] (map (λ (w : Way). w.root) ws)

  module _ (j : ℕ) where
    abbrev to : Way → Way
    to w = way_to f w.steps j

    long_put : (ws : List Way) → length (map to ws) ≡ length ws
    long_put [] = refl
    long_put (w ∷ ws) = ap (λ k. suc k) (long_put ws)

    given_all : (ws : List Way) → flat_map (λ (w : Way). given bs w.steps) (map to ws)
        ≡ flat_map (λ (w : Way). given bs w.steps) ws
    given_all [] = refl
    given_all (w ∷ ws) = ap₂ (λ (x y : List ℕ). x ++ y) (given_put w.steps) (given_all ws)

    any_put : (ws : List Way) → any_back bs (map to ws) ≡ any_back bs ws
    any_put [] = refl
    any_put (w ∷ ws) = ap₂ (λ (x y : Bool). x || y) (back_put w.steps) (any_put ws)

    led_all : (ws : List Way) → flat_map (λ (w : Way). led_to bs w.steps) (map to ws)
        ≡ flat_map (put f) (flat_map (λ (w : Way). led_to bs w.steps) ws)
    led_all [] = refl
    led_all (w ∷ ws) = ap₂ (λ (x y : List ℕ). x ++ y) (led_put w.steps) (led_all ws)
        ∙ sym (flat_map-append (put f) (led_to bs w.steps) (flat_map (λ (w : Way). led_to bs w.steps) ws))

  -- the mark under the number j
  abbrev pub mark_as : RefMark → ℕ → RefMark
  mark_as m j = record {
    root = j;
    many = m.many;
    provided = m.provided;
    back = m.back;
    reach =
        flat_map (put f) m.reach;
  }

  -- what comes in the place of a mark
  abbrev pub put_mark : RefMark → List RefMark
  put_mark m = map (mark_as m) (put f m.root)

  mark_put : (ws : List Way) (r j : ℕ) → f r ≡ At j → mark bs (flat_map (put_way f) ws) j ≡ mark_as (mark bs ws r) j
  mark_put ws r j e =
      let W = flat_map (put_way f) ws in
      let t = to_put r j e ws in
      let a : nat_le 2 (length (to_root j W)) ≡ nat_le 2 (length (to_root r ws)) =
      ap (λ (z : List Way). nat_le 2 (length z)) t ∙ ap (λ k. nat_le 2 k) (long_put j (to_root r ws)) in
      let b : in_order (flat_map (λ (w : Way). given bs w.steps) (to_root j W))
      ≡ in_order (flat_map (λ (w : Way). given bs w.steps) (to_root r ws)) =
      ap (λ (z : List Way). in_order (flat_map (λ (w : Way). given bs w.steps) z)) t
      ∙ ap in_order (given_all j (to_root r ws)) in
      let c : any_back bs (to_root j W) ≡ any_back bs (to_root r ws) = ap (any_back bs) t ∙ any_put j (to_root r ws) in
      let l : flat_map (λ (w : Way). led_to bs w.steps) (to_root j W)
      ≡ flat_map (put f) (flat_map (λ (w : Way). led_to bs w.steps) (to_root r ws)) =
      ap (flat_map (λ (w : Way). led_to bs w.steps)) t ∙ led_all j (to_root r ws) in
      let d : filter (λ n. has n (flat_map (λ (w : Way). led_to bs w.steps) (to_root j W))) (roots_met W)
      ≡ flat_map (put f) (filter (λ n. has n (flat_map (λ (w : Way). led_to bs w.steps) (to_root r ws)))
      (roots_met ws)) =
      ap₂ (λ (x y : List ℕ). filter (λ n. has n x) y) l (met_put ws)
      ∙ filter_put (flat_map (λ (w : Way). led_to bs w.steps) (to_root r ws)) (roots_met ws) in
      ap₂ (λ (x : Bool) (y : List ℕ). record {
        root = j;
        many = x;
        provided = y;
        back =
            any_back bs (to_root j W);
        reach = filter
            (λ n. has n (flat_map (λ (w : Way). led_to bs w.steps) (to_root j W))) (roots_met W);
      }) a b
      ∙ ap₂ (λ (x : Bool) (y : List ℕ). record {
        root = j;
        many = nat_le 2 (length (to_root r ws));
        provided =
            in_order (flat_map (λ (w : Way). given bs w.steps) (to_root r ws));
        back = x;
        reach = y;
      }) c d

  marks_put : (ws : List Way) (rs : List ℕ)
      → map (mark bs (flat_map (put_way f) ws)) (flat_map (put f) rs) ≡ flat_map put_mark (map (mark bs ws) rs)
  marks_put ws [] = refl
  marks_put ws (r ∷ rs) = map-append (mark bs (flat_map (put_way f) ws)) (put f r) (flat_map (put f) rs)
      ∙ ap₂ (λ (x y : List RefMark). x ++ y) (here (at_or r)) (marks_put ws rs)
    where
      here : ((i : ℕ) × (f r ≡ At i)) ⊎ (put f r ≡ [])
          → map (mark bs (flat_map (put_way f) ws)) (put f r) ≡ map (mark_as (mark bs ws r)) (put f r)
      here (inl (i, d)) = subst (λ (ks : List ℕ). map (mark bs (flat_map (put_way f) ws)) ks
          ≡ map (mark_as (mark bs ws r)) ks) (sym (ap leaf_refs d)) (ap (λ (m : RefMark). m ∷ []) (mark_put ws r i d))
      here (inr n) = subst (λ (ks : List ℕ). map (mark bs (flat_map (put_way f) ws)) ks
          ≡ map (mark_as (mark bs ws r)) ks) (sym n) refl

  -- the law: the signature of a tree with other leaves
  pub signature_put : (t u : Tree) → ways u ≡ flat_map (put_way f) (ways t)
      → signature bs u ≡ flat_map put_mark (signature bs t)
  signature_put t u e = ap (λ (z : List Way). map (mark bs z) (roots_met z)) e
      ∙ ap (map (mark bs (flat_map (put_way f) (ways t)))) (met_put (ways t)) ∙ marks_put (ways t) (roots_met (ways t))

module _ (face : Face) (f : ℕ → Target) (apart : AreApart f) (a : Automaton) (ranked : IsRanked a)
    (fits : RulesFit face a) where
  -- a tree that runs comes from one that does
  pub put_run : (q : ℕ) (u : Tree) → RunOf (map (placed_rule f) a.rules) q u → (t : Tree) × RunOf a.rules q t
      × (ways u ≡ flat_map (put_way f) (ways t))
  put_run q u h =
      let T = hollow_table face.boxes in
      let p = placed_ranked f a ranked in
      let d = dress T a.states (map (placed_rule f) a.rules) p.1
      (rules_hollow face (map (placed_rule f) a.rules) (placed_fit f face a fits)) 0 h in
      let r = bare_of_end (map (placed_rule f) a.rules) q d.end
      (subst (λ (z : Tree). RunOf (map (placed_rule f) a.rules) q z) (sym d.tree) h) in
      let m = end_from f T a.rules q d.end r d.insides in (
        bare_end m.0,
        end_bare a.rules q m.0 m.2,
        ap ways (sym d.tree) ∙ ap (λ (z : End). ways (bare_end z)) (sym m.1)
            ∙ end_put f m.0,
      )

  -- the law: signatures stay uniform
  pub put_signed : HasSignatures face.boxes a → HasSignatures face.boxes (placed_auto f a)
  put_signed h = record {
    states = λ q t u x y. (let v = put_run q t x in let w = put_run q u y in
        signature_put f apart face.boxes v.0 t v.2
        ∙ ap (flat_map (put_mark f apart face.boxes)) (h.states q v.0 w.0 v.1 w.1)
        ∙ sym (signature_put f apart face.boxes w.0 u w.2));
    component = λ t u x y. (let v = put_run x.0 t x.2 in let w = put_run y.0 u y.2 in
        signature_put f apart face.boxes v.0 t v.2
        ∙ ap (flat_map (put_mark f apart face.boxes)) (h.component v.0 w.0 (x.0, x.1, v.1) (y.0, y.1, w.1))
        ∙ sym (signature_put f apart face.boxes w.0 u w.2));
  }

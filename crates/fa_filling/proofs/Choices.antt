-- Each choice of trees is filled exactly where each part of each component is, whatever stands at the tops of the
-- others.
use Rattle.std.proofs.Common.{◌≡◌, inl, inr, ℕ, zero, suc, ◌+◌, ◌<◌, ◌≤◌, Bool, true, false, true≢false, List, [], ◌∷◌}
use Rattle.std.proofs.Common.{◌++◌, length, flat_map, Option, Some, None, slice_get, refl, sym, ap, subst, ◌∙◌, arith}
use Rattle.fore_base.specs.Lists.{IsIn, Every}
use Rattle.ta_core.specs.declared.symbol.Symbol.{Symbol}
use Rattle.ta_core.specs.declared.symbol.Symbol.TheVariants.{Null, Uninit, Dangling, Ref, Cell}
use Rattle.ta_core.specs.declared.tree.Tree.{Tree, out-Tree}
use Rattle.ta_core.specs.Auto.{Automaton}
use Rattle.ta_core.specs.Language.{InLanguage}
use Rattle.fore_base.proofs.ListLemmas.{in_map, in_mapped, every_in, in_every}
use Rattle.fa_core.specs.declared.faces.Face.{Face}
use Rattle.fa_core.specs.Rearranged.{Rearranged, chain}
use Rattle.fa_core.specs.Filled.{IsFilledSpot, spots, spots_at, covers, Choice, TopsAre, given_at, TreesFilled}
use Rattle.fa_core.specs.Filled.{IsTopped}
use Rattle.fa_core.proofs.Rearranging.{after, back}
use Rattle.fa_core.proofs.NodeSpots.{spots_out, with_spots}
use Rattle.fa_filling.specs.Ruled.{AreTops, IsFilledPart}
use Rattle.fa_filling.specs.declared.parts.Part.{Part}
use Rattle.fa_filling.specs.Parted.{IsPartOf, AreParts, tops_of, all_tops, tops_but, ArePartsFilled}

top_same : (t : Tree) (s u : ℕ) → IsTopped s t → IsTopped u t → s ≡ u
top_same t s u a b = ap shape_of (sym a.2 ∙ b.2)
  where
    shape_of : Symbol → ℕ
    shape_of Null = 0
    shape_of Uninit = 0
    shape_of Dangling = 0
    shape_of (Ref r) = 0
    shape_of (Cell s ds ss) = s

tops_same : (ts : List Tree) (xs ys : List ℕ) → TopsAre ts xs → TopsAre ts ys → xs ≡ ys
tops_same [] [] [] a b = refl
tops_same [] [] (y ∷ ys) a b = absurd b
tops_same [] (x ∷ xs) ys a b = absurd a
tops_same (t ∷ ts) [] ys a b = absurd a
tops_same (t ∷ ts) (x ∷ xs) [] a b = absurd b
tops_same (t ∷ ts) (x ∷ xs) (y ∷ ys) a b =
    subst (λ (z : ℕ). x ∷ xs ≡ z ∷ ys) (top_same t x y a.0 b.0)
    (ap (λ (l : List ℕ). x ∷ l) (tops_same ts xs ys a.1 b.1))

-- TREES FOR TOPS

-- a tree with this top
tree_with : (a : Automaton) (ps : List Part) (s : ℕ) → IsPartOf a ps → IsIn s (tops_of ps) → (t : Tree) × InLanguage a t
    × IsTopped s t
tree_with a ps s h i =
    let m = in_mapped (λ (p : Part). p.top) s ps i in
    let k = h.full m.0 m.1 in
    (k.0, h.each m.0 k.0 m.1 k.1, subst (λ (x : ℕ). IsTopped x k.0) (sym m.2) (h.top m.0 k.0 m.1 k.1))

-- a choice of trees with these tops
choice_with : (autos : List Automaton) (pss : List (List Part)) (tops : List ℕ) → AreParts autos pss
    → AreTops (all_tops pss) tops → (ts : List Tree) × Choice autos ts × TopsAre ts tops
choice_with [] [] [] h k = ([], tt, tt)
choice_with [] [] (x ∷ tops) h k = absurd k
choice_with [] (ps ∷ pss) tops h k = absurd h
choice_with (a ∷ autos) [] tops h k = absurd h
choice_with (a ∷ autos) (ps ∷ pss) [] h k = absurd k
choice_with (a ∷ autos) (ps ∷ pss) (x ∷ tops) h k =
    let t = tree_with a ps x h.0 k.0 in
    let r = choice_with autos pss tops h.1 k.1 in
    (t.0 ∷ r.0, (t.1, r.1), (t.2, r.2))

-- the trees of a choice have tops
choice_tops : (autos : List Automaton) (pss : List (List Part)) (ts : List Tree) → AreParts autos pss → Choice autos ts
    → (tops : List ℕ) × AreTops (all_tops pss) tops × TopsAre ts tops
choice_tops [] [] [] h k = ([], tt, tt)
choice_tops [] [] (t ∷ ts) h k = absurd k
choice_tops [] (ps ∷ pss) ts h k = absurd h
choice_tops (a ∷ autos) [] ts h k = absurd h
choice_tops (a ∷ autos) (ps ∷ pss) [] h k = absurd k
choice_tops (a ∷ autos) (ps ∷ pss) (t ∷ ts) h k =
    let p = h.0.some t k.0 in
    let r = choice_tops autos pss ts h.1 k.1 in
    (p.0.top ∷ r.0, (in_map (λ (x : Part). x.top) p.0 ps p.1, r.1), (h.0.top p.0 t p.1 p.2, r.2))

append_one : (xs : List ℕ) (x : ℕ) (ys : List ℕ) → (xs ++ x ∷ []) ++ ys ≡ xs ++ x ∷ ys
append_one [] x ys = refl
append_one (z ∷ xs) x ys = ap (λ (l : List ℕ). z ∷ l) (append_one xs x ys)

tops_more : (front : List (List ℕ)) (heads : List ℕ) (ts : List ℕ) (x : ℕ) → AreTops front heads → IsIn x ts
    → AreTops (front ++ ts ∷ []) (heads ++ x ∷ [])
tops_more [] [] ts x f i = (i, tt)
tops_more [] (z ∷ heads) ts x f i = absurd f
tops_more (w ∷ front) [] ts x f i = absurd f
tops_more (w ∷ front) (z ∷ heads) ts x f i = (f.0, tops_more front heads ts x f.1 i)

-- what is given to a cell counts in any order
pub regiven : (face : Face) (tops : List ℕ) (t : Tree) (g h : List ℕ) → Rearranged g h
    → Every (IsFilledSpot face tops) (spots face.boxes t g) → Every (IsFilledSpot face tops) (spots face.boxes t h)
regiven face tops t g h e k =
    subst (Every (IsFilledSpot face tops)) (sym (spots_out face.boxes t h))
    (here (out-Tree t).symbol (subst (Every (IsFilledSpot face tops)) (spots_out face.boxes t g) k))
  where
    here : (y : Symbol) → Every (IsFilledSpot face tops)
        (spots_at face.boxes y (with_spots face.boxes (out-Tree t).children) g)
        → Every (IsFilledSpot face tops) (spots_at face.boxes y (with_spots face.boxes (out-Tree t).children) h)
    here Null k = tt
    here Uninit k = tt
    here Dangling k = tt
    here (Ref r) k = tt
    here (Cell s ds ss) k = (
      record {
        ends = k.0.ends;
        order = k.0.order;
        once = chain k.0.once (after (flat_map (covers face.boxes) ss) e);
      },
      k.1,
    )

module _ (face : Face) (above : ℕ → List ℕ) where
  -- all trees filled, those of the roots from r on, where `above` says what is given at each root
  abbrev pub AreAllFilled : List ℕ → ℕ → List Tree → Type 0
  AreAllFilled tops r [] = Unit {0}
  AreAllFilled tops r (t ∷ ts) = Every (IsFilledSpot face tops) (spots face.boxes t (above r))
      × AreAllFilled tops (suc r) ts

  -- the lists say what the trees give at each root below n
  abbrev pub AreGiven : List Tree → ℕ → Type 0
  AreGiven all n = (r : ℕ) → r < n → Rearranged (given_at face.boxes all r) (above r)

  pub trees_filled : (all : List Tree) (n : ℕ) → AreGiven all n → (tops : List ℕ) (r : ℕ) (ts : List Tree)
      → r + length ts ≤ n → AreAllFilled tops r ts → TreesFilled face all tops r ts
  trees_filled all n g tops r [] l h = tt
  trees_filled all n g tops r (t ∷ ts) l h = (
    regiven face tops t (above r) (given_at face.boxes all r) (back (g r (omega (arith, l)))) h.0,
    trees_filled all n g tops (suc r) ts (omega (arith, l)) h.1,
  )

  pub filled_trees : (all : List Tree) (n : ℕ) → AreGiven all n → (tops : List ℕ) (r : ℕ) (ts : List Tree)
      → r + length ts ≤ n → TreesFilled face all tops r ts → AreAllFilled tops r ts
  filled_trees all n g tops r [] l h = tt
  filled_trees all n g tops r (t ∷ ts) l h = (
    regiven face tops t (given_at face.boxes all r) (above r) (g r (omega (arith, l))) h.0,
    filled_trees all n g tops (suc r) ts (omega (arith, l)) h.1,
  )

  -- FROM PARTS TO CHOICES

  -- `front` are the tops that may stand before the components at hand
  parts_fill : (r : ℕ) (front : List (List ℕ)) (heads : List ℕ) (autos : List Automaton) (pss : List (List Part))
      (ts : List Tree) (tops : List ℕ) → AreTops front heads → AreParts autos pss → Choice autos ts → TopsAre ts tops
      → AreTops (all_tops pss) tops → ArePartsFilled face above r front pss → AreAllFilled (heads ++ tops) r ts
  parts_fill r front heads [] [] [] tops f h c t a k = tt
  parts_fill r front heads [] [] (u ∷ ts) tops f h c t a k = absurd c
  parts_fill r front heads [] (ps ∷ pss) ts tops f h c t a k = absurd h
  parts_fill r front heads (b ∷ autos) [] ts tops f h c t a k = absurd h
  parts_fill r front heads (b ∷ autos) (ps ∷ pss) [] tops f h c t a k = absurd c
  parts_fill r front heads (b ∷ autos) (ps ∷ pss) (u ∷ ts) [] f h c t a k = absurd t
  parts_fill r front heads (b ∷ autos) (ps ∷ pss) (u ∷ ts) (x ∷ tops) f h c t a k =
      let p = h.0.some u c.0 in
      let e = top_same u p.0.top x (h.0.top p.0 u p.1 p.2) t.0 in (
        every_in (λ (q : Part). IsFilledPart face (tops_but front q.top pss) q.auto (above r)) ps p.0 k.0 p.1
            (heads ++ x ∷ tops) (but front heads f e a.1) u p.2,
        subst (λ (l : List ℕ). AreAllFilled l (suc r) ts) (append_one heads x tops)
            (parts_fill (suc r) (front ++ tops_of ps ∷ []) (heads ++ x ∷ []) autos pss ts tops
            (tops_more front heads (tops_of ps) x f a.0) h.1 c.1 t.1 a.1 k.1),
      )
    where
      but : (front : List (List ℕ)) (heads : List ℕ) → AreTops front heads → {y : ℕ} → y ≡ x
          → AreTops (all_tops pss) tops → AreTops (tops_but front y pss) (heads ++ x ∷ tops)
      but [] [] f e k = (inl (sym e), k)
      but [] (z ∷ heads) f e k = absurd f
      but (w ∷ front) [] f e k = absurd f
      but (w ∷ front) (z ∷ heads) f e k = (f.0, but front heads f.1 e k)

  -- FROM CHOICES TO PARTS

  -- the tree stands at this place
  abbrev IsAt : ℕ → Tree → List Tree → Type 0
  IsAt k u ts = slice_get ts k ≡ Some u

  -- so it is filled, with what is given there
  filled_there : (tops : List ℕ) (r k : ℕ) (u : Tree) (ts : List Tree) → IsAt k u ts → AreAllFilled tops r ts
      → Every (IsFilledSpot face tops) (spots face.boxes u (above (r + k)))
  filled_there tops r k u [] e h = absurd (no_item e)
    where
      no_item : None ≡ Some u → ⊥
      no_item d = true≢false (sym (ap is_there d))
        where
          is_there : Option Tree → Bool
          is_there None = false
          is_there (Some x) = true
  filled_there tops r zero u (t ∷ ts) e h =
      let n : r ≡ r + 0 = omega arith in
      subst (λ (m : ℕ). Every (IsFilledSpot face tops) (spots face.boxes u (above m))) n
      (subst (λ (x : Tree). Every (IsFilledSpot face tops) (spots face.boxes x (above r))) (ap the e) h.0)
    where
      the : Option Tree → Tree
      the None = u
      the (Some x) = x
  filled_there tops r (suc k) u (t ∷ ts) e h =
      let n : suc r + k ≡ r + suc k = omega arith in
      subst (λ (m : ℕ). Every (IsFilledSpot face tops) (spots face.boxes u (above m))) n
      (filled_there tops (suc r) k u ts e h.1)

  -- a choice with this tree, and these tops at the others
  choice_but : (front : List Automaton) (frontss : List (List Part)) (b : Automaton) (ps : List Part)
      (autos : List Automaton) (pss : List (List Part)) (p : Part) (u : Tree) (tops : List ℕ) → AreParts front frontss
      → IsPartOf b ps → AreParts autos pss → IsIn p ps → InLanguage p.auto u
      → AreTops (tops_but (all_tops frontss) p.top pss) tops → (ts : List Tree) × Choice (front ++ b ∷ autos) ts
      × TopsAre ts tops × IsAt (length front) u ts
  choice_but [] [] b ps autos pss p u [] f h a i l k = absurd k
  choice_but [] [] b ps autos pss p u (x ∷ tops) f h a i l k =
      let r = choice_with autos pss tops a k.1 in (
        u ∷ r.0,
        (h.each p u i l, r.1),
        (subst (λ (z : ℕ). IsTopped z u) (sym (only k.0)) (h.top p u i l), r.2),
        refl,
      )
    where
      only : IsIn x (p.top ∷ []) → x ≡ p.top
      only (inl e) = e
      only (inr j) = absurd j
  choice_but [] (qs ∷ frontss) b ps autos pss p u tops f h a i l k = absurd f
  choice_but (c ∷ front) [] b ps autos pss p u tops f h a i l k = absurd f
  choice_but (c ∷ front) (qs ∷ frontss) b ps autos pss p u [] f h a i l k = absurd k
  choice_but (c ∷ front) (qs ∷ frontss) b ps autos pss p u (x ∷ tops) f h a i l k =
      let t = tree_with c qs x f.0 k.0 in
      let r = choice_but front frontss b ps autos pss p u tops f.1 h a i l k.1 in
      (t.0 ∷ r.0, (t.1, r.1), (t.2, r.2), r.3)

  -- the choice is filled
  abbrev IsFilledChoice : List Tree → Type 0
  IsFilledChoice ts = (tops : List ℕ) × TopsAre ts tops × AreAllFilled tops 0 ts

  parts_more : (front : List Automaton) (frontss : List (List Part)) (b : Automaton) (ps : List Part)
      → AreParts front frontss → IsPartOf b ps → AreParts (front ++ b ∷ []) (frontss ++ ps ∷ [])
  parts_more [] [] b ps f h = (h, tt)
  parts_more [] (qs ∷ frontss) b ps f h = absurd f
  parts_more (c ∷ front) [] b ps f h = absurd f
  parts_more (c ∷ front) (qs ∷ frontss) b ps f h = (f.0, parts_more front frontss b ps f.1 h)

  autos_more : (xs : List Automaton) (x : Automaton) (ys : List Automaton) → (xs ++ x ∷ []) ++ ys ≡ xs ++ x ∷ ys
  autos_more [] x ys = refl
  autos_more (z ∷ xs) x ys = ap (λ (l : List Automaton). z ∷ l) (autos_more xs x ys)

  tops_last : (frontss : List (List Part)) (ps : List Part) → all_tops (frontss ++ ps ∷ []) ≡ all_tops frontss
      ++ tops_of ps ∷ []
  tops_last [] ps = refl
  tops_last (qs ∷ frontss) ps = ap (λ (l : List (List ℕ)). tops_of qs ∷ l) (tops_last frontss ps)

  more_long : (xs : List Automaton) (x : Automaton) → length (xs ++ x ∷ []) ≡ suc (length xs)
  more_long [] x = refl
  more_long (z ∷ xs) x = ap suc (more_long xs x)

  fills_parts : (front : List Automaton) (frontss : List (List Part)) (autos : List Automaton) (pss : List (List Part))
      → AreParts front frontss → AreParts autos pss
      → ((ts : List Tree) → Choice (front ++ autos) ts → IsFilledChoice ts)
      → ArePartsFilled face above (length front) (all_tops frontss) pss
  fills_parts front frontss [] [] f h g = tt
  fills_parts front frontss [] (ps ∷ pss) f h g = absurd h
  fills_parts front frontss (b ∷ autos) [] f h g = absurd h
  fills_parts front frontss (b ∷ autos) (ps ∷ pss) f h g = (
    in_every (λ (p : Part). IsFilledPart face (tops_but (all_tops frontss) p.top pss) p.auto (above (length front))) ps
        (λ p i tops k u l. (
        let c = choice_but front frontss b ps autos pss p u tops f h.0 h.1 i l k in
        let w = g c.0 c.1 in
        let e = tops_same c.0 w.0 tops w.1 c.2 in
        let n : 0 + length front ≡ length front = omega arith in
        subst (λ (m : ℕ). Every (IsFilledSpot face tops) (spots face.boxes u (above m))) n
        (subst (λ (z : List ℕ). Every (IsFilledSpot face z) (spots face.boxes u (above (0 + length front)))) e
        (filled_there w.0 0 (length front) u c.0 c.3 w.2)))),
    subst (λ (n : ℕ). ArePartsFilled face above n (all_tops frontss ++ tops_of ps ∷ []) pss) (more_long front b)
        (subst (λ (z : List (List ℕ)). ArePartsFilled face above (length (front ++ b ∷ [])) z pss)
        (tops_last frontss ps)
        (fills_parts (front ++ b ∷ []) (frontss ++ ps ∷ []) autos pss (parts_more front frontss b ps f h.0) h.1
        (λ ts c. g ts (subst (λ (l : List Automaton). Choice l ts) (autos_more front b autos) c)))),
  )

  -- every choice is filled exactly where every part is
  pub choices_fill : (autos : List Automaton) (pss : List (List Part)) → AreParts autos pss
      → ArePartsFilled face above 0 [] pss → (ts : List Tree) → Choice autos ts → IsFilledChoice ts
  choices_fill autos pss h k ts c =
      let t = choice_tops autos pss ts h c in
      (t.0, t.2, parts_fill 0 [] [] autos pss ts t.0 tt h c t.2 t.1 k)

  pub fill_choices : (autos : List Automaton) (pss : List (List Part)) → AreParts autos pss
      → ((ts : List Tree) → Choice autos ts → IsFilledChoice ts) → ArePartsFilled face above 0 [] pss
  fill_choices autos pss h g = fills_parts [] [] autos pss tt h g

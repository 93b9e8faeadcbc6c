-- A mark that provides a field twice is in no tree of a sound forest, nor below one.
use Rattle.std.proofs.Common.{◌≡◌, inl, inr, ℕ, zero, suc, ◌<◌, ◌≤◌, ◌+◌, Bool, true, false, true≢false, cond, ◌||◌}
use Rattle.std.proofs.Common.{nat_eq, List, [], ◌∷◌, map, flat_map, length, Option, Some, None, refl, sym, ap}
use Rattle.std.proofs.Common.{subst, ◌∙◌, arith}
use Rattle.std.proofs.lemmas.Bool.{eqb-true, eq-eqb}
use Rattle.fore_base.specs.Lists.{IsIn, Every}
use Rattle.fore_base.specs.declared.store.Datum.{Datum}
use Rattle.fore_base.specs.Shapes.{targets_of}
use Rattle.fore_base.proofs.ListLemmas.{in_map, in_mapped, every_in}
use Rattle.ta_core.specs.declared.auto.Rule.{Rule}
use Rattle.ta_core.specs.declared.symbol.Slot.{Slot}
use Rattle.ta_core.specs.declared.symbol.Slot.TheVariants.{Field, Link, Hook}
use Rattle.ta_core.specs.declared.symbol.Symbol.{Symbol}
use Rattle.ta_core.specs.declared.symbol.Symbol.TheVariants.{Null, Uninit, Dangling, Ref, Cell}
use Rattle.ta_core.specs.declared.tree.Tree.{Tree, out-Tree}
use Rattle.ta_core.specs.Arity.{arity}
use Rattle.ta_core.specs.Auto.{Automaton, IsRanked, IsRankedRule}
use Rattle.ta_core.specs.Language.{HasSameLanguage, InLanguage, IsTrim, RunOf, RunEach, run_more, PassesBy, at_top}
use Rattle.ta_core.specs.Language.{below}
use Rattle.ta_core.specs.Language.{OnePasses, this_one, later_one}
use Rattle.ta_core.proofs.Runs.{tree_of, run_tree}
use Rattle.fa_core.specs.declared.faces.BoxFace.{BoxFace}
use Rattle.fa_core.specs.declared.faces.Face.{Face}
use Rattle.fa_core.specs.declared.forest.Forest.{Forest}
use Rattle.fa_core.specs.declared.signature.Below.{Below}
use Rattle.fa_core.specs.declared.signature.RefMark.{RefMark}
use Rattle.fa_core.specs.Rearranged.{often}
use Rattle.fa_core.specs.Ways.{Way, ways, given, to_root, has, roots_met, mark, signature}
use Rattle.fa_core.specs.Cells.{edges, is_leaf, below_of, mark_of, provided_in, provided_at, cell_mark, cell_roots}
use Rattle.fa_core.specs.Cells.{cell_marks, roots_in, leaf_mark}
use Rattle.fa_core.specs.Filled.{IsFilledSpot, spots, spots_at, covers, numbered, TopsAre, TreesFilled}
use Rattle.fa_core.specs.Filled.{given_at, IsSound}
use Rattle.fa_core.proofs.CellMarks.{cell_signature}
use Rattle.fa_core.proofs.Counts.{often_same, often_both}
use Rattle.fa_core.proofs.NodeSpots.{spots_out, with_spots}
use Rattle.fa_core.proofs.Numbers.{has_left, has_right, has_once}
use Rattle.fa_core.proofs.Sorting.{ordered}
use Rattle.fa_core.proofs.WayParts.{edges_map}
use Rattle.fa_core.proofs.Counts.{often_here, often_more}
use Rattle.fa_filling.proofs.Fillings.{choice_through, choice_long}
use Rattle.fa_filling.proofs.SpotRules.{at_edge, run_length}
use Rattle.fa_sound.specs.inner.Doubled.{twice_from, has_twice, HasDoubled, GivesTwice, SpeaksOfDoubled}
use Rattle.fa_sound.specs.Entries.{entry, is_there}
use Rattle.fa_sound.specs.inner.Learnt.{said, below_at, AreWitnessed}
use Rattle.fa_sound.specs.inner.Owned.{fields_of_mark}
use Rattle.fa_sound.proofs.Given.{found_map, given_tree}
use Rattle.fa_sound.proofs.Mixed.{leaf_signature}

-- NUMBERS

twice_often : (f : ℕ) (xs : List ℕ) → twice_from f xs ≡ true → (n : ℕ) × (2 ≤ often n (f ∷ xs))
twice_often f [] h = absurd (true≢false (sym h))
twice_often f (g ∷ gs) h = here (nat_eq f g) refl h (twice_often g gs)
  where
    here : (b : Bool) → nat_eq f g ≡ b → (b || twice_from g gs) ≡ true
        → (twice_from g gs ≡ true → (n : ℕ) × (2 ≤ often n (g ∷ gs))) → (n : ℕ) × (2 ≤ often n (f ∷ g ∷ gs))
    here true e h k =
        let a = often_here f (g ∷ gs) in
        let d : f ≡ g = eqb-true f g e in
        let b : often f (g ∷ gs) ≡ often f gs + 1 = subst (λ (m : ℕ). often f (m ∷ gs)
        ≡ often f gs + 1) d (often_here f gs) in
        (f, omega (arith, a, b))
    here false e h k =
        let w = k h in
        let l = w.1 in
        let m = often_more w.0 f (g ∷ gs) in
        (w.0, omega (arith, l, m))

twice_there : (xs : List ℕ) → has_twice xs ≡ true → (n : ℕ) × (2 ≤ often n xs)
twice_there [] h = absurd (true≢false (sym h))
twice_there (f ∷ fs) h = twice_often f fs h

often_part : {X : Type 0} (n : ℕ) (g : X → List ℕ) (xs : List X) (x : X) → IsIn x xs
    → often n (g x) ≤ often n (flat_map g xs)
often_part n g [] x i = absurd i
often_part n g (y ∷ xs) x (inl e) =
    let b = often_both n (g y) (flat_map g xs) in
    let d = ap (λ z. often n (g z)) e in
    omega (arith, b, d)
often_part n g (y ∷ xs) x (inr i) =
    let b = often_both n (g y) (flat_map g xs) in
    let h = often_part n g xs x i in
    omega (arith, b, h)

has_part : {X : Type 0} (n : ℕ) (g : X → List ℕ) (xs : List X) (x : X) → IsIn x xs → has n (g x) ≡ true
    → has n (flat_map g xs) ≡ true
has_part n g [] x i h = absurd i
has_part n g (y ∷ xs) x (inl e) h =
    has_left n (g y) (flat_map g xs) (subst (λ z. has n (g z) ≡ true) e h)
has_part n g (y ∷ xs) x (inr i) h = has_right n (g y) (flat_map g xs) (has_part n g xs x i h)

has_in : (n : ℕ) (xs : List ℕ) → IsIn n xs → has n xs ≡ true
has_in n [] i = absurd i
has_in n (x ∷ xs) (inl e) = let d = eq-eqb n x e in rw d refl
has_in n (x ∷ xs) (inr i) = here (nat_eq n x) (has_in n xs i)
  where
    here : (b : Bool) → has n xs ≡ true → (b || has n xs) ≡ true
    here true h = refl
    here false h = h

-- each field of a struct is one field
numbered_once : (n k : ℕ) (xs : List ℕ) → (often n (numbered k xs) ≤ 1) × (n < k → often n (numbered k xs) ≡ 0)
numbered_once n k [] = (omega arith, λ l. refl)
numbered_once n k (x ∷ xs) = here (nat_eq n k) refl (numbered_once n (suc k) xs)
  where
    here : (b : Bool) → nat_eq n k ≡ b
        → (often n (numbered (suc k) xs) ≤ 1) × (n < suc k → often n (numbered (suc k) xs) ≡ 0)
        → (cond b (often n (numbered (suc k) xs) + 1) (often n (numbered (suc k) xs)) ≤ 1)
        × (n < k → cond b (often n (numbered (suc k) xs) + 1) (often n (numbered (suc k) xs)) ≡ 0)
    here true e h =
        let d : n ≡ k = eqb-true n k e in
        let z = h.1 (omega (arith, d)) in
        (omega (arith, z), λ l. absurd (omega (arith, l, d)))
    here false e h = (h.0, λ l. h.1 (omega (arith, l)))

-- MARKS

mark_root : (r : ℕ) (ms : List RefMark) (m : RefMark) → mark_of r ms ≡ Some m → has r (roots_in ms) ≡ true
mark_root r [] m e = absurd (true≢false (sym (ap is_there e)))
  where
    is_there : Option RefMark → Bool
    is_there None = false
    is_there (Some x) = true
mark_root r (x ∷ ms) m e = here (nat_eq r x.root) e (mark_root r ms m)
  where
    here : (b : Bool) → cond b (Some x) (mark_of r ms) ≡ Some m
        → (mark_of r ms ≡ Some m → has r (roots_in ms) ≡ true) → (b || has r (roots_in ms)) ≡ true
    here true e k = refl
    here false e k = k e

-- a mark of a tree is that of its root
mark_there : (bs : List BoxFace) (t : Tree) (m : RefMark) → IsIn m (signature bs t) → mark_of m.root (signature bs t)
    ≡ Some m
mark_there bs t m i =
    let w = in_mapped (mark bs (ways t)) m (roots_met (ways t)) i in
    let e : m.root ≡ w.0 = ap (λ (x : RefMark). x.root) w.2 in
    let h = has_in w.0 (roots_met (ways t)) w.1 in
    ap (λ (n : ℕ). mark_of n (signature bs t)) e
    ∙ found_map (mark bs (ways t)) (λ n. refl) w.0 (roots_met (ways t))
    ∙ ap (λ (b : Bool). cond b (Some (mark bs (ways t) w.0)) None) h
    ∙ ap Some (sym w.2)

module _ (bs : List BoxFace) (r f : ℕ) where
  -- how often box edges of a tree with this signature give field f to root r
  abbrev pub times : List RefMark → ℕ
  times ms = often f (fields_of_mark (mark_of r ms))

  abbrev tree_times : Tree → ℕ
  tree_times t = times (signature bs t)

  inner : (o : Option RefMark) (s : Slot) → often f (fields_of_mark o) ≡ often f (provided_in bs o s false)
  inner None s = refl
  inner (Some m) (Field g) = refl
  inner (Some m) (Link b) = refl
  inner (Some m) (Hook b) = refl

  -- what an edge to a cell provides, the whole cell provides
  cell_times : (es : List (Slot × Below)) (e : Slot × Below) → IsIn e es → e.1.leaf ≡ false
      → times e.1.marks ≤ times (cell_marks bs es)
  cell_times es e i l = here (mark_of r e.1.marks) refl
    where
      roots : List ℕ
      roots = cell_roots es

      part : often f (provided_in bs (mark_of r e.1.marks) e.0 e.1.leaf) ≤ often f (provided_at bs r es)
      part = often_part f (λ (d : Slot × Below). provided_in bs (mark_of r d.1.marks) d.0 d.1.leaf) es e i

      here : (o : Option RefMark) → mark_of r e.1.marks ≡ o → often f (fields_of_mark (mark_of r e.1.marks))
          ≤ times (cell_marks bs es)
      here None d = let z = ap (λ (p : Option RefMark). often f (fields_of_mark p)) d in omega (arith, z)
      here (Some m) d =
          let h : has r roots ≡ true = has_once r (flat_map (λ (d : Slot × Below). roots_in d.1.marks) es)
          ∙ has_part r (λ (d : Slot × Below). roots_in d.1.marks) es e i (mark_root r e.1.marks m d) in
          let g : mark_of r (cell_marks bs es) ≡ Some (cell_mark bs es roots r) =
          found_map (cell_mark bs es roots) (λ n. refl) r roots
          ∙ ap (λ (b : Bool). cond b (Some (cell_mark bs es roots r)) None) h in
          let a = ap (λ (p : Option RefMark). often f (fields_of_mark p)) g in
          let b = often_same f (ordered (provided_at bs r es)) in
          let c = inner (mark_of r e.1.marks) e.0
          ∙ ap (λ (k : Bool). often f (provided_in bs (mark_of r e.1.marks) e.0 k)) (sym l) in
          let p = part in
          omega (arith, a, b, c, p)

  -- a leaf provides nothing
  leaf_times : (t : Tree) → is_leaf (out-Tree t).symbol ≡ true → tree_times t ≡ 0
  leaf_times t l = elim (leaf_signature bs t l) [
    | inl e ↦ ap times e
    | inr e ↦ ap times e.1 ∙ alone e.0 (nat_eq r e.0)
  ]
    where
      alone : (q : ℕ) (b : Bool) → often f (fields_of_mark (cond b (Some (leaf_mark q)) None)) ≡ 0
      alone q true = refl
      alone q false = refl

  no_child : (t : Tree) (ts : List Tree) → length ts ≡ 0 → IsIn t ts → ⊥
  no_child t [] l i = i
  no_child t (u ∷ ts) l i = omega (arith, l)

  -- what a child provides, the tree provides
  node_times : (y : Symbol) (ts : List Tree) (t : Tree) → length ts ≡ arity y → IsIn t ts
      → is_leaf (out-Tree t).symbol ≡ false → tree_times t ≤ tree_times (tree_of y ts)
  node_times Null ts t l i k = absurd (no_child t ts l i)
  node_times Uninit ts t l i k = absurd (no_child t ts l i)
  node_times Dangling ts t l i k = absurd (no_child t ts l i)
  node_times (Ref n) ts t l i k = absurd (no_child t ts l i)
  node_times (Cell s ds ss) ts t l i k =
      let d = at_edge bs (λ p. Unit {0}) [] t ss ts l i in
      let j : IsIn (d.0, below_of bs t) (edges ss (map (below_of bs) ts)) =
      subst (λ (es : List (Slot × Below)). IsIn (d.0, below_of bs t) es) (sym (edges_map (below_of bs) ss ts))
      (in_map (λ (e : Slot × Tree). (e.0, below_of bs e.1)) (d.0, t) (edges ss ts) d.1) in
      let a = cell_times (edges ss (map (below_of bs) ts)) (d.0, below_of bs t) j k in
      let b = ap times (cell_signature bs s ds ss ts) in
      omega (arith, a, b)

  module _ (n : ℕ) (rules : List Rule) (ranked : Every (IsRankedRule n) rules) where
    above : (y : Symbol) (ts : List Tree) (t : Tree) → length ts ≡ arity y → IsIn t ts → 2 ≤ tree_times t
        → 2 ≤ tree_times (tree_of y ts)
    above y ts t l i k = here (is_leaf (out-Tree t).symbol) refl
      where
        here : (b : Bool) → is_leaf (out-Tree t).symbol ≡ b → 2 ≤ tree_times (tree_of y ts)
        here true e = let z = leaf_times t e in absurd (omega (arith, z, k))
        here false e = let z = node_times y ts t l i e in omega (arith, z, k)

    mutual
      -- a tree that takes part in others provides it in some of these too
      pub carried : {q p : ℕ} {t : Tree} (u : Tree) → PassesBy rules q p t → RunOf rules q u → 2 ≤ tree_times u
          → (v : Tree) × RunOf rules p v × (2 ≤ tree_times v)
      carried {q} {p} u (at_top e h) k m = (u, subst (λ (x : ℕ). RunOf rules x u) (sym e) k, m)
      carried {q} {p} u (below o i e s w) k m =
          let g = carried_one u w k m in
          let l = (every_in (IsRankedRule n) rules o ranked i).2 in (
            tree_of o.symbol g.0,
            subst (λ (x : ℕ). RunOf rules x (tree_of o.symbol g.0)) e (run_tree rules o g.0 i g.1),
            above o.symbol g.0 g.2.0 (sym (run_length bs (λ p. Unit {0}) rules g.1) ∙ l) g.2.1 g.2.2,
          )

      carried_one : {q : ℕ} {ps : List ℕ} {ts : List Tree} (u : Tree) → OnePasses rules q ps ts → RunOf rules q u
          → 2 ≤ tree_times u → (vs : List Tree) × RunEach rules ps vs × ((v : Tree) × IsIn v vs × (2 ≤ tree_times v))
      carried_one u (this_one {ts = ts} h rs) k m =
          let g = carried u h k m in
          (g.0 ∷ ts, run_more g.1 rs, (g.0, inl refl, g.2))
      carried_one u (later_one {t = t} h o) k m =
          let g = carried_one u o k m in
          (t ∷ g.0, run_more h g.1, (g.2.0, inr g.2.1, g.2.2))

  -- so it does in an accepted tree of a trimmed automaton
  pub taken_up : (a : Automaton) → IsRanked a → IsTrim a → (q : ℕ) → q < a.states → (u : Tree) → RunOf a.rules q u
      → 2 ≤ tree_times u → (v : Tree) × InLanguage a v × (2 ≤ tree_times v)
  taken_up a ranked trim q l u k m =
      let w = trim q l in
      let c = carried a.states a.rules ranked.1 u w.3 k m in
      (c.0, (w.0, w.2, c.1), c.2)

-- SOUND FORESTS

module _ (face : Face) (r f : ℕ) where
  -- what one tree of a choice gives, the choice gives
  choice_times : (ts : List Tree) (u : Tree) → IsIn u ts → times face.boxes r f (signature face.boxes u)
      ≤ often f (given_at face.boxes ts r)
  choice_times ts u i =
      let a = often_same f (given_tree face.boxes u r) in
      let b = often_part f (λ (t : Tree). flat_map (λ (w : Way). given face.boxes w.steps) (to_root r (ways t))) ts u
      i in
      omega (arith, a, b)

  -- the cell at a root that is filled is given the field once at most
  root_once : (s : ℕ) (ds : List Datum) (ss : List Slot) (t : Tree) (tops : List ℕ) (g : List ℕ)
      → (out-Tree t).symbol ≡ Cell s ds ss → Every (IsFilledSpot face tops) (spots face.boxes t g) → often f g ≤ 1
  root_once s ds ss t tops g e h =
      let k : Every (IsFilledSpot face tops)
      (spots_at face.boxes (Cell s ds ss) (with_spots face.boxes (out-Tree t).children) g) =
      subst (λ (y : Symbol). Every (IsFilledSpot face tops)
      (spots_at face.boxes y (with_spots face.boxes (out-Tree t).children) g)) e
      (subst (Every (IsFilledSpot face tops)) (spots_out face.boxes t g) h) in
      let a = often_same f k.0.once in
      let b = often_both f (flat_map (covers face.boxes) ss) g in
      let c = (numbered_once f 0 (targets_of face.shapes.structs s)).0 in
      omega (arith, a, b, c)

  trees_once : (all : List Tree) (tops : List ℕ) (k : ℕ) (ts : List Tree) (xs : List ℕ) → TopsAre ts xs
      → TreesFilled face all tops k ts → (j : ℕ) → j < length ts → often f (given_at face.boxes all (k + j)) ≤ 1
  trees_once all tops k [] xs a h j l = absurd (omega (arith, l))
  trees_once all tops k (t ∷ ts) [] a h j l = absurd a
  trees_once all tops k (t ∷ ts) (x ∷ xs) a h zero l =
      let e : k ≡ k + 0 = omega arith in
      subst (λ (n : ℕ). often f (given_at face.boxes all n) ≤ 1) e
      (root_once x a.0.0 a.0.1 t tops (given_at face.boxes all k) a.0.2 h.0)
  trees_once all tops k (t ∷ ts) (x ∷ xs) a h (suc j) l =
      let e : suc k + j ≡ k + suc j = omega arith in
      subst (λ (n : ℕ). often f (given_at face.boxes all n) ≤ 1) e
      (trees_once all tops (suc k) ts xs a.1 h.1 j (omega (arith, l)))

  -- no tree of a sound forest gives a field to a root twice
  never_twice : (F : Forest) → IsSound face F → (a : Automaton) (u : Tree) → IsIn a F.autos → InLanguage a u
      → r < length F.autos → 2 ≤ times face.boxes r f (signature face.boxes u) → ⊥
  never_twice F s a u i l m n =
      let w = choice_through F.autos a u s.full i l in
      let g = s.well_formed.filled.trees w.0 w.1 in
      let e = choice_long F.autos w.0 w.1 in
      let c = choice_times w.0 u w.2 in
      let z : 0 + r ≡ r = omega arith in
      let o = subst (λ (k : ℕ). often f (given_at face.boxes w.0 k) ≤ 1) z
      (trees_once w.0 g.tops 0 w.0 g.tops g.are g.cells r (omega (arith, m, e))) in
      omega (arith, o, c, n)

-- a mark that provides a field twice provides it that often
pub doubled_times : (bs : List BoxFace) (n : ℕ) (t : Tree) → HasDoubled n (signature bs t) → (r f : ℕ) × (r < n)
    × (2 ≤ times bs r f (signature bs t))
doubled_times bs n t (m, i, l, h) =
    let w = twice_there m.provided h in
    (m.root, w.0, l, subst (λ (o : Option RefMark). 2 ≤ often w.0 (fields_of_mark o)) (sym (mark_there bs t m i)) w.1)

entry_low : (xs : List (Option Below)) (k : ℕ) (x : Below) → entry xs k ≡ Some x → k < length xs
entry_low [] k x e = absurd (true≢false (sym (ap is_there e)))
entry_low (y ∷ xs) zero x e = omega arith
entry_low (y ∷ xs) (suc k) x e = let l = entry_low xs k x e in omega (arith, l)

-- a table says such a mark of a state only where it speaks of a tree
pub speaks_at : (n : ℕ) (table : List (Option Below)) (q : ℕ) → HasDoubled n (below_at table q).marks
    → SpeaksOfDoubled n table
speaks_at n table q h = here (entry table q) refl h
  where
    here : (o : Option Below) → entry table q ≡ o → HasDoubled n (said o).marks → SpeaksOfDoubled n table
    here None e k = absurd k.1
    here (Some b) e k = (q, b, e, k)

-- where a state of a trimmed automaton has a tree with such a mark, an accepted tree gives a field twice
pub some_twice : (bs : List BoxFace) (n : ℕ) (a part : Automaton) → HasSameLanguage a part → IsRanked part → IsTrim part
    → (table : List (Option Below)) → length table ≡ part.states → AreWitnessed bs part.rules table
    → SpeaksOfDoubled n table → GivesTwice bs n a
some_twice bs n a part same ranked trim table long w (q, b, e, h) =
    let u = w q b e in
    let m : HasDoubled n (signature bs u.0) = subst (λ (x : Below). HasDoubled n x.marks) (sym u.2) h in
    let d = doubled_times bs n u.0 m in
    let v = taken_up bs d.0 d.1 part ranked trim q (subst (λ (k : ℕ). q < k) long (entry_low table q b e)) u.0 u.1 d.3
    in
    (v.0, (same v.0).1 v.1, (d.0, d.1, d.2, v.2))

-- no component of a sound forest does
pub twice_unsound : (face : Face) (F : Forest) (a : Automaton) → IsIn a F.autos
    → GivesTwice face.boxes (length F.autos) a → IsSound face F → ⊥
twice_unsound face F a i (u, l, (r, f, m, n)) s = never_twice face r f F s a u i l m n

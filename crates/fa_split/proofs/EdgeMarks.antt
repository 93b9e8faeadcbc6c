-- Edges that add the same to the marks of the cell above them: of one slot, with ends of one signature, where it has no
-- effect which of the ends is a leaf.
use Rattle.std.proofs.Common.{◌≡◌, ◌⊎◌, inl, inr, ℕ, zero, suc, ◌+◌, Bool, true, false, true≢false, ◌||◌, nat_eq}
use Rattle.std.proofs.Common.{nat_le, cond, length, if◌then◌else◌, List, [], ◌∷◌, ◌++◌, map, filter, flat_map, Option}
use Rattle.std.proofs.Common.{Some, None, slice_set, refl, sym, ap, ap₂, ◌∙◌, arith, length-append}
use Rattle.std.proofs.lemmas.Bool.{eqb-true, eq-eqb}
use Rattle.ta_core.specs.declared.symbol.Slot.{Slot}
use Rattle.ta_core.specs.declared.symbol.Slot.TheVariants.{Field, Link, Hook}
use Rattle.fa_core.specs.declared.faces.BoxFace.{BoxFace}
use Rattle.fa_core.specs.declared.signature.Below.{Below}
use Rattle.fa_core.specs.declared.signature.RefMark.{RefMark}
use Rattle.fa_core.specs.Cells.{edges, mark_of, many_with, many_from, provided_in, provided_at, back_in, back_at}
use Rattle.fa_core.specs.Cells.{reach_in, reach_at, cell_mark, cell_roots, cell_marks, roots_in, leaf_mark}
use Rattle.fa_core.specs.Rearranged.{insert, in_order}
use Rattle.fa_core.specs.Ways.{has, once, back_of, gives_out_of}
use Rattle.fa_core.proofs.CellMarks.{same_made, map_same}
use Rattle.fa_core.proofs.Numbers.{has_right, has_once, or_left}
use Rattle.fa_core.proofs.Rearranging.{flat_map-append}
use Rattle.fa_sound.proofs.Between.{AreLeafs}
use Rattle.fa_split.specs.Giving.{SlotGives}

-- at the end of the slot, e adds what x adds
pub record AddsSame (bs : List BoxFace) (s : Slot) (e x : Below) : Type 0 where
  pub marks : e.marks ≡ x.marks
  pub provided : (r : ℕ) → provided_in bs (mark_of r e.marks) s e.leaf ≡ provided_in bs (mark_of r x.marks) s x.leaf
  pub back : (r : ℕ) → back_in bs (mark_of r e.marks) s e.leaf ≡ back_in bs (mark_of r x.marks) s x.leaf
  pub reach : (rs : List ℕ) (r : ℕ) → reach_in bs rs (mark_of r e.marks) s e.leaf
      ≡ reach_in bs rs (mark_of r x.marks) s x.leaf

-- so it is edge by edge
pub data EdgesSame (bs : List BoxFace) : List (Slot × Below) → List (Slot × Below) → Type 0 where
  no_edges : EdgesSame bs [] []
  an_edge : (s : Slot) (e x : Below) {es xs : List (Slot × Below)} → AddsSame bs s e x → EdgesSame bs es xs
      → EdgesSame bs ((s, e) ∷ es) ((s, x) ∷ xs)

module _ (bs : List BoxFace) where
  many_kept : (one : Bool) (r : ℕ) {es xs : List (Slot × Below)} → EdgesSame bs es xs
      → many_from one r es ≡ many_from one r xs
  many_kept one r no_edges = refl
  many_kept one r (an_edge s e x {es = es} i k) =
      ap (λ (ms : List RefMark). many_with one (mark_of r ms) (many_from one r es) (many_from true r es)) i.marks
      ∙ ap₂ (λ (a b : Bool). many_with one (mark_of r x.marks) a b) (many_kept one r k) (many_kept true r k)

  provided_kept : (r : ℕ) {es xs : List (Slot × Below)} → EdgesSame bs es xs → provided_at bs r es ≡ provided_at bs r xs
  provided_kept r no_edges = refl
  provided_kept r (an_edge s e x i k) = ap₂ (λ (u v : List ℕ). u ++ v) (i.provided r) (provided_kept r k)

  back_kept : (r : ℕ) {es xs : List (Slot × Below)} → EdgesSame bs es xs → back_at bs r es ≡ back_at bs r xs
  back_kept r no_edges = refl
  back_kept r (an_edge s e x i k) = ap₂ (λ (a b : Bool). a || b) (i.back r) (back_kept r k)

  reach_kept : (rs : List ℕ) (r : ℕ) {es xs : List (Slot × Below)} → EdgesSame bs es xs
      → reach_at bs rs r es ≡ reach_at bs rs r xs
  reach_kept rs r no_edges = refl
  reach_kept rs r (an_edge s e x i k) = ap₂ (λ (u v : List ℕ). u ++ v) (i.reach rs r) (reach_kept rs r k)

  roots_kept : {es xs : List (Slot × Below)} → EdgesSame bs es xs
      → flat_map (λ (e : Slot × Below). roots_in e.1.marks) es ≡ flat_map (λ (e : Slot × Below). roots_in e.1.marks) xs
  roots_kept no_edges = refl
  roots_kept (an_edge s e x i k) = ap₂ (λ (u v : List ℕ). u ++ v) (ap roots_in i.marks) (roots_kept k)

  -- the cell above them has the same marks
  pub cell_kept : {es xs : List (Slot × Below)} → EdgesSame bs es xs → cell_marks bs es ≡ cell_marks bs xs
  cell_kept {es} {xs} k =
      let e : cell_roots es ≡ cell_roots xs = ap (λ (l : List ℕ). once l) (roots_kept k) in
      ap (λ (l : List ℕ). map (cell_mark bs es l) l) e
      ∙ map_same bs [] (cell_mark bs es (cell_roots xs)) (cell_mark bs xs (cell_roots xs)) (cell_roots xs)
      (λ r. same_made r _ _ _ _ _ _ _ _ (many_kept false r k)
      (ap (λ (l : List ℕ). in_order l) (provided_kept r k)) (back_kept r k)
      (ap (λ (l : List ℕ). filter (λ n. has n l) (cell_roots xs)) (reach_kept (cell_roots xs) r k)))

  same_below : (s : Slot) (e : Below) → AddsSame bs s e e
  same_below s e = record { marks = refl; provided = λ r. refl; back = λ r. refl; reach = λ rs r. refl }

  -- the first edges of both, and the others
  abbrev FirstSame : List (Slot × Below) → List (Slot × Below) → Type 0
  FirstSame [] xs = Unit {0}
  FirstSame (e ∷ es) [] = Unit {0}
  FirstSame (e ∷ es) (x ∷ xs) = AddsSame bs e.0 e.1 x.1

  first_same : {es xs : List (Slot × Below)} → EdgesSame bs es xs → FirstSame es xs
  first_same no_edges = tt
  first_same (an_edge s e x i k) = i

  abbrev others : List (Slot × Below) → List (Slot × Below)
  others [] = []
  others (e ∷ es) = es

  others_same : {es xs : List (Slot × Below)} → EdgesSame bs es xs → EdgesSame bs (others es) (others xs)
  others_same no_edges = no_edges
  others_same (an_edge s e x i k) = k

  -- another end in one place of both
  pub set_edges : (p : ℕ) (z : Below) (ss : List Slot) (es xs : List Below) → EdgesSame bs (edges ss es) (edges ss xs)
      → length es ≡ length xs
      → EdgesSame bs (edges ss (slice_set es p z)) (edges ss (slice_set xs p z))
  set_edges p z [] es xs k l = no_edges
  set_edges p z (Hook b ∷ ss) es xs k l = set_edges p z ss es xs k l
  set_edges p z (Field f ∷ ss) [] [] k l = no_edges
  set_edges p z (Field f ∷ ss) [] (x ∷ xs) k l = let m : 0 ≡ suc (length xs) = l in absurd (omega (arith, m))
  set_edges p z (Field f ∷ ss) (e ∷ es) [] k l = let m : suc (length es) ≡ 0 = l in absurd (omega (arith, m))
  set_edges zero z (Field f ∷ ss) (e ∷ es) (x ∷ xs) k l =
      an_edge (Field f) z z (same_below (Field f) z) (others_same k)
  set_edges (suc p) z (Field f ∷ ss) (e ∷ es) (x ∷ xs) k l =
      let m : suc (length es) ≡ suc (length xs) = l in
      an_edge (Field f) e x (first_same k) (set_edges p z ss es xs (others_same k) (omega (arith, m)))
  set_edges p z (Link b ∷ ss) [] [] k l = no_edges
  set_edges p z (Link b ∷ ss) [] (x ∷ xs) k l = let m : 0 ≡ suc (length xs) = l in absurd (omega (arith, m))
  set_edges p z (Link b ∷ ss) (e ∷ es) [] k l = let m : suc (length es) ≡ 0 = l in absurd (omega (arith, m))
  set_edges zero z (Link c ∷ ss) (e ∷ es) (x ∷ xs) k l =
      an_edge (Link c) z z (same_below (Link c) z) (others_same k)
  set_edges (suc p) z (Link c ∷ ss) (e ∷ es) (x ∷ xs) k l =
      let m : suc (length es) ≡ suc (length xs) = l in
      an_edge (Link c) e x (first_same k) (set_edges p z ss es xs (others_same k) (omega (arith, m)))

-- Where two cells have the same marks and one edge alone differs, in that its end is a leaf in one and a cell in the
-- other, its box gives nothing, and so it does not lead back.

insert_long : (x : ℕ) (xs : List ℕ) → length (insert x xs) ≡ suc (length xs)
insert_long x [] = refl
insert_long x (y ∷ ys) = here (nat_le x y) (insert_long x ys)
  where
    here : (b : Bool) → length (insert x ys) ≡ suc (length ys)
        → length (cond b (x ∷ y ∷ ys) (y ∷ insert x ys)) ≡ suc (suc (length ys))
    here true e = refl
    here false e = ap (λ k. suc k) e

ordered_long : (xs : List ℕ) → length (in_order xs) ≡ length xs
ordered_long [] = refl
ordered_long (x ∷ xs) = insert_long x (in_order xs) ∙ ap (λ k. suc k) (ordered_long xs)

none_of : (xs : List ℕ) → length xs ≡ 0 → xs ≡ []
none_of [] e = refl
none_of (x ∷ xs) e = let z : suc (length xs) ≡ 0 = e in absurd (omega (arith, z))

-- equal lists of marks over one list of roots are equal at each root
abbrev first_or : RefMark → List RefMark → RefMark
first_or d [] = d
first_or d (x ∷ xs) = x

abbrev rest_of : List RefMark → List RefMark
rest_of [] = []
rest_of (x ∷ xs) = xs

map_at : (f g : ℕ → RefMark) (rs : List ℕ) → map f rs ≡ map g rs → (k : ℕ) → has k rs ≡ true → f k ≡ g k
map_at f g [] e k h = absurd (true≢false (sym h))
map_at f g (r ∷ rs) e k h = here (nat_eq k r) refl h (map_at f g rs (ap rest_of e) k)
  where
    here : (b : Bool) → nat_eq k r ≡ b → (b || has k rs) ≡ true → (has k rs ≡ true → f k ≡ g k) → f k ≡ g k
    here true z h n = ap f (eqb-true k r z) ∙ ap (first_or (f r)) e ∙ ap g (sym (eqb-true k r z))
    here false z h n = n h

module _ (bs : List BoxFace) where
  abbrev roots_at : Slot × Below → List ℕ
  roots_at e = roots_in e.1.marks

  abbrev with_edge : List (Slot × Below) → Slot × Below → List (Slot × Below) → List (Slot × Below)
  with_edge pre e post = pre ++ e ∷ post

  abbrev end_of : Bool → List RefMark → Below
  end_of l ms = record { leaf = l; marks = ms }

  -- what the root's mark has provided is the same
  provided_same : (s : Slot) (l m : Bool) (n : ℕ) (pre post : List (Slot × Below))
      → cell_marks bs (with_edge pre (s, end_of l (leaf_mark n ∷ [])) post)
      ≡ cell_marks bs (with_edge pre (s, end_of m (leaf_mark n ∷ [])) post)
      → in_order (provided_at bs n (with_edge pre (s, end_of l (leaf_mark n ∷ [])) post))
      ≡ in_order (provided_at bs n (with_edge pre (s, end_of m (leaf_mark n ∷ [])) post))
  provided_same s l m n pre post e =
      ap (λ (x : RefMark). x.provided)
      (map_at (cell_mark bs (es l) (cell_roots (es l))) (cell_mark bs (es m) (cell_roots (es l))) (cell_roots (es l))
      (e ∙ ap (λ (rs : List ℕ). map (cell_mark bs (es m) rs) rs) (same m l)) n there)
    where
      es : Bool → List (Slot × Below)
      es k = with_edge pre (s, end_of k (leaf_mark n ∷ [])) post

      flat : (k : Bool) → flat_map roots_at (es k) ≡ flat_map roots_at pre ++ n ∷ flat_map roots_at post
      flat k = flat_map-append roots_at pre ((s, end_of k (leaf_mark n ∷ [])) ∷ post)

      same : (k j : Bool) → cell_roots (es k) ≡ cell_roots (es j)
      same k j = ap (λ (l : List ℕ). once l) (flat k ∙ sym (flat j))

      there : has n (cell_roots (es l)) ≡ true
      there = has_once n (flat_map roots_at (es l)) ∙ ap (has n) (flat l)
          ∙ has_right n (flat_map roots_at pre) (n ∷ flat_map roots_at post)
          (or_left (nat_eq n n) (has n (flat_map roots_at post)) (eq-eqb n n refl))

  own_mark : (n : ℕ) → mark_of n (leaf_mark n ∷ []) ≡ Some (leaf_mark n)
  own_mark n = ap (λ (b : Bool). if b then Some (leaf_mark n) else None) (eq-eqb n n refl)

  -- so the box gives nothing
  gives_none : (b n : ℕ) (pre post : List (Slot × Below))
      → cell_marks bs (with_edge pre (Link b, end_of true (leaf_mark n ∷ [])) post)
      ≡ cell_marks bs (with_edge pre (Link b, end_of false (leaf_mark n ∷ [])) post) → gives_out_of bs b ≡ []
  gives_none b n pre post e =
      let x = long true in
      let y = long false in
      let z = ap length (provided_same (Link b) true false n pre post e) in
      let u = ap (λ (o : Option RefMark). length (provided_in bs o (Link b) true)) (own_mark n) in
      let v = ap (λ (o : Option RefMark). length (provided_in bs o (Link b) false)) (own_mark n) in
      none_of (gives_out_of bs b) (omega (arith, x, y, z, u, v))
    where
      adds : Slot × Below → List ℕ
      adds p = provided_in bs (mark_of n p.1.marks) p.0 p.1.leaf

      long : (l : Bool)
          → length (in_order (provided_at bs n (with_edge pre (Link b, end_of l (leaf_mark n ∷ [])) post)))
          ≡ length (provided_at bs n pre) + (length (provided_in bs (mark_of n (leaf_mark n ∷ [])) (Link b) l)
          + length (provided_at bs n post))
      long l =
          ordered_long (provided_at bs n (with_edge pre (Link b, end_of l (leaf_mark n ∷ [])) post))
          ∙ ap length (flat_map-append adds pre ((Link b, end_of l (leaf_mark n ∷ [])) ∷ post))
          ∙ length-append (provided_at bs n pre)
          (provided_in bs (mark_of n (leaf_mark n ∷ [])) (Link b) l ++ provided_at bs n post)
          ∙ ap (λ k. length (provided_at bs n pre) + k)
          (length-append (provided_in bs (mark_of n (leaf_mark n ∷ [])) (Link b) l) (provided_at bs n post))

  -- a box that gives nothing does not lead back
  no_way : (b : ℕ) → SlotGives bs (Link b) → gives_out_of bs b ≡ [] → back_of bs b ≡ false
  no_way b g e = here (back_of bs b) refl
    where
      here : (c : Bool) → back_of bs b ≡ c → c ≡ false
      here true h = absurd (g h e)
      here false h = refl

  -- Then it has no effect whether a leaf stands at the end.
  abbrev IsQuiet : ℕ → List RefMark → Type 0
  IsQuiet b ms = (ms ≡ []) ⊎ ((n : ℕ) × (ms ≡ leaf_mark n ∷ []) × (gives_out_of bs b ≡ []) × (back_of bs b ≡ false))

  -- none, or the leaf's
  one_mark : (r n : ℕ) → (mark_of r (leaf_mark n ∷ []) ≡ None) ⊎ (mark_of r (leaf_mark n ∷ []) ≡ Some (leaf_mark n))
  one_mark r n = here (nat_eq r n)
    where
      here : (b : Bool) → ((if b then Some (leaf_mark n) else None) ≡ None)
          ⊎ ((if b then Some (leaf_mark n) else None) ≡ Some (leaf_mark n))
      here true = inr refl
      here false = inl refl

  quiet_by : {X : Type 0} (f : Option RefMark → Bool → X) (b : ℕ) (ms : List RefMark) → IsQuiet b ms
      → ((l k : Bool) → f None l ≡ f None k)
      → ((n : ℕ) (l k : Bool) → gives_out_of bs b ≡ [] → back_of bs b ≡ false
      → f (Some (leaf_mark n)) l ≡ f (Some (leaf_mark n)) k)
      → (r : ℕ) (l k : Bool) → f (mark_of r ms) l ≡ f (mark_of r ms) k
  quiet_by f b ms (inl e) none some r l k = at (mark_of r ms) (ap (mark_of r) e)
    where
      at : (o : Option RefMark) → o ≡ None → f o l ≡ f o k
      at o z = ap (λ (m : Option RefMark). f m l) z ∙ none l k ∙ sym (ap (λ (m : Option RefMark). f m k) z)
  quiet_by f b ms (inr (n, e, g, w)) none some r l k = elim (one_mark r n) [
    | inl z ↦ at None (ap (mark_of r) e ∙ z) (none l k)
    | inr z ↦ at (Some (leaf_mark n)) (ap (mark_of r) e ∙ z) (some n l k g w)
  ]
    where
      at : (o : Option RefMark) → mark_of r ms ≡ o → f o l ≡ f o k → f (mark_of r ms) l ≡ f (mark_of r ms) k
      at o z h = ap (λ (m : Option RefMark). f m l) z ∙ h ∙ sym (ap (λ (m : Option RefMark). f m k) z)

  leaf_gives : (b n : ℕ) (l : Bool) → gives_out_of bs b ≡ [] → provided_in bs (Some (leaf_mark n)) (Link b) l ≡ []
  leaf_gives b n true g = g
  leaf_gives b n false g = refl

  -- what is added is told by the marks alone
  by_marks : (s : Slot) (e x : Below) → e.marks ≡ x.marks
      → ((r : ℕ) (l k : Bool) → provided_in bs (mark_of r x.marks) s l ≡ provided_in bs (mark_of r x.marks) s k)
      → ((r : ℕ) (l k : Bool) → back_in bs (mark_of r x.marks) s l ≡ back_in bs (mark_of r x.marks) s k)
      → ((rs : List ℕ) (r : ℕ) (l k : Bool) → reach_in bs rs (mark_of r x.marks) s l
      ≡ reach_in bs rs (mark_of r x.marks) s k) → AddsSame bs s e x
  by_marks s e x m p b w = record {
    marks = m;
    provided = λ r. ap (λ (ms : List RefMark). provided_in bs (mark_of r ms) s e.leaf) m ∙ p r e.leaf x.leaf;
    back = λ r. ap (λ (ms : List RefMark). back_in bs (mark_of r ms) s e.leaf) m ∙ b r e.leaf x.leaf;
    reach = λ rs r. ap (λ (ms : List RefMark). reach_in bs rs (mark_of r ms) s e.leaf) m ∙ w rs r e.leaf x.leaf;
  }

  quiet_same : (b : ℕ) (e x : Below) → e.marks ≡ x.marks → IsQuiet b x.marks → AddsSame bs (Link b) e x
  quiet_same b e x m q = by_marks (Link b) e x m
      (quiet_by (λ o l. provided_in bs o (Link b) l) b x.marks q (λ l k. refl)
      (λ n l k g w. leaf_gives b n l g ∙ sym (leaf_gives b n k g)))
      (quiet_by (λ o l. back_in bs o (Link b) l) b x.marks q (λ l k. refl) (λ n l k g w. rw w refl))
      (λ rs. quiet_by (λ o l. reach_in bs rs o (Link b) l) b x.marks q (λ l k. refl) (λ n l k g w. rw w refl))

  -- at a field, and at no end at all, leaves and cells add the same
  pub field_same : (f : ℕ) (e x : Below) → e.marks ≡ x.marks → AddsSame bs (Field f) e x
  field_same f e x m = by_marks (Field f) e x m (λ r l k. provided (mark_of r x.marks) l k)
      (λ r l k. back (mark_of r x.marks) l k) (λ rs r l k. reach rs (mark_of r x.marks) l k)
    where
      provided : (o : Option RefMark) (l k : Bool) → provided_in bs o (Field f) l ≡ provided_in bs o (Field f) k
      provided None l k = refl
      provided (Some m) l k = refl

      back : (o : Option RefMark) (l k : Bool) → back_in bs o (Field f) l ≡ back_in bs o (Field f) k
      back None l k = refl
      back (Some m) l k = refl

      reach : (rs : List ℕ) (o : Option RefMark) (l k : Bool) → reach_in bs rs o (Field f) l
          ≡ reach_in bs rs o (Field f) k
      reach rs None l k = refl
      reach rs (Some m) l k = refl

  -- Where the one end is a leaf and the other a cell of its signature.
  quiet : (b : ℕ) → SlotGives bs (Link b) → (ms : List RefMark) → AreLeafs ms → (pre post : List (Slot × Below))
      → cell_marks bs (with_edge pre (Link b, end_of true ms) post)
      ≡ cell_marks bs (with_edge pre (Link b, end_of false ms) post) → IsQuiet b ms
  quiet b g ms (inl e) pre post h = inl e
  quiet b g ms (inr (n, e)) pre post h =
      let z = gives_none b n pre post
      (ap (λ (xs : List RefMark). cell_marks bs (with_edge pre (Link b, end_of true xs) post)) (sym e) ∙ h
      ∙ ap (λ (xs : List RefMark). cell_marks bs (with_edge pre (Link b, end_of false xs) post)) e) in
      inr (n, e, z, no_way b g z)

  -- two ends of one signature, a leaf's where one of them is one, that make the same marks somewhere, make them
  -- everywhere
  pub link_same : (b : ℕ) → SlotGives bs (Link b) → (e x : Below) → e.marks ≡ x.marks
      → (e.leaf ≡ true → AreLeafs e.marks) → (x.leaf ≡ true → AreLeafs x.marks) → (pre post : List (Slot × Below))
      → cell_marks bs (with_edge pre (Link b, e) post) ≡ cell_marks bs (with_edge pre (Link b, x) post)
      → AddsSame bs (Link b) e x
  link_same b g e x m le lx pre post h = by_leaf e.leaf x.leaf refl refl
    where
      both : (l k : Bool) → e.leaf ≡ l → x.leaf ≡ k → cell_marks bs (with_edge pre (Link b, end_of l x.marks) post)
          ≡ cell_marks bs (with_edge pre (Link b, end_of k x.marks) post)
      both l k i j =
          ap₂ (λ (z : Bool) (ms : List RefMark). cell_marks bs (with_edge pre (Link b, end_of z ms) post)) (sym i)
          (sym m)
          ∙ h
          ∙ ap (λ (z : Bool). cell_marks bs (with_edge pre (Link b, end_of z x.marks) post)) j

      alike : (l : Bool) → e.leaf ≡ l → x.leaf ≡ l → AddsSame bs (Link b) e x
      alike l i j = record {
        marks = m;
        provided = λ r. ap₂ (λ (ms : List RefMark) (z : Bool). provided_in bs (mark_of r ms) (Link b) z) m (i ∙ sym j);
        back = λ r. ap₂ (λ (ms : List RefMark) (z : Bool). back_in bs (mark_of r ms) (Link b) z) m (i ∙ sym j);
        reach =
            λ rs r. ap₂ (λ (ms : List RefMark) (z : Bool). reach_in bs rs (mark_of r ms) (Link b) z) m (i ∙ sym j);
      }

      by_leaf : (l k : Bool) → e.leaf ≡ l → x.leaf ≡ k → AddsSame bs (Link b) e x
      by_leaf true true i j = alike true i j
      by_leaf false false i j = alike false i j
      by_leaf true false i j = quiet_same b e x m
          (quiet b g x.marks (marks_leaf (le i)) pre post (both true false i j))
        where
          marks_leaf : AreLeafs e.marks → AreLeafs x.marks
          marks_leaf (inl z) = inl (sym m ∙ z)
          marks_leaf (inr (n, z)) = inr (n, sym m ∙ z)
      by_leaf false true i j = quiet_same b e x m
          (quiet b g x.marks (lx j) pre post (sym (both false true i j)))

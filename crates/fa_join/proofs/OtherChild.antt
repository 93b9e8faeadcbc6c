-- Two cells with one symbol whose children differ in one place, where the signatures are equal: they have one signature
-- where they give each root as many fields.
use Rattle.std.proofs.Common.{◌≡◌, ◌⊎◌, inl, inr, ℕ, zero, suc, ◌+◌, Bool, true, false, cond, nat_eq}
use Rattle.std.proofs.Common.{length, List, [], ◌∷◌, ◌++◌, flat_map, Option, Some, None}
use Rattle.std.proofs.Common.{slice_set, refl, sym, ap, ap₂, ◌∙◌, length-append, arith}
use Rattle.std.proofs.lemmas.Option.{none-some}
use Rattle.std.proofs.lemmas.Bool.{eq-eqb}
use Rattle.fore_base.specs.Lists.{IsIn, Every}
use Rattle.fore_base.proofs.ListLemmas.{every_in}
use Rattle.ta_core.specs.declared.symbol.Slot.{Slot}
use Rattle.ta_core.specs.declared.symbol.Slot.TheVariants.{Field, Link, Hook}
use Rattle.ta_core.specs.declared.tree.Tree.{Tree, out-Tree}
use Rattle.fa_core.specs.Canonical.{RefersTo}
use Rattle.fa_core.specs.Cells.{edges, is_leaf, below_of, cell_mark, cell_marks, cell_roots, leaf_mark, mark_of}
use Rattle.fa_core.specs.Cells.{provided_at, provided_in, roots_in}
use Rattle.fa_core.specs.Ways.{ways, back_of, gives_out_of, has, mark, roots_met, signature}
use Rattle.fa_core.specs.declared.faces.BoxFace.{BoxFace}
use Rattle.fa_core.specs.declared.signature.Below.{Below}
use Rattle.fa_core.specs.declared.signature.RefMark.{RefMark}
use Rattle.fa_core.proofs.Numbers.{has_right, has_once, or_left}
use Rattle.fa_core.proofs.Rearranging.{flat_map-append, long_same}
use Rattle.fa_core.proofs.Sorting.{ordered}
use Rattle.fa_core.proofs.WayParts.{way_roots}
use Rattle.fa_back.proofs.RootMarks.{has_in}
use Rattle.fa_sound.specs.inner.Owned.{fields_of_mark}
use Rattle.fa_sound.proofs.Between.{AreLeafs}
use Rattle.fa_sound.proofs.Given.{found_map, given_tree}
use Rattle.fa_sound.proofs.Mixed.{leaf_signature}
use Rattle.fa_split.specs.Giving.{SlotGives}
use Rattle.fa_split.proofs.EdgeMarks.{AddsSame, EdgesSame, no_edges, an_edge, cell_kept, field_same, link_same}
use Rattle.fa_join.proofs.GivenAlike.{GiveAlike, gift}

-- The edge of one child.

-- a slot that has a child
abbrev HasChild : Slot → Type 0
HasChild (Field f) = Unit {0}
HasChild (Link b) = Unit {0}
HasChild (Hook b) = ⊥

-- with another item at place p the edges differ in one, or they are the same
abbrev IsPlace : List Slot → List Below → ℕ → Type 0
IsPlace ss xs p = ((pre : List (Slot × Below)) × (post : List (Slot × Below)) × (s : Slot) × IsIn s ss × HasChild s
    × ((z : Below) → edges ss (slice_set xs p z) ≡ pre ++ (s, z) ∷ post))
    ⊎ ((z : Below) → edges ss (slice_set xs p z) ≡ edges ss xs)

edge_at : (ss : List Slot) (xs : List Below) (p : ℕ) → IsPlace ss xs p
edge_at [] xs p = inr (λ z. refl)
edge_at (Hook b ∷ ss) xs p = elim (edge_at ss xs p) [
  | inl k ↦ inl (k.0, k.1, k.2, inr k.3, k.4, k.5)
  | inr k ↦ inr k
]
edge_at (Field f ∷ ss) [] p = inr (λ z. refl)
edge_at (Field f ∷ ss) (x ∷ xs) zero = inl ([], edges ss xs, Field f, inl refl, tt, λ z. refl)
edge_at (Field f ∷ ss) (x ∷ xs) (suc p) = elim (edge_at ss xs p) [
  | inl k ↦ inl
      ((Field f, x) ∷ k.0, k.1, k.2, inr k.3, k.4, λ z. ap (λ (es : List (Slot × Below)). (Field f, x) ∷ es) (k.5 z))
  | inr k ↦ inr (λ z. ap (λ (es : List (Slot × Below)). (Field f, x) ∷ es) (k z))
]
edge_at (Link b ∷ ss) [] p = inr (λ z. refl)
edge_at (Link b ∷ ss) (x ∷ xs) zero = inl ([], edges ss xs, Link b, inl refl, tt, λ z. refl)
edge_at (Link b ∷ ss) (x ∷ xs) (suc p) = elim (edge_at ss xs p) [
  | inl k ↦ inl
      ((Link b, x) ∷ k.0, k.1, k.2, inr k.3, k.4, λ z. ap (λ (es : List (Slot × Below)). (Link b, x) ∷ es) (k.5 z))
  | inr k ↦ inr (λ z. ap (λ (es : List (Slot × Below)). (Link b, x) ∷ es) (k z))
]

module _ (bs : List BoxFace) where
  same_edges : (es : List (Slot × Below)) → EdgesSame bs es es
  same_edges [] = no_edges
  same_edges ((s, e) ∷ es) =
      an_edge s e e (record { marks = refl; provided = λ r. refl; back = λ r. refl; reach = λ rs r. refl })
      (same_edges es)

  -- one edge among others
  one_edge : (pre : List (Slot × Below)) (s : Slot) (e x : Below) (post : List (Slot × Below)) → AddsSame bs s e x
      → EdgesSame bs (pre ++ (s, e) ∷ post) (pre ++ (s, x) ∷ post)
  one_edge [] s e x post h = an_edge s e x h (same_edges post)
  one_edge ((y, z) ∷ pre) s e x post h =
      an_edge y z z (record { marks = refl; provided = λ r. refl; back = λ r. refl; reach = λ rs r. refl })
      (one_edge pre s e x post h)

  -- What a cell gives, by its edges.

  module _ (es : List (Slot × Below)) (t : Tree) (signs : signature bs t ≡ cell_marks bs es) (n : ℕ)
      (there : has n (cell_roots es) ≡ true) where
    marked : mark_of n (signature bs t) ≡ Some (cell_mark bs es (cell_roots es) n)
    marked = ap (mark_of n) signs
        ∙ found_map (cell_mark bs es (cell_roots es)) (λ k. refl) n (cell_roots es)
        ∙ ap (λ (b : Bool). cond b (Some (cell_mark bs es (cell_roots es) n)) None) there

    gift_told : length (gift bs n t) ≡ length (provided_at bs n es)
    gift_told = long_same (given_tree bs t n) ∙ ap (λ (o : Option RefMark). length (fields_of_mark o)) marked
        ∙ sym (long_same (ordered (provided_at bs n es)))

    refers : RefersTo t n
    refers = has_in n (way_roots (ways t)) (here (has n (way_roots (ways t))) refl)
      where
        by_ways : mark_of n (signature bs t) ≡ cond (has n (way_roots (ways t))) (Some (mark bs (ways t) n)) None
        by_ways = found_map (mark bs (ways t)) (λ k. refl) n (roots_met (ways t))
            ∙ ap (λ (b : Bool). cond b (Some (mark bs (ways t) n)) None) (has_once n (way_roots (ways t)))

        here : (b : Bool) → has n (way_roots (ways t)) ≡ b → b ≡ true
        here true e = refl
        here false e = absurd (none-some (cell_mark bs es (cell_roots es) n)
            (sym (ap (λ (b : Bool). cond b (Some (mark bs (ways t) n)) None) e) ∙ sym by_ways ∙ marked))

  -- A leaf and a cell at the end of a Link.

  abbrev end_of : Bool → List RefMark → Below
  end_of l ms = record { leaf = l; marks = ms }

  abbrev alone : ℕ → Bool → List RefMark → List (Slot × Below)
  alone b l ms = (Link b, end_of l ms) ∷ []

  own_mark : (n : ℕ) → mark_of n (leaf_mark n ∷ []) ≡ Some (leaf_mark n)
  own_mark n = ap (λ (b : Bool). cond b (Some (leaf_mark n)) None) (eq-eqb n n refl)

  met_there : (pre post : List (Slot × Below)) (s : Slot) (l : Bool) (ms : List RefMark) (n : ℕ) → ms ≡ leaf_mark n ∷ []
      → has n (cell_roots (pre ++ (s, end_of l ms) ∷ post)) ≡ true
  met_there pre post s l ms n e =
      has_once n (flat_map roots (pre ++ (s, end_of l ms) ∷ post))
      ∙ ap (has n) (flat_map-append roots pre ((s, end_of l ms) ∷ post))
      ∙ has_right n (flat_map roots pre) (roots_in ms ++ flat_map roots post)
      (ap (λ (z : List RefMark). has n (roots_in z ++ flat_map roots post)) e
      ∙ or_left (nat_eq n n) (has n (flat_map roots post)) (eq-eqb n n refl))
    where
      roots : Slot × Below → List ℕ
      roots x = roots_in x.1.marks

  counted : (pre post : List (Slot × Below)) (b : ℕ) (l : Bool) (ms : List RefMark) (n : ℕ) → ms ≡ leaf_mark n ∷ []
      → length (provided_at bs n (pre ++ (Link b, end_of l ms) ∷ post))
      ≡ length (provided_at bs n pre) + (length (provided_in bs (Some (leaf_mark n)) (Link b) l)
      + length (provided_at bs n post))
  counted pre post b l ms n e =
      ap length (flat_map-append adds pre ((Link b, end_of l ms) ∷ post))
      ∙ length-append (provided_at bs n pre) (provided_in bs (mark_of n ms) (Link b) l ++ provided_at bs n post)
      ∙ ap (λ k. length (provided_at bs n pre) + k)
      (length-append (provided_in bs (mark_of n ms) (Link b) l) (provided_at bs n post)
      ∙ ap (λ (o : Option RefMark). length (provided_in bs o (Link b) l) + length (provided_at bs n post))
      (ap (mark_of n) e ∙ own_mark n))
    where
      adds : Slot × Below → List ℕ
      adds x = provided_in bs (mark_of n x.1.marks) x.0 x.1.leaf

  none_of : (xs : List ℕ) → length xs ≡ 0 → xs ≡ []
  none_of [] e = refl
  none_of (x ∷ xs) e = let z : suc (length xs) ≡ 0 = e in absurd (omega (arith, z))

  -- where the box gives nothing it leads nowhere back, and neither is told from the other
  quiet_alone : (b n : ℕ) → SlotGives bs (Link b) → gives_out_of bs b ≡ []
      → cell_marks bs (alone b true (leaf_mark n ∷ [])) ≡ cell_marks bs (alone b false (leaf_mark n ∷ []))
  quiet_alone b n gives g = here (back_of bs b) refl
    where
      here : (c : Bool) → back_of bs b ≡ c
          → cell_marks bs (alone b true (leaf_mark n ∷ [])) ≡ cell_marks bs (alone b false (leaf_mark n ∷ []))
      here true w = absurd (gives w g)
      here false w = let o = eq-eqb n n refl in rw (o, g, w) refl

  -- Both cells.

  module _ (b : ℕ) (gives : SlotGives bs (Link b)) (pre post : List (Slot × Below)) (ms : List RefMark)
      (many : (n : ℕ) → ms ≡ leaf_mark n ∷ []
      → length (provided_at bs n (pre ++ (Link b, end_of true ms) ∷ post))
      ≡ length (provided_at bs n (pre ++ (Link b, end_of false ms) ∷ post))) where
    gives_none : (n : ℕ) → ms ≡ leaf_mark n ∷ [] → gives_out_of bs b ≡ []
    gives_none n e =
        let x = counted pre post b true ms n e in
        let y = counted pre post b false ms n e in
        let z = many n e in
        none_of (gives_out_of bs b) (omega (arith, x, y, z))

    leafs_alone : AreLeafs ms → cell_marks bs (alone b true ms) ≡ cell_marks bs (alone b false ms)
    leafs_alone (inl e) =
        ap (λ (z : List RefMark). cell_marks bs (alone b true z)) e
        ∙ sym (ap (λ (z : List RefMark). cell_marks bs (alone b false z)) e)
    leafs_alone (inr (n, e)) =
        ap (λ (z : List RefMark). cell_marks bs (alone b true z)) e ∙ quiet_alone b n gives (gives_none n e)
        ∙ sym (ap (λ (z : List RefMark). cell_marks bs (alone b false z)) e)

  module _ (v w : Tree) (same : signature bs v ≡ signature bs w) (pre post : List (Slot × Below)) where
    abbrev with_v : Slot → List (Slot × Below)
    with_v s = pre ++ (s, below_of bs v) ∷ post

    abbrev with_w : Slot → List (Slot × Below)
    with_w s = pre ++ (s, below_of bs w) ∷ post

    -- at the end of a Link
    link_adds : (b : ℕ) → SlotGives bs (Link b)
        → ((n : ℕ) → has n (cell_roots (with_v (Link b))) ≡ true → has n (cell_roots (with_w (Link b))) ≡ true
        → length (provided_at bs n (with_v (Link b))) ≡ length (provided_at bs n (with_w (Link b))))
        → AddsSame bs (Link b) (below_of bs v) (below_of bs w)
    link_adds b gives many =
        link_same bs b gives (below_of bs v) (below_of bs w) same (leaf_signature bs v) (leaf_signature bs w) [] []
        (by (is_leaf (out-Tree v).symbol) (is_leaf (out-Tree w).symbol) refl refl)
      where
        ends : Bool → List RefMark → List (Slot × Below)
        ends l ms = pre ++ (Link b, end_of l ms) ∷ post

        counts : (l k : Bool) → is_leaf (out-Tree v).symbol ≡ l → is_leaf (out-Tree w).symbol ≡ k → (ms : List RefMark)
            → signature bs v ≡ ms → (n : ℕ) → ms ≡ leaf_mark n ∷ []
            → length (provided_at bs n (ends l ms)) ≡ length (provided_at bs n (ends k ms))
        counts l k i j ms h n e =
            ap₂ (λ (z : Bool) (y : List RefMark). length (provided_at bs n (ends z y))) (sym i) (sym h)
            ∙ many n (met_there pre post (Link b) (is_leaf (out-Tree v).symbol) (signature bs v) n (h ∙ e))
            (met_there pre post (Link b) (is_leaf (out-Tree w).symbol) (signature bs w) n (sym same ∙ h ∙ e))
            ∙ ap₂ (λ (z : Bool) (y : List RefMark). length (provided_at bs n (ends z y))) j (sym same ∙ h)

        both : (l k : Bool) → is_leaf (out-Tree v).symbol ≡ l → is_leaf (out-Tree w).symbol ≡ k
            → cell_marks bs (alone b l (signature bs w)) ≡ cell_marks bs (alone b k (signature bs w))
            → cell_marks bs (alone b (is_leaf (out-Tree v).symbol) (signature bs v))
            ≡ cell_marks bs (alone b (is_leaf (out-Tree w).symbol) (signature bs w))
        both l k i j h =
            ap₂ (λ (z : Bool) (y : List RefMark). cell_marks bs (alone b z y)) i same ∙ h
            ∙ ap (λ (z : Bool). cell_marks bs (alone b z (signature bs w))) (sym j)

        by : (l k : Bool) → is_leaf (out-Tree v).symbol ≡ l → is_leaf (out-Tree w).symbol ≡ k
            → cell_marks bs (alone b (is_leaf (out-Tree v).symbol) (signature bs v))
            ≡ cell_marks bs (alone b (is_leaf (out-Tree w).symbol) (signature bs w))
        by true true i j = both true true i j refl
        by false false i j = both false false i j refl
        by true false i j = both true false i j
            (leafs_alone b gives pre post (signature bs w) (counts true false i j (signature bs w) same)
            (elim (leaf_signature bs v i) [
              | inl e ↦ inl (sym same ∙ e)
              | inr (n, e) ↦ inr (n, sym same ∙ e)
            ]))
        by false true i j = both false true i j
            (sym (leafs_alone b gives pre post (signature bs w)
            (λ n e. sym (counts false true i j (signature bs w) same n e)) (leaf_signature bs w j)))

    child_adds : (s : Slot) → HasChild s → SlotGives bs s
        → ((n : ℕ) → has n (cell_roots (with_v s)) ≡ true → has n (cell_roots (with_w s)) ≡ true
        → length (provided_at bs n (with_v s)) ≡ length (provided_at bs n (with_w s)))
        → AddsSame bs s (below_of bs v) (below_of bs w)
    child_adds (Field f) c gives many = field_same bs f (below_of bs v) (below_of bs w) same
    child_adds (Link b) c gives many = link_adds b gives many
    child_adds (Hook b) c gives many = absurd c

  -- the law: cells that differ in one child, where signatures are equal
  pub other_child : (ss : List Slot) → Every (SlotGives bs) ss → (us : List Below) (p : ℕ) (v w : Tree)
      → signature bs v ≡ signature bs w → (t u : Tree)
      → signature bs t ≡ cell_marks bs (edges ss (slice_set us p (below_of bs v)))
      → signature bs u ≡ cell_marks bs (edges ss (slice_set us p (below_of bs w)))
      → GiveAlike bs t u → signature bs t ≡ signature bs u
  other_child ss gives us p v w same t u st su alike = elim (edge_at ss us p) [
    | inr k ↦ st ∙ ap (cell_marks bs) (k (below_of bs v) ∙ sym (k (below_of bs w))) ∙ sym su
    | inl (pre, post, s, i, c, k) ↦ (
        let tv : signature bs t ≡ cell_marks bs (pre ++ (s, below_of bs v) ∷ post) =
        st ∙ ap (cell_marks bs) (k (below_of bs v)) in
        let uw : signature bs u ≡ cell_marks bs (pre ++ (s, below_of bs w) ∷ post) =
        su ∙ ap (cell_marks bs) (k (below_of bs w)) in
        tv
        ∙ cell_kept bs (one_edge pre s (below_of bs v) (below_of bs w) post
        (child_adds v w same pre post s c (every_in (SlotGives bs) ss s gives i)
        (λ n x y. sym (gift_told (pre ++ (s, below_of bs v) ∷ post) t tv n x)
        ∙ alike n (refers (pre ++ (s, below_of bs v) ∷ post) t tv n x)
        ∙ gift_told (pre ++ (s, below_of bs w) ∷ post) u uw n y)))
        ∙ sym uw)
  ]

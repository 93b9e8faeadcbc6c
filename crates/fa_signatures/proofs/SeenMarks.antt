-- Where a slot does not tell a leaf from a cell of one signature, both make the same marks above it.
use Rattle.std.proofs.Common.{◌≡◌, ◌⊎◌, inl, inr, ℕ, Bool, true, false, true≢false, ◌||◌, ◌&&◌}
use Rattle.std.proofs.Common.{if◌then◌else◌, List, [], ◌∷◌, ◌++◌, map, filter, flat_map, Option, Some, None, slice_get}
use Rattle.std.proofs.Common.{refl, sym, ap, ap₂, ◌∙◌}
use Rattle.fore_base.specs.Lists.{Every}
use Rattle.ta_core.specs.declared.symbol.Slot.{Slot}
use Rattle.ta_core.specs.declared.symbol.Slot.TheVariants.{Field, Link, Hook}
use Rattle.ta_core.specs.declared.symbol.Symbol.{Symbol}
use Rattle.ta_core.specs.declared.symbol.Symbol.TheVariants.{Null, Uninit, Dangling, Ref, Cell}
use Rattle.fa_core.specs.declared.faces.BoxFace.{BoxFace}
use Rattle.fa_core.specs.declared.signature.RefMark.{RefMark}
use Rattle.fa_core.specs.declared.signature.Below.{Below}
use Rattle.fa_core.specs.Rearranged.{in_order}
use Rattle.fa_core.specs.Ways.{has, once, is_back, leads_through, fields_out}
use Rattle.fa_core.specs.Cells.{edges, mark_of, many_with, many_from, provided_in, provided_at, back_in, back_at}
use Rattle.fa_core.specs.Cells.{reach_in, reach_at, cell_mark, cell_roots, cell_marks, roots_in, leaf_mark, marks_by}
use Rattle.fa_core.proofs.CellMarks.{same_made, map_same}
use Rattle.fa_sound.proofs.Between.{AreLeafs, leaf_found}
use Rattle.fa_signatures.specs.inner.Telling.{has_some, tells_by, tells, told_ends, told_below}

-- at the end of the slot, e makes the marks of x
abbrev pub IsSeenBy : List BoxFace → Slot → Below → Below → Type 0
IsSeenBy bs s e x = (e ≡ x) ⊎ ((tells bs s ≡ false) × (e.marks ≡ x.marks) × AreLeafs x.marks)

-- so it is edge by edge
pub data EdgesSeen (bs : List BoxFace) : List (Slot × Below) → List (Slot × Below) → Type 0 where
  no_edges : EdgesSeen bs [] []
  an_edge : (s : Slot) (e x : Below) {es xs : List (Slot × Below)} → IsSeenBy bs s e x → EdgesSeen bs es xs
      → EdgesSeen bs ((s, e) ∷ es) ((s, x) ∷ xs)

-- as a child of the state, e makes the marks of x wherever the state may stand
abbrev pub IsSeenAt : List ℕ → ℕ → Below → Below → Type 0
IsSeenAt told q e x = (e ≡ x) ⊎ ((has q told ≡ false) × (e.marks ≡ x.marks) × AreLeafs x.marks)

-- so it is child by child
pub data SeenEach (told : List ℕ) : List ℕ → List Below → List Below → Type 0 where
  none_seen : SeenEach told [] [] []
  more_seen : (q : ℕ) (e x : Below) {qs : List ℕ} {es xs : List Below} → IsSeenAt told q e x
      → SeenEach told qs es xs → SeenEach told (q ∷ qs) (e ∷ es) (x ∷ xs)

-- no mark, or that of a leaf
abbrev IsLeafMark : Option RefMark → Type 0
IsLeafMark o = (o ≡ None) ⊎ ((n : ℕ) × (o ≡ Some (leaf_mark n)))

-- a box that does not tell gives nothing, and does not lead back
tells_nothing : (o : Option BoxFace) → tells_by o ≡ false → (leads_through o ≡ false) × (fields_out o ≡ [])
tells_nothing None e = (refl, refl)
tells_nothing (Some x) e = here x.back x.gives_out e
  where
    here : (b : Bool) (fs : List ℕ) → (b || has_some fs) ≡ false → (b ≡ false) × (fs ≡ [])
    here true fs e = absurd (true≢false e)
    here false [] e = (refl, refl)
    here false (f ∷ fs) e = absurd (true≢false e)

module _ (bs : List BoxFace) where
  not_back : (s : Slot) → tells bs s ≡ false → is_back bs s ≡ false
  not_back (Field f) e = refl
  not_back (Link b) e = (tells_nothing (slice_get bs b) e).0
  not_back (Hook b) e = refl

  leaf_provides : (n : ℕ) (s : Slot) (l : Bool) → tells bs s ≡ false → provided_in bs (Some (leaf_mark n)) s l ≡ []
  leaf_provides n (Field f) l e = refl
  leaf_provides n (Link b) true e = (tells_nothing (slice_get bs b) e).1
  leaf_provides n (Link b) false e = refl
  leaf_provides n (Hook b) l e = refl

  provided_leaf : (o : Option RefMark) (s : Slot) (l k : Bool) → tells bs s ≡ false → IsLeafMark o
      → provided_in bs o s l ≡ provided_in bs o s k
  provided_leaf o s l k e (inl z) = ap (λ (m : Option RefMark). provided_in bs m s l) z
      ∙ sym (ap (λ (m : Option RefMark). provided_in bs m s k) z)
  provided_leaf o s l k e (inr (n, z)) = ap (λ (m : Option RefMark). provided_in bs m s l) z ∙ leaf_provides n s l e
      ∙ sym (ap (λ (m : Option RefMark). provided_in bs m s k) z ∙ leaf_provides n s k e)

  back_leaf : (o : Option RefMark) (s : Slot) (l k : Bool) → is_back bs s ≡ false → back_in bs o s l ≡ back_in bs o s k
  back_leaf None s l k e = refl
  back_leaf (Some m) s l k e = here (is_back bs s) e
    where
      here : (b : Bool) → b ≡ false → (b && (l || m.back)) ≡ (b && (k || m.back))
      here true z = absurd (true≢false z)
      here false z = refl

  reach_leaf : (rs : List ℕ) (o : Option RefMark) (s : Slot) (l k : Bool) → is_back bs s ≡ false
      → reach_in bs rs o s l ≡ reach_in bs rs o s k
  reach_leaf rs None s l k e = refl
  reach_leaf rs (Some m) s l k e = here (is_back bs s) e
    where
      here : (b : Bool) → b ≡ false → (if b && (l || m.back) then rs else m.reach)
          ≡ (if b && (k || m.back) then rs else m.reach)
      here true z = absurd (true≢false z)
      here false z = refl

  -- what an edge adds is the same
  one_edge : {X : Type 0} (f : List RefMark → Bool → X) (s : Slot) (e x : Below) → IsSeenBy bs s e x
      → (tells bs s ≡ false → (ms : List RefMark) (l k : Bool) → AreLeafs ms → f ms l ≡ f ms k)
      → f e.marks e.leaf ≡ f x.marks x.leaf
  one_edge f s e x (inl i) h = ap (λ (b : Below). f b.marks b.leaf) i
  one_edge f s e x (inr (n, m, a)) h = ap (λ (ms : List RefMark). f ms e.leaf) m ∙ h n x.marks e.leaf x.leaf a

  seen_marks : (s : Slot) (e x : Below) → IsSeenBy bs s e x → e.marks ≡ x.marks
  seen_marks s e x i = one_edge (λ ms l. ms) s e x i (λ n ms l k a. refl)

  many_seen : (one : Bool) (r : ℕ) {es xs : List (Slot × Below)} → EdgesSeen bs es xs
      → many_from one r es ≡ many_from one r xs
  many_seen one r no_edges = refl
  many_seen one r (an_edge s e x {es = es} i k) =
      ap (λ (ms : List RefMark). many_with one (mark_of r ms) (many_from one r es) (many_from true r es))
      (seen_marks s e x i)
      ∙ ap₂ (λ (a b : Bool). many_with one (mark_of r x.marks) a b) (many_seen one r k) (many_seen true r k)

  provided_seen : (r : ℕ) {es xs : List (Slot × Below)} → EdgesSeen bs es xs → provided_at bs r es ≡ provided_at bs r xs
  provided_seen r no_edges = refl
  provided_seen r (an_edge s e x i k) = ap₂ (λ (u v : List ℕ). u ++ v)
      (one_edge (λ ms l. provided_in bs (mark_of r ms) s l) s e x i
      (λ n ms l j a. provided_leaf (mark_of r ms) s l j n (leaf_found r ms a)))
      (provided_seen r k)

  back_seen : (r : ℕ) {es xs : List (Slot × Below)} → EdgesSeen bs es xs → back_at bs r es ≡ back_at bs r xs
  back_seen r no_edges = refl
  back_seen r (an_edge s e x i k) = ap₂ (λ (a b : Bool). a || b)
      (one_edge (λ ms l. back_in bs (mark_of r ms) s l) s e x i
      (λ n ms l j a. back_leaf (mark_of r ms) s l j (not_back s n)))
      (back_seen r k)

  reach_seen : (rs : List ℕ) (r : ℕ) {es xs : List (Slot × Below)} → EdgesSeen bs es xs
      → reach_at bs rs r es ≡ reach_at bs rs r xs
  reach_seen rs r no_edges = refl
  reach_seen rs r (an_edge s e x i k) = ap₂ (λ (u v : List ℕ). u ++ v)
      (one_edge (λ ms l. reach_in bs rs (mark_of r ms) s l) s e x i
      (λ n ms l j a. reach_leaf rs (mark_of r ms) s l j (not_back s n)))
      (reach_seen rs r k)

  roots_seen : {es xs : List (Slot × Below)} → EdgesSeen bs es xs
      → flat_map (λ (e : Slot × Below). roots_in e.1.marks) es ≡ flat_map (λ (e : Slot × Below). roots_in e.1.marks) xs
  roots_seen no_edges = refl
  roots_seen (an_edge s e x i k) = ap₂ (λ (u v : List ℕ). u ++ v) (ap roots_in (seen_marks s e x i)) (roots_seen k)

  cell_seen : {es xs : List (Slot × Below)} → EdgesSeen bs es xs → cell_marks bs es ≡ cell_marks bs xs
  cell_seen {es} {xs} k =
      let e : cell_roots es ≡ cell_roots xs = ap (λ (l : List ℕ). once l) (roots_seen k) in
      ap (λ (l : List ℕ). map (cell_mark bs es l) l) e
      ∙ map_same bs [] (cell_mark bs es (cell_roots xs)) (cell_mark bs xs (cell_roots xs)) (cell_roots xs)
      (λ r. same_made r _ _ _ _ _ _ _ _ (many_seen false r k)
      (ap (λ (l : List ℕ). in_order l) (provided_seen r k)) (back_seen r k)
      (ap (λ (l : List ℕ). filter (λ n. has n l) (cell_roots xs)) (reach_seen (cell_roots xs) r k)))

  module _ (told : List ℕ) where
    -- where the slot tells, the state at its end is one of those whose leaves are told from cells
    abbrev IsToldEnd : Slot × ℕ → Type 0
    IsToldEnd e = tells bs e.0 ≡ true → has e.1 told ≡ true

    abbrev pub IsTold : ℕ → Type 0
    IsTold q = has q told ≡ true

    ends_told : (es : List (Slot × ℕ)) → Every IsTold (told_ends bs es) → Every IsToldEnd es
    ends_told [] h = tt
    ends_told (e ∷ es) h = here (tells bs e.0) refl (ends_told es) h
      where
        here : (b : Bool) → tells bs e.0 ≡ b → (Every IsTold (told_ends bs es) → Every IsToldEnd es)
            → Every IsTold (map (λ (x : Slot × ℕ). x.1)
            (if b then e ∷ filter (λ (x : Slot × ℕ). tells bs x.0) es else filter (λ (x : Slot × ℕ). tells bs x.0) es))
            → IsToldEnd e × Every IsToldEnd es
        here true z f h = ((λ _. h.0), f h.1)
        here false z f h = ((λ w. absurd (true≢false (sym w ∙ z))), f h)

    at_slot : (s : Slot) (q : ℕ) (e x : Below) → IsSeenAt told q e x → IsToldEnd (s, q) → IsSeenBy bs s e x
    at_slot s q e x (inl i) c = inl i
    at_slot s q e x (inr (n, m, a)) c = inr (here (tells bs s) refl, m, a)
      where
        here : (b : Bool) → tells bs s ≡ b → tells bs s ≡ false
        here true z = absurd (true≢false (sym (c z) ∙ n))
        here false z = z

    edges_seen : (ss : List Slot) {qs : List ℕ} {es xs : List Below} → SeenEach told qs es xs
        → Every IsToldEnd (edges ss qs) → EdgesSeen bs (edges ss es) (edges ss xs)
    edges_seen [] k c = no_edges
    edges_seen (Hook b ∷ ss) k c = edges_seen ss k c
    edges_seen (Field f ∷ ss) none_seen c = no_edges
    edges_seen (Field f ∷ ss) (more_seen q e x i k) c =
        an_edge (Field f) e x (at_slot (Field f) q e x i c.0) (edges_seen ss k c.1)
    edges_seen (Link b ∷ ss) none_seen c = no_edges
    edges_seen (Link b ∷ ss) (more_seen q e x i k) c =
        an_edge (Link b) e x (at_slot (Link b) q e x i c.0) (edges_seen ss k c.1)

    -- the marks by a symbol follow from what is seen of the children
    pub marks_seen : (y : Symbol) (qs : List ℕ) {es xs : List Below} → SeenEach told qs es xs
        → Every IsTold (told_below bs y qs) → marks_by bs y es ≡ marks_by bs y xs
    marks_seen Null qs k c = refl
    marks_seen Uninit qs k c = refl
    marks_seen Dangling qs k c = refl
    marks_seen (Ref r) qs k c = refl
    marks_seen (Cell s ds ss) qs k c = cell_seen (edges_seen ss k (ends_told (edges ss qs) c))

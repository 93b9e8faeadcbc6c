-- A cell over trees of which some are leaves and some are not: where the marks are the same with as few leaves as
-- may be and with as many, they are the same with any between.
use Rattle.std.proofs.Common.{◌≡◌, ◌⊎◌, inl, inr, ℕ, suc, ◌≤◌, Bool, true, false, true≢false, ◌||◌}
use Rattle.std.proofs.Common.{◌&&◌, nat_eq, nat_le, if◌then◌else◌, List, [], ◌∷◌, ◌++◌, map, filter, flat_map, length}
use Rattle.std.proofs.Common.{Option, Some, None, refl, sym, ap, ap₂, ◌∙◌, arith}
use Rattle.std.proofs.lemmas.List.{length-append}
use Rattle.fa_core.specs.declared.faces.BoxFace.{BoxFace}
use Rattle.fa_core.specs.declared.signature.RefMark.{RefMark}
use Rattle.fa_core.specs.declared.signature.Below.{Below}
use Rattle.ta_core.specs.declared.symbol.Slot.{Slot}
use Rattle.ta_core.specs.declared.symbol.Slot.TheVariants.{Field, Link, Hook}
use Rattle.ta_core.specs.declared.symbol.Symbol.{Symbol}
use Rattle.ta_core.specs.declared.symbol.Symbol.TheVariants.{Null, Uninit, Dangling, Ref, Cell}
use Rattle.fa_core.specs.Rearranged.{in_order, insert}
use Rattle.fa_core.specs.Ways.{has, once, is_back}
use Rattle.fa_core.specs.Cells.{edges, mark_of, many_with, many_from, provided_in, provided_at, back_in, back_at}
use Rattle.fa_core.specs.Cells.{reach_in, reach_at, cell_mark, cell_roots, cell_marks, roots_in, leaf_mark, marks_by}
use Rattle.fa_core.proofs.CellMarks.{same_made}
use Rattle.fa_core.proofs.Numbers.{has_append}

-- the marks of a leaf
abbrev pub AreLeafs : List RefMark → Type 0
AreLeafs ms = (ms ≡ []) ⊎ ((r : ℕ) × (ms ≡ leaf_mark r ∷ []))

-- e stands between l and h: the marks are the same, and where l and h differ it is in that l is no leaf and h is one
abbrev pub IsBetween : Below → Below → Below → Type 0
IsBetween l e h = (l.marks ≡ e.marks) × (h.marks ≡ e.marks) × (((l.leaf ≡ e.leaf) × (h.leaf ≡ e.leaf))
    ⊎ ((l.leaf ≡ false) × (h.leaf ≡ true) × AreLeafs e.marks))

pub data AreBetween : List Below → List Below → List Below → Type 0 where
  none_between : AreBetween [] [] []
  more_between : (l e h : Below) {ls es hs : List Below} → IsBetween l e h → AreBetween ls es hs
      → AreBetween (l ∷ ls) (e ∷ es) (h ∷ hs)

-- the same of edges with the same slots
pub data EdgesBetween : List (Slot × Below) → List (Slot × Below) → List (Slot × Below) → Type 0 where
  no_edges : EdgesBetween [] [] []
  an_edge : (s : Slot) (l e h : Below) {ls es hs : List (Slot × Below)} → IsBetween l e h → EdgesBetween ls es hs
      → EdgesBetween ((s, l) ∷ ls) ((s, e) ∷ es) ((s, h) ∷ hs)

pub edges_between : (ss : List Slot) {ls es hs : List Below} → AreBetween ls es hs
    → EdgesBetween (edges ss ls) (edges ss es) (edges ss hs)
edges_between [] b = no_edges
edges_between (Hook n ∷ ss) b = edges_between ss b
edges_between (Field f ∷ ss) none_between = no_edges
edges_between (Field f ∷ ss) (more_between l e h b r) = an_edge (Field f) l e h b (edges_between ss r)
edges_between (Link n ∷ ss) none_between = no_edges
edges_between (Link n ∷ ss) (more_between l e h b r) = an_edge (Link n) l e h b (edges_between ss r)

-- BOOLS

-- where a is true, so is b
abbrev pub Implies : Bool → Bool → Type 0
Implies a b = a ≡ true → b ≡ true

between_bools : (a b c : Bool) → Implies a b → Implies b c → a ≡ c → b ≡ a
between_bools true b c f g e = f refl
between_bools false false c f g e = refl
between_bools false true c f g e = sym (g refl) ∙ sym e

or_more : (a b c d : Bool) → Implies a b → Implies c d → Implies (a || c) (b || d)
or_more true b c d f g h = let e = f refl in rw e refl
or_more false true c d f g h = refl
or_more false false c d f g h = g h

same_implies : (a b : Bool) → a ≡ b → Implies a b
same_implies a b e h = sym e ∙ h

-- LISTS

insert_long : (n : ℕ) (ms : List ℕ) → length (insert n ms) ≡ suc (length ms)
insert_long n [] = refl
insert_long n (m ∷ ms) = both (nat_le n m) (insert_long n ms)
  where
    both : (b : Bool) → length (insert n ms) ≡ suc (length ms) → length (if b then n ∷ (m ∷ ms) else m ∷ insert n ms)
        ≡ suc (suc (length ms))
    both true k = refl
    both false k = ap suc k

order_long : (ms : List ℕ) → length (in_order ms) ≡ length ms
order_long [] = refl
order_long (m ∷ ms) = insert_long m (in_order ms) ∙ ap suc (order_long ms)

empty_list : (xs : List ℕ) → length xs ≡ 0 → xs ≡ []
empty_list [] l = refl
empty_list (x ∷ xs) l = absurd (omega (arith, l))

-- the items that two tests let through, and those of a test between
filter_long : (p q : ℕ → Bool) (ns : List ℕ) → ((n : ℕ) → Implies (p n) (q n))
    → length (filter p ns) ≤ length (filter q ns)
filter_long p q [] f = omega arith
filter_long p q (n ∷ ns) f = here (p n) (q n) (f n) (filter_long p q ns f)
  where
    here : (a b : Bool) → Implies a b → length (filter p ns) ≤ length (filter q ns)
        → length (if a then n ∷ filter p ns else filter p ns) ≤ length (if b then n ∷ filter q ns else filter q ns)
    here true true g k = omega (arith, k)
    here true false g k = absurd (true≢false (sym (g refl)))
    here false true g k = omega (arith, k)
    here false false g k = k

filter_between : (p m q : ℕ → Bool) (ns : List ℕ) → ((n : ℕ) → Implies (p n) (m n)) → ((n : ℕ) → Implies (m n) (q n))
    → length (filter p ns) ≡ length (filter q ns) → filter m ns ≡ filter p ns
filter_between p m q [] f g e = refl
filter_between p m q (n ∷ ns) f g e = here (p n) (m n) (q n) (f n) (g n) (filter_long p q ns (λ x y. g x (f x y)))
    (filter_between p m q ns f g) e
  where
    here : (a b c : Bool) → Implies a b → Implies b c → length (filter p ns) ≤ length (filter q ns)
        → (length (filter p ns) ≡ length (filter q ns) → filter m ns ≡ filter p ns)
        → length (if a then n ∷ filter p ns else filter p ns)
        ≡ length (if c then n ∷ filter q ns else filter q ns) → (if b then n ∷ filter m ns else filter m ns)
        ≡ (if a then n ∷ filter p ns else filter p ns)
    here true true true h k l w z = ap (λ (l : List ℕ). n ∷ l) (w (omega (arith, z)))
    here true true false h k l w z = absurd (true≢false (sym (k refl)))
    here true false c h k l w z = absurd (true≢false (sym (h refl)))
    here false true true h k l w z = absurd (omega (arith, z, l))
    here false true false h k l w z = absurd (true≢false (sym (k refl)))
    here false false true h k l w z = absurd (omega (arith, z, l))
    here false false false h k l w z = w z

-- two lists of marks that are the same are so item by item
map_between : (f g h : ℕ → RefMark) (ns : List ℕ) → ((n : ℕ) → f n ≡ h n → g n ≡ f n) → map f ns ≡ map h ns → map g ns
    ≡ map f ns
map_between f g h [] k e = refl
map_between f g h (n ∷ ns) k e = ap₂ (λ (m : RefMark) (ms : List RefMark). m ∷ ms) (k n (ap head e))
    (map_between f g h ns k (ap tail e))
  where
    head : List RefMark → RefMark
    head [] = f n
    head (m ∷ ms) = m

    tail : List RefMark → List RefMark
    tail [] = []
    tail (m ∷ ms) = ms

-- MARKS

-- the marks of a leaf: none, or a plain one
pub leaf_found : (r : ℕ) (ms : List RefMark) → AreLeafs ms → (mark_of r ms ≡ None)
    ⊎ ((n : ℕ) × (mark_of r ms ≡ Some (leaf_mark n)))
leaf_found r ms (inl e) = inl (ap (mark_of r) e)
leaf_found r ms (inr (n, e)) = elim (one (nat_eq r n)) [
  | inl k ↦ inl (ap (mark_of r) e ∙ k)
  | inr k ↦ inr (n, ap (mark_of r) e ∙ k)
]
  where
    one : (b : Bool) → ((if b then Some (leaf_mark n) else None) ≡ None)
        ⊎ ((if b then Some (leaf_mark n) else None) ≡ Some (leaf_mark n))
    one true = inr refl
    one false = inl refl

module _ (bs : List BoxFace) where
  plain_provided : (n : ℕ) (s : Slot) → provided_in bs (Some (leaf_mark n)) s false ≡ []
  plain_provided n (Field f) = refl
  plain_provided n (Link b) = refl
  plain_provided n (Hook b) = refl

  plain_reach : (rs : List ℕ) (n : ℕ) (s : Slot) → reach_in bs rs (Some (leaf_mark n)) s false ≡ []
  plain_reach rs n s = here (is_back bs s)
    where
      here : (b : Bool) → (if (b && false) then rs else []) ≡ []
      here true = refl
      here false = refl

  -- where a tree may be a leaf, one that is none provides nothing and leads nowhere
  no_provided : (r : ℕ) (ms : List RefMark) (s : Slot) → AreLeafs ms → provided_in bs (mark_of r ms) s false ≡ []
  no_provided r ms s a = elim (leaf_found r ms a) [
    | inl e ↦ ap (λ (m : Option RefMark). provided_in bs m s false) e
    | inr w ↦ ap (λ (m : Option RefMark). provided_in bs m s false) w.1 ∙ plain_provided w.0 s
  ]

  no_reach : (rs : List ℕ) (r : ℕ) (ms : List RefMark) (s : Slot) → AreLeafs ms → reach_in
      bs rs (mark_of r ms) s false ≡ []
  no_reach rs r ms s a = elim (leaf_found r ms a) [
    | inl e ↦ ap (λ (m : Option RefMark). reach_in bs rs m s false) e
    | inr w ↦ ap (λ (m : Option RefMark). reach_in bs rs m s false) w.1 ∙ plain_reach rs w.0 s
  ]

  -- an edge's part of the fields, of the ways back, of what they reach
  abbrev gives : ℕ → Slot → Below → List ℕ
  gives r s x = provided_in bs (mark_of r x.marks) s x.leaf

  abbrev backs : ℕ → Slot → Below → Bool
  backs r s x = back_in bs (mark_of r x.marks) s x.leaf

  abbrev reaches : List ℕ → ℕ → Slot → Below → List ℕ
  reaches rs r s x = reach_in bs rs (mark_of r x.marks) s x.leaf

  give_as : (r : ℕ) (s : Slot) (x : Below) (ms : List RefMark) (k : Bool) → x.marks ≡ ms → x.leaf ≡ k → gives r s x
      ≡ provided_in bs (mark_of r ms) s k
  give_as r s x ms k e f = ap₂ (λ (m : List RefMark) (b : Bool). provided_in bs (mark_of r m) s b) e f

  back_as : (r : ℕ) (s : Slot) (x : Below) (ms : List RefMark) → x.marks ≡ ms → backs r s x ≡ back_in
      bs (mark_of r ms) s x.leaf
  back_as r s x ms e = ap (λ (m : List RefMark). back_in bs (mark_of r m) s x.leaf) e

  reach_as : (rs : List ℕ) (r : ℕ) (s : Slot) (x : Below) (ms : List RefMark) (k : Bool) → x.marks ≡ ms → x.leaf ≡ k
      → reaches rs r s x ≡ reach_in bs rs (mark_of r ms) s k
  reach_as rs r s x ms k e f = ap₂ (λ (m : List RefMark) (b : Bool). reach_in bs rs (mark_of r m) s b) e f

  -- FIELDS
  give_long : (r : ℕ) (s : Slot) (l e h : Below) → IsBetween l e h → length (gives r s l) ≤ length (gives r s h)
  give_long r s l e h (m, n, inl p) = let i = ap (λ (w : List ℕ). length w) (give_as r s l e.marks e.leaf m p.0
      ∙ sym (give_as r s h e.marks e.leaf n p.1)) in omega (arith, i)
  give_long r s l e h (m, n, inr (p, q, a)) = let i = ap (λ (w : List ℕ). length w) (give_as r s l e.marks false m p
      ∙ no_provided r e.marks s a) in omega (arith, i)

  give_between : (r : ℕ) (s : Slot) (l e h : Below) → IsBetween l e h → length (gives r s l) ≡ length (gives r s h)
      → gives r s e ≡ gives r s l
  give_between r s l e h (m, n, inl p) i = sym (give_as r s l e.marks e.leaf m p.0)
  give_between r s l e h (m, n, inr (p, q, a)) i = here e.leaf ∙ sym low
    where
      low : gives r s l ≡ []
      low = give_as r s l e.marks false m p ∙ no_provided r e.marks s a

      here : (k : Bool) → provided_in bs (mark_of r e.marks) s k ≡ []
      here false = no_provided r e.marks s a
      here true = empty_list (provided_in bs (mark_of r e.marks) s true)
          (ap (λ (w : List ℕ). length w) (sym (give_as r s h e.marks true n q)) ∙ sym i
          ∙ ap (λ (w : List ℕ). length w) low)

  all_long : (r : ℕ) {ls es hs : List (Slot × Below)} → EdgesBetween ls es hs
      → length (provided_at bs r ls) ≤ length (provided_at bs r hs)
  all_long r no_edges = omega arith
  all_long r (an_edge s l e h {ls = ls} {hs = hs} b k) =
      let x = length-append (gives r s l) (provided_at bs r ls) in
      let y = length-append (gives r s h) (provided_at bs r hs) in
      let a = give_long r s l e h b in
      let c = all_long r k in
      omega (arith, x, y, a, c)

  all_given : (r : ℕ) {ls es hs : List (Slot × Below)} → EdgesBetween ls es hs → length (provided_at bs r ls)
      ≡ length (provided_at bs r hs) → provided_at bs r es ≡ provided_at bs r ls
  all_given r no_edges i = refl
  all_given r (an_edge s l e h {ls = ls} {hs = hs} b k) i =
      let x = length-append (gives r s l) (provided_at bs r ls) in
      let y = length-append (gives r s h) (provided_at bs r hs) in
      let a = give_long r s l e h b in
      let c = all_long r k in
      ap₂ (λ (u v : List ℕ). u ++ v) (give_between r s l e h b (omega (arith, x, y, a, c, i)))
      (all_given r k (omega (arith, x, y, a, c, i)))

  -- WAYS BACK
  back_more : (m : Option RefMark) (s : Slot) (a b : Bool) → Implies a b → Implies (back_in bs m s a) (back_in bs m s b)
  back_more None s a b f h = h
  back_more (Some m) s a b f h = here (is_back bs s) a b f h
    where
      here : (x a b : Bool) → Implies a b → Implies (x && (a || m.back)) (x && (b || m.back))
      here false a b f h = h
      here true a b f h = or_more a b m.back m.back f (λ z. z) h

  leaf_low : (l e h : Below) → IsBetween l e h → Implies l.leaf e.leaf
  leaf_low l e h (m, n, inl p) z = sym p.0 ∙ z
  leaf_low l e h (m, n, inr p) z = absurd (true≢false (sym z ∙ p.0))

  leaf_high : (l e h : Below) → IsBetween l e h → Implies e.leaf h.leaf
  leaf_high l e h (m, n, inl p) z = p.1 ∙ z
  leaf_high l e h (m, n, inr p) z = p.1

  back_low : (r : ℕ) {ls es hs : List (Slot × Below)} → EdgesBetween ls es hs
      → Implies (back_at bs r ls) (back_at bs r es)
  back_low r no_edges z = z
  back_low r (an_edge s l e h {ls = ls} {es = es} b k) z = or_more (backs r s l) (backs r s e) (back_at bs r ls)
      (back_at bs r es) (λ y. back_more (mark_of r e.marks) s l.leaf e.leaf (leaf_low l e h b)
      (sym (back_as r s l e.marks b.0) ∙ y)) (back_low r k) z

  back_high : (r : ℕ) {ls es hs : List (Slot × Below)} → EdgesBetween ls es hs
      → Implies (back_at bs r es) (back_at bs r hs)
  back_high r no_edges z = z
  back_high r (an_edge s l e h {es = es} {hs = hs} b k) z = or_more (backs r s e) (backs r s h) (back_at bs r es)
      (back_at bs r hs) (λ y. back_as r s h e.marks b.1 ∙ back_more (mark_of r e.marks) s e.leaf h.leaf
      (leaf_high l e h b) y) (back_high r k) z

  -- WHAT THEY REACH
  nothing_in : (n : ℕ) (xs : List ℕ) → xs ≡ [] → has n xs ≡ true → ⊥
  nothing_in n xs e h = true≢false (sym h ∙ ap (λ (l : List ℕ). has n l) e)

  reach_low_one : (rs : List ℕ) (r n : ℕ) (s : Slot) (l e h : Below) → IsBetween l e h
      → Implies (has n (reaches rs r s l)) (has n (reaches rs r s e))
  reach_low_one rs r n s l e h (m, o, inl p) z = ap (λ (w : List ℕ). has n w)
      (sym (reach_as rs r s l e.marks e.leaf m p.0)) ∙ z
  reach_low_one rs r n s l e h (m, o, inr (p, q, a)) z = absurd (nothing_in
      n (reaches rs r s l) (reach_as rs r s l e.marks false m p ∙ no_reach rs r e.marks s a) z)

  reach_high_one : (rs : List ℕ) (r n : ℕ) (s : Slot) (l e h : Below) → IsBetween l e h
      → Implies (has n (reaches rs r s e)) (has n (reaches rs r s h))
  reach_high_one rs r n s l e h (m, o, inl p) z = ap (λ (w : List ℕ). has n w)
      (reach_as rs r s h e.marks e.leaf o p.1) ∙ z
  reach_high_one rs r n s l e h (m, o, inr (p, q, a)) z = here e.leaf z
    where
      here : (k : Bool) → has n (reach_in bs rs (mark_of r e.marks) s k) ≡ true → has n (reaches rs r s h) ≡ true
      here true z = ap (λ (w : List ℕ). has n w) (reach_as rs r s h e.marks true o q) ∙ z
      here false z = absurd (nothing_in n (reach_in bs rs (mark_of r e.marks) s false) (no_reach rs r e.marks s a) z)

  reach_low : (rs : List ℕ) (r n : ℕ) {ls es hs : List (Slot × Below)} → EdgesBetween ls es hs
      → Implies (has n (reach_at bs rs r ls)) (has n (reach_at bs rs r es))
  reach_low rs r n no_edges z = z
  reach_low rs r n (an_edge s l e h {ls = ls} {es = es} b k) z =
      has_append n (reaches rs r s e) (reach_at bs rs r es)
      ∙ or_more (has n (reaches rs r s l)) (has n (reaches rs r s e)) (has n (reach_at bs rs r ls))
      (has n (reach_at bs rs r es)) (reach_low_one rs r n s l e h b) (reach_low rs r n k)
      (sym (has_append n (reaches rs r s l) (reach_at bs rs r ls)) ∙ z)

  reach_high : (rs : List ℕ) (r n : ℕ) {ls es hs : List (Slot × Below)} → EdgesBetween ls es hs
      → Implies (has n (reach_at bs rs r es)) (has n (reach_at bs rs r hs))
  reach_high rs r n no_edges z = z
  reach_high rs r n (an_edge s l e h {es = es} {hs = hs} b k) z =
      has_append n (reaches rs r s h) (reach_at bs rs r hs)
      ∙ or_more (has n (reaches rs r s e)) (has n (reaches rs r s h)) (has n (reach_at bs rs r es))
      (has n (reach_at bs rs r hs)) (reach_high_one rs r n s l e h b) (reach_high rs r n k)
      (sym (has_append n (reaches rs r s e) (reach_at bs rs r es)) ∙ z)

  -- WHAT DOES NOT LOOK AT LEAVES
  many_low : (one : Bool) (r : ℕ) {ls es hs : List (Slot × Below)} → EdgesBetween ls es hs → many_from one r es
      ≡ many_from one r ls
  many_low one r no_edges = refl
  many_low one r (an_edge s l e h {ls = ls} {es = es} b k) =
      ap (λ (ms : List RefMark). many_with one (mark_of r ms) (many_from one r es) (many_from true r es)) (sym b.0)
      ∙ ap₂ (λ (x y : Bool). many_with one (mark_of r l.marks) x y) (many_low one r k) (many_low true r k)

  abbrev roots_at : List (Slot × Below) → List ℕ
  roots_at es = flat_map (λ (e : Slot × Below). roots_in e.1.marks) es

  roots_low : {ls es hs : List (Slot × Below)} → EdgesBetween ls es hs → roots_at es ≡ roots_at ls
  roots_low no_edges = refl
  roots_low (an_edge s l e h b k) = ap₂ (λ (x y : List ℕ). x ++ y) (ap roots_in (sym b.0)) (roots_low k)

  roots_high : {ls es hs : List (Slot × Below)} → EdgesBetween ls es hs → roots_at hs ≡ roots_at es
  roots_high no_edges = refl
  roots_high (an_edge s l e h b k) = ap₂ (λ (x y : List ℕ). x ++ y) (ap roots_in b.1) (roots_high k)

  -- where the marks are the same at both ends, they are the same between
  pub sandwich : {ls es hs : List (Slot × Below)} → EdgesBetween ls es hs → cell_marks bs ls ≡ cell_marks bs hs
      → cell_marks bs es ≡ cell_marks bs ls
  sandwich {ls} {es} {hs} b i =
      ap (λ (l : List ℕ). map (cell_mark bs es l) l) low
      ∙ map_between (cell_mark bs ls rs) (cell_mark bs es rs) (cell_mark bs hs rs) rs same (i
      ∙ ap (λ (l : List ℕ). map (cell_mark bs hs l) l) high)
    where
      rs : List ℕ
      rs = cell_roots ls

      low : cell_roots es ≡ cell_roots ls
      low = ap (λ (l : List ℕ). once l) (roots_low b)

      high : cell_roots hs ≡ cell_roots ls
      high = ap (λ (l : List ℕ). once l) (roots_high b ∙ roots_low b)

      same : (r : ℕ) → cell_mark bs ls rs r ≡ cell_mark bs hs rs r → cell_mark bs es rs r ≡ cell_mark bs ls rs r
      same r e =
          let p : in_order (provided_at bs r ls) ≡ in_order (provided_at bs r hs) =
          ap (λ (m : RefMark). m.provided) e in
          let q : length (provided_at bs r ls) ≡ length (provided_at bs r hs) = sym (order_long (provided_at bs r ls))
          ∙ ap (λ (l : List ℕ). length l) p ∙ order_long (provided_at bs r hs) in
          same_made r _ _ _ _ _ _ _ _
          (many_low false r b)
          (ap (λ (l : List ℕ). in_order l) (all_given r b q))
          (between_bools (back_at bs r ls) (back_at bs r es) (back_at bs r hs) (back_low r b) (back_high r b)
          (ap (λ (m : RefMark). m.back) e))
          (filter_between (λ n. has n (reach_at bs rs r ls)) (λ n. has n (reach_at bs rs r es))
          (λ n. has n (reach_at bs rs r hs)) rs (λ n. reach_low rs r n b) (λ n. reach_high rs r n b)
          (ap (λ (m : RefMark). length m.reach) e))

  -- of any symbol
  pub marks_between : (y : Symbol) {ls es hs : List Below} → AreBetween ls es hs → marks_by bs y ls ≡ marks_by bs y hs
      → marks_by bs y es ≡ marks_by bs y ls
  marks_between Null b e = refl
  marks_between Uninit b e = refl
  marks_between Dangling b e = refl
  marks_between (Ref r) b e = refl
  marks_between (Cell s ds ss) b e = sandwich (edges_between ss b) e

-- The trees of a merged automaton are the grafts of trees of the one into trees of the other.
use Rattle.std.proofs.Common.{◌≡◌, ◌≢◌, ◌⊎◌, inl, inr, ℕ, ◌<◌, ◌+◌, Bool, true, false, true≢false, if◌then◌else◌}
use Rattle.std.proofs.Common.{nat_eq, List, [], ◌∷◌, ◌++◌, map, refl, sym, ap, subst, ◌∙◌, arith}
use Rattle.std.proofs.lemmas.Bool.{eqb-true, eq-eqb}
use Rattle.fore_base.specs.Lists.{IsIn, Every, Paired}
use Rattle.fore_base.specs.declared.store.Datum.{Datum}
use Rattle.fore_base.proofs.ListLemmas.{in_left, in_right, in_append, every_in}
use Rattle.ta_core.specs.Auto.{Automaton, IsRankedRule}
use Rattle.ta_core.specs.Joined.{shift}
use Rattle.ta_core.specs.Renumbered.{renumbered}
use Rattle.ta_core.specs.declared.auto.Rule.{Rule}
use Rattle.ta_core.specs.declared.symbol.Slot.{Slot}
use Rattle.ta_core.specs.declared.symbol.Slot.TheVariants.{Field, Link, Hook}
use Rattle.ta_core.specs.declared.symbol.Symbol.{Symbol}
use Rattle.ta_core.specs.declared.symbol.Symbol.TheVariants.{Null as NullSymbol, Uninit as UninitSymbol}
use Rattle.ta_core.specs.declared.symbol.Symbol.TheVariants.{Dangling as DanglingSymbol, Ref, Cell as CellSymbol}
use Rattle.ta_core.proofs.Runs.{along_each}
use Rattle.fa_core.specs.declared.forest.Target.{Target}
use Rattle.fa_core.specs.declared.forest.Target.TheVariants.{Null, Uninit, Dangling, At}
use Rattle.fa_core.specs.Dressed.{Node, Parts, End, node, no_parts, field, link, hook, under, leaf}
use Rattle.fa_core.specs.Member.{slots_of, leaf_symbol}
use Rattle.fa_core.specs.Ways.{has}
use Rattle.fa_core.proofs.NodeRuns.{NodeRun, PartsRun, EndRun, parts_bare, bare_each}
use Rattle.fa_merge.specs.Merged.{is_ref, kept, moved, bridge, bridges, merged}
use Rattle.fa_merge.specs.inner.Grafting.{plug, plug_parts, plug_end}
use Rattle.fa_merge.proofs.CutTrees.{FillsEnd, LeafRule, cut_end}
use Rattle.fa_back.proofs.RootMarks.{has_in, in_has}

ref_is : (r : ℕ) (y : Symbol) → is_ref r y ≡ true → y ≡ Ref r
ref_is r NullSymbol e = absurd (true≢false (sym e))
ref_is r UninitSymbol e = absurd (true≢false (sym e))
ref_is r DanglingSymbol e = absurd (true≢false (sym e))
ref_is r (Ref k) e = ap Ref (sym (eqb-true r k e))
ref_is r (CellSymbol s ds ss) e = absurd (true≢false (sym e))

is_refs : (r : ℕ) (y : Symbol) → y ≡ Ref r → is_ref r y ≡ true
is_refs r y e = rw e (eq-eqb r r refl)

pub kept_in : (r : ℕ) (xs : List Rule) (x : Rule) → IsIn x (kept r xs) → IsIn x xs × (x.symbol ≢ Ref r)
kept_in r [] x h = absurd h
kept_in r (y ∷ ys) x h = here (is_ref r y.symbol) refl h (kept_in r ys x)
  where
    here : (b : Bool) → is_ref r y.symbol ≡ b → IsIn x (if b then kept r ys else y ∷ kept r ys)
        → (IsIn x (kept r ys) → IsIn x ys × (x.symbol ≢ Ref r)) → IsIn x (y ∷ ys) × (x.symbol ≢ Ref r)
    here true e h k = (inr (k h).0, (k h).1)
    here false e (inl z) k =
        (inl z, λ w. true≢false (sym (is_refs r y.symbol (ap (λ (v : Rule). v.symbol) (sym z) ∙ w)) ∙ e))
    here false e (inr h) k = (inr (k h).0, (k h).1)

in_kept : (r : ℕ) (xs : List Rule) (x : Rule) → IsIn x xs → x.symbol ≢ Ref r → IsIn x (kept r xs)
in_kept r [] x h d = absurd h
in_kept r (y ∷ ys) x h d = here (is_ref r y.symbol) refl h (in_kept r ys x)
  where
    here : (b : Bool) → is_ref r y.symbol ≡ b → IsIn x (y ∷ ys) → (IsIn x ys → x.symbol ≢ Ref r → IsIn x (kept r ys))
        → IsIn x (if b then kept r ys else y ∷ kept r ys)
    here true e (inl z) k = absurd (d (ap (λ (v : Rule). v.symbol) z ∙ ref_is r y.symbol e))
    here true e (inr h) k = k h d
    here false e (inl z) k = inl z
    here false e (inr h) k = inr (k h d)

pub moved_in : (n : ℕ) (xs : List Rule) (x : Rule) → IsIn x (moved n xs) → (o : Rule) × IsIn o xs
    × (x ≡ renumbered (shift n) o)
moved_in n [] x h = absurd h
moved_in n (y ∷ ys) x (inl e) = (y, inl refl, e)
moved_in n (y ∷ ys) x (inr h) = let k = moved_in n ys x h in (k.0, inr k.1, k.2)

in_moved : (n : ℕ) (xs : List Rule) (o : Rule) → IsIn o xs → IsIn (renumbered (shift n) o) (moved n xs)
in_moved n [] o h = absurd h
in_moved n (y ∷ ys) o (inl e) = inl (ap (renumbered (shift n)) e)
in_moved n (y ∷ ys) o (inr h) = inr (in_moved n ys o h)

abbrev pub bridged : ℕ → ℕ → Rule → Rule
bridged n q o = record { state = q; symbol = o.symbol; children = map (shift n) o.children }

bridge_in : (n q : ℕ) (roots : List ℕ) (xs : List Rule) (x : Rule) → IsIn x (bridge n q roots xs) → (o : Rule)
    × IsIn o xs × IsIn o.state roots × (x ≡ bridged n q o)
bridge_in n q roots [] x h = absurd h
bridge_in n q roots (y ∷ ys) x h = here (has y.state roots) refl h (bridge_in n q roots ys x)
  where
    here : (b : Bool) → has y.state roots ≡ b
        → IsIn x (if b then bridged n q y ∷ bridge n q roots ys else bridge n q roots ys)
        → (IsIn x (bridge n q roots ys) → (o : Rule) × IsIn o ys × IsIn o.state roots × (x ≡ bridged n q o))
        → (o : Rule) × IsIn o (y ∷ ys) × IsIn o.state roots × (x ≡ bridged n q o)
    here true e (inl z) k = (y, inl refl, has_in y.state roots e, z)
    here true e (inr h) k = let m = k h in (m.0, inr m.1, m.2, m.3)
    here false e h k = let m = k h in (m.0, inr m.1, m.2, m.3)

in_bridge : (n q : ℕ) (roots : List ℕ) (xs : List Rule) (o : Rule) → IsIn o xs → IsIn o.state roots
    → IsIn (bridged n q o) (bridge n q roots xs)
in_bridge n q roots [] o h j = absurd h
in_bridge n q roots (y ∷ ys) o (inl z) j =
    let t : has y.state roots ≡ true = in_has y.state roots (rw z at j) in
    rw t (inl (ap (bridged n q) z))
in_bridge n q roots (y ∷ ys) o (inr h) j = here (has y.state roots) (in_bridge n q roots ys o h j)
  where
    here : (b : Bool) → IsIn (bridged n q o) (bridge n q roots ys)
        → IsIn (bridged n q o) (if b then bridged n q y ∷ bridge n q roots ys else bridge n q roots ys)
    here true k = inr k
    here false k = k

pub bridges_in : (n r : ℕ) (l : Automaton) (xs : List Rule) (x : Rule) → IsIn x (bridges n r l xs) → (z : Rule)
    × (o : Rule) × IsIn z xs × (z.symbol ≡ Ref r) × IsIn o l.rules × IsIn o.state l.roots × (x ≡ bridged n z.state o)
bridges_in n r l [] x h = absurd h
bridges_in n r l (y ∷ ys) x h = here (is_ref r y.symbol) refl h (bridges_in n r l ys x)
  where
    here : (b : Bool) → is_ref r y.symbol ≡ b
        → IsIn x (if b then bridge n y.state l.roots l.rules ++ bridges n r l ys else bridges n r l ys)
        → (IsIn x (bridges n r l ys) → (z : Rule) × (o : Rule) × IsIn z ys × (z.symbol ≡ Ref r) × IsIn o l.rules
        × IsIn o.state l.roots × (x ≡ bridged n z.state o)) → (z : Rule) × (o : Rule) × IsIn z (y ∷ ys)
        × (z.symbol ≡ Ref r) × IsIn o l.rules × IsIn o.state l.roots × (x ≡ bridged n z.state o)
    here true e h k = elim (in_append x (bridge n y.state l.roots l.rules) (bridges n r l ys) h) [
      | inl i ↦ (let m = bridge_in n y.state l.roots l.rules x i in
          (y, m.0, inl refl, ref_is r y.symbol e, m.1, m.2, m.3))
      | inr i ↦ (let m = k i in (m.0, m.1, inr m.2, m.3, m.4, m.5, m.6))
    ]
    here false e h k = let m = k h in (m.0, m.1, inr m.2, m.3, m.4, m.5, m.6)

in_bridges : (n r : ℕ) (l : Automaton) (xs : List Rule) (z o : Rule) → IsIn z xs → z.symbol ≡ Ref r → IsIn o l.rules
    → IsIn o.state l.roots → IsIn (bridged n z.state o) (bridges n r l xs)
in_bridges n r l [] z o h e i j = absurd h
in_bridges n r l (y ∷ ys) z o (inl w) e i j =
    let t : is_ref r y.symbol ≡ true = is_refs r y.symbol (ap (λ (v : Rule). v.symbol) (sym w) ∙ e) in
    rw t
    (in_left _ (bridge n y.state l.roots l.rules) (bridges n r l ys)
    (rw w (in_bridge n y.state l.roots l.rules o i j)))
in_bridges n r l (y ∷ ys) z o (inr h) e i j = here (is_ref r y.symbol) (in_bridges n r l ys z o h e i j)
  where
    here : (b : Bool) → IsIn (bridged n z.state o) (bridges n r l ys)
        → IsIn (bridged n z.state o)
        (if b then bridge n y.state l.roots l.rules ++ bridges n r l ys else bridges n r l ys)
    here true k = in_right _ (bridge n y.state l.roots l.rules) (bridges n r l ys) k
    here false k = k

abbrev Up : ℕ → ℕ → ℕ → Type 0
Up n p q = q ≡ p + n

abbrev pub Down : ℕ → ℕ → ℕ → Type 0
Down n p q = p ≡ q + n

paired_up : (n : ℕ) (qs : List ℕ) → Paired (Up n) qs (map (shift n) qs)
paired_up n [] = tt
paired_up n (q ∷ qs) = (refl, paired_up n qs)

paired_down : (n : ℕ) (qs : List ℕ) → Paired (Down n) (map (shift n) qs) qs
paired_down n [] = tt
paired_down n (q ∷ qs) = (refl, paired_down n qs)

not_below : (q n : ℕ) → q + n < n → ⊥
not_below q n h = omega (arith, h)

abbrev pub IsRefSymbol : Symbol → Type 0
IsRefSymbol NullSymbol = ⊥
IsRefSymbol UninitSymbol = ⊥
IsRefSymbol DanglingSymbol = ⊥
IsRefSymbol (Ref k) = Unit {0}
IsRefSymbol (CellSymbol s ds ss) = ⊥

abbrev pub ref_number : Symbol → ℕ
ref_number NullSymbol = 0
ref_number UninitSymbol = 0
ref_number DanglingSymbol = 0
ref_number (Ref k) = k
ref_number (CellSymbol s ds ss) = 0

not_ref : (y : Symbol) (k : ℕ) → (IsRefSymbol y → ⊥) → y ≡ Ref k → ⊥
not_ref y k d e = d (subst IsRefSymbol (sym e) tt)

plug_slots : (r : ℕ) (m : Node) (ps : Parts) → slots_of (plug_parts r m ps) ≡ slots_of ps
plug_slots r m no_parts = refl
plug_slots r m (field f e ps) = ap (λ (z : List Slot). Field f ∷ z) (plug_slots r m ps)
plug_slots r m (link b inside e ps) = ap (λ (z : List Slot). Link b ∷ z) (plug_slots r m ps)
plug_slots r m (hook b inside ps) = ap (λ (z : List Slot). Hook b ∷ z) (plug_slots r m ps)

-- l's root rules are of cells, and t's leaves that refer to r have no children
module _ (r : ℕ) (t l : Automaton) (range : Every (IsRankedRule t.states) t.rules)
    (tops : (o : Rule) → IsIn o l.rules → IsIn o.state l.roots → (y : Target) → o.symbol ≢ leaf_symbol y)
    (flat : (x : Rule) → IsIn x t.rules → x.symbol ≡ Ref r → x.children ≡ []) where
  -- a tree with a run of l to a root state
  abbrev pub Top : Node → Type 0
  Top m = (q : ℕ) × IsIn q l.roots × NodeRun l.rules q m

  -- l's runs are runs of the merged automaton
  up_rule : (x : Rule) (q : ℕ) → IsIn x l.rules → Up t.states x.state q → (o : Rule) × IsIn o (merged r t l).rules
      × (o.state ≡ q) × (o.symbol ≡ x.symbol) × Paired (Up t.states) x.children o.children
  up_rule x q i h = (
    renumbered (shift t.states) x,
    in_right (renumbered (shift t.states) x) (kept r t.rules) (moved t.states l.rules ++ bridges t.states r l t.rules)
        (in_left (renumbered (shift t.states) x) (moved t.states l.rules) (bridges t.states r l t.rules)
        (in_moved t.states l.rules x i)),
    sym h,
    refl,
    paired_up t.states x.children,
  )

  -- and the other way
  pub down_rule : (x : Rule) (q : ℕ) → IsIn x (merged r t l).rules → Down t.states x.state q → (o : Rule)
      × IsIn o l.rules × (o.state ≡ q) × (o.symbol ≡ x.symbol) × Paired (Down t.states) x.children o.children
  down_rule x q i h = elim (in_append x (kept r t.rules) (moved t.states l.rules ++ bridges t.states r l t.rules) i) [
    | inl j ↦ absurd
        (not_below q t.states (rw h at (every_in (IsRankedRule t.states) t.rules x range (kept_in r t.rules x j).0).0))
    | inr j ↦ elim (in_append x (moved t.states l.rules) (bridges t.states r l t.rules) j) [
      | inl k ↦ (let m = moved_in t.states l.rules x k in (
        m.0,
        m.1,
        (let e : m.0.state + t.states ≡ q + t.states = sym (ap (λ (v : Rule). v.state) m.2) ∙ h in
            omega (arith, e)),
        sym (ap (λ (v : Rule). v.symbol) m.2),
        subst (λ (z : List ℕ). Paired (Down t.states) z m.0.children) (sym (ap (λ (v : Rule). v.children) m.2))
            (paired_down t.states m.0.children),
      ))
      | inr k ↦ (let m = bridges_in t.states r l t.rules x k in
          absurd
          (not_below q t.states (let e : m.0.state ≡ q + t.states = sym (ap (λ (v : Rule). v.state) m.6) ∙ h in
          rw e at (every_in (IsRankedRule t.states) t.rules m.0 range m.2).0)))
    ]
  ]

  up_parts : (qs : List ℕ) (ps : Parts) → PartsRun l.rules qs ps
      → PartsRun (merged r t l).rules (map (shift t.states) qs) ps
  up_parts qs ps h = bare_each (merged r t l).rules (map (shift t.states) qs) ps
      (along_each l.rules (merged r t l).rules (Up t.states) (λ x q ts i h k. up_rule x q i h) (map (shift t.states) qs)
      (paired_up t.states qs) (parts_bare l.rules qs ps h))

  down_parts : (qs : List ℕ) (ps : Parts) → PartsRun (merged r t l).rules (map (shift t.states) qs) ps
      → PartsRun l.rules qs ps
  down_parts qs ps h = bare_each l.rules qs ps
      (along_each (merged r t l).rules l.rules (Down t.states) (λ x q ts i h k. down_rule x q i h) qs
      (paired_down t.states qs) (parts_bare (merged r t l).rules (map (shift t.states) qs) ps h))

  -- a new rule of a state of t is a rule of t, or is the top of a tree of l
  step : (x : Rule) → IsIn x (merged r t l).rules → x.state < t.states →
      (IsIn x t.rules × Every (λ q. q < t.states) x.children × (x.symbol ≢ Ref r))
      ⊎ (LeafRule r t.rules x.state × ((y : Target) → x.symbol ≢ leaf_symbol y)
      × ((c s : ℕ) (ds : List Datum) (ps : Parts) → x.symbol ≡ CellSymbol s ds (slots_of ps)
      → PartsRun (merged r t l).rules x.children ps → Top (node c s ds ps)))
  step x i h = elim (in_append x (kept r t.rules) (moved t.states l.rules ++ bridges t.states r l t.rules) i) [
    | inl j ↦ (let k = kept_in r t.rules x j in
        inl (k.0, (every_in (IsRankedRule t.states) t.rules x range k.0).1, k.1))
    | inr j ↦ elim (in_append x (moved t.states l.rules) (bridges t.states r l t.rules) j) [
      | inl k ↦ (let m = moved_in t.states l.rules x k in
          absurd (not_below m.0.state t.states (rw (ap (λ (v : Rule). v.state) m.2) at h)))
      | inr k ↦ (let m = bridges_in t.states r l t.rules x k in
          let e = m.6 in
          inr (
            (m.0, m.2, sym (ap (λ (v : Rule). v.state) e), m.3, flat m.0 m.2 m.3),
            (λ y w. tops m.1 m.4 m.5 y (sym (ap (λ (v : Rule). v.symbol) e) ∙ w)),
            (λ c s ds ps w g. (
              m.1.state,
              m.5,
              (
                m.1,
                m.4,
                refl,
                sym (ap (λ (v : Rule). v.symbol) e) ∙ w,
                down_parts m.1.children ps (rw (ap (λ (v : Rule). v.children) e) at g),
              ),
            )),
          ))
    ]
  ]

  -- a tree of the merged automaton, cut where it passes over to l
  pub cut : (q : ℕ) (x : End) → q < t.states → EndRun (merged r t l).rules q x → (e : End) × (ms : List Node)
      × EndRun t.rules q e × Every Top ms × FillsEnd r e ms x
  cut q x h = cut_end r t.rules (merged r t l).rules (λ p. p < t.states) Top step q x h

  -- a graft of a tree of l into a tree of t is a tree of the merged automaton
  module _ (m : Node) (top : Top m) where
    bridged_run : (q : ℕ) → LeafRule r t.rules q → NodeRun (merged r t l).rules q m
    bridged_run q z = of_top m top
      where
        of_top : (n : Node) → Top n → NodeRun (merged r t l).rules q n
        of_top (node c s ds ps) (p, j, w) = (
          bridged t.states z.0.state w.0,
          in_right _ (kept r t.rules) (moved t.states l.rules ++ bridges t.states r l t.rules)
              (in_right _ (moved t.states l.rules) (bridges t.states r l t.rules)
              (in_bridges t.states r l t.rules z.0 w.0 z.1 z.3 w.1 (rw (sym w.2) at j))),
          z.2,
          w.3,
          up_parts w.0.children ps w.4,
        )

    keep_leaf : (q : ℕ) (y : Target) (h : EndRun t.rules q (leaf y)) → h.0.symbol ≢ Ref r
        → EndRun (merged r t l).rules q (leaf y)
    keep_leaf q y h d = (
      h.0,
      in_left h.0 (kept r t.rules) (moved t.states l.rules ++ bridges t.states r l t.rules)
          (in_kept r t.rules h.0 h.1 d),
      h.2,
      h.3,
      h.4,
    )

    mutual
      pub graft_tree : (q : ℕ) (n : Node) → NodeRun t.rules q n → NodeRun (merged r t l).rules q (plug r m n)
      graft_tree q (node c s ds ps) h = (
        h.0,
        in_left h.0 (kept r t.rules) (moved t.states l.rules ++ bridges t.states r l t.rules)
            (in_kept r t.rules h.0 h.1 (λ w. not_ref (CellSymbol s ds (slots_of ps)) r (λ z. z) (sym h.3 ∙ w))),
        h.2,
        h.3 ∙ ap (CellSymbol s ds) (sym (plug_slots r m ps)),
        graft_parts h.0.children ps h.4,
      )

      pub graft_parts : (qs : List ℕ) (ps : Parts) → PartsRun t.rules qs ps
          → PartsRun (merged r t l).rules qs (plug_parts r m ps)
      graft_parts [] no_parts h = tt
      graft_parts (q ∷ qs) no_parts h = absurd h
      graft_parts [] (field f e ps) h = absurd h
      graft_parts (q ∷ qs) (field f e ps) h = (graft_end q e h.0, graft_parts qs ps h.1)
      graft_parts [] (link b inside e ps) h = absurd h
      graft_parts (q ∷ qs) (link b inside e ps) h = (graft_end q e h.0, graft_parts qs ps h.1)
      graft_parts qs (hook b inside ps) h = graft_parts qs ps h

      pub graft_end : (q : ℕ) (e : End) → EndRun t.rules q e → EndRun (merged r t l).rules q (plug_end r m e)
      graft_end q (under n) h = graft_tree q n h
      graft_end q (leaf Null) h = keep_leaf q Null h (λ w. not_ref NullSymbol r (λ z. z) (sym h.3 ∙ w))
      graft_end q (leaf Uninit) h = keep_leaf q Uninit h (λ w. not_ref UninitSymbol r (λ z. z) (sym h.3 ∙ w))
      graft_end q (leaf Dangling) h = keep_leaf q Dangling h (λ w. not_ref DanglingSymbol r (λ z. z) (sym h.3 ∙ w))
      graft_end q (leaf (At k)) h = here (nat_eq r k) refl
        where
          here : (b : Bool) → nat_eq r k ≡ b → EndRun (merged r t l).rules q (if b then under m else leaf (At k))
          here true e = bridged_run q (h.0, h.1, h.2, h.3 ∙ ap Ref (sym (eqb-true r k e)), h.4)
          here false e = keep_leaf q (At k) h
              (λ w. true≢false (sym (eq-eqb r k (sym (ap ref_number (sym h.3 ∙ w)))) ∙ e))

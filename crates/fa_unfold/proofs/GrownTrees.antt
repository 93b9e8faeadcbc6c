-- The trees of a component that gains the slots of a port.
use Rattle.std.proofs.Common.{◌≡◌, inl, inr, ℕ, ◌<◌, ◌≤◌, ◌+◌, ◌&&◌, Bool, true, false, not, if◌then◌else◌, length}
use Rattle.std.proofs.Common.{List, [], ◌∷◌, map, refl, sym, ap, subst, ◌∙◌, arith}
use Rattle.fore_base.specs.Lists.{IsIn, Every, Paired}
use Rattle.fore_base.specs.declared.store.Datum.{Datum}
use Rattle.fore_base.proofs.ListLemmas.{every_in, in_every, every_append, in_left, in_right}
use Rattle.ta_core.specs.Arity.{arity}
use Rattle.ta_core.specs.Auto.{Automaton, IsRanked, IsRankedRule}
use Rattle.ta_core.specs.Joined.{shift, united}
use Rattle.ta_core.specs.Language.{RunOf, RunEach, run, InLanguage}
use Rattle.ta_core.specs.Renumbered.{renumbered}
use Rattle.ta_core.specs.Single.{HasOneTop}
use Rattle.ta_core.specs.declared.auto.Rule.{Rule}
use Rattle.ta_core.specs.declared.symbol.Slot.{Slot}
use Rattle.ta_core.specs.declared.symbol.Symbol.{Symbol}
use Rattle.ta_core.specs.declared.symbol.Symbol.TheVariants.{Null as NullSymbol, Uninit as UninitSymbol}
use Rattle.ta_core.specs.declared.symbol.Symbol.TheVariants.{Dangling as DanglingSymbol, Ref, Cell}
use Rattle.ta_core.specs.declared.tree.Tree.{Tree, out-Tree, out-roll-Tree}
use Rattle.ta_core.proofs.Runs.{along, widened}
use Rattle.ta_core.proofs.Shifting.{left_run, right_run, run_shifted, united_proper}
use Rattle.fa_core.specs.declared.faces.BoxFace.{BoxFace}
use Rattle.fa_core.specs.declared.forest.Target.TheVariants.{Null, Uninit, Dangling, At}
use Rattle.fa_core.specs.Dressed.{Parts, node}
use Rattle.fa_core.specs.Folding.{symbol_slots}
use Rattle.fa_core.specs.Member.{bare, bare_parts, slots_of}
use Rattle.fa_core.specs.Ways.{has}
use Rattle.fa_core.proofs.Dressing.{cell_is_no_leaf}
use Rattle.fa_back.proofs.RootMarks.{in_has, in_flat}
use Rattle.fa_split.proofs.FreshStates.{stay, widen, fresh_run, states_more, rules_more}
use Rattle.fa_split.proofs.TopRules.{fresh_top_one}
use Rattle.fa_split.specs.Chosen.{chosen, IsBy}
use Rattle.fa_unfold.specs.Parts.{Part, listed}
use Rattle.fa_unfold.specs.Slots.{Place, joined, state_places, rule_places, place_key, moved_place, with_slots}
use Rattle.fa_unfold.specs.Slots.{with_places}
use Rattle.fa_unfold.specs.Unfolding.{rules_below, child_states, below_tops, grown}
use Rattle.fa_unfold.specs.inner.Trees.{unlisted, part_key}
use Rattle.fa_unfold.proofs.Joins.{joined_paired, joined_apart, joined_every}
use Rattle.fa_unfold.proofs.PlaceRuns.{PlaceOf, IsPlace, same_key, places_right, places_moved, places_wider, slots_in}
use Rattle.fa_unfold.proofs.PlaceRuns.{states_in, places_again, places_apart, runs_places, places_runs, places_turned}
use Rattle.fa_unfold.proofs.PlaceRuns.{states_low, states_each, places_lowered, places_raised}
use Rattle.fa_unfold.proofs.PlaceRuns.{places_long, places_below}

-- A tree by a rule, slot by slot.

-- the cell is that of the rule, but for its slots
abbrev pub IsCellOf : Symbol → ℕ → List Datum → Type 0
IsCellOf y s ds = (old : List Slot) × (y ≡ Cell s ds old)

-- a run of a cell ends with a rule
pub top_rule_of : (rules : List Rule) (q c s : ℕ) (ds : List Datum) (ps : Parts) → RunOf rules q (bare (node c s ds ps))
    → (x : Rule) × IsIn x rules × (x.state ≡ q) × (x.symbol ≡ Cell s ds (slots_of ps))
    × RunEach rules x.children (bare_parts ps)
top_rule_of rules q c s ds ps (run x i e y k) =
    let o = out-roll-Tree (record { symbol = Cell s ds (slots_of ps); children = bare_parts ps }) in
    (x, i, e, rw o at y, rw o at k)

pub by_rule : (rules : List Rule) (x : Rule) (c s : ℕ) (ds : List Datum) (ps : Parts) → IsIn x rules
    → x.symbol ≡ Cell s ds (slots_of ps) → RunEach rules x.children (bare_parts ps)
    → RunOf rules x.state (bare (node c s ds ps))
by_rule rules x c s ds ps i y k =
    let o = out-roll-Tree (record { symbol = Cell s ds (slots_of ps); children = bare_parts ps }) in
    run x i refl (rw o y) (rw o k)

pub top_by : (rules : List Rule) (x : Rule) (c s : ℕ) (ds : List Datum) (ps : Parts)
    → x.symbol ≡ Cell s ds (slots_of ps) → RunEach rules x.children (bare_parts ps)
    → IsBy rules x (bare (node c s ds ps))
top_by rules x c s ds ps y k =
    let o = out-roll-Tree (record { symbol = Cell s ds (slots_of ps); children = bare_parts ps }) in
    (rw o y, rw o k)

-- the slots of a tree by a rule
pub rule_runs : (rules : List Rule) (x : Rule) (s : ℕ) (ds : List Datum) (ps : Parts)
    → x.symbol ≡ Cell s ds (slots_of ps) → RunEach rules x.children (bare_parts ps)
    → Paired (PlaceOf (RunOf rules)) (rule_places x) (listed ps)
rule_runs rules x s ds ps y k =
    subst (λ (z : Symbol). Paired (PlaceOf (RunOf rules)) (state_places (symbol_slots z) x.children) (listed ps))
    (sym y) (runs_places rules x.children ps k)

-- and a tree of such slots
pub run_by_places : (rules : List Rule) (n : ℕ) (x : Rule) (c s : ℕ) (ds : List Datum) (ys : List Part) → IsIn x rules
    → IsRankedRule n x → IsCellOf x.symbol s ds → Paired (PlaceOf (RunOf rules)) (rule_places x) ys
    → RunOf rules x.state (bare (node c s ds (unlisted ys)))
run_by_places rules n x c s ds ys i r y h =
    let l : length x.children ≡ arity (Cell s ds y.0) = subst (λ (z : Symbol). length x.children ≡ arity z) y.1 r.2 in
    let z : Paired (PlaceOf (RunOf rules)) (state_places y.0 x.children) ys =
    subst (λ (z : Symbol). Paired (PlaceOf (RunOf rules)) (state_places (symbol_slots z) x.children) ys) y.1 h in
    let a = places_apart y.0 x.children l in
    let k = places_runs rules (state_places y.0 x.children) ys z in
    by_rule rules x c s ds (unlisted ys) i (y.1 ∙ ap (Cell s ds) (sym (k.0 ∙ a.0)))
    (subst (λ (qs : List ℕ). RunEach rules qs (bare_parts (unlisted ys))) a.1 k.1)

-- a cell with other slots is a cell
cell_before : (y : Symbol) (ss : List Slot) (s : ℕ) (ds : List Datum) (zs : List Slot) → with_slots y ss ≡ Cell s ds zs
    → IsCellOf y s ds × (ss ≡ zs)
cell_before NullSymbol ss s ds zs e = absurd (cell_is_no_leaf Null s ds zs e)
cell_before UninitSymbol ss s ds zs e = absurd (cell_is_no_leaf Uninit s ds zs e)
cell_before DanglingSymbol ss s ds zs e = absurd (cell_is_no_leaf Dangling s ds zs e)
cell_before (Ref r) ss s ds zs e = absurd (cell_is_no_leaf (At r) s ds zs e)
cell_before (Cell z cs old) ss s ds zs e = ((old, ap (λ (w : Symbol). with_slots w old) e), ap symbol_slots e)

cell_after : (y : Symbol) (ss : List Slot) (s : ℕ) (ds : List Datum) → IsCellOf y s ds → with_slots y ss ≡ Cell s ds ss
cell_after y ss s ds h = ap (λ (w : Symbol). with_slots w ss) h.1

one_root : (q r : ℕ) → IsIn q (r ∷ []) → q ≡ r
one_root q r (inl e) = e
one_root q r (inr i) = absurd i

one_rule : (x y : Rule) → IsIn x (y ∷ []) → x ≡ y
one_rule x y (inl e) = e
one_rule x y (inr i) = absurd i

-- What stands below the tops of a port's trees.

module _ (roots children : List ℕ) where
  below_in : (xs : List Rule) (o : Rule) → IsIn o (rules_below roots children xs) → IsIn o xs
  below_in [] o i = absurd i
  below_in (x ∷ xs) o i = here (has x.state roots && not (has x.state children)) i (below_in xs o)
    where
      here : (b : Bool) → IsIn o (if b then rules_below roots children xs else x ∷ rules_below roots children xs)
          → (IsIn o (rules_below roots children xs) → IsIn o xs) → IsIn o (x ∷ xs)
      here true j rec = inr (rec j)
      here false (inl e) rec = inl e
      here false (inr j) rec = inr (rec j)

  in_below : (xs : List Rule) (o : Rule) → IsIn o xs → IsIn o.state children → IsIn o (rules_below roots children xs)
  in_below [] o i c = absurd i
  in_below (x ∷ xs) o (inl e) c =
      let a : has x.state children ≡ true = in_has x.state children (subst (λ (w : Rule). IsIn w.state children) e c) in
      let b : (has x.state roots && not (has x.state children)) ≡ false =
      ap (λ (w : Bool). has x.state roots && not w) a ∙ and_false (has x.state roots) in
      subst (λ (w : Bool). IsIn o (if w then rules_below roots children xs else x ∷ rules_below roots children xs))
      (sym b) (inl e)
    where
      and_false : (w : Bool) → (w && false) ≡ false
      and_false true = refl
      and_false false = refl
  in_below (x ∷ xs) o (inr i) c = here (has x.state roots && not (has x.state children)) (in_below xs o i c)
    where
      here : (b : Bool) → IsIn o (rules_below roots children xs)
          → IsIn o (if b then rules_below roots children xs else x ∷ rules_below roots children xs)
      here true k = k
      here false k = inr k

module _ (b : Automaton) (right : IsRanked b) where
  abbrev below : Automaton
  below = below_tops b

  pub below_right : IsRanked below
  below_right = (
    right.0,
    in_every (IsRankedRule b.states) below.rules
        (λ o i. every_in (IsRankedRule b.states) b.rules o right.1
        (below_in b.roots (child_states b.rules) b.rules o i)),
  )

  below_widened : (q : ℕ) (t : Tree) → RunOf below.rules q t → RunOf b.rules q t
  below_widened q t w = widened below.rules b.rules (λ o i. below_in b.roots (child_states b.rules) b.rules o i) w

  abbrev IsChildHere : ℕ → ℕ → Type 0
  IsChildHere p q = (p ≡ q) × IsIn p (child_states b.rules)

  children_here : (qs : List ℕ) → Every (λ q. IsIn q (child_states b.rules)) qs → Paired IsChildHere qs qs
  children_here [] h = tt
  children_here (q ∷ qs) h = ((refl, h.0), children_here qs h.1)

  rule_children : (o : Rule) → IsIn o b.rules → Every (λ q. IsIn q (child_states b.rules)) o.children
  rule_children o i = in_every (λ q. IsIn q (child_states b.rules)) o.children
      (λ q j. in_flat (λ (r : Rule). r.children) b.rules o q i j)

  -- the runs to the states of children stay
  below_stays : (q : ℕ) (t : Tree) → IsIn q (child_states b.rules) → RunOf b.rules q t → RunOf below.rules q t
  below_stays q t c w =
      along b.rules below.rules IsChildHere
      (λ o p ts i h k. (
        o,
        in_below b.roots (child_states b.rules) b.rules o i h.1,
        h.0,
        refl,
        children_here o.children (rule_children o i),
      )) q (refl, c) w

module _ (bs : List BoxFace) (a : Automaton) (x : Rule) (base : List Place) (b : Automaton) (z : Rule)
    (left : IsRanked a) (right : IsRanked b) (rule : IsIn z b.rules) (places : Every (IsPlace a.states) base) where
  abbrev u : Automaton
  u = united a (below_tops b)

  abbrev pub all : List Place
  all = joined (place_key bs) base (map (moved_place a.states) (rule_places z))

  abbrev fresh : Rule
  fresh = record { state = u.states; symbol = (with_places x all).symbol; children = (with_places x all).children }

  ranked : IsRanked u
  ranked = united_proper a (below_tops b) left (below_right b right)

  behind : (o : Rule) → IsIn o (fresh ∷ []) → u.states ≤ o.state
  behind o i = let e = ap (λ (w : Rule). w.state) (one_rule o fresh i) in
      let k : o.state ≡ a.states + b.states = e in omega (arith, k)

  gained_right : Every (IsPlace b.states) (rule_places z)
  gained_right = places_right b.states (symbol_slots z.symbol) z.children
      (every_in (IsRankedRule b.states) b.rules z right.1 rule).1

  all_right : Every (IsPlace u.states) all
  all_right = joined_every (place_key bs) (IsPlace u.states) base (map (moved_place a.states) (rule_places z))
      (places_wider a.states b.states base places) (places_moved b.states a.states (rule_places z) gained_right)

  pub grown_right : (s : ℕ) (ds : List Datum) → IsCellOf x.symbol s ds → IsRanked (grown bs a x base b z)
  grown_right s ds y = (
    (omega arith, tt),
    every_append (IsRankedRule (u.states + 1)) u.rules (fresh ∷ []) (rules_more u.states (u.states + 1) (omega arith)
        u.rules ranked.1) (
          (
            omega arith,
            states_more u.states (u.states + 1) (omega arith) (states_in all) (places_below u.states all all_right),
            places_long u.states all all_right ∙ ap arity (sym (cell_after x.symbol (slots_in all) s ds y)),
          ),
          tt,
        ),
  )

  -- it has one rule at the top
  pub grown_one : HasOneTop (grown bs a x base b z)
  grown_one = fresh_top_one u.states (u.states + 1) u.rules fresh [] refl
      (in_every (λ (o : Rule). o.state < u.states) u.rules
      (λ o i. (every_in (IsRankedRule u.states) u.rules o ranked.1 i).0)) tt

  -- the one rule: a cell with the slots
  pub grown_rule : (s : ℕ) (ds : List Datum) → IsCellOf x.symbol s ds → (w : Rule)
      × IsIn w (grown bs a x base b z).rules
      × IsIn w.state (grown bs a x base b z).roots
      × IsCellOf w.symbol s ds
  grown_rule s ds y = (
    fresh,
    in_right fresh u.rules (fresh ∷ []) (inl refl),
    inl refl,
    (slots_in all, cell_after x.symbol (slots_in all) s ds y),
  )

  -- each tree has the one rule's symbol at its top
  pub grown_symbol : (t : Tree) → InLanguage (grown bs a x base b z) t → (out-Tree t).symbol
      ≡ with_slots x.symbol (map (λ p. p.0) all)
  grown_symbol t (q, i, r) =
      let f = fresh_run u (fresh ∷ []) ranked behind q t
      (let e : q ≡ a.states + b.states = one_root q u.states i in omega (arith, e)) r in
      sym f.3 ∙ ap (λ (w : Rule). w.symbol) (one_rule f.0 fresh f.1)

  -- the slots of a tree: some of the first automaton's, and some of the port's
  pub record Grown (s : ℕ) (ds : List Datum) (ys : List Part) : Type 0 where
    pub cell : IsCellOf x.symbol s ds
    pub own : List Part
    pub gained : List Part
    pub is : ys ≡ joined (part_key bs) own gained
    pub runs : Paired (PlaceOf (RunOf a.rules)) base own
    pub more : Paired (PlaceOf (RunOf b.rules)) (rule_places z) gained

  pub from_grown : (c s : ℕ) (ds : List Datum) (ps : Parts) → InLanguage (grown bs a x base b z) (bare (node c s ds ps))
      → Grown s ds (listed ps)
  from_grown c s ds ps (q, i, r) =
      let m = top_rule_of (chosen u (with_places x all)).rules q c s ds ps r in
      let f = fresh_run u (fresh ∷ []) ranked behind q (bare (node c s ds ps))
      (let e : q ≡ a.states + b.states = one_root q u.states i in omega (arith, e)) r in
      let e : f.0 ≡ fresh = one_rule f.0 fresh f.1 in
      let o = out-roll-Tree (record { symbol = Cell s ds (slots_of ps); children = bare_parts ps }) in
      let y : f.0.symbol ≡ Cell s ds (slots_of ps) = (let w = f.3 in rw o at w) in
      let k : RunEach (chosen u (with_places x all)).rules f.0.children (bare_parts ps) = (let w = f.4 in rw o at w) in
      let cb = cell_before x.symbol (slots_in all) s ds (slots_of ps) (sym (ap (λ (w : Rule). w.symbol) e) ∙ y) in
      let ke : RunEach (chosen u (with_places x all)).rules (states_in all) (bare_parts ps) =
      subst (λ (w : Rule). RunEach (chosen u (with_places x all)).rules w.children (bare_parts ps)) e k in
      let p : Paired (PlaceOf (RunOf (chosen u (with_places x all)).rules)) (state_places (slots_of ps) (states_in all))
      (listed ps) = runs_places (chosen u (with_places x all)).rules (states_in all) ps ke in
      let p1 : Paired (PlaceOf (RunOf (chosen u (with_places x all)).rules)) all (listed ps) =
      subst (λ (w : List Place). Paired (PlaceOf (RunOf (chosen u (with_places x all)).rules)) w (listed ps))
      (ap (λ (w : List Slot). state_places w (states_in all)) (sym cb.1) ∙ places_again u.states all all_right) p in
      let p2 : Paired (PlaceOf (RunOf u.rules)) all (listed ps) =
      places_turned (λ q. q < u.states) (RunOf (chosen u (with_places x all)).rules) (RunOf u.rules)
      (λ q t l w. stay u (fresh ∷ []) ranked behind q t l w) all (listed ps) (states_low u.states all all_right) p1 in
      let j = joined_apart (PlaceOf (RunOf u.rules)) (place_key bs) (part_key bs) (same_key bs (RunOf u.rules)) base
      (map (moved_place a.states) (rule_places z)) (listed ps) p2 in
      record {
        cell = cb.0;
        own = j.0;
        gained = j.1;
        is = j.2;
        runs = places_turned (λ q. q < a.states) (RunOf u.rules) (RunOf a.rules)
            (λ q t l w. left_run a (below_tops b) left l w) base j.0 (states_low a.states base places) j.3;
        more = places_lowered a.states (RunOf u.rules) (RunOf b.rules)
            (λ q t w. below_widened b right q t (right_run a (below_tops b) left q refl w)) b.states (rule_places z) j.1
            gained_right j.4;
      }

  pub to_grown : (c s : ℕ) (ds : List Datum) (ks rs : List Part) → IsCellOf x.symbol s ds
      → Paired (PlaceOf (RunOf a.rules)) base ks → Paired (PlaceOf (RunOf b.rules)) (rule_places z) rs
      → InLanguage (grown bs a x base b z) (bare (node c s ds (unlisted (joined (part_key bs) ks rs))))
  to_grown c s ds ks rs y h k =
      let rules = (chosen u (with_places x all)).rules in
      let w1 : Paired (PlaceOf (RunOf rules)) base ks =
      places_turned (λ q. q < a.states) (RunOf a.rules) (RunOf rules)
      (λ q t l w. widen u (fresh ∷ []) ranked behind q t
      (widened a.rules u.rules (λ o i. in_left o a.rules (map (renumbered (shift a.states)) (below_tops b).rules) i) w))
      base ks (states_low a.states base places) h in
      let w2 : Paired (PlaceOf (RunOf rules)) (map (moved_place a.states) (rule_places z)) rs =
      places_raised a.states (RunOf rules) (RunOf (below_tops b).rules)
      (λ q t w. widen u (fresh ∷ []) ranked behind (q + a.states) t
      (widened (map (renumbered (shift a.states)) (below_tops b).rules) u.rules
      (λ o i. in_right o a.rules (map (renumbered (shift a.states)) (below_tops b).rules) i)
      (run_shifted a.states (below_tops b).rules w)))
      (rule_places z) rs
      (places_turned (λ q. IsIn q (child_states b.rules)) (RunOf b.rules) (RunOf (below_tops b).rules)
      (λ q t c w. below_stays b right q t c w) (rule_places z) rs
      (states_each (λ q. IsIn q (child_states b.rules)) (symbol_slots z.symbol) z.children
      (rule_children b right z rule))
      k) in
      let j = joined_paired (PlaceOf (RunOf rules)) (place_key bs) (part_key bs) (same_key bs (RunOf rules)) base
      (map (moved_place a.states) (rule_places z)) ks rs w1 w2 in
      let g = places_runs rules all (joined (part_key bs) ks rs) j in (
        u.states,
        inl refl,
        by_rule rules fresh c s ds (unlisted (joined (part_key bs) ks rs))
            (in_right fresh u.rules (fresh ∷ []) (inl refl))
            (cell_after x.symbol (slots_in all) s ds y ∙ ap (Cell s ds) (sym g.0)) g.1,
      )

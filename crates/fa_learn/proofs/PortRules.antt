-- The rules of a component of a box between two roots: each stands in some tree of the component, so at the top of a
-- port or below it, where rules of the forest stand.
use Rattle.std.proofs.Common.{◌≡◌, ◌⊎◌, ◌<◌, inl, inr, ℕ, Bool, true, false, cond, List, [], ◌∷◌, map, filter}
use Rattle.std.proofs.Common.{refl, sym, ap, subst, ◌∙◌}
use Rattle.fore_base.specs.Lists.{IsIn, Every}
use Rattle.fore_base.proofs.ListLemmas.{every_in, in_every, in_mapped}
use Rattle.fore_base.specs.declared.store.Datum.{Datum}
use Rattle.ta_core.specs.Auto.{Automaton, IsRanked, IsRankedRule}
use Rattle.ta_core.specs.Language.{InLanguage, IsTrim, RunOf, run, RunEach, run_none, run_more, PassesBy, at_top, below}
use Rattle.ta_core.specs.Language.{OnePasses, this_one, later_one, HasTree}
use Rattle.ta_core.specs.declared.auto.Rule.{Rule}
use Rattle.ta_core.specs.declared.symbol.Slot.{Slot}
use Rattle.ta_core.specs.declared.symbol.Symbol.{Symbol}
use Rattle.ta_core.specs.declared.symbol.Symbol.TheVariants.{Null, Uninit, Dangling, Ref, Cell}
use Rattle.ta_core.specs.declared.tree.Tree.{Tree, Tree-F, out-Tree, out-roll-Tree}
use Rattle.ta_core.proofs.Runs.{passed_tree, run_tree, tree_of, trees_of}
use Rattle.fa_core.specs.declared.faces.Face.{Face}
use Rattle.fa_core.specs.declared.forest.Target.TheVariants.{At}
use Rattle.fa_core.specs.Boxes.{IsChild, PortRulesFit, PortSymbolFits}
use Rattle.fa_core.specs.Dressed.{Parts, no_parts, field, link, hook, node}
use Rattle.fa_core.specs.Filled.{RulesFit, SlotFits, SymbolFits}
use Rattle.fa_core.specs.Folding.{is_one_of, moved_symbol, moved_tree}
use Rattle.fa_core.specs.Member.{bare, bare_end, bare_parts, slots_of}
use Rattle.fa_core.specs.Placed.{placed_parts}
use Rattle.fa_core.specs.Ways.{has}
use Rattle.fa_core.proofs.Dressing.{cell_top}
use Rattle.fa_core.proofs.Placing.{slots_placed}
use Rattle.fa_folding.specs.Folded.{taken_parts}
use Rattle.fa_folding.proofs.Insides.{moved_end}
use Rattle.fa_folding.proofs.Moving.{moved_top}
use Rattle.fa_learn.proofs.PortsSeen.{port_node}
use Rattle.fa_learn.proofs.TakenParts.{taken_slots}

-- v stands in the tree
data StandsIn (v : Tree) : Tree → Type 0 where
  is_top : {t : Tree} → v ≡ t → StandsIn v t
  is_under : {t : Tree} (c : Tree) → IsIn c (out-Tree t).children → StandsIn v c → StandsIn v t

-- below its top
abbrev StandsUnder : Tree → Tree → Type 0
StandsUnder v t = (c : Tree) × IsIn c (out-Tree t).children × StandsIn v c

children_of : (y : Symbol) (ts : List Tree) (c : Tree) → IsIn c ts → IsIn c (out-Tree (tree_of y ts)).children
children_of y ts c i =
    let x : Tree-F Tree = record { symbol = y; children = ts } in
    subst (λ (z : Tree-F Tree). IsIn c z.children) (sym (out-roll-Tree x)) i

under_more : (v u : Tree) → StandsUnder v u → (t : Tree) → StandsIn u t → StandsUnder v t
under_more v u h t (is_top e) = subst (λ (z : Tree). StandsUnder v z) e h
under_more v u h t (is_under c i k) = let m = under_more v u h c k in (c, i, is_under m.0 m.1 m.2)

module _ (rules : List Rule) where
  -- another tree of the state, put where a run passes by it
  mutual
    put : {q p : ℕ} {t : Tree} (v : Tree) → PassesBy rules q p t → RunOf rules q v
        → (u : Tree) × RunOf rules p u × StandsIn v u
    put v (at_top e r) k = (v, subst (λ (n : ℕ). RunOf rules n v) (sym e) k, is_top refl)
    put v (below r i e s o) k =
        let m = put_one v o k in (
          tree_of r.symbol m.0,
          subst (λ (n : ℕ). RunOf rules n (tree_of r.symbol m.0)) e (run_tree rules r m.0 i m.1),
          is_under m.2.0 (children_of r.symbol m.0 m.2.0 m.2.1) m.2.2,
        )

    put_one : {q : ℕ} {qs : List ℕ} {ts : List Tree} (v : Tree) → OnePasses rules q qs ts → RunOf rules q v
        → (us : List Tree) × RunEach rules qs us × ((c : Tree) × IsIn c us × StandsIn v c)
    put_one v (this_one {ts = ts} h rs) k = let m = put v h k in (m.0 ∷ ts, run_more m.1 rs, (m.0, inl refl, m.2))
    put_one v (later_one {t = t} r o) k = let m = put_one v o k in (t ∷ m.0, run_more r m.1, (m.2.0, inr m.2.1, m.2.2))

  -- below the top, where the run passes by it there
  put_below : {q p : ℕ} {ts : List Tree} (v : Tree) (r : Rule) → IsIn r rules → r.state ≡ p
      → OnePasses rules q r.children ts → RunOf rules q v → (u : Tree) × RunOf rules p u × StandsUnder v u
  put_below v r i e o k =
      let m = put_one v o k in (
        tree_of r.symbol m.0,
        subst (λ (n : ℕ). RunOf rules n (tree_of r.symbol m.0)) e (run_tree rules r m.0 i m.1),
        (m.2.0, children_of r.symbol m.0 m.2.0 m.2.1, m.2.2),
      )

-- Trees with moved references.
module _ (face : Face) (a : Automaton) (fits : RulesFit face a) (f : ℕ → ℕ) where
  moved_fits : (y : Symbol) → SymbolFits face y → SymbolFits face (moved_symbol f y)
  moved_fits Null h = tt
  moved_fits Uninit h = tt
  moved_fits Dangling h = tt
  moved_fits (Ref r) h = tt
  moved_fits (Cell s ds ss) h = h

  child_run : {qs : List ℕ} {ts : List Tree} (t : Tree) → RunEach a.rules qs ts → IsIn t ts
      → (q : ℕ) × RunOf a.rules q t
  child_run t run_none i = absurd i
  child_run t (run_more {q = q} r rs) (inl e) = (q, subst (λ (z : Tree). RunOf a.rules q z) (sym e) r)
  child_run t (run_more r rs) (inr i) = child_run t rs i

  moved_out : (t : Tree) → out-Tree (moved_tree f t)
      ≡ record { symbol = moved_symbol f (out-Tree t).symbol; children = map (moved_tree f) (out-Tree t).children }
  moved_out t =
      ap out-Tree (moved_top f t)
      ∙ out-roll-Tree
      (record { symbol = moved_symbol f (out-Tree t).symbol; children = map (moved_tree f) (out-Tree t).children })

  -- each symbol in a moved tree of a state fits
  stands_fits : (v u : Tree) → StandsIn v u → (t : Tree) (q : ℕ) → u ≡ moved_tree f t → RunOf a.rules q t
      → SymbolFits face (out-Tree v).symbol
  stands_fits v u (is_top d) t q e (run r i state s k) =
      let o : (out-Tree v).symbol ≡ moved_symbol f (out-Tree t).symbol =
      ap (λ (z : Tree). (out-Tree z).symbol) (d ∙ e) ∙ ap (λ (z : Tree-F Tree). z.symbol) (moved_out t) in
      rw o
      (moved_fits (out-Tree t).symbol
      (subst (SymbolFits face) s (every_in (λ (x : Rule). SymbolFits face x.symbol) a.rules r fits i)))
  stands_fits v u (is_under c j h) t q e (run r i state s k) =
      let m = in_mapped (moved_tree f) c (out-Tree t).children
      (subst (λ (l : List Tree). IsIn c l)
      (ap (λ (z : Tree). (out-Tree z).children) e ∙ ap (λ (z : Tree-F Tree). z.children) (moved_out t)) j) in
      let d = child_run m.0 k m.1 in
      stands_fits v c h m.0 d.0 m.2 d.1

  module _ (shape : ℕ) (fs : List ℕ) where
    -- a child of a port is a moved child of the cell
    port_child : (c : Tree) (ps : Parts) → IsIn c (bare_parts (placed_parts (λ k. At (f k)) (taken_parts fs ps)))
        → (t : Tree) × IsIn t (bare_parts ps) × (c ≡ moved_tree f t)
    port_child c no_parts h = absurd h
    port_child c (field g e ps) h = here (has g fs) h (port_child c ps)
      where
        later : (t : Tree) × IsIn t (bare_parts ps) × (c ≡ moved_tree f t)
            → (t : Tree) × IsIn t (bare_end e ∷ bare_parts ps) × (c ≡ moved_tree f t)
        later w = (w.0, inr w.1, w.2)

        here : (b : Bool)
            → IsIn c (bare_parts (placed_parts (λ k. At (f k)) (cond b (field g e (taken_parts fs ps)) (taken_parts fs ps))))
            → (IsIn c (bare_parts (placed_parts (λ k. At (f k)) (taken_parts fs ps)))
            → (t : Tree) × IsIn t (bare_parts ps) × (c ≡ moved_tree f t))
            → (t : Tree) × IsIn t (bare_end e ∷ bare_parts ps) × (c ≡ moved_tree f t)
        here true (inl d) go = (bare_end e, inl refl, d ∙ sym (moved_end f e))
        here true (inr k) go = later (go k)
        here false k go = later (go k)
    port_child c (link b i e ps) h = let w = port_child c ps h in (w.0, inr w.1, w.2)
    port_child c (hook b i ps) h = port_child c ps h

    -- each symbol below the top of a port fits
    under_fits : (v : Tree) (c s : ℕ) (ds : List Datum) (ps : Parts) → InLanguage a (bare (node c s ds ps))
        → StandsUnder v (bare (port_node f shape fs ps)) → SymbolFits face (out-Tree v).symbol
    under_fits v c s ds ps (q, i, run r j e y k) h =
        let qs = placed_parts (λ n. At (f n)) (taken_parts fs ps) in
        let x : Tree-F Tree = record { symbol = Cell shape [] (slots_of qs); children = bare_parts qs } in
        let z : Tree-F Tree = record { symbol = Cell s ds (slots_of ps); children = bare_parts ps } in
        let m = port_child h.0 ps (subst (λ (o : Tree-F Tree). IsIn h.0 o.children) (out-roll-Tree x) h.1) in
        let d = child_run m.0
        (subst (λ (o : Tree-F Tree). RunEach a.rules r.children o.children) (out-roll-Tree z) k) m.1 in
        stands_fits v h.0 h.2 m.0 d.0 m.2 d.1

    -- the symbol of a port fits
    every_filter : (P : Slot → Type 0) (p : Slot → Bool) (ss : List Slot) → Every P ss → Every P (filter p ss)
    every_filter P p [] h = tt
    every_filter P p (s ∷ ss) h = here (p s) (every_filter P p ss h.1)
      where
        here : (b : Bool) → Every P (filter p ss) → Every P (cond b (s ∷ filter p ss) (filter p ss))
        here true k = (h.0, k)
        here false k = k

    port_fits : (c : ℕ) (ds : List Datum) (ps : Parts) → InLanguage a (bare (node c shape ds ps))
        → PortSymbolFits face (out-Tree (bare (port_node f shape fs ps))).symbol
    port_fits c ds ps (q, i, run r j e y k) =
        let qs = placed_parts (λ n. At (f n)) (taken_parts fs ps) in
        let fit : SymbolFits face (Cell shape ds (slots_of ps)) =
        subst (SymbolFits face) (y ∙ cell_top c shape ds ps)
        (every_in (λ (x : Rule). SymbolFits face x.symbol) a.rules r fits j) in
        let d : slots_of qs ≡ filter (is_one_of fs) (slots_of ps) =
        slots_placed (λ n. At (f n)) (taken_parts fs ps) ∙ taken_slots fs ps in
        rw (cell_top 0 shape [] qs) (
          fit.0,
          refl,
          subst (Every (SlotFits face shape)) (sym d)
              (every_filter (SlotFits face shape) (is_one_of fs) (slots_of ps) fit.3),
        )

    -- A component of such ports alone.
    module _ (b : Automaton) (trim : IsTrim b) (ranked : IsRanked b)
        (ports : (u : Tree) → InLanguage b u → (c : ℕ) × (ds : List Datum) × (ps : Parts)
        × InLanguage a (bare (node c shape ds ps)) × (u ≡ bare (port_node f shape fs ps))) where
      below_state : (n : ℕ) → n < b.states → HasTree b.rules n
      below_state n l = passed_tree (trim n l).3

      state_low : (r : Rule) → IsIn r b.rules → (r.state < b.states) × Every (λ q. q < b.states) r.children
      state_low r i = let k = every_in (IsRankedRule b.states) b.rules r ranked.1 i in (k.0, k.1)

      -- a tree by the rule
      by_rule : (r : Rule) → IsIn r b.rules → (ts : List Tree) × RunEach b.rules r.children ts
      by_rule r i =
          trees_of b.rules r.children
          (in_every (HasTree b.rules) r.children
          (λ q j. below_state q (every_in (λ (n : ℕ). n < b.states) r.children q (state_low r i).1 j)))

      abbrev rule_tree : (r : Rule) → IsIn r b.rules → Tree
      rule_tree r i = tree_of r.symbol (by_rule r i).0

      rule_run : (r : Rule) (i : IsIn r b.rules) → RunOf b.rules r.state (rule_tree r i)
      rule_run r i = run_tree b.rules r (by_rule r i).0 i (by_rule r i).1

      rule_symbol : (r : Rule) (i : IsIn r b.rules) → (out-Tree (rule_tree r i)).symbol ≡ r.symbol
      rule_symbol r i =
          let x : Tree-F Tree = record { symbol = r.symbol; children = (by_rule r i).0 } in
          ap (λ (z : Tree-F Tree). z.symbol) (out-roll-Tree x)

      -- what stands below the top of a tree fits
      fits_under : (v u : Tree) → InLanguage b u → StandsUnder v u → SymbolFits face (out-Tree v).symbol
      fits_under v u h k =
          let w = ports u h in
          under_fits v w.0 shape w.1 w.2 w.3 (subst (λ (z : Tree). StandsUnder v z) w.4 k)

      at_root : (r : Rule) (i : IsIn r b.rules) → IsIn r.state b.roots → PortSymbolFits face r.symbol
      at_root r i h =
          let w = ports (rule_tree r i) (r.state, h, rule_run r i) in
          subst (PortSymbolFits face) (ap (λ (z : Tree). (out-Tree z).symbol) (sym w.4) ∙ rule_symbol r i)
          (port_fits w.0 w.1 w.2 w.3)

      -- a tree by a rule with this child
      with_child : (qs : List ℕ) → Every (λ q. q < b.states) qs → (q : ℕ) (v : Tree) → IsIn q qs → RunOf b.rules q v
          → (ts : List Tree) × RunEach b.rules qs ts × IsIn v ts
      with_child [] h q v i k = absurd i
      with_child (x ∷ qs) h q v (inl e) k =
          let m = trees_of b.rules qs
          (in_every (HasTree b.rules) qs (λ n j. below_state n (every_in (λ (z : ℕ). z < b.states) qs n h.1 j))) in
          (v ∷ m.0, run_more (subst (λ (z : ℕ). RunOf b.rules z v) e k) m.1, inl refl)
      with_child (x ∷ qs) h q v (inr i) k =
          let t = below_state x h.0 in
          let m = with_child qs h.1 q v i k in (t.0 ∷ m.0, run_more t.1 m.1, inr m.2)

      inside : (r : Rule) (i : IsIn r b.rules) → (IsIn r.state b.roots → ⊥) ⊎ IsChild b r.state
          → SymbolFits face r.symbol
      inside r i (inl n) = here (trim r.state (state_low r i).0)
        where
          here : (p : ℕ) × (t : Tree) × IsIn p b.roots × PassesBy b.rules r.state p t → SymbolFits face r.symbol
          here (p, t, j, at_top e k) = absurd (n (subst (λ (z : ℕ). IsIn z b.roots) e j))
          here (p, t, j, below o m e s k) =
              let w = put_below b.rules (rule_tree r i) o m e k (rule_run r i) in
              subst (SymbolFits face) (rule_symbol r i) (fits_under (rule_tree r i) w.0 (p, j, w.1) w.2)
      inside r i (inr (o, j, k)) =
          let low = state_low o j in
          let m = with_child o.children low.1 r.state (rule_tree r i) k (rule_run r i) in
          let u = tree_of o.symbol m.0 in
          let x = trim o.state low.0 in
          let w = put b.rules u x.3 (run_tree b.rules o m.0 j m.1) in
          subst (SymbolFits face) (rule_symbol r i)
          (fits_under (rule_tree r i) w.0 (x.0, x.2, w.1)
          (under_more (rule_tree r i) u
          (rule_tree r i, children_of o.symbol m.0 (rule_tree r i) m.2, is_top refl) w.0 w.2))

      pub port_rules : PortRulesFit face b
      port_rules = record {
        tops = in_every (λ (r : Rule). IsIn r.state b.roots → PortSymbolFits face r.symbol) b.rules (λ r i. at_root r i);
        inner = in_every
            (λ (r : Rule). (IsIn r.state b.roots → ⊥) ⊎ IsChild b r.state → SymbolFits face r.symbol) b.rules
            (λ r i. inside r i);
      }

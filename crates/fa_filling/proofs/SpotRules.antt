-- The cells of the trees of a trimmed automaton, from its rules.
use Rattle.std.proofs.Common.{◌≡◌, inl, inr, ℕ, suc, ◌<◌, List, [], ◌∷◌, ◌++◌, length, map, flat_map, refl, sym, ap}
use Rattle.std.proofs.Common.{ap₂, subst, ◌∙◌, arith}
use Rattle.fore_base.specs.Lists.{IsIn, Every, Paired}
use Rattle.fore_base.specs.declared.store.Datum.{Datum}
use Rattle.ta_core.specs.declared.auto.Rule.{Rule}
use Rattle.ta_core.specs.declared.symbol.Slot.{Slot}
use Rattle.ta_core.specs.declared.symbol.Slot.TheVariants.{Field, Link, Hook}
use Rattle.ta_core.specs.declared.symbol.Symbol.{Symbol}
use Rattle.ta_core.specs.declared.symbol.Symbol.TheVariants.{Null, Uninit, Dangling, Ref, Cell}
use Rattle.ta_core.specs.declared.tree.Tree.{Tree, Tree-F, out-Tree, out-roll-Tree}
use Rattle.ta_core.specs.Arity.{child_slots, arity}
use Rattle.ta_core.specs.Auto.{Automaton, IsRanked, IsRankedRule}
use Rattle.ta_core.specs.Language.{InLanguage, HasTree, RunOf, run, RunEach, run_none, run_more, PassesBy, at_top}
use Rattle.ta_core.specs.Language.{below, OnePasses, this_one, later_one, IsTrim}
use Rattle.fore_base.proofs.ListLemmas.{every_in, in_every, every_append, every_weaker}
use Rattle.ta_core.proofs.Runs.{tree_of, run_tree, trees_of, passed_tree}
use Rattle.fa_core.specs.declared.faces.BoxFace.{BoxFace}
use Rattle.fa_core.specs.Ways.{given_by}
use Rattle.fa_core.specs.Cells.{edges}
use Rattle.fa_core.specs.Filled.{Spot, spots, spots_at, child_spots}
use Rattle.fa_filling.specs.Ruled.{spot, SymbolsOf, RuleSpots, BelowRule, SpotsFromRules}
use Rattle.fa_core.proofs.NodeSpots.{spots_out, with_spots}

-- the symbol at the top of a tree
abbrev pub top_symbol : Tree → Symbol
top_symbol t = (out-Tree t).symbol

-- a state that takes part has a tree
pub passed : (rules : List Rule) {q p : ℕ} {t : Tree} → PassesBy rules q p t → HasTree rules q
passed rules h = passed_tree h

module _ (bs : List BoxFace) where
  children_spots : (ss : List Slot) (ts : List Tree) → child_spots bs ss (map (spots bs) ts)
      ≡ flat_map (λ e. spots bs e.1 (given_by bs e.0)) (edges ss ts)
  children_spots [] ts = refl
  children_spots (Hook b ∷ ss) ts = children_spots ss ts
  children_spots (Field f ∷ ss) [] = refl
  children_spots (Field f ∷ ss) (t ∷ ts) = ap (λ (l : List Spot). spots bs t [] ++ l) (children_spots ss ts)
  children_spots (Link b ∷ ss) [] = refl
  children_spots (Link b ∷ ss) (t ∷ ts) =
      ap (λ (l : List Spot). spots bs t (given_by bs (Link b)) ++ l) (children_spots ss ts)

  firsts : (ts : List Tree) → map (λ c. (out-Tree c.0).symbol) (with_spots bs ts) ≡ map (λ t. (out-Tree t).symbol) ts
  firsts [] = refl
  firsts (t ∷ ts) = ap (λ (l : List Symbol). (out-Tree t).symbol ∷ l) (firsts ts)

  seconds : (ts : List Tree) → map (λ c. c.1) (with_spots bs ts) ≡ map (spots bs) ts
  seconds [] = refl
  seconds (t ∷ ts) = ap (λ (l : List (List ℕ → List Spot)). spots bs t ∷ l) (seconds ts)

  -- the cells of a cell: itself, and those below its edges
  pub cell_spots : (t : Tree) (above : List ℕ) (s : ℕ) (ds : List Datum) (ss : List Slot) → (out-Tree t).symbol
      ≡ Cell s ds ss → spots bs t above ≡ spot s ss (map top_symbol (out-Tree t).children) above
      ∷ flat_map (λ e. spots bs e.1 (given_by bs e.0)) (edges ss (out-Tree t).children)
  cell_spots t above s ds ss e =
      spots_out bs t above
      ∙ ap (λ (y : Symbol). spots_at bs y (with_spots bs (out-Tree t).children) above) e
      ∙ ap₂ (λ (ys : List Symbol) (l : List Spot). spot s ss ys above ∷ l) (firsts (out-Tree t).children)
      (ap (λ (l : List (List ℕ → List Spot)). child_spots bs ss l) (seconds (out-Tree t).children)
      ∙ children_spots ss (out-Tree t).children)

  module _ (P : Spot → Type 0) where
    -- P holds of each cell of the tree
    abbrev pub Holds : Tree → List ℕ → Type 0
    Holds t above = Every P (spots bs t above)

    abbrev pub HoldsBelow : List Slot → List Tree → Type 0
    HoldsBelow ss ts = Every (λ (e : Slot × Tree). Holds e.1 (given_by bs e.0)) (edges ss ts)

    pub every_flat : (es : List (Slot × Tree)) → Every (λ (e : Slot × Tree). Holds e.1 (given_by bs e.0)) es
        → Every P (flat_map (λ e. spots bs e.1 (given_by bs e.0)) es)
    every_flat [] h = tt
    every_flat (e ∷ es) h = every_append P (spots bs e.1 (given_by bs e.0))
        (flat_map (λ (x : Slot × Tree). spots bs x.1 (given_by bs x.0)) es) h.0 (every_flat es h.1)

    every_left : (xs ys : List Spot) → Every P (xs ++ ys) → Every P xs
    every_left [] ys h = tt
    every_left (x ∷ xs) ys h = (h.0, every_left xs ys h.1)

    every_right : (xs ys : List Spot) → Every P (xs ++ ys) → Every P ys
    every_right [] ys h = h
    every_right (x ∷ xs) ys h = every_right xs ys h.1

    pub flat_every : (es : List (Slot × Tree)) → Every P (flat_map (λ e. spots bs e.1 (given_by bs e.0)) es)
        → Every (λ (e : Slot × Tree). Holds e.1 (given_by bs e.0)) es
    flat_every [] h = tt
    flat_every (e ∷ es) h = (
      every_left (spots bs e.1 (given_by bs e.0)) _ h,
      flat_every es (every_right (spots bs e.1 (given_by bs e.0)) _ h),
    )

    pub holds_cell : (t : Tree) (above : List ℕ) (s : ℕ) (ds : List Datum) (ss : List Slot) → (out-Tree t).symbol
        ≡ Cell s ds ss → P (spot s ss (map top_symbol (out-Tree t).children) above)
        → HoldsBelow ss (out-Tree t).children → Holds t above
    holds_cell t above s ds ss e p h =
        subst (Every P) (sym (cell_spots t above s ds ss e)) (p, every_flat (edges ss (out-Tree t).children) h)

    pub cell_holds : (t : Tree) (above : List ℕ) (s : ℕ) (ds : List Datum) (ss : List Slot) → (out-Tree t).symbol
        ≡ Cell s ds ss → Holds t above → P (spot s ss (map top_symbol (out-Tree t).children) above)
        × HoldsBelow ss (out-Tree t).children
    cell_holds t above s ds ss e h = let k = subst (Every P) (cell_spots t above s ds ss e) h in
        (k.0, flat_every (edges ss (out-Tree t).children) k.1)

    pub leaf_holds : (t : Tree) (above : List ℕ) (y : Symbol) → (out-Tree t).symbol ≡ y
        → spots_at bs y (with_spots bs (out-Tree t).children) above ≡ [] → Holds t above
    leaf_holds t above y e k =
        subst (Every P)
        (sym (spots_out bs t above
        ∙ ap (λ (z : Symbol). spots_at bs z (with_spots bs (out-Tree t).children) above) e ∙ k)) tt

    module _ (rules : List Rule) where
      pub symbols_of : {qs : List ℕ} {ts : List Tree} → RunEach rules qs ts
          → Paired (SymbolsOf rules) qs (map top_symbol ts)
      symbols_of run_none = tt
      symbols_of (run_more (run r i e s k) rs) = ((r, i, e, s), symbols_of rs)

      holds_rule : (above : List ℕ) (t : Tree) (r : Rule) → RuleSpots P rules r above → r.symbol ≡ (out-Tree t).symbol
          → RunEach rules r.children (out-Tree t).children
          → ((h : ℕ) (ds : List Datum) (ss : List Slot) → r.symbol ≡ Cell h ds ss → HoldsBelow ss (out-Tree t).children)
          → (y : Symbol) → r.symbol ≡ y → Holds t above
      holds_rule above t r f s k g Null e = leaf_holds t above Null (sym s ∙ e) refl
      holds_rule above t r f s k g Uninit e = leaf_holds t above Uninit (sym s ∙ e) refl
      holds_rule above t r f s k g Dangling e = leaf_holds t above Dangling (sym s ∙ e) refl
      holds_rule above t r f s k g (Ref n) e = leaf_holds t above (Ref n) (sym s ∙ e) refl
      holds_rule above t r f s k g (Cell h ds ss) e =
          holds_cell t above h ds ss (sym s ∙ e) (f h ds ss e (map top_symbol (out-Tree t).children) (symbols_of k))
          (g h ds ss e)

      module _ (each : (r : Rule) → IsIn r rules → BelowRule bs P rules r) where
        mutual
          -- where P holds of what each rule can stand for, it holds of the cells of each tree
          pub holds_run : {q : ℕ} {t : Tree} (above : List ℕ) → RunOf rules q t
              → ((o : Rule) → IsIn o rules → o.state ≡ q → RuleSpots P rules o above) → Holds t above
          holds_run {q} {t} above (run r i e s k) f =
              holds_rule above t r (f r i e) s k (λ h ds ss x. holds_each ss k (each r i h ds ss x)) r.symbol refl

          pub holds_each : {qs : List ℕ} {ts : List Tree} (ss : List Slot) → RunEach rules qs ts
              → Every (λ (e : Slot × ℕ). (o : Rule) → IsIn o rules → o.state ≡ e.1
              → RuleSpots P rules o (given_by bs e.0)) (edges ss qs) → HoldsBelow ss ts
          holds_each [] k h = tt
          holds_each (Hook b ∷ ss) k h = holds_each ss k h
          holds_each (Field f ∷ ss) run_none h = tt
          holds_each (Field f ∷ ss) (run_more r rs) h = (holds_run [] r h.0, holds_each ss rs h.1)
          holds_each (Link b ∷ ss) run_none h = tt
          holds_each (Link b ∷ ss) (run_more r rs) h = (holds_run (given_by bs (Link b)) r h.0, holds_each ss rs h.1)

      -- a child of a proper rule's tree stands at an edge
      pub at_edge : {X : Type 0} (x : X) (ss : List Slot) (xs : List X) → length xs ≡ child_slots ss → IsIn x xs
          → (s : Slot) × IsIn (s, x) (edges ss xs)
      at_edge x [] [] l i = absurd i
      at_edge x [] (y ∷ ys) l i = absurd (omega (arith, l))
      at_edge x (Hook b ∷ ss) xs l i = at_edge x ss xs l i
      at_edge x (Field f ∷ ss) [] l i = absurd i
      at_edge x (Field f ∷ ss) (y ∷ ys) l (inl e) = (Field f, inl (ap (λ (z : _). (Field f, z)) e))
      at_edge x (Field f ∷ ss) (y ∷ ys) l (inr i) = let k = at_edge x ss ys (omega (arith, l)) i in (k.0, inr k.1)
      at_edge x (Link b ∷ ss) [] l i = absurd i
      at_edge x (Link b ∷ ss) (y ∷ ys) l (inl e) = (Link b, inl (ap (λ (z : _). (Link b, z)) e))
      at_edge x (Link b ∷ ss) (y ∷ ys) l (inr i) = let k = at_edge x ss ys (omega (arith, l)) i in (k.0, inr k.1)

      pub run_length : {qs : List ℕ} {ts : List Tree} → RunEach rules qs ts → length qs ≡ length ts
      run_length run_none = refl
      run_length (run_more r rs) = ap suc (run_length rs)

      -- P holds of the cells of u where it holds of those of t
      abbrev pub Contains : Tree → Tree → Type 0
      Contains t u = (above : List ℕ) → Holds t above → (a : List ℕ) × Holds u a

      pub child_held : (r : Rule) (vs : List Tree) (v : Tree) → length r.children ≡ arity r.symbol → length r.children
          ≡ length vs → IsIn v vs → Contains (tree_of r.symbol vs) v
      child_held r vs v l m i = here r.symbol refl
        where
          none : (xs : List Tree) → IsIn v xs → length xs ≡ 0 → ⊥
          none [] i l = i
          none (x ∷ xs) i l = omega (arith, l)

          here : (y : Symbol) → r.symbol ≡ y → Contains (tree_of r.symbol vs) v
          here Null e = absurd (none vs i (sym m ∙ l ∙ ap arity e))
          here Uninit e = absurd (none vs i (sym m ∙ l ∙ ap arity e))
          here Dangling e = absurd (none vs i (sym m ∙ l ∙ ap arity e))
          here (Ref n) e = absurd (none vs i (sym m ∙ l ∙ ap arity e))
          here (Cell s ds ss) e = λ above h.
              let x : Tree-F Tree = record { symbol = r.symbol; children = vs } in
              let o = out-roll-Tree x in
              let c = cell_holds (tree_of r.symbol vs) above s ds ss (rw o e) h in
              let b : HoldsBelow ss vs = subst (λ (z : Tree-F Tree). HoldsBelow ss z.children) o c.1 in
              let k = at_edge v ss vs (sym m ∙ l ∙ ap arity e) i in (
                given_by bs k.0,
                every_in (λ (z : Slot × Tree). Holds z.1 (given_by bs z.0)) (edges ss vs) (k.0, v) b
                    k.1,
              )

      module _ (n : ℕ) (proper : Every (IsRankedRule n) rules) where
        mutual
          -- another tree put at a node of its state
          pub put : {q p : ℕ} {t : Tree} (u : Tree) → PassesBy rules q p t → RunOf rules q u → (v : Tree)
              × RunOf rules p v × Contains v u
          put {q} {p} u (at_top e r) k = (u, subst (λ (x : ℕ). RunOf rules x u) (sym e) k, (λ above h. (above, h)))
          put {q} {p} u (below r i e s o) k =
              let g = put_one u o k in
              let c = every_in (IsRankedRule n) rules r proper i in (
                tree_of r.symbol g.0,
                subst (λ (x : ℕ). RunOf rules x (tree_of r.symbol g.0)) e (run_tree rules r g.0 i g.1),
                (λ above h. (let a = child_held r g.0 g.2.0 c.2 (run_length g.1) g.2.1 above h in g.2.2 a.0 a.1)),
              )

          put_one : {q : ℕ} {ps : List ℕ} {ts : List Tree} (u : Tree) → OnePasses rules q ps ts → RunOf rules q u
              → (vs : List Tree) × RunEach rules ps vs × ((v : Tree) × IsIn v vs × Contains v u)
          put_one u (this_one {ts = ts} h rs) k = let g = put u h k in (g.0 ∷ ts, run_more g.1 rs, (g.0, inl refl, g.2))
          put_one u (later_one {t = t} r o) k = let g = put_one u o k in
              (t ∷ g.0, run_more r g.1, (g.2.0, inr g.2.1, g.2.2))

        -- each of the states has a tree; so each rule has one, with any symbols that its children may have
        module _ (trees : (q : ℕ) → q < n → HasTree rules q) where
          pub some_trees : (qs : List ℕ) → Every (λ q. q < n) qs → (ts : List Tree) × RunEach rules qs ts
          some_trees qs h = trees_of rules qs (every_weaker (λ q. q < n) (HasTree rules) qs trees h)

          symbol_tree : (q : ℕ) (y : Symbol) → SymbolsOf rules q y → (t : Tree) × RunOf rules q t
              × ((out-Tree t).symbol ≡ y)
          symbol_tree q y (r, i, e, s) =
              let c = every_in (IsRankedRule n) rules r proper i in
              let k = some_trees r.children c.1 in (
                tree_of r.symbol k.0,
                subst (λ (x : ℕ). RunOf rules x (tree_of r.symbol k.0)) e (run_tree rules r k.0 i k.1),
                (let x : Tree-F Tree = record { symbol = r.symbol; children = k.0 } in rw (out-roll-Tree x) s),
              )

          pub symbol_trees : (qs : List ℕ) (ys : List Symbol) → Paired (SymbolsOf rules) qs ys → (ts : List Tree)
              × RunEach rules qs ts × (map top_symbol ts ≡ ys)
          symbol_trees [] [] h = ([], run_none, refl)
          symbol_trees [] (y ∷ ys) h = absurd h
          symbol_trees (q ∷ qs) [] h = absurd h
          symbol_trees (q ∷ qs) (y ∷ ys) h =
              let t = symbol_tree q y h.0 in
              let k = symbol_trees qs ys h.1 in
              (t.0 ∷ k.0, run_more t.1 k.1, ap₂ (λ (z : Symbol) (zs : List Symbol). z ∷ zs) t.2 k.2)

          -- a tree by the rule with these symbols below it
          abbrev pub RuleTree : Rule → List Symbol → Type 0
          RuleTree r ys = (ts : List Tree) × RunOf rules r.state (tree_of r.symbol ts) × (map top_symbol ts ≡ ys)

          pub rule_tree : (r : Rule) → IsIn r rules → (ys : List Symbol) → Paired (SymbolsOf rules) r.children ys
              → RuleTree r ys
          rule_tree r i ys h = let k = symbol_trees r.children ys h in (k.0, run_tree rules r k.0 i k.1, k.2)

          -- what P says of the cell at the top of such a tree
          pub tree_spot : (r : Rule) (ts : List Tree) (above : List ℕ) (s : ℕ) (ds : List Datum) (ss : List Slot)
              → r.symbol ≡ Cell s ds ss → Holds (tree_of r.symbol ts) above → P (spot s ss (map top_symbol ts) above)
              × HoldsBelow ss ts
          tree_spot r ts above s ds ss e h =
              let x : Tree-F Tree = record { symbol = r.symbol; children = ts } in
              let o = out-roll-Tree x in
              let c = cell_holds (tree_of r.symbol ts) above s ds ss (rw o e) h in
              subst (λ (z : Tree-F Tree). P (spot s ss (map top_symbol z.children) above) × HoldsBelow ss z.children) o
              c

          -- a rule of a root state
          pub root_spots : (r : Rule) → IsIn r rules → (above : List ℕ)
              → ((t : Tree) → RunOf rules r.state t → Holds t above) → RuleSpots P rules r above
          root_spots r i above f s ds ss e ys h =
              let k = rule_tree r i ys h in
              let c = tree_spot r k.0 above s ds ss e (f (tree_of r.symbol k.0) k.1) in
              subst (λ (zs : List Symbol). P (spot s ss zs above)) k.2 c.0

          -- trees of the states, with u in the place of one that stands at an edge
          pub with_edge : (ss : List Slot) (qs : List ℕ) → Every (λ q. q < n) qs → (e : Slot × ℕ) → IsIn e (edges ss qs)
              → (u : Tree) → RunOf rules e.1 u → (ts : List Tree) × RunEach rules qs ts × IsIn (e.0, u) (edges ss ts)
          with_edge [] qs h e i u k = absurd i
          with_edge (Hook b ∷ ss) qs h e i u k = with_edge ss qs h e i u k
          with_edge (Field f ∷ ss) [] h e i u k = absurd i
          with_edge (Field f ∷ ss) (q ∷ qs) h e (inl x) u k =
              let l = some_trees qs h.1 in (
                u ∷ l.0,
                run_more (subst (λ (z : Slot × ℕ). RunOf rules z.1 u) x k) l.1,
                inl (ap (λ (z : Slot × ℕ). (z.0, u)) x),
              )
          with_edge (Field f ∷ ss) (q ∷ qs) h e (inr j) u k =
              let t = trees q h.0 in
              let l = with_edge ss qs h.1 e j u k in
              (t.0 ∷ l.0, run_more t.1 l.1, inr l.2)
          with_edge (Link b ∷ ss) [] h e i u k = absurd i
          with_edge (Link b ∷ ss) (q ∷ qs) h e (inl x) u k =
              let l = some_trees qs h.1 in (
                u ∷ l.0,
                run_more (subst (λ (z : Slot × ℕ). RunOf rules z.1 u) x k) l.1,
                inl (ap (λ (z : Slot × ℕ). (z.0, u)) x),
              )
          with_edge (Link b ∷ ss) (q ∷ qs) h e (inr j) u k =
              let t = trees q h.0 in
              let l = with_edge ss qs h.1 e j u k in
              (t.0 ∷ l.0, run_more t.1 l.1, inr l.2)

          -- a rule below an edge of a rule whose state takes part
          pub edge_spots : {p : ℕ} {t : Tree} (above : List ℕ) → ((v : Tree) → RunOf rules p v → Holds v above)
              → (r : Rule) → IsIn r rules → PassesBy rules r.state p t → BelowRule bs P rules r
          edge_spots above f r i h s ds ss e = in_every _ (edges ss r.children) (λ d j o k x s2 ds2 ss2 e2 ys y. (
              let w = rule_tree o k ys y in
              let c = every_in (IsRankedRule n) rules r proper i in
              let l = with_edge ss r.children c.1 d j (tree_of o.symbol w.0)
              (subst (λ (z : ℕ). RunOf rules z (tree_of o.symbol w.0)) x w.1) in
              let g = put (tree_of r.symbol l.0) h (run_tree rules r l.0 i l.1) in
              let a = g.2 above (f g.0 g.1) in
              let b = tree_spot r l.0 a.0 s ds ss e a.1 in
              let m : Holds (tree_of o.symbol w.0) (given_by bs d.0) =
              every_in (λ (z : Slot × Tree). Holds z.1 (given_by bs z.0)) (edges ss l.0)
              (d.0, tree_of o.symbol w.0) b.1 l.2 in
              let q = tree_spot o w.0 (given_by bs d.0) s2 ds2 ss2 e2 m in
              subst (λ (zs : List Symbol). P (spot s2 ss2 zs (given_by bs d.0))) w.2 q.0))

    -- P holds of the cells of all trees of a trimmed automaton exactly where it holds of all that its rules can make
    pub spots_by_rules : (a : Automaton) (above : List ℕ) → SpotsFromRules bs P a above → (t : Tree) → InLanguage a t
        → Holds t above
    spots_by_rules a above h t l =
        holds_run a.rules h.1 above l.2 (λ o i e. h.0 o i (subst (λ (x : ℕ). IsIn x a.roots) (sym e) l.1))

    pub rules_by_spots : (a : Automaton) (above : List ℕ) → IsRanked a → IsTrim a
        → ((t : Tree) → InLanguage a t → Holds t above) → SpotsFromRules bs P a above
    rules_by_spots a above proper trim f = (
      (λ r i j. root_spots a.rules a.states proper.1 trees r i above (λ t k. f t (r.state, j, k))),
      (λ r i. (let c = every_in (IsRankedRule a.states) a.rules r proper.1 i in let p = trim r.state c.0 in
          edge_spots a.rules a.states proper.1 trees above (λ v k. f v (p.0, p.2, k)) r i p.3)),
    )
      where
        trees : (q : ℕ) → q < a.states → HasTree a.rules q
        trees q l = let p = trim q l in passed_tree p.3

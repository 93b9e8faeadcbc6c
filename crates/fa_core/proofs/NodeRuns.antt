-- Runs on dressed trees.
use Rattle.std.proofs.Common.{◌≡◌, ℕ, List, [], ◌∷◌, refl}
use Rattle.ta_core.specs.declared.auto.Rule.{Rule}
use Rattle.ta_core.specs.declared.symbol.Symbol.TheVariants.{Cell as CellSymbol}
use Rattle.ta_core.specs.declared.tree.Tree.{Tree, Tree-F, roll-Tree, out-roll-Tree}
use Rattle.fore_base.specs.Lists.{IsIn}
use Rattle.ta_core.specs.Language.{RunOf, run, RunEach, run_none, run_more}
use Rattle.fa_core.specs.Dressed.{Node, Parts, End, node, no_parts, field, link, hook, under, leaf}
use Rattle.fa_core.specs.Member.{bare, bare_parts, bare_end, slots_of, leaf_symbol}

abbrev mutual
  -- the tree under the node has a run to the state
  pub NodeRun : List Rule → ℕ → Node → Type 0
  NodeRun rules q (node c s ds ps) = (r : Rule) × IsIn r rules × (r.state ≡ q)
      × (r.symbol ≡ CellSymbol s ds (slots_of ps)) × PartsRun rules r.children ps

  pub PartsRun : List Rule → List ℕ → Parts → Type 0
  PartsRun rules [] no_parts = Unit {0}
  PartsRun rules (q ∷ qs) no_parts = ⊥
  PartsRun rules [] (field f e ps) = ⊥
  PartsRun rules (q ∷ qs) (field f e ps) = EndRun rules q e × PartsRun rules qs ps
  PartsRun rules [] (link b inside e ps) = ⊥
  PartsRun rules (q ∷ qs) (link b inside e ps) = EndRun rules q e × PartsRun rules qs ps
  PartsRun rules qs (hook b inside ps) = PartsRun rules qs ps

  pub EndRun : List Rule → ℕ → End → Type 0
  EndRun rules q (under n) = NodeRun rules q n
  EndRun rules q (leaf t) = (r : Rule) × IsIn r rules × (r.state ≡ q) × (r.symbol ≡ leaf_symbol t) × (r.children ≡ [])

-- a run by a rule over the parts of a rolled tree
rolled_run : (rules : List Rule) (q : ℕ) (x : Tree-F Tree) (r : Rule) → IsIn r rules → r.state ≡ q → r.symbol ≡ x.symbol
    → RunEach rules r.children x.children → RunOf rules q (roll-Tree x)
rolled_run rules q x r i e s k = run r i e (rw (out-roll-Tree x) s) (rw (out-roll-Tree x) k)

rolled_rule : (rules : List Rule) (q : ℕ) (x : Tree-F Tree) → RunOf rules q (roll-Tree x) → (r : Rule) × IsIn r rules
    × (r.state ≡ q) × (r.symbol ≡ x.symbol) × RunEach rules r.children x.children
rolled_rule rules q x (run r i e s k) = (r, i, e, rw (out-roll-Tree x) at s, rw (out-roll-Tree x) at k)

no_more : (rules : List Rule) (qs : List ℕ) → RunEach rules qs [] → qs ≡ []
no_more rules [] run_none = refl
no_more rules (q ∷ qs) h = elim h [ ]

no_none : (rules : List Rule) (q : ℕ) (qs : List ℕ) → RunEach rules (q ∷ qs) [] → ⊥
no_none rules q qs h = elim h [ ]

no_first : (rules : List Rule) (t : Tree) (ts : List Tree) → RunEach rules [] (t ∷ ts) → ⊥
no_first rules t ts h = elim h [ ]

first_of_more : (rules : List Rule) (qs : List ℕ) (t : Tree) (ts : List Tree) → RunEach rules qs (t ∷ ts) → (q : ℕ)
    × (ps : List ℕ) × (qs ≡ q ∷ ps) × RunOf rules q t × RunEach rules ps ts
first_of_more rules [] t ts h = elim h [ ]
first_of_more rules (q ∷ ps) t ts (run_more a b) = (q, ps, refl, a, b)

module _ (rules : List Rule) where
  mutual
    pub node_bare : (q : ℕ) (n : Node) → NodeRun rules q n → RunOf rules q (bare n)
    node_bare q (node c s ds ps) h =
        rolled_run rules q (record { symbol = CellSymbol s ds (slots_of ps); children = bare_parts ps }) h.0 h.1 h.2 h.3
        (parts_bare h.0.children ps h.4)

    pub parts_bare : (qs : List ℕ) (ps : Parts) → PartsRun rules qs ps → RunEach rules qs (bare_parts ps)
    parts_bare [] no_parts h = run_none
    parts_bare (q ∷ qs) no_parts h = absurd h
    parts_bare [] (field f e ps) h = absurd h
    parts_bare (q ∷ qs) (field f e ps) h = run_more (end_bare q e h.0) (parts_bare qs ps h.1)
    parts_bare [] (link b inside e ps) h = absurd h
    parts_bare (q ∷ qs) (link b inside e ps) h = run_more (end_bare q e h.0) (parts_bare qs ps h.1)
    parts_bare qs (hook b inside ps) h = parts_bare qs ps h

    pub end_bare : (q : ℕ) (e : End) → EndRun rules q e → RunOf rules q (bare_end e)
    end_bare q (under n) h = node_bare q n h
    end_bare q (leaf t) h = rolled_run rules q (record { symbol = leaf_symbol t; children = [] }) h.0 h.1 h.2 h.3
        (rw h.4 run_none)

  mutual
    pub bare_node : (q : ℕ) (n : Node) → RunOf rules q (bare n) → NodeRun rules q n
    bare_node q (node c s ds ps) h =
        let m = rolled_rule rules q (record { symbol = CellSymbol s ds (slots_of ps); children = bare_parts ps }) h in
        (m.0, m.1, m.2, m.3, bare_each m.0.children ps m.4)

    pub bare_each : (qs : List ℕ) (ps : Parts) → RunEach rules qs (bare_parts ps) → PartsRun rules qs ps
    bare_each [] no_parts h = tt
    bare_each (q ∷ qs) no_parts h = absurd (no_none rules q qs h)
    bare_each [] (field f e ps) h = absurd (no_first rules (bare_end e) (bare_parts ps) h)
    bare_each (q ∷ qs) (field f e ps) (run_more a b) = (bare_of_end q e a, bare_each qs ps b)
    bare_each [] (link b inside e ps) h = absurd (no_first rules (bare_end e) (bare_parts ps) h)
    bare_each (q ∷ qs) (link b inside e ps) (run_more x y) = (bare_of_end q e x, bare_each qs ps y)
    bare_each qs (hook b inside ps) h = bare_each qs ps h

    pub bare_of_end : (q : ℕ) (e : End) → RunOf rules q (bare_end e) → EndRun rules q e
    bare_of_end q (under n) h = bare_node q n h
    bare_of_end q (leaf t) h =
        let m = rolled_rule rules q (record { symbol = leaf_symbol t; children = [] }) h in
        (m.0, m.1, m.2, m.3, no_more rules m.0.children m.4)

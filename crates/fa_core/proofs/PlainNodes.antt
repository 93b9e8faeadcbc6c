-- Dressed trees without box edges.
use Rattle.std.proofs.Common.{ℕ, List, [], ◌∷◌, subst}
use Rattle.fore_base.specs.Lists.{Every}
use Rattle.fore_base.proofs.ListLemmas.{every_in}
use Rattle.ta_core.specs.Auto.{Automaton}
use Rattle.ta_core.specs.declared.auto.Rule.{Rule}
use Rattle.fa_core.specs.declared.boxes.BoxDef.{BoxDef}
use Rattle.fa_core.specs.Boxless.{IsField, IsPlain, HasNoBoxes}
use Rattle.fa_core.specs.Dressed.{Node, Parts, End, Nodes, node, no_parts, field, link, hook, under, leaf, no_nodes}
use Rattle.fa_core.specs.Dressed.{more}
use Rattle.fa_core.specs.Member.{TreesOf, InsidesOf, InsidesOfParts, InsidesOfEnd, slots_of}
use Rattle.fa_core.proofs.NodeRuns.{NodeRun, PartsRun, EndRun, bare_node}

abbrev mutual
  -- the tree has no box edge
  pub NoEdges : Node → Type 0
  NoEdges (node c s ds ps) = NoEdgesOf ps

  -- no slot is a box edge, nor is one below
  pub NoEdgesOf : Parts → Type 0
  NoEdgesOf no_parts = Unit {0}
  NoEdgesOf (field f e ps) = NoEdgesAt e × NoEdgesOf ps
  NoEdgesOf (link b i e ps) = ⊥
  NoEdgesOf (hook b i ps) = ⊥

  -- no box edge is below the end
  pub NoEdgesAt : End → Type 0
  NoEdgesAt (under n) = NoEdges n
  NoEdgesAt (leaf t) = Unit {0}

-- no tree has a box edge
abbrev pub NoEdgesIn : Nodes → Type 0
NoEdgesIn no_nodes = Unit {0}
NoEdgesIn (more n ns) = NoEdges n × NoEdgesIn ns

-- where no rule has a box edge, no tree that runs has one
module _ (rules : List Rule) (plain : Every (λ (r : Rule). IsPlain r.symbol) rules) where
  mutual
    pub run_no_edges : (q : ℕ) (n : Node) → NodeRun rules q n → NoEdges n
    run_no_edges q (node c s ds ps) h =
        parts_no_edges h.0.children ps
        (subst IsPlain h.3 (every_in (λ (r : Rule). IsPlain r.symbol) rules h.0 plain h.1)) h.4

    pub parts_no_edges : (qs : List ℕ) (ps : Parts) → Every IsField (slots_of ps) → PartsRun rules qs ps → NoEdgesOf ps
    parts_no_edges qs no_parts f h = tt
    parts_no_edges [] (field g e ps) f h = absurd h
    parts_no_edges (q ∷ qs) (field g e ps) f h = (end_no_edges q e h.0, parts_no_edges qs ps f.1 h.1)
    parts_no_edges qs (link b i e ps) f h = absurd f.0
    parts_no_edges qs (hook b i ps) f h = absurd f.0

    pub end_no_edges : (q : ℕ) (e : End) → EndRun rules q e → NoEdgesAt e
    end_no_edges q (under n) h = run_no_edges q n h
    end_no_edges q (leaf t) h = tt

-- no dressed forest of a forest without box edges has one
pub trees_no_edges : (T : List BoxDef) (autos : List Automaton) (d : Nodes) → Every HasNoBoxes autos → TreesOf T autos d
    → NoEdgesIn d
trees_no_edges T [] no_nodes b h = tt
trees_no_edges T [] (more n ns) b h = absurd h
trees_no_edges T (a ∷ autos) no_nodes b h = absurd h
trees_no_edges T (a ∷ autos) (more n ns) b h =
    (run_no_edges a.rules b.0 h.0.0 n (bare_node a.rules h.0.0 n h.0.2), trees_no_edges T autos ns b.1 h.2)

-- a tree without box edges has no insides, so that each is of its box
module _ (T : List BoxDef) where
  mutual
    pub no_insides : (n : Node) → NoEdges n → InsidesOf T n
    no_insides (node c s ds ps) b = no_insides_of ps b

    pub no_insides_of : (ps : Parts) → NoEdgesOf ps → InsidesOfParts T ps
    no_insides_of no_parts b = tt
    no_insides_of (field f e ps) b = (no_insides_at e b.0, no_insides_of ps b.1)
    no_insides_of (link c i e ps) b = absurd b
    no_insides_of (hook c i ps) b = absurd b

    pub no_insides_at : (e : End) → NoEdgesAt e → InsidesOfEnd T e
    no_insides_at (under n) b = no_insides n b
    no_insides_at (leaf t) b = tt

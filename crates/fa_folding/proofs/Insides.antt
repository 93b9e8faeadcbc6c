-- The inside that is made of the part of a dressed forest is a dressed forest of the part, and so of the box.
use Rattle.std.proofs.Common.{◌≡◌, ℕ, zero, suc, Bool, true, false, cond, List, [], ◌∷◌, ◌++◌, map}
use Rattle.std.proofs.Common.{refl, sym, ap, ap₂, subst, ◌∙◌, Option, Some, slice_get}
use Rattle.std.proofs.lemmas.Option.{none-some, same_Some}
use Rattle.fore_base.specs.Lists.{Paired}
use Rattle.ta_core.specs.Auto.{Automaton}
use Rattle.ta_core.specs.Language.{InLanguage, IsWithin}
use Rattle.ta_core.specs.declared.symbol.Slot.{Slot}
use Rattle.ta_core.specs.declared.symbol.Slot.TheVariants.{Field, Link, Hook}
use Rattle.ta_core.specs.declared.symbol.Symbol.{Symbol}
use Rattle.ta_core.specs.declared.symbol.Symbol.TheVariants.{Cell as CellSymbol}
use Rattle.ta_core.specs.declared.tree.Tree.{Tree, Tree-F, roll-Tree, fold-roll-Tree}
use Rattle.fa_core.specs.declared.boxes.BoxDef.{BoxDef}
use Rattle.fa_core.specs.declared.faces.BoxFace.{BoxFace}
use Rattle.fa_core.specs.declared.forest.Forest.{Forest}
use Rattle.fa_core.specs.declared.forest.Target.{Target}
use Rattle.fa_core.specs.declared.forest.Target.TheVariants.{Null, Uninit, Dangling, At}
use Rattle.fa_core.specs.Dressed.{Node, Parts, End, Nodes, node, no_parts, field, link, hook, under, leaf, no_nodes}
use Rattle.fa_core.specs.Dressed.{more}
use Rattle.fa_core.specs.Folding.{moved_symbol, moved_tree, moved_places, cell_of, taken, position, Ports}
use Rattle.fa_core.specs.Folding.{port_tree, ArePortAutos, AreInnerAutos, IsPart, IsPartWithin}
use Rattle.fa_core.specs.Member.{bare, bare_parts, bare_end, slots_of, leaf_symbol, inside_of, InsidesOf}
use Rattle.fa_core.specs.Member.{InsidesOfParts, TreesOf, OfForest}
use Rattle.fa_core.specs.Placed.{placed, placed_parts, placed_end, placed_leaf}
use Rattle.fa_core.specs.Ways.{has}
use Rattle.fa_core.proofs.Placing.{insides_placed, slots_placed}
use Rattle.fa_folding.specs.Folded.{taken_parts, parts_of, node_or, each_node, inside_of_part}
use Rattle.fa_folding.proofs.Places.{part_places, top_places_are, taken_places, cell_is}

abbrev pub numbered_at : (ℕ → ℕ) → ℕ → Target
numbered_at f k = At (f k)

module _ (f : ℕ → ℕ) where
  abbrev φ : ℕ → Target
  φ = numbered_at f

  moved_opened : (x : Tree-F Tree) → moved_tree f (roll-Tree x)
      ≡ roll-Tree (record { symbol = moved_symbol f x.symbol; children = map (moved_tree f) x.children })
  moved_opened x = fold-roll-Tree Tree (λ t. roll-Tree
      (record { symbol = moved_symbol f t.symbol; children = t.children })) x

  leaf_moved : (t : Target) → moved_symbol f (leaf_symbol t) ≡ leaf_symbol (placed_leaf φ t)
  leaf_moved Null = refl
  leaf_moved Uninit = refl
  leaf_moved Dangling = refl
  leaf_moved (At k) = refl

  mutual
    -- references with other numbers, in trees and in dressed trees
    pub moved_is : (n : Node) → moved_tree f (bare n) ≡ bare (placed φ n)
    moved_is (node c s ds ps) = moved_opened
        (record { symbol = CellSymbol s ds (slots_of ps); children = bare_parts ps })
        ∙ ap₂ (λ (x : List Slot) (y : List Tree). roll-Tree (record { symbol = CellSymbol s ds x; children = y }))
        (sym (slots_placed φ ps)) (moved_parts ps)

    moved_parts : (ps : Parts) → map (moved_tree f) (bare_parts ps) ≡ bare_parts (placed_parts φ ps)
    moved_parts no_parts = refl
    moved_parts (field g e ps) = ap₂ (λ (x : Tree) (y : List Tree). x ∷ y) (moved_end e) (moved_parts ps)
    moved_parts (link b inside e ps) = ap₂ (λ (x : Tree) (y : List Tree). x ∷ y) (moved_end e) (moved_parts ps)
    moved_parts (hook b inside ps) = moved_parts ps

    pub moved_end : (e : End) → moved_tree f (bare_end e) ≡ bare_end (placed_end φ e)
    moved_end (under n) = moved_is n
    moved_end (leaf t) = moved_opened (record { symbol = leaf_symbol t; children = [] })
        ∙ ap (λ (x : Symbol). roll-Tree (record { symbol = x; children = [] })) (leaf_moved t)

  pub places_moved : (ps : Parts) → moved_places f (part_places ps) ≡ part_places (placed_parts φ ps)
  places_moved no_parts = refl
  places_moved (field g e ps) = ap₂ (λ (x : Tree) (y : List (Slot × List Tree)). (Field g, x ∷ []) ∷ y) (moved_end e)
      (places_moved ps)
  places_moved (link b inside e ps) = ap₂ (λ (x : Tree) (y : List (Slot × List Tree)). (Link b, x ∷ []) ∷ y)
      (moved_end e) (places_moved ps)
  places_moved (hook b inside ps) = ap (λ (y : List (Slot × List Tree)). (Hook b, []) ∷ y) (places_moved ps)

  -- a port's tree, dressed
  pub port_is : (s : ℕ) (fs : List ℕ) (n : Node)
      → port_tree f s fs (bare n) ≡ bare (node 0 s [] (placed_parts φ (taken_parts fs (parts_of n))))
  port_is s fs (node c z ds ps) = ap (λ (x : List (Slot × List Tree)). cell_of s [] x)
      (ap (λ (x : List (Slot × List Tree)). moved_places f (taken fs x)) (top_places_are c z ds ps)
      ∙ ap (moved_places f) (taken_places fs ps) ∙ places_moved (taken_parts fs ps))
      ∙ cell_is 0 s [] (placed_parts φ (taken_parts fs ps))

module _ (T : List BoxDef) where
  taken_insides : (fs : List ℕ) (n : Node) → InsidesOf T n → InsidesOfParts T (taken_parts fs (parts_of n))
  taken_insides fs (node c s ds ps) h = these ps h
    where
      these : (ps : Parts) → InsidesOfParts T ps → InsidesOfParts T (taken_parts fs ps)
      these no_parts h = tt
      these (field g e ps) h = here (has g fs) (these ps h.1)
        where
          here : (b : Bool) → InsidesOfParts T (taken_parts fs ps)
              → InsidesOfParts T (cond b (field g e (taken_parts fs ps)) (taken_parts fs ps))
          here true k = (h.0, k)
          here false k = k
      these (link b inside e ps) h = these ps h.2
      these (hook b inside ps) h = these ps h.1

  -- the k-th tree of a dressed forest
  pub tree_there : (autos : List Automaton) (d : Nodes) (k : ℕ) (a : Automaton) → TreesOf T autos d
      → slice_get autos k ≡ Some a → InLanguage a (bare (node_or d k)) × InsidesOf T (node_or d k)
  tree_there [] d k a h e = absurd (none-some a e)
  tree_there (b ∷ autos) no_nodes k a h e = absurd h
  tree_there (b ∷ autos) (more n ns) zero a h e =
      (subst (λ (z : Automaton). InLanguage z (bare n)) (same_Some b a e) h.0, h.1)
  tree_there (b ∷ autos) (more n ns) (suc k) a h e = tree_there autos ns k a h.2 e

  module _ (f : ℕ → ℕ) (autos : List Automaton) (d : Nodes) (of : TreesOf T autos d) where
    inner_of : (inner : List ℕ) (made : List Automaton) → AreInnerAutos f autos inner made
        → TreesOf T made (each_node (λ r. placed (numbered_at f) (node_or d r)) inner)
    inner_of [] [] h = tt
    inner_of [] (b ∷ made) h = absurd h
    inner_of (r ∷ rs) [] h = absurd h
    inner_of (r ∷ rs) (b ∷ made) h =
        let t = tree_there autos d r h.0.0 of h.0.1 in (
          (h.0.2 (bare (placed (numbered_at f) (node_or d r)))).1
              (bare (node_or d r), t.0, sym (moved_is f (node_or d r))),
          insides_placed (numbered_at f) T
              (node_or d r) t.1,
          inner_of rs made h.1,
        )

    pub part_of : (ps : Ports) (ss : List ℕ) (made : List Automaton) (inner : List ℕ) (more_made : List Automaton)
        → ArePortAutos f autos ps ss made → AreInnerAutos f autos inner more_made
        → TreesOf T (made ++ more_made) (inside_of_part (numbered_at f) d ps ss inner)
    part_of [] ss made inner more_made h k =
        subst (λ (z : List Automaton). TreesOf T (z ++ more_made)
        (each_node (λ r. placed (numbered_at f) (node_or d r)) inner)) (sym h) (inner_of inner more_made k)
    part_of (p ∷ ps) [] made inner more_made h k = absurd h
    part_of (p ∷ ps) (s ∷ ss) [] inner more_made h k = absurd h
    part_of (p ∷ ps) (s ∷ ss) (b ∷ made) inner more_made h k =
        let t = tree_there autos d p.0 h.0.0 of h.0.1 in
        let n = node 0 s [] (taken_parts p.1 (parts_of (node_or d p.0))) in (
          (h.0.2 (bare (placed (numbered_at f) n))).1
              (bare (node_or d p.0), t.0, sym (port_is f s p.1 (node_or d p.0))),
          insides_placed (numbered_at f) T n (taken_insides p.1 (node_or d p.0) t.1),
          part_of ps ss made inner more_made h.1 k,
        )

  pub within_of : (as' bs : List Automaton) (d : Nodes) → Paired IsWithin as' bs → TreesOf T as' d → TreesOf T bs d
  within_of [] [] d w h = h
  within_of [] (b ∷ bs) d w h = absurd w
  within_of (a ∷ as') [] d w h = absurd w
  within_of (a ∷ as') (b ∷ bs) no_nodes w h = absurd h
  within_of (a ∷ as') (b ∷ bs) (more n ns) w h = (w.0 (bare n) h.0, h.1, within_of as' bs ns w.1 h.2)

  -- the law: what is taken of a dressed forest of F is a dressed inside of the part, and of the box where the part is
  -- within it
  pub part_is_inside : (fs : List BoxFace) (F : Forest) (def : BoxDef) (i : ℕ) (out : Option ℕ) (g : BoxDef)
      (p : IsPart fs F def i out g) → IsPartWithin g def → (d : Nodes) → OfForest T F d
      → TreesOf T def.inside.autos (inside_of_part
      (numbered_at (position (map (λ q. q.0) p.ports ++ p.inner))) d p.ports p.shapes p.inner)
  part_is_inside fs F def i out g p w d of =
      let f = position (map (λ q. q.0) p.ports ++ p.inner) in
      within_of g.inside.autos def.inside.autos (inside_of_part (numbered_at f) d p.ports p.shapes p.inner) w
      (subst (λ (z : List Automaton). TreesOf T z (inside_of_part (numbered_at f) d p.ports p.shapes p.inner))
      (sym p.autos) (part_of f F.autos d of p.ports p.shapes p.port_autos p.inner p.inner_autos p.at_ports
      p.at_inner))

  pub inside_is : (n : ℕ) (def : BoxDef) → slice_get T n ≡ Some def → inside_of T n ≡ Some def.inside.autos
  inside_is n def e = here T n e
    where
      here : (T : List BoxDef) (n : ℕ) → slice_get T n ≡ Some def → inside_of T n ≡ Some def.inside.autos
      here [] n e = absurd (none-some def e)
      here (x ∷ xs) zero e = ap (λ (z : BoxDef). Some z.inside.autos) (same_Some x def e)
      here (x ∷ xs) (suc n) e = here xs n e

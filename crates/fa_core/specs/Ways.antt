-- The ways from the top of a tree to its references, and the signature that they give.
use Rattle.std.specs.Prelude.{ℕ, Bool, true, false, ◌&&◌, ◌||◌, nat_eq, nat_le, if◌then◌else◌, List, [], ◌∷◌, ◌++◌, map}
use Rattle.std.specs.Prelude.{filter, length, flat_map, Option, Some, None, slice_get}
use Rattle.ta_core.specs.declared.symbol.Slot.{Slot}
use Rattle.ta_core.specs.declared.symbol.Slot.TheVariants.{Field, Link, Hook}
use Rattle.ta_core.specs.declared.symbol.Symbol.{Symbol}
use Rattle.ta_core.specs.declared.symbol.Symbol.TheVariants.{Null, Uninit, Dangling, Ref, Cell}
use Rattle.ta_core.specs.declared.tree.Tree.{Tree, fold-Tree}
use Rattle.fa_core.specs.declared.faces.BoxFace.{BoxFace}
use Rattle.fa_core.specs.declared.signature.RefMark.{RefMark}
use Rattle.fa_core.specs.Rearranged.{in_order}

-- Ways.

-- one edge of a way: its slot, and the roots to which the tree under its upper cell refers
pub record Step : Type 0 where
  pub slot : Slot
  pub refers : List ℕ

-- the way to a leaf that refers to a root: its edges from the top down
pub record Way : Type 0 where
  pub root : ℕ
  pub steps : List Step

-- each way of each child, with the slot of the child
abbrev pub child_ways : List Slot → List (List Way) → List (Slot × Way)
child_ways [] ws = []
child_ways (Hook b ∷ ss) ws = child_ways ss ws
child_ways (Field f ∷ ss) [] = []
child_ways (Field f ∷ ss) (w ∷ ws) = map (λ p. (Field f, p)) w ++ child_ways ss ws
child_ways (Link b ∷ ss) [] = []
child_ways (Link b ∷ ss) (w ∷ ws) = map (λ p. (Link b, p)) w ++ child_ways ss ws

-- the way with one more edge at its top, under a cell whose tree refers to these roots
abbrev pub longer : List ℕ → Slot × Way → Way
longer rs p = record { root = p.1.root; steps = record { slot = p.0; refers = rs } ∷ p.1.steps }

-- the ways of a tree by the symbol at its top and the ways of its children
abbrev pub ways_at : Symbol → List (List Way) → List Way
ways_at Null ws = []
ways_at Uninit ws = []
ways_at Dangling ws = []
ways_at (Ref r) ws = record { root = r; steps = [] } ∷ []
ways_at (Cell s ds ss) ws = map (longer (map (λ p. p.1.root) (child_ways ss ws))) (child_ways ss ws)

-- the ways of a tree, in the order of a walk through it
abbrev pub ways : Tree → List Way
ways = fold-Tree (List Way) (λ t. ways_at t.symbol t.children)

-- What box edges give.

-- whether a face leads back; where there is none, no
abbrev pub leads_through : Option BoxFace → Bool
leads_through None = false
leads_through (Some x) = x.back

-- the fields that a face gives to its output; where there is none, none
abbrev pub fields_out : Option BoxFace → List ℕ
fields_out None = []
fields_out (Some x) = x.gives_out

-- whether box b leads back
abbrev pub back_of : List BoxFace → ℕ → Bool
back_of bs b = leads_through (slice_get bs b)

-- the fields that box b gives to its output
abbrev pub gives_out_of : List BoxFace → ℕ → List ℕ
gives_out_of bs b = fields_out (slice_get bs b)

-- an edge leads back if it is a Link of a box that does
abbrev pub is_back : List BoxFace → Slot → Bool
is_back bs (Field f) = false
is_back bs (Link b) = back_of bs b
is_back bs (Hook b) = false

-- each edge leads back
abbrev pub all_back : List BoxFace → List Step → Bool
all_back bs [] = true
all_back bs (s ∷ ss) = is_back bs s.slot && all_back bs ss

-- a way leads back if it has an edge and each edge leads back
abbrev pub leads_back : List BoxFace → List Step → Bool
leads_back bs [] = false
leads_back bs (s ∷ ss) = all_back bs (s ∷ ss)

-- the roots to which the way back leads: those to which the tree refers under the highest cell from which the rest of
-- the way leads back
abbrev pub led_to : List BoxFace → List Step → List ℕ
led_to bs [] = []
led_to bs (s ∷ ss) = if all_back bs (s ∷ ss) then s.refers else led_to bs ss

-- the fields that an edge gives to the cell at its end
abbrev pub given_by : List BoxFace → Slot → List ℕ
given_by bs (Field f) = []
given_by bs (Link b) = gives_out_of bs b
given_by bs (Hook b) = []

-- the fields that the last edge gives to the cell at its end
abbrev pub given : List BoxFace → List Step → List ℕ
given bs [] = []
given bs (s ∷ []) = given_by bs s.slot
given bs (s ∷ t ∷ ss) = given bs (t ∷ ss)

-- Signatures.

-- the number is in the list
abbrev pub has : ℕ → List ℕ → Bool
has n [] = false
has n (m ∷ ms) = nat_eq n m || has n ms

-- each number once, where it stands first; those that were seen before are left out
abbrev pub once_from : List ℕ → List ℕ → List ℕ
once_from seen [] = []
once_from seen (n ∷ ns) = if has n seen then once_from seen ns else n ∷ once_from (n ∷ seen) ns

-- each number once, where it stands first
abbrev pub once : List ℕ → List ℕ
once = once_from []

-- the ways that end at root r
abbrev pub to_root : ℕ → List Way → List Way
to_root r = filter (λ w. nat_eq r w.root)

-- some way leads back
abbrev pub any_back : List BoxFace → List Way → Bool
any_back bs [] = false
any_back bs (w ∷ ws) = leads_back bs w.steps || any_back bs ws

-- the roots at which the ways end, in the order of first visit
abbrev pub roots_met : List Way → List ℕ
roots_met ws = once (map (λ w. w.root) ws)

-- what the ways to root r have in common
abbrev pub mark : List BoxFace → List Way → ℕ → RefMark
mark bs ws r = record {
  root = r;
  many = nat_le 2 (length (to_root r ws));
  provided = in_order (flat_map (λ w. given bs w.steps) (to_root r ws));
  back = any_back bs (to_root r ws);
  reach = filter (λ n. has n (flat_map (λ w. led_to bs w.steps) (to_root r ws))) (roots_met ws);
}

-- the signature of a tree: a mark for each root to which it refers, in the order of first visit
abbrev pub signature : List BoxFace → Tree → List RefMark
signature bs t = map (mark bs (ways t)) (roots_met (ways t))

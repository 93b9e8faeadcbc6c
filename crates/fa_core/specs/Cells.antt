-- The signature of a tree by its symbol and what stands below it.
use Rattle.std.specs.Prelude.{ℕ, Bool, true, false, ◌&&◌, ◌||◌, nat_eq, if◌then◌else◌, List, [], ◌∷◌, map, filter}
use Rattle.std.specs.Prelude.{flat_map, Option, Some, None}
use Rattle.ta_core.specs.declared.symbol.Slot.{Slot}
use Rattle.ta_core.specs.declared.symbol.Slot.TheVariants.{Field, Link, Hook}
use Rattle.ta_core.specs.declared.symbol.Symbol.{Symbol}
use Rattle.ta_core.specs.declared.symbol.Symbol.TheVariants.{Null, Uninit, Dangling, Ref, Cell}
use Rattle.ta_core.specs.declared.tree.Tree.{Tree, out-Tree}
use Rattle.fa_core.specs.declared.faces.BoxFace.{BoxFace}
use Rattle.fa_core.specs.declared.signature.RefMark.{RefMark}
use Rattle.fa_core.specs.declared.signature.Below.{Below}
use Rattle.fa_core.specs.Rearranged.{in_order}
use Rattle.fa_core.specs.Ways.{is_back, gives_out_of, has, once, signature}

-- the slots that have a child, each with what stands in its place
abbrev pub edges : {X : Type 0} → List Slot → List X → List (Slot × X)
edges [] xs = []
edges (Hook b ∷ ss) xs = edges ss xs
edges (Field f ∷ ss) [] = []
edges (Field f ∷ ss) (x ∷ xs) = (Field f, x) ∷ edges ss xs
edges (Link b ∷ ss) [] = []
edges (Link b ∷ ss) (x ∷ xs) = (Link b, x) ∷ edges ss xs

-- the symbol is a leaf's
abbrev pub is_leaf : Symbol → Bool
is_leaf Null = true
is_leaf Uninit = true
is_leaf Dangling = true
is_leaf (Ref r) = true
is_leaf (Cell s ds ss) = false

-- whether the tree is a leaf, and its signature
abbrev pub below_of : List BoxFace → Tree → Below
below_of bs t = record { leaf = is_leaf (out-Tree t).symbol; marks = signature bs t }

-- the mark of root r, if there is one
abbrev pub mark_of : ℕ → List RefMark → Option RefMark
mark_of r [] = None
mark_of r (m ∷ ms) = if nat_eq r m.root then Some m else mark_of r ms

-- whether the mark and what follows stand for two references: `same` is the answer of what follows where the mark adds
-- none, `next` where it adds one; `one` says that there is one already
abbrev pub many_with : Bool → Option RefMark → Bool → Bool → Bool
many_with one None same next = same
many_with one (Some m) same next = m.many || (one || next)

-- the marks stand for two references or more, or for one where `one` says that there is another
abbrev pub many_from : Bool → ℕ → List (Slot × Below) → Bool
many_from one r [] = false
many_from one r (e ∷ es) = many_with one (mark_of r e.1.marks) (many_from one r es) (many_from true r es)

-- the fields that are provided at the root, where the mark stands below the slot: a Link whose child is the reference
-- gives its own
abbrev pub provided_in : List BoxFace → Option RefMark → Slot → Bool → List ℕ
provided_in bs None s leaf = []
provided_in bs (Some m) (Field f) leaf = m.provided
provided_in bs (Some m) (Link b) true = gives_out_of bs b
provided_in bs (Some m) (Link b) false = m.provided
provided_in bs (Some m) (Hook b) leaf = m.provided

-- some way leads back, the slot's edge with it
abbrev pub back_in : List BoxFace → Option RefMark → Slot → Bool → Bool
back_in bs None s leaf = false
back_in bs (Some m) s leaf = is_back bs s && (leaf || m.back)

-- the roots to which the ways back lead: all of the cell's, where some way leads back to it
abbrev pub reach_in : List BoxFace → List ℕ → Option RefMark → Slot → Bool → List ℕ
reach_in bs rs None s leaf = []
reach_in bs rs (Some m) s leaf = if is_back bs s && (leaf || m.back) then rs else m.reach

-- the fields that are provided at root r, edge by edge
abbrev pub provided_at : List BoxFace → ℕ → List (Slot × Below) → List ℕ
provided_at bs r es = flat_map (λ e. provided_in bs (mark_of r e.1.marks) e.0 e.1.leaf) es

-- some way to root r leads back
abbrev pub back_at : List BoxFace → ℕ → List (Slot × Below) → Bool
back_at bs r [] = false
back_at bs r (e ∷ es) = back_in bs (mark_of r e.1.marks) e.0 e.1.leaf || back_at bs r es

-- the roots to which the ways back from root r lead, in any order and with repeats
abbrev pub reach_at : List BoxFace → List ℕ → ℕ → List (Slot × Below) → List ℕ
reach_at bs rs r es = flat_map (λ e. reach_in bs rs (mark_of r e.1.marks) e.0 e.1.leaf) es

-- the mark of root r in a cell that refers to the roots rs
abbrev pub cell_mark : List BoxFace → List (Slot × Below) → List ℕ → ℕ → RefMark
cell_mark bs es rs r = record {
  root = r;
  many = many_from false r es;
  provided = in_order (provided_at bs r es);
  back = back_at bs r es;
  reach = filter (λ n. has n (reach_at bs rs r es)) rs;
}

-- the roots of the marks
abbrev pub roots_in : List RefMark → List ℕ
roots_in ms = map (λ m. m.root) ms

-- the roots to which the cell refers, in the order of first visit
abbrev pub cell_roots : List (Slot × Below) → List ℕ
cell_roots es = once (flat_map (λ e. roots_in e.1.marks) es)

-- the signature of a cell over these edges
abbrev pub cell_marks : List BoxFace → List (Slot × Below) → List RefMark
cell_marks bs es = map (cell_mark bs es (cell_roots es)) (cell_roots es)

-- the mark of a leaf that refers to root r
abbrev pub leaf_mark : ℕ → RefMark
leaf_mark r = record { root = r; many = false; provided = []; back = false; reach = [] }

-- the signature of a tree by its symbol and what stands below it
abbrev pub marks_by : List BoxFace → Symbol → List Below → List RefMark
marks_by bs Null xs = []
marks_by bs Uninit xs = []
marks_by bs Dangling xs = []
marks_by bs (Ref r) xs = leaf_mark r ∷ []
marks_by bs (Cell s ds ss) xs = cell_marks bs (edges ss xs)

-- How often the box edges of trees give a field at a root, and what a table says of this for each state.
use Rattle.std.specs.Prelude.{◌≡◌, ◌⊎◌, ◌<◌, ◌≤◌, ℕ, ◌+◌, ◌-◌, Bool, true, false, ◌&&◌, ◌||◌, not, nat_eq, nat_lt}
use Rattle.std.specs.Prelude.{if◌then◌else◌, List, [], ◌∷◌, map, slice_index_or, slice_set, MatchBool, length}
use Rattle.fore_base.specs.Lists.{Every, sum_of}
use Rattle.ta_core.specs.Auto.{Automaton}
use Rattle.ta_core.specs.Language.{RunOf}
use Rattle.ta_core.specs.declared.auto.Rule.{Rule}
use Rattle.ta_core.specs.declared.symbol.Slot.{Slot}
use Rattle.ta_core.specs.declared.symbol.Symbol.{Symbol}
use Rattle.ta_core.specs.declared.symbol.Symbol.TheVariants.{Null, Uninit, Dangling, Ref, Cell}
use Rattle.ta_core.specs.declared.tree.Tree.{Tree, out-Tree, fold-Tree}
use Rattle.fa_core.specs.declared.faces.BoxFace.{BoxFace}
use Rattle.fa_core.specs.Cells.{edges}
use Rattle.fa_core.specs.Rearranged.{often}
use Rattle.fa_core.specs.Ways.{given_by}
use Rattle.fa_giving.specs.declared.worths.Worth.{Worth}

-- Trees.

-- how often the edge gives the field
abbrev pub weight : List BoxFace → ℕ → Slot → ℕ
weight bs f x = often f (given_by bs x)

-- how often a tree with the symbol gives the field at the root, below an edge that gives it w times, where `cs` says so
-- of its children
abbrev pub weigh_at : List BoxFace → ℕ → ℕ → Symbol → List (ℕ → ℕ) → ℕ → ℕ
weigh_at bs r f Null cs w = 0
weigh_at bs r f Uninit cs w = 0
weigh_at bs r f Dangling cs w = 0
weigh_at bs r f (Ref k) cs w = if nat_eq r k then w else 0
weigh_at bs r f (Cell s ds ss) cs w = sum_of (map (λ e. e.1 (weight bs f e.0)) (edges ss cs))

-- so for a tree
abbrev pub weigh : List BoxFace → ℕ → ℕ → Tree → ℕ → ℕ
weigh bs r f = fold-Tree (ℕ → ℕ) (λ t. weigh_at bs r f t.symbol t.children)

-- the symbol is the reference to the root
abbrev pub refers : ℕ → Symbol → Bool
refers r Null = false
refers r Uninit = false
refers r Dangling = false
refers r (Ref k) = nat_eq r k
refers r (Cell s ds ss) = false

-- Numbers up to 2.

abbrev pub capped : ℕ → ℕ
capped n = if nat_lt 2 n then 2 else n

abbrev pub greater : ℕ → ℕ → ℕ
greater m n = if nat_lt m n then n else m

-- Tables.

-- what is said of a state of which nothing is known
abbrev pub nothing : Worth
nothing = record { leaf = false; most = 0; none = false }

-- what is said of a leaf, which may be the reference
abbrev pub leaf_worth : Bool → Worth
leaf_worth b = record { leaf = b; most = 0; none = not b }

abbrev pub worth_at : List Worth → ℕ → Worth
worth_at table q = slice_index_or table q nothing

-- the greatest number, below an edge that gives the field w times
abbrev pub most_below : ℕ → Worth → ℕ
most_below w x = if x.leaf then greater (capped w) x.most else x.most

-- there is a tree that never gives it there
abbrev pub none_below : ℕ → Worth → Bool
none_below w x = x.none || (x.leaf && nat_eq w 0)

-- one more edge
abbrev pub with_edge : List BoxFace → ℕ → List Worth → Worth → Slot × ℕ → Worth
with_edge bs f table x e = record {
  leaf = false;
  most = capped (x.most + most_below (weight bs f e.0) (worth_at table e.1));
  none = x.none && none_below (weight bs f e.0) (worth_at table e.1);
}

abbrev pub with_edges : List BoxFace → ℕ → List Worth → Worth → List (Slot × ℕ) → Worth
with_edges bs f table x [] = x
with_edges bs f table x (e ∷ es) = with_edges bs f table (with_edge bs f table x e) es

-- a rule by its symbol and its children
abbrev pub worth_by : List BoxFace → ℕ → ℕ → List Worth → Symbol → List ℕ → Worth
worth_by bs r f table Null qs = leaf_worth false
worth_by bs r f table Uninit qs = leaf_worth false
worth_by bs r f table Dangling qs = leaf_worth false
worth_by bs r f table (Ref k) qs = leaf_worth (nat_eq r k)
worth_by bs r f table (Cell s ds ss) qs = with_edges bs f table (leaf_worth false) (edges ss qs)

abbrev pub rule_worth : List BoxFace → ℕ → ℕ → List Worth → Rule → Worth
rule_worth bs r f table o = worth_by bs r f table o.symbol o.children

-- both
abbrev pub joined : Worth → Worth → Worth
joined x y = record { leaf = x.leaf || y.leaf; most = greater x.most y.most; none = x.none || y.none }

-- y says something that x does not
abbrev pub adds : Worth → Worth → Bool
adds x y = (y.leaf && not x.leaf) || (nat_lt x.most y.most || (y.none && not x.none))

-- the rule says nothing new
abbrev pub IsSettled : List BoxFace → ℕ → ℕ → List Worth → Rule → Type 0
IsSettled bs r f table o = adds (worth_at table o.state) (rule_worth bs r f table o) ≡ false

-- what is said of the trees of which L speaks is true of some of them
pub record IsReal (bs : List BoxFace) (r f : ℕ) (L : Tree → Type 0) (x : Worth) : Type 0 where
  pub low : x.most ≤ 2
  pub most : (t : Tree) × L t × (x.most ≤ weigh bs r f t 0)
  pub leaf : x.leaf ≡ true → (t : Tree) × L t × (refers r (out-Tree t).symbol ≡ true)
  pub none : x.none ≡ true → (t : Tree) × L t × (refers r (out-Tree t).symbol ≡ false) × (weigh bs r f t 0 ≡ 0)

-- so for each state
abbrev pub AreReal : List BoxFace → ℕ → ℕ → List Rule → List Worth → Type 0
AreReal bs r f rules table = (q : ℕ) → q < length table → IsReal bs r f (RunOf rules q) (worth_at table q)

-- the tree gives no more, and no less
pub record IsBound (bs : List BoxFace) (r f : ℕ) (x : Worth) (t : Tree) : Type 0 where
  pub most : (w : ℕ) → (weigh bs r f t w ≤ most_below w x) ⊎ (most_below w x ≡ 2)
  pub none : (w : ℕ) → weigh bs r f t w ≡ 0 → none_below w x ≡ true

-- the table says of each state what its trees give
pub record AreWorths (bs : List BoxFace) (r f : ℕ) (a : Automaton) (table : List Worth) : Type 0 where
  pub long : length table ≡ a.states
  pub real : AreReal bs r f a.rules table
  pub bound : (q : ℕ) (t : Tree) → RunOf a.rules q t → IsBound bs r f (worth_at table q) t
  pub settled : Every (IsSettled bs r f table) a.rules

-- the rule said something new of its state, or did not
abbrev pub Takes : List BoxFace → ℕ → ℕ → Rule → List Worth → List Worth → Bool → Type 0
Takes bs r f o old new added =
    MatchBool added ((adds (worth_at old o.state) (rule_worth bs r f old o) ≡ true)
    × (new ≡ slice_set old o.state (joined (worth_at old o.state) (rule_worth bs r f old o))))
    ((new ≡ old) × IsSettled bs r f old o)

-- how much can still be said of a state
abbrev pub room_of : Worth → ℕ
room_of x = (if x.leaf then 0 else 1) + ((2 - x.most) + (if x.none then 0 else 1))

abbrev pub rooms : List Worth → ℕ
rooms [] = 0
rooms (x ∷ xs) = room_of x + rooms xs

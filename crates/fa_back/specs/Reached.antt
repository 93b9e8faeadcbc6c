-- Which roots are reached from some of them, by references and by ways back.
use Rattle.std.specs.Prelude.{◌≡◌, ◌<◌, ℕ, zero, suc, true, List, map, Option, Some, None, slice_get}
use Rattle.fore_base.specs.Lists.{IsIn, Every, Paired}
use Rattle.ta_core.specs.Auto.{Automaton}
use Rattle.ta_core.specs.declared.tree.Tree.{Tree}
use Rattle.fa_core.specs.declared.faces.BoxFace.{BoxFace}
use Rattle.fa_core.specs.declared.forest.Forest.{Forest}
use Rattle.fa_core.specs.declared.forest.Target.{Target}
use Rattle.fa_core.specs.declared.forest.Target.TheVariants.{At}
use Rattle.fa_core.specs.declared.signature.RefMark.{RefMark}
use Rattle.fa_core.specs.declared.signature.Signature.{Signature}
use Rattle.fa_core.specs.Boxes.{Boxes, IsBoxTable, Reaches}
use Rattle.fa_core.specs.Canonical.{LeadsBack, RefersTo}
use Rattle.fa_core.specs.Dressed.{Node, Nodes, no_nodes, more, facts, roots_of, value_in}
use Rattle.fa_core.specs.Filled.{Choice, IsFilled}
use Rattle.fa_core.specs.Member.{OfForest}
use Rattle.fa_core.specs.References.{AllBelow}
use Rattle.fa_core.specs.Ways.{signature}

-- on one tree of each component: the roots at which variables are, those to which the tree of a reached root refers,
-- and those to which a way back from a reached root leads
pub data RootReached (bs : List BoxFace) (vars : List Target) (ts : List Tree) : ℕ → Type 0 where
  by_var : {r : ℕ} → IsIn (At r) vars → RootReached bs vars ts r
  by_tree : {r : ℕ} (i : ℕ) (t : Tree) → RootReached bs vars ts i → slice_get ts i ≡ Some t → RefersTo t r
      → RootReached bs vars ts r
  by_way : {r : ℕ} (i j : ℕ) → RootReached bs vars ts i → LeadsBack bs ts i j r → RootReached bs vars ts r

-- the signature of the tree
abbrev pub IsSignedBy : List BoxFace → Tree → Signature → Type 0
IsSignedBy bs t s = signature bs t ≡ s.refs

-- the signatures of one tree of each component
pub record AreSignaturesOf (bs : List BoxFace) (autos : List Automaton) (ss : List Signature) : Type 0 where
  pub trees : List Tree
  pub choice : Choice autos trees
  pub signed : Paired (IsSignedBy bs) trees ss

-- each mark names components below n
abbrev pub NamesBelow : ℕ → RefMark → Type 0
NamesBelow n m = (m.root < n) × AllBelow n m.reach

abbrev pub AllNameBelow : ℕ → List Signature → Type 0
AllNameBelow n ss = Every (λ (s : Signature). Every (NamesBelow n) s.refs) ss

-- m is a mark of the signature of component j
abbrev pub IsMarkAt : List Signature → ℕ → RefMark → Type 0
IsMarkAt ss j m = (s : Signature) × (slice_get ss j ≡ Some s) × IsIn m s.refs

-- on one signature of each component: the roots of `from`, those to which the trees of a reached root refer, and those
-- to which a way back from a reached root leads, which are the root of the tree where the whole way leads back, and
-- those that the mark tells
pub data SignReached (ss : List Signature) (from : List ℕ) : ℕ → Type 0 where
  from_there : {r : ℕ} → IsIn r from → SignReached ss from r
  down_to : {r : ℕ} (j : ℕ) (m : RefMark) → SignReached ss from j → IsMarkAt ss j m → m.root ≡ r
      → SignReached ss from r
  back_to : {r : ℕ} (m : RefMark) → SignReached ss from m.root → IsMarkAt ss r m → m.back ≡ true
      → SignReached ss from r
  reach_to : {r : ℕ} (j : ℕ) (m : RefMark) → SignReached ss from m.root → IsMarkAt ss j m → IsIn r m.reach
      → SignReached ss from r

-- the i-th tree of a dressed forest
abbrev pub node_at : Nodes → ℕ → Option Node
node_at no_nodes i = None
node_at (more n ns) zero = Some n
node_at (more n ns) (suc i) = node_at ns i

-- d is a dressed forest of the filled forest F, by a table of sound boxes
pub record IsDressedBy (t : Boxes) (F : Forest) (d : Nodes) : Type 0 where
  pub table : IsBoxTable t
  pub filled : IsFilled t.face F
  pub of : OfForest t.defs F d

-- the cell is reached by facts from the variables
abbrev pub CellReached : Forest → Nodes → ℕ → Type 0
CellReached F d n = Reaches (map (value_in (roots_of d)) F.vars) (facts d) n

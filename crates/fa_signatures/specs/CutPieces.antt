-- An automaton cut into pieces by the signatures of its trees.
use Rattle.std.specs.Prelude.{◌≡◌, ◌↔◌, ℕ, ◌<◌, Bool, false, ◌&&◌, List, [], ◌∷◌}
use Rattle.fore_base.specs.Lists.{IsIn, Every}
use Rattle.ta_core.specs.Auto.{Automaton}
use Rattle.ta_core.specs.Language.{InLanguage, RunOf}
use Rattle.ta_core.specs.declared.auto.Rule.{Rule}
use Rattle.ta_core.specs.declared.tree.Tree.{Tree, out-Tree}
use Rattle.fa_core.specs.declared.faces.BoxFace.{BoxFace}
use Rattle.fa_core.specs.declared.signature.Below.{Below}
use Rattle.fa_core.specs.declared.signature.RefMark.{RefMark}
use Rattle.fa_core.specs.Boxless.{HasNoBoxes}
use Rattle.fa_core.specs.Cells.{is_leaf}
use Rattle.fa_core.specs.Filled.{HasSignatures, HasSome}
use Rattle.fa_core.specs.Ways.{signature}

-- what is seen of a tree from above: its signature, and, where leaves are told from cells, whether it is a leaf
abbrev pub seen : List BoxFace → Bool → Tree → Below
seen bs told t = record { leaf = told && is_leaf (out-Tree t).symbol; marks = signature bs t }

-- the trees with a run to state p of b are those with a run to state q of a of which this is seen
abbrev pub CutsState : List BoxFace → Automaton → ℕ → Bool → Below → Automaton → ℕ → Type 0
CutsState bs a q told x b p = (t : Tree) → RunOf b.rules p t ↔ (RunOf a.rules q t × (seen bs told t ≡ x))

-- so it is for each state of b, with some state of a; without box edges leaves are not told from cells
abbrev pub CutsStates : List BoxFace → Automaton → Automaton → Type 0
CutsStates bs a b = (p : ℕ) → p < b.states → (q : ℕ) × (told : Bool) × (x : Below) × (q < a.states)
    × (HasNoBoxes a → told ≡ false) × CutsState bs a q told x b p

-- each rule of b has the symbol of one of a
abbrev pub KeepsSymbols : Automaton → Automaton → Type 0
KeepsSymbols a b = Every (λ (r : Rule). (o : Rule) × IsIn o a.rules × (o.symbol ≡ r.symbol)) b.rules

-- b has the trees of a with this signature, of which there are some
pub record IsPieceBy (bs : List BoxFace) (a : Automaton) (marks : List RefMark) (b : Automaton) : Type 0 where
  pub trees : (t : Tree) → InLanguage b t ↔ (InLanguage a t × (signature bs t ≡ marks))
  pub some : HasSome b
  pub uniform : HasSignatures bs b
  pub states : CutsStates bs a b
  pub symbols : KeepsSymbols a b

-- b has the trees of a with one signature
abbrev pub IsPiece : List BoxFace → Automaton → Automaton → Type 0
IsPiece bs a b = (marks : List RefMark) × IsPieceBy bs a marks b

-- a tree of a and one of b have the same signature
abbrev pub ShareSignature : List BoxFace → Automaton → Automaton → Type 0
ShareSignature bs a b = (t : Tree) × (u : Tree) × InLanguage a t × InLanguage b u × (signature bs t ≡ signature bs u)

-- no item is related to a later one
abbrev pub AreApart : {X : Type 0} → (X → X → Type 0) → List X → Type 0
AreApart R [] = Unit {0}
AreApart R (x ∷ xs) = Every (λ y. R x y → ⊥) xs × AreApart R xs

-- the pieces cut a: each has the trees of one signature, each tree of a is in one, and no two have trees of the same
-- signature
pub record AreCut (bs : List BoxFace) (a : Automaton) (pieces : List Automaton) : Type 0 where
  pub each : Every (IsPiece bs a) pieces
  pub whole : (t : Tree) → InLanguage a t → (b : Automaton) × IsIn b pieces × InLanguage b t
  pub apart : AreApart (ShareSignature bs) pieces

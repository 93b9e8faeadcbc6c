-- When two canonical forests can be joined: they differ in one child of one root, or in none.
use Rattle.std.specs.Prelude.{◌≡◌, ◌≢◌, ◌↔◌, ◌⊎◌, ℕ, List, [], ◌∷◌, Some, slice_get}
use Rattle.fore_base.specs.Lists.{Paired}
use Rattle.ta_core.specs.Auto.{Automaton}
use Rattle.ta_core.specs.Language.{RunOf, HasSameLanguage}
use Rattle.ta_core.specs.declared.tree.Tree.{Tree}
use Rattle.fa_core.specs.Ways.{signature}
use Rattle.fa_core.specs.declared.faces.BoxFace.{BoxFace}
use Rattle.fa_core.specs.declared.forest.Forest.{Forest}
use Rattle.fa_split.specs.Split.{top_rule}

-- the lists are as long as each other, and the items of each place are related by R, but for one place at most, where
-- they are related by S
abbrev pub PairedButOne : {X Y : Type 0} → (X → Y → Type 0) → (X → Y → Type 0) → List X → List Y → Type 0
PairedButOne R S [] [] = Unit {0}
PairedButOne R S [] (y ∷ ys) = ⊥
PairedButOne R S (x ∷ xs) [] = ⊥
PairedButOne R S (x ∷ xs) (y ∷ ys) = (R x y × PairedButOne R S xs ys) ⊎ (S x y × Paired R xs ys)

-- the trees of state p of a are those of state q of b
abbrev pub SameRuns : Automaton → Automaton → ℕ → ℕ → Type 0
SameRuns a b p q = (t : Tree) → RunOf a.rules p t ↔ RunOf b.rules q t

-- the trees of state p of a and those of state q of b have one signature
abbrev pub SameSignatures : List BoxFace → Automaton → Automaton → ℕ → ℕ → Type 0
SameSignatures bs a b p q = (t u : Tree) → RunOf a.rules p t → RunOf b.rules q u → signature bs t ≡ signature bs u

-- the rules at the top have one symbol, and their children the same trees, but for one child at most, where the
-- signatures are equal
pub record DifferInChild (bs : List BoxFace) (a b : Automaton) : Type 0 where
  pub symbols : (top_rule a).symbol ≡ (top_rule b).symbol
  pub children : PairedButOne (SameRuns a b) (SameSignatures bs a b) (top_rule a).children (top_rule b).children

-- F and G, which are canonical, have the same targets and data and as many roots, and the same languages, but for one
-- root at most, where they differ in one child
pub record Joinable (bs : List BoxFace) (F G : Forest) : Type 0 where
  pub vars : F.vars ≡ G.vars
  pub data_vars : F.data_vars ≡ G.data_vars
  pub components : PairedButOne HasSameLanguage (DifferInChild bs) F.autos G.autos

-- no two forests of the list, at different places, can be joined
abbrev pub NoneJoinable : List BoxFace → List Forest → Type 0
NoneJoinable bs Fs = (i j : ℕ) (F G : Forest) → slice_get Fs i ≡ Some F → slice_get Fs j ≡ Some G → i ≢ j
    → Joinable bs F G → ⊥

-- Height abstraction: forests in which states that agree to a height are joined.
use Rattle.std.specs.Prelude.{◌≡◌, ◌↔◌, ℕ, zero, suc, ◌<◌, List, []}
use Rattle.fore_base.specs.Lists.{IsIn, Paired}
use Rattle.ta_core.specs.Auto.{Automaton}
use Rattle.ta_core.specs.Language.{RunOf, HasTree}
use Rattle.ta_core.specs.Renumbered.{image}
use Rattle.ta_core.specs.Simulations.{IsMatched}
use Rattle.ta_core.specs.declared.auto.Rule.{Rule}
use Rattle.ta_core.specs.declared.tree.Tree.{Tree}
use Rattle.fa_core.specs.Ways.{signature}
use Rattle.fa_core.specs.declared.faces.BoxFace.{BoxFace}
use Rattle.fa_core.specs.declared.forest.Forest.{Forest}
use Rattle.fa_core.specs.declared.signature.RefMark.{RefMark}

-- each rule of p is matched by a rule of q: one with the same symbol, and with children to which those of the first are
-- related
abbrev pub AreMatched : List Rule → (ℕ → ℕ → Type 0) → ℕ → ℕ → Type 0
AreMatched rules R p q = (r : Rule) → IsIn r rules → r.state ≡ p → IsMatched rules R r q

-- the states agree to a height: to 0 always, and to k + 1 where each rule of the one is matched by a rule of the other
-- with the same symbol and children that agree to k, and the other way
abbrev pub Agree : List Rule → ℕ → ℕ → ℕ → Type 0
Agree rules zero p q = Unit {0}
Agree rules (suc k) p q = AreMatched rules (Agree rules k) p q × AreMatched rules (Agree rules k) q p

-- these are the marks of the state: each of its trees has them as its signature, and where it has no tree there are
-- none
abbrev pub AreMarksOf : List BoxFace → List Rule → ℕ → List RefMark → Type 0
AreMarksOf bs rules q ms = ((t : Tree) → RunOf rules q t → ms ≡ signature bs t) × ((HasTree rules q → ⊥) → ms ≡ [])

-- the states have equal signatures
abbrev pub SameSignature : List BoxFace → List Rule → ℕ → ℕ → Type 0
SameSignature bs rules p q = (ms : List RefMark) × AreMarksOf bs rules p ms × AreMarksOf bs rules q ms

-- a state that is no root state
abbrev pub IsInner : Automaton → ℕ → Type 0
IsInner a q = (q < a.states) × (IsIn q a.roots → ⊥)

-- b is a with its states joined: `to` takes each state of a to the one of b that stands for it
pub record IsQuotient (bs : List BoxFace) (k : ℕ) (a b : Automaton) : Type 0 where
  pub to : ℕ → ℕ
  -- two inner states are joined exactly where they agree to the height and have equal signatures
  pub joins : (p q : ℕ) → IsInner a p → IsInner a q → (to p ≡ to q)
      ↔ (Agree a.rules k p q × SameSignature bs a.rules p q)
  -- a root state is joined with no other state
  pub lone : (p q : ℕ) → IsIn p a.roots → q < a.states → to p ≡ to q → p ≡ q
  -- the states of b are the images of those of a
  pub below : (q : ℕ) → q < a.states → to q < b.states
  pub onto : (p : ℕ) → p < b.states → (q : ℕ) × (q < a.states) × (to q ≡ p)
  -- the root states and rules of b are the images of those of a, in their order
  pub images : b ≡ image b.states to a

-- G is the quotient of F by height k: component by component, with the targets and data variables of F
pub record Quotient (bs : List BoxFace) (F : Forest) (k : ℕ) (G : Forest) : Type 0 where
  pub autos : Paired (IsQuotient bs k) F.autos G.autos
  pub vars : G.vars ≡ F.vars
  pub data_vars : G.data_vars ≡ F.data_vars

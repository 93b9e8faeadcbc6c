-- Pairs of a state and what is seen of some of its trees, and the rules over them.
use Rattle.std.specs.Prelude.{◌≡◌, ◌↔◌, ◌⊎◌, ℕ, ◌<◌, false, ◌&&◌, List, ◌++◌, ◌∷◌, [], length, map, Option, Some}
use Rattle.std.specs.Prelude.{None, slice_get}
use Rattle.fore_base.specs.Lists.{IsIn, Every, IsDistinct, Paired}
use Rattle.ta_core.specs.Auto.{Automaton, IsRankedRule}
use Rattle.ta_core.specs.Language.{IsTrim}
use Rattle.ta_core.specs.declared.auto.Rule.{Rule}
use Rattle.ta_core.specs.declared.tree.Tree.{Tree}
use Rattle.ta_core.specs.Language.{InLanguage}
use Rattle.fa_core.specs.declared.faces.BoxFace.{BoxFace}
use Rattle.fa_core.specs.declared.signature.RefMark.{RefMark}
use Rattle.fa_core.specs.declared.signature.Below.{Below}
use Rattle.fa_core.specs.Cells.{is_leaf, marks_by}
use Rattle.fa_core.specs.Ways.{has, signature}
use Rattle.fa_signatures.specs.declared.pairing.Found.{Found}
use Rattle.fa_signatures.specs.CutPieces.{IsPieceBy, AreApart, ShareSignature}
use Rattle.fa_signatures.specs.inner.Telling.{told_states}

-- a state and what is seen of some of its trees
abbrev pub Pair : Type 0
Pair = ℕ × Below

-- what is seen of trees of the pair, if there is one
abbrev pub seen_of : Option Pair → Below
seen_of None = record { leaf = false; marks = [] }
seen_of (Some x) = x.1

-- what is seen of trees of the pair in this place
abbrev pub below_pair : List Pair → ℕ → Below
below_pair pairs k = seen_of (slice_get pairs k)

-- the pair in this place is one of the state
abbrev pub IsPairOf : List Pair → ℕ → ℕ → Type 0
IsPairOf pairs k q = (x : Below) × (slice_get pairs k ≡ Some (q, x))

-- the places are those of the pairs of the state
abbrev pub ArePlacesOf : List Pair → List ℕ → ℕ → Type 0
ArePlacesOf pairs places q = (k : ℕ) → IsIn k places ↔ IsPairOf pairs k q

-- what is seen of a tree by the rule over trees of the pairs in these places; the leaves of these states are told from
-- cells
abbrev pub seen_over : List BoxFace → List ℕ → List Pair → Rule → List ℕ → Below
seen_over bs told pairs r ks = record {
  leaf = has r.state told && is_leaf r.symbol;
  marks = marks_by bs r.symbol (map (below_pair pairs) ks);
}

-- the rule o, over pairs, stands for the rule r
abbrev pub IsPairRule : List BoxFace → List ℕ → List Pair → Rule → Rule → Type 0
IsPairRule bs told pairs o r = (o.symbol ≡ r.symbol) × Paired (IsPairOf pairs) o.children r.children
    × (slice_get pairs o.state ≡ Some (r.state, seen_over bs told pairs r o.children))

-- each rule over pairs stands for a rule, and each rule is stood for over all choices of pairs for its children
pub record ArePairRules (bs : List BoxFace) (told : List ℕ) (pairs : List Pair) (rules over : List Rule) : Type 0 where
  pub from : (o : Rule) → IsIn o over → (r : Rule) × IsIn r rules × IsPairRule bs told pairs o r
  pub all : (r : Rule) (ks : List ℕ) → IsIn r rules → Paired (IsPairOf pairs) ks r.children → (o : Rule) × IsIn o over
      × (o.children ≡ ks) × IsPairRule bs told pairs o r

-- there are more pairs than before; or they are the same, and P holds
abbrev pub GrowsOr : List Pair → List Pair → Type 0 → Type 0
GrowsOr old new P = (length old < length new) ⊎ ((new ≡ old) × P)

-- the rule o stands for r over the pairs in these places
abbrev pub StandsOver : List BoxFace → List ℕ → List Pair → Rule → List ℕ → Rule → Type 0
StandsOver bs told pairs r ks o = (o.symbol ≡ r.symbol) × (o.children ≡ ks)
    × (slice_get pairs o.state ≡ Some (r.state, seen_over bs told pairs r ks))

-- one rule was added, which stands for r over the pairs in these places
abbrev pub AddsRule : List BoxFace → List ℕ → List Pair → Rule → List ℕ → List Rule → List Rule → Type 0
AddsRule bs told pairs r ks old new = (o : Rule) × StandsOver bs told pairs r ks o × (new ≡ old ++ o ∷ [])

-- so was one for each of the choices of places
abbrev pub AddsEach : List BoxFace → List ℕ → List Pair → Rule → List (List ℕ) → List Rule → List Rule → Type 0
AddsEach bs told pairs r choices old new = (more : List Rule) × (new ≡ old ++ more)
    × Paired (StandsOver bs told pairs r) choices more

-- rules that stand for r were added, one at least for each choice of pairs for its children
pub record AddsRules (bs : List BoxFace) (told : List ℕ) (pairs : List Pair) (r : Rule) (old new : List Rule) :
    Type 0 where
  pub more : List Rule
  pub is : new ≡ old ++ more
  pub from : Every (λ o. IsPairRule bs told pairs o r) more
  pub all : (ks : List ℕ) → Paired (IsPairOf pairs) ks r.children → (o : Rule) × IsIn o more × (o.children ≡ ks)
      × IsPairRule bs told pairs o r

-- the pair in this place has a root state and the signature
abbrev pub IsRootPair : List Pair → List ℕ → List RefMark → ℕ → Type 0
IsRootPair pairs roots marks k = (q : ℕ) × (x : Below) × IsIn q roots × (slice_get pairs k ≡ Some (q, x))
    × (x.marks ≡ marks)

-- the signatures of pairs with root states
abbrev pub AreRootMarks : List Pair → List ℕ → List (List RefMark) → Type 0
AreRootMarks pairs roots all = (marks : List RefMark) → IsIn marks all
    ↔ ((q : ℕ) × (x : Below) × IsIn q roots × IsIn (q, x) pairs × (x.marks ≡ marks))

-- b has the rules over the pairs, and its root states are the pairs with root states and the signature
pub record IsOver (pairs : List Pair) (over : List Rule) (roots : List ℕ) (marks : List RefMark) (b : Automaton) :
    Type 0 where
  pub states : b.states ≡ length pairs
  pub rules : b.rules ≡ over
  pub tops : (k : ℕ) → IsIn k b.roots ↔ IsRootPair pairs roots marks k

-- what the trees with this signature are: those of a trim piece; or there is none
abbrev pub IsPieceIn : List BoxFace → Automaton → List RefMark → Option Automaton → Type 0
IsPieceIn bs a marks None = (t : Tree) → InLanguage a t → signature bs t ≡ marks → ⊥
IsPieceIn bs a marks (Some b) = IsPieceBy bs a marks b × IsTrim b

-- each pair stands once, and the states of the rules over the pairs are places of pairs
pub record AreInRange (found : Found) : Type 0 where
  pub apart : IsDistinct found.pairs
  pub rules : Every (IsRankedRule (length found.pairs)) found.rules

-- P holds of the faces of boxes by which the rules that were found stand for those of the automaton
abbrev pub WhereFound : Automaton → Found → (List BoxFace → Type 0) → Type 0
WhereFound a found P = (bs : List BoxFace)
    → ArePairRules bs (told_states bs a.rules) found.pairs a.rules found.rules → P bs

-- the pieces are those of the signatures that are done
pub record AreCutBy (bs : List BoxFace) (a : Automaton) (done : List (List RefMark)) (pieces : List Automaton) :
    Type 0 where
  pub each : Every (λ b. (marks : List RefMark) × IsIn marks done × IsPieceBy bs a marks b × IsTrim b) pieces
  pub whole : (t : Tree) → InLanguage a t → IsIn (signature bs t) done → (b : Automaton) × IsIn b pieces
      × InLanguage b t
  pub apart : AreApart (ShareSignature bs) pieces

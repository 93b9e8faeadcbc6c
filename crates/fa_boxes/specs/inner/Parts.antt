-- What the trees of single components give to a root.
use Rattle.std.specs.Prelude.{◌≡◌, ◌⊎◌, ℕ, suc, nat_eq, if◌then◌else◌, List, [], ◌∷◌, ◌++◌, flat_map, Option, Some}
use Rattle.std.specs.Prelude.{slice_get}
use Rattle.fore_base.specs.Lists.{IsIn, Every}
use Rattle.ta_core.specs.Auto.{Automaton}
use Rattle.ta_core.specs.Language.{InLanguage}
use Rattle.ta_core.specs.declared.auto.Rule.{Rule}
use Rattle.ta_core.specs.declared.tree.Tree.{Tree}
use Rattle.fa_core.specs.declared.faces.BoxFace.{BoxFace}
use Rattle.fa_core.specs.declared.signature.Signature.{Signature}
use Rattle.fa_core.specs.Cells.{mark_of}
use Rattle.fa_core.specs.Folding.{covered_fields}
use Rattle.fa_core.specs.Rearranged.{Rearranged}
use Rattle.fa_core.specs.Ways.{ways, given, to_root}
use Rattle.fa_sound.specs.inner.Owned.{fields_of_mark}
use Rattle.fa_boxes.specs.declared.seeing.Seen.{Seen}
use Rattle.fa_boxes.specs.inner.Seeing.{own}
use Rattle.fa_boxes.specs.inner.TopRules.{fields_by, IsTop}

-- what box edges of the tree give to root r
abbrev pub tree_given : List BoxFace → ℕ → Tree → List ℕ
tree_given bs r t = flat_map (λ w. given bs w.steps) (to_root r (ways t))

-- that, and what the tree covers by the slots at its top, if it is the tree of root r itself; it is that of root i
abbrev pub part_at : List BoxFace → ℕ → ℕ → Tree → List ℕ
part_at bs r i t = if nat_eq i r then covered_fields bs t ++ tree_given bs r t else tree_given bs r t

-- so for the trees of the roots from i on
abbrev pub parts_from : List BoxFace → ℕ → ℕ → List Tree → List ℕ
parts_from bs r i [] = []
parts_from bs r i (t ∷ ts) = part_at bs r i t ++ parts_from bs r (suc i) ts

-- each tree of the component gives these fields
abbrev pub ArePartsOf : List BoxFace → ℕ → ℕ → Automaton → List ℕ → Type 0
ArePartsOf bs r i a fs = (t : Tree) → InLanguage a t → Rearranged fs (part_at bs r i t)

-- two of its trees give different fields
abbrev pub PartsApart : List BoxFace → ℕ → ℕ → Automaton → Type 0
PartsApart bs r i a = (t : Tree) × (u : Tree) × InLanguage a t × InLanguage a u
    × (Rearranged (part_at bs r i t) (part_at bs r i u) → ⊥)

-- so two trees of some component
abbrev pub SomePartsApart : List BoxFace → ℕ → List Automaton → Type 0
SomePartsApart bs r autos = (i : ℕ) × (a : Automaton) × (slice_get autos i ≡ Some a) × PartsApart bs r i a

-- two of the lists have different numbers
abbrev pub HaveApart : List (List ℕ) → Type 0
HaveApart all = (xs : List ℕ) × (ys : List ℕ) × IsIn xs all × IsIn ys all × (Rearranged xs ys → ⊥)

-- one of the lists has other numbers
abbrev pub IsOther : List ℕ → List (List ℕ) → Type 0
IsOther xs all = (ys : List ℕ) × IsIn ys all × (Rearranged xs ys → ⊥)

-- what trees of the signature give to root r
abbrev pub provided_by : ℕ → Signature → List ℕ
provided_by r s = fields_of_mark (mark_of r s.refs)

-- what trees by the rule cover and give to root r
abbrev pub rule_fields : List BoxFace → List (Option Seen) → ℕ → Rule → List ℕ
rule_fields bs table r o = fields_by bs o.symbol ++ fields_of_mark (mark_of r (own table o.state))

-- that is added, if the rule is one of a root state
abbrev pub IsTopAdded : List BoxFace → List (Option Seen) → ℕ → List ℕ → Rule → List (List ℕ) → List (List ℕ) → Type 0
IsTopAdded bs table r roots o old new = ((IsIn o.state roots → ⊥) × (new ≡ old))
    ⊎ (IsIn o.state roots × (new ≡ old ++ rule_fields bs table r o ∷ []))

-- it is that of some rule of a root state
abbrev pub IsTopFields : List BoxFace → List (Option Seen) → ℕ → List ℕ → List Rule → List ℕ → Type 0
IsTopFields bs table r roots rules xs = (o : Rule) × IsTop roots rules o × (xs ≡ rule_fields bs table r o)

-- that of each of the rules of root states that are done, and of no other
abbrev pub AreTopFields : List BoxFace → List (Option Seen) → ℕ → List ℕ → List Rule → List Rule → List (List ℕ)
    → Type 0
AreTopFields bs table r roots rules done all =
    Every (λ (o : Rule). IsIn o.state roots → IsIn (rule_fields bs table r o) all) done
    × Every (IsTopFields bs table r roots rules) all

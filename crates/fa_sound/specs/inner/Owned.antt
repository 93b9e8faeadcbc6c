-- The signatures of components, and what box edges give at the roots by them.
use Rattle.std.specs.Prelude.{◌≡◌, ℕ, Bool, true, false, List, [], ◌∷◌, flat_map, Option, Some, None, slice_index_or}
use Rattle.std.specs.Prelude.{if◌then◌else◌}
use Rattle.ta_core.specs.Auto.{Automaton}
use Rattle.ta_core.specs.Language.{InLanguage}
use Rattle.ta_core.specs.declared.tree.Tree.{Tree}
use Rattle.fa_core.specs.declared.faces.BoxFace.{BoxFace}
use Rattle.fa_core.specs.declared.signature.RefMark.{RefMark}
use Rattle.fa_core.specs.declared.signature.Signature.{Signature}
use Rattle.fa_core.specs.Cells.{mark_of}
use Rattle.fa_core.specs.Ways.{signature}

-- the fields of a mark; where there is none, none
abbrev pub fields_of_mark : Option RefMark → List ℕ
fields_of_mark None = []
fields_of_mark (Some m) = m.provided

-- what trees with these signatures give at root r
abbrev pub given_of : List (List RefMark) → ℕ → List ℕ
given_of sigs r = flat_map (λ ms. fields_of_mark (mark_of r ms)) sigs

-- the signature of each tree of the automaton
abbrev pub IsOwn : List BoxFace → Automaton → List RefMark → Type 0
IsOwn bs a ms = (t : Tree) → InLanguage a t → signature bs t ≡ ms

-- the signature of state q; where the list has none, the empty one
abbrev pub marks_of : List Signature → ℕ → List RefMark
marks_of list q = (slice_index_or list q (record { refs = [] })).refs

abbrev pub has_marks : List RefMark → Bool
has_marks [] = false
has_marks (m ∷ ms) = true

-- the first of the states' signatures that has a mark; where none has, the empty one
abbrev pub own_of : List Signature → List ℕ → List RefMark
own_of list [] = []
own_of list (q ∷ qs) = if has_marks (marks_of list q) then marks_of list q else own_of list qs

-- so for the root states of each component
abbrev pub owns_of : List Automaton → List (List Signature) → List (List RefMark)
owns_of [] lists = []
owns_of (a ∷ autos) [] = [] ∷ owns_of autos []
owns_of (a ∷ autos) (l ∷ lists) = own_of l a.roots ∷ owns_of autos lists

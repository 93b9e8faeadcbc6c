-- Marks that provide a field twice.
use Rattle.std.specs.Prelude.{◌≡◌, ℕ, ◌<◌, ◌≤◌, Bool, true, false, ◌||◌, nat_eq, List, [], ◌∷◌, Option, Some}
use Rattle.fore_base.specs.Lists.{IsIn}
use Rattle.ta_core.specs.Auto.{Automaton}
use Rattle.ta_core.specs.Language.{InLanguage}
use Rattle.ta_core.specs.declared.tree.Tree.{Tree}
use Rattle.fa_core.specs.declared.faces.BoxFace.{BoxFace}
use Rattle.fa_core.specs.declared.signature.RefMark.{RefMark}
use Rattle.fa_core.specs.declared.signature.Below.{Below}
use Rattle.fa_core.specs.Cells.{mark_of}
use Rattle.fa_core.specs.Rearranged.{often}
use Rattle.fa_core.specs.Ways.{signature}
use Rattle.fa_sound.specs.Entries.{entry}
use Rattle.fa_sound.specs.inner.Owned.{fields_of_mark}

-- the first number stands again behind it, or one that follows does
abbrev pub twice_from : ℕ → List ℕ → Bool
twice_from f [] = false
twice_from f (g ∷ gs) = nat_eq f g || twice_from g gs

-- some number stands twice, one next to the other
abbrev pub has_twice : List ℕ → Bool
has_twice [] = false
has_twice (f ∷ fs) = twice_from f fs

-- the mark of a root below n provides a field twice
abbrev pub HasDoubled : ℕ → List RefMark → Type 0
HasDoubled n ms = (m : RefMark) × IsIn m ms × (m.root < n) × (has_twice m.provided ≡ true)

-- box edges of some tree of the automaton give a field to a root below n twice
abbrev pub GivesTwice : List BoxFace → ℕ → Automaton → Type 0
GivesTwice bs n a = (t : Tree) × InLanguage a t × ((r : ℕ) × (f : ℕ) × (r < n)
    × (2 ≤ often f (fields_of_mark (mark_of r (signature bs t)))))

-- the table speaks of a tree with such a mark
abbrev pub SpeaksOfDoubled : ℕ → List (Option Below) → Type 0
SpeaksOfDoubled n table = (q : ℕ) × (b : Below) × (entry table q ≡ Some b) × HasDoubled n b.marks

-- Worked values of what decides sound forests with box edges, each made by hand.
use Rattle.std.proofs.Common.{◌≡◌, inl, inr, ℕ, true, false, List, [], ◌∷◌, Option, Some, None, refl, ap, arith}
use Rattle.ta_core.specs.Auto.{Automaton, automaton}
use Rattle.ta_core.specs.declared.auto.Rule.{Rule}
use Rattle.ta_core.specs.declared.symbol.Slot.TheVariants.{Field, Link, Hook}
use Rattle.ta_core.specs.declared.symbol.Symbol.{Symbol}
use Rattle.ta_core.specs.declared.symbol.Symbol.TheVariants.{Ref, Cell}
use Rattle.fa_core.specs.declared.faces.BoxFace.{BoxFace}
use Rattle.fa_core.specs.declared.signature.Below.{Below}
use Rattle.fa_core.specs.declared.signature.RefMark.{RefMark}
use Rattle.fa_core.specs.declared.signature.Signature.{Signature}
use Rattle.fa_sound.specs.inner.Doubled.{has_twice, HasDoubled}
use Rattle.fa_sound.specs.inner.Learnt.{shows, flag_rule, flagged, marks_at}
use Rattle.fa_sound.specs.inner.Owned.{fields_of_mark, given_of, marks_of, own_of, owns_of}

abbrev rule : ℕ → Symbol → List ℕ → Rule
rule q y qs = record { state = q; symbol = y; children = qs }

-- a box whose edge covers field 0, gives field 1 to its output and leads back; one that gives nothing and does not; one
-- without an output
abbrev giving : BoxFace
giving = record { input = 0; output = Some 0; gives_in = 0 ∷ []; gives_out = 1 ∷ []; back = true }

abbrev plain : BoxFace
plain = record { input = 0; output = Some 0; gives_in = 0 ∷ []; gives_out = []; back = false }

abbrev hooked : BoxFace
hooked = record { input = 0; output = None; gives_in = 1 ∷ []; gives_out = []; back = false }

abbrev boxes : List BoxFace
boxes = giving ∷ plain ∷ hooked ∷ []

-- root r is met once, and these fields are provided there
abbrev once : ℕ → List ℕ → RefMark
once r fs = record { root = r; many = false; provided = fs; back = false; reach = [] }

-- state 0 is a reference to root 1 or a cell over state 1, a reference to it too; of state 2 nothing is known
abbrev both : List Rule
both = rule 0 (Ref 1) [] ∷ rule 0 (Cell 0 [] (Field 0 ∷ [])) (1 ∷ []) ∷ rule 1 (Ref 1) []
    ∷ rule 0 (Cell 0 [] (Field 0 ∷ [])) (2 ∷ []) ∷ []

abbrev leaf_of : List RefMark → Option Below
leaf_of ms = Some (record { leaf = true; marks = ms })

abbrev cell_of : List RefMark → Option Below
cell_of ms = Some (record { leaf = false; marks = ms })

abbrev known : List (Option Below)
known = leaf_of (once 1 [] ∷ []) ∷ leaf_of (once 1 [] ∷ []) ∷ None ∷ []

-- a rule of a cell shows a cell where its children are known; a rule of a leaf shows a leaf, and no cell
cell_shown : shows false known (rule 0 (Cell 0 [] (Field 0 ∷ [])) (1 ∷ [])) ≡ true
cell_shown = refl

cell_unknown : shows false known (rule 0 (Cell 0 [] (Field 0 ∷ [])) (2 ∷ [])) ≡ false
cell_unknown = refl

leaf_shown : shows true known (rule 0 (Ref 1) []) ≡ true
leaf_shown = refl

leaf_no_cell : shows false known (rule 0 (Ref 1) []) ≡ false
leaf_no_cell = refl

-- state 0 is taken for a cell, and for a leaf; state 1 is a leaf each time
taken_low : flagged false both known ≡ cell_of (once 1 [] ∷ []) ∷ leaf_of (once 1 [] ∷ []) ∷ None ∷ []
taken_low = refl

taken_high : flagged true both known ≡ known
taken_high = refl

-- the flag goes to the state of the rule, and stays away where the rule has an unknown child
not_flagged : flag_rule false known (rule 1 (Cell 0 [] (Field 0 ∷ [])) (2 ∷ [])) ≡ known
not_flagged = refl

-- under a Link that gives, a leaf and a cell make two signatures; under one that gives nothing, and under a field, one
leaf_gives : marks_at boxes (flagged true both known) (rule 3 (Cell 0 [] (Link 0 ∷ [])) (0 ∷ []))
    ≡ record { root = 1; many = false; provided = 1 ∷ []; back = true; reach = 1 ∷ [] } ∷ []
leaf_gives = refl

cell_gives : marks_at boxes (flagged false both known) (rule 3 (Cell 0 [] (Link 0 ∷ [])) (0 ∷ []))
    ≡ once 1 [] ∷ []
cell_gives = refl

none_given : marks_at boxes (flagged true both known) (rule 3 (Cell 0 [] (Link 1 ∷ [])) (0 ∷ []))
    ≡ marks_at boxes (flagged false both known) (rule 3 (Cell 0 [] (Link 1 ∷ [])) (0 ∷ []))
none_given = refl

field_alike : marks_at boxes (flagged true both known) (rule 3 (Cell 0 [] (Field 0 ∷ [])) (0 ∷ []))
    ≡ marks_at boxes (flagged false both known) (rule 3 (Cell 0 [] (Field 0 ∷ [])) (0 ∷ []))
field_alike = refl

-- a Hook stands between a cell and no child
hook_passed : marks_at boxes known (rule 3 (Cell 0 [] (Link 0 ∷ Hook 2 ∷ [])) (0 ∷ []))
    ≡ marks_at boxes known (rule 3 (Cell 0 [] (Link 0 ∷ [])) (0 ∷ []))
hook_passed = refl

-- The signatures of components, and what is given at the roots.

abbrev signed : List RefMark → Signature
signed ms = record { refs = ms }

abbrev states : List Signature
states = signed [] ∷ signed (once 1 (1 ∷ []) ∷ []) ∷ signed (once 2 [] ∷ []) ∷ []

-- the first root state that has a mark; none has; one that the list does not have
first_own : own_of states (0 ∷ 1 ∷ 2 ∷ []) ≡ once 1 (1 ∷ []) ∷ []
first_own = refl

other_own : own_of states (2 ∷ 1 ∷ []) ≡ once 2 [] ∷ []
other_own = refl

no_own : own_of states (0 ∷ []) ≡ []
no_own = refl

no_state : marks_of states 3 ≡ []
no_state = refl

abbrev over : List ℕ → Automaton
over roots = automaton 3 roots []

-- each component by its own list; one without a list has the empty signature
owned : owns_of (over (1 ∷ []) ∷ over (0 ∷ []) ∷ over (1 ∷ []) ∷ []) (states ∷ states ∷ [])
    ≡ (once 1 (1 ∷ []) ∷ []) ∷ [] ∷ [] ∷ []
owned = refl

-- what the marks of a root provide, component by component
given_both : given_of ((once 1 (0 ∷ 1 ∷ []) ∷ once 2 (3 ∷ []) ∷ []) ∷ (once 2 [] ∷ once 1 (1 ∷ []) ∷ []) ∷ []) 1
    ≡ 0 ∷ 1 ∷ 1 ∷ []
given_both = refl

given_none : given_of ((once 1 (0 ∷ []) ∷ []) ∷ [] ∷ []) 0 ≡ []
given_none = refl

no_mark : fields_of_mark None ≡ []
no_mark = refl

-- Fields that are provided twice.

twice_here : has_twice (0 ∷ 1 ∷ 1 ∷ 2 ∷ []) ≡ true
twice_here = refl

twice_first : has_twice (0 ∷ 0 ∷ []) ≡ true
twice_first = refl

all_once : has_twice (0 ∷ 1 ∷ 2 ∷ []) ≡ false
all_once = refl

none_twice : has_twice [] ≡ false
none_twice = refl

-- the mark of a root below the limit, and of one that is not
doubled_below : HasDoubled 2 (once 0 [] ∷ once 1 (0 ∷ 0 ∷ []) ∷ [])
doubled_below = (once 1 (0 ∷ 0 ∷ []), inr (inl refl), omega arith, refl)

not_below : HasDoubled 1 (once 1 (0 ∷ 0 ∷ []) ∷ []) → ⊥
not_below (m, inl e, l, t) = let d : m.root ≡ 1 = ap (λ (x : RefMark). x.root) e in omega (arith, l, d)
not_below (m, inr j, l, t) = absurd j

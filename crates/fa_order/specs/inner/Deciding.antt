-- Which roots are those of a canonical forest, by what the trees show.
use Rattle.std.specs.Prelude.{ℕ, suc, ◌+◌, Bool, true, false, not, ◌&&◌, ◌||◌, nat_eq, nat_le, if◌then◌else◌, List, []}
use Rattle.std.specs.Prelude.{◌∷◌}
use Rattle.fa_core.specs.Cells.{roots_in}
use Rattle.fa_core.specs.Ways.{has}
use Rattle.fa_core.specs.declared.signature.Below.{Below}
use Rattle.fa_core.specs.declared.signature.RefMark.{RefMark}
use Rattle.fa_merge.specs.Counts.{marks_count}
use Rattle.fa_order.specs.declared.showing.Shown.{Shown}

-- how many references to root r there are, as far as two in each tree
abbrev pub times_shown : ℕ → List Shown → ℕ
times_shown r [] = 0
times_shown r (s ∷ ss) = marks_count r s.marks + times_shown r ss

-- a variable points to root r, or there are two references to it
abbrev pub shared_by : List ℕ → List Shown → ℕ → Bool
shared_by vs ss r = has r vs || nat_le 2 (times_shown r ss)

-- a leaf that refers to root r stands at one of the ends
abbrev pub any_leaf : ℕ → List Below → Bool
any_leaf r [] = false
any_leaf r (e ∷ es) = (e.leaf && has r (roots_in e.marks)) || any_leaf r es

-- a cell whose tree refers to root r stands at one of the ends
abbrev pub any_cell : ℕ → List Below → Bool
any_cell r [] = false
any_cell r (e ∷ es) = (not e.leaf && has r (roots_in e.marks)) || any_cell r es

-- root i, whose trees show s, makes root r a knot, whose trees have the marks: it is shared, a field of it refers to r,
-- and r's trees refer to i
abbrev pub ties : List ℕ → List Shown → ℕ → List RefMark → ℕ → Shown → Bool
ties vs ss r own i s = shared_by vs ss i && (any_leaf r s.ends && has i (roots_in own))

-- some root from i on does
abbrev pub any_ties : List ℕ → List Shown → ℕ → List RefMark → ℕ → List Shown → Bool
any_ties vs ss r own i [] = false
any_ties vs ss r own i (s ∷ rest) = ties vs ss r own i s || any_ties vs ss r own (suc i) rest

-- there is one reference to root r, and it is a knot
abbrev pub knot_by : List ℕ → List Shown → ℕ → List RefMark → Bool
knot_by vs ss r own = nat_eq (times_shown r ss) 1 && any_ties vs ss r own 0 ss

-- a tree other than that of root r refers to it; the trees are those of the roots from i on
abbrev pub any_other : ℕ → ℕ → List Shown → Bool
any_other r i [] = false
any_other r i (s ∷ ss) = (not (nat_eq i r) && has r (roots_in s.marks)) || any_other r (suc i) ss

-- by a mark of another root, a way back into root r's tree leads to root r
abbrev pub any_leads : ℕ → List RefMark → Bool
any_leads r [] = false
any_leads r (m ∷ ms) = (not (nat_eq m.root r) && (m.back || has r m.reach)) || any_leads r ms

-- no variable points to root r, no other tree refers to it, and a way back from another root leads to it
abbrev pub led_by : List ℕ → List Shown → ℕ → List RefMark → Bool
led_by vs ss r own = not (has r vs) && (not (any_other r 0 ss) && any_leads r own)

-- root r is shared, and no cell at the end of a field of it refers to it, or it is a knot, or a way back leads to it
abbrev pub root_by : List ℕ → List Shown → ℕ → Shown → Bool
root_by vs ss r s =
    if shared_by vs ss r then not (any_cell r s.ends) else (knot_by vs ss r s.marks || led_by vs ss r s.marks)

-- so is each root from r on
abbrev pub roots_by : List ℕ → List Shown → ℕ → List Shown → Bool
roots_by vs ss r [] = true
roots_by vs ss r (s ∷ rest) = root_by vs ss r s && roots_by vs ss (suc r) rest

-- the numbers are those from k on, in order
abbrev pub rise_from : ℕ → List ℕ → Bool
rise_from k [] = true
rise_from k (x ∷ xs) = nat_eq x k && rise_from (suc k) xs

-- The order of roots where ways back lead on: which tree, its own root, the first of its list.
use Rattle.std.proofs.Common.{◌≡◌, ◌<◌, ◌≤◌, ◌⊎◌, inl, inr, ℕ, zero, suc, true, true≢false, List, [], ◌∷◌, ◌++◌}
use Rattle.std.proofs.Common.{flat_map, refl, sym, subst, ◌∙◌, Some, slice_get, arith}
use Rattle.std.proofs.lemmas.Option.{none-some, same_Some}
use Rattle.fore_base.specs.Lists.{IsIn}
use Rattle.ta_core.specs.declared.symbol.Slot.{Slot}
use Rattle.ta_core.specs.declared.symbol.Slot.TheVariants.{Field, Link}
use Rattle.ta_core.specs.declared.tree.Tree.{Tree}
use Rattle.fa_core.specs.declared.faces.BoxFace.{BoxFace}
use Rattle.fa_core.specs.Canonical.{LeadsBack, IsOpen, provides, IsFirstOpen, GoesOn, Walks, ended, old, new, again}
use Rattle.fa_core.specs.Canonical.{refs_at}
use Rattle.fa_core.specs.Ways.{Way, Step, ways, leads_back, led_to, given, to_root, roots_met}
use Rattle.fa_core.proofs.RowsBack.{null, opened, ref, cell}

-- Two boxes that lead back: the first gives its output field 1, the second field 2.

abbrev giver : ℕ → BoxFace
giver f = record { input = 0; output = Some 0; gives_in = 0 ∷ []; gives_out = f ∷ []; back = true }

abbrev pair : List BoxFace
pair = giver 1 ∷ giver 2 ∷ []

-- root 0, which refers to nothing
abbrev start : Tree
start = cell (Field 0 ∷ []) (null ∷ [])

no_ways : ways start ≡ []
no_ways = simp opened

-- an edge of box b to root 0
abbrev by_box : ℕ → Tree
by_box b = cell (Link b ∷ []) (ref 0 ∷ [])

abbrev back_way : ℕ → Way
back_way b = record { root = 0; steps = record { slot = Link b; refers = 0 ∷ [] } ∷ [] }

box_ways : (b : ℕ) → ways (by_box b) ≡ back_way b ∷ []
box_ways b = simp opened

-- what is given to root 0 by the ways of a tree that is known
given_by_ways : (ts : List Tree) (j f : ℕ) (t : Tree) (ws : List Way) → slice_get ts j ≡ Some t → ways t ≡ ws
    → provides pair ts 0 j f
    → IsIn f (flat_map (λ (w : Way). given pair w.steps) (to_root 0 ws))
given_by_ways ts j f t ws g e p =
    let same : t ≡ p.0 = same_Some t p.0 (sym g ∙ p.1) in
    let here = subst (λ (x : Tree). IsIn f (flat_map (λ (w : Way). given pair w.steps) (to_root 0 (ways x))))
    (sym same) p.2 in
    subst (λ (us : List Way). IsIn f (flat_map (λ (w : Way). given pair w.steps) (to_root 0 us))) e here

-- to which roots a way back from root 0 into a tree with one edge leads
led_by_box : (ts : List Tree) (j r b : ℕ) → slice_get ts j ≡ Some (by_box b) → LeadsBack pair ts 0 j r
    → (r ≡ j) ⊎ (r ≡ 0)
led_by_box ts j r b g l =
    let same : by_box b ≡ l.0 = same_Some (by_box b) l.0 (sym g ∙ l.1) in
    let at = subst (λ (us : List Way). IsIn l.2.0 us) (box_ways b)
    (subst (λ (x : Tree). IsIn l.2.0 (ways x)) (sym same) l.2.1) in
    elim at [ inl e ↦ by l.2.0 e l.2.3 | inr x ↦ absurd x ]
  where
    to_start : (c : ℕ) → IsIn r (led_to pair (back_way c).steps) → r ≡ 0
    to_start zero (inl e) = e
    to_start zero (inr x) = absurd x
    to_start (suc zero) (inl e) = e
    to_start (suc zero) (inr x) = absurd x
    to_start (suc (suc c)) i = absurd i

    by : (w : Way) → w ≡ back_way b → ((r ≡ j) × (leads_back pair w.steps ≡ true)) ⊎ IsIn r (led_to pair w.steps)
        → (r ≡ j) ⊎ (r ≡ 0)
    by w e (inl x) = inl x.0
    by w e (inr i) = inr (to_start b (subst (λ (v : Way). IsIn r (led_to pair v.steps)) e i))

-- Two open trees: the one that gives the lesser field is first.

abbrev two : List Tree
two = start ∷ by_box 0 ∷ by_box 1 ∷ []

led_to_first : LeadsBack pair two 0 1 1
led_to_first = (by_box 0, refl, (back_way 0, (let e = box_ways 0 in rw e (inl refl)), refl, inl (refl, refl)))

led_to_second : LeadsBack pair two 0 2 2
led_to_second = (by_box 1, refl, (back_way 1, (let e = box_ways 1 in rw e (inl refl)), refl, inl (refl, refl)))

first_on : GoesOn pair two 1
first_on = record {
  from = 0;
  into = 1;
  open_way = (1, omega arith, omega arith, led_to_first);
  lowest = λ i j o. omega arith;
  field = 1;
  provided = (by_box 0, refl, (let e = box_ways 0 in rw e (inl refl)));
  least = only;
  own_first = λ l w. refl;
  then_list = λ h t e. absurd (let l = h led_to_first in omega (arith, l));
}
  where
    only : (j f : ℕ) → IsOpen pair two 1 0 j → provides pair two 0 j f → 1 ≤ f
    only zero f o p = absurd (given_by_ways two 0 f start [] refl no_ways p)
    only (suc zero) f o p = elim (given_by_ways two 1 f (by_box 0) (back_way 0 ∷ []) refl (box_ways 0) p)
        [ inl e ↦ omega (arith, e) | inr x ↦ absurd x ]
    only (suc (suc zero)) f o p = elim
        (given_by_ways two 2 f (by_box 1) (back_way 1 ∷ []) refl (box_ways 1) p)
        [ inl e ↦ omega (arith, e) | inr x ↦ absurd x ]
    only (suc (suc (suc j))) f o p = absurd (none-some p.0 p.1)

-- Two placed roots with an open way each: the walk goes on from the lower.

abbrev to_second : Tree
to_second = cell (Link 0 ∷ []) (ref 1 ∷ [])

abbrev two_lists : List Tree
two_lists = start ∷ start ∷ by_box 0 ∷ to_second ∷ []

open_from_first : IsOpen pair two_lists 2 0 2
open_from_first = (
  2,
  omega arith,
  omega arith,
  (by_box 0, refl, (back_way 0, (let e = box_ways 0 in rw e (inl refl)), refl, inl (refl, refl))),
)

from_the_lower : (h : GoesOn pair two_lists 2) → h.from ≡ 0
from_the_lower h = let l = h.lowest 0 2 open_from_first in omega (arith, l)

-- then the other: the first is not open any more
second_on : GoesOn pair two 2
second_on = record {
  from = 0;
  into = 2;
  open_way = (2, omega arith, omega arith, led_to_second);
  lowest = λ i j o. omega arith;
  field = 2;
  provided = (by_box 1, refl, (let e = box_ways 1 in rw e (inl refl)));
  least = only;
  own_first = λ l w. refl;
  then_list = λ h t e. absurd (let l = h led_to_second in omega (arith, l));
}
  where
    only : (j f : ℕ) → IsOpen pair two 2 0 j → provides pair two 0 j f → 2 ≤ f
    only zero f o p = absurd (given_by_ways two 0 f start [] refl no_ways p)
    only (suc zero) f o p = elim (led_by_box two 1 o.0 0 refl o.3) [
      | inl e ↦ absurd (let l = o.1 in omega (arith, l, e))
      | inr e ↦ absurd (let l = o.1 in omega (arith, l, e))
    ]
    only (suc (suc zero)) f o p = elim
        (given_by_ways two 2 f (by_box 1) (back_way 1 ∷ []) refl (box_ways 1) p)
        [ inl e ↦ omega (arith, e) | inr x ↦ absurd x ]
    only (suc (suc (suc j))) f o p = absurd (none-some p.0 p.1)

box_refers : (b : ℕ) → roots_met (ways (by_box b)) ≡ 0 ∷ []
box_refers b = let e = box_ways b in rw e refl

start_refers : roots_met (ways start) ≡ []
start_refers = let e = no_ways in rw e refl

two_walk : Walks (refs_at two) (GoesOn pair two) (0 ∷ []) 0 3
two_walk =
    let a = start_refers in
    let b = box_refers 0 in
    let c = box_refers 1 in
    let last : Walks (refs_at two) (GoesOn pair two) (refs_at two 2 ++ []) 3 3 =
    rw c (old {r = 0} {k = 3} (omega arith) ended) in
    let on : Walks (refs_at two) (GoesOn pair two) (refs_at two 1 ++ []) 2 3 =
    rw b (old {r = 0} {k = 2} (omega arith) (again {k = 2} {n = 3} (omega arith) second_on (new {k = 2} last))) in
    new {k = 0} (rw a (again {k = 1} {n = 3} (omega arith) first_on (new {k = 1} on)))

-- with the lesser field at tree 2 the walk does not go on from root 1
abbrev turned : List Tree
turned = start ∷ by_box 1 ∷ by_box 0 ∷ []

turned_led : LeadsBack pair turned 0 2 2
turned_led = (by_box 0, refl, (back_way 0, (let e = box_ways 0 in rw e (inl refl)), refl, inl (refl, refl)))

not_the_greater : GoesOn pair turned 1 → ⊥
not_the_greater h = by h.from h.into h.field h.open_way h.provided h.least h.own_first
  where
    by : (i j f : ℕ) → IsOpen pair turned 1 i j → provides pair turned i j f
        → ((k g : ℕ) → IsOpen pair turned 1 i k → provides pair turned i k g → f ≤ g)
        → (1 ≤ j → LeadsBack pair turned i j j → 1 ≡ j) → ⊥
    by (suc i) j f o p l w = let z = o.2 in omega (arith, z)
    by zero zero f o p l w = given_by_ways turned 0 f start [] refl no_ways p
    by zero (suc zero) f o p l w =
        let z = l 2 1 (2, omega arith, omega arith, turned_led)
        (by_box 0, refl, (let e = box_ways 0 in rw e (inl refl))) in
        elim (given_by_ways turned 1 f (by_box 1) (back_way 1 ∷ []) refl (box_ways 1) p)
        [ inl e ↦ omega (arith, e, z) | inr x ↦ x ]
    by zero (suc (suc zero)) f o p l w = let z = w (omega arith) turned_led in omega (arith, z)
    by zero (suc (suc (suc j))) f o p l w = none-some p.0 p.1

-- a root that is not placed opens nothing
not_placed : IsOpen pair two 0 0 1 → ⊥
not_placed o = let l = o.2 in omega (arith, l)

-- where all that the ways back lead to is placed, nothing is open
all_placed : IsOpen pair two 2 0 1 → ⊥
all_placed o = elim (led_by_box two 1 o.0 0 refl o.3) [
  | inl e ↦ (let l = o.1 in omega (arith, l, e))
  | inr e ↦ (let l = o.1 in omega (arith, l, e))
]

-- The way back does not lead to the tree's own root: the first root of its list that is not placed is next. Tree 2 has
-- a field above the cell with the edge to root 0; beside the edge that cell refers to root 1, which refers to root 2.

abbrev low : Tree
low = cell (Link 0 ∷ Field 1 ∷ []) (ref 0 ∷ ref 1 ∷ [])

abbrev far : Tree
far = cell (Field 0 ∷ []) (low ∷ [])

abbrev on : Tree
on = cell (Field 0 ∷ []) (ref 2 ∷ [])

abbrev listed : List Tree
listed = start ∷ on ∷ far ∷ []

abbrev step : Slot → Step
step s = record { slot = s; refers = 0 ∷ 1 ∷ [] }

abbrev far_back : Way
far_back = record { root = 0; steps = step (Field 0) ∷ step (Link 0) ∷ [] }

abbrev far_beside : Way
far_beside = record { root = 1; steps = step (Field 0) ∷ step (Field 1) ∷ [] }

far_ways : ways far ≡ far_back ∷ far_beside ∷ []
far_ways = simp opened

on_ways : ways on ≡ record { root = 2; steps = record { slot = Field 0; refers = 2 ∷ [] } ∷ [] } ∷ []
on_ways = simp opened

led_to_one : LeadsBack pair listed 0 2 1
led_to_one = (far, refl, (far_back, (let e = far_ways in rw e (inl refl)), refl, inr (inr (inl refl))))

not_led_to_own : LeadsBack pair listed 0 2 2 → ⊥
not_led_to_own l =
    let same : far ≡ l.0 = same_Some far l.0 l.1 in
    let at = subst (λ (us : List Way). IsIn l.2.0 us) far_ways
    (subst (λ (x : Tree). IsIn l.2.0 (ways x)) (sym same) l.2.1) in
    by l.2.0 at l.2.2 l.2.3
  where
    by : (w : Way) → IsIn w (far_back ∷ far_beside ∷ []) → w.root ≡ 0
        → (◌≡◌ {A = ℕ} 2 2 × (leads_back pair w.steps ≡ true)) ⊎ IsIn 2 (led_to pair w.steps) → ⊥
    by w (inl e) r (inl b) = true≢false (sym (rw e at b.1))
    by w (inl e) r (inr b) = elim (rw e at b)
        [ inl x ↦ omega (arith, x) | inr j ↦ elim j [ inl x ↦ omega (arith, x) | inr x ↦ x ] ]
    by w (inr (inl e)) r b = let z : 1 ≡ 0 = rw e at r in omega (arith, z)
    by w (inr (inr e)) r b = e

listed_on : GoesOn pair listed 1
listed_on = record {
  from = 0;
  into = 2;
  open_way = (1, omega arith, omega arith, led_to_one);
  lowest = λ i j o. omega arith;
  field = 1;
  provided = (far, refl, (let e = far_ways in rw e (inl refl)));
  least = only;
  own_first = λ l w. absurd (not_led_to_own w);
  then_list = first;
}
  where
    only : (j f : ℕ) → IsOpen pair listed 1 0 j → provides pair listed 0 j f → 1 ≤ f
    only zero f o p = absurd (given_by_ways listed 0 f start [] refl no_ways p)
    only (suc zero) f o p = absurd (given_by_ways listed 1 f on _ refl on_ways p)
    only (suc (suc zero)) f o p = elim
        (given_by_ways listed 2 f far _ refl far_ways p) [ inl e ↦ omega (arith, e) | inr x ↦ absurd x ]
    only (suc (suc (suc j))) f o p = absurd (none-some p.0 p.1)

    -- root 0, the first of the list, is placed
    first : (LeadsBack pair listed 0 2 2 → 2 < 1) → (t : Tree) → slice_get listed 2 ≡ Some t
        → IsFirstOpen (λ r. LeadsBack pair listed 0 2 r) 1 (roots_met (ways t))
    first h t e =
        let w = far_ways in
        subst (λ (x : Tree). IsFirstOpen (λ r. LeadsBack pair listed 0 2 r) 1 (roots_met (ways x))) (same_Some far t e)
        (rw w (inr ((λ l. omega (arith, l)), inl (refl, led_to_one))))

listed_walk : Walks (refs_at listed) (GoesOn pair listed) (0 ∷ []) 0 3
listed_walk =
    let a = start_refers in
    let b = on_refers in
    let c = far_refers in
    let last : Walks (refs_at listed) (GoesOn pair listed) (refs_at listed 2 ++ []) 3 3 =
    rw c (old {r = 0} {k = 3} (omega arith) (old {r = 1} {k = 3} (omega arith) ended)) in
    let next : Walks (refs_at listed) (GoesOn pair listed) (refs_at listed 1 ++ []) 2 3 = rw b (new {k = 2} last) in
    new {k = 0} (rw a (again {k = 1} {n = 3} (omega arith) listed_on (new {k = 1} next)))
  where
    on_refers : roots_met (ways on) ≡ 2 ∷ []
    on_refers = let e = on_ways in rw e refl

    far_refers : roots_met (ways far) ≡ 0 ∷ 1 ∷ []
    far_refers = let e = far_ways in rw e refl

-- The way back leads to the tree's own root and to root 2. While its own root is not placed, that is next, and not the
-- one in the list; once it is, the list counts.

abbrev both : Tree
both = cell (Field 0 ∷ Link 0 ∷ []) (ref 2 ∷ ref 0 ∷ [])

abbrev own : List Tree
own = start ∷ both ∷ start ∷ []

abbrev both_step : Slot → Step
both_step s = record { slot = s; refers = 2 ∷ 0 ∷ [] }

abbrev both_back : Way
both_back = record { root = 0; steps = both_step (Link 0) ∷ [] }

both_ways : ways both ≡ record { root = 2; steps = both_step (Field 0) ∷ [] } ∷ both_back ∷ []
both_ways = simp opened

led_to_own : LeadsBack pair own 0 1 1
led_to_own = (both, refl, (both_back, (let e = both_ways in rw e (inr (inl refl))), refl, inl (refl, refl)))

led_to_other : LeadsBack pair own 0 1 2
led_to_other = (both, refl, (both_back, (let e = both_ways in rw e (inr (inl refl))), refl, inr (inl refl)))

only_prev : (k j f : ℕ) → IsOpen pair own k 0 j → provides pair own 0 j f → 1 ≤ f
only_prev k zero f o p = absurd (given_by_ways own 0 f start [] refl no_ways p)
only_prev k (suc zero) f o p =
    elim (given_by_ways own 1 f both _ refl both_ways p) [ inl e ↦ omega (arith, e) | inr x ↦ absurd x ]
only_prev k (suc (suc zero)) f o p = absurd (given_by_ways own 2 f start [] refl no_ways p)
only_prev k (suc (suc (suc j))) f o p = absurd (none-some p.0 p.1)

own_root_first : GoesOn pair own 1
own_root_first = record {
  from = 0;
  into = 1;
  open_way = (2, omega arith, omega arith, led_to_other);
  lowest = λ i j o. omega arith;
  field = 1;
  provided = (both, refl, (let e = both_ways in rw e (inl refl)));
  least = λ j f o p. only_prev 1 j f o p;
  own_first = λ l w. refl;
  then_list = λ h t e. absurd (let l = h led_to_own in omega (arith, l));
}

own_root_placed : GoesOn pair own 2
own_root_placed = record {
  from = 0;
  into = 1;
  open_way = (2, omega arith, omega arith, led_to_other);
  lowest = λ i j o. omega arith;
  field = 1;
  provided = (both, refl, (let e = both_ways in rw e (inl refl)));
  least = λ j f o p. only_prev 2 j f o p;
  own_first = λ l w. absurd (omega (arith, l));
  then_list = λ h t e. (let w = both_ways in
      subst (λ (x : Tree). IsFirstOpen (λ r. LeadsBack pair own 0 1 r) 2 (roots_met (ways x))) (same_Some both t e)
      (rw w (inl (refl, led_to_other))));
}

-- Worked values: the walk, and outlines.
use Rattle.std.proofs.Common.{
  ◌≡◌,
  ◌≢◌,
  ◌≤◌,
  inl,
  inr,
  ℕ,
  suc,
  zero,
  false,
  List,
  [],
  ◌∷◌,
  map,
  refl,
  ap,
  ap₂,
  ◌∙◌,
  arith,
}
use Rattle.ta_core.specs.declared.symbol.Slot.TheVariants.{Field}
use Rattle.ta_core.specs.declared.symbol.Symbol.{Symbol}
use Rattle.ta_core.specs.declared.symbol.Symbol.TheVariants.{Null, Uninit, Dangling, Ref, Cell}
use Rattle.ta_core.specs.declared.tree.Tree.{Tree, Tree-F, out-Tree, out-roll-Tree, roll-Tree}
use Rattle.fa_core.specs.Ways.{Way, ways, ways_at, roots_met, mark, signature}
use Rattle.fa_core.specs.declared.signature.RefMark.{RefMark}
use Rattle.fa_core.proofs.WaysOf.{rolled_ways}
use Rattle.fa_order.specs.Outlines.{Stub, leaf, cell, outline, stub, stub_by}
use Rattle.fa_order.specs.Placing.{
  GoesOnFrom,
  IsLowestOpen,
  IsOpenAt,
  PlacingOn,
  all_placed,
  is_placed,
  place_now,
  stuck,
}
use Rattle.fa_order.specs.Visits.{IsVisit, was_placed, placed_now}
use Rattle.fore_base.specs.Lists.{IsIn}
use Rattle.fa_order.proofs.Visits.{one_order}

-- The walk. Root 0 refers to 1 and 2, root 1 to 3, root 3 to 0, and root 4 to itself.

abbrev hops : ℕ → List ℕ
hops zero = 1 ∷ 2 ∷ []
hops (suc zero) = 3 ∷ []
hops (suc (suc zero)) = []
hops (suc (suc (suc zero))) = 0 ∷ []
hops (suc (suc (suc (suc k)))) = 4 ∷ []

-- no way leads back, and no box edge gives a field
abbrev Nowhere : ℕ → ℕ → ℕ → Type 0
Nowhere i j r = ⊥

abbrev Nothing : ℕ → ℕ → ℕ → Type 0
Nothing i j f = ⊥

abbrev Placing : (ℕ → List ℕ) → List ℕ → List ℕ → List ℕ → Type 0
Placing refers = PlacingOn refers Nowhere Nothing

none_open : (placed : List ℕ) (i j : ℕ) → IsIn i placed → IsOpenAt Nowhere placed i j → ⊥
none_open placed i j h o = o.2

-- what refers to root 1 is followed before what refers to root 2
depth_first : Placing hops (0 ∷ []) [] (0 ∷ 1 ∷ 3 ∷ 2 ∷ [])
depth_first =
    place_now {r = 0} (λ i. i)
    (place_now {r = 1} (λ i. elim i [ inl e ↦ omega (arith, e) | inr z ↦ z ])
    (place_now {r = 3}
    (λ i. elim i [ inl e ↦ omega (arith, e) | inr j ↦ elim j [ inl e ↦ omega (arith, e) | inr z ↦ z ] ])
    (is_placed {r = 0} (inl refl)
    (place_now {r = 2}
    (λ i.
    elim i [
      | inl e ↦ omega (arith, e)
      | inr j ↦ elim j
          [ inl e ↦ omega (arith, e) | inr k ↦ elim k [ inl e ↦ omega (arith, e) | inr z ↦ z ] ]
    ]) (all_placed (none_open (0 ∷ 1 ∷ 3 ∷ 2 ∷ [])))))))

-- so it is no order that has root 2 before root 3
not_breadth_first : Placing hops (0 ∷ []) [] (0 ∷ 1 ∷ 2 ∷ 3 ∷ []) → ⊥
not_breadth_first w =
    let e : 2 ≡ 3 = ap third (one_order hops Nowhere Nothing (λ i j r. inr (λ h. h)) (λ i j k f h g.
    absurd h) w depth_first)
    in omega (arith, e)
  where
    third : List ℕ → ℕ
    third (a ∷ b ∷ c ∷ d) = c
    third xs = 9

-- the first variable comes first, and a root that is reached from nowhere is not placed
variables_in_order : Placing hops (4 ∷ 2 ∷ 4 ∷ []) [] (4 ∷ 2 ∷ [])
variables_in_order =
    place_now {r = 4} (λ i. i)
    (is_placed {r = 4} (inl refl)
    (place_now {r = 2} (λ i. elim i [ inl e ↦ omega (arith, e) | inr z ↦ z ])
    (is_placed {r = 4} (inl refl) (all_placed (none_open (4 ∷ 2 ∷ []))))))

nothing_to_visit : Placing hops [] (7 ∷ []) (7 ∷ [])
nothing_to_visit = all_placed (none_open (7 ∷ []))

-- Where nothing is left to visit. Ways back lead from root 0 into tree 1, to root 3, and into tree 2, to root 2, and
-- from
-- root 1 into tree 4, to root 4; box edges of tree 1 give root 0 field 5, those of tree 2 field 3, and those of tree 4
-- give root 1 field 0. Tree 1 refers to root 3, and no other tree to any.

pub data Back : ℕ → ℕ → ℕ → Type 0 where
  into_one : Back 0 1 3
  into_two : Back 0 2 2
  into_four : Back 1 4 4

pub data Gift : ℕ → ℕ → ℕ → Type 0 where
  gives_five : Gift 0 1 5
  gives_three : Gift 0 2 3
  gives_none : Gift 1 4 0

abbrev one_refers : ℕ → List ℕ
one_refers (suc zero) = 3 ∷ []
one_refers k = []

neither : (k : ℕ) → k ≢ 0 → k ≢ 1 → IsIn k (0 ∷ 1 ∷ []) → ⊥
neither k a b i = elim i [ inl e ↦ a e | inr j ↦ elim j [ inl e ↦ b e | inr z ↦ z ] ]

lowest_zero : IsLowestOpen Back (0 ∷ 1 ∷ []) 0
lowest_zero = record {
  is_placed = inl refl;
  some = (2, (2, neither 2 (λ e. omega (arith, e)) (λ e. omega (arith, e)), into_two));
  lowest = λ k j h o. omega arith;
}

-- from root 0, the first that is placed, though tree 4 gives root 1 a lesser field; into tree 2, which gives it the
-- lesser
-- field, though tree 1 comes first
goes_to_two : GoesOnFrom one_refers Back Gift (0 ∷ 1 ∷ []) 2
goes_to_two = record {
  from = 0;
  into = 2;
  lowest = lowest_zero;
  gives = record {
    open_way = (2, neither 2 (λ e. omega (arith, e)) (λ e. omega (arith, e)), into_two);
    field = 3;
    given = gives_three;
    least = least;
  };
  led = record {
    own_first = λ n l. refl;
    then_list = λ f.
        absurd (neither 2 (λ e. omega (arith, e)) (λ e. omega (arith, e)) (f into_two));
  };
}
  where
    least : (j f : ℕ) → IsOpenAt Back (0 ∷ 1 ∷ []) 0 j → Gift 0 j f → 3 ≤ f
    least j f o gives_five = omega arith
    least j f o gives_three = omega arith

-- then into tree 1, to root 3, to which it refers: its own root is placed
three_next : GoesOnFrom one_refers Back Gift (0 ∷ 1 ∷ 2 ∷ []) 3
three_next = record {
  from = 0;
  into = 1;
  lowest = record { is_placed = inl refl; some = (1, (3, new, into_one)); lowest = λ k j h o. omega arith };
  gives = record { open_way = (3, new, into_one); field = 5; given = gives_five; least = least };
  led = record {
    own_first = λ n l. absurd (let i : IsIn 1 (0 ∷ 1 ∷ 2 ∷ []) = inr (inl refl) in n i);
    then_list = λ f. inl (refl, into_one);
  };
}
  where
    new : IsIn {X = ℕ} 3 (0 ∷ 1 ∷ 2 ∷ []) → ⊥
    new i = elim i [
      | inl e ↦ omega (arith, e)
      | inr j ↦ elim j [ inl e ↦ omega (arith, e) | inr k ↦ elim k [ inl e ↦ omega (arith, e) | inr z ↦ z ] ]
    ]

    least : (j f : ℕ) → IsOpenAt Back (0 ∷ 1 ∷ 2 ∷ []) 0 j → Gift 0 j f → 5 ≤ f
    least j f o gives_five = omega arith
    least j f (x, n, into_two) gives_three =
        absurd (let i : IsIn 2 (0 ∷ 1 ∷ 2 ∷ []) = inr (inr (inl refl)) in n i)

-- no field, no way on: a way back that gives nothing leaves the walk stuck
stuck_without_gift : PlacingOn one_refers Back Nothing [] (0 ∷ 1 ∷ []) (0 ∷ 1 ∷ [])
stuck_without_gift = stuck (record { from = 0; lowest = lowest_zero; no_field = λ j f o g. g })

-- Visits.

new_root_is_placed : IsVisit ((1 ∷ 2 ∷ []) ∷ [] ∷ []) 0 (3 ∷ []) [] (1 ∷ 2 ∷ 3 ∷ []) (0 ∷ [])
new_root_is_placed = placed_now {rs = 1 ∷ 2 ∷ []} (λ i. i) refl

placed_root_is_passed : IsVisit ((1 ∷ 2 ∷ []) ∷ [] ∷ []) 0 (3 ∷ []) (0 ∷ []) (3 ∷ []) (0 ∷ [])
placed_root_is_passed = was_placed (inl refl)

-- Outlines.

abbrev fork : Symbol
fork = Cell 0 [] (Field 0 ∷ Field 1 ∷ [])

leaves_show_themselves : map (λ y. stub_by y (5 ∷ [])) (Null ∷ Uninit ∷ Dangling ∷ Ref 1 ∷ []) ≡ leaf Null ∷ leaf Uninit
    ∷ leaf Dangling ∷ leaf (Ref 1) ∷ []
leaves_show_themselves = refl

cells_show_roots : stub_by fork (2 ∷ 1 ∷ []) ≡ cell (2 ∷ 1 ∷ [])
cells_show_roots = refl

abbrev tree : Symbol → List Tree → Tree
tree y ts = roll-Tree (record { symbol = y; children = ts })

-- a cell whose fields are root 2 and null
abbrev low : Tree
low = tree fork (tree (Ref 2) [] ∷ tree Null [] ∷ [])

-- a cell whose fields are root 1 and that cell
abbrev high : Tree
high = tree fork (tree (Ref 1) [] ∷ low ∷ [])

abbrev once_to : ℕ → RefMark
once_to r = record { root = r; many = false; provided = []; back = false; reach = [] }

rolled_symbol : (x : Tree-F Tree) → (out-Tree (roll-Tree x)).symbol ≡ x.symbol
rolled_symbol x = ap (λ (y : Tree-F Tree). y.symbol) (out-roll-Tree x)

ref_ways : (k : ℕ) → ways (tree (Ref k) []) ≡ record { root = k; steps = [] } ∷ []
ref_ways k = rolled_ways (record { symbol = Ref k; children = [] })

null_ways : ways (tree Null []) ≡ []
null_ways = rolled_ways (record { symbol = Null; children = [] })

low_ways : ways low ≡ record { root = 2; steps = record { slot = Field 0; refers = 2 ∷ [] } ∷ [] } ∷ []
low_ways = rolled_ways (record { symbol = fork; children = tree (Ref 2) [] ∷ tree Null [] ∷ [] })
    ∙ ap₂ (λ (x y : List Way). ways_at fork (x ∷ y ∷ [])) (ref_ways 2) null_ways

high_ways : ways high
    ≡ record { root = 1; steps = record { slot = Field 0; refers = 1 ∷ 2 ∷ [] } ∷ [] }
    ∷ record {
      root = 2;
      steps = record { slot = Field 1; refers = 1 ∷ 2 ∷ [] }
          ∷ record { slot = Field 0; refers = 2 ∷ [] } ∷ [];
    } ∷ []
high_ways = rolled_ways (record { symbol = fork; children = tree (Ref 1) [] ∷ low ∷ [] })
    ∙ ap₂ (λ (x y : List Way). ways_at fork (x ∷ y ∷ [])) (ref_ways 1) low_ways

-- its children show the reference, and the root of the cell below
high_shows : map stub (tree (Ref 1) [] ∷ low ∷ []) ≡ leaf (Ref 1) ∷ cell (2 ∷ []) ∷ []
high_shows =
    ap₂ (λ (x y : Stub). x ∷ y ∷ [])
    (ap (λ (y : Symbol). stub_by y (roots_met (ways (tree (Ref 1) []))))
    (rolled_symbol (record { symbol = Ref 1; children = [] })))
    (ap₂ stub_by (rolled_symbol (record { symbol = fork; children = tree (Ref 2) [] ∷ tree Null [] ∷ [] }))
    (ap roots_met low_ways))

high_outline : outline [] high
    ≡ record { top = fork; marks = once_to 1 ∷ once_to 2 ∷ []; stubs = leaf (Ref 1) ∷ cell (2 ∷ []) ∷ [] }
high_outline =
    let x : Tree-F Tree = record { symbol = fork; children = tree (Ref 1) [] ∷ low ∷ [] } in
    let s : signature [] high ≡ once_to 1 ∷ once_to 2 ∷ [] =
    ap (λ (ws : List Way). map (mark [] ws) (roots_met ws)) high_ways in
    rw (out-roll-Tree x, s, high_shows) refl

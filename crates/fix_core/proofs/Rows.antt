-- Worked values of the words on explorations, each made by hand from what the word says.
use Rattle.std.proofs.Common.{◌≡◌, inl, inr, ℕ, zero, suc, ◌++◌, List, [], ◌∷◌, length, true, false, Option, Some}
use Rattle.std.proofs.Common.{None, refl, sym, ◌∙◌, ap, subst, arith, lit<, lit≤, length-append}
use Rattle.std.proofs.lemmas.Option.{none-some, same_Some}
use Rattle.fore_base.specs.declared.fault.Fault.TheVariants.{Leak}
use Rattle.fore_base.specs.declared.store.Store.{Store}
use Rattle.fa_core.specs.Boxes.{Boxes}
use Rattle.fa_core.specs.Covering.{Covers}
use Rattle.fa_core.specs.declared.faces.Face.{Face}
use Rattle.fa_core.specs.declared.forest.Forest.{Forest}
use Rattle.fa_core.specs.declared.forest.Target.{Target}
use Rattle.fa_core.specs.declared.forest.Target.TheVariants.{Null, Uninit}
use Rattle.fa_sound.specs.Soundness.{SoundForest}
use Rattle.c_cfg.specs.Edges.{Passed, Faulted, Halted, NotPassed}
use Rattle.c_cfg.specs.Fans.{choice_list}
use Rattle.c_cfg.specs.Graphs.{ControlGraph}
use Rattle.c_cfg.specs.declared.graph.Edge.{Edge}
use Rattle.fix_core.specs.Covered.{IsCovered, NoneCovers, CoversOrNot, IsPlaced}
use Rattle.fix_core.specs.declared.nodes.Placed.TheVariants.{Covered, Added, Full as NoRoom}
use Rattle.fix_core.specs.Explorations.{is_head, NoLater, IsWay, begins, goes, IsCared, IsExplored}
use Rattle.fix_core.specs.Follows.{IsMember, IsStateAt}
use Rattle.fix_core.specs.Listed.{numbers_at}
use Rattle.fix_core.specs.States.{AbstractState, forest_of, IsOver}
use Rattle.fix_core.specs.declared.explored.AbsTrace.{AbsTrace}
use Rattle.fix_core.specs.declared.explored.Explored.TheVariants.{Closed, Faulty, Spent}
use Rattle.fix_core.specs.declared.nodes.Node.{Node}

-- forests without cells, and nodes with them
abbrev pub bare : List Target → Forest
bare vars = record { autos = []; vars = vars; data_vars = [] }

abbrev pub face : Face
face = record { shapes = record { structs = [] }; boxes = [] }

abbrev pub state : List Target → Option Forest → AbstractState
state vars middle = record { face = face; forest = bare vars; middle = middle; folds = [] }

abbrev pub node : ℕ → Option ℕ → Option ℕ → Option ℕ → AbstractState → Node
node location parent edge choice a =
    record { head = record { location = location; parent = parent; edge = edge; choice = choice }; state = a }

-- from node 0 the choices 0 and 1 lead to nodes 1 and 2; from node 2 an edge without a choice leads to node 3, at the
-- location of node 1
abbrev pub n0 : Node
n0 = node 0 None None None (state [] None)

abbrev pub n1 : Node
n1 = node 1 (Some 0) (Some 0) (Some 0) (state (Null ∷ []) None)

abbrev pub n2 : Node
n2 = node 2 (Some 0) (Some 1) (Some 1) (state (Null ∷ []) None)

abbrev pub n3 : Node
n3 = node 1 (Some 2) (Some 2) None (state (Uninit ∷ []) (Some (bare (Uninit ∷ []))))

abbrev pub nodes : List Node
nodes = n0 ∷ n1 ∷ n2 ∷ n3 ∷ []

-- location 1 is a loop head
abbrev pub graph : ControlGraph
graph =
    record {
      locations = 2;
      ptrs = 1;
      datums = 0;
      edges = [];
      heads = false ∷ true ∷ [];
      shapes = record { structs = [] };
    }

-- Loop heads

no_head : is_head graph 0 ≡ false
no_head = refl

head : is_head graph 1 ≡ true
head = refl

past_the_heads : is_head graph 2 ≡ false
past_the_heads = refl

-- The order of parents and edges

earlier_parent : NoLater 0 5 1 0
earlier_parent = inl (lit< tt)

same_edge : NoLater 1 3 1 3
same_edge = inr (refl, lit≤ tt)

later_edge : NoLater 1 3 1 2 → ⊥
later_edge (inl h) = omega (arith, h)
later_edge (inr h) = omega (arith, h.1)

later_parent : NoLater 2 0 1 5 → ⊥
later_parent (inl h) = omega (arith, h)
later_parent (inr h) = omega (arith, h.0)

-- Ways: that to node 3 passes nodes 0 and 2, on the choice 1

way_to_3 : IsWay nodes 3 (0 ∷ 2 ∷ 3 ∷ []) (1 ∷ [])
way_to_3 = goes n3 (0 ∷ 2 ∷ 3 ∷ []) (1 ∷ []) (goes n2 (0 ∷ 2 ∷ []) (1 ∷ []) begins refl refl refl refl) refl refl refl
    refl

not_empty : (xs : List ℕ) (x : ℕ) → [] ≡ xs ++ x ∷ [] → ⊥
not_empty xs x e = omega (arith, ap length e, length-append xs (x ∷ []))

no_way_is_empty : {j : ℕ} {way choices : List ℕ} → IsWay nodes j way choices → way ≡ [] → ⊥
no_way_is_empty begins e = omega (arith, ap length e)
no_way_is_empty (goes {j = j} {way = way} n more used w i p m u) e = not_empty way j (sym e ∙ m)

-- one choice is needed for node 1
no_way_without_its_choice : {j : ℕ} {way choices : List ℕ} → IsWay nodes j way choices → j ≡ 1 → choices ≡ [] → ⊥
no_way_without_its_choice begins j c = omega (arith, j)
no_way_without_its_choice (goes {choices = choices} n more used w i p m u) j c =
    let e : Some n1 ≡ Some n = rw j at i in
    not_empty choices 0 (sym c
    ∙ subst (λ (x : Node). used ≡ choices ++ choice_list x.head.choice) (sym (same_Some n1 n e)) u)

module _ (T : Boxes) where
  -- What becomes of a member: it is in a node where the edge ends, or is no more

  is_housed : (s : Store) → IsMember T (bare (Null ∷ [])) s → IsCared T graph nodes 2 (Passed s)
  is_housed s m = record { at = 2; node = n2; is = refl; there = refl; member = m }

  is_nowhere : (s : Store) → IsCared T graph [] 2 (Passed s) → ⊥
  is_nowhere s h = none-some h.node h.is

  meets_a_fault : IsCared T graph nodes 2 (Faulted Leak) → ⊥
  meets_a_fault h = h

  is_over : IsCared T graph nodes 2 Halted
  is_over = tt

  does_not_pass : IsCared T graph nodes 2 NotPassed
  does_not_pass = tt

  -- The budget: four nodes are within four, and are not within three; they fill no budget but four

  closed_past_the_budget : (k : ℕ) → IsExplored T graph k 3 (Closed nodes) → ⊥
  closed_past_the_budget k h = omega (arith, h.2)

  faulty_past_the_budget : (k : ℕ) (tr : AbsTrace) → IsExplored T graph k 3 (Faulty nodes tr) → ⊥
  faulty_past_the_budget k tr h = omega (arith, h.2)

  spent_below_the_budget : (k : ℕ) → IsExplored T graph k 5 (Spent nodes) → ⊥
  spent_below_the_budget k h = omega (arith, h.1.many)

  -- A state has a middle forest at a loop head, and elsewhere none

  middle_at_a_head : (k : ℕ) (F : Forest) (e : Edge) → IsStateAt T true k F e (state [] None) → ⊥
  middle_at_a_head k F e h = none-some h.middle h.settles.middle

  no_middle_elsewhere : (k : ℕ) (F M : Forest) (e : Edge) → IsStateAt T false k F e (state [] (Some M)) → ⊥
  no_middle_elsewhere k F M e h = none-some M (sym h.no_middle)

-- Lists of numbers

at_a_place : numbers_at ((1 ∷ []) ∷ (0 ∷ 2 ∷ []) ∷ []) 1 ≡ 0 ∷ 2 ∷ []
at_a_place = refl

past_the_places : numbers_at ((1 ∷ []) ∷ []) 1 ≡ []
past_the_places = refl

-- Forests that are there or not

no_forest : forest_of None ≡ None
no_forest = refl

this_forest : (s : SoundForest) → forest_of (Some s) ≡ Some s.forest
this_forest s = refl

over_no_face : IsOver face None
over_no_face = tt

over_its_face : (s : SoundForest) → IsOver s.face (Some s)
over_its_face s = refl

-- Which nodes cover a forest: node 1 covers that of a null pointer, at location 1, and no other forest

same : (vars : List Target) → Covers (bare vars) (bare vars)
same vars = record { vars = refl; data_vars = refl; within = tt }

other : Covers (bare (Null ∷ [])) (bare []) → ⊥
other c = omega (arith, ap (λ (vs : List Target). length vs) c.vars)

covered : IsCovered nodes 1 (bare (Null ∷ []))
covered = record { at = 1; node = n1; is = refl; there = refl; covers = same (Null ∷ []) }

one_covers : CoversOrNot nodes 1 (bare (Null ∷ [])) true
one_covers = covered

one_does : CoversOrNot nodes 1 (bare (Null ∷ [])) false → ⊥
one_does h = h 1 n1 refl refl (same (Null ∷ []))

none_does : CoversOrNot (n0 ∷ []) 0 (bare (Null ∷ [])) false
none_does zero m i l c =
    let e : Covers (bare []) (bare (Null ∷ [])) =
    subst (λ (x : Node). Covers x.state.forest (bare (Null ∷ []))) (sym (same_Some n0 m i)) c in
    omega (arith, ap (λ (vs : List Target). length vs) e.vars)
none_does (suc j) m i l c = none-some m i

-- A state that is to be a node: node 1 covers it, whether or not the budget is full; node 0 alone does not

placed_covered : IsPlaced nodes n1 4 nodes Covered
placed_covered = (covered, refl)

full_is_not_covered : IsPlaced nodes n1 4 nodes NoRoom → ⊥
full_is_not_covered h = h.0 1 n1 refl refl (same (Null ∷ []))

added_is_not_covered : IsPlaced nodes n1 9 (nodes ++ n1 ∷ []) Added → ⊥
added_is_not_covered h = h.0 1 n1 refl refl (same (Null ∷ []))

covered_adds_nothing : IsPlaced nodes n1 9 (nodes ++ n1 ∷ []) Covered → ⊥
covered_adds_nothing h = omega (arith, ap (λ (ns : List Node). length ns) h.1)

none_covers_n1 : NoneCovers (n0 ∷ []) 1 (bare (Null ∷ []))
none_covers_n1 zero m i l c = let e : 0 ≡ 1 = subst (λ (x : Node). x.head.location ≡ 1) (sym (same_Some n0 m i)) l in
    omega (arith, e)
none_covers_n1 (suc j) m i l c = none-some m i

placed_last : IsPlaced (n0 ∷ []) n1 2 (n0 ∷ n1 ∷ []) Added
placed_last = (none_covers_n1, λ e. omega (arith, e), refl)

placed_first : IsPlaced (n0 ∷ []) n1 2 (n1 ∷ n0 ∷ []) Added → ⊥
placed_first h = let e : 1 ≡ 0 = ap (λ (ns : List Node). location_of ns) h.2 in omega (arith, e)
  where
    location_of : List Node → ℕ
    location_of [] = 9
    location_of (n ∷ ns) = n.head.location

no_room : IsPlaced (n0 ∷ []) n1 1 (n0 ∷ []) NoRoom
no_room = (none_covers_n1, refl, refl)

added_past_the_budget : IsPlaced (n0 ∷ []) n1 1 (n0 ∷ n1 ∷ []) Added → ⊥
added_past_the_budget h = h.1 refl

no_room_below_the_budget : IsPlaced (n0 ∷ []) n1 2 (n0 ∷ []) NoRoom → ⊥
no_room_below_the_budget h = omega (arith, h.1)

-- What edges make of the members of a small forest: no cell, and one pointer variable, which is null.
use Rattle.std.proofs.Common.{◌≡◌, inl, inr, ℕ, suc, true, false, List, [], ◌∷◌, map, refl, sym, ap, subst, ◌∙◌, None}
use Rattle.std.proofs.Common.{arith}
use Rattle.std.proofs.lemmas.List.Sorted.{IsPermutation-refl}
use Rattle.fore_base.specs.Heap.{IsAlike, leaks, value_renamed}
use Rattle.fore_base.specs.declared.fault.Fault.{Fault}
use Rattle.fore_base.specs.declared.fault.Fault.TheVariants.{NullDeref, UninitDeref}
use Rattle.fore_base.specs.declared.store.CellRec.{CellRec}
use Rattle.fore_base.specs.declared.store.Store.{Store}
use Rattle.fore_base.specs.declared.store.Value.{Value}
use Rattle.fore_base.specs.declared.store.Value.TheVariants.{Null, Uninit}
use Rattle.fa_core.specs.declared.boxes.BoxDef.{BoxDef}
use Rattle.fa_core.specs.declared.faces.Face.{Face}
use Rattle.fa_core.specs.declared.forest.Forest.{Forest}
use Rattle.fa_core.specs.declared.forest.Target.{Target}
use Rattle.fa_core.specs.declared.forest.Target.TheVariants.{Null as NullTarget, Uninit as UninitTarget}
use Rattle.ta_core.specs.Auto.{automaton}
use Rattle.fa_core.specs.Dressed.{Nodes, no_nodes, more, Fact, value_in}
use Rattle.fa_core.specs.Member.{store_facts, Stands, StandsBy}
use Rattle.fa_core.specs.Rearranged.{Rearranged, empty, keep, swap, chain}
use Rattle.c_cfg.specs.Edges.{Pass, Passed, Faulted, NotPassed, gstep, raw_step}
use Rattle.c_cfg.specs.declared.graph.Edge.{Edge}
use Rattle.c_cfg.specs.declared.graph.Instr.{Instr}
use Rattle.c_cfg.specs.declared.graph.Instr.TheVariants.{LoadPtr, TestPtr, Stop}
use Rattle.c_cfg.specs.declared.graph.PtrArg.TheVariants.{Var as PtrVar, Null as PtrNull}
use Rattle.sym_core.specs.Carried.{Carries, AllGo}
use Rattle.sym_core.specs.Cases.{BadAt, AllCases, CaseOf, IsTrueBad}
use Rattle.sym_core.specs.Kept.{KeepsEdges, Keeps}

abbrev face : Face
face = record { shapes = record { structs = [] }; boxes = [] }

-- no root, and the one variable is the target
abbrev only : Target → Forest
only t = record { autos = []; vars = t ∷ []; data_vars = [] }

abbrev null_forest : Forest
null_forest = only NullTarget

abbrev store : Value → Store
store v = record { vars = v ∷ []; data_vars = []; cells = []; next = 0 }

abbrev edge : Instr → Edge
edge i = record { from = 0; to = 1; instr = i; choice = None; line = 1 }

-- if (p == NULL), its other side, p = p->field, exit
abbrev is_null : Edge
is_null = edge (TestPtr (PtrVar 0) PtrNull true)

abbrev is_not_null : Edge
is_not_null = edge (TestPtr (PtrVar 0) PtrNull false)

abbrev load : Edge
load = edge (LoadPtr 0 0 0)

abbrev exit : Edge
exit = edge (Stop false)

abbrev bad : Fault → Target → BadAt
bad k t = record { fault = k; at = only t }

-- Kinds, to tell values apart.

abbrev kind : Value → ℕ
kind Null = 0
kind v = 1

abbrev first : List Value → ℕ
first [] = 9
first (v ∷ vs) = kind v

abbrev fault_kind : Fault → ℕ
fault_kind NullDeref = 0
fault_kind k = 1

abbrev pass_kind : Pass → ℕ
pass_kind (Passed s) = 0
pass_kind p = 1

abbrev faulted : Pass → ℕ
faulted (Faulted k) = fault_kind k
faulted p = 9

abbrev passed : Pass → Store
passed (Passed s) = s
passed p = store Null

-- a null pointer is found to be null, and no cell is lost
goes_on : (s : Store) → s.vars ≡ Null ∷ [] → s.cells ≡ [] → gstep [] is_null s ≡ Passed s
unfolding leaks
goes_on s v c = rw (v, c) refl

-- The members.

abbrev long : List Fact → ℕ
long [] = 0
long (x ∷ xs) = suc (long xs)

same_long : {xs ys : List Fact} → Rearranged xs ys → long xs ≡ long ys
same_long empty = refl
same_long (keep x r) = ap (λ (n : ℕ). suc n) (same_long r)
same_long (swap x y zs) = refl
same_long (chain a b) = same_long a ∙ same_long b

no_cells : (cs : List CellRec) → long (store_facts cs) ≡ 0 → cs ≡ []
no_cells [] e = refl
no_cells (c ∷ cs) e = absurd (omega (arith, e))

module _ (T : List BoxDef) where
  -- no cells, and the variable's value
  member_cells : (t : Target) (s : Store) → Stands [] T (only t) s → s.cells ≡ []
  member_cells t s (no_nodes, h) = no_cells s.cells (sym (same_long h.same_facts))
  member_cells t s (more n d, h) = absurd h.of

  member_vars : (t : Target) (s : Store) → Stands [] T (only t) s → s.vars ≡ value_in [] t ∷ []
  member_vars t s (no_nodes, h) = h.vars
  member_vars t s (more n d, h) = absurd h.of

  null_by : StandsBy [] T null_forest no_nodes (store Null)
  null_by =
      record {
        proper = record { differ = tt; below = tt; vars = (tt, tt); fields = tt };
        fields = tt;
        of = tt;
        same_facts = empty;
        vars = refl;
        data_vars = refl;
      }

  null_stands : Stands [] T null_forest (store Null)
  null_stands = (no_nodes, null_by)

  uninit_by : StandsBy [] T (only UninitTarget) no_nodes (store Uninit)
  uninit_by =
      record {
        proper = record { differ = tt; below = tt; vars = (tt, tt); fields = tt };
        fields = tt;
        of = tt;
        same_facts = empty;
        vars = refl;
        data_vars = refl;
      }

  uninit_stands : Stands [] T (only UninitTarget) (store Uninit)
  uninit_stands = (no_nodes, uninit_by)

  -- a store with an uninitialised variable is no member where it is null, and the other way
  differ : (v w : Value) → v ∷ [] ≡ w ∷ [] → kind v ≡ kind w
  differ v w e = ap first e

  uninit_is_not_null : Stands [] T null_forest (store Uninit) → ⊥
  uninit_is_not_null h = let z : 1 ≡ 0 =
      differ Uninit Null (member_vars NullTarget (store Uninit) h) in omega (arith, z)

  null_is_not_uninit : Stands [] T (only UninitTarget) (store Null) → ⊥
  null_is_not_uninit h = let z : 0 ≡ 1 =
      differ Null Uninit (member_vars UninitTarget (store Null) h) in omega (arith, z)

  -- All cases.

  passes : (s : Store) → Stands [] T null_forest s → gstep [] is_null s ≡ Passed s
  passes s h = goes_on s (member_vars NullTarget s h) (member_cells NullTarget s h)

  faults : (s : Store) → Stands [] T null_forest s → gstep [] load s ≡ Faulted NullDeref
  faults s h = let v = member_vars NullTarget s h in rw v refl

  all_go_on : AllCases face T null_forest is_null (null_forest ∷ []) []
  all_go_on s h = let e = passes s h in rw e (null_forest, inl refl, h)

  one_is_lost : AllCases face T null_forest is_null [] [] → ⊥
  one_is_lost h = let e = passes (store Null) null_stands in (rw e at (h (store Null) null_stands)).1

  one_goes_elsewhere : AllCases face T null_forest is_null (only UninitTarget ∷ []) [] → ⊥
  one_goes_elsewhere h =
      let e = passes (store Null) null_stands in
      let w = rw e at (h (store Null) null_stands) in
      elim w.1 [
        | inl i ↦ null_is_not_uninit (subst (λ (M : Forest). Stands [] T M (store Null)) i w.2)
        | inr x ↦ x
      ]

  -- where no member passes the edge, or the run ends, there is no case
  none_passes : AllCases face T null_forest is_not_null [] []
  none_passes s h = let v = member_vars NullTarget s h in rw v tt

  the_run_ends : AllCases face T null_forest exit [] []
  the_run_ends s h = tt

  each_fault_is_met : AllCases face T null_forest load [] (bad NullDeref NullTarget ∷ [])
  each_fault_is_met s h = let e = faults s h in rw e (bad NullDeref NullTarget, inl refl, refl, h)

  fault_is_lost : AllCases face T null_forest load (null_forest ∷ []) [] → ⊥
  fault_is_lost h = (h (store Null) null_stands).1

  another_fault : AllCases face T null_forest load [] (bad UninitDeref NullTarget ∷ []) → ⊥
  another_fault h =
      let w = h (store Null) null_stands in
      elim w.1 [
        | inl i ↦ (let z : 1 ≡ 0 = ap (λ (b : BadAt). fault_kind b.fault) (sym i)
            ∙ ap fault_kind w.2 in omega (arith, z))
        | inr x ↦ x
      ]

  another_forest : AllCases face T null_forest load [] (bad NullDeref UninitTarget ∷ []) → ⊥
  another_forest h =
      let w = h (store Null) null_stands in
      elim w.1 [
        | inl i ↦ null_is_not_uninit (subst (λ (b : BadAt). Stands [] T b.at (store Null)) i w.3)
        | inr x ↦ x
      ]

  -- True cases.

  alike_self : (s : Store) → Stands [] T null_forest s → IsAlike s s
  alike_self s h =
      let v = member_vars NullTarget s h in
      let c = member_cells NullTarget s h in
      record {
        to = λ n. n;
        one_to_one = λ m n i j e. e;
        vars = rw v refl;
        data_vars = refl;
        cells = rw c (IsPermutation-refl []);
      }

  true_case : CaseOf face T null_forest is_null null_forest
  true_case u h = record { was = u; goes_to = u; stands = h; goes = passes u h; alike = alike_self u h }

  -- no member comes to a store whose variable is uninitialised
  invented : CaseOf face T null_forest is_null (only UninitTarget) → ⊥
  invented h =
      let w = h (store Uninit) uninit_stands in
      let same : w.was ≡ w.goes_to = ap passed (sym (passes w.was w.stands) ∙ w.goes) in
      let v : w.goes_to.vars ≡ Null ∷ [] =
      ap (λ (s : Store). s.vars) (sym same) ∙ member_vars NullTarget w.was w.stands in
      let z : 1 ≡ 0 = ap first (w.alike.vars ∙ ap (λ (vs : List Value). map (value_renamed w.alike.to) vs) v) in
      omega (arith, z)

  -- nor does one come where none passes
  none_comes : CaseOf face T null_forest is_not_null null_forest → ⊥
  none_comes h =
      let w = h (store Null) null_stands in
      let v = member_vars NullTarget w.was w.stands in
      let stays : gstep [] is_not_null w.was ≡ NotPassed = rw v refl in
      let z : 1 ≡ 0 = ap pass_kind (sym stays ∙ w.goes) in
      omega (arith, z)

  -- True faults.

  true_fault : IsTrueBad face T null_forest load (bad NullDeref NullTarget)
  true_fault s h = (h, faults s h)

  untrue_fault : IsTrueBad face T null_forest load (bad UninitDeref NullTarget) → ⊥
  untrue_fault h =
      let z : 0 ≡ 1 = ap faulted (sym (faults (store Null) null_stands) ∙ (h (store Null) null_stands).1) in
      omega (arith, z)

  -- the members of a Bad are members of the forest before the edge
  not_of_the_forest : IsTrueBad face T null_forest load (bad UninitDeref UninitTarget) → ⊥
  not_of_the_forest h = uninit_is_not_null (h (store Uninit) uninit_stands).0

  -- Kept: each dressed forest behind the edge comes from one before it.

  no_edges : (t : Target) (d : Nodes) (s : Store) (to : ℕ → ℕ) (i : Instr) → StandsBy [] T (only t) d s
      → KeepsEdges [] i s to d d
  no_edges t no_nodes s to i m = λ c j. absurd j
  no_edges t (more n d) s to i m = absurd m.of

  null_kept : Keeps face T null_forest is_null null_forest
  null_kept d u m =
      record {
        dressed = d;
        was = u;
        goes_to = u;
        stands = m;
        goes = passes u (d, m);
        alike = alike_self u (d, m);
        edges = no_edges NullTarget d u (alike_self u (d, m)).to is_null.instr m;
      }

  not_kept : Keeps face T null_forest is_null (only UninitTarget) → ⊥
  not_kept h =
      let w = h no_nodes (store Uninit) uninit_by in
      let same : w.was ≡ w.goes_to = ap passed (sym (passes w.was (w.dressed, w.stands)) ∙ w.goes) in
      let v : w.goes_to.vars ≡ Null ∷ [] =
      ap (λ (s : Store). s.vars) (sym same) ∙ member_vars NullTarget w.was (w.dressed, w.stands) in
      let z : 1 ≡ 0 = ap first (w.alike.vars ∙ ap (λ (vs : List Value). map (value_renamed w.alike.to) vs) v) in
      omega (arith, z)

  -- Carried: what an edit makes of the members, before the leak test.

  abbrev test : Instr
  test = TestPtr (PtrVar 0) PtrNull true

  raw_passes : (s : Store) → Stands [] T null_forest s → raw_step [] test 0 s ≡ Passed s
  raw_passes s h = let v = member_vars NullTarget s h in rw v refl

  null_carried : Carries face T null_forest null_forest test 0
  null_carried =
      record {
        forth = λ s h. record { next = s; goes = raw_passes s h; stands = h };
        back = λ d u m. record {
          dressed = d;
          was = u;
          goes_to = u;
          stands = m;
          goes = raw_passes u (d, m);
          into = (d, m);
          alike = alike_self u (d, m);
          edges = no_edges NullTarget d u (alike_self u (d, m)).to test m;
        };
      }

  -- a member that goes elsewhere is lost
  carried_elsewhere : Carries face T null_forest (only UninitTarget) test 0 → ⊥
  carried_elsewhere h =
      let g = h.forth (store Null) null_stands in
      let same : store Null ≡ g.next = ap passed (sym (raw_passes (store Null) null_stands) ∙ g.goes) in
      null_is_not_uninit (subst (λ (s : Store). Stands [] T (only UninitTarget) s) (sym same) g.stands)

  -- and none comes from one that goes elsewhere
  comes_from_elsewhere : Carries face T null_forest (only UninitTarget) test 0 → ⊥
  comes_from_elsewhere h =
      let c = h.back no_nodes (store Uninit) uninit_by in
      let same : c.was ≡ c.goes_to = ap passed (sym (raw_passes c.was (c.dressed, c.stands)) ∙ c.goes) in
      let v : c.goes_to.vars ≡ Null ∷ [] =
      ap (λ (s : Store). s.vars) (sym same) ∙ member_vars NullTarget c.was (c.dressed, c.stands) in
      let z : 1 ≡ 0 = ap first (c.alike.vars ∙ ap (λ (vs : List Value). map (value_renamed c.alike.to) vs) v) in
      omega (arith, z)

  -- a forest without members: its one component has no tree
  abbrev no_members : Forest
  no_members = record { autos = automaton 0 [] [] ∷ []; vars = NullTarget ∷ []; data_vars = [] }

  none_stands : (d : Nodes) (s : Store) → StandsBy [] T no_members d s → ⊥
  none_stands no_nodes s m = m.of
  none_stands (more n d) s m = m.of.0.1

  -- where none is before the edit, none is behind it
  invented_by_an_edit : Carries face T no_members null_forest test 0 → ⊥
  invented_by_an_edit h =
      let c = h.back no_nodes (store Null) null_by in
      none_stands c.dressed c.was c.stands

  -- each member meets the one outcome
  all_fault : AllGo face T null_forest (LoadPtr 0 0 0) 0 (Faulted NullDeref)
  all_fault s h = let v = member_vars NullTarget s h in rw v refl

  not_all_stay : AllGo face T null_forest (LoadPtr 0 0 0) 0 NotPassed → ⊥
  not_all_stay h =
      let z : 0 ≡ 9 = ap faulted (sym (all_fault (store Null) null_stands) ∙ h (store Null) null_stands) in
      omega (arith, z)

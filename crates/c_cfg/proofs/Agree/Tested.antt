-- The edges of a comparison: its loads, the two edges of the test, and the Kill on each side.
use Rattle.std.proofs.Common.{◌≡◌, ◌+◌, ℕ, Bool, true, false, ◌&&◌, Result, Ok, Err, List, [], ◌++◌, length, refl, sym}
use Rattle.std.proofs.Common.{ap, ◌∙◌, Some}
use Rattle.std.proofs.lemmas.Bool.{and_parts}
use Rattle.fore_base.specs.declared.fault.Fault.{Fault}
use Rattle.fore_base.specs.declared.store.Value.{Value}
use Rattle.fore_base.specs.declared.store.Value.TheVariants.{Null, Uninit}
use Rattle.fore_base.specs.declared.store.Datum.{Datum}
use Rattle.fore_base.specs.declared.store.Datum.TheVariants.{Undefined, Known}
use Rattle.fore_base.specs.declared.store.Store.{Store}
use Rattle.fore_base.specs.Stores.{onward}
use Rattle.fore_base.specs.Heap.{leaks}
use Rattle.c_types.specs.declared.program.PtrOp.{PtrOp}
use Rattle.c_types.specs.declared.program.PtrOp.TheVariants.{Path as OpPath, Null as OpNull}
use Rattle.c_types.specs.declared.program.DataOp.{DataOp}
use Rattle.c_types.specs.declared.program.DataOp.TheVariants.{Path as DataOpPath, Known as DataOpKnown}
use Rattle.c_types.specs.Program.{Program, path_target, data_op_typed, ops_typed}
use Rattle.c_types.specs.Steps.{read_op, read_data_op, same_values, same_datums}
use Rattle.c_types.proofs.Fitting.{path_leads, Sound}
use Rattle.c_types.proofs.StepLaws.{some_target, agreed}
use Rattle.c_cfg.specs.declared.graph.Instr.{Instr}
use Rattle.c_cfg.specs.Edges.{Pass, Passed, Faulted, onto, if_agreed, arg_of, data_arg_of, raw_step}
use Rattle.c_cfg.specs.Links.{Link, op_loads, op_arg, op_used, data_op_loads, data_op_arg, op_base_used, op_data_used}
use Rattle.c_cfg.specs.Links.{ptr_loads, ptr_test, ptr_ends, cmp_loads, data_test, data_ends}
use Rattle.c_cfg.proofs.Agree.Temporaries.{ext, ext0, Sized}
use Rattle.c_cfg.proofs.Agree.TempLeaks.{hidden}
use Rattle.c_cfg.proofs.Agree.Passing.{then_pass, links_pass, links_append, then_onto, onto_same, ends_pass}
use Rattle.c_cfg.proofs.Agree.Reading.{sound_sized, Slot, first_slot, second_slot, path_read, path_held, datum_read}
use Rattle.c_cfg.proofs.Agree.Reading.{datum_held}
use Rattle.c_cfg.proofs.Agree.Dying.{all_cleared, op_held, op_base_held, op_data_held, op_cleared, op_base_cleared}
use Rattle.c_cfg.proofs.Agree.Dying.{op_data_cleared}

-- a comparison's links on a store between the steps: a fault when the operands are read, or both edges of the test on
-- the store that was read
pub data Tests (p : Program) (choice : ℕ) (s : Store) (loads : List Link) (test : Bool → Instr) (ends : List Link)
    (compared : Result Bool Fault) : Type 0 where
  faults : (k : Fault) → links_pass p.shapes.structs choice loads (ext0 s) ≡ Faulted k → compared ≡ Err k
      → Tests p choice s loads test ends compared
  compares : (g : Store) → links_pass p.shapes.structs choice loads (ext0 s) ≡ Passed g → leaks g ≡ false
      → ((b : Bool) → raw_step p.shapes.structs (test b) 0 g ≡ onto compared (λ same. if_agreed b same g))
      → links_pass p.shapes.structs choice ends g ≡ Passed (ext0 s) → Tests p choice s loads test ends compared

module _ (p : Program) (choice : ℕ) (s : Store) where
  abbrev pass : List Link → Store → Pass
  pass ls g = links_pass p.shapes.structs choice ls g

  -- from what the loads give, for pointers and for data
  module _ {V : Type 0} (rl rr : Result V Fault) (G : V → V → Store) (same : V → V → Result Bool Fault)
      (loads : List Link) (test : Bool → Instr) (ends : List Link)
      (all : pass loads (ext0 s) ≡ onto rl (λ v. onto rr (λ w. Passed (G v w))))
      (sound : (v w : V) → leaks (G v w) ≡ false)
      (tests : (v w : V) → rl ≡ Ok v → rr ≡ Ok w → (b : Bool) → raw_step p.shapes.structs (test b) 0 (G v w)
      ≡ onto (same v w) (λ e. if_agreed b e (G v w)))
      (ended : (v w : V) → pass ends (G v w) ≡ Passed (ext0 s)) where
    both_read : Tests p choice s loads test ends (onward rl (λ v. onward rr (λ w. same v w)))
    both_read = here rl rr refl refl
      where
        here : (a b : Result V Fault) → rl ≡ a → rr ≡ b
            → Tests p choice s loads test ends (onward rl (λ v. onward rr (λ w. same v w)))
        here (Err k) b isl isr =
            faults k (all ∙ ap (λ a. onto a (λ v. onto rr (λ w. Passed (G v w)))) isl)
            (ap (λ a. onward a (λ v. onward rr (λ w. same v w))) isl)
        here (Ok v) (Err k) isl isr =
            faults k (all ∙ ap (λ a. onto a (λ v. onto rr (λ w. Passed (G v w)))) isl
            ∙ ap (λ b. onto b (λ w. Passed (G v w))) isr)
            (ap (λ a. onward a (λ v. onward rr (λ w. same v w))) isl ∙ ap (λ b. onward b (λ w. same v w)) isr)
        here (Ok v) (Ok w) isl isr =
            let is : onward rl (λ v. onward rr (λ w. same v w)) ≡ same v w =
            ap (λ a. onward a (λ v. onward rr (λ w. same v w))) isl ∙ ap (λ b. onward b (λ w. same v w)) isr in
            compares (G v w) (all ∙ ap (λ a. onto a (λ v. onto rr (λ w. Passed (G v w)))) isl
            ∙ ap (λ b. onto b (λ w. Passed (G v w))) isr) (sound v w)
            (λ b. tests v w isl isr b ∙ ap (λ r. onto r (λ e. if_agreed b e (G v w))) (sym is)) (ended v w)

module _ (p : Program) (choice : ℕ) (s : Store) (sound : Sound p s) (whole : leaks s ≡ false) where
  abbrev nv : ℕ
  nv = length p.vars

  abbrev nd : ℕ
  nd = length p.data_vars

  abbrev links : List Link → Store → Pass
  links ls g = links_pass p.shapes.structs choice ls g

  size : Sized nv nd s
  size = sound_sized p s sound

  slot0 : (y : Value) (e : Datum) → Slot nv nd s nv nd (λ v d. ext s v y d e)
  slot0 y e = first_slot nv nd s size y e (λ v d. hidden s v y d e whole)

  slot1 : (x : Value) (d : Datum) → Slot nv nd s (nv + 1) (nd + 1) (λ v e. ext s x v d e)
  slot1 x d = second_slot nv nd s size x d (λ v e. hidden s x v d e whole)

  -- Pointers

  abbrev OpLeads : PtrOp → Type 0
  OpLeads (OpPath q) = (t : ℕ) × (path_target p.shapes.structs p.vars (length p.data_vars) q ≡ Some t)
  OpLeads OpNull = Unit {0}

  op_read : (t d : ℕ) (put : Value → Datum → Store) → Slot nv nd s t d put → (e : Datum) (q : PtrOp) → OpLeads q
      → links (op_loads t q) (put Uninit e) ≡ onto (read_op s q) (λ v. Passed (put (op_held q v) e))
  op_read t d put slot e (OpPath q) some =
      path_read p s sound choice t d put slot e q some.0 (path_leads p q some.0 some.1)
  op_read t d put slot e OpNull some = refl

  op_holds : (t d : ℕ) (put : Value → Datum → Store) → Slot nv nd s t d put → (e : Datum) (q : PtrOp) → OpLeads q
      → (v : Value) → read_op s q ≡ Ok v → arg_of (put (op_held q v) e) (op_arg t q) ≡ v
  op_holds t d put slot e (OpPath q) some v got =
      path_held p s sound choice t d put slot e q some.0 v e (path_leads p q some.0 some.1) got
  op_holds t d put slot e OpNull some v got = let same : Null ≡ v = cc in same

  both_lead : (l r : PtrOp) → ops_typed p.shapes.structs p.vars (length p.data_vars) l r ≡ true → OpLeads l × OpLeads r
  both_lead (OpPath q) (OpPath r) typed =
      let both = agreed (path_target p.shapes.structs p.vars (length p.data_vars) q)
      (path_target p.shapes.structs p.vars (length p.data_vars) r) typed in ((both.0, both.1), (both.0, both.2))
  both_lead (OpPath q) OpNull typed = (some_target _ typed, tt)
  both_lead OpNull (OpPath r) typed = (tt, some_target _ typed)
  both_lead OpNull OpNull typed = (tt, tt)

  ptr_read : (l r : PtrOp) → OpLeads l → OpLeads r → links (ptr_loads nv nd l r) (ext0 s)
      ≡ onto (read_op s l)
      (λ v. onto (read_op s r) (λ w. Passed (ext s (op_held l v) (op_held r w) Undefined Undefined)))
  ptr_read l r left right =
      links_append p.shapes.structs choice (op_loads nv l) (op_loads (nv + 1) r) (ext0 s)
      ∙ ap (λ z. then_pass z (λ g. links (op_loads (nv + 1) r) g))
      (op_read nv nd (λ v d. ext s v Uninit d Undefined) (slot0 Uninit Undefined) Undefined l left)
      ∙ then_onto (read_op s l) (λ v. ext s (op_held l v) Uninit Undefined Undefined)
      (λ g. links (op_loads (nv + 1) r) g)
      ∙ onto_same (read_op s l) (λ v. links (op_loads (nv + 1) r) (ext s (op_held l v) Uninit Undefined Undefined))
      (λ v. onto (read_op s r) (λ w. Passed (ext s (op_held l v) (op_held r w) Undefined Undefined)))
      (λ v got. op_read (nv + 1) (nd + 1) (λ w e. ext s (op_held l v) w Undefined e) (slot1 (op_held l v) Undefined)
      Undefined r right)

  pub ptr_tests : (l r : PtrOp) → ops_typed p.shapes.structs p.vars (length p.data_vars) l r ≡ true
      → Tests p choice s (ptr_loads nv nd l r) (ptr_test nv nd l r) (ptr_ends nv nd l r)
      (onward (read_op s l) (λ v. onward (read_op s r) (λ w. same_values v w)))
  ptr_tests l r typed =
      let lead : OpLeads l × OpLeads r = both_lead l r typed in
      both_read p choice s (read_op s l) (read_op s r) (λ v w. ext s (op_held l v) (op_held r w) Undefined Undefined)
      same_values (ptr_loads nv nd l r) (ptr_test nv nd l r) (ptr_ends nv nd l r)
      (ptr_read l r lead.0 lead.1) (λ v w. hidden s (op_held l v) (op_held r w) Undefined Undefined whole)
      (λ v w gotl gotr b.
      rw (
        op_holds nv nd (λ v d. ext s v (op_held r w) d Undefined) (slot0 (op_held r w) Undefined) Undefined l lead.0
            v gotl,
        op_holds (nv + 1) (nd + 1) (λ w e. ext s (op_held l v) w Undefined e) (slot1 (op_held l v) Undefined)
            Undefined r lead.1 w gotr,
      ) refl)
      (λ v w. ends_pass p.shapes.structs choice (op_used nv l ++ op_used (nv + 1) r) [] s
      (ext s (op_held l v) (op_held r w) Undefined Undefined)
      (all_cleared nv nd s size (op_held l v) (op_held r w) Undefined Undefined (op_used nv l) (op_used (nv + 1) r) []
      [] (op_used nv l ++ op_used (nv + 1) r) [] refl refl (op_cleared nv l v) (op_cleared (nv + 1) r w) refl refl)
      whole)

  -- Data

  datum_op_read : (t d : ℕ) (put : Value → Datum → Store) → Slot nv nd s t d put → (q : DataOp)
      → data_op_typed p.shapes.structs p.vars (length p.data_vars) q ≡ true
      → links (data_op_loads t d q) (put Uninit Undefined)
      ≡ onto (read_data_op s q) (λ k. Passed (put (op_base_held s q) (op_data_held q k)))
  datum_op_read t d put slot (DataOpPath q) typed = datum_read p s sound choice t d put slot q typed
  datum_op_read t d put slot (DataOpKnown k) typed = refl

  datum_op_holds : (t d : ℕ) (put : Value → Datum → Store) → Slot nv nd s t d put → (q : DataOp)
      → data_op_typed p.shapes.structs p.vars (length p.data_vars) q ≡ true → (k : Datum) → read_data_op s q ≡ Ok k
      → data_arg_of (put (op_base_held s q) (op_data_held q k)) (data_op_arg d q) ≡ k
  datum_op_holds t d put slot (DataOpPath q) typed k got = datum_held p s sound choice t d put slot q k typed got
  datum_op_holds t d put slot (DataOpKnown n) typed k got = let same : Known n ≡ k = cc in same

  data_read : (l r : DataOp) → data_op_typed p.shapes.structs p.vars (length p.data_vars) l ≡ true
      → data_op_typed p.shapes.structs p.vars (length p.data_vars) r ≡ true
      → links (cmp_loads nv nd l r) (ext0 s)
      ≡ onto (read_data_op s l)
      (λ v. onto (read_data_op s r)
      (λ w. Passed (ext s (op_base_held s l) (op_base_held s r) (op_data_held l v) (op_data_held r w))))
  data_read l r left right =
      links_append p.shapes.structs choice (data_op_loads nv nd l) (data_op_loads (nv + 1) (nd + 1) r) (ext0 s)
      ∙ ap (λ z. then_pass z (λ g. links (data_op_loads (nv + 1) (nd + 1) r) g))
      (datum_op_read nv nd (λ v d. ext s v Uninit d Undefined) (slot0 Uninit Undefined) l left)
      ∙ then_onto (read_data_op s l) (λ k. ext s (op_base_held s l) Uninit (op_data_held l k) Undefined)
      (λ g. links (data_op_loads (nv + 1) (nd + 1) r) g)
      ∙ onto_same (read_data_op s l)
      (λ k. links (data_op_loads (nv + 1) (nd + 1) r)
      (ext s (op_base_held s l) Uninit (op_data_held l k) Undefined))
      (λ k. onto (read_data_op s r)
      (λ w. Passed (ext s (op_base_held s l) (op_base_held s r) (op_data_held l k) (op_data_held r w))))
      (λ k got. datum_op_read (nv + 1) (nd + 1) (λ w e. ext s (op_base_held s l) w (op_data_held l k) e)
      (slot1 (op_base_held s l) (op_data_held l k)) r right)

  pub data_tests : (l r : DataOp)
      → (data_op_typed p.shapes.structs p.vars (length p.data_vars) l
      && data_op_typed p.shapes.structs p.vars (length p.data_vars) r) ≡ true
      → Tests p choice s (cmp_loads nv nd l r) (data_test nv nd l r) (data_ends nv nd l r)
      (onward (read_data_op s l) (λ v. onward (read_data_op s r) (λ w. same_datums v w)))
  data_tests l r typed =
      let both = and_parts (data_op_typed p.shapes.structs p.vars (length p.data_vars) l)
      (data_op_typed p.shapes.structs p.vars (length p.data_vars) r) typed in
      let x : Value = op_base_held s l in
      let y : Value = op_base_held s r in
      both_read p choice s (read_data_op s l) (read_data_op s r)
      (λ v w. ext s x y (op_data_held l v) (op_data_held r w)) same_datums (cmp_loads nv nd l r)
      (data_test nv nd l r) (data_ends nv nd l r)
      (data_read l r both.0 both.1) (λ v w. hidden s x y (op_data_held l v) (op_data_held r w) whole)
      (λ v w gotl gotr b.
      rw (
        datum_op_holds nv nd (λ v d. ext s v y d (op_data_held r w)) (slot0 y (op_data_held r w)) l both.0 v gotl,
        datum_op_holds (nv + 1) (nd + 1) (λ z e. ext s x z (op_data_held l v) e) (slot1 x (op_data_held l v)) r both.1
            w gotr,
      ) refl)
      (λ v w. ends_pass p.shapes.structs choice (op_base_used nv l ++ op_base_used (nv + 1) r)
      (op_data_used nd l ++ op_data_used (nd + 1) r) s (ext s x y (op_data_held l v) (op_data_held r w))
      (all_cleared nv nd s size x y (op_data_held l v) (op_data_held r w) (op_base_used nv l) (op_base_used (nv + 1) r)
      (op_data_used nd l) (op_data_used (nd + 1) r)
      (op_base_used nv l ++ op_base_used (nv + 1) r) (op_data_used nd l ++ op_data_used (nd + 1) r) refl refl
      (op_base_cleared nv s l) (op_base_cleared (nv + 1) s r) (op_data_cleared nd l v) (op_data_cleared (nd + 1) r w))
      whole)

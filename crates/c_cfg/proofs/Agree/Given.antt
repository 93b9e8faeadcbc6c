-- The edges that give a variable what an operand is do what the program does, p0 holding anything before.
use Rattle.std.proofs.Common.{◌≡◌, ◌<◌, ℕ, true, false, true≢false, nat_lt, Option, Result, Ok, Err, List, [], ◌∷◌}
use Rattle.std.proofs.Common.{◌++◌, length, refl, sym, ap, ◌∙◌}
use Rattle.std.proofs.lemmas.Bool.{and_parts, ltb-true}
use Rattle.fore_base.specs.declared.fault.Fault.{Fault}
use Rattle.fore_base.specs.declared.store.Value.{Value}
use Rattle.fore_base.specs.declared.store.Value.TheVariants.{Null, Uninit}
use Rattle.fore_base.specs.declared.store.Datum.{Datum}
use Rattle.fore_base.specs.declared.store.Datum.TheVariants.{Undefined, Known}
use Rattle.fore_base.specs.declared.store.Store.{Store}
use Rattle.fore_base.specs.Stores.{onward, var_of, datum_of, set_var, set_datum, load, load_datum, walk}
use Rattle.fore_base.specs.Heap.{leaks}
use Rattle.c_types.specs.declared.program.Path.{Path}
use Rattle.c_types.specs.declared.program.DataPath.TheVariants.{Var as DataVar, Field as DataField}
use Rattle.c_types.specs.declared.program.PtrOp.TheVariants.{Path as OpPath, Null as OpNull}
use Rattle.c_types.specs.declared.program.DataOp.{DataOp}
use Rattle.c_types.specs.declared.program.DataOp.TheVariants.{Path as DataOpPath, Known as DataOpKnown}
use Rattle.c_types.specs.declared.program.VarRef.{VarRef}
use Rattle.c_types.specs.declared.program.VarRef.TheVariants.{Ptr as PtrRef, Data as DataRef}
use Rattle.c_types.specs.declared.program.Arg.{Arg}
use Rattle.c_types.specs.declared.program.Arg.TheVariants.{Ptr as GivenPtr, Data as GivenData}
use Rattle.c_types.specs.Program.{Program, path_target, data_op_typed, arg_typed}
use Rattle.c_types.specs.Fits.{PointsTo}
use Rattle.c_types.specs.Steps.{read, read_data_op, give}
use Rattle.c_types.proofs.Fitting.{Gives, always, onward_gives, PathLeads, path_leads, Sound, path_sound}
use Rattle.c_types.proofs.Fitting.{set_datum_sound, read_gives}
use Rattle.c_types.proofs.StepLaws.{some_target, agreed}
use Rattle.c_cfg.specs.declared.graph.PtrArg.TheVariants.{Var as PtrVar, Null as PtrNull}
use Rattle.c_cfg.specs.declared.graph.DataArg.TheVariants.{Var as ArgVar, Known as ArgKnown}
use Rattle.c_cfg.specs.declared.graph.Instr.{Instr}
use Rattle.c_cfg.specs.declared.graph.Instr.TheVariants.{CopyPtr, LoadPtr, CopyData, LoadData}
use Rattle.c_cfg.specs.Edges.{Pass, Passed, onto, raw_step, leak_tested}
use Rattle.c_cfg.specs.Links.{Link, One, loads, holder, give_path, give_datum, give_links}
use Rattle.c_cfg.proofs.Agree.Temporaries.{ext, Sized, var_ext, datum_ext, set_ext, set_datum_ext}
use Rattle.c_cfg.proofs.Agree.TempLeaks.{hidden}
use Rattle.c_cfg.proofs.Agree.Passing.{then_pass, links_pass, onto_same, onto_onward, onward_onward}
use Rattle.c_cfg.proofs.Agree.Arrows.{before_last, last_of, loads_are, walk_before, LastLeads, last_leads}
use Rattle.c_cfg.proofs.Agree.OneEdges.{load_raw, load_datum_raw}
use Rattle.c_cfg.proofs.Agree.Reading.{path_less, sound_sized, Slot, first_slot, held_or, value_of, FieldTyped}
use Rattle.c_cfg.proofs.Agree.Reading.{field_typed, data_var_less, read_points, path_from, held_from}
use Rattle.c_cfg.proofs.Agree.PointerRows.{append_on}

-- what may meet a fault, and then an edge's leak test
pub tested_onto : {A : Type 0} (r : Result A Fault) (f : A → Store) (k : Store → Pass)
    → then_pass (leak_tested (onto r (λ a. Passed (f a)))) k ≡ onto r (λ a. then_pass (leak_tested (Passed (f a))) k)
tested_onto (Ok a) f k = refl
tested_onto (Err e) f k = refl

-- the path of a variable alone
abbrev pub bare : ℕ → Path
bare x = record { var = x; fields = [] }

module _ (p : Program) where
  abbrev nv : ℕ
  nv = length p.vars

  abbrev nd : ℕ
  nd = length p.data_vars

  abbrev target : Path → Option ℕ
  target q = path_target p.shapes.structs p.vars (length p.data_vars) q

  abbrev pub ArgFits : VarRef → Arg → Type 0
  ArgFits v a = arg_typed p.shapes.structs p.vars (length p.data_vars) v a ≡ true

  -- a store that fits still does when a variable was given a value

  pub give_sound : (s : Store) (v : VarRef) (a : Arg) → ArgFits v a → Sound p s → Gives (Sound p) (give s v a)
  give_sound s (PtrRef x) (GivenPtr (OpPath q)) e sound =
      let both = agreed (target (bare x)) (target q) e in
      onward_gives (PointsTo s.cells both.0) (Sound p) (read s q) (λ w. Ok (set_var s x w))
      (read_gives p s q both.0 sound (path_leads p q both.0 both.2))
      (λ w points. path_sound p s (bare x) both.0 w sound (path_leads p (bare x) both.0 both.1) points)
  give_sound s (PtrRef x) (GivenPtr OpNull) e sound =
      let some = some_target (target (bare x)) e in
      path_sound p s (bare x) some.0 Null sound (path_leads p (bare x) some.0 some.1) tt
  give_sound s (PtrRef x) (GivenData a) e sound = sound
  give_sound s (DataRef x) (GivenPtr a) e sound = sound
  give_sound s (DataRef x) (GivenData a) e sound =
      onward_gives (λ d. Unit {0}) (Sound p) (read_data_op s a) (λ d. Ok (set_datum s x d)) (always (read_data_op s a))
      (λ d this. set_datum_sound p s x d sound)

  module _ (choice : ℕ) where
    abbrev pub pass : List Link → Store → Pass
    pass ls g = links_pass p.shapes.structs choice ls g

    -- on from the store t, p0 holding v
    abbrev pub on_from : List Link → Store → Value → Pass
    on_from rest t v = then_pass (leak_tested (Passed (ext t v Uninit Undefined Undefined))) (λ g. pass rest g)

    module _ (s : Store) (sound : Sound p s) (whole : leaks s ≡ false) (z : Value) where
      size : Sized nv nd s
      size = sound_sized p s sound

      abbrev put : Value → Datum → Store
      put v d = ext s v Uninit d Undefined

      slot : Slot nv nd s nv nd (λ v d. ext s v Uninit d Undefined)
      slot = first_slot nv nd s size Uninit Undefined (λ v d. hidden s v Uninit d Undefined whole)

      abbrev path_of : ℕ → List ℕ → Path
      path_of y fs = record { var = y; fields = fs }

      -- what p0 holds then

      abbrev pub path_leaves : ℕ → List ℕ → Value
      path_leaves y [] = z
      path_leaves y (f ∷ fs) = held_or z (before_last f fs) (value_of (walk s (var_of s y) (before_last f fs)))

      abbrev pub datum_leaves : DataOp → Value
      datum_leaves (DataOpPath (DataVar y)) = z
      datum_leaves (DataOpPath (DataField base f)) = held_or z base.fields (value_of (read s base))
      datum_leaves (DataOpKnown k) = z

      abbrev pub leaves : Arg → Value
      leaves (GivenPtr (OpPath q)) = path_leaves q.var q.fields
      leaves (GivenPtr OpNull) = z
      leaves (GivenData a) = datum_leaves a

      -- an edge that sets a variable

      one_set : (i : Instr) (t : Store) (rest : List Link) → raw_step p.shapes.structs i 0 (put z Undefined)
          ≡ Passed (ext t z Uninit Undefined Undefined) → pass (One i ∷ rest) (put z Undefined) ≡ on_from rest t z
      one_set i t rest is = ap (λ r. then_pass (leak_tested r) (λ g. pass rest g)) is

      var_sets : (x : ℕ) (v w : Value) → x < nv
          → set_var (ext s w Uninit Undefined Undefined) x v ≡ ext (set_var s x v) w Uninit Undefined Undefined
      var_sets x v w less = set_ext nv nd s size w Uninit Undefined Undefined x v less

      path_given : (x : ℕ) → x < nv → (y : ℕ) (fs : List ℕ) (u : ℕ) → PathLeads p (record { var = y; fields = fs }) u
          → (rest : List Link) → pass (give_path nv nd x y fs ++ rest) (put z Undefined)
          ≡ onto (onward (read s (path_of y fs)) (λ v. Ok (set_var s x v))) (λ t. on_from rest t (path_leaves y fs))
      path_given x less y [] u path rest =
          one_set (CopyPtr x (PtrVar y)) (set_var s x (var_of s y)) rest
          (ap (λ v. Passed (set_var (put z Undefined) x v))
          (var_ext nv nd s size z Uninit Undefined Undefined y (path_less p (path_of y []) u path))
          ∙ ap Passed (var_sets x (var_of s y) z less))
      path_given x less y (f ∷ fs) u path rest =
          let bs : List ℕ = before_last f fs in
          let l : ℕ = last_of f fs in
          let on : LastLeads p.shapes.structs path.first f fs u =
          last_leads p.shapes.structs path.first f fs u path.leads_on in
          let before : PathLeads p (record { var = y; fields = before_last f fs }) on.struct =
          record { first = path.first; is_var = path.is_var; leads_on = on.before } in
          let last : ℕ → ℕ → Instr = λ b g. LoadPtr x b g in
          let h : ℕ = holder nv y bs in
          let got_then : (w v : Value) → Pass = λ w v. on_from rest (set_var s x v) w in
          ap (λ ls. pass (ls ++ rest) (put z Undefined)) (loads_are nv y f fs last)
          ∙ ap (λ ls. pass ls (put z Undefined)) (append_on (loads nv y bs) (One (last h l)) rest)
          ∙ path_from p s sound choice nv nd (λ v d. ext s v Uninit d Undefined) slot Undefined z (path_of y bs)
          on.struct before (One (last h l) ∷ rest)
          ∙ onto_same (walk s (var_of s y) bs)
          (λ w. pass (One (last h l) ∷ rest) (ext s (held_or z bs w) Uninit Undefined Undefined))
          (λ w. onto (onward (load s w l) (λ v. Ok (set_var s x v))) (λ t. on_from rest t (path_leaves y (f ∷ fs))))
          (λ w got.
          ap (λ r. then_pass (leak_tested r) (λ g. pass rest g))
          (load_raw p s sound (ext s (held_or z bs w) Uninit Undefined Undefined) refl x h l on.struct u w
          (held_from p s sound choice nv nd (λ v d. ext s v Uninit d Undefined) slot Undefined z (path_of y bs)
          on.struct w Undefined before got) (read_points p s sound choice (path_of y bs) on.struct w before got) on.last
          ∙ onto_same (load s w l) (λ v. Passed (set_var (ext s (held_or z bs w) Uninit Undefined Undefined) x v))
          (λ v. Passed (ext (set_var s x v) (held_or z bs w) Uninit Undefined Undefined))
          (λ v this. ap Passed (var_sets x v (held_or z bs w) less)))
          ∙ tested_onto (load s w l) (λ v. ext (set_var s x v) (held_or z bs w) Uninit Undefined Undefined)
          (λ g. pass rest g)
          ∙ ap (λ r. onto (load s w l) (got_then (held_or z bs (value_of r)))) (sym got)
          ∙ sym (onto_onward (load s w l) (λ v. Ok (set_var s x v)) (λ t. on_from rest t (path_leaves y (f ∷ fs)))))
          ∙ sym
          (onto_onward (walk s (var_of s y) bs) (λ w. onward (load s w l) (λ v. Ok (set_var s x v)))
          (λ t. on_from rest t (path_leaves y (f ∷ fs))))
          ∙ ap (λ r. onto r (λ t. on_from rest t (path_leaves y (f ∷ fs))))
          (sym (onward_onward (walk s (var_of s y) bs) (λ w. load s w l) (λ v. Ok (set_var s x v))))
          ∙ ap (λ r. onto (onward r (λ v. Ok (set_var s x v))) (λ t. on_from rest t (path_leaves y (f ∷ fs))))
          (sym (walk_before s (var_of s y) f fs))

      datum_given : (x : ℕ) → x < nd → (a : DataOp)
          → data_op_typed p.shapes.structs p.vars (length p.data_vars) a ≡ true → (rest : List Link)
          → pass (give_datum nv nd x a ++ rest) (put z Undefined)
          ≡ onto (onward (read_data_op s a) (λ d. Ok (set_datum s x d))) (λ t. on_from rest t (datum_leaves a))
      datum_given x less (DataOpPath (DataVar y)) typed rest =
          one_set (CopyData x (ArgVar y)) (set_datum s x (datum_of s y)) rest
          (ap (λ d. Passed (set_datum (put z Undefined) x d))
          (datum_ext nv nd s size z Uninit Undefined Undefined y (data_var_less p y typed))
          ∙ ap Passed (set_datum_ext nv nd s size z Uninit Undefined Undefined x (datum_of s y) less))
      datum_given x less (DataOpKnown k) typed rest =
          one_set (CopyData x (ArgKnown k)) (set_datum s x (Known k)) rest
          (ap Passed (set_datum_ext nv nd s size z Uninit Undefined Undefined x (Known k) less))
      datum_given x less (DataOpPath (DataField base f)) typed rest =
          let this : FieldTyped p base f = field_typed p base f typed in
          let h : ℕ = holder nv base.var base.fields in
          let end : Value = datum_leaves (DataOpPath (DataField base f)) in
          let got_then : Value → Datum → Pass = λ w d. on_from rest (set_datum s x d) w in
          ap (λ ls. pass ls (put z Undefined)) (append_on (loads nv base.var base.fields) (One (LoadData x h f)) rest)
          ∙ path_from p s sound choice nv nd (λ v d. ext s v Uninit d Undefined) slot Undefined z base this.struct
          this.leads (One (LoadData x h f) ∷ rest)
          ∙ onto_same (read s base)
          (λ w. pass (One (LoadData x h f) ∷ rest) (ext s (held_or z base.fields w) Uninit Undefined Undefined))
          (λ w. onto (onward (load_datum s w f) (λ d. Ok (set_datum s x d)))
          (λ t. on_from rest t (datum_leaves (DataOpPath (DataField base f)))))
          (λ w got.
          ap (λ r. then_pass (leak_tested r) (λ g. pass rest g))
          (load_datum_raw p s sound (ext s (held_or z base.fields w) Uninit Undefined Undefined) refl x h f this.struct
          w (held_from p s sound choice nv nd (λ v d. ext s v Uninit d Undefined) slot Undefined z base this.struct w
          Undefined this.leads got) (read_points p s sound choice base this.struct w this.leads got) this.less
          ∙ onto_same (load_datum s w f)
          (λ d. Passed (set_datum (ext s (held_or z base.fields w) Uninit Undefined Undefined) x d))
          (λ d. Passed (ext (set_datum s x d) (held_or z base.fields w) Uninit Undefined Undefined))
          (λ d that. ap Passed
          (set_datum_ext nv nd s size (held_or z base.fields w) Uninit Undefined Undefined x d less)))
          ∙ tested_onto (load_datum s w f)
          (λ d. ext (set_datum s x d) (held_or z base.fields w) Uninit Undefined Undefined) (λ g. pass rest g)
          ∙ ap (λ r. onto (load_datum s w f) (got_then (held_or z base.fields (value_of r)))) (sym got)
          ∙ sym (onto_onward (load_datum s w f) (λ d. Ok (set_datum s x d))
          (λ t. on_from rest t (datum_leaves (DataOpPath (DataField base f))))))
          ∙ sym
          (onto_onward (read s base) (λ w. onward (load_datum s w f) (λ d. Ok (set_datum s x d)))
          (λ t. on_from rest t (datum_leaves (DataOpPath (DataField base f)))))
          ∙ ap (λ r. onto r (λ t. on_from rest t (datum_leaves (DataOpPath (DataField base f)))))
          (sym (onward_onward (read s base) (λ w. load_datum s w f) (λ d. Ok (set_datum s x d))))

      -- a variable is given what an operand is, and then comes the rest
      pub given : (v : VarRef) (a : Arg) → ArgFits v a → (rest : List Link)
          → pass (give_links nv nd v a ++ rest) (put z Undefined) ≡ onto (give s v a) (λ t. on_from rest t (leaves a))
      given (PtrRef x) (GivenPtr (OpPath q)) e rest =
          let both = agreed (target (bare x)) (target q) e in
          path_given x (path_less p (bare x) both.0 (path_leads p (bare x) both.0 both.1)) q.var q.fields
          both.0 (path_leads p q both.0 both.2) rest
      given (PtrRef x) (GivenPtr OpNull) e rest =
          let some = some_target (target (bare x)) e in
          one_set (CopyPtr x PtrNull) (set_var s x Null) rest
          (ap Passed
          (var_sets x Null z (path_less p (bare x) some.0 (path_leads p (bare x) some.0 some.1))))
      given (PtrRef x) (GivenData a) e rest = absurd (true≢false (sym e))
      given (DataRef x) (GivenPtr a) e rest = absurd (true≢false (sym e))
      given (DataRef x) (GivenData a) e rest =
          let both = and_parts (nat_lt x nd) (data_op_typed p.shapes.structs p.vars (length p.data_vars) a) e in
          datum_given x (ltb-true x nd both.0) a both.1 rest

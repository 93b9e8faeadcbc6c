-- The edges of assignments to data, and of `return`, do what the step does.
use Rattle.std.proofs.Common.{◌≡◌, ◌<◌, ◌+◌, ℕ, zero, suc, true, false, ◌&&◌, if◌then◌else◌, Option, Some, None, Ok}
use Rattle.std.proofs.Common.{List, [], ◌∷◌, ◌++◌, length, length-set, append-nil, refl, sym, ap, ◌∙◌, subst}
use Rattle.std.proofs.lemmas.Bool.{and_parts}
use Rattle.fore_base.specs.declared.fault.Fault.TheVariants.{Leak}
use Rattle.fore_base.specs.declared.store.Value.{Value}
use Rattle.fore_base.specs.declared.store.Value.TheVariants.{Uninit, Cell}
use Rattle.fore_base.specs.declared.store.Datum.{Datum}
use Rattle.fore_base.specs.declared.store.Datum.TheVariants.{Undefined, Known}
use Rattle.fore_base.specs.declared.store.Store.{Store}
use Rattle.fore_base.specs.Stores.{onward, var_of, datum_of, set_datum, with_datum, load_datum, store_datum}
use Rattle.fore_base.specs.Heap.{leaks}
use Rattle.fore_base.specs.Shapes.{datums_of}
use Rattle.c_types.specs.declared.program.Path.{Path}
use Rattle.c_types.specs.declared.program.DataPath.{DataPath}
use Rattle.c_types.specs.declared.program.DataPath.TheVariants.{Var as DataVar, Field as DataField}
use Rattle.c_types.specs.declared.program.DataRhs.{DataRhs}
use Rattle.c_types.specs.declared.program.DataRhs.TheVariants.{Path as DataRhsPath, Known as DataRhsKnown}
use Rattle.c_types.specs.declared.program.DataRhs.TheVariants.{Choice as DataRhsChoice}
use Rattle.c_types.specs.Program.{Program, data_typed, data_rhs_typed, returned_typed}
use Rattle.c_types.specs.Fits.{PointsTo}
use Rattle.c_types.specs.Steps.{read, read_data, write_data, assign_data, look_at, below, all_dead}
use Rattle.c_types.proofs.Fitting.{Sound}
use Rattle.c_cfg.specs.declared.graph.DataArg.TheVariants.{Var as ArgVar, Known as ArgKnown}
use Rattle.c_cfg.specs.declared.graph.Const.TheVariants.{Known as ConstKnown}
use Rattle.c_cfg.specs.declared.graph.Instr.{Instr}
use Rattle.c_cfg.specs.declared.graph.Instr.TheVariants.{CopyData, LoadData, StoreData, StoreConst, Choose, Kill}
use Rattle.c_cfg.specs.Edges.{Pass, Passed, Faulted, onto, raw_step, leak_tested}
use Rattle.c_cfg.specs.Links.{Link, One, Two, loads, holder, used, ends, data_holder, base_used, data_used, data_row}
use Rattle.c_cfg.specs.Links.{return_row}
use Rattle.c_cfg.proofs.Agree.Temporaries.{ext, ext0, Sized, datum_ext, set_datum_ext, d0_holds, d0_set, all_die}
use Rattle.c_cfg.proofs.Agree.TempLeaks.{hidden}
use Rattle.c_cfg.proofs.Agree.Passing.{then_pass, then_nothing, pick, links_pass, settled_pass, done_pass, onto_same}
use Rattle.c_cfg.proofs.Agree.Passing.{onto_onward, onward_onward, one_link, finishing}
use Rattle.c_cfg.proofs.Agree.OneEdges.{load_datum_raw, store_datum_raw, store_known_raw}
use Rattle.c_cfg.proofs.Agree.Reading.{sound_sized, Slot, first_slot, second_slot, held, base_held, data_held}
use Rattle.c_cfg.proofs.Agree.Reading.{FieldTyped, field_typed, data_var_less, read_points, path_then, path_held}
use Rattle.c_cfg.proofs.Agree.Reading.{datum_then, datum_held}
use Rattle.c_cfg.proofs.Agree.Dying.{IsCleared, all_cleared, held_cleared, base_cleared, data_cleared}
use Rattle.c_cfg.proofs.Agree.PointerRows.{append_on}

stored_datum_sized : (nv nd : ℕ) (s t : Store) (w : Value) (f : ℕ) (v : Datum) → Sized nv nd s → store_datum s w f v
    ≡ Ok t → Sized nv nd t
stored_datum_sized nv nd s t (Cell n) f v z e = let same : record s { cells = with_datum s.cells n f v } ≡ t = cc in
    subst (Sized nv nd) same (record { ptrs = z.ptrs; datums = z.datums })
stored_datum_sized nv nd s t _ f v z e = cc

pick_same : (x : ℕ) (i : Instr) → pick x i i ≡ i
pick_same zero i = refl
pick_same (suc x) i = refl

module _ (p : Program) (choice : ℕ) (s : Store) (sound : Sound p s) (whole : leaks s ≡ false) where
  abbrev nv : ℕ
  nv = length p.vars

  abbrev nd : ℕ
  nd = length p.data_vars

  abbrev pass : List Link → Store → Pass
  pass ls g = links_pass p.shapes.structs choice ls g

  abbrev is_typed_data : DataPath → Type 0
  is_typed_data q = data_typed p.shapes.structs p.vars (length p.data_vars) q ≡ true

  size : Sized nv nd s
  size = sound_sized p s sound

  slot0 : (y : Value) → Slot nv nd s nv nd (λ v d. ext s v y d Undefined)
  slot0 y = first_slot nv nd s size y Undefined (λ v d. hidden s v y d Undefined whole)

  -- a variable

  var_set : (x : ℕ) (d : Datum) → x < nd → (i : Instr) → raw_step p.shapes.structs i 0 (ext0 s)
      ≡ Passed (set_datum (ext0 s) x d) → pass (One i ∷ []) (ext0 s) ≡ settled_pass (set_datum s x d)
  var_set x d less i is = one_link p.shapes.structs choice i (ext0 s) (set_datum s x d)
      (is ∙ ap (λ g. Passed g) (set_datum_ext nv nd s size Uninit Uninit Undefined Undefined x d less))

  var_chosen : (x : ℕ) → x < nd → pass (Two (Choose (Some x)) (Choose (Some x)) ∷ []) (ext0 s)
      ≡ settled_pass (set_datum s x (Known choice))
  var_chosen x less =
      ap (λ i. then_pass (leak_tested (raw_step p.shapes.structs i choice (ext0 s))) (λ g. Passed g))
      (pick_same choice (Choose (Some x)))
      ∙ ap (λ g. then_pass (leak_tested (Passed g)) (λ g. Passed g))
      (set_datum_ext nv nd s size Uninit Uninit Undefined Undefined x (Known choice) less)
      ∙ then_nothing (settled_pass (set_datum s x (Known choice)))

  var_loaded : (x : ℕ) → x < nd → (base : Path) (f : ℕ) → is_typed_data (DataField base f)
      → pass (data_row nv nd (DataVar x) (DataRhsPath (DataField base f))) (ext0 s)
      ≡ done_pass (assign_data s (DataVar x) (DataRhsPath (DataField base f)) choice)
  var_loaded x less base f typed =
      let this : FieldTyped p base f = field_typed p base f typed in
      let h : ℕ = holder nv base.var base.fields in
      let killed : List ℕ = used nv base.fields in
      let put : Value → Datum → Store = λ v d. ext s v Uninit d Undefined in
      ap (λ ls. pass ls (ext0 s)) (append_on (loads nv base.var base.fields) (One (LoadData x h f)) (ends killed []))
      ∙ path_then p s sound choice nv nd put (slot0 Uninit) Undefined base this.struct this.leads
      (One (LoadData x h f) ∷ ends killed [])
      ∙ onto_same (read s base)
      (λ w. pass (One (LoadData x h f) ∷ ends killed []) (ext s (held base.fields w) Uninit Undefined Undefined))
      (λ w. done_pass (onward (load_datum s w f) (λ d. Ok (set_datum s x d))))
      (λ w got.
      ap (λ z. then_pass (leak_tested z) (λ r. pass (ends killed []) r))
      (load_datum_raw p s sound (ext s (held base.fields w) Uninit Undefined Undefined) refl x h f this.struct w
      (path_held p s sound choice nv nd put (slot0 Uninit) Undefined base this.struct w Undefined this.leads got)
      (read_points p s sound choice base this.struct w this.leads got) this.less
      ∙ onto_same (load_datum s w f)
      (λ d. Passed (set_datum (ext s (held base.fields w) Uninit Undefined Undefined) x d))
      (λ d. Passed (ext (set_datum s x d) (held base.fields w) Uninit Undefined Undefined))
      (λ d that. ap (λ g. Passed g)
      (set_datum_ext nv nd s size (held base.fields w) Uninit Undefined Undefined x d less)))
      ∙ finishing p.shapes.structs choice killed [] (load_datum s w f) (λ d. set_datum s x d) (λ d. held base.fields w)
      (λ d. Uninit) (λ d. Undefined) (λ d. Undefined)
      (λ d that. all_cleared nv nd (set_datum s x d)
      (record { ptrs = size.ptrs; datums = length-set s.data_vars x d ∙ size.datums }) (held base.fields w) Uninit
      Undefined Undefined (used nv base.fields) [] [] [] killed [] (sym (append-nil _)) refl
      (held_cleared nv base.fields w) refl refl refl)
      ∙ sym (onto_onward (load_datum s w f) (λ d. Ok (set_datum s x d)) settled_pass))
      ∙ sym (onto_onward (read s base) (λ w. onward (load_datum s w f) (λ d. Ok (set_datum s x d))) settled_pass)
      ∙ ap (λ r. done_pass r) (sym (onward_onward (read s base) (λ w. load_datum s w f) (λ d. Ok (set_datum s x d))))

  -- a field, from the value on; p0 and d0 may be in use

  module _ (base : Path) (f : ℕ) (this : FieldTyped p base f) where
    field_writes : (a : Value) (k : Datum) (last : ℕ → ℕ → Instr) (v : Datum)
        → ((b j : ℕ) (y w : Value) → var_of (ext s a y k Undefined) b ≡ w → PointsTo s.cells j w
        → f < datums_of p.shapes.structs j
        → raw_step p.shapes.structs (last b f) 0 (ext s a y k Undefined)
        ≡ onto (store_datum s w f v) (λ z. Passed (ext z a y k Undefined)))
        → (ps ds killed : List ℕ) → killed ≡ ps ++ used (nv + 1) base.fields → IsCleared nv Uninit ps a
        → IsCleared nd Undefined ds k
        → pass (loads (nv + 1) base.var base.fields ++ One (last (holder (nv + 1) base.var base.fields) f)
        ∷ ends killed ds) (ext s a Uninit k Undefined) ≡ done_pass (write_data s (DataField base f) v)
    field_writes a k last v is_last ps ds killed parts a_cleared k_cleared =
        let h : ℕ = holder (nv + 1) base.var base.fields in
        let put : Value → Datum → Store = λ v e. ext s a v k e in
        let slot : Slot nv nd s (nv + 1) (nd + 1) (λ v e. ext s a v k e) =
        second_slot nv nd s size a k (λ v e. hidden s a v k e whole) in
        path_then p s sound choice (nv + 1) (nd + 1) put slot Undefined base this.struct this.leads
        (One (last h f) ∷ ends killed ds)
        ∙ onto_same (read s base)
        (λ w. pass (One (last h f) ∷ ends killed ds) (ext s a (held base.fields w) k Undefined))
        (λ w. done_pass (store_datum s w f v))
        (λ w got.
        ap (λ z. then_pass (leak_tested z) (λ r. pass (ends killed ds) r))
        (is_last h this.struct (held base.fields w) w
        (path_held p s sound choice (nv + 1) (nd + 1) put slot Undefined base this.struct w Undefined this.leads
        got) (read_points p s sound choice base this.struct w this.leads got) this.less)
        ∙ finishing p.shapes.structs choice killed ds (store_datum s w f v) (λ z. z) (λ z. a) (λ z. held base.fields w)
        (λ z. k) (λ z. Undefined)
        (λ z e. all_cleared nv nd z (stored_datum_sized nv nd s z w f v size e) a (held base.fields w) k Undefined ps
        (used (nv + 1) base.fields) ds [] killed ds parts (sym (append-nil _)) a_cleared
        (held_cleared (nv + 1) base.fields w) k_cleared refl))
        ∙ sym (onto_onward (read s base) (λ w. store_datum s w f v) settled_pass)

    field_set : (from : DataRhs) → data_rhs_typed p.shapes.structs p.vars (length p.data_vars) from ≡ true
        → pass (data_row nv nd (DataField base f) from) (ext0 s)
        ≡ done_pass (assign_data s (DataField base f) from choice)
    field_set (DataRhsPath q) typed =
        let h : ℕ = holder (nv + 1) base.var base.fields in
        let rest : List Link = loads (nv + 1) base.var base.fields ++ One (StoreData h f (data_holder nd q))
        ∷ ends (base_used nv q ++ used (nv + 1) base.fields) (data_used nd q) in
        datum_then p s sound choice nv nd (λ v d. ext s v Uninit d Undefined) (slot0 Uninit) q typed rest
        ∙ onto_same (read_data s q) (λ k. pass rest (ext s (base_held s q) Uninit (data_held q k) Undefined))
        (λ k. done_pass (write_data s (DataField base f) k))
        (λ k got.
        field_writes (base_held s q) (data_held q k) (λ b g. StoreData b g (data_holder nd q)) k
        (λ b j y w is points less.
        store_datum_raw p s sound (base_held s q) y (data_held q k) Undefined b f (data_holder nd q) j w k is
        (datum_held p s sound choice nv nd (λ v d. ext s v y d Undefined) (slot0 y) q k typed got) points less)
        (base_used nv q) (data_used nd q) (base_used nv q ++ used (nv + 1) base.fields) refl (base_cleared nv s q)
        (data_cleared nd q k))
        ∙ sym (onto_onward (read_data s q) (λ k. write_data s (DataField base f) k) settled_pass)
    field_set (DataRhsKnown k) typed =
        field_writes Uninit Undefined (λ b g. StoreConst b g (ConstKnown k)) (Known k)
        (λ b j y w is points less. store_known_raw p s sound Uninit y Undefined Undefined b f k j w is points less)
        [] [] (used (nv + 1) base.fields) refl refl refl
    field_set DataRhsChoice typed =
        let h : ℕ = holder (nv + 1) base.var base.fields in
        let rest : List Link = loads (nv + 1) base.var base.fields ++ One (StoreData h f nd)
        ∷ ends (used (nv + 1) base.fields) (nd ∷ []) in
        let sets : set_datum (ext0 s) nd (Known choice) ≡ ext s Uninit Uninit (Known choice) Undefined =
        d0_set nv nd s size Uninit Uninit Undefined Undefined (Known choice) in
        ap (λ i. then_pass (leak_tested (raw_step p.shapes.structs i choice (ext0 s))) (λ g. pass rest g))
        (pick_same choice (Choose (Some nd)))
        ∙ ap (λ g. then_pass (leak_tested (Passed g)) (λ g. pass rest g)) sets
        ∙ ap
        (λ b. then_pass (if b then Faulted Leak else Passed (ext s Uninit Uninit (Known choice) Undefined))
        (λ g. pass rest g)) (hidden s Uninit Uninit (Known choice) Undefined whole)
        ∙ field_writes Uninit (Known choice) (λ b g. StoreData b g nd) (Known choice)
        (λ b j y w is points less.
        store_datum_raw p s sound Uninit y (Known choice) Undefined b f nd j w (Known choice) is
        (d0_holds nv nd s size Uninit y (Known choice) Undefined) points less)
        [] (nd ∷ []) (used (nv + 1) base.fields) refl refl refl

  pub set_data_passes : (to : DataPath) (from : DataRhs)
      → (data_typed p.shapes.structs p.vars (length p.data_vars) to
      && data_rhs_typed p.shapes.structs p.vars (length p.data_vars) from) ≡ true
      → pass (data_row nv nd to from) (ext0 s) ≡ done_pass (assign_data s to from choice)
  set_data_passes (DataVar x) (DataRhsPath (DataVar y)) typed =
      let both = and_parts (data_typed p.shapes.structs p.vars (length p.data_vars) (DataVar x))
      (data_typed p.shapes.structs p.vars (length p.data_vars) (DataVar y)) typed in
      var_set x (datum_of s y) (data_var_less p x both.0) (CopyData x (ArgVar y))
      (ap (λ d. Passed (set_datum (ext0 s) x d))
      (datum_ext nv nd s size Uninit Uninit Undefined Undefined y (data_var_less p y both.1)))
  set_data_passes (DataVar x) (DataRhsPath (DataField base f)) typed =
      let both = and_parts (data_typed p.shapes.structs p.vars (length p.data_vars) (DataVar x))
      (data_typed p.shapes.structs p.vars (length p.data_vars) (DataField base f)) typed in
      var_loaded x (data_var_less p x both.0) base f both.1
  set_data_passes (DataVar x) (DataRhsKnown k) typed =
      let both = and_parts (data_typed p.shapes.structs p.vars (length p.data_vars) (DataVar x))
      (data_rhs_typed p.shapes.structs p.vars (length p.data_vars) (DataRhsKnown k)) typed in
      var_set x (Known k) (data_var_less p x both.0) (CopyData x (ArgKnown k)) refl
  set_data_passes (DataVar x) DataRhsChoice typed =
      let both = and_parts (data_typed p.shapes.structs p.vars (length p.data_vars) (DataVar x))
      (data_rhs_typed p.shapes.structs p.vars (length p.data_vars) DataRhsChoice) typed in
      var_chosen x (data_var_less p x both.0)
  set_data_passes (DataField base f) from typed =
      let both = and_parts (data_typed p.shapes.structs p.vars (length p.data_vars) (DataField base f))
      (data_rhs_typed p.shapes.structs p.vars (length p.data_vars) from) typed in
      field_set base f (field_typed p base f both.0) from both.1

  -- `return`: all variables die

  pub return_passes : (operand : Option DataPath) → returned_typed p.shapes.structs p.vars (length p.data_vars) operand
      ≡ true → pass (return_row nv nd operand) (ext0 s) ≡ onto (look_at s operand) (λ t. settled_pass (all_dead t))
  return_passes None typed =
      one_link p.shapes.structs choice (Kill (below (nv + 2)) (below (nd + 2))) (ext0 s) (all_dead s)
      (ap (λ g. Passed g) (all_die nv nd s size Uninit Uninit Undefined Undefined))
  return_passes (Some q) typed =
      let last : List Link = One (Kill (below (nv + 2)) (below (nd + 2))) ∷ [] in
      datum_then p s sound choice nv nd (λ v d. ext s v Uninit d Undefined) (slot0 Uninit) q typed last
      ∙ onto_same (read_data s q) (λ k. pass last (ext s (base_held s q) Uninit (data_held q k) Undefined))
      (λ k. settled_pass (all_dead s))
      (λ k got. one_link p.shapes.structs choice (Kill (below (nv + 2)) (below (nd + 2)))
      (ext s (base_held s q) Uninit (data_held q k) Undefined) (all_dead s)
      (ap (λ g. Passed g) (all_die nv nd s size (base_held s q) Uninit (data_held q k) Undefined)))
      ∙ sym (onto_onward (read_data s q) (λ d. Ok s) (λ t. settled_pass (all_dead t)))

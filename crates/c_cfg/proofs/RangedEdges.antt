-- Each number of an edge of a lowered program is in range.
use Rattle.std.proofs.Common.{◌≡◌, ◌<◌, ◌≤◌, ◌+◌, ℕ, Bool, true, false, List, [], ◌∷◌, length, refl, sym, subst, arith}
use Rattle.std.proofs.Common.{Option, Some, None}
use Rattle.std.proofs.lemmas.Bool.{and_parts, leb-true}
use Rattle.fore_base.specs.declared.limits.TheConstants.{DATUM}
use Rattle.fore_base.specs.declared.shape.Shape.{Shape}
use Rattle.fore_base.specs.Lists.{Every}
use Rattle.fore_base.proofs.ListLemmas.{every_in, in_every, every_append}
use Rattle.c_types.specs.declared.mode.MallocMode.{MallocMode}
use Rattle.c_types.specs.declared.mode.MallocMode.TheVariants.{Always, MayFail}
use Rattle.c_types.specs.declared.program.Path.{Path}
use Rattle.c_types.specs.declared.program.PtrOp.{PtrOp}
use Rattle.c_types.specs.declared.program.PtrOp.TheVariants.{Path as OpPath, Null as OpNull}
use Rattle.c_types.specs.declared.program.DataOp.{DataOp}
use Rattle.c_types.specs.declared.program.DataOp.TheVariants.{Path as DataOpPath, Known as DataOpKnown}
use Rattle.c_types.specs.declared.program.Atom.TheVariants.{Known as KnownAtom, Ptr as PtrAtom}
use Rattle.c_types.specs.declared.program.Atom.TheVariants.{Data as DataAtom}
use Rattle.c_types.specs.Program.{Program, path_target, ops_typed, data_op_typed, is_typed}
use Rattle.c_types.specs.Control.{Items, Done, Do, Close, If, Enter, Leave, Exit, Ask}
use Rattle.c_cfg.specs.declared.graph.Instr.{Instr}
use Rattle.c_cfg.specs.declared.graph.Instr.TheVariants.{New}
use Rattle.c_cfg.specs.declared.graph.Instr.TheVariants.{Choose}
use Rattle.c_cfg.specs.declared.graph.Edge.{Edge}
use Rattle.c_types.proofs.StepLaws.{agreed}
use Rattle.c_cfg.specs.Graphs.{ControlGraph, may_have}
use Rattle.c_cfg.specs.GraphRuns.{out_of}
use Rattle.c_cfg.specs.Links.{Link, One, Two, op_loads, op_arg, op_used, data_op_loads, data_op_arg, op_base_used}
use Rattle.c_cfg.specs.Links.{op_data_used, act_row, failing_link, links_in}
use Rattle.c_cfg.specs.Places.{places}
use Rattle.c_cfg.specs.Lowering.{edge, link_edges, LowerOf}
use Rattle.c_cfg.specs.Ranges.{PtrArgFits, DataArgFits, EdgeFits, IsEdgeOf}
use Rattle.c_cfg.proofs.Leaving.{in_out, all_below, PlaceGood, each_location, exit_below, places_below}
use Rattle.c_cfg.proofs.Landing.{places_lead}
use Rattle.c_cfg.proofs.Ranged.{numbers_below, Ranged, unmarked, places_ranged}
use Rattle.c_cfg.proofs.RangedStart.{start_ranged}
use Rattle.c_cfg.proofs.RangedLinks.{PathFits, path_fits, some_fits, DataFits, data_fits, LinkFits, All, more}
use Rattle.c_cfg.proofs.RangedLinks.{Ptr, Datum, Fits, own, p0_in, p1_in, d0_in, d1_in, loads_fit, holder_fits}
use Rattle.c_cfg.proofs.RangedLinks.{used_fits, ends_fit, data_loads_fit, data_holder_fits, base_used_fits}
use Rattle.c_cfg.proofs.RangedLinks.{data_used_fits, wider, act_fits}
use Rattle.c_cfg.proofs.RangedCalls.{enter_fits, leave_fits, exit_fits}

module _ (p : Program) where
  abbrev shapes : List Shape
  shapes = p.shapes.structs

  abbrev nv : ℕ
  nv = length p.vars

  abbrev nd : ℕ
  nd = length p.data_vars

  abbrev target : Path → Option ℕ
  target q = path_target p.shapes.structs p.vars (length p.data_vars) q

  module _ (typed : is_typed p ≡ true) where
    -- Tests

    abbrev OpFits : PtrOp → Type 0
    OpFits (OpPath q) = PathFits p q
    OpFits OpNull = Unit {0}

    ops_fit : (l r : PtrOp) → ops_typed p.shapes.structs p.vars (length p.data_vars) l r ≡ true → OpFits l × OpFits r
    ops_fit (OpPath q) (OpPath r) e = let both = agreed (target q) (target r) e in
        (path_fits p q both.0 both.1, path_fits p r both.0 both.2)
    ops_fit (OpPath q) OpNull e = (some_fits p q e, tt)
    ops_fit OpNull (OpPath q) e = (tt, some_fits p q e)
    ops_fit OpNull OpNull e = (tt, tt)

    abbrev DataOpFits : DataOp → Type 0
    DataOpFits (DataOpPath q) = DataFits p q
    DataOpFits (DataOpKnown k) = k ≤ DATUM

    data_op_fits : (o : DataOp) → data_op_typed p.shapes.structs p.vars (length p.data_vars) o ≡ true → DataOpFits o
    data_op_fits (DataOpPath q) e = data_fits p q e
    data_op_fits (DataOpKnown k) e = leb-true k DATUM e

    op_loads_fit : (t : ℕ) (o : PtrOp) → Ptr p t → OpFits o → All p (op_loads t o)
    op_loads_fit t (OpPath q) ht h = loads_fit p t q.var q.fields ht (own p q.var h.var) h.fields
    op_loads_fit t OpNull ht h = tt

    op_arg_fits : (t : ℕ) (o : PtrOp) → Ptr p t → OpFits o → PtrArgFits (nv + 2) (nd + 2) shapes (op_arg t o)
    op_arg_fits t (OpPath q) ht h = holder_fits p t q.var q.fields ht (own p q.var h.var)
    op_arg_fits t OpNull ht h = tt

    op_used_fits : (t : ℕ) (o : PtrOp) → Ptr p t → Every (Ptr p) (op_used t o)
    op_used_fits t (OpPath q) ht = used_fits p t q.fields ht
    op_used_fits t OpNull ht = tt

    data_op_loads_fit : (t d : ℕ) (o : DataOp) → Ptr p t → Datum p d → DataOpFits o → All p (data_op_loads t d o)
    data_op_loads_fit t d (DataOpPath q) ht hd h = data_loads_fit p t d q ht hd h
    data_op_loads_fit t d (DataOpKnown k) ht hd h = tt

    data_op_arg_fits : (d : ℕ) (o : DataOp) → Datum p d → DataOpFits o
        → DataArgFits (nv + 2) (nd + 2) shapes (data_op_arg d o)
    data_op_arg_fits d (DataOpPath q) hd h = data_holder_fits p d q hd h
    data_op_arg_fits d (DataOpKnown k) hd h = h

    op_base_fits : (t : ℕ) (o : DataOp) → Ptr p t → Every (Ptr p) (op_base_used t o)
    op_base_fits t (DataOpPath q) ht = base_used_fits p t q ht
    op_base_fits t (DataOpKnown k) ht = tt

    op_data_fits : (d : ℕ) (o : DataOp) → Datum p d → Every (Datum p) (op_data_used d o)
    op_data_fits d (DataOpPath q) hd = data_used_fits p d q hd
    op_data_fits d (DataOpKnown k) hd = tt

    -- both edges of a test
    abbrev TestFits : (Bool → Instr) → Type 0
    TestFits t = (b : Bool) → Fits p (t b) × (may_have (t b) None ≡ true)

    -- the two edges of a `malloc` that may fail fit where the New does
    failing_fits : (l : Link) → LinkFits p l → LinkFits p (failing_link l)
    failing_fits (One (New to shape)) h = ((h.0.0, tt), h.0, refl, refl)
    failing_fits _ h = h

    links_fit : (mode : MallocMode) (ls : List Link) → All p ls → All p (links_in mode ls)
    links_fit Always ls h = h
    links_fit MayFail [] h = tt
    links_fit MayFail (l ∷ ls) h = (failing_fits l h.0, links_fit MayFail ls h.1)

    module _ (mode : MallocMode) where
      abbrev Good : Items → Type 0
      Good = PlaceGood (length p.vars) (length p.data_vars) (LinkFits p) TestFits mode

      place_fits : (c : Items) → Ranged p c → Good c
      place_fits (Do a m is) h = links_fit mode (act_row nv nd a is) (act_fits p typed a is h.0 h.1)
      place_fits (Close ps ds m is) h =
          ((wider p typed nv ps (numbers_below nv ps h.0), wider p typed nd ds (numbers_below nd ds h.1)), refl)
      place_fits (If (Ask (KnownAtom b) m) x y is) h = ((tt, tt), refl)
      place_fits (If (Ask (PtrAtom l r e) m) x y is) h =
          let both = ops_fit l r h.0 in (
            more p (op_loads nv l) _ (op_loads_fit nv l (p0_in p) both.0) (op_loads_fit (nv + 1) r (p1_in p) both.1),
            (λ b. ((op_arg_fits nv l (p0_in p) both.0, op_arg_fits (nv + 1) r (p1_in p) both.1), refl)),
            ends_fit p _ []
                (every_append (Ptr p) (op_used nv l) _ (op_used_fits nv l (p0_in p))
                (op_used_fits (nv + 1) r (p1_in p)))
                tt,
          )
      place_fits (If (Ask (DataAtom l r e) m) x y is) h =
          let both = and_parts (data_op_typed p.shapes.structs p.vars (length p.data_vars) l)
          (data_op_typed p.shapes.structs p.vars (length p.data_vars) r) h.0 in
          let hl = data_op_fits l both.0 in let hr = data_op_fits r both.1 in (
            more p (data_op_loads nv nd l) _ (data_op_loads_fit nv nd l (p0_in p) (d0_in p) hl)
                (data_op_loads_fit (nv + 1) (nd + 1) r (p1_in p) (d1_in p) hr),
            (λ b. ((data_op_arg_fits nd l (d0_in p) hl, data_op_arg_fits (nd + 1) r (d1_in p) hr), refl)),
            ends_fit p _ _
                (every_append (Ptr p) (op_base_used nv l) _ (op_base_fits nv l (p0_in p))
                (op_base_fits (nv + 1) r (p1_in p)))
                (every_append (Datum p) (op_data_used nd l) _ (op_data_fits nd l (d0_in p))
                (op_data_fits (nd + 1) r (d1_in p))),
          )
      place_fits (Enter vs ws m is) h = enter_fits p typed vs ws h.0
      place_fits (Leave v vs a m is) h = leave_fits p typed v vs a h.0
      place_fits (Exit v vs d m is) h = exit_fits p typed v vs d h.0
      place_fits _ h = tt

      all_fit : (cs : List Items) → Every (Ranged p) cs → Every Good cs
      all_fit [] h = tt
      all_fit (c ∷ cs) h = (place_fits c h.0, all_fit cs h.1)

-- Edges

-- where an edge leads, and its other numbers
abbrev HasRange : Program → ControlGraph → Edge → Type 0
HasRange p g e = (e.to < g.locations) × EdgeFits (length p.vars + 2) (length p.data_vars + 2) p.shapes.structs e

module _ (p : Program) (typed : is_typed p ≡ true) (mode : MallocMode) (g : ControlGraph)
    (low : LowerOf p mode g) where
  abbrev In : ℕ → Type 0
  In k = k < g.locations

  link_fits : (line k to : ℕ) (l : Link) → LinkFits p l → In to → Every (HasRange p g) (link_edges line k to l)
  link_fits line k to (One i) h t = ((t, record { instr = h.0; has_its_choice = h.1; choice = tt }), tt)
  link_fits line k to (Two i j) h t = (
    (t, record { instr = h.0; has_its_choice = h.2; choice = omega arith }),
    ((t, record { instr = h.1; has_its_choice = h.3; choice = omega arith }), tt),
  )

  test_fits : (line k a b : ℕ) (t : Bool → Instr) → TestFits p typed t → In a → In b
      → Every (HasRange p g) (edge line k a (t true) None ∷ edge line k b (t false) None ∷ [])
  test_fits line k a b t h x y = (
    (x, record { instr = (h true).0; has_its_choice = (h true).1; choice = tt }),
    ((y, record { instr = (h false).0; has_its_choice = (h false).1; choice = tt }), tt),
  )

  choice_fits : (line k a b : ℕ) → In a → In b
      → Every (HasRange p g) (edge line k a (Choose None) (Some 0) ∷ edge line k b (Choose None) (Some 1) ∷ [])
  choice_fits line k a b x y = (
    (x, record { instr = tt; has_its_choice = refl; choice = omega arith }),
    ((y, record { instr = tt; has_its_choice = refl; choice = omega arith }), tt),
  )

  ranges : (k : ℕ) → Every (HasRange p g) (out_of g.edges k)
  ranges =
      each_location p mode g low (λ es. Every (HasRange p g) es) In (LinkFits p) (TestFits p typed) link_fits test_fits
      choice_fits tt
      (all_fit p typed mode (places low.items Done)
      (places_ranged p low.items Done
      (unmarked p low.line low.items (subst (Ranged p) (sym low.is_program) (start_ranged p typed))) tt))
      (places_lead In low.at low.items (exit_below p mode g low) (places_below p mode g low)) (all_below p mode g low)

  pub edges_in_range : Every (IsEdgeOf g) g.edges
  edges_in_range = in_every (IsEdgeOf g) g.edges (λ e i.
      let has : HasRange p g e = every_in (HasRange p g) (out_of g.edges e.from) e (ranges e.from) (in_out g.edges e i)
      in
      record {
        from = every_in (λ d. d.from < g.locations) g.edges e low.each_from i;
        to = has.0;
        fits = same_numbers has.1;
      })
    where
      same_numbers : {e : Edge} → EdgeFits (length p.vars + 2) (length p.data_vars + 2) p.shapes.structs e
          → EdgeFits g.ptrs g.datums g.shapes.structs e
      same_numbers {e} h = rw (low.ptrs, low.datums, low.shapes) h

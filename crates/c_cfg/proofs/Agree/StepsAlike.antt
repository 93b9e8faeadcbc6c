-- One step of a program, at a place, is the run of the graph along the place's edges.
use Rattle.std.proofs.Common.{◌≡◌, ◌≤◌, ◌+◌, ℕ, zero, suc, Bool, true, false, Some, None, Result, Ok, Err, List, []}
use Rattle.std.proofs.Common.{◌∷◌, length, refl, sym, ap, ◌∙◌, subst, arith}
use Rattle.fore_base.specs.declared.fault.Fault.{Fault as Kind}
use Rattle.fore_base.specs.declared.store.Value.{Value}
use Rattle.fore_base.specs.declared.store.Datum.{Datum}
use Rattle.fore_base.specs.declared.store.Store.{Store}
use Rattle.fore_base.specs.Stores.{onward, kill}
use Rattle.fore_base.specs.Heap.{leaks}
use Rattle.c_types.specs.declared.mode.MallocMode.{MallocMode}
use Rattle.c_types.specs.declared.outcome.Outcome.{Outcome}
use Rattle.c_types.specs.declared.outcome.Outcome.TheVariants.{Ended, Fault, StillRunning}
use Rattle.c_types.specs.declared.program.Act.{Act}
use Rattle.c_types.specs.declared.program.Act.TheVariants.{Return}
use Rattle.c_types.specs.declared.program.PtrOp.{PtrOp}
use Rattle.c_types.specs.declared.program.DataOp.{DataOp}
use Rattle.c_types.specs.declared.program.Atom.{Atom}
use Rattle.c_types.specs.declared.program.Atom.TheVariants.{Choice as ChoiceAtom, Known as KnownAtom, Ptr as PtrAtom}
use Rattle.c_types.specs.declared.program.Atom.TheVariants.{Data as DataAtom}
use Rattle.c_types.specs.Program.{Program, is_typed}
use Rattle.c_types.specs.Control.{Items, Done, Do, Close, If, Loop, Again, DoLoop, DoAgain, Enter, Leave, Exit, Ask}
use Rattle.c_types.specs.Control.{Not, Both, Either, ◌then◌, opened, from_exit}
use Rattle.c_types.specs.Steps.{Turn, Goes, Stops, Faults, read_op, read_data_op, same_values, same_datums, agrees}
use Rattle.c_types.specs.Steps.{atom_of, act_takes, all_dead, enter, leave as leave_of, exit as exit_of, settle}
use Rattle.c_types.specs.Steps.{settled, act_turn, test_turn, turn_of}
use Rattle.c_types.specs.Runs.{supply, after_turn, at_end, advance}
use Rattle.c_types.specs.Fits.{ItemsFit}
use Rattle.c_types.proofs.Fitting.{Sound}
use Rattle.c_types.proofs.Turns.{then_done}
use Rattle.c_cfg.specs.declared.graph.Instr.{Instr}
use Rattle.c_cfg.specs.declared.graph.Instr.TheVariants.{Kill, Choose}
use Rattle.c_cfg.specs.declared.graph.Edge.{Edge}
use Rattle.c_cfg.specs.Edges.{Pass, Halted}
use Rattle.c_cfg.specs.GraphRuns.{out_of, unless_left, leave}
use Rattle.c_cfg.specs.Links.{Link, One, links_in, act_row, ptr_loads, ptr_ends, cmp_loads, data_ends, enter_row}
use Rattle.c_cfg.specs.Links.{leave_row, exit_row}
use Rattle.c_cfg.specs.Lowering.{edge, IsWay, IsTestRow, IsRow, followed_by}
use Rattle.c_cfg.proofs.Agree.Temporaries.{ext0}
use Rattle.c_cfg.proofs.Agree.Passing.{links_pass, settled_pass, done_pass, onward_onward}
use Rattle.c_cfg.proofs.Agree.Tested.{Tests, ptr_tests, data_tests}
use Rattle.c_cfg.proofs.Agree.ActTurns.{turn_pass, settle_pass, stop_of, kill_passes, act_passes, GoesTo, settle_to}
use Rattle.c_cfg.proofs.Agree.ActTurns.{act_to, done_turn, settled_to}
use Rattle.c_cfg.proofs.Agree.CallRows.{enter_passes, leave_passes}
use Rattle.c_cfg.proofs.Agree.ExitRows.{exit_passes}
use Rattle.c_cfg.proofs.Agree.Ways.{stepless, AreOnes, graph_run, Meets, after_meets, along, row_alike, test_alike}
use Rattle.c_cfg.proofs.Agree.LinksOnes.{plain_ones, ends_ones, ptr_ones, cmp_ones, act_row_takes}
use Rattle.c_cfg.proofs.Calls.Homes.{Homed}
use Rattle.c_cfg.proofs.Calls.Idle.{FreeAt}
use Rattle.c_cfg.proofs.PlainLinks.{length_in, enter_plain, leave_plain, exit_plain}
use Rattle.c_cfg.proofs.Ranged.{Ranged}
use Rattle.c_cfg.proofs.Landing.{Each, Front, whole, each_followed, each_exit}

module _ (nv nd : ℕ) where
  abbrev pub atom_size : Atom → ℕ
  atom_size ChoiceAtom = 1
  atom_size (KnownAtom b) = 1
  atom_size (PtrAtom l r equal) = length (ptr_loads nv nd l r) + suc (length (ptr_ends nv nd l r))
  atom_size (DataAtom l r equal) = length (cmp_loads nv nd l r) + suc (length (data_ends nv nd l r))

  -- how many edges the step of an opened list takes
  abbrev pub size : Items → ℕ
  size Done = 0
  size (Do a m is) = length (act_row nv nd a is)
  size (Close ps ds m is) = 1
  size (If (Ask a m) x y is) = atom_size a
  size (If (Not c) x y is) = 0
  size (If (Both c d) x y is) = 0
  size (If (Either c d) x y is) = 0
  size (Loop c n b is) = 0
  size (Again c n b is) = 0
  size (DoLoop c b is) = 0
  size (DoAgain c b is) = 0
  size (Enter vs ws m is) = length (enter_row nv nd vs ws)
  size (Leave v vs a m is) = length (leave_row nv nd v vs a)
  size (Exit v vs d m is) = length (exit_row nv nd v vs d)

-- the side of a test
abbrev pub side : Items → Items → Items → Bool → Items
side x y is true = x then is
side x y is false = y then is

-- an atom that compares, and what it compares

ptr_compared : (s : Store) (l r : PtrOp) (equal : Bool) (x : ℕ) → atom_of (PtrAtom l r equal) s x
    ≡ onward (onward (read_op s l) (λ v. onward (read_op s r) (λ w. same_values v w))) (λ same. Ok (agrees equal same))
ptr_compared s l r equal x =
    sym (onward_onward (read_op s l) (λ v. onward (read_op s r) (λ w. same_values v w)) (λ same. Ok (agrees equal same))
    ∙ inner (read_op s l))
  where
    inner : (a : Result Value Kind)
        → onward a (λ v. onward (onward (read_op s r) (λ w. same_values v w)) (λ same. Ok (agrees equal same)))
        ≡ onward a (λ v. onward (read_op s r) (λ w. onward (same_values v w) (λ same. Ok (agrees equal same))))
    inner (Ok v) = onward_onward (read_op s r) (λ w. same_values v w) (λ same. Ok (agrees equal same))
    inner (Err k) = refl

data_compared : (s : Store) (l r : DataOp) (equal : Bool) (x : ℕ) → atom_of (DataAtom l r equal) s x
    ≡ onward (onward (read_data_op s l) (λ v. onward (read_data_op s r) (λ w. same_datums v w)))
    (λ same. Ok (agrees equal same))
data_compared s l r equal x =
    sym
    (onward_onward (read_data_op s l) (λ v. onward (read_data_op s r) (λ w. same_datums v w))
    (λ same. Ok (agrees equal same))
    ∙ inner (read_data_op s l))
  where
    inner : (a : Result Datum Kind)
        → onward a (λ v. onward (onward (read_data_op s r) (λ w. same_datums v w)) (λ same. Ok (agrees equal same)))
        ≡ onward a (λ v. onward (read_data_op s r) (λ w. onward (same_datums v w) (λ same. Ok (agrees equal same))))
    inner (Ok v) = onward_onward (read_data_op s r) (λ w. same_datums v w) (λ same. Ok (agrees equal same))
    inner (Err k) = refl

module _ (p : Program) (mode : MallocMode) (edges : List Edge) (line : ℕ → ℕ) (at : Items → ℕ)
    (mids : Items → List ℕ) (most : ℕ) where
  -- what is known of a place: its row, that its numbers are in range, that its step keeps the parameters of functions
  -- that are not active, and that it takes no more edges than these
  abbrev pub IsKnown : Items → Type 0
  IsKnown c = IsRow (length p.vars) (length p.data_vars) edges mode line at mids c × (Ranged p c × Homed p c)
      × (size (length p.vars) (length p.data_vars) c ≤ most)

module _ (p : Program) (typed : is_typed p ≡ true) (mode : MallocMode) (Rel : Outcome → Outcome → Type 0)
    (equal : (o r : Outcome) → stepless o ≡ stepless r → Rel o r) (edges : List Edge) (line : ℕ → ℕ) (at : Items → ℕ)
    (mids : Items → List ℕ) (most : ℕ) where
  abbrev Place : Items → Type 0
  Place c = IsKnown p mode edges line at mids most c

  abbrev graph : ℕ → ℕ → ℕ → Store → List ℕ → ℕ → Outcome
  graph n q k g cs u = graph_run Rel equal p.shapes.structs edges n q k g cs u

  -- no edge begins at the exit
  pub exit_ends : out_of edges (at Done) ≡ [] → (n q : ℕ) (g : Store) (cs : List ℕ) (u : ℕ)
      → stepless (graph n q (at Done) g cs u) ≡ Ended 0
  exit_ends e zero q g cs u = ap (λ es. stepless (unless_left es q StillRunning)) e
  exit_ends e (suc n) q g cs u =
      ap (λ es. stepless (leave p.shapes.structs es (λ st j t ds v. graph n st j t ds v) q g cs u)) e

  module _ (exit : out_of edges (at Done) ≡ []) (n : ℕ) (next : ℕ → Items → Store → List ℕ → ℕ → Outcome) (step q : ℕ)
      (s : Store) (sound : Sound p s) (clear : leaks s ≡ false) (cs : List ℕ) (u : ℕ) where
    -- what comes after the step
    abbrev pub Then : Turn → List ℕ → ℕ → Type 0
    Then turn ds v = (js : Items) (t : Store) → turn ≡ Goes js t → leaks t ≡ false → Each Place js Done → (st r : ℕ)
        → Rel (next st js t ds v) (graph n r (at (opened js)) (ext0 t) ds v)

    abbrev out : Turn → ℕ → List ℕ → ℕ → Outcome
    out turn l ds v = after_turn turn l (step + 1) (λ js t. next (step + 1) js t ds v)

    turn_meets : (turn : Turn) (is : Items) (l : ℕ) (stop : Pass) (ds : List ℕ) (v : ℕ) → GoesTo is turn
        → Each Place is Done → Then turn ds v
        → Meets Rel equal p.shapes.structs edges (Ended (step + 1)) l (λ r t. graph n r (at (opened is)) t ds v) stop
        → Meets Rel equal p.shapes.structs edges (out turn l ds v) l (λ r t. graph n r (at (opened is)) t ds v)
        (turn_pass stop turn)
    turn_meets (Goes js t) is l stop ds v to each on stops =
        λ r. subst (λ z. Rel (next (step + 1) js t ds v) (graph n r (at (opened z)) (ext0 t) ds v)) to.0
        (on js t refl to.1 (subst (λ z. Each Place z Done) (sym to.0) each) (step + 1) r)
    turn_meets Stops is l stop ds v to each on stops = stops
    turn_meets (Faults k) is l stop ds v to each on stops = λ r. equal _ _ refl

    halts : (l : ℕ) (is : Items) (ds : List ℕ) (v : ℕ)
        → Meets Rel equal p.shapes.structs edges (Ended (step + 1)) l (λ r t. graph n r (at (opened is)) t ds v) Halted
    halts l is ds v = λ r. equal _ _ refl

    act_stops : (a : Act) (is : Items) (l : ℕ) (ds : List ℕ) (v : ℕ)
        → Meets Rel equal p.shapes.structs edges (Ended (step + 1)) l
        (λ r t. graph n r (at (opened (followed_by a is))) t ds v) (stop_of a s)
    act_stops (Return operand) is l ds v = λ r. equal _ _ (sym (exit_ends exit n r (ext0 (all_dead s)) ds v))
    act_stops _ is l ds v = λ r. equal _ _ refl

    abbrev Cont : Items → Type 0
    Cont o = (x : ℕ) (ds : List ℕ) (v : ℕ) → Then (turn_of p.shapes.structs mode o s x) ds v

    abbrev Goal : Items → Type 0
    Goal o = Rel (advance p.shapes.structs mode line at_end o next step s cs u)
        (graph (size (length p.vars) (length p.data_vars) o + n) q (at o) (ext0 s) cs u)

    -- one side of a test is taken
    side_on : (o : Items) (l : ℕ) (is : Items) → turn_of p.shapes.structs mode o s 0 ≡ settle s is
        → Each Place is Done
        → Cont o → (r : ℕ) → Rel (out (turn_of p.shapes.structs mode o s 0) l cs u)
        (graph n r (at (opened is)) (ext0 s) cs u)
    side_on o l is e each on r =
        let goes : turn_of p.shapes.structs mode o s 0 ≡ Goes is s = e ∙ rw clear refl in
        subst (λ z. Rel (out z l cs u) (graph n r (at (opened is)) (ext0 s) cs u)) (sym goes)
        (on 0 cs u is s goes clear each (step + 1) r)

    -- a side that is taken by one edge which changes nothing
    settles : (o : Items) (l : ℕ) (is : Items) (x : ℕ) (ds : List ℕ) (v : ℕ) → turn_of p.shapes.structs mode o s x
        ≡ settle s is → Each Place is Done → Cont o
        → Meets Rel equal p.shapes.structs edges (out (turn_of p.shapes.structs mode o s x) l ds v) l
        (λ r t. graph n r (at (opened is)) t ds v) (settled_pass s)
    settles o l is x ds v e each on =
        subst
        (λ z. Meets Rel equal p.shapes.structs edges (out (turn_of p.shapes.structs mode o s x) l ds v) l
        (λ r t. graph n r (at (opened is)) t ds v) z)
        (sym (settle_pass Halted s is ∙ ap (λ z. turn_pass Halted z) (sym e)))
        (turn_meets (turn_of p.shapes.structs mode o s x) is l Halted ds v
        (subst (GoesTo is) (sym e) (settle_to s is)) each
        (on x ds v) (halts l is ds v))

    one_more : (o : Outcome) (k : ℕ) → Rel o (graph (suc n) q k (ext0 s) cs u) → Rel o (graph (1 + n) q k (ext0 s) cs u)
    one_more o k h = let same : 1 + n ≡ suc n = omega arith in
        subst (λ z. Rel o (graph z q k (ext0 s) cs u)) (sym same) h

    module _ (m : ℕ) (x y is : Items) (yes_each : Each Place (x then is) Done) (no_each : Each Place (y then is) Done)
      where
        choose_step : (k : ℕ) → out_of edges k ≡ edge (line m) k (at (opened (y then is))) (Choose None) (Some 0)
            ∷ edge (line m) k (at (opened (x then is))) (Choose None) (Some 1) ∷ []
            → Cont (If (Ask ChoiceAtom m) x y is)
            → Rel
            (supply true cs (step + 1) u
            (λ c ds v. out (turn_of p.shapes.structs mode (If (Ask ChoiceAtom m) x y is) s c) (line m) ds v))
            (graph (suc n) q k (ext0 s) cs u)
        choose_step k w on =
            subst
            (λ z.
            Rel
            (supply true cs (step + 1) u
            (λ c ds v. out (turn_of p.shapes.structs mode (If (Ask ChoiceAtom m) x y is) s c) (line m) ds v)) z)
            (sym (ap (λ es. leave p.shapes.structs es (λ st j t ds v. graph n st j t ds v) q (ext0 s) cs u) w)) (by cs)
          where
            by : (cs : List ℕ) → Rel
                (supply true cs (step + 1) u
                (λ c ds v. out (turn_of p.shapes.structs mode (If (Ask ChoiceAtom m) x y is) s c) (line m) ds v))
                (leave p.shapes.structs (edge (line m) k (at (opened (y then is))) (Choose None) (Some 0)
                ∷ edge (line m) k (at (opened (x then is))) (Choose None) (Some 1) ∷ [])
                (λ st j t ds v. graph n st j t ds v) q (ext0 s) cs u)
            by [] = equal _ _ refl
            by (zero ∷ ds) =
                after_meets Rel equal p.shapes.structs edges (out (settle s (y then is)) (line m) ds (u + 1)) (line m)
                (λ r t. graph n r (at (opened (y then is))) t ds (u + 1)) (settled_pass s)
                (settles (If (Ask ChoiceAtom m) x y is) (line m) (y then is) 0 ds (u + 1) refl no_each on) (q + 1)
            by (suc zero ∷ ds) =
                after_meets Rel equal p.shapes.structs edges (out (settle s (x then is)) (line m) ds (u + 1)) (line m)
                (λ r t. graph n r (at (opened (x then is))) t ds (u + 1)) (settled_pass s)
                (settles (If (Ask ChoiceAtom m) x y is) (line m) (x then is) 1 ds (u + 1) refl yes_each on) (q + 1)
            by (suc (suc c) ∷ ds) = equal _ _ refl

        known_way : (o : Items) (k : ℕ) (js : Items)
            → out_of edges k ≡ edge (line m) k (at (opened js)) (Kill [] []) None
            ∷ [] → turn_of p.shapes.structs mode o s 0 ≡ settle s js → Each Place js Done → Cont o
            → Rel (out (turn_of p.shapes.structs mode o s 0) (line m) cs u) (graph (1 + n) q k (ext0 s) cs u)
        known_way o k js w e each on =
            along Rel equal p.shapes.structs edges (out (turn_of p.shapes.structs mode o s 0) (line m) cs u) (line m)
            (One (Kill [] []) ∷ []) k (at (opened js) ∷ []) (at (opened js)) (w, refl) tt 0 n q (ext0 s) cs u
            (subst
            (λ z. Meets Rel equal p.shapes.structs edges (out (turn_of p.shapes.structs mode o s 0) (line m) cs u)
            (line m)
            (λ r t. graph n r (at (opened js)) t cs u) z)
            (settle_pass Halted s js ∙ sym (kill_passes p typed 0 s sound clear [] [] Halted js))
            (settles o (line m) js 0 cs u e each on))

        -- a comparison
        compare_step : (a : Atom) (e : Bool) (loads : List Link) (test : Bool → Instr) (ends : List Link)
            (compared : Result Bool Kind) → atom_of a s 0 ≡ onward compared (λ same. Ok (agrees e same))
            → Tests p 0 s loads test ends compared
            → AreOnes loads → AreOnes ends → (k : ℕ) (ms : List ℕ)
            → IsTestRow edges (line m) loads test ends k ms (at (opened (side x y is (agrees e true))))
            (at (opened (side x y is (agrees e false)))) → Cont (If (Ask a m) x y is)
            → Rel (out (test_turn (atom_of a s 0) x y is s) (line m) cs u)
            (graph (length loads + suc (length ends) + n) q k (ext0 s) cs u)
        compare_step a e loads test ends compared is_compared tests loads_ones ends_ones' k ms row on =
            let same : length loads + suc (length ends) + n ≡ length loads + suc (length ends + n) = omega arith in
            subst (λ z. Rel (out (test_turn (atom_of a s 0) x y is s) (line m) cs u) (graph z q k (ext0 s) cs u))
            (sym same)
            (test_alike Rel equal p.shapes.structs edges p refl s
            (out (test_turn (atom_of a s 0) x y is s) (line m) cs u)
            (line m) loads test ends k ms
            (at (opened (side x y is (agrees e true)))) (at (opened (side x y is (agrees e false)))) row loads_ones
            ends_ones' compared tests n q cs u
            (λ f got r. subst (λ z. Rel (out (test_turn z x y is s) (line m) cs u) (Fault f (line m) r))
            (sym (is_compared ∙ ap (λ z. onward z (λ same. Ok (agrees e same))) got)) (equal _ _ refl))
            (λ got. taken (agrees e true) (is_compared ∙ ap (λ z. onward z (λ same. Ok (agrees e same))) got))
            (λ got. taken (agrees e false) (is_compared ∙ ap (λ z. onward z (λ same. Ok (agrees e same))) got)))
          where
            taken : (b : Bool) → atom_of a s 0 ≡ Ok b → (r : ℕ)
                → Rel (out (test_turn (atom_of a s 0) x y is s) (line m) cs u)
                (graph n r (at (opened (side x y is b))) (ext0 s) cs u)
            taken true e = side_on (If (Ask a m) x y is) (line m) (x then is) (ap (λ z. test_turn z x y is s) e)
                yes_each
                on
            taken false e = side_on (If (Ask a m) x y is) (line m) (y then is) (ap (λ z. test_turn z x y is s) e)
                no_each
                on

        atom_step : (a : Atom) → Place (If (Ask a m) x y is) → Cont (If (Ask a m) x y is) → Goal (If (Ask a m) x y is)
        atom_step ChoiceAtom h on = one_more _ _ (choose_step _ h.0.0 on)
        atom_step (KnownAtom true) h on =
            known_way (If (Ask (KnownAtom true) m) x y is) _ (x then is) h.0.0 refl yes_each on
        atom_step (KnownAtom false) h on =
            known_way (If (Ask (KnownAtom false) m) x y is) _ (y then is) h.0.0 refl no_each on
        atom_step (PtrAtom l r true) h on =
            compare_step (PtrAtom l r true) true _ _ _ _ (ptr_compared s l r true 0)
            (ptr_tests p 0 s sound clear l r h.1.0.0) (ptr_ones (length p.vars) (length p.data_vars) l r)
            (ends_ones _ _) _ _ h.0 on
        atom_step (PtrAtom l r false) h on =
            compare_step (PtrAtom l r false) false _ _ _ _ (ptr_compared s l r false 0)
            (ptr_tests p 0 s sound clear l r h.1.0.0) (ptr_ones (length p.vars) (length p.data_vars) l r)
            (ends_ones _ _) _ _ h.0 on
        atom_step (DataAtom l r true) h on =
            compare_step (DataAtom l r true) true _ _ _ _ (data_compared s l r true 0)
            (data_tests p 0 s sound clear l r h.1.0.0) (cmp_ones (length p.vars) (length p.data_vars) l r)
            (ends_ones _ _) _ _ h.0 on
        atom_step (DataAtom l r false) h on =
            compare_step (DataAtom l r false) false _ _ _ _ (data_compared s l r false 0)
            (data_tests p 0 s sound clear l r h.1.0.0) (cmp_ones (length p.vars) (length p.data_vars) l r)
            (ends_ones _ _) _ _ h.0 on

    -- a step of a call, or a `return` of one
    call_alike : (r : Result Store Kind) (js : Items) (l : ℕ) (ls : List Link) (k : ℕ) (ms : List ℕ)
        → IsWay edges l ls k ms (at (opened js)) → AreOnes ls
        → ((x : ℕ) → links_pass p.shapes.structs x ls (ext0 s) ≡ done_pass r) → Each Place js Done
        → ((x : ℕ) (ds : List ℕ) (v : ℕ) → Then (settled r js) ds v)
        → Rel (out (settled r js) l cs u) (graph (length ls + n) q k (ext0 s) cs u)
    call_alike r js l ls k ms w ones passes each on =
        row_alike Rel equal p.shapes.structs edges false (λ x ds v. out (settled r js) l ds v) (step + 1) l ls k ms
        (at (opened js)) w ones n q (ext0 s) cs u
        (λ x ds v.
        subst
        (λ z. Meets Rel equal p.shapes.structs edges (out (settled r js) l ds v) l
        (λ r t. graph n r (at (opened js)) t ds v) z) (sym (passes x ∙ done_turn Halted r js))
        (turn_meets (settled r js) js l Halted ds v (settled_to r js) each (on x ds v) (halts l js ds v)))

    pub step_alike : (o : Items) → Front Place o → ItemsFit p o → FreeAt p typed o s → Cont o → Goal o
    step_alike Done h fits free on = equal _ _ (sym (exit_ends exit (0 + n) q (ext0 s) cs u))
    step_alike (Do a m is) h fits free on =
        subst
        (λ k. Rel (supply (act_takes mode a) cs (step + 1) u
        (λ x ds v. out (act_turn p.shapes.structs mode a is s x) (line m) ds v))
        (graph (k + n) q (at (Do a m is)) (ext0 s) cs u))
        (length_in mode (act_row (length p.vars) (length p.data_vars) a is))
        (row_alike Rel equal p.shapes.structs edges (act_takes mode a)
        (λ x ds v. out (act_turn p.shapes.structs mode a is s x) (line m) ds v) (step + 1) (line m)
        (links_in mode (act_row (length p.vars) (length p.data_vars) a is)) (at (Do a m is)) h.0.0.way
        (at (opened (followed_by a is))) h.0.0.leads
        (act_row_takes (length p.vars) (length p.data_vars) mode a is) n q (ext0 s) cs u
        (λ x ds v.
        subst
        (λ z. Meets Rel equal p.shapes.structs edges (out (act_turn p.shapes.structs mode a is s x) (line m) ds v)
        (line m) (λ r t. graph n r (at (opened (followed_by a is))) t ds v) z)
        (sym (act_passes p typed x s sound clear mode a is fits.0))
        (turn_meets (act_turn p.shapes.structs mode a is s x) (followed_by a is) (line m) (stop_of a s) ds v
        (act_to p.shapes.structs mode a is s x) (each_followed Place a is h.1.1) (on x ds v)
        (act_stops a is (line m) ds v))))
    step_alike (Close ps ds m is) h fits free on =
        row_alike Rel equal p.shapes.structs edges false (λ x cs v. out (settle (kill ps ds s) is) (line m) cs v)
        (step + 1) (line m) (One (Kill ps ds) ∷ []) (at (Close ps ds m is)) h.0.0.way (at (opened is)) h.0.0.leads
        tt n q (ext0 s) cs u
        (λ x cs v.
        subst
        (λ z. Meets Rel equal p.shapes.structs edges (out (settle (kill ps ds s) is) (line m) cs v) (line m)
        (λ r t. graph n r (at (opened is)) t cs v) z) (sym (kill_passes p typed x s sound clear ps ds Halted is))
        (turn_meets (settle (kill ps ds s) is) is (line m) Halted cs v (settle_to (kill ps ds s) is) h.1.1 (on x cs v)
        (halts (line m) is cs v)))
    step_alike (If (Ask a m) x y is) h fits free on =
        atom_step m x y is (whole Place x is (rw (then_done is) at h.1.1) h.1.3)
        (whole Place y is (rw (then_done is) at h.1.2) h.1.3) a h.0 on
    step_alike (Enter vs ws m is) h fits free on =
        call_alike (enter s vs ws) is (line m) (enter_row (length p.vars) (length p.data_vars) vs ws)
        (at (Enter vs ws m is)) h.0.0.way h.0.0.leads
        (plain_ones _ (enter_plain (length p.vars) (length p.data_vars) vs ws))
        (λ x. enter_passes p typed x s sound clear vs ws fits.0 free) h.1.1 on
    step_alike (Leave v vs a m is) h fits free on =
        call_alike (leave_of s v vs a) (from_exit is) (line m)
        (leave_row (length p.vars) (length p.data_vars) v vs a)
        (at (Leave v vs a m is)) h.0.0.way h.0.0.leads
        (plain_ones _ (leave_plain (length p.vars) (length p.data_vars) v vs a))
        (λ x. leave_passes p typed x s sound clear v vs a fits.0) (each_exit Place is h.1.1) on
    step_alike (Exit v vs d m is) h fits free on =
        call_alike (exit_of s v vs d) is (line m) (exit_row (length p.vars) (length p.data_vars) v vs d)
        (at (Exit v vs d m is)) h.0.0.way h.0.0.leads
        (plain_ones _ (exit_plain (length p.vars) (length p.data_vars) v vs d))
        (λ x. exit_passes p typed x s sound clear v vs d fits.0) h.1.1 on
    step_alike _ h fits free on = absurd h.0.0

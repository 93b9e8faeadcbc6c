-- Where a program's run is over, the graph's is, alike; while the program's run goes on, so does the graph's; and a run
-- of a graph that is over stays so.
use Rattle.std.proofs.Common.{◌≡◌, ◌<◌, ◌≤◌, ◌+◌, ◌-◌, ℕ, zero, suc, Bool, true, false, if◌then◌else◌, List, [], ◌∷◌}
use Rattle.std.proofs.Common.{length, refl, sym, ap, ◌∙◌, subst, arith}
use Rattle.fore_base.specs.declared.shape.Shape.{Shape}
use Rattle.fore_base.specs.declared.store.Store.{Store}
use Rattle.fore_base.specs.Heap.{IsProper, leaks}
use Rattle.c_types.specs.declared.mode.MallocMode.{MallocMode}
use Rattle.c_types.specs.declared.outcome.Outcome.{Outcome}
use Rattle.c_types.specs.declared.outcome.Outcome.TheVariants.{Ended, Fault, Starved, BadChoice, StillRunning}
use Rattle.c_types.specs.declared.program.Atom.{Atom}
use Rattle.c_types.specs.declared.program.Atom.TheVariants.{Choice as ChoiceAtom, Known as KnownAtom, Ptr as PtrAtom}
use Rattle.c_types.specs.declared.program.Atom.TheVariants.{Data as DataAtom}
use Rattle.c_types.specs.Program.{Program, is_typed}
use Rattle.c_types.specs.Control.{Items, Done, Do, Close, If, Enter, Leave, Exit, Ask}
use Rattle.c_types.specs.Control.{◌then◌, opened}
use Rattle.c_types.specs.Steps.{Goes, turn_of}
use Rattle.c_types.specs.Runs.{supply, at_end, advance, go}
use Rattle.c_types.specs.Fits.{FitsProgram, ItemsFit}
use Rattle.c_types.proofs.Fitting.{Sound, is_sound, sound_fits, sound_proper}
use Rattle.c_types.proofs.ItemsTyped.{opened_fit}
use Rattle.c_types.proofs.StepLaws.{step_keeps, turn_gives}
use Rattle.c_cfg.specs.declared.graph.Instr.{Instr}
use Rattle.c_cfg.specs.declared.graph.Edge.{Edge}
use Rattle.c_cfg.specs.Graphs.{has_choice}
use Rattle.c_cfg.specs.Edges.{Pass, Passed, Faulted, Halted, NotPassed, gstep}
use Rattle.c_cfg.specs.GraphRuns.{out_of, is_taken_on, after_pass, unless_left, at_location, first_pass, leave, ggo}
use Rattle.c_cfg.specs.Links.{Link, One, Two, links_in, act_row, enter_row, leave_row, exit_row}
use Rattle.c_cfg.specs.Lowering.{IsWay, IsTestRow, IsRow}
use Rattle.c_cfg.proofs.Ranged.{Ranged, opened_open}
use Rattle.c_cfg.proofs.Calls.OpenCalls.{open_vars}
use Rattle.c_cfg.proofs.Calls.Idle.{Idle, Kept, step_keeps_idle, FreeAt, idle_free}
use Rattle.c_cfg.proofs.Filling.{Filled, filled_length, filled_in, act_filled, enter_filled, leave_filled, exit_filled}
use Rattle.c_cfg.proofs.Agree.Temporaries.{ext0}
use Rattle.c_cfg.proofs.Agree.Ways.{stepless}
use Rattle.c_cfg.proofs.Agree.StepsAlike.{IsKnown, size, exit_ends, step_alike}
use Rattle.c_cfg.proofs.Landing.{Each, Front, each_opened}

-- Relations of outcomes

-- where the first is over, the second is, alike
abbrev pub Follows : Outcome → Outcome → Type 0
Follows (Ended step) r = stepless r ≡ Ended 0
Follows (Fault kind line step) r = stepless r ≡ Fault kind line 0
Follows (Starved step) r = stepless r ≡ Starved 0
Follows (BadChoice index) r = stepless r ≡ BadChoice index
Follows StillRunning r = Unit {0}

follows_equal : (o r : Outcome) → stepless o ≡ stepless r → Follows o r
follows_equal StillRunning r e = tt
follows_equal _ r e = sym e

-- while the first goes on, the second does
abbrev pub Still : Outcome → Outcome → Type 0
Still (Ended step) r = Unit {0}
Still (Fault kind line step) r = Unit {0}
Still (Starved step) r = Unit {0}
Still (BadChoice index) r = Unit {0}
Still StillRunning r = r ≡ StillRunning

runs_on : (r : Outcome) → StillRunning ≡ stepless r → r ≡ StillRunning
runs_on StillRunning e = refl
runs_on _ e = absurd (cc e)

still_equal : (o r : Outcome) → stepless o ≡ stepless r → Still o r
still_equal StillRunning r e = runs_on r e
still_equal _ r e = tt

-- where the first is over, the second is the same
abbrev pub Stays : Outcome → Outcome → Type 0
Stays (Ended step) r = r ≡ Ended step
Stays (Fault kind line step) r = r ≡ Fault kind line step
Stays (Starved step) r = r ≡ Starved step
Stays (BadChoice index) r = r ≡ BadChoice index
Stays StillRunning r = Unit {0}

stays_same : (o : Outcome) → Stays o o
stays_same StillRunning = tt
stays_same _ = refl

-- what goes on later went on before
went_on : (o r : Outcome) → Stays o r → r ≡ StillRunning → o ≡ StillRunning
went_on StillRunning r h e = refl
went_on _ r h e = absurd (cc (h, e))

shorter : (o r t : Outcome) → Still o r → Stays t r → Still o t
shorter StillRunning r t h k = went_on t r k h
shorter _ r t h k = tt

-- A run of a graph that is over stays so

abbrev Rest : Type 0
Rest = ℕ → ℕ → Store → List ℕ → ℕ → Outcome

pass_stays : (z : Pass) (line q : ℕ) (f g : Store → Outcome) (a b : Outcome) → ((t : Store) → Stays (f t) (g t))
    → Stays a b → Stays (after_pass z line q f a) (after_pass z line q g b)
pass_stays (Passed t) line q f g a b h k = h t
pass_stays (Faulted j) line q f g a b h k = refl
pass_stays Halted line q f g a b h k = refl
pass_stays NotPassed line q f g a b h k = k

supply_stays : (b : Bool) (cs : List ℕ) (q u : ℕ) (f g : ℕ → List ℕ → ℕ → Outcome)
    → ((x : ℕ) (ds : List ℕ) (v : ℕ) → Stays (f x ds v) (g x ds v)) → Stays (supply b cs q u f) (supply b cs q u g)
supply_stays false cs q u f g k = k 0 cs u
supply_stays true [] q u f g k = refl
supply_stays true (zero ∷ cs) q u f g k = k 0 cs (u + 1)
supply_stays true (suc zero ∷ cs) q u f g k = k 1 cs (u + 1)
supply_stays true (suc (suc n) ∷ cs) q u f g k = refl

module _ (shapes : List Shape) where
  first_stays : (es : List Edge) (x : ℕ) (f g : ℕ → Store → Outcome) → ((k : ℕ) (t : Store) → Stays (f k t) (g k t))
      → (q : ℕ) (s : Store) → Stays (first_pass shapes es x f q s) (first_pass shapes es x g q s)
  first_stays [] x f g h q s = tt
  first_stays (e ∷ es) x f g h q s = by (first_stays es x f g h q s) (is_taken_on x e.choice)
    where
      by : Stays (first_pass shapes es x f q s) (first_pass shapes es x g q s) → (b : Bool)
          → Stays (if b then after_pass (gstep shapes e s) e.line q (f e.to) (first_pass shapes es x f q s)
          else first_pass shapes es x f q s)
          (if b then after_pass (gstep shapes e s) e.line q (g e.to) (first_pass shapes es x g q s)
          else first_pass shapes es x g q s)
      by rest true = pass_stays (gstep shapes e s) e.line q (f e.to) (g e.to) _ _ (λ t. h e.to t) rest
      by rest false = rest

  leave_stays : (f g : Rest) → ((q k : ℕ) (t : Store) (ds : List ℕ) (v : ℕ) → Stays (f q k t ds v) (g q k t ds v))
      → (es : List Edge) (q : ℕ) (s : Store) (cs : List ℕ) (u : ℕ)
      → Stays (leave shapes es f q s cs u) (leave shapes es g q s cs u)
  leave_stays f g h [] q s cs u = refl
  leave_stays f g h (e ∷ es) q s cs u =
      supply_stays (has_choice e.choice) cs (q + 1) u _ _
      (λ x ds v. first_stays (e ∷ es) x (λ k t. f (q + 1) k t ds v) (λ k t. g (q + 1) k t ds v)
      (λ k t. h (q + 1) k t ds v) (q + 1) s)

  left_stays : (es : List Edge) (f : Rest) (q : ℕ) (s : Store) (cs : List ℕ) (u : ℕ)
      → Stays (unless_left es q StillRunning) (leave shapes es f q s cs u)
  left_stays [] f q s cs u = refl
  left_stays (e ∷ es) f q s cs u = tt

  pub longer : (edges : List Edge) (n m : ℕ) → n ≤ m → (q k : ℕ) (s : Store) (cs : List ℕ) (u : ℕ)
      → Stays (ggo shapes edges (at_location edges) n q k s cs u) (ggo shapes edges (at_location edges) m q k s cs u)
  longer edges zero zero h q k s cs u = stays_same (at_location edges k q)
  longer edges zero (suc m) h q k s cs u = left_stays (out_of edges k) _ q s cs u
  longer edges (suc n) zero h q k s cs u = absurd (omega (arith, h))
  longer edges (suc n) (suc m) h q k s cs u =
      leave_stays _ _ (λ r j t ds v. longer edges n m (omega (arith, h)) r j t ds v) (out_of edges k) q s cs u

-- Each place's step has an edge

module _ (nv nd : ℕ) where
  atom_size_least : (a : Atom) (m : ℕ) (x y is : Items) → 0 < size nv nd (If (Ask a m) x y is)
  atom_size_least ChoiceAtom m x y is = omega arith
  atom_size_least _ m x y is = omega arith

-- some edge begins where a way does
begun : (edges : List Edge) (line : ℕ) (ls : List Link) (k : ℕ) (ms : List ℕ) (to : ℕ) → Filled ls
    → IsWay edges line ls k ms to → (q : ℕ) → at_location edges k q ≡ StillRunning
begun edges line [] k ms to h w q = absurd h
begun edges line (l ∷ ls) k [] to h w q = absurd w
begun edges line (One i ∷ ls) k (m ∷ ms) to h w q = ap (λ es. unless_left es q StillRunning) w.0
begun edges line (Two i j ∷ ls) k (m ∷ ms) to h w q = ap (λ es. unless_left es q StillRunning) w.0

test_begun : (edges : List Edge) (line : ℕ) (pre : List Link) (test : Bool → Instr) (post : List Link) (k : ℕ)
    (ms : List ℕ) (same other : ℕ) → IsTestRow edges line pre test post k ms same other → (q : ℕ)
    → at_location edges k q ≡ StillRunning
test_begun edges line (l ∷ pre) test post k ms same other row q =
    begun edges line (l ∷ pre) k row.front row.tested tt row.reads q
test_begun edges line [] test post k ms same other row q = by row.front row.reads
  where
    by : (front : List ℕ) → IsWay edges line [] k front row.tested → at_location edges k q ≡ StillRunning
    by [] e = ap (λ j. unless_left (out_of edges j) q StillRunning) e
        ∙ ap (λ es. unless_left es q StillRunning) row.compares
    by (m ∷ ms) e = absurd e

-- as many edges as n steps need, where no step needs more than most
abbrev pub fuel : ℕ → ℕ → ℕ
fuel most zero = 0
fuel most (suc n) = most + fuel most n

pub fuel_least : (most n : ℕ) → 0 < most → n ≤ fuel most n
fuel_least most zero h = omega arith
fuel_least most (suc n) h = omega (arith, h, fuel_least most n h)

module _ (p : Program) (typed : is_typed p ≡ true) (mode : MallocMode) (edges : List Edge) (line : ℕ → ℕ)
    (at : Items → ℕ) (mids : Items → List ℕ) (most : ℕ) (exit : out_of edges (at Done) ≡ []) where
  abbrev Place : Items → Type 0
  Place c = IsKnown p mode edges line at mids most c

  abbrev graph : ℕ → ℕ → ℕ → Store → List ℕ → ℕ → Outcome
  graph n q k g cs u = ggo p.shapes.structs edges (at_location edges) n q k g cs u

  abbrev source : ℕ → ℕ → Items → Store → List ℕ → ℕ → Outcome
  source n st c s cs u = go p.shapes.structs mode line at_end n st c s cs u

  -- what the run of a program is at between its steps
  pub record Ready (c : Items) (s : Store) : Type 0 where
    pub places : Each Place c Done
    pub fits : ItemsFit p c
    pub ranged : Ranged p c
    pub sound : Sound p s
    pub clear : leaks s ≡ false
    pub idle : Idle p typed (open_vars 0 c) s

  pub front_of : (c : Items) (s : Store) → Ready c s → Front Place (opened c)
  front_of c s ready = each_opened Place c (exit, (tt, tt), omega arith) ready.places

  -- the same where the items are opened
  pub idle_opened : (c : Items) (s : Store) → Ready c s → Idle p typed (open_vars 0 (opened c)) s
  idle_opened c s ready = subst (λ us. Idle p typed us s) (sym (opened_open p c ready.ranged)) ready.idle

  pub free_of : (c : Items) (s : Store) → Ready c s → FreeAt p typed (opened c) s
  free_of c s ready =
      let known : Place (opened c) = (front_of c s ready).0 in
      idle_free p typed (opened c) s known.1.0 known.1.1 (idle_opened c s ready)

  pub next_ready : (c js : Items) (s t : Store) (x : ℕ) → Ready c s → turn_of p.shapes.structs mode (opened c) s x
      ≡ Goes js t → leaks t ≡ false → Each Place js Done → Ready js t
  next_ready c js s t x ready e clear each =
      let kept : ItemsFit p js × IsProper t × FitsProgram p t =
      step_keeps p typed mode c js s t x ready.fits (sound_proper p s ready.sound) (sound_fits p s ready.sound) e in
      let known : Place (opened c) = (front_of c s ready).0 in
      let more : Kept p typed js t =
      turn_gives (Kept p typed) (turn_of p.shapes.structs mode (opened c) s x) js t
      (step_keeps_idle p typed mode (opened c) s x known.1.0 known.1.1 (idle_opened c s ready)) e in
      record {
        places = each;
        fits = kept.0;
        ranged = more.0;
        sound = is_sound p t kept.1 kept.2;
        clear = clear;
        idle = more.1;
      }

  over_start : (o : Items) (st m q : ℕ) (g : Store) (cs : List ℕ) (u : ℕ)
      → Follows (at_end o st) (graph m q (at o) g cs u)
  over_start Done st m q g cs u = exit_ends p typed mode Follows follows_equal edges line at mids most exit m q g cs u
  over_start _ st m q g cs u = tt

  -- where the program's run is over, so is the graph's
  pub over : (n m : ℕ) → fuel most n ≤ m → (c : Items) (s : Store) → Ready c s → (st q : ℕ) (cs : List ℕ) (u : ℕ)
      → Follows (source n st c s cs u) (graph m q (at (opened c)) (ext0 s) cs u)
  over zero m h c s ready st q cs u = over_start (opened c) st m q (ext0 s) cs u
  over (suc n) m h c s ready st q cs u =
      let front : Front Place (opened c) = front_of c s ready in
      let k : ℕ = size (length p.vars) (length p.data_vars) (opened c) in
      let least : size (length p.vars) (length p.data_vars) (opened c) ≤ most = front.0.2 in
      let split : m ≡ k + (m - k) = omega (arith, h, least) in
      subst (λ z. Follows (source (suc n) st c s cs u) (graph z q (at (opened c)) (ext0 s) cs u)) (sym split)
      (step_alike p typed mode Follows follows_equal edges line at mids most exit (m - k)
      (λ st js t ds v. source n st js t ds v) st q s ready.sound ready.clear cs u (opened c) front
      (opened_fit p c ready.fits) (free_of c s ready)
      (λ x ds v js t e clear each st r.
      over n (m - k) (omega (arith, h, least)) js t (next_ready c js s t x ready e clear each) st r ds v))

  atom_begun : (a : Atom) (m : ℕ) (x y is : Items)
      → IsRow (length p.vars) (length p.data_vars) edges mode line at mids (If (Ask a m) x y is) → (q : ℕ)
      → at_location edges (at (If (Ask a m) x y is)) q ≡ StillRunning
  atom_begun ChoiceAtom m x y is h q = ap (λ es. unless_left es q StillRunning) h.0
  atom_begun (KnownAtom true) m x y is h q = ap (λ es. unless_left es q StillRunning) h.0
  atom_begun (KnownAtom false) m x y is h q = ap (λ es. unless_left es q StillRunning) h.0
  atom_begun (PtrAtom l r true) m x y is h q = test_begun edges (line m) _ _ _ _ _ _ _ h q
  atom_begun (PtrAtom l r false) m x y is h q = test_begun edges (line m) _ _ _ _ _ _ _ h q
  atom_begun (DataAtom l r true) m x y is h q = test_begun edges (line m) _ _ _ _ _ _ _ h q
  atom_begun (DataAtom l r false) m x y is h q = test_begun edges (line m) _ _ _ _ _ _ _ h q

  still_start : (o : Items) → Place o → (st q : ℕ) → Still (at_end o st) (at_location edges (at o) q)
  still_start Done h st q = tt
  still_start (Do a m is) h st q =
      begun edges (line m) (links_in mode (act_row (length p.vars) (length p.data_vars) a is)) _ h.0.way _
      (filled_in mode (act_row (length p.vars) (length p.data_vars) a is)
      (act_filled (length p.vars) (length p.data_vars) a is)) h.0.leads q
  still_start (Close ps ds m is) h st q = begun edges (line m) (One _ ∷ []) _ h.0.way _ tt h.0.leads q
  still_start (If (Ask a m) x y is) h st q = atom_begun a m x y is h.0 q
  still_start (Enter vs ws m is) h st q =
      begun edges (line m) (enter_row (length p.vars) (length p.data_vars) vs ws) _ h.0.way _
      (enter_filled (length p.vars) (length p.data_vars) vs ws) h.0.leads q
  still_start (Leave v vs a m is) h st q =
      begun edges (line m) (leave_row (length p.vars) (length p.data_vars) v vs a) _ h.0.way _
      (leave_filled (length p.vars) (length p.data_vars) v vs a) h.0.leads q
  still_start (Exit v vs d m is) h st q =
      begun edges (line m) (exit_row (length p.vars) (length p.data_vars) v vs d) _ h.0.way _
      (exit_filled (length p.vars) (length p.data_vars) v vs d) h.0.leads q
  still_start _ h st q = absurd h.0

  -- one step, given the runs after it
  module _ (n : ℕ) (later : (c : Items) (s : Store) → Ready c s → (st q : ℕ) (cs : List ℕ) (u : ℕ)
      → Still (source n st c s cs u) (graph n q (at (opened c)) (ext0 s) cs u))
      (c : Items) (s : Store) (ready : Ready c s) (st q : ℕ) (cs : List ℕ) (u : ℕ) where
    cut : (o : Items) → opened c ≡ o → 0 < size (length p.vars) (length p.data_vars) (opened c)
        → Still (advance p.shapes.structs mode line at_end (opened c)
        (λ st js t ds v. source n st js t ds v) st s cs u)
        (graph (suc n) q (at (opened c)) (ext0 s) cs u)
    cut o is h =
        let k : ℕ = size (length p.vars) (length p.data_vars) (opened c) in
        shorter _ (graph (k + n) q (at (opened c)) (ext0 s) cs u) _
        (step_alike p typed mode Still still_equal edges line at mids most exit n
        (λ st js t ds v. source n st js t ds v) st q s ready.sound ready.clear cs u (opened c) (front_of c s ready)
        (opened_fit p c ready.fits) (free_of c s ready)
        (λ x ds v js t e clear each st r. later js t (next_ready c js s t x ready e clear each) st r ds v))
        (longer p.shapes.structs edges (suc n) (k + n) (omega (arith, h)) q (at (opened c)) (ext0 s) cs u)

    ended_at_once : (o : Items) → o ≡ Done
        → Still (advance p.shapes.structs mode line at_end o (λ st js t ds v. source n st js t ds v) st s cs u)
        (graph (suc n) q (at o) (ext0 s) cs u)
    ended_at_once o is = subst
        (λ z. Still (advance p.shapes.structs mode line at_end z (λ st js t ds v. source n st js t ds v) st s cs u)
        (graph (suc n) q (at z) (ext0 s) cs u)) (sym is) tt

    long : (o : Items) → Place o → opened c ≡ o → 0 < size (length p.vars) (length p.data_vars) o
        → Still (advance p.shapes.structs mode line at_end (opened c)
        (λ st js t ds v. source n st js t ds v) st s cs u)
        (graph (suc n) q (at (opened c)) (ext0 s) cs u)
    long o h is least = cut o is (subst (λ z. 0 < size (length p.vars) (length p.data_vars) z) (sym is) least)

    step_goes : (o : Items) → Place o → opened c ≡ o
        → Still (advance p.shapes.structs mode line at_end (opened c)
        (λ st js t ds v. source n st js t ds v) st s cs u)
        (graph (suc n) q (at (opened c)) (ext0 s) cs u)
    step_goes Done h is = ended_at_once (opened c) is
    step_goes (Do a m js) h is =
        long (Do a m js) h is
        (filled_length (act_row (length p.vars) (length p.data_vars) a js)
        (act_filled (length p.vars) (length p.data_vars) a js))
    step_goes (Close ps ds m js) h is = long (Close ps ds m js) h is (omega arith)
    step_goes (If (Ask a m) x y js) h is =
        long (If (Ask a m) x y js) h is (atom_size_least (length p.vars) (length p.data_vars) a m x y js)
    step_goes (Enter vs ws m js) h is =
        long (Enter vs ws m js) h is
        (filled_length (enter_row (length p.vars) (length p.data_vars) vs ws)
        (enter_filled (length p.vars) (length p.data_vars) vs ws))
    step_goes (Leave v vs a m js) h is =
        long (Leave v vs a m js) h is
        (filled_length (leave_row (length p.vars) (length p.data_vars) v vs a)
        (leave_filled (length p.vars) (length p.data_vars) v vs a))
    step_goes (Exit v vs d m js) h is =
        long (Exit v vs d m js) h is
        (filled_length (exit_row (length p.vars) (length p.data_vars) v vs d)
        (exit_filled (length p.vars) (length p.data_vars) v vs d))
    step_goes _ h is = absurd h.0

  -- while the program's run goes on, so does the graph's
  pub goes_on : (n : ℕ) (c : Items) (s : Store) → Ready c s → (st q : ℕ) (cs : List ℕ) (u : ℕ)
      → Still (source n st c s cs u) (graph n q (at (opened c)) (ext0 s) cs u)
  goes_on zero c s ready st q cs u = still_start (opened c) (front_of c s ready).0 st q
  goes_on (suc n) c s ready st q cs u =
      step_goes n (λ c s ready st q cs u. goes_on n c s ready st q cs u) c s ready st q cs u (opened c)
      (front_of c s ready).0 refl

-- A graph's run along the edges of a step, for any relation of outcomes that counts no steps.
use Rattle.std.proofs.Common.{◌≡◌, ◌+◌, ℕ, zero, suc, Bool, true, false, Some, None, Result, Ok, Err, List, [], ◌∷◌}
use Rattle.std.proofs.Common.{length, refl, sym, ap, ◌∙◌, subst, arith}
use Rattle.fore_base.specs.declared.fault.Fault.{Fault as Kind}
use Rattle.fore_base.specs.declared.shape.Shape.{Shape}
use Rattle.fore_base.specs.declared.store.Store.{Store}
use Rattle.fore_base.specs.Heap.{leaks}
use Rattle.c_types.specs.declared.outcome.Outcome.{Outcome}
use Rattle.c_types.specs.declared.outcome.Outcome.TheVariants.{Ended, Fault, Starved, BadChoice, StillRunning}
use Rattle.c_types.specs.Program.{Program}
use Rattle.c_types.specs.Runs.{supply}
use Rattle.c_cfg.specs.declared.graph.Instr.{Instr}
use Rattle.c_cfg.specs.declared.graph.Edge.{Edge}
use Rattle.c_cfg.specs.Edges.{Pass, Passed, Faulted, Halted, NotPassed, onto, if_agreed, raw_step, leak_tested}
use Rattle.c_cfg.specs.GraphRuns.{out_of, at_location, after_pass, leave, ggo}
use Rattle.c_cfg.specs.Links.{Link, One, Two}
use Rattle.c_cfg.specs.Lowering.{edge, IsWay, IsTestRow}
use Rattle.c_cfg.proofs.Agree.Temporaries.{ext0}
use Rattle.c_cfg.proofs.Agree.Passing.{then_pass, links_pass}
use Rattle.c_cfg.proofs.Agree.Tested.{Tests, faults, compares}

-- an outcome but for its number of steps
abbrev pub stepless : Outcome → Outcome
stepless (Ended step) = Ended 0
stepless (Fault kind line step) = Fault kind line 0
stepless (Starved step) = Starved 0
stepless (BadChoice index) = BadChoice index
stepless StillRunning = StillRunning

-- none of the links takes a choice
abbrev pub AreOnes : List Link → Type 0
AreOnes [] = Unit {0}
AreOnes (One i ∷ ls) = AreOnes ls
AreOnes (Two i j ∷ ls) = ⊥

-- the first takes one, if one is taken, and no other does
abbrev pub TakesAs : Bool → List Link → Type 0
TakesAs false ls = AreOnes ls
TakesAs true [] = ⊥
TakesAs true (One i ∷ ls) = ⊥
TakesAs true (Two i j ∷ ls) = AreOnes ls

module _ (Rel : Outcome → Outcome → Type 0) (equal : (o r : Outcome) → stepless o ≡ stepless r → Rel o r)
    (shapes : List Shape) (edges : List Edge) where
  abbrev pub graph_run : ℕ → ℕ → ℕ → Store → List ℕ → ℕ → Outcome
  graph_run n q k g cs u = ggo shapes edges (at_location edges) n q k g cs u

  -- what comes after links is related to the outcome o
  abbrev pub Meets : Outcome → ℕ → (ℕ → Store → Outcome) → Pass → Type 0
  Meets o line next (Passed t) = (q : ℕ) → Rel o (next q t)
  Meets o line next (Faulted k) = (q : ℕ) → Rel o (Fault k line q)
  Meets o line next Halted = (q : ℕ) → Rel o (Ended q)
  Meets o line next NotPassed = Rel o StillRunning

  pub after_meets : (o : Outcome) (line : ℕ) (next : ℕ → Store → Outcome) (z : Pass) → Meets o line next z → (q : ℕ)
      → Rel o (after_pass z line q (λ t. next q t) StillRunning)
  after_meets o line next NotPassed h q = h
  after_meets o line next _ h q = h q

  -- one edge, and those after it
  hop : (o : Outcome) (line : ℕ) (next : ℕ → Store → Outcome) (z : Pass) (rest : Store → Pass) (f : Store → Outcome)
      (q : ℕ) → Meets o line next (then_pass z rest) → ((t : Store) → Meets o line next (rest t) → Rel o (f t))
      → Rel o (after_pass z line q f StillRunning)
  hop o line next (Passed t) rest f q h on = on t h
  hop o line next (Faulted k) rest f q h on = h q
  hop o line next Halted rest f q h on = h q
  hop o line next NotPassed rest f q h on = h

  pub along : (o : Outcome) (line : ℕ) (ls : List Link) (k : ℕ) (ms : List ℕ) (to : ℕ) → IsWay edges line ls k ms to
      → AreOnes ls → (x n q : ℕ) (g : Store) (cs : List ℕ) (u : ℕ)
      → Meets o line (λ q t. graph_run n q to t cs u) (links_pass shapes x ls g)
      → Rel o (graph_run (length ls + n) q k g cs u)
  along o line [] k [] to w ones x n q g cs u h =
      let same : 0 + n ≡ n = omega arith in
      subst (λ z. Rel o (graph_run z q k g cs u)) (sym same) (subst (λ z. Rel o (graph_run n q z g cs u)) (sym w) (h q))
  along o line [] k (m ∷ ms) to w ones x n q g cs u h = absurd w
  along o line (l ∷ ls) k [] to w ones x n q g cs u h = absurd w
  along o line (Two i j ∷ ls) k (m ∷ ms) to w ones x n q g cs u h = absurd ones
  along o line (One i ∷ ls) k (m ∷ ms) to w ones x n q g cs u h =
      let more : length (One i ∷ ls) + n ≡ suc (length ls + n) = omega arith in
      subst (λ z. Rel o (graph_run z q k g cs u)) (sym more)
      (subst (λ z. Rel o z)
      (sym (ap (λ es. leave shapes es (λ st j t ds v. graph_run (length ls + n) st j t ds v) q g cs u) w.0))
      (hop o line (λ q t. graph_run n q to t cs u) (leak_tested (raw_step shapes i 0 g)) (λ t. links_pass shapes x ls t)
      (λ t. graph_run (length ls + n) (q + 1) m t cs u) (q + 1) h
      (λ t on. along o line ls m ms to w.1 ones x n (q + 1) t cs u on)))

  taking : (out : ℕ → List ℕ → ℕ → Outcome) (step line : ℕ) (i j : Instr) (ls : List Link) (k m : ℕ) (ms : List ℕ)
      (to : ℕ) → IsWay edges line (Two i j ∷ ls) k (m ∷ ms) to → AreOnes ls → (n q : ℕ) (g : Store) (u : ℕ)
      → ((x : ℕ) (ds : List ℕ) (v : ℕ)
      → Meets (out x ds v) line (λ q t. graph_run n q to t ds v) (links_pass shapes x (Two i j ∷ ls) g))
      → (cs : List ℕ)
      → Rel (supply true cs step u out) (graph_run (suc (length ls + n)) q k g cs u)
  taking out step line i j ls k m ms to w ones n q g u h cs =
      subst (λ z. Rel (supply true cs step u out) z)
      (sym (ap (λ es. leave shapes es (λ st j t ds v. graph_run (length ls + n) st j t ds v) q g cs u) w.0)) (by cs)
    where
      by : (cs : List ℕ) → Rel (supply true cs step u out)
          (leave shapes (edge line k m i (Some 0) ∷ edge line k m j (Some 1) ∷ [])
          (λ st j t ds v. graph_run (length ls + n) st j t ds v) q g cs u)
      by [] = equal _ _ refl
      by (zero ∷ ds) =
          hop (out 0 ds (u + 1)) line (λ q t. graph_run n q to t ds (u + 1)) (leak_tested (raw_step shapes i 0 g))
          (λ t. links_pass shapes 0 ls t) (λ t. graph_run (length ls + n) (q + 1) m t ds (u + 1)) (q + 1)
          (h 0 ds (u + 1))
          (λ t on. along (out 0 ds (u + 1)) line ls m ms to w.1 ones 0 n (q + 1) t ds (u + 1) on)
      by (suc zero ∷ ds) =
          hop (out 1 ds (u + 1)) line (λ q t. graph_run n q to t ds (u + 1)) (leak_tested (raw_step shapes j 1 g))
          (λ t. links_pass shapes 1 ls t) (λ t. graph_run (length ls + n) (q + 1) m t ds (u + 1)) (q + 1)
          (h 1 ds (u + 1))
          (λ t on. along (out 1 ds (u + 1)) line ls m ms to w.1 ones 1 n (q + 1) t ds (u + 1) on)
      by (suc (suc x) ∷ ds) = equal _ _ refl

  -- the links of an act
  pub row_alike : (takes : Bool) (out : ℕ → List ℕ → ℕ → Outcome) (step line : ℕ) (ls : List Link) (k : ℕ) (ms : List ℕ)
      (to : ℕ) → IsWay edges line ls k ms to → TakesAs takes ls → (n q : ℕ) (g : Store) (cs : List ℕ) (u : ℕ)
      → ((x : ℕ) (ds : List ℕ) (v : ℕ)
      → Meets (out x ds v) line (λ q t. graph_run n q to t ds v) (links_pass shapes x ls g))
      → Rel (supply takes cs step u out) (graph_run (length ls + n) q k g cs u)
  row_alike false out step line ls k ms to w ones n q g cs u h =
      along (out 0 cs u) line ls k ms to w ones 0 n q g cs u (h 0 cs u)
  row_alike true out step line [] k ms to w takes n q g cs u h = absurd takes
  row_alike true out step line (One i ∷ ls) k ms to w takes n q g cs u h = absurd takes
  row_alike true out step line (Two i j ∷ ls) k [] to w takes n q g cs u h = absurd w
  row_alike true out step line (Two i j ∷ ls) k (m ∷ ms) to w takes n q g cs u h =
      let more : length (Two i j ∷ ls) + n ≡ suc (length ls + n) = omega arith in
      subst (λ z. Rel (supply true cs step u out) (graph_run z q k g cs u)) (sym more)
      (taking out step line i j ls k m ms to w takes n q g u h cs)

  -- the two edges of a test
  two_edges : (o : Outcome) (line a b c : ℕ) (i j : Instr) → out_of edges a ≡ edge line a b i None
      ∷ edge line a c j None ∷ [] → (n q : ℕ) (g : Store) (cs : List ℕ) (u : ℕ) (compared : Result Bool Kind)
      → leaks g ≡ false
      → raw_step shapes i 0 g ≡ onto compared (λ same. if_agreed true same g) → raw_step shapes j 0 g
      ≡ onto compared (λ same. if_agreed false same g)
      → ((k : Kind) → compared ≡ Err k → (q : ℕ) → Rel o (Fault k line q))
      → (compared ≡ Ok true → (q : ℕ) → Rel o (graph_run n q b g cs u))
      → (compared ≡ Ok false → (q : ℕ) → Rel o (graph_run n q c g cs u))
      → Rel o (graph_run (suc n) q a g cs u)
  two_edges o line a b c i j w n q g cs u compared clear ei ej hk hb hc =
      subst (λ z. Rel o z) (sym (ap (λ es. leave shapes es (λ st j t ds v. graph_run n st j t ds v) q g cs u) w))
      (subst
      (λ z.
      Rel o
      (after_pass (leak_tested z) line (q + 1) (λ t. graph_run n (q + 1) b t cs u)
      (after_pass (leak_tested (raw_step shapes j 0 g)) line (q + 1) (λ t. graph_run n (q + 1) c t cs u)
      StillRunning))) (sym ei)
      (subst
      (λ z.
      Rel o
      (after_pass (leak_tested (onto compared (λ same. if_agreed true same g))) line (q + 1)
      (λ t. graph_run n (q + 1) b t cs u)
      (after_pass (leak_tested z) line (q + 1) (λ t. graph_run n (q + 1) c t cs u) StillRunning))) (sym ej)
      (by compared hk hb hc)))
    where
      by : (r : Result Bool Kind) → ((k : Kind) → r ≡ Err k → (q : ℕ) → Rel o (Fault k line q))
          → (r ≡ Ok true → (q : ℕ) → Rel o (graph_run n q b g cs u))
          → (r ≡ Ok false → (q : ℕ) → Rel o (graph_run n q c g cs u))
          → Rel o
          (after_pass (leak_tested (onto r (λ same. if_agreed true same g))) line (q + 1)
          (λ t. graph_run n (q + 1) b t cs u)
          (after_pass (leak_tested (onto r (λ same. if_agreed false same g))) line (q + 1)
          (λ t. graph_run n (q + 1) c t cs u) StillRunning))
      by (Err k) hk hb hc = hk k refl (q + 1)
      by (Ok true) hk hb hc = rw clear (hb refl (q + 1))
      by (Ok false) hk hb hc = rw clear (hc refl (q + 1))

  -- a comparison
  pub test_alike : (p : Program) → p.shapes.structs ≡ shapes
      → (s : Store) (o : Outcome) (line : ℕ) (loads : List Link) (test : Bool → Instr) (ends : List Link) (k : ℕ)
      (mids : List ℕ) (same other : ℕ) → IsTestRow edges line loads test ends k mids same other
      → AreOnes loads → AreOnes ends → (compared : Result Bool Kind) → Tests p 0 s loads test ends compared
      → (n q : ℕ) (cs : List ℕ) (u : ℕ)
      → ((k : Kind) → compared ≡ Err k → (q : ℕ) → Rel o (Fault k line q))
      → (compared ≡ Ok true → (q : ℕ) → Rel o (graph_run n q same (ext0 s) cs u))
      → (compared ≡ Ok false → (q : ℕ) → Rel o (graph_run n q other (ext0 s) cs u))
      → Rel o (graph_run (length loads + suc (length ends + n)) q k (ext0 s) cs u)
  test_alike p is s o line loads test ends k mids same other row loads_ones ends_ones compared (faults f reads meets) n
      q cs u hk hs ho =
      along o line loads k row.front row.tested row.reads loads_ones 0 (suc (length ends + n)) q (ext0 s) cs u
      (subst (λ z. Meets o line (λ q t. graph_run (suc (length ends + n)) q row.tested t cs u) z)
      (sym (ap (λ ss. links_pass ss 0 loads (ext0 s)) (sym is) ∙ reads)) (hk f meets))
  test_alike p is s o line loads test ends k mids same other row loads_ones ends_ones compared
      (compares g reads clear tests ended) n q cs u hk hs ho =
      along o line loads k row.front row.tested row.reads loads_ones 0 (suc (length ends + n)) q (ext0 s) cs u
      (subst (λ z. Meets o line (λ q t. graph_run (suc (length ends + n)) q row.tested t cs u) z)
      (sym (ap (λ ss. links_pass ss 0 loads (ext0 s)) (sym is) ∙ reads))
      (λ q. two_edges o line row.tested row.if_same row.if_other (test true) (test false) row.compares (length ends + n)
      q g cs u compared clear
      (ap (λ ss. raw_step ss (test true) 0 g) (sym is) ∙ tests true)
      (ap (λ ss. raw_step ss (test false) 0 g) (sym is) ∙ tests false) hk
      (λ yes' q. along o line ends row.if_same row.after_same same row.same_ends ends_ones 0 n q g cs u
      (subst (λ z. Meets o line (λ q t. graph_run n q same t cs u) z)
      (sym (ap (λ ss. links_pass ss 0 ends g) (sym is) ∙ ended)) (hs yes')))
      (λ no' q. along o line ends row.if_other row.after_other other row.other_ends ends_ones 0 n q g cs u
      (subst (λ z. Meets o line (λ q t. graph_run n q other t cs u) z)
      (sym (ap (λ ss. links_pass ss 0 ends g) (sym is) ∙ ended)) (ho no')))))

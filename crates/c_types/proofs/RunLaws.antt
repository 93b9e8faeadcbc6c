-- The laws of runs.
use Rattle.std.proofs.Common.{◌≡◌, ◌≤◌, ℕ, List, length, sym, subst, arith}
use Rattle.fore_base.specs.declared.fault.Fault.{Fault as Kind}
use Rattle.c_types.specs.declared.mode.MallocMode.{MallocMode}
use Rattle.c_types.specs.declared.outcome.Outcome.TheVariants.{Fault}
use Rattle.c_types.specs.Program.{Program}
use Rattle.c_types.specs.Control.{start_of}
use Rattle.c_types.specs.Runs.{run, go, at_end, own_line, empty_store}
use Rattle.c_types.specs.Over.{IsOver}
use Rattle.c_types.proofs.Advancing.{MetAt, stays_over, met_at}

pub run_stays_over : (p : Program) (mode : MallocMode) (cs : List ℕ) (n m : ℕ) → n ≤ m → IsOver (run p mode cs n)
    → run p mode cs m ≡ run p mode cs n
unfolding run
run_stays_over p mode cs n m less over =
    stays_over p.shapes.structs mode own_line n m 0 (start_of p) (empty_store (length p.vars) (length p.data_vars)) cs 0
    less over

pub run_met_at : (p : Program) (mode : MallocMode) (cs : List ℕ) (n : ℕ) (kind : Kind) (at step : ℕ)
    → run p mode cs n ≡ Fault kind at step → (step ≤ n) × (run p mode cs step ≡ Fault kind at step)
unfolding run
run_met_at p mode cs n kind at step e =
    let s = empty_store (length p.vars) (length p.data_vars) in
    let found : MetAt p.shapes.structs mode own_line n 0 (start_of p) s cs 0 kind at step =
    met_at p.shapes.structs mode own_line n 0 (start_of p) s cs 0 kind at step e in
    let same : step ≡ found.steps = omega (arith, found.is_step) in (
      omega (arith, found.within, same),
      subst (λ k. go p.shapes.structs mode own_line at_end k 0 (start_of p) s cs 0 ≡ Fault kind at step) (sym same)
          found.meets,
    )

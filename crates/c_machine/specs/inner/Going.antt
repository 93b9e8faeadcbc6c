-- The rest of a run from items that are opened.
use Rattle.std.specs.Prelude.{ℕ, zero, suc, List}
use Rattle.fore_base.specs.declared.shape.Shape.{Shape}
use Rattle.fore_base.specs.declared.store.Store.{Store}
use Rattle.c_types.specs.declared.mode.MallocMode.{MallocMode}
use Rattle.c_types.specs.declared.outcome.Outcome.{Outcome}
use Rattle.c_types.specs.Control.{Items}
use Rattle.c_types.specs.Runs.{advance, go, at_end, own_line}

-- at most n further steps, after `step` steps
abbrev pub going : List Shape → MallocMode → ℕ → ℕ → Items → Store → List ℕ → ℕ → Outcome
going shapes mode zero step is s cs used = at_end is step
going shapes mode (suc n) step is s cs used =
    advance shapes mode own_line at_end is (λ step' js t ds u. go shapes mode own_line at_end n step' js t ds u) step s
    cs used

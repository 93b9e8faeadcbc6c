-- What edges do to alike stores.
use Rattle.std.specs.Prelude.{◌≡◌, ℕ, [], replicate}
use Rattle.fore_base.specs.declared.store.Value.TheVariants.{Uninit}
use Rattle.fore_base.specs.declared.store.Datum.TheVariants.{Undefined}
use Rattle.fore_base.specs.declared.store.Store.{Store}
use Rattle.fore_base.specs.Heap.{IsAlike}
use Rattle.c_cfg.specs.Edges.{Pass, Passed, Faulted, Halted, NotPassed}

-- both pass to alike stores, meet one fault, stop, or are not passed
abbrev pub LikePass : Pass → Pass → Type 0
LikePass (Passed s) (Passed t) = IsAlike s t
LikePass (Passed s) (Faulted k) = ⊥
LikePass (Passed s) Halted = ⊥
LikePass (Passed s) NotPassed = ⊥
LikePass (Faulted k) (Passed t) = ⊥
LikePass (Faulted k) (Faulted j) = k ≡ j
LikePass (Faulted k) Halted = ⊥
LikePass (Faulted k) NotPassed = ⊥
LikePass Halted (Passed t) = ⊥
LikePass Halted (Faulted j) = ⊥
LikePass Halted Halted = Unit {0}
LikePass Halted NotPassed = ⊥
LikePass NotPassed (Passed t) = ⊥
LikePass NotPassed (Faulted j) = ⊥
LikePass NotPassed Halted = ⊥
LikePass NotPassed NotPassed = Unit {0}

-- no cell, and no variable set, of so many pointer and data variables; `next` is free
pub record IsUnset (ptrs datums : ℕ) (s : Store) : Type 0 where
  pub vars : s.vars ≡ replicate ptrs Uninit
  pub data_vars : s.data_vars ≡ replicate datums Undefined
  pub cells : s.cells ≡ []

-- Edges that follow a pointer: its target says where to, for all members alike.
use Rattle.std.proofs.Common.{◌≡◌, ◌∙◌, ℕ, List, Bool, true, false, true≢false, Some, Result, Ok, Err, sym, ap}
use Rattle.fore_base.specs.Stores.{followed, var_of}
use Rattle.fore_base.specs.declared.fault.Fault.{Fault}
use Rattle.fore_base.specs.declared.store.CellRec.{CellRec}
use Rattle.fore_base.specs.declared.store.Value.{Value}
use Rattle.fa_core.specs.declared.forest.Forest.{Forest}
use Rattle.fa_core.specs.declared.forest.Target.{Target}
use Rattle.fa_core.specs.declared.forest.Target.TheVariants.{Null, Uninit, Dangling, At}
use Rattle.fa_core.specs.Dressed.{Node, Nodes, number, roots_of, value_in}
use Rattle.fa_back.specs.Reached.{node_at}
use Rattle.c_cfg.specs.Edges.{Pass, Faulted, onto}
use Rattle.sym_core.specs.Explicit.{target_at}
use Rattle.sym_transfer.specs.inner.Targets.{root_of}
use Rattle.sym_transfer.proofs.Carrying.{var_is}
use Rattle.sym_transfer.proofs.Standing.{store_by, root_value}

abbrev ok_number : Result ℕ Fault → ℕ
ok_number (Ok r) = r
ok_number (Err k) = 0

abbrev is_right : Result ℕ Fault → Bool
is_right (Ok r) = true
is_right (Err k) = false

-- a target from which the code has a root is that root
pub root_is : (t : Target) (r : ℕ) → root_of t ≡ Ok r → t ≡ At r
root_is Null r e = absurd (true≢false (sym (ap is_right e)))
root_is Uninit r e = absurd (true≢false (sym (ap is_right e)))
root_is Dangling r e = absurd (true≢false (sym (ap is_right e)))
root_is (At j) r e = ap At (ap ok_number e)

-- the fault of a target is the fault of its value
followed_fault : (vs : List Value) (t : Target) (k : Fault) → root_of t ≡ Err k → followed (value_in vs t) ≡ Err k
followed_fault vs Null k e = e
followed_fault vs Uninit k e = e
followed_fault vs Dangling k e = e
followed_fault vs (At r) k e = absurd (true≢false (ap is_right e))

module _ (H : Forest) (b : ℕ) (d : Nodes) (cs : List CellRec) (next : ℕ) (then_do : ℕ → Pass) where
  -- a step that follows variable b, where its target is no cell
  pub follow_fails : (k : Fault) → root_of (target_at H b) ≡ Err k
      → onto (followed (var_of (store_by d H cs next) b)) then_do ≡ Faulted k
  follow_fails k e = ap (λ (v : Value). onto (followed v) then_do) (var_is d H cs next b)
      ∙ ap (λ (r : Result ℕ Fault). onto r then_do) (followed_fault (roots_of d) (target_at H b) k e)

  -- and where it is root r
  pub follow_root : (r : ℕ) → target_at H b ≡ At r → (n : Node) → node_at d r ≡ Some n
      → onto (followed (var_of (store_by d H cs next) b)) then_do ≡ then_do (number n)
  follow_root r e n p = ap (λ (v : Value). onto (followed v) then_do)
      (var_is d H cs next b ∙ ap (value_in (roots_of d)) e ∙ root_value r d n p)

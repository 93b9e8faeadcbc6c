-- How long a walk over statements is that goes into blocks, which its end is shown by.
use Rattle.std.proofs.Common.{◌≡◌, ◌<◌, ◌≤◌, ◌+◌, ℕ, zero, suc, List, [], ◌∷◌, map, length, slice_index_or, sym, ap, ◌∙◌}
use Rattle.std.proofs.Common.{subst, arith}
use Rattle.fore_base.specs.Lists.{sum_of}
use Rattle.c_types.specs.declared.program.Stmt.{Stmt, Stmt-F, fold-Stmt, fold-roll-Stmt}
use Rattle.c_types.specs.declared.program.Stmt.TheVariants.{Group, rolls-Group}
use Rattle.c_types.specs.declared.program.Stmt.TheOpen.{Do as Do-F, Branch as Branch-F, While as While-F}
use Rattle.c_types.specs.declared.program.Stmt.TheOpen.{DoWhile as DoWhile-F, For as For-F, Group as Group-F}
use Rattle.c_types.specs.declared.program.Stmt.TheOpen.{Call as Call-F}

abbrev pub walk_step : Stmt-F ℕ → ℕ
walk_step (Do-F a line) = 1
walk_step (Branch-F c x y) = 1
walk_step (While-F c b) = 1
walk_step (DoWhile-F c b) = 1
walk_step (For-F c n b) = 1
walk_step (Group-F b ps ds m) = sum_of b + 2
walk_step (Call-F f args to' line) = 1

unfoldable pub walk_stmt : Stmt → ℕ
walk_stmt s = fold-Stmt ℕ walk_step s

unfoldable pub walk_among : List Stmt → ℕ
walk_among ss = sum_of (map (fold-Stmt ℕ walk_step) ss)

pub walk_group : (b : List Stmt) (ps ds : List ℕ) (m : ℕ) → walk_stmt (Group b ps ds m) ≡ walk_among b + 2
unfolding walk_stmt walk_among
walk_group b ps ds m = ap (fold-Stmt ℕ walk_step) (sym (rolls-Group b ps ds m))
    ∙ fold-roll-Stmt ℕ walk_step (Group-F b ps ds m)

-- one of some statements
pub walk_one : (ss : List Stmt) (i : ℕ) (d : Stmt) → i < length ss → walk_stmt (slice_index_or ss i d) ≤ walk_among ss
unfolding walk_stmt walk_among
walk_one [] i d less = absurd (omega (arith, less))
walk_one (s ∷ ss) zero d less = omega arith
walk_one (s ∷ ss) (suc i) d less = let rest = walk_one ss i d (omega (arith, less)) in omega (arith, rest)

pub walk_item : (ss : List Stmt) (i : ℕ) (s : Stmt) → i < length ss → s ≡ slice_index_or ss i s
    → walk_stmt s < walk_among ss + 1
walk_item ss i s less is =
    let one : walk_stmt s ≤ walk_among ss =
    subst (λ x. walk_stmt x ≤ walk_among ss) (sym is) (walk_one ss i s less) in
    omega (arith, one)

pub ruleset walks = (walk_group)

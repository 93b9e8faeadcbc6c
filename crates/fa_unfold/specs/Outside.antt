-- What the references of an inside are outside.
use Rattle.std.specs.Prelude.{ℕ, zero, suc, ◌+◌, Option, Some, None}
use Rattle.fa_core.specs.declared.forest.Target.{Target}
use Rattle.fa_core.specs.declared.forest.Target.TheVariants.{At}

-- those of a Link's: the input is root i, the output the leaf y, and the inner roots come behind n roots
abbrev pub outside : ℕ → Target → ℕ → ℕ → Target
outside i y n zero = At i
outside i y n (suc zero) = y
outside i y n (suc (suc k)) = At (n + k)

-- those of a Hook's
abbrev pub outside_hook : ℕ → ℕ → ℕ → Target
outside_hook i n zero = At i
outside_hook i n (suc k) = At (n + k)

-- those of an edge's that ends at the leaf, or has no end
abbrev pub outer : ℕ → Option Target → ℕ → ℕ → Target
outer i (Some y) n = outside i y n
outer i None n = outside_hook i n

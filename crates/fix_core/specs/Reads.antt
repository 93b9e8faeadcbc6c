-- The forest as which a kept one reads, as a function.
use Rattle.std.specs.Prelude.{ℕ, List, [], map, slice_index_or, Option, Some, None}
use Rattle.ta_core.specs.Auto.{Automaton}
use Rattle.fa_core.specs.declared.forest.Forest.{Forest}
use Rattle.fa_pool.specs.declared.kept.Kept.{Kept}

-- an automaton without states
abbrev pub no_states : Automaton
no_states = record { states = 0; roots = []; rules = [] }

-- the automaton of a number; one without states past the end
abbrev pub auto_at : List Automaton → ℕ → Automaton
auto_at pool n = slice_index_or pool n no_states

-- the forest as which the kept one reads, where its parts are numbers of the pool
abbrev pub read : List Automaton → Kept → Forest
read pool kept =
    record { autos = map (auto_at pool) kept.parts; vars = kept.vars; data_vars = kept.data_vars }

-- the same, if there is one
abbrev pub read_if : List Automaton → Option Kept → Option Forest
read_if pool None = None
read_if pool (Some kept) = Some (read pool kept)

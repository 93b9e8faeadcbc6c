-- The table of what is in scope, and the scope that it stands for.
use Rattle.std.specs.Prelude.{◌≡◌, ◌<◌, ◌≤◌, ℕ, List, [], ◌∷◌, ◌++◌, Option, Some, None, map, length, reverse}
use Rattle.std.specs.Prelude.{slice_set, slice_index_or}
use Rattle.fore_base.specs.Lists.{Every}
use Rattle.c_typing.specs.Scopes.{Scope, Var}
use Rattle.c_scopes.specs.declared.scopes.Meant.{Meant}
use Rattle.c_scopes.specs.declared.scopes.Entry.{Entry}
use Rattle.c_scopes.specs.declared.scopes.Table.{Table}

-- the variable of an entry
abbrev pub var_of : List (List ℕ) → Entry → Var
var_of names e =
    record { name = slice_index_or names e.name []; kind = e.meant.what.kind; number = e.meant.what.number }

abbrev pub vars_of : List (List ℕ) → List Entry → List Var
vars_of names es = map (var_of names) es

-- the open blocks, innermost first, each with the newest entry first
abbrev pub turned : List (List Entry) → List (List Entry)
turned blocks = map reverse (reverse blocks)

-- the scope that the table stands for
abbrev pub scope_of : Table → Scope
scope_of t = record {
  blocks = map (vars_of t.names) (turned t.blocks);
  vars = t.vars;
  data_vars = t.data_vars;
  home = t.home;
}

-- all entries, the newest first
abbrev pub flat : List (List Entry) → List Entry
flat [] = []
flat (b ∷ bs) = b ++ flat bs

-- what each name means is its newest entry, and under that what it meant before
abbrev pub Chained : List Entry → List (Option Meant) → Type 0
Chained [] meant = (n : ℕ) → slice_index_or meant n None ≡ None
Chained (e ∷ es) meant = (slice_index_or meant e.name None ≡ Some e.meant) × Chained es (slice_set meant e.name e.under)

-- each entry knows its block
abbrev pub AtBlocks : List (List Entry) → Type 0
AtBlocks [] = Unit {0}
AtBlocks (b ∷ bs) = Every (λ e. e.meant.block ≡ length (b ∷ bs)) b × AtBlocks bs

pub record IsKept (t : Table) : Type 0 where
  pub room : length t.names ≤ length t.meant
  pub named : Every (λ e. e.name < length t.names) (flat (turned t.blocks))
  pub chained : Chained (flat (turned t.blocks)) t.meant
  pub at : AtBlocks (turned t.blocks)

-- What the calls of a table do to its names, its meanings and its entries.
use Rattle.std.specs.Prelude.{◌≡◌, ◌⊎◌, ◌||◌, ℕ, Bool, false, List, [], ◌∷◌, ◌++◌, Option, Some, None, nat_eq}
use Rattle.std.specs.Prelude.{slice_set, slice_index_or}
use Rattle.c_types.specs.declared.program.VarDef.{VarDef}
use Rattle.c_typing.specs.Programs.{ptr_before, datum_before}
use Rattle.c_typing.specs.Scopes.{Scope, Var, with_var, or_zero}
use Rattle.c_typing.specs.declared.meaning.Kind.{Kind}
use Rattle.c_typing.specs.declared.meaning.Kind.TheVariants.{Points, Datum}
use Rattle.c_scopes.specs.declared.scopes.Entry.{Entry}
use Rattle.c_scopes.specs.declared.scopes.Found.{Found}
use Rattle.c_scopes.specs.declared.scopes.Meant.{Meant}

-- the list stayed, or this came to its end
abbrev pub Grew : {X : Type 0} → List X → List X → X → Type 0
Grew old new x = (new ≡ old) ⊎ (new ≡ old ++ x ∷ [])

abbrev pub what_of : Option Meant → Option Found
what_of None = None
what_of (Some m) = Some m.what

-- it is in the block of this number
abbrev pub is_at : Option Meant → ℕ → Bool
is_at None n = false
is_at (Some m) n = nat_eq m.block n

-- no block is open, or the meaning is of the innermost one
abbrev pub is_shut : Option Meant → ℕ → Bool
is_shut meant blocks = nat_eq blocks 0 || is_at meant blocks

-- an entry in the innermost block
abbrev pub with_entry : Entry → List (List Entry) → List (List Entry)
with_entry e [] = []
with_entry e (b ∷ bs) = (e ∷ b) ∷ bs

-- what names mean once these entries are gone
abbrev pub unbound : List Entry → List (Option Meant) → List (Option Meant)
unbound [] meant = meant
unbound (e ∷ es) meant = unbound es (slice_set meant e.name e.under)

-- the pointers so far, and one more variable of a kind
abbrev pub more_vars : Kind → List ℕ → List VarDef → List VarDef
more_vars (Points to) x vars = vars ++ record { name = x; shape = or_zero to } ∷ []
more_vars Datum x vars = vars

-- the data so far, and one more variable of a kind
abbrev pub more_data : Kind → List ℕ → List (List ℕ) → List (List ℕ)
more_data (Points to) x data_vars = data_vars
more_data Datum x data_vars = data_vars ++ x ∷ []

abbrev pub name_at : List (List ℕ) → ℕ → List ℕ
name_at names n = slice_index_or names n []

-- the name means this, where it is not yet taken
abbrev pub bound : List ℕ → Found → Scope → Scope
bound name what scope = record scope
    { blocks = with_var (record { name = name; kind = what.kind; number = what.number }) scope.blocks }

-- the innermost block has one more variable
abbrev pub with_pushed : Var → List (List Var) → List (List Var)
with_pushed v [] = []
with_pushed v (b ∷ bs) = (v ∷ b) ∷ bs

abbrev pub pushed : List ℕ → Found → Scope → Scope
pushed name what scope =
    record scope { blocks = with_pushed (record { name = name; kind = what.kind; number = what.number }) scope.blocks }

-- the innermost block
abbrev pub first_block : List (List Entry) → List Entry
first_block [] = []
first_block (b ∷ bs) = b

-- the numbers of the pointers, the newest last
abbrev pub ptrs_in : List Entry → List ℕ
ptrs_in [] = []
ptrs_in (e ∷ es) = ptrs_in es ++ ptr_before e.meant.what.kind e.meant.what.number

-- the numbers of the data, the newest last
abbrev pub datums_in : List Entry → List ℕ
datums_in [] = []
datums_in (e ∷ es) = datums_in es ++ datum_before e.meant.what.kind e.meant.what.number

-- Worked values of what is found in a scope, and of the scope that a table stands for, by hand. The names are a and b.
use Rattle.std.proofs.Common.{◌≡◌, ℕ, [], ◌∷◌, List, Some, None, refl}
use Rattle.c_types.specs.declared.program.VarDef.{VarDef}
use Rattle.c_typing.specs.Scopes.{Scope, Var, outer}
use Rattle.c_typing.specs.Texts.{Text}
use Rattle.c_typing.specs.declared.meaning.Kind.{Kind}
use Rattle.c_typing.specs.declared.meaning.Kind.TheVariants.{Points, Datum}
use Rattle.c_scopes.specs.InScope.{found_as, left, next_number}
use Rattle.c_scopes.specs.ScopeTables.{scope_of}
use Rattle.c_scopes.specs.declared.scopes.Entry.{Entry}
use Rattle.c_scopes.specs.declared.scopes.Meant.{Meant}
use Rattle.c_scopes.specs.declared.scopes.Table.{Table}

abbrev a : Text
a = 97 ∷ []

abbrev b : Text
b = 98 ∷ []

abbrev var : Text → Kind → ℕ → Var
var name kind number = record { name = name; kind = kind; number = number }

abbrev def : Text → ℕ → VarDef
def name shape = record { name = name; shape = shape }

-- what is found of a pointer to the struct 4, the second pointer of the file
points : found_as (Some (var a (Points (Some 4)) 1)) ≡ Some (record { kind = Points (Some 4); number = 1 })
points = refl

nothing : found_as None ≡ None
nothing = refl

-- of two pointers and one datum, the next pointer is 2, and the next datum is 1
pointers : next_number (Points None) (def a 0 ∷ def b 0 ∷ []) (a ∷ []) ≡ 2
pointers = refl

data_apart : next_number Datum (def a 0 ∷ def b 0 ∷ []) (a ∷ []) ≡ 1
data_apart = refl

-- of `struct s *a; { int b;` the inner block is closed: a alone is in scope, and both stay declared
closes : left (record {
  blocks = (var b Datum 0 ∷ []) ∷ (var a (Points (Some 0)) 0 ∷ []) ∷ [];
  vars = def a 0 ∷ [];
  data_vars = b ∷ [];
  home = Some 3;
}) ≡ record {
  blocks = (var a (Points (Some 0)) 0 ∷ []) ∷ [];
  vars = def a 0 ∷ [];
  data_vars = b ∷ [];
  home = Some 3;
}
closes = refl

none_open : outer {X = ℕ} [] ≡ []
none_open = refl

-- `int a; { int b; int a;`: the names are numbered as they come, and the scope has the newest variable first
abbrev meant : ℕ → ℕ → Meant
meant number block = record { what = record { kind = Datum; number = number }; block = block }

abbrev entry : ℕ → Meant → Entry
entry name is = record { name = name; meant = is; under = None }

shadows : scope_of (record {
  names = a ∷ b ∷ [];
  meant = Some (meant 2 2) ∷ Some (meant 1 2) ∷ [];
  blocks = (entry 0 (meant 0 1) ∷ []) ∷ (entry 1 (meant 1 2)
      ∷ record { name = 0; meant = meant 2 2; under = Some (meant 0 1) } ∷ []) ∷ [];
  vars = [];
  data_vars = a ∷ b ∷ a ∷ [];
  home = Some 1;
}) ≡ record {
  blocks = (var a Datum 2 ∷ var b Datum 1 ∷ []) ∷ (var a Datum 0 ∷ []) ∷ [];
  vars = [];
  data_vars = a ∷ b ∷ a ∷ [];
  home = Some 1;
}
shadows = refl

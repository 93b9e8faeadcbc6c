-- What an act does to the store.
use Rattle.std.specs.Prelude.{ℕ, Result, Ok, Err}
use Rattle.fore_base.specs.declared.fault.Fault.{Fault as Kind}
use Rattle.fore_base.specs.declared.store.Store.{Store}
use Rattle.fore_base.specs.Stores.{onward, freed}
use Rattle.c_types.specs.declared.program.Path.{Path}
use Rattle.c_types.specs.declared.program.DataPath.{DataPath}
use Rattle.c_types.specs.declared.program.DataRhs.{DataRhs}
use Rattle.c_types.specs.Steps.{read, write_path, read_data_rhs, write_data}

-- a copy from one path to another
abbrev pub copied : Store → Path → Path → Result Store Kind
copied s to from = onward (read s from) (λ v. write_path s to.var to.fields v)

abbrev pub copied_data : Store → DataPath → DataRhs → ℕ → Result Store Kind
copied_data s to from x = onward (read_data_rhs s from x) (λ d. write_data s to d)

-- the end of the cell at the end of a path
abbrev pub freed_at : Store → Path → Result Store Kind
freed_at s path = onward (read s path) (λ v. freed s v)

-- the store after something was done, or the fault that was met
abbrev pub done_to : Result Unit Kind → Store → Result Store Kind
done_to (Ok done) s = Ok s
done_to (Err kind) s = Err kind

-- Data at paths.
use Rattle.std.specs.Prelude.{Bool, true, false}
use Rattle.c_typing.specs.declared.meaning.Meaning.{Meaning}
use Rattle.c_typing.specs.declared.meaning.Meaning.TheVariants as meaning

-- a datum at a path, which no arrow can follow
abbrev pub is_data_path : Meaning → Bool
is_data_path (meaning.Pointer p to) = false
is_data_path (meaning.Datum d) = true
is_data_path (meaning.Known k) = false
is_data_path meaning.Zero = false
is_data_path meaning.Null = false
is_data_path meaning.Call = false
is_data_path meaning.Broken = false

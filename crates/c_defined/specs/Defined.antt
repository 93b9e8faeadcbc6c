-- What the items of a file define besides functions.
use Rattle.std.specs.Prelude.{List}
use Rattle.c_typing.specs.Texts.{Text}
use Rattle.c_typing.specs.declared.meaning.Enumerator.{Enumerator}
use Rattle.c_typing.specs.declared.meaning.StructDef.{StructDef}

-- the structs in order of their definitions, the names of the enumerations, and the enumerators
pub record Defined : Type 0 where
  pub structs : List StructDef
  pub enums : List Text
  pub values : List Enumerator

-- Names and fields of definitions.
use Rattle.std.specs.Prelude.{List, map}
use Rattle.c_ast.specs.declared.items.Item.{Item}
use Rattle.c_ast.specs.declared.operands.Name.{Name}
use Rattle.c_typing.specs.Globals.{defined_name, structs_in}
use Rattle.c_typing.specs.Texts.{Text}
use Rattle.c_typing.specs.declared.meaning.Kind.{Kind}
use Rattle.c_typing.specs.declared.meaning.Member.{Member}

-- the name of the struct that an item defines, if it defines one
abbrev pub names_in : Item → List Text
names_in i = map defined_name (structs_in i)

-- a field of this kind
abbrev pub member_of : Kind → Name → Member
member_of kind name = record { name = name.text; kind = kind }

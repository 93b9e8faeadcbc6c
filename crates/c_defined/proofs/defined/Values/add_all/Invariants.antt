use Rattle.std.proofs.Common.{◌≡◌, ◌++◌, List, map, drop}
use Rattle.c_typing.specs.Globals.{value_name, values_from}
use Rattle.c_typing.specs.Texts.{firsts}
use Rattle.c_typing.specs.declared.meaning.Enumerator.{Enumerator}
use Rattle.c_defined.proofs.defined.Values.add_all.Given as goal

abbrev pub invariant-loop-place : goal.invariant-loop-place
invariant-loop-place l = record {
  names : l.self.names ≡ map value_name l.self.values;
  rest : (rest : List Enumerator)
      → l.self.values ++ firsts value_name l.self.names (values_from l.place (drop l.place l.names) ++ rest)
      ≡ l.initial.self.values ++ firsts value_name l.initial.self.names (values_from 0 l.names ++ rest);
}

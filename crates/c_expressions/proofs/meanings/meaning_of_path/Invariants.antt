use Rattle.std.proofs.Common.{◌≡◌, drop}
use Rattle.c_typing.specs.Meanings.{meaning_of_path, all_followed}
use Rattle.c_expressions.proofs.meanings.meaning_of_path.Given as goal

abbrev pub invariant-loop-arrow : goal.invariant-loop-arrow
invariant-loop-arrow l = all_followed l.tables l.meaning (drop l.arrow-index l.path.arrows)
    ≡ meaning_of_path l.tables l.scope l.path

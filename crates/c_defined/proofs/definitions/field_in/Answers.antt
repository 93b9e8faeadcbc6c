use Rattle.std.proofs.Common.{sym, ap, ◌∙◌}
use Rattle.c_typing.specs.Globals.{use_in}
use Rattle.c_defined.proofs.TableLemmas.{fields_at, fields_none}
use Rattle.c_defined.proofs.definitions.field_in.Goals as goal

pub returns-in-Some : goal.returns-in-Some
returns-in-Some c =
    let at = fields_at c.args.structs.now c.args.shape c.in-Some.one.now (sym c.in-Some.ensures.value) in
    c.find.ensures ∙ ap (use_in c.args.name.now 0 0) (sym at)

pub returns-in-None : goal.returns-in-None
returns-in-None c =
    let at = fields_none c.args.structs.now c.args.shape (sym c.in-None.ensures.value) in
    ap (use_in c.args.name.now 0 0) (sym at)

use Rattle.std.proofs.Common.{sym, ap, ◌∙◌}
use Rattle.fore_base.specs.declared.shape.Shape.{Shape}
use Rattle.fore_base.proofs.ShapeLemmas.{fields_within, no_fields_past}
use Rattle.fa_print.proofs.names.fields_at.Goals as goal

pub returns-in-Some : goal.returns-in-Some
returns-in-Some c =
    let l = c.in-Some.ensures.lookup in
    c.as_slice.ensures ∙ ap (λ (s : Shape). s.fields) l.1
    ∙ sym (fields_within c.args.structs.now c.args.shape c.in-Some.shape.now l.3.0)

pub returns-in-None : goal.returns-in-None
returns-in-None c = sym (no_fields_past c.args.structs.now c.args.shape c.in-None.ensures.lookup.3)

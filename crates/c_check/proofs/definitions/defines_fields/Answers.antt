use Rattle.std.proofs.Common.{◌+◌, ◌++◌, length, List, drop, sym, ap, ◌∙◌}
use Rattle.std.proofs.lemmas.List.{at_drop_all}
use Rattle.c_ast.specs.declared.items.Field.{Field}
use Rattle.c_typing.specs.ItemSites.{field_type_sites, names_of}
use Rattle.c_typing.specs.declared.meaning.Family.TheVariants.{Member}
use Rattle.c_check.specs.inner.Items.{kept_fields_sites, kept_name_sites, with_names}
use Rattle.c_expressions.specs.Meeting.{met}
use Rattle.c_making.proofs.MakingLemmas.{turn}
use Rattle.c_expressions.proofs.MeetingLemmas.{met-append, met-nil}
use Rattle.c_check.proofs.definitions.defines_fields.Goals as goal

pub loop-field-preserved : goal.loop-field-preserved
loop-field-preserved c =
    let g = c.args.tables.now in
    let found = c.loop-field.found in
    let names = c.loop-field.names in
    let count = c.loop-field.count in
    let field = c.field-item.result in
    let types = field_type_sites field in
    let members = kept_name_sites Member names count (names_of field) in
    let rest = kept_fields_sites (with_names names (names_of field)) (count + length (names_of field))
    (drop (c.loop-field.field-index + 1) c.args.fields.now) in
    rw (c.in_ok-count.ensures.names, c.in_ok-count.ensures.found, c.in_ok-count.ensures.count)
    (ap (λ o. met g o rest) (sym (met-append g found types members))
    ∙ sym (met-append g found (types ++ members) rest)
    ∙ turn (λ (fs : List Field). met g found (kept_fields_sites names count fs)) c.args.fields.now
    c.loop-field.field-index field c.loop-field-test.true c.field-item.is
    ∙ c.loop-field.invariant)

pub returns : goal.returns
returns c =
    let g = c.args.tables.now in
    sym
    (at_drop_all (λ (fs : List Field).
    met g c.loop-field.found (kept_fields_sites c.loop-field.names c.loop-field.count fs)) c.args.fields.now
    c.loop-field.field-index c.loop-field-test.false
    ∙ met-nil g c.loop-field.found)
    ∙ c.loop-field.invariant

use Rattle.std.proofs.Common.{◌<◌, ◌≤◌, length, sym, ◌∙◌, arith}
use Rattle.std.proofs.lemmas.Bool.Decides.{nat_tests}
use Rattle.c_heap.proofs.ShapeLemmas.{fields_there}
use Rattle.fore_base.proofs.ShapeLemmas.{fields_within, no_fields_past}
use Rattle.c_heap.proofs.blank.fields_of.Goals as goal

pub returns-in-Some : goal.returns-in-Some
returns-in-Some c =
    let shape = c.in-Some.found.now in
    let within : c.args.shape < length c.args.shapes.now = grind (arith, nat_tests, c.in-Some.ensures.lookup.0) in
    c.as_slice.ensures ∙ sym
    (fields_there c.args.shapes.now c.args.shape shape c.in-Some.ensures.lookup.1
    (fields_within c.args.shapes.now c.args.shape shape within))

pub returns-in-None : goal.returns-in-None
returns-in-None c =
    let past : length c.args.shapes.now ≤ c.args.shape = grind (arith, nat_tests, c.in-None.ensures.lookup.0) in
    sym (no_fields_past c.args.shapes.now c.args.shape past)

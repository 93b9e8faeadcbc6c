use Rattle.std.proofs.Common.{◌+◌, List, drop, arith, sym, ap, ◌∙◌}
use Rattle.std.proofs.lemmas.List.{at_drop_all}
use Rattle.c_ast.specs.declared.operands.Name.{Name}
use Rattle.c_check.specs.inner.Items.{kept_name_sites, with_names}
use Rattle.c_expressions.specs.Meeting.{met}
use Rattle.c_making.proofs.MakingLemmas.{turn}
use Rattle.c_expressions.proofs.MeetingLemmas.{met-cons, met-nil}
use Rattle.c_check.proofs.definitions.defines_all.Goals as goal

pub loop-name-preserved : goal.loop-name-preserved
loop-name-preserved c =
    let g = c.args.tables.now in
    let names = c.loop-name.names in
    let count = c.loop-name.count in
    let list = c.args.list.now in
    let rest : List Name = drop (c.loop-name.name-index + 1) list in
    record {
      count = omega (arith, c.in_ok-count.ensures, c.loop-name.invariant.count);
      names = ap (λ ns. with_names ns rest) c.in_ok-defines.ensures.names
          ∙ turn (with_names names) list c.loop-name.name-index c.name-item.result c.loop-name-test.true
          c.name-item.is
          ∙ c.loop-name.invariant.names;
      found = rw (c.in_ok-defines.ensures.names, c.in_ok-defines.ensures.found, c.in_ok-count.ensures)
          (sym (met-cons g c.loop-name.found _ _)
          ∙ turn (λ (ns : List Name). met g c.loop-name.found (kept_name_sites c.args.family names count ns)) list
          c.loop-name.name-index c.name-item.result c.loop-name-test.true c.name-item.is
          ∙ c.loop-name.invariant.found);
    }

pub returns-clause-found : goal.returns-clause-found
returns-clause-found c =
    let g = c.args.tables.now in
    sym
    (at_drop_all (λ (ns : List Name).
    met g c.loop-name.found (kept_name_sites c.args.family c.loop-name.names c.loop-name.count ns)) c.args.list.now
    c.loop-name.name-index c.loop-name-test.false
    ∙ met-nil g c.loop-name.found)
    ∙ c.loop-name.invariant.found

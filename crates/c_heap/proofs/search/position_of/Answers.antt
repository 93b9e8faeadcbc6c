use Rattle.std.proofs.Common.{◌≡◌, ◌<◌, length, get_or, sym, ap, ◌∙◌, arith}
use Rattle.std.proofs.lemmas.Bool.Decides.{nat_tests}
use Rattle.fore_base.specs.declared.store.CellRec.{CellRec}
use Rattle.c_heap.proofs.Searching.{position_at}
use Rattle.c_heap.proofs.search.position_of.Goals as goal

pub returns-in-Some-clause-position : goal.returns-in-Some-clause-position
returns-in-Some-clause-position c =
    let cells = c.args.cells.now in
    let cell = c.in-Some.cell.now in
    let at = c.guessed-guess.result in
    let h = c.in-Some.ensures.lookup in
    let within : at < length cells = grind (arith, nat_tests, h) in
    let there : cell ≡ get_or cells at cell = grind (arith, h) in
    sym
    (position_at 0 cells c.args.number at cell c.requires within
    (ap (λ (x : CellRec). x.number) (sym there) ∙ c.if-cell-number.true))

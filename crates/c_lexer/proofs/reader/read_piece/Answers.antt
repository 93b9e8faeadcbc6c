use Rattle.std.proofs.Common.{◌-◌, length, take, drop, subst}
use Rattle.c_lexer.specs.inner.Found.{IsFound}
use Rattle.c_lexer.proofs.ReadingLemmas.{leads_skip, leads_take, refuses_unclosed, refuses_stuck}
use Rattle.c_lexer.proofs.reader.read_piece.Goals as goal

pub returns-in-Skip-clause-leads : goal.returns-in-Skip-clause-leads
returns-in-Skip-clause-leads c =
    let text = c.args.text.now in
    let found = subst (IsFound c.args.cursor.fresh (take (length text - c.args.at) (drop c.args.at text))) c.in-Skip.is
    c.next_step.ensures in
    leads_skip text c.args.at c.args.cursor c.requires.here c.args.found.now c.in-Skip.size found

pub returns-in_ok-add_token-in-Take-clause-leads :
    goal.returns-in_ok-add_token-in-Take-clause-leads
returns-in_ok-add_token-in-Take-clause-leads c =
    let text = c.args.text.now in
    let found = subst (IsFound c.args.cursor.fresh (take (length text - c.args.at) (drop c.args.at text))) c.in-Take.is
    c.next_step.ensures in
    leads_take text c.args.at c.args.cursor c.requires.here c.args.found.now c.add_token.new.found c.in-Take.kind
    c.in-Take.size found c.in_ok-add_token-in-Take.ensures

pub returns-in-Unclosed-clause-err : goal.returns-in-Unclosed-clause-err
returns-in-Unclosed-clause-err c =
    let text = c.args.text.now in
    let found = subst (IsFound c.args.cursor.fresh (take (length text - c.args.at) (drop c.args.at text)))
    c.in-Unclosed.is c.next_step.ensures in
    refuses_unclosed text c.args.at c.args.cursor c.requires.here found

pub returns-in-Nothing-clause-err : goal.returns-in-Nothing-clause-err
returns-in-Nothing-clause-err c =
    let text = c.args.text.now in
    let found = subst (IsFound c.args.cursor.fresh (take (length text - c.args.at) (drop c.args.at text)))
    c.in-Nothing.is c.next_step.ensures in
    refuses_stuck text c.args.at c.args.cursor c.requires.here found

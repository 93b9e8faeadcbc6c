use Rattle.std.proofs.Common.{rules, ◌≡◌, slice_get, Some}
use Rattle.c_lower.proofs.Falling.{call_falls}
use Rattle.c_lower.proofs.site.Site.+stmt_room.Goals as goal

pub after_stmt-after_all-requires-in-Some : goal.after_stmt-after_all-requires-in-Some
after_stmt-after_all-requires-in-Some t c =
    let there : slice_get c.args.self.now.funcs.now c.in-Call.func ≡ Some c.in-Some.called.now = search rules in
    let falls = call_falls c.args.self.now c.deeper.result c.args.stmt.now c.reached-stmts.result.now c.in-Call.func
    c.in-Call.args c.in-Call.to c.in-Call.line c.in-Some.called.now t c.in-Call.is there c.deeper.ensures (search rules)
    c.decreases in
    (falls, tt)

use Rattle.std.proofs.Common.{◌≡◌, length, refl, sym, ap, ◌∙◌}
use Rattle.std.proofs.lemmas.Result.{IfOk-weaker}
use Rattle.fore_base.specs.declared.store.Store.{Store}
use Rattle.c_types.specs.Control.{opened, start_of}
use Rattle.c_types.specs.Program.{Program}
use Rattle.c_types.specs.Runs.{empty_store, run}
use Rattle.c_machine.specs.Machines.{program_of, mode_of, todo, store_of}
use Rattle.c_machine.specs.inner.Going.{going}
use Rattle.c_machine.proofs.Goings.{run_going, same_going}
use Rattle.c_machine.proofs.run.run.Goals as goal

pub run_on-requires-clause-next : goal.run_on-requires-clause-next
run_on-requires-clause-next c = ap (λ (t : Store). t.next) c.in_ok-machine.ensures.store

pub returns : goal.returns
returns c =
    let p = c.args.program.now in
    let cs = c.args.choices.now in
    let n = c.args.limit in
    let m = c.in_ok-machine.machine in
    let begun : run p c.args.mode cs n
    ≡ going (program_of m).shapes.structs (mode_of m) n 0 (todo m) (store_of m) cs 0 =
    run_going p c.args.mode cs n
    ∙ same_going p.shapes.structs (program_of m).shapes.structs c.args.mode (mode_of m) n n 0 (opened (start_of p))
    (todo m) (empty_store (length p.vars) (length p.data_vars)) (store_of m) cs 0
    (sym (ap (λ (q : Program). q.shapes.structs) c.in_ok-machine.ensures.program))
    (sym c.in_ok-machine.ensures.mode) refl (sym c.in_ok-machine.ensures.items) (sym c.in_ok-machine.ensures.store) in
    IfOk-weaker c.run_on.result _ _ (λ _ e. e ∙ sym begun) c.run_on.ensures

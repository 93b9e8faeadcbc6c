use Rattle.std.proofs.Common.{◌↔◌, IsTrue, [], ◌∷◌}
use Rattle.std.proofs.lemmas.Result.{IfOk-weaker}
use Rattle.fore_base.specs.Lists.{Paired}
use Rattle.ta_core.specs.Language.{IsWithin}
use Rattle.fa_kept.specs.Memos.{IsRight}
use Rattle.fa_kept.proofs.Growing.{right_by_automata}
use Rattle.fa_kept.proofs.within.ask_automata.Goals as goal

pub returns : goal.returns
returns c =
    let pool = c.args.pool.now in
    let a = c.auto.result.now in
    let b = c.auto-2.result.now in
    IfOk-weaker c.are_within.result (λ holds. IsTrue holds ↔ Paired IsWithin (a ∷ []) (b ∷ []))
    (IsRight pool c.args.narrow c.args.wide)
    (λ holds d.
    right_by_automata pool c.args.narrow c.args.wide holds a b c.auto.ensures c.auto-2.ensures
    ((λ e. (d.0 e).0), (λ h. d.1 (h, tt))))
    (rw (c.from_ref.ensures.value, c.from_ref-2.ensures.value) at c.are_within.ensures)

use Rattle.std.proofs.Common.{◌≡◌, ap, ◌∙◌}
use Rattle.c_typing.specs.Scopes.{Scope, outer}
use Rattle.c_making.proofs.FunctionLemmas.{outer-past_head}
use Rattle.c_programs.proofs.ProgramLemmas.{on_ok_at}
use Rattle.c_programs.proofs.functions.func_of.Goals as goal

pub move_to-requires : goal.move_to-requires
move_to-requires c =
    let g = c.args.tables.now in
    let stay : c.body_of-body.new.scope.blocks ≡ c.declare_head.new.scope.blocks =
    on_ok_at c.body_of-body.result _ c.in_ok-signature-2.ensures.ok.1 c.body_of-body.ensures.blocks in
    ap (λ (s : Scope). s.blocks) c.leave.ensures
    ∙ ap outer stay
    ∙ ap (λ (s : Scope). outer s.blocks) c.in_ok-signature.ensures.past
    ∙ outer-past_head g c.args.head.now c.args.scope.now

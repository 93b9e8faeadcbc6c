use Rattle.std.proofs.Common.{◌++◌, ap, ◌∙◌}
use Rattle.std.proofs.lemmas.List.{append_assoc}
use Rattle.std.specs.List.{repeat}
use Rattle.fore_gen.proofs.Repeated.{one_more}
use Rattle.fore_gen.proofs.programs.put_phases.Goals as goal

-- the phase goes behind those that are there
pub loop-preserved : goal.loop-preserved
loop-preserved c = let put = c.in_ok-put.ensures.ok in let before = c.loop.invariant in
    put ∙ ap (λ text. text ++ c.args.phase.now) before
    ∙ append_assoc c.args.text.now (repeat c.loop.counter c.args.phase.now) c.args.phase.now
    ∙ ap (λ rest. c.args.text.now ++ rest) (one_more c.loop.counter c.args.phase.now)

use Rattle.c_cfg.specs.GraphRuns.{out_of}
use Rattle.c_cfg.proofs.Fanning.{fans, one_passed}
use Rattle.c_cfg.proofs.laws.edges_fan_out.Goals as goal

pub returns-clause-fans : goal.returns-clause-fans
returns-clause-fans c = fans c.args.program.now c.args.mode c.args.graph.now

pub returns-clause-one : goal.returns-clause-one
returns-clause-one c low k =
    one_passed c.args.graph.now.shapes.structs (out_of c.args.graph.now.edges k)
    (fans c.args.program.now c.args.mode c.args.graph.now low k)

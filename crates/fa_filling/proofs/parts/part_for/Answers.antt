use Rattle.std.proofs.Common.{refl, List}
use Rattle.ta_core.specs.Auto.{Automaton}
use Rattle.ta_core.specs.declared.auto.Rule.{Rule}
use Rattle.fa_filling.specs.Parted.{rules_of}
use Rattle.fa_filling.proofs.Chosen.{chosen_runs, runs_chosen}
use Rattle.fa_filling.proofs.Partition.{to_chosen}
use Rattle.fa_filling.proofs.parts.part_for.Goals as goal

pub returns : goal.returns
returns c =
    let a : Automaton = c.args.whole.now in
    let rs : List Rule = rules_of c.args.shape c.args.tops.now in
    let right = to_chosen c.args.shape c.args.tops.now a.rules c.requires in
    let l = rw c.in_ok-chosen.ensures at c.in_ok-auto.ensures.language in
    record {
      top = refl;
      trim = c.in_ok-auto.ensures.trim;
      trees =
          λ t. (
            (λ i. chosen_runs a rs c.known.ensures.1 right t ((l t).1 i)),
            (λ k. (l t).0 (runs_chosen a rs c.known.ensures.1 right t k.0 k.1 k.2)),
          );
    }

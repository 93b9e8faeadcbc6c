use Rattle.std.proofs.Common.{map, ap, ◌∙◌}
use Rattle.fa_named.specs.Insides.{rule_of}
use Rattle.fa_named.proofs.Ranked.{ranked_by}
use Rattle.fa_named.proofs.insides.auto_of.Goals as goal

pub unreachable-requires : goal.unreachable-requires
unreachable-requires c =
    let is = ranked_by c.args.known.now c.args.boxes.now c.args.part.now c.in_ok-states.states c.in_ok-roots.roots
    c.in_ok-rules.rules c.in_ok-states.ensures c.in_ok-roots.ensures
    (c.in_ok-rules.ensures ∙ ap (map (rule_of c.args.known.now c.args.boxes.now)) c.as_slice.ensures) in
    c.in-None.ensures is

use Rattle.std.proofs.Common.{rules, ◌≢◌, []}
use Rattle.fa_lines.specs.Pieces.{pieces}
use Rattle.fa_lines.proofs.PieceLemmas.{pieces_moved}
use Rattle.fa_lines.proofs.pieces.pieces.Goals as goal

pub pieces-preserved : goal.pieces-preserved
pieces-preserved c =
    let some : c.pieces.rest.now ≢ [] = search rules in
    pieces_moved c.pieces.found c.keep.new.found c.pieces.rest.now c.split_at.result.0.now c.split_at.result.1.now
    (pieces c.args.line.now) c.front_size.result some c.front_size.ensures.value c.split_at.ensures.front
    c.split_at.ensures.back c.in_ok-keep.ensures c.pieces.invariant

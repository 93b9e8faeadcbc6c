use Rattle.fore_base.proofs.ListLemmas.{in_from_place}
use Rattle.fa_reach.proofs.spreading.spread_part.Goals as goal

pub spread_hops-requires : goal.spread_hops-requires
spread_hops-requires c = in_from_place c.args.parts.now c.args.place c.args.part.now c.requires

use Rattle.std.proofs.Common.{◌≡◌, length, [], ap, ◌∙◌}
use Rattle.std.proofs.lemmas.List.{length-replicate}
use Rattle.fa_back.proofs.Tabled.{starts_below}
use Rattle.fa_back.proofs.hops.hop_table.Goals as goal

pub put_hops-requires : goal.put_hops-requires
put_hops-requires c =
    let long : length c.in_ok-table.table ≡ length c.args.signatures.now =
    ap length c.in_ok-table.ensures ∙ length-replicate (length c.args.signatures.now) [] in
    rw (c.as_slice.ensures, c.in_ok-hops.ensures)
    (starts_below c.args.signatures.now c.requires.within c.in_ok-table.table long)

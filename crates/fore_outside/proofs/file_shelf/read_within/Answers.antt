use Rattle.std.proofs.Common.{arith, length, ◌<◌, ◌^◌}
use Rattle.fore_outside.proofs.ReadLemmas.{all_given}
use Rattle.fore_outside.proofs.file_shelf.read_within.Goals as goal

pub returns-in-Ok-clause-whole : goal.returns-in-Ok-clause-whole
returns-in-Ok-clause-whole g c =
    let fits : length c.read_to_end.new.buf.items < 2 ^ 63 = omega (arith, c.read_to_end.new.buf.small) in
    let short : length c.read_to_end.new.buf.items < c.take-front.result.limit =
    omega (arith, c.in-Ok.ensures.ok, c.new-bytes.ensures.len, c.take-front.ensures.limit) in
    rw c.from_vec.ensures
    (all_given g.R.Read.remaining c.args.reader c.take-front.result.inner c.take-front.result.limit
    c.new-bytes.result.items
    c.read_to_end.new.buf.items c.in-Ok.ensures.bytes c.take-front.ensures.inner c.new-bytes.ensures.items short)

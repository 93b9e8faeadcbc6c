use Rattle.fore_base.proofs.ShapeLemmas.{fields_split}
use Rattle.c_heap.proofs.blank.pointers_in.Goals as goal

pub returns-clause-datums : goal.returns-clause-datums
returns-clause-datums c = fields_split c.args.fields.now

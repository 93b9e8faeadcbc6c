use Rattle.fa_unique.proofs.OneForm.{one_form, alike_forms}
use Rattle.fa_unique.proofs.laws.one_canonical_form.Goals as goal

pub returns-clause-same : goal.returns-clause-same
returns-clause-same c = λ face F G T U d e s p q h g. one_form face F G T U d e s p q h g

pub returns-clause-alike : goal.returns-clause-alike
returns-clause-alike c = λ face F G T U d e s t p q h g a. alike_forms face F G T U d e s t p q h g a

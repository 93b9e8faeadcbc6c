use Rattle.std.proofs.Common.{◌≡◌, ◌++◌, drop}
use Rattle.fa_signatures.specs.inner.CutProducts.{longer}
use Rattle.fa_signatures.proofs.products.longer.Given as goal

abbrev pub invariant-loop-list : goal.invariant-loop-list
invariant-loop-list g l = l.made ++ longer (drop l.list-index l.lists) l.items ≡ longer l.lists l.items

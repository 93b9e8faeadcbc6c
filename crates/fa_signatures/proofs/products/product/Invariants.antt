use Rattle.std.proofs.Common.{◌≡◌, drop}
use Rattle.fa_signatures.specs.inner.CutProducts.{product_on, product}
use Rattle.fa_signatures.proofs.products.product.Given as goal

abbrev pub invariant-loop-items : goal.invariant-loop-items
invariant-loop-items g l = product_on l.lists (drop l.items-index l.options) ≡ product l.options

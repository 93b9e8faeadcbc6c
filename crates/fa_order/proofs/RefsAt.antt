-- The roots to which a root refers.
use Rattle.std.proofs.Common.{◌≡◌, ℕ, zero, suc, List, [], ◌∷◌, refl, ap, Some, slice_get}
use Rattle.std.proofs.lemmas.Option.{none-some, same_Some}
use Rattle.fore_base.specs.Lists.{Every}
use Rattle.ta_core.specs.declared.tree.Tree.{Tree}
use Rattle.fa_core.specs.Canonical.{refs_at}
use Rattle.fa_core.specs.Ways.{ways, roots_met}

pub refs_got : (ts : List Tree) (r : ℕ) (t : Tree) → slice_get ts r ≡ Some t → refs_at ts r ≡ roots_met (ways t)
refs_got [] r t e = absurd (none-some t e)
refs_got (u ∷ ts) zero t e = ap (λ (z : Tree). roots_met (ways z)) (same_Some u t e)
refs_got (u ∷ ts) (suc r) t e = refs_got ts r t e

pub refs_every : (P : ℕ → Type 0) (ts : List Tree) (r : ℕ)
    → ((t : Tree) → slice_get ts r ≡ Some t → Every P (roots_met (ways t))) → Every P (refs_at ts r)
refs_every P [] r h = tt
refs_every P (t ∷ ts) zero h = h t refl
refs_every P (t ∷ ts) (suc r) h = refs_every P ts r h

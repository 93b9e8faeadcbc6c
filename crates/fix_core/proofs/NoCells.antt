-- Stores without facts have no cells.
use Rattle.std.proofs.Common.{◌≡◌, List, [], ◌∷◌, refl}
use Rattle.fore_base.specs.declared.store.CellRec.{CellRec}
use Rattle.fa_core.specs.Member.{store_facts}
use Rattle.fa_core.specs.Rearranged.{Rearranged, empty, keep, swap, chain}

pub nothing : {X : Type 0} (xs ys : List X) → Rearranged xs ys → xs ≡ [] → ys ≡ []
nothing xs ys empty h = refl
nothing xs ys (keep x r) h = cc
nothing xs ys (swap x y zs) h = cc
nothing xs ys (chain {ys = ms} a b) h = nothing ms ys b (nothing xs ms a h)

pub no_cells : (cs : List CellRec) → store_facts cs ≡ [] → cs ≡ []
no_cells [] h = refl
no_cells (c ∷ cs) h = cc

-- What is done at the last arrow of a path.
use Rattle.std.specs.Prelude.{ℕ, List}
use Rattle.c_links.specs.declared.arrows.LastArrow.{LastArrow}
use Rattle.c_links.specs.declared.arrows.LastArrow.TheVariants.{LoadTo, Store, StoreNull}
use Rattle.c_cfg.specs.declared.graph.Const.TheVariants.{Null as ConstNull}
use Rattle.c_cfg.specs.declared.graph.Instr.{Instr}
use Rattle.c_cfg.specs.declared.graph.Instr.TheVariants.{LoadPtr, StorePtr, StoreConst}
use Rattle.c_cfg.specs.declared.link.Link.{Link}
use Rattle.c_cfg.specs.Links.{loads_but_last}

abbrev pub last_edge : LastArrow → ℕ → ℕ → Instr
last_edge (LoadTo to) b f = LoadPtr to b f
last_edge (Store from) b f = StorePtr b f from
last_edge StoreNull b f = StoreConst b f ConstNull

-- the arrows before the last, and what is done at the last
abbrev pub loads_to : ℕ → ℕ → ℕ → List ℕ → LastArrow → List Link
loads_to t b f fs last = loads_but_last t b f fs (last_edge last)

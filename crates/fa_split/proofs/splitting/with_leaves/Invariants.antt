use Rattle.std.proofs.Common.{◌≡◌, map, take}
use Rattle.fore_base.specs.Lists.{Every}
use Rattle.fa_sound.specs.Unions.{forests}
use Rattle.fa_split.specs.Split.{split_leaf}
use Rattle.fa_split.proofs.splitting.with_leaves.Given as goal

abbrev pub invariant-loop-leaf : goal.invariant-loop-leaf
invariant-loop-leaf l = (forests l.made ≡ map (split_leaf l.forest.forest l.root l.place) (take l.leaf-index l.leaves))
    × Every (λ s. s.face ≡ l.forest.face) l.made

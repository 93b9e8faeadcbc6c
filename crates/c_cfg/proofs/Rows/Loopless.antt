-- Rows on programs without loops.
use Rattle.std.proofs.Common.{◌≡◌, true, false, [], ◌∷◌, None, refl}
use Rattle.c_types.specs.declared.program.Act.TheVariants.{Return}
use Rattle.c_types.specs.declared.program.Atom.TheVariants.{Choice}
use Rattle.c_types.specs.declared.program.Cond.{Cond}
use Rattle.c_types.specs.declared.program.Cond.TheVariants.{Atom}
use Rattle.c_types.specs.declared.program.Stmt.{Stmt}
use Rattle.c_types.specs.declared.program.Stmt.TheVariants.{Do, Branch, While, DoWhile, For, Group}
use Rattle.c_types.proofs.Layers.{layers}
use Rattle.c_cfg.specs.LoopFree.{has_no_loop}
use Rattle.c_cfg.proofs.Rows.Forms.{main}

abbrev leave : Stmt
leave = Do (Return None) 1

abbrev test : Cond
test = Atom Choice 1

-- {}
nothing : has_no_loop (main 0 0 []) ≡ true
nothing = simp layers refl

-- if (nondet()) return; else { return; }  return;
branches : has_no_loop (main 0 0 (Branch test (leave ∷ []) (Group (leave ∷ []) [] [] 1 ∷ []) ∷ leave ∷ [])) ≡ true
branches = simp layers refl

-- if (nondet()) while (nondet()) {}  return;
a_while : has_no_loop (main 0 0 (Branch test (While test [] ∷ []) [] ∷ leave ∷ [])) ≡ false
a_while = simp layers refl

-- if (nondet()) {} else { return; do {} while (nondet()); }
a_do : has_no_loop (main 0 0 (Branch test [] (Group (leave ∷ DoWhile test [] ∷ []) [] [] 1 ∷ []) ∷ [])) ≡ false
a_do = simp layers refl

-- return;  for (; nondet(); ) {}
a_for : has_no_loop (main 0 0 (leave ∷ For test [] [] ∷ [])) ≡ false
a_for = simp layers refl

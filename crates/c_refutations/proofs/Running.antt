-- What wrong bodies of the machine would leave to do, refused by the words of their contracts.
use Rattle.std.proofs.Common.{◌≡◌, [], ◌∷◌, None}
use Rattle.c_types.specs.declared.program.Act.TheVariants.{Halt}
use Rattle.c_types.specs.Control.{Items, Done, Do, Close, Exit, from_exit}

-- what is left behind a `return` in a block of a function: the end of the block, the end of the call, and `exit(0);`
abbrev behind_a_return : Items
behind_a_return = Close (0 ∷ []) [] 3 (Exit None [] None 4 (Do Halt 5 Done))

-- the end of the call, gone with the body
without_the_end_of_its_call : Do Halt 5 Done ≡ from_exit behind_a_return → ⊥
without_the_end_of_its_call e = cc e

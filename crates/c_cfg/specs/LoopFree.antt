-- Programs without loops.
use Rattle.std.specs.Prelude.{Bool, true, false, ◌&&◌}
use Rattle.c_types.specs.Program.{Program}
use Rattle.c_types.specs.Control.{Items, Done, Do, Close, If, Loop, Again, DoLoop, DoAgain, Enter, Leave, Exit}
use Rattle.c_types.specs.Control.{start_of}

-- none of the items is a loop, also none in a branch
abbrev pub items_free : Items → Bool
items_free Done = true
items_free (Do a m is) = items_free is
items_free (Close ps ds m is) = items_free is
items_free (If c x y is) = (items_free x && items_free y) && items_free is
items_free (Loop c n b is) = false
items_free (Again c n b is) = false
items_free (DoLoop c b is) = false
items_free (DoAgain c b is) = false
items_free (Enter vs ws m is) = items_free is
items_free (Leave v vs a m is) = items_free is
items_free (Exit v vs d m is) = items_free is

-- no `while`, `do` or `for` (6.8.5) in main's body, nor in one to which it leads by calls, whose items stand among its
-- own
abbrev pub has_no_loop : Program → Bool
has_no_loop p = items_free (start_of p)

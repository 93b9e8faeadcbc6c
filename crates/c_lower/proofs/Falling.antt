-- What is still to be lowered gets less with each statement and each call that is gone into.
use Rattle.std.specs.Prelude.{get_or, pred}
use Rattle.std.proofs.Common.{◌≡◌, ℕ, zero, suc, ◌+◌, ◌<◌, ◌≤◌, List, [], ◌∷◌, length, map, slice_get, Option, Some}
use Rattle.std.proofs.Common.{None}
use Rattle.std.proofs.Common.{refl, ap, arith}
use Rattle.std.proofs.lemmas.Option.{none-some}
use Rattle.c_types.specs.declared.program.Arg.{Arg}
use Rattle.c_types.specs.declared.program.Cond.{Cond}
use Rattle.c_types.specs.declared.program.Dest.{Dest}
use Rattle.c_types.specs.declared.program.Func.{Func}
use Rattle.c_types.specs.declared.program.Stmt.{Stmt}
use Rattle.c_types.specs.declared.program.Stmt.TheVariants.{Branch, While, DoWhile, For, Group, Call, outs-Branch}
use Rattle.c_types.specs.declared.program.Stmt.TheVariants.{outs-While, outs-DoWhile, outs-For, outs-Group, outs-Call}
use Rattle.c_types.proofs.Layers.{stmt_folded}
use Rattle.c_lower.specs.declared.site.Site.{Site}
use Rattle.c_lower.specs.inner.Emitting.{reached}
use Rattle.c_lower.specs.inner.Sites.{deeper}
use Rattle.c_lower.specs.inner.Depths.{more_than, parts_step, parts_of, parts_in, parts_within, parts_ahead}

-- a list has a part more than its statements together

some_parts : (ns : List ℕ) → 0 < more_than ns
some_parts [] = omega arith
some_parts (n ∷ ns) = let e = some_parts ns in omega (arith, e)

less_parts : (ss : List Stmt) (i : ℕ) (s : Stmt) → i < length ss → s ≡ get_or ss i s
    → parts_of s < more_than (map parts_of ss)
less_parts [] i s h e = absurd (omega (arith, h))
less_parts (x ∷ ss) zero s h e = let same = ap parts_of e in let some = some_parts (map parts_of ss) in
    omega (arith, same, some)
less_parts (x ∷ ss) (suc i) s h e = let less = less_parts ss i s (omega (arith, h)) e in omega (arith, less)

pub parts-less : (ss : List Stmt) (i : ℕ) (s : Stmt) → i < length ss → s ≡ get_or ss i s → parts_of s < parts_in ss
unfolding parts_in
parts-less ss i s h e = less_parts ss i s h e

-- a part of a statement

pub parts-yes : (c : Cond) (x y : List Stmt) → parts_in x < parts_of (Branch c x y)
unfolding parts_in parts_of
parts-yes c x y =
    let e = stmt_folded ℕ parts_step (Branch c x y) _ (outs-Branch c x y) in
    let two = some_parts (map parts_of y) in omega (arith, e, two)

pub parts-no : (c : Cond) (x y : List Stmt) → parts_in y < parts_of (Branch c x y)
unfolding parts_in parts_of
parts-no c x y =
    let e = stmt_folded ℕ parts_step (Branch c x y) _ (outs-Branch c x y) in
    let one = some_parts (map parts_of x) in omega (arith, e, one)

pub parts-While : (c : Cond) (b : List Stmt) → parts_in b < parts_of (While c b)
unfolding parts_in parts_of
parts-While c b = let e = stmt_folded ℕ parts_step (While c b) _ (outs-While c b) in omega (arith, e)

pub parts-DoWhile : (c : Cond) (b : List Stmt) → parts_in b < parts_of (DoWhile c b)
unfolding parts_in parts_of
parts-DoWhile c b = let e = stmt_folded ℕ parts_step (DoWhile c b) _ (outs-DoWhile c b) in omega (arith, e)

pub parts-For : (c : Cond) (n b : List Stmt) → parts_in b < parts_of (For c n b)
unfolding parts_in parts_of
parts-For c n b =
    let e = stmt_folded ℕ parts_step (For c n b) _ (outs-For c n b) in
    let one = some_parts (map parts_of n) in omega (arith, e, one)

pub parts-next : (c : Cond) (n b : List Stmt) → parts_in n < parts_of (For c n b)
unfolding parts_in parts_of
parts-next c n b =
    let e = stmt_folded ℕ parts_step (For c n b) _ (outs-For c n b) in
    let two = some_parts (map parts_of b) in omega (arith, e, two)

pub parts-Group : (b : List Stmt) (ps ds : List ℕ) (m : ℕ) → parts_in b < parts_of (Group b ps ds m)
unfolding parts_in parts_of
parts-Group b ps ds m = let e = stmt_folded ℕ parts_step (Group b ps ds m) _ (outs-Group b ps ds m) in omega (arith, e)

-- a called body

call_parts : (f : ℕ) (args : List Arg) (to' : Option Dest) (line : ℕ) → parts_of (Call f args to' line) ≡ 2
unfolding parts_of
call_parts f args to' line = stmt_folded ℕ parts_step (Call f args to' line) _ (outs-Call f args to' line)

no_parts : parts_in [] ≡ 1
unfolding parts_in
no_parts = refl

among : (gs : List Func) (f : ℕ) (g : Func) → slice_get gs f ≡ Some g → parts_in g.body ≤ parts_within gs
among [] f g e = absurd (none-some g e)
among (x ∷ gs) zero g e = let same = ap (λ (z : Option Func). asked z) e in omega (arith, same)
  where
    asked : Option Func → ℕ
    asked None = 0
    asked (Some z) = parts_in z.body
among (x ∷ gs) (suc f) g e = let less = among gs f g e in omega (arith, less)

pub parts-Call : (funcs : List Func) (deep f : ℕ) (args : List Arg) (to' : Option Dest) (line : ℕ) (g : Func)
    → slice_get funcs f ≡ Some g
    → parts_ahead funcs (pred deep) + parts_in (reached deep g.body)
    < parts_ahead funcs deep + parts_of (Call f args to' line)
unfolding parts_ahead
parts-Call funcs zero f args to' line g e = let two = call_parts f args to' line in let one = no_parts in
    omega (arith, one, two)
parts-Call funcs (suc deep) f args to' line g e =
    let two = call_parts f args to' line in let less = among funcs f g e in omega (arith, less, two)

-- the same, as the code goes into the body
pub call_falls : (site low : Site) (s : Stmt) (body : List Stmt) (f : ℕ) (args : List Arg) (to' : Option Dest)
    (line : ℕ) (g : Func) (t : ℕ) → s ≡ Call f args to' line → slice_get site.funcs.now f ≡ Some g
    → low ≡ deeper site → body ≡ reached site.calls g.body
    → parts_ahead site.funcs.now site.calls + parts_of s ≡ t
    → parts_ahead low.funcs.now low.calls + parts_in body < t
call_falls site low s body f args to' line g t is e d r was =
    let less = parts-Call site.funcs.now site.calls f args to' line g e in
    let same : parts_ahead low.funcs.now low.calls ≡ parts_ahead site.funcs.now (pred site.calls) =
    ap (λ (v : Site). parts_ahead v.funcs.now v.calls) d in
    let own = ap parts_in r in let whole = ap parts_of is in
    omega (arith, less, same, own, whole, was)

pub ruleset falling = (
  parts-less,
  parts-yes,
  parts-no,
  parts-While,
  parts-DoWhile,
  parts-For,
  parts-next,
  parts-Group,
  parts-Call,
)

-- A statement's items stand before whatever comes, and are whole: they have no Again, and each call ends in them that
-- begins in them.
use Rattle.std.specs.Prelude.{pred}
use Rattle.std.proofs.Common.{◌≡◌, ℕ, zero, suc, List, ◌∷◌, Option, Some, None, map, slice_get, refl, ap, ◌∙◌}
use Rattle.c_types.specs.declared.program.Arg.{Arg}
use Rattle.c_types.specs.declared.program.Dest.{Dest}
use Rattle.c_types.specs.declared.program.Func.{Func}
use Rattle.c_types.specs.declared.program.Stmt.{Stmt}
use Rattle.c_types.specs.declared.program.Stmt.TheVariants.{Call}
use Rattle.c_types.specs.Control.{Items, Done, Do, Close, If, Loop, Again, DoLoop, DoAgain, ◌then◌, Enter, Leave, Exit}
use Rattle.c_types.specs.Control.{all_before, closes, call_items, items_by, body_within}
use Rattle.c_types.proofs.Composing.{Composes, closes_composed, stmt_within, all_within}
use Rattle.c_types.proofs.Layers.{by-Call}
use Rattle.c_types.proofs.Standing.{stmt_stands, all_stand}
use Rattle.c_lower.specs.inner.Emitting.{reached, items_one, items_in}

-- no Again, and n calls end that do not begin here
abbrev pub IsWhole : ℕ → Items → Type 0
IsWhole n Done = n ≡ 0
IsWhole n (Do a m is) = IsWhole n is
IsWhole n (Close ps ds m is) = IsWhole n is
IsWhole n (If c x y is) = IsWhole 0 x × IsWhole 0 y × IsWhole n is
IsWhole n (Loop c d b is) = IsWhole 0 d × IsWhole 0 b × IsWhole n is
IsWhole n (Again c d b is) = ⊥
IsWhole n (DoLoop c b is) = IsWhole 0 b × IsWhole n is
IsWhole n (DoAgain c b is) = ⊥
IsWhole n (Enter vs ws m is) = IsWhole (suc n) is
IsWhole n (Leave v vs a m is) = IsWhole n is
IsWhole zero (Exit v vs d m is) = ⊥
IsWhole (suc n) (Exit v vs d m is) = IsWhole n is

abbrev pub KeepsWhole : (Items → Items) → Type 0
KeepsWhole f = (n : ℕ) (r : Items) → IsWhole n r → IsWhole n (f r)

whole : Composes KeepsWhole
whole = record {
  none = λ n r w. w;
  both = λ f g h k n r w. h n (g r) (k n r w);
  act = λ a m n r w. w;
  close = λ ps ds m n r w. w;
  branch = λ c f g h k n r w. (h 0 Done refl, k 0 Done refl, w);
  loop = λ c f g h k n r w. (h 0 Done refl, k 0 Done refl, w);
  do_loop = λ c f h n r w. (h 0 Done refl, w);
  leave = λ g value m n r w. w;
  call = λ g args to' m f h n r w. h (suc n) (Exit g.result g.params to' m r) w;
}

pub closes_whole : (ps ds : List ℕ) (m : ℕ) → KeepsWhole (closes ps ds m)
closes_whole = closes_composed KeepsWhole whole

pub stmt_whole : (funcs : List Func) (deep : ℕ) (s : Stmt) → KeepsWhole (items_by funcs (body_within funcs deep) s)
stmt_whole = stmt_within KeepsWhole whole

pub all_whole : (funcs : List Func) (deep : ℕ) (ss : List Stmt)
    → KeepsWhole (all_before (map (items_by funcs (body_within funcs deep)) ss))
all_whole = all_within KeepsWhole whole

module _ (funcs : List Func) where
  -- a list of statements, from the first one on
  pub items-more : (deep : ℕ) (s : Stmt) (ss : List Stmt) → items_in funcs deep (s ∷ ss) ≡ items_one funcs deep s
      then items_in funcs deep ss
  items-more deep s ss = stmt_stands funcs deep s Done (items_in funcs deep ss)

  -- the items of a called body, as they stand before others
  body_items : (deep : ℕ) (body : List Stmt) (r : Items) → body_within funcs deep body r
      ≡ items_in funcs (pred deep) (reached deep body) then r
  body_items zero body r = refl
  body_items (suc deep) body r = all_stand funcs deep body Done r

  -- a call of a function that is there
  pub call_is : (deep f : ℕ) (args : List Arg) (to' : Option Dest) (line : ℕ) (g : Func) → slice_get funcs f ≡ Some g
      → items_one funcs deep (Call f args to' line)
      ≡ Enter g.params args line
      (items_in funcs (pred deep) (reached deep g.body) then Exit g.result g.params to' line Done)
  call_is deep f args to' line g e =
      by-Call funcs (body_within funcs deep) f args to' line Done
      ∙ ap (λ z. call_items (body_within funcs deep) z args to' line Done) e
      ∙ ap (Enter g.params args line) (body_items deep g.body (Exit g.result g.params to' line Done))

  -- a call of one that is not
  pub call_none : (deep f : ℕ) (args : List Arg) (to' : Option Dest) (line : ℕ) → slice_get funcs f ≡ None
      → items_one funcs deep (Call f args to' line) ≡ Done
  call_none deep f args to' line e = by-Call funcs (body_within funcs deep) f args to' line Done
      ∙ ap (λ z. call_items (body_within funcs deep) z args to' line Done) e

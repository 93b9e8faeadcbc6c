-- Which variables die in the rest of a round, a statement at a time.
use Rattle.std.specs.Prelude.{get_or, drop}
use Rattle.std.proofs.Common.{◌≡◌, ℕ, zero, suc, ◌+◌, ◌<◌, ◌≤◌, List, [], ◌∷◌, ◌++◌, length, refl, sym, ap, ◌∙◌, arith}
use Rattle.std.proofs.Common.{Option, Some, None, slice_get}
use Rattle.c_types.specs.declared.program.Act.{Act}
use Rattle.c_types.specs.declared.program.Cond.{Cond}
use Rattle.c_types.specs.declared.program.Stmt.{Stmt}
use Rattle.c_types.specs.declared.program.Arg.{Arg}
use Rattle.c_types.specs.declared.program.Dest.{Dest}
use Rattle.c_types.specs.declared.program.Stmt.TheVariants.{Do as DoStmt, Branch, While, DoWhile, For, Group, Call}
use Rattle.c_types.specs.declared.program.Func.{Func}
use Rattle.c_types.specs.Control.{Items, Done, Exit, closes, act_items, call_items, body_within, insert, merged}
use Rattle.c_types.proofs.Composing.{Composes, act_composed, body_composed}
use Rattle.c_types.proofs.Layers.{by-Do, by-Branch, by-While, by-DoWhile, by-For, by-Group, by-Call}
use Rattle.c_types.proofs.Standing.{all_stand}
use Rattle.c_lower.specs.declared.around.Around.{Around}
use Rattle.c_lower.specs.inner.Emitting.{dying, datums_of, inside, closed, items_one, items_in, inside_stmt, inside_all}
use Rattle.c_lower.specs.inner.Emitting.{rests_all}
use Rattle.c_lower.proofs.Standing.{items-more, stmt_whole, all_whole}
use Rattle.c_lower.proofs.Joined.{inside_both}
use Rattle.std.proofs.lemmas.List.{drop_all, length-append}

pub closes_closed : (w : Around) (ps ds : List ℕ) (m : ℕ) → inside w (closes ps ds m Done) ≡ closed w ps ds
closes_closed w [] [] m = refl
closes_closed w _ _ m = refl

-- what is there, if it is
abbrev got : Around → Option Around → Around
got other None = other
got other (Some inner) = inner

module _ {A : Type 0} where
  get_behind : (xs : List A) (x : A) (i : ℕ) → i ≡ length xs → slice_get (xs ++ x ∷ []) i ≡ Some x
  get_behind [] x i e = ap (slice_get (x ∷ [])) e
  get_behind (y ∷ xs) x zero e = absurd (omega (arith, e))
  get_behind (y ∷ xs) x (suc i) e = get_behind xs x i (omega (arith, e))

  get_before : (xs : List A) (x : A) (i : ℕ) → i < length xs → slice_get (xs ++ x ∷ []) i ≡ slice_get xs i
  get_before [] x i h = absurd (omega (arith, h))
  get_before (y ∷ xs) x zero h = refl
  get_before (y ∷ xs) x (suc i) h = get_before xs x i (omega (arith, h))

-- an act closes no block
abbrev ClosesNone : (Items → Items) → Type 0
ClosesNone f = (w : Around) → inside w (f Done) ≡ w

-- within a call that is still to come no block counts
abbrev IsHidden : (Items → Items) → Type 0
IsHidden f = (own : List ℕ → List ℕ → List ℕ) (n : ℕ) (r : Items) (base : List ℕ)
    → dying own (suc n) (f r) base ≡ dying own (suc n) r base

hidden : Composes IsHidden
hidden = record {
  none = λ own n r base. refl;
  both = λ f g h k own n r base. h own n (g r) base ∙ k own n r base;
  act = λ a m own n r base. refl;
  close = λ ps ds m own n r base. refl;
  branch = λ c f g h k own n r base. refl;
  loop = λ c f g h k own n r base. refl;
  do_loop = λ c f h own n r base. refl;
  leave = λ g value m own n r base. refl;
  call = λ g args to' m f h own n r base. h own (suc n) (Exit g.result g.params to' m r) base;
}

module _ (funcs : List Func) where
  call_closes : (deep : ℕ) (o : Option Func) (args : List Arg) (to' : Option Dest) (m : ℕ)
      → ClosesNone (call_items (body_within funcs deep) o args to' m)
  call_closes deep None args to' m w = refl
  call_closes deep (Some g) args to' m w =
      let body = body_composed IsHidden hidden funcs deep g.body in
      let last = Exit g.result g.params to' m Done in
      ap (λ (ps : List ℕ). in_place ps (datums_of (call_items (body_within funcs deep) (Some g) args to' m Done) w.datums))
      (body (λ ps ds. ps) 0 last w.ptrs)
      ∙ ap (λ (ds : List ℕ). in_place w.ptrs ds) (body (λ ps ds. ds) 0 last w.datums)
    where
      in_place : List ℕ → List ℕ → Around
      in_place ps ds = record { leave = w.leave; again = w.again; ptrs = ps; datums = ds; back = w.back }

  act_closes : (a : Act) (m : ℕ) → ClosesNone (act_items funcs a m)
  act_closes = act_composed ClosesNone (λ a m w. refl) (λ g value m w. refl) funcs

  module _ (deep : ℕ) where
    abbrev under : List Stmt → Items → Items
    under = body_within funcs deep

    pub inside-more : (w : Around) (s : Stmt) (ss : List Stmt) → inside_all funcs deep w (s ∷ ss)
        ≡ inside_stmt funcs deep (inside_all funcs deep w ss) s
    unfolding inside_all inside_stmt
    inside-more w s ss = ap (inside w) (items-more funcs deep s ss)
        ∙ inside_both 0 (items_one funcs deep s) (stmt_whole funcs deep s 0 Done refl) w (items_in funcs deep ss)

    pub inside-none : (w : Around) → inside_all funcs deep w [] ≡ w
    unfolding inside_all
    inside-none w = refl

    pub inside-Group : (w : Around) (b : List Stmt) (ps ds : List ℕ) (m : ℕ)
        → inside_stmt funcs deep w (Group b ps ds m) ≡ inside_all funcs deep (closed w ps ds) b
    unfolding inside_stmt inside_all
    inside-Group w b ps ds m =
        ap (inside w) (by-Group funcs under b ps ds m Done ∙ all_stand funcs deep b Done (closes ps ds m Done))
        ∙ inside_both 0 (items_in funcs deep b) (all_whole funcs deep b 0 Done refl) w (closes ps ds m Done)
        ∙ ap (λ v. inside v (items_in funcs deep b)) (closes_closed w ps ds m)

    pub inside-Do : (w : Around) (a : Act) (line : ℕ) → inside_stmt funcs deep w (DoStmt a line) ≡ w
    unfolding inside_stmt
    inside-Do w a line = ap (inside w) (by-Do funcs under a line Done) ∙ act_closes a line w

    pub inside-Branch : (w : Around) (c : Cond) (x y : List Stmt) → inside_stmt funcs deep w (Branch c x y) ≡ w
    unfolding inside_stmt
    inside-Branch w c x y = ap (inside w) (by-Branch funcs under c x y Done)

    pub inside-While : (w : Around) (c : Cond) (b : List Stmt) → inside_stmt funcs deep w (While c b) ≡ w
    unfolding inside_stmt
    inside-While w c b = ap (inside w) (by-While funcs under c b Done)

    pub inside-DoWhile : (w : Around) (c : Cond) (b : List Stmt) → inside_stmt funcs deep w (DoWhile c b) ≡ w
    unfolding inside_stmt
    inside-DoWhile w c b = ap (inside w) (by-DoWhile funcs under c b Done)

    pub inside-For : (w : Around) (c : Cond) (n b : List Stmt) → inside_stmt funcs deep w (For c n b) ≡ w
    unfolding inside_stmt
    inside-For w c n b = ap (inside w) (by-For funcs under c n b Done)

    -- a call that is still to come ends no block of the round
    pub inside-Call : (w : Around) (f : ℕ) (args : List Arg) (to' : Option Dest) (line : ℕ)
        → inside_stmt funcs deep w (Call f args to' line) ≡ w
    unfolding inside_stmt
    inside-Call w f args to' line =
        ap (inside w) (by-Call funcs under f args to' line Done) ∙ call_closes deep (slice_get funcs f) args to' line w

    -- from the end on
    pub inside-drop : (w : Around) (i : ℕ) (ss : List Stmt) (s : Stmt) → i < length ss → s ≡ get_or ss i s
        → inside_all funcs deep w (drop i ss)
        ≡ inside_stmt funcs deep (inside_all funcs deep w (drop (i + 1) ss)) s
    inside-drop w i [] s h e = absurd (omega (arith, h))
    inside-drop w zero (x ∷ ss) s h e = inside-more w x ss
        ∙ ap (inside_stmt funcs deep (inside_all funcs deep w ss)) (sym e)
    inside-drop w (suc i) (x ∷ ss) s h e = let q : suc i + 1 ≡ suc (i + 1) = omega arith in
        rw q (inside-drop w i ss s (omega (arith, h)) e)

    pub inside-end : (w : Around) (n : ℕ) (ss : List Stmt) → length ss ≤ n → inside_all funcs deep w (drop n ss) ≡ w
    inside-end w n ss h = ap (inside_all funcs deep w) (drop_all n ss h) ∙ inside-none w

    -- what is around each statement of a list

    pub rests-end : (w : Around) (n : ℕ) (ss : List Stmt) → length ss ≤ n → rests_all funcs deep w (drop n ss) ≡ []
    unfolding rests_all
    rests-end w n ss h = ap (rests_all funcs deep w) (drop_all n ss h)

    pub rests-drop : (w : Around) (i : ℕ) (ss : List Stmt) → i < length ss
        → rests_all funcs deep w (drop i ss)
        ≡ rests_all funcs deep w (drop (i + 1) ss) ++ inside_all funcs deep w (drop (i + 1) ss) ∷ []
    unfolding rests_all
    rests-drop w i [] h = absurd (omega (arith, h))
    rests-drop w zero (x ∷ ss) h = refl
    rests-drop w (suc i) (x ∷ ss) h = let q : suc i + 1 ≡ suc (i + 1) = omega arith in
        rw q (rests-drop w i ss (omega (arith, h)))

    pub rests-long : (w : Around) (ss : List Stmt) → length (rests_all funcs deep w ss) ≡ length ss
    unfolding rests_all
    rests-long w [] = refl
    rests-long w (s ∷ ss) =
        let e = length-append (rests_all funcs deep w ss) (inside_all funcs deep w ss ∷ []) in
        omega (arith, e, rests-long w ss)

    pub rests-at : (w : Around) (ss : List Stmt) (at i : ℕ) → i + 1 + at ≡ length ss
        → slice_get (rests_all funcs deep w ss) i ≡ Some (inside_all funcs deep w (drop (at + 1) ss))
    unfolding rests_all
    rests-at w [] at i h = absurd (omega (arith, h))
    rests-at w (s ∷ ss) zero i h =
        get_behind (rests_all funcs deep w ss) (inside_all funcs deep w ss) i (omega (arith, h, rests-long w ss))
    rests-at w (s ∷ ss) (suc at) i h =
        let q : suc at + 1 ≡ suc (at + 1) = omega arith in
        rw q
        (get_before (rests_all funcs deep w ss) (inside_all funcs deep w ss) i (omega (arith, h, rests-long w ss))
        ∙ rests-at w ss at i (omega (arith, h)))

    pub rest-is : (w : Around) (ss : List Stmt) (at i : ℕ) (rests : List Around) (inner : Around)
        → rests ≡ rests_all funcs deep w ss → slice_get rests i ≡ Some inner → i + 1 + at ≡ length ss
        → inner ≡ inside_all funcs deep w (drop (at + 1) ss)
    rest-is w ss at i rests inner r e h =
        ap (got inner) (sym e ∙ ap (λ (rs : List Around). slice_get rs i) r ∙ rests-at w ss at i h)

pub ruleset closing = (
  rests-end,
  rests-drop,
  inside-none,
  inside-end,
  inside-drop,
  inside-Group,
  inside-Do,
  inside-Branch,
  inside-While,
  inside-DoWhile,
  inside-For,
  inside-Call,
)

-- merging, from the end on
pub merged-drop : (i : ℕ) (ns : List ℕ) (n : ℕ) (ms : List ℕ) → i < length ns → n ≡ get_or ns i n
    → merged (drop i ns) ms ≡ insert n (merged (drop (i + 1) ns) ms)
merged-drop i [] n ms h e = absurd (omega (arith, h))
merged-drop zero (m ∷ ns) n ms h e = ap (λ k. insert k (merged ns ms)) (sym e)
merged-drop (suc i) (m ∷ ns) n ms h e = let q : suc i + 1 ≡ suc (i + 1) = omega arith in
    rw q (merged-drop i ns n ms (omega (arith, h)) e)

pub merged-end : (n : ℕ) (ns ms : List ℕ) → length ns ≤ n → merged (drop n ns) ms ≡ ms
merged-end n ns ms h = ap (λ ks. merged ks ms) (drop_all n ns h)

pub ruleset merging = (merged-drop, merged-end)

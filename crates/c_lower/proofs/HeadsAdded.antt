-- What the code has added of a statement's loop heads.
use Rattle.std.specs.Prelude.{get_or, drop}
use Rattle.std.proofs.Common.{◌≡◌, ℕ, ◌+◌, ◌<◌, ◌≤◌, Option, List, [], ◌∷◌, ◌++◌, length, slice_get, Some, None, sym}
use Rattle.std.proofs.Common.{ap, ◌∙◌}
use Rattle.std.proofs.lemmas.List.{append-nil, append_assoc}
use Rattle.c_types.specs.declared.program.Act.{Act}
use Rattle.c_types.specs.declared.program.Cond.{Cond}
use Rattle.c_types.specs.declared.program.Stmt.{Stmt}
use Rattle.c_types.specs.declared.program.Arg.{Arg}
use Rattle.c_types.specs.declared.program.Func.{Func}
use Rattle.c_types.specs.declared.program.Dest.{Dest}
use Rattle.c_types.specs.declared.program.Stmt.TheVariants.{Do as DoStmt, Branch, While, DoWhile, For, Call}
use Rattle.c_lower.specs.declared.site.Site.{Site}
use Rattle.c_lower.specs.inner.Emitting.{reached, wide_stmt}
use Rattle.c_lower.specs.inner.Sites.{test_room, room, stmt_heads, all_heads, deeper, enter_room}
use Rattle.c_lower.proofs.Layers.{heads-end, heads-drop, heads-Do, heads-Branch, heads-While, heads-DoWhile, heads-For}
use Rattle.c_lower.proofs.Layers.{heads-Call, heads-Call-none}

two_added : (old a b e1 e2 : List ℕ) → e1 ≡ old ++ a → e2 ≡ e1 ++ b → e2 ≡ old ++ (a ++ b)
two_added old a b e1 e2 h k = k ∙ ap (λ es. es ++ b) h ∙ append_assoc old a b

three_added : (old a b c e1 e2 e3 : List ℕ) → e1 ≡ old ++ a → e2 ≡ e1 ++ b → e3 ≡ e2 ++ c → e3 ≡ old ++ (a ++ (b ++ c))
three_added old a b c e1 e2 e3 h k l = l ∙ ap (λ es. es ++ c) (two_added old a b e1 e2 h k)
    ∙ append_assoc old (a ++ b) c ∙ ap (λ es. old ++ es) (append_assoc a b c)

module _ (site : Site) (s : Stmt) (at : ℕ) (old : List ℕ) where
  same_heads : (z : Stmt) (ks : List ℕ) (e : List ℕ) → s ≡ z → stmt_heads site z at ≡ ks → e ≡ old ++ ks
      → e ≡ old ++ stmt_heads site s at
  same_heads z ks e is h k = k ∙ ap (λ ks. old ++ ks) (sym h) ∙ ap (λ z. old ++ stmt_heads site z at) (sym is)

  pub do_heads : (a : Act) (line : ℕ) → s ≡ DoStmt a line → old ≡ old ++ stmt_heads site s at
  do_heads a line is = same_heads (DoStmt a line) [] old is (heads-Do site.funcs.now site.calls site.counts.ptrs
      site.counts.datums a line at)
      (sym (append-nil old))

  pub none_heads : (f : ℕ) (args : List Arg) (to' : Option Dest) (line : ℕ) → s ≡ Call f args to' line
      → slice_get site.funcs.now f ≡ None → old ≡ old ++ stmt_heads site s at
  none_heads f args to' line is e =
      same_heads (Call f args to' line) [] old is
      (heads-Call-none site.funcs.now site.calls site.counts.ptrs site.counts.datums f args to' line at e)
      (sym (append-nil old))

  pub call_heads : (f : ℕ) (args : List Arg) (to' : Option Dest) (line : ℕ) (g : Func) (first : ℕ) (low : Site)
      (body : List Stmt) (e1 : List ℕ) → s ≡ Call f args to' line → slice_get site.funcs.now f ≡ Some g
      → first ≡ at + enter_room site g args → low ≡ deeper site → body ≡ reached site.calls g.body
      → e1 ≡ old ++ all_heads low body first → e1 ≡ old ++ stmt_heads site s at
  call_heads f args to' line g first low body e1 is e q d r h =
      same_heads (Call f args to' line) _ e1 is
      (heads-Call site.funcs.now site.calls site.counts.ptrs site.counts.datums f args to' line g at e)
      (h ∙ ap (λ (v : Site). old ++ all_heads v body first) d
      ∙ ap (λ (v : List Stmt). old ++ all_heads (deeper site) v first) r
      ∙ ap (λ i. old ++ all_heads (deeper site) (reached site.calls g.body) i) q)

  module _ (e1 e2 : List ℕ) where
    pub branch_heads : (c : Cond) (x y : List Stmt) (first second : ℕ) → s ≡ Branch c x y
        → first ≡ at + test_room site c → second ≡ first + room site x
        → e1 ≡ old ++ all_heads site x first → e2 ≡ e1 ++ all_heads site y second → e2 ≡ old ++ stmt_heads site s at
    branch_heads c x y first second is f g h k =
        same_heads (Branch c x y) _ e2 is (heads-Branch site.funcs.now site.calls site.counts.ptrs site.counts.datums c
        x y at)
        (two_added old _ _ e1 e2 (h ∙ ap (λ i. old ++ all_heads site x i) f)
        (k ∙ ap (λ i. e1 ++ all_heads site y i) (g ∙ ap (λ i. i + room site x) f)))

    pub while_heads : (c : Cond) (b : List Stmt) (first : ℕ) → s ≡ While c b → first ≡ at + test_room site c
        → e1 ≡ old ++ at ∷ [] → e2 ≡ e1 ++ all_heads site b first → e2 ≡ old ++ stmt_heads site s at
    while_heads c b first is f h k =
        same_heads (While c b) _ e2 is (heads-While site.funcs.now site.calls site.counts.ptrs site.counts.datums c b
        at)
        (two_added old (at ∷ []) _ e1 e2 h (k ∙ ap (λ i. e1 ++ all_heads site b i) f))

    pub do_while_heads : (c : Cond) (b : List Stmt) (test : ℕ) → s ≡ DoWhile c b → test ≡ at + room site b
        → e1 ≡ old ++ test ∷ [] → e2 ≡ e1 ++ all_heads site b at → e2 ≡ old ++ stmt_heads site s at
    do_while_heads c b test is f h k =
        same_heads (DoWhile c b) _ e2 is (heads-DoWhile site.funcs.now site.calls site.counts.ptrs site.counts.datums c
        b at)
        (two_added old ((at + room site b) ∷ []) _ e1 e2 (h ∙ ap (λ i. old ++ i ∷ []) f) k)

    pub for_heads : (c : Cond) (n b : List Stmt) (first between : ℕ) (e3 : List ℕ) → s ≡ For c n b
        → first ≡ at + test_room site c → between ≡ first + room site b
        → e1 ≡ old ++ at ∷ [] → e2 ≡ e1 ++ all_heads site b first → e3 ≡ e2 ++ all_heads site n between
        → e3 ≡ old ++ stmt_heads site s at
    for_heads c n b first between e3 is f g h k l =
        same_heads (For c n b) _ e3 is (heads-For site.funcs.now site.calls site.counts.ptrs site.counts.datums c n b
        at)
        (three_added old (at ∷ []) _ _ e1 e2 e3 h (k ∙ ap (λ i. e1 ++ all_heads site b i) f)
        (l ∙ ap (λ i. e2 ++ all_heads site n i) (g ∙ ap (λ i. i + room site b) f)))

pub one_headed : (site : Site) (body : List Stmt) (at : ℕ) (s : Stmt) (from next : ℕ) (old e0 e1 : List ℕ)
    → at < length body → s ≡ get_or body at s → next ≡ from + wide_stmt site.funcs.now site.calls site.counts.ptrs
    site.counts.datums s
    → e0 ++ all_heads site (drop at body) from ≡ old → e1 ≡ e0 ++ stmt_heads site s from
    → e1 ++ all_heads site (drop (at + 1) body) next ≡ old
one_headed site body at s from next old e0 e1 h is n was now =
    ap (λ es. es ++ all_heads site (drop (at + 1) body) next) now ∙ append_assoc e0 _ _
    ∙ ap (λ es. e0 ++ es) (sym (heads-drop site.funcs.now site.calls site.counts.ptrs site.counts.datums at body s from
    next h is n)) ∙ was

pub none_headed : (site : Site) (body : List Stmt) (at from : ℕ) (old e0 : List ℕ) → length body ≤ at
    → e0 ++ all_heads site (drop at body) from ≡ old → e0 ≡ old
none_headed site body at from old e0 h was = sym (append-nil e0)
    ∙ ap (λ es. e0 ++ es) (sym (heads-end site.funcs.now site.calls site.counts.ptrs site.counts.datums at body from h))
    ∙ was

-- What the code has added of a statement's edges.
use Rattle.std.specs.Prelude.{get_or, drop, ◌-◌}
use Rattle.std.proofs.Common.{◌≡◌, ℕ, ◌+◌, ◌<◌, ◌≤◌, Option, List, [], ◌++◌, length, slice_get, Some, None, refl, sym}
use Rattle.std.proofs.Common.{ap, ◌∙◌, arith}
use Rattle.std.proofs.lemmas.List.{append-nil, append_assoc}
use Rattle.c_types.specs.declared.program.Cond.{Cond}
use Rattle.c_types.specs.declared.program.Stmt.{Stmt}
use Rattle.c_types.specs.declared.program.Arg.{Arg}
use Rattle.c_types.specs.declared.program.Func.{Func}
use Rattle.c_types.specs.declared.program.Dest.{Dest}
use Rattle.c_types.specs.declared.program.Stmt.TheVariants.{Branch, While, DoWhile, For, Group, Call}
use Rattle.c_cfg.specs.declared.graph.Edge.{Edge}
use Rattle.c_lower.specs.declared.around.Around.{Around}
use Rattle.c_lower.specs.declared.site.Site.{Site}
use Rattle.c_lower.specs.declared.site.Span.{Span}
use Rattle.c_lower.specs.declared.site.TwoSpans.{TwoSpans}
use Rattle.c_lower.specs.inner.Emitting.{first_of, in_loop, in_call, closed, close_edges, reached, wide_stmt}
use Rattle.c_lower.specs.inner.Sites.{room, edges_at, stmt_edges, all_edges, span_of, branch_test, branch_spans}
use Rattle.c_lower.specs.inner.Sites.{loop_test, loop_spans, do_span, do_test, group_spans, inside_each, deeper}
use Rattle.c_lower.specs.inner.Sites.{call_spans, enter_edges, exit_edges}
use Rattle.c_lower.proofs.Layers.{wide-drop, emit-none, emit-drop, emit-end, emit-Branch, emit-While, emit-DoWhile}
use Rattle.c_lower.proofs.Layers.{emit-For, emit-Group, emit-Call, emit-Call-none}

-- one list after the other
two_added : (old a b e1 e2 : List Edge) → e1 ≡ old ++ a → e2 ≡ e1 ++ b → e2 ≡ old ++ (a ++ b)
two_added old a b e1 e2 h k = k ∙ ap (λ es. es ++ b) h ∙ append_assoc old a b

three_added : (old a b c e1 e2 e3 : List Edge) → e1 ≡ old ++ a → e2 ≡ e1 ++ b → e3 ≡ e2 ++ c
    → e3 ≡ old ++ (a ++ (b ++ c))
three_added old a b c e1 e2 e3 h k l = l ∙ ap (λ es. es ++ c) (two_added old a b e1 e2 h k)
    ∙ append_assoc old (a ++ b) c ∙ ap (λ es. old ++ es) (append_assoc a b c)

-- a call of a function that is not there adds none
pub none_added : (site : Site) (w : Around) (span : Span) (s : Stmt) (old : List Edge) (f : ℕ) (args : List Arg)
    (to' : Option Dest) (line : ℕ) → s ≡ Call f args to' line → slice_get site.funcs.now f ≡ None
    → old ≡ old ++ stmt_edges site s w span
none_added site w span s old f args to' line is e =
    sym (append-nil old)
    ∙ ap (λ es. old ++ es)
    (sym
    (emit-Call-none site.funcs.now site.calls site.counts.ptrs site.counts.datums site.exit f args to' line w span.from
    span.then e))
    ∙ ap (λ z. old ++ stmt_edges site z w span) (sym is)

-- a call of one that is adds its enter, the body and its exit
pub call_added : (site : Site) (w : Around) (span : Span) (s : Stmt) (old e1 e2 e3 : List Edge) (f : ℕ)
    (args : List Arg) (to' : Option Dest) (line : ℕ) (g : Func) (spans : TwoSpans) (inner : Around) (low : Site)
    (body : List Stmt) → s ≡ Call f args to' line → slice_get site.funcs.now f ≡ Some g
    → spans ≡ call_spans site g args span → inner ≡ in_call w spans.second.from → low ≡ deeper site
    → body ≡ reached site.calls g.body → e1 ≡ old ++ enter_edges site g args line span.from spans.first.from
    → e2 ≡ e1 ++ all_edges low body inner spans.first → e3 ≡ e2 ++ exit_edges site g to' line spans.second
    → e3 ≡ old ++ stmt_edges site s w span
call_added site w span s old e1 e2 e3 f args to' line g spans inner low body is e q i d r h k l =
    let told = call_spans site g args span in
    three_added old _ _ _ e1 e2 e3
    (h ∙ ap (λ (v : TwoSpans). old ++ enter_edges site g args line span.from v.first.from) q)
    (k ∙ ap (λ (v : Site). e1 ++ all_edges v body inner spans.first) d
    ∙ ap (λ (v : List Stmt). e1 ++ all_edges (deeper site) v inner spans.first) r
    ∙ ap (λ (v : Around). e1 ++ all_edges (deeper site) (reached site.calls g.body) v spans.first) i
    ∙ ap (λ (v : TwoSpans). e1
    ++ all_edges (deeper site) (reached site.calls g.body) (in_call w v.second.from) v.first) q)
    (l ∙ ap (λ (v : TwoSpans). e2 ++ exit_edges site g to' line v.second) q)
    ∙ ap (λ es. old ++ es)
    (sym
    (emit-Call site.funcs.now site.calls site.counts.ptrs site.counts.datums site.exit f args to' line g w span.from
    told.first.from told.second.from span.then e refl refl))
    ∙ ap (λ z. old ++ stmt_edges site z w span) (sym is)

module _ (site : Site) (w : Around) (span : Span) (s : Stmt) (old e1 e2 : List Edge) where
  pub branch_added : (c : Cond) (x y : List Stmt) (sides : TwoSpans) (e3 : List Edge) → s ≡ Branch c x y
      → e1 ≡ old ++ branch_test site c x y span → sides ≡ branch_spans site c x span
      → e2 ≡ e1 ++ all_edges site x w sides.first → e3 ≡ e2 ++ all_edges site y w sides.second
      → e3 ≡ old ++ stmt_edges site s w span
  branch_added c x y sides e3 is h q k l =
      three_added old _ _ _ e1 e2 e3 h (k ∙ ap (λ (v : TwoSpans). e1 ++ all_edges site x w v.first) q)
      (l ∙ ap (λ (v : TwoSpans). e2 ++ all_edges site y w v.second) q)
      ∙ ap (λ es. old ++ es)
      (sym (emit-Branch site.funcs.now site.calls site.counts.ptrs site.counts.datums site.exit c x y w span.from
      span.then))
      ∙ ap (λ z. old ++ stmt_edges site z w span) (sym is)

  pub for_added : (c : Cond) (n b : List Stmt) (round : TwoSpans) (inner : Around) (e3 : List Edge) → s ≡ For c n b
      → e1 ≡ old ++ loop_test site c n b span → round ≡ loop_spans site c n b span
      → inner ≡ in_loop span.then round.first.then w.back → e2 ≡ e1 ++ all_edges site b inner round.first
      → e3 ≡ e2 ++ all_edges site n w round.second → e3 ≡ old ++ stmt_edges site s w span
  for_added c n b round inner e3 is h q i k l =
      three_added old _ _ _ e1 e2 e3 h
      (k ∙ ap (λ v. e1 ++ all_edges site b v round.first) i
      ∙ ap (λ (v : TwoSpans). e1 ++ all_edges site b (in_loop span.then v.first.then w.back) v.first) q)
      (l ∙ ap (λ (v : TwoSpans). e2 ++ all_edges site n w v.second) q)
      ∙ ap (λ es. old ++ es) (sym (emit-For site.funcs.now site.calls site.counts.ptrs site.counts.datums site.exit c n
      b w span.from span.then))
      ∙ ap (λ z. old ++ stmt_edges site z w span) (sym is)

  pub while_added : (c : Cond) (b : List Stmt) (round : TwoSpans) (inner : Around) → s ≡ While c b
      → e1 ≡ old ++ loop_test site c [] b span → round ≡ loop_spans site c [] b span
      → inner ≡ in_loop span.then round.first.then w.back → e2 ≡ e1 ++ all_edges site b inner round.first
      → e2 ≡ old ++ stmt_edges site s w span
  while_added c b round inner is h q i k =
      three_added old _ _ _ e1 e2 e2 h
      (k ∙ ap (λ v. e1 ++ all_edges site b v round.first) i
      ∙ ap (λ (v : TwoSpans). e1 ++ all_edges site b (in_loop span.then v.first.then w.back) v.first) q)
      (sym
      (ap (λ es. e2 ++ es)
      (emit-none site.funcs.now site.calls site.counts.ptrs site.counts.datums site.exit w
      (loop_spans site c [] b span).second.from
      span.from) ∙ append-nil e2))
      ∙ ap (λ es. old ++ es) (sym (emit-While site.funcs.now site.calls site.counts.ptrs site.counts.datums site.exit c
      b w span.from span.then))
      ∙ ap (λ z. old ++ stmt_edges site z w span) (sym is)

  pub do_added : (c : Cond) (b : List Stmt) (round : Span) (inner : Around) → s ≡ DoWhile c b
      → round ≡ do_span site b span.from
      → inner ≡ in_loop span.then round.then w.back → e1 ≡ old ++ all_edges site b inner round
      → e2 ≡ e1 ++ do_test site c b round span.then → e2 ≡ old ++ stmt_edges site s w span
  do_added c b round inner is q i h k =
      two_added old _ _ e1 e2 (h ∙ ap (λ v. old ++ all_edges site b v round) i
      ∙ ap (λ (v : Span). old ++ all_edges site b (in_loop span.then v.then w.back) v) q)
      (k ∙ ap (λ (v : Span). e1 ++ do_test site c b v span.then) q)
      ∙ ap (λ es. old ++ es)
      (sym (emit-DoWhile site.funcs.now site.calls site.counts.ptrs site.counts.datums site.exit c b w span.from
      span.then))
      ∙ ap (λ z. old ++ stmt_edges site z w span) (sym is)

  pub group_added : (b : List Stmt) (ps ds : List ℕ) (m : ℕ) (spans : TwoSpans) (inner : Around) → s ≡ Group b ps ds m
      → spans ≡ group_spans site b ps ds span
      → inner ≡ closed w ps ds → e1 ≡ old ++ all_edges site b inner spans.first
      → e2 ≡ e1 ++ close_edges ps ds m spans.second.from spans.second.then → e2 ≡ old ++ stmt_edges site s w span
  group_added b ps ds m spans inner is q i h k =
      two_added old _ _ e1 e2 (h ∙ ap (λ v. old ++ all_edges site b v spans.first) i
      ∙ ap (λ (v : TwoSpans). old ++ all_edges site b (closed w ps ds) v.first) q)
      (k ∙ ap (λ (v : TwoSpans). e1 ++ close_edges ps ds m v.second.from v.second.then) q)
      ∙ ap (λ es. old ++ es)
      (sym (emit-Group site.funcs.now site.calls site.counts.ptrs site.counts.datums site.exit b ps ds m w span.from
      span.then))
      ∙ ap (λ z. old ++ stmt_edges site z w span) (sym is)

-- one more statement of a list
module _ (site : Site) (body : List Stmt) (w : Around) (at : ℕ) (s : Stmt) (from next end : ℕ) (h : at < length body)
    (is : s ≡ get_or body at s) (here : from + room site (drop at body) ≡ end)
    (n : next ≡ from + wide_stmt site.funcs.now site.calls site.counts.ptrs site.counts.datums s) where
  pub room_left : next + room site (drop (at + 1) body) ≡ end
  room_left = omega (
    arith,
    here,
    n,
    wide-drop site.funcs.now site.calls site.counts.ptrs site.counts.datums at body s h
        is,
  )

  pub one_added : (after k : ℕ) (inner : Around) (old e0 e1 : List Edge) → after ≡ first_of (end - next) next k
      → inner ≡ inside_each site w (drop (at + 1) body)
      → e0 ++ edges_at site (drop at body) w from k ≡ old → e1 ≡ e0 ++ stmt_edges site s inner (span_of from after)
      → e1 ++ edges_at site (drop (at + 1) body) w next k ≡ old
  one_added after k inner old e0 e1 a i was now =
      let left : end - next ≡ room site (drop (at + 1) body) = omega (arith, room_left) in
      let a2 : after ≡ first_of (room site (drop (at + 1) body)) next k = a ∙ ap (λ m. first_of m next k) left in
      ap (λ es. es ++ edges_at site (drop (at + 1) body) w next k)
      (now ∙ ap (λ v. e0 ++ stmt_edges site s v (span_of from after)) i)
      ∙ append_assoc e0 _ _
      ∙ ap (λ es. e0 ++ es)
      (sym (emit-drop site.funcs.now site.calls site.counts.ptrs site.counts.datums site.exit at body s w from next
      after k h is n a2))
      ∙ was

pub none_left : (site : Site) (body : List Stmt) (w : Around) (at from k : ℕ) (old e0 : List Edge) → length body ≤ at
    → e0 ++ edges_at site (drop at body) w from k ≡ old → e0 ≡ old
none_left site body w at from k old e0 h was = sym (append-nil e0)
    ∙ ap (λ es. e0 ++ es) (sym (emit-end site.funcs.now site.calls site.counts.ptrs site.counts.datums site.exit at body
    w from k h)) ∙ was

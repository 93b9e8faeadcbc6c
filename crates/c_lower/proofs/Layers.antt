-- The room, the edges and the loop heads of statements, a statement at a time.
use Rattle.std.specs.Prelude.{get_or, drop, pred}
use Rattle.std.proofs.Common.{◌≡◌, ℕ, zero, suc, ◌+◌, ◌<◌, ◌≤◌, List, [], ◌∷◌, ◌++◌, length, refl, sym, ap, ◌∙◌, arith}
use Rattle.std.proofs.Common.{Option, Some, None, slice_get}
use Rattle.std.proofs.lemmas.List.{append-nil}
use Rattle.c_types.specs.declared.program.Act.{Act}
use Rattle.c_types.specs.declared.program.Act.TheVariants.{Leave as LeaveAct}
use Rattle.c_types.specs.declared.program.Cond.{Cond}
use Rattle.c_types.specs.declared.program.Stmt.{Stmt}
use Rattle.c_types.specs.declared.program.Arg.{Arg}
use Rattle.c_types.specs.declared.program.Dest.{Dest}
use Rattle.c_types.specs.declared.program.Stmt.TheVariants.{Do as DoStmt, Branch, While, DoWhile, For, Group, Call}
use Rattle.c_types.specs.declared.program.Func.{Func}
use Rattle.c_types.specs.Control.{Items, Done, Loop, Exit, ◌then◌, closes, leave_items, act_items, body_within, test_of}
use Rattle.c_types.proofs.Composing.{act_composed}
use Rattle.c_types.proofs.Layers.{by-Do, by-Branch, by-While, by-DoWhile, by-For, by-Group}
use Rattle.c_types.proofs.Standing.{all_stand}
use Rattle.c_cfg.specs.declared.graph.Edge.{Edge}
use Rattle.c_lower.specs.declared.around.Around.{Around}
use Rattle.c_links.specs.Chains.{chain}
use Rattle.c_cfg.specs.Links.{enter_row, exit_row}
use Rattle.c_edges.specs.ActLinks.{return_of, links_of}
use Rattle.c_lower.specs.inner.Numbering.{test_width, width, enter_width, exit_width}
use Rattle.c_lower.specs.inner.Emitting.{first_of, in_loop, in_call, inside, closed, close_width, close_edges, emit}
use Rattle.c_lower.specs.inner.Emitting.{emit_test, head_numbers, reached, return_to, step_to, items_one, items_in}
use Rattle.c_lower.specs.inner.Emitting.{inside_all, wide_stmt, wide_all, emit_stmt, emit_all, heads_stmt, heads_all}
use Rattle.c_lower.proofs.Closing.{closes_closed}
use Rattle.c_lower.proofs.Standing.{closes_whole, stmt_whole, all_whole, items-more, call_is, call_none}
use Rattle.std.proofs.lemmas.List.{drop_all}
use Rattle.c_lower.proofs.LoopHeads.{heads_then}
use Rattle.c_lower.proofs.Stacking.{first_wide}
use Rattle.c_lower.proofs.Joined.{width_then, before_whole, emit_then}

-- Room

module _ (funcs : List Func) (deep nv nd : ℕ) where
  abbrev under : List Stmt → Items → Items
  under = body_within funcs deep

  pub wide-more : (s : Stmt) (ss : List Stmt) → wide_all funcs deep nv nd (s ∷ ss)
      ≡ wide_stmt funcs deep nv nd s + wide_all funcs deep nv nd ss
  unfolding wide_all wide_stmt
  wide-more s ss = ap (width nv nd) (items-more funcs deep s ss)
      ∙ width_then nv nd (items_one funcs deep s) (items_in funcs deep ss)

  pub wide-none : wide_all funcs deep nv nd [] ≡ 0
  unfolding wide_all
  wide-none = refl

  pub wide-drop : (i : ℕ) (ss : List Stmt) (s : Stmt) → i < length ss → s ≡ get_or ss i s
      → wide_all funcs deep nv nd (drop i ss)
      ≡ wide_stmt funcs deep nv nd s + wide_all funcs deep nv nd (drop (i + 1) ss)
  wide-drop i [] s h e = absurd (omega (arith, h))
  wide-drop zero (x ∷ ss) s h e = wide-more x ss ∙ ap (λ z. wide_stmt funcs deep nv nd z + wide_all funcs deep nv nd ss)
      (sym e)
  wide-drop (suc i) (x ∷ ss) s h e = let q : suc i + 1 ≡ suc (i + 1) = omega arith in
      rw q (wide-drop i ss s (omega (arith, h)) e)

  pub wide-end : (n : ℕ) (ss : List Stmt) → length ss ≤ n → wide_all funcs deep nv nd (drop n ss) ≡ 0
  wide-end n ss h = ap (wide_all funcs deep nv nd) (drop_all n ss h) ∙ wide-none

  leave_wide : (g : Option Func) (f : ℕ) (value : Option Arg) (line : ℕ)
      → width nv nd (leave_items g f value line Done) ≡ width nv nd (leave_items g f value 0 Done)
  leave_wide None f value line = refl
  leave_wide (Some g) f value line = refl

  act_wide : (a : Act) (line : ℕ) → width nv nd (act_items funcs a line Done) ≡ width nv nd (act_items funcs a 0 Done)
  act_wide (LeaveAct f value) line = leave_wide (slice_get funcs f) f value line
  act_wide _ line = refl

  pub wide-Do : (a : Act) (line : ℕ) → wide_stmt funcs deep nv nd (DoStmt a line)
      ≡ width nv nd (act_items funcs a 0 Done)
  unfolding wide_stmt
  wide-Do a line = ap (width nv nd) (by-Do funcs under a line Done) ∙ act_wide a line

  pub wide-Branch : (c : Cond) (x y : List Stmt) → wide_stmt funcs deep nv nd (Branch c x y)
      ≡ test_width nv nd (test_of c) + (wide_all funcs deep nv nd x + wide_all funcs deep nv nd y)
  unfolding wide_stmt wide_all
  wide-Branch c x y = ap (width nv nd) (by-Branch funcs under c x y Done) ∙ omega arith

  pub wide-While : (c : Cond) (b : List Stmt) → wide_stmt funcs deep nv nd (While c b)
      ≡ test_width nv nd (test_of c) + wide_all funcs deep nv nd b
  unfolding wide_stmt wide_all
  wide-While c b = ap (width nv nd) (by-While funcs under c b Done) ∙ omega arith

  pub wide-DoWhile : (c : Cond) (b : List Stmt) → wide_stmt funcs deep nv nd (DoWhile c b)
      ≡ wide_all funcs deep nv nd b + test_width nv nd (test_of c)
  unfolding wide_stmt wide_all
  wide-DoWhile c b = ap (width nv nd) (by-DoWhile funcs under c b Done) ∙ omega arith

  pub wide-For : (c : Cond) (n b : List Stmt) → wide_stmt funcs deep nv nd (For c n b)
      ≡ test_width nv nd (test_of c) + (wide_all funcs deep nv nd b + wide_all funcs deep nv nd n)
  unfolding wide_stmt wide_all
  wide-For c n b = ap (width nv nd) (by-For funcs under c n b Done) ∙ omega arith

  closes_wide : (ps ds : List ℕ) (m : ℕ) → width nv nd (closes ps ds m Done) ≡ close_width ps ds
  closes_wide [] [] m = refl
  closes_wide _ _ m = refl

  group_items : (b : List Stmt) (ps ds : List ℕ) (m : ℕ) → items_one funcs deep (Group b ps ds m)
      ≡ items_in funcs deep b
      then closes ps ds m Done
  group_items b ps ds m = by-Group funcs under b ps ds m Done ∙ all_stand funcs deep b Done (closes ps ds m Done)

  pub wide-Group : (b : List Stmt) (ps ds : List ℕ) (m : ℕ) → wide_stmt funcs deep nv nd (Group b ps ds m)
      ≡ wide_all funcs deep nv nd b + close_width ps ds
  unfolding wide_stmt wide_all
  wide-Group b ps ds m = ap (width nv nd) (group_items b ps ds m)
      ∙ width_then nv nd (items_in funcs deep b) (closes ps ds m Done)
      ∙ ap (λ n. width nv nd (items_in funcs deep b) + n) (closes_wide ps ds m)

  pub wide-Call : (f : ℕ) (args : List Arg) (to' : Option Dest) (line : ℕ) (g : Func) → slice_get funcs f ≡ Some g
      → wide_stmt funcs deep nv nd (Call f args to' line)
      ≡ enter_width nv nd g.params args
      + (wide_all funcs (pred deep) nv nd (reached deep g.body) + exit_width nv nd g.result g.params to')
  unfolding wide_stmt wide_all
  wide-Call f args to' line g e =
      let own = items_in funcs (pred deep) (reached deep g.body) in
      let last = Exit g.result g.params to' line Done in
      let is = ap (width nv nd) (call_is funcs deep f args to' line g e) in
      let both = width_then nv nd own last in
      omega (arith, is, both)

  pub wide-Call-none : (f : ℕ) (args : List Arg) (to' : Option Dest) (line : ℕ) → slice_get funcs f ≡ None
      → wide_stmt funcs deep nv nd (Call f args to' line) ≡ 0
  unfolding wide_stmt
  wide-Call-none f args to' line e = ap (width nv nd) (call_none funcs deep f args to' line e)

  -- Edges

  module _ (exit : ℕ) where
    pub emit-end : (n : ℕ) (ss : List Stmt) (w : Around) (i k : ℕ) → length ss ≤ n
        → emit_all funcs deep nv nd exit (drop n ss) w i k ≡ []
    unfolding emit_all
    emit-end n ss w i k h = ap (λ (z : List Stmt). emit nv nd exit (items_in funcs deep z) w i k) (drop_all n ss h)

    pub emit-none : (w : Around) (i k : ℕ) → emit_all funcs deep nv nd exit [] w i k ≡ []
    unfolding emit_all
    emit-none w i k = refl

    emit-more : (s : Stmt) (ss : List Stmt) (w : Around) (i next after k : ℕ) → next ≡ i + wide_stmt funcs deep nv nd s
        → after ≡ first_of (wide_all funcs deep nv nd ss) next k
        → emit_all funcs deep nv nd exit (s ∷ ss) w i k ≡ emit_stmt funcs deep nv nd exit s (inside_all funcs deep w ss)
        i after
        ++ emit_all funcs deep nv nd exit ss w next k
    unfolding emit_all emit_stmt inside_all wide_stmt wide_all
    emit-more s ss w i next after k e f =
        ap (λ z. emit nv nd exit z w i k) (items-more funcs deep s ss)
        ∙ emit_then nv nd exit 0 (items_one funcs deep s) (stmt_whole funcs deep s 0 Done refl) (items_in funcs deep ss)
        w i next k e
        ∙ ap (λ v. emit nv nd exit (items_one funcs deep s) v i
        (first_of (width nv nd (items_in funcs deep ss)) next k) ++ emit nv nd exit (items_in funcs deep ss) w next k)
        (before_whole nv nd (items_in funcs deep ss) (all_whole funcs deep ss 0 Done refl) w next)
        ∙ ap (λ j. emit nv nd exit (items_one funcs deep s) (inside w (items_in funcs deep ss)) i j
        ++ emit nv nd exit (items_in funcs deep ss) w next k) (sym f)

    pub emit-drop : (i : ℕ) (ss : List Stmt) (s : Stmt) (w : Around) (from next after k : ℕ) → i < length ss
        → s ≡ get_or ss i s → next ≡ from + wide_stmt funcs deep nv nd s
        → after ≡ first_of (wide_all funcs deep nv nd (drop (i + 1) ss)) next k
        → emit_all funcs deep nv nd exit (drop i ss) w from k
        ≡ emit_stmt funcs deep nv nd exit s (inside_all funcs deep w (drop (i + 1) ss)) from after
        ++ emit_all funcs deep nv nd exit (drop (i + 1) ss) w next k
    emit-drop i [] s w from next after k h e n f = absurd (omega (arith, h))
    emit-drop zero (x ∷ ss) s w from next after k h e n f = ap (λ z. emit_all funcs deep nv nd exit (z ∷ ss) w from k)
        (sym e)
        ∙ emit-more s ss w from next after k n f
    emit-drop (suc i) (x ∷ ss) s w from next after k h e n f =
        let q : suc i + 1 ≡ suc (i + 1) = omega arith in
        let g : after ≡ first_of (wide_all funcs deep nv nd (drop (i + 1) ss)) next k =
        f ∙ ap (λ m. first_of (wide_all funcs deep nv nd (drop m (x ∷ ss))) next k) q in
        rw q (emit-drop i ss s w from next after k (omega (arith, h)) e n g)

    leave_emits : (g : Option Func) (f : ℕ) (value : Option Arg) (line : ℕ) (w : Around) (i k : ℕ)
        → emit nv nd exit (leave_items g f value line Done) w i k
        ≡ chain line (return_of nv nd g value) i (return_to funcs exit g w)
    leave_emits None f value line w i k = append-nil (chain line (return_of nv nd None value) i exit)
    leave_emits (Some g) f value line w i k = append-nil (chain line (return_of nv nd (Some g) value) i w.back)

    act_emits : (a : Act) (line : ℕ) (w : Around) (i k : ℕ) → emit nv nd exit (act_items funcs a line Done) w i k
        ≡ chain line (links_of funcs nv nd w.ptrs w.datums a) i (step_to funcs exit w a k)
    act_emits (LeaveAct f value) line w i k = leave_emits (slice_get funcs f) f value line w i k
    act_emits _ line w i k = append-nil _

    pub emit-Do : (a : Act) (line : ℕ) (w : Around) (i k : ℕ) → emit_stmt funcs deep nv nd exit (DoStmt a line) w i k
        ≡ chain line (links_of funcs nv nd w.ptrs w.datums a) i (step_to funcs exit w a k)
    unfolding emit_stmt
    emit-Do a line w i k = ap (λ z. emit nv nd exit z w i k) (by-Do funcs under a line Done) ∙ act_emits a line w i k

    pub emit-Branch : (c : Cond) (x y : List Stmt) (w : Around) (i k : ℕ)
        → emit_stmt funcs deep nv nd exit (Branch c x y) w i k
        ≡ emit_test nv nd (test_of c) i (first_of (wide_all funcs deep nv nd x) (i + test_width nv nd (test_of c)) k)
        (first_of (wide_all funcs deep nv nd y) (i + test_width nv nd (test_of c) + wide_all funcs deep nv nd x) k)
        ++ (emit_all funcs deep nv nd exit x w (i + test_width nv nd (test_of c)) k
        ++ emit_all funcs deep nv nd exit y w (i + test_width nv nd (test_of c) + wide_all funcs deep nv nd x) k)
    unfolding emit_stmt emit_all wide_all
    emit-Branch c x y w i k =
        ap (λ z. emit nv nd exit z w i k) (by-Branch funcs under c x y Done)
        ∙ ap
        (λ es. emit_test nv nd (test_of c) i
        (first_of (width nv nd (items_in funcs deep x)) (i + test_width nv nd (test_of c)) k)
        (first_of (width nv nd (items_in funcs deep y)) (i + test_width nv nd (test_of c) + width nv nd
        (items_in funcs deep x)) k)
        ++ (emit nv nd exit (items_in funcs deep x) w (i + test_width nv nd (test_of c)) k ++ es))
        (append-nil (emit nv nd exit (items_in funcs deep y) w
        (i + test_width nv nd (test_of c) + width nv nd (items_in funcs deep x)) k))

    -- the edges of a `while` or `for`, with the next step n and the body b
    abbrev pub loop_edges : Cond → List Stmt → List Stmt → Around → ℕ → ℕ → List Edge
    loop_edges c n b w i k =
        let inside : ℕ = i + test_width nv nd (test_of c) in
        let after : ℕ = inside + wide_all funcs deep nv nd b in
        let again : ℕ = first_of (wide_all funcs deep nv nd n) after i in
        emit_test nv nd (test_of c) i (first_of (wide_all funcs deep nv nd b) inside again) k
        ++ (emit_all funcs deep nv nd exit b (in_loop k again w.back) inside again
        ++ emit_all funcs deep nv nd exit n w after i)

    emit-loop : (c : Cond) (n b : List Stmt) (w : Around) (i k : ℕ)
        → emit nv nd exit (Loop (test_of c) (items_in funcs deep n) (items_in funcs deep b) Done) w i k
        ≡ loop_edges c n b w i k
    unfolding emit_all wide_all
    emit-loop c n b w i k =
        ap
        (λ es. emit_test nv nd (test_of c) i
        (first_of (width nv nd (items_in funcs deep b)) (i + test_width nv nd (test_of c))
        (first_of (width nv nd (items_in funcs deep n)) (i + test_width nv nd (test_of c) + width nv nd
        (items_in funcs deep b)) i)) k
        ++ (emit nv nd exit (items_in funcs deep b)
        (in_loop k
        (first_of (width nv nd (items_in funcs deep n)) (i + test_width nv nd (test_of c) + width nv nd
        (items_in funcs deep b)) i) w.back)
        (i + test_width nv nd (test_of c))
        (first_of (width nv nd (items_in funcs deep n)) (i + test_width nv nd (test_of c) + width nv nd
        (items_in funcs deep b)) i)
        ++ es))
        (append-nil (emit nv nd exit (items_in funcs deep n) w
        (i + test_width nv nd (test_of c) + width nv nd (items_in funcs deep b)) i))

    pub emit-For : (c : Cond) (n b : List Stmt) (w : Around) (i k : ℕ)
        → emit_stmt funcs deep nv nd exit (For c n b) w i k
        ≡ loop_edges c n b w i k
    unfolding emit_stmt
    emit-For c n b w i k = ap (λ z. emit nv nd exit z w i k) (by-For funcs under c n b Done) ∙ emit-loop c n b w i k

    pub emit-While : (c : Cond) (b : List Stmt) (w : Around) (i k : ℕ)
        → emit_stmt funcs deep nv nd exit (While c b) w i k
        ≡ loop_edges c [] b w i k
    unfolding emit_stmt
    emit-While c b w i k = ap (λ z. emit nv nd exit z w i k) (by-While funcs under c b Done) ∙ emit-loop c [] b w i k

    pub emit-DoWhile : (c : Cond) (b : List Stmt) (w : Around) (i k : ℕ)
        → emit_stmt funcs deep nv nd exit (DoWhile c b) w i k
        ≡ emit_all funcs deep nv nd exit b (in_loop k (i + wide_all funcs deep nv nd b) w.back) i
        (i + wide_all funcs deep nv nd b)
        ++ emit_test nv nd (test_of c) (i + wide_all funcs deep nv nd b)
        (first_of (wide_all funcs deep nv nd b) i (i + wide_all funcs deep nv nd b))
        k
    unfolding emit_stmt emit_all wide_all
    emit-DoWhile c b w i k =
        ap (λ z. emit nv nd exit z w i k) (by-DoWhile funcs under c b Done)
        ∙ ap
        (λ es. emit nv nd exit (items_in funcs deep b) (in_loop k (i + width nv nd (items_in funcs deep b)) w.back) i
        (i + width nv nd (items_in funcs deep b)) ++ es)
        (append-nil
        (emit_test nv nd (test_of c) (i + width nv nd (items_in funcs deep b))
        (first_of (width nv nd (items_in funcs deep b)) i (i + width nv nd (items_in funcs deep b))) k))

    closes_edges : (ps ds : List ℕ) (m : ℕ) (w : Around) (i k : ℕ) → emit nv nd exit (closes ps ds m Done) w i k
        ≡ close_edges ps ds m i k
    closes_edges [] [] m w i k = refl
    closes_edges _ _ m w i k = refl

    pub emit-Group : (b : List Stmt) (ps ds : List ℕ) (m : ℕ) (w : Around) (i k : ℕ)
        → emit_stmt funcs deep nv nd exit (Group b ps ds m) w i k
        ≡ emit_all funcs deep nv nd exit b (closed w ps ds) i
        (first_of (close_width ps ds) (i + wide_all funcs deep nv nd b) k)
        ++ close_edges ps ds m (i + wide_all funcs deep nv nd b) k
    unfolding emit_stmt emit_all wide_all
    emit-Group b ps ds m w i k =
        ap (λ z. emit nv nd exit z w i k) (group_items b ps ds m)
        ∙ emit_then nv nd exit 0 (items_in funcs deep b) (all_whole funcs deep b 0 Done refl) (closes ps ds m Done) w i
        (i + width nv nd (items_in funcs deep b)) k refl
        ∙ ap
        (λ v. emit nv nd exit (items_in funcs deep b) v i
        (first_of (width nv nd (closes ps ds m Done)) (i + width nv nd (items_in funcs deep b)) k)
        ++ emit nv nd exit (closes ps ds m Done) w (i + width nv nd (items_in funcs deep b)) k)
        (before_whole nv nd (closes ps ds m Done) (closes_whole ps ds m 0 Done refl) w
        (i + width nv nd (items_in funcs deep b)) ∙ closes_closed w ps ds m)
        ∙ ap (λ n. emit nv nd exit (items_in funcs deep b) (closed w ps ds) i
        (first_of n (i + width nv nd (items_in funcs deep b)) k)
        ++ emit nv nd exit (closes ps ds m Done) w (i + width nv nd (items_in funcs deep b)) k) (closes_wide ps ds m)
        ∙ ap
        (λ es. emit nv nd exit (items_in funcs deep b) (closed w ps ds) i
        (first_of (close_width ps ds) (i + width nv nd (items_in funcs deep b)) k) ++ es)
        (closes_edges ps ds m w (i + width nv nd (items_in funcs deep b)) k)

    -- the enter leads to the body, or to the exit where it has no location; a `return` in it leads to the exit
    pub emit-Call : (f : ℕ) (args : List Arg) (to' : Option Dest) (line : ℕ) (g : Func) (w : Around)
        (i i1 i2 k : ℕ) → slice_get funcs f ≡ Some g → i1 ≡ i + enter_width nv nd g.params args
        → i2 ≡ i1 + wide_all funcs (pred deep) nv nd (reached deep g.body)
        → emit_stmt funcs deep nv nd exit (Call f args to' line) w i k
        ≡ chain line (enter_row nv nd g.params args) i i1
        ++ (emit_all funcs (pred deep) nv nd exit (reached deep g.body) (in_call w i2) i1 i2
        ++ chain line (exit_row nv nd g.result g.params to') i2 k)
    unfolding emit_stmt emit_all wide_all
    emit-Call f args to' line g w i i1 i2 k e e1 e2 =
        let own = items_in funcs (pred deep) (reached deep g.body) in
        let last = Exit g.result g.params to' line Done in
        let after = first_of (width nv nd (own then last)) (i + enter_width nv nd g.params args) k in
        let wide = width_then nv nd own last in
        let first : first_of (width nv nd (own then last)) i1 k ≡ i1 =
        first_wide (width nv nd (own then last)) i1 k (omega (arith, wide)) in
        let end : first_of (width nv nd last) i2 k ≡ i2 = first_wide (width nv nd last) i2 k (omega arith) in
        ap (λ z. emit nv nd exit z w i k) (call_is funcs deep f args to' line g e)
        ∙ ap (λ j. chain line (enter_row nv nd g.params args) i (first_of (width nv nd (own then last)) j k)
        ++ emit nv nd exit (own then last) w j k) (sym e1)
        ∙ ap (λ j. chain line (enter_row nv nd g.params args) i j ++ emit nv nd exit (own then last) w i1 k) first
        ∙ ap (λ es. chain line (enter_row nv nd g.params args) i i1 ++ es)
        (emit_then nv nd exit 0 own (all_whole funcs (pred deep) (reached deep g.body) 0 Done refl) last w i1 i2 k e2
        ∙ ap (λ j. emit nv nd exit own (in_call w i2) i1 j ++ emit nv nd exit last w i2 k) end
        ∙ ap (λ es. emit nv nd exit own (in_call w i2) i1 i2 ++ es)
        (append-nil (chain line (exit_row nv nd g.result g.params to') i2 k)))

    pub emit-Call-none : (f : ℕ) (args : List Arg) (to' : Option Dest) (line : ℕ) (w : Around) (i k : ℕ)
        → slice_get funcs f ≡ None → emit_stmt funcs deep nv nd exit (Call f args to' line) w i k ≡ []
    unfolding emit_stmt
    emit-Call-none f args to' line w i k e =
        ap (λ z. emit nv nd exit z w i k) (call_none funcs deep f args to' line e)

  -- Loop heads

  pub heads-end : (n : ℕ) (ss : List Stmt) (i : ℕ) → length ss ≤ n → heads_all funcs deep nv nd (drop n ss) i ≡ []
  unfolding heads_all
  heads-end n ss i h = ap (λ (z : List Stmt). head_numbers nv nd (items_in funcs deep z) i) (drop_all n ss h)

  heads-more : (s : Stmt) (ss : List Stmt) (i next : ℕ) → next ≡ i + wide_stmt funcs deep nv nd s
      → heads_all funcs deep nv nd (s ∷ ss) i
      ≡ heads_stmt funcs deep nv nd s i ++ heads_all funcs deep nv nd ss next
  unfolding heads_all heads_stmt wide_stmt
  heads-more s ss i next e = ap (λ z. head_numbers nv nd z i) (items-more funcs deep s ss)
      ∙ heads_then nv nd 0 (items_one funcs deep s) (stmt_whole funcs deep s 0 Done refl) (items_in funcs deep ss) i
      next e

  pub heads-drop : (i : ℕ) (ss : List Stmt) (s : Stmt) (from next : ℕ) → i < length ss → s ≡ get_or ss i s
      → next ≡ from + wide_stmt funcs deep nv nd s
      → heads_all funcs deep nv nd (drop i ss) from ≡ heads_stmt funcs deep nv nd s from
      ++ heads_all funcs deep nv nd (drop (i + 1) ss) next
  heads-drop i [] s from next h e n = absurd (omega (arith, h))
  heads-drop zero (x ∷ ss) s from next h e n = ap (λ z. heads_all funcs deep nv nd (z ∷ ss) from) (sym e)
      ∙ heads-more s ss from next n
  heads-drop (suc i) (x ∷ ss) s from next h e n = let q : suc i + 1 ≡ suc (i + 1) = omega arith in
      rw q (heads-drop i ss s from next (omega (arith, h)) e n)

  -- an act has no loop
  abbrev HasNoHeads : (Items → Items) → Type 0
  HasNoHeads f = (i : ℕ) → head_numbers nv nd (f Done) i ≡ []

  act_heads : (a : Act) (line : ℕ) → HasNoHeads (act_items funcs a line)
  act_heads = act_composed HasNoHeads (λ a line i. refl) (λ g value line i. refl) funcs

  pub heads-Do : (a : Act) (line i : ℕ) → heads_stmt funcs deep nv nd (DoStmt a line) i ≡ []
  unfolding heads_stmt
  heads-Do a line i = ap (λ z. head_numbers nv nd z i) (by-Do funcs under a line Done) ∙ act_heads a line i

  pub heads-Branch : (c : Cond) (x y : List Stmt) (i : ℕ)
      → heads_stmt funcs deep nv nd (Branch c x y) i ≡ heads_all funcs deep nv nd x (i + test_width nv nd (test_of c))
      ++ heads_all funcs deep nv nd y (i + test_width nv nd (test_of c) + wide_all funcs deep nv nd x)
  unfolding heads_stmt heads_all wide_all
  heads-Branch c x y i =
      ap (λ z. head_numbers nv nd z i) (by-Branch funcs under c x y Done)
      ∙ ap (λ ks. head_numbers nv nd (items_in funcs deep x) (i + test_width nv nd (test_of c)) ++ ks)
      (append-nil (head_numbers nv nd (items_in funcs deep y)
      (i + test_width nv nd (test_of c) + width nv nd (items_in funcs deep x))))

  pub heads-While : (c : Cond) (b : List Stmt) (i : ℕ) → heads_stmt funcs deep nv nd (While c b) i
      ≡ i ∷ heads_all funcs deep nv nd b (i + test_width nv nd (test_of c))
  unfolding heads_stmt heads_all
  heads-While c b i = ap (λ z. head_numbers nv nd z i) (by-While funcs under c b Done)
      ∙ ap (λ ks. i ∷ ks) (append-nil (head_numbers nv nd (items_in funcs deep b) (i + test_width nv nd (test_of c))))

  pub heads-DoWhile : (c : Cond) (b : List Stmt) (i : ℕ) → heads_stmt funcs deep nv nd (DoWhile c b) i
      ≡ (i + wide_all funcs deep nv nd b)
      ∷ heads_all funcs deep nv nd b i
  unfolding heads_stmt heads_all wide_all
  heads-DoWhile c b i = ap (λ z. head_numbers nv nd z i) (by-DoWhile funcs under c b Done)
      ∙ ap (λ ks. (i + width nv nd (items_in funcs deep b)) ∷ ks)
      (append-nil (head_numbers nv nd (items_in funcs deep b) i))

  pub heads-For : (c : Cond) (n b : List Stmt) (i : ℕ)
      → heads_stmt funcs deep nv nd (For c n b) i ≡ i ∷ heads_all funcs deep nv nd b (i + test_width nv nd (test_of c))
      ++ heads_all funcs deep nv nd n (i + test_width nv nd (test_of c) + wide_all funcs deep nv nd b)
  unfolding heads_stmt heads_all wide_all
  heads-For c n b i =
      ap (λ z. head_numbers nv nd z i) (by-For funcs under c n b Done)
      ∙ ap (λ ks. i ∷ head_numbers nv nd (items_in funcs deep b) (i + test_width nv nd (test_of c)) ++ ks)
      (append-nil (head_numbers nv nd (items_in funcs deep n)
      (i + test_width nv nd (test_of c) + width nv nd (items_in funcs deep b))))

  closes_heads : (ps ds : List ℕ) (m i : ℕ) → head_numbers nv nd (closes ps ds m Done) i ≡ []
  closes_heads [] [] m i = refl
  closes_heads _ _ m i = refl

  pub heads-Group : (b : List Stmt) (ps ds : List ℕ) (m i : ℕ) → heads_stmt funcs deep nv nd (Group b ps ds m) i
      ≡ heads_all funcs deep nv nd b i
  unfolding heads_stmt heads_all
  heads-Group b ps ds m i =
      ap (λ z. head_numbers nv nd z i) (group_items b ps ds m)
      ∙ heads_then nv nd 0 (items_in funcs deep b) (all_whole funcs deep b 0 Done refl) (closes ps ds m Done) i
      (i + width nv nd (items_in funcs deep b)) refl
      ∙ ap (λ ks. head_numbers nv nd (items_in funcs deep b) i ++ ks)
      (closes_heads ps ds m (i + width nv nd (items_in funcs deep b)))
      ∙ append-nil (head_numbers nv nd (items_in funcs deep b) i)

  pub heads-Call : (f : ℕ) (args : List Arg) (to' : Option Dest) (line : ℕ) (g : Func) (i : ℕ)
      → slice_get funcs f ≡ Some g
      → heads_stmt funcs deep nv nd (Call f args to' line) i
      ≡ heads_all funcs (pred deep) nv nd (reached deep g.body) (i + enter_width nv nd g.params args)
  unfolding heads_stmt heads_all
  heads-Call f args to' line g i e =
      let own = items_in funcs (pred deep) (reached deep g.body) in
      let i1 = i + enter_width nv nd g.params args in
      ap (λ z. head_numbers nv nd z i) (call_is funcs deep f args to' line g e)
      ∙ heads_then nv nd 0 own (all_whole funcs (pred deep) (reached deep g.body) 0 Done refl)
      (Exit g.result g.params to' line Done) i1 (i1 + width nv nd own) refl ∙ append-nil (head_numbers nv nd own i1)

  pub heads-Call-none : (f : ℕ) (args : List Arg) (to' : Option Dest) (line i : ℕ) → slice_get funcs f ≡ None
      → heads_stmt funcs deep nv nd (Call f args to' line) i ≡ []
  unfolding heads_stmt
  heads-Call-none f args to' line i e = ap (λ z. head_numbers nv nd z i) (call_none funcs deep f args to' line e)

pub ruleset rooms = (
  wide-none,
  wide-drop,
  wide-end,
  wide-Do,
  wide-Branch,
  wide-While,
  wide-DoWhile,
  wide-For,
  wide-Group,
  wide-Call,
  wide-Call-none,
)

pub ruleset statements = (
  wide-none,
  wide-drop,
  wide-end,
  emit-none,
  emit-end,
  emit-drop,
  emit-Do,
  emit-Branch,
  emit-While,
  emit-DoWhile,
  emit-For,
  emit-Group,
  emit-Call,
  emit-Call-none,
)

pub ruleset loops = (
  wide-none,
  wide-drop,
  wide-end,
  heads-end,
  heads-drop,
  heads-Do,
  heads-Branch,
  heads-While,
  heads-DoWhile,
  heads-For,
  heads-Group,
  heads-Call,
  heads-Call-none,
)

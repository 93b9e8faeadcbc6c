-- Places at which a step keeps the parameters of functions that are not active: what it writes is a variable of the
-- body in which it stands, and a call that begins is of a function that is not active.
use Rattle.std.proofs.Common.{◌≡◌, ℕ, Option, Some, None, List, ◌++◌, sym, ap, ◌∙◌, subst}
use Rattle.fore_base.specs.Lists.{IsIn, Every}
use Rattle.fore_base.proofs.ListLemmas.{every_append}
use Rattle.c_types.specs.declared.program.VarRef.{VarRef}
use Rattle.c_types.specs.declared.program.VarRef.TheVariants.{Ptr as PtrVar}
use Rattle.c_types.specs.declared.program.Dest.{Dest}
use Rattle.c_types.specs.declared.program.Dest.TheVariants.{Ptr as PtrDest, Data as DataDest}
use Rattle.c_types.specs.declared.program.Act.{Act}
use Rattle.c_types.specs.declared.program.Act.TheVariants.{SetPtr, SetData, Free, Error, Halt, Return, Break, Continue}
use Rattle.c_types.specs.declared.program.Act.TheVariants.{Leave as LeaveAct}
use Rattle.c_types.specs.Program.{Program}
use Rattle.c_types.specs.Control.{Items, Done, Do, Close, If, Loop, Again, DoLoop, DoAgain, Test, Ask, Not, Both}
use Rattle.c_types.specs.Control.{Either, Enter, Leave, Exit, ◌then◌, round, do_round, after_again, from_again}
use Rattle.c_cfg.specs.Places.{test_places, places, remark_test, remark}
use Rattle.c_cfg.proofs.Landing.{EachTest, Each}
use Rattle.c_cfg.proofs.Agree.OtherMarks.{remark_then, remark_after, remark_from}
use Rattle.c_cfg.proofs.Calls.OpenCalls.{open_vars, open_remark}
use Rattle.c_cfg.proofs.Calls.Params.{IsParam}

-- What is known of each place is known of all in a list.

module _ (R : Items → Type 0) where
  tests_every : (c : Test) (x y r : Items) → EachTest R c x y r → Every R (test_places c x y r)
  tests_every (Ask a m) x y r h = (h, tt)
  tests_every (Not c) x y r h = tests_every c y x r h
  tests_every (Both c d) x y r h =
      every_append R (test_places c (If d x y Done) y r) _ (tests_every c (If d x y Done) y r h.0)
      (tests_every d x y r h.1)
  tests_every (Either c d) x y r h =
      every_append R (test_places c x (If d x y Done) r) _ (tests_every c x (If d x y Done) r h.0)
      (tests_every d x y r h.1)

  pub each_every : (is r : Items) → Each R is r → Every R (places is r)
  each_every Done r h = tt
  each_every (Do a m is) r h = (h.0, each_every is r h.1)
  each_every (Close ps ds m is) r h = (h.0, each_every is r h.1)
  each_every (If c x y is) r h =
      every_append R (test_places c x y (is then r)) _ (tests_every c x y (is then r) h.0)
      (every_append R (places x (is then r)) _ (each_every x (is then r) h.1)
      (every_append R (places y (is then r)) _ (each_every y (is then r) h.2) (each_every is r h.3)))
  each_every (Loop c n b is) r h =
      every_append R (test_places c (round c n b) Done (is then r)) _
      (tests_every c (round c n b) Done (is then r) h.0)
      (every_append R (places b (Again c n b (is then r))) _ (each_every b (Again c n b (is then r)) h.1)
      (every_append R (places n (Loop c n b (is then r))) _ (each_every n (Loop c n b (is then r)) h.2)
      (each_every is r h.3)))
  each_every (Again c n b is) r h =
      every_append R (places n (Loop c n b (is then r))) _ (each_every n (Loop c n b (is then r)) h.2)
      (every_append R (test_places c (round c n b) Done (is then r)) _
      (tests_every c (round c n b) Done (is then r) h.0)
      (every_append R (places b (Again c n b (is then r))) _ (each_every b (Again c n b (is then r)) h.1)
      (each_every is r h.3)))
  each_every (DoLoop c b is) r h =
      every_append R (places b (DoAgain c b (is then r))) _ (each_every b (DoAgain c b (is then r)) h.1)
      (every_append R (test_places c (do_round c b) Done (is then r)) _
      (tests_every c (do_round c b) Done (is then r) h.0) (each_every is r h.2))
  each_every (DoAgain c b is) r h =
      every_append R (test_places c (do_round c b) Done (is then r)) _
      (tests_every c (do_round c b) Done (is then r) h.0)
      (every_append R (places b (DoAgain c b (is then r))) _ (each_every b (DoAgain c b (is then r)) h.1)
      (each_every is r h.2))
  each_every (Enter vs ws m is) r h = (h.0, each_every is r h.1)
  each_every (Leave v vs a m is) r h = (h.0, each_every is r h.1)
  each_every (Exit v vs d m is) r h = (h.0, each_every is r h.1)

module _ (p : Program) where
  -- if the variable is a parameter, it is one of these
  abbrev pub Home : List VarRef → ℕ → Type 0
  Home vs x = IsParam p.funcs x → IsIn (PtrVar x) vs

  -- an act that stands before these items
  abbrev pub ActHomed : Act → Items → Type 0
  ActHomed (SetPtr to from) is = Home (open_vars 0 is) to.var
  ActHomed (SetData to from) is = Unit {0}
  ActHomed (Free q) is = Unit {0}
  ActHomed Error is = Unit {0}
  ActHomed Halt is = Unit {0}
  ActHomed (Return operand) is = Unit {0}
  ActHomed (LeaveAct f value) is = Unit {0}
  ActHomed Break is = open_vars 0 (after_again is) ≡ open_vars 0 is
  ActHomed Continue is = open_vars 0 (from_again is) ≡ open_vars 0 is

  abbrev pub DestHomed : Option Dest → Items → Type 0
  DestHomed None is = Unit {0}
  DestHomed (Some (PtrDest q)) is = Home (open_vars 0 is) q.var
  DestHomed (Some (DataDest q)) is = Unit {0}

  -- a call that begins opens its parameters, none of which was open
  pub record EnterHomed (vs : List VarRef) (is : Items) : Type 0 where
    pub opens : open_vars 0 is ≡ vs ++ open_vars 1 is
    pub apart : (x : ℕ) → IsIn (PtrVar x) vs → IsIn (PtrVar x) (open_vars 1 is) → ⊥

  abbrev pub Homed : Items → Type 0
  Homed Done = Unit {0}
  Homed (Do a m is) = ActHomed a is
  Homed (Close ps ds m is) = Unit {0}
  Homed (If c x y is) = Unit {0}
  Homed (Loop c n b is) = Unit {0}
  Homed (Again c n b is) = Unit {0}
  Homed (DoLoop c b is) = Unit {0}
  Homed (DoAgain c b is) = Unit {0}
  Homed (Enter vs ws m is) = EnterHomed vs is
  Homed (Leave v vs a m is) = Unit {0}
  Homed (Exit v vs d m is) = DestHomed d is

  pub tests_homed : (c : Test) (x y r : Items) → EachTest Homed c x y r
  tests_homed (Ask a m) x y r = tt
  tests_homed (Not c) x y r = tests_homed c y x r
  tests_homed (Both c d) x y r = (tests_homed c (If d x y Done) y r, tests_homed d x y r)
  tests_homed (Either c d) x y r = (tests_homed c x (If d x y Done) r, tests_homed d x y r)

  -- marks have no bearing

  module _ (f : ℕ → ℕ) where
    act_unmarked : (a : Act) (c : Items) → ActHomed a (remark f c) → ActHomed a c
    act_unmarked (SetPtr to from) c h = subst (λ us. Home us to.var) (open_remark f 0 c) h
    act_unmarked Break c h = sym (open_remark f 0 (after_again c)) ∙ sym (ap (open_vars 0) (remark_after f c)) ∙ h
        ∙ open_remark f 0 c
    act_unmarked Continue c h = sym (open_remark f 0 (from_again c)) ∙ sym (ap (open_vars 0) (remark_from f c)) ∙ h
        ∙ open_remark f 0 c
    act_unmarked _ c h = tt

    dest_unmarked : (d : Option Dest) (c : Items) → DestHomed d (remark f c) → DestHomed d c
    dest_unmarked None c h = tt
    dest_unmarked (Some (PtrDest q)) c h = subst (λ us. Home us q.var) (open_remark f 0 c) h
    dest_unmarked (Some (DataDest q)) c h = tt

    enter_unmarked : (vs : List VarRef) (c : Items) → EnterHomed vs (remark f c) → EnterHomed vs c
    enter_unmarked vs c h = record {
      opens = sym (open_remark f 0 c) ∙ h.opens ∙ ap (λ us. vs ++ us) (open_remark f 1 c);
      apart = λ x i j. h.apart x i (subst (IsIn (PtrVar x)) (sym (open_remark f 1 c)) j);
    }

    again_marked : (c : Test) (n b is r x : Items)
        → Each Homed (remark f x) (Again (remark_test f c) (remark f n) (remark f b) (remark f is then remark f r))
        → Each Homed (remark f x) (Again (remark_test f c) (remark f n) (remark f b) (remark f (is then r)))
    again_marked c n b is r x h =
        subst (λ z. Each Homed (remark f x) (Again (remark_test f c) (remark f n) (remark f b) z))
        (sym (remark_then f is r)) h

    loop_marked : (c : Test) (n b is r x : Items)
        → Each Homed (remark f x) (Loop (remark_test f c) (remark f n) (remark f b) (remark f is then remark f r))
        → Each Homed (remark f x) (Loop (remark_test f c) (remark f n) (remark f b) (remark f (is then r)))
    loop_marked c n b is r x h =
        subst (λ z. Each Homed (remark f x) (Loop (remark_test f c) (remark f n) (remark f b) z))
        (sym (remark_then f is r)) h

    do_marked : (c : Test) (b is r : Items)
        → Each Homed (remark f b) (DoAgain (remark_test f c) (remark f b) (remark f is then remark f r))
        → Each Homed (remark f b) (DoAgain (remark_test f c) (remark f b) (remark f (is then r)))
    do_marked c b is r h = subst (λ z. Each Homed (remark f b) (DoAgain (remark_test f c) (remark f b) z))
        (sym (remark_then f is r)) h

    pub each_unmarked : (is r : Items) → Each Homed (remark f is) (remark f r) → Each Homed is r
    each_unmarked Done r h = tt
    each_unmarked (Do a m is) r h =
        (act_unmarked a (is then r) (subst (ActHomed a) (sym (remark_then f is r)) h.0), each_unmarked is r h.1)
    each_unmarked (Close ps ds m is) r h = (tt, each_unmarked is r h.1)
    each_unmarked (If c x y is) r h = (
      tests_homed c x y (is then r),
      each_unmarked x (is then r) (subst (Each Homed (remark f x)) (sym (remark_then f is r)) h.1),
      each_unmarked y (is then r) (subst (Each Homed (remark f y)) (sym (remark_then f is r)) h.2),
      each_unmarked is r h.3,
    )
    each_unmarked (Loop c n b is) r h = (
      tests_homed c (round c n b) Done (is then r),
      each_unmarked b (Again c n b (is then r)) (again_marked c n b is r b h.1),
      each_unmarked n (Loop c n b (is then r)) (loop_marked c n b is r n h.2),
      each_unmarked is r h.3,
    )
    each_unmarked (Again c n b is) r h = (
      tests_homed c (round c n b) Done (is then r),
      each_unmarked b (Again c n b (is then r)) (again_marked c n b is r b h.1),
      each_unmarked n (Loop c n b (is then r)) (loop_marked c n b is r n h.2),
      each_unmarked is r h.3,
    )
    each_unmarked (DoLoop c b is) r h = (
      tests_homed c (do_round c b) Done (is then r),
      each_unmarked b (DoAgain c b (is then r)) (do_marked c b is r h.1),
      each_unmarked is r h.2,
    )
    each_unmarked (DoAgain c b is) r h = (
      tests_homed c (do_round c b) Done (is then r),
      each_unmarked b (DoAgain c b (is then r)) (do_marked c b is r h.1),
      each_unmarked is r h.2,
    )
    each_unmarked (Enter vs ws m is) r h =
        (enter_unmarked vs (is then r) (subst (EnterHomed vs) (sym (remark_then f is r)) h.0), each_unmarked is r h.1)
    each_unmarked (Leave v vs a m is) r h = (tt, each_unmarked is r h.1)
    each_unmarked (Exit v vs d m is) r h =
        (dest_unmarked d (is then r) (subst (DestHomed d) (sym (remark_then f is r)) h.0), each_unmarked is r h.1)

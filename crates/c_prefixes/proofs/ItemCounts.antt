-- How many paths begin at a place, by how many begin where its step leads. Marks have no bearing on it, so it is a
-- number of the program.
use Rattle.std.proofs.Common.{◌≡◌, ℕ, zero, suc, ◌+◌, true, false, List, [], ◌∷◌, refl, ap, ◌∙◌}
use Rattle.c_types.specs.declared.mode.MallocMode.{MallocMode}
use Rattle.c_types.specs.declared.mode.MallocMode.TheVariants.{Always, MayFail}
use Rattle.c_types.specs.declared.program.Act.{Act}
use Rattle.c_types.specs.declared.program.Act.TheVariants.{SetPtr, SetData, Free, Error, Halt, Return, Break}
use Rattle.c_types.specs.declared.program.Act.TheVariants.{Continue, Leave as LeaveAct}
use Rattle.c_types.specs.declared.program.Atom.{Atom}
use Rattle.c_types.specs.declared.program.Atom.TheVariants.{Choice as ChoiceAtom, Known as KnownAtom, Ptr as PtrAtom}
use Rattle.c_types.specs.declared.program.Atom.TheVariants.{Data as DataAtom}
use Rattle.c_types.specs.Control.{Items, Done, Do, Close, If, Loop, Again, DoLoop, DoAgain, Enter, Leave, Exit, Test}
use Rattle.c_types.specs.Control.{Ask, Not, Both, Either}
use Rattle.c_cfg.specs.declared.link.Link.{Link}
use Rattle.c_cfg.specs.declared.link.Link.TheVariants.{One, Two}
use Rattle.c_cfg.specs.Links.{act_row, enter_row, exit_row, leave_row, links_in, ptr_loads, ptr_ends, cmp_loads}
use Rattle.c_cfg.specs.Links.{data_ends}
use Rattle.c_cfg.specs.Places.{remark_test, remark}

-- of a location where one edge begins, and where two begin
abbrev pub one_after : ℕ → ℕ
one_after a = 1 + (a + 0)

abbrev pub two_after : ℕ → ℕ → ℕ
two_after a b = 1 + (a + (b + 0))

-- of the beginning of a way over links
abbrev pub way_count : List Link → ℕ → ℕ
way_count [] n = n
way_count (One i ∷ ls) n = one_after (way_count ls n)
way_count (Two i j ∷ ls) n = two_after (way_count ls n) (way_count ls n)

-- of a comparison
abbrev pub row_count : List Link → List Link → ℕ → ℕ → ℕ
row_count loads ends same other = way_count loads (two_after (way_count ends same) (way_count ends other))

-- an act leads on, or a run ends
abbrev pub act_after : Act → ℕ → ℕ
act_after (SetPtr to from) n = n
act_after (SetData to from) n = n
act_after (Free p) n = n
act_after Error n = 1
act_after Halt n = 1
act_after (Return operand) n = 1
act_after (LeaveAct f value) n = 1
act_after Break n = 1
act_after Continue n = 1

-- of an Exit and of those behind it
abbrev pub exits_from : ℕ → (ℕ → ℕ) → ℕ → ℕ
exits_from own later zero = own
exits_from own later (suc k) = later k

module _ (nv nd : ℕ) where
  abbrev pub atom_count : Atom → ℕ → ℕ → ℕ
  atom_count ChoiceAtom a b = two_after b a
  atom_count (KnownAtom true) a b = one_after a
  atom_count (KnownAtom false) a b = one_after b
  atom_count (PtrAtom l r true) a b = row_count (ptr_loads nv nd l r) (ptr_ends nv nd l r) a b
  atom_count (PtrAtom l r false) a b = row_count (ptr_loads nv nd l r) (ptr_ends nv nd l r) b a
  atom_count (DataAtom l r true) a b = row_count (cmp_loads nv nd l r) (data_ends nv nd l r) a b
  atom_count (DataAtom l r false) a b = row_count (cmp_loads nv nd l r) (data_ends nv nd l r) b a

  abbrev pub test_count : Test → ℕ → ℕ → ℕ
  test_count (Ask x m) a b = atom_count x a b
  test_count (Not c) a b = test_count c b a
  test_count (Both c d) a b = test_count c (test_count d a b) b
  test_count (Either c d) a b = test_count c a (test_count d a b)

  test_remarked : (f : ℕ → ℕ) (c : Test) (a b : ℕ) → test_count (remark_test f c) a b ≡ test_count c a b
  test_remarked f (Ask x m) a b = refl
  test_remarked f (Not c) a b = test_remarked f c b a
  test_remarked f (Both c d) a b =
      test_remarked f c (test_count (remark_test f d) a b) b
      ∙ ap (λ (n : ℕ). test_count c n b) (test_remarked f d a b)
  test_remarked f (Either c d) a b =
      test_remarked f c a (test_count (remark_test f d) a b)
      ∙ ap (λ (n : ℕ). test_count c a n) (test_remarked f d a b)

  module _ (mode : MallocMode) where
    -- what stands behind an act decides which variables it kills, and not over how many edges
    pub act_same : (a : Act) (is : Items) (n : ℕ) → way_count (links_in mode (act_row nv nd a Done)) n
        ≡ way_count (links_in mode (act_row nv nd a is)) n
    act_same Break is n = one_kill mode
      where
        one_kill : (m : MallocMode) → way_count (links_in m (act_row nv nd Break Done)) n
            ≡ way_count (links_in m (act_row nv nd Break is)) n
        one_kill Always = refl
        one_kill MayFail = refl
    act_same Continue is n = one_kill mode
      where
        one_kill : (m : MallocMode) → way_count (links_in m (act_row nv nd Continue Done)) n
            ≡ way_count (links_in m (act_row nv nd Continue is)) n
        one_kill Always = refl
        one_kill MayFail = refl
    act_same _ is n = refl

    -- of items without a loop, and of each Exit among them that ends none of their own calls; n and e are those of what
    -- stands behind the items
    abbrev pub counts : Items → ℕ → (ℕ → ℕ) → ℕ × (ℕ → ℕ)
    counts Done n e = (n, e)
    counts (Do a m is) n e =
        (way_count (links_in mode (act_row nv nd a Done)) (act_after a (counts is n e).0), (counts is n e).1)
    counts (Close ps ds m is) n e = (one_after (counts is n e).0, (counts is n e).1)
    counts (If c x y is) n e = (
      test_count c (counts x (counts is n e).0 (counts is n e).1).0 (counts y (counts is n e).0 (counts is n e).1).0,
      (counts is n e).1,
    )
    counts (Loop c k b is) n e = (n, e)
    counts (Again c k b is) n e = (n, e)
    counts (DoLoop c b is) n e = (n, e)
    counts (DoAgain c b is) n e = (n, e)
    counts (Enter vs ws m is) n e =
        (way_count (enter_row nv nd vs ws) (counts is n e).0, λ k. (counts is n e).1 (suc k))
    counts (Leave v vs a m is) n e =
        (way_count (leave_row nv nd v vs a) ((counts is n e).1 0), (counts is n e).1)
    counts (Exit v vs d m is) n e = (
      way_count (exit_row nv nd v vs d) (counts is n e).0,
      exits_from (way_count (exit_row nv nd v vs d) (counts is n e).0) (counts is n e).1,
    )

    -- two numbers of items and of Exits are the same
    abbrev AreSame : ℕ × (ℕ → ℕ) → ℕ × (ℕ → ℕ) → Type 0
    AreSame a b = (a.0 ≡ b.0) × ((k : ℕ) → a.1 k ≡ b.1 k)

    same_exits : (own other : ℕ) (e g : ℕ → ℕ) → own ≡ other → ((k : ℕ) → e k ≡ g k) → (k : ℕ)
        → exits_from own e k ≡ exits_from other g k
    same_exits own other e g same later zero = same
    same_exits own other e g same later (suc k) = later k

    pub count_remarked : (f : ℕ → ℕ) (is : Items) (n o : ℕ) (e g : ℕ → ℕ) → AreSame (n, e) (o, g)
        → AreSame (counts (remark f is) n e) (counts is o g)
    count_remarked f (Do a m is) n o e g s =
        let r = count_remarked f is n o e g s in
        (ap (λ (k : ℕ). way_count (links_in mode (act_row nv nd a Done)) (act_after a k)) r.0, r.1)
    count_remarked f (Close ps ds m is) n o e g s =
        let r = count_remarked f is n o e g s in (ap one_after r.0, r.1)
    count_remarked f (If c x y is) n o e g s =
        let r = count_remarked f is n o e g s in
        let a = counts (remark f is) n e in
        let b = counts is o g in
        let u = count_remarked f x a.0 b.0 a.1 b.1 r in
        let w = count_remarked f y a.0 b.0 a.1 b.1 r in (
          test_remarked f c (counts (remark f x) a.0 a.1).0 (counts (remark f y) a.0 a.1).0
              ∙ (ap (λ (k : ℕ). test_count c k (counts (remark f y) a.0 a.1).0) u.0
              ∙ ap (λ (k : ℕ). test_count c (counts x b.0 b.1).0 k) w.0),
          r.1,
        )
    count_remarked f (Enter vs ws m is) n o e g s =
        let r = count_remarked f is n o e g s in
        (ap (λ (k : ℕ). way_count (enter_row nv nd vs ws) k) r.0, λ k. r.1 (suc k))
    count_remarked f (Leave v vs a m is) n o e g s =
        let r = count_remarked f is n o e g s in
        (ap (λ (k : ℕ). way_count (leave_row nv nd v vs a) k) (r.1 0), r.1)
    count_remarked f (Exit v vs d m is) n o e g s =
        let r = count_remarked f is n o e g s in
        let own = ap (λ (k : ℕ). way_count (exit_row nv nd v vs d) k) r.0 in
        (own, same_exits _ _ (counts (remark f is) n e).1 (counts is o g).1 own r.1)
    count_remarked f _ n o e g s = s

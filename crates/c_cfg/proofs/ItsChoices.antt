-- Where each `malloc` gives a cell, an edge of a lowered program has a choice exactly if it is a Choose.
use Rattle.std.proofs.Common.{◌≡◌, ℕ, List, [], ◌∷◌, ◌++◌, length, Bool, true, false, refl, sym}
use Rattle.fore_base.specs.Lists.{Every}
use Rattle.fore_base.proofs.ListLemmas.{every_append, every_in, in_every}
use Rattle.c_types.specs.declared.mode.MallocMode.TheVariants.{Always}
use Rattle.c_types.specs.declared.program.PtrRhs.{PtrRhs}
use Rattle.c_types.specs.declared.program.PtrRhs.TheVariants.{Path as RhsPath, Null as RhsNull, New as RhsNew}
use Rattle.c_types.specs.declared.program.Act.{Act}
use Rattle.c_types.specs.declared.program.Act.TheVariants.{SetPtr, SetData, Free as FreeAct, Return}
use Rattle.c_types.specs.declared.program.Atom.TheVariants.{Choice as ChoiceAtom, Known as KnownAtom, Ptr as PtrAtom}
use Rattle.c_types.specs.declared.program.Atom.TheVariants.{Data as DataAtom}
use Rattle.c_types.specs.Program.{Program}
use Rattle.c_types.specs.Control.{Items, Done, Do, Close, If, Enter, Leave, Exit, Ask}
use Rattle.c_cfg.specs.declared.graph.Instr.{Instr}
use Rattle.c_cfg.specs.declared.graph.Edge.{Edge}
use Rattle.c_cfg.specs.Graphs.{ControlGraph, is_choose}
use Rattle.c_cfg.specs.Graphs.{HasChoiceAsChoose}
use Rattle.c_cfg.specs.Links.{Link, One, Two}
use Rattle.c_cfg.specs.Links.{ptr_row, data_row, free_row, return_row, act_row}
use Rattle.c_cfg.specs.GraphRuns.{out_of}
use Rattle.c_cfg.specs.Places.{places}
use Rattle.c_cfg.specs.Lowering.{link_edges, numbers, LowerOf}
use Rattle.c_cfg.proofs.Leaving.{in_out, PlaceGood, each_location}
use Rattle.c_cfg.proofs.Fanning.{every_true, leads}
use Rattle.c_cfg.proofs.PlainLinks.{ArePlain, PlainAs, ends_plain, ptr_plain, cmp_plain, copied_plain, nulled_plain}
use Rattle.c_cfg.proofs.PlainLinks.{made_plain, set_data_plain, freed_plain, returned_plain, enter_plain, leave_plain}
use Rattle.c_cfg.proofs.PlainLinks.{exit_plain}
use Rattle.c_types.specs.Steps.{data_rhs_takes}

-- a link of edges with or without choices
abbrev pub LinkFits : Link → Type 0
LinkFits (One i) = is_choose i ≡ false
LinkFits (Two i j) = (is_choose i ≡ true) × (is_choose j ≡ true)

abbrev pub Fit : List Link → Type 0
Fit ls = Every LinkFits ls

-- links that are plain
pub plain_fit : (ls : List Link) → ArePlain ls → Fit ls
plain_fit [] h = tt
plain_fit (One i ∷ ls) h = (h.0.1, plain_fit ls h.1)
plain_fit (Two i j ∷ ls) h = absurd h

-- links of which the first takes a choice, if one is taken
plain_as_fit : (takes : Bool) (ls : List Link) → PlainAs takes ls → Fit ls
plain_as_fit false ls h = plain_fit ls h
plain_as_fit true [] h = absurd h
plain_as_fit true (One i ∷ ls) h = absurd h
plain_as_fit true (Two i j ∷ ls) h = ((h.0, h.1), plain_fit ls h.2)

module _ (nv nd : ℕ) where
  ptr_fits : (x : ℕ) (fs : List ℕ) (from : PtrRhs) → Fit (ptr_row nv nd x fs from)
  ptr_fits x fs (RhsPath q) = plain_fit (ptr_row nv nd x fs (RhsPath q)) (copied_plain nv nd x fs q)
  ptr_fits x fs RhsNull = plain_fit (ptr_row nv nd x fs RhsNull) (nulled_plain nv nd x fs)
  ptr_fits x [] (RhsNew shape) = (refl, tt)
  ptr_fits x (f ∷ fs) (RhsNew shape) = (refl, plain_fit _ (made_plain nv nd x f fs))

  pub act_fits : (a : Act) (is : Items) → Fit (act_row nv nd a is)
  act_fits (SetPtr to from) is = ptr_fits to.var to.fields from
  act_fits (SetData to from) is =
      plain_as_fit (data_rhs_takes from) (data_row nv nd to from) (set_data_plain nv nd to from)
  act_fits (FreeAct q) is = plain_fit (free_row nv nd q) (freed_plain nv nd q)
  act_fits (Return operand) is = plain_fit (return_row nv nd operand) (returned_plain nv nd operand)
  act_fits _ is = (refl, tt)

-- Edges

abbrev pub Told : List Edge → Type 0
Told es = Every HasChoiceAsChoose es

pub told_more : (xs ys : List Edge) → Told xs → Told ys → Told (xs ++ ys)
told_more = every_append HasChoiceAsChoose

pub link_told : (line k to : ℕ) (l : Link) → LinkFits l → Told (link_edges line k to l)
link_told line k to (One i) h = (sym h, tt)
link_told line k to (Two i j) h = (sym h.0, (sym h.1, tt))

-- The edges of any graph of a program

module _ (p : Program) (g : ControlGraph) (low : LowerOf p Always g) where
  abbrev TestTold : (Bool → Instr) → Type 0
  TestTold t = (b : Bool) → is_choose (t b) ≡ false

  place_good : (c : Items) → PlaceGood (length p.vars) (length p.data_vars) LinkFits TestTold Always c
  place_good Done = tt
  place_good (Do a m is) = act_fits (length p.vars) (length p.data_vars) a is
  place_good (Close ps ds m is) = refl
  place_good (If (Ask ChoiceAtom m) x y is) = tt
  place_good (If (Ask (KnownAtom b) m) x y is) = refl
  place_good (If (Ask (PtrAtom l r e) m) x y is) = (
    plain_fit _ (ptr_plain (length p.vars) (length p.data_vars) l r),
    (λ b. refl),
    plain_fit _ (ends_plain _ []),
  )
  place_good (If (Ask (DataAtom l r e) m) x y is) = (
    plain_fit _ (cmp_plain (length p.vars) (length p.data_vars) l r),
    (λ b. refl),
    plain_fit _ (ends_plain _ _),
  )
  place_good (Enter vs ws m is) = plain_fit _ (enter_plain (length p.vars) (length p.data_vars) vs ws)
  place_good (Leave v vs a m is) = plain_fit _ (leave_plain (length p.vars) (length p.data_vars) v vs a)
  place_good (Exit v vs d m is) = plain_fit _ (exit_plain (length p.vars) (length p.data_vars) v vs d)
  place_good _ = tt

  pub stand_at_chooses : Every HasChoiceAsChoose g.edges
  stand_at_chooses = in_every HasChoiceAsChoose g.edges (λ e i.
      every_in HasChoiceAsChoose (out_of g.edges e.from) e
      (each_location p Always g low Told (λ k. Unit {0}) LinkFits TestTold (λ line k to l h t. link_told line k to l h)
      (λ line k a b test h x y. (sym (h true), (sym (h false), tt))) (λ line k a b x y. (refl, (refl, tt))) tt
      (every_place place_good (places low.items Done)) (every_place (leads p Always g low) (places low.items Done))
      (every_true (numbers low.at low.mids (places low.items Done))) e.from)
      (in_out g.edges e i))
    where
      every_place : {Q : Items → Type 0} → ((c : Items) → Q c) → (cs : List Items) → Every Q cs
      every_place q [] = tt
      every_place q (c ∷ cs) = (q c, every_place q cs)

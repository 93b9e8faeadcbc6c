-- Where each `malloc` gives a cell, an edge that is added has a choice exactly if it is a Choose, and so has its
-- choice.
use Rattle.std.proofs.Common.{◌≡◌, ℕ, ◌+◌, List, [], ◌∷◌, length, Bool, true, false, refl, sym, Option}
use Rattle.std.proofs.Common.{Some, None, true≢false}
use Rattle.fore_base.specs.Lists.{Every}
use Rattle.c_types.specs.declared.program.Atom.{Atom}
use Rattle.c_types.specs.declared.program.Atom.TheVariants.{Choice as ChoiceAtom, Known as KnownAtom, Ptr as PtrAtom}
use Rattle.c_types.specs.declared.program.Atom.TheVariants.{Data as DataAtom}
use Rattle.c_types.specs.Control.{Items, Do, Close, If, Enter, Leave, Exit, Ask}
use Rattle.c_cfg.specs.declared.graph.PtrArg.TheVariants.{Null as PtrNull}
use Rattle.c_cfg.specs.declared.graph.Instr.{Instr}
use Rattle.c_cfg.specs.declared.graph.Instr.TheVariants.{CopyPtr, New}
use Rattle.c_cfg.specs.declared.graph.Instr.TheVariants.{Choose}
use Rattle.c_cfg.specs.declared.graph.Edge.{Edge}
use Rattle.c_cfg.specs.Graphs.{has_choice, is_none_or, is_choose, may_have, HasItsChoice}
use Rattle.c_cfg.specs.declared.link.Link.{Link}
use Rattle.c_cfg.specs.Links.{act_row, enter_row, leave_row, exit_row}
use Rattle.c_cfg.specs.Links.{ptr_loads, cmp_loads, ptr_test, data_test, ptr_ends, data_ends}
use Rattle.c_cfg.specs.Lowering.{link_edges}
use Rattle.c_links.specs.Chains.{chain}
use Rattle.c_edges.specs.Comparing.{test_edges}
use Rattle.c_lower.specs.inner.Numbering.{atom_edges, place_edges, all_edges}
use Rattle.c_cfg.proofs.ItsChoices.{Fit, plain_fit, act_fits, Told, told_more, link_told}
use Rattle.c_cfg.proofs.PlainLinks.{ends_plain, ptr_plain, cmp_plain, enter_plain, leave_plain, exit_plain}

chain_told : (line : ℕ) (ls : List Link) (k to : ℕ) → Fit ls → Told (chain line ls k to)
chain_told line [] k to h = tt
chain_told line (l ∷ []) k to h = link_told line k to l h.0
chain_told line (l ∷ x ∷ ls) k to h =
    told_more (link_edges line k (k + 1) l) _ (link_told line k (k + 1) l h.0) (chain_told line (x ∷ ls) (k + 1) to h.1)

test_told : (line : ℕ) (pre : List Link) (test : Bool → Instr) (post : List Link) (k same other : ℕ) → Fit pre
    → ((b : Bool) → is_choose (test b) ≡ false) → Fit post → Told (test_edges line pre test post k same other)
test_told line pre test [] k same other h t p =
    told_more (chain line pre k (k + length pre)) _ (chain_told line pre k (k + length pre) h)
    (sym (t true), (sym (t false), tt))
test_told line pre test (l ∷ ls) k same other h t p =
    told_more (chain line pre k (k + length pre)) _ (chain_told line pre k (k + length pre) h) (
      sym (t true),
      (
        sym (t false),
        told_more (link_edges line (k + length pre + 1) same l) _
            (link_told line (k + length pre + 1) same l p.0) (link_told line (k + length pre + 2) other l p.0),
      ),
    )

module _ (nv nd : ℕ) where
  atom_told : (a : Atom) (line k x y : ℕ) → Told (atom_edges nv nd a line k x y)
  atom_told ChoiceAtom line k x y = (refl, (refl, tt))
  atom_told (KnownAtom true) line k x y = (refl, tt)
  atom_told (KnownAtom false) line k x y = (refl, tt)
  atom_told (PtrAtom l r true) line k x y =
      test_told line (ptr_loads nv nd l r) (ptr_test nv nd l r) (ptr_ends nv nd l r) k x y
      (plain_fit _ (ptr_plain nv nd l r)) (λ b. refl) (plain_fit _ (ends_plain _ []))
  atom_told (PtrAtom l r false) line k x y =
      test_told line (ptr_loads nv nd l r) (ptr_test nv nd l r) (ptr_ends nv nd l r) k y x
      (plain_fit _ (ptr_plain nv nd l r)) (λ b. refl) (plain_fit _ (ends_plain _ []))
  atom_told (DataAtom l r true) line k x y =
      test_told line (cmp_loads nv nd l r) (data_test nv nd l r) (data_ends nv nd l r) k x y
      (plain_fit _ (cmp_plain nv nd l r)) (λ b. refl) (plain_fit _ (ends_plain _ _))
  atom_told (DataAtom l r false) line k x y =
      test_told line (cmp_loads nv nd l r) (data_test nv nd l r) (data_ends nv nd l r) k y x
      (plain_fit _ (cmp_plain nv nd l r)) (λ b. refl) (plain_fit _ (ends_plain _ _))

  place_told : (exit : ℕ) (line : ℕ → ℕ) (c : Items) → Told (place_edges nv nd exit line c)
  place_told exit line (Do a m is) = chain_told (line m) (act_row nv nd a is) m _ (act_fits nv nd a is)
  place_told exit line (Close ps ds m is) = (refl, tt)
  place_told exit line (If (Ask a m) x y is) = atom_told a (line m) m _ _
  place_told exit line (Enter vs ws m is) =
      chain_told (line m) (enter_row nv nd vs ws) m _ (plain_fit _ (enter_plain nv nd vs ws))
  place_told exit line (Leave v vs a m is) =
      chain_told (line m) (leave_row nv nd v vs a) m _ (plain_fit _ (leave_plain nv nd v vs a))
  place_told exit line (Exit v vs d m is) =
      chain_told (line m) (exit_row nv nd v vs d) m _ (plain_fit _ (exit_plain nv nd v vs d))
  place_told exit line _ = tt

  pub all_told : (exit : ℕ) (line : ℕ → ℕ) (ps : List Items) → Told (all_edges nv nd exit line ps)
  all_told exit line [] = tt
  all_told exit line (c ∷ cs) =
      told_more (place_edges nv nd exit line c) _ (place_told exit line c) (all_told exit line cs)

-- So each has its choice

none_told : (x : ℕ) (o : Option ℕ) → has_choice o ≡ false → is_none_or x o ≡ true
none_told x None h = refl
none_told x (Some y) h = absurd (true≢false h)

choose_told : (i : Instr) (o : Option ℕ) → has_choice o ≡ is_choose i → may_have i o ≡ true
choose_told (CopyPtr x PtrNull) o h = none_told 0 o h
choose_told (New x shape) o h = none_told 1 o h
choose_told (Choose x) o h = h
choose_told _ o h = rw h refl

pub all_have : (es : List Edge) → Told es → Every HasItsChoice es
all_have [] h = tt
all_have (e ∷ es) h = (choose_told e.instr e.choice h.0, all_have es h.1)

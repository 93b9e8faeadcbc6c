-- Worked values of the words on nodes that are held, each made by hand from what the word says.
use Rattle.std.proofs.Common.{◌≡◌, ◌≤◌, ◌^◌, ℕ, List, [], ◌∷◌, replicate, true, Option, Some, None}
use Rattle.std.proofs.Common.{refl, sym, ap, ◌∙◌, subst, arith, inl}
use Rattle.std.specs.BTreeMap.{get}
use Rattle.std.proofs.lemmas.List.{length-replicate}
use Rattle.std.proofs.lemmas.Option.{none-some, same_Some}
use Rattle.fore_base.specs.Lists.{IsIn}
use Rattle.fore_base.specs.declared.store.Datum.{Datum}
use Rattle.fore_base.specs.declared.store.Datum.TheVariants.{Known}
use Rattle.ta_core.specs.Auto.{Automaton}
use Rattle.fa_core.specs.declared.forest.Target.{Target}
use Rattle.fa_core.specs.declared.forest.Target.TheVariants.{Null, Uninit, At}
use Rattle.fa_pool.specs.Keys.{with_numbers}
use Rattle.fa_pool.specs.declared.kept.Kept.{Kept}
use Rattle.fa_kept.specs.Memos.{Answer, answer}
use Rattle.fa_groups.specs.Grouped.{Grouped, key_cmp, numbers_if}
use Rattle.fix_core.specs.Held.{key_at, node_of, nodes_of, IsHeldIn, HasKey, AreGrouped, IsHeld}
use Rattle.fix_core.specs.declared.held.Held.{Held}
use Rattle.fix_core.specs.declared.held.HeldNode.{HeldNode}
use Rattle.fix_core.specs.declared.nodes.NodeHead.{NodeHead}
use Rattle.fix_core.proofs.Rows.{face}

-- automata without rules, and a pool of two
abbrev bare : ℕ → Automaton
bare n = record { states = n; roots = []; rules = [] }

abbrev pool : List Automaton
pool = bare 1 ∷ bare 2 ∷ []

abbrev kept : List ℕ → List Target → List Datum → Kept
kept parts vars data_vars = record { parts = parts; vars = vars; data_vars = data_vars }

abbrev at : ℕ → NodeHead
at location = record { location = location; parent = Some 3; edge = None; choice = Some 1 }

abbrev held_node : ℕ → Kept → Option Kept → HeldNode
held_node location forest middle = record { head = at location; forest = forest; middle = middle; folds = [] }

-- at location 7 a target at root 2, the datum 5 and three components
key : key_at 7 (kept (1 ∷ 0 ∷ 1 ∷ []) (At 2 ∷ []) (Known 5 ∷ [])) ≡ (7, with_numbers 0 (3 ∷ 2 ∷ 1 ∷ 5 ∷ 3 ∷ []))
key = refl

-- the forest has the components of numbers 1 and 0, and the one before it that of number 1
abbrev two : HeldNode
two = held_node 4 (kept (1 ∷ 0 ∷ []) (Null ∷ []) []) (Some (kept (1 ∷ []) (Uninit ∷ []) (Known 2 ∷ [])))

abbrev none : HeldNode
none = held_node 5 (kept [] [] []) None

two_reads : node_of face pool two ≡ record {
  head = at 4;
  state = record {
    face = face;
    forest = record { autos = bare 2 ∷ bare 1 ∷ []; vars = Null ∷ []; data_vars = [] };
    middle = Some (record { autos = bare 2 ∷ []; vars = Uninit ∷ []; data_vars = Known 2 ∷ [] });
    folds = [];
  };
}
two_reads = refl

none_reads : node_of face pool none ≡ record {
  head = at 5;
  state = record {
    face = face;
    forest = record { autos = []; vars = []; data_vars = [] };
    middle = None;
    folds = [];
  };
}
none_reads = refl

two_is_held : IsHeldIn pool two
two_is_held = record { forest = (omega arith, (omega arith, tt)); middle = (omega arith, tt) }

-- the pool has no automaton of number 1
forest_is_not_held : IsHeldIn (bare 1 ∷ []) (held_node 4 (kept (0 ∷ 1 ∷ []) [] []) None) → ⊥
forest_is_not_held h = omega (arith, h.forest.1.0)

middle_is_not_held : IsHeldIn (bare 1 ∷ []) (held_node 4 (kept (0 ∷ []) [] []) (Some (kept (1 ∷ []) [] []))) → ⊥
middle_is_not_held h = omega (arith, h.middle.0)

module _ (groups : Grouped) where
  abbrev held : List HeldNode → List Answer → Held
  held nodes memo = record { nodes = nodes; pool = pool; memo = memo; groups = groups }

  reads_in_order : nodes_of face (held (two ∷ none ∷ []) []) ≡ node_of face pool two ∷ node_of face pool none ∷ []
  reads_in_order = refl

  -- the group of a node's key is not there; and one has the number of no node
  no_group : get key_cmp groups (5, with_numbers 0 (0 ∷ [])) ≡ None → AreGrouped (none ∷ []) groups → ⊥
  no_group gone h =
      subst (IsIn 0) (ap numbers_if gone)
      ((h (5, with_numbers 0 (0 ∷ [])) 0).1 (record { node = none; is = refl; same_key = refl }))

  of_no_node : HasKey [] (5, 0) 0 → ⊥
  of_no_node h = none-some h.node h.is

  one_too_many : get key_cmp groups (5, 0) ≡ Some (0 ∷ []) → AreGrouped [] groups → ⊥
  one_too_many there h = of_no_node ((h (5, 0) 0).0 (subst (IsIn 0) (sym (ap numbers_if there)) (inl refl)))

  -- the second node has its key, and the first one that of another location
  second_has_its_key : HasKey (two ∷ none ∷ []) (5, with_numbers 0 (0 ∷ [])) 1
  second_has_its_key = record { node = none; is = refl; same_key = refl }

  wrong_key : HasKey (none ∷ []) (4, with_numbers 0 (0 ∷ [])) 0 → ⊥
  wrong_key h =
      let e : 5 ≡ 4 = ap (λ (n : HeldNode). n.head.location) (same_Some none h.node h.is)
      ∙ ap (λ (k : ℕ × ℕ). k.0) h.same_key in
      omega (arith, e)

  -- the group of the key has the number of another node with it
  wrong_number : get key_cmp groups (5, with_numbers 0 (0 ∷ [])) ≡ Some (1 ∷ []) → AreGrouped (none ∷ []) groups → ⊥
  wrong_number there h =
      let i = (h (5, with_numbers 0 (0 ∷ [])) 1).0 (subst (IsIn 1) (sym (ap numbers_if there)) (inl refl)) in
      none-some i.node i.is

  -- too many nodes, a number that the pool does not have, a datum over 15, and an answer on such a number
  too_many : (n : ℕ) → 2 ^ 32 ≤ n → IsHeld face (held (replicate n none) []) → ⊥
  too_many n many h = omega (arith, many, h.few, length-replicate n none)

  not_of_the_pool : IsHeld face (held (held_node 4 (kept (2 ∷ []) [] []) None ∷ []) []) → ⊥
  not_of_the_pool h = omega (arith, h.kept.0.forest.0)

  not_sound : IsHeld face (held (held_node 4 (kept [] [] (Known 16 ∷ [])) None ∷ []) []) → ⊥
  not_sound h = omega (arith, h.sound.0.forest.well_formed.filled.data_vars.0)

  not_known : IsHeld face (held [] (answer 0 2 true ∷ [])) → ⊥
  not_known h = omega (arith, h.agrees.0.wide)

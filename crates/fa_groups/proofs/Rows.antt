-- Worked values of numbers in groups, each made by hand.
use Rattle.std.proofs.Common.{◌≡◌, ℕ, List, [], ◌∷◌, ◌++◌, length, slice_index_or, Some, None}
use Rattle.std.proofs.Common.{refl, sym, ap, ◌∙◌, arith}
use Rattle.std.specs.BTreeMap.{get}
use Rattle.std.specs.declared.cmp.Ordering.TheVariants.{Less, Equal, Greater}
use Rattle.fa_groups.specs.Grouped.{Grouped, key_cmp, numbers_if, numbers_of, AreSame, IsJoined}

-- keys by their first numbers, and then by their second
first_below : key_cmp (1, 5) (2, 0) ≡ Less
first_below = refl

second_above : key_cmp (1, 5) (1, 4) ≡ Greater
second_above = refl

one_key_twice : key_cmp (1, 5) (1, 5) ≡ Equal
one_key_twice = refl

no_group : numbers_if None ≡ []
no_group = refl

one_group : numbers_if (Some (4 ∷ 2 ∷ [])) ≡ 4 ∷ 2 ∷ []
one_group = refl

-- what is in a group, by what the map has at keys
module _ (before : Grouped) (at5 : get key_cmp before (1, 5) ≡ Some (7 ∷ 3 ∷ []))
    (at6 : get key_cmp before (1, 6) ≡ None) where
  its_group : numbers_of before (1, 5) ≡ 7 ∷ 3 ∷ []
  its_group = ap numbers_if at5

  another_group : numbers_of before (1, 6) ≡ []
  another_group = ap numbers_if at6

  same_as_itself : AreSame before before
  same_as_itself key = refl

  -- where one is lost, or two change places, a group has not what it had
  one_is_lost : (after : Grouped) → get key_cmp after (1, 5) ≡ Some (7 ∷ []) → AreSame before after → ⊥
  one_is_lost after gone same =
      let e : 1 ≡ 2 = ap (λ (ns : List ℕ). length ns) (sym (ap numbers_if gone) ∙ same (1, 5) ∙ its_group) in
      omega (arith, e)

  in_another_order : (after : Grouped) → get key_cmp after (1, 5) ≡ Some (3 ∷ 7 ∷ []) → AreSame before after → ⊥
  in_another_order after turned same =
      let e : 3 ≡ 7 =
      ap (λ (ns : List ℕ). slice_index_or ns 0 0) (sym (ap numbers_if turned) ∙ same (1, 5) ∙ its_group) in
      omega (arith, e)

  -- one is joined to the group of its key, at its end, and to no other one
  joined_at_the_end : (after : Grouped) → IsJoined before (1, 5) 9 after → numbers_of after (1, 5) ≡ 7 ∷ 3 ∷ 9 ∷ []
  joined_at_the_end after h = h.own ∙ ap (λ (ns : List ℕ). ns ++ 9 ∷ []) its_group

  joined_alone : (after : Grouped) → IsJoined before (1, 6) 9 after → numbers_of after (1, 6) ≡ 9 ∷ []
  joined_alone after h = h.own ∙ ap (λ (ns : List ℕ). ns ++ 9 ∷ []) another_group

  joined_elsewhere : (after : Grouped) → IsJoined before (1, 5) 9 after → numbers_of after (1, 6) ≡ []
  joined_elsewhere after h =
      h.others (1, 6) (λ (e : (1, 6) ≡ (1, 5)). let d : 6 ≡ 5 = ap (λ (k : ℕ × ℕ). k.1) e in omega (arith, d))
      ∙ another_group

-- Assignments, comparisons and truths of what is good are typed.
use Rattle.std.proofs.Common.{◌≡◌, ℕ, Bool, true, false, ◌&&◌, nat_eq, List, Option, Some, None, is_some, refl}
use Rattle.std.proofs.Common.{sym, ap, ◌∙◌}
use Rattle.std.proofs.lemmas.Bool.{eq-eqb, eqb-true, not-false}
use Rattle.c_types.specs.Program.{Spot, is_target, both_targets, path_target, rhs_typed, data_rhs_typed, act_typed}
use Rattle.c_types.specs.Program.{ops_typed, data_op_typed, atom_typed}
use Rattle.c_types.specs.declared.program.Act.TheVariants as act
use Rattle.c_types.specs.declared.program.DataRhs.TheVariants as data_rhs
use Rattle.c_types.specs.declared.program.Func.{Func}
use Rattle.c_types.specs.declared.program.PtrRhs.TheVariants as ptr_rhs
use Rattle.c_types.specs.declared.program.VarDef.{VarDef}
use Rattle.c_typing.specs.Globals.{Globals}
use Rattle.c_typing.specs.Programs.{ptr_rhs_of, data_rhs_of, assigned, target_struct, ptr_op_of, data_op_of, comparison}
use Rattle.c_typing.specs.Programs.{truth, returned, freed}
use Rattle.c_typing.specs.Rules.{differ, wanted_struct}
use Rattle.c_typing.specs.Sites.{want_of_left, struct_at}
use Rattle.c_typing.specs.declared.meaning.Meaning.{Meaning}
use Rattle.c_typing.specs.declared.meaning.Meaning.TheVariants.{Pointer, Datum, Known, Zero, Null, Call as CallThere}
use Rattle.c_typing.specs.declared.meaning.Meaning.TheVariants.{Broken}
use Rattle.c_typing.proofs.Sound.{shapes, GoodMeaning}

pub one_struct : (s t : ℕ) (a b : Option ℕ) → a ≡ Some s → b ≡ Some t → differ (Some s) (Some t) ≡ false
    → both_targets a b
    ≡ true
one_struct s t a b left right same =
    ap (λ o. both_targets o b) left ∙ ap (λ o. is_target o s) right
    ∙ eq-eqb t s (sym (eqb-true s t (not-false (nat_eq s t) same)))

module _ (g : Globals) (V : List VarDef) (D : ℕ) where
  some_target : (p : _) (s : ℕ) → path_target (shapes g V D) V D p ≡ Some s → is_some (path_target (shapes g V D) V D p)
      ≡ true
  some_target p s is = ap is_some is

  pub data_op_good : (m : Meaning) → GoodMeaning g V D m → data_op_typed (shapes g V D) V D (data_op_of m) ≡ true
  data_op_good (Datum d) good = good
  data_op_good (Known k) good = good
  data_op_good _ good = refl

  data_rhs_good : (m : Meaning) → GoodMeaning g V D m → data_rhs_typed (shapes g V D) V D (data_rhs_of m) ≡ true
  data_rhs_good (Datum d) good = good
  data_rhs_good (Known k) good = good
  data_rhs_good _ good = refl

  ptr_rhs_good : (a : Option ℕ) (s : ℕ) (m : Meaning) → a ≡ Some s → GoodMeaning g V D m → differ (Some s) (struct_at m)
      ≡ false → rhs_typed (shapes g V D) V D a (ptr_rhs_of m) ≡ true
  ptr_rhs_good a s (Pointer q None) is good same = absurd good
  ptr_rhs_good a s (Pointer q (Some t)) is good same = one_struct s t a (path_target (shapes g V D) V D q) is good same
  ptr_rhs_good a s _ is good same = ap is_some is

  -- what is assigned to a good target
  pub assigned_typed : (F : List Func) (H : Option ℕ) (target m : Meaning) (spot : Spot) → GoodMeaning g V D target
      → GoodMeaning g V D m
      → differ (struct_at target) (struct_at m) ≡ false
      → act_typed (shapes g V D) V D F H (assigned target (ptr_rhs_of m) (data_rhs_of m)) spot ≡ true
  assigned_typed F H (Pointer p None) m spot good other same = absurd good
  assigned_typed F H (Pointer p (Some s)) m spot good other same =
      ptr_rhs_good (path_target (shapes g V D) V D p) s m good other same
  assigned_typed F H (Datum d) m spot good other same =
      ap (λ b. b && data_rhs_typed (shapes g V D) V D (data_rhs_of m)) good ∙ data_rhs_good m other
  assigned_typed F H _ m spot good other same = refl

  -- a new cell is of the target's struct
  pub new_typed : (F : List Func) (H : Option ℕ) (target : Meaning) (spot : Spot) → GoodMeaning g V D target
      → act_typed (shapes g V D) V D F H (assigned target (ptr_rhs.New (target_struct target)) (data_rhs.Known 0))
      spot
      ≡ true
  new_typed F H (Pointer p None) spot good = absurd good
  new_typed F H (Pointer p (Some s)) spot good = ap (λ o. is_target o s) good ∙ eq-eqb s s refl
  new_typed F H (Datum d) spot good = ap (λ b. b && true) good
  new_typed F H _ spot good = refl

  pub freed_typed : (F : List Func) (H : Option ℕ) (m : Meaning) (spot : Spot) → GoodMeaning g V D m
      → act_typed (shapes g V D) V D F H (freed m) spot
      ≡ true
  freed_typed F H (Pointer p None) spot good = absurd good
  freed_typed F H (Pointer p (Some s)) spot good = ap is_some good
  freed_typed F H _ spot good = refl

  pub returned_good : (F : List Func) (m : Meaning) (spot : Spot) → GoodMeaning g V D m
      → act_typed (shapes g V D) V D F None (act.Return (returned m)) spot ≡ true
  returned_good F (Datum d) spot good = good
  returned_good F _ spot good = refl

  -- Atoms

  pub truth_typed : (m : Meaning) → GoodMeaning g V D m → atom_typed (shapes g V D) V D (truth m) ≡ true
  truth_typed (Pointer p None) good = absurd good
  truth_typed (Pointer p (Some s)) good = ap is_some good
  truth_typed (Datum d) good = ap (λ b. b && true) good
  truth_typed _ good = refl

  -- a null pointer and anything good
  null_left : (r : Meaning) → GoodMeaning g V D r → ops_typed (shapes g V D) V D (ptr_op_of Null) (ptr_op_of r) ≡ true
  null_left (Pointer q None) good = absurd good
  null_left (Pointer q (Some t)) good = ap is_some good
  null_left _ good = refl

  pointer_left : (p : _) (s : ℕ) (r : Meaning) → path_target (shapes g V D) V D p ≡ Some s → GoodMeaning g V D r
      → differ (Some s) (struct_at r) ≡ false
      → ops_typed (shapes g V D) V D (ptr_op_of (Pointer p (Some s))) (ptr_op_of r) ≡ true
  pointer_left p s (Pointer q None) is good same = absurd good
  pointer_left p s (Pointer q (Some t)) is good same = one_struct s t _ _ is good same
  pointer_left p s _ is good same = ap is_some is

  both_data : (l r : Meaning) → GoodMeaning g V D l → GoodMeaning g V D r
      → (data_op_typed (shapes g V D) V D (data_op_of l) && data_op_typed (shapes g V D) V D (data_op_of r)) ≡ true
  both_data l r left right = ap (λ b. b && data_op_typed (shapes g V D) V D (data_op_of r)) (data_op_good l left)
      ∙ data_op_good r right

  zero_left : (e : Bool) (r : Meaning) → GoodMeaning g V D r → atom_typed (shapes g V D) V D (comparison e Zero r)
      ≡ true
  zero_left e (Pointer q None) good = absurd good
  zero_left e (Pointer q (Some t)) good = ap is_some good
  zero_left e (Datum d) good = good
  zero_left e (Known k) good = good
  zero_left e _ good = refl

  pub comparison_typed : (e : Bool) (l r : Meaning) → GoodMeaning g V D l → GoodMeaning g V D r
      → differ (wanted_struct (want_of_left l)) (struct_at r) ≡ false
      → atom_typed (shapes g V D) V D (comparison e l r) ≡ true
  comparison_typed e (Pointer p None) r left right same = absurd left
  comparison_typed e (Pointer p (Some s)) r left right same = pointer_left p s r left right same
  comparison_typed e (Datum d) r left right same = both_data (Datum d) r left right
  comparison_typed e (Known k) r left right same = both_data (Known k) r left right
  comparison_typed e Zero r left right same = zero_left e r right
  comparison_typed e Null r left right same = null_left r right
  comparison_typed e CallThere r left right same = both_data CallThere r left right
  comparison_typed e Broken r left right same = both_data Broken r left right

-- The items of a well typed program have numbers in range.
use Rattle.std.proofs.Common.{◌≡◌, Bool, true, List, []}
use Rattle.std.proofs.Common.{◌∷◌, length, map, refl, sym, ap, ◌∙◌, subst}
use Rattle.std.proofs.lemmas.Bool.{and_parts}
use Rattle.c_types.specs.declared.program.Cond.{Cond, Cond-F, roll-Cond, map-Cond, fold-roll-Cond, ind-Cond}
use Rattle.c_types.specs.declared.program.Cond.TheOpen.{Atom as Atom-F, Not as Not-F, All as All-F, Any as Any-F}
use Rattle.c_types.specs.Program.{Program, all_typed}
use Rattle.c_types.specs.Program.{cond_typed_step, cond_typed}
use Rattle.c_types.specs.Program.{is_typed}
use Rattle.c_types.specs.Control.{Test, Both, Either, Items, Done, If, Exit, joined, test_step, test_of}
use Rattle.c_types.specs.Control.{start_of}
use Rattle.c_types.proofs.TypedComposing.{ComposesTyped, start_composed}
use Rattle.c_cfg.proofs.Calls.Standing.{IsStanding, standing, standing_closed}
use Rattle.c_cfg.proofs.Ranged.{TestTyped, Ranged}

module _ (p : Program) where
  -- Conditions

  abbrev has_typed : Cond → Bool
  has_typed = cond_typed p.shapes.structs p.vars (length p.data_vars)

  abbrev has_typed_step : Cond-F Bool → Bool
  has_typed_step = cond_typed_step p.shapes.structs p.vars (length p.data_vars)

  abbrev all_hold : List Bool → Bool
  all_hold = all_typed p.shapes.structs p.vars (length p.data_vars)

  abbrev CondTyped : Cond → Type 0
  CondTyped c = has_typed c ≡ true → TestTyped p (test_of c)

  abbrev parts_of : List ((c : Cond) × CondTyped c) → List Cond
  parts_of cs = map (λ e. e.0) cs

  joined_typed : (join : Test → Test → Test) → ((c d : Test) → TestTyped p c → TestTyped p d → TestTyped p (join c d))
      → (cs : List ((c : Cond) × CondTyped c)) → all_hold (map has_typed (parts_of cs)) ≡ true
      → TestTyped p (joined join (map test_of (parts_of cs)))
  joined_typed join j [] e = refl
  joined_typed join j (c ∷ []) e = c.1 (and_parts (has_typed c.0) true e).0
  joined_typed join j (c ∷ d ∷ ds) e =
      let both = and_parts (has_typed c.0) (all_hold (map has_typed (parts_of (d ∷ ds)))) e in
      j (test_of c.0) (joined join (map test_of (parts_of (d ∷ ds)))) (c.1 both.0) (joined_typed join j (d ∷ ds) both.1)

  cond_layer : (y : Cond-F ((c : Cond) × CondTyped c))
      → has_typed_step (map-Cond Cond Bool has_typed (map-Cond ((c : Cond) × CondTyped c) Cond (λ e. e.0) y)) ≡ true
      → TestTyped p (test_step (map-Cond Cond Test test_of (map-Cond ((c : Cond) × CondTyped c) Cond (λ e. e.0) y)))
  cond_layer (Atom-F a line) e = e
  cond_layer (Not-F c) e = c.1 e
  cond_layer (All-F []) e = refl
  cond_layer (All-F (c ∷ cs)) e = joined_typed Both (λ a b h k. (h, k)) (c ∷ cs) e
  cond_layer (Any-F []) e = refl
  cond_layer (Any-F (c ∷ cs)) e = joined_typed Either (λ a b h k. (h, k)) (c ∷ cs) e

  cond_rolled : (x : Cond-F Cond) (y : Cond-F ((c : Cond) × CondTyped c))
      → map-Cond ((c : Cond) × CondTyped c) Cond (λ e. e.0) y ≡ x → CondTyped (roll-Cond x)
  cond_rolled x y is e =
      let z : Cond-F Cond = map-Cond ((c : Cond) × CondTyped c) Cond (λ w. w.0) y in
      let here : has_typed_step (map-Cond Cond Bool has_typed z) ≡ true =
      ap (λ w. has_typed_step (map-Cond Cond Bool has_typed w)) is ∙ sym (fold-roll-Cond Bool has_typed_step x)
      ∙ e in
      subst (TestTyped p)
      (ap (λ w. test_step (map-Cond Cond Test test_of w)) is ∙ sym (fold-roll-Cond Test test_step x))
      (cond_layer y here)

  cond_is : (c : Cond) → CondTyped c
  cond_is = ind-Cond CondTyped cond_rolled

  -- items before which others are in range are in range with them, and end the calls that they begin
  record RangedBefore (f : Items → Items) : Type 0 where
    stands : IsStanding f
    keeps : (r : Items) → Ranged p r → Ranged p (f r)

  -- the sides of a branch, or the parts of a loop
  both_keep : (c : Cond) (f g : Items → Items) → has_typed c ≡ true → RangedBefore f → RangedBefore g → (r : Items)
      → Ranged p r → Ranged p (If (test_of c) (f Done) (g Done) r)
  both_keep c f g e h k r rest = (
    cond_is c e,
    h.keeps Done tt,
    k.keeps Done tt,
    rest,
    standing_closed f h.stands,
    standing_closed g k.stands,
  )

  ranging : ComposesTyped p RangedBefore
  ranging = record {
    none = record { stands = standing.none; keeps = λ r k. k };
    both = λ f g h k. record {
      stands = standing.both f g h.stands k.stands;
      keeps = λ r rest. h.keeps (g r) (k.keeps r rest);
    };
    act = λ a m fits. record { stands = standing.act a m; keeps = λ r rest. (fits, rest) };
    close = λ ps ds m hp hd. record { stands = standing.close ps ds m; keeps = λ r rest. (hp, hd, rest) };
    branch = λ c f g e h k. record {
      stands = standing.branch (test_of c) f g h.stands k.stands;
      keeps = both_keep c f g e h k;
    };
    loop = λ c f g e h k. record {
      stands = standing.loop (test_of c) f g h.stands k.stands;
      keeps = both_keep c f g e h k;
    };
    do_loop = λ c f e h. record {
      stands = standing.do_loop (test_of c) f h.stands;
      keeps = λ r rest. (cond_is c e, h.keeps Done tt, rest, standing_closed f h.stands);
    };
    leave = λ g value m fits. record { stands = standing.leave g value m; keeps = λ r rest. (fits, rest) };
    call = λ g args to' m f enters exits h. record {
      stands = standing.call g args to' m f h.stands;
      keeps = λ r rest. (enters, h.keeps (Exit g.result g.params to' m r) (exits, rest));
    };
  }

  pub start_ranged : is_typed p ≡ true → Ranged p (start_of p)
  start_ranged e = (start_composed p RangedBefore ranging e).keeps Done tt

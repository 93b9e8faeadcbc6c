-- The rules, and what a face says, are those of the components as they are written where they are those of the trimmed
-- ones.
use Rattle.std.proofs.Common.{◌≡◌, ℕ, ◌≤◌, List, [], ◌∷◌, map, length, Option, Some, None}
use Rattle.std.proofs.Common.{subst}
use Rattle.fore_base.specs.Lists.{Every}
use Rattle.fore_base.proofs.ListLemmas.{every_in, in_every, partner_of, partner_for, paired_long}
use Rattle.ta_core.specs.Auto.{Automaton}
use Rattle.ta_core.specs.Renumbered.{renumbered}
use Rattle.fa_core.specs.declared.boxes.BoxDef.{BoxDef}
use Rattle.fa_core.specs.declared.faces.BoxFace.{BoxFace}
use Rattle.fa_core.specs.declared.faces.Face.{Face}
use Rattle.fa_core.specs.Boxes.{CoverAlike, CoverSome, PortsCover, IsReached, LeadsUp, LeadsNowhere, BackHolds}
use Rattle.fa_core.specs.Filled.{HasSome}
use Rattle.fa_box_rules.specs.Rules.{Inside, IsWellNamed, AreRefsBelow, HaveSignatures, port_count, structs_of}
use Rattle.fa_box_rules.specs.Rules.{Breaks4, Breaks5, takes_leaf, other_struct, covers_apart, covers_none}
use Rattle.fa_box_rules.specs.Rules.{signs_apart, gives_apart, leads_apart, Breaks6, Breaks7, BreaksFirst}
use Rattle.fa_box_rules.specs.Rules.{GivesOutput, IsFaceOf, IsUnbroken}
use Rattle.fa_box_rules.specs.declared.rule.BoxRule.{BoxRule}
use Rattle.fa_box_rules.specs.declared.rule.BoxRule.TheVariants.{B4, B5, B6, B7}
use Rattle.fa_faces.specs.Faults.{box_inside, IsFaultOf}
use Rattle.fa_faces.specs.declared.fault.FaceFault.{FaceFault}
use Rattle.fa_faces.specs.declared.fault.FaceFault.TheVariants.{Breaks, Memory}
use Rattle.fa_faces.specs.inner.Trimmed.{IsTrimOf, AreTrimOf}
use Rattle.fa_faces.proofs.Trimmed.{rules_trimmed, choice_alike, trees_alike}
use Rattle.fa_faces.proofs.Trimmed.{all_ranked, written_at, trimmed_at, rule_of, part_of, part_run, stood, stood_part}
use Rattle.fa_faces.proofs.Trimmed.{stood_run}

module _ (face : Face) (T : List BoxDef) (input : ℕ) (output : Option ℕ) (autos mades : List Automaton)
    (h : AreTrimOf autos mades) where
  abbrev written : Inside
  written = box_inside input output autos

  abbrev trimmed : Inside
  trimmed = box_inside input output mades

  long : length autos ≡ length mades
  long = paired_long IsTrimOf autos mades h

  -- Names and references.

  refs_below : (n : ℕ) (a b : Automaton) → IsTrimOf a b → AreRefsBelow n a → AreRefsBelow n b
  refs_below n a b t f r k i e = f (renumbered t.stands.of r) k (rule_of a b t r i) e

  pub named_trimmed : IsWellNamed face written → IsWellNamed face trimmed
  named_trimmed w = record {
    rules = rules_trimmed face (map (λ (s : ℕ). []) (structs_of input output)) autos mades h w.rules;
    refs = in_every (AreRefsBelow (length mades)) mades (λ b i. (let p = partner_of IsTrimOf autos mades b h i in
        refs_below (length mades) p.0 b p.2 (subst (λ (n : ℕ). AreRefsBelow n p.0) long
        (every_in (AreRefsBelow (length autos)) autos p.0 w.refs p.1))));
    ranked = all_ranked autos mades h;
    ports = subst (λ (n : ℕ). port_count output ≤ n) long w.ports;
    structs = w.structs;
  }

  -- What insides say.

  reached_written : (x : BoxFace) → IsReached T x mades → IsReached T x autos
  reached_written x f d c = f d ((trees_alike T autos mades h d).0 c)

  reached_trimmed : (x : BoxFace) → IsReached T x autos → IsReached T x mades
  reached_trimmed x f d c = f d ((trees_alike T autos mades h d).1 c)

  up_written : LeadsUp T mades → LeadsUp T autos
  up_written f d c = f d ((trees_alike T autos mades h d).0 c)

  up_trimmed : LeadsUp T autos → LeadsUp T mades
  up_trimmed f d c = f d ((trees_alike T autos mades h d).1 c)

  nowhere_written : LeadsNowhere T mades → LeadsNowhere T autos
  nowhere_written f d c = f d ((trees_alike T autos mades h d).0 c)

  nowhere_trimmed : LeadsNowhere T autos → LeadsNowhere T mades
  nowhere_trimmed f d c = f d ((trees_alike T autos mades h d).1 c)

  -- Rules.

  pub four_written : Breaks4 face trimmed → Breaks4 face written
  four_written f = (f.0, (choice_alike autos mades h f.0).1 f.1, f.2)

  pub four_trimmed : Breaks4 face written → Breaks4 face trimmed
  four_trimmed f = (f.0, (choice_alike autos mades h f.0).0 f.1, f.2)

  pub five_written : Breaks5 face T trimmed → Breaks5 face T written
  five_written (takes_leaf b t i l e) = let p = partner_of IsTrimOf autos mades b h i in
      takes_leaf p.0 t p.1 ((p.2.language t).1 l) e
  five_written (other_struct r s u b t e g l k n) = let p = written_at autos mades h r b g in
      other_struct r s u p.0 t e p.1 ((p.2.language t).1 l) k n
  five_written (covers_apart r f b t u l e m k i n) = let p = written_at autos mades h r b e in
      covers_apart r f p.0 t u l p.1 ((p.2.language t).1 m) ((p.2.language u).1 k) i n
  five_written (covers_none b t e l n) = let p = written_at autos mades h 0 b e in
      covers_none p.0 t p.1 ((p.2.language t).1 l) n
  five_written (signs_apart b q t u i w l k n) = let p = partner_of IsTrimOf autos mades b h i in
      signs_apart p.0 (p.2.stands.of q) t u p.1 (part_of p.0 b p.2 q w) (part_run p.0 b p.2 q w t l)
      (part_run p.0 b p.2 q w u k) n
  five_written (gives_apart ts us r c d l n) =
      gives_apart ts us r ((choice_alike autos mades h ts).1 c) ((choice_alike autos mades h us).1 d) l n
  five_written (leads_apart t e n m) = leads_apart t e (λ u. n (up_trimmed u)) (λ u. m (nowhere_trimmed u))

  pub five_trimmed : Breaks5 face T written → Breaks5 face T trimmed
  five_trimmed (takes_leaf a t i l e) = let p = partner_for IsTrimOf autos mades a h i in
      takes_leaf p.0 t p.1 ((p.2.language t).0 l) e
  five_trimmed (other_struct r s u a t e g l k n) = let p = trimmed_at autos mades h r a g in
      other_struct r s u p.0 t e p.1 ((p.2.language t).0 l) k n
  five_trimmed (covers_apart r f a t u l e m k i n) = let p = trimmed_at autos mades h r a e in
      covers_apart r f p.0 t u l p.1 ((p.2.language t).0 m) ((p.2.language u).0 k) i n
  five_trimmed (covers_none a t e l n) = let p = trimmed_at autos mades h 0 a e in
      covers_none p.0 t p.1 ((p.2.language t).0 l) n
  five_trimmed (signs_apart a q t u i w l k n) =
      let p = partner_for IsTrimOf autos mades a h i in
      let s = stood a p.0 p.2 q w in
      signs_apart p.0 s.0 t u p.1 (stood_part a p.0 p.2 q s) (stood_run a p.0 p.2 q s t l)
      (stood_run a p.0 p.2 q s u k) n
  five_trimmed (gives_apart ts us r c d l n) =
      gives_apart ts us r ((choice_alike autos mades h ts).0 c) ((choice_alike autos mades h us).0 d) l n
  five_trimmed (leads_apart t e n m) = leads_apart t e (λ u. n (up_written u)) (λ u. m (nowhere_written u))

  pub six_written : Breaks6 face T trimmed → Breaks6 face T written
  six_written (x, o, m, n) = (
    x,
    o,
    (λ e ts c. m e ts ((choice_alike autos mades h ts).0 c)),
    (λ f. n (reached_trimmed x f)),
  )

  -- no component as it is written is empty
  not_seven : Every HasSome autos → Breaks7 written → ⊥
  not_seven full b = let s = every_in HasSome autos b.0 full b.1 in b.2 s.0 s.1

  first_written : Every HasSome autos → Every HasSome mades → (r : BoxRule) → BreaksFirst face T trimmed r
      → BreaksFirst face T written r
  first_written full some B4 f = (not_seven full, four_written f.1)
  first_written full some B5 f = (not_seven full, (λ b. f.1 (four_trimmed b)), five_written f.2)
  first_written full some B6 f =
      (not_seven full, (λ b. f.1 (four_trimmed b)), (λ b. f.2 (five_trimmed b)), six_written f.3)
  first_written full some B7 f = absurd (let s = every_in HasSome mades f.0 some f.1 in f.2 s.0 s.1)

  pub fault_written : Every HasSome autos → Every HasSome mades → (e : FaceFault) → IsFaultOf face T trimmed e
      → IsFaultOf face T written e
  fault_written full some (Breaks r) f = first_written full some r f
  fault_written full some Memory f = tt

  -- Faces.

  out_written : (out : Option ℕ) (fields : List ℕ) → GivesOutput face.boxes mades out fields
      → GivesOutput face.boxes autos out fields
  out_written None fields f = f
  out_written (Some t) fields f = λ ts c. f ts ((choice_alike autos mades h ts).0 c)

  back_written : (out : Option ℕ) (x : BoxFace) → BackHolds T x out mades → BackHolds T x out autos
  back_written None x f = f
  back_written (Some t) x f =
      ((λ e. ((f.0 e).0, up_written (f.0 e).1)), (λ e. nowhere_written (f.1 e)))

  face_written : (x : BoxFace) → IsFaceOf face T trimmed x → IsFaceOf face T written x
  face_written x f = record {
    input = f.input;
    output = f.output;
    gives_in = λ ts c. f.gives_in ts ((choice_alike autos mades h ts).0 c);
    gives_out = out_written output x.gives_out f.gives_out;
    in_order = f.in_order;
    back = back_written output x f.back;
  }

  signatures_written : Every (HaveSignatures face.boxes) mades → Every (HaveSignatures face.boxes) autos
  signatures_written f = in_every (HaveSignatures face.boxes) autos
      (λ a i q w t u l k. (let p = partner_for IsTrimOf autos mades a h i in
      let s = stood a p.0 p.2 q w in
      every_in (HaveSignatures face.boxes) mades p.0 f p.1 s.0 (stood_part a p.0 p.2 q s) t u
      (stood_run a p.0 p.2 q s t l) (stood_run a p.0 p.2 q s u k)))

  pub unbroken_written : Every HasSome autos → (x : BoxFace) → IsUnbroken face T trimmed x
      → IsUnbroken face T written x
  unbroken_written full x f = record {
    full = full;
    right = λ ts c. f.right ts ((choice_alike autos mades h ts).0 c);
    tops = λ a t i l. (let p = partner_for IsTrimOf autos mades a h i in f.tops p.0 t p.1 ((p.2.language t).0 l));
    structs = λ r s u a t e g l k. (let p = trimmed_at autos mades h r a g in
        f.structs r s u p.0 t e p.1 ((p.2.language t).0 l) k);
    covers = covers_written output autos mades h f.covers;
    signatures = signatures_written f.signatures;
    one = face_written x f.one;
    reached = reached_written x f.reached;
  }
    where
      alike_written : (a b : Automaton) → IsTrimOf a b → CoverAlike face.boxes b → CoverAlike face.boxes a
      alike_written a b t f v u l k = f v u ((t.language v).0 l) ((t.language u).0 k)

      some_written : (a b : Automaton) → IsTrimOf a b → CoverSome face.boxes b → CoverSome face.boxes a
      some_written a b t f v l = f v ((t.language v).0 l)

      covers_written : (out : Option ℕ) (xs ys : List Automaton) → AreTrimOf xs ys → PortsCover face.boxes out ys
          → PortsCover face.boxes out xs
      covers_written out [] [] t f = absurd f
      covers_written out [] (b ∷ ys) t f = absurd t
      covers_written out (a ∷ xs) [] t f = absurd t
      covers_written None (a ∷ xs) (b ∷ ys) t f = (alike_written a b t.0 f.0, some_written a b t.0 f.1)
      covers_written (Some s) (a ∷ []) (b ∷ []) t f = absurd f
      covers_written (Some s) (a ∷ []) (b ∷ (c ∷ ys)) t f = absurd t.1
      covers_written (Some s) (a ∷ (c ∷ xs)) (b ∷ []) t f = absurd t.1
      covers_written (Some s) (a ∷ (c ∷ xs)) (b ∷ (d ∷ ys)) t f =
          (alike_written a b t.0 f.0, some_written a b t.0 f.1, alike_written c d t.1.0 f.2)

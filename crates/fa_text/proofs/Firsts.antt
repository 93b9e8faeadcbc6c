-- What is answered is the table of the text, or the first rule that it breaks.
use Rattle.std.proofs.Common.{arith, ◌≡◌, ℕ, List, [], ◌∷◌, length, take, Some}
use Rattle.std.proofs.Common.{refl, sym, ap, subst, ◌∙◌, inl, inr, Result, Ok, Err, IfOk, IfErr}
use Rattle.std.proofs.lemmas.Option.{none-some, same_Some, slice_get_within}
use Rattle.fore_base.specs.Lists.{Paired}
use Rattle.fore_base.specs.declared.shape.Shapes.{Shapes}
use Rattle.fore_base.proofs.ListLemmas.{paired_long}
use Rattle.fa_core.specs.Boxes.{Boxes}
use Rattle.fa_core.specs.declared.boxes.BoxDef.{BoxDef}
use Rattle.fa_core.specs.declared.faces.Face.{Face}
use Rattle.fa_box_rules.specs.declared.rule.BoxRule.{BoxRule}
use Rattle.fa_written.specs.Drafts.{IsText, IsFirstBad}
use Rattle.fa_written.specs.declared.draft.BoxDraft.{BoxDraft}
use Rattle.fa_named.specs.Named.{AreNamed, faults, first_of}
use Rattle.fa_named.specs.declared.fault.NameFault.{NameFault}
use Rattle.fa_named.specs.declared.named.NamedBox.{NamedBox}
use Rattle.fa_text.specs.Files.{HasFace, IsBoxFile, face_over, IsFirstBroken, rule_number, fault_of}
use Rattle.fa_text.specs.Files.{IsFirst, in_the_way}
use Rattle.fa_text.specs.Files.{misnamed, broken, IsFault, Answers}
use Rattle.fa_text.specs.declared.fault.BoxFault.{BoxFault}
use Rattle.fa_text.specs.declared.fault.BoxFault.TheVariants.{Rule, Limit, Memory}
use Rattle.fa_text.proofs.Next.{all_next}
use Rattle.fa_text.proofs.OneTable.{not_more, same_boxes, two_broken}

-- what is known of texts that are written
pub record Laws : Type 0 where
  pub lists : (text : List ℕ) (one other : List BoxDraft) → IsText text one → IsText text other → one ≡ other
  pub lines : (text : List ℕ) (one other : ℕ) → IsFirstBad text one → IsFirstBad text other → one ≡ other
  pub neither : (text : List ℕ) (boxes : List BoxDraft) (line : ℕ) → IsText text boxes → IsFirstBad text line → ⊥

-- Tables

whole_front : (ns : List NamedBox) (xs : List BoxDef) → Paired HasFace ns xs → Paired HasFace (take (length xs) ns) xs
whole_front [] [] p = tt
whole_front [] (x ∷ xs) p = absurd p
whole_front (n ∷ ns) [] p = absurd p
whole_front (n ∷ ns) (x ∷ xs) p = (p.0, whole_front ns xs p.1)

same_named : (shapes : Shapes) (ds : List BoxDraft) (ns ms : List NamedBox) → AreNamed shapes ds ns
    → AreNamed shapes ds ms → ns ≡ ms
same_named shapes ds ns ms f g = f.1 ∙ sym g.1

abbrev table_with : Face → List BoxDef → Boxes
table_with face defs = record { face = face; defs = defs }

module _ (laws : Laws) (text : List ℕ) (shapes : Shapes) where
  pub one_table : (t u : Boxes) → IsBoxFile text shapes t → IsBoxFile text shapes u → t ≡ u
  one_table t u f g =
      let drafts : g.drafts ≡ f.drafts = laws.lists text g.drafts f.drafts g.written f.written in
      let other = subst (λ (ds : List BoxDraft). AreNamed shapes ds g.named) drafts g.are_named in
      let named : g.named ≡ f.named = same_named shapes f.drafts g.named f.named other f.are_named in
      let next = all_next text shapes f.drafts f.named f.written f.are_named in
      let pairs : Paired HasFace f.named u.defs = subst (λ (ns : List NamedBox). Paired HasFace ns u.defs) named
      g.boxes.0 in
      let a = paired_long HasFace f.named t.defs f.boxes.0 in
      let b = paired_long HasFace f.named u.defs pairs in
      let same : t.defs ≡ u.defs = same_boxes shapes f.named t.defs u.defs next (whole_front f.named t.defs f.boxes.0)
      (whole_front f.named u.defs pairs) f.boxes.1 g.boxes.1 (sym a ∙ b) in
      ap (λ (face : Face). table_with face t.defs) (f.face ∙ ap (face_over shapes) same ∙ sym g.face)
      ∙ ap (table_with u.face) same

  -- A table breaks nothing

  named_drafts : (ds es : List BoxDraft) (ns : List NamedBox) → es ≡ ds → AreNamed shapes es ns → AreNamed shapes ds ns
  named_drafts ds es ns e h = subst (λ (bs : List BoxDraft). AreNamed shapes bs ns) e h

  -- the first broken box, of drafts and boxes that are the same
  moved : (ds es : List BoxDraft) (ns ms : List NamedBox) (r : BoxRule) (line : ℕ) → es ≡ ds → ms ≡ ns
      → IsFirstBroken shapes es ms r line → IsFirstBroken shapes ds ns r line
  moved ds es ns ms r line e f b =
      subst (λ (bs : List BoxDraft). IsFirstBroken shapes bs ns r line) e
      (subst (λ (xs : List NamedBox). IsFirstBroken shapes es xs r line) f b)

  not_misnamed : (ds es : List BoxDraft) (x : NameFault) → es ≡ ds → faults shapes ds ≡ []
      → first_of (faults shapes es) ≡ Some x → ⊥
  not_misnamed ds es x e none first =
      none-some x (sym (ap first_of none) ∙ ap (λ (bs : List BoxDraft). first_of (faults shapes bs)) (sym e) ∙ first)

  pub not_first : (t : Boxes) (fault : BoxFault) → IsBoxFile text shapes t → IsFirst text shapes fault → ⊥
  not_first t fault f (in_the_way line bad e) = laws.neither text f.drafts line f.written bad
  not_first t fault f (misnamed ds x written first e) =
      not_misnamed f.drafts ds x (laws.lists text ds f.drafts written f.written) f.are_named.0 first
  not_first t fault f (broken ds ns rule line written are_named b e) =
      let drafts = laws.lists text ds f.drafts written f.written in
      let named = same_named shapes f.drafts ns f.named (named_drafts f.drafts ds ns drafts are_named) f.are_named in
      let here = moved f.drafts ds f.named ns rule line drafts named b in
      let next = all_next text shapes f.drafts f.named f.written f.are_named in
      let long = paired_long HasFace f.named t.defs f.boxes.0 in
      let within = slice_get_within f.named (length here.before) here.box here.box_at in
      not_more shapes f.drafts f.named rule line next here t.defs (whole_front f.named t.defs f.boxes.0) f.boxes.1
      (omega (arith, long, within))

  -- Nor two rules first

  two_named : (ds es : List BoxDraft) (x y : NameFault) → es ≡ ds → first_of (faults shapes ds) ≡ Some x
      → first_of (faults shapes es) ≡ Some y → x ≡ y
  two_named ds es x y e f g =
      same_Some x y (sym f ∙ ap (λ (bs : List BoxDraft). first_of (faults shapes bs)) (sym e) ∙ g)

  pub one_first : (f g : BoxFault) → IsFirst text shapes f → IsFirst text shapes g → f ≡ g
  one_first f g (in_the_way l bad e) (in_the_way m other h) =
      e ∙ ap (λ (k : ℕ). Rule 1 k) (laws.lines text l m bad other) ∙ sym h
  one_first f g (in_the_way l bad e) (misnamed ds x written first h) = absurd (laws.neither text ds l written bad)
  one_first f g (in_the_way l bad e) (broken ds ns rule m written named b h) =
      absurd (laws.neither text ds l written bad)
  one_first f g (misnamed ds x written first e) (in_the_way m other h) = absurd (laws.neither text ds m written other)
  one_first f g (misnamed ds x written first e) (misnamed es y also second h) =
      e ∙ ap fault_of (two_named ds es x y (laws.lists text es ds also written) first second) ∙ sym h
  one_first f g (misnamed ds x written first e) (broken es ns rule m also named b h) =
      absurd (not_misnamed es ds x (laws.lists text ds es written also) named.0 first)
  one_first f g (broken ds ns rule l written named b e) (in_the_way m other h) =
      absurd (laws.neither text ds m written other)
  one_first f g (broken ds ns rule l written named b e) (misnamed es y also second h) =
      absurd (not_misnamed ds es y (laws.lists text es ds also written) named.0 second)
  one_first f g (broken ds ns rule l written named b e) (broken es ms other m also named_too c h) =
      let drafts = laws.lists text es ds also written in
      let boxes = same_named shapes ds ms ns (named_drafts ds es ms drafts named_too) named in
      let here = moved ds es ns ms other m drafts boxes c in
      let next = all_next text shapes ds ns written named in
      let one = two_broken shapes ds ns rule other l m next b here in
      e ∙ ap (λ (r : BoxRule). Rule (rule_number r) l) one.rules ∙ ap (λ (k : ℕ). Rule (rule_number other) k) one.lines
      ∙ sym h

  -- What is answered

  pub only_table : (t : Boxes) (r : Result Boxes BoxFault) → IfOk r (IsBoxFile text shapes)
      → IfErr r (IsFault text shapes) → IsBoxFile text shapes t → Answers r (Ok t)
  only_table t (Ok u) ok err f = inl (ap Ok (one_table u t ok f))
  only_table t (Err (Rule rule line)) ok err f = absurd (not_first t (Rule rule line) f err)
  only_table t (Err (Limit line)) ok err f = absurd (not_first t (Limit line) f err)
  only_table t (Err Memory) ok err f = inr refl

  pub only_first : (fault : BoxFault) (r : Result Boxes BoxFault) → IfOk r (IsBoxFile text shapes)
      → IfErr r (IsFault text shapes) → IsFirst text shapes fault → Answers r (Err fault)
  only_first fault (Ok u) ok err f = absurd (not_first u fault ok f)
  only_first fault (Err (Rule rule line)) ok err f = inl (ap Err (one_first (Rule rule line) fault err f))
  only_first fault (Err (Limit line)) ok err f = inl (ap Err (one_first (Limit line) fault err f))
  only_first fault (Err Memory) ok err f = inr refl

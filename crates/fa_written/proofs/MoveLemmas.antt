-- What is read when a line is taken.
use Rattle.std.proofs.Common.{arith, ℕ, suc, Bool, true, false, List, [], ◌∷◌, ◌++◌, ◌≡◌, ◌≤◌, ◌+◌, ◌==◌}
use Rattle.std.proofs.Common.{refl, sym, ap, ◌∙◌, subst, Option, Some, None, length, nat_le, append_assoc, append-nil}
use Rattle.std.proofs.lemmas.List.{map-append}
use Rattle.std.proofs.lemmas.Option.{none-some, same_Some}
use Rattle.std.proofs.lemmas.Bool.{eqb-true}
use Rattle.std.proofs.lemmas.Bool.Decides.{nat_tests}
use Rattle.fore_base.specs.Lists.{Every}
use Rattle.fa_lines.specs.declared.line.Term.{Term}
use Rattle.fa_lines.specs.declared.line.Line.{Line}
use Rattle.fa_lines.specs.declared.line.Line.TheVariants.{Skipped, Opens, Root, Rule, Ends}
use Rattle.fa_written.specs.declared.draft.RuleDraft.{RuleDraft}
use Rattle.fa_written.specs.declared.draft.PartDraft.{PartDraft}
use Rattle.fa_written.specs.declared.draft.Head.{Head}
use Rattle.fa_written.specs.declared.draft.BoxDraft.{BoxDraft}
use Rattle.fa_written.specs.declared.draft.OpenBox.{OpenBox}
use Rattle.fa_written.specs.declared.draft.Reading.{Reading}
use Rattle.fa_written.specs.Forms.{
  Numbered,
  put_before,
  numbered,
  rule_line,
  part_lines,
  parts_lines,
  head_line,
  box_lines,
}
use Rattle.fa_written.specs.Forms.{file_lines, port_count, HasPorts}
use Rattle.fa_written.specs.inner.Moves.{
  ◌>>=◌,
  guard,
  rule_behind,
  more,
  rule_last,
  opened,
  reading,
  outside,
  part_of,
  ended,
}
use Rattle.fa_written.specs.inner.Moves.{inside, moved_by, moved, run, lines_read}

pub guarded : {A : Type 0} (b : Bool) (x y : A) → guard b x ≡ Some y → (b ≡ true) × (x ≡ y)
guarded true x y e = (refl, same_Some x y e)
guarded false x y e = absurd (none-some y e)

pub bound : {A B : Type 0} (o : Option A) (f : A → Option B) (y : B) → (o >>= f) ≡ Some y
    → (x : A) × (o ≡ Some x) × (f x ≡ Some y)
bound (Some x) f y e = (x, refl, e)
bound None f y e = absurd (none-some y e)

most_told : (n m : ℕ) → nat_le n m ≡ true → n ≤ m
most_told n m e = grind (arith, nat_tests)

-- Lines of boxes

pub file_append : (bs cs : List BoxDraft) → file_lines (bs ++ cs) ≡ file_lines bs ++ file_lines cs
file_append [] cs = refl
file_append (b ∷ bs) cs =
    ap (λ xs. box_lines b ++ xs) (file_append bs cs) ∙ sym (append_assoc (box_lines b) (file_lines bs) (file_lines cs))

pub parts_behind : (ps : List PartDraft) (k : ℕ) (p : PartDraft)
    → parts_lines k (ps ++ p ∷ []) ≡ parts_lines k ps ++ part_lines (k + length ps) p
parts_behind [] k p =
    append-nil (part_lines k p) ∙ ap (λ n. part_lines n p) (let e : k ≡ k + 0 = omega arith in e)
parts_behind (q ∷ ps) k p =
    ap (λ xs. part_lines k q ++ xs) (parts_behind ps (suc k) p)
    ∙ ap (λ n. part_lines k q ++ (parts_lines (suc k) ps ++ part_lines n p))
    (let e : suc k + length ps ≡ k + suc (length ps) = omega arith in e)
    ∙ sym (append_assoc (part_lines k q) (parts_lines (suc k) ps) (part_lines (k + suc (length ps)) p))

part_rule : (k : ℕ) (p : PartDraft) (r : RuleDraft)
    → part_lines k (rule_behind r p) ≡ part_lines k p ++ rule_line r ∷ []
part_rule k p r = ap (λ xs. (p.line, Root k p.roots) ∷ xs) (map-append rule_line p.rules (r ∷ []))

abbrev RuleIsLast : RuleDraft → List PartDraft → List PartDraft → Type 0
RuleIsLast r ps qs = (k : ℕ) → parts_lines k qs ≡ parts_lines k ps ++ rule_line r ∷ []

more_last : (r : RuleDraft) (p : PartDraft) (ps : List PartDraft) (o : Option (List PartDraft)) (qs : List PartDraft)
    → ((us : List PartDraft) → o ≡ Some us → RuleIsLast r ps us) → more p o ≡ Some qs → RuleIsLast r (p ∷ ps) qs
more_last r p ps None qs have e = absurd (none-some qs e)
more_last r p ps (Some us) qs have e =
    subst (RuleIsLast r (p ∷ ps)) (same_Some (p ∷ us) qs e) (λ k.
    ap (λ xs. part_lines k p ++ xs) (have us refl (suc k))
    ∙ sym (append_assoc (part_lines k p) (parts_lines (suc k) ps) (rule_line r ∷ [])))

rule_is_last : (r : RuleDraft) (ps qs : List PartDraft) → rule_last r ps ≡ Some qs → RuleIsLast r ps qs
rule_is_last r [] qs e = absurd (none-some qs e)
rule_is_last r (p ∷ []) qs e =
    subst (RuleIsLast r (p ∷ [])) (same_Some (rule_behind r p ∷ []) qs e) (λ k.
    append-nil (part_lines k (rule_behind r p)) ∙ part_rule k p r
    ∙ ap (λ xs. xs ++ rule_line r ∷ []) (sym (append-nil (part_lines k p))))
rule_is_last r (p ∷ q ∷ ps) qs e =
    more_last r p (q ∷ ps) (rule_last r (q ∷ ps)) qs (λ us f. rule_is_last r (q ∷ ps) us f) e

-- a rule behind those of the last component
pub rule_put : (ps : List PartDraft) (p : PartDraft) (r : RuleDraft)
    → rule_last r (ps ++ p ∷ []) ≡ Some (ps ++ rule_behind r p ∷ [])
rule_put [] p r = refl
rule_put (a ∷ []) p r = refl
rule_put (a ∷ b ∷ ps) p r = ap (more a) (rule_put (b ∷ ps) p r)

-- One line

-- what was read with a line more
pub record Takes (bs : List BoxDraft) (o : Option OpenBox) (n : ℕ) (line : Line) (t : Reading) : Type 0 where
  pub lines : lines_read t ≡ lines_read (reading bs o) ++ put_before n line []
  pub ports : Every HasPorts bs → Every HasPorts t.boxes

nothing_more : (bs : List BoxDraft) (o : Option OpenBox) (n : ℕ) → Takes bs o n Skipped (reading bs o)
nothing_more bs o n = record { lines = sym (append-nil (lines_read (reading bs o))); ports = λ h. h }

outside_takes : (bs : List BoxDraft) (n : ℕ) (line : Line) (t : Reading) → outside bs n line ≡ Some t
    → Takes bs None n line t
outside_takes bs n Skipped t e =
    subst (Takes bs None n Skipped) (same_Some (reading bs None) t e) (nothing_more bs None n)
outside_takes bs n (Opens name input output) t e =
    subst (Takes bs None n (Opens name input output))
    (same_Some (reading bs (Some (opened (record { line = n; name = name; input = input; output = output }) []))) t
    e)
    (record {
      lines = ap (λ xs. xs ++ (n, Opens name input output) ∷ []) (sym (append-nil (file_lines bs)));
      ports = λ h. h;
    })
outside_takes bs n (Root r qs) t e = absurd (none-some t e)
outside_takes bs n (Rule q term) t e = absurd (none-some t e)
outside_takes bs n Ends t e = absurd (none-some t e)

-- a line behind those of an open box
behind : (bs : List BoxDraft) (h : Head) (xs : List Numbered) (x : Numbered)
    → file_lines bs ++ (head_line h ∷ (xs ++ x ∷ [])) ≡ (file_lines bs ++ (head_line h ∷ xs)) ++ x ∷ []
behind bs h xs x = sym (append_assoc (file_lines bs) (head_line h ∷ xs) (x ∷ []))

no_more : (n : ℕ) → 0 + n ≡ n
no_more n = omega arith

root_takes : (bs : List BoxDraft) (b : OpenBox) (n r : ℕ) (qs : List ℕ) → r ≡ length b.parts
    → Takes bs (Some b) n (Root r qs) (reading bs (Some (opened b.head (b.parts ++ part_of n qs ∷ []))))
root_takes bs b n r qs same = record {
  lines = ap (λ xs. file_lines bs ++ (head_line b.head ∷ xs)) (parts_behind b.parts 0 (part_of n qs)
      ∙ ap (λ k. parts_lines 0 b.parts ++ part_lines k (part_of n qs)) (no_more (length b.parts)))
      ∙ behind bs b.head (parts_lines 0 b.parts) (n, Root (length b.parts) qs)
      ∙ ap (λ k. lines_read (reading bs (Some b)) ++ (n, Root k qs) ∷ []) (sym same);
  ports = λ h. h;
}

end_ports : (bs : List BoxDraft) (b : BoxDraft) → HasPorts b → Every HasPorts bs → Every HasPorts (bs ++ b ∷ [])
end_ports [] b has h = (has, tt)
end_ports (c ∷ bs) b has h = (h.0, end_ports bs b has h.1)

abbrev pub box_of : OpenBox → ℕ → BoxDraft
box_of b n = record { head = b.head; parts = b.parts; end = n }

-- an end behind the lines of an open box
pub end_lines : (bs : List BoxDraft) (b : OpenBox) (n : ℕ)
    → file_lines (bs ++ box_of b n ∷ []) ≡ lines_read (reading bs (Some b)) ++ (n, Ends) ∷ []
end_lines bs b n =
    file_append bs (box_of b n ∷ []) ∙ ap (λ xs. file_lines bs ++ xs) (append-nil (box_lines (box_of b n)))
    ∙ behind bs b.head (parts_lines 0 b.parts) (n, Ends)

end_takes : (bs : List BoxDraft) (b : OpenBox) (n : ℕ) → port_count b.head.output ≤ length b.parts
    → Takes bs (Some b) n Ends (ended bs b n)
end_takes bs b n has = record {
  lines = append-nil (file_lines (bs ++ box_of b n ∷ [])) ∙ end_lines bs b n;
  ports = end_ports bs (box_of b n) has;
}

rule_takes : (bs : List BoxDraft) (b : OpenBox) (n q : ℕ) (term : Term) (ps : List PartDraft)
    → RuleIsLast (record { line = n; state = q; term = term }) b.parts ps
    → Takes bs (Some b) n (Rule q term) (reading bs (Some (opened b.head ps)))
rule_takes bs b n q term ps last = record {
  lines = ap (λ xs. file_lines bs ++ (head_line b.head ∷ xs)) (last 0)
      ∙ behind bs b.head (parts_lines 0 b.parts) (n, Rule q term);
  ports = λ h. h;
}

inside_takes : (bs : List BoxDraft) (b : OpenBox) (n : ℕ) (line : Line) (t : Reading) → inside bs b n line ≡ Some t
    → Takes bs (Some b) n line t
inside_takes bs b n Skipped t e =
    subst (Takes bs (Some b) n Skipped) (same_Some (reading bs (Some b)) t e) (nothing_more bs (Some b) n)
inside_takes bs b n (Opens name input output) t e = absurd (none-some t e)
inside_takes bs b n (Root r qs) t e =
    let g = guarded (r == length b.parts) (reading bs (Some (opened b.head (b.parts ++ part_of n qs ∷ [])))) t e in
    subst (Takes bs (Some b) n (Root r qs)) g.1 (root_takes bs b n r qs (eqb-true r (length b.parts) g.0))
inside_takes bs b n (Rule q term) t e =
    let r : RuleDraft = record { line = n; state = q; term = term } in
    let a = bound (rule_last r b.parts) (λ ps. Some (reading bs (Some (opened b.head ps)))) t e in
    subst (Takes bs (Some b) n (Rule q term)) (same_Some (reading bs (Some (opened b.head a.0))) t a.2)
    (rule_takes bs b n q term a.0 (rule_is_last r b.parts a.0 a.1))
inside_takes bs b n Ends t e =
    let g = guarded (nat_le (port_count b.head.output) (length b.parts)) (ended bs b n) t e in
    subst (Takes bs (Some b) n Ends) g.1 (end_takes bs b n (most_told (port_count b.head.output) (length b.parts) g.0))

takes_by : (bs : List BoxDraft) (o : Option OpenBox) (n : ℕ) (line : Line) (t : Reading) → moved_by bs o n line ≡ Some t
    → Takes bs o n line t
takes_by bs None n line t e = outside_takes bs n line t e
takes_by bs (Some b) n line t e = inside_takes bs b n line t e

pub takes : (s : Reading) (n : ℕ) (line : Line) (t : Reading) → moved s n line ≡ Some t
    → Takes s.boxes s.current n line t
unfolding moved
takes s n line t e = takes_by s.boxes s.current n line t e

-- Many lines

pub put_is : (n : ℕ) (line : Line) (xs : List Numbered) → put_before n line xs ≡ put_before n line [] ++ xs
put_is n Skipped xs = refl
put_is n (Opens name input output) xs = refl
put_is n (Root r qs) xs = refl
put_is n (Rule q term) xs = refl
put_is n Ends xs = refl

pub record Runs (s : Reading) (n : ℕ) (ls : List Line) (t : Reading) : Type 0 where
  pub lines : lines_read t ≡ lines_read s ++ numbered n ls
  pub ports : Every HasPorts s.boxes → Every HasPorts t.boxes

pub runs : (ls : List Line) (s : Reading) (n : ℕ) (t : Reading) → run s n ls ≡ Some t → Runs s n ls t
runs [] s n t e =
    subst (Runs s n []) (same_Some s t e) (record { lines = sym (append-nil (lines_read s)); ports = λ h. h })
runs (l ∷ ls) s n t e =
    let a = bound (moved s n l) (λ u. run u (suc n) ls) t e in
    let one = takes s n l a.0 a.1 in
    let others = runs ls a.0 (suc n) t a.2 in
    record {
      lines = others.lines ∙ ap (λ xs. xs ++ numbered (suc n) ls) one.lines
          ∙ append_assoc (lines_read s) (put_before n l []) (numbered (suc n) ls)
          ∙ ap (λ xs. lines_read s ++ xs) (sym (put_is n l (numbered (suc n) ls)));
      ports = λ h. others.ports (one.ports h);
    }

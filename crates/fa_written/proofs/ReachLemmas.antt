-- How far a text has been read.
use Rattle.std.proofs.Common.{arith, ℕ, suc, true, false, List, [], ◌∷◌, ◌++◌, ◌≡◌, ◌+◌, ◌-◌, ◌==◌, ◌⊎◌, inl, inr}
use Rattle.std.proofs.Common.{refl, sym, ap, ◌∙◌, subst, Option, Some, None, length, nat_le, append_assoc, append-nil}
use Rattle.std.proofs.Common.{length-append, take, drop, slice_get}
use Rattle.std.proofs.lemmas.List.{take-append-drop}
use Rattle.std.proofs.lemmas.Option.{none-some, same_Some}
use Rattle.fore_base.specs.Lists.{Every, Paired}
use Rattle.fa_lines.specs.Pieces.{lines_of}
use Rattle.fa_lines.specs.Says.{Says}
use Rattle.fa_lines.specs.declared.line.Line.{Line}
use Rattle.fa_lines.specs.declared.line.Line.TheVariants.{Skipped, Opens, Root, Rule, Ends}
use Rattle.fa_written.specs.declared.draft.RuleDraft.{RuleDraft}
use Rattle.fa_written.specs.declared.draft.BoxDraft.{BoxDraft}
use Rattle.fa_written.specs.declared.draft.OpenBox.{OpenBox}
use Rattle.fa_written.specs.declared.draft.Reading.{Reading}
use Rattle.fa_written.specs.declared.fault.DraftFault.{DraftFault}
use Rattle.fa_written.specs.declared.fault.DraftFault.TheVariants.{B1, Memory}
use Rattle.fa_written.specs.Drafts.{missing, missing_of, RefersWithin, Begins, IsText, IsDead, ClosesWithin}
use Rattle.fa_written.specs.Drafts.{IsBadLine, IsMissingRef}
use Rattle.fa_written.specs.Faults.{IsFault}
use Rattle.fa_written.specs.Forms.{IsForm, IsLive, port_count}
use Rattle.fa_written.specs.inner.Moves.{◌>>=◌, rule_last, opened, reading, outside, part_of, ended, inside, moved_by}
use Rattle.fa_written.specs.declared.unfit.Unfit.{Unfit}
use Rattle.fa_written.specs.declared.unfit.Unfit.TheVariants.{Other}
use Rattle.fa_written.specs.inner.Moves.{moved, run, Fails}
use Rattle.fa_written.specs.inner.Reached.{open_missing, is_end, EndsWithin, Took, Untaken, Missed, Refuses, Reached}
use Rattle.fa_written.proofs.FirstLemmas.{none_first, some_first}
use Rattle.fa_written.proofs.MoveLemmas.{bound, guarded, box_of}
use Rattle.fa_written.proofs.Forward.{form_runs, live_runs, run_form, run_live, run_joined, run_split}
use Rattle.fa_written.proofs.Forward.{closes_reads, open_closes}

pub other_fails : (e : Unfit) (o : Option Reading) → e ≡ Other → Fails e o → o ≡ None
other_fails e o is h = subst (λ x. Fails x o) is h

-- One line

pub took : (bytes : List ℕ) (n : ℕ) (s t : Reading) (line : Line) → Says bytes line → moved s n line ≡ Some t
    → EndsWithin line s → Took bytes n s t
took bytes n s t line said moves refs = record { line = line; said = said; moves = moves; refs = refs }

pub missed : (bytes : List ℕ) (n : ℕ) (s : Reading) (line : Line) (l : ℕ) → Says bytes line → is_end line ≡ true
    → open_missing s.current ≡ Some l → Refuses bytes n s (B1 l)
missed bytes n s line l said ends first = inr (record { line = line; said = said; ends = ends; first = first })

pub not_taken : (bytes : List ℕ) (n : ℕ) (s : Reading) (line : Line) → Says bytes line → moved s n line ≡ None
    → EndsWithin line s → Refuses bytes n s (B1 n)
not_taken bytes n s line said moves refs = inl (refl, Untaken.unfit line said moves refs)

pub not_said : (bytes : List ℕ) (n : ℕ) (s : Reading) → ((line : Line) → Says bytes line → ⊥) → Refuses bytes n s (B1 n)
not_said bytes n s none = inl (refl, Untaken.unsaid none)

-- the boxes after a line: it ends the one that is open, or they are those before
abbrev pub After : List BoxDraft → Option OpenBox → ℕ → Line → Reading → Type 0
After bs o n line t = ((is_end line ≡ false) × (t.boxes ≡ bs))
    ⊎ ((is_end line ≡ true) × (b : OpenBox) × (o ≡ Some b) × (t ≡ ended bs b n))

same_after : (bs : List BoxDraft) (o : Option OpenBox) (n : ℕ) (line : Line) (p : Option OpenBox) (t : Reading)
    → is_end line ≡ false → Some (reading bs p) ≡ Some t → After bs o n line t
same_after bs o n line p t other e = inl (other, sym (ap (λ (r : Reading). r.boxes) (same_Some (reading bs p) t e)))

outside_after : (bs : List BoxDraft) (n : ℕ) (line : Line) (t : Reading) → outside bs n line ≡ Some t
    → After bs None n line t
outside_after bs n Skipped t e = same_after bs None n Skipped None t refl e
outside_after bs n (Opens name input output) t e = same_after bs None n (Opens name input output) _ t refl e
outside_after bs n (Root r qs) t e = absurd (none-some t e)
outside_after bs n (Rule q term) t e = absurd (none-some t e)
outside_after bs n Ends t e = absurd (none-some t e)

inside_after : (bs : List BoxDraft) (b : OpenBox) (n : ℕ) (line : Line) (t : Reading) → inside bs b n line ≡ Some t
    → After bs (Some b) n line t
inside_after bs b n Skipped t e = same_after bs (Some b) n Skipped (Some b) t refl e
inside_after bs b n (Opens name input output) t e = absurd (none-some t e)
inside_after bs b n (Root r qs) t e =
    let g = guarded (r == length b.parts) (reading bs (Some (opened b.head (b.parts ++ part_of n qs ∷ [])))) t e in
    same_after bs (Some b) n (Root r qs) (Some (opened b.head (b.parts ++ part_of n qs ∷ []))) t refl (ap Some g.1)
inside_after bs b n (Rule q term) t e =
    let r : RuleDraft = record { line = n; state = q; term = term } in
    let a = bound (rule_last r b.parts) (λ ps. Some (reading bs (Some (opened b.head ps)))) t e in
    same_after bs (Some b) n (Rule q term) (Some (opened b.head a.0)) t refl a.2
inside_after bs b n Ends t e =
    let g = guarded (nat_le (port_count b.head.output) (length b.parts)) (ended bs b n) t e in
    inr (refl, b, refl, sym g.1)

after_by : (bs : List BoxDraft) (o : Option OpenBox) (n : ℕ) (line : Line) (t : Reading) → moved_by bs o n line ≡ Some t
    → After bs o n line t
after_by bs None n line t e = outside_after bs n line t e
after_by bs (Some b) n line t e = inside_after bs b n line t e

pub after : (s : Reading) (n : ℕ) (line : Line) (t : Reading) → moved s n line ≡ Some t
    → After s.boxes s.current n line t
unfolding moved
after s n line t e = after_by s.boxes s.current n line t e

-- an end that is taken ends the box that is open
pub end_taken : (bs : List BoxDraft) (b : OpenBox) (n : ℕ) (t : Reading) → moved (reading bs (Some b)) n Ends ≡ Some t
    → t ≡ reading (bs ++ box_of b n ∷ []) None
unfolding moved
end_taken bs b n t e =
    sym (guarded (nat_le (port_count b.head.output) (length b.parts)) (ended bs b n) t e).1

-- boxes are only added
abbrev Grew : List BoxDraft → List BoxDraft → Type 0
Grew bs cs = (new : List BoxDraft) × (cs ≡ bs ++ new)

grew_once : (bs : List BoxDraft) (o : Option OpenBox) (n : ℕ) (line : Line) (t : Reading) → After bs o n line t
    → Grew bs t.boxes
grew_once bs o n line t (inl h) = ([], h.1 ∙ sym (append-nil bs))
grew_once bs o n line t (inr h) = (box_of h.1 n ∷ [], ap (λ (r : Reading). r.boxes) h.3)

grew_on : (bs cs ds : List BoxDraft) → Grew bs cs → Grew cs ds → Grew bs ds
grew_on bs cs ds p q = (p.0 ++ q.0, q.1 ∙ ap (λ xs. xs ++ q.0) p.1 ∙ append_assoc bs p.0 q.0)

pub grew : (ls : List Line) (s : Reading) (n : ℕ) (t : Reading) → run s n ls ≡ Some t → Grew s.boxes t.boxes
grew [] s n t e = ([], ap (λ (r : Reading). r.boxes) (sym (same_Some s t e)) ∙ sym (append-nil s.boxes))
grew (l ∷ ls) s n t e =
    let a = bound (moved s n l) (λ u. run u (suc n) ls) t e in
    grew_on s.boxes a.0.boxes t.boxes (grew_once s.boxes s.current n l a.0 (after s n l a.0 a.1))
    (grew ls a.0 (suc n) t a.2)

pub every_front : {X : Type 0} (P : X → Type 0) (xs ys : List X) → Every P (xs ++ ys) → Every P xs
every_front P [] ys h = tt
every_front P (x ∷ xs) ys h = (h.0, every_front P xs ys h.1)

every_behind : {X : Type 0} (P : X → Type 0) (xs : List X) (x : X) → Every P xs → P x → Every P (xs ++ x ∷ [])
every_behind P [] x h p = (p, tt)
every_behind P (y ∷ xs) x h p = (h.0, every_behind P xs x h.1 p)

-- Lists of lines

paired_behind : {X Y : Type 0} (R : X → Y → Type 0) (xs : List X) (ys : List Y) (x : X) (y : Y) → Paired R xs ys → R x y
    → Paired R (xs ++ x ∷ []) (ys ++ y ∷ [])
paired_behind R [] [] x y p r = (r, tt)
paired_behind R [] (b ∷ ys) x y p r = absurd p
paired_behind R (a ∷ xs) [] x y p r = absurd p
paired_behind R (a ∷ xs) (b ∷ ys) x y p r = (p.0, paired_behind R xs ys x y p.1 r)

paired_length : {X Y : Type 0} (R : X → Y → Type 0) (xs : List X) (ys : List Y) → Paired R xs ys → length xs ≡ length ys
paired_length R [] [] p = refl
paired_length R [] (b ∷ ys) p = absurd p
paired_length R (a ∷ xs) [] p = absurd p
paired_length R (a ∷ xs) (b ∷ ys) p = ap suc (paired_length R xs ys p.1)

front_taken : {X : Type 0} (xs ys : List X) → take (length xs) (xs ++ ys) ≡ xs
front_taken [] ys = refl
front_taken (x ∷ xs) ys = ap (λ zs. x ∷ zs) (front_taken xs ys)

front_dropped : {X : Type 0} (xs ys : List X) → drop (length xs) (xs ++ ys) ≡ ys
front_dropped [] ys = refl
front_dropped (x ∷ xs) ys = front_dropped xs ys

begins_by : (text : List ℕ) (front rest : List (List ℕ)) (lines : List Line) → lines_of text ≡ front ++ rest
    → Paired Says front lines → Begins text lines
begins_by text front rest lines split said =
    let long : length lines ≡ length front = sym (paired_length Says front lines said) in
    subst (λ xs. Paired Says xs lines)
    (sym (ap (λ xs. take (length lines) xs) split ∙ ap (λ k. take k (front ++ rest)) long ∙ front_taken front rest))
    said

module _ (text : List ℕ) (n : ℕ) (rest : List ℕ) (s : Reading) (r : Reached text n rest s) where
  long : length r.front ≡ length r.lines
  long = paired_length Says r.front r.lines r.said

  left : drop (length r.lines) (lines_of text) ≡ lines_of rest
  left = ap (λ xs. drop (length r.lines) xs) r.split ∙ ap (λ k. drop k (r.front ++ lines_of rest)) (sym long)
      ∙ front_dropped r.front (lines_of rest)

  refs_before : (k : ℕ) (bs : List BoxDraft) → IsForm (take k r.lines) bs → Every RefersWithin bs
  refs_before k bs form =
      let whole : take k r.lines ++ drop k r.lines ≡ r.lines = take-append-drop k r.lines in
      let a = run_split (take k r.lines) (drop k r.lines) (reading [] None) 1 s
      (ap (run (reading [] None) 1) whole ∙ r.ran) in
      let same : a.0 ≡ reading bs None = same_Some a.0 (reading bs None) (sym a.1 ∙ form_runs (take k r.lines) bs form)
      in
      let more = grew (drop k r.lines) a.0 (1 + length (take k r.lines)) s a.2 in
      let all : Every RefersWithin (a.0.boxes ++ more.0) = subst (Every RefersWithin) more.1 r.refs in
      subst (Every RefersWithin) (ap (λ (u : Reading). u.boxes) same) (every_front RefersWithin a.0.boxes more.0 all)

  bad : ClosesWithin r.lines (lines_of rest) → IsDead r.lines (lines_of rest) → IsBadLine text n
  bad closed dead = record {
    before = r.lines;
    place = r.place;
    said = begins_by text r.front (lines_of rest) r.lines r.split r.said;
    live = run_live r.lines s r.ran;
    refs = refs_before;
    closed = subst (ClosesWithin r.lines) (sym left) closed;
    dead = subst (IsDead r.lines) (sym left) dead;
  }

  -- a line more is not live
  one_more : (line : Line) → moved s n line ≡ None → IsLive (r.lines ++ line ∷ []) → ⊥
  one_more line none live =
      let a = live_runs (r.lines ++ line ∷ []) live in
      let b : run s (1 + length r.lines) (line ∷ []) ≡ Some a.0 =
      sym (run_joined r.lines (line ∷ []) (reading [] None) s 1 r.ran) ∙ a.1 in
      let place : n ≡ 1 + length r.lines = omega (arith, r.place) in
      let c = bound (moved s (1 + length r.lines) line) (λ u. run u (suc (1 + length r.lines)) []) a.0 b in
      none-some c.0 (sym none ∙ ap (λ k. moved s k line) place ∙ c.1)

true_not : false ≡ true → ⊥
true_not e = grind arith

the_end : (line : Line) → is_end line ≡ true → line ≡ Ends
the_end Skipped e = absurd (true_not e)
the_end (Opens name input output) e = absurd (true_not e)
the_end (Root r qs) e = absurd (true_not e)
the_end (Rule q term) e = absurd (true_not e)
the_end Ends e = refl

abbrev pub OneLine : Type 0
OneLine = (bytes : List ℕ) (one other : Line) → Says bytes one → Says bytes other → one ≡ other

-- From line to line

pub reached_start : (text : List ℕ) → Reached text 1 text (reading [] None)
reached_start text =
    record { lines = []; front = []; place = refl; split = refl; said = tt; ran = refl; refs = tt }

abbrev IsNextLine : List ℕ → List ℕ → List ℕ → Type 0
IsNextLine rest bytes others = lines_of rest ≡ bytes ∷ lines_of others

module _ (text : List ℕ) (n : ℕ) (rest : List ℕ) (s : Reading) (r : Reached text n rest s) (bytes others : List ℕ)
    (next : IsNextLine rest bytes others) where
  split_on : lines_of text ≡ (r.front ++ bytes ∷ []) ++ lines_of others
  split_on =
      r.split ∙ ap (λ xs. r.front ++ xs) next ∙ sym (append_assoc r.front (bytes ∷ []) (lines_of others))

  run_on : (line : Line) (t : Reading) → moved s n line ≡ Some t
      → run (reading [] None) 1 (r.lines ++ line ∷ []) ≡ Some t
  run_on line t moves =
      let place : 1 + length r.lines ≡ n = omega (arith, r.place) in
      run_joined r.lines (line ∷ []) (reading [] None) s 1 r.ran ∙ ap (λ k. run s k (line ∷ [])) place
      ∙ ap (λ o. o >>= λ u. Some u) moves

  refs_by : (line : Line) (t : Reading) → EndsWithin line s → After s.boxes s.current n line t
      → Every RefersWithin t.boxes
  refs_by line t refs (inl h) = subst (Every RefersWithin) (sym h.1) r.refs
  refs_by line t refs (inr h) =
      let none : missing_of h.1.parts ≡ [] =
      none_first (missing_of h.1.parts) (ap open_missing (sym h.2) ∙ refs h.0) in
      subst (Every RefersWithin) (sym (ap (λ (u : Reading). u.boxes) h.3))
      (every_behind RefersWithin s.boxes (box_of h.1 n) r.refs none)

  took_next : (t : Reading) → Took bytes n s t → Reached text (n + 1) others t
  took_next t k = record {
    lines = r.lines ++ k.line ∷ [];
    front = r.front ++ bytes ∷ [];
    place = omega (arith, r.place, length-append r.lines (k.line ∷ []));
    split = split_on;
    said = paired_behind Says r.front r.lines bytes k.line r.said k.said;
    ran = run_on k.line t k.moves;
    refs = refs_by k.line t k.refs (after s n k.line t k.moves);
  }

  dead_by : OneLine → Untaken bytes n s → IsDead r.lines (bytes ∷ lines_of others)
  dead_by unique (Untaken.unsaid none) = λ line said live. none line said
  dead_by unique (Untaken.unfit line said none refs) = λ other heard live.
      one_more text n rest s r line none
      (subst (λ l. IsLive (r.lines ++ l ∷ [])) (unique bytes other line heard said) live)

  closed_by : OneLine → Untaken bytes n s → ClosesWithin r.lines (bytes ∷ lines_of others)
  closed_by unique (Untaken.unsaid none) = λ said bs last closes. absurd (none Ends said)
  closed_by unique (Untaken.unfit line said none refs) = λ heard bs last closes.
      let same : s ≡ reading bs (Some (opened last.head last.parts)) =
      same_Some s (reading bs (Some (opened last.head last.parts))) (sym r.ran ∙ closes_reads r.lines bs last closes) in
      none_first (missing last)
      (ap (λ (u : Reading). open_missing u.current) (sym same) ∙ refs (ap is_end (unique bytes line Ends said heard)))

  missing_by : (l : ℕ) → Says bytes Ends → (o : Option OpenBox) → s.current ≡ o → open_missing o ≡ Some l
      → IsMissingRef text l
  missing_by l said None is first = absurd (none-some l first)
  missing_by l said (Some b) is first =
      let found = some_first (missing_of b.parts) l first in
      record {
        before = r.lines;
        boxes = s.boxes;
        last = box_of b (1 + length r.lines);
        others = found.0;
        said = begins_by text (r.front ++ bytes ∷ []) (lines_of others) (r.lines ++ Ends ∷ []) split_on
            (paired_behind Says r.front r.lines bytes Ends r.said said);
        closes = open_closes r.lines s.boxes b (r.ran ∙ ap (λ o. Some (reading s.boxes o)) is);
        refs = r.refs;
        first = found.1;
      }

  fault_by : OneLine → (e : DraftFault) → Refuses bytes n s e → IsFault text e
  fault_by unique Memory h = tt
  fault_by unique (B1 l) (inl h) =
      inl (subst (λ k. IsBadLine text k) (sym h.0)
      (bad text n rest s r (subst (ClosesWithin r.lines) (sym next) (closed_by unique h.1))
      (subst (IsDead r.lines) (sym next) (dead_by unique h.1))))
  fault_by unique (B1 l) (inr m) =
      inr (missing_by l (subst (Says bytes) (the_end m.line m.ends) m.said) s.current refl m.first)

pub reached_next : (text rest bytes others : List ℕ) (n : ℕ) (s t : Reading) → Reached text n rest s
    → lines_of rest ≡ bytes ∷ lines_of others → Took bytes n s t → Reached text (n + 1) others t
reached_next text rest bytes others n s t r next k = took_next text n rest s r bytes others next t k

pub reached_fault : (text rest bytes others : List ℕ) (n : ℕ) (s : Reading) (e : DraftFault) → Reached text n rest s
    → lines_of rest ≡ bytes ∷ lines_of others → OneLine → Refuses bytes n s e → IsFault text e
reached_fault text rest bytes others n s e r next unique h = fault_by text n rest s r bytes others next unique e h

-- At the end

pub reached_whole : (text : List ℕ) (n : ℕ) (bs : List BoxDraft) (o : Option OpenBox) → Reached text n [] (reading bs o)
    → o ≡ None → IsText text bs
reached_whole text n bs o r none = record {
  lines = r.lines;
  said = subst (λ xs. Paired Says xs r.lines) (sym (r.split ∙ append-nil r.front)) r.said;
  form = run_form r.lines bs (r.ran ∙ ap (λ x. Some (reading bs x)) none);
  refs = r.refs;
}

pub reached_open : (text : List ℕ) (n : ℕ) (bs : List BoxDraft) (o : Option OpenBox) → Reached text n [] (reading bs o)
    → (o ≡ None → ⊥) → IsFault text (B1 n)
reached_open text n bs o r some =
    inl (bad text n [] (reading bs o) r tt (λ cs form.
    let e : reading bs o ≡ reading cs None =
    same_Some (reading bs o) (reading cs None) (sym r.ran ∙ form_runs r.lines cs form) in
    some (ap (λ (u : Reading). u.current) e)))

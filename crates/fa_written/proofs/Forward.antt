-- The lines of boxes are taken.
use Rattle.std.proofs.Common.{arith, ℕ, zero, suc, true, List, [], ◌∷◌, ◌++◌, ◌≡◌, ◌≤◌, ◌+◌, map}
use Rattle.std.proofs.Common.{refl, sym, ap, ◌∙◌, Option, Some, None, length, nat_le, append_assoc, append-nil}
use Rattle.std.proofs.Common.{length-append}
use Rattle.std.proofs.lemmas.Option.{same_Some}
use Rattle.std.proofs.lemmas.Bool.{eq-eqb}
use Rattle.std.proofs.lemmas.Bool.Decides.{nat_tests}
use Rattle.fore_base.specs.Lists.{Every}
use Rattle.fa_lines.specs.declared.line.Line.{Line}
use Rattle.fa_lines.specs.declared.line.Line.TheVariants.{Skipped, Opens, Root, Rule, Ends}
use Rattle.fa_written.specs.declared.draft.RuleDraft.{RuleDraft}
use Rattle.fa_written.specs.declared.draft.PartDraft.{PartDraft}
use Rattle.fa_written.specs.declared.draft.Head.{Head}
use Rattle.fa_written.specs.declared.draft.BoxDraft.{BoxDraft}
use Rattle.fa_written.specs.declared.draft.OpenBox.{OpenBox}
use Rattle.fa_written.specs.declared.draft.Reading.{Reading}
use Rattle.fa_written.specs.Forms.{Numbered, put_before, numbered, rule_line, parts_lines, head_line, box_lines}
use Rattle.fa_written.specs.Forms.{file_lines, port_count, HasPorts, IsForm, IsLive, Closes}
use Rattle.fa_written.specs.inner.Moves.{◌>>=◌, guard, rule_behind, opened, reading, part_of}
use Rattle.fa_written.specs.inner.Moves.{moved_by, moved, run}
use Rattle.fa_written.proofs.MoveLemmas.{bound, rule_put, runs, end_lines, box_of}

-- Lines with their numbers, taken one after another

abbrev pub go : Reading → List Numbered → Option Reading
go s [] = Some s
go s (x ∷ xs) = moved s x.0 x.1 >>= λ t. go t xs

skips_by : (bs : List BoxDraft) (o : Option OpenBox) (n : ℕ) → moved_by bs o n Skipped ≡ Some (reading bs o)
skips_by bs None n = refl
skips_by bs (Some b) n = refl

skips : (s : Reading) (n : ℕ) → moved s n Skipped ≡ Some s
unfolding moved
skips s n = skips_by s.boxes s.current n

abbrev GoesAs : List Line → Type 0
GoesAs ls = (s : Reading) (n : ℕ) → run s n ls ≡ go s (numbered n ls)

go_by : (o : Option Reading) (ls : List Line) (n : ℕ) → GoesAs ls
    → (o >>= λ t. run t n ls) ≡ (o >>= λ t. go t (numbered n ls))
go_by None ls n have = refl
go_by (Some t) ls n have = have t n

pub run_go : (ls : List Line) (s : Reading) (n : ℕ) → run s n ls ≡ go s (numbered n ls)
run_go [] s n = refl
run_go (Skipped ∷ ls) s n = ap (λ o. o >>= λ t. run t (suc n) ls) (skips s n) ∙ run_go ls s (suc n)
run_go (Opens name input output ∷ ls) s n =
    go_by (moved s n (Opens name input output)) ls (suc n) (λ t k. run_go ls t k)
run_go (Root r qs ∷ ls) s n = go_by (moved s n (Root r qs)) ls (suc n) (λ t k. run_go ls t k)
run_go (Rule q term ∷ ls) s n = go_by (moved s n (Rule q term)) ls (suc n) (λ t k. run_go ls t k)
run_go (Ends ∷ ls) s n = go_by (moved s n Ends) ls (suc n) (λ t k. run_go ls t k)

go_split : (xs ys : List Numbered) (s t : Reading) → go s (xs ++ ys) ≡ Some t
    → (u : Reading) × (go s xs ≡ Some u) × (go u ys ≡ Some t)
go_split [] ys s t e = (s, refl, e)
go_split (x ∷ xs) ys s t e =
    let a = bound (moved s x.0 x.1) (λ u. go u (xs ++ ys)) t e in
    let b = go_split xs ys a.0 t a.2 in
    (b.0, ap (λ o. o >>= λ u. go u xs) a.1 ∙ b.1, b.2)

pub run_split : (ls ms : List Line) (s : Reading) (n : ℕ) (t : Reading) → run s n (ls ++ ms) ≡ Some t
    → (u : Reading) × (run s n ls ≡ Some u) × (run u (n + length ls) ms ≡ Some t)
run_split [] ms s n t e = (s, refl, ap (λ k. run s k ms) (let f : n + 0 ≡ n = omega arith in f) ∙ e)
run_split (l ∷ ls) ms s n t e =
    let a = bound (moved s n l) (λ u. run u (suc n) (ls ++ ms)) t e in
    let b = run_split ls ms a.0 (suc n) t a.2 in (
      b.0,
      ap (λ o. o >>= λ u. run u (suc n) ls) a.1 ∙ b.1,
      ap (λ k. run b.0 k ms) (let f : n + suc (length ls) ≡ suc n + length ls = omega arith in f) ∙ b.2,
    )

pub run_joined : (ls ms : List Line) (s u : Reading) (n : ℕ) → run s n ls ≡ Some u
    → run s n (ls ++ ms) ≡ run u (n + length ls) ms
run_joined [] ms s u n e =
    ap (λ x. run x n ms) (same_Some s u e) ∙ ap (λ k. run u k ms) (let f : n ≡ n + 0 = omega arith in f)
run_joined (l ∷ ls) ms s u n e =
    let a = bound (moved s n l) (λ u. run u (suc n) ls) u e in
    ap (λ o. o >>= λ u. run u (suc n) (ls ++ ms)) a.1 ∙ run_joined ls ms a.0 u (suc n) a.2
    ∙ ap (λ k. run u k ms) (let f : suc n + length ls ≡ n + suc (length ls) = omega arith in f)

-- The lines of a box

abbrev In : List BoxDraft → Head → List PartDraft → Reading
In bs h ps = reading bs (Some (opened h ps))

with_rules : List RuleDraft → PartDraft → PartDraft
with_rules rs p = record { line = p.line; roots = p.roots; rules = p.rules ++ rs }

rule_goes : (bs : List BoxDraft) (h : Head) (ps : List PartDraft) (p : PartDraft) (r : RuleDraft)
    → moved (In bs h (ps ++ p ∷ [])) r.line (Rule r.state r.term) ≡ Some (In bs h (ps ++ rule_behind r p ∷ []))
unfolding moved
rule_goes bs h ps p r = ap (λ o. o >>= λ ps. Some (In bs h ps)) (rule_put ps p r)

rules_go : (rs : List RuleDraft) (bs : List BoxDraft) (h : Head) (ps : List PartDraft) (p : PartDraft)
    (xs : List Numbered)
    → go (In bs h (ps ++ p ∷ [])) (map rule_line rs ++ xs) ≡ go (In bs h (ps ++ with_rules rs p ∷ [])) xs
unfolding with_rules
rules_go [] bs h ps p xs =
    ap (λ rs. go (In bs h (ps ++ record { line = p.line; roots = p.roots; rules = rs } ∷ [])) xs)
    (sym (append-nil p.rules))
rules_go (r ∷ rs) bs h ps p xs =
    ap (λ o. o >>= λ t. go t (map rule_line rs ++ xs)) (rule_goes bs h ps p r)
    ∙ rules_go rs bs h ps (rule_behind r p) xs
    ∙ ap (λ rs. go (In bs h (ps ++ record { line = p.line; roots = p.roots; rules = rs } ∷ [])) xs)
    (append_assoc p.rules (r ∷ []) rs)

root_goes : (bs : List BoxDraft) (h : Head) (ps : List PartDraft) (n : ℕ) (qs : List ℕ)
    → moved (In bs h ps) n (Root (length ps) qs) ≡ Some (In bs h (ps ++ part_of n qs ∷ []))
unfolding moved
root_goes bs h ps n qs = ap (λ b. guard b (In bs h (ps ++ part_of n qs ∷ []))) (eq-eqb (length ps) (length ps) refl)

parts_go : (qs : List PartDraft) (bs : List BoxDraft) (h : Head) (ps : List PartDraft) (xs : List Numbered)
    → go (In bs h ps) (parts_lines (length ps) qs ++ xs) ≡ go (In bs h (ps ++ qs)) xs
unfolding with_rules
parts_go [] bs h ps xs = ap (λ ps. go (In bs h ps) xs) (sym (append-nil ps))
parts_go (q ∷ qs) bs h ps xs =
    let rules = map rule_line q.rules in
    let others = parts_lines (suc (length ps)) qs in
    let same : length (ps ++ q ∷ []) ≡ suc (length ps) = omega (arith, length-append ps (q ∷ [])) in
    ap (λ t. t >>= λ u. go u ((rules ++ others) ++ xs)) (root_goes bs h ps q.line q.roots)
    ∙ ap (λ ys. go (In bs h (ps ++ part_of q.line q.roots ∷ [])) ys) (append_assoc rules others xs)
    ∙ rules_go q.rules bs h ps (part_of q.line q.roots) (others ++ xs)
    ∙ ap (λ k. go (In bs h (ps ++ q ∷ [])) (parts_lines k qs ++ xs)) (sym same)
    ∙ parts_go qs bs h (ps ++ q ∷ []) xs
    ∙ ap (λ ps. go (In bs h ps) xs) (append_assoc ps (q ∷ []) qs)

tell_most : (n m : ℕ) → n ≤ m → nat_le n m ≡ true
tell_most n m e = grind (arith, nat_tests)

end_goes : (bs : List BoxDraft) (b : BoxDraft) → HasPorts b
    → moved (In bs b.head b.parts) b.end Ends ≡ Some (reading (bs ++ b ∷ []) None)
unfolding moved
end_goes bs b has =
    ap (λ c. guard c (reading (bs ++ b ∷ []) None)) (tell_most (port_count b.head.output) (length b.parts) has)

head_goes : (bs : List BoxDraft) (h : Head)
    → moved (reading bs None) h.line (Opens h.name h.input h.output) ≡ Some (In bs h [])
unfolding moved
head_goes bs h = refl

box_goes : (bs : List BoxDraft) (b : BoxDraft) (xs : List Numbered) → HasPorts b
    → go (reading bs None) (box_lines b ++ xs) ≡ go (reading (bs ++ b ∷ []) None) xs
box_goes bs b xs has =
    let parts = parts_lines 0 b.parts in
    ap (λ o. o >>= λ t. go t ((parts ++ (b.end, Ends) ∷ []) ++ xs)) (head_goes bs b.head)
    ∙ ap (go (In bs b.head [])) (append_assoc parts ((b.end, Ends) ∷ []) xs)
    ∙ parts_go b.parts bs b.head [] ((b.end, Ends) ∷ xs)
    ∙ ap (λ o. o >>= λ t. go t xs) (end_goes bs b has)

files_go : (cs bs : List BoxDraft) (xs : List Numbered) → Every HasPorts cs
    → go (reading bs None) (file_lines cs ++ xs) ≡ go (reading (bs ++ cs) None) xs
files_go [] bs xs has = ap (λ bs. go (reading bs None) xs) (sym (append-nil bs))
files_go (c ∷ cs) bs xs has =
    ap (go (reading bs None)) (append_assoc (box_lines c) (file_lines cs) xs)
    ∙ box_goes bs c (file_lines cs ++ xs) has.0 ∙ files_go cs (bs ++ c ∷ []) xs has.1
    ∙ ap (λ bs. go (reading bs None) xs) (append_assoc bs (c ∷ []) cs)

file_goes : (cs : List BoxDraft) → Every HasPorts cs → go (reading [] None) (file_lines cs) ≡ Some (reading cs None)
file_goes cs has = ap (go (reading [] None)) (sym (append-nil (file_lines cs))) ∙ files_go cs [] [] has

-- the lines of a file of boxes are taken
pub form_runs : (lines : List Line) (bs : List BoxDraft) → IsForm lines bs
    → run (reading [] None) 1 lines ≡ Some (reading bs None)
form_runs lines bs form =
    run_go lines (reading [] None) 1 ∙ ap (go (reading [] None)) form.0 ∙ file_goes bs form.1

-- Lines behind which an end closes a box

put_behind : (n : ℕ) (l : Line) (xs ys : List Numbered) → put_before n l (xs ++ ys) ≡ put_before n l xs ++ ys
put_behind n Skipped xs ys = refl
put_behind n (Opens name input output) xs ys = refl
put_behind n (Root r qs) xs ys = refl
put_behind n (Rule q term) xs ys = refl
put_behind n Ends xs ys = refl

end_behind : (ls : List Line) (n : ℕ) → numbered n (ls ++ Ends ∷ []) ≡ numbered n ls ++ (n + length ls, Ends) ∷ []
end_behind [] n = ap (λ k. (k, Ends) ∷ []) (let f : n ≡ n + 0 = omega arith in f)
end_behind (l ∷ ls) n =
    ap (put_before n l) (end_behind ls (suc n))
    ∙ put_behind n l (numbered (suc n) ls) ((suc n + length ls, Ends) ∷ [])
    ∙ ap (λ k. put_before n l (numbered (suc n) ls) ++ (k, Ends) ∷ [])
    (let f : suc n + length ls ≡ n + suc (length ls) = omega arith in f)

abbrev head_or : {X : Type 0} → X → List X → X
head_or d [] = d
head_or d (x ∷ xs) = x

abbrev tail_of : {X : Type 0} → List X → List X
tail_of [] = []
tail_of (x ∷ xs) = xs

nothing_not : {X : Type 0} (x : X) (xs ys : List X) → [] ≡ xs ++ x ∷ ys → ⊥
nothing_not x xs ys e =
    let h : 0 ≡ length (xs ++ x ∷ ys) = ap length e in omega (arith, h, length-append xs (x ∷ ys))

-- lists are alike in front of their last items
fronts : {X : Type 0} (xs ys : List X) (x y : X) → xs ++ x ∷ [] ≡ ys ++ y ∷ [] → xs ≡ ys
fronts [] [] x y e = refl
fronts [] (b ∷ ys) x y e = absurd (nothing_not y ys [] (ap tail_of e))
fronts (a ∷ xs) [] x y e = absurd (nothing_not x xs [] (sym (ap tail_of e)))
fronts (a ∷ xs) (b ∷ ys) x y e =
    ap (λ z. z ∷ xs) (ap (head_or a) e) ∙ ap (λ zs. b ∷ zs) (fronts xs ys x y (ap tail_of e))

-- what is read before a line that closes a box
pub closes_reads : (lines : List Line) (bs : List BoxDraft) (b : BoxDraft) → Closes lines bs b
    → run (reading [] None) 1 lines ≡ Some (In bs b.head b.parts)
closes_reads lines bs b c =
    let inner = head_line b.head ∷ parts_lines 0 b.parts in
    let before = fronts (numbered 1 lines) (file_lines bs ++ inner) (1 + length lines, Ends) (b.end, Ends)
    (sym (end_behind lines 1) ∙ c.0 ∙ end_lines bs (opened b.head b.parts) b.end) in
    run_go lines (reading [] None) 1 ∙ ap (go (reading [] None)) before ∙ files_go bs [] inner c.1
    ∙ ap (λ o. o >>= λ t. go t (parts_lines 0 b.parts)) (head_goes bs b.head)
    ∙ ap (go (In bs b.head [])) (sym (append-nil (parts_lines 0 b.parts)))
    ∙ parts_go b.parts bs b.head [] []

-- a box that is open can be closed, whether or not it has its ports
pub open_closes : (lines : List Line) (bs : List BoxDraft) (b : OpenBox)
    → run (reading [] None) 1 lines ≡ Some (reading bs (Some b)) → Closes lines bs (box_of b (1 + length lines))
open_closes lines bs b e =
    let r = runs lines (reading [] None) 1 (reading bs (Some b)) e in (
      end_behind lines 1 ∙ ap (λ xs. xs ++ (1 + length lines, Ends) ∷ []) (sym r.lines)
          ∙ sym (end_lines bs b (1 + length lines)),
      r.ports tt,
    )

-- lines that begin a file of boxes are taken
pub live_runs : (lines : List Line) → IsLive lines → (u : Reading) × (run (reading [] None) 1 lines ≡ Some u)
live_runs lines live =
    let a = run_split lines live.0 (reading [] None) 1 (reading live.1 None) (form_runs (lines ++ live.0) live.1 live.2)
    in
    (a.0, a.1)

-- what is taken, and no box is left open, is a file of boxes
pub run_form : (lines : List Line) (bs : List BoxDraft) → run (reading [] None) 1 lines ≡ Some (reading bs None)
    → IsForm lines bs
run_form lines bs e =
    let r = runs lines (reading [] None) 1 (reading bs None) e in
    (sym (sym (append-nil (file_lines bs)) ∙ r.lines), r.ports tt)

-- Every reading can be ended

abbrev CanEnd : Reading → ℕ → Type 0
CanEnd s n = (ls : List Line) × (bs : List BoxDraft) × (run s n ls ≡ Some (reading bs None))

end_now : (bs : List BoxDraft) (h : Head) (ps : List PartDraft) (n : ℕ) → port_count h.output ≤ length ps
    → CanEnd (In bs h ps) n
end_now bs h ps n has =
    let b : BoxDraft = record { head = h; parts = ps; end = n } in
    (Ends ∷ [], bs ++ b ∷ [], ap (λ o. o >>= λ t. run t (suc n) []) (end_goes bs b has))

can_end : (k : ℕ) (bs : List BoxDraft) (h : Head) (ps : List PartDraft) (n : ℕ) → port_count h.output ≤ length ps + k
    → CanEnd (In bs h ps) n
can_end zero bs h ps n has = end_now bs h ps n (omega (arith, has))
can_end (suc k) bs h ps n has =
    let p = part_of n (0 ∷ []) in
    let a = can_end k bs h (ps ++ p ∷ []) (suc n) (omega (arith, has, length-append ps (p ∷ []))) in
    (Root (length ps) (0 ∷ []) ∷ a.0, a.1, ap (λ o. o >>= λ t. run t (suc n) a.0) (root_goes bs h ps n (0 ∷ [])) ∙ a.2)

can_end_by : (bs : List BoxDraft) (o : Option OpenBox) (n : ℕ) → CanEnd (reading bs o) n
can_end_by bs None n = ([], bs, refl)
can_end_by bs (Some b) n = can_end (port_count b.head.output) bs b.head b.parts n (omega arith)

-- what is taken begins a file of boxes
pub run_live : (lines : List Line) (u : Reading) → run (reading [] None) 1 lines ≡ Some u → IsLive lines
run_live lines u e =
    let a = can_end_by u.boxes u.current (1 + length lines) in
    (a.0, a.1, run_form (lines ++ a.0) a.1 (run_joined lines a.0 (reading [] None) u 1 e ∙ a.2))

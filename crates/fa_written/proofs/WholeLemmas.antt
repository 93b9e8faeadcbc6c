-- A text says one thing: its boxes, or the first line that is in the way.
use Rattle.std.proofs.Common.{arith, ℕ, zero, suc, List, [], ◌∷◌, ◌++◌, ◌≡◌, ◌≤◌, ◌<◌, ◌+◌, ◌⊎◌, inl, inr}
use Rattle.std.proofs.Common.{
  refl,
  sym,
  ap,
  ◌∙◌,
  subst,
  Some,
  None,
  length,
  append_assoc,
  append-nil,
  length-append,
  take,
  drop,
}
use Rattle.std.proofs.Common.{Result, Ok, Err, IfOk, IfErr}
use Rattle.std.proofs.lemmas.Bool.{cases_lt}
use Rattle.std.proofs.lemmas.Option.{same_Some}
use Rattle.fore_base.specs.Lists.{Every, Paired}
use Rattle.fa_lines.specs.Pieces.{lines_of}
use Rattle.fa_lines.specs.Says.{Says}
use Rattle.fa_lines.specs.declared.line.Line.{Line}
use Rattle.fa_lines.specs.declared.line.Line.TheVariants.{Ends}
use Rattle.fa_written.specs.declared.draft.BoxDraft.{BoxDraft}
use Rattle.fa_written.specs.declared.draft.Reading.{Reading}
use Rattle.fa_written.specs.Drafts.{missing, RefersWithin, Begins, IsText, IsDead, ClosesWithin}
use Rattle.fa_written.specs.Drafts.{IsBadLine, IsMissingRef, IsFirstBad}
use Rattle.fa_written.specs.Faults.{IsFault, Answers}
use Rattle.fa_written.specs.declared.fault.DraftFault.{DraftFault}
use Rattle.fa_written.specs.declared.fault.DraftFault.TheVariants.{B1, Memory}
use Rattle.fa_written.specs.Forms.{IsForm, IsLive, Closes}
use Rattle.fa_written.specs.inner.Moves.{opened, reading, moved, run}
use Rattle.fa_written.specs.inner.Reached.{first_of, open_missing}
use Rattle.fa_written.proofs.MoveLemmas.{bound, box_of}
use Rattle.fa_written.proofs.Forward.{form_runs, live_runs, run_form, run_live, run_joined, run_split, closes_reads}
use Rattle.fa_written.proofs.ReachLemmas.{OneLine, end_taken, grew, every_front}

-- Lists

paired_alike : OneLine → (xs : List (List ℕ)) (ps qs : List Line) → Paired Says xs ps → Paired Says xs qs → ps ≡ qs
paired_alike one [] [] [] p q = refl
paired_alike one [] [] (b ∷ qs) p q = absurd q
paired_alike one [] (a ∷ ps) qs p q = absurd p
paired_alike one (x ∷ xs) [] qs p q = absurd p
paired_alike one (x ∷ xs) (a ∷ ps) [] p q = absurd q
paired_alike one (x ∷ xs) (a ∷ ps) (b ∷ qs) p q =
    ap (λ l. l ∷ ps) (one x a b p.0 q.0) ∙ ap (λ ls. b ∷ ls) (paired_alike one xs ps qs p.1 q.1)

-- the lines of the second beginning that stand behind those of the first
abbrev pub Behind : List (List ℕ) → List Line → List Line → Type 0
Behind xs ps qs = (rs : List Line) × (qs ≡ ps ++ rs) × Paired Says (take (length rs) (drop (length ps) xs)) rs

longer_by : OneLine → (xs : List (List ℕ)) (ps qs : List Line) → Paired Says (take (length ps) xs) ps
    → Paired Says (take (length qs) xs) qs → length ps ≤ length qs → Behind xs ps qs
longer_by one xs [] qs p q le = (qs, refl, q)
longer_by one xs (a ∷ ps) [] p q le = absurd (let no : suc (length ps) ≤ 0 → ⊥ = λ h. omega (arith, h) in no le)
longer_by one [] (a ∷ ps) (b ∷ qs) p q le = absurd p
longer_by one (x ∷ xs) (a ∷ ps) (b ∷ qs) p q le =
    let k = longer_by one xs ps qs p.1 q.1 (let h : length ps ≤ length qs = omega (arith, le) in h) in
    (k.0, ap (λ l. l ∷ qs) (one x b a q.0 p.0) ∙ ap (λ ls. a ∷ ls) k.1, k.2)

fits : (xs : List (List ℕ)) (ps : List Line) → Paired Says (take (length ps) xs) ps → length ps ≤ length xs
fits xs [] p = omega arith
fits [] (a ∷ ps) p = absurd p
fits (x ∷ xs) (a ∷ ps) p = let h = fits xs ps p.1 in omega (arith, h)

begins_whole : (xs : List (List ℕ)) (ps : List Line) → Paired Says xs ps → Paired Says (take (length ps) xs) ps
begins_whole [] [] p = tt
begins_whole [] (a ∷ ps) p = absurd p
begins_whole (x ∷ xs) [] p = absurd p
begins_whole (x ∷ xs) (a ∷ ps) p = (p.0, begins_whole xs ps p.1)

as_long : (xs : List (List ℕ)) (ps : List Line) → Paired Says xs ps → length xs ≡ length ps
as_long [] [] p = refl
as_long [] (a ∷ ps) p = absurd p
as_long (x ∷ xs) [] p = absurd p
as_long (x ∷ xs) (a ∷ ps) p = ap suc (as_long xs ps p.1)

cons_not : {X : Type 0} (x : X) (xs : List X) → [] ≡ x ∷ xs → ⊥
cons_not x xs e = let h : 0 ≡ suc (length xs) = ap length e in omega (arith, h)

every_last : {X : Type 0} (P : X → Type 0) (xs : List X) (x : X) → Every P (xs ++ x ∷ []) → P x
every_last P [] x h = h.0
every_last P (a ∷ xs) x h = every_last P xs x h.1

front_of : {X : Type 0} (xs ys : List X) → take (length xs) (xs ++ ys) ≡ xs
front_of [] ys = refl
front_of (x ∷ xs) ys = ap (λ zs. x ∷ zs) (front_of xs ys)

-- The boxes of lines

boxes_once : (ls : List Line) (bs cs : List BoxDraft) → IsForm ls bs → IsForm ls cs → bs ≡ cs
boxes_once ls bs cs f g =
    ap (λ (s : Reading). s.boxes)
    (same_Some (reading bs None) (reading cs None) (sym (form_runs ls bs f) ∙ form_runs ls cs g))

live_front : (ps rs : List Line) (r : Line) → IsLive (ps ++ r ∷ rs) → IsLive (ps ++ r ∷ [])
live_front ps rs r live = (
  rs ++ live.0,
  live.1,
  subst (λ ls. IsForm ls live.1)
      (ap (λ ls. ls ++ live.0) (sym (append_assoc ps (r ∷ []) rs)) ∙ append_assoc (ps ++ r ∷ []) rs live.0) live.2,
)

form_live : (ls : List Line) (bs : List BoxDraft) → IsForm ls bs → IsLive ls
form_live ls bs f = ([], bs, subst (λ ms. IsForm ms bs) (sym (append-nil ls)) f)

-- no line stands behind a dead beginning
none_behind : (ps : List Line) (ds : List (List ℕ)) (r : Line) (rs : List Line) → IsDead ps ds
    → Paired Says (take (length (r ∷ rs)) ds) (r ∷ rs) → IsLive (ps ++ r ∷ rs) → ⊥
none_behind ps [] r rs dead p live = absurd p
none_behind ps (d ∷ ds) r rs dead p live = dead r p.0 (live_front ps rs r live)

not_within : (ps : List Line) (ds : List (List ℕ)) (rs : List Line) → IsDead ps ds → length ps < length (ps ++ rs)
    → Paired Says (take (length rs) ds) rs → IsLive (ps ++ rs) → ⊥
not_within ps ds [] dead lt p live =
    let e : length (ps ++ []) ≡ length ps = ap length (append-nil ps) in omega (arith, e, lt)
not_within ps ds (r ∷ rs) dead lt p live = none_behind ps ds r rs dead p live

-- a beginning of a file of boxes is not longer than what stands before the bad line
not_longer : OneLine → (text : List ℕ) (n : ℕ) (b : IsBadLine text n) (qs : List Line) → Begins text qs → IsLive qs
    → length b.before < length qs → ⊥
not_longer one text n b qs said live lt =
    let k = longer_by one (lines_of text) b.before qs b.said said (let h : length b.before ≤ length qs =
    omega (arith, lt) in h) in
    not_within b.before (drop (length b.before) (lines_of text)) k.0 b.dead
    (subst (λ ls. length b.before < length ls) k.1 lt) k.2 (subst IsLive k.1 live)

missing_not : (b : BoxDraft) (n : ℕ) (others : List ℕ) → missing b ≡ n ∷ others → RefersWithin b → ⊥
missing_not b n others e none = cons_not n others (sym none ∙ e)

-- A text of boxes has no bad line

pub texts_alike : OneLine → (text : List ℕ) (bs cs : List BoxDraft) → IsText text bs → IsText text cs → bs ≡ cs
texts_alike one text bs cs t u =
    boxes_once t.lines bs cs t.form
    (subst (λ ls. IsForm ls cs) (paired_alike one (lines_of text) u.lines t.lines u.said t.said) u.form)

drop_all : (xs : List (List ℕ)) (k : ℕ) → length xs ≤ k → drop k xs ≡ []
drop_all [] zero h = refl
drop_all [] (suc k) h = refl
drop_all (x ∷ xs) zero h = absurd (let no : suc (length xs) ≤ 0 → ⊥ = λ g. omega (arith, g) in no h)
drop_all (x ∷ xs) (suc k) h = drop_all xs k (let g : length xs ≤ k = omega (arith, h) in g)

none_left : (ps rs : List Line) → length (ps ++ rs) ≤ length ps → rs ≡ []
none_left ps [] h = refl
none_left ps (r ∷ rs) h =
    absurd (let e = length-append ps (r ∷ rs) in
    let no : length (ps ++ r ∷ rs) ≤ length ps → ⊥ = λ g. omega (arith, g, e) in no h)

-- the lines of a text of boxes, cut behind a beginning
abbrev Cut : (text : List ℕ) → List Line → List Line → Type 0
Cut text ps ls = Behind (lines_of text) ps ls

cut : OneLine → (text : List ℕ) (bs : List BoxDraft) (t : IsText text bs) (ps : List Line) → Begins text ps
    → Cut text ps t.lines
cut one text bs t ps said =
    let long = as_long (lines_of text) t.lines t.said in
    let short = fits (lines_of text) ps said in
    longer_by one (lines_of text) ps t.lines said (begins_whole (lines_of text) t.lines t.said)
    (let h : length ps ≤ length t.lines = omega (arith, long, short) in h)

dead_not : (text : List ℕ) (bs : List BoxDraft) (t : IsText text bs) (ps rs : List Line) → t.lines ≡ ps ++ rs
    → IsDead ps (drop (length ps) (lines_of text))
    → Paired Says (take (length rs) (drop (length ps) (lines_of text))) rs → ⊥
dead_not text bs t ps [] e dead p =
    let same : t.lines ≡ ps = e ∙ append-nil ps in
    let long = as_long (lines_of text) t.lines t.said in
    let size = ap length same in
    let none = drop_all (lines_of text) (length ps) (let h : length (lines_of text) ≤ length ps =
    omega (arith, long, size) in h) in
    let last : IsDead ps [] = subst (IsDead ps) none dead in
    last bs (subst (λ ls. IsForm ls bs) same t.form)
dead_not text bs t ps (r ∷ rs) e dead p =
    none_behind ps (drop (length ps) (lines_of text)) r rs dead p (subst IsLive e (form_live t.lines bs t.form))

bad_not : OneLine → (text : List ℕ) (bs : List BoxDraft) (n : ℕ) → IsText text bs → IsBadLine text n → ⊥
bad_not one text bs n t b =
    let k = cut one text bs t b.before b.said in
    dead_not text bs t b.before k.0 k.1 b.dead k.2

-- behind lines that go on with an end, the box that it closes is one of the boxes
closed_boxes : (ps rs : List Line) (bs : List BoxDraft) (last : BoxDraft) (t : Reading) → Closes ps bs last
    → run (reading [] None) 1 ((ps ++ Ends ∷ []) ++ rs) ≡ Some t
    → (n : ℕ) × (new : List BoxDraft) × (t.boxes ≡ (bs ++ box_of (opened last.head last.parts) n ∷ []) ++ new)
    × (run (reading [] None) 1 (ps ++ Ends ∷ [])
    ≡ Some (reading (bs ++ box_of (opened last.head last.parts) n ∷ []) None))
closed_boxes ps rs bs last t c e =
    let b = opened last.head last.parts in
    let n = 1 + length ps in
    let s = reading [] None in
    let a = run_split (ps ++ Ends ∷ []) rs s 1 t e in
    let one : run (reading bs (Some b)) n (Ends ∷ []) ≡ Some a.0 =
    sym (run_joined ps (Ends ∷ []) s (reading bs (Some b)) 1 (closes_reads ps bs last c)) ∙ a.1 in
    let k = bound (moved (reading bs (Some b)) n Ends) (λ u. run u (suc n) []) a.0 one in
    let same : a.0 ≡ reading (bs ++ box_of b n ∷ []) None =
    sym (same_Some k.0 a.0 k.2) ∙ end_taken bs b n k.0 k.1 in
    let more = grew rs a.0 (1 + length (ps ++ Ends ∷ [])) t a.2 in
    (n, more.0, more.1 ∙ ap (λ (u : Reading). u.boxes ++ more.0) same, a.1 ∙ ap Some same)

-- an end that closes a box which refers to a component that it does not have is not taken
not_closed : (ps rs : List Line) (bs : List BoxDraft) (last : BoxDraft) (n : ℕ) (others : List ℕ) (t : Reading)
    → Closes ps bs last → missing last ≡ n ∷ others → Every RefersWithin t.boxes
    → run (reading [] None) 1 ((ps ++ Ends ∷ []) ++ rs) ≡ Some t → ⊥
not_closed ps rs bs last n others t c first refs e =
    let k = closed_boxes ps rs bs last t c e in
    let b = box_of (opened last.head last.parts) k.0 in
    let all = every_front RefersWithin (bs ++ b ∷ []) k.1 (subst (Every RefersWithin) k.2 refs) in
    missing_not last n others first (every_last RefersWithin bs b all)

missing_ref_not : OneLine → (text : List ℕ) (bs : List BoxDraft) (n : ℕ) → IsText text bs → IsMissingRef text n → ⊥
missing_ref_not one text bs n t m =
    let k = cut one text bs t (m.before ++ Ends ∷ []) m.said in
    not_closed m.before k.0 m.boxes m.last n m.others (reading bs None) m.closes m.first t.refs
    (ap (run (reading [] None) 1) (sym k.1) ∙ form_runs t.lines bs t.form)

pub text_not_bad : OneLine → (text : List ℕ) (bs : List BoxDraft) (n : ℕ) → IsText text bs → IsFirstBad text n → ⊥
text_not_bad one text bs n t (inl b) = bad_not one text bs n t b
text_not_bad one text bs n t (inr m) = missing_ref_not one text bs n t m

-- At most one line is the first

two_bad : OneLine → (text : List ℕ) (m n : ℕ) → IsBadLine text m → IsBadLine text n → m ≡ n
two_bad one text m n a b =
    two_bad_by (cases_lt (length a.before) (length b.before)) (cases_lt (length b.before) (length a.before))
  where
    two_bad_by : (length a.before < length b.before) ⊎ (length b.before ≤ length a.before)
        → (length b.before < length a.before) ⊎ (length a.before ≤ length b.before) → m ≡ n
    two_bad_by (inl h) k = absurd (not_longer one text m a b.before b.said b.live h)
    two_bad_by (inr h) (inl k) = absurd (not_longer one text n b a.before a.said a.live k)
    two_bad_by (inr h) (inr k) = omega (arith, h, k, a.place, b.place)

-- the next line says this
abbrev NextSays : List (List ℕ) → Line → Type 0
NextSays [] line = ⊥
NextSays (bytes ∷ rest) line = Says bytes line

begins_split : (xs : List (List ℕ)) (ps : List Line) (l : Line)
    → Paired Says (take (length (ps ++ l ∷ [])) xs) (ps ++ l ∷ [])
    → Paired Says (take (length ps) xs) ps × NextSays (drop (length ps) xs) l
begins_split [] [] l p = absurd p
begins_split [] (a ∷ ps) l p = absurd p
begins_split (x ∷ xs) [] l p = (tt, p.0)
begins_split (x ∷ xs) (a ∷ ps) l p =
    let k = begins_split xs ps l p.1 in ((p.0, k.0), k.1)

-- beginnings of one length are one
begin_alike : OneLine → (xs : List (List ℕ)) (ps qs : List Line) → Paired Says (take (length ps) xs) ps
    → Paired Says (take (length qs) xs) qs → length ps ≤ length qs → length qs ≤ length ps → qs ≡ ps
begin_alike one xs ps qs p q le ge =
    let k = longer_by one xs ps qs p q le in
    let none = none_left ps k.0 (subst (λ ls. length ls ≤ length ps) k.1 ge) in
    k.1 ∙ ap (λ rs. ps ++ rs) none ∙ append-nil ps

closed_here : (pre : List Line) (ds : List (List ℕ)) (bs : List BoxDraft) (last : BoxDraft) → ClosesWithin pre ds
    → NextSays ds Ends → Closes pre bs last → RefersWithin last
closed_here pre [] bs last c next k = absurd next
closed_here pre (d ∷ ds) bs last c next k = c next bs last k

-- the lines in front of the end that closes the box
front_said : (text : List ℕ) (n : ℕ) (b : IsMissingRef text n) → Begins text b.before
front_said text n b = (begins_split (lines_of text) b.before Ends b.said).0

one_longer : (ps : List Line) (k : ℕ) → length ps < k → length (ps ++ Ends ∷ []) ≤ k
one_longer ps k lt = omega (arith, lt, length-append ps (Ends ∷ []))

bad_and_missing : OneLine → (text : List ℕ) (m n : ℕ) → IsBadLine text m → IsMissingRef text n → ⊥
bad_and_missing one text m n a b =
    by (cases_lt (length a.before) (length b.before)) (cases_lt (length b.before) (length a.before))
  where
    open_at : Reading
    open_at = reading b.boxes (Some (opened b.last.head b.last.parts))

    -- the lines before the bad line go on behind the end
    behind_end : length b.before < length a.before → ⊥
    behind_end lt =
        let ps = b.before ++ Ends ∷ [] in
        let k = longer_by one (lines_of text) ps a.before b.said a.said (one_longer b.before (length a.before) lt) in
        let u = live_runs a.before a.live in
        let c = closed_boxes b.before k.0 b.boxes b.last u.0 b.closes (ap (run (reading [] None) 1) (sym k.1) ∙ u.1) in
        let box = box_of (opened b.last.head b.last.parts) c.0 in
        let front : take (length ps) a.before ≡ ps = ap (λ ls. take (length ps) ls) k.1 ∙ front_of ps k.0 in
        let form = run_form ps (b.boxes ++ box ∷ []) c.3 in
        let refs = a.refs (length ps) (b.boxes ++ box
        ∷ []) (subst (λ ls. IsForm ls (b.boxes ++ box ∷ [])) (sym front) form) in
        missing_not b.last n b.others b.first (every_last RefersWithin b.boxes box refs)

    by : (length a.before < length b.before) ⊎ (length b.before ≤ length a.before)
        → (length b.before < length a.before) ⊎ (length a.before ≤ length b.before) → ⊥
    by (inl h) k =
        not_longer one text m a b.before (front_said text n b)
        (run_live b.before open_at (closes_reads b.before b.boxes b.last b.closes)) h
    by (inr h) (inl k) = behind_end k
    by (inr h) (inr k) =
        let same = begin_alike one (lines_of text) b.before a.before (front_said text n b) a.said h k in
        let next = (begins_split (lines_of text) b.before Ends b.said).1 in
        let closed = subst (λ ls. ClosesWithin ls (drop (length ls) (lines_of text))) same a.closed in
        missing_not b.last n b.others b.first
        (closed_here b.before (drop (length b.before) (lines_of text)) b.boxes b.last closed next b.closes)

two_missing : OneLine → (text : List ℕ) (m n : ℕ) → IsMissingRef text m → IsMissingRef text n → m ≡ n
two_missing one text m n a b =
    by (cases_lt (length a.before) (length b.before)) (cases_lt (length b.before) (length a.before))
  where
    -- a box that one end closes before the other
    earlier : (k l : ℕ) (c : IsMissingRef text k) (d : IsMissingRef text l) → length c.before < length d.before → ⊥
    earlier k l c d lt =
        let ps = c.before ++ Ends ∷ [] in
        let e = longer_by one (lines_of text) ps d.before c.said (front_said text l d)
        (one_longer c.before (length d.before) lt) in
        not_closed c.before e.0 c.boxes c.last k c.others (reading d.boxes (Some (opened d.last.head d.last.parts)))
        c.closes c.first d.refs
        (ap (run (reading [] None) 1) (sym e.1) ∙ closes_reads d.before d.boxes d.last d.closes)

    by : (length a.before < length b.before) ⊎ (length b.before ≤ length a.before)
        → (length b.before < length a.before) ⊎ (length a.before ≤ length b.before) → m ≡ n
    by (inl h) k = absurd (earlier m n a b h)
    by (inr h) (inl k) = absurd (earlier n m b a k)
    by (inr h) (inr k) =
        let same = begin_alike one (lines_of text) b.before a.before (front_said text n b) (front_said text m a) h k in
        let s = reading a.boxes (Some (opened a.last.head a.last.parts)) in
        let t = reading b.boxes (Some (opened b.last.head b.last.parts)) in
        let read : s ≡ t =
        same_Some s t (sym (closes_reads a.before a.boxes a.last a.closes) ∙ ap (run (reading [] None) 1) same
        ∙ closes_reads b.before b.boxes b.last b.closes) in
        same_Some m n (sym (ap first_of a.first) ∙ ap (λ (u : Reading). open_missing u.current) read
        ∙ ap first_of b.first)

pub one_first : OneLine → (text : List ℕ) (m n : ℕ) → IsFirstBad text m → IsFirstBad text n → m ≡ n
one_first one text m n (inl a) (inl b) = two_bad one text m n a b
one_first one text m n (inl a) (inr b) = absurd (bad_and_missing one text m n a b)
one_first one text m n (inr a) (inl b) = absurd (bad_and_missing one text n m b a)
one_first one text m n (inr a) (inr b) = two_missing one text m n a b

-- What is answered

pub only_boxes : OneLine → (text : List ℕ) (bs : List BoxDraft) (r : Result (List BoxDraft) DraftFault)
    → IfOk r (IsText text) → IfErr r (IsFault text) → IsText text bs → Answers r (Ok bs)
only_boxes one text bs (Ok cs) ok err t = inl (ap Ok (texts_alike one text cs bs ok t))
only_boxes one text bs (Err (B1 n)) ok err t = absurd (text_not_bad one text bs n t err)
only_boxes one text bs (Err Memory) ok err t = inr refl

pub only_first : OneLine → (text : List ℕ) (n : ℕ) (r : Result (List BoxDraft) DraftFault)
    → IfOk r (IsText text) → IfErr r (IsFault text) → IsFirstBad text n → Answers r (Err (B1 n))
only_first one text n (Ok bs) ok err bad = absurd (text_not_bad one text bs n ok bad)
only_first one text n (Err (B1 m)) ok err bad = inl (ap (λ k. Err (B1 k)) (one_first one text m n err bad))
only_first one text n (Err Memory) ok err bad = inr refl

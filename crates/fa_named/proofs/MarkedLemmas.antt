-- Marks say which states stand in a list.
use Rattle.std.proofs.Common.{arith, ℕ, zero, suc, Bool, true, false, ◌||◌, ◌&&◌, List, [], ◌∷◌, ◌++◌, ◌≡◌, ◌≤◌, ◌<◌}
use Rattle.std.proofs.Common.{true≢false, refl, sym, ap, ◌∙◌, length, replicate, drop, nat_eq, nat_le, cond, not}
use Rattle.std.specs.Prelude.{slice_index_or, slice_set}
use Rattle.std.proofs.lemmas.Bool.{eq-eqb}
use Rattle.std.proofs.lemmas.Bool.Decides.{nat_tests}
use Rattle.std.proofs.lemmas.List.{get_or-set_same, get_or-set_other}
use Rattle.fore_base.specs.Lists.{Every}
use Rattle.fa_core.specs.Ways.{has}
use Rattle.fa_written.specs.declared.draft.RuleDraft.{RuleDraft}
use Rattle.fa_written.specs.declared.draft.PartDraft.{PartDraft}
use Rattle.fa_named.specs.Breaks.{rules_faults, term_faults, part_faults}
use Rattle.fa_named.specs.Insides.{bound_from, below_rules}
use Rattle.fa_named.specs.declared.fault.NameFault.{NameFault}
use Rattle.fa_named.specs.declared.named.Boxes.{Boxes}
use Rattle.fa_named.specs.declared.named.Known.{Known}
use Rattle.fa_named.specs.inner.Marked.{mark_all}

-- Bounds

bound_step : (n q : ℕ) (b : Bool) → nat_le n q ≡ b → (n ≤ cond b (suc q) n) × (q < cond b (suc q) n)
bound_step n q true e = (let h : n ≤ suc q = grind (arith, nat_tests) in h, omega arith)
bound_step n q false e = (omega arith, let h : q < n = grind (arith, nat_tests) in h)

pub bound_least : (n : ℕ) (qs : List ℕ) → n ≤ bound_from n qs
bound_least n [] = omega arith
bound_least n (q ∷ qs) =
    let h = bound_step n q (nat_le n q) refl in
    let k = bound_least (cond (nat_le n q) (suc q) n) qs in
    omega (arith, h.0, k)

pub bound_above : (n : ℕ) (qs : List ℕ) → Every (λ q. q < bound_from n qs) qs
bound_above n [] = tt
bound_above n (q ∷ qs) =
    let h = bound_step n q (nat_le n q) refl in
    let k = bound_least (cond (nat_le n q) (suc q) n) qs in
    (omega (arith, h.1, k), bound_above (cond (nat_le n q) (suc q) n) qs)

-- Marks

set_length : (marks : List Bool) (x : ℕ) → length (slice_set marks x true) ≡ length marks
set_length [] zero = refl
set_length [] (suc x) = refl
set_length (m ∷ marks) zero = refl
set_length (m ∷ marks) (suc x) = ap suc (set_length marks x)

one_marked : (marks : List Bool) (x q : ℕ) → x < length marks
    → slice_index_or (slice_set marks x true) q false ≡ (nat_eq q x || slice_index_or marks q false)
one_marked marks x q h = by (nat_eq q x) refl
  where
    by : (b : Bool) → nat_eq q x ≡ b
        → slice_index_or (slice_set marks x true) q false ≡ (nat_eq q x || slice_index_or marks q false)
    by true e =
        let same : q ≡ x = grind (arith, nat_tests) in
        ap (λ k. slice_index_or (slice_set marks x true) k false) same ∙ get_or-set_same marks x true false h
        ∙ ap (λ c. c || slice_index_or marks q false) (sym e)
    by false e =
        get_or-set_other marks x q true false (λ same. true≢false (sym (eq-eqb q x same) ∙ e))
        ∙ ap (λ c. c || slice_index_or marks q false) (sym e)

swap : (a b c : Bool) → ((a || b) || c) ≡ (b || (a || c))
swap true true c = refl
swap true false c = refl
swap false true c = refl
swap false false c = refl

alike_or : (a b : Bool) → (a || b) ≡ (b || a)
alike_or true true = refl
alike_or true false = refl
alike_or false true = refl
alike_or false false = refl

abbrev pub Within : List Bool → List ℕ → Type 0
Within marks qs = Every (λ q. q < length marks) qs

all_marked : (marks : List Bool) (qs : List ℕ) (q : ℕ) (n : ℕ) → length marks ≡ n → Every (λ q. q < n) qs
    → slice_index_or (mark_all marks qs) q false ≡ (slice_index_or marks q false || has q qs)
all_marked marks [] q n size h = alike_or false (slice_index_or marks q false) ∙ refl
all_marked marks (x ∷ qs) q n size h =
    let within : x < length marks = omega (arith, h.0, size) in
    all_marked (slice_set marks x true) qs q n (set_length marks x ∙ size) h.1
    ∙ ap (λ b. b || has q qs) (one_marked marks x q within)
    ∙ swap (nat_eq q x) (slice_index_or marks q false) (has q qs)

none_marked : (n q : ℕ) → slice_index_or (replicate n false) q false ≡ false
none_marked zero zero = refl
none_marked zero (suc q) = refl
none_marked (suc n) zero = refl
none_marked (suc n) (suc q) = none_marked n q

as_many : (n : ℕ) → length (replicate n false) ≡ n
as_many zero = refl
as_many (suc n) = ap suc (as_many n)

pub marks_say : (qs : List ℕ) (q : ℕ)
    → slice_index_or (mark_all (replicate (bound_from 0 qs) false) qs) q false ≡ has q qs
marks_say qs q =
    let n = bound_from 0 qs in
    all_marked (replicate n false) qs q n (as_many n) (bound_above 0 qs)
    ∙ ap (λ b. b || has q qs) (none_marked n q)

pub marked_by : (qs : List ℕ) (marks : List Bool) → mark_all (replicate (bound_from 0 qs) false) qs ≡ marks → (q : ℕ)
    → slice_index_or marks q false ≡ has q qs
marked_by qs marks e q = ap (λ m. slice_index_or m q false) (sym e) ∙ marks_say qs q

drop_end : (qs : List ℕ) (i : ℕ) → length qs ≤ i → drop i qs ≡ []
drop_end [] zero h = refl
drop_end [] (suc i) h = refl
drop_end (q ∷ qs) zero h = absurd (let no : suc (length qs) ≤ 0 → ⊥ = λ g. omega (arith, g) in no h)
drop_end (q ∷ qs) (suc i) h = drop_end qs i (let g : length qs ≤ i = omega (arith, h) in g)

pub marked_end : (qs : List ℕ) (marks : List Bool) (i : ℕ) → length qs ≤ i
    → mark_all (replicate (bound_from 0 qs) false) qs ≡ mark_all marks (drop i qs) → (q : ℕ)
    → slice_index_or marks q false ≡ has q qs
marked_end qs marks i h e = marked_by qs marks (e ∙ ap (mark_all marks) (drop_end qs i h))

-- Faults by marks are those by lists

pub rules_alike : (known : Known) (boxes : Boxes) (f f' g g' : ℕ → Bool) (rs : List RuleDraft)
    → ((q : ℕ) → f q ≡ f' q)
    → ((q : ℕ) → g q ≡ g' q) → rules_faults known boxes f g rs ≡ rules_faults known boxes f' g' rs
rules_alike known boxes f f' g g' [] e h = refl
rules_alike known boxes f f' g g' (r ∷ rs) e h =
    let others = rules_faults known boxes f g rs in
    ap (λ t. term_faults r.line known boxes t (not t || g r.state) r.term ++ others) (e r.state)
    ∙ ap (λ b. term_faults r.line known boxes (f' r.state) (not (f' r.state) || b) r.term ++ others) (h r.state)
    ∙ ap (λ xs. term_faults r.line known boxes (f' r.state) (not (f' r.state) || g' r.state) r.term ++ xs)
    (rules_alike known boxes f f' g g' rs e h)

pub part_by : (known : Known) (boxes : Boxes) (port : Bool) (p : PartDraft) (roots below : List Bool)
    → ((q : ℕ) → slice_index_or roots q false ≡ has q p.roots)
    → ((q : ℕ) → slice_index_or below q false ≡ has q (below_rules p.rules))
    → rules_faults known boxes (λ q. port && slice_index_or roots q false) (λ q. slice_index_or below q false) p.rules
    ≡ part_faults known boxes port p
part_by known boxes port p roots below e h =
    rules_alike known boxes (λ q. port && slice_index_or roots q false) (λ q. port && has q p.roots)
    (λ q. slice_index_or below q false) (λ q. has q (below_rules p.rules)) p.rules (λ q. ap (λ b. port && b) (e q)) h

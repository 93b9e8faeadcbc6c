-- Words ask one thing at most.
use Rattle.std.proofs.Common.{
  arith,
  ℕ,
  List,
  [],
  Option,
  Some,
  None,
  ◌≡◌,
  ◌∙◌,
  ◌<◌,
  ◌^◌,
  ap,
  sym,
  codes,
  option_map,
  slice_index,
  refl,
}
use Rattle.clap.specs.Words.{Text, subcommand_of, first_of}
use Rattle.c_types.specs.declared.mode.MallocMode.{MallocMode}
use Rattle.c_types.specs.declared.mode.MallocMode.TheVariants.{Always, MayFail}
use Rattle.fore_words.specs.CommandLine.{the_app}
use Rattle.fore_words.specs.Values.{IsNumber, IsChoices, IsKind, IsMode, Reads, IsOption}
use Rattle.fore_words.specs.Words.{IsCommand, given_in, AreSettings, IsAsked}
use Rattle.fore_words.specs.declared.asked.TheConstants.{
  HEIGHT,
  MOST_HEIGHT,
  BUDGET,
  MOST_BUDGET,
  JOBS,
  MOST_JOBS,
  RUN_STEPS,
  MOST_PHASES,
}
use Rattle.fore_words.specs.declared.asked.Settings.{Settings}
use Rattle.fore_words.specs.declared.asked.Kind.{Kind}
use Rattle.fore_words.specs.declared.asked.Kind.TheVariants.{ListPhases, DllPhases, TreePhases}
use Rattle.fore_words.specs.declared.asked.Asked.{Asked}
use Rattle.fore_words.specs.declared.asked.Asked.TheVariants.{Verify, Run, Gen}
use Rattle.fore_words.proofs.Numbers.{number_is}

-- Values

one_number : (most : ℕ) → most < 2 ^ 64 → (text : List ℕ) (n m : ℕ) → IsNumber most text n → IsNumber most text m
    → n ≡ m
one_number most small text n m p q = number_is most text n small p ∙ sym (number_is most text m small q)

one_list : (text a b : List ℕ) → IsChoices text a → IsChoices text b → a ≡ b
one_list text a b p q = p.are ∙ sym q.are

list_is_not_dll : codes "list" ≡ codes "dll" → ⊥
list_is_not_dll e = omega (arith, ap (λ t. slice_index t 0) e)

list_is_not_tree : codes "list" ≡ codes "tree" → ⊥
list_is_not_tree e = omega (arith, ap (λ t. slice_index t 0) e)

dll_is_not_tree : codes "dll" ≡ codes "tree" → ⊥
dll_is_not_tree e = omega (arith, ap (λ t. slice_index t 0) e)

one_kind : (text : List ℕ) (a b : Kind) → IsKind text a → IsKind text b → a ≡ b
one_kind text ListPhases ListPhases p q = refl
one_kind text ListPhases DllPhases p q = absurd (list_is_not_dll (sym p ∙ q))
one_kind text ListPhases TreePhases p q = absurd (list_is_not_tree (sym p ∙ q))
one_kind text DllPhases ListPhases p q = absurd (list_is_not_dll (sym q ∙ p))
one_kind text DllPhases DllPhases p q = refl
one_kind text DllPhases TreePhases p q = absurd (dll_is_not_tree (sym p ∙ q))
one_kind text TreePhases ListPhases p q = absurd (list_is_not_tree (sym q ∙ p))
one_kind text TreePhases DllPhases p q = absurd (dll_is_not_tree (sym q ∙ p))
one_kind text TreePhases TreePhases p q = refl

one_mode : (found : Option (List ℕ)) (a b : MallocMode) → IsMode found a → IsMode found b → a ≡ b
one_mode found Always Always p q = refl
one_mode found Always MayFail p q = absurd (p q)
one_mode found MayFail Always p q = absurd (q p)
one_mode found MayFail MayFail p q = refl

module _ {V : Type 0} (IsValue : List ℕ → V → Type 0)
    (one : (text : List ℕ) (a b : V) → IsValue text a → IsValue text b → a ≡ b) where
  one_option : (default : V) (text : Option (List ℕ)) (a b : V) → IsOption IsValue default text a
      → IsOption IsValue default text b → a ≡ b
  one_option default None a b p q = p ∙ sym q
  one_option default (Some text) a b p q = one text a b p q

  one_read : (text : Option (List ℕ)) (a b : V) → Reads IsValue text a → Reads IsValue text b → a ≡ b
  one_read None a b p q = elim p [ ]
  one_read (Some text) a b p q = one text a b p q

-- What was given

one_setting : (most default : ℕ) → most < 2 ^ 64 → (text : Option (List ℕ)) (n m : ℕ)
    → IsOption (IsNumber most) default text n → IsOption (IsNumber most) default text m → n ≡ m
one_setting most default small = one_option (IsNumber most) (one_number most small) default

module _ (words : List Text) where
  same_settings : (s t : Settings) → s.height ≡ t.height → s.budget ≡ t.budget → s.jobs ≡ t.jobs
      → s.malloc ≡ t.malloc → s ≡ t
  same_settings s t height budget jobs malloc =
      ap (λ n. record { height = n; budget = s.budget; jobs = s.jobs; malloc = s.malloc }) height
      ∙ ap (λ n. record { height = t.height; budget = n; jobs = s.jobs; malloc = s.malloc }) budget
      ∙ ap (λ n. record { height = t.height; budget = t.budget; jobs = n; malloc = s.malloc }) jobs
      ∙ ap (λ m. record { height = t.height; budget = t.budget; jobs = t.jobs; malloc = m }) malloc

  one_way : (s t : Settings) → AreSettings (given_in words) s → AreSettings (given_in words) t → s ≡ t
  one_way s t p q =
      same_settings s t
      (one_setting MOST_HEIGHT HEIGHT (omega arith) (first_of (codes "height") (given_in words)) s.height t.height
      p.height q.height)
      (one_setting MOST_BUDGET BUDGET (omega arith) (first_of (codes "steps") (given_in words)) s.budget t.budget
      p.budget q.budget)
      (one_setting MOST_JOBS JOBS (omega arith) (first_of (codes "jobs") (given_in words)) s.jobs t.jobs p.jobs q.jobs)
      (one_mode (first_of (codes "malloc-null") (given_in words)) s.malloc t.malloc p.malloc q.malloc)

  same_path : (found : Option Text) (a b : Text) → found ≡ Some a → found ≡ Some b → a ≡ b
  same_path found a b e f = cc (e, f)

  same_verify : (a b : Text) (m n : Option Text) (s t : Settings) → a ≡ b → m ≡ n → s ≡ t → Verify a m s ≡ Verify b n t
  same_verify a b m n s t e f g = cc (e, f, g)

  same_run : (a b : Text) (m n : List ℕ) (s t : ℕ) (x y : MallocMode) → a ≡ b → m ≡ n → s ≡ t → x ≡ y
      → Run a m s x ≡ Run b n t y
  same_run a b m n s t x y e f g h = cc (e, f, g, h)

  same_gen : (a b : Kind) (m n : ℕ) → a ≡ b → m ≡ n → Gen a m ≡ Gen b n
  same_gen a b m n e f = cc (e, f)

  -- Names of commands

  same_command : (a b : Text) → IsCommand words a → IsCommand words b → a ≡ b
  same_command a b p q =
      same_path (option_map (λ command. command.0) (subcommand_of the_app words)) a b p.named q.named

  no_verify_and_run : IsCommand words (codes "verify") → IsCommand words (codes "run") → ⊥
  no_verify_and_run p q =
      let e = same_command (codes "verify") (codes "run") p q in omega (arith, ap (λ t. slice_index t 0) e)

  no_verify_and_gen : IsCommand words (codes "verify") → IsCommand words (codes "gen") → ⊥
  no_verify_and_gen p q =
      let e = same_command (codes "verify") (codes "gen") p q in omega (arith, ap (λ t. slice_index t 0) e)

  no_run_and_gen : IsCommand words (codes "run") → IsCommand words (codes "gen") → ⊥
  no_run_and_gen p q =
      let e = same_command (codes "run") (codes "gen") p q in omega (arith, ap (λ t. slice_index t 0) e)

  pub one_thing : (a b : Asked) → IsAsked words a → IsAsked words b → a ≡ b
  one_thing (Verify a m s) (Verify b n t) p q =
      same_verify a b m n s t (same_path (first_of (codes "FILE") (given_in words)) a b p.1.file q.1.file)
      (sym p.1.box_file ∙ q.1.box_file) (one_way s t p.1.how q.1.how)
  one_thing (Verify a m s) (Run b n t y) p q = absurd (no_verify_and_run p.0 q.0)
  one_thing (Verify a m s) (Gen b n) p q = absurd (no_verify_and_gen p.0 q.0)
  one_thing (Run a m s x) (Verify b n t) p q = absurd (no_verify_and_run q.0 p.0)
  one_thing (Run a m s x) (Run b n t y) p q =
      same_run a b m n s t x y (same_path (first_of (codes "FILE") (given_in words)) a b p.1.file q.1.file)
      (one_option IsChoices one_list [] (first_of (codes "choices") (given_in words)) m n p.1.listed q.1.listed)
      (one_setting RUN_STEPS RUN_STEPS (omega arith) (first_of (codes "steps") (given_in words)) s t p.1.counted
      q.1.counted)
      (one_mode (first_of (codes "malloc-null") (given_in words)) x y p.1.mode q.1.mode)
  one_thing (Run a m s x) (Gen b n) p q = absurd (no_run_and_gen p.0 q.0)
  one_thing (Gen a m) (Verify b n t) p q = absurd (no_verify_and_gen q.0 p.0)
  one_thing (Gen a m) (Run b n t y) p q = absurd (no_run_and_gen q.0 p.0)
  one_thing (Gen a m) (Gen b n) p q =
      same_gen a b m n (one_read IsKind one_kind (first_of (codes "KIND") (given_in words)) a b p.1.named q.1.named)
      (one_read (IsNumber MOST_PHASES) (one_number MOST_PHASES (omega arith)) (first_of (codes "N") (given_in words)) m
      n p.1.counted q.1.counted)

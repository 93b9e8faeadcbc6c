-- How a condition is read, and where it fails.
use Rattle.std.proofs.Common.{◌≡◌, ◌≢◌, ℕ, zero, suc, Bool, true, false, List, [], ◌∷◌, ◌++◌, Some, None, refl}
use Rattle.std.proofs.Common.{sym, ap, ◌∙◌, subst, append_assoc, inl, inr}
use Rattle.fore_base.specs.declared.place.Place.{Place}
use Rattle.c_ast.specs.declared.conditions.Cond.{Cond}
use Rattle.c_ast.specs.declared.conditions.Test.{Test}
use Rattle.c_ast.specs.declared.conditions.Test.TheVariants as test'
use Rattle.c_ast.specs.declared.conditions.Unary.{Unary}
use Rattle.c_ast.specs.declared.conditions.Unary.TheVariants as unary'
use Rattle.c_ast.specs.declared.operands.Operand.{Operand}
use Rattle.c_lexer.specs.declared.token.Token.{Token}
use Rattle.c_grammar.specs.words.Faults.{Alive, Fails, Takes}
use Rattle.c_grammar.specs.Grammar.{token, ◌then◌, level}
use Rattle.c_grammar.specs.words.Sets.{Signs, among, no_sign, equals, begins_nested, begins_operand, begins_cond}
use Rattle.c_grammar.specs.words.Sets.{operand_goes_on, test_goes_on, and_goes_on, cond_goes_on}
use Rattle.c_grammar.specs.words.Shapes.{StaysOut, two_sides, a_comparison, a_test, next_test, next_and}
use Rattle.c_grammar.specs.Signs.{sign_of, sign_at, or_on}
use Rattle.c_grammar.specs.Syntax as s
use Rattle.c_grammar.specs.Syntax.{at, call, operand, unary, inner_unary, test_with, and_with, cond, sides, test_of}
use Rattle.c_grammar.specs.Syntax.{optional, not_of, bracket_of, and_of, cond_of}
use Rattle.c_grammar.specs.declared.fault.SyntaxFault.{SyntaxFault}
use Rattle.c_grammar.specs.declared.fault.SyntaxFault.TheVariants.{Syntax, Deep}
use Rattle.c_grammar.specs.declared.signs.Sign.{Sign}
use Rattle.c_grammar.specs.declared.signs.Sign.TheVariants as sign
use Rattle.c_grammar.proofs.Decide.{apart_of, within, inside}
use Rattle.c_grammar.proofs.Endings.{ends_at}
use Rattle.c_grammar.proofs.Goods.{good_one, good_at, good_operand, good_next, good_series}
use Rattle.c_grammar.proofs.Parts.{Same, good_made, good_nothing, good_level, good_same, takes_made, fails_made}
use Rattle.c_grammar.proofs.Parts.{fails_same, takes_same, takes_nothing, takes_token, takes_left, takes_right}
use Rattle.c_grammar.proofs.Series.{least_series}
use Rattle.c_grammar.proofs.Parts.{alive_made, deep_first, fails_left, fails_right, fails_first, fails_level}
use Rattle.c_grammar.proofs.Parts.{takes_level}
use Rattle.c_grammar.proofs.Families.{make, and_then}
use Rattle.c_grammar.proofs.Readings.{tok, at_told, null_operand}
use Rattle.c_grammar.proofs.Rules.{Good}
use Rattle.c_grammar.proofs.Sequences.{least_one}
use Rattle.c_grammar.proofs.Statements.{good_sides, good_side, good_maybe_side, good_compared, good_factored_test}
use Rattle.c_grammar.proofs.Statements.{factored_test, to_test, from_test, unary_over, good_unary_over}
use Rattle.c_grammar.proofs.Statements.{good_inner_unary, good_cond}
use Rattle.c_grammar.proofs.Steps.{good_chain, pair, in_front, in_back, in_back_of, widen_takes, widen_fails}
use Rattle.c_grammar.proofs.Tokens.{sample, real, takes_at, fails_one}
use Rattle.c_grammar.specs.Hopeless.{place_at}
use Rattle.c_grammar.proofs.SignLemmas.{or_of, clash, only_right, told_apart, one_of}

abbrev pub ands : Signs
ands = among (sign.And ∷ [])

abbrev pub ors : Signs
ors = among (sign.Or ∷ [])

-- a unary is a level or an operand
unary_is : (n : ℕ) → unary_over (operand n) (level inner_unary n) ≡ unary n
unary_is zero = refl
unary_is (suc n) = refl

gl : Good (level inner_unary) begins_nested operand_goes_on no_sign false
gl = good_level good_inner_unary

pub same_unary : Same (λ n. unary_over (operand n) (level inner_unary n)) unary
same_unary =
    record {
      to = λ n ts rest x r. subst (λ P. P ts rest x) (unary_is n) r;
      back = λ n ts rest x r.
          subst (λ P. P ts rest x) (sym (unary_is n)) r;
    }

pub good_unary : Good unary begins_cond operand_goes_on no_sign false
good_unary = good_same same_unary (good_unary_over gl)

pub same_test : Same (λ n. factored_test (operand n) (level inner_unary n)) a_test.rule
same_test = record {
  to = λ n ts rest x r. subst (λ u. test_with (operand n) u ts rest x) (unary_is n)
      (from_test (operand n) (level inner_unary n) ts rest x r);
  back = λ n ts rest x r. to_test (operand n) (level inner_unary n) ts rest x
      (subst (λ u. test_with (operand n) u ts rest x) (sym (unary_is n)) r);
}

pub good_test : Good a_test.rule begins_cond test_goes_on no_sign false
good_test = good_same same_test (good_factored_test gl)

pub good_next_test : Good next_test.rule ands test_goes_on no_sign false
good_next_test = good_next sign.And good_test

pub good_and : Good (λ n. and_with (operand n) (unary n)) begins_cond and_goes_on no_sign false
good_and = good_made (good_series sign.And good_test refl refl) and_of

pub good_next_and : Good next_and.rule ors and_goes_on no_sign false
good_next_and = good_next sign.Or good_and

-- shortest readings
pub least_operand : (n : ℕ) → Alive operand no_sign n []
least_operand = null_operand call

pub least_unary : (n : ℕ) → Alive unary no_sign n []
least_unary n = let o = least_operand n in
    record {
      more = o.more;
      tree = unary'.Operand o.tree;
      reads = λ y h. same_unary.to n _ y _ (inr (make unary'.Operand (o.reads y h)));
    }

pub test_alive : (n : ℕ) (pre : List Token) → Alive unary no_sign n pre → Alive a_test.rule no_sign n pre
test_alive n pre a = record {
  more = a.more;
  tree = test'.Unary a.tree;
  reads = λ y h. inr (make test'.Unary (a.reads y h));
}

pub least_test : (n : ℕ) → Alive a_test.rule no_sign n []
least_test n = test_alive n [] (least_unary n)

pub least_and : (n : ℕ) → Alive (λ n. and_with (operand n) (unary n)) no_sign n []
least_and n = alive_made and_of (least_series sign.And good_test refl n (least_test n))

pub least_cond : (n : ℕ) → Alive cond no_sign n []
least_cond n = alive_made cond_of (least_series sign.Or good_and refl n (least_and n))

nested_signs : (x : Sign) → begins_nested x ≡ true → or_on (among (sign.Not ∷ []) x) (among (sign.Open ∷ []) x) ≡ true
nested_signs x h = inside begins_nested (λ x. or_on (among (sign.Not ∷ []) x) (among (sign.Open ∷ []) x)) refl x h

-- the first token of a level, one level further in
unary_on : (t : Token) → begins_nested (sign_of t) ≡ true → Alive unary no_sign 1 (t ∷ [])
unary_on t first = split (among (sign.Not ∷ []) (sign_of t)) refl
  where
    u : Alive unary no_sign 0 []
    u = least_unary 0

    c : Alive cond no_sign 0 []
    c = least_cond 0

    negated : sign_of t ≡ sign.Not → Alive unary no_sign 1 (t ∷ [])
    negated told = record {
      more = u.more;
      tree = not_of (t.at, u.tree);
      reads = λ y h. inl (inl (make not_of (and_then _ (at_told t sign.Not told _) (u.reads y h))));
    }

    enclosed : sign_of t ≡ sign.Open → Alive unary no_sign 1 (t ∷ [])
    enclosed told = record {
      more = c.more ++ sample sign.Close ∷ [];
      tree = bracket_of (t.at, (c.tree, sample sign.Close));
      reads = λ y h. inl (inr (make bracket_of (and_then _ (at_told t sign.Open told _)
          (and_then (sample sign.Close ∷ y)
          (subst (λ l. cond 0 l (sample sign.Close ∷ y) c.tree)
          (sym (append_assoc c.more (sample sign.Close ∷ []) y)) (c.reads (sample sign.Close ∷ y) refl))
          (tok sign.Close (real sign.Close tt) y)))));
    }

    other_sign : (x : Sign) → begins_nested x ≡ true → among (sign.Not ∷ []) x ≡ false → among (sign.Open ∷ []) x ≡ true
    other_sign x h e = only_right (among (sign.Not ∷ []) x) (among (sign.Open ∷ []) x) (nested_signs x h) e

    split : (v : Bool) → among (sign.Not ∷ []) (sign_of t) ≡ v → Alive unary no_sign 1 (t ∷ [])
    split true e = negated (one_of sign.Not (sign_of t) e)
    split false e = enclosed (one_of sign.Open (sign_of t) (other_sign (sign_of t) first e))

no_unary : (z y : List Token) (x : Unary) → begins_nested (sign_at z) ≡ true → unary 0 z y x → ⊥
no_unary z y x first (inl r) = r
no_unary z y x first (inr r) =
    elim (good_operand.starts 0 z y r.part r.read)
    [ inl f ↦ clash (sym f ∙ apart_of begins_operand begins_nested refl (sign_at z) first) | inr e ↦ clash (sym e.0) ]

no_test : (z y : List Token) (x : Test) → begins_nested (sign_at z) ≡ true → a_test.rule 0 z y x → ⊥
no_test z y x first (inl r) =
    elim (good_operand.starts 0 z r.read.mid r.part.0 r.read.front)
    [ inl f ↦ clash (sym f ∙ apart_of begins_operand begins_nested refl (sign_at z) first) | inr e ↦ clash (sym e.0) ]
no_test z y x first (inr r) = no_unary z y r.part first r.read

neither : (x : Sign) → begins_operand x ≡ false → begins_nested x ≡ false → begins_cond x ≡ false
neither x h k = within begins_cond (λ x. or_on (begins_operand x) (begins_nested x)) refl x (or_of _ _ h k)

pub unary_stays : (n : ℕ) (end : Place) (ts : List Token) (e : SyntaxFault) → begins_operand (sign_at ts) ≡ false
    → StaysOut begins_nested n end ts e → Fails unary operand_goes_on no_sign begins_nested n end ts e
unary_stays n end ts e no_operand (inl f) =
    subst (λ e. Fails unary operand_goes_on no_sign begins_nested n end ts e) (sym f.0)
    (fails_first good_unary n end ts (least_unary n) (neither (sign_at ts) no_operand f.1))
unary_stays n end ts e no_operand (inr f) =
    subst (λ e. Fails unary operand_goes_on no_sign begins_nested n end ts e) (sym f.0)
    (subst (λ n. Fails unary operand_goes_on no_sign begins_nested n end ts (Deep (place_at end ts))) (sym f.1)
    (deep_first unary operand_goes_on no_sign begins_nested end ts f.2 refl (least_unary 0) unary_on no_unary))

pub test_stays : (n : ℕ) (end : Place) (ts : List Token) (e : SyntaxFault) → begins_operand (sign_at ts) ≡ false
    → StaysOut begins_nested n end ts e → Fails a_test.rule test_goes_on no_sign begins_nested n end ts e
test_stays n end ts e no_operand (inl f) =
    subst (λ e. Fails a_test.rule test_goes_on no_sign begins_nested n end ts e) (sym f.0)
    (fails_first good_test n end ts (least_test n) (neither (sign_at ts) no_operand f.1))
test_stays n end ts e no_operand (inr f) =
    subst (λ e. Fails a_test.rule test_goes_on no_sign begins_nested n end ts e) (sym f.0)
    (subst (λ n. Fails a_test.rule test_goes_on no_sign begins_nested n end ts (Deep (place_at end ts))) (sym f.1)
    (deep_first a_test.rule test_goes_on no_sign begins_nested end ts f.2 refl (least_test 0)
    (λ t first. test_alive 1 (t ∷ []) (unary_on t first)) no_test))

-- one level further in
module _ (n k : ℕ) (is : n ≡ suc k) (end : Place) (ts : List Token) where
  level_fails : (e : SyntaxFault) → Fails inner_unary operand_goes_on no_sign no_sign k end ts e
      → Fails (level inner_unary) operand_goes_on no_sign no_sign n end ts e
  level_fails e f = subst (λ m. Fails (level inner_unary) operand_goes_on no_sign no_sign m end ts e) (sym is)
      (fails_level good_inner_unary k end ts e f)

  level_takes : (rest : List Token) (x : Unary) → Takes inner_unary operand_goes_on no_sign k ts rest x
      → Takes (level inner_unary) operand_goes_on no_sign n ts rest x
  level_takes rest x t = subst (λ m. Takes (level inner_unary) operand_goes_on no_sign m ts rest x) (sym is)
      (takes_level good_inner_unary k ts rest x t)

  pub unary_nested_fails : (e : SyntaxFault) → begins_nested (sign_at ts) ≡ true
      → Fails inner_unary operand_goes_on no_sign no_sign k end ts e
      → Fails unary operand_goes_on no_sign begins_nested n end ts e
  unary_nested_fails e first f =
      fails_same same_unary e (widen_fails operand_goes_on no_sign begins_nested refl refl refl
      (fails_left gl (good_made good_operand unary'.Operand) (apart_of begins_nested begins_operand refl) refl n end ts
      first e (level_fails e f)))

  pub unary_nested_takes : (rest : List Token) (x : Unary) → begins_nested (sign_at ts) ≡ true
      → Takes inner_unary operand_goes_on no_sign k ts rest x → Takes unary operand_goes_on no_sign n ts rest x
  unary_nested_takes rest x first t = takes_same same_unary (widen_takes operand_goes_on no_sign refl refl
      (takes_left gl (good_made good_operand unary'.Operand) (apart_of begins_nested begins_operand refl) refl n ts rest
      x first (level_takes rest x t)))

  pub test_nested_fails : (e : SyntaxFault) → begins_operand (sign_at ts) ≡ false
      → Fails inner_unary operand_goes_on no_sign no_sign k end ts e
      → Fails a_test.rule test_goes_on no_sign begins_nested n end ts e
  test_nested_fails e other f = fails_same same_test e (widen_fails test_goes_on no_sign begins_nested refl refl refl
      (fails_right good_compared (good_made gl test'.Unary) (apart_of begins_operand begins_nested refl) refl refl n end
      ts other e (fails_made test'.Unary e (level_fails e f))))

  pub test_nested_takes : (rest : List Token) (x : Unary) → begins_operand (sign_at ts) ≡ false
      → Takes inner_unary operand_goes_on no_sign k ts rest x
      → Takes a_test.rule test_goes_on no_sign n ts rest (test'.Unary x)
  test_nested_takes rest x other t = takes_same same_test (widen_takes test_goes_on no_sign refl refl
      (takes_right good_compared (good_made gl test'.Unary) (apart_of begins_operand begins_nested refl) refl refl n ts
      rest (test'.Unary x) other (takes_made test'.Unary (level_takes rest x t))))

module _ (n : ℕ) (end : Place) (ts : List Token) where
  pub unary_operand_fails : (e : SyntaxFault) → begins_operand (sign_at ts) ≡ true
      → Fails operand operand_goes_on no_sign no_sign n end ts e
      → Fails unary operand_goes_on no_sign begins_nested n end ts e
  unary_operand_fails e first f =
      fails_same same_unary e (widen_fails operand_goes_on no_sign begins_nested refl refl refl
      (fails_right gl (good_made good_operand unary'.Operand) (apart_of begins_nested begins_operand refl) refl refl n
      end ts (apart_of begins_nested begins_operand refl (sign_at ts) first) e (fails_made unary'.Operand e f)))

  pub unary_operand_takes : (rest : List Token) (x : Operand) → begins_operand (sign_at ts) ≡ true
      → Takes operand operand_goes_on no_sign n ts rest x
      → Takes unary operand_goes_on no_sign n ts rest (unary'.Operand x)
  unary_operand_takes rest x first t = takes_same same_unary (widen_takes operand_goes_on no_sign refl refl
      (takes_right gl (good_made good_operand unary'.Operand) (apart_of begins_nested begins_operand refl) refl refl n
      ts rest (unary'.Operand x) (apart_of begins_nested begins_operand refl (sign_at ts) first)
      (takes_made unary'.Operand t)))

  pub test_compared_fails : (e : SyntaxFault) → begins_operand (sign_at ts) ≡ true
      → Fails a_comparison.rule test_goes_on no_sign no_sign n end ts e
      → Fails a_test.rule test_goes_on no_sign begins_nested n end ts e
  test_compared_fails e first f = fails_same same_test e (widen_fails test_goes_on no_sign begins_nested refl refl refl
      (fails_left good_compared (good_made gl test'.Unary) (apart_of begins_operand begins_nested refl) refl n end ts
      first e f))

  pub test_compared_takes : (rest : List Token) (x : Test) → begins_operand (sign_at ts) ≡ true
      → Takes a_comparison.rule test_goes_on no_sign n ts rest x → Takes a_test.rule test_goes_on no_sign n ts rest x
  test_compared_takes rest x first t = takes_same same_test (widen_takes test_goes_on no_sign refl refl
      (takes_left good_compared (good_made gl test'.Unary) (apart_of begins_operand begins_nested refl) refl n ts rest x
      first t))

-- negations and brackets
good_not : Good (λ n. at sign.Not then unary n) (among (sign.Not ∷ [])) operand_goes_on no_sign false
good_not = good_chain (good_at sign.Not) good_unary refl

good_closed : Good (λ n. cond n then token sign.Close) begins_cond no_sign no_sign false
good_closed = good_chain good_cond (good_one sign.Close) refl

good_brackets : Good (λ n. at sign.Open then cond n then token sign.Close) (among (sign.Open ∷ [])) no_sign no_sign
    false
good_brackets = good_chain (good_at sign.Open) good_closed refl

module _ (n : ℕ) (end : Place) (ts rest : List Token) (t : Token) (is : ts ≡ t ∷ rest) where
  pub not_fails : (e : SyntaxFault) → sign_of t ≡ sign.Not
      → Fails unary operand_goes_on no_sign begins_nested n end rest e
      → Fails inner_unary operand_goes_on no_sign no_sign n end ts e
  not_fails e told f = widen_fails operand_goes_on no_sign no_sign refl refl refl
      (fails_left (good_made good_not not_of) (good_made good_brackets bracket_of)
      (apart_of (among (sign.Not ∷ [])) (among (sign.Open ∷ [])) refl) refl n end ts
      (ap (among (sign.Not ∷ [])) (ap sign_at is ∙ told)) e
      (fails_made not_of e
      (widen_fails operand_goes_on no_sign no_sign refl refl refl
      (in_back_of (good_at sign.Not) good_unary refl refl (ends_at sign.Not refl) refl
      (takes_at sign.Not n ts rest t is told) f))))

  pub not_takes : (later : List Token) (x : Unary) → sign_of t ≡ sign.Not
      → Takes unary operand_goes_on no_sign n rest later x
      → Takes inner_unary operand_goes_on no_sign n ts later (unary'.Not t.at x)
  not_takes later x told u =
      widen_takes operand_goes_on no_sign refl refl
      (takes_left (good_made good_not not_of) (good_made good_brackets bracket_of)
      (apart_of (among (sign.Not ∷ [])) (among (sign.Open ∷ [])) refl) refl n ts later (not_of (t.at, x))
      (ap (among (sign.Not ∷ [])) (ap sign_at is ∙ told))
      (takes_made not_of
      (widen_takes operand_goes_on no_sign refl refl
      (pair (good_at sign.Not) good_unary refl (takes_at sign.Not n ts rest t is told) u))))

  bracket_fails : (e : SyntaxFault) → sign_of t ≡ sign.Open
      → Fails (λ n. cond n then token sign.Close) no_sign no_sign begins_nested n end rest e
      → Fails inner_unary operand_goes_on no_sign no_sign n end ts e
  bracket_fails e told f =
      widen_fails operand_goes_on no_sign no_sign refl refl refl
      (fails_right (good_made good_not not_of) (good_made good_brackets bracket_of)
      (apart_of (among (sign.Not ∷ [])) (among (sign.Open ∷ [])) refl) refl refl n end ts
      (ap (among (sign.Not ∷ [])) (ap sign_at is ∙ told)) e
      (fails_made bracket_of e
      (widen_fails no_sign no_sign no_sign refl refl refl
      (in_back_of (good_at sign.Open) good_closed refl refl (ends_at sign.Open refl) refl
      (takes_at sign.Open n ts rest t is told) f))))

  pub bad_cond : (e : SyntaxFault) → sign_of t ≡ sign.Open → Fails cond cond_goes_on no_sign begins_nested n end rest e
      → Fails inner_unary operand_goes_on no_sign no_sign n end ts e
  bad_cond e told f = bracket_fails e told
      (widen_fails no_sign no_sign begins_nested refl refl refl
      (in_front good_cond (good_one sign.Close) refl refl (least_one sign.Close (real sign.Close tt) n) f))

  pub no_close : (e : SyntaxFault) (later : List Token) (x : Cond) → sign_of t ≡ sign.Open
      → Takes cond cond_goes_on no_sign n rest later x → e ≡ Syntax (place_at end later) → sign_at later ≢ sign.Close →
      Fails inner_unary operand_goes_on no_sign no_sign n end ts e
  no_close e later x told u bad other =
      bracket_fails e told
      (widen_fails no_sign no_sign begins_nested refl refl refl
      (in_back good_cond (good_one sign.Close) refl refl refl u
      (fails_one sign.Close (real sign.Close tt) n end later e bad other)))

  pub brackets_take : (later last : List Token) (x : Cond) (c : Token) → sign_of t ≡ sign.Open
      → Takes cond cond_goes_on no_sign n rest later x → later ≡ c ∷ last → sign_of c ≡ sign.Close →
      Takes inner_unary operand_goes_on no_sign n ts last (unary'.Bracket t.at x)
  brackets_take later last x c told u close_is close_told =
      widen_takes operand_goes_on no_sign refl refl
      (takes_right (good_made good_not not_of) (good_made good_brackets bracket_of)
      (apart_of (among (sign.Not ∷ [])) (among (sign.Open ∷ [])) refl) refl refl n ts last
      (bracket_of (t.at, (x, c))) (ap (among (sign.Not ∷ [])) (ap sign_at is ∙ told))
      (takes_made bracket_of
      (widen_takes no_sign no_sign refl refl
      (pair (good_at sign.Open) good_closed refl (takes_at sign.Open n ts rest t is told)
      (widen_takes no_sign no_sign refl refl
      (pair good_cond (good_one sign.Close) refl u (takes_token sign.Close n later last c close_is close_told)))))))

-- comparisons
least_none : (n : ℕ) → Alive (λ n. optional (sides then operand n)) no_sign n []
least_none n = record { more = []; tree = None; reads = λ y h. inr (refl, refl) }

pub no_sides : (n : ℕ) (end : Place) (ts : List Token) (e : SyntaxFault) → e ≡ Syntax (place_at end ts)
    → among (sign.Equal ∷ []) (sign_at ts) ≡ false → sign_at ts ≢ sign.Unequal
    → Fails two_sides.rule no_sign no_sign no_sign n end ts e
no_sides n end ts e is no_equal other =
    subst (λ e. Fails two_sides.rule no_sign no_sign no_sign n end ts e) (sym is) (fails_first good_sides n end ts
    (record {
      more = sample sign.Equal ∷ [];
      tree = true;
      reads = λ y h. inl (make s.yes_of (tok sign.Equal (real sign.Equal tt) y));
    })
    (within equals (λ x. or_on (among (sign.Equal ∷ []) x) (among (sign.Unequal ∷ []) x)) refl (sign_at ts)
    (or_of _ _ no_equal (or_of _ _ (told_apart sign.Unequal (sign_at ts) other) refl))))

pub equal_there : (n : ℕ) (ts rest : List Token) (t : Token) → ts ≡ t ∷ rest → sign_of t ≡ sign.Equal
    → Takes two_sides.rule no_sign no_sign n ts rest true
equal_there n ts rest t is told =
    widen_takes no_sign no_sign refl refl
    (takes_left (good_made (good_one sign.Equal) s.yes_of) (good_made (good_one sign.Unequal) s.no_of)
    (apart_of (among (sign.Equal ∷ [])) (among (sign.Unequal ∷ [])) refl) refl n ts rest true
    (ap (among (sign.Equal ∷ [])) (ap sign_at is ∙ told))
    (takes_made s.yes_of (takes_token sign.Equal n ts rest t is told)))

pub unequal_there : (n : ℕ) (ts rest : List Token) (t : Token) → ts ≡ t ∷ rest → sign_of t ≡ sign.Unequal
    → Takes two_sides.rule no_sign no_sign n ts rest false
unequal_there n ts rest t is told =
    widen_takes no_sign no_sign refl refl
    (takes_right (good_made (good_one sign.Equal) s.yes_of) (good_made (good_one sign.Unequal) s.no_of)
    (apart_of (among (sign.Equal ∷ [])) (among (sign.Unequal ∷ [])) refl) refl refl n ts rest false
    (ap (among (sign.Equal ∷ [])) (ap sign_at is ∙ told))
    (takes_made s.no_of (takes_token sign.Unequal n ts rest t is told)))

module _ (n : ℕ) (end : Place) (ts : List Token) where
  pub bad_left : (e : SyntaxFault) → Fails operand operand_goes_on no_sign no_sign n end ts e
      → Fails a_comparison.rule test_goes_on no_sign no_sign n end ts e
  bad_left e f = widen_fails test_goes_on no_sign no_sign refl refl refl
      (fails_made test_of e (in_front good_operand good_maybe_side refl refl (least_none n) f))

  module _ (mid : List Token) (x : Operand) (t : Takes operand operand_goes_on no_sign n ts mid x) where
    pub alone : equals (sign_at mid) ≡ false
        → Takes a_comparison.rule test_goes_on no_sign n ts mid (test'.Unary (unary'.Operand x))
    alone other = widen_takes test_goes_on no_sign refl refl
        (takes_made test_of (pair good_operand good_maybe_side refl t (widen_takes test_goes_on no_sign refl refl
        (takes_right (good_made good_side Some) (good_nothing None) (apart_of equals no_sign refl) refl refl n mid mid
        None other (takes_nothing None n mid)))))

    side_fails : (e : SyntaxFault) → equals (sign_at mid) ≡ true
        → Fails (λ n. sides then operand n) operand_goes_on no_sign no_sign n end mid e
        → Fails a_comparison.rule test_goes_on no_sign no_sign n end ts e
    side_fails e first f = widen_fails test_goes_on no_sign no_sign refl refl refl
        (fails_made test_of e
        (in_back good_operand good_maybe_side refl refl refl t (widen_fails test_goes_on no_sign no_sign refl refl refl
        (fails_left (good_made good_side Some) (good_nothing None) (apart_of equals no_sign refl) refl n end mid first e
        (fails_made Some e f)))))

    pub bad_sides : (e : SyntaxFault) → equals (sign_at mid) ≡ true
        → Fails two_sides.rule no_sign no_sign no_sign n end mid e
        → Fails a_comparison.rule test_goes_on no_sign no_sign n end ts e
    bad_sides e first f = side_fails e first
        (widen_fails operand_goes_on no_sign no_sign refl refl refl
        (in_front good_sides good_operand refl refl (least_operand n) f))

    pub bad_right : (e : SyntaxFault) (later : List Token) (b : Bool) → equals (sign_at mid) ≡ true
        → Takes two_sides.rule no_sign no_sign n mid later b
        → Fails operand operand_goes_on no_sign no_sign n end later e →
        Fails a_comparison.rule test_goes_on no_sign no_sign n end ts e
    bad_right e later b first u f =
        side_fails e first
        (widen_fails operand_goes_on no_sign no_sign refl refl refl
        (in_back good_sides good_operand refl refl refl u f))

    pub compared : (later rest : List Token) (b : Bool) (y : Operand) → equals (sign_at mid) ≡ true
        → Takes two_sides.rule no_sign no_sign n mid later b → Takes operand operand_goes_on no_sign n later rest y →
        Takes a_comparison.rule test_goes_on no_sign n ts rest (test'.Compare x b y)
    compared later rest b y first u v =
        widen_takes test_goes_on no_sign refl refl
        (takes_made test_of (pair good_operand good_maybe_side refl t (widen_takes test_goes_on no_sign refl refl
        (takes_left (good_made good_side Some) (good_nothing None) (apart_of equals no_sign refl) refl n mid rest
        (Some (b, y)) first (takes_made Some (widen_takes operand_goes_on no_sign refl refl
        (pair good_sides good_operand refl u v)))))))

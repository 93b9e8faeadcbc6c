-- The rules of conditions and statements are good.
use Rattle.std.proofs.Common.{◌≡◌, ◌⊎◌, ◌<◌, ℕ, zero, suc, Bool, true, false, List, [], ◌∷◌, Option, Some, None, refl}
use Rattle.std.proofs.Common.{sym, ap, ◌∙◌, subst, inl, inr, arith}
use Rattle.fore_base.specs.declared.place.Place.{Place}
use Rattle.c_ast.specs.declared.conditions.Test.{Test}
use Rattle.c_ast.specs.declared.conditions.Test.TheVariants as test'
use Rattle.c_ast.specs.declared.conditions.Unary.{Unary}
use Rattle.c_ast.specs.declared.conditions.Unary.TheVariants as unary'
use Rattle.c_ast.specs.declared.operands.Name.{Name}
use Rattle.c_ast.specs.declared.operands.Operand.{Operand}
use Rattle.c_ast.specs.declared.simples.Rhs.TheVariants as rhs'
use Rattle.c_ast.specs.declared.simples.Simple.{Simple}
use Rattle.c_ast.specs.declared.simples.Simple.TheVariants as simple'
use Rattle.c_ast.specs.declared.simples.Size.{Size}
use Rattle.c_ast.specs.declared.statements.Data.TheVariants as data'
use Rattle.c_ast.specs.declared.statements.First.TheVariants as first'
use Rattle.c_ast.specs.declared.statements.Part.TheVariants as part'
use Rattle.c_ast.specs.declared.statements.Stmt.{Stmt}
use Rattle.c_ast.specs.declared.statements.Stmt.TheVariants as stmt'
use Rattle.c_lexer.specs.declared.token.Token.{Token}
use Rattle.c_grammar.specs.Grammar.{Part, Rule, token, empty, ◌then◌, ◌or◌, Many, Made, level}
use Rattle.c_grammar.specs.words.Sets.{Signs, among, no_sign, arrows, names, opens, elses, operand_goes_on}
use Rattle.c_grammar.specs.words.Sets.{test_goes_on, and_goes_on, cond_goes_on, begins_nested, equals, begins_operand}
use Rattle.c_grammar.specs.words.Sets.{begins_rhs, begins_simple, begins_cond, begins_declare, begins_stmt}
use Rattle.c_grammar.specs.Signs.{sign_at, or_on}
use Rattle.c_grammar.specs.Syntax as s
use Rattle.c_grammar.specs.Syntax.{at, name, path, arrow, operand, rhs, size, cast, simple, data_part, declarator}
use Rattle.c_grammar.specs.Syntax.{declare, behind, bracketed, middle, first, optional, series, arguments}
use Rattle.c_grammar.specs.Syntax.{argument, cond_with, test_with, nested_unary, inner_unary, sides, test_of}
use Rattle.c_grammar.specs.Syntax.{compared_part, cond, flat_stmt, nested_stmt, stmt, block_with, other_part}
use Rattle.c_grammar.specs.Syntax.{first_part, inner_block}
use Rattle.c_grammar.specs.declared.signs.Sign.TheVariants as sign
use Rattle.c_grammar.proofs.Decide.{apart_of}
use Rattle.c_grammar.proofs.Fix.{good_fix}
use Rattle.c_grammar.proofs.Families.{make, and_then}
use Rattle.c_grammar.proofs.Goods.{named, good_one, good_at, good_name, good_arrows, good_path, good_arguments}
use Rattle.c_grammar.proofs.Goods.{good_next, good_series, good_or_empty, good_optional}
use Rattle.c_grammar.proofs.Goods.{good_argument, good_operand, same_call}
use Rattle.c_grammar.proofs.Parts.{Same, good_made, good_level, good_same}
use Rattle.c_grammar.proofs.Repeats.{good_many}
use Rattle.c_grammar.proofs.Rules.{Good, Front}
use Rattle.c_grammar.proofs.Steps.{Clear, good_pair, good_chain, good_or}
use Rattle.c_grammar.proofs.SignLemmas.{clash}
use Rattle.c_grammar.specs.words.Parted.{Inside, inside_part, Sized, sized_part, size_of, After, after_part}
use Rattle.c_grammar.specs.words.Parted.{simple_word, declarator_goes_on, declarators_go_on, begins_flat, begins_part}
use Rattle.c_grammar.specs.words.Parted.{star_declarator, begins_level, begins_first, simple_goes_on}
use Rattle.c_grammar.specs.words.Parted.{maybe_cond_goes_on}

-- in brackets
pub good_bracketed : {X : Type 0} {A : Rule X} {fa ca : Signs} → Good A fa ca no_sign false
    → Clear ca (among (sign.Close ∷ [])) → Good (λ n. bracketed (A n)) opens no_sign no_sign false
good_bracketed ga clear =
    good_made (good_chain (good_one sign.Open) (good_chain ga (good_one sign.Close) clear) refl) middle

pub good_star_path : Good (λ n. at sign.Star then path) (among (sign.Star ∷ [])) arrows no_sign false
good_star_path = good_chain (good_at sign.Star) good_path refl

pub good_inside : Good (λ n. inside_part) (among (sign.Struct ∷ (sign.Star ∷ []))) arrows no_sign false
good_inside = named _ _ _
    (good_or (good_made (good_next sign.Struct good_name) inl) (good_made good_star_path inr) refl refl) refl refl refl

pub good_closed_inside : Good (λ n. bracketed inside_part) opens no_sign no_sign false
good_closed_inside = good_bracketed good_inside refl

pub good_sized : Good (λ n. sized_part) (among (sign.Open ∷ (sign.Star ∷ []))) arrows no_sign false
good_sized = named _ _ _
    (good_or (good_made good_closed_inside inl) (good_made good_star_path inr) refl refl) refl refl refl

abbrev pub factored_size : Part Size
factored_size = Made size_of (at sign.Sizeof then sized_part)

pub good_factored_size : Good (λ n. factored_size) (among (sign.Sizeof ∷ [])) arrows no_sign false
good_factored_size = good_made (good_chain (good_at sign.Sizeof) good_sized refl) size_of

from_inside : (ts mid rest : List Token) (x : Size) (p : Place) (i : Inside) (o c : Token) (m k : List Token)
    → at sign.Sizeof ts mid p → x ≡ size_of (p, inl i) →
    token sign.Open mid m o → inside_part m k i → token sign.Close k rest c → size ts rest x
from_inside ts mid rest x p i o c m k f is ro (inl r) rc = inl (record {
  part = (p, r.part);
  is = is ∙ ap (λ i. size_of (p, inl i)) r.is;
  read = and_then mid f (make middle (and_then m ro (and_then k r.read rc)));
})
from_inside ts mid rest x p i o c m k f is ro (inr r) rc = inr (inl (record {
  part = (p, r.part);
  is = is ∙ ap (λ i. size_of (p, inl i)) r.is;
  read = and_then mid f (make middle (and_then m ro (and_then k r.read rc)));
}))

from_sized : (ts mid rest : List Token) (x : Size) (p : Place) (v : Sized) → at sign.Sizeof ts mid p
    → x ≡ size_of (p, v) → sized_part mid rest v → size ts rest x
from_sized ts mid rest x p v f is (inl r) =
    from_inside ts mid rest x p r.read.part.1.0 r.read.part.0 r.read.part.1.1 r.read.read.mid r.read.read.back.mid f
    (is ∙ ap (λ v. size_of (p, v)) (r.is ∙ ap (λ i. inl i) r.read.is)) r.read.read.front r.read.read.back.front
    r.read.read.back.back
from_sized ts mid rest x p v f is (inr r) = inr
    (inr (record { part = (p, r.part); is = is ∙ ap (λ v. size_of (p, v)) r.is; read = and_then mid f r.read }))

-- what stands in brackets is an inside
closed_sized : {X : Type 0} {A : Part X} (f : X → Inside)
    → ((a b : List Token) (v : X) → A a b v → inside_part a b (f v)) → (ts rest : List Token) (x : Size) (p : Place)
    (v : X) → x ≡ size_of (p, inl (f v)) → (at sign.Sizeof then bracketed A) ts rest (p, v) → factored_size ts rest x
closed_sized {A = A} f into ts rest x p v is r = let q = r.back.read in record {
  part = (p, inl (f v));
  is = is;
  read = and_then r.mid r.front
      (inl (make inl (make middle (and_then q.mid q.front
      (and_then q.back.mid (into _ _ v (subst (λ v. A q.mid q.back.mid v) (sym r.back.is) q.back.front))
      q.back.back)))));
}

to_sized : (ts rest : List Token) (x : Size) → size ts rest x → factored_size ts rest x
to_sized ts rest x (inl r) =
    closed_sized inl (λ a b v q. inl (make inl q)) ts rest x r.part.0 r.part.1 r.is r.read
to_sized ts rest x (inr (inl r)) =
    closed_sized inr (λ a b v q. inr (make inr q)) ts rest x r.part.0 r.part.1 r.is r.read
to_sized ts rest x (inr (inr r)) =
    record {
      part = (r.part.0, inr r.part.1);
      is = r.is;
      read = and_then r.read.mid r.read.front (inr (make inr r.read.back));
    }

pub same_size : Same (λ n. factored_size) (λ n. size)
same_size =
    record {
      to = λ n ts rest x r. from_sized ts r.read.mid rest x r.part.0 r.part.1 r.read.front r.is r.read.back;
      back = λ n. to_sized;
    }

pub good_size : Good (λ n. size) (among (sign.Sizeof ∷ [])) arrows no_sign false
good_size = good_same same_size good_factored_size

-- right sides
pub good_closed_size : Good (λ n. bracketed size) opens no_sign no_sign false
good_closed_size = good_bracketed good_size refl

pub good_cast : Good (λ n. cast) opens no_sign no_sign false
good_cast = good_made
    (good_chain (good_at sign.Open)
    (good_chain (good_one sign.Struct)
    (good_chain good_name (good_chain (good_one sign.Star) (good_one sign.Close) refl) refl) refl) refl) s.cast_of

pub good_maybe_cast : Good (λ n. optional cast) opens opens no_sign true
good_maybe_cast = good_optional good_cast refl

pub good_malloc : Good (λ n. Made s.malloc_of (optional cast then at sign.Malloc then bracketed size))
    (among (sign.Open ∷ (sign.Malloc ∷ []))) no_sign no_sign false
good_malloc = named _ _ _
    (good_made (good_pair good_maybe_cast (good_chain (good_at sign.Malloc) good_closed_size refl) refl) s.malloc_of)
    refl refl refl

pub good_rhs : Good rhs begins_rhs operand_goes_on no_sign false
good_rhs = named _ _ _ (good_or (good_made good_operand rhs'.Operand) good_malloc refl refl) refl refl refl

abbrev pub factored_simple : Rule Simple
factored_simple n = Made simple_word (name then after_part (arguments (argument n)) (rhs n)) or Made s.free_of
    (at sign.Free then bracketed path)

pub good_assigned : Good (λ n. Many arrow then token sign.Assign then rhs n) (among (sign.Arrow ∷ (sign.Assign ∷ [])))
    operand_goes_on no_sign false
good_assigned = named _ _ _ (good_pair good_arrows (good_chain (good_one sign.Assign) good_rhs refl) refl) refl
    refl refl

pub good_after : Good (λ n. after_part (arguments (argument n)) (rhs n))
    (among (sign.Open ∷ (sign.Arrow ∷ (sign.Assign ∷ [])))) operand_goes_on no_sign false
good_after = named _ _ _
    (good_or (good_made (good_arguments good_argument) inl) (good_made good_assigned inr) refl refl) refl refl refl

pub good_closed_path : Good (λ n. bracketed path) opens no_sign no_sign false
good_closed_path = good_bracketed good_path refl

pub good_factored_simple : Good factored_simple begins_simple operand_goes_on no_sign false
good_factored_simple = named _ _ _
    (good_or (good_made (good_chain good_name good_after refl) simple_word)
    (good_made (good_chain (good_at sign.Free) good_closed_path refl) s.free_of) refl refl) refl refl refl

from_after : (n : ℕ) (ts mid rest : List Token) (x : Simple) (h : Name) (a : After) → name ts mid h
    → x ≡ simple_word (h, a) → after_part (arguments (argument n)) (rhs n) mid rest a → simple n ts rest x
from_after n ts mid rest x h a f is (inl r) = inr (inl (record {
  part = s.call_of (h, r.part);
  is = is ∙ ap (λ a. simple_word (h, a)) r.is;
  read = same_call.to n ts rest (s.call_of (h, r.part)) (make s.call_of (and_then mid f r.read));
}))
from_after n ts mid rest x h a f is (inr r) = inl (record {
  part = (s.path_of (h, r.part.0), r.part.1);
  is = is ∙ ap (λ a. simple_word (h, a)) r.is;
  read = and_then r.read.mid (make s.path_of (and_then mid f r.read.front)) r.read.back;
})

from_simple : (n : ℕ) (ts rest : List Token) (x : Simple) → factored_simple n ts rest x → simple n ts rest x
from_simple n ts rest x (inl r) = from_after n ts r.read.mid rest x r.part.0 r.part.1 r.read.front r.is r.read.back
from_simple n ts rest x (inr r) = inr (inr r)

to_simple : (n : ℕ) (ts rest : List Token) (x : Simple) → simple n ts rest x → factored_simple n ts rest x
to_simple n ts rest x (inl r) = inl (record {
  part = (r.read.front.part.0, inr (r.read.front.part.1, r.part.1));
  is = r.is ∙ ap (λ p. simple'.Assign p r.part.1.1) r.read.front.is;
  read = and_then r.read.front.read.mid r.read.front.read.front
      (inr (make inr (and_then r.read.mid r.read.front.read.back r.read.back)));
})
to_simple n ts rest x (inr (inl r)) = let c = same_call.back n ts rest r.part r.read in inl (record {
  part = (c.part.0, inl c.part.1);
  is = r.is ∙ ap simple'.Call c.is;
  read = and_then c.read.mid c.read.front (inl (make inl c.read.back));
})
to_simple n ts rest x (inr (inr r)) = inr r

pub same_simple : Same factored_simple simple
same_simple = record { to = from_simple; back = to_simple }

pub good_simple : Good simple begins_simple operand_goes_on no_sign false
good_simple = good_same same_simple good_factored_simple

-- conditions: a comparison and an operand alone begin alike
-- with N for what else is a condition in brackets or a negation
abbrev pub factored_test : Part Operand → Part Unary → Part Test
factored_test o u = compared_part o or Made test'.Unary u

pub good_sides : Good (λ n. sides) equals no_sign no_sign false
good_sides = named _ _ _
    (good_or (good_made (good_one sign.Equal) s.yes_of) (good_made (good_one sign.Unequal) s.no_of) refl refl) refl refl
    refl

pub good_side : Good (λ n. sides then operand n) equals operand_goes_on no_sign false
good_side = good_chain good_sides good_operand refl

pub good_maybe_side : Good (λ n. optional (sides then operand n)) equals test_goes_on no_sign true
good_maybe_side = good_optional good_side refl

pub good_compared : Good (λ n. Made test_of (operand n then optional (sides then operand n))) begins_operand
    test_goes_on no_sign false
good_compared = named _ _ _ (good_made (good_pair good_operand good_maybe_side refl) test_of) refl refl refl

pub good_factored_test : {N : Rule Unary} → Good N begins_nested operand_goes_on no_sign false
    → Good (λ n. factored_test (operand n) (N n)) begins_cond test_goes_on no_sign false
good_factored_test gn = named _ _ _ (good_or good_compared (good_made gn test'.Unary) refl refl) refl refl refl

abbrev pub unary_over : Part Operand → Part Unary → Part Unary
unary_over o u = u or Made unary'.Operand o

pub to_test : (o : Part Operand) (u : Part Unary) (ts rest : List Token) (x : Test)
    → test_with o (unary_over o u) ts rest x → factored_test o u ts rest x
to_test o u ts rest x (inl r) =
    inl
    (record {
      part = (r.part.0, Some r.part.1);
      is = r.is;
      read = and_then r.read.mid r.read.front (inl (make Some r.read.back));
    })
to_test o u ts rest x (inr r) = alone r.part r.is r.read
  where
    alone : (v : Unary) → x ≡ test'.Unary v → unary_over o u ts rest v → factored_test o u ts rest x
    alone v is (inl q) = inr (record { part = v; is = is; read = q })
    alone v is (inr q) = inl
        (record {
          part = (q.part, None);
          is = is ∙ ap test'.Unary q.is;
          read = and_then rest q.read (inr (refl, refl));
        })

pub from_test : (o : Part Operand) (u : Part Unary) (ts rest : List Token) (x : Test) → factored_test o u ts rest x
    → test_with o (unary_over o u) ts rest x
from_test o u ts rest x (inl r) = pairs r.part.0 r.part.1 r.is r.read.mid r.read.front r.read.back
  where
    pairs : (a : Operand) (q : Option (Bool × Operand)) → x ≡ test_of (a, q) → (mid : List Token) → o ts mid a
        → optional (sides then o) mid rest q → test_with o (unary_over o u) ts rest x
    pairs a q is mid f (inl b) =
        inl
        (record {
          part = (a, b.part);
          is = is ∙ ap (λ q. test_of (a, q)) b.is;
          read = and_then mid f b.read;
        })
    pairs a q is mid f (inr b) =
        inr
        (record {
          part = unary'.Operand a;
          is = is ∙ ap (λ q. test_of (a, q)) b.1;
          read = inr (make unary'.Operand (subst (λ l. o ts l a) b.0 f));
        })
from_test o u ts rest x (inr r) = inr (record { part = r.part; is = r.is; read = inl r.read })

module _ {N : Rule Unary} (gn : Good N begins_nested operand_goes_on no_sign false) where
  pub good_test : Good (λ n. test_with (operand n) (unary_over (operand n) (N n))) begins_cond test_goes_on no_sign
      false
  good_test = good_same (record { to = λ n. from_test (operand n) (N n); back = λ n. to_test (operand n) (N n) })
      (good_factored_test gn)

  good_and : Good (λ n. Made s.and_of (series sign.And (test_with (operand n) (unary_over (operand n) (N n)))))
      begins_cond and_goes_on no_sign false
  good_and = good_made (good_series sign.And good_test refl refl) s.and_of

  pub good_cond_with : Good (λ n. cond_with (operand n) (unary_over (operand n) (N n))) begins_cond cond_goes_on no_sign
      false
  good_cond_with = good_made (good_series sign.Or good_and refl refl) s.cond_of

  pub good_unary_over : Good (λ n. unary_over (operand n) (N n)) begins_cond operand_goes_on no_sign false
  good_unary_over = named _ _ _ (good_or gn (good_made good_operand unary'.Operand) refl refl) refl refl refl

  pub good_nested_unary : Good (λ n. nested_unary (operand n) (unary_over (operand n) (N n))) begins_nested
      operand_goes_on no_sign false
  good_nested_unary = named _ _ _
      (good_or (good_made (good_chain (good_at sign.Not) good_unary_over refl) s.not_of)
      (good_made (good_chain (good_at sign.Open) (good_chain good_cond_with (good_one sign.Close) refl) refl)
      s.bracket_of) refl refl) refl refl refl

abbrev pub unary_layer : Rule Unary → Rule Unary
unary_layer N n = nested_unary (operand n) (unary_over (operand n) (level N n))

pub unary_is : (n : ℕ) → inner_unary n ≡ unary_layer inner_unary n
unary_is zero = refl
unary_is (suc n) = refl

pub unary_causal : (G H : Rule Unary) (n : ℕ) → ((k : ℕ) → k < n → G k ≡ H k) → unary_layer G n ≡ unary_layer H n
unary_causal G H zero h = refl
unary_causal G H (suc n) h =
    ap (λ P. nested_unary (operand (suc n)) (unary_over (operand (suc n)) P)) (h n (omega arith))

pub good_inner_unary : Good inner_unary begins_nested operand_goes_on no_sign false
good_inner_unary = good_fix unary_layer inner_unary begins_nested operand_goes_on no_sign false unary_is unary_causal
    (λ G good. good_nested_unary (good_level good))

cond_is : (n : ℕ) → cond_with (operand n) (unary_over (operand n) (level inner_unary n)) ≡ cond n
cond_is zero = refl
cond_is (suc n) = refl

pub same_cond : Same (λ n. cond_with (operand n) (unary_over (operand n) (level inner_unary n))) cond
same_cond =
    record {
      to = λ n ts rest x r. subst (λ P. P ts rest x) (cond_is n) r;
      back = λ n ts rest x r.
          subst (λ P. P ts rest x) (sym (cond_is n)) r;
    }

pub good_cond : Good cond begins_cond cond_goes_on no_sign false
good_cond = good_same same_cond (good_cond_with (good_level good_inner_unary))

pub good_closed_cond : Good (λ n. bracketed (cond n)) opens no_sign no_sign false
good_closed_cond = good_bracketed good_cond refl

-- declarations
pub good_data : Good (λ n. data_part) (among (sign.Int ∷ (sign.Enum ∷ []))) no_sign no_sign false
good_data = named _ _ _
    (good_or (good_made (good_at sign.Int) data'.Int)
    (good_made (good_chain (good_at sign.Enum) good_name refl) s.enum_of) refl refl) refl refl refl

pub good_maybe_from : Good (λ n. optional (behind sign.Assign (rhs n))) (among (sign.Assign ∷ []))
    declarator_goes_on no_sign true
good_maybe_from = good_optional (good_next sign.Assign good_rhs) refl

pub good_declarator : Good declarator names declarator_goes_on no_sign false
good_declarator = named _ _ _ (good_made (good_pair good_name good_maybe_from refl) s.declarator_of) refl refl refl

pub good_star_declarator : Good star_declarator (among (sign.Star ∷ [])) declarator_goes_on no_sign false
good_star_declarator = good_next sign.Star good_declarator

pub good_pointers : Good (λ n. series sign.Comma (star_declarator n)) (among (sign.Star ∷ [])) declarators_go_on no_sign
    false
good_pointers = good_series sign.Comma good_star_declarator refl refl

pub good_datums : Good (λ n. series sign.Comma (declarator n)) names declarators_go_on no_sign false
good_datums = good_series sign.Comma good_declarator refl refl

pub good_declare : Good declare begins_declare no_sign no_sign false
good_declare = named _ _ _
    (good_or
    (good_made
    (good_chain (good_at sign.Struct)
    (good_chain good_name (good_chain good_pointers (good_one sign.Semicolon) refl) refl) refl) s.pointers_of)
    (good_made (good_chain good_data (good_chain good_datums (good_one sign.Semicolon) refl) refl) s.datums_of) refl
    refl) refl refl refl

pub good_maybe_operand :
    Good (λ n. optional (operand n)) begins_operand (λ s. or_on (operand_goes_on s) (begins_operand s)) no_sign true
good_maybe_operand = good_optional good_operand refl

pub good_flat : Good flat_stmt begins_flat no_sign no_sign false
good_flat = named _ _ _
    (good_or (good_made (good_at sign.Semicolon) stmt'.Empty)
    (good_or (good_made (good_chain good_simple (good_one sign.Semicolon) refl) s.simple_of)
    (good_or
    (good_made (good_chain (good_at sign.Return) (good_pair good_maybe_operand (good_one sign.Semicolon) refl) refl)
    s.return_of)
    (good_or (good_made (good_chain (good_at sign.Break) (good_one sign.Semicolon) refl) s.break_of)
    (good_or (good_made (good_chain (good_at sign.Continue) (good_one sign.Semicolon) refl) s.continue_of)
    (good_made (good_chain (good_at sign.Assert) (good_chain good_closed_cond (good_one sign.Semicolon) refl) refl)
    s.assert_of) refl refl) refl refl) refl refl) refl refl) refl refl) refl refl refl

-- an else and its statement, or none and no else after it
module _ {S : Rule Stmt} (gs : Good S begins_stmt no_sign elses false) where
  pub good_else : Good (λ n. behind sign.Else (S n)) elses no_sign elses false
  good_else = good_next sign.Else gs

  other_det : (n m : ℕ) (ts a b : List Token) (x y : Option Stmt) → other_part (S n) ts a x → other_part (S m) ts b y
      → (a ≡ b) × (x ≡ y)
  other_det n m ts a b x y (inl r) (inl q) = let e = good_else.det n m ts a b r.part q.part r.read q.read refl refl in
      (e.0, r.is ∙ ap (λ s. Some s) e.1 ∙ sym q.is)
  other_det n m ts a b x y (inl r) (inr q) =
      absurd (q.1 (sym (ap sign_at q.0.0) ∙ ap sign_at r.read.read.front.0 ∙ r.read.read.front.1))
  other_det n m ts a b x y (inr r) (inl q) =
      absurd (r.1 (sym (ap sign_at r.0.0) ∙ ap sign_at q.read.read.front.0 ∙ q.read.read.front.1))
  other_det n m ts a b x y (inr r) (inr q) = (sym r.0.0 ∙ q.0.0, r.0.1 ∙ sym q.0.1)

  other_front : (n : ℕ) (ts rest : List Token) (x : Option Stmt) → other_part (S n) ts rest x
      → Front (λ n. other_part (S n)) elses n ts rest x
  other_front n ts rest x (inl r) = let p = good_else.front n ts rest r.part r.read in
      record {
        front = p.front;
        is = p.is;
        alike = λ y h. inl (record { part = r.part; is = r.is; read = p.alike y h });
      }
  other_front n ts rest x (inr r) = record { front = []; is = r.0.0; alike = λ y h. inr ((refl, r.0.1), no_else y h) }
    where
      no_else : (y : List Token) → (sign_at y ≡ sign_at rest) ⊎ (elses (sign_at y) ≡ false) → sign_at y ≡ sign.Else → ⊥
      no_else y (inl e) is = r.1 (sym e ∙ is)
      no_else y (inr e) is = clash (sym (ap elses is) ∙ e)

  pub good_other : Good (λ n. other_part (S n)) elses no_sign elses true
  good_other = record {
    det = λ n m ts a b x y r q h k. other_det n m ts a b x y r q;
    front = other_front;
    starts = λ n ts rest x. elim
        [ inl r ↦ inl (ap elses (ap sign_at r.read.read.front.0 ∙ r.read.read.front.1)) | inr r ↦ inr (refl, r.0.0) ];
    up = λ n m ts rest x le.
        elim [
          | inl r ↦ inl (record { part = r.part; is = r.is; read = good_else.up n m ts rest r.part le r.read })
          | inr r ↦
              inr r
        ];
  }

pub good_do_tail : Good (λ n. token sign.While then bracketed (cond n) then token sign.Semicolon)
    (among (sign.While ∷ [])) no_sign no_sign false
good_do_tail = good_chain (good_one sign.While) (good_chain good_closed_cond (good_one sign.Semicolon) refl) refl

pub good_maybe_first : Good (λ n. Made first'.Simple (simple n) or empty first'.Nothing) begins_simple simple_goes_on
    no_sign true
good_maybe_first = good_or_empty (good_made good_simple first'.Simple) first'.Nothing refl

pub good_first : Good (λ n. first_part (declare n) (simple n)) begins_first no_sign no_sign false
good_first = named _ _ _
    (good_or (good_made good_declare first'.Declare)
    (good_made (good_pair good_maybe_first (good_one sign.Semicolon) refl) first) refl refl) refl refl refl

pub good_maybe_simple : Good (λ n. optional (simple n)) begins_simple simple_goes_on no_sign true
good_maybe_simple = good_optional good_simple refl

pub good_maybe_cond : Good (λ n. optional (cond n)) begins_cond maybe_cond_goes_on no_sign true
good_maybe_cond = good_optional good_cond refl

module _ {S : Rule Stmt} (gs : Good S begins_stmt no_sign elses false) where
  pub good_part : Good (λ n. Made part'.Declare (declare n) or Made part'.Stmt (S n)) begins_part no_sign elses false
  good_part = named _ _ _
      (good_or (good_made good_declare part'.Declare) (good_made gs part'.Stmt) refl refl) refl refl refl

  pub good_parts : Good (λ n. Many (Made part'.Declare (declare n) or Made part'.Stmt (S n))) begins_part begins_part
      elses true
  good_parts = good_many good_part (apart_of no_sign begins_part refl) (apart_of elses begins_part refl)

  pub good_block_with : Good (λ n. block_with (declare n) (S n)) (among (sign.OpenBrace ∷ [])) no_sign elses false
  good_block_with = named _ _ _
      (good_made (good_pair (good_at sign.OpenBrace) (good_pair good_parts (good_one sign.CloseBrace) refl) refl)
      s.block_of) refl refl refl

  -- what stands behind the condition of an if
  pub good_branches : Good (λ n. S n then other_part (S n)) begins_stmt no_sign elses false
  good_branches = named _ _ _ (good_pair gs (good_other gs) refl) refl refl refl

  pub good_if : Good (λ n. at sign.If then bracketed (cond n) then S n then other_part (S n)) (among (sign.If ∷ []))
      no_sign elses false
  good_if = good_chain (good_at sign.If) (good_chain good_closed_cond good_branches refl) refl

  pub good_while : Good (λ n. at sign.While then bracketed (cond n) then S n) (among (sign.While ∷ [])) no_sign elses
      false
  good_while = good_chain (good_at sign.While) (good_chain good_closed_cond gs refl) refl

  pub good_do : Good (λ n. at sign.Do then S n then token sign.While then bracketed (cond n) then token sign.Semicolon)
      (among (sign.Do ∷ [])) no_sign elses false
  good_do = named _ _ _ (good_pair (good_at sign.Do) (good_pair gs good_do_tail refl) refl) refl refl refl

  pub good_for : Good (λ n. at sign.For then token sign.Open then first_part (declare n) (simple n)
      then optional (cond n) then token sign.Semicolon then optional (simple n) then token sign.Close then S n)
      (among (sign.For ∷ [])) no_sign elses false
  good_for =
      good_chain (good_at sign.For)
      (good_chain (good_one sign.Open)
      (good_chain good_first
      (good_pair good_maybe_cond
      (good_chain (good_one sign.Semicolon)
      (good_pair good_maybe_simple (good_chain (good_one sign.Close) gs refl) refl) refl) refl) refl) refl) refl

  pub good_nested : Good (λ n. nested_stmt (declare n) (simple n) (cond n) (S n)) begins_level no_sign elses false
  good_nested = named _ _ _
      (good_or (good_made good_block_with stmt'.Block)
      (good_or (good_made good_if s.if_of)
      (good_or (good_made good_while s.while_of) (good_or (good_made good_do s.do_of) (good_made good_for s.for_of)
      refl refl) refl refl) refl refl) refl refl) refl refl refl

abbrev pub stmt_layer : Rule Stmt → Rule Stmt
stmt_layer S n = level (λ k. nested_stmt (declare k) (simple k) (cond k) (S k)) n or flat_stmt n

pub stmt_is : (n : ℕ) → stmt n ≡ stmt_layer stmt n
stmt_is zero = refl
stmt_is (suc n) = refl

pub stmt_causal : (G H : Rule Stmt) (n : ℕ) → ((k : ℕ) → k < n → G k ≡ H k) → stmt_layer G n ≡ stmt_layer H n
stmt_causal G H zero h = refl
stmt_causal G H (suc n) h =
    ap (λ P. nested_stmt (declare n) (simple n) (cond n) P or flat_stmt (suc n)) (h n (omega arith))

pub good_layer : (S : Rule Stmt) → Good S begins_stmt no_sign elses false
    → Good (stmt_layer S) begins_stmt no_sign elses false
good_layer S gs = named _ _ _ (good_or (good_level (good_nested gs)) good_flat refl refl) refl refl refl

pub good_stmt : Good stmt begins_stmt no_sign elses false
good_stmt = good_fix stmt_layer stmt begins_stmt no_sign elses false stmt_is stmt_causal good_layer

pub good_inner_block : Good inner_block (among (sign.OpenBrace ∷ [])) no_sign elses false
good_inner_block = good_block_with good_stmt

pub same_stmt : Same (stmt_layer stmt) stmt
same_stmt =
    record {
      to = λ n ts rest x r. subst (λ P. P ts rest x) (sym (stmt_is n)) r;
      back = λ n ts rest x r.
          subst (λ P. P ts rest x) (stmt_is n) r;
    }

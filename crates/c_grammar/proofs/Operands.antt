-- How an operand is read, and where it fails.
use Rattle.std.proofs.Common.{cond, ◌≡◌, ◌≤◌, ℕ, zero, suc, Bool, true, false, List, [], ◌∷◌, ◌++◌, refl, sym, ap}
use Rattle.std.proofs.Common.{◌∙◌, subst, inl, inr, arith}
use Rattle.fore_base.specs.declared.place.Place.{Place}
use Rattle.c_ast.specs.declared.operands.Arrow.{Arrow}
use Rattle.c_ast.specs.declared.operands.Name.{Name}
use Rattle.c_ast.specs.declared.operands.Operand.{Operand}
use Rattle.c_ast.specs.declared.operands.Operand.TheVariants as operand'
use Rattle.c_lexer.specs.declared.token.Token.{Token}
use Rattle.c_grammar.specs.words.Faults.{Alive, Fails, Takes}
use Rattle.c_grammar.specs.words.Faults.Fails.{sunk}
use Rattle.c_grammar.specs.Grammar.{Rule, level, ◌then◌, Many}
use Rattle.c_grammar.specs.words.Sets.{no_sign, arrows, names, opens, commas, tails, operand_goes_on, operands_go_on}
use Rattle.c_grammar.specs.words.Sets.{arguments_go_on, begins_operand}
use Rattle.c_grammar.specs.words.Shapes.{IsName, a_name, some_arrows, next_argument, some_arguments, all_arguments}
use Rattle.c_grammar.specs.words.Shapes.{a_literal}
use Rattle.c_grammar.specs.Signs.{sign_of, sign_at, same_sign}
use Rattle.c_grammar.specs.Syntax.{name, name_of, path_of, middle, series, call, call_of, argument}
use Rattle.c_grammar.specs.declared.fault.SyntaxFault.{SyntaxFault}
use Rattle.c_grammar.specs.declared.fault.SyntaxFault.TheVariants.{Deep}
use Rattle.c_grammar.specs.declared.signs.Sign.TheVariants as sign
use Rattle.c_grammar.proofs.Decide.{apart_of, within}
use Rattle.c_grammar.proofs.Goods.{good_name, good_arrows, good_operands}
use Rattle.c_grammar.proofs.Goods.{good_arguments, good_argument, good_tail}
use Rattle.c_grammar.proofs.Goods.{good_word, good_literal, tail_part, word_of, Tail, factored, inner_arguments}
use Rattle.c_grammar.proofs.Goods.{same_layer, layer_is, begins_literal}
use Rattle.c_grammar.proofs.Lists.{Leads}
use Rattle.c_grammar.proofs.Parts.{Same, good_made, good_nothing, good_level, takes_made, fails_made, fails_same}
use Rattle.c_grammar.proofs.Parts.{takes_same, takes_nothing, takes_left, takes_right, fails_left, fails_right}
use Rattle.c_grammar.proofs.Parts.{fails_level, takes_level, not_below}
use Rattle.c_grammar.proofs.Families.{make, and_then}
use Rattle.c_grammar.proofs.Readings.{tok, null_operand}
use Rattle.c_grammar.proofs.Series.{series_fails, series_begun}
use Rattle.c_grammar.proofs.Rules.{Good, rest_of}
use Rattle.c_grammar.proofs.Steps.{pair, in_front, in_back, widen_takes, widen_fails}
use Rattle.c_grammar.proofs.Tokens.{sample, real, takes_name}
use Rattle.c_grammar.specs.Hopeless.{opener}
use Rattle.c_grammar.proofs.SignLemmas.{clash, one_of, and_of}

gs : Good argument begins_operand operand_goes_on no_sign false
gs = good_argument

pub least_argument : (n : ℕ) → Alive argument no_sign n []
least_argument = null_operand (level call)

-- the list within
module _ (n : ℕ) (ts : List Token) where
  pub none_there : begins_operand (sign_at ts) ≡ false → Takes some_arguments.rule arguments_go_on no_sign n ts ts []
  none_there other = widen_takes arguments_go_on no_sign refl refl
      (takes_right (good_operands gs) (good_nothing []) (apart_of begins_operand no_sign refl) refl refl n ts ts []
      other (takes_nothing [] n ts))

  some_take : (rest : List Token) (os : List Operand) → begins_operand (sign_at ts) ≡ true
      → Takes (λ n. series sign.Comma (argument n)) operands_go_on no_sign n ts rest os →
      Takes some_arguments.rule arguments_go_on no_sign n ts rest os
  some_take rest os first t = widen_takes arguments_go_on no_sign refl refl
      (takes_left (good_operands gs) (good_nothing []) (apart_of begins_operand no_sign refl) refl n ts rest os first t)

  some_fail : (end : Place) (e : SyntaxFault) → begins_operand (sign_at ts) ≡ true
      → Fails (λ n. series sign.Comma (argument n)) operands_go_on no_sign no_sign n end ts e →
      Fails some_arguments.rule arguments_go_on no_sign no_sign n end ts e
  some_fail end e first f = widen_fails arguments_go_on no_sign no_sign refl refl refl
      (fails_left (good_operands gs) (good_nothing []) (apart_of begins_operand no_sign refl) refl n end ts first e f)

  pub bad_first : (end : Place) (e : SyntaxFault) → begins_operand (sign_at ts) ≡ true
      → Fails argument operand_goes_on no_sign no_sign n end ts e
      → Fails some_arguments.rule arguments_go_on no_sign no_sign n end ts e
  bad_first end e first f =
      some_fail end e first (series_fails sign.Comma operands_go_on no_sign gs refl refl refl f)

  pub begun : (end : Place) (mid : List Token) (x : Operand) → begins_operand (sign_at ts) ≡ true
      → Takes argument operand_goes_on no_sign n ts mid x →
      Leads next_argument.rule commas operand_goes_on no_sign no_sign some_arguments.rule arguments_go_on no_sign
      no_sign n end ts mid (x ∷ [])
  begun end mid x first t = let l = series_begun sign.Comma operands_go_on no_sign gs refl refl refl {end = end} t in
      record {
        takes = λ rest ys u. some_take rest (x ∷ ys) first (l.takes rest ys u);
        fails = λ e f. some_fail end e first (l.fails e f);
      }

-- an operand of a call
abbrev pub Inner : Rule (List Operand)
Inner = inner_arguments argument

pub good_inner : Good Inner opens no_sign no_sign false
good_inner = good_level (good_arguments gs)

pub same_argument : Same (λ n. factored (Inner n)) argument
same_argument = record {
  to = λ n ts rest x r. subst (λ P. P ts rest x) (sym (layer_is n)) ((same_layer argument).to n ts rest x r);
  back = λ n ts rest x r. (same_layer argument).back n ts rest x (subst (λ P. P ts rest x) (layer_is n) r);
}

-- an operand of the rule F, whose lists in brackets are those of the rule R
module _ {R : Rule (List Operand)} (gr : Good R opens no_sign no_sign false) {F : Rule Operand}
    (same : Same (λ n. factored (R n)) F) (n : ℕ) (end : Place) (ts : List Token) where
  pub takes_literal : (rest : List Token) (x : Operand) → names (sign_at ts) ≡ false
      → Takes a_literal.rule no_sign no_sign n ts rest x → Takes F operand_goes_on no_sign n ts rest x
  takes_literal rest x other t = takes_same same (widen_takes operand_goes_on no_sign refl refl
      (takes_right (good_word gr) good_literal (apart_of names begins_literal refl) refl refl n ts rest x other t))

  pub fails_literal : (e : SyntaxFault) → names (sign_at ts) ≡ false
      → Fails a_literal.rule no_sign no_sign no_sign n end ts e → Fails F operand_goes_on no_sign no_sign n end ts e
  fails_literal e other f = fails_same same e (widen_fails operand_goes_on no_sign no_sign refl refl refl
      (fails_right (good_word gr) good_literal (apart_of names begins_literal refl) refl refl n end ts other e f))

  word_takes : (rest : List Token) (p : Name × Tail) → names (sign_at ts) ≡ true
      → Takes (λ n. name then tail_part (R n)) tails no_sign n ts rest p
      → Takes F operand_goes_on no_sign n ts rest (word_of p)
  word_takes rest p first t = takes_same same (widen_takes operand_goes_on no_sign refl refl
      (takes_left (good_word gr) good_literal (apart_of names begins_literal refl) refl n ts rest (word_of p) first
      (takes_made word_of t)))

  word_fails : (e : SyntaxFault) → names (sign_at ts) ≡ true
      → Fails (λ n. name then tail_part (R n)) tails no_sign no_sign n end ts e
      → Fails F operand_goes_on no_sign no_sign n end ts e
  word_fails e first f = fails_same same e (widen_fails operand_goes_on no_sign no_sign refl refl refl
      (fails_left (good_word gr) good_literal (apart_of names begins_literal refl) refl n end ts first e
      (fails_made word_of e f)))

  least_tail : Alive (λ n. tail_part (R n)) no_sign n []
  least_tail =
      record { more = []; tree = inr []; reads = λ y h. inr (record { part = []; read = Many.none; is = refl }) }

  pub no_name : (e : SyntaxFault) → names (sign_at ts) ≡ true → Fails a_name.rule no_sign no_sign no_sign n end ts e
      → Fails F operand_goes_on no_sign no_sign n end ts e
  no_name e first f = word_fails e first
      (widen_fails tails no_sign no_sign refl refl refl (in_front good_name (good_tail gr) refl refl least_tail f))

  module _ (mid : List Token) (x : Name) (first : names (sign_at ts) ≡ true) (is_name : IsName ts mid x) where
    back_fails : (e : SyntaxFault) → Fails (λ n. tail_part (R n)) tails no_sign no_sign n end mid e
        → Fails F operand_goes_on no_sign no_sign n end ts e
    back_fails e f = word_fails e first
        (widen_fails tails no_sign no_sign refl refl refl
        (in_back good_name (good_tail gr) refl refl refl (takes_name n ts mid x is_name) f))

    back_takes : (rest : List Token) (t : Tail) → Takes (λ n. tail_part (R n)) tails no_sign n mid rest t
        → Takes F operand_goes_on no_sign n ts rest (word_of (x, t))
    back_takes rest t u = word_takes rest (x, t) first
        (widen_takes tails no_sign refl refl (pair good_name (good_tail gr) refl (takes_name n ts mid x is_name) u))

    pub bad_arrows : (e : SyntaxFault) → opens (sign_at mid) ≡ false
        → Fails some_arrows.rule arrows no_sign no_sign n end mid e → Fails F operand_goes_on no_sign no_sign n end ts e
    bad_arrows e other f = back_fails e (widen_fails tails no_sign no_sign refl refl refl
        (fails_right (good_made gr inl) (good_made good_arrows inr) (apart_of opens arrows refl) refl refl n end mid
        other e (fails_made inr e f)))

    pub path_there : (rest : List Token) (es : List Arrow) → opens (sign_at mid) ≡ false
        → Takes some_arrows.rule arrows no_sign n mid rest es →
        Takes F operand_goes_on no_sign n ts rest (operand'.Path (path_of (x, es)))
    path_there rest es other t = back_takes rest (inr es) (widen_takes tails no_sign refl refl
        (takes_right (good_made gr inl) (good_made good_arrows inr) (apart_of opens arrows refl) refl refl n mid rest
        (inr es) other (takes_made inr t)))

    pub bad_call : (e : SyntaxFault) → opens (sign_at mid) ≡ true → Fails R no_sign no_sign no_sign n end mid e
        → Fails F operand_goes_on no_sign no_sign n end ts e
    bad_call e open_there f = back_fails e (widen_fails tails no_sign no_sign refl refl refl
        (fails_left (good_made gr inl) (good_made good_arrows inr) (apart_of opens arrows refl) refl n end mid
        open_there e (fails_made inl e f)))

    pub call_there : (rest : List Token) (os : List Operand) → opens (sign_at mid) ≡ true
        → Takes R no_sign no_sign n mid rest os
        → Takes F operand_goes_on no_sign n ts rest (operand'.Call (call_of (x, os)))
    call_there rest os open_there t = back_takes rest (inl os) (widen_takes tails no_sign refl refl
        (takes_left (good_made gr inl) (good_made good_arrows inr) (apart_of opens arrows refl) refl n mid rest (inl os)
        open_there (takes_made inl t)))

-- a list in brackets one level further in
pub deeper_fails : (n k : ℕ) → n ≡ suc k → (end : Place) (ts : List Token) (e : SyntaxFault)
    → Fails all_arguments.rule no_sign no_sign no_sign k end ts e → Fails Inner no_sign no_sign no_sign n end ts e
deeper_fails n k is end ts e f =
    subst (λ m. Fails Inner no_sign no_sign no_sign m end ts e) (sym is) (fails_level (good_arguments gs) k end ts e f)

pub deeper_takes : (n k : ℕ) → n ≡ suc k → (ts rest : List Token) (os : List Operand)
    → Takes all_arguments.rule no_sign no_sign k ts rest os → Takes Inner no_sign no_sign n ts rest os
deeper_takes n k is ts rest os t =
    subst (λ m. Takes Inner no_sign no_sign m ts rest os) (sym is) (takes_level (good_arguments gs) k ts rest os t)

abbrev starts : List Token → Bool
starts [] = false
starts (t ∷ ts) = true

-- with no level left, a call cannot go on at its bracket
module _ (mid rest : List Token) (u : Token) (mid_is : mid ≡ u ∷ rest) (open_there : sign_of u ≡ sign.Open) where
  no_call : (m : ℕ) (z y : List Token) (x : Tail) → m ≤ 0 → sign_at z ≡ sign_of u → tails (sign_at y) ≡ false
      → tail_part (Inner m) z y x → ⊥
  no_call zero z y x le same h (inl r) = r.read
  no_call (suc m) z y x le same h (inl r) = not_below m le
  no_call m z y x le same h (inr r) = elim (good_arrows.starts m z y r.part r.read) [
    | inl f ↦ clash (sym (ap opens (same ∙ open_there)) ∙ apart_of opens arrows refl (sign_at z) f)
    | inr e ↦ clash (sym (ap tails (sym (ap sign_at e.1) ∙ same ∙ open_there)) ∙ h)
  ]

  called_on : Alive (λ n. tail_part (Inner n)) no_sign 1 (u ∷ [])
  called_on = record {
    more = sample sign.Close ∷ [];
    tree = inl [];
    reads = λ y h. inl (make inl (make middle
        (and_then _ (refl, open_there) (and_then _ (inr (refl, refl)) (tok sign.Close (real sign.Close tt) y)))));
  }

  module _ (ts : List Token) (t : Token) (ts_is : ts ≡ t ∷ mid) (id_there : sign_of t ≡ sign.Id) where
    not_called : (m : ℕ) (z y : List Token) (x : Operand) → m ≤ 0 → sign_at z ≡ sign_of u → operand_goes_on (sign_at y)
        ≡ false → factored (Inner m) (t ∷ z) y x → ⊥
    not_called m z y x le same h (inl r) =
        no_call m z y r.part.1 le same (within tails operand_goes_on refl (sign_at y) h)
        (subst (λ l. tail_part (Inner m) l y r.part.1) (sym (ap rest_of r.read.front.read.0)) r.read.back)
    not_called m z y x le same h (inr r) = elim (good_literal.starts m (t ∷ z) y x r) [
      | inl f ↦ clash (sym (ap names id_there) ∙ apart_of names begins_literal refl (sign_of t) f)
      | inr e ↦ clash (sym e.0)
    ]

    is_called : t.at ≡ (opener (t ∷ []) u).at
    is_called = ap (λ b. (cond b t u).at)
        (sym
        (and_of (same_sign sign.Id (sign_of t)) (same_sign sign.Open (sign_of u)) (ap (same_sign sign.Id) id_there)
        (ap (same_sign sign.Open) open_there)))

    named : (y : List Token) → name (t ∷ y) y (name_of t)
    named y = record { part = t; read = (refl, id_there); is = refl }

    pub too_deep : (end : Place) → Fails argument operand_goes_on no_sign no_sign 0 end ts (Deep t.at)
    too_deep end = sunk (record {
      pre = t ∷ [];
      next = u;
      post = rest;
      is = ts_is ∙ ap (λ l. t ∷ l) mid_is;
      alive = record {
        more = [];
        tree = operand'.Path (path_of (name_of t, []));
        reads = λ y h. inl (make operand'.Path (make path_of (and_then y (named y) Many.none)));
      };
      dead = λ m le z y x same h r. not_called m z y x le same h (same_argument.back m (t ∷ z) y x r);
      room = 1;
      place = is_called;
      early = λ e. absurd (clash (ap starts e));
      higher = omega arith;
      deeper = record {
        more = called_on.more;
        tree = word_of (name_of t, called_on.tree);
        reads = λ y h. same_argument.to 1 _ y _
            (inl (make word_of (and_then _ (named (u ∷ (called_on.more ++ y))) (called_on.reads y h))));
      };
    })

-- the same, by the name that was read
pub deep_call : (n : ℕ) (end : Place) (ts mid : List Token) (x : Name) → n ≡ 0 → IsName ts mid x → opens (sign_at mid)
    ≡ true → Fails argument operand_goes_on no_sign no_sign n end ts (Deep x.at)
deep_call n end ts mid x is (t, ts_is, id_there, same) first =
    subst (λ m. Fails argument operand_goes_on no_sign no_sign m end ts (Deep x.at)) (sym is)
    (subst (λ (x : Name). Fails argument operand_goes_on no_sign no_sign 0 end ts (Deep x.at)) (sym same)
    (next_token mid ts_is first))
  where
    next_token : (mid : List Token) → ts ≡ t ∷ mid → opens (sign_at mid) ≡ true
        → Fails argument operand_goes_on no_sign no_sign 0 end ts (Deep t.at)
    next_token [] e f = absurd (clash (sym f))
    next_token (u ∷ rest) e f = too_deep (u ∷ rest) rest u refl (one_of sign.Open (sign_of u) f) ts t e id_there end

-- An if with its else, and levels that are opened by their own first token.
use Rattle.std.proofs.Common.{◌≡◌, ◌⊎◌, ℕ, true, false, List, [], ◌∷◌, ◌++◌, Option, Some, None, refl, sym, ap, ◌∙◌}
use Rattle.std.proofs.Common.{inl, inr}
use Rattle.fore_base.specs.declared.place.Place.{Place}
use Rattle.c_ast.specs.declared.statements.Stmt.{Stmt}
use Rattle.c_ast.specs.declared.statements.Stmt.TheVariants as stmt'
use Rattle.c_lexer.specs.declared.token.Token.{Token}
use Rattle.c_grammar.specs.words.Faults.{Alive, Dead, Fails, Takes}
use Rattle.c_grammar.specs.Grammar.{Rule, ◌then◌}
use Rattle.c_grammar.specs.words.Sets.{no_sign, elses, begins_stmt}
use Rattle.c_grammar.specs.Signs.{sign_at}
use Rattle.c_grammar.specs.Syntax.{behind, stmt, other_part}
use Rattle.c_grammar.specs.declared.fault.SyntaxFault.{SyntaxFault}
use Rattle.c_grammar.specs.declared.signs.Sign.TheVariants as sign
use Rattle.c_grammar.proofs.Decide.{apart_of, within}
use Rattle.c_grammar.proofs.Rules.{Good, Fits, fails_map, fails_front, fails_back, bars_both, same_head, nonempty}
use Rattle.c_grammar.proofs.Statements.{good_stmt, good_other, good_branches}
use Rattle.c_grammar.proofs.Families.{and_then}
use Rattle.c_grammar.proofs.Levels.{empty_stmt}
use Rattle.c_grammar.proofs.Steps.{widen_fails}
use Rattle.c_grammar.proofs.Tokens.{sample}
use Rattle.c_grammar.proofs.SignLemmas.{clash, one_of}
use Rattle.c_grammar.specs.words.Parted.{begins_level}

abbrev pub Tail : Rule (Stmt × Option Stmt)
Tail n = stmt n then other_part (stmt n)

abbrev least_other : (n : ℕ) → Alive (λ n. other_part (stmt n)) elses n []
least_other n = record { more = []; tree = None; reads = λ y h. inr ((refl, refl), λ e. clash (sym (ap elses e) ∙ h)) }

-- the statement of an if fails
pub bad_then : (n : ℕ) (end : Place) (ts : List Token) (e : SyntaxFault)
    → Fails stmt no_sign elses begins_level n end ts e → Fails Tail no_sign elses begins_level n end ts e
bad_then n end ts e f = widen_fails no_sign elses begins_level refl refl refl
    (fails_front good_stmt (good_other good_stmt) (apart_of no_sign elses refl) n end ts (least_other n) after e f)
  where
    after : (y : List Token) → bars_both elses elses (sign_at y) ≡ false → elses (sign_at y) ≡ false
    after y h = within elses (bars_both elses elses) refl (sign_at y) h

-- the else that stands there belongs to this if
abbrev Else : Rule Stmt
Else n = behind sign.Else (stmt n)

-- an else and its statement, or none, and where the statement fails
module _ (n : ℕ) (end : Place) (mid : List Token) (here : sign_at mid ≡ sign.Else) where
  first : elses (sign_at mid) ≡ true
  first = ap elses here

  only_else : (m : ℕ) (z y : List Token) (o : Option Stmt) → elses (sign_at z) ≡ true → other_part (stmt m) z y o
      → (v : Stmt) × Else m z y v
  only_else m z y o h (inl r) = (r.part, r.read)
  only_else m z y o h (inr r) = absurd (r.1 (sym (ap sign_at r.0.0) ∙ one_of sign.Else (sign_at z) h))

  alive_other : (m : ℕ) (pre : List Token) → Alive Else elses m pre → Alive (λ n. other_part (stmt n)) elses m pre
  alive_other m pre a = record {
    more = a.more;
    tree = Some a.tree;
    reads = λ y h. inl (record { part = a.tree; is = refl; read = a.reads y h });
  }

  other_dead : (m : ℕ) (pre post : List Token) → mid ≡ pre ++ post → Dead Else no_sign m pre post
      → Dead (λ n. other_part (stmt n)) no_sign m pre post
  other_dead m pre post split d z y o same h r =
      let q = only_else m (pre ++ z) y o (ap elses (same_head pre z post mid split same) ∙ first) r in
      d z y q.0 same h q.1

  pub other_fails : (e : SyntaxFault) → Fails Else no_sign elses no_sign n end mid e
      → Fails (λ n. other_part (stmt n)) no_sign elses no_sign n end mid e
  other_fails e h = fails_map n (λ m le. alive_other m) other_dead (λ s h. h) e h

  pub other_takes : (rest : List Token) (x : Stmt) → Takes Else no_sign elses n mid rest x
      → Takes (λ n. other_part (stmt n)) no_sign elses n mid rest (Some x)
  other_takes rest x t = record {
    front = t.front;
    is = t.is;
    alike = λ y h. inl (record { part = x; is = refl; read = t.alike y h });
    only = λ m z y o same h r.
        let q = only_else m (t.front ++ z) y o (ap elses (same_head t.front z rest mid t.is same) ∙ first) r in
        t.only m z y q.0 same h q.1;
  }

-- no else stands there
pub other_none : (n : ℕ) (ts : List Token) → elses (sign_at ts) ≡ false
    → Takes (λ n. other_part (stmt n)) no_sign elses n ts ts None
other_none n ts other = record { front = []; is = refl; alike = alike; only = only }
  where
    no_else : (y : List Token) → (sign_at y ≡ sign_at ts) ⊎ (elses (sign_at y) ≡ false) → sign_at y ≡ sign.Else → ⊥
    no_else y (inl e) is = clash (sym (ap elses is) ∙ ap elses e ∙ other)
    no_else y (inr e) is = clash (sym (ap elses is) ∙ e)

    alike : (y : List Token) → (sign_at y ≡ sign_at ts) ⊎ (elses (sign_at y) ≡ false) → other_part (stmt n) y y None
    alike y h = inr ((refl, refl), no_else y h)

    only : (m : ℕ) (z y : List Token) (o : Option Stmt) → sign_at z ≡ sign_at ts → no_sign (sign_at y) ≡ false
        → other_part (stmt m) z y o → z ≡ y
    only m z y o same h (inl r) =
        absurd
        (clash (sym (ap elses r.read.read.front.1) ∙ ap elses (sym (ap sign_at r.read.read.front.0) ∙ same) ∙ other))
    only m z y o same h (inr r) = r.0.0

-- the branches of an if: the second fails
pub bad_else : (n : ℕ) (end : Place) (ts mid : List Token) (x : Stmt) (e : SyntaxFault)
    → Takes stmt no_sign elses n ts mid x → sign_at mid ≡ sign.Else →
    Fails (λ n. other_part (stmt n)) no_sign elses no_sign n end mid e
    → Fails Tail no_sign elses begins_level n end ts e
bad_else n end ts mid x e took here f =
    widen_fails no_sign elses begins_level refl refl refl
    (fails_back good_stmt (good_other good_stmt) (apart_of no_sign elses refl) {hb = no_sign} n end ts mid x fits
    took
    (λ u h. absurd (clash (sym h))) (λ _. nonempty good_stmt refl refl refl took) e f)
  where
    fits : Fits elses elses mid
    fits s h = inr (one_of sign.Else s h ∙ sym here)

-- both branches are read
pub good_tail : Good Tail begins_stmt no_sign elses false
good_tail = good_branches good_stmt

-- the shortest branches
pub least_tail : (n : ℕ) → Alive Tail elses n []
least_tail n = record {
  more = sample sign.Semicolon ∷ [];
  tree = (stmt'.Empty (sample sign.Semicolon).at, None);
  reads = λ y h. and_then _ (empty_stmt n y) (inr ((refl, refl), λ e. clash (sym (ap elses e) ∙ h)));
}

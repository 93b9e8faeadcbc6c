-- Levels that are opened by their own first token.
use Rattle.std.proofs.Common.{◌≡◌, ◌⊎◌, ℕ, zero, suc, Bool, true, false, List, [], ◌∷◌, ◌++◌, None, refl, sym, ap}
use Rattle.std.proofs.Common.{◌∙◌, subst, append_assoc, inl, inr}
use Rattle.fore_base.specs.declared.place.Place.{Place}
use Rattle.c_ast.specs.declared.statements.First.TheVariants as first'
use Rattle.c_ast.specs.declared.statements.Stmt.{Stmt}
use Rattle.c_ast.specs.declared.statements.Stmt.TheVariants as stmt'
use Rattle.c_lexer.specs.declared.token.Token.{Token}
use Rattle.c_grammar.specs.Grammar.{Many}
use Rattle.c_grammar.specs.Hopeless.{place_at}
use Rattle.c_grammar.specs.Signs.{or_on, same_sign, sign_of, sign_at}
use Rattle.c_grammar.specs.Syntax as s
use Rattle.c_grammar.specs.Syntax.{at, cond, stmt}
use Rattle.c_grammar.specs.declared.fault.SyntaxFault.TheVariants.{Deep}
use Rattle.c_grammar.specs.declared.signs.Sign.{Sign}
use Rattle.c_grammar.specs.declared.signs.Sign.TheVariants as sign
use Rattle.c_grammar.specs.words.Faults.{Alive, Fails}
use Rattle.c_grammar.specs.words.Sets.{among, no_sign, elses}
use Rattle.c_grammar.proofs.Conditions.{least_cond}
use Rattle.c_grammar.proofs.Decide.{apart_of}
use Rattle.c_grammar.proofs.Parts.{deep_first}
use Rattle.c_grammar.proofs.Families.{make, and_then}
use Rattle.c_grammar.proofs.Readings.{tok, at_tok, at_told}
use Rattle.c_grammar.proofs.SignLemmas.{clash, one_of}
use Rattle.c_grammar.proofs.Statements.{good_flat}
use Rattle.c_grammar.proofs.Tokens.{sample, real}
use Rattle.c_grammar.specs.words.Parted.{begins_flat, begins_level}

-- a sign of a list is the first, or one of the others
pub either_of : (s : Sign) (ss : List Sign) (x : Sign) → among (s ∷ ss) x ≡ true → (x ≡ s) ⊎ (among ss x ≡ true)
either_of s ss x h = split (same_sign s x) refl h
  where
    split : (v : Bool) → same_sign s x ≡ v → or_on v (among ss x) ≡ true → (x ≡ s) ⊎ (among ss x ≡ true)
    split true e k = inl (one_of s x (ap (λ b. or_on b false) e))
    split false e k = inr k

-- shortest statements
pub empty_stmt : (n : ℕ) (y : List Token)
    → stmt n (sample sign.Semicolon ∷ y) y (stmt'.Empty (sample sign.Semicolon).at)
empty_stmt zero y = inr (inl (make stmt'.Empty (at_tok sign.Semicolon (real sign.Semicolon tt) y)))
empty_stmt (suc n) y = inr (inl (make stmt'.Empty (at_tok sign.Semicolon (real sign.Semicolon tt) y)))

abbrev pub least_stmt : (n : ℕ) → Alive stmt elses n []
least_stmt n =
    record {
      more = sample sign.Semicolon ∷ [];
      tree = stmt'.Empty (sample sign.Semicolon).at;
      reads = λ y h. empty_stmt n y;
    }

-- a condition in brackets, with what stands after it
module _ (t : Token) where
  c : Alive cond no_sign 0 []
  c = least_cond 0

  closed : (y : List Token) → s.bracketed (cond 0) (sample sign.Open ∷ (c.more ++ (sample sign.Close ∷ y))) y c.tree
  closed y = record {
    part = (sample sign.Open, (c.tree, sample sign.Close));
    is = refl;
    read = record {
      mid = c.more ++ (sample sign.Close ∷ y);
      front = tok sign.Open (real sign.Open tt) _;
      back = record {
        mid = sample sign.Close ∷ y;
        front = c.reads (sample sign.Close ∷ y) refl;
        back = tok sign.Close (real sign.Close tt) y;
      };
    };
  }

  nothing : Stmt
  nothing = stmt'.Empty (sample sign.Semicolon).at

  abbrev tail : List Token
  tail = sample sign.Semicolon ∷ []

  -- what stands after the first token of each level
  on_block : sign_of t ≡ sign.OpenBrace → Alive stmt elses 1 (t ∷ [])
  on_block e = record {
    more = sample sign.CloseBrace ∷ [];
    tree = stmt'.Block (s.block_of (t.at, ([], sample sign.CloseBrace)));
    reads = λ y h.
        inl
        (inl
        (make stmt'.Block
        (make s.block_of
        (and_then _ (at_told t sign.OpenBrace e _)
        (and_then _ Many.none (tok sign.CloseBrace (real sign.CloseBrace tt) y))))));
  }

  abbrev if_more : List Token
  if_more = sample sign.Open ∷ (c.more ++ (sample sign.Close ∷ tail))

  joined_front : (y : List Token) → (sample sign.Open ∷ (c.more ++ (sample sign.Close ∷ tail))) ++ y ≡ sample sign.Open
      ∷ (c.more ++ (sample sign.Close ∷ (sample sign.Semicolon ∷ y)))
  joined_front y = ap (λ l. sample sign.Open ∷ l) (append_assoc c.more (sample sign.Close ∷ tail) y)

  on_if : sign_of t ≡ sign.If → Alive stmt elses 1 (t ∷ [])
  on_if e = record {
    more = if_more;
    tree = s.if_of (t.at, (c.tree, (stmt'.Empty (sample sign.Semicolon).at, None)));
    reads = λ y h.
        inl
        (inr
        (inl
        (make s.if_of
        (and_then _ (at_told t sign.If e _)
        (and_then (sample sign.Semicolon ∷ y)
        (subst (λ l. s.bracketed (cond 0) l (sample sign.Semicolon ∷ y) c.tree) (sym (joined_front y)) (closed _))
        (and_then _ (empty_stmt 0 y) (inr ((refl, refl), λ i. clash (sym (ap elses i) ∙ h)))))))));
  }

  on_while : sign_of t ≡ sign.While → Alive stmt elses 1 (t ∷ [])
  on_while e = record {
    more = if_more;
    tree = s.while_of (t.at, (c.tree, stmt'.Empty (sample sign.Semicolon).at));
    reads = λ y h.
        inl
        (inr
        (inr
        (inl
        (make s.while_of
        (and_then _ (at_told t sign.While e _)
        (and_then (sample sign.Semicolon ∷ y)
        (subst (λ l. s.bracketed (cond 0) l (sample sign.Semicolon ∷ y) c.tree) (sym (joined_front y)) (closed _))
        (empty_stmt 0 y)))))));
  }

  on_do : sign_of t ≡ sign.Do → Alive stmt elses 1 (t ∷ [])
  on_do e = record {
    more = sample sign.Semicolon ∷ (sample sign.While ∷ if_more);
    tree =
        s.do_of (t.at, (stmt'.Empty (sample sign.Semicolon).at, (sample sign.While, (c.tree, sample sign.Semicolon))));
    reads = λ y h.
        inl
        (inr
        (inr
        (inr
        (inl
        (make s.do_of
        (and_then _ (at_told t sign.Do e _)
        (and_then _ (empty_stmt 0 _) (and_then _ (tok sign.While (real sign.While tt) _)
        (and_then (sample sign.Semicolon ∷ y)
        (subst (λ l. s.bracketed (cond 0) l (sample sign.Semicolon ∷ y) c.tree) (sym (joined_front y)) (closed _))
        (tok sign.Semicolon (real sign.Semicolon tt) y))))))))));
  }

  on_for : sign_of t ≡ sign.For → Alive stmt elses 1 (t ∷ [])
  on_for e = record {
    more =
        sample sign.Open
        ∷ (sample sign.Semicolon ∷ (sample sign.Semicolon ∷ (sample sign.Close ∷ (sample sign.Semicolon ∷ []))));
    tree =
        s.for_of (
          t.at,
          (
            sample sign.Open,
            (
              first'.Nothing,
              (None, (sample sign.Semicolon, (None, (sample sign.Close, stmt'.Empty (sample sign.Semicolon).at)))),
            ),
          ),
        );
    reads =
        λ y h.
        inl
        (inr
        (inr (inr (inr (make s.for_of (and_then _ (at_told t sign.For e _) (and_then _ (tok sign.Open
        (real sign.Open tt) _)
        (and_then _ (inr (make s.first (and_then _ (inr (refl, refl)) (tok sign.Semicolon (real sign.Semicolon tt) _))))
        (and_then _ (inr (refl, refl)) (and_then _ (tok sign.Semicolon (real sign.Semicolon tt) _)
        (and_then _ (inr (refl, refl)) (and_then _ (tok sign.Close (real sign.Close tt) _) (empty_stmt 0 y)))))))))))));
  }

  pub stmt_on : begins_level (sign_of t) ≡ true → Alive stmt elses 1 (t ∷ [])
  stmt_on h = elim (either_of sign.OpenBrace (sign.If ∷ (sign.While ∷ (sign.Do ∷ (sign.For ∷ [])))) (sign_of t) h) [
    | inl e ↦ on_block e
    | inr k ↦ elim (either_of sign.If (sign.While ∷ (sign.Do ∷ (sign.For ∷ []))) (sign_of t) k) [
      | inl e ↦ on_if e
      | inr l ↦ elim (either_of sign.While (sign.Do ∷ (sign.For ∷ [])) (sign_of t) l) [
        | inl e ↦ on_while e
        | inr m ↦ elim (either_of sign.Do (sign.For ∷ []) (sign_of t) m)
            [ inl e ↦ on_do e | inr o ↦ on_for (one_of sign.For (sign_of t) o) ]
      ]
    ]
  ]

no_stmt : (z y : List Token) (x : Stmt) → begins_level (sign_at z) ≡ true → stmt 0 z y x → ⊥
no_stmt z y x first (inl r) = r
no_stmt z y x first (inr r) =
    elim (good_flat.starts 0 z y x r)
    [ inl f ↦ clash (sym first ∙ apart_of begins_level begins_flat refl (sign_at z) f) | inr e ↦ clash (sym e.0) ]

-- a statement that is a level where none is left
pub deep_stmt : (n : ℕ) (end : Place) (ts : List Token) → n ≡ 0 → begins_level (sign_at ts) ≡ true
    → Fails stmt no_sign elses begins_level n end ts (Deep (place_at end ts))
deep_stmt n end ts is first =
    subst (λ m. Fails stmt no_sign elses begins_level m end ts (Deep (place_at end ts))) (sym is)
    (deep_first stmt no_sign elses begins_level end ts first refl (least_stmt 0) stmt_on no_stmt)

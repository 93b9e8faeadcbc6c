-- The head of a `for`, and other heads, read apart from what stands after them.
use Rattle.std.proofs.Common.{ℕ, false, [], ◌∷◌, refl, ap, ◌∙◌}
use Rattle.c_ast.specs.declared.statements.Stmt.{Stmt}
use Rattle.c_ast.specs.declared.statements.Stmt.TheVariants as stmt'
use Rattle.c_grammar.specs.Grammar.{Rule, token, ◌then◌, Made}
use Rattle.c_grammar.specs.Syntax as s
use Rattle.c_grammar.specs.Syntax.{at, bracketed, optional, cond, declare, simple, first_part, stmt}
use Rattle.c_grammar.specs.declared.signs.Sign.TheVariants as sign
use Rattle.c_grammar.specs.words.Parted.{HeadOfFor, for_head, for_head_of}
use Rattle.c_grammar.specs.words.Faults.{Alive}
use Rattle.c_grammar.specs.words.Sets.{among, no_sign}
use Rattle.c_grammar.proofs.Families.{make, and_then}
use Rattle.c_grammar.proofs.Goods.{good_one, good_at}
use Rattle.c_grammar.proofs.Conditions.{least_cond}
use Rattle.c_grammar.proofs.Parts.{Same, good_made}
use Rattle.c_grammar.proofs.Rules.{Good}
use Rattle.c_grammar.proofs.Sequences.{least_one, least_pair, least_bracketed}
use Rattle.c_grammar.proofs.Tokens.{real}
use Rattle.c_grammar.proofs.Statements.{good_cond, good_closed_cond, good_first, good_maybe_cond, good_maybe_simple}
use Rattle.c_grammar.proofs.Steps.{good_pair, good_chain}

pub good_for_head : Good for_head (among (sign.For ∷ [])) no_sign no_sign false
good_for_head = good_made
    (good_chain (good_at sign.For)
    (good_chain (good_one sign.Open)
    (good_chain good_first
    (good_pair good_maybe_cond
    (good_chain (good_one sign.Semicolon) (good_pair good_maybe_simple (good_one sign.Close) refl) refl) refl) refl)
    refl) refl) for_head_of

-- a head of two parts, and what stands after it
abbrev pub apart : {X Y Z V : Type 0} → (X × (Y × Z) → V) → (X × Y) × Z → V
apart f p = f (p.0.0, (p.0.1, p.1))

pub same_apart : {X Y Z V : Type 0} {A : Rule X} {B : Rule Y} {C : Rule Z} (f : X × (Y × Z) → V)
    → Same (λ n. Made (apart f) ((A n then B n) then C n)) (λ n. Made f (A n then B n then C n))
same_apart f = record {
  to = λ n ts rest x r. record {
    part = (r.part.0.0, (r.part.0.1, r.part.1));
    is = r.is;
    read = and_then r.read.front.mid r.read.front.front (and_then r.read.mid r.read.front.back r.read.back);
  };
  back = λ n ts rest x r. record {
    part = ((r.part.0, r.part.1.0), r.part.1.1);
    is = r.is;
    read = and_then r.read.back.mid (and_then r.read.mid r.read.front r.read.back.front) r.read.back.back;
  };
}

-- the head of a `for`, and its body
abbrev pub headed_for : HeadOfFor × Stmt → Stmt
headed_for p = stmt'.For p.0.0 p.0.1 p.0.2 p.0.3 p.1

pub same_for : Same (λ n. Made headed_for (for_head n then stmt n))
    (λ n. Made s.for_of (at sign.For then token sign.Open then first_part (declare n) (simple n) then optional (cond n)
    then token sign.Semicolon then
    optional (simple n) then token sign.Close then stmt n))
same_for = record {
  to = λ n ts rest x r. let h = r.read.front in let q = h.part in let a = h.read in let b = a.back in let c = b.back in
      let d = c.back in let e = d.back in let g = e.back in record {
        part = (q.0, (q.1.0, (q.1.1.0, (q.1.1.1.0, (q.1.1.1.1.0, (q.1.1.1.1.1.0, (q.1.1.1.1.1.1, r.part.1)))))));
        is = r.is ∙ ap (λ h. headed_for (h, r.part.1)) h.is;
        read = and_then a.mid a.front (and_then b.mid b.front (and_then c.mid c.front (and_then d.mid d.front
            (and_then e.mid e.front (and_then g.mid g.front (and_then r.read.mid g.back r.read.back))))));
      };
  back = λ n ts rest x r. let q = r.part in let a = r.read in let b = a.back in let c = b.back in let d = c.back in
      let e = d.back in let g = e.back in let k = g.back in record {
        part = (
          for_head_of (q.0, (q.1.0, (q.1.1.0, (q.1.1.1.0, (q.1.1.1.1.0, (q.1.1.1.1.1.0, q.1.1.1.1.1.1.0)))))),
          q.1.1.1.1.1.1.1,
        );
        is = r.is;
        read = and_then k.mid
            (make for_head_of (and_then a.mid a.front (and_then b.mid b.front (and_then c.mid c.front
            (and_then d.mid d.front (and_then e.mid e.front (and_then g.mid g.front k.front))))))) k.back;
      };
}

pub least_closed_cond : (n : ℕ) → Alive (λ n. bracketed (cond n)) no_sign n []
least_closed_cond n = least_bracketed good_cond refl n (least_cond n)

pub least_do_tail : (n : ℕ)
    → Alive (λ n. token sign.While then bracketed (cond n) then token sign.Semicolon) no_sign n []
least_do_tail n =
    least_pair (good_one sign.While) (good_chain good_closed_cond (good_one sign.Semicolon) refl) refl refl n
    (least_one sign.While (real sign.While tt) n)
    (least_pair good_closed_cond (good_one sign.Semicolon) refl refl n (least_closed_cond n)
    (least_one sign.Semicolon (real sign.Semicolon tt) n))

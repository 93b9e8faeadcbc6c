-- Items as the grammar has them, and parted by their first tokens: both forms read the same.
use Rattle.std.proofs.Common.{◌≡◌, ℕ, true, false, List, ◌∷◌, Option, Some, None, refl, sym, ap, ◌∙◌, subst, inl, inr}
use Rattle.fore_base.specs.declared.place.Place.{Place}
use Rattle.c_ast.specs.declared.items.Head.{Head}
use Rattle.c_ast.specs.declared.items.Item.{Item}
use Rattle.c_ast.specs.declared.items.Item.TheVariants as item'
use Rattle.c_ast.specs.declared.items.Params.{Params}
use Rattle.c_ast.specs.declared.items.ReturnType.{ReturnType}
use Rattle.c_ast.specs.declared.items.ReturnType.TheVariants as return'
use Rattle.c_ast.specs.declared.operands.Name.{Name}
use Rattle.c_ast.specs.declared.statements.Block.{Block}
use Rattle.c_ast.specs.declared.statements.Data.{Data}
use Rattle.c_ast.specs.declared.statements.Data.TheVariants as data'
use Rattle.c_ast.specs.declared.statements.Declare.TheVariants as declare'
use Rattle.c_lexer.specs.declared.token.Token.{Token}
use Rattle.c_grammar.specs.Grammar.{token}
use Rattle.c_grammar.specs.Items.{rtype, return_pointer_of, closed_params, head, head_of, item, unit}
use Rattle.c_grammar.specs.Syntax.{at, name, second, joined, optional, data_part, enum_of, declarator_of, pointers_of}
use Rattle.c_grammar.specs.Syntax.{datums_of}
use Rattle.c_grammar.specs.Syntax.{declare}
use Rattle.c_grammar.specs.words.Sets.{no_sign, elses}
use Rattle.c_grammar.specs.declared.signs.Sign.TheVariants as sign
use Rattle.c_grammar.proofs.Decide.{apart_of}
use Rattle.c_grammar.proofs.Families.{make, and_then}
use Rattle.c_grammar.proofs.Parts.{Same, good_same}
use Rattle.c_grammar.proofs.Repeats.{good_many}
use Rattle.c_grammar.proofs.Rules.{Good}
use Rattle.c_grammar.proofs.Items.{good_parted}
use Rattle.c_grammar.proofs.Whole.{one_tree}
use Rattle.c_grammar.specs.Hopeless.{IsWhole}
use Rattle.c_ast.specs.declared.statements.Declare.{Declare}
use Rattle.c_grammar.specs.words.Parted.{ending, no_block, Rest, data_rest, pointer_rest, head_item, data_item}
use Rattle.c_grammar.specs.words.Parted.{pointer_item}
use Rattle.c_grammar.specs.words.Parted.{EnumRest, enum_rest, enum_item_of, StructRest, struct_rest, struct_item_of}
use Rattle.c_grammar.specs.words.Parted.{parted_item, begins_item}

-- from the parts to the grammar's alternatives
module _ (n : ℕ) (ts rest : List Token) (x : Item) where
  from_head : (g : ReturnType) (v : Name) (ps : Option Params) (e : Option Block) (m k l : List Token)
      → x ≡ head_item g v (ps, e) → rtype ts m g → name m k v → closed_params k l ps → ending n l rest e →
      item n ts rest x
  from_head g v ps e m k l is r f c (inl z) = inr (inr (inl (record {
    part = (None, (head_of (g, (v, ps)), z.part));
    is = is ∙ ap (λ e. head_item g v (ps, e)) z.is;
    read = and_then ts (inr (refl, refl)) (and_then l (make head_of (and_then m r (and_then k f c))) z.read);
  })))
  from_head g v ps e m k l is r f c (inr z) = inr (inr (inr (inl (record {
    part = (head_of (g, (v, ps)), z.part);
    is = is ∙ ap (λ e. head_item g v (ps, e)) z.is;
    read = and_then l (make head_of (and_then m r (and_then k f c))) z.read;
  }))))

  from_data : (d : Data) (v : Name) (q : Rest) (m k : List Token) → x ≡ data_item d v q → data_part ts m d → name m k v
      → data_rest n k rest q → item n ts rest x
  from_data d v q m k is p f (inl z) =
      from_head (return'.Data d) v z.part.0 z.part.1 m k z.read.mid (is ∙ ap (λ q. data_item d v q) z.is)
      (inr (inl (make return'.Data p))) f z.read.front z.read.back
  from_data d v q m k is p f (inr z) = inr (inr (inr (inr (record {
    part = declare'.Datums d (declarator_of (v, z.part.0) ∷ z.part.1.0);
    is = is ∙ ap (λ q. data_item d v q) z.is;
    read = inr (make datums_of (and_then m p
        (and_then z.read.back.mid
        (make joined (and_then z.read.mid (make declarator_of (and_then k f z.read.front)) z.read.back.front))
        z.read.back.back)));
  }))))

  from_pointer : (p : Place) (t v : Name) (star : Token) (q : Rest) (m k j l : List Token) → x ≡ pointer_item p t v q
      → at sign.Struct ts m p → name m k t → token sign.Star k j star → name j l v →
      pointer_rest n l rest q → item n ts rest x
  from_pointer p t v star q m k j l is a tn st vn (inl z) =
      from_head (return'.Pointer p t) v z.part.0 z.part.1 j l z.read.mid (is ∙ ap (λ q. pointer_item p t v q) z.is)
      (inr (inr (make return_pointer_of (and_then m a (and_then k tn st))))) vn z.read.front z.read.back
  from_pointer p t v star q m k j l is a tn st vn (inr z) = inr (inr (inr (inr (record {
    part = declare'.Pointers p t (declarator_of (v, z.part.0) ∷ z.part.1.0);
    is = is ∙ ap (λ q. pointer_item p t v q) z.is;
    read = inl (make pointers_of (and_then m a (and_then k tn
        (and_then z.read.back.mid
        (make joined
        (and_then z.read.mid (make second (and_then j st (make declarator_of (and_then l vn z.read.front))))
        z.read.back.front)) z.read.back.back))));
  }))))

  from_enum : (p : Place) (v : Name) (q : EnumRest) (m k : List Token) → x ≡ enum_item_of (p, (v, q))
      → at sign.Enum ts m p → name m k v → enum_rest n k rest q → item n ts rest x
  from_enum p v q m k is a f (inl z) = inr
      (inl
      (record {
        part = (p, (v, z.part));
        is = is ∙ ap (λ q. enum_item_of (p, (v, q))) z.is;
        read = and_then m a (and_then k f z.read);
      }))
  from_enum p v q m k is a f (inr z) =
      from_data (data'.Enum p v) z.part.0 z.part.1 k z.read.mid (is ∙ ap (λ q. enum_item_of (p, (v, q))) z.is)
      (inr (make enum_of (and_then m a f))) z.read.front z.read.back

  from_struct : (p : Place) (v : Name) (q : StructRest) (m k : List Token) → x ≡ struct_item_of (p, (v, q))
      → at sign.Struct ts m p → name m k v → struct_rest n k rest q → item n ts rest x
  from_struct p v q m k is a f (inl z) =
      inl
      (record {
        part = (p, (v, z.part));
        is = is ∙ ap (λ q. struct_item_of (p, (v, q))) z.is;
        read = and_then m a (and_then k f z.read);
      })
  from_struct p v q m k is a f (inr z) =
      from_pointer p v z.part.1.0 z.part.0 z.part.1.1 m k z.read.mid z.read.back.mid
      (is ∙ ap (λ q. struct_item_of (p, (v, q))) z.is) a f z.read.front z.read.back.front z.read.back.back

  from_parted : parted_item n ts rest x → item n ts rest x
  from_parted (inl r) = inr
      (inr
      (inl
      (record {
        part = (Some r.part.0, r.part.1);
        is = r.is;
        read = and_then r.read.mid (inl (make Some r.read.front)) r.read.back;
      })))
  from_parted (inr (inl r)) =
      from_head (return'.Void r.part.0) r.part.1.0 r.part.1.1.0 r.part.1.1.1 r.read.mid r.read.back.mid
      r.read.back.back.mid r.is
      (inl (make return'.Void r.read.front)) r.read.back.front r.read.back.back.front
      r.read.back.back.back
  from_parted (inr (inr (inl r))) =
      from_data (data'.Int r.part.0) r.part.1.0 r.part.1.1 r.read.mid r.read.back.mid r.is
      (inl (make data'.Int r.read.front)) r.read.back.front r.read.back.back
  from_parted (inr (inr (inr (inl r)))) =
      from_enum r.part.0 r.part.1.0 r.part.1.1 r.read.mid r.read.back.mid r.is r.read.front r.read.back.front
      r.read.back.back
  from_parted (inr (inr (inr (inr r)))) =
      from_struct r.part.0 r.part.1.0 r.part.1.1 r.read.mid r.read.back.mid r.is r.read.front r.read.back.front
      r.read.back.back

-- and back
module _ (n : ℕ) (ts rest : List Token) (x : Item) where
  to_data : (d : Data) (v : Name) (q : Rest) (m k : List Token) → x ≡ data_item d v q → data_part ts m d → name m k v
      → data_rest n k rest q → parted_item n ts rest x
  to_data d v q m k is (inl z) f r = inr
      (inr
      (inl
      (record {
        part = (z.part, (v, q));
        is = is ∙ ap (λ d. data_item d v q) z.is;
        read = and_then m z.read (and_then k f r);
      })))
  to_data d v q m k is (inr z) f r = inr (inr (inr (inl (record {
    part = (z.part.0, (z.part.1, inr (v, q)));
    is = is ∙ ap (λ d. data_item d v q) z.is;
    read = and_then z.read.mid z.read.front (and_then m z.read.back (inr (make inr (and_then k f r))));
  }))))

  to_pointer : (p : Place) (t v : Name) (star : Token) (q : Rest) (m k j l : List Token) → x ≡ pointer_item p t v q
      → at sign.Struct ts m p → name m k t → token sign.Star k j star → name j l v →
      pointer_rest n l rest q → parted_item n ts rest x
  to_pointer p t v star q m k j l is a tn st vn r = inr (inr (inr (inr (record {
    part = (p, (t, inr (star, (v, q))));
    is = is;
    read = and_then m a (and_then k tn (inr (make inr (and_then j st (and_then l vn r)))));
  }))))

  to_head : (g : ReturnType) (v : Name) (ps : Option Params) (e : Option Block) (m k l : List Token)
      → x ≡ head_item g v (ps, e) → rtype ts m g → name m k v → closed_params k l ps → ending n l rest e →
      parted_item n ts rest x
  to_head g v ps e m k l is (inl z) f c b = inr (inl (record {
    part = (z.part, (v, (ps, e)));
    is = is ∙ ap (λ g. head_item g v (ps, e)) z.is;
    read = and_then m z.read (and_then k f (and_then l c b));
  }))
  to_head g v ps e m k l is (inr (inl z)) f c b =
      to_data z.part v (inl (ps, e)) m k (is ∙ ap (λ g. head_item g v (ps, e)) z.is) z.read f
      (inl (make inl (and_then l c b)))
  to_head g v ps e m k l is (inr (inr z)) f c b =
      to_pointer z.part.0 z.part.1.0 v z.part.1.1 (inl (ps, e)) z.read.mid z.read.back.mid m k
      (is ∙ ap (λ g. head_item g v (ps, e)) z.is)
      z.read.front z.read.back.front z.read.back.back f
      (inl (make inl (and_then l c b)))

  to_of_head : (h : Head) (e : Option Block) (l : List Token) → head ts l h
      → x ≡ elim e [ None ↦ item'.Proto None h | Some b ↦ item'.Function h b ] → ending n l rest e
      → parted_item n ts rest x
  to_of_head h e l r is b =
      to_head r.part.0 r.part.1.0 r.part.1.1 e r.read.mid r.read.back.mid l
      (is ∙ ap (λ h. elim e [ None ↦ item'.Proto None h | Some b ↦ item'.Function h b ]) r.is)
      r.read.front r.read.back.front r.read.back.back b

  to_proto : (o : Option Place) (h : Head) (semi : Token) (m l : List Token) → x ≡ item'.Proto o h
      → optional (at sign.Extern) ts m o → head m l h → token sign.Semicolon l rest semi → parted_item n ts rest x
  to_proto o h semi m l is (inl z) r b =
      inl
      (record {
        part = (z.part, (h, semi));
        is = is ∙ ap (λ o. item'.Proto o h) z.is;
        read = and_then m z.read (and_then l r b);
      })
  to_proto o h semi m l is (inr z) r b =
      to_of_head h None l (subst (λ t. head t l h) (sym z.0) r) (is ∙ ap (λ o. item'.Proto o h) z.1)
      (inl (make no_block b))

  to_declare : (d : Declare) → x ≡ item'.Declare d → declare n ts rest d → parted_item n ts rest x
  to_declare d is (inl z) = let y = z.read.back.back.front in let w = y.read.front in let u = w.read.back in
      to_pointer z.part.0 z.part.1.0 u.part.0 w.part.0 (inr (u.part.1, (y.part.1, z.part.1.1.1))) z.read.mid
      z.read.back.mid w.read.mid u.read.mid
      (is
      ∙ ap item'.Declare (z.is
      ∙ ap (λ l. declare'.Pointers z.part.0 z.part.1.0 l) (y.is ∙ ap (λ d. d ∷ y.part.1) (w.is ∙ u.is))))
      z.read.front z.read.back.front w.read.front u.read.front
      (inr (make inr (and_then y.read.mid u.read.back (and_then z.read.back.back.mid y.read.back
      z.read.back.back.back))))
  to_declare d is (inr z) = let y = z.read.back.front in let u = y.read.front in
      to_data z.part.0 u.part.0 (inr (u.part.1, (y.part.1, z.part.1.1))) z.read.mid u.read.mid
      (is ∙ ap item'.Declare (z.is ∙ ap (λ l. declare'.Datums z.part.0 l) (y.is ∙ ap (λ d. d ∷ y.part.1) u.is)))
      z.read.front u.read.front
      (inr (make inr (and_then y.read.mid u.read.back (and_then z.read.back.mid y.read.back z.read.back.back))))

  to_parted : item n ts rest x → parted_item n ts rest x
  to_parted (inl r) = inr (inr (inr (inr (record {
    part = (r.part.0, (r.part.1.0, inl r.part.1.1));
    is = r.is;
    read = and_then r.read.mid r.read.front (and_then r.read.back.mid r.read.back.front (inl
        (make inl r.read.back.back)));
  }))))
  to_parted (inr (inl r)) = inr (inr (inr (inl (record {
    part = (r.part.0, (r.part.1.0, inl r.part.1.1));
    is = r.is;
    read = and_then r.read.mid r.read.front (and_then r.read.back.mid r.read.back.front (inl
        (make inl r.read.back.back)));
  }))))
  to_parted (inr (inr (inl r))) =
      to_proto r.part.0 r.part.1.0 r.part.1.1 r.read.mid r.read.back.mid r.is r.read.front r.read.back.front
      r.read.back.back
  to_parted (inr (inr (inr (inl r)))) =
      to_of_head r.part.0 (Some r.part.1) r.read.mid r.read.front r.is
      (inr (make Some r.read.back))
  to_parted (inr (inr (inr (inr r)))) = to_declare r.part r.is r.read

pub same_item : Same parted_item item
same_item = record { to = from_parted; back = to_parted }

pub good_item : Good item begins_item no_sign elses false
good_item = good_same same_item good_parted

pub good_unit : Good unit begins_item begins_item elses true
good_unit = good_many good_item (apart_of no_sign begins_item refl) (apart_of elses begins_item refl)

-- a list of tokens has at most one tree
pub one_unit : (ts : List Token) (u v : List Item) → IsWhole unit ts u → IsWhole unit ts v → u ≡ v
one_unit = one_tree good_unit refl refl

-- Rows on assignments, `free` and `malloc`, in a file with structs node and item, whose variables p points to a node, q
-- and r to items; x and y are data.
use Rattle.std.proofs.Common.{◌≡◌, [], ◌∷◌, Some, None, codes, refl}
use Rattle.c_ast.specs.declared.operands.Operand.TheVariants as operand
use Rattle.c_ast.specs.declared.simples.Rhs.TheVariants as rhs
use Rattle.c_ast.specs.declared.simples.Simple.TheVariants as simple
use Rattle.c_ast.specs.declared.simples.Size.TheVariants as size
use Rattle.c_ast.specs.declared.statements.Stmt.TheVariants as stmt
use Rattle.c_typing.specs.declared.fault.TypeFault.TheVariants.{Rule}
use Rattle.c_typing.proofs.Layers.{layers}
use Rattle.c_typing.proofs.Rows.Forms.{at, name, var, arrow, path, call, number, breaks}

-- Structs that differ (T6)

-- q = r;
same_struct :
    breaks (stmt.Simple (simple.Assign (var (codes "q") 200) (rhs.Operand (operand.Path (var (codes "r") 202))))) ≡ []
same_struct = simp layers refl

-- p = q;
other_struct :
    breaks (stmt.Simple (simple.Assign (var (codes "p") 200) (rhs.Operand (operand.Path (var (codes "q") 202)))))
    ≡ Rule 6 (at 202) ∷ []
other_struct = simp layers refl

-- p = q->head;
field_of_its_struct : breaks
    (stmt.Simple
    (simple.Assign (var (codes "p") 200)
    (rhs.Operand (operand.Path (path (codes "q") 202 (arrow (codes "head") 203 ∷ [])))))) ≡ []
field_of_its_struct = simp layers refl

-- p = q->twin;
field_of_another_struct :
    breaks
    (stmt.Simple
    (simple.Assign (var (codes "p") 200)
    (rhs.Operand (operand.Path (path (codes "q") 202 (arrow (codes "twin") 203 ∷ [])))))) ≡ Rule 6 (at 202) ∷ []
field_of_another_struct = simp layers refl

-- q->twin->head = p->next;
field_to_field :
    breaks
    (stmt.Simple
    (simple.Assign (path (codes "q") 200 (arrow (codes "twin") 201 ∷ arrow (codes "head") 203 ∷ []))
    (rhs.Operand (operand.Path (path (codes "p") 206 (arrow (codes "next") 207 ∷ [])))))) ≡ []
field_to_field = simp layers refl

-- q->twin = p->next;
field_to_other_field : breaks
    (stmt.Simple
    (simple.Assign (path (codes "q") 200 (arrow (codes "twin") 201 ∷ []))
    (rhs.Operand (operand.Path (path (codes "p") 204 (arrow (codes "next") 205 ∷ [])))))) ≡ Rule 6 (at 204) ∷ []
field_to_other_field = simp layers refl

-- p = (struct node *) malloc(sizeof(struct node));
cast_to_its_struct : breaks
    (stmt.Simple
    (simple.Assign (var (codes "p") 200)
    (rhs.Malloc (Some (record { at = at 202; name = name (codes "node") 204 })) (at 207)
    (size.Struct (at 209) (name (codes "node") 212))))) ≡ []
cast_to_its_struct = simp layers refl

-- p = (struct item *) malloc(sizeof(struct node));
cast_to_another : breaks
    (stmt.Simple
    (simple.Assign (var (codes "p") 200)
    (rhs.Malloc (Some (record { at = at 202; name = name (codes "item") 204 })) (at 207)
    (size.Struct (at 209) (name (codes "node") 212))))) ≡ Rule 6 (at 204) ∷ []
cast_to_another = simp layers refl

-- x = (struct node *) malloc(sizeof(struct node));: data has no struct that a cast could miss
no_struct_of_data : breaks
    (stmt.Simple
    (simple.Assign (var (codes "x") 200)
    (rhs.Malloc (Some (record { at = at 202; name = name (codes "node") 204 })) (at 207)
    (size.Struct (at 209) (name (codes "node") 212))))) ≡ Rule 8 (at 207) ∷ []
no_struct_of_data = simp layers refl

-- Data where a pointer is wanted (T7)

-- p = 0;
zero_is_a_pointer : breaks (stmt.Simple (simple.Assign (var (codes "p") 200) (rhs.Operand (number (codes "0") 202))))
    ≡ []
zero_is_a_pointer = simp layers refl

-- p = NULL;
null_is_a_pointer : breaks (stmt.Simple (simple.Assign (var (codes "p") 200) (rhs.Operand (operand.Null (at 202)))))
    ≡ []
null_is_a_pointer = simp layers refl

-- p = 1;
one_is_data : breaks (stmt.Simple (simple.Assign (var (codes "p") 200) (rhs.Operand (number (codes "1") 202))))
    ≡ Rule 7 (at 202) ∷ []
one_is_data = simp layers refl

-- p = false;
false_is_data : breaks (stmt.Simple (simple.Assign (var (codes "p") 200) (rhs.Operand (operand.False (at 202)))))
    ≡ Rule 7 (at 202) ∷ []
false_is_data = simp layers refl

-- p = true;
true_is_data : breaks (stmt.Simple (simple.Assign (var (codes "p") 200) (rhs.Operand (operand.True (at 202)))))
    ≡ Rule 7 (at 202) ∷ []
true_is_data = simp layers refl

-- p = RED;: also where its value is 0
first_enumerator_is_data :
    breaks (stmt.Simple (simple.Assign (var (codes "p") 200) (rhs.Operand (operand.Path (var (codes "RED") 202)))))
    ≡ Rule 7 (at 202) ∷ []
first_enumerator_is_data = simp layers refl

-- p = x;
variable_is_data : breaks
    (stmt.Simple (simple.Assign (var (codes "p") 200) (rhs.Operand (operand.Path (var (codes "x") 202)))))
    ≡ Rule 7 (at 202) ∷ []
variable_is_data = simp layers refl

-- p = q->mark;
field_is_data :
    breaks
    (stmt.Simple
    (simple.Assign (var (codes "p") 200)
    (rhs.Operand (operand.Path (path (codes "q") 202 (arrow (codes "mark") 203 ∷ [])))))) ≡ Rule 7 (at 202) ∷ []
field_is_data = simp layers refl

-- p = __VERIFIER_nondet_bool();
choice_is_data :
    breaks
    (stmt.Simple
    (simple.Assign (var (codes "p") 200) (rhs.Operand (operand.Call (call (codes "__VERIFIER_nondet_bool") 202 [])))))
    ≡ Rule 7 (at 202) ∷ []
choice_is_data = simp layers refl

-- free(q->head->next);
free_of_a_pointer : breaks
    (stmt.Simple
    (simple.Free (at 200) (path (codes "q") 202 (arrow (codes "head") 203 ∷ arrow (codes "next") 205 ∷ [])))) ≡ []
free_of_a_pointer = simp layers refl

-- free(x);
free_of_data : breaks (stmt.Simple (simple.Free (at 200) (var (codes "x") 202))) ≡ Rule 7 (at 202) ∷ []
free_of_data = simp layers refl

-- free(p->key);
free_of_a_field : breaks (stmt.Simple (simple.Free (at 200) (path (codes "p") 202 (arrow (codes "key") 203 ∷ []))))
    ≡ Rule 7 (at 202) ∷ []
free_of_a_field = simp layers refl

-- free(RED);
free_of_an_enumerator : breaks (stmt.Simple (simple.Free (at 200) (var (codes "RED") 202))) ≡ Rule 7 (at 202) ∷ []
free_of_an_enumerator = simp layers refl

-- Pointers where data is wanted (T8)

-- x = 0;
zero_is_data : breaks (stmt.Simple (simple.Assign (var (codes "x") 200) (rhs.Operand (number (codes "0") 202)))) ≡ []
zero_is_data = simp layers refl

-- x = 15;
number_is_data : breaks (stmt.Simple (simple.Assign (var (codes "x") 200) (rhs.Operand (number (codes "15") 202)))) ≡ []
number_is_data = simp layers refl

-- x = false;
false_to_data : breaks (stmt.Simple (simple.Assign (var (codes "x") 200) (rhs.Operand (operand.False (at 202))))) ≡ []
false_to_data = simp layers refl

-- q->mark = BLUE;
enumerator_to_data : breaks
    (stmt.Simple
    (simple.Assign (path (codes "q") 200 (arrow (codes "mark") 201 ∷ []))
    (rhs.Operand (operand.Path (var (codes "BLUE") 204))))) ≡ []
enumerator_to_data = simp layers refl

-- x = p;
pointer_to_data : breaks
    (stmt.Simple (simple.Assign (var (codes "x") 200) (rhs.Operand (operand.Path (var (codes "p") 202)))))
    ≡ Rule 8 (at 202) ∷ []
pointer_to_data = simp layers refl

-- p->key = p->next;
field_to_data :
    breaks
    (stmt.Simple
    (simple.Assign (path (codes "p") 200 (arrow (codes "key") 201 ∷ []))
    (rhs.Operand (operand.Path (path (codes "p") 204 (arrow (codes "next") 205 ∷ [])))))) ≡ Rule 8 (at 204) ∷ []
field_to_data = simp layers refl

-- x = NULL;
null_to_data : breaks (stmt.Simple (simple.Assign (var (codes "x") 200) (rhs.Operand (operand.Null (at 202)))))
    ≡ Rule 8 (at 202) ∷ []
null_to_data = simp layers refl

-- x = malloc(sizeof(struct node));
malloc_to_data :
    breaks
    (stmt.Simple
    (simple.Assign (var (codes "x") 200) (rhs.Malloc None (at 202) (size.Struct (at 204) (name (codes "node") 207)))))
    ≡ Rule 8 (at 202) ∷ []
malloc_to_data = simp layers refl

-- p->key = __VERIFIER_nondet_bool();
choice_to_data :
    breaks
    (stmt.Simple
    (simple.Assign (path (codes "p") 200 (arrow (codes "key") 201 ∷ []))
    (rhs.Operand (operand.Call (call (codes "__VERIFIER_nondet_bool") 204 []))))) ≡ []
choice_to_data = simp layers refl

-- Arrows on data (T9)

-- p = x->next;
arrow_on_data :
    breaks
    (stmt.Simple
    (simple.Assign (var (codes "p") 200)
    (rhs.Operand (operand.Path (path (codes "x") 202 (arrow (codes "next") 203 ∷ [])))))) ≡ Rule 9 (at 203) ∷ []
arrow_on_data = simp layers refl

-- p = p->key->next;
arrow_on_a_field : breaks
    (stmt.Simple
    (simple.Assign (var (codes "p") 200)
    (rhs.Operand (operand.Path (path (codes "p") 202 (arrow (codes "key") 203 ∷ arrow (codes "next") 205 ∷ []))))))
    ≡ Rule 9 (at 205) ∷ []
arrow_on_a_field = simp layers refl

-- x->next->next = p;: what follows breaks nothing more
arrow_before_an_arrow : breaks
    (stmt.Simple
    (simple.Assign (path (codes "x") 200 (arrow (codes "next") 201 ∷ arrow (codes "next") 203 ∷ []))
    (rhs.Operand (operand.Path (var (codes "p") 206))))) ≡ Rule 9 (at 201) ∷ []
arrow_before_an_arrow = simp layers refl

-- p = malloc(sizeof *p);
star_on_a_pointer : breaks
    (stmt.Simple
    (simple.Assign (var (codes "p") 200)
    (rhs.Malloc None (at 202) (size.Bare (at 204) (at 205) (var (codes "p") 206))))) ≡ []
star_on_a_pointer = simp layers refl

-- p = malloc(sizeof *x);
star_on_data :
    breaks
    (stmt.Simple
    (simple.Assign (var (codes "p") 200)
    (rhs.Malloc None (at 202) (size.Bare (at 204) (at 205) (var (codes "x") 206))))) ≡ Rule 9 (at 205) ∷ []
star_on_data = simp layers refl

-- p = malloc(sizeof(*q->mark));
star_in_brackets_on_data :
    breaks
    (stmt.Simple
    (simple.Assign (var (codes "p") 200)
    (rhs.Malloc None (at 202)
    (size.Bracketed (at 204) (at 206) (path (codes "q") 207 (arrow (codes "mark") 208 ∷ [])))))) ≡ Rule 9 (at 206) ∷ []
star_in_brackets_on_data = simp layers refl

-- p = malloc(sizeof *RED);
star_on_an_enumerator : breaks
    (stmt.Simple
    (simple.Assign (var (codes "p") 200)
    (rhs.Malloc None (at 202) (size.Bare (at 204) (at 205) (var (codes "RED") 206))))) ≡ Rule 9 (at 205) ∷ []
star_on_an_enumerator = simp layers refl

-- Sizes (T10)

-- p = malloc(sizeof(struct node));
size_of_its_struct : breaks
    (stmt.Simple
    (simple.Assign (var (codes "p") 200) (rhs.Malloc None (at 202) (size.Struct (at 204) (name (codes "node") 207)))))
    ≡ []
size_of_its_struct = simp layers refl

-- p = malloc(sizeof(struct item));
size_of_another : breaks
    (stmt.Simple
    (simple.Assign (var (codes "p") 200) (rhs.Malloc None (at 202) (size.Struct (at 204) (name (codes "item") 207)))))
    ≡ Rule 10 (at 204) ∷ []
size_of_another = simp layers refl

-- q->twin = malloc(sizeof(*r->twin->twin));
size_of_what_it_points_to :
    breaks
    (stmt.Simple
    (simple.Assign (path (codes "q") 200 (arrow (codes "twin") 201 ∷ []))
    (rhs.Malloc None (at 204)
    (size.Bracketed (at 206) (at 208)
    (path (codes "r") 209 (arrow (codes "twin") 210 ∷ arrow (codes "twin") 212 ∷ [])))))) ≡ []
size_of_what_it_points_to = simp layers refl

-- q->twin = malloc(sizeof(*p));
size_of_what_another_points_to :
    breaks
    (stmt.Simple
    (simple.Assign (path (codes "q") 200 (arrow (codes "twin") 201 ∷ []))
    (rhs.Malloc None (at 204) (size.Bracketed (at 206) (at 208) (var (codes "p") 209))))) ≡ Rule 10 (at 206) ∷ []
size_of_what_another_points_to = simp layers refl

-- p = malloc(sizeof *q);
bare_size_of_another : breaks
    (stmt.Simple
    (simple.Assign (var (codes "p") 200)
    (rhs.Malloc None (at 202) (size.Bare (at 204) (at 205) (var (codes "q") 206))))) ≡ Rule 10 (at 204) ∷ []
bare_size_of_another = simp layers refl

-- p = (struct item *) malloc(sizeof *q);
cast_and_size_of_another :
    breaks
    (stmt.Simple
    (simple.Assign (var (codes "p") 200)
    (rhs.Malloc (Some (record { at = at 202; name = name (codes "item") 204 })) (at 207)
    (size.Bare (at 209) (at 210) (var (codes "q") 211))))) ≡ Rule 6 (at 204) ∷ Rule 10 (at 209) ∷ []
cast_and_size_of_another = simp layers refl

-- Names (T1, T2, T3)

-- p = malloc(sizeof(struct none));: and no T10
struct_in_a_size : breaks
    (stmt.Simple
    (simple.Assign (var (codes "p") 200) (rhs.Malloc None (at 202) (size.Struct (at 204) (name (codes "none") 207)))))
    ≡ Rule 1 (at 207) ∷ []
struct_in_a_size = simp layers refl

-- p = (struct none *) malloc(sizeof(struct node));: and no T6
struct_in_a_cast : breaks
    (stmt.Simple
    (simple.Assign (var (codes "p") 200)
    (rhs.Malloc (Some (record { at = at 202; name = name (codes "none") 204 })) (at 207)
    (size.Struct (at 209) (name (codes "node") 212))))) ≡ Rule 1 (at 204) ∷ []
struct_in_a_cast = simp layers refl

-- p = p->head;
no_field :
    breaks
    (stmt.Simple
    (simple.Assign (var (codes "p") 200)
    (rhs.Operand (operand.Path (path (codes "p") 202 (arrow (codes "head") 203 ∷ [])))))) ≡ Rule 2 (at 204) ∷ []
no_field = simp layers refl

-- x = q->twin->key;
no_field_after_a_field :
    breaks
    (stmt.Simple
    (simple.Assign (var (codes "x") 200)
    (rhs.Operand (operand.Path (path (codes "q") 202 (arrow (codes "twin") 203 ∷ arrow (codes "key") 205 ∷ []))))))
    ≡ Rule 2 (at 206) ∷ []
no_field_after_a_field = simp layers refl

-- q->next->next = p;: what follows breaks nothing more
field_after_no_field : breaks
    (stmt.Simple
    (simple.Assign (path (codes "q") 200 (arrow (codes "next") 201 ∷ arrow (codes "next") 203 ∷ []))
    (rhs.Operand (operand.Path (var (codes "p") 206))))) ≡ Rule 2 (at 202) ∷ []
field_after_no_field = simp layers refl

-- p = z;
no_variable :
    breaks (stmt.Simple (simple.Assign (var (codes "p") 200) (rhs.Operand (operand.Path (var (codes "z") 202)))))
    ≡ Rule 3 (at 202) ∷ []
no_variable = simp layers refl

-- z = p;
no_target :
    breaks (stmt.Simple (simple.Assign (var (codes "z") 200) (rhs.Operand (operand.Path (var (codes "p") 202)))))
    ≡ Rule 3 (at 200) ∷ []
no_target = simp layers refl

-- z = NULL;
no_target_takes_anything :
    breaks (stmt.Simple (simple.Assign (var (codes "z") 200) (rhs.Operand (operand.Null (at 202))))) ≡ Rule 3 (at 200)
    ∷ []
no_target_takes_anything = simp layers refl

-- z->next = p;
no_head :
    breaks
    (stmt.Simple
    (simple.Assign (path (codes "z") 200 (arrow (codes "next") 201 ∷ []))
    (rhs.Operand (operand.Path (var (codes "p") 204))))) ≡ Rule 3 (at 200) ∷ []
no_head = simp layers refl

-- RED = 1;
enumerator_as_target : breaks
    (stmt.Simple (simple.Assign (var (codes "RED") 200) (rhs.Operand (number (codes "1") 202)))) ≡ Rule 3 (at 200) ∷ []
enumerator_as_target = simp layers refl

-- RED = p;
enumerator_as_target_of_a_pointer :
    breaks (stmt.Simple (simple.Assign (var (codes "RED") 200) (rhs.Operand (operand.Path (var (codes "p") 202)))))
    ≡ Rule 3 (at 200) ∷ []
enumerator_as_target_of_a_pointer = simp layers refl

-- p = RED->next;
enumerator_as_head : breaks
    (stmt.Simple
    (simple.Assign (var (codes "p") 200)
    (rhs.Operand (operand.Path (path (codes "RED") 202 (arrow (codes "next") 203 ∷ [])))))) ≡ Rule 3 (at 202) ∷ []
enumerator_as_head = simp layers refl

-- RED->next = p;
enumerator_as_head_of_a_target :
    breaks
    (stmt.Simple
    (simple.Assign (path (codes "RED") 200 (arrow (codes "next") 201 ∷ []))
    (rhs.Operand (operand.Path (var (codes "p") 204))))) ≡ Rule 3 (at 200) ∷ []
enumerator_as_head_of_a_target = simp layers refl

-- free(RED->next);
enumerator_as_head_of_free :
    breaks (stmt.Simple (simple.Free (at 200) (path (codes "RED") 202 (arrow (codes "next") 203 ∷ []))))
    ≡ Rule 3 (at 202) ∷ []
enumerator_as_head_of_free = simp layers refl

-- free(z);
no_variable_in_free : breaks (stmt.Simple (simple.Free (at 200) (var (codes "z") 202))) ≡ Rule 3 (at 202) ∷ []
no_variable_in_free = simp layers refl

-- p = malloc(sizeof *z);
no_variable_in_a_size : breaks
    (stmt.Simple
    (simple.Assign (var (codes "p") 200)
    (rhs.Malloc None (at 202) (size.Bare (at 204) (at 205) (var (codes "z") 206))))) ≡ Rule 3 (at 206) ∷ []
no_variable_in_a_size = simp layers refl

-- p = node;
struct_is_no_variable : breaks
    (stmt.Simple (simple.Assign (var (codes "p") 200) (rhs.Operand (operand.Path (var (codes "node") 202)))))
    ≡ Rule 3 (at 202) ∷ []
struct_is_no_variable = simp layers refl

-- a = b;
two_names :
    breaks (stmt.Simple (simple.Assign (var (codes "a") 200) (rhs.Operand (operand.Path (var (codes "b") 202)))))
    ≡ Rule 3 (at 200) ∷ Rule 3 (at 202) ∷ []
two_names = simp layers refl

-- A field whose struct is not defined: T1 at its definition alone

-- q->lost = p;
pointer_of_no_struct : breaks
    (stmt.Simple
    (simple.Assign (path (codes "q") 200 (arrow (codes "lost") 201 ∷ []))
    (rhs.Operand (operand.Path (var (codes "p") 204))))) ≡ []
pointer_of_no_struct = simp layers refl

-- p = q->lost;
to_a_pointer_of_no_struct :
    breaks
    (stmt.Simple
    (simple.Assign (var (codes "p") 200)
    (rhs.Operand (operand.Path (path (codes "q") 202 (arrow (codes "lost") 203 ∷ [])))))) ≡ []
to_a_pointer_of_no_struct = simp layers refl

-- q->lost->any = 1;
path_through_no_struct :
    breaks
    (stmt.Simple
    (simple.Assign (path (codes "q") 200 (arrow (codes "lost") 201 ∷ arrow (codes "any") 203 ∷ []))
    (rhs.Operand (number (codes "1") 206)))) ≡ []
path_through_no_struct = simp layers refl

-- q->lost = NULL;
null_to_no_struct : breaks
    (stmt.Simple
    (simple.Assign (path (codes "q") 200 (arrow (codes "lost") 201 ∷ [])) (rhs.Operand (operand.Null (at 204))))) ≡ []
null_to_no_struct = simp layers refl

-- q->lost = malloc(sizeof(struct node));
size_for_no_struct : breaks
    (stmt.Simple
    (simple.Assign (path (codes "q") 200 (arrow (codes "lost") 201 ∷ []))
    (rhs.Malloc None (at 204) (size.Struct (at 206) (name (codes "node") 209))))) ≡ []
size_for_no_struct = simp layers refl

-- q->lost = (struct node *) malloc(sizeof(struct item));
cast_for_no_struct : breaks
    (stmt.Simple
    (simple.Assign (path (codes "q") 200 (arrow (codes "lost") 201 ∷ []))
    (rhs.Malloc (Some (record { at = at 204; name = name (codes "node") 206 })) (at 209)
    (size.Struct (at 211) (name (codes "item") 214))))) ≡ []
cast_for_no_struct = simp layers refl

-- q->lost = 1;: it is a pointer nevertheless
data_to_no_struct : breaks
    (stmt.Simple
    (simple.Assign (path (codes "q") 200 (arrow (codes "lost") 201 ∷ [])) (rhs.Operand (number (codes "1") 204))))
    ≡ Rule 7 (at 204) ∷ []
data_to_no_struct = simp layers refl

-- x = q->lost;
no_struct_to_data : breaks
    (stmt.Simple
    (simple.Assign (var (codes "x") 200)
    (rhs.Operand (operand.Path (path (codes "q") 202 (arrow (codes "lost") 203 ∷ [])))))) ≡ Rule 8 (at 202) ∷ []
no_struct_to_data = simp layers refl

-- The texts of generated programs.
use Rattle.std.specs.Prelude.{ℕ, suc, List, [], ◌∷◌, ◌++◌, codes, flat_map, if◌then◌else◌, nat_eq}
use Rattle.std.specs.List.{repeat}
use Rattle.fore_words.specs.Usage.{ended_line}
use Rattle.fore_words.specs.declared.asked.Kind.{Kind}
use Rattle.fore_words.specs.declared.asked.Kind.TheVariants.{ListPhases, DllPhases, TreePhases}

-- each line with its newline
abbrev pub lines_text : List (List ℕ) → List ℕ
lines_text lines = flat_map ended_line lines

abbrev pub struct_line : Kind → List ℕ
struct_line ListPhases = codes "struct node { struct node *next; };"
struct_line DllPhases = codes "struct node { struct node *next; struct node *prev; };"
struct_line TreePhases = codes "struct tree { struct tree *left; struct tree *right; int kind; };"

abbrev pub variables_line : Kind → List ℕ
variables_line ListPhases = codes "struct node *l, *n, *t;"
variables_line DllPhases = codes "struct node *l, *n, *p;"
variables_line TreePhases = codes "struct tree *t, *n;"

abbrev pub head_text : Kind → List ℕ
head_text kind = lines_text
    (codes "#include <stdlib.h>"
    ∷ codes "extern int __VERIFIER_nondet_int(void);"
    ∷ struct_line kind
    ∷ codes "int main(void) {"
    ∷ variables_line kind ∷ [])

-- cells are put in front of a list, as many as the surroundings say, and freed from its head on
abbrev pub list_phase : List ℕ
list_phase = lines_text
    (codes "l = NULL;"
    ∷ codes "while (__VERIFIER_nondet_int()) {"
    ∷ codes "n = malloc(sizeof(struct node));"
    ∷ codes "n->next = l;"
    ∷ codes "l = n;"
    ∷ codes "}"
    ∷ codes "n = NULL;"
    ∷ codes "while (l) {"
    ∷ codes "t = l->next;"
    ∷ codes "free(l);"
    ∷ codes "l = t;"
    ∷ codes "}"
    ∷ codes "t = NULL;" ∷ [])

-- cells are put behind a doubly linked list, and freed from its last one back
abbrev pub dll_phase : List ℕ
dll_phase = lines_text
    (codes "l = malloc(sizeof(struct node));"
    ∷ codes "l->next = NULL;"
    ∷ codes "l->prev = NULL;"
    ∷ codes "while (__VERIFIER_nondet_int()) {"
    ∷ codes "n = malloc(sizeof(struct node));"
    ∷ codes "n->next = NULL;"
    ∷ codes "n->prev = l;"
    ∷ codes "l->next = n;"
    ∷ codes "l = n;"
    ∷ codes "}"
    ∷ codes "n = NULL;"
    ∷ codes "while (l) {"
    ∷ codes "p = l->prev;"
    ∷ codes "free(l);"
    ∷ codes "l = p;"
    ∷ codes "}"
    ∷ codes "p = NULL;" ∷ [])

-- a tree grows above its root, with one cell on the right at each level, and is freed from its root down
abbrev pub tree_phase : List ℕ
tree_phase = lines_text
    (codes "t = NULL;"
    ∷ codes "while (__VERIFIER_nondet_int()) {"
    ∷ codes "n = malloc(sizeof(struct tree));"
    ∷ codes "n->kind = 1;"
    ∷ codes "n->left = t;"
    ∷ codes "n->right = malloc(sizeof(struct tree));"
    ∷ codes "n->right->kind = 0;"
    ∷ codes "n->right->left = NULL;"
    ∷ codes "n->right->right = NULL;"
    ∷ codes "t = n;"
    ∷ codes "}"
    ∷ codes "n = NULL;"
    ∷ codes "while (t) {"
    ∷ codes "n = t->right;"
    ∷ codes "free(n);"
    ∷ codes "n = t->left;"
    ∷ codes "free(t);"
    ∷ codes "t = n;"
    ∷ codes "}"
    ∷ codes "n = NULL;" ∷ [])

abbrev pub phase_text : Kind → List ℕ
phase_text ListPhases = list_phase
phase_text DllPhases = dll_phase
phase_text TreePhases = tree_phase

abbrev pub tail_text : List ℕ
tail_text = lines_text (codes "return 0;" ∷ codes "}" ∷ [])

-- the program of this kind with so many phases
abbrev pub program_text : Kind → ℕ → List ℕ
program_text kind phases = head_text kind ++ (repeat phases (phase_text kind) ++ tail_text)

-- how many lines a text has: one for each newline
abbrev pub count_lines : List ℕ → ℕ
count_lines [] = 0
count_lines (b ∷ bs) = if nat_eq b 10 then suc (count_lines bs) else count_lines bs

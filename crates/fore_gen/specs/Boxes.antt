-- The file of boxes for doubly linked lists.
use Rattle.std.specs.Prelude.{ℕ, List, [], ◌∷◌, codes}
use Rattle.fore_gen.specs.Programs.{lines_text}

-- an edge from a cell by next to another one, from which prev leads back
abbrev pub dll_box_text : List ℕ
dll_box_text = lines_text
    (codes "box dll in node out node"
    ∷ codes "root 0 s0"
    ∷ codes "s0 = node(next=s1)"
    ∷ codes "s1 = ref 1"
    ∷ codes "root 1 s0"
    ∷ codes "s0 = node(prev=s1)"
    ∷ codes "s1 = ref 0"
    ∷ codes "end" ∷ [])

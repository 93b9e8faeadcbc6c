-- A file that is put among others is found there, and every other path reads as before.
use Rattle.std.proofs.Common.{◌≡◌, ◌≢◌, ◌++◌, ◌∷◌, [], ℕ, List, Option, Some, None, Bool, true, false, cond, length}
use Rattle.std.proofs.Common.{find, position, slice_set, nat_lt, get_or, refl, sym, ap, ◌∙◌, arith}
use Rattle.std.specs.List.{position_or_len}
use Rattle.std.specs.Option.{option_or, option_map}
use Rattle.std.specs.Cmp.Lexicographic.{same_text}
use Rattle.std.proofs.lemmas.Bool.Decides.{nat_tests}
use Rattle.std.proofs.lemmas.Cmp.{nat_list_eq_equiv}
use Rattle.std.proofs.lemmas.List.Folds.{find_at, find-set, find_past, find-append}
use Rattle.std.proofs.lemmas.List.Quantifiers.{position-Some}
use Rattle.std.proofs.lemmas.Option.{slice_get_past}
use Rattle.fore_outside.specs.NamedFiles.{is_named, bytes_of}
use Rattle.fore_outside.specs.declared.named_files.NamedFile.{NamedFile}

-- a place that is Some is the place that was tried
chosen : (test : Bool) (n at : ℕ) → cond test (Some n) None ≡ Some at → at ≡ n
chosen true n at is = cc
chosen false n at is = cc

-- and where it is None, the test failed
refused : (test : Bool) (n : ℕ) → cond test (Some n) None ≡ None → test ≡ false
refused true n is = cc
refused false n is = refl

not_true : (test : Bool) → (test ≡ true → ⊥) → test ≡ false
not_true true no_way = absurd (no_way refl)
not_true false no_way = refl

or_none : (found : Option NamedFile) → option_or found None ≡ found
or_none None = refl
or_none (Some file) = refl

-- a file of one name is not found by another
apart : (file : NamedFile) (name other : List ℕ) → file.name ≡ name → other ≢ name → is_named other file ≡ false
apart file name other is differs =
    not_true (is_named other file)
    (λ (same : is_named other file ≡ true). differs (sym (same_text file.name other (sym same)) ∙ is))

-- where there is no place for a name, no file is found by it
not_found : (files : List NamedFile) (name : List ℕ) → position (is_named name) files ≡ None
    → find (is_named name) files ≡ None
not_found files name is =
    let at : ℕ = position_or_len (is_named name) files in
    let past : nat_lt at (length files) ≡ false = refused (nat_lt at (length files)) at is in
    find_at (is_named name) files ∙ slice_get_past files at (grind (arith, nat_tests))

pub set_held : (files : List NamedFile) (at : ℕ) (file : NamedFile) → position (is_named file.name) files ≡ Some at
    → bytes_of (slice_set files at file) file.name ≡ Some file.bytes
set_held files at file is =
    let there = position-Some (is_named file.name) files at file is in
    ap (option_map (λ f. f.bytes))
    (find-set (is_named file.name) files at file
    (chosen (nat_lt (position_or_len (is_named file.name) files) (length files))
    (position_or_len (is_named file.name) files) at is) there.0 (nat_list_eq_equiv.refl file.name))

pub set_others : (files : List NamedFile) (at : ℕ) (file : NamedFile) (other : List ℕ)
    → position (is_named file.name) files ≡ Some at
    → other ≢ file.name → bytes_of (slice_set files at file) other ≡ bytes_of files other
set_others files at file other is differs =
    let there = position-Some (is_named file.name) files at file is in
    let same : (get_or files at file).name ≡ file.name =
    same_text (get_or files at file).name file.name (sym there.1) in
    ap (option_map (λ f. f.bytes))
    (find_past (is_named other) files at file file (apart (get_or files at file) file.name other same differs)
    (apart file file.name other refl differs))

pub pushed_held : (files : List NamedFile) (file : NamedFile) → position (is_named file.name) files ≡ None
    → bytes_of (files ++ file ∷ []) file.name ≡ Some file.bytes
pushed_held files file is =
    rw (
      find-append (is_named file.name) files (file ∷ []),
      not_found files file.name is,
      nat_list_eq_equiv.refl file.name,
    ) refl

pub pushed_others : (files : List NamedFile) (file : NamedFile) (other : List ℕ) → other ≢ file.name
    → bytes_of (files ++ file ∷ []) other ≡ bytes_of files other
pushed_others files file other differs =
    rw (
      find-append (is_named other) files (file ∷ []),
      apart file file.name other refl differs,
      or_none (find (is_named other) files),
    ) refl

-- a place that was looked for under equal names in equal lists
pub same_place : (files read : List NamedFile) (name sought : List ℕ) (place answer : Option ℕ)
    → place ≡ position (is_named sought) read
    → sought ≡ name → read ≡ files → place ≡ answer → position (is_named name) files ≡ answer
same_place files read name sought place answer is same_name same_files answered =
    ap (λ (n : List ℕ). position (is_named n) files) (sym same_name)
    ∙ ap (λ (fs : List NamedFile). position (is_named sought) fs) (sym same_files) ∙ sym is ∙ answered

-- The content of a name where its file is found, written or added.
use Rattle.std.proofs.Common.{◌≡◌, ◌≢◌, ℕ, Bool, true, false, cond, List, [], ◌∷◌, ◌++◌, get_or, set, Option, None, Some, refl, sym, ap, ◌∙◌, arith}
use Rattle.std.specs.Prelude.{position, option_map, slice_get, bytes_eq}
use Rattle.std.specs.List.{find, position_or_len}
use Rattle.std.specs.Option.{option_or}
use Rattle.std.proofs.lemmas.Bool.{false_from_ne_true}
use Rattle.std.proofs.lemmas.List.Folds.{find_at, find-set, find_past, find-append}
use Rattle.std.proofs.lemmas.List.Quantifiers.{position-Some}
use Rattle.std.proofs.lemmas.Option.{slice_get-get_or, slice_get_past}
use Rattle.std.proofs.lemmas.Slice.Eq.{bytes_eq-Decides}
use Rattle.own_io.specs.declared.memory_folder.File.{File}
use Rattle.own_io.specs.MemoryFolder.{content_of}

abbrev pub named : List ℕ → File → Bool
named name file = bytes_eq file.name name

picked : (b : Bool) (n i : ℕ) → cond b (Some n) None ≡ Some i → n ≡ i
picked true n i h = cc
picked false n i h = cc

unpicked : (b : Bool) (n : ℕ) → cond b (Some n) None ≡ None → b ≡ false
unpicked true n h = cc
unpicked false n h = refl

place_is : {X : Type 0} (p : X → Bool) (xs : List X) (i : ℕ) → position p xs ≡ Some i → i ≡ position_or_len p xs
place_is p xs i h = sym (picked _ (position_or_len p xs) i h)

find_placed : {X : Type 0} (p : X → Bool) (xs : List X) (i : ℕ) (d : X) → position p xs ≡ Some i → find p xs ≡ Some (get_or xs i d)
find_placed p xs i d h =
    find_at p xs ∙ ap (slice_get xs) (sym (place_is p xs i h)) ∙ slice_get-get_or xs i d (position-Some p xs i d h).0

find_unplaced : {X : Type 0} (p : X → Bool) (xs : List X) → position p xs ≡ None → find p xs ≡ None
find_unplaced p xs h =
    let e = unpicked _ (position_or_len p xs) h in
    find_at p xs ∙ slice_get_past xs (position_or_len p xs) (grind arith)

pub content_of_placed : (files : List File) (name : List ℕ) (i : ℕ) (d : File)
    → position (named name) files ≡ Some i → content_of files name ≡ Some (get_or files i d).content
content_of_placed files name i d h = ap (option_map (λ (file : File). file.content)) (find_placed (named name) files i d h)

pub content_of_unplaced : (files : List File) (name : List ℕ) → position (named name) files ≡ None → content_of files name ≡ None
content_of_unplaced files name h = ap (option_map (λ (file : File). file.content)) (find_unplaced (named name) files h)

same_name : (xs : List ℕ) → bytes_eq xs xs ≡ true
same_name xs = (bytes_eq-Decides xs xs).1 refl

other_name : (xs other : List ℕ) → other ≢ xs → bytes_eq xs other ≡ false
other_name xs other ne = false_from_ne_true (bytes_eq xs other) (λ e. ne (sym ((bytes_eq-Decides xs other).0 e)))

-- the name of the file that is found
name_is : (files : List File) (name : List ℕ) (i : ℕ) (old : File)
    → position (named name) files ≡ Some i → old ≡ get_or files i old → old.name ≡ name
name_is files name i old h is =
    ap (λ (file : File). file.name) is ∙ (bytes_eq-Decides _ name).0 (position-Some (named name) files i old h).1

pub content_of-set_same : (files : List File) (name content : List ℕ) (i : ℕ) (old : File)
    → position (named name) files ≡ Some i
    → old ≡ get_or files i old
    → content_of (set files i (record old { content = content })) name ≡ Some content
content_of-set_same files name content i old h is =
    ap (option_map (λ (file : File). file.content))
    (find-set (named name) files i (record old { content = content }) (place_is (named name) files i h)
    (position-Some (named name) files i old h).0
    ((bytes_eq-Decides old.name name).1 (name_is files name i old h is)))

pub content_of-set_other : (files : List File) (name content other : List ℕ) (i : ℕ) (old : File)
    → position (named name) files ≡ Some i
    → old ≡ get_or files i old
    → other ≢ name
    → content_of (set files i (record old { content = content })) other ≡ content_of files other
content_of-set_other files name content other i old h is ne =
    let e = name_is files name i old h is in
    let no : bytes_eq old.name other ≡ false = ap (λ n. bytes_eq n other) e ∙ other_name name other ne in
    ap (option_map (λ (file : File). file.content))
    (find_past (named other) files i (record old { content = content }) old (ap (named other) (sym is) ∙ no) no)

pub content_of-push_same : (files : List File) (name content : List ℕ)
    → position (named name) files ≡ None
    → content_of (files ++ record { name = name; content = content } ∷ []) name ≡ Some content
content_of-push_same files name content h =
    let file : File = record { name = name; content = content } in
    let found : find (named name) (files ++ file ∷ []) ≡ Some file =
    find-append (named name) files (file ∷ []) ∙ rw (find_unplaced (named name) files h, same_name name) refl in
    ap (option_map (λ (file : File). file.content)) found

after_none : {X : Type 0} (found : Option X) → option_or found None ≡ found
after_none None = refl
after_none (Some x) = refl

pub content_of-push_other : (files : List File) (name content other : List ℕ)
    → other ≢ name
    → content_of (files ++ record { name = name; content = content } ∷ []) other ≡ content_of files other
content_of-push_other files name content other ne =
    let file : File = record { name = name; content = content } in
    let found : find (named other) (files ++ file ∷ []) ≡ find (named other) files =
    find-append (named other) files (file ∷ [])
    ∙ rw (other_name name other ne) (after_none (find (named other) files)) in
    ap (option_map (λ (file : File). file.content)) found

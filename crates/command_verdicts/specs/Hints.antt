-- What texts of other formats begin like.
use Rattle.std.specs.Prelude.{ℕ, Bool, false, not, ◌==◌, ◌&&◌, ◌||◌, List, [], ◌∷◌, codes}
use Rattle.std.specs.List.{list_any}
use Rattle.std.specs.Str.{bytes_eq}
use Rattle.lexer.specs.Words.{begins_comment, first_words}

-- a line has this byte
abbrev pub has_byte : ℕ → List ℕ → Bool
has_byte wanted line = list_any (λ byte. byte == wanted) line

-- the words of a line are those with which a trace text or a log begins, whatever comes behind the
-- first
abbrev pub names_text : List (List ℕ) → Bool
names_text [] = false
names_text (word ∷ words) = bytes_eq word (codes "trace") || bytes_eq word (codes "log")

-- a line of these words has what parts cells: a comma; or a semicolon or a tab, where it doesn't
-- begin as those texts do, whose words may have tabs between them
abbrev pub parts_cells : List ℕ → List (List ℕ) → Bool
parts_cells line words =
    has_byte 44 line || (not (names_text words) && (has_byte 59 line || has_byte 9 line))

-- the words of a line are those of no comment, and there are some
abbrev pub are_no_comment : List (List ℕ) → Bool
are_no_comment [] = false
are_no_comment (word ∷ words) = not (begins_comment word)

-- the first line of a table has what parts its cells, and is no comment
abbrev pub begins_table : List (List ℕ) → Bool
begins_table [] = false
begins_table (line ∷ lines) =
    parts_cells line (first_words line) && are_no_comment (first_words line)

-- words of a line of BookSim's `anynet` files: `router 0 node 0 router 1` (Jiang et al., ISPASS 2013)
abbrev pub names_nodes : List (List ℕ) → Bool
names_nodes (first ∷ number ∷ third ∷ more) =
    bytes_eq first (codes "router") && bytes_eq third (codes "node")
names_nodes [] = false
names_nodes (first ∷ []) = false
names_nodes (first ∷ number ∷ []) = false

-- their first line has such
abbrev pub begins_anynet : List (List ℕ) → Bool
begins_anynet [] = false
begins_anynet (line ∷ lines) = names_nodes (first_words line)

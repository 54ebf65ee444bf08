-- The tiles that a machine begins with, one by one.
use Rattle.std.proofs.Common.{◌≡◌, ℕ, zero, suc, ◌+◌, ◌<◌, List, [], ◌∷◌, ◌++◌, length, Some, refl, sym, ◌∙◌, ap, arith, append_assoc, slice_get}
use Rattle.std.specs.Prelude.{option_map}
use Rattle.std.proofs.lemmas.List.{append-nil, map_push, length-map}
use Rattle.std.proofs.lemmas.Option.{slice_get-map, slice_get_within}
use Rattle.script_lines.specs.declared.line.Line.{Line}
use Rattle.script_lines.specs.declared.lists.LineList.{LineList}
use Rattle.script_lines.specs.Views.{lists_of}
use Rattle.tile.specs.Tile.{Design}
use Rattle.machine_parts.specs.Placed.{PlacedTile, first_tile}
use Rattle.machine_core.specs.Loaded.{tiles_from, first_tiles}

module _ (d : Design) (tags : ℕ) (room : ℕ → ℕ) where
  abbrev pub made : ℕ → List Line → PlacedTile
  made t lines = first_tile d t tags lines (room t)

  -- there are as many tiles as scripts
  count_from : (t : ℕ) (scripts : List (List Line)) → length (tiles_from d t tags room scripts) ≡ length scripts
  count_from t [] = refl
  count_from t (lines ∷ scripts) = ap suc (count_from (t + 1) scripts)

  pub count : (scripts : List (List Line)) → length (first_tiles d tags room scripts) ≡ length scripts
  count scripts = count_from 0 scripts

  -- the tile at each place
  at_from : (t k : ℕ) (scripts : List (List Line)) → slice_get (tiles_from d t tags room scripts) k ≡ option_map (made (t + k)) (slice_get scripts k)
  at_from t k [] = refl
  at_from t zero (lines ∷ scripts) = let e : t ≡ t + 0 = omega arith in ap (λ u. Some (made u lines)) e
  at_from t (suc k) (lines ∷ scripts) =
      let e : t + 1 + k ≡ t + suc k = omega arith in
      at_from (t + 1) k scripts ∙ ap (λ u. option_map (made u) (slice_get scripts k)) e

  pub at : (k : ℕ) (scripts : List (List Line)) → slice_get (first_tiles d tags room scripts) k ≡ option_map (made k) (slice_get scripts k)
  at k scripts = let e : 0 + k ≡ k = omega arith in at_from 0 k scripts ∙ ap (λ u. option_map (made u) (slice_get scripts k)) e

  -- one script more gives one tile more
  more_from : (t : ℕ) (scripts : List (List Line)) (lines : List Line)
      → tiles_from d t tags room (scripts ++ lines ∷ []) ≡ tiles_from d t tags room scripts ++ made (t + length scripts) lines ∷ []
  more_from t [] lines = let e : t ≡ t + 0 = omega arith in ap (λ u. made u lines ∷ []) e
  more_from t (first ∷ scripts) lines =
      let e : t + 1 + length scripts ≡ t + suc (length scripts) = omega arith in
      ap (λ vs. made t first ∷ vs)
      (more_from (t + 1) scripts lines ∙ ap (λ u. tiles_from d (t + 1) tags room scripts ++ made u lines ∷ []) e)

  pub more : (scripts : List (List Line)) (lines : List Line)
      → first_tiles d tags room (scripts ++ lines ∷ []) ≡ first_tiles d tags room scripts ++ made (length scripts) lines ∷ []
  more scripts lines =
      let e : 0 + length scripts ≡ length scripts = omega arith in
      more_from 0 scripts lines ∙ ap (λ u. first_tiles d tags room scripts ++ made u lines ∷ []) e

-- of as many scripts as there are tiles, and one more
module _ {A : Type 0} (d : Design) (tags : ℕ) (room : ℕ → ℕ) (tiles : List PlacedTile) (xs : List (LineList A))
    (is : tiles ≡ first_tiles d tags room (lists_of xs)) where
  pub as_many : length tiles ≡ length xs
  as_many = ap length is ∙ (count d tags room (lists_of xs) ∙ length-map xs (λ list. list.lines.items))

  pub one_more : (next : List PlacedTile) (new : PlacedTile) (x : LineList A) (n : ℕ) → next ≡ tiles ++ new ∷ [] → n ≡ length xs
      → new ≡ first_tile d n tags x.lines.items (room n) → next ≡ first_tiles d tags room (lists_of (xs ++ x ∷ []))
  one_more next new x n pushed number is_new =
      let counted : length (lists_of xs) ≡ length xs = length-map xs (λ list. list.lines.items) in
      pushed
      ∙ (ap (λ vs. vs ++ new ∷ []) is
      ∙ (ap (λ v. first_tiles d tags room (lists_of xs) ++ v ∷ []) (is_new ∙ ap (λ k. first_tile d k tags x.lines.items (room k)) (number ∙ sym counted))
      ∙ (sym (more d tags room (lists_of xs) x.lines.items)
      ∙ ap (first_tiles d tags room) (sym (map_push (λ list. list.lines.items) xs x)))))

-- the next script is the one after those that were taken
get_middle : {A : Type 0} (xs rest : List A) (x : A) → slice_get (xs ++ x ∷ rest) (length xs) ≡ Some x
get_middle [] rest x = refl
get_middle (y ∷ xs) rest x = get_middle xs rest x

pub next_lines : {A : Type 0} (all xs left rest : List (LineList A)) (x : LineList A) → all ≡ xs ++ left → left ≡ x ∷ rest →
    slice_get (lists_of all) (length xs) ≡ Some x.lines.items
next_lines all xs left rest x e n =
    slice_get-map (λ list. list.lines.items) all (length xs)
    ∙ ap (option_map (λ list. list.lines.items)) (ap (λ ls. slice_get ls (length xs)) (e ∙ ap (λ ls. xs ++ ls) n) ∙ get_middle xs rest x)

-- and then there is one more
pub one_taken : {A : Type 0} (all xs left rest : List A) (x : A) → all ≡ xs ++ left → left ≡ x ∷ rest → all ≡ (xs ++ x ∷ []) ++ rest
one_taken all xs left rest x e n = e ∙ (ap (λ ls. xs ++ ls) n ∙ sym (append_assoc xs (x ∷ []) rest))

-- where one is left, there are fewer taken than all
pub fewer : {A : Type 0} (all xs left rest : List (LineList A)) (x : LineList A) → all ≡ xs ++ left → left ≡ x ∷ rest → length xs < length (lists_of all)
fewer all xs left rest x e n = slice_get_within (lists_of all) (length xs) x.lines.items (next_lines all xs left rest x e n)

-- so the next one's number is below the number of tiles
pub below : {A : Type 0} (d : Design) (tags : ℕ) (room : ℕ → ℕ) (tiles : List PlacedTile) (all xs left rest : List (LineList A)) (x : LineList A)
    (n len count : ℕ)
    → n ≡ len → len ≡ length tiles → tiles ≡ first_tiles d tags room (lists_of xs) → all ≡ xs ++ left → left ≡ x ∷ rest → length (lists_of all) ≡ count
    → n < count
below d tags room tiles all xs left rest x n len count is counted made_of e first number =
    let low = fewer all xs left rest x e first in
    let same = as_many d tags room tiles xs made_of in
    omega (arith, is, counted, number)

pub none_left : {A : Type 0} (xs : List A) → length xs ≡ 0 → xs ≡ []
none_left [] h = refl
none_left (x ∷ xs) h = absurd (omega arith)

-- where none is left, all were taken
pub all_made : {A : Type 0} (d : Design) (tags : ℕ) (room : ℕ → ℕ) (tiles : List PlacedTile) (all xs left : List (LineList A))
    → tiles ≡ first_tiles d tags room (lists_of xs) → all ≡ xs ++ left → left ≡ [] → tiles ≡ first_tiles d tags room (lists_of all)
all_made d tags room tiles all xs left is e none =
    let same : all ≡ xs = e ∙ (ap (λ ls. xs ++ ls) none ∙ append-nil xs) in
    is ∙ ap (λ ls. first_tiles d tags room (lists_of ls)) (sym same)

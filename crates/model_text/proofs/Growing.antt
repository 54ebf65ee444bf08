-- Lists that grow in a loop.
use Rattle.std.proofs.Common.{◌≡◌, ℕ, zero, suc, ◌+◌, ◌<◌, ◌≤◌, cond, Bool, true, false, List, [], ◌∷◌, ◌++◌, length, map, take, Vec, refl, sym, ◌∙◌, ap, arith, get_or}
use Rattle.std.specs.Prelude.{not, ◌==◌, nat_lt, fold, min, Option}
use Rattle.std.specs.List.{range_with_len, flat_map, concat}
use Rattle.std.proofs.lemmas.List.{map_more, append_assoc, take_min}
use Rattle.std.proofs.lemmas.List.Folds.{concat-append, flat_map-map}
use Rattle.std.proofs.lemmas.List.FromFn.{map-range_with_len_more}
use Rattle.std.proofs.lemmas.List.Sums.{fold_more, prefix_len-le-length}
use Rattle.std.proofs.lemmas.Grind.{flat_map-append}
use Rattle.packet.specs.Memory.{new_word}
use Rattle.trace_lines.specs.Head.{HeadSpec, no_head}
use Rattle.weak_models.specs.declared.notes.Dependency.{Dependency}
use Rattle.weak_models.specs.declared.notes.Note.{Note}
use Rattle.model_text.specs.declared.annotation.Reservation.{Reservation}
use Rattle.model_text.specs.declared.logged.Logged.{Logged}
use Rattle.model_text.specs.InsideRows.{row_lists}
use Rattle.model_text.specs.Made.{LogLines}
use Rattle.model_text.specs.Rows.{no_rows}
use Rattle.model_text.specs.Traces.{place_in, place_below, logged_at}
use Rattle.model_text.specs.Values.{op_logged, word_of_writes, line_left}

append_nil : {X : Type 0} (xs : List X) → xs ++ [] ≡ xs
append_nil [] = refl
append_nil (x ∷ xs) = ap (λ t. x ∷ t) (append_nil xs)

-- one row more
pub joined_more : {A : Type 0} (rows : List (Vec ℕ A)) (i : ℕ) (v : Vec ℕ A) → i < length rows → v ≡ get_or rows i v
    → concat (row_lists (take i rows)) ++ v.items ≡ concat (row_lists (take (i + 1) rows))
joined_more {A} rows i v low is =
    let grown : row_lists (take (i + 1) rows) ≡ row_lists (take i rows) ++ v.items ∷ [] =
    map_more (λ (w : Vec ℕ A). w.items) rows i v low ∙ ap (λ (w : Vec ℕ A). row_lists (take i rows) ++ w.items ∷ []) (sym is) in
    sym (ap concat grown ∙ (concat-append (row_lists (take i rows)) (v.items ∷ []) ∙ ap (λ t. concat (row_lists (take i rows)) ++ t) (append_nil v.items)))

-- one image more
pub mapped_more : {X Y : Type 0} (f : X → Y) (xs : List X) (i : ℕ) (x : X) (base items new : List Y) (y : Y) → i < length xs → x ≡ get_or xs i x → y ≡ f x
    → new ≡ items ++ y ∷ [] → items ≡ base ++ map f (take i xs) → new ≡ base ++ map f (take (i + 1) xs)
mapped_more {X} {Y} f xs i x base items new y low is made grown so_far =
    let more : map f (take (i + 1) xs) ≡ map f (take i xs) ++ y ∷ [] =
    map_more f xs i x low ∙ ap (λ (z : Y). map f (take i xs) ++ z ∷ []) (ap f (sym is) ∙ sym made) in
    grown ∙ (ap (λ t. t ++ y ∷ []) so_far ∙ (append_assoc base (map f (take i xs)) (y ∷ []) ∙ ap (λ t. base ++ t) (sym more)))

pub ranged_more : {Y : Type 0} (f : ℕ → Y) (k : ℕ) (base items new : List Y) (y : Y) → y ≡ f k → new ≡ items ++ y ∷ []
    → items ≡ base ++ map f (range_with_len 0 k) → new ≡ base ++ map f (range_with_len 0 (k + 1))
ranged_more {Y} f k base items new y made grown so_far =
    let more : map f (range_with_len 0 (k + 1)) ≡ map f (range_with_len 0 k) ++ y ∷ [] =
    map-range_with_len_more f 0 k k (omega arith) ∙ ap (λ (z : Y). map f (range_with_len 0 k) ++ z ∷ []) (sym made) in
    grown ∙ (ap (λ t. t ++ y ∷ []) so_far ∙ (append_assoc base (map f (range_with_len 0 k)) (y ∷ []) ∙ ap (λ t. base ++ t) (sym more)))

-- the lists of one number more
pub flat_more : (f : ℕ → List ℕ) (k : ℕ) (items new : List ℕ) → new ≡ items ++ f k → items ≡ flat_map f (range_with_len 0 k)
    → new ≡ flat_map f (range_with_len 0 (k + 1))
flat_more f k items new grown so_far =
    let here : (n : ℕ) → flat_map f (range_with_len 0 n) ≡ flat_map (λ (ys : List ℕ). ys) (map f (range_with_len 0 n)) =
    λ n. sym (flat_map-map (λ (ys : List ℕ). ys) f (range_with_len 0 n)) in
    let more : flat_map (λ (ys : List ℕ). ys) (map f (range_with_len 0 (k + 1))) ≡ flat_map (λ (ys : List ℕ). ys) (map f (range_with_len 0 k)) ++ f k =
    ap (flat_map (λ (ys : List ℕ). ys)) (map-range_with_len_more f 0 k k (omega arith))
    ∙ (flat_map-append (λ (ys : List ℕ). ys) (map f (range_with_len 0 k)) (f k ∷ [])
    ∙ ap (λ t. flat_map (λ (ys : List ℕ). ys) (map f (range_with_len 0 k)) ++ t) (append_nil (f k))) in
    grown ∙ (ap (λ t. t ++ f k) (so_far ∙ here k) ∙ (sym more ∙ sym (here (k + 1))))

-- the word that one write more leaves
pub word_more : (steps : List Logged) (writes : List ℕ) (i d : ℕ) → i < length writes
    → new_word (op_logged steps (get_or writes i d)) (word_of_writes steps writes i) ≡ word_of_writes steps writes (i + 1)
word_more steps writes i d low = sym (fold_more (λ (w : ℕ) (z : ℕ). new_word (op_logged steps z) w) 0 writes i d low)

-- the line that left it
pub line_more : (steps : List Logged) (writes : List ℕ) (i d : ℕ) → i < length writes
    → (logged_at steps (get_or writes i d)).line ≡ line_left steps writes (i + 1)
line_more steps writes i d low = sym (fold_more (λ (l : ℕ) (z : ℕ). (logged_at steps z).line) 0 writes i d low)

-- no place is above the list's length
low_cond : (b : Bool) (a n : ℕ) → a ≤ n → cond b a n ≤ n
low_cond true a n l = l
low_cond false a n l = omega arith

pub place_low : (list : List ℕ) (count x : ℕ) → place_below list count x ≤ length list
place_low list count x = low_cond (nat_lt x count) (place_in list x) (length list) (prefix_len-le-length (λ (y : ℕ). not (y == x)) list)

-- nothing is given at first
abbrev pub logged_so : HeadSpec → List (ℕ × ℕ) → List ℕ → List (List ℕ) → List (List ℕ) → List Logged → List (ℕ × Note)
    → List (ℕ × Option Reservation) → List Dependency → List (ℕ × ℕ) → LogLines
logged_so head places addresses rows orders made notes reserved dependencies finals = record {
  head = head;
  places = places;
  addresses = addresses;
  rows = rows;
  orders = orders;
  made = made;
  notes = notes;
  reserved = reserved;
  dependencies = dependencies;
  finals = finals;
}

pub nothing_is : (n : ℕ) (head : HeadSpec) (places : List (ℕ × ℕ)) (addresses : List ℕ) (rows orders : List (List ℕ)) (made : List Logged)
    (notes : List (ℕ × Note)) (reserved : List (ℕ × Option Reservation)) (dependencies : List Dependency) (finals : List (ℕ × ℕ))
    → head ≡ no_head → places ≡ [] → addresses ≡ [] → rows ≡ no_rows n → orders ≡ no_rows 0 → made ≡ [] → notes ≡ [] → reserved ≡ [] → dependencies ≡ []
    → finals ≡ []
    → logged_so head places addresses rows orders made notes reserved dependencies finals ≡ logged_so no_head [] [] (no_rows n) (no_rows 0) [] [] [] [] []
nothing_is n head places addresses rows orders made notes reserved dependencies finals h p a r o m e s d f =
    ap (λ z. logged_so z places addresses rows orders made notes reserved dependencies finals) h
    ∙ (ap (λ z. logged_so no_head z addresses rows orders made notes reserved dependencies finals) p
    ∙ (ap (λ z. logged_so no_head [] z rows orders made notes reserved dependencies finals) a
    ∙ (ap (λ z. logged_so no_head [] [] z orders made notes reserved dependencies finals) r
    ∙ (ap (λ z. logged_so no_head [] [] (no_rows n) z made notes reserved dependencies finals) o
    ∙ (ap (λ z. logged_so no_head [] [] (no_rows n) (no_rows 0) z notes reserved dependencies finals) m
    ∙ (ap (λ z. logged_so no_head [] [] (no_rows n) (no_rows 0) [] z reserved dependencies finals) e
    ∙ (ap (λ z. logged_so no_head [] [] (no_rows n) (no_rows 0) [] [] z dependencies finals) s
    ∙ (ap (λ z. logged_so no_head [] [] (no_rows n) (no_rows 0) [] [] [] z finals) d
    ∙ ap (λ z. logged_so no_head [] [] (no_rows n) (no_rows 0) [] [] [] [] z) f))))))))

-- more writes than there are leave what all leave
pub word_of_min : (steps : List Logged) (writes : List ℕ) (n : ℕ) → word_of_writes steps writes (min n (length writes)) ≡ word_of_writes steps writes n
word_of_min steps writes n = ap (λ (xs : List ℕ). fold (λ (w : ℕ) (z : ℕ). new_word (op_logged steps z) w) 0 xs) (take_min n writes)

pub line_of_min : (steps : List Logged) (writes : List ℕ) (n : ℕ) → line_left steps writes (min n (length writes)) ≡ line_left steps writes n
line_of_min steps writes n = ap (λ (xs : List ℕ). fold (λ (l : ℕ) (z : ℕ). (logged_at steps z).line) 0 xs) (take_min n writes)

-- an element within a list, whatever stands past it
pub same_read : {X : Type 0} (xs : List X) (k : ℕ) (d e : X) → k < length xs → get_or xs k d ≡ get_or xs k e
same_read [] k d e l = absurd (omega arith)
same_read (x ∷ xs) zero d e l = refl
same_read (x ∷ xs) (suc k) d e l = same_read xs k d e (omega arith)

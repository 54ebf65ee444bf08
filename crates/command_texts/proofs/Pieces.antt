-- Lines that were taken one after another.
use Rattle.std.proofs.Common.{◌≡◌, ℕ, ◌+◌, ◌<◌, List, [], ◌∷◌, ◌++◌, length, get_or, map, take, drop, Option, arith, ap, subst, sym, ◌∙◌, append_assoc}
use Rattle.std.proofs.Common.{append-nil, zero-add}
use Rattle.std.specs.List.{flat_map, range_with_len}
use Rattle.std.specs.Io.KnownBytes.{Appends}
use Rattle.std.proofs.KnownBytes.{Appends-trans}
use Rattle.std.proofs.lemmas.List.Concat.{flat_map-append}
use Rattle.std.proofs.lemmas.List.FromFn.{length-map-range_with_len, take-map-range_with_len, get_or-map-range_with_len, map-range_with_len_more}
use Rattle.report_lines.specs.Taken.{AppendsFront}
use Rattle.report_lines.proofs.Fronts.{front_behind, pieces_at}

-- the bytes of the first lines
abbrev pub first_lines : (ℕ → List ℕ) → ℕ → List ℕ
first_lines line n = flat_map (λ text. text) (map line (range_with_len 0 n))

first_lines-more : (line : ℕ → List ℕ) (i : ℕ) → first_lines line (i + 1) ≡ first_lines line i ++ line i
first_lines-more line i =
    ap (flat_map (λ text. text)) (map-range_with_len_more line 0 i i (zero-add i))
    ∙ flat_map-append (λ text. text) (map line (range_with_len 0 i)) (line i ∷ [])
    ∙ ap (λ t. first_lines line i ++ t) (append-nil (line i))

-- one more line
pub line_more : (a b c : Option (List ℕ)) (line : ℕ → List ℕ) (i : ℕ) → Appends a b (first_lines line i) → Appends b c (line i)
    → Appends a c (first_lines line (i + 1))
line_more a b c line i before here = subst (Appends a c) (sym (first_lines-more line i)) (Appends-trans a b c _ _ before here)

-- a beginning of one more line is a beginning of all lines
pub line_front : (a b c : Option (List ℕ)) (line : ℕ → List ℕ) (i n : ℕ) → i < n → Appends a b (first_lines line i) → AppendsFront b c (line i)
    → AppendsFront a c (first_lines line n)
line_front a b c line i n inside before here =
    let xs : List (List ℕ) = map line (range_with_len 0 n) in
    let whole : i < length xs = rw length-map-range_with_len inside in
    let firsts : take i xs ≡ map line (range_with_len 0 i) = take-map-range_with_len line 0 n i (omega arith) in
    let this : get_or xs i [] ≡ line i = get_or-map-range_with_len line 0 n i i [] inside (zero-add i) in
    let parts = pieces_at (λ text. text) xs i [] whole in
    let shown : first_lines line n ≡ first_lines line i ++ (line i ++ flat_map (λ text. text) (drop (i + 1) xs)) = cc in
    subst (AppendsFront a c) (sym shown) (front_behind a b c _ _ _ before here)

-- a beginning of a text is one of a longer text
pub front_of_more : (a b : Option (List ℕ)) (x y : List ℕ) → AppendsFront a b x → AppendsFront a b (x ++ y)
front_of_more a b x y h = (h.0, h.1 ++ y, ap (λ (t : List ℕ). t ++ y) h.2 ∙ append_assoc h.0 h.1 y, h.3)

-- a beginning of the last piece
pub front_of_last : (a b c : Option (List ℕ)) (x y : List ℕ) → Appends a b x → AppendsFront b c y → AppendsFront a c (x ++ y)
front_of_last a b c x y before h = (x ++ h.0, h.1, ap (λ (t : List ℕ). x ++ t) h.2 ∙ sym (append_assoc x h.0 h.1), Appends-trans a b c x h.0 before h.3)

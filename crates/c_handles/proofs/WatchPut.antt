-- Rows that are put one after the other.
use Rattle.std.proofs.Common.{◌≡◌, ℕ, ◌+◌, List, [], ◌∷◌, ◌++◌, map, take, Some, sym, ◌∙◌, ap, ap₂, append_assoc, slice_get}
use Rattle.std.specs.List.{flat_map}
use Rattle.std.proofs.lemmas.List.{flat_map_more, take_more}
use Rattle.std.proofs.lemmas.List.Concat.{flat_map_single}
use Rattle.std.proofs.lemmas.List.Folds.{flat_map-map}
use Rattle.std.proofs.lemmas.Option.{slice_get_within, get_or_from_slice_get}

-- the first of some, and one more
one_more : {X : Type 0} (xs : List X) (k : ℕ) (x : X) → slice_get xs k ≡ Some x → take k xs ++ x ∷ [] ≡ take (k + 1) xs
one_more xs k x there =
    sym (take_more xs k x (slice_get_within xs k x there) ∙ ap (λ y. take k xs ++ y ∷ []) (get_or_from_slice_get xs k x x there))

-- the rows of one more
pub put_more : {X Y : Type 0} (f : X → List Y) (xs : List X) (k : ℕ) (x : X) (o now next : List Y) → slice_get xs k ≡ Some x
    → now ≡ o ++ flat_map f (take k xs) → next ≡ now ++ f x → next ≡ o ++ flat_map f (take (k + 1) xs)
put_more {X} {Y} f xs k x o now next there so_far put =
    put
    ∙ (ap (λ (z : List Y). z ++ f x) so_far
    ∙ (flat_map_more f o (take k xs) x ∙ ap (λ (ys : List X). o ++ flat_map f ys) (one_more xs k x there)))

-- rows behind rows that were put
pub put_then : {Y : Type 0} (o a b now next : List Y) → now ≡ o ++ a → next ≡ now ++ b → next ≡ o ++ (a ++ b)
put_then {Y} o a b now next first then = then ∙ (ap (λ (z : List Y). z ++ b) first ∙ append_assoc o a b)

-- two rows
pub put_two : {Y : Type 0} (o : List Y) (r s row other : Y) (now next : List Y) → r ≡ row → s ≡ other → now ≡ o ++ r ∷ [] → next ≡ now ++ s ∷ []
    → next ≡ o ++ row ∷ other ∷ []
put_two {Y} o r s row other now next one two first then =
    put_then o (r ∷ []) (s ∷ []) now next first then ∙ ap₂ (λ (x y : Y). o ++ x ∷ y ∷ []) one two

-- rows of two kinds, which are those of others
pub put_pair : {Y : Type 0} (o a b d e now next : List Y) → a ≡ d → b ≡ e → now ≡ o ++ a → next ≡ now ++ b → next ≡ o ++ (d ++ e)
put_pair {Y} o a b d e now next one two first then =
    put_then o a b now next first then ∙ ap₂ (λ (x y : List Y). o ++ (x ++ y)) one two

-- and of three
pub put_three : {Y : Type 0} (o a b c d e f x y z : List Y) → a ≡ d → b ≡ e → c ≡ f → x ≡ o ++ a → y ≡ x ++ b → z ≡ y ++ c
    → z ≡ o ++ (d ++ (e ++ f))
put_three {Y} o a b c d e f x y z one two three first second third =
    put_pair o a (b ++ c) d (e ++ f) x z one (ap₂ (λ (u v : List Y). u ++ v) two three) first (put_then x b c y z second third)

-- where there was nothing
pub put_all : {Y : Type 0} (o a b c d e f x y z : List Y) → o ≡ [] → a ≡ d → b ≡ e → c ≡ f → x ≡ o ++ a → y ≡ x ++ b → z ≡ y ++ c
    → z ≡ d ++ (e ++ f)
put_all {Y} o a b c d e f x y z empty one two three first second third =
    put_three o a b c d e f x y z one two three first second third ∙ ap (λ (w : List Y). w ++ (d ++ (e ++ f))) empty

-- one row more, of one more
pub put_one : {X Y : Type 0} (f : X → Y) (xs : List X) (k : ℕ) (x : X) (o now next : List Y) → slice_get xs k ≡ Some x
    → now ≡ o ++ map f (take k xs) → next ≡ now ++ f x ∷ [] → next ≡ o ++ map f (take (k + 1) xs)
put_one {X} {Y} f xs k x o now next there so_far put =
    let singles : (ys : List X) → flat_map (λ y. f y ∷ []) ys ≡ map f ys = flat_map_single f in
    put_more (λ y. f y ∷ []) xs k x o now next there (so_far ∙ ap (λ (z : List Y). o ++ z) (sym (singles (take k xs)))) put
    ∙ ap (λ (z : List Y). o ++ z) (singles (take (k + 1) xs))

-- the rows of what is said of one more
pub put_said : {X Z Y : Type 0} (g : Z → List Y) (f : X → Z) (xs : List X) (k : ℕ) (x : X) (o now next : List Y) → slice_get xs k ≡ Some x
    → now ≡ o ++ flat_map g (map f (take k xs)) → next ≡ now ++ g (f x) → next ≡ o ++ flat_map g (map f (take (k + 1) xs))
put_said {X} {Z} {Y} g f xs k x o now next there so_far put =
    put_more (λ y. g (f y)) xs k x o now next there (so_far ∙ ap (λ (z : List Y). o ++ z) (flat_map-map g f (take k xs))) put
    ∙ ap (λ (z : List Y). o ++ z) (sym (flat_map-map g f (take (k + 1) xs)))

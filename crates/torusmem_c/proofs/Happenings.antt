-- Events that are kept, one piece more.
use Rattle.std.proofs.Common.{◌≡◌, ℕ, ◌+◌, Bool, List, [], ◌∷◌, ◌++◌, take, Some, sym, ◌∙◌, ap, append_assoc, slice_get}
use Rattle.std.specs.Prelude.{filter}
use Rattle.std.specs.List.{flat_map}
use Rattle.std.proofs.lemmas.List.{flat_map_more, take_more}
use Rattle.std.proofs.lemmas.List.Elements.{filter-append}
use Rattle.std.proofs.lemmas.Option.{slice_get_within, get_or_from_slice_get}

-- two pieces, one behind the other
pub kept_more : {X : Type 0} (p : X → Bool) (o n m xs ys : List X) → n ≡ o ++ filter p xs → m ≡ n ++ filter p ys → m ≡ o ++ filter p (xs ++ ys)
kept_more {X} p o n m xs ys one two =
    two
    ∙ (ap (λ (z : List X). z ++ filter p ys) one
    ∙ (append_assoc o (filter p xs) (filter p ys) ∙ ap (λ (z : List X). o ++ z) (sym (filter-append p xs ys))))

-- those of one row more
pub rows_more : {X Y : Type 0} (p : Y → Bool) (f : X → List Y) (xs : List X) (k : ℕ) (x : X) (now next : List Y) → Some x ≡ slice_get xs k
    → now ≡ filter p (flat_map f (take k xs)) → next ≡ now ++ filter p (f x) → next ≡ filter p (flat_map f (take (k + 1) xs))
rows_more {X} {Y} p f xs k x now next there so_far put =
    put
    ∙ (ap (λ (z : List Y). z ++ filter p (f x)) so_far
    ∙ (sym (filter-append p (flat_map f (take k xs)) (f x))
    ∙ ap (filter p)
    (flat_map_more f [] (take k xs) x
    ∙ ap (flat_map f)
    (sym (take_more xs k x (slice_get_within xs k x (sym there)) ∙ ap (λ y. take k xs ++ y ∷ []) (get_or_from_slice_get xs k x x (sym there)))))))

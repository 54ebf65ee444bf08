-- The place of an element among the images of others.
use Rattle.std.proofs.Common.{◌≡◌, ◌+◌, Bool, List, [], ◌∷◌, map, refl, ap}
use Rattle.std.specs.Prelude.{position, cond, not}
use Rattle.std.specs.List.{prefix_len}
use Rattle.std.proofs.lemmas.List.{length-map}

prefix_mapped : {X Y : Type 0} (p : Y → Bool) (f : X → Y) (xs : List X) → prefix_len p (map f xs) ≡ prefix_len (λ x. p (f x)) xs
prefix_mapped p f [] = refl
prefix_mapped p f (x ∷ xs) = ap (λ n. cond (p (f x)) (1 + n) 0) (prefix_mapped p f xs)

pub position_mapped : {X Y : Type 0} (p : Y → Bool) (f : X → Y) (xs : List X) → position p (map f xs) ≡ position (λ x. p (f x)) xs
position_mapped p f xs = rw (prefix_mapped (λ y. not (p y)) f xs, length-map xs f) refl

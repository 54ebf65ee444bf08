-- Lists of vectors, one of which has one element more.
use Rattle.std.proofs.Common.{◌≡◌, ◌≢◌, ℕ, add-one, zero, suc, ◌+◌, ◌<◌, ◌≤◌, List, [], ◌∷◌, ◌++◌, length, map, replicate, set, Some, slice_get, refl, get_or}
use Rattle.std.proofs.Common.{get_or-set_same, get_or-set_other, length-set, sym, ◌∙◌, ap, arith, ⊎_elim}
use Rattle.std.proofs.lemmas.List.{get_or-map, get_or_append_left, get_or_push, length-map, map-set, map_push}
use Rattle.std.proofs.lemmas.Bool.{cases_eq, cases_lt}
use Rattle.one_order.specs.Events.{push_at}

-- what a vector of a list shows
pub shown_at : {V B : Type 0} (f : V → B) (vs : List V) (k : ℕ) (v : V) (d : B) → k < length vs → v ≡ get_or vs k v → get_or (map f vs) k d ≡ f v
shown_at f vs k v d there is = get_or-map f vs k v d there ∙ ap f (sym is)

-- one vector has a number more
pub pushed : {V : Type 0} (items : V → List ℕ) (vs : List V) (k x : ℕ) (old new : V) → k < length vs → old ≡ get_or vs k old → items new ≡ items old ++ x ∷ []
    → map items (set vs k new) ≡ push_at (map items vs) k x
pushed items vs k x old new there is more =
    map-set items vs k new ∙ ap (set (map items vs) k) (more ∙ ap (λ xs. xs ++ x ∷ []) (sym (shown_at items vs k old [] there is)))

-- a vector that has no less room leaves each with no less
pub roomier : {V : Type 0} (room : V → ℕ) (vs : List V) (k : ℕ) (old new : V) → k < length vs → old ≡ get_or vs k old → room old ≤ room new
    → (p : ℕ) → get_or (map room vs) p 0 ≤ get_or (map room (set vs k new)) p 0
roomier room vs k old new there is more p =
    let changed = ap (λ xs. get_or xs p 0) (map-set room vs k new) in
    let counted = length-map vs room in
    ⊎_elim
    (λ (same : p ≡ k).
    let before : get_or (map room vs) p 0 ≡ room old = ap (λ j. get_or (map room vs) j 0) same ∙ shown_at room vs k old 0 there is in
    let after : get_or (set (map room vs) k (room new)) p 0 ≡ room new =
    ap (λ j. get_or (set (map room vs) k (room new)) j 0) same ∙ get_or-set_same (map room vs) k (room new) 0 (omega arith) in
    omega arith)
    (λ (other : p ≢ k). let after = get_or-set_other (map room vs) k p (room new) 0 other in omega arith)
    (cases_eq p k)

-- as many as before
pub as_many : {V : Type 0} (room : V → ℕ) (vs : List V) (k : ℕ) (new : V) → length (map room (set vs k new)) ≡ length (map room vs)
as_many room vs k new = length-map (set vs k new) room ∙ (length-set vs k new ∙ sym (length-map vs room))

-- a vector that shows the same leaves all that is shown
pub same_shown : {V B : Type 0} (f : V → B) (vs : List V) (k : ℕ) (old new : V) → k < length vs → old ≡ get_or vs k old → f new ≡ f old
    → map f (set vs k new) ≡ map f vs
same_shown f [] k old new there is same = refl
same_shown f (v ∷ vs) zero old new there is same = ap (λ x. x ∷ map f vs) (same ∙ ap f is)
same_shown f (v ∷ vs) (suc k) old new there is same = ap (λ xs. f v ∷ xs) (same_shown f vs k old new (omega arith) is same)

-- it has its room at its place
pub room_there : {V : Type 0} (room : V → ℕ) (vs : List V) (k : ℕ) (new : V) → k < length vs → get_or (map room (set vs k new)) k 0 ≡ room new
room_there room vs k new there =
    let counted = length-map vs room in
    ap (λ xs. get_or xs k 0) (map-set room vs k new) ∙ get_or-set_same (map room vs) k (room new) 0 (omega (arith, counted, there))

-- one empty list more
empty_next : {A : Type 0} (n : ℕ) → replicate {A = List A} (suc n) [] ≡ replicate n [] ++ [] ∷ []
empty_next zero = refl
empty_next (suc n) = ap (λ xss. [] ∷ xss) (empty_next n)

empty_more : {A : Type 0} (n : ℕ) → replicate {A = List A} (n + 1) [] ≡ replicate n [] ++ [] ∷ []
empty_more {A = A} n = ap (λ k. replicate {A = List A} k []) (add-one n) ∙ empty_next n

pub empties : {V A : Type 0} (items : V → List A) (vs new : List V) (v : V) (n : ℕ) → new ≡ vs ++ v ∷ [] → items v ≡ [] → map items vs ≡ replicate n []
    → map items new ≡ replicate (n + 1) []
empties {A = A} items vs new v n more none before =
    ap (map items) more ∙ (map_push items vs v
    ∙ (ap (λ (xs : List A). map items vs ++ xs ∷ []) none ∙ (ap (λ (xss : List (List A)). xss ++ [] ∷ []) before ∙ sym (empty_more n))))

-- the new vector has its room, as those before it have theirs
pub rooms_more : {V : Type 0} (room_of : V → ℕ) (vs new : List V) (v : V) (rooms : List ℕ) (n : ℕ) → new ≡ vs ++ v ∷ [] → length vs ≡ n
    → ((k room : ℕ) → k < n → slice_get rooms k ≡ Some room → room ≤ get_or (map room_of vs) k 0)
    → ((room : ℕ) → slice_get rooms n ≡ Some room → room ≤ room_of v)
    → (k room : ℕ) → k < n + 1 → slice_get rooms k ≡ Some room → room ≤ get_or (map room_of new) k 0
rooms_more room_of vs new v rooms n more count before fresh k room below at =
    let counted = length-map vs room_of in
    let is = ap (λ xs. get_or (map room_of xs) k 0) more ∙ ap (λ xs. get_or xs k 0) (map_push room_of vs v) in
    ⊎_elim
    (λ (there : k < n). let here = get_or_append_left (map room_of vs) (room_of v ∷ []) 0 k (omega arith) in omega (arith, before k room there at))
    (λ (last : n ≤ k). let e : k ≡ n = omega arith in
    let here = get_or_push (map room_of vs) (room_of v) 0 k (omega arith) in
    omega (arith, fresh room (ap (slice_get rooms) (sym e) ∙ at)))
    (cases_lt k n)

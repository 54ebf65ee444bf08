-- Lists that grow in a loop by what a function gives of the next item.
use Rattle.std.proofs.Common.{◌≡◌, ℕ, suc, ◌+◌, ◌≤◌, List, [], ◌∷◌, ◌++◌, length, map, take, Option, Some, None, sym, refl, ap, ◌∙◌, arith, append_assoc}
use Rattle.std.proofs.Common.{slice_get}
use Rattle.std.specs.List.{cons_option, filter_map, flat_map, range_with_len}
use Rattle.std.specs.Option.{option_to_list}
use Rattle.std.proofs.lemmas.List.{append-nil, length-append, map-append}
use Rattle.std.proofs.lemmas.List.Elements.{filter_map-append}
use Rattle.std.proofs.lemmas.Grind.{flat_map-append}
use Rattle.report_lines.proofs.Indexes.{range-more}
use Rattle.report_lines.proofs.Pieces.{take_next}

as_list : {Y : Type 0} (o : Option Y) → cons_option o [] ≡ option_to_list o
as_list None = refl
as_list (Some y) = refl

single : {X Y : Type 0} (f : X → Option Y) (x : X) → filter_map f (x ∷ []) ≡ option_to_list (f x)
single f x = as_list (f x)

pub next_item : {X : Type 0} (xs : List X) (k : ℕ) (x : X) → slice_get xs k ≡ Some x → take (k + 1) xs ≡ take k xs ++ x ∷ []
next_item xs k x is = take_next xs k ∙ ap (λ o. take k xs ++ option_to_list o) is

pub range_next : (n : ℕ) → range_with_len 0 (n + 1) ≡ range_with_len 0 n ++ n ∷ []
range_next n =
    let one : n + 1 ≡ suc n = omega arith in
    let none : 0 + n ≡ n = omega arith in
    ap (λ k. range_with_len 0 k) one ∙ range-more 0 n ∙ ap (λ k. range_with_len 0 n ++ k ∷ []) none

-- what a function gives of one item more
grown : {X Y : Type 0} (f : X → Option Y) (xs more : List X) (x : X) (so new : List Y) (o : Option Y) → more ≡ xs ++ x ∷ [] → o ≡ f x
    → new ≡ so ++ option_to_list o → so ≡ filter_map f xs → new ≡ filter_map f more
grown f xs more x so new o longer is pushed so_far =
    pushed ∙ ap (λ t. t ++ option_to_list o) so_far ∙ ap (λ z. filter_map f xs ++ option_to_list z) is
    ∙ ap (λ t. filter_map f xs ++ t) (sym (single f x)) ∙ sym (filter_map-append f xs (x ∷ [])) ∙ ap (filter_map f) (sym longer)

pub kept_more : {X Y : Type 0} (f : X → Option Y) (xs : List X) (k : ℕ) (x : X) (so new : List Y) (o : Option Y) → slice_get xs k ≡ Some x → o ≡ f x
    → new ≡ so ++ option_to_list o → so ≡ filter_map f (take k xs) → new ≡ filter_map f (take (k + 1) xs)
kept_more f xs k x so new o there is pushed so_far = grown f (take k xs) (take (k + 1) xs) x so new o (next_item xs k x there) is pushed so_far

pub kept_in_range : {Y : Type 0} (f : ℕ → Option Y) (n : ℕ) (so new : List Y) (o : Option Y) → o ≡ f n → new ≡ so ++ option_to_list o
    → so ≡ filter_map f (range_with_len 0 n) → new ≡ filter_map f (range_with_len 0 (n + 1))
kept_in_range f n so new o is pushed so_far = grown f (range_with_len 0 n) (range_with_len 0 (n + 1)) n so new o (range_next n) is pushed so_far

one_at_most : {Y : Type 0} (o : Option Y) → length (option_to_list o) ≤ 1
one_at_most None = omega arith
one_at_most (Some y) = omega arith

pub one_longer : {Y : Type 0} (n : ℕ) (so new : List Y) (o : Option Y) → new ≡ so ++ option_to_list o → length so ≤ n → length new ≤ n + 1
one_longer n so new o pushed so_far =
    let long : length new ≡ length so + length (option_to_list o) = ap length pushed ∙ length-append so (option_to_list o) in
    let one = one_at_most o in omega arith

-- items behind others, each as a function makes it
pub mapped_more : {X Y : Type 0} (f : X → Y) (xs : List X) (k : ℕ) (x : X) (base so new : List Y) → slice_get xs k ≡ Some x → new ≡ so ++ f x ∷ []
    → so ≡ base ++ map f (take k xs) → new ≡ base ++ map f (take (k + 1) xs)
mapped_more f xs k x base so new there pushed so_far =
    pushed ∙ ap (λ t. t ++ f x ∷ []) so_far ∙ append_assoc base (map f (take k xs)) (f x ∷ [])
    ∙ ap (λ t. base ++ t) (sym (map-append f (take k xs) (x ∷ [])) ∙ ap (map f) (sym (next_item xs k x there)))

-- and as several
pub pieces_more : {X Y : Type 0} (f : X → List Y) (xs : List X) (k : ℕ) (x : X) (base so new : List Y) → slice_get xs k ≡ Some x → new ≡ so ++ f x
    → so ≡ base ++ flat_map f (take k xs) → new ≡ base ++ flat_map f (take (k + 1) xs)
pieces_more f xs k x base so new there pushed so_far =
    pushed ∙ ap (λ t. t ++ f x) so_far ∙ append_assoc base (flat_map f (take k xs)) (f x)
    ∙ ap (λ t. base ++ t) (ap (λ t. flat_map f (take k xs) ++ t) (sym (append-nil (f x))) ∙ sym (flat_map-append f (take k xs) (x ∷ []))
    ∙ ap (flat_map f) (sym (next_item xs k x there)))

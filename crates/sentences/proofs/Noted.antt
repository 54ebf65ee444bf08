-- One answer more among those that tell the replies.
use Rattle.std.proofs.Common.{◌≡◌, ◌≢◌, ⊎_elim, replicate, ℕ, zero, suc, ◌+◌, ◌<◌, ◌≤◌, ◌==◌, List, [], ◌∷◌, ◌++◌, map, refl, sym, ◌∙◌, ap, arith, Some, None, true, false}
use Rattle.std.specs.Prelude.{Option, option_map, find, slice_get, slice_set}
use Rattle.std.specs.Option.{option_or}
use Rattle.std.specs.List.{range_with_len}
use Rattle.std.proofs.lemmas.List.Folds.{find-append}
use Rattle.std.proofs.lemmas.Bool.{cases_eq}
use Rattle.std.proofs.lemmas.Bool.Decides.{nat_tests}
use Rattle.one_order.specs.declared.answer.Answer.{Answer}
use Rattle.one_order.specs.Scripts.{reply_number}
use Rattle.sentences.specs.Replies.{reply_in}

-- lists over a range that agree, but at one place
map_same : {X : Type 0} (f g : ℕ → X) (s n : ℕ) → ((i : ℕ) → s ≤ i → i < s + n → f i ≡ g i)
    → map f (range_with_len s n) ≡ map g (range_with_len s n)
map_same f g s zero h = refl
map_same {X} f g s (suc n) h =
    ap (λ (x : X). x ∷ map f (range_with_len (s + 1) n)) (h s (omega arith) (omega arith))
    ∙ ap (λ (xs : List X). g s ∷ xs) (map_same f g (s + 1) n (λ i low high. h i (omega (arith, low)) (omega (arith, high))))

set_is : {X : Type 0} (f g : ℕ → X) (s n k : ℕ) → k < n → ((i : ℕ) → i ≢ s + k → f i ≡ g i)
    → slice_set (map f (range_with_len s n)) k (g (s + k)) ≡ map g (range_with_len s n)
set_is f g s zero k low h = absurd (omega (arith, low))
set_is {X} f g s (suc n) zero low h =
    ap (λ (j : ℕ). g j ∷ map f (range_with_len (s + 1) n)) (let e : s + 0 ≡ s = omega arith in e)
    ∙ ap (λ (xs : List X). g s ∷ xs) (map_same f g (s + 1) n (λ i l m. h i (λ e. absurd (omega (arith, l, e)))))
set_is {X} f g s (suc n) (suc k) low h =
    ap (λ (x : X). x ∷ slice_set (map f (range_with_len (s + 1) n)) k (g (s + suc k))) (h s (λ e. absurd (omega (arith, e))))
    ∙ ap (λ (xs : List X). g s ∷ xs)
    (ap (λ (j : ℕ). slice_set (map f (range_with_len (s + 1) n)) k (g j)) (let e : s + suc k ≡ s + 1 + k = omega arith in e)
    ∙ set_is f g (s + 1) n k (omega (arith, low)) (λ i ne. h i (λ e. ne (omega (arith, e)))))

abbrev number : Answer → ℕ
number a = reply_number a.reply

first_or : (o q : Option Answer) → q ≡ None → option_map number (option_or o q) ≡ option_map number o
first_or (Some x) q h = refl
first_or None q h = ap (option_map number) h

kept_or : (o q : Option Answer) (r : ℕ) → option_map number o ≡ Some r → option_map number (option_or o q) ≡ option_map number o
kept_or (Some x) q r h = refl
kept_or None q r h = absurd (let e : None ≡ Some r = h in cc)

next_or : (o : Option Answer) (a : Answer) → option_map number o ≡ None → option_map number (option_or o (Some a)) ≡ Some (number a)
next_or (Some x) a h = absurd (let e : Some (number x) ≡ None = h in cc)
next_or None a h = refl

-- the answer that comes last, where another operation is asked for, and where its own is
last_other : (a : Answer) (i : ℕ) → a.index ≢ i → find (λ (b : Answer). b.index == i) (a ∷ []) ≡ None
last_other a i ne = let no : (a.index == i) ≡ false = grind (arith, nat_tests, ne) in rw no refl

last_own : (a : Answer) → find (λ (b : Answer). b.index == a.index) (a ∷ []) ≡ Some a
last_own a = let yes : (a.index == a.index) ≡ true = grind (arith, nat_tests) in rw yes refl

joined : (before : List Answer) (a : Answer) (i : ℕ) → reply_in (before ++ a ∷ []) i
    ≡ option_map number (option_or (find (λ (b : Answer). b.index == i) before) (find (λ (b : Answer). b.index == i) (a ∷ [])))
joined before a i = ap (option_map number) (find-append (λ (b : Answer). b.index == i) before (a ∷ []))

reply_other : (before : List Answer) (a : Answer) (i : ℕ) → a.index ≢ i → reply_in before i ≡ reply_in (before ++ a ∷ []) i
reply_other before a i ne =
    sym (joined before a i ∙ first_or (find (λ (b : Answer). b.index == i) before) _ (last_other a i ne))

reply_kept : (before : List Answer) (a : Answer) (i r : ℕ) → reply_in before i ≡ Some r → reply_in before i ≡ reply_in (before ++ a ∷ []) i
reply_kept before a i r is =
    sym (joined before a i ∙ kept_or (find (λ (b : Answer). b.index == i) before) _ r is)

reply_new : (before : List Answer) (a : Answer) → reply_in before a.index ≡ None → reply_in (before ++ a ∷ []) a.index ≡ Some (number a)
reply_new before a free =
    joined before a a.index
    ∙ (ap (λ (o : Option Answer). option_map number (option_or (find (λ (b : Answer). b.index == a.index) before) o)) (last_own a)
    ∙ next_or (find (λ (b : Answer). b.index == a.index) before) a free)

-- what stands in such a list
at_range : {X : Type 0} (f : ℕ → X) (s n k : ℕ) (x : X) → slice_get (map f (range_with_len s n)) k ≡ Some x → (k < n) × (f (s + k) ≡ x)
at_range {X} f s zero k x h = absurd (let e : None ≡ Some x = h in cc)
at_range f s (suc n) zero x h = (omega arith, ap f (let e : s + 0 ≡ s = omega arith in e) ∙ (let e : Some (f s) ≡ Some x = h in cc))
at_range f s (suc n) (suc k) x h =
    let rest = at_range f (s + 1) n k x h in
    (omega (arith, rest.0), ap f (let e : s + suc k ≡ s + 1 + k = omega arith in e) ∙ rest.1)

none_range : {X : Type 0} (f : ℕ → X) (s n k : ℕ) → slice_get (map f (range_with_len s n)) k ≡ None → n ≤ k
none_range f s zero k h = omega arith
none_range f s (suc n) zero h = absurd (let e : Some (f s) ≡ None = h in cc)
none_range f s (suc n) (suc k) h = let rest = none_range f (s + 1) n k h in omega (arith, rest)

-- an answer is noted where its operation has no reply yet
pub noted : (before : List Answer) (a : Answer) (count : ℕ) (replies : List (Option ℕ)) → replies ≡ map (reply_in before) (range_with_len 0 count)
    → slice_get replies a.index ≡ Some None → slice_set replies a.index (Some (number a)) ≡ map (reply_in (before ++ a ∷ [])) (range_with_len 0 count)
noted before a count replies is free =
    let there = at_range (reply_in before) 0 count a.index None (ap (λ (xs : List (Option ℕ)). slice_get xs a.index) (sym is) ∙ free) in
    let own : 0 + a.index ≡ a.index = omega arith in
    let new = reply_new before a (ap (reply_in before) (sym own) ∙ there.1) in
    ap (λ (xs : List (Option ℕ)). slice_set xs a.index (Some (number a))) is
    ∙ (ap (λ (o : Option ℕ). slice_set (map (reply_in before) (range_with_len 0 count)) a.index o)
    (sym (ap (reply_in (before ++ a ∷ [])) own ∙ new))
    ∙ set_is (reply_in before) (reply_in (before ++ a ∷ [])) 0 count a.index there.0 (λ i ne. reply_other before a i (λ e. ne (sym e ∙ sym own))))

-- it changes nothing where its operation has one
pub not_noted : (before : List Answer) (a : Answer) (count r : ℕ) (replies : List (Option ℕ)) → replies ≡ map (reply_in before) (range_with_len 0 count)
    → slice_get replies a.index ≡ Some (Some r) → replies ≡ map (reply_in (before ++ a ∷ [])) (range_with_len 0 count)
not_noted before a count r replies is taken =
    let own : 0 + a.index ≡ a.index = omega arith in
    let there = at_range (reply_in before) 0 count a.index (Some r) (ap (λ (xs : List (Option ℕ)). slice_get xs a.index) (sym is) ∙ taken) in
    is ∙ map_same (reply_in before) (reply_in (before ++ a ∷ [])) 0 count
    (λ i low high. ⊎_elim
    (λ (e : a.index ≡ i). reply_kept before a i r (ap (reply_in before) (sym e) ∙ (ap (reply_in before) (sym own) ∙ there.1)))
    (λ (ne : a.index ≢ i). reply_other before a i ne)
    (cases_eq a.index i))

-- and where its operation is none of these
pub not_there : (before : List Answer) (a : Answer) (count : ℕ) (replies : List (Option ℕ)) → replies ≡ map (reply_in before) (range_with_len 0 count)
    → slice_get replies a.index ≡ None → replies ≡ map (reply_in (before ++ a ∷ [])) (range_with_len 0 count)
not_there before a count replies is out =
    let high_ = none_range (reply_in before) 0 count a.index (ap (λ (xs : List (Option ℕ)). slice_get xs a.index) (sym is) ∙ out) in
    is ∙ map_same (reply_in before) (reply_in (before ++ a ∷ [])) 0 count
    (λ i low high. reply_other before a i (λ e. absurd (omega (arith, high_, high, e))))

-- no answer, no reply
nothing : (s count : ℕ) → replicate count None ≡ map (reply_in []) (range_with_len s count)
nothing s zero = refl
nothing s (suc count) = ap (λ (xs : List (Option ℕ)). None ∷ xs) (nothing (s + 1) count)

pub none_noted : (count : ℕ) → replicate count None ≡ map (reply_in []) (range_with_len 0 count)
none_noted count = nothing 0 count

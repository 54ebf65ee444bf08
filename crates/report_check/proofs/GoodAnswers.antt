-- The entries that answer lines name are those that have an answer.
use Rattle.std.proofs.Common.{◌≡◌, ◌⊎◌, inl, inr, ℕ, zero, suc, ◌+◌, ◌<◌, ◌≤◌, ◌==◌, ◌&&◌, ◌||◌, Bool, true, false, List, [], ◌∷◌, ◌++◌, length, map, get_or}
use Rattle.std.proofs.Common.{flat_map, Some, slice_get, refl, ap, subst, ◌∙◌, arith, ⊎_elim}
use Rattle.std.specs.List.{AllByRecursion, list_any, range_with_len}
use Rattle.std.specs.Option.{option_to_list}
use Rattle.std.proofs.lemmas.Bool.{and_parts, cases_eq, eq-eqb, eqb-true}
use Rattle.std.proofs.lemmas.List.Folds.{list_any-append}
use Rattle.std.proofs.lemmas.Option.{slice_get_within, get_or_from_slice_get}
use Rattle.report_lines.specs.Contents.{answer_row_of, by_index, index_count}
use Rattle.report_lines.specs.declared.parts.AnswerRow.{AnswerRow}
use Rattle.report_lines.specs.declared.line.AnswerLine.{AnswerLine}
use Rattle.report_lines.proofs.Indexes.{index_below}
use Rattle.report_check.specs.Seen.{is_answered}
use Rattle.report_check.specs.Facts.{rows_at, AreAnswers, HasAnswer}
use Rattle.report_lines.specs.declared.parts.EntryRow.{EntryRow}
use Rattle.report_check.proofs.AnswerLists.{answer_at, answer_list, found_there, there_found, all_answers}

-- an entry that a line names has an answer
or_cases : (x y : Bool) → (x || y) ≡ true → (x ≡ true) ⊎ (y ≡ true)
or_cases true y is = inl refl
or_cases false y is = inr is

named_among : (P : ℕ → ℕ → Type 0) (ans : List AnswerLine) (bank place : ℕ) → AllByRecursion (λ a. P a.bank a.place) ans → is_answered ans bank place ≡ true
    → P bank place
named_among P [] bank place each is = absurd (cc)
named_among P (a ∷ ans) bank place each is =
    ⊎_elim
    (λ (here : ((a.bank == bank) && (a.place == place)) ≡ true).
    let parts = and_parts (a.bank == bank) (a.place == place) here in
    let same_bank : a.bank ≡ bank = eqb-true a.bank bank parts.0 in
    let same_place : a.place ≡ place = eqb-true a.place place parts.1 in
    subst (λ b. P b place) same_bank (subst (λ k. P a.bank k) same_place each.0))
    (λ (there : is_answered ans bank place ≡ true). named_among P ans bank place each.1 there)
    (or_cases ((a.bank == bank) && (a.place == place)) (is_answered ans bank place) is)

has_one : (answers ass : List (List AnswerRow)) (p : ℕ) → ((i k : ℕ) (a : AnswerRow) → slice_get (rows_at ass i) k ≡ Some a → HasAnswer answers a.bank a.place)
    → AllByRecursion (λ a. HasAnswer answers a.bank a.place) (answer_list p ass)
has_one answers ass p each = all_answers (λ a. HasAnswer answers a.bank a.place) p ass (λ q i k a there. each i k a there)

pub told_has : (answers : List (List AnswerRow)) (bank place : ℕ) → is_answered (answer_list 0 answers) bank place ≡ true → HasAnswer answers bank place
told_has answers bank place is =
    named_among (HasAnswer answers) (answer_list 0 answers) bank place (has_one answers answers 0 (λ i k a there. (i, k, a, there, refl, refl))) is

-- an entry that has an answer is named by a line
or_right : (x : Bool) → (x || true) ≡ true
or_right true = refl
or_right false = refl

any_left : {X : Type 0} (f : X → Bool) (xs ys : List X) → list_any f xs ≡ true → list_any f (xs ++ ys) ≡ true
any_left f xs ys is = list_any-append f xs ys ∙ ap (λ b. b || list_any f ys) is

any_right : {X : Type 0} (f : X → Bool) (xs ys : List X) → list_any f ys ≡ true → list_any f (xs ++ ys) ≡ true
any_right f xs ys is = list_any-append f xs ys ∙ ap (λ b. list_any f xs || b) is ∙ or_right (list_any f xs)

any_map : {X Y : Type 0} (f : Y → Bool) (g : X → Y) (xs : List X) → list_any (λ x. f (g x)) xs ≡ true → list_any f (map g xs) ≡ true
any_map f g [] is = is
any_map f g (x ∷ xs) is =
    ⊎_elim (λ here. ap (λ b. b || list_any f (map g xs)) here) (λ there. ap (λ b. f (g x) || b) (any_map f g xs there) ∙ or_right (f (g x)))
    (or_cases (f (g x)) (list_any (λ y. f (g y)) xs) is)

any_range : {X : Type 0} (f : X → Bool) (g : ℕ → List X) (i n k : ℕ) → i ≤ k → k < i + n → list_any f (g k) ≡ true
    → list_any f (flat_map g (range_with_len i n)) ≡ true
any_range f g i zero k low high is = absurd (omega (arith, low, high))
any_range f g i (suc n) k low high is =
    ⊎_elim
    (λ (same : i ≡ k). any_left f (g i) (flat_map g (range_with_len (i + 1) n)) (ap (λ j. list_any f (g j)) same ∙ is))
    (λ (apart : i ≡ k → ⊥). any_right f (g i) (flat_map g (range_with_len (i + 1) n))
    (any_range f g (i + 1) n k (omega (arith, low, apart)) (omega (arith, high)) is))
    (cases_eq i k)

any_list : (f : AnswerLine → Bool) (p i : ℕ) (ass : List (List AnswerRow)) → i < length ass
    → ((q : ℕ) → list_any f (map (answer_at q) (by_index (rows_at ass i))) ≡ true) → list_any f (answer_list p ass) ≡ true
any_list f p i [] less is = absurd (omega (arith, less))
any_list f p zero (ans ∷ ass) less is = any_left f (map (answer_at p) (by_index ans)) (answer_list (p + 1) ass) (is p)
any_list f p (suc i) (ans ∷ ass) less is =
    any_right f (map (answer_at p) (by_index ans)) (answer_list (p + 1) ass) (any_list f (p + 1) i ass (omega (arith, less)) is)

rows_within : {X : Type 0} (xss : List (List X)) (p k : ℕ) (x : X) → slice_get (rows_at xss p) k ≡ Some x → p < length xss
rows_within [] p k x there = absurd (cc)
rows_within (xs ∷ xss) zero k x there = omega arith
rows_within (xs ∷ xss) (suc p) k x there = omega (arith, rows_within xss p k x there)

same_there : {X : Type 0} (xs : List X) (j k : ℕ) (x y : X) → j ≡ k → slice_get xs j ≡ Some x → slice_get xs k ≡ Some y → x ≡ y
same_there xs j k x y same h i = let at = ap (slice_get xs) same in cc

-- the answer that is found of an answer's index is that answer
found_same : (entries : List (List EntryRow)) (answers : List (List AnswerRow)) → AreAnswers entries answers → (p i : ℕ) (a : AnswerRow)
    → slice_get (rows_at answers p) i ≡ Some a → answer_row_of (rows_at answers p) a.index ≡ Some a
found_same entries answers are p i a there =
    let f = there_found (rows_at answers p) i a there in
    let t = found_there (rows_at answers p) a.index f.0 f.1 in
    let at : t.0 ≡ i = are.once p t.0 i f.0 a t.1 there t.2 in
    f.1 ∙ ap Some (same_there (rows_at answers p) t.0 i f.0 a at t.1 there)

test_same : (a b c d : ℕ) → a ≡ b → c ≡ d → ((a == b) && (c == d)) ≡ true
test_same a b c d same also = ap (λ x. x && (c == d)) (eq-eqb a b same) ∙ eq-eqb c d also

pub has_told : (entries : List (List EntryRow)) (answers : List (List AnswerRow)) → AreAnswers entries answers → (bank place : ℕ) → HasAnswer answers bank place
    → is_answered (answer_list 0 answers) bank place ≡ true
has_told entries answers are bank place (p, i, a, there, same_bank, same_place) =
    let ans : List AnswerRow = rows_at answers p in
    let test : AnswerLine → Bool = λ l. (l.bank == bank) && (l.place == place) in
    let here : ((a.bank == bank) && (a.place == place)) ≡ true = test_same a.bank bank a.place place same_bank same_place in
    let read : get_or ans i a ≡ a = get_or_from_slice_get ans i a a there in
    let below : (get_or ans i a).index < index_count ans = index_below ans i a (slice_get_within ans i a there) in
    let index : (get_or ans i a).index ≡ a.index = ap (λ (x : AnswerRow). x.index) read in
    let one : (q : ℕ) → list_any (λ x. test (answer_at q x)) (option_to_list (answer_row_of ans a.index)) ≡ true =
    λ q. ap (λ o. list_any (λ x. test (answer_at q x)) (option_to_list o)) (found_same entries answers are p i a there) ∙ ap (λ b. b || false) here in
    any_list test 0 p answers (rows_within answers p i a there)
    (λ q. any_map test (answer_at q) (by_index ans)
    (any_range (λ x. test (answer_at q x)) (λ k. option_to_list (answer_row_of ans k)) 0 (index_count ans) a.index (omega arith)
    (omega (arith, below, index)) (one q)))

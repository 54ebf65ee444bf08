-- What clap says of a parse, said of its rows.
use Rattle.std.specs.Prelude.{◌≡◌, ◌⊎◌, ◌<◌, ◌≤◌, ◌^◌, ℕ, Bool, true, false, IfNone, IfSome, IsSomeAnd, Option, Some, None, Result}
use Rattle.std.specs.Prelude.{is_some, option_map}
use Rattle.std.specs.Borrow.{Bor}
use Rattle.std.specs.Prelude.{List, [], ◌∷◌, length, map}
use Rattle.std.specs.List.{slice_index_or}
use Rattle.std.specs.Option.{unwrap_or}
use Rattle.std.specs.Prelude.{option_and_then, slice_get}
use Rattle.std.specs.Str.Parse.{ParsesBool, ParsesUnsigned, digits_value, without_leading_plus}
use Rattle.std.proofs.Common.{refl, ap, sym, subst, ◌∙◌, arith, inl, inr, true≢false}
use Rattle.clap.specs.Words.{ReadsOne, Text, all_of, first_of, first_value, matched_of, one_of, one_text, raw_values, read_as, rows_of}
use Rattle.clap.specs.declared.parser.matches.Found.{Found}
use Rattle.clap.specs.declared.parser.matches.MatchedArg.{MatchedArg}
use Rattle.std.proofs.lemmas.List.{length-map}
use Rattle.clap.proofs.WalkLemmas.{first_value-rows, one_text-rows, raw_values-rows}
use Rattle.command_line.specs.Job.{IsGiven, flag_text, number_in}
use Rattle.command_line.specs.Values.{IsFlagText, IsNumberBelow, IsNumberIn}

-- the first value of an argument
pub first_value_rows : (f : Found) (id : Text) → first_value f id ≡ first_of id (rows_of f)
first_value_rows f id = first_value-rows f id

-- all values of an argument
pub all_values_rows : (f : Found) (id : Text) → option_map raw_values (matched_of f id) ≡ all_of id (rows_of f)
all_values_rows f id = raw_values-rows f id

-- a number that was read is the one that is written
pub number_of_text : {E : Type 0} (bits : ℕ) (more other : Text → Result ℕ E → Type 0) (given : Option Text) (n : ℕ)
    → (given ≡ None → Some n ≡ None)
    → ((t : Text) → given ≡ Some t → ReadsOne (λ bs r. ParsesUnsigned bits 10 bs r × more bs r × other bs r) t (Some n))
    → option_map (λ t. digits_value 10 (without_leading_plus t)) given ≡ Some n
number_of_text bits more other None n none value = let e : Some n ≡ None = none refl in cc
number_of_text bits more other (Some t) n none value = ap Some (sym (value t refl).0.1)

pub number_read : {E : Type 0} (bits : ℕ) (more other : Text → Result ℕ E → Type 0) (f : Found) (id : Text) (result : Option ℕ)
    → (one_text f id ≡ None → result ≡ None)
    → ((t : Text) → one_text f id ≡ Some t → ReadsOne (λ bs r. ParsesUnsigned bits 10 bs r × more bs r × other bs r) t result)
    → IfSome result (λ n. number_in id (rows_of f) ≡ Some n)
number_read bits more other f id None none value = tt
number_read bits more other f id (Some n) none value =
    ap (option_map (λ t. digits_value 10 (without_leading_plus t))) (sym (one_text-rows f id))
    ∙ number_of_text bits more other (one_text f id) n none value

-- a word that was not found isn't there
pub no_word : (result : Option (Bor Text)) (found : Option Text) → option_map (λ s. s.now) result ≡ found
    → IfNone result (is_some found ≡ true → ⊥)
no_word None found e = subst (λ (o : Option Text). is_some o ≡ true → ⊥) e (λ bad. true≢false (sym bad))
no_word (Some s) found e = tt

-- a text that is read as no number isn't one
not_below : {E : Type 0} (bits : ℕ) (more other : Text → Result ℕ E → Type 0) (given : Option Text)
    → ((t : Text) → given ≡ Some t → ReadsOne (λ bs r. ParsesUnsigned bits 10 bs r × more bs r × other bs r) t None)
    → IsSomeAnd given (IsNumberBelow (2 ^ bits)) → ⊥
not_below bits more other None value has = has
not_below bits more other (Some t) value has = (value t refl).1.0 has

pub no_number_read : {E : Type 0} (bits : ℕ) (more other : Text → Result ℕ E → Type 0) (f : Found) (id : Text) (result : Option ℕ)
    → ((t : Text) → one_text f id ≡ Some t → ReadsOne (λ bs r. ParsesUnsigned bits 10 bs r × more bs r × other bs r) t result)
    → IfNone result (IsSomeAnd (one_of id (rows_of f)) (IsNumberBelow (2 ^ bits)) → ⊥)
no_number_read bits more other f id (Some n) value = tt
no_number_read bits more other f id None value = λ has. not_below bits more other (one_text f id) value
    (subst (λ o. IsSomeAnd o (IsNumberBelow (2 ^ bits))) (sym (one_text-rows f id)) has)

-- a number up to the most is below what is more
pub is_below : (given : Option Text) (least most end : ℕ) → most < end → IsSomeAnd given (IsNumberIn least most)
    → IsSomeAnd given (IsNumberBelow end)
is_below None least most end more has = has
is_below (Some t) least most end more has = (has.0, omega (arith, more, has.2))

-- a number that is too small or too great isn't among those that are allowed
pub out_of_range : (given : Option Text) (n least most : ℕ)
    → option_map (λ t. digits_value 10 (without_leading_plus t)) given ≡ Some n → (n < least) ⊎ (most < n)
    → IsSomeAnd given (IsNumberIn least most) → ⊥
out_of_range None n least most e out has = has
out_of_range (Some t) n least most e (inl low) has =
    let is : digits_value 10 (without_leading_plus t) ≡ n = cc in absurd (omega (arith, is, low, has.1))
out_of_range (Some t) n least most e (inr high) has =
    let is : digits_value 10 (without_leading_plus t) ≡ n = cc in absurd (omega (arith, is, high, has.2))

-- a text that is read as no flag is none
not_a_flag : (E : Type 0) (given : Option Text) → ((t : Text) → given ≡ Some t → ReadsOne (ParsesBool {E = E}) t None)
    → IsSomeAnd given IsFlagText → ⊥
not_a_flag E None value has = has
not_a_flag E (Some t) value (inl is) = (value t refl).1.0 is
not_a_flag E (Some t) value (inr is) = (value t refl).1.1 is

pub no_flag_read : (E : Type 0) (f : Found) (id : Text) (result : Option Bool)
    → ((t : Text) → one_text f id ≡ Some t → ReadsOne (ParsesBool {E = E}) t result)
    → IfNone result (IsSomeAnd (one_of id (rows_of f)) IsFlagText → ⊥)
no_flag_read E f id (Some b) value = tt
no_flag_read E f id None value = λ has. not_a_flag E (one_text f id) value
    (subst (λ o. IsSomeAnd o IsFlagText) (sym (one_text-rows f id)) has)

-- an argument with an entry has one in the rows
entry_kept : (entry : Option MatchedArg) → is_some (option_map raw_values entry) ≡ is_some entry
entry_kept None = refl
entry_kept (Some a) = refl

pub given_in_rows : (f : Found) (id : Text) → is_some (matched_of f id) ≡ true → is_some (all_of id (rows_of f)) ≡ true
given_in_rows f id is = ap is_some (sym (all_values_rows f id)) ∙ (entry_kept (matched_of f id) ∙ is)

-- where it hasn't the value that it has to have, it lacks
pub given_lacks : {X : Type 0} (result : Option X) (given : Bool) (P : Type 0) → given ≡ true → (P → ⊥)
    → IfNone result ((given ≡ true → P) → ⊥)
given_lacks None given P is not = λ has. not (has is)
given_lacks (Some x) given P is not = tt

-- so it does where it has not two values
pub no_pair : {X : Type 0} (result : Option X) (words : List (Bor Text)) (all : Option (List Text)) → all ≡ Some (map (λ w. w.now) words)
    → (length words ≡ 2 → ⊥) → IfNone result ((is_some all ≡ true → IsSomeAnd all (λ values. length values ≡ 2)) → ⊥)
no_pair (Some x) words all is not = tt
no_pair None words all is not =
    subst (λ (o : Option (List Text)). (is_some o ≡ true → IsSomeAnd o (λ values. length values ≡ 2)) → ⊥) (sym is)
    (λ has. not (sym (length-map words (λ (w : Bor Text). w.now)) ∙ has refl))

-- an argument that has no entry has no number
pub no_text : (entry : Option MatchedArg) → is_some entry ≡ false
    → option_and_then (λ a. option_map (λ s. read_as a.reading s.now) (slice_get a.vals.items 0)) entry ≡ None
no_text None e = refl
no_text (Some a) e = cc

pub no_number : (f : Found) (id : Text) → is_some (matched_of f id) ≡ false → number_in id (rows_of f) ≡ None
no_number f id e = ap (option_map (λ t. digits_value 10 (without_leading_plus t)))
    (sym (one_text-rows f id) ∙ no_text (matched_of f id) e)

-- a flag that was read is the one that is written
pub flag_of_text : (E : Type 0) (given : Option Text) (b : Bool)
    → (given ≡ None → Some b ≡ None) → ((t : Text) → given ≡ Some t → ReadsOne (ParsesBool {E = E}) t (Some b))
    → given ≡ Some (flag_text b)
flag_of_text E None b none value = let e : Some b ≡ None = none refl in cc
flag_of_text E (Some t) true none value = ap Some (value t refl)
flag_of_text E (Some t) false none value = ap Some (value t refl)

pub flag_is_read : (E : Type 0) (f : Found) (id : Text) (result : Option Bool)
    → (one_text f id ≡ None → result ≡ None) → ((t : Text) → one_text f id ≡ Some t → ReadsOne (ParsesBool {E = E}) t result)
    → IfSome result (λ b. one_of id (rows_of f) ≡ Some (flag_text b))
flag_is_read E f id None none value = tt
flag_is_read E f id (Some b) none value =
    sym (one_text-rows f id) ∙ flag_of_text E (one_text f id) b none value

-- a flag is given where it was read as such, and only there
pub given_is_read : (E : Type 0) (f : Found) (id : Text) → ((t : Text) → one_text f id ≡ Some t → ReadsOne (ParsesBool {E = E}) t (Some true))
    → (one_text f id ≡ None → Some true ≡ None) → IsGiven id true (rows_of f)
given_is_read E f id value none = sym (one_text-rows f id) ∙ flag_of_text E (one_text f id) true none value

-- what was read as another flag
is_other : (E : Type 0) (t : Text) (read : Option Bool) → (read ≡ Some true → ⊥) → ReadsOne (ParsesBool {E = E}) t read → t ≡ flag_text true → ⊥
is_other E t None not_given value e = value.1.0 e
is_other E t (Some true) not_given value e = not_given refl
is_other E t (Some false) not_given value e = let other : flag_text true ≡ flag_text false = sym e ∙ value in cc

-- a flag that wasn't read so isn't given
pub given_is_not_read : (E : Type 0) (f : Found) (id : Text) (read : Option Bool) → (read ≡ Some true → ⊥)
    → ((t : Text) → one_text f id ≡ Some t → ReadsOne (ParsesBool {E = E}) t read) → IsGiven id false (rows_of f)
given_is_not_read E f id read not_given value = λ given.
    is_other E (flag_text true) read not_given (value (flag_text true) (one_text-rows f id ∙ given)) refl

pub given_if_read : (E : Type 0) (f : Found) (id : Text) (read : Option Bool) → (one_text f id ≡ None → read ≡ None)
    → ((t : Text) → one_text f id ≡ Some t → ReadsOne (ParsesBool {E = E}) t read) → IsGiven id (unwrap_or read false) (rows_of f)
given_if_read E f id None none value = given_is_not_read E f id None (λ e. cc) value
given_if_read E f id (Some true) none value = given_is_read E f id value none
given_if_read E f id (Some false) none value = given_is_not_read E f id (Some false) (λ e. cc) value

-- the images of two items
pub two_images : {X Y : Type 0} (f : X → Y) (xs : List X) (d : X) → 2 ≤ length xs → length xs < 3
    → map f xs ≡ f (slice_index_or xs 0 d) ∷ f (slice_index_or xs 1 d) ∷ []
two_images f [] d least most = absurd (omega (arith, least))
two_images f (x ∷ []) d least most = absurd (omega (arith, least))
two_images f (x ∷ y ∷ []) d least most = refl
two_images f (x ∷ y ∷ z ∷ zs) d least most = absurd (omega (arith, most))

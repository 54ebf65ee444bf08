-- What the words of an answer spell, word by word.
use Rattle.std.proofs.Common.{◌≡◌, ℕ, ◌+◌, ◌<◌, ◌++◌, List, [], ◌∷◌, Option, Some, None, get_or, length, map, take, drop, refl, sym, ap, ◌∙◌}
use Rattle.std.specs.Prelude.{option_and_then, option_map}
use Rattle.std.proofs.lemmas.List.{map-append, take_more, take-append-drop}
use Rattle.command_schedule.specs.Answers.{answer_read, word_read}
use Rattle.command_schedule.specs.declared.answer_word.AnswerWord.{AnswerWord}

-- a word ahead of others, if all are read
abbrev ahead : Option AnswerWord → Option (List AnswerWord) → Option (List AnswerWord)
ahead first rest = option_and_then (λ x. option_map (λ xs. x ∷ xs) rest) first

-- words ahead of others
abbrev both : Option (List AnswerWord) → Option (List AnswerWord) → Option (List AnswerWord)
both None q = None
both (Some xs) None = None
both (Some xs) (Some ys) = Some (xs ++ ys)

none_ahead : (q : Option (List AnswerWord)) → q ≡ both (Some []) q
none_ahead None = refl
none_ahead (Some ys) = refl

one_ahead : (f : Option AnswerWord) (p q : Option (List AnswerWord)) → ahead f (both p q) ≡ both (ahead f p) q
one_ahead None p q = refl
one_ahead (Some x) None q = refl
one_ahead (Some x) (Some xs) None = refl
one_ahead (Some x) (Some xs) (Some ys) = refl

read_both : (us vs : List (List ℕ)) → answer_read (us ++ vs) ≡ both (answer_read us) (answer_read vs)
read_both [] vs = none_ahead (answer_read vs)
read_both (u ∷ us) vs = ap (ahead (word_read u)) (read_both us vs) ∙ one_ahead (word_read u) (answer_read us) (answer_read vs)

-- what the words up to one spell
read_to : {X : Type 0} (f : X → List ℕ) (ws : List X) (i : ℕ) (d : X) (xs : List AnswerWord) (q : Option AnswerWord) → i < length ws
    → answer_read (map f (take i ws)) ≡ Some xs → word_read (f (get_or ws i d)) ≡ q
    → answer_read (map f (take (i + 1) ws)) ≡ both (Some xs) (ahead q (Some []))
read_to {X} f ws i d xs q low so one =
    ap (λ (vs : List X). answer_read (map f vs)) (take_more ws i d low)
    ∙ ap answer_read (map-append f (take i ws) (get_or ws i d ∷ []))
    ∙ read_both (map f (take i ws)) (f (get_or ws i d) ∷ [])
    ∙ ap (λ (p : Option (List AnswerWord)). both p (answer_read (f (get_or ws i d) ∷ []))) so
    ∙ ap (λ (p : Option AnswerWord). both (Some xs) (ahead p (Some []))) one

-- one word more
pub spelled_more : {X : Type 0} (f : X → List ℕ) (ws : List X) (i : ℕ) (d : X) (xs : List AnswerWord) (x : AnswerWord) → i < length ws
    → answer_read (map f (take i ws)) ≡ Some xs → word_read (f (get_or ws i d)) ≡ Some x
    → answer_read (map f (take (i + 1) ws)) ≡ Some (xs ++ x ∷ [])
spelled_more f ws i d xs x low so one = read_to f ws i d xs (Some x) low so one

-- a word that spells nothing
pub spelled_none : {X : Type 0} (f : X → List ℕ) (ws : List X) (i : ℕ) (d : X) (xs : List AnswerWord) → i < length ws
    → answer_read (map f (take i ws)) ≡ Some xs → word_read (f (get_or ws i d)) ≡ None
    → answer_read (map f ws) ≡ None
spelled_none {X} f ws i d xs low so one =
    ap (λ (vs : List X). answer_read (map f vs)) (sym (take-append-drop (i + 1) ws))
    ∙ ap answer_read (map-append f (take (i + 1) ws) (drop (i + 1) ws))
    ∙ read_both (map f (take (i + 1) ws)) (map f (drop (i + 1) ws))
    ∙ ap (λ (p : Option (List AnswerWord)). both p (answer_read (map f (drop (i + 1) ws)))) (read_to f ws i d xs None low so one)

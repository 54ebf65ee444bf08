-- The lists of the words before the first event.
use Rattle.std.proofs.Common.{◌≡◌, ◌≢◌, ⊎_elim, ℕ, zero, suc, ◌+◌, ◌<◌, List, [], ◌∷◌, ◌++◌, length, Vec, refl, sym, ◌∙◌, ap, arith, get_or}
use Rattle.std.proofs.lemmas.Bool.{cases_eq}
use Rattle.trace_laws.specs.declared.opened.Branch.{Branch}
use Rattle.trace_laws.specs.Searches.{first_branch}
use Rattle.trace_judge.specs.Sets.{lists_of}
use Rattle.trace_judge.proofs.Ranks.{length_pushed, lists_before, lists_pushed}

-- no list
pub none_length : {X A : Type 0} (words : List (Vec X A)) → words ≡ [] → length words ≡ 0
none_length {X} {A} words is = ap (λ (vs : List (Vec X A)). length vs) is

pub none_empty : {X A : Type 0} (words : List (Vec X A)) (w : ℕ) → words ≡ [] → lists_of words w ≡ []
none_empty {X} {A} words w is = ap (λ (vs : List (Vec X A)). lists_of vs w) is

-- one list more
pub more_length : {X A : Type 0} (words later : List (Vec X A)) (v : Vec X A) (n : ℕ) → later ≡ words ++ v ∷ []
    → length words ≡ n → length later ≡ n + 1
more_length words later v n is sized = length_pushed words later v is ∙ ap (λ (m : ℕ). m + 1) sized

-- with one that is empty all are
pub more_empty : {X A : Type 0} (words later : List (Vec X A)) (v : Vec X A) → later ≡ words ++ v ∷ [] → v.items ≡ []
    → ((w : ℕ) → lists_of words w ≡ []) → (w : ℕ) → lists_of later w ≡ []
more_empty {X} {A} words later v is empty was w = ap (λ (vs : List (Vec X A)). lists_of vs w) is ∙ all words was w
  where
    all : (vs : List (Vec X A)) → ((u : ℕ) → lists_of vs u ≡ []) → (n : ℕ) → lists_of (vs ++ v ∷ []) n ≡ []
    all [] so zero = empty
    all [] so (suc n) = refl
    all (x ∷ vs) so zero = so 0
    all (x ∷ vs) so (suc n) = all vs (λ u. so (suc u)) n

-- the first branch of one word more
pub more_first : {A : Type 0} (opening : List ℕ) (i : ℕ) (words later : List (Vec Branch A)) (v : Vec Branch A)
    (none : List Branch) → later ≡ words ++ v ∷ [] → v.items ≡ none ++ first_branch (get_or opening i 0) ∷ [] → none ≡ []
    → length words ≡ i
    → ((w : ℕ) → w < i → lists_of words w ≡ first_branch (get_or opening w 0) ∷ [])
    → (w : ℕ) → w < i + 1 → lists_of later w ≡ first_branch (get_or opening w 0) ∷ []
more_first {A} opening i words later v none is has empty sized was w l = ⊎_elim
    {C = lists_of later w ≡ first_branch (get_or opening w 0) ∷ []}
    (λ (e : w ≡ i).
    lists_pushed words later v w is (e ∙ sym sized)
    ∙ (has ∙ (ap (λ (bs : List Branch). bs ++ first_branch (get_or opening i 0) ∷ []) empty
    ∙ ap (λ (n : ℕ). first_branch (get_or opening n 0) ∷ []) (sym e))))
    (λ (ne : w ≢ i). lists_before words later v w is (omega arith) ∙ was w (omega arith))
    (cases_eq w i)

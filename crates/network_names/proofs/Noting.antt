-- The first line that names a number so, as the lines are gone over.
use Rattle.std.proofs.Common.{◌≡◌, ◌<◌, ◌==◌, ℕ, Bool, true, false, List, [], ◌∷◌, length, refl, sym, ap, ◌∙◌, get_or, set, arith, inl, inr}
use Rattle.std.proofs.Common.{get_or-set_same, get_or-set_other, Some, eq-eqb, map}
use Rattle.std.specs.Prelude.{replicate}
use Rattle.std.specs.Borrow.{Bor}
use Rattle.std.proofs.lemmas.List.{get_or-map, get_or-replicate, length-replicate}
use Rattle.std.proofs.lemmas.Bool.Decides.{nat_tests}
use Rattle.std.proofs.lemmas.Bool.{cases_eq}
use Rattle.lexer.specs.Words.{first_words}
use Rattle.network_names.specs.declared.called.Naming.{Naming}
use Rattle.network_names.specs.Called.{number_named, is_number_named, line_names, first_naming}
use Rattle.network_names.specs.Listed.{noted}

-- the line that is found in the end of a number whose line is this so far
abbrev pub gone_on : Naming → ℕ → List (List ℕ) → List ℕ → List ℕ
gone_on naming x lines [] = first_naming naming x lines
gone_on naming x lines (c ∷ cs) = c ∷ cs

gone_by : (naming : Naming) (x : ℕ) (line : List ℕ) (lines : List (List ℕ)) (b : Bool) → line_names naming x line ≡ b
    → gone_on naming x lines (noted naming x line []) ≡ first_naming naming x (line ∷ lines)
gone_by naming x [] lines b eq = refl
gone_by naming x (c ∷ cs) lines false eq = rw eq refl
gone_by naming x (c ∷ cs) lines true eq = rw eq refl

pub gone_step : (naming : Naming) (x : ℕ) (line : List ℕ) (lines : List (List ℕ)) (e : List ℕ)
    → gone_on naming x lines (noted naming x line e) ≡ gone_on naming x (line ∷ lines) e
gone_step naming x line lines [] = gone_by naming x line lines (line_names naming x line) refl
gone_step naming x line lines (c ∷ cs) = refl

pub gone_end : (naming : Naming) (x : ℕ) (e : List ℕ) → gone_on naming x [] e ≡ e
gone_end naming x [] = refl
gone_end naming x (c ∷ cs) = refl

-- a line that names another number, or none, changes nothing
stays : (naming : Naming) (x : ℕ) (line e : List ℕ) → line_names naming x line ≡ false → noted naming x line e ≡ e
stays naming x line [] is = rw is refl
stays naming x line (c ∷ cs) is = refl

takes : (naming : Naming) (x : ℕ) (line e : List ℕ) → line_names naming x line ≡ true → length e ≡ 0 → noted naming x line e ≡ line
takes naming x line [] is none = rw is refl
takes naming x line (c ∷ cs) is none = absurd (omega arith)

other_number : (n x : ℕ) → (x ≡ n → ⊥) → (n == x) ≡ false
other_number n x other = grind (arith, nat_tests)

pub names_other : (naming : Naming) (x n : ℕ) (line e : List ℕ) → number_named naming (first_words line) ≡ Some n → (x ≡ n → ⊥)
    → noted naming x line e ≡ e
names_other naming x n line e is other = stays naming x line e (ap (is_number_named x) is ∙ other_number n x other)

pub names_this : (naming : Naming) (n : ℕ) (line e : List ℕ) → number_named naming (first_words line) ≡ Some n → length e ≡ 0
    → noted naming n line e ≡ line
names_this naming n line e is none = takes naming n line e (ap (is_number_named n) is ∙ eq-eqb n n refl) none

-- a line is noted under a number that has none
pub noted_new : (naming : Naming) (line : List ℕ) (n : ℕ) (before : List (List ℕ)) → number_named naming (first_words line) ≡ Some n
    → n < length before → length (get_or before n []) ≡ 0 → (x : ℕ) → x < length before
    → get_or (set before n line) x [] ≡ noted naming x line (get_or before x [])
noted_new naming line n before is low none x within =
    elim (cases_eq x n) [
      | inl same ↦ rw same (get_or-set_same before n line [] low ∙ sym (names_this naming n line (get_or before n []) is none))
      | inr other ↦ get_or-set_other before n x line [] other ∙ sym (names_other naming x n line (get_or before x []) is other)
    ]

kept : (naming : Naming) (x : ℕ) (line e : List ℕ) → 0 < length e → e ≡ noted naming x line e
kept naming x line [] some = absurd (omega arith)
kept naming x line (c ∷ cs) some = refl

-- a number that has a line keeps it
pub noted_old : (naming : Naming) (line : List ℕ) (n : ℕ) (before : List (List ℕ)) → number_named naming (first_words line) ≡ Some n
    → 0 < length (get_or before n []) → (x : ℕ) → get_or before x [] ≡ noted naming x line (get_or before x [])
noted_old naming line n before is some x =
    elim (cases_eq x n) [
      | inl same ↦ rw same (kept naming n line (get_or before n []) some)
      | inr other ↦ sym (names_other naming x n line (get_or before x []) is other)
    ]

-- before the first line none is noted
pub none_noted : (naming : Naming) (room : ℕ) (lines : List (List ℕ)) (none : Bor (List ℕ)) (found : List (Bor (List ℕ)))
    → found ≡ replicate room none → none.now ≡ [] → (x : ℕ) → x < room
    → gone_on naming x lines (get_or (map (λ l. l.now) found) x []) ≡ first_naming naming x lines
none_noted naming room lines none found is empty x low =
    ap (gone_on naming x lines)
    (ap (λ f. get_or (map (λ l. l.now) f) x []) is
    ∙ get_or-map (λ l. l.now) (replicate room none) x none [] (omega (arith, length-replicate room none))
    ∙ ap (λ l. l.now) (get_or-replicate room x none none low)
    ∙ empty)

-- What follows for rival writes is noted, until nothing more follows.
use Rattle.std.proofs.Common.{◌≡◌, ◌⊎◌, inl, inr, ℕ, ◌+◌, ◌*◌, ◌<◌, ◌||◌, Bool, true, false, List, length, refl, sym, subst, ◌∙◌, arith}
use Rattle.std.specs.Prelude.{slice_index}
use Rattle.std.proofs.lemmas.Bool.{cases_lt}
use Rattle.std.proofs.lemmas.Nat.{mul-add-lt}
use Rattle.model_values.specs.declared.question.Unordered.{Unordered}
use Rattle.model_values.specs.Known.{HasNoted, IsConcluded, IsOwnLoad, NotesMore, is_known, unknown}
use Rattle.model_values.proofs.Table.{known_le, le_known, unknown_fewer}

-- nothing has changed
pub notes_none : (level : ℕ) (table : List ℕ) → NotesMore level table table false
notes_none level table = record { same = λ _. refl; fewer = λ bad. absurd (let no : false ≡ true = bad in cc) }

-- a wanted pair that was unknown is noted
pub record NotesNew (size level : ℕ) (wanted : Bool) (x y : ℕ) (old new : List ℕ) : Type 0 where
  pub noted : HasNoted size level wanted x y old new
  pub more : NotesMore level old new true

pub notes_new : (size level : ℕ) (wanted : Bool) (x y : ℕ) (old new : List ℕ) → length old ≡ size * size → x < size → y < size → wanted ≡ true
    → (known : Bool) → known ≡ is_known old size level x y → known ≡ false → HasNoted size level true x y old new
    → NotesNew size level wanted x y old new
notes_new size level wanted x y old new long lx ly want known is unknown n =
    let within : x * size + y < length old = subst (λ z. x * size + y < z) (sym long) (mul-add-lt x size y size lx ly) in
    let high : level < slice_index old (x * size + y) = elim (cases_lt level (slice_index old (x * size + y))) [
      | inl less ↦ less
      | inr not ↦ absurd (let at : is_known old size level x y ≡ true = le_known old size level x y not in
          let bad : false ≡ true = sym unknown ∙ (is ∙ at) in cc)
    ] in
    record {
      noted = subst (λ b. HasNoted size level b x y old new) (sym want) n;
      more = record {
        same = λ bad. absurd (let no : true ≡ false = bad in cc);
        fewer = λ _. unknown_fewer level level old new (x * size + y) n.noted.size
            (λ k inside low. (let at = n.noted.kept k low in omega (arith, at, low))) within high (known_le new size level x y (n.known refl));
      };
    }

-- one change after another
pub notes_then : (level : ℕ) (a b c : List ℕ) (m n : Bool) → NotesMore level a b m → NotesMore level b c n → NotesMore level a c (m || n)
notes_then level a b c false n one two = record {
  same = λ none. two.same none ∙ one.same refl;
  fewer = λ some. subst (λ z. unknown level c < unknown level z) (one.same refl) (two.fewer some);
}
notes_then level a b c true false one two = record {
  same = λ bad. absurd (let no : true ≡ false = bad in cc);
  fewer = λ _. subst (λ z. unknown level z < unknown level a) (sym (two.same refl)) (one.fewer refl);
}
notes_then level a b c true true one two = record {
  same = λ bad. absurd (let no : true ≡ false = bad in cc);
  fewer = λ _. (let first = one.fewer refl in let second = two.fewer refl in omega (arith, first, second));
}

-- where neither of two changes was one, nothing has changed
pub none_left : (m n : Bool) → (m || n) ≡ false → m ≡ false
none_left false n none = refl
none_left true n none = none

pub none_right : (m n : Bool) → (m || n) ≡ false → n ≡ false
none_right false n none = none
none_right true n none = absurd (let bad : true ≡ false = none in cc)

-- where two notes change nothing, what follows was known
pub concluded : (q : Unordered) (level x w : ℕ) (early late first last : Bool) (a b c : List ℕ)
    → (early ≡ false → (is_known a (length q.operations.now) level w x ≡ true) ⊎ IsOwnLoad q.operations.now w x → ⊥)
    → HasNoted (length q.operations.now) level early w (slice_index q.sources.now x) a b → NotesMore level a b first
    → late ≡ is_known b (length q.operations.now) level (slice_index q.sources.now x) w
    → HasNoted (length q.operations.now) level late x w b c → NotesMore level b c last
    → (first || last) ≡ false → IsConcluded q c level x w
concluded q level x w early late first last a b c none one more is two also quiet = record {
  early = λ fact. subst (λ t. is_known t (length q.operations.now) level w (slice_index q.sources.now x) ≡ true) (sym end)
      (by early none one (before fact));
  late = λ known. two.known (is ∙ subst (λ t. is_known t (length q.operations.now) level (slice_index q.sources.now x) w ≡ true) end known);
}
  where
    end : c ≡ b
    end = also.same (none_right first last quiet)

    start : b ≡ a
    start = more.same (none_left first last quiet)

    before : (is_known c (length q.operations.now) level w x ≡ true) ⊎ IsOwnLoad q.operations.now w x
        → (is_known a (length q.operations.now) level w x ≡ true) ⊎ IsOwnLoad q.operations.now w x
    before (inl known) = inl (subst (λ t. is_known t (length q.operations.now) level w x ≡ true) (end ∙ start) known)
    before (inr own) = inr own

    by : (e : Bool) → (e ≡ false → (is_known a (length q.operations.now) level w x ≡ true) ⊎ IsOwnLoad q.operations.now w x → ⊥)
        → HasNoted (length q.operations.now) level e w (slice_index q.sources.now x) a b
        → (is_known a (length q.operations.now) level w x ≡ true) ⊎ IsOwnLoad q.operations.now w x
        → is_known b (length q.operations.now) level w (slice_index q.sources.now x) ≡ true
    by true never noted fact = noted.known refl
    by false never noted fact = absurd (never refl fact)

-- what held of a table for the numbers so far holds for one more, where the table has not changed
pub concluded_more : (holds : List ℕ → ℕ → Type 0) (n : ℕ) (m new : Bool) (b c : List ℕ) → (m ≡ false → (v : ℕ) → v < n → holds b v)
    → (new ≡ false → c ≡ b) → (new ≡ false → holds c n) → (m || new) ≡ false → (v : ℕ) → v < n + 1 → holds c v
concluded_more holds n m new b c so same one quiet v low = elim (cases_lt v n) [
  | inl less ↦ subst (λ t. holds t v) (sym (same (none_right m new quiet))) (so (none_left m new quiet) v less)
  | inr not ↦ (let is : n ≡ v = omega (arith, low, not) in subst (λ z. holds c z) is (one (none_right m new quiet)))
]

-- Texts that grow in a loop.
use Rattle.std.proofs.Common.{◌≡◌, inl, inr, ℕ, ◌+◌, ◌<◌, List, length, subst, [], ◌∷◌, ◌++◌, map, refl, sym, ◌∙◌, ap, arith}
use Rattle.std.specs.List.{range_with_len, flat_map}
use Rattle.std.proofs.lemmas.Bool.{cases_eq}
use Rattle.std.proofs.lemmas.List.{append_assoc, get_or_append_left, get_or_push}
use Rattle.std.proofs.lemmas.List.Folds.{flat_map-map}
use Rattle.std.proofs.lemmas.List.FromFn.{map-range_with_len_more}
use Rattle.std.proofs.lemmas.Grind.{flat_map-append}
use Rattle.memory_models.specs.declared.kinds.Why.{Why}
use Rattle.memory_models.specs.declared.kinds.Why.TheVariants.{Program}
use Rattle.model_answer.specs.Answer.{AddsPart}
use Rattle.model_answer.specs.Texts.{why_at}

pub nothing_more : {X : Type 0} (xs : List X) → xs ++ [] ≡ xs
nothing_more [] = refl
nothing_more (x ∷ xs) = ap (λ t. x ∷ t) (nothing_more xs)

pub lines_more : (f : ℕ → List ℕ) (k : ℕ) → flat_map f (range_with_len 0 (k + 1)) ≡ flat_map f (range_with_len 0 k) ++ f k
lines_more f k =
    let here : (n : ℕ) → flat_map f (range_with_len 0 n) ≡ flat_map (λ (ys : List ℕ). ys) (map f (range_with_len 0 n)) =
    λ n. sym (flat_map-map (λ (ys : List ℕ). ys) f (range_with_len 0 n)) in
    here (k + 1)
    ∙ (ap (flat_map (λ (ys : List ℕ). ys)) (map-range_with_len_more f 0 k k (omega arith))
    ∙ (flat_map-append (λ (ys : List ℕ). ys) (map f (range_with_len 0 k)) (f k ∷ [])
    ∙ (ap (λ t. flat_map (λ (ys : List ℕ). ys) (map f (range_with_len 0 k)) ++ t) (nothing_more (f k))
    ∙ ap (λ t. t ++ f k) (sym (here k)))))

-- one line more
pub text_more : (f : ℕ → List ℕ) (k : ℕ) (base text new : List ℕ) → new ≡ text ++ f k → text ≡ base ++ flat_map f (range_with_len 0 k)
    → new ≡ base ++ flat_map f (range_with_len 0 (k + 1))
text_more f k base text new grown so_far =
    grown ∙ (ap (λ t. t ++ f k) so_far ∙ (append_assoc base (flat_map f (range_with_len 0 k)) (f k) ∙ ap (λ t. base ++ t) (sym (lines_more f k))))

-- one reason more
pub whys_more : (P : ℕ → Why → Type 0) (whys new : List Why) (k : ℕ) (why : Why) → length whys ≡ k → new ≡ whys ++ why ∷ [] → P k why
    → ((j : ℕ) → j < k → P j (why_at whys j)) → (j : ℕ) → j < k + 1 → P j (why_at new j)
whys_more P whys new k why size grown here so_far j low =
    let at_end : why_at new k ≡ why = ap (λ (xs : List Why). why_at xs k) grown ∙ get_or_push whys why Program k size in
    elim (cases_eq j k) [
      | inl same ↦ subst (λ (i : ℕ). P i (why_at new i)) (sym same) (subst (P k) (sym at_end) here)
      | inr other ↦ (let within : j < length whys = omega arith in
          let before : why_at new j ≡ why_at whys j = ap (λ (xs : List Why). why_at xs j) grown ∙ get_or_append_left whys (why ∷ []) Program j within in
          subst (P j) (sym before) (so_far j (omega arith)))
    ]

-- nothing more, and something in two parts
pub adds_nothing : {Is : List ℕ → Type 0} (text : List ℕ) → Is [] → AddsPart text text Is
adds_nothing text is = record { part = []; grown = sym (nothing_more text); is = is }

pub adds_behind : {Is : List ℕ → Type 0} (old middle new heading : List ℕ) → middle ≡ old ++ heading → AddsPart middle new Is
    → AddsPart old new (λ part. AddsPart heading part Is)
adds_behind old middle new heading front rest = record {
  part = heading ++ rest.part;
  grown = rest.grown ∙ (ap (λ t. t ++ rest.part) front ∙ append_assoc old heading rest.part);
  is = record { part = rest.part; grown = refl; is = rest.is };
}

-- three parts more
pub three_more : (base a b d one two three : List ℕ) → one ≡ base ++ a → two ≡ one ++ b → three ≡ two ++ d → three ≡ base ++ (a ++ (b ++ d))
three_more base a b d one two three first second third =
    third ∙ (ap (λ t. t ++ d) (second ∙ ap (λ t. t ++ b) first) ∙ (append_assoc (base ++ a) b d ∙ append_assoc base a (b ++ d)))

-- two parts more
pub two_more : (base a b one two : List ℕ) → one ≡ base ++ a → two ≡ one ++ b → two ≡ base ++ (a ++ b)
two_more base a b one two first second = second ∙ (ap (λ t. t ++ b) first ∙ append_assoc base a b)

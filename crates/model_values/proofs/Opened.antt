-- An opening store stands before all writes of its word where none on its word stands just before it.
use Rattle.std.proofs.Common.{◌≡◌, inl, inr, ℕ, ◌-◌, ◌<◌, ◌≤◌, true, List, length, refl, sym, ap, subst, ◌∙◌, arith}
use Rattle.std.specs.Prelude.{slice_index}
use Rattle.std.proofs.lemmas.Bool.{cases_lt}
use Rattle.memory_models.specs.declared.kinds.Kind.{Kind}
use Rattle.memory_models.specs.declared.kinds.Kind.TheVariants.{Load, Store, Atomic, Fence}
use Rattle.memory_models.specs.declared.kinds.Operation.{Operation}
use Rattle.memory_models.specs.Trace.{is_write, uses_word, operation_at}
use Rattle.model_values.specs.Placed.{IsTraceOf}
use Rattle.model_values.specs.Unordered.{IsOpeningOf}

write_uses : (kind : Kind) → is_write kind ≡ true → uses_word kind ≡ true
write_uses Load write = absurd (let bad : is_write Load ≡ true = write in cc)
write_uses Store write = refl
write_uses Atomic write = refl
write_uses Fence write = absurd (let bad : is_write Fence ≡ true = write in cc)

-- a write stands at its place
pub record StandsAt (placed : List Operation) (writes : List ℕ) (x : ℕ) : Type 0 where
  pub inside : (operation_at placed x).place < length writes
  pub is : slice_index writes (operation_at placed x).place ≡ x

pub stands_at : (ops : List Operation) (words : ℕ) (placed : List Operation) (writes : List ℕ) → IsTraceOf ops words placed writes → (x : ℕ) → x < length ops
    → is_write (operation_at ops x).kind ≡ true → StandsAt placed writes x
stands_at ops words placed writes t x lx write =
    let low : x < length placed = subst (λ n. x < n) (sym t.size) lx in
    let also : is_write (operation_at placed x).kind ≡ true = subst (λ k. is_write k ≡ true) (sym (t.same x lx).kind) write in
    record {
      inside = t.trace.place x low (write_uses (operation_at placed x).kind also);
      is = t.trace.written x low also;
    }

-- no write on its word stands just before it, so it stands before all others
pub opens_first : (ops : List Operation) (words openings : ℕ) (placed : List Operation) (writes : List ℕ) → IsTraceOf ops words placed writes
    → (x y : ℕ) → x < length ops → y < length ops → IsOpeningOf openings ops x y
    → (0 < (operation_at placed x).place → (operation_at placed (slice_index writes ((operation_at placed x).place - 1))).word ≡ (operation_at ops x).word → ⊥)
    → (operation_at placed x).place < (operation_at placed y).place
opens_first ops words openings placed writes t x y lx ly o none = elim (cases_lt (operation_at placed x).place (operation_at placed y).place) [
  | inl less ↦ less
  | inr not ↦ absurd (elim (cases_lt (operation_at placed y).place (operation_at placed x).place) [
    | inl under ↦ before under
    | inr same ↦ (let e : (operation_at placed x).place ≡ (operation_at placed y).place = omega (arith, not, same) in
        o.other (sym at-x.is ∙ (ap (slice_index writes) e ∙ at-y.is)))
  ])
]
  where
    at-x : StandsAt placed writes x
    at-x = stands_at ops words placed writes t x lx o.first

    at-y : StandsAt placed writes y
    at-y = stands_at ops words placed writes t y ly o.second

    word-x : (operation_at placed x).word ≡ (operation_at ops x).word
    word-x = (t.same x lx).word

    word-y : (operation_at placed y).word ≡ (operation_at ops x).word
    word-y = (t.same y ly).word ∙ sym o.word

    before : (operation_at placed y).place < (operation_at placed x).place → ⊥
    before under =
        let inside = at-x.inside in
        let b : ℕ = (operation_at placed (slice_index writes ((operation_at placed x).place - 1))).word in
        let low : (operation_at placed (slice_index writes (operation_at placed y).place)).word ≤ b =
        t.trace.ordered (operation_at placed y).place ((operation_at placed x).place - 1) (omega (arith, under)) (omega (arith, inside)) in
        let high : b ≤ (operation_at placed (slice_index writes (operation_at placed x).place)).word =
        t.trace.ordered ((operation_at placed x).place - 1) (operation_at placed x).place (omega arith) inside in
        let from : (operation_at ops x).word ≤ b = subst (λ z. z ≤ b) (ap (λ z. (operation_at placed z).word) at-y.is ∙ word-y) low in
        let to : b ≤ (operation_at ops x).word = subst (λ z. b ≤ z) (ap (λ z. (operation_at placed z).word) at-x.is ∙ word-x) high in
        none (omega (arith, under)) (omega (arith, from, to))

-- a write on its word that stands just before it
pub not_first : (ops : List Operation) (words openings : ℕ) (placed : List Operation) (writes : List ℕ) → IsTraceOf ops words placed writes
    → (x : ℕ) → x < length ops → x < openings → is_write (operation_at ops x).kind ≡ true → 0 < (operation_at placed x).place
    → (operation_at placed (slice_index writes ((operation_at placed x).place - 1))).word ≡ (operation_at ops x).word
    → ((y : ℕ) → y < length ops → IsOpeningOf openings ops x y → (operation_at placed x).place < (operation_at placed y).place) → ⊥
not_first ops words openings placed writes t x lx opening write some word all =
    let at-x = stands_at ops words placed writes t x lx write in
    let inside = at-x.inside in
    let p : ℕ = (operation_at placed x).place - 1 in
    let lp : p < length writes = omega (arith, inside) in
    let y : ℕ = slice_index writes p in
    let ly : y < length ops = subst (λ n. y < n) t.size (t.trace.low p lp) in
    let at : (operation_at placed y).place ≡ p = t.trace.places p lp in
    let same = t.same y ly in
    let less = all y ly (record {
      opening = opening;
      other = λ e. (let f : (operation_at placed x).place ≡ (operation_at placed y).place = ap (λ z. (operation_at placed z).place) e in
          absurd (omega (arith, f, at, some)));
      first = write;
      second = subst (λ k. is_write k ≡ true) same.kind (t.trace.writes_are p lp);
      word = sym word ∙ same.word;
    }) in
    absurd (omega (arith, less, at, some))

-- A closing load comes behind all writes on its word, where it is the first operation of its processor.
use Rattle.std.proofs.Common.{◌≡◌, inl, inr, ℕ, ◌+◌, ◌-◌, ◌<◌, ◌≤◌, true, List, length, sym, ap, subst, ◌∙◌, arith}
use Rattle.std.specs.Prelude.{slice_index}
use Rattle.std.proofs.lemmas.Bool.{cases_eq, cases_lt}
use Rattle.memory_models.specs.declared.kinds.Operation.{Operation}
use Rattle.memory_models.specs.declared.kinds.Rule.{Rule}
use Rattle.memory_models.specs.Trace.{is_load, is_write, uses_word, operation_at, source_at, IsOwn}
use Rattle.memory_models.proofs.Orders.{load_uses}
use Rattle.model_values.specs.Known.{IsClosedBy}
use Rattle.model_values.specs.Placed.{IsTraceOf}
use Rattle.model_values.specs.Unordered.{IsClosingOf, ExplainsLog}
use Rattle.model_values.proofs.Explained.{AreWrites, IsExplained, explained, places_apart, places_rise}
use Rattle.model_values.proofs.Opened.{stands_at}

-- what reads its word stands at a write of it
record ReadsAt (placed : List Operation) (writes : List ℕ) (y : ℕ) : Type 0 where
  pub inside : (operation_at placed y).place < length writes
  pub low : source_at placed writes y < length placed
  pub write : is_write (operation_at placed (source_at placed writes y)).kind ≡ true
  pub place : (operation_at placed (source_at placed writes y)).place ≡ (operation_at placed y).place
  pub word : (operation_at placed (source_at placed writes y)).word ≡ (operation_at placed y).word

load_at : (rules : List Rule) (ops : List Operation) (sources : List ℕ) (words openings closing : ℕ) (placed : List Operation) (writes : List ℕ) (turn : ℕ → ℕ)
    → IsExplained rules ops sources words openings closing placed writes turn → (y : ℕ) → y < length ops → is_load (operation_at ops y).kind ≡ true
    → ReadsAt placed writes y
load_at rules ops sources words openings closing placed writes turn e y ly load =
    let low : y < length placed = subst (λ n. y < n) (sym e.size) ly in
    let uses : uses_word (operation_at placed y).kind ≡ true =
    load_uses (operation_at placed y).kind (subst (λ k. is_load k ≡ true) (sym (e.told y ly).kind) load) in
    let inside = e.trace.place y low uses in
    record {
      inside = inside;
      low = e.trace.low (operation_at placed y).place inside;
      write = e.trace.writes_are (operation_at placed y).place inside;
      place = e.trace.places (operation_at placed y).place inside;
      word = e.trace.source y low uses;
    }

-- the first operation of a processor has none before it in its program
none_before : (rules : List Rule) (ops : List Operation) (sources : List ℕ) (words openings closing : ℕ) (placed : List Operation) (writes : List ℕ) (turn : ℕ → ℕ)
    → IsExplained rules ops sources words openings closing placed writes turn → (x y : ℕ) → IsClosedBy closing ops x y → y < length ops
    → (s : ℕ) → IsOwn placed s y → ⊥
none_before rules ops sources words openings closing placed writes turn e x y c ly s own =
    let before = own.before in
    let b : ℕ = y - 1 in
    let next : b + 1 ≡ y = omega (arith, before) in
    let lb : b < length ops = omega (arith, next, ly) in
    let low-y : y < length placed = subst (λ n. y < n) (sym e.size) ly in
    let low-b : b < length placed = subst (λ n. b < n) (sym e.size) lb in
    let up = e.trace.processors s b (omega (arith, before)) low-b in
    let down = e.trace.processors b y (omega arith) low-y in
    let at = own.processor in
    let same : (operation_at placed b).processor ≡ (operation_at placed y).processor = omega (arith, up, down, at) in
    c.first b next (sym (e.told b lb).processor ∙ (same ∙ (e.told y ly).processor))

pub closing_rises : (rules : List Rule) (ops : List Operation) (sources : List ℕ) (words openings closing : ℕ) (turn : ℕ → ℕ)
    → ExplainsLog rules ops sources words openings closing turn → (x y : ℕ) → x < length ops → y < length ops → IsClosedBy closing ops x y → turn x < turn y
closing_rises rules ops sources words openings closing turn ex x y lx ly c =
    let placed : List Operation = ex.placed in
    let writes : List ℕ = ex.writes in
    let e = explained rules ops sources words openings closing turn ex in
    let r = load_at rules ops sources words openings closing placed writes turn e y ly c.closes.load in
    let s : ℕ = source_at placed writes y in
    let low-y : y < length placed = subst (λ n. y < n) (sym e.size) ly in
    let ls : s < length ops = subst (λ n. s < n) e.size r.low in
    let read : turn s < turn y = elim (e.order.source y low-y (subst (λ k. is_load k ≡ true) (sym (e.told y ly).kind) c.closes.load)) [
      | inl less ↦ less
      | inr own ↦ absurd (none_before rules ops sources words openings closing placed writes turn e x y c ly s own)
    ] in
    let both : AreWrites placed x s = record {
      low-x = subst (λ n. x < n) (sym e.size) lx;
      low-y = r.low;
      write-x = subst (λ k. is_write k ≡ true) (sym (e.told x lx).kind) c.closes.write;
      write-y = r.write;
      word = (e.told x lx).word ∙ (sym c.closes.word ∙ (sym (e.told y ly).word ∙ sym r.word));
    } in
    let last = e.closed y x ly lx c.closes in
    let place = r.place in
    elim (cases_eq x s) [
      | inl same ↦ subst (λ z. turn z < turn y) (sym same) read
      | inr other ↦ (let apart = places_apart words placed writes e.trace x s both other in
          let rise = places_rise rules placed writes turn e.order x s both (omega (arith, last, place, apart)) in
          omega (arith, rise, read))
    ]

-- no write on its word stands just behind what it read, so it stands behind all
pub closes_last : (ops : List Operation) (words closing : ℕ) (placed : List Operation) (writes : List ℕ) → IsTraceOf ops words placed writes
    → (x y : ℕ) → x < length ops → y < length ops → IsClosingOf closing ops x y
    → ((operation_at placed x).place + 1 < length writes
    → (operation_at placed (slice_index writes ((operation_at placed x).place + 1))).word ≡ (operation_at ops x).word → ⊥)
    → (operation_at placed y).place ≤ (operation_at placed x).place
closes_last ops words closing placed writes t x y lx ly c none = elim (cases_lt (operation_at placed x).place (operation_at placed y).place) [
  | inl above ↦ absurd (
      let low : x < length placed = subst (λ n. x < n) (sym t.size) lx in
      let p : ℕ = (operation_at placed x).place in
      let at-y = stands_at ops words placed writes t y ly c.write in
      let inside = at-y.inside in
      let uses : uses_word (operation_at placed x).kind ≡ true =
      load_uses (operation_at placed x).kind (subst (λ k. is_load k ≡ true) (sym (t.same x lx).kind) c.load) in
      let next : p + 1 < length writes = elim (cases_lt (p + 1) (length writes)) [
        | inl less ↦ less
        | inr not ↦ absurd (omega (arith, not, above, inside))
      ] in
      let up = t.trace.ordered p (p + 1) (omega arith) next in
      let down = t.trace.ordered (p + 1) (operation_at placed y).place (omega (arith, above)) inside in
      let here = t.trace.source x low uses in
      let word-x = (t.same x lx).word in
      let word-y = (t.same y ly).word in
      let there = ap (λ z. (operation_at placed z).word) at-y.is in
      let word = c.word in
      none next (omega (arith, up, down, here, word-x, word-y, there, word)))
  | inr not ↦ not
]

-- a write on its word that stands just behind what it read
pub not_last : (ops : List Operation) (words closing : ℕ) (placed : List Operation) (writes : List ℕ) → IsTraceOf ops words placed writes
    → (x : ℕ) → x < length ops → closing ≤ x → is_load (operation_at ops x).kind ≡ true → (operation_at placed x).place + 1 < length writes
    → (operation_at placed (slice_index writes ((operation_at placed x).place + 1))).word ≡ (operation_at ops x).word
    → ((y : ℕ) → y < length ops → IsClosingOf closing ops x y → (operation_at placed y).place ≤ (operation_at placed x).place) → ⊥
not_last ops words closing placed writes t x lx closes load next word all =
    let p : ℕ = (operation_at placed x).place + 1 in
    let y : ℕ = slice_index writes p in
    let ly : y < length ops = subst (λ n. y < n) t.size (t.trace.low p next) in
    let at = t.trace.places p next in
    let same = t.same y ly in
    let less = all y ly (record {
      closes = closes;
      load = load;
      write = subst (λ k. is_write k ≡ true) same.kind (t.trace.writes_are p next);
      word = sym word ∙ same.word;
    }) in
    omega (arith, less, at)

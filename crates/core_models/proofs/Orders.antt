-- The trace of accesses is a trace, and the turns by their services are an order of the models.
use Rattle.std.proofs.Common.{◌≡◌, inl, inr, ℕ, zero, suc, ◌<◌, true, false, List, length, sym, ◌∙◌, ap, subst, arith}
use Rattle.std.specs.Prelude.{slice_index}
use Rattle.std.proofs.lemmas.Bool.{cases_eq, cases_order, cases_Bool}
use Rattle.memory_models.specs.declared.kinds.Kind.{Kind}
use Rattle.memory_models.specs.declared.kinds.Operation.{Operation}
use Rattle.memory_models.specs.declared.kinds.Rule.{Rule}
use Rattle.memory_models.specs.Trace.{is_load, is_write, uses_word, operation_at, source_at, IsOwn, IsMemoryTrace}
use Rattle.memory_models.specs.Order.{KeepsOrder, IsMemoryOrder}
use Rattle.memory_models.specs.Models.{sequential, coherent, fenced}
use Rattle.core_models.specs.Accesses.{Access}
use Rattle.core_models.specs.Traces.{access_at, ComesBefore, IsTraceOf}
use Rattle.core_models.proofs.Turns.{latest, latest_at, latest_more, latest_below, turn_key}
use Rattle.core_models.proofs.Turns.{turn_of, key_of_use, key_of_fence, later_key, later_place, turns_apart}
use Rattle.core_models.proofs.Services.{load_or_write, write_uses, load_uses, load_is_no_write, word_kind, fence_kind}
use Rattle.core_models.proofs.Services.{write_kind, AreServed, AreInTurn, not_before_itself, before_word, before_served}

module _ (words : ℕ) (all : List Access) (ops : List Operation) (writes : List ℕ) (s : AreServed words all) (t : IsTraceOf all ops writes) where
  low_in : (x : ℕ) → x < length ops → x < length all
  low_in x low = let count = t.count in omega (arith, count)

  kind_in : (x : ℕ) → x < length all → (P : Kind → Type 0) → P (operation_at ops x).kind → P (access_at all x).kind
  kind_in x low P h = subst P (t.each x low).kind h

  one_place : (p q : ℕ) → p < length writes → q < length writes → slice_index writes p ≡ slice_index writes q → p ≡ q
  one_place p q low high same = elim (cases_order p q) [
    | inl equal ↦ equal
    | inr (inl less) ↦ absurd (not_before_itself (access_at all (slice_index writes q))
        (subst (λ z. ComesBefore (access_at all z) (access_at all (slice_index writes q))) same (t.ordered p q less high)))
    | inr (inr more) ↦ absurd (not_before_itself (access_at all (slice_index writes p))
        (subst (λ z. ComesBefore (access_at all z) (access_at all (slice_index writes p))) (sym same) (t.ordered q p more low)))
  ]

  place_low : (x : ℕ) → x < length all → uses_word (access_at all x).kind ≡ true → (operation_at ops x).place < length writes
  place_low x low used = elim (load_or_write (access_at all x).kind used) [
    | inl load ↦ t.place x low load
    | inr write ↦ (t.written x low write).0
  ]

  source_word : (x : ℕ) → x < length all → uses_word (access_at all x).kind ≡ true
      → (access_at all (source_at ops writes x)).word ≡ (access_at all x).word
  source_word x low used = elim (load_or_write (access_at all x).kind used) [
    | inl load ↦ (t.source x low load).word
    | inr write ↦ ap (λ z. (access_at all z).word) (t.written x low write).1
  ]

  use_in : (x : ℕ) → x < length all → uses_word (operation_at ops x).kind ≡ true → uses_word (access_at all x).kind ≡ true
  use_in x low h = kind_in x low (λ k. uses_word k ≡ true) h

  write_in : (x : ℕ) → x < length all → is_write (operation_at ops x).kind ≡ true → is_write (access_at all x).kind ≡ true
  write_in x low h = kind_in x low (λ k. is_write k ≡ true) h

  load_in : (x : ℕ) → x < length all → is_load (operation_at ops x).kind ≡ true → is_load (access_at all x).kind ≡ true
  load_in x low h = kind_in x low (λ k. is_load k ≡ true) h

  pub trace_is : IsMemoryTrace words ops writes
  trace_is = record {
    processors = λ x y less low. (let high = low_in y low in
        let below : x < length all = omega (arith, high, less) in
        let a = (t.each x below).processor in
        let b = (t.each y high).processor in
        let known = s.processors x y less high in omega (arith, a, b, known));
    word = λ x low. (let is = (t.each x (low_in x low)).word in let known = s.word x (low_in x low) in omega (arith, is, known));
    place = λ x low used. place_low x (low_in x low) (use_in x (low_in x low) used);
    source = λ x low used. (let below = low_in x low in
        let used = use_in x below used in
        (t.each (source_at ops writes x) (t.low (operation_at ops x).place (place_low x below used))).word
        ∙ (source_word x below used ∙ sym (t.each x below).word));
    written = λ x low write. (t.written x (low_in x low) (write_in x (low_in x low) write)).1;
    low = λ p less. (let below = t.low p less in let count = t.count in omega (arith, below, count));
    writes_are = λ p less. (let x : ℕ = slice_index writes p in
        subst (λ k. is_write k ≡ true) (sym (t.each x (t.low p less)).kind) (t.writes_are p less));
    places = λ p less. (let x : ℕ = slice_index writes p in
        let at = t.written x (t.low p less) (t.writes_are p less) in
        one_place (operation_at ops x).place p at.0 less at.1);
    ordered = λ p q less low. (elim (cases_eq p q) [
      | inl same ↦ (let e : (operation_at ops (slice_index writes p)).word ≡ (operation_at ops (slice_index writes q)).word
          = ap (λ z. (operation_at ops (slice_index writes z)).word) same in omega (arith, e))
      | inr other ↦ (let below : p < length writes = omega (arith, less, low) in
          let known = before_word (access_at all (slice_index writes p)) (access_at all (slice_index writes q)) (t.ordered p q (omega
          (arith, less, other)) low) in
          let a = (t.each (slice_index writes p) (t.low p below)).word in
          let b = (t.each (slice_index writes q) (t.low q low)).word in
          omega (arith, known, a, b))
    ]);
  }

  served_less : (x y : ℕ) → x < length all → uses_word (access_at all x).kind ≡ true → uses_word (access_at all y).kind ≡ true
      → (access_at all x).served < (access_at all y).served → turn_of all x < turn_of all y
  served_less x y low a b less = let k = key_of_use all x a in let m = key_of_use all y b in later_key all x y low (omega (arith, k, m, less))

  -- writes on one word are served in the order of their places
  place_order : (x y : ℕ) → x < length all → y < length all → is_write (access_at all x).kind ≡ true → is_write (access_at all y).kind ≡ true
      → (access_at all x).word ≡ (access_at all y).word → (operation_at ops x).place < (operation_at ops y).place
      → (access_at all x).served < (access_at all y).served
  place_order x y low high a b same less =
      let here = t.written x low a in
      let there = t.written y high b in
      let order : ComesBefore (access_at all (source_at ops writes x)) (access_at all (source_at ops writes y)) =
      t.ordered (operation_at ops x).place (operation_at ops y).place less there.0 in
      before_served (access_at all x) (access_at all y) same
      (subst (λ z. ComesBefore (access_at all x) (access_at all z)) there.1
      (subst (λ z. ComesBefore (access_at all z) (access_at all (source_at ops writes y))) here.1 order))

  -- a write whose place is behind that of a load's source is served behind the load
  newer : (x w : ℕ) → x < length all → w < length all → is_load (access_at all x).kind ≡ true → is_write (access_at all w).kind ≡ true
      → (access_at all x).word ≡ (access_at all w).word → (operation_at ops x).place < (operation_at ops w).place
      → (access_at all x).served < (access_at all w).served
  newer x w low high load write same less =
      let src : ℕ = source_at ops writes x in
      let at = t.place x low load in
      let it = t.source x low load in
      let there = t.written w high write in
      let order : ComesBefore (access_at all src) (access_at all (source_at ops writes w)) =
      t.ordered (operation_at ops x).place (operation_at ops w).place less there.0 in
      let up : (access_at all src).served < (access_at all w).served =
      before_served (access_at all src) (access_at all w) (it.word ∙ same) (subst (λ z. ComesBefore (access_at all src) (access_at all z)) there.1 order) in
      elim (cases_order (access_at all x).served (access_at all w).served) [
        | inl equal ↦ (let one : x ≡ w = s.apart x w low high (load_uses (access_at all x).kind load) (write_uses (access_at all w).kind write) same equal in
            absurd (load_is_no_write (access_at all w).kind (subst (λ z. is_load (access_at all z).kind ≡ true) one load) write))
        | inr (inl before) ↦ before
        | inr (inr after) ↦ (let last = t.last x w low high load (record { write = write; word = sym same; before = after }) in absurd (omega
            (arith, last, up)))
      ]

  pub order_of : (rules : List Rule) → ((x y : ℕ) → y < length all → KeepsOrder rules ops x y → turn_of all x < turn_of all y)
      → IsMemoryOrder rules ops writes (turn_of all)
  order_of rules program = record {
    apart = λ x y low high same. turns_apart all x y (low_in x low) (low_in y high) same;
    program = λ x y low kept. program x y (low_in y low) kept;
    word_order = λ x y low high a b one less. (let below = low_in x low in
        let above = low_in y high in
        let first = write_in x below a in
        let second = write_in y above b in
        let same : (access_at all x).word ≡ (access_at all y).word = sym (t.each x below).word ∙ (one.word ∙ (t.each y above).word) in
        served_less x y below (write_uses (access_at all x).kind first) (write_uses (access_at all y).kind second)
        (place_order x y below above first second same less));
    source = λ x low load. (let below = low_in x low in
        let first = load_in x below load in
        let it = t.source x below first in
        inl (served_less (source_at ops writes x) x (t.low (operation_at ops x).place (t.place x below first))
        (write_uses (access_at all (source_at ops writes x)).kind it.write) (load_uses (access_at all x).kind first) it.before));
    newest = λ x w low high load write one less. (let below = low_in x low in
        let above = low_in w high in
        let first = load_in x below load in
        let second = write_in w above write in
        let same : (access_at all x).word ≡ (access_at all w).word = sym (t.each x below).word ∙ (one.word ∙ (t.each w above).word) in
        let later = newer x w below above first second same less in (
          served_less x w below (load_uses (access_at all x).kind first) (write_uses (access_at all w).kind second) later,
          λ own. (let back = s.one_word w x own.before below (sym (t.each w above).processor ∙ (own.processor ∙ (t.each x below).processor))
              (write_uses (access_at all w).kind second) (load_uses (access_at all x).kind first) (sym same) in
              absurd (omega (arith, back, later))),
        ));
  }

  -- of two of a processor
  own_in : (x y : ℕ) → y < length all → IsOwn ops x y → (access_at all x).processor ≡ (access_at all y).processor
  own_in x y low own = let b = own.before in
      sym (t.each x (omega (arith, b, low))).processor ∙ (own.processor ∙ (t.each y low).processor)

  one_word_turns : (x y : ℕ) → y < length all → IsOwn ops x y → uses_word (operation_at ops x).kind ≡ true → uses_word (operation_at ops y).kind ≡ true
      → (operation_at ops x).word ≡ (operation_at ops y).word → turn_of all x < turn_of all y
  one_word_turns x y low own a b same =
      let before = own.before in
      let below : x < length all = omega (arith, before, low) in
      let first = use_in x below a in
      let second = use_in y low b in
      served_less x y below first second
      (s.one_word x y before low (own_in x y low own) first second (sym (t.each x below).word ∙ (same ∙ (t.each y low).word)))

  -- what is behind a fence of its processor has a later turn
  behind_fence : (f y : ℕ) → y < length all → f < y → (access_at all f).processor ≡ (access_at all y).processor → uses_word (access_at all f).kind ≡ false
      → turn_of all f < turn_of all y
  behind_fence f y low less own fence =
      let below : f < length all = omega (arith, less, low) in
      elim (cases_Bool (uses_word (access_at all y).kind)) [
        | inl used ↦ (let some = s.behind f y less low own fence used in
            let k = key_of_fence all f fence in
            let m = key_of_use all y used in
            let under_all = latest_below all (access_at all f).processor f (access_at all y).served some (λ z before under same.
            elim (cases_Bool (uses_word (access_at all z).kind)) [
              | inl uses ↦ s.held z f y before less low (same ∙ own) own uses fence used
              | inr none ↦ (let zero_at = s.unserved z under none in omega (arith, zero_at, some))
            ]) in
            later_key all f y below (omega (arith, k, m, under_all)))
        | inr none ↦ (let k = key_of_fence all f fence in
            let m : turn_key all y ≡ latest all (access_at all f).processor y = key_of_fence all y none ∙ ap (λ q. latest all q y) (sym own) in
            let more = latest_more all (access_at all f).processor f y (omega (arith, less)) in
            later_place all f y less below (omega (arith, k, m, more)))
      ]

  -- and what is before one has an earlier turn
  before_fence : (x f : ℕ) → f < length all → x < f → (access_at all x).processor ≡ (access_at all f).processor → uses_word (access_at all f).kind ≡ false
      → turn_of all x < turn_of all f
  before_fence x f low less own fence =
      let below : x < length all = omega (arith, less, low) in
      elim (cases_Bool (uses_word (access_at all x).kind)) [
        | inl used ↦ (let k = key_of_use all x used in
            let m = key_of_fence all f fence in
            let at = latest_at all (access_at all f).processor f x less below own in
            later_place all x f less below (omega (arith, k, m, at)))
        | inr none ↦ behind_fence x f low less own none
      ]

  fenced_kept : (x y : ℕ) → y < length all → KeepsOrder fenced ops x y → turn_of all x < turn_of all y
  fenced_kept x y low (inl (zero, less, a)) =
      one_word_turns x y low a.own (word_kind (operation_at ops x).kind a.from) (word_kind (operation_at ops y).kind a.to) a.key
  fenced_kept x y low (inl (suc zero, less, a)) = (let before = a.own.before in
      behind_fence x y low before (own_in x y low a.own)
      (kind_in x (omega (arith, before, low)) (λ k. uses_word k ≡ false) (fence_kind (operation_at ops x).kind a.from)))
  fenced_kept x y low (inl (suc (suc zero), less, a)) =
      before_fence x y low a.own.before (own_in x y low a.own) (kind_in y low (λ k. uses_word k ≡ false) (fence_kind (operation_at ops y).kind a.to))
  fenced_kept x y low (inl (suc (suc (suc k)), less, a)) = absurd (omega arith)
  fenced_kept x y low (inr a) = one_word_turns x y low a.own (write_kind (operation_at ops x).kind a.from) (write_kind (operation_at ops y).kind a.to) a.key

  coherent_kept : (x y : ℕ) → y < length all → KeepsOrder coherent ops x y → turn_of all x < turn_of all y
  coherent_kept x y low (inl (zero, less, a)) =
      one_word_turns x y low a.own (word_kind (operation_at ops x).kind a.from) (word_kind (operation_at ops y).kind a.to) a.key
  coherent_kept x y low (inl (suc k, less, a)) = absurd (omega arith)
  coherent_kept x y low (inr a) = one_word_turns x y low a.own (write_kind (operation_at ops x).kind a.from) (write_kind (operation_at ops y).kind a.to) a.key

  own_turns : AreInTurn all → (x y : ℕ) → y < length all → IsOwn ops x y → turn_of all x < turn_of all y
  own_turns turns x y low own =
      let before = own.before in
      let below : x < length all = omega (arith, before, low) in
      let same = own_in x y low own in
      elim (cases_Bool (uses_word (access_at all x).kind)) [
        | inl used ↦ elim (cases_Bool (uses_word (access_at all y).kind)) [
          | inl also ↦ served_less x y below used also (turns x y before low same used also)
          | inr none ↦ before_fence x y low before same none
        ]
        | inr none ↦ behind_fence x y low before same none
      ]

  sequential_kept : AreInTurn all → (x y : ℕ) → y < length all → KeepsOrder sequential ops x y → turn_of all x < turn_of all y
  sequential_kept turns x y low (inl (zero, less, a)) = own_turns turns x y low a.own
  sequential_kept turns x y low (inl (suc k, less, a)) = absurd (omega arith)
  sequential_kept turns x y low (inr a) = own_turns turns x y low a.own

  pub fenced_order : IsMemoryOrder fenced ops writes (turn_of all)
  fenced_order = order_of fenced fenced_kept

  pub coherent_order : IsMemoryOrder coherent ops writes (turn_of all)
  coherent_order = order_of coherent coherent_kept

  pub sequential_order : AreInTurn all → IsMemoryOrder sequential ops writes (turn_of all)
  sequential_order turns = order_of sequential (sequential_kept turns)

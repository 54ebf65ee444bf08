-- Each list of accesses that are served so has a trace.
use Rattle.std.proofs.Common.{◌≡◌, inl, inr, ℕ, zero, suc, ◌<◌, ◌≤◌, ◌==◌, ◌&&◌, max, nat_lt, Bool, true, false, cond, List, [], ◌∷◌, length, map}
use Rattle.std.proofs.Common.{Option, Some, None, refl, sym, ◌∙◌, ap, subst, arith, slice_get, eq-eqb, eqb-true, lt-ltb, ltb-true}
use Rattle.std.specs.Prelude.{find, filter_map, flat_map, slice_index}
use Rattle.std.specs.List.{range_with_len}
use Rattle.std.proofs.lemmas.Bool.{cases_Bool, cases_eq, cond-true, cond-false, and_parts, and_from, both_ways}
use Rattle.std.proofs.lemmas.Option.{slice_get_within}
use Rattle.memory_models.specs.declared.kinds.Kind.{Kind}
use Rattle.memory_models.specs.declared.kinds.Kind.TheVariants.{Load, Store, Atomic, Fence}
use Rattle.memory_models.specs.declared.kinds.Operation.{Operation}
use Rattle.memory_models.specs.Trace.{is_load, is_write, operation_at, source_at}
use Rattle.core_models.specs.Accesses.{Access}
use Rattle.core_models.specs.Traces.{access_at, ComesBefore, IsWriteBefore, IsTraceOf}
use Rattle.core_models.proofs.Rising.{Each, Rising, each_at, each_weaker, each_pieces}
use Rattle.core_models.proofs.Rising.{each_filter, rising_at, rising_pieces, rising_filter, has_piece, has_filter}
use Rattle.core_models.proofs.Rising.{place_of, found}
use Rattle.core_models.proofs.Ranges.{length_map, length_range, each_numbers, rising_numbers, has_numbers, get_map_range, get_within, index_of_get}
use Rattle.core_models.proofs.Services.{AreServed, write_uses}

-- the last of the first n numbers that passes a test
abbrev last_passing : (ℕ → Bool) → ℕ → ℕ
last_passing test zero = 0
last_passing test (suc n) = cond (test n) n (last_passing test n)

pub record IsLastPassing (test : ℕ → Bool) (n k : ℕ) : Type 0 where
  pub low : k < n
  pub passes : test k ≡ true
  pub last : (p : ℕ) → p < n → test p ≡ true → p ≤ k

last_is : (test : ℕ → Bool) (n p : ℕ) → p < n → test p ≡ true → IsLastPassing test n (last_passing test n)
last_is test zero p low passes = absurd (omega arith)
last_is test (suc n) p low passes = elim (cases_Bool (test n)) [
  | inl here ↦ subst (IsLastPassing test (suc n)) (sym (cond-true (test n) n (last_passing test n) here))
      (record { low = omega arith; passes = here; last = λ q less h. omega (arith, less) })
  | inr other ↦ (let inside : p < n = elim (cases_eq p n) [
    | inl same ↦ absurd (both_ways (test n) other (ap test (sym same) ∙ passes))
    | inr differs ↦ omega (arith, low, differs)
  ] in
      let rest = last_is test n p inside passes in
      let below = rest.low in
      subst (IsLastPassing test (suc n)) (sym (cond-false (test n) n (last_passing test n) other)) (record {
        low = omega (arith, below);
        passes = rest.passes;
        last = λ q less h. elim (cases_eq q n) [
          | inl same ↦ absurd (both_ways (test n) other (ap test (sym same) ∙ h))
          | inr differs ↦ rest.last q (omega (arith, less, differs)) h
        ];
      }))
]

-- a number above all services
abbrev top : List Access → ℕ
top [] = 0
top (a ∷ accesses) = max (suc a.served) (top accesses)

below_top : (all : List Access) (x : ℕ) → x < length all → (access_at all x).served < top all
below_top [] x low = absurd (omega arith)
below_top (a ∷ all) zero low = omega arith
below_top (a ∷ all) (suc x) low = let rest = below_top all x (omega arith) in omega (arith, rest)

no_load : (k : Kind) → is_write k ≡ true → is_load k ≡ false
no_load Load h = absurd (cc)
no_load Store h = refl
no_load Atomic h = refl
no_load Fence h = refl

module _ (words : ℕ) (all : List Access) (s : AreServed words all) where
  -- the write on a word of a service
  abbrev is_write_at : ℕ → ℕ → ℕ → Bool
  is_write_at w t x = is_write (access_at all x).kind && (((access_at all x).word == w) && ((access_at all x).served == t))

  abbrev write_of : ℕ → ℕ → Option ℕ
  write_of w t = find (is_write_at w t) (range_with_len 0 (length all))

  abbrev writes_on : ℕ → List ℕ
  writes_on w = filter_map (write_of w) (range_with_len 0 (top all))

  abbrev writes : List ℕ
  writes = flat_map writes_on (range_with_len 0 words)

  abbrev IsWriteOn : ℕ → ℕ → Type 0
  IsWriteOn w x = (x < length all) × (is_write (access_at all x).kind ≡ true) × ((access_at all x).word ≡ w)

  abbrev IsBefore : ℕ → ℕ → Type 0
  IsBefore x y = ComesBefore (access_at all x) (access_at all y)

  write_parts : (w t x : ℕ) → is_write_at w t x ≡ true
      → (is_write (access_at all x).kind ≡ true) × ((access_at all x).word ≡ w) × ((access_at all x).served ≡ t)
  write_parts w t x h =
      let a = and_parts (is_write (access_at all x).kind) (((access_at all x).word == w) && ((access_at all x).served == t)) h in
      let b = and_parts ((access_at all x).word == w) ((access_at all x).served == t) a.1 in
      (a.0, eqb-true (access_at all x).word w b.0, eqb-true (access_at all x).served t b.1)

  write_from : (w t x : ℕ) → is_write (access_at all x).kind ≡ true → (access_at all x).word ≡ w → (access_at all x).served ≡ t → is_write_at w t x ≡ true
  write_from w t x write word time =
      and_from (is_write (access_at all x).kind) (((access_at all x).word == w) && ((access_at all x).served == t)) write
      (and_from ((access_at all x).word == w) ((access_at all x).served == t) (eq-eqb (access_at all x).word w word) (eq-eqb (access_at all x).served t time))

  number_low : (k x : ℕ) → slice_get (range_with_len 0 (length all)) k ≡ Some x → x < length all
  number_low k x h = each_at (λ y. y < length all) (range_with_len 0 (length all)) k x h
      (each_numbers (λ y. y < length all) (length all) 0 (λ p from less. omega (arith, less)))

  of_write : (w t x : ℕ) → write_of w t ≡ Some x → IsWriteOn w x × ((access_at all x).served ≡ t)
  of_write w t x h =
      let it = (found (is_write_at w t) (range_with_len 0 (length all))).some x h in
      let parts = write_parts w t x it.0 in
      ((number_low it.1.0 x it.1.1, parts.0, parts.1), parts.2)

  to_write : (x : ℕ) → x < length all → is_write (access_at all x).kind ≡ true → write_of (access_at all x).word (access_at all x).served ≡ Some x
  to_write x low write = cases (write_of w t) refl
    where
      w : ℕ
      w = (access_at all x).word

      t : ℕ
      t = (access_at all x).served

      cases : (o : Option ℕ) → write_of (access_at all x).word (access_at all x).served ≡ o → write_of (access_at all x).word
          (access_at all x).served ≡ Some x
      cases None is =
          let at = place_of (range_with_len 0 (length all)) x (has_numbers (length all) 0 x (omega arith) (omega (arith, low))) in
          absurd (both_ways (is_write_at (access_at all x).word (access_at all x).served x)
          ((found (is_write_at (access_at all x).word (access_at all x).served) (range_with_len 0 (length all))).none at.0 x is at.1)
          (write_from (access_at all x).word (access_at all x).served x write refl refl))
      cases (Some y) is =
          let it = of_write (access_at all x).word (access_at all x).served y is in
          let same = s.apart y x it.0.0 low (write_uses (access_at all y).kind it.0.1) (write_uses (access_at all x).kind write) it.0.2 it.1 in
          is ∙ ap Some same

  writes_facts : (w : ℕ) → Each (IsWriteOn w) (writes_on w)
  writes_facts w = each_filter (IsWriteOn w) (λ t. Unit {0}) (write_of w) (range_with_len 0 (top all)) (λ t x u h. (of_write w t x h).0)
      (each_numbers (λ t. Unit {0}) (top all) 0 (λ p from less. tt))

  writes_rise : Rising IsBefore writes
  writes_rise = rising_pieces IsBefore IsWriteOn writes_on words 0 (λ w from less. writes_facts w)
      (λ w from less. rising_filter IsBefore (λ t u. t < u) (write_of w) (range_with_len 0 (top all))
      (λ t u x y before here there. (let a = of_write w t x here in let b = of_write w u y there in
      let ta = a.1 in let tb = b.1 in inr (a.0.2 ∙ sym b.0.2, omega (arith, before, ta, tb))))
      (rising_numbers (λ t u. t < u) (top all) 0 (λ p q less. less)))
      (λ w v x y less here there. (let a = here.2 in let b = there.2 in inl (omega (arith, less, a, b))))

  writes_are : Each (λ x. (x < length all) × (is_write (access_at all x).kind ≡ true)) writes
  writes_are = each_pieces (λ x. (x < length all) × (is_write (access_at all x).kind ≡ true)) writes_on words 0
      (λ w from less. each_weaker (IsWriteOn w) (λ x. (x < length all) × (is_write (access_at all x).kind ≡ true)) (writes_on w) (λ x h. (h.0, h.1))
      (writes_facts w))

  -- each write has a place
  place_of_write : (x : ℕ) → x < length all → is_write (access_at all x).kind ≡ true → (q : ℕ) × (q < length writes) × (slice_index writes q ≡ x)
  place_of_write x low write =
      let word = s.word x low in
      let time = below_top all x low in
      let at = place_of writes x (has_piece writes_on words 0 (access_at all x).word x (omega arith) (omega (arith, word))
      (has_filter (write_of (access_at all x).word) (range_with_len 0 (top all)) (access_at all x).served x
      (has_numbers (top all) 0 (access_at all x).served (omega arith) (omega (arith, time))) (to_write x low write))) in
      (at.0, slice_get_within writes at.0 x at.1, index_of_get writes 0 at.0 x at.1)

  -- what stands at the place of an access: itself if it is a write, and of a load a write before it
  abbrev passes : ℕ → ℕ → Bool
  passes x q = cond (is_load (access_at all x).kind)
      (((access_at all (slice_index writes q)).word == (access_at all x).word) && nat_lt (access_at all (slice_index writes q)).served
      (access_at all x).served)
      (slice_index writes q == x)

  abbrev operation_of : ℕ → Operation
  operation_of x = record {
    processor = (access_at all x).processor;
    kind = (access_at all x).kind;
    word = (access_at all x).word;
    place = last_passing (passes x) (length writes);
  }

  abbrev ops : List Operation
  ops = map operation_of (range_with_len 0 (length all))

  op_at : (x : ℕ) → x < length all → operation_at ops x ≡ operation_of x
  op_at x low = index_of_get ops (record { processor = 0; kind = Load; word = 0; place = 0 }) x (operation_of x)
      (get_map_range operation_of (length all) 0 x x low (omega arith))

  write_place : (x : ℕ) → x < length all → is_write (access_at all x).kind ≡ true → ((operation_at ops x).place < length writes) ×
      (source_at ops writes x ≡ x)
  write_place x low write =
      let at = place_of_write x low write in
      let other = no_load (access_at all x).kind write in
      let test : (q : ℕ) → passes x q ≡ (slice_index writes q == x) = λ q. cond-false (is_load (access_at all x).kind)
      (((access_at all (slice_index writes q)).word == (access_at all x).word) && nat_lt (access_at all (slice_index writes q)).served
      (access_at all x).served)
      (slice_index writes q == x) other in
      let it = last_is (passes x) (length writes) at.0 at.1 (test at.0 ∙ eq-eqb (slice_index writes at.0) x at.2) in
      let is : (operation_at ops x).place ≡ last_passing (passes x) (length writes) = ap (λ (o : Operation). o.place) (op_at x low) in (
        subst (λ k. k < length writes) (sym is) it.low,
        ap (slice_index writes) is ∙ eqb-true (slice_index writes (last_passing (passes x) (length writes))) x
            (sym (test (last_passing (passes x) (length writes))) ∙ it.passes),
      )

  -- a load's test, and a write that passes
  load_test : (x q : ℕ) → is_load (access_at all x).kind ≡ true → passes x q
      ≡ (((access_at all (slice_index writes q)).word == (access_at all x).word) && nat_lt (access_at all (slice_index writes q)).served
      (access_at all x).served)
  load_test x q load = cond-true (is_load (access_at all x).kind)
      (((access_at all (slice_index writes q)).word == (access_at all x).word) && nat_lt (access_at all (slice_index writes q)).served
      (access_at all x).served)
      (slice_index writes q == x) load

  before_passes : (x w q : ℕ) → is_load (access_at all x).kind ≡ true → slice_index writes q ≡ w → (access_at all w).word ≡ (access_at all x).word
      → (access_at all w).served < (access_at all x).served → passes x q ≡ true
  before_passes x w q load at word less =
      let same : (access_at all (slice_index writes q)).word ≡ (access_at all x).word = ap (λ z. (access_at all z).word) at ∙ word in
      let time : (access_at all (slice_index writes q)).served ≡ (access_at all w).served = ap (λ z. (access_at all z).served) at in
      load_test x q load
      ∙ and_from ((access_at all (slice_index writes q)).word == (access_at all x).word)
      (nat_lt (access_at all (slice_index writes q)).served (access_at all x).served)
      (eq-eqb (access_at all (slice_index writes q)).word (access_at all x).word same)
      (lt-ltb (access_at all (slice_index writes q)).served (access_at all x).served (omega (arith, time, less)))

  load_place : (x : ℕ) → x < length all → is_load (access_at all x).kind ≡ true → IsLastPassing (passes x) (length writes) (operation_at ops x).place
  load_place x low load =
      let first = s.opened (access_at all x).word (s.word x low) in
      let at = place_of_write first.0 first.1 first.2 in
      let time = first.4 in
      let later = s.loads x low load in
      subst (IsLastPassing (passes x) (length writes)) (sym (ap (λ (o : Operation). o.place) (op_at x low)))
      (last_is (passes x) (length writes) at.0 at.1 (before_passes x first.0 at.0 load at.2 first.3 (omega (arith, time, later))))

  write_at : (q : ℕ) → q < length writes → (slice_index writes q < length all) × (is_write (access_at all (slice_index writes q)).kind ≡ true)
  write_at q low = each_at (λ x. (x < length all) × (is_write (access_at all x).kind ≡ true)) writes q (slice_index writes q)
      (get_within writes 0 q low) writes_are

  ordered_at : (q r : ℕ) → q < r → r < length writes → IsBefore (slice_index writes q) (slice_index writes r)
  ordered_at q r less low = rising_at IsBefore writes q r (slice_index writes q) (slice_index writes r) less (get_within writes 0 q (omega
      (arith, less, low)))
      (get_within writes 0 r low) writes_rise

  source_of : (x : ℕ) → x < length all → is_load (access_at all x).kind ≡ true → IsWriteBefore (access_at all (source_at ops writes x)) (access_at all x)
  source_of x low load =
      let it = load_place x low load in
      let src : ℕ = slice_index writes (operation_at ops x).place in
      let parts = and_parts ((access_at all src).word == (access_at all x).word) (nat_lt (access_at all src).served (access_at all x).served)
      (sym (load_test x (operation_at ops x).place load) ∙ it.passes) in
      record {
        write = (write_at (operation_at ops x).place it.low).1;
        word = eqb-true (access_at all src).word (access_at all x).word parts.0;
        before = ltb-true (access_at all src).served (access_at all x).served parts.1;
      }

  last_of : (x w : ℕ) → x < length all → w < length all → is_load (access_at all x).kind ≡ true → IsWriteBefore (access_at all w) (access_at all x)
      → (access_at all w).served ≤ (access_at all (source_at ops writes x)).served
  last_of x w low high load b =
      let it = load_place x low load in
      let at = place_of_write w high b.write in
      let src : ℕ = slice_index writes (operation_at ops x).place in
      let most = it.last at.0 at.1 (before_passes x w at.0 load at.2 b.word b.before) in
      elim (cases_eq at.0 (operation_at ops x).place) [
        | inl same ↦ (let e : w ≡ src = sym at.2 ∙ ap (slice_index writes) same in
            let t : (access_at all w).served ≡ (access_at all src).served = ap (λ z. (access_at all z).served) e in omega (arith, t))
        | inr other ↦ (let order = subst (λ z. IsBefore z src) at.2 (ordered_at at.0 (operation_at ops x).place (omega (arith, most, other)) it.low) in
            elim order [
              | inl less ↦ (let u = b.word in let v = (source_of x low load).word in absurd (omega (arith, less, u, v)))
              | inr less ↦ (let t = less.1 in omega (arith, t))
            ])
      ]

  pub built : (o : List Operation) × (v : List ℕ) × IsTraceOf all o v
  built = (
    ops,
    writes,
    record {
      count = length_map operation_of (range_with_len 0 (length all)) ∙ length_range (length all) 0;
      each = λ x low. record {
        processor = ap (λ (o : Operation). o.processor) (op_at x low);
        kind = ap (λ (o : Operation). o.kind) (op_at x low);
        word = ap (λ (o : Operation). o.word) (op_at x low);
      };
      low = λ q less. (write_at q less).0;
      writes_are = λ q less. (write_at q less).1;
      ordered = ordered_at;
      written = write_place;
      place = λ x low load. (load_place x low load).low;
      source = source_of;
      last = last_of;
    },
  )

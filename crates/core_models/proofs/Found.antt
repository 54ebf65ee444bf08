-- The write that each operation of a trace finds is the last one before it, by services and by turns.
use Rattle.std.proofs.Common.{◌≡◌, ◌⊎◌, inl, inr, ℕ, ◌-◌, ◌<◌, ◌≤◌, true, false, cond, List, length, sym, ◌∙◌, ap, subst, arith}
use Rattle.std.specs.Prelude.{slice_index}
use Rattle.std.proofs.lemmas.Bool.{cases_eq, cases_order, cases_Bool, cond-true, cond-false}
use Rattle.memory_models.specs.declared.kinds.Kind.{Kind}
use Rattle.memory_models.specs.declared.kinds.Operation.{Operation}
use Rattle.memory_models.specs.Trace.{is_load, is_write, uses_word, operation_at, source_at}
use Rattle.core_models.specs.Accesses.{Access}
use Rattle.core_models.specs.Traces.{access_at, ComesBefore, IsTraceOf, IsWriteBefore, found_at, IsLastWriteBefore, IsLastWriteInTurn}
use Rattle.core_models.proofs.Turns.{turn_of, key_of_use, later_key}
use Rattle.core_models.proofs.Services.{load_or_write, write_uses, load_is_no_write, AreServed, before_served, before_word}

module _ (words : ℕ) (all : List Access) (ops : List Operation) (writes : List ℕ) (s : AreServed words all) (t : IsTraceOf all ops writes) where
  abbrev at : ℕ → Access
  at x = access_at all x

  abbrev place : ℕ → ℕ
  place x = (operation_at ops x).place

  abbrev behind : ℕ → Access
  behind p = access_at all (slice_index writes p)

  -- the write of a write's place is that write
  own_place : (x : ℕ) → x < length all → is_write (at x).kind ≡ true → behind (place x) ≡ at x
  own_place x low write = ap (access_at all) (t.written x low write).1

  -- of two writes on one word that which is served first has the lower place
  lower : (v x : ℕ) → v < length all → x < length all → is_write (at v).kind ≡ true → is_write (at x).kind ≡ true
      → (at v).word ≡ (at x).word → (at v).served < (at x).served → place v < place x
  lower v x low high a b same less =
      let e : behind (place v) ≡ at v = own_place v low a in
      let f : behind (place x) ≡ at x = own_place x high b in
      let u : (behind (place v)).served ≡ (at v).served = ap (λ (z : Access). z.served) e in
      let w : (behind (place x)).served ≡ (at x).served = ap (λ (z : Access). z.served) f in
      elim (cases_order (place v) (place x)) [
        | inl equal ↦ (let g : (behind (place v)).served ≡ (behind (place x)).served = ap (λ p. (behind p).served) equal in
            absurd (omega (arith, g, u, w, less)))
        | inr (inl before) ↦ before
        | inr (inr after) ↦ (let words_same : (behind (place x)).word ≡ (behind (place v)).word =
            ap (λ (z : Access). z.word) f ∙ (sym same ∙ sym (ap (λ (z : Access). z.word) e)) in
            let back : (behind (place x)).served < (behind (place v)).served =
            before_served (behind (place x)) (behind (place v)) words_same (t.ordered (place x) (place v) after (t.written v low a).0) in
            absurd (omega (arith, back, u, w, less)))
      ]

  module _ (x : ℕ) (low : x < length all) (write : is_write (at x).kind ≡ true) (late : 0 < (at x).served) where
    abbrev p : ℕ
    p = place x - 1

    -- the opening store of its word stands before it
    opening : (o : ℕ) × (o < length all) × (is_write (at o).kind ≡ true) × ((at o).word ≡ (at x).word) × ((at o).served ≡ 0)
    opening = s.opened (at x).word (s.word x low)

    opens : place opening.0 < place x
    opens = let zero_served = opening.4 in lower opening.0 x opening.1 low opening.2 write opening.3 (omega (arith, zero_served, late))

    p_low : p < length writes
    p_low = let inside = (t.written x low write).0 in let first = opens in omega (arith, inside, first)

    p_before : ComesBefore (behind p) (at x)
    p_before =
        let first = opens in
        subst (λ z. ComesBefore (behind p) z) (own_place x low write) (t.ordered p (place x) (omega (arith, first)) (t.written x low write).0)

    -- a write on the word that is served before has a place up to there
    upto : (v : ℕ) → v < length all → is_write (at v).kind ≡ true → (at v).word ≡ (at x).word → (at v).served < (at x).served
        → (at v ≡ behind p) ⊎ ComesBefore (at v) (behind p)
    upto v inside a same less =
        let up = lower v x inside low a write same less in
        elim (cases_eq (place v) p) [
          | inl equal ↦ inl (sym (own_place v inside a) ∙ ap behind equal)
          | inr other ↦ inr (subst (λ z. ComesBefore z (behind p)) (own_place v inside a) (t.ordered (place v) p (omega (arith, up, other)) p_low))
        ]

    p_word : (behind p).word ≡ (at x).word
    p_word =
        let after = before_word (behind p) (at x) p_before in
        let o = opening in
        let same = o.3 in let none = o.4 in
        let from : (at o.0).word ≤ (behind p).word = elim (upto o.0 o.1 o.2 o.3 (omega (arith, none, late))) [
          | inl equal ↦ (let e : (at o.0).word ≡ (behind p).word = ap (λ (z : Access). z.word) equal in omega (arith, e))
          | inr before ↦ before_word (at o.0) (behind p) before
        ] in
        omega (arith, after, from, same)

    write_found : IsLastWriteBefore all (slice_index writes p) x
    write_found = record {
      low = t.low p p_low;
      before = record { write = t.writes_are p p_low; word = p_word; before = before_served (behind p) (at x) p_word p_before };
      last = λ v inside b. elim (upto v inside b.write b.word b.before) [
        | inl equal ↦ (let e : (at v).served ≡ (behind p).served = ap (λ (z : Access). z.served) equal in omega (arith, e))
        | inr before ↦ (let less = before_served (at v) (behind p) (b.word ∙ sym p_word) before in omega (arith, less))
      ];
    }

  load_found : (x : ℕ) → x < length all → is_load (at x).kind ≡ true → IsLastWriteBefore all (source_at ops writes x) x
  load_found x low load = record {
    low = t.low (place x) (t.place x low load);
    before = t.source x low load;
    last = λ v inside b. t.last x v low inside load b;
  }

  pub is_found : (x : ℕ) → x < length all → uses_word (at x).kind ≡ true → 0 < (at x).served → IsLastWriteBefore all (found_at ops writes x) x
  is_found x low used late =
      let same : (operation_at ops x).kind ≡ (at x).kind = (t.each x low).kind in
      elim (load_or_write (at x).kind used) [
        | inl load ↦ subst (λ w. IsLastWriteBefore all w x)
            (sym (cond-true (is_load (operation_at ops x).kind) (source_at ops writes x) (slice_index writes (place x - 1)) (ap is_load same ∙ load)))
            (load_found x low load)
        | inr write ↦ subst (λ w. IsLastWriteBefore all w x)
            (sym (cond-false (is_load (operation_at ops x).kind) (source_at ops writes x) (slice_index writes (place x - 1)) (elim (cases_Bool (is_load
            (operation_at ops x).kind)) [
              | inl bad ↦ absurd (load_is_no_write (at x).kind (sym (ap is_load same) ∙ bad) write)
              | inr other ↦ other
            ])))
            (write_found x low write late)
      ]

  served_first : (v x : ℕ) → v < length all → uses_word (at v).kind ≡ true → uses_word (at x).kind ≡ true → (at v).served < (at x).served
      → turn_of all v < turn_of all x
  served_first v x low a b less = let k = key_of_use all v a in let m = key_of_use all x b in later_key all v x low (omega (arith, k, m, less))

  -- and so it is by turns
  pub in_turn : (w x : ℕ) → x < length all → uses_word (at x).kind ≡ true → IsLastWriteBefore all w x → IsLastWriteInTurn all (turn_of all) w x
  in_turn w x low used found = record {
    low = found.low;
    write = found.before.write;
    word = found.before.word;
    before = served_first w x found.low (write_uses (at w).kind found.before.write) used found.before.before;
    last = λ v inside write word turn. (let uses = write_uses (at v).kind write in
        let first : (at v).served < (at x).served = elim (cases_order (at v).served (at x).served) [
          | inl equal ↦ (let one : v ≡ x = s.apart v x inside low uses used word equal in
              let e : turn_of all v ≡ turn_of all x = ap (turn_of all) one in absurd (omega (arith, e, turn)))
          | inr (inl less) ↦ less
          | inr (inr more) ↦ (let back = served_first x v low used uses more in absurd (omega (arith, back, turn)))
        ] in
        let upto = found.last v inside (record { write = write; word = word; before = first }) in
        let writes_too = write_uses (at w).kind found.before.write in
        elim (cases_eq (at v).served (at w).served) [
          | inl equal ↦ (let one : v ≡ w = s.apart v w inside found.low uses writes_too (word ∙ sym found.before.word) equal in
              let e : turn_of all v ≡ turn_of all w = ap (turn_of all) one in omega (arith, e))
          | inr other ↦ (let less = served_first v w inside uses writes_too (omega (arith, upto, other)) in omega (arith, less))
        ]);
  }

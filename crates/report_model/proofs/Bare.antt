-- What fences of a trace change: an order with them is one without them, and where all program order is kept, the other way round.
use Rattle.std.proofs.Common.{◌≡◌, ◌⊎◌, inl, inr, ℕ, zero, suc, ◌+◌, ◌*◌, ◌<◌, ◌≤◌, ◌==◌, ◌&&◌, nat_le, Bool, true, List, length}
use Rattle.std.proofs.Common.{refl, sym, ◌∙◌, ap, subst, arith, slice_index, eq-eqb, eqb-true, mul-le-mul_right}
use Rattle.std.proofs.lemmas.Bool.{cases_order, and_parts, and_from, le-leb, leb-true}
use Rattle.memory_models.specs.declared.kinds.Kind.{Kind}
use Rattle.memory_models.specs.declared.kinds.Kind.TheVariants.{Fence}
use Rattle.memory_models.specs.declared.kinds.Operation.{Operation}
use Rattle.memory_models.specs.declared.kinds.Rule.{Rule}
use Rattle.memory_models.specs.Trace.{has, is_load, is_write, uses_word, operation_at, source_at, rule_at, writes_rule, rule_key}
use Rattle.memory_models.specs.Trace.{IsOwn, AreOnOne, IsMemoryTrace}
use Rattle.memory_models.specs.Order.{Applies, KeepsOrder, IsMemoryOrder}
use Rattle.memory_models.specs.Models.{sequential, coherent}
use Rattle.report_model.specs.Bare.{IsWithoutFences}
use Rattle.report_model.proofs.Latest.{top, top_at, top_below, product_less, is_any, write_is_no_fence, load_is_no_fence}
use Rattle.report_model.proofs.Latest.{word_is_no_fence, written_is_no_fence, own_of, all_kept}

module _ (words : ℕ) (bare : List Operation) (bare_writes : List ℕ) (ops : List Operation) (writes : List ℕ)
    (t : IsMemoryTrace words bare bare_writes) (w : IsWithoutFences bare bare_writes ops writes) where
  abbrev at : ℕ → ℕ
  at = w.place

  same_place : (x y : ℕ) → x < length bare → y < length bare → at x ≡ at y → x ≡ y
  same_place x y low high same = elim (cases_order x y) [
    | inl equal ↦ equal
    | inr (inl less) ↦ (let r = w.rising x y less high in absurd (omega (arith, r, same)))
    | inr (inr more) ↦ (let r = w.rising y x more low in absurd (omega (arith, r, same)))
  ]

  first_place : (x y : ℕ) → x < length bare → y < length bare → at x < at y → x < y
  first_place x y low high less = elim (cases_order x y) [
    | inl equal ↦ (let e : at x ≡ at y = ap at equal in absurd (omega (arith, e, less)))
    | inr (inl before) ↦ before
    | inr (inr more) ↦ (let r = w.rising y x more low in absurd (omega (arith, r, less)))
  ]

  own_with : (x y : ℕ) → y < length bare → IsOwn bare x y → IsOwn ops (at x) (at y)
  own_with x y high own =
      let before = own.before in
      let low : x < length bare = omega (arith, before, high) in record {
        processor = ap (λ (o : Operation). o.processor) (w.same x low) ∙ (own.processor ∙ sym (ap (λ (o : Operation). o.processor) (w.same y high)));
        before = w.rising x y own.before high;
      }

  own_without : (x y : ℕ) → x < length bare → y < length bare → IsOwn ops (at x) (at y) → IsOwn bare x y
  own_without x y low high own = record {
    processor = sym (ap (λ (o : Operation). o.processor) (w.same x low)) ∙ (own.processor ∙ ap (λ (o : Operation). o.processor) (w.same y high));
    before = first_place x y low high own.before;
  }

  one_with : (x y : ℕ) → x < length bare → y < length bare → AreOnOne bare x y → AreOnOne ops (at x) (at y)
  one_with x y low high one = record {
    first = ap (λ (o : Operation). uses_word o.kind) (w.same x low) ∙ one.first;
    second = ap (λ (o : Operation). uses_word o.kind) (w.same y high) ∙ one.second;
    word = ap (λ (o : Operation). o.word) (w.same x low) ∙ (one.word ∙ sym (ap (λ (o : Operation). o.word) (w.same y high)));
  }

  one_without : (x y : ℕ) → x < length bare → y < length bare → AreOnOne ops (at x) (at y) → AreOnOne bare x y
  one_without x y low high one = record {
    first = sym (ap (λ (o : Operation). uses_word o.kind) (w.same x low)) ∙ one.first;
    second = sym (ap (λ (o : Operation). uses_word o.kind) (w.same y high)) ∙ one.second;
    word = sym (ap (λ (o : Operation). o.word) (w.same x low)) ∙ (one.word ∙ ap (λ (o : Operation). o.word) (w.same y high));
  }

  write_with : (x : ℕ) → x < length bare → is_write (operation_at bare x).kind ≡ true → is_write (operation_at ops (at x)).kind ≡ true
  write_with x low h = ap (λ (o : Operation). is_write o.kind) (w.same x low) ∙ h

  load_with : (x : ℕ) → x < length bare → is_load (operation_at bare x).kind ≡ true → is_load (operation_at ops (at x)).kind ≡ true
  load_with x low h = ap (λ (o : Operation). is_load o.kind) (w.same x low) ∙ h

  place_with : (x : ℕ) → x < length bare → (operation_at ops (at x)).place ≡ (operation_at bare x).place
  place_with x low = ap (λ (o : Operation). o.place) (w.same x low)

  source_with : (x : ℕ) → x < length bare → source_at ops writes (at x) ≡ at (source_at bare bare_writes x)
  source_with x low = ap (slice_index writes) (place_with x low) ∙ w.written (operation_at bare x).place (t.place x low (w.no_fence x low))

  source_low : (x : ℕ) → x < length bare → source_at bare bare_writes x < length bare
  source_low x low = t.low (operation_at bare x).place (t.place x low (w.no_fence x low))

  applies_with : (rule : Rule) (x y : ℕ) → y < length bare → Applies rule bare x y → Applies rule ops (at x) (at y)
  applies_with rule x y high a =
      let before = a.own.before in
      let low : x < length bare = omega (arith, before, high) in record {
        own = own_with x y high a.own;
        from = ap (λ (o : Operation). has rule.from o.kind) (w.same x low) ∙ a.from;
        to = ap (λ (o : Operation). has rule.to o.kind) (w.same y high) ∙ a.to;
        key = ap (rule_key rule) (w.same x low) ∙ (a.key ∙ sym (ap (rule_key rule) (w.same y high)));
      }

  kept_with : (rules : List Rule) (x y : ℕ) → y < length bare → KeepsOrder rules bare x y → KeepsOrder rules ops (at x) (at y)
  kept_with rules x y high (inl (k, low, a)) = inl (k, low, applies_with (rule_at rules k) x y high a)
  kept_with rules x y high (inr a) = inr (applies_with writes_rule x y high a)

  -- an order of the trace with its fences is one of the trace without them
  pub without : (rules : List Rule) (turn : ℕ → ℕ) → IsMemoryOrder rules ops writes turn → IsMemoryOrder rules bare bare_writes (λ x. turn (at x))
  without rules turn o = record {
    apart = λ x y low high same. same_place x y low high (o.apart (at x) (at y) (w.within x low) (w.within y high) same);
    program = λ x y high kept. o.program (at x) (at y) (w.within y high) (kept_with rules x y high kept);
    word_order = λ x y low high a b one less. (let p = place_with x low in let q = place_with y high in
        o.word_order (at x) (at y) (w.within x low) (w.within y high) (write_with x low a) (write_with y high b) (one_with x y low high one)
        (omega (arith, p, q, less)));
    source = λ x low load. (let s : ℕ = source_at bare bare_writes x in
        let e = source_with x low in
        elim (o.source (at x) (w.within x low) (load_with x low load)) [
          | inl less ↦ inl (subst (λ z. turn z < turn (at x)) e less)
          | inr own ↦ inr (own_without s x (source_low x low) low (subst (λ z. IsOwn ops z (at x)) e own))
        ]);
    newest = λ x y low high load write one less. (let p = place_with x low in let q = place_with y high in
        let it = o.newest (at x) (at y) (w.within x low) (w.within y high) (load_with x low load) (write_with y high write) (one_with x y low high one)
        (omega (arith, p, q, less)) in
        (it.0, λ (own : IsOwn bare y x). it.1 (own_with y x low own)));
  }

  module _ (turn key : ℕ → ℕ) (is_key : (x : ℕ) → x < length bare → key (at x) ≡ turn x + 1) where
    abbrev size : ℕ
    size = length ops

    abbrev later : ℕ → ℕ
    later y = key y * size + y

    by_key : (y z : ℕ) → y < size → key y < key z → later y < later z
    by_key y z low less = let more = product_less size (key y) (key z) less in omega (arith, more, low)

    by_place : (y z : ℕ) → y < z → key y ≤ key z → later y < later z
    by_place y z less keys =
        let more : key y * size ≤ key z * size = mul-le-mul_right size keys in omega (arith, more, less)

    by_turn : (x y : ℕ) → x < length bare → y < length bare → turn x < turn y → later (at x) < later (at y)
    by_turn x y low high less =
        let a = is_key x low in let b = is_key y high in
        by_key (at x) (at y) (w.within x low) (omega (arith, a, b, less))

    later_apart : (y z : ℕ) → y < size → z < size → later y ≡ later z → y ≡ z
    later_apart y z low high same = elim (cases_order (key y) (key z)) [
      | inl equal ↦ (let products : key y * size ≡ key z * size = ap (λ k. k * size) equal in omega (arith, products, same))
      | inr (inl less) ↦ (let bad = by_key y z low less in absurd (omega (arith, bad, same)))
      | inr (inr more) ↦ (let bad = by_key z y high more in absurd (omega (arith, bad, same)))
    ]

    -- what is no fence stands in the trace without them
    bare_of : (y : ℕ) → y < size → ((operation_at ops y).kind ≡ Fence → ⊥) → (x : ℕ) × (x < length bare) × (at x ≡ y)
    bare_of y low none = elim (w.all y low) [
      | inl here ↦ here
      | inr fence ↦ absurd (none fence)
    ]

    from_words : (x y : ℕ) → x < length bare → y < length bare → is_write (operation_at ops (at x)).kind ≡ true → is_write (operation_at ops (at y)).kind ≡ true
        → AreOnOne ops (at x) (at y) → (operation_at ops (at x)).place < (operation_at ops (at y)).place
        → ((x y : ℕ) → x < length bare → y < length bare → is_write (operation_at bare x).kind ≡ true → is_write (operation_at bare y).kind ≡ true
        → AreOnOne bare x y → (operation_at bare x).place < (operation_at bare y).place → turn x < turn y) → later (at x) < later (at y)
    from_words x y low high a b one less order =
        let p = place_with x low in let q = place_with y high in
        by_turn x y low high (order x y low high (sym (ap (λ (o : Operation). is_write o.kind) (w.same x low)) ∙ a)
        (sym (ap (λ (o : Operation). is_write o.kind) (w.same y high)) ∙ b) (one_without x y low high one) (omega (arith, p, q, less)))

    newest_with : (rules : List Rule) → IsMemoryOrder rules bare bare_writes turn → (x y : ℕ) → x < length bare → y < length bare
        → is_load (operation_at ops (at x)).kind ≡ true → is_write (operation_at ops (at y)).kind ≡ true → AreOnOne ops (at x) (at y)
        → (operation_at ops (at x)).place < (operation_at ops (at y)).place → (later (at x) < later (at y)) × (IsOwn ops (at y) (at x) → ⊥)
    newest_with rules o x y low high load write one less =
        let p = place_with x low in let q = place_with y high in
        let it = o.newest x y low high (sym (ap (λ (o : Operation). is_load o.kind) (w.same x low)) ∙ load)
        (sym (ap (λ (o : Operation). is_write o.kind) (w.same y high)) ∙ write) (one_without x y low high one) (omega (arith, p, q, less)) in
        (by_turn x y low high it.0, λ (own : IsOwn ops (at y) (at x)). it.1 (own_without y x high low own))

    source_later : (rules : List Rule) → IsMemoryOrder rules bare bare_writes turn → (x : ℕ) → x < length bare
        → is_load (operation_at ops (at x)).kind ≡ true
        → (later (source_at ops writes (at x)) < later (at x)) ⊎ IsOwn ops (source_at ops writes (at x)) (at x)
    source_later rules o x low load =
        let s : ℕ = source_at bare bare_writes x in
        let e = source_with x low in
        subst (λ z. (later z < later (at x)) ⊎ IsOwn ops z (at x)) (sym e)
        (elim (o.source x low (sym (ap (λ (o : Operation). is_load o.kind) (w.same x low)) ∙ load)) [
          | inl less ↦ inl (by_turn s x (source_low x low) low less)
          | inr own ↦ inr (own_with s x low own)
        ])

    -- an order of the trace without its fences is one with them, where these have turns in it that a model keeps
    order_with : (old rules : List Rule) → IsMemoryOrder old bare bare_writes turn
        → ((y z : ℕ) → z < size → KeepsOrder rules ops y z → later y < later z) → IsMemoryOrder rules ops writes later
    order_with old rules o kept = record {
      apart = later_apart;
      program = kept;
      word_order = λ y z low high a b one less. (
          let x = bare_of y low (write_is_no_fence (operation_at ops y).kind a) in
          let v = bare_of z high (write_is_no_fence (operation_at ops z).kind b) in
          subst (λ u. later u < later z) x.2 (subst (λ u. later (at x.0) < later u) v.2
          (from_words x.0 v.0 x.1 v.1 (ap (λ u. is_write (operation_at ops u).kind) x.2 ∙ a) (ap (λ u. is_write (operation_at ops u).kind) v.2 ∙ b)
          (subst (λ u. AreOnOne ops (at x.0) u) (sym v.2) (subst (λ u. AreOnOne ops u z) (sym x.2) one))
          (subst (λ u. (operation_at ops (at x.0)).place < (operation_at ops u).place) (sym v.2)
          (subst (λ u. (operation_at ops u).place < (operation_at ops z).place) (sym x.2) less)) o.word_order)));
      source = λ y low load. (
          let x = bare_of y low (load_is_no_fence (operation_at ops y).kind load) in
          subst (λ u. (later (source_at ops writes u) < later u) ⊎ IsOwn ops (source_at ops writes u) u) x.2
          (source_later old o x.0 x.1 (ap (λ u. is_load (operation_at ops u).kind) x.2 ∙ load)));
      newest = λ y z low high load write one less. (
          let x = bare_of y low (load_is_no_fence (operation_at ops y).kind load) in
          let v = bare_of z high (write_is_no_fence (operation_at ops z).kind write) in
          subst (λ u. (later u < later z) × (IsOwn ops z u → ⊥)) x.2 (subst (λ u. (later (at x.0) < later u) × (IsOwn ops u (at x.0) → ⊥)) v.2
          (newest_with old o x.0 v.0 x.1 v.1 (ap (λ u. is_load (operation_at ops u).kind) x.2 ∙ load)
          (ap (λ u. is_write (operation_at ops u).kind) v.2 ∙ write)
          (subst (λ u. AreOnOne ops (at x.0) u) (sym v.2) (subst (λ u. AreOnOne ops u z) (sym x.2) one))
          (subst (λ u. (operation_at ops (at x.0)).place < (operation_at ops u).place) (sym v.2)
          (subst (λ u. (operation_at ops u).place < (operation_at ops z).place) (sym x.2) less)))));
    }

  -- by all that a processor did up to there
  abbrev own_upto : ℕ → ℕ → Bool
  own_upto y x = nat_le (at x) y && ((operation_at bare x).processor == (operation_at ops y).processor)

  abbrev at_there : ℕ → ℕ → Bool
  at_there y x = at x == y

  abbrev key_by : (ℕ → ℕ → Bool) → (ℕ → ℕ) → ℕ → ℕ
  key_by test turn y = top (test y) (λ x. turn x + 1) (length bare)

  upto_parts : (y x : ℕ) → own_upto y x ≡ true → (at x ≤ y) × ((operation_at bare x).processor ≡ (operation_at ops y).processor)
  upto_parts y x h =
      let both = and_parts (nat_le (at x) y) ((operation_at bare x).processor == (operation_at ops y).processor) h in
      (leb-true (at x) y both.0, eqb-true (operation_at bare x).processor (operation_at ops y).processor both.1)

  upto_from : (y x : ℕ) → at x ≤ y → (operation_at bare x).processor ≡ (operation_at ops y).processor → own_upto y x ≡ true
  upto_from y x low same = and_from (nat_le (at x) y) ((operation_at bare x).processor == (operation_at ops y).processor) (le-leb (at x) y low)
      (eq-eqb (operation_at bare x).processor (operation_at ops y).processor same)

  -- where all program order is kept an operation's own turn is the greatest of its processor's up to there
  upto_key : (turn : ℕ → ℕ) → IsMemoryOrder sequential bare bare_writes turn → (x : ℕ) → x < length bare → key_by own_upto turn (at x) ≡ turn x + 1
  upto_key turn o x low =
      let up = top_at (own_upto (at x)) (λ z. turn z + 1) (length bare) x low
      (upto_from (at x) x (omega arith) (sym (ap (λ (o : Operation). o.processor) (w.same x low)))) in
      let down = top_below (own_upto (at x)) (λ z. turn z + 1) (length bare) (turn x + 1) (λ z inside h. (let parts = upto_parts (at x) z h in
      elim (cases_order z x) [
        | inl same ↦ (let e : turn z ≡ turn x = ap turn same in omega (arith, e))
        | inr (inl less) ↦ (let own : IsOwn bare z x = record {
          processor = parts.1 ∙ ap (λ (o : Operation). o.processor) (w.same x low);
          before = less;
        } in
            let turns = o.program z x low (all_kept bare z x own) in omega (arith, turns))
        | inr (inr more) ↦ (let r = w.rising x z more inside in let upto = parts.0 in absurd (omega (arith, r, upto)))
      ])) in
      omega (arith, up, down)

  upto_more : (turn : ℕ → ℕ) (y z : ℕ) → IsOwn ops y z → key_by own_upto turn y ≤ key_by own_upto turn z
  upto_more turn y z own =
      top_below (own_upto y) (λ v. turn v + 1) (length bare) (key_by own_upto turn z) (λ x low h. (let parts = upto_parts y x h in
      let upto = parts.0 in
      let before = own.before in
      top_at (own_upto z) (λ v. turn v + 1) (length bare) x low (upto_from z x (omega (arith, upto, before)) (parts.1 ∙ own.processor))))

  -- so it is an order with the fences, by the rules of any model
  pub sequential_with : (rules : List Rule) (turn : ℕ → ℕ) → IsMemoryOrder sequential bare bare_writes turn
      → (t : ℕ → ℕ) × IsMemoryOrder rules ops writes t
  sequential_with rules turn o = (
    later turn (key_by own_upto turn) (upto_key turn o),
    order_with turn (key_by own_upto turn) (upto_key turn o) sequential rules o (λ y z high kept. (let own = own_of rules ops y z kept in
        by_place turn (key_by own_upto turn) (upto_key turn o) y z own.before (upto_more turn y z own))),
  )

  there_key : (turn : ℕ → ℕ) (x : ℕ) → x < length bare → key_by at_there turn (at x) ≡ turn x + 1
  there_key turn x low =
      let up = top_at (at_there (at x)) (λ z. turn z + 1) (length bare) x low (eq-eqb (at x) (at x) refl) in
      let down = top_below (at_there (at x)) (λ z. turn z + 1) (length bare) (turn x + 1) (λ z inside h.
      (let same = same_place z x inside low (eqb-true (at z) (at x) h) in let e : turn z ≡ turn x = ap turn same in omega (arith, e))) in
      omega (arith, up, down)

  abbrev then : (ℕ → ℕ) → ℕ → ℕ
  then turn = later turn (key_by at_there turn) (there_key turn)

  -- a rule of two operations that are no fences
  applies_later : (rule : Rule) (turn : ℕ → ℕ) → ((k : Kind) → has rule.from k ≡ true → k ≡ Fence → ⊥) → ((k : Kind) → has rule.to k ≡ true → k ≡ Fence → ⊥)
      → ((x y : ℕ) → y < length bare → Applies rule bare x y → turn x < turn y)
      → (y z : ℕ) → z < length ops → Applies rule ops y z → then turn y < then turn z
  applies_later rule turn from to kept y z high a =
      let before = a.own.before in
      let x = bare_of turn (key_by at_there turn) (there_key turn) y (omega (arith, before, high)) (from (operation_at ops y).kind a.from) in
      let v = bare_of turn (key_by at_there turn) (there_key turn) z high (to (operation_at ops z).kind a.to) in
      let b : Applies rule ops (at x.0) (at v.0) = subst (λ u. Applies rule ops (at x.0) u) (sym v.2) (subst (λ u. Applies rule ops u z) (sym x.2) a) in
      subst (λ u. then turn u < then turn z) x.2 (subst (λ u. then turn (at x.0) < then turn u) v.2
      (by_turn turn (key_by at_there turn) (there_key turn) x.0 v.0 x.1 v.1 (kept x.0 v.0 v.1 (record {
        own = own_without x.0 v.0 x.1 v.1 b.own;
        from = sym (ap (λ (o : Operation). has rule.from o.kind) (w.same x.0 x.1)) ∙ b.from;
        to = sym (ap (λ (o : Operation). has rule.to o.kind) (w.same v.0 v.1)) ∙ b.to;
        key = sym (ap (rule_key rule) (w.same x.0 x.1)) ∙ (b.key ∙ ap (rule_key rule) (w.same v.0 v.1));
      }))))

  coherent_kept : (turn : ℕ → ℕ) → IsMemoryOrder coherent bare bare_writes turn → (y z : ℕ) → z < length ops → KeepsOrder coherent ops y z
      → then turn y < then turn z
  coherent_kept turn o y z high (inl (zero, low, a)) =
      applies_later (rule_at coherent 0) turn word_is_no_fence word_is_no_fence (λ x v inside b. o.program x v inside (inl (0, omega arith, b))) y z high a
  coherent_kept turn o y z high (inl (suc k, low, a)) = absurd (omega arith)
  coherent_kept turn o y z high (inr a) =
      applies_later writes_rule turn written_is_no_fence written_is_no_fence (λ x v inside b. o.program x v inside (inr b)) y z high a

  -- coherence looks at no fences
  pub coherent_with : (turn : ℕ → ℕ) → IsMemoryOrder coherent bare bare_writes turn → (t : ℕ → ℕ) × IsMemoryOrder coherent ops writes t
  coherent_with turn o = (then turn, order_with turn (key_by at_there turn) (there_key turn) coherent coherent o (coherent_kept turn o))

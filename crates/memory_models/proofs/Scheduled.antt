-- An order of a model is a run of its machine with buffers of stores.
use Rattle.std.proofs.Common.{◌≡◌, ◌⊎◌, inl, inr, ℕ, ◌+◌, ◌*◌, ◌<◌, ◌≤◌, true, List, length, refl, sym, ◌∙◌, ap, subst, arith}
use Rattle.std.specs.Prelude.{slice_index}
use Rattle.std.proofs.lemmas.Bool.{cases_lt, cases_eq}
use Rattle.memory_models.specs.declared.kinds.Kind.{Kind}
use Rattle.memory_models.specs.declared.kinds.Kind.TheVariants.{Load, Store, Atomic, Fence}
use Rattle.memory_models.specs.declared.kinds.Operation.{Operation}
use Rattle.memory_models.specs.Trace.{is_load, is_write, uses_word, operation_at, IsOwn, AreOnOne, IsMemoryTrace, source_at}
use Rattle.memory_models.specs.Order.{IsMemoryOrder}
use Rattle.memory_models.specs.declared.kinds.Rule.{Rule}
use Rattle.memory_models.specs.Machines.{effect_at, IsBuffered}
use Rattle.memory_models.proofs.Runs.{is_last, is_none, last_store, source_is, both_on}
use Rattle.memory_models.proofs.RunBy.{IsKept, IsRunBy}
use Rattle.memory_models.proofs.ByKind.{load_is, write_is}
use Rattle.memory_models.proofs.Orders.{load_uses}
use Rattle.memory_models.proofs.Blocks.{base, base_to, block, block_rise, block_same, block_size, early, effect_is, in_turn, left_at, made_at, made_is, not_front, rise_block, same_rest}

store_not_load : (k : Kind) → k ≡ Store → k ≡ Load → ⊥
store_not_load Load e f = cc
store_not_load Store e f = cc
store_not_load Atomic e f = cc
store_not_load Fence e f = cc

waiting_not_load : (k : Kind) → (k ≡ Atomic) ⊎ (k ≡ Fence) → k ≡ Load → ⊥
waiting_not_load k (inl e) f = let bad : Atomic ≡ Load = sym e ∙ f in cc
waiting_not_load k (inr e) f = let bad : Fence ≡ Load = sym e ∙ f in cc

waiting_not_store : (k : Kind) → (k ≡ Atomic) ⊎ (k ≡ Fence) → k ≡ Store → ⊥
waiting_not_store k (inl e) f = let bad : Atomic ≡ Store = sym e ∙ f in cc
waiting_not_store k (inr e) f = let bad : Fence ≡ Store = sym e ∙ f in cc

-- each order is a run
pub order_is_run_by : (rules : List Rule) (Keeps : ℕ → ℕ → Type 0) (words : ℕ) (ops : List Operation) (writes : List ℕ) (turn : ℕ → ℕ)
    → IsKept rules ops Keeps → IsMemoryTrace words ops writes → IsMemoryOrder rules ops writes turn
    → IsRunBy Keeps ops writes (made_at ops turn) (left_at ops turn)
order_is_run_by rules Keeps words ops writes turn keeps t o = record {
  made_apart = made_apart;
  left_apart = λ x y low high store other e. o.apart x y low high (block_same ops turn x y e);
  both_apart = both_apart;
  program = program;
  waits = λ x low store. (let b = base_low x low in
      elim (made_is ops turn (operation_at ops x).kind x) [
        | early is e ↦ (let up = block (length ops + 1) (base ops turn x) (turn x + 1) (x + 1) (omega arith) (omega arith) in omega (arith, up, e))
        | in_turn isnt e ↦ absurd (isnt store)
      ]);
  first_out = λ x y low own first second both. rise_block ops turn x y (o.program x y low (keeps.store x y own first
      (store_not_load (operation_at ops y).kind second) both));
  drained = λ x y low own first second both. (let up = rise_block ops turn x y (o.program x y low (keeps.store x y own first
      (waiting_not_load (operation_at ops y).kind second) both)) in
      let e = made_turn y (waiting_not_store (operation_at ops y).kind second) in omega (arith, up, e));
  word_order = λ x y low high first second one less. (let up = rise_block ops turn x y (o.word_order x y low high first second one less) in
      let a = effect_is ops turn x in let b = effect_is ops turn y in omega (arith, up, a, b));
  forwarded = forwarded;
  read = λ x low load none. (let up = rise_block ops turn (source_at ops writes x) x (read x low load none) in
      let a = effect_is ops turn (source_at ops writes x) in
      let e = made_load x load in omega (arith, up, a, e));
  last = last;
}
  where
    made_turn : (y : ℕ) → ((operation_at ops y).kind ≡ Store → ⊥) → made_at ops turn y ≡ block_size ops * (turn y + 1)
    made_turn y other = elim (made_is ops turn (operation_at ops y).kind y) [
      | early is e ↦ absurd (other is)
      | in_turn isnt e ↦ e
    ]

    load_not_store : (y : ℕ) → is_load (operation_at ops y).kind ≡ true → (operation_at ops y).kind ≡ Store → ⊥
    load_not_store y load e = let bad : Load ≡ Store = sym (load_is (operation_at ops y).kind load) ∙ e in cc

    made_load : (y : ℕ) → is_load (operation_at ops y).kind ≡ true → made_at ops turn y ≡ block_size ops * (turn y + 1)
    made_load y load = made_turn y (load_not_store y load)

    base_low : (x : ℕ) → x < length ops → base ops turn x < turn x + 1
    base_low x low = elim (base_to ops turn x x).1.from [
      | inl none ↦ omega arith
      | inr z ↦ (let kept = o.program z.0 x low (keeps.other z.0 x z.1.own z.1.other) in let e = z.2 in omega arith)
    ]

    made_apart : (x y : ℕ) → x < length ops → y < length ops → made_at ops turn x ≡ made_at ops turn y → x ≡ y
    made_apart x y low high e = elim (made_is ops turn (operation_at ops x).kind x) [
      | early a f ↦ elim (made_is ops turn (operation_at ops y).kind y) [
        | early b h ↦ (let r = same_rest (length ops + 1) (base ops turn x) (base ops turn y) (x + 1) (y + 1) (omega arith) (omega arith) (sym f ∙ (e ∙ h)) in omega (arith, r))
        | in_turn b h ↦ absurd (not_front (length ops + 1) (base ops turn x) (turn y + 1) (x + 1) (omega arith) (omega arith) (sym f ∙ (e ∙ h)))
      ]
      | in_turn a f ↦ elim (made_is ops turn (operation_at ops y).kind y) [
        | early b h ↦ absurd (not_front (length ops + 1) (base ops turn y) (turn x + 1) (y + 1) (omega arith) (omega arith) (sym h ∙ (sym e ∙ f)))
        | in_turn b h ↦ o.apart x y low high (block_same ops turn x y (sym f ∙ (e ∙ h)))
      ]
    ]

    both_apart : (x y : ℕ) → x < length ops → y < length ops → (operation_at ops y).kind ≡ Store → made_at ops turn x ≡ left_at ops turn y → ⊥
    both_apart x y low high store e = elim (made_is ops turn (operation_at ops x).kind x) [
      | early a f ↦ not_front (length ops + 1) (base ops turn x) (turn y + 1) (x + 1) (omega arith) (omega arith) (sym f ∙ e)
      | in_turn a f ↦ (let same : x ≡ y = o.apart x y low high (block_same ops turn x y (sym f ∙ e)) in
          a (ap (λ z. (operation_at ops z).kind) same ∙ store))
    ]

    base_up : (x y : ℕ) → IsOwn ops x y → base ops turn x ≤ base ops turn y
    base_up x y own = elim (base_to ops turn x x).1.from [
      | inl none ↦ omega arith
      | inr z ↦ (let first = z.1.own.before in
          let second = own.before in
          let over = (base_to ops turn y y).1.over z.0 (omega arith) (record { own = record { processor = z.1.own.processor ∙ own.processor; before = omega arith }; other = z.1.other }) in
          let e = z.2 in
          omega arith)
    ]

    base_turn : (x y : ℕ) → y < length ops → IsOwn ops x y → base ops turn x < turn y + 1
    base_turn x y low own = elim (base_to ops turn x x).1.from [
      | inl none ↦ omega arith
      | inr z ↦ (let first = z.1.own.before in
          let second = own.before in
          let kept = o.program z.0 y low (keeps.other z.0 y (record { processor = z.1.own.processor ∙ own.processor; before = omega arith }) z.1.other) in
          let e = z.2 in
          omega arith)
    ]

    program : (x y : ℕ) → y < length ops → IsOwn ops x y → made_at ops turn x < made_at ops turn y
    program x y low own =
        let before = own.before in
        let x_low : x < length ops = omega arith in
        elim (made_is ops turn (operation_at ops x).kind x) [
          | early a f ↦ elim (made_is ops turn (operation_at ops y).kind y) [
            | early b h ↦ (let over = base_up x y own in
                elim (cases_lt (base ops turn x) (base ops turn y)) [
                  | inl less ↦ (let up = block (length ops + 1) (base ops turn x) (base ops turn y) (x + 1) (omega arith) less in omega (arith, up, f, h))
                  | inr more ↦ (let same : base ops turn x ≡ base ops turn y = omega arith in
                      let blocks : block_size ops * base ops turn x ≡ block_size ops * base ops turn y = ap (λ z. block_size ops * z) same in
                      omega (arith, blocks, f, h, before))
                ])
            | in_turn b h ↦ (let under = base_turn x y low own in
                let up = block (length ops + 1) (base ops turn x) (turn y + 1) (x + 1) (omega arith) (omega arith) in omega (arith, up, f, h))
          ]
          | in_turn a f ↦ elim (made_is ops turn (operation_at ops y).kind y) [
            | early b h ↦ (let over = (base_to ops turn y y).1.over x before (record { own = own; other = a }) in
                elim (cases_eq (turn x + 1) (base ops turn y)) [
                  | inl same ↦ (let blocks : block_size ops * (turn x + 1) ≡ block_size ops * base ops turn y = ap (λ z. block_size ops * z) same in omega (arith, blocks, f, h))
                  | inr other ↦ (let up = block (length ops + 1) (turn x + 1) (base ops turn y) 0 (omega arith) (omega arith) in omega (arith, up, f, h))
                ])
            | in_turn b h ↦ (let up = rise_block ops turn x y (o.program x y low (keeps.other x y own a)) in omega (arith, up, f, h))
          ]
        ]

    load_word : (x : ℕ) → is_load (operation_at ops x).kind ≡ true → uses_word (operation_at ops x).kind ≡ true
    load_word x load = load_uses (operation_at ops x).kind load

    -- a load's source is no older than a write of its processor before it
    no_older : (x w : ℕ) → x < length ops → is_load (operation_at ops x).kind ≡ true → is_write (operation_at ops w).kind ≡ true → IsOwn ops w x
        → (operation_at ops w).word ≡ (operation_at ops x).word → (operation_at ops w).place ≤ (operation_at ops (source_at ops writes x)).place
    no_older x w low load write own word =
        let s = source_is words ops writes x t low load in
        let place = s.place in
        let before = own.before in
        let pair = both_on ops w w write write refl in
        elim (cases_lt (operation_at ops x).place (operation_at ops w).place) [
          | inl more ↦ absurd ((o.newest x w low (omega arith) load write (record { first = load_word x load; second = pair.first; word = sym word }) more).1 own)
          | inr less ↦ omega (arith, place, less)
        ]

    -- two writes on a word that stand at one place are one
    same_place : (w s : ℕ) → w < length ops → s < length ops → is_write (operation_at ops w).kind ≡ true → is_write (operation_at ops s).kind ≡ true
        → (operation_at ops w).place ≡ (operation_at ops s).place → w ≡ s
    same_place w s low high write other same = sym (t.written w low write) ∙ (ap (slice_index writes) same ∙ t.written s high other)

    -- a write of the load's processor before it that the source isn't older than is the source or in its order before it
    own_turn : (x w : ℕ) → x < length ops → is_load (operation_at ops x).kind ≡ true → is_write (operation_at ops w).kind ≡ true → IsOwn ops w x
        → (operation_at ops w).word ≡ (operation_at ops x).word → (w ≡ source_at ops writes x) ⊎ (turn w < turn (source_at ops writes x))
    own_turn x w low load write own word =
        let s = source_is words ops writes x t low load in
        let not_older = no_older x w low load write own word in
        let before = own.before in
        elim (cases_eq (operation_at ops w).place (operation_at ops (source_at ops writes x)).place) [
          | inl same ↦ inl (same_place w (source_at ops writes x) (omega arith) s.low write s.write same)
          | inr other ↦ inr (o.word_order w (source_at ops writes x) (omega arith) s.low write s.write (both_on ops w (source_at ops writes x) write s.write (word ∙ sym s.word)) (omega arith))
        ]

    forwarded : (x s : ℕ) → x < length ops → is_load (operation_at ops x).kind ≡ true → IsBuffered ops (made_at ops turn) (left_at ops turn) s x
        → source_at ops writes x ≡ s
    forwarded x s low load b =
        let src : ℕ = source_at ops writes x in
        let is = source_is words ops writes x t low load in
        let waits = b.waits in
        let e = made_load x load in
        let after : turn x < turn s = block_rise ops turn x s (omega (arith, waits, e)) in
        let write : is_write (operation_at ops s).kind ≡ true = ap is_write b.store in
        let before = b.own.before in
        elim (own_turn x s low load write b.own b.word) [
          | inl same ↦ sym same
          | inr up ↦ elim (o.source x low load) [
            | inl less ↦ absurd (omega (arith, after, up, less))
            | inr own ↦ elim (write_is (operation_at ops src).kind is.write) [
              | inl store ↦ (let behind = b.newest src store own is.word in
                  elim (cases_eq src s) [
                    | inl same ↦ same
                    | inr other ↦ (let kept = o.program src s (omega arith) (keeps.store src s (record { processor = own.processor ∙ sym b.own.processor; before = omega arith }) store
                        (store_not_load (operation_at ops s).kind b.store) (keeps.same src s (is.word ∙ sym b.word))) in absurd (omega (arith, kept, up)))
                  ])
              | inr atomic ↦ (let kept = o.program src x low (keeps.other src x own (λ f. let bad : Atomic ≡ Store = sym atomic ∙ f in cc)) in
                  absurd (omega (arith, kept, after, up)))
            ]
          ]
        ]

    read : (x : ℕ) → x < length ops → is_load (operation_at ops x).kind ≡ true
        → ((s : ℕ) → IsBuffered ops (made_at ops turn) (left_at ops turn) s x → ⊥) → turn (source_at ops writes x) < turn x
    read x low load none =
        let src : ℕ = source_at ops writes x in
        let is = source_is words ops writes x t low load in
        elim (o.source x low load) [
          | inl less ↦ less
          | inr own ↦ elim (write_is (operation_at ops src).kind is.write) [
            | inr atomic ↦ o.program src x low (keeps.other src x own (λ f. let bad : Atomic ≡ Store = sym atomic ∙ f in cc))
            | inl store ↦ elim (last_store ops x x) [
              | is_none none_at ↦ absurd (none_at src own.before (record { store = store; own = own; word = is.word }))
              | is_last s last most ↦ (let before = last.own.before in
                  let s_low : s < length ops = omega arith in
                  let e = made_load x load in
                  let gone : turn s < turn x = elim (cases_lt (made_at ops turn x) (left_at ops turn s)) [
                    | inl waits ↦ absurd (none s (record {
                      store = last.store;
                      own = last.own;
                      word = last.word;
                      waits = waits;
                      newest = λ r st ow wo. most r ow.before (record { store = st; own = ow; word = wo });
                    }))
                    | inr out ↦ elim (cases_lt (turn s) (turn x)) [
                      | inl less ↦ less
                      | inr more ↦ elim (cases_eq (turn x) (turn s)) [
                        | inl same ↦ (let one : x ≡ s = o.apart x s low s_low same in absurd (omega arith))
                        | inr other ↦ (let up = rise_block ops turn x s (omega arith) in absurd (omega (arith, up, out, e)))
                      ]
                    ]
                  ] in
                  let behind = most src own.before (record { store = store; own = own; word = is.word }) in
                  elim (cases_eq src s) [
                    | inl same ↦ subst (λ z. turn z < turn x) (sym same) gone
                    | inr other ↦ (let kept = o.program src s s_low (keeps.store src s (record { processor = own.processor ∙ sym last.own.processor; before = omega arith }) store
                        (store_not_load (operation_at ops s).kind last.store) (keeps.same src s (is.word ∙ sym last.word))) in omega (arith, kept, gone))
                  ])
            ]
          ]
        ]

    last : (x w : ℕ) → x < length ops → w < length ops → is_load (operation_at ops x).kind ≡ true
        → ((s : ℕ) → IsBuffered ops (made_at ops turn) (left_at ops turn) s x → ⊥)
        → is_write (operation_at ops w).kind ≡ true → AreOnOne ops x w → effect_at ops (made_at ops turn) (left_at ops turn) w < made_at ops turn x
        → (w ≡ source_at ops writes x)
        ⊎ (effect_at ops (made_at ops turn) (left_at ops turn) w < effect_at ops (made_at ops turn) (left_at ops turn) (source_at ops writes x))
    last x w low high load none write one less =
        let src : ℕ = source_at ops writes x in
        let is = source_is words ops writes x t low load in
        let place = is.place in
        let a = effect_is ops turn w in
        let b = effect_is ops turn src in
        let e = made_load x load in
        let before : turn w < turn x = block_rise ops turn w x (omega (arith, less, a, e)) in
        elim (cases_lt (operation_at ops x).place (operation_at ops w).place) [
          | inl more ↦ (let up = (o.newest x w low high load write one more).0 in absurd (omega (arith, up, before)))
          | inr no_more ↦ elim (cases_eq (operation_at ops w).place (operation_at ops src).place) [
            | inl same ↦ inl (same_place w src high is.low write is.write same)
            | inr other ↦ (let up = rise_block ops turn w src (o.word_order w src high is.low write is.write
                (both_on ops w src write is.write (sym one.word ∙ sym is.word)) (omega (arith, no_more, other, place))) in
                inr (omega (arith, up, a, b)))
          ]
        ]

-- Coherence is one memory's order for each word alone.
use Rattle.std.proofs.Common.{◌≡◌, inl, inr, ℕ, zero, suc, ◌+◌, ◌*◌, ◌<◌, Bool, true, false, List, length, refl, sym, ◌∙◌, ap, subst, arith}
use Rattle.std.specs.Prelude.{slice_index}
use Rattle.std.proofs.lemmas.Bool.{cases_lt, cases_eq}
use Rattle.memory_models.specs.declared.kinds.Kind.{Kind}
use Rattle.memory_models.specs.declared.kinds.Kind.TheVariants.{Load, Store, Atomic, Fence}
use Rattle.memory_models.specs.declared.kinds.Operation.{Operation}
use Rattle.memory_models.specs.Trace.{has, is_load, is_write, uses_word, operation_at, source_at, writes_rule, IsOwn, AreOnOne, IsMemoryTrace}
use Rattle.memory_models.specs.Order.{KeepsOrder, IsMemoryOrder}
use Rattle.memory_models.specs.Models.{coherent, but_fences}
use Rattle.memory_models.specs.WordOrders.{IsOnWord, IsSequentialOn}
use Rattle.memory_models.proofs.Orders.{load_uses}
use Rattle.memory_models.proofs.Blocks.{block, same_rest}
use Rattle.memory_models.proofs.Runs.{source_is, both_on}

uses_is : (k : Kind) → uses_word k ≡ true → has but_fences k ≡ true
uses_is Load e = refl
uses_is Store e = refl
uses_is Atomic e = refl
uses_is Fence e = cc

is_uses : (k : Kind) → has but_fences k ≡ true → uses_word k ≡ true
is_uses Load e = refl
is_uses Store e = refl
is_uses Atomic e = refl
is_uses Fence e = cc

writes_use : (k : Kind) → has writes_rule.from k ≡ true → uses_word k ≡ true
writes_use Load e = cc
writes_use Store e = refl
writes_use Atomic e = refl
writes_use Fence e = cc

-- an order of the model is one memory's on each word
pub coherent_is_sequential_on : (words : ℕ) (ops : List Operation) (writes : List ℕ) (turn : ℕ → ℕ) → IsMemoryTrace words ops writes
    → IsMemoryOrder coherent ops writes turn → (word : ℕ) → IsSequentialOn word ops writes turn
coherent_is_sequential_on words ops writes turn t o word = record {
  apart = λ x y on_x on_y e. o.apart x y on_x.low on_y.low e;
  program = program;
  word_order = λ x y on_x on_y first second less. o.word_order x y on_x.low on_y.low first second
      (record { first = on_x.uses; second = on_y.uses; word = on_x.is ∙ sym on_y.is }) less;
  read = λ x on load. (let s = source_is words ops writes x t on.low load in
      elim (o.source x on.low load) [
        | inl less ↦ less
        | inr own ↦ program (source_at ops writes x) x
            (record { low = s.low; uses = (both_on ops (source_at ops writes x) (source_at ops writes x) s.write s.write refl).first; is = s.word ∙ on.is }) on own
      ]);
  last = λ x w on_x on_w load write less. (let s = source_is words ops writes x t on_x.low load in
      let src : ℕ = source_at ops writes x in
      let place = s.place in
      let one : AreOnOne ops x w = record { first = on_x.uses; second = on_w.uses; word = on_x.is ∙ sym on_w.is } in
      elim (cases_lt (operation_at ops x).place (operation_at ops w).place) [
        | inl more ↦ (let up = (o.newest x w on_x.low on_w.low load write one more).0 in absurd (omega (arith, up, less)))
        | inr no_more ↦ elim (cases_eq (operation_at ops w).place (operation_at ops src).place) [
          | inl same ↦ inl (sym (t.written w on_w.low write) ∙ (ap (slice_index writes) same ∙ t.written src s.low s.write))
          | inr other ↦ inr (o.word_order w src on_w.low s.low write s.write (both_on ops w src write s.write (sym one.word ∙ sym s.word))
              (omega (arith, no_more, other, place)))
        ]
      ]);
}
  where
    program : (x y : ℕ) → IsOnWord ops word x → IsOnWord ops word y → IsOwn ops x y → turn x < turn y
    program x y on_x on_y own = o.program x y on_y.low (inl (
      0,
      omega arith,
      record {
        own = own;
        from = uses_is (operation_at ops x).kind on_x.uses;
        to = uses_is (operation_at ops y).kind on_y.uses;
        key = on_x.is ∙ sym on_y.is;
      },
    ))

-- the turns of each word's order in one: words and fences have numbers of their own, modulo one more than the words
abbrev pub merged_by : ℕ → Bool → (ℕ → ℕ) → ℕ → ℕ → ℕ
merged_by words true turn word x = (words + 1) * turn x + word
merged_by words false turn word x = (words + 1) * x + words

abbrev pub merged : ℕ → List Operation → (ℕ → ℕ → ℕ) → ℕ → ℕ
merged words ops turns x = merged_by words (uses_word (operation_at ops x).kind) (turns (operation_at ops x).word) (operation_at ops x).word x

data Merges (words : ℕ) (uses : Bool) (turn : ℕ → ℕ) (word x : ℕ) : Type 0 where
  of_word : uses ≡ true → merged_by words uses turn word x ≡ (words + 1) * turn x + word → Merges words uses turn word x
  of_fence : (uses ≡ true → ⊥) → merged_by words uses turn word x ≡ (words + 1) * x + words → Merges words uses turn word x

merges : (words : ℕ) (uses : Bool) (turn : ℕ → ℕ) (word x : ℕ) → Merges words uses turn word x
merges words true turn word x = of_word refl refl
merges words false turn word x = of_fence (λ e. cc) refl

same_block : (m a b r : ℕ) → r < m → m * a + r ≡ m * b + r → a ≡ b
same_block m a b r low e = elim (cases_lt a b) [
  | inl less ↦ (let up = block m a b r low less in absurd (omega (arith, up, e)))
  | inr not_less ↦ elim (cases_eq a b) [
    | inl same ↦ same
    | inr other ↦ (let up = block m b a r low (omega (arith, not_less, other)) in absurd (omega (arith, up, e)))
  ]
]

-- orders of each word make an order of the model
pub sequential_on_is_coherent : (words : ℕ) (ops : List Operation) (writes : List ℕ) (turns : ℕ → ℕ → ℕ) → IsMemoryTrace words ops writes
    → ((word : ℕ) → IsSequentialOn word ops writes (turns word)) → IsMemoryOrder coherent ops writes (merged words ops turns)
sequential_on_is_coherent words ops writes turns t all = record {
  apart = apart;
  program = λ x y low kept. (let k = kept_on x y kept in
      rise x y low k.1.first k.1.second k.1.word ((all (word_of x)).program x y (on x (before x y low k.0) k.1.first) (other_on x y low k.1.second k.1.word) k.0));
  word_order = λ x y low high first second one less. rise_on x y low high one
      ((all (word_of x)).word_order x y (on x low one.first) (other_on x y high one.second one.word) first second less);
  source = λ x low load. inl (from_source x low load);
  newest = newest;
}
  where
    word_of : ℕ → ℕ
    word_of x = (operation_at ops x).word

    turn : ℕ → ℕ
    turn = merged words ops turns

    on : (x : ℕ) → x < length ops → uses_word (operation_at ops x).kind ≡ true → IsOnWord ops (operation_at ops x).word x
    on x low uses = record { low = low; uses = uses; is = refl }

    other_on : (x y : ℕ) → y < length ops → uses_word (operation_at ops y).kind ≡ true → (operation_at ops x).word ≡ (operation_at ops y).word
        → IsOnWord ops (operation_at ops x).word y
    other_on x y low uses same = record { low = low; uses = uses; is = sym same }

    before : (x y : ℕ) → y < length ops → IsOwn ops x y → x < length ops
    before x y low own = let less = own.before in omega (arith, less, low)

    merged_is : (x : ℕ) → Merges words (uses_word (operation_at ops x).kind) (turns (operation_at ops x).word) (operation_at ops x).word x
    merged_is x = merges words (uses_word (operation_at ops x).kind) (turns (operation_at ops x).word) (operation_at ops x).word x

    on_word : (x : ℕ) → uses_word (operation_at ops x).kind ≡ true
        → merged words ops turns x ≡ (words + 1) * turns (operation_at ops x).word x + (operation_at ops x).word
    on_word x uses = elim (merged_is x) [
      | of_word is e ↦ e
      | of_fence none e ↦ absurd (none uses)
    ]

    kept_on : (x y : ℕ) → KeepsOrder coherent ops x y → IsOwn ops x y × AreOnOne ops x y
    kept_on x y (inl (zero, low, a)) = (a.own, record { first = is_uses (operation_at ops x).kind a.from; second = is_uses (operation_at ops y).kind a.to; word = a.key })
    kept_on x y (inl (suc k, low, a)) = absurd (omega arith)
    kept_on x y (inr a) = (a.own, record { first = writes_use (operation_at ops x).kind a.from; second = writes_use (operation_at ops y).kind a.to; word = a.key })

    rise : (x y : ℕ) → y < length ops → uses_word (operation_at ops x).kind ≡ true → uses_word (operation_at ops y).kind ≡ true
        → (operation_at ops x).word ≡ (operation_at ops y).word → turns (operation_at ops x).word x < turns (operation_at ops x).word y
        → merged words ops turns x < merged words ops turns y
    rise x y low first second same less =
        let a = on_word x first in
        let b : merged words ops turns y ≡ (words + 1) * turns (operation_at ops x).word y + (operation_at ops x).word =
        subst (λ (w : ℕ). merged words ops turns y ≡ (words + 1) * turns w y + w) (sym same) (on_word y second) in
        let w_low = t.word y low in
        let up = block (words + 1) (turns (operation_at ops x).word x) (turns (operation_at ops x).word y) (operation_at ops x).word (omega (arith, w_low, same)) less in
        omega (arith, a, b, up)

    rise_on : (x y : ℕ) → x < length ops → y < length ops → AreOnOne ops x y → turns (operation_at ops x).word x < turns (operation_at ops x).word y
        → merged words ops turns x < merged words ops turns y
    rise_on x y low high one less = rise x y high one.first one.second one.word less

    apart : (x y : ℕ) → x < length ops → y < length ops → merged words ops turns x ≡ merged words ops turns y → x ≡ y
    apart x y low high e =
        let x_low = t.word x low in
        let y_low = t.word y high in
        elim (merged_is x) [
          | of_word is a ↦ elim (merged_is y) [
            | of_word also b ↦ (let same : (operation_at ops x).word ≡ (operation_at ops y).word =
                same_rest (words + 1) (turns (operation_at ops x).word x) (turns (operation_at ops y).word y) (operation_at ops x).word (operation_at ops y).word
                (omega (arith, x_low)) (omega (arith, y_low)) (sym a ∙ (e ∙ b)) in
                let there : merged words ops turns y ≡ (words + 1) * turns (operation_at ops x).word y + (operation_at ops x).word =
                subst (λ (w : ℕ). merged words ops turns y ≡ (words + 1) * turns w y + w) (sym same) b in
                let one : turns (operation_at ops x).word x ≡ turns (operation_at ops x).word y =
                same_block (words + 1) (turns (operation_at ops x).word x) (turns (operation_at ops x).word y) (operation_at ops x).word (omega (arith, x_low)) (sym a ∙ (e ∙ there)) in
                (all (operation_at ops x).word).apart x y (on x low is) (other_on x y high also same) one)
            | of_fence none b ↦ (let same = same_rest (words + 1) (turns (operation_at ops x).word x) y (operation_at ops x).word words
                (omega (arith, x_low)) (omega arith) (sym a ∙ (e ∙ b)) in absurd (omega (arith, same, x_low)))
          ]
          | of_fence none a ↦ elim (merged_is y) [
            | of_word also b ↦ (let same = same_rest (words + 1) x (turns (operation_at ops y).word y) words (operation_at ops y).word
                (omega arith) (omega (arith, y_low)) (sym a ∙ (e ∙ b)) in absurd (omega (arith, same, y_low)))
            | of_fence neither b ↦ same_block (words + 1) x y words (omega arith) (sym a ∙ (e ∙ b))
          ]
        ]

    from_source : (x : ℕ) → x < length ops → is_load (operation_at ops x).kind ≡ true
        → merged words ops turns (source_at ops writes x) < merged words ops turns x
    from_source x low load =
        let s = source_is words ops writes x t low load in
        let src : ℕ = source_at ops writes x in
        let uses = load_uses (operation_at ops x).kind load in
        let less = (all (operation_at ops x).word).read x (on x low uses) load in
        rise_on src x s.low low (record { first = (both_on ops src src s.write s.write refl).first; second = uses; word = s.word })
        (subst (λ (w : ℕ). turns w src < turns w x) (sym s.word) less)

    newest : (x w : ℕ) → x < length ops → w < length ops → is_load (operation_at ops x).kind ≡ true → is_write (operation_at ops w).kind ≡ true
        → AreOnOne ops x w → (operation_at ops x).place < (operation_at ops w).place
        → (merged words ops turns x < merged words ops turns w) × (IsOwn ops w x → ⊥)
    newest x w low high load write one less =
        let s = source_is words ops writes x t low load in
        let src : ℕ = source_at ops writes x in
        let place = s.place in
        let q = all (operation_at ops x).word in
        let on_x = on x low one.first in
        let on_w = other_on x w high one.second one.word in
        let on_src : IsOnWord ops (operation_at ops x).word src = record { low = s.low; uses = (both_on ops src src s.write s.write refl).first; is = s.word } in
        let up = q.word_order src w on_src on_w s.write write (omega (arith, place, less)) in
        let after : turns (operation_at ops x).word x < turns (operation_at ops x).word w =
        elim (cases_lt (turns (operation_at ops x).word w) (turns (operation_at ops x).word x)) [
          | inl under ↦ elim (q.last x w on_x on_w load write under) [
            | inl same ↦ (let bad : (operation_at ops w).place ≡ (operation_at ops src).place = ap (λ z. (operation_at ops z).place) same in absurd (omega (arith, bad, place, less)))
            | inr down ↦ absurd (omega (arith, down, up))
          ]
          | inr no_less ↦ elim (cases_eq (turns (operation_at ops x).word x) (turns (operation_at ops x).word w)) [
            | inl same ↦ (let one_op : x ≡ w = q.apart x w on_x on_w same in
                let bad : (operation_at ops x).place ≡ (operation_at ops w).place = ap (λ z. (operation_at ops z).place) one_op in absurd (omega (arith, bad, less)))
            | inr other ↦ omega (arith, no_less, other)
          ]
        ] in (
          rise_on x w low high one after,
          λ own. (let back = q.program w x on_w on_x own in absurd (omega (arith, back, after))),
        )

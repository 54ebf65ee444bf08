-- Along an order of all operations the one memory has, at each word, what the last write before left: so each
-- operation finds there what it finds by its word's order.
use Rattle.std.proofs.Common.{◌≡◌, ◌⊎◌, inl, inr, ℕ, zero, suc, ◌<◌, ◌≤◌, Bool, true, false, List, length, refl, sym, ◌∙◌, ap, subst, arith}
use Rattle.std.specs.Prelude.{◌==◌, slice_index, if◌then◌else◌}
use Rattle.std.proofs.lemmas.Bool.{cases_eq, cases_lt, eq-eqb, eqb-true}
use Rattle.memory_models.specs.declared.kinds.Operation.{Operation}
use Rattle.memory_models.specs.Trace.{is_write, operation_at, IsMemoryTrace}
use Rattle.memory_models.specs.Values.{AreInTurns, IsNextWrite, IsValued, memory_after, word_in_turn}
use Rattle.memory_models.proofs.Runs.{both_on}
use Rattle.memory_models.proofs.Last.{KeepsWrites, write_before}

-- the last write on an operation's word in front of it
pub record IsLastWrite (ops : List Operation) (turn : ℕ → ℕ) (x b : ℕ) : Type 0 where
  pub low : b < length ops
  pub write : is_write (operation_at ops b).kind ≡ true
  pub word : (operation_at ops b).word ≡ (operation_at ops x).word
  pub less : turn b < turn x
  pub last : (w : ℕ) → w < length ops → is_write (operation_at ops w).kind ≡ true
      → (operation_at ops w).word ≡ (operation_at ops x).word → turn w < turn x → (w ≡ b) ⊎ (turn w < turn b)

-- an order of a trace's operations, and the words that they find along each word's writes
pub record IsLaid (words : ℕ) (ops : List Operation) (writes : List ℕ) (turn : ℕ → ℕ) (order : List ℕ) (makes : ℕ → ℕ → ℕ) (found : ℕ → ℕ) : Type 0
  where
    pub is_trace : IsMemoryTrace words ops writes
    pub keeps : KeepsWrites ops turn
    pub turns : AreInTurns ops turn order
    pub valued : IsValued ops writes makes found

-- an operation writes a word
record WritesOn (ops : List Operation) (x w : ℕ) : Type 0 where
  write : is_write (operation_at ops x).kind ≡ true
  word : (operation_at ops x).word ≡ w

-- a word after the first k operations: none of them wrote it, or it has what the last one left
data Has (ops : List Operation) (order : List ℕ) (makes : ℕ → ℕ → ℕ) (found opening : ℕ → ℕ) (k w : ℕ) : Type 0 where
  untouched : ((j : ℕ) → j < k → WritesOn ops (slice_index order j) w → ⊥) → Has ops order makes found opening k w
  written : (j : ℕ) → j < k → WritesOn ops (slice_index order j) w → ((i : ℕ) → j < i → i < k → WritesOn ops (slice_index order i) w → ⊥)
      → memory_after ops makes opening order k w ≡ makes (slice_index order j) (found (slice_index order j))
      → Has ops order makes found opening k w

-- the place of what comes before another
place_before : (ops : List Operation) (turn : ℕ → ℕ) (order : List ℕ) → AreInTurns ops turn order → (i k : ℕ) → i < length order → k < length order
    → turn (slice_index order i) < turn (slice_index order k) → i < k
place_before ops turn order turns i k low high up = elim (cases_lt i k) [
  | inl less ↦ less
  | inr not_less ↦ elim (cases_eq i k) [
    | inl same ↦ (let e : turn (slice_index order i) ≡ turn (slice_index order k) = ap (λ z. turn (slice_index order z)) same in absurd (omega (arith, e, up)))
    | inr other ↦ (let down = turns.rise k i (omega (arith, not_less, other)) low in absurd (omega (arith, down, up)))
  ]
]

-- the operation of place k finds what the last write in front of it left
met : (words : ℕ) (ops : List Operation) (writes : List ℕ) (turn : ℕ → ℕ) (order : List ℕ) (makes : ℕ → ℕ → ℕ) (found opening : ℕ → ℕ)
    → IsLaid words ops writes turn order makes found → (k b : ℕ) → k < length order → IsLastWrite ops turn (slice_index order k) b
    → Has ops order makes found opening k (operation_at ops (slice_index order k)).word
    → word_in_turn ops makes opening order k ≡ makes b (found b)
met words ops writes turn order makes found opening laid k b low is has =
    let spot = laid.turns.each b is.low in
    let i : ℕ = spot.0 in
    let at : slice_index order i ≡ b = spot.2 in
    let up : turn (slice_index order i) < turn (slice_index order k) = subst (λ z. turn z < turn (slice_index order k)) (sym at) is.less in
    let before : i < k = place_before ops turn order laid.turns i k spot.1 low up in
    let here : WritesOn ops (slice_index order i) (operation_at ops (slice_index order k)).word =
    subst (λ z. WritesOn ops z (operation_at ops (slice_index order k)).word) (sym at) (record { write = is.write; word = is.word }) in
    elim has [
      | untouched none ↦ absurd (none i before here)
      | written j less wrote rest value ↦ elim (cases_lt j i) [
        | inl behind ↦ absurd (rest i behind before here)
        | inr not_behind ↦ elim (cases_eq i j) [
          | inl same ↦ value ∙ ap (λ z. makes z (found z)) (ap (slice_index order) (sym same) ∙ at)
          | inr other ↦ (let j_low : j < length order = omega (arith, less, low) in
              let rise = laid.turns.rise i j (omega (arith, not_behind, other)) j_low in
              let under = laid.turns.rise j k less low in
              elim (is.last (slice_index order j) (laid.turns.low j j_low) wrote.write wrote.word under) [
                | inl one ↦ (let e : turn (slice_index order j) ≡ turn (slice_index order i) = ap turn (one ∙ sym at) in absurd (omega (arith, e, rise)))
                | inr down ↦ (let e : turn (slice_index order i) ≡ turn b = ap turn at in absurd (omega (arith, e, rise, down)))
              ])
        ]
      ]
    ]

-- the write before a write in its word's order is the last one in front of it
pub next_is_last : (words : ℕ) (ops : List Operation) (writes : List ℕ) (turn : ℕ → ℕ) → IsMemoryTrace words ops writes → KeepsWrites ops turn
    → (x p : ℕ) → x < length ops → IsNextWrite ops writes p x → IsLastWrite ops turn x (slice_index writes p)
next_is_last words ops writes turn t keeps x p low next =
    let b = write_before words ops writes turn t keeps x p low next.write next.next next.word in
    let uses = (both_on ops x x next.write next.write refl).first in
    let inside = t.place x low uses in
    let step = next.next in
    record {
      low = t.low p (omega arith);
      write = t.writes_are p (omega arith);
      word = next.word;
      less = b.0;
      last = λ w high is word less. b.1 w high is (both_on ops x w next.write is (sym word)) less;
    }

-- the word that a write leaves in its turn
left : (words : ℕ) (ops : List Operation) (writes : List ℕ) (turn : ℕ → ℕ) (order : List ℕ) (makes : ℕ → ℕ → ℕ) (found opening : ℕ → ℕ)
    → IsLaid words ops writes turn order makes found → (k : ℕ) → k < length order → is_write (operation_at ops (slice_index order k)).kind ≡ true
    → Has ops order makes found opening k (operation_at ops (slice_index order k)).word
    → makes (slice_index order k) (word_in_turn ops makes opening order k) ≡ makes (slice_index order k) (found (slice_index order k))
left words ops writes turn order makes found opening laid k low write has = by_place (operation_at ops x).place refl
  where
    x : ℕ
    x = slice_index order k

    x_low : x < length ops
    x_low = laid.turns.low k low

    follows : (p : ℕ) → IsNextWrite ops writes p x → makes x (word_in_turn ops makes opening order k) ≡ makes x (found x)
    follows p next = ap (makes x) (met words ops writes turn order makes found opening laid k (slice_index writes p) low
        (next_is_last words ops writes turn laid.is_trace laid.keeps x p x_low next) has ∙ sym (laid.valued.follows x p x_low next))

    begins : ((p : ℕ) → IsNextWrite ops writes p x → ⊥) → makes x (word_in_turn ops makes opening order k) ≡ makes x (found x)
    begins none = laid.valued.begins x x_low write none (word_in_turn ops makes opening order k) (found x)

    by_place : (place : ℕ) → (operation_at ops x).place ≡ place → makes x (word_in_turn ops makes opening order k) ≡ makes x (found x)
    by_place zero e = begins (λ p next. let step = next.next in omega (arith, e, step))
    by_place (suc p) e = elim (cases_eq (operation_at ops (slice_index writes p)).word (operation_at ops x).word) [
      | inl same ↦ follows p (record { write = write; next = omega (arith, e); word = same })
      | inr other ↦ begins (λ q next. let step = next.next in
          let one : q ≡ p = omega (arith, e, step) in
          other (subst (λ z. (operation_at ops (slice_index writes z)).word ≡ (operation_at ops x).word) one next.word))
    ]

choose_true : (b : Bool) (v w : ℕ) → b ≡ true → (if b then v else w) ≡ v
choose_true true v w e = refl
choose_true false v w e = cc

choose_false : (b : Bool) (v w : ℕ) → (b ≡ true → ⊥) → (if b then v else w) ≡ w
choose_false true v w f = absurd (f refl)
choose_false false v w f = refl

by_test : (b : Bool) → (b ≡ true) ⊎ (b ≡ false)
by_test true = inl refl
by_test false = inr refl

-- one operation more
has_more : (words : ℕ) (ops : List Operation) (writes : List ℕ) (turn : ℕ → ℕ) (order : List ℕ) (makes : ℕ → ℕ → ℕ) (found opening : ℕ → ℕ)
    → IsLaid words ops writes turn order makes found → (k w : ℕ) → k < length order → Has ops order makes found opening k w
    → Has ops order makes found opening (suc k) w
has_more words ops writes turn order makes found opening laid k w low has = elim (cases_eq (operation_at ops x).word w) [
  | inr other ↦ carried (λ wrote. other wrote.word) (choose_false ((operation_at ops x).word == w) (makes x (before w)) (before w)
      (λ e. other (eqb-true (operation_at ops x).word w e)))
  | inl same ↦ elim (by_test (is_write (operation_at ops x).kind)) [
    | inr reads ↦ carried (λ wrote. let bad : true ≡ false = sym wrote.write ∙ reads in cc)
        (made same ∙ laid.valued.leaves x (laid.turns.low k low) reads (before w))
    | inl write ↦ written k (omega arith) (record { write = write; word = same }) (λ i more less wrote. omega (arith, more, less))
        (made same ∙ (ap (λ z. makes x (before z)) (sym same)
        ∙ left words ops writes turn order makes found opening laid k low write (subst (Has ops order makes found opening k) (sym same) has)))
  ]
]
  where
    x : ℕ
    x = slice_index order k

    before : ℕ → ℕ
    before = memory_after ops makes opening order k

    made : (operation_at ops x).word ≡ w → memory_after ops makes opening order (suc k) w ≡ makes x (before w)
    made same = choose_true ((operation_at ops x).word == w) (makes x (before w)) (before w) (eq-eqb (operation_at ops x).word w same)

    carried : (WritesOn ops x w → ⊥) → memory_after ops makes opening order (suc k) w ≡ before w → Has ops order makes found opening (suc k) w
    carried none e = elim has [
      | untouched never ↦ untouched (λ j less wrote. elim (cases_eq j k) [
        | inl one ↦ none (subst (λ z. WritesOn ops (slice_index order z) w) one wrote)
        | inr other ↦ never j (omega (arith, less, other)) wrote
      ])
      | written j less wrote rest value ↦ written j (omega (arith, less)) wrote (λ i more under again. elim (cases_eq i k) [
        | inl one ↦ none (subst (λ z. WritesOn ops (slice_index order z) w) one again)
        | inr other ↦ rest i more (omega (arith, under, other)) again
      ]) (e ∙ value)
    ]

has : (words : ℕ) (ops : List Operation) (writes : List ℕ) (turn : ℕ → ℕ) (order : List ℕ) (makes : ℕ → ℕ → ℕ) (found opening : ℕ → ℕ)
    → IsLaid words ops writes turn order makes found → (k w : ℕ) → k ≤ length order → Has ops order makes found opening k w
has words ops writes turn order makes found opening laid zero w low = untouched (λ j less wrote. omega (arith, less))
has words ops writes turn order makes found opening laid (suc k) w low =
    has_more words ops writes turn order makes found opening laid k w (omega arith) (has words ops writes turn order makes found opening laid k w (omega arith))

-- an operation behind a last write finds in its turn what that one left
pub finds_last : (words : ℕ) (ops : List Operation) (writes : List ℕ) (turn : ℕ → ℕ) (order : List ℕ) (makes : ℕ → ℕ → ℕ) (found opening : ℕ → ℕ)
    → IsLaid words ops writes turn order makes found → (k b : ℕ) → k < length order → IsLastWrite ops turn (slice_index order k) b
    → word_in_turn ops makes opening order k ≡ makes b (found b)
finds_last words ops writes turn order makes found opening laid k b low is = met words ops writes turn order makes found opening laid k b low is
    (has words ops writes turn order makes found opening laid k (operation_at ops (slice_index order k)).word (omega arith))

-- so does a write that isn't its word's first
pub finds_next : (words : ℕ) (ops : List Operation) (writes : List ℕ) (turn : ℕ → ℕ) (order : List ℕ) (makes : ℕ → ℕ → ℕ) (found opening : ℕ → ℕ)
    → IsLaid words ops writes turn order makes found → (k p : ℕ) → k < length order → IsNextWrite ops writes p (slice_index order k)
    → word_in_turn ops makes opening order k ≡ found (slice_index order k)
finds_next words ops writes turn order makes found opening laid k p low next =
    finds_last words ops writes turn order makes found opening laid k (slice_index writes p) low
    (next_is_last words ops writes turn laid.is_trace laid.keeps (slice_index order k) p (laid.turns.low k low) next)
    ∙ sym (laid.valued.follows (slice_index order k) p (laid.turns.low k low) next)

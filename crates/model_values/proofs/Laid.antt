-- The writes of a trace by their words and turns, and places for all operations by an order of them.
use Rattle.std.proofs.Common.{◌≡◌, inl, inr, ℕ, ◌+◌, ◌*◌, ◌<◌, ◌≤◌, true, false, List, length, refl, sym, ap, subst, ◌∙◌, arith}
use Rattle.std.specs.Prelude.{slice_index}
use Rattle.std.specs.List.{filter}
use Rattle.std.proofs.Math.Nat.{mul_comm}
use Rattle.std.proofs.lemmas.Bool.{cases_lt}
use Rattle.std.proofs.lemmas.Nat.{mul-add-lt, same_from_place}
use Rattle.memory_models.specs.declared.kinds.Kind.{Kind}
use Rattle.memory_models.specs.declared.kinds.Kind.TheVariants.{Load, Store, Atomic, Fence}
use Rattle.memory_models.specs.declared.kinds.Operation.{Operation}
use Rattle.memory_models.specs.Trace.{is_load, is_write, uses_word, operation_at}
use Rattle.memory_models.specs.Values.{AreInTurns}
use Rattle.memory_models.proofs.InTurns.{list_in_turns}
use Rattle.model_values.specs.declared.valued.Valued.{Valued}
use Rattle.model_values.specs.Placed.{writes_at}
use Rattle.model_values.specs.Replies.{FindsNewest}
use Rattle.model_values.specs.Values.{IsReader}
use Rattle.model_values.proofs.Sorted.{IsKept, filter_kept, turns_sum, sum_above}

-- all writes of a trace, by their words, and by their turns within a word
pub record AreWritten (ops : List Operation) (turn : ℕ → ℕ) (writes : List ℕ) : Type 0 where
  pub low : (p : ℕ) → p < length writes → slice_index writes p < length ops
  pub is : (p : ℕ) → p < length writes → is_write (operation_at ops (slice_index writes p)).kind ≡ true
  pub each : (x : ℕ) → x < length ops → is_write (operation_at ops x).kind ≡ true → (p : ℕ) × (p < length writes) × (slice_index writes p ≡ x)
  pub word : (p q : ℕ) → p < q → q < length writes → (operation_at ops (slice_index writes p)).word ≤ (operation_at ops (slice_index writes q)).word
  pub rise : (p q : ℕ) → p < q → q < length writes → (operation_at ops (slice_index writes p)).word ≡ (operation_at ops (slice_index writes q)).word
      → turn (slice_index writes p) < turn (slice_index writes q)

-- the greater of two numbers of a word and a turn below a bound is on no lower word
low_word : (a t b u bound : ℕ) → u < bound → a * bound + t < b * bound + u → a ≤ b
low_word a t b u bound under less = elim (cases_lt b a) [
  | inl above ↦ absurd (let up = mul-add-lt b bound u a above under in let e = mul_comm bound a in omega (arith, up, e, less))
  | inr not ↦ omega (arith, not)
]

low_turn : (a t b u bound : ℕ) → a ≡ b → a * bound + t < b * bound + u → t < u
low_turn a t b u bound same less = let e = ap (λ z. z * bound) same in omega (arith, e, less)

-- the key of a word and a turn below a bound
abbrev key_of : List Operation → (ℕ → ℕ) → ℕ → ℕ → ℕ
key_of ops turn bound x = (operation_at ops x).word * bound + turn x

written_in : (ops : List Operation) (turn : ℕ → ℕ) (bound : ℕ) (all : List ℕ) → ((x : ℕ) → x < length ops → turn x < bound)
    → AreInTurns ops (key_of ops turn bound) all → AreWritten ops turn (filter (writes_at ops) all)
written_in ops turn bound all below t = record {
  low = inside;
  is = kept.is;
  each = λ x low write. (let a = t.each x low in
      let e = kept.each a.0 a.1 (subst (λ z. is_write (operation_at ops z).kind ≡ true) (sym a.2) write) in
      (e.0, e.1, e.2 ∙ a.2));
  word = λ p q less low. low_word (operation_at ops (slice_index (filter (writes_at ops) all) p)).word (turn (slice_index (filter (writes_at ops) all) p))
      (operation_at ops (slice_index (filter (writes_at ops) all) q)).word (turn (slice_index (filter (writes_at ops) all) q)) bound (below (slice_index (filter (writes_at ops) all) q) (inside q low))
      (kept.rise (key_of ops turn bound) t.rise p q less low);
  rise = λ p q less low same. low_turn (operation_at ops (slice_index (filter (writes_at ops) all) p)).word (turn (slice_index (filter (writes_at ops) all) p))
      (operation_at ops (slice_index (filter (writes_at ops) all) q)).word (turn (slice_index (filter (writes_at ops) all) q)) bound same (kept.rise (key_of ops turn bound) t.rise p q less low);
}
  where
    kept : IsKept (writes_at ops) all (filter (writes_at ops) all)
    kept = filter_kept (writes_at ops) all

    inside : (p : ℕ) → p < length (filter (writes_at ops) all) → slice_index (filter (writes_at ops) all) p < length ops
    inside p low = let f = kept.from p low in subst (λ z. z < length ops) f.2 (t.low f.0 f.1)

pub written_of : (ops : List Operation) (turn : ℕ → ℕ) → ((x y : ℕ) → x < length ops → y < length ops → turn x ≡ turn y → x ≡ y)
    → (writes : List ℕ) × AreWritten ops turn writes
written_of ops turn apart =
    let bound : ℕ = turns_sum turn (length ops) + 1 in
    let below : (x : ℕ) → x < length ops → turn x < bound = λ x low. (let most = sum_above turn (length ops) x low in omega (arith, most)) in
    let all = list_in_turns ops (key_of ops turn bound) (λ x y lx ly same. apart x y lx ly
    (same_from_place (operation_at ops x).word (turn x) (operation_at ops y).word (turn y) bound (below x lx) (below y ly) same).1) in
    (filter (writes_at ops) all.0, written_in ops turn bound all.0 below all.1)

-- each write stands once in the list
pub one_place : (ops : List Operation) (turn : ℕ → ℕ) (writes : List ℕ) → AreWritten ops turn writes → (p q : ℕ) → p < length writes → q < length writes
    → slice_index writes p ≡ slice_index writes q → p ≡ q
one_place ops turn writes w p q lp lq same = elim (cases_lt p q) [
  | inl less ↦ absurd (let up = w.rise p q less lq (ap (λ z. (operation_at ops z).word) same) in let e = ap turn same in omega (arith, up, e))
  | inr not ↦ elim (cases_lt q p) [
    | inl more ↦ absurd (let up = w.rise q p more lp (ap (λ z. (operation_at ops z).word) (sym same)) in let e = ap turn same in omega (arith, up, e))
    | inr also ↦ omega (arith, not, also)
  ]
]

-- an operation with its place: a write's own, a load's that of the newest write that it can see
pub record IsLaid (v : Valued) (turn : ℕ → ℕ) (writes : List ℕ) (x : ℕ) (o : Operation) : Type 0 where
  pub processor : o.processor ≡ (operation_at v.operations.now x).processor
  pub kind : o.kind ≡ (operation_at v.operations.now x).kind
  pub word : o.word ≡ (operation_at v.operations.now x).word
  pub fence : (operation_at v.operations.now x).kind ≡ Fence → o.place ≡ 0
  pub low : uses_word (operation_at v.operations.now x).kind ≡ true → o.place < length writes
  pub write : is_write (operation_at v.operations.now x).kind ≡ true → slice_index writes o.place ≡ x
  pub load : is_load (operation_at v.operations.now x).kind ≡ true → (f : FindsNewest v turn x) × (slice_index writes o.place ≡ f.newest)

abbrev at_place : (v : Valued) (x p : ℕ) → Operation
at_place v x p = record {
  processor = (operation_at v.operations.now x).processor;
  kind = (operation_at v.operations.now x).kind;
  word = (operation_at v.operations.now x).word;
  place = p;
}

-- a write has its place
laid_write : (v : Valued) (turn : ℕ → ℕ) (writes : List ℕ) → AreWritten v.operations.now turn writes → (x : ℕ) → x < length v.operations.now
    → is_write (operation_at v.operations.now x).kind ≡ true → (is_load (operation_at v.operations.now x).kind ≡ true → ⊥)
    → ((operation_at v.operations.now x).kind ≡ Fence → ⊥) → (o : Operation) × IsLaid v turn writes x o
laid_write v turn writes w x lx write load fence = let e = w.each x lx write in (
  at_place v x e.0,
  record {
    processor = refl;
    kind = refl;
    word = refl;
    fence = λ is. absurd (fence is);
    low = λ _. e.1;
    write = λ _. e.2;
    load = λ is. absurd (load is);
  },
)

pub laid : (v : Valued) (turn : ℕ → ℕ) (writes : List ℕ) → AreWritten v.operations.now turn writes
    → ((x : ℕ) → x < length v.operations.now → IsReader v.operations.now x → FindsNewest v turn x)
    → (x : ℕ) → x < length v.operations.now → (kind : Kind) → (operation_at v.operations.now x).kind ≡ kind → (o : Operation) × IsLaid v turn writes x o
laid v turn writes w finds x lx Load is =
    let load : is_load (operation_at v.operations.now x).kind ≡ true = ap is_load is in
    let f = finds x lx (inl load) in
    let e = w.each f.newest f.left.low f.left.write in (
      at_place v x e.0,
      record {
        processor = refl;
        kind = refl;
        word = refl;
        fence = λ fence. absurd (let bad : true ≡ false = sym load ∙ ap is_load fence in cc);
        low = λ _. e.1;
        write = λ write. absurd (let bad : true ≡ false = sym write ∙ ap is_write is in cc);
        load = λ _. (f, e.2);
      },
    )
laid v turn writes w finds x lx Store is = laid_write v turn writes w x lx (ap is_write is)
    (λ load. (let bad : true ≡ false = sym load ∙ ap is_load is in cc)) (λ fence. (let bad : true ≡ false = sym (ap is_write is) ∙ ap is_write fence in cc))
laid v turn writes w finds x lx Atomic is = laid_write v turn writes w x lx (ap is_write is)
    (λ load. (let bad : true ≡ false = sym load ∙ ap is_load is in cc)) (λ fence. (let bad : true ≡ false = sym (ap is_write is) ∙ ap is_write fence in cc))
laid v turn writes w finds x lx Fence is = (
  at_place v x 0,
  record {
    processor = refl;
    kind = refl;
    word = refl;
    fence = λ _. refl;
    low = λ uses. absurd (let bad : true ≡ false = sym uses ∙ ap uses_word is in cc);
    write = λ write. absurd (let bad : true ≡ false = sym write ∙ ap is_write is in cc);
    load = λ load. absurd (let bad : true ≡ false = sym load ∙ ap is_load is in cc);
  },
)

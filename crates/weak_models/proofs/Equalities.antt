-- Where a log has an order of this model exactly if it has one of another.
use Rattle.std.proofs.Common.{◌≡◌, ◌↔◌, inl, inr, ℕ, zero, suc, ◌<◌, true, List, [], length, refl, sym, ◌∙◌, ap, arith}
use Rattle.std.specs.Prelude.{slice_index, Option, Some, None}
use Rattle.std.proofs.lemmas.Bool.{cases_order}
use Rattle.memory_models.specs.declared.kinds.Kind.TheVariants.{Fence}
use Rattle.memory_models.specs.declared.kinds.Operation.{Operation}
use Rattle.memory_models.specs.declared.kinds.Rule.{Rule}
use Rattle.memory_models.specs.Trace.{is_write, uses_word, operation_at, IsOwn, IsMemoryTrace}
use Rattle.memory_models.specs.Models.{sequential, total_store_order, coherent}
use Rattle.memory_models.specs.Order.{IsMemoryOrder, KeepsOrder}
use Rattle.memory_models.proofs.Lasts.{to_write}
use Rattle.memory_models.proofs.Coherent.{merged}
use Rattle.weak_models.specs.declared.notes.Note.{Note}
use Rattle.weak_models.specs.declared.notes.Dependency.{Dependency}
use Rattle.weak_models.specs.declared.verdict.PreservedRule.TheVariants as by
use Rattle.weak_models.specs.Notes.{note_at, is_conditional}
use Rattle.weak_models.specs.Laws.{HasNoFences, AreAllRcsc}
use Rattle.weak_models.specs.Order.{IsRvwmo, IsOrderKeeping, ArePairsAtomic}
use Rattle.weak_models.specs.Equal.{HasOrder, HasRvwmoOrder, HasNoPairs, ArePairsOnOne, ArePairsAtomicInWords, HasNoAnnotations, AreOnReads, AreZtso, AreConditionalsKept, HasOrderWithPairs}
use Rattle.weak_models.proofs.Excluded.{write_is_word, reads_word, ztso_acquires, ztso_releases, ztso_load, ztso_store, ztso_fence, full_orders, write_from_loads}
use Rattle.weak_models.proofs.Weakened.{of_sequential}
use Rattle.weak_models.proofs.Placed.{placed_order, AreRisenOnWords}
use Rattle.weak_models.proofs.Stronger.{of_total_store_order, no_conditionals}
use Rattle.weak_models.proofs.Bare.{of_coherent}
use Rattle.weak_models.proofs.ByPlace.{by_place, is_coherent}

-- the atomicity axiom is one of the log: an order that keeps each word's writes has it exactly where the words have it
pub in_words : (words : ℕ) (notes : List Note) (ops : List Operation) (writes : List ℕ) (turn : ℕ → ℕ) (keeps : ℕ → ℕ → Type 0)
    → IsMemoryTrace words ops writes → ArePairsOnOne notes ops → IsOrderKeeping keeps ops writes turn → ArePairsAtomic notes ops turn
    → ArePairsAtomicInWords notes ops
in_words words notes ops writes turn keeps t pairs o atomic w s low high is =
    let up = atomic w s low high is in
    let write = (pairs is.reserved w low is.pair).store in
    elim (cases_order (operation_at ops w).place (operation_at ops s).place) [
      | inl same ↦ (let one : s ≡ w = sym (t.written s high is.write) ∙ (ap (slice_index writes) (sym same) ∙ t.written w low write) in
          absurd (is.other (ap (λ z. (operation_at ops z).processor) one)))
      | inr (inl less) ↦ less
      | inr (inr more) ↦ (let down = o.word_order s w high low is.write write is.one more in absurd (omega (arith, up, down)))
    ]

pub of_words : (rules : List Rule) (notes : List Note) (ops : List Operation) (writes : List ℕ) (turn : ℕ → ℕ)
    → ArePairsOnOne notes ops → IsMemoryOrder rules ops writes turn → ArePairsAtomicInWords notes ops → ArePairsAtomic notes ops turn
of_words rules notes ops writes turn pairs o words w s low high is =
    o.word_order w s low high (pairs is.reserved w low is.pair).store is.write
    (record { first = is.one.second; second = is.one.first; word = sym is.one.word }) (words w s low high is)

conditional_writes : (notes : List Note) (ops : List Operation) (x : ℕ) → ArePairsOnOne notes ops → x < length ops
    → is_conditional (note_at notes x).pair ≡ true → is_write (operation_at ops x).kind ≡ true
conditional_writes notes ops x pairs low is = by (note_at notes x).pair is (λ r e. (pairs r x low e).store)
  where
    by : (p : Option ℕ) → is_conditional p ≡ true → ((r : ℕ) → p ≡ Some r → is_write (operation_at ops x).kind ≡ true)
        → is_write (operation_at ops x).kind ≡ true
    by None is h = cc
    by (Some r) is h = h r refl

-- an order of the model with Ztso's annotations
module _ (words : ℕ) (notes : List Note) (dependencies : List Dependency) (ops : List Operation) (writes : List ℕ) (t : IsMemoryTrace words ops writes)
    (z : AreZtso notes ops) where
  module _ (turn : ℕ → ℕ) (o : IsRvwmo notes dependencies ops writes turn) where
    by_acquire : (x y : ℕ) → x < length ops → y < length ops → IsOwn ops x y → uses_word (operation_at ops x).kind ≡ true
        → uses_word (operation_at ops y).kind ≡ true → (note_at notes x).acquire ≡ true → turn x < turn y
    by_acquire x y low high own first second a =
        o.order.program x y high (by.Acquire, record { own = own; first = first; second = second; keeps = a })

    by_release : (x y : ℕ) → x < length ops → y < length ops → IsOwn ops x y → uses_word (operation_at ops x).kind ≡ true
        → uses_word (operation_at ops y).kind ≡ true → (note_at notes y).release ≡ true → turn x < turn y
    by_release x y low high own first second r =
        o.order.program x y high (by.Release, record { own = own; first = first; second = second; keeps = r })

    kept : (x y : ℕ) → y < length ops → KeepsOrder total_store_order ops x y → uses_word (operation_at ops x).kind ≡ true
        → uses_word (operation_at ops y).kind ≡ true → turn x < turn y
    kept x y high (inl (zero, l, a)) first second =
        let before = a.own.before in
        let low : x < length ops = omega (arith, before, high) in
        by_acquire x y low high a.own first second (ztso_acquires (operation_at ops x).kind (note_at notes x) (z x low) first a.from)
    kept x y high (inl (suc zero, l, a)) first second =
        let before = a.own.before in
        let low : x < length ops = omega (arith, before, high) in
        by_release x y low high a.own first second (ztso_releases (operation_at ops y).kind (note_at notes y) (z y high) second a.to)
    kept x y high (inl (suc (suc k), l, a)) first second = absurd (omega arith)
    kept x y high (inr a) first second =
        let before = a.own.before in
        let low : x < length ops = omega (arith, before, high) in
        by_release x y low high a.own first second (ztso_releases (operation_at ops y).kind (note_at notes y) (z y high) second
        (write_from_loads (operation_at ops y).kind (to_write (operation_at ops y).kind a.to)))

    cross : (x m y : ℕ) → y < length ops → IsOwn ops x m → IsOwn ops m y → (operation_at ops m).kind ≡ Fence
        → uses_word (operation_at ops x).kind ≡ true → uses_word (operation_at ops y).kind ≡ true → turn x < turn y
    cross x m y high a b fence first second =
        let behind = a.before in
        let before = b.before in
        o.order.program x y high (
          by.Fenced,
          record {
            own = record { processor = a.processor ∙ b.processor; before = omega (arith, behind, before) };
            first = first;
            second = second;
            keeps = record {
              fence = m;
              behind = behind;
              before = before;
              orders = record {
                is = fence;
                orders = full_orders (note_at notes m).fence (operation_at ops x).kind (operation_at ops y).kind
                    (ztso_fence (operation_at ops m).kind (note_at notes m) (z m (omega (arith, before, high))) fence) first second;
              };
            };
          },
        )

  -- and with fences in their places
  in_place : (has : HasRvwmoOrder notes dependencies ops writes)
      → (new : ℕ → ℕ) × IsMemoryOrder total_store_order ops writes new × AreRisenOnWords ops has.0 new
  in_place has = placed_order words _ total_store_order ops writes has.0 t has.1.order (kept has.0 has.1) (cross has.0 has.1)

  of_order : AreOnReads dependencies ops → HasOrderWithPairs total_store_order notes ops writes → HasRvwmoOrder notes dependencies ops writes
  of_order on has = (
    has.0,
    of_total_store_order words notes dependencies ops writes has.0 t has.2 on
        (λ x low store. (ztso_store (operation_at ops x).kind (note_at notes x) (z x low) store).0)
        (record {
          load = λ x low load. ztso_load (operation_at ops x).kind (note_at notes x) (z x low) load;
          store = λ x low store. (ztso_store (operation_at ops x).kind (note_at notes x) (z x low) store).1;
        }) has.1,
  )

  pub ztso_equal : HasNoPairs notes → AreOnReads dependencies ops
      → HasRvwmoOrder notes dependencies ops writes ↔ HasOrder total_store_order ops writes
  ztso_equal pairs on = (
    λ has. (let new = in_place has in (new.0, new.1)),
    λ has. of_order on (has.0, has.1, no_conditionals notes ops writes has.0 pairs),
  )

  -- what a store conditional asks is kept
  conditionals : ArePairsOnOne notes ops → (turn new : ℕ → ℕ) → IsRvwmo notes dependencies ops writes turn → AreRisenOnWords ops turn new
      → AreConditionalsKept notes ops writes new
  conditionals pairs turn new o rise = record {
    one = pairs;
    atomic = λ w s low high is. rise w s low is.one.second is.one.first (o.atomic w s low high is);
    forward = λ x y high own conditional k. (let before = own.before in
        let low : x < length ops = omega (arith, before, high) in
        let uses = write_is_word (operation_at ops x).kind (conditional_writes notes ops x pairs low conditional) in
        let second = reads_word (operation_at ops y).kind k.load in
        rise x y low uses second (o.order.program x y high (by.AtomicSource, record { own = own; first = uses; second = second; keeps = k })));
  }

  pub ztso_with_pairs : ArePairsOnOne notes ops → AreOnReads dependencies ops
      → HasRvwmoOrder notes dependencies ops writes ↔ HasOrderWithPairs total_store_order notes ops writes
  ztso_with_pairs pairs on = (
    λ has. (let new = in_place has in (new.0, new.1, conditionals pairs has.0 new.0 has.1 new.2)),
    of_order on,
  )

-- RCsc annotations everywhere
module _ (words : ℕ) (notes : List Note) (dependencies : List Dependency) (ops : List Operation) (writes : List ℕ) (t : IsMemoryTrace words ops writes)
    (all : AreAllRcsc notes ops) (pairs : ArePairsOnOne notes ops) where
  own_kept : (turn : ℕ → ℕ) → IsRvwmo notes dependencies ops writes turn → (x y : ℕ) → y < length ops → IsOwn ops x y
      → uses_word (operation_at ops x).kind ≡ true → uses_word (operation_at ops y).kind ≡ true → turn x < turn y
  own_kept turn o x y high own first second =
      let before = own.before in
      o.order.program x y high (
        by.BothRcsc,
        record { own = own; first = first; second = second; keeps = (all x (omega (arith, before, high)) first, all y high second) },
      )

  keeps_own : (x y : ℕ) → KeepsOrder sequential ops x y → IsOwn ops x y
  keeps_own x y (inl k) = k.2.own
  keeps_own x y (inr a) = a.own

  in_sequence : (has : HasRvwmoOrder notes dependencies ops writes)
      → (new : ℕ → ℕ) × IsMemoryOrder sequential ops writes new × AreRisenOnWords ops has.0 new
  in_sequence has = placed_order words _ sequential ops writes has.0 t has.1.order
      (λ x y high k first second. own_kept has.0 has.1 x y high (keeps_own x y k) first second)
      (λ x m y high a b fence first second. (let behind = a.before in
      let before = b.before in
      own_kept has.0 has.1 x y high (record { processor = a.processor ∙ b.processor; before = omega (arith, behind, before) }) first second))

  pub rcsc_equal : HasRvwmoOrder notes dependencies ops writes ↔ (HasOrder sequential ops writes × ArePairsAtomicInWords notes ops)
  rcsc_equal = (
    λ has. (let new = in_sequence has in ((new.0, new.1), in_words words notes ops writes has.0 _ t pairs has.1.order has.1.atomic)),
    λ both. (
      both.0.0,
      of_sequential notes dependencies ops writes both.0.0 both.0.1
          (of_words sequential notes ops writes both.0.0 pairs both.0.1 both.1),
    ),
  )

-- no annotations, fences and dependencies
pub coherent_of : (words : ℕ) (notes : List Note) (dependencies : List Dependency) (ops : List Operation) (writes : List ℕ) → IsMemoryTrace words ops writes
    → HasRvwmoOrder notes dependencies ops writes → HasOrder coherent ops writes
coherent_of words notes dependencies ops writes t has =
    (merged words ops (λ word. by_place ops), is_coherent words notes dependencies ops writes has.0 t has.1)

pub bare_equal : (words : ℕ) (notes : List Note) (ops : List Operation) (writes : List ℕ) → IsMemoryTrace words ops writes
    → HasNoAnnotations notes → HasNoFences ops → ArePairsOnOne notes ops
    → HasRvwmoOrder notes [] ops writes ↔ (HasOrder coherent ops writes × ArePairsAtomicInWords notes ops)
bare_equal words notes ops writes t none fences pairs = (
  λ has. (coherent_of words notes [] ops writes t has, in_words words notes ops writes has.0 _ t pairs has.1.order has.1.atomic),
  λ both. (both.0.0, of_coherent notes ops writes both.0.0 none fences pairs (of_words coherent notes ops writes both.0.0 pairs both.0.1 both.1) both.0.1),
)

-- The replies follow along the order of an explanation.
use Rattle.std.proofs.Common.{◌≡◌, ◌⊎◌, inl, inr, ℕ, ◌<◌, ◌≤◌, true, List, length, refl, sym, ap, subst, ◌∙◌, arith}
use Rattle.std.specs.Prelude.{slice_index}
use Rattle.std.proofs.lemmas.Bool.{cases_eq, cases_lt}
use Rattle.memory_models.specs.declared.kinds.Kind.TheVariants.{Atomic}
use Rattle.memory_models.specs.declared.kinds.Operation.{Operation}
use Rattle.memory_models.specs.declared.kinds.Rule.{Rule}
use Rattle.memory_models.specs.Order.{IsMemoryOrder}
use Rattle.memory_models.specs.Trace.{is_load, is_write, uses_word, operation_at, source_at}
use Rattle.memory_models.proofs.Last.{write_before}
use Rattle.memory_models.proofs.Lasts.{from_write}
use Rattle.memory_models.proofs.Orders.{load_uses}
use Rattle.memory_models.proofs.Runs.{both_on}
use Rattle.model_values.specs.declared.valued.Valued.{Valued}
use Rattle.model_values.specs.Replies.{CanSee, FindsNewest, IsReplyOrder}
use Rattle.model_values.specs.Unordered.{IsClosingOf}
use Rattle.model_values.specs.Values.{IsReader, IsValuedPlacing}
use Rattle.model_values.proofs.Explained.{keeps_placed, same_like}

-- an explanation
record IsExplaining (rules : List Rule) (v : Valued) (placed : List Operation) (writes : List ℕ) (turn : ℕ → ℕ) : Type 0 where
  pub is : IsValuedPlacing v placed writes
  pub order : IsMemoryOrder rules placed writes turn

-- what can be seen can be seen with places
sees_placed : (rules : List Rule) (v : Valued) (placed : List Operation) (writes : List ℕ) (turn : ℕ → ℕ) → IsExplaining rules v placed writes turn
    → (x w : ℕ) → x < length v.operations.now → w < length v.operations.now → CanSee v.operations.now turn x w → CanSee placed turn x w
sees_placed rules v placed writes turn e x w lx lw (inl less) = inl less
sees_placed rules v placed writes turn e x w lx lw (inr own) =
    inr (record { processor = (e.is.same w lw).processor ∙ (own.processor ∙ sym (e.is.same x lx).processor); before = own.before })

placed_sees : (rules : List Rule) (v : Valued) (placed : List Operation) (writes : List ℕ) (turn : ℕ → ℕ) → IsExplaining rules v placed writes turn
    → (x w : ℕ) → x < length v.operations.now → w < length v.operations.now → CanSee placed turn x w → CanSee v.operations.now turn x w
placed_sees rules v placed writes turn e x w lx lw (inl less) = inl less
placed_sees rules v placed writes turn e x w lx lw (inr own) =
    inr (record { processor = sym (e.is.same w lw).processor ∙ (own.processor ∙ (e.is.same x lx).processor); before = own.before })

-- the write at a place is a write of the trace
newest_at : (rules : List Rule) (v : Valued) (placed : List Operation) (writes : List ℕ) (turn : ℕ → ℕ) → IsExplaining rules v placed writes turn
    → (x p : ℕ) → x < length v.operations.now → p < length writes
    → (operation_at placed (slice_index writes p)).word ≡ (operation_at placed x).word
    → slice_index v.left.now (slice_index writes p) ≡ slice_index v.found.now x
    → CanSee placed turn x (slice_index writes p)
    → ((w : ℕ) → w < length placed → is_write (operation_at placed w).kind ≡ true → (operation_at placed w).word ≡ (operation_at placed x).word
    → CanSee placed turn x w → (w ≡ slice_index writes p) ⊎ (turn w < turn (slice_index writes p)))
    → ((w : ℕ) → w < length v.operations.now → IsClosingOf v.closing v.operations.now x w
    → (w ≡ slice_index writes p) ⊎ (turn w < turn (slice_index writes p)))
    → FindsNewest v turn x
newest_at rules v placed writes turn e x p lx lp word left seen last closed =
    let low : slice_index writes p < length v.operations.now = subst (λ n. slice_index writes p < n) e.is.size (e.is.trace.low p lp) in
    let same = e.is.same (slice_index writes p) low in
    record {
      newest = slice_index writes p;
      left = record {
        low = low;
        write = subst (λ k. is_write k ≡ true) same.kind (e.is.trace.writes_are p lp);
        word = sym same.word ∙ (word ∙ (e.is.same x lx).word);
        leaves = left;
      };
      seen = placed_sees rules v placed writes turn e x (slice_index writes p) lx low seen;
      last = λ w lw write on see. last w (subst (λ n. w < n) (sym e.is.size) lw) (subst (λ k. is_write k ≡ true) (sym (e.is.same w lw).kind) write)
          ((e.is.same w lw).word ∙ (on ∙ sym (e.is.same x lx).word)) (sees_placed rules v placed writes turn e x w lx lw see);
      closed = closed;
    }

-- a write on its word that is no later than a load's source
no_later : (rules : List Rule) (v : Valued) (placed : List Operation) (writes : List ℕ) (turn : ℕ → ℕ) → IsExplaining rules v placed writes turn
    → (x w : ℕ) → x < length placed → w < length placed → is_load (operation_at placed x).kind ≡ true → is_write (operation_at placed w).kind ≡ true
    → (operation_at placed w).word ≡ (operation_at placed x).word → (operation_at placed w).place ≤ (operation_at placed x).place
    → (w ≡ source_at placed writes x) ⊎ (turn w < turn (source_at placed writes x))
no_later rules v placed writes turn e x w lx lw load write on not =
    let t = e.is.trace in
    let place : ℕ = (operation_at placed x).place in
    let uses : uses_word (operation_at placed x).kind ≡ true = load_uses (operation_at placed x).kind load in
    let inside = t.place x lx uses in
    let s : ℕ = slice_index writes place in
    let there : (operation_at placed s).place ≡ place = t.places place inside in
    let source-write : is_write (operation_at placed s).kind ≡ true = t.writes_are place inside in
    elim (cases_eq (operation_at placed w).place place) [
      | inl same ↦ inl (sym (t.written w lw write) ∙ ap (λ z. slice_index writes z) same)
      | inr other ↦ inr (e.order.word_order w s lw (t.low place inside) write source-write
          (both_on placed w s write source-write (on ∙ sym (t.source x lx uses))) (omega (arith, not, other, there)))
    ]

-- of a load the newest write is its source
load_last : (rules : List Rule) (v : Valued) (placed : List Operation) (writes : List ℕ) (turn : ℕ → ℕ) → IsExplaining rules v placed writes turn
    → (x w : ℕ) → x < length placed → w < length placed → is_load (operation_at placed x).kind ≡ true → is_write (operation_at placed w).kind ≡ true
    → (operation_at placed w).word ≡ (operation_at placed x).word → CanSee placed turn x w
    → (w ≡ source_at placed writes x) ⊎ (turn w < turn (source_at placed writes x))
load_last rules v placed writes turn e x w lx lw load write on see =
    let place : ℕ = (operation_at placed x).place in
    let uses : uses_word (operation_at placed x).kind ≡ true = load_uses (operation_at placed x).kind load in
    elim (cases_lt place (operation_at placed w).place) [
      | inl behind ↦ (let uses-w = (both_on placed w w write write refl).first in
          let no = e.order.newest x w lx lw load write (record { first = uses; second = uses-w; word = sym on }) behind in
          elim see [
            | inl less ↦ absurd (let up = no.0 in omega (arith, up, less))
            | inr own ↦ absurd (no.1 own)
          ])
      | inr not ↦ no_later rules v placed writes turn e x w lx lw load write on not
    ]

-- what an atomic can see is before it
sees_before : (rules : List Rule) (placed : List Operation) (writes : List ℕ) (turn : ℕ → ℕ) → IsMemoryOrder rules placed writes turn
    → (x w : ℕ) → x < length placed → is_write (operation_at placed x).kind ≡ true → is_write (operation_at placed w).kind ≡ true
    → (operation_at placed w).word ≡ (operation_at placed x).word → CanSee placed turn x w → turn w < turn x
sees_before rules placed writes turn order x w lx writes-x writes-w on (inl less) = less
sees_before rules placed writes turn order x w lx writes-x writes-w on (inr own) = order.program w x lx (inr (record {
  own = own;
  from = from_write (operation_at placed w).kind writes-w;
  to = from_write (operation_at placed x).kind writes-x;
  key = on;
}))

reader_finds : (rules : List Rule) (v : Valued) (placed : List Operation) (writes : List ℕ) (turn : ℕ → ℕ) → IsExplaining rules v placed writes turn
    → (x : ℕ) → x < length v.operations.now → IsReader v.operations.now x → FindsNewest v turn x
reader_finds rules v placed writes turn e x lx (inl load) =
    let low-x : x < length placed = subst (λ n. x < n) (sym e.is.size) lx in
    let loads : is_load (operation_at placed x).kind ≡ true = subst (λ k. is_load k ≡ true) (sym (e.is.same x lx).kind) load in
    let uses : uses_word (operation_at placed x).kind ≡ true = load_uses (operation_at placed x).kind loads in
    newest_at rules v placed writes turn e x (operation_at placed x).place lx (e.is.trace.place x low-x uses) (e.is.trace.source x low-x uses)
    ((e.is.finds x lx).read load) (e.order.source x low-x loads)
    (λ w lw write on see. load_last rules v placed writes turn e x w low-x lw loads write on see)
    (λ w lw c. no_later rules v placed writes turn e x w low-x (subst (λ n. w < n) (sym e.is.size) lw) loads
    (subst (λ k. is_write k ≡ true) (sym (e.is.same w lw).kind) c.write)
    ((e.is.same w lw).word ∙ (sym c.word ∙ sym (e.is.same x lx).word)) (e.is.closed x w lx lw c))
reader_finds rules v placed writes turn e x lx (inr atomic) =
    let low-x : x < length placed = subst (λ n. x < n) (sym e.is.size) lx in
    let kind = (e.is.same x lx).kind ∙ atomic in
    let write-x : is_write (operation_at placed x).kind ≡ true = ap is_write kind in
    let uses : uses_word (operation_at placed x).kind ≡ true = ap uses_word kind in
    let before = (e.is.finds x lx).next atomic in
    let inside = e.is.trace.place x low-x uses in
    let last = write_before v.words placed writes turn e.is.trace (record { in_order = e.order.word_order }) x before.place low-x write-x before.next before.word in
    newest_at rules v placed writes turn e x before.place lx (omega (arith, inside, before.next)) before.word before.leaves (inl last.0)
    (λ w lw write on see. last.1 w lw write (both_on placed x w write-x write (sym on))
    (sees_before rules placed writes turn e.order x w low-x write-x write on see))
    (λ w lw c. absurd (let bad : is_load Atomic ≡ true = sym (ap is_load atomic) ∙ c.load in cc))

pub replies : (rules : List Rule) (v : Valued) (placed : List Operation) (writes : List ℕ) (turn : ℕ → ℕ) → IsValuedPlacing v placed writes
    → IsMemoryOrder rules placed writes turn → IsReplyOrder rules v turn
replies rules v placed writes turn i order = record {
  apart = λ x y lx ly same. order.apart x y (subst (λ n. x < n) (sym i.size) lx) (subst (λ n. y < n) (sym i.size) ly) same;
  program = λ x y lx ly keeps. order.program x y (subst (λ n. y < n) (sym i.size) ly)
      (keeps_placed rules v.operations.now placed x y (same_like v.operations.now placed x (i.same x lx)) (same_like v.operations.now placed y (i.same y ly)) keeps);
  opened = λ x y lx ly opens. (let write-x : is_write (operation_at placed x).kind ≡ true = subst (λ k. is_write k ≡ true) (sym (i.same x lx).kind) opens.first in
      let write-y : is_write (operation_at placed y).kind ≡ true = subst (λ k. is_write k ≡ true) (sym (i.same y ly).kind) opens.second in
      order.word_order x y (subst (λ n. x < n) (sym i.size) lx) (subst (λ n. y < n) (sym i.size) ly) write-x write-y
      (both_on placed x y write-x write-y ((i.same x lx).word ∙ (opens.word ∙ sym (i.same y ly).word))) (i.opened x y lx ly opens));
  finds = reader_finds rules v placed writes turn (record { is = i; order = order });
}

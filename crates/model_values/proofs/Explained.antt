-- What holds in every order that explains a trace.
use Rattle.std.proofs.Common.{◌≡◌, ◌≢◌, ◌⊎◌, inl, inr, ℕ, ◌+◌, ◌<◌, ◌≤◌, true, false, List, length, refl, sym, ap, subst, ◌∙◌, arith}
use Rattle.std.specs.Prelude.{slice_index, if◌then◌else◌}
use Rattle.std.proofs.lemmas.Bool.{cases_eq, cases_lt}
use Rattle.memory_models.specs.declared.kinds.Kind.{Kind}
use Rattle.memory_models.specs.declared.kinds.Kind.TheVariants.{Load, Store, Atomic, Fence}
use Rattle.memory_models.specs.declared.kinds.Operation.{Operation}
use Rattle.memory_models.specs.declared.kinds.Rule.{Rule}
use Rattle.memory_models.specs.Order.{Applies, KeepsOrder, IsMemoryOrder}
use Rattle.memory_models.specs.Trace.{has, is_load, is_write, uses_word, operation_at, source_at, rule_at, writes_rule, rule_key, IsOwn, AreOnOne, IsMemoryTrace}
use Rattle.memory_models.proofs.Orders.{load_uses}
use Rattle.model_values.specs.Known.{IsRival, IsOwnLoad, IsReadBy}
use Rattle.model_values.specs.Placed.{IsSame}
use Rattle.model_values.specs.Unordered.{IsToldAt, IsClosingOf, IsOpeningOf, ExplainsLog}

-- what explains a trace, in one
pub record IsExplained (rules : List Rule) (ops : List Operation) (sources : List ℕ) (words openings closing : ℕ) (placed : List Operation) (writes : List ℕ) (turn : ℕ → ℕ) : Type 0
  where
    pub size : length placed ≡ length ops
    pub trace : IsMemoryTrace words placed writes
    pub told : (x : ℕ) → x < length ops → IsToldAt ops sources placed writes x
    pub opened : (x y : ℕ) → x < length ops → y < length ops → IsOpeningOf openings ops x y → (operation_at placed x).place < (operation_at placed y).place
    pub closed : (x y : ℕ) → x < length ops → y < length ops → IsClosingOf closing ops x y → (operation_at placed y).place ≤ (operation_at placed x).place
    pub order : IsMemoryOrder rules placed writes turn

pub explained : (rules : List Rule) (ops : List Operation) (sources : List ℕ) (words openings closing : ℕ) (turn : ℕ → ℕ)
    → (ex : ExplainsLog rules ops sources words openings closing turn) → IsExplained rules ops sources words openings closing ex.placed ex.writes turn
explained rules ops sources words openings closing turn ex =
    record { size = ex.is.size; trace = ex.is.trace; told = ex.is.told; opened = ex.is.opened; closed = ex.is.closed; order = ex.order }

pub write_uses : (kind : Kind) → is_write kind ≡ true → uses_word kind ≡ true
write_uses Load e = cc
write_uses Store e = refl
write_uses Atomic e = refl
write_uses Fence e = cc

-- an operation is the same but for its place
pub record IsLike (ops placed : List Operation) (x : ℕ) : Type 0 where
  pub processor : (operation_at placed x).processor ≡ (operation_at ops x).processor
  pub kind : (operation_at placed x).kind ≡ (operation_at ops x).kind
  pub word : (operation_at placed x).word ≡ (operation_at ops x).word

pub same_like : (ops placed : List Operation) (x : ℕ) → IsSame ops placed x → IsLike ops placed x
same_like ops placed x same = record { processor = same.processor; kind = same.kind; word = same.word }

-- a rule keeps the same operations with their places
applies_placed : (rule : Rule) (ops placed : List Operation) (x y : ℕ) → IsLike ops placed x → IsLike ops placed y → Applies rule ops x y
    → Applies rule placed x y
applies_placed rule ops placed x y tx ty a = record {
  own = record { processor = tx.processor ∙ a.own.processor ∙ sym ty.processor; before = a.own.before };
  from = subst (λ k. has rule.from k ≡ true) (sym tx.kind) a.from;
  to = subst (λ k. has rule.to k ≡ true) (sym ty.kind) a.to;
  key = (let one : rule_key rule (operation_at placed x) ≡ rule_key rule (operation_at ops x) = ap (λ w. if rule.same_word then w else 0) tx.word in
      let two : rule_key rule (operation_at placed y) ≡ rule_key rule (operation_at ops y) = ap (λ w. if rule.same_word then w else 0) ty.word in
      one ∙ a.key ∙ sym two);
}

pub keeps_placed : (rules : List Rule) (ops placed : List Operation) (x y : ℕ) → IsLike ops placed x → IsLike ops placed y → KeepsOrder rules ops x y
    → KeepsOrder rules placed x y
keeps_placed rules ops placed x y tx ty (inl k) = inl (k.0, k.1, applies_placed (rule_at rules k.0) ops placed x y tx ty k.2)
keeps_placed rules ops placed x y tx ty (inr w) = inr (applies_placed writes_rule ops placed x y tx ty w)

pub told_same : (ops : List Operation) (sources : List ℕ) (placed : List Operation) (writes : List ℕ) (x : ℕ) → IsToldAt ops sources placed writes x
    → IsSame ops placed x
told_same ops sources placed writes x t = record { processor = t.processor; kind = t.kind; word = t.word; fence = t.fence }

pub kept_before : (rules : List Rule) (ops : List Operation) (x y : ℕ) → KeepsOrder rules ops x y → x < y
kept_before rules ops x y (inl k) = k.2.own.before
kept_before rules ops x y (inr w) = w.own.before

pub kept_rises : (rules : List Rule) (ops : List Operation) (sources : List ℕ) (words openings closing : ℕ) (turn : ℕ → ℕ)
    → ExplainsLog rules ops sources words openings closing turn → (x y : ℕ) → x < length ops → y < length ops → KeepsOrder rules ops x y → turn x < turn y
kept_rises rules ops sources words openings closing turn ex x y lx ly kept =
    let e = explained rules ops sources words openings closing turn ex in
    e.order.program x y (subst (λ n. y < n) (sym e.size) ly)
    (keeps_placed rules ops ex.placed x y (same_like ops ex.placed x (told_same ops sources ex.placed ex.writes x (e.told x lx)))
    (same_like ops ex.placed y (told_same ops sources ex.placed ex.writes y (e.told y ly))) kept)

-- two different writes on one word
pub record AreWrites (placed : List Operation) (x y : ℕ) : Type 0 where
  pub low-x : x < length placed
  pub low-y : y < length placed
  pub write-x : is_write (operation_at placed x).kind ≡ true
  pub write-y : is_write (operation_at placed y).kind ≡ true
  pub word : (operation_at placed x).word ≡ (operation_at placed y).word

on_one : (placed : List Operation) (x y : ℕ) → AreWrites placed x y → AreOnOne placed x y
on_one placed x y w = record {
  first = write_uses (operation_at placed x).kind w.write-x;
  second = write_uses (operation_at placed y).kind w.write-y;
  word = w.word;
}

flip : (placed : List Operation) (x y : ℕ) → AreWrites placed x y → AreWrites placed y x
flip placed x y w = record { low-x = w.low-y; low-y = w.low-x; write-x = w.write-y; write-y = w.write-x; word = sym w.word }

pub places_rise : (rules : List Rule) (placed : List Operation) (writes : List ℕ) (turn : ℕ → ℕ) → IsMemoryOrder rules placed writes turn
    → (x y : ℕ) → AreWrites placed x y → (operation_at placed x).place < (operation_at placed y).place → turn x < turn y
places_rise rules placed writes turn o x y w less = o.word_order x y w.low-x w.low-y w.write-x w.write-y (on_one placed x y w) less

pub places_apart : (words : ℕ) (placed : List Operation) (writes : List ℕ) → IsMemoryTrace words placed writes
    → (x y : ℕ) → AreWrites placed x y → x ≢ y → (operation_at placed x).place ≢ (operation_at placed y).place
places_apart words placed writes t x y w other same =
    other (sym (t.written x w.low-x w.write-x) ∙ ap (λ p. slice_index writes p) same ∙ t.written y w.low-y w.write-y)

-- of two writes that are not in one order of places, the other one
pub turns_place : (rules : List Rule) (words : ℕ) (placed : List Operation) (writes : List ℕ) (turn : ℕ → ℕ)
    → IsMemoryTrace words placed writes → IsMemoryOrder rules placed writes turn
    → (x y : ℕ) → AreWrites placed x y → x ≢ y → turn x < turn y → (operation_at placed x).place < (operation_at placed y).place
turns_place rules words placed writes turn t o x y w other less =
    elim (cases_lt (operation_at placed x).place (operation_at placed y).place) [
      | inl before ↦ before
      | inr high ↦ (let apart = places_apart words placed writes t x y w other in
          elim (cases_eq (operation_at placed x).place (operation_at placed y).place) [
            | inl same ↦ absurd (apart same)
            | inr differ ↦ (let lower : (operation_at placed y).place < (operation_at placed x).place = omega (arith, high, differ) in
                let back = places_rise rules placed writes turn o y x (flip placed x y w) lower in
                absurd (omega (arith, back, less)))
          ])
    ]

pub writes_placed : (ops : List Operation) (sources : List ℕ) (placed : List Operation) (writes : List ℕ) (x y : ℕ)
    → IsToldAt ops sources placed writes x → IsToldAt ops sources placed writes y → length placed ≡ length ops
    → x < length ops → y < length ops → is_write (operation_at ops x).kind ≡ true → is_write (operation_at ops y).kind ≡ true
    → (operation_at ops x).word ≡ (operation_at ops y).word → AreWrites placed x y
writes_placed ops sources placed writes x y tx ty size lx ly wx wy word = record {
  low-x = subst (λ n. x < n) (sym size) lx;
  low-y = subst (λ n. y < n) (sym size) ly;
  write-x = subst (λ k. is_write k ≡ true) (sym tx.kind) wx;
  write-y = subst (λ k. is_write k ≡ true) (sym ty.kind) wy;
  word = tx.word ∙ word ∙ sym ty.word;
}

pub opening_rises : (rules : List Rule) (ops : List Operation) (sources : List ℕ) (words openings closing : ℕ) (turn : ℕ → ℕ)
    → ExplainsLog rules ops sources words openings closing turn → (x y : ℕ) → x < length ops → y < length ops → IsOpeningOf openings ops x y → turn x < turn y
opening_rises rules ops sources words openings closing turn ex x y lx ly begins =
    let e = explained rules ops sources words openings closing turn ex in
    places_rise rules ex.placed ex.writes turn e.order x y
    (writes_placed ops sources ex.placed ex.writes x y (e.told x lx) (e.told y ly) e.size lx ly begins.first begins.second begins.word)
    (e.opened x y lx ly begins)

-- the place of a load is that of its source
pub load_place : (words : ℕ) (ops : List Operation) (sources : List ℕ) (placed : List Operation) (writes : List ℕ) (x : ℕ)
    → IsMemoryTrace words placed writes → IsToldAt ops sources placed writes x → x < length placed
    → is_load (operation_at ops x).kind ≡ true → (operation_at placed (slice_index sources x)).place ≡ (operation_at placed x).place
load_place words ops sources placed writes x t told low load =
    let uses : uses_word (operation_at placed x).kind ≡ true = load_uses (operation_at placed x).kind (subst (λ k. is_load k ≡ true) (sym told.kind) load) in
    subst (λ s. (operation_at placed s).place ≡ (operation_at placed x).place) (told.read load) (t.places (operation_at placed x).place (t.place x low uses))

before_or_not : (ops placed : List Operation) (turn : ℕ → ℕ) (x y : ℕ) → (IsOwn placed x y → ⊥) → (turn x < turn y) ⊎ IsOwn placed x y → turn x < turn y
before_or_not ops placed turn x y not (inl less) = less
before_or_not ops placed turn x y not (inr own) = absurd (not own)

own_told : (ops : List Operation) (sources : List ℕ) (placed : List Operation) (writes : List ℕ) (x y : ℕ)
    → IsToldAt ops sources placed writes x → IsToldAt ops sources placed writes y → IsOwn placed x y → IsOwn ops x y
own_told ops sources placed writes x y tx ty own = record { processor = sym tx.processor ∙ own.processor ∙ ty.processor; before = own.before }

own_placed : (ops : List Operation) (sources : List ℕ) (placed : List Operation) (writes : List ℕ) (x y : ℕ)
    → IsToldAt ops sources placed writes x → IsToldAt ops sources placed writes y → IsOwn ops x y → IsOwn placed x y
own_placed ops sources placed writes x y tx ty own = record { processor = tx.processor ∙ own.processor ∙ sym ty.processor; before = own.before }

read_by_some : (rules : List Rule) (ops : List Operation) (sources : List ℕ) (words openings closing : ℕ) (placed : List Operation) (writes : List ℕ) (turn : ℕ → ℕ)
    → IsExplained rules ops sources words openings closing placed writes turn → (x y : ℕ) → x < length ops → y < length ops → slice_index sources y ≡ x
    → is_write (operation_at ops x).kind ≡ true → (operation_at ops x).word ≡ (operation_at ops y).word
    → ((is_load (operation_at ops y).kind ≡ true) × (IsOwn ops x y → ⊥)) ⊎ ((operation_at ops y).kind ≡ Atomic) → turn x < turn y
read_by_some rules ops sources words openings closing placed writes turn e x y lx ly source write word (inl load) =
    let tx = e.told x lx in
    let ty = e.told y ly in
    let at : source_at placed writes y ≡ x = ty.read load.0 ∙ source in
    let some = e.order.source y (subst (λ n. y < n) (sym e.size) ly) (subst (λ k. is_load k ≡ true) (sym ty.kind) load.0) in
    let there : (turn x < turn y) ⊎ IsOwn placed x y = subst (λ s. (turn s < turn y) ⊎ IsOwn placed s y) at some in
    before_or_not ops placed turn x y (λ own. load.1 (own_told ops sources placed writes x y tx ty own)) there
read_by_some rules ops sources words openings closing placed writes turn e x y lx ly source write word (inr atomic) =
    let tx = e.told x lx in
    let ty = e.told y ly in
    let next : (operation_at placed y).place ≡ (operation_at placed x).place + 1 =
    subst (λ s. (operation_at placed y).place ≡ (operation_at placed s).place + 1) source (ty.next atomic) in
    places_rise rules placed writes turn e.order x y
    (writes_placed ops sources placed writes x y tx ty e.size lx ly write (subst (λ k. is_write k ≡ true) (sym atomic) refl) word)
    (omega (arith, next))

pub read_rises : (rules : List Rule) (ops : List Operation) (sources : List ℕ) (words openings closing : ℕ) (turn : ℕ → ℕ)
    → ExplainsLog rules ops sources words openings closing turn → (x y : ℕ) → x < length ops → y < length ops → IsReadBy ops sources x y → turn x < turn y
read_rises rules ops sources words openings closing turn ex x y lx ly r =
    read_by_some rules ops sources words openings closing ex.placed ex.writes turn (explained rules ops sources words openings closing turn ex) x y lx ly r.source r.written r.word r.reads

-- behind the source of a load or an atomic is behind itself
later_some : (rules : List Rule) (ops : List Operation) (sources : List ℕ) (words openings closing : ℕ) (placed : List Operation) (writes : List ℕ) (turn : ℕ → ℕ)
    → IsExplained rules ops sources words openings closing placed writes turn → (x w : ℕ) → IsRival ops sources x w
    → (operation_at placed (slice_index sources x)).place < (operation_at placed w).place
    → (is_load (operation_at ops x).kind ≡ true) ⊎ ((operation_at ops x).kind ≡ Atomic)
    → (turn x < turn w) × (is_load (operation_at ops x).kind ≡ true → IsOwn ops w x → ⊥)
later_some rules ops sources words openings closing placed writes turn e x w r above (inl load) =
    let tx = e.told x r.reader in
    let tw = e.told w r.writer in
    let low : x < length placed = subst (λ n. x < n) (sym e.size) r.reader in
    let here = load_place words ops sources placed writes x e.trace tx low load in
    let loads : is_load (operation_at placed x).kind ≡ true = subst (λ k. is_load k ≡ true) (sym tx.kind) load in
    let write : is_write (operation_at placed w).kind ≡ true = subst (λ k. is_write k ≡ true) (sym tw.kind) r.writes in
    let newest = e.order.newest x w low (subst (λ n. w < n) (sym e.size) r.writer) loads write
    (record { first = load_uses (operation_at placed x).kind loads; second = write_uses (operation_at placed w).kind write; word = tx.word ∙ r.word ∙ sym tw.word })
    (omega (arith, here, above)) in
    (newest.0, λ _ own. newest.1 (own_placed ops sources placed writes w x tw tx own))
later_some rules ops sources words openings closing placed writes turn e x w r above (inr atomic) =
    let tx = e.told x r.reader in
    let tw = e.told w r.writer in
    let next = tx.next atomic in
    let wx : is_write (operation_at ops x).kind ≡ true = subst (λ k. is_write k ≡ true) (sym atomic) refl in
    let both = writes_placed ops sources placed writes x w tx tw e.size r.reader r.writer wx r.writes r.word in
    let apart = places_apart words placed writes e.trace x w both (λ same. r.other (sym same)) in
    let less : (operation_at placed x).place < (operation_at placed w).place = omega (arith, next, above, apart) in
    (places_rise rules placed writes turn e.order x w both less, λ load _. (let bad : false ≡ true = subst (λ k. is_load k ≡ true) atomic load in cc))

source_and : (rules : List Rule) (ops : List Operation) (sources : List ℕ) (words openings closing : ℕ) (placed : List Operation) (writes : List ℕ) (turn : ℕ → ℕ)
    → IsExplained rules ops sources words openings closing placed writes turn → (x w : ℕ) → IsRival ops sources x w
    → AreWrites placed (slice_index sources x) w
source_and rules ops sources words openings closing placed writes turn e x w r =
    writes_placed ops sources placed writes (slice_index sources x) w (e.told (slice_index sources x) r.source) (e.told w r.writer) e.size r.source r.writer
    r.written r.writes (r.sourced ∙ r.word)

-- a write behind the source is behind what read it
pub later_rises : (rules : List Rule) (ops : List Operation) (sources : List ℕ) (words openings closing : ℕ) (turn : ℕ → ℕ)
    → ExplainsLog rules ops sources words openings closing turn → (x w : ℕ) → IsRival ops sources x w → turn (slice_index sources x) < turn w → turn x < turn w
later_rises rules ops sources words openings closing turn ex x w r less =
    let e = explained rules ops sources words openings closing turn ex in
    let both = source_and rules ops sources words openings closing ex.placed ex.writes turn e x w r in
    let above = turns_place rules words ex.placed ex.writes turn e.trace e.order (slice_index sources x) w both (λ same. r.unread (sym same)) less in
    (later_some rules ops sources words openings closing ex.placed ex.writes turn e x w r above r.reads).0

-- a write before what read the source, or of its own processor before it, is before the source
pub earlier_rises : (rules : List Rule) (ops : List Operation) (sources : List ℕ) (words openings closing : ℕ) (turn : ℕ → ℕ)
    → ExplainsLog rules ops sources words openings closing turn → (x w : ℕ) → IsRival ops sources x w → (turn w < turn x) ⊎ IsOwnLoad ops w x
    → turn w < turn (slice_index sources x)
earlier_rises rules ops sources words openings closing turn ex x w r why =
    let e = explained rules ops sources words openings closing turn ex in
    let s : ℕ = slice_index sources x in
    let both = source_and rules ops sources words openings closing ex.placed ex.writes turn e x w r in
    let apart = places_apart words ex.placed ex.writes e.trace s w both (λ same. r.unread (sym same)) in
    elim (cases_lt (operation_at ex.placed s).place (operation_at ex.placed w).place) [
      | inl above ↦ (let later = later_some rules ops sources words openings closing ex.placed ex.writes turn e x w r above r.reads in
          elim why [
            | inl less ↦ (let behind = later.0 in absurd (omega (arith, behind, less)))
            | inr own ↦ absurd (later.1 own.load own.own)
          ])
      | inr high ↦ places_rise rules ex.placed ex.writes turn e.order w s (flip ex.placed s w both) (omega (arith, high, apart))
    ]

-- of two operations one comes first
pub one_first : (rules : List Rule) (ops : List Operation) (sources : List ℕ) (words openings closing : ℕ) (turn : ℕ → ℕ)
    → ExplainsLog rules ops sources words openings closing turn → (x y : ℕ) → x < length ops → y < length ops → x ≢ y → (turn x < turn y) ⊎ (turn y < turn x)
one_first rules ops sources words openings closing turn ex x y lx ly other =
    let e = explained rules ops sources words openings closing turn ex in
    elim (cases_lt (turn x) (turn y)) [
      | inl less ↦ inl less
      | inr high ↦ (let apart : turn x ≢ turn y = λ same. other (e.order.apart x y (subst (λ n. x < n) (sym e.size) lx) (subst (λ n. y < n) (sym e.size) ly) same) in
          inr (omega (arith, high, apart)))
    ]

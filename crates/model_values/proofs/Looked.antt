-- What a look at a path gives.
use Rattle.std.proofs.Common.{◌≡◌, ◌⊎◌, inl, inr, ℕ, ◌+◌, ◌<◌, Bool, true, false, List, length, take, refl, sym, ap, subst, ◌∙◌, arith}
use Rattle.std.specs.Prelude.{Option, None, Some, IfNone, IfSome, IfOk, Result, Ok, Err, is_some, nat_lt, slice_index, slice_set, replicate}
use Rattle.std.proofs.lemmas.Bool.{cases_eq, cases_lt, ltb-true}
use Rattle.std.proofs.lemmas.List.{get_or-replicate, get_or-set_same, get_or-set_other, get_or-take, length-take-le, length-set, length-replicate, take_all}
use Rattle.rising.specs.Found.{IsPermutationBelow}
use Rattle.memory_models.specs.declared.kinds.Operation.{Operation}
use Rattle.memory_models.specs.declared.kinds.Rule.{Rule}
use Rattle.memory_models.specs.Order.{IsMemoryOrder}
use Rattle.model_values.specs.declared.question.Explanation.{Explanation}
use Rattle.model_values.specs.declared.question.OrderVerdict.{OrderVerdict}
use Rattle.model_values.specs.declared.question.OrderVerdict.TheVariants.{Obeys, Breaks, Undecided}
use Rattle.model_values.specs.declared.question.Unordered.{Unordered}
use Rattle.model_values.specs.declared.valued.Valued.{Valued}
use Rattle.model_values.specs.Answers.{IsExplanation, IsOrderVerdict}
use Rattle.model_values.specs.Choices.{AreChosen, AreLeft, Asks, Chooses, CutsOffChoices, Gives, GivesNone, IsChosen, MayRead}
use Rattle.model_values.specs.Choices.{choice_at, source_in}
use Rattle.model_values.specs.Forced.{IsOrderWithSome}
use Rattle.model_values.specs.Unordered.{ExplainsLog, IsOrderOf, IsPlacing}
use Rattle.model_values.specs.ValuedVerdict.{CutsOffValues, ExplainsValues}
use Rattle.model_values.specs.Values.{IsLeftBy, IsReader}
use Rattle.model_values.proofs.Chosen.{all_at, all_size, all_sources, gives_words, keeps_all, keeps_sources}

placing_of : (rules : List Rule) (v : Valued) (sources : List ℕ) (q : Unordered) → Asks rules v sources q → (placed : List Operation) (writes : List ℕ)
    → IsPlacing q.operations.now q.sources.now q.words q.openings q.closing placed writes → IsPlacing v.operations.now sources v.words v.openings v.closing placed writes
placing_of rules v sources q asks placed writes is =
    subst (λ (z : List Operation). IsPlacing z sources v.words v.openings v.closing placed writes) asks.operations
    (subst (λ (z : List ℕ). IsPlacing q.operations.now z v.words v.openings v.closing placed writes) asks.chosen
    (subst (λ (z : ℕ). IsPlacing q.operations.now q.sources.now z v.openings v.closing placed writes) asks.words
    (subst (λ (z : ℕ). IsPlacing q.operations.now q.sources.now q.words z v.closing placed writes) asks.openings
    (subst (λ (z : ℕ). IsPlacing q.operations.now q.sources.now q.words q.openings z placed writes) asks.closing is))))

-- an order with sources that left what was found explains the words
pub explains_values : {A : Type 0} (rules : List Rule) (v : Valued) (sources : List ℕ) (q : Unordered) (e : Explanation A) → Asks rules v sources q
    → AreLeft v sources → IsExplanation q e → ExplainsValues rules v e
explains_values rules v sources q e asks left is = record {
  turns = subst (λ (z : List Operation). IsPermutationBelow (length z) e.turns.items) asks.operations is.turns;
  is = gives_words v e.operations.items e.writes.items sources left (placing_of rules v sources q asks e.operations.items e.writes.items is.is);
  order = subst (λ (z : List Rule). IsMemoryOrder z e.operations.items e.writes.items (slice_index e.turns.items)) asks.by is.order;
}

pub explains_if : {A : Type 0} (rules : List Rule) (v : Valued) (sources : List ℕ) (q : Unordered) (found : Option (Explanation A)) → Asks rules v sources q
    → AreLeft v sources → IfSome found (IsExplanation q) → IfSome found (ExplainsValues rules v)
explains_if rules v sources q (Some e) asks left is = explains_values rules v sources q e asks left is
explains_if rules v sources q None asks left is = tt

-- a place among the first of a list
below_take : (path : List (ℕ × ℕ)) (depth place : ℕ) → place < depth → place < length path → place < length (take depth path)
below_take path depth place first low = elim (cases_lt (length path) depth) [
  | inl less ↦ subst (λ z. place < length z) (sym (take_all depth path (omega (arith, less)))) low
  | inr not ↦ (let size = length-take-le depth path (omega (arith, not)) in omega (arith, size, first))
]

-- the source of a chosen operation, in an order that gives the first operations of a path their sources
chosen_given : (v : Valued) (placed : List Operation) (writes : List ℕ) (path : List (ℕ × ℕ)) (depth x s : ℕ) → IsChosen path depth x s
    → Gives v placed writes (take depth path) (length (take depth path)) → source_in v placed writes x ≡ s
chosen_given v placed writes path depth x s c gives =
    let inside : c.place < length (take depth path) = below_take path depth c.place c.first c.low in
    let same : choice_at (take depth path) c.place ≡ choice_at path c.place = get_or-take depth path c.place (0, 0) c.first in
    let at = subst (λ z. source_in v placed writes z.0 ≡ z.1) same (gives c.place inside) in
    subst (λ z. source_in v placed writes z ≡ s) c.operation (at ∙ c.source)

-- no order has the sources of the first operations of a path
pub refuted_path : (rules : List Rule) (v : Valued) (path : List (ℕ × ℕ)) (depth : ℕ) (sources : List ℕ) (q : Unordered) → Asks rules v sources q
    → AreChosen path depth (length v.operations.now) sources → ((turn : ℕ → ℕ) → IsOrderWithSome q turn → ⊥) → GivesNone rules v (take depth path)
refuted_path rules v path depth sources q asks chosen none placed writes e gives = none e.turn (record {
  sources = all_sources v placed writes;
  size = (let all = all_size v placed writes in let size = chosen.size in let same : length q.sources.now ≡ length sources = ap length asks.chosen in
      omega (arith, all, size, same));
  agrees = λ x lx source. (let low : x < length v.operations.now = subst (λ (z : List Operation). x < length z) asks.operations lx in
      let at : slice_index q.sources.now x ≡ slice_index sources x = ap (λ z. slice_index z x) asks.chosen in
      let inside : slice_index sources x < length v.operations.now =
      subst (λ (z : List Operation). slice_index sources x < length z) asks.operations (subst (λ z. z < length q.operations.now) at source) in
      all_at v placed writes x low
      ∙ (chosen_given v placed writes path depth x (slice_index sources x) (chosen.each x low inside) gives ∙ sym at));
  is = asked (record { placed = placed; writes = writes; is = keeps_all v placed writes e.valued; order = e.order });
})
  where
    asked : ExplainsLog rules v.operations.now (all_sources v placed writes) v.words v.openings v.closing e.turn
        → ExplainsLog q.rules.now q.operations.now (all_sources v placed writes) q.words q.openings q.closing e.turn
    asked order =
        subst (λ (z : List Rule). ExplainsLog z q.operations.now (all_sources v placed writes) q.words q.openings q.closing e.turn) (sym asks.by)
        (subst (λ (z : List Operation). ExplainsLog rules z (all_sources v placed writes) q.words q.openings q.closing e.turn) (sym asks.operations)
        (subst (λ (z : ℕ). ExplainsLog rules v.operations.now (all_sources v placed writes) z q.openings q.closing e.turn) (sym asks.words)
        (subst (λ (z : ℕ). ExplainsLog rules v.operations.now (all_sources v placed writes) v.words z q.closing e.turn) (sym asks.openings)
        (subst (λ (z : ℕ). ExplainsLog rules v.operations.now (all_sources v placed writes) v.words v.openings z e.turn) (sym asks.closing) order))))

-- the order with the sources of all operations
all_path : (rules : List Rule) (v : Valued) (path : List (ℕ × ℕ)) (sources : List ℕ) (q : Unordered) → Asks rules v sources q
    → AreChosen path (length path) (length v.operations.now) sources → AreLeft v sources → ((turn : ℕ → ℕ) → IsOrderOf q turn → ⊥)
    → GivesNone rules v (take (length path) path)
all_path rules v path sources q asks chosen left none placed writes e gives = none e.turn
    (asked (record { placed = placed; writes = writes; is = keeps_sources v placed writes sources e.valued same; order = e.order }))
  where
    same : (x : ℕ) → x < length v.operations.now → IsReader v.operations.now x → source_in v placed writes x ≡ slice_index sources x
    same x low reads = chosen_given v placed writes path (length path) x (slice_index sources x) (chosen.each x low (left x low reads).low) gives

    asked : ExplainsLog rules v.operations.now sources v.words v.openings v.closing e.turn → IsOrderOf q e.turn
    asked order =
        subst (λ (z : List Rule). ExplainsLog z q.operations.now q.sources.now q.words q.openings q.closing e.turn) (sym asks.by)
        (subst (λ (z : List Operation). ExplainsLog rules z q.sources.now q.words q.openings q.closing e.turn) (sym asks.operations)
        (subst (λ (z : List ℕ). ExplainsLog rules v.operations.now z q.words q.openings q.closing e.turn) (sym asks.chosen)
        (subst (λ (z : ℕ). ExplainsLog rules v.operations.now sources z q.openings q.closing e.turn) (sym asks.words)
        (subst (λ (z : ℕ). ExplainsLog rules v.operations.now sources v.words z q.closing e.turn) (sym asks.openings)
        (subst (λ (z : ℕ). ExplainsLog rules v.operations.now sources v.words v.openings z e.turn) (sym asks.closing) order)))))

-- what a verdict on the sources of all operations says of a path
abbrev pub SeesOrder : {A : Type 0} → List Rule → Valued → List (ℕ × ℕ) → ℕ → OrderVerdict A → Type 0
SeesOrder rules v path left (Obeys e) = ExplainsValues rules v e
SeesOrder rules v path left Breaks = GivesNone rules v (take (length path) path)
SeesOrder rules v path left Undecided = (looked nodes : ℕ) → Chooses rules v path false looked → looked + left ≡ nodes
    → CutsOffValues rules v (Some nodes) ⊎ CutsOffChoices rules v nodes

-- what the search for an order with all sources gives
pub seen_order : {A : Type 0} (rules : List Rule) (v : Valued) (path : List (ℕ × ℕ)) (left : ℕ) (sources : List ℕ) (q : Unordered) (verdict : OrderVerdict A)
    → Asks rules v sources q → AreChosen path (length path) (length v.operations.now) sources → AreLeft v sources → IsOrderVerdict q (Some left) verdict
    → SeesOrder rules v path left verdict
seen_order rules v path left sources q (Obeys e) asks chosen all is = explains_values rules v sources q e asks all is
seen_order rules v path left sources q Breaks asks chosen all is = all_path rules v path sources q asks chosen all is
seen_order rules v path left sources q Undecided asks chosen all is = λ looked nodes search sum. inr (record {
  path = path;
  looked = looked;
  search = search;
  left = left;
  most = sum;
  cut = inr (record { sources = sources; chosen = chosen; all = all; question = q; asks = asks; cut = is });
})

-- no source is chosen at first
pub none_chosen : (path : List (ℕ × ℕ)) (depth count : ℕ) (sources : List ℕ) → sources ≡ replicate count count → AreChosen path depth count sources
none_chosen path depth count sources is = subst (λ z. AreChosen path depth count z) (sym is) (record {
  size = length-replicate count count;
  each = λ x low inside. (let at : slice_index (replicate count count) x ≡ count = get_or-replicate count x count 0 low in absurd (omega (arith, at, inside)));
})

put_chosen : (path : List (ℕ × ℕ)) (depth count k x s : ℕ) (old : List ℕ) → AreChosen path depth count old → k < length path → k < depth
    → choice_at path k ≡ (x, s) → AreChosen path depth count (slice_set old x s)
put_chosen path depth count k x s old are low first is = record {
  size = length-set old x s ∙ are.size;
  each = λ y less inside. (elim (cases_eq y x) [
    | inl same ↦ (let room : x < length old = subst (λ n. x < n) (sym are.size) (subst (λ n. n < count) same less) in
        let at : slice_index (slice_set old x s) y ≡ s = ap (slice_index (slice_set old x s)) same ∙ get_or-set_same old x s 0 room in
        record { place = k; low = low; first = first; operation = ap (λ c. c.0) is ∙ sym same; source = ap (λ c. c.1) is ∙ sym at })
    | inr other ↦ (let at : slice_index (slice_set old x s) y ≡ slice_index old y = get_or-set_other old x y s 0 other in
        subst (λ z. IsChosen path depth y z) (sym at) (are.each y less (subst (λ z. z < count) at inside)))
  ]);
}

-- one source more, if it is wanted
pub chosen_more : (path : List (ℕ × ℕ)) (depth count k x s : ℕ) (wanted : Bool) (old new : List ℕ) → AreChosen path depth count old → k < length path
    → (wanted ≡ true → k < depth) → choice_at path k ≡ (x, s) → (wanted ≡ false → new ≡ old) → (wanted ≡ true → new ≡ slice_set old x s)
    → AreChosen path depth count new
chosen_more path depth count k x s false old new are low first is kept put = subst (λ z. AreChosen path depth count z) (sym (kept refl)) are
chosen_more path depth count k x s true old new are low first is kept put =
    subst (λ z. AreChosen path depth count z) (sym (put refl)) (put_chosen path depth count k x s old are low (first refl) is)

pub is_below : (k depth : ℕ) → nat_lt k depth ≡ true → k < depth
is_below k depth is = ltb-true k depth is

pub refuted_if : {E : Type 0} (rules : List Rule) (v : Valued) (path : List (ℕ × ℕ)) (depth : ℕ) (sources : List ℕ) (q : Unordered) (r : Result Bool E)
    → Asks rules v sources q → AreChosen path depth (length v.operations.now) sources
    → IfOk r (λ refuted. refuted ≡ true → (turn : ℕ → ℕ) → IsOrderWithSome q turn → ⊥)
    → IfOk r (λ refuted. refuted ≡ true → GivesNone rules v (take depth path))
refuted_if rules v path depth sources q (Ok refuted) asks chosen is = λ yes. refuted_path rules v path depth sources q asks chosen (is yes)
refuted_if rules v path depth sources q (Err e) asks chosen is = tt

-- of one reader more the source left what was found
pub left_more : (v : Valued) (sources : List ℕ) (x : ℕ)
    → ((y : ℕ) → y < x → IsReader v.operations.now y → IsLeftBy v.operations.now v.left.now v.found.now y (slice_index sources y))
    → (IsReader v.operations.now x → IsLeftBy v.operations.now v.left.now v.found.now x (slice_index sources x)) → (y : ℕ) → y < x + 1
    → IsReader v.operations.now y → IsLeftBy v.operations.now v.left.now v.found.now y (slice_index sources y)
left_more v sources x before one y low = elim (cases_lt y x) [
  | inl less ↦ before y less
  | inr not ↦ (let same : x ≡ y = omega (arith, low, not) in
      subst (λ z. IsReader v.operations.now z → IsLeftBy v.operations.now v.left.now v.found.now z (slice_index sources z)) same one)
]

pub left_read : (v : Valued) (sources : List ℕ) (x s : ℕ) → s ≡ slice_index sources x → MayRead v x s
    → IsLeftBy v.operations.now v.left.now v.found.now x (slice_index sources x)
left_read v sources x s is may = subst (λ z. IsLeftBy v.operations.now v.left.now v.found.now x z) is may.left

-- no order gives the operations of a path their sources, where none has those
pub breaks_path : {A : Type 0} (rules : List Rule) (v : Valued) (path : List (ℕ × ℕ)) (sources : List ℕ) (q : Unordered) (nodes : Option ℕ)
    (verdict : OrderVerdict A) → verdict ≡ Breaks → Asks rules v sources q → AreChosen path (length path) (length v.operations.now) sources
    → AreLeft v sources → IsOrderVerdict q nodes verdict → GivesNone rules v (take (length path) path)
breaks_path {A = A} rules v path sources q nodes verdict is asks chosen left said =
    all_path rules v path sources q asks chosen left (subst (λ z. IsOrderVerdict {A = A} q nodes z) is said)

-- no operation is open
pub left_where : (v : Valued) (sources : List ℕ) (found : Option ℕ) (some : Bool) → some ≡ is_some found → some ≡ false
    → IfNone found (AreLeft v sources) → AreLeft v sources
left_where v sources None some is none left = left
left_where v sources (Some x) some is none left = absurd (let bad : true ≡ false = sym is ∙ none in cc)

pub explained_ok : {A E : Type 0} (rules : List Rule) (v : Valued) (sources : List ℕ) (q : Unordered) (r : Result (Option (Explanation A)) E)
    → Asks rules v sources q → AreLeft v sources → IfOk r (λ found. IfSome found (IsExplanation q))
    → IfOk r (λ found. IfSome found (ExplainsValues rules v))
explained_ok rules v sources q (Ok found) asks left is = explains_if rules v sources q found asks left is
explained_ok rules v sources q (Err e) asks left is = tt

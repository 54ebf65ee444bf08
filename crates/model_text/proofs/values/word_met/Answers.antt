use Rattle.std.proofs.Common.{◌≡◌, ◌+◌, ◌<◌, ◌∙◌, ap, arith, get_or, length, List, ℕ}
use Rattle.std.specs.Prelude.{min}
use Rattle.std.proofs.lemmas.List.FromFn.{length-map-range_with_len, get_or-map-range_with_len}
use Rattle.memory_models.specs.declared.kinds.Operation.{Operation}
use Rattle.memory_models.specs.declared.kinds.Kind.TheVariants.{Load}
use Rattle.memory_models.specs.Trace.{operation_at}
use Rattle.model_text.specs.Values.{word_of_writes, writes_before, writes_before_one}
use Rattle.model_text.proofs.Growing.{same_read, word_of_min}
use Rattle.model_text.proofs.values.word_met.Goals as goal

pub offset_bounds-words-count : goal.offset_bounds-words-count
offset_bounds-words-count g c =
    let steps = c.args.trace.now.steps.items in
    let writes = c.args.trace.now.writes.items in
    let long : length c.args.words.now ≡ length writes + 1 =
    ap length c.requires.words ∙ length-map-range_with_len (word_of_writes steps writes) 0 (length writes + 1) in
    let low : c.writes_before-count.result < length c.args.words.now = omega (arith, c.writes_before-count.ensures, c.len.ensures, long) in
    omega (arith, low)

pub bounds-words-count : goal.bounds-words-count
bounds-words-count g c =
    let steps = c.args.trace.now.steps.items in
    let writes = c.args.trace.now.writes.items in
    let long : length c.args.words.now ≡ length writes + 1 =
    ap length c.requires.words ∙ length-map-range_with_len (word_of_writes steps writes) 0 (length writes + 1) in
    omega (arith, c.writes_before-count.ensures, c.len.ensures, long)

pub returns : goal.returns
returns g c =
    let steps = c.args.trace.now.steps.items in
    let ops = c.args.trace.now.operations.items in
    let writes = c.args.trace.now.writes.items in
    let x : ℕ = c.args.x in
    let count : ℕ = c.writes_before-count.result in
    let none : Operation = record { processor = 0; kind = Load; word = 0; place = 0 } in
    let is : c.index.result.now ≡ operation_at ops x = c.index.ensures ∙ same_read ops x c.index.result.now none c.requires.x in
    let all : c.len.result ≡ length writes = omega (arith, c.len.ensures) in
    let first : count ≡ min (writes_before ops x) (length writes) =
    c.writes_before-count.ensures
    ∙ (ap (λ (o : Operation). min (writes_before_one o) c.len.result) is ∙ ap (min (writes_before ops x)) all) in
    let low : count < length writes + 1 = omega (arith, first) in
    ap (λ (ws : List ℕ). get_or ws count 0) c.requires.words
    ∙ (get_or-map-range_with_len (word_of_writes steps writes) 0 (length writes + 1) count count 0 low (omega arith)
    ∙ (ap (word_of_writes steps writes) first ∙ word_of_min steps writes (writes_before ops x)))

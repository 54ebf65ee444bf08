use Rattle.std.proofs.Common.{◌≡◌, ℕ, suc, ◌+◌, ◌-◌, ◌*◌, ◌<◌, true, false, length, sym, ◌∙◌, ap, subst, arith, eq-eqb}
use Rattle.std.specs.Prelude.{slice_index, ◌==◌}
use Rattle.std.proofs.lemmas.Bool.{ne_eqb}
use Rattle.std.proofs.lemmas.List.{get_or_read}
use Rattle.network_text.specs.Network.{count_of}
use Rattle.network_text.specs.Choosing.{further_at}
use Rattle.network_text.specs.ChoosingRead.{choosing_text_of}
use Rattle.network_text.proofs.Layers.{place_low, place_more, place_here, place_same}
use Rattle.network_text.proofs.choosing.Choosing.place_for.Goals as goal

pub returns-then-index-len-clause-value : goal.returns-then-index-len-clause-value
returns-then-index-len-clause-value g c =
    let s = c.args.self.now in
    let t = choosing_text_of s in
    let l : ℕ = c.loop-layer.layer in
    let low : l < s.layers = omega (arith, c.loop-layer-test.true, c.loop-layer.auto.layer-end) in
    let n : s.layers - l ≡ suc (s.layers - (l + 1)) = omega arith in
    let cells : c.len.result ≡ length s.fixed.choices.items = omega (arith, c.len.ensures) in
    let count : c.len-in-loop-layer.result ≡ length s.fixed.kinds.items = omega (arith, c.len-in-loop-layer.ensures) in
    let inside : l * c.len.result + c.args.cell < length s.further.items =
    subst (λ z. l * z + c.args.cell < length s.further.items) (sym cells)
    (place_low s.layers (length s.fixed.choices.items) l c.args.cell (length s.further.items) c.requires.read.rows low c.requires.cell) in
    let value : further_at t l c.args.cell ≡ c.index.result.now =
    ap (λ z. slice_index s.further.items (l * z + c.args.cell)) (sym cells) ∙ sym (get_or_read s.further.items _ _ inside c.index.ensures 0) in
    let free : (further_at t l c.args.cell == count_of t.fixed) ≡ true = eq-eqb _ _ (value ∙ (c.if-index-len.true ∙ count)) in
    sym (place_here t c.args.cell c.args.choice l (s.layers - l) (s.layers - (l + 1)) n free) ∙ c.loop-layer.invariant

pub returns-then-index-choice-clause-value : goal.returns-then-index-choice-clause-value
returns-then-index-choice-clause-value g c =
    let s = c.args.self.now in
    let t = choosing_text_of s in
    let l : ℕ = c.loop-layer.layer in
    let low : l < s.layers = omega (arith, c.loop-layer-test.true, c.loop-layer.auto.layer-end) in
    let n : s.layers - l ≡ suc (s.layers - (l + 1)) = omega arith in
    let cells : c.len.result ≡ length s.fixed.choices.items = omega (arith, c.len.ensures) in
    let count : c.len-in-loop-layer.result ≡ length s.fixed.kinds.items = omega (arith, c.len-in-loop-layer.ensures) in
    let inside : l * c.len.result + c.args.cell < length s.further.items =
    subst (λ z. l * z + c.args.cell < length s.further.items) (sym cells)
    (place_low s.layers (length s.fixed.choices.items) l c.args.cell (length s.further.items) c.requires.read.rows low c.requires.cell) in
    let value : further_at t l c.args.cell ≡ c.index.result.now =
    ap (λ z. slice_index s.further.items (l * z + c.args.cell)) (sym cells) ∙ sym (get_or_read s.further.items _ _ inside c.index.ensures 0) in
    let taken : (further_at t l c.args.cell == count_of t.fixed) ≡ false = ne_eqb _ _ (λ e. c.if-index-len.false (sym value ∙ (e ∙ sym count))) in
    let again : further_at t l c.args.cell ≡ c.index-in-loop-layer.result.now =
    ap (λ z. slice_index s.further.items (l * z + c.args.cell)) (sym cells) ∙ sym (get_or_read s.further.items _ _ inside c.index-in-loop-layer.ensures 0) in
    sym (place_same t c.args.cell c.args.choice l (s.layers - l) (s.layers - (l + 1)) n taken (eq-eqb _ _ (again ∙ c.if-index-choice.true)))
    ∙ c.loop-layer.invariant

pub loop-layer-preserved : goal.loop-layer-preserved
loop-layer-preserved g c =
    let s = c.args.self.now in
    let t = choosing_text_of s in
    let l : ℕ = c.loop-layer.layer in
    let low : l < s.layers = omega (arith, c.loop-layer-test.true, c.loop-layer.auto.layer-end) in
    let n : s.layers - l ≡ suc (s.layers - (l + 1)) = omega arith in
    let cells : c.len.result ≡ length s.fixed.choices.items = omega (arith, c.len.ensures) in
    let count : c.len-in-loop-layer.result ≡ length s.fixed.kinds.items = omega (arith, c.len-in-loop-layer.ensures) in
    let inside : l * c.len.result + c.args.cell < length s.further.items =
    subst (λ z. l * z + c.args.cell < length s.further.items) (sym cells)
    (place_low s.layers (length s.fixed.choices.items) l c.args.cell (length s.further.items) c.requires.read.rows low c.requires.cell) in
    let value : further_at t l c.args.cell ≡ c.index.result.now =
    ap (λ z. slice_index s.further.items (l * z + c.args.cell)) (sym cells) ∙ sym (get_or_read s.further.items _ _ inside c.index.ensures 0) in
    let taken : (further_at t l c.args.cell == count_of t.fixed) ≡ false = ne_eqb _ _ (λ e. c.if-index-len.false (sym value ∙ (e ∙ sym count))) in
    let again : further_at t l c.args.cell ≡ c.index-in-loop-layer.result.now =
    ap (λ z. slice_index s.further.items (l * z + c.args.cell)) (sym cells) ∙ sym (get_or_read s.further.items _ _ inside c.index-in-loop-layer.ensures 0) in
    sym (place_more t c.args.cell c.args.choice l (s.layers - l) (s.layers - (l + 1)) n taken
    (ne_eqb _ _ (λ e. c.if-index-choice.false (sym again ∙ e))))
    ∙ c.loop-layer.invariant

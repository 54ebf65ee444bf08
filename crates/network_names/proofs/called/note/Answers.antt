use Rattle.std.proofs.Common.{◌≡◌, ◌<◌, ◌∙◌, [], length, map, ap, sym, subst, get_or, arith, Some}
use Rattle.std.proofs.lemmas.List.{map-set, get_or-map, length-map}
use Rattle.std.proofs.lemmas.Bool.Decides.{nat_tests}
use Rattle.lexer.specs.Words.{first_words}
use Rattle.network_names.specs.Called.{number_named}
use Rattle.network_names.proofs.Noting.{noted_new, noted_old, names_other}
use Rattle.network_names.proofs.called.note.Goals as goal
use Rattle.network_names.proofs.called.note.Goals.{else-x-len-via-then-x-len+else-is_empty, else-x-len-via-else-x-len}

pub returns-then-is_empty-clause-each : goal.returns-then-is_empty-clause-each
returns-then-is_empty-clause-each g c = λ x h.
    let line = c.args.line.now in
    let naming = c.args.naming in
    let n = c.in-Some.number in
    let before = map (λ l. l.now) c.args.found.now.items in
    let is : number_named naming (first_words line) ≡ Some n =
    ap (number_named naming) (sym c.first_words-count.ensures.words) ∙ sym c.in-Some.ensures in
    let low : n < length c.args.found.now.items = omega (arith, c.if-x-len.true, c.len.ensures) in
    let at : get_or before n [] ≡ c.index.result.now.now =
    get_or-map (λ l. l.now) c.args.found.now.items n c.index.result.now [] low ∙ sym (ap (λ l. l.now) c.index.ensures) in
    let zero : length c.index.result.now.now ≡ 0 = grind (arith, nat_tests, c.is_empty.ensures, c.if-is_empty.true) in
    let size = length-map c.args.found.now.items (λ l. l.now) in
    ap (λ l. get_or l x []) (map-set (λ l. l.now) c.args.found.now.items n c.args.line)
    ∙ noted_new naming line n before is (omega (arith, low, size)) (ap length at ∙ zero) x (omega (arith, h, size))

pub returns-else-x-len-clause-each : goal.returns-else-x-len-clause-each
returns-else-x-len-clause-each g c = λ x h.
    let line = c.args.line.now in
    let naming = c.args.naming in
    let n = c.in-Some.number in
    let before = map (λ l. l.now) c.args.found.now.items in
    let is : number_named naming (first_words line) ≡ Some n =
    ap (number_named naming) (sym c.first_words-count.ensures.words) ∙ sym c.in-Some.ensures in
    elim c.else-x-len.branch [
      | else-x-len-via-then-x-len+else-is_empty w ↦
          let low : n < length c.args.found.now.items = omega (arith, w.if-x-len.true, c.len.ensures) in
          let at : get_or before n [] ≡ w.index.result.now.now =
          get_or-map (λ l. l.now) c.args.found.now.items n w.index.result.now [] low ∙ sym (ap (λ l. l.now) w.index.ensures) in
          let some : 0 < length w.index.result.now.now = grind (arith, nat_tests, w.is_empty.ensures, w.if-is_empty.false) in
          noted_old naming line n before is (subst (λ l. 0 < length l) (sym at) some) x
      | else-x-len-via-else-x-len w ↦
          sym (names_other naming x n line (get_or before x []) is (λ e. omega (arith, h, e, w.if-x-len.false, c.len.ensures)))
    ]

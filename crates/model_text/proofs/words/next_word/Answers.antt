use Rattle.std.proofs.Common.{◌≡◌, ◌<◌, ◌-◌, ℕ, List, length, take, drop, arith}
use Rattle.std.proofs.lemmas.List.{take_rest}
use Rattle.std.proofs.lemmas.Bool.Decides.{nat_tests}
use Rattle.lexer.proofs.WordCuts.{first_word, no_word}
use Rattle.model_text.proofs.words.next_word.Goals as goal

pub returns-then-is_empty-clause-none : goal.returns-then-is_empty-clause-none
returns-then-is_empty-clause-none c =
    let line : List ℕ = c.args.line.now in
    let rest : List ℕ = take (length line - c.blanks_end.result) (drop c.blanks_end.result line) in
    let none : length rest ≡ 0 = grind (arith, nat_tests, c.if-is_empty.ensures) in
    no_word line rest c.blanks_end.result c.blanks_end.ensures.value (take_rest line c.blanks_end.result) none

pub returns-clause-some : goal.returns-clause-some
returns-clause-some c =
    let line : List ℕ = c.args.line.now in
    let rest : List ℕ = take (length line - c.blanks_end.result) (drop c.blanks_end.result line) in
    let some : 0 < length rest = grind (arith, nat_tests, c.if-is_empty.ensures) in
    rw (take_rest rest c.word_end-end.result)
    (first_word line rest c.blanks_end.result c.word_end-end.result c.blanks_end.ensures.value (take_rest line c.blanks_end.result) some
    c.word_end-end.ensures.value)

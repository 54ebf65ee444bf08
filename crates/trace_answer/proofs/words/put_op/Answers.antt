use Rattle.std.proofs.Common.{◌≡◌, length, ◌∙◌, ap, arith}
use Rattle.packet.specs.Kinds.{code_of}
use Rattle.packet.specs.Names.{code_word, values_listed}
use Rattle.packet.specs.Spelling.{values_of_op}
use Rattle.trace_answer.proofs.Operations.{short}
use Rattle.trace_answer.proofs.words.put_op.Goals as goal

pub put_values-requires : goal.put_values-requires
put_values-requires c =
    let named : length c.word-word.result.now ≡ length (code_word (code_of c.args.op)) = ap length (c.word-word.ensures ∙ ap code_word c.code.ensures) in
    let listed : length (values_listed c.values.result) ≡ length (values_of_op c.args.op) = ap length c.values.ensures in
    let fits = short c.args.op in
    let room = c.requires in
    let behind_word = c.put_word.ensures.len in
    let behind_index = c.put_index.ensures.len in
    omega arith

pub returns-clause-len : goal.returns-clause-len
returns-clause-len c =
    let named : length c.word-word.result.now ≡ length (code_word (code_of c.args.op)) = ap length (c.word-word.ensures ∙ ap code_word c.code.ensures) in
    let listed : length (values_listed c.values.result) ≡ length (values_of_op c.args.op) = ap length c.values.ensures in
    let fits = short c.args.op in
    let behind_word = c.put_word.ensures.len in
    let behind_index = c.put_index.ensures.len in
    let behind_values = c.put_values.ensures.len in
    omega arith

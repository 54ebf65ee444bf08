use Rattle.std.specs.Prelude.{codes, decimal}
use Rattle.model_answer.proofs.Grown.{three_more}
use Rattle.model_answer.proofs.part_text.put_head.Goals as goal

pub returns : goal.returns
returns g c = three_more c.args.text.now.items (codes "log 1\nwords ") (decimal c.args.words) (codes "\n") c.put.new.text.items
    c.put_number.new.text.items c.put-2.new.text.items c.in_ok-put.ensures c.in_ok-put_number.ensures c.in_ok-put-2.ensures

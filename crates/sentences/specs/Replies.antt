-- What the operations of a processor were replied, by its answers.
use Rattle.std.specs.Prelude.{ℕ, ◌==◌, List, length, map, find, Option, option_map}
use Rattle.std.specs.List.{range_with_len}
use Rattle.one_order.specs.declared.answer.Answer.{Answer}
use Rattle.one_order.specs.Scripts.{reply_number}

-- the number replied to the operation of an index, if it is answered
abbrev pub reply_in : List Answer → ℕ → Option ℕ
reply_in answers i = option_map (λ a. reply_number a.reply) (find (λ a. a.index == i) answers)

-- the numbers replied to the first operations, as many as there are answers: behind the first one
-- that isn't answered nothing counts
abbrev pub replies_in : List Answer → List (Option ℕ)
replies_in answers = map (reply_in answers) (range_with_len 0 (length answers))

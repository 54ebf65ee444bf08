-- Three texts one behind another.
use Rattle.std.proofs.Common.{◌≡◌, ℕ, List, ◌++◌, ◌∙◌, ap, append_assoc}
use Rattle.std.specs.Prelude.{Result, Ok, Err, OnOk, is_ok, if◌then◌else◌}

pub three_put : {Y E : Type 0} (result : Result Y E) (start one two new head lines tail : List ℕ) → one ≡ start ++ head → two ≡ one ++ lines
    → new ≡ (if is_ok result then two ++ tail else two) → OnOk result (new ≡ start ++ (head ++ (lines ++ tail)))
three_put (Ok y) start one two new head lines tail a b is =
    is
    ∙ ap (λ t. t ++ tail) b
    ∙ ap (λ t. (t ++ lines) ++ tail) a
    ∙ append_assoc (start ++ head) lines tail
    ∙ append_assoc start head (lines ++ tail)
three_put (Err e) start one two new head lines tail a b is = tt

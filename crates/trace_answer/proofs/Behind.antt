-- A text that was taken, and one behind it.
use Rattle.std.proofs.Common.{ℕ, List, [], ◌++◌, Option, ap, ◌∙◌, append_assoc, append-nil, subst}
use Rattle.std.specs.Prelude.{Result, Ok, Err, OnOk, OnErr}
use Rattle.std.specs.Io.KnownBytes.{Appends}
use Rattle.report_lines.specs.Taken.{AppendsFront}
use Rattle.report_lines.proofs.Fronts.{front_behind}

pub on_ok : {T E P Q : Type 0} (r : Result T E) → (P → Q) → OnOk r P → OnOk r Q
on_ok (Ok x) f h = f h
on_ok (Err e) f h = h

pub on_err : {T E P Q : Type 0} (r : Result T E) → (P → Q) → OnErr r P → OnErr r Q
on_err (Ok x) f h = h
on_err (Err e) f h = f h

-- a beginning of the first text is one of both
pub front_of_first : (a b : Option (List ℕ)) (x y : List ℕ) → AppendsFront a b x → AppendsFront a b (x ++ y)
front_of_first a b x y h = (h.0, h.1 ++ y, ap (λ (t : List ℕ). t ++ y) h.2 ∙ append_assoc h.0 h.1 y, h.3)

-- the first text and a beginning of the second are a beginning of both
pub front_of_second : (a b c : Option (List ℕ)) (x y : List ℕ) → Appends a b x → AppendsFront b c y → AppendsFront a c (x ++ y)
front_of_second a b c x y taken more =
    subst (λ (t : List ℕ). AppendsFront a c (x ++ t)) (append-nil y) (front_behind a b c x y [] taken more)

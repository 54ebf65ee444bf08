-- What of a report an editor may have changed (this project's own format).
use Rattle.std.specs.Prelude.{ℕ, Bool, ◌==◌, List, [], ◌∷◌, Option, Some, None, if◌then◌else◌, codes, nat_eq}
use Rattle.std.specs.List.{list_any, starts_with}

-- a text has a carriage return
abbrev pub has_return : List ℕ → Bool
has_return text = list_any (λ byte. byte == 13) text

-- a byte order mark in front, or carriage returns
abbrev pub report_hint : List ℕ → Option (List ℕ)
report_hint text =
    if starts_with nat_eq text (239 ∷ 187 ∷ 191 ∷ [])
    then Some (codes "it begins with a byte order mark, and a report with torusmem")
    else (if has_return text
    then Some (codes "it has carriage returns, and the lines of a report end in line feeds alone")
    else None)

-- Reasons as tests.
use Rattle.std.specs.Prelude.{ℕ, ◌==◌, ◌&&◌, not, nat_lt, Bool, List}
use Rattle.memory_models.specs.declared.kinds.Operation.{Operation}
use Rattle.memory_models.specs.declared.kinds.Rule.{Rule}
use Rattle.memory_models.specs.Trace.{has, is_load, is_write, operation_at, rule_key, source_at}

-- whether a rule keeps two operations in their order
abbrev pub applies_at : Rule → List Operation → ℕ → ℕ → Bool
applies_at rule ops x y =
    ((operation_at ops x).processor == (operation_at ops y).processor)
    && (nat_lt x y
    && (has rule.from (operation_at ops x).kind
    && (has rule.to (operation_at ops y).kind
    && (rule_key rule (operation_at ops x) == rule_key rule (operation_at ops y)))))

-- whether a load read what an operation wrote that isn't of its processor before it
abbrev pub reads_from_at : List Operation → List ℕ → ℕ → ℕ → Bool
reads_from_at ops writes x y =
    (source_at ops writes y == x)
    && (is_load (operation_at ops y).kind
    && not (((operation_at ops x).processor == (operation_at ops y).processor) && nat_lt x y))

-- whether a load read an older write than one that its processor made before it on its word
abbrev pub is_stale_write_at : List Operation → ℕ → ℕ → Bool
is_stale_write_at ops x y =
    is_load (operation_at ops y).kind
    && (is_write (operation_at ops x).kind
    && (((operation_at ops x).processor == (operation_at ops y).processor)
    && (nat_lt x y
    && (((operation_at ops x).word == (operation_at ops y).word)
    && nat_lt (operation_at ops y).place (operation_at ops x).place))))

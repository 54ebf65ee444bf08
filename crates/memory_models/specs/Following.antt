-- Rules whose second kinds are among their first ones.
use Rattle.std.specs.Prelude.{◌≡◌, ℕ, ◌==◌, ◌&&◌, ◌||◌, not, nat_lt, Bool, true, List, length}
use Rattle.memory_models.specs.declared.kinds.Kind.{Kind}
use Rattle.memory_models.specs.declared.kinds.Operation.{Operation}
use Rattle.memory_models.specs.declared.kinds.Rule.{Rule}
use Rattle.memory_models.specs.Trace.{has, operation_at}

-- a rule's second kinds are among its first ones
abbrev pub IsChainedOn : Rule → Type 0
IsChainedOn rule = (kind : Kind) → has rule.to kind ≡ true → has rule.from kind ≡ true

-- whether its first kinds are among its second ones
abbrev pub is_chained : Rule → Bool
is_chained rule =
    (not rule.from.load || rule.to.load)
    && ((not rule.from.store || rule.to.store)
    && ((not rule.from.atomic || rule.to.atomic) && (not rule.from.fence || rule.to.fence)))

-- whether a rule keeps an operation before the next one behind it that it speaks of
abbrev pub comes_at : Rule → List Operation → ℕ → ℕ → Bool
comes_at rule ops x next =
    nat_lt next (length ops)
    && (has rule.from (operation_at ops x).kind
    && ((operation_at ops next).processor == (operation_at ops x).processor))

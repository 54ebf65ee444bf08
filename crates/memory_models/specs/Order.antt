-- What it means that a trace obeys a memory model: there is one order of all operations.
-- Lamport, How to make a multiprocessor computer that correctly executes multiprocess programs,
-- 1979: one order. The SPARC Architecture Manual, version 9, appendix D: total and partial store
-- order, with the order of memory, and the value of a load: the last one of the stores that are
-- before the load in that order or in its processor's program.
use Rattle.std.specs.Prelude.{◌≡◌, ◌⊎◌, ℕ, ◌<◌, true, List, length}
use Rattle.memory_models.specs.declared.kinds.Operation.{Operation}
use Rattle.memory_models.specs.declared.kinds.Rule.{Rule}
use Rattle.memory_models.specs.Trace.{has, is_load, is_write, operation_at, rule_at}
use Rattle.memory_models.specs.Trace.{writes_rule, rule_key, source_at, IsOwn, AreOnOne}

-- a rule keeps two operations of a processor in their order
pub record Applies (rule : Rule) (ops : List Operation) (x y : ℕ) : Type 0 where
  pub own : IsOwn ops x y
  pub from : has rule.from (operation_at ops x).kind ≡ true
  pub to : has rule.to (operation_at ops y).kind ≡ true
  pub key : rule_key rule (operation_at ops x) ≡ rule_key rule (operation_at ops y)

-- a model keeps them in their order: by one of its rules, or since they are writes on one word
abbrev pub KeepsOrder : List Rule → List Operation → ℕ → ℕ → Type 0
KeepsOrder rules ops x y =
    ((k : ℕ) × (k < length rules) × Applies (rule_at rules k) ops x y) ⊎ Applies writes_rule ops x y

-- one order of all operations, as the turn of each: it keeps the model's program order and each
-- word's order of writes, and the write that a load read is the last one on its word of those that
-- are before the load in this order or in its processor's program
pub record IsMemoryOrder (rules : List Rule) (ops : List Operation) (writes : List ℕ)
    (turn : ℕ → ℕ) : Type 0
  where
    pub apart : (x y : ℕ) → x < length ops → y < length ops → turn x ≡ turn y → x ≡ y
    pub program : (x y : ℕ) → y < length ops → KeepsOrder rules ops x y → turn x < turn y
    pub word_order : (x y : ℕ) → x < length ops → y < length ops
        → is_write (operation_at ops x).kind ≡ true
        → is_write (operation_at ops y).kind ≡ true → AreOnOne ops x y
        → (operation_at ops x).place < (operation_at ops y).place
        → turn x < turn y
    pub source : (x : ℕ) → x < length ops → is_load (operation_at ops x).kind ≡ true
        → (turn (source_at ops writes x) < turn x)
        ⊎ IsOwn ops (source_at ops writes x) x
    pub newest : (x w : ℕ) → x < length ops → w < length ops
        → is_load (operation_at ops x).kind ≡ true
        → is_write (operation_at ops w).kind ≡ true → AreOnOne ops x w
        → (operation_at ops x).place < (operation_at ops w).place
        → (turn x < turn w) × (IsOwn ops w x → ⊥)

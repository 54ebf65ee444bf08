-- Idle operations that are open on a word.
use Rattle.std.specs.Prelude.{◌≡◌, ◌<◌, ◌==◌, ℕ, Bool, true, false, cond, List, [], ◌∷◌, Option, Some, None, IfSome}
use Rattle.std.specs.Int.{bit_at}
use Rattle.trace_laws.specs.declared.opened.Open.{Open}
use Rattle.trace_laws.specs.declared.opened.Config.{Config}
use Rattle.trace_laws.specs.Configs.{IsOpen, IsIdle, AgreesWithValue, IsIn, with_bit}
use Rattle.trace_judge.specs.declared.idles.Idle.{Idle}

-- a reply fits at this word, or at any
abbrev pub FitsAt : Option ℕ → ℕ → Type 0
FitsAt at word = IfSome at (λ v. v ≡ word)

-- an idle operation is open in its slot, and its reply fits where it is said to
pub record IsListed (table : List (Option Open)) (word : ℕ) (q : Idle) : Type 0 where
  pub pending : IsOpen table word q.slot q.opened
  pub idle : IsIdle q.opened
  pub fits : (v : ℕ) → FitsAt q.at v → AgreesWithValue q.opened v

abbrev pub AreListed : List (Option Open) → ℕ → List Idle → Type 0
AreListed table word idles = (q : Idle) → IsIn idles q → IsListed table word q

-- their slots are those of a set
abbrev pub AreLow : List Idle → Type 0
AreLow idles = (q : Idle) → IsIn idles q → q.slot < 128

-- whether a reply fits at a word
abbrev pub fits_at : Option ℕ → ℕ → Bool
fits_at None word = true
fits_at (Some v) word = v == word

-- whether an idle operation may take effect: it hasn't, and its reply fits
abbrev pub applies : Idle → Config → Bool
applies q c = cond (bit_at c.taken q.slot == 0) (fits_at q.at c.word) false

-- what a configuration is after it, if it may
abbrev pub calmed : Idle → Config → Config
calmed q c = cond (applies q c) (record { word = c.word; taken = with_bit c.taken q.slot }) c

-- what it is after each of them in turn, if it may
abbrev pub settled : List Idle → Config → Config
settled [] c = c
settled (q ∷ qs) c = settled qs (calmed q c)

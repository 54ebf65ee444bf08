-- Where no rule under any heading keeps two operations, none does.
use Rattle.std.proofs.Common.{◌≡◌, ℕ, List, true, refl}
use Rattle.std.proofs.lemmas.Bool.{false≢true}
use Rattle.std.specs.Prelude.{Option, Some, None, MatchOption}
use Rattle.memory_models.specs.declared.kinds.Operation.{Operation}
use Rattle.memory_models.specs.Trace.{operation_at, uses_word, IsOwn}
use Rattle.weak_models.specs.declared.notes.Note.{Note}
use Rattle.weak_models.specs.declared.notes.Dependency.{Dependency}
use Rattle.weak_models.specs.declared.notes.DependencyKind.TheVariants.{Address, Data}
use Rattle.weak_models.specs.declared.verdict.PreservedRule.{PreservedRule}
use Rattle.weak_models.specs.declared.verdict.PreservedRule.TheVariants as by
use Rattle.weak_models.specs.Preserved.{NoneKeeps, KeepsBy, is_overlapping, is_synchronization, is_dependency, IsPreserved, IsPreservedBy}
use Rattle.weak_models.specs.Preserved.{DependsOn, IsThroughStore, IsBehindBranch, IsBehindAddress}

pub none_keeps : (notes : List Note) (dependencies : List Dependency) (ops : List Operation) (writes : List ℕ) (x y : ℕ)
    → NoneKeeps is_overlapping notes dependencies ops writes x y
    → NoneKeeps is_synchronization notes dependencies ops writes x y
    → NoneKeeps is_dependency notes dependencies ops writes x y
    → (rule : PreservedRule) → KeepsBy notes dependencies ops writes x y rule → ⊥
none_keeps notes dependencies ops writes x y a b c by.SameWordStore k = a by.SameWordStore refl k
none_keeps notes dependencies ops writes x y a b c by.DifferentReads k = a by.DifferentReads refl k
none_keeps notes dependencies ops writes x y a b c by.AtomicSource k = a by.AtomicSource refl k
none_keeps notes dependencies ops writes x y a b c by.Fenced k = b by.Fenced refl k
none_keeps notes dependencies ops writes x y a b c by.Acquire k = b by.Acquire refl k
none_keeps notes dependencies ops writes x y a b c by.Release k = b by.Release refl k
none_keeps notes dependencies ops writes x y a b c by.BothRcsc k = b by.BothRcsc refl k
none_keeps notes dependencies ops writes x y a b c by.Paired k = b by.Paired refl k
none_keeps notes dependencies ops writes x y a b c by.AddressDependency k = c by.AddressDependency refl k
none_keeps notes dependencies ops writes x y a b c by.DataDependency k = c by.DataDependency refl k
none_keeps notes dependencies ops writes x y a b c by.ControlDependency k = c by.ControlDependency refl k
none_keeps notes dependencies ops writes x y a b c by.ThroughStore k = c by.ThroughStore refl k
none_keeps notes dependencies ops writes x y a b c by.BehindAddress k = c by.BehindAddress refl k

-- where there is no dependency of any kind, no rule of dependencies keeps two operations
pub no_dependency : (notes : List Note) (dependencies : List Dependency) (ops : List Operation) (writes : List ℕ) (x y : ℕ)
    → (DependsOn dependencies Address x y → ⊥) → (DependsOn dependencies Data x y → ⊥) → (IsThroughStore dependencies ops writes x y → ⊥)
    → (IsBehindBranch dependencies ops x y → ⊥) → (IsBehindAddress dependencies ops x y → ⊥)
    → (rule : PreservedRule) → is_dependency rule ≡ true → KeepsBy notes dependencies ops writes x y rule → ⊥
no_dependency notes dependencies ops writes x y a d t b i by.SameWordStore is k = absurd (false≢true is)
no_dependency notes dependencies ops writes x y a d t b i by.DifferentReads is k = absurd (false≢true is)
no_dependency notes dependencies ops writes x y a d t b i by.AtomicSource is k = absurd (false≢true is)
no_dependency notes dependencies ops writes x y a d t b i by.Fenced is k = absurd (false≢true is)
no_dependency notes dependencies ops writes x y a d t b i by.Acquire is k = absurd (false≢true is)
no_dependency notes dependencies ops writes x y a d t b i by.Release is k = absurd (false≢true is)
no_dependency notes dependencies ops writes x y a d t b i by.BothRcsc is k = absurd (false≢true is)
no_dependency notes dependencies ops writes x y a d t b i by.Paired is k = absurd (false≢true is)
no_dependency notes dependencies ops writes x y a d t b i by.AddressDependency is k = a k
no_dependency notes dependencies ops writes x y a d t b i by.DataDependency is k = d k
no_dependency notes dependencies ops writes x y a d t b i by.ControlDependency is k = b k
no_dependency notes dependencies ops writes x y a d t b i by.ThroughStore is k = t k
no_dependency notes dependencies ops writes x y a d t b i by.BehindAddress is k = i k

-- what the last heading says, of operations on words
pub kept_or_not : (notes : List Note) (dependencies : List Dependency) (ops : List Operation) (writes : List ℕ) (x y : ℕ)
    (found : Option PreservedRule) → IsOwn ops x y → uses_word (operation_at ops x).kind ≡ true → uses_word (operation_at ops y).kind ≡ true
    → NoneKeeps is_overlapping notes dependencies ops writes x y
    → NoneKeeps is_synchronization notes dependencies ops writes x y
    → MatchOption found (NoneKeeps is_dependency notes dependencies ops writes x y) (KeepsBy notes dependencies ops writes x y)
    → MatchOption found (IsPreserved notes dependencies ops writes x y → ⊥) (IsPreservedBy notes dependencies ops writes x y)
kept_or_not notes dependencies ops writes x y None own first second a b c = λ p. none_keeps notes dependencies ops writes x y a b c p.0 p.1.keeps
kept_or_not notes dependencies ops writes x y (Some rule) own first second a b c = record { own = own; first = first; second = second; keeps = c }

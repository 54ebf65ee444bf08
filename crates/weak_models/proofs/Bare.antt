-- What coherence allows this model allows, where there are no annotations and dependencies: alone, and with fences.
use Rattle.std.proofs.Common.{◌≡◌, inl, inr, ℕ, ◌<◌, true, List, [], length, refl, arith}
use Rattle.memory_models.specs.declared.kinds.Operation.{Operation}
use Rattle.memory_models.specs.Trace.{uses_word, operation_at, IsOwn, IsMemoryTrace}
use Rattle.memory_models.specs.Models.{coherent, fenced}
use Rattle.memory_models.specs.Order.{IsMemoryOrder, KeepsOrder}
use Rattle.weak_models.specs.declared.notes.Note.{Note}
use Rattle.weak_models.specs.declared.notes.DependencyKind.{DependencyKind}
use Rattle.weak_models.specs.declared.verdict.PreservedRule.{PreservedRule}
use Rattle.weak_models.specs.declared.verdict.PreservedRule.TheVariants as by
use Rattle.weak_models.specs.Notes.{note_at, DependsWithin}
use Rattle.weak_models.specs.Preserved.{IsPreserved, KeepsBy, IsFenced}
use Rattle.weak_models.specs.Laws.{HasNoFences}
use Rattle.weak_models.specs.Order.{IsRvwmo, ArePairsAtomic}
use Rattle.weak_models.specs.Equal.{ArePairsOnOne, HasNoAnnotations}
use Rattle.weak_models.proofs.Excluded.{true_and_false, has_all, word_no_fence, fence_is, rcsc_is_annotated}
use Rattle.weak_models.proofs.Stronger.{of_order, fence_own}

-- why operations are kept without annotations and dependencies
pub data KeptBare (notes : List Note) (ops : List Operation) (x y : ℕ) : Type 0 where
  on_word : (operation_at ops x).word ≡ (operation_at ops y).word → KeptBare notes ops x y
  over_fence : IsFenced notes ops x y → KeptBare notes ops x y

nothing_depends : (kind : DependencyKind) (on low high : ℕ) → DependsWithin [] kind on low high → ⊥
nothing_depends kind on low high d = let listed = d.listed in absurd (omega arith)

pub kept_bare : (notes : List Note) (ops : List Operation) (writes : List ℕ) (x y : ℕ) (rule : PreservedRule)
    → HasNoAnnotations notes → ArePairsOnOne notes ops → y < length ops → KeepsBy notes [] ops writes x y rule → KeptBare notes ops x y
kept_bare notes ops writes x y by.SameWordStore none pairs high k = on_word k.word
kept_bare notes ops writes x y by.DifferentReads none pairs high k = on_word k.word
kept_bare notes ops writes x y by.AtomicSource none pairs high k = on_word k.word
kept_bare notes ops writes x y by.Fenced none pairs high k = over_fence k
kept_bare notes ops writes x y by.Acquire none pairs high k = absurd (true_and_false (note_at notes x).acquire k (none.acquire x))
kept_bare notes ops writes x y by.Release none pairs high k = absurd (true_and_false (note_at notes y).release k (none.release y))
kept_bare notes ops writes x y by.BothRcsc none pairs high k = absurd (rcsc_is_annotated (note_at notes x) (none.acquire x) (none.release x) k.0)
kept_bare notes ops writes x y by.Paired none pairs high k = on_word (pairs x y high k).word
kept_bare notes ops writes x y by.AddressDependency none pairs high k = absurd (nothing_depends _ _ _ _ k)
kept_bare notes ops writes x y by.DataDependency none pairs high k = absurd (nothing_depends _ _ _ _ k)
kept_bare notes ops writes x y by.ControlDependency none pairs high k = absurd (nothing_depends _ _ _ _ k.depends)
kept_bare notes ops writes x y by.ThroughStore none pairs high k = absurd (elim k.depends [
  | inl address ↦ nothing_depends _ _ _ _ address
  | inr value ↦ nothing_depends _ _ _ _ value
])
kept_bare notes ops writes x y by.BehindAddress none pairs high k = absurd (nothing_depends _ _ _ _ k.depends)

pub coherent_keeps : (ops : List Operation) (x y : ℕ) → IsOwn ops x y → uses_word (operation_at ops x).kind ≡ true → uses_word (operation_at ops y).kind ≡ true
    → (operation_at ops x).word ≡ (operation_at ops y).word → KeepsOrder coherent ops x y
coherent_keeps ops x y own first second word = inl (
  0,
  omega arith,
  record {
    own = own;
    from = word_no_fence (operation_at ops x).kind first;
    to = word_no_fence (operation_at ops y).kind second;
    key = word;
  },
)

pub of_coherent : (notes : List Note) (ops : List Operation) (writes : List ℕ) (turn : ℕ → ℕ) → HasNoAnnotations notes → HasNoFences ops
    → ArePairsOnOne notes ops → ArePairsAtomic notes ops turn → IsMemoryOrder coherent ops writes turn → IsRvwmo notes [] ops writes turn
of_coherent notes ops writes turn none fences pairs atomic o = of_order notes [] coherent ops writes turn o atomic keeps
  where
    by_reason : (x y : ℕ) → y < length ops → IsOwn ops x y → uses_word (operation_at ops x).kind ≡ true → uses_word (operation_at ops y).kind ≡ true
        → KeptBare notes ops x y → turn x < turn y
    by_reason x y high own first second (on_word word) = o.program x y high (coherent_keeps ops x y own first second word)
    by_reason x y high own first second (over_fence f) = absurd (fences f.fence f.orders.is)

    keeps : (x y : ℕ) → y < length ops → IsPreserved notes [] ops writes x y → turn x < turn y
    keeps x y high p = by_reason x y high p.1.own p.1.first p.1.second (kept_bare notes ops writes x y p.0 none pairs high p.1.keeps)

fenced_keeps : (ops : List Operation) (x y : ℕ) → IsOwn ops x y → uses_word (operation_at ops x).kind ≡ true → uses_word (operation_at ops y).kind ≡ true
    → (operation_at ops x).word ≡ (operation_at ops y).word → KeepsOrder fenced ops x y
fenced_keeps ops x y own first second word = inl (
  0,
  omega arith,
  record {
    own = own;
    from = word_no_fence (operation_at ops x).kind first;
    to = word_no_fence (operation_at ops y).kind second;
    key = word;
  },
)

pub of_fenced : (words : ℕ) (notes : List Note) (ops : List Operation) (writes : List ℕ) (turn : ℕ → ℕ) → IsMemoryTrace words ops writes
    → ArePairsOnOne notes ops → ArePairsAtomic notes ops turn → HasNoAnnotations notes → IsMemoryOrder fenced ops writes turn
    → IsRvwmo notes [] ops writes turn
of_fenced words notes ops writes turn t pairs atomic none o = of_order notes [] fenced ops writes turn o atomic keeps
  where
    by_reason : (x y : ℕ) → y < length ops → IsOwn ops x y → uses_word (operation_at ops x).kind ≡ true → uses_word (operation_at ops y).kind ≡ true
        → KeptBare notes ops x y → turn x < turn y
    by_reason x y high own first second (on_word word) = o.program x y high (fenced_keeps ops x y own first second word)
    by_reason x y high own first second (over_fence f) =
        let both = fence_own words notes ops writes x y t high own f in
        let before = f.before in
        let a : turn x < turn f.fence = o.program x f.fence (omega (arith, before, high)) (inl (
          2,
          omega arith,
          record { own = both.0; from = has_all (operation_at ops x).kind; to = fence_is (operation_at ops f.fence).kind f.orders.is; key = refl },
        )) in
        let b : turn f.fence < turn y = o.program f.fence y high (inl (
          1,
          omega arith,
          record { own = both.1; from = fence_is (operation_at ops f.fence).kind f.orders.is; to = has_all (operation_at ops y).kind; key = refl },
        )) in
        omega (arith, a, b)

    keeps : (x y : ℕ) → y < length ops → IsPreserved notes [] ops writes x y → turn x < turn y
    keeps x y high p = by_reason x y high p.1.own p.1.first p.1.second (kept_bare notes ops writes x y p.0 none pairs high p.1.keeps)

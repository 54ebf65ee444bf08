-- No order of each word's writes has a lost update.
use Rattle.std.proofs.Common.{◌≡◌, ◌⊎◌, inl, inr, ℕ, ◌+◌, ◌<◌, List, length, sym, ap, ◌∙◌}
use Rattle.std.specs.Prelude.{slice_index}
use Rattle.memory_models.specs.declared.kinds.Operation.{Operation}
use Rattle.memory_models.specs.Trace.{operation_at}
use Rattle.model_values.specs.declared.valued.Valued.{Valued}
use Rattle.model_values.specs.Followed.{HasOwn, HasTwo, IsFollowed}
use Rattle.model_values.specs.Values.{AreTwins, HasNoLostUpdate, IsLeftBy, IsLostUpdate, IsValuedPlacing}
use Rattle.model_values.proofs.Chosen.{stands_behind}

-- what left what the second of two found left what the first found
left_first : (v : Valued) (x y s : ℕ) → AreTwins v x y → IsLeftBy v.operations.now v.left.now v.found.now y s
    → IsLeftBy v.operations.now v.left.now v.found.now x s
left_first v x y s t by = record {
  low = by.low;
  write = by.write;
  word = by.word ∙ sym t.word;
  leaves = by.leaves ∙ sym t.same;
}

pub lost : (v : Valued) (x y : ℕ) → IsLostUpdate v x y → (placed : List Operation) (writes : List ℕ) → IsValuedPlacing v placed writes → ⊥
lost v x y l placed writes i =
    let a = stands_behind v placed writes i x l.twins.first l.twins.atomic in
    let b = stands_behind v placed writes i y l.twins.second l.twins.atomic_too in
    let one = l.one _ _ a.left (left_first v x y _ l.twins b.left) in
    let place : (operation_at placed x).place ≡ (operation_at placed y).place =
    a.next ∙ (ap (λ s. (operation_at placed s).place + 1) one ∙ sym b.next) in
    l.twins.other (sym a.is ∙ (ap (slice_index writes) place ∙ b.is))

-- where each atomic has two writes that left what it found, or one of its own, no update is lost
pub followed : (v : Valued) (followers : List ℕ) → ((x : ℕ) → x < length v.operations.now → IsFollowed v followers x) → HasNoLostUpdate v
followed v followers each x y l =
    by (each x l.twins.first l.twins.atomic) (each y l.twins.second l.twins.atomic_too)
  where
    by : HasTwo v x ⊎ HasOwn v followers x → HasTwo v y ⊎ HasOwn v followers y → ⊥
    by (inl two) b = two.other (l.one two.one two.two two.left two.left_too)
    by (inr own) (inl two) = two.other (l.one two.one two.two (left_first v x y two.one l.twins two.left) (left_first v x y two.two l.twins two.left_too))
    by (inr own) (inr also) =
        l.twins.other (sym own.told ∙ (ap (slice_index followers) (l.one own.source also.source own.left (left_first v x y also.source l.twins also.left)) ∙ also.told))

-- two atomics, the first of which has one source
pub lost_by : (v : Valued) (x y source : ℕ) → AreTwins v x y
    → ((s : ℕ) → IsLeftBy v.operations.now v.left.now v.found.now x s → s ≡ source) → IsLostUpdate v x y
lost_by v x y source twins only = record { twins = twins; one = λ s t a b. only s a ∙ sym (only t b) }

-- or has more
pub not_lost : (v : Valued) (x y source : ℕ) → IsLeftBy v.operations.now v.left.now v.found.now x source
    → (((s : ℕ) → IsLeftBy v.operations.now v.left.now v.found.now x s → s ≡ source) → ⊥) → IsLostUpdate v x y → ⊥
not_lost v x y source by more l = more (λ s is. l.one s source is by)

-- or none
pub lost_unwritten : (v : Valued) (x y : ℕ) → AreTwins v x y
    → ((s : ℕ) → IsLeftBy v.operations.now v.left.now v.found.now x s → ⊥) → IsLostUpdate v x y
lost_unwritten v x y twins none = record { twins = twins; one = λ s t a b. absurd (none s a) }

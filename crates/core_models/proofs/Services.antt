-- What is known of the services of a run's accesses, and what kinds of operations use words.
use Rattle.std.proofs.Common.{◌≡◌, ◌⊎◌, inl, inr, ℕ, ◌<◌, ◌≤◌, true, false, List, length, refl, arith}
use Rattle.memory_models.specs.declared.kinds.Kind.{Kind}
use Rattle.memory_models.specs.declared.kinds.Kind.TheVariants.{Load, Store, Atomic, Fence}
use Rattle.memory_models.specs.Trace.{has, is_load, is_write, uses_word, writes_rule}
use Rattle.memory_models.specs.Models.{but_fences, fences}
use Rattle.core_models.specs.Accesses.{Access}
use Rattle.core_models.specs.Traces.{access_at, ComesBefore}

pub load_or_write : (k : Kind) → uses_word k ≡ true → (is_load k ≡ true) ⊎ (is_write k ≡ true)
load_or_write Load h = inl refl
load_or_write Store h = inr refl
load_or_write Atomic h = inr refl
load_or_write Fence h = absurd (cc)

pub write_uses : (k : Kind) → is_write k ≡ true → uses_word k ≡ true
write_uses Load h = absurd (cc)
write_uses Store h = refl
write_uses Atomic h = refl
write_uses Fence h = absurd (cc)

pub load_uses : (k : Kind) → is_load k ≡ true → uses_word k ≡ true
load_uses Load h = refl
load_uses Store h = absurd (cc)
load_uses Atomic h = absurd (cc)
load_uses Fence h = absurd (cc)

pub load_is_no_write : (k : Kind) → is_load k ≡ true → is_write k ≡ true → ⊥
load_is_no_write Load h w = cc
load_is_no_write Store h w = cc
load_is_no_write Atomic h w = cc
load_is_no_write Fence h w = cc

pub word_kind : (k : Kind) → has but_fences k ≡ true → uses_word k ≡ true
word_kind Load h = refl
word_kind Store h = refl
word_kind Atomic h = refl
word_kind Fence h = absurd (cc)

pub fence_kind : (k : Kind) → has fences k ≡ true → uses_word k ≡ false
fence_kind Load h = absurd (cc)
fence_kind Store h = absurd (cc)
fence_kind Atomic h = absurd (cc)
fence_kind Fence h = refl

pub write_kind : (k : Kind) → has writes_rule.from k ≡ true → uses_word k ≡ true
write_kind Load h = absurd (cc)
write_kind Store h = refl
write_kind Atomic h = refl
write_kind Fence h = absurd (cc)

-- what is known of the accesses of a run
pub record AreServed (words : ℕ) (all : List Access) : Type 0 where
  pub processors : (x y : ℕ) → x ≤ y → y < length all → (access_at all x).processor ≤ (access_at all y).processor
  pub word : (x : ℕ) → x < length all → (access_at all x).word < words
  pub apart : (x y : ℕ) → x < length all → y < length all → uses_word (access_at all x).kind ≡ true → uses_word (access_at all y).kind ≡ true
      → (access_at all x).word ≡ (access_at all y).word → (access_at all x).served ≡ (access_at all y).served → x ≡ y
  pub opened : (w : ℕ) → w < words
      → (x : ℕ) × (x < length all) × (is_write (access_at all x).kind ≡ true) × ((access_at all x).word ≡ w) × ((access_at all x).served ≡ 0)
  pub loads : (x : ℕ) → x < length all → is_load (access_at all x).kind ≡ true → 0 < (access_at all x).served
  pub unserved : (x : ℕ) → x < length all → uses_word (access_at all x).kind ≡ false → (access_at all x).served ≡ 0
  pub one_word : (x y : ℕ) → x < y → y < length all → (access_at all x).processor ≡ (access_at all y).processor → uses_word (access_at all x).kind ≡ true
      → uses_word (access_at all y).kind ≡ true → (access_at all x).word ≡ (access_at all y).word → (access_at all x).served < (access_at all y).served
  pub behind : (f y : ℕ) → f < y → y < length all → (access_at all f).processor ≡ (access_at all y).processor → uses_word (access_at all f).kind ≡ false
      → uses_word (access_at all y).kind ≡ true → 0 < (access_at all y).served
  pub held : (x f y : ℕ) → x < f → f < y → y < length all → (access_at all x).processor ≡ (access_at all y).processor
      → (access_at all f).processor ≡ (access_at all y).processor → uses_word (access_at all x).kind ≡ true → uses_word (access_at all f).kind ≡ false
      → uses_word (access_at all y).kind ≡ true → (access_at all x).served < (access_at all y).served

-- and where each is answered before the next one is issued
abbrev pub AreInTurn : List Access → Type 0
AreInTurn all = (x y : ℕ) → x < y → y < length all → (access_at all x).processor ≡ (access_at all y).processor → uses_word (access_at all x).kind ≡ true
    → uses_word (access_at all y).kind ≡ true → (access_at all x).served < (access_at all y).served

pub not_before_itself : (a : Access) → ComesBefore a a → ⊥
not_before_itself a (inl less) = omega (arith, less)
not_before_itself a (inr less) = (let l = less.1 in omega (arith, l))

pub before_word : (a b : Access) → ComesBefore a b → a.word ≤ b.word
before_word a b (inl less) = omega (arith, less)
before_word a b (inr less) = (let l = less.0 in omega (arith, l))

pub before_served : (a b : Access) → a.word ≡ b.word → ComesBefore a b → a.served < b.served
before_served a b same (inl less) = absurd (omega (arith, same, less))
before_served a b same (inr less) = less.1

-- The attempts of a fair round that are kept, as their list grows.
use Rattle.std.proofs.Common.{◌≡◌, ℕ, ◌+◌, ◌-◌, ◌<◌, ◌≤◌, ◌++◌, Bool, true, false, List, [], ◌∷◌, filter, get_or, map, take, set, length, refl, sym, ap, subst, ◌∙◌, arith, append_assoc, append-nil, length-set}
use Rattle.std.specs.Prelude.{cond, is_some}
use Rattle.std.specs.List.{flat_map, range_with_len}
use Rattle.std.proofs.lemmas.List.{map-append, take_all, take_more, take_more_set}
use Rattle.std.proofs.lemmas.List.Elements.{filter-append}
use Rattle.std.proofs.lemmas.List.FromFn.{map-range_with_len_more}
use Rattle.torus.specs.declared.step.Step.{Step}
use Rattle.torus.specs.declared.step.Choice.{Choice}
use Rattle.core_laws.specs.Core.{attempts_of, step}
use Rattle.core_laws.specs.Machine.{Core, built_to}
use Rattle.machine_core.specs.Rounds.{attempts_between}
use Rattle.command_schedule.specs.Drawn.{enabled_now}
use Rattle.command_schedule.specs.Fair.{KeepsEnabled}
use Rattle.outcome_search.proofs.Pushed.{part_more}

-- whether an attempt is enabled
abbrev can : Core → Step → Bool
can c x = is_some (step (built_to c) c.state x)

-- none
pub kept_none : (c : Core) (old : List Step) (before : ℕ) → KeepsEnabled c [] old before old before
kept_none c old before = record { kept = sym (append-nil (take before old)); room = refl }

-- some, and then others
pub kept_then : (c : Core) (a b old mid new : List Step) (before k n : ℕ) → KeepsEnabled c a old before mid k → KeepsEnabled c b mid k new n
    → KeepsEnabled c (a ++ b) old before new n
kept_then c a b old mid new before k n first then = record {
  kept = then.kept
      ∙ (ap (λ (xs : List Step). xs ++ enabled_now c b) first.kept
      ∙ (append_assoc (take before old) (enabled_now c a) (enabled_now c b)
      ∙ ap (λ (xs : List Step). take before old ++ xs) (sym (filter-append (can c) a b))));
  room = then.room ∙ first.room;
}

-- equal lists of attempts
pub kept_as : (c : Core) (a b old new : List Step) (before n : ℕ) → a ≡ b → KeepsEnabled c a old before new n → KeepsEnabled c b old before new n
kept_as c a b old new before n is so_far = subst (λ (xs : List Step). KeepsEnabled c xs old before new n) is so_far

-- one that is enabled, and one that isn't
pub one_kept : (c : Core) (x : Step) (old : List Step) (k : ℕ) → k < length old → can c x ≡ true → KeepsEnabled c (x ∷ []) old k (set old k x) (k + 1)
one_kept c x old k within enabled = record {
  kept = take_more_set old k x within
      ∙ ap (λ (b : Bool). take k old ++ cond b (x ∷ []) []) (sym enabled);
  room = length-set old k x;
}

pub one_left : (c : Core) (x : Step) (old : List Step) (k : ℕ) → can c x ≡ false → KeepsEnabled c (x ∷ []) old k old k
one_left c x old k idle = record {
  kept = sym (append-nil (take k old)) ∙ ap (λ (b : Bool). take k old ++ cond b (x ∷ []) []) (sym idle);
  room = refl;
}

-- one choice more of a list, and all
pub choices_more : (agent : ℕ) (choices : List Choice) (i : ℕ) (x : Choice) → i < length choices
    → attempts_of agent (take i choices) ++ record { agent = agent; choice = get_or choices i x } ∷ []
    ≡ attempts_of agent (take (i + 1) choices)
choices_more agent choices i x inside =
    sym (ap (attempts_of agent) (take_more choices i x inside)
    ∙ map-append (λ (choice : Choice). record { agent = agent; choice = choice }) (take i choices) (get_or choices i x ∷ []))

pub choices_all : (agent : ℕ) (choices : List Choice) (i : ℕ) → length choices ≤ i → attempts_of agent (take i choices) ≡ attempts_of agent choices
choices_all agent choices i end = ap (attempts_of agent) (take_all i choices end)

-- one number more of a list, and all
pub numbers_more : (f : ℕ → Choice) (agent : ℕ) (numbers : List ℕ) (i x : ℕ) → i < length numbers
    → attempts_of agent (map f (take i numbers)) ++ record { agent = agent; choice = f (get_or numbers i x) } ∷ []
    ≡ attempts_of agent (map f (take (i + 1) numbers))
numbers_more f agent numbers i x inside =
    sym (ap (λ (xs : List ℕ). attempts_of agent (map f xs)) (take_more numbers i x inside)
    ∙ (ap (attempts_of agent) (map-append f (take i numbers) (get_or numbers i x ∷ []))
    ∙ map-append (λ (choice : Choice). record { agent = agent; choice = choice }) (map f (take i numbers)) (f (get_or numbers i x) ∷ [])))

pub numbers_all : (f : ℕ → Choice) (agent : ℕ) (numbers : List ℕ) (i : ℕ) → length numbers ≤ i
    → attempts_of agent (map f (take i numbers)) ≡ attempts_of agent (map f numbers)
numbers_all f agent numbers i end = ap (λ (xs : List ℕ). attempts_of agent (map f xs)) (take_all i numbers end)

-- one port more
pub ports_more : (f : ℕ → Choice) (agent n : ℕ)
    → attempts_between f agent 0 n ++ record { agent = agent; choice = f n } ∷ [] ≡ attempts_between f agent 0 (n + 1)
ports_more f agent n =
    let count : n + 1 - 0 ≡ n - 0 + 1 = omega arith in
    sym (ap (λ (k : ℕ). attempts_of agent (map f (range_with_len 0 k))) count
    ∙ (ap (attempts_of agent) (map-range_with_len_more f 0 (n - 0) n (omega arith))
    ∙ map-append (λ (choice : Choice). record { agent = agent; choice = choice }) (map f (range_with_len 0 (n - 0))) (f n ∷ [])))

-- one tile more
pub tiles_more : (f : ℕ → List Step) (n : ℕ) → flat_map f (range_with_len 0 n) ++ f n ≡ flat_map f (range_with_len 0 (n + 1))
tiles_more f n = part_more f n (flat_map f (range_with_len 0 n)) (flat_map f (range_with_len 0 n) ++ f n) refl refl

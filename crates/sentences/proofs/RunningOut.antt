-- The spins that are told are those that ran out.
use Rattle.std.proofs.Common.{◌≡◌, ◌⊎◌, ⊎_elim, inl, inr, ℕ, zero, suc, ◌+◌, ◌==◌, true, false, List, [], ◌∷◌, ◌++◌, length, Some, None, refl, sym, ◌∙◌}
use Rattle.std.proofs.Common.{ap, subst, arith, slice_get}
use Rattle.std.specs.Prelude.{Bool, Option, if◌then◌else◌}
use Rattle.std.proofs.lemmas.Bool.Decides.{nat_tests}
use Rattle.std.proofs.lemmas.List.{append_assoc}
use Rattle.script_lines.specs.declared.line.Line.{Line}
use Rattle.script_lines.specs.declared.line.Line.TheVariants.{Load, Store, Swap, Cas, Add, And, Or, Xor, Max, Min, Fence, Spin}
use Rattle.sentences.specs.declared.spins.SpentSpin.{SpentSpin}
use Rattle.sentences.specs.Spins.{replied, spent_from, spent_spins, spun}
use Rattle.sentences.specs.RunsOut.{AreRepliesTo, AreSpent, HaveFound, RanOut}

-- a spin is one of these
abbrev pub IsAmong : List SpentSpin → SpentSpin → Type 0
IsAmong spins spin = (i : ℕ) × (slice_get spins i ≡ Some spin)

none_among : {A : Type 0} (x : SpentSpin) → IsAmong [] x → A
none_among x h = absurd (let e : None ≡ Some x = h.1 in cc)

-- how a spin's loads can end, with what is behind them
abbrev Ends : ℕ → ℕ → List (Option ℕ) → Type 0
Ends sought left loads = AreSpent sought left loads ⊎ HaveFound sought left loads

-- what comes of a spin: it ran out and is told, or what is told comes behind it
abbrev Told : ℕ → SpentSpin → (List (Option ℕ) → List SpentSpin) → List (Option ℕ) → SpentSpin → Type 0
Told left s over replies x =
    ((loads after : List (Option ℕ)) × (replies ≡ loads ++ after) × AreSpent s.sought left loads × (x ≡ s))
    ⊎ ((loads rest : List (Option ℕ)) × (replies ≡ loads ++ rest) × Ends s.sought left loads × IsAmong (over rest) x)

-- one load more, which found another number
one_spent : (sought left r : ℕ) (loads : List (Option ℕ)) → (r == sought) ≡ false → AreSpent sought left loads → AreSpent sought (suc left) (Some r ∷ loads)
one_spent sought left r loads differs h = (ap (λ (n : ℕ). suc n) h.0, (r, refl, differs, h.1))

one_end : (sought left r : ℕ) (loads : List (Option ℕ)) → (r == sought) ≡ false → Ends sought left loads → Ends sought (suc left) (Some r ∷ loads)
one_end sought left r loads differs h = ⊎_elim
    (λ (s : AreSpent sought left loads). inl (one_spent sought left r loads differs s))
    (λ (f : HaveFound sought left loads).
    inr (Some r ∷ f.0, ap (λ (xs : List (Option ℕ)). Some r ∷ xs) f.1, (let few = f.2 in omega (arith, few)), (r, refl, differs, f.3)))
    h

found_is : (r sought : ℕ) → (r == sought) ≡ true → r ≡ sought
found_is r sought h = grind (arith, nat_tests, h)

load_told : (left : ℕ) (s : SpentSpin) (over : List (Option ℕ) → List SpentSpin) (r : ℕ) (replies : List (Option ℕ)) (x : SpentSpin) (b : Bool)
    → (r == s.sought) ≡ b → (IsAmong (spun left s over replies) x → Told left s over replies x)
    → IsAmong (if b then over replies else spun left s over replies) x → Told (suc left) s over (Some r ∷ replies) x
load_told left s over r replies x true is rest h =
    inr (
      Some r ∷ [],
      replies,
      refl,
      inr ([], ap (λ (n : ℕ). Some n ∷ []) (found_is r s.sought is), omega arith, tt),
      h,
    )
load_told left s over r replies x false is rest h = ⊎_elim
    (λ t. inl (Some r ∷ t.0, t.1, ap (λ (xs : List (Option ℕ)). Some r ∷ xs) t.2, one_spent s.sought left r t.0 is t.3, t.4))
    (λ t. inr (Some r ∷ t.0, t.1, ap (λ (xs : List (Option ℕ)). Some r ∷ xs) t.2, one_end s.sought left r t.0 is t.3, t.4))
    (rest h)

spun_told : (left : ℕ) (s : SpentSpin) (over : List (Option ℕ) → List SpentSpin) (replies : List (Option ℕ)) (x : SpentSpin)
    → IsAmong (spun left s over replies) x → Told left s over replies x
spun_told zero s over replies x (zero, h) = inl ([], replies, refl, (refl, tt), (let e : Some s ≡ Some x = h in cc))
spun_told zero s over replies x (suc i, h) = inr ([], replies, refl, inl (refl, tt), (i, h))
spun_told (suc left) s over [] x h = none_among x h
spun_told (suc left) s over (None ∷ replies) x h = none_among x h
spun_told (suc left) s over (Some r ∷ replies) x h =
    load_told left s over r replies x (r == s.sought) refl (λ among. spun_told left s over replies x among) h

-- a spin ran out of loads, where the places of the script's lines are counted from `at` on
record RanOutFrom (at : ℕ) (lines : List Line) (replies : List (Option ℕ)) (spin : SpentSpin) : Type 0 where
  pub front : List Line
  pub behind : List Line
  pub line : lines ≡ front ++ Spin spin.address spin.sought spin.loads ∷ behind
  pub place : spin.place ≡ at + length front
  pub before : List (Option ℕ)
  pub loads : List (Option ℕ)
  pub after : List (Option ℕ)
  pub replied : replies ≡ before ++ (loads ++ after)
  pub reached : AreRepliesTo front before
  pub spent : AreSpent spin.sought spin.loads loads

-- one line more in front
in_front : (at : ℕ) (first : Line) (lines : List Line) (taken replies rest : List (Option ℕ)) (x : SpentSpin) → replies ≡ taken ++ rest
    → ((front : List Line) (before : List (Option ℕ)) → AreRepliesTo front before → AreRepliesTo (first ∷ front) (taken ++ before))
    → RanOutFrom (at + 1) lines rest x → RanOutFrom at (first ∷ lines) replies x
in_front at first lines taken replies rest x is takes r = record {
  front = first ∷ r.front;
  behind = r.behind;
  line = ap (λ (ls : List Line). first ∷ ls) r.line;
  place = r.place ∙ (let e : at + 1 + length r.front ≡ at + suc (length r.front) = omega arith in e);
  before = taken ++ r.before;
  loads = r.loads;
  after = r.after;
  replied = is ∙ (ap (λ (rs : List (Option ℕ)). taken ++ rs) r.replied ∙ sym (append_assoc taken r.before (r.loads ++ r.after)));
  reached = takes r.front r.before r.reached;
  spent = r.spent;
}

-- a line of one operation
line_told : (over : List (Option ℕ) → List SpentSpin) (replies : List (Option ℕ)) (x : SpentSpin) → IsAmong (replied over replies) x
    → (n : ℕ) × (rest : List (Option ℕ)) × (replies ≡ (Some n ∷ []) ++ rest) × IsAmong (over rest) x
line_told over [] x h = none_among x h
line_told over (None ∷ replies) x h = none_among x h
line_told over (Some n ∷ replies) x h = (n, replies, refl, h)

told_from : (at : ℕ) (lines : List Line) (replies : List (Option ℕ)) (x : SpentSpin) → IsAmong (spent_from at lines replies) x
    → RanOutFrom at lines replies x
told_from at [] replies x h = none_among x h
told_from at (Fence ∷ lines) replies x h =
    in_front at Fence lines [] replies replies x refl (λ front before r. r) (told_from (at + 1) lines replies x h)
told_from at (Spin a v m ∷ lines) replies x h =
    let s : SpentSpin = record { place = at; address = a; sought = v; loads = m } in
    ⊎_elim
    (λ t. subst (λ (y : SpentSpin). RanOutFrom at (Spin a v m ∷ lines) replies y) (sym t.4)
    (record {
      front = [];
      behind = lines;
      line = refl;
      place = omega arith;
      before = [];
      loads = t.0;
      after = t.1;
      replied = t.2;
      reached = refl;
      spent = t.3;
    }))
    (λ t. in_front at (Spin a v m) lines t.0 replies t.1 x t.2 (λ front before r. (t.0, before, refl, t.3, r)) (told_from (at + 1) lines t.1 x t.4))
    (spun_told m s (spent_from (at + 1) lines) replies x h)
told_from at (Load a ∷ lines) replies x h = let t = line_told (spent_from (at + 1) lines) replies x h in
    in_front at (Load a) lines (Some t.0 ∷ []) replies t.1 x t.2 (λ front before r. (t.0, before, refl, r)) (told_from (at + 1) lines t.1 x t.3)
told_from at (Store a v ∷ lines) replies x h = let t = line_told (spent_from (at + 1) lines) replies x h in
    in_front at (Store a v) lines (Some t.0 ∷ []) replies t.1 x t.2 (λ front before r. (t.0, before, refl, r)) (told_from (at + 1) lines t.1 x t.3)
told_from at (Swap a v ∷ lines) replies x h = let t = line_told (spent_from (at + 1) lines) replies x h in
    in_front at (Swap a v) lines (Some t.0 ∷ []) replies t.1 x t.2 (λ front before r. (t.0, before, refl, r)) (told_from (at + 1) lines t.1 x t.3)
told_from at (Cas a e n ∷ lines) replies x h = let t = line_told (spent_from (at + 1) lines) replies x h in
    in_front at (Cas a e n) lines (Some t.0 ∷ []) replies t.1 x t.2 (λ front before r. (t.0, before, refl, r)) (told_from (at + 1) lines t.1 x t.3)
told_from at (Add a v ∷ lines) replies x h = let t = line_told (spent_from (at + 1) lines) replies x h in
    in_front at (Add a v) lines (Some t.0 ∷ []) replies t.1 x t.2 (λ front before r. (t.0, before, refl, r)) (told_from (at + 1) lines t.1 x t.3)
told_from at (And a v ∷ lines) replies x h = let t = line_told (spent_from (at + 1) lines) replies x h in
    in_front at (And a v) lines (Some t.0 ∷ []) replies t.1 x t.2 (λ front before r. (t.0, before, refl, r)) (told_from (at + 1) lines t.1 x t.3)
told_from at (Or a v ∷ lines) replies x h = let t = line_told (spent_from (at + 1) lines) replies x h in
    in_front at (Or a v) lines (Some t.0 ∷ []) replies t.1 x t.2 (λ front before r. (t.0, before, refl, r)) (told_from (at + 1) lines t.1 x t.3)
told_from at (Xor a v ∷ lines) replies x h = let t = line_told (spent_from (at + 1) lines) replies x h in
    in_front at (Xor a v) lines (Some t.0 ∷ []) replies t.1 x t.2 (λ front before r. (t.0, before, refl, r)) (told_from (at + 1) lines t.1 x t.3)
told_from at (Max a v ∷ lines) replies x h = let t = line_told (spent_from (at + 1) lines) replies x h in
    in_front at (Max a v) lines (Some t.0 ∷ []) replies t.1 x t.2 (λ front before r. (t.0, before, refl, r)) (told_from (at + 1) lines t.1 x t.3)
told_from at (Min a v ∷ lines) replies x h = let t = line_told (spent_from (at + 1) lines) replies x h in
    in_front at (Min a v) lines (Some t.0 ∷ []) replies t.1 x t.2 (λ front before r. (t.0, before, refl, r)) (told_from (at + 1) lines t.1 x t.3)

-- what is told ran out
pub told_ran_out : (script : List Line) (replies : List (Option ℕ)) (x : SpentSpin) → IsAmong (spent_spins script replies) x → RanOut script replies x
told_ran_out script replies x h = let r = told_from 0 script replies x h in record {
  front = r.front;
  behind = r.behind;
  line = r.line;
  place = r.place ∙ (let e : 0 + length r.front ≡ length r.front = omega arith in e);
  before = r.before;
  loads = r.loads;
  after = r.after;
  replied = r.replied;
  reached = r.reached;
  spent = r.spent;
}

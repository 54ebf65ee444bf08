-- Moves that are drawn, one after the other.
use Rattle.std.proofs.Common.{◌≡◌, ℕ, zero, suc, ◌+◌, ◌-◌, ◌%◌, ◌<◌, ◌≤◌, ◌++◌, List, [], ◌∷◌, Bool, true, false, Option, Some, None, cond, drop, get_or, length, map, take}
use Rattle.std.proofs.Common.{refl, sym, ap, subst, ◌∙◌, arith, slice_get, append_assoc, append-nil}
use Rattle.std.specs.List.{filter}
use Rattle.std.proofs.lemmas.List.{at_drop_all, at_drop_more, map-append, take_all}
use Rattle.std.proofs.lemmas.List.Filters.{length-filter_more}
use Rattle.std.specs.Int.{from_bool}
use Rattle.std.proofs.lemmas.List.Concat.{flat_map-append}
use Rattle.torus.specs.declared.step.Step.{Step}
use Rattle.core_laws.specs.Core.{round}
use Rattle.core_laws.specs.Machine.{Core, core_next, core_after, all_finished}
use Rattle.machine_core.proofs.Rounds.{core_append}
use Rattle.rand_xoshiro.specs.SplitMix64.{mix_u64}
use Rattle.command_schedule.specs.declared.line.ScheduleLine.{ScheduleLine}
use Rattle.command_schedule.specs.declared.line.ScheduleLine.TheVariants.{Move}
use Rattle.command_schedule.specs.Line.{line_text, text_of}
use Rattle.program_fault.specs.Done.{Output, TookAll, TookFront}
use Rattle.command_schedule.specs.Output.{headed}
use Rattle.command_schedule.specs.Drawn.{drawn_moves, drawn_of, enabled_now, move_then, unless_finished}
use Rattle.command_schedule.proofs.Outputs.{took_none, took_then, front_then, front_of_more}

-- of a list with a first element, those behind it
later : {X : Type 0} (x : X) (xs : List X) (n : ℕ) → 0 < n → slice_get (x ∷ xs) n ≡ slice_get xs (n - 1)
later x xs zero some = absurd (omega (arith, some))
later x xs (suc n) some = let one : n ≡ suc n - 1 = omega arith in ap (slice_get xs) one

-- the first of those that are left and pass a test
module _ (p : Step → Bool) (xs : List Step) (i n : ℕ) (d : Step) (whole : Option Step) (inside : i < length xs)
    (so_far : slice_get (filter p (drop i xs)) n ≡ whole) where
  opened : slice_get (cond (p (get_or xs i d)) (get_or xs i d ∷ filter p (drop (i + 1) xs)) (filter p (drop (i + 1) xs))) n ≡ whole
  opened = sym (at_drop_more (λ (ys : List Step). slice_get (filter p ys) n) xs i d inside) ∙ so_far

  passed : (b : Bool) → p (get_or xs i d) ≡ b
      → slice_get (cond b (get_or xs i d ∷ filter p (drop (i + 1) xs)) (filter p (drop (i + 1) xs))) n ≡ whole
  passed b is = ap (λ (t : Bool). slice_get (cond t (get_or xs i d ∷ filter p (drop (i + 1) xs)) (filter p (drop (i + 1) xs))) n) (sym is) ∙ opened

  -- it is the next one
  pub found_here : p (get_or xs i d) ≡ true → n ≡ 0 → Some (get_or xs i d) ≡ whole
  found_here is none =
      ap (slice_get (get_or xs i d ∷ filter p (drop (i + 1) xs))) (sym none) ∙ passed true is

  -- it is behind the next one
  pub found_later : p (get_or xs i d) ≡ true → 0 < n → slice_get (filter p (drop (i + 1) xs)) (n - 1) ≡ whole
  found_later is some = sym (later (get_or xs i d) (filter p (drop (i + 1) xs)) n some) ∙ passed true is

  -- the next doesn't pass
  pub found_past : p (get_or xs i d) ≡ false → slice_get (filter p (drop (i + 1) xs)) n ≡ whole
  found_past is = passed false is

-- none is left
pub found_none : (p : Step → Bool) (xs : List Step) (i n : ℕ) (whole : Option Step) → length xs ≤ i
    → slice_get (filter p (drop i xs)) n ≡ whole → None ≡ whole
found_none p xs i n whole end so_far = sym (at_drop_all (λ (ys : List Step). slice_get (filter p ys) n) xs i end) ∙ so_far

-- the one whose index is a word modulo the number
pub drawn_none : (xs : List Step) (n word : ℕ) → n ≡ length xs → n ≡ 0 → None ≡ drawn_of xs word
drawn_none [] n word is none = refl
drawn_none (x ∷ xs) n word is none = absurd (omega (arith, is, none))

pub drawn_some : (xs : List Step) (n word : ℕ) → n ≡ length xs → 0 < n → slice_get xs (word % n) ≡ drawn_of xs word
drawn_some [] n word is some = absurd (omega (arith, is, some))
drawn_some (x ∷ xs) n word is some = ap (λ (k : ℕ). slice_get (x ∷ xs) (word % k)) is

-- Moves so far, the machine that they lead to, and how many more are allowed, from a state of the
-- generator on; an output took their lines.
pub record HasDrawn (start : Core) (most seed : ℕ) (old : Output) (c : Core) (left state : ℕ) (now : Output) : Type 0 where
  pub moves : List Step
  pub leads : c ≡ core_after start moves
  pub took : TookAll old now (text_of (headed None moves))
  pub whole : moves ++ drawn_moves left state c ≡ drawn_moves most seed start

pub none_drawn : (start : Core) (most seed : ℕ) (old : Output) → HasDrawn start most seed old start most seed old
none_drawn start most seed old = record { moves = []; leads = refl; took = took_none old [] refl; whole = refl }

pub none_drawn_at : (start : Core) (most seed state : ℕ) (old : Output) → state ≡ seed → HasDrawn start most seed old start most state old
none_drawn_at start most seed state old is = subst (λ (n : ℕ). HasDrawn start most seed old start most n old) (sym is) (none_drawn start most seed old)

-- the text of moves and of one more
text_push : (moves : List Step) (x : Step) → text_of (headed None moves) ++ line_text (Move x) ≡ text_of (headed None (moves ++ x ∷ []))
text_push moves x =
    ap (λ (t : List ℕ). text_of (headed None moves) ++ t) (sym (append-nil (line_text (Move x))))
    ∙ (sym (flat_map-append line_text (map Move moves) (Move x ∷ [])) ∙ ap text_of (sym (map-append Move moves (x ∷ []))))

-- what is drawn where not every script is finished, and more moves are allowed
next_moves : (c : Core) (left state : ℕ) (o : Option Step) → 0 < left → all_finished c.state ≡ false
    → drawn_of (enabled_now c (round c.shape)) (mix_u64 state).0 ≡ o
    → drawn_moves left state c ≡ move_then o (λ attempt. drawn_moves (left - 1) (mix_u64 state).1 (core_next c attempt))
next_moves c zero state o some busy is = absurd (omega (arith, some))
next_moves c (suc k) state o some busy is =
    let one : k ≡ suc k - 1 = omega arith in
    ap (λ (b : Bool). unless_finished b (move_then (drawn_of (enabled_now c (round c.shape)) (mix_u64 state).0)
    (λ attempt. drawn_moves k (mix_u64 state).1 (core_next c attempt)))) busy
    ∙ (ap (λ (p : Option Step). move_then p (λ attempt. drawn_moves k (mix_u64 state).1 (core_next c attempt))) is
    ∙ ap (λ (n : ℕ). move_then o (λ attempt. drawn_moves n (mix_u64 state).1 (core_next c attempt))) one)

no_moves : (c : Core) (left state : ℕ) → all_finished c.state ≡ true → drawn_moves left state c ≡ []
no_moves c zero state done = refl
no_moves c (suc k) state done =
    ap (λ (b : Bool). unless_finished b (move_then (drawn_of (enabled_now c (round c.shape)) (mix_u64 state).0)
    (λ attempt. drawn_moves k (mix_u64 state).1 (core_next c attempt)))) done

module _ (start : Core) (most seed : ℕ) (old : Output) (c : Core) (left state : ℕ) (now : Output)
    (so_far : HasDrawn start most seed old c left state now) where
  -- one move more
  module _ (some : 0 < left) (busy : all_finished c.state ≡ false) (word after : ℕ) (next : (word, after) ≡ mix_u64 state) (x : Step)
      (is : Some x ≡ drawn_of (enabled_now c (round c.shape)) word) where
    drawn_next : drawn_moves left state c ≡ x ∷ drawn_moves (left - 1) after (core_next c x)
    drawn_next =
        next_moves c left state (Some x) some busy
        (ap (λ (p : ℕ × ℕ). drawn_of (enabled_now c (round c.shape)) p.0) (sym next) ∙ sym is)
        ∙ ap (λ (p : ℕ × ℕ). x ∷ drawn_moves (left - 1) p.1 (core_next c x)) (sym next)

    whole_next : (so_far.moves ++ x ∷ []) ++ drawn_moves (left - 1) after (core_next c x) ≡ drawn_moves most seed start
    whole_next =
        append_assoc so_far.moves (x ∷ []) (drawn_moves (left - 1) after (core_next c x))
        ∙ (ap (λ (xs : List Step). so_far.moves ++ xs) (sym drawn_next) ∙ so_far.whole)

    pub draw_more : (d : Core) (behind : Output) (fewer : ℕ) → fewer ≡ left - 1 → d ≡ core_next c x → TookAll now behind (line_text (Move x))
        → HasDrawn start most seed old d fewer after behind
    draw_more d behind fewer few made took = record {
      moves = so_far.moves ++ x ∷ [];
      leads = made ∙ (ap (λ (e : Core). core_next e x) so_far.leads ∙ sym (core_append start so_far.moves (x ∷ [])));
      took = subst (TookAll old behind) (text_push so_far.moves x)
          (took_then old now behind (text_of (headed None so_far.moves)) (line_text (Move x)) so_far.took took);
      whole = ap (λ (e : Core). (so_far.moves ++ x ∷ []) ++ drawn_moves fewer after e) made
          ∙ (ap (λ (n : ℕ). (so_far.moves ++ x ∷ []) ++ drawn_moves n after (core_next c x)) few ∙ whole_next);
    }

    pub draw_front : (behind : Output) → TookFront now behind (line_text (Move x))
        → TookFront old behind (text_of (headed None (drawn_moves most seed start)))
    draw_front behind took =
        let more : List Step = drawn_moves (left - 1) after (core_next c x) in
        subst (TookFront old behind)
        (ap (λ (t : List ℕ). t ++ text_of (headed None more)) (text_push so_far.moves x)
        ∙ (sym (flat_map-append line_text (map Move (so_far.moves ++ x ∷ [])) (map Move more))
        ∙ (ap text_of (sym (map-append Move (so_far.moves ++ x ∷ []) more))
        ∙ ap (λ (xs : List Step). text_of (headed None xs)) whole_next)))
        (front_of_more old behind (text_of (headed None so_far.moves) ++ line_text (Move x)) (text_of (headed None more))
        (front_then old now behind (text_of (headed None so_far.moves)) (line_text (Move x)) so_far.took took))

  -- no more moves
  all_moves : drawn_moves left state c ≡ [] → so_far.moves ≡ drawn_moves most seed start
  all_moves none = sym (append-nil so_far.moves) ∙ (ap (λ (xs : List Step). so_far.moves ++ xs) (sym none) ∙ so_far.whole)

  pub drawn_led : drawn_moves left state c ≡ [] → c ≡ core_after start (drawn_moves most seed start)
  drawn_led none = so_far.leads ∙ ap (core_after start) (all_moves none)

  pub drawn_took : drawn_moves left state c ≡ [] → TookAll old now (text_of (headed None (drawn_moves most seed start)))
  drawn_took none = subst (λ (xs : List Step). TookAll old now (text_of (headed None xs))) (all_moves none) so_far.took

-- where every script is finished, none is enabled, or no more are allowed
pub no_draw_finished : (c : Core) (left state : ℕ) → all_finished c.state ≡ true → drawn_moves left state c ≡ []
no_draw_finished c left state done = no_moves c left state done

pub no_draw_idle : (c : Core) (left state word after : ℕ) → 0 < left → all_finished c.state ≡ false → (word, after) ≡ mix_u64 state
    → None ≡ drawn_of (enabled_now c (round c.shape)) word → drawn_moves left state c ≡ []
no_draw_idle c left state word after some busy next is =
    next_moves c left state None some busy (ap (λ (p : ℕ × ℕ). drawn_of (enabled_now c (round c.shape)) p.0) (sym next) ∙ sym is)

pub no_draw_allowed : (c : Core) (left state : ℕ) → left ≡ 0 → drawn_moves left state c ≡ []
no_draw_allowed c left state none = ap (λ (n : ℕ). drawn_moves n state c) none

-- one more is counted where it passes a test
as_bit : (b : Bool) → from_bool b ≡ cond b 1 0
as_bit true = refl
as_bit false = refl

low_bit : (b : Bool) → from_bool b ≤ 1
low_bit true = omega arith
low_bit false = omega arith

pub count_more : (p : Step → Bool) (xs : List Step) (i : ℕ) (d : Step) (n k : ℕ) (b : Bool) → i < length xs → n ≡ length (filter p (take i xs))
    → b ≡ p (get_or xs i d) → k ≡ from_bool b → n + k ≡ length (filter p (take (i + 1) xs))
count_more p xs i d n k b inside so_far is bit =
    let one : length (filter p (take (i + 1) xs)) ≡ length (filter p (take i xs)) + cond (p (get_or xs i d)) 1 0 = length-filter_more p xs i d inside in
    let here : k ≡ cond (p (get_or xs i d)) 1 0 = bit ∙ (as_bit b ∙ ap (λ (t : Bool). cond t 1 0) is) in
    let sum : n + k ≡ length (filter p (take i xs)) + cond (p (get_or xs i d)) 1 0 = cc in
    sum ∙ sym one

pub few_more : (i n k : ℕ) (b : Bool) → n ≤ i → k ≡ from_bool b → n + k ≤ i + 1
few_more i n k b few bit = let low : from_bool b ≤ 1 = low_bit b in omega (arith, few, bit, low)

pub all_counted : (p : Step → Bool) (xs : List Step) (i n : ℕ) → length xs ≤ i → n ≡ length (filter p (take i xs)) → n ≡ length (filter p xs)
all_counted p xs i n end is = is ∙ ap (λ (ys : List Step). length (filter p ys)) (take_all i xs end)

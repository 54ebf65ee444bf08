-- The attempts that are marked, in order: those that are enabled.
use Rattle.std.proofs.Common.{◌≡◌, ℕ, zero, suc, ◌+◌, ◌-◌, ◌<◌, ◌≤◌, Bool, true, false, List, [], ◌∷◌, ◌++◌, map, refl, sym, ◌∙◌, ap, arith}
use Rattle.std.specs.Prelude.{filter, is_some}
use Rattle.std.specs.List.{flat_map, range_with_len}
use Rattle.std.proofs.Math.Bool.{cond}
use Rattle.std.proofs.lemmas.List.{map-append}
use Rattle.std.proofs.lemmas.List.Elements.{filter-append}
use Rattle.torus.specs.declared.step.Step.{Step}
use Rattle.torus.specs.declared.step.Choice.TheVariants.{TakeFrom, Put, CreditOf}
use Rattle.torus.specs.Choices.{processor_choices, bank_choices}
use Rattle.machine_parts.specs.Core.{step, attempts_of}
use Rattle.machine_parts.specs.Machine.{Core, built_to, core_next, core_after}
use Rattle.machine_parts.specs.Ports.{is_raised}
use Rattle.machine_core.specs.declared.part.Part.{Part}
use Rattle.machine_core.specs.declared.part.Part.TheVariants.{Processor, Takes, Puts, Credits, Bank}
use Rattle.machine_core.specs.declared.part.Marks.{Marks}
use Rattle.machine_core.specs.Rounds.{attempts_between}
use Rattle.machine_core.specs.Clocked.{turned_at}
use Rattle.machine_core.specs.Marked.{attempt_in, agent_in, choice_in, can_move, marked_between, marked_at, MarksTile}
use Rattle.machine_core.proofs.Rounds.{core_append, attempt_more}

-- numbers up to one, and from it on
pub ranges_join : (a m n : ℕ) → range_with_len a (m + n) ≡ range_with_len a m ++ range_with_len (a + m) n
ranges_join a zero n =
    let e : a ≡ a + 0 = omega arith in
    let z : 0 + n ≡ n = omega arith in
    ap (range_with_len a) z ∙ ap (λ (k : ℕ). range_with_len k n) e
ranges_join a (suc m) n =
    let e : a + 1 + m ≡ a + suc m = omega arith in
    let z : suc m + n ≡ suc (m + n) = omega arith in
    ap (range_with_len a) z
    ∙ ap (λ (xs : List ℕ). a ∷ xs) (ranges_join (a + 1) m n ∙ ap (λ (k : ℕ). range_with_len (a + 1) m ++ range_with_len k n) e)

-- none of those that aren't marked
none_marked : (marks : ℕ → Bool) (a n : ℕ) → ((k : ℕ) → a ≤ k → k < a + n → marks k ≡ false) → filter marks (range_with_len a n) ≡ []
none_marked marks a zero none = refl
none_marked marks a (suc n) none =
    ap (λ (b : Bool). cond b (a ∷ filter marks (range_with_len (a + 1) n)) (filter marks (range_with_len (a + 1) n))) (none a (omega arith) (omega arith))
    ∙ none_marked marks (a + 1) n (λ k l m. none k (omega (arith, l)) (omega (arith, m)))

append_none : (xs : List ℕ) → xs ++ [] ≡ xs
append_none [] = refl
append_none (x ∷ xs) = ap (λ (ys : List ℕ). x ∷ ys) (append_none xs)

module _ (marks : ℕ → Bool) where
  -- the numbers that are marked, up to an end, where none is from a number on
  pub numbers_rest : (from at end : ℕ) → from ≤ at → at ≤ end → ((k : ℕ) → at ≤ k → k < end → marks k ≡ false)
      → filter marks (range_with_len from (end - from)) ≡ filter marks (range_with_len from (at - from))
  numbers_rest from at end low high none =
      let m : ℕ = at - from in
      let n : ℕ = end - at in
      let long : end - from ≡ m + n = omega (arith, low, high) in
      let here : from + m ≡ at = omega (arith, low) in
      ap (λ (k : ℕ). filter marks (range_with_len from k)) long
      ∙ (ap (filter marks) (ranges_join from m n ∙ ap (λ (k : ℕ). range_with_len from m ++ range_with_len k n) here)
      ∙ (filter-append marks (range_with_len from m) (range_with_len at n)
      ∙ (ap (λ (xs : List ℕ). filter marks (range_with_len from m) ++ xs)
      (none_marked marks at n (λ k l h. none k l (omega (arith, h, high, l))))
      ∙ append_none (filter marks (range_with_len from m)))))

  -- and one that is marked
  pub numbers_one : (from n : ℕ) → from ≤ n → marks n ≡ true
      → filter marks (range_with_len from (n + 1 - from)) ≡ filter marks (range_with_len from (n - from)) ++ n ∷ []
  numbers_one from n low here_is =
      let m : ℕ = n - from in
      let long : n + 1 - from ≡ m + 1 = omega (arith, low) in
      let here : from + m ≡ n = omega (arith, low) in
      ap (λ (k : ℕ). filter marks (range_with_len from k)) long
      ∙ (ap (filter marks) (ranges_join from m 1 ∙ ap (λ (k : ℕ). range_with_len from m ++ k ∷ []) here)
      ∙ (filter-append marks (range_with_len from m) (n ∷ [])
      ∙ ap (λ (b : Bool). filter marks (range_with_len from m) ++ cond b (n ∷ []) []) here_is))

module _ (marks : ℕ → Bool) (part : Part) (t : ℕ) where
  -- the attempts of these
  pub marked_rest : (from at end : ℕ) → from ≤ at → at ≤ end → ((k : ℕ) → at ≤ k → k < end → marks k ≡ false)
      → marked_between marks part t from end ≡ marked_between marks part t from at
  marked_rest from at end low high none = ap (map (attempt_in part t)) (numbers_rest marks from at end low high none)

  marked_one : (from n : ℕ) → from ≤ n → marks n ≡ true
      → marked_between marks part t from (n + 1) ≡ marked_between marks part t from n ++ attempt_in part t n ∷ []
  marked_one from n low here_is =
      ap (map (attempt_in part t)) (numbers_one marks from n low here_is)
      ∙ map-append (attempt_in part t) (filter marks (range_with_len from (n - from))) (n ∷ [])

  -- an attempt more, the first that is marked from a number on
  pub marked_more : (start now after : Core) (from at n : ℕ) → from ≤ at → at ≤ n → ((k : ℕ) → at ≤ k → k < n → marks k ≡ false) → marks n ≡ true
      → now ≡ core_after start (marked_between marks part t from at) → after ≡ core_next now (attempt_in part t n)
      → after ≡ core_after start (marked_between marks part t from (n + 1))
  marked_more start now after from at n low high none here_is so_far is =
      attempt_more start now after (marked_between marks part t from n) (attempt_in part t n)
      (so_far ∙ ap (core_after start) (sym (marked_rest from at n low high none))) is
      ∙ ap (core_after start) (sym (marked_one from n (omega (arith, low, high)) here_is))

-- one part after the others
pub then_part : (start now after : Core) (xs ys : List Step) → now ≡ core_after start xs → after ≡ core_after now ys → after ≡ core_after start (xs ++ ys)
then_part start now after xs ys so_far is = is ∙ (ap (λ (c : Core). core_after c ys) so_far ∙ sym (core_append start xs ys))

-- those marked are those enabled
module _ (c : Core) where
  abbrev pub is_enabled : Step → Bool
  is_enabled a = is_some (step (built_to c) c.state a)

  kept : (marks : ℕ → Bool) (part : Part) (t a n : ℕ) → ((k : ℕ) → a ≤ k → k < a + n → marks k ≡ can_move c part t k)
      → map (attempt_in part t) (filter marks (range_with_len a n)) ≡ filter is_enabled (map (attempt_in part t) (range_with_len a n))
  kept marks part t a zero same = refl
  kept marks part t a (suc n) same =
      by_mark (marks a) (can_move c part t a) (same a (omega arith) (omega arith))
      (kept marks part t (a + 1) n (λ k l m. same k (omega (arith, l)) (omega (arith, m))))
    where
      by_mark : (b e : Bool) → b ≡ e
          → map (attempt_in part t) (filter marks (range_with_len (a + 1) n)) ≡ filter is_enabled (map (attempt_in part t) (range_with_len (a + 1) n))
          → map (attempt_in part t) (cond b (a ∷ filter marks (range_with_len (a + 1) n)) (filter marks (range_with_len (a + 1) n)))
          ≡ cond e (attempt_in part t a ∷ filter is_enabled (map (attempt_in part t) (range_with_len (a + 1) n)))
          (filter is_enabled (map (attempt_in part t) (range_with_len (a + 1) n)))
      by_mark true true h more = ap (λ (xs : List Step). attempt_in part t a ∷ xs) more
      by_mark false false h more = more
      by_mark true false h more = absurd (cc)
      by_mark false true h more = absurd (cc)

  -- the attempts of a part by number
  numbered : (part : Part) (t a n : ℕ) → map (attempt_in part t) (range_with_len a n) ≡ attempts_of (agent_in part t) (map (choice_in part) (range_with_len a n))
  numbered part t a zero = refl
  numbered part t a (suc n) = ap (λ (xs : List Step). attempt_in part t a ∷ xs) (numbered part t (a + 1) n)

  pub part_kept : (marks : ℕ → Bool) (part : Part) (t from to : ℕ) → ((k : ℕ) → k < to → marks k ≡ can_move c part t k)
      → marked_between marks part t from to ≡ filter is_enabled (attempts_between (choice_in part) (agent_in part t) from to)
  part_kept marks part t from to same =
      kept marks part t from (to - from) (λ k l m. same k (omega (arith, l, m)))
      ∙ ap (filter is_enabled) (numbered part t from (to - from))

  -- at a tile
  pub tile_kept : (m : Marks) (ports first t : ℕ) → first < ports → MarksTile c ports t m
      → marked_at m ports first t ≡ filter is_enabled (turned_at ports first t)
  tile_kept m ports first t low is =
      let p_0 : List Step = attempts_of (agent_in Processor t) processor_choices in
      let p_1 : List Step = attempts_between (λ k. TakeFrom k) (agent_in Takes t) 0 ports in
      let p_2 : List Step = attempts_between (λ k. Put k) (agent_in Puts t) first ports in
      let p_3 : List Step = attempts_between (λ k. Put k) (agent_in Puts t) 0 first in
      let p_4 : List Step = attempts_between (λ k. CreditOf k) (agent_in Credits t) 0 ports in
      let p_5 : List Step = attempts_of (agent_in Bank t) bank_choices in
      let e_0 : marked_between (is_raised m.processors t) Processor t 0 5 ≡ filter is_enabled p_0
      = part_kept (is_raised m.processors t) Processor t 0 5 is.processors in
      let e_1 : marked_between (is_raised m.takes t) Takes t 0 ports ≡ filter is_enabled p_1
      = part_kept (is_raised m.takes t) Takes t 0 ports is.takes in
      let e_2 : marked_between (is_raised m.puts t) Puts t first ports ≡ filter is_enabled p_2
      = part_kept (is_raised m.puts t) Puts t first ports is.puts in
      let e_3 : marked_between (is_raised m.puts t) Puts t 0 first ≡ filter is_enabled p_3
      = part_kept (is_raised m.puts t) Puts t 0 first (λ k h. is.puts k (omega (arith, h, low))) in
      let e_4 : marked_between (is_raised m.credits t) Credits t 0 ports ≡ filter is_enabled p_4
      = part_kept (is_raised m.credits t) Credits t 0 ports is.credits in
      let e_5 : marked_between (is_raised m.banks t) Bank t 0 4 ≡ filter is_enabled p_5
      = part_kept (is_raised m.banks t) Bank t 0 4 is.banks in
      let m_0 : List Step = marked_between (is_raised m.processors t) Processor t 0 5 in
      let m_1 : List Step = marked_between (is_raised m.takes t) Takes t 0 ports in
      let m_2 : List Step = marked_between (is_raised m.puts t) Puts t first ports in
      let m_3 : List Step = marked_between (is_raised m.puts t) Puts t 0 first in
      let m_4 : List Step = marked_between (is_raised m.credits t) Credits t 0 ports in
      let m_5 : List Step = marked_between (is_raised m.banks t) Bank t 0 4 in
      let j_1 = join m_0 p_0 m_1 p_1 e_0 e_1 in
      let j_2 = join (m_0 ++ m_1) (p_0 ++ p_1) m_2 p_2 j_1 e_2 in
      let j_3 = join (m_0 ++ m_1 ++ m_2) (p_0 ++ p_1 ++ p_2) m_3 p_3 j_2 e_3 in
      let j_4 = join (m_0 ++ m_1 ++ m_2 ++ m_3) (p_0 ++ p_1 ++ p_2 ++ p_3) m_4 p_4 j_3 e_4 in
      join (m_0 ++ m_1 ++ m_2 ++ m_3 ++ m_4) (p_0 ++ p_1 ++ p_2 ++ p_3 ++ p_4) m_5 p_5 j_4 e_5
    where
      join : (xs ps ys qs : List Step) → xs ≡ filter is_enabled ps → ys ≡ filter is_enabled qs → xs ++ ys ≡ filter is_enabled (ps ++ qs)
      join xs ps ys qs a b = ap (λ (zs : List Step). zs ++ ys) a ∙ (ap (λ (zs : List Step). filter is_enabled ps ++ zs) b ∙ sym (filter-append is_enabled ps qs))

  -- at all tiles
  pub tiles_kept : (m : Marks) (ports first a n : ℕ) → first < ports → ((t : ℕ) → t < a + n → MarksTile c ports t m)
      → flat_map (marked_at m ports first) (range_with_len a n) ≡ filter is_enabled (flat_map (turned_at ports first) (range_with_len a n))
  tiles_kept m ports first a zero low is = refl
  tiles_kept m ports first a (suc n) low is =
      ap (λ (xs : List Step). xs ++ flat_map (marked_at m ports first) (range_with_len (a + 1) n)) (tile_kept m ports first a low (is a (omega arith)))
      ∙ (ap (λ (xs : List Step). filter is_enabled (turned_at ports first a) ++ xs)
      (tiles_kept m ports first (a + 1) n low (λ t h. is t (omega (arith, h))))
      ∙ sym (filter-append is_enabled (turned_at ports first a) (flat_map (turned_at ports first) (range_with_len (a + 1) n))))

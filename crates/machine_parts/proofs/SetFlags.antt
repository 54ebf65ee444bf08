-- Flags that are set, and what they are then.
use Rattle.std.proofs.Common.{◌≡◌, ◌≢◌, ⊎_elim, inl, inr, ℕ, zero, suc, ◌*◌, ◌/◌, ◌%◌, ◌^◌, ◌<◌, ◌≤◌, ◌+◌, ◌==◌, Bool, true, false, List, [], ◌∷◌, ◌++◌, length, refl, sym, ◌∙◌}
use Rattle.std.proofs.Common.{ap, subst, arith, eq-eqb, slice_index_or, slice_index, slice_set, vec_len, if◌then◌else◌}
use Rattle.std.specs.Prelude.{◌||◌, ◌&&◌, not, nat_lt, bit_and, bit_or}
use Rattle.std.specs.Int.{bit_at, bit_not, w8}
use Rattle.std.specs.List.{list_any}
use Rattle.std.proofs.lemmas.Bool.{cases_eq, ne_eqb}
use Rattle.std.proofs.lemmas.List.{length-set, get_or-set_same, get_or-set_other}
use Rattle.std.proofs.lemmas.Nat.Bits.{bit_at_or, bit_at_clear_same, bit_at_clear_other}
use Rattle.std.proofs.lemmas.List.FromFn.{map-range_with_len_more, length-map-range_with_len}
use Rattle.torus.specs.Shape.{Shape, IsAccepted, tiles_of}
use Rattle.torus.specs.declared.step.Choice.{Choice}
use Rattle.torus.specs.declared.step.Choice.TheVariants as choice
use Rattle.flit_buffer.specs.declared.word_op.WordOp.{WordOp}
use Rattle.flit_buffer.specs.declared.word_op.WordOp.TheVariants.{Add}
use Rattle.channel_number.specs.Order.{channel_count}
use Rattle.flit_buffer.proofs.PortLaws.{is_less, less}
use Rattle.core_laws.specs.Waking.{receiver_of, sender_of, processors}
use Rattle.core_laws.specs.Operations.{wake_places}
use Rattle.tile.specs.Tile.{Design}
use Rattle.machine_parts.specs.Awake.{Awake, bit_of, bits_at, with_bits, woken}
use Rattle.machine_parts.specs.Ends.{all_ends, ends_of}
use Rattle.machine_parts.specs.Inside.{awake_of, TellEnds}
use Rattle.machine_parts.specs.declared.ends.Ends.{Ends}
use Rattle.machine_parts.specs.declared.flags.WakeFlags.TheInside.{Inside}
use Rattle.machine_parts.proofs.PlacesOfLines.{ends_at, sender_below, receiver_below, channel_below}
use Rattle.machine_parts.proofs.PortSets.{max_zero}

-- flags with some bits of one agent set too
abbrev pub set_at : List ℕ → ℕ → ℕ → List ℕ
set_at flags bits agent = slice_set flags agent (bit_or (slice_index flags agent) bits)

-- one agent more
pub awake_more : (flags : List ℕ) (bits : ℕ) (agents : List ℕ) (agent : ℕ)
    → with_bits flags bits (agents ++ agent ∷ []) ≡ set_at (with_bits flags bits agents) bits agent
awake_more flags bits [] agent = refl
awake_more flags bits (a ∷ agents) agent = awake_more (set_at flags bits a) bits agents agent

pub as_many : (flags : List ℕ) (bits : ℕ) (agents : List ℕ) → length (with_bits flags bits agents) ≡ length flags
as_many flags bits [] = refl
as_many flags bits (a ∷ agents) = as_many (set_at flags bits a) bits agents ∙ length-set flags a (bit_or (slice_index flags a) bits)

-- one processor more
pub processor_more : (flags : List ℕ) (bits n : ℕ) → set_at (with_bits flags bits (processors n)) bits (3 * n) ≡ with_bits flags bits (processors (n + 1))
processor_more flags bits n =
    sym (ap (with_bits flags bits) (map-range_with_len_more (λ t. 3 * t) 0 n n (omega arith)) ∙ awake_more flags bits (processors n) (3 * n))

-- the wakened agents of a word that is a place, and of one that isn't
module _ {A : Type 0} (a : Inside A) (is : TellEnds a) (word : ℕ) where
  abbrev d : Design
  d = (awake_of a).design

  as_many_places : vec_len a.ends ≡ wake_places d
  as_many_places =
      let counted = a.ends.ok.0 in
      let long = ap (λ (xs : List Ends). length xs) is.ends in
      let all = length-map-range_with_len (λ place. ends_of a.torus (place / a.depth)) 0 (channel_count a.torus * a.depth) in
      omega (arith, counted, long, all)

  module _ (low : word < vec_len a.ends) (e : Ends) (at : e ≡ slice_index_or a.ends.items word e) where
    place : word < channel_count a.torus * a.depth
    place = let same = as_many_places in omega (arith, same, low)

    those : e ≡ ends_of a.torus (word / a.depth)
    those = ends_at a.torus a.depth word a.ends.items e is.ends place at

    pub sender_small : e.sender < 192
    sender_small = subst (λ (x : Ends). x.sender < 192) (sym those)
        (sender_below a.torus is.accepted (word / a.depth) (channel_below a.torus a.depth word is.some place))

    pub receiver_small : e.receiver < 192
    receiver_small = subst (λ (x : Ends). x.receiver < 192) (sym those)
        (receiver_below a.torus is.accepted (word / a.depth) (channel_below a.torus a.depth word is.some place))

    of_place : (bits n : ℕ) → with_bits a.awake bits (if nat_lt word (wake_places d) then n ∷ [] else []) ≡ set_at a.awake bits n
    of_place bits n = ap (λ (b : Bool). with_bits a.awake bits (if b then n ∷ [] else [])) (is_less word (wake_places d) place)

    pub sender_set : set_at a.awake 4 e.sender ≡ with_bits a.awake 4 (if nat_lt word (wake_places d) then sender_of a.torus (word / a.depth) ∷ [] else [])
    sender_set = ap (λ (x : Ends). set_at a.awake 4 x.sender) those ∙ sym (of_place 4 (sender_of a.torus (word / a.depth)))

    pub receiver_set : set_at a.awake 2 e.receiver
        ≡ with_bits a.awake 2 (if nat_lt word (wake_places d) then receiver_of a.torus (word / a.depth) ∷ [] else [])
    receiver_set = ap (λ (x : Ends). set_at a.awake 2 x.receiver) those ∙ sym (of_place 2 (receiver_of a.torus (word / a.depth)))

  pub none_set : vec_len a.ends ≤ word → (bits n : ℕ) → a.awake ≡ with_bits a.awake bits (if nat_lt word (wake_places d) then n ∷ [] else [])
  none_set high bits n = by_test (nat_lt word (wake_places d)) refl
    where
      by_test : (b : Bool) → nat_lt word (wake_places d) ≡ b → a.awake ≡ with_bits a.awake bits (if b then n ∷ [] else [])
      by_test true e = let l = less word (wake_places d) e in let same = as_many_places in absurd (omega (arith, l, same, high))
      by_test false e = refl

with_false : (x : Bool) → (x && false) ≡ false
with_false true = refl
with_false false = refl

none_of : (a b : Bool) → (a || b) ≡ false → (a ≡ false) × (b ≡ false)
none_of true b h = absurd (cc)
none_of false b h = (refl, h)

-- a bit is set in two words together where it is in either
pub in_either : (n m b : ℕ) → not (bit_at (bit_or n m) b == 0) ≡ (not (bit_at n b == 0) || not (bit_at m b == 0))
in_either n m b = ap (λ (x : ℕ). not (x == 0)) (bit_at_or n m b) ∙ max_zero (bit_at n b) (bit_at m b)

-- the bits of an agent that is set
pub set_same : (flags : List ℕ) (bits agent b : ℕ) → not (bit_at 255 b == 0) ≡ true
    → not (bit_at (bits_at (set_at flags bits agent) agent) b == 0) ≡ (not (bit_at (bits_at flags agent) b == 0) || not (bit_at bits b == 0))
set_same [] bits agent b all = all ∙ sym (ap (λ (x : Bool). x || not (bit_at bits b == 0)) all)
set_same (x ∷ flags) bits zero b all = in_either x bits b
set_same (x ∷ flags) bits (suc k) b all = set_same flags bits k b all

-- a bit that is clear behind agents that were set was clear before, and isn't among theirs
pub clear_before : (flags : List ℕ) (bits : ℕ) (agents : List ℕ) (agent b : ℕ) → not (bit_at 255 b == 0) ≡ true
    → not (bit_at (bits_at (with_bits flags bits agents) agent) b == 0) ≡ false
    → (not (bit_at (bits_at flags agent) b == 0) ≡ false) × ((not (bit_at bits b == 0) && list_any (λ k. k == agent) agents) ≡ false)
clear_before flags bits [] agent b all out = (out, with_false (not (bit_at bits b == 0)))
clear_before flags bits (a ∷ agents) agent b all out =
    let rest = clear_before (set_at flags bits a) bits agents agent b all out in
    let is : Bool = not (bit_at bits b == 0) in
    ⊎_elim
    (λ (same : agent ≡ a).
    let two = none_of (not (bit_at (bits_at flags a) b == 0)) is
    (sym (set_same flags bits a b all) ∙ (ap (λ (k : ℕ). not (bit_at (bits_at (set_at flags bits a) k) b == 0)) (sym same) ∙ rest.0)) in (
      ap (λ (k : ℕ). not (bit_at (bits_at flags k) b == 0)) same ∙ two.0,
      ap (λ (x : Bool). x && list_any (λ k. k == agent) (a ∷ agents)) two.1,
    ))
    (λ (other : agent ≢ a). (
      ap (λ (n : ℕ). not (bit_at n b == 0)) (sym (get_or-set_other flags a agent (bit_or (slice_index flags a) bits) 255 other)) ∙ rest.0,
      ap (λ (x : Bool). is && (x || list_any (λ k. k == agent) agents)) (ne_eqb a agent (λ e. other (sym e))) ∙ rest.1,
    ))
    (cases_eq agent a)

-- the bits of another agent than one that is written
pub bits_other : (flags : List ℕ) (written agent n : ℕ) → agent ≢ written → bits_at (slice_set flags written n) agent ≡ bits_at flags agent
bits_other flags written agent n other = get_or-set_other flags written agent n 255 other

-- the bits of an agent that is there, without a default
pub same_bits : (flags : List ℕ) (k : ℕ) → k < length flags → slice_index flags k ≡ bits_at flags k
same_bits [] k low = absurd (omega (arith, low))
same_bits (x ∷ flags) zero low = refl
same_bits (x ∷ flags) (suc k) low = same_bits flags k (omega (arith, low))

pub bit_small : (c : Choice) → bit_of c < 8
bit_small choice.Send = omega arith
bit_small choice.Take = omega arith
bit_small choice.Credit = omega arith
bit_small choice.Serve = omega arith
bit_small choice.Done = omega arith
bit_small choice.Look = omega arith
bit_small (choice.TakeFrom i) = omega arith
bit_small (choice.Put i) = omega arith
bit_small (choice.CreditOf o) = omega arith

-- with one bit of an agent cleared
module _ (flags : List ℕ) (agent bit : ℕ) (within : bit < 8) (low : agent < length flags) where
  abbrev without : ℕ
  without = bit_and (slice_index flags agent) (bit_not w8 (1 * 2 ^ bit % 2 ^ 8))

  abbrev is_set : ℕ → ℕ → Bool
  is_set n b = not (bit_at n b == 0)

  with_true : (x : Bool) → (x && true) ≡ x
  with_true true = refl
  with_true false = refl

  here : (b : ℕ) → b < 8 → is_set without b ≡ (is_set (bits_at flags agent) b && not (b == bit))
  here b small = elim (cases_eq b bit) [
    | inl e ↦
        ap (λ (k : ℕ). is_set without k) e
        ∙ (ap (λ (n : ℕ). not (n == 0)) (bit_at_clear_same w8 (slice_index flags agent) bit within)
        ∙ sym (ap (λ (x : Bool). is_set (bits_at flags agent) b && not x) (eq-eqb b bit e) ∙ with_false (is_set (bits_at flags agent) b)))
    | inr ne ↦
        ap (λ (n : ℕ). not (n == 0)) (bit_at_clear_other w8 (slice_index flags agent) bit within b small ne)
        ∙ (ap (λ (n : ℕ). is_set n b) (same_bits flags agent low)
        ∙ sym (ap (λ (x : Bool). is_set (bits_at flags agent) b && not x) (ne_eqb b bit ne) ∙ with_true (is_set (bits_at flags agent) b)))
  ]

  pub cleared : (k b : ℕ) → b < 8 → is_set (bits_at (slice_set flags agent without) k) b
      ≡ (is_set (bits_at flags k) b && not ((k == agent) && (b == bit)))
  cleared k b small = elim (cases_eq k agent) [
    | inl e ↦
        subst (λ (n : ℕ). is_set (bits_at (slice_set flags agent without) n) b ≡ (is_set (bits_at flags n) b && not ((n == agent) && (b == bit)))) (sym e)
        (ap (λ (n : ℕ). is_set n b) (get_or-set_same flags agent without 255 low)
        ∙ (here b small ∙ sym (ap (λ (x : Bool). is_set (bits_at flags agent) b && not (x && (b == bit))) (eq-eqb agent agent refl))))
    | inr ne ↦
        ap (λ (n : ℕ). is_set n b) (bits_other flags agent k without ne)
        ∙ sym (ap (λ (x : Bool). is_set (bits_at flags k) b && not (x && (b == bit))) (ne_eqb k agent ne) ∙ with_true (is_set (bits_at flags k) b))
  ]

-- fields of which only the flags have changed tell the ends as before
pub still_tell : {A : Type 0} (a b : Inside A) → TellEnds a → b.torus ≡ a.torus → b.depth ≡ a.depth → b.words ≡ a.words → b.ends ≡ a.ends → (bits : ℕ)
    (agents : List ℕ)
    → b.awake ≡ with_bits a.awake bits agents → b.all ≡ false → TellEnds b
still_tell a b is torus depth words ends bits agents awake some_clear = record {
  accepted = subst IsAccepted (sym torus) is.accepted;
  flags = ap (λ (xs : List ℕ). length xs) awake ∙ (as_many a.awake bits agents ∙ is.flags);
  some = let h = is.some in omega (arith, depth, h);
  few = let h = is.few in omega (arith, depth, h);
  words = let h = is.words in omega (arith, words, h);
  ends = ap (λ v. v.items) ends ∙ (is.ends ∙ (ap (λ (s : Shape). all_ends s a.depth) (sym torus) ∙ ap (all_ends b.torus) (sym depth)));
  all = λ e. let clash : ◌≡◌ {A = Bool} true false = sym e ∙ some_clear in absurd (cc);
}

-- an addition wakes the processors where its word is the done word, and nobody else
module _ {A : Type 0} (a : Inside A) (is : TellEnds a) (op : WordOp) (word v : ℕ) (adds : op ≡ Add word v) where
  abbrev built : Design
  built = (awake_of a).design

  same_test : (vec_len a.ends ≡ wake_places built)
      × (woken (awake_of a) op ≡ record {
        design = built;
        flags = with_bits a.awake 16 (if word == wake_places built + a.words then processors (tiles_of a.torus) else []);
      })
  same_test = (as_many_places a is word, ap (woken (awake_of a)) adds)

  abbrev picked : Bool → Awake
  picked b = record { design = built; flags = with_bits a.awake 16 (if b then processors (tiles_of a.torus) else []) }

  pub added_done : word ≡ vec_len a.ends + a.words → (new : Awake) → new.design ≡ built → new.flags ≡ with_bits a.awake 16 (processors (tiles_of a.torus))
      → new ≡ woken (awake_of a) op
  added_done at new design flags =
      let places = same_test.0 in
      ap (λ (d : Design). record { design = d; flags = new.flags }) design
      ∙ (ap (λ (fs : List ℕ). record { design = built; flags = fs }) flags
      ∙ (sym (ap picked (eq-eqb word (wake_places built + a.words) (omega (arith, at, places))))
      ∙ sym same_test.1))

  pub added_elsewhere : word ≢ vec_len a.ends + a.words → awake_of a ≡ woken (awake_of a) op
  added_elsewhere other =
      let places = same_test.0 in
      sym (ap picked (ne_eqb word (wake_places built + a.words) (λ e. other (omega (arith, e, places))))) ∙ sym same_test.1

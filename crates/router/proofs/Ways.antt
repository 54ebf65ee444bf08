-- The output of a packet, by that of one that was injected at the same tile.
use Rattle.std.proofs.Common.{◌≡◌, ℕ, suc, ◌+◌, ◌*◌, ◌/◌, ◌%◌, ◌<◌, Bool, true, false, cond, List, [], ◌∷◌, length, get_or, Option, Some, None, inl, inr, refl}
use Rattle.std.proofs.Common.{sym, ap, subst, ◌∙◌, arith}
use Rattle.std.specs.Prelude.{◌==◌, ◌||◌, ◌&&◌, not, IfSome}
use Rattle.std.specs.List.{find, range_with_len}
use Rattle.std.proofs.lemmas.Bool.{cases_lt, lt-ltb, le-ltb, ne_eqb}
use Rattle.std.proofs.Math.Bool.{or-false}
use Rattle.std.proofs.lemmas.List.FromFn.{length-range_with_len, get_or-range_with_len}
use Rattle.torus.specs.Shape.{Shape, dims_of, tiles_of, digit_of, radix_of}
use Rattle.dateline_route.specs.declared.channel.Input.TheVariants.{Inject}
use Rattle.dateline_route.specs.declared.channel.Output.{Output}
use Rattle.dateline_route.specs.declared.channel.Output.TheVariants.{Eject, Hop as To}
use Rattle.dateline_route.specs.Next.{next_of, output_in, first_apart, is_dateline_hop, came_on_one}
use Rattle.dateline_route.specs.Ring.{shorter_way}
use Rattle.torus.specs.declared.shape.Dir.{Dir}
use Rattle.torus.specs.declared.shape.Dir.TheVariants.{Plus, Minus}
use Rattle.torus.specs.declared.shape.Class.TheVariants.{Request}
use Rattle.channel_number.specs.Order.{dir_at}
use Rattle.packet.specs.declared.heading.Head.{Head}
use Rattle.packet.specs.Flits.{head_of}
use Rattle.channel_number.specs.Ports.{input_numbered, output_number}
use Rattle.router.specs.Table.{RouterState, output_for, way_of, is_owned, NamesTile}
use Rattle.router.specs.Ways.{onward, output_numbered, HasDimension}

-- what is found stands in the list
found_step : (p : ℕ → Bool) (x : ℕ) (xs : List ℕ) (d : ℕ) (b : Bool) → p x ≡ b → (find p xs ≡ Some d → (i : ℕ) × (i < length xs) × (get_or xs i 0 ≡ d))
    → cond b (Some x) (find p xs) ≡ Some d → (i : ℕ) × (i < length (x ∷ xs)) × (get_or (x ∷ xs) i 0 ≡ d)
found_step p x xs d true is later e = (0, omega arith, cc)
found_step p x xs d false is later e = let at = later e in (suc at.0, omega (arith, at.1), at.2)

found_at : (p : ℕ → Bool) (xs : List ℕ) (d : ℕ) → find p xs ≡ Some d → (i : ℕ) × (i < length xs) × (get_or xs i 0 ≡ d)
found_at p [] d e = cc
found_at p (x ∷ xs) d e = found_step p x xs d (p x) refl (found_at p xs d) e

pub found_below : (p : ℕ → Bool) (n d : ℕ) → find p (range_with_len 0 n) ≡ Some d → d < n
found_below p n d e =
    let at = found_at p (range_with_len 0 n) d e in
    let low : at.0 < n = omega (arith, at.1, length-range_with_len 0 n) in
    omega (arith, at.2, get_or-range_with_len 0 n at.0 0 low)

-- whether a packet came in dimension d on bit 1 tells the number of its input
came_by : (dims i d : ℕ) → d < dims → (b : Bool) → (b || came_on_one (input_numbered dims i) d) ≡ ((b || false) || ((i / 8 == d) && (i % 2 == 1)))
came_by dims i d low b = elim (cases_lt i (8 * dims)) [
  | inl hop ↦ rw (lt-ltb i (8 * dims) hop, or-false b) refl
  | inr past ↦ rw (le-ltb i (8 * dims) past, ne_eqb (i / 8) d (λ e. omega arith), or-false b, or-false b) refl
]

module _ (s : Shape) (t i dst : ℕ) where
  onward_in : (m : Option ℕ) → first_apart s t dst ≡ m → output_in s t (input_numbered (dims_of s) i) dst m ≡ onward i (output_in s t Inject dst m)
  onward_in None e = refl
  onward_in (Some d) e =
      let dir : Dir = shorter_way (radix_of s d) (digit_of s t d) (digit_of s dst d) in
      ap (To d dir) (came_by (dims_of s) i d (found_below (λ d. not (digit_of s t d == digit_of s dst d)) (dims_of s) d e) (is_dateline_hop s t d dir))

  -- the way of a packet that came by an input, by that of one that was injected
  pub next_onward : next_of s t (input_numbered (dims_of s) i) dst ≡ onward i (next_of s t Inject dst)
  next_onward = onward_in (first_apart s t dst) refl

  output_in_is : (m : Option ℕ) → first_apart s t dst ≡ m → HasDimension (dims_of s) (onward i (output_in s t Inject dst m))
  output_in_is None e = tt
  output_in_is (Some d) e = found_below (λ d. not (digit_of s t d == digit_of s dst d)) (dims_of s) d e

  pub onward_is_output : HasDimension (dims_of s) (onward i (next_of s t Inject dst))
  onward_is_output = output_in_is (first_apart s t dst) refl

-- what the code found out is the way
pub way_told : (s : Shape) (t i : ℕ) (head : Head) (way out : Output) (number : ℕ) → way ≡ next_of s t Inject head.destination → out ≡ onward i way
    → number ≡ output_number (dims_of s) head.class out
    → number ≡ way_of s t i head
way_told s t i head way out number is_next is_out is_number =
    is_number ∙ ap (output_number (dims_of s) head.class) (is_out ∙ ap (onward i) is_next ∙ sym (next_onward s t i head.destination))

module _ (s : Shape) (t : ℕ) (r : RouterState) (i : ℕ) (head : Head) (number : ℕ) (is : number ≡ way_of s t i head) where
  pub owned_way : is_owned r number ≡ true → None ≡ output_for s t r i (Some head)
  owned_way owned = let e : is_owned r (way_of s t i head) ≡ true = ap (is_owned r) (sym is) ∙ owned in rw e refl

  pub free_way : is_owned r number ≡ false → Some number ≡ output_for s t r i (Some head)
  free_way free = let e : is_owned r (way_of s t i head) ≡ false = ap (is_owned r) (sym is) ∙ free in rw e (ap Some is)

pub named_tile : (s : Shape) (flit : ℕ) (head : Head) → NamesTile s flit → head_of flit ≡ Some head → head.destination < tiles_of s
named_tile s flit head names is = subst (λ (o : Option Head). IfSome o (λ h. h.destination < tiles_of s)) is names

module _ (dims n d : ℕ) (dir : Dir) (bit : Bool) (low : n < 8 * dims) (dim : n / 8 ≡ d) (way : dir_at (n / 4 % 2) ≡ dir) (on : (n % 2 == 1) ≡ bit) where
  hop_numbered : output_numbered dims n ≡ To d dir bit
  hop_numbered = rw (lt-ltb n (8 * dims) low, dim, way, on) refl

-- the number of an output for requests tells the output
pub numbered_back : (dims : ℕ) (o : Output) → HasDimension dims o → output_numbered dims (output_number dims Request o) ≡ o
numbered_back dims Eject is = rw (le-ltb (8 * dims + 0) (8 * dims) (omega arith)) refl
numbered_back dims (To d Plus false) is =
    let n : ℕ = 8 * d + 4 * 0 + 2 * 0 + 0 in
    hop_numbered dims n d Plus false (omega (arith, is)) (omega arith)
    (let e : n / 4 % 2 ≡ 0 = omega arith in ap dir_at e) (let e : n % 2 ≡ 0 = omega arith in ap (λ k. k == 1) e)
numbered_back dims (To d Plus true) is =
    let n : ℕ = 8 * d + 4 * 0 + 2 * 0 + 1 in
    hop_numbered dims n d Plus true (omega (arith, is)) (omega arith)
    (let e : n / 4 % 2 ≡ 0 = omega arith in ap dir_at e) (let e : n % 2 ≡ 1 = omega arith in ap (λ k. k == 1) e)
numbered_back dims (To d Minus false) is =
    let n : ℕ = 8 * d + 4 * 1 + 2 * 0 + 0 in
    hop_numbered dims n d Minus false (omega (arith, is)) (omega arith)
    (let e : n / 4 % 2 ≡ 1 = omega arith in ap dir_at e) (let e : n % 2 ≡ 0 = omega arith in ap (λ k. k == 1) e)
numbered_back dims (To d Minus true) is =
    let n : ℕ = 8 * d + 4 * 1 + 2 * 0 + 1 in
    hop_numbered dims n d Minus true (omega (arith, is)) (omega arith)
    (let e : n / 4 % 2 ≡ 1 = omega arith in ap dir_at e) (let e : n % 2 ≡ 1 = omega arith in ap (λ k. k == 1) e)

undo_onward : (dims i : ℕ) (o : Output) → HasDimension dims (onward i o) → HasDimension dims o
undo_onward dims i Eject is = tt
undo_onward dims i (To d dir bit) is = is

pub next_is_output : (s : Shape) (t dst : ℕ) → HasDimension (dims_of s) (next_of s t Inject dst)
next_is_output s t dst = undo_onward (dims_of s) 0 (next_of s t Inject dst) (onward_is_output s t 0 dst)

-- the number that a table of ways holds tells the way
pub way_numbered : (s : Shape) (t dst w : ℕ) → w ≡ output_number (dims_of s) Request (next_of s t Inject dst)
    → output_numbered (dims_of s) w ≡ next_of s t Inject dst
way_numbered s t dst w is =
    ap (output_numbered (dims_of s)) is ∙ numbered_back (dims_of s) (next_of s t Inject dst) (next_is_output s t dst)

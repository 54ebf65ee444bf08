-- The greatest number of a channel.
use Rattle.std.proofs.Common.{◌≡◌, ℕ, ◌+◌, ◌-◌, ◌*◌, ◌<◌, ◌≤◌, zero, suc, Bool, true, false, List, [], ◌∷◌, length, take, sym, ◌∙◌, ap, subst, arith}
use Rattle.std.specs.Prelude.{sum, slice_index}
use Rattle.std.proofs.lemmas.Grind.{common_steps}
use Rattle.std.proofs.lemmas.Nat.{mod_below}
use Rattle.std.proofs.Math.Nat.{mul_comm}
use Rattle.torus.specs.Shape.{Shape, IsAccepted, product, dims_of, radix_of, dateline_of, digit_of}
use Rattle.torus.specs.declared.shape.Class.{Class}
use Rattle.torus.specs.declared.shape.Class.TheVariants.{Request, Reply}
use Rattle.torus.specs.declared.shape.Dir.{Dir}
use Rattle.torus.specs.declared.shape.Dir.TheVariants.{Plus, Minus}
use Rattle.dateline_route.specs.declared.channel.Channel.{Channel}
use Rattle.dateline_route.specs.declared.channel.Kind.{Kind}
use Rattle.dateline_route.specs.declared.channel.Kind.TheVariants.{Injection, Hop, Ejection}
use Rattle.dateline_route.specs.Walk.{IsChannel, IsInside}
use Rattle.channel_number.specs.Number.{number_of, number_at, first_number, rank_of, past_dateline}
use Rattle.channel_number.proofs.Climb.{sum_more}

past_below : (dir : Dir) (k z x : ℕ) → 0 < k → past_dateline dir k z x < k
past_below Plus k z x some = mod_below (x + (k - (z + 1))) k some
past_below Minus k z x some = mod_below (z + (k - x)) k some

rank_most : (dir : Dir) (k z x : ℕ) (bit : Bool) → 0 < k → rank_of dir k z x bit < k + k
rank_most dir k z x false some = let p = past_below dir k z x some in omega (arith, p)
rank_most dir k z x true some = let p = mod_below (past_dateline dir k z x + 1) k some in omega (arith, p)

sum_within : (ks : List ℕ) (d : ℕ) → sum (take d ks) ≤ sum ks
sum_within [] zero = grind (arith, common_steps)
sum_within [] (suc d) = grind (arith, common_steps)
sum_within (k ∷ ks) zero = grind (arith, common_steps)
sum_within (k ∷ ks) (suc d) = let r = sum_within ks d in grind (arith, common_steps, r)

first_most : (s : Shape) (class : Class) → first_number s class ≤ 2 + 2 * sum s.radices
first_most s Request = omega arith
first_most s Reply = omega arith

most_at : (s : Shape) → IsAccepted s → (t : ℕ) (class : Class) (kind : Kind) → IsInside s kind → number_at s t class kind ≤ 3 + 4 * sum s.radices
most_at s h t class Injection inside = let f = first_most s class in omega (arith, f)
most_at s h t class (Hop d dir bit) inside =
    let f = first_most s class in
    let two : 2 ≤ radix_of s d = h.radix_low d inside in
    let r = rank_most dir (radix_of s d) (dateline_of s d) (digit_of s t d) bit (omega arith) in
    let m = sum_more s.radices d inside in
    let w = sum_within s.radices (d + 1) in
    omega (arith, f, r, m, w)
most_at s h t class Ejection inside = let f = first_most s class in omega (arith, f)

-- no channel has a greater number than a reply's ejection
pub most : (s : Shape) → IsAccepted s → (x : Channel) → IsChannel s x → number_of s x ≤ 3 + 4 * sum s.radices
most s h x is = most_at s h x.tile x.class x.kind is.kind

-- the product of two numbers from 2 to 8 is not small where their sum is large
lows : (x y : ℕ) → (x + 2) * (y + 2) ≡ x * y + 2 * x + 2 * y + 4
lows x y = grind arith

parts : (b x c : ℕ) → (b + x) * c ≡ b * c + x * c
parts b x c = grind arith

product_low : (b c : ℕ) → 2 ≤ b → 2 ≤ c → 2 * b + 2 * c ≤ b * c + 4
product_low b c p q =
    let b_is : (b - 2) + 2 ≡ b = omega arith in
    let c_is : (c - 2) + 2 ≡ c = omega arith in
    let same : b * c ≡ (b - 2) * (c - 2) + 2 * (b - 2) + 2 * (c - 2) + 4 =
    ap (λ m. m * c) (sym b_is) ∙ ap (λ m. ((b - 2) + 2) * m) (sym c_is) ∙ lows (b - 2) (c - 2) in
    omega (arith, same)

product_high : (b c : ℕ) → b ≤ 8 → c ≤ 8 → 8 * b + 8 * c ≤ b * c + 64
product_high b c p q =
    let x : ℕ = 8 - b in
    let y : ℕ = 8 - c in
    let b_is : b + x ≡ 8 = omega arith in
    let c_is : c + y ≡ 8 = omega arith in
    let first : 8 * c ≡ b * c + x * c = ap (λ m. m * c) (sym b_is) ∙ parts b x c in
    let second : 8 * x ≡ c * x + y * x = ap (λ m. m * x) (sym c_is) ∙ parts c y x in
    omega (arith, first, second, mul_comm x c)

by_first : (a b c p : ℕ) → 2 ≤ a → a ≤ 8 → b ≤ 8 → c ≤ 8 → 2 * b + 2 * c ≤ p + 4 → 8 * b + 8 * c ≤ p + 64 → a * p ≤ 64 → a + b + c ≤ 16
by_first zero b c p low high hb hc f g most = absurd (omega arith)
by_first (suc zero) b c p low high hb hc f g most = absurd (omega arith)
by_first (suc (suc zero)) b c p low high hb hc f g most = omega arith
by_first (suc (suc (suc zero))) b c p low high hb hc f g most = omega arith
by_first (suc (suc (suc (suc zero)))) b c p low high hb hc f g most = omega arith
by_first (suc (suc (suc (suc (suc zero))))) b c p low high hb hc f g most = omega arith
by_first (suc (suc (suc (suc (suc (suc zero)))))) b c p low high hb hc f g most = omega arith
by_first (suc (suc (suc (suc (suc (suc (suc zero))))))) b c p low high hb hc f g most = omega arith
by_first (suc (suc (suc (suc (suc (suc (suc (suc m)))))))) b c p low high hb hc f g most =
    let last : m ≡ 0 = omega arith in
    let same : 8 * p ≤ 64 = subst (λ n. suc (suc (suc (suc (suc (suc (suc (suc n))))))) * p ≤ 64) last most in
    omega (arith, same, last)

-- the radices of a torus within the limits: at most three, from 2 to 8, their product at most 64
few : (ks : List ℕ) → length ks ≤ 3 → ((d : ℕ) → d < length ks → 2 ≤ slice_index ks d) → ((d : ℕ) → d < length ks → slice_index ks d ≤ 8) → product ks ≤ 64
    → sum ks ≤ 16
few [] n low high most = omega arith
few (a ∷ []) n low high most = let h = high 0 (omega arith) in omega (arith, h)
few (a ∷ b ∷ []) n low high most = let h = high 0 (omega arith) in let i = high 1 (omega arith) in omega (arith, h, i)
few (a ∷ b ∷ c ∷ []) n low high most =
    let la = low 0 (omega arith) in
    let lb = low 1 (omega arith) in
    let lc = low 2 (omega arith) in
    let ha = high 0 (omega arith) in
    let hb = high 1 (omega arith) in
    let hc = high 2 (omega arith) in
    let one : c * 1 ≡ c = omega arith in
    let less : a * (b * c) ≤ 64 = subst (λ m. a * (b * m) ≤ 64) one most in
    let total = by_first a b c (b * c) la ha hb hc (product_low b c lb lc) (product_high b c hb hc) less in
    omega (arith, total)
few (a ∷ b ∷ c ∷ d ∷ ks) n low high most = absurd (omega arith)

pub radices_most : (s : Shape) → IsAccepted s → sum s.radices ≤ 16
radices_most s h = few s.radices h.dims_high h.radix_low h.radix_high h.tiles

-- no number is above 67
number_at_most : (s : Shape) → IsAccepted s → (t : ℕ) (class : Class) (kind : Kind) → IsInside s kind → number_at s t class kind ≤ 67
number_at_most s h t class kind inside = omega (arith, most_at s h t class kind inside, radices_most s h)

pub number_most : (s : Shape) → IsAccepted s → (x : Channel) → IsChannel s x → number_of s x ≤ 67
number_most s h x is = number_at_most s h x.tile x.class x.kind is.kind

pub ejection_most : (s : Shape) → IsAccepted s → (class : Class) (first all : ℕ) → first ≡ first_number s class → all ≡ sum (take (dims_of s) s.radices)
    → first + 1 + 2 * all ≤ 67
ejection_most s h class first all first_is all_is =
    let whole = sum_within s.radices (dims_of s) in
    let f = first_most s class in
    omega (arith, f, whole, radices_most s h)

pub hop_most : (s : Shape) → IsAccepted s → (t : ℕ) (class : Class) (d : ℕ) (dir : Dir) (bit : Bool) (first below k z x rank : ℕ) → d < dims_of s
    → first ≡ first_number s class
    → below ≡ sum (take d s.radices) → k ≡ radix_of s d → z ≡ dateline_of s d → x ≡ digit_of s t d → rank ≡ rank_of dir k z x bit
    → first + 1 + 2 * below + rank ≤ 67
hop_most s h t class d dir bit first below k z x rank inside first_is below_is k_is z_is x_is rank_is =
    let same : rank ≡ rank_of dir (radix_of s d) (dateline_of s d) (digit_of s t d) bit =
    rank_is ∙ ap (λ m. rank_of dir m z x bit) k_is ∙ ap (λ m. rank_of dir (radix_of s d) m x bit) z_is
    ∙ ap (λ m. rank_of dir (radix_of s d) (dateline_of s d) m bit) x_is in
    omega (arith, number_at_most s h t class (Hop d dir bit) inside)

-- Lines that hold flits in their latch and behind it, at rest.
use Rattle.std.proofs.Common.{◌≡◌, ℕ, zero, suc, ◌+◌, ◌*◌, ◌-◌, ◌<◌, ◌≤◌, List, [], ◌∷◌, ◌++◌, length, Option, Some, None, refl, sym, ◌∙◌, ap}
use Rattle.std.proofs.Common.{arith, append-nil}
use Rattle.std.proofs.lemmas.List.{length-append, append_assoc}
use Rattle.std.proofs.Math.Nat.{suc-mul, zero-mul}
use Rattle.wormhole.specs.Net.{Net}
use Rattle.wormhole.specs.State.{NetLine}
use Rattle.wormhole.specs.Events.{put}

abbrev pub made : List ℕ → ℕ → ℕ → Option ℕ → Option ℕ → List ℕ → NetLine
made flits held returning latch owner rest =
    record { flits = flits; held = held; returning = returning; latch = latch; owner = owner; rest = rest; so_far = [] }

-- a channel with these flits, the first of them in the latch behind it, all other credits at home
abbrev pub line : Net → List ℕ → Option ℕ → List ℕ → NetLine
line n [] o r = made [] n.depth 0 None o r
line n (w ∷ ws) o r = made ws (n.depth - length ws) 0 (Some w) o r

pub owner_is : (n : Net) (ws : List ℕ) (o : Option ℕ) (r : List ℕ) → (line n ws o r).owner ≡ o
owner_is n [] o r = refl
owner_is n (w ∷ ws) o r = refl

pub rest_is : (n : Net) (ws : List ℕ) (o : Option ℕ) (r : List ℕ) → (line n ws o r).rest ≡ r
rest_is n [] o r = refl
rest_is n (w ∷ ws) o r = refl

pub returning_is : (n : Net) (ws : List ℕ) (o : Option ℕ) (r : List ℕ) → (line n ws o r).returning ≡ 0
returning_is n [] o r = refl
returning_is n (w ∷ ws) o r = refl

-- with room there is a credit
pub has_credit : (n : Net) (ws : List ℕ) (o : Option ℕ) (r : List ℕ) → 0 < n.depth → length ws ≤ n.depth → 0 < (line n ws o r).held
has_credit n [] o r deep room = deep
has_credit n (w ∷ ws) o r deep room = let l : length (w ∷ ws) ≡ suc (length ws) = refl in omega arith

-- a put into a channel, and what becomes of its owner or of its sender's packet
pub put_owned : (n : Net) (w : ℕ) (ws : List ℕ) (o p : Option ℕ) (r : List ℕ) → record (put w (line n ws o r)) { owner = p } ≡ put w (line n ws p r)
put_owned n w [] o p r = refl
put_owned n w (v ∷ vs) o p r = refl

pub put_sent : (n : Net) (w : ℕ) (ws : List ℕ) (o : Option ℕ) (r q : List ℕ) → record (put w (line n ws o r)) { rest = q } ≡ put w (line n ws o q)
put_sent n w [] o r q = refl
put_sent n w (v ∷ vs) o r q = refl

-- behind a flit in the latch it stands where it was put
pub put_behind : (n : Net) (w v : ℕ) (vs : List ℕ) (o : Option ℕ) (r : List ℕ) → length (v ∷ vs) ≤ n.depth
    → put w (line n (v ∷ vs) o r) ≡ line n (v ∷ vs ++ w ∷ []) o r
put_behind n w v vs o r room =
    let l : length (vs ++ w ∷ []) ≡ length vs + 1 = length-append vs (w ∷ []) in
    ap (λ h. made (vs ++ w ∷ []) h 0 (Some v) o r) (omega arith)

-- so many packets, one behind the other
abbrev pub many : ℕ → List ℕ → List ℕ
many zero ws = []
many (suc c) ws = ws ++ many c ws

pub many_more : (c : ℕ) (ws : List ℕ) → many c ws ++ ws ≡ many (suc c) ws
many_more zero ws = sym (append-nil ws)
many_more (suc c) ws = append_assoc ws (many c ws) ws ∙ ap (λ vs. ws ++ vs) (many_more c ws)

pub many_long : (c : ℕ) (ws : List ℕ) → length (many c ws) ≡ c * length ws
many_long zero ws = sym (zero-mul (length ws))
many_long (suc c) ws =
    length-append ws (many c ws) ∙ (ap (λ k. length ws + k) (many_long c ws) ∙ (turned (c * length ws) (length ws) ∙ sym (suc-mul c (length ws))))
  where
    turned : (a b : ℕ) → b + a ≡ a + b
    turned a b = omega arith

-- A k-ary n-cube torus, with a radix and a dateline for each dimension.
use Rattle.std.specs.Prelude.{◌≡◌, ℕ, ◌+◌, ◌-◌, ◌*◌, ◌/◌, ◌%◌, ◌<◌, ◌≤◌, ◌≢◌, List, [], ◌∷◌, length, take, slice_index}
use Rattle.torus.specs.declared.shape.Dir.{Dir}
use Rattle.torus.specs.declared.shape.Dir.TheVariants.{Plus, Minus}

-- the radix and the dateline digit of each dimension, dimension 0 first (Dally and Towles,
-- Principles and
-- Practices of Interconnection Networks, chapters 5 and 14)
pub record Shape : Type 0 where
  pub radices : List ℕ
  pub datelines : List ℕ

-- the product of a list of numbers
abbrev pub product : List ℕ → ℕ
product [] = 1
product (k ∷ ks) = k * product ks

-- the number of dimensions (Dally and Towles, chapter 5)
abbrev pub dims_of : Shape → ℕ
dims_of s = length s.radices

-- the number of tiles: the product of the radices (Dally and Towles, chapter 5)
abbrev pub tiles_of : Shape → ℕ
tiles_of s = product s.radices

-- the radix of dimension d
abbrev pub radix_of : Shape → ℕ → ℕ
radix_of s d = slice_index s.radices d

-- the dateline digit of dimension d: the plus hop out of it is the dateline hop (Dally and Towles,
-- chapter 14)
abbrev pub dateline_of : Shape → ℕ → ℕ
dateline_of s d = slice_index s.datelines d

-- digit d of tile t, in mixed radix, dimension 0 lowest (Dally and Towles, chapter 5)
abbrev pub digit_of : Shape → ℕ → ℕ → ℕ
digit_of s t d = (t / product (take d s.radices)) % radix_of s d

-- the digit that lies one hop from x on a ring of k digits (Dally and Towles, chapter 5)
abbrev pub one_hop : Dir → ℕ → ℕ → ℕ
one_hop Plus k x = (x + 1) % k
one_hop Minus k x = (x + (k - 1)) % k

-- tile u lies one hop from tile t in dimension d: that digit is one more (one less) modulo its
-- radix, and
-- every other digit is the same (Dally and Towles, chapter 5)
pub record IsNeighbour (s : Shape) (t d : ℕ) (dir : Dir) (u : ℕ) : Type 0 where
  pub tile : u < tiles_of s
  pub moved : digit_of s u d ≡ one_hop dir (radix_of s d) (digit_of s t d)
  pub kept : (e : ℕ) → e < dims_of s → e ≢ d → digit_of s u e ≡ digit_of s t e

-- low-order interleaving: the bank of an address and its word there (Dally and Towles, chapter 3;
-- this
-- project's own format)
abbrev pub home_of : Shape → ℕ → ℕ × ℕ
home_of s a = (a % tiles_of s, a / tiles_of s)

-- the shapes within the limits
pub record IsAccepted (s : Shape) : Type 0 where
  pub dims_low : 1 ≤ dims_of s
  pub dims_high : dims_of s ≤ 3
  pub radix_low : (d : ℕ) → d < dims_of s → 2 ≤ radix_of s d
  pub radix_high : (d : ℕ) → d < dims_of s → radix_of s d ≤ 8
  pub tiles : tiles_of s ≤ 64
  pub counts : length s.datelines ≡ dims_of s
  pub dateline : (d : ℕ) → d < dims_of s → dateline_of s d < radix_of s d

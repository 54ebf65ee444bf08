-- Flags that are all set: a move sets none.
use Rattle.std.proofs.Common.{◌≡◌, ℕ, zero, suc, Bool, true, false, List, [], ◌∷◌, length, refl, sym, ◌∙◌, ap, arith, replicate, slice_set, slice_index}
use Rattle.std.specs.Prelude.{◌||◌, bit_or}
use Rattle.flit_buffer.specs.declared.word_op.WordOp.{WordOp}
use Rattle.flit_buffer.specs.declared.word_op.WordOp.TheVariants as op
use Rattle.tile.specs.Tile.{Design}
use Rattle.core_laws.specs.Operations.{woken_by_operation}
use Rattle.core_laws.specs.Routers.{PortFlags, brings_flit, returns_credit, ports_woken}
use Rattle.machine_parts.specs.Awake.{Awake, bits_at, bits_by, with_bits, roused, awake_after}
use Rattle.machine_parts.specs.Inside.{AreAll}
use Rattle.machine_parts.specs.Ports.{is_raised, raised, joined, flags_of, ports_roused, AwakePorts}
use Rattle.machine_parts.specs.InsidePorts.{AreRaised}
use Rattle.machine_parts.proofs.SetFlags.{set_at}
use Rattle.machine_parts.proofs.PortFlags.{flags_path}

pub all_255 : (n : ℕ) → AreAll (replicate n 255)
all_255 zero k = refl
all_255 (suc n) zero = refl
all_255 (suc n) (suc k) = all_255 n k

pub as_replicated : (flags : List ℕ) → AreAll flags → flags ≡ replicate (length flags) 255
as_replicated [] all = refl
as_replicated (x ∷ xs) all = ap (λ (n : ℕ). n ∷ xs) (all 0) ∙ ap (λ (ys : List ℕ). 255 ∷ ys) (as_replicated xs (λ k. all (suc k)))

written : (flags : List ℕ) → AreAll flags → (k : ℕ) → slice_set flags k 255 ≡ flags
written [] all k = refl
written (x ∷ xs) all zero = ap (λ (n : ℕ). n ∷ xs) (sym (all 0))
written (x ∷ xs) all (suc k) = ap (λ (ys : List ℕ). x ∷ ys) (written xs (λ j. all (suc j)) k)

-- bits that all are among the 8 of an agent
abbrev AreOfAgent : ℕ → Type 0
AreOfAgent bits = bit_or 255 bits ≡ 255

set_one : (flags : List ℕ) → AreAll flags → (bits : ℕ) → AreOfAgent bits → (k : ℕ) → set_at flags bits k ≡ flags
set_one [] all bits low k = refl
set_one (x ∷ xs) all bits low zero =
    ap (λ (n : ℕ). n ∷ xs) (ap (λ (n : ℕ). bit_or n bits) (all 0) ∙ (low ∙ sym (all 0)))
set_one (x ∷ xs) all bits low (suc k) = ap (λ (ys : List ℕ). x ∷ ys) (set_one xs (λ j. all (suc j)) bits low k)

set_all : (flags : List ℕ) → AreAll flags → (bits : ℕ) → AreOfAgent bits → (agents : List ℕ) → with_bits flags bits agents ≡ flags
set_all flags all bits low [] = refl
set_all flags all bits low (k ∷ agents) =
    ap (λ (fs : List ℕ). with_bits fs bits agents) (set_one flags all bits low k) ∙ set_all flags all bits low agents

of_agent : (o : WordOp) → AreOfAgent (bits_by o)
of_agent (op.Load w) = refl
of_agent (op.Store w v) = refl
of_agent (op.Swap w v) = refl
of_agent (op.Cas w e n) = refl
of_agent (op.Add w v) = refl
of_agent (op.And w v) = refl
of_agent (op.Or w v) = refl
of_agent (op.Xor w v) = refl
of_agent (op.Max w v) = refl
of_agent (op.Min w v) = refl

pub none_to_set : (d : Design) (flags : List ℕ) → AreAll flags → (agent : ℕ) (o : WordOp)
    → let w : Awake = record { design = d; flags = flags } in w ≡ awake_after w agent o
none_to_set d flags all agent o =
    ap (λ (fs : List ℕ). let w : Awake = record { design = d; flags = fs } in w)
    (sym (ap (λ (fs : List ℕ). with_bits fs (bits_by o) (woken_by_operation d o)) (written flags all agent)
    ∙ set_all flags all (bits_by o) (of_agent o) (woken_by_operation d o)))

-- of ports
still : (a b : Bool) → a ≡ true → a ≡ (a || b)
still true b h = refl
still false b h = absurd (cc)

pub none_to_wake : (f : PortFlags) (d : Design) (o : WordOp) → ((t i : ℕ) → f.takes t i ≡ true) → ((t i : ℕ) → f.credits t i ≡ true) → f ≡ ports_woken d o f
none_to_wake f d o takes credits =
    flags_path f (ports_woken d o f) (λ t i. still (f.takes t i) (brings_flit d o t i) (takes t i)) (λ t i. refl)
    (λ t i. still (f.credits t i) (returns_credit d o t i) (credits t i)) (λ t i. refl)

pub all_roused : (f g : PortFlags) → ((t i : ℕ) → f.takes t i ≡ true) → ((t i : ℕ) → f.puts t i ≡ true) → ((t i : ℕ) → f.credits t i ≡ true)
    → ((t i : ℕ) → f.full t i ≡ g.full t i)
    → f ≡ ports_roused g
all_roused f g takes puts credits full = flags_path f (ports_roused g) takes puts credits full

more : (a b : Bool) → a ≡ true → (a || b) ≡ true
more true b h = refl
more false b h = absurd (cc)

-- more flags raised of a set of which all are
pub raised_still : (old new : List ℕ) (t port : ℕ) → AreRaised old → ((u k : ℕ) → is_raised new u k ≡ raised (is_raised old) t port u k) → AreRaised new
raised_still old new t port all is u k = is u k ∙ more (is_raised old u k) _ (all u k)

pub joined_still : (old new other : List ℕ) (t : ℕ) → AreRaised old → ((u k : ℕ) → is_raised new u k ≡ joined (is_raised old) t (is_raised other) u k)
    → AreRaised new
joined_still old new other t all is u k = is u k ∙ more (is_raised old u k) _ (all u k)

-- What the readers let through is an accepted load, whose scripts can be followed.
use Rattle.std.proofs.Common.{◌≡◌, ℕ, ◌<◌, ◌≤◌, List, [], length, Some, subst, arith, slice_get}
use Rattle.std.proofs.lemmas.Option.{get_or_from_slice_get}
use Rattle.script_lines.specs.declared.line.Line.{Line}
use Rattle.script_lines.specs.declared.line.Line.TheVariants as line
use Rattle.script_lines.specs.Machine.{MachineSpec, IsAcceptedMachine}
use Rattle.script_lines.specs.Lines.{ScriptsSpec, AreAcceptedScripts, IsAcceptedScript, IsAcceptedLine, Fit, operation_count}
use Rattle.one_order.specs.Scripts.{address_of, IsAddressIn, IsFollowable}
use Rattle.one_order.proofs.Followable.{accepted_followable}
use Rattle.one_order.specs.Load.{Load, IsAcceptedLoad, load_of}

-- the script of a processor is as its reader accepts it
read : (l : Load) → IsAcceptedLoad l → (p : ℕ) (lines : List Line) → slice_get l.scripts p ≡ Some lines → IsAcceptedScript (length l.opening) lines
read l ok p lines at = subst (IsAcceptedScript (length l.opening)) (get_or_from_slice_get l.scripts p lines [] at) (ok.scripts.each p)

-- a line's address is below the number of words
address_within : (words : ℕ) (line : Line) (a : ℕ) → IsAcceptedLine words line → address_of line ≡ Some a → a < words
address_within words (line.Load b) a h e = let s : b ≡ a = cc in omega arith
address_within words (line.Store b v) a h e = let s : b ≡ a = cc in omega (arith, h.0)
address_within words (line.Swap b v) a h e = let s : b ≡ a = cc in omega (arith, h.0)
address_within words (line.Cas b x n) a h e = let s : b ≡ a = cc in omega (arith, h.0)
address_within words (line.Add b v) a h e = let s : b ≡ a = cc in omega (arith, h.0)
address_within words (line.And b v) a h e = let s : b ≡ a = cc in omega (arith, h.0)
address_within words (line.Or b v) a h e = let s : b ≡ a = cc in omega (arith, h.0)
address_within words (line.Xor b v) a h e = let s : b ≡ a = cc in omega (arith, h.0)
address_within words (line.Max b v) a h e = let s : b ≡ a = cc in omega (arith, h.0)
address_within words (line.Min b v) a h e = let s : b ≡ a = cc in omega (arith, h.0)
address_within words line.Fence a h e = absurd (cc)
address_within words (line.Spin b v m) a h e = let s : b ≡ a = cc in omega (arith, h.0)

-- the script of a processor of an accepted load can be followed
pub followable : (l : Load) → IsAcceptedLoad l → (p : ℕ) (lines : List Line) → slice_get l.scripts p ≡ Some lines
    → IsFollowable lines × (operation_count lines ≤ 4096)
followable l ok p lines at =
    let h : IsAcceptedScript (length l.opening) lines = read l ok p lines at in
    (accepted_followable (length l.opening) lines h, h.count)

-- and its addresses are below the number of words
pub address_below : (l : Load) → IsAcceptedLoad l → (p a : ℕ) (lines : List Line) → slice_get l.scripts p ≡ Some lines → IsAddressIn lines a → a < length l.opening
address_below l ok p a lines at named = address_within (length l.opening) named.1 a ((read l ok p lines at).each named.0 named.1 named.2) named.3

-- the load of an accepted machine and of accepted scripts that fit it is accepted
pub accepted_load : (m : MachineSpec) (s : ScriptsSpec) → IsAcceptedMachine m → AreAcceptedScripts s → Fit s m → IsAcceptedLoad (load_of m s)
accepted_load m s machine scripts fit = record {
  shape = machine.shape;
  depth = machine.depth;
  tags = machine.tags;
  size = machine.words;
  words = machine.each;
  processors = fit.tiles;
  scripts = subst (λ (k : ℕ). AreAcceptedScripts (record { words = k; lists = s.lists })) fit.words scripts;
}

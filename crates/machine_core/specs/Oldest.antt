-- The arbiter by which the packet goes first whose operation was issued first.
use Rattle.std.specs.Prelude.{ℕ, ◌≤◌, ◌==◌, nat_le, if◌then◌else◌, List, [], ◌∷◌, Option, Some, None, slice_index, All}
use Rattle.std.specs.List.{range_with_len}
use Rattle.torus.specs.Shape.{dims_of}
use Rattle.packet.specs.Flit.{field}
use Rattle.channel_number.specs.Ports.{port_count}
use Rattle.one_order.specs.Observed.{list_at}
use Rattle.one_order.specs.ProcessorRecord.{index_of}
use Rattle.router.specs.Table.{latch_of}
use Rattle.core_laws.specs.Heads.{carries_route}
use Rattle.core_laws.specs.Mirrors.{tile_at}
use Rattle.machine_parts.specs.Machine.{Core}
use Rattle.machine_core.specs.Arbiters.{Arbiter}

-- the processor whose operation a head flit is of: the source of a request, the destination of a reply
abbrev pub processor_told : ℕ → ℕ
processor_told flit = if field flit 57 1 == 0 then field flit 45 6 else field flit 51 6

-- the number of the issue of the operation that holds a tag of a processor
abbrev pub issue_of_tag : Core → ℕ → ℕ → ℕ
issue_of_tag c p tag =
    slice_index (list_at c.book.issues p) (index_of (tile_at c.state p).processor.operations tag)

-- the age by which what stands in a latch is ordered: that number, of a head flit; a flit that follows
-- goes to the output that its input owns, so it competes with none
abbrev pub age_of : Core → Option ℕ → ℕ
age_of c None = 0
age_of c (Some flit) =
    if carries_route flit then issue_of_tag c (processor_told flit) (field flit 41 4) else 0

-- a list sorted by a key, of which items of one key stay in order
abbrev pub inserted : (ℕ → ℕ) → ℕ → List ℕ → List ℕ
inserted key x [] = x ∷ []
inserted key x (y ∷ ys) = if nat_le (key x) (key y) then x ∷ y ∷ ys else y ∷ inserted key x ys

abbrev pub sorted_by : (ℕ → ℕ) → List ℕ → List ℕ
sorted_by key [] = []
sorted_by key (x ∷ xs) = inserted key x (sorted_by key xs)

-- no item of a list has a smaller key than one before it
abbrev pub RisesBy : (ℕ → ℕ) → List ℕ → Type 0
RisesBy key [] = Unit {0}
RisesBy key (x ∷ xs) = All (λ y. key x ≤ key y) xs × RisesBy key xs

-- the inputs of a router by the ages of what stands in their latches, the oldest first
abbrev pub oldest : Arbiter
oldest c t = sorted_by (λ i. age_of c (latch_of (tile_at c.state t).router i))
    (range_with_len 0 (port_count (dims_of c.shape)))

-- The guard of fair rounds: since which round each operation has been out, told by the machines with which
-- the rounds began.
use Rattle.std.specs.Prelude.{ℕ, zero, suc, ◌+◌, ◌-◌, ◌*◌, ◌^◌, ◌==◌, nat_lt, nat_le, min, Bool, if◌then◌else◌}
use Rattle.std.specs.Prelude.{List, [], ◌∷◌, length, replicate, slice_index, Option, Some, None}
use Rattle.torus.specs.Shape.{tiles_of}
use Rattle.torus.specs.declared.step.OpId.{OpId}
use Rattle.tag_table.specs.Tags.{holder_of}
use Rattle.one_order.specs.Observed.{list_at}
use Rattle.core_laws.specs.Mirrors.{tile_at}
use Rattle.machine_parts.specs.Machine.{Core, shown}
use Rattle.fair_rounds.specs.declared.guard.Guard.{Guard}

-- what a guard knows: for how many rounds an operation may be out, how many rounds there were, in how many
-- of them operations were held back, a round before which no operation that is out was out, how many
-- operations each processor has issued, and by processor and tag since which round the operation that holds
-- the tag has been out
abbrev pub Guarding : Type 0
Guarding = Guard

-- a guard of so many rounds, before it is given a machine
abbrev pub guard_of : ℕ → Guarding
guard_of most = record {
  most = most;
  rounds = 0;
  held = 0;
  oldest = 0;
  issued = replicate 64 0;
  since = replicate 64 (replicate 16 0);
}

-- the usual one of a machine: 241 rounds for each tag of each tile
abbrev pub usual_guard : Core → Guarding
usual_guard c = guard_of (241 * tiles_of c.shape * c.tags)

-- one more, of a number that is kept in 64 bits
abbrev pub counted : ℕ → ℕ
counted n = min (n + 1) (2 ^ 64 - 1)

-- how many operations a processor of a machine has issued, and which of them holds a tag
abbrev pub issue_count : Core → ℕ → ℕ
issue_count c p = length (list_at (shown c).issued p)

abbrev pub tag_holder : Core → ℕ → ℕ → Option OpId
tag_holder c p t = holder_of (tile_at c.state p).processor.operations.tags t

-- since when the operation has been out that holds a tag: since this round, where so many were issued
-- before and it is none of these
abbrev pub since_of : Option OpId → ℕ → ℕ → ℕ → ℕ
since_of None issued round since = since
since_of (Some id) issued round since = if nat_le issued id.0 then round else since

-- the first so many of a list, each changed by its place, which is told from a number on
abbrev pub with_first : {A : Type 0} → ℕ → (ℕ → A → A) → ℕ → List A → List A
with_first zero f a xs = xs
with_first (suc n) f a [] = []
with_first (suc n) f a (x ∷ xs) = f a x ∷ with_first n f (a + 1) xs

-- since when the operations of a processor have been out, by tag, once a machine is seen, by how many
-- each had issued before; where it has issued none since, as before
abbrev pub row_since : Core → List ℕ → ℕ → ℕ → List ℕ → List ℕ
row_since c issued round p row =
    if issue_count c p == slice_index issued p then row
    else with_first 16 (λ t since. since_of (tag_holder c p t) (slice_index issued p) round since) 0 row

abbrev pub row_seen : Guarding → Core → ℕ → List ℕ → List ℕ
row_seen g c p row = row_since c g.issued g.rounds p row

-- a guard that has seen a machine
abbrev pub seen : Guarding → Core → Guarding
seen g c = record {
  most = g.most;
  rounds = g.rounds;
  held = g.held;
  oldest = g.oldest;
  issued = with_first (tiles_of c.shape) (λ p n. issue_count c p) 0 g.issued;
  since = with_first (tiles_of c.shape) (row_seen g c) 0 g.since;
}

-- the least of a number and of those of the tags of a processor that are out, of the first so many
abbrev pub least_if_out : Option OpId → ℕ → ℕ → ℕ
least_if_out None since most = most
least_if_out (Some id) since most = min most since

abbrev pub least_of_tags : Core → List (List ℕ) → ℕ → ℕ → ℕ → ℕ
least_of_tags c since p zero most = most
least_of_tags c since p (suc t) most =
    least_if_out (tag_holder c p t) (slice_index (list_at since p) t) (least_of_tags c since p t most)

-- and of the first so many processors
abbrev pub least_of : Core → List (List ℕ) → ℕ → ℕ → ℕ
least_of c since zero most = most
least_of c since (suc p) most = least_of_tags c since p 16 (least_of c since p most)

-- a round before which no operation that is out in a machine was out: that of the last search while it
-- isn't too long ago, and else the first since which one has been out
abbrev pub oldest_in : Guarding → Core → ℕ
oldest_in g c =
    if nat_lt g.most (g.rounds - g.oldest)
    then least_of c (seen g c).since (tiles_of c.shape) g.rounds
    else g.oldest

-- whether operations are held back in the round that begins with a machine
abbrev pub holds : Guarding → Core → Bool
holds g c = nat_lt g.most (g.rounds - oldest_in g c)

-- the guard once it is given a machine
abbrev pub guard_after : Guarding → Core → Guarding
guard_after g c = record {
  most = g.most;
  rounds = counted g.rounds;
  held = if holds g c then counted g.held else g.held;
  oldest = oldest_in g c;
  issued = (seen g c).issued;
  since = (seen g c).since;
}

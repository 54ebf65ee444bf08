-- The tags of a processor. A tag is out while a request that carries it has no answer yet (this
-- project's own format).
use Rattle.std.specs.Prelude.{◌≡◌, ◌≢◌, ◌<◌, ◌≤◌, ◌+◌, ℕ, List, length, Option, None, Some, IsSome, is_none, is_some}
use Rattle.std.specs.Prelude.{position, count_by, slice_index_or}
use Rattle.torus.specs.declared.step.Tag.{Tag}
use Rattle.torus.specs.declared.step.OpId.{OpId}

-- a table of tags is a list: for each tag, by its number, the operation that holds it, or None
-- while it is
-- free; this is the holder of tag t, None too where there is no such tag
abbrev pub holder_of : List (Option OpId) → ℕ → Option OpId
holder_of tags t = slice_index_or tags t None

-- the number of the first free tag, if one is free
abbrev pub free_tag : List (Option OpId) → Option ℕ
free_tag tags = position is_none tags

-- the tag of a number
abbrev pub tag_numbered : Option ℕ → Option Tag
tag_numbered None = None
tag_numbered (Some t) = Some (record { 0 = t })

-- how many tags are out
abbrev pub out_count : List (Option OpId) → ℕ
out_count tags = count_by is_some tags

-- every tag is out
abbrev pub AreAllOut : List (Option OpId) → Type 0
AreAllOut tags = (t : ℕ) → t < length tags → IsSome (holder_of tags t)

-- t is the lowest free tag: it is free, and every tag below it is out
pub record IsLowestFree (tags : List (Option OpId)) (t : ℕ) : Type 0 where
  pub exists : t < length tags
  pub free : holder_of tags t ≡ None
  pub lower_out : (u : ℕ) → u < t → IsSome (holder_of tags u)

-- no operation holds two tags
abbrev pub HoldDistinctTags : List (Option OpId) → Type 0
HoldDistinctTags tags = (s t : ℕ) (id : OpId) → holder_of tags s ≡ Some id
    → holder_of tags t ≡ Some id → s ≡ t

-- the operation holds no tag
abbrev pub HoldsNone : List (Option OpId) → OpId → Type 0
HoldsNone tags id = (t : ℕ) → holder_of tags t ≡ Some id → ⊥

-- the tables of a processor: 1 to 16 tags (this project's own limit)
pub record IsTable (tags : List (Option OpId)) : Type 0 where
  pub some : 1 ≤ length tags
  pub few : length tags ≤ 16

-- a free tag t goes out to an operation, and every other tag stays as it was
pub record IsTaken (old new : List (Option OpId)) (t : ℕ) (id : OpId) : Type 0 where
  pub was_free : holder_of old t ≡ None
  pub held : holder_of new t ≡ Some id
  pub others : (u : ℕ) → u ≢ t → holder_of new u ≡ holder_of old u
  pub one_more : out_count new ≡ out_count old + 1

-- a tag t that an operation held is free again, and every other tag stays as it was
pub record IsGivenBack (old new : List (Option OpId)) (t : ℕ) (id : OpId) : Type 0 where
  pub was_held : holder_of old t ≡ Some id
  pub free : holder_of new t ≡ None
  pub others : (u : ℕ) → u ≢ t → holder_of new u ≡ holder_of old u
  pub one_less : out_count new + 1 ≡ out_count old

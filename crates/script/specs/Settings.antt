-- What the lines of a machine text ask for, and their checks in order (this project's own format).
use Rattle.std.specs.Prelude.{◌≡◌, ℕ, ◌+◌, ◌-◌, ◌≤◌, ◌&&◌, ◌==◌, Bool, true, not, nat_le, nat_lt, List, [], ◌∷◌}
use Rattle.std.specs.Prelude.{length, map, replicate}
use Rattle.std.specs.Prelude.{Option, Some, None, is_some, ok_or, Result, Ok, Err, if◌then◌else◌, IfSome, IsSomeAnd}
use Rattle.std.specs.List.{list_all}
use Rattle.std.specs.Option.{option_or}
use Rattle.torus.specs.declared.fault.Fault.{Fault}
use Rattle.torus.specs.declared.fault.Fault.TheVariants as fault
use Rattle.torus.specs.Refusal.{is_radix, is_dims, are_below}
use Rattle.torus.specs.Shape.{product}
use Rattle.lexer.specs.Numbers.{index_of, value_of}
use Rattle.lexer.specs.Outcome.{◌>>=◌}
use Rattle.script.specs.declared.reason.Keyword.{Keyword}
use Rattle.script.specs.declared.reason.Keyword.TheVariants as key
use Rattle.script.specs.declared.reason.TextReason.{TextReason}
use Rattle.script.specs.declared.reason.TextReason.TheVariants as reason
use Rattle.script.specs.Outcome.{unless}

-- the number that a word spells where one belongs
abbrev pub an_index : List ℕ → Result ℕ Fault
an_index word = ok_or (index_of word) fault.Line

-- the number that the word at a place of its line spells
abbrev pub number_at : ℕ → List ℕ → Result ℕ TextReason
number_at place word = ok_or (index_of word) (reason.NotNumber place)

-- the value that the word at a place of its line spells
abbrev pub value_at : ℕ → List ℕ → Result ℕ TextReason
value_at place word = ok_or (value_of word) (reason.NotNumber place)

-- the one number after a keyword
abbrev pub one_index : Keyword → List (List ℕ) → Result ℕ TextReason
one_index keyword (a ∷ []) = number_at 1 a
one_index keyword [] = Err (reason.NumberCount keyword)
one_index keyword (a ∷ b ∷ more) = Err (reason.NumberCount keyword)

-- the one to three numbers after a keyword
abbrev pub few_indexes : Keyword → List (List ℕ) → Result (List ℕ) TextReason
few_indexes keyword (a ∷ []) = number_at 1 a >>= λ x. Ok (x ∷ [])
few_indexes keyword (a ∷ b ∷ []) = number_at 1 a >>= λ x. number_at 2 b >>= λ y. Ok (x ∷ y ∷ [])
few_indexes keyword (a ∷ b ∷ c ∷ []) =
    number_at 1 a >>= λ x. number_at 2 b >>= λ y. number_at 3 c >>= λ z. Ok (x ∷ y ∷ z ∷ [])
few_indexes keyword [] = Err (reason.NumberCount keyword)
few_indexes keyword (a ∷ b ∷ c ∷ d ∷ more) = Err (reason.NumberCount keyword)

-- the first of these numbers that is no radix; the first of them stands at this place
abbrev pub bad_radix : ℕ → List ℕ → Option TextReason
bad_radix place [] = None
bad_radix place (k ∷ more) =
    if is_radix k then bad_radix (place + 1) more else Some (reason.RadixLimits place)

-- the radix of each dimension, where one number stands for all of them
abbrev pub spread : ℕ → List ℕ → List ℕ
spread dims (k ∷ []) = replicate dims k
spread dims [] = []
spread dims (k ∷ l ∷ more) = k ∷ l ∷ more

-- the last digit of each dimension: where the dateline is if no line says so
abbrev pub last_digits : List ℕ → List ℕ
last_digits radices = map (λ k. k - 1) radices

-- why radices do not go with a number of dimensions: one for all or one for each, and at most 64
-- tiles
abbrev pub uncounted : List ℕ → ℕ → Option TextReason
uncounted radices dims =
    if not (length radices == 1) && not (length radices == dims)
    then Some (reason.RadixCount (length radices) dims)
    else (if nat_le (product (spread dims radices)) 64 then None
    else Some (reason.TooManyTiles (product (spread dims radices))))

-- why a dateline at a place is not below its radix
abbrev pub not_below : ℕ → ℕ → ℕ → Option TextReason
not_below place z k = if nat_lt z k then None else Some (reason.DatelineLimits place k)

-- the first of these datelines that is not below its radix
abbrev pub bad_dateline : ℕ → List ℕ → List ℕ → Option TextReason
bad_dateline place (z ∷ zs) (k ∷ ks) =
    option_or (not_below place z k) (bad_dateline (place + 1) zs ks)
bad_dateline place [] ks = None
bad_dateline place (z ∷ zs) [] = None

-- why datelines do not go with radices: one for each dimension, and below its radix
abbrev pub undated : List ℕ → List ℕ → Option TextReason
undated datelines radices =
    if length datelines == length radices then bad_dateline 1 datelines radices
    else Some (reason.DatelineCount (length datelines) (length radices))

-- datelines go with radices
abbrev pub are_dated : List ℕ → List ℕ → Bool
are_dated datelines radices = (length datelines == length radices) && are_below datelines radices

-- the settings so far; the words of the memory apart
pub record Settings : Type 0 where
  pub radices : Option (List ℕ)
  pub dims : Option ℕ
  pub datelines : Option (List ℕ)
  pub depth : Option ℕ
  pub tags : Option ℕ

-- nothing is set
abbrev pub no_settings : Settings
no_settings = record { radices = None; dims = None; datelines = None; depth = None; tags = None }

-- why radix and dims do not go together, where both are given
abbrev pub apart : Option (List ℕ) → Option ℕ → Option TextReason
apart (Some radices) (Some dims) = uncounted radices dims
apart (Some radices) None = None
apart None dims = None

abbrev pub after_radix : Settings → List ℕ → Result Settings TextReason
after_radix s radices =
    if is_some s.radices then Err (reason.GivenTwice key.Radix)
    else unless (bad_radix 1 radices) (unless (apart (Some radices) s.dims)
    (Ok (record s { radices = Some radices })))

abbrev pub after_dims : Settings → ℕ → Result Settings TextReason
after_dims s dims =
    if is_some s.dims then Err (reason.GivenTwice key.Dims)
    else (if not (is_dims dims) then Err reason.DimsLimits
    else unless (apart s.radices (Some dims)) (Ok (record s { dims = Some dims })))

abbrev pub after_datelines : Settings → List ℕ → Result Settings TextReason
after_datelines s datelines =
    if is_some s.datelines then Err (reason.GivenTwice key.Dateline)
    else (ok_or s.radices (reason.DatelineBefore key.Radix) >>= λ radices.
    ok_or s.dims (reason.DatelineBefore key.Dims) >>= λ dims.
    unless (undated datelines (spread dims radices))
    (Ok (record s { datelines = Some datelines })))

abbrev pub after_depth : Settings → ℕ → Result Settings TextReason
after_depth s depth =
    if is_some s.depth then Err (reason.GivenTwice key.Depth)
    else (if nat_le 1 depth && nat_le depth 8 then Ok (record s { depth = Some depth })
    else Err reason.DepthLimits)

abbrev pub after_tags : Settings → ℕ → Result Settings TextReason
after_tags s tags =
    if is_some s.tags then Err (reason.GivenTwice key.Tags)
    else (if nat_le 1 tags && nat_le tags 16 then Ok (record s { tags = Some tags })
    else Err reason.TagsLimits)

-- what the checks leave true of the settings
pub record AreChecked (s : Settings) : Type 0 where
  pub radices : IfSome s.radices
      (λ radices. (1 ≤ length radices) × (length radices ≤ 3) × (list_all is_radix radices ≡ true))
  pub dims : IfSome s.dims (λ dims. is_dims dims ≡ true)
  pub together : apart s.radices s.dims ≡ None
  pub datelines : IfSome s.datelines
      (λ datelines. IsSomeAnd s.radices
      (λ radices. IsSomeAnd s.dims (λ dims. are_dated datelines (spread dims radices) ≡ true)))
  pub depth : IfSome s.depth (λ depth. (1 ≤ depth) × (depth ≤ 8))
  pub tags : IfSome s.tags (λ tags. (1 ≤ tags) × (tags ≤ 16))

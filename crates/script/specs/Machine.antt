-- The machine text: what each line makes of what the lines before it made, and what the whole text
-- is.
use Rattle.std.specs.Prelude.{ℕ, ◌+◌, ◌^◌, ◌<◌, ◌≤◌, ◌&&◌, ◌==◌, Bool, true, false, not, nat_le, nat_lt, List, []}
use Rattle.std.specs.Prelude.{◌∷◌, length, replicate, slice_index, slice_set, is_some, ok_or, unwrap_or, Result, Ok}
use Rattle.std.specs.Prelude.{Option, Some, None, option_map, Err, if◌then◌else◌}
use Rattle.std.specs.List.{slice_index_or}
use Rattle.torus.specs.Shape.{Shape, IsAccepted}
use Rattle.lexer.specs.Words.{words_of, begins_comment}
use Rattle.lexer.specs.Outcome.{◌>>=◌, then_lines}
use Rattle.lexer.specs.declared.refusal.Refusal.{Refusal}
use Rattle.lexer.specs.declared.fault.LineFault.{LineFault}
use Rattle.script.specs.declared.reason.Keyword.{Keyword}
use Rattle.script.specs.declared.reason.Keyword.TheVariants as key
use Rattle.script.specs.declared.reason.TextReason.{TextReason}
use Rattle.script.specs.declared.reason.TextReason.TheVariants as reason
use Rattle.script_lines.specs.Machine.{MachineSpec}
use Rattle.lexer.specs.Faults.{by_fault}
use Rattle.script.specs.Outcome.{unless}
use Rattle.script.specs.Reasons.{fault_of, setting_named}
use Rattle.script.specs.Settings.{Settings, no_settings, number_at, value_at, one_index, few_indexes, spread, last_digits}
use Rattle.script.specs.Settings.{after_radix, after_dims, after_datelines, after_depth, after_tags}

-- what the lines so far gave: the settings; the opening words by address, none before the number of
-- words is given; and which of them a line has named
pub record Reading : Type 0 where
  pub settings : Settings
  pub opening : List ℕ
  pub named : List Bool

-- nothing is given
abbrev pub nothing_read : Reading
nothing_read = record { settings = no_settings; opening = []; named = [] }

-- the number of words is given once, and all words are 0 at first
abbrev pub after_count : Reading → ℕ → Result Reading TextReason
after_count r words =
    if not (length r.opening == 0) then Err (reason.GivenTwice key.Words)
    else (if nat_le 1 words && nat_le words 65536
    then Ok (record r { opening = replicate words 0; named = replicate words false })
    else Err reason.WordsLimits)

-- the first of the five settings that is not given
abbrev pub missing : Reading → Option Keyword
missing r =
    if not (is_some r.settings.radices) then Some key.Radix
    else (if not (is_some r.settings.dims) then Some key.Dims
    else (if not (is_some r.settings.depth) then Some key.Depth
    else (if not (is_some r.settings.tags) then Some key.Tags
    else (if length r.opening == 0 then Some key.Words
    else None))))

-- an opening word: all settings are given, the address is below the number of words, the value is a
-- word, and no line before named the address
abbrev pub after_init : Reading → ℕ → ℕ → Result Reading TextReason
after_init r address value = unless (option_map reason.InitBefore (missing r))
    (if not (nat_lt address (length r.opening))
    then Err (reason.AddressLimits 1 (length r.opening))
    else (if not (nat_lt value (2 ^ 64)) then Err (reason.ValueLimits 2)
    else (if slice_index_or r.named address false then Err (reason.InitTwice address)
    else Ok (record r {
      opening = slice_set r.opening address value;
      named = slice_set r.named address true;
    }))))

-- the address and the value after the keyword `init`
abbrev pub after_init_values : Reading → List (List ℕ) → Result Reading TextReason
after_init_values r (address ∷ value ∷ []) =
    number_at 1 address >>= λ a. value_at 2 value >>= λ v. after_init r a v
after_init_values r [] = Err (reason.NumberCount key.Init)
after_init_values r (address ∷ []) = Err (reason.NumberCount key.Init)
after_init_values r (address ∷ value ∷ other ∷ more) = Err (reason.NumberCount key.Init)

-- what was read, with these settings, and with its opening words as they were
abbrev pub with_settings : Reading → Settings → Result Reading TextReason
with_settings r s = Ok (record r { settings = s })

-- what a line of a keyword and these words makes of it
abbrev pub after_keyword : Reading → List (List ℕ) → Keyword → Result Reading TextReason
after_keyword r values key.Radix =
    few_indexes key.Radix values >>= after_radix r.settings >>= with_settings r
after_keyword r values key.Dims =
    one_index key.Dims values >>= after_dims r.settings >>= with_settings r
after_keyword r values key.Dateline =
    few_indexes key.Dateline values >>= after_datelines r.settings >>= with_settings r
after_keyword r values key.Depth =
    one_index key.Depth values >>= after_depth r.settings >>= with_settings r
after_keyword r values key.Tags =
    one_index key.Tags values >>= after_tags r.settings >>= with_settings r
after_keyword r values key.Words = one_index key.Words values >>= after_count r
after_keyword r values key.Init = after_init_values r values

-- what the words of a line make of it; a line without words and a comment are skipped
abbrev pub after_words : Reading → List (List ℕ) → Result Reading TextReason
after_words r [] = Ok r
after_words r (keyword ∷ values) =
    if begins_comment keyword then Ok r
    else ok_or (setting_named keyword) reason.UnknownKeyword >>= after_keyword r values

-- the machine of settings that are all given; the datelines are at the last digits if no line says
-- so
abbrev pub machine_with : Reading → Result MachineSpec TextReason
machine_with r =
    ok_or r.settings.radices (reason.Missing key.Radix) >>= λ radices.
    ok_or r.settings.dims (reason.Missing key.Dims) >>= λ dims.
    ok_or r.settings.depth (reason.Missing key.Depth) >>= λ depth.
    ok_or r.settings.tags (reason.Missing key.Tags) >>= λ tags.
    if length r.opening == 0 then Err (reason.Missing key.Words)
    else Ok (record {
      shape = record {
        radices = spread dims radices;
        datelines = unwrap_or r.settings.datelines (last_digits (spread dims radices));
      };
      depth = depth;
      tags = tags;
      opening = r.opening;
    })

-- the machine of these lines, of which the first has this number, after what was read; or the
-- refusal of the first bad line. A setting that is missing shows at the line after the last
abbrev pub machine_from : Reading → ℕ → List (List ℕ) → Result MachineSpec (Refusal TextReason)
machine_from r number [] = then_lines number (machine_with r) Ok
machine_from r number (line ∷ lines) =
    then_lines number (after_words r (words_of line)) (λ next. machine_from next (number + 1) lines)

-- the machine of a text, given as the list of its lines, or where and why it is refused
abbrev pub machine_or_why : List (List ℕ) → Result MachineSpec (Refusal TextReason)
machine_or_why lines = machine_from nothing_read 1 lines

-- the machine of a text, given as the list of its lines, or the fault and the line of its refusal
abbrev pub machine_of : List (List ℕ) → Result MachineSpec LineFault
machine_of lines = by_fault fault_of (machine_or_why lines)

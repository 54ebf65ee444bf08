-- The head of a trace or a log: what each of its lines makes of what the lines before it gave (this
-- project's own formats).
use Rattle.std.specs.Prelude.{ℕ, ◌^◌, ◌&&◌, ◌==◌, Bool, true, false, not, nat_le, nat_lt, List}
use Rattle.std.specs.Prelude.{[], ◌∷◌, Option, Some, None, is_some, Result, Ok, Err, if◌then◌else◌, codes}
use Rattle.std.specs.Str.{bytes_eq}
use Rattle.std.specs.Ordering.{nat_cmp}
use Rattle.std.specs.BTreeMap.{is_at, insert_entry}
use Rattle.std.specs.Map.{lookup}
use Rattle.lexer.specs.Outcome.{◌>>=◌}
use Rattle.trace_lines.specs.declared.reason.HeadKeyword.TheVariants as key
use Rattle.trace_lines.specs.declared.reason.LineReason.{LineReason}
use Rattle.trace_lines.specs.declared.reason.LineReason.TheVariants as reason
use Rattle.trace_lines.specs.Form.{number_at}
use Rattle.trace_lines.specs.Reasons.{unless_refused}

-- what stands at an address in a list of addresses with something each, addresses rising
abbrev pub value_in : {X : Type 0} → List (ℕ × X) → ℕ → Option X
value_in entries address = lookup (is_at (nat_cmp address)) entries

-- such a list with another address
abbrev pub with_value : {X : Type 0} → List (ℕ × X) → ℕ → X → List (ℕ × X)
with_value entries address x = insert_entry nat_cmp entries address x

-- what the lines so far gave: whether the first one came, the number of words of the memory, 0
-- before it is given, and the opening words that `init` lines gave, by address
pub record HeadSpec : Type 0 where
  pub begun : Bool
  pub words : ℕ
  pub inits : List (ℕ × ℕ)

-- nothing is given
abbrev pub no_head : HeadSpec
no_head = record { begun = false; words = 0; inits = [] }

-- the first line is the name of the format and `1`
abbrev pub after_title : HeadSpec → List ℕ → List ℕ → List (List ℕ) → Result HeadSpec LineReason
after_title h name keyword (version ∷ []) =
    if bytes_eq keyword name && bytes_eq version (codes "1")
    then Ok (record h { begun = true }) else Err reason.NoTitle
after_title h name keyword [] = Err reason.NoTitle
after_title h name keyword (version ∷ other ∷ more) = Err reason.NoTitle

-- the number of words is given once, 1 to 2^32
abbrev pub words_read : HeadSpec → ℕ → Result HeadSpec LineReason
words_read h words =
    if not (h.words == 0) then Err reason.WordsTwice
    else (if nat_le 1 words && nat_le words (2 ^ 32) then Ok (record h { words = words })
    else Err reason.WordsLimits)

abbrev pub after_words_line : HeadSpec → List (List ℕ) → Result HeadSpec LineReason
after_words_line h (count ∷ []) = number_at 1 count >>= words_read h
after_words_line h [] = Err (reason.WordCount key.Words)
after_words_line h (count ∷ other ∷ more) = Err (reason.WordCount key.Words)

-- why an opening word is refused: the number of words is not given, an operation came already, the
-- address is not below that number, the value is no word, or a line before named the address
abbrev pub opening_wrong : HeadSpec → Bool → ℕ → ℕ → Option LineReason
opening_wrong h late address value =
    if h.words == 0 then Some reason.WordsFirst
    else (if late then Some reason.InitLate
    else (if not (nat_lt address h.words) then Some (reason.AddressLimits 1 h.words)
    else (if not (nat_lt value (2 ^ 64)) then Some (reason.ValueLimits 2)
    else (if is_some (value_in h.inits address) then Some reason.InitTwice
    else None))))

-- an opening word
abbrev pub init_read : HeadSpec → Bool → ℕ → ℕ → Result HeadSpec LineReason
init_read h late address value = unless_refused (opening_wrong h late address value)
    (Ok (record h { inits = with_value h.inits address value }))

abbrev pub after_init_line : HeadSpec → Bool → List (List ℕ) → Result HeadSpec LineReason
after_init_line h late (address ∷ value ∷ []) =
    number_at 1 address >>= λ a. number_at 2 value >>= λ v. init_read h late a v
after_init_line h late [] = Err (reason.WordCount key.Init)
after_init_line h late (address ∷ []) = Err (reason.WordCount key.Init)
after_init_line h late (address ∷ value ∷ other ∷ more) = Err (reason.WordCount key.Init)

-- the processor of an operation: the number of words is given, and the processor is below 4096
abbrev pub processor_read : HeadSpec → ℕ → Result ℕ LineReason
processor_read h p =
    if h.words == 0 then Err reason.WordsFirst
    else (if nat_lt p 4096 then Ok p else Err reason.ProcessorLimits)

-- what a text lacks that ends here: its first line, or the number of words
abbrev pub head_missing : HeadSpec → Option LineReason
head_missing h =
    if not h.begun then Some reason.TitleMissing
    else (if h.words == 0 then Some reason.WordsMissing
    else None)

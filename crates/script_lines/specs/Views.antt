-- What the program's lists of lines stand for, and counts that go with them.
use Rattle.std.specs.Prelude.{◌≡◌, ℕ, ◌<◌, List, map, length, slice_index}
use Rattle.script_lines.specs.declared.line.Line.{Line}
use Rattle.script_lines.specs.declared.lists.LineList.{LineList}
use Rattle.script_lines.specs.Lines.{AreAcceptedScripts, script_of, operation_count, total_count}

abbrev pub lists_of : {A : Type 0} → List (LineList A) → List (List Line)
lists_of lists = map (λ list. list.lines.items) lists

-- the counts go with the scripts, which are accepted
pub record AreCounted (words : ℕ) (lists : List (List Line)) (counts : List ℕ) (total : ℕ) : Type 0
  where
    pub accepted : AreAcceptedScripts (record { words = words; lists = lists })
    pub room : length counts ≡ length lists
    pub each : (p : ℕ) → p < length lists → slice_index counts p ≡ operation_count (script_of lists p)
    pub all : total ≡ total_count lists

-- How `Scripts` keeps its lists.
use Rattle.script.specs.declared.scripts.Scripts.TheInside.{Inside}
use Rattle.script_lines.specs.Lines.{ScriptsSpec, AreAcceptedScripts}
use Rattle.script_lines.specs.Views.{lists_of}

abbrev pub scripts_of_fields : {A : Type 0} → Inside A → ScriptsSpec
scripts_of_fields s = record { words = s.words; lists = lists_of s.lists.items }

abbrev pub IsScripts : {A : Type 0} → Inside A → Type 0
IsScripts s = AreAcceptedScripts (scripts_of_fields s)

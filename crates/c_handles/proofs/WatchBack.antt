-- The rows of a watch are read back as the watch.
use Rattle.std.proofs.Common.{◌≡◌, ℕ, suc, ◌+◌, List, [], ◌∷◌, ◌++◌, map, drop, refl, sym, ◌∙◌, ap, arith, append_assoc, Some, None, slice_get}
use Rattle.std.specs.Prelude.{Option}
use Rattle.std.specs.List.{flat_map}
use Rattle.std.proofs.lemmas.List.{append-nil}
use Rattle.packet.specs.declared.kinds.Op.{Op}
use Rattle.packet.specs.declared.kinds.Op.TheVariants.{Load, Store, Swap, Cas, Add, And, Or, Xor, Max, Min}
use Rattle.packet.specs.declared.kinds.Operation.{Operation}
use Rattle.packet.specs.declared.kinds.Reply.{Reply}
use Rattle.packet.specs.declared.kinds.Reply.TheVariants.{Ok as Stored, Old}
use Rattle.trace_laws.specs.declared.event.Call.{Call}
use Rattle.trace_watch.specs.declared.state.Effect.{Effect}
use Rattle.trace_watch.specs.declared.state.Glimpse.{Glimpse}
use Rattle.trace_watch.specs.States.{Config}
use Rattle.trace_watch.specs.Watched.{Watched}
use Rattle.machine_record.specs.declared.row.LineRow.{LineRow}
use Rattle.machine_record.specs.Recording.{Recording}
use Rattle.trace_watch.proofs.Sifting.{drop_at}
use Rattle.c_handles.specs.WatchRows.{call_rows, config_rows, effect_rows, glimpse_row, last_rows, numbers_row, operation_row, reply_row}
use Rattle.c_handles.specs.WatchRows.{watch_recording}
use Rattle.c_handles.specs.WatchRows.{watch_rows, word_rows}
use Rattle.c_handles.specs.WatchReading.{Parts, after_row, after_rows, no_parts, watched_in}

-- rows, and then others
pub rows_behind : (p : Parts) (xs ys : List LineRow) → after_rows p (xs ++ ys) ≡ after_rows (after_rows p xs) ys
rows_behind p [] ys = refl
rows_behind p (x ∷ xs) ys = rows_behind (after_row p x) xs ys

-- the row of an operation
operation_read : (p : Parts) (op : Op) (address : ℕ)
    → after_row p (operation_row op address) ≡ record p { operation = record { address = address; op = op } }
operation_read p Load address = refl
operation_read p (Store v) address = refl
operation_read p (Swap v) address = refl
operation_read p (Cas e n) address = refl
operation_read p (Add v) address = refl
operation_read p (And v) address = refl
operation_read p (Or v) address = refl
operation_read p (Xor v) address = refl
operation_read p (Max v) address = refl
operation_read p (Min v) address = refl

-- the row of a reply
reply_read : (p : Parts) (reply : Reply) (newest : ℕ) → after_row p (reply_row reply newest)
    ≡ record p { effects = p.effects ++ record { op = p.operation.op; reply = reply; newest = newest } ∷ [] }
reply_read p Stored newest = refl
reply_read p (Old word) newest = refl

-- an effect, and all of them
abbrev asked : Op → Operation
asked op = record { address = 0; op = op }

abbrev op_left : Operation → List Effect → Operation
op_left o [] = o
op_left o (e ∷ es) = op_left (asked e.op) es

effect_read : (p : Parts) (e : Effect)
    → after_rows p (effect_rows e) ≡ record p { operation = asked e.op; effects = p.effects ++ e ∷ [] }
effect_read p e =
    ap (λ (q : Parts). after_row q (reply_row e.reply e.newest)) (operation_read p e.op 0)
    ∙ reply_read (record p { operation = asked e.op }) e.reply e.newest

effects_read : (p : Parts) (es : List Effect)
    → after_rows p (flat_map effect_rows es) ≡ record p { operation = op_left p.operation es; effects = p.effects ++ es }
effects_read p [] = ap (λ (z : List Effect). record p { effects = z }) (sym (append-nil p.effects))
effects_read p (e ∷ es) =
    rows_behind p (effect_rows e) (flat_map effect_rows es)
    ∙ (ap (λ (q : Parts). after_rows q (flat_map effect_rows es)) (effect_read p e)
    ∙ (effects_read (record p { operation = asked e.op; effects = p.effects ++ e ∷ [] }) es
    ∙ ap (λ (z : List Effect). record p { operation = op_left (asked e.op) es; effects = z }) (append_assoc p.effects (e ∷ []) es)))

-- all glimpses
glimpses_read : (p : Parts) (gs : List Glimpse) → after_rows p (map glimpse_row gs) ≡ record p { seen = p.seen ++ gs }
glimpses_read p [] = ap (λ (z : List Glimpse). record p { seen = z }) (sym (append-nil p.seen))
glimpses_read p (g ∷ gs) =
    glimpses_read (record p { seen = p.seen ++ g ∷ [] }) gs
    ∙ ap (λ (z : List Glimpse). record p { seen = z }) (append_assoc p.seen (g ∷ []) gs)

-- parts between two configurations
abbrev between : Operation → List Config → List (List Config) → List Call → Option ℕ → Parts
between o cs ws calls last =
    record { operation = o; effects = []; seen = []; configs = cs; words = ws; pending = calls; last = last }

-- a configuration, and all of them
config_read : (o : Operation) (cs : List Config) (ws : List (List Config)) (calls : List Call) (last : Option ℕ) (c : Config)
    → after_rows (between o cs ws calls last) (config_rows c) ≡ between (op_left o c.effects) (cs ++ c ∷ []) ws calls last
config_read o cs ws calls last c =
    let end : List LineRow = numbers_row 18 c.word 0 ∷ [] in
    let seen : List LineRow = map glimpse_row c.seen in
    let p : Parts = between o cs ws calls last in
    let q : Parts = record p { operation = op_left o c.effects; effects = c.effects } in
    rows_behind p (flat_map effect_rows c.effects) (seen ++ end)
    ∙ (ap (λ (r : Parts). after_rows r (seen ++ end)) (effects_read p c.effects)
    ∙ (rows_behind q seen end ∙ ap (λ (r : Parts). after_rows r end) (glimpses_read q c.seen)))

abbrev ops_left : Operation → List Config → Operation
ops_left o [] = o
ops_left o (c ∷ cs) = ops_left (op_left o c.effects) cs

configs_read : (o : Operation) (cs : List Config) (ws : List (List Config)) (calls : List Call) (last : Option ℕ) (more : List Config)
    → after_rows (between o cs ws calls last) (flat_map config_rows more) ≡ between (ops_left o more) (cs ++ more) ws calls last
configs_read o cs ws calls last [] = ap (λ (z : List Config). between o z ws calls last) (sym (append-nil cs))
configs_read o cs ws calls last (c ∷ more) =
    rows_behind (between o cs ws calls last) (config_rows c) (flat_map config_rows more)
    ∙ (ap (λ (r : Parts). after_rows r (flat_map config_rows more)) (config_read o cs ws calls last c)
    ∙ (configs_read (op_left o c.effects) (cs ++ c ∷ []) ws calls last more
    ∙ ap (λ (z : List Config). between (ops_left (op_left o c.effects) more) z ws calls last) (append_assoc cs (c ∷ []) more)))

-- a word, and all of them
word_read : (o : Operation) (ws : List (List Config)) (calls : List Call) (last : Option ℕ) (cs : List Config)
    → after_rows (between o [] ws calls last) (word_rows cs) ≡ between (ops_left o cs) [] (ws ++ cs ∷ []) calls last
word_read o ws calls last cs =
    rows_behind (between o [] ws calls last) (flat_map config_rows cs) (numbers_row 19 0 0 ∷ [])
    ∙ ap (λ (r : Parts). after_rows r (numbers_row 19 0 0 ∷ [])) (configs_read o [] ws calls last cs)

abbrev all_left : Operation → List (List Config) → Operation
all_left o [] = o
all_left o (cs ∷ ws) = all_left (ops_left o cs) ws

words_read : (o : Operation) (ws : List (List Config)) (calls : List Call) (last : Option ℕ) (more : List (List Config))
    → after_rows (between o [] ws calls last) (flat_map word_rows more) ≡ between (all_left o more) [] (ws ++ more) calls last
words_read o ws calls last [] = ap (λ (z : List (List Config)). between o [] z calls last) (sym (append-nil ws))
words_read o ws calls last (cs ∷ more) =
    rows_behind (between o [] ws calls last) (word_rows cs) (flat_map word_rows more)
    ∙ (ap (λ (r : Parts). after_rows r (flat_map word_rows more)) (word_read o ws calls last cs)
    ∙ (words_read (ops_left o cs) (ws ++ cs ∷ []) calls last more
    ∙ ap (λ (z : List (List Config)). between (all_left (ops_left o cs) more) [] z calls last) (append_assoc ws (cs ∷ []) more)))

-- an open operation, and all of them
call_read : (o : Operation) (ws : List (List Config)) (calls : List Call) (last : Option ℕ) (call : Call)
    → after_rows (between o [] ws calls last) (call_rows call) ≡ between call.operation [] ws (calls ++ call ∷ []) last
call_read o ws calls last call =
    ap (λ (r : Parts). after_row r (numbers_row 20 call.id 0))
    (operation_read (between o [] ws calls last) call.operation.op call.operation.address)

abbrev call_left : Operation → List Call → Operation
call_left o [] = o
call_left o (call ∷ calls) = call_left call.operation calls

calls_read : (o : Operation) (ws : List (List Config)) (calls : List Call) (last : Option ℕ) (more : List Call)
    → after_rows (between o [] ws calls last) (flat_map call_rows more) ≡ between (call_left o more) [] ws (calls ++ more) last
calls_read o ws calls last [] = ap (λ (z : List Call). between o [] ws z last) (sym (append-nil calls))
calls_read o ws calls last (call ∷ more) =
    rows_behind (between o [] ws calls last) (call_rows call) (flat_map call_rows more)
    ∙ (ap (λ (r : Parts). after_rows r (flat_map call_rows more)) (call_read o ws calls last call)
    ∙ (calls_read call.operation ws (calls ++ call ∷ []) last more
    ∙ ap (λ (z : List Call). between (call_left call.operation more) [] ws z last) (append_assoc calls (call ∷ []) more)))

-- the newest number
last_read : (o : Operation) (ws : List (List Config)) (calls : List Call) (last : Option ℕ)
    → after_rows (between o [] ws calls None) (last_rows last) ≡ between o [] ws calls last
last_read o ws calls None = refl
last_read o ws calls (Some number) = refl

-- all rows of a watch
pub watch_read : (x : Watched) → watched_in (after_rows no_parts (watch_rows x)) ≡ x
watch_read x =
    let o : Operation = asked Load in
    let p : Operation = all_left o x.words in
    let rest : List LineRow = flat_map call_rows x.pending ++ last_rows x.last in
    let words = rows_behind no_parts (flat_map word_rows x.words) rest
    ∙ ap (λ (r : Parts). after_rows r rest) (words_read o [] [] None x.words) in
    let calls = rows_behind (between p [] x.words [] None) (flat_map call_rows x.pending) (last_rows x.last)
    ∙ ap (λ (r : Parts). after_rows r (last_rows x.last)) (calls_read p x.words [] None x.pending) in
    ap watched_in (words ∙ (calls ∙ last_read (call_left p x.pending) x.words x.pending x.last))

-- one record has one watch
pub one_watched : (x y : Watched) → watch_recording x ≡ watch_recording y → x ≡ y
one_watched x y same =
    sym (watch_read x) ∙ (ap (λ (r : Recording). watched_in (after_rows no_parts r.rows)) same ∙ watch_read y)

-- one row is taken, and what is left leads where all that was left did
pub row_taken : (p next : Parts) (rows : List LineRow) (k : ℕ) (row : LineRow) (all : Parts) → slice_get rows k ≡ Some row
    → next ≡ after_row p row → after_rows p (drop k rows) ≡ all → after_rows next (drop (k + 1) rows) ≡ all
row_taken p next rows k row all there taken so_far =
    let e : k + 1 ≡ suc k = omega arith in
    ap (λ (q : Parts). after_rows q (drop (k + 1) rows)) taken
    ∙ (ap (λ (n : ℕ). after_rows (after_row p row) (drop n rows)) e
    ∙ (ap (after_rows p) (sym (drop_at rows k row there)) ∙ so_far))
